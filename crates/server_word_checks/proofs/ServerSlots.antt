-- A slot's tests where server timers may occur: at each kind that the code tells apart, those that the definition has left are the code's; and what the
-- slot's place says of it. Assumes nothing.
use Prim.Native.Nat.{ℕ, ◌≤◌, ◌<◌}
use mathlib.Core.Path.{◌≡◌, refl, sym, ap, ap₂, ◌∙◌}
use mathlib.Core.Logic.{◌≢◌}
use mathlib.Core.Bool
use mathlib.Core.Bool.{Bool, true, false, cond, not, ◌&&◌, and-true}
use mathlib.Core.List.{List}
use native.Mathlib.Nat.{pos_of_ne-zero}
use native.Mathlib.Omega.{arith}
use lib.Dec.{ltb, eqb}
use borrow.Author.Tests.{eqb-true, eqb-false, le-ltb, lt-ltb}
use Rattle.model.specs.declared.Chain.{Chain}
use Rattle.model.specs.declared.Chain.TheVariants.{ByTicks, ByDate, Queue}
use Rattle.model.specs.declared.Mode.TheVariants.{Every, ServerAfter, ServerWhen}
use Rattle.model.specs.Kinds.{kind_at, waits_in}
use Rattle.model.specs.Words.{head_word, kind_of, name_of, interval_of, routine_of}
use Rattle.laws.proofs.ListLaws.{cases, clash}
use Rattle.laws.proofs.KindLaws.{in-none}
use Rattle.table.proofs.KindTests.{ticking-is, dated-is, new_apart}
use Rattle.word_checks.specs.Tested.{new_tested, idle_tested, slot_tested}
use Rattle.word_checks.proofs.SlotTests.{kind-fails, name-fails, routine-fails, new-slot, as-kind, rest, waiting-ticks, waiting-every, waiting-date, idle, idle-low}
use Rattle.server_word_checks.specs.Places.{head_of, place_of}

-- zero just where the last start was by date
pub zero-where : (x : ℕ) (dated : Bool) → Bool.beq (eqb x 0) dated ≡ cond dated (eqb x 0) (ltb 0 x)
zero-where x dated =
    cases (eqb x 0)
    (λ e. at true e (le-ltb 0 x (omega (arith, eqb-true x 0 e))))
    (λ e. at false e (lt-ltb 0 x (pos_of_ne-zero (eqb-false x 0 e))))
  where
    beq : (b d : Bool) → Bool.beq b d ≡ cond d b (not b)
    beq true true = refl
    beq true false = refl
    beq false true = refl
    beq false false = refl

    at : (b : Bool) → eqb x 0 ≡ b → ltb 0 x ≡ not b → Bool.beq (eqb x 0) dated ≡ cond dated (eqb x 0) (ltb 0 x)
    at b e f = rw (e, f) (beq b dated)

-- a kind that is not in a chain is none of those that are
other : (k : Chain) (n m : ℕ) → waits_in k n ≡ false → waits_in k m ≡ true → n ≢ m
other k n m e f g = clash (sym f ∙ ap (waits_in k) (sym g) ∙ e)

-- a kind in no chain has no head word
no-head : (n : ℕ) → ((k : Chain) → waits_in k n ≡ false) → head_of n ≡ 0
no-head n h = rw (h ByTicks, h ByDate, h Queue)

module _ (t : List ℕ) (i : ℕ) where
  abbrev kind : ℕ
  kind = kind_of t i

  abbrev right : Bool
  right = slot_tested true t i

  -- ---- the place that the code gives

  unsound : false ≡ right → 1 ≡ place_of t i
  unfolding place_of
  unsound e = ap (λ (b : Bool). cond b (head_of kind) 1) e

  -- a test that decides gives the place
  placed : (b : Bool) (h : ℕ) → b ≡ right → head_of kind ≡ h → cond b h 1 ≡ place_of t i
  unfolding place_of
  placed b h e f = ap₂ (λ (c : Bool) (n : ℕ). cond c n 1) e (sym f)

  pub new-place : {k : ℕ} → k ≡ kind → k ≤ 1 → cond (new_tested t i k) 0 1 ≡ place_of t i
  new-place {k} f h =
      placed (new_tested t i k) 0 (new-slot true t i f h)
      (no-head kind (λ k. in-none (kind_at kind).chain k (new_apart kind (omega (arith, f, h)))))

  pub no_name : 1 < kind → name_of t i < 1 → 1 ≡ place_of t i
  no_name h n = unsound (name-fails true t i h n)

  pub no-routine : 1 < kind → routine_of t i < 1 → 1 ≡ place_of t i
  no-routine h n = unsound (routine-fails true t i h n)

  -- a kind past the last one
  pub no_kind : 9 < kind → waits_in ByTicks kind ≡ false → waits_in ByDate kind ≡ false → kind ≢ 12 → kind ≢ 13 → 1 ≡ place_of t i
  no_kind h a b c d = unsound (kind-fails true t i (omega (arith, h, other ByTicks kind 10 a refl, other ByDate kind 11 b refl, c, d)))

  module _ (n : 0 < name_of t i) (r : 0 < routine_of t i) where
    pub ticking-place : waits_in ByTicks kind ≡ true → 5 ≡ place_of t i
    ticking-place w = placed true 5 of-kind (rw w)
      where
        of-kind : true ≡ right
        of-kind =
            cases (eqb kind 4) (λ e. waiting-ticks true t i (eqb-true kind 4 e) n r)
            (λ e. cases (eqb kind 6) (λ f. waiting-every true t i (eqb-true kind 6 f) n r)
            (λ f. cases (eqb kind 10) (λ g. sym (as-kind true t i 10 (eqb-true kind 10 g) ∙ rest true t i true n r))
            (λ g. clash (sym w ∙ ticking-is kind ∙ rw (e, f, g)))))

    -- the interval decides
    decides : (a : Bool) → (ltb 0 (name_of t i) && (ltb 0 (routine_of t i) && (a && true))) ≡ a
    decides a = rest true t i (a && true) n r ∙ and-true a

    pub dated-place : waits_in ByTicks kind ≡ false → waits_in ByDate kind ≡ true → cond (eqb (interval_of t i) 0) 6 1 ≡ place_of t i
    dated-place v w = placed (eqb (interval_of t i) 0) 6 of-kind (rw (v, w))
      where
        of-kind : eqb (interval_of t i) 0 ≡ right
        of-kind =
            cases (eqb kind 5) (λ e. waiting-date true t i (eqb-true kind 5 e) n r)
            (λ e. cases (eqb kind 11) (λ f. sym (as-kind true t i 11 (eqb-true kind 11 f) ∙ decides (eqb (interval_of t i) 0)))
            (λ f. clash (sym w ∙ dated-is kind ∙ rw (e, f))))

    pub queued-ticks : kind ≡ 12 → cond (ltb 0 (interval_of t i)) 9 1 ≡ place_of t i
    queued-ticks e = placed (ltb 0 (interval_of t i)) 9 (sym (as-kind true t i 12 e ∙ decides (ltb 0 (interval_of t i)))) (ap head_of e)

    pub queued-date : kind ≡ 13 → cond (eqb (interval_of t i) 0) 9 1 ≡ place_of t i
    queued-date e = placed (eqb (interval_of t i) 0) 9 (sym (as-kind true t i 13 e ∙ decides (eqb (interval_of t i) 0))) (ap head_of e)

    pub idle-low-place : {k : ℕ} → k ≡ kind → 1 < k → k ≤ 3 → cond (idle_tested t i (eqb k 3)) 0 1 ≡ place_of t i
    idle-low-place {k} f a b = placed (idle_tested t i (eqb k 3)) 0 (idle-low true t i f a b n r) head
      where
        head : head_of kind ≡ 0
        head =
            cases (eqb kind 2) (λ e. ap head_of (eqb-true kind 2 e))
            (λ e.
            let three : kind ≡ 3 = omega (arith, f, a, b, eqb-false kind 2 e) in
            ap head_of three)

    -- idle kinds from 7 on
    pub idle-high-place : {k : ℕ} → k ≡ kind → 3 < k → k ≤ 9 → waits_in ByTicks kind ≡ false → waits_in ByDate kind ≡ false
        → cond (idle_tested t i (eqb k 9)) 0 1 ≡ place_of t i
    idle-high-place {k} f a b v w =
        cases (eqb k 9)
        (λ e.
        let nine = sym f ∙ eqb-true k 9 e in
        rw e (placed (idle_tested t i true) 0 (idle true t i ServerWhen nine refl n r) (ap head_of nine)))
        (λ e. rw e (
        cases (eqb k 8)
        (λ d.
        let eight = sym f ∙ eqb-true k 8 d in
        placed (idle_tested t i false) 0 (idle true t i ServerAfter eight refl n r) (ap head_of eight))
        (λ d.
        let seven : kind ≡ 7 =
        omega (arith, a, b, f, eqb-false k 9 e, eqb-false k 8 d, other ByTicks kind 4 v refl, other ByTicks kind 6 v refl, other ByDate kind 5 w refl) in
        placed (idle_tested t i false) 0 (idle true t i Every seven refl n r) (ap head_of seven))))

  -- ---- what a place says

  -- a head word is none of the other numbers
  head-is : (a b c : Bool) → let h : ℕ = cond a 5 (cond b 6 (cond c 9 0)) in
      (h ≢ 1) × ((h ≡ 5 → a ≡ true) × ((h ≡ 6 → b ≡ true) × ((h ≡ 9 → c ≡ true)
      × (h ≢ 5 → h ≢ 6 → h ≢ 9 → (a ≡ false) × ((b ≡ false) × (c ≡ false))))))
  head-is true b c = ((λ e. omega arith), ((λ e. refl), ((λ e. absurd (omega arith)), ((λ e. absurd (omega arith)), (λ e f g. absurd (e refl))))))
  head-is false true c = ((λ e. omega arith), ((λ e. absurd (omega arith)), ((λ e. refl), ((λ e. absurd (omega arith)), (λ e f g. absurd (f refl))))))
  head-is false false true =
      ((λ e. omega arith), ((λ e. absurd (omega arith)), ((λ e. absurd (omega arith)), ((λ e. refl), (λ e f g. absurd (g refl))))))
  head-is false false false =
      ((λ e. omega arith), ((λ e. absurd (omega arith)), ((λ e. absurd (omega arith)), ((λ e. absurd (omega arith)), (λ e f g. (refl, (refl, refl)))))))

  heads : let h = head_of kind in
      (h ≢ 1) × ((h ≡ 5 → waits_in ByTicks kind ≡ true) × ((h ≡ 6 → waits_in ByDate kind ≡ true) × ((h ≡ 9 → waits_in Queue kind ≡ true)
      × (h ≢ 5 → h ≢ 6 → h ≢ 9 → (waits_in ByTicks kind ≡ false) × ((waits_in ByDate kind ≡ false) × (waits_in Queue kind ≡ false))))))
  heads = head-is (waits_in ByTicks kind) (waits_in ByDate kind) (waits_in Queue kind)

  pub place-wrong : place_of t i ≡ 1 → right ≡ false
  unfolding place_of
  place-wrong e = cases right (λ w. absurd (heads.0 (rw w at e))) (λ w. w)

  module _ (h : place_of t i ≢ 1) where
    pub place-right : right ≡ true
    unfolding place_of
    place-right = cases right (λ w. w) (λ w. absurd (h (rw w)))

    place_is : place_of t i ≡ head_of kind
    unfolding place_of
    place_is = ap (λ (b : Bool). cond b (head_of kind) 1) place-right

    pub in-chain : (k : Chain) → place_of t i ≡ head_word k → waits_in k kind ≡ true
    in-chain ByTicks e = heads.1.0 (sym place_is ∙ e)
    in-chain ByDate e = heads.1.1.0 (sym place_is ∙ e)
    in-chain Queue e = heads.1.1.1.0 (sym place_is ∙ e)

    none : ((k : Chain) → place_of t i ≢ head_word k)
        → (waits_in ByTicks kind ≡ false) × ((waits_in ByDate kind ≡ false) × (waits_in Queue kind ≡ false))
    none f = heads.1.1.1.1 (λ e. f ByTicks (place_is ∙ e)) (λ e. f ByDate (place_is ∙ e)) (λ e. f Queue (place_is ∙ e))

    pub in-no-chain : ((k : Chain) → place_of t i ≢ head_word k) → (k : Chain) → waits_in k kind ≡ false
    in-no-chain f ByTicks = (none f).0
    in-no-chain f ByDate = (none f).1.0
    in-no-chain f Queue = (none f).1.1
