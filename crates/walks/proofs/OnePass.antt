-- The pass decides the whole: what is tested is soundness, since the rest follows; each slot takes its part of it away, and after the last slot
-- the walks must stand at 0. Assumes nothing.
use Prim.Native.Nat.{ℕ, suc, ◌+◌, ◌-◌, ◌*◌, ◌≤◌, ◌<◌}
use mathlib.Core.Path.{◌≡◌, refl, sym, ap, ap₂, ◌∙◌, subst}
use mathlib.Core.Logic.{◌≢◌}
use mathlib.Core.Bool.{Bool, true, false, cond, not, ◌&&◌, and-true, and-false}
use mathlib.Core.List.{List, ◌∷◌}
use native.Mathlib.Nat.{pos_of_ne-zero}
use native.Mathlib.Numerals.{add-one}
use native.Mathlib.Omega.{arith}
use lib.ListN.{length}
use lib.Bits.{bit_or}
use lib.Dec.{eqb}
use borrow.Author.Tests.{eqb-true, eqb-false, eq-eqb, ne_eqb}
use Rattle.model.specs.Lists.{all_from, All}
use Rattle.model.specs.declared.Chain.{Chain}
use Rattle.model.specs.declared.Chain.TheVariants.{ByTicks, ByDate, Queue}
use Rattle.model.specs.Kinds.{waits_in}
use Rattle.model.specs.Words.{word, head_word, along, slot_count, seconds, first_ticking, first_dated, first_queued, server_initiated, kind_of, interval_of, next_of}
use Rattle.model.specs.Sound.{header_sound, slot_sound, chain_sound, sound_tests, sound}
use Rattle.laws.proofs.ListLaws.{cases, clash, both, and_both, or_left, or_right, or_else, all-at, all_true, all_up, up_at}
use Rattle.word_checks.specs.Tested.{slot_tested}
use Rattle.word_checks.proofs.BooleanTests.{same, fails, or-both}
use Rattle.word_checks.proofs.HeaderTests.{header-ranges}
use Rattle.word_checks.proofs.SlotTests.{tested-sound, sound-tested}
use Rattle.walks.specs.Walks.{Stand, standing, start, heads_tested, step_tested, step, end_tested, walk_tested, waiting, left_tested}
use Rattle.walks.proofs.KindsApart.{not-both}
use Rattle.walks.proofs.StepTests.{in-ticks, in-queue}
use Rattle.walks.proofs.CountsAddUp.{times}
use Rattle.walks.proofs.NoSlotTwice.{along-first}
use Rattle.walks.proofs.WalkDecidesChain.{waits_sound, walk, walked, met-once}
use Rattle.walks.proofs.UntestedFollows.{Slots, Queued, queued, queue-walk, Apart, Dated, kinds, within, ticks-whole, ticks-tested, dates-whole, dates-tested, interval-low, stands-behind}

-- ---- the whole

module _ (server : Bool) (t : List ℕ) where
  abbrev N : ℕ
  N = slot_count t

  abbrev steps : Chain → ℕ
  steps k = waiting k t 1 N

  abbrev ticked : Bool
  ticked = walk_tested ByTicks t N (steps ByTicks) (start ByTicks t)

  abbrev dated : Bool
  dated = walk_tested ByDate t N (steps ByDate) (start ByDate t)

  abbrev queue : Bool
  queue = walk_tested Queue t N (steps Queue) (start Queue t)

  abbrev tests : Bool
  tests = heads_tested t && left_tested server t N 1 N (start ByTicks t) (start ByDate t) (start Queue t)

  -- a walk that tests everything, from what it decides
  whole : (k : Chain) → chain_sound k t ≡ true → waits_sound k t ≡ true → walk k t N (steps k) (start k t) ≡ true
  whole k c w = walked t k ∙ and_both (chain_sound k t) (waits_sound k t) c w

  -- the head of a chain is of its kinds, and a slot of the table
  head-kind : (k : Chain) → walk k t N (steps k) (start k t) ≡ true → 1 ≤ word t (head_word k) → waits_in k (kind_of t (word t (head_word k))) ≡ true
  head-kind k w h =
      let i = word t (head_word k) in
      let all : All (λ j. (1 ≤ j) × (waits_in k (kind_of t j) ≡ true)) (i ∷ along (next_of t) 0 (next_of t i)) =
      rw (along-first (next_of t) 0 i h) at (kinds server t k (steps k) 1 (start k t) w) in
      all.0.1

  head_in : (k : Chain) → walk k t N (steps k) (start k t) ≡ true → 1 ≤ word t (head_word k) → word t (head_word k) ≤ N
  head_in k w h =
      let i = word t (head_word k) in
      let all : All (λ j. j ≤ N) (i ∷ along (next_of t) 0 (next_of t i)) = rw (along-first (next_of t) 0 i h) at (within server t k (steps k) 1 (start k t) w) in
      all.0

  heads-apart : walk ByTicks t N (steps ByTicks) (start ByTicks t) ≡ true → walk ByDate t N (steps ByDate) (start ByDate t) ≡ true
      → heads_tested t ≡ true
  heads-apart a b =
      cases (eqb (first_ticking t) 0)
      (λ q. or_right (not (eqb (first_ticking t) (first_dated t))) (eqb (first_ticking t) 0) q)
      (λ q.
      or_left (not (eqb (first_ticking t) (first_dated t))) (eqb (first_ticking t) 0)
      (ap not (ne_eqb (first_ticking t) (first_dated t)
      (λ e.
      let low = pos_of_ne-zero (eqb-false (first_ticking t) 0 q) in
      let is-dated : waits_in ByDate (kind_of t (first_ticking t)) ≡ true =
      subst (λ (v : ℕ). waits_in ByDate (kind_of t v) ≡ true) (sym e) (head-kind ByDate b (omega (arith, low, e))) in
      clash (sym is-dated ∙ not-both ByTicks ByDate refl (kind_of t (first_ticking t)) (head-kind ByTicks a low))))))

  -- every slot of a chain's kinds is met
  abbrev Met : Chain → Type 0
  Met k = (j : ℕ) → 1 ≤ j → j ≤ N → waits_in k (kind_of t j) ≡ true → 0 < times j (along (next_of t) N (word t (head_word k)))

  met : (k : Chain) → chain_sound k t ≡ true → Met k
  met k c j a b e = omega (arith, met-once k t c j a b e)

  tests-from : eqb (server_initiated t) 1 ≡ server → sound t ≡ true → tests ≡ true
  unfolding sound left_tested
  tests-from f e =
      let at = all-at (sound_tests t) e in
      let a = whole ByTicks (at 2) (at 5) in
      let b = whole ByDate (at 3) (at 6) in
      let c = whole Queue (at 4) (at 7) in
      and_both (heads_tested t) (all_from (slot_tested server t) 1 N && (ticked && (dated && queue))) (heads-apart a b)
      (and_both (all_from (slot_tested server t) 1 N) (ticked && (dated && queue))
      (all_up (slot_tested server t) 1 N (λ j p q. sound-tested server t j f (up_at (slot_sound t) 1 N (at 1) j p q)))
      (and_both ticked (dated && queue) (ticks-tested server t (steps ByTicks) (start ByTicks t) a)
      (and_both dated queue (dates-tested server t (steps ByDate) (start ByDate t) refl b) (queue-walk server t (steps Queue) (start Queue t) ∙ c))))

  tests-to : eqb (server_initiated t) 1 ≡ server → tests ≡ true → header_sound t ≡ true → sound t ≡ true
  unfolding sound left_tested
  tests-to f e h =
      let p = both (heads_tested t) (all_from (slot_tested server t) 1 N && (ticked && (dated && queue))) e in
      let q = both (all_from (slot_tested server t) 1 N) (ticked && (dated && queue)) p.1 in
      let r = both ticked (dated && queue) q.1 in
      let s = both dated queue r.1 in
      let slots : Slots server t = λ j a b. up_at (slot_tested server t) 1 N q.0 j a (omega arith) in
      let line = sym (queue-walk server t (steps Queue) (start Queue t)) ∙ s.1 in
      let w = both (chain_sound Queue t) (waits_sound Queue t) (sym (walked t Queue) ∙ line) in
      let waits : Queued server t = queued server t (steps Queue) N line (met Queue w.0) in
      let ticks =
      ticks-whole server t (steps ByTicks) (start ByTicks t) slots waits
      (record { head = λ z. refl; kind = λ z. absurd (omega (arith, z)) }) r.0 in
      let u = both (chain_sound ByTicks t) (waits_sound ByTicks t) (sym (walked t ByTicks) ∙ ticks) in
      let apart : Apart server t =
      record {
        ticking = λ j a b k. stands-behind server t ByTicks (steps ByTicks) N (first_ticking t) 0 ticks j (met ByTicks u.0 j a b k);
        heads = λ z. heads-zero p.0 z;
      } in
      let first : Dated server t (start ByDate t) =
      record { head = λ z. refl; kind = λ z. absurd (omega (arith, z)); date = omega arith } in
      let dates = dates-whole server t (steps ByDate) (start ByDate t) slots waits apart first s.0 in
      let v = both (chain_sound ByDate t) (waits_sound ByDate t) (sym (walked t ByDate) ∙ dates) in
      let sounds : all_from (slot_sound t) 1 N ≡ true =
      all_up (slot_sound t) 1 N
      (λ j a b.
      let high : j ≤ N = omega arith in
      tested-sound server t j f (slots j a high)
      (λ k. interval-low server t (steps ByTicks) N (start ByTicks t) ticks j (met ByTicks u.0 j a high k))) in
      all_true (sound_tests t) (h, (sounds, (u.0, (v.0, (w.0, (u.1, (v.1, (w.1, tt))))))))
    where
      heads-zero : heads_tested t ≡ true → first_ticking t ≡ first_dated t → first_ticking t ≡ 0
      heads-zero e z =
          eqb-true (first_ticking t) 0
          (or_else (not (eqb (first_ticking t) (first_dated t))) (eqb (first_ticking t) 0) e (ap not (eq-eqb (first_ticking t) (first_dated t) z)))

  tests-decide : header_sound t ≡ true → eqb (server_initiated t) 1 ≡ server → sound t ≡ tests
  tests-decide h f = same (sound t) tests (tests-from f) (λ e. tests-to f e h)

  after-heads : (b : Bool) → header_sound t ≡ true → eqb (server_initiated t) 1 ≡ server → heads_tested t ≡ b
      → sound t ≡ (b && left_tested server t N 1 N (start ByTicks t) (start ByDate t) (start Queue t))
  after-heads b h f e =
      tests-decide h f ∙ ap (λ (b : Bool). b && left_tested server t N 1 N (start ByTicks t) (start ByDate t) (start Queue t)) e

-- the first slot of a chain, if there is one, is a slot of the table and of the chain's kinds
chain-whole : (k : Chain) (t : List ℕ) → sound t ≡ true → (chain_sound k t ≡ true) × (waits_sound k t ≡ true)
unfolding sound
chain-whole ByTicks t e = (all-at (sound_tests t) e 2, all-at (sound_tests t) e 5)
chain-whole ByDate t e = (all-at (sound_tests t) e 3, all-at (sound_tests t) e 6)
chain-whole Queue t e = (all-at (sound_tests t) e 4, all-at (sound_tests t) e 7)

pub first_slot : (k : Chain) (t : List ℕ) → sound t ≡ true → 1 ≤ word t (head_word k)
    → (word t (head_word k) ≤ slot_count t) × (waits_in k (kind_of t (word t (head_word k))) ≡ true)
first_slot k t e h =
    let c = chain-whole k t e in
    let w = whole true t k c.0 c.1 in
    (head_in true t k w h, head-kind true t k w h)

-- ---- a test before the pass fails

pub header-false : (t : List ℕ) → header_sound t ≡ false → false ≡ sound t
unfolding sound
header-false t e = fails (sound_tests t) 0 e

pub heads-false : (t : List ℕ) → header_sound t ≡ true → heads_tested t ≡ false → false ≡ sound t
heads-false t h e = sym (after-heads (eqb (server_initiated t) 1) t false h refl e)

-- ---- one slot of the pass

module _ (server : Bool) (t : List ℕ) (n : ℕ) (x y z : Stand) where
  rest : Bool → ℕ → ℕ → ℕ → ℕ → ℕ → Bool
  rest s i m c d e =
      (s && all_from (slot_tested server t) i m) && (walk_tested ByTicks t n c x && (walk_tested ByDate t n d y && walk_tested Queue t n e z))

  -- the steps to pay for: one more where slot i stands in the chain
  abbrev paid : Chain → ℕ → ℕ → Bool → ℕ
  paid k i m u = cond u (suc (waiting k t (suc i) m)) (waiting k t (suc i) m)

  abbrev ahead : ℕ → ℕ → Chain → ℕ
  ahead i m k = paid k i m (waits_in k (kind_of t i))

  opened : (i m : ℕ)
      → left_tested server t n i (suc m) x y z ≡ rest (slot_tested server t i) (suc i) m (ahead i m ByTicks) (ahead i m ByDate) (ahead i m Queue)
  unfolding left_tested waiting rest
  opened i m = refl

  slot-false : (i m : ℕ) → slot_tested server t i ≡ false → left_tested server t n i (suc m) x y z ≡ false
  unfolding rest
  slot-false i m h =
      opened i m
      ∙ ap (λ (s : Bool). rest s (suc i) m (ahead i m ByTicks) (ahead i m ByDate) (ahead i m Queue)) h

  -- the slot is right: the steps are left
  at-kind : (i m : ℕ) (u v w : Bool) → slot_tested server t i ≡ true → waits_in ByTicks (kind_of t i) ≡ u → waits_in ByDate (kind_of t i) ≡ v
      → waits_in Queue (kind_of t i) ≡ w
      → left_tested server t n i (suc m) x y z
      ≡ (all_from (slot_tested server t) (suc i) m
      && (walk_tested ByTicks t n (paid ByTicks i m u) x && (walk_tested ByDate t n (paid ByDate i m v) y && walk_tested Queue t n (paid Queue i m w) z)))
  unfolding rest
  at-kind i m u v w h f g k =
      opened i m
      ∙ ap (λ (s : Bool). rest s (suc i) m (ahead i m ByTicks) (ahead i m ByDate) (ahead i m Queue)) h
      ∙ ap₂ (λ (u v : Bool). rest true (suc i) m (paid ByTicks i m u) (paid ByDate i m v) (ahead i m Queue)) f g
      ∙ ap (λ (w : Bool). rest true (suc i) m (paid ByTicks i m u) (paid ByDate i m v) (paid Queue i m w)) k

  abbrev before : ℕ → ℕ → Bool
  before i m = all_from (slot_tested server t) (suc i) m

  abbrev walks_on : Chain → ℕ → ℕ → Stand → Bool
  walks_on k i m s = walk_tested k t n (waiting k t (suc i) m) s

  tick : (i m : ℕ) (r : Bool) → slot_tested server t i ≡ true → waits_in ByTicks (kind_of t i) ≡ true → step_tested ByTicks t n x ≡ r
      → left_tested server t n i (suc m) x y z
      ≡ (before i m && ((r && walks_on ByTicks i m (step ByTicks t x)) && (walks_on ByDate i m y && walks_on Queue i m z)))
  unfolding walk_tested
  tick i m r h f g =
      at-kind i m true false false h f (not-both ByTicks ByDate refl (kind_of t i) f) (not-both ByTicks Queue refl (kind_of t i) f)
      ∙ ap (λ (b : Bool). before i m && ((b && walks_on ByTicks i m (step ByTicks t x)) && (walks_on ByDate i m y && walks_on Queue i m z))) g

  date : (i m : ℕ) (r : Bool) → slot_tested server t i ≡ true → waits_in ByDate (kind_of t i) ≡ true → step_tested ByDate t n y ≡ r
      → left_tested server t n i (suc m) x y z
      ≡ (before i m && (walks_on ByTicks i m x && ((r && walks_on ByDate i m (step ByDate t y)) && walks_on Queue i m z)))
  unfolding walk_tested
  date i m r h f g =
      at-kind i m false true false h (not-both ByDate ByTicks refl (kind_of t i) f) f (not-both ByDate Queue refl (kind_of t i) f)
      ∙ ap (λ (b : Bool). before i m && (walks_on ByTicks i m x && ((b && walks_on ByDate i m (step ByDate t y)) && walks_on Queue i m z))) g

  queued-slot : (i m : ℕ) (r : Bool) → slot_tested server t i ≡ true → waits_in Queue (kind_of t i) ≡ true → step_tested Queue t n z ≡ r
      → left_tested server t n i (suc m) x y z
      ≡ (before i m && (walks_on ByTicks i m x && (walks_on ByDate i m y && (r && walks_on Queue i m (step Queue t z)))))
  unfolding walk_tested
  queued-slot i m r h f g =
      at-kind i m false false true h (not-both Queue ByTicks refl (kind_of t i) f) (not-both Queue ByDate refl (kind_of t i) f) f
      ∙ ap (λ (b : Bool). before i m && (walks_on ByTicks i m x && (walks_on ByDate i m y && (b && walks_on Queue i m (step Queue t z))))) g

  ended : (i : ℕ) → left_tested server t n i 0 x y z ≡ (eqb x.slot 0 && (end_tested ByDate y && eqb z.slot 0))
  unfolding left_tested waiting walk_tested
  ended i = refl

-- ---- the loop: before slot i of n, where the walks stand at x, y and z

pub record Passing (server : Bool) (t : List ℕ) (n i : ℕ) (x y z : Stand) : Type 0 where
  pub low : 1 ≤ i
  pub high : i ≤ n + 1
  pub few : n ≤ 255
  pub long : 8 * n + 10 ≤ length t
  pub ticks : x.reached < 4294967296
  pub left : sound t ≡ left_tested server t n i (n + 1 - i) x y z

pub begin : (server : Bool) (t : List ℕ) → header_sound t ≡ true → eqb (server_initiated t) 1 ≡ server → heads_tested t ≡ true
    → Passing server t (slot_count t) 1 (standing (first_ticking t) 0 0) (standing (first_dated t) 0 (seconds t + 1)) (standing (first_queued t) 0 0)
begin server t e f apart =
    let r = header-ranges t e in
    record {
      low = omega arith;
      high = omega arith;
      few = omega arith;
      long = omega arith;
      ticks = omega arith;
      left =
          after-heads server t true e f apart
          ∙ ap₂
          (λ (m d : ℕ). left_tested server t (slot_count t) 1 m (standing (first_ticking t) 0 0) (standing (first_dated t) 0 d) (standing (first_queued t) 0 0))
          (let z : slot_count t ≡ slot_count t + 1 - 1 = omega arith in z) (sym (add-one (seconds t)));
    }

module _ {server : Bool} {t : List ℕ} {n i : ℕ} {x y z : Stand} (p : Passing server t n i x y z) where
  -- the walks along the interval chain and the queue end together
  at-end : n < i → sound t ≡ (eqb (bit_or x.slot z.slot) 0 && end_tested ByDate y)
  at-end h =
      p.left ∙ ap (λ (m : ℕ). left_tested server t n i m x y z) (let e : n + 1 - i ≡ 0 = omega arith in e) ∙ ended server t n x y z i
      ∙ turned (eqb x.slot 0) (end_tested ByDate y) (eqb z.slot 0)
      ∙ ap (λ (b : Bool). b && end_tested ByDate y) (sym (or-both x.slot z.slot))
    where
      turned : (a d b : Bool) → (a && (d && b)) ≡ ((a && b) && d)
      turned false d b = refl
      turned true true b = sym (and-true b)
      turned true false b = sym (and-false b)

  pub open-walk : n < i → bit_or x.slot z.slot ≢ 0 → false ≡ sound t
  open-walk h e = sym (at-end h ∙ ap (λ (b : Bool). b && end_tested ByDate y) (ne_eqb (bit_or x.slot z.slot) 0 e))

  pub last-date : n < i → bit_or x.slot z.slot ≡ 0 → end_tested ByDate y ≡ sound t
  last-date h e = sym (at-end h ∙ ap (λ (b : Bool). b && end_tested ByDate y) (eq-eqb (bit_or x.slot z.slot) 0 e))

  module _ (within : i ≤ n) where
    abbrev more : ℕ
    more = n + 1 - (i + 1)

    here : sound t ≡ left_tested server t n i (suc more) x y z
    here = p.left ∙ ap (λ (m : ℕ). left_tested server t n i m x y z) (let e : n + 1 - i ≡ suc (n + 1 - (i + 1)) = omega arith in e)

    pub inside : 8 * i + 10 ≤ length t
    inside = omega (arith, p.long)

    pub fewer : n + 1 - (i + 1) < n + 1 - i
    fewer = omega arith

    -- one slot on
    on : (u v w : Stand) → u.reached < 4294967296 → sound t ≡ left_tested server t n (suc i) more u v w → Passing server t n (i + 1) u v w
    on u v w h e =
        record {
          low = omega arith;
          high = omega arith;
          few = p.few;
          long = p.long;
          ticks = h;
          left = e ∙ ap (λ (j : ℕ). left_tested server t n j more u v w) (sym (add-one i));
        }

    abbrev later : Bool
    later = all_from (slot_tested server t) (suc i) more

    abbrev on-walk : Chain → Stand → Bool
    on-walk k s = walk_tested k t n (waiting k t (suc i) more) s

    pub slot-fails : slot_tested server t i ≡ false → false ≡ sound t
    slot-fails h = sym (here ∙ slot-false server t n x y z i more h)

    pub pass-other : slot_tested server t i ≡ true → waits_in ByTicks (kind_of t i) ≡ false → waits_in ByDate (kind_of t i) ≡ false
        → waits_in Queue (kind_of t i) ≡ false → Passing server t n (i + 1) x y z
    unfolding left_tested
    pass-other h f g k = on x y z p.ticks (here ∙ at-kind server t n x y z i more false false false h f g k)

    pub tick-fails : slot_tested server t i ≡ true → waits_in ByTicks (kind_of t i) ≡ true → step_tested ByTicks t n x ≡ false → false ≡ sound t
    tick-fails h f g = sym (here ∙ tick server t n x y z i more false h f g ∙ and-false later)

    pub pass-tick : slot_tested server t i ≡ true → waits_in ByTicks (kind_of t i) ≡ true → step_tested ByTicks t n x ≡ true
        → interval_of t x.slot < 4294967296 → Passing server t n (i + 1) (step ByTicks t x) y z
    unfolding left_tested
    pass-tick h f g fits =
        let s = in-ticks t n x g in
        on (step ByTicks t x) y z (omega arith) (here ∙ tick server t n x y z i more true h f g)

    pub date-fails : slot_tested server t i ≡ true → waits_in ByDate (kind_of t i) ≡ true → step_tested ByDate t n y ≡ false → false ≡ sound t
    date-fails h f g =
        sym (here ∙ date server t n x y z i more false h f g
        ∙ ap (λ (b : Bool). later && b) (and-false (on-walk ByTicks x))
        ∙ and-false later)

    pub pass-date : slot_tested server t i ≡ true → waits_in ByDate (kind_of t i) ≡ true → step_tested ByDate t n y ≡ true
        → Passing server t n (i + 1) x (step ByDate t y) z
    unfolding left_tested
    pass-date h f g = on x (step ByDate t y) z p.ticks (here ∙ date server t n x y z i more true h f g)

    pub queue-fails : slot_tested server t i ≡ true → waits_in Queue (kind_of t i) ≡ true → step_tested Queue t n z ≡ false → false ≡ sound t
    queue-fails h f g =
        sym (here ∙ queued-slot server t n x y z i more false h f g
        ∙ ap (λ (b : Bool). later && (on-walk ByTicks x && b)) (and-false (on-walk ByDate y))
        ∙ ap (λ (b : Bool). later && b) (and-false (on-walk ByTicks x))
        ∙ and-false later)

    pub pass-queue : slot_tested server t i ≡ true → waits_in Queue (kind_of t i) ≡ true → step_tested Queue t n z ≡ true
        → Passing server t n (i + 1) x y (standing (next_of t z.slot) z.slot 0)
    unfolding left_tested
    pass-queue h f g =
        on x y (standing (next_of t z.slot) z.slot 0) p.ticks
        (here ∙ queued-slot server t n x y z i more true h f g
        ∙ ap (λ (d : ℕ). left_tested server t n (suc i) more x y (standing (next_of t z.slot) z.slot d)) (in-queue t n z g).none)
