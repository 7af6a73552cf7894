-- The counts of a record against the blocks that a pass found: as many blocks as open repeats, each count against its own, and what a repeat or an end
-- makes of them. Assumes nothing.
use Prim.Native.Nat.{ℕ, zero, suc, ◌+◌, ◌-◌, ◌≤◌, ◌<◌}
use mathlib.Core.Path.{◌≡◌, refl, sym, ap, ◌∙◌, subst}
use mathlib.Core.Bool.{Bool, true, false, cond, ◌&&◌, and-true}
use mathlib.Core.List.{List, [], ◌∷◌}
use lib.ListN.{length, get_or, set, replicate, length-append}
use lib.Seq.{length-take-le}
use lib.Dec.{eqb, leb, ltb}
use native.Mathlib.Numerals.{add-one}
use native.Mathlib.Omega.{arith}
use borrow.Author.Tests.{eqb-true, eqb-false, eq-eqb, ne_eqb, ltb-true, ltb-false, leb-true, lt-ltb, le-ltb, le-leb, lt-leb}
use Rattle.calendar.specs.Calendar.{all_of}
use Rattle.model.specs.Lists.{all_from}
use Rattle.laws.proofs.ListLaws.{cases, clash, both}
use Rattle.std.specs.Prelude.{Option, Some, None}
use Rattle.macro_steps.specs.Steps.{times_of, count, kind_at}
use Rattle.macro_check.specs.Passed.{passed}
use Rattle.macro_check.specs.Blocks.{opened, blocks_of, scanned_at}
use Rattle.macro_check.proofs.BlockLaws.{past_end, most-steps}
use Rattle.macro_check.proofs.OpenLaws.{opened-none, open_is, close-is, keep-is, room-to-open, one-to-end}
use Rattle.macro_check.proofs.ScanLaws.{block_at, no-block-at}
use Rattle.macro_record.specs.Record.{runner_of, times_at, count_fits, counts_fit, ready, block_ended}
use Rattle.macro_record.specs.Parts.{fits_block, fit_blocks, readiness_of, Standing}
use Rattle.macro_record.specs.declared.Runner.{Runner}

-- ---- eight tests, one after the other

module _ (p : ℕ → Bool) where
  up-here : (j : ℕ) → j < 8 → all_from p j (8 - j) ≡ (p j && all_from p (j + 1) (8 - (j + 1)))
  up-here j h =
      let e : 8 - j ≡ suc (8 - (j + 1)) = omega arith in
      ap (all_from p j) e ∙ ap (λ (i : ℕ). p j && all_from p i (8 - (j + 1))) (sym (add-one j))

  pub up-fails : (j : ℕ) → j < 8 → p j ≡ false → all_from p j (8 - j) ≡ false
  up-fails j h e = up-here j h ∙ ap (λ (b : Bool). b && all_from p (j + 1) (8 - (j + 1))) e

  pub up-on : (j : ℕ) → j < 8 → p j ≡ true → all_from p j (8 - j) ≡ all_from p (j + 1) (8 - (j + 1))
  up-on j h e = up-here j h ∙ ap (λ (b : Bool). b && all_from p (j + 1) (8 - (j + 1))) e

  pub up-end : (j : ℕ) → 8 ≤ j → all_from p j (8 - j) ≡ true
  up-end j h = let e : 8 - j ≡ 0 = omega arith in ap (all_from p j) e

up_same : (p q : ℕ → Bool) → ((j : ℕ) → p j ≡ q j) → (i n : ℕ) → all_from p i n ≡ all_from q i n
up_same p q f i zero = refl
up_same p q f i (suc n) = (λ k. f i k && up_same p q f (suc i) n k)

-- ---- a count and its block

module _ (ws : List ℕ) (start c : ℕ) where
  pub fits-none : start ≡ 0 → eqb c 0 ≡ fits_block ws start c
  fits-none e = sym (rw (eq-eqb start 0 e) refl)

  pub fits_not : (start ≡ 0 → ⊥) → c < 1 → false ≡ fits_block ws start c
  fits_not n z = sym (rw (ne_eqb start 0 n, lt-leb 1 c z) refl)

  pub fits-within : (start ≡ 0 → ⊥) → 1 ≤ c → leb c (times_at ws (start - 1)) ≡ fits_block ws start c
  fits-within n z = sym (rw (ne_eqb start 0 n, le-leb 1 c z) (and-true (leb c (times_at ws (start - 1)))))

fits-same : (ws os : List ℕ) (c j : ℕ) → fits_block ws (get_or (blocks_of os) j 0) c ≡ count_fits ws os c j
fits-same ws os c j =
    cases (ltb j (length os))
    (λ e.
    let b = block_at os j (ltb-true j (length os) e) in
    let n : eqb (get_or os j 0 + 1) 0 ≡ false = ne_eqb (get_or os j 0 + 1) 0 (λ z. omega arith) in
    let s : get_or os j 0 + 1 - 1 ≡ get_or os j 0 = omega arith in
    rw (e, b, n, s) refl)
    (λ e. rw (e, no-block-at os j (ltb-false j (length os) e)) refl)

fit_same : (ws os counts : List ℕ) → fit_blocks ws (blocks_of os) counts ≡ counts_fit ws os counts
unfolding fit_blocks counts_fit
fit_same ws os counts =
    up_same (λ j. fits_block ws (get_or (blocks_of os) j 0) (get_or counts j 0)) (λ j. count_fits ws os (get_or counts j 0) j)
    (λ j. fits-same ws os (get_or counts j 0) j) 0 8

-- ---- whether a record may be stepped

-- what a test gives says what the test was
nothing-found : {A : Type 0} (x : A) (b : Bool) → None ≡ cond b (Some x) None → b ≡ false
nothing-found x true e = absurd (grind (arith, e))
nothing-found x false e = refl

something-found : {A : Type 0} (x : A) {y : A} (b : Bool) → Some y ≡ cond b (Some x) None → (b ≡ true) × (y ≡ x)
something-found x true e = (refl, grind (arith, e))
something-found x false e = absurd (grind (arith, e))

short_cut : (a b x : Bool) → (a && b) ≡ false → all_of (a ∷ b ∷ x ∷ []) ≡ false
short_cut true b x e = rw e refl
short_cut false b x e = refl

last-test : (a b x : Bool) → (a && b) ≡ true → all_of (a ∷ b ∷ x ∷ []) ≡ x
last-test true b x e = rw e (and-true x)
last-test false b x e = clash (sym e)

module _ (ws : List ℕ) (r : Runner) where
  -- what is found where a record may be stepped, and where it may not
  abbrev found : Bool → Option (List ℕ)
  found b = cond b (Some (blocks_of (opened ws r.place))) None

  -- the pass says no
  pub not-passed : None ≡ scanned_at ws r.place → None ≡ readiness_of ws r
  unfolding ready
  not-passed is =
      let b = nothing-found _ (passed ws && leb r.place (count ws)) is in
      sym (ap found (short_cut (passed ws) (leb r.place (count ws)) (counts_fit ws (opened ws r.place) r.counts) b))

  -- the pass says yes, and the counts decide
  module _ {bs : List ℕ} (is : Some bs ≡ scanned_at ws r.place) where
    by-counts : {f b : Bool} → f ≡ fit_blocks ws bs r.counts → f ≡ b → ready ws r ≡ b
    unfolding ready
    by-counts g h =
        let p = something-found _ (passed ws && leb r.place (count ws)) is in
        last-test (passed ws) (leb r.place (count ws)) (counts_fit ws (opened ws r.place) r.counts) p.0
        ∙ sym (fit_same ws (opened ws r.place) r.counts) ∙ sym (ap (λ (l : List ℕ). fit_blocks ws l r.counts) p.1) ∙ sym g ∙ h

    pub may-step : {f : Bool} → f ≡ fit_blocks ws bs r.counts → f ≡ true → Some bs ≡ readiness_of ws r
    may-step g h = ap Some (something-found _ (passed ws && leb r.place (count ws)) is).1 ∙ sym (ap found (by-counts g h))

    pub may-not : {f : Bool} → f ≡ fit_blocks ws bs r.counts → f ≡ false → None ≡ readiness_of ws r
    may-not g h = sym (ap found (by-counts g h))

  -- what is found says whether a step may be taken
  pub says_not : None ≡ readiness_of ws r → ready ws r ≡ false
  says_not is = nothing-found _ (ready ws r) is

  module _ {bs : List ℕ} (is : Some bs ≡ readiness_of ws r) where
    pub says-ready : ready ws r ≡ true
    says-ready = (something-found _ (ready ws r) is).0

    -- and then the blocks are those that are open
    pub then-standing : Standing ws r bs
    unfolding ready
    then-standing =
        let p = both (passed ws) (all_of (leb r.place (count ws) ∷ counts_fit ws (opened ws r.place) r.counts ∷ [])) says-ready in
        let q = both (leb r.place (count ws)) (all_of (counts_fit ws (opened ws r.place) r.counts ∷ [])) p.1 in
        record {
          pass = p.0;
          few = most-steps ws p.0;
          within = leb-true r.place (count ws) q.0;
          opens = (something-found _ (ready ws r) is).1;
        }

-- ---- how many blocks are open

pub depth_is : (bs os : List ℕ) (d : ℕ) → d ≤ 8 → ((j : ℕ) → j < d → get_or bs j 0 ≡ 0 → ⊥) → (d < 8 → get_or bs d 0 ≡ 0) → length os ≤ 8
    → bs ≡ blocks_of os → d ≡ length os
depth_is bs os d h f g l e =
    cases (ltb d (length os))
    (λ b.
    let i : d < length os = ltb-true d (length os) b in
    let z : get_or os d 0 + 1 ≡ 0 = sym (ap (λ (x : List ℕ). get_or x d 0) e ∙ block_at os d i) ∙ g (omega arith) in
    absurd (omega arith))
    (λ b.
    let i : length os ≤ d = ltb-false d (length os) b in
    cases (ltb (length os) d)
    (λ q.
    let k : length os < d = ltb-true (length os) d q in
    absurd (f (length os) k (ap (λ (x : List ℕ). get_or x (length os) 0) e ∙ no-block-at os (length os) (omega arith))))
    (λ q. let k : d ≤ length os = ltb-false (length os) d q in omega arith))

pub one_further : (bs : List ℕ) (d : ℕ) → ((j : ℕ) → j < d → get_or bs j 0 ≡ 0 → ⊥) → (get_or bs d 0 ≡ 0 → ⊥) → (j : ℕ) → j < d + 1 → get_or bs j 0 ≡ 0 → ⊥
one_further bs d f g j h z =
    cases (eqb j d)
    (λ e. g (sym (ap (λ (i : ℕ). get_or bs i 0) (eqb-true j d e)) ∙ z))
    (λ e. let n : j ≡ d → ⊥ = eqb-false j d e in f j (omega arith) z)

module _ (ws : List ℕ) (pass : passed ws ≡ true) where
  few-next : (i : ℕ) → length (opened ws i) ≤ 8 → length (opened ws (i + 1)) ≤ 8
  few-next i h =
      cases (eqb (kind_at ws i) 5)
      (λ e.
      let k : kind_at ws i ≡ 5 = eqb-true (kind_at ws i) 5 e in
      let r : length (opened ws i) < 8 = room-to-open ws pass i k in
      let n : length (opened ws (i + 1)) ≡ length (opened ws i) + 1 = ap length (open_is ws i k) ∙ length-append (opened ws i) (i ∷ []) in
      omega (arith, n))
      (λ e.
      cases (eqb (kind_at ws i) 6)
      (λ f.
      let n : length (opened ws (i + 1)) ≡ length (opened ws i) - 1 =
      ap length (close-is ws i (eqb-true (kind_at ws i) 6 f)) ∙ length-take-le (length (opened ws i) - 1) (opened ws i) (omega arith) in
      omega (arith, n))
      (λ f.
      let n : length (opened ws (i + 1)) ≡ length (opened ws i) = ap length (keep-is ws i (eqb-false (kind_at ws i) 5 e) (eqb-false (kind_at ws i) 6 f)) in
      omega (arith, n)))

  pub few-open : (i : ℕ) → length (opened ws i) ≤ 8
  few-open zero = let n : length (opened ws 0) ≡ 0 = ap length (opened-none ws) in omega (arith, n)
  few-open (suc i) = subst (λ (j : ℕ). length (opened ws j) ≤ 8) (add-one i) (few-next i (few-open i))

-- ---- an end step

-- the block of the innermost open repeat, and where it begins
pub record Innermost (blocks os : List ℕ) (depth : ℕ) : Type 0 where
  pub last : depth - 1 ≡ length os - 1
  pub start : get_or blocks (depth - 1) 0 ≡ get_or os (depth - 1) 0 + 1

pub innermost : (ws : List ℕ) (r : Runner) (blocks : List ℕ) → Standing ws r blocks → kind_at ws r.place ≡ 6 → (depth : ℕ)
    → depth ≡ length (opened ws r.place) → Innermost blocks (opened ws r.place) depth
innermost ws r blocks s k depth d =
    let os = opened ws r.place in
    let some = one-to-end ws s.pass r.place k in
    record {
      last = omega arith;
      start = ap (λ (l : List ℕ). get_or l (depth - 1) 0) s.opens ∙ block_at os (depth - 1) (omega arith);
    }

pub times-inside : (ws : List ℕ) (i : ℕ) → 0 < times_at ws i → i < count ws
times-inside ws i h =
    cases (ltb i (count ws))
    (λ e. ltb-true i (count ws) e)
    (λ e. let z : times_at ws i ≡ 0 = ap times_of (past_end ws i (ltb-false i (count ws) e)) in absurd (omega arith))

module _ (ws os : List ℕ) (r : Runner) (depth start : ℕ) (d : depth ≡ length os - 1) (s : start ≡ get_or os depth 0 + 1) where
  times-are : times_at ws (start - 1) ≡ times_at ws (get_or os depth 0)
  times-are = let e : start - 1 ≡ get_or os depth 0 = omega arith in ap (times_at ws) e

  pub goes_back : get_or r.counts depth 0 < times_at ws (start - 1)
      → runner_of start (set r.counts depth (get_or r.counts depth 0 + 1)) r.last ≡ block_ended ws os r
  goes_back h =
      let l : get_or r.counts depth 0 < times_at ws (get_or os depth 0) = subst (λ (n : ℕ). get_or r.counts depth 0 < n) times-are h in
      ap (λ (x : ℕ). runner_of x (set r.counts depth (get_or r.counts depth 0 + 1)) r.last) s
      ∙ sym (rw (sym d, lt-ltb (get_or r.counts depth 0) (times_at ws (get_or os depth 0)) l) refl)

  pub goes_on : times_at ws (start - 1) ≤ get_or r.counts depth 0
      → runner_of (r.place + 1) (set r.counts depth 0) r.last ≡ block_ended ws os r
  goes_on h =
      let l : times_at ws (get_or os depth 0) ≤ get_or r.counts depth 0 = subst (λ (n : ℕ). n ≤ get_or r.counts depth 0) times-are h in
      sym (rw (sym d, le-ltb (get_or r.counts depth 0) (times_at ws (get_or os depth 0)) l) refl)

-- what the open repeats' number is at a repeat and at an end
pub ruleset depths = (few-open, room-to-open, one-to-end)
