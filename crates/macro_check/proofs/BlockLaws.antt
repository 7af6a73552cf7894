-- What one step does to the check of those from it on: a step that stands drops out of it, a repeat goes one deeper and an end one up, and any fault
-- makes the whole false. Assumes nothing.
use Prim.Native.Nat.{ℕ, zero, suc, ◌+◌, ◌-◌, ◌*◌, ◌≤◌, ◌<◌}
use mathlib.Core.Path.{◌≡◌, refl, sym, ap, ◌∙◌}
use mathlib.Core.Bool.{Bool, true, false, not, ◌&&◌}
use mathlib.Core.List.{List, [], ◌∷◌}
use lib.ListN.{length, get_or}
use lib.Dec.{eqb, leb, ltb}
use native.Mathlib.Numerals.{add-one}
use native.Mathlib.Omega.{arith}
use borrow.Author.Tests.{eq-eqb, ne_eqb, ltb-true, ltb-false, lt-ltb, le-ltb, leb-true}
use Rattle.calendar.specs.Calendar.{all_of}
use Rattle.model.specs.Lists.{every}
use Rattle.laws.proofs.ListLaws.{cases, both, all-at}
use Rattle.macro_steps.specs.declared.Step.TheVariants.{NoStep}
use Rattle.macro_steps.specs.Steps.{kind_of, count, step_at, kind_at, kinds_from, kinds}
use Rattle.macro_check.specs.Passed.{formed, nested, followed, guarded, fine, whole, passed}
use Rattle.macro_check.specs.Parts.{from}

-- ---- tests in a list

pub fails : (l : List Bool) (k : ℕ) → get_or l k true ≡ false → false ≡ all_of l
fails [] k e = sym e
fails (b ∷ bs) zero e = rw e
fails (true ∷ bs) (suc k) e = fails bs k e
fails (false ∷ bs) (suc k) e = refl

stands : (a F N n f G : Bool) → a ≡ true → N ≡ n → f ≡ true → all_of ((a && F) ∷ N ∷ (f && G) ∷ []) ≡ all_of (F ∷ n ∷ G ∷ [])
stands a F N n f G ea en ef = rw (ea, en, ef)

-- ---- nesting, at each kind of first step

module _ (d k : ℕ) (ks : List ℕ) where
  plain : (k ≡ 5 → ⊥) → (k ≡ 6 → ⊥) → nested d (k ∷ ks) ≡ nested d ks
  unfolding nested
  plain n5 n6 = simp (ne_eqb _ _ n5, ne_eqb _ _ n6)

  opens : k ≡ 5 → d < 8 → nested d (k ∷ ks) ≡ nested (d + 1) ks
  unfolding nested
  opens e h = simp (eq-eqb _ _ e, lt-ltb _ _ h)

  too-deep : k ≡ 5 → 8 ≤ d → nested d (k ∷ ks) ≡ false
  unfolding nested
  too-deep e h = simp (eq-eqb _ _ e, le-ltb _ _ h)

  ends : k ≡ 6 → 0 < d → nested d (k ∷ ks) ≡ nested (d - 1) ks
  unfolding nested
  ends e h = rw e (simp (lt-ltb _ _ h))

  unopened : k ≡ 6 → d ≡ 0 → nested d (k ∷ ks) ≡ false
  unfolding nested
  unopened e h = rw (e, h) refl

  -- ---- the check, at a first step

  on : (e : ℕ) → (k ≡ 0 → ⊥) → followed k ks ≡ true → nested d (k ∷ ks) ≡ nested e ks → fine d (k ∷ ks) ≡ fine e ks
  unfolding guarded
  on e n0 f n =
      stands (formed k) (every formed ks) (nested d (k ∷ ks)) (nested e ks) (followed k ks) (guarded ks) (ap not (ne_eqb k 0 n0)) n f

  no_step : k ≡ 0 → fine d (k ∷ ks) ≡ false
  no_step e = sym (fails (every formed (k ∷ ks) ∷ nested d (k ∷ ks) ∷ guarded (k ∷ ks) ∷ []) 0 (rw e refl))

  not-nested : nested d (k ∷ ks) ≡ false → fine d (k ∷ ks) ≡ false
  not-nested e = sym (fails (every formed (k ∷ ks) ∷ nested d (k ∷ ks) ∷ guarded (k ∷ ks) ∷ []) 1 e)

  not-followed : followed k ks ≡ false → fine d (k ∷ ks) ≡ false
  unfolding guarded
  not-followed e = sym (fails (every formed (k ∷ ks) ∷ nested d (k ∷ ks) ∷ (followed k ks && guarded ks) ∷ []) 2 (ap (λ (b : Bool). b && guarded ks) e))

-- ---- the kinds from a place on

module _ (ws : List ℕ) where
  pub from_cons : (at : ℕ) → at < count ws → from ws at ≡ kind_at ws at ∷ from ws (at + 1)
  from_cons at h =
      let e : count ws - at ≡ suc (count ws - (at + 1)) = omega arith in
      ap (kinds_from ws at) e ∙ ap (λ (i : ℕ). kind_at ws at ∷ kinds_from ws i (count ws - (at + 1))) (sym (add-one at))

  pub from_end : (at : ℕ) → count ws ≤ at → from ws at ≡ []
  from_end at h = let e : count ws - at ≡ 0 = omega arith in ap (kinds_from ws at) e

  pub past_end : (at : ℕ) → count ws ≤ at → step_at ws at ≡ NoStep
  unfolding step_at
  past_end at h = simp (le-ltb _ _ h)

  -- a step is before the end
  pub inside : (at : ℕ) → (kind_at ws at ≡ 0 → ⊥) → at < count ws
  inside at n =
      cases (ltb at (count ws))
      (λ e. ltb-true at (count ws) e)
      (λ e. absurd (n (ap kind_of (past_end at (ltb-false at (count ws) e)))))

  pub from_first : (at : ℕ) → get_or (from ws at) 0 0 ≡ kind_at ws at
  from_first at =
      cases (ltb at (count ws))
      (λ e. ap (λ (l : List ℕ). get_or l 0 0) (from_cons at (ltb-true at (count ws) e)))
      (λ e. ap (λ (l : List ℕ). get_or l 0 0) (from_end at (ltb-false at (count ws) e)) ∙ sym (ap kind_of (past_end at (ltb-false at (count ws) e))))

  module _ (at d : ℕ) (h : at < count ws) where
    pub at_plain : (kind_at ws at ≡ 0 → ⊥) → followed (kind_at ws at) (from ws (at + 1)) ≡ true → (kind_at ws at ≡ 5 → ⊥) → (kind_at ws at ≡ 6 → ⊥)
        → fine d (from ws at) ≡ fine d (from ws (at + 1))
    at_plain n0 f n5 n6 = ap (fine d) (from_cons at h) ∙ on d (kind_at ws at) (from ws (at + 1)) d n0 f (plain d (kind_at ws at) (from ws (at + 1)) n5 n6)

    pub at_open : followed (kind_at ws at) (from ws (at + 1)) ≡ true → kind_at ws at ≡ 5 → d < 8 → fine d (from ws at) ≡ fine (d + 1) (from ws (at + 1))
    at_open f e l =
        ap (fine d) (from_cons at h)
        ∙ on d (kind_at ws at) (from ws (at + 1)) (d + 1) (λ z. omega arith) f (opens d (kind_at ws at) (from ws (at + 1)) e l)

    pub at-deep : kind_at ws at ≡ 5 → 8 ≤ d → fine d (from ws at) ≡ false
    at-deep e l = ap (fine d) (from_cons at h) ∙ not-nested d (kind_at ws at) (from ws (at + 1)) (too-deep d (kind_at ws at) (from ws (at + 1)) e l)

    pub at_none : kind_at ws at ≡ 0 → fine d (from ws at) ≡ false
    at_none e = ap (fine d) (from_cons at h) ∙ no_step d (kind_at ws at) (from ws (at + 1)) e

    pub at-unchecked : followed (kind_at ws at) (from ws (at + 1)) ≡ false → fine d (from ws at) ≡ false
    at-unchecked f = ap (fine d) (from_cons at h) ∙ not-followed d (kind_at ws at) (from ws (at + 1)) f

    end-followed : kind_at ws at ≡ 6 → followed (kind_at ws at) (from ws (at + 1)) ≡ true
    end-followed e = rw e refl

    pub at-end : kind_at ws at ≡ 6 → fine (d + 1) (from ws at) ≡ fine d (from ws (at + 1))
    at-end e =
        ap (fine (d + 1)) (from_cons at h)
        ∙ on (d + 1) (kind_at ws at) (from ws (at + 1)) (d + 1 - 1) (λ z. omega arith) (end-followed e)
        (ends (d + 1) (kind_at ws at) (from ws (at + 1)) e (omega arith))
        ∙ ap (λ (i : ℕ). fine i (from ws (at + 1))) (omega arith)

    pub at-unopened : kind_at ws at ≡ 6 → fine 0 (from ws at) ≡ false
    at-unopened e = ap (fine 0) (from_cons at h) ∙ not-nested 0 (kind_at ws at) (from ws (at + 1)) (unopened 0 (kind_at ws at) (from ws (at + 1)) e refl)

  -- ---- at the macro's end

  none_left : (d : ℕ) → (d ≡ 0 → ⊥) → fine d [] ≡ false
  unfolding nested
  none_left d n = sym (fails (true ∷ eqb d 0 ∷ guarded [] ∷ []) 1 (ne_eqb d 0 n))

  pub open-at-last : (k d : ℕ) → count ws ≤ k → (d ≡ 0 → ⊥) → fine d (from ws k) ≡ false
  open-at-last k d h n = ap (fine d) (from_end k h) ∙ none_left d n

  all-ended : fine 0 [] ≡ true
  unfolding nested guarded
  all-ended = refl

  pub top : (k : ℕ) → k ≤ count ws → (k < count ws → kind_at ws k ≡ 6) → eqb k (count ws) ≡ fine 0 (from ws k)
  top k h f =
      cases (ltb k (count ws))
      (λ e. let l : k < count ws = ltb-true k (count ws) e in ne_eqb k (count ws) (λ z. omega arith) ∙ sym (at-unopened k 0 l (f l)))
      (λ e.
      let l : count ws ≤ k = ltb-false k (count ws) e in
      eq-eqb k (count ws) (omega arith) ∙ sym (ap (fine 0) (from_end k l) ∙ all-ended))

  pub all_kinds : from ws 0 ≡ kinds ws
  all_kinds = let e : count ws - 0 ≡ count ws = omega arith in ap (kinds_from ws 0) e

-- ---- the checker's tests

module _ (ws : List ℕ) where
  pub not-whole : whole ws ≡ false → passed ws ≡ false
  unfolding passed
  not-whole e = rw e refl

  pub whole_is : whole ws ≡ true → passed ws ≡ fine 0 (from ws 0)
  unfolding passed
  whole_is e = rw (e, all_kinds ws) refl

  module _ (p : passed ws ≡ true) where
    pub passed-whole : whole ws ≡ true
    unfolding passed
    passed-whole = (both (whole ws) (fine 0 (kinds ws)) p).0

    passed-fine : fine 0 (from ws 0) ≡ true
    unfolding passed
    passed-fine = ap (fine 0) (all_kinds ws) ∙ (both (whole ws) (fine 0 (kinds ws)) p).1

    abbrev first : List ℕ
    first = from ws 0

    pub passed-nested : nested 0 (from ws 0) ≡ true
    passed-nested = all-at (every formed first ∷ nested 0 first ∷ guarded first ∷ []) passed-fine 1

    pub passed-guarded : guarded (from ws 0) ≡ true
    passed-guarded = all-at (every formed first ∷ nested 0 first ∷ guarded first ∷ []) passed-fine 2

    pub most-steps : count ws ≤ 256
    most-steps = leb-true (count ws) 256 (all-at (eqb (length ws) (5 * count ws) ∷ leb 1 (count ws) ∷ leb (count ws) 256 ∷ []) passed-whole 2)
