-- The search of a library at a place: an entry that is not whole ends it, one of the name is it, and any other is passed over. What is found lies in
-- its library. Assumes nothing.
use Prim.Native.Nat.{ℕ, zero, suc, ◌+◌, ◌-◌, ◌*◌, ◌≤◌, ◌<◌}
use mathlib.Core.Path.{◌≡◌, refl, sym, ap, ◌∙◌, subst}
use mathlib.Core.Bool.{Bool, true, false, cond}
use mathlib.Core.List.{List, [], ◌∷◌}
use lib.ListN.{length, get_or, drop, length-drop}
use lib.Seq.{drop-cons, drop-drop}
use lib.Dec.{eqb, leb}
use native.Mathlib.Numerals.{add-one}
use native.Mathlib.Omega.{arith}
use borrow.Author.Tests.{eq-eqb, ne_eqb, le-leb, lt-leb, leb-true}
use Rattle.macro_library.specs.declared.Stretch.{Stretch}
use Rattle.std.specs.Prelude.{Option, Some, None}
use Rattle.macro_library.specs.declared.Found.{Found}
use Rattle.macro_library.specs.declared.Found.TheVariants.{Own, Shared}
use Rattle.macro_library.specs.Library.{stretch, sought, steps_in, in_shared, in_own, found_in}

-- words that are passed over may be dropped first
skip : (name i k : ℕ) (ws : List ℕ) → sought name i k ws ≡ sought name (i + k) 0 (drop k ws)
unfolding sought
skip name i zero ws = let e : i ≡ i + 0 = omega arith in ap (λ (x : ℕ). sought name x 0 ws) e
skip name i (suc k) [] = refl
skip name i (suc k) (w ∷ ws) = let e : suc i + k ≡ i + suc k = omega arith in skip name (suc i) k ws ∙ ap (λ (x : ℕ). sought name x 0 (drop k ws)) e

too_short : (name i : ℕ) (ws : List ℕ) → length ws < 2 → sought name i 0 ws ≡ None
unfolding sought
too_short name i [] h = refl
too_short name i (w ∷ []) h = refl
too_short name i (w ∷ n ∷ ws) h = absurd (omega arith)

module _ (name i w n : ℕ) (ws : List ℕ) where
  not-whole : length ws < 5 * n → sought name i 0 (w ∷ n ∷ ws) ≡ None
  unfolding sought
  not-whole h = rw (lt-leb (5 * n) (length ws) h)

  whole-named : 5 * n ≤ length ws → w ≡ name → sought name i 0 (w ∷ n ∷ ws) ≡ Some (stretch (i + 2) (5 * n))
  unfolding sought
  whole-named h e = rw (le-leb (5 * n) (length ws) h, eq-eqb w name e)

  whole-other : 5 * n ≤ length ws → (w ≡ name → ⊥) → sought name i 0 (w ∷ n ∷ ws) ≡ sought name (i + 2) (5 * n) ws
  unfolding sought
  whole-other h e = rw (le-leb (5 * n) (length ws) h, ne_eqb w name e)

-- ---- at a place of a library

module _ (name : ℕ) (l : List ℕ) (at : ℕ) where
  pub none_left : length l - at < 2 → sought name at 0 (drop at l) ≡ None
  none_left h = too_short name at (drop at l) (simp length-drop h)

  module _ (h : at + 2 ≤ length l) where
    abbrev n : ℕ
    n = get_or l (at + 1) 0

    head : drop at l ≡ get_or l at 0 ∷ n ∷ drop (at + 2) l
    head =
        let h₀ : at < length l = omega arith in
        let h₁ : at + 1 < length l = omega arith in
        let e : suc (at + 1) ≡ at + 2 = omega arith in
        drop-cons l at 0 h₀
        ∙ ap (λ (i : ℕ). get_or l at 0 ∷ drop i l) (sym (add-one at))
        ∙ ap (λ (m : List ℕ). get_or l at 0 ∷ m) (drop-cons l (at + 1) 0 h₁ ∙ ap (λ (i : ℕ). n ∷ drop i l) e)

    rest : length (drop (at + 2) l) ≡ length l - (at + 2)
    rest = length-drop (at + 2) l

    pub entry-cut : length l - (at + 2) < 5 * n → sought name at 0 (drop at l) ≡ None
    entry-cut g = ap (sought name at 0) head ∙ not-whole name at (get_or l at 0) n (drop (at + 2) l) (omega (arith, rest))

    pub entry_named : 5 * n ≤ length l - (at + 2) → get_or l at 0 ≡ name → sought name at 0 (drop at l) ≡ Some (stretch (at + 2) (5 * n))
    entry_named g e = ap (sought name at 0) head ∙ whole-named name at (get_or l at 0) n (drop (at + 2) l) (omega (arith, rest)) e

    pub entry_other : 5 * n ≤ length l - (at + 2) → (get_or l at 0 ≡ name → ⊥)
        → sought name at 0 (drop at l) ≡ sought name (at + 2 + 5 * n) 0 (drop (at + 2 + 5 * n) l)
    entry_other g e =
        ap (sought name at 0) head ∙ whole-other name at (get_or l at 0) n (drop (at + 2) l) (omega (arith, rest)) e
        ∙ skip name (at + 2) (5 * n) (drop (at + 2) l) ∙ ap (sought name (at + 2 + 5 * n) 0) (drop-drop (5 * n) (at + 2) l)

-- ---- what is found lies in its library

abbrev Within : ℕ → Option Stretch → Type 0
Within l (Some s) = s.start + s.words ≤ l
Within l None = Unit {0}

either : (l : ℕ) (b : Bool) (x y : Option Stretch) → (b ≡ true → Within l x) → Within l y → Within l (cond b x y)
either l true x y f g = f refl
either l false x y f g = g

sought-within : (name i k : ℕ) (ws : List ℕ) → Within (i + length ws) (sought name i k ws)
unfolding sought
sought-within name i zero [] = tt
sought-within name i zero (w ∷ []) = tt
sought-within name i zero (w ∷ n ∷ ws) =
    let e : i + 2 + length ws ≡ i + suc (suc (length ws)) = omega arith in
    either (i + suc (suc (length ws))) (leb (5 * n) (length ws)) _ _
    (λ b.
    let h : 5 * n ≤ length ws = leb-true (5 * n) (length ws) b in
    either (i + suc (suc (length ws))) (eqb w name) _ _ (λ _. omega arith)
    (subst (λ (l : ℕ). Within l (sought name (i + 2) (5 * n) ws)) e (sought-within name (i + 2) (5 * n) ws)))
    tt
sought-within name i (suc k) [] = tt
sought-within name i (suc k) (w ∷ ws) =
    let e : suc i + length ws ≡ i + suc (length ws) = omega arith in
    subst (λ (l : ℕ). Within l (sought name (suc i) k ws)) e (sought-within name (suc i) k ws)

abbrev pub Lies : List ℕ → List ℕ → Option Found → Type 0
Lies own shared (Some (Own s)) = s.start + s.words ≤ length own
Lies own shared (Some (Shared s)) = s.start + s.words ≤ length shared
Lies own shared None = Unit {0}

module _ (own shared : List ℕ) (name : ℕ) where
  in-own : (s t : Option Stretch) → Within (length own) s → Within (length shared) t → Lies own shared (in_own s (in_shared t))
  in-own (Some s) t h g = h
  in-own None (Some s) h g = g
  in-own None None h g = tt

  within : (l : List ℕ) → Within (length l) (sought name 0 0 l)
  within l = let e : 0 + length l ≡ length l = omega arith in subst (λ (n : ℕ). Within n (sought name 0 0 l)) e (sought-within name 0 0 l)

  pub lies : (f : Option Found) → f ≡ found_in own shared name → Lies own shared f
  unfolding found_in
  lies f e = subst (Lies own shared) (sym e) (in-own (sought name 0 0 own) (sought name 0 0 shared) (within own) (within shared))

  pub lies-own : (s : Stretch) (o : Found) (f : Option Found) → f ≡ found_in own shared name → f ≡ Some o → o ≡ Own s → s.start + s.words ≤ length own
  lies-own s o f e is own-is = subst (Lies own shared) (is ∙ ap Some own-is) (lies f e)

  pub lies-shared : (s : Stretch) (o : Found) (f : Option Found) → f ≡ found_in own shared name → f ≡ Some o → o ≡ Shared s
      → s.start + s.words ≤ length shared
  lies-shared s o f e is shared-is = subst (Lies own shared) (is ∙ ap Some shared-is) (lies f e)

  -- ---- which library has it

  pub found-own : (s : Stretch) → steps_in own name ≡ Some s → Some (Own s) ≡ found_in own shared name
  unfolding found_in
  found-own s e = sym (rw e refl)

  pub found-shared : (s : Stretch) → steps_in own name ≡ None → steps_in shared name ≡ Some s → Some (Shared s) ≡ found_in own shared name
  unfolding found_in
  found-shared s e f = sym (rw (e, f) refl)

  pub found_nowhere : steps_in own name ≡ None → steps_in shared name ≡ None → None ≡ found_in own shared name
  unfolding found_in
  found_nowhere e f = sym (rw (e, f) refl)

-- what a stretch lies in is as long as it reaches
pub ruleset lying = (lies-own, lies-shared)
