-- A record that fits a passed macro, its place within it and every count fitting, fits it after each step: the repeat that an end goes back to was
-- opened at its place, so the same repeats are open after it as at its end. Assumes nothing.
use Prim.Native.Nat.{ℕ, zero, suc, ◌+◌, ◌-◌, ◌≤◌, ◌<◌}
use mathlib.Core.Path.{◌≡◌, refl, sym, ap, ◌∙◌, subst}
use mathlib.Core.Bool.{Bool, true, false, cond}
use mathlib.Core.List.{List, [], ◌∷◌, ◌++◌}
use lib.ListN.{length, get_or, set, take, replicate, length-append, length-set, get_or-append}
use lib.Seq.{take_all, take-take, take-append-le, get_or-take, get_or-append_seam, get_or-set_same, get_or-set_other, length-take-le}
use lib.Dec.{eqb, leb, ltb}
use native.Mathlib.Numerals.{add-one}
use native.Mathlib.Omega.{arith}
use borrow.Author.Tests.{eqb-true, eqb-false, ltb-true, ltb-false, leb-true, eq-eqb, le-leb, lt-ltb, le-ltb}
use Rattle.calendar.specs.Calendar.{all_of}
use Rattle.laws.proofs.ListLaws.{cases, all-at, all_true, all_up, up_at}
use Rattle.macro_steps.specs.declared.Step.{Step}
use Rattle.macro_steps.specs.declared.Step.TheVariants.{Arm, Cancel, Wait, Check, Repeat, End, Sign, NoStep}
use Rattle.macro_steps.specs.Steps.{kind_of, times_of, bare, with_one, step_of, count, step_at, kind_at}
use Rattle.macro_check.specs.Passed.{nested, passed}
use Rattle.macro_check.specs.Blocks.{opened}
use Rattle.macro_check.proofs.BlockLaws.{from_end, inside}
use Rattle.macro_check.proofs.OpenLaws.{nested-at, room-to-open, one-to-end, opened-none, open_is, close-is, keep-is}
use Rattle.macro_record.specs.Record.{fresh, times_at, count_fits, counts_fit, ready, onward, ended, called, waited, checked, repeated, block_ended, moved}
use Rattle.macro_record.specs.declared.Runner.{Runner}
use Rattle.macro_record.proofs.CountLaws.{times-inside, few-open as at-most-eight}

-- ---- a repeat repeats once at least

abbrev Low : Step → Type 0
Low a = kind_of a ≡ 5 → 1 ≤ times_of a

either : (P : Step → Type 0) (b : Bool) (x y : Step) → (b ≡ true → P x) → (b ≡ false → P y) → P (cond b x y)
either P true x y f g = f refl
either P false x y f g = g refl

low-bare : (k : ℕ) → Low (bare k)
unfolding bare
low-bare k =
    either Low (eqb k 4) _ _ (λ _ z. absurd (omega arith))
    (λ _. either Low (eqb k 6) _ _ (λ _ z. absurd (omega arith)) (λ _. either Low (eqb k 7) _ _ (λ _ z. absurd (omega arith)) (λ _ z. absurd (omega arith))))

low-one : (k a : ℕ) → Low (with_one k a)
unfolding with_one
low-one k a =
    either Low (eqb k 2) _ _ (λ _ z. absurd (omega arith))
    (λ _. either Low (eqb k 3) _ _ (λ _ z. absurd (omega arith))
    (λ _. either Low (eqb k 5) _ _
    (λ _. either Low (all_of (leb 1 a ∷ leb a 100 ∷ [])) _ _ (λ e _. leb-true 1 a (all-at (leb 1 a ∷ leb a 100 ∷ []) e 0)) (λ _ z. absurd (omega arith)))
    (λ _. either Low (eqb a 0) _ _ (λ _. low-bare k) (λ _ z. absurd (omega arith)))))

low_step : (k a b c d : ℕ) → Low (step_of k a b c d)
unfolding step_of
low_step k a b c d =
    either Low (eqb k 1) _ _ (λ _ z. absurd (omega arith))
    (λ _. either Low (all_of (eqb b 0 ∷ eqb c 0 ∷ eqb d 0 ∷ [])) _ _ (λ _. low-one k a) (λ _ z. absurd (omega arith)))

low-at : (ws : List ℕ) (i : ℕ) → Low (step_at ws i)
unfolding step_at
low-at ws i = either Low (ltb i (count ws)) _ _ (λ _. low_step _ _ _ _ _) (λ _ z. absurd (omega arith))

-- ---- each open repeat was opened at its place

Stacked : List ℕ → List ℕ → Type 0
Stacked ws os = (j : ℕ) → j < length os → opened ws (get_or os j 0 + 1) ≡ take (j + 1) os

module _ (ws : List ℕ) where
  pushed : (os : List ℕ) (p : ℕ) → Stacked ws os → opened ws (p + 1) ≡ os ++ p ∷ [] → Stacked ws (os ++ p ∷ [])
  unfolding Stacked
  pushed os p s e j h =
      cases (ltb j (length os))
      (λ f.
      let l : j < length os = ltb-true j (length os) f in
      ap (λ (i : ℕ). opened ws (i + 1)) (get_or-append os (p ∷ []) 0 j l) ∙ s j l ∙ sym (take-append-le (j + 1) os (p ∷ []) (omega arith)))
      (λ f.
      let l : length os ≤ j = ltb-false j (length os) f in
      let n : length (os ++ p ∷ []) ≡ length os + 1 = length-append os (p ∷ []) in
      let is : j ≡ length os = omega (arith, n) in
      ap (λ (i : ℕ). opened ws (get_or (os ++ p ∷ []) i 0 + 1)) is ∙ ap (λ (i : ℕ). opened ws (i + 1)) (get_or-append_seam os p [] 0) ∙ e
      ∙ sym (take_all (j + 1) (os ++ p ∷ []) (omega (arith, n))))

  popped : (os : List ℕ) (n : ℕ) → n ≤ length os → Stacked ws os → Stacked ws (take n os)
  unfolding Stacked
  popped os n h s j l =
      let d : length (take n os) ≡ n = length-take-le n os h in
      let m : j < n = omega (arith, d) in
      ap (λ (i : ℕ). opened ws (i + 1)) (get_or-take n os j 0 m) ∙ s j (omega arith) ∙ sym (take-take (j + 1) n os (omega arith))

  none_open : Stacked ws []
  unfolding Stacked
  none_open j h = absurd (omega arith)

  -- ---- the repeats open after a step

  module _ (p : ℕ) where
    next-stacked : Stacked ws (opened ws p) → Stacked ws (opened ws (p + 1))
    next-stacked s =
        cases (eqb (kind_at ws p) 5)
        (λ e. let q = open_is ws p (eqb-true _ 5 e) in subst (λ (os : List ℕ). Stacked ws os) (sym q) (pushed (opened ws p) p s q))
        (λ e.
        cases (eqb (kind_at ws p) 6)
        (λ f.
        subst (λ (os : List ℕ). Stacked ws os) (sym (close-is ws p (eqb-true _ 6 f))) (popped (opened ws p) (length (opened ws p) - 1) (omega arith) s))
        (λ f. subst (λ (os : List ℕ). Stacked ws os) (sym (keep-is ws p (eqb-false _ 5 e) (eqb-false _ 6 f))) s))

  stacked : (p : ℕ) → Stacked ws (opened ws p)
  stacked zero = subst (λ (os : List ℕ). Stacked ws os) (sym (opened-none ws)) none_open
  stacked (suc p) = subst (λ (i : ℕ). Stacked ws (opened ws i)) (add-one p) (next-stacked p (stacked p))

  back_is : (os : List ℕ) → Stacked ws os → 0 < length os → opened ws (get_or os (length os - 1) 0 + 1) ≡ os
  unfolding Stacked
  back_is os s h = s (length os - 1) (omega arith) ∙ take_all (length os - 1 + 1) os (omega arith)

-- ---- every count fits the repeats that are open

pub record Counted (ws os cs : List ℕ) : Type 0 where
  pub room : length cs ≡ 8
  pub inner : (j : ℕ) → j < length os → (1 ≤ get_or cs j 0) × (get_or cs j 0 ≤ times_at ws (get_or os j 0))
  pub outer : (j : ℕ) → length os ≤ j → get_or cs j 0 ≡ 0

past : (l : List ℕ) (j : ℕ) → length l ≤ j → get_or l j 0 ≡ 0
past [] j h = refl
past (x ∷ xs) zero h = absurd (omega arith)
past (x ∷ xs) (suc j) h = past xs j (omega arith)

zero-at : (n j : ℕ) → ◌≡◌ {A = ℕ} (get_or (replicate n 0) j 0) 0
zero-at zero j = refl
zero-at (suc n) zero = refl
zero-at (suc n) (suc j) = zero-at n j

module _ {ws os cs : List ℕ} (k : Counted ws os cs) where
  few-open : length os ≤ 8
  few-open =
      cases (ltb 8 (length os))
      (λ e.
      let h : 8 < length os = ltb-true 8 (length os) e in
      let z : get_or cs 8 0 ≡ 0 = past cs 8 (omega (arith, k.room)) in
      absurd (omega (arith, (k.inner 8 h).0)))
      (λ e. ltb-false 8 (length os) e)

  fits-at : (j : ℕ) → count_fits ws os (get_or cs j 0) j ≡ true
  fits-at j =
      cases (ltb j (length os))
      (λ e.
      let l : j < length os = ltb-true j (length os) e in
      rw e
      (all_true (leb 1 (get_or cs j 0) ∷ leb (get_or cs j 0) (times_at ws (get_or os j 0)) ∷ []) (le-leb _ _ (k.inner j l).0, (le-leb _ _ (k.inner j l).1, tt))))
      (λ e. rw e (eq-eqb _ _ (k.outer j (ltb-false j (length os) e))))

  all_fit : counts_fit ws os cs ≡ true
  unfolding counts_fit
  all_fit = all_up (λ j. count_fits ws os (get_or cs j 0) j) 0 8 (λ j a b. fits-at j)

  -- a repeat opens at place p
  counted-open : (p : ℕ) → length os < 8 → 1 ≤ times_at ws p → Counted ws (os ++ p ∷ []) (set cs (length os) 1)
  counted-open p h t =
      let n : length (os ++ p ∷ []) ≡ length os + 1 = length-append os (p ∷ []) in
      record {
        room = length-set cs (length os) 1 ∙ k.room;
        inner = λ j l.
            cases (eqb j (length os))
            (λ e.
            subst (λ (i : ℕ). (1 ≤ get_or (set cs (length os) 1) i 0) × (get_or (set cs (length os) 1) i 0 ≤ times_at ws (get_or (os ++ p ∷ []) i 0)))
            (sym (eqb-true j (length os) e))
            (rw (get_or-set_same cs (length os) 1 0 (omega (arith, k.room)), get_or-append_seam os p [] 0) (omega arith, t)))
            (λ e.
            let ne : j ≡ length os → ⊥ = eqb-false j (length os) e in
            let m : j < length os = omega (arith, n) in
            rw (get_or-set_other cs (length os) j 1 0 ne, get_or-append os (p ∷ []) 0 j m) (k.inner j m));
        outer = λ j l.
            let ne : j ≡ length os → ⊥ = λ z. omega (arith, n) in get_or-set_other cs (length os) j 1 0 ne ∙ k.outer j (omega (arith, n));
      }

  -- an end counts one more
  counted-more : (i c : ℕ) → i < length os → 1 ≤ c → c ≤ times_at ws (get_or os i 0) → Counted ws os (set cs i c)
  counted-more i c h low high =
      record {
        room = length-set cs i c ∙ k.room;
        inner = λ j l.
            cases (eqb j i)
            (λ e.
            subst (λ (x : ℕ). (1 ≤ get_or (set cs i c) x 0) × (get_or (set cs i c) x 0 ≤ times_at ws (get_or os x 0))) (sym (eqb-true j i e))
            (rw (get_or-set_same cs i c 0 (omega (arith, k.room, few-open))) (low, high)))
            (λ e. let ne : j ≡ i → ⊥ = eqb-false j i e in rw (get_or-set_other cs i j c 0 ne) (k.inner j l));
        outer = λ j l. let ne : j ≡ i → ⊥ = λ z. omega arith in get_or-set_other cs i j c 0 ne ∙ k.outer j l;
      }

  -- an end closes the innermost repeat
  counted-close : 0 < length os → Counted ws (take (length os - 1) os) (set cs (length os - 1) 0)
  counted-close h =
      let n : length (take (length os - 1) os) ≡ length os - 1 = length-take-le (length os - 1) os (omega arith) in
      record {
        room = length-set cs (length os - 1) 0 ∙ k.room;
        inner = λ j l.
            let m : j < length os - 1 = omega (arith, n) in
            let ne : j ≡ length os - 1 → ⊥ = λ z. omega arith in
            rw (get_or-set_other cs (length os - 1) j 0 0 ne, get_or-take (length os - 1) os j 0 m) (k.inner j (omega arith));
        outer = λ j l.
            cases (eqb j (length os - 1))
            (λ e.
            ap (λ (x : ℕ). get_or (set cs (length os - 1) 0) x 0) (eqb-true j (length os - 1) e)
            ∙ get_or-set_same cs (length os - 1) 0 0 (omega (arith, k.room, few-open)))
            (λ e.
            let ne : j ≡ length os - 1 → ⊥ = eqb-false j (length os - 1) e in
            get_or-set_other cs (length os - 1) j 0 0 ne ∙ k.outer j (omega (arith, n)));
      }

counted_none : (ws : List ℕ) → Counted ws [] (replicate 8 0)
counted_none ws = record { room = refl; inner = λ j l. absurd (omega arith); outer = λ j l. zero-at 8 j }

-- eight counts that fit, each by its test
module _ (ws os cs : List ℕ) (fit : counts_fit ws os cs ≡ true) (few : length os ≤ 8) (eight : length cs ≡ 8) where
  test_at : (j : ℕ) → j < 8 → count_fits ws os (get_or cs j 0) j ≡ true
  unfolding counts_fit
  test_at j h = up_at (λ j. count_fits ws os (get_or cs j 0) j) 0 8 fit j (omega arith) h

  fits-inside : (j : ℕ) → j < length os → (1 ≤ get_or cs j 0) × (get_or cs j 0 ≤ times_at ws (get_or os j 0))
  fits-inside j h =
      let tests : List Bool = leb 1 (get_or cs j 0) ∷ leb (get_or cs j 0) (times_at ws (get_or os j 0)) ∷ [] in
      let t : all_of tests ≡ true = rw (lt-ltb j (length os) h) at (test_at j (omega arith)) in
      (leb-true _ _ (all-at tests t 0), leb-true _ _ (all-at tests t 1))

  fits-outside : (j : ℕ) → length os ≤ j → get_or cs j 0 ≡ 0
  fits-outside j h =
      cases (ltb j 8)
      (λ e. eqb-true _ 0 (rw (le-ltb j (length os) h) at (test_at j (ltb-true j 8 e))))
      (λ e. let l : 8 ≤ j = ltb-false j 8 e in past cs j (omega (arith, eight)))

  counted-fit : Counted ws os cs
  counted-fit = record { room = eight; inner = fits-inside; outer = fits-outside }

-- ---- a record that fits, and its steps

pub record Fit (ws : List ℕ) (p : Runner) : Type 0 where
  pub within : p.place ≤ count ws
  pub counted : Counted ws (opened ws p.place) p.counts

empty : (os : List ℕ) → length os ≡ 0 → os ≡ []
empty [] e = refl
empty (o ∷ os) e = absurd (omega arith)

module _ (ws : List ℕ) (pass : passed ws ≡ true) where
  pub ready-fit : (p : Runner) → Fit ws p → ready ws p ≡ true
  unfolding ready
  ready-fit p f = all_true (passed ws ∷ leb p.place (count ws) ∷ counts_fit ws (opened ws p.place) p.counts ∷ [])
      (pass, (le-leb _ _ f.within, (all_fit f.counted, tt)))

  -- and one of eight counts that is ready fits
  pub fit-ready : (p : Runner) → ready ws p ≡ true → length p.counts ≡ 8 → Fit ws p
  unfolding ready
  fit-ready p e n =
      let tests : List Bool = passed ws ∷ leb p.place (count ws) ∷ counts_fit ws (opened ws p.place) p.counts ∷ [] in
      record {
        within = leb-true _ _ (all-at tests e 1);
        counted = counted-fit ws (opened ws p.place) p.counts (all-at tests e 2) (at-most-eight ws pass p.place) n;
      }

  none-at-end : opened ws (count ws) ≡ []
  unfolding nested
  none-at-end =
      empty (opened ws (count ws))
      (eqb-true _ 0
      (sym (ap (nested (length (opened ws (count ws)))) (from_end ws (count ws) (omega arith))) ∙ nested-at ws pass (count ws) (omega arith)))

  fit-end : (p : Runner) → Fit ws (ended ws p)
  fit-end p =
      record { within = omega arith; counted = subst (λ (os : List ℕ). Counted ws os (replicate 8 0)) (sym none-at-end) (counted_none ws) }

  pub fit-fresh : Fit ws fresh
  fit-fresh = record { within = omega arith; counted = subst (λ (os : List ℕ). Counted ws os (replicate 8 0)) (sym (opened-none ws)) (counted_none ws) }

  module _ (p : Runner) (f : Fit ws p) where
    -- a step that is no repeat and no end
    fit_on : (kind_at ws p.place ≡ 0 → ⊥) → (kind_at ws p.place ≡ 5 → ⊥) → (kind_at ws p.place ≡ 6 → ⊥) → (s : ℕ) → Fit ws (called p s)
    fit_on n0 n5 n6 s =
        record {
          within = let h : p.place < count ws = inside ws p.place n0 in omega arith;
          counted = subst (λ (os : List ℕ). Counted ws os p.counts) (sym (keep-is ws p.place n5 n6)) f.counted;
        }

    fit-repeat : kind_at ws p.place ≡ 5 → Fit ws (repeated (opened ws p.place) p)
    fit-repeat e =
        record {
          within = let h : p.place < count ws = inside ws p.place (λ z. omega arith) in omega arith;
          counted = subst (λ (os : List ℕ). Counted ws os (set p.counts (length (opened ws p.place)) 1)) (sym (open_is ws p.place e))
              (counted-open f.counted p.place (room-to-open ws pass p.place e) (low-at ws p.place e));
        }

    abbrev os : List ℕ
    os = opened ws p.place

    abbrev last : ℕ
    last = length os - 1

    abbrev start : ℕ
    start = get_or os last 0

    fit-back : 0 < length os → get_or p.counts last 0 < times_at ws start
        → Fit ws (record { place = start + 1; counts = set p.counts last (get_or p.counts last 0 + 1); last = p.last })
    fit-back h l =
        record {
          within = let i : start < count ws = times-inside ws start (omega arith) in omega arith;
          counted = subst (λ (x : List ℕ). Counted ws x (set p.counts last (get_or p.counts last 0 + 1))) (sym (back_is ws os (stacked ws p.place) h))
              (counted-more f.counted last (get_or p.counts last 0 + 1) (omega arith) (omega arith) (omega arith));
        }

    fit-close : kind_at ws p.place ≡ 6 → 0 < length os → Fit ws (record { place = p.place + 1; counts = set p.counts last 0; last = p.last })
    fit-close e h =
        record {
          within = let i : p.place < count ws = inside ws p.place (λ z. omega arith) in omega arith;
          counted = subst (λ (x : List ℕ). Counted ws x (set p.counts last 0)) (sym (close-is ws p.place e)) (counted-close f.counted h);
        }

    fit-block : kind_at ws p.place ≡ 6 → Fit ws (block_ended ws os p)
    fit-block e =
        let h : 0 < length os = one-to-end ws pass p.place e in
        cases (ltb (get_or p.counts last 0) (times_at ws start))
        (λ b. rw b (fit-back h (ltb-true (get_or p.counts last 0) (times_at ws start) b)))
        (λ b. rw b (fit-close e h))

    -- a wait goes on, stays or stops; a check goes on or stops
    fit-wait : Fit ws (onward p) → (s n : ℕ) → Fit ws (waited ws p s n)
    fit-wait g s n = cases (eqb s 0) (λ e. rw e (cases (eqb n 0) (λ d. rw d g) (λ d. rw d f))) (λ e. rw e (fit-end p))

    fit-check : Fit ws (onward p) → Fit ws (checked ws p)
    fit-check g = cases (eqb p.last 0) (λ e. rw e g) (λ e. rw e (fit-end p))

    pub kept : (status number : ℕ) (a : Step) → step_at ws p.place ≡ a → Fit ws (moved ws p status number a)
    kept status number (Arm i n x u) e = let k = ap kind_of e in fit_on (λ z. omega (arith, k)) (λ z. omega (arith, k)) (λ z. omega (arith, k)) status
    kept status number (Cancel i) e = let k = ap kind_of e in fit_on (λ z. omega (arith, k)) (λ z. omega (arith, k)) (λ z. omega (arith, k)) status
    kept status number (Wait i) e =
        let k = ap kind_of e in
        fit-wait (fit_on (λ z. omega (arith, k)) (λ z. omega (arith, k)) (λ z. omega (arith, k)) p.last) status number
    kept status number Check e = let k = ap kind_of e in fit-check (fit_on (λ z. omega (arith, k)) (λ z. omega (arith, k)) (λ z. omega (arith, k)) p.last)
    kept status number (Repeat n) e = fit-repeat (ap kind_of e)
    kept status number End e = fit-block (ap kind_of e)
    kept status number Sign e = fit-end p
    kept status number NoStep e = f
