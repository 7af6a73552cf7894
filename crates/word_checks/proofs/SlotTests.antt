-- A slot's tests, by its kind: at a kind that is known most of the eight compute, and those that are left are the code's. Where they pass they say
-- what the walks need of the slot, and the slot is sound if besides its interval is 1 or more where it waits for ticks. Assumes nothing.
use Prim.Native.Nat.{ℕ, ◌≤◌, ◌<◌}
use mathlib.Core.Path.{◌≡◌, refl, sym, ap, ◌∙◌}
use mathlib.Core.Bool.{Bool, true, false, cond, ◌&&◌, ◌||◌, and-true, and-false}
use mathlib.Core.List.{List, [], ◌∷◌}
use native.Mathlib.Omega.{arith}
use lib.ListN.{get_or}
use lib.Dec.{ltb, eqb}
use borrow.Author.Tests.{eqb-true, eqb-false, ne_eqb, le-ltb, lt-ltb, lt-leb}
use Rattle.model.specs.declared.Chain.TheVariants.{ByTicks, ByDate}
use Rattle.model.specs.declared.Mode.{Mode}
use Rattle.model.specs.declared.Mode.TheVariants.{After, When, Every, ServerAfter, ServerWhen}
use Rattle.model.specs.Kinds.{kind_at, chain_for, waiting_kind, same_chain, waits_in, linked, last_by_ticks}
use Rattle.model.specs.Words.{kind_of, name_of, interval_of, wait_of, routine_of, data_of, next_of, previous_of, server_initiated}
use Rattle.model.specs.Sound.{slot_tests, slot_sound, unlinked, unstarted}
use Rattle.laws.proofs.ListLaws.{cases, clash, or_right, all-at, all_true}
use Rattle.laws.proofs.KindLaws.{in-ticks}
use Rattle.word_checks.specs.Tested.{new_tested, idle_tested, slot_tests_made, slot_tested_as, slot_tested}
use Rattle.word_checks.proofs.BooleanTests.{fails}

-- the kind of a slot that is idle after a start of that mode
abbrev pub idle_kind : Mode → ℕ
idle_kind m = (kind_at (waiting_kind m)).when_stopped

abbrev pub started_by_date : Mode → Bool
started_by_date m = same_chain ByDate (chain_for m)

module _ (server : Bool) (t : List ℕ) (i : ℕ) where
  slot-fails : (k : ℕ) → get_or (slot_tests_made server t i (kind_of t i)) k true ≡ false → false ≡ slot_tested server t i
  unfolding slot_tested
  slot-fails k e = fails (slot_tests_made server t i (kind_of t i)) k e

  pub kind-fails : 13 < kind_of t i → false ≡ slot_tested server t i
  kind-fails h = slot-fails 0 (lt-leb (kind_of t i) 13 h)

  pub server-fails : server ≡ false → 7 < kind_of t i → false ≡ slot_tested server t i
  server-fails n h = slot-fails 7 (rw (le-ltb (kind_of t i) 8 h) n)

  pub name-fails : 1 < kind_of t i → name_of t i < 1 → false ≡ slot_tested server t i
  name-fails h n = slot-fails 2 (rw (ne_eqb (kind_of t i) 0 (λ e. omega arith)) (le-ltb 0 (name_of t i) (omega arith)))

  pub routine-fails : 1 < kind_of t i → routine_of t i < 1 → false ≡ slot_tested server t i
  routine-fails h n = slot-fails 4 (rw (le-ltb (kind_of t i) 2 (omega arith)) (le-ltb 0 (routine_of t i) (omega arith)))

  pub as-kind : (k : ℕ) → kind_of t i ≡ k → slot_tested server t i ≡ slot_tested_as server t i k
  unfolding slot_tested
  as-kind k e = ap (slot_tested_as server t i) e

  -- a slot that is free or was never started: the interval is among the words that `unstarted` tests
  pub new-slot : {k : ℕ} → k ≡ kind_of t i → k ≤ 1 → new_tested t i k ≡ slot_tested server t i
  new-slot {k} f h =
      cases (eqb k 0)
      (λ e. rw e (sym (as-kind 0 (sym f ∙ eqb-true k 0 e) ∙ turned (eqb (name_of t i) 0))))
      (λ e.
      let one : k ≡ 1 = omega (arith, eqb-false k 0 e) in
      rw e (sym (as-kind 1 (sym f ∙ one) ∙ turned (ltb 0 (name_of t i)))))
    where
      ordered : (a p q r : Bool) → (p ≡ true → q ≡ true) → (a && (p && (q && (r && true)))) ≡ (a && (p && r))
      ordered false p q r h = refl
      ordered true false q r h = refl
      ordered true true q r h = rw (h refl) (and-true r)

      turned : (a : Bool) → (a && (unstarted t i && (eqb (interval_of t i) 0 && (unlinked t i && true)))) ≡ (a && (unstarted t i && unlinked t i))
      turned a =
          ordered a (unstarted t i) (eqb (interval_of t i) 0) (unlinked t i)
          (λ z. all-at (eqb (interval_of t i) 0 ∷ eqb (routine_of t i) 0 ∷ eqb (data_of t i) 0 ∷ []) z 0)

  -- name and routine are right: the rest decides
  pub rest : (a : Bool) → 0 < name_of t i → 0 < routine_of t i → (ltb 0 (name_of t i) && (ltb 0 (routine_of t i) && a)) ≡ a
  rest a n r = rw (lt-ltb 0 (name_of t i) n, lt-ltb 0 (routine_of t i) r)

  pub waiting-ticks : kind_of t i ≡ 4 → 0 < name_of t i → 0 < routine_of t i → true ≡ slot_tested server t i
  waiting-ticks e n r = sym (as-kind 4 e ∙ rest true n r)

  pub waiting-every : kind_of t i ≡ 6 → 0 < name_of t i → 0 < routine_of t i → true ≡ slot_tested server t i
  waiting-every e n r = sym (as-kind 6 e ∙ rest true n r)

  pub waiting-date : kind_of t i ≡ 5 → 0 < name_of t i → 0 < routine_of t i → eqb (interval_of t i) 0 ≡ slot_tested server t i
  waiting-date e n r = sym (as-kind 5 e ∙ rest (eqb (interval_of t i) 0 && true) n r ∙ and-true (eqb (interval_of t i) 0))

  -- an idle slot: its links and its interval decide
  pub idle : (m : Mode) → kind_of t i ≡ idle_kind m → (ltb (idle_kind m) 8 || server) ≡ true → 0 < name_of t i → 0 < routine_of t i
      → idle_tested t i (started_by_date m) ≡ slot_tested server t i
  idle m e s n r =
      let interval = interval_tested (started_by_date m) in
      sym (at m e
      ∙ rest (interval && (unlinked t i && ((ltb (idle_kind m) 8 || server) && true))) n r
      ∙ turned interval (unlinked t i) (ltb (idle_kind m) 8 || server) s)
    where
      interval_tested : Bool → Bool
      interval_tested by_date = cond by_date (eqb (interval_of t i) 0) (ltb 0 (interval_of t i))

      at : (m : Mode) → kind_of t i ≡ idle_kind m
          → slot_tested server t i
          ≡ (ltb 0 (name_of t i) && (ltb 0 (routine_of t i)
          && (interval_tested (started_by_date m) && (unlinked t i && ((ltb (idle_kind m) 8 || server) && true)))))
      at After e = as-kind 2 e
      at When e = as-kind 3 e
      at Every e = as-kind 7 e
      at ServerAfter e = as-kind 8 e
      at ServerWhen e = as-kind 9 e

      turned : (a u s : Bool) → s ≡ true → (a && (u && (s && true))) ≡ (u && a)
      turned a true s e = rw e (and-true a)
      turned a false s e = and-false a

  pub idle-low : {k : ℕ} → k ≡ kind_of t i → 1 < k → k ≤ 3 → 0 < name_of t i → 0 < routine_of t i → idle_tested t i (eqb k 3) ≡ slot_tested server t i
  idle-low {k} f a b n r =
      cases (eqb k 3)
      (λ e. rw e (idle When (sym f ∙ eqb-true k 3 e) refl n r))
      (λ e.
      let two : k ≡ 2 = omega (arith, eqb-false k 3 e) in
      rw e (idle After (sym f ∙ two) refl n r))

  -- ---- what the tests say where they pass

  pub record Tested : Type 0 where
    pub no_interval : last_by_ticks (kind_of t i) ≡ false → interval_of t i ≡ 0
    pub alone : linked (kind_of t i) ≡ false → (wait_of t i ≡ 0) × (previous_of t i ≡ 0)

  pub tested : slot_tested server t i ≡ true → Tested
  unfolding slot_tested
  tested e =
      let k = kind_of t i in
      let at = all-at (slot_tests_made server t i k) e in
      let linkless = eqb (wait_of t i) 0 ∷ eqb (next_of t i) 0 ∷ eqb (previous_of t i) 0 ∷ [] in
      record {
        no_interval = λ n. eqb-true (interval_of t i) 0 (rw (not-in-ticks k n, n) at (at 5));
        alone =
            λ n.
            let u : unlinked t i ≡ true = rw n at (at 6) in
            (eqb-true (wait_of t i) 0 (all-at linkless u 0), eqb-true (previous_of t i) 0 (all-at linkless u 2));
      }
    where
      not-in-ticks : (k : ℕ) → last_by_ticks k ≡ false → waits_in ByTicks k ≡ false
      not-in-ticks k n = cases (waits_in ByTicks k) (λ w. clash (sym (in-ticks k w) ∙ n)) (λ w. w)

  -- what is not tested is the interval of a slot that waits for ticks
  pub tested-sound : eqb (server_initiated t) 1 ≡ server → slot_tested server t i ≡ true → (waits_in ByTicks (kind_of t i) ≡ true → 1 ≤ interval_of t i)
      → slot_sound t i ≡ true
  unfolding slot_tested slot_sound
  tested-sound f e h =
      let k = kind_of t i in
      let at = all-at (slot_tests_made server t i k) e in
      let interval : cond (last_by_ticks k) (ltb 0 (interval_of t i)) (eqb (interval_of t i) 0) ≡ true =
      cases (waits_in ByTicks k) (λ w. rw (in-ticks k w) (lt-ltb 0 (interval_of t i) (h w))) (λ w. rw w at (at 5)) in
      all_true (slot_tests t i k) (at 0, (at 1, (at 2, (at 3, (at 4, (interval, (at 6, (rw f (at 7), tt))))))))

  pub sound-tested : eqb (server_initiated t) 1 ≡ server → slot_sound t i ≡ true → slot_tested server t i ≡ true
  unfolding slot_tested slot_sound
  sound-tested f e =
      let k = kind_of t i in
      let at = all-at (slot_tests t i k) e in
      let interval = or_right (waits_in ByTicks k) (cond (last_by_ticks k) (ltb 0 (interval_of t i)) (eqb (interval_of t i) 0)) (at 5) in
      all_true (slot_tests_made server t i k) (at 0, (at 1, (at 2, (at 3, (at 4, (interval, (at 6, (rw f at (at 7), tt))))))))
