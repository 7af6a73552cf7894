-- The outcome of a call from its status: where no rule applies it is what the call does, where one does it is that refusal. Assumes nothing.
use mathlib.Core.Path.{◌≡◌, refl, sym, ap, ◌∙◌}
use Prim.Native.Nat.{ℕ}
use mathlib.Core.Bool.{Bool, true, false, cond}
use mathlib.Core.List.{List, [], ◌∷◌, ◌++◌}
use lib.Dec.{eqb}
use borrow.Author.Tests.{eqb-true, eqb-false, eq-eqb, ne_eqb}
use Rattle.model.specs.declared.Status.{Status}
use Rattle.model.specs.Status.{number_of, first_of}
use Rattle.model.specs.Calls.{Call, lay_out, create, ident, cancel, delete, fire_after, fire_when, fire_every, reset, ticks_left, tick, set_clock, get_clock, next_due, initiate_server, server_fire_after, server_fire_when, serve, leap, is_lay_out, is_next_due, is_leap}
use Rattle.model.specs.Directives.{refusals}
use Rattle.model.specs.Words.{read}
use Rattle.model.specs.Outcome.{Outcome, status_on, refused, accepted, outcome, after}
use Rattle.laws.proofs.ListLaws.{cases, clash}
use Rattle.laws.proofs.StatusLaws.{not-zero}

-- what holds of a lay out and of all that are none
pub each-call : (P : Call → Type 0) → ((n t split : ℕ) → P (lay_out n t split)) → ((c : Call) → is_lay_out c ≡ false → P c) → (c : Call) → P c
each-call P lay other (lay_out n t split) = lay n t split
each-call P lay other (create party name) = other (create party name) refl
each-call P lay other (ident party name) = other (ident party name) refl
each-call P lay other (cancel party id) = other (cancel party id) refl
each-call P lay other (delete party id) = other (delete party id) refl
each-call P lay other (fire_after party id n r u) = other (fire_after party id n r u) refl
each-call P lay other (fire_when party id w r u) = other (fire_when party id w r u) refl
each-call P lay other (fire_every party id n r u) = other (fire_every party id n r u) refl
each-call P lay other (reset party id) = other (reset party id) refl
each-call P lay other (ticks_left party id) = other (ticks_left party id) refl
each-call P lay other (tick list) = other (tick list) refl
each-call P lay other (set_clock w list) = other (set_clock w list) refl
each-call P lay other get_clock = other get_clock refl
each-call P lay other next_due = other next_due refl
each-call P lay other initiate_server = other initiate_server refl
each-call P lay other (server_fire_after party id n r u) = other (server_fire_after party id n r u) refl
each-call P lay other (server_fire_when party id w r u) = other (server_fire_when party id w r u) refl
each-call P lay other (serve party list) = other (serve party list) refl
each-call P lay other (leap k list) = other (leap k list) refl

-- what holds of a leap and of all that are none
pub each-leap : (P : Call → Type 0) → ((k : ℕ) (list : List ℕ) → P (leap k list)) → ((c : Call) → is_leap c ≡ false → P c) → (c : Call) → P c
each-leap P leaping other (lay_out n t split) = other (lay_out n t split) refl
each-leap P leaping other (create party name) = other (create party name) refl
each-leap P leaping other (ident party name) = other (ident party name) refl
each-leap P leaping other (cancel party id) = other (cancel party id) refl
each-leap P leaping other (delete party id) = other (delete party id) refl
each-leap P leaping other (fire_after party id n r u) = other (fire_after party id n r u) refl
each-leap P leaping other (fire_when party id w r u) = other (fire_when party id w r u) refl
each-leap P leaping other (fire_every party id n r u) = other (fire_every party id n r u) refl
each-leap P leaping other (reset party id) = other (reset party id) refl
each-leap P leaping other (ticks_left party id) = other (ticks_left party id) refl
each-leap P leaping other (tick list) = other (tick list) refl
each-leap P leaping other (set_clock w list) = other (set_clock w list) refl
each-leap P leaping other get_clock = other get_clock refl
each-leap P leaping other next_due = other next_due refl
each-leap P leaping other initiate_server = other initiate_server refl
each-leap P leaping other (server_fire_after party id n r u) = other (server_fire_after party id n r u) refl
each-leap P leaping other (server_fire_when party id w r u) = other (server_fire_when party id w r u) refl
each-leap P leaping other (serve party list) = other (serve party list) refl
each-leap P leaping other (leap k list) = leaping k list

pub next-due-is : (c : Call) → is_next_due c ≡ true → c ≡ next_due
next-due-is (lay_out n t split) e = clash (sym e)
next-due-is (create party name) e = clash (sym e)
next-due-is (ident party name) e = clash (sym e)
next-due-is (cancel party id) e = clash (sym e)
next-due-is (delete party id) e = clash (sym e)
next-due-is (fire_after party id n r u) e = clash (sym e)
next-due-is (fire_when party id w r u) e = clash (sym e)
next-due-is (fire_every party id n r u) e = clash (sym e)
next-due-is (reset party id) e = clash (sym e)
next-due-is (ticks_left party id) e = clash (sym e)
next-due-is (tick list) e = clash (sym e)
next-due-is (set_clock w list) e = clash (sym e)
next-due-is get_clock e = clash (sym e)
next-due-is next_due e = refl
next-due-is initiate_server e = clash (sym e)
next-due-is (server_fire_after party id n r u) e = clash (sym e)
next-due-is (server_fire_when party id w r u) e = clash (sym e)
next-due-is (serve party list) e = clash (sym e)
next-due-is (leap k list) e = clash (sym e)

pub status-is : (t : List ℕ) (c : Call) → status_on t c ≡ first_of (refusals t (read t) c)
unfolding status_on
status-is t c = refl

module _ (t : List ℕ) (c : Call) where
  pub outcome-accepted : status_on t c ≡ 0 → outcome t c ≡ accepted t c
  unfolding outcome
  outcome-accepted e = ap (λ (b : Bool). cond b (accepted t c) (refused (status_on t c) t c)) (eq-eqb (status_on t c) 0 e)

  pub outcome-refused : (status_on t c ≡ 0 → ⊥) → outcome t c ≡ refused (status_on t c) t c
  unfolding outcome
  outcome-refused e = ap (λ (b : Bool). cond b (accepted t c) (refused (status_on t c) t c)) (ne_eqb (status_on t c) 0 e)

  pub outcome-status : (outcome t c).status ≡ status_on t c
  outcome-status =
      cases (eqb (status_on t c) 0)
      (λ e. let z = eqb-true (status_on t c) 0 e in ap (λ (o : Outcome). o.status) (outcome-accepted z) ∙ sym z)
      (λ e. ap (λ (o : Outcome). o.status) (outcome-refused (eqb-false (status_on t c) 0 e)))

  -- a refusal by its name
  pub refused-by : (s : Status) → status_on t c ≡ number_of s → outcome t c ≡ refused (number_of s) t c
  refused-by s e =
      outcome-refused (λ z. not-zero s (sym e ∙ z)) ∙ ap (λ (n : ℕ). refused n t c) e

-- one list of calls after another
pub after-append : (t : List ℕ) (xs ys : List Call) → after t (xs ++ ys) ≡ after (after t xs) ys
after-append t [] ys = refl
after-append t (c ∷ xs) ys = after-append (outcome t c).table xs ys
