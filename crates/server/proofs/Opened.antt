-- Behind the opening of the server's starts, on a sound table, by a party and where the server is initiated, a start's outcome is the call's.
-- Assumes nothing.
use mathlib.Core.Path.{◌≡◌, refl, sym, ap, ◌∙◌}
use Prim.Native.Nat.{ℕ}
use native.Mathlib.Omega.{arith}
use mathlib.Core.Bool.{false}
use mathlib.Core.List.{List, ◌∷◌}
use Rattle.calendar.specs.declared.WallTime.{WallTime}
use Rattle.calendar.specs.Calendar.{seconds_of}
use Rattle.model.specs.declared.Mode.TheVariants.{ServerAfter, ServerWhen}
use Rattle.model.specs.declared.Status.{Status}
use Rattle.model.specs.Lists.{All}
use Rattle.model.specs.Calls.{server_fire_after, server_fire_when}
use Rattle.model.specs.Directives.{start_rules, date_rules, not_initiated}
use Rattle.model.specs.Words.{read}
use Rattle.model.specs.Outcome.{outcome}
use Rattle.std.specs.declared.result.Result.{Result}
use Rattle.std.specs.declared.result.Result.TheVariants.{Ok, Err}
use Rattle.answers.specs.Openings.{Opens}
use Rattle.opening.specs.Parties.{on_party}
use Rattle.starting.specs.Starts.{start_outcome}
use Rattle.starting.proofs.Starts.{opened-start}
use Rattle.server.specs.Initiated.{on_server, Initiated}

module _ {t : List ℕ} {party : ℕ} (h : Initiated t party) (id r u : ℕ) where
  none : All (λ x. x.given ≡ false) (on_server t party)
  none = (h.member.tested, (h.member.rule, (h.rule, tt)))

  pub after_is : (n : ℕ) → start_outcome ServerAfter (start_rules (read t) party id n r) t id n r u ≡ outcome t (server_fire_after party id n r u)
  after_is n =
      opened-start (server_fire_after party id n r u) t (on_server t party) (start_rules (read t) party id n r) ServerAfter id n r u refl none refl (λ k. refl)

  pub when-is : (w : WallTime) → start_outcome ServerWhen (date_rules (read t) party id w r) t id (seconds_of w) r u ≡ outcome t (server_fire_when party id w r u)
  when-is w =
      opened-start (server_fire_when party id w r u) t (on_server t party) (date_rules (read t) party id w r) ServerWhen id (seconds_of w) r u refl none refl
      (λ k. refl)

-- ---- what the opening of a party refuses, the opening of the server refuses

abbrev is_done : Result ℕ Status → ℕ
is_done (Ok n) = 1
is_done (Err s) = 0

pub no-party : {t : List ℕ} {party : ℕ} {P : ℕ → Type 0} {r : Result ℕ Status} {s : Status} → Opens (on_party t party) P r → r ≡ Err s
    → Opens (on_server t party) (λ _. Initiated t party) r
no-party {t} o e = record {
  holds = λ n f. let z : ◌≡◌ {A = ℕ} 0 1 = ap is_done (sym e ∙ f) in absurd (omega arith);
  stopped = λ s f more. o.stopped s f (not_initiated (read t) ∷ more);
}
