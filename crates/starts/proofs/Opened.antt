-- Behind the opening of fire after, fire when and fire every, on a sound table and by a party, a start's outcome is the call's. Assumes nothing.
use mathlib.Core.Path.{◌≡◌, refl}
use Prim.Native.Nat.{ℕ}
use mathlib.Core.List.{List}
use Rattle.calendar.specs.declared.WallTime.{WallTime}
use Rattle.calendar.specs.Calendar.{seconds_of}
use Rattle.model.specs.declared.Mode.TheVariants.{After, When, Every}
use Rattle.model.specs.Calls.{fire_after, fire_when, fire_every}
use Rattle.model.specs.Directives.{start_rules, date_rules}
use Rattle.model.specs.Words.{read}
use Rattle.model.specs.Outcome.{outcome}
use Rattle.opening.specs.Parties.{on_party, Member}
use Rattle.starting.specs.Starts.{start_outcome}
use Rattle.starting.proofs.Starts.{opened-start}

module _ {t : List ℕ} {party : ℕ} (by : Member t party) (id r u : ℕ) where
  pub after_is : (n : ℕ) → start_outcome After (start_rules (read t) party id n r) t id n r u ≡ outcome t (fire_after party id n r u)
  after_is n =
      opened-start (fire_after party id n r u) t (on_party t party) (start_rules (read t) party id n r) After id n r u refl (by.tested, (by.rule, tt))
      refl (λ k. refl)

  pub every-is : (n : ℕ) → start_outcome Every (start_rules (read t) party id n r) t id n r u ≡ outcome t (fire_every party id n r u)
  every-is n =
      opened-start (fire_every party id n r u) t (on_party t party) (start_rules (read t) party id n r) Every id n r u refl (by.tested, (by.rule, tt))
      refl (λ k. refl)

  pub when-is : (w : WallTime) → start_outcome When (date_rules (read t) party id w r) t id (seconds_of w) r u ≡ outcome t (fire_when party id w r u)
  when-is w =
      opened-start (fire_when party id w r u) t (on_party t party) (date_rules (read t) party id w r) When id (seconds_of w) r u refl
      (by.tested, (by.rule, tt)) refl (λ k. refl)
