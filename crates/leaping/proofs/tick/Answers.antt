-- `leaping::tick` meets its contract: its four steps, one after the other, are the model's tick. Assumes nothing.
use Rattle.std.proofs.Common.{rules, ◌≡◌, ◌∙◌, List, ℕ, refl, sym, subst}
use Rattle.model.specs.Directives.{Effect}
use Rattle.laws.proofs.SoundHolds.{sound-holds, sound-well-formed}
use Rattle.firing.specs.Lists.{Leaves}
use Rattle.firing.proofs.Ticks.{nearer-room, first-into, clock-room, second_is, ticked-is}
use Rattle.leaping.proofs.Leaping.{tick_is}
use Rattle.leaping.proofs.tick.Goals as goal

-- the words that the table hands back
handed : {t l : List ℕ} {e : Effect} {m : ℕ} {u v l' : List ℕ} → Leaves t l e m v l' → u ≡ v → Leaves t l e m u l'
handed {t} {l} {e} {m} {u} {v} {l'} h same = subst (λ (w : List ℕ). Leaves t l e m w l') (sym same) h

pub invariant_of-table : goal.invariant_of-table
invariant_of-table c = record { in_order = sound-holds c.args.t.now c.requires.ok }

pub come_nearer-requires : goal.come_nearer-requires
come_nearer-requires c = (sound-well-formed c.args.t.now c.requires.ok).ticks

pub fire_ticking-ticking-requires : goal.fire_ticking-ticking-requires
fire_ticking-ticking-requires c = let r = c.requires in nearer-room _ _ r.ok r.long r.last c.come_nearer.ensures.is _ refl

pub step_clock-requires : goal.step_clock-requires
step_clock-requires c =
    let r = c.requires in first-into _ _ r.ok r.long r.last c.come_nearer.ensures.is c.fire_ticking-ticking.ensures.fires

pub fire_dated-dated-requires : goal.fire_dated-dated-requires
fire_dated-dated-requires c =
    let r = c.requires in
    clock-room _ _ r.ok r.long r.last c.come_nearer.ensures.is c.fire_ticking-ticking.ensures.fires c.step_clock.ensures.is _

pub returns : goal.returns
returns c =
    let r = c.requires in
    let near = c.come_nearer.ensures.is in
    let first = c.fire_ticking-ticking.ensures.fires in
    let step = c.step_clock.ensures.is in
    handed
    (tick_is _ _ (c.word-second.ensures ∙ second_is _ _ r.ok r.long r.last near first step)
    (ticked-is _ _ r.ok r.long r.last near first step c.fire_dated-dated.ensures.fires) refl)
    (search rules)
