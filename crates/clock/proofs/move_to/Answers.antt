-- `clock::move_to` meets its contract: on a sound table T is at most 1,000, and both readings are counted in it. Assumes nothing.
use mathlib.Core.Path.{ap₂, ◌∙◌}
use Prim.Native.Nat.{ℕ}
use native.Mathlib.Omega.{arith}
use lib.IntN.{pos, ◌-ℤ◌}
use mir.Syntax.{w64}
use mir.ValLaws.{to_z-of_z}
use borrow.Author.Rules.{sfits_of}
use borrow.Author.Tests.{eq-eqb, ne_eqb}
use Rattle.laws.proofs.SoundHolds.{sound-header}
use Rattle.clock.proofs.move_to.Goals as goal

pub bounds-t-2 : goal.bounds-t-2
bounds-t-2 c = let h = sound-header _ c.args.t.is_sound in omega arith

pub returns-then-t-ne1 : goal.returns-then-t-ne1
returns-then-t-ne1 c = rw (ne_eqb _ 1 c.if-t-ne1.true)

pub bounds-t-1 : goal.bounds-t-1
bounds-t-1 c = let h = sound-header _ c.args.t.is_sound in omega arith

pub bounds-t-3 : goal.bounds-t-3
bounds-t-3 c = let h = sound-header _ c.args.t.is_sound in omega arith

pub bounds-t-4 : goal.bounds-t-4
bounds-t-4 c = let h = sound-header _ c.args.t.is_sound in omega arith

pub in_ticks-old-requires : goal.in_ticks-old-requires
in_ticks-old-requires c = (sound-header _ c.args.t.is_sound).per-high

pub in_ticks-new-requires : goal.in_ticks-new-requires
in_ticks-new-requires c = (sound-header _ c.args.t.is_sound).per-high

pub difference-requires : goal.difference-requires
difference-requires c = (c.in_ticks-new.ensures.1, c.in_ticks-old.ensures.1)

pub returns : goal.returns
returns c =
    rw (eq-eqb _ 1 c.if-t-ne1.false)
    (to_z-of_z w64 c.difference.result (sfits_of c.difference.type_inv) ∙ c.difference.ensures ∙ ap₂ (λ (m n : ℕ). pos m -ℤ pos n) c.in_ticks-new.ensures.0 c.in_ticks-old.ensures.0)
