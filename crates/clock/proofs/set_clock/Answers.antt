-- `clock::set_clock` meets its contract: the clock is set, the dated timers then due fire, and it says how far the clock moved. Assumes nothing.
use borrow.Author.Rules.{sfits_of}
use mathlib.Core.List.{List, [], ◌∷◌}
use mathlib.Core.Path.{◌≡◌, refl, sym, ap, ◌∙◌}
use Prim.Native.Nat.{ℕ}
use native.Mathlib.Omega.{arith}
use mir.Syntax.{w64}
use mir.ValLaws.{to_z-of_z}
use Rattle.std.proofs.Common.{rules}
use Rattle.std.proofs.lemmas.Result.{err_from_is_err_and}
use Rattle.slots.proofs.Laws.{refused_as}
use Rattle.calendar.specs.declared.WallTime.{WallTime}
use Rattle.model.specs.declared.Chain.TheVariants.{ByTicks}
use Rattle.model.specs.Kinds.{same_chain}
use Rattle.model.specs.Calls.{set_clock}
use Rattle.model.specs.Outcome.{Outcome, outcome_of, outcome}
use Rattle.laws.proofs.ListLaws.{clash}
use Rattle.laws.proofs.SoundHolds.{sound-holds, sound-header}
use Rattle.firing.proofs.Ticks.{moved-room, moved-is}
use Rattle.clock.specs.Lent.{Lent}
use Rattle.clock.proofs.Clocks.{not_valid, too-many-ticks, is-clock, opening-refused, clock-refused, accepted-moves, second_is, set-clock-done}
use Rattle.clock.proofs.set_clock.Goals as goal
use Rattle.clock.proofs.set_clock.Goals.{In_ok-end}

-- ---- the table is sound and the list long enough

module _ (o : In_ok-end) where
  abbrev t : List ℕ
  t = o.args.table.now

  abbrev list : List ℕ
  list = o.args.fired.now

  abbrev time : WallTime
  time = o.args.time

  lent : Lent t list o.in_ok-end.end
  lent = o.in_ok-end.ensures.holds _ refl

-- ---- the needs

pub returns-in_err-end : goal.returns-in_err-end
returns-in_err-end c =
    let p = err_from_is_err_and c.from_residual.result c.from_residual.ensures.1 in rw (p.1, p.2) (opening-refused _ _ _ c.in_err-end.ensures refl)

pub returns-in_err-second : goal.returns-in_err-second
returns-in_err-second c =
    let o = (goal.at.returns-in_err-second c).In_ok-end in
    let l = lent o in
    let p = err_from_is_err_and c.from_residual-in_err-second.result c.from_residual-in_err-second.ensures.1 in
    rw (p.1, p.2, refused_as _ c.in_err-second.ensures.value)
    (clock-refused (t o) (time o) (list o) (l.tested, (l.rule, tt))
    (not_valid (t o) (time o) c.to_seconds.ensures c.in_err-second.ensures.ok_part))

pub bounds-table-1 : goal.bounds-table-1
bounds-table-1 c = let h = sound-header _ (lent (goal.at.bounds-table-1 c).In_ok-end).ok in omega arith

pub returns-then-table-time : goal.returns-then-table-time
returns-then-table-time c =
    let o = (goal.at.returns-then-table-time c).In_ok-end in
    let l = lent o in
    clock-refused (t o) (time o) (list o) (l.tested, (l.rule, tt)) (too-many-ticks (t o) (time o) c.if-table-time.true)

pub invariant_of-timers : goal.invariant_of-timers
invariant_of-timers c = record { in_order = sound-holds _ (lent (goal.at.invariant_of-timers c).In_ok-end).ok }

-- the words that the table hands back
handed : {k : ℕ} {answer u v list : List ℕ} {o : Outcome} → outcome_of k answer v list ≡ o → u ≡ v → outcome_of k answer u list ≡ o
handed {k} {answer} {u} {v} {list} e same = ap (λ (w : List ℕ). outcome_of k answer w list) same ∙ e

pub fire_dated-dated-requires : goal.fire_dated-dated-requires
fire_dated-dated-requires c =
    let moved = (goal.at.fire_dated-dated-requires c).In_ok-end in
    let l = lent moved in
    moved-room _ _ l.ok l.long l.last _ _ c.set_clock.ensures.is _ refl _ (λ e. clash (sym (ap (same_chain ByTicks) e)))

pub returns : goal.returns
returns c =
    let o = (goal.at.returns c).In_ok-end in
    let l = lent o in
    let to = c.to_seconds.ensures in
    let got = c.in_ok-second.ensures.ok_part in
    let done : outcome_of 0 (c.fire_dated-dated.result.count ∷ []) c.fire_dated-dated.new.table.words.now c.fire_dated-dated.new.list ≡ outcome (t o) (set_clock (time o) (list o)) =
    set-clock-done (t o) (time o) (list o) (l.tested, (l.rule, (is-clock (t o) (time o) to got c.if-table-time.false, tt))) (second_is (time o) to got)
    (moved-is _ _ l.ok l.long l.last _ _ c.set_clock.ensures.is c.fire_dated-dated.ensures.fires) refl refl in (
      handed done (search rules),
      accepted-moves (t o) (time o) (list o) done (second_is (time o) to got)
          (to_z-of_z w64 c.move_to-moved.result (sfits_of c.move_to-moved.type_inv) ∙ c.move_to-moved.ensures),
    )
