-- `macro_record::Position::depth` meets its contract: no block before the depth reached is missing. Assumes nothing.
use native.Mathlib.Omega.{arith}
use Rattle.macro_record.proofs.CountLaws.{depth_is, few-open}
use Rattle.macro_record.proofs.Position.depth.Goals as goal

pub returns-then-self-depth-eq0 : goal.returns-then-self-depth-eq0
returns-then-self-depth-eq0 c =
    let p = c.args.self in
    let l = c.loop-depth in
    depth_is _ _ l.depth (omega arith) l.invariant (λ _. c.if-self-depth-eq0.true) (few-open _ p.stands.pass p.runner.place) p.stands.opens

pub returns : goal.returns
returns c =
    let p = c.args.self in
    let l = c.loop-depth in
    depth_is _ _ 8 (omega arith) (λ j h. l.invariant j (omega arith)) (λ z. absurd (omega arith)) (few-open _ p.stands.pass p.runner.place) p.stands.opens
