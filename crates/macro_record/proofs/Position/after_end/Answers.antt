-- `macro_record::Position::after_end` meets its contract: the innermost open block is the last of the open repeats'. Assumes nothing.
use Rattle.std.proofs.Common.{ℕ, ◌≡◌, ◌-◌, ◌<◌, ◌≤◌, get_or, set, ap, ◌∙◌, subst, arith}
use Rattle.macro_steps.specs.Steps.{count}
use Rattle.macro_check.specs.Blocks.{opened}
use Rattle.macro_record.proofs.CountLaws.{times-inside, goes_back, goes_on, innermost}
use Rattle.macro_record.specs.declared.Runner.{Runner}
use Rattle.macro_record.proofs.Position.after_end.Goals as goal

pub times_of_block-requires : goal.times_of_block-requires
times_of_block-requires c =
    let p = c.args.self in
    let o = innermost _ _ _ p.stands c.requires _ c.depth-depth.ensures in
    omega arith

pub overflow_cast-again : goal.overflow_cast-again
overflow_cast-again c =
    let p = c.args.self in
    let w = p.stands.few in
    let start = get_or p.blocks (c.depth-depth.result - 1) 0 in
    let t = c.times_of_block.ensures in
    let u = c.if-count-times_of_block.true in
    let i : start - 1 < count p.words.now = times-inside p.words.now (start - 1) (omega (arith, t, u)) in
    omega (arith, i, w)

pub returns-then-count-times_of_block : goal.returns-then-count-times_of_block
returns-then-count-times_of_block c =
    let p = c.args.self in
    let depth = c.depth-depth.result - 1 in
    let o = innermost _ _ _ p.stands c.requires _ c.depth-depth.ensures in
    goes_back p.words.now (opened p.words.now p.runner.place) p.runner depth (get_or p.blocks depth 0) o.last o.start
    (subst (λ (n : ℕ). get_or p.runner.counts depth 0 < n) c.times_of_block.ensures c.if-count-times_of_block.true)

pub returns : goal.returns
returns c =
    let p = c.args.self in
    let depth = c.depth-depth.result - 1 in
    let o = innermost _ _ _ p.stands c.requires _ c.depth-depth.ensures in
    ap (λ (x : Runner). record { place = x.place; counts = set x.counts depth 0; last = x.last }) c.to_next-next.ensures
    ∙ goes_on p.words.now (opened p.words.now p.runner.place) p.runner depth (get_or p.blocks depth 0) o.last o.start
    (subst (λ (n : ℕ). n ≤ get_or p.runner.counts depth 0) c.times_of_block.ensures c.if-count-times_of_block.false)
