-- `slots::named`: an id names a slot where its index is 1 to N and the slot is not free.
use Rattle.std.proofs.Common.{◌∙◌, sym, arith}
use Rattle.laws.proofs.SoundHolds.{sound-header}
use Rattle.slots.proofs.Laws.{slot-some, slot-none, id-low, id-high, id-free, id_other, id-names}
use Rattle.slots.proofs.Sound.named.Goals as goal

pub returns-then-id-le-ID_BASE : goal.returns-then-id-le-ID_BASE
returns-then-id-le-ID_BASE c = let a = c.args in slot-none _ (sym (id-low a.self.words.now a.party a.id (omega arith)))

pub bounds-self-0 : goal.bounds-self-0
bounds-self-0 c = omega (arith, sound-header c.args.self.words.now c.args.self.is_sound)

pub returns-then-self-i : goal.returns-then-self-i
returns-then-self-i c = let a = c.args in slot-none _ (sym (id-high a.self.words.now a.party a.id (omega arith)))

pub get-requires : goal.get-requires
get-requires c = omega (arith, sound-header c.args.self.words.now c.args.self.is_sound)

pub returns-then-get-eq-FREE : goal.returns-then-get-eq-FREE
returns-then-get-eq-FREE c =
    let a = c.args in slot-none _ (sym (id-free a.self.words.now a.party a.id (omega arith) (omega arith) (sym c.get.ensures ∙ c.if-get-eq-FREE.true)))

pub returns-then-owner-party : goal.returns-then-owner-party
returns-then-owner-party c =
    let a = c.args in
    slot-none _ (sym (id_other a.self.words.now a.party a.id (omega arith) (omega arith) (λ e. c.if-owner-party.true (c.owner.ensures ∙ e))))

pub returns : goal.returns
returns c =
    let a = c.args in
    slot-some _ _
    (id-names a.self.words.now a.party a.id (omega arith) (omega arith) (λ e. c.if-get-eq-FREE.false (c.get.ensures ∙ e))
    (sym c.owner.ensures ∙ c.if-owner-party.false)) (omega arith)
