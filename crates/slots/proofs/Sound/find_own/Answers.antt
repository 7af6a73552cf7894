-- `slots::find_own`: the search goes over the party's slots, from its first to its last.
use Rattle.std.proofs.Common.{ℕ, ◌≤◌, sym, subst, arith}
use Rattle.model.specs.Words.{slot_count, party_split}
use Rattle.laws.proofs.SoundHolds.{sound-header}
use Rattle.slots.proofs.Laws.{first-least, last_within}
use Rattle.slots.proofs.Sound.find_own.Goals as goal

pub bounds-self-7 : goal.bounds-self-7
bounds-self-7 c = omega (arith, sound-header c.args.self.words.now c.args.self.is_sound)

pub first_own-first-requires : goal.first_own-first-requires
first_own-first-requires c = omega (arith, sound-header c.args.self.words.now c.args.self.is_sound)

pub bounds-self-0 : goal.bounds-self-0
bounds-self-0 c = omega (arith, sound-header c.args.self.words.now c.args.self.is_sound)

pub find-requires : goal.find-requires
find-requires c =
    let t = c.args.self.words.now in
    let in_table = last_within _ c.args.party (slot_count t) (sound-header t c.args.self.is_sound).parted in
    (c.requires, omega (arith, first-least (party_split t) c.args.party), subst (λ (n : ℕ). n ≤ slot_count t) (sym c.last_own-last.ensures) in_table)
