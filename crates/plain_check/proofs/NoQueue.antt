-- In a sound table whose server is not initiated the queue is empty: its first slot would be queued, which no slot is. Assumes nothing.
use mathlib.Core.Path.{◌≡◌, sym, ◌∙◌}
use Prim.Native.Nat.{ℕ}
use native.Mathlib.Nat.{pos_of_ne-zero}
use native.Mathlib.Omega.{arith}
use mathlib.Core.Bool.{true, false}
use mathlib.Core.List.{List}
use lib.Dec.{eqb}
use borrow.Author.Tests.{eqb-true, eqb-false, ne_eqb}
use Rattle.model.specs.declared.Chain.TheVariants.{Queue}
use Rattle.model.specs.Words.{slot_count, server_initiated, first_queued, kind_of}
use Rattle.model.specs.Sound.{slot_sound, sound_tests, sound}
use Rattle.laws.proofs.ListLaws.{cases, clash, all-at, up_at}
use Rattle.word_checks.proofs.SlotTests.{sound-tested}
use Rattle.walks.proofs.OnePass.{first_slot}
use Rattle.plain_check.proofs.PlainKinds.{plain-kind, plain-queued}

pub no-queue : (t : List ℕ) → sound t ≡ true → server_initiated t ≡ 0 → first_queued t ≡ 0
unfolding sound
no-queue t e z =
    cases (eqb (first_queued t) 0)
    (λ q. eqb-true (first_queued t) 0 q)
    (λ q.
    let i = first_queued t in
    let low = pos_of_ne-zero (eqb-false i 0 q) in
    let first = first_slot Queue t e low in
    let slot = up_at (slot_sound t) 1 (slot_count t) (all-at (sound_tests t) e 1) i low (omega (arith, first.0)) in
    let kind = plain-kind t i (sound-tested false t i (ne_eqb (server_initiated t) 1 (λ o. omega (arith, o, z))) slot) in
    clash (sym first.1 ∙ plain-queued (kind_of t i) kind))
