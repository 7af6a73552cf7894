-- The slot that an id names, from what the search for it answered. Assumes nothing.
use mathlib.Core.Path.{◌≡◌, refl, sym, ap, ◌∙◌}
use Prim.Native.Nat.{ℕ}
use native.Mathlib.Omega.{arith}
use mathlib.Core.Bool.{true, not}
use mathlib.Core.List.{List}
use Rattle.model.specs.declared.Status.TheVariants.{InvalidId}
use Rattle.model.specs.Parties.{owns, is_party}
use Rattle.model.specs.State.{State, index_of, names, names_own}
use Rattle.model.specs.Words.{written_over, read, party_split}
use Rattle.model.specs.Sound.{sound}
use Rattle.laws.proofs.ListLaws.{cases, both}
use Rattle.laws.proofs.PartyLaws.{owns-party}
use Rattle.laws.proofs.SoundHolds.{sound-holds, sound-header}
use Rattle.std.specs.Prelude.{Option, Some, None, ok_or}
use Rattle.std.specs.declared.result.Result.TheVariants.{Err}
use Rattle.answers.specs.Openings.{Opens}
use Rattle.answers.proofs.Replies.{Tested}
use Rattle.answers.proofs.Openings.{stops, goes_on}
use Rattle.slots.specs.Search.{some_slot, named_slot}
use Rattle.slots.proofs.Laws.{is_slot, no_slot, named_some, named_none}
use Rattle.opening.specs.Ids.{on_id, Named}
use Rattle.opening.proofs.Parties.{member_of}

-- whoever has a timer is a party
member : (t : List ℕ) (party id : ℕ) → names_own (read t) party id ≡ true → is_party (party_split t) party ≡ true
member t party id e = owns-party (party_split t) party (index_of id) (both (names (read t) id) (owns (party_split t) party (index_of id)) e).1

pub named : {t : List ℕ} {party id i : ℕ} {r : Option ℕ} → sound t ≡ true → r ≡ some_slot (named_slot t party id) → r ≡ Some i → Named t party id i
named {t} {party} {id} {i} ok e some =
    let at = is_slot e some in
    let m = named_some t party id i at.0 at.1 in
    record {
      member = member_of ok (member t party id m.names-one);
      rule = ap not m.names-one;
      index = m.index;
      place = record { holds = sound-holds t ok; low = m.low; high = m.high };
      inside = omega (arith, (sound-header t ok).long, m.high);
    }

pub not_known : (t : List ℕ) (party id : ℕ) {r : Option ℕ} → r ≡ some_slot (named_slot t party id) → r ≡ None → not (names_own (read t) party id) ≡ true
not_known t party id e z = ap not (named_none t party id 0 (sym (no_slot e z)) refl)

-- where it names none, 4 is the status of the number that is no party's, or of the id
unknown : {t : List ℕ} {party id : ℕ} {r : Option ℕ} → Tested t → r ≡ some_slot (named_slot t party id) → r ≡ None
    → Opens (on_id t party id) (Named t party id) (Err InvalidId)
unknown {t} {party} {id} ok e z =
    cases (is_party (party_split t) party)
    (λ p. stops InvalidId 2 (ok.rule, (ap not p, tt)) (not_known t party id e z) refl)
    (λ p. stops InvalidId 1 (ok.rule, tt) (ap not p) refl)

-- the number of the slot, or the refusal
pub opens : {t : List ℕ} {party id : ℕ} {r : Option ℕ} → Tested t → r ≡ some_slot (named_slot t party id)
    → Opens (on_id t party id) (Named t party id) (ok_or r InvalidId)
opens {r = None} ok e = unknown ok e refl
opens {r = Some i} ok e = goes_on (named ok.ok e refl)

-- what was done at the slot was done at the id's index
pub at-index : {t : List ℕ} {party id i : ℕ} (f : ℕ → State) {u : List ℕ} → Named t party id i → u ≡ written_over (f i) t → u ≡ written_over (f (index_of id)) t
at-index {t} f at e = e ∙ ap (λ (k : ℕ). written_over (f k) t) at.index
