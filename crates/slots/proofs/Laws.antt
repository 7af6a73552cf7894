-- Whose slots are whose; a search over the words of a party's slots is the model's search over the slots; an id names a slot where three tests pass; words that are cleared
-- one after another are zeros, and the rest stays. Assumes nothing.
use mathlib.Core.Path.{◌≡◌, refl, sym, ap, ap₂, ◌∙◌}
use Prim.Native.Nat.{ℕ, zero, suc, ◌+◌, ◌-◌, ◌≤◌, ◌<◌}
use native.Mathlib.Numerals.{add-one}
use native.Mathlib.Omega.{arith}
use mathlib.Core.Bool.{Bool, true, false, cond, not, ◌&&◌}
use mathlib.Core.List.{List, [], ◌∷◌, ◌++◌, append_assoc}
use lib.ListN.{length, get_or, set, drop, replicate, length-replicate, replicate-append-replicate, length-drop, length-append}
use lib.Seq.{set_at, drop-cons}
use lib.Dec.{eqb}
use borrow.Author.Tests.{eqb-true, eq-eqb, ne_eqb, le-leb, lt-leb, not-false}
use Rattle.std.proofs.lemmas.Option.{none-some}
use Rattle.model.specs.State.{Slot, slot_at, lowest, id_base, index_of, names_own}
use Rattle.model.specs.Directives.{lowest_free, lowest_named}
use Rattle.model.specs.Words.{field, read, slot_from, slots_from, slot_count, party_split, kind_of}
use Rattle.model.specs.Parties.{owner_of, owns, is_party, first_own, last_own}
use Rattle.model.specs.Sound.{sound}
use Rattle.laws.proofs.ListLaws.{cases}
use Rattle.laws.proofs.ReadBack.{slots_length, slot_read}
use Rattle.laws.proofs.AcceptedCalls.{Named, known, known-own}
use Rattle.laws.proofs.PartyLaws.{range-searched}
use Rattle.laws.proofs.SoundHolds.{sound-header}
use Rattle.std.specs.Prelude.{Option, Some, None, Result, Ok, Err, ok_or}
use Rattle.slots.specs.Search.{some_slot, lowest_with, lowest_in, lowest_own, named_slot}

-- ---- whose slots

module _ (split : ℕ) where
  pub owner-all : (i : ℕ) → split ≡ 0 → 1 ≡ owner_of split i
  owner-all i e = rw (eq-eqb split 0 e)

  pub owner-low : (i : ℕ) → (split ≡ 0 → ⊥) → i ≤ split → 1 ≡ owner_of split i
  owner-low i n h = rw (ne_eqb split 0 n, le-leb i split h)

  pub owner-high : (i : ℕ) → (split ≡ 0 → ⊥) → split < i → 2 ≡ owner_of split i
  owner-high i n h = rw (ne_eqb split 0 n, lt-leb i split h)

  module _ (party : ℕ) where
    pub party-one : party ≡ 1 → true ≡ is_party split party
    party-one e = rw (eq-eqb party 1 e)

    pub party-other : (party ≡ 1 → ⊥) → (party ≡ 2 → ⊥) → false ≡ is_party split party
    party-other n m = rw (ne_eqb party 1 n, ne_eqb party 2 m)

    pub party-two : (party ≡ 1 → ⊥) → party ≡ 2 → not (eqb split 0) ≡ is_party split party
    party-two n e = rw (ne_eqb party 1 n, eq-eqb party 2 e)

    pub first_two : party ≡ 2 → split + 1 ≡ first_own split party
    first_two e = rw (eq-eqb party 2 e) (add-one split)

    pub first_one : (party ≡ 2 → ⊥) → 1 ≡ first_own split party
    first_one n = rw (ne_eqb party 2 n)

    pub first-least : 1 ≤ first_own split party
    first-least = cases (eqb party 2) (λ e. rw e (omega arith)) (λ e. rw e (omega arith))

    module _ (n : ℕ) where
      pub last-two : (party ≡ 1 → ⊥) → n ≡ last_own split n party
      last-two m = rw (ne_eqb party 1 m)

      pub last-all : party ≡ 1 → split ≡ 0 → n ≡ last_own split n party
      last-all e z = rw (eq-eqb party 1 e, eq-eqb split 0 z)

      pub last_one : party ≡ 1 → (split ≡ 0 → ⊥) → split ≡ last_own split n party
      last_one e z = rw (eq-eqb party 1 e, ne_eqb split 0 z)

      pub last_within : split < n → last_own split n party ≤ n
      last_within h = cases (eqb party 1 && not (eqb split 0)) (λ e. rw e (omega arith)) (λ e. rw e (omega arith))

-- ---- a slot or none

pub slot-some : (n i : ℕ) → i ≡ n → 0 < i → Some i ≡ some_slot n
slot-some zero i e h = absurd (omega (arith, e, h))
slot-some (suc n) i e h = ap Some e

pub slot-none : (n : ℕ) → n ≡ 0 → None ≡ some_slot n
slot-none zero e = refl
slot-none (suc n) e = absurd (omega (arith, e))

abbrev number_or_0 : Option ℕ → ℕ
number_or_0 None = 0
number_or_0 (Some n) = n

-- what a caller learns of an answer
module _ {r : Option ℕ} {n : ℕ} (answer : r ≡ some_slot n) where
  number-is : number_or_0 r ≡ n
  number-is = ap number_or_0 answer ∙ go n
    where
      go : (m : ℕ) → number_or_0 (some_slot m) ≡ m
      go zero = refl
      go (suc m) = refl

  pub is_slot : {i : ℕ} → r ≡ Some i → (i ≡ n) × (i ≡ 0 → ⊥)
  is_slot {i} e = let is : i ≡ n = sym (ap number_or_0 e) ∙ number-is in (is, λ z. not_zero n i (sym e ∙ answer) (sym is ∙ z))
    where
      not_zero : (m i : ℕ) → Some i ≡ some_slot m → m ≡ 0 → ⊥
      not_zero zero i e z = none-some i (sym e)
      not_zero (suc m) i e z = omega (arith, z)

  pub no_slot : r ≡ None → n ≡ 0
  no_slot e = sym number-is ∙ ap number_or_0 e

-- where none is a refusal, it is that refusal
pub refused_as : {T E : Type 0} (r : Option T) {s d : E} → Err s ≡ ok_or r d → s ≡ d
refused_as {T} {E} r {s} {d} e = go r e
  where
    or-else : Result T E → E
    or-else (Ok n) = s
    or-else (Err x) = x

    is_ok : Result T E → ℕ
    is_ok (Ok n) = 1
    is_ok (Err x) = 0

    go : (r : Option T) → Err s ≡ ok_or r d → s ≡ d
    go None e = ap or-else e
    go (Some n) e = let z : ◌≡◌ {A = ℕ} 0 1 = ap is_ok e in absurd (omega arith)

-- ---- the lowest slot

module _ (t : List ℕ) where
  -- by the part of a slot that word f spells
  lowest_by : (part : Slot → ℕ) (f : ℕ) → ((i : ℕ) → part (slot_from t i) ≡ field t i f) → (v i m : ℕ)
      → lowest (λ _ x. eqb (part x) v) i (slots_from t i m) ≡ lowest_with t f v i m
  unfolding lowest_with
  lowest_by part f is v i zero = refl
  lowest_by part f is v i (suc m) = ap₂ (λ (w n : ℕ). cond (eqb w v) i n) (is i) (lowest_by part f is v (suc i) m)

  -- of a party's slots
  module _ (ok : sound t ≡ true) (party : ℕ) (is : is_party (party_split t) party ≡ true) where
    own-found : (part : Slot → ℕ) (f : ℕ) → ((i : ℕ) → part (slot_from t i) ≡ field t i f) → (v : ℕ)
        → lowest (λ i x. owns (party_split t) party i && eqb (part x) v) 1 (slots_from t 1 (slot_count t)) ≡ lowest_own t party f v
    unfolding lowest_in
    own-found part f is' v =
        range-searched t (λ x. eqb (part x) v) (party_split t) (slot_count t) (sound-header t ok).parted party is
        ∙ lowest_by part f is' v (first_own (party_split t) party)
        (suc (last_own (party_split t) (slot_count t) party) - first_own (party_split t) party)

    pub free-found : lowest_free (read t) party ≡ lowest_own t party 0 0
    free-found = own-found (λ x. x.kind) 0 (λ i. refl) 0

    pub name-found : (name : ℕ) → lowest_named (read t) party name ≡ lowest_own t party 1 name
    name-found name = own-found (λ x. x.name) 1 (λ i. refl) name

  -- what the loop has yet to look at, up to slot n
  module _ (f v n i : ℕ) where
    pub find_none : n < i → lowest_in t f v i n ≡ 0
    unfolding lowest_in lowest_with
    find_none h = ap (lowest_with t f v i) (let z : suc n - i ≡ 0 = omega arith in z)

    module _ (in-loop : i ≤ n) where
      opened : lowest_in t f v i n ≡ cond (eqb (field t i f) v) i (lowest_in t f v (i + 1) n)
      unfolding lowest_in lowest_with
      opened =
          ap (lowest_with t f v i) (let z : suc n - i ≡ suc (suc n - (i + 1)) = omega arith in z)
          ∙ ap (λ (k : ℕ). cond (eqb (field t i f) v) i (lowest_with t f v k (suc n - (i + 1)))) (sym (add-one i))

      pub find-here : field t i f ≡ v → lowest_in t f v i n ≡ i
      find-here e = opened ∙ rw (eq-eqb (field t i f) v e)

      pub find-on : (field t i f ≡ v → ⊥) → lowest_in t f v i n ≡ lowest_in t f v (i + 1) n
      find-on e = opened ∙ rw (ne_eqb (field t i f) v e)

-- ---- ids

module _ (t : List ℕ) (party id : ℕ) where
  abbrev own : Type 0
  own = owns (party_split t) party (index_of id) ≡ true

  not_named : (Named (read t) id → own → ⊥) → 0 ≡ named_slot t party id
  unfolding named_slot
  not_named n =
      cases (names_own (read t) party id) (λ e. let k = known (read t) id party (ap not e) in absurd (n k.0 k.1)) (λ e. rw e)

  pub id-low : id ≤ id_base → 0 ≡ named_slot t party id
  id-low h = not_named (λ n _. omega (arith, n.low, n.is))

  pub id-high : slot_count t < id - id_base → 0 ≡ named_slot t party id
  id-high h = not_named (λ n _. omega (arith, n.high, slots_length t))

  module _ (above : id_base < id) (within : id - id_base ≤ slot_count t) where
    kind-is : (slot_at (read t).slots (id - id_base)).kind ≡ kind_of t (id - id_base)
    kind-is = ap (λ (x : Slot). x.kind) (slot_read t (id - id_base) (omega arith) within)

    pub id-free : kind_of t (id - id_base) ≡ 0 → 0 ≡ named_slot t party id
    id-free e = not_named (λ n _. n.alive (kind-is ∙ e))

    pub id_other : (owner_of (party_split t) (id - id_base) ≡ party → ⊥) → 0 ≡ named_slot t party id
    id_other e = not_named (λ _ o. e (eqb-true (owner_of (party_split t) (id - id_base)) party o))

    pub id-names : (kind_of t (id - id_base) ≡ 0 → ⊥) → owner_of (party_split t) (id - id_base) ≡ party → id - id_base ≡ named_slot t party id
    unfolding named_slot
    id-names e o =
        let n : Named (read t) id =
        record { is = omega arith; low = omega arith; high = omega (arith, slots_length t); alive = λ z. e (sym kind-is ∙ z) } in
        sym (ap (λ (b : Bool). cond b (index_of id) 0)
        (not-false (names_own (read t) party id) (known-own (read t) id party n (eq-eqb (owner_of (party_split t) (id - id_base)) party o))))

  -- what a caller learns of the slot
  pub record IsNamed (i : ℕ) : Type 0 where
    pub names-one : names_own (read t) party id ≡ true
    pub index : i ≡ index_of id
    pub low : 1 ≤ i
    pub high : i ≤ slot_count t

  pub named_some : (i : ℕ) → i ≡ named_slot t party id → (i ≡ 0 → ⊥) → IsNamed i
  unfolding named_slot
  named_some i e n =
      cases (names_own (read t) party id)
      (λ f.
      let is : i ≡ index_of id = e ∙ ap (λ (b : Bool). cond b (index_of id) 0) f in
      let m = (known (read t) id party (ap not f)).0 in
      record { names-one = f; index = is; low = omega (arith, m.low); high = omega (arith, m.high, slots_length t) })
      (λ f. absurd (n (e ∙ ap (λ (b : Bool). cond b (index_of id) 0) f)))

  pub named_none : (i : ℕ) → i ≡ named_slot t party id → i ≡ 0 → names_own (read t) party id ≡ false
  unfolding named_slot
  named_none i e z =
      cases (names_own (read t) party id)
      (λ f.
      let is : i ≡ index_of id = e ∙ ap (λ (b : Bool). cond b (index_of id) 0) f in
      let m = (known (read t) id party (ap not f)).0 in
      absurd (omega (arith, m.low)))
      (λ f. f)

-- ---- words cleared

pub clear-on : (t u : List ℕ) (i : ℕ) → i < length t → u ≡ replicate i 0 ++ drop i t → set u i 0 ≡ replicate (i + 1) 0 ++ drop (i + 1) t
clear-on t u i h e =
    ap (λ (l : List ℕ). set l i 0) (e ∙ ap (λ (l : List ℕ). replicate i 0 ++ l) (drop-cons t i 0 h))
    ∙ set_at (replicate i 0) (get_or t i 0) (drop (suc i) t) 0 i (length-replicate i 0)
    ∙ more
  where
    more : replicate i 0 ++ (0 ∷ drop (suc i) t) ≡ replicate (i + 1) 0 ++ drop (i + 1) t
    more =
        ap (λ (n : ℕ). replicate i 0 ++ (0 ∷ drop n t)) (sym (add-one i))
        ∙ sym (append_assoc (replicate i 0) (0 ∷ []) (drop (i + 1) t))
        ∙ ap (λ (l : List ℕ). l ++ drop (i + 1) t) (replicate-append-replicate i 1 0)

pub clear-length : (t u : List ℕ) (i : ℕ) → i ≤ length t → u ≡ replicate i 0 ++ drop i t → length u ≡ length t
clear-length t u i h e = ap length e ∙ omega (arith, length-append (replicate i 0) (drop i t), length-replicate {A = ℕ} i 0, length-drop i t)
