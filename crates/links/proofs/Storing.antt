-- A slot's kind, name, interval, routine and user data are written: of the words of the table just these change, since links and waits come
-- from the chains, which stay. Shown by induction along the slots. Assumes nothing.
use mathlib.Core.Path.{◌≡◌, refl, sym, ap, ◌∙◌}
use Prim.Native.Nat.{ℕ, zero, suc, ◌+◌, ◌*◌, ◌<◌}
use native.Mathlib.Omega.{arith}
use mathlib.Core.Bool.{Bool}
use mathlib.Core.List.{List, [], ◌∷◌, ◌++◌}
use lib.ListN.{length, set, drop, length-set}
use Rattle.model.specs.State.{Slot, Clock, State}
use Rattle.model.specs.Directives.{stored}
use Rattle.model.specs.Words.{slot_words, all_slots, written_over, read}
use Rattle.laws.proofs.StateWords.{head_words}
use Rattle.laws.proofs.ReadBack.{slots_length}
use Rattle.chains.specs.EditedWords.{field_word}
use Rattle.links.specs.Places.{InTable}
use Rattle.links.specs.TimerWords.{timer_put}

-- the words of the slot x, at word m of l and those behind it
abbrev spelt : List ℕ → ℕ → Slot → List ℕ
spelt l m x =
    set (set (set (set (set l (m + 1) x.name) (m + 0) x.kind) (m + 2) x.interval) (m + 4) x.routine) (m + 5) x.user_data

-- the words of slots come from them and the chains, whatever else the state has
pub same-slots : (s : State) (slots : List Slot) (clock : Clock) (server : Bool) (b : ℕ) (xs : List Slot) (rest : List ℕ)
    → all_slots (record { slots = slots; clock = clock; ticking = s.ticking; dated = s.dated; split = s.split; server = server; queue = s.queue }) b xs rest
    ≡ all_slots s b xs rest
same-slots s slots clock server b [] rest = refl
same-slots s slots clock server b (x ∷ xs) rest = ap (slot_words s b x) (same-slots s slots clock server (suc b) xs rest)

put-slot : (s : State) (b j : ℕ) (x : Slot) (xs : List Slot) (rest : List ℕ) → j < length xs
    → spelt (all_slots s b xs rest) (8 * j) x ≡ all_slots s b (set xs j x) rest
put-slot s b j x [] rest p = absurd (omega arith)
put-slot s b zero x (y ∷ ys) rest p = refl
put-slot s b (suc j) x (y ∷ ys) rest p =
    rw (at 1, at 0, at 2, at 4, at 5) (ap (slot_words s b y) (put-slot s (suc b) j x ys rest (omega arith)))
  where
    at : (f : ℕ) → 8 * suc j + f ≡ suc (suc (suc (suc (suc (suc (suc (suc (8 * j + f))))))))
    at f = omega arith

pub store_words : (t : List ℕ) (i : ℕ) (x : Slot) → InTable t i
    → timer_put (set t (field_word i 1) x.name) i x.kind x.interval x.routine x.user_data ≡ written_over (stored (read t) i x) t
unfolding timer_put
store_words t zero x h = absurd (omega (arith, h.low))
store_words t (suc j) x h =
    let s = read t in
    let rest = drop (10 + 8 * length s.slots) t in
    ap (λ (u : List ℕ). spelt u (2 + 8 * suc j) x) (sym h.holds.is)
    ∙ rw (length-set s.slots j x, at 1, at 0, at 2, at 4, at 5) (ap (λ (l : List ℕ). head_words s ++ l)
    (put-slot s 1 j x s.slots rest (omega (arith, h.high, slots_length t))
    ∙ sym (same-slots s (set s.slots j x) s.clock s.server 1 (set s.slots j x) rest)))
  where
    at : (f : ℕ) → 2 + 8 * suc j + f ≡ suc (suc (suc (suc (suc (suc (suc (suc (suc (suc (8 * j + f))))))))))
    at f = omega arith
