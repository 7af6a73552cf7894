-- The words of the fired list: entries written one after another are written at once; a timer that stopped or fired keeps routine and user
-- data, so that its entry can be read before or after; and the entries name the slots of the timers. Assumes nothing.
use mathlib.Core.Path.{◌≡◌, refl, ap, ap₂, ◌∙◌}
use Prim.Native.Nat.{ℕ, suc, ◌+◌, ◌-◌, ◌*◌, ◌≤◌, ◌<◌}
use native.Mathlib.Omega.{arith}
use mathlib.Core.List.{List, [], ◌∷◌, ◌++◌, map}
use lib.ListN.{length, set, drop, length-set}
use lib.Seq.{get_or-set_same, get_or-set_other, sets, sets-eq}
use Rattle.model.specs.State.{Slot, Link, slot_at, Fired, listed, id_base}
use Rattle.model.specs.Words.{word}
use Rattle.model.specs.Outcome.{entry_words, written}
use Rattle.laws.proofs.Slots.{Memo, memo}
use Rattle.laws.proofs.ListWords.{length-entries}
use Rattle.going_on.specs.GoingBack.{slots_in}
use Rattle.firing.proofs.TwoRounds.{slots_of}

-- ---- stores

pub three-sets : (l : List ℕ) (a x y z : ℕ) → set (set (set l a x) (a + 1) y) (a + 2) z ≡ sets l a (x ∷ y ∷ z ∷ [])
three-sets l a x y z = ap₂ (λ (b c : ℕ). set (set (set l a x) b y) c z) one two
  where
    one : a + 1 ≡ suc a
    one = omega arith

    two : a + 2 ≡ suc (suc a)
    two = omega arith

pub sets-append : (l : List ℕ) (a : ℕ) (vs ws : List ℕ) → sets (sets l a vs) (a + length vs) ws ≡ sets l a (vs ++ ws)
sets-append l a [] ws = ap (λ (n : ℕ). sets l n ws) none
  where
    none : a + 0 ≡ a
    none = omega arith
sets-append l a (v ∷ vs) ws = ap (λ (n : ℕ). sets (sets (set l a v) (suc a) vs) n ws) shift ∙ sets-append (set l a v) (suc a) vs ws
  where
    shift : a + suc (length vs) ≡ suc a + length vs
    shift = omega arith

-- ---- entries

pub sets-written : (fs : List Fired) (l : List ℕ) → 3 * length fs ≤ length l → sets l 0 (entry_words fs) ≡ written fs l
sets-written fs l p =
    sets-eq (entry_words fs) l 0 (omega (arith, length-entries fs)) ∙ ap (λ (n : ℕ). entry_words fs ++ drop n l) none
  where
    none : 0 + length (entry_words fs) ≡ length (entry_words fs)
    none = omega arith

-- what stops and what fires keeps routine and user data
pub same_entries : (sl sl' : List Slot) → ((j : ℕ) → memo (slot_at sl' j) ≡ memo (slot_at sl j)) → (c : List Link) → map (listed sl') c ≡ map (listed sl) c
same_entries sl sl' same [] = refl
same_entries sl sl' same (x ∷ xs) =
    ap₂ {C = List Fired} (λ (m : Memo) r. record { id = id_base + x.slot; routine = m.routine; user_data = m.user_data } ∷ r)
    (same x.slot) (same_entries sl sl' same xs)

-- ---- the slots that entries name

sets-before : (l : List ℕ) (i : ℕ) (vs : List ℕ) (j : ℕ) → j < i → word (sets l i vs) j ≡ word l j
sets-before l i [] j p = refl
sets-before l i (v ∷ vs) j p = sets-before (set l i v) (suc i) vs j (omega arith) ∙ get_or-set_other l i j v 0 (omega arith)

first-set : (l : List ℕ) (i v : ℕ) (vs : List ℕ) → i < length l → word (sets l i (v ∷ vs)) i ≡ v
first-set l i v vs p = sets-before (set l i v) (suc i) vs i (omega arith) ∙ get_or-set_same l i v 0 p

-- the entries from `from` on name the slots of the links
pub slots-written : (sl : List Slot) (ws : List Link) (l : List ℕ) (from : ℕ) → 3 * (from + length ws) ≤ length l
    → slots_in (sets l (3 * from) (entry_words (map (listed sl) ws))) from (length ws) ≡ slots_of ws
slots-written sl [] l from p = refl
slots-written sl (w ∷ ws) l from p =
    let f = listed sl w in
    let u = set (set (set l (3 * from) f.id) (suc (3 * from)) f.routine) (suc (suc (3 * from))) f.user_data in
    let three : suc (suc (suc (3 * from))) ≡ 3 * suc from = omega arith in
    let same : length u ≡ length l = simp length-set in
    ap₂ {C = List ℕ} (λ a r. a ∷ r)
    (ap (λ (n : ℕ). n - id_base) (first-set l (3 * from) f.id (f.routine ∷ f.user_data ∷ entry_words (map (listed sl) ws)) (omega arith)) ∙ omega arith)
    (ap (λ (a : ℕ). slots_in (sets u a (entry_words (map (listed sl) ws))) (suc from) (length ws)) three
    ∙ slots-written sl ws u (suc from) (omega arith))
