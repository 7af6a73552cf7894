-- A server timer that waited goes to the back of the queue: to stop leaves the queue as it is, so that its last slot is still the last; and to stop
-- and then to be queued is to be queued. Assumes nothing.
use mathlib.Core.Path.{◌≡◌, refl, sym, ap, ap₂, ◌∙◌, subst}
use mathlib.Core.Logic.{◌≢◌}
use Prim.Native.Nat.{ℕ, ◌+◌, ◌-◌, ◌≤◌}
use native.Mathlib.Omega.{arith}
use mathlib.Core.Bool.{false}
use mathlib.Core.List.{List, [], ◌∷◌, ◌++◌}
use lib.ListN.{set}
use lib.Dec.{eqb}
use borrow.Author.Tests.{eqb-true, eqb-false, le-leb}
use Rattle.model.specs.declared.Chain.{Chain}
use Rattle.model.specs.declared.Chain.TheVariants.{ByTicks, ByDate, Queue}
use Rattle.model.specs.Kinds.{kind_at, same_chain, waits_in}
use Rattle.model.specs.Lists.{All, place}
use Rattle.model.specs.State.{Slot, Link, State, chain_of, slot_at}
use Rattle.model.specs.Directives.{stopped, became, fired, idled, inserted}
use Rattle.model.specs.Words.{written_over, read}
use Rattle.laws.proofs.ListLaws.{cases}
use Rattle.laws.proofs.WellFormed.{Chained, Holds}
use Rattle.laws.proofs.Chains.{without-none}
use Rattle.laws.proofs.ReadBack.{slot_read, over-over}
use Rattle.laws.proofs.Steps.{stopped-chain, chained-inserted, length_inserted}
use Rattle.chains.specs.EditedWords.{field_word, inserted_words, Insertable}
use Rattle.links.specs.Places.{last_slot, up_to, At, InTable, FirstStops}
use Rattle.links.proofs.Extracting.{in-slots, times-kind}
use Rattle.links.proofs.Inserting.{insertable, kind-words}
use Rattle.links.proofs.NextState.{next_start, next-read, next-holds, next-then}
use Rattle.links.proofs.Restart.{in_table, stopped-twice, stopped_at, stop-next, slot-now, still-in, idle-now}
use Rattle.going_on.specs.Queueing.{queued, Queues}

-- ---- the two kinds

-- a server timer that waits, and that is queued
record Serving (n : ℕ) : Type 0 where
  waits : waits_in Queue n ≡ false
  next : (kind_at n).when_fired ≡ n + 2
  idle : n - 2 ≡ (kind_at n).when_stopped
  only : (j : Chain) → waits_in j (n + 2) ≡ same_chain j Queue

serving : (n : ℕ) → 10 ≤ n → n ≤ 11 → Serving n
serving n a b =
    cases (eqb n 10)
    (λ e. subst Serving (sym (eqb-true n 10 e)) (record { waits = refl; next = refl; idle = refl; only = ten }))
    (λ e.
    let other : n ≢ 10 = eqb-false n 10 e in
    let is : n ≡ 11 = omega arith in
    subst Serving (sym is) (record { waits = refl; next = refl; idle = refl; only = eleven }))
  where
    ten : (j : Chain) → waits_in j 12 ≡ same_chain j Queue
    ten ByTicks = refl
    ten ByDate = refl
    ten Queue = refl

    eleven : (j : Chain) → waits_in j 13 ≡ same_chain j Queue
    eleven ByTicks = refl
    eleven ByDate = refl
    eleven Queue = refl

-- ---- the back of a queue

up-to-all : (l : List Link) → All (λ w. w.wait ≡ 0) l → up_to 0 l ≡ l
up-to-all [] h = refl
up-to-all (w ∷ ws) h = rw (le-leb w.wait 0 (omega (arith, h.0))) (ap {B = List Link} (λ l. w ∷ l) (up-to-all ws h.1))

pub place-last : (e : Link) (l : List Link) → All (λ w. w.wait ≡ 0) l → place (λ w. w.wait) e l ≡ l ++ (e ∷ [])
place-last e [] h = refl
place-last e (w ∷ ws) h = rw (le-leb w.wait e.wait (omega (arith, h.0))) (ap {B = List Link} (λ l. w ∷ l) (place-last e ws h.1))

-- ---- a table

module _ {k : Chain} (t : List ℕ) {i kind end : ℕ} (o : Holds t (read t)) (h : Queues k t i kind end) where
  here : InTable t i
  here = in_table o h.slot

  kinds : Serving kind
  kinds = serving kind h.low h.high

  kind-here : (slot_at (read t).slots i).kind ≡ kind
  kind-here = ap (λ (x : Slot). x.kind) (slot_read t i here.low here.high) ∙ sym h.is

  pub queue-stops : FirstStops t k i (kind - 2)
  queue-stops = record {
    slot = h.slot;
    waits = ap (waits_in k) (sym h.is) ∙ h.waits;
    kind = kinds.idle ∙ ap (λ (n : ℕ). (kind_at n).when_stopped) h.is;
    first = h.first;
    due = h.due;
  }

  same_queue : chain_of Queue (stopped_at t i) ≡ (read t).queue
  same_queue =
      stopped-chain (read t) i (idled (slot_at (read t).slots i)) Queue
      ∙ without-none i (read t).queue (times-kind t i here Queue false (ap (waits_in Queue) (sym h.is) ∙ kinds.waits))

  -- the state when it is queued, from that in which it has stopped
  abbrev again : State → State
  again s = inserted Queue (stopped s i (became (kind + 2) (slot_at s.slots i))) i 0

  -- u is the table after the stop
  module _ (u : List ℕ) (is : u ≡ written_over (stopped_at t i) t) where
    read-now : read u ≡ stopped_at t i
    read-now = next-read (stop-next t i here u is)

    last-now : At Queue (read u) 0 end 0
    last-now = record {
      slot = h.last ∙ ap (last_slot 0) (sym (ap (λ (s : State). up_to 0 s.queue) read-now ∙ ap (up_to 0) same_queue
          ∙ up-to-all (read t).queue (here.holds.chained.within Queue)));
      word = refl;
    }

    pub queue-insertable : Insertable Queue u end i 0
    queue-insertable = insertable Queue u i (still-in t i here u is) (idle-now t i here u is).idle 0 end 0 last-now

    again-chained : Chained (again (read u))
    again-chained =
        let there = still-in t i here u is in
        chained-inserted Queue (read u) there.holds.chained i 0 (became (kind + 2) (slot_at (read u).slots i)) there.low
        (in-slots u i there) kinds.only refl

    pub queue-now : {to : ℕ} {t₁ t₂ : List ℕ} → to ≡ kind + 2 → t₁ ≡ inserted_words Queue u end i 0 → t₂ ≡ set t₁ (field_word i 0) to
        → t₂ ≡ written_over (queued (read t) i) t
    queue-now {to} {t₁} {t₂} e put store =
        let s = stopped_at t i in
        let x = slot_at (read t).slots i in
        let y : State → Slot = λ z. became (kind + 2) (slot_at z.slots i) in
        let own : y s ≡ fired x =
        ap (became (kind + 2)) (slot-now t i here u is)
        ∙ ap (λ (m : ℕ). became m x) (sym (ap (λ (n : ℕ). (kind_at n).when_fired) kind-here ∙ kinds.next)) in
        kind-words Queue u i (still-in t i here u is) (idle-now t i here u is).idle 0 end 0 last-now (kind + 2) again-chained put (store ∙ ap (set t₁ (field_word i 0)) e)
        ∙ ap₂ (λ (z : State) (w : List ℕ). written_over (again z) w) read-now is
        ∙ over-over s (again s) t (length_inserted Queue s i 0 (y s))
        ∙ ap (λ (z : State). written_over (inserted Queue z i 0) t) (stopped-twice (read t) i (idled x) (y s) ∙ ap (stopped (read t) i) own)

    pub queue_keeps : {to : ℕ} {t₁ t₂ : List ℕ} → to ≡ kind + 2 → t₁ ≡ inserted_words Queue u end i 0 → t₂ ≡ set t₁ (field_word i 0) to
        → Holds t₂ (read t₂)
    queue_keeps {to} {t₁} {t₂} e put store =
        let x : State → Slot = λ z. became (kind + 2) (slot_at z.slots i) in
        next-holds (next-then (next_start (next-holds (stop-next t i here u is))) again again-chained (length_inserted Queue (read u) i 0 (x (read u)))
        (kind-words Queue u i (still-in t i here u is) (idle-now t i here u is).idle 0 end 0 last-now (kind + 2) again-chained put
        (store ∙ ap (set t₁ (field_word i 0)) e)))
