-- Each start, reset, cancel and delete, one clause a call: the change of its slot that it is, what it reads of the state, and that it reads nothing that a
-- change of another slot touches. Assumes nothing.
use mathlib.Core.Path.{◌≡◌, refl, sym, ap, ◌∙◌}
use Prim.Native.Nat.{ℕ}
use native.Mathlib.Omega.{arith}
use mathlib.Core.Bool.{true, false}
use mathlib.Core.Option.{Option, none, some}
use mathlib.Core.List.{List}
use lib.ListN.{length}
use Rattle.calendar.specs.declared.WallTime.{WallTime}
use Rattle.calendar.specs.Calendar.{seconds_of}
use Rattle.model.specs.Status.{first_of}
use Rattle.model.specs.Calls.{Call, lay_out, create, ident, cancel, delete, fire_after, fire_when, fire_every, reset, ticks_left, tick, set_clock, get_clock, next_due, initiate_server, server_fire_after, server_fire_when, serve, leap, is_lay_out}
use Rattle.model.specs.declared.Chain.{Chain}
use Rattle.model.specs.declared.Chain.TheVariants.{ByTicks, Queue}
use Rattle.model.specs.declared.Mode.TheVariants.{After, When, Every, ServerAfter, ServerWhen}
use Rattle.model.specs.Kinds.{same_chain, waits_in, last_mode}
use Rattle.model.specs.State.{Slot, State, free, slot_at, index_of}
use Rattle.model.specs.Sound.{sound}
use Rattle.model.specs.Directives.{refusals, idled, waiting_as, effect}
use Rattle.laws.proofs.ListLaws.{clash}
use Rattle.laws.proofs.KindLaws.{mode-in, not-queue}
use Rattle.laws.proofs.AcceptedCalls.{Accepted, Named}
use Rattle.order.specs.Order.{line_of, changes_timer}
use Rattle.order.specs.Deadlines.{Deadline, deadline_of}
use Rattle.order.proofs.Commute.{changed, changed-count, changed-clock, changed-split, changed-server, other-slot}

-- a start, reset, cancel or delete on that id
pub data Changes : Call → ℕ → Type 0 where
  cancels : {party id : ℕ} → Changes (cancel party id) id
  deletes : {party id : ℕ} → Changes (delete party id) id
  starts-after : {party id n r u : ℕ} → Changes (fire_after party id n r u) id
  starts-when : {party id : ℕ} {w : WallTime} {r u : ℕ} → Changes (fire_when party id w r u) id
  starts-every : {party id n r u : ℕ} → Changes (fire_every party id n r u) id
  server-after : {party id n r u : ℕ} → Changes (server_fire_after party id n r u) id
  server-when : {party id : ℕ} {w : WallTime} {r u : ℕ} → Changes (server_fire_when party id w r u) id
  resets : {party id : ℕ} → Changes (reset party id) id

pub changes : (c : Call) → changes_timer c ≡ true → Changes c (line_of c).id
changes (lay_out n t split) e = clash (sym e)
changes (create party name) e = clash (sym e)
changes (ident party name) e = clash (sym e)
changes (cancel party id) e = cancels
changes (delete party id) e = deletes
changes (fire_after party id n r u) e = starts-after
changes (fire_when party id w r u) e = starts-when
changes (fire_every party id n r u) e = starts-every
changes (reset party id) e = resets
changes (ticks_left party id) e = clash (sym e)
changes (tick list) e = clash (sym e)
changes (set_clock w list) e = clash (sym e)
changes get_clock e = clash (sym e)
changes next_due e = clash (sym e)
changes initiate_server e = clash (sym e)
changes (server_fire_after party id n r u) e = server-after
changes (server_fire_when party id w r u) e = server-when
changes (serve party list) e = clash (sym e)
changes (leap k list) e = clash (sym e)

-- what the call makes of its slot
abbrev pub new_slot : {c : Call} {id : ℕ} → Changes c id → Slot → Slot
new_slot cancels x = idled x
new_slot deletes x = free
new_slot (starts-after {n = n} {r = r} {u = u}) x = waiting_as After x n r u
new_slot (starts-when {w = w} {r = r} {u = u}) x = waiting_as When x (seconds_of w) r u
new_slot (starts-every {n = n} {r = r} {u = u}) x = waiting_as Every x n r u
new_slot (server-after {n = n} {r = r} {u = u}) x = waiting_as ServerAfter x n r u
new_slot (server-when {w = w} {r = r} {u = u}) x = waiting_as ServerWhen x (seconds_of w) r u
new_slot resets x = waiting_as (last_mode x.kind) x x.interval x.routine x.user_data

pub no-lay-out : {c : Call} {id : ℕ} → Changes c id → is_lay_out c ≡ false
no-lay-out cancels = refl
no-lay-out deletes = refl
no-lay-out starts-after = refl
no-lay-out starts-when = refl
no-lay-out starts-every = refl
no-lay-out server-after = refl
no-lay-out server-when = refl
no-lay-out resets = refl

-- a call that starts no timer has no deadline
pub never : {C : Type 0} {w : Deadline} → none ≡ some w → C
never e = let z : ◌≡◌ {A = ℕ} 0 1 = cc in absurd (omega arith)

abbrev chain_in : Option Deadline → Chain
chain_in none = ByTicks
chain_in (some w) = w.chain

module _ (t : List ℕ) (s : State) where
  pub effect-changed : {c : Call} {id : ℕ} (v : Changes c id)
      → (effect t s c).state ≡ changed s (index_of id) (new_slot v (slot_at s.slots (index_of id))) (deadline_of s c)
  effect-changed cancels = refl
  effect-changed deletes = refl
  effect-changed starts-after = refl
  effect-changed starts-when = refl
  effect-changed starts-every = refl
  effect-changed server-after = refl
  effect-changed server-when = refl
  effect-changed resets = refl

  -- on a table that is not sound it is refused
  pub unsound-refused : {c : Call} {id : ℕ} → Changes c id → sound t ≡ false → first_of (refusals t s c) ≡ 100
  unsound-refused cancels e = rw e
  unsound-refused deletes e = rw e
  unsound-refused starts-after e = rw e
  unsound-refused starts-when e = rw e
  unsound-refused starts-every e = rw e
  unsound-refused server-after e = rw e
  unsound-refused server-when e = rw e
  unsound-refused resets e = rw e

  -- where it is accepted its id names a timer
  pub names-timer : {c : Call} {id : ℕ} → Changes c id → Accepted t s c → Named s id
  names-timer cancels p = p.0
  names-timer deletes p = p.0
  names-timer starts-after p = p.names-one
  names-timer starts-when p = p.names-one
  names-timer starts-every p = p.names-one
  names-timer server-after p = p.1.names-one
  names-timer server-when p = p.1.names-one
  names-timer resets p = p.0

  -- the timer that it starts waits in the chain of its deadline, which is not the queue
  pub stands-where : {c : Call} {id : ℕ} (v : Changes c id) (w : Deadline) → deadline_of s c ≡ some w
      → (k : Chain) → waits_in k (new_slot v (slot_at s.slots (index_of id))).kind ≡ same_chain k w.chain
  stands-where cancels w e k = never e
  stands-where deletes w e k = never e
  stands-where starts-after w e k = mode-in After k ∙ ap (λ (o : Option Deadline). same_chain k (chain_in o)) e
  stands-where starts-when w e k = mode-in When k ∙ ap (λ (o : Option Deadline). same_chain k (chain_in o)) e
  stands-where starts-every w e k = mode-in Every k ∙ ap (λ (o : Option Deadline). same_chain k (chain_in o)) e
  stands-where server-after w e k = mode-in ServerAfter k ∙ ap (λ (o : Option Deadline). same_chain k (chain_in o)) e
  stands-where server-when w e k = mode-in ServerWhen k ∙ ap (λ (o : Option Deadline). same_chain k (chain_in o)) e
  stands-where (resets {id = id}) w e k =
      mode-in (last_mode (slot_at s.slots (index_of id)).kind) k ∙ ap (λ (o : Option Deadline). same_chain k (chain_in o)) e

  pub not-queued : {c : Call} {id : ℕ} → Changes c id → (w : Deadline) → deadline_of s c ≡ some w → same_chain Queue w.chain ≡ false
  not-queued cancels w e = never e
  not-queued deletes w e = never e
  not-queued starts-after w e = ap (λ (o : Option Deadline). same_chain Queue (chain_in o)) (sym e)
  not-queued starts-when w e = ap (λ (o : Option Deadline). same_chain Queue (chain_in o)) (sym e)
  not-queued starts-every w e = ap (λ (o : Option Deadline). same_chain Queue (chain_in o)) (sym e)
  not-queued server-after w e = ap (λ (o : Option Deadline). same_chain Queue (chain_in o)) (sym e)
  not-queued server-when w e = ap (λ (o : Option Deadline). same_chain Queue (chain_in o)) (sym e)
  not-queued (resets {id = id}) w e =
      ap (λ (o : Option Deadline). same_chain Queue (chain_in o)) (sym e) ∙ not-queue (last_mode (slot_at s.slots (index_of id)).kind)

-- what such a call reads of a state: its own slot, how many there are, clock, L, and whether the server is initiated
pub record Alike (s u : State) (i : ℕ) : Type 0 where
  pub count : length u.slots ≡ length s.slots
  pub slot : slot_at u.slots i ≡ slot_at s.slots i
  pub clock : u.clock ≡ s.clock
  pub split : u.split ≡ s.split
  pub server : u.server ≡ s.server

pub alike-changed : (s : State) (i j : ℕ) (y : Slot) (b : Option Deadline) → (i ≡ j → ⊥) → Alike s (changed s j y b) i
alike-changed s i j y b n = record {
  count = changed-count s j y b;
  slot = other-slot s j y b i n;
  clock = changed-clock s j y b;
  split = changed-split s j y b;
  server = changed-server s j y b;
}

-- on alike states, in tables both sound or both not, its rules are the same
module _ (t t' : List ℕ) (s u : State) (as-sound : sound t' ≡ sound t) where
  pub alike-rules : {c : Call} {id : ℕ} → Changes c id → Alike s u (index_of id) → refusals t' u c ≡ refusals t s c
  alike-rules cancels h = rw (as-sound, h.count, h.slot, h.split)
  alike-rules deletes h = rw (as-sound, h.count, h.slot, h.split)
  alike-rules starts-after h = rw (as-sound, h.count, h.slot, h.split)
  alike-rules starts-when h = rw (as-sound, h.count, h.slot, h.clock, h.split)
  alike-rules starts-every h = rw (as-sound, h.count, h.slot, h.split)
  alike-rules server-after h = rw (as-sound, h.count, h.slot, h.server, h.split)
  alike-rules server-when h = rw (as-sound, h.count, h.slot, h.clock, h.server, h.split)
  alike-rules resets h = rw (as-sound, h.count, h.slot, h.split)

-- and its deadline
pub alike-deadline : (s u : State) {c : Call} {id : ℕ} → Changes c id → Alike s u (index_of id) → deadline_of u c ≡ deadline_of s c
alike-deadline s u cancels h = refl
alike-deadline s u deletes h = refl
alike-deadline s u starts-after h = refl
alike-deadline s u starts-when h = refl
alike-deadline s u starts-every h = refl
alike-deadline s u server-after h = refl
alike-deadline s u server-when h = refl
alike-deadline s u resets h = rw h.slot
