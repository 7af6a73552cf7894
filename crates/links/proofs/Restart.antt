-- To stop and then to start is to start: the table after the stop holds the stopped state and is read as that, and what a start makes of it is
-- what it makes of the state before. Assumes nothing.
use mathlib.Core.Path.{◌≡◌, sym, ap, ap₂, ◌∙◌}
use Prim.Native.Nat.{ℕ}
use native.Mathlib.Omega.{arith}
use mathlib.Core.Bool.{false}
use mathlib.Core.List.{List}
use lib.ListN.{length}
use Rattle.model.specs.declared.Mode.{Mode}
use Rattle.model.specs.Kinds.{kind_at, chain_for, waits_in, linked}
use Rattle.model.specs.State.{Slot, Link, State, slot_at, without}
use Rattle.model.specs.Directives.{stopped, idled, inserted, waiting_as, started}
use Rattle.model.specs.Words.{written_over, read, kind_of}
use Rattle.laws.proofs.WellFormed.{Holds}
use Rattle.laws.proofs.Slots.{at_same, put-put}
use Rattle.laws.proofs.Chains.{times-without, without-none}
use Rattle.laws.proofs.KindLaws.{in-none, stopped-not-in}
use Rattle.laws.proofs.StateWords.{holds_parts}
use Rattle.laws.proofs.ReadBack.{count-is, over-over}
use Rattle.laws.proofs.Steps.{length-stopped, chained-stopped, length-started}
use Rattle.links.specs.Places.{InTable, IdleInTable, IsSlot}
use Rattle.links.proofs.Extracting.{in-slots, kind-is, stop-idle}
use Rattle.links.proofs.NextState.{Next, next_start, next-read, next-holds, next-then}

pub stopped-twice : (s : State) (i : ℕ) (x y : Slot) → stopped (stopped s i x) i y ≡ stopped s i y
stopped-twice s i x y =
    let once : (l : List Link) → without i (without i l) ≡ without i l = λ l. without-none i (without i l) (times-without i l) in
    λ d. record {
      slots = put-put s.slots i x y d;
      clock = s.clock;
      ticking = once s.ticking d;
      dated = once s.dated d;
      split = s.split;
      server = s.server;
      queue = once s.queue d;
    }

pub in_table : {t : List ℕ} {i : ℕ} → Holds t (read t) → IsSlot t i → InTable t i
in_table h s = record { holds = h; low = s.low; high = s.high }

pub is_slot : {t : List ℕ} {i : ℕ} → InTable t i → IsSlot t i
is_slot h = record { low = h.low; high = h.high }

abbrev pub stopped_at : List ℕ → ℕ → State
stopped_at t i = stopped (read t) i (idled (slot_at (read t).slots i))

-- the stop of a timer that is in no chain
pub stays-unlinked : {t u : List ℕ} {i : ℕ} → InTable t i → linked (slot_at (read t).slots i).kind ≡ false → u ≡ written_over (stopped_at t i) t → u ≡ t
stays-unlinked {t} {u} {i} h idle is =
    is ∙ sym (stop-idle t i h (λ k. in-none (kind_at (kind_of t i)).chain k (ap linked (sym (kind-is t i h)) ∙ idle)))

-- u is the table after the stop
module _ (t : List ℕ) (i : ℕ) (h : InTable t i) (u : List ℕ) (is : u ≡ written_over (stopped_at t i) t) where
  pub stop-next : Next t (stopped_at t i) u
  stop-next =
      let x = slot_at (read t).slots i in
      next-then (next_start h.holds) (λ s. stopped s i (idled (slot_at s.slots i)))
      (chained-stopped (read t) h.holds.chained i (idled x) h.low (in-slots t i h) (λ k. stopped-not-in k x.kind))
      (length-stopped (read t) i (idled x)) is

  pub slot-now : slot_at (stopped_at t i).slots i ≡ idled (slot_at (read t).slots i)
  slot-now = at_same (read t).slots i (idled (slot_at (read t).slots i)) h.low (in-slots t i h)

  size-now : length (stopped_at t i).slots ≡ length (read t).slots
  size-now = length-stopped (read t) i (idled (slot_at (read t).slots i))

  pub still-in : InTable u i
  still-in = record {
    holds = next-holds stop-next;
    low = h.low;
    high = omega (arith, count-is u (stopped_at t i) stop-next.holds, size-now, in-slots t i h);
  }

  pub idle-now : IdleInTable u i
  idle-now = record {
    slot = record { low = still-in.low; high = still-in.high };
    idle = λ k.
        let kind : kind_of u i ≡ (slot_at (stopped_at t i).slots i).kind =
        ap (λ (x : Slot). x.kind) ((holds_parts u (stopped_at t i) stop-next.holds).slots i h.low (omega (arith, size-now, in-slots t i h))) in
        ap (waits_in k) (kind ∙ ap (λ (x : Slot). x.kind) slot-now) ∙ stopped-not-in k (slot_at (read t).slots i).kind;
  }

  pub restarted : (m : Mode) (n r d : ℕ) (v : List ℕ) → v ≡ written_over (started m (read u) i n r d) u → v ≡ written_over (started m (read t) i n r d) t
  restarted m n r d v e =
      let s = stopped_at t i in
      let x = slot_at (read t).slots i in
      e ∙ ap₂ (λ (z : State) (w : List ℕ). written_over (started m z i n r d) w) (next-read stop-next) is
      ∙ over-over s (started m s i n r d) t (length-started m s i n r d)
      ∙ ap (λ (z : State). written_over (inserted (chain_for m) z i n) t)
      (stopped-twice (read t) i (idled x) (waiting_as m (slot_at s.slots i) n r d)
      ∙ ap (λ (z : Slot). stopped (read t) i (waiting_as m z n r d)) slot-now)
