-- The timers that go on after they fired, back or to the queue: what each chain is then. Slots and clock stay. Assumes nothing.
use mathlib.Core.Path.{◌≡◌, refl, sym, ◌∙◌, subst}
use Prim.Native.Nat.{ℕ}
use mathlib.Core.Bool.{Bool, false, cond}
use mathlib.Core.Option.{Option, none, some}
use mathlib.Core.List.{List, [], ◌∷◌, map}
use Rattle.model.specs.Lists.{keep, place}
use Rattle.model.specs.declared.Chain.{Chain}
use Rattle.model.specs.declared.Chain.TheVariants.{ByTicks, ByDate, Queue}
use Rattle.model.specs.Kinds.{kind_at, same_chain, is_in, waits_in}
use Rattle.model.specs.State.{Slot, Link, State, chain_of, with_chain, slot_at}
use Rattle.model.specs.Directives.{inserted, wait_again, reinserted, go_on}
use Rattle.laws.proofs.ListLaws.{cases, clash}
use Rattle.laws.proofs.Order.{order_on}
use Rattle.laws.proofs.KindLaws.{same-chain}

module _ (s : State) (slots : List Slot) (l : List Link) where
  -- what is read of a state with one chain replaced
  pub with-chain-slots : (k : Chain) → (with_chain k s slots l).slots ≡ slots
  with-chain-slots ByTicks = refl
  with-chain-slots ByDate = refl
  with-chain-slots Queue = refl

  pub with-chain-clock : (k : Chain) → (with_chain k s slots l).clock ≡ s.clock
  with-chain-clock ByTicks = refl
  with-chain-clock ByDate = refl
  with-chain-clock Queue = refl

  pub with-chain-split : (k : Chain) → (with_chain k s slots l).split ≡ s.split
  with-chain-split ByTicks = refl
  with-chain-split ByDate = refl
  with-chain-split Queue = refl

  pub with-chain-server : (k : Chain) → (with_chain k s slots l).server ≡ s.server
  with-chain-server ByTicks = refl
  with-chain-server ByDate = refl
  with-chain-server Queue = refl

  pub with-chain-own : (k : Chain) → chain_of k (with_chain k s slots l) ≡ l
  with-chain-own ByTicks = refl
  with-chain-own ByDate = refl
  with-chain-own Queue = refl

  pub with-chain-apart : (k j : Chain) → same_chain j k ≡ false → chain_of j (with_chain k s slots l) ≡ chain_of j s
  with-chain-apart ByTicks ByTicks e = clash e
  with-chain-apart ByTicks ByDate e = refl
  with-chain-apart ByTicks Queue e = refl
  with-chain-apart ByDate ByTicks e = refl
  with-chain-apart ByDate ByDate e = clash e
  with-chain-apart ByDate Queue e = refl
  with-chain-apart Queue ByTicks e = refl
  with-chain-apart Queue ByDate e = refl
  with-chain-apart Queue Queue e = clash e

-- a timer that goes back into chain j, and its link there
abbrev pub goes_to : Chain → List Slot → Link → Bool
goes_to j slots w = waits_in j (slot_at slots w.slot).kind

abbrev pub again : Chain → List Slot → Link → Link
again j slots w = record { slot = w.slot; wait = wait_again j (slot_at slots w.slot).interval }

abbrev pub back_in : Chain → List Slot → List Link → List Link
back_in j slots ws = map (again j slots) (keep (goes_to j slots) ws)

-- chain k with slot i put into its place in it
abbrev with-slot : Chain → State → ℕ → List Link
with-slot k s i = place (λ w. w.wait) (record { slot = i; wait = wait_again k (slot_at s.slots i).interval }) (chain_of k s)

-- what stays as it is where it is so with one chain replaced
reinserted-same : {B : Type 0} (f : State → B) → ((k : Chain) (s : State) (l : List Link) → f (with_chain k s s.slots l) ≡ f s)
    → (o : Option Chain) (s : State) (i : ℕ) → f (reinserted o s i) ≡ f s
reinserted-same f h none s i = refl
reinserted-same f h (some k) s i = h k s (with-slot k s i)

go_on-same : {B : Type 0} (f : State → B) → ((k : Chain) (s : State) (l : List Link) → f (with_chain k s s.slots l) ≡ f s)
    → (ws : List Link) (s : State) → f (go_on ws s) ≡ f s
go_on-same f h [] s = refl
go_on-same f h (w ∷ ws) s =
    let o = (kind_at (slot_at s.slots w.slot).kind).chain in
    go_on-same f h ws (reinserted o s w.slot) ∙ reinserted-same f h o s w.slot

pub go_on-slots : (ws : List Link) (s : State) → (go_on ws s).slots ≡ s.slots
go_on-slots = go_on-same (λ s. s.slots) (λ k s l. with-chain-slots s s.slots l k)

pub go_on-clock : (ws : List Link) (s : State) → (go_on ws s).clock ≡ s.clock
go_on-clock = go_on-same (λ s. s.clock) (λ k s l. with-chain-clock s s.slots l k)

pub go_on-split : (ws : List Link) (s : State) → (go_on ws s).split ≡ s.split
go_on-split = go_on-same (λ s. s.split) (λ k s l. with-chain-split s s.slots l k)

pub go_on-server : (ws : List Link) (s : State) → (go_on ws s).server ≡ s.server
go_on-server = go_on-same (λ s. s.server) (λ k s l. with-chain-server s s.slots l k)

reinserted-chain : (o : Option Chain) (s : State) (i : ℕ) (j : Chain) → chain_of j (reinserted o s i) ≡ cond (is_in j o) (with-slot j s i) (chain_of j s)
reinserted-chain none s i j = refl
reinserted-chain (some k) s i j =
    cases (same_chain j k)
    (λ e. rw e (subst (λ (c : Chain). chain_of c (inserted k s i (wait_again k (slot_at s.slots i).interval)) ≡ with-slot c s i) (sym (same-chain j k e))
    (with-chain-own s s.slots (with-slot k s i) k)))
    (λ e. rw e (with-chain-apart s s.slots (with-slot k s i) k j e))

-- each chain then has those that go back into it, each put into its place
pub go_on-chain : (ws : List Link) (s : State) (j : Chain) → chain_of j (go_on ws s) ≡ order_on (λ w. w.wait) (chain_of j s) (back_in j s.slots ws)
go_on-chain [] s j = refl
go_on-chain (w ∷ ws) s j =
    let o = (kind_at (slot_at s.slots w.slot).kind).chain in
    go_on-chain ws (reinserted o s w.slot) j
    ∙ rw (reinserted-same (λ s. s.slots) (λ k s l. with-chain-slots s s.slots l k) o s w.slot, reinserted-chain o s w.slot j)
    (cases (is_in j o) (λ e. rw e) (λ e. rw e))
