-- The party's first in the queue is handed out: it comes off the queue, which is to stop it, and its entry is the first of the list. And the words of
-- a table whose server is initiated. Assumes nothing.
use mathlib.Core.Path.{◌≡◌, refl, sym, ap, ap₂, ◌∙◌}
use mathlib.Core.Logic.{◌≢◌, ◌⊎◌, inl, inr}
use Prim.Native.Nat.{ℕ, ◌+◌, ◌*◌, ◌≤◌, ◌<◌}
use native.Mathlib.Omega.{arith}
use mathlib.Core.Bool.{Bool, true, false, cond}
use mathlib.Core.List.{List, [], ◌∷◌, map}
use lib.ListN.{length, set, take, drop}
use lib.Seq.{sets}
use borrow.Author.Tests.{eq-eqb, ne_eqb}
use Rattle.std.specs.Prelude.{Option, Some, None}
use Rattle.model.specs.declared.Chain.TheVariants.{Queue}
use Rattle.model.specs.Lists.{keep, drop_first}
use Rattle.model.specs.Kinds.{kind_at, waits_in}
use Rattle.model.specs.State.{Link, State, chain_of, with_chain, slot_at, put_at, without, id_base, listed}
use Rattle.model.specs.Directives.{stopped, became, idled, fired_all, is_own, front, handed_out, initiated}
use Rattle.model.specs.Words.{first, written_over, slot_from, read, server_initiated}
use Rattle.model.specs.Sound.{sound}
use Rattle.model.specs.Outcome.{written}
use Rattle.laws.proofs.ListLaws.{cases, drop_first-none}
use Rattle.laws.proofs.KindLaws.{of-chain, each-chain}
use Rattle.laws.proofs.WellFormed.{times_in, Holds}
use Rattle.laws.proofs.Chains.{without-none, once-apart}
use Rattle.laws.proofs.ReadBack.{slots_length, slot_read}
use Rattle.laws.proofs.SoundHolds.{sound-holds}
use Rattle.laws.proofs.Steps.{same-state, with-chain-apart, stopped-chain}
use Rattle.links.specs.Places.{InTable}
use Rattle.links.proofs.Storing.{same-slots}
use Rattle.links.proofs.LinkInMiddle.{times-at, mid-own, mid-once}
use Rattle.slots.specs.Search.{some_slot}
use Rattle.slots.proofs.Laws.{is_slot, no_slot}
use Rattle.firing.proofs.Entries.{sets-written}
use Rattle.server.specs.HandedOut.{HandedOut}
use Rattle.server.proofs.QueueWalk.{First, found, first-kept, none_kept, dropped, without-mid, ahead_of}

-- ---- initiated or not

module _ (t : List ℕ) where
  pub server-up : server_initiated t ≡ 1 → (read t).server ≡ true
  server-up e = eq-eqb (server_initiated t) 1 e

  pub server-down : server_initiated t ≢ 1 → (read t).server ≡ false
  server-down e = ne_eqb (server_initiated t) 1 e

-- ---- what serve leaves

pub record Served (t : List ℕ) (party : ℕ) (list : List ℕ) (m : ℕ) (t' list' : List ℕ) : Type 0 where
  pub table : t' ≡ written_over (handed_out (read t) party) t
  pub answer : m ∷ [] ≡ length (front (read t) party) ∷ []
  pub entries : list' ≡ written (map (listed (read t).slots) (front (read t) party)) list

-- a queued timer that is served is idle, as one that is cancelled
served-kind : (n : ℕ) → waits_in Queue n ≡ true → (kind_at n).when_fired ≡ (kind_at n).when_stopped
served-kind = of-chain Queue (λ x. x.when_fired) (λ x. x.when_stopped) refl

module _ {t : List ℕ} (h : Holds t (read t)) (party : ℕ) {r : Option ℕ} (answer : r ≡ some_slot (first (front (read t) party))) where
  abbrev s : State
  s = read t

  abbrev own : Link → Bool
  own = is_own s party

  -- the party has none in the queue, or a first one
  abbrev Which : Type 0
  Which = (keep own s.queue ≡ []) ⊎ First own s.queue

  which : Which
  which = go (keep own s.queue) refl
    where
      go : (l : List Link) → keep own s.queue ≡ l → Which
      go [] q = inl q
      go (w ∷ ws) q = inr (found own s.queue w ws q)

  -- where it has a first one, that is at slot i
  module _ (f : First own s.queue) where
    abbrev e : Link
    e = f.entry

    one : front s party ≡ e ∷ []
    one =
        ap (λ (l : List Link). take 1 (keep own l)) f.whole
        ∙ ap (take 1) (first-kept own f.others e f.back f.not-those f.is)

    at : first (front s party) ≡ e.slot
    at = ap first one

  pub serve-none : (list : List ℕ) → r ≡ None → Served t party list 0 t list
  serve-none list z = none which
    where
      none : Which → Served t party list 0 t list
      none (inl n) =
          let empty : front s party ≡ [] = ap (take 1) n in
          record {
            table = sym (ap₂ (λ (ws q : List Link). written_over (with_chain Queue s (fired_all ws s.slots) q) t) empty
                (drop_first-none own s.queue (none_kept own s.queue n)) ∙ h.is);
            answer = ap {B = List ℕ} (λ (q : List Link). length q ∷ []) (sym empty);
            entries = ap (λ (q : List Link). written (map (listed s.slots) q) list) (sym empty);
          }
      none (inr f) =
          let low = (mid-own Queue t s h f.others f.entry f.back f.whole).0 in
          absurd (omega (arith, at f, no_slot answer z))

  module _ {i : ℕ} (found-at : r ≡ Some i) where
    here : i ≡ first (front s party)
    here = (is_slot answer found-at).0

    some : i ≢ 0
    some = (is_slot answer found-at).1

    pub a : First own s.queue
    a = there which
      where
        there : Which → First own s.queue
        there (inl n) = absurd (some (here ∙ ap (λ (l : List Link). first (take 1 l)) n))
        there (inr f) = f

    abbrev j : ℕ
    j = a.entry.slot

    here-at : i ≡ j
    here-at = here ∙ at a

    in-range : (0 < j) × (j ≤ length s.slots)
    in-range = mid-own Queue t s h a.others a.entry a.back a.whole

    pub serve-place : InTable t i
    serve-place =
        let r = in-range in
        record { holds = h; low = omega (arith, here-at); high = omega (arith, here-at, slots_length t) }

    own-slot : slot_at s.slots j ≡ slot_from t i
    own-slot = ap (slot_at s.slots) (sym here-at) ∙ slot_read t i serve-place.low serve-place.high

    here-once : times_in s.queue j ≡ 1
    here-once =
        ap (λ (c : List Link). times_in c j) a.whole ∙ omega (
          arith,
          times-at a.others a.entry a.back,
          mid-once Queue t s h a.others a.entry a.back a.whole j,
        )

    waits : waits_in Queue (slot_at s.slots j).kind ≡ true
    waits =
        cases (waits_in Queue (slot_at s.slots j).kind) (λ e. e)
        (λ e. absurd (let z : times_in (chain_of Queue s) j ≡ 0 = h.chained.meets Queue j ∙ rw e in omega (arith, z, here-once)))

    -- the queue without it
    rest : drop_first own s.queue ≡ without j s.queue
    rest =
        let apart = ahead_of h a.others a.entry a.back a.whole in
        ap (drop_first own) a.whole ∙ dropped own a.others a.entry a.back a.not-those a.is
        ∙ sym (ap (without j) a.whole ∙ without-mid a.others a.entry a.back apart.0 apart.1)

    -- to be handed out is to stop
    handed-is : handed_out s party ≡ stopped s j (idled (slot_at s.slots j))
    handed-is =
        let x = slot_at s.slots j in
        let sl = put_at s.slots j (idled x) in
        ap₂ (λ (ws q : List Link). with_chain Queue s (fired_all ws s.slots) q) (one a) rest
        ∙ ap (λ (n : ℕ). with_chain Queue s (put_at s.slots j (became n x)) (without j s.queue)) (served-kind x.kind waits)
        ∙ same-state (with_chain Queue s sl (without j s.queue)) (stopped s j (idled x)) refl refl refl refl
        (each-chain (λ m. chain_of m (with_chain Queue s sl (without j s.queue)) ≡ chain_of m (stopped s j (idled x))) Queue
        (sym (stopped-chain s j (idled x) Queue))
        (λ m away. with-chain-apart s sl (without j s.queue) Queue m away
        ∙ sym (stopped-chain s j (idled x) m
        ∙ without-none j (chain_of m s) (omega (arith, here-once, once-apart s h.chained m Queue away j)))))

    pub serve-some : (list : List ℕ) → 3 ≤ length list → {t' list' : List ℕ} → HandedOut t list i t' list' → Served t party list 1 t' list'
    serve-some list long f =
        let fs = map (listed s.slots) (a.entry ∷ []) in
        record {
          table = f.table ∙ ap (λ (k : ℕ). written_over (stopped s k (idled (slot_at s.slots k))) t) here-at
              ∙ ap (λ (z : State). written_over z t) (sym handed-is);
          answer = ap {B = List ℕ} (λ (q : List Link). length q ∷ []) (sym (one a));
          entries = f.entry
              ∙ (λ d. sets list 0 ((id_base + here-at d) ∷ (sym own-slot d).routine ∷ (sym own-slot d).user_data ∷ []))
              ∙ sets-written fs list (omega arith)
              ∙ ap (λ (q : List Link). written (map (listed s.slots) q) list) (sym (one a));
        }

-- ---- initiate server

pub initiated-is : (t : List ℕ) → sound t ≡ true → set t 8 1 ≡ written_over (initiated (read t)) t
initiated-is t ok =
    let s = read t in
    let rest = drop (10 + 8 * length s.slots) t in
    ap (λ (u : List ℕ). set u 8 1) (sym (sound-holds t ok).is)
    ∙ ap {B = List ℕ} (λ (l : List ℕ). length s.slots ∷ s.clock.per_second ∷ cond s.clock.is_set 1 0 ∷ s.clock.second ∷ s.clock.ticks_into
    ∷ first s.ticking ∷ first s.dated ∷ s.split ∷ 1 ∷ first s.queue ∷ l) (sym (same-slots s s.slots s.clock true 1 s.slots rest))
