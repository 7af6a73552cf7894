-- The first round of a firing. Where the first link of a chain is due, what there is to take off is that link and then what there is when it has
-- come off: so the loop's invariant says that what is left to do from here is all that is left from the start. Assumes nothing.
use mathlib.Core.Path.{◌≡◌, refl, sym, ap, ap₂, ◌∙◌, subst}
use mathlib.Core.Logic.{◌≢◌}
use Prim.Native.Nat.{ℕ, suc, ◌+◌, ◌*◌, ◌≤◌, ◌<◌}
use native.Mathlib.Omega.{arith}
use mathlib.Core.Bool.{Bool, true, false, cond, not, ◌||◌, or_assoc, or-true, or-false}
use mathlib.Core.List.{List, [], ◌∷◌, ◌++◌, map, append-nil}
use lib.ListN.{length}
use lib.Seq.{sets, length-sets}
use lib.Dec.{leb, eqb}
use borrow.Author.Tests.{eq-eqb, ne_eqb, leb-true, leb-false, le-leb, lt-leb}
use Rattle.model.specs.declared.Chain.{Chain}
use Rattle.model.specs.declared.Chain.TheVariants.{ByTicks, ByDate, Queue}
use Rattle.model.specs.Kinds.{kind_at, same_chain, is_in, waits_in, for_server}
use Rattle.model.specs.Lists.{keep, any, All, Sorted}
use Rattle.model.specs.State.{Slot, Link, State, chain_of, slot_at, without, id_base, Fired, listed}
use Rattle.model.specs.Directives.{stopped, idled, due, without_server}
use Rattle.model.specs.Words.{first, word, head_word, slot_from, read, written_over, kind_of, wait_of, routine_of, data_of, next_of}
use Rattle.model.specs.Outcome.{entry_words}
use Rattle.laws.proofs.ListLaws.{cases, clash, all, all_map, keep-none, keep-on}
use Rattle.laws.proofs.WellFormed.{times_in, Holds}
use Rattle.laws.proofs.Chains.{times-own, without-none, once}
use Rattle.laws.proofs.KindLaws.{on-numbers, chain-sym, periodic}
use Rattle.laws.proofs.Slots.{Memo, memo}
use Rattle.laws.proofs.StateWords.{length_over}
use Rattle.laws.proofs.ReadBack.{slots_length, slot_read, over-over}
use Rattle.links.proofs.NextState.{Next, next_start, next-read, next-holds, next-then}
use Rattle.links.specs.Places.{last_slot}
use Rattle.links.proofs.LinkInMiddle.{last-slot}
use Rattle.going_on.specs.Queueing.{queued, Queues}
use Rattle.firing.specs.Lists.{EndsAt, Room, ComesOff, CameOff, Turns, Tally, tally_of, Turned, off_one, off_all, is_periodic_at, due_listed, TakesOff}
use Rattle.firing.proofs.TwoRounds.{is_server_at, to_queue, one-chain, one-memo, one-queue, one-chained, length-off_all, periodic-stopped}
use Rattle.firing.proofs.Entries.{same_entries}
use Rattle.firing.proofs.Heads.{Front, front, no_front, head_of}

-- of the kinds that wait one is periodic
pub six-periodic : (k : Chain) (n : ℕ) → waits_in k n ≡ true → eqb n 6 ≡ periodic (kind_at n).last
six-periodic k n w =
    ap (λ (b : Bool). cond b (eqb n 6) (periodic (kind_at n).last)) (sym w) ∙ each k
  where
    each : (k : Chain) → cond (waits_in k n) (eqb n 6) (periodic (kind_at n).last) ≡ periodic (kind_at n).last
    each ByTicks = on-numbers (λ m x. cond (is_in ByTicks x.chain) (eqb m 6) (periodic x.last)) (λ _ x. periodic x.last) refl (λ m _. refl) n
    each ByDate = on-numbers (λ m x. cond (is_in ByDate x.chain) (eqb m 6) (periodic x.last)) (λ _ x. periodic x.last) refl (λ m _. refl) n
    each Queue = on-numbers (λ m x. cond (is_in Queue x.chain) (eqb m 6) (periodic x.last)) (λ _ x. periodic x.last) refl (λ m _. refl) n

-- of the kinds that wait, and are not queued, 10 and 11 are server timers'
ten-server : (k : Chain) → same_chain Queue k ≡ false → (n : ℕ) → waits_in k n ≡ true → leb 10 n ≡ for_server (kind_at n).last
ten-server k apart n w =
    ap (λ (b : Bool). cond b (leb 10 n) (for_server (kind_at n).last)) (sym w) ∙ each k apart
  where
    each : (k : Chain) → same_chain Queue k ≡ false → cond (waits_in k n) (leb 10 n) (for_server (kind_at n).last) ≡ for_server (kind_at n).last
    each ByTicks e = on-numbers (λ m x. cond (is_in ByTicks x.chain) (leb 10 m) (for_server x.last)) (λ _ x. for_server x.last) refl (λ m _. refl) n
    each ByDate e = on-numbers (λ m x. cond (is_in ByDate x.chain) (leb 10 m) (for_server x.last)) (λ _ x. for_server x.last) refl (λ m _. refl) n
    each Queue e = clash e

-- and there is none above 11
pub not-above : (k : Chain) → same_chain Queue k ≡ false → (n : ℕ) → waits_in k n ≡ true → n ≤ 11
not-above k apart n w = leb-true n 11 (ap (λ (b : Bool). cond b (leb n 11) true) (sym w) ∙ each k apart)
  where
    each : (k : Chain) → same_chain Queue k ≡ false → cond (waits_in k n) (leb n 11) true ≡ true
    each ByTicks e = on-numbers (λ m x. cond (is_in ByTicks x.chain) (leb m 11) true) (λ _ _. true) refl (λ m _. refl) n
    each ByDate e = on-numbers (λ m x. cond (is_in ByDate x.chain) (leb m 11) true) (λ _ _. true) refl (λ m _. refl) n
    each Queue e = clash e

-- room, on a table whose chains are in order
pub record Space (k : Chain) (t list : List ℕ) (limit from end : ℕ) : Type 0 where
  pub holds : Holds t (read t)
  pub none_left : k ≡ ByTicks → limit ≡ 0
  pub waits : same_chain Queue k ≡ false
  pub last : EndsAt t end
  pub fits : 3 * (from + length (due k limit (read t))) ≤ length list
  pub few : from + length (due k limit (read t)) < 256

pub space : {k : Chain} {t l : List ℕ} {limit from end : ℕ} → Holds t (read t) → Room k t l limit from end → Space k t l limit from end
space h r = record { holds = h; none_left = r.none_left; waits = r.waits; last = r.last; fits = r.fits; few = r.few }

-- ---- none is due

none-due : (k : Chain) (t l : List ℕ) (limit n end i : ℕ) (b : Bool) → Holds t (read t) → EndsAt t end → All (λ w. limit < w.wait) (chain_of k (read t))
    → TakesOff k t l limit n b (tally_of n b end i) t l
none-due k t l limit n end i b h last late =
    let c = chain_of k (read t) in
    let none : due k limit (read t) ≡ [] = keep-none (λ w. leb w.wait limit) c (all_map (λ w p. lt-leb w.wait limit p) c late) in
    record {
      count = omega (arith, ap (λ (d : List Link). length (without_server (read t).slots d)) none);
      periodic = sym (ap (λ (d : List Link). b || any (is_periodic_at (read t).slots) d) none ∙ or-false b);
      last = last;
      table = sym (ap (λ (d : List Link). written_over (off_all d (read t)) t) none ∙ h.is);
      entries = ap (λ (d : List Link). sets l (3 * n) (entry_words (map (listed (read t).slots) (without_server (read t).slots d)))) (sym none);
    }

-- ---- one turn: the first link is due, and comes off

module _ {k : Chain} {t l : List ℕ} {limit n end i : ℕ} (r : Space k t l limit n end) (a : Front k t i) (low : a.entry.wait ≤ limit) where
  -- its words
  slot_is : slot_at (read t).slots a.entry.slot ≡ slot_from t i
  slot_is = ap (slot_at (read t).slots) (sym a.slot) ∙ slot_read t i a.low (omega (arith, a.high, slots_length t))

  waits-here : waits_in k (kind_of t i) ≡ true
  waits-here =
      let whole = ap (λ (c : List Link). times_in c a.entry.slot) a.whole in
      let meets = r.holds.chained.meets k a.entry.slot in
      ap (λ (x : Slot). waits_in k x.kind) (sym slot_is)
      ∙ cases (waits_in k (slot_at (read t).slots a.entry.slot).kind) (λ e. e)
      (λ e. absurd (let z : times_in (chain_of k (read t)) a.entry.slot ≡ 0 = meets ∙ rw e in omega (arith, z, whole, times-own a.entry a.back)))

  -- it is a server timer's or not, by its kind
  server-is : is_server_at (read t).slots a.entry ≡ leb 10 (kind_of t i)
  server-is = ap (λ (x : Slot). for_server (kind_at x.kind).last) slot_is ∙ sym (ten-server k r.waits (kind_of t i) waits-here)

  -- the state when it has come off
  abbrev after : State
  after = off_one (read t) a.entry.slot

  not_behind : times_in a.back a.entry.slot ≡ 0
  not_behind =
      let one : times_in (a.entry ∷ a.back) a.entry.slot ≤ 1 =
      subst (λ (c : List Link). times_in c a.entry.slot ≤ 1) a.whole (once (read t) r.holds.chained k a.entry.slot) in
      omega (arith, one, times-own a.entry a.back)

  chain-after : chain_of k after ≡ a.back
  chain-after =
      let j = a.entry.slot in
      one-chain (read t) j k (chain-sym k Queue ∙ r.waits) ∙ ap (without j) a.whole
      ∙ rw (eq-eqb j j refl) (without-none j a.back not_behind)

  due-is : due k limit (read t) ≡ a.entry ∷ due k limit after
  due-is =
      ap (keep (λ w. leb w.wait limit)) a.whole
      ∙ rw (le-leb a.entry.wait limit low) (ap {B = List Link} (λ c. a.entry ∷ keep (λ w. leb w.wait limit) c) (sym chain-after))

  pub turns : Turns k t l i n end
  turns = record {
    comes = record {
      slot = record { low = a.low; high = omega (arith, a.high, slots_length t) };
      is = refl;
      waits = waits-here;
      first = a.previous;
      due = λ ticking. omega (arith, a.wait, low, r.none_left ticking);
      fits = omega (arith, r.fits, ap length due-is);
      few = omega (arith, r.few, ap length due-is);
    };
    waits = r.waits;
    last = r.last;
  }

  -- the entry that is written is the link's
  entry-is : (es : List ℕ) → ◌≡◌ {A = List ℕ} ((id_base + i) ∷ routine_of t i ∷ data_of t i ∷ es)
      ((id_base + a.entry.slot) ∷ (slot_at (read t).slots a.entry.slot).routine ∷ (slot_at (read t).slots a.entry.slot).user_data ∷ es)
  entry-is es = λ j. (id_base + a.slot j) ∷ (sym slot_is j).routine ∷ (sym slot_is j).user_data ∷ es

  -- the words t' hold that state
  module _ {t' : List ℕ} (is : t' ≡ written_over (off_one (read t) a.entry.slot) t) where
    next : Next t after t'
    next =
        let j = a.entry.slot in
        let waits = ap (λ (x : Slot). waits_in k x.kind) slot_is ∙ waits-here in
        next-then (next_start r.holds) (λ s. off_one s j)
        (one-chained (read t) j r.holds.chained k r.waits waits (omega (arith, a.slot, a.low)) (omega (arith, a.slot, a.high)))
        (length-off_all (a.entry ∷ []) (read t)) is

    due-next : due k limit (read t) ≡ a.entry ∷ due k limit (read t')
    due-next = due-is ∙ ap {B = List Link} (λ (s : State). a.entry ∷ due k limit s) (sym (next-read next))

    chain-shorter : length (chain_of k (read t')) < length (chain_of k (read t))
    chain-shorter = omega (arith, ap length (ap (chain_of k) (next-read next) ∙ chain-after), ap length a.whole)

    -- what a slot remembers it still does
    memo-next : (j : ℕ) → memo (slot_at (read t').slots j) ≡ memo (slot_at (read t).slots j)
    memo-next j = ap (λ (s : State). memo (slot_at s.slots j)) (next-read next) ∙ one-memo (read t) a.entry.slot j

    -- those that are listed after it
    listed_next : without_server (read t').slots (due k limit (read t')) ≡ without_server (read t).slots (due k limit (read t'))
    listed_next =
        keep-on (λ w. not (is_server_at (read t').slots w)) (λ w. not (is_server_at (read t).slots w)) (due k limit (read t'))
        (all (λ w. ap (λ (m : Memo). not (for_server m.last)) (memo-next w.slot)) (due k limit (read t')))

    listed-is : due_listed k limit (read t)
        ≡ cond (not (leb 10 (kind_of t i))) (a.entry ∷ due_listed k limit (read t')) (due_listed k limit (read t'))
    listed-is =
        ap (without_server (read t).slots) due-next
        ∙ ap₂ (λ (b : Bool) (ls : List Link). cond (not b) (a.entry ∷ ls) ls) server-is (sym listed_next)

    -- whether one is periodic
    flag_is : (b : Bool) {b' : Bool} → b' ≡ (b || eqb (kind_of t i) 6)
        → (b' || any (is_periodic_at (read t').slots) (due k limit (read t'))) ≡ (b || any (is_periodic_at (read t).slots) (due k limit (read t)))
    flag_is b flag =
        let later = due k limit (read t') in
        let sl = (read t).slots in
        let own : eqb (kind_of t i) 6 ≡ is_periodic_at sl a.entry =
        six-periodic k (kind_of t i) waits-here ∙ ap (λ (x : Slot). periodic (kind_at x.kind).last) (sym slot_is) in
        ap₂ (λ (c d : Bool). c || d) (flag ∙ ap (λ (c : Bool). b || c) own) (periodic-stopped sl (read t').slots memo-next later)
        ∙ or_assoc b (is_periodic_at sl a.entry) (any (is_periodic_at sl) later)
        ∙ ap (λ (d : List Link). b || any (is_periodic_at sl) d) (sym due-next)

    table_is : {u : List ℕ} → u ≡ written_over (off_all (due k limit (read t')) (read t')) t' → u ≡ written_over (off_all (due k limit (read t)) (read t)) t
    table_is e =
        let later = due k limit (read t') in
        e ∙ ap₂ (λ (s : State) (w : List ℕ). written_over (off_all later s) w) (next-read next) next.is
        ∙ over-over after (off_all later after) t (length-off_all later after)
        ∙ ap (λ (d : List Link). written_over (off_all d (read t)) t) (sym due-next)

  -- it was queued, or listed
  module _ {b : Bool} {c' : Tally} {t' l' : List ℕ} (e : Turned t l (tally_of n b end i) c' t' l') where
    abbrev kind : ℕ
    kind = kind_of t i

    abbrev j : ℕ
    j = a.entry.slot

    off-is : t' ≡ written_over (off_one (read t) a.entry.slot) t
    off-is =
        let to : Bool → List ℕ = λ c. written_over (cond c (queued (read t) j) (stopped (read t) j (idled (slot_at (read t).slots j)))) t in
        cases (leb 10 kind)
        (λ f. (e.queues (leb-true 10 kind f)).0 ∙ ap (λ (m : ℕ). written_over (queued (read t) m) t) a.slot ∙ ap to (sym (server-is ∙ f)))
        (λ f. (e.lists (leb-false 10 kind f)).0.table
        ∙ ap (λ (m : ℕ). written_over (stopped (read t) m (idled (slot_at (read t).slots m))) t) a.slot ∙ ap to (sym (server-is ∙ f)))

    pub less : length (chain_of k (read t')) < length (chain_of k (read t))
    less = chain-shorter off-is

    -- the queue's last slot
    queue-is : (read t').queue ≡ (read t).queue ++ cond (leb 10 kind) (to_queue j ∷ []) []
    queue-is =
        let waits = ap (λ (x : Slot). waits_in k x.kind) slot_is ∙ waits-here in
        ap (λ (s : State). s.queue) (next-read (next off-is))
        ∙ one-queue (read t) j r.holds.chained k r.waits waits (omega (arith, a.slot, a.low)) (omega (arith, a.slot, a.high))
        ∙ ap (λ (c : Bool). (read t).queue ++ cond c (to_queue j ∷ []) []) server-is

    last-next : EndsAt t' c'.end
    last-next =
        cases (leb 10 kind)
        (λ f. ap (λ (c : Tally). c.end) (e.queues (leb-true 10 kind f)).2 ∙ a.slot
        ∙ sym (ap (last_slot 0) (queue-is ∙ ap (λ (c : Bool). (read t).queue ++ cond c (to_queue j ∷ []) []) f) ∙ last-slot 0 (read t).queue (to_queue j)))
        (λ f. ap (λ (c : Tally). c.end) (e.lists (leb-false 10 kind f)).1 ∙ r.last
        ∙ sym (ap (last_slot 0) (queue-is ∙ ap (λ (c : Bool). (read t).queue ++ cond c (to_queue j ∷ []) []) f ∙ append-nil (read t).queue)))

    -- what followed it is the first
    front-next : c'.front ≡ word t' (head_word k)
    front-next =
        cases (leb 10 kind) (λ f. ap (λ (c : Tally). c.front) (e.queues (leb-true 10 kind f)).2) (λ f. ap (λ (c : Tally). c.front) (e.lists (leb-false 10 kind f)).1)
        ∙ a.next ∙ sym (head_of k (next-holds (next off-is)) ∙ ap first (ap (chain_of k) (next-read (next off-is)) ∙ chain-after))

    pub room_next : Space k t' l' limit c'.count c'.end
    room_next =
        cases (leb 10 kind)
        (λ f.
        let q = e.queues (leb-true 10 kind f) in
        let count = ap (λ (c : Tally). c.count) q.2 in
        record {
          holds = next-holds (next off-is);
          none_left = r.none_left;
          waits = r.waits;
          last = last-next;
          fits = omega (arith, r.fits, ap length (due-next off-is), count, ap length q.1);
          few = omega (arith, r.few, ap length (due-next off-is), count);
        })
        (λ f.
        let q = e.lists (leb-false 10 kind f) in
        let count = ap (λ (c : Tally). c.count) q.1 in
        let same = ap length q.0.entry ∙ length-sets l (3 * n) ((id_base + i) ∷ routine_of t i ∷ data_of t i ∷ []) in
        record {
          holds = next-holds (next off-is);
          none_left = r.none_left;
          waits = r.waits;
          last = last-next;
          fits = omega (arith, r.fits, ap length (due-next off-is), count, same);
          few = omega (arith, r.few, ap length (due-next off-is), count);
        })

    flag : c'.periodic ≡ (b || eqb kind 6)
    flag =
        cases (leb 10 kind)
        (λ f.
        let ten = leb-true 10 kind f in
        ap (λ (c : Tally). c.periodic) (e.queues ten).2 ∙ sym (ap (λ (c : Bool). b || c) (ne_eqb kind 6 (λ six. omega (arith, ten))) ∙ or-false b))
        (λ f. ap (λ (c : Tally). c.periodic) (e.lists (leb-false 10 kind f)).1)

    pub taken-before : (m : Tally) (u v : List ℕ) → TakesOff k t' l' limit c'.count c'.periodic m u v → TakesOff k t l limit n b m u v
    taken-before m u v f =
        let later = due_listed k limit (read t') in
        let sl = (read t).slots in
        let entries : List Fired → List ℕ = λ x. sets l (3 * n) (entry_words x) in
        let same : map (listed (read t').slots) later ≡ map (listed sl) later = same_entries sl (read t').slots (memo-next off-is) later in
        let by : (c : Bool) → leb 10 kind ≡ c → due_listed k limit (read t) ≡ cond (not c) (a.entry ∷ later) later =
        λ c g. listed-is off-is ∙ ap (λ (d : Bool). cond (not d) (a.entry ∷ later) later) g in
        record {
          count = cases (leb 10 kind)
              (λ g. omega (arith, f.count, ap length (by true g), ap (λ (c : Tally). c.count) (e.queues (leb-true 10 kind g)).2))
              (λ g. omega (arith, f.count, ap length (by false g), ap (λ (c : Tally). c.count) (e.lists (leb-false 10 kind g)).1));
          periodic = f.periodic ∙ flag_is off-is b flag;
          last = f.last;
          table = table_is off-is f.table;
          entries = f.entries ∙ ap (λ (x : List Fired). sets l' (3 * c'.count) (entry_words x)) same
              ∙ cases (leb 10 kind)
              (λ g.
              let q = e.queues (leb-true 10 kind g) in
              ap₂ (λ (x : List ℕ) (c : ℕ). sets x (3 * c) (entry_words (map (listed sl) later))) q.1 (ap (λ (c : Tally). c.count) q.2)
              ∙ ap (λ (d : List Link). entries (map (listed sl) d)) (sym (by true g)))
              (λ g.
              let q = e.lists (leb-false 10 kind g) in
              let three : 3 * c'.count ≡ suc (suc (suc (3 * n))) = omega (arith, ap (λ (c : Tally). c.count) q.1) in
              ap₂ (λ (x : List ℕ) (p : ℕ). sets x p (entry_words (map (listed sl) later))) q.0.entry three
              ∙ ap (sets l (3 * n)) (entry-is (entry_words (map (listed sl) later)))
              ∙ ap (λ (d : List Link). entries (map (listed sl) d)) (sym (by false g)));
        }

-- ---- the invariant

-- what is left to do from the words t and l, with these counts, is what is left from the start
pub record Taking (k : Chain) (t₀ l₀ : List ℕ) (limit from : ℕ) (t l : List ℕ) (c : Tally) : Type 0 where
  pub room : Space k t l limit c.count c.end
  pub here : c.front ≡ word t (head_word k)
  pub rest : (m : Tally) (t' l' : List ℕ) → TakesOff k t l limit c.count c.periodic m t' l' → TakesOff k t₀ l₀ limit from false m t' l'

module _ {k : Chain} {t l : List ℕ} {limit from end : ℕ} (r : Space k t l limit from end) where
  pub taking-start : {i : ℕ} → i ≡ word t (head_word k) → Taking k t l limit from t l (tally_of from false end i)
  taking-start e = record { room = r; here = e; rest = λ m t' l' f. f }

  module _ {b : Bool} {c : Tally} {t' l' : List ℕ} (f : TakesOff k t l limit from b c t' l') where
    pub taken-length : length t' ≡ length t
    taken-length =
        ap length f.table
        ∙ length_over (off_all (due k limit (read t)) (read t)) t (omega (arith, length-off_all (due k limit (read t)) (read t), r.holds.long))

    pub taken-list-length : length l' ≡ length l
    taken-list-length = ap length f.entries ∙ simp length-sets

module _ {k : Chain} {t₀ l₀ : List ℕ} {limit from : ℕ} {t l : List ℕ} {c : Tally} (f : Taking k t₀ l₀ limit from t l c) where
  -- the chain is empty
  pub taking-none : c.front ≡ 0 → TakesOff k t₀ l₀ limit from false c t l
  taking-none e =
      f.rest c t l (none-due k t l limit c.count c.end c.front c.periodic f.room.holds f.room.last
      (subst (All (λ w. limit < w.wait)) (sym (no_front k f.room.holds f.here e)) tt))

  pub taking-front : c.front ≢ 0 → Front k t c.front
  taking-front some = front k f.room.holds f.here some

  module _ (some : c.front ≢ 0) {w : ℕ} (is : w ≡ wait_of t c.front) where
    -- the first link is not due, nor any behind it
    pub taking-later : limit < w → TakesOff k t₀ l₀ limit from false c t l
    taking-later p =
        let a = taking-front some in
        let rises : Sorted (λ v. v.wait) (a.entry ∷ a.back) = subst (Sorted (λ v. v.wait)) a.whole (f.room.holds.chained.rises k) in
        f.rest c t l (none-due k t l limit c.count c.end c.front c.periodic f.room.holds f.room.last
        (subst (All (λ v. limit < v.wait)) (sym a.whole)
        (omega (arith, a.wait), all_map (λ v q. omega (arith, a.wait)) a.back rises.0)))

    -- the first link is due
    module _ (low : w ≤ limit) where
      due-low : (taking-front some).entry.wait ≤ limit
      due-low = omega (arith, (taking-front some).wait)

      pub taking-turn : Turns k t l c.front c.count c.end
      taking-turn = turns f.room (taking-front some) due-low

      module _ {c' : Tally} {t' l' : List ℕ} (e : Turned t l c c' t' l') where
        pub taking-less : length (chain_of k (read t')) < length (chain_of k (read t))
        taking-less = less f.room (taking-front some) due-low e

        pub taking-again : Taking k t₀ l₀ limit from t' l' c'
        taking-again = record {
          room = room_next f.room (taking-front some) due-low e;
          here = front-next f.room (taking-front some) due-low e;
          rest = λ m u v g. f.rest m u v (taken-before f.room (taking-front some) due-low e m u v g);
        }

-- ---- one turn, as the code makes it

module _ {k : Chain} {t l : List ℕ} {i n end : ℕ} (h : Turns k t l i n end) {kind : ℕ} (is : kind ≡ kind_of t i) where
  -- a server timer goes to the back of the queue
  module _ (ten : 10 ≤ kind) where
    pub turn-queues : Queues k t i kind end
    turn-queues = record {
      slot = h.comes.slot;
      is = is;
      waits = ap (waits_in k) is ∙ h.comes.waits;
      low = ten;
      high = omega (arith, is, not-above k h.waits (kind_of t i) h.comes.waits);
      first = h.comes.first;
      due = h.comes.due;
      last = h.last;
    }

    pub turned-queue : (b : Bool) {next : ℕ} {t' : List ℕ} → (t' ≡ written_over (queued (read t) i) t) × (next ≡ next_of t i)
        → Turned t l (tally_of n b end i) (tally_of n b i next) t' l
    turned-queue b e = record { queues = λ _. (e.0, refl, ap (tally_of n b i) e.1); lists = λ less. absurd (omega (arith, is)) }

  -- any other is listed
  module _ (less : kind < 10) where
    pub turn-lists : ComesOff k t l i kind n
    turn-lists = record {
      slot = h.comes.slot;
      is = is;
      waits = ap (waits_in k) is ∙ h.comes.waits;
      first = h.comes.first;
      due = h.comes.due;
      fits = h.comes.fits;
      few = h.comes.few;
    }

    pub turned-list : (b : Bool) {b' : Bool} {next : ℕ} {t' l' : List ℕ} → CameOff t l i n next t' l' → b' ≡ (b || eqb (kind_of t i) 6)
        → Turned t l (tally_of n b end i) (tally_of (n + 1) b' end next) t' l'
    turned-list b e flag = record {
      queues = λ ten. absurd (omega (arith, is));
      lists = λ _. (e, ap₂ (λ (c : Bool) (m : ℕ). tally_of (n + 1) c end m) flag e.followed);
    }

-- whether one was periodic, when one more was listed
module _ (b : Bool) {n m : ℕ} (is : n ≡ m) {b' : Bool} where
  pub one_more : n ≡ 6 → b' ≡ true → b' ≡ (b || eqb m 6)
  one_more six e = e ∙ sym (ap (λ (c : Bool). b || c) (eq-eqb m 6 (sym is ∙ six)) ∙ or-true b)

  pub no_more : n ≢ 6 → b' ≡ b → b' ≡ (b || eqb m 6)
  no_more other e = e ∙ sym (ap (λ (c : Bool). b || c) (ne_eqb m 6 (λ six. other (is ∙ six))) ∙ or-false b)
