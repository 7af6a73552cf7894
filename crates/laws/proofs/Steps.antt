-- The parts of the calls' work keep the chains in order. One chain over the slots is `Ordered`; each part is shown to keep that of any chain,
-- and a state with one chain replaced is `Chained` when each of its chains is ordered over its slots. Assumes nothing.
use mathlib.Core.Path.{◌≡◌, refl, sym, ap, ◌∙◌, subst}
use Prim.Native.Nat.{ℕ, suc, ◌+◌, ◌-◌, ◌≤◌, ◌<◌}
use native.Mathlib.Omega.{arith}
use mathlib.Core.Bool.{Bool, true, false, cond, not}
use mathlib.Core.List.{List, [], ◌∷◌, ◌++◌, map}
use lib.ListN.{length, take, replicate, length-replicate}
use lib.Dec.{leb, ltb, eqb}
use borrow.Author.Tests.{eqb-true, eqb-false, eq-eqb, ne_eqb, not-true}
use Rattle.model.specs.Lists.{keep, drop_first, place, All, Sorted}
use Rattle.model.specs.declared.Chain.{Chain}
use Rattle.model.specs.declared.Chain.TheVariants.{ByTicks, ByDate, Queue}
use Rattle.model.specs.declared.Mode.{Mode}
use Rattle.model.specs.Kinds.{kind_at, chain_for, same_chain, waits_in, interval_in}
use Rattle.model.specs.State.{Slot, Link, Clock, State, chain_of, with_chain, with_clock, free, slot_at, put_at, without}
use Rattle.model.specs.Directives.{laid_out, stored, stopped, inserted, waiting_as, started, fired, fired_all, wait_again, due, off, fire, is_own, front, handed_out, initiated, closer, nearer}
use Rattle.laws.proofs.ListLaws.{cases, clash, all, all_map, keep-on, keep-none, map_on, all_keep, all-passed, all-zip, all-place, all-mapped, sorted-place, not-leb, count-place, any_some, any_none, sorted-keep, count-parts, all-drop_first}
use Rattle.laws.proofs.Slots.{at_same, at_other, length-put, put-at, blank, memo, memo-fired_all, length-fired_all}
use Rattle.laws.proofs.WellFormed.{times_in, Within, Fits, Chained}
use Rattle.laws.proofs.Chains.{times-closer, times-without, times-other, without-none, met, once, once-apart}
use Rattle.laws.proofs.KindLaws.{own-chain, each-chain, queued-not-again, mode-in, not-queue}
use Rattle.laws.proofs.Order.{order_on, all-order_on, sorted-order_on, count-order_on, order_on-flat}
pub use Rattle.laws.proofs.GoingOn.{with-chain-slots, with-chain-clock, with-chain-split, with-chain-server, with-chain-own, with-chain-apart}
use Rattle.laws.proofs.GoingOn.{goes_to, again, back_in, go_on-slots, go_on-clock, go_on-split, go_on-server, go_on-chain}
use Rattle.laws.proofs.FiredSlots.{among, at-fired_all}

sorted-closer : (l : List Link) → Sorted (λ w. w.wait) l → Sorted (λ w. w.wait) (map closer l)
sorted-closer [] h = tt
sorted-closer (x ∷ xs) h =
    (all-mapped closer (λ y. x.wait - 1 ≤ y.wait) xs (all_map (λ y p. omega arith) xs h.0), sorted-closer xs h.1)

-- ---- one chain over the slots

-- the links l are in order as chain k of a state with these slots
record Ordered (k : Chain) (slots : List Slot) (l : List Link) : Type 0 where
  meets : (i : ℕ) → times_in l i ≡ cond (waits_in k (slot_at slots i).kind) 1 0
  rises : Sorted (λ w. w.wait) l
  within : All (Fits k slots) l

ordered : (s : State) → Chained s → (k : Chain) → Ordered k s.slots (chain_of k s)
ordered s h k = record { meets = h.meets k; rises = h.rises k; within = h.within k }

chained : (s : State) → length s.slots ≤ 255 → ((k : Chain) → Ordered k s.slots (chain_of k s)) → Chained s
chained s few o = record { few = few; meets = λ k. (o k).meets; rises = λ k. (o k).rises; within = λ k. (o k).within }

module _ (s : State) (slots : List Slot) (l : List Link) where
  -- what holds of every chain of it
  pub with-chain-each : (P : Chain → List Link → Type 0) (k : Chain) → P k l → ((j : Chain) → same_chain j k ≡ false → P j (chain_of j s))
      → (j : Chain) → P j (chain_of j (with_chain k s slots l))
  with-chain-each P k own rest =
      each-chain (λ j. P j (chain_of j (with_chain k s slots l))) k (rw (with-chain-own s slots l k) own) (λ j e. rw (with-chain-apart s slots l k j e) (rest j e))

  chained-with-chain : (k : Chain) → length slots ≤ 255 → Ordered k slots l → ((j : Chain) → same_chain j k ≡ false → Ordered j slots (chain_of j s))
      → Chained (with_chain k s slots l)
  chained-with-chain k few own rest =
      chained (with_chain k s slots l) (rw (with-chain-slots s slots l k) few) (rw (with-chain-slots s slots l k) (with-chain-each (λ j. Ordered j slots) k own rest))

-- ---- what keeps one chain in order

module _ (k : Chain) (slots : List Slot) (l : List Link) (h : Ordered k slots l) where
  -- the links to the other slots still fit where slot i is written
  within-put : (i : ℕ) (x : Slot) → All (Fits k (put_at slots i x)) (without i l)
  within-put i x =
      let others : Link → Bool = λ w. not (eqb w.slot i) in
      all_map (λ (w : Link) p. rw (at_other slots i w.slot x (eqb-false w.slot i (not-true (eqb w.slot i) p.0))) p.1) (without i l)
      (all-zip (λ w. others w ≡ true) (Fits k slots) (without i l) (all-passed others l) (all_keep (Fits k slots) others l h.within))

  -- slot i is written and cut out of the chain
  ordered-cut : (i : ℕ) (x : Slot) → 0 < i → i ≤ length slots → waits_in k x.kind ≡ false → Ordered k (put_at slots i x) (without i l)
  ordered-cut i x low high e = record {
    meets = put-at (λ j y. times_in (without i l) j ≡ cond (waits_in k y.kind) 1 0) slots i x low high
        (times-without i l ∙ ap (λ (b : Bool). cond b 1 0) (sym e)) (λ j f. times-other i j l f ∙ h.meets j);
    rises = sorted-keep (λ w. w.wait) (λ w. not (eqb w.slot i)) l h.rises;
    within = within-put i x;
  }

  -- it is written and put into its place
  ordered-place : (i wait : ℕ) (x : Slot) → 0 < i → i ≤ length slots → waits_in k x.kind ≡ true → Within k wait x.interval
      → Ordered k (put_at slots i x) (place (λ w. w.wait) (record { slot = i; wait = wait }) (without i l))
  ordered-place i wait x low high e f =
      let new : Link = record { slot = i; wait = wait } in
      record {
        meets = put-at (λ j y. times_in (place (λ w. w.wait) new (without i l)) j ≡ cond (waits_in k y.kind) 1 0) slots i x low high
            (count-place (λ w. eqb w.slot i) (λ w. w.wait) new (without i l)
            ∙ rw (times-without i l, eq-eqb i i refl, e))
            (λ j g.
            count-place (λ w. eqb w.slot j) (λ w. w.wait) new (without i l)
            ∙ rw (times-other i j l g, ne_eqb i j (λ q. eqb-false j i g (sym q))) (omega (arith, h.meets j)));
        rises = sorted-place (λ w. w.wait) new (without i l) (sorted-keep (λ w. w.wait) (λ w. not (eqb w.slot i)) l h.rises);
        within = all-place (Fits k (put_at slots i x)) (λ w. w.wait) new (without i l)
            (rw (at_same slots i x low high) f) (within-put i x);
      }

  -- it is written and was in no chain
  ordered-put : (i : ℕ) (x : Slot) → 0 < i → i ≤ length slots → waits_in k (slot_at slots i).kind ≡ false → waits_in k x.kind ≡ false
      → Ordered k (put_at slots i x) l
  ordered-put i x low high e f =
      subst (Ordered k (put_at slots i x)) (without-none i l (h.meets i ∙ ap (λ (b : Bool). cond b 1 0) e)) (ordered-cut i x low high f)

  -- the timers of ws fire; the links of l that are left are the rest, and some of ws go back among them
  ordered-fired : (ws rest : List Link) → ((j : ℕ) → times_in ws j ≤ 1)
      → ((j : ℕ) → among ws j ≡ true → times_in rest j ≡ 0) → ((j : ℕ) → among ws j ≡ false → times_in rest j ≡ times_in l j)
      → Sorted (λ w. w.wait) rest → All (Fits k slots) rest
      → Ordered k (fired_all ws slots) (order_on (λ w. w.wait) rest (back_in k (fired_all ws slots) ws))
  ordered-fired ws rest one gone stays r b = record {
    meets = λ j.
        let back = back_in k fs ws in
        let sum = count-order_on (λ w. eqb w.slot j) (λ w. w.wait) rest back in
        cases (among ws j)
        (λ e.
        let some = any_some (λ w. eqb w.slot j) ws e in
        omega (arith, sum, times-back j, gone j e, one j, both_ways (waits_in k (slot_at fs j).kind) (times_in ws j) (one j) some))
        (λ e.
        let none = any_none (λ w. eqb w.slot j) ws e in
        let same : slot_at fs j ≡ slot_at slots j = at-fired_all ws slots j (one j) ∙ rw e in
        omega (
          arith,
          sum,
          times-back j,
          stays j e,
          h.meets j,
          neither (waits_in k (slot_at fs j).kind) (times_in ws j) none,
          ap {B = ℕ} (λ (x : Slot). cond (waits_in k x.kind) 1 0) same,
        ));
    rises = sorted-order_on (λ w. w.wait) rest (back_in k fs ws) r;
    within = all-order_on (Fits k fs) (λ w. w.wait) rest (back_in k fs ws)
        (all_map (λ w p. subst (Within k w.wait) (sym (ap (λ m. m.interval) (memo-fired_all ws slots w.slot))) p) rest b)
        (all-mapped (again k fs) (Fits k fs) (keep (goes_to k fs) ws) (all (λ w. own-interval k (slot_at fs w.slot).interval) (keep (goes_to k fs) ws)));
  }
    where
      fs : List Slot
      fs = fired_all ws slots

      own-interval : (k : Chain) (n : ℕ) → Within k (wait_again k n) n
      own-interval ByTicks n = omega arith
      own-interval ByDate n = tt
      own-interval Queue n = refl

      -- slot j goes back as often as it is among ws, if it does
      times-back : (j : ℕ) → times_in (back_in k fs ws) j ≡ cond (waits_in k (slot_at fs j).kind) (times_in ws j) 0
      times-back j = go ws
        where
          go : (us : List Link) → times_in (back_in k fs us) j ≡ cond (waits_in k (slot_at fs j).kind) (times_in us j) 0
          go [] = cases (waits_in k (slot_at fs j).kind) (λ e. rw e) (λ e. rw e)
          go (w ∷ us) =
              cases (eqb w.slot j)
              (λ e.
              let is = eqb-true w.slot j e in
              let here : goes_to k fs w ≡ waits_in k (slot_at fs j).kind = ap (λ (i : ℕ). waits_in k (slot_at fs i).kind) is in
              cases (waits_in k (slot_at fs j).kind)
              (λ f. let ih : times_in (back_in k fs us) j ≡ times_in us j = rw f at (go us) in rw (here ∙ f, e, f) (ap suc ih))
              (λ f. let ih : times_in (back_in k fs us) j ≡ 0 = rw f at (go us) in rw (here ∙ f, e, f) ih))
              (λ e. cases (goes_to k fs w) (λ g. rw (g, e) (go us)) (λ g. rw (g, e) (go us)))

      both_ways : (b : Bool) (n : ℕ) → n ≤ 1 → 0 < n → cond b n 0 ≡ cond b 1 0
      both_ways true n p q = omega arith
      both_ways false n p q = refl

      neither : (b : Bool) (n : ℕ) → n ≡ 0 → cond b n 0 ≡ 0
      neither true n e = e
      neither false n e = refl

ordered-nearer : (slots : List Slot) (l : List Link) → Ordered ByTicks slots l → Ordered ByTicks slots (map closer l)
ordered-nearer slots l h = record {
  meets = λ i. times-closer i l ∙ h.meets i;
  rises = sorted-closer l h.rises;
  within = all-mapped closer (λ w. w.wait ≤ (slot_at slots w.slot).interval) l (all_map (λ w p. omega arith) l h.within);
}

-- ---- stored, stopped, started

module _ (s : State) (i : ℕ) (x : Slot) where
  pub length-stored : length (stored s i x).slots ≡ length s.slots
  length-stored = length-put s.slots i x

  pub stored-chain : (k : Chain) → chain_of k (stored s i x) ≡ chain_of k s
  stored-chain ByTicks = refl
  stored-chain ByDate = refl
  stored-chain Queue = refl

  pub length-stopped : length (stopped s i x).slots ≡ length s.slots
  length-stopped = length-put s.slots i x

  pub stopped-chain : (k : Chain) → chain_of k (stopped s i x) ≡ without i (chain_of k s)
  stopped-chain ByTicks = refl
  stopped-chain ByDate = refl
  stopped-chain Queue = refl

module _ (s : State) (h : Chained s) (i : ℕ) (x : Slot) (low : 0 < i) (high : i ≤ length s.slots) where
  few-put : length (put_at s.slots i x) ≤ 255
  few-put = omega (arith, length-put s.slots i x, h.few)

  pub chained-stored : (slot_at s.slots i).kind ≡ 0 → ((k : Chain) → waits_in k x.kind ≡ false) → Chained (stored s i x)
  chained-stored e n = chained (stored s i x) few-put still
    where
      still : (k : Chain) → Ordered k (put_at s.slots i x) (chain_of k (stored s i x))
      still k = rw (stored-chain s i x k)
          (ordered-put k s.slots (chain_of k s) (ordered s h k) i x low high (ap (λ (n : ℕ). waits_in k n) e) (n k))

  ordered-stopped : (k : Chain) → waits_in k x.kind ≡ false → Ordered k (put_at s.slots i x) (chain_of k (stopped s i x))
  ordered-stopped k n = rw (stopped-chain s i x k) (ordered-cut k s.slots (chain_of k s) (ordered s h k) i x low high n)

  pub chained-stopped : ((k : Chain) → waits_in k x.kind ≡ false) → Chained (stopped s i x)
  chained-stopped n = chained (stopped s i x) few-put (λ k. ordered-stopped k (n k))

-- slot i becomes x and goes into chain k, where its kind waits
pub chained-inserted : (k : Chain) (s : State) → Chained s → (i amount : ℕ) (x : Slot) → 0 < i → i ≤ length s.slots
    → ((j : Chain) → waits_in j x.kind ≡ same_chain j k) → Within k amount x.interval → Chained (inserted k (stopped s i x) i amount)
chained-inserted k s h i amount x low high only within =
    rw (stopped-chain s i x k) (
    chained-with-chain (stopped s i x) (put_at s.slots i x) (place (λ w. w.wait) (record { slot = i; wait = amount }) (without i (chain_of k s))) k
    (few-put s h i x low high)
    (ordered-place k s.slots (chain_of k s) (ordered s h k) i amount x low high (only k ∙ own-chain k) within)
    (λ j e. ordered-stopped s h i x low high j (only j ∙ e)))

pub length_inserted : (k : Chain) (s : State) (i amount : ℕ) (x : Slot) → length (inserted k (stopped s i x) i amount).slots ≡ length s.slots
length_inserted k s i amount x = simp (with-chain-slots, length-put)

module _ (m : Mode) (s : State) where
  pub chained-started : Chained s → (i amount r u : ℕ) → 0 < i → i ≤ length s.slots → Chained (started m s i amount r u)
  chained-started h i amount r u low high =
      chained-inserted (chain_for m) s h i amount (waiting_as m (slot_at s.slots i) amount r u) low high (mode-in m) (fits (chain_for m) (not-queue m))
    where
      fits : (k : Chain) → same_chain Queue k ≡ false → Within k amount (interval_in k amount)
      fits ByTicks e = omega arith
      fits ByDate e = tt
      fits Queue e = clash e

  pub length-started : (i amount r u : ℕ) → length (started m s i amount r u).slots ≡ length s.slots
  length-started i amount r u = length_inserted (chain_for m) s i amount (waiting_as m (slot_at s.slots i) amount r u)

-- ---- fired, a tick nearer, at another time, laid out

pub initiated-chain : (s : State) (k : Chain) → chain_of k (initiated s) ≡ chain_of k s
initiated-chain s ByTicks = refl
initiated-chain s ByDate = refl
initiated-chain s Queue = refl

pub with-clock-chain : (s : State) (c : Clock) (k : Chain) → chain_of k (with_clock s c) ≡ chain_of k s
with-clock-chain s c ByTicks = refl
with-clock-chain s c ByDate = refl
with-clock-chain s c Queue = refl

-- two states are the same where their parts are
pub same-state : (s s' : State) → s.slots ≡ s'.slots → s.clock ≡ s'.clock → s.split ≡ s'.split → s.server ≡ s'.server
    → ((m : Chain) → chain_of m s ≡ chain_of m s') → s ≡ s'
same-state s s' slots clock split server chains = λ d. record {
  slots = slots d;
  clock = clock d;
  ticking = chains ByTicks d;
  dated = chains ByDate d;
  split = split d;
  server = server d;
  queue = chains Queue d;
}

module _ (k : Chain) (limit : ℕ) (s : State) where
  pub fire-slots : (fire k limit s).slots ≡ fired_all (due k limit s) s.slots
  fire-slots = go_on-slots (due k limit s) (off k limit s) ∙ with-chain-slots s (fired_all (due k limit s) s.slots) (keep (λ w. ltb limit w.wait) (chain_of k s)) k

  pub memo-fire : (i : ℕ) → memo (slot_at (fire k limit s).slots i) ≡ memo (slot_at s.slots i)
  memo-fire i = ap (λ (sl : List Slot). memo (slot_at sl i)) fire-slots ∙ memo-fired_all (due k limit s) s.slots i

  pub fire-clock : (fire k limit s).clock ≡ s.clock
  fire-clock = go_on-clock (due k limit s) (off k limit s) ∙ with-chain-clock s (fired_all (due k limit s) s.slots) (keep (λ w. ltb limit w.wait) (chain_of k s)) k

  pub fire-split : (fire k limit s).split ≡ s.split
  fire-split =
      go_on-split (due k limit s) (off k limit s)
      ∙ with-chain-split s (fired_all (due k limit s) s.slots) (keep (λ w. ltb limit w.wait) (chain_of k s)) k

  pub fire-server : (fire k limit s).server ≡ s.server
  fire-server = go_on-server (due k limit s) (off k limit s) ∙ with-chain-server s (fired_all (due k limit s) s.slots) (keep (λ w. ltb limit w.wait) (chain_of k s)) k

  pub length-fire : length (fire k limit s).slots ≡ length s.slots
  length-fire = ap length fire-slots ∙ length-fired_all (due k limit s) s.slots

  -- each chain after they fired: what is left of it, and those that go back into it
  pub fire-chain : (j : Chain) → chain_of j (fire k limit s)
      ≡ order_on (λ w. w.wait) (chain_of j (off k limit s)) (back_in j (fired_all (due k limit s) s.slots) (due k limit s))
  fire-chain j =
      go_on-chain (due k limit s) (off k limit s) j
      ∙ rw (with-chain-slots s (fired_all (due k limit s) s.slots) (keep (λ w. ltb limit w.wait) (chain_of k s)) k)

  -- the timers that are due, and those that are not, are the chain
  pub due-parts : (j : ℕ) → times_in (due k limit s) j + times_in (keep (λ w. ltb limit w.wait) (chain_of k s)) j ≡ times_in (chain_of k s) j
  due-parts j = count-parts (λ w. eqb w.slot j) (λ w. leb w.wait limit) (λ w. ltb limit w.wait) (λ w. not-leb w.wait limit) (chain_of k s)

-- ---- some timers of a chain fire: ws are they, and rest the others of the chain

module _ (k : Chain) (s : State) (h : Chained s) (ws rest : List Link)
    (parts : (j : ℕ) → times_in ws j + times_in rest j ≡ times_in (chain_of k s) j) where
  abbrev fs : List Slot
  fs = fired_all ws s.slots

  one_each : (j : ℕ) → times_in ws j ≤ 1
  one_each j = omega (arith, parts j, once s h k j)

  -- each chain is in order, with those that go on to it
  ordered-off : Sorted (λ w. w.wait) rest → All (Fits k s.slots) rest → (j : Chain)
      → Ordered j fs (order_on (λ w. w.wait) (chain_of j (with_chain k s fs rest)) (back_in j fs ws))
  ordered-off rises fits = with-chain-each s fs rest (λ j l. Ordered j fs (order_on (λ w. w.wait) l (back_in j fs ws))) k
      (ordered-fired k s.slots (chain_of k s) (ordered s h k) ws rest one_each
      (λ j e. omega (arith, any_some (λ w. eqb w.slot j) ws e, parts j, once s h k j))
      (λ j e. omega (arith, any_none (λ w. eqb w.slot j) ws e, parts j)) rises fits)
      (λ o apart.
      let own = ordered s h o in
      ordered-fired o s.slots (chain_of o s) own ws (chain_of o s) one_each
      (λ j e. omega (arith, any_some (λ w. eqb w.slot j) ws e, parts j, once-apart s h o k apart j))
      (λ j e. refl) own.rises own.within)

  pub back-kinds : All (λ w. waits_in k (slot_at s.slots w.slot).kind ≡ true) ws
  back-kinds = all_map (λ w p. in-kind (waits_in k (slot_at s.slots w.slot).kind) (omega (arith, p, parts w.slot, h.meets k w.slot))) ws (met [] ws)
    where
      in-kind : (b : Bool) → 0 < cond b 1 0 → b ≡ true
      in-kind true p = refl
      in-kind false p = absurd (omega arith)

  -- each that fires has the kind of one that fired
  pub goes-fired : (j : Chain) → All (λ w. goes_to j fs w ≡ waits_in j (kind_at (slot_at s.slots w.slot).kind).when_fired) ws
  goes-fired j = all_map (λ w p.
      let a = cases (among ws w.slot) (λ e. e) (λ e. absurd (omega (arith, any_none (λ y. eqb y.slot w.slot) ws e))) in
      let x = slot_at s.slots w.slot in
      ap (λ (y : Slot). waits_in j y.kind) (at-fired_all ws s.slots w.slot (one_each w.slot) ∙ ap (λ (b : Bool). cond b (fired x) x) a))
      ws (met [] ws)

  -- those that go on to chain j, by the kinds that they had
  pub back_is : (j : Chain) → back_in j (fired_all ws s.slots) ws
      ≡ map (again j s.slots) (keep (λ w. waits_in j (kind_at (slot_at s.slots w.slot).kind).when_fired) ws)
  back_is j =
      let goes : Link → Bool = λ w. waits_in j (kind_at (slot_at s.slots w.slot).kind).when_fired in
      ap (map (again j fs)) (keep-on (goes_to j fs) goes ws (goes-fired j))
      ∙ map_on (again j fs) (again j s.slots) (keep goes ws)
      (all (λ w. ap {B = Link} (λ (n : ℕ). record { slot = w.slot; wait = wait_again j n }) (ap (λ m. m.interval) (memo-fired_all ws s.slots w.slot)))
      (keep goes ws))

  -- none goes on to chain j where no kind of chain k does
  pub none-back : (j : Chain) → ((n : ℕ) → waits_in k n ≡ true → waits_in j (kind_at n).when_fired ≡ false) → back_in j (fired_all ws s.slots) ws ≡ []
  none-back j never =
      let goes : Link → Bool = λ w. waits_in j (kind_at (slot_at s.slots w.slot).kind).when_fired in
      back_is j ∙ ap (map (again j s.slots)) (keep-none goes ws (all_map (λ w p. never (slot_at s.slots w.slot).kind p) ws back-kinds))

module _ (k : Chain) (limit : ℕ) (s : State) (h : Chained s) where
  abbrev firing : List Link
  firing = due k limit s

  abbrev waiting-on : List Link
  waiting-on = keep (λ w. ltb limit w.wait) (chain_of k s)

  pub chained-fire : Chained (fire k limit s)
  chained-fire = chained (fire k limit s) (omega (arith, length-fire k limit s, h.few)) (λ j.
      rw (fire-slots k limit s, fire-chain k limit s j) (ordered-off k s h firing waiting-on (due-parts k limit s)
      (sorted-keep (λ w. w.wait) (λ w. ltb limit w.wait) (chain_of k s) (h.rises k))
      (all_keep (Fits k s.slots) (λ w. ltb limit w.wait) (chain_of k s) (h.within k)) j))

  module _ (j : Chain) (never : (n : ℕ) → waits_in k n ≡ true → waits_in j (kind_at n).when_fired ≡ false) where
    stays-off : chain_of j (fire k limit s) ≡ chain_of j (off k limit s)
    stays-off = fire-chain k limit s j
        ∙ ap (order_on (λ w. w.wait) (chain_of j (off k limit s))) (none-back k s h firing waiting-on (due-parts k limit s) j never)

    pub fire-elsewhere : same_chain j k ≡ false → chain_of j (fire k limit s) ≡ chain_of j s
    fire-elsewhere e = stays-off ∙ with-chain-apart s (fired_all firing s.slots) waiting-on k j e

  pub fire-own : ((n : ℕ) → waits_in k n ≡ true → waits_in k (kind_at n).when_fired ≡ false)
      → chain_of k (fire k limit s) ≡ keep (λ w. ltb limit w.wait) (chain_of k s)
  fire-own never = stays-off k never ∙ with-chain-own s (fired_all firing s.slots) waiting-on k

  -- the queue grows at its back
  pub fire-queue : same_chain Queue k ≡ false → chain_of Queue (fire k limit s) ≡ s.queue ++ back_in Queue (fired_all (due k limit s) s.slots) (due k limit s)
  fire-queue e =
      let fs = fired_all firing s.slots in
      fire-chain k limit s Queue
      ∙ ap (λ (l : List Link). order_on (λ w. w.wait) l (back_in Queue fs firing)) (with-chain-apart s fs waiting-on k Queue e)
      ∙ order_on-flat (λ w. w.wait) 0 s.queue (back_in Queue fs firing) (h.within Queue)
      (all-mapped (again Queue fs) (λ w. w.wait ≡ 0) (keep (goes_to Queue fs) firing) (all (λ w. refl) (keep (goes_to Queue fs) firing)))

-- ---- a party's first in the queue is handed out

pub front-parts : (p : Link → Bool) (l : List Link) (j : ℕ) → times_in (take 1 (keep p l)) j + times_in (drop_first p l) j ≡ times_in l j
front-parts p [] j = refl
front-parts p (w ∷ ws) j =
    let ih = front-parts p ws j in
    cases (p w)
    (λ e. rw e (cases (eqb w.slot j) (λ f. rw f (omega arith)) (λ f. rw f (omega arith))))
    (λ e. rw e (cases (eqb w.slot j) (λ f. rw f (omega arith)) (λ f. rw f ih)))

sorted-drop_first : (p : Link → Bool) (l : List Link) → Sorted (λ w. w.wait) l → Sorted (λ w. w.wait) (drop_first p l)
sorted-drop_first p [] h = tt
sorted-drop_first p (w ∷ ws) h =
    cases (p w) (λ e. rw e h.1) (λ e. rw e (all-drop_first (λ v. w.wait ≤ v.wait) p ws h.0, sorted-drop_first p ws h.1))

pub chained-handed : (s : State) → Chained s → (party : ℕ) → Chained (handed_out s party)
chained-handed s h party =
    let its = is_own s party in
    let ws = front s party in
    let rest = drop_first its s.queue in
    chained (handed_out s party) (omega (arith, length-fired_all ws s.slots, h.few)) (λ j.
    subst (λ (l : List Link). Ordered j (fired_all ws s.slots) (order_on (λ w. w.wait) (chain_of j (handed_out s party)) l))
    (none-back Queue s h ws rest (front-parts its s.queue) j (queued-not-again j))
    (ordered-off Queue s h ws rest (front-parts its s.queue) (sorted-drop_first its s.queue (h.rises Queue))
    (all-drop_first (Fits Queue s.slots) its s.queue (h.within Queue)) j))

pub chained-initiated : (s : State) → Chained s → Chained (initiated s)
chained-initiated s h = record {
  few = h.few;
  meets = λ k. rw (initiated-chain s k) (h.meets k);
  rises = λ k. rw (initiated-chain s k) (h.rises k);
  within = λ k. rw (initiated-chain s k) (h.within k);
}

pub chained-nearer : (s : State) → Chained s → Chained (nearer s)
chained-nearer s h =
    chained-with-chain s s.slots (map closer s.ticking) ByTicks h.few (ordered-nearer s.slots s.ticking (ordered s h ByTicks))
    (λ j _. ordered s h j)

pub chained-with-clock : (s : State) (c : Clock) → Chained s → Chained (with_clock s c)
chained-with-clock s c h = record {
  few = h.few;
  meets = λ k. rw (with-clock-chain s c k) (h.meets k);
  rises = λ k. rw (with-clock-chain s c k) (h.rises k);
  within = λ k. rw (with-clock-chain s c k) (h.within k);
}

module _ (n t split : ℕ) where
  pub length-laid : length (laid_out n t split).slots ≡ n
  length-laid = length-replicate n free

  pub laid-chain : (k : Chain) → chain_of k (laid_out n t split) ≡ []
  laid-chain ByTicks = refl
  laid-chain ByDate = refl
  laid-chain Queue = refl

  pub chained-laid : n ≤ 255 → Chained (laid_out n t split)
  chained-laid few = chained (laid_out n t split) (omega (arith, length-laid)) (λ k. rw (laid-chain k) (empty k))
    where
      empty : (k : Chain) → Ordered k (replicate n free) []
      empty k = record { meets = λ i. rw (blank n i); rises = tt; within = tt }
