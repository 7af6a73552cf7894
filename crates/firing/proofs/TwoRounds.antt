-- Timers that are due fire in two rounds: in the first each comes off its chain, where a server timer is queued and any other stops; in the second
-- those that are then idle and periodic wait again. The model gives each the kind of one that fired as it comes off, and then all go on in turn; the
-- state is the same in the end. Assumes nothing.
use mathlib.Core.Path.{◌≡◌, refl, sym, ap, ap₂, ◌∙◌}
use Prim.Native.Nat.{ℕ, zero, suc, ◌≤◌, ◌<◌}
use native.Mathlib.Omega.{arith}
use mathlib.Core.Bool.{Bool, true, false, cond, not, ◌&&◌, ◌||◌, or-true, and-false}
use mathlib.Core.Option.{Option, none, some}
use mathlib.Core.List.{List, [], ◌∷◌, ◌++◌, map, append-nil, append_assoc}
use lib.ListN.{length}
use lib.Seq.{set-get_or, ext_get_or}
use lib.Dec.{leb, ltb, eqb}
use borrow.Author.Tests.{eqb-true, eqb-false, eq-eqb, leb-true, leb-false, le-ltb, lt-ltb, lt-leb, not-true}
use Rattle.model.specs.declared.Chain.{Chain}
use Rattle.model.specs.declared.Chain.TheVariants.{ByTicks, ByDate, Queue}
use Rattle.model.specs.declared.Mode.TheVariants.{Every}
use Rattle.model.specs.Kinds.{Kind, kinds, kind_at, waiting_kind, same_chain, is_in, waits_in, is_some, for_server}
use Rattle.model.specs.Lists.{keep, any, place, All, Sorted}
use Rattle.model.specs.State.{Slot, Link, State, chain_of, with_chain, free, slot_at, put_at, without}
use Rattle.model.specs.Directives.{stopped, became, idled, inserted, fired, fired_all, reinserted, go_on, due, off, fire, without_server}
use Rattle.laws.proofs.ListLaws.{cases, clash, all, all_map, all_keep, all-zip, all-passed, keep_all, keep-none, keep-on, keep-and, count-keep, any_some, any_none}
use Rattle.laws.proofs.Order.{order_on, order_on-flat}
use Rattle.laws.proofs.WellFormed.{times_in, Chained}
use Rattle.laws.proofs.Chains.{times-own, without-none, met, once, once-apart, met-in-range}
use Rattle.laws.proofs.KindLaws.{read_all, on-numbers, chain-sym, none_in, each-chain, stopped-not-in, periodic}
use Rattle.laws.proofs.Slots.{Memo, memo, memo-idled, memo-fired, at_other, field_put, length-fired_all}
use Rattle.laws.proofs.FiredSlots.{among, at-fired_all}
use Rattle.laws.proofs.GoingOn.{goes_to, again, back_in, go_on-slots, go_on-clock, go_on-split, go_on-server, go_on-chain}
use Rattle.laws.proofs.StateWords.{absent}
use Rattle.laws.proofs.Steps.{same-state, with-chain-slots, with-chain-clock, with-chain-split, with-chain-server, with-chain-own, with-chain-apart, stopped-chain, chained-stopped, chained-inserted, due-parts, back-kinds, goes-fired}
use Rattle.links.proofs.LinkInMiddle.{times_more}
use Rattle.going_on.specs.GoingBack.{waits_again, back_all}
use Rattle.going_on.specs.Queueing.{queued}
use Rattle.going_on.proofs.Queueing.{place-last}
use Rattle.firing.specs.Lists.{off_one, off_all, is_periodic_at}
use Rattle.firing.proofs.ChangedSlots.{changed, among_none, length-changed, same-changed, at_own, at-changed}

-- the slots of some links
abbrev pub slots_of : List Link → List ℕ
slots_of ws = map (λ w. w.slot) ws

-- ---- kinds

-- the kinds of a chain that is not the queue
abbrev waits_now : Option Chain → Bool
waits_now o = is_in ByTicks o || is_in ByDate o

waits-now : (k : Chain) → same_chain Queue k ≡ false → (o : Option Chain) → is_in k o ≡ true → waits_now o ≡ true
waits-now ByTicks e o w = ap (λ (b : Bool). b || is_in ByDate o) w
waits-now ByDate e o w = ap (λ (b : Bool). is_in ByTicks o || b) w ∙ or-true (is_in ByTicks o)
waits-now Queue e o w = clash e

-- two readings that agree on all of those, which the checker computes
of-waiting : {B : Type 0} (f g : Kind → B)
    → read_all (λ _ x. cond (waits_now x.chain) (f x) (g x)) 0 kinds ≡ read_all (λ _ x. g x) 0 kinds
    → (k : Chain) → same_chain Queue k ≡ false → (n : ℕ) → waits_in k n ≡ true → f (kind_at n) ≡ g (kind_at n)
of-waiting f g same k e n w =
    ap (λ b. cond b (f (kind_at n)) (g (kind_at n))) (sym (waits-now k e (kind_at n).chain w))
    ∙ on-numbers (λ _ x. cond (waits_now x.chain) (f x) (g x)) (λ _ x. g x) same (λ n _. refl) n

-- of those a server timer goes on to the queue and to no other chain, and any other timer not to the queue
queue-only : (j : Chain) (k : Chain) → same_chain Queue k ≡ false → (n : ℕ) → waits_in k n ≡ true
    → cond (for_server (kind_at n).last) (waits_in j (kind_at n).when_fired) (same_chain j Queue) ≡ same_chain j Queue
queue-only ByTicks = of-waiting (λ x. cond (for_server x.last) (waits_in ByTicks x.when_fired) false) (λ _. false) refl
queue-only ByDate = of-waiting (λ x. cond (for_server x.last) (waits_in ByDate x.when_fired) false) (λ _. false) refl
queue-only Queue = of-waiting (λ x. cond (for_server x.last) (waits_in Queue x.when_fired) true) (λ _. true) refl

server-queued : (k : Chain) → same_chain Queue k ≡ false → (n : ℕ) → waits_in k n ≡ true → waits_in Queue (kind_at n).when_fired ≡ for_server (kind_at n).last
server-queued = of-waiting (λ x. waits_in Queue x.when_fired) (λ x. for_server x.last) refl

others-only : (j : Chain) → same_chain Queue j ≡ false → (k : Chain) → same_chain Queue k ≡ false → (n : ℕ) → waits_in k n ≡ true
    → (not (for_server (kind_at n).last) && waits_in j (kind_at n).when_fired) ≡ waits_in j (kind_at n).when_fired
others-only ByTicks e = of-waiting (λ x. not (for_server x.last) && waits_in ByTicks x.when_fired) (λ x. waits_in ByTicks x.when_fired) refl
others-only ByDate e = of-waiting (λ x. not (for_server x.last) && waits_in ByDate x.when_fired) (λ x. waits_in ByDate x.when_fired) refl
others-only Queue e = clash e

-- ---- one timer of the first round

-- its slot
abbrev taken_off : Slot → Slot
taken_off x = cond (for_server (kind_at x.kind).last) (fired x) (idled x)

memo-taken : (x : Slot) → memo (taken_off x) ≡ memo x
memo-taken x = cases (for_server (kind_at x.kind).last) (λ e. rw e (memo-fired x)) (λ e. rw e (memo-idled x))

abbrev is_server : List Slot → ℕ → Bool
is_server sl i = for_server (kind_at (slot_at sl i).kind).last

abbrev pub is_server_at : List Slot → Link → Bool
is_server_at sl w = is_server sl w.slot

abbrev pub to_queue : ℕ → Link
to_queue i = record { slot = i; wait = 0 }

module _ (s : State) (i : ℕ) where
  abbrev x : Slot
  x = slot_at s.slots i

  -- what both have of a state
  one_same : {B : Type 0} (f : State → B) (b : B) → f (queued s i) ≡ b → f (stopped s i (idled x)) ≡ b → f (off_one s i) ≡ b
  one_same f b q r = cases (is_server s.slots i) (λ e. rw e q) (λ e. rw e r)

  one-slots : (off_one s i).slots ≡ put_at s.slots i (taken_off x)
  one-slots = cases (is_server s.slots i) (λ e. rw e) (λ e. rw e)

  pub one-memo : (j : ℕ) → memo (slot_at (off_one s i).slots j) ≡ memo (slot_at s.slots j)
  one-memo j = ap (λ (sl : List Slot). memo (slot_at sl j)) one-slots ∙ field_put memo s.slots i j (taken_off x) (memo-taken x)

  pub one-chain : (m : Chain) → same_chain m Queue ≡ false → chain_of m (off_one s i) ≡ without i (chain_of m s)
  one-chain m e =
      one_same (chain_of m) (without i (chain_of m s))
      (with-chain-apart (stopped s i (fired x)) (put_at s.slots i (fired x)) (place (λ w. w.wait) (to_queue i) (without i s.queue)) Queue m e
      ∙ stopped-chain s i (fired x) m)
      (stopped-chain s i (idled x) m)

  -- it waits in chain k, which is not the queue
  module _ (h : Chained s) (k : Chain) (apart : same_chain Queue k ≡ false) (waits : waits_in k x.kind ≡ true) (low : 0 < i) (high : i ≤ length s.slots) where
    not-queued : times_in s.queue i ≡ 0
    not-queued = omega (arith, h.meets k i ∙ ap {B = ℕ} (λ (b : Bool). cond b 1 0) waits, once-apart s h Queue k apart i)

    pub one-queue : (off_one s i).queue ≡ s.queue ++ cond (is_server s.slots i) (to_queue i ∷ []) []
    one-queue =
        cases (is_server s.slots i)
        (λ e. rw e (ap (place (λ w. w.wait) (to_queue i)) (without-none i s.queue not-queued) ∙ place-last (to_queue i) s.queue (h.within Queue)))
        (λ e. rw e (without-none i s.queue not-queued ∙ sym (append-nil s.queue)))

    pub one-chained : Chained (off_one s i)
    one-chained =
        cases (is_server s.slots i)
        (λ e. rw e (chained-inserted Queue s h i 0 (fired x) low high
        (λ j. ap (λ (b : Bool). cond b (waits_in j (kind_at x.kind).when_fired) (same_chain j Queue)) (sym e) ∙ queue-only j k apart x.kind waits) refl))
        (λ e. rw e (chained-stopped s h i (idled x) low high (λ m. stopped-not-in m x.kind)))

-- ---- the first round

pub off-slots : (ws : List Link) (s : State) → (off_all ws s).slots ≡ changed taken_off ws s.slots
off-slots [] s = refl
off-slots (w ∷ ws) s = off-slots ws (off_one s w.slot) ∙ ap (changed taken_off ws) (one-slots s w.slot)

off-same : {B : Type 0} (f : State → B) → ((s : State) (i : ℕ) → f (off_one s i) ≡ f s) → (ws : List Link) (s : State) → f (off_all ws s) ≡ f s
off-same f h [] s = refl
off-same f h (w ∷ ws) s = off-same f h ws (off_one s w.slot) ∙ h s w.slot

off-clock : (ws : List Link) (s : State) → (off_all ws s).clock ≡ s.clock
off-clock = off-same (λ s. s.clock) (λ s i. one_same s i (λ z. z.clock) s.clock refl refl)

off-split : (ws : List Link) (s : State) → (off_all ws s).split ≡ s.split
off-split = off-same (λ s. s.split) (λ s i. one_same s i (λ z. z.split) s.split refl refl)

off-server : (ws : List Link) (s : State) → (off_all ws s).server ≡ s.server
off-server = off-same (λ s. s.server) (λ s i. one_same s i (λ z. z.server) s.server refl refl)

pub length-off_all : (ws : List Link) (s : State) → length (off_all ws s).slots ≡ length s.slots
length-off_all ws s = ap length (off-slots ws s) ∙ length-changed taken_off ws s.slots

-- those of some links that are server timers
abbrev servers : List Slot → List Link → List Link
servers sl ws = keep (λ w. is_server sl w.slot) ws

same-servers : (sl sl' : List Slot) → ((j : ℕ) → memo (slot_at sl' j) ≡ memo (slot_at sl j)) → (ws : List Link) → servers sl' ws ≡ servers sl ws
same-servers sl sl' same ws =
    keep-on (λ w. is_server sl' w.slot) (λ w. is_server sl w.slot) ws (all (λ w. ap (λ (m : Memo). for_server m.last) (same w.slot)) ws)

-- the front of chain k came off: the rest is left, the server timers are at the back of the queue, the other chains stay, and all are in order
record FrontOff (k : Chain) (s : State) (ws rest : List Link) : Type 0 where
  chained : Chained (off_all ws s)
  own : chain_of k (off_all ws s) ≡ rest
  apart : (m : Chain) → same_chain m k ≡ false → same_chain m Queue ≡ false → chain_of m (off_all ws s) ≡ chain_of m s
  queue : (off_all ws s).queue ≡ s.queue ++ map (λ w. to_queue w.slot) (servers s.slots ws)

front-off : (k : Chain) → same_chain Queue k ≡ false → (ws rest : List Link) (s : State) → Chained s → chain_of k s ≡ ws ++ rest → FrontOff k s ws rest
front-off k e [] rest s h whole = record { chained = h; own = whole; apart = λ m away other. refl; queue = sym (append-nil s.queue) }
front-off k e (w ∷ ws) rest s h whole =
    let i = w.slot in
    let here : times_in (chain_of k s) i ≡ suc (times_in (ws ++ rest) i) =
    ap (λ (c : List Link). times_in c i) whole ∙ times-own w (ws ++ rest) in
    let range = met-in-range s h k i (omega (arith, here)) in
    let waits : waits_in k (slot_at s.slots i).kind ≡ true = in-kind (waits_in k (slot_at s.slots i).kind) (h.meets k i) here in
    let f = front-off k e ws rest (off_one s i) (one-chained s i h k e waits range.0 range.1)
    (one-chain s i k (chain-sym k Queue ∙ e) ∙ ap (without i) whole
    ∙ rw (eq-eqb i i refl) (without-none i (ws ++ rest) (omega (arith, here, once s h k i)))) in
    record {
      chained = f.chained;
      own = f.own;
      apart = λ m away other. f.apart m away other ∙ one-chain s i m other
          ∙ without-none i (chain_of m s) (omega (arith, here, once-apart s h m k away i));
      queue = f.queue
          ∙ ap₂ (λ (q l : List Link). q ++ map (λ v. to_queue v.slot) l) (one-queue s i h k e waits range.0 range.1)
          (same-servers s.slots (off_one s i).slots (one-memo s i) ws)
          ∙ append_assoc s.queue (cond (is_server s.slots i) (to_queue i ∷ []) []) (map (λ v. to_queue v.slot) (servers s.slots ws))
          ∙ cases (is_server s.slots i) (λ b. rw b) (λ b. rw b);
    }
  where
    in-kind : (b : Bool) {n m : ℕ} → n ≡ cond b 1 0 → n ≡ suc m → b ≡ true
    in-kind true p q = refl
    in-kind false p q = absurd (omega (arith, p, q))

-- those due are the front of their chain
due-front : (limit : ℕ) (c : List Link) → Sorted (λ w. w.wait) c → c ≡ keep (λ w. leb w.wait limit) c ++ keep (λ w. ltb limit w.wait) c
due-front limit [] h = refl
due-front limit (y ∷ ys) h =
    cases (leb y.wait limit)
    (λ e. rw (e, le-ltb limit y.wait (leb-true y.wait limit e)) (ap {B = List Link} (λ l. y ∷ l) (due-front limit ys h.1)))
    (λ e.
    let late : All (λ w. limit < w.wait) (y ∷ ys) =
    (leb-false y.wait limit e, all_map (λ w p. omega (arith, p, leb-false y.wait limit e)) ys h.0) in
    sym (ap₂ (λ (a b : List Link). a ++ b)
    (keep-none (λ w. leb w.wait limit) (y ∷ ys) (all_map (λ w p. lt-leb w.wait limit p) (y ∷ ys) late))
    (keep_all (λ w. ltb limit w.wait) (y ∷ ys) (all_map (λ w p. lt-ltb limit w.wait p) (y ∷ ys) late))))

-- ---- the second round

-- an idle periodic timer's slot, when it waits again
abbrev resumed : Slot → Slot
resumed x = cond (eqb x.kind 7) (became (waiting_kind Every) x) x

-- to come off and to wait again is to fire
resumed-taken : (k : Chain) → same_chain Queue k ≡ false → (y : Slot) → waits_in k y.kind ≡ true → resumed (taken_off y) ≡ fired y
resumed-taken k e y w =
    cases (for_server (kind_at y.kind).last)
    (λ f. rw f (again (kind_at y.kind).when_fired refl ∙ ap (λ (n : ℕ). became n y) (kinds-server f)))
    (λ f. rw f (again (kind_at y.kind).when_stopped refl ∙ ap (λ (n : ℕ). became n y) (kinds-other f)))
  where
    again : (n : ℕ) {m : ℕ} → n ≡ m → resumed (became n y) ≡ became (cond (eqb n 7) 6 n) y
    again n is = cases (eqb n 7) (λ f. rw f) (λ f. rw f)

    kinds-server : for_server (kind_at y.kind).last ≡ true → cond (eqb (kind_at y.kind).when_fired 7) 6 (kind_at y.kind).when_fired ≡ (kind_at y.kind).when_fired
    kinds-server f =
        of-waiting (λ z. cond (eqb z.when_fired 7) 6 z.when_fired) (λ z. z.when_fired) refl k e y.kind w

    kinds-other : for_server (kind_at y.kind).last ≡ false → cond (eqb (kind_at y.kind).when_stopped 7) 6 (kind_at y.kind).when_stopped ≡ (kind_at y.kind).when_fired
    kinds-other f =
        ap (λ (b : Bool). cond b (kind_at y.kind).when_fired (cond (eqb (kind_at y.kind).when_stopped 7) 6 (kind_at y.kind).when_stopped)) (sym f)
        ∙ of-waiting (λ z. cond (for_server z.last) z.when_fired (cond (eqb z.when_stopped 7) 6 z.when_stopped)) (λ z. z.when_fired) refl k e y.kind w

-- all of some links resumed at once
abbrev resumed_all : List Link → State → State
resumed_all ws s = with_chain ByTicks s (changed resumed ws s.slots) s.ticking

put-own : (sl : List Slot) (i : ℕ) → put_at sl i (slot_at sl i) ≡ sl
put-own sl zero = refl
put-own sl (suc i) = set-get_or sl i free

none_of : (ws : List Link) (i : ℕ) → times_in ws i ≡ 0 → All (λ v. eqb v.slot i ≡ false) ws
none_of [] i e = tt
none_of (v ∷ ws) i e = let a = absent v ws i e in (a.0, none_of ws i a.1)

abbrev Idle : State → Link → Type 0
Idle s w = (kind_at (slot_at s.slots w.slot).kind).chain ≡ none

-- where they are in no chain, the model's going back with their new kinds is the code's
back-all : (ws : List Link) (s : State) → ((j : ℕ) → times_in ws j ≤ 1) → All (Idle s) ws → go_on ws (resumed_all ws s) ≡ back_all (slots_of ws) s
back-all [] s one idle = refl
back-all (w ∷ ws) s one idle =
    let i = w.slot in
    let x = slot_at s.slots i in
    let o = resumed_all (w ∷ ws) s in
    let gone : times_in ws i ≡ 0 = omega (arith, one i, times-own w ws) in
    let fewer : (j : ℕ) → times_in ws j ≤ 1 = λ j. omega (arith, one j, times_more w ws j) in
    let own : slot_at o.slots i ≡ resumed x =
    at-changed resumed refl ws (put_at s.slots i (resumed x)) i (omega (arith, gone))
    ∙ rw (among_none ws i (omega (arith, gone))) (at_own resumed refl s.slots i) in
    let to : (z : Slot) → resumed x ≡ z → go_on (w ∷ ws) o ≡ go_on ws (reinserted (kind_at z.kind).chain o i) =
    λ z is. ap (λ (y : Slot). go_on ws (reinserted (kind_at y.kind).chain o i)) (own ∙ is) in
    cases (eqb x.kind 7)
    (λ e.
    let s' = waits_again s i in
    let is : resumed x ≡ became (waiting_kind Every) x = rw e in
    to (became (waiting_kind Every) x) is
    ∙ ap (λ (z : Slot). go_on ws (inserted ByTicks o i z.interval)) (own ∙ is)
    ∙ ap (λ (z : Slot). go_on ws (inserted ByTicks (with_chain ByTicks s (changed resumed ws (put_at s.slots i z)) s.ticking) i x.interval)) is
    ∙ back-all ws s' fewer
    (all_map (λ v p. ap (λ (z : Slot). (kind_at z.kind).chain) (at_other s.slots i v.slot (became (waiting_kind Every) x) (eqb-false v.slot i p.0)) ∙ p.1)
    ws (all-zip (λ v. eqb v.slot i ≡ false) (Idle s) ws (none_of ws i gone) idle.1))
    ∙ ap (λ (b : Bool). back_all (slots_of ws) (cond b s' s)) (sym e))
    (λ e.
    let is : resumed x ≡ x = rw e in
    to x is
    ∙ ap (λ (p : Option Chain). go_on ws (reinserted p o i)) idle.0
    ∙ ap (λ (sl : List Slot). go_on ws (with_chain ByTicks s (changed resumed ws sl) s.ticking)) (ap (put_at s.slots i) is ∙ put-own s.slots i)
    ∙ back-all ws s fewer idle.1
    ∙ ap (λ (b : Bool). back_all (slots_of ws) (cond b (waits_again s i) s)) (sym e))

-- none goes back where none is periodic
seven-periodic : (n : ℕ) → eqb n 7 ≡ true → periodic (kind_at n).last ≡ true
seven-periodic n e = ap (λ (m : ℕ). periodic (kind_at m).last) (eqb-true n 7 e)

quiet : (ws : List Link) (s : State) → any (is_periodic_at s.slots) ws ≡ false → back_all (slots_of ws) s ≡ s
quiet [] s e = refl
quiet (w ∷ ws) s e =
    cases (eqb (slot_at s.slots w.slot).kind 7)
    (λ f. clash (sym (ap (λ (b : Bool). b || any (is_periodic_at s.slots) ws) (seven-periodic (slot_at s.slots w.slot).kind f)) ∙ e))
    (λ f.
    ap (λ (b : Bool). back_all (slots_of ws) (cond b (waits_again s w.slot) s)) f
    ∙ quiet ws s (later (is_periodic_at s.slots w) e))
  where
    later : (b : Bool) → (b || any (is_periodic_at s.slots) ws) ≡ false → any (is_periodic_at s.slots) ws ≡ false
    later true e = clash e
    later false e = e

-- to stop a timer leaves it periodic or not
pub periodic-stopped : (sl sl' : List Slot) → ((j : ℕ) → memo (slot_at sl' j) ≡ memo (slot_at sl j)) → (c : List Link)
    → any (is_periodic_at sl') c ≡ any (is_periodic_at sl) c
periodic-stopped sl sl' same [] = refl
periodic-stopped sl sl' same (w ∷ ws) =
    ap₂ (λ (m : Memo) (b : Bool). periodic m.last || b) (same w.slot) (periodic-stopped sl sl' same ws)

-- ---- both

-- a slot of the links that pass a test on their slots
among-keep : (g : ℕ → Bool) (ws : List Link) (j : ℕ) → among (keep (λ w. g w.slot) ws) j ≡ (among ws j && g j)
among-keep g [] j = refl
among-keep g (w ∷ ws) j =
    cases (eqb w.slot j)
    (λ e. let is = eqb-true w.slot j e in own is (cases (g j) (λ f. rw (f, e)) (λ f. rw (f, e) (among-keep g ws j ∙ rw f (and-false (among ws j))))))
    (λ e. rw e (cases (g w.slot) (λ f. rw (f, e) (among-keep g ws j)) (λ f. rw f (among-keep g ws j))))
  where
    own : w.slot ≡ j → among (cond (g j) (w ∷ keep (λ v. g v.slot) ws) (keep (λ v. g v.slot) ws)) j ≡ (among (w ∷ ws) j && g j)
        → among (keep (λ v. g v.slot) (w ∷ ws)) j ≡ (among (w ∷ ws) j && g j)
    own is p = ap (λ (i : ℕ). among (cond (g i) (w ∷ keep (λ v. g v.slot) ws) (keep (λ v. g v.slot) ws)) j) is ∙ p

module _ (k : Chain) (apart : same_chain Queue k ≡ false) (limit : ℕ) (s : State) (h : Chained s) where
  abbrev ws : List Link
  ws = due k limit s

  abbrev rest : List Link
  rest = keep (λ w. ltb limit w.wait) (chain_of k s)

  -- those that are listed
  abbrev ls : List Link
  ls = without_server s.slots (due k limit s)

  -- the state between the rounds
  abbrev between : State
  between = off_all (due k limit s) s

  one_each : (j : ℕ) → times_in ws j ≤ 1
  one_each j = omega (arith, count-keep (λ w. eqb w.slot j) (λ w. leb w.wait limit) (chain_of k s), once s h k j)

  one-listed : (j : ℕ) → times_in ls j ≤ 1
  one-listed j = omega (arith, count-keep (λ w. eqb w.slot j) (λ w. not (is_server s.slots w.slot)) ws, one_each j)

  front : FrontOff k s ws rest
  front = front-off k apart ws rest s h (due-front limit (chain_of k s) (h.rises k))

  at-between : (j : ℕ) → slot_at between.slots j ≡ cond (among ws j) (taken_off (slot_at s.slots j)) (slot_at s.slots j)
  at-between j = ap (λ (sl : List Slot). slot_at sl j) (off-slots ws s) ∙ at-changed taken_off refl ws s.slots j (one_each j)

  -- a slot of those due waits
  among-waits : (j : ℕ) → among ws j ≡ true → waits_in k (slot_at s.slots j).kind ≡ true
  among-waits j e =
      cases (waits_in k (slot_at s.slots j).kind) (λ f. f)
      (λ f. absurd (let z : times_in (chain_of k s) j ≡ 0 = h.meets k j ∙ rw f in
      omega (arith, z, any_some (λ w. eqb w.slot j) ws e, count-keep (λ w. eqb w.slot j) (λ w. leb w.wait limit) (chain_of k s))))

  all-wait : All (λ w. waits_in k (slot_at s.slots w.slot).kind ≡ true) ws
  all-wait = back-kinds k s h ws rest (due-parts k limit s)

  -- the slots are those of the model's firing
  fired-is : fired_all ws s.slots ≡ changed resumed ls between.slots
  fired-is =
      ext_get_or free (fired_all ws s.slots) (changed resumed ls between.slots)
      (length-fired_all ws s.slots ∙ sym (length-changed resumed ls between.slots ∙ length-off_all ws s))
      (λ i p. each (suc i))
    where
      each : (j : ℕ) → slot_at (fired_all ws s.slots) j ≡ slot_at (changed resumed ls between.slots) j
      each j =
          let y = slot_at s.slots j in
          let z = slot_at between.slots j in
          let back : slot_at (changed resumed ls between.slots) j ≡ cond (among ws j && not (is_server s.slots j)) (resumed z) z =
          at-changed resumed refl ls between.slots j (one-listed j)
          ∙ ap (λ (b : Bool). cond b (resumed z) z) (among-keep (λ i. not (is_server s.slots i)) ws j) in
          at-fired_all ws s.slots j (one_each j)
          ∙ cases (among ws j)
          (λ e.
          let is : z ≡ taken_off y = at-between j ∙ ap (λ (b : Bool). cond b (taken_off y) y) e in
          let waits = among-waits j e in
          rw e (cases (is_server s.slots j)
          (λ f. sym (is ∙ ap (λ (b : Bool). cond b (fired y) (idled y)) f) ∙ sym (back ∙ ap₂ (λ (a b : Bool). cond (a && not b) (resumed z) z) e f))
          (λ f. sym (ap resumed is ∙ resumed-taken k apart y waits) ∙ sym (back ∙ ap₂ (λ (a b : Bool). cond (a && not b) (resumed z) z) e f))))
          (λ e. rw e (sym (at-between j ∙ ap (λ (b : Bool). cond b (taken_off y) y) e)
          ∙ sym (back ∙ ap (λ (b : Bool). cond (b && not (is_server s.slots j)) (resumed z) z) e)))

  idle : All (Idle between) ls
  idle = all_map (λ w p.
      let y = slot_at s.slots w.slot in
      let here : among ws w.slot ≡ true =
      cases (among ws w.slot) (λ e. e) (λ e. absurd (omega (arith, any_none (λ v. eqb v.slot w.slot) ws e, p.0))) in
      let is : slot_at between.slots w.slot ≡ idled y =
      at-between w.slot ∙ ap₂ (λ (a b : Bool). cond a (cond b (fired y) (idled y)) y) here (not-true (is_server s.slots w.slot) p.1) in
      ap (λ (z : Slot). (kind_at z.kind).chain) is
      ∙ is_none (kind_at (kind_at y.kind).when_stopped).chain (none_in (kind_at (kind_at y.kind).when_stopped).chain (λ m. stopped-not-in m y.kind)))
      ls (all-zip (λ w. 0 < times_in ws w.slot) (λ w. not (is_server s.slots w.slot) ≡ true) ls
      (all_keep (λ w. 0 < times_in ws w.slot) (λ w. not (is_server s.slots w.slot)) ws (met [] ws))
      (all-passed (λ w. not (is_server s.slots w.slot)) ws))
    where
      is_none : (o : Option Chain) → is_some o ≡ false → o ≡ none
      is_none none e = refl
      is_none (some j) e = clash e

  pub chained-between : Chained (off_all (due k limit s) s)
  chained-between = front.chained

  abbrev fs : List Slot
  fs = fired_all ws s.slots

  -- where it goes on to, by the kind that it had
  abbrev to : Chain → Link → Bool
  to m w = waits_in m (kind_at (slot_at s.slots w.slot).kind).when_fired

  goes : (m : Chain) (l : List Link) → All (λ w. goes_to m fs w ≡ to m w) l → back_in m fs l ≡ map (again m fs) (keep (to m) l)
  goes m l h = ap (map (again m fs)) (keep-on (goes_to m fs) (to m) l h)

  goes-ws : (m : Chain) → All (λ w. goes_to m fs w ≡ to m w) ws
  goes-ws m = goes-fired k s h ws rest (due-parts k limit s) m

  goes-ls : (m : Chain) → All (λ w. goes_to m fs w ≡ to m w) ls
  goes-ls m = all_keep (λ w. goes_to m fs w ≡ to m w) (λ w. not (is_server s.slots w.slot)) ws (goes-ws m)

  keep-listed : (m : Chain) (p : Link → Bool) → ((w : Link) → waits_in k (slot_at s.slots w.slot).kind ≡ true
      → (not (is_server s.slots w.slot) && to m w) ≡ p w) → keep (to m) ls ≡ keep p ws
  keep-listed m p same =
      keep-and (to m) (λ w. not (is_server s.slots w.slot)) ws
      ∙ keep-on (λ w. not (is_server s.slots w.slot) && to m w) p ws (all_map same ws all-wait)

  -- another chain has those that go on to it
  back-other : (m : Chain) → same_chain Queue m ≡ false → back_in m fs ls ≡ back_in m fs ws
  back-other m e =
      goes m ls (goes-ls m)
      ∙ ap (map (again m fs)) (keep-listed m (to m) (λ w p. others-only m e k apart (slot_at s.slots w.slot).kind p))
      ∙ sym (goes m ws (goes-ws m))

  -- no listed one goes to the queue, and the server timers do
  back-queue : back_in Queue fs ls ≡ []
  back-queue =
      goes Queue ls (goes-ls Queue)
      ∙ ap (map (again Queue fs)) (keep-listed Queue (λ _. false) (λ w p.
      ap (λ (b : Bool). not (is_server s.slots w.slot) && b) (server-queued k apart (slot_at s.slots w.slot).kind p)
      ∙ not-and (is_server s.slots w.slot)) ∙ keep-none (λ _. false) ws (all (λ _. refl) ws))
    where
      not-and : (b : Bool) → (not b && b) ≡ false
      not-and true = refl
      not-and false = refl

  served : back_in Queue fs ws ≡ map (λ w. to_queue w.slot) (servers s.slots ws)
  served =
      goes Queue ws (goes-ws Queue)
      ∙ ap (map (again Queue fs)) (keep-on (to Queue) (λ w. is_server s.slots w.slot) ws
      (all_map (λ w p. server-queued k apart (slot_at s.slots w.slot).kind p) ws all-wait))

  -- each chain in the end
  abbrev resumed_state : State
  resumed_state = resumed_all ls between

  in-chain : (m : Chain) → order_on (λ w. w.wait) (chain_of m (off k limit s)) (back_in m fs ws)
      ≡ order_on (λ w. w.wait) (chain_of m resumed_state) (back_in m fs ls)
  in-chain = by-queue (λ m e. ap₂ (order_on (λ w. w.wait)) (same m e) (sym (back-other m e)))
      (ap (λ (q : List Link). order_on (λ w. w.wait) q (back_in Queue fs ws)) (with-chain-apart s fs rest k Queue apart)
      ∙ order_on-flat (λ w. w.wait) 0 s.queue (back_in Queue fs ws) (h.within Queue) (rw served (flat (servers s.slots ws)))
      ∙ ap (λ (l : List Link). s.queue ++ l) served ∙ sym front.queue
      ∙ ap (order_on (λ w. w.wait) between.queue) (sym back-queue))
    where
      flat : (l : List Link) → All (λ w. w.wait ≡ 0) (map (λ w. to_queue w.slot) l)
      flat [] = tt
      flat (w ∷ l) = (refl, flat l)

      same : (m : Chain) → same_chain Queue m ≡ false → chain_of m (off k limit s) ≡ chain_of m resumed_state
      same m e =
          each-chain (λ m. same_chain Queue m ≡ false → chain_of m (off k limit s) ≡ chain_of m between) k
          (λ _. with-chain-own s fs rest k ∙ sym front.own)
          (λ m away e. with-chain-apart s fs rest k m away ∙ sym (front.apart m away (chain-sym m Queue ∙ e))) m e
          ∙ sym (resumed-chain m)
        where
          resumed-chain : (m : Chain) → chain_of m resumed_state ≡ chain_of m between
          resumed-chain ByTicks = refl
          resumed-chain ByDate = refl
          resumed-chain Queue = refl

      by-queue : {P : Chain → Type 0} → ((m : Chain) → same_chain Queue m ≡ false → P m) → P Queue → (m : Chain) → P m
      by-queue f q ByTicks = f ByTicks refl
      by-queue f q ByDate = f ByDate refl
      by-queue f q Queue = q

  pub two-rounds : back_all (slots_of (without_server s.slots (due k limit s))) (off_all (due k limit s) s) ≡ fire k limit s
  two-rounds =
      sym (same-state (fire k limit s) (go_on ls resumed_state)
      (go_on-slots ws (off k limit s) ∙ with-chain-slots s fs rest k ∙ fired-is ∙ sym (go_on-slots ls resumed_state))
      (go_on-clock ws (off k limit s) ∙ with-chain-clock s fs rest k ∙ sym (off-clock ws s) ∙ sym (go_on-clock ls resumed_state))
      (go_on-split ws (off k limit s) ∙ with-chain-split s fs rest k ∙ sym (off-split ws s) ∙ sym (go_on-split ls resumed_state))
      (go_on-server ws (off k limit s) ∙ with-chain-server s fs rest k ∙ sym (off-server ws s) ∙ sym (go_on-server ls resumed_state))
      (λ m. go_on-chain ws (off k limit s) m
      ∙ ap (λ (sl : List Slot). order_on (λ w. w.wait) (chain_of m (off k limit s)) (back_in m sl ws)) (with-chain-slots s fs rest k)
      ∙ in-chain m
      ∙ ap (λ (sl : List Slot). order_on (λ w. w.wait) (chain_of m resumed_state) (back_in m sl ls)) fired-is
      ∙ sym (go_on-chain ls resumed_state m))
      ∙ back-all ls between one-listed idle)

  -- the first is enough where none is periodic
  pub one-round : any (is_periodic_at s.slots) (due k limit s) ≡ false → off_all (due k limit s) s ≡ fire k limit s
  one-round e =
      sym (quiet ls between (any-less (is_periodic_at between.slots) (λ w. not (is_server s.slots w.slot)) ws
      (periodic-stopped s.slots between.slots
      (λ j. ap (λ (sl : List Slot). memo (slot_at sl j)) (off-slots ws s) ∙ same-changed taken_off memo memo-taken ws s.slots j) ws ∙ e)))
      ∙ two-rounds
    where
      any-less : (p q : Link → Bool) (l : List Link) → any p l ≡ false → any p (keep q l) ≡ false
      any-less p q [] e = refl
      any-less p q (w ∷ l) e =
          cases (p w) (λ f. clash (sym (ap (λ (b : Bool). b || any p l) f) ∙ e))
          (λ f.
          let less = any-less p q l (sym (ap (λ (b : Bool). b || any p l) f) ∙ e) in
          cases (q w) (λ g. rw (g, f) less) (λ g. rw g less))
