-- The queue that the events give, after one event more. Assumes nothing.
use mathlib.Core.Path.{◌≡◌, refl, sym, ap, ap₂, ◌∙◌, subst}
use Prim.Native.Nat.{ℕ, zero, suc, ◌+◌, ◌≤◌}
use native.Mathlib.Omega.{arith}
use mathlib.Core.Bool.{Bool, true, false, cond, not, ◌&&◌, ◌||◌}
use mathlib.Core.List.{List, [], ◌∷◌, ◌++◌, map, map-map, append-nil, append_assoc}
use lib.ListN.{length, take, drop, length-drop}
use lib.Dec.{eqb}
use borrow.Author.Tests.{eqb-true, eqb-false}
use Rattle.model.specs.Lists.{keep, any, count, drop_first, All}
use Rattle.model.specs.declared.Chain.{Chain}
use Rattle.model.specs.declared.Chain.TheVariants.{ByTicks, ByDate}
use Rattle.model.specs.Kinds.{for_server}
use Rattle.model.specs.State.{index_of}
use Rattle.demand.specs.History.{Start, Event, laid_out_for, changes, deletes, one_tick, clock_set_to, initiates, serves_front, nothing, split_of, moves_clock, Placed, starts, ends, is_queued, in_chain, ticks_left_or_date, party_served, is_partys, served_from, Queues, left_in_queue, IsQueue, Waiting, waiting, queued_as, serves_in, serves, left_ahead, ahead_after, taken_off}
use Rattle.laws.proofs.ListLaws.{cases, clash, all, keep_all, keep-none, keep_append, keep-keep, drop_first-none, keep-drop_first, keep-drop_first-other}
use Rattle.laws.proofs.PartyLaws.{owns_none, owns-one}
use Rattle.laws.proofs.Order.{order-in-order, one-order}
use Rattle.demand.proofs.HistoryLaws.{Sized, due_now, chain_from, queuing_in, none-due, chain-due}

-- the starts that the event e queues
abbrev pub newly : List Event → Event → List Start
newly h e = map (λ g. g.begun) (queuing_in ByTicks h e ++ queuing_in ByDate h e)

queues-of : (h : List Event) (e : Event) → Queues h e (newly h e)
queues-of h e = record {
  ticking = queuing_in ByTicks h e;
  dated = queuing_in ByDate h e;
  ticking-order = order-in-order ticks_left_or_date (keep (in_chain ByTicks) (keep (is_queued e) (starts h)));
  dated-order = order-in-order ticks_left_or_date (keep (in_chain ByDate) (keep (is_queued e) (starts h)));
  is = refl;
}

-- an event that does not move the clock queues none
pub queue-calm : (h : List Event) (e : Event) (q : List Start) → moves_clock e ≡ false → IsQueue h q → IsQueue (e ∷ h) (left_in_queue (split_of h) e q)
queue-calm h e q still is =
    let none : newly h e ≡ [] =
    ap₂ (λ (a b : List Placed). map (λ g. g.begun) (a ++ b)) (none-due e still for_server ByTicks h) (none-due e still for_server ByDate h) in
    (q, [], is, subst (Queues h e) none (queues-of h e), sym (append-nil (left_in_queue (split_of h) e q)))

-- what an event that serves no party leaves in the queue, and hands out
pub none-served : (split : ℕ) (e : Event) (q : List Start) → party_served e ≡ 0 → drop_first (is_partys split (party_served e)) q ≡ q
none-served split e q no-party = rw no-party (drop_first-none (is_partys split 0) q (all (λ s. owns_none split (index_of s.id)) q))

pub none-handed : (split : ℕ) (e : Event) (q : List Start) → party_served e ≡ 0 → served_from split e q ≡ []
none-handed split e q no-party = rw no-party (ap (take 1) (keep-none (is_partys split 0) q (all (λ s. owns_none split (index_of s.id)) q)))

-- one that ends no start either leaves it as it is
pub queue-kept : (split : ℕ) (e : Event) (q : List Start) → party_served e ≡ 0 → ((j : ℕ) → ends j e ≡ false) → left_in_queue split e q ≡ q
queue-kept split e q no-party quiet =
    ap (keep (λ s. not (ends s.id e))) (none-served split e q no-party) ∙ keep_all (λ s. not (ends s.id e)) q (all (λ s. ap not (quiet s.id)) q)

-- so does one that moves the clock, with those that it queues behind
pub queue-moved : (h : List Event) (e : Event) (q : List Start) → party_served e ≡ 0 → ((j : ℕ) → ends j e ≡ false) → IsQueue h q
    → IsQueue (e ∷ h) (q ++ newly h e)
queue-moved h e q no-party quiet is =
    (q, newly h e, is, queues-of h e, ap (λ (l : List Start). l ++ newly h e) (sym (queue-kept (split_of h) e q no-party quiet)))

-- a waiting timer that is queued
abbrev pub to_queue : Waiting → Waiting
to_queue w = record { shows = w.shows; mode = w.mode; interval = w.interval; wait = 0 }

-- those that an event queues from a chain, as they are shown
pub queued-shown : (k : Chain) (h : List Event) → All Sized (starts h) → (e : Event)
    → map queued_as (map (λ g. g.begun) (queuing_in k h e)) ≡ map to_queue (keep (λ w. due_now k e h w && for_server w.mode) (chain_from k h))
queued-shown k h sized e =
    map-map queued_as (λ g. g.begun) (queuing_in k h e) ∙ sym (map-map to_queue waiting (queuing_in k h e)) ∙ ap (map to_queue) (chain-due k h sized e for_server)

-- ---- the place in the queue

-- there is one queue only
pub one-queue : (h : List Event) (p q : List Start) → IsQueue h p → IsQueue h q → p ≡ q
one-queue [] p q is is' = is ∙ sym is'
one-queue (e ∷ h) p q (p₀, new, was, queues, is) (q₀, new', was', queues', is') =
    is ∙ ap₂ (λ (l m : List Start). left_in_queue (split_of h) e l ++ m) (one-queue h p₀ q₀ was was')
    (queues.is ∙ ap₂ (λ (l m : List Placed). map (λ g. g.begun) (l ++ m))
    (one-order ticks_left_or_date (keep (in_chain ByTicks) (keep (is_queued e) (starts h))) queues.ticking queues'.ticking queues.ticking-order queues'.ticking-order)
    (one-order ticks_left_or_date (keep (in_chain ByDate) (keep (is_queued e) (starts h))) queues.dated queues'.dated queues.dated-order queues'.dated-order)
    ∙ sym queues'.is) ∙ sym is'

drop-front : (n : ℕ) (l m : List Start) → n ≤ length l → drop n (l ++ m) ≡ drop n l ++ m
drop-front zero l m p = refl
drop-front (suc n) [] m p = absurd (omega arith)
drop-front (suc n) (x ∷ l) m p = drop-front n l m (omega arith)

-- those that are kept and those that are not are all
kept-and-not : (p : Start → Bool) (l : List Start) → length (keep (λ s. not (p s)) l) + count p l ≡ length l
kept-and-not p [] = omega arith
kept-and-not p (x ∷ xs) = let ih = kept-and-not p xs in cases (p x) (λ e. rw e (omega arith)) (λ e. rw e (omega arith))

-- a party's starts that an event leaves in the queue are what it leaves of the party's starts there
own-left : (split p : ℕ) (e : Event) (q : List Start) → keep (is_partys split p) (left_in_queue split e q) ≡ left_ahead p e (keep (is_partys split p) q)
own-left split p e q =
    keep-keep (is_partys split p) (λ s. not (ends s.id e)) (drop_first (is_partys split (party_served e)) q)
    ∙ ap (keep (λ s. not (ends s.id e))) (first-gone (party_served e))
  where
    first-gone : (a : ℕ) → keep (is_partys split p) (drop_first (is_partys split a) q) ≡ drop (cond (eqb a p) 1 0) (keep (is_partys split p) q)
    first-gone a =
        cases (eqb a p)
        (λ f. rw (f, eqb-true a p f) (keep-drop_first (is_partys split p) q))
        (λ f. rw f (keep-drop_first-other (is_partys split p) (is_partys split a) q (λ s own. owns-one split a p (index_of s.id) (eqb-false a p f) own)))

-- an event that does not end a start is no lay out
still-split : (e : Event) (h : List Event) (id : ℕ) → ends id e ≡ false → split_of (e ∷ h) ≡ split_of h
still-split (laid_out_for t l) h id z = clash z
still-split (changes i s) h id z = refl
still-split (deletes i) h id z = refl
still-split one_tick h id z = refl
still-split (clock_set_to d n) h id z = refl
still-split initiates h id z = refl
still-split (serves_front p) h id z = refl
still-split nothing h id z = refl

-- a start of the party p in the queue stays behind those of p ahead of it that are left, until all are served or taken off
pub record Behind (h more : List Event) (p : ℕ) (ahead : List Start) (s : Start) : Type 0 where
  pub queue : List Start
  pub behind : List Start
  pub is-queue : IsQueue (more ++ h) queue
  pub its : keep (is_partys (split_of h) p) queue ≡ ahead_after p more ahead ++ (s ∷ behind)
  pub same-split : split_of (more ++ h) ≡ split_of h
  pub place : length (ahead_after p more ahead) + (serves p more + taken_off p more ahead) ≡ length ahead

pub place_after : (h more : List Event) (p : ℕ) (ahead behind : List Start) (s : Start) (q : List Start) → IsQueue h q
    → keep (is_partys (split_of h) p) q ≡ ahead ++ (s ∷ behind) → any (ends s.id) more ≡ false
    → serves p more + taken_off p more ahead ≤ length ahead → Behind h more p ahead s
place_after h [] p ahead behind s q is its quiet few =
    record { queue = q; behind = behind; is-queue = is; its = its; same-split = refl; place = omega arith }
place_after h (e ∷ more) p ahead behind s q is its quiet few =
    let l = ahead_after p more ahead in
    let n = serves_in p e in
    let own = is_partys (split_of h) p in
    let gone : Start → Bool = λ x. ends x.id e in
    let calm = neither (ends s.id e) (any (ends s.id) more) quiet in
    let was = place_after h more p ahead behind s q is its calm.1 (omega arith) in
    let room : n ≤ length l = omega (arith, was.place) in
    let b = was.behind in
    let new = newly (more ++ h) e in
    record {
      queue = left_in_queue (split_of (more ++ h)) e was.queue ++ new;
      behind = keep (λ x. not (gone x)) b ++ keep own new;
      is-queue = (was.queue, new, was.is-queue, queues-of (more ++ h) e, refl);
      its = keep_append own (left_in_queue (split_of (more ++ h)) e was.queue) new
          ∙ ap (λ (m : List Start). m ++ keep own new) (
          ap (λ (split : ℕ). keep own (left_in_queue split e was.queue)) was.same-split
          ∙ own-left (split_of h) p e was.queue
          ∙ ap (left_ahead p e) was.its
          ∙ ap (keep (λ x. not (gone x))) (drop-front n l (s ∷ b) room)
          ∙ keep_append (λ x. not (gone x)) (drop n l) (s ∷ b)
          ∙ ap (λ (c : Bool). left_ahead p e l ++ cond (not c) (s ∷ keep (λ x. not (gone x)) b) (keep (λ x. not (gone x)) b)) calm.0)
          ∙ append_assoc (left_ahead p e l) (s ∷ keep (λ x. not (gone x)) b) (keep own new);
      same-split = still-split e (more ++ h) s.id calm.0 ∙ was.same-split;
      place = omega (arith, was.place, kept-and-not gone (drop n l), length-drop n l);
    }
  where
    neither : (a b : Bool) → (a || b) ≡ false → (a ≡ false) × (b ≡ false)
    neither true b e = clash e
    neither false b e = (refl, e)
