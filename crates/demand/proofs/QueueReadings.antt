-- What demand 3 says of the server on the words: the links from word 9 and word 8 after any calls, and the words that the qth serve writes. Assumes nothing.
use mathlib.Core.Path.{◌≡◌, refl, sym, ap, ap₂, ◌∙◌, subst}
use Prim.Native.Nat.{ℕ, suc, ◌+◌, ◌≤◌}
use mathlib.Core.Bool.{false}
use mathlib.Core.List.{List, [], ◌∷◌, ◌++◌, map, append-nil}
use lib.ListN.{length, take}
use lib.Dec.{eqb}
use Rattle.model.specs.Lists.{keep, any}
use Rattle.model.specs.Calls.{Call, lay_out, serve}
use Rattle.model.specs.declared.Chain.TheVariants.{Queue}
use Rattle.model.specs.Words.{word, links, read, server_initiated}
use Rattle.model.specs.Outcome.{outcome, after}
use Rattle.demand.specs.History.{Start, Event, Placed, ends, split_of, is_initiated, is_partys, IsQueue, queued_as, serves, taken_off, entry_of, entry}
use Rattle.model.specs.Entries.{Begins}
use Rattle.demand.specs.Demand.{shown, events_after}
use Rattle.laws.proofs.ListLaws.{all, keep_all}
use Rattle.demand.proofs.QueueLaws.{one-queue}
use Rattle.demand.proofs.Demand3.{demand3}

module _ (w : List ℕ) (n t split : ℕ) (ok : (outcome w (lay_out n t split)).status ≡ 0) (xs : List Call) where
  abbrev es : List Event
  es = events_after w (lay_out n t split ∷ xs)

  -- The links from word 9 show the queue, each start with its entry, mode and interval, and wait 0.
  pub queue-shown : (q : List Start) → IsQueue es q → let u = after w (lay_out n t split ∷ xs) in map (shown (read u).slots) (links Queue u) ≡ map queued_as q
  queue-shown q is =
      let s = ((demand3 w n t split ok xs).standing xs [] (append-nil xs)).by_next Queue in s.2 ∙ ap (map queued_as) (one-queue es s.0 q s.1 is)

  -- Where L is 0 all in the queue are party 1's: its place there, and the serves, are those of the whole queue.
  pub one-party : (q : List Start) → keep (is_partys 0 1) q ≡ q
  one-party q = keep_all (is_partys 0 1) q (all (λ s. refl) q)

  -- Word 8 is 1 exactly if the server was initiated since the lay out.
  pub word-8 : eqb (server_initiated (after w (lay_out n t split ∷ xs))) 1 ≡ is_initiated es
  word-8 = sym ((demand3 w n t split ok xs).standing xs [] (append-nil xs)).initiated

  -- A timer with so many of its party's own ahead of it is handed out by the party's serve that comes when its serves and those taken off ahead are as
  -- many: its three words are written, and the answer is 1.
  pub qth-serve-hands-out : (ys : List Call) (party : ℕ) (list : List ℕ) (queue ahead behind : List Start) (s : Start) → IsQueue es queue
      → keep (is_partys (split_of es) party) queue ≡ ahead ++ (s ∷ behind) → (more : List Event) → events_after w (lay_out n t split ∷ xs ++ ys) ≡ more ++ es
      → any (ends s.id) more ≡ false
      → suc (serves party more) + taken_off party more ahead ≡ suc (length ahead)
      → let o = outcome (after w (lay_out n t split ∷ xs ++ ys)) (serve party list) in
      o.status ≡ 0
      → (o.answer ≡ 1 ∷ []) × (word o.list 0 ≡ s.id) × (word o.list 1 ≡ s.routine) × (word o.list 2 ≡ s.user_data)
      × ((m : ℕ) → 3 ≤ m → word o.list m ≡ word list m)
  qth-serve-hands-out ys party list queue ahead behind s is its more later lasts turn accepted =
      let d = demand3 w n t split ok (xs ++ (ys ++ (serve party list ∷ []))) in
      let h = d.in-turn xs ys [] party list refl queue ahead behind s is its more later lasts turn accepted in
      let e = h.1.entry [] [] (entry_of s) refl in
      (h.0, e.id, e.routine, e.user_data, h.1.rest)

  -- Every accepted serve writes the first of the caller's own in the queue, if there is one, and nothing else, and answers how many that are.
  pub serve-lists-front : (party : ℕ) (list : List ℕ) (q : List Start) → IsQueue es q
      → let o = outcome (after w (lay_out n t split ∷ xs)) (serve party list) in
      let its = take 1 (keep (is_partys (split_of es) party) q) in
      o.status ≡ 0 → (o.answer ≡ length its ∷ []) × Begins o.list list (map entry_of its)
  serve-lists-front party list q is accepted =
      let a = ((demand3 w n t split ok (xs ++ (serve party list ∷ []))).answers xs [] (serve party list) refl).lists refl accepted in
      let same = one-queue es a.queue q a.is-queue is in (
        a.served party list refl ∙ ap (λ (l : List Start). length (take 1 (keep (is_partys (split_of es) party) l)) ∷ []) same,
        subst (Begins (outcome (after w (lay_out n t split ∷ xs)) (serve party list)).list list)
            (ap₂ (λ (l : List Placed) (r : List Start). map entry l ++ map entry_of (take 1 (keep (is_partys (split_of es) party) r)))
            (a.fires-none refl) same) a.entries,
      )
