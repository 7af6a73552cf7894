-- The view of a state that a party has: the state in which every slot that is not its own is free, and each chain is kept to its own slots.
-- Reading, writing, searching and firing go through the view, once over a chain and once over the slots; what is done to a slot that is not its
-- own leaves it. Assumes nothing.
use mathlib.Core.Path.{◌≡◌, refl, sym, ap, ap₂, ◌∙◌}
use Prim.Native.Nat.{ℕ, zero, suc, ◌+◌}
use native.Mathlib.Omega.{arith}
use mathlib.Core.Bool.{Bool, true, false, cond, not, ◌&&◌}
use mathlib.Core.List.{List, [], ◌∷◌, ◌++◌, map}
use lib.ListN.{length, get_or, set, take, drop, replicate}
use lib.Dec.{leb, ltb, eqb}
use borrow.Author.Tests.{eqb-true}
use Rattle.model.specs.Lists.{keep, drop_first, place, Sorted}
use Rattle.model.specs.declared.Chain.{Chain}
use Rattle.model.specs.declared.Chain.TheVariants.{ByTicks, ByDate, Queue}
use Rattle.model.specs.declared.Mode.{Mode}
use Rattle.model.specs.Kinds.{kind_at, chain_for, waits_in, for_server}
use Rattle.model.specs.Parties.{owns}
use Rattle.model.specs.State.{Slot, Link, State, chain_of, with_chain, with_clock, free, slot_at, put_at, lowest, without, wait_at, id_base, index_of, Fired, listed}
use Rattle.model.specs.Directives.{stored, stopped, inserted, waiting_as, started, fired, fired_all, wait_again, due, off, fire, without_server, front, handed_out, closer, nearer, clock_step, ticked_once, due_in_tick}
use Rattle.laws.proofs.ListLaws.{cases, all, all_map, all_keep, all-passed, keep-keep, keep-on, keep_all, keep-map, keep-place, keep_append, map_on, sorted-keep, keep-drop_first, keep-drop_first-other}
use Rattle.laws.proofs.Order.{order_on, keep-order_on}
use Rattle.laws.proofs.WellFormed.{Chained}
use Rattle.laws.proofs.GoingOn.{goes_to, again, back_in}
use Rattle.laws.proofs.Steps.{same-state, with-chain-each, stored-chain, stopped-chain, fire-slots, fire-clock, fire-split, fire-server, fire-chain, chained-fire, chained-nearer, chained-with-clock}

-- ---- the first that passes a test

module _ {A : Type 0} where
  drop_first-kept : (p : A → Bool) (l : List A) → drop_first p (keep p l) ≡ drop 1 (keep p l)
  drop_first-kept p [] = refl
  drop_first-kept p (x ∷ xs) = cases (p x) (λ e. rw e (rw e)) (λ e. rw e (drop_first-kept p xs))

  -- it passes it, and not another that excludes it
  pub keep-first : (p : A → Bool) (l : List A) → keep p (take 1 (keep p l)) ≡ take 1 (keep p l)
  keep-first p [] = refl
  keep-first p (x ∷ xs) = cases (p x) (λ e. rw e (rw e)) (λ e. rw e (keep-first p xs))

  keep-first-other : (p q : A → Bool) (l : List A) → ((x : A) → q x ≡ true → p x ≡ false) → keep p (take 1 (keep q l)) ≡ []
  keep-first-other p q [] h = refl
  keep-first-other p q (x ∷ xs) h = cases (q x) (λ e. rw e (rw (h x e))) (λ e. rw e (keep-first-other p q xs h))

-- ---- the slots of a party

-- the slots from b on, those that are not its own free
abbrev pub own_slots : (ℕ → Bool) → ℕ → List Slot → List Slot
own_slots own b [] = []
own_slots own b (x ∷ xs) = cond (own b) x free ∷ own_slots own (suc b) xs

cond_same : {A : Type 0} (b : Bool) (x : A) → cond b x x ≡ x
cond_same true x = refl
cond_same false x = refl

module _ (own : ℕ → Bool) where
  -- ---- slots, from b on: the one at j is slot i

  pub own-length : (b : ℕ) (sl : List Slot) → length (own_slots own b sl) ≡ length sl
  own-length b [] = refl
  own-length b (x ∷ xs) = ap suc (own-length (suc b) xs)

  own-get : (b j i : ℕ) (sl : List Slot) → b + j ≡ i → get_or (own_slots own b sl) j free ≡ cond (own i) (get_or sl j free) free
  own-get b j i [] is = sym (cond_same (own i) free)
  own-get b zero i (x ∷ xs) is = let e : b ≡ i = omega arith in ap (λ (m : ℕ). cond (own m) x free) e
  own-get b (suc j) i (x ∷ xs) is = own-get (suc b) j i xs (omega arith)

  own-set : (b j i : ℕ) (sl : List Slot) (x : Slot) → b + j ≡ i → own i ≡ true → own_slots own b (set sl j x) ≡ set (own_slots own b sl) j x
  own-set b j i [] x is e = refl
  own-set b zero i (y ∷ ys) x is e =
      let f : b ≡ i = omega arith in
      ap (λ (c : Bool). cond c x free ∷ own_slots own (suc b) ys) (ap own f ∙ e)
  own-set b (suc j) i (y ∷ ys) x is e = ap {B = List Slot} (λ l. cond (own b) y free ∷ l) (own-set (suc b) j i ys x (omega arith) e)

  other-set : (b j i : ℕ) (sl : List Slot) (x : Slot) → b + j ≡ i → own i ≡ false → own_slots own b (set sl j x) ≡ own_slots own b sl
  other-set b j i [] x is e = refl
  other-set b zero i (y ∷ ys) x is e =
      let f : b ≡ i = omega arith in
      ap (λ (c : Bool). cond c x free ∷ own_slots own (suc b) ys) (ap own f ∙ e)
      ∙ sym (ap (λ (c : Bool). cond c y free ∷ own_slots own (suc b) ys) (ap own f ∙ e))
  other-set b (suc j) i (y ∷ ys) x is e = ap {B = List Slot} (λ l. cond (own b) y free ∷ l) (other-set (suc b) j i ys x (omega arith) e)

  -- a search of its own slots
  pub own-search : (p : Slot → Bool) (b : ℕ) (sl : List Slot) → lowest (λ i x. own i && p x) b (own_slots own b sl) ≡ lowest (λ i x. own i && p x) b sl
  own-search p b [] = refl
  own-search p b (x ∷ xs) =
      cases (own b)
      (λ e. rw e (ap (cond (p x) b) (own-search p (suc b) xs)))
      (λ e. rw e (own-search p (suc b) xs))

  pub own-blank : (b n : ℕ) → own_slots own b (replicate n free) ≡ replicate n free
  own-blank b zero = refl
  own-blank b (suc n) = ap₂ {C = List Slot} (λ x l. x ∷ l) (cond_same (own b) free) (own-blank (suc b) n)

  -- ---- all slots

  pub own_at : (sl : List Slot) (i : ℕ) → own i ≡ true → slot_at (own_slots own 1 sl) i ≡ slot_at sl i
  own_at sl zero e = refl
  own_at sl (suc i) e = own-get 1 i (suc i) sl (omega arith) ∙ ap (λ (c : Bool). cond c (get_or sl i free) free) e

  pub own_put : (sl : List Slot) (i : ℕ) (x : Slot) → own i ≡ true → own_slots own 1 (put_at sl i x) ≡ put_at (own_slots own 1 sl) i x
  own_put sl zero x e = refl
  own_put sl (suc i) x e = own-set 1 i (suc i) sl x (omega arith) e

  pub other-put : (sl : List Slot) (i : ℕ) (x : Slot) → own i ≡ false → own_slots own 1 (put_at sl i x) ≡ own_slots own 1 sl
  other-put sl zero x e = refl
  other-put sl (suc i) x e = other-set 1 i (suc i) sl x (omega arith) e

  -- ---- chains

  -- the link is to a slot of its own
  abbrev pub mine : Link → Bool
  mine w = own w.slot

  pub keep-comm : (p : Link → Bool) (l : List Link) → keep mine (keep p l) ≡ keep p (keep mine l)
  keep-comm p l = keep-keep mine p l

  pub keep-twice : (l : List Link) → keep mine (keep mine l) ≡ keep mine l
  keep-twice l = keep_all mine (keep mine l) (all-passed mine l)

  -- a slot that is not its own goes unnoticed
  pub other-without : (i : ℕ) (l : List Link) → own i ≡ false → keep mine (without i l) ≡ keep mine l
  other-without i [] e = refl
  other-without i (w ∷ ws) e =
      let ih = other-without i ws e in
      cases (eqb w.slot i)
      (λ f.
      let g : own w.slot ≡ false = ap own (eqb-true w.slot i f) ∙ e in
      rw (f, g) ih)
      (λ f. rw f (cases (own w.slot) (λ g. rw g (ap {B = List Link} (λ l. w ∷ l) ih)) (λ g. rw g ih)))

  own-wait : (i : ℕ) (l : List Link) → own i ≡ true → wait_at i (keep mine l) ≡ wait_at i l
  own-wait i [] e = refl
  own-wait i (w ∷ ws) e =
      let ih = own-wait i ws e in
      cases (eqb w.slot i)
      (λ f.
      let g : own w.slot ≡ true = ap own (eqb-true w.slot i f) ∙ e in
      rw (g, f))
      (λ f. cases (own w.slot) (λ g. rw (g, f) ih) (λ g. rw (g, f) ih))

  -- timers that fire
  own-fired : (ws : List Link) (sl : List Slot) → own_slots own 1 (fired_all ws sl) ≡ fired_all (keep mine ws) (own_slots own 1 sl)
  own-fired [] sl = refl
  own-fired (w ∷ ws) sl =
      let i = w.slot in
      let x = fired (slot_at sl i) in
      cases (own i)
      (λ e. own-fired ws (put_at sl i x)
      ∙ ap (fired_all (keep mine ws)) (own_put sl i x e ∙ ap (λ (y : Slot). put_at (own_slots own 1 sl) i (fired y)) (sym (own_at sl i e)))
      ∙ rw e)
      (λ e. own-fired ws (put_at sl i x) ∙ ap (fired_all (keep mine ws)) (other-put sl i x e) ∙ rw e)

  -- links that are picked by what their slots say
  own-picked : (sl : List Slot) (r : Slot → Bool) (ws : List Link)
      → keep mine (keep (λ w. r (slot_at sl w.slot)) ws) ≡ keep (λ w. r (slot_at (own_slots own 1 sl) w.slot)) (keep mine ws)
  own-picked sl r ws =
      keep-comm (λ w. r (slot_at sl w.slot)) ws
      ∙ keep-on (λ w. r (slot_at sl w.slot)) (λ w. r (slot_at (own_slots own 1 sl) w.slot)) (keep mine ws)
      (all_map (λ w e. ap r (sym (own_at sl w.slot e))) (keep mine ws) (all-passed mine ws))

  pub own-listed-ones : (sl : List Slot) (ws : List Link) → keep mine (without_server sl ws) ≡ without_server (own_slots own 1 sl) (keep mine ws)
  own-listed-ones sl ws = own-picked sl (λ x. not (for_server (kind_at x.kind).last)) ws

  -- those that go on to chain j
  own_back : (j : Chain) (sl : List Slot) (ws : List Link) → keep mine (back_in j sl ws) ≡ back_in j (own_slots own 1 sl) (keep mine ws)
  own_back j sl ws =
      let O = own_slots own 1 sl in
      let l = keep (goes_to j O) (keep mine ws) in
      keep-map (again j sl) mine (keep (goes_to j sl) ws)
      ∙ ap (map (again j sl)) (own-picked sl (λ x. waits_in j x.kind) ws)
      ∙ map_on (again j sl) (again j O) l
      (all_map (λ w e. ap {B = Link} (λ (x : Slot). record { slot = w.slot; wait = wait_again j x.interval }) (sym (own_at sl w.slot e))) l
      (all_keep (λ w. mine w ≡ true) (goes_to j O) (keep mine ws) (all-passed mine ws)))

  -- ---- entries of a fired list

  -- the entry is of a timer of its own
  abbrev pub its_entry : Fired → Bool
  its_entry f = own (index_of f.id)

  pub own-entries : (sl : List Slot) (ws : List Link) → keep its_entry (map (listed sl) ws) ≡ map (listed sl) (keep mine ws)
  own-entries sl ws =
      keep-map (listed sl) its_entry ws
      ∙ ap (map (listed sl)) (keep-on (λ w. its_entry (listed sl w)) mine ws (all (λ w. let at : index_of (id_base + w.slot) ≡ w.slot = omega arith in ap own at) ws))

  pub own-listed : (sl : List Slot) (ws : List Link) → map (listed (own_slots own 1 sl)) (keep mine ws) ≡ map (listed sl) (keep mine ws)
  own-listed sl ws =
      map_on (listed (own_slots own 1 sl)) (listed sl) (keep mine ws)
      (all_map (λ w e. ap (λ (x : Slot). record { id = id_base + w.slot; routine = x.routine; user_data = x.user_data }) (own_at sl w.slot e))
      (keep mine ws) (all-passed mine ws))

-- ---- the view

abbrev pub view_by : (ℕ → Bool) → State → State
view_by own s = record {
  slots = own_slots own 1 s.slots;
  clock = s.clock;
  ticking = keep (mine own) s.ticking;
  dated = keep (mine own) s.dated;
  split = s.split;
  server = s.server;
  queue = keep (mine own) s.queue;
}

-- what the party q sees of a state
abbrev pub view : ℕ → State → State
view q s = view_by (owns s.split q) s

module _ (own : ℕ → Bool) where
  -- ---- the view by its parts

  view-chain : (k : Chain) (s : State) → chain_of k (view_by own s) ≡ keep (mine own) (chain_of k s)
  view-chain ByTicks s = refl
  view-chain ByDate s = refl
  view-chain Queue s = refl

  view-chained : (k : Chain) (s : State) (sl : List Slot) (l : List Link)
      → view_by own (with_chain k s sl l) ≡ with_chain k (view_by own s) (own_slots own 1 sl) (keep (mine own) l)
  view-chained ByTicks s sl l = refl
  view-chained ByDate s sl l = refl
  view-chained Queue s sl l = refl

  view-is : (s u : State) → s.clock ≡ u.clock → s.split ≡ u.split → s.server ≡ u.server → own_slots own 1 s.slots ≡ u.slots
      → ((k : Chain) → keep (mine own) (chain_of k s) ≡ chain_of k u) → view_by own s ≡ u
  view-is s u clock split server slots chains = same-state (view_by own s) u slots clock split server (λ k. view-chain k s ∙ chains k)

  module _ (s : State) where
    abbrev v : State
    v = view_by own s

    -- ---- a slot of its own

    module _ (i : ℕ) (e : own i ≡ true) where
      pub view-slot : slot_at (view_by own s).slots i ≡ slot_at s.slots i
      view-slot = own_at own s.slots i e

      pub view-stored : (x : Slot) → view_by own (stored s i x) ≡ stored (view_by own s) i x
      view-stored x = view-is (stored s i x) (stored v i x) refl refl refl (own_put own s.slots i x e)
          (λ k. ap (keep (mine own)) (stored-chain s i x k) ∙ sym (view-chain k s) ∙ sym (stored-chain v i x k))

      pub view-stopped : (x : Slot) → view_by own (stopped s i x) ≡ stopped (view_by own s) i x
      view-stopped x = view-is (stopped s i x) (stopped v i x) refl refl refl (own_put own s.slots i x e)
          (λ k. ap (keep (mine own)) (stopped-chain s i x k) ∙ keep-comm own (λ w. not (eqb w.slot i)) (chain_of k s)
          ∙ ap (without i) (sym (view-chain k s)) ∙ sym (stopped-chain v i x k))

      pub view-wait : wait_at i (view_by own s).ticking ≡ wait_at i s.ticking
      view-wait = own-wait own i s.ticking e

    -- ---- a slot of another

    module _ (i : ℕ) (e : own i ≡ false) where
      pub other-stored : (x : Slot) → view_by own (stored s i x) ≡ view_by own s
      other-stored x = view-is (stored s i x) v refl refl refl (other-put own s.slots i x e)
          (λ k. ap (keep (mine own)) (stored-chain s i x k) ∙ sym (view-chain k s))

      pub other-stopped : (x : Slot) → view_by own (stopped s i x) ≡ view_by own s
      other-stopped x = view-is (stopped s i x) v refl refl refl (other-put own s.slots i x e)
          (λ k. ap (keep (mine own)) (stopped-chain s i x k) ∙ other-without own i (chain_of k s) e ∙ sym (view-chain k s))

    -- ---- timers that fire

    pub view-due : (k : Chain) (limit : ℕ) → due k limit (view_by own s) ≡ keep (mine own) (due k limit s)
    view-due k limit =
        ap (keep (λ w. leb w.wait limit)) (view-chain k s) ∙ sym (keep-comm own (λ w. leb w.wait limit) (chain_of k s))

    fired-view : (k : Chain) (limit : ℕ) → own_slots own 1 (fired_all (due k limit s) s.slots) ≡ fired_all (due k limit (view_by own s)) (view_by own s).slots
    fired-view k limit = own-fired own (due k limit s) s.slots ∙ ap (λ (ws : List Link). fired_all ws v.slots) (sym (view-due k limit))

    view-off : (k : Chain) (limit : ℕ) → view_by own (off k limit s) ≡ off k limit (view_by own s)
    view-off k limit =
        let later : Link → Bool = λ w. ltb limit w.wait in
        view-chained k s (fired_all (due k limit s) s.slots) (keep later (chain_of k s))
        ∙ ap₂ (with_chain k v) (fired-view k limit) (keep-comm own later (chain_of k s) ∙ ap (keep later) (sym (view-chain k s)))

    -- what is left of each chain, with those that go on to it
    pub view-fire : ((k : Chain) → Sorted (λ w. w.wait) (chain_of k s)) → (k : Chain) (limit : ℕ) → view_by own (fire k limit s) ≡ fire k limit (view_by own s)
    view-fire rises k limit =
        let ws = due k limit s in
        let fs = fired_all ws s.slots in
        let rest = keep (λ w. ltb limit w.wait) (chain_of k s) in
        view-is (fire k limit s) (fire k limit v) (fire-clock k limit s ∙ sym (fire-clock k limit v)) (fire-split k limit s ∙ sym (fire-split k limit v))
        (fire-server k limit s ∙ sym (fire-server k limit v))
        (ap (own_slots own 1) (fire-slots k limit s) ∙ fired-view k limit ∙ sym (fire-slots k limit v))
        (λ j.
        ap (keep (mine own)) (fire-chain k limit s j)
        ∙ keep-order_on (λ w. w.wait) (mine own) (chain_of j (off k limit s)) (back_in j fs ws)
        (with-chain-each s fs rest (λ j l. Sorted (λ w. w.wait) l) k
        (sorted-keep (λ w. w.wait) (λ w. ltb limit w.wait) (chain_of k s) (rises k)) (λ j _. rises j) j)
        ∙ ap₂ (order_on (λ w. w.wait)) (sym (view-chain j (off k limit s)) ∙ ap (chain_of j) (view-off k limit))
        (own_back own j fs ws ∙ ap₂ (back_in j) (fired-view k limit) (sym (view-due k limit)))
        ∙ sym (fire-chain k limit v j))

    view-nearer : view_by own (nearer s) ≡ nearer (view_by own s)
    view-nearer = view-is (nearer s) (nearer v) refl refl refl refl each
      where
        each : (k : Chain) → keep (mine own) (chain_of k (nearer s)) ≡ chain_of k (nearer (view_by own s))
        each ByTicks = keep-map closer (mine own) s.ticking
        each ByDate = refl
        each Queue = refl

  -- ---- a tick

  module _ (s : State) (h : Chained s) where
    near : Chained (nearer s)
    near = chained-nearer s h

    -- the state in which the dated timers fire
    abbrev between : State
    between = with_clock (fire ByTicks 0 (nearer s)) (clock_step s.clock)

    view-between : with_clock (fire ByTicks 0 (nearer (view_by own s))) (clock_step s.clock) ≡ view_by own between
    view-between =
        ap (λ (z : State). with_clock z (clock_step s.clock))
        (ap (fire ByTicks 0) (sym (view-nearer s)) ∙ sym (view-fire (nearer s) near.rises ByTicks 0))

    pub view-tick : view_by own (ticked_once s) ≡ ticked_once (view_by own s)
    view-tick =
        let rises = (chained-with-clock (fire ByTicks 0 (nearer s)) (clock_step s.clock) (chained-fire ByTicks 0 (nearer s) near)).rises in
        view-fire between rises ByDate (clock_step s.clock).second ∙ ap (fire ByDate (clock_step s.clock).second) (sym view-between)

    pub view-due-in-tick : due_in_tick (view_by own s) ≡ keep (mine own) (due_in_tick s)
    view-due-in-tick =
        let second = (clock_step s.clock).second in
        ap₂ (λ (a b : List Link). a ++ b)
        (ap (due ByTicks 0) (sym (view-nearer s)) ∙ view-due (nearer s) ByTicks 0)
        (ap (due ByDate second) view-between ∙ view-due between ByDate second)
        ∙ sym (keep_append (mine own) (due ByTicks 0 (nearer s)) (due ByDate second between))

  -- ---- a start

  -- it is placed among its own
  view-inserted : (k : Chain) (s : State) (i wait : ℕ) → own i ≡ true → Sorted (λ w. w.wait) (chain_of k s)
      → view_by own (inserted k s i wait) ≡ inserted k (view_by own s) i wait
  view-inserted k s i wait e h =
      let new : Link = record { slot = i; wait = wait } in
      view-chained k s s.slots (place (λ w. w.wait) new (chain_of k s))
      ∙ ap (with_chain k (view_by own s) (own_slots own 1 s.slots))
      (keep-place (λ w. w.wait) (mine own) new (chain_of k s) h
      ∙ ap (λ (b : Bool). cond b (place (λ w. w.wait) new (keep (mine own) (chain_of k s))) (keep (mine own) (chain_of k s))) e
      ∙ ap (place (λ w. w.wait) new) (sym (view-chain k s)))

  other-inserted : (k : Chain) (s : State) (i wait : ℕ) → own i ≡ false → Sorted (λ w. w.wait) (chain_of k s)
      → view_by own (inserted k s i wait) ≡ view_by own s
  other-inserted k s i wait e h =
      let new : Link = record { slot = i; wait = wait } in
      view-chained k s s.slots (place (λ w. w.wait) new (chain_of k s))
      ∙ ap (with_chain k (view_by own s) (own_slots own 1 s.slots))
      (keep-place (λ w. w.wait) (mine own) new (chain_of k s) h
      ∙ ap (λ (b : Bool). cond b (place (λ w. w.wait) new (keep (mine own) (chain_of k s))) (keep (mine own) (chain_of k s))) e)
      ∙ sym (view-chained k s s.slots (chain_of k s))
      ∙ ap (view_by own) (as_it_was k s)
    where
      as_it_was : (k : Chain) (s : State) → with_chain k s s.slots (chain_of k s) ≡ s
      as_it_was ByTicks s = refl
      as_it_was ByDate s = refl
      as_it_was Queue s = refl

  module _ (m : Mode) (s : State) (i amount r u : ℕ) (h : Sorted (λ w. w.wait) (chain_of (chain_for m) s)) where
    still-rising : (x : Slot) → Sorted (λ w. w.wait) (chain_of (chain_for m) (stopped s i x))
    still-rising x = rw (stopped-chain s i x (chain_for m)) (sorted-keep (λ w. w.wait) (λ w. not (eqb w.slot i)) (chain_of (chain_for m) s) h)

    pub view-started : own i ≡ true → view_by own (started m s i amount r u) ≡ started m (view_by own s) i amount r u
    view-started e =
        let k = chain_for m in
        let x = waiting_as m (slot_at s.slots i) amount r u in
        view-inserted k (stopped s i x) i amount e (still-rising x)
        ∙ ap (λ (z : State). inserted k z i amount) (view-stopped s i e x)
        ∙ ap (λ (y : Slot). inserted k (stopped (view_by own s) i (waiting_as m y amount r u)) i amount) (sym (view-slot s i e))

    pub other-started : own i ≡ false → view_by own (started m s i amount r u) ≡ view_by own s
    other-started e =
        let x = waiting_as m (slot_at s.slots i) amount r u in
        other-inserted (chain_for m) (stopped s i x) i amount e (still-rising x) ∙ other-stopped s i e x

-- ---- a serve

module _ (q : ℕ) (s : State) where
  abbrev its : ℕ → Bool
  its = owns s.split q

  pub view-front : front (view q s) q ≡ keep (mine its) (front s q)
  view-front = ap (take 1) (keep-twice its s.queue) ∙ sym (keep-first (mine its) s.queue)

  pub view-handed : view q (handed_out s q) ≡ handed_out (view q s) q
  view-handed = view-is its (handed_out s q) (handed_out (view q s) q) refl refl refl
      (own-fired its (front s q) s.slots ∙ ap (λ (ws : List Link). fired_all ws (view q s).slots) (sym view-front)) each
    where
      each : (k : Chain) → keep (mine its) (chain_of k (handed_out s q)) ≡ chain_of k (handed_out (view q s) q)
      each ByTicks = refl
      each ByDate = refl
      each Queue = keep-drop_first (mine its) s.queue ∙ sym (drop_first-kept (mine its) s.queue)

  -- another party takes none of its own
  pub other-handed : (p : ℕ) → ((i : ℕ) → owns s.split p i ≡ true → its i ≡ false) → view q (handed_out s p) ≡ view q s
  other-handed p apart = view-is its (handed_out s p) (view q s) refl refl refl
      (own-fired its (front s p) s.slots
      ∙ ap (λ (ws : List Link). fired_all ws (view q s).slots)
      (keep-first-other (mine its) (λ w. owns s.split p w.slot) s.queue (λ w. apart w.slot))) each
    where
      each : (k : Chain) → keep (mine its) (chain_of k (handed_out s p)) ≡ chain_of k (view q s)
      each ByTicks = refl
      each ByDate = refl
      each Queue = keep-drop_first-other (mine its) (λ w. owns s.split p w.slot) s.queue (λ w. apart w.slot)
