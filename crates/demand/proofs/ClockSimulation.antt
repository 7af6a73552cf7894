-- A tick and a set clock, which move the clock: each takes a state that agrees with the events so far to one that agrees with them and its
-- event, and lists what fires in it. Assumes nothing.
use mathlib.Core.Path.{◌≡◌, refl, sym, ap, ap₂, ◌∙◌, subst}
use Prim.Native.Nat.{ℕ, suc, ◌+◌, ◌-◌, ◌*◌, ◌≤◌, ◌<◌, min}
use native.Mathlib.Nat.{mul-le-mul_right}
use native.Mathlib.Omega.{arith}
use mathlib.Core.Bool.{Bool, true, false, not, ◌&&◌, and_comm}
use mathlib.Core.Option.{Option, none, some}
use mathlib.Core.List.{List, [], ◌∷◌, ◌++◌, map, map-map, map-append, append_assoc, cons≢nil}
use lib.Dec.{leb, ltb}
use borrow.Author.Tests.{leb-true, leb-false, le-leb, lt-leb}
use Rattle.model.specs.Lists.{keep, All}
use Rattle.model.specs.declared.Chain.{Chain}
use Rattle.model.specs.declared.Chain.TheVariants.{ByTicks, ByDate, Queue}
use Rattle.model.specs.declared.Mode.{Mode}
use Rattle.model.specs.Kinds.{kind_at, waits_in, for_server}
use Rattle.model.specs.State.{Slot, Link, Clock, State, chain_of, with_clock, slot_at, id_base, Fired, listed}
use Rattle.calendar.specs.Calendar.{last_second}
use Rattle.model.specs.Directives.{fired_all, due, fire, without_server, closer, nearer, clock_at, clock_step, ticked, clock_moved, moved_by}
use Rattle.demand.specs.History.{Start, Event, one_tick, clock_set_to, start_in, per_second, clock_after, at_least, past, moves_clock, ends, Placed, placed, in_chain, entry, Waiting, waiting, queued_as}
use Rattle.demand.specs.Demand.{shown}
use Rattle.laws.proofs.ListLaws.{cases, clash, all, all_map, keep_append, keep-map, keep-on, keep-and, map_on, not-leb}
use Rattle.laws.proofs.Order.{order_on, map-order_on}
use Rattle.laws.proofs.KindLaws.{periodic, again-by-ticks, ticks-queued, dated-queued, again-not-dated, dated-not-again}
use Rattle.laws.proofs.Slots.{memo}
use Rattle.laws.proofs.WellFormed.{Chained, WellFormed}
use Rattle.laws.proofs.GoingOn.{again, back_in}
use Rattle.laws.proofs.Steps.{memo-fire, fire-clock, fire-split, fire-server, fire-chain, due-parts, back_is, back-kinds, fire-elsewhere, fire-own, fire-queue, chained-fire, chained-nearer, chained-with-clock}
use Rattle.laws.proofs.ClockSteps.{clock-unset, clock-is_set, clock-per_second, clock-into}
use Rattle.demand.proofs.HistoryLaws.{due_now, lowered, renewed, fresh, chain_from, remains, returns, due_of, firing_in, queuing_in, chain-due, none-dated-back, sized-more}
use Rattle.demand.proofs.ChainLaws.{map_same, chain-moved, chain-calm}
use Rattle.demand.proofs.QueueLaws.{newly, to_queue, queue-moved, queued-shown}
use Rattle.demand.proofs.ClockLaws.{onward, one_later, standing, at-or-past, step-onward, apart}
use Rattle.demand.proofs.Simulation.{shown-memo, Remembers, Stands, Agrees, kept-all, kept-none}

-- how the timer of a link was last started
abbrev mode_of : List Slot → Link → Option Mode
mode_of slots w = (kind_at (slot_at slots w.slot).kind).last

-- ---- the dated timers that come due, and those that are left

module _ (s : State) (h : List Event) (v : Agrees s h) (e : Event) (quiet : (j : ℕ) → ends j e ≡ false) where
  -- those up to the second d are due, where the clock is then at or past just the dates up to d
  module _ (d : ℕ) (moving : moves_clock e ≡ true) (fresh-none : start_in e ≡ none)
      (cut : All (λ w. past w.wait (e ∷ h) ≡ leb w.wait d) s.dated) where
    none-fresh : fresh ByDate e h ≡ []
    none-fresh = ap (λ (o : Option Start). map waiting (keep (in_chain ByDate) (placed o (e ∷ h)))) fresh-none

    due-is : All (λ w. due_now ByDate e h (shown s.slots w) ≡ leb w.wait d) s.dated
    due-is = all_map (λ w p. ap (λ (b : Bool). b && past w.wait (e ∷ h)) moving ∙ p) s.dated cut

    abbrev passed : List Link
    passed = keep (λ w. leb w.wait d) s.dated

    -- those of a sort
    dated-part : (q : Option Mode → Bool) → map (shown s.slots) (keep (λ w. q (mode_of s.slots w)) passed)
        ≡ keep (λ w. due_now ByDate e h w && q w.mode) (chain_from ByDate h)
    dated-part q =
        let sl = s.slots in
        let l = s.dated in
        let soon : Waiting → Bool = λ w. due_now ByDate e h w && q w.mode in
        ap (map (shown sl)) (keep-and (λ w. q (mode_of sl w)) (λ w. leb w.wait d) l
        ∙ keep-on (λ w. leb w.wait d && q (mode_of sl w)) (λ w. soon (shown sl w)) l
        (all_map (λ w p. ap (λ (b : Bool). b && q (mode_of sl w)) (sym p)) l due-is))
        ∙ sym (keep-map (shown sl) soon l)
        ∙ ap (keep soon) (v.chain ByDate)

    dated-lists : map (listed s.slots) (without_server s.slots passed) ≡ map entry (firing_in ByDate h e)
    dated-lists =
        sym (map-map (λ w. w.shows) (shown s.slots) (without_server s.slots passed))
        ∙ ap (map (λ w. w.shows)) (dated-part (λ o. not (for_server o)) ∙ sym (chain-due ByDate h v.sized e (λ o. not (for_server o))))
        ∙ map-map (λ w. w.shows) waiting (firing_in ByDate h e)

    dated-left : map (shown s.slots) (keep (λ w. ltb d w.wait) s.dated) ≡ chain_from ByDate (e ∷ h)
    dated-left =
        let sl = s.slots in
        let l = s.dated in
        let ticks_left_or_date : Waiting → Bool = remains ByDate e h in
        sym (chain-moved ByDate h v.sized e none-fresh
        ∙ ap (λ (l : List Waiting). order_on (λ w. w.wait) (map (lowered ByDate e) (keep ticks_left_or_date (chain_from ByDate h))) (map renewed l))
        (none-dated-back h v.sized e)
        ∙ map_same (λ w. w) (λ w. refl) (keep ticks_left_or_date (chain_from ByDate h))
        ∙ ap (keep ticks_left_or_date) (sym (v.chain ByDate))
        ∙ keep-map (shown sl) ticks_left_or_date l
        ∙ ap (map (shown sl)) (keep-on (λ w. ticks_left_or_date (shown sl w)) (λ w. ltb d w.wait) l
        (all_map (λ w p. ap₂ (λ (a b : Bool). not a && not b) (quiet (id_base + w.slot)) p ∙ sym (not-leb w.wait d)) l due-is)))

    -- they fire from a state that remembers as much, with the same dated chain
    module _ (b : State) (formed : Chained b) (memory : (i : ℕ) → memo (slot_at b.slots i) ≡ memo (slot_at s.slots i)) (same : b.dated ≡ s.dated) where
      abbrev D : List Link
      D = due ByDate d b

      dated-queue : map (shown s.slots) (back_in Queue (fired_all (due ByDate d b) b.slots) (due ByDate d b))
          ≡ map queued_as (map (λ g. g.begun) (queuing_in ByDate h e))
      dated-queue =
          let sl = s.slots in
          let rest = keep (λ w. ltb d w.wait) b.dated in
          ap (map (shown sl)) (back_is ByDate b formed D rest (due-parts ByDate d b) Queue
          ∙ ap (map (again Queue b.slots)) (keep-on (λ w. waits_in Queue (kind_at (slot_at b.slots w.slot).kind).when_fired) (λ w. for_server (mode_of sl w)) D
          (all_map (λ w p. dated-queued (slot_at b.slots w.slot).kind p ∙ ap (λ m. for_server m.last) (memory w.slot)) D
          (back-kinds ByDate b formed D rest (due-parts ByDate d b)))
          ∙ ap (λ (l : List Link). keep (λ w. for_server (mode_of sl w)) (keep (λ w. leb w.wait d) l)) same))
          ∙ map-map (shown sl) (again Queue b.slots) (keep (λ w. for_server (mode_of sl w)) passed)
          ∙ sym (map-map to_queue (shown sl) (keep (λ w. for_server (mode_of sl w)) passed))
          ∙ ap (map to_queue) (dated-part for_server)
          ∙ sym (queued-shown ByDate h v.sized e)

-- the clock in ticks and a state's clock say the same of dates above the second
cut-clock : (c : Clock) (h : List Event) (w : ℕ) → per_second h ≡ c.per_second → clock_after 0 h ≡ standing c → c.ticks_into < c.per_second
    → (c.is_set ≡ false → c.second < w) → past w h ≡ leb w c.second
cut-clock c h w per stand into unset =
    ap₂ (λ (t : ℕ) (o : Option ℕ). at_least (w * t) o) per stand ∙ go c.is_set refl
  where
    go : (b : Bool) → c.is_set ≡ b → at_least (w * c.per_second) (standing c) ≡ leb w c.second
    go true f = rw f (at-or-past c.per_second c.second c.ticks_into w into)
    go false f = rw f (sym (lt-leb w c.second (unset f)))

-- slots after timers fired show what they showed
fired-shows : (k : Chain) (limit : ℕ) (s : State) (l : List Link) → map (shown (fire k limit s).slots) l ≡ map (shown s.slots) l
fired-shows k limit s l = shown-memo s.slots (fire k limit s).slots (memo-fire k limit s) l

module _ (s : State) (h : List Event) (v : Agrees s h) (f : WellFormed s) where
  -- ---- set clock
  module _ (d : ℕ) (in-range : d ≤ last_second) (n : ℕ) (within : n < s.clock.per_second) where
    set-per : per_second (clock_set_to d n ∷ h) ≡ s.clock.per_second
    set-per = v.per

    set-clock : clock_after 0 (clock_set_to d n ∷ h) ≡ standing (clock_at s.clock d n)
    set-clock =
        ap {B = Option ℕ} (λ (t : ℕ). some (min (d * t + n + 0) (suc last_second * t - 1))) v.per
        ∙ ap {B = Option ℕ} some (omega (arith, mul-le-mul_right s.clock.per_second in-range))

    set-cut : All (λ w. past w.wait (clock_set_to d n ∷ h) ≡ leb w.wait d) s.dated
    set-cut = all (λ w. cut-clock (clock_at s.clock d n) (clock_set_to d n ∷ h) w.wait set-per set-clock within (λ e. clash e)) s.dated

    -- no interval timer is due in it
    no-ticks : (q : Option Mode → Bool) → due_of q ByTicks h (clock_set_to d n) ≡ []
    no-ticks q = empty (due_of q ByTicks h (clock_set_to d n)) (chain-due ByTicks h v.sized (clock_set_to d n) q ∙ kept-none (chain_from ByTicks h))
      where
        empty : (l : List Placed) → map waiting l ≡ [] → l ≡ []
        empty [] z = refl
        empty (x ∷ xs) z = absurd (cons≢nil z)

    abbrev now : State
    now = with_clock s (clock_at s.clock d n)

    pub on-set-clock : Agrees (clock_moved s d n).state (clock_set_to d n ∷ h)
    on-set-clock = record {
      sized = sized-more h (clock_set_to d n) v.sized tt;
      chain = λ k. subst (Stands k (clock_set_to d n ∷ h)) (sym (fired-shows ByDate d now (chain_of k (fire ByDate d now)))) (each k);
      memory = λ i. subst (Remembers h i) (sym (memo-fire ByDate d now i)) (v.memory i);
      per = set-per ∙ sym (ap (λ (c : Clock). c.per_second) (fire-clock ByDate d now));
      clock = set-clock ∙ sym (ap standing (fire-clock ByDate d now));
      split = v.split ∙ sym (fire-split ByDate d now);
      initiated = v.initiated ∙ sym (fire-server ByDate d now);
    }
      where
        chained-now : Chained now
        chained-now = chained-with-clock s (clock_at s.clock d n) f.chained

        each : (k : Chain) → Stands k (clock_set_to d n ∷ h) (map (shown s.slots) (chain_of k (fire ByDate d now)))
        each ByTicks =
            ap (map (shown s.slots)) (fire-elsewhere ByDate d now chained-now ByTicks dated-not-again refl) ∙ v.chain ByTicks
            ∙ sym (chain-calm ByTicks h v.sized (clock_set_to d n) refl refl ∙ kept-all (chain_from ByTicks h))
        each ByDate =
            ap (map (shown s.slots)) (fire-own ByDate d now chained-now (λ n _. again-not-dated n))
            ∙ dated-left s h v (clock_set_to d n) (λ j. refl) d refl refl set-cut
        each Queue =
            let q = v.chain Queue in
            let e = clock_set_to d n in
            let B = back_in Queue (fired_all (due ByDate d now) s.slots) (due ByDate d now) in (
              q.0 ++ newly h e,
              queue-moved h e q.0 refl (λ j. refl) q.1,
              ap (map (shown s.slots)) (fire-queue ByDate d now chained-now refl)
                  ∙ map-append (shown s.slots) s.queue B
                  ∙ ap₂ (λ (a b : List Waiting). a ++ b) q.2
                  (dated-queue s h v e (λ j. refl) d refl refl set-cut now chained-now (λ i. refl) refl
                  ∙ ap (λ (l : List Placed). map queued_as (map (λ g. g.begun) (l ++ queuing_in ByDate h e))) (sym (no-ticks for_server)))
                  ∙ sym (map-append queued_as q.0 (newly h e)),
            )

    pub set-clock-lists : map (listed s.slots) (clock_moved s d n).fired
        ≡ map entry (firing_in ByTicks h (clock_set_to d n) ++ firing_in ByDate h (clock_set_to d n))
    set-clock-lists =
        dated-lists s h v (clock_set_to d n) (λ j. refl) d refl refl set-cut
        ∙ ap (λ (l : List Placed). map entry (l ++ firing_in ByDate h (clock_set_to d n))) (sym (no-ticks (λ o. not (for_server o))))

    -- new minus old, 0 where the clock was unset
    pub set-clock-moves : moved_by s.clock (clock_at s.clock d n) ≡ apart (clock_after 0 h) (clock_after 0 (clock_set_to d n ∷ h))
    set-clock-moves = is s.clock.is_set refl ∙ ap₂ apart (sym v.clock) (sym set-clock)
      where
        is : (b : Bool) → s.clock.is_set ≡ b
            → moved_by s.clock (clock_at s.clock d n) ≡ apart (standing s.clock) (standing (clock_at s.clock d n))
        is true e = rw e
        is false e = rw e

  -- ---- tick
  module _ where
    tick-per : per_second (one_tick ∷ h) ≡ (clock_step s.clock).per_second
    tick-per = v.per ∙ sym (clock-per_second s.clock)

    tick-clock : clock_after 0 (one_tick ∷ h) ≡ standing (clock_step s.clock)
    tick-clock =
        one_later 0 h ∙ ap₂ onward v.per v.clock ∙ step-onward s.clock f.into f.second-high

    tick-cut : All (λ w. past w.wait (one_tick ∷ h) ≡ leb w.wait (clock_step s.clock).second) s.dated
    tick-cut = all_map (λ w p. cut-clock (clock_step s.clock) (one_tick ∷ h) w.wait tick-per tick-clock (clock-into s.clock f.into)
        (λ e. omega (arith, p.0, ap (λ (c : Clock). c.second) (clock-unset s.clock (sym (clock-is_set s.clock) ∙ e))))) s.dated f.dates

    nearer-due : (n : ℕ) → leb (n - 1) 0 ≡ leb n 1
    nearer-due n =
        cases (leb n 1)
        (λ e. le-leb (n - 1) 0 (omega (arith, leb-true n 1 e)) ∙ sym e)
        (λ e. lt-leb (n - 1) 0 (omega (arith, leb-false n 1 e)) ∙ sym e)

    nearer-left : (n : ℕ) → ltb 0 (n - 1) ≡ not (leb n 1)
    nearer-left n = not-leb (n - 1) 0 ∙ ap not (nearer-due n)

    -- the interval timers that are left, as they are shown
    ticks-left : map (shown s.slots) (keep (λ w. ltb 0 w.wait) (map closer s.ticking))
        ≡ map (lowered ByTicks one_tick) (keep (remains ByTicks one_tick h) (chain_from ByTicks h))
    ticks-left =
        let sl = s.slots in
        let l = s.ticking in
        ap (map (shown sl)) (keep-map closer (λ w. ltb 0 w.wait) l
        ∙ ap (map closer) (keep-on (λ w. ltb 0 (w.wait - 1)) (λ w. not (leb w.wait 1)) l (all (λ w. nearer-left w.wait) l)))
        ∙ map-map (shown sl) closer (keep (λ w. not (leb w.wait 1)) l)
        ∙ sym (map-map down (shown sl) (keep (λ w. not (leb w.wait 1)) l))
        ∙ ap (map down) (sym (keep-map (shown sl) (λ w. not (leb w.wait 1)) l) ∙ ap (keep (λ w. not (leb w.wait 1))) (v.chain ByTicks))
      where
        down : Waiting → Waiting
        down w = record { shows = w.shows; mode = w.mode; interval = w.interval; wait = w.wait - 1 }

    abbrev near : State
    near = nearer s

    chained-near : Chained near
    chained-near = chained-nearer s f.chained

    abbrev soonest : List Link
    soonest = keep (λ w. leb w.wait 1) s.ticking

    -- those that are due, a tick before
    due-near : due ByTicks 0 near ≡ map closer soonest
    due-near =
        let l = s.ticking in
        keep-map closer (λ w. leb w.wait 0) l
        ∙ ap (map closer) (keep-on (λ w. leb (w.wait - 1) 0) (λ w. leb w.wait 1) l (all (λ w. nearer-due w.wait) l))

    -- those of a sort
    ticks-part : (q : Option Mode → Bool) → map (shown s.slots) (keep (λ w. q (mode_of s.slots w)) soonest)
        ≡ keep (λ w. due_now ByTicks one_tick h w && q w.mode) (chain_from ByTicks h)
    ticks-part q =
        let sl = s.slots in
        let l = s.ticking in
        ap (map (shown sl)) (keep-and (λ w. q (mode_of sl w)) (λ w. leb w.wait 1) l)
        ∙ sym (keep-map (shown sl) (λ w. due_now ByTicks one_tick h w && q w.mode) l)
        ∙ ap (keep (λ w. due_now ByTicks one_tick h w && q w.mode)) (v.chain ByTicks)

    ticks-list : map (listed s.slots) (without_server s.slots (due ByTicks 0 near)) ≡ map entry (firing_in ByTicks h one_tick)
    ticks-list =
        let sl = s.slots in
        let D = keep (λ w. not (for_server (mode_of sl w))) soonest in
        ap (λ (l : List Link). map (listed sl) (without_server sl l)) due-near
        ∙ ap (map (listed sl)) (keep-map closer (λ w. not (for_server (mode_of sl w))) soonest)
        ∙ map-map (listed sl) closer D
        ∙ sym (map-map (λ w. w.shows) (shown sl) D)
        ∙ ap (map (λ w. w.shows)) (ticks-part (λ o. not (for_server o)) ∙ sym (chain-due ByTicks h v.sized one_tick (λ o. not (for_server o))))
        ∙ map-map (λ w. w.shows) waiting (firing_in ByTicks h one_tick)

    -- those that go on to chain j, where that is told by how they were started
    ticks-back : (j : Chain) (q : Option Mode → Bool) (g : Waiting → Waiting)
        → ((n : ℕ) → waits_in ByTicks n ≡ true → waits_in j (kind_at n).when_fired ≡ q (kind_at n).last)
        → ((w : Link) → shown s.slots (again j s.slots (closer w)) ≡ g (shown s.slots w))
        → map (shown s.slots) (back_in j (fired_all (due ByTicks 0 near) s.slots) (due ByTicks 0 near))
        ≡ map g (keep (λ w. due_now ByTicks one_tick h w && q w.mode) (chain_from ByTicks h))
    ticks-back j q g told shows =
        let sl = s.slots in
        let D = due ByTicks 0 near in
        let rest = keep (λ w. ltb 0 w.wait) near.ticking in
        let mine : Link → Bool = λ w. q (mode_of sl w) in
        ap (map (shown sl)) (back_is ByTicks near chained-near D rest (due-parts ByTicks 0 near) j
        ∙ ap (map (again j sl)) (keep-on (λ w. waits_in j (kind_at (slot_at sl w.slot).kind).when_fired) mine D
        (all_map (λ w p. told (slot_at sl w.slot).kind p) D (back-kinds ByTicks near chained-near D rest (due-parts ByTicks 0 near)))
        ∙ ap (keep mine) due-near ∙ keep-map closer mine soonest))
        ∙ map-map (shown sl) (again j sl) (map closer (keep mine soonest))
        ∙ map-map (λ w. shown sl (again j sl w)) closer (keep mine soonest)
        ∙ map_on (λ w. shown sl (again j sl (closer w))) (λ w. g (shown sl w)) (keep mine soonest) (all shows (keep mine soonest))
        ∙ sym (map-map g (shown sl) (keep mine soonest))
        ∙ ap (map g) (ticks-part q)

    abbrev between : State
    between = with_clock (fire ByTicks 0 (nearer s)) (clock_step s.clock)

    abbrev second : ℕ
    second = (clock_step s.clock).second

    dated-same : between.dated ≡ s.dated
    dated-same = fire-elsewhere ByTicks 0 (nearer s) chained-near ByDate (λ n _. again-not-dated n) refl

    pub on-tick : Agrees (ticked s).state (one_tick ∷ h)
    on-tick = record {
      sized = sized-more h one_tick v.sized tt;
      chain = λ k.
          let l = chain_of k (fire ByDate second between) in
          subst (Stands k (one_tick ∷ h)) (sym (fired-shows ByDate second between l ∙ fired-shows ByTicks 0 (nearer s) l)) (each k);
      memory = λ i. subst (Remembers h i) (sym (memo-fire ByDate second between i ∙ memo-fire ByTicks 0 (nearer s) i)) (v.memory i);
      per = tick-per ∙ sym (ap (λ (c : Clock). c.per_second) (fire-clock ByDate second between));
      clock = tick-clock ∙ sym (ap standing (fire-clock ByDate second between));
      split = v.split ∙ sym (fire-split ByDate second between ∙ fire-split ByTicks 0 (nearer s));
      initiated = v.initiated ∙ sym (fire-server ByDate second between ∙ fire-server ByTicks 0 (nearer s));
    }
      where
        chained-between : Chained between
        chained-between = chained-with-clock (fire ByTicks 0 (nearer s)) (clock_step s.clock) (chained-fire ByTicks 0 (nearer s) chained-near)

        D : List Link
        D = due ByTicks 0 (nearer s)

        each : (k : Chain) → Stands k (one_tick ∷ h) (map (shown s.slots) (chain_of k (fire ByDate second between)))
        each ByTicks =
            let rest = keep (λ w. ltb 0 w.wait) (nearer s).ticking in
            let back = back_in ByTicks (fired_all D s.slots) D in
            let C = chain_from ByTicks h in
            ap (map (shown s.slots)) (fire-elsewhere ByDate second between chained-between ByTicks dated-not-again refl
            ∙ fire-chain ByTicks 0 (nearer s) ByTicks)
            ∙ map-order_on (shown s.slots) (λ w. w.wait) (λ w. w.wait) (λ w. refl) rest back
            ∙ ap₂ (order_on (λ w. w.wait)) ticks-left
            (ticks-back ByTicks periodic renewed again-by-ticks (λ w. refl)
            ∙ ap (map renewed) (keep-on (λ w. due_now ByTicks one_tick h w && periodic w.mode) (returns ByTicks one_tick h) C
            (all (λ w. and_comm (due_now ByTicks one_tick h w) (periodic w.mode)) C)))
            ∙ sym (chain-moved ByTicks h v.sized one_tick refl)
        each ByDate =
            ap (map (shown s.slots)) (fire-own ByDate second between chained-between (λ n _. again-not-dated n)
            ∙ ap (keep (λ w. ltb second w.wait)) dated-same)
            ∙ dated-left s h v one_tick (λ j. refl) second refl refl tick-cut
        each Queue =
            let q = v.chain Queue in
            let sl = s.slots in
            let T = back_in Queue (fired_all D s.slots) D in
            let B = back_in Queue (fired_all (due ByDate second between) between.slots) (due ByDate second between) in
            let begun : List Placed → List Start = map (λ g. g.begun) in (
              q.0 ++ newly h one_tick,
              queue-moved h one_tick q.0 refl (λ j. refl) q.1,
              ap (map (shown sl)) (fire-queue ByDate second between chained-between refl
                  ∙ ap (λ (l : List Link). l ++ B) (fire-queue ByTicks 0 (nearer s) chained-near refl)
                  ∙ append_assoc s.queue T B)
                  ∙ map-append (shown sl) s.queue (T ++ B)
                  ∙ ap₂ (λ (a b : List Waiting). a ++ b) q.2 (map-append (shown sl) T B
                  ∙ ap₂ (λ (a b : List Waiting). a ++ b)
                  (ticks-back Queue for_server to_queue ticks-queued (λ w. refl) ∙ sym (queued-shown ByTicks h v.sized one_tick))
                  (dated-queue s h v one_tick (λ j. refl) second refl refl tick-cut between chained-between (memo-fire ByTicks 0 (nearer s)) dated-same)
                  ∙ sym (map-append queued_as (begun (queuing_in ByTicks h one_tick)) (begun (queuing_in ByDate h one_tick)))
                  ∙ ap (map queued_as) (sym (map-append (λ g. g.begun) (queuing_in ByTicks h one_tick) (queuing_in ByDate h one_tick))))
                  ∙ sym (map-append queued_as q.0 (newly h one_tick)),
            )

    pub tick-lists : map (listed s.slots) (ticked s).fired ≡ map entry (firing_in ByTicks h one_tick ++ firing_in ByDate h one_tick)
    tick-lists =
        let sl = s.slots in
        ap (map (listed sl)) (keep_append (λ w. not (for_server (mode_of sl w))) (due ByTicks 0 near) (due ByDate second between))
        ∙ map-append (listed sl) (without_server sl (due ByTicks 0 near)) (without_server sl (due ByDate second between))
        ∙ ap₂ (λ (a b : List Fired). a ++ b) ticks-list
        (ap (λ (l : List Link). map (listed sl) (without_server sl (keep (λ w. leb w.wait second) l))) dated-same
        ∙ dated-lists s h v one_tick (λ j. refl) second refl refl tick-cut)
        ∙ sym (map-append entry (firing_in ByTicks h one_tick) (firing_in ByDate h one_tick))
