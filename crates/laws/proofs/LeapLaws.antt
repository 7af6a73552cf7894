-- A leap is its ticks: one tick and then the rest of the leap, or one tick that fires or queues a timer; and two leaps of which the first does
-- neither are one. Assumes nothing.
use mathlib.Core.Path.{◌≡◌, refl, sym, ap, ◌∙◌, subst}
use Prim.Native.Nat.{ℕ, zero, suc, ◌+◌}
use native.Mathlib.Omega.{arith}
use mathlib.Core.Bool.{Bool, true, false}
use mathlib.Core.List.{List, [], ◌∷◌, map}
use lib.ListN.{length, length-append, length-map}
use lib.Dec.{ltb}
use borrow.Author.Tests.{eqb-true, eqb-false}
use Rattle.model.specs.Lists.{keep}
use Rattle.model.specs.declared.Chain.{Chain}
use Rattle.model.specs.declared.Chain.TheVariants.{ByTicks, ByDate, Queue}
use Rattle.model.specs.Kinds.{kind_at, same_chain, waits_in, for_server}
use Rattle.model.specs.State.{Slot, Link, State, chain_of, with_chain, with_clock, slot_at}
use Rattle.model.specs.Directives.{fired_all, go_on, due, fire, without_server, nearer, clock_step, ticked_once, due_in_tick, Leapt, is_quiet, one_more, leapt}
use Rattle.laws.proofs.ListLaws.{cases, clash, all_map, keep_append, keep-on}
use Rattle.laws.proofs.KindLaws.{ticks-queued, dated-queued}
use Rattle.laws.proofs.Slots.{Memo, memo}
use Rattle.laws.proofs.WellFormed.{Chained}
use Rattle.laws.proofs.GoingOn.{again, back_in}
use Rattle.laws.proofs.Steps.{fire-slots, memo-fire, due-parts, back_is, back-kinds, fire-queue, chained-fire, chained-nearer, chained-with-clock}

module _ (k : ℕ) (s : State) where
  -- a tick in which nothing is due, and what follows it
  pub leapt-on : is_quiet s ≡ true → leapt (suc k) s ≡ one_more (leapt k (ticked_once s))
  leapt-on e = rw e

  -- a tick in which something is due
  pub leapt-stops : is_quiet s ≡ false → leapt (suc k) s ≡ record { state = ticked_once s; done = 1; fired = without_server s.slots (due_in_tick s) }
  leapt-stops e = rw e

-- what every tick keeps, a leap keeps
pub leapt-keeps : (P : State → Type 0) → ((s : State) → P s → P (ticked_once s)) → (k : ℕ) (s : State) → P s → P (leapt k s).state
leapt-keeps P step zero s h = h
leapt-keeps P step (suc k) s h =
    cases (is_quiet s)
    (λ e. subst (λ (l : Leapt). P l.state) (sym (leapt-on k s e)) (leapt-keeps P step k (ticked_once s) (step s h)))
    (λ e. subst (λ (l : Leapt). P l.state) (sym (leapt-stops k s e)) (step s h))

-- ---- a tick in which nothing is due leaves slots and queue

no-elements : (l : List Link) → length l ≡ 0 → l ≡ []
no-elements [] e = refl
no-elements (x ∷ xs) e = absurd (omega arith)

-- nothing fires from a chain
fire-none-queue : (k : Chain) (limit : ℕ) (s : State) → same_chain Queue k ≡ false → due k limit s ≡ [] → (fire k limit s).queue ≡ s.queue
fire-none-queue k limit s apart e =
    let rest = keep (λ w. ltb limit w.wait) (chain_of k s) in
    ap (λ (l : List Link). (go_on l (with_chain k s (fired_all l s.slots) rest)).queue) e ∙ other k apart rest
  where
    other : (k : Chain) → same_chain Queue k ≡ false → (rest : List Link) → (with_chain k s s.slots rest).queue ≡ s.queue
    other ByTicks z rest = refl
    other ByDate z rest = refl
    other Queue z rest = clash z

module _ (s : State) where
  abbrev second : ℕ
  second = (clock_step s.clock).second

  -- the state in which the dated timers fire
  abbrev between : State
  between = with_clock (fire ByTicks 0 (nearer s)) (clock_step s.clock)

  module _ (e : is_quiet s ≡ true) where
    both-none : length (due ByTicks 0 (nearer s)) + length (due ByDate second between) ≡ 0
    both-none = sym (length-append (due ByTicks 0 (nearer s)) (due ByDate second between)) ∙ eqb-true (length (due_in_tick s)) 0 e

    ticks-none : due ByTicks 0 (nearer s) ≡ []
    ticks-none = no-elements (due ByTicks 0 (nearer s)) (omega (arith, both-none))

    dates-none : due ByDate second between ≡ []
    dates-none = no-elements (due ByDate second between) (omega (arith, both-none))

    pub quiet-slots : (ticked_once s).slots ≡ s.slots
    quiet-slots =
        fire-slots ByDate second between ∙ ap (λ (l : List Link). fired_all l between.slots) dates-none
        ∙ fire-slots ByTicks 0 (nearer s) ∙ ap (λ (l : List Link). fired_all l s.slots) ticks-none

    pub quiet-queue : (ticked_once s).queue ≡ s.queue
    quiet-queue = fire-none-queue ByDate second between refl dates-none ∙ fire-none-queue ByTicks 0 (nearer s) refl ticks-none

    pub quiet-fired : without_server s.slots (due_in_tick s) ≡ []
    quiet-fired = ap (without_server s.slots) (no-elements (due_in_tick s) (eqb-true (length (due_in_tick s)) 0 e))

-- ---- what is due in a tick is listed or queued

-- the links of server timers
abbrev to_serve : List Slot → List Link → List Link
to_serve slots l = keep (λ w. for_server (kind_at (slot_at slots w.slot).kind).last) l

fired-and-queued : (slots : List Slot) (l : List Link) → length (without_server slots l) + length (to_serve slots l) ≡ length l
fired-and-queued slots [] = omega arith
fired-and-queued slots (w ∷ ws) =
    let ih = fired-and-queued slots ws in
    cases (for_server (kind_at (slot_at slots w.slot).kind).last) (λ e. rw e (omega arith)) (λ e. rw e (omega arith))

-- those that fire from a chain of a state that remembers as much as `slots`
many-queued : (k : Chain) (limit : ℕ) (b : State) → Chained b → same_chain Queue k ≡ false
    → ((n : ℕ) → waits_in k n ≡ true → waits_in Queue (kind_at n).when_fired ≡ for_server (kind_at n).last)
    → (slots : List Slot) → ((i : ℕ) → memo (slot_at b.slots i) ≡ memo (slot_at slots i))
    → length (fire k limit b).queue ≡ length b.queue + length (to_serve slots (due k limit b))
many-queued k limit b h apart queued slots memory =
    let D = due k limit b in
    let rest = keep (λ w. ltb limit w.wait) (chain_of k b) in
    let goes : Link → Bool = λ w. waits_in Queue (kind_at (slot_at b.slots w.slot).kind).when_fired in
    let back : back_in Queue (fired_all D b.slots) D ≡ map (again Queue b.slots) (to_serve slots D) =
    back_is k b h D rest (due-parts k limit b) Queue
    ∙ ap (map (again Queue b.slots)) (keep-on goes (λ w. for_server (kind_at (slot_at slots w.slot).kind).last) D
    (all_map (λ w p. queued (slot_at b.slots w.slot).kind p ∙ ap (λ (m : Memo). for_server m.last) (memory w.slot)) D
    (back-kinds k b h D rest (due-parts k limit b)))) in
    ap length (fire-queue k limit b h apart) ∙ length-append b.queue (back_in Queue (fired_all D b.slots) D)
    ∙ ap (λ (l : List Link). length b.queue + length l) back
    ∙ ap (λ (n : ℕ). length b.queue + n) (length-map (to_serve slots D) (again Queue b.slots))

chained-between : (s : State) → Chained s → Chained (between s)
chained-between s h =
    chained-with-clock (fire ByTicks 0 (nearer s)) (clock_step s.clock) (chained-fire ByTicks 0 (nearer s) (chained-nearer s h))

module _ (s : State) (h : Chained s) where
  pub tick-queues : length (ticked_once s).queue + length (without_server s.slots (due_in_tick s)) ≡ length s.queue + length (due_in_tick s)
  tick-queues =
      let near = chained-nearer s h in
      let D = due ByTicks 0 (nearer s) in
      let E = due ByDate (second s) (between s) in
      let sl = s.slots in
      omega (
        arith,
        many-queued ByDate (second s) (between s) (chained-between s h)
            refl dated-queued sl (memo-fire ByTicks 0 (nearer s)),
        many-queued ByTicks 0 (nearer s) near refl ticks-queued sl (λ i. refl),
        fired-and-queued sl (due_in_tick s),
        ap length (keep_append (λ w. for_server (kind_at (slot_at sl w.slot).kind).last) D E),
        length-append (to_serve sl D) (to_serve sl E),
      )

-- ---- ticks in which nothing is due

-- nothing is due in so many ticks
abbrev pub AllQuiet : ℕ → State → Type 0
AllQuiet zero s = Unit {0}
AllQuiet (suc k) s = (is_quiet s ≡ true) × AllQuiet k (ticked_once s)

-- a tick keeps the chains in order
chained-ticked : (s : State) → Chained s → Chained (ticked_once s)
chained-ticked s h = chained-fire ByDate (second s) (between s) (chained-between s h)

-- where nothing is listed, and the queue is as long as it was, nothing was due
pub all_quiet : (k : ℕ) (s : State) → Chained s
    → length (leapt k s).fired ≡ 0 → length (leapt k s).state.queue ≡ length s.queue → AllQuiet k s
all_quiet zero s h z q = tt
all_quiet (suc k) s h z q =
    cases (is_quiet s)
    (λ e.
    let on = leapt-on k s e in (
      e,
      all_quiet k (ticked_once s) (chained-ticked s h) (sym (ap (λ (l : Leapt). length l.fired) on) ∙ z)
          (sym (ap (λ (l : Leapt). length l.state.queue) on) ∙ q ∙ sym (ap length (quiet-queue s e))),
    ))
    (λ e.
    let stop = leapt-stops k s e in
    absurd (eqb-false (length (due_in_tick s)) 0 e (omega (
      arith,
      tick-queues s h,
      ap (λ (l : Leapt). length l.fired) stop,
      ap (λ (l : Leapt). length l.state.queue) stop,
    ))))

-- ---- two leaps, of which the first is quiet

-- that many ticks more
abbrev pub further : ℕ → Leapt → Leapt
further n l = record { state = l.state; done = n + l.done; fired = l.fired }

pub leapt-add : (a b : ℕ) (s : State) → AllQuiet a s → leapt (a + b) s ≡ further a (leapt b (leapt a s).state)
leapt-add zero b s z =
    let none : 0 + b ≡ b = omega arith in
    let same : (leapt b s).done ≡ 0 + (leapt b s).done = omega arith in
    ap (λ (n : ℕ). leapt n s) none ∙ ap (λ (d : ℕ). record { state = (leapt b s).state; done = d; fired = (leapt b s).fired }) same
leapt-add (suc a) b s (e, z) =
    let u = ticked_once s in
    let on = leapt-on a s e in
    let one : suc a + b ≡ suc (a + b) = omega arith in
    let ih : leapt (a + b) u ≡ further a (leapt b (leapt a u).state) = leapt-add a b u z in
    let r = leapt b (leapt a u).state in
    let more : suc (a + r.done) ≡ suc a + r.done = omega arith in
    ap (λ (n : ℕ). leapt n s) one ∙ leapt-on (a + b) s e ∙ ap one_more ih
    ∙ ap (λ (d : ℕ). record { state = r.state; done = d; fired = r.fired }) more
    ∙ ap (λ (l : Leapt). further (suc a) (leapt b l.state)) (sym on)

-- a quiet leap lists none, and leaves slots and queue
pub leapt-quiet : (k : ℕ) (s : State) → AllQuiet k s
    → ((leapt k s).fired ≡ []) × ((leapt k s).state.slots ≡ s.slots) × ((leapt k s).state.queue ≡ s.queue)
leapt-quiet zero s z = (refl, refl, refl)
leapt-quiet (suc k) s (e, z) =
    let on = leapt-on k s e in
    let rest = leapt-quiet k (ticked_once s) z in (
      ap (λ (l : Leapt). l.fired) on ∙ rest.0,
      ap (λ (l : Leapt). l.state.slots) on ∙ rest.1 ∙ quiet-slots s e,
      ap (λ (l : Leapt). l.state.queue) on ∙ rest.2 ∙ quiet-queue s e,
    )

-- where one of its ticks is not, a longer leap is the same
pub leapt-longer : (a b : ℕ) (s : State) → (AllQuiet a s → ⊥) → leapt (a + b) s ≡ leapt a s
leapt-longer zero b s n = absurd (n tt)
leapt-longer (suc a) b s n =
    let one : suc a + b ≡ suc (a + b) = omega arith in
    ap (λ (m : ℕ). leapt m s) one
    ∙ cases (is_quiet s)
    (λ e. leapt-on (a + b) s e ∙ ap one_more (leapt-longer a b (ticked_once s) (λ z. n (e, z))) ∙ sym (leapt-on a s e))
    (λ e. leapt-stops (a + b) s e ∙ sym (leapt-stops a s e))
