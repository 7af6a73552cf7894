-- Isolation of lists with starts by a delay, for every slice, every accepted lay out on it, every party and every two lists. Such a list is one of calls, by
-- the table's T at each place. T changes by lay outs alone, and whether those are accepted is a matter of their numbers and the slice's length; so the calls
-- that the lines of a party and of the bench become depend on those lines alone, and isolation of calls is isolation of lines. Assumes nothing.
use mathlib.Core.Path.{◌≡◌, refl, sym, ap, ap₂, ◌∙◌}
use Prim.Native.Nat.{ℕ, ◌+◌, ◌*◌}
use mathlib.Core.Bool.{Bool, true, false, cond, not, ◌&&◌, ◌||◌}
use mathlib.Core.List.{List, [], ◌∷◌}
use lib.ListN.{length}
use lib.Dec.{ltb, eqb}
use borrow.Author.Tests.{eqb-true, eqb-false}
use Rattle.calendar.specs.Calendar.{all_of, seconds_of}
use Rattle.model.specs.Lists.{keep, any}
use Rattle.model.specs.declared.Status.TheVariants.{InvalidSize, InvalidNumber}
use Rattle.model.specs.Status.{first_of, when}
use Rattle.model.specs.Calls.{Call, lay_out, create, ident, cancel, delete, fire_after, fire_when, fire_every, reset, ticks_left, tick, set_clock, get_clock, next_due, initiate_server, server_fire_after, server_fire_when, serve, leap, is_lay_out, is_leap}
use Rattle.model.specs.declared.Chain.TheVariants.{ByTicks, ByDate}
use Rattle.model.specs.State.{Clock, State, with_clock}
use Rattle.model.specs.Directives.{limits, fire, nearer, clock_at, clock_step, ticked_once, effect}
use Rattle.model.specs.Words.{read, ticks_per_second}
use Rattle.model.specs.Sound.{sound}
use Rattle.model.specs.Outcome.{Outcome, status_on, outcome}
use Rattle.laws.proofs.ListLaws.{cases, clash}
use Rattle.laws.proofs.ClockSteps.{clock-per_second}
use Rattle.laws.proofs.Steps.{with-chain-clock, fire-clock}
use Rattle.laws.proofs.LeapLaws.{leapt-keeps}
use Rattle.laws.proofs.OutcomeLaws.{each-call, status-is, outcome-refused, outcome-status}
use Rattle.laws.proofs.CallTables.{laid_table, laid-sound, table-left, effect-sound}
use Rattle.laws.proofs.ListWords.{table-size}
use Rattle.isolation.specs.Isolation.{Caller, Made, caller_of, stays_for, stays, seen_in}
use Rattle.isolation.proofs.Isolated.{isolated-from}
use Rattle.delay.specs.declared.Delay.TheVariants.{Ticks, Seconds, Date}
use Rattle.delayed.specs.Lines.{Line, calls, starts_by, outcome_on, call_by}
use Rattle.delayed.specs.Parties.{MadeLine, line_caller, line_stays, line_leaps, lines_seen, IsolationOfLines}
use Rattle.delayed.proofs.Lines.{line-is-call}

-- ---- T after a call

tick-rate : (s : State) → (ticked_once s).clock.per_second ≡ s.clock.per_second
tick-rate s =
    let clock = clock_step s.clock in
    ap (λ (c : Clock). c.per_second) (fire-clock ByDate clock.second (with_clock (fire ByTicks 0 (nearer s)) clock)) ∙ clock-per_second s.clock

-- no call but a lay out changes it
effect-rate : (w : List ℕ) (s : State) (c : Call) → is_lay_out c ≡ false → (effect w s c).state.clock.per_second ≡ s.clock.per_second
effect-rate w s (lay_out n t split) l = clash l
effect-rate w s (create p name) l = refl
effect-rate w s (ident p name) l = refl
effect-rate w s (cancel p id) l = refl
effect-rate w s (delete p id) l = refl
effect-rate w s (fire_after p id n r u) l = refl
effect-rate w s (fire_when p id d r u) l = refl
effect-rate w s (fire_every p id n r u) l = refl
effect-rate w s (reset p id) l = simp with-chain-clock
effect-rate w s (ticks_left p id) l = refl
effect-rate w s (tick list) l = tick-rate s
effect-rate w s (set_clock d list) l =
    ap (λ (c : Clock). c.per_second) (fire-clock ByDate (seconds_of d) (with_clock s (clock_at s.clock (seconds_of d) d.ticks)))
effect-rate w s get_clock l = refl
effect-rate w s next_due l = refl
effect-rate w s initiate_server l = refl
effect-rate w s (server_fire_after p id n r u) l = refl
effect-rate w s (server_fire_when p id d r u) l = refl
effect-rate w s (serve p list) l = refl
effect-rate w s (leap k list) l = leapt-keeps (λ u. u.clock.per_second ≡ s.clock.per_second) (λ u e. tick-rate u ∙ e) k s refl

module _ (t : List ℕ) where
  refused-leaves : (c : Call) → eqb (status_on t c) 0 ≡ false → (outcome t c).table ≡ t
  refused-leaves c e = ap (λ (o : Outcome). o.table) (outcome-refused t c (eqb-false (status_on t c) 0 e))

  module _ (ok : sound t ≡ true) (c : Call) where
    still-sound : sound (outcome t c).table ≡ true
    still-sound =
        cases (eqb (status_on t c) 0)
        (λ e. let z = eqb-true (status_on t c) 0 e in ap sound (table-left t ok c z) ∙ effect-sound t ok c z)
        (λ e. ap sound (refused-leaves c e) ∙ ok)

    rate-kept : is_lay_out c ≡ false → ticks_per_second (outcome t c).table ≡ ticks_per_second t
    rate-kept other =
        cases (eqb (status_on t c) 0)
        (λ e. ap ticks_per_second (table-left t ok c (eqb-true (status_on t c) 0 e)) ∙ effect-rate t (read t) c other)
        (λ e. ap ticks_per_second (refused-leaves c e))

-- T after a call on a slice that is as long as v: an accepted lay out leaves its own
abbrev rate_after : List ℕ → ℕ → Call → ℕ
rate_after v rate c = cond (is_lay_out c && eqb (status_on v c) 0) (ticks_per_second (outcome v c).table) rate

module _ (v t : List ℕ) (long : length v ≡ length t) where
  -- a lay out looks at no more of the slice than its length
  same-status : (n k split : ℕ) → status_on v (lay_out n k split) ≡ status_on t (lay_out n k split)
  same-status n k split =
      status-is v (lay_out n k split)
      ∙ ap (λ (m : ℕ). first_of (when InvalidNumber (not (all_of (limits n k split))) ∷ when InvalidSize (ltb m (10 + 8 * n)) ∷ [])) long
      ∙ sym (status-is t (lay_out n k split))

  laid-rate : (n k split : ℕ) → ticks_per_second (outcome t (lay_out n k split)).table ≡ rate_after v (ticks_per_second t) (lay_out n k split)
  laid-rate n k split =
      let c = lay_out n k split in
      let is = same-status n k split in
      let own = ticks_per_second (outcome v c).table in
      cases (eqb (status_on t c) 0)
      (λ e.
      let z = eqb-true (status_on t c) 0 e in
      ap ticks_per_second (laid_table t n k split z) ∙ sym (ap ticks_per_second (laid_table v n k split (is ∙ z)))
      ∙ sym (ap (λ (m : ℕ). cond (eqb m 0) own (ticks_per_second t)) (is ∙ z)))
      (λ e. ap ticks_per_second (refused-leaves t c e) ∙ sym (ap (λ (b : Bool). cond b own (ticks_per_second t)) (ap (λ (m : ℕ). eqb m 0) is ∙ e)))

  rate-left : sound t ≡ true → (c : Call) → ticks_per_second (outcome t c).table ≡ rate_after v (ticks_per_second t) c
  rate-left ok = each-call (λ c. ticks_per_second (outcome t c).table ≡ rate_after v (ticks_per_second t) c) laid-rate
      (λ c other. rate-kept t ok c other
      ∙ sym (ap (λ (b : Bool). cond (b && eqb (status_on v c) 0) (ticks_per_second (outcome v c).table) (ticks_per_second t)) other))

-- ---- the calls that lines are

-- who makes the call of a line, and whether it is a leap
caller-kept : (by : Caller) (rate : ℕ) (l : Line) → caller_of by (call_by l rate) ≡ line_caller by l
caller-kept by rate (calls c) = refl
caller-kept by rate (starts_by p id (Ticks n) routine user_data) = refl
caller-kept by rate (starts_by p id (Seconds x) routine user_data) = refl
caller-kept by rate (starts_by p id (Date w) routine user_data) = refl

leaps-kept : (rate : ℕ) (l : Line) → is_leap (call_by l rate) ≡ line_leaps l
leaps-kept rate (calls c) = refl
leaps-kept rate (starts_by p id (Ticks n) routine user_data) = refl
leaps-kept rate (starts_by p id (Seconds x) routine user_data) = refl
leaps-kept rate (starts_by p id (Date w) routine user_data) = refl

-- a line at T, made by the same
abbrev made_by : MadeLine → ℕ → Made
made_by m rate = record { by = m.by; call = call_by m.line rate }

-- the calls of a list of lines, each by the T of its table
abbrev made_calls : List ℕ → List MadeLine → List Made
made_calls t [] = []
made_calls t (m ∷ ms) = made_by m (ticks_per_second t) ∷ made_calls (outcome_on t m.line).table ms

seen-so : (q : ℕ) (t : List ℕ) (ms : List MadeLine) → seen_in q t (made_calls t ms) ≡ lines_seen q t ms
seen-so q t [] = refl
seen-so q t (m ∷ ms) =
    let rate = ticks_per_second t in
    rw (line-is-call t m.line, caller-kept m.by rate m.line, seen-so q (outcome_on t m.line).table ms)

-- the same with T carried along, on slices that are as long as v
abbrev by_rates : List ℕ → ℕ → List MadeLine → List Made
by_rates v rate [] = []
by_rates v rate (m ∷ ms) = made_by m rate ∷ by_rates v (rate_after v rate (call_by m.line rate)) ms

-- a call that may change is no lay out
others-lay-none : (q : ℕ) (by : Caller) (c : Call) → stays_for q (caller_of by c) ≡ false → is_lay_out c ≡ false
others-lay-none q by = each-call (λ c. stays_for q (caller_of by c) ≡ false → is_lay_out c ≡ false) (λ n k split e. clash e) (λ c other e. other)

-- The bench's and the party q's calls depend on their lines alone.
kept-calls : (v : List ℕ) (q : ℕ) (ms : List MadeLine) (t : List ℕ) → sound t ≡ true → length v ≡ length t
    → keep (stays q) (made_calls t ms) ≡ by_rates v (ticks_per_second t) (keep (line_stays q) ms)
kept-calls v q [] t ok long = refl
kept-calls v q (m ∷ ms) t ok long =
    let rate = ticks_per_second t in
    let c = call_by m.line rate in
    let is = line-is-call t m.line in
    let next = (outcome_on t m.line).table in
    let rest = keep (line_stays q) ms in
    let stay : stays q (made_by m rate) ≡ line_stays q m = ap (stays_for q) (caller-kept m.by rate m.line) in
    let more : keep (stays q) (made_calls next ms) ≡ by_rates v (ticks_per_second next) rest = kept-calls v q ms next
    (sym (ap (λ (o : Outcome). sound o.table) is) ∙ still-sound t ok c)
    (long ∙ sym (table-size t ok c) ∙ ap (λ (o : Outcome). length o.table) is) in
    let then : (r : ℕ) → ticks_per_second (outcome t c).table ≡ r → keep (stays q) (made_calls next ms) ≡ by_rates v r rest =
    λ r e. more ∙ ap (λ (k : ℕ). by_rates v k rest) (sym (ap (λ (o : Outcome). ticks_per_second o.table) is) ∙ e) in
    rw stay (cases (line_stays q m)
    (λ e. rw e (ap {B = List Made} (λ l. made_by m rate ∷ l) (then (rate_after v rate c) (rate-left v t long ok c))))
    (λ e. rw e (then rate (rate-kept t ok c (others-lay-none q m.by c (stay ∙ e))))))

no-leaps : (v : List ℕ) (rate : ℕ) (ms : List MadeLine) → any (λ m. is_leap m.call) (by_rates v rate ms) ≡ any (λ m. line_leaps m.line) ms
no-leaps v rate [] = refl
no-leaps v rate (m ∷ ms) =
    ap₂ (λ (a b : Bool). a || b) (leaps-kept rate m.line) (no-leaps v (rate_after v rate (call_by m.line rate)) ms)

-- from any sound table
pub lines-isolated-from : (t : List ℕ) → sound t ≡ true → (q : ℕ) (same ms ms' : List MadeLine) → keep (line_stays q) ms ≡ same → keep (line_stays q) ms' ≡ same
    → any (λ m. line_leaps m.line) same ≡ false → lines_seen q t ms ≡ lines_seen q t ms'
lines-isolated-from t ok q same ms ms' is is' no-leap =
    let rate = ticks_per_second t in
    sym (seen-so q t ms)
    ∙ isolated-from t ok q (by_rates t rate same) (made_calls t ms) (made_calls t ms') (kept-calls t q ms t ok refl ∙ ap (by_rates t rate) is)
    (kept-calls t q ms' t ok refl ∙ ap (by_rates t rate) is') (no-leaps t rate same ∙ no-leap)
    ∙ seen-so q t ms'

pub isolation-of-lines : IsolationOfLines
isolation-of-lines w n t split e q same ms ms' =
    let z = sym (outcome-status w (lay_out n t split)) ∙ e in
    lines-isolated-from (outcome w (lay_out n t split)).table (ap sound (laid_table w n t split z) ∙ laid-sound w n t split z) q same ms ms'
