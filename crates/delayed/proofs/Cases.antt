-- Starts by a delay at both sides of each rule, in a table under a single statement that is computed from the definitions, in a list of calls, beside
-- other lines in both orders, and among the lines of two parties; and what the claims say. N and T differ throughout. Assumes nothing.
use mathlib.Core.Path.{◌≡◌, refl, sym, ap}
use Prim.Native.Nat.{ℕ, ◌≤◌}
use mathlib.Core.Bool.{Bool, true, false}
use mathlib.Core.List.{List, [], ◌∷◌, ◌++◌, map}
use lib.ListN.{replicate}
use lib.IntN.{ℤ}
use lib.Ieee.{Float, nan, inf, fin, binary64, round, neg, of_bits}
use Rattle.calendar.specs.declared.WallTime.{WallTime}
use Rattle.calendar.specs.Calendar.{months_of, years, valid, seconds_of, date_of}
use Rattle.model.specs.Lists.{keep, any}
use Rattle.model.specs.Calls.{lay_out, create, cancel, fire_after, fire_when, ticks_left, tick, set_clock, get_clock}
use Rattle.model.specs.Parties.{is_party}
use Rattle.model.specs.Words.{ticks_per_second, party_split}
use Rattle.model.specs.Sound.{header_sound, slot_sound, chain_sound, ticks_sound, dates_sound, queue_sound, sound}
use Rattle.model.specs.State.{Fired}
use Rattle.model.specs.Outcome.{Outcome, outcome_of, status_on, outcome}
use Rattle.demand.specs.Demand.{Demanded}
use Rattle.isolation.specs.Isolation.{Caller, bench, Seen}
use Rattle.order.specs.Order.{on_two_ids, same_due}
use Rattle.model.proofs.Cases.{date}
use Rattle.model.proofs.WorkedCases.{one, two, yes}
use Rattle.delay.specs.declared.Delay.{Delay}
use Rattle.delay.specs.declared.Delay.TheVariants.{Ticks, Seconds, Date}
use Rattle.delay.specs.Seconds.{ceil, ticks_of_value, converted}
use Rattle.delay.specs.Exact.{TicksOf, Taken}
use Rattle.delayed.specs.Starts.{started, GivenTicks, GivenDate, UnsoundFirst, PartyNext, TakenSeconds, RefusedSeconds, ZeroSeconds}
use Rattle.delayed.specs.Lines.{Line, calls, starts_by, outcome_on, outcomes_on, as_call, as_calls, LinesAreCalls, Demand3OfLines}
use Rattle.delayed.specs.Order.{lines_on_two_ids, lines_same_due, OrderOfStarts, StartsShow}
use Rattle.delayed.specs.Parties.{MadeLine, line_stays, line_leaps, lines_seen, IsolationOfLines}

-- a table, the arguments of a start, and what comes of it
pub record Case : Type 0 where
  pub table : List ℕ
  pub party : ℕ
  pub id : ℕ
  pub delay : Delay
  pub routine : ℕ
  pub outcome : Outcome

-- what comes of it, and the words of the table then
abbrev case : List ℕ → ℕ → ℕ → Delay → ℕ → ℕ → List ℕ → Case
case t party id delay routine status after =
    record { table = t; party = party; id = id; delay = delay; routine = routine; outcome = outcome_of status (0 ∷ []) after [] }

-- a refusal leaves the table
abbrev refused : List ℕ → ℕ → ℕ → Delay → ℕ → ℕ → Case
refused t party id delay routine status = case t party id delay routine status t

-- the binary64 number nearest to a / b, as a delay in seconds
abbrev seconds : ℕ → ℕ → Delay
seconds a b = Seconds (round binary64 false a b)

-- N is 2, T is 10, the clock is not set, or stands at the start of 2000; timer 1 is as said, slot 2 is free
abbrev unset : List ℕ → List ℕ
unset slot = 2 ∷ 10 ∷ 0 ∷ 0 ∷ 0 ∷ 0 ∷ 0 ∷ 0 ∷ 0 ∷ 0 ∷ slot ++ replicate 8 0

abbrev running : List ℕ → List ℕ
running slot = 2 ∷ 10 ∷ 1 ∷ 378691200 ∷ 0 ∷ 0 ∷ 0 ∷ 0 ∷ 0 ∷ 0 ∷ slot ++ replicate 8 0

abbrev fresh : List ℕ
fresh = 1 ∷ 1 ∷ replicate 6 0

-- the same where timer 1 waits for so many ticks
abbrev waits : ℕ → List ℕ
waits n = 2 ∷ 10 ∷ 0 ∷ 0 ∷ 0 ∷ 1 ∷ 0 ∷ 0 ∷ 0 ∷ 0 ∷ 4 ∷ 1 ∷ n ∷ n ∷ 7 ∷ 70 ∷ 0 ∷ 0 ∷ replicate 8 0

-- or for that second
abbrev waits_for : ℕ → List ℕ
waits_for second = 2 ∷ 10 ∷ 1 ∷ 378691200 ∷ 0 ∷ 0 ∷ 1 ∷ 0 ∷ 0 ∷ 0 ∷ 5 ∷ 1 ∷ 0 ∷ second ∷ 7 ∷ 70 ∷ 0 ∷ 0 ∷ replicate 8 0

-- L is 1: slot 1 is free, and slot 2, party 2's, waits where it is the first of the chain
abbrev split : ℕ → List ℕ → List ℕ
split head slot = 2 ∷ 10 ∷ 0 ∷ 0 ∷ 0 ∷ head ∷ 0 ∷ 1 ∷ 0 ∷ 0 ∷ replicate 8 0 ++ slot

-- the same where the clock stands at the start of 2000
abbrev split_set : ℕ → List ℕ → List ℕ
split_set head slot = 2 ∷ 10 ∷ 1 ∷ 378691200 ∷ 0 ∷ 0 ∷ head ∷ 1 ∷ 0 ∷ 0 ∷ replicate 8 0 ++ slot

-- word 2 is neither 0 nor 1; T is 0
abbrev damaged : List ℕ
damaged = 2 ∷ 10 ∷ 2 ∷ replicate 23 0

abbrev no_rate : List ℕ
no_rate = 2 ∷ 0 ∷ replicate 24 0

-- five seconds into 2000, with more ticks than T
abbrev second5tick99 : WallTime
second5tick99 = record { year = 2000; month = 1; day = 1; hour = 0; minute = 0; second = 5; ticks = 99 }

abbrev pub cases : List Case
cases =
    -- 1.5 seconds are 15 ticks, 0.1 seconds 2, and the largest that there are
    case (unset fresh) 1 one (seconds 3 2) 7 0 (waits 15)
    ∷ case (unset fresh) 1 one (seconds 1 10) 7 0 (waits 2)
    ∷ case (unset fresh) 1 one (seconds 4294967295 10) 7 0 (waits 4294967295)
    -- so many ticks are as by fire after, up to the most that there are
    ∷ case (unset fresh) 1 one (Ticks 15) 7 0 (waits 15)
    ∷ case (unset fresh) 1 one (Ticks 4294967295) 7 0 (waits 4294967295)
    -- a timer that waits starts anew
    ∷ case (waits 15) 1 one (seconds 1 1) 7 0 (waits 10)
    -- not a number, infinite, below zero and too large are refused with 10, before routine and id, and a timer that waits goes on waiting
    ∷ refused (waits 15) 1 one (Seconds nan) 7 10
    ∷ refused (waits 15) 1 two (Seconds nan) 0 10
    ∷ refused (waits 15) 1 one (Seconds (inf false)) 7 10
    ∷ refused (waits 15) 1 one (Seconds (neg (round binary64 false 1 1))) 7 10
    ∷ refused (waits 15) 1 one (seconds 4294967296 10) 7 10
    -- both zeros too, since they are 0 ticks
    ∷ refused (waits 15) 1 one (Seconds (of_bits binary64 0)) 7 10
    ∷ refused (waits 15) 1 one (Seconds (of_bits binary64 0x8000000000000000)) 7 10
    ∷ refused (waits 15) 1 one (Ticks 0) 7 10
    -- then routine, then id
    ∷ refused (waits 15) 1 two (seconds 3 2) 0 9
    ∷ refused (waits 15) 1 two (seconds 3 2) 7 4
    -- a table that is not sound is refused with 100 before all else, one with no T among them
    ∷ refused damaged 1 one (Seconds nan) 7 100
    ∷ refused damaged 1 one (seconds 3 2) 7 100
    ∷ refused damaged 1 one (Date (date 2000 1 1 0 0 5)) 7 100
    ∷ refused no_rate 1 one (Seconds nan) 7 100
    ∷ refused no_rate 1 one (seconds 3 2) 7 100
    ∷ refused (2 ∷ []) 1 one (seconds 3 2) 7 100
    ∷ refused [] 1 one (Seconds nan) 7 100
    -- party 2 starts its own timer, and party 1 does not
    ∷ case (split 0 fresh) 2 two (seconds 3 2) 7 0 (split 2 (4 ∷ 1 ∷ 15 ∷ 15 ∷ 7 ∷ 70 ∷ 0 ∷ 0 ∷ []))
    ∷ refused (split 0 fresh) 1 two (seconds 3 2) 7 4
    -- for ticks and for a date too
    ∷ case (split 0 fresh) 2 two (Ticks 15) 7 0 (split 2 (4 ∷ 1 ∷ 15 ∷ 15 ∷ 7 ∷ 70 ∷ 0 ∷ 0 ∷ []))
    ∷ refused (split 0 fresh) 1 two (Ticks 15) 7 4
    ∷ case (split_set 0 fresh) 2 two (Date (date 2000 1 1 0 0 5)) 7 0 (split_set 2 (5 ∷ 1 ∷ 0 ∷ 378691205 ∷ 7 ∷ 70 ∷ 0 ∷ 0 ∷ []))
    ∷ refused (split_set 0 fresh) 1 two (Date (date 2000 1 1 0 0 5)) 7 4
    -- where L is 0 party 2 is refused with 4, after 100 and before 10
    ∷ refused (waits 15) 2 one (Seconds nan) 0 4
    ∷ refused damaged 2 one (Seconds nan) 0 100
    -- a date is as by fire when, which ignores its ticks: 11 where the clock is not set, then 9, 20 and 4
    ∷ case (running fresh) 1 one (Date (date 2000 1 1 0 0 5)) 7 0 (waits_for 378691205)
    ∷ case (running fresh) 1 one (Date second5tick99) 7 0 (waits_for 378691205)
    ∷ refused (unset fresh) 1 two (Date (date 2000 1 1 0 0 5)) 0 11
    ∷ refused (running fresh) 1 two (Date (date 2000 1 1 0 0 0)) 0 9
    ∷ refused (running fresh) 1 two (Date (date 2000 1 1 0 0 0)) 7 20
    ∷ refused (running fresh) 1 two (Date (date 2000 1 1 0 0 5)) 7 4
    ∷ []

pub as_said : map (λ c. started c.table c.party c.id c.delay c.routine 70) cases ≡ map (λ c. c.outcome) cases
unfolding round neg of_bits ceil ticks_of_value converted
    months_of years valid seconds_of header_sound slot_sound chain_sound ticks_sound dates_sound queue_sound sound status_on outcome
as_said = refl

-- ---- a list with such starts: T is 10, and 100 after the second lay out

abbrev list : List Line
list =
    calls (lay_out 2 10 0) ∷ calls (create 1 1) ∷ starts_by 1 one (seconds 3 2) 7 70 ∷ starts_by 1 one (Seconds nan) 7 70 ∷ calls (ticks_left 1 one)
    ∷ calls (lay_out 2 100 0) ∷ calls (create 1 1) ∷ starts_by 1 one (seconds 3 2) 7 70 ∷ calls (ticks_left 1 one)
    ∷ starts_by 1 one (Date (date 2000 1 1 0 0 5)) 7 70 ∷ starts_by 1 one (Ticks 9) 7 70 ∷ calls (ticks_left 1 one) ∷ []

pub list-as-calls : as_calls (replicate 26 0) list
    ≡ lay_out 2 10 0 ∷ create 1 1 ∷ fire_after 1 one 15 7 70 ∷ fire_after 1 one 0 7 70 ∷ ticks_left 1 one
    ∷ lay_out 2 100 0 ∷ create 1 1 ∷ fire_after 1 one 150 7 70 ∷ ticks_left 1 one
    ∷ fire_when 1 one (date 2000 1 1 0 0 5) 7 70 ∷ fire_after 1 one 9 7 70 ∷ ticks_left 1 one ∷ []
unfolding round ceil ticks_of_value converted header_sound slot_sound chain_sound ticks_sound dates_sound queue_sound sound status_on outcome
list-as-calls = refl

pub list-as-said : map (λ o. o.status ∷ o.answer) (outcomes_on (replicate 26 0) list)
    ≡ yes 0 ∷ yes one ∷ yes 0 ∷ (10 ∷ 0 ∷ []) ∷ yes 15 ∷ yes 0 ∷ yes one ∷ yes 0 ∷ yes 150 ∷ (11 ∷ 0 ∷ []) ∷ yes 0 ∷ yes 9 ∷ []
unfolding round ceil ticks_of_value converted header_sound slot_sound chain_sound ticks_sound dates_sound queue_sound sound status_on outcome
list-as-said = refl

-- ---- two lines in both orders

-- whether the lines are on two ids, and whether the exception holds; the statuses of each, first and second; the table after both orders
pub record Pair : Type 0 where
  pub two_ids : Bool
  pub exception : Bool
  pub statuses : List ℕ
  pub tables : List (List ℕ)

-- two lines on a table, and what comes of them; as the definitions have it
pub data Swap : Type 0 where
  on : List ℕ → Line → Line → Pair → Swap

abbrev computed : Swap → Swap
computed (on t k l seen) =
    let l-second = outcome_on (outcome_on t k).table l in
    let k-second = outcome_on (outcome_on t l).table k in
    on t k l (record {
      two_ids = lines_on_two_ids t k l;
      exception = lines_same_due t k l;
      statuses = (outcome_on t k).status ∷ k-second.status ∷ l-second.status ∷ (outcome_on t l).status ∷ [];
      tables = l-second.table ∷ k-second.table ∷ [];
    })

-- they swap, with these statuses, and leave this table; both are accepted and leave these
abbrev same : ℕ → ℕ → List ℕ → Pair
same k l t = record { two_ids = true; exception = false; statuses = k ∷ k ∷ l ∷ l ∷ []; tables = t ∷ t ∷ [] }

abbrev differ : List ℕ → List ℕ → Pair
differ t u = record { two_ids = true; exception = true; statuses = replicate 4 0; tables = t ∷ u ∷ [] }

-- N is 2: T, the first of the interval chain, and both slots; the clock is not set
abbrev both : ℕ → ℕ → List ℕ → List ℕ → List ℕ
both rate head slot1 slot2 = 2 ∷ rate ∷ 0 ∷ 0 ∷ 0 ∷ head ∷ 0 ∷ 0 ∷ 0 ∷ 0 ∷ slot1 ++ slot2

-- the same at the start of 2000, T 10, with the first of the dated chain too
abbrev both_set : ℕ → ℕ → List ℕ → List ℕ → List ℕ
both_set head dated slot1 slot2 = 2 ∷ 10 ∷ 1 ∷ 378691200 ∷ 0 ∷ head ∷ dated ∷ 0 ∷ 0 ∷ 0 ∷ slot1 ++ slot2

abbrev fresh2 : List ℕ
fresh2 = 1 ∷ 2 ∷ replicate 6 0

-- timer 1 for 0.45 seconds, and timer 2 by any delay
abbrev first : Line
first = starts_by 1 one (seconds 9 20) 7 70

abbrev second : Delay → Line
second delay = starts_by 1 two delay 8 80

-- both for 5 ticks: the one started first is first in the chain
abbrev one_then_two : List ℕ
one_then_two = both 10 1 (4 ∷ 1 ∷ 5 ∷ 5 ∷ 7 ∷ 70 ∷ 2 ∷ 0 ∷ []) (4 ∷ 2 ∷ 5 ∷ 0 ∷ 8 ∷ 80 ∷ 0 ∷ 1 ∷ [])

abbrev two_then_one : List ℕ
two_then_one = both 10 2 (4 ∷ 1 ∷ 5 ∷ 0 ∷ 7 ∷ 70 ∷ 0 ∷ 2 ∷ []) (4 ∷ 2 ∷ 5 ∷ 5 ∷ 8 ∷ 80 ∷ 1 ∷ 0 ∷ [])

abbrev swaps : List Swap
swaps =
    -- at T 10, 0.45 seconds are 5 ticks: as 5 ticks, as 0.5 seconds, and as a fire after for 5; 4 ticks are others
    on (both 10 0 fresh fresh2) first (second (Ticks 5)) (differ one_then_two two_then_one)
    ∷ on (both 10 0 fresh fresh2) first (second (seconds 1 2)) (differ one_then_two two_then_one)
    ∷ on (both 10 0 fresh fresh2) first (calls (fire_after 1 two 5 8 80)) (differ one_then_two two_then_one)
    ∷ on (both 10 0 fresh fresh2) first (second (Ticks 4))
    (same 0 0 (both 10 2 (4 ∷ 1 ∷ 5 ∷ 1 ∷ 7 ∷ 70 ∷ 0 ∷ 2 ∷ []) (4 ∷ 2 ∷ 4 ∷ 4 ∷ 8 ∷ 80 ∷ 1 ∷ 0 ∷ [])))
    -- at T 100 they are 46, since the nearest binary64 number lies above 0.45
    ∷ on (both 100 0 fresh fresh2) first (second (Ticks 5))
    (same 0 0 (both 100 2 (4 ∷ 1 ∷ 46 ∷ 41 ∷ 7 ∷ 70 ∷ 0 ∷ 2 ∷ []) (4 ∷ 2 ∷ 5 ∷ 5 ∷ 8 ∷ 80 ∷ 1 ∷ 0 ∷ [])))
    -- a refused start, and a cancel with nothing to cancel
    ∷ on (both 10 0 fresh fresh2) (starts_by 1 one (Seconds nan) 7 70) (second (Ticks 5)) (same 10 0 (both 10 2 fresh (4 ∷ 2 ∷ 5 ∷ 5 ∷ 8 ∷ 80 ∷ 0 ∷ 0 ∷ [])))
    ∷ on (both 10 0 fresh fresh2) first (calls (cancel 1 two)) (same 0 14 (both 10 1 (4 ∷ 1 ∷ 5 ∷ 5 ∷ 7 ∷ 70 ∷ 0 ∷ 0 ∷ []) fresh2))
    -- two dates in the same second; a date and seconds
    ∷ on (both_set 0 0 fresh fresh2) (starts_by 1 one (Date (date 2000 1 1 0 0 5)) 7 70) (second (Date second5tick99))
    (differ
    (both_set 0 1 (5 ∷ 1 ∷ 0 ∷ 378691205 ∷ 7 ∷ 70 ∷ 2 ∷ 0 ∷ []) (5 ∷ 2 ∷ 0 ∷ 378691205 ∷ 8 ∷ 80 ∷ 0 ∷ 1 ∷ []))
    (both_set 0 2 (5 ∷ 1 ∷ 0 ∷ 378691205 ∷ 7 ∷ 70 ∷ 0 ∷ 2 ∷ []) (5 ∷ 2 ∷ 0 ∷ 378691205 ∷ 8 ∷ 80 ∷ 1 ∷ 0 ∷ [])))
    ∷ on (both_set 0 0 fresh fresh2) first (second (Date (date 2000 1 1 0 0 5)))
    (same 0 0 (both_set 1 2 (4 ∷ 1 ∷ 5 ∷ 5 ∷ 7 ∷ 70 ∷ 0 ∷ 0 ∷ []) (5 ∷ 2 ∷ 0 ∷ 378691205 ∷ 8 ∷ 80 ∷ 0 ∷ 0 ∷ [])))
    ∷ []

pub in-both-orders : map computed swaps ≡ swaps
unfolding round ceil ticks_of_value converted
    months_of years valid seconds_of header_sound slot_sound chain_sound ticks_sound dates_sound queue_sound sound status_on outcome
in-both-orders = refl

-- ---- what the claims say of any two lines: both statuses and the table; where the exception holds

pub told : OrderOfStarts → (t : List ℕ) (k l : Line) → on_two_ids (as_call t k) (as_call t l) ≡ true → same_due t (as_call t k) (as_call t l) ≡ false
    → ((outcome_on t k).status ≡ (outcome_on (outcome_on t l).table k).status) × ((outcome_on (outcome_on t k).table l).status ≡ (outcome_on t l).status)
    × ((outcome_on (outcome_on t k).table l).table ≡ (outcome_on (outcome_on t l).table k).table)
told h t k l ids e = let s = h t k l ids e in (s.first-status, s.second-status, s.tables)

-- Where the tables are the same there is no exception.
pub told-shows : StartsShow → (t : List ℕ) (k l : Line) → on_two_ids (as_call t k) (as_call t l) ≡ true
    → (outcome_on (outcome_on t k).table l).table ≡ (outcome_on (outcome_on t l).table k).table → same_due t (as_call t k) (as_call t l) ≡ true → ⊥
told-shows h t k l ids tables e = h t k l ids e tables

-- ---- of any list: the outcomes and demand 3

pub told-of-calls : LinesAreCalls → (t : List ℕ) (ls : List Line) → outcomes_on t ls ≡ outcomes_on t (map calls (as_calls t ls))
told-of-calls h t ls = sym (h t ls)

pub told-of-lists : Demand3OfLines → (w : List ℕ) (n t split : ℕ) → (outcome w (lay_out n t split)).status ≡ 0 → (ls : List Line)
    → let laid = (outcome w (lay_out n t split)).table in
    (outcomes_on w (map calls (lay_out n t split ∷ as_calls laid ls)) ≡ outcomes_on w (calls (lay_out n t split) ∷ ls)) × Demanded w n t split (as_calls laid ls)
told-of-lists h w n t split e ls = let s = h w n t split e ls in (s.same, s.demanded)

-- ---- of any start

module _ (t : List ℕ) (party id routine user_data : ℕ) where
  -- status, answer 0, and table and list as they were
  abbrev RefusedWith : ℕ → Delay → Type 0
  RefusedWith status delay =
      let o = started t party id delay routine user_data in (o.status ≡ status) × (o.answer ≡ 0 ∷ []) × (o.table ≡ t) × (o.list ≡ [])

  parts : (status : ℕ) (delay : Delay) → started t party id delay routine user_data ≡ outcome_of status (0 ∷ []) t [] → RefusedWith status delay
  parts status delay e = (
    ap (λ (o : Outcome). o.status) e,
    ap (λ (o : Outcome). o.answer) e,
    ap (λ (o : Outcome). o.table) e,
    ap (λ (o : Outcome). o.list) e,
  )

  pub told-unsound : UnsoundFirst → (delay : Delay) → sound t ≡ false → RefusedWith 100 delay
  told-unsound h delay bad = parts 100 delay (h t party id delay routine user_data bad)

  pub told-party : PartyNext → (delay : Delay) → sound t ≡ true → is_party (party_split t) party ≡ false → RefusedWith 4 delay
  told-party h delay ok none = parts 4 delay (h t party id delay routine user_data ok none)

  pub told-refused : RefusedSeconds → (x : Float) → sound t ≡ true → is_party (party_split t) party ≡ true
      → ((n : ℕ) → Taken x (ticks_per_second t) n → ⊥) → RefusedWith 10 (Seconds x)
  told-refused h x ok known none = parts 10 (Seconds x) (h t party id x routine user_data ok known none)

  pub told-zero : ZeroSeconds → (negative : Bool) (e : ℤ) → sound t ≡ true → is_party (party_split t) party ≡ true
      → RefusedWith 10 (Seconds (fin negative 0 e))
  told-zero h negative e ok known = parts 10 (Seconds (fin negative 0 e)) (h t party id negative e routine user_data ok known)

  pub told-taken : TakenSeconds → (x : Float) (n : ℕ) → TicksOf x (ticks_per_second t) n → n ≤ 4294967295 → 1 ≤ ticks_per_second t → ticks_per_second t ≤ 1000
      → started t party id (Seconds x) routine user_data ≡ outcome t (fire_after party id n routine user_data)
  told-taken h x n has few low high = h t party id x routine user_data n (record { has = has; few = few; low = low; high = high })

  pub told-ticks : GivenTicks → (n : ℕ) → started t party id (Ticks n) routine user_data ≡ outcome t (fire_after party id n routine user_data)
  told-ticks h n = h t party id n routine user_data

  pub told-date : GivenDate → (w : WallTime) → started t party id (Date w) routine user_data ≡ outcome t (fire_when party id w routine user_data)
  told-date h w = h t party id w routine user_data

-- ---- two parties: N is 4, L is 2, and T is 10, then 100; each starts timers by seconds, ticks and a date, and tries the other's

abbrev laid : List ℕ
laid = 4 ∷ 10 ∷ replicate 5 0 ++ (2 ∷ replicate 34 0)

abbrev twelve : List ℕ
twelve = replicate 12 99

-- a line, and get clock by a party
abbrev made : Line → MadeLine
made l = record { by = bench; line = l }

abbrev asks : ℕ → MadeLine
asks p = record { by = Caller.party p; line = calls get_clock }

-- the lines of a party with the timers a and b between the bench's
abbrev lines1 : ℕ → ℕ → ℕ → ℕ → List MadeLine
lines1 p a b other =
    map made (calls (create p 7) ∷ calls (create p 8) ∷ starts_by p a (seconds 1 10) p 10 ∷ starts_by p b (Ticks 2) p 20
    ∷ starts_by p other (seconds 1 10) p 30 ∷ starts_by p a (Seconds nan) p 10 ∷ calls (ticks_left p a) ∷ [])

abbrev lines2 : ℕ → ℕ → ℕ → ℕ → List MadeLine
lines2 p a b other = asks p ∷ made (starts_by p b (Date (date 2000 1 1 12 0 1)) p 40) ∷ []

abbrev lines3 : ℕ → ℕ → ℕ → ℕ → List MadeLine
lines3 p a b other = map made (calls (create p 7) ∷ starts_by p a (seconds 1 10) p 50 ∷ calls (ticks_left p a) ∷ [])

-- the lines of both, or of one, as `of` puts them between the bench's
abbrev among : ((ℕ → ℕ → ℕ → ℕ → List MadeLine) → List MadeLine) → List MadeLine
among of =
    made (calls (set_clock (date 2000 1 1 12 0 0) twelve)) ∷ of lines1 ++ (made (calls (tick twelve)) ∷ made (calls (tick twelve)) ∷ of lines2
    ++ (made (calls (set_clock (date 2000 1 1 12 0 1) twelve)) ∷ made (calls (lay_out 4 100 2)) ∷ of lines3))

abbrev of_one : (ℕ → ℕ → ℕ → ℕ → List MadeLine) → List MadeLine
of_one ls = ls 1 one two 0x12010003

abbrev of_two : (ℕ → ℕ → ℕ → ℕ → List MadeLine) → List MadeLine
of_two ls = ls 2 0x12010003 0x12010004 one

abbrev of_both : (ℕ → ℕ → ℕ → ℕ → List MadeLine) → List MadeLine
of_both ls = of_one ls ++ of_two ls

pub each-own : map (λ q. keep (line_stays q) (among of_both)) (1 ∷ 2 ∷ []) ≡ among of_one ∷ among of_two ∷ []
each-own = refl

abbrev sees : ℕ → List ℕ → List Fired → Seen
sees status answer entries = record { status = status; answer = answer; entries = entries }

abbrev entry : ℕ → ℕ → ℕ → Fired
entry id routine user_data = record { id = id; routine = routine; user_data = user_data }

-- what it sees: 0.1 seconds are 2 ticks at first, and 11 after the lay out
abbrev seen_at : ℕ → ℕ → ℕ → List Seen
seen_at p a b =
    sees 0 [] [] ∷ sees 0 (a ∷ []) [] ∷ sees 0 (b ∷ []) [] ∷ sees 0 (0 ∷ []) [] ∷ sees 0 (0 ∷ []) [] ∷ sees 4 (0 ∷ []) [] ∷ sees 10 (0 ∷ []) []
    ∷ sees 0 (2 ∷ []) [] ∷ sees 0 [] [] ∷ sees 0 [] (entry a p 10 ∷ entry b p 20 ∷ []) ∷ sees 0 (2000 ∷ 1 ∷ 1 ∷ 12 ∷ 0 ∷ 0 ∷ 2 ∷ []) []
    ∷ sees 0 (0 ∷ []) [] ∷ sees 0 [] (entry b p 40 ∷ []) ∷ sees 0 [] [] ∷ sees 0 (a ∷ []) [] ∷ sees 0 (0 ∷ []) [] ∷ sees 0 (11 ∷ []) [] ∷ []

pub seen-by-each : map (λ q. lines_seen q laid (among of_both)) (1 ∷ 2 ∷ []) ≡ seen_at 1 one two ∷ seen_at 2 0x12010003 0x12010004 ∷ []
unfolding round ceil ticks_of_value converted
    months_of years valid seconds_of date_of header_sound slot_sound chain_sound ticks_sound dates_sound queue_sound sound status_on outcome
seen-by-each = refl

-- The claim speaks of these, of both parties, and of every two lists that agree in what stays.
pub told-of-each : IsolationOfLines
    → (lines_seen 1 laid (among of_both) ≡ lines_seen 1 laid (among of_one)) × (lines_seen 2 laid (among of_both) ≡ lines_seen 2 laid (among of_two))
unfolding header_sound slot_sound chain_sound ticks_sound dates_sound queue_sound sound status_on outcome
told-of-each h = (
  h (replicate 42 0) 4 10 2 refl 1 (among of_one) (among of_both) (among of_one) refl refl refl,
  h (replicate 42 0) 4 10 2 refl 2 (among of_two) (among of_both) (among of_two) refl refl refl,
)

pub told-of-parties : IsolationOfLines → (w : List ℕ) (n t split : ℕ) → (outcome w (lay_out n t split)).status ≡ 0 → (q : ℕ) (ms ms' : List MadeLine)
    → keep (line_stays q) ms ≡ keep (line_stays q) ms' → any (λ m. line_leaps m.line) (keep (line_stays q) ms) ≡ false
    → let laid = (outcome w (lay_out n t split)).table in lines_seen q laid ms ≡ lines_seen q laid ms'
told-of-parties h w n t split e q ms ms' alike no-leap = h w n t split e q (keep (line_stays q) ms) ms ms' refl (sym alike) no-leap
