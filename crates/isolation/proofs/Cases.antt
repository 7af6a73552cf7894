-- What a party sees of a list of calls, computed from the definitions: the same with the other's calls and with others; and that a leap, which the other's
-- timers end early, would change it. Assumes nothing.
use mathlib.Core.Path.{◌≡◌, refl, ap}
use Prim.Native.Nat.{ℕ, ◌+◌}
use native.Mathlib.Omega.{arith}
use mathlib.Core.Bool.{false}
use mathlib.Core.List.{List, [], ◌∷◌, ◌++◌, map}
use lib.ListN.{length, replicate}
use Rattle.calendar.specs.declared.WallTime.{WallTime}
use Rattle.calendar.specs.Calendar.{months_of, years, valid, seconds_of, date_of}
use Rattle.model.specs.Lists.{keep, any}
use Rattle.model.specs.Calls.{Call, create, ident, cancel, delete, fire_after, fire_when, fire_every, reset, ticks_left, tick, set_clock, get_clock, next_due, initiate_server, server_fire_after, server_fire_when, serve, leap, lay_out, is_leap}
use Rattle.model.specs.Sound.{header_sound, slot_sound, chain_sound, ticks_sound, dates_sound, queue_sound, sound}
use Rattle.model.specs.State.{Fired}
use Rattle.model.specs.Outcome.{status_on, outcome}
use Rattle.isolation.specs.Isolation.{bench, party, Made, stays, Seen, seen_in, Isolation}

-- N 2, T 10, L 1, and the ids of the two slots
abbrev laid : List ℕ
laid = 2 ∷ 10 ∷ replicate 5 0 ++ (1 ∷ replicate 18 0)

abbrev one : ℕ
one = 0x12010001

abbrev two : ℕ
two = 0x12010002

abbrev six : List ℕ
six = replicate 6 99

abbrev noon : WallTime
noon = record { year = 2000; month = 1; day = 1; hour = 12; minute = 0; second = 0; ticks = 0 }

-- a call, and get clock by a party
abbrev made : Call → Made
made c = record { by = bench; call = c }

abbrev asks : ℕ → Made
asks p = record { by = party p; call = get_clock }

abbrev sees : ℕ → List ℕ → List Fired → Seen
sees status answer entries = record { status = status; answer = answer; entries = entries }

abbrev entry : ℕ → ℕ → ℕ → Fired
entry id routine user_data = record { id = id; routine = routine; user_data = user_data }

-- party 2's calls and the bench's: a guard for two ticks, a server timer for one
abbrev own : List Made
own =
    map made (set_clock noon six ∷ create 2 7 ∷ fire_after 2 two 2 2 20 ∷ tick six ∷ ticks_left 2 two ∷ tick six ∷ ident 2 7 ∷ cancel 2 two ∷ [])
    ++ (asks 2 ∷ map made (initiate_server ∷ server_fire_after 2 two 1 3 30 ∷ tick six ∷ serve 2 six ∷ serve 2 six ∷ delete 2 two ∷ delete 2 two ∷ []))

-- the same among party 1's: a timer of the same name, due at the same ticks, listed and queued ahead of it; and its tries to reach the other's
abbrev busy : List Made
busy =
    map made (set_clock noon six ∷ create 1 7 ∷ create 1 8 ∷ fire_after 1 one 2 1 10 ∷ create 2 7 ∷ delete 1 two ∷ fire_after 2 two 2 2 20 ∷ cancel 1 two
    ∷ tick six ∷ [])
    ++ (asks 1 ∷ map made (ticks_left 2 two ∷ fire_every 1 two 1 1 10 ∷ tick six ∷ ident 2 7 ∷ cancel 2 two ∷ []))
    ++ (asks 2 ∷ map made (initiate_server ∷ server_fire_after 1 one 1 1 11 ∷ server_fire_after 2 two 1 3 30 ∷ tick six ∷ serve 3 six ∷ serve 2 six ∷ serve 1 six
    ∷ serve 2 six ∷ delete 1 one ∷ delete 2 two ∷ create 1 9 ∷ delete 2 two ∷ []))

pub same-own : keep (stays 2) busy ≡ own
same-own = refl

abbrev own_seen : List Seen
own_seen =
    sees 0 [] [] ∷ sees 0 (two ∷ []) [] ∷ sees 0 (0 ∷ []) [] ∷ sees 0 [] [] ∷ sees 0 (1 ∷ []) [] ∷ sees 0 [] (entry two 2 20 ∷ []) ∷ sees 0 (two ∷ []) []
    ∷ sees 14 (0 ∷ []) [] ∷ sees 0 (2000 ∷ 1 ∷ 1 ∷ 12 ∷ 0 ∷ 0 ∷ 2 ∷ []) [] ∷ sees 0 [] [] ∷ sees 0 (0 ∷ []) [] ∷ sees 0 [] []
    ∷ sees 0 (1 ∷ []) (entry two 3 30 ∷ []) ∷ sees 0 (0 ∷ []) [] ∷ sees 0 (0 ∷ []) [] ∷ sees 4 (0 ∷ []) [] ∷ []

pub seen-by-two : map (seen_in 2 laid) (own ∷ busy ∷ []) ≡ own_seen ∷ own_seen ∷ []
unfolding months_of years valid seconds_of date_of header_sound slot_sound chain_sound ticks_sound dates_sound queue_sound sound status_on outcome
seen-by-two = refl

-- A leap by 3 ticks fires party 2's timer; where one of party 1's is due at the first, it stops there.
abbrev leapt : List Call → List Made
leapt others = map made (create 1 1 ∷ create 2 2 ∷ fire_after 2 two 3 2 20 ∷ others ++ (leap 3 six ∷ []))

abbrev up_to_leap : List Fired → List Seen
up_to_leap entries = sees 0 (two ∷ []) [] ∷ sees 0 (0 ∷ []) [] ∷ sees 0 [] entries ∷ []

pub leap-ends-early : map (seen_in 2 laid) (leapt [] ∷ leapt (fire_after 1 one 1 1 10 ∷ []) ∷ []) ≡ up_to_leap (entry two 2 20 ∷ []) ∷ up_to_leap [] ∷ []
unfolding months_of years valid seconds_of header_sound slot_sound chain_sound ticks_sound dates_sound queue_sound sound status_on outcome
leap-ends-early = refl

-- So the claim is false where leaps may be among the calls.
abbrev entries_seen : List Seen → ℕ
entries_seen [] = 0
entries_seen (s ∷ l) = length s.entries + entries_seen l

pub leaps-excluded : ((ms ms' : List Made) → keep (stays 2) ms ≡ keep (stays 2) ms' → seen_in 2 laid ms ≡ seen_in 2 laid ms') → ⊥
unfolding months_of years valid seconds_of header_sound slot_sound chain_sound ticks_sound dates_sound queue_sound sound status_on outcome
leaps-excluded all_Alike =
    let one-is-none : ◌≡◌ {A = ℕ} 1 0 = ap entries_seen (all_Alike (leapt []) (leapt (fire_after 1 one 1 1 10 ∷ [])) refl) in omega arith

-- ---- both parties at once, two timers each: the later slot is started first, and is listed and served first

abbrev laid4 : List ℕ
laid4 = 4 ∷ 10 ∷ replicate 5 0 ++ (2 ∷ replicate 34 0)

abbrev twelve : List ℕ
twelve = replicate 12 99

abbrev noon_and : ℕ → WallTime
noon_and s = record { year = 2000; month = 1; day = 1; hour = 12; minute = 0; second = s; ticks = 0 }

-- the calls of a party with the slots a and b between the bench's
abbrev calls1 : ℕ → ℕ → ℕ → List Call
calls1 p a b = create p 7 ∷ create p 8 ∷ create p 9 ∷ ident p 9 ∷ fire_when p b (noon_and 1) 2 20 ∷ fire_when p a (noon_and 1) 1 10 ∷ []

abbrev calls2 : ℕ → ℕ → ℕ → List Call
calls2 p a b = reset p a ∷ fire_every p b 1 3 30 ∷ fire_after p a 1 4 40 ∷ ticks_left p b ∷ []

abbrev calls3 : ℕ → ℕ → ℕ → List Call
calls3 p a b = server_fire_when p b (noon_and 1) 5 50 ∷ server_fire_after p b 1 6 60 ∷ server_fire_after p a 1 7 70 ∷ []

abbrev calls4 : ℕ → ℕ → ℕ → List Call
calls4 p a b = serve p (replicate 3 99) ∷ serve p (replicate 3 99) ∷ serve p (replicate 3 99) ∷ []

-- after a later lay out, with L 1
abbrev calls5 : ℕ → ℕ → ℕ → List Call
calls5 p a b = create p 7 ∷ create p 8 ∷ fire_after p a 1 8 80 ∷ []

-- the calls of both, or of one, as `of` puts them between the bench's
abbrev among : ((ℕ → ℕ → ℕ → List Call) → List Call) → List Made
among of =
    map made (set_clock noon twelve ∷ of calls1 ++ (set_clock (noon_and 1) twelve ∷ of calls2 ++ (tick twelve ∷ initiate_server ∷ of calls3 ++ (tick twelve
    ∷ of calls4 ++ (lay_out 4 5 1 ∷ of calls5 ++ (tick twelve ∷ []))))))

abbrev of_one : (ℕ → ℕ → ℕ → List Call) → List Call
of_one c = c 1 one two

abbrev of_two : (ℕ → ℕ → ℕ → List Call) → List Call
of_two c = c 2 0x12010003 0x12010004

abbrev of_both : (ℕ → ℕ → ℕ → List Call) → List Call
of_both c = of_one c ++ of_two c

pub each-own : map (λ q. keep (stays q) (among of_both)) (1 ∷ 2 ∷ []) ≡ among of_one ∷ among of_two ∷ []
each-own = refl

-- what is seen with the slots a and b, where c and d are seen of the second lay out's two creates
abbrev seen_at : ℕ → ℕ → Seen → Seen → List Seen
seen_at a b c d =
    sees 0 [] [] ∷ sees 0 (a ∷ []) [] ∷ sees 0 (b ∷ []) [] ∷ sees 5 (0 ∷ []) [] ∷ sees 3 (0 ∷ []) [] ∷ sees 0 (0 ∷ []) [] ∷ sees 0 (0 ∷ []) []
    ∷ sees 0 [] (entry b 2 20 ∷ entry a 1 10 ∷ []) ∷ sees 11 (0 ∷ []) [] ∷ sees 0 (0 ∷ []) [] ∷ sees 0 (0 ∷ []) [] ∷ sees 0 (1 ∷ []) []
    ∷ sees 0 [] (entry b 3 30 ∷ entry a 4 40 ∷ []) ∷ sees 0 [] [] ∷ sees 20 (0 ∷ []) [] ∷ sees 0 (0 ∷ []) [] ∷ sees 0 (0 ∷ []) [] ∷ sees 0 [] []
    ∷ sees 0 (1 ∷ []) (entry b 6 60 ∷ []) ∷ sees 0 (1 ∷ []) (entry a 7 70 ∷ []) ∷ sees 0 (0 ∷ []) []
    ∷ sees 0 [] [] ∷ c ∷ d ∷ sees 0 (0 ∷ []) [] ∷ sees 0 [] (entry a 8 80 ∷ []) ∷ []

pub seen-by-each : map (λ q. seen_in q laid4 (among of_both)) (1 ∷ 2 ∷ [])
    ≡ seen_at one two (sees 0 (one ∷ []) []) (sees 5 (0 ∷ []) [])
    ∷ seen_at 0x12010003 0x12010004 (sees 0 (two ∷ []) []) (sees 0 (0x12010003 ∷ []) []) ∷ []
unfolding months_of years valid seconds_of date_of header_sound slot_sound chain_sound ticks_sound dates_sound queue_sound sound status_on outcome
seen-by-each = refl

-- The claim speaks of both parties, where L is neither 0 nor N - 1.
pub told : Isolation → (seen_in 1 laid4 (among of_both) ≡ seen_in 1 laid4 (among of_one)) × (seen_in 2 laid4 (among of_both) ≡ seen_in 2 laid4 (among of_two))
unfolding months_of years valid seconds_of date_of header_sound slot_sound chain_sound ticks_sound dates_sound queue_sound sound status_on outcome
told h = (
  h (replicate 42 0) 4 10 2 refl 1 (among of_both) (among of_one) refl refl,
  h (replicate 42 0) 4 10 2 refl 2 (among of_both) (among of_two) refl refl,
)

-- It speaks of every call that it does not leave out: with those above, cancel, delete, get clock, next due and the other's tries.
abbrev polled : List Made → List Made
polled ms = made next_due ∷ ms ++ (made next_due ∷ [])

pub told-of-each : Isolation → seen_in 2 laid (polled own) ≡ seen_in 2 laid (polled busy)
unfolding months_of years valid seconds_of date_of header_sound slot_sound chain_sound ticks_sound dates_sound queue_sound sound status_on outcome
told-of-each h = h (replicate 26 0) 2 10 1 refl 2 (polled own) (polled busy) refl refl

-- It speaks of every slice, lay out and party, and of every two lists of calls that agree in the bench's and the party's, no leap among them.
pub isolation-told : Isolation → (w : List ℕ) (n t split : ℕ) → (outcome w (lay_out n t split)).status ≡ 0 → (q : ℕ) (ms ms' : List Made)
    → keep (stays q) ms ≡ keep (stays q) ms' → any (λ m. is_leap m.call) (keep (stays q) ms) ≡ false
    → let laid = (outcome w (lay_out n t split)).table in seen_in q laid ms ≡ seen_in q laid ms'
isolation-told h w n t split ok q ms ms' same no-leap = h w n t split ok q ms ms' same no-leap
