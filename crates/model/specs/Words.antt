-- Document 01, "The table, in 32-bit words": how a state stands in the words of a slice, and how it is read from them.
--
--   word 0 slot count N          word 5 first slot of the interval chain     slot i, from 1, is the eight words from 2 + 8i on:
--   word 1 ticks in a second T   word 6 first slot of the dated chain        0 kind      1 name     2 interval   3 wait
--   word 2 clock set, 0 or 1     word 7 last slot L of party 1, or 0         4 routine   5 data     6 next       7 previous
--   word 3 seconds               word 8 server initiated, 0 or 1             link 0 means none; words past 10 + 8N are not the table's
--   word 4 ticks into the second word 9 first slot of the queue
--
-- Assumes nothing: these are definitions.
use Rattle.std.specs.Prelude.{ℕ, zero, suc, ◌+◌, ◌-◌, ◌*◌, cond, List, [], ◌∷◌, length, get_or, drop, eqb}
use Rattle.model.specs.Kinds.{Chain, ByTicks, ByDate, Queue}
use Rattle.model.specs.State.{Slot, Link, Clock, State}

-- ---- writing

-- the slot of the first link, 0 if there is none
abbrev pub first : List Link → ℕ
first [] = 0
first (w ∷ ws) = w.slot

-- The wait of a kind 4, 6 or 10 slot is the ticks after the slot before it, that of a kind 5 or 11 slot its date; in the queue it is 0.
abbrev pub difference : Chain → ℕ → ℕ → ℕ
difference ByTicks before wait = wait - before
difference ByDate before wait = wait
difference Queue before wait = wait

-- the words next, previous and wait of the slot i, from the chain that it is in; 0 where it is in none
abbrev pub next_in : List Link → ℕ → ℕ
next_in [] i = 0
next_in (w ∷ ws) i = cond (eqb w.slot i) (first ws) (next_in ws i)

abbrev pub previous_in : ℕ → List Link → ℕ → ℕ
previous_in p [] i = 0
previous_in p (w ∷ ws) i = cond (eqb w.slot i) p (previous_in w.slot ws i)

abbrev pub wait_in : Chain → ℕ → List Link → ℕ → ℕ
wait_in k b [] i = 0
wait_in k b (w ∷ ws) i = cond (eqb w.slot i) (difference k b w.wait) (wait_in k w.wait ws i)

-- a number that each chain gives to a slot, added: a slot is in one of the chains at most, so that all but one are 0
abbrev pub sum_of : (Chain → List Link → ℕ) → State → ℕ
sum_of f s = f ByTicks s.ticking + f ByDate s.dated + f Queue s.queue

abbrev pub slot_words : State → ℕ → Slot → List ℕ → List ℕ
slot_words s i x rest =
    x.kind ∷ x.name ∷ x.interval ∷ sum_of (λ k c. wait_in k 0 c i) s ∷ x.routine ∷ x.user_data
    ∷ sum_of (λ k c. next_in c i) s ∷ sum_of (λ k c. previous_in 0 c i) s ∷ rest

abbrev pub all_slots : State → ℕ → List Slot → List ℕ → List ℕ
all_slots s i [] rest = rest
all_slots s i (x ∷ xs) rest = slot_words s i x (all_slots s (suc i) xs rest)

-- the words of a state, and then those that follow them
abbrev pub write : State → List ℕ → List ℕ
write s rest =
    length s.slots ∷ s.clock.per_second ∷ cond s.clock.is_set 1 0 ∷ s.clock.second ∷ s.clock.ticks_into
    ∷ first s.ticking ∷ first s.dated ∷ s.split ∷ cond s.server 1 0 ∷ first s.queue ∷ all_slots s 1 s.slots rest

-- the words of a state at the front of a slice. Words past 10 + 8N are never changed.
abbrev pub written_over : State → List ℕ → List ℕ
written_over s t = write s (drop (10 + 8 * length s.slots) t)

-- ---- reading

-- word m of a slice; word f of slot i
abbrev pub word : List ℕ → ℕ → ℕ
word t m = get_or t m 0

abbrev pub field : List ℕ → ℕ → ℕ → ℕ
field t i f = get_or t (2 + 8 * i + f) 0

-- the words of the header, by their names
abbrev pub slot_count : List ℕ → ℕ
slot_count t = get_or t 0 0

abbrev pub ticks_per_second : List ℕ → ℕ
ticks_per_second t = get_or t 1 0

abbrev pub clock_set : List ℕ → ℕ
clock_set t = get_or t 2 0

abbrev pub seconds : List ℕ → ℕ
seconds t = get_or t 3 0

abbrev pub ticks_into : List ℕ → ℕ
ticks_into t = get_or t 4 0

abbrev pub first_ticking : List ℕ → ℕ
first_ticking t = get_or t 5 0

abbrev pub first_dated : List ℕ → ℕ
first_dated t = get_or t 6 0

abbrev pub party_split : List ℕ → ℕ
party_split t = get_or t 7 0

abbrev pub server_initiated : List ℕ → ℕ
server_initiated t = get_or t 8 0

abbrev pub first_queued : List ℕ → ℕ
first_queued t = get_or t 9 0

-- the words of slot i, by their names
abbrev pub kind_of : List ℕ → ℕ → ℕ
kind_of t i = field t i 0

abbrev pub name_of : List ℕ → ℕ → ℕ
name_of t i = field t i 1

abbrev pub interval_of : List ℕ → ℕ → ℕ
interval_of t i = field t i 2

abbrev pub wait_of : List ℕ → ℕ → ℕ
wait_of t i = field t i 3

abbrev pub routine_of : List ℕ → ℕ → ℕ
routine_of t i = field t i 4

abbrev pub data_of : List ℕ → ℕ → ℕ
data_of t i = field t i 5

abbrev pub next_of : List ℕ → ℕ → ℕ
next_of t i = field t i 6

abbrev pub previous_of : List ℕ → ℕ → ℕ
previous_of t i = field t i 7

-- the word that holds the first slot of a chain
abbrev pub head_word : Chain → ℕ
head_word ByTicks = 5
head_word ByDate = 6
head_word Queue = 9

-- the slots along the links from slot i on, at most `fuel` of them
abbrev pub along : (ℕ → ℕ) → ℕ → ℕ → List ℕ
along next zero i = []
along next (suc fuel) zero = []
along next (suc fuel) (suc i) = suc i ∷ along next fuel (next (suc i))

-- A timer's ticks left are found by adding its word and those of every slot before it.
abbrev pub accumulated : Chain → ℕ → ℕ → ℕ
accumulated ByTicks before wait = before + wait
accumulated ByDate before wait = wait
accumulated Queue before wait = wait

-- the links of chain k from slot i on, at most `fuel` of them, behind a slot with that wait
abbrev pub links_from : Chain → List ℕ → ℕ → ℕ → ℕ → List Link
links_from k t zero before i = []
links_from k t (suc fuel) before zero = []
links_from k t (suc fuel) before (suc i) =
    let wait = accumulated k before (wait_of t (suc i)) in record { slot = suc i; wait = wait } ∷ links_from k t fuel wait (next_of t (suc i))

-- The chain, followed by next from word 5, 6 or 9.
abbrev pub links : Chain → List ℕ → List Link
links k t = links_from k t (slot_count t) 0 (word t (head_word k))

-- slot i
abbrev pub slot_from : List ℕ → ℕ → Slot
slot_from t i = record { kind = kind_of t i; name = name_of t i; interval = interval_of t i; routine = routine_of t i; user_data = data_of t i }

-- n slots from i on
abbrev pub slots_from : List ℕ → ℕ → ℕ → List Slot
slots_from t i zero = []
slots_from t i (suc n) = slot_from t i ∷ slots_from t (suc i) n

-- the state that a table's words hold
abbrev pub read : List ℕ → State
read t =
    let clock : Clock = record { per_second = ticks_per_second t; is_set = eqb (clock_set t) 1; second = seconds t; ticks_into = ticks_into t } in
    record {
      slots = slots_from t 1 (slot_count t);
      clock = clock;
      ticking = links ByTicks t;
      dated = links ByDate t;
      split = party_split t;
      server = eqb (server_initiated t) 1;
      queue = links Queue t;
    }
