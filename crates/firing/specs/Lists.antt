-- What firing does to the table and to the fired list, as the functions of this crate promise it. Assumes nothing: these are definitions.
use Rattle.std.specs.Prelude.{◌≡◌, ℕ, ◌+◌, ◌*◌, ◌≤◌, ◌<◌, Bool, true, false, cond, ◌||◌, List, [], ◌∷◌, map, length, eqb}
use Rattle.std.proofs.lemmas.List.Edits.{sets}
use Rattle.model.specs.declared.Chain.{Chain}
use Rattle.model.specs.declared.Chain.TheVariants.{ByTicks, Queue}
use Rattle.model.specs.Lists.{any}
use Rattle.model.specs.Kinds.{kind_at, same_chain, waits_in, for_server}
use Rattle.model.specs.State.{Slot, Link, State, slot_at, id_base, listed}
use Rattle.model.specs.Directives.{stopped, idled, due, fire, without_server, Effect}
use Rattle.model.specs.Words.{read, written_over, kind_of, wait_of, routine_of, data_of, next_of, previous_of}
use Rattle.model.specs.Outcome.{entry_words, written}
use Rattle.laws.proofs.KindLaws.{periodic}
use Rattle.links.specs.Places.{last_slot, IsSlot}
use Rattle.going_on.specs.Queueing.{queued}

-- slot `end` is the last of the queue, 0 where that is empty
abbrev pub EndsAt : List ℕ → ℕ → Type 0
EndsAt t end = end ≡ last_slot 0 (read t).queue

-- chain k is not the queue, and the list has room for those due, written from entry `from` on; of those that wait for ticks
-- they are due with none left
pub record Room (k : Chain) (t list : List ℕ) (limit from end : ℕ) : Type 0 where
  pub none_left : k ≡ ByTicks → limit ≡ 0
  pub waits : same_chain Queue k ≡ false
  pub last : EndsAt t end
  pub fits : 3 * (from + length (due k limit (read t))) ≤ length list
  pub few : from + length (due k limit (read t)) < 256

-- slot i, of that kind, is the first of chain k and due, and the list has room for entry n
pub record ComesOff (k : Chain) (t list : List ℕ) (i kind n : ℕ) : Type 0 where
  pub slot : IsSlot t i
  pub is : kind ≡ kind_of t i
  pub waits : waits_in k kind ≡ true
  pub first : previous_of t i ≡ 0
  pub due : k ≡ ByTicks → wait_of t i ≡ 0
  pub fits : 3 * n + 3 ≤ length list
  pub few : n < 256

-- slot i stopped, and was written as entry n; `next` followed it
pub record CameOff (t list : List ℕ) (i n next : ℕ) (t' list' : List ℕ) : Type 0 where
  pub table : t' ≡ written_over (stopped (read t) i (idled (slot_at (read t).slots i))) t
  pub entry : list' ≡ sets list (3 * n) ((id_base + i) ∷ routine_of t i ∷ data_of t i ∷ [])
  pub followed : next ≡ next_of t i

-- slot i waits in chain k, which is not the queue, and is due
pub record Turns (k : Chain) (t list : List ℕ) (i n end : ℕ) : Type 0 where
  pub comes : ComesOff k t list i (kind_of t i) n
  pub waits : same_chain Queue k ≡ false
  pub last : EndsAt t end

-- how many entries there are, whether one is of a periodic timer, the last slot of the queue, and the first of the chain
pub record Tally : Type 0 where
  pub count : ℕ
  pub periodic : Bool
  pub end : ℕ
  pub front : ℕ

abbrev pub tally_of : ℕ → Bool → ℕ → ℕ → Tally
tally_of count periodic end front = record { count = count; periodic = periodic; end = end; front = front }

-- the front was a server timer and went to the back of the queue, or any other and was listed; what followed it is the front now
pub record Turned (t list : List ℕ) (c c' : Tally) (t' list' : List ℕ) : Type 0 where
  pub queues : 10 ≤ kind_of t c.front → (t' ≡ written_over (queued (read t) c.front) t) × (list' ≡ list)
      × (c' ≡ tally_of c.count c.periodic c.front (next_of t c.front))
  pub lists : kind_of t c.front < 10 → CameOff t list c.front c.count c'.front t' list'
      × (c' ≡ tally_of (c.count + 1) (c.periodic || eqb (kind_of t c.front) 6) c.end (next_of t c.front))

-- the timer of slot i came off its chain: it is queued, where it is a server timer, else idle
abbrev pub off_one : State → ℕ → State
off_one s i = let x = slot_at s.slots i in cond (for_server (kind_at x.kind).last) (queued s i) (stopped s i (idled x))

-- the timers of some links, one after the other
abbrev pub off_all : List Link → State → State
off_all [] s = s
off_all (w ∷ ws) s = off_all ws (off_one s w.slot)

-- the timer of the link is periodic
abbrev pub is_periodic_at : List Slot → Link → Bool
is_periodic_at slots w = periodic (kind_at (slot_at slots w.slot).kind).last

-- those due that are listed, and the list with them written from entry `from` on
abbrev pub due_listed : Chain → ℕ → State → List Link
due_listed k limit s = without_server s.slots (due k limit s)

abbrev pub listing : Chain → ℕ → List ℕ → ℕ → List ℕ → List ℕ
listing k limit t from list = sets list (3 * from) (entry_words (map (listed (read t).slots) (due_listed k limit (read t))))

-- those due came off and were listed or queued: how many entries there are now, whether one is of a periodic timer or one was before, the last slot
-- of the queue, the table, and the list
pub record TakesOff (k : Chain) (t list : List ℕ) (limit from : ℕ) (before : Bool) (c : Tally) (t' list' : List ℕ) : Type 0 where
  pub count : c.count ≡ from + length (due_listed k limit (read t))
  pub periodic : c.periodic ≡ (before || any (is_periodic_at (read t).slots) (due k limit (read t)))
  pub last : EndsAt t' c.end
  pub table : t' ≡ written_over (off_all (due k limit (read t)) (read t)) t
  pub entries : list' ≡ listing k limit t from list

-- they fired: how many entries there are now, the last slot of the queue, the table, and the list
pub record Fires (k : Chain) (t list : List ℕ) (limit from number end : ℕ) (t' list' : List ℕ) : Type 0 where
  pub count : number ≡ from + length (due_listed k limit (read t))
  pub last : EndsAt t' end
  pub table : t' ≡ written_over (fire k limit (read t)) t
  pub entries : list' ≡ listing k limit t from list

-- the words are those that a call leaves, with its answer
pub record Leaves (t list : List ℕ) (e : Effect) (m : ℕ) (u list' : List ℕ) : Type 0 where
  pub table : u ≡ written_over e.state t
  pub answer : m ∷ [] ≡ e.answer
  pub entries : list' ≡ written (map (listed (read t).slots) e.fired) list
