-- The words that change where a slot goes into a chain or out of it: what the functions of this crate promise. A reader need not believe
-- these: the contracts of the crates above speak of the model's state. Assumes nothing: these are definitions.
use Rattle.std.specs.Prelude.{◌≡◌, ℕ, zero, suc, ◌+◌, ◌-◌, ◌*◌, ◌≤◌, ◌<◌, List, length, set}
use Rattle.model.specs.declared.Chain.{Chain}
use Rattle.model.specs.declared.Chain.TheVariants.{ByTicks, ByDate, Queue}
use Rattle.model.specs.Words.{word, wait_of, next_of, previous_of}
use Rattle.laws.proofs.StateWords.{link_word}

-- where word f of slot i stands
abbrev pub field_word : ℕ → ℕ → ℕ
field_word i f = 2 + 8 * i + f

-- slot n, if there is one, gets previous q and wait v
unfoldable pub follower_put : List ℕ → ℕ → ℕ → ℕ → List ℕ
follower_put t zero q v = t
follower_put t (suc n) q v = set (set t (field_word (suc n) 7) q) (field_word (suc n) 3) v

-- slot n, if there is one, gets previous q
unfoldable pub previous_put : List ℕ → ℕ → ℕ → List ℕ
previous_put t zero q = t
previous_put t (suc n) q = set t (field_word (suc n) 7) q

-- wait, next and previous of slot i
unfoldable pub links_put : List ℕ → ℕ → ℕ → ℕ → ℕ → List ℕ
links_put t i w n p = set (set (set t (field_word i 3) w) (field_word i 6) n) (field_word i 7) p

-- what follows slot p becomes l, slot n gets previous q and wait v, slot i gets wait w, next x and previous y
unfoldable pub relinked : Chain → List ℕ → ℕ → ℕ → ℕ → ℕ → ℕ → ℕ → ℕ → ℕ → ℕ → List ℕ
relinked k t p l n q v i w x y = links_put (follower_put (set t (link_word k p) l) n q v) i w x y

-- the wait of slot n after the slot before it, of wait w, left the chain; and after one of wait w came in front of it
abbrev pub wait_without : Chain → List ℕ → ℕ → ℕ → ℕ
wait_without k t zero w = 0
wait_without ByTicks t (suc n) w = wait_of t (suc n) + w
wait_without ByDate t (suc n) w = wait_of t (suc n)
wait_without Queue t (suc n) w = wait_of t (suc n)

abbrev pub wait_behind : Chain → List ℕ → ℕ → ℕ → ℕ
wait_behind k t zero w = 0
wait_behind ByTicks t (suc n) w = wait_of t (suc n) - w
wait_behind ByDate t (suc n) w = wait_of t (suc n)
wait_behind Queue t (suc n) w = wait_of t (suc n)

-- slot i is extracted from its chain
abbrev pub extracted_words : Chain → List ℕ → ℕ → List ℕ
extracted_words k t i =
    relinked k t (previous_of t i) (next_of t i) (next_of t i) (previous_of t i) (wait_without k t (next_of t i) (wait_of t i)) i 0 0 0

-- slot i is inserted behind slot p, with wait w
abbrev pub inserted_words : Chain → List ℕ → ℕ → ℕ → ℕ → List ℕ
inserted_words k t p i w = let n = word t (link_word k p) in relinked k t p i n i (wait_behind k t n w) i w n p

-- slot i can be extracted from its chain
pub record Extractable (k : Chain) (t : List ℕ) (i : ℕ) : Type 0 where
  pub here : 8 * i + 10 ≤ length t
  pub behind : 8 * next_of t i + 10 ≤ length t
  pub before : 8 * previous_of t i + 10 ≤ length t
  pub fits : wait_without k t (next_of t i) (wait_of t i) < 4294967296

-- it is the first, and has no ticks left where it waits for ticks
pub record FirstExtractable (k : Chain) (t : List ℕ) (i : ℕ) : Type 0 where
  pub here : 8 * i + 10 ≤ length t
  pub behind : 8 * next_of t i + 10 ≤ length t
  pub first : previous_of t i ≡ 0
  pub due : k ≡ ByTicks → wait_of t i ≡ 0

-- slot i can be inserted behind slot p with wait w
pub record Insertable (k : Chain) (t : List ℕ) (p i w : ℕ) : Type 0 where
  pub here : 8 * i + 10 ≤ length t
  pub before : 8 * p + 10 ≤ length t
  pub behind : 8 * word t (link_word k p) + 10 ≤ length t
  pub fits : k ≡ ByTicks → 0 < word t (link_word k p) → w ≤ wait_of t (word t (link_word k p))
