-- Document 02, item 10: two parties share the slots of a table. Word 7 holds L, which is 0 for one party. Assumes nothing: these are definitions.
use Rattle.std.specs.Prelude.{ℕ, suc, Bool, cond, not, ◌&&◌, ◌||◌, leb, eqb}

-- Party 1 has slots 1 to L, party 2 the rest; where L is 0 all slots are party 1's.
abbrev pub owner_of : ℕ → ℕ → ℕ
owner_of split i = cond (eqb split 0 || leb i split) 1 2

-- slot i is the party's
abbrev pub owns : ℕ → ℕ → ℕ → Bool
owns split party i = eqb (owner_of split i) party

-- A party's number is 1 or 2, and not 2 where L is 0.
abbrev pub is_party : ℕ → ℕ → Bool
is_party split party = eqb party 1 || (eqb party 2 && not (eqb split 0))

-- the first slot of a party, where L is the split; its last, of n
abbrev pub first_own : ℕ → ℕ → ℕ
first_own split party = cond (eqb party 2) (suc split) 1

abbrev pub last_own : ℕ → ℕ → ℕ → ℕ
last_own split n party = cond (eqb party 1 && not (eqb split 0)) split n
