-- Recordings at both sides of each edge, in tables, each under one statement that is computed from the definitions. Assumes nothing.
use mathlib.Core.Path.{◌≡◌, refl}
use Prim.Native.Nat.{ℕ, zero, suc, ◌+◌, ◌-◌, ◌/◌}
use mathlib.Core.List.{List, [], ◌∷◌, ◌++◌, map}
use lib.ListN.{replicate, take}
use Rattle.recording.specs.Format.{words_of, bytes_of, arguments, call_rules, calls_rules, layout, right, Read, reading_of, reading}

-- a recording that is taken with these numbers, or refused at a position
abbrev taken : ℕ → ℕ → ℕ → Read
taken slots rate calls = record { status = 0; position = 0; slots = slots; rate = rate; calls = calls }

abbrev refused : ℕ → Read
refused position = record { status = 10; position = position; slots = 0; rate = 0; calls = 0 }

-- so many times the same words
abbrev times : ℕ → List ℕ → List ℕ
times zero ws = []
times (suc n) ws = ws ++ times n ws

abbrev up_to : ℕ → List ℕ
up_to zero = []
up_to (suc n) = up_to n ++ n ∷ []

-- ---- each call

-- its number, and how many arguments it has: a name or an id is one, a start has four, with a wall time ten
pub record Listed : Type 0 where
  pub number : ℕ
  pub arguments : ℕ

abbrev call : ℕ → ℕ → Listed
call number arguments = record { number = number; arguments = arguments }

-- those that leave words to fill
abbrev short : List Listed
short =
    -- create, ident, cancel, delete, fire after
    call 2 1 ∷ call 3 1 ∷ call 4 1 ∷ call 5 1 ∷ call 6 4
    -- reset, ticks left, tick, set clock, get clock
    ∷ call 8 1 ∷ call 9 1 ∷ call 10 0 ∷ call 11 7 ∷ call 12 0
    -- fire every, next due, initiate server, server fire after, serve, leap
    ∷ call 13 4 ∷ call 14 0 ∷ call 15 0 ∷ call 16 4 ∷ call 18 0 ∷ call 19 1 ∷ []

-- those that leave none: fire when, server fire when
abbrev long : List Listed
long = call 7 10 ∷ call 17 10 ∷ []

-- a recording of one call, which has these eleven words
abbrev one : List ℕ → List ℕ
one words = bytes_of (2 ∷ 255 ∷ 1000 ∷ 1 ∷ (words ++ 1 ∷ 7 ∷ []))

-- every argument the largest number; then besides the word behind them, or the last word, not zero
abbrev full : Listed → List ℕ
full c = c.number ∷ replicate c.arguments 4294967295 ++ replicate (10 - c.arguments) 0

abbrev next : Listed → List ℕ
next c = c.number ∷ replicate c.arguments 4294967295 ++ 1 ∷ replicate (9 - c.arguments) 0

abbrev last : Listed → List ℕ
last c = c.number ∷ replicate c.arguments 4294967295 ++ replicate (9 - c.arguments) 0 ++ 4294967295 ∷ []

pub any-arguments : map (λ (c : Listed). reading (one (full c))) (short ++ long) ≡ replicate 18 (taken 255 1000 1)
unfolding words_of bytes_of arguments call_rules calls_rules layout right reading_of
any-arguments = refl

pub next_word : map (λ (c : Listed). reading (one (next c))) short ≡ map (λ (c : Listed). refused (5 + c.arguments)) short
unfolding words_of bytes_of arguments call_rules calls_rules layout right reading_of
next_word = refl

-- any one of the words to fill, the others as they have to be
abbrev filled : Listed → ℕ → List ℕ
filled c i = c.number ∷ replicate (c.arguments + i) 0 ++ 1 ∷ replicate (9 - c.arguments - i) 0

pub each-fill-word : map (λ (c : Listed). map (λ (i : ℕ). reading (one (filled c i))) (up_to (10 - c.arguments))) short
    ≡ map (λ (c : Listed). map (λ (i : ℕ). refused (5 + c.arguments + i)) (up_to (10 - c.arguments))) short
unfolding words_of bytes_of arguments call_rules calls_rules layout right reading_of
each-fill-word = refl

pub last_word : map (λ (c : Listed). reading (one (last c))) short ≡ replicate 16 (refused 14)
unfolding words_of bytes_of arguments call_rules calls_rules layout right reading_of
last_word = refl

-- a fill word whose low bytes alone would be right
pub high-bytes : map (λ (w : ℕ). reading (one (2 ∷ 9 ∷ w ∷ replicate 8 0))) (256 ∷ 65536 ∷ 16777216 ∷ []) ≡ replicate 3 (refused 6)
unfolding words_of bytes_of arguments call_rules calls_rules layout right reading_of
high-bytes = refl

-- lay out and what comes after leap are unknown, as is any other number
pub unknown : map (λ (n : ℕ). reading (one (n ∷ replicate 10 0))) (0 ∷ 1 ∷ 20 ∷ 258 ∷ 4294967295 ∷ []) ≡ replicate 5 (refused 4)
unfolding words_of bytes_of arguments call_rules calls_rules layout right reading_of
unknown = refl

-- ---- where bytes are missing or too many

abbrev create : List ℕ
create = 2 ∷ 9 ∷ replicate 9 0

-- 68 bytes: any fewer are refused at the number of whole words, and any more at the word behind
pub missing : map (λ (n : ℕ). reading (take n (one create))) (up_to 68) ≡ map (λ (n : ℕ). refused (n / 4)) (up_to 68)
unfolding words_of bytes_of arguments call_rules calls_rules layout right reading_of
missing = refl

pub surplus : map (λ (n : ℕ). reading (one create ++ replicate n 0)) (up_to 10) ≡ taken 255 1000 1 ∷ replicate 9 (refused 17)
unfolding words_of bytes_of arguments call_rules calls_rules layout right reading_of
surplus = refl

-- ---- counts and limits

-- words with their answer
pub record Case : Type 0 where
  pub words : List ℕ
  pub answer : Read

abbrev of : List ℕ → Read → Case
of words answer = record { words = words; answer = answer }

abbrev pub cases : List Case
cases =
    -- N, T and no call: both sides of each limit
    of (2 ∷ 1 ∷ 1 ∷ 0 ∷ 0 ∷ []) (taken 1 1 0)
    ∷ of (2 ∷ 255 ∷ 1000 ∷ 0 ∷ 0 ∷ []) (taken 255 1000 0)
    ∷ of (1 ∷ 1 ∷ 1 ∷ 0 ∷ 0 ∷ []) (refused 0)
    ∷ of (3 ∷ 1 ∷ 1 ∷ 0 ∷ 0 ∷ []) (refused 0)
    ∷ of (2 ∷ 0 ∷ 1 ∷ 0 ∷ 0 ∷ []) (refused 1)
    ∷ of (2 ∷ 256 ∷ 1 ∷ 0 ∷ 0 ∷ []) (refused 1)
    ∷ of (2 ∷ 1 ∷ 0 ∷ 0 ∷ 0 ∷ []) (refused 2)
    ∷ of (2 ∷ 1 ∷ 1001 ∷ 0 ∷ 0 ∷ []) (refused 2)
    -- a number whose low byte alone would be right
    ∷ of (2 ∷ 257 ∷ 1 ∷ 0 ∷ 0 ∷ []) (refused 1)
    ∷ of (2 ∷ 65537 ∷ 1 ∷ 0 ∷ 0 ∷ []) (refused 1)
    ∷ of (2 ∷ 16777217 ∷ 1 ∷ 0 ∷ 0 ∷ []) (refused 1)
    -- the first wrong word counts, and a wrong one before a missing one
    ∷ of (3 ∷ 256 ∷ 0 ∷ 0 ∷ 0 ∷ []) (refused 0)
    ∷ of (2 ∷ 256 ∷ 1001 ∷ 0 ∷ 0 ∷ []) (refused 1)
    ∷ of (2 ∷ 1 ∷ 0 ∷ 1001 ∷ []) (refused 2)
    ∷ of (2 ∷ 1 ∷ 1 ∷ 1 ∷ 20 ∷ []) (refused 4)
    ∷ of (2 ∷ 1 ∷ 1 ∷ 1 ∷ 10 ∷ 0 ∷ 5 ∷ []) (refused 6)
    -- the second count: one more, one less, in a recording of one call and of none
    ∷ of (2 ∷ 1 ∷ 1 ∷ 0 ∷ 1 ∷ []) (refused 4)
    ∷ of (2 ∷ 1 ∷ 1 ∷ 0 ∷ 1 ∷ 0 ∷ []) (refused 4)
    ∷ of (2 ∷ 1 ∷ 1 ∷ 1 ∷ (create ++ 2 ∷ 0 ∷ [])) (refused 15)
    ∷ of (2 ∷ 1 ∷ 1 ∷ 1 ∷ (create ++ 0 ∷ 0 ∷ [])) (refused 15)
    ∷ of (2 ∷ 1 ∷ 1 ∷ 1 ∷ (create ++ 2 ∷ 0 ∷ 0 ∷ [])) (refused 15)
    -- behind a call that leaves nothing to fill too
    ∷ of (2 ∷ 1 ∷ 1 ∷ 1 ∷ (7 ∷ replicate 10 1 ++ 2 ∷ 0 ∷ [])) (refused 15)
    ∷ of (2 ∷ 1 ∷ 1 ∷ 1 ∷ (17 ∷ replicate 10 1 ++ 0 ∷ 0 ∷ [])) (refused 15)
    -- a surplus word behind no call, and behind two; a status may be any number
    ∷ of (2 ∷ 1 ∷ 1 ∷ 0 ∷ 0 ∷ 0 ∷ []) (refused 5)
    ∷ of (2 ∷ 1 ∷ 1 ∷ 2 ∷ (create ++ create ++ 2 ∷ 0 ∷ 0 ∷ 0 ∷ [])) (refused 29)
    ∷ of (2 ∷ 1 ∷ 1 ∷ 1 ∷ (create ++ 1 ∷ 4294967295 ∷ [])) (taken 1 1 1)
    -- the second of two calls: unknown, with a fill word, missing; a status missing
    ∷ of (2 ∷ 1 ∷ 1 ∷ 2 ∷ (create ++ create ++ 2 ∷ 0 ∷ 0 ∷ [])) (taken 1 1 2)
    ∷ of (2 ∷ 1 ∷ 1 ∷ 2 ∷ (create ++ 1 ∷ replicate 10 0 ++ 2 ∷ 0 ∷ 0 ∷ [])) (refused 15)
    ∷ of (2 ∷ 1 ∷ 1 ∷ 2 ∷ (create ++ 2 ∷ 9 ∷ 1 ∷ replicate 8 0 ++ 2 ∷ 0 ∷ 0 ∷ [])) (refused 17)
    -- each call has its own arguments: more than the one before it, and fewer
    ∷ of (2 ∷ 1 ∷ 1 ∷ 3 ∷ (create ++ 7 ∷ replicate 10 1 ++ 6 ∷ replicate 4 1 ++ replicate 6 0 ++ 3 ∷ replicate 3 4294967295)) (taken 1 1 3)
    ∷ of (2 ∷ 1 ∷ 1 ∷ 3 ∷ (create ++ 7 ∷ replicate 10 1 ++ 2 ∷ replicate 4 1 ++ replicate 6 0 ++ 3 ∷ 0 ∷ 0 ∷ 0 ∷ [])) (refused 28)
    ∷ of (2 ∷ 1 ∷ 1 ∷ 2 ∷ create) (refused 15)
    ∷ of (2 ∷ 1 ∷ 1 ∷ 2 ∷ (create ++ create ++ 2 ∷ 0 ∷ [])) (refused 28)
    ∷ []

pub right-and-wrong : map (λ (c : Case). reading (bytes_of c.words)) cases ≡ map (λ (c : Case). c.answer) cases
unfolding words_of bytes_of arguments call_rules calls_rules layout right reading_of
right-and-wrong = refl

-- ---- the most calls

-- a thousand calls and as many statuses are taken; one more is too many, and the words behind do not count
pub most-calls : reading_of 48020 (2 ∷ 1 ∷ 1 ∷ 1000 ∷ (times 1000 create ++ 1000 ∷ replicate 1000 0)) ≡ taken 1 1 1000
unfolding arguments call_rules calls_rules layout right reading_of
most-calls = refl

pub too-many-calls : reading_of 48068 (2 ∷ 1 ∷ 1 ∷ 1001 ∷ (times 1001 create ++ 1001 ∷ replicate 1001 0)) ≡ refused 3
unfolding arguments call_rules calls_rules layout right reading_of
too-many-calls = refl

-- far positions, in a thousand calls of which the last has these words, with this count behind them and so many statuses: the last call's number and its
-- last word, the second count, a status too few, and a byte too many
abbrev far : ℕ → List ℕ → ℕ → ℕ → Read
far size last again statuses = reading_of size (2 ∷ 1 ∷ 1 ∷ 1000 ∷ (times 999 create ++ last ++ again ∷ replicate statuses 0))

pub far-positions : far 48020 (20 ∷ 9 ∷ replicate 9 0) 1000 1000 ∷ far 48020 (2 ∷ 9 ∷ replicate 8 0 ++ 1 ∷ []) 1000 1000
    ∷ far 48020 create 1001 1000 ∷ far 48016 create 1000 999 ∷ far 48021 create 1000 1000 ∷ []
    ≡ refused 10993 ∷ refused 11003 ∷ refused 11004 ∷ refused 12004 ∷ refused 12005 ∷ []
unfolding arguments call_rules calls_rules layout right reading_of
far-positions = refl
