-- The kinds of document 01 as the code's type, and the words that stand for them in a table. What a kind says of a timer is in model/specs/Kinds.
-- Assumes nothing: these are definitions.
use Rattle.std.specs.Prelude.{◌≡◌, ◌<◌, ℕ, Result, MatchResult, Option, Some, None}
use Rattle.std.proofs.Math.Option as math
use Rattle.table.specs.declared.Kind.{Kind}
use Rattle.table.specs.declared.Kind.TheVariants.{Free, NeverStarted, IdleTicks, IdleDate, WaitingTicks, WaitingDate, WaitingEvery, IdleEvery, ServerIdleTicks, ServerIdleDate, ServerWaitingTicks, ServerWaitingDate, QueuedTicks, QueuedDate}
use Rattle.table.specs.declared.UnknownKind.{UnknownKind}

-- "Kinds": the word of each
abbrev pub word_of : Kind → ℕ
word_of Free = 0
word_of NeverStarted = 1
word_of IdleTicks = 2
word_of IdleDate = 3
word_of WaitingTicks = 4
word_of WaitingDate = 5
word_of WaitingEvery = 6
word_of IdleEvery = 7
word_of ServerIdleTicks = 8
word_of ServerIdleDate = 9
word_of ServerWaitingTicks = 10
word_of ServerWaitingDate = 11
word_of QueuedTicks = 12
word_of QueuedDate = 13

-- the result is the kind that has this word, or an error where the word is past the kinds
abbrev pub Decodes : ℕ → Result Kind UnknownKind → Type 0
Decodes word r = MatchResult r (λ kind. word_of kind ≡ word) (λ e. 13 < word)

-- an option of the code as one of the model
abbrev pub option_of : {A : Type 0} → Option A → math.Option A
option_of (Some x) = math.some x
option_of None = math.none
