-- Document 02, item 8: the replay of a recording. Assumes nothing: these are definitions.
use Rattle.std.specs.Prelude.{ℕ, suc, ◌+◌, ◌*◌, cond, not, List, [], ◌∷◌, ◌++◌, length, take, drop, ltb, eqb}
use Rattle.std.proofs.Math.Option.{Option, none, some}
use Rattle.model.specs.declared.Status.TheVariants.{InvalidNumber, InvalidSize, ListTooShort}
use Rattle.model.specs.Status.{Refusal, number_of, when, first_of}
use Rattle.model.specs.Calls.{lay_out}
use Rattle.model.specs.Outcome.{outcome}
use Rattle.recording.specs.Format.{words_of, Read, reading, calls_in, statuses_in}
use Rattle.recorded_timer.specs.RecordedCalls.{step}
use Rattle.playback.specs.declared.Replayed.{Replayed}
use Rattle.playback.specs.declared.Replayed.TheVariants.{Agree, Differs, Refused, ShortTable, ShortList}

-- what comes of a replay: the status; the place of the first call that differs, or none (agree), or, on a refusal, the position; table and list
pub record Replay : Type 0 where
  pub status : ℕ
  pub place : Option ℕ
  pub table : List ℕ
  pub list : List ℕ

abbrev pub replay_of : ℕ → Option ℕ → List ℕ → List ℕ → Replay
replay_of status place table list = record { status = status; place = place; table = table; list = list }

-- "the place, from 0, of the first call whose status differs, or 'agree'": from place k on, each call on what the one before it left, until one differs
unfoldable pub played_from : ℕ → List ℕ → List ℕ → List ℕ → List ℕ → Replay
played_from k table list calls [] = replay_of 0 none table list
played_from k table list calls (expected ∷ statuses) =
    let s = step table list (take 11 calls) in
    cond (eqb s.status expected) (played_from (suc k) s.table s.list (drop 11 calls) statuses) (replay_of 0 (some k) s.table s.list)

-- ---- the replay of bytes, on a lent table and a lent list

-- what the reader refuses is refused with 10; then a table that N slots do not go into with 8, and a list of fewer than 3N words with 101
abbrev pub replay_rules : Read → List ℕ → List ℕ → List Refusal
replay_rules r table list =
    when InvalidNumber (not (eqb r.status 0))
    ∷ when InvalidSize (ltb (length table) (10 + 8 * r.slots))
    ∷ when ListTooShort (ltb (length list) (3 * r.slots))
    ∷ []

-- "replays it .. with fired lists of 3N words", on a table laid out by N and T for one party; words of the list past those stay
abbrev pub played : Read → List ℕ → List ℕ → List ℕ → Replay
played r ws table list =
    let lent = 3 * r.slots in
    let done = played_from 0 (outcome table (lay_out r.slots r.rate 0)).table (take lent list) (calls_in ws) (statuses_in ws) in
    replay_of done.status done.place done.table (done.list ++ drop lent list)

-- "is refused with 10 and .. the position, .. and nothing is replayed": a refusal leaves table and list, and answers the position, which is 0 for a
-- recording that the reader takes
unfoldable pub replaying : List ℕ → List ℕ → List ℕ → Replay
replaying bytes table list =
    let r = reading bytes in
    let status = first_of (replay_rules r table list) in
    cond (eqb status 0) (played r (words_of bytes) table list) (replay_of status (some r.position) table list)

-- the cases of the answer in these numbers: `Refused p` is 10 with the position p, a short table is 8 and a short list 101, each with 0
abbrev pub status_of : Replayed → ℕ
status_of Agree = 0
status_of (Differs k) = 0
status_of (Refused p) = number_of InvalidNumber
status_of ShortTable = number_of InvalidSize
status_of ShortList = number_of ListTooShort

abbrev pub place_of : Replayed → Option ℕ
place_of Agree = none
place_of (Differs k) = some k
place_of (Refused p) = some p
place_of ShortTable = some 0
place_of ShortList = some 0
