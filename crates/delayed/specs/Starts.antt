-- Document 02, item 12: "A guard may be started by a delay: ticks, seconds as a binary64 number, or a date." What comes of it, for all inputs.
-- Assumes nothing: these are definitions.
use Rattle.std.specs.Prelude.{◌≡◌, ℕ, Bool, true, false, cond, List, [], ◌∷◌, eqb, ℤ, Float}
use Rattle.std.specs.Float.{fin}
use Rattle.calendar.specs.declared.WallTime.{WallTime}
use Rattle.model.specs.Calls.{fire_after, fire_when}
use Rattle.model.specs.Parties.{is_party}
use Rattle.model.specs.Words.{ticks_per_second, party_split}
use Rattle.model.specs.Sound.{sound}
use Rattle.model.specs.Outcome.{Outcome, outcome_of, outcome}
use Rattle.model.specs.Statuses.{on_sound, as_party}
use Rattle.delay.specs.declared.Delay.{Delay}
use Rattle.delay.specs.declared.Delay.TheVariants.{Ticks, Seconds, Date}
use Rattle.delay.specs.Seconds.{Conversion, converted}
use Rattle.delay.specs.Exact.{Taken}

-- Seconds that the conversion refuses are "refused with 10 (a start on such a table gives 100 first)", with 4 between them for what is no party's number
-- (item 10); any other are so many ticks.
abbrev pub started_after : List ℕ → ℕ → ℕ → Conversion → ℕ → ℕ → Outcome
started_after t party id c routine user_data =
    cond (eqb c.status 0)
    (outcome t (fire_after party id c.ticks routine user_data))
    (outcome_of (on_sound t (as_party t party c.status)) (0 ∷ []) t [])

-- "The rest .. is as fire after or, for a date, fire when."
abbrev pub started : List ℕ → ℕ → ℕ → Delay → ℕ → ℕ → Outcome
started t party id (Ticks n) routine user_data = outcome t (fire_after party id n routine user_data)
started t party id (Seconds x) routine user_data = started_after t party id (converted x (ticks_per_second t)) routine user_data
started t party id (Date w) routine user_data = outcome t (fire_when party id w routine user_data)

-- ---- what that says on any slice of words, of seconds by the value of their number and with no conversion in sight

-- so many ticks are as fire after, and a date as fire when
abbrev pub GivenTicks : Type 0
GivenTicks = (t : List ℕ) (party id n routine user_data : ℕ)
    → started t party id (Ticks n) routine user_data ≡ outcome t (fire_after party id n routine user_data)

abbrev pub GivenDate : Type 0
GivenDate = (t : List ℕ) (party id : ℕ) (w : WallTime) (routine user_data : ℕ)
    → started t party id (Date w) routine user_data ≡ outcome t (fire_when party id w routine user_data)

-- 100 comes first, whatever the delay, and nothing changes
abbrev pub UnsoundFirst : Type 0
UnsoundFirst = (t : List ℕ) (party id : ℕ) (delay : Delay) (routine user_data : ℕ) → sound t ≡ false
    → started t party id delay routine user_data ≡ outcome_of 100 (0 ∷ []) t []

-- then 4, whatever the delay, where the number is no party's
abbrev pub PartyNext : Type 0
PartyNext = (t : List ℕ) (party id : ℕ) (delay : Delay) (routine user_data : ℕ) → sound t ≡ true → is_party (party_split t) party ≡ false
    → started t party id delay routine user_data ≡ outcome_of 4 (0 ∷ []) t []

-- seconds that have ticks are as fire after with those ticks
abbrev pub TakenSeconds : Type 0
TakenSeconds = (t : List ℕ) (party id : ℕ) (x : Float) (routine user_data n : ℕ) → Taken x (ticks_per_second t) n
    → started t party id (Seconds x) routine user_data ≡ outcome t (fire_after party id n routine user_data)

-- seconds that have none, of a party, are refused with 10 before routine and id, and nothing changes
abbrev pub RefusedSeconds : Type 0
RefusedSeconds = (t : List ℕ) (party id : ℕ) (x : Float) (routine user_data : ℕ) → sound t ≡ true → is_party (party_split t) party ≡ true
    → ((n : ℕ) → Taken x (ticks_per_second t) n → ⊥) → started t party id (Seconds x) routine user_data ≡ outcome_of 10 (0 ∷ []) t []

-- so are both zeros, which have 0 ticks
abbrev pub ZeroSeconds : Type 0
ZeroSeconds = (t : List ℕ) (party id : ℕ) (negative : Bool) (e : ℤ) (routine user_data : ℕ) → sound t ≡ true → is_party (party_split t) party ≡ true
    → started t party id (Seconds (fin negative 0 e)) routine user_data ≡ outcome_of 10 (0 ∷ []) t []
