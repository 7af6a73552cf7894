-- The call of each number with its arguments, in a table that is computed from the definitions. Assumes nothing.
use mathlib.Core.Path.{◌≡◌, refl}
use Prim.Native.Nat.{ℕ}
use mathlib.Core.List.{List, [], ◌∷◌, map}
use Rattle.calendar.specs.declared.WallTime.{WallTime}
use Rattle.model.specs.Calls.{Call, call_number, create, ident, cancel, delete, fire_after, fire_when, reset, ticks_left, tick, set_clock, get_clock}
use Rattle.model.specs.Calls.{fire_every, next_due, initiate_server, server_fire_after, server_fire_when, serve, leap}
use Rattle.recorded_timer.specs.RecordedCalls.{call_of}

abbrev wall : ℕ → ℕ → ℕ → ℕ → ℕ → ℕ → ℕ → WallTime
wall y m d h n s t = record { year = y; month = m; day = d; hour = h; minute = n; second = s; ticks = t }

abbrev numbers : List ℕ
numbers = 2 ∷ 3 ∷ 4 ∷ 5 ∷ 6 ∷ 7 ∷ 8 ∷ 9 ∷ 10 ∷ 11 ∷ 12 ∷ 13 ∷ 14 ∷ 15 ∷ 16 ∷ 17 ∷ 18 ∷ 19 ∷ []

-- each number with the words 11 to 20 behind it, lent any list
abbrev read : List ℕ → List Call
read lent = map (λ (n : ℕ). call_of lent (n ∷ 11 ∷ 12 ∷ 13 ∷ 14 ∷ 15 ∷ 16 ∷ 17 ∷ 18 ∷ 19 ∷ 20 ∷ [])) numbers

pub calls-read : (lent : List ℕ) → read lent
    ≡ create 1 11 ∷ ident 1 11 ∷ cancel 1 11 ∷ delete 1 11 ∷ fire_after 1 11 12 13 14 ∷ fire_when 1 11 (wall 12 13 14 15 16 17 18) 19 20
    ∷ reset 1 11 ∷ ticks_left 1 11 ∷ tick lent ∷ set_clock (wall 11 12 13 14 15 16 17) lent ∷ get_clock ∷ fire_every 1 11 12 13 14 ∷ next_due ∷ initiate_server
    ∷ server_fire_after 1 11 12 13 14 ∷ server_fire_when 1 11 (wall 12 13 14 15 16 17 18) 19 20 ∷ serve 1 lent ∷ leap 11 lent ∷ []
unfolding call_of
calls-read lent = refl

-- and each is numbered as the model numbers it
pub calls-numbered : (lent : List ℕ) → map call_number (read lent) ≡ numbers
unfolding call_of
calls-numbered lent = refl
