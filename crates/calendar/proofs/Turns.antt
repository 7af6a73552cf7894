-- Seconds to date goes round its loops at most 16 times together, for any date (document 02, item 3): in truth once, or not at all.
-- A loop goes round no oftener than its falling number is high when it begins (`falls`). `goes` adds that up on a function's code, as the machine runs
-- it, over all ways through it; `turns_of` is the sum for each function of seconds to date. That no sum is too low is shown of each function beside its
-- own answers (`turns` of proofs/*/Answers.antt), since its code has no name elsewhere. There is one loop, in `month_day`: its falling number begins at
-- 1 at most (the last fact of its invariant), and each turn leaves it less (`loop-left-smaller`). Assumes nothing.
use mathlib.Core.Bool.{cond}
use mathlib.Core.List.{List, [], ◌∷◌}
use Prim.Native.Nat.{ℕ, zero, suc, ◌+◌, ◌*◌, ◌≤◌, ◌<◌}
use Prim.Native.String.{String}
use native.Mathlib.Omega.{arith}
use lib.Text.{eqt}
use mir.Syntax as mir

-- a number that is less after each of so many turns began as high as they are many
pub falls : (number : ℕ → ℕ) (turns : ℕ) → ((i : ℕ) → i < turns → number (suc i) < number i) → turns ≤ number 0
falls number turns less = omega (arith, go turns (λ i h. h))
  where
    go : (k : ℕ) → ((i : ℕ) → i < k → i < turns) → k + number k ≤ number 0
    go zero within = omega arith
    go (suc k) within = omega (arith, less k (within k (omega arith)), go k (λ i h. within i (omega arith)))

-- Too often: so counts a call of a function that has no number below, one by a pointer or in a thread, and a loop of a function that is to have none.
abbrev pub too_often : ℕ
too_often = 17

-- How often code goes round its loops at most, where the falling number of each begins at n at most, and a call does as often as `called` says. A
-- loop that goes round n times begins its body once more.
abbrev mutual
  pub goes : ℕ → (mir.Callee → ℕ) → mir.Body → ℕ
  goes n called (mir.seq a b) = goes n called a + goes n called b
  goes n called (mir.block b) = goes n called b
  goes n called (mir.loop b) = n + suc n * goes n called b
  goes n called (mir.cond test a b) = goes n called a + goes n called b
  goes n called (mir.switch test arms) = goes_arms n called arms
  goes n called (mir.call f xs to) = called f
  goes n called (mir.call_v f signature xs to) = too_often
  goes n called mir.skip = 0
  goes n called (mir.assign to value) = 0
  goes n called (mir.lend_static to type constant) = 0
  goes n called (mir.exit blocks) = 0
  goes n called mir.return = 0
  goes n called mir.unreachable = 0

  pub goes_arms : ℕ → (mir.Callee → ℕ) → mir.Arms → ℕ
  goes_arms n called (mir.arm keys b rest) = goes n called b + goes_arms n called rest
  goes_arms n called (mir.default b) = goes n called b
  goes_arms n called mir.no_default = 0

abbrev numbered : List (String × ℕ) → mir.Symbol → ℕ
numbered [] f = too_often
numbered ((g, n) ∷ rest) f = cond (eqt f g) n (numbered rest f)

-- how often each function of seconds to date goes round its loops at most, those of what it calls among them
abbrev pub turns_of : mir.Symbol → ℕ
turns_of =
    numbered
    (("calendar::leap_flag", 0)
    ∷ ("calendar::month_length", 0)
    ∷ ("calendar::month_start", 0)
    ∷ ("calendar::year_day", 0)
    ∷ ("calendar::month_day", 1)
    ∷ ("calendar::date_in_range", 1)
    ∷ ("calendar::from_seconds", 1)
    ∷ [])

-- a call goes round as often as the function that it names
abbrev pub called : mir.Callee → ℕ
called (mir.fn f args) = turns_of f
called (mir.method dictionary number args) = too_often
called (mir.forked types callee) = too_often
called (mir.awaited types) = too_often
called (mir.prim act) = too_often

-- what each function's proof shows of its code: it goes round no oftener, where the falling numbers of its loops begin at n at most
abbrev pub Turns : ℕ → mir.Symbol → mir.Fn → Type 0
Turns n f code = goes n called code.body ≤ turns_of f

pub at-most-16-turns : turns_of "calendar::from_seconds" ≤ 16
at-most-16-turns = omega arith
