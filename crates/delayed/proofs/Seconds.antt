-- Starts by a delay: for seconds, the ticks that the code works out, and what it comes to by the value of the number. Refused seconds have 0 ticks, and those
-- are refused with the same status in the same place. Assumes nothing.
use mathlib.Core.Path.{◌≡◌, refl, sym, ap, ◌∙◌}
use Prim.Native.Nat.{ℕ, ◌*◌, ◌≤◌}
use mathlib.Core.Bool.{Bool, not}
use mathlib.Core.List.{List, [], ◌∷◌}
use lib.Dec.{eqb}
use lib.IntN.{ℤ}
use lib.Ieee.{Float, fin, up}
use native.Mathlib.Nat.{zero-mul}
use native.Mathlib.Omega.{arith}
use Rattle.model.specs.declared.Status.TheVariants.{InvalidId, InvalidNumber, NotSound}
use Rattle.model.specs.Calls.{fire_after, fire_when}
use Rattle.model.specs.Parties.{is_party}
use Rattle.model.specs.Words.{ticks_per_second, party_split}
use Rattle.model.specs.Sound.{sound}
use Rattle.model.specs.Outcome.{Outcome, outcome_of, outcome}
use Rattle.model.specs.Statuses.{on_sound, as_party}
use Rattle.laws.proofs.ListLaws.{cases}
use Rattle.laws.proofs.SoundHolds.{sound-header}
use Rattle.answers.proofs.Replies.{refuses}
use Rattle.delay.specs.declared.Delay.TheVariants.{Ticks, Seconds, Date}
use Rattle.delay.specs.Seconds.{converted}
use Rattle.delay.specs.Exact.{Taken}
use Rattle.delay.proofs.Conversions.{no-ticks}
use Rattle.delay.proofs.Exactness.{is-exact}
use Rattle.delayed.specs.Starts.{started_after, GivenTicks, GivenDate, UnsoundFirst, PartyNext, TakenSeconds, RefusedSeconds, ZeroSeconds}

-- no ticks are refused with 10, right after 100 and a party's 4
no-ticks-refused : (t : List ℕ) (party id routine user_data : ℕ)
    → outcome t (fire_after party id 0 routine user_data) ≡ outcome_of (on_sound t (as_party t party 10)) (0 ∷ []) t []
no-ticks-refused t party id routine user_data =
    cases (sound t)
    (λ ok. rw ok
    (cases (is_party (party_split t) party)
    (λ known. rw known (sym (refuses t (fire_after party id 0 routine user_data) InvalidNumber 2 (ap not ok, (ap not known, tt)) refl refl)))
    (λ none. rw none (sym (refuses t (fire_after party id 0 routine user_data) InvalidId 1 (ap not ok, tt) (ap not none) refl)))))
    (λ bad. rw bad (sym (refuses t (fire_after party id 0 routine user_data) NotSound 0 tt (ap not bad) refl)))

-- seconds, refused or not
pub after-ticks : (t : List ℕ) (party id : ℕ) (x : Float) (routine user_data : ℕ) → let c = converted x (ticks_per_second t) in
    outcome t (fire_after party id c.ticks routine user_data) ≡ started_after t party id c routine user_data
after-ticks t party id x routine user_data =
    cases (eqb (converted x (ticks_per_second t)).status 0)
    (λ e. rw e refl)
    (λ e. rw (no-ticks x (ticks_per_second t) e) (no-ticks-refused t party id routine user_data))

-- the same of ticks that were worked out
pub after-seconds : (t : List ℕ) (party id : ℕ) (x : Float) (routine user_data rate n : ℕ) (o : Outcome) → rate ≡ ticks_per_second t → n ≡ (converted x rate).ticks
    → o ≡ outcome t (fire_after party id n routine user_data) → o ≡ started_after t party id (converted x (ticks_per_second t)) routine user_data
after-seconds t party id x routine user_data rate n o r e is =
    is
    ∙ ap (λ (k : ℕ). outcome t (fire_after party id k routine user_data)) (e ∙ ap (λ (k : ℕ). (converted x k).ticks) r)
    ∙ after-ticks t party id x routine user_data

-- ---- ticks and dates

pub given-ticks : GivenTicks
given-ticks t party id n routine user_data = refl

pub given-date : GivenDate
given-date t party id w routine user_data = refl

-- ---- by the value of the number

pub taken-seconds : TakenSeconds
taken-seconds t party id x routine user_data n taken = rw ((is-exact x (ticks_per_second t)).takes n taken) refl

pub refused-seconds : RefusedSeconds
refused-seconds t party id x routine user_data ok known none = rw ((is-exact x (ticks_per_second t)).refuses none, ok, known) refl

zero-taken : (negative : Bool) (e : ℤ) (rate : ℕ) → 1 ≤ rate → rate ≤ 1000 → Taken (fin negative 0 e) rate 0
zero-taken negative e rate low high =
    let none : 0 * up e * rate ≡ 0 = ap (λ (n : ℕ). n * rate) (zero-mul (up e)) ∙ zero-mul rate in
    record {
      has = ((λ _. refl), record { enough = omega (arith, none); least = λ m _. omega arith });
      few = omega arith;
      low = low;
      high = high;
    }

pub zero-seconds : ZeroSeconds
zero-seconds t party id negative e routine user_data ok known =
    let head = sound-header t ok in
    taken-seconds t party id (fin negative 0 e) routine user_data 0 (zero-taken negative e (ticks_per_second t) head.per-low head.per-high)
    ∙ no-ticks-refused t party id routine user_data
    ∙ rw (ok, known) refl

-- ---- whatever the delay

pub unsound-first : UnsoundFirst
unsound-first t party id (Ticks n) routine user_data bad = sym (refuses t (fire_after party id n routine user_data) NotSound 0 tt (ap not bad) refl)
unsound-first t party id (Seconds x) routine user_data bad =
    sym (after-ticks t party id x routine user_data)
    ∙ sym (refuses t (fire_after party id (converted x (ticks_per_second t)).ticks routine user_data) NotSound 0 tt (ap not bad) refl)
unsound-first t party id (Date w) routine user_data bad = sym (refuses t (fire_when party id w routine user_data) NotSound 0 tt (ap not bad) refl)

pub party-next : PartyNext
party-next t party id (Ticks n) routine user_data ok none =
    sym (refuses t (fire_after party id n routine user_data) InvalidId 1 (ap not ok, tt) (ap not none) refl)
party-next t party id (Seconds x) routine user_data ok none =
    sym (after-ticks t party id x routine user_data)
    ∙ sym (refuses t (fire_after party id (converted x (ticks_per_second t)).ticks routine user_data) InvalidId 1 (ap not ok, tt) (ap not none) refl)
party-next t party id (Date w) routine user_data ok none =
    sym (refuses t (fire_when party id w routine user_data) InvalidId 1 (ap not ok, tt) (ap not none) refl)
