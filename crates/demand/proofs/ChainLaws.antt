-- The chain that the events give, as it is shown, after an event at which nothing of it comes due, and after a start. Assumes nothing.
use mathlib.Core.Path.{◌≡◌, refl, ap, ap₂, ◌∙◌}
use Prim.Native.Nat.{ℕ}
use native.Mathlib.Nat.{zero-mod}
use native.Mathlib.Omega.{arith}
use mathlib.Core.Bool.{Bool, true, false, cond, not, ◌&&◌, and-true, and-false}
use mathlib.Core.Option.{some}
use mathlib.Core.List.{List, [], ◌∷◌, ◌++◌, map, append-nil}
use lib.Dec.{eqb}
use Rattle.model.specs.Lists.{keep, place, All}
use Rattle.model.specs.declared.Chain.{Chain}
use Rattle.model.specs.declared.Chain.TheVariants.{ByTicks, ByDate, Queue}
use Rattle.model.specs.declared.Mode.{Mode}
use Rattle.model.specs.declared.Mode.TheVariants.{After, When, Every, ServerAfter, ServerWhen}
use Rattle.model.specs.Kinds.{chain_for, same_chain, interval_in}
use Rattle.demand.specs.History.{Start, Event, changes, is_tick, moves_clock, Placed, starts, ends, remaining, Waiting, waiting}
use Rattle.laws.proofs.ListLaws.{all, keep-on, keep-none}
use Rattle.laws.proofs.Order.{order_on}
use Rattle.laws.proofs.KindLaws.{periodic}
use Rattle.demand.proofs.HistoryLaws.{Sized, due_now, lowered, renewed, chain_from, remains, returns, fresh, chain_more}

-- the event can bring timers of the chain due: a tick those by ticks, whatever moves the clock those by date
abbrev pub brings_due : Chain → Event → Bool
brings_due ByTicks e = is_tick e
brings_due ByDate e = moves_clock e
brings_due Queue e = false

lowered-same : (k : Chain) (e : Event) → brings_due k e ≡ false → (w : Waiting) → lowered k e w ≡ w
lowered-same ByTicks e calm w =
    ap {B = Waiting} (λ (n : ℕ). record { shows = w.shows; mode = w.mode; interval = w.interval; wait = n }) (rw calm (omega arith))
lowered-same ByDate e calm w = refl
lowered-same Queue e calm w = refl

pub not-due : (k : Chain) (e : Event) → brings_due k e ≡ false → (h : List Event) (w : Waiting) → due_now k e h w ≡ false
not-due ByTicks e calm h w = rw calm
not-due ByDate e calm h w = rw calm
not-due Queue e calm h w = refl

pub map_same : (f : Waiting → Waiting) → ((w : Waiting) → f w ≡ w) → (l : List Waiting) → map f l ≡ l
map_same f h [] = refl
map_same f h (w ∷ ws) = rw (h w, map_same f h ws)

-- an event that starts no timer of this chain
pub chain-moved : (k : Chain) (h : List Event) → All Sized (starts h) → (e : Event) → fresh k e h ≡ []
    → chain_from k (e ∷ h)
    ≡ order_on (λ w. w.wait) (map (lowered k e) (keep (remains k e h) (chain_from k h))) (map renewed (keep (returns k e h) (chain_from k h)))
chain-moved k h sized e n =
    let L = map (lowered k e) (keep (remains k e h) (chain_from k h)) in
    let R = map renewed (keep (returns k e h) (chain_from k h)) in
    chain_more k h sized e ∙ ap (λ (l : List Waiting). order_on (λ w. w.wait) L (R ++ l)) n ∙ ap (order_on (λ w. w.wait) L) (append-nil R)

module _ (k : Chain) (h : List Event) (sized : All Sized (starts h)) (e : Event) (calm : brings_due k e ≡ false) where
  only-ends : (l : List Waiting) → map (lowered k e) (keep (remains k e h) l) ≡ keep (λ w. not (ends w.shows.id e)) l
  only-ends l =
      map_same (lowered k e) (lowered-same k e calm) (keep (remains k e h) l)
      ∙ keep-on (remains k e h) (λ w. not (ends w.shows.id e)) l
      (all (λ w. ap (λ (b : Bool). not (ends w.shows.id e) && not b) (not-due k e calm h w) ∙ and-true (not (ends w.shows.id e))) l)

  none-back : keep (returns k e h) (chain_from k h) ≡ []
  none-back = keep-none (returns k e h) (chain_from k h) (all (λ w.
      ap (λ (b : Bool). not (ends w.shows.id e) && (periodic w.mode && b)) (not-due k e calm h w)
      ∙ ap (λ (b : Bool). not (ends w.shows.id e) && b) (and-false (periodic w.mode)) ∙ and-false (not (ends w.shows.id e))) (chain_from k h))

  -- an event at which nothing comes due
  chain-quiet : chain_from k (e ∷ h) ≡ order_on (λ w. w.wait) (keep (λ w. not (ends w.shows.id e)) (chain_from k h)) (fresh k e h)
  chain-quiet =
      chain_more k h sized e
      ∙ ap₂ (λ (l m : List Waiting). order_on (λ w. w.wait) l (map renewed m ++ fresh k e h)) (only-ends (chain_from k h)) none-back

  -- and which starts no timer of this chain
  pub chain-calm : fresh k e h ≡ [] → chain_from k (e ∷ h) ≡ keep (λ w. not (ends w.shows.id e)) (chain_from k h)
  chain-calm n = chain-quiet ∙ ap (order_on (λ w. w.wait) (keep (λ w. not (ends w.shows.id e)) (chain_from k h))) n

-- ---- a start

-- what a new start shows
abbrev pub begins : Start → Waiting
begins s = record {
  shows = record { id = s.id; routine = s.routine; user_data = s.user_data };
  mode = some s.mode;
  interval = interval_in (chain_for s.mode) s.amount;
  wait = s.amount;
}

amount-left : (m : Mode) (n : ℕ) → remaining m n 0 ≡ n
amount-left After n = omega arith
amount-left When d = refl
amount-left Every n = omega (arith, zero-mod n)
amount-left ServerAfter n = omega arith
amount-left ServerWhen d = refl

module _ (k : Chain) (h : List Event) (sized : All Sized (starts h)) (id : ℕ) (s : Start) where
  abbrev e : Event
  e = changes id (some s)

  abbrev x : Placed
  x = record { begun = s; before = e ∷ h; after = [] }

  calm : (k : Chain) → brings_due k e ≡ false
  calm ByTicks = refl
  calm ByDate = refl
  calm Queue = refl

  pub chain-start : same_chain k (chain_for s.mode) ≡ true
      → chain_from k (changes id (some s) ∷ h) ≡ place (λ w. w.wait) (begins s) (keep (λ w. not (eqb id w.shows.id)) (chain_from k h))
  chain-start here =
      let others = keep (λ w. not (eqb id w.shows.id)) (chain_from k h) in
      chain-quiet k h sized e (calm k)
      ∙ ap (λ (b : Bool). order_on (λ w. w.wait) others (map waiting (cond b (x ∷ []) []))) here
      ∙ ap (λ (n : ℕ). place (λ w. w.wait)
      (record { shows = (begins s).shows; mode = (begins s).mode; interval = (begins s).interval; wait = n }) others) (amount-left s.mode s.amount)

  chain-elsewhere : same_chain k (chain_for s.mode) ≡ false
      → chain_from k (changes id (some s) ∷ h) ≡ keep (λ w. not (eqb id w.shows.id)) (chain_from k h)
  chain-elsewhere away = chain-calm k h sized e (calm k) (ap (λ (b : Bool). map waiting (cond b (x ∷ []) [])) away)
