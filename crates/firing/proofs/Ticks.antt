-- A tick and a set clock, from the steps that the code takes: each step leaves a state written over the table, which is read back before the
-- next, and both firings together write one list. Assumes nothing.
use mathlib.Core.Path.{◌≡◌, refl, sym, ap, ap₂, ◌∙◌}
use Prim.Native.Nat.{ℕ, ◌+◌, ◌*◌, ◌≤◌, ◌<◌}
use native.Mathlib.Omega.{arith}
use mathlib.Core.Bool.{true, false, not}
use mathlib.Core.List.{List, [], ◌∷◌, ◌++◌, map, map-append}
use lib.ListN.{length, length-append, length-map}
use lib.Seq.{sets}
use lib.Dec.{leb}
use Rattle.model.specs.declared.Chain.{Chain}
use Rattle.model.specs.declared.Chain.TheVariants.{ByTicks, ByDate, Queue}
use Rattle.model.specs.Kinds.{same_chain, for_server}
use Rattle.model.specs.State.{Slot, Link, Clock, State, Fired, chain_of, with_clock, slot_at, listed}
use Rattle.model.specs.Directives.{due, fire, without_server, nearer, clock_at, clock_step, Effect, firing}
use Rattle.model.specs.Words.{read, written_over, slot_count, seconds, ticks_into}
use Rattle.model.specs.Sound.{sound}
use Rattle.model.specs.Outcome.{entry_words, written}
use Rattle.laws.proofs.ListLaws.{clash, all, keep-on, keep_append, length-keep}
use Rattle.laws.proofs.WellFormed.{Chained, Holds}
use Rattle.laws.proofs.Chains.{fits, fit-both}
use Rattle.laws.proofs.ReadBack.{slots_length}
use Rattle.laws.proofs.KindLaws.{again-not-dated}
use Rattle.laws.proofs.Slots.{Memo, memo}
use Rattle.laws.proofs.Steps.{memo-fire, fire-clock, fire-elsewhere, chained-nearer, chained-with-clock}
use Rattle.laws.proofs.SoundHolds.{sound-holds, sound-well-formed}
use Rattle.links.proofs.NextState.{Next, next_start, next-read, next-holds, next-then}
use Rattle.links.specs.Places.{last_slot}
use Rattle.firing.specs.Lists.{EndsAt, Room, due_listed, Fires, Leaves}
use Rattle.firing.proofs.TwoRounds.{is_server_at}
use Rattle.laws.proofs.ListWords.{entries-append, length-entries}
use Rattle.firing.proofs.Entries.{sets-append, sets-written, same_entries}
use Rattle.firing.proofs.BothRounds.{next-fires, fires-list-length}

-- server timers left out

length_without : (sl : List Slot) (ws : List Link) → length (without_server sl ws) ≤ length ws
length_without sl ws = length-keep (λ w. not (is_server_at sl w)) ws

same-listed : (sl sl' : List Slot) → ((j : ℕ) → memo (slot_at sl' j) ≡ memo (slot_at sl j)) → (ws : List Link) → without_server sl' ws ≡ without_server sl ws
same-listed sl sl' same ws =
    keep-on (λ w. not (is_server_at sl' w)) (λ w. not (is_server_at sl w)) ws (all (λ w. ap (λ (m : Memo). not (for_server m.last)) (same w.slot)) ws)

-- ---- the whole call

-- A tick that fires interval timers with so many ticks left and dated ones up to a second; a set clock that fires one chain up to a limit.
-- The model's tick fires at 0 ticks left and up to its clock's second, its set clock the dated chain up to the second given.
abbrev pub ticked_to : ℕ → ℕ → State → Effect
ticked_to limit second s =
    let near = nearer s in
    let later = with_clock (fire ByTicks limit near) (clock_step s.clock) in
    firing (fire ByDate second later) (without_server s.slots (due ByTicks limit near ++ due ByDate second later))

abbrev pub moved_to : Chain → ℕ → State → ℕ → ℕ → Effect
moved_to k limit s second into =
    let later = with_clock s (clock_at s.clock second into) in firing (fire k limit later) (without_server s.slots (due k limit later))

module _ (t list : List ℕ) (ok : sound t ≡ true) (long : 3 * slot_count t ≤ length list) {end : ℕ} (ends : EndsAt t end) where
  start : Next t (read t) t
  start = next_start (sound-holds t ok)

  chained : Chained (read t)
  chained = (sound-holds t ok).chained

  -- whatever is due of one chain has room behind n entries, where that chain and they are no more than the slots
  room_for : {s : State} {u : List ℕ} → Next t s u → (k : Chain) → same_chain Queue k ≡ false → (limit n : ℕ) → (k ≡ ByTicks → limit ≡ 0) → {last : ℕ} → last ≡ last_slot 0 s.queue
      → (l : List ℕ) → length l ≡ length list → n + length (chain_of k s) ≤ length (read t).slots → Room k u l limit n last
  room_for {s} {u} x k apart limit n none at l e p =
      let same = ap (λ (z : State). length (due k limit z)) (next-read x) in
      let some = length-keep (λ w. leb w.wait limit) (chain_of k s) in
      record {
        none_left = none;
        waits = apart;
        last = at ∙ ap (λ (z : State). last_slot 0 z.queue) (sym (next-read x));
        fits = omega (arith, same, some, slots_length t, long);
        few = omega (arith, same, some, chained.few);
      }

  -- the fired list, written at once
  at_once : (ws : List Link) → length ws ≤ length (read t).slots
      → sets list 0 (entry_words (map (listed (read t).slots) ws)) ≡ written (map (listed (read t).slots) ws) list
  at_once ws p =
      sets-written (map (listed (read t).slots) ws) list (omega (arith, length-map ws (listed (read t).slots), slots_length t, long))

  -- ---- a tick, whatever the limits up to which it fires

  module _ {u₁ : List ℕ} (e₁ : u₁ ≡ written_over (nearer (read t)) t) where
    after-nearer : Next t (nearer (read t)) u₁
    after-nearer = next-then start nearer (chained-nearer (read t) chained) refl e₁

    few-both : length (nearer (read t)).ticking + length (read t).dated ≤ length (read t).slots
    few-both = fit-both (nearer (read t)) (chained-nearer (read t) chained)

    pub nearer-room : (limit : ℕ) → limit ≡ 0 → Room ByTicks u₁ list limit 0 end
    nearer-room limit none = room_for after-nearer ByTicks refl limit 0 (λ _. none) ends list refl (omega (arith, few-both))

    module _ {limit n last : ℕ} {u₂ list₂ : List ℕ} (f₁ : Fires ByTicks u₁ list limit 0 n last u₂ list₂) where
      after_first : Next t (fire ByTicks limit (nearer (read t))) u₂
      after_first = next-fires after-nearer f₁

      pub first_holds : Holds u₂ (read u₂)
      first_holds = next-holds after_first

      -- firing leaves the clock
      first-clock : (read u₂).clock ≡ (read t).clock
      first-clock = ap (λ (z : State). z.clock) (next-read after_first) ∙ fire-clock ByTicks limit (nearer (read t))

      pub first-into : ticks_into u₂ < 1000
      first-into =
          let w = sound-well-formed t ok in omega (arith, ap (λ (c : Clock). c.ticks_into) first-clock, w.into, w.per-high)

      first_count : n ≡ length (due_listed ByTicks limit (nearer (read t)))
      first_count = omega (arith, f₁.count, ap (λ (z : State). length (due_listed ByTicks limit z)) (next-read after-nearer))

      first-few : n ≤ length (nearer (read t)).ticking
      first-few =
          omega (
            arith,
            first_count,
            length_without (read t).slots (due ByTicks limit (nearer (read t))),
            length-keep (λ w. leb w.wait limit) (nearer (read t)).ticking,
          )

      first-entries : list₂ ≡ sets list 0 (entry_words (map (listed (read t).slots) (due_listed ByTicks limit (nearer (read t)))))
      first-entries =
          f₁.entries ∙ ap (λ (z : State). sets list (3 * 0) (entry_words (map (listed z.slots) (due_listed ByTicks limit z)))) (next-read after-nearer)

      module _ {u₃ : List ℕ} (e₃ : u₃ ≡ written_over (with_clock (read u₂) (clock_step (read u₂).clock)) u₂) where
        -- the state in which dated timers fire
        abbrev later : State
        later = with_clock (fire ByTicks limit (nearer (read t))) (clock_step (read t).clock)

        after-clock : Next t (with_clock (fire ByTicks limit (nearer (read t))) (clock_step (read t).clock)) u₃
        after-clock =
            next-then after_first (λ z. with_clock z (clock_step (read t).clock))
            (chained-with-clock (fire ByTicks limit (nearer (read t))) (clock_step (read t).clock) after_first.holds.chained) refl
            (e₃ ∙ ap (λ (c : Clock). written_over (with_clock (read u₂) (clock_step c)) u₂) first-clock)

        -- no dated timer came or went
        later-dated : later.dated ≡ (read t).dated
        later-dated =
            fire-elsewhere ByTicks limit (nearer (read t)) (chained-nearer (read t) chained) ByDate (λ n _. again-not-dated n) refl

        later-memo : (j : ℕ) → memo (slot_at later.slots j) ≡ memo (slot_at (read t).slots j)
        later-memo = memo-fire ByTicks limit (nearer (read t))

        pub clock-long : 10 ≤ length u₃
        clock-long = omega (arith, (next-holds after-clock).long)

        pub clock-room : (second : ℕ) → Room ByDate u₃ list₂ second n last
        clock-room second =
            room_for after-clock ByDate refl second n (λ e. clash (sym (ap (same_chain ByTicks) e))) (f₁.last ∙ ap (λ (z : State). last_slot 0 z.queue) (next-read after_first))
            list₂ (fires-list-length f₁)
            (omega (arith, first-few, few-both, ap length later-dated))

        pub second_is : seconds u₃ ≡ (clock_step (read t).clock).second
        second_is = ap (λ (z : State). z.clock.second) (next-read after-clock)

        pub ticked-is : {second m last' : ℕ} {u₄ list₄ : List ℕ} → Fires ByDate u₃ list₂ second n m last' u₄ list₄
            → Leaves t list (ticked_to limit second (read t)) m u₄ list₄
        ticked-is {second} {m} {last'} {u₄} {list₄} f₃ =
            let s = read t in
            let first = due_listed ByTicks limit (nearer s) in
            let then = without_server s.slots (due ByDate second later) in
            let same : due_listed ByDate second later ≡ then = same-listed s.slots later.slots later-memo (due ByDate second later) in
            let g = listed s.slots in
            let all-due = without_server s.slots (due ByTicks limit (nearer s) ++ due ByDate second later) in
            let parts : all-due ≡ first ++ then = keep_append (λ w. not (is_server_at s.slots w)) (due ByTicks limit (nearer s)) (due ByDate second later) in
            let number : m ≡ length all-due =
            omega (
              arith,
              f₃.count,
              first_count,
              ap (λ (z : State). length (due_listed ByDate second z)) (next-read after-clock),
              ap length same,
              ap length parts,
              length-append first then,
            ) in
            let place : 3 * n ≡ 0 + length (entry_words (map g first)) =
            omega (arith, first_count, length-entries (map g first), length-map first g) in
            record {
              table = (next-fires after-clock f₃).is;
              answer = λ j. number j ∷ [];
              entries = f₃.entries
                  ∙ ap (λ (z : State). sets list₂ (3 * n) (entry_words (map (listed z.slots) (due_listed ByDate second z)))) (next-read after-clock)
                  ∙ ap (λ (ws : List Link). sets list₂ (3 * n) (entry_words (map (listed later.slots) ws))) same
                  ∙ ap₂ (λ (l : List ℕ) (es : List Fired). sets l (3 * n) (entry_words es)) first-entries (same_entries s.slots later.slots later-memo then)
                  ∙ ap (λ (x : ℕ). sets (sets list 0 (entry_words (map g first))) x (entry_words (map g then))) place
                  ∙ sets-append list 0 (entry_words (map g first)) (entry_words (map g then))
                  ∙ ap (sets list 0) (sym (ap (λ (ws : List Link). entry_words (map g ws)) parts ∙ ap entry_words (map-append g first then)
                  ∙ entries-append (map g first) (map g then)))
                  ∙ at_once all-due (omega (
                    arith,
                    first-few,
                    first_count,
                    length_without s.slots (due ByDate second later),
                    length-keep (λ w. leb w.wait second) later.dated,
                    ap length later-dated,
                    few-both,
                    ap length parts,
                    length-append first then,
                  ));
            }

  -- ---- a set clock, whatever it fires then

  module _ (second into : ℕ) {u₁ : List ℕ} (e₁ : u₁ ≡ written_over (with_clock (read t) (clock_at (read t).clock second into)) t) where
    after-set : Next t (with_clock (read t) (clock_at (read t).clock second into)) u₁
    after-set =
        next-then start (λ z. with_clock z (clock_at z.clock second into))
        (chained-with-clock (read t) (clock_at (read t).clock second into) chained) refl e₁

    few-one : (k : Chain) → length (chain_of k (with_clock (read t) (clock_at (read t).clock second into))) ≤ length (read t).slots
    few-one = fits (with_clock (read t) (clock_at (read t).clock second into)) after-set.holds.chained

    pub moved-room : (k : Chain) → same_chain Queue k ≡ false → (limit : ℕ) → (k ≡ ByTicks → limit ≡ 0) → Room k u₁ list limit 0 end
    moved-room k apart limit none = room_for after-set k apart limit 0 none ends list refl (omega (arith, few-one k))

    pub moved-is : {k : Chain} {limit m last : ℕ} {u₂ list₂ : List ℕ} → Fires k u₁ list limit 0 m last u₂ list₂
        → Leaves t list (moved_to k limit (read t) second into) m u₂ list₂
    moved-is {k} {limit} {m} {last} {u₂} {list₂} f =
        let later = with_clock (read t) (clock_at (read t).clock second into) in
        let number : m ≡ length (due_listed k limit later) =
        omega (arith, f.count, ap (λ (z : State). length (due_listed k limit z)) (next-read after-set)) in
        record {
          table = (next-fires after-set f).is;
          answer = λ j. number j ∷ [];
          entries = f.entries
              ∙ ap (λ (z : State). sets list (3 * 0) (entry_words (map (listed z.slots) (due_listed k limit z)))) (next-read after-set)
              ∙ at_once (due_listed k limit later) (omega (
                arith,
                length_without (read t).slots (due k limit later),
                length-keep (λ w. leb w.wait limit) (chain_of k later),
                few-one k,
              ));
        }
