-- What is known of a recording that is taken: every word of it is right; its numbers, how many words its calls and statuses have, and that its calls
-- have numbers of calls. Assumes nothing.
use mathlib.Core.Path.{◌≡◌, refl, sym, ap, ◌∙◌}
use Prim.Native.Nat.{ℕ, zero, suc, ◌+◌, ◌*◌, ◌≤◌, ◌<◌}
use native.Mathlib.Nat.{add-zero}
use native.Mathlib.Omega.{arith}
use mathlib.Core.Bool.{true, false, ◌&&◌}
use mathlib.Core.List.{List, ◌++◌}
use lib.ListN.{length, get_or, drop, length-drop}
use lib.Seq.{get_or-drop, drop-drop, length-take-le}
use lib.Dec.{eqb}
use borrow.Author.Tests.{eqb-true}
use Rattle.laws.proofs.ListLaws.{cases, both}
use Rattle.recording.specs.declared.Recording.{Recording}
use Rattle.std.specs.Prelude.{Ok}
use Rattle.recording.specs.Format.{within, words_of, call_rules, calls_rules, layout, right, Read, reading_of, reading, given, calls_in, statuses_in}
use Rattle.recording.proofs.Right.{right-at, right-whole, within-true}
use Rattle.recording.proofs.Reach.{call_length, calls-length, layout-length, numbers, ending}
use Rattle.recording.proofs.Answers.{by-test, ends, few-calls}
use Rattle.recording.proofs.ByteWords.{words-length}

-- ---- words that are taken

pub record Took (size : ℕ) (ws : List ℕ) : Type 0 where
  pub numbered : right numbers ws ≡ 4
  pub called : right (calls_rules (get_or ws 3 0) (drop 4 ws)) (drop 4 ws) ≡ 11 * get_or ws 3 0
  pub counted : get_or ws (4 + 11 * get_or ws 3 0) 0 ≡ get_or ws 3 0
  pub sized : size ≡ 4 * (5 + 12 * get_or ws 3 0)

-- every word is right, and the bytes end there
pub all_right : (size : ℕ) (ws : List ℕ) → (reading_of size ws).status ≡ 0
    → (right (layout ws) ws ≡ length (layout ws)) × (size ≡ 4 * right (layout ws) ws)
all_right size ws e =
    let p = right (layout ws) ws in
    let a = eqb p (length (layout ws)) in
    let b = eqb size (4 * p) in
    cases (a && b)
    (λ t. let f = both a b t in (eqb-true p (length (layout ws)) f.0, eqb-true size (4 * p) f.1))
    (λ t. let z : 10 ≡ 0 = sym (ap (λ (r : Read). r.status) (by-test size ws false p refl t)) ∙ e in absurd (omega arith))

pub took : (size : ℕ) (ws : List ℕ) → (reading_of size ws).status ≡ 0 → Took size ws
unfolding layout
took size ws e =
    let c = get_or ws 3 0 in
    let calls = calls_rules c (drop 4 ws) in
    let all = all_right size ws e in
    let l = layout-length ws in
    let first = right-whole numbers (calls ++ ending c) ws all.0 in
    let second = right-whole calls (ending c) (drop 4 ws) first.1 in
    let m = calls-length c (drop 4 ws) in
    let at : drop (length calls) (drop 4 ws) ≡ drop (4 + 11 * c) ws = ap (λ (n : ℕ). drop n (drop 4 ws)) m ∙ drop-drop (11 * c) 4 ws in
    let third : right (ending c) (drop (4 + 11 * c) ws) ≡ length (ending c) = sym (ap (right (ending c)) at) ∙ second.1 in
    let zero-th = right-at (ending c) (drop (4 + 11 * c) ws) third 0 (omega arith) in
    let value = within-true c c (get_or (drop (4 + 11 * c) ws) 0 0) zero-th in
    let same = get_or-drop (4 + 11 * c) ws 0 0 ∙ ap (λ (n : ℕ). get_or ws n 0) (add-zero (4 + 11 * c)) in
    record {
      numbered = first.0;
      called = second.0 ∙ m;
      counted = omega arith;
      sized = all.1 ∙ ap (λ (n : ℕ). 4 * n) (all.0 ∙ l);
    }

-- ---- the number of a call

known : (n : ℕ) (d : List ℕ) → right (call_rules n) d ≡ length (call_rules n) → within 2 19 (get_or d 0 0) ≡ true
unfolding call_rules
known n d e = right-at (call_rules n) d e 0 (omega arith)

calls-known : (m : ℕ) (d : List ℕ) → right (calls_rules m d) d ≡ length (calls_rules m d) → (k : ℕ) → k < m → within 2 19 (get_or d (11 * k) 0) ≡ true
unfolding calls_rules
calls-known zero d e k h = absurd (omega arith)
calls-known (suc m) d e zero h =
    let w = right-whole (call_rules (get_or d 0 0)) (calls_rules m (drop 11 d)) d e in known (get_or d 0 0) d w.0
calls-known (suc m) d e (suc k) h =
    let w = right-whole (call_rules (get_or d 0 0)) (calls_rules m (drop 11 d)) d e in
    let l = call_length (get_or d 0 0) in
    let later = calls-known m (drop 11 d) (sym (ap (λ (i : ℕ). right (calls_rules m (drop 11 d)) (drop i d)) l) ∙ w.1) k (omega arith) in
    let z : 11 + 11 * k ≡ 11 * suc k = omega arith in
    sym (ap (within 2 19) (get_or-drop 11 d (11 * k) 0 ∙ ap (λ (i : ℕ). get_or d i 0) z)) ∙ later

-- ---- all of it

pub record Held (ws : List ℕ) : Type 0 where
  pub few : get_or ws 3 0 ≤ 1000
  pub slots-least : 1 ≤ get_or ws 1 0
  pub slots-most : get_or ws 1 0 ≤ 255
  pub calls-long : length (calls_in ws) ≡ 11 * get_or ws 3 0
  pub statuses-long : length (statuses_in ws) ≡ get_or ws 3 0
  pub long : length ws ≡ 5 + 12 * get_or ws 3 0
  pub number : (k : ℕ) → k < get_or ws 3 0 → within 2 19 (get_or ws (4 + 11 * k) 0) ≡ true

pub held : (bytes : List ℕ) → (reading bytes).status ≡ 0 → Held (words_of bytes)
held bytes e =
    let ws = words_of bytes in
    let c = get_or ws 3 0 in
    let k = took (length bytes) ws e in
    let l = words-length bytes in
    let s = k.sized in
    let t = length-drop 4 ws in
    let u = length-drop (5 + 11 * c) ws in
    let slots = within-true 1 255 (get_or ws 1 0) (right-at numbers ws k.numbered 1 (omega arith)) in
    record {
      few = few-calls ws k.numbered;
      slots-least = slots.0;
      slots-most = slots.1;
      calls-long = length-take-le (11 * c) (drop 4 ws) (omega arith);
      statuses-long = omega arith;
      long = omega arith;
      number = λ i h. sym (ap (within 2 19) (get_or-drop 4 ws (11 * i) 0)) ∙ calls-known c (drop 4 ws) (k.called ∙ sym (calls-length c (drop 4 ws))) i h;
    }

-- the numbers that the reader gave
pub record Numbers (r : Recording) (ws : List ℕ) : Type 0 where
  pub slots-is : r.slots ≡ get_or ws 1 0
  pub rate-is : r.rate ≡ get_or ws 2 0
  pub calls_is : r.calls ≡ get_or ws 3 0

pub status-taken : (bytes : List ℕ) (r : Recording) → given (Ok r) ≡ reading bytes → (reading bytes).status ≡ 0
status-taken bytes r e = sym (ap (λ (x : Read). x.status) e)

pub numbers-taken : (bytes : List ℕ) (r : Recording) → given (Ok r) ≡ reading bytes → Numbers r (words_of bytes)
numbers-taken bytes r e =
    let ws = words_of bytes in
    let z = status-taken bytes r e in
    let k = took (length bytes) ws z in
    let a = all_right (length bytes) ws z in
    let s = k.sized in
    let w = ends (length bytes) ws (right (layout ws) ws) refl (omega arith) a.1 in
    let same = e ∙ sym w in
    record { slots-is = ap (λ (x : Read). x.slots) same; rate-is = ap (λ (x : Read). x.rate) same; calls_is = ap (λ (x : Read). x.calls) same }
