-- How far the words of a call, of so many calls and of a whole recording are right. Assumes nothing.
use mathlib.Core.Path.{◌≡◌, refl, sym, ap, ◌∙◌}
use Prim.Native.Nat.{ℕ, zero, suc, ◌+◌, ◌-◌, ◌*◌, ◌≤◌, ◌<◌}
use native.Mathlib.Numerals.{add-one}
use native.Mathlib.Omega.{arith}
use mathlib.Core.Bool.{Bool, true, false, ◌&&◌}
use mathlib.Core.List.{List, [], ◌∷◌, ◌++◌}
use lib.ListN.{length, get_or, drop, replicate, length-append, length-replicate, length-drop, get_or-append}
use lib.Seq.{drop-drop, drop-append-le}
use lib.Dec.{leb, ltb}
use borrow.Author.Tests.{leb-true, ltb-true, le-leb, lt-leb}
use Rattle.model.specs.Lists.{every}
use Rattle.laws.proofs.ListLaws.{both}
use Rattle.recording.specs.Format.{Rule, within, exactly, anything, argument_counts, arguments, call_rules, calls_rules, layout, right}
use Rattle.recording.proofs.Right.{right-rules, right-on, right-off, passes, fails, any-all, any-short, test_low, test-most}

-- ---- the test of a word that is there

module _ (ws : List ℕ) (p : ℕ) (h : p < length ws) where
  pub test-true : (least most : ℕ) → least ≤ get_or ws p 0 → get_or ws p 0 ≤ most → (ltb p (length ws) && within least most (get_or ws p 0)) ≡ true
  test-true least most l m = sym (test-most ws p least most (get_or ws p 0) h refl l) ∙ le-leb (get_or ws p 0) most m

  pub test_below : (least most : ℕ) → get_or ws p 0 < least → (ltb p (length ws) && within least most (get_or ws p 0)) ≡ false
  test_below least most l = sym (test_low ws p least most (get_or ws p 0) h refl l)

  pub test-above : (least most : ℕ) → least ≤ get_or ws p 0 → most < get_or ws p 0 → (ltb p (length ws) && within least most (get_or ws p 0)) ≡ false
  test-above least most l m = sym (test-most ws p least most (get_or ws p 0) h refl l) ∙ lt-leb (get_or ws p 0) most m

-- ---- a run of zeros

module _ (ws : List ℕ) (p to : ℕ) (h : p < to) where
  to-go : to - p ≡ suc (to - (p + 1))
  to-go = omega arith

  pub zeros-off : (ltb p (length ws) && exactly 0 (get_or ws p 0)) ≡ false → right (replicate (to - p) (exactly 0)) (drop p ws) ≡ 0
  zeros-off e = ap (λ (m : ℕ). right (replicate m (exactly 0)) (drop p ws)) to-go ∙ fails (exactly 0) (replicate (to - (p + 1)) (exactly 0)) ws p e

  pub zeros-on : (ltb p (length ws) && exactly 0 (get_or ws p 0)) ≡ true
      → right (replicate (to - p) (exactly 0)) (drop p ws) ≡ suc (right (replicate (to - (p + 1)) (exactly 0)) (drop (p + 1) ws))
  zeros-on e =
      ap (λ (m : ℕ). right (replicate m (exactly 0)) (drop p ws)) to-go ∙ passes (exactly 0) (replicate (to - (p + 1)) (exactly 0)) ws p e
      ∙ ap (λ (q : ℕ). suc (right (replicate (to - (p + 1)) (exactly 0)) (drop q ws))) (sym (add-one p))

pub zeros-none : (ws : List ℕ) (p to : ℕ) → to ≤ p → right (replicate (to - p) (exactly 0)) (drop p ws) ≡ 0
unfolding right
zeros-none ws p to h = let z : to - p ≡ 0 = omega arith in ap (λ (m : ℕ). right (replicate m (exactly 0)) (drop p ws)) z

-- ---- a call

few : (xs : List ℕ) (k : ℕ) → every (λ x. leb x 10) xs ≡ true → get_or xs k 0 ≤ 10
few [] zero e = omega arith
few [] (suc k) e = omega arith
few (x ∷ xs) zero e = leb-true x 10 (both (leb x 10) (every (λ y. leb y 10) xs) e).0
few (x ∷ xs) (suc k) e = few xs k (both (leb x 10) (every (λ y. leb y 10) xs) e).1

pub arguments-few : (number : ℕ) → arguments number ≤ 10
unfolding arguments
arguments-few number = few argument_counts (number - 2) refl

pub ruleset few_arguments = (arguments-few)

pub call_length : (number : ℕ) → length (call_rules number) ≡ 11
unfolding call_rules
call_length number =
    let a = arguments number in
    let l = arguments-few number in
    let e = length-append (replicate a anything) (replicate (10 - a) (exactly 0)) in
    let f = length-replicate a anything in
    let g = length-replicate (10 - a) (exactly 0) in
    omega arith

-- after a run of words of any value
pub any-on : (m : ℕ) (rules : List Rule) (ws : List ℕ) → m ≤ length ws → right (replicate m anything ++ rules) ws ≡ m + right rules (drop m ws)
any-on m rules ws h =
    right-on (replicate m anything) rules ws (any-all m ws h ∙ sym (length-replicate m anything))
    ∙ ap (λ (n : ℕ). n + right rules (drop n ws)) (length-replicate m anything)

pub any-off : (m : ℕ) (rules : List Rule) (ws : List ℕ) → length ws < m → right (replicate m anything ++ rules) ws ≡ length ws
any-off m rules ws h =
    let s = any-short m ws (omega arith) in let l = length-replicate m anything in right-off (replicate m anything) rules ws (omega arith) ∙ s

module _ (ws : List ℕ) (at : ℕ) where
  pub call-unknown : (ltb at (length ws) && within 2 19 (get_or ws at 0)) ≡ false → right (call_rules (get_or ws at 0)) (drop at ws) ≡ 0
  unfolding call_rules
  call-unknown e = fails (within 2 19) _ ws at e

  module _ (e : (ltb at (length ws) && within 2 19 (get_or ws at 0)) ≡ true) where
    pub call-short : at < length ws → length ws < at + 1 + arguments (get_or ws at 0)
        → at + right (call_rules (get_or ws at 0)) (drop at ws) ≡ length ws
    unfolding call_rules
    call-short g h =
        let a = arguments (get_or ws at 0) in
        let zeros = replicate (10 - a) (exactly 0) in
        let p = passes (within 2 19) (replicate a anything ++ zeros) ws at e in
        let l = length-drop (suc at) ws in
        let q = any-off a zeros (drop (suc at) ws) (omega arith) in
        omega arith

    pub call-rest : (fill to : ℕ) → fill ≡ at + 1 + arguments (get_or ws at 0) → to ≡ at + 11 → fill ≤ length ws
        → at + right (call_rules (get_or ws at 0)) (drop at ws) ≡ fill + right (replicate (to - fill) (exactly 0)) (drop fill ws)
    unfolding call_rules
    call-rest fill to f t h =
        let a = arguments (get_or ws at 0) in
        let zeros = replicate (10 - a) (exactly 0) in
        let p = passes (within 2 19) (replicate a anything ++ zeros) ws at e in
        let l = length-drop (suc at) ws in
        let q = any-on a zeros (drop (suc at) ws) (omega arith) in
        let n : suc at + a ≡ fill = omega arith in
        let m : 10 - a ≡ to - fill = omega arith in
        let d : right zeros (drop a (drop (suc at) ws)) ≡ right (replicate (to - fill) (exactly 0)) (drop fill ws) =
        ap (right zeros) (drop-drop a (suc at) ws) ∙ (λ j. right (replicate (m j) (exactly 0)) (drop (n j) ws)) in
        omega arith

-- ---- calls

module _ (m : ℕ) (d : List ℕ) where
  pub calls-off : right (call_rules (get_or d 0 0)) d < 11 → right (calls_rules (suc m) d) d ≡ right (call_rules (get_or d 0 0)) d
  unfolding calls_rules
  calls-off h = let l = call_length (get_or d 0 0) in right-off (call_rules (get_or d 0 0)) (calls_rules m (drop 11 d)) d (omega arith)

  pub calls-on : right (call_rules (get_or d 0 0)) d ≡ 11 → right (calls_rules (suc m) d) d ≡ 11 + right (calls_rules m (drop 11 d)) (drop 11 d)
  unfolding calls_rules
  calls-on h =
      right-on (call_rules (get_or d 0 0)) (calls_rules m (drop 11 d)) d (h ∙ sym (call_length (get_or d 0 0)))
      ∙ ap (λ (n : ℕ). n + right (calls_rules m (drop 11 d)) (drop n d)) (call_length (get_or d 0 0))

pub calls-none : (d : List ℕ) → right (calls_rules 0 d) d ≡ 0
unfolding calls_rules right
calls-none d = refl

pub calls-length : (m : ℕ) (d : List ℕ) → length (calls_rules m d) ≡ 11 * m
unfolding calls_rules
calls-length zero d = refl
calls-length (suc m) d =
    let e = length-append (call_rules (get_or d 0 0)) (calls_rules m (drop 11 d)) in
    let f = call_length (get_or d 0 0) in
    let g = calls-length m (drop 11 d) in
    omega arith

pub calls-few : {r : ℕ} (m : ℕ) (d : List ℕ) → r ≡ right (calls_rules m d) d → r ≤ 11 * m
calls-few m d e = omega (arith, right-rules (calls_rules m d) d, calls-length m d)

-- words behind those of the calls
pub calls-front : (m : ℕ) (xs ys : List ℕ) → 11 * m ≤ length xs → calls_rules m (xs ++ ys) ≡ calls_rules m xs
unfolding calls_rules
calls-front zero xs ys h = refl
calls-front (suc m) xs ys h =
    let l = length-drop 11 xs in
    let head = get_or-append xs ys 0 0 (omega arith) in
    let tail = ap (calls_rules m) (drop-append-le 11 xs ys (omega arith)) ∙ calls-front m (drop 11 xs) ys (omega arith) in
    λ j. call_rules (head j) ++ tail j

-- the words of the calls from call k on that are right
abbrev pub rest : List ℕ → ℕ → ℕ → ℕ
rest ws calls k = right (calls_rules (calls - k) (drop (11 * k) ws)) (drop (11 * k) ws)

pub rest-none : (ws : List ℕ) (calls k : ℕ) → calls ≤ k → rest ws calls k ≡ 0
rest-none ws calls k h =
    let z : calls - k ≡ 0 = omega arith in
    ap (λ (m : ℕ). right (calls_rules m (drop (11 * k) ws)) (drop (11 * k) ws)) z ∙ calls-none (drop (11 * k) ws)

module _ (ws : List ℕ) (calls k : ℕ) (h : k < calls) where
  -- the words of call k and those behind
  abbrev d : List ℕ
  d = drop (11 * k) ws

  left : calls - k ≡ suc (calls - (k + 1))
  left = omega arith

  pub rest-off : right (call_rules (get_or d 0 0)) d < 11 → rest ws calls k ≡ right (call_rules (get_or d 0 0)) d
  rest-off e = ap (λ (m : ℕ). right (calls_rules m d) d) left ∙ calls-off (calls - (k + 1)) d e

  pub rest-on : right (call_rules (get_or d 0 0)) d ≡ 11 → rest ws calls k ≡ 11 + rest ws calls (k + 1)
  rest-on e =
      let n : 11 * k + 11 ≡ 11 * (k + 1) = omega arith in
      let later = drop-drop 11 (11 * k) ws ∙ ap (λ (m : ℕ). drop m ws) n in
      ap (λ (m : ℕ). right (calls_rules m d) d) left ∙ calls-on (calls - (k + 1)) d e
      ∙ ap (λ (l : List ℕ). 11 + right (calls_rules (calls - (k + 1)) l) l) later

-- ---- a recording

abbrev pub numbers : List Rule
numbers = exactly 2 ∷ within 1 255 ∷ within 1 1000 ∷ within 0 1000 ∷ []

module _ (ws : List ℕ) where
  -- the test of the word at p
  abbrev tested : ℕ → Rule → Bool
  tested p rule = ltb p (length ws) && rule (get_or ws p 0)

  pub numbers-0 : tested 0 (exactly 2) ≡ false → 0 ≡ right numbers ws
  numbers-0 e = sym (fails (exactly 2) (within 1 255 ∷ within 1 1000 ∷ within 0 1000 ∷ []) ws 0 e)

  module _ (a : tested 0 (exactly 2) ≡ true) where
    after-0 : right numbers ws ≡ suc (right (within 1 255 ∷ within 1 1000 ∷ within 0 1000 ∷ []) (drop 1 ws))
    after-0 = passes (exactly 2) (within 1 255 ∷ within 1 1000 ∷ within 0 1000 ∷ []) ws 0 a

    pub numbers-1 : tested 1 (within 1 255) ≡ false → 1 ≡ right numbers ws
    numbers-1 e = sym (after-0 ∙ ap suc (fails (within 1 255) (within 1 1000 ∷ within 0 1000 ∷ []) ws 1 e))

    module _ (b : tested 1 (within 1 255) ≡ true) where
      after-1 : right numbers ws ≡ suc (suc (right (within 1 1000 ∷ within 0 1000 ∷ []) (drop 2 ws)))
      after-1 = after-0 ∙ ap suc (passes (within 1 255) (within 1 1000 ∷ within 0 1000 ∷ []) ws 1 b)

      pub numbers-2 : tested 2 (within 1 1000) ≡ false → 2 ≡ right numbers ws
      numbers-2 e = sym (after-1 ∙ ap (λ (n : ℕ). suc (suc n)) (fails (within 1 1000) (within 0 1000 ∷ []) ws 2 e))

      module _ (d : tested 2 (within 1 1000) ≡ true) where
        after-2 : right numbers ws ≡ suc (suc (suc (right (within 0 1000 ∷ []) (drop 3 ws))))
        after-2 = after-1 ∙ ap (λ (n : ℕ). suc (suc n)) (passes (within 1 1000) (within 0 1000 ∷ []) ws 2 d)

        pub numbers-3 : tested 3 (within 0 1000) ≡ false → 3 ≡ right numbers ws
        numbers-3 e = sym (after-2 ∙ ap (λ (n : ℕ). suc (suc (suc n))) (fails (within 0 1000) [] ws 3 e))

        pub numbers-4 : tested 3 (within 0 1000) ≡ true → 4 ≡ right numbers ws
        unfolding right
        numbers-4 e = sym (after-2 ∙ ap (λ (n : ℕ). suc (suc (suc n))) (passes (within 0 1000) [] ws 3 e))

-- a word that is tested is there
pub tested-there : (ws : List ℕ) (p : ℕ) (b : Bool) → (ltb p (length ws) && b) ≡ true → p < length ws
tested-there ws p b e = ltb-true p (length ws) (both (ltb p (length ws)) b e).0

abbrev pub ending : ℕ → List Rule
ending calls = exactly calls ∷ replicate calls anything

pub layout-length : (ws : List ℕ) → length (layout ws) ≡ 5 + 12 * get_or ws 3 0
unfolding layout
layout-length ws =
    let c = get_or ws 3 0 in
    let e = length-append (calls_rules c (drop 4 ws)) (ending c) in
    let f = calls-length c (drop 4 ws) in
    let g = length-replicate c anything in
    omega arith

module _ (ws : List ℕ) where
  abbrev c : ℕ
  c = get_or ws 3 0

  pub at-numbers : right numbers ws < 4 → right (layout ws) ws ≡ right numbers ws
  unfolding layout
  at-numbers h = right-off numbers (calls_rules c (drop 4 ws) ++ ending c) ws h

  module _ (n : right numbers ws ≡ 4) where
    past-numbers : right (layout ws) ws ≡ 4 + right (calls_rules c (drop 4 ws) ++ ending c) (drop 4 ws)
    unfolding layout
    past-numbers = right-on numbers (calls_rules c (drop 4 ws) ++ ending c) ws n

    pub at-calls : right (calls_rules c (drop 4 ws)) (drop 4 ws) < 11 * c → right (layout ws) ws ≡ 4 + right (calls_rules c (drop 4 ws)) (drop 4 ws)
    at-calls h =
        let l = calls-length c (drop 4 ws) in
        past-numbers ∙ ap (λ (m : ℕ). 4 + m) (right-off (calls_rules c (drop 4 ws)) (ending c) (drop 4 ws) (omega arith))

    module _ (h : right (calls_rules c (drop 4 ws)) (drop 4 ws) ≡ 11 * c) where
      past-calls : right (layout ws) ws ≡ 4 + 11 * c + right (ending c) (drop (4 + 11 * c) ws)
      past-calls =
          let l = calls-length c (drop 4 ws) in
          let a = right-on (calls_rules c (drop 4 ws)) (ending c) (drop 4 ws) (h ∙ sym l)
          ∙ ap (λ (m : ℕ). m + right (ending c) (drop m (drop 4 ws))) l in
          let b = ap (right (ending c)) (drop-drop (11 * c) 4 ws) in
          let p = past-numbers in
          omega arith

      pub at_count : (ltb (4 + 11 * c) (length ws) && exactly c (get_or ws (4 + 11 * c) 0)) ≡ false → right (layout ws) ws ≡ 4 + 11 * c
      at_count e = let p = past-calls in let q = fails (exactly c) (replicate c anything) ws (4 + 11 * c) e in omega arith

      module _ (e : (ltb (4 + 11 * c) (length ws) && exactly c (get_or ws (4 + 11 * c) 0)) ≡ true) where
        past-count : right (layout ws) ws ≡ 5 + 11 * c + right (replicate c anything) (drop (suc (4 + 11 * c)) ws)
        past-count = let p = past-calls in let q = passes (exactly c) (replicate c anything) ws (4 + 11 * c) e in omega arith

        pub at-statuses : 4 + 11 * c < length ws → length ws < 5 + 12 * c → right (layout ws) ws ≡ length ws
        at-statuses g k =
            let p = past-count in
            let l = length-drop (suc (4 + 11 * c)) ws in
            let q = any-short c (drop (suc (4 + 11 * c)) ws) (omega arith) in
            omega arith

        pub at-end : 5 + 12 * c ≤ length ws → right (layout ws) ws ≡ 5 + 12 * c
        at-end k =
            let p = past-count in
            let l = length-drop (suc (4 + 11 * c)) ws in
            let q = any-all c (drop (suc (4 + 11 * c)) ws) (omega arith) in
            omega arith
