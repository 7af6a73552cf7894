-- Steps: both sides of each edge, computed from the definitions. Assumes nothing.
use Prim.Native.Nat.{ℕ, ◌≤◌}
use mathlib.Core.Path.{◌≡◌, refl}
use mathlib.Core.Bool.{Bool, true, false}
use mathlib.Core.List.{List, [], ◌∷◌, ◌++◌, map}
use lib.ListN.{set, replicate}
use lib.Dec.{leb, eqb}
use borrow.Author.Tests.{eqb-true, le-leb}
use Rattle.calendar.specs.Calendar.{all_of}
use Rattle.macro_steps.specs.Steps.{Step, Arm, Cancel, Wait, Check, Repeat, End, Sign, NoStep, bare, with_one, step_of, step_at}

-- ---- the words of each kind of step

abbrev pub arm : ℕ → List ℕ
arm id = 1 ∷ id ∷ 5 ∷ 7 ∷ 70 ∷ []

abbrev pub cancel : ℕ → List ℕ
cancel id = 2 ∷ id ∷ 0 ∷ 0 ∷ 0 ∷ []

abbrev pub wait : ℕ → List ℕ
wait id = 3 ∷ id ∷ 0 ∷ 0 ∷ 0 ∷ []

abbrev pub check : List ℕ
check = 4 ∷ 0 ∷ 0 ∷ 0 ∷ 0 ∷ []

abbrev pub repeats : ℕ → List ℕ
repeats n = 5 ∷ n ∷ 0 ∷ 0 ∷ 0 ∷ []

abbrev pub end : List ℕ
end = 6 ∷ 0 ∷ 0 ∷ 0 ∷ 0 ∷ []

abbrev pub sign : List ℕ
sign = 7 ∷ 0 ∷ 0 ∷ 0 ∷ 0 ∷ []

-- ---- the form of a step

-- the step of each kind; kinds 0 and 8; an id, a repeat's number of 0, 1, 100 and 101; an arm takes any four words
pub forms : map (λ ws. step_at ws 0)
    (arm 9 ∷ cancel 9 ∷ wait 9 ∷ check ∷ end ∷ sign ∷ (0 ∷ replicate 4 0) ∷ (8 ∷ replicate 4 0)
    ∷ repeats 0 ∷ repeats 1 ∷ repeats 100 ∷ repeats 101 ∷ (1 ∷ 0 ∷ 0 ∷ 0 ∷ 0 ∷ []) ∷ [])
    ≡ Arm 9 5 7 70 ∷ Cancel 9 ∷ Wait 9 ∷ Check ∷ End ∷ Sign ∷ NoStep ∷ NoStep
    ∷ NoStep ∷ Repeat 1 ∷ Repeat 100 ∷ NoStep ∷ Arm 0 0 0 0 ∷ []
unfolding step_at step_of with_one bare
forms = refl

-- each fill word of each kind, where it is not zero: the last three of cancel, wait and repeat, the last four of check, end and sign
abbrev pub filled : List ℕ → List ℕ → List Step
filled ws places = map (λ i. step_at (set ws i 1) 0) places

pub fill : (filled (cancel 9) (2 ∷ 3 ∷ 4 ∷ []) ++ filled (wait 9) (2 ∷ 3 ∷ 4 ∷ []) ++ filled (repeats 9) (2 ∷ 3 ∷ 4 ∷ []))
    ++ filled check (1 ∷ 2 ∷ 3 ∷ 4 ∷ []) ++ filled end (1 ∷ 2 ∷ 3 ∷ 4 ∷ []) ++ filled sign (1 ∷ 2 ∷ 3 ∷ 4 ∷ [])
    ≡ replicate 21 NoStep
unfolding step_at step_of with_one bare
fill = refl

-- an id of 0 is the manager's to refuse
pub no-id : step_at (cancel 0) 0 ∷ step_at (wait 0) 0 ∷ [] ≡ Cancel 0 ∷ Wait 0 ∷ []
unfolding step_at step_of with_one bare
no-id = refl

-- ---- a step is its words

-- "five 32-bit words (kind, arguments, zeros to fill)"
abbrev pub words_of : Step → List ℕ
words_of (Arm id ticks routine user_data) = 1 ∷ id ∷ ticks ∷ routine ∷ user_data ∷ []
words_of (Cancel id) = 2 ∷ id ∷ 0 ∷ 0 ∷ 0 ∷ []
words_of (Wait id) = 3 ∷ id ∷ 0 ∷ 0 ∷ 0 ∷ []
words_of Check = 4 ∷ 0 ∷ 0 ∷ 0 ∷ 0 ∷ []
words_of (Repeat times) = 5 ∷ times ∷ 0 ∷ 0 ∷ 0 ∷ []
words_of End = 6 ∷ 0 ∷ 0 ∷ 0 ∷ 0 ∷ []
words_of Sign = 7 ∷ 0 ∷ 0 ∷ 0 ∷ 0 ∷ []
words_of NoStep = []

-- words that are a step are that step's, and no other words are a step
pub data IsOf (s : Step) (ws : List ℕ) : Type 0 where
  none : s ≡ NoStep → IsOf s ws
  its : words_of s ≡ ws → IsOf s ws

branch : {C : Type 0} (b : Bool) → (b ≡ true → C) → (b ≡ false → C) → C
branch true f g = f refl
branch false f g = g refl

of_bare : (k : ℕ) → IsOf (bare k) (k ∷ 0 ∷ 0 ∷ 0 ∷ 0 ∷ [])
unfolding bare
of_bare k =
    branch (eqb k 4) (λ e. rw (eqb-true k 4 e) (its refl))
    (λ e. branch (eqb k 6) (λ f. rw (eqb-true k 6 f) (its refl))
    (λ f. branch (eqb k 7) (λ g. rw (eqb-true k 7 g) (its refl)) (λ g. none (rw (e, f, g)))))

of_one : (k a : ℕ) → IsOf (with_one k a) (k ∷ a ∷ 0 ∷ 0 ∷ 0 ∷ [])
unfolding with_one
of_one k a =
    branch (eqb k 2) (λ e. rw (eqb-true k 2 e) (its refl))
    (λ e. branch (eqb k 3) (λ f. rw (eqb-true k 3 f) (its refl))
    (λ f. branch (eqb k 5)
    (λ g. rw (eqb-true k 5 g) (branch (all_of (leb 1 a ∷ leb a 100 ∷ [])) (λ h. rw h (its refl)) (λ h. rw h (none refl))))
    (λ g. rw (e, f, g) (branch (eqb a 0) (λ h. rw (eqb-true a 0 h) (of_bare k)) (λ h. rw h (none refl))))))

pub is-its-words : (k a b c d : ℕ) → IsOf (step_of k a b c d) (k ∷ a ∷ b ∷ c ∷ d ∷ [])
unfolding step_of
is-its-words k a b c d =
    branch (eqb k 1) (λ e. rw (eqb-true k 1 e) (its refl))
    (λ e. rw e (branch (eqb b 0)
    (λ f. branch (eqb c 0)
    (λ g. branch (eqb d 0) (λ h. rw (eqb-true b 0 f, eqb-true c 0 g, eqb-true d 0 h) (of_one k a)) (λ h. rw (f, g, h) (none refl)))
    (λ g. rw (f, g) (none refl)))
    (λ f. rw f (none refl))))

-- and every step is one: any arguments, a repeat 1 to 100 times
pub are-steps : (a b c d : ℕ) → step_of 1 a b c d ∷ step_of 2 a 0 0 0 ∷ step_of 3 a 0 0 0 ∷ [] ≡ Arm a b c d ∷ Cancel a ∷ Wait a ∷ []
unfolding step_of with_one bare
are-steps a b c d = refl

pub are-repeats : (n : ℕ) → 1 ≤ n → n ≤ 100 → step_of 5 n 0 0 0 ≡ Repeat n
unfolding step_of with_one
are-repeats n low high = rw (le-leb 1 n low, le-leb n 100 high) refl
