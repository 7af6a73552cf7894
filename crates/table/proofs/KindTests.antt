-- The model's kinds as the numbers that the code compares, and what the chains say of a kind. Assumes nothing.
use mathlib.Core.Path.{◌≡◌, refl, sym, ap, ◌∙◌}
use Prim.Native.Nat.{ℕ, zero, suc, ◌≤◌, ◌<◌}
use native.Mathlib.Omega.{arith}
use mathlib.Core.Bool.{Bool, false, ◌||◌}
use mathlib.Core.Option.{none}
use lib.ListN.{get_or-eq_default}
use lib.Dec.{ltb, eqb}
use borrow.Author.Tests.{ltb-true, ltb-false, ne_eqb}
use Rattle.model.specs.declared.Chain.TheVariants.{ByTicks, ByDate, Queue}
use Rattle.model.specs.Kinds.{Kind, kind_entry, kinds, kind_at, is_in, waits_in, linked}
use Rattle.laws.proofs.ListLaws.{cases}
use Rattle.laws.proofs.KindLaws.{read_all, on-kinds}

-- ---- a test on what a kind says is a test on its number

number : (f : Kind → Bool) (g : ℕ → Bool) → read_all (λ _ x. f x) 0 kinds ≡ read_all (λ n _. g n) 0 kinds
    → ((n : ℕ) → 13 < n → f (kind_entry none n n none) ≡ g n) → (n : ℕ) → f (kind_at n) ≡ g n
number f g same past n =
    cases (ltb n 14)
    (λ e. on-kinds (λ _ x. f x) (λ m _. g m) same n (ltb-true n 14 e))
    (λ e. ap f (get_or-eq_default kinds (kind_entry none n n none) {n = n} (ltb-false n 14 e)) ∙ past n (ltb-false n 14 e))

-- a number past the kinds is none of them
past : (n m : ℕ) → 13 < n → m ≤ 13 → eqb n m ≡ false
past n m p q = ne_eqb n m (λ e. omega arith)

pub ticking-is : (n : ℕ) → waits_in ByTicks n ≡ (eqb n 4 || eqb n 6 || eqb n 10)
ticking-is =
    number (λ x. is_in ByTicks x.chain) (λ n. eqb n 4 || eqb n 6 || eqb n 10) refl
    (λ n p. sym (rw (past n 4 p (omega arith), past n 6 p (omega arith), past n 10 p (omega arith))))

pub dated-is : (n : ℕ) → waits_in ByDate n ≡ (eqb n 5 || eqb n 11)
dated-is =
    number (λ x. is_in ByDate x.chain) (λ n. eqb n 5 || eqb n 11) refl
    (λ n p. sym (rw (past n 5 p (omega arith), past n 11 p (omega arith))))

pub queued-is : (n : ℕ) → waits_in Queue n ≡ (eqb n 12 || eqb n 13)
queued-is =
    number (λ x. is_in Queue x.chain) (λ n. eqb n 12 || eqb n 13) refl
    (λ n p. sym (rw (past n 12 p (omega arith), past n 13 p (omega arith))))

-- ---- what the chains say of a kind

-- a free timer, or one that was never started, is in no chain
pub new_apart : (n : ℕ) → n ≤ 1 → linked n ≡ false
new_apart zero p = refl
new_apart (suc zero) p = refl
new_apart (suc (suc n)) p = absurd (omega arith)

-- a word past the kinds is in no chain, and stays
pub unknown-is : (n : ℕ) → 13 < n → kind_at n ≡ kind_entry none n n none
unknown-is n p = get_or-eq_default kinds (kind_entry none n n none) {n = n} p
