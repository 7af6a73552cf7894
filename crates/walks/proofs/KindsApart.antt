-- What the chains say of a kind: it is in one of them at most, and of the kinds last started by interval those that are neither in the interval chain
-- nor queued are in none. Assumes nothing.
use mathlib.Core.Path.{◌≡◌, refl, sym, ◌∙◌}
use Prim.Native.Nat.{ℕ, ◌+◌, ◌≤◌}
use native.Mathlib.Omega.{arith}
use mathlib.Core.Bool.{true, false, cond}
use Rattle.model.specs.declared.Chain.{Chain}
use Rattle.model.specs.declared.Chain.TheVariants.{ByTicks, ByDate, Queue}
use Rattle.model.specs.Kinds.{kind_at, same_chain, is_in, waits_in, is_some, linked, by_ticks, last_by_ticks}
use Rattle.laws.proofs.ListLaws.{cases, clash}
use Rattle.laws.proofs.KindLaws.{on-numbers, one-chain, none_in}

pub not-both : (j k : Chain) → same_chain j k ≡ false → (n : ℕ) → waits_in j n ≡ true → waits_in k n ≡ false
not-both j k d n e =
    cases (waits_in k n)
    (λ f.
    let z : cond true 1 0 + cond true 1 0 ≤ 1 = rw (e, f) at (one-chain j k (kind_at n).chain d) in
    absurd (omega arith))
    (λ f. f)

pub else-queued : (n : ℕ) → linked n ≡ true → waits_in ByTicks n ≡ false → waits_in ByDate n ≡ false → waits_in Queue n ≡ true
else-queued n e f g =
    cases (waits_in Queue n)
    (λ h. h)
    (λ h.
    let not_in : (k : Chain) → is_in k (kind_at n).chain ≡ false =
    λ k. at k f g h in
    clash (sym e ∙ none_in (kind_at n).chain not_in))
  where
    at : (k : Chain) → waits_in ByTicks n ≡ false → waits_in ByDate n ≡ false → waits_in Queue n ≡ false → waits_in k n ≡ false
    at ByTicks f g h = f
    at ByDate f g h = g
    at Queue f g h = h

pub timed-apart : (n : ℕ) → last_by_ticks n ≡ true → waits_in ByTicks n ≡ false → waits_in Queue n ≡ false → linked n ≡ false
timed-apart n e f g =
    sym (rw (e, f, g))
    ∙ on-numbers
    (λ _ x. cond (by_ticks x.last) (cond (is_in ByTicks x.chain) false (cond (is_in Queue x.chain) false (is_some x.chain))) false)
    (λ _ _. false) refl (λ n e. refl) n
