-- The words of one slot, after each way in which a call writes it. A timer that stops or fires keeps its words but the kind, and that for one
-- which no clause of `Shape` tells apart. Assumes nothing.
use mathlib.Core.Path.{◌≡◌, refl, sym, ap, ◌∙◌}
use Prim.Native.Nat.{ℕ, ◌≤◌, ◌<◌, zero-le}
use native.Mathlib.Omega.{arith}
use mathlib.Core.Bool.{Bool, true, false}
use mathlib.Core.List.{List, [], ◌∷◌}
use lib.Dec.{leb}
use borrow.Author.Tests.{leb-true, leb-false}
use Rattle.model.specs.declared.Chain.{Chain}
use Rattle.model.specs.declared.Chain.TheVariants.{ByTicks, ByDate, Queue}
use Rattle.model.specs.declared.Mode.{Mode}
use Rattle.model.specs.Kinds.{kind_at, chain_for, waiting_kind, same_chain, by_ticks, interval_in}
use Rattle.model.specs.State.{Slot, Link, free, slot_at, put_at}
use Rattle.model.specs.Directives.{never_started, became, idled, waiting_as, fired, fired_all}
use Rattle.laws.proofs.ListLaws.{cases, clash}
use Rattle.laws.proofs.KindLaws.{Alike, stopped-last, fired-last, stopped-alike, fired-alike, mode-kind, mode-last}
use Rattle.laws.proofs.Slots.{put-any}
use Rattle.laws.proofs.WellFormed.{Shape}

pub free-shape : (b : Bool) → Shape b free
free-shape b = record {
  kinds = zero-le;
  nameless = λ e. refl;
  named = λ p. absurd (omega arith);
  blank = λ p. (refl, refl, refl);
  used = λ p. absurd (omega arith);
  by-ticks = λ e. clash (sym e);
  by-date = λ e. refl;
  by-server = λ q. absurd (omega arith);
}

pub never-started-shape : (b : Bool) (name : ℕ) → 0 < name → Shape b (never_started name)
never-started-shape b name p = record {
  kinds = omega arith;
  nameless = λ e. absurd (omega arith);
  named = λ q. p;
  blank = λ q. (refl, refl, refl);
  used = λ q. absurd (omega arith);
  by-ticks = λ e. clash (sym e);
  by-date = λ e. refl;
  by-server = λ q. absurd (omega arith);
}

-- a start is for at least one tick
abbrev pub Some : Chain → ℕ → Type 0
Some ByTicks n = 0 < n
Some ByDate d = Unit {0}
Some Queue d = Unit {0}

pub waiting-shape : (b : Bool) (m : Mode) (x : Slot) (amount r u : ℕ) → 0 < x.name → 0 < r → Some (chain_for m) amount → (8 ≤ waiting_kind m → b ≡ true)
    → Shape b (waiting_as m x amount r u)
waiting-shape b m x amount r u name routine i server = record {
  kinds = omega (arith, (mode-kind m).1);
  nameless = λ e. absurd (omega (arith, (mode-kind m).0));
  named = λ p. name;
  blank = λ p. absurd (omega (arith, (mode-kind m).0));
  used = λ p. routine;
  by-ticks = λ e. some (chain_for m) i (sym (ap by_ticks (mode-last m)) ∙ e);
  by-date = λ e. none (chain_for m) (sym (ap by_ticks (mode-last m)) ∙ e);
  by-server = server;
}
  where
    some : (k : Chain) → Some k amount → same_chain ByTicks k ≡ true → 0 < interval_in k amount
    some ByTicks i e = i
    some ByDate i e = clash (sym e)
    some Queue i e = clash (sym e)

    none : (k : Chain) → same_chain ByTicks k ≡ false → interval_in k amount ≡ 0
    none ByTicks e = clash e
    none ByDate e = refl
    none Queue e = refl

-- a slot that gets a kind of the same sort keeps its shape
became-shape : (b : Bool) (x : Slot) (n : ℕ) → Shape b x → Alike x.kind n → (kind_at n).last ≡ (kind_at x.kind).last → Shape b (became n x)
became-shape b x n h a last = record {
  kinds = omega (arith, a.is-kind);
  nameless = λ z. h.nameless (zero-kind x.kind n a z);
  named = λ p. h.named (some-kind x.kind n a p);
  blank = λ p. h.blank (low-kind x.kind n a p);
  used = λ p. h.used (high-kind x.kind n a p);
  by-ticks = λ e. h.by-ticks (sym (ap by_ticks last) ∙ e);
  by-date = λ e. h.by-date (sym (ap by_ticks last) ∙ e);
  by-server = λ p. h.by-server (a.server p);
}
  where
    low-kind : (k n : ℕ) → Alike k n → n ≤ 1 → k ≤ 1
    low-kind k n a p = cases (leb k 1) (λ e. leb-true k 1 e) (λ e. absurd (omega (arith, a.high (leb-false k 1 e))))

    zero-kind : (k n : ℕ) → Alike k n → n ≡ 0 → k ≡ 0
    zero-kind k n a z = omega (arith, a.low (low-kind k n a (omega arith)))

    some-kind : (k n : ℕ) → Alike k n → 0 < n → 0 < k
    some-kind k n a p = cases (leb k 1) (λ e. omega (arith, a.low (leb-true k 1 e))) (λ e. omega (arith, leb-false k 1 e))

    high-kind : (k n : ℕ) → Alike k n → 2 ≤ n → 2 ≤ k
    high-kind k n a p = cases (leb k 1) (λ e. omega (arith, a.low (leb-true k 1 e))) (λ e. leb-false k 1 e)

module _ (b : Bool) where
  pub idle-shape : (x : Slot) → Shape b x → Shape b (idled x)
  idle-shape x h = became-shape b x (kind_at x.kind).when_stopped h (stopped-alike x.kind (omega (arith, h.kinds))) (stopped-last x.kind)

  fired-shape : (x : Slot) → Shape b x → Shape b (fired x)
  fired-shape x h = became-shape b x (kind_at x.kind).when_fired h (fired-alike x.kind (omega (arith, h.kinds))) (fired-last x.kind)

  pub shape-fired_all : (ws : List Link) (slots : List Slot) → ((j : ℕ) → Shape b (slot_at slots j)) → (j : ℕ) → Shape b (slot_at (fired_all ws slots) j)
  shape-fired_all [] slots h j = h j
  shape-fired_all (w ∷ ws) slots h j =
      shape-fired_all ws (put_at slots w.slot (fired (slot_at slots w.slot)))
      (λ i. put-any (Shape b) slots w.slot i (fired (slot_at slots w.slot)) (fired-shape (slot_at slots w.slot) (h w.slot)) (h i)) j
