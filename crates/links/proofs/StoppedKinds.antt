-- The words of kinds, and the chains that they name: a word past the kinds is in none, and a timer that is in none is stopped already. Assumes
-- nothing.
use mathlib.Core.Path.{◌≡◌, sym, ap, ◌∙◌, subst}
use Prim.Native.Nat.{ℕ, ◌<◌}
use mathlib.Core.Bool.{false}
use mathlib.Core.List.{List}
use Rattle.model.specs.Kinds.{Kind, kind_at, waits_in, is_some, linked}
use Rattle.model.specs.State.{slot_at}
use Rattle.model.specs.Directives.{stopped, idled}
use Rattle.model.specs.Words.{kind_of, read, written_over}
use Rattle.laws.proofs.KindLaws.{in-none}
use Rattle.table.proofs.KindTests.{unknown-is}
use Rattle.links.specs.Places.{InTable}
use Rattle.links.proofs.Extracting.{kind-is, stop-idle}

pub unknown-apart : (n : ℕ) → 13 < n → linked n ≡ false
unknown-apart n p = ap (λ (x : Kind). is_some x.chain) (unknown-is n p)

-- n is the word of slot i's kind
module _ (t : List ℕ) (i n : ℕ) (at : InTable t i) (is : n ≡ kind_of t i) where
  pub linked-here : linked n ≡ linked (slot_at (read t).slots i).kind
  linked-here = ap linked (is ∙ sym (kind-is t i at))

  pub stopped-already : linked n ≡ false
      → (t ≡ written_over (stopped (read t) i (idled (slot_at (read t).slots i))) t) × (false ≡ linked (slot_at (read t).slots i).kind)
  stopped-already e = (
    stop-idle t i at (λ k. subst (λ (m : ℕ). waits_in k m ≡ false) is (in-none (kind_at n).chain k e)),
    sym e ∙ linked-here,
  )
