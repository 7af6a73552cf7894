-- A caller that is a party, from the two tests. Assumes nothing.
use mathlib.Core.Path.{◌≡◌, ap}
use Prim.Native.Nat.{ℕ}
use mathlib.Core.Bool.{true, not}
use mathlib.Core.List.{List}
use Rattle.model.specs.Parties.{is_party}
use Rattle.model.specs.Words.{party_split}
use Rattle.model.specs.Sound.{sound}
use Rattle.opening.specs.Parties.{Member}

pub member_of : {t : List ℕ} {party : ℕ} → sound t ≡ true → is_party (party_split t) party ≡ true → Member t party
member_of ok is = record { ok = ok; tested = ap not ok; is = is; rule = ap not is }
