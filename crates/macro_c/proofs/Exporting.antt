-- A record's ten words are those that it was read from. Assumes nothing.
use Prim.Native.Nat.{ℕ}
use mathlib.Core.Path.{◌≡◌, refl}
use mathlib.Core.List.{List, [], ◌∷◌}
use lib.ListN.{length}
use native.Mathlib.Omega.{arith}
use Rattle.macro_c.specs.Exports.{runner_in, words_of}

-- ten words that are read as a record and not changed stay as they are
pub stay : (ws : List ℕ) → length ws ≡ 10 → words_of (runner_in ws) ≡ ws
stay [] e = absurd (omega arith)
stay (a ∷ []) e = absurd (omega arith)
stay (a ∷ b ∷ []) e = absurd (omega arith)
stay (a ∷ b ∷ c ∷ []) e = absurd (omega arith)
stay (a ∷ b ∷ c ∷ d ∷ []) e = absurd (omega arith)
stay (a ∷ b ∷ c ∷ d ∷ f ∷ []) e = absurd (omega arith)
stay (a ∷ b ∷ c ∷ d ∷ f ∷ g ∷ []) e = absurd (omega arith)
stay (a ∷ b ∷ c ∷ d ∷ f ∷ g ∷ h ∷ []) e = absurd (omega arith)
stay (a ∷ b ∷ c ∷ d ∷ f ∷ g ∷ h ∷ i ∷ []) e = absurd (omega arith)
stay (a ∷ b ∷ c ∷ d ∷ f ∷ g ∷ h ∷ i ∷ k ∷ []) e = absurd (omega arith)
stay (a ∷ b ∷ c ∷ d ∷ f ∷ g ∷ h ∷ i ∷ k ∷ l ∷ []) e = refl
stay (a ∷ b ∷ c ∷ d ∷ f ∷ g ∷ h ∷ i ∷ k ∷ l ∷ m ∷ ws) e = absurd (omega arith)
