-- The walk along the queue ends behind its last slot: what is ahead of the walk has the same last slot as the whole queue, and in the end nothing is
-- ahead. Each slot of the pass pays for one step at most, so that the links read are enough. Assumes nothing.
use Prim.Native.Nat.{ℕ, zero, suc, ◌+◌, ◌≤◌}
use mathlib.Core.Path.{◌≡◌, refl, sym, ap, ◌∙◌}
use mathlib.Core.Bool.{Bool, true, false, cond}
use mathlib.Core.List.{List, [], ◌∷◌, ◌++◌}
use native.Mathlib.Omega.{arith}
use lib.Dec.{leb}
use borrow.Author.Tests.{leb-true}
use Rattle.model.specs.Lists.{All}
use Rattle.model.specs.declared.Chain.TheVariants.{Queue}
use Rattle.model.specs.State.{Link}
use Rattle.model.specs.Words.{along, links_from, links, slot_count, first_queued, wait_of, next_of}
use Rattle.model.specs.Sound.{chain_tests, chain_sound, sound_tests, sound}
use Rattle.laws.proofs.ListLaws.{all-at, every-all, all_map}
use Rattle.walks.specs.Walks.{Stand}
use Rattle.walks.proofs.NoSlotTwice.{links-first, links-zero}
use Rattle.walks.proofs.OnePass.{Passing}
use Rattle.server_check.specs.LastSlots.{last_after, last_queued, last_if_sound}

-- the last of the links, where one stands at their end
pub last-is : (p : ℕ) (ws : List Link) (w : Link) → last_after p (ws ++ (w ∷ [])) ≡ w.slot
last-is p [] w = refl
last-is p (v ∷ vs) w = last-is v.slot vs w

-- before slot i of n, where the walk along the queue comes to slot s from slot b
pub record Ending (t : List ℕ) (n i s b : ℕ) : Type 0 where
  pub fuel : ℕ
  pub enough : n + 1 ≤ i + fuel
  pub last : last_queued t ≡ last_after b (links_from Queue t fuel 0 s)

pub begin-queue : (t : List ℕ) → Ending t (slot_count t) 1 (first_queued t) 0
begin-queue t = record { fuel = slot_count t; enough = omega arith; last = refl }

module _ {t : List ℕ} {n i s b : ℕ} (e : Ending t n i s b) where
  pub other-slot : Ending t n (i + 1) s b
  other-slot = record { fuel = e.fuel; enough = omega (arith, e.enough); last = e.last }

  pub next-queued : i ≤ n → 1 ≤ s → wait_of t s ≡ 0 → Ending t n (i + 1) (next_of t s) s
  next-queued within low none = go e.fuel e.enough e.last
    where
      go : (f : ℕ) → n + 1 ≤ i + f → last_queued t ≡ last_after b (links_from Queue t f 0 s) → Ending t n (i + 1) (next_of t s) s
      go zero a l = absurd (omega (arith, a, within))
      go (suc f) a l =
          record {
            fuel = f;
            enough = omega (arith, a);
            last =
                l ∙ ap (last_after b) (links-first Queue t f 0 s low) ∙ ap (λ (w : ℕ). last_after s (links_from Queue t f w (next_of t s))) none;
          }

  pub ended-queue : s ≡ 0 → last_queued t ≡ b
  ended-queue z =
      e.last ∙ ap (λ (v : ℕ). last_after b (links_from Queue t e.fuel 0 v)) z ∙ ap (last_after b) (links-zero Queue t e.fuel 0)

-- ---- the loop, and what it ends with

pub record Checking (t : List ℕ) (n i : ℕ) (x y z : Stand) : Type 0 where
  pub pass : Passing true t n i x y z
  pub queue : Ending t n i z.slot z.before

pub unsound : (t : List ℕ) → false ≡ sound t → 256 ≡ last_if_sound t
unsound t e = ap (λ (b : Bool). cond b (last_queued t) 256) e

pub sound-until : (t : List ℕ) (b : ℕ) → sound t ≡ true → last_queued t ≡ b → b ≡ last_if_sound t
sound-until t b e l = sym l ∙ ap (λ (b : Bool). cond b (last_queued t) 256) (sym e)

-- ---- the last slot is one of the table's, or 0

all-links : (P : ℕ → Type 0) (t : List ℕ) (f b i : ℕ) → All P (along (next_of t) f i) → All (λ w. P w.slot) (links_from Queue t f b i)
all-links P t zero b i h = tt
all-links P t (suc f) b zero h = tt
all-links P t (suc f) b (suc i) h = (h.0, all-links P t f (wait_of t (suc i)) (next_of t (suc i)) h.1)

last_of : (n p : ℕ) (ws : List Link) → p ≤ n → All (λ w. w.slot ≤ n) ws → last_after p ws ≤ n
last_of n p [] h a = h
last_of n p (w ∷ ws) h a = last_of n w.slot ws a.0 a.1

pub last-in-table : (t : List ℕ) → sound t ≡ true → last_queued t ≤ slot_count t
unfolding sound chain_sound
last-in-table t e =
    let n = slot_count t in
    let slots = along (next_of t) n (first_queued t) in
    let chain = all-at (sound_tests t) e 4 in
    let low = every-all (λ i. leb i n) slots (all-at (chain_tests Queue t) chain 1) in
    last_of n 0 (links Queue t) (omega arith)
    (all-links (λ i. i ≤ n) t n 0 (first_queued t) (all_map (λ i l. leb-true i n l) slots low))
