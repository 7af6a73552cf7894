-- The words of a table after one slot went into a chain or out of it. `Edit` says what each word is: the eight words of the slot are a list, in
-- which every store to that slot is a `set`; the neighbours' three words are named; all others are as before. Assumes nothing.
use mathlib.Core.Path.{◌≡◌, refl, sym, ap, ap₂, ◌∙◌}
use mathlib.Core.Logic.{◌≢◌}
use Prim.Native.Nat.{ℕ, zero, suc, ◌+◌, ◌-◌, ◌*◌, ◌≤◌, ◌<◌}
use native.Mathlib.Omega.{arith}
use mathlib.Core.List.{List, [], ◌∷◌}
use lib.ListN.{length, get_or, set, drop, length-set, length-drop}
use lib.Seq.{get_or-set_same, get_or-set_other, set-get_or, ext_get_or, get_or-drop}
use lib.Dec.{eqb}
use borrow.Author.Tests.{eqb-true, eqb-false}
use Rattle.model.specs.declared.Chain.{Chain}
use Rattle.model.specs.declared.Chain.TheVariants.{ByTicks, ByDate, Queue}
use Rattle.model.specs.State.{Slot}
use Rattle.model.specs.Words.{word, field, head_word, slot_from, kind_of, name_of, interval_of, wait_of, routine_of, data_of, next_of, previous_of}
use Rattle.laws.proofs.ListLaws.{cases}
use Rattle.laws.proofs.EachPlace.{end, ◌&◌, each_at}
use Rattle.laws.proofs.StateWords.{link_word}
use Rattle.chains.specs.EditedWords.{field_word, follower_put, previous_put, links_put, relinked, wait_without, wait_behind, extracted_words, FirstExtractable}

-- ---- where words stand

pub head-low : (k : Chain) → head_word k < 10
head-low ByTicks = omega arith
head-low ByDate = omega arith
head-low Queue = omega arith

field-off-link : (k : Chain) (p j f : ℕ) → 0 < j → f < 8 → (f ≡ 6 → j ≢ p) → field_word j f ≢ link_word k p
field-off-link ByTicks zero j f h l n = omega arith
field-off-link ByDate zero j f h l n = omega arith
field-off-link Queue zero j f h l n = omega arith
field-off-link k (suc p) j f h l n = λ r. n (omega arith) (omega arith)

link-off-link : (k : Chain) (j p : ℕ) → j ≢ p → link_word k j ≢ link_word k p
link-off-link k zero zero n = λ _. n refl
link-off-link k zero (suc p) n = λ r. field-off-link k zero (suc p) 6 (omega arith) (omega arith) (λ _ z. absurd (omega arith)) (sym r)
link-off-link k (suc j) p n = field-off-link k p (suc j) 6 (omega arith) (omega arith) (λ _. n)

head-off-link : (k : Chain) (p m : ℕ) → m < 10 → m ≢ head_word k → m ≢ link_word k p
head-off-link k zero m h n = n
head-off-link k (suc p) m h n = omega arith

link-inside : (k : Chain) (p n : ℕ) → 8 * p + 10 ≤ n → link_word k p < n
link-inside ByTicks zero n h = omega arith
link-inside ByDate zero n h = omega arith
link-inside Queue zero n h = omega arith
link-inside k (suc p) n h = omega arith

link-below : (k : Chain) (p m : ℕ) → p ≤ m → link_word k p < 10 + 8 * m
link-below k p m h = link-inside k p (10 + 8 * m) (omega arith)

-- ---- the definitions by cases, at a slot that there is and at none

pub link-none : (k : Chain) (p : ℕ) → p ≡ 0 → link_word k p ≡ head_word k
link-none k zero e = refl
link-none k (suc p) e = absurd (omega arith)

pub link-some : (k : Chain) (p : ℕ) → p ≢ 0 → link_word k p ≡ field_word p 6
link-some k zero n = absurd (n refl)
link-some k (suc p) n = refl

pub follower-put-none : (t : List ℕ) (n q v : ℕ) → n ≡ 0 → follower_put t n q v ≡ t
unfolding follower_put
follower-put-none t zero q v e = refl
follower-put-none t (suc n) q v e = absurd (omega arith)

pub follower-put-some : (t : List ℕ) (n q v : ℕ) → n ≢ 0 → follower_put t n q v ≡ set (set t (field_word n 7) q) (field_word n 3) v
unfolding follower_put
follower-put-some t zero q v e = absurd (e refl)
follower-put-some t (suc n) q v e = refl

module _ (t : List ℕ) (w : ℕ) where
  pub wait-without-none : (k : Chain) (n : ℕ) → n ≡ 0 → wait_without k t n w ≡ 0
  wait-without-none k zero e = refl
  wait-without-none k (suc n) e = absurd (omega arith)

  pub wait-without-ticks : (n : ℕ) → n ≢ 0 → wait_without ByTicks t n w ≡ wait_of t n + w
  wait-without-ticks zero e = absurd (e refl)
  wait-without-ticks (suc n) e = refl

  pub wait-without-date : (n : ℕ) → n ≢ 0 → wait_without ByDate t n w ≡ wait_of t n
  wait-without-date zero e = absurd (e refl)
  wait-without-date (suc n) e = refl

  pub wait-without-queue : (n : ℕ) → n ≢ 0 → wait_without Queue t n w ≡ wait_of t n
  wait-without-queue zero e = absurd (e refl)
  wait-without-queue (suc n) e = refl

  pub wait-behind-ticks : (n : ℕ) → n ≢ 0 → wait_behind ByTicks t n w ≡ wait_of t n - w
  wait-behind-ticks zero e = absurd (e refl)
  wait-behind-ticks (suc n) e = refl

  pub wait-behind-date : (n : ℕ) → n ≢ 0 → wait_behind ByDate t n w ≡ wait_of t n
  wait-behind-date zero e = absurd (e refl)
  wait-behind-date (suc n) e = refl

  pub wait-behind-queue : (n : ℕ) → n ≢ 0 → wait_behind Queue t n w ≡ wait_of t n
  wait-behind-queue zero e = absurd (e refl)
  wait-behind-queue (suc n) e = refl

-- ---- the first of a chain

pub previous-put-none : (t : List ℕ) (n q : ℕ) → n ≡ 0 → previous_put t n q ≡ t
unfolding previous_put
previous-put-none t zero q e = refl
previous-put-none t (suc n) q e = absurd (omega arith)

pub previous-put-some : (t : List ℕ) (n q : ℕ) → n ≢ 0 → previous_put t n q ≡ set t (field_word n 7) q
unfolding previous_put
previous-put-some t zero q e = absurd (e refl)
previous-put-some t (suc n) q e = refl

-- a follower that keeps its wait
follower-same : (t : List ℕ) (n q v : ℕ) → (0 < n → v ≡ wait_of t n) → previous_put t n q ≡ follower_put t n q v
unfolding previous_put follower_put
follower-same t zero q v e = refl
follower-same t (suc n) q v e =
    let u = set t (field_word (suc n) 7) q in
    let is : v ≡ word u (field_word (suc n) 3) = e (omega arith) ∙ sym (get_or-set_other t (field_word (suc n) 7) (field_word (suc n) 3) q 0 (omega arith)) in
    sym (ap (set u (field_word (suc n) 3)) is ∙ set-get_or u (field_word (suc n) 3) 0)

-- its follower's wait stays when it leaves
wait-stays : (k : Chain) (t : List ℕ) (n w : ℕ) → (k ≡ ByTicks → w ≡ 0) → 0 < n → wait_without k t n w ≡ wait_of t n
wait-stays ByTicks t n w due p = wait-without-ticks t w n (λ z. omega arith) ∙ omega (arith, due refl)
wait-stays ByDate t n w due p = wait-without-date t w n (λ z. omega arith)
wait-stays Queue t n w due p = wait-without-queue t w n (λ z. omega arith)

pub first-extracted : (k : Chain) (t : List ℕ) (i : ℕ) → FirstExtractable k t i → {n : ℕ} {t₁ t₂ t₃ : List ℕ} → n ≡ next_of t i
    → t₁ ≡ set t (head_word k) n → t₂ ≡ previous_put t₁ n 0 → t₃ ≡ links_put t₂ i 0 0 0 → t₃ ≡ extracted_words k t i
unfolding relinked
first-extracted k t i h {n} {t₁} {t₂} {t₃} is e f g =
    let w = wait_of t i in
    let head = set t (head_word k) n in
    let v = wait_without k t n w in
    let kept : 0 < n → v ≡ wait_of head n =
    λ p. wait-stays k t n w h.due p ∙ sym (get_or-set_other t (head_word k) (field_word n 3) n 0 (field-off-link k 0 n 3 p (omega arith) (λ z. absurd (omega arith)))) in
    g ∙ ap (λ (u : List ℕ). links_put u i 0 0 0) (f ∙ ap (λ (u : List ℕ). previous_put u n 0) e ∙ follower-same head n 0 v kept)
    ∙ ap₂ (λ (p m : ℕ). links_put (follower_put (set t (link_word k p) m) m p (wait_without k t m w)) i 0 0 0) (sym h.first) is

-- a relinking, by its steps
pub relinked-by : (k : Chain) (t : List ℕ) (p l n q v i w x y : ℕ) {t₁ t₂ t₃ : List ℕ}
    → t₁ ≡ set t (link_word k p) l → t₂ ≡ follower_put t₁ n q v → t₃ ≡ links_put t₂ i w x y → t₃ ≡ relinked k t p l n q v i w x y
unfolding relinked
relinked-by k t p l n q v i w x y e f g =
    g ∙ ap (λ (u : List ℕ). links_put u i w x y) (f ∙ ap (λ (u : List ℕ). follower_put u n q v) e)

-- ---- an edit

-- u is t but for what follows slot p, now l, previous and wait of slot n, now q and v, and the words of slot i, now ws
pub record Edit (k : Chain) (t u : List ℕ) (p l n q v i : ℕ) (ws : List ℕ) : Type 0 where
  pub low : 0 < i
  pub not-before : i ≢ p
  pub not_behind : i ≢ n
  pub here : 8 * i + 10 ≤ length t
  pub long : length u ≡ length t
  pub off : (m : ℕ) → m ≢ link_word k p → (0 < n → m ≢ field_word n 7) → (0 < n → m ≢ field_word n 3) → ((f : ℕ) → f < 8 → m ≢ field_word i f)
      → word u m ≡ word t m
  pub link : word u (link_word k p) ≡ l
  pub previous : 0 < n → previous_of u n ≡ q
  pub wait : 0 < n → wait_of u n ≡ v
  pub own : (f : ℕ) → f < 8 → field u i f ≡ get_or ws f 0

-- a store to slot i
pub edit-set : {k : Chain} {t u : List ℕ} {p l n q v i : ℕ} {ws : List ℕ} (f z : ℕ) → f < 8 → f < length ws → Edit k t u p l n q v i ws
    → Edit k t (set u (field_word i f) z) p l n q v i (set ws f z)
edit-set {k} {t} {u} {p} {l} {n} {q} {v} {i} {ws} f z f8 fw e =
    let low = e.low in
    let not_behind = e.not_behind in
    record {
      low = low;
      not-before = e.not-before;
      not_behind = not_behind;
      here = e.here;
      long = length-set u (field_word i f) z ∙ e.long;
      off = λ m a b c d. get_or-set_other u (field_word i f) m z 0 (d f f8) ∙ e.off m a b c d;
      link = get_or-set_other u (field_word i f) (link_word k p) z 0 (λ r. field-off-link k p i f low f8 (λ _. e.not-before) (sym r)) ∙ e.link;
      previous = λ h. get_or-set_other u (field_word i f) (field_word n 7) z 0 (omega arith) ∙ e.previous h;
      wait = λ h. get_or-set_other u (field_word i f) (field_word n 3) z 0 (omega arith) ∙ e.wait h;
      own = λ g g8. cases (eqb g f)
          (λ r.
          let is = eqb-true g f r in
          rw is (get_or-set_same u (field_word i f) z 0 (omega (arith, e.here, e.long)) ∙ sym (get_or-set_same ws f z 0 fw)))
          (λ r.
          let is = eqb-false g f r in
          get_or-set_other u (field_word i f) (field_word i g) z 0 (omega arith) ∙ e.own g g8 ∙ sym (get_or-set_other ws f g z 0 is));
    }

-- ---- the words after a relinking

abbrev pub slot_list : List ℕ → ℕ → List ℕ
slot_list t i =
    kind_of t i ∷ name_of t i ∷ interval_of t i ∷ wait_of t i ∷ routine_of t i ∷ data_of t i ∷ next_of t i ∷ previous_of t i ∷ []

follower-put-off : (t : List ℕ) (n q v m : ℕ) → (0 < n → m ≢ field_word n 7) → (0 < n → m ≢ field_word n 3) → word (follower_put t n q v) m ≡ word t m
unfolding follower_put
follower-put-off t zero q v m x y = refl
follower-put-off t (suc n) q v m x y =
    get_or-set_other (set t (field_word (suc n) 7) q) (field_word (suc n) 3) m v 0 (y (omega arith))
    ∙ get_or-set_other t (field_word (suc n) 7) m q 0 (x (omega arith))

length-follower-put : (t : List ℕ) (n q v : ℕ) → length (follower_put t n q v) ≡ length t
unfolding follower_put
length-follower-put t zero q v = refl
length-follower-put t (suc n) q v = simp length-set

follower-put-previous : (t : List ℕ) (n q v : ℕ) → 0 < n → 8 * n + 10 ≤ length t → previous_of (follower_put t n q v) n ≡ q
unfolding follower_put
follower-put-previous t zero q v h l = absurd (omega arith)
follower-put-previous t (suc n) q v h l =
    get_or-set_other (set t (field_word (suc n) 7) q) (field_word (suc n) 3) (field_word (suc n) 7) v 0 (omega arith)
    ∙ get_or-set_same t (field_word (suc n) 7) q 0 (omega arith)

follower-put-wait : (t : List ℕ) (n q v : ℕ) → 0 < n → 8 * n + 10 ≤ length t → wait_of (follower_put t n q v) n ≡ v
unfolding follower_put
follower-put-wait t zero q v h l = absurd (omega arith)
follower-put-wait t (suc n) q v h l =
    get_or-set_same (set t (field_word (suc n) 7) q) (field_word (suc n) 3) v 0 (omega (arith, length-set t (field_word (suc n) 7) q))

module _ (k : Chain) (t : List ℕ) (p l n q v i : ℕ) (low : 0 < i) (not-before : i ≢ p) (not_behind : i ≢ n)
    (before : 8 * p + 10 ≤ length t) (behind : 8 * n + 10 ≤ length t) (here : 8 * i + 10 ≤ length t) where
  follower-put-edit : Edit k t (follower_put (set t (link_word k p) l) n q v) p l n q v i (slot_list t i)
  follower-put-edit =
      let u = set t (link_word k p) l in
      let same : length u ≡ length t = length-set t (link_word k p) l in
      let off-link : (f : ℕ) → 0 < n → f < 8 → f ≢ 6 → link_word k p ≢ field_word n f =
      λ f h f8 f6 r. field-off-link k p n f h f8 (λ z. absurd (f6 z)) (sym r) in
      let kept : (f : ℕ) → f < 8 → field (follower_put u n q v) i f ≡ field t i f =
      λ f f8. follower-put-off u n q v (field_word i f) (λ _. omega arith) (λ _. omega arith)
      ∙ get_or-set_other t (link_word k p) (field_word i f) l 0 (field-off-link k p i f low f8 (λ _. not-before)) in
      record {
        low = low;
        not-before = not-before;
        not_behind = not_behind;
        here = here;
        long = length-follower-put u n q v ∙ same;
        off = λ m a b c d. follower-put-off u n q v m b c ∙ get_or-set_other t (link_word k p) m l 0 a;
        link = follower-put-off u n q v (link_word k p) (λ h. off-link 7 h (omega arith) (omega arith)) (λ h. off-link 3 h (omega arith) (omega arith))
            ∙ get_or-set_same t (link_word k p) l 0 (link-inside k p (length t) before);
        previous = λ h. follower-put-previous u n q v h (omega arith);
        wait = λ h. follower-put-wait u n q v h (omega arith);
        own = each_at (λ f x. field (follower_put u n q v) i f ≡ x) 0 (slot_list t i) (
            kept 0 (omega arith)
            & kept 1 (omega arith)
            & kept 2 (omega arith)
            & kept 3 (omega arith)
            & kept 4 (omega arith)
            & kept 5 (omega arith)
            & kept 6 (omega arith)
            & kept 7 (omega arith)
            & end);
      }

  module _ (w x y : ℕ) where
    pub relinked-edit : Edit k t (relinked k t p l n q v i w x y) p l n q v i (set (set (set (slot_list t i) 3 w) 6 x) 7 y)
    unfolding relinked links_put
    relinked-edit =
        edit-set 7 y (omega arith) (omega arith) (edit-set 6 x (omega arith) (omega arith) (edit-set 3 w (omega arith) (omega arith) follower-put-edit))

-- ---- what an edit makes of the slot, and what it keeps

-- the slot that eight words spell
abbrev pub slot_of : List ℕ → Slot
slot_of ws = record { kind = get_or ws 0 0; name = get_or ws 1 0; interval = get_or ws 2 0; routine = get_or ws 4 0; user_data = get_or ws 5 0 }

module _ {k : Chain} {t u : List ℕ} {p l n q v i : ℕ} {ws : List ℕ} (e : Edit k t u p l n q v i ws) where
  pub own-slot : slot_from u i ≡ slot_of ws
  own-slot = λ d. record {
    kind = e.own 0 (omega arith) d;
    name = e.own 1 (omega arith) d;
    interval = e.own 2 (omega arith) d;
    routine = e.own 4 (omega arith) d;
    user_data = e.own 5 (omega arith) d;
  }

  pub kept : (j f : ℕ) → 0 < j → f < 8 → j ≢ i → (f ≡ 6 → j ≢ p) → (f ≡ 3 → j ≢ n) → (f ≡ 7 → j ≢ n) → field u j f ≡ field t j f
  kept j f h f8 ji a b c =
      e.off (field_word j f) (field-off-link k p j f h f8 a)
      (λ _ r. c (omega arith) (omega arith)) (λ _ r. b (omega arith) (omega arith)) (λ g g8. omega arith)

  pub kept-link : (j : ℕ) → j ≢ i → j ≢ p → word u (link_word k j) ≡ word t (link_word k j)
  kept-link j ji jp =
      e.off (link_word k j) (link-off-link k j p jp)
      (λ h r. field-off-link k j n 7 h (omega arith) (λ z. absurd (omega arith)) (sym r))
      (λ h r. field-off-link k j n 3 h (omega arith) (λ z. absurd (omega arith)) (sym r))
      (λ f f8 r. field-off-link k j i f e.low f8 (λ _ z. ji (sym z)) (sym r))

  pub kept-head : (m : ℕ) → m < 10 → m ≢ head_word k → word u m ≡ word t m
  kept-head m h a =
      let low = e.low in e.off m (head-off-link k p m h a) (λ some. omega arith) (λ some. omega arith) (λ f f8. omega arith)

  -- words past the slots
  pub kept-rest : (m : ℕ) → p ≤ m → n ≤ m → i ≤ m → drop (10 + 8 * m) u ≡ drop (10 + 8 * m) t
  kept-rest m pm nm im =
      ext_get_or 0 (drop (10 + 8 * m) u) (drop (10 + 8 * m) t) (omega (arith, length-drop (10 + 8 * m) u, length-drop (10 + 8 * m) t, e.long))
      (λ a _. get_or-drop (10 + 8 * m) u a 0
      ∙ e.off (10 + 8 * m + a) (omega (arith, link-below k p m pm)) (λ _. omega arith) (λ _. omega arith) (λ f f8. omega arith)
      ∙ sym (get_or-drop (10 + 8 * m) t a 0))
