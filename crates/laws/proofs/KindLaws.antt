-- Laws of the kinds, each computed over the whole table of kinds; of the modes of starts; and of the chains, told apart. Assumes nothing.
use mathlib.Core.Path.{◌≡◌, refl, sym, ap, ◌∙◌, subst}
use Prim.Native.Nat.{ℕ, zero, suc, ◌+◌, ◌≤◌, ◌<◌}
use native.Mathlib.Omega.{arith}
use mathlib.Core.Bool.{Bool, true, false, cond}
use mathlib.Core.Option.{Option, none, some}
use mathlib.Core.List.{List, [], ◌∷◌}
use lib.ListN.{length, get_or, get_or-eq_default}
use lib.Dec.{leb, ltb, eqb}
use borrow.Author.Tests.{leb-true, le-leb, lt-leb, ltb-true, ltb-false, eqb-true}
use Rattle.calendar.specs.Calendar.{all_of}
use Rattle.model.specs.declared.Chain.{Chain}
use Rattle.model.specs.declared.Chain.TheVariants.{ByTicks, ByDate, Queue}
use Rattle.model.specs.declared.Mode.{Mode}
use Rattle.model.specs.declared.Mode.TheVariants.{After, When, Every, ServerAfter, ServerWhen}
use Rattle.model.specs.Kinds.{Kind, kind_entry, kinds, kind_at, chain_for, waiting_kind, is_periodic, same_chain, is_in, waits_in, is_some, by_ticks, last_by_ticks, for_server, mode_or_after}
use Rattle.laws.proofs.ListLaws.{cases, clash, all-at}

-- what a reading of kinds gives for each kind of a table
abbrev pub read_all : {B : Type 0} → (ℕ → Kind → B) → ℕ → List Kind → List B
read_all f n [] = []
read_all f n (x ∷ xs) = f n x ∷ read_all f (suc n) xs

read_at : {B : Type 0} (f : ℕ → Kind → B) (b : ℕ) (xs : List Kind) (d : B) (x : Kind) (j m : ℕ) → b + j ≡ m → j < length xs
    → get_or (read_all f b xs) j d ≡ f m (get_or xs j x)
read_at f b [] d x j m kind_entry p = absurd (omega arith)
read_at f b (y ∷ ys) d x zero m kind_entry p = let e : b ≡ m = omega arith in ap (λ (n : ℕ). f n y) e
read_at f b (y ∷ ys) d x (suc j) m kind_entry p = read_at f (suc b) ys d x j m (omega arith) (omega arith)

-- Two readings that agree on the table of kinds, which the checker computes, agree on every kind; and on any number, where they agree on those
-- that are no kind.
pub on-kinds : {B : Type 0} (f g : ℕ → Kind → B) → read_all f 0 kinds ≡ read_all g 0 kinds → (n : ℕ) → n < length kinds → f n (kind_at n) ≡ g n (kind_at n)
on-kinds f g same n p =
    let d = f n (kind_at n) in
    let x = kind_entry none n n none in
    sym (read_at f 0 kinds d x n n (omega arith) p) ∙ ap (λ l. get_or l n d) same ∙ read_at g 0 kinds d x n n (omega arith) p

no_kind : (n : ℕ) → length kinds ≤ n → kind_at n ≡ kind_entry none n n none
no_kind n p = get_or-eq_default kinds (kind_entry none n n none) {n = n} p

pub on-numbers : {B : Type 0} (f g : ℕ → Kind → B) → read_all f 0 kinds ≡ read_all g 0 kinds
    → ((n : ℕ) → kind_at n ≡ kind_entry none n n none → f n (kind_entry none n n none) ≡ g n (kind_entry none n n none)) → (n : ℕ) → f n (kind_at n) ≡ g n (kind_at n)
on-numbers f g same other n =
    cases (ltb n (length kinds))
    (λ e. on-kinds f g same n (ltb-true n (length kinds) e))
    (λ e.
    let is_none = no_kind n (ltb-false n (length kinds) e) in
    subst (λ (x : Kind). f n x ≡ g n x) (sym is_none) (other n is_none))

-- two readings that agree on every kind of a chain, which the checker computes
pub of-chain : {B : Type 0} (k : Chain) (f g : Kind → B)
    → read_all (λ _ x. cond (is_in k x.chain) (f x) (g x)) 0 kinds ≡ read_all (λ _ x. g x) 0 kinds
    → (n : ℕ) → waits_in k n ≡ true → f (kind_at n) ≡ g (kind_at n)
of-chain k f g same n e =
    ap (λ b. cond b (f (kind_at n)) (g (kind_at n))) (sym e)
    ∙ on-numbers (λ _ x. cond (is_in k x.chain) (f x) (g x)) (λ _ x. g x) same (λ n _. refl) n

-- ---- chains

pub same-chain : (j k : Chain) → same_chain j k ≡ true → j ≡ k
same-chain ByTicks ByTicks e = refl
same-chain ByTicks ByDate e = clash (sym e)
same-chain ByTicks Queue e = clash (sym e)
same-chain ByDate ByTicks e = clash (sym e)
same-chain ByDate ByDate e = refl
same-chain ByDate Queue e = clash (sym e)
same-chain Queue ByTicks e = clash (sym e)
same-chain Queue ByDate e = clash (sym e)
same-chain Queue Queue e = refl

pub own-chain : (k : Chain) → same_chain k k ≡ true
own-chain ByTicks = refl
own-chain ByDate = refl
own-chain Queue = refl

pub chain-sym : (j k : Chain) → same_chain j k ≡ same_chain k j
chain-sym ByTicks ByTicks = refl
chain-sym ByTicks ByDate = refl
chain-sym ByTicks Queue = refl
chain-sym ByDate ByTicks = refl
chain-sym ByDate ByDate = refl
chain-sym ByDate Queue = refl
chain-sym Queue ByTicks = refl
chain-sym Queue ByDate = refl
chain-sym Queue Queue = refl

-- what holds of chain k and of all that are not k
pub each-chain : (P : Chain → Type 0) (k : Chain) → P k → ((j : Chain) → same_chain j k ≡ false → P j) → (j : Chain) → P j
each-chain P k p q j = cases (same_chain j k) (λ e. subst P (sym (same-chain j k e)) p) (λ e. q j e)

-- a kind is in one chain at most
pub one-chain : (j k : Chain) (o : Option Chain) → same_chain j k ≡ false → cond (is_in j o) 1 0 + cond (is_in k o) 1 0 ≤ 1
one-chain j k none e = omega arith
one-chain j k (some i) e =
    cases (same_chain j i)
    (λ f. rw (f, ← same-chain j i f, chain-sym k j ∙ e) (omega arith))
    (λ f. rw f (cases (same_chain k i) (λ g. rw g (omega arith)) (λ g. rw g (omega arith))))

-- the chains that a kind is in: one, or none
pub times-in : (o : Option Chain) → cond (is_in ByTicks o) 1 0 + cond (is_in ByDate o) 1 0 + cond (is_in Queue o) 1 0 ≡ cond (is_some o) 1 0
times-in none = refl
times-in (some ByTicks) = refl
times-in (some ByDate) = refl
times-in (some Queue) = refl

-- a kind is in some chain or in none
pub none_in : (o : Option Chain) → ((k : Chain) → is_in k o ≡ false) → is_some o ≡ false
none_in none h = refl
none_in (some j) h = clash (sym (own-chain j) ∙ h j)

pub in-none : (o : Option Chain) (k : Chain) → is_some o ≡ false → is_in k o ≡ false
in-none none k e = refl
in-none (some j) k e = clash e

-- ---- kinds

stopped-not-on : (k : Chain) → read_all (λ _ x. waits_in k x.when_stopped) 0 kinds ≡ read_all (λ _ _. false) 0 kinds
    → (n : ℕ) → waits_in k (kind_at n).when_stopped ≡ false
stopped-not-on k same = on-numbers (λ _ x. waits_in k x.when_stopped) (λ _ _. false) same (λ n e. ap (λ (x : Kind). is_in k x.chain) e)

pub stopped-not-in : (k : Chain) (n : ℕ) → waits_in k (kind_at n).when_stopped ≡ false
stopped-not-in ByTicks = stopped-not-on ByTicks refl
stopped-not-in ByDate = stopped-not-on ByDate refl
stopped-not-in Queue = stopped-not-on Queue refl

-- the start was periodic
abbrev pub periodic : Option Mode → Bool
periodic none = false
periodic (some m) = is_periodic m

-- a timer that fired waits again where it is periodic, in the interval chain, and where it is a server timer, in the queue
pub again-by-ticks : (n : ℕ) → waits_in ByTicks n ≡ true → waits_in ByTicks (kind_at n).when_fired ≡ periodic (kind_at n).last
again-by-ticks = of-chain ByTicks (λ x. waits_in ByTicks x.when_fired) (λ x. periodic x.last) refl

pub ticks-queued : (n : ℕ) → waits_in ByTicks n ≡ true → waits_in Queue (kind_at n).when_fired ≡ for_server (kind_at n).last
ticks-queued = of-chain ByTicks (λ x. waits_in Queue x.when_fired) (λ x. for_server x.last) refl

pub dated-queued : (n : ℕ) → waits_in ByDate n ≡ true → waits_in Queue (kind_at n).when_fired ≡ for_server (kind_at n).last
dated-queued = of-chain ByDate (λ x. waits_in Queue x.when_fired) (λ x. for_server x.last) refl

-- none waits in the dated chain; none that was in it waits for ticks, and none that was queued waits
pub again-not-dated : (n : ℕ) → waits_in ByDate (kind_at n).when_fired ≡ false
again-not-dated = on-numbers (λ _ x. waits_in ByDate x.when_fired) (λ _ _. false) refl (λ n e. ap (λ (x : Kind). is_in ByDate x.chain) e)

pub dated-not-again : (n : ℕ) → waits_in ByDate n ≡ true → waits_in ByTicks (kind_at n).when_fired ≡ false
dated-not-again = of-chain ByDate (λ x. waits_in ByTicks x.when_fired) (λ _. false) refl

pub queued-not-again : (k : Chain) (n : ℕ) → waits_in Queue n ≡ true → waits_in k (kind_at n).when_fired ≡ false
queued-not-again ByTicks = of-chain Queue (λ x. waits_in ByTicks x.when_fired) (λ _. false) refl
queued-not-again ByDate = of-chain Queue (λ x. waits_in ByDate x.when_fired) (λ _. false) refl
queued-not-again Queue = of-chain Queue (λ x. waits_in Queue x.when_fired) (λ _. false) refl

-- a timer in the interval chain was last started by interval
pub in-ticks : (n : ℕ) → waits_in ByTicks n ≡ true → last_by_ticks n ≡ true
in-ticks = of-chain ByTicks (λ x. by_ticks x.last) (λ _. true) refl

-- to stop and to fire leave a slot free or not
pub stopped-free : (n : ℕ) → eqb (kind_at n).when_stopped 0 ≡ eqb n 0
stopped-free = on-numbers (λ _ x. eqb x.when_stopped 0) (λ n _. eqb n 0) refl (λ n e. refl)

pub fired-free : (n : ℕ) → eqb (kind_at n).when_fired 0 ≡ eqb n 0
fired-free = on-numbers (λ _ x. eqb x.when_fired 0) (λ n _. eqb n 0) refl (λ n e. refl)

-- a timer in no chain has nothing to stop
pub stays : (n : ℕ) → is_some (kind_at n).chain ≡ false → (kind_at n).when_stopped ≡ n
stays n e =
    ap (λ (b : Bool). cond b n (kind_at n).when_stopped) (sym e)
    ∙ on-numbers (λ n x. cond (is_some x.chain) n x.when_stopped) (λ n _. n) refl (λ n e. refl) n

-- to stop and to fire leave how the timer was started
pub stopped-last : (n : ℕ) → (kind_at (kind_at n).when_stopped).last ≡ (kind_at n).last
stopped-last = on-numbers (λ _ x. (kind_at x.when_stopped).last) (λ _ x. x.last) refl (λ n e. ap (λ (x : Kind). x.last) e)

pub fired-last : (n : ℕ) → (kind_at (kind_at n).when_fired).last ≡ (kind_at n).last
fired-last = on-numbers (λ _ x. (kind_at x.when_fired).last) (λ _ x. x.last) refl (λ n e. ap (λ (x : Kind). x.last) e)

-- free stays free, never started stays so, started stays started, and none becomes a server timer that was none
pub record Alike (n m : ℕ) : Type 0 where
  pub is-kind : m < length kinds
  pub low : n ≤ 1 → m ≡ n
  pub high : 2 ≤ n → 2 ≤ m
  pub server : 8 ≤ m → 8 ≤ n

abbrev alike_tests : ℕ → ℕ → List Bool
alike_tests n m = ltb m (length kinds) ∷ cond (leb n 1) (eqb m n) (leb 2 m) ∷ cond (leb 8 m) (leb 8 n) true ∷ []

alike : (n m : ℕ) → all_of (alike_tests n m) ≡ true → Alike n m
alike n m e =
    let t = all-at (alike_tests n m) e in
    record {
      is-kind = ltb-true m (length kinds) (t 0);
      low = λ p. eqb-true m n (subst (λ (b : Bool). cond b (eqb m n) (leb 2 m) ≡ true) (le-leb n 1 p) (t 1));
      high = λ p. leb-true 2 m (subst (λ (b : Bool). cond b (eqb m n) (leb 2 m) ≡ true) (lt-leb n 1 p) (t 1));
      server = λ p. leb-true 8 n (subst (λ (b : Bool). cond b (leb 8 n) true ≡ true) (le-leb 8 m p) (t 2));
    }

pub stopped-alike : (n : ℕ) → n < length kinds → Alike n (kind_at n).when_stopped
stopped-alike n p = alike n (kind_at n).when_stopped (on-kinds (λ n x. all_of (alike_tests n x.when_stopped)) (λ _ _. true) refl n p)

pub fired-alike : (n : ℕ) → n < length kinds → Alike n (kind_at n).when_fired
fired-alike n p = alike n (kind_at n).when_fired (on-kinds (λ n x. all_of (alike_tests n x.when_fired)) (λ _ _. true) refl n p)

-- a timer that is started again as it was becomes no server timer, where it was none
abbrev again_test : ℕ → Kind → Bool
again_test n x = cond (leb 8 (waiting_kind (mode_or_after x.last))) (leb 8 n) true

pub again-server : (n : ℕ) → n < length kinds → 8 ≤ waiting_kind (mode_or_after (kind_at n).last) → 8 ≤ n
again-server n p q =
    leb-true 8 n (subst (λ (b : Bool). cond b (leb 8 n) true ≡ true) (le-leb 8 (waiting_kind (mode_or_after (kind_at n).last)) q)
    (on-kinds again_test (λ _ _. true) refl n p))

-- a timer that was last started by ticks has been started
pub timed-started : (n : ℕ) → last_by_ticks n ≡ true → 2 ≤ n
timed-started zero e = clash (sym e)
timed-started (suc zero) e = clash (sym e)
timed-started (suc (suc n)) e = omega arith

-- ---- modes

pub timed-mode : (o : Option Mode) → by_ticks o ≡ true → chain_for (mode_or_after o) ≡ ByTicks
timed-mode none e = clash (sym e)
timed-mode (some m) e = sym (same-chain ByTicks (chain_for m) e)

pub timed-last : (o : Option Mode) → by_ticks o ≡ true → o ≡ some (mode_or_after o)
timed-last none e = clash (sym e)
timed-last (some m) e = refl

pub mode-in : (m : Mode) (k : Chain) → waits_in k (waiting_kind m) ≡ same_chain k (chain_for m)
mode-in After k = refl
mode-in When k = refl
mode-in Every k = refl
mode-in ServerAfter k = refl
mode-in ServerWhen k = refl

pub mode-last : (m : Mode) → (kind_at (waiting_kind m)).last ≡ some m
mode-last After = refl
mode-last When = refl
mode-last Every = refl
mode-last ServerAfter = refl
mode-last ServerWhen = refl

pub mode-kind : (m : Mode) → (2 ≤ waiting_kind m) × (waiting_kind m < length kinds)
mode-kind After = (omega arith, omega arith)
mode-kind When = (omega arith, omega arith)
mode-kind Every = (omega arith, omega arith)
mode-kind ServerAfter = (omega arith, omega arith)
mode-kind ServerWhen = (omega arith, omega arith)

-- no start waits in the queue
pub not-queue : (m : Mode) → same_chain Queue (chain_for m) ≡ false
not-queue After = refl
not-queue When = refl
not-queue Every = refl
not-queue ServerAfter = refl
not-queue ServerWhen = refl
