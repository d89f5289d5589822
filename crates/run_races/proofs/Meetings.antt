-- Two threads that come to a barrier one behind the other, in either order: the barrier stands the same but for the order
-- of its waiters, and the same threads have heard of each earlier step.
use Rattle.std.proofs.Common.{◌≡◌, ℕ, suc, ◌+◌, List, [], ◌∷◌, length, refl, ap, ap₂, sym, ◌∙◌}
use Rattle.std.specs.Prelude.{Bool, true, false, ◌&&◌, ◌||◌, if◌then◌else◌, nat_eq, Option, Some, ℤ, unsigned_abs}
use Rattle.std.specs.List.{list_any}
use Rattle.thread_semantics.specs.State.{Barrier, NoBarrier, Awaits}
use Rattle.run_races.specs.Order.{is_in, let_go}
use Rattle.run_races.proofs.Effects.{come_to}

-- two lists of threads with the same members, and as many
pub record SameThreads (ws vs : List ℕ) : Type 0 where
  pub lengths : length ws ≡ length vs
  pub any : (p : ℕ → Bool) → list_any p ws ≡ list_any p vs

pub same_threads : (ws : List ℕ) → SameThreads ws ws
same_threads ws = record { lengths = refl; any = λ p. refl }

pub or_swap : (a b c : Bool) → (a || (b || c)) ≡ (b || (a || c))
or_swap true true c = refl
or_swap true false c = refl
or_swap false b c = refl

pub swapped : (i j : ℕ) (ws : List ℕ) → SameThreads (i ∷ j ∷ ws) (j ∷ i ∷ ws)
swapped i j ws = record { lengths = refl; any = λ p. or_swap (p i) (p j) (list_any p ws) }

pub one_more : (i : ℕ) (ws vs : List ℕ) → SameThreads ws vs → SameThreads (i ∷ ws) (i ∷ vs)
one_more i ws vs x = record { lengths = ap suc x.lengths; any = λ p. ap (λ b. p i || b) (x.any p) }

-- barriers that differ in the order of the waiters alone
pub data AlikeBarrier : Barrier → Barrier → Type 0 where
  NoBarriers : AlikeBarrier NoBarrier NoBarrier
  Waiters : (count : ℤ) (ws vs : List ℕ) (same : SameThreads ws vs) → AlikeBarrier (Awaits count ws) (Awaits count vs)

pub alike_self : (b : Barrier) → AlikeBarrier b b
alike_self NoBarrier = NoBarriers
alike_self (Awaits count ws) = Waiters count ws ws (same_threads ws)

-- whether thread i opens the barrier that it comes to
abbrev pub opens : ℤ → List ℕ → Bool
opens count ws = nat_eq (length ws + 1) (unsigned_abs count)

opens_alike : (count : ℤ) (ws vs : List ℕ) → SameThreads ws vs → opens count ws ≡ opens count vs
opens_alike count ws vs x = ap (λ n. nat_eq (n + 1) (unsigned_abs count)) x.lengths

-- one thread comes to two such barriers
pub come_alike : (i : ℕ) (count : ℤ) (ws vs : List ℕ) → SameThreads ws vs → AlikeBarrier (come_to i count ws) (come_to i count vs)
come_alike i count ws vs x = go (opens count ws) (opens count vs) (opens_alike count ws vs x)
  where
    go : (a b : Bool) → a ≡ b → AlikeBarrier (if a then Awaits count [] else Awaits count (i ∷ ws)) (if b then Awaits count [] else Awaits count (i ∷ vs))
    go true true e = Waiters count [] [] (same_threads [])
    go false false e = Waiters count (i ∷ ws) (i ∷ vs) (one_more i ws vs x)
    go true false e = absurd cc
    go false true e = absurd cc

-- two threads come to one barrier of which the first doesn't open it
pub both_come : (i j : ℕ) (count : ℤ) (ws : List ℕ) → AlikeBarrier (come_to i count (j ∷ ws)) (come_to j count (i ∷ ws))
both_come i j count ws = go (opens count (j ∷ ws)) (opens count (i ∷ ws)) refl
  where
    go : (a b : Bool) → a ≡ b → AlikeBarrier (if a then Awaits count [] else Awaits count (i ∷ j ∷ ws)) (if b then Awaits count [] else Awaits count (j ∷ i ∷ ws))
    go true true e = Waiters count [] [] (same_threads [])
    go false false e = Waiters count (i ∷ j ∷ ws) (j ∷ i ∷ ws) (swapped i j ws)
    go true false e = absurd cc
    go false true e = absurd cc

-- what thread k has heard of where thread i comes to a barrier
abbrev pub heard_there : ℕ → Option Barrier → (ℕ → Bool) → ℕ → Bool
heard_there i o heard k = heard k || (is_in k (let_go i o) && list_any heard (let_go i o))

-- whom a barrier lets go
let_go_same : (i : ℕ) (count : ℤ) (ws vs : List ℕ) → SameThreads ws vs → SameThreads (let_go i (Some (Awaits count ws))) (let_go i (Some (Awaits count vs)))
let_go_same i count ws vs x = go (opens count ws) (opens count vs) (opens_alike count ws vs x)
  where
    go : (a b : Bool) → a ≡ b → SameThreads (if a then i ∷ ws else []) (if b then i ∷ vs else [])
    go true true e = one_more i ws vs x
    go false false e = same_threads []
    go true false e = absurd cc
    go false true e = absurd cc

let_go_swapped : (i j : ℕ) (count : ℤ) (ws : List ℕ) → SameThreads (let_go i (Some (Awaits count (j ∷ ws)))) (let_go j (Some (Awaits count (i ∷ ws))))
let_go_swapped i j count ws = go (opens count (j ∷ ws)) (opens count (i ∷ ws)) refl
  where
    go : (a b : Bool) → a ≡ b → SameThreads (if a then i ∷ j ∷ ws else []) (if b then j ∷ i ∷ ws else [])
    go true true e = swapped i j ws
    go false false e = same_threads []
    go true false e = absurd cc
    go false true e = absurd cc

-- with as many members, and the same, the same threads hear
same_heard : (ws vs : List ℕ) (heard : ℕ → Bool) (k : ℕ) → SameThreads ws vs →
    (heard k || (is_in k ws && list_any heard ws)) ≡ (heard k || (is_in k vs && list_any heard vs))
same_heard ws vs heard k x = ap₂ (λ (a b : Bool). heard k || (a && b)) (x.any (nat_eq k)) (x.any heard)

-- a barrier that stays shut tells nobody anything
pub shut_tells : (i : ℕ) (count : ℤ) (ws : List ℕ) (heard : ℕ → Bool) → opens count ws ≡ false → heard_there i (Some (Awaits count ws)) heard ≡ heard
shut_tells i count ws heard shut = λ d k. go (opens count ws) shut (heard k) k d
  where
    nothing : (a : Bool) → (a || false) ≡ a
    nothing true = refl
    nothing false = refl

    go : (b : Bool) → b ≡ false → (a : Bool) (k : ℕ) → (a || (is_in k (if b then i ∷ ws else []) && list_any heard (if b then i ∷ ws else []))) ≡ a
    go true e a k = absurd cc
    go false e a k = nothing a

-- in either order the same threads have heard
pub meeting_tells : (i j : ℕ) (count : ℤ) (ws : List ℕ) (heard : ℕ → Bool) (k : ℕ) → opens count ws ≡ false →
    heard_there i (Some (Awaits count (j ∷ ws))) (heard_there j (Some (Awaits count ws)) heard) k
    ≡ heard_there j (Some (Awaits count (i ∷ ws))) (heard_there i (Some (Awaits count ws)) heard) k
meeting_tells i j count ws heard k shut =
    ap (λ (h : ℕ → Bool). heard_there i (Some (Awaits count (j ∷ ws))) h k) (shut_tells j count ws heard shut)
    ∙ same_heard (let_go i (Some (Awaits count (j ∷ ws)))) (let_go j (Some (Awaits count (i ∷ ws)))) heard k (let_go_swapped i j count ws)
    ∙ sym (ap (λ (h : ℕ → Bool). heard_there j (Some (Awaits count (i ∷ ws))) h k) (shut_tells i count ws heard shut))

-- and at barriers that differ in the order of the waiters alone
pub alike_tells : (i : ℕ) (a b : Barrier) (heard : ℕ → Bool) (k : ℕ) → AlikeBarrier a b → heard_there i (Some a) heard k ≡ heard_there i (Some b) heard k
alike_tells i _ _ heard k NoBarriers = refl
alike_tells i _ _ heard k (Waiters count ws vs same) =
    same_heard (let_go i (Some (Awaits count ws))) (let_go i (Some (Awaits count vs))) heard k (let_go_same i count ws vs same)
