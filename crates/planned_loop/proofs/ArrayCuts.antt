-- The local arrays between two writes to one of them.
use Rattle.std.specs.Prelude.{ℤ, nat_eq, ◌&&◌, true, false}
use Rattle.std.proofs.Common.{◌≡◌, ℕ, zero, suc, ◌+◌, ◌-◌, ◌<◌, ◌≤◌, refl, sym, ap, ◌∙◌, subst, ⊎_elim, arith}
use Rattle.interleaving.specs.Memory.{Location, Memory, memory_after, same_location}
use Rattle.planned_block.specs.Block.{Kind, Simple, Multiply, Divide, BankRead, BankWrite, ArrayRead, ArrayWrite, operation_at, size, element}
use Rattle.planned_block.specs.Run.{array_access}
use Rattle.planned_block.specs.Plan.{target_of, OfArray}
use Rattle.planned_block.proofs.Bits.{other_is, less_or_not}
use Rattle.planned_loop.specs.Loop.{Loop, Iterations, operand_in, AreIterations, runs}
use Rattle.planned_loop.specs.Plan.{LoopPlan}
use Rattle.planned_loop.specs.Moment.{WritesTo, IsCut}
use Rattle.planned_loop.proofs.ShownWires.{runs_before}

-- an access that does not write the object leaves its elements
pub access_leaves : (kind : Kind) (l r : ℤ) (m : Memory ℤ) (e : Location) → (target_of kind ≡ OfArray e.object true → ⊥) →
    memory_after (array_access kind l r) m e ≡ m e
access_leaves (Simple f) l r m e not_so = refl
access_leaves (Multiply f) l r m e not_so = refl
access_leaves (Divide f) l r m e not_so = refl
access_leaves (BankRead x) l r m e not_so = refl
access_leaves (BankWrite x) l r m e not_so = refl
access_leaves (ArrayRead x) l r m e not_so = refl
access_leaves (ArrayWrite x) l r m e not_so =
    let f : nat_eq e.object x ≡ false = other_is e.object x (λ s. not_so (ap (λ z. OfArray z true) (sym s))) in
    let g : same_location e (element x l) ≡ false = ap (λ b. b && (nat_eq e.index (element x l).index)) f in
    rw g refl

module _ (l : Loop) (p : LoopPlan) (it : Iterations) (are : AreIterations l it) where
  -- between operations that do not write the object
  segment : (n a c : ℕ) (e : Location) → a + c ≤ size l.block → ((k : ℕ) → a ≤ k → k < a + c → WritesTo l p it e.object k → ⊥) →
      it.content n (a + c) e ≡ it.content n a e
  segment n a zero e le none = let z : a + 0 ≡ a = omega arith in ap (λ (k : ℕ). it.content n k e) z
  segment n a (suc c) e le none =
      let z : a + suc c ≡ suc (a + c) = omega arith in
      let o = operation_at l.block (a + c) in
      ap (λ (k : ℕ). it.content n k e) z ∙ ap (λ (m : Memory ℤ). m e) (are.stored n (a + c) (omega arith))
      ∙ access_leaves o.kind (operand_in l it n o.left) (operand_in l it n o.right) (it.content n (a + c)) e (none (a + c) (omega arith) (omega arith))
      ∙ segment n a c e (omega arith) (λ k low high. none k low (omega arith))

  within_turn : (n a b : ℕ) (e : Location) → a ≤ b → b ≤ size l.block → ((k : ℕ) → a ≤ k → k < b → WritesTo l p it e.object k → ⊥) →
      it.content n b e ≡ it.content n a e
  within_turn n a b e le inside none =
      let z : a + (b - a) ≡ b = omega arith in
      ap (λ (k : ℕ). it.content n k e) (sym z) ∙ segment n a (b - a) e (omega arith) (λ k low high. none k low (omega arith))

  -- over whole iterations
  over_turns : (n c : ℕ) (e : Location) → ((m k : ℕ) → n ≤ m → m < n + c → k < size l.block → WritesTo l p it e.object k → ⊥) →
      it.content (n + c) 0 e ≡ it.content n 0 e
  over_turns n zero e none = let z : n + 0 ≡ n = omega arith in ap (λ (m : ℕ). it.content m 0 e) z
  over_turns n (suc c) e none =
      let z : n + suc c ≡ suc (n + c) = omega arith in
      ap (λ (m : ℕ). it.content m 0 e) z ∙ ap (λ (m : Memory ℤ). m e) (are.arrays (n + c))
      ∙ within_turn (n + c) 0 (size l.block) e (omega arith) (omega arith) (λ k low high. none (n + c) k (omega arith) (omega arith) high)
      ∙ over_turns n c e (λ m k low high. none m k low (omega arith))

  module _ (r ph : ℕ) where
    same_turn : (n a b : ℕ) (e : Location) → a ≤ b → IsCut l p it r ph e.object n a → IsCut l p it r ph e.object n b → it.content n b e ≡ it.content n a e
    same_turn n a b e le c d =
        within_turn n a b e le d.below (λ k low high w. (let x = d.within k high w in c.rest k low (let y = d.below in omega arith) w x.1 x.0))

    later_turn : (n m a b : ℕ) (e : Location) → n < m → runs l it m ≡ true → IsCut l p it r ph e.object n a → IsCut l p it r ph e.object m b →
        it.content m b e ≡ it.content n a e
    later_turn n m a b e less run c d =
        within_turn m 0 b e (omega arith) d.below (λ k low high w. (let x = d.within k high w in c.later m k less (let y = d.below in omega arith) w x.1 x.0))
        ∙ between
        ∙ ap (λ (z : Memory ℤ). z e) (are.arrays n)
        ∙ within_turn n a (size l.block) e c.below (omega arith)
        (λ k low high w. c.rest k low high w (runs_before l p it m (suc n) (omega arith) run) (d.before n k less high w))
      where
        between : it.content m 0 e ≡ it.content (suc n) 0 e
        between =
            let z : suc n + (m - suc n) ≡ m = omega arith in
            ap (λ (k : ℕ). it.content k 0 e) (sym z)
            ∙ over_turns (suc n) (m - suc n) e
            (λ i k low high inside w. c.later i k (omega arith) inside w (runs_before l p it m (suc i) (omega arith) run)
            (d.before i k (omega arith) inside w))

    -- CUTS AGREE: what an object holds between the writes that are past and the others
    pub cuts_agree : (n m a b : ℕ) (e : Location) → runs l it n ≡ true → runs l it m ≡ true → IsCut l p it r ph e.object n a → IsCut l p it r ph e.object m b →
        it.content n a e ≡ it.content m b e
    cuts_agree n m a b e rn rm c d = ⊎_elim
        (λ less. sym (later_turn n m a b e less rm c d))
        (λ ge. ⊎_elim (λ more. later_turn m n b a e more rn d c) (λ le. same (omega arith)) (less_or_not m n))
        (less_or_not n m)
      where
        same : n ≡ m → it.content n a e ≡ it.content m b e
        same s = ⊎_elim
            (λ lt. sym (ap (λ (z : ℕ). it.content z b e) (sym s) ∙ same_turn n a b e (omega arith) c
            (subst (λ (z : ℕ). IsCut l p it r ph e.object z b) (sym s) d)))
            (λ le. same_turn n b a e le (subst (λ (z : ℕ). IsCut l p it r ph e.object z b) (sym s) d) c ∙ ap (λ (z : ℕ). it.content z b e) s)
            (less_or_not a b)
