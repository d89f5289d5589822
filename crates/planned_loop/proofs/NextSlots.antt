-- The function of a slot in a loop does what the relation says.
use Rattle.std.specs.Prelude.{ℤ, nat_eq, Bool, true, false, ◌&&◌, if◌then◌else◌}
use Rattle.std.proofs.Common.{◌≡◌, ℕ, zero, suc, ◌+◌, ◌-◌, ◌*◌, ◌<◌, ◌≤◌, refl, sym, ap, ◌∙◌, subst, ◌⊎◌, inl, inr, arith}
use Rattle.planned_block.specs.Block.{Operand, operation_at, size, UsesIn, Uses, finished}
use Rattle.planned_block.specs.Run.{value_of}
use Rattle.planned_block.specs.Slot.{Slot}
use Rattle.planned_block.proofs.Bits.{same_is, other_is, is_same, both_true}
use Rattle.planned_loop.specs.Loop.{Loop, nothing, Iterations, operand_in}
use Rattle.planned_loop.specs.Plan.{LoopPlan, IsOperand, Comes, IsBefore, IsBeside, KeepsLoop}
use Rattle.planned_loop.specs.Move.{flag, smaller, prologue, late, value_ahead, variables_ahead, operand_ahead, is_in, goes_round, is_last, Works, GoesOn}
use Rattle.planned_loop.specs.Move.{Rounds}
use Rattle.planned_loop.specs.Next.{Owner, AreOwners, wires_after, wires, register_next, loop_next, LoopMoves}
use Rattle.planned_loop.proofs.OperandsAhead.{operand_right}

module _ (l : Loop) (p : LoopPlan) (begun ph : ℕ) (q : Slot) where
  -- the other wires, as if they were iterations
  abbrev as_iterations : (ℕ → ℤ) → Iterations
  as_iterations wire = record { variables = variables_ahead l p begun ph q wire; value = value_ahead l p begun ph q wire; content = λ n k. q.arrays }

  -- an operand is the same under wires that are the same for what it is made of
  operand_two : (v w : ℕ → ℤ) (d : ℕ) (a : Operand) →
      ((t i : ℕ) → t ≤ d → Comes l.block.finals t a i → value_ahead l p begun ph q v (d - t) i ≡ value_ahead l p begun ph q w (d - t) i) →
      operand_ahead l p begun ph q v d a ≡ operand_ahead l p begun ph q w d a
  operand_two v w d a same =
      let it = as_iterations w in
      let z : 0 + d ≡ d = omega arith in
      operand_right l p it (λ n x. refl) 0 begun ph q v (λ x. refl) d a
      (λ t i le c. (let y : 0 + (d - t) ≡ d - t = omega arith in same t i le c ∙ ap (λ k. value_ahead l p begun ph q w k i) (sym y)))
      ∙ ap (λ k. operand_in l it k a) z

  value_two : (v w : ℕ → ℤ) (d i : ℕ) → (p.stage i + d ≡ begun → p.phase i ≡ ph → v i ≡ w i) →
      value_ahead l p begun ph q v d i ≡ value_ahead l p begun ph q w d i
  value_two v w d i same = by_test (nat_eq (p.stage i + d) begun && nat_eq (p.phase i) ph) refl
    where
      by_test : (b : Bool) → (nat_eq (p.stage i + d) begun && nat_eq (p.phase i) ph) ≡ b →
          (if b then v i else q.registers (p.register i (begun - (d + p.stage i + late l p i ph)))) ≡
          (if b then w i else q.registers (p.register i (begun - (d + p.stage i + late l p i ph))))
      by_test true e =
          let two = both_true (nat_eq (p.stage i + d) begun) (nat_eq (p.phase i) ph) e in
          same (is_same (p.stage i + d) begun two.0) (is_same (p.phase i) ph two.1)
      by_test false e = refl

module _ (l : Loop) (p : LoopPlan) (owner : ℕ → Owner) (exit round ph : ℕ) (q : Slot) (keeps : KeepsLoop l p) (owners : AreOwners l p owner) where
  abbrev now : ℕ
  now = smaller round (p.stages - 1)

  abbrev after : ℕ → ℕ → ℤ
  after n = wires_after l p owner exit round ph q n

  operand_uses : (k i : ℕ) (a : Operand) → IsOperand (operation_at l.block k) a → UsesIn a i → Uses (operation_at l.block k) i
  operand_uses k i a (inl e) u = inl (subst (λ z. UsesIn z i) e u)
  operand_uses k i a (inr e) u = inr (subst (λ z. UsesIn z i) e u)

  -- what is given in the same state is an earlier operation
  earlier_there : (k t i : ℕ) (a : Operand) → k < size l.block → p.phase k ≡ ph → IsOperand (operation_at l.block k) a → t ≤ now - p.stage k →
      Comes l.block.finals t a i →
      p.stage i + ((now - p.stage k) - t) ≡ now → p.phase i ≡ ph → i < k
  earlier_there k zero i a lt here o le c s e = keeps.earlier i k lt (operand_uses k i a o c)
  earlier_there k (suc t) i a lt here o le c s e = by_wait (keeps.waits k (suc t) i a lt o c)
    where
      by_wait : IsBefore l p i k (suc t) ⊎ IsBeside l p i k (suc t) → i < k
      by_wait (inl (inl b)) = absurd (omega arith)
      by_wait (inl (inr b)) = absurd (omega arith)
      by_wait (inr b) = let z = b.0 in absurd (omega arith)

  operand_settled : (k n m : ℕ) (a : Operand) → k < size l.block → p.phase k ≡ ph → IsOperand (operation_at l.block k) a →
      ((i : ℕ) → i < k → p.phase i ≡ ph → after n i ≡ after m i) →
      operand_ahead l p now ph q (after n) (now - p.stage k) a ≡ operand_ahead l p now ph q (after m) (now - p.stage k) a
  operand_settled k n m a lt here o same =
      operand_two l p now ph q (after n) (after m) (now - p.stage k) a
      (λ t i le c. value_two l p now ph q (after n) (after m) ((now - p.stage k) - t) i (λ s e. same i (earlier_there k t i a lt here o le c s e) e))

  settled_below : (bound k n m : ℕ) → k < bound → k < size l.block → p.phase k ≡ ph → k < n → k < m → after n k ≡ after m k
  settled_below zero k n m less lt here a b = absurd (omega arith)
  settled_below (suc bound) k zero m less lt here a b = absurd (omega arith)
  settled_below (suc bound) k (suc n) zero less lt here a b = absurd (omega arith)
  settled_below (suc bound) k (suc n) (suc m) less lt here a b =
      let rest = λ (i : ℕ) (low : i < k) (e : p.phase i ≡ ph). settled_below bound i n m (omega arith) (omega arith) e (omega arith) (omega arith) in
      let o = operation_at l.block k in
      ap (λ z. value_of o.kind q.arrays nothing z (operand_ahead l p now ph q (after n) (now - p.stage k) o.right))
      (operand_settled k n m o.left lt here (inl refl) rest)
      ∙ ap (λ z. value_of o.kind q.arrays nothing (operand_ahead l p now ph q (after m) (now - p.stage k) o.left) z)
      (operand_settled k n m o.right lt here (inr refl) rest)

  abbrev shown : ℕ → ℤ
  shown = wires l p owner exit round ph q

  abbrev next : Slot
  next = loop_next l p owner exit round ph q

  works : Works l p round ph q shown next
  works = record {
    wired = λ k lt here. settled_below (suc k) k (size l.block) (suc (size l.block)) (omega arith) lt here lt (omega arith);
    shifts = λ i d lt inside. ap (λ o. register_next l p owner exit round ph q o (q.registers (p.register i d))) (owners.chains i d lt inside);
    runs = ap (λ o. register_next l p owner exit round ph q o (q.registers (p.bit 0))) (owners.bits 0 keeps.some);
    arrays = refl;
  }

  module _ (within : suc ph < p.interval) where
    not_end : nat_eq (suc ph) p.interval ≡ false
    not_end = other_is (suc ph) p.interval (λ e. omega arith)

    goes : GoesOn l p round ph q shown next
    goes = record {
      works = works;
      within = within;
      state = ap (λ (b : Bool). if b then
          (if goes_round l p round ph q shown then smaller (suc round) (prologue p) * p.interval else 0) else suc q.state) not_end;
      variables = ap (λ (b : Bool). if b && is_last l p round ph q shown then finished
          (operand_ahead l p now ph q shown 0) l.block.finals q.variables else q.variables) not_end;
      bits = λ s lt. ap (λ o. register_next l p owner exit round ph q o (q.registers (p.bit (suc s)))) (owners.bits (suc s) lt)
          ∙ ap (λ (b : Bool). if b then flag (is_in l p round ph q shown s) else q.registers (p.bit (suc s))) not_end;
    }

  module _ (last : suc ph ≡ p.interval) where
    at_end : nat_eq (suc ph) p.interval ≡ true
    at_end = same_is (suc ph) p.interval last

    ends : Rounds l p round ph q shown next
    ends = record {
      works = works;
      last = last;
      variables = ap (λ (b : Bool). if b && is_last l p round ph q shown then finished
          (operand_ahead l p now ph q shown 0) l.block.finals q.variables else q.variables) at_end;
      bits = λ s lt. ap (λ o. register_next l p owner exit round ph q o (q.registers (p.bit (suc s)))) (owners.bits (suc s) lt)
          ∙ ap (λ (b : Bool). if b then flag (is_in l p round ph q shown s) else q.registers (p.bit (suc s))) at_end;
      state = λ g. ap (λ (b : Bool). if b then
          (if goes_round l p round ph q shown then smaller (suc round) (prologue p) * p.interval else 0) else suc q.state) at_end
          ∙ ap (λ (b : Bool). if b then smaller (suc round) (prologue p) * p.interval else 0) g;
    }

pub loop_moves : LoopMoves
loop_moves l p owner exit round ph q keeps owners = (λ w. goes l p owner exit round ph q keeps owners w, λ e. ends l p owner exit round ph q keeps owners e)
