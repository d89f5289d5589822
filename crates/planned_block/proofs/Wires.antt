-- What the wires of a state show.
use Rattle.std.specs.Prelude.{nat_eq, ℤ, pos, Bool, true, false, if◌then◌else◌, Some}
use Rattle.std.proofs.Common.{inr, ◌≡◌, ◌≢◌, ℕ, zero, suc, ◌+◌, ◌<◌, ◌≤◌, refl, sym, ap, ◌∙◌, ⊎_elim, inl, arith}
use Rattle.std.proofs.lemmas.Bool.{cases_eq}
use Rattle.interleaving.specs.Memory.{Location}
use Rattle.planned_block.specs.Block.{Operand, Constant, Variable, Value, Through, Kind, Simple, Multiply, Divide, BankRead, BankWrite, ArrayRead, ArrayWrite}
use Rattle.planned_block.specs.Block.{Block, operation_at, size, operand_value, element, Uses, UsesIn, IsUsedAtEnd}
use Rattle.planned_block.specs.Plan.{Plan, last_state, further_states, KeepsOrders}
use Rattle.planned_block.specs.Run.{computes}
use Rattle.planned_block.specs.Slot.{Slot, register_value, value_now, operand_now, result_of, IsWired}
use Rattle.planned_block.proofs.Bits.{same_is, other_is}

module _ (bank : Location → ℕ) (b : Block) (p : Plan) (keeps : KeepsOrders b p) where
  -- what the registers, the arrays and the words of a slot hold, in a run with these values
  pub record Holds (values : ℕ → ℤ) (q : Slot) : Type 0 where
    pub computed : (k : ℕ) (f : ℤ → ℤ → ℤ) → k < size b → computes (operation_at b k).kind ≡ Some f → values k
        ≡ f (operand_value q.variables values (operation_at b k).left) (operand_value q.variables values (operation_at b k).right)
    pub registers : (k r : ℕ) → k < size b → last_state b p k < q.state → q.state ≤ p.until k → p.register k ≡ Some r → q.registers r ≡ values k
    pub reads : (k x : ℕ) → k < size b → (operation_at b k).kind ≡ ArrayRead x → p.start k ≡ q.state → q.arrays (element x (operand_value q.variables values (operation_at b k).left)) ≡ values k
    pub words : (k x : ℕ) → k < size b → (operation_at b k).kind ≡ BankRead x → last_state b p k ≡ q.state →
        q.words (bank (element x (operand_value q.variables values (operation_at b k).left))) ≡ values k

  module _ (values : ℕ → ℤ) (q : Slot) (holds : Holds values q) (wire : ℕ → ℤ) where
    -- a value that is used in this state is on its wire or in its register
    value_right : (j : ℕ) → j < size b → last_state b p j ≤ q.state → q.state ≤ p.until j → (last_state b p j ≡ q.state → wire j ≡ values j) → value_now b p q wire j ≡ values j
    value_right j lt le used here = ⊎_elim now before (cases_eq (last_state b p j) q.state)
      where
        now : last_state b p j ≡ q.state → value_now b p q wire j ≡ values j
        now e =
            let t : nat_eq (last_state b p j) q.state ≡ true = same_is (last_state b p j) q.state e in
            ap (λ (c : Bool). if c then wire j else register_value q.registers (p.register j)) t ∙ here e

        before : last_state b p j ≢ q.state → value_now b p q wire j ≡ values j
        before ne =
            let t : nat_eq (last_state b p j) q.state ≡ false = other_is (last_state b p j) q.state ne in
            let less : last_state b p j < q.state = omega arith in
            let has = keeps.has j lt (omega arith) in
            ap (λ (c : Bool). if c then wire j else register_value q.registers (p.register j)) t
            ∙ ap (register_value q.registers) has.1
            ∙ holds.registers j has.0 lt less used has.1

    pub operand_right : (o : Operand) → ((j : ℕ) → UsesIn o j → value_now b p q wire j ≡ values j) → operand_now b p q wire o ≡ operand_value q.variables values o
    operand_right (Constant n) each = refl
    operand_right (Variable x) each = refl
    operand_right (Value j) each = each j refl
    operand_right (Through f o) each = ap f (operand_right o each)

    module _ (wired : IsWired bank b p q wire) where
      -- an operation at work in this state has its operands
      uses_right : (k j : ℕ) → k < size b → p.start k ≤ q.state → q.state ≤ last_state b p k → ((i : ℕ) → i < k → last_state b p i ≡ q.state → wire i ≡ values i) →
          Uses (operation_at b k) j → value_now b p q wire j ≡ values j
      uses_right k j lt from to below u =
          let early = keeps.earlier j k lt u in
          let waits = keeps.waits j k lt u in
          let used = keeps.used j k lt u in
          value_right j (omega arith) (omega arith) (omega arith) (λ s. below j early s)

      given_right : (k : ℕ) (kind : Kind) (l r : ℤ) → (operation_at b k).kind ≡ kind → k < size b → last_state b p k ≡ q.state → l
          ≡ operand_value q.variables values (operation_at b k).left → r ≡ operand_value q.variables values (operation_at b k).right → result_of bank kind q.words q.arrays l r ≡ values k
      given_right k (Simple f) l r e lt s el er = ap (λ x. f x r) el ∙ ap (λ x. f (operand_value q.variables values (operation_at b k).left) x) er ∙ sym (holds.computed k f lt (ap computes e))
      given_right k (Multiply f) l r e lt s el er = ap (λ x. f x r) el ∙ ap (λ x. f (operand_value q.variables values (operation_at b k).left) x) er ∙ sym (holds.computed k f lt (ap computes e))
      given_right k (Divide f) l r e lt s el er = ap (λ x. f x r) el ∙ ap (λ x. f (operand_value q.variables values (operation_at b k).left) x) er ∙ sym (holds.computed k f lt (ap computes e))
      given_right k (BankRead x) l r e lt s el er = ap (λ y. q.words (bank (element x y))) el ∙ holds.words k x lt e s
      given_right k (BankWrite x) l r e lt s el er = sym (holds.computed k (λ l r. pos 0) lt (ap computes e))
      given_right k (ArrayRead x) l r e lt s el er = ap (λ y. q.arrays (element x y)) el
          ∙ holds.reads k x lt e (let t : p.start k + further_states (operation_at b k).kind ≡ p.start k + 0 = ap (λ y. p.start k + further_states y) e in omega arith)
      given_right k (ArrayWrite x) l r e lt s el er = sym (holds.computed k (λ l r. pos 0) lt (ap computes e))

      wires_below : (n k : ℕ) → k < n → k < size b → last_state b p k ≡ q.state → wire k ≡ values k
      wires_below zero k below lt s = absurd (omega arith)
      wires_below (suc n) k below lt s =
          let each : (i : ℕ) → i < k → last_state b p i ≡ q.state → wire i ≡ values i = λ i less z. wires_below n i (omega arith) (omega arith) z in
          let from : p.start k ≤ q.state = omega arith in
          wired k lt s
          ∙ given_right k (operation_at b k).kind (operand_now b p q wire (operation_at b k).left) (operand_now b p q wire (operation_at b k).right) refl lt s
          (operand_right (operation_at b k).left (λ j u. uses_right k j lt from (omega arith) each (inl u)))
          (operand_right (operation_at b k).right (λ j u. uses_right k j lt from (omega arith) each (inr u)))

      -- each wire of an operation in its last state has the value of the run
      pub wire_right : (k : ℕ) → k < size b → last_state b p k ≡ q.state → wire k ≡ values k
      wire_right k lt s = wires_below (suc k) k (omega arith) lt s

      pub left_right : (k : ℕ) → k < size b → p.start k ≤ q.state → q.state ≤ last_state b p k → operand_now b p q wire (operation_at b k).left
          ≡ operand_value q.variables values (operation_at b k).left
      left_right k lt from to = operand_right (operation_at b k).left (λ j u. uses_right k j lt from to (λ i less z. wire_right i (omega arith) z) (inl u))

      pub right_right : (k : ℕ) → k < size b → p.start k ≤ q.state → q.state ≤ last_state b p k → operand_now b p q wire (operation_at b k).right
          ≡ operand_value q.variables values (operation_at b k).right
      right_right k lt from to = operand_right (operation_at b k).right (λ j u. uses_right k j lt from to (λ i less z. wire_right i (omega arith) z) (inr u))

      -- in the last state of the block all that is used later is there
      pub final_right : suc q.state ≡ p.states → (k : ℕ) → IsUsedAtEnd b k → value_now b p q wire k ≡ values k
      final_right at_end k u =
          let lt = keeps.final k u in
          let ends = keeps.ends k lt in
          let used = keeps.used_last k u in
          value_right k lt (omega arith) (omega arith) (λ s. wire_right k lt s)
