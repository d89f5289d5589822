-- What a block leaves in arrays.
use Rattle.std.proofs.Common.{◌≡◌, ℕ, zero, suc, ◌+◌, ◌≤◌, Bool, true, false, nat_eq, if◌then◌else◌, List, [], ◌++◌, length, Option, Some, ℤ, refl, sym, ap, ◌∙◌, arith}
use Rattle.std.proofs.Common.{append-nil, append_assoc}
use Rattle.std.specs.Prelude.{slice_get, slice_index}
use Rattle.lists.proofs.Places.{get_there}
use Rattle.interleaving.specs.Memory.{Memory, Access, memory_after}
use Rattle.interleaving.proofs.Accesses.{memory_after-append}
use Rattle.c_program.specs.declared.tree.BinaryOperator.{BinaryOperator}
use Rattle.c_program.specs.declared.tree.BinaryOperator.TheVariants as operator
use Rattle.block_ir.specs.declared.block.Operation.{Operation}
use Rattle.block_ir.specs.declared.block.Operation.TheVariants.{Unary, Binary, ReadGlobal, WriteGlobal, ReadArray, WriteArray}
use Rattle.block_ir.specs.declared.block.Block.{Block}
use Rattle.block_ir.specs.declared.plan.BlockPlan.{BlockPlan}
use Rattle.planned_block.specs.Block.{Operation as PlannedOperation}
use Rattle.planned_block.specs.Run.{array_access}
use Rattle.planned_block.specs.Slot.{Slot, value_now, operand_now, starts_now, array_access_now, accesses_where, arrays_next}
use Rattle.plan_blocks.specs.View.{operation_view, planned_view, plan_view, binary_kind}
use Rattle.plan_blocks.proofs.ViewRuns.{size-view}
use Rattle.thread_promise.specs.Slots.{element_at}
use Rattle.block_datapath.proofs.OperationValues.{listed_view}
use Rattle.thread_slots.specs.Cells.{cell_after, cell_at, cells_first}

-- ---- what a slot's arrays become

where_last : (f : ℕ → Bool) (g : ℕ → List (Access ℤ)) (count k : ℕ) → accesses_where f g (suc count) k ≡ accesses_where f g count k ++ (if f (k + count) then g (k + count) else [])
where_last f g zero k = let e : k ≡ k + 0 = omega arith in append-nil (if f k then g k else []) ∙ ap (λ i. if f i then g i else []) e
where_last f g (suc count) k =
    let e : suc k + count ≡ k + suc count = omega arith in
    ap (λ l. (if f k then g k else []) ++ l) (where_last f g count (suc k) ∙ ap (λ i. accesses_where f g count (suc k) ++ (if f i then g i else [])) e)
    ∙ sym (append_assoc (if f k then g k else []) (accesses_where f g count (suc k)) (if f (k + suc count) then g (k + suc count) else []))

binary_none : (o : BinaryOperator) (f : ℤ → ℤ → ℤ) (l r : ℤ) → array_access (binary_kind o f) l r ≡ []
binary_none operator.Multiply f l r = refl
binary_none operator.Divide f l r = refl
binary_none operator.Remainder f l r = refl
binary_none _ f l r = refl

module _ (b : Block) (p : BlockPlan) (q : Slot) (wire : ℕ → ℤ) where
  abbrev pub given : ℕ → ℤ
  given = value_now (planned_view b) (plan_view b p) q wire

  -- what one operation does to an element
  one_cell : (o : Operation) (arrays : Memory ℤ) (a j : ℕ)
      → memory_after (array_access (operation_view o).kind (operand_now (planned_view b) (plan_view b p) q wire (operation_view o).left)
      (operand_now (planned_view b) (plan_view b p) q wire (operation_view o).right)) arrays (element_at a j)
      ≡ cell_after q.variables given o a j (arrays (element_at a j))
  one_cell (Unary op ty x) arrays a j = refl
  one_cell (Binary op ty x y) arrays a j = ap (λ (es : List (Access ℤ)). memory_after es arrays (element_at a j)) (binary_none op _ _ _)
  one_cell (ReadGlobal x n i) arrays a j = refl
  one_cell (WriteGlobal x n i w) arrays a j = refl
  one_cell (ReadArray x n i) arrays a j = refl
  one_cell (WriteArray x n i w) arrays a j = refl

  abbrev accesses : ℕ → List (Access ℤ)
  accesses n = accesses_where (starts_now (planned_view b) (plan_view b p) q) (array_access_now (planned_view b) (plan_view b p) q wire) n 0

  abbrev pub cells : ℕ → ℕ → ℕ → ℤ → ℤ
  cells n = cells_first b.operations p.starts q.state q.variables given n

  pub arrays_are : (n : ℕ) (a j : ℕ) → n ≤ length b.operations → memory_after (accesses n) q.arrays (element_at a j) ≡ cells n a j (q.arrays (element_at a j))
  arrays_are zero a j le = refl
  arrays_are (suc n) a j le =
      let before = arrays_are n a j (omega arith) in
      let found = get_there b.operations n (omega arith) in
      ap (λ (es : List (Access ℤ)). memory_after es q.arrays (element_at a j))
      (where_last (starts_now (planned_view b) (plan_view b p) q) (array_access_now (planned_view b) (plan_view b p) q wire) n 0)
      ∙ ap (λ (m : Memory ℤ). m (element_at a j))
      (memory_after-append (accesses n) (if starts_now (planned_view b) (plan_view b p) q (0 + n) then array_access_now (planned_view b) (plan_view b p) q wire (0 + n) else [])
      q.arrays)
      ∙ ap (λ i. memory_after (if starts_now (planned_view b) (plan_view b p) q i then array_access_now (planned_view b) (plan_view b p) q wire i else [])
      (memory_after (accesses n) q.arrays) (element_at a j))
      (let z : 0 + n ≡ n = omega arith in z)
      ∙ by_test (nat_eq (slice_index p.starts n) q.state) found.0 found.1 before
    where
      by_test : (t : Bool) (o : Operation) → slice_get b.operations n ≡ Some o → memory_after (accesses n) q.arrays (element_at a j) ≡ cells n a j (q.arrays (element_at a j))
          → memory_after (if t then array_access_now (planned_view b) (plan_view b p) q wire n else []) (memory_after (accesses n) q.arrays) (element_at a j)
          ≡ (if t then cell_at q.variables given (slice_get b.operations n) a j (cells n a j (q.arrays (element_at a j))) else cells n a j (q.arrays (element_at a j)))
      by_test false o listed before = before
      by_test true o listed before =
          ap (λ (z : PlannedOperation). memory_after (array_access z.kind (operand_now (planned_view b) (plan_view b p) q wire z.left)
          (operand_now (planned_view b) (plan_view b p) q wire z.right))
          (memory_after (accesses n) q.arrays) (element_at a j)) (listed_view b.operations n o listed)
          ∙ one_cell o (memory_after (accesses n) q.arrays) a j
          ∙ ap (cell_after q.variables given o a j) before
          ∙ ap (λ (x : Option Operation). cell_at q.variables given x a j (cells n a j (q.arrays (element_at a j)))) (sym listed)

  -- THE ARRAYS when a state is left
  pub next_arrays : (a j : ℕ) → arrays_next (planned_view b) (plan_view b p) q wire (element_at a j) ≡ cells (length b.operations) a j (q.arrays (element_at a j))
  next_arrays a j =
      ap (λ n. memory_after (accesses n) q.arrays (element_at a j)) (size-view b.operations) ∙ arrays_are (length b.operations) a j
      (let z : length b.operations ≤ length b.operations = omega arith in z)
