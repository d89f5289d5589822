-- Operations that ask in a state of a block, and the banks that they ask.
use Rattle.std.proofs.Common.{◌≡◌, ℕ, zero, ◌+◌, ◌/◌, ◌%◌, ◌<◌, ◌≤◌, ◌^◌, nat_eq, Bool, true, false, ◌&&◌, List, slice_get, slice_index, Option, Some, ℤ, pos}
use Rattle.std.proofs.Common.{refl, sym, ap, subst, ◌∙◌, arith}
use Rattle.std.proofs.lemmas.Bool.{and_parts, and_from, eqb-true}
use Rattle.thread_promise.proofs.ViewRuns.{size-view}
use Rattle.lists.proofs.Places.{get_there}
use Rattle.interleaving.specs.Memory.{Location}
use Rattle.hls_ints.specs.Residues.{residue_of, bit_of}
use Rattle.hls_ints.specs.Types.{IntegerType, HasType, width_of}
use Rattle.bank_partition.specs.declared.banks.Spread.{Spread}
use Rattle.block_ir.specs.Arithmetic.{binary_total}
use Rattle.block_ir.specs.Run.{global_read, global_written}
use Rattle.block_ir.specs.declared.operand.Operand.{Operand}
use Rattle.block_ir.specs.declared.block.Operation.{Operation}
use Rattle.block_ir.specs.declared.block.Operation.TheVariants.{Unary, Binary, ReadGlobal, WriteGlobal, ReadArray, WriteArray}
use Rattle.block_ir.specs.declared.block.Block.{Block}
use Rattle.block_ir.specs.declared.code.ThreadCode.{ThreadCode}
use Rattle.block_ir.specs.declared.plan.BlockPlan.{BlockPlan}
use Rattle.planned_block.specs.Block.{Operation as PlannedOperation, operation_at, size, element}
use Rattle.planned_block.specs.Plan.{OfGlobal, target_of}
use Rattle.planned_block.specs.Slot.{Slot, is_request, asks, value_now, operand_now}
use Rattle.planned_block.proofs.Bits.{same_is}
use Rattle.thread_promise.specs.View.{operation_view, binary_kind, planned_view, plan_view}
use Rattle.c_program.specs.declared.tree.BinaryOperator.{BinaryOperator}
use Rattle.c_program.specs.declared.tree.BinaryOperator.TheVariants as operator
use Rattle.thread_promise.specs.Types.{or_int}
use Rattle.thread_promise.specs.Globals.{IsSmallPower, IsAddress, IsAccess, bank_of, wires_now, place_now, bank_now, written_now}
use Rattle.block_datapath.specs.declared.registers.Registers.{Registers}
use Rattle.block_datapath.specs.Operations.{seen_value}
use Rattle.block_datapath.specs.Requests.{Asked}
use Rattle.block_datapath.specs.Accesses.{is_bank, address_in, reaches_bank, asked_of, reaches_now, asked_now, reaches_in, asked_in}
use Rattle.block_datapath.proofs.BankOfElement.{bank_read, bank_written, address_read, address_written}
use Rattle.block_datapath.proofs.OperationValues.{listed_view}

binary_asks_not : (o : BinaryOperator) (f : ℤ → ℤ → ℤ) → is_request (binary_kind o f) ≡ false
binary_asks_not operator.Multiply f = refl
binary_asks_not operator.Divide f = refl
binary_asks_not operator.Remainder f = refl
binary_asks_not _ f = refl

module _ (globals : List IntegerType) (spreads : List Spread) (code : ThreadCode) (registers : Registers) (l : ℕ) (b : Block) (p : BlockPlan) (q : Slot) where
  abbrev wire : ℕ → ℤ
  wire = wires_now spreads b p q

  abbrev value : Operand → ℤ
  value = seen_value q.variables (value_now (planned_view b) (plan_view b p) q wire)

  -- operation k asks: a bank of a global, which it reaches, for an access of the place that it has now
  pub record Asker (k : ℕ) : Type 0 where
    pub global : ℕ
    pub writes : Bool
    pub spread : Spread
    pub listed : slice_get spreads global ≡ Some spread
    pub target : target_of (operation_at (planned_view b) k).kind ≡ OfGlobal global writes
    pub number : ℕ
    pub bank : bank_now spreads b p q k global ≡ spread.first + number % spread.count
    pub reached : reaches_now globals spreads code registers l b p q wire (bank_now spreads b p q k global) k ≡ true
    pub wanted : (asked_now globals spreads code registers l b p q wire k).wants ≡ 1
    pub operation : (asked_now globals spreads code registers l b p q wire k).writes ≡ bit_of writes
    pub address : IsAddress spread (place_now spreads b p q k global).index (asked_now globals spreads code registers l b p q wire k).address
    pub number_written : writes ≡ true → (asked_now globals spreads code registers l b p q wire k).value
        ≡ residue_of (width_of (or_int (slice_get globals global))) (written_now spreads b p q k)

  abbrev operand_of : PlannedOperation → ℤ
  operand_of z = operand_now (planned_view b) (plan_view b p) q wire z.left

  abbrev given : ℕ → ℤ
  given = value_now (planned_view b) (plan_view b p) q wire

  reach_so : (k : ℕ) (o : Operation) (j : ℕ) → slice_get b.operations k ≡ Some o → slice_index p.starts k ≡ q.state → reaches_bank q.variables given globals spreads o j ≡ true
      → reaches_now globals spreads code registers l b p q wire j k ≡ true
  reach_so k o j listed at e =
      and_from (nat_eq q.state (slice_index p.starts k)) (reaches_in q.variables given globals spreads (slice_get b.operations k) j)
      (same_is q.state (slice_index p.starts k) (sym at))
      (ap (λ (s : Option Operation). reaches_in q.variables given globals spreads s j) listed ∙ e)

  module _ (accesses : (k : ℕ) (o : Operation) → slice_get b.operations k ≡ Some o → IsAccess spreads o)
      (powers : (x : ℕ) (s : Spread) → slice_get spreads x ≡ Some s → IsSmallPower s.count) (short : (x : ℕ) (s : Spread) → slice_get spreads x ≡ Some s → s.length ≤ 2 ^ 63)
      (indices : (k x n : ℕ) (i : Operand) → slice_get b.operations k ≡ Some (ReadGlobal x n i) → slice_index p.starts k ≡ q.state → (ty : IntegerType) × HasType ty (value i))
      (targets : (k x n : ℕ) (i a : Operand) → slice_get b.operations k ≡ Some (WriteGlobal x n i a) → slice_index p.starts k ≡ q.state →
      (ty : IntegerType) × HasType ty (value i)) where
    read_asks : (k x n : ℕ) (i : Operand) → slice_get b.operations k ≡ Some (ReadGlobal x n i) → slice_index p.starts k ≡ q.state → Asker k
    read_asks k x n i listed at =
        let own = accesses k (ReadGlobal x n i) listed in
        let power = powers x own.0 own.1 in
        let view : operation_at (planned_view b) k ≡ operation_view (ReadGlobal x n i) = listed_view b.operations k (ReadGlobal x n i) listed in
        let place : place_now spreads b p q k x ≡ element x (pos (global_read n (value i))) = ap (λ (z : PlannedOperation). element x (operand_of z)) view in
        let bank : bank_now spreads b p q k x ≡ own.0.first + residue_of 64 (value i) % own.0.count = ap (bank_of spreads) place ∙ bank_read spreads x own.0 own.1 power n
        (value i) in
        let asked : asked_now globals spreads code registers l b p q wire k ≡ asked_of q.variables given globals spreads (ReadGlobal x n i) =
        ap (asked_in q.variables given globals spreads) listed in
        let typed = indices k x n i listed at in
        record {
          global = x;
          writes = false;
          spread = own.0;
          listed = own.1;
          target = ap (λ (z : PlannedOperation). target_of z.kind) view;
          number = residue_of 64 (value i);
          bank = bank;
          reached =
              reach_so k (ReadGlobal x n i) (bank_now spreads b p q k x) listed at
              (ap (λ (s : Option Spread). is_bank s (residue_of 64 (value i)) (bank_now spreads b p q k x)) own.1
              ∙ same_is (bank_now spreads b p q k x) (own.0.first + residue_of 64 (value i) % own.0.count) bank);
          wanted = ap (λ (z : Asked). z.wants) asked;
          operation = ap (λ (z : Asked). z.writes) asked;
          address =
              subst (λ a. IsAddress own.0 (place_now spreads b p q k x).index a)
              (sym (ap (λ (z : Asked). z.address) asked ∙ ap (λ (s : Option Spread). address_in s (residue_of 64 (value i))) own.1))
              (subst (λ (z : Location). IsAddress own.0 z.index (residue_of 64 (value i) / own.0.count)) (sym place)
              (subst (λ m. IsAddress own.0 (global_read m (value i)) (residue_of 64 (value i) / own.0.count)) own.2
              (address_read own.0 power (short x own.0 own.1) typed.0 (value i) typed.1)));
          number_written = λ no. absurd cc;
        }

    write_asks : (k x n : ℕ) (i a : Operand) → slice_get b.operations k ≡ Some (WriteGlobal x n i a) → slice_index p.starts k ≡ q.state → Asker k
    write_asks k x n i a listed at =
        let own = accesses k (WriteGlobal x n i a) listed in
        let power = powers x own.0 own.1 in
        let view : operation_at (planned_view b) k ≡ operation_view (WriteGlobal x n i a) = listed_view b.operations k (WriteGlobal x n i a) listed in
        let place : place_now spreads b p q k x ≡ element x (pos (global_written n (value i))) = ap (λ (z : PlannedOperation). element x (operand_of z)) view in
        let bank : bank_now spreads b p q k x ≡ own.0.first + residue_of 64 (value i) % own.0.count = ap (bank_of spreads) place ∙ bank_written spreads x own.0 own.1 power n
        (value i) in
        let asked : asked_now globals spreads code registers l b p q wire k ≡ asked_of q.variables given globals spreads (WriteGlobal x n i a) =
        ap (asked_in q.variables given globals spreads) listed in
        let typed = targets k x n i a listed at in
        record {
          global = x;
          writes = true;
          spread = own.0;
          listed = own.1;
          target = ap (λ (z : PlannedOperation). target_of z.kind) view;
          number = residue_of 64 (value i);
          bank = bank;
          reached =
              reach_so k (WriteGlobal x n i a) (bank_now spreads b p q k x) listed at
              (ap (λ (s : Option Spread). is_bank s (residue_of 64 (value i)) (bank_now spreads b p q k x)) own.1
              ∙ same_is (bank_now spreads b p q k x) (own.0.first + residue_of 64 (value i) % own.0.count) bank);
          wanted = ap (λ (z : Asked). z.wants) asked;
          operation = ap (λ (z : Asked). z.writes) asked;
          address =
              subst (λ c. IsAddress own.0 (place_now spreads b p q k x).index c)
              (sym (ap (λ (z : Asked). z.address) asked ∙ ap (λ (s : Option Spread). address_in s (residue_of 64 (value i))) own.1))
              (subst (λ (z : Location). IsAddress own.0 z.index (residue_of 64 (value i) / own.0.count)) (sym place)
              (subst (λ m. IsAddress own.0 (global_written m (value i)) (residue_of 64 (value i) / own.0.count)) own.2
              (address_written own.0 power (short x own.0 own.1) typed.0 (value i) typed.1)));
          number_written = λ yes.
              ap (λ (z : Asked). z.value) asked
              ∙ ap (λ (z : PlannedOperation). residue_of (width_of (or_int (slice_get globals x))) (operand_now (planned_view b) (plan_view b p) q wire z.right)) (sym view);
        }

    of_operation : (k : ℕ) (o : Operation) → slice_get b.operations k ≡ Some o → is_request (operation_view o).kind ≡ true → slice_index p.starts k ≡ q.state → Asker k
    of_operation k (Unary operator ty a) listed e at = absurd cc
    of_operation k (Binary operator ty a c) listed e at = absurd (let none = binary_asks_not operator (binary_total operator ty) in cc)
    of_operation k (ReadGlobal x n i) listed e at = read_asks k x n i listed at
    of_operation k (WriteGlobal x n i a) listed e at = write_asks k x n i a listed at
    of_operation k (ReadArray x n i) listed e at = absurd cc
    of_operation k (WriteArray x n i a) listed e at = absurd cc

    -- WHO ASKS
    pub asker_of : (k : ℕ) → k < size (planned_view b) → asks (planned_view b) (plan_view b p) q k ≡ true → Asker k
    asker_of k below e =
        let two = and_parts (is_request (operation_at (planned_view b) k).kind) (nat_eq ((plan_view b p).start k) q.state) e in
        let o = get_there b.operations k (subst (λ n. k < n) (size-view b.operations) below) in
        let view : operation_at (planned_view b) k ≡ operation_view o.0 = listed_view b.operations k o.0 o.1 in
        of_operation k o.0 o.1 (ap (λ (z : PlannedOperation). is_request z.kind) (sym view) ∙ two.0) (eqb-true ((plan_view b p).start k) q.state two.1)
