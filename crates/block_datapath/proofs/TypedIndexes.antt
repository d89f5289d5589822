-- What an access uses in the state in which it starts has a type.
use Rattle.std.proofs.Common.{◌≡◌, ℕ, ◌<◌, ◌≤◌, Bool, true, if◌then◌else◌, List, [], ◌∷◌, slice_get, slice_index, Some, ℤ, refl, sym, ap, subst, ◌∙◌, arith}
use Rattle.hls_ints.specs.Types.{IntegerType, HasType, wrapped}
use Rattle.hls_ints.proofs.Conversions.{wrapped-range}
use Rattle.block_ir.specs.declared.operand.Source.{Source}
use Rattle.block_ir.specs.declared.operand.Source.TheVariants.{Constant, Variable, Value}
use Rattle.block_ir.specs.declared.operand.Operand.{Operand}
use Rattle.block_ir.specs.declared.block.Operation.{Operation}
use Rattle.block_ir.specs.declared.block.Operation.TheVariants.{ReadGlobal, WriteGlobal}
use Rattle.block_ir.specs.declared.block.Block.{Block}
use Rattle.block_ir.specs.declared.code.ThreadCode.{ThreadCode}
use Rattle.block_ir.specs.declared.plan.BlockPlan.{BlockPlan}
use Rattle.planned_block.specs.Block.{Operand as PlannedOperand, Through, operand_value, operation_at, size, Uses, UsesIn}
use Rattle.planned_block.specs.Plan.{last_state}
use Rattle.planned_block.specs.Slot.{Slot, is_request, value_now, register_value}
use Rattle.planned_block.proofs.Bits.{other_is}
use Rattle.thread_promise.proofs.RegisterOperands.{request_is_slow}
use Rattle.thread_promise.specs.View.{source_view, converted_to, operand_view, planned_view, plan_view}
use Rattle.netlist.specs.declared.netlist.Module.{Module}
use Rattle.verilog_meaning.specs.Readings.{Reading}
use Rattle.thread_promise.specs.Types.{source_type, last_type, value_type, IsTypedSource, IsTypedOperand}
use Rattle.block_datapath.specs.declared.registers.Registers.{Registers}
use Rattle.block_datapath.specs.Operations.{seen_value, SeesSlot}
use Rattle.block_datapath.specs.Accesses.{IsAskRight}
use Rattle.block_datapath.proofs.OperationValues.{uses_source, within_view, requested, uses_left}

module _ (variables given : ℕ → ℤ) where
  converted_typed : (types : List IntegerType) (ty : IntegerType) (o : PlannedOperand) → HasType ty (operand_value variables given o)
      → HasType (last_type ty types) (operand_value variables given (converted_to types o))
  converted_typed [] ty o typed = typed
  converted_typed (t ∷ types) ty o typed = converted_typed types t (Through (wrapped t) o) (wrapped-range t (operand_value variables given o))

module _ (globals : List IntegerType) (code : ThreadCode) (registers : Registers) (b : Block) (p : BlockPlan) (right : IsAskRight globals code b p) (m : Module) (r : Reading)
    (q : Slot)
    (sees : SeesSlot globals code registers b p m r q) (wire : ℕ → ℤ) where
  abbrev given : ℕ → ℤ
  given = value_now (planned_view b) (plan_view b p) q wire

  module _ (n : ℕ) (below : n < size (planned_view b)) (request : is_request (operation_at (planned_view b) n).kind ≡ true) (at : slice_index p.starts n ≡ q.state) where
    -- the value is in a register since an earlier state
    value_typed : (j : ℕ) (o : Operation) → Uses (operation_at (planned_view b) n) j → slice_get b.operations j ≡ Some o → HasType (value_type globals code o) (given j)
    value_typed j o uses listed =
        let past = right.registered j n below (request_is_slow (operation_at (planned_view b) n).kind request) uses in
        let earlier = right.keeps.earlier j n below uses in
        let small : j < size (planned_view b) = omega arith in
        let until = right.keeps.used j n below uses in
        let before : last_state (planned_view b) (plan_view b p) j < q.state = subst (λ (k : ℕ). last_state (planned_view b) (plan_view b p) j < k) at past in
        let kept : (plan_view b p).start n ≤ (plan_view b p).until j = omega arith in
        let has = right.keeps.has j small (omega arith) in
        let alive : q.state ≤ (plan_view b p).until j = subst (λ (k : ℕ). k ≤ (plan_view b p).until j) at kept in
        let typed = (sees.alive j has.0 (record { operation = o; listed = listed; register = has.1; past = before; used = alive })).typed in
        let same : given j ≡ q.registers has.0 =
        ap (λ (c : Bool). if c then wire j else register_value q.registers ((plan_view b p).register j))
        (other_is (last_state (planned_view b) (plan_view b p) j) q.state (λ e. absurd (omega arith)))
        ∙ ap (register_value q.registers) has.1 in
        subst (λ (z : ℤ). HasType (value_type globals code o) z) (sym same) typed

    source_typed : (s : Source) → IsTypedSource globals code b.operations s → ((j : ℕ) (ty : IntegerType) → s ≡ Value j ty → Uses (operation_at (planned_view b) n) j)
        → HasType (source_type s) (operand_value q.variables given (source_view s))
    source_typed (Constant ty v) typed uses = typed
    source_typed (Variable x ty) typed uses = (sees.variables x ty typed).typed
    source_typed (Value j ty) typed uses = subst (λ (t : IntegerType). HasType t (given j)) typed.2 (value_typed j typed.0 (uses j ty refl) typed.1)

    operand_typed : (i : Operand) → IsTypedOperand globals code b.operations i → ((j : ℕ) → UsesIn (operand_view i) j → Uses (operation_at (planned_view b) n) j)
        → (ty : IntegerType) × HasType ty (seen_value q.variables given i)
    operand_typed i typed uses = (
      last_type (source_type i.source) i.conversions,
      converted_typed q.variables given i.conversions (source_type i.source) (source_view i.source)
          (source_typed i.source typed (λ j ty e. uses j (uses_source i j ty e))),
    )

  -- THE INDEX of a read, and of a write
  pub index_typed : (k x n : ℕ) (i : Operand) → slice_get b.operations k ≡ Some (ReadGlobal x n i) → slice_index p.starts k ≡ q.state →
      (ty : IntegerType) × HasType ty (seen_value q.variables given i)
  index_typed k x n i listed at =
      operand_typed k (within_view b.operations k (ReadGlobal x n i) listed) (requested b k (ReadGlobal x n i) listed refl) at i
      (right.typed.operations k (ReadGlobal x n i) listed).0
      (λ j u. uses_left b k (ReadGlobal x n i) j listed u)

  pub target_typed : (k x n : ℕ) (i a : Operand) → slice_get b.operations k ≡ Some (WriteGlobal x n i a) → slice_index p.starts k ≡ q.state → (ty : IntegerType)
      × HasType ty (seen_value q.variables given i)
  target_typed k x n i a listed at =
      operand_typed k (within_view b.operations k (WriteGlobal x n i a) listed) (requested b k (WriteGlobal x n i a) listed refl) at i
      (right.typed.operations k (WriteGlobal x n i a) listed).0 (λ j u. uses_left b k (WriteGlobal x n i a) j listed u)
