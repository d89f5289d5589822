-- The values of a block's operations, one after the other: each shows the planned block's wire in the operation's last state.
use Rattle.std.proofs.Common.{◌≡◌, ◌≢◌, ℕ, zero, suc, ◌+◌, ◌<◌, ◌≤◌, Bool, true, if◌then◌else◌, List, [], ◌∷◌, ◌++◌, length, slice_get, slice_index, Option}
use Rattle.std.proofs.Common.{Some, ℤ, refl, sym, ap, subst, ◌∙◌, arith, inl, inr, ⊎_elim, length-append, get_or}
use Rattle.std.specs.Prelude.{slice_index_or}
use Rattle.std.proofs.lemmas.Option.{slice_get-get_or}
use Rattle.std.proofs.lemmas.Bool.{cases_eq}
use Rattle.lists.proofs.Places.{get_last, get_front, get_there}
use Rattle.interleaving.specs.Memory.{Location, Memory}
use Rattle.netlist.specs.declared.netlist.Signal.{Signal}
use Rattle.netlist.specs.declared.netlist.Module.{Module}
use Rattle.verilog_meaning.specs.Readings.{Reading}
use Rattle.hls_ints.specs.Types.{IntegerType, wrapped}
use Rattle.c_program.specs.declared.tree.BinaryOperator.{BinaryOperator}
use Rattle.c_program.specs.declared.tree.BinaryOperator.TheVariants as operator
use Rattle.block_ir.specs.declared.operand.Source.{Source}
use Rattle.block_ir.specs.declared.operand.Source.TheVariants.{Constant, Variable, Value}
use Rattle.block_ir.specs.declared.operand.Operand.{Operand}
use Rattle.block_ir.specs.declared.block.Operation.{Operation}
use Rattle.block_ir.specs.declared.block.Operation.TheVariants.{Unary, Binary, ReadGlobal, WriteGlobal, ReadArray, WriteArray}
use Rattle.block_ir.specs.declared.block.Block.{Block}
use Rattle.block_ir.specs.declared.code.ThreadCode.{ThreadCode}
use Rattle.block_ir.specs.declared.plan.BlockPlan.{BlockPlan}
use Rattle.planned_block.specs.Block.{Operand as PlannedOperand, Through, Operation as PlannedOperation, UsesIn, Uses, operation_at, size, no_operation}
use Rattle.planned_block.specs.Plan.{last_state, further_states}
use Rattle.planned_block.specs.Slot.{Slot, is_request, value_now, operand_now, register_value, result_of}
use Rattle.planned_block.proofs.Bits.{same_is, other_is}
use Rattle.thread_promise.specs.View.{source_view, operand_view, operation_view, operations_view, converted_to, binary_kind, planned_view, plan_view}
use Rattle.operator_wires.specs.Modules.{Obeys}
use Rattle.operator_wires.specs.Gives.{Grows}
use Rattle.operator_wires.specs.Words.{IsWord}
use Rattle.operator_wires.proofs.PutSignals.{grows_refl, grows_then}
use Rattle.block_datapath.specs.declared.registers.Registers.{Registers}
use Rattle.block_datapath.specs.declared.operands.Given.{Given}
use Rattle.thread_promise.specs.Globals.{IsAccess}
use Rattle.thread_promise.specs.Types.{value_type, IsTypedSource, IsTypedOperand, IsTypedOperation}
use Rattle.block_datapath.specs.Seen.{IsKept, IsValue, SeesSource}
use Rattle.block_datapath.specs.Units.{word_at}
use Rattle.block_datapath.proofs.SharedResults.{result_own, shared_at}
use Rattle.block_datapath.specs.Operations.{operation_value, SeesOperands, HasResult, GivesOperation, IsSized, SeesSlot, IsFed, IsRight, IsShown, ShowsFirst}

-- ---- the view of a list of operations

pub listed_view : (os : List Operation) (k : ℕ) (o : Operation) → slice_get os k ≡ Some o → slice_index_or (operations_view os) k no_operation ≡ operation_view o
listed_view [] k o e = absurd cc
listed_view (x ∷ os) zero o e = let same : x ≡ o = cc in ap operation_view same
listed_view (x ∷ os) (suc k) o e = listed_view os k o e

pub within_view : (os : List Operation) (k : ℕ) (o : Operation) → slice_get os k ≡ Some o → k < length (operations_view os)
within_view [] k o e = absurd cc
within_view (x ∷ os) zero o e = omega arith
within_view (x ∷ os) (suc k) o e = let h = within_view os k o e in omega arith

uses_converted : (types : List IntegerType) (o : PlannedOperand) (j : ℕ) → UsesIn o j → UsesIn (converted_to types o) j
uses_converted [] o j u = u
uses_converted (t ∷ types) o j u = uses_converted types (Through (wrapped t) o) j u

pub uses_source : (o : Operand) (j : ℕ) (ty : IntegerType) → o.source ≡ Value j ty → UsesIn (operand_view o) j
uses_source o j ty e = uses_converted o.conversions (source_view o.source) j (subst (λ (s : Source). UsesIn (source_view s) j) (sym e) refl)

-- an operation of a block has a request where its view has one, and uses what its left operand uses
pub requested : (b : Block) (n : ℕ) (o : Operation) → slice_get b.operations n ≡ Some o → is_request (operation_view o).kind ≡ true → is_request (operation_at (planned_view b) n).kind ≡ true
requested b n o listed e = ap (λ (z : PlannedOperation). is_request z.kind) (listed_view b.operations n o listed) ∙ e

pub uses_left : (b : Block) (n : ℕ) (o : Operation) (j : ℕ) → slice_get b.operations n ≡ Some o → UsesIn (operation_view o).left j → Uses (operation_at (planned_view b) n) j
uses_left b n o j listed u = subst (λ (z : PlannedOperation). Uses z j) (sym (listed_view b.operations n o listed)) (inl u)

-- past its last state a value stands in its register
pub register_later : (b : Block) (p : BlockPlan) (q : Slot) (wire : ℕ → ℤ) (j x : ℕ) → last_state (planned_view b) (plan_view b p) j < q.state → (plan_view b p).register j ≡ Some x →
    value_now (planned_view b) (plan_view b p) q wire j ≡ q.registers x
register_later b p q wire j x less e =
    ap (λ (c : Bool). if c then wire j else register_value q.registers ((plan_view b p).register j))
    (other_is (last_state (planned_view b) (plan_view b p) j) q.state (λ same. absurd (omega arith)))
    ∙ ap (register_value q.registers) e

binary_gives : (bank : Location → ℕ) (o : BinaryOperator) (f : ℤ → ℤ → ℤ) (words : ℕ → ℤ) (arrays : Memory ℤ) (l r : ℤ) → result_of bank (binary_kind o f) words arrays l r ≡ f l r
binary_gives bank operator.Multiply f words arrays l r = refl
binary_gives bank operator.Divide f words arrays l r = refl
binary_gives bank operator.Remainder f words arrays l r = refl
binary_gives bank operator.Add f words arrays l r = refl
binary_gives bank operator.Subtract f words arrays l r = refl
binary_gives bank operator.ShiftLeft f words arrays l r = refl
binary_gives bank operator.ShiftRight f words arrays l r = refl
binary_gives bank operator.Less f words arrays l r = refl
binary_gives bank operator.Greater f words arrays l r = refl
binary_gives bank operator.LessEqual f words arrays l r = refl
binary_gives bank operator.GreaterEqual f words arrays l r = refl
binary_gives bank operator.Equal f words arrays l r = refl
binary_gives bank operator.NotEqual f words arrays l r = refl
binary_gives bank operator.And f words arrays l r = refl
binary_gives bank operator.ExclusiveOr f words arrays l r = refl
binary_gives bank operator.InclusiveOr f words arrays l r = refl

-- ---- one more at the end

module _ (globals : List IntegerType) (code : ThreadCode) (registers : Registers) (b : Block) (p : BlockPlan) where
  -- ---- what an operation sees in its last state

  module _ (right : IsRight globals code registers b p) (new : List Signal) (values : List Given) (n : ℕ)
      (shown : (k : ℕ) (o : Operation) → k < n → slice_get b.operations k ≡ Some o → (given : Given) ×
      (slice_get values k ≡ Some given) × IsShown globals code registers b p new k o given)
      (bank : Location → ℕ) (m : Module) (r : Reading) (q : Slot) (wire : ℕ → ℤ) (grows : Grows new m.signals) (obeys : Obeys m r)
      (sees : SeesSlot globals code registers b p m r q)
      (wired : IsFed globals code registers b p bank m r q wire) where
    now_here : (j : ℕ) → last_state (planned_view b) (plan_view b p) j ≡ q.state → value_now (planned_view b) (plan_view b p) q wire j ≡ wire j
    now_here j e =
        ap (λ (c : Bool). if c then wire j else register_value q.registers ((plan_view b p).register j)) (same_is (last_state (planned_view b) (plan_view b p) j) q.state e)

    now_later : (j x : ℕ) → last_state (planned_view b) (plan_view b p) j ≢ q.state → (plan_view b p).register j ≡ Some x →
        value_now (planned_view b) (plan_view b p) q wire j ≡ q.registers x
    now_later j x ne e =
        ap (λ (c : Bool). if c then wire j else register_value q.registers ((plan_view b p).register j)) (other_is (last_state (planned_view b) (plan_view b p) j) q.state ne)
        ∙ ap (register_value q.registers) e

    pub value_here : (j : ℕ) (o : Operation) (state : ℕ) → j < n → slice_get b.operations j ≡ Some o → state ≡ q.state → last_state (planned_view b) (plan_view b p) j ≤ q.state
        → q.state ≤ (plan_view b p).until j → IsValue m r registers values state j (value_type globals code o) (value_now (planned_view b) (plan_view b p) q wire j)
    value_here j o state lt listed at past used =
        let t = shown j o lt listed in
        let given : Given = t.0 in
        let is : IsShown globals code registers b p new j o given = t.2 in
        record {
          given = given;
          listed = t.1;
          is = record {
            says = is.says;
            sign = is.sign;
            here = λ e.
                let last : last_state (planned_view b) (plan_view b p) j ≡ q.state = sym (is.last right) ∙ e ∙ at in
                subst (λ (z : ℤ). IsWord m r given.word (value_type globals code o) z) (sym (now_here j last)) (is.shows bank m r q wire right grows obeys sees wired last);
            later = λ ne.
                let other : last_state (planned_view b) (plan_view b p) j ≢ q.state = λ e. ne (is.last right ∙ e ∙ sym at) in
                let less : last_state (planned_view b) (plan_view b p) j < q.state = omega arith in
                let has = right.keeps.has j (within_view b.operations j o listed) (omega arith) in
                let kept : IsKept m r registers (Some has.0) (value_type globals code o) (q.registers has.0) =
                sees.alive j has.0 (record { operation = o; listed = listed; register = has.1; past = less; used = used }) in
                subst (λ (z : ℤ). IsKept m r registers given.register (value_type globals code o) z) (sym (now_later j has.0 other has.1))
                (subst (λ (z : Option ℕ). IsKept m r registers z (value_type globals code o) (q.registers has.0)) (sym (is.register ∙ has.1)) kept);
          };
        }

    -- an operand of operation n
    source_here : (source : Source) (state : ℕ) → n < size (planned_view b) → state ≡ q.state → (plan_view b p).start n ≤ q.state →
        q.state ≤ last_state (planned_view b) (plan_view b p) n
        → IsTypedSource globals code b.operations source → ((j : ℕ) (ty : IntegerType) → source ≡ Value j ty → Uses (operation_at (planned_view b) n) j)
        → SeesSource m r registers code.variables values state q.variables (value_now (planned_view b) (plan_view b p) q wire) source
    source_here (Constant ty v) state lt at from to typed uses = typed
    source_here (Variable x ty) state lt at from to typed uses = sees.variables x ty typed
    source_here (Value j ty) state lt at from to typed uses =
        let u = uses j ty refl in
        let early = right.keeps.earlier j n lt u in
        let waits = right.keeps.waits j n lt u in
        let used = right.keeps.used j n lt u in
        subst (λ (t : IntegerType). IsValue m r registers values state j t (value_now (planned_view b) (plan_view b p) q wire j)) typed.2
        (value_here j typed.0 state early typed.1 at (omega arith) (omega arith))

    pub operand_here : (operand : Operand) (state : ℕ) → n < size (planned_view b) → state ≡ q.state → (plan_view b p).start n ≤ q.state →
        q.state ≤ last_state (planned_view b) (plan_view b p) n
        → IsTypedOperand globals code b.operations operand → ((j : ℕ) → UsesIn (operand_view operand) j → Uses (operation_at (planned_view b) n) j)
        → SeesSource m r registers code.variables values state q.variables (value_now (planned_view b) (plan_view b p) q wire) operand.source
    operand_here operand state lt at from to typed uses =
        source_here operand.source state lt at from to typed (λ j ty e. uses j (uses_source operand j ty e))

    pub left_used : (o : Operation) (j : ℕ) → slice_get b.operations n ≡ Some o → UsesIn (operation_view o).left j → Uses (operation_at (planned_view b) n) j
    left_used o j listed u = subst (λ (z : PlannedOperation). Uses z j) (sym (listed_view b.operations n o listed)) (inl u)

    pub right_used : (o : Operation) (j : ℕ) → slice_get b.operations n ≡ Some o → UsesIn (operation_view o).right j → Uses (operation_at (planned_view b) n) j
    right_used o j listed u = subst (λ (z : PlannedOperation). Uses z j) (sym (listed_view b.operations n o listed)) (inr u)

    operands_here : (o : Operation) (start last : ℕ) → slice_get b.operations n ≡ Some o → IsTypedOperation globals code b.operations o → n < size (planned_view b) → last ≡ q.state
        → (further_states (operation_view o).kind ≡ 0 → start ≡ q.state) → (plan_view b p).start n ≤ q.state → q.state ≤ last_state (planned_view b) (plan_view b p) n
        → SeesOperands m r registers code values start last q.variables (value_now (planned_view b) (plan_view b p) q wire) o
    operands_here (Unary operator ty a) start last listed typed lt at first from to =
        operand_here a last lt at from to typed (λ j u. left_used (Unary operator ty a) j listed u)
    operands_here (Binary operator ty a c) start last listed typed lt at first from to = (
      operand_here a last lt at from to typed.0 (λ j u. left_used (Binary operator ty a c) j listed u),
      operand_here c last lt at from to typed.1 (λ j u. right_used (Binary operator ty a c) j listed u),
    )
    operands_here (ReadGlobal x count i) start last listed typed lt at first from to =
        operand_here i last lt at from to typed.0 (λ j u. left_used (ReadGlobal x count i) j listed u)
    operands_here (WriteGlobal x count i a) start last listed typed lt at first from to = tt
    operands_here (ReadArray x count i) start last listed typed lt at first from to =
        operand_here i start lt (first refl) from to typed.0 (λ j u. left_used (ReadArray x count i) j listed u)
    operands_here (WriteArray x count i a) start last listed typed lt at first from to = tt

    -- what the wire of operation n has
    gives : (o : Operation) → result_of bank (operation_view o).kind q.words q.arrays (operand_now (planned_view b) (plan_view b p) q wire (operation_view o).left)
        (operand_now (planned_view b) (plan_view b p) q wire (operation_view o).right) ≡ operation_value q.variables (value_now (planned_view b) (plan_view b p) q wire) q.arrays
        (λ l. q.words (bank l)) o
    gives (Unary operator ty a) = refl
    gives (Binary operator ty a c) = binary_gives bank operator _ q.words q.arrays _ _
    gives (ReadGlobal x count i) = refl
    gives (WriteGlobal x count i a) = refl
    gives (ReadArray x count i) = refl
    gives (WriteArray x count i a) = refl

    wire_is : (o : Operation) → slice_get b.operations n ≡ Some o → n < size (planned_view b) → last_state (planned_view b) (plan_view b p) n ≡ q.state
        → wire n ≡ operation_value q.variables (value_now (planned_view b) (plan_view b p) q wire) q.arrays (λ l. q.words (bank l)) o
    wire_is o listed lt at =
        wired.wired n lt at
        ∙ ap (λ (z : PlannedOperation). result_of bank z.kind q.words q.arrays (operand_now (planned_view b) (plan_view b p) q wire z.left)
        (operand_now (planned_view b) (plan_view b
        p) q wire z.right))
        (listed_view b.operations n o listed)
        ∙ gives o

    -- the unit of operation n, if it is shared, shows what it gives
    result_here : (o : Operation) → slice_get b.operations n ≡ Some o → n < size (planned_view b) → last_state (planned_view b) (plan_view b p) n ≡ q.state →
        HasResult registers.units (slice_index p.units n) o m r (value_type globals code o)
        (operation_value q.variables (value_now (planned_view b) (plan_view b p) q wire) q.arrays (λ l. q.words (bank l)) o)
    result_here (Unary operator ty a) listed lt at place e = absurd cc
    result_here (Binary operator ty a c) listed lt at place e =
        let from : slice_index p.starts n ≤ q.state = omega arith in
        let to : q.state ≤ last_state (planned_view b) (plan_view b p) n = omega arith in
        subst (λ (k : IntegerType). IsWord m r (word_at place k) k
        (operation_value q.variables (value_now (planned_view b) (plan_view b p) q wire) q.arrays (λ l. q.words (bank l)) (Binary operator ty a c)))
        (sym (result_own registers.units operator ty (slice_index p.units n) place (shared_at registers.units operator ty a c (slice_index p.units n) place e).1))
        (wired.units n place operator ty a c listed from to e)
    result_here (ReadGlobal x count i) listed lt at place e = absurd cc
    result_here (WriteGlobal x count i a) listed lt at place e = absurd cc
    result_here (ReadArray x count i) listed lt at place e = absurd cc
    result_here (WriteArray x count i a) listed lt at place e = absurd cc

    sized_here : (o : Operation) → IsTypedOperation globals code b.operations o → IsAccess registers.spreads o → IsSized globals code registers o
    sized_here (Unary operator ty a) typed access = tt
    sized_here (Binary operator ty a c) typed access = tt
    sized_here (ReadGlobal x count i) typed access =
        let declared = get_there globals x typed.1 in
        record { spread = access.0; listed = access.1; long = access.2; ty = declared.0; typed = declared.1 }
    sized_here (WriteGlobal x count i a) typed access = tt
    sized_here (ReadArray x count i) typed access = typed.1
    sized_here (WriteArray x count i a) typed access = typed.2

  -- ---- one more operation

  lifted : (old new : List Signal) (k : ℕ) (o : Operation) (given : Given) → Grows old new → IsShown globals code registers b p old k o given →
      IsShown globals code registers b p new k o given
  lifted old new k o given grows is = record {
    says = is.says;
    sign = is.sign;
    last = is.last;
    register = is.register;
    shared = is.shared;
    shows = λ bank m r q wire right g. is.shows bank m r q wire right (grows_then old new m.signals grows g);
  }

  further_is : (n : ℕ) (o : Operation) → slice_get b.operations n ≡ Some o → (plan_view b p).start n + further_states (operation_view o).kind
      ≡ last_state (planned_view b) (plan_view b p) n
  further_is n o listed = ap (λ (z : PlannedOperation). (plan_view b p).start n + further_states z.kind) (sym (listed_view b.operations n o listed))

  -- with signals behind them
  pub first_grown : (first old new : List Signal) (n : ℕ) (values : List Given) → ShowsFirst globals code registers b p first old n values → Grows old new
      → ShowsFirst globals code registers b p first new n values
  first_grown first old new n values t grows = record {
    grows = grows_then first old new t.grows grows;
    count = t.count;
    each = λ k o lt listed. let found = t.each k o lt listed in (found.0, found.1, lifted old new k o found.0 grows found.2);
  }

  -- with fewer signals before them
  pub first_from : (first old new : List Signal) (n : ℕ) (values : List Given) → Grows first old → ShowsFirst globals code registers b p old new n values
      → ShowsFirst globals code registers b p first new n values
  first_from first old new n values grows t = record { grows = grows_then first old new grows t.grows; count = t.count; each = t.each }

  shown_next : (first old new : List Signal) (values : List Given) (n : ℕ) (o : Operation) (given : Given) → ShowsFirst globals code registers b p first old n values
      → slice_get b.operations n ≡ Some o
      → GivesOperation old new globals code registers values p n o given → IsShown globals code registers b p new n o given
  shown_next first old new values n o given before listed next =
      let lt = within_view b.operations n o listed in
      let last : IsRight globals code registers b p → given.last ≡ last_state (planned_view b) (plan_view b p) n = λ right.
      let ends = right.keeps.ends n lt in
      let small = right.small in
      let same = further_is n o listed in
      next.last (omega arith) ∙ same
      in
      record {
        says = next.says;
        sign = next.sign;
        last = last;
        register = next.register;
        shared = λ place e. (next.shows.shared place e).1;
        shows = λ bank m r q wire right g obeys sees wired at.
            let before_it = grows_then old new m.signals next.shows.grows g in
            let same = further_is n o listed in
            let first_state : further_states (operation_view o).kind ≡ 0 → (plan_view b p).start n ≡ q.state = λ z. omega arith in
            let from : (plan_view b p).start n ≤ q.state = omega arith in
            let result = result_here right old values n before.each bank m r q wire before_it obeys sees wired o listed lt at in
            let shown = next.shows.shows m r q.variables (value_now (planned_view b) (plan_view b p) q wire) q.arrays (λ l. q.words (bank l)) g obeys sees.arrays wired.told
            (operands_here right old values n before.each bank m r q wire before_it obeys sees wired o (slice_index p.starts n) given.last listed
            (right.typed.operations n o listed) lt
            (last right ∙ at) first_state from (omega arith))
            (sized_here right old values n before.each bank m r q wire before_it obeys sees wired o (right.typed.operations n o listed) (right.accesses n o listed))
            result
            in
            subst (λ (z : ℤ). IsWord m r given.word (value_type globals code o) z)
            (sym (wire_is right old values n before.each bank m r q wire before_it obeys sees wired o listed lt at)) shown;
      }

  pub first_none : (a : List Signal) → ShowsFirst globals code registers b p a a 0 []
  first_none a = record { grows = grows_refl a; count = refl; each = λ k o lt listed. absurd (omega arith) }

  pub first_more : (first old new : List Signal) (values : List Given) (n : ℕ) (o : Operation) (given : Given) → ShowsFirst globals code registers b p first old n values
      → slice_get b.operations n ≡ Some o → GivesOperation old new globals code registers values p n o given →
      ShowsFirst globals code registers b p first new (n + 1) (values ++ given ∷ [])
  first_more first old new values n o given before listed next = record {
    grows = grows_then first old new before.grows next.shows.grows;
    count = length-append values (given ∷ []) ∙ ap (λ k. k + 1) before.count;
    each = λ k x lt there. ⊎_elim (now k x there) (earlier k x lt there) (cases_eq k n);
  }
    where
      now : (k : ℕ) (x : Operation) → slice_get b.operations k ≡ Some x → k ≡ n
          → (g : Given) × (slice_get (values ++ given ∷ []) k ≡ Some g) × IsShown globals code registers b p new k x g
      now k x there e =
          let same : o ≡ x = cc in (
            given,
            ap (slice_get (values ++ given ∷ [])) (e ∙ sym before.count) ∙ get_last values given,
            subst (λ (z : Operation). IsShown globals code registers b p new k z given) same
                (subst (λ (z : ℕ). IsShown globals code registers b p new z o given) (sym e) (shown_next first old new values n o given before listed next)),
          )

      earlier : (k : ℕ) (x : Operation) → k < n + 1 → slice_get b.operations k ≡ Some x → k ≢ n
          → (g : Given) × (slice_get (values ++ given ∷ []) k ≡ Some g) × IsShown globals code registers b p new k x g
      earlier k x lt there ne =
          let less : k < n = omega arith in
          let t = before.each k x less there in
          (t.0, get_front values (given ∷ []) k t.0 t.1, lifted old new k x t.0 next.shows.grows t.2)

-- a value that was given over the same values, in other words
pub next_same : (old new : List Signal) (globals : List IntegerType) (code : ThreadCode) (registers : Registers) (values others : List Given) (p : BlockPlan) (n k : ℕ)
    (o : Operation) (given : Given)
    → others ≡ values → k ≡ n → GivesOperation old new globals code registers others p k o given → GivesOperation old new globals code registers values p n o given
next_same old new globals code registers values others p n k o given e f t =
    subst (λ (z : ℕ). GivesOperation old new globals code registers values p z o given) f (subst
    (λ (z : List Given). GivesOperation old new globals code registers z p k o given) e t)

pub item_is : {X : Type 0} (xs ys : List X) (i : ℕ) (x : X) → i < length xs → x ≡ get_or xs i x → xs ≡ ys → slice_get ys i ≡ Some x
item_is xs ys i x lt e f = ap (λ l. slice_get l i) (sym f) ∙ slice_get-get_or xs i x lt ∙ ap Some (sym e)
