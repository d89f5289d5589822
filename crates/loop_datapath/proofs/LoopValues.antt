-- The words of the operations of a loop, one after the other, show its wires.
use Rattle.std.proofs.Common.{◌≡◌, ◌≢◌, ℕ, ◌+◌, ◌-◌, ◌<◌, ◌≤◌, List, [], ◌∷◌, ◌++◌, slice_get, Some, ℤ, pos, inl, inr, refl, sym, ap, subst, ◌∙◌}
use Rattle.std.proofs.Common.{arith, ⊎_elim}
use Rattle.std.proofs.lemmas.Bool.{cases_eq}
use Rattle.lists.proofs.Places.{get_front, get_last}
use Rattle.std.proofs.Common.{length-append}
use Rattle.netlist.specs.declared.netlist.Signal.{Signal}
use Rattle.netlist.specs.declared.netlist.Module.{Module}
use Rattle.verilog_meaning.specs.Readings.{Reading, width}
use Rattle.hls_ints.specs.Types.{IntegerType, width_of}
use Rattle.c_program.specs.declared.tree.BinaryOperator.{BinaryOperator}
use Rattle.c_program.specs.declared.tree.BinaryOperator.TheVariants as operator
use Rattle.interleaving.specs.Memory.{Memory}
use Rattle.block_ir.specs.declared.block.Operation.{Operation}
use Rattle.block_ir.specs.declared.block.Operation.TheVariants.{Unary, Binary, ReadGlobal, WriteGlobal, ReadArray, WriteArray}
use Rattle.block_ir.specs.declared.block.Block.{Block}
use Rattle.block_ir.specs.declared.code.ThreadCode.{ThreadCode}
use Rattle.plan_blocks.specs.View.{binary_kind, source_view, operand_view, finals_view, operation_view}
use Rattle.block_ir.specs.Run.{place_read}
use Rattle.planned_block.specs.Block.{Operation as PlannedOperation, operation_at, size, operand_value}
use Rattle.planned_block.specs.Run.{value_of}
use Rattle.planned_block.specs.Slot.{Slot}
use Rattle.planned_loop.specs.Loop.{nothing}
use Rattle.planned_loop.specs.Move.{operand_ahead}
use Rattle.circuit.specs.Modules.{Obeys}
use Rattle.operator_wires.specs.declared.words.Word.{Word}
use Rattle.operator_wires.specs.Gives.{Grows}
use Rattle.operator_wires.specs.Words.{IsWord}
use Rattle.operator_wires.proofs.PutSignals.{grows_refl, grows_then}
use Rattle.thread_promise.specs.Types.{value_type, IsTypedOperation}
use Rattle.block_datapath.specs.declared.registers.Registers.{Registers}
use Rattle.block_datapath.specs.Operations.{operation_value}
use Rattle.block_datapath.proofs.OperationValues.{listed_view, within_view}
use Rattle.loop_datapath.specs.declared.times.OperationTime.{OperationTime}
use Rattle.loop_datapath.specs.declared.times.LoopTimes.{LoopTimes}
use Rattle.loop_datapath.specs.Times.{time_at, times_view, loop_of}
use Rattle.loop_datapath.specs.Ahead.{value_there, variable_there, SeesAhead, HasRounds}
use Rattle.loop_datapath.specs.Operations.{SeesAll, IsOwn, gives_there, ShowsOperationIn, IsRightLoop, SeesValues, IsComputed, IsShownIn, ShowsWords}
use Rattle.loop_datapath.proofs.LoopOperands.{comes_through, comes_converted, operand_seen}

-- ---- what an operation gives

binary_gives : (o : BinaryOperator) (f : ℤ → ℤ → ℤ) (arrays m : Memory ℤ) (l r : ℤ) → value_of (binary_kind o f) arrays m l r ≡ f l r
binary_gives operator.Multiply f arrays m l r = refl
binary_gives operator.Divide f arrays m l r = refl
binary_gives operator.Remainder f arrays m l r = refl
binary_gives operator.Add f arrays m l r = refl
binary_gives operator.Subtract f arrays m l r = refl
binary_gives operator.ShiftLeft f arrays m l r = refl
binary_gives operator.ShiftRight f arrays m l r = refl
binary_gives operator.Less f arrays m l r = refl
binary_gives operator.Greater f arrays m l r = refl
binary_gives operator.LessEqual f arrays m l r = refl
binary_gives operator.GreaterEqual f arrays m l r = refl
binary_gives operator.Equal f arrays m l r = refl
binary_gives operator.NotEqual f arrays m l r = refl
binary_gives operator.And f arrays m l r = refl
binary_gives operator.ExclusiveOr f arrays m l r = refl
binary_gives operator.InclusiveOr f arrays m l r = refl

gives_own : (code : ThreadCode) (variables values : ℕ → ℤ) (arrays : Memory ℤ) (o : Operation) → IsOwn code o →
    value_of (operation_view o).kind arrays nothing (operand_value variables values (operation_view o).left) (operand_value variables values (operation_view o).right)
    ≡ operation_value variables values arrays nothing o
gives_own code variables values arrays (Unary operator ty a) own = refl
gives_own code variables values arrays (Binary operator ty a b) own = binary_gives operator _ arrays nothing _ _
gives_own code variables values arrays (ReadGlobal x n i) own = absurd own
gives_own code variables values arrays (WriteGlobal x n i a) own = absurd own
gives_own code variables values arrays (ReadArray x n i) own = refl
gives_own code variables values arrays (WriteArray x n i a) own = refl

module _ (globals : List IntegerType) (code : ThreadCode) (registers : Registers) (turn : Block) (times : LoopTimes) (rounds : List ℕ) where
  -- the wire of operation n
  wire_is : (comparison n begun : ℕ) (q : Slot) (wire : ℕ → ℤ) (o : Operation) → slice_get turn.operations n ≡ Some o → IsOwn code o →
      IsComputed globals code registers turn times comparison begun (time_at times.operations n).phase q wire →
      wire n ≡ gives_there globals code registers turn times comparison begun (time_at times.operations n).phase q wire (begun - (time_at times.operations n).stage) o
  wire_is comparison n begun q wire o listed own computed =
      computed n (within_view turn.operations n o listed) refl
      ∙ ap (λ (z : PlannedOperation).
      value_of z.kind q.arrays nothing
      (operand_ahead (loop_of turn comparison) (times_view times) begun (time_at times.operations n).phase q wire (begun - (time_at times.operations n).stage) z.left)
      (operand_ahead (loop_of turn comparison) (times_view times) begun (time_at times.operations n).phase q wire (begun - (time_at times.operations n).stage) z.right))
      (listed_view turn.operations n o listed)
      ∙ gives_own code (variable_there turn comparison times begun (time_at times.operations n).phase q wire (begun - (time_at times.operations n).stage))
      (value_there turn comparison times begun (time_at times.operations n).phase q wire (begun - (time_at times.operations n).stage)) q.arrays o own

  module _ (old : List Signal) (words : List Word) (n : ℕ)
      (shown : (k : ℕ) (o : Operation) → k < n → slice_get turn.operations k ≡ Some o →
      (word : Word) × (slice_get words k ≡ Some word) × IsShownIn globals code registers turn times rounds old k o word) (comparison : ℕ)
      (right : IsRightLoop globals code registers turn times comparison) (m : Module) (r : Reading) (q : Slot) (wire : ℕ → ℤ) (begun : ℕ) (grows : Grows old m.signals)
      (obeys : Obeys m r) (has : HasRounds m r rounds times.stages begun) (less : begun < times.stages)
      (sees : SeesValues globals code registers turn times m r q begun (time_at times.operations n).phase)
      (computed : IsComputed globals code registers turn times comparison begun (time_at times.operations n).phase q wire)
      (low : (time_at times.operations n).stage ≤ begun) where
    -- the operands of operation n can be seen
    all_seen : (o : Operation) → slice_get turn.operations n ≡ Some o → IsTypedOperation globals code turn.operations o →
        SeesAll (SeesAhead m r registers words code.variables turn comparison times begun (time_at times.operations n).phase q wire
        (begun - (time_at times.operations n).stage)) o
    all_seen o listed typed = by_kind o typed (sym (listed_view turn.operations n o listed)) (within_view turn.operations n o listed)
      where
        by_kind : (k : Operation) → IsTypedOperation globals code turn.operations k → operation_view k ≡ operation_at (loop_of turn comparison).block n →
            n < size (loop_of turn comparison).block →
            SeesAll (SeesAhead m r registers words code.variables turn comparison times begun (time_at times.operations n).phase q wire
            (begun - (time_at times.operations n).stage)) k
        by_kind (Unary operator ty a) is e lt =
            operand_seen globals code registers turn times comparison right rounds old words n shown m r q wire begun (time_at times.operations n).phase grows obeys has less
            sees computed a (operation_view (Unary operator ty a)).left refl low lt is (inl (ap (λ (z : PlannedOperation). z.left) e))
            (λ t i c. comes_converted (finals_view turn.finals) a.conversions (source_view a.source) t i c)
        by_kind (Binary operator ty a b) is e lt = (
          operand_seen globals code registers turn times comparison right rounds old words n shown m r q wire begun (time_at times.operations n).phase grows obeys has less
              sees computed a (operation_view (Binary operator ty a b)).left refl low lt is.0 (inl (ap (λ (z : PlannedOperation). z.left) e))
              (λ t i c. comes_converted (finals_view turn.finals) a.conversions (source_view a.source) t i c),
          operand_seen globals code registers turn times comparison right rounds old words n shown m r q wire begun (time_at times.operations n).phase grows obeys has less
              sees computed b (operation_view (Binary operator ty a b)).right refl low lt is.1 (inr (ap (λ (z : PlannedOperation). z.right) e))
              (λ t i c. comes_converted (finals_view turn.finals) b.conversions (source_view b.source) t i c),
        )
        by_kind (ReadGlobal x count i) is e lt = tt
        by_kind (WriteGlobal x count i a) is e lt = tt
        by_kind (ReadArray x count i) is e lt =
            operand_seen globals code registers turn times comparison right rounds old words n shown m r q wire begun (time_at times.operations n).phase grows obeys has less
            sees computed i (operation_view (ReadArray x count i)).left refl low lt is.0 (inl (ap (λ (z : PlannedOperation). z.left) e))
            (λ t j c. comes_through (finals_view turn.finals) (λ v. pos (place_read count v)) (operand_view i) t j
            (comes_converted (finals_view turn.finals) i.conversions (source_view i.source) t j c))
        by_kind (WriteArray x count i a) is e lt = tt

  -- ---- one operation more

  lifted : (old new : List Signal) (k : ℕ) (o : Operation) (word : Word) → Grows old new → IsShownIn globals code registers turn times rounds old k o word →
      IsShownIn globals code registers turn times rounds new k o word
  lifted old new k o word grows is = record {
    says = is.says;
    sign = is.sign;
    shows = λ comparison m r q wire begun right g. is.shows comparison m r q wire begun right (grows_then old new m.signals grows g);
  }

  shown_next : (first old new : List Signal) (words : List Word) (n : ℕ) (o : Operation) (word out : Word) →
      ShowsWords globals code registers turn times rounds first old n words → slice_get turn.operations n ≡ Some o →
      ShowsOperationIn globals code registers turn times old new words rounds (time_at times.operations n).stage (time_at times.operations n).phase o word →
      out.place ≡ word.place → out.width ≡ width_of (value_type globals code o) → out.signed ≡ (value_type globals code o).signed →
      IsShownIn globals code registers turn times rounds new n o out
  shown_next first old new words n o word out before listed next at says sign = record {
    says = says;
    sign = sign;
    shows = λ comparison m r q wire begun right g obeys has less low sees computed.
        let own = right.own n o listed in
        let is = next.shows comparison m r q wire begun g obeys has low less sees.arrays own
        (all_seen old words n before.each comparison right m r q wire begun (grows_then old new m.signals next.grows g) obeys has less sees computed low o listed
        (right.typed.operations n o listed)) in
        subst (λ (v : ℤ). IsWord m r out (value_type globals code o) v) (sym (wire_is comparison n begun q wire o listed own computed))
        (record { says = says; sign = sign; wide = ap (width m) at ∙ is.wide; shows = ap r.signal at ∙ is.shows; typed = is.typed });
  }

  -- the time and the words that are known are those of operation n
  pub next_same : (old new : List Signal) (words others : List Word) (n k : ℕ) (t : OperationTime) (o : Operation) (word : Word) → others ≡ words → k ≡ n →
      t ≡ time_at times.operations k → ShowsOperationIn globals code registers turn times old new others rounds t.stage t.phase o word →
      ShowsOperationIn globals code registers turn times old new words rounds (time_at times.operations n).stage (time_at times.operations n).phase o word
  next_same old new words others n k t o word e f same shown =
      subst (λ (z : OperationTime). ShowsOperationIn globals code registers turn times old new words rounds z.stage z.phase o word) (same ∙ ap (time_at times.operations) f)
      (subst (λ (ws : List Word). ShowsOperationIn globals code registers turn times old new ws rounds t.stage t.phase o word) e shown)

  pub words_none : (a : List Signal) → ShowsWords globals code registers turn times rounds a a 0 []
  words_none a = record { grows = grows_refl a; count = refl; each = λ k o lt listed. absurd (omega arith) }

  pub words_more : (first old new : List Signal) (words : List Word) (n : ℕ) (o : Operation) (word out : Word) →
      ShowsWords globals code registers turn times rounds first old n words → slice_get turn.operations n ≡ Some o →
      ShowsOperationIn globals code registers turn times old new words rounds (time_at times.operations n).stage (time_at times.operations n).phase o word →
      out.place ≡ word.place → out.width ≡ width_of (value_type globals code o) → out.signed ≡ (value_type globals code o).signed →
      ShowsWords globals code registers turn times rounds first new (n + 1) (words ++ out ∷ [])
  words_more first old new words n o word out before listed next at says sign = record {
    grows = grows_then first old new before.grows next.grows;
    count = length-append words (out ∷ []) ∙ ap (λ k. k + 1) before.count;
    each = λ k x lt there. ⊎_elim (now k x there) (earlier k x lt there) (cases_eq k n);
  }
    where
      now : (k : ℕ) (x : Operation) → slice_get turn.operations k ≡ Some x → k ≡ n →
          (w : Word) × (slice_get (words ++ out ∷ []) k ≡ Some w) × IsShownIn globals code registers turn times rounds new k x w
      now k x there e =
          let same : o ≡ x = cc in (
            out,
            ap (slice_get (words ++ out ∷ [])) (e ∙ sym before.count) ∙ get_last words out,
            subst (λ (z : Operation). IsShownIn globals code registers turn times rounds new k z out) same
                (subst (λ (z : ℕ). IsShownIn globals code registers turn times rounds new z o out) (sym e)
                (shown_next first old new words n o word out before listed next at says sign)),
          )

      earlier : (k : ℕ) (x : Operation) → k < n + 1 → slice_get turn.operations k ≡ Some x → k ≢ n →
          (w : Word) × (slice_get (words ++ out ∷ []) k ≡ Some w) × IsShownIn globals code registers turn times rounds new k x w
      earlier k x lt there ne =
          let less : k < n = omega arith in
          let t = before.each k x less there in
          (t.0, get_front words (out ∷ []) k t.0 t.1, lifted old new k x t.0 next.grows t.2)
