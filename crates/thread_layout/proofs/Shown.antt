-- What a reading of a thread's module shows at the start, and that it stands in registers and memories.
use Rattle.std.proofs.Common.{◌≡◌, ℕ, zero, suc, ◌+◌, ◌%◌, ◌<◌, ◌^◌, Bool, List, length, slice_get, Option, Some, ℤ, refl, sym, ap, subst, ◌∙◌, arith}
use Rattle.std.specs.Prelude.{replicate}
use Rattle.std.proofs.lemmas.List.{length-replicate}
use Rattle.std.proofs.lemmas.Option.{slice_get_within}
use Rattle.plan_blocks.proofs.ViewRuns.{size-view}
use Rattle.lists.proofs.Places.{get_there}
use Rattle.hls_ints.specs.Types.{width_of}
use Rattle.operator_words.proofs.Typed.{residue_of-zero, has_zero}
use Rattle.bank_partition.specs.declared.banks.Spread.{Spread}
use Rattle.c_program.specs.declared.tree.BinaryOperator.{BinaryOperator}
use Rattle.c_program.specs.declared.tree.BinaryOperator.TheVariants as operator
use Rattle.block_ir.specs.declared.block.Operation.{Operation}
use Rattle.block_ir.specs.declared.block.Operation.TheVariants.{Unary, Binary, ReadGlobal, WriteGlobal, ReadArray, WriteArray}
use Rattle.block_ir.specs.declared.block.Block.{Block}
use Rattle.block_ir.specs.declared.code.ThreadCode.{ThreadCode}
use Rattle.block_ir.specs.declared.plan.BlockPlan.{BlockPlan}
use Rattle.block_ir.specs.declared.plan.Planned.{Planned}
use Rattle.planned_block.specs.Block.{Operation as PlannedOperation, operation_at, size}
use Rattle.planned_block.specs.Plan.{OfGlobal, target_of}
use Rattle.planned_block.specs.Slot.{Slot}
use Rattle.plan_blocks.specs.View.{operation_view, binary_kind, planned_view}
use Rattle.netlist.specs.declared.netlist.Memory.{Memory as Words}
use Rattle.netlist.specs.declared.netlist.Module.{Module}
use Rattle.verilog_meaning.specs.Readings.{Reading, initial_reading, initial_word, or_zero}
use Rattle.circuit.specs.Modules.{Agree}
use Rattle.thread_promise.specs.Globals.{IsAccess}
use Rattle.thread_promise.specs.Types.{value_type}
use Rattle.thread_promise.specs.Slots.{ShowsData, ShowsInBlock}
use Rattle.thread_promise.specs.Moves.{first_slot}
use Rattle.thread_promise.specs.Promise.{RunsAt}
use Rattle.block_datapath.proofs.OperationValues.{listed_view}
use Rattle.thread_slots.specs.declared.shape.Shape.{Shape}
use Rattle.thread_layout.specs.Memories.{memory_for}
use Rattle.thread_layout.specs.Modules.{IsModule}
use Rattle.thread_layout.specs.Thread.{inputs_of, places_of, IsServed}
use Rattle.thread_layout.proofs.Placed.{first_stage, stands_agrees, stands_begins, stage_stands, state_stands, beat_stands, variable_held, kept_held, kept_within, mark_held}
use Rattle.thread_layout.proofs.Sight.{memory_of}

zero_word : (n i : ℕ) → or_zero (slice_get (replicate n 0) i) ≡ 0
zero_word zero i = refl
zero_word (suc n) zero = refl
zero_word (suc n) (suc i) = zero_word n i

-- ---- accesses name globals

binary_no_target : (o : BinaryOperator) (f : ℤ → ℤ → ℤ) (x : ℕ) (w : Bool) → target_of (binary_kind o f) ≡ OfGlobal x w → ⊥
binary_no_target operator.Multiply f x w e = absurd cc
binary_no_target operator.Divide f x w e = absurd cc
binary_no_target operator.Remainder f x w e = absurd cc
binary_no_target _ f x w e = absurd cc

target_spread : (spreads : List Spread) (o : Operation) (x : ℕ) (w : Bool) → IsAccess spreads o → target_of (operation_view o).kind ≡ OfGlobal x w →
    (s : Spread) × (slice_get spreads x ≡ Some s)
target_spread spreads (Unary operator ty a) x w own e = absurd cc
target_spread spreads (Binary operator ty a b) x w own e = absurd (binary_no_target operator _ x w e)
target_spread spreads (ReadGlobal y n i) x w own e = let same : y ≡ x = cc in (own.0, ap (slice_get spreads) (sym same) ∙ own.1)
target_spread spreads (WriteGlobal y n i a) x w own e = let same : y ≡ x = cc in (own.0, ap (slice_get spreads) (sym same) ∙ own.1)
target_spread spreads (ReadArray y n i) x w own e = absurd cc
target_spread spreads (WriteArray y n i a) x w own e = absurd cc

pub global_of : (spreads : List Spread) (b : Block) → ((k : ℕ) (o : Operation) → slice_get b.operations k ≡ Some o → IsAccess spreads o) → (k x : ℕ) (w : Bool) →
    k < size (planned_view b)
    → target_of (operation_at (planned_view b) k).kind ≡ OfGlobal x w → (s : Spread) × (slice_get spreads x ≡ Some s)
global_of spreads b accesses k x w below target =
    let o = get_there b.operations k (subst (λ n. k < n) (size-view b.operations) below) in
    let view : operation_at (planned_view b) k ≡ operation_view o.0 = listed_view b.operations k o.0 o.1 in
    target_spread spreads o.0 x w (accesses k o.0 o.1) (ap (λ (z : PlannedOperation). target_of z.kind) (sym view) ∙ target)

module _ (shape : Shape) (code : ThreadCode) (plan : Planned) (m : Module) (t : IsModule shape code plan m) (served : IsServed shape code plan) where
  abbrev behind : ℕ
  behind = inputs_of shape

  abbrev pub Shows : Reading → Slot → Type 0
  Shows = ShowsData shape.globals code (places_of (inputs_of shape) code plan)

  pub starts_so : (routine : ℕ) → Shows (initial_reading (Some m)) (first_slot shape.is_main routine (length code.stages))
  starts_so routine = record {
    stage = stands_begins m behind t.inside.slot.stage.width (first_stage shape code plan m t served) (stage_stands shape code plan m t served);
    state = stands_begins m (behind + 1) t.inside.slot.state.width 0 (state_stands shape code plan m t served);
    beat = stands_begins m (behind + 2) 1 0 (beat_stands shape code plan m t served);
    variables = λ x ty declared.
        stands_begins m (behind + 3 + x) (width_of ty) 0 (variable_held shape code plan m t served x ty declared).stands ∙ sym (residue_of-zero (width_of ty));
    typed = λ x ty declared. has_zero ty;
    words = λ a i array listed less.
        ap (λ (o : Option Words). initial_word o i) (memory_of shape code plan m t served a array listed) ∙ zero_word array.length i ∙ sym
        (residue_of-zero (width_of array.ty));
    typed_words = λ a i array listed less. has_zero array.ty;
    outside = λ a array listed. refl;
    none_granted = λ none x less. stands_begins m (behind + 3 + length code.variables + plan.registers + x) 1 0 (mark_held shape code plan m t served x less).stands;
  }

  pub keeps_so : (h g : Reading) (q : Slot) → Agree m h g → Shows h q → Shows g q
  keeps_so h g q agree shows = record {
    stage = sym (stands_agrees m h g behind t.inside.slot.stage.width (first_stage shape code plan m t served) agree (stage_stands shape code plan m t served)) ∙ shows.stage;
    state = sym (stands_agrees m h g (behind + 1) t.inside.slot.state.width 0 agree (state_stands shape code plan m t served)) ∙ shows.state;
    beat = sym (stands_agrees m h g (behind + 2) 1 0 agree (beat_stands shape code plan m t served)) ∙ shows.beat;
    variables = λ x ty declared.
        sym (stands_agrees m h g (behind + 3 + x) (width_of ty) 0 agree (variable_held shape code plan m t served x ty declared).stands) ∙ shows.variables x ty declared;
    typed = shows.typed;
    words = λ a i array listed less.
        let long : length (memory_for (0 + a) array).initial ≡ array.length = length-replicate array.length 0 in
        sym (agree.words a i (memory_for (0 + a) array) (memory_of shape code plan m t served a array listed) (omega arith)) ∙ shows.words a i array listed less;
    typed_words = shows.typed_words;
    outside = shows.outside;
    none_granted = λ none x less.
        sym (stands_agrees m h g (behind + 3 + length code.variables + plan.registers + x) 1 0 agree (mark_held shape code plan m t served x less).stands) ∙
        shows.none_granted none x less;
  }

  pub global_within : (q : Slot) (b : Block) (p : BlockPlan) → RunsAt shape.globals shape.spreads code plan q.stage b p → (k x : ℕ) (w : Bool) → k < size (planned_view b)
      → target_of (operation_at (planned_view b) k).kind ≡ OfGlobal x w → x < length shape.globals
  global_within q b p runs k x w below target =
      let s = global_of shape.spreads b runs.accesses k x w below target in
      subst (λ n. x < n) served.spreads.count (slice_get_within shape.spreads x s.0 s.1)

  pub keeps_in_so : (h g : Reading) (q : Slot) (b : Block) (p : BlockPlan) → Agree m h g → RunsAt shape.globals shape.spreads code plan q.stage b p
      → ShowsInBlock shape.globals code (places_of (inputs_of shape) code plan) b p h q → ShowsInBlock shape.globals code (places_of (inputs_of shape) code plan) b p g q
  keeps_in_so h g q b p agree runs shows = record {
    shown = keeps_so h g q agree shows.shown;
    alive = λ k n alive.
        let within = served.registers q.stage k n b p alive.operation runs.listed runs.planned_so alive.listed alive.register in
        let v = kept_held shape code plan m t served n (kept_within shape code plan m t served n within) in
        ap (λ x. x % 2 ^ width_of (value_type shape.globals code alive.operation))
        (sym (stands_agrees m h g (behind + 3 + length code.variables + n) v.held.width 0 agree v.stands))
        ∙ shows.alive k n alive;
    typed_alive = shows.typed_alive;
    granted = λ k x w below target at.
        let less = global_within q b p runs k x w below target in
        sym (stands_agrees m h g (behind + 3 + length code.variables + plan.registers + x) 1 0 agree (mark_held shape code plan m t served x less).stands)
        ∙ shows.granted k x w below target at;
  }
