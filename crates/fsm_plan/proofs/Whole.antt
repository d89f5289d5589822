-- What was bound is the plan of the block.
use Rattle.std.proofs.Common.{◌≡◌, ℕ, ◌+◌, ◌-◌, ◌<◌, ◌^◌, List, length, get_or, take, Option, Some, None, ap, subst, sym, ◌∙◌, arith}
use Rattle.std.specs.Prelude.{slice_index, max, unwrap_or}
use Rattle.std.specs.List.{range_with_len}
use Rattle.std.proofs.lemmas.List.FromFn.{length-range_with_len}
use Rattle.std.proofs.lemmas.List.Sums.{count_by-le-length}
use Rattle.block_ir.specs.declared.block.Block.{Block}
use Rattle.block_ir.specs.declared.plan.BlockPlan.{BlockPlan}
use Rattle.op_graph.specs.declared.node.Node.{Node}
use Rattle.op_graph.specs.Graph.{nodes_of, done}
use Rattle.unit_binding.specs.Units.{AreUnits, WorkTogether}
use Rattle.register_binding.specs.Used.{is_used_at_end}
use Rattle.register_binding.specs.Registers.{AreRegisters, RegistersBelow, AreCrowded, LiveTogether, lives_at, register_at, number}
use Rattle.fsm_plan.specs.Planned.{AreLeastStarts, IsPlannedRun}
use Rattle.fsm_plan.specs.Steps.{AreBindings, AreSmall, IsSmallName, AreSmallNames}
use Rattle.fsm_plan.proofs.Bridge.{length-nodes}
use Rattle.fsm_plan.proofs.Small.{number_small}

small_if : (o : Option ℕ) (n : ℕ) → number o < n → n < 2 ^ 32 → IsSmallName o
small_if None n l few = tt
small_if (Some r) n l few = omega arith

module _ (b : Block) (starts : List ℕ) (few : length b.operations < 2 ^ 32) where
  abbrev nodes : List Node
  nodes = nodes_of b.operations

  units_small : (units : List ℕ) → AreUnits nodes starts units → AreSmall units
  units_small units are = λ i l.
      let c = are.count in
      let n = length-nodes b.operations in
      let h = number_small (length nodes) (slice_index starts) (WorkTogether nodes starts) (slice_index units) are.bound i (omega arith) in
      omega arith

  names_small : (registers : List (Option ℕ)) → AreRegisters nodes starts (is_used_at_end b) registers → AreSmallNames registers
  names_small registers are = λ i l.
      let c = are.count in
      let n = length-nodes b.operations in
      let h = number_small (length nodes) (done nodes starts) (LiveTogether nodes starts (is_used_at_end b)) (λ j. number (register_at registers j)) are.packed i (omega arith) in
      small_if (register_at registers i) (length nodes) h (omega arith)

  pub bindings : (units units' : List ℕ) (registers registers' : List (Option ℕ)) (count crowded k : ℕ) → AreUnits nodes starts units →
      AreRegisters nodes starts (is_used_at_end b) registers →
      RegistersBelow registers count → AreCrowded nodes starts (is_used_at_end b) count crowded → (AreSmall units → units' ≡ units) → (AreSmallNames registers →
      registers' ≡ registers) →
      (count < 2 ^ 32 → k ≡ count) → AreBindings b starts units' registers' k
  bindings units units' registers registers' count crowded k are given below crowd unit_names names narrow =
      let u = unit_names (units_small units are) in
      let r = names (names_small registers given) in
      let all = length-range_with_len 0 (length nodes) in
      let c = count_by-le-length (lives_at nodes starts (is_used_at_end b) crowded) (range_with_len 0 (length nodes)) in
      let m = crowd.crowd in
      let n = length-nodes b.operations in
      let e = narrow (omega arith) in
      record {
        units_are = subst (λ (z : List ℕ). AreUnits nodes starts z) (sym u) are;
        registers_are = subst (λ (z : List (Option ℕ)). AreRegisters nodes starts (is_used_at_end b) z) (sym r) given;
        greatest = record { most = λ q. (let h = crowd.most q in omega arith); some = (crowded, m ∙ sym e) };
        below = subst (λ (z : List (Option ℕ)). RegistersBelow z k) (sym r) (subst (λ (z : ℕ). RegistersBelow registers z) (sym e) below);
      }

  pub planned_run : AreLeastStarts nodes starts → (units : List ℕ) (registers : List (Option ℕ)) (count : ℕ) → AreBindings b starts units registers count → (p : BlockPlan) →
      p.starts ≡ take (length b.operations) starts → p.states ≡ max 1 (slice_index starts (length b.operations)) → p.units ≡ units → p.registers ≡ registers →
      IsPlannedRun b p count
  planned_run least units registers count are p first states u r = record {
    plan = record {
      starts = starts;
      least = least;
      starts_are = first;
      states = states;
      units = subst (λ (z : List ℕ). AreUnits nodes starts z) (sym u) are.units_are;
      registers = subst (λ (z : List (Option ℕ)). AreRegisters nodes starts (is_used_at_end b) z) (sym r) are.registers_are;
    };
    greatest = are.greatest;
    below = subst (λ (z : List (Option ℕ)). RegistersBelow z count) (sym r) are.below;
  }

-- the starts with the end taken off
pub last_off : (xs : List ℕ) (n m : ℕ) (o : Option ℕ) (end : ℕ) → m ≡ n + 1 → ((d : ℕ) → 0 < m → o ≡ Some (get_or xs (m - 1) d)) → end ≡ unwrap_or o 0 →
    max end 1 ≡ max 1 (slice_index xs n)
last_off xs n m o end e f g =
    let h = f 0 (omega arith) in
    let i : m - 1 ≡ n = omega arith in
    let j : o ≡ Some (get_or xs n 0) = h ∙ ap (λ (k : ℕ). Some (get_or xs k 0)) i in
    let k : end ≡ get_or xs n 0 = g ∙ ap (λ (z : Option ℕ). unwrap_or z 0) j in
    let t : max end 1 ≡ max 1 end = grind arith in
    t ∙ ap (λ (z : ℕ). max 1 z) k
