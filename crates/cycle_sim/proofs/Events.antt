-- What settling again needs of a simulator.
use Rattle.std.specs.Prelude.{◌≡◌, ℕ, Bool, List, length, map}
use Rattle.std.proofs.Common.{ap, sym, ◌∙◌, subst}
use Rattle.netlist.specs.declared.netlist.Module.{Module}
use Rattle.sim_values.specs.declared.settle.Step.{Step}
use Rattle.sim_layout.specs.Running.{Running, Stands}
use Rattle.sim_events.specs.Events.{AreOrdered, IsKeeping}
use Rattle.sim_events.specs.declared.operation.Row.{Row}
use Rattle.sim_events.specs.Operations.{row_of, AreRows}

-- the steps of a simulator are in an order
pub ordered_at : (r : Running) (steps : List Step) (numbers : List ℕ) → Stands r → steps ≡ r.steps → numbers ≡ r.numbers → AreOrdered r.modules steps (length numbers)
ordered_at r steps numbers stands same words =
    subst (λ (ss : List Step). AreOrdered r.modules ss (length numbers)) (sym same)
    (subst (λ n. AreOrdered r.modules r.steps n) (ap length (sym words)) (record { free = stands.free; ordered = stands.plan.ordered; targets = stands.plan.targets }))

pub rows_at : (modules : List Module) (old steps : List Step) (before starts : List ℕ) (was rows : List Row) → steps ≡ old → starts ≡ before → rows ≡ was
    → AreRows modules before old was → AreRows modules starts steps rows
rows_at modules old steps before starts was rows same places kept are = kept ∙ are ∙ sym (ap (λ (ss : List Step). map (row_of modules starts) ss) same ∙ ap (λ ns. map (row_of modules ns) old) places)

pub keeping_at : (modules : List Module) (old steps : List Step) (ends listed before numbers : List ℕ) (pending : List Bool) → steps ≡ old → numbers ≡ before
    → IsKeeping modules old ends listed before pending → IsKeeping modules steps ends listed numbers pending
keeping_at modules old steps ends listed before numbers pending same words is =
    subst (λ (ss : List Step). IsKeeping modules ss ends listed numbers pending) (sym same) (subst (λ (ns : List ℕ). IsKeeping modules old ends listed ns pending) (sym words) is)
