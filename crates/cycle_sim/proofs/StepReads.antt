-- What the steps of a net that stand in order read: signals of lower steps.
use Rattle.std.specs.Prelude.{◌≡◌, ℕ, ◌+◌, ◌<◌, Bool, List, map}
use Rattle.std.proofs.Common.{ap, ◌∙◌}
use Rattle.netlist.specs.declared.netlist.Source.TheVariants.{Assigned}
use Rattle.netlist.specs.declared.netlist.Signal.{Signal}
use Rattle.netlist.specs.declared.netlist.Value.{Value}
use Rattle.netlist.specs.declared.netlist.Module.{Module}
use Rattle.verilog_meaning.specs.Cycles.{Path, IsAt}
use Rattle.verilog_meaning.specs.Threads.{operands}
use Rattle.circuit.specs.Rows.{EachOf}
use Rattle.sim_values.specs.declared.settle.Feed.TheVariants.{Computed}
use Rattle.sim_values.specs.declared.settle.Step.{Step}
use Rattle.sim_values.specs.declared.edge.Part.{Part}
use Rattle.sim_values.specs.Order.{source_reads, signal_reads, module_reads, reads, rank}
use Rattle.sim_values.specs.Stands.{spot_at, kind_at, Has, IsFree, IsPlan}
use Rattle.sim_values.proofs.Settles.{rank_reads}

module _ (modules : List Module) (top : Module) (parts : List Part) (steps : List Step) (free : List Bool) (most n : ℕ) (plan : IsPlan modules top parts steps free most n) where
  pub lower : (s : Step) → Has steps s → EachOf (λ y. rank 0 steps y < rank 0 steps s.target) (reads modules s.feed)
  lower s has = rank_reads modules (IsFree free) 0 steps has.0 s plan.ordered has.1

  pub computed_reads : (path : Path) (m : Module) (x : ℕ) (s : Signal) (right : Value) → IsAt modules top path m x s → s.source ≡ Assigned right
      → reads modules (Computed (kind_at parts path) x (spot_at parts path)) ≡ map (λ y. (spot_at parts path).base + y) (operands right)
  computed_reads path m x s right at e =
      ap (module_reads (spot_at parts path).base x) (plan.laid path m at.stands) ∙ ap (signal_reads (spot_at parts path).base) at.listed ∙ ap (source_reads (spot_at parts path).base) e
