-- The row of a step gives what the step gives.
use Rattle.std.specs.Prelude.{◌≡◌, ℕ, ◌^◌, ◌<◌, not, List, length, Some, option_map, slice_get}
use Rattle.std.proofs.Common.{ap, sym, ◌∙◌, subst}
use Rattle.std.proofs.lemmas.Option.{same_Some, slice_get-map}
use Rattle.netlist.specs.declared.netlist.Module.{Module}
use Rattle.verilog_meaning.specs.Cycles.{Choice}
use Rattle.sim_values.specs.declared.settle.Step.{Step}
use Rattle.sim_values.specs.Flat.{AreNarrow, fed}
use Rattle.sim_events.specs.declared.operation.Row.{Row}
use Rattle.sim_events.specs.Events.{steady}
use Rattle.sim_events.specs.Operations.{row_of, result_of, AreRows, IsNarrowOperation}
use Rattle.sim_events.proofs.OperationResults.{operation_gives, operation_narrow}

module _ (modules : List Module) (starts : List ℕ) (steps : List Step) (rows : List Row) (are : AreRows modules starts steps rows)
    (k : ℕ) (s : Step) (row : Row) (at : slice_get steps k ≡ Some s) (there : slice_get rows k ≡ Some row) where
  pub row_is : row ≡ row_of modules starts s
  row_is = same_Some row (row_of modules starts s)
      (sym there ∙ ap (λ (rs : List Row). slice_get rs k) are ∙ slice_get-map (row_of modules starts) steps k ∙ ap (option_map (row_of modules starts)) at)

  pub row_narrow : AreNarrow modules → IsNarrowOperation row.operation
  row_narrow narrow = subst (λ (r : Row). IsNarrowOperation r.operation) (sym row_is) (operation_narrow modules starts narrow s.feed)

  pub row_target : row.target ≡ s.target
  row_target = ap (λ (r : Row). r.target) row_is

  pub row_moving : row.moving ≡ not (steady modules s.feed)
  row_moving = ap (λ (r : Row). r.moving) row_is

  pub row_gives : (c : Choice) (numbers words : List ℕ) → length numbers < 2 ^ 64 → (v : ℕ)
      → v ≡ result_of modules c (record { numbers = numbers; words = words; starts = starts }) s.feed row.operation
      → v ≡ fed modules c (record { numbers = numbers; words = words; starts = starts }) s.feed
  row_gives c numbers words few v is =
      is ∙ ap (λ (r : Row). result_of modules c (record { numbers = numbers; words = words; starts = starts }) s.feed r.operation) row_is
      ∙ operation_gives modules c (record { numbers = numbers; words = words; starts = starts }) few s.feed
