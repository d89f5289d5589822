-- What the solver answers, as starts of the loop or a walk of its table.
use Rattle.std.proofs.Common.{ℕ, ◌+◌, List, length, Ok, Err}
use Rattle.std.specs.Prelude.{slice_index, Result, IfOk}
use Rattle.std.specs.declared.alloc.AllocError.{AllocError}
use Rattle.schedule_sdc.specs.declared.constraint.Constraint.{Constraint}
use Rattle.schedule_sdc.specs.declared.constraint.Solved.{Solved}
use Rattle.schedule_sdc.specs.declared.constraint.Solved.TheVariants.{Starts, Cyclic}
use Rattle.schedule_sdc.specs.Solution.{IsAnswer}
use Rattle.op_graph.specs.declared.node.Node.{Node}
use Rattle.loop_pipeline.specs.declared.table.Carried.{Carried}
use Rattle.loop_pipeline.specs.Table.{AreLoopRows, HasItsSolutions}
use Rattle.loop_pipeline.specs.Pipeline.{IsSolvedLoop}

pub solved_loop : (nodes : List Node) (comparison : ℕ) (carried : List Carried) (interval : ℕ) (list : List Constraint) (s : Solved) →
    AreLoopRows nodes comparison carried interval list → HasItsSolutions nodes comparison carried interval list → IsAnswer (length nodes + 2) list s →
    IsSolvedLoop nodes comparison carried interval s
solved_loop nodes comparison carried interval list (Starts starts) are same a = record {
  count = a.places;
  meets = (same (slice_index starts.items)).0 a.meets;
  least = λ t m i l. a.least t ((same t).1 m) i l;
}
solved_loop nodes comparison carried interval list (Cyclic walk) are same a =
    (record { rows = list; are_rows = are; walks = a.0 }, λ t m. a.1 t ((same t).1 m))

pub solved_result : (nodes : List Node) (comparison : ℕ) (carried : List Carried) (interval : ℕ) (list : List Constraint) (r : Result Solved AllocError) →
    AreLoopRows nodes comparison carried interval list → HasItsSolutions nodes comparison carried interval list → IfOk r (IsAnswer (length nodes + 2) list) →
    IfOk r (IsSolvedLoop nodes comparison carried interval)
solved_result nodes comparison carried interval list (Ok s) are same a = solved_loop nodes comparison carried interval list s are same a
solved_result nodes comparison carried interval list (Err e) are same a = tt
