use Rattle.std.proofs.Common.{◌≡◌, ◌++◌, map, take}
use Rattle.code_merge.specs.Joined as spec
use Rattle.code_merge.proofs.moving.push_moved.Given as goal

abbrev pub invariant-loop-operation : goal.invariant-loop-operation
invariant-loop-operation l =
    l.operations ≡ l.fn.operations ++ map (spec.moved_operation l.before.count l.before.left.now.current) (take l.operation-index l.more)
