use Rattle.std.proofs.Common.{◌≡◌, map, take}
use Rattle.code_merge.specs.Joined as spec
use Rattle.code_merge.proofs.moving.moved_finals.Given as goal

abbrev pub invariant-loop-last : goal.invariant-loop-last
invariant-loop-last l = l.all ≡ map (spec.moved_final l.before.count l.before.left.now.current) (take l.last-index l.finals)
