use Rattle.std.proofs.Common.{take}
use Rattle.loop_plans.specs.Listed.{AreLastSources}
use Rattle.loop_plans.proofs.carried.last_sources.Given as goal

abbrev pub invariant-loop-last_final : goal.invariant-loop-last_final
invariant-loop-last_final l = AreLastSources (take l.last_final-index l.finals) l.last
