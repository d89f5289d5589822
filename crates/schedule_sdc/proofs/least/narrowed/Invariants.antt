use Rattle.std.proofs.Common.{◌≡◌, take}
use Rattle.schedule_sdc.proofs.least.narrowed.Given as goal

abbrev pub invariant-loop-start : goal.invariant-loop-start
invariant-loop-start l = l.narrow.items ≡ take l.start-index l.starts
