use Rattle.std.proofs.Common.{◌≡◌, take}
use Rattle.std.specs.Option.{option_copied}
use Rattle.loop_datapath.specs.Ahead.{last_final}
use Rattle.loop_datapath.proofs.operands.last_final.Given as goal

abbrev pub invariant-loop-one : goal.invariant-loop-one
invariant-loop-one l = option_copied l.last ≡ last_final (take l.one-index l.finals) l.number
