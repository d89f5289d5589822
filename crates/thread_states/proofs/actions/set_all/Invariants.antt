use Rattle.std.proofs.Common.{◌≡◌, ◌++◌, take}
use Rattle.thread_states.specs.Actions.{sets_from}
use Rattle.thread_states.proofs.actions.set_all.Given as goal

abbrev pub invariant-loop-number : goal.invariant-loop-number
invariant-loop-number l = l.actions ≡ l.fn.actions ++ sets_from l.condition l.nexts 0 (take l.number l.registers)
