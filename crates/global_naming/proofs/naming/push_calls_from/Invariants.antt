use Rattle.std.proofs.Common.{◌≡◌, ◌++◌, take, map}
use Rattle.global_naming.specs.Tables.{call_from}
use Rattle.global_naming.proofs.naming.push_calls_from.Given as goal

abbrev pub invariant-loop-callee : goal.invariant-loop-callee
invariant-loop-callee l = l.calls.items ≡ l.fn.calls.items ++ map (call_from l.caller) (take l.callee-index l.callee-items)
