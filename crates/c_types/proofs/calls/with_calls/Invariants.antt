use Rattle.std.proofs.Common.{◌≡◌, fold, take}
use Rattle.c_call_graph.specs.Reaching.{leads}
use Rattle.c_resolution.specs.CallRules.{with_call}
use Rattle.c_types.proofs.calls.with_calls.Given as goal

abbrev pub invariant-loop-call : goal.invariant-loop-call
invariant-loop-call l = l.fault ≡ fold (with_call (leads l.reach.rows)) l.fn.fault (take l.call-index l.calls)
