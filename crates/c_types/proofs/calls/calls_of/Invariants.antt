use Rattle.std.proofs.Common.{◌≡◌, map, take}
use Rattle.c_resolution.specs.CallRules.{call_of}
use Rattle.c_types.proofs.calls.calls_of.Given as goal

abbrev pub invariant-loop-site : goal.invariant-loop-site
invariant-loop-site l = l.calls ≡ map call_of (take l.site-index l.sites)
