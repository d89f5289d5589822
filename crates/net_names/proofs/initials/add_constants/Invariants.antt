use Rattle.std.proofs.Common.{◌≡◌, ◌++◌, take}
use Rattle.net_names.specs.Found.{behind}
use Rattle.net_names.proofs.initials.add_constants.Given as goal

abbrev pub invariant-loop-constant : goal.invariant-loop-constant
invariant-loop-constant l = behind l.list ≡ behind l.initial.list ++ take l.constant-index l.constants
