use Rattle.std.proofs.Common.{◌≡◌, take}
use Rattle.net_names.specs.Tables.{names_of}
use Rattle.net_names.specs.Ties.{ties_of, tied_names}
use Rattle.net_names.proofs.ties.Ties.of.Given as goal

abbrev pub invariant-loop-tie : goal.invariant-loop-tie
invariant-loop-tie l = names_of l.names ≡ tied_names (ties_of (take l.tie-index l.ties))
