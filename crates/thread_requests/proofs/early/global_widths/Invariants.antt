use Rattle.std.proofs.Common.{◌≡◌, map, take}
use Rattle.hls_ints.specs.Types.{width_of}
use Rattle.thread_requests.proofs.early.global_widths.Given as goal

abbrev pub invariant-loop-ty : goal.invariant-loop-ty
invariant-loop-ty l = l.widths ≡ map width_of (take l.ty-index l.globals)
