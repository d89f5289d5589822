use Rattle.std.proofs.Common.{◌≡◌, map, take}
use Rattle.hls_ints.specs.Types.{width_of}
use Rattle.thread_requests.specs.Early.{spread_out}
use Rattle.thread_requests.proofs.early.word_widths.Given as goal

abbrev pub invariant-loop-number : goal.invariant-loop-number
invariant-loop-number l = l.widths ≡ spread_out (take l.number l.spreads) (map width_of l.globals)
