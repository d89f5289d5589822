use Rattle.std.proofs.Common.{◌≡◌, ◌++◌, drop}
use Rattle.c_program.specs.Plain.{pieces_of}
use Rattle.thread_semantics.specs.Step.{printed}
use Rattle.c_step_parts.proofs.act.printed.Given as goal

abbrev pub invariant-loop-piece : goal.invariant-loop-piece
invariant-loop-piece l =
    printed (pieces_of l.format) l.operands ≡
    l.text ++ printed (pieces_of (drop l.piece-index l.format)) l.rest
