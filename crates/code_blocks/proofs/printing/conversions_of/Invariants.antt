use Rattle.std.proofs.Common.{◌≡◌, take, map}
use Rattle.c_program.specs.Plain.{piece_of}
use Rattle.code_following.specs.Following.{conversions_of}
use Rattle.code_blocks.proofs.printing.conversions_of.Given as goal

abbrev pub invariant-loop-piece : goal.invariant-loop-piece
invariant-loop-piece l = l.types ≡ conversions_of (map piece_of (take l.piece-index l.format))
