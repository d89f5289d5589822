use Rattle.std.proofs.Common.{◌≡◌, take}
use Rattle.c_program.specs.Plain.{pieces_of}
use Rattle.program_cores.specs.Sites.{site_of}
use Rattle.program_cores.proofs.sites.site_of.Given as goal

abbrev pub invariant-loop-piece : goal.invariant-loop-piece
invariant-loop-piece l = l.parts ≡ site_of (pieces_of (take l.piece-index l.pieces))
