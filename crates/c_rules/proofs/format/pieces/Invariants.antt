use Rattle.std.proofs.Common.{◌≡◌, ◌-◌}
use Rattle.c_program.specs.Plain.{pieces_of}
use Rattle.c_rules.specs.Formats.{pieces_in, pieces_from}
use Rattle.c_rules.proofs.format.pieces.Given as goal

abbrev pub invariant-loop-turn : goal.invariant-loop-turn
invariant-loop-turn l =
    pieces_in l.format ≡ pieces_from (l._turn-end - l._turn) (pieces_of l.pieces.items, l.text.items) l.left
