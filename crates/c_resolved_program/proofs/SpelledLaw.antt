-- A program that a tree spells is resolved.
use Rattle.std.proofs.Common.{sym, subst}
use Rattle.c_program.specs.Resolved.{IsResolved}
use Rattle.c_resolved_program.specs.Laws.{IsNumbered, SpelledIsResolved}
use Rattle.c_resolved_program.proofs.Assembly.{no_fault, gives_routines, assembled}
use Rattle.c_resolved_program.proofs.HeadersInOrder.{gathered}

pub spelled_law : SpelledIsResolved
spelled_law tree P valid spells numbered =
    let main = spells.main in
    let faultless = spells.no_fault in
    let own = subst IsNumbered spells.program numbered in
    let routines = gives_routines tree main faultless in
    subst IsResolved (sym spells.program)
    (assembled tree main faultless (gathered tree.declarations main valid (no_fault tree main faultless) spells.has_main own routines))
