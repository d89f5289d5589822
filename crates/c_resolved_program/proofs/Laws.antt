-- The laws.
use Rattle.std.proofs.Common.{false, subst}
use Rattle.std.specs.List.{AllByRecursion}
use Rattle.c_program.specs.Resolved.{IsPiece}
use Rattle.c_expressions.specs.Cuts.{free_from}
use Rattle.c_resolved_program.specs.Laws.{ValueIsExpression, FormatIsPieces, BodyIsInOrder}
use Rattle.c_resolved_program.proofs.Walks.{IfAny}
use Rattle.c_resolved_program.proofs.Pieces.{pieces_are}
use Rattle.c_resolved_program.proofs.Behind.{starts}
use Rattle.c_resolved_program.proofs.Trees.{value_shows}
use Rattle.c_resolved_program.proofs.Statements.{block_claim}

pub value_law : ValueIsExpression
value_law whole found P number f s e at valid small order part =
    let is = (value_shows whole P number f small s e valid s.kept_from 0 at (free_from s.kept_from)).forth found part (order, starts whole P number f s order) in
    record { cuts = is.cuts.is; rest = is.rest }

pub format_law : FormatIsPieces
format_law bytes pieces valid is = subst (λ o. IfAny (AllByRecursion IsPiece) o) is (pieces_are bytes valid)

pub body_law : BodyIsInOrder
body_law whole P number f body x given_routines small valid holds ahead =
    (((block_claim whole P number f given_routines small body).does valid false false).forth x ahead tt holds).1
