-- Statements whose jumps stand in loops and whose printfs fit their formats, as those of resolved programs do.
use Rattle.std.specs.Prelude.{ℕ, Bool, true, false, ◌&&◌, nat_eq, nat_le, List, [], ◌∷◌, length, Option, Some, None, is_some, count_by}
use Rattle.c_program.specs.Tree.{Expression, Piece, Statement, Function}
use Rattle.c_program.specs.Resolved.{is_conversion}
use Rattle.code_places.specs.declared.targets.Loop.{Loop}
use Rattle.code_control.specs.Deciding.{is_joined, is_asked}

abbrev pub conversion_count : List Piece → ℕ
conversion_count format = count_by is_conversion format

-- as many values as the format converts, and at most 4
abbrev pub fits_format : List Piece → List Expression → Bool
fits_format format arguments = nat_eq (conversion_count format) (length arguments) && nat_le (length arguments) 4

-- where continue leads
abbrev pub turning_of : Option Loop → Option ℕ
turning_of None = None
turning_of (Some l) = l.turning

abbrev pub has_turning : Option Loop → Bool
has_turning around = is_some (turning_of around)

-- a statement: break where it leads out of a loop or a switch, continue where it leads on in a loop
abbrev pub is_taken : (leaves turns : Bool) → Statement → Bool
is_taken leaves turns (Statement.Sequence first rest) = is_taken leaves turns first && is_taken leaves turns rest
is_taken leaves turns (Statement.Block body) = is_taken leaves turns body
is_taken leaves turns (Statement.If condition consequent alternative) =
    is_asked condition && (is_taken leaves turns consequent && is_taken leaves turns alternative)
is_taken leaves turns (Statement.While condition body) = is_asked condition && is_taken true true body
is_taken leaves turns (Statement.DoWhile body condition) = is_taken true true body && is_asked condition
is_taken leaves turns (Statement.For first condition last body) =
    is_taken false false first && (is_asked condition && (is_taken false false last && is_taken true true body))
is_taken leaves turns Statement.Break = leaves
is_taken leaves turns Statement.Continue = turns
is_taken leaves turns (Statement.Print offset format arguments) = fits_format format arguments
is_taken leaves turns (Statement.Truth slot condition) = is_joined condition && is_asked condition
is_taken leaves turns (Statement.Test offset operand) = false
is_taken leaves turns (Statement.Both first second) = false
is_taken leaves turns (Statement.Either first second) = false
is_taken leaves turns (Statement.Opposite inner) = false
is_taken leaves turns (Statement.Switch offset ty operand body) = is_taken true turns body
is_taken leaves turns statement = true

-- each function
abbrev pub are_taken : List Function → Bool
are_taken [] = true
are_taken (f ∷ fs) = is_taken false false f.body && are_taken fs

-- a statement without others in it, which calls no function of the program
abbrev pub is_simple : Statement → Bool
is_simple (Statement.Sequence first rest) = false
is_simple (Statement.Block body) = false
is_simple (Statement.If condition consequent alternative) = false
is_simple (Statement.While condition body) = false
is_simple (Statement.DoWhile body condition) = false
is_simple (Statement.For first condition last body) = false
is_simple (Statement.Call offset into function arguments) = false
is_simple (Statement.Truth slot condition) = false
is_simple (Statement.Switch offset ty operand body) = false
is_simple statement = true
