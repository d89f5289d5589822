-- The pieces of a generated text.
use Rattle.std.specs.Prelude.{ℕ, List, [], ◌∷◌, ◌++◌, drop, codes, decimal}
use Rattle.std.specs.List.{flat_map}
use Rattle.c_token.specs.declared.keyword.Keyword.{Keyword}
use Rattle.c_token.specs.declared.keyword.Keyword.TheVariants as k
use Rattle.c_token.specs.declared.punctuator.Punctuator.{Punctuator}
use Rattle.c_token.specs.declared.punctuator.Punctuator.TheVariants as p
use Rattle.c_token.specs.declared.constant.ConstantType.TheVariants.{Int}
use Rattle.c_token.specs.declared.constant.Constant.TheVariants.{Typed}
use Rattle.c_token.specs.declared.token.Kind.{Kind}
use Rattle.c_token.specs.declared.token.Kind.TheVariants as kind
use Rattle.c_token.specs.Spelling.{Bytes, keyword_spelling, punctuator_spelling}
use Rattle.c_lexer.specs.declared.lexeme.Class.{Class}
use Rattle.c_lexer.specs.declared.lexeme.Class.TheVariants as c
use Rattle.c_lexer.specs.declared.meaning.Awaits.TheVariants as awaits
use Rattle.c_lexer.specs.declared.meaning.Mode.{Mode}
use Rattle.c_lexer.specs.declared.meaning.Mode.TheVariants.{LineStart, InLine, Directive}
use Rattle.c_lexer.specs.declared.meaning.Action.TheVariants as action
use Rattle.c_lexer.specs.Meaning.{State, gives, text_kind}
use Rattle.c_lexer.specs.Texts.{Piece}
use Rattle.generated_text.specs.declared.draws.Letter.{Letter}
use Rattle.generated_text.specs.declared.draws.Kind.{Kind as LineKind}
use Rattle.generated_text.specs.declared.draws.Kind.TheVariants.{Sum, Difference, Product, ExclusiveOr, Quotient, Raise, Publish, Add}
use Rattle.generated_text.specs.declared.draws.Line.{Line}
use Rattle.generated_text.specs.Text.{byte_of}

-- ---- pieces by what they are

abbrev pub line_start : State
line_start = record { mode = LineStart; names = []; values = [] }

abbrev pub in_line : State
in_line = record { mode = InLine; names = []; values = [] }

abbrev silent : Class → Bytes → Mode → Piece
silent class bytes mode = record { bytes = bytes; class = class; effect = gives mode action.Nothing }

abbrev spoken : Class → Bytes → Kind → Piece
spoken class bytes kind = record { bytes = bytes; class = class; effect = gives InLine (action.Token kind) }

-- a blank before the first token of a line, and another one
abbrev pub indent : Piece
indent = silent c.Blank (32 ∷ []) LineStart

abbrev pub blank : Piece
blank = silent c.Blank (32 ∷ []) InLine

abbrev pub line_feed : Piece
line_feed = silent c.LineFeed (10 ∷ []) LineStart

abbrev pub keyword : Keyword → Piece
keyword word = spoken c.Word (keyword_spelling word) (kind.Keyword word)

abbrev pub name : Bytes → Piece
name word = spoken c.Word word (kind.Name word)

abbrev pub letter : Letter → Piece
letter x = name (byte_of x ∷ [])

abbrev pub number : ℕ → Piece
number n = spoken c.Number (decimal n) (kind.Constant (Typed n Int))

abbrev pub mark : Punctuator → Piece
mark m = spoken (c.Mark m) (punctuator_spelling m) (kind.Punctuator m)

abbrev pub literal : Bytes → Piece
literal word = spoken c.Text word (text_kind word)

-- an include directive whose `#` stands at the place
abbrev include : ℕ → Bytes → List Piece
include at header =
    silent c.Hash (35 ∷ []) (Directive at awaits.Word) ∷ silent c.Word (codes "include") (Directive at awaits.Header) ∷
    silent c.Blank (32 ∷ []) (Directive at awaits.Header) ∷ silent (c.Header 62) header (Directive at awaits.LineEnd) ∷ line_feed ∷ []

-- ---- the parts of a text

-- the directives, and what follows up to the length of the first array
abbrev pub begin_pieces : List Piece
begin_pieces =
    include 0 (codes "<stdio.h>") ++ include 19 (codes "<pthread.h>")
    ++ (keyword k.ThreadId ∷ blank ∷ name (codes "t") ∷ mark p.OpenSquare ∷ [])

-- up to the length of the array
abbrev pub array_pieces : List Piece
array_pieces =
    keyword k.Mutex ∷ blank ∷ name (codes "m") ∷ mark p.Semicolon ∷ line_feed ∷ keyword k.Unsigned ∷ blank ∷ name (codes "s") ∷ mark p.Semicolon ∷
    line_feed ∷ keyword k.Unsigned ∷ blank ∷ name (codes "g") ∷ mark p.OpenSquare ∷ []

-- behind the length of an array
abbrev pub sized_end_pieces : List Piece
sized_end_pieces =
    mark p.CloseSquare ∷ mark p.Semicolon ∷ line_feed ∷ []

-- the worker up to its lines
abbrev pub worker_head_pieces : List Piece
worker_head_pieces =
    keyword k.Void ∷ blank ∷ mark p.Star ∷ name (codes "worker") ∷ mark p.OpenRound ∷ keyword k.Void ∷ blank ∷ mark p.Star ∷ name (codes "arg") ∷
    mark p.CloseRound ∷ blank ∷ mark p.OpenCurly ∷ line_feed ∷ indent ∷ indent ∷ keyword k.Long ∷ blank ∷ name (codes "id") ∷ blank ∷ mark p.Assign ∷
    blank ∷ mark p.OpenRound ∷ keyword k.Long ∷ mark p.CloseRound ∷ name (codes "arg") ∷ mark p.Semicolon ∷ line_feed ∷ indent ∷ indent ∷
    keyword k.Unsigned ∷ blank ∷ name (codes "a") ∷ blank ∷ mark p.Assign ∷ blank ∷ mark p.OpenRound ∷ keyword k.Unsigned ∷ mark p.CloseRound ∷
    name (codes "id") ∷ blank ∷ mark p.Plus ∷ blank ∷ number 1 ∷ mark p.Comma ∷ blank ∷ name (codes "b") ∷ blank ∷ mark p.Assign ∷ blank ∷ number 2 ∷
    mark p.Comma ∷ blank ∷ name (codes "c") ∷ blank ∷ mark p.Assign ∷ blank ∷ number 3 ∷ mark p.Comma ∷ blank ∷ name (codes "d") ∷ blank ∷
    mark p.Assign ∷ blank ∷ number 4 ∷ mark p.Semicolon ∷ line_feed ∷ []

-- the worker behind its lines
abbrev pub worker_tail_pieces : List Piece
worker_tail_pieces =
    indent ∷ indent ∷ name (codes "g") ∷ mark p.OpenSquare ∷ name (codes "id") ∷ mark p.CloseSquare ∷ blank ∷ mark p.Assign ∷ blank ∷
    name (codes "a") ∷ blank ∷ mark p.Xor ∷ blank ∷ name (codes "b") ∷ blank ∷ mark p.Xor ∷ blank ∷ name (codes "c") ∷ blank ∷ mark p.Xor ∷ blank ∷
    name (codes "d") ∷ mark p.Semicolon ∷ line_feed ∷ indent ∷ indent ∷ name (codes "pthread_mutex_lock") ∷ mark p.OpenRound ∷ mark p.And ∷
    name (codes "m") ∷ mark p.CloseRound ∷ mark p.Semicolon ∷ line_feed ∷ indent ∷ indent ∷ name (codes "s") ∷ blank ∷ mark p.PlusAssign ∷ blank ∷
    name (codes "g") ∷ mark p.OpenSquare ∷ name (codes "id") ∷ mark p.CloseSquare ∷ mark p.Semicolon ∷ line_feed ∷ indent ∷ indent ∷
    name (codes "pthread_mutex_unlock") ∷ mark p.OpenRound ∷ mark p.And ∷ name (codes "m") ∷ mark p.CloseRound ∷ mark p.Semicolon ∷ line_feed ∷
    indent ∷ indent ∷ keyword k.Return ∷ blank ∷ keyword k.Null ∷ mark p.Semicolon ∷ line_feed ∷ mark p.CloseCurly ∷ line_feed ∷ []

-- main up to its loops
abbrev pub main_head_pieces : List Piece
main_head_pieces =
    keyword k.Int ∷ blank ∷ name (codes "main") ∷ mark p.OpenRound ∷ keyword k.Void ∷ mark p.CloseRound ∷ blank ∷ mark p.OpenCurly ∷ line_feed ∷
    indent ∷ indent ∷ keyword k.Int ∷ blank ∷ name (codes "i") ∷ mark p.Semicolon ∷ line_feed ∷ indent ∷ indent ∷ name (codes "pthread_mutex_init") ∷
    mark p.OpenRound ∷ mark p.And ∷ name (codes "m") ∷ mark p.Comma ∷ blank ∷ keyword k.Null ∷ mark p.CloseRound ∷ mark p.Semicolon ∷ line_feed ∷ []

-- a loop up to the number of threads
abbrev pub loop_head_pieces : List Piece
loop_head_pieces =
    indent ∷ indent ∷ keyword k.For ∷ blank ∷ mark p.OpenRound ∷ name (codes "i") ∷ blank ∷ mark p.Assign ∷ blank ∷ number 0 ∷ mark p.Semicolon ∷
    blank ∷ name (codes "i") ∷ blank ∷ mark p.Less ∷ blank ∷ []

-- the loops behind it
abbrev pub create_pieces : List Piece
create_pieces =
    mark p.Semicolon ∷ blank ∷ name (codes "i") ∷ mark p.PlusPlus ∷ mark p.CloseRound ∷ blank ∷ mark p.OpenCurly ∷ line_feed ∷ indent ∷ indent ∷
    indent ∷ indent ∷ name (codes "pthread_create") ∷ mark p.OpenRound ∷ mark p.And ∷ name (codes "t") ∷ mark p.OpenSquare ∷ name (codes "i") ∷
    mark p.CloseSquare ∷ mark p.Comma ∷ blank ∷ keyword k.Null ∷ mark p.Comma ∷ blank ∷ name (codes "worker") ∷ mark p.Comma ∷ blank ∷
    mark p.OpenRound ∷ keyword k.Void ∷ blank ∷ mark p.Star ∷ mark p.CloseRound ∷ mark p.OpenRound ∷ keyword k.Long ∷ mark p.CloseRound ∷
    name (codes "i") ∷ mark p.CloseRound ∷ mark p.Semicolon ∷ line_feed ∷ indent ∷ indent ∷ mark p.CloseCurly ∷ line_feed ∷ []

abbrev pub join_pieces : List Piece
join_pieces =
    mark p.Semicolon ∷ blank ∷ name (codes "i") ∷ mark p.PlusPlus ∷ mark p.CloseRound ∷ blank ∷ mark p.OpenCurly ∷ line_feed ∷ indent ∷ indent ∷
    indent ∷ indent ∷ name (codes "pthread_join") ∷ mark p.OpenRound ∷ name (codes "t") ∷ mark p.OpenSquare ∷ name (codes "i") ∷ mark p.CloseSquare ∷
    mark p.Comma ∷ blank ∷ keyword k.Null ∷ mark p.CloseRound ∷ mark p.Semicolon ∷ line_feed ∷ indent ∷ indent ∷ mark p.CloseCurly ∷ line_feed ∷ []

abbrev pub print_pieces : List Piece
print_pieces =
    mark p.Semicolon ∷ blank ∷ name (codes "i") ∷ mark p.PlusPlus ∷ mark p.CloseRound ∷ blank ∷ mark p.OpenCurly ∷ line_feed ∷ indent ∷ indent ∷
    indent ∷ indent ∷ name (codes "printf") ∷ mark p.OpenRound ∷ literal (codes "\"%u\\n\"") ∷ mark p.Comma ∷ blank ∷ name (codes "g") ∷
    mark p.OpenSquare ∷ name (codes "i") ∷ mark p.CloseSquare ∷ mark p.CloseRound ∷ mark p.Semicolon ∷ line_feed ∷ indent ∷ indent ∷
    mark p.CloseCurly ∷ line_feed ∷ []

-- main behind its loops
abbrev pub main_tail_pieces : List Piece
main_tail_pieces =
    indent ∷ indent ∷ name (codes "printf") ∷ mark p.OpenRound ∷ literal (codes "\"%u\\n\"") ∷ mark p.Comma ∷ blank ∷ name (codes "s") ∷
    mark p.CloseRound ∷ mark p.Semicolon ∷ line_feed ∷ indent ∷ indent ∷ name (codes "pthread_mutex_destroy") ∷ mark p.OpenRound ∷ mark p.And ∷
    name (codes "m") ∷ mark p.CloseRound ∷ mark p.Semicolon ∷ line_feed ∷ indent ∷ indent ∷ keyword k.Return ∷ blank ∷ number 0 ∷ mark p.Semicolon ∷
    line_feed ∷ mark p.CloseCurly ∷ line_feed ∷ []

-- ---- lines

abbrev pub statement_pieces : LineKind → Letter → Letter → Letter → List Piece
statement_pieces Sum x y z =
    (letter x ∷ blank ∷ mark p.Assign ∷ blank ∷ []) ++ (letter y ∷ blank ∷ mark p.Plus ∷ blank ∷ []) ++ (letter z ∷ mark p.Semicolon ∷ [])
statement_pieces Difference x y z =
    (letter x ∷ blank ∷ mark p.Assign ∷ blank ∷ []) ++ (letter y ∷ blank ∷ mark p.Minus ∷ blank ∷ []) ++ (letter z ∷ mark p.Semicolon ∷ [])
statement_pieces Product x y z =
    (letter x ∷ blank ∷ mark p.Assign ∷ blank ∷ []) ++ (letter y ∷ blank ∷ mark p.Star ∷ blank ∷ []) ++ (letter z ∷ mark p.Semicolon ∷ [])
statement_pieces ExclusiveOr x y z =
    (letter x ∷ blank ∷ mark p.Assign ∷ blank ∷ []) ++ (letter y ∷ blank ∷ mark p.Xor ∷ blank ∷ []) ++ (letter z ∷ mark p.Semicolon ∷ [])
statement_pieces Quotient x y z =
    (letter x ∷ blank ∷ mark p.Assign ∷ blank ∷ []) ++ (letter y ∷ blank ∷ mark p.Slash ∷ blank ∷ mark p.OpenRound ∷ [])
    ++ (letter z ∷ blank ∷ mark p.Or ∷ blank ∷ number 1 ∷ mark p.CloseRound ∷ mark p.Semicolon ∷ [])
statement_pieces Raise x y z =
    (keyword k.If ∷ blank ∷ mark p.OpenRound ∷ []) ++ (letter y ∷ blank ∷ mark p.Less ∷ blank ∷ [])
    ++ (letter z ∷ mark p.CloseRound ∷ blank ∷ mark p.OpenCurly ∷ blank ∷ []) ++ (letter x ∷ blank ∷ mark p.Assign ∷ blank ∷ [])
    ++ (letter x ∷ blank ∷ mark p.Plus ∷ blank ∷ number 1 ∷ mark p.Semicolon ∷ blank ∷ mark p.CloseCurly ∷ [])
statement_pieces Publish x y z =
    (name (codes "g") ∷ mark p.OpenSquare ∷ name (codes "id") ∷ mark p.CloseSquare ∷ blank ∷ mark p.Assign ∷ blank ∷ [])
    ++ (letter x ∷ mark p.Semicolon ∷ [])
statement_pieces Add x y z =
    (name (codes "pthread_mutex_lock") ∷ mark p.OpenRound ∷ mark p.And ∷
    name (codes "m") ∷ mark p.CloseRound ∷ mark p.Semicolon ∷ blank ∷
    name (codes "s") ∷ blank ∷ mark p.PlusAssign ∷ blank ∷ [])
    ++ (letter x ∷ mark p.Semicolon ∷ blank ∷ name (codes "pthread_mutex_unlock") ∷ mark p.OpenRound ∷ mark p.And ∷
    name (codes "m") ∷ mark p.CloseRound ∷ mark p.Semicolon ∷ [])

-- its last two statements
abbrev pub adding_pieces : Letter → List Piece
adding_pieces x = name (codes "s") ∷ mark p.PlusAssign ∷ letter x ∷ mark p.Semicolon ∷ []

abbrev pub unlocking_pieces : List Piece
unlocking_pieces = name (codes "pthread_mutex_unlock") ∷ mark p.OpenRound ∷ mark p.And ∷ name (codes "m") ∷ mark p.CloseRound ∷ mark p.Semicolon ∷ []

abbrev pub line_pieces : Line → List Piece
line_pieces line = (indent ∷ indent ∷ []) ++ statement_pieces line.kind line.target line.left line.right ++ (line_feed ∷ [])

-- ---- declarations without their blanks

abbrev pub threads_pieces : ℕ → List Piece
threads_pieces t = keyword k.ThreadId ∷ name (codes "t") ∷ mark p.OpenSquare ∷ number t ∷ mark p.CloseSquare ∷ mark p.Semicolon ∷ []

abbrev pub mutex_pieces : List Piece
mutex_pieces = keyword k.Mutex ∷ name (codes "m") ∷ mark p.Semicolon ∷ []

abbrev pub sum_pieces : List Piece
sum_pieces = keyword k.Unsigned ∷ name (codes "s") ∷ mark p.Semicolon ∷ []

abbrev pub elements_pieces : ℕ → List Piece
elements_pieces t = keyword k.Unsigned ∷ name (codes "g") ∷ mark p.OpenSquare ∷ number t ∷ mark p.CloseSquare ∷ mark p.Semicolon ∷ []

abbrev pub worker_name_pieces : List Piece
worker_name_pieces =
    keyword k.Void ∷ mark p.Star ∷ name (codes "worker") ∷ mark p.OpenRound ∷ keyword k.Void ∷ mark p.Star ∷ name (codes "arg") ∷
    mark p.CloseRound ∷ []

-- the locals of the worker
abbrev pub opening_pieces : List Piece
opening_pieces = drop 13 worker_head_pieces

-- ---- whole texts

-- with the number of threads in them
abbrev pub sized_pieces : List Piece → ℕ → List Piece → List Piece
sized_pieces before threads behind = before ++ (number threads ∷ behind)

abbrev pub head_pieces : ℕ → List Piece
head_pieces threads = sized_pieces begin_pieces threads sized_end_pieces ++ sized_pieces array_pieces threads sized_end_pieces ++ worker_head_pieces

abbrev pub loops_pieces : ℕ → List Piece
loops_pieces threads =
    sized_pieces loop_head_pieces threads create_pieces ++ sized_pieces loop_head_pieces threads join_pieces
    ++ sized_pieces loop_head_pieces threads print_pieces

abbrev pub main_pieces : ℕ → List Piece
main_pieces threads = main_head_pieces ++ loops_pieces threads ++ main_tail_pieces

abbrev pub text_pieces : ℕ → List Line → List Piece
text_pieces threads lines = head_pieces threads ++ flat_map line_pieces lines ++ worker_tail_pieces ++ main_pieces threads
