-- How keywords (C99 6.4.1) and punctuators (C99 6.4.6) are spelled.
use Rattle.std.specs.Prelude.{ℕ, List, [], ◌∷◌, Option, codes, nat_eq}
use Rattle.std.specs.List.{find, starts_with}
use Rattle.std.specs.Str.{bytes_eq}
use Rattle.c_token.specs.declared.keyword.Keyword.{Keyword}
use Rattle.c_token.specs.declared.keyword.Keyword.TheVariants as k
use Rattle.c_token.specs.declared.punctuator.Punctuator.{Punctuator}
use Rattle.c_token.specs.declared.punctuator.Punctuator.TheVariants as p

-- the bytes of a text, or of a part of it
abbrev pub Bytes : Type 0
Bytes = List ℕ

-- ---- keywords

abbrev pub keyword_spelling : Keyword → Bytes
keyword_spelling k.Auto = codes "auto"
keyword_spelling k.Break = codes "break"
keyword_spelling k.Case = codes "case"
keyword_spelling k.Char = codes "char"
keyword_spelling k.Const = codes "const"
keyword_spelling k.Continue = codes "continue"
keyword_spelling k.Default = codes "default"
keyword_spelling k.Do = codes "do"
keyword_spelling k.Double = codes "double"
keyword_spelling k.Else = codes "else"
keyword_spelling k.Enum = codes "enum"
keyword_spelling k.Extern = codes "extern"
keyword_spelling k.Float = codes "float"
keyword_spelling k.For = codes "for"
keyword_spelling k.Goto = codes "goto"
keyword_spelling k.If = codes "if"
keyword_spelling k.Inline = codes "inline"
keyword_spelling k.Int = codes "int"
keyword_spelling k.Long = codes "long"
keyword_spelling k.Register = codes "register"
keyword_spelling k.Restrict = codes "restrict"
keyword_spelling k.Return = codes "return"
keyword_spelling k.Short = codes "short"
keyword_spelling k.Signed = codes "signed"
keyword_spelling k.Sizeof = codes "sizeof"
keyword_spelling k.Static = codes "static"
keyword_spelling k.Struct = codes "struct"
keyword_spelling k.Switch = codes "switch"
keyword_spelling k.Typedef = codes "typedef"
keyword_spelling k.Union = codes "union"
keyword_spelling k.Unsigned = codes "unsigned"
keyword_spelling k.Void = codes "void"
keyword_spelling k.Volatile = codes "volatile"
keyword_spelling k.While = codes "while"
keyword_spelling k.Bool = codes "_Bool"
keyword_spelling k.Complex = codes "_Complex"
keyword_spelling k.Imaginary = codes "_Imaginary"
keyword_spelling k.Null = codes "NULL"
keyword_spelling k.MutexInitializer = codes "PTHREAD_MUTEX_INITIALIZER"
keyword_spelling k.ThreadId = codes "pthread_t"
keyword_spelling k.Mutex = codes "pthread_mutex_t"
keyword_spelling k.Barrier = codes "pthread_barrier_t"

abbrev pub keywords : List Keyword
keywords =
    k.Auto ∷ k.Break ∷ k.Case ∷ k.Char ∷ k.Const ∷ k.Continue ∷ k.Default ∷ k.Do ∷ k.Double ∷ k.Else ∷
    k.Enum ∷ k.Extern ∷ k.Float ∷ k.For ∷ k.Goto ∷ k.If ∷ k.Inline ∷ k.Int ∷ k.Long ∷ k.Register ∷
    k.Restrict ∷ k.Return ∷ k.Short ∷ k.Signed ∷ k.Sizeof ∷ k.Static ∷ k.Struct ∷ k.Switch ∷ k.Typedef ∷
    k.Union ∷ k.Unsigned ∷ k.Void ∷ k.Volatile ∷ k.While ∷ k.Bool ∷ k.Complex ∷ k.Imaginary ∷ k.Null ∷
    k.MutexInitializer ∷ k.ThreadId ∷ k.Mutex ∷ k.Barrier ∷ []

-- the keyword that is spelled so
unfoldable pub keyword_of : Bytes → Option Keyword
keyword_of word = find (λ k. bytes_eq (keyword_spelling k) word) keywords

-- ---- punctuators

abbrev pub punctuator_spelling : Punctuator → Bytes
punctuator_spelling p.ShiftLeftAssign = codes "<<="
punctuator_spelling p.ShiftRightAssign = codes ">>="
punctuator_spelling p.PlusAssign = codes "+="
punctuator_spelling p.MinusAssign = codes "-="
punctuator_spelling p.StarAssign = codes "*="
punctuator_spelling p.SlashAssign = codes "/="
punctuator_spelling p.PercentAssign = codes "%="
punctuator_spelling p.AndAssign = codes "&="
punctuator_spelling p.OrAssign = codes "|="
punctuator_spelling p.XorAssign = codes "^="
punctuator_spelling p.ShiftLeft = codes "<<"
punctuator_spelling p.ShiftRight = codes ">>"
punctuator_spelling p.LessEqual = codes "<="
punctuator_spelling p.GreaterEqual = codes ">="
punctuator_spelling p.EqualEqual = codes "=="
punctuator_spelling p.NotEqual = codes "!="
punctuator_spelling p.AndAnd = codes "&&"
punctuator_spelling p.OrOr = codes "||"
punctuator_spelling p.PlusPlus = codes "++"
punctuator_spelling p.MinusMinus = codes "--"
punctuator_spelling p.OpenRound = codes "("
punctuator_spelling p.CloseRound = codes ")"
punctuator_spelling p.OpenCurly = codes "{"
punctuator_spelling p.CloseCurly = codes "}"
punctuator_spelling p.OpenSquare = codes "["
punctuator_spelling p.CloseSquare = codes "]"
punctuator_spelling p.Semicolon = codes ";"
punctuator_spelling p.Comma = codes ","
punctuator_spelling p.Plus = codes "+"
punctuator_spelling p.Minus = codes "-"
punctuator_spelling p.Star = codes "*"
punctuator_spelling p.Slash = codes "/"
punctuator_spelling p.Percent = codes "%"
punctuator_spelling p.And = codes "&"
punctuator_spelling p.Or = codes "|"
punctuator_spelling p.Xor = codes "^"
punctuator_spelling p.Tilde = codes "~"
punctuator_spelling p.Exclamation = codes "!"
punctuator_spelling p.Less = codes "<"
punctuator_spelling p.Greater = codes ">"
punctuator_spelling p.Assign = codes "="
punctuator_spelling p.Question = codes "?"
punctuator_spelling p.Colon = codes ":"

-- the longest first
abbrev pub punctuators : List Punctuator
punctuators =
    p.ShiftLeftAssign ∷ p.ShiftRightAssign ∷ p.PlusAssign ∷ p.MinusAssign ∷ p.StarAssign ∷ p.SlashAssign ∷
    p.PercentAssign ∷ p.AndAssign ∷ p.OrAssign ∷ p.XorAssign ∷ p.ShiftLeft ∷ p.ShiftRight ∷ p.LessEqual ∷
    p.GreaterEqual ∷ p.EqualEqual ∷ p.NotEqual ∷ p.AndAnd ∷ p.OrOr ∷ p.PlusPlus ∷ p.MinusMinus ∷
    p.OpenRound ∷ p.CloseRound ∷ p.OpenCurly ∷ p.CloseCurly ∷ p.OpenSquare ∷ p.CloseSquare ∷ p.Semicolon ∷
    p.Comma ∷ p.Plus ∷ p.Minus ∷ p.Star ∷ p.Slash ∷ p.Percent ∷ p.And ∷ p.Or ∷ p.Xor ∷ p.Tilde ∷
    p.Exclamation ∷ p.Less ∷ p.Greater ∷ p.Assign ∷ p.Question ∷ p.Colon ∷ []

-- the longest punctuator that the text begins with
unfoldable pub punctuator_at : Bytes → Option Punctuator
punctuator_at text = find (λ p. starts_with nat_eq text (punctuator_spelling p)) punctuators
