-- What parsing answers.
use Rattle.std.specs.Prelude.{◌≡◌, ℕ, List, Result, Ok, Err, Option, Some, None, slice_get}
use Rattle.grammar.specs.Sentences.{SentenceWithin, FaultAt, TooDeepAt}
use Rattle.c_token.specs.declared.token.Token.{Token}
use Rattle.c_tree.specs.declared.declaration.TranslationUnit.{TranslationUnit}
use Rattle.c_tree.specs.Declarations.{unit}
use Rattle.c_parser.specs.declared.ParseError.{ParseError}
use Rattle.c_parser.specs.declared.ParseError.TheVariants.{Syntax, Nesting, Memory}

abbrev pub offset_or_none : Option Token → ℕ
offset_or_none (Some t) = t.offset
offset_or_none None = 0

-- the place of token k in the text; 0 where there is none
abbrev pub offset_at : List Token → ℕ → ℕ
offset_at ts k = offset_or_none (slice_get ts k)

abbrev pub Parsed : List Token → Result TranslationUnit ParseError → Type 0
Parsed ts (Ok v) = SentenceWithin unit 64 ts v
Parsed ts (Err (Syntax k at)) = FaultAt unit 64 ts k × (at ≡ offset_at ts k)
Parsed ts (Err (Nesting k count at)) = TooDeepAt unit 64 ts k count × (at ≡ offset_at ts k)
Parsed ts (Err Memory) = Unit {0}

abbrev pub Finds : TranslationUnit → Result TranslationUnit ParseError → Type 0
Finds v (Ok w) = w ≡ v
Finds v (Err (Syntax k at)) = ⊥
Finds v (Err (Nesting k count at)) = ⊥
Finds v (Err Memory) = Unit {0}

-- this fault, unless memory ran out
abbrev pub AnswersOnly : ParseError → Result TranslationUnit ParseError → Type 0
AnswersOnly e (Ok w) = ⊥
AnswersOnly e (Err Memory) = Unit {0}
AnswersOnly e (Err other) = other ≡ e
