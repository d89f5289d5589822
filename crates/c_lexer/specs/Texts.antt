-- Whole texts: how they split into lexemes, their tokens, and their first fault from left to right.
use Rattle.std.specs.Prelude.{◌≡◌, ℕ, ◌+◌, Bool, true, false, not, ◌&&◌, ◌||◌, nat_eq, nat_lt, if◌then◌else◌, List, [], ◌∷◌, ◌++◌, length, Option, Some, None, Result, Ok, Err, codes}
use Rattle.std.specs.List.{starts_with}
use Rattle.c_token.specs.declared.token.Kind.TheVariants.{End}
use Rattle.c_token.specs.declared.token.Token.{Token}
use Rattle.c_token.specs.Spelling.{Bytes}
use Rattle.c_lexer.specs.declared.lexeme.Class.{Class}
use Rattle.c_lexer.specs.declared.lexeme.Class.TheVariants as c
use Rattle.c_lexer.specs.declared.meaning.Awaits.TheVariants.{LineEnd}
use Rattle.c_lexer.specs.declared.meaning.Mode.{Mode}
use Rattle.c_lexer.specs.declared.meaning.Mode.TheVariants.{LineStart, InLine, Directive}
use Rattle.c_lexer.specs.declared.meaning.Action.{Action}
use Rattle.c_lexer.specs.declared.meaning.Action.TheVariants as action
use Rattle.c_lexer.specs.declared.meaning.Effect.{Effect}
use Rattle.c_lexer.specs.declared.fault.TextLimit.{TextLimit}
use Rattle.c_lexer.specs.declared.fault.TextLimit.TheVariants.{Tokens, NameLength}
use Rattle.c_lexer.specs.declared.fault.LexFault.{LexFault}
use Rattle.c_lexer.specs.declared.fault.LexFault.TheVariants.{Bad, Limit, Memory}
use Rattle.c_lexer.specs.Lexemes.{IsLexeme}
use Rattle.c_lexer.specs.Meaning.{State, start, awaits_header, effect_of, after, is_reserved}

-- ---- splitting

pub record Piece : Type 0 where
  pub bytes : Bytes
  pub class : Class
  pub effect : Effect

-- In the state s, at the offset, the piece is a lexeme that may stand there, where the rest follows.
abbrev pub IsPiece : ℕ → State → Piece → Bytes → Type 0
IsPiece at s p rest = IsLexeme (awaits_header s) p.class p.bytes rest × (effect_of at s p.class p.bytes ≡ Some p.effect)

-- The text, which begins at the offset in the state s, is the pieces and then the rest, which begins in the state t.
abbrev pub Splits : ℕ → State → Bytes → List Piece → State → Bytes → Type 0
Splits at s text [] t rest = (s ≡ t) × (text ≡ rest)
Splits at s text (p ∷ ps) t rest =
    (more : Bytes) × (text ≡ p.bytes ++ more) × IsPiece at s p more × Splits (at + length p.bytes) (after p.effect p.bytes s) more ps t rest

abbrev pub with_token : ℕ → Action → List Token → List Token
with_token at (action.Token k) ts = record { kind = k; offset = at } ∷ ts
with_token at a ts = ts

-- the tokens among the pieces, with their offsets
abbrev pub tokens : ℕ → List Piece → List Token
tokens at [] = []
tokens at (p ∷ ps) = with_token at p.effect.action (tokens (at + length p.bytes) ps)

-- behind the last token one for the end of the text
abbrev pub with_end : Bytes → List Token → List Token
with_end text ts = ts ++ (record { kind = End; offset = length text } ∷ [])

-- a text may end here: not in a directive that awaits more
unfoldable pub may_end : Mode → Bool
may_end LineStart = true
may_end InLine = true
may_end (Directive hash LineEnd) = true
may_end (Directive hash a) = false

-- ---- limits

abbrev pub max_tokens : ℕ
max_tokens = 16384

abbrev pub max_name_length : ℕ
max_name_length = 63

abbrev pub Passed : Type 0
Passed = TextLimit × ℕ

-- a name longer than its limit, also one that a directive defines, and its length
abbrev pub name_limit : Class → Bytes → Option Passed
name_limit c.Word word = if nat_lt max_name_length (length word) && not (is_reserved word) then Some (NameLength, length word) else None
name_limit class word = None

abbrev pub token_limit : ℕ → Class → Bytes → Option Passed
token_limit n class word = if nat_lt n max_tokens then name_limit class word else Some (Tokens, n + 1)

abbrev pub limit_by : ℕ → Class → Bytes → Action → Option Passed
limit_by n class word (action.Token k) = token_limit n class word
limit_by n class word a = None

-- the limit that the piece is the first to pass where n tokens stand before it, and its count
abbrev pub limit_of : ℕ → Piece → Option Passed
limit_of n p = limit_by n p.class p.bytes p.effect.action

abbrev pub IsWithin : ℕ → List Piece → Type 0
IsWithin n [] = Unit {0}
IsWithin n (p ∷ ps) = (limit_of n p ≡ None) × IsWithin (length (with_token 0 p.effect.action []) + n) ps

-- ---- what a text is

-- The text splits into lexemes to its end, and these are its tokens.
pub record AreTokens (text : Bytes) (ts : List Token) : Type 0 where
  pub pieces : List Piece
  pub state : State
  pub split : Splits 0 start text pieces state []
  pub ended : may_end state.mode ≡ true
  pub are : ts ≡ with_end text (tokens 0 pieces)

-- The first pieces of the text, within the limits, lead to the rest, which begins at the offset in this state.
pub record Reaches (text : Bytes) (pieces : List Piece) (at : ℕ) (state : State) (rest : Bytes) : Type 0 where
  pub split : Splits 0 start text pieces state rest
  pub place : at + length rest ≡ length text
  pub within : IsWithin 0 pieces

-- No lexeme that may stand here begins here, and the text may not end here.
pub record IsStuck (at : ℕ) (state : State) (rest : Bytes) : Type 0 where
  pub none : (p : Piece) (more : Bytes) → rest ≡ p.bytes ++ more → IsPiece at state p more → ⊥
  pub unfinished : rest ≡ [] → may_end state.mode ≡ false

abbrev pub begins_comment : Bytes → Bool
begins_comment z = starts_with nat_eq z (codes "//") || starts_with nat_eq z (codes "/*")

-- A fault of a directive is told at its `#`, one of a comment at the comment's first byte, also in a directive.
unfoldable pub fault_place : Mode → ℕ → Bytes → ℕ
fault_place (Directive hash a) at rest = if begins_comment rest then at else hash
fault_place m at rest = at

-- What stands behind the pieces: the end, a fault, or a piece that passes a limit.
abbrev pub EndsAs : Bytes → List Piece → ℕ → State → Bytes → Result (List Token) LexFault → Type 0
EndsAs text ps at s rest (Ok ts) = (rest ≡ []) × (may_end s.mode ≡ true) × (ts ≡ with_end text (tokens 0 ps))
EndsAs text ps at s rest (Err (Bad k)) = IsStuck at s rest × (k ≡ fault_place s.mode at rest)
EndsAs text ps at s rest (Err (Limit which count k)) =
    (p : Piece) × (more : Bytes) × (rest ≡ p.bytes ++ more) × IsPiece at s p more × (limit_of (length (tokens 0 ps)) p ≡ Some (which, count)) × (k ≡ at)
EndsAs text ps at s rest (Err Memory) = ⊥

-- From left to right, the text is this: its tokens, or its first fault. Of a text one such answer holds.
pub record LexesAs (text : Bytes) (r : Result (List Token) LexFault) : Type 0 where
  pub pieces : List Piece
  pub at : ℕ
  pub state : State
  pub rest : Bytes
  pub reaches : Reaches text pieces at state rest
  pub ends : EndsAs text pieces at state rest r

-- ---- answers

abbrev pub Lexed : Bytes → Result (List Token) LexFault → Type 0
Lexed text (Ok ts) = LexesAs text (Ok ts)
Lexed text (Err (Bad k)) = LexesAs text (Err (Bad k))
Lexed text (Err (Limit which count k)) = LexesAs text (Err (Limit which count k))
Lexed text (Err Memory) = Unit {0}

-- the answer is this, but for want of memory
abbrev pub Finds : Result (List Token) LexFault → Result (List Token) LexFault → Type 0
Finds r (Ok ts) = Ok ts ≡ r
Finds r (Err (Bad k)) = Err (Bad k) ≡ r
Finds r (Err (Limit which count k)) = Err (Limit which count k) ≡ r
Finds r (Err Memory) = Unit {0}

-- tokens of the text are these: they are found, but for a limit that the text passes
abbrev pub FindsTokens : List Token → Result (List Token) LexFault → Type 0
FindsTokens ts (Ok us) = us ≡ ts
FindsTokens ts (Err (Bad k)) = ⊥
FindsTokens ts (Err (Limit which count k)) = Unit {0}
FindsTokens ts (Err Memory) = Unit {0}
