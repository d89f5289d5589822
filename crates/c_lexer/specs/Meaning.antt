-- What a lexeme means where it stands (C99 6.4, and 6.10 as far as the profile takes directives).
use Rattle.std.specs.Prelude.{ℕ, ◌-◌, Bool, true, false, ◌||◌, if◌then◌else◌, List, [], ◌∷◌, ◌++◌}
use Rattle.std.specs.Prelude.{length, take, drop, position, slice_get, Option, Some, None, option_map, option_and_then, is_some, codes}
use Rattle.std.specs.List.{list_any}
use Rattle.std.specs.Str.{bytes_eq}
use Rattle.c_token.specs.declared.token.Kind.{Kind}
use Rattle.c_token.specs.declared.token.Kind.TheVariants as kind
use Rattle.c_token.specs.declared.keyword.Keyword.{Keyword}
use Rattle.c_token.specs.declared.constant.Constant.{Constant}
use Rattle.c_token.specs.Spelling.{Bytes, keyword_of}
use Rattle.c_token.specs.Constants.{integer_of, character_of}
use Rattle.c_lexer.specs.declared.lexeme.Class.{Class}
use Rattle.c_lexer.specs.declared.lexeme.Class.TheVariants as c
use Rattle.c_lexer.specs.declared.meaning.Awaits.{Awaits}
use Rattle.c_lexer.specs.declared.meaning.Awaits.TheVariants as awaits
use Rattle.c_lexer.specs.declared.meaning.Mode.{Mode}
use Rattle.c_lexer.specs.declared.meaning.Mode.TheVariants.{LineStart, InLine, Directive}
use Rattle.c_lexer.specs.declared.meaning.Action.{Action}
use Rattle.c_lexer.specs.declared.meaning.Action.TheVariants as action
use Rattle.c_lexer.specs.declared.meaning.Effect.{Effect}

-- ---- states

-- Where the next lexeme stands, the names that the directives before it define, in order, and the constants of these names.
-- Where a directive awaits its constant, the last name has none yet.
pub record State : Type 0 where
  pub mode : Mode
  pub names : List Bytes
  pub values : List Constant

unfoldable pub start : State
start = record { mode = LineStart; names = []; values = [] }

abbrev pub is_defined : State → Bytes → Bool
is_defined s word = list_any (bytes_eq word) s.names

-- the constant that a directive before gave the name
abbrev pub defined : State → Bytes → Option Constant
defined s word = option_and_then (slice_get s.values) (position (bytes_eq word) s.names)

abbrev pub is_reserved : Bytes → Bool
is_reserved word = is_some (keyword_of word)

-- ---- tokens

-- a reserved word, else the constant that a directive gave the name, else a name
abbrev pub word_kind : Bytes → Option Keyword → Option Constant → Kind
word_kind word (Some k) d = kind.Keyword k
word_kind word None (Some constant) = kind.Constant constant
word_kind word None None = kind.Name word

-- between the quotes
abbrev pub text_kind : Bytes → Kind
text_kind word = kind.StringLiteral (take (length word - 2) (drop 1 word))

-- The token that the lexeme is; None where it is none, or a constant that is spelled badly.
unfoldable pub token_of : State → Class → Bytes → Option Kind
token_of s c.Word word = Some (word_kind word (keyword_of word) (defined s word))
token_of s c.Number word = option_map kind.Constant (integer_of word)
token_of s c.Character word = option_map kind.Constant (character_of word)
token_of s c.Text word = Some (text_kind word)
token_of s (c.Mark p) word = Some (kind.Punctuator p)
token_of s class word = None

-- ---- effects: None where the lexeme may not stand there

abbrev pub only : Mode → Option Effect
only m = Some (record { mode = m; action = action.Nothing })

abbrev pub gives : Mode → Action → Effect
gives m a = record { mode = m; action = a }

-- in a line of tokens
abbrev pub in_line : ℕ → State → Class → Bytes → Option Effect
in_line at s c.LineFeed word = only LineStart
in_line at s class word = option_map (λ k. gives InLine (action.Token k)) (token_of s class word)

-- before the first token of a line
abbrev pub at_line_start : ℕ → State → Class → Bytes → Option Effect
at_line_start at s c.Hash word = only (Directive at awaits.Word)
at_line_start at s class word = in_line at s class word

abbrev pub directive_word : ℕ → Bytes → Option Effect
directive_word hash word =
    if bytes_eq word (codes "include") then only (Directive hash awaits.Header)
    else (if bytes_eq word (codes "define") then only (Directive hash awaits.Name)
    else None)

-- the name of a definition, which may not be taken
abbrev pub definition_name : ℕ → Bool → Option Effect
definition_name hash is_taken = if is_taken then None else Some (gives (Directive hash awaits.Value) action.Name)

abbrev pub definition_value : ℕ → Bytes → Option Effect
definition_value hash word = option_map (λ n. gives (Directive hash awaits.LineEnd) (action.Value n)) (integer_of word)

-- A reserved word is taken, and so is a name that is defined already.
abbrev pub in_directive : Awaits → ℕ → State → Class → Bytes → Option Effect
in_directive awaits.Word hash s c.Word word = directive_word hash word
in_directive awaits.Header hash s (c.Header close) word = only (Directive hash awaits.LineEnd)
in_directive awaits.Name hash s c.Word word = definition_name hash (is_reserved word || is_defined s word)
in_directive awaits.Value hash s c.Number word = definition_value hash word
in_directive awaits.LineEnd hash s c.LineFeed word = only LineStart
in_directive a hash s class word = None

abbrev pub by_mode : Mode → ℕ → State → Class → Bytes → Option Effect
by_mode LineStart at s class word = at_line_start at s class word
by_mode InLine at s class word = in_line at s class word
by_mode (Directive hash a) at s class word = in_directive a hash s class word

-- Blanks and comments may stand everywhere. The lexeme's offset is `at`.
unfoldable pub effect_of : ℕ → State → Class → Bytes → Option Effect
effect_of at s c.Blank word = only s.mode
effect_of at s c.LineComment word = only s.mode
effect_of at s c.BlockComment word = only s.mode
effect_of at s class word = by_mode s.mode at s class word

-- ---- the state behind a lexeme

abbrev pub after_action : Mode → Action → Bytes → State → State
after_action m action.Name word s = record { mode = m; names = s.names ++ (word ∷ []); values = s.values }
after_action m (action.Value n) word s = record { mode = m; names = s.names; values = s.values ++ (n ∷ []) }
after_action m _ word s = record { mode = m; names = s.names; values = s.values }

abbrev pub after : Effect → Bytes → State → State
after e word s = after_action e.mode e.action word s

abbrev pub awaits_header_in : Mode → Bool
awaits_header_in (Directive hash awaits.Header) = true
awaits_header_in m = false

abbrev pub awaits_header : State → Bool
awaits_header s = awaits_header_in s.mode
