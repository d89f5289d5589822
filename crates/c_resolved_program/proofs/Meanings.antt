-- What lexemes mean is a token as the lexer makes them, where the names that directives define have constants of their types.
use Rattle.std.proofs.Common.{◌≡◌, sym, ap, subst, ◌∙◌, ℕ, zero, suc, Bool, true, false, List, [], ◌∷◌, ◌++◌, length, take, drop, Option, Some, None, length-append, arith}
use Rattle.std.specs.Prelude.{◌-◌, ◌==◌, ◌&&◌, ◌||◌, not, position, slice_get, option_map, option_and_then, if◌then◌else◌, codes, IsTrue, ⊤}
use Rattle.std.specs.List.{AllByRecursion}
use Rattle.std.specs.Str.{bytes_eq}
use Rattle.std.proofs.Math.Seq.{take-append_seam}
use Rattle.std.proofs.lemmas.Bool.{or_right, and_parts}
use Rattle.c_token.specs.declared.constant.Constant.{Constant}
use Rattle.c_token.specs.declared.keyword.Keyword.{Keyword}
use Rattle.c_token.specs.declared.token.Kind.{Kind}
use Rattle.c_token.specs.declared.token.Kind.TheVariants as kind
use Rattle.c_token.specs.Spelling.{Bytes, keyword_of}
use Rattle.c_token.specs.Constants.{integer_of, character_of}
use Rattle.c_program.specs.Resolved.{IsName, is_text_byte}
use Rattle.c_lexer.specs.declared.lexeme.Class.{Class}
use Rattle.c_lexer.specs.declared.lexeme.Class.TheVariants as c
use Rattle.c_lexer.specs.declared.meaning.Awaits.{Awaits}
use Rattle.c_lexer.specs.declared.meaning.Awaits.TheVariants as awaits
use Rattle.c_lexer.specs.declared.meaning.Mode.{Mode}
use Rattle.c_lexer.specs.declared.meaning.Mode.TheVariants.{LineStart, InLine, Directive}
use Rattle.c_lexer.specs.declared.meaning.Action.{Action}
use Rattle.c_lexer.specs.declared.meaning.Action.TheVariants as action
use Rattle.c_lexer.specs.declared.meaning.Effect.{Effect}
use Rattle.c_lexer.specs.Lexemes.{is_printable, is_text_body}
use Rattle.c_lexer.specs.Meaning.{State, is_defined, defined, is_reserved, word_kind, text_kind, token_of, only, gives}
use Rattle.c_lexer.specs.Meaning.{in_line, at_line_start, directive_word, definition_name, in_directive, by_mode, effect_of}
use Rattle.c_resolved_program.specs.Leaves.{IsValidConstant}
use Rattle.c_resolved_program.proofs.Tokens.{IsValidKind}
use Rattle.c_resolved_program.proofs.Constants.{integer_is, character_is}
use Rattle.c_resolved_program.proofs.Walks.{IfAny}
use Rattle.c_resolved_program.proofs.Pieces.{AreText}

-- what a lexeme's bytes are
abbrev pub IsBetweenQuotes : Bytes → Type 0
IsBetweenQuotes word = (inside : Bytes) × (word ≡ 34 ∷ (inside ++ (34 ∷ []))) × (is_text_body false inside ≡ true)

abbrev pub Facts : Class → Bytes → Type 0
Facts c.Word word = IsName word
Facts c.Text word = IsBetweenQuotes word
Facts c.Blank word = ⊤
Facts c.LineFeed word = ⊤
Facts c.Hash word = ⊤
Facts c.Number word = ⊤
Facts c.LineComment word = ⊤
Facts c.BlockComment word = ⊤
Facts c.Character word = ⊤
Facts (c.Header close) word = ⊤
Facts (c.Mark p) word = ⊤

abbrev pub AreConstants : List Constant → Type 0
AreConstants values = AllByRecursion IsValidConstant values

abbrev pub IsAction : Action → Type 0
IsAction action.Nothing = ⊤
IsAction (action.Token k) = IsValidKind k
IsAction action.Name = ⊤
IsAction (action.Value n) = IsValidConstant n

abbrev pub IsEffect : Effect → Type 0
IsEffect e = IsAction e.action

-- ---- tokens

one_of : (values : List Constant) (i : ℕ) → AreConstants values → IfAny IsValidConstant (slice_get values i)
one_of [] i all = tt
one_of (v ∷ values) zero all = all.0
one_of (v ∷ values) (suc i) all = one_of values i all.1

defined_is : (values : List Constant) (o : Option ℕ) → AreConstants values → IfAny IsValidConstant (option_and_then (slice_get values) o)
defined_is values None all = tt
defined_is values (Some i) all = one_of values i all

word_is : (word : Bytes) (k : Option Keyword) (d : Option Constant) → IsName word → IfAny IsValidConstant d → IsValidKind (word_kind word k d)
word_is word (Some k) d name is = tt
word_is word None (Some constant) name is = is
word_is word None None name is = name

constant_is : (o : Option Constant) → IfAny IsValidConstant o → IfAny IsValidKind (option_map kind.Constant o)
constant_is None is = tt
constant_is (Some constant) is = is

printable_is : (b : ℕ) → is_printable b ≡ true → IsTrue (is_text_byte b)
printable_is b h = or_right (b == 9 || b == 10) (is_printable b) h

body_is : (escaped : Bool) (z : Bytes) → is_text_body escaped z ≡ true → AreText z
unfolding is_text_body
body_is escaped [] h = tt
body_is true (b ∷ z) h = (printable_is b (and_parts (is_printable b) (is_text_body false z) h).0, body_is false z (and_parts (is_printable b) (is_text_body false z) h).1)
body_is false (b ∷ z) h =
    let more = (and_parts (not (b == 34)) (is_printable b && is_text_body (b == 92) z) h).1 in
    (printable_is b (and_parts (is_printable b) (is_text_body (b == 92) z) more).0, body_is (b == 92) z (and_parts (is_printable b) (is_text_body (b == 92) z) more).1)

within_quotes : (inside : Bytes) → take (length (34 ∷ (inside ++ (34 ∷ []))) - 2) (inside ++ (34 ∷ [])) ≡ inside
within_quotes inside =
    let count : length (34 ∷ (inside ++ (34 ∷ []))) - 2 ≡ length inside = omega (arith, length-append inside (34 ∷ [])) in
    ap (λ n. take n (inside ++ (34 ∷ []))) count ∙ take-append_seam inside (34 ∷ [])

text_is : (word : Bytes) → IsBetweenQuotes word → IsValidKind (text_kind word)
text_is word h =
    subst (λ w. AreText (take (length w - 2) (drop 1 w))) (sym h.1) (subst AreText (sym (within_quotes h.0)) (body_is false h.0 h.2))

token_is : (s : State) (class : Class) (word : Bytes) → Facts class word → AreConstants s.values → IfAny IsValidKind (token_of s class word)
unfolding token_of
token_is s c.Word word facts valid = word_is word (keyword_of word) (defined s word) facts (defined_is s.values (position (bytes_eq word) s.names) valid)
token_is s c.Number word facts valid = constant_is (integer_of word) (integer_is word)
token_is s c.Character word facts valid = constant_is (character_of word) (character_is word)
token_is s c.Text word facts valid = text_is word facts
token_is s (c.Mark p) word facts valid = tt
token_is s c.Blank word facts valid = tt
token_is s c.LineFeed word facts valid = tt
token_is s c.Hash word facts valid = tt
token_is s c.LineComment word facts valid = tt
token_is s c.BlockComment word facts valid = tt
token_is s (c.Header close) word facts valid = tt

-- ---- effects

lifted : (o : Option Kind) → IfAny IsValidKind o → IfAny IsEffect (option_map (λ k. gives InLine (action.Token k)) o)
lifted None is = tt
lifted (Some k) is = is

in_line_is : (at : ℕ) (s : State) (class : Class) (word : Bytes) → Facts class word → AreConstants s.values → IfAny IsEffect (in_line at s class word)
in_line_is at s c.Blank word facts valid = lifted (token_of s c.Blank word) (token_is s c.Blank word facts valid)
in_line_is at s c.LineFeed word facts valid = tt
in_line_is at s c.Hash word facts valid = lifted (token_of s c.Hash word) (token_is s c.Hash word facts valid)
in_line_is at s c.Word word facts valid = lifted (token_of s c.Word word) (token_is s c.Word word facts valid)
in_line_is at s c.Number word facts valid = lifted (token_of s c.Number word) (token_is s c.Number word facts valid)
in_line_is at s c.LineComment word facts valid = lifted (token_of s c.LineComment word) (token_is s c.LineComment word facts valid)
in_line_is at s c.BlockComment word facts valid = lifted (token_of s c.BlockComment word) (token_is s c.BlockComment word facts valid)
in_line_is at s c.Character word facts valid = lifted (token_of s c.Character word) (token_is s c.Character word facts valid)
in_line_is at s c.Text word facts valid = lifted (token_of s c.Text word) (token_is s c.Text word facts valid)
in_line_is at s (c.Header close) word facts valid = lifted (token_of s (c.Header close) word) (token_is s (c.Header close) word facts valid)
in_line_is at s (c.Mark p) word facts valid = lifted (token_of s (c.Mark p) word) (token_is s (c.Mark p) word facts valid)

at_line_start_is : (at : ℕ) (s : State) (class : Class) (word : Bytes) → Facts class word → AreConstants s.values → IfAny IsEffect (at_line_start at s class word)
at_line_start_is at s c.Blank word facts valid = in_line_is at s c.Blank word facts valid
at_line_start_is at s c.LineFeed word facts valid = in_line_is at s c.LineFeed word facts valid
at_line_start_is at s c.Hash word facts valid = tt
at_line_start_is at s c.Word word facts valid = in_line_is at s c.Word word facts valid
at_line_start_is at s c.Number word facts valid = in_line_is at s c.Number word facts valid
at_line_start_is at s c.LineComment word facts valid = in_line_is at s c.LineComment word facts valid
at_line_start_is at s c.BlockComment word facts valid = in_line_is at s c.BlockComment word facts valid
at_line_start_is at s c.Character word facts valid = in_line_is at s c.Character word facts valid
at_line_start_is at s c.Text word facts valid = in_line_is at s c.Text word facts valid
at_line_start_is at s (c.Header close) word facts valid = in_line_is at s (c.Header close) word facts valid
at_line_start_is at s (c.Mark p) word facts valid = in_line_is at s (c.Mark p) word facts valid

chosen : (b : Bool) (o p : Option Effect) → IfAny IsEffect o → IfAny IsEffect p → IfAny IsEffect (if b then o else p)
chosen true o p h k = h
chosen false o p h k = k

word_directive : (hash : ℕ) (word : Bytes) → IfAny IsEffect (directive_word hash word)
word_directive hash word =
    let define : Option Effect = only (Directive hash awaits.Name) in
    let other : Option Effect = if bytes_eq word (codes "define") then define else None in
    chosen (bytes_eq word (codes "include")) (only (Directive hash awaits.Header)) other tt (chosen (bytes_eq word (codes "define")) define None tt tt)

name_directive : (hash : ℕ) (taken : Bool) → IfAny IsEffect (definition_name hash taken)
name_directive hash true = tt
name_directive hash false = tt

value_directive : (hash : ℕ) (o : Option Constant) → IfAny IsValidConstant o → IfAny IsEffect (option_map (λ n. gives (Directive hash awaits.LineEnd) (action.Value n)) o)
value_directive hash None is = tt
value_directive hash (Some n) is = is

in_directive_is : (a : Awaits) (hash : ℕ) (s : State) (class : Class) (word : Bytes) → Facts class word → IfAny IsEffect (in_directive a hash s class word)
in_directive_is awaits.Word hash s c.Blank word facts = tt
in_directive_is awaits.Word hash s c.LineFeed word facts = tt
in_directive_is awaits.Word hash s c.Hash word facts = tt
in_directive_is awaits.Word hash s c.Word word facts = word_directive hash word
in_directive_is awaits.Word hash s c.Number word facts = tt
in_directive_is awaits.Word hash s c.LineComment word facts = tt
in_directive_is awaits.Word hash s c.BlockComment word facts = tt
in_directive_is awaits.Word hash s c.Character word facts = tt
in_directive_is awaits.Word hash s c.Text word facts = tt
in_directive_is awaits.Word hash s (c.Header close) word facts = tt
in_directive_is awaits.Word hash s (c.Mark p) word facts = tt
in_directive_is awaits.Header hash s c.Blank word facts = tt
in_directive_is awaits.Header hash s c.LineFeed word facts = tt
in_directive_is awaits.Header hash s c.Hash word facts = tt
in_directive_is awaits.Header hash s c.Word word facts = tt
in_directive_is awaits.Header hash s c.Number word facts = tt
in_directive_is awaits.Header hash s c.LineComment word facts = tt
in_directive_is awaits.Header hash s c.BlockComment word facts = tt
in_directive_is awaits.Header hash s c.Character word facts = tt
in_directive_is awaits.Header hash s c.Text word facts = tt
in_directive_is awaits.Header hash s (c.Header close) word facts = tt
in_directive_is awaits.Header hash s (c.Mark p) word facts = tt
in_directive_is awaits.Name hash s c.Blank word facts = tt
in_directive_is awaits.Name hash s c.LineFeed word facts = tt
in_directive_is awaits.Name hash s c.Hash word facts = tt
in_directive_is awaits.Name hash s c.Word word facts = name_directive hash (is_reserved word || is_defined s word)
in_directive_is awaits.Name hash s c.Number word facts = tt
in_directive_is awaits.Name hash s c.LineComment word facts = tt
in_directive_is awaits.Name hash s c.BlockComment word facts = tt
in_directive_is awaits.Name hash s c.Character word facts = tt
in_directive_is awaits.Name hash s c.Text word facts = tt
in_directive_is awaits.Name hash s (c.Header close) word facts = tt
in_directive_is awaits.Name hash s (c.Mark p) word facts = tt
in_directive_is awaits.Value hash s c.Blank word facts = tt
in_directive_is awaits.Value hash s c.LineFeed word facts = tt
in_directive_is awaits.Value hash s c.Hash word facts = tt
in_directive_is awaits.Value hash s c.Word word facts = tt
in_directive_is awaits.Value hash s c.Number word facts = value_directive hash (integer_of word) (integer_is word)
in_directive_is awaits.Value hash s c.LineComment word facts = tt
in_directive_is awaits.Value hash s c.BlockComment word facts = tt
in_directive_is awaits.Value hash s c.Character word facts = tt
in_directive_is awaits.Value hash s c.Text word facts = tt
in_directive_is awaits.Value hash s (c.Header close) word facts = tt
in_directive_is awaits.Value hash s (c.Mark p) word facts = tt
in_directive_is awaits.LineEnd hash s c.Blank word facts = tt
in_directive_is awaits.LineEnd hash s c.LineFeed word facts = tt
in_directive_is awaits.LineEnd hash s c.Hash word facts = tt
in_directive_is awaits.LineEnd hash s c.Word word facts = tt
in_directive_is awaits.LineEnd hash s c.Number word facts = tt
in_directive_is awaits.LineEnd hash s c.LineComment word facts = tt
in_directive_is awaits.LineEnd hash s c.BlockComment word facts = tt
in_directive_is awaits.LineEnd hash s c.Character word facts = tt
in_directive_is awaits.LineEnd hash s c.Text word facts = tt
in_directive_is awaits.LineEnd hash s (c.Header close) word facts = tt
in_directive_is awaits.LineEnd hash s (c.Mark p) word facts = tt

mode_is : (m : Mode) (at : ℕ) (s : State) (class : Class) (word : Bytes) → Facts class word → AreConstants s.values → IfAny IsEffect (by_mode m at s class word)
mode_is LineStart at s class word facts valid = at_line_start_is at s class word facts valid
mode_is InLine at s class word facts valid = in_line_is at s class word facts valid
mode_is (Directive hash a) at s class word facts valid = in_directive_is a hash s class word facts

pub effect_is : (at : ℕ) (s : State) (class : Class) (word : Bytes) → Facts class word → AreConstants s.values → IfAny IsEffect (effect_of at s class word)
unfolding effect_of
effect_is at s c.Blank word facts valid = tt
effect_is at s c.LineFeed word facts valid = mode_is s.mode at s c.LineFeed word facts valid
effect_is at s c.Hash word facts valid = mode_is s.mode at s c.Hash word facts valid
effect_is at s c.Word word facts valid = mode_is s.mode at s c.Word word facts valid
effect_is at s c.Number word facts valid = mode_is s.mode at s c.Number word facts valid
effect_is at s c.LineComment word facts valid = tt
effect_is at s c.BlockComment word facts valid = tt
effect_is at s c.Character word facts valid = mode_is s.mode at s c.Character word facts valid
effect_is at s c.Text word facts valid = mode_is s.mode at s c.Text word facts valid
effect_is at s (c.Header close) word facts valid = mode_is s.mode at s (c.Header close) word facts valid
effect_is at s (c.Mark p) word facts valid = mode_is s.mode at s (c.Mark p) word facts valid
