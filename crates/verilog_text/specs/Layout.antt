-- How the tokens of a text are laid out.
use Rattle.std.specs.Prelude.{◌≡◌, ℕ, zero, suc, ◌+◌, ◌-◌, Bool, true, false, nat_lt, if◌then◌else◌, List, [], ◌∷◌, ◌++◌}
use Rattle.verilog_tree.specs.declared.token.Word.{Word}
use Rattle.verilog_tree.specs.declared.token.Word.TheVariants as w
use Rattle.verilog_tree.specs.declared.token.Mark.{Mark}
use Rattle.verilog_tree.specs.declared.token.Mark.TheVariants as m
use Rattle.verilog_tree.specs.declared.token.Token.{Token}
use Rattle.verilog_tree.specs.declared.token.Token.TheVariants as t
use Rattle.verilog_tree.specs.Tokens.{spelling, is_token}
use Rattle.verilog_text.specs.declared.text.Ending.{Ending}
use Rattle.verilog_text.specs.declared.text.Ending.TheVariants.{Start, Line, Open, Plain, Apart}
use Rattle.verilog_text.specs.declared.text.Layout.{Layout}
use Rattle.verilog_text.specs.declared.text.Text.{Text}
use Rattle.verilog_text.specs.declared.text.Piece.{Piece}
use Rattle.verilog_text.specs.declared.text.Piece.TheVariants as p
use Rattle.verilog_tree.specs.Grammar as g

abbrev pub layout : Bool → Bool → Bool → Ending → Layout
layout hugs outdents indents ending = record { hugs = hugs; outdents = outdents; indents = indents; ending = ending }

abbrev pub plain : Layout
plain = layout false false false Plain

abbrev pub apart : Layout
apart = layout false false false Apart

abbrev pub opening : Layout
opening = layout false false false Open

abbrev pub tight : Layout
tight = layout true false false Open

abbrev pub closing : Layout
closing = layout true false false Plain

abbrev pub word_layout : Word → Layout
word_layout w.Module = layout false false true Apart
word_layout w.Begin = layout false false true Line
word_layout w.End = layout false true false Line
word_layout w.EndModule = layout false true false Line
word_layout _ = apart

-- the flag says whether a range or a select is open
abbrev pub mark_layout : Bool → Mark → Layout
mark_layout inside m.Dot = opening
mark_layout inside m.At = opening
mark_layout inside m.Tilde = opening
mark_layout inside m.Signed = opening
mark_layout inside m.Write = opening
mark_layout inside m.OpenRound = tight
mark_layout inside m.OpenSquare = tight
mark_layout inside m.OpenCurly = tight
mark_layout inside m.Decimal = tight
mark_layout inside m.SignedDecimal = tight
mark_layout inside m.CloseRound = closing
mark_layout inside m.CloseSquare = closing
mark_layout inside m.CloseCurly = closing
mark_layout inside m.Comma = closing
mark_layout inside m.Semicolon = layout true false false Line
mark_layout inside m.Equal = apart
mark_layout inside m.Colon = if inside then tight else plain
mark_layout inside _ = plain

abbrev pub layout_of : Bool → Token → Layout
layout_of inside (t.Word w) = word_layout w
layout_of inside (t.Mark m) = mark_layout inside m
layout_of inside _ = plain

abbrev pub brackets_after : Bool → Token → Bool
brackets_after inside (t.Mark m.OpenSquare) = true
brackets_after inside (t.Mark m.CloseSquare) = false
brackets_after inside _ = inside

abbrev pub spaces : ℕ → List ℕ
spaces zero = []
spaces (suc d) = 32 ∷ (32 ∷ spaces d)

-- what stands before a token
abbrev pub gap : Ending → ℕ → Bool → List ℕ
gap Start depth hugs = []
gap Line depth hugs = 10 ∷ spaces depth
gap Open depth hugs = []
gap Plain depth hugs = if hugs then [] else (32 ∷ [])
gap Apart depth hugs = 32 ∷ []

abbrev pub depth_before : Layout → ℕ → ℕ
depth_before l d = if l.outdents then d - 1 else d

abbrev pub depth_after : Layout → ℕ → ℕ
depth_after l d = if l.indents then (if nat_lt d 32 then d + 1 else d) else depth_before l d

-- a text with the gap before a token of this layout, and its state behind the token
abbrev pub begun : Text → Layout → Text
begun s l = record { bytes = s.bytes ++ gap s.ending (depth_before l s.depth) l.hugs; ending = l.ending; depth = depth_after l s.depth; in_brackets = s.in_brackets }

abbrev pub piece : Text → Layout → List ℕ → Text
piece s l z = record (begun s l) { bytes = (begun s l).bytes ++ z }

abbrev pub start : Text
start = record { bytes = []; ending = Start; depth = 0; in_brackets = false }

unfoldable pub put : Text → Token → Text
put s x = record (piece s (layout_of s.in_brackets x) (spelling x)) { in_brackets = brackets_after s.in_brackets x }

abbrev pub put_all : Text → List Token → Text
put_all s [] = s
put_all s (x ∷ xs) = put_all (put s x) xs

-- the same, from a token on
abbrev pub laid : Ending → ℕ → Bool → List Token → List ℕ
laid e d inside [] = 10 ∷ []
laid e d inside (x ∷ xs) =
    gap e (depth_before (layout_of inside x) d) (layout_of inside x).hugs
    ++ (spelling x ++ laid (layout_of inside x).ending (depth_after (layout_of inside x) d) (brackets_after inside x) xs)

-- the tokens can stand in a text
abbrev pub AllTokens : List Token → Type 0
AllTokens [] = Unit {0}
AllTokens (x ∷ xs) = (is_token x ≡ true) × AllTokens xs

-- the tokens of the pieces that a phrase is made of
abbrev pub piece_tokens : Piece → List Token
piece_tokens (p.Word w) = g.word w
piece_tokens (p.Mark m) = g.mark m
piece_tokens (p.Name n) = g.name n.now
piece_tokens (p.Number n) = g.number n
piece_tokens (p.Quoted q) = t.Quoted q.now ∷ []
piece_tokens p.Clock = g.name g.clk

abbrev pub phrase : List Piece → List Token
phrase pieces = g.all piece_tokens pieces
