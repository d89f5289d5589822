-- A name that a directive defines is new.
use Rattle.std.proofs.Common.{◌≡◌, ℕ, Option, Some, None, Bool, true, false, refl, ap, ◌∙◌}
use Rattle.std.specs.Prelude.{cond, ◌||◌, option_map, codes}
use Rattle.std.specs.Str.{bytes_eq}
use Rattle.std.proofs.lemmas.Bool.{or_parts}
use Rattle.c_token.specs.declared.token.Kind.{Kind}
use Rattle.c_token.specs.declared.constant.Constant.{Constant}
use Rattle.c_token.specs.Spelling.{Bytes}
use Rattle.c_token.specs.Constants.{integer_of}
use Rattle.c_lexer.specs.declared.lexeme.Class.{Class}
use Rattle.c_lexer.specs.declared.lexeme.Class.TheVariants as c
use Rattle.c_lexer.specs.declared.meaning.Awaits.{Awaits}
use Rattle.c_lexer.specs.declared.meaning.Awaits.TheVariants as awaits
use Rattle.c_lexer.specs.declared.meaning.Mode.{Mode}
use Rattle.c_lexer.specs.declared.meaning.Mode.TheVariants.{LineStart, InLine, Directive}
use Rattle.c_lexer.specs.declared.meaning.Action.{Action}
use Rattle.c_lexer.specs.declared.meaning.Action.TheVariants as action
use Rattle.c_lexer.specs.declared.meaning.Effect.{Effect}
use Rattle.c_lexer.specs.Meaning.{State, is_defined, is_reserved, token_of, only, gives, in_line, at_line_start, definition_name, in_directive, by_mode, effect_of}
use Rattle.c_lexer.specs.Stepping.{IsFresh}

abbrev some : Effect → Option Effect
some e = Some e

action_is : (m : Mode) (a : Action) (e : Effect) → some (gives m a) ≡ some e → a ≡ e.action
action_is m a e h = let same : gives m a ≡ e = cc in ap (λ x. x.action) same

nothing_fresh : (m : Mode) (s : State) (w : Bytes) (e : Effect) → only m ≡ some e → IsFresh e w s
nothing_fresh m s w e h = λ is. let clash : action.Nothing ≡ action.Name = action_is m action.Nothing e h ∙ is in cc

token_fresh : (s : State) (w : Bytes) (e : Effect) (o : Option Kind) → option_map (λ k. gives InLine (action.Token k)) o ≡ some e → IsFresh e w s
token_fresh s w e None h = cc
token_fresh s w e (Some k) h = λ is. let clash : action.Token k ≡ action.Name = action_is InLine (action.Token k) e h ∙ is in cc

value_fresh : (hash : ℕ) (s : State) (w : Bytes) (e : Effect) (o : Option Constant) → option_map (λ n. gives (Directive hash awaits.LineEnd) (action.Value n)) o ≡ some e → IsFresh e w s
value_fresh hash s w e None h = cc
value_fresh hash s w e (Some n) h = λ is. let clash : action.Value n ≡ action.Name = action_is (Directive hash awaits.LineEnd) (action.Value n) e h ∙ is in cc

word_at : (hash : ℕ) (s : State) (w : Bytes) (e : Effect) (x y : Bool) → cond x (only (Directive hash awaits.Header)) (cond y (only (Directive hash awaits.Name)) None) ≡ some e → IsFresh e w s
word_at hash s w e true y h = nothing_fresh (Directive hash awaits.Header) s w e h
word_at hash s w e false true h = nothing_fresh (Directive hash awaits.Name) s w e h
word_at hash s w e false false h = cc

name_at : (hash : ℕ) (s : State) (w : Bytes) (e : Effect) (x : Bool) → (is_reserved w || is_defined s w) ≡ x → definition_name hash x ≡ some e → IsFresh e w s
name_at hash s w e true t h = cc
name_at hash s w e false t h = λ is. (or_parts (is_reserved w) (is_defined s w) t).1

directive_fresh : (a : Awaits) (hash : ℕ) (s : State) (k : Class) (w : Bytes) (e : Effect) → in_directive a hash s k w ≡ some e → IsFresh e w s
directive_fresh awaits.Word hash s c.Word w e h = word_at hash s w e (bytes_eq w (codes "include")) (bytes_eq w (codes "define")) h
directive_fresh awaits.Header hash s (c.Header close) w e h = nothing_fresh (Directive hash awaits.LineEnd) s w e h
directive_fresh awaits.Name hash s c.Word w e h = name_at hash s w e (is_reserved w || is_defined s w) refl h
directive_fresh awaits.Value hash s c.Number w e h = value_fresh hash s w e (integer_of w) h
directive_fresh awaits.LineEnd hash s c.LineFeed w e h = nothing_fresh LineStart s w e h
directive_fresh a hash s k w e h = cc

line_fresh : (at : ℕ) (s : State) (k : Class) (w : Bytes) (e : Effect) → in_line at s k w ≡ some e → IsFresh e w s
line_fresh at s c.LineFeed w e h = nothing_fresh LineStart s w e h
line_fresh at s k w e h = token_fresh s w e (token_of s k w) h

start_fresh : (at : ℕ) (s : State) (k : Class) (w : Bytes) (e : Effect) → at_line_start at s k w ≡ some e → IsFresh e w s
start_fresh at s c.Hash w e h = nothing_fresh (Directive at awaits.Word) s w e h
start_fresh at s k w e h = line_fresh at s k w e h

mode_fresh : (m : Mode) (at : ℕ) (s : State) (k : Class) (w : Bytes) (e : Effect) → by_mode m at s k w ≡ some e → IsFresh e w s
mode_fresh LineStart at s k w e h = start_fresh at s k w e h
mode_fresh InLine at s k w e h = line_fresh at s k w e h
mode_fresh (Directive hash a) at s k w e h = directive_fresh a hash s k w e h

pub effect_fresh : (at : ℕ) (s : State) (k : Class) (w : Bytes) (e : Effect) → effect_of at s k w ≡ Some e → IsFresh e w s
unfolding effect_of
effect_fresh at s c.Blank w e h = nothing_fresh s.mode s w e h
effect_fresh at s c.LineComment w e h = nothing_fresh s.mode s w e h
effect_fresh at s c.BlockComment w e h = nothing_fresh s.mode s w e h
effect_fresh at s k w e h = mode_fresh s.mode at s k w e h
