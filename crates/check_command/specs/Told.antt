-- What is told of a text's lock discipline.
use Rattle.std.specs.Prelude.{◌≡◌, ℕ, Bool, false, ◌&&◌, nat_le, List, [], ◌∷◌, Option, Some, None, Ok, string_bytes}
use Rattle.std.specs.List.{find}
use Rattle.std.specs.Str.{bytes_eq}
use Rattle.c_token.specs.declared.token.Kind.{Kind}
use Rattle.c_token.specs.declared.token.Kind.TheVariants.{Name}
use Rattle.c_token.specs.declared.token.Token.{Token}
use Rattle.c_token.specs.Spelling.{Bytes}
use Rattle.c_lexer.specs.Texts.{LexesAs}
use Rattle.c_program.specs.Tree.{Program}
use Rattle.thread_semantics.specs.Races.{IsGood}
use Rattle.c_accepted.specs.Profile.{IsAccepted}
use Rattle.lock_discipline.specs.Discipline.{Disciplined, Doubt, verdict}
use Rattle.lock_discipline.specs.Calm.{IsCalm, IsDefined}
use Rattle.check_command.specs.declared.check.Told.{Told}
use Rattle.check_command.specs.declared.check.Told.TheVariants as told

-- ---- where a doubt is told

abbrev pub spells : Bytes → Kind → Bool
spells name (Name bytes) = bytes_eq bytes name
spells name kind = false

-- the token is this name, at the offset or behind it
abbrev pub is_named : ℕ → Bytes → Token → Bool
is_named from name t = spells name t.kind && nat_le from t.offset

abbrev pub place_or : ℕ → Option Token → ℕ
place_or from None = from
place_or from (Some t) = t.offset

-- the place of the first name at the offset or behind it that is spelled so, else the offset
abbrev pub name_place : List Token → ℕ → Bytes → ℕ
name_place tokens from name = place_or from (find (is_named from name) tokens)

-- A step of an expression that reads a global begins at the expression's first byte, so its name stands there or behind. A call that creates or
-- joins has no name, and is told where its step begins, which is where the called name stands.
abbrev pub told_at : List Token → ℕ → Bytes → ℕ
told_at tokens step [] = step
told_at tokens step (b ∷ bytes) = name_place tokens step (b ∷ bytes)

-- ---- what is told

-- each global of the program has a discipline: it never races, and is good where no step is undefined
pub record IsDisciplined (P : Program) (globals : ℕ) : Type 0 where
  pub verdict : verdict P ≡ Disciplined globals
  pub calm : IsCalm P
  pub good : IsDefined P → IsGood P

-- the program of the text is in doubt about the global of this name, or without a name about a call that creates or joins, told at this place
pub record IsInDoubt (text : Bytes) (P : Program) (offset : ℕ) (name : Bytes) : Type 0 where
  pub tokens : List Token
  pub lexed : LexesAs text (Ok tokens)
  pub step : ℕ
  pub verdict : verdict P ≡ Doubt step name
  pub place : offset ≡ told_at tokens step name

abbrev pub IsTold : Bytes → Program → Told → Type 0
IsTold text P (told.Disciplined globals) = IsDisciplined P globals
IsTold text P (told.Doubt offset name) = IsInDoubt text P offset (string_bytes name)

-- the text is accepted as a program of which this is told
abbrev pub IsToldOf : Bytes → Told → Type 0
IsToldOf text t = (P : Program) × (w : ℕ) × IsAccepted text P w × IsTold text P t
