-- The readings where some levels of nesting are left, and of one more level of operators or one more condition.
use Rattle.std.proofs.Common.{◌≡◌, refl, ℕ, zero, suc, ◌-◌, ◌<◌, List, [], ◌∷◌, ◌++◌, ap, ◌∙◌, arith}
use Rattle.std.specs.Prelude.{reverse, Ok, Err}
use Rattle.std.proofs.lemmas.List.{reverse-append}
use Rattle.c_token.specs.declared.token.Token.{Token}
use Rattle.grammar.specs.Readers.{Reading, and_then, reads_both, reads_many, reads_pure, too_deep_or, appended}
use Rattle.c_token.specs.declared.punctuator.Punctuator.TheVariants.{OpenRound}
use Rattle.c_tree.specs.declared.sign.Sign.TheVariants.{Mark}
use Rattle.c_tree.specs.declared.expression.Expression.{Expression}
use Rattle.c_tree.specs.declared.expression.Choice.{Choice}
use Rattle.c_tree.specs.declared.expression.Argument.{Argument}
use Rattle.c_tree.specs.Tokens.{is, binds_at}
use Rattle.c_tree.specs.Trees.{joined}
use Rattle.c_expression_parser.specs.declared.expressions.Part.{Part}
use Rattle.c_expression_parser.specs.declared.expressions.Part.TheVariants.{Operand, Whole}
use Rattle.c_reading.specs.Tokens.{Reads, begins_cast}
use Rattle.c_reading.specs.Expressions.{read_cast, read_expr, read_target, read_argument, read_any_argument, operand_within, whole_within, read_binary, read_term, read_choice, read_choices}
use Rattle.c_expression_parser.specs.Nests.{read_part}

pub argument_above : (room : ℕ) → 0 < room → (ts : List Token)
    → read_argument room ts ≡ read_any_argument (read_expr room) (read_cast (room - 1)) (read_target (room - 1)) (room - 1) ts
unfolding read_argument read_expr
argument_above zero some ts = absurd (omega arith)
argument_above (suc room) some ts =
    let e : room ≡ suc room - 1 = omega arith in
    ap (λ r. read_any_argument (whole_within room) (read_cast r) (read_target r) r ts) e

pub part_none : (part : Part) (room : ℕ) → room ≡ 0 → (ts : List Token) → read_part part room ts ≡ too_deep_or (is (Mark OpenRound)) begins_cast ts
unfolding read_cast read_expr
part_none Operand room none ts = ap (λ r. read_cast r ts) none
part_none Whole room none ts = ap (λ r. read_expr r ts) none

pub cast_above : (room : ℕ) → 0 < room → (ts : List Token) → read_cast room ts ≡ operand_within (room - 1) ts
unfolding read_cast
cast_above zero some ts = absurd (omega arith)
cast_above (suc room) some ts = let e : room ≡ suc room - 1 = omega arith in ap (λ r. operand_within r ts) e

pub expr_above : (room : ℕ) → 0 < room → (ts : List Token) → read_expr room ts ≡ whole_within (room - 1) ts
unfolding read_expr
expr_above zero some ts = absurd (omega arith)
expr_above (suc room) some ts = let e : room ≡ suc room - 1 = omega arith in ap (λ r. whole_within r ts) e

pub binary_above : (level : ℕ) → 0 < level → (operand : Reads Expression) (ts : List Token)
    → read_binary level operand ts
    ≡ and_then (read_binary (level - 1) operand ts) (λ first. reads_both (reads_many (binds_at level) (read_term level (read_binary (level - 1) operand)))
    (λ terms. reads_pure (joined first terms)))
unfolding read_binary
binary_above zero some operand ts = absurd (omega arith)
binary_above (suc level) some operand ts =
    let e : level ≡ suc level - 1 = omega arith in
    ap (λ k. and_then (read_binary k operand ts) (λ first. reads_both (reads_many (binds_at (suc level)) (read_term (suc level) (read_binary k operand)))
    (λ terms. reads_pure (joined first terms)))) e

-- a reading that only joins what it finds, and then another
joins : {A B C : Type 0} (r : Reading Token A) (f : A → B) (q : B → Reads C) → and_then r (λ x. q (f x)) ≡ and_then (and_then r (λ x. reads_pure (f x))) q
joins (Ok x) f q = refl
joins (Err stop) f q = refl

module _ (cast expr : Reads Expression) (argument : Reads Argument) (room : ℕ) (outermost : Expression × ℕ) where
  pub choices_more : (old new : List (Expression × ℕ)) (last : Expression × ℕ) (found : List Choice) (ts : List Token) → old ≡ new ++ (last ∷ [])
      → read_choices cast expr argument room outermost (reverse old) found ts
      ≡ and_then (and_then (read_choice cast expr argument room last ts) (λ x. reads_pure (appended found x))) (read_choices cast expr argument room outermost (reverse new))
  unfolding read_choices
  choices_more old new last found ts e =
      let turned : reverse old ≡ last ∷ reverse new = ap reverse e ∙ reverse-append new (last ∷ []) in
      ap (λ l. read_choices cast expr argument room outermost l found ts) turned ∙ joins (read_choice cast expr argument room last ts) _ _

  pub choices_none : (old : List (Expression × ℕ)) (found : List Choice) (ts : List Token) → old ≡ []
      → read_choices cast expr argument room outermost (reverse old) found ts
      ≡ and_then (read_choice cast expr argument room outermost ts) (λ x. reads_pure (appended found x))
  unfolding read_choices
  choices_none old found ts e = ap (λ l. read_choices cast expr argument room outermost (reverse l) found ts) e
