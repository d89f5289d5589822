-- How operands and expressions begin: they are never empty, an opening parenthesis stands one level deeper, and what
-- spells an operand spells an expression.
use Rattle.std.proofs.Common.{◌≡◌, ℕ, zero, suc, ◌+◌, List, [], ◌∷◌, ◌++◌, true, false, refl, sym, ap, ◌∙◌, subst, inl, inr, ⊎_elim}
use Rattle.std.proofs.lemmas.Bool.{false_from_ne_true}
use Rattle.std.proofs.lemmas.List.{append-nil}
use Rattle.c_token.specs.declared.punctuator.Punctuator.TheVariants as p
use Rattle.c_token.specs.declared.constant.Constant.TheVariants.{TooLarge}
use Rattle.c_token.specs.declared.token.Kind.TheVariants as kind
use Rattle.c_token.specs.declared.token.Token.{Token}
use Rattle.grammar.specs.Rules.{Placed, pure, one, ◌>>=◌, ◌<|>◌, many, nested}
use Rattle.grammar.specs.Sentences.{Spelled}
use Rattle.c_tree.specs.declared.sign.Sign.{Sign}
use Rattle.c_tree.specs.declared.sign.Sign.TheVariants.{Mark}
use Rattle.c_tree.specs.declared.expression.Specifiers.{Specifiers}
use Rattle.c_tree.specs.declared.expression.Expression.{Expression}
use Rattle.c_tree.specs.Tokens.{is, sign_at, name_at, constant_at, constant_of, unary_at, unary_of, is_unary}
use Rattle.c_tree.specs.Trees as tree
use Rattle.c_tree.specs.Expressions as g
use Rattle.grammar.proofs.Parts.{gives}
use Rattle.grammar.proofs.Nested.{OpensBy, one_opens, group_opens, both_opens, either_opens, depth_opens}
use Rattle.c_reading.proofs.TokenProofs.{token, sign_apart, sign_exactly, name_apart, constant_apart, some_exactly, placed_exactly}

abbrev pub open_round : Sign
open_round = Mark p.OpenRound

abbrev pub close_round : Sign
close_round = Mark p.CloseRound

abbrev pub All : ℕ → Type 0
All depth = Unit {0}

-- ---- never empty

append_empty : {T : Type 0} (x y : List T) → [] ≡ x ++ y → x ≡ []
append_empty [] y e = refl
append_empty (u ∷ x) y e = cc

-- no tokens are not one token and others
none_first : {T : Type 0} (t : T) (front back : List T) → [] ≡ front ++ back → front ≡ t ∷ [] → ⊥
none_first t front back e one = let whole : [] ≡ t ∷ back = e ∙ ap (λ l. l ++ back) one in cc (whole)

conversion_some : (depth at : ℕ) (v : Specifiers × ℕ) → g.conversion (g.cast depth) (g.expr depth) at [] v → ⊥
conversion_some depth at v h = none_first (h.4.0, at + 1) h.1 h.2 h.3 h.4.1

pub operand_some : (depth at : ℕ) (v : Expression) → g.operand (g.cast depth) (g.expr depth) at [] v → ⊥
operand_some depth at v h =
    ⊎_elim
    (λ a. conversion_some depth at a.0 (subst (λ l. g.conversion (g.cast depth) (g.expr depth) at l a.0) (append_empty a.1 a.2 a.3) a.4))
    (λ rest. ⊎_elim
    (λ a. none_first (a.4.0, at) a.1 a.2 a.3 a.4.1)
    (λ prim. ⊎_elim
    (λ named. ⊎_elim (λ a. none_first (a.4.0, at) a.1 a.2 a.3 a.4.1) (λ a. none_first (a.4.0, at) a.1 a.2 a.3 a.4.1) named)
    (λ other. ⊎_elim (λ a. none_first (a.4.0, at) a.1 a.2 a.3 a.4.1) (λ a. none_first (a.4.0, at + 1) a.1 a.2 a.3 a.4.1) other)
    prim)
    rest)
    h

pub cast_some : (depth at : ℕ) (v : Expression) → g.cast depth at [] v → ⊥
cast_some zero at v h = h
cast_some (suc depth) at v h = operand_some depth at v h

pub binary_some : (level depth at : ℕ) (v : Expression) → g.binary level (g.cast depth) at [] v → ⊥
binary_some zero depth at v h = cast_some depth at v h
binary_some (suc level) depth at v h = binary_some level depth at h.0 (subst (λ l. g.binary level (g.cast depth) at l h.0) (append_empty h.1 h.2 h.3) h.4)

-- ---- at which level they begin

round_here : (x : Token) → gives (sign_at open_round x) ≡ true → is open_round x ≡ true
round_here x h = sym (sign_exactly open_round x) ∙ h

name_closes : (x : Token) → gives (name_at x) ≡ true → is open_round x ≡ false
name_closes x h = false_from_ne_true (is open_round x) (λ a. name_apart (is open_round) (λ b at. refl) x (sym (some_exactly (name_at x)) ∙ h) a)

constant_closes : (x : Token) → gives (constant_at x) ≡ true → is open_round x ≡ false
constant_closes x h = false_from_ne_true (is open_round x) (λ a. constant_apart (is open_round) (λ c at. refl) x (sym (placed_exactly x.offset (constant_of x.kind)) ∙ h) a)

unary_closes : (x : Token) → gives (unary_at x) ≡ true → is open_round x ≡ false
unary_closes x h = false_from_ne_true (is open_round x) (λ a. sign_apart open_round is_unary (λ at. refl) x a (sym (placed_exactly x.offset (unary_of x)) ∙ h))

operand_opens : OpensBy All (is open_round) (λ depth. g.operand (g.cast depth) (g.expr depth))
operand_opens =
    either_opens
    (both_opens (λ s depth. nested (g.cast depth) >>= (λ x. pure (tree.cast s.0 s.1 x))) (λ depth at s h. conversion_some depth at s h)
    (group_opens (is open_round) (sign_at open_round) (λ at depth. g.specifiers >>= (λ s. g.sign close_round >>= (λ u. pure (s, at)))) round_here))
    (either_opens (one_opens (is open_round) unary_at (λ op depth. nested (g.cast depth) >>= (λ x. pure (tree.unary op x))) unary_closes)
    (either_opens
    (either_opens (one_opens (is open_round) name_at _ name_closes) (one_opens (is open_round) name_at _ name_closes))
    (either_opens (one_opens (is open_round) constant_at (λ c depth. pure (tree.constant c)) constant_closes)
    (group_opens (is open_round) (sign_at open_round) (λ at depth. g.expr depth >>= (λ x. g.sign close_round >>= (λ u. pure (tree.moved at x)))) round_here))))

pub cast_opens : {D : ℕ → Type 0} → OpensBy D (is open_round) g.cast
cast_opens = depth_opens g.cast (is open_round) (λ at w v h. h) operand_opens

binary_opens : (level : ℕ) → OpensBy All (is open_round) (λ depth. g.binary level (g.cast depth))
binary_opens zero = cast_opens
binary_opens (suc level) = both_opens (λ first depth. many (g.term (suc level) (g.binary level (g.cast depth))) >>= (λ more. pure (tree.joined first more)))
    (λ depth at v h. binary_some level depth at v h) (binary_opens level)

pub expr_opens : {D : ℕ → Type 0} → OpensBy D (is open_round) g.expr
expr_opens = depth_opens g.expr (is open_round) (λ at w v h. h)
    (both_opens (λ first depth. g.chosen_by (g.cast depth) (g.expr depth) first <|> pure first) (λ depth at v h. binary_some 10 depth at v h) (binary_opens 10))

-- ---- an operand is an expression

pub binary_of : (level depth at : ℕ) (w : List (Placed Token)) (v : Expression) → g.cast depth at w v → g.binary level (g.cast depth) at w v
binary_of zero depth at w v h = h
binary_of (suc level) depth at w v h = (v, w, [], sym (append-nil w), binary_of level depth at w v h, ([], [], [], refl, refl, (refl, refl)))

pub expr_of : (depth at : ℕ) (w : List (Placed Token)) (v : Expression) → g.cast depth at w v → g.expr (suc depth) at w v
expr_of depth at w v h = (v, w, [], sym (append-nil w), binary_of 10 depth at w v h, inr (refl, refl))

-- some operand, some expression
pub some_cast : (at : ℕ) → (w : List (Placed Token)) × (v : Expression) × Spelled g.cast at w v
some_cast at =
    let x : Token = token (kind.Constant TooLarge) 0 in
    ((x, at) ∷ [], tree.constant (TooLarge, 0), (1, inr (inr (inr (inl ((TooLarge, 0), (x, at) ∷ [], [], refl, (x, refl, refl), (refl, refl)))))))

pub some_expr : (at : ℕ) → (w : List (Placed Token)) × (v : Expression) × Spelled g.expr at w v
some_expr at = let k = some_cast at in (k.0, k.1, (suc k.2.0, expr_of k.2.0 at k.0 k.1 k.2.1))
