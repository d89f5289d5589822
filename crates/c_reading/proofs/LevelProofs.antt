-- The readings of binary operators read the levels of the grammar.
use Rattle.std.proofs.Common.{◌≡◌, ℕ, zero, suc, ◌<◌, ◌≤◌, Option, Some, None, Bool, true, false, refl, ap, le-leb, arith}
use Rattle.std.proofs.lemmas.Bool.{eqb-true, leb-true, or_left, or_right}
use Rattle.std.specs.Prelude.{if◌then◌else◌, ◌||◌, ◌==◌, nat_le}
use Rattle.c_token.specs.declared.punctuator.Punctuator.{Punctuator}
use Rattle.c_token.specs.declared.punctuator.Punctuator.TheVariants as p
use Rattle.c_token.specs.declared.token.Kind.TheVariants as kind
use Rattle.c_token.specs.declared.token.Token.{Token}
use Rattle.grammar.specs.Rules.{Family}
use Rattle.c_tree.specs.declared.sign.Sign.{Sign}
use Rattle.c_tree.specs.declared.sign.Sign.TheVariants.{Mark}
use Rattle.c_tree.specs.declared.expression.BinaryOperator.{BinaryOperator}
use Rattle.c_tree.specs.declared.expression.Expression.{Expression}
use Rattle.c_tree.specs.Tokens.{is, is_some, mark_of, of_mark, binding, at_level, binary_of, binary_at, binds_at}
use Rattle.c_tree.specs.Trees as tree
use Rattle.c_tree.specs.Expressions as g
use Rattle.c_reading.specs.Tokens as r
use Rattle.c_reading.specs.Expressions as e
use Rattle.grammar.proofs.Lists.{or_cases}
use Rattle.grammar.proofs.Good.{Reads}
use Rattle.grammar.proofs.Parts.{widen, one_then, some_then, ends}
use Rattle.grammar.proofs.Loops.{collected}
use Rattle.c_reading.proofs.TokenProofs.{token, sign_kind, sign_apart, placed_exactly}

-- ---- how tightly tokens bind

up_to : ℕ → Option (ℕ × BinaryOperator) → Bool
up_to k None = false
up_to k (Some x) = nat_le x.0 k

abbrev binding_of : Token → Option (ℕ × BinaryOperator)
binding_of x = of_mark binding (mark_of x.kind)

-- the tokens that bind at a level up to this
pub below : ℕ → Token → Bool
below k x = up_to k (binding_of x)

below_more : (k : ℕ) (x : Token) → below k x ≡ true → below (suc k) x ≡ true
unfolding below up_to
below_more k x h = at_option (binding_of x) h where
  at_option : (o : Option (ℕ × BinaryOperator)) → up_to k o ≡ true → up_to (suc k) o ≡ true
  at_option None h = cc
  at_option (Some y) h = le-leb y.0 (suc k) (omega (arith, leb-true y.0 k h))

at_below : (k : ℕ) (x : Token) → binds_at (suc k) x ≡ true → below (suc k) x ≡ true
unfolding below up_to
at_below k x h = at_option (binding_of x) h where
  at_by : (y : ℕ × BinaryOperator) (b : Bool) → (y.0 == suc k) ≡ b → is_some (if b then Some y.1 else None) ≡ true → nat_le y.0 (suc k) ≡ true
  at_by y true e h = le-leb y.0 (suc k) (omega (arith, eqb-true y.0 (suc k) e))
  at_by y false e h = cc

  at_option : (o : Option (ℕ × BinaryOperator)) → is_some (at_level (suc k) o) ≡ true → up_to (suc k) o ≡ true
  at_option None h = cc
  at_option (Some y) h = at_by y (y.0 == suc k) refl h

-- no token binds at a level and below it
levels_apart : (k : ℕ) (x : Token) → below k x ≡ true → binds_at (suc k) x ≡ true → ⊥
unfolding below up_to
levels_apart k x h g = at_option (binding_of x) h g where
  at_by : (y : ℕ × BinaryOperator) → nat_le y.0 k ≡ true → (b : Bool) → (y.0 == suc k) ≡ b → is_some (if b then Some y.1 else None) ≡ true → ⊥
  at_by y h true e g = omega (arith, eqb-true y.0 (suc k) e, leb-true y.0 k h)
  at_by y h false e g = cc

  at_option : (o : Option (ℕ × BinaryOperator)) → up_to k o ≡ true → is_some (at_level (suc k) o) ≡ true → ⊥
  at_option None h g = cc
  at_option (Some y) h g = at_by y h (y.0 == suc k) refl g

-- a sign that binds at no level
pub sign_not_below : (q : Sign) (k : ℕ) → of_mark binding (mark_of (sign_kind q)) ≡ None → (x : Token) → below k x ≡ true → is q x ≡ true → ⊥
unfolding below up_to
sign_not_below q k plain x h e = sign_apart q (λ y. up_to k (binding_of y)) (λ at. ap (up_to k) plain) x e h

-- ---- what goes on after an operand

-- a bracket behind a name
unfoldable pub opens : Token → Bool
opens x = is (Mark p.OpenRound) x || is (Mark p.OpenSquare) x

unfoldable pub goes : ℕ → Token → Bool
goes k x = below k x || opens x

opens_apart : (k : ℕ) (x : Token) → opens x ≡ true → binds_at (suc k) x ≡ true → ⊥
unfolding opens
opens_apart k x h g =
    or_cases (is (Mark p.OpenRound) x) (is (Mark p.OpenSquare) x) h
    (λ a. sign_apart (Mark p.OpenRound) (binds_at (suc k)) (λ at. refl) x a g)
    (λ a. sign_apart (Mark p.OpenSquare) (binds_at (suc k)) (λ at. refl) x a g)

goes_apart : (k : ℕ) (x : Token) → goes k x ≡ true → binds_at (suc k) x ≡ true → ⊥
unfolding goes
goes_apart k x h g = or_cases (below k x) (opens x) h (λ a. levels_apart k x a g) (λ a. opens_apart k x a g)

goes_more : (k : ℕ) (x : Token) → goes k x ≡ true → goes (suc k) x ≡ true
unfolding goes
goes_more k x h = or_cases (below k x) (opens x) h (λ a. or_left (below (suc k) x) (opens x) (below_more k x a)) (λ a. or_right (below (suc k) x) (opens x) a)

goes_here : (k : ℕ) (x : Token) → binds_at (suc k) x ≡ true → goes (suc k) x ≡ true
unfolding goes
goes_here k x h = or_left (below (suc k) x) (opens x) (at_below k x h)

goes_open : (x : Token) → opens x ≡ true → goes 0 x ≡ true
unfolding goes
goes_open x h = or_right (below 0 x) (opens x) h

-- a sign that does not go on after an operand
pub sign_ends : (q : Sign) (k : ℕ) → of_mark binding (mark_of (sign_kind q)) ≡ None → ((at : ℕ) → opens (token (sign_kind q) at) ≡ false) → (x : Token) → goes k x ≡ true → is q x ≡ true → ⊥
unfolding goes
sign_ends q k plain closed x h e = or_cases (below k x) (opens x) h (λ a. sign_not_below q k plain x a e) (λ a. sign_apart q opens closed x e a)

-- ---- the levels

-- each level has an operator
witness : (k : ℕ) → k < 10 → (x : Token) × (op : BinaryOperator × ℕ) × (binary_at (suc k) x ≡ Some op)
witness zero lt = (token (kind.Punctuator p.Star) 0, _, refl)
witness (suc zero) lt = (token (kind.Punctuator p.Plus) 0, _, refl)
witness (suc (suc zero)) lt = (token (kind.Punctuator p.ShiftLeft) 0, _, refl)
witness (suc (suc (suc zero))) lt = (token (kind.Punctuator p.Less) 0, _, refl)
witness (suc (suc (suc (suc zero)))) lt = (token (kind.Punctuator p.EqualEqual) 0, _, refl)
witness (suc (suc (suc (suc (suc zero))))) lt = (token (kind.Punctuator p.And) 0, _, refl)
witness (suc (suc (suc (suc (suc (suc zero)))))) lt = (token (kind.Punctuator p.Xor) 0, _, refl)
witness (suc (suc (suc (suc (suc (suc (suc zero))))))) lt = (token (kind.Punctuator p.Or) 0, _, refl)
witness (suc (suc (suc (suc (suc (suc (suc (suc zero)))))))) lt = (token (kind.Punctuator p.AndAnd) 0, _, refl)
witness (suc (suc (suc (suc (suc (suc (suc (suc (suc zero))))))))) lt = (token (kind.Punctuator p.OrOr) 0, _, refl)
witness (suc (suc (suc (suc (suc (suc (suc (suc (suc (suc k)))))))))) lt = absurd (omega arith)

module _ {D : ℕ → Type 0} {n : ℕ} {P : Family Token Expression} {q : ℕ → r.Reads Expression} (operand : Reads D n P q r.begins_cast (λ v. opens) false) where
  module _ (k : ℕ) (lt : k < 10) (lower : Reads D n (λ depth. g.binary k (P depth)) (λ room. e.read_binary k (q room)) r.begins_cast (λ v. goes k) false) where
    term : Reads D n (λ depth. g.term (suc k) (g.binary k (P depth))) (λ room. e.read_term (suc k) (e.read_binary k (q room))) (binds_at (suc k)) (λ v. goes k) false
    unfolding e.read_term r.read_operator
    term =
        let w = witness k lt in
        one_then (omega arith) operand.whole (binds_at (suc k)) (λ x. placed_exactly x.offset (binary_of (suc k) x)) w.0 w.1 w.2
        (λ op. ends lower (tree.term op) (λ v. goes k) (λ v t h. h))

    climb : Reads D n (λ depth. g.binary (suc k) (P depth)) (λ room. e.read_binary (suc k) (q room)) r.begins_cast (λ v. goes (suc k)) false
    unfolding e.read_binary
    climb =
        some_then (omega arith) lower
        (λ first. ends (collected term (λ t l f. goes_apart k t l f)) (tree.joined first) (λ v. goes (suc k))
        (λ ts t h. or_cases (goes k t) (binds_at (suc k) t) h (λ a. goes_more k t a) (λ a. goes_here k t a)))
        (λ v t l f. goes_apart k t l f) (λ v. goes (suc k)) (λ b t h. h) (λ a depth at b t z h l. goes_more k t l)

  pub levels : (k : ℕ) → k ≤ 10 → Reads D n (λ depth. g.binary k (P depth)) (λ room. e.read_binary k (q room)) r.begins_cast (λ v. goes k) false
  unfolding e.read_binary
  levels zero le = widen operand (λ v. goes 0) (λ v t h. goes_open t h)
  levels (suc k) le = climb k (omega arith) (levels k (omega arith))
