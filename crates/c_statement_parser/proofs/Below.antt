-- One level less, and statements where some levels of nesting are left.
use Rattle.std.proofs.Common.{◌≡◌, ℕ, zero, suc, ◌-◌, ◌<◌, List, ap, arith}
use Rattle.std.specs.Prelude.{if◌then◌else◌}
use Rattle.c_token.specs.declared.token.Token.{Token}
use Rattle.c_token.specs.declared.punctuator.Punctuator.TheVariants.{OpenCurly}
use Rattle.grammar.specs.Readers.{sees, too_deep_or}
use Rattle.c_tree.specs.declared.sign.Sign.TheVariants.{Mark}
use Rattle.c_tree.specs.Tokens.{is}
use Rattle.c_reading.specs.Tokens.{begins_compound, begins_statement}
use Rattle.c_reading.specs.Statements.{below, read_statement, read_any_statement, read_compound, read_groups, read_plain, read_switch_body}

pub below_is : (n : ℕ) → below n ≡ n - 1
below_is zero = omega arith
below_is (suc n) = omega arith

pub statement_none : (room : ℕ) → room ≡ 0 → (ts : List Token) → read_statement room ts ≡ too_deep_or (is (Mark OpenCurly)) begins_statement ts
unfolding read_statement
statement_none room none ts = ap (λ r. read_statement r ts) none

pub statement_above : (room : ℕ) → 0 < room → (ts : List Token)
    → read_statement room ts ≡ (if sees begins_compound ts then read_compound (read_statement (room - 1)) (read_switch_body (room - 1)) (room - 1) ts else read_plain room (below room) ts)
unfolding read_statement read_any_statement
statement_above zero some ts = absurd (omega arith)
statement_above (suc room) some ts =
    let e : room ≡ suc room - 1 = omega arith in
    ap (λ r. if sees begins_compound ts then read_compound (read_statement r) (read_switch_body r) r ts else read_plain (suc room) room ts) e

pub body_none : (room : ℕ) → room ≡ 0 → (ts : List Token) → read_switch_body room ts ≡ too_deep_or (is (Mark OpenCurly)) (is (Mark OpenCurly)) ts
unfolding read_switch_body
body_none room none ts = ap (λ r. read_switch_body r ts) none

pub body_above : (room : ℕ) → 0 < room → (ts : List Token) → read_switch_body room ts ≡ read_groups (read_statement (room - 1)) (room - 1) ts
unfolding read_switch_body
body_above zero some ts = absurd (omega arith)
body_above (suc room) some ts = let e : room ≡ suc room - 1 = omega arith in ap (λ r. read_groups (read_statement r) r ts) e
