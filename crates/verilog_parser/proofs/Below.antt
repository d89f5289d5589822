-- Statements by whether levels of nesting are left.
use Rattle.std.proofs.Common.{◌≡◌, ℕ, zero, suc, ◌-◌, ◌<◌, List, ap, arith}
use Rattle.std.specs.Prelude.{if◌then◌else◌}
use Rattle.verilog_tree.specs.declared.token.Word.TheVariants.{If}
use Rattle.verilog_tree.specs.declared.token.Token.{Token}
use Rattle.grammar.specs.Readers.{sees, too_deep}
use Rattle.verilog_rules.specs.declared.sign.Sign.TheVariants.{Word}
use Rattle.verilog_rules.specs.Signs.{is}
use Rattle.verilog_rules.specs.Reading.{begins_statement, read_statement, read_branch, read_plain}

pub statement_none : (room : ℕ) → room ≡ 0 → (ts : List Token) → read_statement room ts ≡ too_deep begins_statement ts
unfolding read_statement
statement_none room none ts = ap (λ r. read_statement r ts) none

pub statement_above : (room : ℕ) → 0 < room → (ts : List Token) → read_statement room ts ≡ (if sees (is (Word If)) ts then read_branch (read_statement
    (room - 1)) ts else read_plain ts)
unfolding read_statement
statement_above zero some ts = absurd (omega arith)
statement_above (suc room) some ts =
    let e : room ≡ suc room - 1 = omega arith in
    ap (λ r. if sees (is (Word If)) ts then read_branch (read_statement r) ts else read_plain ts) e
