-- Values in braces where some levels of nesting are left.
use Rattle.std.proofs.Common.{◌≡◌, ℕ, zero, suc, ◌-◌, ◌<◌, List, ap, arith}
use Rattle.std.specs.Prelude.{if◌then◌else◌}
use Rattle.c_token.specs.declared.token.Token.{Token}
use Rattle.c_token.specs.declared.punctuator.Punctuator.TheVariants.{OpenCurly}
use Rattle.grammar.specs.Readers.{sees, too_deep_or}
use Rattle.c_tree.specs.declared.sign.Sign.TheVariants.{Mark}
use Rattle.c_tree.specs.Tokens.{is}
use Rattle.c_reading.specs.Tokens.{begins_initial, opens_initial}
use Rattle.c_reading.specs.Declarations.{read_any_initial, read_braced, read_initial, read_single}

pub initial_none : (room : ℕ) → room ≡ 0 → (ts : List Token) → read_initial room ts ≡ too_deep_or opens_initial begins_initial ts
unfolding read_initial
initial_none room none ts = ap (λ r. read_initial r ts) none

pub initial_above : (room : ℕ) → 0 < room → (ts : List Token)
    → read_initial room ts ≡ (if sees (is (Mark OpenCurly)) ts then read_braced (read_initial (room - 1)) (room - 1) ts else read_single room ts)
unfolding read_initial read_any_initial
initial_above zero some ts = absurd (omega arith)
initial_above (suc room) some ts =
    let e : room ≡ suc room - 1 = omega arith in
    ap (λ r. if sees (is (Mark OpenCurly)) ts then read_braced (read_initial r) r ts else read_single (suc room) ts) e
