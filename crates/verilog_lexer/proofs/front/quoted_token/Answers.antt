use Rattle.std.proofs.Common.{◌≡◌, ◌∙◌, ap, sym, refl, take, drop, false, Some, arith}
use Rattle.verilog_tree.specs.declared.token.Token.TheVariants as t
use Rattle.verilog_lexer.specs.Runs.{quoted_len}
use Rattle.verilog_lexer.proofs.FrontToken.{quoted_token, quoted_fits}
use Rattle.verilog_lexer.proofs.front.quoted_token.Goals as goal

pub overflow_add-result : goal.overflow_add-result
overflow_add-result c =
    let e : quoted_len 0 false (drop 1 c.args.text.now) ≡ Some c.in-Some.len = ap (quoted_len 0 false) (sym c.requires.behind) ∙ sym c.in-Some.ensures in
    let fits = quoted_fits c.args.text.now c.in-Some.len c.requires.begins e in
    omega (arith, fits)

pub returns-in_ok-inside-in-Some : goal.returns-in_ok-inside-in-Some
returns-in_ok-inside-in-Some c =
    let e : quoted_len 0 false (drop 1 c.args.text.now) ≡ Some c.in-Some.len = ap (quoted_len 0 false) (sym c.requires.behind) ∙ sym c.in-Some.ensures in
    let inside = c.from_string.ensures ∙ c.in_ok-inside-in-Some.ensures ∙ c.front.ensures ∙ ap (take c.in-Some.len) c.requires.behind in
    quoted_token c.args.text.now c.in-Some.len _ _ c.requires.begins e refl (ap t.Quoted inside)
