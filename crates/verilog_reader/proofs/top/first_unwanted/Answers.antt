use Rattle.std.proofs.Common.{◌≡◌, true, rules, arith}
use Rattle.std.proofs.lemmas.Grind.{common_steps}
use Rattle.verilog_reader.specs.Ports.{is_wanted}
use Rattle.verilog_reader.proofs.LoopTurns.{one_more, all_of}
use Rattle.verilog_reader.proofs.top.first_unwanted.Goals as goal

pub loop-number-preserved : goal.loop-number-preserved
loop-number-preserved c =
    let wanted : is_wanted c.args.prefs.now c.index-ports-number.result ≡ true = first_of (search rules, grind (arith, common_steps)) in
    one_more c.args.ports.now c.loop-number.number (λ p. is_wanted c.args.prefs.now p ≡ true) c.loop-number.invariant c.index-ports-number.result c.index-ports-number.is wanted

pub returns : goal.returns
returns c = all_of c.args.ports.now c.loop-number.number (λ p. is_wanted c.args.prefs.now p ≡ true) c.loop-number.invariant (omega arith)
