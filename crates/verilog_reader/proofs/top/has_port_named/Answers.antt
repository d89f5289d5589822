use Rattle.std.proofs.Common.{◌≡◌, true, false, rules, arith}
use Rattle.std.proofs.lemmas.Grind.{common_steps}
use Rattle.std.specs.Str.{bytes_eq}
use Rattle.verilog_reader.proofs.Names.{port_here, port_later}
use Rattle.verilog_reader.proofs.top.has_port_named.Goals as goal

pub returns-then-eq : goal.returns-then-eq
returns-then-eq c =
    let same : bytes_eq c.port-item.result.name c.args.name.now ≡ true = first_of (search rules, grind (arith, common_steps)) in
    port_here c.args.ports.now c.loop-port.port-index c.port-item.result c.args.name.now c.loop-port.invariant c.port-item.is c.loop-port-test.true same

pub loop-port-preserved : goal.loop-port-preserved
loop-port-preserved c =
    let other : bytes_eq c.port-item.result.name c.args.name.now ≡ false = first_of (search rules, grind (arith, common_steps)) in
    port_later c.args.ports.now c.loop-port.port-index c.port-item.result c.args.name.now c.loop-port.invariant c.port-item.is c.loop-port-test.true other
