use Rattle.std.proofs.Common.{subst}
use Rattle.verilog_reader.specs.Ports.{AreSame}
use Rattle.verilog_reader.proofs.Wanted.{unwanted_is}
use Rattle.verilog_reader.proofs.top.unwanted_port.Goals as goal

pub returns : goal.returns
returns c =
    unwanted_is c.args.ports.now c.in_ok-names.names c.in_ok-prefs.prefs c.in_ok-set.set c.in_ok-names.ensures c.in_ok-prefs.ensures
    (subst (λ l. AreSame l c.in_ok-set.set) c.as_slice.ensures c.in_ok-set.ensures) c.first_unwanted.result c.first_unwanted.ensures
