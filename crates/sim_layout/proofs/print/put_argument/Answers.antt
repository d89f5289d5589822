use Rattle.sim_values.specs.Flat.{flat_of, reading}
use Rattle.sim_layout.specs.Print.{IsSomething}
use Rattle.verilog_meaning.specs.Readings.{argument_bytes}
use Rattle.sim_layout.proofs.Calls.{on_err}
use Rattle.sim_layout.proofs.Something.{some_argument}
use Rattle.sim_layout.proofs.print.put_argument.Goals as goal

pub returns-in-Unsigned-clause-prints : goal.returns-in-Unsigned-clause-prints
returns-in-Unsigned-clause-prints c =
    let r = reading c.args.spot (flat_of c.args.now.now) in
    on_err c.put_dec.result (IsSomething (argument_bytes c.args.module.now r c.args.argument)) (some_argument c.args.module.now r c.args.argument)

pub returns-in-Signed-clause-prints : goal.returns-in-Signed-clause-prints
returns-in-Signed-clause-prints c =
    let r = reading c.args.spot (flat_of c.args.now.now) in
    on_err c.put_dec-in-Signed.result (IsSomething (argument_bytes c.args.module.now r c.args.argument)) (some_argument c.args.module.now r c.args.argument)
