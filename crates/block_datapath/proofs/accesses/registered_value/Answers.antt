use Rattle.std.proofs.Common.{arith}
use Rattle.block_datapath.specs.declared.operands.Given.{Given}
use Rattle.block_datapath.proofs.AskedByAccesses.{registered_one, zero_wired}
use Rattle.block_datapath.proofs.accesses.registered_value.Goals as goal

pub returns-clause-value : goal.returns-clause-value
returns-clause-value c =
    let given : Given = record { word = c.of_type.result; last = c.saturating_add-last.result; register = c.register_of-register.result } in
    registered_one c.args.globals.now c.args.code.now c.args.plan.now c.args.wires.now.signals c.constant_word.new.self.signals c.args.number c.start_of-start.result
    c.args.operation.now
    c.in_ok-zero.zero given c.value_type-ty.result _ c.in_ok-zero.ensures.shows c.start_of-start.ensures c.value_type-ty.ensures c.of_type.ensures.width c.of_type.ensures.signed
    c.register_of-register.ensures (λ small. omega arith)

pub returns-clause-wired : goal.returns-clause-wired
returns-clause-wired c =
    let given : Given = record { word = c.of_type.result; last = c.saturating_add-last.result; register = c.register_of-register.result } in
    zero_wired c.args.wires.now.signals c.constant_word.new.self.signals c.value_type-ty.result c.in_ok-zero.zero given c.in_ok-zero.ensures.wired c.of_type.ensures.place
    c.of_type.ensures.width c.of_type.ensures.signed
