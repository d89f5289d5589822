use Rattle.operator_wires.specs.declared.wires.Role.TheVariants.{Done}
use Rattle.thread_requests.proofs.RequestWires.{output_behind, done_tells}
use Rattle.thread_requests.proofs.outputs.lay_done.Goals as goal

pub returns-clause-named : goal.returns-clause-named
returns-clause-named c =
    output_behind _ c.args.wires.now.signals c.output.new.self.signals Done _ _ _ c.in_ok-output.ensures.laid (λ small inputs. done_tells _ inputs)
