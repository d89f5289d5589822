use Rattle.std.proofs.Common.{refl}
use Rattle.thread_slots.specs.declared.chains.Chains.{Chains}
use Rattle.thread_slots.proofs.FirstLinks.{begin_made}
use Rattle.thread_slots.proofs.Linked.{begun}
use Rattle.thread_slots.proofs.chains.Chains.begin.Goals as goal

pub returns-clause-begins : goal.returns-clause-begins
returns-clause-begins c =
    begin_made c.args.wires.now.signals c.constant.new.self.signals c.constant-2.new.self.signals c.args.registers.now c.as_slice.result.now c.as_slice-2.result.now
    (record {
      stage = c.args.registers.now.stage.register;
      variables = c.in_ok-variables.variables;
      kept = c.in_ok-kept.kept;
      is_last = c.in_ok-is_last.is_last;
      waits = c.in_ok-waits.waits;
    })
    c.as_slice.ensures c.as_slice-2.ensures c.in_ok-variables.ensures c.in_ok-kept.ensures c.in_ok-is_last.ensures.shows c.in_ok-waits.ensures.shows refl

pub returns-clause-wired : goal.returns-clause-wired
returns-clause-wired c = λ base code slots reads.
    let chains : Chains = record {
      stage = c.args.registers.now.stage.register;
      variables = c.in_ok-variables.variables;
      kept = c.in_ok-kept.kept;
      is_last = c.in_ok-is_last.is_last;
      waits = c.in_ok-waits.waits;
    } in
    let begins =
    begin_made c.args.wires.now.signals c.constant.new.self.signals c.constant-2.new.self.signals c.args.registers.now c.as_slice.result.now c.as_slice-2.result.now chains
    c.as_slice.ensures c.as_slice-2.ensures c.in_ok-variables.ensures c.in_ok-kept.ensures c.in_ok-is_last.ensures.shows c.in_ok-waits.ensures.shows refl in
    begun base c.args.wires.now.signals c.constant.new.self.signals c.constant-2.new.self.signals code c.args.registers.now c.as_slice.result.now c.as_slice-2.result.now chains
    c.as_slice.ensures c.as_slice-2.ensures c.in_ok-variables.ensures c.in_ok-kept.ensures begins slots reads (c.in_ok-is_last.ensures.wired base)
    (c.in_ok-waits.ensures.wired base)
    c.in_ok-is_last.ensures.shows.grows refl
