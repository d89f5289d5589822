use Rattle.std.proofs.Common.{◌≡◌, ℕ, Option, None, length, refl, sym, subst}
use Rattle.std.proofs.lemmas.Result.{on_ok_weaker}
use Rattle.operator_wires.proofs.MadeWords.{on_two}
use Rattle.block_datapath.specs.Chains.{SetsNext}
use Rattle.block_datapath.specs.Wired.{IsLinked}
use Rattle.thread_states.specs.Acts.{LeadsUnless, TakesArgument, EndsAt}
use Rattle.thread_states.proofs.RestLinks.{argument_taken, no_argument, rest_stays, rest_begins}
use Rattle.thread_states.proofs.resting.take_end.Goals as goal

pub returns-then-is_main : goal.returns-then-is_main
returns-then-is_main c =
    on_ok_weaker c.idle.result (rest_stays c.args.code.now c.args.registers.now c.args.is_main c.args.told c.len-rest.result c.args.wires.now.signals c.idle.new.wires.signals
    c.args.chains.now c.idle.new.chains c.if-is_main.true c.len-rest.ensures)
    c.idle.ensures

pub returns-in_default : goal.returns-in_default
returns-in_default c =
    let none : c.args.code.now.argument ≡ None = cc in
    rest_begins c.args.code.now c.args.registers.now c.args.told c.args.wires.now.signals c.lead_unless.new.wires.signals c.args.chains.now c.lead_unless.new.chains
    (record {
      with_idle = c.not.new.self.signals;
      with_lead = c.lead_unless.new.wires.signals;
      idle = c.in_ok-idle.idle;
      led = c.lead_unless.new.chains;
      idles = c.in_ok-idle.ensures.shows;
      idles_wired = c.in_ok-idle.ensures.wired;
      leads =
          subst (λ (k : ℕ). LeadsUnless c.args.registers.now k 0 c.in_ok-idle.idle c.not.new.self.signals c.lead_unless.new.wires.signals c.args.chains.now
          c.lead_unless.new.chains) c.len-rest.ensures c.in_ok-lead_unless.ensures;
      takes =
          subst (λ (v : Option ℕ). TakesArgument c.args.registers.now v (length c.args.code.now.stages) c.args.told.argument c.lead_unless.new.wires.signals
          c.lead_unless.new.wires.signals c.lead_unless.new.chains.variables c.lead_unless.new.chains.variables) (sym none)
          (no_argument c.args.registers.now (length c.args.code.now.stages) c.args.told.argument c.lead_unless.new.wires.signals c.lead_unless.new.chains.variables);
      same = refl;
    })
    c.args.is_main c.if-is_main.false

pub returns : goal.returns
returns c =
    on_two c.set_next.result
    (SetsNext c.at_stage.new.wires.signals c.set_next.new.wires.signals c.lead_unless.new.chains.variables c.set_next.new.nexts c.in-Some.variable c.in_ok-at.at c.args.told.argument)
    (IsLinked c.at_stage.new.wires.signals c.set_next.new.wires.signals c.in-Some.variable 64 c.in_ok-at.at c.args.told.argument c.lead_unless.new.chains.variables
    c.set_next.new.nexts)
    (EndsAt c.args.code.now c.args.registers.now c.args.is_main c.args.told c.args.wires.now.signals c.set_next.new.wires.signals c.args.chains.now
    (record c.lead_unless.new.chains { variables = c.set_next.new.nexts }))
    (λ sets linked.
    rest_begins c.args.code.now c.args.registers.now c.args.told c.args.wires.now.signals c.set_next.new.wires.signals c.args.chains.now
    (record c.lead_unless.new.chains { variables = c.set_next.new.nexts })
    (record {
      with_idle = c.not.new.self.signals;
      with_lead = c.lead_unless.new.wires.signals;
      idle = c.in_ok-idle.idle;
      led = c.lead_unless.new.chains;
      idles = c.in_ok-idle.ensures.shows;
      idles_wired = c.in_ok-idle.ensures.wired;
      leads =
          subst (λ (k : ℕ). LeadsUnless c.args.registers.now k 0 c.in_ok-idle.idle c.not.new.self.signals c.lead_unless.new.wires.signals c.args.chains.now
          c.lead_unless.new.chains) c.len-rest.ensures c.in_ok-lead_unless.ensures;
      takes =
          subst (λ (k : ℕ). TakesArgument c.args.registers.now c.args.code.now.argument k c.args.told.argument c.lead_unless.new.wires.signals c.set_next.new.wires.signals
          c.lead_unless.new.chains.variables c.set_next.new.nexts) c.len-rest.ensures
          (subst (λ (v : Option ℕ). TakesArgument c.args.registers.now v c.len-rest.result c.args.told.argument c.lead_unless.new.wires.signals c.set_next.new.wires.signals
          c.lead_unless.new.chains.variables c.set_next.new.nexts) (sym c.in-Some.is)
          (argument_taken c.args.registers.now c.in-Some.variable c.len-rest.result c.args.told.argument c.in_ok-at.at c.lead_unless.new.wires.signals
          c.at_stage.new.wires.signals c.set_next.new.wires.signals c.lead_unless.new.chains.variables c.set_next.new.nexts c.in_ok-at.ensures.shows c.in_ok-at.ensures.wired
          sets linked));
      same = refl;
    })
    c.args.is_main c.if-is_main.false)
    c.set_next.ensures.shows c.set_next.ensures.wired
