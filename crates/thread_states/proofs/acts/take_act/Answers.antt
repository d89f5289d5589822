use Rattle.std.proofs.Common.{◌≡◌, ℕ, min, length, sym, ap, subst, ◌∙◌, arith}
use Rattle.std.proofs.lemmas.Result.{on_ok_weaker}
use Rattle.block_ir.specs.declared.code.Act.{Act}
use Rattle.thread_promise.specs.Moves.{stage_after}
use Rattle.thread_states.specs.Acts.{LeadsFrom, LeadsUnless}
use Rattle.thread_states.proofs.ActLinks.{lead_taken, wait_taken, goes_on}
use Rattle.thread_states.proofs.acts.take_act.Goals as goal

pub returns-in_ok-lead_to-in-BarrierWait : goal.returns-in_ok-lead_to-in-BarrierWait
returns-in_ok-lead_to-in-BarrierWait c =
    let n = length c.args.code.now.stages in
    let same : c.min-following.result ≡ min c.args.next n = c.min-following.ensures ∙ ap (min c.args.next) c.len-rest.ensures in
    on_ok_weaker c.lead_unless.result
    (λ t.
    wait_taken c.args.code.now c.args.registers.now c.args.told c.args.stage c.args.act.now c.args.next c.args.wires.now.signals c.lead_unless.new.wires.signals c.args.chains.now
    c.lead_unless.new.chains c.in-BarrierWait.barrier c.in-BarrierWait.is
    (record {
      with_own = c.lead_to.new.wires.signals;
      own = c.lead_to.new.chains;
      waits =
          subst (λ (k : ℕ). LeadsFrom c.args.registers.now c.args.stage k c.args.wires.now.signals c.lead_to.new.wires.signals c.args.chains.now c.lead_to.new.chains)
          c.in_ok-number-in-BarrierWait.ensures c.in_ok-lead_to-in-BarrierWait.ensures;
      meets =
          subst (λ (k : ℕ). LeadsUnless c.args.registers.now k (min c.args.next n) c.args.told.barred c.lead_to.new.wires.signals c.lead_unless.new.wires.signals
          c.lead_to.new.chains c.lead_unless.new.chains) c.in_ok-number-in-BarrierWait.ensures
          (subst (λ (k : ℕ). LeadsUnless c.args.registers.now c.in_ok-number-in-BarrierWait.number k c.args.told.barred c.lead_to.new.wires.signals c.lead_unless.new.wires.signals
          c.lead_to.new.chains c.lead_unless.new.chains) same t);
    }))
    c.lead_unless.ensures

pub returns-in-Return : goal.returns-in-Return
returns-in-Return c =
    let n = length c.args.code.now.stages in
    on_ok_weaker c.lead_to-in-Return.result
    (λ t.
    lead_taken c.args.code.now c.args.registers.now c.args.told c.args.stage c.args.act.now c.args.next c.args.wires.now.signals c.lead_to-in-Return.new.wires.signals c.args.chains.now
    c.lead_to-in-Return.new.chains c.len-rest.result (λ barrier e. absurd (let is = c.in-Return.is in cc))
    (ap (λ (a : Act). stage_after n c.args.stage a (min c.args.next n)) c.in-Return.is ∙ sym c.len-rest.ensures) (let same = c.len-rest.ensures in omega arith) t)
    c.lead_to-in-Return.ensures

pub returns-in_default : goal.returns-in_default
returns-in_default c =
    let n = length c.args.code.now.stages in
    let same : c.min-following.result ≡ min c.args.next n = c.min-following.ensures ∙ ap (min c.args.next) c.len-rest.ensures in
    on_ok_weaker c.lead_to-in_default.result
    (λ t.
    lead_taken c.args.code.now c.args.registers.now c.args.told c.args.stage c.args.act.now c.args.next c.args.wires.now.signals c.lead_to-in_default.new.wires.signals c.args.chains.now
    c.lead_to-in_default.new.chains c.min-following.result c.in_default.not-BarrierWait
    (goes_on n c.args.stage c.args.act.now (min c.args.next n) c.in_default.not-BarrierWait c.in_default.not-Return ∙ sym same) (omega arith) t)
    c.lead_to-in_default.ensures
