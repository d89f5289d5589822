use Rattle.std.proofs.Common.{List, refl, sym, subst}
use Rattle.std.proofs.lemmas.Result.{on_ok_weaker}
use Rattle.operator_wires.proofs.MadeWords.{on_two}
use Rattle.thread_states.proofs.Blocks.{block_stores}
use Rattle.thread_states.proofs.StateStores.{run_stored}
use Rattle.block_datapath.specs.declared.operands.Given.{Given}
use Rattle.thread_slots.specs.Wired.{ValuesStand}
use Rattle.thread_slots.specs.declared.chains.Chains.{Chains}
use Rattle.thread_slots.specs.Links.{LeadsTo}
use Rattle.thread_states.specs.Stages.{RunsBlock}
use Rattle.thread_states.proofs.StageByStage.{run_made}
use Rattle.thread_states.proofs.Taken.{Leads, run_linked}
use Rattle.thread_states.proofs.Between.{block_linked, stage_fits, chains_of}
use Rattle.thread_slots.proofs.Between.{registers_of}
use Rattle.thread_states.proofs.stages.run.Goals as goal

pub returns-clause-runs : goal.returns-clause-runs
returns-clause-runs c =
    let middle : Chains = record c.args.chains.now { variables = c.leave_block.new.variables; kept = c.leave_block.new.kept } in
    on_two c.lead.result (LeadsTo c.store_all.new.wires.signals c.lead.new.wires.signals middle c.lead.new.self c.in_ok-left.left.last c.in_ok-left.left.target)
    (Leads c.store_all.new.wires.signals c.lead.new.wires.signals c.args.registers.now middle c.lead.new.self c.in_ok-left.left.last c.in_ok-left.left.target)
    (RunsBlock c.args.globals.now c.args.code.now c.args.registers.now c.args.number c.args.block.now c.args.plan.now c.args.wires.now.signals c.lead.new.wires.signals
    c.args.chains.now
    c.lead.new.self)
    (λ t u.
    run_made c.args.globals.now c.args.code.now c.args.registers.now c.args.number c.args.block.now c.args.plan.now c.args.wires.now.signals c.leave_block.new.wires.signals
    c.store_all.new.wires.signals c.lead.new.wires.signals c.args.chains.now middle c.lead.new.self c.in_ok-left.left refl c.in_ok-left.ensures.shows
    c.in_ok-store_all.ensures.grows t
    (run_linked c.args.code.now c.args.registers.now c.args.number c.args.plan.now c.args.wires.now.signals c.leave_block.new.wires.signals c.store_all.new.wires.signals
    c.lead.new.wires.signals c.args.chains.now middle c.lead.new.self c.in_ok-left.left refl c.in_ok-left.ensures.shows.count c.in_ok-left.ensures.shows.kept_count
    (λ base slots reads room states variables kept.
    block_linked base c.args.wires.now.signals c.leave_block.new.wires.signals c.args.registers.now c.leave_block.new.variables c.leave_block.new.kept c.in_ok-left.left
    (c.in_ok-left.ensures.wired base (stage_fits base c.args.wires.now.signals c.args.code.now c.args.registers.now slots c.args.number c.args.plan.now reads room states)
    (registers_of base c.args.wires.now.signals c.args.code.now c.args.registers.now slots)
    (chains_of base c.args.wires.now.signals c.args.registers.now.variables c.args.chains.now.variables variables.0 variables.1)
    (chains_of base c.args.wires.now.signals c.args.registers.now.kept c.args.chains.now.kept kept.0 kept.1)))
    (λ base slots stand bit few.
    (c.in_ok-store_all.ensures.wired base slots
    (subst (λ (values : List Given). ValuesStand base c.leave_block.new.wires.signals values) (sym c.as_slice-given.ensures) stand) bit few).wires) u))
    c.lead.ensures.leads c.lead.ensures.wired

pub returns-clause-stores : goal.returns-clause-stores
returns-clause-stores c =
    let middle : Chains = record c.args.chains.now { variables = c.leave_block.new.variables; kept = c.leave_block.new.kept } in
    on_ok_weaker c.lead.result (λ t.
    run_stored c.args.code.now c.args.registers.now c.args.number c.args.plan.now c.args.wires.now.signals c.leave_block.new.wires.signals c.store_all.new.wires.signals
    c.lead.new.wires.signals c.args.chains.now c.leave_block.new.variables c.leave_block.new.kept c.in_ok-left.left c.as_slice-given.result.now c.args.stores.now
    c.store_all.new.stores
    (λ base slots reads room states variables kept.
    block_linked base c.args.wires.now.signals c.leave_block.new.wires.signals c.args.registers.now c.leave_block.new.variables c.leave_block.new.kept c.in_ok-left.left
    (c.in_ok-left.ensures.wired base (stage_fits base c.args.wires.now.signals c.args.code.now c.args.registers.now slots c.args.number c.args.plan.now reads room states)
    (registers_of base c.args.wires.now.signals c.args.code.now c.args.registers.now slots)
    (chains_of base c.args.wires.now.signals c.args.registers.now.variables c.args.chains.now.variables variables.0 variables.1)
    (chains_of base c.args.wires.now.signals c.args.registers.now.kept c.args.chains.now.kept kept.0 kept.1)))
    c.as_slice-given.ensures c.in_ok-store_all.ensures.wired t.grows)
    c.lead.ensures.leads

pub returns-clause-puts : goal.returns-clause-puts
returns-clause-puts c =
    let middle : Chains = record c.args.chains.now { variables = c.leave_block.new.variables; kept = c.leave_block.new.kept } in
    on_ok_weaker c.lead.result (λ t.
    block_stores c.args.globals.now c.args.code.now c.args.registers.now c.args.number c.args.block.now c.args.plan.now c.args.wires.now.signals c.leave_block.new.wires.signals
    c.store_all.new.wires.signals c.lead.new.wires.signals c.args.chains.now.variables c.leave_block.new.variables c.args.chains.now.kept c.leave_block.new.kept c.in_ok-left.left
    c.as_slice-given.result.now c.as_slice-given.ensures c.args.stores.now c.store_all.new.stores c.in_ok-left.ensures.shows c.in_ok-store_all.ensures.puts t.grows)
    c.lead.ensures.leads
