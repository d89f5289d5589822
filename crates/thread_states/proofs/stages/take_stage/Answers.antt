use Rattle.std.proofs.Common.{rules, ◌≡◌, ◌∙◌, Option, Some, refl, sym, ap, subst}
use Rattle.block_ir.specs.declared.code.Stage.TheVariants as taken
use Rattle.block_ir.specs.declared.plan.StagePlan.TheVariants as planned
use Rattle.thread_states.proofs.Blocks.{stage_of_block, stage_of_none}
use Rattle.thread_states.specs.Cells.{StoresStage}
use Rattle.thread_states.specs.Stores.{StageKeepsStores}
use Rattle.thread_states.proofs.StateStores.{stage_kept}
use Rattle.std.specs.Option.{option_copied}
use Rattle.std.specs.Prelude.{OnOk, slice_get}
use Rattle.std.proofs.lemmas.Result.{on_ok_weaker}
use Rattle.block_ir.specs.declared.code.Stage.{Stage}
use Rattle.block_ir.specs.declared.plan.BlockPlan.{BlockPlan}
use Rattle.block_ir.specs.declared.plan.StagePlan.{StagePlan}
use Rattle.thread_states.specs.Stages.{TakesStage}
use Rattle.thread_states.proofs.StageByStage.{run_taken, idle_taken, act_taken}
use Rattle.thread_states.proofs.stages.take_stage.Goals as goal
use Rattle.thread_states.proofs.stages.take_stage.Goals.{in_default-via-in-Some+in_default, in_default-via-in_default}
use Rattle.thread_slots.proofs.Taken.{none_planned}

pub returns-in-Some-Run-clause-takes : goal.returns-in-Some-Run-clause-takes
returns-in-Some-Run-clause-takes c =
    let found : Some (planned.Run c.in-Some-Run.plan) ≡ slice_get c.args.planned.now.stages c.args.number = (let value = c.in-Some-Run.ensures.value in cc) in
    on_ok_weaker c.run.result
    (λ t.
    subst (λ (s : Stage). TakesStage c.args.globals.now c.args.code.now c.args.registers.now c.args.told c.args.number s (slice_get c.args.planned.now.stages c.args.number)
    c.args.wires.now.signals c.run.new.wires.signals c.args.chains.now c.run.new.chains) (sym c.in-Run.is)
    (subst (λ (p : Option StagePlan). TakesStage c.args.globals.now c.args.code.now c.args.registers.now c.args.told c.args.number (taken.Run c.in-Run.block) p
    c.args.wires.now.signals c.run.new.wires.signals c.args.chains.now c.run.new.chains) found
    (run_taken c.args.globals.now c.args.code.now c.args.registers.now c.args.told c.args.number c.args.wires.now.signals c.run.new.wires.signals c.args.chains.now
    c.run.new.chains c.in-Run.block c.in-Some-Run.plan (planned.Run c.in-Some-Run.plan) refl t)))
    c.run.ensures.runs

pub returns-in-Some-Run-clause-puts : goal.returns-in-Some-Run-clause-puts
returns-in-Some-Run-clause-puts c =
    let found : Some (planned.Run c.in-Some-Run.plan) ≡ slice_get c.args.planned.now.stages c.args.number = (let value = c.in-Some-Run.ensures.value in cc) in
    on_ok_weaker c.run.result
    (λ t.
    subst (λ (s : Stage). StoresStage c.args.globals.now c.args.code.now c.args.registers.now c.args.number s (slice_get c.args.planned.now.stages c.args.number)
    c.args.wires.now.signals c.run.new.wires.signals c.args.stores.now c.run.new.stores) (sym c.in-Run.is)
    (subst (λ (p : Option StagePlan). StoresStage c.args.globals.now c.args.code.now c.args.registers.now c.args.number (taken.Run c.in-Run.block) p
    c.args.wires.now.signals c.run.new.wires.signals c.args.stores.now c.run.new.stores) found
    (stage_of_block c.args.globals.now c.args.code.now c.args.registers.now c.args.number c.args.wires.now.signals c.run.new.wires.signals c.args.stores.now c.run.new.stores
    c.in-Run.block c.in-Some-Run.plan (planned.Run c.in-Some-Run.plan) refl t)))
    c.run.ensures.puts

pub returns-in-Some-Run-clause-stores : goal.returns-in-Some-Run-clause-stores
returns-in-Some-Run-clause-stores c =
    let found : Some (planned.Run c.in-Some-Run.plan) ≡ slice_get c.args.planned.now.stages c.args.number = (let value = c.in-Some-Run.ensures.value in cc) in
    subst (λ (plan : Option StagePlan). OnOk c.run.result (StageKeepsStores c.args.code.now c.args.registers.now c.args.number plan c.args.wires.now.signals
    c.run.new.wires.signals c.args.chains.now c.args.stores.now c.run.new.stores)) found c.run.ensures.stores

not_planned : (c : goal.After-idle) (p : BlockPlan) → slice_get c.args.planned.now.stages c.args.number ≡ Some (planned.Run p) → ⊥
not_planned c p e =
    elim c.in_default.branch [
      | in_default-via-in-Some+in_default w ↦ let value = c.get.ensures.value in let is = w.in_default.is in search rules
      | in_default-via-in_default w ↦ none_planned (slice_get c.args.planned.now.stages c.args.number) p (sym c.get.ensures.value ∙ ap option_copied w.in_default.is) e
    ]

pub returns-in_default-clause-takes : goal.returns-in_default-clause-takes
returns-in_default-clause-takes c =
    on_ok_weaker c.idle.result (λ t.
    subst (λ (s : Stage). TakesStage c.args.globals.now c.args.code.now c.args.registers.now c.args.told c.args.number s (slice_get c.args.planned.now.stages c.args.number)
    c.args.wires.now.signals c.idle.new.wires.signals c.args.chains.now c.idle.new.chains) (sym c.in-Run.is)
    (idle_taken c.args.globals.now c.args.code.now c.args.registers.now c.args.told c.args.number c.args.wires.now.signals c.idle.new.wires.signals c.args.chains.now
    c.idle.new.chains
    c.in-Run.block (slice_get c.args.planned.now.stages c.args.number) (not_planned c) t))
    c.idle.ensures

pub returns-in_default-clause-stores : goal.returns-in_default-clause-stores
returns-in_default-clause-stores c =
    on_ok_weaker c.idle.result (λ t.
    stage_kept c.args.code.now c.args.registers.now c.args.number (slice_get c.args.planned.now.stages c.args.number) c.args.wires.now.signals c.idle.new.wires.signals
    c.args.chains.now
    c.args.stores.now t.step.grows)
    c.idle.ensures

pub returns-in_default-clause-puts : goal.returns-in_default-clause-puts
returns-in_default-clause-puts c =
    on_ok_weaker c.idle.result (λ t.
    stage_of_none c.args.globals.now c.args.code.now c.args.registers.now c.args.number c.args.stage.now
    (slice_get c.args.planned.now.stages c.args.number) c.args.wires.now.signals
    c.idle.new.wires.signals c.args.stores.now t.step.grows (λ x p e. not_planned c p))
    c.idle.ensures

pub returns-in-Act-clause-takes : goal.returns-in-Act-clause-takes
returns-in-Act-clause-takes c =
    on_ok_weaker c.take_act.result
    (λ t.
    subst (λ (s : Stage). TakesStage c.args.globals.now c.args.code.now c.args.registers.now c.args.told c.args.number s (slice_get c.args.planned.now.stages c.args.number)
    c.args.wires.now.signals c.take_act.new.wires.signals c.args.chains.now c.take_act.new.chains) (sym c.in-Act.is)
    (act_taken c.args.globals.now c.args.code.now c.args.registers.now c.args.told c.args.number c.args.wires.now.signals c.take_act.new.wires.signals c.args.chains.now
    c.take_act.new.chains c.in-Act.act c.in-Act.next (slice_get c.args.planned.now.stages c.args.number) t))
    c.take_act.ensures

pub returns-in-Act-clause-stores : goal.returns-in-Act-clause-stores
returns-in-Act-clause-stores c =
    on_ok_weaker c.take_act.result
    (λ t.
    stage_kept c.args.code.now c.args.registers.now c.args.number (slice_get c.args.planned.now.stages c.args.number) c.args.wires.now.signals c.take_act.new.wires.signals
    c.args.chains.now
    c.args.stores.now t.step.grows)
    c.take_act.ensures

pub returns-in-Act-clause-puts : goal.returns-in-Act-clause-puts
returns-in-Act-clause-puts c =
    on_ok_weaker c.take_act.result
    (λ t.
    stage_of_none c.args.globals.now c.args.code.now c.args.registers.now c.args.number c.args.stage.now
    (slice_get c.args.planned.now.stages c.args.number) c.args.wires.now.signals
    c.take_act.new.wires.signals c.args.stores.now t.step.grows (λ x p e f. absurd (let is = c.in-Act.is in cc)))
    c.take_act.ensures
