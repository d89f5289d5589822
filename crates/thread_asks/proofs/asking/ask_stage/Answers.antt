use Rattle.std.proofs.Common.{rules, ◌≡◌, ◌∙◌, Option, Some, refl, sym, ap, subst}
use Rattle.std.specs.Option.{option_copied}
use Rattle.std.specs.Prelude.{slice_get}
use Rattle.std.proofs.lemmas.Result.{on_ok_weaker}
use Rattle.block_ir.specs.declared.code.Stage.{Stage}
use Rattle.block_ir.specs.declared.code.Stage.TheVariants as stage
use Rattle.block_ir.specs.declared.plan.BlockPlan.{BlockPlan}
use Rattle.block_ir.specs.declared.plan.StagePlan.{StagePlan}
use Rattle.block_ir.specs.declared.plan.StagePlan.TheVariants as planned
use Rattle.operator_wires.proofs.MadeWords.{on_two}
use Rattle.block_datapath.specs.Accesses.{AsksBlock, IsAskingBlock}
use Rattle.thread_slots.specs.declared.requests.Requests.{Requests}
use Rattle.thread_slots.proofs.Taken.{none_planned}
use Rattle.thread_asks.specs.Asking.{AsksStage}
use Rattle.thread_asks.proofs.Asks.{block_stage, nothing_stage}
use Rattle.thread_asks.proofs.asking.ask_stage.Goals as goal

pub returns-in-Some-Run : goal.returns-in-Some-Run
returns-in-Some-Run c =
    let found : Some (planned.Run c.in-Some-Run.plan) ≡ slice_get c.args.planned.now.stages c.args.number = (let value = c.in-Some-Run.ensures.value in cc) in
    let block = c.in-Run.block in
    let plan = c.in-Some-Run.plan in
    let after : Requests = record c.args.requests.now { banks = c.ask_block.new.chains } in
    on_two c.ask_block.result
    (AsksBlock c.args.globals.now c.args.spreads.now c.args.code.now c.args.registers.now c.args.number block plan c.args.wires.now.signals c.ask_block.new.wires.signals
    c.args.requests.now.banks c.ask_block.new.chains)
    (IsAskingBlock c.args.globals.now c.args.spreads.now c.args.code.now c.args.registers.now c.args.number block plan c.args.wires.now.signals c.ask_block.new.wires.signals
    c.args.requests.now.banks c.ask_block.new.chains)
    (AsksStage c.args.globals.now c.args.spreads.now c.args.code.now c.args.registers.now c.args.caller c.args.number c.args.stage.now
    (slice_get c.args.planned.now.stages c.args.number) c.args.wires.now.signals c.ask_block.new.wires.signals c.args.requests.now after)
    (λ t u.
    subst (λ (s : Stage). AsksStage c.args.globals.now c.args.spreads.now c.args.code.now c.args.registers.now c.args.caller c.args.number s
    (slice_get c.args.planned.now.stages c.args.number)
    c.args.wires.now.signals c.ask_block.new.wires.signals c.args.requests.now after) (sym c.in-Run.is)
    (subst (λ (p : Option StagePlan). AsksStage c.args.globals.now c.args.spreads.now c.args.code.now c.args.registers.now c.args.caller c.args.number (stage.Run block) p
    c.args.wires.now.signals c.ask_block.new.wires.signals c.args.requests.now after) found
    (block_stage c.args.globals.now c.args.spreads.now c.args.code.now c.args.registers.now c.args.caller c.args.number block plan c.args.wires.now.signals
    c.ask_block.new.wires.signals c.args.requests.now after refl t u)))
    c.ask_block.ensures.shows c.ask_block.ensures.wired

pub returns-in_default : goal.returns-in_default
returns-in_default c =
    let value = c.get.ensures.value in
    let is = c.in_default.is in
    let not_planned : (p : BlockPlan) → slice_get c.args.planned.now.stages c.args.number ≡ Some (planned.Run p) → ⊥ = λ p e. search rules in
    subst (λ (s : Stage). AsksStage c.args.globals.now c.args.spreads.now c.args.code.now c.args.registers.now c.args.caller c.args.number s
    (slice_get c.args.planned.now.stages c.args.number)
    c.args.wires.now.signals c.args.wires.now.signals c.args.requests.now c.args.requests.now) (sym c.in-Run.is)
    (nothing_stage c.args.globals.now c.args.spreads.now c.args.code.now c.args.registers.now c.args.caller c.args.number (stage.Run c.in-Run.block)
    (slice_get c.args.planned.now.stages c.args.number) c.args.wires.now.signals c.args.requests.now c.args.requests.now refl (λ k. refl)
    (λ b p e f. not_planned p f))

pub returns-in_default-2 : goal.returns-in_default-2
returns-in_default-2 c =
    let value = c.get.ensures.value in
    let is = c.in_default.is in
    let not_planned : (p : BlockPlan) → slice_get c.args.planned.now.stages c.args.number ≡ Some (planned.Run p) → ⊥ = λ p e. none_planned (slice_get c.args.planned.now.stages c.args.number) p (sym value ∙ ap option_copied is) e in
    subst (λ (s : Stage). AsksStage c.args.globals.now c.args.spreads.now c.args.code.now c.args.registers.now c.args.caller c.args.number s
    (slice_get c.args.planned.now.stages c.args.number)
    c.args.wires.now.signals c.args.wires.now.signals c.args.requests.now c.args.requests.now) (sym c.in-Run.is)
    (nothing_stage c.args.globals.now c.args.spreads.now c.args.code.now c.args.registers.now c.args.caller c.args.number (stage.Run c.in-Run.block)
    (slice_get c.args.planned.now.stages c.args.number) c.args.wires.now.signals c.args.requests.now c.args.requests.now refl (λ k. refl)
    (λ b p e f. not_planned p f))

pub returns-in-Act : goal.returns-in-Act
returns-in-Act c =
    on_ok_weaker c.ask_act.result
    (λ t.
    subst (λ (s : Stage). AsksStage c.args.globals.now c.args.spreads.now c.args.code.now c.args.registers.now c.args.caller c.args.number s
    (slice_get c.args.planned.now.stages c.args.number)
    c.args.wires.now.signals c.ask_act.new.wires.signals c.args.requests.now c.ask_act.new.requests) (sym c.in-Act.is)
    (t c.args.globals.now c.args.spreads.now c.in-Act.next (slice_get c.args.planned.now.stages c.args.number)))
    c.ask_act.ensures
