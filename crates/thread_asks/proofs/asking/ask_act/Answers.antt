use Rattle.std.proofs.Common.{◌≡◌, ℕ, List, [], ◌∷◌, Option, Some, refl, sym, ap, subst, ◌∙◌}
use Rattle.std.specs.Prelude.{Result, OnOk}
use Rattle.std.proofs.lemmas.Result.{on_ok_weaker}
use Rattle.hls_ints.specs.Types.{IntegerType}
use Rattle.bank_partition.specs.declared.banks.Spread.{Spread}
use Rattle.block_ir.specs.Asked.{request_of}
use Rattle.block_ir.specs.declared.service.Service.{Service}
use Rattle.block_ir.specs.declared.service.Service.TheVariants.{Mutex, Barrier, ThreadIds, Printer}
use Rattle.block_ir.specs.declared.code.Act.{Act}
use Rattle.block_ir.specs.declared.code.Act.TheVariants as act_taken
use Rattle.block_ir.specs.declared.code.ActOperand.{ActOperand}
use Rattle.block_ir.specs.declared.code.Stage.TheVariants as stage
use Rattle.block_ir.specs.declared.code.ThreadCode.{ThreadCode}
use Rattle.block_ir.specs.declared.plan.StagePlan.{StagePlan}
use Rattle.netlist.specs.declared.netlist.Signal.{Signal}
use Rattle.block_datapath.specs.declared.registers.Registers.{Registers}
use Rattle.thread_slots.specs.declared.requests.Request.{Request}
use Rattle.thread_slots.specs.declared.requests.Requests.{Requests}
use Rattle.thread_slots.specs.Requests.{group}
use Rattle.thread_slots.specs.Services.{number_width}
use Rattle.thread_asks.specs.declared.asking.Caller.{Caller}
use Rattle.thread_asks.specs.Asking.{is_asked, call_of, object_of, values_of, Calls, CallsAt, AsksStage}
use Rattle.thread_asks.proofs.Asks.{put_group, group_put, banks_put, others_put, call_stage, nothing_stage}
use Rattle.thread_asks.proofs.asking.ask_act.Goals as goal

module _ {A E : Type 0} (x : Result A E) (code : ThreadCode) (registers : Registers) (caller : Caller) (l : ℕ) (act : Act) (a d : List Signal) (before : Requests)
    (s : Service) (number : ℕ) (operands : List ActOperand) (own : Request) where
  by_table : request_of caller.is_main act ≡ Some (call_of s number operands)
      → OnOk x (CallsAt code registers l (number_width caller.served s) number (object_of s operands) (values_of s operands) a d (group before s) own)
      → OnOk x ((globals : List IntegerType) (spreads : List Spread) (next : ℕ) (plan : Option StagePlan) →
      AsksStage globals spreads code registers caller l (stage.Act act next) plan a d before (put_group s before own))
  by_table is t =
      on_ok_weaker x (λ k globals spreads next plan.
      call_stage globals spreads code registers caller l act next plan (call_of s number operands) is before (put_group s before own) a k.with_at d k.at k.told k.told_wired
      (subst (λ (q : Request). Calls code registers (number_width caller.served s) k.at number (object_of s operands) (values_of s operands) k.with_at d (group before s) q)
      (sym (group_put s before own)) k.calls)
      (others_put s before own) (banks_put s before own))
      t

pub returns-in-Print : goal.returns-in-Print
returns-in-Print c =
    let values = c.as_slice-values.result.now in
    by_table c.call.result c.args.code.now c.args.registers.now c.args.caller c.args.stage c.args.act.now c.args.wires.now.signals c.call.new.wires.signals c.args.requests.now
    Printer c.in-Print.site values c.call.new.request (ap (request_of c.args.caller.is_main) c.in-Print.is ∙ ap (λ (vs : List ActOperand). Some (call_of Printer c.in-Print.site vs)) (sym c.as_slice-values.ensures)) c.call.ensures

pub returns-in-Create : goal.returns-in-Create
returns-in-Create c =
    by_table c.call-in-Create.result c.args.code.now c.args.registers.now c.args.caller c.args.stage c.args.act.now c.args.wires.now.signals c.call-in-Create.new.wires.signals c.args.requests.now
    ThreadIds 0 (c.in-Create.thread ∷ c.in-Create.argument ∷ []) c.call-in-Create.new.request (ap (request_of c.args.caller.is_main) c.in-Create.is) c.call-in-Create.ensures

pub returns-in-Join : goal.returns-in-Join
returns-in-Join c =
    by_table c.call-in-Join.result c.args.code.now c.args.registers.now c.args.caller c.args.stage c.args.act.now c.args.wires.now.signals c.call-in-Join.new.wires.signals c.args.requests.now
    ThreadIds 1 (c.in-Join.thread ∷ []) c.call-in-Join.new.request (ap (request_of c.args.caller.is_main) c.in-Join.is) c.call-in-Join.ensures

pub returns-in-MutexInit : goal.returns-in-MutexInit
returns-in-MutexInit c =
    by_table c.call-in-MutexInit.result c.args.code.now c.args.registers.now c.args.caller c.args.stage c.args.act.now c.args.wires.now.signals c.call-in-MutexInit.new.wires.signals c.args.requests.now
    Mutex 0 (c.in-MutexInit.mutex ∷ []) c.call-in-MutexInit.new.request (ap (request_of c.args.caller.is_main) c.in-MutexInit.is) c.call-in-MutexInit.ensures

pub returns-in-MutexLock : goal.returns-in-MutexLock
returns-in-MutexLock c =
    by_table c.call-in-MutexLock.result c.args.code.now c.args.registers.now c.args.caller c.args.stage c.args.act.now c.args.wires.now.signals c.call-in-MutexLock.new.wires.signals c.args.requests.now
    Mutex 1 (c.in-MutexLock.mutex ∷ []) c.call-in-MutexLock.new.request (ap (request_of c.args.caller.is_main) c.in-MutexLock.is) c.call-in-MutexLock.ensures

pub returns-in-MutexUnlock : goal.returns-in-MutexUnlock
returns-in-MutexUnlock c =
    by_table c.call-in-MutexUnlock.result c.args.code.now c.args.registers.now c.args.caller c.args.stage c.args.act.now c.args.wires.now.signals c.call-in-MutexUnlock.new.wires.signals c.args.requests.now
    Mutex 2 (c.in-MutexUnlock.mutex ∷ []) c.call-in-MutexUnlock.new.request (ap (request_of c.args.caller.is_main) c.in-MutexUnlock.is) c.call-in-MutexUnlock.ensures

pub returns-in-MutexDestroy : goal.returns-in-MutexDestroy
returns-in-MutexDestroy c =
    by_table c.call-in-MutexDestroy.result c.args.code.now c.args.registers.now c.args.caller c.args.stage c.args.act.now c.args.wires.now.signals c.call-in-MutexDestroy.new.wires.signals c.args.requests.now
    Mutex 3 (c.in-MutexDestroy.mutex ∷ []) c.call-in-MutexDestroy.new.request (ap (request_of c.args.caller.is_main) c.in-MutexDestroy.is) c.call-in-MutexDestroy.ensures

pub returns-in-BarrierInit : goal.returns-in-BarrierInit
returns-in-BarrierInit c =
    by_table c.call-in-BarrierInit.result c.args.code.now c.args.registers.now c.args.caller c.args.stage c.args.act.now c.args.wires.now.signals c.call-in-BarrierInit.new.wires.signals c.args.requests.now
    Barrier 0 (c.in-BarrierInit.barrier ∷ c.in-BarrierInit.count ∷ []) c.call-in-BarrierInit.new.request (ap (request_of c.args.caller.is_main) c.in-BarrierInit.is) c.call-in-BarrierInit.ensures

pub returns-in-BarrierWait : goal.returns-in-BarrierWait
returns-in-BarrierWait c =
    by_table c.call-in-BarrierWait.result c.args.code.now c.args.registers.now c.args.caller c.args.stage c.args.act.now c.args.wires.now.signals c.call-in-BarrierWait.new.wires.signals c.args.requests.now
    Barrier 1 (c.in-BarrierWait.barrier ∷ []) c.call-in-BarrierWait.new.request (ap (request_of c.args.caller.is_main) c.in-BarrierWait.is) c.call-in-BarrierWait.ensures

pub returns-in-BarrierDestroy : goal.returns-in-BarrierDestroy
returns-in-BarrierDestroy c =
    by_table c.call-in-BarrierDestroy.result c.args.code.now c.args.registers.now c.args.caller c.args.stage c.args.act.now c.args.wires.now.signals c.call-in-BarrierDestroy.new.wires.signals c.args.requests.now
    Barrier 2 (c.in-BarrierDestroy.barrier ∷ []) c.call-in-BarrierDestroy.new.request (ap (request_of c.args.caller.is_main) c.in-BarrierDestroy.is) c.call-in-BarrierDestroy.ensures

pub returns-then-caller : goal.returns-then-caller
returns-then-caller c = λ globals spreads next plan.
    subst (λ (a : Act). AsksStage globals spreads c.args.code.now c.args.registers.now c.args.caller c.args.stage (stage.Act a next) plan c.args.wires.now.signals
    c.args.wires.now.signals c.args.requests.now c.args.requests.now) (sym c.in-Return.is)
    (nothing_stage globals spreads c.args.code.now c.args.registers.now c.args.caller c.args.stage (stage.Act act_taken.Return next) plan c.args.wires.now.signals
    c.args.requests.now c.args.requests.now refl (λ k. ap (λ b. is_asked b (Some (stage.Act act_taken.Return next)) k) c.if-caller.true) (λ b p e. absurd cc))

pub returns-else-caller : goal.returns-else-caller
returns-else-caller c =
    by_table c.call-else-caller.result c.args.code.now c.args.registers.now c.args.caller c.args.stage c.args.act.now c.args.wires.now.signals c.call-else-caller.new.wires.signals
    c.args.requests.now ThreadIds 2 [] c.call-else-caller.new.request
    (ap (request_of c.args.caller.is_main) c.in-Return.is ∙ ap (λ b. request_of b act_taken.Return) c.if-caller.false) c.call-else-caller.ensures
