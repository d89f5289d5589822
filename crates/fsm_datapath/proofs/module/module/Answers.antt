use Rattle.operator_wires.proofs.MadeWords.{of_ok}
use Rattle.thread_layout.specs.Modules.{IsModule}
use Rattle.fsm_datapath.specs.Runs.{ServesCode}
use Rattle.fsm_datapath.proofs.ServedCode.{serves_code}
use Rattle.fsm_datapath.specs.Routine.{IsRoutineOfServedCode}
use Rattle.fsm_datapath.specs.SoundLeaf.{IsLeafOfServedCode}
use Rattle.fsm_datapath.proofs.ModuleStands.{routine_is}
use Rattle.fsm_datapath.proofs.ModuleForm.{checked_is}
use Rattle.fsm_datapath.proofs.CheckedLeaf.{leaf_is}
use Rattle.fsm_datapath.specs.Naming.{NamesServedVariables}
use Rattle.fsm_datapath.proofs.VariableNames.{variables_named}
use Rattle.fsm_datapath.specs.Steady.{IsSteadyServedCode}
use Rattle.fsm_datapath.proofs.SteadyModule.{steady_is}
use Rattle.fsm_datapath.proofs.module.module.Goals as goal

pub returns-clause-serves : goal.returns-clause-serves
returns-clause-serves c =
    of_ok c.assembled.result (IsModule c.args.shape.now c.args.code.now c.args.planned.now) (ServesCode c.args.shape.now c.args.code.now c.args.planned.now)
    (λ m t served routine. serves_code c.args.shape.now c.args.code.now c.args.planned.now m t served routine) c.assembled.ensures

pub returns-clause-leaf : goal.returns-clause-leaf
returns-clause-leaf c =
    of_ok c.assembled.result (IsModule c.args.shape.now c.args.code.now c.args.planned.now) (IsLeafOfServedCode c.args.shape.now c.args.code.now c.args.planned.now)
    (λ m t served. leaf_is c.args.shape.now c.args.code.now c.args.planned.now m t served
    (checked_is c.args.shape.now c.args.code.now c.args.planned.now m t served)) c.assembled.ensures

pub returns-clause-routine : goal.returns-clause-routine
returns-clause-routine c =
    of_ok c.assembled.result (IsModule c.args.shape.now c.args.code.now c.args.planned.now) (IsRoutineOfServedCode c.args.shape.now c.args.code.now c.args.planned.now)
    (λ m t plain served. routine_is c.args.shape.now c.args.code.now c.args.planned.now m t served plain
    (leaf_is c.args.shape.now c.args.code.now c.args.planned.now m t served (checked_is c.args.shape.now c.args.code.now c.args.planned.now m t served))) c.assembled.ensures

pub returns-clause-named : goal.returns-clause-named
returns-clause-named c =
    of_ok c.assembled.result (IsModule c.args.shape.now c.args.code.now c.args.planned.now) (NamesServedVariables c.args.shape.now c.args.code.now c.args.planned.now)
    (λ m t served. variables_named c.args.shape.now c.args.code.now c.args.planned.now m t served) c.assembled.ensures

pub returns-clause-steady : goal.returns-clause-steady
returns-clause-steady c =
    of_ok c.assembled.result (IsModule c.args.shape.now c.args.code.now c.args.planned.now) (IsSteadyServedCode c.args.shape.now c.args.code.now c.args.planned.now)
    (λ m t served. steady_is c.args.shape.now c.args.code.now c.args.planned.now m t served) c.assembled.ensures
