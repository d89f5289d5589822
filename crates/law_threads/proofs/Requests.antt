-- Requests are steps, act by act.
use Rattle.std.specs.Prelude.{ℤ}
use Rattle.std.proofs.Common.{ℕ}
use Rattle.c_program.specs.Tree.{Program}
use Rattle.c_program.specs.Resolved.{IsResolved}
use Rattle.thread_semantics.specs.State.{State}
use Rattle.interleaving.specs.Memory.{Memory}
use Rattle.block_ir.specs.declared.code.Act.{Act as CodeAct}
use Rattle.block_ir.specs.declared.code.Act.TheVariants as act
use Rattle.block_ir.specs.Asked.{Asked, Numbers}
use Rattle.law_threads.specs.Cores.{Core}
use Rattle.block_refine.specs.Routines.{Codes}
use Rattle.law_threads.specs.Requests.{AreNumbers, StandsAtAct, Serves}
use Rattle.block_refine.proofs.RoutineActs.{acts_are_steps}
use Rattle.law_threads.specs.ActLaws.{AllRequestsAreSteps}
use Rattle.law_threads.proofs.LockSteps.{locks_are_steps}
use Rattle.law_threads.proofs.Creates.{creates_are_steps}
use Rattle.law_threads.proofs.BarrierWaits.{waits_are_steps}
use Rattle.law_threads.proofs.Mutexes.{inits_are_steps, destroys_are_steps, unlocks_are_steps}
use Rattle.law_threads.proofs.Barriers.{barrier_inits_are_steps, barrier_destroys_are_steps}
use Rattle.law_threads.proofs.Joins.{joins_are_steps}
use Rattle.law_threads.proofs.Finishes.{finishes_are_steps}
use Rattle.law_threads.proofs.Prints.{prints_are_steps}

module _ (P : Program) (codes : Codes) (N : Numbers) (T : ℕ) (R : IsResolved P) (numbers : AreNumbers P N T) where
  each : (a : CodeAct) (s : State) (i f l next : ℕ) (variables : ℕ → ℤ) (arrays : Memory ℤ) (ask : Asked) (c : ℕ → Core) →
      StandsAtAct P codes N T s i f l next variables arrays a ask c → Serves P codes N T s i f next variables arrays a ask c
  each (act.Print site values) = prints_are_steps site values P codes N T R numbers acts_are_steps
  each (act.Create thread argument) = creates_are_steps thread argument P codes N T R numbers acts_are_steps
  each (act.Join thread) = joins_are_steps thread P codes N T R numbers acts_are_steps
  each (act.MutexInit m) = inits_are_steps m P codes N T R numbers acts_are_steps
  each (act.MutexDestroy m) = destroys_are_steps m P codes N T R numbers acts_are_steps
  each (act.MutexLock m) = locks_are_steps m P codes N T R numbers acts_are_steps
  each (act.MutexUnlock m) = unlocks_are_steps m P codes N T R numbers acts_are_steps
  each (act.BarrierInit m o) = barrier_inits_are_steps m o P codes N T R numbers acts_are_steps
  each (act.BarrierDestroy m) = barrier_destroys_are_steps m P codes N T R numbers acts_are_steps
  each (act.BarrierWait m) = waits_are_steps m P codes N T R numbers acts_are_steps
  each act.Return = finishes_are_steps P codes N T R numbers acts_are_steps

-- ALL REQUESTS ARE STEPS
pub all_are_steps : AllRequestsAreSteps
all_are_steps P codes N T R numbers s i f l next variables arrays a ask c at = each P codes N T R numbers a s i f l next variables arrays ask c at
