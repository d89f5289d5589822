-- The law of requests at one act.
use Rattle.std.specs.Prelude.{ℕ, ℤ}
use Rattle.c_program.specs.Tree.{Program}
use Rattle.c_program.specs.Resolved.{IsResolved}
use Rattle.thread_semantics.specs.State.{State}
use Rattle.block_ir.specs.declared.code.Act.{Act as CodeAct}
use Rattle.interleaving.specs.Memory.{Memory}
use Rattle.block_ir.specs.Asked.{Asked, Numbers}
use Rattle.law_threads.specs.Cores.{Core}
use Rattle.block_refine.specs.Routines.{Codes}
use Rattle.block_refine.specs.RoutineActs.{ActsAreSteps}
use Rattle.law_threads.specs.Requests.{AreNumbers, StandsAtAct, Serves}

abbrev pub RequestIsStep : CodeAct → Type 0
RequestIsStep a =
    (P : Program) (codes : Codes) (N : Numbers) (T : ℕ) → IsResolved P → AreNumbers P N T → ActsAreSteps →
    (s : State) (i f l next : ℕ) (variables : ℕ → ℤ) (arrays : Memory ℤ) (ask : Asked) (c : ℕ → Core) →
    StandsAtAct P codes N T s i f l next variables arrays a ask c → Serves P codes N T s i f next variables arrays a ask c
