-- That each request of an act is a step of the program.
use Rattle.std.specs.Prelude.{ℕ}
use Rattle.c_program.specs.Tree.{Program}
use Rattle.c_program.specs.Resolved.{IsResolved}
use Rattle.block_ir.specs.Asked.{Numbers}
use Rattle.block_refine.specs.Routines.{Codes}
use Rattle.law_threads.specs.Requests.{AreNumbers, RequestsAreSteps}

-- ALL REQUESTS ARE STEPS, whatever the codes of the program's functions are
abbrev pub AllRequestsAreSteps : Type 0
AllRequestsAreSteps = (P : Program) (codes : Codes) (N : Numbers) (T : ℕ) → IsResolved P → AreNumbers P N T → RequestsAreSteps P codes N T
