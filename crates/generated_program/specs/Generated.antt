-- The program that a generated text is, places in the text and names aside.
use Rattle.std.specs.Prelude.{◌≡◌, ℕ, false, List, [], ◌∷◌, Some}
use Rattle.hls_ints.specs.Types.{unsigned_int}
use Rattle.generated_text.specs.declared.draws.Line.{Line}
use Rattle.c_program.specs.Tree.{Function, GlobalVariable, Program}
use Rattle.generated_program.specs.Worker.{IsWorker}
use Rattle.generated_program.specs.Main.{IsMain}

-- so many unsigned numbers, none of them given a value
pub record IsUnsigned (length : ℕ) (g : GlobalVariable) : Type 0 where
  pub ty : g.ty ≡ unsigned_int
  pub length_is : g.length ≡ length
  pub initial : g.initial ≡ []

-- The worker is function 0 and main function 1; s is global 0 and g global 1; t has a thread id for each worker, m is
-- initialised by main.
pub record IsGenerated (threads : ℕ) (lines : List Line) (P : Program) : Type 0 where
  pub worker : Function
  pub main : Function
  pub functions : P.functions ≡ worker ∷ main ∷ []
  pub main_number : P.main ≡ 1
  pub is_worker : IsWorker threads lines worker
  pub is_main : IsMain threads main
  pub sum : GlobalVariable
  pub elements : GlobalVariable
  pub globals : P.globals ≡ sum ∷ elements ∷ []
  pub is_sum : IsUnsigned 1 sum
  pub are_elements : IsUnsigned threads elements
  pub thread_ids : P.threads ≡ record { length = threads; routine = Some 0 } ∷ []
  pub mutexes : P.mutexes ≡ record { length = 1; initialised = false } ∷ []
  pub barriers : P.barriers ≡ []
