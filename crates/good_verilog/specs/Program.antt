-- What is seen of a C program: where lists of thread numbers lead it, what it has printed, whether it is ended or
-- deadlocked, and the words of its integer globals.
use Rattle.std.specs.Prelude.{◌≡◌, ℕ, List, ℤ, Some, slice_get, true}
use Rattle.hls_ints.specs.Types.{width_of}
use Rattle.hls_ints.specs.Residues.{residue_of}
use Rattle.c_program.specs.Tree.{GlobalVariable, Program}
use Rattle.c_program.specs.Weight.{bound}
use Rattle.thread_semantics.specs.Memory.{element}
use Rattle.thread_semantics.specs.State.{State}
use Rattle.thread_semantics.specs.Step.{Steps, after, IsDeadlocked}
use Rattle.verilog_meaning.specs.Follows as net

-- in the state element j of the integer global of this name, of a type of this width, has these bits
pub record HasBits (P : Program) (s : State) (name : List ℕ) (j width word : ℕ) : Type 0 where
  pub number : ℕ
  pub global : GlobalVariable
  pub declared : slice_get P.globals number ≡ Some global
  pub named : global.name ≡ name
  pub value : ℤ
  pub has : element s.globals number j ≡ Some value
  pub wide : width ≡ width_of global.ty
  pub bits : word ≡ residue_of width value

abbrev pub seen_of : Program → net.Program State
seen_of P = record {
  After = λ steps s. after P steps ≡ Steps s;
  output = λ s. s.output;
  IsEnded = λ s. s.ended ≡ true;
  IsDeadlocked = IsDeadlocked P;
  Holds = HasBits P;
  bound = bound P;
}
