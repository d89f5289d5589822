-- Statements that are walked as they are asked.
use Rattle.std.proofs.Common.{◌≡◌, refl, ℕ, List}
use Rattle.std.specs.Prelude.{Bool, true, false, Option, Some, None}
use Rattle.c_program.specs.Tree.{Statement, ThreadCall}
use Rattle.lock_discipline.specs.Sets.{Sets}
use Rattle.lock_discipline.specs.Walk.{Walker, Passed, walk, walk_asked}

abbrev pub is_some : Option ℕ → Bool
is_some None = false
is_some (Some n) = true

-- a call whose value is used, a kept operand, a condition
abbrev pub is_asked : Statement → Bool
is_asked (Statement.Call offset into function arguments) = is_some into
is_asked (Statement.Keep offset slot ty operand) = true
is_asked (Statement.Truth slot condition) = true
is_asked (Statement.Test offset operand) = true
is_asked (Statement.Both first second) = true
is_asked (Statement.Either first second) = true
is_asked (Statement.Opposite condition) = true
is_asked statement = false

module _ (w : Walker) (inner : ℕ → List ThreadCall) (call : ℕ → Sets → Passed) (labels : Option Sets) (s : Sets) where
  pub asked_walk : (st : Statement) → is_asked st ≡ true → walk w inner call labels st s ≡ walk_asked w inner call st s
  asked_walk Statement.Done is = absurd cc
  asked_walk (Statement.Sequence first rest) is = absurd cc
  asked_walk Statement.Empty is = absurd cc
  asked_walk (Statement.Block body) is = absurd cc
  asked_walk (Statement.Declare offset local operators) is = absurd cc
  asked_walk (Statement.Assign offset place right) is = absurd cc
  asked_walk (Statement.Update offset place operator ty right) is = absurd cc
  asked_walk (Statement.Call offset None function arguments) is = absurd cc
  asked_walk (Statement.Call offset (Some slot) function arguments) is = refl
  asked_walk (Statement.Keep offset slot ty operand) is = refl
  asked_walk (Statement.Truth slot condition) is = refl
  asked_walk (Statement.Test offset operand) is = refl
  asked_walk (Statement.Both first second) is = refl
  asked_walk (Statement.Either first second) is = refl
  asked_walk (Statement.Opposite condition) is = refl
  asked_walk (Statement.If condition consequent alternative) is = absurd cc
  asked_walk (Statement.While condition body) is = absurd cc
  asked_walk (Statement.DoWhile body condition) is = absurd cc
  asked_walk (Statement.For first condition last body) is = absurd cc
  asked_walk (Statement.Switch offset ty operand body) is = absurd cc
  asked_walk (Statement.Label value operators) is = absurd cc
  asked_walk Statement.Break is = absurd cc
  asked_walk Statement.Continue is = absurd cc
  asked_walk (Statement.Return offset right) is = absurd cc
  asked_walk (Statement.Print offset format arguments) is = absurd cc
  asked_walk (Statement.Thread offset call) is = absurd cc
