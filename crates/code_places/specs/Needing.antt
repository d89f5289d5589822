-- What code in the making needs, where it is too large.
use Rattle.std.specs.Prelude.{◌≡◌, ℕ, ◌+◌, ◌*◌, ◌<◌, true, List, length, Option, Contains}
use Rattle.c_program.specs.Tree.{Expression, Statement, Function, Program}
use Rattle.c_program.specs.Calls.{calls_of, IsAcyclic}
use Rattle.c_program.specs.Weight.{arguments_weight, function_weight}
use Rattle.c_program.specs.Resolved.{IsCondition, IsKeptCall}
use Rattle.code_following.specs.Following.{print_formats}
use Rattle.code_blocks.specs.declared.fault.LoweringFault.{LoweringFault}
use Rattle.code_places.specs.declared.lowering.Lowering.{Lowering}
use Rattle.code_blocks.specs.Typing.{Typing, Fits}
use Rattle.code_places.specs.Weighing.{inlined_weight}
use Rattle.code_places.specs.Seats.{IsSeatedTyping}
use Rattle.code_places.specs.Apart.{IsTypedNow, IsGood}
use Rattle.code_places.specs.Doing.{SuitsTyping}
use Rattle.code_blocks.specs.Room.{IsFull}

-- behind typed code of statements that weigh w, code of a condition, and more
abbrev pub IsFullAt : Statement → ℕ → Lowering → LoweringFault → Type 0
IsFullAt d more c fault =
    (S : Typing) (w size : ℕ) → Fits S c.homes → IsCondition S.program S.function d → IsGood size c → IsTypedNow S w c →
    IsFull (5 * (w + (inlined_weight S.program d + 1)) + more) fault

-- calls from a function are less than so deep
abbrev pub IsDeep : Program → Function → ℕ → Type 0
IsDeep P f depth = (acyclic : IsAcyclic P.functions) (g : ℕ) → Contains (calls_of f.body) g → acyclic.rank g < depth

-- what code of statements that weigh w needs at most, in a function with so many variables
abbrev pub needed : Typing → ℕ → ℕ → ℕ
needed S size w = 16 * w + size + length (print_formats S.program)

-- the same of a statement in which calls are less than so deep
abbrev pub IsFullFor : Program → ℕ → Statement → Lowering → LoweringFault → Type 0
IsFullFor P depth s c fault =
    (S : Typing) (w size : ℕ) → SuitsTyping P S size s c → IsDeep S.program S.function depth →
    IsTypedNow S w c → IsFull (needed S size (w + inlined_weight S.program s)) fault

-- the same of a call of the function g in the function that is lowered
abbrev pub IsFullCall : Program → ℕ → Option ℕ → ℕ → List Expression → Lowering → LoweringFault → Type 0
IsFullCall P depth into g es c fault =
    (S : Typing) (w size : ℕ) → IsSeatedTyping P S size c → IsDeep S.program S.function depth → Fits S c.homes → IsGood size c →
    IsKeptCall S.program S.function into g es → Contains (calls_of S.function.body) g → IsTypedNow S w c →
    IsFull (needed S size (w + (arguments_weight es + function_weight S.program.functions g))) fault
