-- What merging keeps.
use Rattle.std.specs.Prelude.{◌≡◌, ℕ, ◌≤◌, List, length}
use Rattle.c_program.specs.Tree.{Program}
use Rattle.block_ir.specs.declared.code.Stage.{Stage}
use Rattle.block_ir.specs.declared.code.ThreadCode.{ThreadCode}
use Rattle.code_following.specs.Following.{IsLowered}
use Rattle.code_following.specs.Idle.{idle_count}
use Rattle.code_following.specs.Typed.{most_operations, IsTypedCode}

-- the code with these stages
abbrev pub with_stages : ThreadCode → List Stage → ThreadCode
with_stages code stages = record code { stages = stages }

-- new code is typed, and lowered, where the old one is, for the programs that may have so many operations in a block of it; it has
-- as many blocks without steps
abbrev pub Keeps : ℕ → ℕ → List Stage → List Stage → Type 0
Keeps most size old new = (P : Program) (f : ℕ) (code : ThreadCode) → most ≤ most_operations P old → length code.variables ≡ size →
    IsTypedCode P f (with_stages code old) →
    IsTypedCode P f (with_stages code new) × (IsLowered P f (with_stages code old) → IsLowered P f (with_stages code new)) × (idle_count new ≡ idle_count old)
