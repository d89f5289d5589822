-- Where code in the making is too large.
use Rattle.std.specs.Prelude.{◌≡◌, ℕ, ◌^◌, ◌≤◌}
use Rattle.code_blocks.specs.declared.fault.LoweringFault.{LoweringFault}
use Rattle.code_blocks.specs.declared.fault.LoweringFault.TheVariants.{TooLarge}

-- it is too large only where what is needed, of operations, steps, variables or numbers of printf calls, is more than a u32 counts
abbrev pub IsFull : ℕ → LoweringFault → Type 0
IsFull needed fault = fault ≡ TooLarge → 2 ^ 32 ≤ needed
