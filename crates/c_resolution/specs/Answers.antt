-- What is answered for a tree, by what the tree is.
use Rattle.std.specs.Prelude.{◌≡◌, Result, Ok, Err}
use Rattle.c_program.specs.declared.tree.Program as code
use Rattle.c_program.specs.Tree.{Program}
use Rattle.c_program.specs.Plain.{program_of}
use Rattle.c_rules.specs.declared.fault.Fault.{Fault}
use Rattle.c_rules.specs.declared.fault.ResolveError.{ResolveError}
use Rattle.c_rules.specs.declared.fault.ResolveError.TheVariants.{Broken, NoMain, Memory}

-- this program, but for want of memory
abbrev pub ResolvesOnly : Program → Result code.Program ResolveError → Type 0
ResolvesOnly P (Ok p) = program_of p ≡ P
ResolvesOnly P (Err (Broken f)) = ⊥
ResolvesOnly P (Err NoMain) = ⊥
ResolvesOnly P (Err Memory) = Unit {0}

-- this fault, but for want of memory
abbrev pub BreaksOnly : Fault → Result code.Program ResolveError → Type 0
BreaksOnly f (Ok p) = ⊥
BreaksOnly f (Err (Broken g)) = g ≡ f
BreaksOnly f (Err NoMain) = ⊥
BreaksOnly f (Err Memory) = Unit {0}

-- that there is no main, but for want of memory
abbrev pub LacksMainOnly : Result code.Program ResolveError → Type 0
LacksMainOnly (Ok p) = ⊥
LacksMainOnly (Err (Broken f)) = ⊥
LacksMainOnly (Err NoMain) = Unit {0}
LacksMainOnly (Err Memory) = Unit {0}
