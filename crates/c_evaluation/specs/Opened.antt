-- What becomes of work, as the code answers it: it is at an item that takes a step, or how it is gone through from there on.
use Rattle.std.specs.Prelude.{◌≡◌, Bool, true, false, List, Option, Some, None}
use Rattle.thread_semantics.specs.Work.{Work, Going, Onward, Leaving, Turning, settled}
use Rattle.c_evaluation.specs.declared.work.Going.{Going as GoingCode}
use Rattle.c_evaluation.specs.declared.work.Going.TheVariants as going

abbrev pub going_of : GoingCode → Going
going_of going.Onward = Onward
going_of going.Leaving = Leaving
going_of going.Turning = Turning

-- a part is opened before the work old: it leads to the work new, or old is still there and is gone through so
abbrev pub IsOpened : ((Going → List Work) → List Work) → List Work → List Work → Option GoingCode → Type 0
IsOpened opens old new None = (rest : Going → List Work) → opens rest ≡ new
IsOpened opens old new (Some g) = (new ≡ old) × ((rest : Going → List Work) → opens rest ≡ rest (going_of g))

-- work that is gone through so, whose items but the first are old
abbrev pub IsPassed : GoingCode → List Work → List Work → List Work → Option GoingCode → Type 0
IsPassed g work old new None = settled (going_of g) work ≡ new
IsPassed g work old new (Some next) = (new ≡ old) × (settled (going_of g) work ≡ settled (going_of next) old)

-- the work from a label on, if it is there
abbrev pub IsFound : Option (List Work) → List Work → List Work → Bool → Type 0
IsFound found old new true = found ≡ Some new
IsFound found old new false = (found ≡ None) × (new ≡ old)
