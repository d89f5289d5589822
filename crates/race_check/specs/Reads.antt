-- What the parts of a step read, behind what was touched before.
use Rattle.std.specs.Prelude.{◌≡◌, ◌++◌, ℕ, List, map}
use Rattle.c_program.specs.Tree.{Expression}
use Rattle.thread_semantics.specs.Memory.{Memory, Evaluation, Gives, Fails, and_then}
use Rattle.thread_semantics.specs.Value.{value, checked_index, load}
use Rattle.thread_semantics.specs.Work.{Work}
use Rattle.thread_semantics.specs.State.{Frame}
use Rattle.thread_semantics.specs.Move.{Target, Move, Moves, Acts, Ends, Faults, Impossible}
use Rattle.thread_semantics.specs.Races.{Touch, read_of}

-- the outer calls of a thread
abbrev pub Callers : Type 0
Callers = List Frame

abbrev pub Works : Type 0
Works = List Work

abbrev pub Touches : Type 0
Touches = List Touch

-- an index into an array of that length
abbrev pub index_in : Memory → ℕ → Expression → Evaluation ℕ
index_in m n index = and_then (value index m) (λ i. checked_index n i)

-- the reads of a part that has a value; of one that is undefined nothing is said
abbrev pub Adds : {A : Type 0} → Evaluation A → List Touch → List Touch → Type 0
Adds (Gives value reads) before after = after ≡ before ++ map read_of reads
Adds (Fails cause) before after = Unit {0}

-- the old value of a place, where the place is defined
abbrev pub LoadAdds : Evaluation Target → Memory → List Touch → List Touch → Type 0
LoadAdds (Gives t reads) m before after = Adds (load m t.storage t.variable t.index) before after
LoadAdds (Fails cause) m before after = Unit {0}

-- the reads of a move that touches data
abbrev pub MoveAdds : Move → List Touch → List Touch → Type 0
MoveAdds (Moves frames reads write) before after = after ≡ before ++ map read_of reads
MoveAdds (Acts offset act operands frames) before after = Unit {0}
MoveAdds (Ends offset reads) before after = after ≡ before ++ map read_of reads
MoveAdds (Faults offset cause) before after = Unit {0}
MoveAdds Impossible before after = Unit {0}
