-- Parts that are referred to, found by their names.
use Rattle.std.specs.Prelude.{List, [], ◌∷◌, map, Option, Some, None, if◌then◌else◌}
use Rattle.std.specs.Str.{bytes_eq}
use denote.Bor.{Bor}
use Rattle.verilog_tree.specs.declared.tree.Assign.{Assign}
use Rattle.verilog_tree.specs.declared.tree.Connection.{Connection}
use Rattle.netlist.specs.NetlistOf.{Name}

-- the first of a name
abbrev pub first_of : {A : Type 0} → (A → Name) → List A → Name → Option A
first_of name [] x = None
first_of name (a ∷ list) x = if bytes_eq x (name a) then Some a else first_of name list x

-- what references refer to
abbrev pub behind : {A : Type 0} → List (Bor A) → List A
behind {A} list = map (λ (b : Bor A). b.now) list

abbrev pub targets_of : List Assign → List Name
targets_of list = map (λ (a : Assign). a.target) list

abbrev pub ports_of : List Connection → List Name
ports_of list = map (λ (c : Connection). c.port) list
