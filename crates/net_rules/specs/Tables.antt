-- Tables whose keys refer to names, as lists.
use Rattle.std.specs.Prelude.{ℕ, Bool, List, [], ◌∷◌, ◌++◌, Option, Some, None, is_some, if◌then◌else◌}
use Rattle.std.specs.Str.{bytes_eq}
use denote.Bor.{Bor}
use Rattle.verilog_tree.specs.declared.tree.Port.{Port}
use Rattle.verilog_tree.specs.Scope.{Name}
use Rattle.verilog_tree.specs.Facts.{after}

-- an entry of a table
abbrev pub plain : {A : Type 0} → Bor (List ℕ) × A → List ℕ × A
plain e = (e.0.now, e.1)

-- an entry of a table of ports
abbrev pub plain_port : Bor (List ℕ) × Bor Port → Name × Port
plain_port e = (e.0.now, e.1.now)

-- what stands at a name
abbrev pub named : {A : Type 0} → List (Name × A) → Name → Option A
named [] name = None
named (d ∷ ds) name = if bytes_eq name d.0 then Some d.1 else named ds name

abbrev pub is_named : {A : Type 0} → List (Name × A) → Name → Bool
is_named ds name = is_some (named ds name)

-- a port, unless its name is there
abbrev pub with_port : List (Name × Port) → Port → List (Name × Port)
with_port ds p = if is_named ds p.name then ds else ds ++ (p.name, p) ∷ []

abbrev pub with_ports : List (Name × Port) → List Port → List (Name × Port)
with_ports = after with_port

-- the first port of each name
abbrev pub table_of : List Port → List (Name × Port)
table_of = with_ports []
