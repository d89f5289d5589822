-- The printer's module: its table of rows and its $writes.
use Rattle.std.specs.Prelude.{◌≡◌, ℕ, ◌+◌, ◌*◌, ◌^◌, ◌<◌, ◌≤◌, List, [], ◌∷◌, length, codes}
use Rattle.netlist.specs.declared.netlist.Action.{Action}
use Rattle.netlist.specs.declared.netlist.Effect.TheVariants.{Write}
use Rattle.netlist.specs.declared.netlist.Module.{Module}
use Rattle.circuit.specs.declared.table.Row.{Row}
use Rattle.circuit.specs.Rows.{EachOf}
use Rattle.circuit.specs.Table.{place, laid}
use Rattle.printer_cores.specs.declared.format.Part.{Part}
use Rattle.printer_cores.specs.declared.printer.Shape.{Shape}
use Rattle.printer_cores.specs.Format.{spelled, arguments_of, IsSite}
use Rattle.printer_cores.specs.Rows as row

-- the table of a shape
abbrev pub table_of : Shape → List Row
table_of s = row.rows s.values (length s.sites)

-- where a row starts
abbrev pub at : Shape → ℕ → ℕ
at s k = place s.threads (table_of s) k

-- the first value of the granted thread, at the end of the chains
abbrev pub results : Shape → ℕ
results s = at s row.value + s.threads * s.values

-- a $write under a wire, with values from a place on
abbrev pub write : ℕ → ℕ → List Part → Action
write hit first parts = record { conditions = hit ∷ []; effect = Write (spelled parts) (arguments_of first parts) }

-- one for each site, from number k on
abbrev pub writes_from : ℕ → ℕ → ℕ → List (List Part) → List Action
writes_from wires first k [] = []
writes_from wires first k (parts ∷ rest) = write (wires + k) first parts ∷ writes_from wires first (k + 1) rest

pub record IsShape (s : Shape) : Type 0 where
  pub few : s.threads ≤ 64
  pub few_values : s.values < 256
  pub few_sites : length s.sites < 2 ^ 16
  pub sites : EachOf (IsSite s.values) s.sites

-- the module of a shape and nothing else
pub record IsPrinter (s : Shape) (m : Module) : Type 0 where
  pub named : m.name ≡ codes "printer"
  pub signals : m.signals ≡ laid s.threads (table_of s)
  pub memories : m.memories ≡ []
  pub actions : m.actions ≡ writes_from (at s row.hits) (results s) 0 s.sites
  pub instances : m.instances ≡ []
