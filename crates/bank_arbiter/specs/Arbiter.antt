-- The arbiter's module: its table of rows.
use Rattle.std.specs.Prelude.{◌≡◌, ℕ, ◌+◌, Bool, false, List, [], codes}
use Rattle.netlist.specs.declared.netlist.Module.{Module}
use Rattle.circuit.specs.declared.table.Row.{Row}
use Rattle.circuit.specs.Table.{place, laid}
use Rattle.circuit.specs.Fits as table
use Rattle.circuit.specs.Arbitration.{ArbiterPlaces}
use Rattle.bank_arbiter.specs.Rows as row

abbrev pub rows : List Row
rows = row.rows

module _ (n : ℕ) where
  -- where a row starts
  abbrev pub at : ℕ → ℕ
  at k = place n rows k

  abbrev pub grants : ℕ
  grants = at row.grants

  -- where the arbiter has its ports
  abbrev pub places : ArbiterPlaces
  places = record { preferred = at row.preference; ask = λ i. at row.asks + i; grant = λ i. grants + i }

  -- the clock, the preferred thread, and whether each thread asks
  abbrev pub inputs : ℕ
  inputs = place n rows (table.inputs rows)

  abbrev pub input_widths : List ℕ
  input_widths = table.input_widths rows n

  -- whether each is granted
  abbrev pub output_widths : List ℕ
  output_widths = table.output_widths rows n

-- no signal of an arbiter is later than another
abbrev pub never : ℕ → Bool
never x = false

-- a module of these rows and nothing else
pub record IsArbiter (n : ℕ) (m : Module) : Type 0 where
  pub named : m.name ≡ codes "arbiter"
  pub signals : m.signals ≡ laid n rows
  pub memories : m.memories ≡ []
  pub actions : m.actions ≡ []
  pub instances : m.instances ≡ []
