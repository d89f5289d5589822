-- The printer as a machine: a thread asks for a site with its values, and a grant writes them as the site says.
use Rattle.std.specs.Prelude.{ℕ, zero, suc, ◌+◌, ◌*◌, Bool, nat_lt, List, [], ◌∷◌, ◌++◌, Option, Some, None, slice_get, decimal}
use Rattle.std.specs.Fmt.{signed_decimal}
use Rattle.hls_ints.specs.Words.{signed_word}
use Rattle.circuit.specs.Rows.{spread}
use Rattle.circuit.specs.Fits as table
use Rattle.circuit.specs.Machines.{CoreMachine, CorePlaces}
use Rattle.printer_cores.specs.declared.format.Part.{Part}
use Rattle.printer_cores.specs.declared.format.Part.TheVariants.{Text, Unsigned, Signed}
use Rattle.printer_cores.specs.declared.printer.Shape.{Shape}
use Rattle.printer_cores.specs.Rows as row
use Rattle.printer_cores.specs.Printer.{table_of, at}

pub record Ask : Type 0 where
  pub asks : Bool
  pub site : ℕ
  pub values : List ℕ

-- what a site writes with these values, each a word of 64 bits: the minimal decimal of the value, or of the number that it
-- spells in two's complement
abbrev pub site_bytes : List Part → List ℕ → List ℕ
site_bytes [] vs = []
site_bytes (Text bytes ∷ parts) vs = bytes ++ site_bytes parts vs
site_bytes (Unsigned ∷ parts) [] = site_bytes parts []
site_bytes (Unsigned ∷ parts) (v ∷ vs) = decimal v ++ site_bytes parts vs
site_bytes (Signed ∷ parts) [] = site_bytes parts []
site_bytes (Signed ∷ parts) (v ∷ vs) = signed_decimal (signed_word 64 v) ++ site_bytes parts vs

abbrev pub bytes_of_site : Option (List Part) → List ℕ → List ℕ
bytes_of_site None vs = []
bytes_of_site (Some parts) vs = site_bytes parts vs

-- the numbers of an ask: whether it asks, the site, and then the values
abbrev pub ask_of : ℕ → (ℕ → ℕ) → Ask
ask_of values f = record { asks = nat_lt 0 (f 0); site = f 1; values = spread (λ j. f (suc (suc j))) 0 values }

abbrev pub printer_machine : Shape → CoreMachine
printer_machine shape = record {
  State = Unit {0};
  Ask = Ask;
  start = tt;
  parts = suc (suc shape.values);
  ask_of = ask_of shape.values;
  eligible = λ s i a. a.asks;
  act = λ s i a. s;
  prints = λ s i a. bytes_of_site (slice_get shape.sites a.site) a.values;
  told = 0;
  tells = λ s i j. 0;
}

-- where the module has its ports
abbrev pub part_place : Shape → ℕ → ℕ → ℕ
part_place shape zero i = at shape row.asks + i
part_place shape (suc zero) i = at shape row.sites + i
part_place shape (suc (suc j)) i = at shape row.values + (i * shape.values + j)

abbrev pub printer_places : (shape : Shape) → CorePlaces (printer_machine shape)
printer_places shape = record {
  shows = λ r s. Unit {0};
  ask = part_place shape;
  offer = λ i. at shape row.offers + i;
  grant = λ i. at shape row.grants + i;
  tell = λ j i. 0;
}

-- the input ports stand before this place: the clock, whether each thread asks, their sites, their values, and whether each is granted
abbrev pub inputs : Shape → ℕ
inputs shape = at shape (table.inputs (table_of shape))

abbrev pub input_widths : Shape → List ℕ
input_widths shape = table.input_widths (table_of shape) shape.threads

-- whether each may be granted
abbrev pub output_widths : Shape → List ℕ
output_widths shape = table.output_widths (table_of shape) shape.threads

-- the grants, and what follows from them
abbrev pub is_late : Shape → ℕ → Bool
is_late shape = table.is_late (table_of shape) shape.threads
