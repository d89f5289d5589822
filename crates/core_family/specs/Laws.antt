-- What holds of each core of the family.
use Rattle.std.specs.Prelude.{◌≡◌, ◌≢◌, ℕ, ◌^◌, ◌<◌, List, [], ◌∷◌, ◌++◌, length, slice_index, Option, Some}
use Rattle.netlist.specs.declared.netlist.Module.{Module}
use Rattle.circuit.specs.Rows.{EachOf}
use Rattle.circuit.specs.Turns.{WaitsForAsks}
use Rattle.leaf_machine.specs.Standing.{IsSilent}
use Rattle.printer_cores.specs.declared.printer.Shape.{Shape as PrinterShape}
use Rattle.core_family.specs.Family.{CoreKind, Bank, Barrier, ThreadIds, Printer, machine_of, places_of, machine_at, port_of, ask_width, told_width, IsCoreModule}

-- WHO ASKS NOTHING WAITS: every reading shows a state, and nothing is offered to whom the first part of an ask is 0
abbrev pub EachWaits : Type 0
EachWaits = (o : Option CoreKind) → WaitsForAsks (machine_of o) (places_of o)

-- PORTS FIT: a thread has a port for each part of an ask, and for each number that the core tells it, as wide as that
pub record PortsFit (s : CoreKind) : Type 0 where
  pub asks : (machine_of (Some s)).parts ≡ length (port_of s).asks
  pub told : (machine_of (Some s)).told ≡ length (port_of s).told
  pub widths : (j : ℕ) → j < length (port_of s).told → told_width (Some s) j ≡ slice_index (port_of s).told j

abbrev pub EachFits : Type 0
EachFits = (s : CoreKind) → PortsFit s

abbrev pub IsNoPrinter : CoreKind → Type 0
IsNoPrinter s = (p : PrinterShape) → s ≢ Printer p

-- THE PRINTER ALONE PRINTS: where it is the last of the cores, no other prints, nor does the module of another one write
abbrev pub LastPrints : Type 0
LastPrints =
    (cores : List CoreKind) (p : PrinterShape) → EachOf IsNoPrinter cores → (k : ℕ) → k ≢ length cores →
    (s : (machine_at (cores ++ Printer p ∷ []) k).State) (i : ℕ) (a : (machine_at (cores ++ Printer p ∷ []) k).Ask) →
    (machine_at (cores ++ Printer p ∷ []) k).prints s i a ≡ []

abbrev pub OthersAreSilent : Type 0
OthersAreSilent = (threads : ℕ) (s : CoreKind) (m : Module) → IsCoreModule threads s m → IsNoPrinter s → EachOf IsSilent m.actions

-- ---- what is told

-- the numbers of a state that a core tells, or may tell later, fit the port
abbrev pub FitsState : (o : Option CoreKind) → (machine_of o).State → Type 0
FitsState (Some (Bank b)) s = ((k : ℕ) → slice_index s.words k < 2 ^ b.width) × ((i : ℕ) → slice_index s.kept i < 2 ^ b.width)
FitsState (Some (Barrier b)) s = (i : ℕ) → slice_index s.waiting i < 2
FitsState (Some (ThreadIds b)) s = (i : ℕ) → slice_index s.arguments i < 2 ^ 64
FitsState _ s = Unit {0}

-- the first words of a bank do
abbrev pub FitsFirst : Option CoreKind → Type 0
FitsFirst (Some (Bank b)) = EachOf (λ n. n < 2 ^ b.width) b.initial
FitsFirst _ = Unit {0}

-- WHAT IS TOLD FITS: so it is at the start, after a grant of a request whose parts fit their ports, and a state of such numbers tells what fits
pub record KeepsFitting (o : Option CoreKind) : Type 0 where
  pub starts : FitsFirst o → FitsState o (machine_of o).start
  pub acts : (s : (machine_of o).State) → FitsState o s → (i : ℕ) (f : ℕ → ℕ) → ((j : ℕ) → j < (machine_of o).parts → f j < 2 ^ ask_width o j) →
      FitsState o ((machine_of o).act s i ((machine_of o).ask_of f))
  pub tells : (s : (machine_of o).State) → FitsState o s → (i j : ℕ) → j < (machine_of o).told → (machine_of o).tells s i j < 2 ^ told_width o j

abbrev pub EachKeepsFitting : Type 0
EachKeepsFitting = (o : Option CoreKind) → KeepsFitting o
