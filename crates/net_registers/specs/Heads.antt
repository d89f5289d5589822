-- The head of a value change dump (IEEE 1364-2005, 18.2), and what a list of registers says.
use Rattle.std.specs.Prelude.{◌≡◌, ℕ, ◌+◌, List, [], ◌∷◌, ◌++◌, map, length, decimal, codes, Some, slice_get}
use Rattle.std.specs.List.{All, AllByRecursion}
use Rattle.netlist.specs.declared.netlist.Signal.{Signal}
use Rattle.netlist.specs.declared.netlist.Module.{Module}
use Rattle.verilog_meaning.specs.Names.{top_of}
use Rattle.verilog_meaning.specs.Cycles.{Path, Valuation, IsAt, IsRegister, module_at}
use Rattle.sim_values.specs.declared.edge.Part.{Part}
use Rattle.sim_layout.specs.Running.{Running}
use Rattle.sim_values.specs.Stands.{word_of, spot_at}
use Rattle.vcd_text.specs.Dump.{id_of}
use Rattle.vcd_text.specs.Recover.{unlines, IsHeadLine}
use Rattle.net_registers.specs.declared.listing.Listing.{Listing}
use Rattle.net_registers.specs.Marks.{Register, Mark, Enter, Holds, Leave, own, own_mark, held, registers_of, AreMarks}

-- the lines of a head, without their line feeds: the beginning of a scope, the register of a number, the end of a scope
abbrev pub scope_line : List ℕ → List ℕ
scope_line name = codes "$scope module " ++ name ++ codes " $end"

abbrev pub register_line : ℕ → Signal → List ℕ
register_line number s = codes "$var reg " ++ decimal s.width ++ 32 ∷ id_of number ++ 32 ∷ s.name ++ codes " $end"

abbrev pub end_line : List ℕ
end_line = codes "$upscope $end"

-- the line of a mark, where the next register has a number
abbrev pub line_of : ℕ → Mark → List ℕ
line_of number (Enter name) = scope_line name
line_of number (Holds r) = register_line number r.signal
line_of number Leave = end_line

abbrev pub lines_from : ℕ → List Mark → List (List ℕ)
lines_from number [] = []
lines_from number (m ∷ marks) = line_of number m ∷ lines_from (number + length (held m)) marks

-- a dump's head, line by line
abbrev pub head_lines : List Mark → List (List ℕ)
head_lines marks = codes "$timescale 1 ns $end" ∷ (lines_from 0 marks ++ codes "$enddefinitions $end" ∷ [])

-- where a register's number stands among the words of a simulator
abbrev pub place_of : List Part → Register → ℕ
place_of parts g = word_of parts g.path g.place

abbrev pub width_of : Register → ℕ
width_of g = g.signal.width

-- the number that a register has in a state
abbrev pub number_in : Valuation → Register → ℕ
number_in h g = (h g.path).signal g.place

-- a register of the net
pub record IsOfNet (modules : List Module) (top : Module) (g : Register) : Type 0 where
  pub kind : Module
  pub at : IsAt modules top g.path kind g.place g.signal
  pub register : IsRegister g.signal.source

-- a list with these marks more
pub record Grows (modules : List Module) (top : Module) (parts : List Part) (old new : Listing) (marks : List Mark) : Type 0 where
  pub head : new.head ≡ old.head ++ unlines (lines_from (length old.places) marks)
  pub places : new.places ≡ old.places ++ map (place_of parts) (registers_of marks)
  pub widths : new.widths ≡ old.widths ++ map width_of (registers_of marks)
  pub lines : AllByRecursion IsHeadLine (lines_from (length old.places) marks)
  pub net : AllByRecursion (IsOfNet modules top) (registers_of marks)

-- a line more, which names no register
pub record HasLine (old new : Listing) (line : List ℕ) : Type 0 where
  pub head : new.head ≡ old.head ++ (line ++ 10 ∷ [])
  pub line_is : IsHeadLine line
  pub places : new.places ≡ old.places
  pub widths : new.widths ≡ old.widths

-- a register more, whose number stands at a place
pub record HasRegister (old new : Listing) (place : ℕ) (s : Signal) : Type 0 where
  pub head : new.head ≡ old.head ++ (register_line (length old.places) s ++ 10 ∷ [])
  pub line_is : IsHeadLine (register_line (length old.places) s)
  pub places : new.places ≡ old.places ++ place ∷ []
  pub widths : new.widths ≡ old.widths ++ s.width ∷ []

-- an instance whose signals' words stand from a base on
pub record IsBased (modules : List Module) (top : Module) (parts : List Part) (path : Path) (kind : Module) (base : ℕ) : Type 0 where
  pub stands : module_at modules top path ≡ Some kind
  pub base_is : base ≡ (spot_at parts path).base

-- signal x of an instance more, if it is a register
abbrev pub HasSignal : Listing → Listing → ℕ → ℕ → Signal → Type 0
HasSignal old new base x s =
    (modules : List Module) (top : Module) (parts : List Part) (path : Path) (kind : Module) → IsBased modules top parts path kind base → slice_get kind.signals x ≡ Some s →
    Grows modules top parts old new (own_mark path x s)

-- the registers of an instance more
abbrev pub HasOwn : Listing → Listing → ℕ → List Signal → Type 0
HasOwn old new base signals =
    (modules : List Module) (top : Module) (parts : List Part) (path : Path) (kind : Module) → IsBased modules top parts path kind base → kind.signals ≡ signals →
    Grows modules top parts old new (own path 0 signals)

-- the whole head, and all registers of the net
pub record IsListing (r : Running) (l : Listing) : Type 0 where
  pub marks : List Mark
  pub are : AreMarks r.modules marks
  pub head : l.head ≡ unlines (head_lines marks)
  pub lines : All IsHeadLine (head_lines marks)
  pub places : l.places ≡ map (place_of r.parts) (registers_of marks)
  pub widths : l.widths ≡ map width_of (registers_of marks)
  pub top : Module
  pub is_top : top_of r.modules ≡ Some top
  pub net : AllByRecursion (IsOfNet r.modules top) (registers_of marks)
