-- What the printf calls of a program write, as the sites of the printer.
use Rattle.std.specs.Prelude.{ℕ, List, map}
use Rattle.c_program.specs.Tree.{Piece, Statement, Program}
use Rattle.code_following.specs.Following.{formats_of, print_formats}
use Rattle.printer_cores.specs.declared.format.Part.{Part}
use Rattle.printer_cores.specs.declared.printer.Shape.{Shape}
use Rattle.law_cycle.specs.Built.{part_of}

abbrev pub site_of : List Piece → List Part
site_of format = map part_of format

-- the sites of a statement, in the order of the text
abbrev pub sites_in : Statement → List (List Part)
sites_in s = map site_of (formats_of s)

abbrev pub sites_of : Program → List (List Part)
sites_of P = map site_of (print_formats P)

-- the printer of a program, for so many threads: a site for each printf call of the text, of at most four values
abbrev pub printer_shape : ℕ → Program → Shape
printer_shape threads P = record { threads = threads; values = 4; sites = sites_of P }
