-- What a function of a parser ensures: what its reading gives, unless memory ran out.
use Rattle.std.specs.Prelude.{◌≡◌, Bool, true, false, List, Result, Ok, Err}
use Rattle.grammar.specs.Readers.{Syntax, Deep, Reading}
use Rattle.grammar.specs.declared.Fault.{Fault}
use Rattle.grammar.specs.declared.Fault.TheVariants as fault

-- the tokens that are left after the call are new
abbrev pub Steps : {T A : Type 0} → Reading T A → Result A Fault → List T → Type 0
Steps read (Ok a) new = read ≡ Ok (a, new)
Steps read (Err fault.Syntax) new = read ≡ Err (Syntax new)
Steps read (Err (fault.Nesting above)) new = read ≡ Err (Deep above new)
Steps read (Err fault.Memory) new = Unit {0}

-- the fault where no level of nesting is left, by whether the token ahead begins the phrase, and whether it opens a
-- bracket that is one level deeper still
abbrev pub too_deep_fault : Bool → Bool → Fault
too_deep_fault begins true = fault.Nesting 2
too_deep_fault true false = fault.Nesting 1
too_deep_fault false false = fault.Syntax
