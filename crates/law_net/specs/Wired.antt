-- A table of the parts that are built of a program of T threads, and that the net wired of it follows the program.
use Rattle.std.specs.Prelude.{◌≡◌, ℕ, length, Some, slice_get}
use Rattle.c_program.specs.Tree.{Program}
use Rattle.c_program.specs.Weight.{thread_count}
use Rattle.thread_semantics.specs.Races.{IsGood}
use Rattle.netlist.specs.declared.netlist.Netlist.{Netlist}
use Rattle.verilog_meaning.specs.Follows.{IsDetermined, FollowsAlways}
use Rattle.top_wiring.specs.Wired.{IsWired}
use Rattle.core_tables.specs.Tables.{Table, layout_of, modules_of, kinds_in}
use Rattle.core_tables.specs.Whole.{IsWholeTable}
use Rattle.good_verilog.specs.Program.{seen_of}
use Rattle.law_cycle.specs.Built.{Parts, IsBuilt}
use Rattle.law_cycle.specs.Kinds.{kinds_of}
use Rattle.law_net.specs.Whole.{IsWhole, RunsExist}

-- a whole table of what is built of a program: thread i of the table has the module of thread i
pub record IsWholeTableOf (P : Program) (K : Parts) (t : Table) : Type 0 where
  pub built : IsBuilt P K
  pub whole : IsWholeTable t
  pub cores : kinds_in t ≡ kinds_of K.cores
  pub count : length t.threads ≡ K.cores.threads
  pub runs : (i number : ℕ) → slice_get t.threads i ≡ Some number → slice_get t.routines number ≡ Some (K.bodies i).body

-- TABLES ARE WHOLE: what is wired of it is the whole net of the program
abbrev pub TablesAreWhole : Type 0
TablesAreWhole =
    (P : Program) (K : Parts) (t : Table) (n : Netlist) → IsWholeTableOf P K t → (wired : IsWired (modules_of t) (layout_of t) n) → IsWhole P K n.modules wired.top

-- THE NET OF A TABLE FOLLOWS: it is determined, has a run for every list of choices, and follows the program if it is good
abbrev pub WiredFollow : Type 0
WiredFollow =
    (P : Program) (K : Parts) (t : Table) (n : Netlist) → IsWholeTableOf P K t → (wired : IsWired (modules_of t) (layout_of t) n) →
    IsDetermined n.modules wired.top (thread_count P) × RunsExist n.modules wired.top (thread_count P) ×
    (IsGood P → FollowsAlways n.modules wired.top (thread_count P) (seen_of P))
