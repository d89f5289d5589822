-- What the net is that is wired of a whole table.
use Rattle.std.specs.Prelude.{◌≡◌, ℕ, ◌+◌, ◌<◌, List, [], ◌∷◌, Some, slice_get, codes, decimal}
use Rattle.netlist.specs.declared.netlist.Value.TheVariants.{Copy}
use Rattle.netlist.specs.declared.netlist.Source.TheVariants.{Assigned, Port}
use Rattle.netlist.specs.declared.netlist.Signal.{Signal}
use Rattle.netlist.specs.declared.netlist.Module.{Module}
use Rattle.netlist.specs.declared.netlist.Netlist.{Netlist}
use Rattle.verilog_meaning.specs.Names.{IsMinimal, IsSignal, top_of}
use Rattle.verilog_meaning.specs.Ports.{HasDone, HasPorts, TakesInput}
use Rattle.verilog_meaning.specs.Cycles.{Choice, module_at}
use Rattle.verilog_meaning.specs.Threads.{Place, Depends, IsChoice, slot}
use Rattle.verilog_meaning.specs.Follows.{BankOf, Bank as BankInstance}
use Rattle.circuit.specs.Nets.{FitsChoice}
use Rattle.circuit.specs.Staging.{Stages, IsStaged}
use Rattle.circuit.specs.Wiring.{IsNet}
use Rattle.top_wiring.specs.Ports.{threads, cores}
use Rattle.top_wiring.specs.Wired.{IsWired}
use Rattle.leaf_machine.specs.Leaves.{LeafPorts, leaf_thread}
use Rattle.bank_cores.specs.declared.bank.Shape.{Shape as BankShape}
use Rattle.bank_cores.specs.Bank.{memory_of}
use Rattle.core_family.specs.Family.{Bank, machine_at}
use Rattle.core_tables.specs.Tables.{Table, layout_of, modules_of, kinds_in}
use Rattle.core_tables.specs.Whole.{IsWholeTable, AreThreads, places_of}

module _ (t : Table) (modules : ℕ → Module) (leaves : ℕ → LeafPorts) (n : Netlist) (top : Module) where
  abbrev pub thread_count : ℕ
  thread_count = threads (layout_of t)

  -- the output done is a copy of thread 0's
  pub record TellsDone : Type 0 where
    pub shows : HasDone top
    pub only : (x : ℕ) (s : Signal) → IsSignal top (codes "done") x s → x ≡ shows.place
    pub wire : ℕ
    pub copies : shows.signal.source ≡ Assigned (Copy wire)
    pub driven : Signal
    pub listed : slice_get top.signals wire ≡ Some driven
    pub drives : driven.source ≡ Port 0 (leaves 0).done

  -- core k, a bank, is the instance of its name, and has the memory of its shape and no other
  pub record IsBankAt (k : ℕ) (b : BankShape) : Type 0 where
    pub instance : BankInstance n.modules top b.name b.number
    pub place : instance.place ≡ thread_count + k
    pub number : instance.number ≡ 0
    pub memory : instance.memory ≡ memory_of b

  -- a bank of a name, which has a number of these digits, is one of the cores
  pub record IsBankNamed (name digits : List ℕ) : Type 0 where
    pub core : ℕ
    pub shape : BankShape
    pub listed : slice_get (kinds_in t) core ≡ Some (Bank shape)
    pub named : shape.name ≡ name
    pub numbered : digits ≡ decimal shape.number

  -- THE NET OF A TABLE: one machine, whose signals have stages; thread i is instance i, and the banks are found by their names
  pub record IsNetOfTable : Type 0 where
    pub net : IsNet (threads (layout_of t)) (cores (layout_of t)) (λ i. leaf_thread (modules i) (leaves i)) (machine_at (kinds_in t)) (places_of t modules leaves) n.modules top
    pub is_top : top_of n.modules ≡ Some top
    pub runs : (i : ℕ) → i < thread_count → module_at n.modules top (i ∷ []) ≡ Some (modules i)
    pub slots : (i : ℕ) → i < thread_count → slot n.modules top thread_count i ≡ i ∷ []
    pub ports : HasPorts top thread_count
    pub enable : TakesInput top (codes "en") thread_count
    pub done : TellsDone
    pub fits : (c : Choice) → IsChoice thread_count c → FitsChoice n.modules top c
    pub stages : Stages
    pub staged : IsStaged n.modules top stages
    pub loopless : (p : Place) → Depends n.modules top p p → ⊥
    pub banks : (k : ℕ) (b : BankShape) → slice_get (kinds_in t) k ≡ Some (Bank b) → IsBankAt k b
    pub only_banks : (name digits : List ℕ) → IsMinimal digits → BankOf n.modules top name digits → IsBankNamed name digits

-- so it is of each that is wired of it
abbrev pub TablesAreNets : Type 0
TablesAreNets =
    (t : Table) (modules : ℕ → Module) (leaves : ℕ → LeafPorts) (n : Netlist) → IsWholeTable t → AreThreads t modules leaves →
    (wired : IsWired (modules_of t) (layout_of t) n) → IsNetOfTable t modules leaves n wired.top
