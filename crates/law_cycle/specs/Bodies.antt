-- What is known of a thread's module beside the cores of a program.
use Rattle.std.specs.Prelude.{◌≡◌, ℕ, suc, ◌<◌, Bool, List, length, Option, slice_get, codes}
use Rattle.c_program.specs.Tree.{Program}
use Rattle.bank_partition.specs.declared.banks.Spread.{Spread}
use Rattle.netlist.specs.declared.netlist.Signal.{Signal}
use Rattle.netlist.specs.declared.netlist.Module.{Module}
use Rattle.verilog_meaning.specs.Names.{IsSignal}
use Rattle.verilog_meaning.specs.Readings.{Reading, next_reading}
use Rattle.verilog_meaning.specs.Cycles.{IsRegister}
use Rattle.circuit.specs.Modules.{Has, Obeys, Agree}
use Rattle.circuit.specs.Machines.{CoreMachine}
use Rattle.leaf_machine.specs.Leaves.{LeafPorts, IsThreadLeaf, IsSlotBit}
use Rattle.leaf_machine.specs.Steady.{IsSteadyThread}
use Rattle.leaf_machine.specs.Ports.{IsRoutineModule}
use Rattle.core_family.specs.declared.cores.Cores.{Cores}
use Rattle.core_family.specs.Family.{CoreKind, machine_at, ask_width, told_width}
use Rattle.core_family.specs.Kinds.{kinds_of, ports_of}
use Rattle.block_ir.specs.Asked.{Numbers, printer_core}
use Rattle.block_refine.specs.Routines.{RoutineCode}
use Rattle.thread_promise.specs.Slots.{Places}
use Rattle.thread_promise.specs.Serving.{Ports, RunsCode}
use Rattle.law_banks.specs.Partition.{globals_of}

-- ---- the cores of a program by number

abbrev pub numbers_of : Cores → Numbers
numbers_of c = record { banks = length c.banks; mutexes = length c.mutexes; barriers = c.barriers; thread_ids = c.thread_ids }

abbrev pub core_at : Cores → ℕ → Option CoreKind
core_at c k = slice_get (kinds_of c) k

-- as many as there are in the list
abbrev pub core_count : Cores → ℕ
core_count c = suc (printer_core (numbers_of c))

abbrev pub core_machine : Cores → ℕ → CoreMachine
core_machine c k = machine_at (kinds_of c) k

-- ---- a thread's module

-- how many input ports it has, and where its ports and its registers stand
pub record ThreadBody : Type 0 where
  pub body : Module
  pub inputs : ℕ
  pub leaf : LeafPorts
  pub places : Places

-- where the promise has its ports: those of the module, of a bank the access and the word, of a core of acts the request and what it tells
abbrev pub promised_ports : LeafPorts → Ports
promised_ports leaf = record {
  enable = leaf.enable;
  bank = λ n. record { grant = leaf.grant n; word = leaf.told n 0; ask = leaf.ask n 0; writes = leaf.ask n 1; address = leaf.ask n 2; value = leaf.ask n 3 };
  core = λ k. record { grant = leaf.grant k; ask = leaf.ask k 0; number = leaf.ask k 1; value = λ j. leaf.ask k (suc (suc j)); told = leaf.told k };
  need = leaf.need;
  done = leaf.done;
}

-- a register `beat` of one bit at this place, and an edge that leaves it leaves each register and each word of a memory
pub record TurnsBeat (m : Module) (place : ℕ) : Type 0 where
  pub signal : Signal
  pub is : IsSignal m (codes "beat") place signal
  pub register : IsRegister signal.source
  pub one_bit : signal.width ≡ 1
  pub turns : (r : Reading) → Obeys m r → (next_reading m r).signal place ≡ r.signal place → Agree m r (next_reading m r)

-- A THREAD'S MODULE: it has this name and the ports of the cores, is a thread's machine, runs the code by its plan, as main's or as another thread's, turns
-- its beat where it changes, and keeps to itself
pub record IsBody (P : Program) (spreads : List Spread) (c : Cores) (main : Bool) (code : RoutineCode) (name : List ℕ) (b : ThreadBody) : Type 0 where
  pub routine : IsRoutineModule name (ports_of c) b.body b.inputs b.leaf
  pub leaf : IsThreadLeaf b.body b.inputs b.leaf (core_count c) (λ k. (core_machine c k).parts) (λ k. (core_machine c k).told)
  pub done : IsSlotBit b.body b.inputs b.leaf (core_count c) (λ k. (core_machine c k).parts) (λ k. (core_machine c k).told) b.leaf.done
  pub runs : (f : ℕ) → RunsCode (globals_of P) spreads (numbers_of c) main f code.code code.plan b.body b.places (promised_ports b.leaf)
  pub beats : TurnsBeat b.body b.places.beat
  pub steady : IsSteadyThread (core_count c) b.body b.leaf

-- ---- what follows from it

-- the enable and the grants are bits, and what a core tells and what it is asked have their widths
pub record FitsCores (c : Cores) (m : Module) (leaf : LeafPorts) : Type 0 where
  pub enable : Has m leaf.enable 1
  pub grants : (k : ℕ) → k < core_count c → Has m (leaf.grant k) 1
  pub tells : (k j : ℕ) → k < core_count c → j < (core_machine c k).told → Has m (leaf.told k j) (told_width (core_at c k) j)
  pub asks : (k j : ℕ) → k < core_count c → j < (core_machine c k).parts → Has m (leaf.ask k j) (ask_width (core_at c k) j)

-- BODIES FIT: so do the ports of each thread's module
abbrev pub BodiesFit : Type 0
BodiesFit =
    (P : Program) (spreads : List Spread) (c : Cores) (main : Bool) (code : RoutineCode) (name : List ℕ) (b : ThreadBody) → IsBody P spreads c main code name b →
    FitsCores c b.body b.leaf
