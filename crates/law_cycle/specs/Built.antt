-- What the parts of the hardware of a program of T threads are, and the machine of them.
use Rattle.std.specs.Prelude.{◌≡◌, ◌↔◌, ℕ, ◌^◌, ◌<◌, ◌≤◌, Bool, true, nat_eq, nat_lt, List, length, map, Some, slice_get}
use Rattle.c_program.specs.Tree.{Piece, Program}
use Rattle.c_program.specs.Limits.{mutex_elements, barrier_elements}
use Rattle.c_program.specs.Weight.{thread_count}
use Rattle.c_program.specs.Resolved.{IsResolved}
use Rattle.thread_semantics.specs.declared.object.MutexState.TheVariants.{Free}
use Rattle.thread_semantics.specs.State.{start}
use Rattle.bank_partition.specs.declared.banks.Spread.{Spread}
use Rattle.mutex_cores.specs.declared.mutex.Shape.{Shape as MutexShape}
use Rattle.printer_cores.specs.declared.format.Part.{Part}
use Rattle.printer_cores.specs.declared.format.Part.TheVariants.{Text, Unsigned, Signed}
use Rattle.printer_cores.specs.declared.printer.Shape.{Shape as PrinterShape}
use Rattle.netlist.specs.declared.netlist.Module.{Module}
use Rattle.circuit.specs.Wiring.{NetState}
use Rattle.leaf_machine.specs.Leaves.{LeafPorts, leaf_thread}
use Rattle.block_ir.specs.declared.block.Block.{Block}
use Rattle.block_ir.specs.declared.code.Act.TheVariants.{Print}
use Rattle.block_ir.specs.declared.code.ActOperand.{ActOperand}
use Rattle.block_ir.specs.declared.code.Stage.{Stage}
use Rattle.block_ir.specs.declared.code.Stage.TheVariants as stage
use Rattle.block_ir.specs.declared.plan.BlockPlan.{BlockPlan}
use Rattle.code_following.specs.Following.{print_formats, conversions_of}
use Rattle.block_refine.specs.Routines.{RoutineCode, Codes}
use Rattle.core_family.specs.declared.cores.Cores.{Cores}
use Rattle.thread_promise.specs.Promise.{RunsAt}
use Rattle.law_threads.specs.Surroundings.{routine_of}
use Rattle.law_threads.specs.Laws.{AreCoded}
use Rattle.law_banks.specs.Partition.{globals_of, ArePartitioned}
use Rattle.law_cycle.specs.Thread.{Thread, StageLeads}
use Rattle.law_cycle.specs.Bodies.{ThreadBody, promised_ports, numbers_of, core_count, core_machine, IsBody}

-- ---- the parts

pub record Parts : Type 0 where
  pub cores : Cores
  pub spreads : List Spread
  -- by function
  pub codes : Codes
  -- by thread
  pub bodies : ℕ → ThreadBody

abbrev pub thread_modules : Parts → ℕ → Module
thread_modules K = λ i. (K.bodies i).body

abbrev pub thread_leaves : Parts → ℕ → LeafPorts
thread_leaves K = λ i. (K.bodies i).leaf

abbrev pub Machine : Parts → Type 0
Machine K = NetState K.cores.threads (core_count K.cores) (λ i. leaf_thread (K.bodies i).body (K.bodies i).leaf) (core_machine K.cores)

-- ---- code

-- the code of a function and its plan, for a printer of so many values: stages lead to stages, each block has a plan of one state or more, and
-- a printf has a value for each conversion of its format
pub record IsCode (P : Program) (spreads : List Spread) (c : RoutineCode) (values : ℕ) : Type 0 where
  pub leads : (l : ℕ) (s : Stage) → slice_get c.code.stages l ≡ Some s → StageLeads (length c.code.stages) s
  pub planned : (l : ℕ) (b : Block) → slice_get c.code.stages l ≡ Some (stage.Run b) → (p : BlockPlan) × RunsAt (globals_of P) spreads c.code c.plan l b p × (0 < p.states)
  pub few : (l site next : ℕ) (vs : List ActOperand) → slice_get c.code.stages l ≡ Some (stage.Act (Print site vs) next) → length vs ≤ values
  pub prints : (l site next : ℕ) (vs : List ActOperand) (format : List Piece) → slice_get c.code.stages l ≡ Some (stage.Act (Print site vs) next) →
      slice_get (print_formats P) site ≡ Some format → length vs ≡ length (conversions_of format)

-- ---- hardware thread i

-- it runs its routine, and hears and asks all cores
abbrev pub thread_at : Program → Parts → ℕ → Thread
thread_at P K i = record {
  globals = globals_of P;
  spreads = K.spreads;
  numbers = numbers_of K.cores;
  main = nat_eq i 0;
  routine = routine_of P i;
  code = (K.codes (routine_of P i)).code;
  plan = (K.codes (routine_of P i)).plan;
  body = (K.bodies i).body;
  places = (K.bodies i).places;
  ports = promised_ports (K.bodies i).leaf;
  leaf = (K.bodies i).leaf;
  parts = λ k. (core_machine K.cores k).parts;
  told = λ k. (core_machine K.cores k).told;
}

-- ---- cores

-- a core for each element of the mutexes, free at the start where it is initialised
pub record AreMutexes (P : Program) (T : ℕ) (shapes : List MutexShape) : Type 0 where
  pub count : length shapes ≡ mutex_elements P
  pub threads : (n : ℕ) (s : MutexShape) → slice_get shapes n ≡ Some s → s.threads ≡ T
  pub free : (n : ℕ) (s : MutexShape) → slice_get shapes n ≡ Some s → (s.initialised ≡ true) ↔ (slice_get (start P).mutexes n ≡ Some Free)

-- a value is written as a signed or an unsigned number by the type that it is converted to
abbrev pub conversion_part : Bool → Part
conversion_part true = Signed
conversion_part Bool.false = Unsigned

abbrev pub part_of : Piece → Part
part_of (Piece.Text bytes) = Text bytes
part_of (Piece.Conversion ty) = conversion_part ty.signed

-- a printer of T threads with a site for each printf call of the text
pub record IsPrinterOf (P : Program) (T : ℕ) (shape : PrinterShape) : Type 0 where
  pub threads : shape.threads ≡ T
  pub sites : shape.sites ≡ map (λ format. map part_of format) (print_formats P)

-- ---- all of it

pub record IsBuilt (P : Program) (K : Parts) : Type 0 where
  pub resolved : IsResolved P
  pub threads : K.cores.threads ≡ thread_count P
  pub few_threads : K.cores.threads ≤ 64
  pub few_cores : core_count K.cores < 2 ^ 15
  pub mutexes : AreMutexes P K.cores.threads K.cores.mutexes
  pub barriers : K.cores.barriers ≡ barrier_elements P
  pub thread_ids : K.cores.thread_ids ≡ nat_lt 1 K.cores.threads
  pub chain : ℕ → ℕ → ℕ
  pub coded : AreCoded P K.codes chain
  pub codes : (f : ℕ) → IsCode P K.spreads (K.codes f) K.cores.printer.values
  pub banked : ArePartitioned P K.cores.threads K.spreads K.cores.banks
  pub bodies : (i : ℕ) → i < K.cores.threads → (name : List ℕ) × IsBody P K.spreads K.cores (nat_eq i 0) (K.codes (routine_of P i)) name (K.bodies i)
  pub printer : IsPrinterOf P K.cores.threads K.cores.printer
