-- A thread of the machine: its code and plan, the module that runs it, where that has its ports; and where the slot that its module shows may
-- stand.
use Rattle.std.specs.Prelude.{◌≡◌, ℕ, suc, ◌+◌, ◌<◌, Bool, true, false, List, length, Some, slice_get}
use Rattle.hls_ints.specs.Residues.{residue_of}
use Rattle.hls_ints.specs.Types.{IntegerType, HasType, width_of}
use Rattle.bank_partition.specs.declared.banks.Spread.{Spread}
use Rattle.block_ir.specs.declared.block.Next.{Next}
use Rattle.block_ir.specs.declared.block.Next.TheVariants.{Jump, Branch}
use Rattle.block_ir.specs.declared.block.Block.{Block}
use Rattle.block_ir.specs.declared.code.Act.{Act}
use Rattle.block_ir.specs.declared.code.Act.TheVariants as act
use Rattle.block_ir.specs.declared.code.ActOperand.{ActOperand}
use Rattle.block_ir.specs.declared.code.Stage.{Stage}
use Rattle.block_ir.specs.declared.code.Stage.TheVariants as stage
use Rattle.block_ir.specs.declared.code.ThreadCode.{ThreadCode}
use Rattle.block_ir.specs.declared.plan.BlockPlan.{BlockPlan}
use Rattle.block_ir.specs.declared.plan.Planned.{Planned}
use Rattle.planned_block.specs.Slot.{Slot}
use Rattle.netlist.specs.declared.netlist.Module.{Module}
use Rattle.verilog_meaning.specs.Readings.{Reading}
use Rattle.block_ir.specs.Asked.{act_value, Numbers, barrier_core, thread_ids_core, printer_core}
use Rattle.leaf_machine.specs.Leaves.{LeafPorts, GoesThrough}
use Rattle.thread_promise.specs.Slots.{Places, ShowsData}
use Rattle.thread_promise.specs.Globals.{bank_total}
use Rattle.thread_promise.specs.Promise.{RunsAt}
use Rattle.thread_promise.specs.Moves.{meeting}
use Rattle.thread_promise.specs.Serving.{Ports, IsActCore, IsInside, RunsCode}

pub record Thread : Type 0 where
  pub globals : List IntegerType
  pub spreads : List Spread
  -- the cores, by kind
  pub numbers : Numbers
  pub main : Bool
  pub routine : ℕ
  pub code : ThreadCode
  pub plan : Planned
  pub body : Module
  pub places : Places
  pub ports : Ports
  pub leaf : LeafPorts
  -- how many numbers a core is asked with, and how many it tells
  pub parts : ℕ → ℕ
  pub told : ℕ → ℕ

-- ---- code

abbrev pub LeadsBelow : ℕ → Next → Type 0
LeadsBelow n (Jump l) = l < n
LeadsBelow n (Branch test l k) = (l < n) × (k < n)

-- where a stage of one of n leads is a stage; a return leads to rest
abbrev pub ActLeads : ℕ → Act → ℕ → Type 0
ActLeads n act.Return next = Unit {0}
ActLeads n a next = next < n

abbrev pub StageLeads : ℕ → Stage → Type 0
StageLeads n (stage.Run b) = LeadsBelow n b.next
StageLeads n (stage.Act a next) = ActLeads n a next

module _ (t : Thread) where
  abbrev pub rest : ℕ
  rest = length t.code.stages

  -- how many cores there are
  abbrev pub cores : ℕ
  cores = suc (printer_core t.numbers)

  abbrev pub Shows : Reading → Slot → Type 0
  Shows = ShowsData t.globals t.code t.places

  abbrev pub Runs : ℕ → Block → BlockPlan → Type 0
  Runs = RunsAt t.globals t.spreads t.code t.plan

  abbrev pub Inside : Reading → Slot → Block → BlockPlan → Type 0
  Inside = IsInside t.globals t.spreads t.code t.plan t.places

  abbrev pub Through : Reading → Bool → (ℕ → Bool) → (ℕ → ℕ → ℕ) → Reading → Type 0
  Through = GoesThrough t.body t.leaf cores t.parts t.told

  -- the ports for core k of acts
  pub record IsCorePort (k : ℕ) : Type 0 where
    pub grant : (t.ports.core k).grant ≡ t.leaf.grant k
    pub ask : (t.ports.core k).ask ≡ t.leaf.ask k 0
    pub number : (t.ports.core k).number ≡ t.leaf.ask k 1
    pub value : (j : ℕ) → suc (suc j) < t.parts k → (t.ports.core k).value j ≡ t.leaf.ask k (suc (suc j))
    pub told : (j : ℕ) → j < t.told k → (t.ports.core k).told j ≡ t.leaf.told k j

  -- the ports of the promise are those of the machine's thread
  pub record ArePorts : Type 0 where
    pub uses : (k : ℕ) → k < cores → t.leaf.uses k ≡ true
    pub enable : t.ports.enable ≡ t.leaf.enable
    pub bank : (n : ℕ) → n < t.numbers.banks →
        t.ports.bank n
        ≡ record { grant = t.leaf.grant n; word = t.leaf.told n 0; ask = t.leaf.ask n 0; writes = t.leaf.ask n 1; address = t.leaf.ask n 2; value = t.leaf.ask n 3 }
    pub core : (k : ℕ) → IsActCore t.numbers k → IsCorePort k
    pub done : t.ports.done ≡ t.leaf.done

  -- the cores are asked and tell as many numbers as a thread asks and hears
  pub record AreWide : Type 0 where
    pub bank_asks : (n : ℕ) → n < t.numbers.banks → 3 < t.parts n
    pub bank_tells : (n : ℕ) → n < t.numbers.banks → 0 < t.told n
    pub core_asks : (k : ℕ) → IsActCore t.numbers k → 1 < t.parts k
    pub barrier_tells : (n : ℕ) → n < t.numbers.barriers → 0 < t.told (barrier_core t.numbers n)
    pub ids_tell : t.numbers.thread_ids ≡ true → 1 < t.told (thread_ids_core t.numbers)

  -- each bank of a global is a core
  pub record AreSpread : Type 0 where
    pub total : bank_total t.spreads ≡ t.numbers.banks
    pub some : (x : ℕ) (s : Spread) → slice_get t.spreads x ≡ Some s → 0 < s.count
    pub below : (x n : ℕ) (s : Spread) → slice_get t.spreads x ≡ Some s → n < s.count → s.first + n < t.numbers.banks

  -- A THREAD OF THE MACHINE: its module keeps the promise
  pub record IsThread : Type 0 where
    pub runs : RunsCode t.globals t.spreads t.numbers t.main t.routine t.code t.plan t.body t.places t.ports
    pub leads : (l : ℕ) (s : Stage) → slice_get t.code.stages l ≡ Some s → StageLeads rest s
    pub planned : (l : ℕ) (b : Block) → slice_get t.code.stages l ≡ Some (stage.Run b) → (p : BlockPlan) × Runs l b p × (0 < p.states)
    pub ports : ArePorts
    pub wide : AreWide
    pub spread : AreSpread
    pub thread_ids : t.main ≡ false → t.numbers.thread_ids ≡ true

  -- ---- where a slot stands

  -- within a block, at an act, at rest, or at a meeting
  pub data Where (r : Reading) (q : Slot) : Type 0 where
    InBlock : (b : Block) (p : BlockPlan) (inside : Inside r q b p) → Where r q
    AtAct : (a : Act) (next : ℕ) (listed : slice_get t.code.stages q.stage ≡ Some (stage.Act a next)) (state : q.state ≡ 0) (shown : Shows r q) → Where r q
    AtRest : (at : q.stage ≡ rest) (state : q.state ≡ 0) (shown : Shows r q) → Where r q
    AtMeeting : (l next : ℕ) (b : ActOperand) (at : q.stage ≡ meeting rest l) (listed : slice_get t.code.stages l ≡ Some (stage.Act (act.BarrierWait b) next))
        (below : residue_of 64 (act_value q.variables b) < t.numbers.barriers) (state : q.state ≡ 0) (shown : Shows r q) → Where r q

  -- and it is a slot of the thread's own function
  pub record Stands (r : Reading) (q : Slot) : Type 0 where
    pub own : q.routine ≡ t.routine
    pub at : Where r q

  -- ---- what the thread hears

  -- of each bank of a global the word that the slot has, and of barriers and thread ids a bit
  pub record IsNews (news : ℕ → ℕ → ℕ) (q : Slot) : Type 0 where
    pub words : (x n : ℕ) (s : Spread) (ty : IntegerType) → slice_get t.spreads x ≡ Some s → slice_get t.globals x ≡ Some ty → n < s.count →
        news (s.first + n) 0 ≡ residue_of (width_of ty) (q.words (s.first + n))
    pub typed : (x n : ℕ) (s : Spread) (ty : IntegerType) → slice_get t.spreads x ≡ Some s → slice_get t.globals x ≡ Some ty → n < s.count → HasType ty (q.words (s.first + n))
    pub waits : (n : ℕ) → n < t.numbers.barriers → news (barrier_core t.numbers n) 0 < 2
    pub runs : t.numbers.thread_ids ≡ true → news (thread_ids_core t.numbers) 0 < 2
