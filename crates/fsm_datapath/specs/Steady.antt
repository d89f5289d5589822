-- The module of a thread keeps to itself: what it does while it needs no core hangs on nothing outside. And it needs one where it asks one, takes a word or waits, and
-- nowhere else.
use Rattle.std.specs.Prelude.{◌≡◌, true, ℕ, Some, slice_get, codes}
use Rattle.block_ir.specs.declared.block.Block.{Block}
use Rattle.block_ir.specs.declared.code.Act.TheVariants.{Return}
use Rattle.block_ir.specs.declared.code.Stage.TheVariants as stage
use Rattle.block_ir.specs.declared.code.ThreadCode.{ThreadCode}
use Rattle.block_ir.specs.declared.plan.BlockPlan.{BlockPlan}
use Rattle.block_ir.specs.declared.plan.Planned.{Planned}
use Rattle.planned_block.specs.Slot.{Slot}
use Rattle.planned_block.specs.Closed.{IsClosed}
use Rattle.plan_blocks.specs.View.{planned_view, plan_view}
use Rattle.netlist.specs.declared.netlist.Signal.{Signal}
use Rattle.netlist.specs.declared.netlist.Module.{Module}
use Rattle.verilog_meaning.specs.Names.{IsSignal}
use Rattle.verilog_meaning.specs.Cycles.{IsRegister}
use Rattle.verilog_meaning.specs.Readings.{Reading, next_reading}
use Rattle.circuit.specs.Modules.{Obeys, Agree}
use Rattle.leaf_machine.specs.Steady.{IsSteadyThread}
use Rattle.thread_promise.specs.Slots.{ShowsData}
use Rattle.thread_promise.specs.Serving.{IsInside}
use Rattle.thread_slots.specs.declared.shape.Shape.{Shape}
use Rattle.thread_layout.specs.Leaf.{leaf_of}
use Rattle.thread_layout.specs.Thread.{cores_of, inputs_of, need_at, places_of, IsServed}

-- in a state of a block in which no access starts and no word is taken, and at main's return, no core is needed
pub record NeedsNoMore (shape : Shape) (code : ThreadCode) (plan : Planned) (m : Module) : Type 0 where
  pub closed : (r : Reading) (q : Slot) (b : Block) (p : BlockPlan) → Obeys m r →
      IsInside shape.globals shape.spreads code plan (places_of (inputs_of shape) code plan) r q b p →
      IsClosed (planned_view b) (plan_view b p) q → r.signal (need_at shape m) ≡ 0
  pub returns : shape.is_main ≡ true → (r : Reading) (q : Slot) (next : ℕ) → Obeys m r → ShowsData shape.globals code (places_of (inputs_of shape) code plan) r q →
      slice_get code.stages q.stage ≡ Some (stage.Act Return next) → r.signal (need_at shape m) ≡ 0

-- a register `beat` of one bit stands at this place
pub record IsBeat (m : Module) (place : ℕ) : Type 0 where
  pub signal : Signal
  pub is : IsSignal m (codes "beat") place signal
  pub register : IsRegister signal.source
  pub one_bit : signal.width ≡ 1

-- an edge that leaves the beat leaves each register and each word of a memory
abbrev pub TurnsBeat : Shape → ThreadCode → Planned → Module → Type 0
TurnsBeat shape code plan m =
    (r : Reading) → Obeys m r →
    (next_reading m r).signal (places_of (inputs_of shape) code plan).beat ≡ r.signal (places_of (inputs_of shape) code plan).beat →
    Agree m r (next_reading m r)

pub record IsSteadyServed (shape : Shape) (code : ThreadCode) (plan : Planned) (m : Module) : Type 0 where
  pub steady : IsSteadyThread (cores_of shape) m (leaf_of shape m)
  -- main stays where it has ended
  pub ended : shape.is_main ≡ true → (r : Reading) → Obeys m r → r.signal (leaf_of shape m).done ≡ 1 → Agree m r (next_reading m r)
  pub little : NeedsNoMore shape code plan m
  pub beat : TurnsBeat shape code plan m
  pub stands : IsBeat m (places_of (inputs_of shape) code plan).beat

-- THE MODULE IS STEADY
abbrev pub IsSteadyServedCode : Shape → ThreadCode → Planned → Module → Type 0
IsSteadyServedCode shape code plan m = IsServed shape code plan → IsSteadyServed shape code plan m
