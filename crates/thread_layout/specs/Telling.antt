-- What the cores of acts tell a thread that waits, by what is heard of them.
use Rattle.std.specs.Prelude.{◌≡◌, ℕ, suc, ◌<◌, ◌≤◌, Bool, true, ◌&&◌, List, length, map, slice_index}
use Rattle.netlist.specs.declared.netlist.Signal.{Signal}
use Rattle.netlist.specs.declared.netlist.Module.{Module}
use Rattle.verilog_meaning.specs.Readings.{Reading}
use Rattle.circuit.specs.Modules.{Obeys}
use Rattle.operator_wires.specs.Gives.{Grows}
use Rattle.operator_wires.specs.Built.{Base, IsEarlier, AreWires}
use Rattle.planned_block.specs.Advance.{any_below}
use Rattle.block_datapath.specs.declared.registers.Held.{Held}
use Rattle.thread_slots.specs.declared.shape.Served.{Served}
use Rattle.thread_slots.specs.declared.told.Told.{Told}
use Rattle.thread_slots.specs.Bits.{HasBit, HaveBits, AreBitsOf}
use Rattle.thread_states.specs.Acts.{AreTold}

-- where news number k is heard
abbrev pub heard_place : List Held → ℕ → ℕ
heard_place news k = slice_index (map (λ (h : Held). h.register) news) k

-- the first n places
pub record TakesFirst (places : List ℕ) (n : ℕ) (outs : List ℕ) : Type 0 where
  pub count : length outs ≡ n
  pub each : (k : ℕ) → k < n → slice_index outs k ≡ slice_index places k

-- what is heard of the core of the thread ids stands
pub record ThreadIdsStand (base : Base) (old : List Signal) (served : Served) (news : List Held) : Type 0 where
  pub runs : IsEarlier old base (heard_place news served.barriers) 1
  pub argument : IsEarlier old base (heard_place news (suc served.barriers)) 64

-- WIRES FOR WHAT IS TOLD: the thread is barred where a barrier is named that holds it; where there is a core of the thread ids, behind the barriers, what
-- that tells is taken
pub record LaysTold (served : Served) (named : List ℕ) (news : List Held) (old new : List Signal) (told : Told) : Type 0 where
  pub grows : Grows old new
  pub barred : (m : Module) (r : Reading) (names holds : ℕ → Bool) → Grows new m.signals → Obeys m r → HaveBits m r named (length named) names →
      ((k : ℕ) → k < length named → HasBit m r (heard_place news k) (holds k)) → HasBit m r told.barred (any_below (λ k. names k && holds k) (length named))
  pub runs : served.thread_ids ≡ true → told.runs ≡ heard_place news served.barriers
  pub argument : served.thread_ids ≡ true → told.argument ≡ heard_place news (suc served.barriers)
  pub wired : (base : Base) → base.first ≤ length old → AreBitsOf base old named → ((k : ℕ) → k < length named → IsEarlier old base (heard_place news k) 1) →
      (served.thread_ids ≡ true → ThreadIdsStand base old served news) → AreWires base old new × AreTold base new told
