-- What the wires of acts, of meetings and of the rest show: nothing in a reading of another number of a stage, and in one of theirs the stage that follows.
use Rattle.std.specs.Prelude.{◌≡◌, ◌≢◌, ℕ, ◌<◌, ◌^◌, nat_eq, Bool, true, false, not, ◌&&◌, if◌then◌else◌, min, List, length, Option, Some, slice_get}
use Rattle.hls_ints.specs.Residues.{bit_of}
use Rattle.hls_ints.specs.Types.{IntegerType, long_int}
use Rattle.hls_ints.specs.Words.{word_complement}
use Rattle.block_ir.specs.declared.code.Act.{Act}
use Rattle.block_ir.specs.declared.code.Act.TheVariants.{BarrierWait}
use Rattle.block_ir.specs.declared.code.ActOperand.{ActOperand}
use Rattle.block_ir.specs.declared.code.Stage.{Stage}
use Rattle.block_ir.specs.declared.code.Stage.TheVariants as stage
use Rattle.block_ir.specs.declared.code.ThreadCode.{ThreadCode}
use Rattle.netlist.specs.declared.netlist.Signal.{Signal}
use Rattle.netlist.specs.declared.netlist.Module.{Module}
use Rattle.verilog_meaning.specs.Readings.{Reading, width}
use Rattle.circuit.specs.Modules.{Obeys}
use Rattle.operator_wires.specs.Gives.{Grows, Gives}
use Rattle.operator_wires.specs.Built.{Base, IsEarlier, AreWires}
use Rattle.operator_wires.specs.Added.{NotAdds}
use Rattle.thread_promise.specs.Moves.{meeting, stage_after, is_variable}
use Rattle.block_datapath.specs.declared.registers.Registers.{Registers}
use Rattle.block_datapath.specs.Chains.{next_number}
use Rattle.block_datapath.specs.Leave.{HasStage}
use Rattle.thread_slots.specs.declared.chains.Chains.{Chains}
use Rattle.thread_slots.specs.declared.told.Told.{Told}
use Rattle.thread_slots.specs.Bits.{HasBit}
use Rattle.thread_slots.specs.Links.{AreBits, IsStill, ShowSame, AreAsMany}
use Rattle.thread_slots.specs.Numbers.{numbers}
use Rattle.thread_slots.specs.Slots.{KnowsStage}
use Rattle.thread_slots.specs.Wired.{LinkAll, AreSlots, AreLinked, KeepsLinks}

-- ---- one number of a stage

-- links are added for a number of a stage: in a reading of another one they show what they showed
pub record StepsOver (registers : Registers) (number : ℕ) (old new : List Signal) (before after : Chains) : Type 0 where
  pub grows : Grows old new
  pub many : AreAsMany before after
  pub bits : AreBits old before → AreBits new after
  pub rests : (m : Module) (r : Reading) → Grows new m.signals → Obeys m r → AreBits old before → HasStage registers number m r →
      r.signal registers.stage.register ≢ number → ShowSame r before after

-- where the thread waits forever
pub record Idles (registers : Registers) (number : ℕ) (old new : List Signal) (before after : Chains) : Type 0 where
  pub step : StepsOver registers number old new before after
  pub waits : (m : Module) (r : Reading) → Grows new m.signals → Obeys m r → AreBits old before → HasStage registers number m r →
      r.signal registers.stage.register ≡ number → r.signal before.waits ≡ 0 → r.signal after.waits ≡ 1
  pub wired : (base : Base) (code : ThreadCode) → AreLinked base old code registers before → number < 2 ^ registers.stage.width → KeepsLinks base old new code registers after

-- the one state of an act, or of a meeting: a stage follows it, unless the thread waits, and no variable changes
pub record LeavesFor (target : ℕ) (held : Bool) (r : Reading) (start c : Chains) : Type 0 where
  pub is_last : r.signal c.is_last ≡ 1
  pub stage : r.signal c.stage ≡ target
  pub variables : (x : ℕ) → next_number r c.variables x ≡ next_number r start.variables x
  pub waits : r.signal c.waits ≡ bit_of held

module _ (registers : Registers) (from to : ℕ) where
  -- a reading of the number, whose links show nothing yet
  pub record IsFrom (m : Module) (r : Reading) (c : Chains) : Type 0 where
    pub has : HasStage registers from m r
    pub here : r.signal registers.stage.register ≡ from
    pub fits : to < 2 ^ registers.stage.width
    pub is_last : r.signal c.is_last ≡ 0
    pub waits : r.signal c.waits ≡ 0

  -- a number from which another one follows
  pub record LeadsFrom (old new : List Signal) (before after : Chains) : Type 0 where
    pub step : StepsOver registers from old new before after
    pub leads : AreBits old before → (m : Module) (r : Reading) → Grows new m.signals → Obeys m r → IsFrom m r before → LeavesFor to false r before after
    pub wired : (base : Base) (code : ThreadCode) → AreLinked base old code registers before → from < 2 ^ registers.stage.width → to < 2 ^ registers.stage.width →
        KeepsLinks base old new code registers after

  -- the same, unless a bit is set: then the thread waits
  pub record LeadsUnless (barred : ℕ) (old new : List Signal) (before after : Chains) : Type 0 where
    pub step : StepsOver registers from old new before after
    pub leads : AreBits old before → (m : Module) (r : Reading) (t : Bool) → Grows new m.signals → Obeys m r → IsFrom m r before → HasBit m r barred t →
        LeavesFor to t r before after
    pub wired : (base : Base) (code : ThreadCode) → AreLinked base old code registers before → from < 2 ^ registers.stage.width → to < 2 ^ registers.stage.width →
        IsEarlier old base barred 1 → KeepsLinks base old new code registers after

-- ---- acts

-- what cores of acts tell stands
pub record AreTold (base : Base) (signals : List Signal) (told : Told) : Type 0 where
  pub barred : IsEarlier signals base told.barred 1
  pub runs : IsEarlier signals base told.runs 1
  pub argument : IsEarlier signals base told.argument 64

module _ (code : ThreadCode) (registers : Registers) where
  -- stage l adds links: in a reading of none of its numbers they show what they showed
  pub record StepsStage (l : ℕ) (s : Stage) (old new : List Signal) (before after : Chains) : Type 0 where
    pub grows : Grows old new
    pub many : AreAsMany before after
    pub bits : AreBits old before → AreBits new after
    pub rests : (m : Module) (r : Reading) → Grows new m.signals → Obeys m r → AreBits old before → KnowsStage code registers m r → l < length code.stages →
        numbers (length code.stages) l s (r.signal registers.stage.register) ≡ false → ShowSame r before after

  -- a wait at a barrier leads to its meeting, and that to a stage unless a bit is set
  pub record TakesWait (barred l to : ℕ) (old new : List Signal) (before after : Chains) : Type 0 where
    pub with_own : List Signal
    pub own : Chains
    pub waits : LeadsFrom registers l (meeting (length code.stages) l) old with_own before own
    pub meets : LeadsUnless registers (meeting (length code.stages) l) to barred with_own new own after

  -- AN ACT leads to the stage after it, and the meeting of a wait at a barrier to the next one where the thread is not barred
  pub record TakesAct (told : Told) (l : ℕ) (a : Act) (next : ℕ) (old new : List Signal) (before after : Chains) : Type 0 where
    pub step : StepsStage l (stage.Act a next) old new before after
    pub acts : AreBits old before → l < length code.stages → (m : Module) (r : Reading) → Grows new m.signals → Obeys m r → KnowsStage code registers m r →
        IsStill r registers before → r.signal registers.stage.register ≡ l →
        LeavesFor (stage_after (length code.stages) l a (min next (length code.stages))) false r before after
    pub meets : (barrier : ActOperand) → a ≡ BarrierWait barrier → AreBits old before → l < length code.stages → (m : Module) (r : Reading) (t : Bool) → Grows new m.signals →
        Obeys m r → KnowsStage code registers m r → IsStill r registers before → r.signal registers.stage.register ≡ meeting (length code.stages) l → HasBit m r told.barred t →
        LeavesFor (min next (length code.stages)) t r before after
    pub wired : (base : Base) → AreLinked base old code registers before → IsEarlier old base told.barred 1 → l < length code.stages → KeepsLinks base old new code registers after

-- ---- the rest

-- the argument's variable has 64 bits
abbrev pub IsTypedArgument : Option ℕ → List IntegerType → Type 0
IsTypedArgument argument variables = (x : ℕ) → argument ≡ Some x → slice_get variables x ≡ Some long_int

-- at a number of the stage a variable, if any, gets what a signal shows
pub record TakesArgument (registers : Registers) (variable : Option ℕ) (number argument : ℕ) (old new : List Signal) (before after : List ℕ) : Type 0 where
  pub grows : Grows old new
  pub count : length after ≡ length before
  pub shows : (m : Module) (r : Reading) (x : ℕ) → Grows new m.signals → Obeys m r → HasStage registers number m r → x < length before →
      next_number r after x ≡ (if is_variable variable x && nat_eq (r.signal registers.stage.register) number then r.signal argument else next_number r before x)
  pub wired : (base : Base) (code : ThreadCode) → AreSlots base old code registers → length before ≡ length registers.variables → LinkAll base old registers.variables before →
      number < 2 ^ registers.stage.width → IsTypedArgument variable code.variables → IsEarlier old base argument 64 →
      AreWires base old new × LinkAll base new registers.variables after

-- the rest, in a reading of it: a thread that runs sets out, with its argument
pub record SetsOut (argument : Option ℕ) (told : Told) (runs : Bool) (r : Reading) (start c : Chains) : Type 0 where
  pub is_last : r.signal c.is_last ≡ 1
  pub stage : r.signal c.stage ≡ 0
  pub variables : (x : ℕ) → x < length start.variables → next_number r c.variables x ≡ (if is_variable argument x then r.signal told.argument else next_number r start.variables x)
  pub waits : r.signal c.waits ≡ bit_of (not runs)

module _ (code : ThreadCode) (registers : Registers) where
  -- where the thread rests it is led to the first stage unless it does not run, and gets its argument
  pub record LeavesRest (told : Told) (old new : List Signal) (before after : Chains) : Type 0 where
    pub with_idle : List Signal
    pub with_lead : List Signal
    pub idle : ℕ
    pub led : Chains
    pub idles : Gives old with_idle idle 1 (λ m r. word_complement (width m told.runs) (r.signal told.runs))
    pub idles_wired : NotAdds old with_idle 1 told.runs idle
    pub leads : LeadsUnless registers (length code.stages) 0 idle with_idle with_lead before led
    pub takes : TakesArgument registers code.argument (length code.stages) told.argument with_lead new led.variables after.variables
    pub same : after ≡ record led { variables = after.variables }

  -- THE REST, past all stages: main waits there forever, and another thread until it runs
  pub record EndsAt (main : Bool) (told : Told) (old new : List Signal) (before after : Chains) : Type 0 where
    pub step : StepsOver registers (length code.stages) old new before after
    pub stays : main ≡ true → AreBits old before → (m : Module) (r : Reading) → Grows new m.signals → Obeys m r → KnowsStage code registers m r →
        r.signal registers.stage.register ≡ length code.stages → r.signal before.waits ≡ 0 → r.signal after.waits ≡ 1
    pub begins : main ≡ false → AreBits old before → (m : Module) (r : Reading) (t : Bool) → Grows new m.signals → Obeys m r → KnowsStage code registers m r →
        IsStill r registers before → r.signal registers.stage.register ≡ length code.stages → HasBit m r told.runs t → SetsOut code.argument told t r before after
    pub wired : (base : Base) → AreLinked base old code registers before → AreTold base old told → (main ≡ false → IsTypedArgument code.argument code.variables) →
        KeepsLinks base old new code registers after
