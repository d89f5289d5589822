-- Chains of wires: one more link, and what one shows in a reading.
use Rattle.std.specs.Prelude.{◌≡◌, ℕ, nat_eq, Bool, ◌||◌, if◌then◌else◌, List, length, slice_get, Some}
use Rattle.hls_ints.specs.Residues.{bit_of}
use Rattle.netlist.specs.declared.netlist.Signal.{Signal}
use Rattle.netlist.specs.declared.netlist.Module.{Module}
use Rattle.verilog_meaning.specs.Readings.{Reading, width}
use Rattle.circuit.specs.Modules.{Obeys}
use Rattle.operator_wires.specs.Gives.{Grows}
use Rattle.block_datapath.specs.declared.registers.Held.{Held}
use Rattle.block_datapath.specs.declared.registers.Registers.{Registers}
use Rattle.block_datapath.specs.Chains.{next_number}
use Rattle.thread_slots.specs.declared.chains.Chains.{Chains}

-- the bits of chains are one bit wide
pub record AreBits (new : List Signal) (c : Chains) : Type 0 where
  pub is_last : (m : Module) → Grows new m.signals → width m c.is_last ≡ 1
  pub waits : (m : Module) → Grows new m.signals → width m c.waits ≡ 1

-- a bit that is set where one before it is or this condition holds
pub record AddsBit (new : List Signal) (before after condition : ℕ) : Type 0 where
  pub wide : (m : Module) → Grows new m.signals → width m after ≡ 1
  pub shows : (m : Module) (r : Reading) (t u : Bool) → Grows new m.signals → Obeys m r → width m before ≡ 1 → r.signal before ≡ bit_of t → r.signal condition ≡ bit_of u →
      r.signal after ≡ bit_of (t || u)

module _ (old new : List Signal) (before after : Chains) where
  -- where the bit `last` is set the stage that `target` shows follows
  pub record LeadsTo (last target : ℕ) : Type 0 where
    pub grows : Grows old new
    pub bit : AddsBit new before.is_last after.is_last last
    pub stage : (m : Module) (r : Reading) → Grows new m.signals → Obeys m r → r.signal after.stage ≡ (if nat_eq (r.signal last) 0 then r.signal before.stage else r.signal target)
    pub same : after ≡ record before { is_last = after.is_last; stage = after.stage }

  -- where a condition holds the thread waits
  pub record WaitsAt (condition : ℕ) : Type 0 where
    pub grows : Grows old new
    pub bit : AddsBit new before.waits after.waits condition
    pub same : after ≡ record before { waits = after.waits }

-- ---- readings

-- a reading that leaves registers as they are, and in which nothing is waited for
pub record IsStill (r : Reading) (registers : Registers) (c : Chains) : Type 0 where
  pub stage : r.signal c.stage ≡ r.signal registers.stage.register
  pub variables : (x : ℕ) (h : Held) → slice_get registers.variables x ≡ Some h → next_number r c.variables x ≡ r.signal h.register
  pub kept : (x : ℕ) (h : Held) → slice_get registers.kept x ≡ Some h → next_number r c.kept x ≡ r.signal h.register
  pub is_last : r.signal c.is_last ≡ 0
  pub waits : r.signal c.waits ≡ 0

-- chains show the same
pub record ShowSame (r : Reading) (before after : Chains) : Type 0 where
  pub stage : r.signal after.stage ≡ r.signal before.stage
  pub variables : (x : ℕ) → next_number r after.variables x ≡ next_number r before.variables x
  pub kept : (x : ℕ) → next_number r after.kept x ≡ next_number r before.kept x
  pub is_last : (t : Bool) → r.signal before.is_last ≡ bit_of t → r.signal after.is_last ≡ bit_of t
  pub waits : (t : Bool) → r.signal before.waits ≡ bit_of t → r.signal after.waits ≡ bit_of t

-- as many of each
pub record AreAsMany (before after : Chains) : Type 0 where
  pub variables : length after.variables ≡ length before.variables
  pub kept : length after.kept ≡ length before.kept

-- the first links
pub record Begins (old new : List Signal) (registers : Registers) (c : Chains) : Type 0 where
  pub grows : Grows old new
  pub bits : AreBits new c
  pub variables : length c.variables ≡ length registers.variables
  pub kept : length c.kept ≡ length registers.kept
  pub still : (m : Module) (r : Reading) → Grows new m.signals → Obeys m r → IsStill r registers c
