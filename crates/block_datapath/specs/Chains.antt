-- What registers hold next: chains of conditionals, one link for each place in the code that sets a register.
use Rattle.std.specs.Prelude.{◌≡◌, ℕ, ◌<◌, ◌≤◌, ◌^◌, nat_eq, Bool, true, false, not, ◌&&◌, if◌then◌else◌, List, length, slice_index, slice_get, Option, Some, None}
use Rattle.hls_ints.specs.Residues.{bit_of}
use Rattle.netlist.specs.declared.netlist.Signal.{Signal}
use Rattle.netlist.specs.declared.netlist.Module.{Module}
use Rattle.verilog_meaning.specs.Readings.{Reading, width}
use Rattle.planned_block.specs.Advance.{last_of, is_register}
use Rattle.operator_wires.specs.Modules.{Obeys}
use Rattle.operator_wires.specs.Gives.{Grows}
use Rattle.operator_wires.specs.Words.{resized_word}
use Rattle.block_datapath.specs.declared.registers.Held.{Held}
use Rattle.block_datapath.specs.declared.registers.Registers.{Registers}
use Rattle.block_datapath.specs.declared.operands.Given.{Given}
use Rattle.block_datapath.specs.declared.states.Moment.{Moment}

-- what register x of these holds next
abbrev pub next_number : Reading → List ℕ → ℕ → ℕ
next_number r nexts x = r.signal (slice_index nexts x)

-- a signal is not 0
abbrev pub is_set : Reading → ℕ → Bool
is_set r c = not (nat_eq (r.signal c) 0)

-- where the condition holds the register of that number gets what the source shows; all else stays
pub record SetsNext (old new : List Signal) (before after : List ℕ) (number condition source : ℕ) : Type 0 where
  pub grows : Grows old new
  pub count : length after ≡ length before
  pub shows : (m : Module) (r : Reading) (x : ℕ) → Grows new m.signals → Obeys m r → x < length before →
      next_number r after x ≡ (if nat_eq x number && is_set r condition then r.signal source else next_number r before x)

-- ---- stages and states

-- a bit that tells whether the slot is at stage l
pub record TellsStage (old new : List Signal) (registers : Registers) (l place : ℕ) : Type 0 where
  pub grows : Grows old new
  pub wide : (m : Module) → Grows new m.signals → width m place ≡ 1
  pub shows : (m : Module) (r : Reading) → Grows new m.signals → Obeys m r → width m registers.stage.register ≡ registers.stage.width → l < 2 ^ registers.stage.width →
      r.signal registers.stage.register < 2 ^ registers.stage.width → r.signal place ≡ bit_of (nat_eq (r.signal registers.stage.register) l)

-- a reading is at a stage, or not, and there in a state
pub record IsMoment (m : Module) (r : Reading) (registers : Registers) (at states : ℕ) (t : Bool) (s : ℕ) : Type 0 where
  pub wide : width m at ≡ 1
  pub shows : r.signal at ≡ bit_of t
  pub state_wide : t ≡ true → width m registers.state.register ≡ registers.state.width
  pub state : t ≡ true → r.signal registers.state.register ≡ s
  pub below : t ≡ true → s < states
  pub room : t ≡ true → states ≤ 2 ^ registers.state.width

-- a bit that tells whether the slot is in this state of a stage
pub record TellsState (old new : List Signal) (registers : Registers) (moment : Moment) (place : ℕ) : Type 0 where
  pub grows : Grows old new
  pub wide : (m : Module) → Grows new m.signals → width m moment.at ≡ 1 → width m place ≡ 1
  pub shows : (m : Module) (r : Reading) (t : Bool) (s : ℕ) → Grows new m.signals → Obeys m r → IsMoment m r registers moment.at moment.states t s → moment.state < moment.states →
      r.signal place ≡ bit_of (t && nat_eq s moment.state)
  -- not where the slot is at another stage
  pub rests : (m : Module) (r : Reading) → Grows new m.signals → Obeys m r → width m moment.at ≡ 1 → r.signal moment.at ≡ 0 → r.signal place ≡ 0

-- ---- values that are kept

abbrev pub held_width : Option Held → ℕ
held_width None = 0
held_width (Some h) = h.width

-- a value is kept in register x when state s is left
abbrev pub keeps_in : Option Given → Bool → ℕ → ℕ → Bool
keeps_in None t s x = false
keeps_in (Some g) t s x = t && nat_eq s g.last && is_register g.register x

-- the number of its word, in a register of w bits
abbrev pub kept_number : Reading → ℕ → Option Given → ℕ
kept_number r w None = 0
kept_number r w (Some g) = resized_word false g.word.width w (r.signal g.word.place)

-- a value can be kept when state s of so many is left
pub record CanKeep (m : Module) (states : ℕ) (t : Bool) (s : ℕ) (g : Given) : Type 0 where
  pub below : g.last < states
  pub wide : (t && nat_eq s g.last) ≡ true → width m g.word.place ≡ g.word.width

-- at another stage nothing is kept
abbrev pub KeepsNone : List Signal → ℕ → List ℕ → List ℕ → Type 0
KeepsNone new end_at before after =
    (m : Module) (r : Reading) (x : ℕ) → Grows new m.signals → Obeys m r → width m end_at ≡ 1 → r.signal end_at ≡ 0 → x < length before →
    next_number r after x ≡ next_number r before x

pub record KeepsOne (old new : List Signal) (registers : Registers) (end_at states : ℕ) (before after : List ℕ) (g : Given) : Type 0 where
  pub grows : Grows old new
  pub count : length after ≡ length before
  pub shows : (m : Module) (r : Reading) (t : Bool) (s x : ℕ) → Grows new m.signals → Obeys m r → IsMoment m r registers end_at states t s → CanKeep m states t s g →
      x < length before →
      length before ≡ length registers.kept →
      next_number r after x ≡ (if keeps_in (Some g) t s x then kept_number r (held_width (slice_get registers.kept x)) (Some g) else next_number r before x)
  pub rests : KeepsNone new end_at before after

-- REGISTERS KEEP the first n of these values, each when its operation's last state is left
pub record KeepsFirst (old new : List Signal) (registers : Registers) (end_at states : ℕ) (before after : List ℕ) (values : List Given) (n : ℕ) : Type 0 where
  pub grows : Grows old new
  pub count : length after ≡ length before
  pub shows : (m : Module) (r : Reading) (t : Bool) (s x : ℕ) → Grows new m.signals → Obeys m r → IsMoment m r registers end_at states t s →
      ((k : ℕ) (g : Given) → slice_get values k ≡ Some g → CanKeep m states t s g) → x < length before → length before ≡ length registers.kept →
      next_number r after x
      ≡ last_of (λ k. keeps_in (slice_get values k) t s x) (λ k. kept_number r (held_width (slice_get registers.kept x)) (slice_get values k)) (next_number r before x) n
  pub rests : KeepsNone new end_at before after
