-- A run of a net under the choices of `top_rr`, as a value change dump.
use Rattle.std.specs.Prelude.{◌≡◌, ℕ, ◌<◌, ◌≤◌, Bool, false, List, ◌++◌, map, length, Some, slice_index}
use Rattle.netlist.specs.declared.netlist.Module.{Module}
use Rattle.verilog_meaning.specs.Names.{top_of}
use Rattle.verilog_meaning.specs.Cycles.{Valuation, Reaches, initial_state}
use Rattle.sim_layout.specs.Rounds.{prefs_of, Tells, IsGoing}
use Rattle.cycle_sim.specs.Round.{turns}
use Rattle.vcd_text.specs.Recover.{unlines, frames, recover}
use Rattle.net_registers.specs.Marks.{Register, Mark, AreMarks, registers_of}
use Rattle.net_registers.specs.Heads.{head_lines, width_of, number_in}

-- the numbers of these registers after so many cycles
pub record AreNumbers (modules : List Module) (top : Module) (threads : ℕ) (registers : List Register) (cycles : ℕ) (numbers : List ℕ) : Type 0 where
  pub state : Valuation
  pub out : List ℕ
  pub reached : Reaches modules top (turns modules threads cycles) state out
  pub are : numbers ≡ map (number_in state) registers

-- of at most so many cycles so many ran, the fewest after which done is shown, else all; the text is their dump
pub record IsTraced (modules : List Module) (threads most cycles : ℕ) (done : Bool) (text : List ℕ) : Type 0 where
  pub top : Module
  pub is_top : top_of modules ≡ Some top
  pub marks : List Mark
  pub are : AreMarks modules marks
  pub within : cycles ≤ most
  pub going : (n : ℕ) → n < cycles → IsGoing modules top threads (prefs_of modules) (initial_state modules top) n
  pub values : ℕ → List ℕ
  pub each : (n : ℕ) → n ≤ cycles → AreNumbers modules top threads (registers_of marks) n (values n)
  pub text_is : text ≡ unlines (head_lines marks) ++ frames (map width_of (registers_of marks)) values cycles
  pub last : Valuation
  pub out : List ℕ
  pub ends : Reaches modules top (turns modules threads cycles) last out
  pub tells : Tells modules top threads last done
  pub all : done ≡ false → cycles ≡ most
  -- what the text says of register k after n cycles is its number then
  pub recovers : (n k : ℕ) → n ≤ cycles → k < length (registers_of marks) → recover text n k ≡ Some (slice_index (values n) k)
