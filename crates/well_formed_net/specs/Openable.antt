-- Which nets of texts a simulator takes.
use Rattle.std.specs.Prelude.{◌≡◌, ℕ, ◌≤◌, Some, slice_get, codes}
use Rattle.verilog_tree.specs.declared.tree.Direction.TheVariants as direction
use Rattle.verilog_tree.specs.declared.tree.Port.{Port}
use Rattle.verilog_tree.specs.declared.tree.Module as text
use Rattle.verilog_tree.specs.declared.tree.Net.{Net}
use Rattle.verilog_tree.specs.WellFormed.{IsWellFormed}
use Rattle.netlist.specs.declared.netlist.Module.{Module}
use Rattle.netlist.specs.NetlistOf.{netlist_of, width_of}
use Rattle.verilog_meaning.specs.Names.{numbered, top_of}
use Rattle.verilog_meaning.specs.Ports.{HasDone}
use Rattle.cycle_sim.specs.Opened.{IsOpenable}
use Rattle.cycle_sim.specs.Right.{HasWidePrefs}

-- the netlist of a well-formed text can be opened where its module `top` has an output `done` of one bit and where the inputs `pref_k` of `top`
-- have 4 bits or more
abbrev pub OpenableOfWellFormed : Type 0
OpenableOfWellFormed =
    (n : Net) → IsWellFormed n → (top : Module) → top_of (netlist_of n).modules ≡ Some top → HasDone top → HasWidePrefs top → IsOpenable (netlist_of n).modules

-- ---- the same of the text alone

-- a text has a module `top` with an output port `done` of one bit, whose input ports `pref_k` have 4 bits or more
pub record HasTop (n : Net) : Type 0 where
  pub number : ℕ
  pub top : text.Module
  pub listed : slice_get n.modules number ≡ Some top
  pub named : top.name ≡ codes "top"
  pub place : ℕ
  pub done : Port
  pub done_listed : slice_get top.ports place ≡ Some done
  pub done_named : done.name ≡ codes "done"
  pub done_out : done.direction ≡ direction.Output
  pub done_bit : width_of done.high ≡ 1
  pub wide : (x k : ℕ) (p : Port) → slice_get top.ports x ≡ Some p → p.direction ≡ direction.Input → p.name ≡ numbered (codes "pref") k → 4 ≤ width_of p.high

-- the netlist of a well-formed text with such a module can be opened
abbrev pub OpenableText : Type 0
OpenableText = (n : Net) → IsWellFormed n → HasTop n → IsOpenable (netlist_of n).modules
