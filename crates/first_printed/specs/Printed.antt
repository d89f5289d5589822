-- A theorem about one program that stands alone: what the hardware of the first example prints.
use Rattle.std.specs.Prelude.{◌≡◌, ℕ, List, length, All, codes, [], ◌∷◌, ◌++◌}
use Rattle.netlist.specs.NetlistOf.{netlist_of}
use Rattle.netlist.specs.declared.netlist.Module.{Module}
use Rattle.verilog_meaning.specs.Cycles.{Valuation, Choice, Reaches, ShowsDone}
use Rattle.verilog_meaning.specs.Threads.{IsChoice, all_enabled}
use Rattle.sim_layout.specs.Rounds.{rounds}
use Rattle.good_programs.specs.Samples.{first}
use Rattle.good_verilog.specs.GoodVerilog.{IsGoodVerilog}

-- these choices lead the net from its initial constants to a state in which done is shown, and to no other, with 42 and a line feed
-- written
pub record Prints42 (modules : List Module) (top : Module) (choices : List Choice) : Type 0 where
  pub state : Valuation
  pub out : List ℕ
  pub reached : Reaches modules top choices state out
  pub printed : (h : Valuation) (bytes : List ℕ) → Reaches modules top choices h bytes → (bytes ≡ codes "42" ++ 10 ∷ []) × ShowsDone modules top h (all_enabled 1 []) 1

-- int main(void) { int x = 6; x = x * 7; printf("%d\n", x); return 0; } has the weight 6, so at most 448 changes between two of its
-- five steps: after 3,136 cycles in each of which its thread is enabled it has printed and returned
abbrev pub FirstPrints : Type 0
FirstPrints =
    (text : List ℕ) (good : IsGoodVerilog first text) (choices : List Choice) → length choices ≡ 3136 → All (IsChoice 1) choices
    → All (λ c. c.mask ≡ 1) choices → Prints42 (netlist_of good.net).modules good.top choices

-- in particular under the choices of `top_rr`, with however many arbiters
abbrev pub RoundsPrint : Type 0
RoundsPrint = (text : List ℕ) (good : IsGoodVerilog first text) (prefs : ℕ) → Prints42 (netlist_of good.net).modules good.top (rounds 1 prefs 3136)
