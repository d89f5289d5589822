-- The module top_rr: all threads are enabled, and every preference is a counter of 4 bits, widened by zeros.
use Rattle.std.specs.Prelude.{◌≡◌, ℕ, ◌-◌, ◌^◌, false, List, [], ◌∷◌, ◌++◌, replicate, codes}
use Rattle.verilog_tree.specs.declared.tree.BinaryOperator.TheVariants.{Add}
use Rattle.netlist.specs.declared.netlist.Value.TheVariants.{Constant, Binary, Concatenation}
use Rattle.netlist.specs.declared.netlist.Source.{Source}
use Rattle.netlist.specs.declared.netlist.Source.TheVariants.{Register, Assigned, Port}
use Rattle.netlist.specs.declared.netlist.Signal.{Signal}
use Rattle.netlist.specs.declared.netlist.Effect.TheVariants.{Set}
use Rattle.netlist.specs.declared.netlist.Action.{Action}
use Rattle.netlist.specs.declared.netlist.Instance.{Instance}
use Rattle.netlist.specs.declared.netlist.Module.{Module}
use Rattle.verilog_meaning.specs.Names.{numbered}
use Rattle.top_wiring.specs.Top.{input, output}

abbrev pub inner : List ℕ → ℕ → ℕ → Source → Signal
inner stem place width source = record { name = numbered stem place; width = width; is_output = false; source = source }

-- the clock, the counter, 1, and their sum
abbrev pub counting : List Signal
counting =
    input (codes "clk") 1
    ∷ inner (codes "counter") 1 4 (Register 0)
    ∷ inner (codes "w") 2 4 (Assigned (Constant 1))
    ∷ inner (codes "w") 3 4 (Assigned (Binary Add 1 2))
    ∷ []

-- of a top of n threads, whose output done stands at a place: behind those the mask, what the top shows, two zeros, the preferred thread, and done
abbrev pub round_signals : ℕ → ℕ → List Signal
round_signals n done =
    counting
    ++ inner (codes "w") 4 n (Assigned (Constant (2 ^ n - 1)))
    ∷ inner (codes "w") 5 1 (Port 0 done)
    ∷ inner (codes "w") 6 2 (Assigned (Constant 0))
    ∷ inner (codes "w") 7 6 (Assigned (Concatenation (6 ∷ 1 ∷ [])))
    ∷ output 5
    ∷ []

-- the top of k cores, which is module number `top`
abbrev pub top_instance : ℕ → ℕ → Instance
top_instance top k = record { name = numbered (codes "dut") 0; of = top; inputs = 0 ∷ 4 ∷ [] ++ replicate k 7; outputs = 5 ∷ [] }

abbrev pub count : Action
count = record { conditions = []; effect = Set 1 3 }

pub record IsRound (n top done k : ℕ) (m : Module) : Type 0 where
  pub named : m.name ≡ codes "top_rr"
  pub signals : m.signals ≡ round_signals n done
  pub memories : m.memories ≡ []
  pub actions : m.actions ≡ count ∷ []
  pub instances : m.instances ≡ top_instance top k ∷ []
