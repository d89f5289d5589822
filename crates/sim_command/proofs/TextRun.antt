-- What was read and run is what becomes of the text.
use Rattle.std.specs.Prelude.{◌≡◌, ℕ, List, Result, Ok, Err, IfOk}
use Rattle.std.proofs.Common.{ap, ◌∙◌, subst}
use Rattle.verilog_tree.specs.declared.tree.Net.{Net}
use Rattle.verilog_tree.specs.Spelling.{Text}
use Rattle.netlist.specs.declared.netlist.Module.{Module}
use Rattle.netlist.specs.declared.netlist.Netlist.{Netlist}
use Rattle.sim_layout.specs.Rounds.{threads_of}
use Rattle.cycle_sim.specs.Round.{IsRound}
use Rattle.cycle_sim.specs.declared.run.Ran.{Ran}
use Rattle.verilog_reader.specs.declared.read.ReadError.{ReadError}
use Rattle.verilog_reader.specs.declared.read.ReadError.TheVariants as read
use Rattle.verilog_reader.specs.Faults.{IsRead}
use Rattle.verilog_reader.specs.Answers.{TellsNotNet, Finds}
use Rattle.sim_loops.specs.First.{IsLoopless}
use Rattle.sim_command.specs.declared.sim.SimError.{SimError}
use Rattle.sim_command.specs.Simulated.{IsRun, IsSimulatedRun, IsNetlistOf, Fails, not_read}

pub fails : (text : Text) (e : ReadError) → TellsNotNet text e → ((n : Net) → IsRead text n → Finds n (Err e)) → Fails text (not_read e)
fails text (read.NotNet offset) tells every = (tells, every)
fails text read.Memory tells every = tt

pub runs : (text : Text) (l : Netlist) (modules : List Module) (most : ℕ) → IsNetlistOf text l → modules ≡ l.modules → (r : Result Ran SimError) → IfOk r (IsRun modules most)
    → IfOk r (IsSimulatedRun text most)
runs text l modules most of same (Ok r) is =
    let there = same ∙ ap (λ (k : Netlist). k.modules) of.2 in
    record {
      net = of.0;
      read = of.1;
      loopless = subst IsLoopless there is.loopless;
      ran = subst (λ (ms : List Module). IsRound ms (threads_of ms) most r.cycles r.is_done r.printed) there is.ran;
    }
runs text l modules most of same (Err e) is = tt
