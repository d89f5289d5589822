-- Each list of choices leads to a state with what was written.
use Rattle.std.proofs.Common.{ℕ, ◌++◌, List, [], ◌∷◌, refl, arith}
use Rattle.std.specs.List.{All}
use Rattle.std.proofs.lemmas.List.Elements.{All-head, All-tail}
use Rattle.c_program.specs.Tree.{Program}
use Rattle.netlist.specs.declared.netlist.Module.{Module}
use Rattle.verilog_meaning.specs.Cycles.{Valuation, Choice, IsState, IsSameIn, Cycle, Runs, next_state, initial_state}
use Rattle.verilog_meaning.specs.Threads.{IsChoice}
use Rattle.circuit.specs.Wiring.{output}
use Rattle.circuit.proofs.Staged.{staged_settles, no_deeper}
use Rattle.circuit.proofs.NetRuns.{step_is_written}
use Rattle.block_ir.specs.Asked.{printer_core}
use Rattle.law_cycle.specs.Built.{Parts, Machine}
use Rattle.law_cycle.specs.Bodies.{numbers_of, core_machine, core_count}
use Rattle.law_net.specs.Follows.{machine_of_thread, first_machine, next_machine}
use Rattle.law_net.specs.Whole.{places_of, IsWhole, RunsExist}
use Rattle.law_net.proofs.Cycles.{Shows, prints_alone, initial_shows, cycle_shows, initial_is_state, cycle_state}

-- a state is the same as itself
same_here : (modules : List Module) (top : Module) (h : Valuation) → IsSameIn modules top [] h h
same_here modules top h = record { registers = λ path m x s at is. refl; words = λ path m j k s has l. refl }

module _ (P : Program) (K : Parts) (modules : List Module) (top : Module) (whole : IsWhole P K modules top) where
  -- a state that shows one of the machine has a cycle under each choice
  some_cycle : (h : Valuation) (c : Choice) → IsState modules top h → IsChoice K.cores.threads c → (s : Machine K) →
      Shows P K modules top whole h s → (g : Valuation) × (out : List ℕ) × Cycle modules top h c g out
  some_cycle h c state choice s shown =
      let v = staged_settles modules top whole.stages whole.staged h c state (whole.fits c choice) in (
        next_state modules top v.0,
        output K.cores.threads (core_count K.cores) (machine_of_thread K) (core_machine K.cores) c s (printer_core (numbers_of K.cores)),
        record {
          through = v.0;
          settled = v.1;
          next = same_here modules top (next_state modules top v.0);
          written =
              step_is_written K.cores.threads (core_count K.cores) (machine_of_thread K) (core_machine K.cores)
              (places_of P K modules top whole.at) modules top whole.net
              (no_deeper modules top whole.stages whole.staged) (printer_core (numbers_of K.cores)) (prints_alone P K modules top whole)
              h v.0 c v.1 s shown (omega arith);
        },
      )

  runs_from : (choices : List Choice) → All (IsChoice K.cores.threads) choices → (h : Valuation) → IsState modules top h → (s : Machine K) →
      Shows P K modules top whole h s → (g : Valuation) × (out : List ℕ) × Runs modules top h choices g out
  runs_from [] all h state s shown = (h, [], (same_here modules top h, refl))
  runs_from (c ∷ choices) all h state s shown =
      let step = some_cycle h c state (All-head (IsChoice K.cores.threads) c choices all) s shown in
      let rest =
      runs_from choices (All-tail (IsChoice K.cores.threads) c choices all) step.0
      (cycle_state P K modules top whole h step.0 c step.1 state step.2)
      (next_machine K s c)
      (cycle_shows P K modules top whole h step.0 c step.1 s step.2 shown) in
      (rest.0, step.1 ++ rest.1, (step.0, step.1, rest.1, step.2, rest.2, refl))

  pub runs_exist : RunsExist modules top K.cores.threads
  runs_exist choices all =
      runs_from choices all (initial_state modules top) (initial_is_state P K modules top whole)
      (first_machine K)
      (initial_shows P K modules top whole)
