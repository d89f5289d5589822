-- What it is for a net to follow a program from a state; and that the net of a program does so from each state that shows one at which the program may begin.
use Rattle.std.specs.Prelude.{◌≡◌, ◌↔◌, ℕ, suc, ◌+◌, ◌/◌, ◌≤◌, ◌⊎◌, List, length, take, [], Some, slice_get}
use Rattle.c_program.specs.Tree.{Program as CProgram}
use Rattle.thread_semantics.specs.Races.{IsGood}
use Rattle.netlist.specs.declared.netlist.Module.{Module}
use Rattle.verilog_meaning.specs.Cycles.{Valuation, Choice, IsState, Cycle, Runs, ShowsDone}
use Rattle.verilog_meaning.specs.Threads.{ChangesSlot, all_enabled, Counted}
use Rattle.verilog_meaning.specs.Follows.{Program, HasWord, Lively}
use Rattle.circuit.specs.Wiring.{ShowsAll}
use Rattle.good_verilog.specs.Program.{seen_of}
use Rattle.law_cycle.specs.Built.{Parts}
use Rattle.law_cycle.specs.Bodies.{core_machine, core_count}
use Rattle.law_cycle.specs.Stage.{Stage}
use Rattle.law_net.specs.Follows.{machine_of_thread, IsFirst}
use Rattle.law_net.specs.Whole.{places_of, IsWhole}

module _ (modules : List Module) (top : Module) (threads : ℕ) {State : Type 0} (P : Program State) (from : Valuation) where
  -- after these choices from there the net, in h with out written, is where these steps lead
  pub record MatchesFrom (choices : List Choice) (h : Valuation) (out : List ℕ) (steps : List ℕ) : Type 0 where
    pub state : State
    pub after : P.After steps state
    pub printed : out ≡ P.output state
    pub done : ShowsDone modules top h (all_enabled threads []) 1 ↔ P.IsEnded state
    pub globals : P.IsEnded state → (x : List ℕ) (j width word : ℕ) → P.Holds state x j width word → HasWord modules top h x j width word
    pub progress : P.IsEnded state
        ⊎ (P.IsDeadlocked state ⊎ (Lively modules top threads P h × ((m : ℕ) → Counted modules top threads from choices m → m / P.bound ≤ length steps + threads)))

  pub record FollowsFrom (choices : List Choice) : Type 0 where
    pub interleaving : List ℕ
    pub steps : ℕ → ℕ
    pub rises : (n : ℕ) → steps n ≤ steps (suc n)
    pub rests : (n : ℕ) (c : Choice) (h g : Valuation) (out written : List ℕ) → slice_get choices n ≡ Some c → Runs modules top from (take n choices) h out → Cycle modules top h c g written
        → (ChangesSlot modules top threads h g → ⊥) → steps (suc n) ≡ steps n
    pub matches : (n : ℕ) (h : Valuation) (out : List ℕ) → n ≤ length choices → Runs modules top from (take n choices) h out → MatchesFrom (take n choices) h out (take (steps n) interleaving)

-- THE NET FOLLOWS FROM EACH FRESH STATE
abbrev pub NetFollowsFrom : Type 0
NetFollowsFrom =
    (P : CProgram) (K : Parts) (modules : List Module) (top : Module) (whole : IsWhole P K modules top) (from : Valuation) → IsState modules top from → (first : Stage P K) → IsFirst P K first →
    ShowsAll K.cores.threads (core_count K.cores) (machine_of_thread K) (core_machine K.cores) (places_of P K modules top whole.at) modules top from first.net → IsGood P → (choices : List Choice) →
    FollowsFrom modules top K.cores.threads (seen_of P) from choices
