-- The whole net of a program of T threads: the threads' modules, the banks of the globals and the cores of acts, each behind its arbiter, and the
-- wires between them; and that it follows the program.
use Rattle.std.specs.Prelude.{◌≡◌, ◌⊎◌, ℕ, ◌+◌, ◌<◌, List, [], ◌∷◌, All, codes, decimal, Some, slice_get}
use Rattle.c_program.specs.Tree.{GlobalVariable, Program}
use Rattle.c_program.specs.Weight.{thread_count}
use Rattle.bank_partition.specs.declared.banks.Spread.{Spread}
use Rattle.bank_cores.specs.declared.bank.Shape.{Shape as Bank}
use Rattle.bank_cores.specs.Bank.{memory_of}
use Rattle.thread_semantics.specs.Races.{IsGood}
use Rattle.netlist.specs.declared.netlist.Value.TheVariants.{Copy}
use Rattle.netlist.specs.declared.netlist.Source.{Source}
use Rattle.netlist.specs.declared.netlist.Source.TheVariants.{Assigned, Port}
use Rattle.netlist.specs.declared.netlist.Signal.{Signal}
use Rattle.netlist.specs.declared.netlist.Module.{Module}
use Rattle.verilog_meaning.specs.Names.{IsMinimal, IsSignal}
use Rattle.verilog_meaning.specs.Ports.{HasDone}
use Rattle.verilog_meaning.specs.Cycles.{Valuation, Choice, module_at, Reaches}
use Rattle.verilog_meaning.specs.Threads.{slot, IsChoice}
use Rattle.verilog_meaning.specs.Follows.{BankOf, Bank as BankInstance, IsDetermined, FollowsAlways}
use Rattle.circuit.specs.Arbitration.{ArbiterPlaces}
use Rattle.circuit.specs.Nets.{FitsChoice}
use Rattle.circuit.specs.Staging.{Stages, IsStaged}
use Rattle.circuit.specs.Wiring.{NetPlaces, IsNet}
use Rattle.leaf_machine.specs.Leaves.{leaf_places}
use Rattle.law_cycle.specs.Family.{places_at}
use Rattle.law_cycle.specs.Built.{Parts, IsBuilt}
use Rattle.law_cycle.specs.Bodies.{core_machine, core_count}
use Rattle.law_cycle.specs.Kinds.{kinds_of}
use Rattle.law_net.specs.Follows.{machine_of_thread}
use Rattle.good_verilog.specs.Program.{seen_of}

module _ (P : Program) (K : Parts) (modules : List Module) (top : Module) where
  -- which instances of the outermost module are the threads, the cores and their arbiters
  pub record Instances : Type 0 where
    pub thread : ℕ → ℕ
    pub core : ℕ → ℕ
    pub arbiter : ℕ → ℕ
    pub arbiter_places : ArbiterPlaces

  abbrev pub places_of : Instances → NetPlaces K.cores.threads (core_count K.cores) (machine_of_thread K) (core_machine K.cores)
  places_of at = record {
    thread_at = at.thread;
    core_at = at.core;
    arbiter_at = at.arbiter;
    thread = λ i. leaf_places (K.bodies i).body (K.bodies i).leaf;
    core = λ k. places_at (kinds_of K.cores) k;
    arbiter = λ k. at.arbiter_places;
  }

  -- a signal of the outermost module has this source, or is a copy of a wire that has
  abbrev pub Carries : Signal → Source → Type 0
  Carries s source =
      (s.source ≡ source) ⊎ ((wire : ℕ) × (driven : Signal) × (s.source ≡ Assigned (Copy wire)) × (slice_get top.signals wire ≡ Some driven) × (driven.source ≡ source))

  -- the output done of the outermost module is main's
  pub record TellsDone (at : Instances) : Type 0 where
    pub shows : HasDone top
    pub only : (x : ℕ) (s : Signal) → IsSignal top (codes "done") x s → x ≡ shows.place
    pub drives : Carries shows.signal (Port (at.thread 0) (K.bodies 0).leaf.done)

  -- bank k of a global is the instance of its name, which has the memory of its core and no other, and no other instance has the name of one
  pub record AreBanked (at : Instances) : Type 0 where
    pub stands : (x k : ℕ) (g : GlobalVariable) (s : Spread) → slice_get P.globals x ≡ Some g → slice_get K.spreads x ≡ Some s → k < s.count →
        (b : BankInstance modules top g.name k) × (b.place ≡ at.core (s.first + k)) × (b.number ≡ 0) ×
        ((c : Bank) → slice_get K.cores.banks (s.first + k) ≡ Some c → b.memory ≡ memory_of c)
    pub only : (x : ℕ) (g : GlobalVariable) (s : Spread) → slice_get P.globals x ≡ Some g → slice_get K.spreads x ≡ Some s → (digits : List ℕ) → IsMinimal digits →
        BankOf modules top g.name digits → (k : ℕ) × (k < s.count) × (digits ≡ decimal k)

  -- what is built of a program, wired to a net whose signals have stages
  pub record IsWhole : Type 0 where
    pub built : IsBuilt P K
    pub at : Instances
    pub net : IsNet K.cores.threads (core_count K.cores) (machine_of_thread K) (core_machine K.cores) (places_of at) modules top
    pub runs : (i : ℕ) → i < K.cores.threads → module_at modules top (at.thread i ∷ []) ≡ Some (K.bodies i).body
    pub named : (i : ℕ) → i < K.cores.threads → slot modules top K.cores.threads i ≡ at.thread i ∷ []
    pub done : TellsDone at
    pub banked : AreBanked at
    pub stages : Stages
    pub staged : IsStaged modules top stages
    pub fits : (c : Choice) → IsChoice K.cores.threads c → FitsChoice modules top c

-- each list of choices leads to a state with what was written
abbrev pub RunsExist : List Module → Module → ℕ → Type 0
RunsExist modules top threads = (choices : List Choice) → All (IsChoice threads) choices → (h : Valuation) × (out : List ℕ) × Reaches modules top choices h out

-- THE NET FOLLOWS: the net of a program is determined, has a run for every list of choices, and follows the program if it is good
abbrev pub NetFollows : Type 0
NetFollows =
    (P : Program) (K : Parts) (modules : List Module) (top : Module) → IsWhole P K modules top →
    IsDetermined modules top (thread_count P) × RunsExist modules top (thread_count P) × (IsGood P → FollowsAlways modules top (thread_count P) (seen_of P))
