-- The machine of a program of T threads, their modules, the banks of the globals and the cores of acts, follows the program: under every list of
-- choices one interleaving has printed what the machine has printed, is ended where the machine is done, has taken steps by a count of cycles, and
-- once it is ended has the globals that the banks have.
use Rattle.std.specs.Prelude.{◌≡◌, ◌↔◌, ◌⊎◌, ℕ, suc, ◌+◌, ◌-◌, ◌/◌, ◌%◌, ◌^◌, ◌<◌, ◌≤◌, true, List, [], ◌∷◌, length, take, Some, slice_get, slice_index, ℤ}
use Rattle.hls_ints.specs.Residues.{residue_of}
use Rattle.hls_ints.specs.Types.{IntegerType, width_of}
use Rattle.c_program.specs.Tree.{Program}
use Rattle.c_program.specs.Weight.{bound}
use Rattle.thread_semantics.specs.Memory.{element}
use Rattle.thread_semantics.specs.State.{State, start}
use Rattle.race_model.specs.Source.{memory_of}
use Rattle.interleaving.specs.Memory.{Location}
use Rattle.thread_semantics.specs.Step.{Steps, after, IsDeadlocked}
use Rattle.thread_semantics.specs.Races.{IsGood}
use Rattle.bank_partition.specs.declared.banks.Spread.{Spread}
use Rattle.verilog_meaning.specs.Cycles.{Choice}
use Rattle.circuit.specs.Modules.{Agree}
use Rattle.circuit.specs.Machines.{ThreadMachine}
use Rattle.circuit.specs.Wiring.{stepped, run, outputs, start as begun}
use Rattle.leaf_machine.specs.Leaves.{leaf_thread}
use Rattle.block_ir.specs.Asked.{printer_core}
use Rattle.law_banks.specs.Partition.{globals_of}
use Rattle.law_cycle.specs.Built.{Parts, Machine, IsBuilt}
use Rattle.law_cycle.specs.Bodies.{numbers_of, core_machine, core_count}
use Rattle.law_cycle.specs.Stage.{Stage, cores_shown, held}
use Rattle.law_net.specs.Start.{AreFirst, IsFresh}

module _ (K : Parts) where
  abbrev pub machine_of_thread : ℕ → ThreadMachine
  machine_of_thread i = leaf_thread (K.bodies i).body (K.bodies i).leaf

  -- ---- runs

  abbrev pub first_machine : Machine K
  first_machine = begun K.cores.threads (core_count K.cores) machine_of_thread (core_machine K.cores)

  abbrev pub next_machine : Machine K → Choice → Machine K
  next_machine h c = stepped K.cores.threads (core_count K.cores) machine_of_thread (core_machine K.cores) c h

  -- from a state
  abbrev pub machine_from : Machine K → List Choice → Machine K
  machine_from h choices = run K.cores.threads (core_count K.cores) machine_of_thread (core_machine K.cores) h choices

  abbrev pub printed_from : Machine K → List Choice → List ℕ
  printed_from h choices = outputs K.cores.threads (core_count K.cores) machine_of_thread (core_machine K.cores) (printer_core (numbers_of K.cores)) h choices

  abbrev pub machine_after : List Choice → Machine K
  machine_after choices = machine_from first_machine choices

  abbrev pub printed_after : List Choice → List ℕ
  printed_after choices = printed_from first_machine choices

  -- ---- counted choices

  -- the choice enables all threads
  abbrev pub IsFull : Choice → Type 0
  IsFull c = c.mask ≡ 2 ^ K.cores.threads - 1

  -- it changes a register or a memory word of a thread's module
  abbrev pub Changes : Machine K → Choice → Type 0
  Changes h c = (i : ℕ) × (i < K.cores.threads) × (Agree (K.bodies i).body (h.slots i) ((next_machine h c).slots i) → ⊥)

  -- so many of these choices enable all threads, or change one
  pub data Counted : Machine K → List Choice → ℕ → Type 0 where
    none : {h : Machine K} → Counted h [] 0
    counts : {h : Machine K} {c : Choice} {choices : List Choice} {n : ℕ} → IsFull c ⊎ Changes h c → Counted (next_machine h c) choices n → Counted h (c ∷ choices) (suc n)
    passes : {h : Machine K} {c : Choice} {choices : List Choice} {n : ℕ} → (IsFull c → ⊥) → (Changes h c → ⊥) → Counted (next_machine h c) choices n →
        Counted h (c ∷ choices) n

module _ (P : Program) (K : Parts) where
  -- element j of the global x is a word of its bank
  abbrev pub HasElement : Machine K → List (List ℤ) → ℕ → ℕ → Type 0
  HasElement h values x j =
      (s : Spread) (ty : IntegerType) (v : ℤ) → slice_get K.spreads x ≡ Some s → slice_get (globals_of P) x ≡ Some ty → element values x j ≡ Some v →
      slice_index (held P K h (s.first + j % s.count)).words (j / s.count) ≡ residue_of (width_of ty) v

  -- a stage at which the program may begin: its memory has the first values of the globals, the cores are what they begin with, and no thread has moved
  pub record IsFirst (first : Stage P K) : Type 0 where
    pub out : first.out ≡ []
    pub slots : (i : ℕ) → IsFresh P K.codes i (first.slots i)
    pub memory : (l : Location) → first.memory l ≡ memory_of (start P).globals l
    pub cores : AreFirst P (numbers_of K.cores) K.cores.threads (cores_shown P K first.net first.out)

  -- from a state, after these choices the machine, with out printed, is where these steps lead
  pub record MatchesFrom (from h : Machine K) (out steps : List ℕ) (choices : List Choice) : Type 0 where
    pub state : State
    pub after_ : after P steps ≡ Steps state
    pub printed : out ≡ state.output
    pub done : ((machine_of_thread K 0).is_done (h.slots 0) ≡ true) ↔ (state.ended ≡ true)
    pub globals : state.ended ≡ true → (x j : ℕ) → HasElement h state.globals x j
    pub progress : (state.ended ≡ true)
        ⊎ (IsDeadlocked P state
        ⊎ (((c : Choice) → IsFull K c → Changes K h c) × ((n : ℕ) → Counted K from choices n → n / bound P ≤ length steps + K.cores.threads)))

  abbrev pub Matches : Machine K → List ℕ → List ℕ → List Choice → Type 0
  Matches = MatchesFrom (first_machine K)

  -- one interleaving, of which each moment of the run has a beginning that matches it
  pub record FollowsFrom (from : Machine K) (choices : List Choice) : Type 0 where
    pub interleaving : List ℕ
    pub steps : ℕ → ℕ
    pub rises : (n : ℕ) → steps n ≤ steps (suc n)
    pub rests : (n : ℕ) (c : Choice) → slice_get choices n ≡ Some c → (Changes K (machine_from K from (take n choices)) c → ⊥) → steps (suc n) ≡ steps n
    pub matches : (n : ℕ) → n ≤ length choices →
        MatchesFrom from (machine_from K from (take n choices)) (printed_from K from (take n choices)) (take (steps n) interleaving) (take n choices)

  abbrev pub Follows : List Choice → Type 0
  Follows = FollowsFrom (first_machine K)

-- THE MACHINE FOLLOWS: what is built of a good program follows it, whatever the choices
abbrev pub MachineFollows : Type 0
MachineFollows = (P : Program) (K : Parts) → IsBuilt P K → IsGood P → (choices : List Choice) → Follows P K choices

-- THE MACHINE FOLLOWS FROM EACH FRESH STATE: whatever the variables and arrays of threads hold, and whatever words banks keep for them
abbrev pub MachineFollowsFrom : Type 0
MachineFollowsFrom =
    (P : Program) (K : Parts) → IsBuilt P K → IsGood P → (first : Stage P K) → IsFirst P K first → (choices : List Choice) → FollowsFrom P K first.net choices
