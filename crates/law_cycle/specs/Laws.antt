-- What is proved of the parts of a cycle of the machine: how each thread moves, what all moves make, and who is granted what.
use Rattle.std.specs.Prelude.{◌≡◌, ℕ, ◌<◌, ◌≤◌, ◌++◌, nat_eq, Bool, true, List, length, ℤ, Some}
use Rattle.c_program.specs.Tree.{Program}
use Rattle.interleaving.specs.Memory.{Access}
use Rattle.planned_block.specs.Slot.{Slot}
use Rattle.block_ir.specs.declared.code.Act.{Act}
use Rattle.block_ir.specs.declared.code.Stage.TheVariants as stage
use Rattle.block_ir.specs.Asked.{Asked, asked, core_of}
use Rattle.block_refine.specs.Routines.{stage_at, rest_of}
use Rattle.verilog_meaning.specs.Cycles.{Choice}
use Rattle.circuit.specs.Wiring.{is_enabled}
use Rattle.leaf_machine.specs.Leaves.{leaf_thread}
use Rattle.leaf_machine.specs.Settled.{IsSlot}
use Rattle.thread_promise.specs.Serving.{IsActCore}
use Rattle.code_following.specs.Following.{print_formats}
use Rattle.law_threads.specs.Cores.{Core, may_grant, granted}
use Rattle.law_banks.specs.Memory.{Holds}
use Rattle.law_banks.specs.Cycle.{memory_next}
use Rattle.law_banks.specs.Laws.{owner_of}
use Rattle.law_banks.specs.Partition.{globals_of}
use Rattle.law_cycle.specs.Thread.{IsThread, Stands}
use Rattle.law_cycle.specs.Asks.{AsksAct}
use Rattle.law_cycle.specs.Moved.{Moved}
use Rattle.law_cycle.specs.Built.{Parts, IsBuilt, thread_at}
use Rattle.law_cycle.specs.Bodies.{numbers_of, core_machine}
use Rattle.law_cycle.specs.Stage.{Stage, StepOf, held, news, winner, next_net, granted_to, asks_of, cores_shown, printed_now}
use Rattle.law_cycle.specs.Going.{Goes, in_block}

-- THREADS: each thread of what is built is one of thread_cycle
abbrev pub BuiltAreThreads : Type 0
BuiltAreThreads = (P : Program) (K : Parts) → IsBuilt P K → (i : ℕ) → i < K.cores.threads → IsThread (thread_at P K i)

-- EACH STEPS: each thread makes a step of its own, by what it hears of the cores
abbrev pub EachSteps : Type 0
EachSteps = (P : Program) (K : Parts) → IsBuilt P K → (c : Choice) (h : Stage P K) (i : ℕ) → i < K.cores.threads → StepOf P K c h i

-- DONE: where a thread rests, and only there, its module says that it is done
abbrev pub ThreadsAreDone : Type 0
ThreadsAreDone =
    (P : Program) (K : Parts) → IsBuilt P K → (h : Stage P K) (i : ℕ) → i < K.cores.threads →
    (leaf_thread (K.bodies i).body (K.bodies i).leaf).is_done (h.net.slots i) ≡ nat_eq (h.slots i).stage (rest_of K.codes (h.slots i).routine)

-- what a cycle leaves
pub record Next (P : Program) (K : Parts) (c : Choice) (h : Stage P K) : Type 0 where
  pub slots : ℕ → Slot
  -- by thread and operation what is granted, and by thread the accesses made
  pub grant : ℕ → ℕ → Bool
  pub made : ℕ → List (Access ℤ)
  pub moved : (i : ℕ) → i < K.cores.threads → Moved (thread_at P K i) (is_enabled c.mask i) (granted_to P K c h.net i) (news P K h.net i) h.memory (h.slots i) (slots i)
  pub goes : (i : ℕ) → i < K.cores.threads →
      Goes P K i (is_enabled c.mask i) (asks_of P K c h.net i) (granted_to P K c h.net i) h.memory (h.slots i) (slots i) (grant i) (made i) (cores_shown P K h.net h.out)
  pub beyond : (i : ℕ) → K.cores.threads ≤ i → slots i ≡ h.slots i
  pub fits : (i : ℕ) → i < K.cores.threads → IsSlot (K.bodies i).body ((next_net P K c h.net).slots i)
  pub stands : (i : ℕ) → i < K.cores.threads → Stands (thread_at P K i) ((next_net P K c h.net).slots i) (slots i)
  pub holds : Holds K.spreads (globals_of P) K.cores.threads (held P K (next_net P K c h.net)) (memory_next K.spreads made (winner P K c h.net) h.memory) (λ i. (slots i).words)

-- NET GOES: all threads move at once, and the banks hold the memory with all their accesses
abbrev pub NetGoes : Type 0
NetGoes = (P : Program) (K : Parts) → IsBuilt P K → (c : Choice) (h : Stage P K) → Next P K c h

-- a thread that is granted core k asks it: a bank from within a block, another core at an act
pub data Wins (P : Program) (K : Parts) (c : Choice) (h : Stage P K) (k i : ℕ) : Type 0 where
  WinsBank : (bank : k < length K.cores.banks) (on : is_enabled c.mask i ≡ true) (block : in_block K (h.slots i) ≡ true) → Wins P K c h k i
  WinsCore : (core : IsActCore (numbers_of K.cores) k) (on : is_enabled c.mask i ≡ true) (a : Act) (next : ℕ) (asks : Asked)
      (listed : stage_at K.codes (h.slots i).routine (h.slots i).stage ≡ Some (stage.Act a next)) (is : asked (nat_eq i 0) a (h.slots i).variables ≡ Some asks)
      (names : core_of (numbers_of K.cores) asks ≡ Some k) (hands : AsksAct (asks_of P K c h.net i k) true (core_machine K.cores k).parts asks) → Wins P K c h k i

-- WHO WINS
abbrev pub WhoWins : Type 0
WhoWins = (P : Program) (K : Parts) → IsBuilt P K → (c : Choice) (h : Stage P K) (k i : ℕ) → winner P K c h.net k ≡ Some i → (i < K.cores.threads) × Wins P K c h k i

-- what a cycle does to core k, as the theory has it: it stays, or it is granted to its owner, who may be granted
pub data CoreTurn (P : Program) (K : Parts) (w v : ℕ → Core) (owner : ℕ → ℕ) (k : ℕ) : Type 0 where
  Stays : (same : v k ≡ w k) → CoreTurn P K w v owner k
  Given : (a : Asked) (may : may_grant (w k) (owner k) a ≡ true) (is : v k ≡ granted K.cores.threads (print_formats P) (w k) (owner k) a) → CoreTurn P K w v owner k

-- EACH TURNS
abbrev pub EachTurns : Type 0
EachTurns =
    (P : Program) (K : Parts) → IsBuilt P K → (c : Choice) (h : Stage P K) (k : ℕ) →
    CoreTurn P K (cores_shown P K h.net h.out) (cores_shown P K (next_net P K c h.net) (h.out ++ printed_now P K c h.net)) (λ n. owner_of K.cores.threads (winner P K c h.net n)) k
