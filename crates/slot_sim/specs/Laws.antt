-- What the slot calls rest on.
use Rattle.std.specs.Prelude.{◌≡◌, ℕ, ◌<◌, Bool, List, [], Some}
use Rattle.netlist.specs.declared.netlist.Module.{Module}
use Rattle.verilog_meaning.specs.Names.{top_of}
use Rattle.verilog_meaning.specs.Cycles.{Valuation, Choice, IsState, Cycle, Runs, ShowsDone}
use Rattle.verilog_meaning.specs.Threads.{slot, alone, all_enabled, IsSame, IsSameSlot, Needs, IsThreaded, Moves, times}
use Rattle.sim_layout.specs.Running.{Running, Stands, state_of, Fits, IsSameNet}
use Rattle.sim_layout.specs.Rounds.{threads_of}
use Rattle.slot_sim.specs.Threaded.{IsSameBut, Advances}
use Rattle.slot_sim.specs.Slots.{TellsNeed, Moving}

-- the choice of a thread alone fits
abbrev pub AloneFits : Type 0
AloneFits = (r : Running) → Stands r → (i : ℕ) → i < threads_of r.modules → Fits r (alone i)

-- need is told in one way
abbrev pub NeedIsTold : Type 0
NeedIsTold = (r : Running) (threads i : ℕ) (a b : Bool) → ((top : Module) → top_of r.modules ≡ Some top → IsThreaded r.modules top threads) → i < threads
    → TellsNeed threads i r a → TellsNeed threads i r b → a ≡ b

-- need has the same number in states that are the same
abbrev pub NeedsMove : Type 0
NeedsMove = (modules : List Module) (top : Module) (threads : ℕ) (h g : Valuation) (c : Choice) (i b : ℕ) → IsSame modules top threads h g → Needs modules top threads g c i b
    → Needs modules top threads h c i b

-- one cycle tells whether a thread moves
abbrev pub MovesByTrial : Type 0
MovesByTrial = (r : Running) → Stands r → (threads i : ℕ) (top : Module) → top_of r.modules ≡ Some top → (g : Valuation) (out : List ℕ) → Cycle r.modules top (state_of r) (alone i) g out
    → ((IsSameSlot r.modules top threads i (state_of r) g → ⊥) → Moving threads i r) × (IsSameSlot r.modules top threads i (state_of r) g → Moving threads i r → ⊥)

-- two states that are the same but in a slot, and in that slot, are the same
abbrev pub TakenIsSame : Type 0
TakenIsSame = (modules : List Module) (top : Module) (threads i : ℕ) (h g : Valuation) → IsSameBut modules top (slot modules top threads i) h g → IsSameSlot modules top threads i h g
    → IsSame modules top threads h g

-- where closed cycles lead from a simulator's words
pub record Goes (threads i n : ℕ) (r : Running) (top : Module) (l : Valuation) : Type 0 where
  pub to : Running
  pub net : IsSameNet r to
  pub stands : Stands to
  pub moves : Moves r.modules top threads 0 i n (state_of r) (state_of to)
  pub runs : Runs r.modules top (state_of r) (times r.modules top threads n (alone i)) (state_of to) []
  pub same : IsSameSlot r.modules top threads i (state_of to) l
  pub kept : IsSameBut r.modules top (slot r.modules top threads i) (state_of r) (state_of to)

-- closed cycles of a thread go in one state as they go in another with the same slot; they print nothing, and leave all else
abbrev pub ClosedGoes : Type 0
ClosedGoes = (r : Running) → Stands r → (threads i n : ℕ) (top : Module) → top_of r.modules ≡ Some top → IsThreaded r.modules top threads → threads_of r.modules ≡ threads → i < threads
    → (l g : Valuation) → IsState r.modules top l → IsSameSlot r.modules top threads i (state_of r) l → ShowsDone r.modules top (state_of r) (all_enabled threads []) 0
    → Advances r.modules top threads i n l g → Goes threads i n r top g
