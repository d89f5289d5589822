-- The headline's second sentence in the abstract: every run of the hardware of a good program shows one interleaving.
--
-- What the concrete side has to provide, all of it gathered in the record Refinement:
--   Value, Local, State, Slot, Cores, Machine, Choice : Type 0
--   source : Source Value Local State                      start : State; step : State → ℕ → Outcome State; is_ended : State → Bool;
--                                                          is_live : State → ℕ → Bool; local : State → ℕ → Local; memory : State → Memory Value;
--                                                          view : Local → Memory Value → View Value Local
--   threaded : IsThreaded source                           the laws of specs/Threaded
--   hardware : Hardware Value Local State Slot Cores       Stands : Cores → State → Type 0
--                                                          Rests : Cores → ℕ → Local → Slot → Type 0
--                                                          Flies : Local → Memory Value → List (Move Value Local) → List (Access Value) → Slot → Type 0
--                                                          Turn : Cores → ℕ → Slot → Memory Value → List (Access Value) → Slot → Type 0
--                                                          Spends : Slot → Slot → ℕ → Type 0
--                                                          Act : World Value Slot Cores → ℕ → World Value Slot Cores → Type 0
--   planned : IsPlanned source hardware                    begins, frame, inside, turn, stands, act, act_rests (specs/Hardware)
--   T, B : ℕ, left : Slot → ℕ                              threads; changes of a slot for each step; changes that a slot has left
--   timed : IsTimed hardware B left                        spends : Spends q r k → left r < left q + B * k
--   look : Machine → World Value Slot Cores                slots : ℕ → Slot; memory : Memory Value; cores : Cores
--   cycle : Machine → Choice → Machine
--   is_full : Choice → Bool, counts : Machine → Choice → Bool, full_counts
--   clocked : IsGood source → IsClocked source hardware T look counts cycle
--                                                          chain, by order in a cycle (specs/Cycle); still; lively: where a cycle that counts
--                                                          moves nobody, the state is stuck
--   views : Views Value State Machine                      output : State → List ℕ; printed : Machine → List ℕ; done : Machine → Bool;
--                                                          globals : Machine → Memory Value
--   seen : IsSeen source views hardware look T             prints, done (by EndIsMarked), globals, beyond
--   first : Machine, starts                                the first moment: the lag at the start, and T times B at least the changes left
use Rattle.std.specs.Prelude.{◌≡◌, ◌↔◌, ℕ, ◌+◌, ◌/◌, ◌≤◌, List, [], length, ◌⊎◌, Bool, true}
use Rattle.interleaving.specs.Memory.{Location, Memory, Access}
use Rattle.interleaving.specs.Source.{Blocked, Source, Move, RunsAlone}
use Rattle.interleaving.specs.Interleaving.{Reached, Reachable, Deadlocked, IsGood}
use Rattle.interleaving.specs.Threaded.{IsThreaded}
use Rattle.interleaving.specs.Hardware.{World, Hardware, IsPlanned, Lag, KeepsLag, FlightsAreApart}
use Rattle.interleaving.specs.Progress.{IsTimed, IsClocked, Moment, PaysForMoves}
use Rattle.interleaving.specs.Run.{FollowsOne}

-- what can be seen of the two sides
pub record Views (Value State Machine : Type 0) : Type 0 where
  pub output : State → List ℕ
  pub printed : Machine → List ℕ
  pub done : Machine → Bool
  pub globals : Machine → Memory Value

module _ {Value Local State Machine : Type 0} (P : Source Value Local State) (V : Views Value State Machine) where
  -- the hardware h, after m cycles that count, shows where the interleaving L leads: (a) its output; (b) done exactly where it is ended;
  -- (c) where it is ended, its globals; (d) it is ended, or deadlocked, or every full choice would change something next and L has at least m / B - T steps
  pub record Shows {Choice : Type 0} (T B : ℕ) (is_full : Choice → Bool) (still : Machine → Choice → Type 0) (L : List ℕ) (h : Machine) (m : ℕ) : Type 0 where
    pub state : State
    pub reached : Reached P L state
    pub printed : V.printed h ≡ V.output state
    pub done : (V.done h ≡ true) ↔ (P.is_ended state ≡ true)
    pub globals : P.is_ended state ≡ true → (p : Location) → V.globals h p ≡ P.memory state p
    pub goes_on : (P.is_ended state ≡ true) ⊎ (Deadlocked P state ⊎ (((c : Choice) → is_full c ≡ true → still h c → ⊥) × (m / B ≤ length L + T)))

  -- what the views say of a machine that look shows as a world
  pub record IsSeen {Slot Cores : Type 0} (H : Hardware Value Local State Slot Cores) (look : Machine → World Value Slot Cores) (T : ℕ) : Type 0 where
    pub prints : (h : Machine) (s : State) → H.Stands (look h).cores s → V.printed h ≡ V.output s
    pub done : (L : List ℕ) (h : Machine) (l : Lag P H L (look h)) → (V.done h ≡ true) ↔ (P.is_ended l.state ≡ true)
    pub globals : (h : Machine) (p : Location) → V.globals h p ≡ (look h).memory p
    pub beyond : (s : State) (i : ℕ) → Reachable P s → T ≤ i → P.step s i ≡ Blocked

-- a program is ended exactly where thread 0 is over, and the slot of thread 0 marks that
pub record MarksEnd {Value Local State Slot Cores : Type 0} (P : Source Value Local State) (H : Hardware Value Local State Slot Cores) (is_over : Local → Bool) (marks : Slot → Bool) : Type 0 where
  pub ended : (s : State) → Reachable P s → P.is_ended s ≡ is_over (P.local s 0)
  pub rests : (c : Cores) (x : Local) (q : Slot) → H.Rests c 0 x q → marks q ≡ is_over x
  pub flies : (s : State) (hs : List (Move Value Local)) (made : List (Access Value)) (q : Slot) → Reachable P s → RunsAlone P (P.local s 0) (P.memory s) hs →
      H.Flies (P.local s 0) (P.memory s) hs made q → marks q ≡ is_over (P.local s 0)

-- DONE: where so, a slot of thread 0 marks the end exactly where the interleaving is ended
abbrev pub DoneWhereEnded : {Value Local State Slot Cores : Type 0} → Source Value Local State → Hardware Value Local State Slot Cores → (Slot → Bool) → Type 0
DoneWhereEnded {Value = Value} {Slot = Slot} {Cores = Cores} P H marks =
    (L : List ℕ) (w : World Value Slot Cores) (l : Lag P H L w) → marks (w.slots 0) ≡ P.is_ended l.state

-- all that the concrete side provides of a program and of the machine that is to run it
pub record Refinement : Type 1 where
  pub Value : Type 0
  pub Local : Type 0
  pub State : Type 0
  pub Slot : Type 0
  pub Cores : Type 0
  pub Machine : Type 0
  pub Choice : Type 0
  -- the program
  pub source : Source Value Local State
  pub threaded : IsThreaded source
  -- its hardware
  pub hardware : Hardware Value Local State Slot Cores
  pub planned : IsPlanned source hardware
  -- T threads, and at most B changes of a slot for each step of its thread
  pub T : ℕ
  pub B : ℕ
  pub left : Slot → ℕ
  pub timed : IsTimed hardware B left
  -- the machine under choices: those that enable all threads are full, and count
  pub look : Machine → World Value Slot Cores
  pub cycle : Machine → Choice → Machine
  pub is_full : Choice → Bool
  pub counts : Machine → Choice → Bool
  pub full_counts : (h : Machine) (c : Choice) → is_full c ≡ true → counts h c ≡ true
  pub clocked : IsGood source → IsClocked source hardware T look counts cycle
  pub views : Views Value State Machine
  pub seen : IsSeen source views hardware look T
  -- the machine before its first cycle
  pub first : Machine
  pub starts : Moment source hardware T B left [] (look first) 0

-- the choice changes no slot
abbrev pub is_still : (M : Refinement) → M.Machine → M.Choice → Type 0
is_still M h c = (i : ℕ) → (M.look (M.cycle h c)).slots i ≡ (M.look h).slots i

-- THE HEADLINE'S SECOND SENTENCE: if the program is good, then for every list of choices there is one interleaving of which every moment of the run shows a beginning
abbrev pub RunsAsOne : Refinement → Type 0
RunsAsOne M =
    IsGood M.source → (C : List M.Choice) →
    FollowsOne M.cycle M.counts (is_still M) (Shows M.source M.views M.T M.B M.is_full (is_still M)) M.first C

-- the other laws of the theory, of such a program and machine: if the program is good, the lag is kept, and blocks in flight are apart
abbrev pub LagIsKept : Refinement → Type 0
LagIsKept M = IsGood M.source → KeepsLag M.source M.hardware × FlightsAreApart M.source M.hardware

-- and each move of a cycle is paid for
abbrev pub MovesArePaid : Refinement → Type 0
MovesArePaid M = IsGood M.source → PaysForMoves M.source M.hardware M.T M.B M.left

-- where thread 0 tells by itself that the program is ended, and its slot marks that, the mark stands exactly where the interleaving is ended
abbrev pub EndIsMarked : Refinement → Type 0
EndIsMarked M =
    (is_over : M.Local → Bool) (marks : M.Slot → Bool) → MarksEnd M.source M.hardware is_over marks → DoneWhereEnded M.source M.hardware marks
