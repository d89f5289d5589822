-- What the slot calls of a simulator tell and do.
use Rattle.std.specs.Prelude.{◌≡◌, ℕ, Bool, true, nat_eq, List, [], length, Some, slice_get, codes}
use Rattle.std.specs.List.{position_or_len}
use Rattle.std.specs.Str.{bytes_eq}
use Rattle.netlist.specs.declared.netlist.Instance.{Instance}
use Rattle.netlist.specs.declared.netlist.Signal.{Signal}
use Rattle.netlist.specs.declared.netlist.Module.{Module}
use Rattle.sim_values.specs.declared.edge.Part.{Part}
use Rattle.verilog_meaning.specs.Names.{top_of, IsSignal}
use Rattle.verilog_meaning.specs.Cycles.{Valuation, module_at, Cycle}
use Rattle.verilog_meaning.specs.Threads.{slot, alone, IsSameSlot, HasThread, Needs, IsThreaded}
use Rattle.sim_values.specs.Stands.{word_of}
use Rattle.sim_layout.specs.Running.{Running, state_of, choice_of, IsSameNet}
use Rattle.sim_layout.specs.Rounds.{threads_of}
use Rattle.slot_sim.specs.declared.slot.Slot.{Slot}
use Rattle.slot_sim.specs.Members.{AreMembers}
use Rattle.slot_sim.specs.Threaded.{IsSameBut}

-- the net with a module `top` is one of so many threads, the bits of `en`
abbrev pub IsThreadedIn : List Module → ℕ → Type 0
IsThreadedIn modules threads = (top : Module) → top_of modules ≡ Some top → IsThreaded modules top threads

-- the place where the output need of thread i stands
pub record IsNeedPlace (threads i : ℕ) (modules : List Module) (parts : List Part) (place : ℕ) : Type 0 where
  pub top : Module
  pub is_top : top_of modules ≡ Some top
  pub kind : Module
  pub stands : module_at modules top (slot modules top threads i) ≡ Some kind
  pub number : ℕ
  pub signal : Signal
  pub is : IsSignal kind (codes "need") number signal
  pub at : place ≡ word_of parts (slot modules top threads i) number

-- the number of the first instance of a name, and how many there are where none has it
abbrev pub place_named : List ℕ → List Instance → ℕ
place_named name instances = position_or_len (λ (n : Instance). bytes_eq name n.name) instances

-- the number of a signal need
pub record IsNeedNumber (signals : List Signal) (number : ℕ) : Type 0 where
  pub signal : Signal
  pub listed : slice_get signals number ≡ Some signal
  pub named : signal.name ≡ codes "need"

abbrev pub LacksNeed : List Signal → Type 0
LacksNeed signals = (x : ℕ) (s : Signal) → slice_get signals x ≡ Some s → s.name ≡ codes "need" → ⊥

-- ---- where a simulator keeps its threads

-- the net has thread i
abbrev pub HasThreadOf : List Module → ℕ → Type 0
HasThreadOf modules i = (top : Module) → top_of modules ≡ Some top → HasThread modules top (threads_of modules) i

pub record IsSlot (i : ℕ) (modules : List Module) (parts : List Part) (s : Slot) : Type 0 where
  pub top : Module
  pub is_top : top_of modules ≡ Some top
  pub members : AreMembers modules top parts (slot modules top (threads_of modules) i) s.members.items
  pub need : IsNeedPlace (threads_of modules) i modules parts s.need
  pub alone_is : choice_of s.alone ≡ alone i

-- the same thread's
pub record IsSlotCopy (s copy : Slot) : Type 0 where
  pub members : copy.members.items ≡ s.members.items
  pub need : copy.need ≡ s.need
  pub enables : copy.alone.en ≡ s.alone.en
  pub prefs : copy.alone.prefs ≡ []

abbrev pub AreCopied : List Slot → List Slot → Type 0
AreCopied slots copies = (length copies ≡ length slots) × ((k : ℕ) (c : Slot) → slice_get copies k ≡ Some c → (s : Slot) × (slice_get slots k ≡ Some s) × IsSlotCopy s c)

-- those of all threads
pub record AreSlots (modules : List Module) (parts : List Part) (slots : List Slot) : Type 0 where
  pub long : length slots ≡ threads_of modules
  pub each : (i : ℕ) (s : Slot) → slice_get slots i ≡ Some s → IsSlot i modules parts s

module _ (threads i : ℕ) where
  -- whether the next cycle of thread i alone is open
  pub record TellsNeed (r : Running) (b : Bool) : Type 0 where
    pub top : Module
    pub is_top : top_of r.modules ≡ Some top
    pub number : ℕ
    pub needs : Needs r.modules top threads (state_of r) (alone i) i number
    pub is : b ≡ nat_eq number 1

  -- the next cycle of thread i alone changes its slot
  pub record Moving (r : Running) : Type 0 where
    pub top : Module
    pub is_top : top_of r.modules ≡ Some top
    pub next : Valuation
    pub out : List ℕ
    pub cycle : Cycle r.modules top (state_of r) (alone i) next out
    pub changes : IsSameSlot r.modules top threads i (state_of r) next → ⊥

  -- it is open, and changes its slot
  abbrev pub Opening : Running → Type 0
  Opening r = TellsNeed r true × Moving r

  -- slot i of two simulators of one net is the same
  pub record IsSameSlotOf (r other : Running) : Type 0 where
    pub top : Module
    pub is_top : top_of r.modules ≡ Some top
    pub same : IsSameSlot r.modules top threads i (state_of r) (state_of other)

  -- slot i is taken over from another simulator, and nothing else is changed
  pub record IsTaken (old other new : Running) : Type 0 where
    pub top : Module
    pub is_top : top_of old.modules ≡ Some top
    pub net : IsSameNet old new
    pub taken : IsSameSlot old.modules top threads i (state_of other) (state_of new)
    pub kept : IsSameBut old.modules top (slot old.modules top threads i) (state_of old) (state_of new)
