-- A net of threads, cores and an arbiter for each core, as one machine; and the wires of its outermost module.
use Rattle.std.specs.Prelude.{◌≡◌, ◌≢◌, ℕ, ◌<◌, ◌⊎◌, Bool, true, false, nat_eq, nat_lt, if◌then◌else◌, List, [], ◌∷◌, ◌++◌, Option, Some, slice_get, codes}
use Rattle.netlist.specs.declared.netlist.Value.TheVariants.{Copy, Constant, Select}
use Rattle.netlist.specs.declared.netlist.Source.{Source}
use Rattle.netlist.specs.declared.netlist.Source.TheVariants.{Input, Assigned, Port}
use Rattle.netlist.specs.declared.netlist.Signal.{Signal}
use Rattle.netlist.specs.declared.netlist.Instance.{Instance}
use Rattle.netlist.specs.declared.netlist.Module.{Module}
use Rattle.verilog_meaning.specs.Names.{numbered}
use Rattle.verilog_meaning.specs.Cycles.{Valuation, Choice, module_at, choice_number}
use Rattle.verilog_meaning.specs.Threads.{bit_of}
use Rattle.circuit.specs.Modules.{Has}
use Rattle.circuit.specs.Arbitration.{granted_to, is_granted, ArbiterPlaces, Arbitrates}
use Rattle.circuit.specs.Machines.{CoreMachine, CorePlaces, IsCore, after_grant, printed, ThreadMachine, ThreadPlaces, IsThread}

-- the preferred thread of arbiter k under a choice
abbrev pub preference : Choice → ℕ → ℕ
preference c k = choice_number c (numbered (codes "pref") k)

-- whether a mask enables thread i
abbrev pub is_enabled : ℕ → ℕ → Bool
is_enabled mask i = nat_eq (bit_of mask i) 1

module _ (threads cores : ℕ) (T : ℕ → ThreadMachine) (C : ℕ → CoreMachine) where
  -- ---- the machine

  pub record NetState : Type 0 where
    pub slots : (i : ℕ) → (T i).Slot
    pub states : (k : ℕ) → (C k).State

  module _ (c : Choice) (h : NetState) where
    -- what thread i asks of core k, and which thread core k grants
    abbrev pub asked : (k : ℕ) → ℕ → (C k).Ask
    asked k i = (C k).ask_of (λ j. (T i).asks (is_enabled c.mask i) (h.slots i) k j)

    abbrev pub won : ℕ → Option ℕ
    won k = granted_to threads (preference c k) (λ i. (C k).eligible (h.states k) i (asked k i))

    -- one step: all threads and cores move together
    abbrev pub stepped : NetState
    stepped = record {
      slots = λ i. (T i).advance (is_enabled c.mask i) (λ k. is_granted (won k) i) (λ k j. (C k).tells (h.states k) i j) (h.slots i);
      states = λ k. after_grant (C k) (h.states k) (asked k) (won k);
    }

    -- what core k prints in it
    abbrev pub printed_by : ℕ → List ℕ
    printed_by k = printed (C k) (h.states k) (asked k) (won k)

    -- what the step prints, where core number printer alone prints
    abbrev pub output : ℕ → List ℕ
    output printer = if nat_lt printer cores then printed_by printer else []

  abbrev pub start : NetState
  start = record { slots = λ i. (T i).start; states = λ k. (C k).start }

  -- the state after steps under these choices, and all that they print
  abbrev pub run : NetState → List Choice → NetState
  run h [] = h
  run h (c ∷ choices) = run (stepped c h) choices

  abbrev pub outputs : ℕ → NetState → List Choice → List ℕ
  outputs printer h [] = []
  outputs printer h (c ∷ choices) = output c h printer ++ outputs printer (stepped c h) choices

  -- no other core prints
  abbrev pub PrintsAlone : ℕ → Type 0
  PrintsAlone printer = (k : ℕ) → k < cores → k ≢ printer → (s : (C k).State) (i : ℕ) (a : (C k).Ask) → (C k).prints s i a ≡ []

  -- ---- the wires of the outermost module

  -- input x of instance j is connected to a signal that is driven so
  pub record IsFed (top : Module) (j x : ℕ) (source : Source) : Type 0 where
    pub instance : Instance
    pub listed : slice_get top.instances j ≡ Some instance
    pub place : ℕ
    pub connects : slice_get instance.inputs x ≡ Some place
    pub signal : Signal
    pub stands : slice_get top.signals place ≡ Some signal
    pub drives : signal.source ≡ source

  -- the input of a name
  pub record IsChosen (top : Module) (name : List ℕ) (x : ℕ) : Type 0 where
    pub signal : Signal
    pub stands : slice_get top.signals x ≡ Some signal
    pub input : signal.source ≡ Input
    pub named : signal.name ≡ name

  -- which instances the threads, cores and arbiters are, and where their modules have what
  pub record NetPlaces : Type 1 where
    pub thread_at : ℕ → ℕ
    pub core_at : ℕ → ℕ
    pub arbiter_at : ℕ → ℕ
    pub thread : (i : ℕ) → ThreadPlaces (T i)
    pub core : (k : ℕ) → CorePlaces (C k)
    pub arbiter : ℕ → ArbiterPlaces

  module _ (p : NetPlaces) (modules : List Module) (top : Module) where
    abbrev pub Stands : ℕ → (Module → Type 0) → Type 0
    Stands j P = (m : Module) × (module_at modules top (j ∷ []) ≡ Some m) × P m

    -- the module of instance j for threads, cores and arbiters
    abbrev pub ThreadStands : ℕ → Type 0
    ThreadStands i = Stands (p.thread_at i) (IsThread (T i) (p.thread i) cores (λ k. (C k).parts) (λ k. (C k).told))

    abbrev pub CoreStands : ℕ → Type 0
    CoreStands k = Stands (p.core_at k) (IsCore (C k) (p.core k) threads)

    abbrev pub ArbiterStands : ℕ → Type 0
    ArbiterStands k = Stands (p.arbiter_at k) (Arbitrates threads (p.arbiter k))

    -- thread i is enabled by its bit of the mask, or by the mask itself where that is one bit
    abbrev pub IsEnabledBy : ℕ → ℕ → Type 0
    IsEnabledBy mask_at i =
        IsFed top (p.thread_at i) (p.thread i).enable (Assigned (Select mask_at i i))
        ⊎ ((i ≡ 0) × Has top mask_at 1 × IsFed top (p.thread_at i) (p.thread i).enable (Assigned (Copy mask_at)))

    -- what part j of thread i's ask of core k comes from: the thread's port, or 0 where it has none
    abbrev pub IsAskedBy : ℕ → ℕ → ℕ → Type 0
    IsAskedBy k i j =
        (((p.thread i).uses k ≡ true) × IsFed top (p.core_at k) ((p.core k).ask j i) (Port (p.thread_at i) ((p.thread i).ask k j)))
        ⊎ (((p.thread i).uses k ≡ false) × IsFed top (p.core_at k) ((p.core k).ask j i) (Assigned (Constant 0)))

    -- instance j is that of a thread, of a core or of an arbiter
    abbrev pub IsInstanceOf : ℕ → Type 0
    IsInstanceOf j =
        ((i : ℕ) × (i < threads) × (j ≡ p.thread_at i)) ⊎ (((k : ℕ) × (k < cores) × (j ≡ p.core_at k)) ⊎ ((k : ℕ) × (k < cores) × (j ≡ p.arbiter_at k)))

    -- the instances, and the wires between them
    pub record IsNet : Type 0 where
      pub threads_stand : (i : ℕ) → i < threads → ThreadStands i
      pub cores_stand : (k : ℕ) → k < cores → CoreStands k
      pub arbiters_stand : (k : ℕ) → k < cores → ArbiterStands k
      pub mask_at : ℕ
      pub mask : IsChosen top (codes "en") mask_at
      pub enables : (i : ℕ) → i < threads → IsEnabledBy mask_at i
      pub grants : (i k : ℕ) → i < threads → k < cores → (p.thread i).uses k ≡ true → IsFed top (p.thread_at i) ((p.thread i).grant k) (Port (p.arbiter_at k) ((p.arbiter k).grant i))
      pub tells : (i k j : ℕ) → i < threads → k < cores → (p.thread i).uses k ≡ true → j < (C k).told → IsFed top (p.thread_at i) ((p.thread i).told k j) (Port (p.core_at k) ((p.core k).tell j i))
      pub asks : (k i j : ℕ) → k < cores → i < threads → j < (C k).parts → IsAskedBy k i j
      pub granting : (k i : ℕ) → k < cores → i < threads → IsFed top (p.core_at k) ((p.core k).grant i) (Port (p.arbiter_at k) ((p.arbiter k).grant i))
      pub offers : (k i : ℕ) → k < cores → i < threads → IsFed top (p.arbiter_at k) ((p.arbiter k).ask i) (Port (p.core_at k) ((p.core k).offer i))
      pub preferred_at : ℕ → ℕ
      pub preferred : (k : ℕ) → k < cores → IsChosen top (numbered (codes "pref") k) (preferred_at k)
      pub prefers : (k : ℕ) → k < cores → (n : Instance) × (slice_get top.instances (p.arbiter_at k) ≡ Some n) × (slice_get n.inputs (p.arbiter k).preferred ≡ Some (preferred_at k))
      pub silent : top.actions ≡ []
      pub all : (j : ℕ) (n : Instance) → slice_get top.instances j ≡ Some n → IsInstanceOf j

    -- a state of the net shows one of the machine
    pub record ShowsAll (h : Valuation) (s : NetState) : Type 0 where
      pub slots : (i : ℕ) → i < threads → (p.thread i).shows (h (p.thread_at i ∷ [])) (s.slots i)
      pub states : (k : ℕ) → k < cores → (p.core k).shows (h (p.core_at k ∷ [])) (s.states k)
