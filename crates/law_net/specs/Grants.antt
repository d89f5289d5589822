-- What a cycle does under any choice, of however many threads at once: a thread that needs no core is granted nowhere, and a core changes only where it
-- grants a thread, whose slot then changes.
use Rattle.std.specs.Prelude.{◌≡◌, ◌≢◌, ℕ, ◌+◌, ◌<◌, ◌⊎◌, List, [], ◌∷◌, ◌++◌, Some, slice_get, codes}
use Rattle.netlist.specs.declared.netlist.Source.TheVariants.{Port}
use Rattle.netlist.specs.declared.netlist.Signal.{Signal}
use Rattle.netlist.specs.declared.netlist.Instance.{Instance}
use Rattle.netlist.specs.declared.netlist.Module.{Module}
use Rattle.verilog_meaning.specs.Names.{numbered, IsSignal, IsInstance}
use Rattle.verilog_meaning.specs.Cycles.{Path, Valuation, Choice, module_at, IsRegister, IsSameIn, IsSameAt, Cycle}
use Rattle.verilog_meaning.specs.Threads.{bit_of, instance_named, slot, IsSameSlot, Needs}

-- two choices prefer the same threads, and enable the same ones but perhaps thread i
pub record DifferIn (i : ℕ) (c d : Choice) : Type 0 where
  pub others : (j : ℕ) → j ≢ i → bit_of c.mask j ≡ bit_of d.mask j
  pub preferred : c.prefs ≡ d.prefs

module _ (modules : List Module) (top : Module) (threads : ℕ) where
  -- the number of the instance t_i
  abbrev pub thread_at : ℕ → ℕ
  thread_at i = instance_named top.instances (numbered (codes "t") i)

  -- a path does not lead into instance j
  abbrev pub IsOutside : ℕ → Path → Type 0
  IsOutside j path = (inner : Path) → path ≢ inner ++ j ∷ []

  -- ---- the wiring

  -- input x of instance j is connected to a signal that port y of instance a drives
  pub record IsDrivenBy (j x a y : ℕ) : Type 0 where
    pub instance : Instance
    pub listed : slice_get top.instances j ≡ Some instance
    pub wire : ℕ
    pub connects : slice_get instance.inputs x ≡ Some wire
    pub signal : Signal
    pub stands : slice_get top.signals wire ≡ Some signal
    pub drives : signal.source ≡ Port a y

  -- THE CORES: beside the threads' instances there are cores, and an arbiter for each, with a port for each thread by which the core grants it; the core
  -- and the thread both read it
  pub record HasCores : Type 0 where
    pub cores : ℕ
    pub core_at : ℕ → ℕ
    pub arbiter_at : ℕ → ℕ
    pub grant : ℕ → ℕ → ℕ
    pub arbiters : (k : ℕ) → k < cores → (n : Instance) × IsInstance top (numbered (codes "arbiter") k) (arbiter_at k) n
    pub cores_read : (k i : ℕ) → k < cores → i < threads → (x : ℕ) × IsDrivenBy (core_at k) x (arbiter_at k) (grant k i)
    pub threads_read : (k i : ℕ) → k < cores → i < threads → (x : ℕ) × IsDrivenBy (thread_at i) x (arbiter_at k) (grant k i)
    pub all : (j : ℕ) (n : Instance) → slice_get top.instances j ≡ Some n →
        ((i : ℕ) × (i < threads) × (j ≡ thread_at i)) ⊎ (((k : ℕ) × (k < cores) × (j ≡ core_at k)) ⊎ ((k : ℕ) × (k < cores) × (j ≡ arbiter_at k)))

  -- ---- one cycle, which settles to v

  module _ (has : HasCores) (v : Valuation) where
    -- core k grants thread i
    abbrev pub Grants : ℕ → ℕ → Type 0
    Grants k i = (v (has.arbiter_at k ∷ [])).signal (has.grant k i) ≡ 1

    -- core k grants a thread
    pub record GrantsOne (k : ℕ) : Type 0 where
      pub thread : ℕ
      pub below : thread < threads
      pub granted : Grants k thread

    module _ (h : Valuation) (c : Choice) (g : Valuation) (out : List ℕ) where
      -- what is granted is asked: the thread is enabled, needs a core, and its slot changes
      pub record IsServed (i : ℕ) : Type 0 where
        pub enabled : bit_of c.mask i ≡ 1
        pub needs : Needs modules top threads h c i 1
        pub changes : IsSameSlot modules top threads i h g → ⊥

      -- THE GRANTS of a cycle from h under c to g that writes out
      pub record AreRightGrants : Type 0 where
        -- a thread whose need is 0 is granted nowhere
        pub nowhere : (k i : ℕ) → k < has.cores → i < threads → Needs modules top threads h c i 0 → Grants k i → ⊥
        -- no core grants two threads, and whom one grants is served
        pub once : (k i j : ℕ) → k < has.cores → i < threads → j < threads → Grants k i → Grants k j → i ≡ j
        pub serves : (k i : ℕ) → k < has.cores → i < threads → Grants k i → IsServed i
        -- a core that grants nobody stays; arbiters and what is no instance hold nothing; and nothing is written but where a core grants
        pub cores : (k : ℕ) → k < has.cores → IsSameIn modules top (has.core_at k ∷ []) h g ⊎ GrantsOne k
        pub others : (path : Path) → ((i : ℕ) → i < threads → IsOutside (thread_at i) path) → ((k : ℕ) → k < has.cores → IsOutside (has.core_at k) path) →
            IsSameAt modules top path h g
        pub silent : (out ≡ []) ⊎ ((k : ℕ) × (k < has.cores) × GrantsOne k)

  -- ---- the beat

  -- the slot of thread i has a register `beat`, of one bit
  pub record HasBeat (i : ℕ) : Type 0 where
    pub kind : Module
    pub stands : module_at modules top (slot modules top threads i) ≡ Some kind
    pub place : ℕ
    pub signal : Signal
    pub is : IsSignal kind (codes "beat") place signal
    pub register : IsRegister signal.source
    pub one_bit : signal.width ≡ 1

  -- it is toggled between two states: of its numbers one is 0 and the other 1
  abbrev pub IsToggled : (i : ℕ) → HasBeat i → Valuation → Valuation → Type 0
  IsToggled i beat h g = (h (slot modules top threads i)).signal beat.place + (g (slot modules top threads i)).signal beat.place ≡ 1

  -- ---- THE LAWS, of every cycle from any valuation of registers and words

  pub record IsGranting : Type 0 where
    pub has : HasCores
    pub grants : (h g : Valuation) (c : Choice) (out : List ℕ) (cycle : Cycle modules top h c g out) → AreRightGrants has cycle.through h c g out
    -- whether a thread whose need is 0 is enabled changes nothing outside of its slot, and nothing of what is written
    pub apart : (h g f : Valuation) (c d : Choice) (out more : List ℕ) (i : ℕ) → i < threads → DifferIn i c d → Needs modules top threads h c i 0 →
        Cycle modules top h c g out → Cycle modules top h d f more →
        (out ≡ more) × ((path : Path) → IsOutside (thread_at i) path → IsSameAt modules top path g f)
    -- each change of a slot toggles its beat
    pub beat : (i : ℕ) → i < threads → HasBeat i
    pub beats : (h g : Valuation) (c : Choice) (out : List ℕ) (i : ℕ) (l : i < threads) → Cycle modules top h c g out →
        IsSameSlot modules top threads i h g ⊎ IsToggled i (beat i l) h g
