-- A module with the ports of a thread is a thread's machine, whose slot is its reading.
use Rattle.std.specs.Prelude.{◌≡◌, ℕ, ◌^◌, ◌<◌, Bool, true, false, not, nat_eq, [], Some, if◌then◌else◌}
use Rattle.hls_ints.specs.Residues.{bit_of}
use Rattle.netlist.specs.declared.netlist.Module.{Module}
use Rattle.verilog_meaning.specs.Readings.{Reading, next_reading, written, initial_reading}
use Rattle.circuit.specs.Rows.{EachOf}
use Rattle.circuit.specs.Modules.{Obeys, Agree, Has, IsLeaf}
use Rattle.circuit.specs.Machines.{ThreadMachine, ThreadPlaces, Hears, IsThread}
use Rattle.leaf_machine.specs.Settled.{settled_reading, IsSlot, IsUnclocked}

-- what an input is: the clock, whether the thread is enabled, whether core k grants it, or number j that core k tells it
pub data Heard : Type 0 where
  Clock : Heard
  Enable : Heard
  Grant : ℕ → Heard
  Told : ℕ → ℕ → Heard

-- where a module has its ports: of each core that it uses the parts of an ask, the grant and what it is told; whether it needs
-- them, and whether it is done; and what the input of a place is
pub record LeafPorts : Type 0 where
  pub uses : ℕ → Bool
  pub enable : ℕ
  pub ask : ℕ → ℕ → ℕ
  pub grant : ℕ → ℕ
  pub told : ℕ → ℕ → ℕ
  pub need : ℕ
  pub done : ℕ
  pub heard : ℕ → Heard

-- the number of an input
abbrev pub heard_number : Bool → (ℕ → Bool) → (ℕ → ℕ → ℕ) → Heard → ℕ
heard_number enabled granted news Clock = 0
heard_number enabled granted news Enable = bit_of enabled
heard_number enabled granted news (Grant k) = bit_of (granted k)
heard_number enabled granted news (Told k j) = news k j

module _ (m : Module) (ports : LeafPorts) where
  -- what a slot settles to under what reaches the thread
  abbrev pub reading_under : Bool → (ℕ → Bool) → (ℕ → ℕ → ℕ) → Reading → Reading
  reading_under enabled granted news = settled_reading m (λ x. heard_number enabled granted news (ports.heard x))

  -- the same where nothing is granted and each told number is 0
  abbrev pub unanswered : Bool → Reading → Reading
  unanswered enabled = reading_under enabled (λ k. false) (λ k j. 0)

  -- whether the bit of a signal is set in a slot
  abbrev pub shows_bit : ℕ → Reading → Bool
  shows_bit x s = not (nat_eq ((unanswered false s).signal x) 0)

  abbrev pub leaf_thread : ThreadMachine
  leaf_thread = record {
    Slot = Reading;
    start = initial_reading (Some m);
    asks = λ enabled s k j. if ports.uses k then (unanswered enabled s).signal (ports.ask k j) else 0;
    advance = λ enabled granted news s. next_reading m (reading_under enabled granted news s);
    needs = shows_bit ports.need;
    is_done = shows_bit ports.done;
  }

  abbrev pub leaf_places : ThreadPlaces leaf_thread
  leaf_places = record {
    shows = λ r s. Agree m s r;
    uses = ports.uses;
    enable = ports.enable;
    ask = ports.ask;
    grant = ports.grant;
    told = ports.told;
    need = ports.need;
  }

-- ---- which modules are those of threads

-- nobody reads the clock, which is the first input
pub record IsClockless (m : Module) (inputs : ℕ) : Type 0 where
  pub signals : IsLeaf m inputs (λ x. nat_eq x 0)
  pub acts : EachOf IsUnclocked m.actions

-- a signal of a width that is not late, nor the clock
pub record IsEarly (m : Module) (late : ℕ → Bool) (x w : ℕ) : Type 0 where
  pub has : Has m x w
  pub after : 0 < x
  pub early : late x ≡ false

module _ (m : Module) (inputs : ℕ) (ports : LeafPorts) (cores : ℕ) (parts told : ℕ → ℕ) where
  -- input x is what its place says
  abbrev pub IsHeard : ℕ → Heard → Type 0
  IsHeard x Clock = x ≡ 0
  IsHeard x Enable = x ≡ ports.enable
  IsHeard x (Grant k) = (k < cores) × (ports.uses k ≡ true) × (x ≡ ports.grant k)
  IsHeard x (Told k j) = (k < cores) × (ports.uses k ≡ true) × (j < told k) × (x ≡ ports.told k j)

  -- the input of a place, and what it is
  pub record HasHeard (x : ℕ) (h : Heard) : Type 0 where
    pub input : x < inputs
    pub is : ports.heard x ≡ h

  -- the inputs are the clock, the enable, and of each core that is used the grant and what it tells
  pub record IsPorted : Type 0 where
    pub all : (x : ℕ) → x < inputs → IsHeard x (ports.heard x)
    pub enable : HasHeard ports.enable Enable
    pub grants : (k : ℕ) → k < cores → ports.uses k ≡ true → HasHeard (ports.grant k) (Grant k)
    pub tells : (k j : ℕ) → k < cores → ports.uses k ≡ true → j < told k → HasHeard (ports.told k j) (Told k j)

  -- what the answers of cores reach: what they grant and what they tell is late
  pub record AnswersAreLate (late : ℕ → Bool) : Type 0 where
    pub leaf : IsLeaf m inputs late
    pub grants : (k : ℕ) → k < cores → ports.uses k ≡ true → late (ports.grant k) ≡ true
    pub tells : (k j : ℕ) → k < cores → ports.uses k ≡ true → j < told k → late (ports.told k j) ≡ true

  -- a bit that the slot alone tells: neither an answer nor the enable reaches it
  pub record IsSlotBit (x : ℕ) : Type 0 where
    pub late : ℕ → Bool
    pub answered : AnswersAreLate late
    pub enable : late ports.enable ≡ true
    pub bit : IsEarly m late x 1

  -- a module of a thread: no answer reaches its asks, its need is told by the slot alone, and it writes nothing
  pub record IsThreadLeaf : Type 0 where
    pub ported : IsPorted
    pub clockless : IsClockless m inputs
    pub late : ℕ → Bool
    pub answered : AnswersAreLate late
    pub asks : (k j : ℕ) → k < cores → ports.uses k ≡ true → j < parts k → (w : ℕ) × IsEarly m late (ports.ask k j) w
    pub need : IsSlotBit ports.need
    pub silent : (r : Reading) → written m r ≡ []

-- THE LAW: such a module is that of a thread
abbrev pub LeafIsThread : Type 0
LeafIsThread =
    (m : Module) (inputs : ℕ) (ports : LeafPorts) (cores : ℕ) (parts told : ℕ → ℕ) → IsThreadLeaf m inputs ports cores parts told
    → IsThread (leaf_thread m ports) (leaf_places m ports) cores parts told m

-- ---- what a step goes through, for promises over readings

module _ (m : Module) (ports : LeafPorts) (cores : ℕ) (parts told : ℕ → ℕ) where
  -- a reading of a slot that the module obeys, under what reaches the thread: what it asks, whether it needs the cores, and
  -- what follows it are there
  pub record GoesThrough (s : Reading) (enabled : Bool) (granted : ℕ → Bool) (news : ℕ → ℕ → ℕ) (r : Reading) : Type 0 where
    pub obeys : Obeys m r
    pub shown : Agree m s r
    pub hears : Hears (leaf_thread m ports) (leaf_places m ports) cores parts told r enabled granted news
    pub asks : (k j : ℕ) → k < cores → ports.uses k ≡ true → j < parts k → (leaf_thread m ports).asks enabled s k j ≡ r.signal (ports.ask k j)
    pub needs : bit_of ((leaf_thread m ports).needs s) ≡ r.signal ports.need
    pub advances : (leaf_thread m ports).advance enabled granted news s ≡ next_reading m r

  -- the enable and the grants are bits, and each told number fits its port
  pub record FitsPorts (news : ℕ → ℕ → ℕ) : Type 0 where
    pub enable : Has m ports.enable 1
    pub grants : (k : ℕ) → k < cores → ports.uses k ≡ true → Has m (ports.grant k) 1
    pub tells : (k j : ℕ) → k < cores → ports.uses k ≡ true → j < told k → (w : ℕ) × Has m (ports.told k j) w × (news k j < 2 ^ w)

  -- the start is a state, what follows a state is one, and each step from a state goes through such a reading
  pub record KeepsSlots : Type 0 where
    pub starts : IsSlot m (leaf_thread m ports).start
    pub keeps : (s : Reading) (enabled : Bool) (granted : ℕ → Bool) (news : ℕ → ℕ → ℕ) → IsSlot m s → IsSlot m ((leaf_thread m ports).advance enabled granted news s)
    pub through : (s : Reading) (enabled : Bool) (granted : ℕ → Bool) (news : ℕ → ℕ → ℕ) → IsSlot m s → FitsPorts news → (r : Reading) × GoesThrough s enabled granted news r

abbrev pub LeafKeepsSlots : Type 0
LeafKeepsSlots =
    (m : Module) (inputs : ℕ) (ports : LeafPorts) (cores : ℕ) (parts told : ℕ → ℕ) → IsThreadLeaf m inputs ports cores parts told → KeepsSlots m ports cores parts told

-- where the slot alone tells done, a reading of the slot that the module obeys has it
abbrev pub LeafIsDone : Type 0
LeafIsDone =
    (m : Module) (inputs : ℕ) (ports : LeafPorts) (cores : ℕ) (parts told : ℕ → ℕ) → IsThreadLeaf m inputs ports cores parts told → IsSlotBit m inputs ports cores parts told ports.done
    → (r s : Reading) → Obeys m r → Agree m s r → r.signal ports.done ≡ bit_of ((leaf_thread m ports).is_done s)
