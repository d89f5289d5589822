-- What a core promises: it is a small machine that threads ask, one granted request a cycle.
use Rattle.std.specs.Prelude.{◌≡◌, ℕ, ◌<◌, Bool, true, false, List, [], Option, Some, None}
use Rattle.netlist.specs.declared.netlist.Module.{Module}
use Rattle.verilog_meaning.specs.Readings.{Reading, next_reading, written, initial_reading}
use Rattle.verilog_meaning.specs.Residues.{bit_of}
use Rattle.circuit.specs.Modules.{Obeys, Agree, HasInput}
use Rattle.circuit.specs.Arbitration.{is_granted}

-- a machine that threads ask: what numbers an ask is made of, whether it may be granted, what a grant does and prints;
-- and numbers that it tells each thread
pub record CoreMachine : Type 1 where
  pub State : Type 0
  pub Ask : Type 0
  pub start : State
  pub parts : ℕ
  pub ask_of : (ℕ → ℕ) → Ask
  pub eligible : State → ℕ → Ask → Bool
  pub act : State → ℕ → Ask → State
  pub prints : State → ℕ → Ask → List ℕ
  pub told : ℕ
  pub tells : State → ℕ → ℕ → ℕ

-- where a core's module has part j of thread i's ask, whether it may be granted, whether it is, and number j that it tells
-- thread i; and which readings show a state
pub record CorePlaces (c : CoreMachine) : Type 1 where
  pub shows : Reading → c.State → Type 0
  pub ask : ℕ → ℕ → ℕ
  pub offer : ℕ → ℕ
  pub grant : ℕ → ℕ
  pub tell : ℕ → ℕ → ℕ

module _ (c : CoreMachine) where
  -- the state after a grant, if any, and what it prints
  abbrev pub after_grant : c.State → (ℕ → c.Ask) → Option ℕ → c.State
  after_grant s asks None = s
  after_grant s asks (Some w) = c.act s w (asks w)

  abbrev pub printed : c.State → (ℕ → c.Ask) → Option ℕ → List ℕ
  printed s asks None = []
  printed s asks (Some w) = c.prints s w (asks w)

  module _ (p : CorePlaces c) where
    -- what thread i asks
    abbrev pub asked : Reading → ℕ → c.Ask
    asked r i = c.ask_of (λ j. r.signal (p.ask j i))

    -- one of n threads is granted, or none
    pub record Grants (n : ℕ) (r : Reading) (o : Option ℕ) : Type 0 where
      pub below : (w : ℕ) → o ≡ Some w → w < n
      pub bits : (i : ℕ) → i < n → r.signal (p.grant i) ≡ bit_of (is_granted o i)

    -- the promise of a core's module of n threads, over every reading that obeys it
    pub record IsCore (n : ℕ) (m : Module) : Type 0 where
      pub starts : p.shows (initial_reading (Some m)) c.start
      pub keeps : (h g : Reading) (s : c.State) → Agree m h g → p.shows h s → p.shows g s
      pub faithful : (h g : Reading) (s : c.State) → p.shows h s → p.shows g s → Agree m h g
      pub hears : (f g : ℕ → ℕ) → ((j : ℕ) → j < c.parts → f j ≡ g j) → c.ask_of f ≡ c.ask_of g
      pub offers : (r : Reading) (s : c.State) → Obeys m r → p.shows r s → (i : ℕ) → i < n → r.signal (p.offer i) ≡ bit_of (c.eligible s i (asked r i))
      pub tells : (r : Reading) (s : c.State) → Obeys m r → p.shows r s → (j i : ℕ) → j < c.told → i < n → r.signal (p.tell j i) ≡ c.tells s i j
      pub moves : (r : Reading) (s : c.State) (o : Option ℕ) → Obeys m r → p.shows r s → Grants n r o → p.shows (next_reading m r) (after_grant s (asked r) o)
      pub writes : (r : Reading) (s : c.State) (o : Option ℕ) → Obeys m r → p.shows r s → Grants n r o → written m r ≡ printed s (asked r) o
      pub ask_inputs : (j i : ℕ) → j < c.parts → i < n → HasInput m (p.ask j i)
      pub grant_inputs : (i : ℕ) → i < n → HasInput m (p.grant i)

-- a thread: what it asks of each core, part by part, where it is enabled or not; what its slot becomes under grants of the
-- cores and what they tell it; whether it needs them; and whether it is done
pub record ThreadMachine : Type 1 where
  pub Slot : Type 0
  pub start : Slot
  pub asks : Bool → Slot → ℕ → ℕ → ℕ
  pub advance : Bool → (ℕ → Bool) → (ℕ → ℕ → ℕ) → Slot → Slot
  pub needs : Slot → Bool
  pub is_done : Slot → Bool

-- where a thread's module has whether it is enabled, what it asks of core k, whether core k grants it, what core k tells
-- it, and whether it needs them; which cores it has ports for; and which readings show a slot
pub record ThreadPlaces (t : ThreadMachine) : Type 1 where
  pub shows : Reading → t.Slot → Type 0
  pub uses : ℕ → Bool
  pub enable : ℕ
  pub ask : ℕ → ℕ → ℕ
  pub grant : ℕ → ℕ
  pub told : ℕ → ℕ → ℕ
  pub need : ℕ

module _ (t : ThreadMachine) (p : ThreadPlaces t) (cores : ℕ) (parts told : ℕ → ℕ) where
  -- what reaches a thread
  pub record Hears (r : Reading) (enabled : Bool) (granted : ℕ → Bool) (news : ℕ → ℕ → ℕ) : Type 0 where
    pub enables : r.signal p.enable ≡ bit_of enabled
    pub grants : (k : ℕ) → k < cores → p.uses k ≡ true → r.signal (p.grant k) ≡ bit_of (granted k)
    pub tells : (k j : ℕ) → k < cores → p.uses k ≡ true → j < told k → r.signal (p.told k j) ≡ news k j

  -- the promise of a thread's module, where core k takes so many parts and tells so many numbers
  pub record IsThread (m : Module) : Type 0 where
    pub starts : p.shows (initial_reading (Some m)) t.start
    pub keeps : (h g : Reading) (s : t.Slot) → Agree m h g → p.shows h s → p.shows g s
    pub faithful : (h g : Reading) (s : t.Slot) → p.shows h s → p.shows g s → Agree m h g
    pub asks : (r : Reading) (s : t.Slot) (enabled : Bool) → Obeys m r → p.shows r s → r.signal p.enable ≡ bit_of enabled → (k j : ℕ) → k < cores → p.uses k ≡ true → j < parts k
        → r.signal (p.ask k j) ≡ t.asks enabled s k j
    pub asks_none : (s : t.Slot) (enabled : Bool) (k j : ℕ) → p.uses k ≡ false → t.asks enabled s k j ≡ 0
    pub needs : (r : Reading) (s : t.Slot) → Obeys m r → p.shows r s → r.signal p.need ≡ bit_of (t.needs s)
    pub moves : (r : Reading) (s : t.Slot) (enabled : Bool) (granted : ℕ → Bool) (news : ℕ → ℕ → ℕ) → Obeys m r → p.shows r s → Hears r enabled granted news
        → p.shows (next_reading m r) (t.advance enabled granted news s)
    pub silent : (r : Reading) → written m r ≡ []
    pub enable_input : HasInput m p.enable
    pub grant_inputs : (k : ℕ) → k < cores → p.uses k ≡ true → HasInput m (p.grant k)
    pub told_inputs : (k j : ℕ) → k < cores → p.uses k ≡ true → j < told k → HasInput m (p.told k j)
