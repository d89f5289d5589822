-- A module of a thread that keeps to itself: what it does while it needs no core hangs on nothing outside, and it changes whenever it is granted
-- what it asks.
use Rattle.std.specs.Prelude.{◌≡◌, ℕ, ◌<◌, true, codes}
use Rattle.netlist.specs.declared.netlist.Signal.{Signal}
use Rattle.netlist.specs.declared.netlist.Module.{Module}
use Rattle.verilog_meaning.specs.Names.{IsSignal}
use Rattle.verilog_meaning.specs.Readings.{Reading, next_reading}
use Rattle.circuit.specs.Modules.{Obeys, Agree}
use Rattle.circuit.specs.Machines.{ThreadMachine, ThreadPlaces}
use Rattle.leaf_machine.specs.Leaves.{LeafPorts, leaf_thread, leaf_places}

module _ (t : ThreadMachine) (p : ThreadPlaces t) (cores : ℕ) (m : Module) where
  -- the edge leaves every register and memory word
  abbrev pub Stays : Reading → Type 0
  Stays r = Agree m r (next_reading m r)

  -- the thread asks core k
  abbrev pub Asks : Reading → ℕ → Type 0
  Asks r k = r.signal (p.ask k 0) ≡ 0 → ⊥

  -- the module of a thread keeps to itself in closed cycles, in each state, whether it can be reached or not
  pub record KeepsToItself : Type 0 where
    pub shown : (r : Reading) → (s : t.Slot) × p.shows r s
    -- whoever is not enabled stays, and asks nothing
    pub rests : (r : Reading) → Obeys m r → r.signal p.enable ≡ 0 → Stays r
    pub quiet : (r : Reading) → Obeys m r → r.signal p.enable ≡ 0 → (k : ℕ) → k < cores → p.uses k ≡ true → r.signal (p.ask k 0) ≡ 0
    -- where no core is needed none is asked; the slot changes, and to what depends on the slot alone
    pub closed_quiet : (r : Reading) → Obeys m r → r.signal p.need ≡ 0 → (k : ℕ) → k < cores → p.uses k ≡ true → r.signal (p.ask k 0) ≡ 0
    pub closed_moves : (r : Reading) → Obeys m r → r.signal p.need ≡ 0 → r.signal p.enable ≡ 1 → Stays r → ⊥
    pub closed_alike : (r q : Reading) → Obeys m r → Obeys m q → Agree m r q → r.signal p.need ≡ 0 → r.signal p.enable ≡ 1 → q.signal p.enable ≡ 1 →
        Agree m (next_reading m r) (next_reading m q)
    -- a grant of a core that is asked changes the slot
    pub granted_moves : (r : Reading) (k : ℕ) → Obeys m r → r.signal p.enable ≡ 1 → k < cores → p.uses k ≡ true → Asks r k → r.signal (p.grant k) ≡ 1 → Stays r → ⊥

-- the module of a thread keeps to itself, and has an output of the name need
pub record IsSteadyThread (cores : ℕ) (m : Module) (leaf : LeafPorts) : Type 0 where
  pub keeps : KeepsToItself (leaf_thread m leaf) (leaf_places m leaf) cores m
  pub need : Signal
  pub is : IsSignal m (codes "need") leaf.need need
  pub out : need.is_output ≡ true

-- the module of main is such a one, and stays where it has ended
pub record IsSteadyMain (cores : ℕ) (m : Module) (leaf : LeafPorts) : Type 0 where
  pub thread : IsSteadyThread cores m leaf
  pub ended : (r : Reading) → Obeys m r → r.signal leaf.done ≡ 1 → Agree m r (next_reading m r)
