-- What all threads do in one cycle, and the order in which it enters an interleaving: by thread number.
--
-- What the concrete side has to provide of a cycle from w to v, for InCycle P H w v place_owner core_owner T moving,
-- with cores by number (H : Hardware Value Local State Slot (ℕ → Core)):
--   place_owner : Location → ℕ    the thread to which the bank of a place is granted in this cycle; T or more for nobody
--   core_owner : ℕ → ℕ            the thread to which a core is granted; T or more for nobody
--   moving : ℕ → Bool             who turns or acts
--   stays                         of each other thread below T: slot, own places and own cores stay
--   goes                          of each thread that moves: TurnsInCycle or ActsInCycle
--   beyond, unowned, idle         slots from T on, places and cores that are nobody's stay
use Rattle.std.specs.Prelude.{◌≡◌, ◌≢◌, ℕ, zero, suc, ◌<◌, ◌≤◌, List, [], ◌∷◌, ◌⊎◌, Bool, true, false, if◌then◌else◌}
use Rattle.interleaving.specs.Memory.{Location, Memory, Access, memory_after, Touches, AgreeOn}
use Rattle.interleaving.specs.Source.{Source}
use Rattle.interleaving.specs.Hardware.{World, Hardware, Turned}

-- of r threads from n on those that pass, in order
abbrev pub movers : (ℕ → Bool) → ℕ → ℕ → List ℕ
movers test zero n = []
movers test (suc r) n = if test n then n ∷ movers test r (suc n) else movers test r (suc n)

module _ {Value Local State Slot Cores : Type 0} (P : Source Value Local State) (H : Hardware Value Local State Slot Cores) where
  -- these threads, all below T, move one after the other: each turns or acts
  abbrev pub Chain : ℕ → List ℕ → World Value Slot Cores → World Value Slot Cores → Type 0
  Chain T [] w v = w ≡ v
  Chain T (i ∷ is) w v = (u : World Value Slot Cores) × (i < T) × (Turned P H w i u ⊎ H.Act w i u) × Chain T is u v

module _ {Value Local State Slot Core : Type 0} (P : Source Value Local State) (H : Hardware Value Local State Slot (ℕ → Core)) (w v : World Value Slot (ℕ → Core))
    (place_owner : Location → ℕ) (core_owner : ℕ → ℕ) where
  -- thread n does nothing in this cycle
  pub record StaysInCycle (n : ℕ) : Type 0 where
    pub slot : v.slots n ≡ w.slots n
    pub memory : (p : Location) → place_owner p ≡ n → v.memory p ≡ w.memory p
    pub cores : (k : ℕ) → core_owner k ≡ n → v.cores k ≡ w.cores k

  -- these cores are those before the cycle, but for some that other threads than n have changed in it
  abbrev pub AreForThread : ℕ → (ℕ → Core) → Type 0
  AreForThread n c = (k : ℕ) → (c k ≡ w.cores k) ⊎ ((core_owner k ≢ n) × (c k ≡ v.cores k))

  -- thread n turns in this cycle: it sees the places that it touches as they were, and no act of another thread in this cycle hinders it
  pub record TurnsInCycle (n : ℕ) : Type 0 where
    pub accesses : List (Access Value)
    pub turn : (M : Memory Value) (c : ℕ → Core) → AgreeOn accesses w.memory M → AreForThread n c → H.Turn c n (w.slots n) M accesses (v.slots n)
    pub own : (p : Location) → Touches p accesses → place_owner p ≡ n
    pub memory : (p : Location) → place_owner p ≡ n → v.memory p ≡ memory_after accesses w.memory p
    pub cores : (k : ℕ) → core_owner k ≡ n → v.cores k ≡ w.cores k

  -- b is a after the act of thread n alone, where a has the slot of n and its cores as before the cycle
  pub record ActsAlone (n : ℕ) (a b : World Value Slot (ℕ → Core)) : Type 0 where
    pub old_slot : a.slots n ≡ w.slots n
    pub new_slot : b.slots n ≡ v.slots n
    pub old_cores : AreForThread n a.cores
    pub new_cores : (k : ℕ) → core_owner k ≡ n → b.cores k ≡ v.cores k
    pub slots : (j : ℕ) → j ≢ n → b.slots j ≡ a.slots j
    pub cores : (k : ℕ) → core_owner k ≢ n → b.cores k ≡ a.cores k
    pub memory : (p : Location) → b.memory p ≡ a.memory p

  -- thread n acts in this cycle, whatever other threads have done in it
  pub record ActsInCycle (n : ℕ) : Type 0 where
    pub act : (a b : World Value Slot (ℕ → Core)) → ActsAlone n a b → H.Act a n b
    pub memory : (p : Location) → place_owner p ≡ n → v.memory p ≡ w.memory p

  -- a cycle in which each bank and each core is granted to at most one thread
  pub record InCycle (T : ℕ) (moving : ℕ → Bool) : Type 0 where
    pub stays : (n : ℕ) → n < T → moving n ≡ false → StaysInCycle n
    pub goes : (n : ℕ) → n < T → moving n ≡ true → TurnsInCycle n ⊎ ActsInCycle n
    pub beyond : (i : ℕ) → T ≤ i → v.slots i ≡ w.slots i
    pub unowned : (p : Location) → T ≤ place_owner p → v.memory p ≡ w.memory p
    pub idle : (k : ℕ) → T ≤ core_owner k → v.cores k ≡ w.cores k

-- ORDER IN A CYCLE: such a cycle is a chain of the moves of its threads by thread number, acts of different cores among them
abbrev pub OrderInCycle : {Value Local State Slot Core : Type 0} → Source Value Local State → Hardware Value Local State Slot (ℕ → Core) → Type 0
OrderInCycle {Value = Value} {Slot = Slot} {Core = Core} P H =
    (w v : World Value Slot (ℕ → Core)) (place_owner : Location → ℕ) (core_owner : ℕ → ℕ) (T : ℕ) (moving : ℕ → Bool) →
    InCycle P H w v place_owner core_owner T moving → Chain P H T (movers moving T 0) w v
