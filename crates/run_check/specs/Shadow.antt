-- What is kept of the steps of a run: of each element the last write and each thread's last read, of each object the last
-- act, and who has heard of how many steps.
use Rattle.std.specs.Prelude.{◌≡◌, ◌⊎◌, ℕ, ◌+◌, ◌≤◌, ◌<◌, Bool, true, false, if◌then◌else◌, List, Option, Some, Contains}
use Rattle.std.specs.List.{AllByRecursion}
use Rattle.thread_semantics.specs.Memory.{Location}
use Rattle.thread_semantics.specs.Races.{Touch}
use Rattle.run_check.specs.declared.clocks.Stamp.{Stamp}
use Rattle.run_check.specs.declared.class.Class.{Class}
use Rattle.run_check.specs.Clocks.{is_heard, ticked, Hears}
use Rattle.run_check.specs.Class.{is_print, mutex_of, barrier_of, id_of, barrier_set, Tells}

pub record Shadow : Type 0 where
  pub clock : ℕ → ℕ → ℕ
  pub write : Location → Stamp
  pub read : Location → ℕ → ℕ
  pub mutex : ℕ → Stamp
  pub barrier : ℕ → Stamp
  pub id : ℕ → Stamp
  pub print : Stamp
  -- whether each print so far happens behind the one before it
  pub one_output : Bool

abbrev pub stamp : ℕ → ℕ → Stamp
stamp i n = record { thread = i; number = n }

-- the next step of thread i
abbrev pub next_stamp : (ℕ → ℕ → ℕ) → ℕ → Stamp
next_stamp clock i = stamp i (clock i i + 1)

-- the clocks behind such a step of thread i
abbrev pub ClocksAfter : (ℕ → ℕ → ℕ) → (ℕ → ℕ → ℕ) → ℕ → Class → List ℕ → Type 0
ClocksAfter old new i c released = Hears (Tells c released i) (ticked old i) new

-- who has heard of so many steps of each thread has heard of each access that conflicts with this one
pub record IsOrdered (write : Location → Stamp) (read : Location → ℕ → ℕ) (heard : ℕ → ℕ) (t : Touch) : Type 0 where
  pub write_heard : is_heard heard (write t.place) ≡ true
  pub reads_heard : t.written ≡ true → (k : ℕ) → read t.place k ≤ heard k

-- one of them it hasn't heard of
abbrev pub IsUnordered : (Location → Stamp) → (Location → ℕ → ℕ) → (ℕ → ℕ) → Touch → Type 0
IsUnordered write read heard t =
    (is_heard heard (write t.place) ≡ false) ⊎ ((t.written ≡ true) × (k : ℕ) × (heard k < read t.place k))

abbrev pub AreOrdered : (Location → Stamp) → (Location → ℕ → ℕ) → (ℕ → ℕ) → List Touch → Type 0
AreOrdered write read heard touches = AllByRecursion (IsOrdered write read heard) touches

-- the last accesses behind a step, which touches this
pub record IsMarked (old new : Location → Stamp) (old_read new_read : Location → ℕ → ℕ) (step : Stamp) (touches : List Touch) : Type 0 where
  pub write : (p : Location) → (new p ≡ old p) ⊎ ((new p ≡ step) × (t : Touch) × Contains touches t × (t.place ≡ p) × (t.written ≡ true))
  pub read :
      (p : Location) (k : ℕ) →
      (new_read p k ≡ old_read p k)
      ⊎ ((k ≡ step.thread) × (new_read p k ≡ step.number) × (t : Touch) × Contains touches t × (t.place ≡ p))
  pub written : (t : Touch) → Contains touches t → t.written ≡ true → new t.place ≡ step
  pub was_read : (t : Touch) → Contains touches t → t.written ≡ false → new_read t.place step.thread ≡ step.number

-- the last acts behind a step, which is one on this object
pub record IsUsed (old new : ℕ → Stamp) (heard : ℕ → ℕ) (step : Stamp) (object : Option ℕ) : Type 0 where
  pub ordered : (x : ℕ) → object ≡ Some x → is_heard heard (old x) ≡ true
  pub set : (x : ℕ) → object ≡ Some x → new x ≡ step
  pub change : (x : ℕ) → (new x ≡ old x) ⊎ ((object ≡ Some x) × (new x ≡ step))

-- the last print behind a step
abbrev pub last_print : Bool → Stamp → Stamp → Stamp
last_print print step old = if print then step else old

-- what is kept behind a step of thread i, which happens behind all steps on which it depends
pub record IsNoted (old new : Shadow) (i : ℕ) (c : Class) (touches : List Touch) (released : List ℕ) (ended : Bool) : Type 0 where
  pub clocks : ClocksAfter old.clock new.clock i c released
  pub order : (t : Touch) → Contains touches t → IsOrdered old.write old.read (old.clock i) t
  pub marks : IsMarked old.write new.write old.read new.read (next_stamp old.clock i) touches
  pub mutex : IsUsed old.mutex new.mutex (old.clock i) (next_stamp old.clock i) (mutex_of c)
  pub id : IsUsed old.id new.id (old.clock i) (next_stamp old.clock i) (id_of c)
  pub barrier : IsUsed old.barrier new.barrier (old.clock i) (next_stamp old.clock i) (barrier_set c released)
  pub meets : (x : ℕ) → barrier_of c ≡ Some x → is_heard (old.clock i) (old.barrier x) ≡ true
  pub print : new.print ≡ last_print (is_print c) (next_stamp old.clock i) old.print
  pub outputs : new.one_output ≡ true → (old.one_output ≡ true) × (is_print c ≡ true → is_heard (old.clock i) old.print ≡ true)
  pub outputs_lost : new.one_output ≡ false → (old.one_output ≡ false) ⊎ ((is_print c ≡ true) × (is_heard (old.clock i) old.print ≡ false))
  pub last : ended ≡ true → (k : ℕ) → old.clock k k ≤ old.clock i k

-- who has heard of so many steps hasn't heard of one on which such a step depends: that one is the last write or a last read of what the
-- step touches, the last act on its object, or the last step of a thread, where main returns by it
pub data Misses (K : Shadow) (heard : ℕ → ℕ) (c : Class) (touches : List Touch) (ended : Bool) : Type 0 where
  MissesAccess : (t : Touch) (contained : Contains touches t) (unheard : IsUnordered K.write K.read heard t) → Misses K heard c touches ended
  MissesMutex : (x : ℕ) (at : mutex_of c ≡ Some x) (unheard : is_heard heard (K.mutex x) ≡ false) → Misses K heard c touches ended
  MissesBarrier : (x : ℕ) (at : barrier_of c ≡ Some x) (unheard : is_heard heard (K.barrier x) ≡ false) → Misses K heard c touches ended
  MissesId : (x : ℕ) (at : id_of c ≡ Some x) (unheard : is_heard heard (K.id x) ≡ false) → Misses K heard c touches ended
  MissesStep : (over : ended ≡ true) (k : ℕ) (unheard : heard k < K.clock k k) → Misses K heard c touches ended
