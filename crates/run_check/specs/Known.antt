-- What the code keeps of a run.
use Rattle.std.specs.Prelude.{◌≡◌, ◌⊎◌, ℕ, Bool, true, false, List, Option, Some}
use Rattle.thread_semantics.specs.Memory.{Location}
use Rattle.thread_semantics.specs.Races.{Touch}
use Rattle.run_check.specs.declared.clocks.Stamp.{Stamp}
use Rattle.run_check.specs.declared.class.Class.{Class}
use Rattle.run_check.specs.declared.known.Known.{Known}
use Rattle.run_check.specs.declared.known.Note.{Note}
use Rattle.run_check.specs.declared.known.Note.TheVariants as note
use Rattle.run_check.specs.Clocks.{clock, is_heard}
use Rattle.run_check.specs.Class.{is_print, mutex_of, barrier_of, id_of, barrier_set}
use Rattle.run_check.specs.Objects.{stamp_at, write_at, read_at}
use Rattle.run_check.specs.Shadow.{Shadow, last_print, IsNoted, Misses}

abbrev pub shadow_of : Known → Shadow
shadow_of k = record {
  clock = clock k.clocks.items;
  write = write_at k.elements.items;
  read = read_at k.elements.items;
  mutex = stamp_at k.mutexes.items;
  barrier = stamp_at k.barriers.items;
  id = stamp_at k.ids.items;
  print = k.print;
  one_output = k.one_output;
}

-- who has heard of so many steps has heard of the last act on the object of such a step
pub record IsActOrdered (k : Known) (heard : ℕ → ℕ) (c : Class) : Type 0 where
  pub mutex : (x : ℕ) → mutex_of c ≡ Some x → is_heard heard (stamp_at k.mutexes.items x) ≡ true
  pub barrier : (x : ℕ) → barrier_of c ≡ Some x → is_heard heard (stamp_at k.barriers.items x) ≡ true
  pub id : (x : ℕ) → id_of c ≡ Some x → is_heard heard (stamp_at k.ids.items x) ≡ true

pub record IsPut (old new : ℕ → Stamp) (step : Stamp) (object : Option ℕ) : Type 0 where
  pub set : (x : ℕ) → object ≡ Some x → new x ≡ step
  pub change : (x : ℕ) → (new x ≡ old x) ⊎ ((object ≡ Some x) × (new x ≡ step))

pub record IsActPut (old new : Known) (step : Stamp) (c : Class) (released : List ℕ) : Type 0 where
  pub clocks : new.clocks ≡ old.clocks
  pub elements : new.elements ≡ old.elements
  pub mutex : IsPut (stamp_at old.mutexes.items) (stamp_at new.mutexes.items) step (mutex_of c)
  pub barrier : IsPut (stamp_at old.barriers.items) (stamp_at new.barriers.items) step (barrier_set c released)
  pub id : IsPut (stamp_at old.ids.items) (stamp_at new.ids.items) step (id_of c)
  pub print : new.print ≡ last_print (is_print c) step old.print
  pub one_output : new.one_output ≡ old.one_output

-- who has heard of so many steps hasn't heard of the last act on the object of such a step
abbrev pub IsActMissed : Known → (ℕ → ℕ) → Class → Type 0
IsActMissed k heard c =
    ((x : ℕ) × (mutex_of c ≡ Some x) × (is_heard heard (stamp_at k.mutexes.items x) ≡ false))
    ⊎ ((x : ℕ) × (barrier_of c ≡ Some x) × (is_heard heard (stamp_at k.barriers.items x) ≡ false))
    ⊎ ((x : ℕ) × (id_of c ≡ Some x) × (is_heard heard (stamp_at k.ids.items x) ≡ false))

-- before the first step
pub record IsFirst (k : Known) : Type 0 where
  pub clocks : (j n : ℕ) → clock k.clocks.items j n ≡ 0
  pub write : (p : Location) → (write_at k.elements.items p).number ≡ 0
  pub read : (p : Location) (n : ℕ) → read_at k.elements.items p n ≡ 0
  pub mutex : (x : ℕ) → (stamp_at k.mutexes.items x).number ≡ 0
  pub barrier : (x : ℕ) → (stamp_at k.barriers.items x).number ≡ 0
  pub id : (x : ℕ) → (stamp_at k.ids.items x).number ≡ 0
  pub print : k.print.number ≡ 0
  pub one_output : k.one_output ≡ true

-- what became of a step of thread i that was to be noted
abbrev pub IsNote : Known → Known → ℕ → Class → List Touch → List ℕ → Bool → Note → Type 0
IsNote old new i c touches released ended note.Kept = IsNoted (shadow_of old) (shadow_of new) i c touches released ended
IsNote old new i c touches released ended note.Unordered =
    Misses (shadow_of old) (clock old.clocks.items i) c touches ended
IsNote old new i c touches released ended note.NoRoom = Unit {0}
