-- What the code keeps of one access.
use Rattle.std.specs.Prelude.{◌≡◌, ◌⊎◌, ℕ, Bool, true, false, List, Some, slice_get, slice_set, slice_index}
use Rattle.thread_semantics.specs.Memory.{Location}
use Rattle.thread_semantics.specs.Races.{Touch}
use Rattle.run_check.specs.declared.clocks.Stamp.{Stamp}
use Rattle.run_check.specs.declared.elements.Element.{Element}
use Rattle.run_check.specs.Objects.{Elements, write_at, read_at}

pub record IsElementMarked (old new : Element) (written : Bool) (step : Stamp) : Type 0 where
  pub write : (new.write ≡ old.write) ⊎ ((new.write ≡ step) × (written ≡ true))
  pub now_written : written ≡ true → new.write ≡ step
  pub read :
      (k : ℕ) →
      (slice_index new.reads.items k ≡ slice_index old.reads.items k)
      ⊎ ((k ≡ step.thread) × (slice_index new.reads.items k ≡ step.number))
  pub now_read : written ≡ false → slice_index new.reads.items step.thread ≡ step.number

pub record IsRowMarked (old new : List Element) (index : ℕ) (written : Bool) (step : Stamp) : Type 0 where
  pub before : Element
  pub behind : Element
  pub was : slice_get old index ≡ Some before
  pub is : new ≡ slice_set old index behind
  pub marked : IsElementMarked before behind written step

pub record IsOneMarked (old new : Elements) (t : Touch) (step : Stamp) : Type 0 where
  pub write : (p : Location) → (write_at new p ≡ write_at old p) ⊎ ((write_at new p ≡ step) × (t.place ≡ p) × (t.written ≡ true))
  pub written : t.written ≡ true → write_at new t.place ≡ step
  pub read :
      (p : Location) (k : ℕ) →
      (read_at new p k ≡ read_at old p k) ⊎ ((k ≡ step.thread) × (read_at new p k ≡ step.number) × (t.place ≡ p))
  pub was_read : t.written ≡ false → read_at new t.place step.thread ≡ step.number
