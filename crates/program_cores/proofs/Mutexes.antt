-- There is a mutex for each element of the objects, free at the start where the object is initialised.
use Rattle.std.proofs.Common.{◌≡◌, ℕ, zero, suc, Bool, true, false, List, [], ◌∷◌, ◌++◌, length, map, replicate, sum_by, Some, refl, sym, ap, ◌∙◌}
use Rattle.std.specs.Prelude.{slice_get}
use Rattle.std.specs.List.{flat_map}
use Rattle.std.proofs.lemmas.List.{length-replicate, map-append}
use Rattle.std.proofs.lemmas.List.Concat.{length-flat_map}
use Rattle.std.proofs.lemmas.Option.{none-some, same_Some}
use Rattle.lists.proofs.Places.{get_mapped}
use Rattle.c_program.specs.Tree.{Program}
use Rattle.c_program.specs.declared.tree.MutexObject.{MutexObject}
use Rattle.thread_semantics.specs.declared.object.MutexState.{MutexState}
use Rattle.thread_semantics.specs.declared.object.MutexState.TheVariants.{Uninitialised, Free}
use Rattle.thread_semantics.specs.State.{first_mutex, first_mutexes, start}
use Rattle.circuit.specs.Rows.{EachOf}
use Rattle.mutex_cores.specs.declared.mutex.Shape.{Shape}
use Rattle.law_cycle.specs.Built.{AreMutexes}
use Rattle.program_cores.specs.Cores.{object_mutexes, mutex_shapes}

module _ (T : ℕ) where
  abbrev shape : Bool → Shape
  shape b = record { threads = T; initialised = b }

  abbrev first : Shape → MutexState
  first s = first_mutex s.initialised

  copies : (n : ℕ) (b : Bool) → map first (replicate n (shape b)) ≡ replicate n (first_mutex b)
  copies zero b = refl
  copies (suc n) b = ap (λ (l : List MutexState). first_mutex b ∷ l) (copies n b)

  -- the states at the start are those of the shapes
  states : (os : List MutexObject) → map first (mutex_shapes T os) ≡ flat_map first_mutexes os
  states [] = refl
  states (o ∷ os) =
      map-append first (object_mutexes T o) (mutex_shapes T os) ∙ ap (λ (l : List MutexState). l ++ map first (mutex_shapes T os)) (copies o.length o.initialised)
      ∙ ap (λ (l : List MutexState). first_mutexes o ++ l) (states os)

  counted : (os : List MutexObject) → length (mutex_shapes T os) ≡ sum_by (λ (o : MutexObject). o.length) os
  counted os = length-flat_map (object_mutexes T) os ∙ (λ d. sum_by (λ (o : MutexObject). length-replicate o.length (shape o.initialised) d) os)

  many : (n : ℕ) (b : Bool) (rest : List Shape) → EachOf (λ (s : Shape). s.threads ≡ T) rest → EachOf (λ (s : Shape). s.threads ≡ T) (replicate n (shape b) ++ rest)
  many zero b rest h = h
  many (suc n) b rest h = (refl, many n b rest h)

  pub all_threads : (os : List MutexObject) → EachOf (λ (s : Shape). s.threads ≡ T) (mutex_shapes T os)
  all_threads [] = tt
  all_threads (o ∷ os) = many o.length o.initialised (mutex_shapes T os) (all_threads os)

  each_threads : (shapes : List Shape) (n : ℕ) (s : Shape) → EachOf (λ (z : Shape). z.threads ≡ T) shapes → slice_get shapes n ≡ Some s → s.threads ≡ T
  each_threads [] n s all e = absurd (none-some s e)
  each_threads (z ∷ shapes) zero s all e = ap (λ (y : Shape). y.threads) (sym (same_Some z s e)) ∙ all.0
  each_threads (z ∷ shapes) (suc n) s all e = each_threads shapes n s all.1 e

  is_free : (b : Bool) → first_mutex b ≡ Free → b ≡ true
  is_free true e = refl
  is_free false e = absurd (let z : Uninitialised ≡ Free = e in cc)

  pub are_mutexes : (P : Program) → AreMutexes P T (mutex_shapes T P.mutexes)
  are_mutexes P = record {
    count = counted P.mutexes;
    threads = λ n s e. each_threads (mutex_shapes T P.mutexes) n s (all_threads P.mutexes) e;
    free = λ n s e.
        let state : slice_get (start P).mutexes n ≡ Some (first s) =
        ap (λ (l : List MutexState). slice_get l n) (sym (states P.mutexes)) ∙ get_mapped first (mutex_shapes T P.mutexes) n s e in (
          (λ (on : s.initialised ≡ true). state ∙ ap (λ b. Some (first_mutex b)) on),
          (λ (free : slice_get (start P).mutexes n ≡ Some Free). is_free s.initialised (same_Some (first s) Free (sym state ∙ free))),
        );
  }
