-- The cores stand for the state after a move, and after main's return.
use Rattle.std.specs.Prelude.{Bool, if◌then◌else◌, Some, slice_get}
use Rattle.std.proofs.Common.{◌≡◌, ℕ, zero, suc, List, [], ◌∷◌, length, map, refl, sym, ap, ap₂, ◌∙◌, arith}
use Rattle.thread_semantics.specs.State.{Slot, State, Barrier}
use Rattle.thread_semantics.specs.Step.{is_unused, is_running}
use Rattle.thread_semantics.specs.declared.object.MutexState.{MutexState}
use Rattle.race_model.specs.Source.{Local}
use Rattle.race_model.specs.Shared.{Shared, shared_of}
use Rattle.law_threads.specs.Cores.{Core, OfPrinter}
use Rattle.block_ir.specs.Asked.{Numbers}
use Rattle.law_threads.specs.Stands.{status_of, StandsFor}
use Rattle.law_threads.specs.Acts.{KeepsOthers}

-- in slots that look alike each has the same status
alike : (xs ys : List Slot) (i : ℕ) (y : Slot) → map is_unused ys ≡ map is_unused xs →
    map (λ (slot : Slot). is_running (Some slot)) ys ≡ map (λ (slot : Slot). is_running (Some slot)) xs → slice_get ys i ≡ Some y →
    (x : Slot) × (slice_get xs i ≡ Some x) × (status_of x ≡ status_of y)
alike xs [] i y u r e = absurd cc
alike [] (z ∷ ys) i y u r e = absurd cc
alike (x ∷ xs) (z ∷ ys) zero y u r e =
    let same : z ≡ y = cc in
    let unused : is_unused z ≡ is_unused x = cc in
    let running : is_running (Some z) ≡ is_running (Some x) = cc in
    (x, refl, ap₂ (λ (a b : Bool). if a then 0 else (if b then 1 else 2)) (sym unused) (sym running) ∙ ap status_of same)
alike (x ∷ xs) (z ∷ ys) (suc i) y u r e =
    let unused : map is_unused ys ≡ map is_unused xs = cc in
    let running : map (λ (slot : Slot). is_running (Some slot)) ys ≡ map (λ (slot : Slot). is_running (Some slot)) xs = cc in
    alike xs ys i y unused running e

module _ (N : Numbers) (T : ℕ) (c : ℕ → Core) (s t : State) (stands : StandsFor N T c s) where
  pub stands_moved : shared_of t ≡ shared_of s → StandsFor N T c t
  stands_moved e = record {
    mutexes = λ n m at. stands.mutexes n m (ap (λ (xs : List MutexState). slice_get xs n) (sym (ap (λ (z : Shared). z.mutexes) e)) ∙ at);
    barriers = λ n b at. stands.barriers n b (ap (λ (xs : List Barrier). slice_get xs n) (sym (ap (λ (z : Shared). z.barriers) e)) ∙ at);
    thread_ids = λ has.
        let k = stands.thread_ids has in
        record {
          thread_ids = k.thread_ids;
          is = k.is;
          statuses = k.statuses;
          arguments = k.arguments;
          main = k.main;
          each = λ i slot lt at.
              let x = alike s.slots t.slots i slot (ap (λ (z : Shared). z.unused) e) (ap (λ (z : Shared). z.running) e) at in
              k.each i x.0 lt x.1 ∙ x.2;
        };
    output = stands.output ∙ ap OfPrinter (sym (ap (λ (z : Shared). z.output) e));
    mutex_count = ap (λ (z : Shared). length z.mutexes) e ∙ stands.mutex_count;
    barrier_count = ap (λ (z : Shared). length z.barriers) e ∙ stands.barrier_count;
  }

  pub stands_ended : KeepsOthers s 0 t → t.output ≡ s.output → StandsFor N T c t
  stands_ended keeps out = record {
    mutexes = λ n m at. stands.mutexes n m (ap (λ (xs : List MutexState). slice_get xs n) (sym keeps.mutexes) ∙ at);
    barriers = λ n b at. stands.barriers n b (ap (λ (xs : List Barrier). slice_get xs n) (sym keeps.barriers) ∙ at);
    thread_ids = λ has.
        let k = stands.thread_ids has in
        record {
          thread_ids = k.thread_ids;
          is = k.is;
          statuses = k.statuses;
          arguments = k.arguments;
          main = k.main;
          each = λ i slot lt at. k.each i slot lt (sym (ap (λ (x : Local). x.slot) (keeps.others i (λ e. absurd (omega arith)))) ∙ at);
        };
    output = stands.output ∙ ap OfPrinter (sym out);
    mutex_count = ap (λ (xs : List MutexState). length xs) keeps.mutexes ∙ stands.mutex_count;
    barrier_count = ap (λ (xs : List Barrier). length xs) keeps.barriers ∙ stands.barrier_count;
  }
