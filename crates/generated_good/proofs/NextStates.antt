-- A state in which one thread has moved is again one of a generated program.
use Rattle.std.proofs.Common.{◌≡◌, ◌≢◌, ℕ, suc, ◌<◌, ◌≤◌, List, length, ap, sym, ◌∙◌, subst, ⊎_elim, arith}
use Rattle.std.specs.Prelude.{Bool, true, false, ℤ, Option, Some, slice_get, slice_set}
use Rattle.std.proofs.lemmas.Bool.{cases_eq}
use Rattle.std.proofs.lemmas.List.{length-set}
use Rattle.lists.proofs.Places.{set_same, set_elsewhere}
use Rattle.thread_semantics.specs.declared.object.MutexState.{MutexState}
use Rattle.thread_semantics.specs.declared.object.MutexState.TheVariants.{Owned}
use Rattle.thread_semantics.specs.State.{Frame, Slot, Running}
use Rattle.generated_good.proofs.States.{Parts, Held, WorkerAt, Stands, Locking, Unlocking, WorkerSlot, Idle, Over, Works, MainAt, IsReady, HasOwner, Live}

-- a thread has the mutex after it just where it had it before
pub record Same (m new : MutexState) (j : ℕ) : Type 0 where
  pub onward : m ≡ Owned (suc j) → new ≡ Owned (suc j)
  pub back : new ≡ Owned (suc j) → m ≡ Owned (suc j)

pub same_mutex : (m : MutexState) (j : ℕ) → Same m m j
same_mutex m j = record { onward = λ e. e; back = λ e. e }

held_kept : (hold : Bool) (m new : MutexState) (j : ℕ) → Same m new j → Held hold m j → Held hold new j
held_kept true m new j s h = s.onward h
held_kept false m new j s h = λ e. h (s.back e)

module _ (threads : ℕ) where
  at_kept : (m new : MutexState) (j : ℕ) (f : Frame) → Same m new j → WorkerAt threads m j f → WorkerAt threads new j f
  at_kept m new j f s (Stands locals k ss n hold is left safe l held) = Stands locals k ss n hold is left safe l (held_kept hold m new j s held)
  at_kept m new j f s (Locking locals k ss n offset is left safe l held) = Locking locals k ss n offset is left safe l (λ e. held (s.back e))
  at_kept m new j f s (Unlocking locals k ss n offset is left safe l held) = Unlocking locals k ss n offset is left safe l (s.onward held)

  slot_kept : (lo hi : ℕ) (m new : MutexState) (j : ℕ) (o : Option Slot) → Same m new j → WorkerSlot threads lo hi m j o → WorkerSlot threads lo hi new j o
  slot_kept lo hi m new j o s (Idle away is) = Idle away is
  slot_kept lo hi m new j o s (Over from to is) = Over from to is
  slot_kept lo hi m new j o s (Works from to f is at) = Works from to f is (at_kept m new j f s at)

  -- each thread, where that of number j has another slot
  pub slots_changed : (Q : ℕ → Option Slot → Type 0) (workers : List Slot) (j : ℕ) (x : Slot) → length workers ≡ threads → j < threads → Q j (Some x) →
      ((i : ℕ) → i < threads → i ≢ j → Q i (slice_get workers i)) → (i : ℕ) → i < threads → Q i (slice_get (slice_set workers j x) i)
  slots_changed Q workers j x number less new others i l =
      ⊎_elim
      (λ (same : j ≡ i). subst (λ n. Q n (slice_get (slice_set workers j x) n)) same
      (subst (λ o. Q j o) (sym (set_same workers j x (omega (arith, number, less)))) new))
      (λ (apart : j ≢ i). subst (λ o. Q i o) (sym (set_elsewhere workers j i x apart)) (others i l (λ e. apart (sym e))))
      (cases_eq j i)

  -- an owner runs on where the thread of number j runs on, or isn't the owner
  pub owner_kept : (at : ℕ → ℕ) (workers : List Slot) (j : ℕ) (x : Slot) (n : ℕ) → length workers ≡ threads → j < threads →
      (n ≡ suc j → (frames : List Frame) × (x ≡ Running frames)) →
      HasOwner threads at workers n → HasOwner threads at (slice_set workers j x) n
  owner_kept at workers j x n number less runs o =
      ⊎_elim
      (λ (same : j ≡ o.number). (let r = runs (o.is ∙ ap suc (sym same)) in
      record {
        number = o.number;
        is = o.is;
        frames = r.0;
        runs = subst (λ i. slice_get (slice_set workers j x) i ≡ Some (Running r.0)) same (set_same workers j x (omega (arith, number, less)) ∙ ap Some r.1);
      }))
      (λ (apart : j ≢ o.number). record { number = o.number; is = o.is; frames = o.frames; runs = set_elsewhere workers j o.number x apart ∙ o.runs })
      (cases_eq j o.number)

  module _ (at : ℕ → ℕ) where
    -- a worker has another slot, after it has written, locked or unlocked
    pub worker_changed : (p : Parts) (live : Live threads at p) (j : ℕ) (x : Slot) (total : ℤ) (own : List ℤ) (new : MutexState) → j < threads →
        length own ≡ threads →
        IsReady threads at live.ready new → WorkerSlot threads live.lo live.hi new j (Some x) → ((i : ℕ) → i ≢ j → Same p.mutex new i) →
        ((n : ℕ) → new ≡ Owned n → HasOwner threads at (slice_set p.workers j x) n) →
        Live threads at (record p { total = total; own = own; workers = slice_set p.workers j x; mutex = new })
    worker_changed p live j x total own new less shape ready slot others owner = record {
      own_length = shape;
      workers_length = length-set p.workers j x ∙ live.workers_length;
      lo = live.lo;
      hi = live.hi;
      ready = live.ready;
      main = live.main;
      mutex = ready;
      needs = live.needs;
      slots = slots_changed (λ i o. WorkerSlot threads live.lo live.hi new i o) p.workers j x live.workers_length less slot
          (λ i l apart. slot_kept live.lo live.hi p.mutex new i (slice_get p.workers i) (others i apart) (live.slots i l));
      owner = owner;
    }

    -- main has another call, and may have initialised or destroyed the mutex, which no one has
    pub main_changed : (p : Parts) (live : Live threads at p) (f : Frame) (ready : Bool) (new : MutexState) (output : List ℕ) →
        MainAt threads at live.lo live.hi ready f →
        IsReady threads at ready new → (ready ≡ false → live.hi ≤ live.lo) → ((i : ℕ) → Same p.mutex new i) → ((n : ℕ) → new ≡ Owned n → p.mutex ≡ Owned n) →
        Live threads at (record p { frame = f; mutex = new; output = output })
    main_changed p live f ready new output main is_ready needs same owned = record {
      own_length = live.own_length;
      workers_length = live.workers_length;
      lo = live.lo;
      hi = live.hi;
      ready = ready;
      main = main;
      mutex = is_ready;
      needs = needs;
      slots = λ j l. slot_kept live.lo live.hi p.mutex new j (slice_get p.workers j) (same j) (live.slots j l);
      owner = λ n e. live.owner n (owned n e);
    }

    -- main goes on
    pub main_goes_on : (p : Parts) (live : Live threads at p) (f : Frame) (output : List ℕ) → MainAt threads at live.lo live.hi live.ready f → Live threads at
        (record p { frame = f; output = output })
    main_goes_on p live f output main =
        main_changed p live f live.ready p.mutex output main live.mutex live.needs (λ i. same_mutex p.mutex i) (λ n e. e)
