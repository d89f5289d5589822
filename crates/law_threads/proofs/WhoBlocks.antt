-- Who neither may be granted nor wakes is blocked; and the slot of thread 0 marks the end.
use Rattle.std.specs.Prelude.{Bool, true, false, if◌then◌else◌, Option, Some, None, slice_get}
use Rattle.std.proofs.Common.{◌≡◌, ◌≢◌, ℕ, ◌<◌, ◌≤◌, List, refl, sym, ap, ◌∙◌, subst, ⊎_elim, arith}
use Rattle.std.specs.List.{list_any}
use Rattle.std.proofs.lemmas.Option.{slice_get_within}
use Rattle.hls_ints.specs.Residues.{residue_of}
use Rattle.c_program.specs.Tree.{Program}
use Rattle.c_program.specs.Weight.{bound}
use Rattle.c_program.specs.Resolved.{IsResolved}
use Rattle.thread_semantics.specs.declared.cause.BlockedCause.TheVariants as waits
use Rattle.thread_semantics.specs.State.{Frame, Slot as ThreadSlot, Unused, Running, Finished, State}
use Rattle.thread_semantics.specs.Move.{move}
use Rattle.thread_semantics.specs.Step.{Blocks, moved, is_waiter, is_running, slot_step, step}
use Rattle.race_model.specs.Source.{Local, local_of, memory_of, outcome_of}
use Rattle.race_model.specs.Orderly.{is_finished, is_over}
use Rattle.race_model.proofs.Orderly.{orderly}
use Rattle.race_model.proofs.Agreement.{blocked_from}
use Rattle.interleaving.specs.Source.{Blocked}
use Rattle.bank_partition.specs.declared.banks.Spread.{Spread}
use Rattle.block_ir.specs.Asked.{act_value, Numbers}
use Rattle.planned_block.specs.Slot.{Slot}
use Rattle.planned_block.proofs.Bits.{same_is, other_is}
use Rattle.planned_block.specs.Hardware.{Begins, plan_of}
use Rattle.thread_promise.specs.Globals.{bank_of}
use Rattle.thread_promise.specs.Promise.{went_on}
use Rattle.law_threads.specs.Cores.{Core, argument_at, waits_bit, may_grant}
use Rattle.thread_promise.specs.Moves.{set_out}
use Rattle.law_threads.specs.Routines.{Codes, rest_of}
use Rattle.law_threads.specs.Requests.{AreNumbers}
use Rattle.law_threads.proofs.Requests.{all_are_steps}
use Rattle.law_threads.specs.Surroundings.{Waits, Absent, Over, Idle, Handed, Meeting, Sets_out, Goes_on, around, hardware_code}
use Rattle.law_threads.specs.Laws.{AreCoded, marks, MarksThreads, AtAct, Rests_on, WhatBlocks}
use Rattle.law_threads.proofs.Counts.{past_states}
use Rattle.law_threads.proofs.Awake.{starts_below, awake, flies_awake}

not_running_blocks : (P : Program) (s : State) (i : ℕ) (o : Option ThreadSlot) → is_running o ≡ false → slot_step P s i o ≡ Blocks waits.NotRunning
not_running_blocks P s i None e = refl
not_running_blocks P s i (Some Unused) e = refl
not_running_blocks P s i (Some (Running frames)) e = absurd cc
not_running_blocks P s i (Some Finished) e = refl

over_stands : (o : Option ThreadSlot) → is_finished o ≡ true → is_running o ≡ false
over_stands None e = refl
over_stands (Some Unused) e = refl
over_stands (Some (Running frames)) e = absurd cc
over_stands (Some Finished) e = refl

waiter_blocks : (P : Program) (s : State) (i : ℕ) (frames : List Frame) → slice_get s.slots i ≡ Some (Running frames) → list_any (is_waiter i) s.barriers ≡ true →
    step P s i ≡ Blocks waits.Barrier
waiter_blocks P s i frames at bound =
    ap (λ (o : Option ThreadSlot). slot_step P s i o) at
    ∙ ap (λ (b : Bool). if b then Blocks waits.Barrier else moved P s i (move P s.globals frames)) bound

pub what_blocks : (P : Program) (codes : Codes) (N : Numbers) (T : ℕ) (spreads : List Spread) (chain : ℕ → ℕ → ℕ) → WhatBlocks P codes N T spreads chain
what_blocks P codes N T spreads chain R numbers coded s i c q at defined stands (AtAct begun a next k ask listed asks core kept) =
    let serves = all_are_steps P codes N T R numbers s i q.routine q.stage next q.variables q.arrays a ask c
    (record { reached = at; defined = defined; cores = stands; starts = begun.starts; listed = listed; asks = asks }) in
    let same : k ≡ serves.core = let e = serves.is in cc in
    serves.waits (subst (λ z. may_grant (c z) i ask ≡ false) same kept)
what_blocks P codes N T spreads chain R numbers coded s i c q at defined stands (Rests_on waits still) = go waits
  where
    order_beyond : T ≤ i → outcome_of (step P s i) ≡ Blocked
    order_beyond le = blocked_from (step P s i) ((orderly P R s at).beyond i (let e = numbers.threads in omega arith))

    there : (frames : List Frame) → slice_get s.slots i ≡ Some (Running frames) → i < T
    there frames e = let lt = slice_get_within s.slots i (Running frames) e in let n = (orderly P R s at).threads in let t = numbers.threads in omega arith

    by_bit : (frames : List Frame) → slice_get s.slots i ≡ Some (Running frames) → (b : Bool) → (local_of s i).waits ≡ b → (b ≡ false → ⊥) → outcome_of (step P s i) ≡ Blocked
    by_bit frames runs true e not = ap outcome_of (waiter_blocks P s i frames runs e)
    by_bit frames runs false e not = absurd (not refl)

    go : Waits P codes N T c i (local_of s i) q → outcome_of (step P s i) ≡ Blocked
    go (Absent beyond here) = order_beyond beyond
    go (Over main here over) = ap outcome_of (not_running_blocks P s i (slice_get s.slots i) (over_stands (slice_get s.slots i) over))
    go (Idle thread own here none status) = ap outcome_of (not_running_blocks P s i (slice_get s.slots i) none)
    go (Handed thread own here r v runs is status argument) =
        absurd (still (set_out (codes q.routine).code.argument (argument_at N c i) q)
        (Sets_out thread (there _ (ap (λ (x : Local). x.slot) is)) here status refl))
    go (Meeting l next b here listed meets) =
        by_bit meets.frames meets.runs (waits_bit N c (residue_of 64 (act_value q.variables b)) i) meets.bit (λ e. still (went_on next q) (Goes_on l next b here listed e refl))

-- ---- the mark

module _ (P : Program) (codes : Codes) (N : Numbers) (T : ℕ) (spreads : List Spread) (chain : ℕ → ℕ → ℕ) (R : IsResolved P) (numbers : AreNumbers P N T)
    (coded : AreCoded P codes chain) where
  abbrev marked : Slot → Bool
  marked q = marks P codes N T spreads chain q

  running_marks : (x : Local) (q : Slot) (frames : List Frame) → x.slot ≡ Some (Running frames) → q.stage ≢ rest_of codes q.routine → marked q ≡ is_over x
  running_marks x q frames runs ne = other_is q.stage (rest_of codes q.routine) ne ∙ sym (ap is_finished runs)

  waits_marks : (c : ℕ → Core) (x : Local) (q : Slot) → Waits P codes N T c 0 x q → marked q ≡ is_over x
  waits_marks c x q (Absent beyond here) = absurd (let e = numbers.threads in omega arith)
  waits_marks c x q (Over main here over) = same_is q.stage (rest_of codes q.routine) here ∙ sym over
  waits_marks c x q (Idle thread own here none status) = absurd (omega arith)
  waits_marks c x q (Handed thread own here r v runs is status argument) = absurd (omega arith)
  waits_marks c x q (Meeting l next b here listed meets) = running_marks x q meets.frames meets.runs (λ e. absurd (omega arith))

  inside_below : (q : Slot) → q.state < (plan_of (hardware_code codes chain) q).states → q.stage ≢ rest_of codes q.routine
  inside_below q lt e = let z = past_states P codes chain coded.chained q (omega arith) in omega arith

  begins_marks : (x : Local) (q : Slot) → Begins (bank_of spreads) (hardware_code codes chain) (around P codes N T) (bound P) x q → marked q ≡ is_over x
  begins_marks x q begun =
      let up = awake P codes chain coded R x q.routine q.stage q.variables q.arrays begun.starts in
      let lt = starts_below P codes chain coded R x q.routine q.stage q.variables q.arrays begun.starts in
      running_marks x q up.0 (ap (λ (y : Local). y.slot) up.1) (λ e. absurd (omega arith))

pub marks_threads : (P : Program) (codes : Codes) (N : Numbers) (T : ℕ) (spreads : List Spread) (chain : ℕ → ℕ → ℕ) → MarksThreads P codes N T spreads chain
marks_threads P codes N T spreads chain R numbers coded = record {
  ended = λ s at. (orderly P R s at).over;
  rests = λ c x q rests.
      ⊎_elim (λ begun. begins_marks P codes N T spreads chain R numbers coded x q begun) (λ waits. waits_marks P codes N T spreads chain R numbers coded c x q waits) rests;
  flies = λ s hs made q at run f.
      let up = flies_awake P codes chain coded R N T spreads (local_of s 0) (memory_of s.globals) hs made q run f in
      running_marks P codes N T spreads chain R numbers coded (local_of s 0) q up.0 (ap (λ (y : Local). y.slot) up.1)
      (inside_below P codes N T spreads chain R numbers coded q f.flight.inside);
}
