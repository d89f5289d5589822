-- An act of a barrier: what it leaves of the cores and of other threads.
use Rattle.std.specs.Prelude.{Bool, true, false, nat_lt, Some, slice_get, slice_set}
use Rattle.std.proofs.Common.{◌≡◌, ◌≢◌, ℕ, ◌<◌, List, refl, sym, ap, ◌∙◌, subst, ⊎_elim, arith}
use Rattle.std.proofs.lemmas.Option.{slice_get_within}
use Rattle.std.proofs.lemmas.List.{get_or_past, length-set}
use Rattle.std.proofs.lemmas.Map.Keys.{any_passes_from_place}
use Rattle.std.proofs.lemmas.Bool.{cases_eq}
use Rattle.lists.proofs.Places.{get_there, set_there, set_elsewhere}
use Rattle.hls_ints.specs.Residues.{bit_of}
use Rattle.c_program.specs.Tree.{Program}
use Rattle.c_program.specs.Resolved.{IsResolved}
use Rattle.thread_semantics.specs.State.{Frame, Running, State, Barrier}
use Rattle.thread_semantics.specs.Step.{is_waiter}
use Rattle.interleaving.specs.Interleaving.{Reachable}
use Rattle.planned_block.proofs.Bits.{less_or_not}
use Rattle.race_model.specs.Source.{Local, local_of, running, c_source}
use Rattle.race_model.specs.Orderly.{waits_in, waits_at}
use Rattle.race_model.proofs.Lists.{get-set_cases}
use Rattle.race_model.proofs.Orderly.{orderly}
use Rattle.code_following.specs.Following.{print_formats}
use Rattle.block_ir.specs.Asked.{Asked, Numbers, mutex_core, barrier_core, thread_ids_core, printer_core}
use Rattle.block_ir.specs.declared.service.Service.TheVariants as service
use Rattle.core_states.specs.Machines.{CoreBarrier}
use Rattle.law_threads.specs.Cores.{Core, OfBarrier, granted, status_in, argument_in, waits_in as core_waits}
use Rattle.law_threads.specs.Stands.{CoreBarrierStands, BarrierStands, StandsFor}
use Rattle.block_refine.specs.Routines.{Codes}
use Rattle.law_threads.specs.Requests.{AreNumbers, Other, Same, Released, HearsSame, cores_after}
use Rattle.law_threads.proofs.Common.{status_kept, other_core, same_core}
use Rattle.law_threads.proofs.Anywhere.{any_set_same, none_any, live_frames}

abbrev pub asks_barrier : ℕ → ℕ → List ℕ → Asked
asks_barrier n operation ws = record { service = service.Barrier; core = n; number = operation; values = ws }

-- barrier n comes from one state to another, and its core from one gate to another
module _ (P : Program) (codes : Codes) (N : Numbers) (T : ℕ) (R : IsResolved P) (numbers : AreNumbers P N T) (s : State) (i : ℕ) (c : ℕ → Core) (reached : Reachable (c_source P) s)
    (stands : StandsFor N T c s) (calls frames : List Frame) (runs : local_of s i ≡ running calls) (n operation : ℕ) (ws : List ℕ) (old new : Barrier)
    (here : slice_get s.barriers n ≡ Some old) (gate : CoreBarrier)
    (becomes : granted T (print_formats P) (OfBarrier (stands.barriers n old here).gate) i (asks_barrier n operation ws) ≡ OfBarrier gate) (gates : CoreBarrierStands T gate new) where
  abbrev k : ℕ
  k = barrier_core N n

  abbrev after : ℕ → Core
  after = cores_after P codes N T k i (asks_barrier n operation ws) c

  abbrev t : State
  t = record s { slots = slice_set s.slots i (Running frames); barriers = slice_set s.barriers n new }

  abbrev before : BarrierStands T (c k) old
  before = stands.barriers n old here

  below : n < N.barriers
  below = let lt = slice_get_within s.barriers n old here in let e = stands.barrier_count in omega arith

  slot : slice_get s.slots i ≡ Some (Running calls)
  slot = ap (λ (x : Local). x.slot) runs

  others_stay : (j : ℕ) → j ≢ k → after j ≡ c j
  others_stay j ne = other_core T (print_formats P) k i (asks_barrier n operation ws) c j ne

  here_after : after k ≡ OfBarrier gate
  here_after = same_core T (print_formats P) k i (asks_barrier n operation ws) c (OfBarrier before.gate) before.is ∙ becomes

  pub barrier_stands : StandsFor N T after t
  barrier_stands = record {
    mutexes = λ m x at. others_stay (mutex_core N m) (λ e. absurd (let lt = slice_get_within s.mutexes m x at in let z = stands.mutex_count in omega arith))
        ∙ stands.mutexes m x at;
    barriers = λ m b at. ⊎_elim
        (λ same. record { gate = gate; is = subst (λ z. after (barrier_core N z) ≡ OfBarrier gate) same.0 here_after; stands = subst (CoreBarrierStands T gate) same.1 gates })
        (λ other. let z = stands.barriers m b other.1 in
        record { gate = z.gate; is = others_stay (barrier_core N m) (λ e. other.0 (omega arith)) ∙ z.is; stands = z.stands })
        (get-set_cases s.barriers n m new b at);
    thread_ids = λ has.
        let z = stands.thread_ids has in
        record {
          thread_ids = z.thread_ids;
          is = others_stay (thread_ids_core N) (λ e. absurd (let lt = below in omega arith)) ∙ z.is;
          statuses = z.statuses;
          arguments = z.arguments;
          main = z.main;
          each = λ j x lt at. let y = status_kept s.slots i j calls frames x slot at in z.each j y.0 lt y.1 ∙ y.2;
        };
    output = others_stay (printer_core N) (λ e. absurd (let lt = below in omega arith)) ∙ stands.output;
    mutex_count = stands.mutex_count;
    barrier_count = length-set s.barriers n new ∙ stands.barrier_count;
  }

  pub own_slot : slice_get t.slots i ≡ Some (Running frames)
  own_slot = set_there s.slots i (Running calls) (Running frames) slot

  -- what thread j hears where the gate says of it what it said
  hears : (j : ℕ) → core_waits (OfBarrier gate) j ≡ core_waits (OfBarrier before.gate) j → HearsSame N c after j
  hears j same = record {
    status = ap (λ (z : Core). status_in z j) (others_stay (thread_ids_core N) (λ e. absurd (let lt = below in omega arith)));
    argument = ap (λ (z : Core). argument_in z j) (others_stay (thread_ids_core N) (λ e. absurd (let lt = below in omega arith)));
    bits = λ m lt.
        ⊎_elim
        (λ e.
        subst (λ z. core_waits (after (barrier_core N z)) j ≡ core_waits (c (barrier_core N z)) j) (sym e)
        (ap (λ (z : Core). core_waits z j) here_after ∙ same ∙ sym (ap (λ (z : Core). core_waits z j) before.is)))
        (λ ne. ap (λ (z : Core). core_waits z j) (others_stay (barrier_core N m) (λ e. ne (omega arith))))
        (cases_eq m n);
  }

  -- a thread that waits there neither before nor after, or both
  pub same_other : (j : ℕ) → j ≢ i → is_waiter j new ≡ is_waiter j old → core_waits (OfBarrier gate) j ≡ core_waits (OfBarrier before.gate) j → Other P N c after s t j
  same_other j ne waits bit =
      Same
      (λ d. record {
        slot = set_elsewhere s.slots i j (Running frames) (λ e. ne (sym e)) d;
        waits = any_set_same (is_waiter j) s.barriers n new old here waits d;
      })
      (hears j bit)

  -- a waiter where the barrier opens
  pub released : (j : ℕ) → j ≢ i → is_waiter j old ≡ true → is_waiter j new ≡ false → core_waits (OfBarrier gate) j ≡ false → Other P N c after s t j
  released j ne was now bit =
      Released live.0
      (λ d. record { slot = live.1 d; waits = any_passes_from_place (is_waiter j) s.barriers n old here was d })
      (λ d. record {
        slot = (set_elsewhere s.slots i j (Running frames) (λ e. ne (sym e)) ∙ live.1) d;
        waits = none_any (is_waiter j) (slice_set s.barriers n new) none d;
      })
      bits
    where
      waits_here : waits_at s n j ≡ true
      waits_here = ap (waits_in j) here ∙ was

      live : (frames : List Frame) × (slice_get s.slots j ≡ Some (Running frames))
      live = live_frames (slice_get s.slots j) ((orderly P R s reached).waiter n j waits_here)

      lives_below : j < T
      lives_below = let lt = slice_get_within s.slots j (Running live.0) live.1 in let a = (orderly P R s reached).threads in let b = numbers.threads in omega arith

      only : (m : ℕ) (b : Barrier) → slice_get s.barriers m ≡ Some b → n ≢ m → (w : Bool) → is_waiter j b ≡ w → w ≡ false
      only m b at other false e = refl
      only m b at other true e = absurd (other ((orderly P R s reached).once n m j waits_here (ap (waits_in j) at ∙ e)))

      none : (m : ℕ) (b : Barrier) → slice_get (slice_set s.barriers n new) m ≡ Some b → is_waiter j b ≡ false
      none m b at =
          ⊎_elim
          (λ same. subst (λ z. is_waiter j z ≡ false) same.1 now)
          (λ other. only m b other.1 other.0 (is_waiter j b) refl)
          (get-set_cases s.barriers n m new b at)

      elsewhere : (m : ℕ) → m < N.barriers → n ≢ m → core_waits (c (barrier_core N m)) j ≡ false
      elsewhere m lt other =
          let b = get_there s.barriers m (let e = stands.barrier_count in omega arith) in
          let z = stands.barriers m b.0 b.1 in
          ap (λ (x : Core). core_waits x j) z.is
          ∙ ap (λ (x : ℕ). nat_lt 0 x) (z.stands.bits j lives_below ∙ ap bit_of (only m b.0 b.1 other (is_waiter j b.0) refl))

      bits : (m : ℕ) → m < N.barriers → core_waits (after (barrier_core N m)) j ≡ false
      bits m lt =
          ⊎_elim
          (λ e. subst (λ z. core_waits (after (barrier_core N z)) j ≡ false) e (ap (λ (z : Core). core_waits z j) here_after ∙ bit))
          (λ other. ap (λ (z : Core). core_waits z j) (others_stay (barrier_core N m) (λ e. other (omega arith))) ∙ elsewhere m lt other)
          (cases_eq n m)

  -- who is no waiter has no bit
  pub no_bit : (j : ℕ) → is_waiter j old ≡ false → core_waits (OfBarrier before.gate) j ≡ false
  no_bit j none =
      ap (λ (x : ℕ). nat_lt 0 x)
      (⊎_elim
      (λ lt. before.stands.bits j lt ∙ ap bit_of none)
      (λ le. get_or_past before.gate.waiting j 0 (let e = before.stands.sized in omega arith))
      (less_or_not j T))
