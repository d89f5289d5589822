-- Threads fit their blocks.
use Rattle.std.specs.Prelude.{Bool, true, false, nat_eq, if◌then◌else◌, Option, Some, slice_get, ℤ, ◌%◌, ◌^◌}
use Rattle.std.proofs.Common.{◌≡◌, ℕ, zero, suc, ◌+◌, ◌*◌, ◌<◌, ◌≤◌, List, [], ◌∷◌, length, refl, sym, ap, ◌∙◌, subst, inl, inr, ⊎_elim, arith}
use Rattle.hls_ints.specs.Residues.{residue_of, signed_value_of}
use Rattle.hls_ints.specs.Words.{signed_word}
use Rattle.hls_ints.specs.Types.{long_int, wrapped}
use Rattle.hls_ints.proofs.Conversions.{residue_of-below}
use Rattle.c_program.specs.Tree.{Program}
use Rattle.c_program.specs.Weight.{bound}
use Rattle.c_program.specs.Resolved.{IsResolved}
use Rattle.thread_semantics.specs.State.{State, started}
use Rattle.thread_semantics.specs.Step.{Steps, step}
use Rattle.race_model.specs.Source.{Local, local_of, running, outcome_of, c_source}
use Rattle.race_model.specs.Orderly.{is_over}
use Rattle.race_model.proofs.Shared.{moves_keep_shared}
use Rattle.interleaving.specs.Source.{Move, accesses_of, end_of, view_at}
use Rattle.interleaving.specs.Interleaving.{Reachable}
use Rattle.interleaving.specs.Threaded.{IsSynchronizing}
use Rattle.interleaving.specs.Hardware.{World, Hardware, ActLands}
use Rattle.block_ir.specs.declared.code.Act.{Act as CodeAct}
use Rattle.block_ir.specs.declared.code.Act.TheVariants as act
use Rattle.block_ir.specs.declared.code.ActOperand.{ActOperand}
use Rattle.block_ir.specs.declared.code.Stage.TheVariants as stage
use Rattle.bank_partition.specs.declared.banks.Spread.{Spread}
use Rattle.planned_block.specs.Slot.{Slot}
use Rattle.planned_block.proofs.Bits.{same_is}
use Rattle.planned_block.specs.Hardware.{Code, changes_left, Begins, FitsBlocks, planned_hardware}
use Rattle.block_ir.specs.Asked.{act_value, Asked, asked, Numbers, core_of}
use Rattle.thread_promise.specs.Globals.{bank_of}
use Rattle.thread_promise.specs.Promise.{went_on}
use Rattle.law_threads.specs.Cores.{Core, may_grant, status_at, argument_at, waits_bit}
use Rattle.law_threads.specs.Stands.{StandsFor}
use Rattle.thread_promise.specs.Moves.{meeting, stage_after, is_variable, set_out}
use Rattle.code_following.specs.Following.{HasArguments}
use Rattle.law_threads.specs.Routines.{Codes, stage_at, rest_of, Starts}
use Rattle.law_threads.specs.Acts.{IsDefined}
use Rattle.law_threads.specs.RoutineActs.{ReturnsThere}
use Rattle.law_threads.specs.Requests.{AreNumbers, OwnAfter, Goes, cores_after}
use Rattle.law_threads.proofs.RoutineLaws.{code_follows}
use Rattle.law_threads.proofs.RoutineActs.{returns_are_steps}
use Rattle.law_threads.proofs.Requests.{all_are_steps}
use Rattle.law_threads.specs.Surroundings.{routine_in, routine_of, Waits, Absent, Over, Idle, Handed, Meeting, Wakes, Sets_out, Goes_on, Does, Requests, Returns, Acts}
use Rattle.law_threads.specs.Surroundings.{around, hardware_code}
use Rattle.law_threads.specs.Laws.{AreCoded, FitsThreads}
use Rattle.law_threads.proofs.Runners.{runner_found}
use Rattle.law_threads.proofs.Counts.{never_past, no_states, past_states, fresh_below, stage_below, rest_above}
use Rattle.law_threads.proofs.Awake.{starts_below, flies_awake}
use Rattle.law_threads.proofs.CoresStand.{stands_moved, stands_ended}
use Rattle.law_threads.proofs.OthersRest.{awake_same, rests_stay}

-- the number that a word of 64 bits spells is that of the argument
word_argument : (v : ℤ) → signed_word 64 (residue_of 64 v) ≡ wrapped long_int v
unfolding wrapped
word_argument v =
    let lt = residue_of-below 64 v in
    let e : residue_of 64 v % 2 ^ 64 ≡ residue_of 64 v = omega arith in
    ap (signed_value_of 64) e

-- who asks the thread ids by a return is no main
no_main : (i : ℕ) (variables : ℕ → ℤ) (ask : Asked) → asked (nat_eq i 0) act.Return variables ≡ Some ask → 0 < i
no_main zero variables ask e = absurd cc
no_main (suc i) variables ask e = omega arith

module _ (P : Program) (codes : Codes) (N : Numbers) (T : ℕ) (spreads : List Spread) (chain : ℕ → ℕ → ℕ) (R : IsResolved P) (numbers : AreNumbers P N T)
    (coded : AreCoded P codes chain) where
  abbrev code : Code
  code = hardware_code codes chain

  abbrev H : Hardware ℤ Local State Slot (ℕ → Core)
  H = planned_hardware (bank_of spreads) code (around P codes N T) (bound P)

  abbrev BeginsAt : Local → Slot → Type 0
  BeginsAt = Begins (bank_of spreads) code (around P codes N T) (bound P)

  -- ---- wakes

  abbrev WakesTo : (ℕ → Core) → ℕ → Local → Slot → Slot → Type 0
  WakesTo c i x q r = BeginsAt x r × (changes_left code r < changes_left code q)

  -- from rest or a meeting to the start of a stage
  wakes_to : (c : ℕ → Core) (i : ℕ) (x : Local) (q r : Slot) → rest_of codes q.routine ≤ q.stage → r.state ≡ 0 → ((k : ℕ) → r.granted k ≡ false) →
      Starts P codes x r.routine r.stage r.variables r.arrays → WakesTo c i x q r
  wakes_to c i x q r le state granted starts =
      let lt = starts_below P codes chain coded R x r.routine r.stage r.variables r.arrays starts in
      let low = stage_below P codes chain coded.chained r state lt in
      let high = rest_above P codes chain coded.chained q le in
      (record { starts = starts; state = state; granted = granted }, omega arith)

  -- a thread sets out
  sets_out : (c : ℕ → Core) (i : ℕ) (x : Local) (q : Slot) → 0 < i → i < T → q.stage ≡ rest_of codes q.routine → status_at N c i ≡ 1 → Waits P codes N T c i x q →
      WakesTo c i x q (set_out (codes q.routine).code.argument (argument_at N c i) q)
  sets_out c i x q thread below at status (Absent beyond here) = absurd (omega arith)
  sets_out c i x q thread below at status (Over main here over) = absurd (omega arith)
  sets_out c i x q thread below at status (Idle there own here none not_one) = absurd (not_one status)
  sets_out c i x q thread below at status (Meeting l next b here listed meets) = absurd (omega arith)
  sets_out c i x q thread below at status (Handed there own here r v runs is one argument) =
      wakes_to c i x q out (omega arith) refl (λ k. refl) starts
    where
      out : Slot
      out = set_out (codes q.routine).code.argument (argument_at N c i) q

      routine : q.routine ≡ r
      routine = own ∙ ap (routine_in P) runs

      word : signed_word 64 (argument_at N c i) ≡ wrapped long_int v
      word = ap (signed_word 64) argument ∙ word_argument v

      has : (o : Option ℕ) (y : ℕ) → o ≡ Some y → HasArguments o (λ z. if is_variable o z then signed_word 64 (argument_at N c i) else q.variables z) (v ∷ [])
      has o y e =
          subst (λ k. HasArguments k (λ z. if is_variable k z then signed_word 64 (argument_at N c i) else q.variables z) (v ∷ [])) (sym e)
          (ap (λ (b : Bool). if b then signed_word 64 (argument_at N c i) else q.variables y) (same_is y y refl) ∙ word)

      variables : ℕ → ℤ
      variables = λ z. if is_variable (codes q.routine).code.argument z then signed_word 64 (argument_at N c i) else q.variables z

      at_routine : Starts P codes (running (started (slice_get P.functions r) r (v ∷ []))) r 0
          (λ z. if is_variable (codes r).code.argument z then signed_word 64 (argument_at N c i) else q.variables z) q.arrays
      at_routine =
          let y = coded.argument i r thread runs in
          let found = runner_found P R i r runs in
          code_follows P codes r found.0 R found.1 (coded.lowered i r runs) coded.planned _ q.arrays (v ∷ []) (has (codes r).code.argument y.0 y.1)

      starts : Starts P codes x q.routine 0 (λ z. if is_variable (codes q.routine).code.argument z then signed_word 64 (argument_at N c i) else q.variables z) q.arrays
      starts =
          subst (λ y. Starts P codes y q.routine 0 (λ z. if is_variable (codes q.routine).code.argument z then signed_word 64 (argument_at N c i) else q.variables z) q.arrays)
          (sym is)
          (subst (λ f. Starts P codes (running (started (slice_get P.functions r) r (v ∷ []))) f 0
          (λ z. if is_variable (codes f).code.argument z then signed_word 64 (argument_at N c i) else q.variables z) q.arrays) (sym routine) at_routine)

  -- a thread that met goes on
  goes_on : (c : ℕ → Core) (i : ℕ) (x : Local) (q : Slot) (l next : ℕ) (b : ActOperand) → q.stage ≡ meeting (rest_of codes q.routine) l →
      stage_at codes q.routine l ≡ Some (stage.Act (act.BarrierWait b) next) → waits_bit N c (residue_of 64 (act_value q.variables b)) i ≡ false → Waits P codes N T c i x q →
      WakesTo c i x q (went_on next q)
  goes_on c i x q l next b at listed bit (Absent beyond here) = absurd (omega arith)
  goes_on c i x q l next b at listed bit (Over main here over) = absurd (omega arith)
  goes_on c i x q l next b at listed bit (Idle there own here none not_one) = absurd (omega arith)
  goes_on c i x q l next b at listed bit (Handed there own here r v runs is one argument) = absurd (omega arith)
  goes_on c i x q l next b at listed bit (Meeting k after o here there meets) =
      wakes_to c i x q (went_on next q) (omega arith) refl (λ j. refl)
      (subst (λ y. Starts P codes y q.routine next q.variables q.arrays) (sym free)
      (subst (λ m. Starts P codes (running meets.frames) q.routine m q.variables q.arrays) later meets.starts))
    where
      same : l ≡ k
      same = omega arith

      stages : Some (stage.Act (act.BarrierWait b) next) ≡ Some (stage.Act (act.BarrierWait o) after)
      stages = sym listed ∙ ap (stage_at codes q.routine) same ∙ there

      later : after ≡ next
      later = cc stages

      operand : o ≡ b
      operand = cc stages

      waits : x.waits ≡ false
      waits = meets.bit ∙ ap (λ (z : ActOperand). waits_bit N c (residue_of 64 (act_value q.variables z)) i) operand ∙ bit

      free : x ≡ running meets.frames
      free = λ t. record { slot = meets.runs t; waits = waits t }

  wakes_from : (c : ℕ → Core) (i : ℕ) (x : Local) (q r : Slot) → Waits P codes N T c i x q → Wakes P codes N T c i q r → WakesTo c i x q r
  wakes_from c i x q r waits (Sets_out thread below at status slot) = subst (λ z. WakesTo c i x q z) (sym slot) (sets_out c i x q thread below at status waits)
  wakes_from c i x q r waits (Goes_on l next b at listed bit slot) = subst (λ z. WakesTo c i x q z) (sym slot) (goes_on c i x q l next b at listed bit waits)

  wakes_past : (c : ℕ → Core) (i : ℕ) (q r : Slot) → Wakes P codes N T c i q r → rest_of codes q.routine ≤ q.stage
  wakes_past c i q r (Sets_out thread below at status slot) = omega arith
  wakes_past c i q r (Goes_on l next b at listed bit slot) = omega arith

  waits_past : (c : ℕ → Core) (i : ℕ) (x : Local) (q : Slot) → Waits P codes N T c i x q → rest_of codes q.routine ≤ q.stage
  waits_past c i x q (Absent beyond at) = omega arith
  waits_past c i x q (Over main at over) = omega arith
  waits_past c i x q (Idle there own at none not_one) = omega arith
  waits_past c i x q (Handed there own at r v runs is one argument) = omega arith
  waits_past c i x q (Meeting l next b at listed meets) = omega arith

  wakes : (c : ℕ → Core) (s : State) (i : ℕ) (q r : Slot) → Reachable (c_source P) s → H.Rests c i (local_of s i) q → Wakes P codes N T c i q r → WakesTo c i (local_of s i) q r
  wakes c s i q r at rests wake =
      ⊎_elim
      (λ begun.
      let lt = starts_below P codes chain coded R (local_of s i) q.routine q.stage q.variables q.arrays begun.starts in
      let le = wakes_past c i q r wake in
      absurd (omega arith))
      (λ waits. wakes_from c i (local_of s i) q r waits wake)
      rests

  -- ---- acts

  module _ (s : State) (i : ℕ) (w v : World ℤ Slot (ℕ → Core)) (reached : Reachable (c_source P) s) (defined : IsDefined P s i) (stands : StandsFor N T w.cores s)
      (there : Acts P codes N T w i v) (begun : BeginsAt (local_of s i) (w.slots i)) where
    abbrev q : Slot
    q = w.slots i

    -- where the thread itself rests then
    own_rests : (a : CodeAct) (next : ℕ) (ask : Asked) (d : ℕ → Core) (x : Local) → q.routine ≡ routine_of P i → asked (nat_eq i 0) a q.variables ≡ Some ask →
        stage_at codes q.routine q.stage ≡ Some (stage.Act a next) → OwnAfter P codes N d i x q.routine next q.variables q.arrays a →
        H.Rests d i x (went_on (stage_after (rest_of codes q.routine) q.stage a next) q)
    own_rests (act.BarrierWait b) next ask d x own asks listed after = inr (Meeting q.stage next b refl listed after)
    own_rests act.Return next ask d x own asks listed after = inr (Idle (no_main i q.variables ask asks) own refl after.0 after.1)
    own_rests (act.Print site values) next ask d x own asks listed after = inl (record { starts = after; state = refl; granted = λ k. refl })
    own_rests (act.Create thread argument) next ask d x own asks listed after = inl (record { starts = after; state = refl; granted = λ k. refl })
    own_rests (act.Join thread) next ask d x own asks listed after = inl (record { starts = after; state = refl; granted = λ k. refl })
    own_rests (act.MutexInit mutex) next ask d x own asks listed after = inl (record { starts = after; state = refl; granted = λ k. refl })
    own_rests (act.MutexDestroy mutex) next ask d x own asks listed after = inl (record { starts = after; state = refl; granted = λ k. refl })
    own_rests (act.MutexLock mutex) next ask d x own asks listed after = inl (record { starts = after; state = refl; granted = λ k. refl })
    own_rests (act.MutexUnlock mutex) next ask d x own asks listed after = inl (record { starts = after; state = refl; granted = λ k. refl })
    own_rests (act.BarrierInit barrier count) next ask d x own asks listed after = inl (record { starts = after; state = refl; granted = λ k. refl })
    own_rests (act.BarrierDestroy barrier) next ask d x own asks listed after = inl (record { starts = after; state = refl; granted = λ k. refl })

    spends : (l : ℕ) → v.slots i ≡ went_on l q → changes_left code (v.slots i) < changes_left code q + bound P * 1
    spends l slot =
        let lt = fresh_below P codes chain coded.chained (went_on l q) refl in
        let e : changes_left code (v.slots i) ≡ changes_left code (went_on l q) = ap (changes_left code) slot in
        omega arith

    -- a request that is granted
    request_lands : (a : CodeAct) (next k : ℕ) (ask : Asked) → q.routine ≡ routine_of P i → stage_at codes q.routine q.stage ≡ Some (stage.Act a next) →
        asked (nat_eq i 0) a q.variables ≡ Some ask → core_of N ask ≡ Some k → may_grant (w.cores k) i ask ≡ true →
        v.slots i ≡ went_on (stage_after (rest_of codes q.routine) q.stage a next) q → ((j : ℕ) → v.cores j ≡ cores_after P codes N T k i ask w.cores j) →
        (t : State) × ActLands (c_source P) H s t i w v
    request_lands a next k ask own listed asks core eligible slot cores =
        let serves = all_are_steps P codes N T R numbers s i q.routine q.stage next q.variables q.arrays a ask w.cores
        (record { reached = reached; defined = defined; cores = stands; starts = begun.starts; listed = listed; asks = asks }) in
        let same : k ≡ serves.core = let e = serves.is in cc in
        lands (serves.core) (serves.goes (subst (λ z. may_grant (w.cores z) i ask ≡ true) same eligible))
        (λ t. λ j. (cores j ∙ ap (λ z. cores_after P codes N T z i ask w.cores j) same) t)
      where
        lands : (z : ℕ) → Goes P codes N T s i q.routine next q.variables q.arrays a ask z w.cores → v.cores ≡ cores_after P codes N T z i ask w.cores →
            (t : State) × ActLands (c_source P) H s t i w v
        lands z goes are = (
          goes.state,
          record {
            view = goes.view;
            steps = goes.steps;
            stands = subst (λ d. StandsFor N T d goes.state) (sym are) goes.stands;
            rests =
                subst (λ d. H.Rests d i (local_of goes.state i) (v.slots i)) (sym are)
                (subst (λ r. H.Rests (cores_after P codes N T z i ask w.cores) i (local_of goes.state i) r) (sym slot)
                (own_rests a next ask (cores_after P codes N T z i ask w.cores) (local_of goes.state i) own asks listed goes.own));
            spends = spends _ slot;
            slots = there.others;
            resting = λ j ne r.
                subst (λ d. H.Rests d j (local_of goes.state j) (w.slots j)) (sym are)
                (rests_stay P codes N T w.cores (cores_after P codes N T z i ask w.cores) s goes.state j (w.slots j) spreads chain coded R (goes.others j ne) r);
            flying = λ j hs made ne run f.
                let up = flies_awake P codes chain coded R N T spreads (local_of s j) _ hs made (w.slots j) run f in
                awake_same P codes N T w.cores (cores_after P codes N T z i ask w.cores) s goes.state j up.0 up.1 (goes.others j ne);
            memory = there.memory;
          },
        )

    -- the return of main
    return_lands : i ≡ 0 → (next : ℕ) → stage_at codes q.routine q.stage ≡ Some (stage.Act act.Return next) → v.slots i ≡ went_on (rest_of codes q.routine) q →
        ((j : ℕ) → v.cores j ≡ w.cores j) → (t : State) × ActLands (c_source P) H s t i w v
    return_lands main next listed slot cores = (
      r.state,
      record {
        view = subst (λ k. IsSynchronizing (view_at (c_source P) s k)) (sym main) (subst IsSynchronizing (sym r.view) tt);
        steps = subst (λ k. outcome_of (step P s k) ≡ outcome_of (Steps r.state)) (sym main) (ap outcome_of r.steps);
        stands = subst (λ d. StandsFor N T d r.state) (sym are) (stands_ended N T w.cores s r.state stands r.keeps r.output);
        rests =
            subst (λ z. H.Rests v.cores i (local_of r.state i) z) (sym slot)
            (inr (Over main refl (subst (λ k. is_over (local_of r.state k) ≡ true) (sym main) r.over)));
        spends = spends _ slot;
        slots = there.others;
        resting = λ j ne h.
            subst (λ d. H.Rests d j (local_of r.state j) (w.slots j)) (sym are)
            (subst (λ x. H.Rests w.cores j x (w.slots j)) (sym (r.keeps.others j (λ e. ne (e ∙ sym main)))) h);
        flying = λ j hs made ne run f. r.keeps.others j (λ e. ne (e ∙ sym main));
        memory = there.memory;
      },
    )
      where
        are : v.cores ≡ w.cores
        are = λ t. λ j. cores j t

        r : ReturnsThere P s
        r =
            returns_are_steps P codes s q.routine q.stage next q.variables q.arrays R reached (subst (λ k. IsDefined P s k) main defined)
            (subst (λ k. Starts P codes (local_of s k) q.routine q.stage q.variables q.arrays) main begun.starts) listed

    act_lands : Does P codes N T w i v → (t : State) × ActLands (c_source P) H s t i w v
    act_lands (Requests a next k ask own listed asks core eligible slot cores) = request_lands a next k ask own listed asks core eligible slot cores
    act_lands (Returns main next listed slot cores) = return_lands main next listed slot cores

  acts_listed : (i : ℕ) (w v : World ℤ Slot (ℕ → Core)) → Does P codes N T w i v → (a : CodeAct) × (next : ℕ)
      × (stage_at codes (w.slots i).routine (w.slots i).stage ≡ Some (stage.Act a next))
  acts_listed i w v (Requests a next k ask own listed asks core eligible slot cores) = (a, next, listed)
  acts_listed i w v (Returns main next listed slot cores) = (act.Return, next, listed)

  -- who wakes here takes no step
  woken : (c : ℕ → Core) (s : State) (i : ℕ) (q r : Slot) (hs : List (Move ℤ Local)) → Reachable (c_source P) s → H.Rests c i (local_of s i) q → Wakes P codes N T c i q r → length hs ≡ 0 →
      (accesses_of hs ≡ []) × H.Rests c i (end_of (local_of s i) hs) r × (changes_left code r < changes_left code q + bound P * 0)
  woken c s i q r [] at rests wake n = let w = wakes c s i q r at rests wake in let less = w.1 in (refl, inl w.0, omega arith)
  woken c s i q r (h ∷ hs) at rests wake n = absurd (omega arith)

  -- THREADS FIT
  pub fits : FitsBlocks (c_source P) (bank_of spreads) code (around P codes N T) (bound P)
  fits = record {
    stands = λ c s t i y es at view stands moved. stands_moved N T c s t stands (moves_keep_shared P R s t i y es at view moved);
    act = λ s i w v at defined stands rests there.
        ⊎_elim
        (λ begun. act_lands s i w v at defined stands there begun there.act)
        (λ waits.
        let l = acts_listed i w v there.act in
        absurd (never_past P codes chain coded.chained _ _ _ (waits_past w.cores i (local_of s i) (w.slots i) waits) l.2))
        rests;
    acts_outside = λ i w v there. let l = acts_listed i w v there.act in no_states P codes chain coded.chained (w.slots i) _ l.2 refl;
    waits_outside = λ c i x q waits. past_states P codes chain coded.chained q (waits_past c i x q waits);
    wakes_outside = λ c i q r wake. past_states P codes chain coded.chained q (wakes_past c i q r wake);
    wakes = λ c s i q r at rests wake. (0, tt, λ hs run n. woken c s i q r hs at rests wake n);
  }

pub fits_threads : (P : Program) (codes : Codes) (N : Numbers) (T : ℕ) (spreads : List Spread) (chain : ℕ → ℕ → ℕ) → FitsThreads P codes N T spreads chain
fits_threads P codes N T spreads chain R numbers coded = fits P codes N T spreads chain R numbers coded
