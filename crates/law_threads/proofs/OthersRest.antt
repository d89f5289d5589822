-- How the other threads rest after an act.
use Rattle.std.specs.Prelude.{true, false, Some, slice_get, ℤ}
use Rattle.std.proofs.Common.{◌≡◌, ◌≢◌, ℕ, ◌<◌, List, [], ◌∷◌, refl, sym, ap, ◌∙◌, subst, inl, inr, ⊎_elim, arith}
use Rattle.c_program.specs.Tree.{Program}
use Rattle.c_program.specs.Weight.{bound, hardware_routines}
use Rattle.c_program.specs.Resolved.{IsResolved}
use Rattle.thread_semantics.specs.State.{Frame, Slot as ThreadSlot, Unused, Running, Finished, State, started}
use Rattle.thread_semantics.specs.Step.{is_running}
use Rattle.race_model.specs.Source.{Local, local_of, running}
use Rattle.race_model.specs.Orderly.{is_over}
use Rattle.bank_partition.specs.declared.banks.Spread.{Spread}
use Rattle.planned_block.specs.Slot.{Slot}
use Rattle.planned_block.specs.Hardware.{Begins}
use Rattle.thread_promise.specs.Globals.{bank_of}
use Rattle.hls_ints.specs.Residues.{residue_of}
use Rattle.law_threads.specs.Cores.{Core, status_at, argument_at, waits_bit}
use Rattle.block_ir.specs.Asked.{Numbers}
use Rattle.law_threads.specs.Routines.{Codes}
use Rattle.law_threads.specs.Requests.{HearsSame, Other, Same, Begun, Joined, Released}
use Rattle.law_threads.specs.Surroundings.{Waits, Absent, Over, Idle, Handed, Meeting, around, hardware_code}
use Rattle.law_threads.specs.Laws.{AreCoded, Rests}
use Rattle.law_threads.proofs.Awake.{awake}

module _ (P : Program) (codes : Codes) (N : Numbers) (T : ℕ) (c d : ℕ → Core) (s t : State) (j : ℕ) where
  -- who runs and waits nowhere is not touched
  pub awake_same : (frames : List Frame) → local_of s j ≡ running frames → Other P N c d s t j → local_of t j ≡ local_of s j
  awake_same frames e (Same local hears) = local
  awake_same frames e (Begun below was r v routine now status argument) =
      let slot : slice_get s.slots j ≡ Some (Running frames) = ap (λ (x : Local). x.slot) e in absurd cc
  awake_same frames e (Joined below was now status) =
      let slot : slice_get s.slots j ≡ Some (Running frames) = ap (λ (x : Local). x.slot) e in absurd cc
  awake_same frames e (Released others was now bits) =
      let one : true ≡ (local_of s j).waits = ap (λ (x : Local). x.waits) (sym was) in
      let two : (local_of s j).waits ≡ false = ap (λ (x : Local). x.waits) e in
      absurd cc

  not_running : (frames : List Frame) (slot : ThreadSlot) → slice_get s.slots j ≡ Some slot → is_running (Some slot) ≡ false → slice_get s.slots j ≡ Some (Running frames) → ⊥
  not_running frames slot at still runs =
      let same : slot ≡ Running frames = cc in
      let yes : is_running (Some slot) ≡ true = ap (λ (z : ThreadSlot). is_running (Some z)) same in
      cc

  module _ (q : Slot) where
    waits_on : HearsSame N c d j → (x : Local) → Waits P codes N T c j x q → Waits P codes N T d j x q
    waits_on hears x (Absent beyond at) = Absent beyond at
    waits_on hears x (Over main at over) = Over main at over
    waits_on hears x (Idle thread own at none status) = Idle thread own at none (λ e. status (sym hears.status ∙ e))
    waits_on hears x (Handed thread own at r v runs is status argument) = Handed thread own at r v runs is (hears.status ∙ status) (hears.argument ∙ argument)
    waits_on hears x (Meeting l next b at listed meets) =
        Meeting l next b at listed
        (record { frames = meets.frames; runs = meets.runs; below = meets.below; bit = meets.bit ∙ sym (hears.bits _ meets.below); starts = meets.starts })

    waits_begun : (below : 0 < j) (was : slice_get s.slots j ≡ Some Unused) (r : ℕ) (v : ℤ) (routine : slice_get (hardware_routines P) j ≡ Some (Some r))
        (now : local_of t j ≡ running (started (slice_get P.functions r) r (v ∷ []))) (status : status_at N d j ≡ 1) (argument : argument_at N d j ≡ residue_of 64 v) →
        Waits P codes N T c j (local_of s j) q → Waits P codes N T d j (local_of t j) q
    waits_begun below was r v routine now status argument (Absent beyond at) = Absent beyond at
    waits_begun below was r v routine now status argument (Over main at over) = absurd (omega arith)
    waits_begun below was r v routine now status argument (Idle thread own at none before) = Handed below own at r v routine now status argument
    waits_begun below was r v routine now status argument (Handed thread own at k u runs is before given) =
        absurd (not_running _ Unused was refl (ap (λ (x : Local). x.slot) is))
    waits_begun below was r v routine now status argument (Meeting l next b at listed meets) = absurd (not_running meets.frames Unused was refl meets.runs)

    waits_joined : (below : 0 < j) (was : slice_get s.slots j ≡ Some Finished) (now : slice_get t.slots j ≡ Some Unused) (status : status_at N d j ≢ 1) →
        Waits P codes N T c j (local_of s j) q → Waits P codes N T d j (local_of t j) q
    waits_joined below was now status (Absent beyond at) = Absent beyond at
    waits_joined below was now status (Over main at over) = absurd (omega arith)
    waits_joined below was now status (Idle thread own at none before) = Idle below own at (ap is_running now) status
    waits_joined below was now status (Handed thread own at k u runs is before given) = absurd (not_running _ Finished was refl (ap (λ (x : Local). x.slot) is))
    waits_joined below was now status (Meeting l next b at listed meets) = absurd (not_running meets.frames Finished was refl meets.runs)

    waits_released : (frames : List Frame) (was : local_of s j ≡ record { slot = Some (Running frames); waits = true }) (now : local_of t j ≡ running frames)
        (bits : (n : ℕ) → n < N.barriers → waits_bit N d n j ≡ false) → Waits P codes N T c j (local_of s j) q → Waits P codes N T d j (local_of t j) q
    waits_released frames was now bits (Absent beyond at) = Absent beyond at
    waits_released frames was now bits (Over main at over) = let e : is_over (local_of s j) ≡ false = ap is_over was in absurd cc
    waits_released frames was now bits (Idle thread own at none before) = let e : is_running (local_of s j).slot ≡ true = ap (λ (x : Local). is_running x.slot) was in absurd cc
    waits_released frames was now bits (Handed thread own at k u runs is before given) =
        let one : (local_of s j).waits ≡ true = ap (λ (x : Local). x.waits) was in
        let two : (local_of s j).waits ≡ false = ap (λ (x : Local). x.waits) is in
        absurd cc
    waits_released frames was now bits (Meeting l next b at listed meets) =
        let slot : slice_get s.slots j ≡ Some (Running frames) = ap (λ (x : Local). x.slot) was in
        let runs : slice_get s.slots j ≡ Some (Running meets.frames) = meets.runs in
        let same : Some (Running frames) ≡ Some (Running meets.frames) = sym slot ∙ runs in
        Meeting l next b at listed
        (record {
          frames = meets.frames;
          runs = ap (λ (x : Local). x.slot) now ∙ same;
          below = meets.below;
          bit = ap (λ (x : Local). x.waits) now ∙ sym (bits _ meets.below);
          starts = meets.starts;
        })

    waits_stay : Other P N c d s t j → Waits P codes N T c j (local_of s j) q → Waits P codes N T d j (local_of t j) q
    waits_stay (Same local hears) waits = subst (λ x. Waits P codes N T d j x q) (sym local) (waits_on hears (local_of s j) waits)
    waits_stay (Begun below was r v routine now status argument) waits = waits_begun below was r v routine now status argument waits
    waits_stay (Joined below was now status) waits = waits_joined below was now status waits
    waits_stay (Released frames was now bits) waits = waits_released frames was now bits waits

    -- who rests goes on to rest
    pub rests_stay : (spreads : List Spread) (chain : ℕ → ℕ → ℕ) → AreCoded P codes chain → IsResolved P → Other P N c d s t j →
        Rests P codes N T spreads chain c j (local_of s j) q → Rests P codes N T spreads chain d j (local_of t j) q
    rests_stay spreads chain coded R other rests =
        ⊎_elim
        (λ begun.
        let up = awake P codes chain coded R (local_of s j) q.routine q.stage q.variables q.arrays begun.starts in
        inl (subst (λ x. Begins (bank_of spreads) (hardware_code codes chain) (around P codes N T) (bound P) x q) (sym (awake_same up.0 up.1 other)) begun))
        (λ waits. inr (waits_stay other waits))
        rests
