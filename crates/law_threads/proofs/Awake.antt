-- A thread at the start of a stage runs and waits nowhere, and so does one in flight.
use Rattle.std.specs.Prelude.{Bool, true, false, if◌then◌else◌, Option, Some, None, slice_get, ℤ}
use Rattle.std.proofs.Common.{◌≡◌, ℕ, zero, suc, ◌<◌, List, [], ◌∷◌, refl, sym, ap, subst, ⊎_elim, arith}
use Rattle.c_program.specs.Tree.{Program}
use Rattle.c_program.specs.Weight.{bound}
use Rattle.c_program.specs.Resolved.{IsResolved}
use Rattle.thread_semantics.specs.State.{Frame, Slot as ThreadSlot, Unused, Running, Finished, start}
use Rattle.race_model.specs.Source.{Local, running, memory_of, view_of, view_of_slot, c_source}
use Rattle.race_model.proofs.Orderly.{orderly}
use Rattle.interleaving.specs.Memory.{Memory, Access}
use Rattle.interleaving.specs.Source.{View, Move, RunsAlone}
use Rattle.interleaving.specs.Hardware.{IsMoveOrFault, OnlyMoves}
use Rattle.block_ir.specs.declared.block.Block.{Block as CodeBlock}
use Rattle.block_ir.specs.declared.code.Stage.{Stage}
use Rattle.block_ir.specs.declared.code.Stage.TheVariants as stage
use Rattle.planned_block.specs.Block.{operand_value, leads_to}
use Rattle.planned_block.specs.Run.{block_run}
use Rattle.planned_block.specs.Slot.{Slot}
use Rattle.planned_block.proofs.Bits.{less_or_not}
use Rattle.planned_block.specs.Hardware.{Flies}
use Rattle.planned_block.specs.Following.{AtStage, IsStage, Follows}
use Rattle.bank_partition.specs.declared.banks.Spread.{Spread}
use Rattle.thread_promise.specs.Globals.{bank_of}
use Rattle.block_ir.specs.Asked.{Numbers}
use Rattle.law_threads.specs.Routines.{Codes, stage_at, rest_of, blocks_of, plans_of, AtStageOf, AtAct, Starts}
use Rattle.law_threads.specs.Threads.{plan_at, IsTyped}
use Rattle.law_threads.specs.Surroundings.{around, hardware_code}
use Rattle.law_threads.specs.Laws.{AreCoded, StandsAwake}
use Rattle.law_threads.proofs.Counts.{past}

-- a thread that makes a move, or an undefined step, runs and waits nowhere
pub mover_runs : (P : Program) (x : Local) (m : Memory ℤ) → IsMoveOrFault (view_of P x m) → (frames : List Frame) × (x ≡ running frames)
mover_runs P x m k = go x.waits x.slot refl refl k
  where
    go : (w : Bool) (o : Option ThreadSlot) → x.waits ≡ w → x.slot ≡ o → IsMoveOrFault (if w then View.Acts else view_of_slot P m o) → (frames : List Frame) × (x ≡ running frames)
    go true o e d n = absurd n
    go false None e d n = absurd n
    go false (Some Unused) e d n = absurd n
    go false (Some Finished) e d n = absurd n
    go false (Some (Running frames)) e d n = (frames, (λ t. record { slot = d t; waits = e t }))

module _ (P : Program) (codes : Codes) (chain : ℕ → ℕ → ℕ) (coded : AreCoded P codes chain) (R : IsResolved P) where
  abbrev first_memory : Memory ℤ
  first_memory = memory_of (start P).globals

  abbrev Followed : ℕ → ℕ → AtStage Local
  Followed f n = Follows (c_source P) (IsTyped P) (AtAct P codes) (blocks_of codes) (plans_of codes) f n

  first_typed : IsTyped P first_memory
  first_typed = record { globals = (start P).globals; lengths = (orderly P R (start P) ([], refl)).globals; is = refl }

  -- where the code follows a thread there is a stage
  pub starts_below : (x : Local) (f l : ℕ) (variables : ℕ → ℤ) (arrays : Memory ℤ) → Starts P codes x f l variables arrays → l < rest_of codes f
  starts_below x f l variables arrays starts =
      ⊎_elim (λ lt. lt)
      (λ le.
      let none = past P codes chain coded.chained f l le in
      absurd (subst (λ o. AtStageOf P (Follows (c_source P) (IsTyped P) (AtAct P codes) (blocks_of codes) (plans_of codes) f 0) o x variables arrays) none
      ((starts 1).1 (ap (λ (o : Option Stage). (plan_at o (slice_get (codes f).plan.stages l)).states) none))))
      (less_or_not l (rest_of codes f))

  awake_within : (fuel : ℕ) (x : Local) (f l : ℕ) (variables : ℕ → ℤ) (arrays : Memory ℤ) → chain f l < fuel → Starts P codes x f l variables arrays →
      (frames : List Frame) × (x ≡ running frames)
  awake_within zero x f l variables arrays less starts = absurd (omega arith)
  awake_within (suc fuel) x f l variables arrays less starts = go (stage_at codes f l) refl (λ k v a. awake_within fuel x f k v a)
    where
      at_block : (b : CodeBlock) → stage_at codes f l ≡ Some (stage.Run b) → (n : ℕ) →
          IsStage (c_source P) (IsTyped P) (AtAct P codes) (blocks_of codes) (plans_of codes) f (Followed f n) x l variables arrays first_memory
      at_block b e n = (starts (suc n)).0 (coded.planned f l b e) first_memory first_typed

      by_steps : (b : CodeBlock) → stage_at codes f l ≡ Some (stage.Run b) →
          ((k : ℕ) (v : ℕ → ℤ) (a : Memory ℤ) → chain f k < fuel → Starts P codes x f k v a → (frames : List Frame) × (x ≡ running frames)) →
          (n : ℕ) → (blocks_of codes f l).steps ≡ n → (frames : List Frame) × (x ≡ running frames)
      by_steps b e rest zero z =
          let value = operand_value variables (block_run (blocks_of codes f l) variables arrays first_memory).values in
          let fall = coded.chained.chains.stepless f l (coded.planned f l b e) z value in
          rest (leads_to value (blocks_of codes f l).next) _ _ (omega arith) (λ n. (at_block b e n).leads [] tt (sym z))
      by_steps b e rest (suc n) z =
          let only = subst (λ k. OnlyMoves (c_source P) k x first_memory) z (at_block b e 0).only_moves in
          mover_runs P x first_memory only.0

      go : (o : Option Stage) → stage_at codes f l ≡ o →
          ((k : ℕ) (v : ℕ → ℤ) (a : Memory ℤ) → chain f k < fuel → Starts P codes x f k v a → (frames : List Frame) × (x ≡ running frames)) →
          (frames : List Frame) × (x ≡ running frames)
      go None e rest =
          absurd (subst (λ o. AtStageOf P (Followed f 0) o x variables arrays) e
          ((starts 1).1 (ap (λ (o : Option Stage). (plan_at o (slice_get (codes f).plan.stages l)).states) e)))
      go (Some (stage.Run b)) e rest = by_steps b e rest (blocks_of codes f l).steps refl
      go (Some (stage.Act a next)) e rest =
          let at = subst (λ o. AtStageOf P (Followed f 0) o x variables arrays) e
          ((starts 1).1 (ap (λ (o : Option Stage). (plan_at o (slice_get (codes f).plan.stages l)).states) e)) in
          (at.0, at.1)

  pub awake : (x : Local) (f l : ℕ) (variables : ℕ → ℤ) (arrays : Memory ℤ) → Starts P codes x f l variables arrays → (frames : List Frame) × (x ≡ running frames)
  awake x f l variables arrays starts = awake_within (suc (chain f l)) x f l variables arrays (omega arith) starts

  pub flies_awake : (N : Numbers) (T : ℕ) (spreads : List Spread) (x : Local) (m : Memory ℤ) (hs : List (Move ℤ Local)) (made : List (Access ℤ)) (q : Slot) →
      RunsAlone (c_source P) x m hs →
      Flies (bank_of spreads) (hardware_code codes chain) (around P codes N T) (bound P) x m hs made q → (frames : List Frame) × (x ≡ running frames)
  flies_awake N T spreads x m [] made q run f = awake x q.routine _ _ _ f.ends
  flies_awake N T spreads x m (h ∷ hs) made q run f = mover_runs P x m (subst IsMoveOrFault (sym run.0) tt)

pub stands_awake : (P : Program) (codes : Codes) (N : Numbers) (T : ℕ) (spreads : List Spread) (chain : ℕ → ℕ → ℕ) → StandsAwake P codes N T spreads chain
stands_awake P codes N T spreads chain coded R x f l variables arrays starts = awake P codes chain coded R x f l variables arrays starts
