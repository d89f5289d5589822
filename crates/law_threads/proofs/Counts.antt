-- How often a slot may change at a stage, at rest and at a meeting.
use Rattle.std.specs.Prelude.{not, Option, Some, None, slice_get}
use Rattle.std.proofs.Common.{◌≡◌, ℕ, ◌+◌, ◌*◌, ◌<◌, ◌≤◌, refl, ap, ◌∙◌, arith}
use Rattle.std.proofs.lemmas.Option.{slice_get_past}
use Rattle.c_program.specs.Tree.{Program}
use Rattle.c_program.specs.Weight.{weight, bound}
use Rattle.block_ir.specs.declared.code.Stage.{Stage}
use Rattle.planned_block.specs.Block.{operation_at, size}
use Rattle.planned_block.specs.Slot.{Slot, is_request}
use Rattle.planned_block.proofs.Bits.{both_true}
use Rattle.planned_block.specs.Hardware.{Code, block_of, plan_of, is_open, changes_left, changes_of}
use Rattle.planned_block.specs.Following.{own_latencies, no_spare}
use Rattle.planned_block.proofs.Budget.{within_chain}
use Rattle.planned_block.proofs.RequestCount.{count_le}
use Rattle.law_threads.specs.Routines.{Codes, stage_at, rest_of, blocks_of, plans_of}
use Rattle.law_threads.specs.Threads.{block_at, plan_at}
use Rattle.law_threads.specs.Surroundings.{hardware_code}
use Rattle.law_threads.specs.Laws.{AreChainsThere}

module _ (P : Program) (codes : Codes) (chain : ℕ → ℕ → ℕ) (chained : AreChainsThere P codes chain) where
  abbrev code : Code
  code = hardware_code codes chain

  -- past the last stage nothing is listed
  pub past : (f l : ℕ) → rest_of codes f ≤ l → stage_at codes f l ≡ None
  past f l le = slice_get_past (codes f).code.stages l le

  pub never_past : (f l : ℕ) (s : Stage) → rest_of codes f ≤ l → stage_at codes f l ≡ Some s → ⊥
  never_past f l s le e = let none : stage_at codes f l ≡ None = past f l le in cc

  pub no_states : (q : Slot) (o : Option Stage) → stage_at codes q.routine q.stage ≡ o → (plan_at o (slice_get (codes q.routine).plan.stages q.stage)).states ≡ 0 →
      (plan_of code q).states ≡ 0
  no_states q o e z = ap (λ (x : Option Stage). (plan_at x (slice_get (codes q.routine).plan.stages q.stage)).states) e ∙ z

  pub past_states : (q : Slot) → rest_of codes q.routine ≤ q.stage → (plan_of code q).states ≡ 0
  past_states q le = no_states q None (past q.routine q.stage le) refl

  -- a slot at the start of a stage has no more left than the stage
  fresh_left : (q : Slot) → q.state ≡ 0 → changes_left code q ≤ changes_of code q.routine q.stage
  fresh_left q z =
      let c = count_le (is_open code q) (λ k. is_request (operation_at (block_of code q) k).kind) (size (block_of code q))
      (λ k lt t. (both_true (is_request (operation_at (block_of code q) k).kind) (not _) t).0) in
      omega arith

  pub fresh_below : (q : Slot) → q.state ≡ 0 → changes_left code q < bound P
  fresh_below q z =
      let le = fresh_left q z in
      let lt = within_chain (blocks_of codes) (plans_of codes) chain no_spare (weight P) chained.chains q.routine q.stage in
      let b = chained.chains.bounded q.routine q.stage in
      omega arith

  pub stage_below : (q : Slot) → q.state ≡ 0 → q.stage < rest_of codes q.routine → changes_left code q < 64 * weight P + 2
  stage_below q z lt =
      let le = fresh_left q z in
      let within = within_chain (blocks_of codes) (plans_of codes) chain no_spare (weight P) chained.chains q.routine q.stage in
      let low = chained.low q.routine q.stage lt in
      omega arith

  pub rest_above : (q : Slot) → rest_of codes q.routine ≤ q.stage → 64 * weight P + 2 ≤ changes_left code q
  rest_above q le =
      let one : own_latencies (blocks_of codes q.routine q.stage) ≡ 1 = ap (λ (o : Option Stage). own_latencies (block_at o)) (past q.routine q.stage le) in
      let high = chained.high q.routine q.stage le in
      omega arith
