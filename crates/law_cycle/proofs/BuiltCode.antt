-- What is known of the code of what is built.
use Rattle.std.specs.Prelude.{Option, Some, None, slice_get}
use Rattle.std.proofs.Common.{◌≡◌, ℕ, ◌^◌, ◌<◌, refl, sym, subst, ⊎_elim, arith, lit<}
use Rattle.std.proofs.Math.Nat.{lt_of_le_of_lt, lt_trans}
use Rattle.c_program.specs.Tree.{Program}
use Rattle.block_ir.specs.declared.code.Stage.{Stage}
use Rattle.block_ir.specs.declared.code.Stage.TheVariants as stage
use Rattle.block_ir.specs.declared.plan.StagePlan.{StagePlan}
use Rattle.planned_block.specs.Block.{IsOrdered}
use Rattle.planned_block.specs.Plan.{KeepsOrders}
use Rattle.block_refine.specs.Threads.{no_block, no_plan, block_at, plan_at}
use Rattle.block_refine.specs.Routines.{blocks_of, plans_of}
use Rattle.block_refine.proofs.RoutineLaws.{blocks_are_steps}
use Rattle.law_threads.specs.Requests.{AreNumbers}
use Rattle.law_threads.proofs.Fits.{fits_threads}
use Rattle.law_cycle.specs.Built.{Parts, IsBuilt}
use Rattle.law_cycle.specs.Bodies.{numbers_of, core_count}
use Rattle.law_cycle.specs.Cycle.{BuiltFits}
use Rattle.law_cycle.proofs.Steps.{banked}

-- where there is no block no order is to be kept
nothing_kept : KeepsOrders no_block no_plan
nothing_kept = record {
  earlier = λ j k lt u. absurd (omega arith);
  final = λ k u. ⊎_elim (λ f. absurd f.1) (λ t. let e = t.3 in absurd cc) u;
  waits = λ j k lt u. absurd (omega arith);
  ends = λ k lt. absurd (omega arith);
  banks = λ j k x v w l lt a b. absurd (omega arith);
  arrays = λ j k x v w l lt a b e. absurd (omega arith);
  used = λ j k lt u. absurd (omega arith);
  used_last = λ k u. omega arith;
  has = λ k lt l. absurd (omega arith);
  short = λ k r lt e. absurd (omega arith);
  apart = λ j k r lt l ne a b. absurd (omega arith);
}

module _ (P : Program) (K : Parts) (built : IsBuilt P K) where
  keeps : (f l : ℕ) → KeepsOrders (blocks_of K.codes f l) (plans_of K.codes f l)
  keeps f l = by (slice_get (K.codes f).code.stages l) refl
    where
      by : (o : Option Stage) → slice_get (K.codes f).code.stages l ≡ o → KeepsOrders (block_at o) (plan_at o (slice_get (K.codes f).plan.stages l))
      by None e = nothing_kept
      by (Some (stage.Act a next)) e = nothing_kept
      by (Some (stage.Run b)) e =
          let p = (built.codes f).planned l b e in
          subst (λ (o : Option StagePlan). KeepsOrders (block_at (Some (stage.Run b))) (plan_at (Some (stage.Run b)) o)) (sym p.1.planned_so) p.1.keeps

  ordered : (f l : ℕ) → IsOrdered (blocks_of K.codes f l)
  ordered f l = record { earlier = (keeps f l).earlier; final = (keeps f l).final }

  few : core_count K.cores < 2 ^ 64
  few = lt_trans built.few_cores (lit< tt)

  pub numbers : AreNumbers P (numbers_of K.cores) K.cores.threads
  numbers = record {
    threads = built.threads;
    thread_ids = built.thread_ids;
    few_threads = lt_of_le_of_lt built.few_threads (lit< tt);
    few_mutexes = lt_trans (omega arith) few;
    few_barriers = lt_trans (omega arith) few;
  }

pub built_fits : BuiltFits
built_fits P K built = record {
  banks = (banked P K built).apart;
  keeps = keeps P K built;
  lowered = blocks_are_steps P K.codes built.chain built.resolved (ordered P K built) built.coded.chained.chains;
  fits = fits_threads P K.codes (numbers_of K.cores) K.cores.threads K.spreads built.chain built.resolved (numbers P K built) built.coded;
}
