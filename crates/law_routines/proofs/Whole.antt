-- Blocks of typed code by a right plan run as the machine needs it.
use Rattle.std.proofs.Common.{◌≡◌, ℕ, zero, suc, ◌+◌, ◌<◌, List, [], ◌∷◌, length, map, Some, refl}
use Rattle.std.specs.Prelude.{slice_get}
use Rattle.c_program.specs.Tree.{GlobalVariable, Program}
use Rattle.block_ir.specs.declared.block.Block.{Block}
use Rattle.block_ir.specs.declared.code.Stage.TheVariants as stage
use Rattle.block_ir.specs.declared.code.ThreadCode.{ThreadCode}
use Rattle.block_ir.specs.declared.plan.BlockPlan.{BlockPlan}
use Rattle.block_ir.specs.declared.plan.Planned.{Planned}
use Rattle.plan_conditions.specs.Right.{IsRightPlan}
use Rattle.code_following.specs.Typed.{types_of, most_operations, IsTypedCode}
use Rattle.thread_promise.specs.Promise.{RunsAt}
use Rattle.bank_partition.specs.declared.banks.Spread.{Spread}
use Rattle.bank_partition.specs.Shapes.{count_of, spreads_from}
use Rattle.thread_promise.specs.Globals.{IsGlobalOf}
use Rattle.law_routines.proofs.Types.{accesses_are, block_typed, in_order}
use Rattle.law_routines.proofs.Chains.{planned_at, typed_at}

-- the banks of the global that has this length
spread_at : (threads : List ℕ) (globals : List GlobalVariable) (y first x n : ℕ) → slice_get (map (λ (g : GlobalVariable). g.length) globals) x ≡ Some n →
    IsGlobalOf (spreads_from threads y first globals) x n
spread_at threads [] y first x n e = cc
spread_at threads (g ∷ globals) y first zero n e = (record { first = first; count = count_of threads y g; length = g.length }, refl, (let same : g.length ≡ n = cc in same))
spread_at threads (g ∷ globals) y first (suc x) n e = spread_at threads globals (y + 1) (first + count_of threads y g) x n e

module _ (P : Program) (threads : List ℕ) (routine : ℕ) (code : ThreadCode) (plan : Planned) (typed : IsTypedCode P routine code) (is : IsRightPlan code plan) where
  abbrev spreads : List Spread
  spreads = spreads_from threads 0 0 P.globals

  pub planned : (l : ℕ) (b : Block) → slice_get code.stages l ≡ Some (stage.Run b) → (p : BlockPlan) × RunsAt (map (λ (g : GlobalVariable). g.ty) P.globals) spreads code plan l b p × (0 < p.states)
  planned l b at =
      let p = planned_at P routine code plan typed is l b at in
      let t = typed_at P routine code plan typed is l b at in
      let order = in_order (types_of P code) (length code.stages) (most_operations P code.stages) b t in (
        p.0,
        record {
          listed = at;
          planned_so = p.1;
          typed = block_typed (types_of P code) code refl refl (length code.stages) (most_operations P code.stages) b t refl;
          accesses = accesses_are (types_of P code) spreads (λ x n e. spread_at threads P.globals 0 0 x n e) [] b.operations t.operations;
          keeps = p.2.keeps order;
          registered = p.2.registered order;
          units = p.2.units order;
        },
        p.2.some,
      )
