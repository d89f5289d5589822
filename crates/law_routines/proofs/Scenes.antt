-- The chains of a routine of three stages: a block of one statement, a wait at a barrier, a return. It rests behind them, at 3, and meets at 5.
use Rattle.std.specs.Prelude.{None}
use Rattle.std.proofs.Common.{◌≡◌, ℕ, suc, ◌+◌, ◌*◌, ◌-◌, ◌≤◌, List, [], ◌∷◌, refl, ap, arith}
use Rattle.hls_ints.specs.Types.{long_int}
use Rattle.c_program.specs.Tree.{Program}
use Rattle.c_program.specs.Weight.{weight}
use Rattle.block_ir.specs.declared.block.Block.{Block}
use Rattle.block_ir.specs.declared.block.Operation.TheVariants.{ReadGlobal}
use Rattle.block_ir.specs.declared.block.Next.TheVariants.{Jump}
use Rattle.block_ir.specs.declared.code.Act.TheVariants as act
use Rattle.block_ir.specs.declared.code.ActOperand.TheVariants.{Variable}
use Rattle.block_ir.specs.declared.code.Stage.{Stage}
use Rattle.block_ir.specs.declared.code.Stage.TheVariants as stage
use Rattle.block_ir.specs.declared.code.ThreadCode.{ThreadCode}
use Rattle.block_ir.specs.declared.operand.Operand.{Operand}
use Rattle.block_ir.specs.declared.plan.Planned.{Planned}
use Rattle.law_threads.specs.Surroundings.{hardware_code}
use Rattle.block_refine.specs.Routines.{Codes}
use Rattle.law_routines.specs.Plans.{chain_of}

-- twice the room of a chain, but for the one change of an empty block
twice : (w : ℕ) → 2 * ((32 * w + 2) - 1) ≡ 64 * w + 2
twice w = omega arith

-- a stage behind which no block without steps follows, in code that has none
largest : (w : ℕ) → 9 * 0 + (8 * (4 * w - 2 * 0) + 1) ≡ 32 * w + 1
largest w = omega arith

module _ (P : Program) (o : Operand) (c : ThreadCode) (plan : Planned) where
  -- a statement that reads an element
  abbrev one : Block
  one = record { operations = ReadGlobal 0 1 o ∷ []; finals = []; next = Jump 1; steps = 1 }

  abbrev stages : List Stage
  stages = stage.Run one ∷ stage.Act (act.BarrierWait (Variable 0 long_int)) 2 ∷ stage.Act act.Return 0 ∷ []

  abbrev codes : Codes
  codes f = record { code = record { argument = None; variables = c.variables; names = c.names; arrays = c.arrays; stages = stages }; plan = plan }

  abbrev reserve : ℕ → ℕ
  reserve l = (hardware_code codes (chain_of P codes)).reserve 0 l

  -- the chain of the block has what the largest may take, of which its own latencies are 2 of the read and 1
  first_chain : chain_of P codes 0 0 ≡ 32 * weight P + 1
  first_chain = largest (weight P)

  first_keeps : reserve 0 ≡ 2 * ((32 * weight P + 1) - 3)
  first_keeps = ap (λ n. 2 * (n - 3)) first_chain

  -- a rest has room for all that it may lead to, and so has a meeting, whatever stage is before it: the block's, the wait's, the return's
  rest_chain : chain_of P codes 0 3 ≡ 32 * weight P + 2
  rest_chain = refl

  rest_keeps : reserve 3 ≡ 64 * weight P + 2
  rest_keeps = twice (weight P)

  block_meets : reserve 4 ≡ 64 * weight P + 2
  block_meets = twice (weight P)

  wait_meets : reserve 5 ≡ 64 * weight P + 2
  wait_meets = twice (weight P)

  return_meets : reserve 6 ≡ 64 * weight P + 2
  return_meets = twice (weight P)

  -- the first stage of a routine is below the rest that leads to it
  below : suc (reserve 0) ≤ reserve 3
  below = let first = first_keeps in let rest = rest_keeps in omega (arith, first, rest)
