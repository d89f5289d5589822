-- Runs of a block, one after another, are iterations.
use Rattle.std.specs.Prelude.{ℤ, Bool, false, if◌then◌else◌}
use Rattle.std.proofs.Common.{◌≡◌, ℕ, zero, suc, ◌+◌, ◌-◌, ◌<◌, ◌≤◌, refl, sym, ap, ◌∙◌, inl, inr, arith}
use Rattle.interleaving.specs.Memory.{Memory, memory_after}
use Rattle.planned_block.specs.Block.{Kind, Simple, Multiply, Divide, BankRead, BankWrite, ArrayRead, ArrayWrite, Block, Operand, UsesIn, operation_at, size}
use Rattle.planned_block.specs.Block.{operand_value}
use Rattle.planned_block.specs.Run.{Running, started, value_of, array_access, run_operation, run_from}
use Rattle.planned_block.specs.Plan.{target_of, OfGlobal}
use Rattle.planned_block.proofs.Bits.{same_is, other_is}
use Rattle.planned_loop.specs.Loop.{nothing}
use Rattle.planned_loop.specs.Law.{Between, run_to, between, BlocksIterate}
use Rattle.planned_loop.proofs.OperandsAhead.{operand_same}

module _ (b : Block) (variables : ℕ → ℤ) where
  split : (a c n : ℕ) (s : Running) → run_from b variables (a + c) n s ≡ run_from b variables c (n + a) (run_from b variables a n s)
  split zero c n s =
      let z : 0 + c ≡ c = omega arith in
      let y : n ≡ n + 0 = omega arith in
      ap (λ k. run_from b variables k n s) z ∙ ap (λ k. run_from b variables c k s) y
  split (suc a) c n s =
      let z : suc a + c ≡ suc (a + c) = omega arith in
      let y : suc n + a ≡ n + suc a = omega arith in
      let one = run_operation variables n (operation_at b n) s in
      ap (λ k. run_from b variables k n s) z ∙ split a c (suc n) one ∙ ap (λ k. run_from b variables c k (run_from b variables a (suc n) one)) y

  stable : (c n : ℕ) (s : Running) (j : ℕ) → j < n → (run_from b variables c n s).values j ≡ s.values j
  stable zero n s j lt = refl
  stable (suc c) n s j lt =
      stable c (suc n) (run_operation variables n (operation_at b n) s) j (omega arith)
      ∙ ap (λ (t : Bool). if t then value_of (operation_at b n).kind s.arrays s.memory (operand_value variables s.values (operation_at b n).left)
      (operand_value variables s.values (operation_at b n).right) else s.values j) (other_is j n (λ (e : j ≡ n). absurd (omega arith)))

local_value : (kind : Kind) (a m : Memory ℤ) (l r : ℤ) → ((x : ℕ) (w : Bool) → target_of kind ≡ OfGlobal x w → ⊥) →
    value_of kind a m l r ≡ value_of kind a nothing l r
local_value (Simple f) a m l r not_so = refl
local_value (Multiply f) a m l r not_so = refl
local_value (Divide f) a m l r not_so = refl
local_value (BankRead x) a m l r not_so = absurd (not_so x false refl)
local_value (BankWrite x) a m l r not_so = refl
local_value (ArrayRead x) a m l r not_so = refl
local_value (ArrayWrite x) a m l r not_so = refl

pub blocks_iterate : BlocksIterate
blocks_iterate l s ordered local = record {
  computed = λ n k lt. computed (between l s n) k lt;
  stored = λ n k lt. stored (between l s n) k lt;
  finals = λ n x. refl;
  arrays = λ n. refl;
}
  where
    step : (t : Between) (k : ℕ) → run_to l t (suc k) ≡ run_operation t.variables k (operation_at l.block k) (run_to l t k)
    step t k =
        let z : suc k ≡ k + 1 = omega arith in
        let y : 0 + k ≡ k = omega arith in
        ap (λ j. run_from l.block t.variables j 0 (started t.arrays nothing)) z ∙ split l.block t.variables k 1 0 (started t.arrays nothing)
        ∙ ap (λ j. run_operation t.variables j (operation_at l.block j) (run_to l t k)) y

    -- the value of an operation stays
    settled : (t : Between) (j k : ℕ) → j < k → k ≤ size l.block → (run_to l t (size l.block)).values j ≡ (run_to l t k).values j
    settled t j k less le =
        let z : size l.block ≡ k + (size l.block - k) = omega arith in
        ap (λ (m : ℕ). (run_to l t m).values j) z
        ∙ ap (λ (w : Running). w.values j) (split l.block t.variables k (size l.block - k) 0 (started t.arrays nothing))
        ∙ stable l.block t.variables (size l.block - k) (0 + k) (run_to l t k) j (omega arith)

    operand_is : (t : Between) (k : ℕ) (a : Operand) → k < size l.block → ((j : ℕ) → UsesIn a j → j < k) →
        operand_value t.variables (run_to l t k).values a ≡ operand_value t.variables (run_to l t (size l.block)).values a
    operand_is t k a lt each = operand_same a t.variables t.variables (run_to l t k).values (run_to l t (size l.block)).values (λ x n. refl)
        (λ j u. sym (settled t j k (each j u) (omega arith)))

    computed : (t : Between) (k : ℕ) → k < size l.block →
        (run_to l t (size l.block)).values k
        ≡ value_of (operation_at l.block k).kind (run_to l t k).arrays nothing
        (operand_value t.variables (run_to l t (size l.block)).values (operation_at l.block k).left)
        (operand_value t.variables (run_to l t (size l.block)).values (operation_at l.block k).right)
    computed t k lt =
        let o = operation_at l.block k in
        let w = run_to l t k in
        settled t k (suc k) (omega arith) (omega arith)
        ∙ ap (λ (z : Running). z.values k) (step t k)
        ∙ ap (λ (c : Bool). if c then value_of o.kind w.arrays w.memory (operand_value t.variables w.values o.left)
        (operand_value t.variables w.values o.right) else w.values k) (same_is k k refl)
        ∙ local_value o.kind w.arrays w.memory _ _ (λ x y. local k x y lt)
        ∙ ap (λ z. value_of o.kind w.arrays nothing z (operand_value t.variables w.values o.right))
        (operand_is t k o.left lt (λ j u. ordered.earlier j k lt (inl u)))
        ∙ ap (λ z. value_of o.kind w.arrays nothing (operand_value t.variables (run_to l t (size l.block)).values o.left) z)
        (operand_is t k o.right lt (λ j u. ordered.earlier j k lt (inr u)))

    stored : (t : Between) (k : ℕ) → k < size l.block →
        (run_to l t (suc k)).arrays
        ≡ memory_after (array_access (operation_at l.block k).kind (operand_value t.variables (run_to l t (size l.block)).values (operation_at l.block k).left)
        (operand_value t.variables (run_to l t (size l.block)).values (operation_at l.block k).right)) (run_to l t k).arrays
    stored t k lt =
        let o = operation_at l.block k in
        let w = run_to l t k in
        ap (λ (z : Running). z.arrays) (step t k)
        ∙ ap (λ z. memory_after (array_access o.kind z (operand_value t.variables w.values o.right)) w.arrays)
        (operand_is t k o.left lt (λ j u. ordered.earlier j k lt (inl u)))
        ∙ ap (λ z. memory_after (array_access o.kind (operand_value t.variables (run_to l t (size l.block)).values o.left) z) w.arrays)
        (operand_is t k o.right lt (λ j u. ordered.earlier j k lt (inr u)))
