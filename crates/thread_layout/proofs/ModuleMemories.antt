-- The memories of the module.
use Rattle.std.proofs.Common.{List, [], ◌∷◌, ◌++◌, ◌≡◌, ℕ, zero, suc, ◌+◌, length, take, Some, refl, sym, ap, ◌∙◌, arith}
use Rattle.circuit.specs.Rows.{EachOf}
use Rattle.std.specs.Prelude.{slice_get}
use Rattle.std.proofs.lemmas.List.{length-replicate}
use Rattle.lists.proofs.Places.{take_next}
use Rattle.block_ir.specs.declared.code.Array.{Array}
use Rattle.block_ir.specs.declared.code.ThreadCode.{ThreadCode}
use Rattle.netlist.specs.declared.netlist.Memory.{Memory}
use Rattle.block_datapath.specs.Wired.{HasMemories}
use Rattle.thread_layout.specs.Memories.{memory_for, memories_from}

pub each_append : {X : Type 0} (P : X → Type 0) (xs ys : List X) → EachOf P xs → EachOf P ys → EachOf P (xs ++ ys)
each_append P [] ys t u = u
each_append P (x ∷ xs) ys t u = (t.0, each_append P xs ys t.1 u)

-- ---- one memory for each array

pub memory_listed : (n k : ℕ) (arrays : List Array) (a : Array) → slice_get arrays k ≡ Some a → slice_get (memories_from n arrays) k ≡ Some (memory_for (n + k) a)
memory_listed n k [] a e = absurd cc
memory_listed n zero (x ∷ arrays) a e = let same : x ≡ a = cc in let z : n ≡ n + 0 = omega arith in ap (λ y. Some (memory_for n y)) same ∙ ap (λ i. Some (memory_for i a)) z
memory_listed n (suc k) (x ∷ arrays) a e = let z : suc n + k ≡ n + suc k = omega arith in memory_listed (suc n) k arrays a e ∙ ap (λ i. Some (memory_for i a)) z

memories_append : (n : ℕ) (xs : List Array) (a : Array) → memories_from n (xs ++ a ∷ []) ≡ memories_from n xs ++ memory_for (n + length xs) a ∷ []
memories_append n [] a = let z : n ≡ n + 0 = omega arith in ap (λ i. memory_for i a ∷ []) z
memories_append n (x ∷ xs) a =
    let z : suc n + length xs ≡ n + suc (length xs) = omega arith in
    ap (λ l. memory_for n x ∷ l) (memories_append (suc n) xs a ∙ ap (λ i. memories_from (suc n) xs ++ memory_for i a ∷ []) z)

pub memories_more : (xs : List Array) (n : ℕ) (a : Array) (memories after : List Memory) (c : Memory) → memories ≡ memories_from 0 (take n xs) → slice_get xs n ≡ Some a →
    length (take n xs) ≡ n
    → c ≡ memory_for n a → after ≡ memories ++ c ∷ [] → after ≡ memories_from 0 (take (n + 1) xs)
memories_more xs n a memories after c is listed long one e =
    let next : n + 1 ≡ suc n = omega arith in
    let z : 0 + length (take n xs) ≡ n = omega arith in
    e ∙ ap (λ l. l ++ c ∷ []) is ∙ ap (λ k. memories_from 0 (take n xs) ++ k ∷ []) one ∙ ap (λ i. memories_from 0 (take n xs) ++ memory_for i a ∷ []) (sym z)
    ∙ sym (memories_append 0 (take n xs) a) ∙ ap (memories_from 0) (sym (take_next xs n a listed)) ∙ ap (λ i. memories_from 0 (take i xs)) (sym next)

-- whatever the first signal is that wires may read
pub has_memories : (first : ℕ) (code : ThreadCode) → HasMemories (record { first = first; memory = λ j. slice_get (memories_from 0 code.arrays) j }) code
has_memories first code = record {
  each = λ k a listed. (memory_for (0 + k) a, memory_listed 0 k code.arrays a listed, refl, length-replicate a.length 0);
}
