-- Memories of the local arrays.
use Rattle.std.proofs.Common.{◌≡◌, ℕ, zero, suc, ◌+◌, ◌<◌, ◌≤◌, ◌^◌, List, [], ◌∷◌, length, Some, refl, sym, ap, subst, ◌∙◌, arith}
use Rattle.std.specs.Prelude.{slice_get, replicate, codes}
use Rattle.std.proofs.lemmas.List.{length-replicate}
use Rattle.std.proofs.lemmas.Option.{slice_get_within}
use Rattle.std.proofs.lemmas.Nat.{pow_pos}
use Rattle.hls_ints.specs.Types.{width_of}
use Rattle.block_ir.specs.declared.code.Array.{Array}
use Rattle.netlist.specs.declared.netlist.Signal.{Signal}
use Rattle.netlist.specs.declared.netlist.Memory.{Memory}
use Rattle.netlist.specs.declared.netlist.Module.{Module}
use Rattle.netlist.specs.Laid.{AreApart, memory_names}
use Rattle.verilog_meaning.specs.Names.{numbered}
use Rattle.circuit.specs.Rows.{EachOf}
use Rattle.circuit.specs.Modules.{FitsMemory}
use Rattle.module_sound.specs.Names.{place_of}
use Rattle.module_sound.specs.Sounds.{IsRightMemory, AreRightMemories}
use Rattle.module_sound.proofs.SoundModule.{memory_at_name}
use Rattle.operator_wires.proofs.TypedWords.{at_least, at_most}
use Rattle.thread_slots.proofs.Digits.{digits_tell}
use Rattle.thread_layout.specs.Memories.{memory_for, memories_from}

-- ---- one memory for each array

pub memory_found : (n k : ℕ) (arrays : List Array) (c : Memory) → slice_get (memories_from n arrays) k ≡ Some c →
    (a : Array) × (slice_get arrays k ≡ Some a) × (c ≡ memory_for (n + k) a)
memory_found n k [] c e = absurd cc
memory_found n zero (x ∷ arrays) c e = let same : memory_for n x ≡ c = cc in let z : n ≡ n + 0 = omega arith in (x, refl, sym same ∙ ap (λ i. memory_for i x) z)
memory_found n (suc k) (x ∷ arrays) c e = let f = memory_found (suc n) k arrays c e in let z : suc n + k ≡ n + suc k = omega arith in (f.0, f.1, f.2 ∙ ap (λ i. memory_for i f.0) z)

-- ---- they are right

array_tells : (n inputs j : ℕ) → j < 2 ^ 64 → place_of n inputs (numbered (codes "array") j) ≡ Some j
array_tells n inputs j small = digits_tell j small

zeros_fit : (w n : ℕ) → EachOf (λ k. k < 2 ^ w) (replicate n 0)
zeros_fit w zero = tt
zeros_fit w (suc n) = (pow_pos w, zeros_fit w n)

module _ (m : Module) (arrays : List Array) (are : m.memories ≡ memories_from 0 arrays) (few : length arrays ≤ 2 ^ 64)
    (some_words : (a : ℕ) (array : Array) → slice_get arrays a ≡ Some array → 1 ≤ array.length)
    (other : (x : ℕ) (s : Signal) → slice_get m.signals x ≡ Some s → (j : ℕ) → j < 2 ^ 64 → s.name ≡ numbered (codes "array") j → ⊥) where
  memory_is : (j : ℕ) (c : Memory) → slice_get m.memories j ≡ Some c → (a : Array) × (slice_get arrays j ≡ Some a) × (c ≡ memory_for j a)
  memory_is j c listed =
      let f = memory_found 0 j arrays c (ap (λ (l : List Memory). slice_get l j) (sym are) ∙ listed) in
      let z : 0 + j ≡ j = omega arith in
      (f.0, f.1, f.2 ∙ ap (λ i. memory_for i f.0) z)

  right : (j : ℕ) (c : Memory) (a : Array) → slice_get arrays j ≡ Some a → c ≡ memory_for j a → IsRightMemory m c
  right j c a listed e =
      subst (IsRightMemory m) (sym e)
      (record {
        laid = record {
          low = (let low = at_least a.ty in omega arith);
          high = at_most a.ty;
          words = (let long : length (memory_for j a).initial ≡ a.length = length-replicate a.length 0 in let one = some_words j a listed in omega arith);
        };
        begins = zeros_fit (width_of a.ty) a.length;
        unclocked = refl;
        other = λ x s there same. other x s there j (let less = slice_get_within arrays j a listed in omega arith) same;
      })

  apart : AreApart (memory_names m)
  apart i j x e f =
      let a = memory_at_name m.memories i x e in
      let b = memory_at_name m.memories j x f in
      let p = memory_is i a.0 a.1 in
      let q = memory_is j b.0 b.1 in
      let i_few = slice_get_within arrays i p.0 p.1 in
      let j_few = slice_get_within arrays j q.0 q.1 in
      let i_is : place_of 0 0 x ≡ Some i = ap (place_of 0 0) (sym a.2 ∙ ap (λ (c : Memory). c.name) p.2) ∙ array_tells 0 0 i (omega arith) in
      let j_is : place_of 0 0 x ≡ Some j = ap (place_of 0 0) (sym b.2 ∙ ap (λ (c : Memory). c.name) q.2) ∙ array_tells 0 0 j (omega arith) in
      cc

  pub right_memories : AreRightMemories m
  right_memories = record { each = λ j c listed. let p = memory_is j c listed in right j c p.0 p.1 p.2; apart = apart }

-- each initial constant fits
pub begun : (n : ℕ) (arrays : List Array) → EachOf FitsMemory (memories_from n arrays)
begun n [] = tt
begun n (a ∷ arrays) = (zeros_fit (width_of a.ty) a.length, begun (suc n) arrays)
