-- The operands of a pthread call come to what its operand expressions do.
use Rattle.std.proofs.Common.{◌≡◌, ℕ, ◌+◌, ◌^◌, ◌<◌, true, false, Bool, nat_lt, if◌then◌else◌, List, [], ◌∷◌, ◌++◌, length, ℤ, pos, negsuc, refl, sym, ap, ◌∙◌, subst, arith, append-nil}
use Rattle.std.specs.Prelude.{IsTrue}
use Rattle.std.proofs.lemmas.Bool.{lt-ltb, ltb-true}
use Rattle.hls_ints.specs.Types.{HasType, long_int, wrapped}
use Rattle.hls_ints.specs.Operators.{result_of}
use Rattle.hls_ints.proofs.Conversions.{wrapped-same}
use Rattle.c_program.specs.declared.tree.BinaryOperator.TheVariants.{Add}
use Rattle.c_program.specs.Tree.{Expression, ObjectPlace}
use Rattle.thread_semantics.specs.declared.cause.UndefinedCause.TheVariants.{Index}
use Rattle.thread_semantics.specs.Memory.{Location, Memory, Evaluation, Gives, Fails, and_then, after_reads}
use Rattle.thread_semantics.specs.Value.{value, values, binary_value, checked_index}
use Rattle.thread_semantics.specs.Move.{object_number, alone, with_operand}
use Rattle.code_blocks.proofs.OperationRuns.{parts}
use Rattle.code_blocks.proofs.Steps.{gives_is}
use Rattle.code_calls.specs.Acts.{number_expression}

pub small_typed : (n : ℕ) → n < 2 ^ 63 → HasType long_int (pos n)
small_typed n lt = subst IsTrue (sym (lt-ltb n (2 ^ 63) lt)) refl

small_wrapped : (n : ℕ) → n < 2 ^ 63 → wrapped long_int (pos n) ≡ pos n
small_wrapped n lt = wrapped-same long_int (pos n) (small_typed n lt)

-- a small index is added to a small number
small_total : (i k : ℕ) → i + k < 2 ^ 63 → binary_value Add long_int (pos i) (pos k) ≡ Gives (pos (i + k)) []
unfolding result_of
small_total i k lt =
    rw (small_wrapped i (omega arith), small_wrapped k (omega arith), lt-ltb (i + k) (2 ^ 63) lt) refl

pub record IsIndexed (count : ℕ) (i : ℤ) (j : ℕ) (ls : List Location) : Type 0 where
  pub is : i ≡ pos j
  pub none : ls ≡ []
  pub below : j < count

index_is : (count : ℕ) (i : ℤ) (j : ℕ) (ls : List Location) → checked_index count i ≡ Gives j ls → IsIndexed count i j ls
index_is count (negsuc i) j ls e = absurd cc
index_is count (pos i) j ls e = go (nat_lt i count) refl e
  where
    go : (b : Bool) → nat_lt i count ≡ b → (if b then Gives i [] else Fails Index) ≡ Gives j ls → IsIndexed count (pos i) j ls
    go true z d = let same : i ≡ j = cc in record { is = ap pos same; none = cc; below = subst (λ k. k < count) same (ltb-true i count z) }
    go false z d = absurd cc

-- how many elements an index may choose among
abbrev pub place_length : ObjectPlace → ℕ
place_length (ObjectPlace.Single object) = 1
place_length (ObjectPlace.Element object length index) = length

pub number_value : (first : ℕ → ℕ) (start : ℕ) (place : ObjectPlace) (x : ℕ) (m : Memory) (n : ℤ) (ls : List Location) →
    first x ≡ start → start + place_length place < 2 ^ 63 → object_number (λ z. first x) place m ≡ Gives n ls → value (number_expression start place) m ≡ Gives n ls
number_value first start (ObjectPlace.Single object) x m n ls at few e = ap (λ k. Gives (pos k) []) (sym at) ∙ e
number_value first start (ObjectPlace.Element object count index) x m n ls at few e =
    let p = parts (value index m) (λ i. and_then (checked_index count i) (λ j. Gives (pos (first x + j)) [])) n ls e in
    let q = parts (checked_index count p.value) (λ j. Gives (pos (first x + j)) []) n p.rest p.then_ in
    let g = gives_is (pos (first x + q.value)) n q.rest q.then_ in
    let i = index_is count p.value q.value q.first q.is in
    let all : ls ≡ p.first = p.reads ∙ ap (λ l. p.first ++ l) (q.reads ∙ ap (λ l. l ++ q.rest) i.none ∙ g.1) ∙ append-nil p.first in
    let below = i.below in
    let cast : wrapped long_int p.value ≡ pos q.value = ap (wrapped long_int) i.is ∙ small_wrapped q.value (omega (arith, below, few)) in
    let total : binary_value Add long_int (wrapped long_int p.value) (pos start) ≡ Gives (pos (q.value + start)) [] =
    ap (λ z. binary_value Add long_int z (pos start)) cast ∙ small_total q.value start (omega (arith, below, few)) in
    let number : pos (q.value + start) ≡ n = ap pos (let e : q.value + start ≡ first x + q.value = omega (arith, at) in e) ∙ g.0 in
    ap (λ z. and_then (and_then z (λ a. Gives (wrapped long_int a) [])) (λ a. and_then (Gives (pos start) []) (λ b. binary_value Add long_int a b))) p.is
    ∙ ap (λ z. after_reads (p.first ++ []) (after_reads [] z)) total
    ∙ ap (λ z. Gives z ((p.first ++ []) ++ [])) number
    ∙ ap (λ l. Gives n l) (append-nil (p.first ++ []) ∙ append-nil p.first ∙ sym all)

-- one expression, and two
pub one_value : (number : Evaluation ℤ) (e : Expression) (m : Memory) (vs : List ℤ) (ls : List Location) → ((n : ℤ) (reads : List Location) → number ≡ Gives n reads → value e m ≡ Gives n reads) →
    alone number ≡ Gives vs ls → values (e ∷ []) m ≡ Gives vs ls
one_value number e m vs ls same is =
    let p = parts number (λ n. Gives (n ∷ []) []) vs ls is in
    ap (λ z. and_then z (λ v. and_then (values [] m) (λ ws. Gives (v ∷ ws) []))) (same p.value p.first p.is)
    ∙ ap (λ z. after_reads p.first z) p.then_ ∙ ap (λ l. Gives vs l) (sym p.reads)

pub two_values : (number : Evaluation ℤ) (e f : Expression) (m : Memory) (vs : List ℤ) (ls : List Location) → ((n : ℤ) (reads : List Location) → number ≡ Gives n reads → value e m ≡ Gives n reads) →
    with_operand number f m ≡ Gives vs ls → values (e ∷ f ∷ []) m ≡ Gives vs ls
two_values number e f m vs ls same is =
    let p = parts number (λ n. and_then (value f m) (λ v. Gives (n ∷ v ∷ []) [])) vs ls is in
    let q = parts (value f m) (λ v. Gives (p.value ∷ v ∷ []) []) vs p.rest p.then_ in
    let g = gives_is (p.value ∷ q.value ∷ []) vs q.rest q.then_ in
    let rest : p.rest ≡ (q.first ++ []) ++ [] = q.reads ∙ ap (λ l. q.first ++ l) g.1 ∙ sym (append-nil (q.first ++ [])) in
    ap (λ z. and_then z (λ v. and_then (values (f ∷ []) m) (λ ws. Gives (v ∷ ws) []))) (same p.value p.first p.is)
    ∙ ap (λ z. after_reads p.first (and_then (and_then z (λ v. and_then (values [] m) (λ ws. Gives (v ∷ ws) []))) (λ ws. Gives (p.value ∷ ws) []))) q.is
    ∙ ap (λ l. Gives (p.value ∷ q.value ∷ []) (p.first ++ l)) (sym rest)
    ∙ ap (λ l. Gives (p.value ∷ q.value ∷ []) l) (sym p.reads)
    ∙ ap (λ ws. Gives ws ls) g.0
