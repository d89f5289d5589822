-- Two typed blocks in one are typed.
use Rattle.std.proofs.Common.{◌≡◌, ℕ, suc, ◌+◌, ◌^◌, ◌<◌, ◌≤◌, List, [], ◌∷◌, ◌++◌, length, map, Option}
use Rattle.std.proofs.Common.{Some, None, refl, sym, ap, ◌∙◌, subst, ⊎_elim, inl, inr, arith, append-nil, append_assoc, length-append}
use Rattle.std.specs.Prelude.{◌⊎◌, nat_eq, if◌then◌else◌, Bool, slice_get}
use Rattle.std.proofs.lemmas.Bool.Decides.{eqb_tells}
use Rattle.std.proofs.lemmas.Option.{slice_get_within}
use Rattle.lists.proofs.Places.{get_either, get_right, get_mapped, get_unmapped}
use Rattle.hls_ints.specs.Types.{IntegerType}
use Rattle.block_ir.specs.declared.operand.Source.{Source}
use Rattle.block_ir.specs.declared.operand.Source.TheVariants.{Constant, Variable, Value}
use Rattle.block_ir.specs.declared.operand.Operand.{Operand}
use Rattle.block_ir.specs.declared.block.Operation.{Operation}
use Rattle.block_ir.specs.declared.block.Operation.TheVariants.{Unary, Binary, ReadGlobal, WriteGlobal, ReadArray, WriteArray}
use Rattle.block_ir.specs.declared.block.Final.{Final}
use Rattle.block_ir.specs.declared.block.Next.{Next}
use Rattle.block_ir.specs.declared.block.Next.TheVariants.{Jump, Branch}
use Rattle.block_ir.specs.declared.block.Block.{Block}
use Rattle.code_blocks.specs.Needs.{IsBelow, SourceIsBelow}
use Rattle.code_blocks.specs.Evaluating.{current_operand}
use Rattle.code_blocks.proofs.TypedExpressions.{source_more}
use Rattle.code_following.specs.Typed.{Types, source_type, last_type, operand_type, value_type, IsTypedSource}
use Rattle.code_following.specs.Typed.{IsTypedOperand, IsTypedOperation, AreTyped, IsTypedFinal, IsTypedNext, IsTypedBlock}
use Rattle.code_merge.specs.Joined.{later, moved_source, moved, moved_operation, moved_final, moved_next, joined, left_in, there, AreLeft, AreWithin}
use Rattle.code_merge.proofs.Values.{LeftBelow}

-- what is left in a variable is a final of it
pub left_from : (fs : List Final) (x : ℕ) (before : Option Operand) (o : Operand) → left_in fs x before ≡ Some o →
    ((k : ℕ) × (f : Final) × (slice_get fs k ≡ Some f) × (f.variable ≡ x) × (f.value ≡ o)) ⊎ (before ≡ Some o)
left_from [] x before o e = inr e
left_from (f ∷ fs) x before o e =
    ⊎_elim
    (λ h. inl (suc h.0, h.1, h.2, h.3, h.4))
    (λ h. ⊎_elim
    (λ t. inl (0, f, refl, sym t.1, let g : Some f.value ≡ Some o = sym (ap (λ (b : Bool). let z : Option Operand = if b then Some f.value else before in z) t.0) ∙ h in cc))
    (λ t. inr (sym (ap (λ (b : Bool). let z : Option Operand = if b then Some f.value else before in z) t.0) ∙ h))
    (eqb_tells x f.variable))
    (left_from fs x (if nat_eq x f.variable then Some f.value else before) o e)

last_both : (ty : IntegerType) (cs ds : List IntegerType) → last_type ty (cs ++ ds) ≡ last_type (last_type ty cs) ds
last_both ty [] ds = refl
last_both ty (c ∷ cs) ds = last_both c cs ds

module _ (T : Types) where
  typed_below : (before : List Operation) (o : Operand) → IsTypedOperand T before o → IsBelow (length before) o
  typed_below before o h = by o.source h
    where
      by : (s : Source) → IsTypedSource T before s → SourceIsBelow (length before) s
      by (Constant ty v) h = tt
      by (Variable x ty) h = tt
      by (Value k ty) h = slice_get_within before k h.0 h.1

  pub finals_below : (before : List Operation) (fs : List Final) → ((k : ℕ) (f : Final) → slice_get fs k ≡ Some f → IsTypedFinal T before f) → LeftBelow (length before) fs
  finals_below before fs typed x o e =
      ⊎_elim (λ h. subst (IsBelow (length before)) h.4 (typed_below before h.1.value (typed h.0 h.1 h.2).0)) (λ h. absurd cc) (left_from fs x None o e)

  pub finals_within : (before : List Operation) (fs : List Final) → ((k : ℕ) (f : Final) → slice_get fs k ≡ Some f → IsTypedFinal T before f) → AreWithin (length T.variables) fs
  finals_within before fs typed k f e = slice_get_within T.variables f.variable (operand_type f.value) (typed k f e).1

  append_typed : (before os ps : List Operation) → AreTyped T before os → AreTyped T (before ++ os) ps → AreTyped T before (os ++ ps)
  append_typed before [] ps h k = subst (λ b. AreTyped T b ps) (append-nil before) k
  append_typed before (o ∷ os) ps h k = (h.0, append_typed (before ++ o ∷ []) os ps h.1 (subst (λ b. AreTyped T b ps) (sym (append_assoc before (o ∷ []) os)) k))

  -- behind typed operations that leave these operands in variables
  module _ (first : List Operation) (fs : List Final) (current : List (Option Operand)) (left : AreLeft current fs)
      (typed : (k : ℕ) (f : Final) → slice_get fs k ≡ Some f → IsTypedFinal T first f) where
    abbrev n : ℕ
    n = length first

    abbrev moved_all : List Operation → List Operation
    moved_all os = map (moved_operation n current) os

    value_same : (o : Operation) → value_type T (moved_operation n current o) ≡ value_type T o
    value_same (Unary operator ty a) = refl
    value_same (Binary operator ty a b) = refl
    value_same (ReadGlobal x size i) = refl
    value_same (WriteGlobal x size i a) = refl
    value_same (ReadArray x size i) = refl
    value_same (WriteArray x size i a) = refl

    length_moved : (os : List Operation) → length (moved_all os) ≡ length os
    length_moved [] = refl
    length_moved (o ∷ os) = ap suc (length_moved os)

    pub left_typed : (x : ℕ) (o : Operand) → left_in fs x None ≡ Some o → IsTypedOperand T first o × (slice_get T.variables x ≡ Some (operand_type o))
    left_typed x o e =
        ⊎_elim
        (λ h. let final = typed h.0 h.1 h.2 in
        (subst (IsTypedOperand T first) h.4 final.0, ap (slice_get T.variables) (sym h.3) ∙ final.1 ∙ ap (λ z. Some (operand_type z)) h.4))
        (λ h. absurd cc) (left_from fs x None o e)

    source_typed : (before : List Operation) (s : Source) → n + length before < 2 ^ 32 → IsTypedSource T before s →
        IsTypedOperand T (first ++ moved_all before) (moved_source n current s) × (operand_type (moved_source n current s) ≡ source_type s)
    source_typed before (Constant ty v) few h = (h, refl)
    source_typed before (Value k ty) few h =
        let within = slice_get_within before k h.0 h.1 in
        let same : later n k ≡ length first + k = omega (arith, within, few) in (
          (
            moved_operation n current h.0,
            ap (slice_get (first ++ moved_all before)) same ∙ get_right first (moved_all before) k ∙ get_mapped (moved_operation n current) before k h.0 h.1,
            value_same h.0 ∙ h.2,
          ),
          refl,
        )
    source_typed before (Variable x ty) few h = by (slice_get current x) refl (left_in fs x None) refl
      where
        found : (o : Operand) → left_in fs x None ≡ Some o → IsTypedOperand T (first ++ moved_all before) o × (operand_type o ≡ ty)
        found o e =
            let t = left_typed x o e in
            (source_more T first (moved_all before) o.source t.0, let g : Some (operand_type o) ≡ Some ty = sym t.1 ∙ h in cc)

        by : (c : Option (Option Operand)) → slice_get current x ≡ c → (o : Option Operand) → left_in fs x None ≡ o →
            IsTypedOperand T (first ++ moved_all before) (current_operand c x ty) × (operand_type (current_operand c x ty) ≡ ty)
        by (Some (Some a)) e o f = found a (sym (left x) ∙ ap there e)
        by (Some None) e o f = (h, refl)
        by None e o f = (h, refl)

    operand_typed : (before : List Operation) (a : Operand) → n + length before < 2 ^ 32 → IsTypedOperand T before a →
        IsTypedOperand T (first ++ moved_all before) (moved n current a)
    operand_typed before a few h = (source_typed before a.source few h).0

    type_same : (before : List Operation) (a : Operand) → n + length before < 2 ^ 32 → IsTypedOperand T before a → operand_type (moved n current a) ≡ operand_type a
    type_same before a few h =
        last_both (source_type (moved_source n current a.source).source) (moved_source n current a.source).conversions a.conversions
        ∙ ap (λ ty. last_type ty a.conversions) (source_typed before a.source few h).1

    operation_typed : (before : List Operation) (o : Operation) → n + length before < 2 ^ 32 → IsTypedOperation T before o →
        IsTypedOperation T (first ++ moved_all before) (moved_operation n current o)
    operation_typed before (Unary operator ty a) few h = operand_typed before a few h
    operation_typed before (Binary operator ty a b) few h = (operand_typed before a few h.0, operand_typed before b few h.1)
    operation_typed before (ReadGlobal x size i) few h = (operand_typed before i few h.0, h.1, h.2)
    operation_typed before (WriteGlobal x size i a) few h =
        (operand_typed before i few h.0, operand_typed before a few h.1, h.2 ∙ ap Some (sym (type_same before a few h.1)), h.3)
    operation_typed before (ReadArray x size i) few h = (operand_typed before i few h.0, h.1)
    operation_typed before (WriteArray x size i a) few h =
        (operand_typed before i few h.0, operand_typed before a few h.1, h.2 ∙ ap (λ ty. Some (record { ty = ty; length = size })) (sym (type_same before a few h.1)))

    map_last : (before : List Operation) (o : Operation) → moved_all (before ++ o ∷ []) ≡ moved_all before ++ moved_operation n current o ∷ []
    map_last [] o = refl
    map_last (p ∷ ps) o = ap (λ l. moved_operation n current p ∷ l) (map_last ps o)

    all_typed : (before os : List Operation) → n + (length before + length os) < 2 ^ 32 → AreTyped T before os → AreTyped T (first ++ moved_all before) (moved_all os)
    all_typed before [] few h = tt
    all_typed before (o ∷ os) few h = (
      operation_typed before o (omega (arith, few)) h.0,
      subst (λ b. AreTyped T b (moved_all os)) (ap (λ l. first ++ l) (map_last before o) ∙ sym (append_assoc first (moved_all before) (moved_operation n current o ∷ [])))
          (all_typed (before ++ o ∷ []) os (let l = length-append before (o ∷ []) in omega (arith, l, few)) h.1),
    )

    pub behind_typed : (os : List Operation) → n + length os < 2 ^ 32 → AreTyped T [] first → AreTyped T [] os → AreTyped T [] (first ++ moved_all os)
    behind_typed os few h k =
        append_typed [] first (moved_all os) h (subst (λ b. AreTyped T b (moved_all os)) (append-nil first) (all_typed [] os (omega (arith, few)) k))

    pub finals_typed : (os : List Operation) (gs : List Final) → n + length os < 2 ^ 32 → ((k : ℕ) (f : Final) → slice_get gs k ≡ Some f → IsTypedFinal T os f) →
        (k : ℕ) (f : Final) → slice_get (fs ++ map (moved_final n current) gs) k ≡ Some f → IsTypedFinal T (first ++ moved_all os) f
    finals_typed os gs few finals k f e =
        ⊎_elim
        (λ h. let t = typed k f h in (source_more T first (moved_all os) f.value.source t.0, t.1))
        (λ h. let g = get_unmapped (moved_final n current) gs h.0 f h.1 in
        let t = finals h.0 g.0 g.1 in
        subst (IsTypedFinal T (first ++ moved_all os)) g.2
        (operand_typed os g.0.value few t.0, t.1 ∙ ap Some (sym (type_same os g.0.value few t.0))))
        (get_either fs (map (moved_final n current) gs) k f e)

    pub next_typed : (count : ℕ) (os : List Operation) (nx : Next) → n + length os < 2 ^ 32 → IsTypedNext T count os nx →
        IsTypedNext T count (first ++ moved_all os) (moved_next n current nx)
    next_typed count os (Jump l) few h = h
    next_typed count os (Branch test nonzero zero_) few h = (operand_typed os test few h.0, h.1, h.2)

    pub moved_length : (os : List Operation) → length (first ++ moved_all os) ≡ length first + length os
    moved_length os = length-append first (moved_all os) ∙ ap (λ k. length first + k) (length_moved os)

  pub joined_typed : (count most : ℕ) (b d : Block) (current : List (Option Operand)) → AreLeft current b.finals → length b.operations + length d.operations < 2 ^ 32 →
      length b.operations + length d.operations ≤ most → IsTypedBlock T count most b → IsTypedBlock T count most d → IsTypedBlock T count most (joined current b d)
  joined_typed count most b d current left few size p q =
      let long = moved_length b.operations b.finals current left p.finals d.operations in
      record {
        operations = behind_typed b.operations b.finals current left p.finals d.operations few p.operations q.operations;
        few = omega (arith, long, few);
        size = omega (arith, long, size);
        finals = finals_typed b.operations b.finals current left p.finals d.operations d.finals few q.finals;
        next = next_typed b.operations b.finals current left p.finals count d.operations d.next few q.next;
      }
