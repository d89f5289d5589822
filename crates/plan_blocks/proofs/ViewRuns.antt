-- The runs are alike, operation by operation.
use Rattle.std.specs.Prelude.{nat_eq, ℤ, pos, negsuc, Bool, if◌then◌else◌, ◌&&◌, slice_get, slice_index_or}
use Rattle.std.proofs.Common.{◌≡◌, ℕ, zero, suc, ◌+◌, List, [], ◌∷◌, ◌++◌, length, refl, sym, ap, ◌∙◌, subst, arith, length-append, append-nil}
use Rattle.std.proofs.Math.Dec.{eqb-suc-suc}
use Rattle.block_ir.specs.Operators.{is_zero as code_is_zero}
use Rattle.block_ir.specs.Types.{IntegerType, wrapped}
use Rattle.block_ir.specs.BinaryOperator.{BinaryOperator}
use Rattle.block_ir.specs.BinaryOperator.TheVariants.{Multiply as Times, Divide as Over, Remainder}
use Rattle.planned_block.specs.Memory.{Location, Memory, Access, Read, Write, memory_after}
use Rattle.block_ir.specs.Arithmetic.{unary_total, binary_total}
use Rattle.block_ir.specs.Run.{Cells, or_zero, place_read, place_written, global_read, global_written, converted, source_value}
use Rattle.block_ir.specs.Run.{operand_value as code_value, operation_run, operations_run, started as code_started, with_cell, index_of as code_index}
use Rattle.block_ir.specs.Run.{Running as CodeRunning, block_run as code_run, finished as code_finished, leads_to as code_leads_to, Access as CodeAccess, Read as CodeRead, Write as CodeWrite}
use Rattle.block_ir.specs.declared.operand.Source.{Source}
use Rattle.block_ir.specs.declared.operand.Source.TheVariants.{Constant as FromConstant, Variable as FromVariable, Value as FromValue}
use Rattle.block_ir.specs.declared.operand.Operand.{Operand as CodeOperand}
use Rattle.block_ir.specs.declared.block.Operation.{Operation as CodeOperation}
use Rattle.block_ir.specs.declared.block.Operation.TheVariants.{Unary, Binary, ReadGlobal, WriteGlobal, ReadArray, WriteArray}
use Rattle.block_ir.specs.declared.block.Final.{Final as CodeFinal}
use Rattle.block_ir.specs.declared.block.Next.{Next as CodeNext}
use Rattle.block_ir.specs.declared.block.Next.TheVariants.{Jump as CodeJump, Branch as CodeBranch}
use Rattle.block_ir.specs.declared.block.Block.{Block as CodeBlock}
use Rattle.planned_block.specs.Block.{Operand, Through, Operation, Block, no_operation, operation_at, operand_value, finished, leads_to, is_zero, index_of, element}
use Rattle.planned_block.specs.Run.{bank_access, array_access, value_of, Running, started, run_operation, run_from}
use Rattle.planned_block.proofs.Bits.{other_is}
use Rattle.plan_blocks.specs.View.{source_view, converted_to, operand_view, binary_kind, operation_view, operations_view, finals_view, next_view, planned_view, memory_of, access_view, accesses_view}
use Rattle.plan_blocks.specs.Alike.{RunsAlike}

-- a value more
get_next : (xs : List ℤ) (v : ℤ) (k : ℕ) → or_zero (slice_get (xs ++ v ∷ []) k) ≡ (if nat_eq k (length xs) then v else or_zero (slice_get xs k))
get_next [] v zero = refl
get_next [] v (suc k) = sym (ap (λ (c : Bool). if c then v else pos 0) (other_is (suc k) 0 (λ (e : suc k ≡ 0). absurd (omega arith))))
get_next (x ∷ xs) v zero = sym (ap (λ (c : Bool). if c then v else x) (other_is 0 (suc (length xs)) (λ (e : 0 ≡ suc (length xs)). absurd (omega arith))))
get_next (x ∷ xs) v (suc k) = get_next xs v k ∙ ap (λ (c : Bool). if c then v else or_zero (slice_get xs k)) (sym (eqb-suc-suc k (length xs)))

pub accesses_view-append : (es fs : List CodeAccess) → accesses_view (es ++ fs) ≡ accesses_view es ++ accesses_view fs
accesses_view-append [] fs = refl
accesses_view-append (e ∷ es) fs = ap (λ l. access_view e ∷ l) (accesses_view-append es fs)

converted_value : (variables values : ℕ → ℤ) (types : List IntegerType) (o : Operand) →
    operand_value variables values (converted_to types o) ≡ converted types (operand_value variables values o)
converted_value variables values [] o = refl
converted_value variables values (ty ∷ types) o = converted_value variables values types (Through (wrapped ty) o)

index_same : (v : ℤ) → index_of v ≡ code_index v
index_same (pos j) = refl
index_same (negsuc j) = refl

is_zero_same : (v : ℤ) → is_zero v ≡ code_is_zero v
is_zero_same (pos n) = refl
is_zero_same (negsuc n) = refl

-- elements are the same places
place_alike : (x : ℕ) (v w : ℤ) → v ≡ w → element x v ≡ record { object = x; index = code_index w }
place_alike x v w e = ap (λ j. record { object = x; index = j }) (ap index_of e ∙ index_same w)

write_alike : (cells : Cells) (m : Memory ℤ) → ((l : Location) → m l ≡ memory_of cells l) → (x : ℕ) (i j v w : ℤ) → i ≡ j → v ≡ w → (l : Location) →
    memory_after (Write (element x i) v ∷ []) m l ≡ memory_of (with_cell x (code_index j) w cells) l
write_alike cells m each x i j v w e f l =
    ap (λ p. memory_after (Write p v ∷ []) m l) (place_alike x i j e)
    ∙ ap (λ z. if nat_eq l.object x && nat_eq l.index (code_index j) then z else m l) f
    ∙ ap (λ z. if nat_eq l.object x && nat_eq l.index (code_index j) then w else z) (each l)

-- what the kind of a binary operator gives
binary_value : (operator : BinaryOperator) (f : ℤ → ℤ → ℤ) (arrays m : Memory ℤ) (l r : ℤ) → value_of (binary_kind operator f) arrays m l r ≡ f l r
binary_value Times f arrays m l r = refl
binary_value Over f arrays m l r = refl
binary_value Remainder f arrays m l r = refl
binary_value _ f arrays m l r = refl

binary_bank : (operator : BinaryOperator) (f : ℤ → ℤ → ℤ) (l r : ℤ) → bank_access (binary_kind operator f) l r ≡ []
binary_bank Times f l r = refl
binary_bank Over f l r = refl
binary_bank Remainder f l r = refl
binary_bank _ f l r = refl

binary_array : (operator : BinaryOperator) (f : ℤ → ℤ → ℤ) (l r : ℤ) → array_access (binary_kind operator f) l r ≡ []
binary_array Times f l r = refl
binary_array Over f l r = refl
binary_array Remainder f l r = refl
binary_array _ f l r = refl

module _ (variables : ℕ → ℤ) where
  -- so far, after n operations
  record Alike (n : ℕ) (r : CodeRunning) (s : Running) : Type 0 where
    count : length r.values ≡ n
    values : (k : ℕ) → s.values k ≡ or_zero (slice_get r.values k)
    arrays : (l : Location) → s.arrays l ≡ memory_of r.arrays l
    memory : (l : Location) → s.memory l ≡ memory_of r.globals l
    accesses : s.accesses ≡ accesses_view r.accesses

  source_alike : (values : ℕ → ℤ) (list : List ℤ) → ((k : ℕ) → values k ≡ or_zero (slice_get list k)) → (o : Source) →
      operand_value variables values (source_view o) ≡ source_value variables list o
  source_alike values list each (FromConstant ty v) = refl
  source_alike values list each (FromVariable x ty) = refl
  source_alike values list each (FromValue k ty) = each k

  operand_alike : (values : ℕ → ℤ) (list : List ℤ) → ((k : ℕ) → values k ≡ or_zero (slice_get list k)) → (o : CodeOperand) →
      operand_value variables values (operand_view o) ≡ code_value variables list o
  operand_alike values list each o =
      converted_value variables values o.conversions (source_view o.source) ∙ ap (converted o.conversions) (source_alike values list each o.source)

  values_next : (n : ℕ) (r : CodeRunning) (s : Running) → Alike n r s → (w v : ℤ) → w ≡ v → (k : ℕ) → (if nat_eq k n then w else s.values k) ≡ or_zero (slice_get (r.values ++ v ∷ []) k)
  values_next n r s a w v e k =
      ap (λ z. if nat_eq k n then z else s.values k) e ∙ ap (λ z. if nat_eq k n then v else z) (a.values k)
      ∙ ap (λ m. if nat_eq k m then v else or_zero (slice_get r.values k)) (sym a.count) ∙ sym (get_next r.values v k)

  count_next : (n : ℕ) (r : CodeRunning) (s : Running) → Alike n r s → (v : ℤ) → length (r.values ++ v ∷ []) ≡ suc n
  count_next n r s a v = let sum = length-append r.values (v ∷ []) in let c = a.count in omega arith

  -- an access more
  accesses_next : (n : ℕ) (r : CodeRunning) (s : Running) → Alike n r s → (e : Access ℤ) (f : CodeAccess) → e ≡ access_view f → s.accesses ++ e ∷ [] ≡ accesses_view (r.accesses ++ f ∷ [])
  accesses_next n r s a e f same =
      ap (λ l. l ++ e ∷ []) a.accesses ∙ ap (λ z. accesses_view r.accesses ++ z ∷ []) same ∙ sym (accesses_view-append r.accesses (f ∷ []))

  -- an operation that makes no access and writes nothing
  pure_step : (n : ℕ) (r : CodeRunning) (s : Running) → Alike n r s → (o : Operation) (v : ℤ) →
      value_of o.kind s.arrays s.memory (operand_value variables s.values o.left) (operand_value variables s.values o.right) ≡ v →
      bank_access o.kind (operand_value variables s.values o.left) (operand_value variables s.values o.right) ≡ [] →
      array_access o.kind (operand_value variables s.values o.left) (operand_value variables s.values o.right) ≡ [] →
      Alike (suc n) (record { values = r.values ++ v ∷ []; arrays = r.arrays; globals = r.globals; accesses = r.accesses }) (run_operation variables n o s)
  pure_step n r s a o v value bank array = record {
    count = count_next n r s a v;
    values = values_next n r s a (value_of o.kind s.arrays s.memory (operand_value variables s.values o.left) (operand_value variables s.values o.right)) v value;
    arrays = λ l. ap (λ es. memory_after es s.arrays l) array ∙ a.arrays l;
    memory = λ l. ap (λ es. memory_after es s.memory l) bank ∙ a.memory l;
    accesses = ap (λ es. s.accesses ++ es) bank ∙ append-nil s.accesses ∙ a.accesses;
  }

  step : (n : ℕ) (r : CodeRunning) (s : Running) → Alike n r s → (o : CodeOperation) → Alike (suc n) (operation_run variables o r) (run_operation variables n (operation_view o) s)
  step n r s a (Unary operator ty o) =
      pure_step n r s a (operation_view (Unary operator ty o)) (unary_total operator ty (code_value variables r.values o))
      (ap (unary_total operator ty) (operand_alike s.values r.values a.values o)) refl refl
  step n r s a (Binary operator ty o p) =
      pure_step n r s a (operation_view (Binary operator ty o p)) (binary_total operator ty (code_value variables r.values o) (code_value variables r.values p))
      (binary_value operator (binary_total operator ty) s.arrays s.memory _ _
      ∙ ap (λ y. binary_total operator ty y (operand_value variables s.values (operand_view p))) (operand_alike s.values r.values a.values o)
      ∙ ap (λ y. binary_total operator ty (code_value variables r.values o) y) (operand_alike s.values r.values a.values p))
      (binary_bank operator (binary_total operator ty) _ _) (binary_array operator (binary_total operator ty) _ _)
  step n r s a (ReadGlobal x size i) =
      let e = operand_alike s.values r.values a.values i in
      let j = global_read size (code_value variables r.values i) in
      let place : element x (pos (global_read size (operand_value variables s.values (operand_view i)))) ≡ record { object = x; index = j } =
      ap (λ z. element x (pos (global_read size z))) e in
      record {
        count = count_next n r s a (r.globals x j);
        values = values_next n r s a (s.memory (element x (pos (global_read size (operand_value variables s.values (operand_view i)))))) (r.globals x j)
            (ap s.memory place ∙ a.memory (record { object = x; index = j }));
        arrays = a.arrays;
        memory = a.memory;
        accesses = accesses_next n r s a (Read (element x (pos (global_read size (operand_value variables s.values (operand_view i)))))) (CodeRead x j) (ap Read place);
      }
  step n r s a (WriteGlobal x size i o) =
      let e = operand_alike s.values r.values a.values i in
      let f = operand_alike s.values r.values a.values o in
      let j = global_written size (code_value variables r.values i) in
      let place : element x (pos (global_written size (operand_value variables s.values (operand_view i)))) ≡ record { object = x; index = j } =
      ap (λ z. element x (pos (global_written size z))) e in
      record {
        count = count_next n r s a (pos 0);
        values = values_next n r s a (pos 0) (pos 0) refl;
        arrays = a.arrays;
        memory = write_alike r.globals s.memory a.memory x (pos (global_written size (operand_value variables s.values (operand_view i))))
            (pos (global_written size (code_value variables r.values i))) (operand_value variables s.values (operand_view o)) (code_value variables r.values o)
            (ap (λ z. pos (global_written size z)) e) f;
        accesses = accesses_next n r s a (Write (element x (pos (global_written size (operand_value variables s.values (operand_view i))))) (operand_value variables s.values (operand_view o)))
            (CodeWrite x j (code_value variables r.values o))
            (ap (λ p. Write p (operand_value variables s.values (operand_view o))) place ∙ ap (λ v. Write (record { object = x; index = j }) v) f);
      }
  step n r s a (ReadArray x size i) =
      let e = operand_alike s.values r.values a.values i in
      let j = place_read size (code_value variables r.values i) in
      let place : element x (pos (place_read size (operand_value variables s.values (operand_view i)))) ≡ record { object = x; index = j } =
      ap (λ z. element x (pos (place_read size z))) e in
      record {
        count = count_next n r s a (r.arrays x j);
        values = values_next n r s a (s.arrays (element x (pos (place_read size (operand_value variables s.values (operand_view i)))))) (r.arrays x j)
            (ap s.arrays place ∙ a.arrays (record { object = x; index = j }));
        arrays = a.arrays;
        memory = a.memory;
        accesses = append-nil s.accesses ∙ a.accesses;
      }
  step n r s a (WriteArray x size i o) =
      let e = operand_alike s.values r.values a.values i in
      let f = operand_alike s.values r.values a.values o in
      record {
        count = count_next n r s a (pos 0);
        values = values_next n r s a (pos 0) (pos 0) refl;
        arrays = write_alike r.arrays s.arrays a.arrays x (pos (place_written size (operand_value variables s.values (operand_view i))))
            (pos (place_written size (code_value variables r.values i))) (operand_value variables s.values (operand_view o)) (code_value variables r.values o)
            (ap (λ z. pos (place_written size z)) e) f;
        memory = a.memory;
        accesses = append-nil s.accesses ∙ a.accesses;
      }

  -- operations that stand in a block from n on
  all_steps : (os : List CodeOperation) (b : Block) (n : ℕ) (r : CodeRunning) (s : Running) → ((k : ℕ) → slice_index_or (operations_view os) k no_operation ≡ operation_at b (n + k)) →
      Alike n r s → (m : ℕ) × Alike m (operations_run variables os r) (run_from b variables (length os) n s)
  all_steps [] b n r s each a = (n, a)
  all_steps (o ∷ os) b n r s each a =
      let here : operation_view o ≡ operation_at b n = each 0 ∙ ap (operation_at b) (let e : n + 0 ≡ n = omega arith in e) in
      all_steps os b (suc n) (operation_run variables o r) (run_operation variables n (operation_at b n) s)
      (λ k. each (suc k) ∙ ap (operation_at b) (let e : n + suc k ≡ suc n + k = omega arith in e))
      (subst (λ z. Alike (suc n) (operation_run variables o r) (run_operation variables n z s)) here (step n r s a o))

  finished_alike : (values : ℕ → ℤ) (list : List ℤ) → ((k : ℕ) → values k ≡ or_zero (slice_get list k)) → (fs : List CodeFinal) (u v : ℕ → ℤ) → ((x : ℕ) → u x ≡ v x) →
      (x : ℕ) → finished (operand_value variables values) (finals_view fs) u x ≡ code_finished variables list fs v x
  finished_alike values list each [] u v same x = same x
  finished_alike values list each (f ∷ fs) u v same x =
      finished_alike values list each fs (λ y. if nat_eq y f.variable then operand_value variables values (operand_view f.value) else u y)
      (λ y. if nat_eq y f.variable then code_value variables list f.value else v y)
      (λ y. ap (λ z. if nat_eq y f.variable then z else u y) (operand_alike values list each f.value) ∙ ap (λ z. if nat_eq y f.variable then code_value variables list f.value else z) (same y))
      x

  leads_alike : (values : ℕ → ℤ) (list : List ℤ) → ((k : ℕ) → values k ≡ or_zero (slice_get list k)) → (next : CodeNext) →
      leads_to (operand_value variables values) (next_view next) ≡ code_leads_to variables list next
  leads_alike values list each (CodeJump l) = refl
  leads_alike values list each (CodeBranch test l k) =
      ap (λ (c : Bool). if c then k else l) (ap is_zero (operand_alike values list each test) ∙ is_zero_same (code_value variables list test))

pub size-view : (os : List CodeOperation) → length (operations_view os) ≡ length os
size-view [] = refl
size-view (o ∷ os) = ap suc (size-view os)

-- THE VIEW
pub runs_alike : (b : CodeBlock) → RunsAlike b
unfolding code_run
runs_alike b variables arrays globals =
    let v = planned_view b in
    let first : Alike variables 0 (code_started arrays globals) (started (memory_of arrays) (memory_of globals)) =
    record { count = refl; values = λ k. refl; arrays = λ l. refl; memory = λ l. refl; accesses = refl } in
    let all = all_steps variables b.operations v 0 (code_started arrays globals) (started (memory_of arrays) (memory_of globals))
    (λ k. ap (operation_at v) (let e : k ≡ 0 + k = omega arith in e)) first in
    let a = subst (λ n. Alike variables all.0 (operations_run variables b.operations (code_started arrays globals)) (run_from v variables n 0 (started (memory_of arrays) (memory_of globals))))
    (sym (size-view b.operations)) all.1 in
    record {
      values = a.values;
      arrays = a.arrays;
      memory = a.memory;
      accesses = a.accesses;
      variables_after_it = finished_alike variables _ _ a.values b.finals variables variables (λ x. refl);
      stage = leads_alike variables _ _ a.values b.next;
    }
