-- Runs of operations: more operations change no earlier value.
use Rattle.std.proofs.Common.{◌≡◌, ℕ, suc, ◌+◌, ◌≤◌, List, [], ◌∷◌, ◌++◌, length, ℤ, Option, Some, None, refl, sym, ap, ◌∙◌, subst, arith, append-nil, append_assoc}
use Rattle.std.proofs.Common.{length-append}
use Rattle.std.specs.Prelude.{slice_get}
use Rattle.lists.proofs.Places.{get_last, get_left}
use Rattle.thread_semantics.specs.Memory.{Location, Memory, Evaluation, Gives, Fails, and_then, after_reads}
use Rattle.block_ir.specs.declared.operand.Source.{Source}
use Rattle.block_ir.specs.declared.operand.Source.TheVariants.{Constant, Variable, Value}
use Rattle.block_ir.specs.declared.operand.Operand.{Operand}
use Rattle.block_ir.specs.declared.block.Operation.{Operation}
use Rattle.block_ir.specs.declared.block.Operation.TheVariants.{Unary, Binary, ReadGlobal, WriteGlobal, ReadArray, WriteArray}
use Rattle.block_ir.specs.Run.{Read, Running, or_zero, converted, source_value, operand_value, operation_run, operations_run}
use Rattle.code_following.specs.Following.{reads_of}
use Rattle.code_blocks.specs.declared.homes.Home.{Home}
use Rattle.code_blocks.specs.declared.homes.Home.TheVariants as home
use Rattle.code_blocks.specs.Needs.{SourceIsBelow, IsBelow, AreBelow}
use Rattle.code_blocks.specs.Evaluating.{current_value, local_value, Holds, Reads}

pub same_function : (f g : ℕ → ℤ) → ((x : ℕ) → f x ≡ g x) → f ≡ g
same_function f g h = λ d. λ x. h x d

-- a part of an evaluation, and what follows it
pub record Parts {A B : Type 0} (p : Evaluation A) (k : A → Evaluation B) (v : B) (ls : List Location) : Type 0 where
  pub value : A
  pub first : List Location
  pub rest : List Location
  pub is : p ≡ Gives value first
  pub then_ : k value ≡ Gives v rest
  pub reads : ls ≡ first ++ rest

after_first : {B : Type 0} (before : List Location) (q : Evaluation B) (v : B) (ls : List Location) → after_reads before q ≡ Gives v ls →
    (rest : List Location) × (q ≡ Gives v rest) × (ls ≡ before ++ rest)
after_first before (Gives w rest) v ls e = (rest, ap (λ z. Gives z rest) (let g : w ≡ v = cc in g), let g : ls ≡ before ++ rest = cc in g)
after_first before (Fails cause) v ls e = cc

pub parts : {A B : Type 0} (p : Evaluation A) (k : A → Evaluation B) (v : B) (ls : List Location) → and_then p k ≡ Gives v ls → Parts p k v ls
parts (Gives x first) k v ls e =
    let q = after_first first (k x) v ls e in
    record { value = x; first = first; rest = q.0; is = refl; then_ = q.1; reads = q.2 }
parts (Fails cause) k v ls e = cc

-- the value of one more operation
pub last_value : (variables : ℕ → ℤ) (values : List ℤ) (w : ℤ) (n : ℕ) → length values ≡ n → or_zero (slice_get (values ++ w ∷ []) n) ≡ w
last_value variables values w n e = subst (λ k. or_zero (slice_get (values ++ w ∷ []) k) ≡ w) e (ap or_zero (get_last values w))

module _ (variables : ℕ → ℤ) where
  pub run_append : (os ps : List Operation) (r : Running) → operations_run variables (os ++ ps) r ≡ operations_run variables ps (operations_run variables os r)
  run_append [] ps r = refl
  run_append (o ∷ os) ps r = run_append os ps (operation_run variables o r)

  one_length : (o : Operation) (r : Running) → length (operation_run variables o r).values ≡ suc (length r.values)
  one_length (Unary operator ty a) r = length-append r.values _ ∙ (omega arith)
  one_length (Binary operator ty a b) r = length-append r.values _ ∙ (omega arith)
  one_length (ReadGlobal x n i) r = length-append r.values _ ∙ (omega arith)
  one_length (WriteGlobal x n i a) r = length-append r.values _ ∙ (omega arith)
  one_length (ReadArray x n i) r = length-append r.values _ ∙ (omega arith)
  one_length (WriteArray x n i a) r = length-append r.values _ ∙ (omega arith)

  pub run_length : (os : List Operation) (r : Running) → length (operations_run variables os r).values ≡ length r.values + length os
  run_length [] r = omega arith
  run_length (o ∷ os) r =
      let rest = run_length os (operation_run variables o r) in
      let one = one_length o r in
      rest ∙ (omega arith)

  source_stays : (values more : List ℤ) (s : Source) → SourceIsBelow (length values) s → source_value variables (values ++ more) s ≡ source_value variables values s
  source_stays values more (Constant ty v) h = refl
  source_stays values more (Variable x ty) h = refl
  source_stays values more (Value k ty) h = ap or_zero (get_left values more k h)

  pub operand_stays : (values more : List ℤ) (o : Operand) → IsBelow (length values) o → operand_value variables (values ++ more) o ≡ operand_value variables values o
  operand_stays values more o h = ap (converted o.conversions) (source_stays values more o.source h)

  pub operand_kept : (r s : Running) (ls : List Location) (o : Operand) → Reads r s ls → IsBelow (length r.values) o → operand_value variables s.values o ≡ operand_value variables r.values o
  operand_kept r s ls o h b = ap (λ vs. operand_value variables vs o) h.values ∙ operand_stays r.values h.more o b

  module _ (homes : List Home) (current : List (Option Operand)) (m : Memory) (r s : Running) (ls : List Location) (h : Reads r s ls) (below : AreBelow (length r.values) current) where
    pub current_kept : (n : ℕ) (o : Option (Option Operand)) → slice_get current n ≡ o → current_value o variables s.values n ≡ current_value o variables r.values n
    current_kept n (Some (Some o)) e = operand_kept r s ls o h (below n o e)
    current_kept n (Some None) e = refl
    current_kept n None e = refl

    local_kept : (x j : ℕ) (o : Option Home) → local_value o current variables s x j ≡ local_value o current variables r x j
    local_kept x j (Some (home.Array a)) = ap (λ c. c a j) h.arrays
    local_kept x j (Some (home.Variable n)) = current_kept n (slice_get current n) refl
    local_kept x j None = current_kept x (slice_get current x) refl

    pub holds_on : Holds homes current variables m r → Holds homes current variables m s
    holds_on k = record {
      locals = λ x j v e. local_kept x j (slice_get homes x) ∙ k.locals x j v e;
      globals = λ x j v e. ap (λ c. c x j) h.globals ∙ k.globals x j v e;
    }

pub below_more : (n k : ℕ) (o : Operand) → n ≤ k → IsBelow n o → IsBelow k o
below_more n k o le h = by o.source h
  where
    by : (s : Source) → SourceIsBelow n s → SourceIsBelow k s
    by (Constant ty v) h = tt
    by (Variable x ty) h = tt
    by (Value j ty) h = omega arith

pub are_below_more : (n k : ℕ) (current : List (Option Operand)) → n ≤ k → AreBelow n current → AreBelow k current
are_below_more n k current le h = λ x o e. below_more n k o le (h x o e)

reads_append : (us bs : List Location) → reads_of (us ++ bs) ≡ reads_of us ++ reads_of bs
reads_append [] bs = refl
reads_append (a ∷ us) bs = ap (λ l. Read a.variable a.index ∷ l) (reads_append us bs)

pub reads_none : (r : Running) (ls : List Location) → ls ≡ [] → Reads r r ls
reads_none r ls e = record {
  more = [];
  values = sym (append-nil r.values);
  arrays = refl;
  globals = refl;
  accesses = sym (append-nil r.accesses) ∙ ap (λ l. r.accesses ++ reads_of l) (sym e);
}

pub reads_both : (r s t : Running) (us bs ls : List Location) → Reads r s us → Reads s t bs → ls ≡ us ++ bs → Reads r t ls
reads_both r s t us bs ls h k e = record {
  more = h.more ++ k.more;
  values = k.values ∙ ap (λ l. l ++ k.more) h.values ∙ append_assoc r.values h.more k.more;
  arrays = k.arrays ∙ h.arrays;
  globals = k.globals ∙ h.globals;
  accesses =
      k.accesses ∙ ap (λ l. l ++ reads_of bs) h.accesses ∙ append_assoc r.accesses (reads_of us) (reads_of bs)
      ∙ ap (λ l. r.accesses ++ l) (sym (reads_append us bs) ∙ ap reads_of (sym e));
}
