-- What operations do behind a block.
use Rattle.std.proofs.Common.{◌≡◌, ℕ, ◌+◌, ◌^◌, ◌<◌, ◌≤◌, Bool, true, false, List, [], ◌∷◌}
use Rattle.std.proofs.Common.{◌++◌, length, map, ℤ, Option, Some, None, refl, sym, ap, ◌∙◌, subst, ⊎_elim, arith}
use Rattle.std.proofs.Common.{append-nil, append_assoc, length-append}
use Rattle.std.specs.Prelude.{◌⊎◌, pos, nat_eq, if◌then◌else◌, slice_get}
use Rattle.std.proofs.lemmas.Option.{slice_get_past}
use Rattle.lists.proofs.Places.{get_right}
use Rattle.hls_ints.specs.Types.{IntegerType, wrapped}
use Rattle.hls_ints.specs.Operators.{is_zero}
use Rattle.block_ir.specs.Arithmetic.{unary_total, binary_total}
use Rattle.block_ir.specs.declared.operand.Source.{Source}
use Rattle.block_ir.specs.declared.operand.Source.TheVariants.{Constant, Variable, Value}
use Rattle.block_ir.specs.declared.operand.Operand.{Operand}
use Rattle.block_ir.specs.declared.block.Operation.{Operation}
use Rattle.block_ir.specs.declared.block.Operation.TheVariants.{Unary, Binary, ReadGlobal, WriteGlobal, ReadArray, WriteArray}
use Rattle.block_ir.specs.declared.block.Final.{Final}
use Rattle.block_ir.specs.declared.block.Next.{Next}
use Rattle.block_ir.specs.declared.block.Next.TheVariants.{Jump, Branch}
use Rattle.block_ir.specs.declared.block.Block.{Block}
use Rattle.block_ir.specs.Run.{Cells, Access, Read, Write, Running, or_zero, converted}
use Rattle.block_ir.specs.Run.{source_value, operand_value, with_value, with_cell, place_read, place_written, global_read, global_written}
use Rattle.block_ir.specs.Run.{operation_run, operations_run, finished, leads_to, started, block_run, variables_after, stage_after}
use Rattle.code_blocks.specs.Needs.{IsBelow}
use Rattle.code_blocks.specs.Evaluating.{current_operand}
use Rattle.code_blocks.proofs.OperationRuns.{run_append, run_length, operand_stays, same_function}
use Rattle.code_merge.specs.Joined.{later, moved_source, moved, moved_operation, moved_final, moved_next, joined, left_in, there, AreLeft}

pub converted_both : (cs ds : List IntegerType) (v : ℤ) → converted (cs ++ ds) v ≡ converted ds (converted cs v)
converted_both [] ds v = refl
converted_both (c ∷ cs) ds v = converted_both cs ds (wrapped c v)

-- what the finals leave in a variable
abbrev pub left_value : (ℕ → ℤ) → List ℤ → Option Operand → ℤ → ℤ
left_value variables values (Some o) v = operand_value variables values o
left_value variables values None v = v

pub finished_is : (variables : ℕ → ℤ) (values : List ℤ) (fs : List Final) (x : ℕ) (after : ℕ → ℤ) (o : Option Operand) → after x ≡ left_value variables values o (variables x) →
    finished variables values fs after x ≡ left_value variables values (left_in fs x o) (variables x)
finished_is variables values [] x after o h = h
finished_is variables values (f ∷ fs) x after o h =
    finished_is variables values fs x (λ y. if nat_eq y f.variable then operand_value variables values f.value else after y)
    (if nat_eq x f.variable then Some f.value else o) (by (nat_eq x f.variable))
  where
    by : (t : Bool) → (if t then operand_value variables values f.value else after x) ≡ left_value variables values (if t then Some f.value else o) (variables x)
    by true = refl
    by false = h

pub finished_both : (variables : ℕ → ℤ) (values : List ℤ) (fs gs : List Final) (after : ℕ → ℤ) →
    finished variables values (fs ++ gs) after ≡ finished variables values gs (finished variables values fs after)
finished_both variables values [] gs after = refl
finished_both variables values (f ∷ fs) gs after = finished_both variables values fs gs (λ x. if nat_eq x f.variable then operand_value variables values f.value else after x)

-- the finals name values of the first n operations
abbrev pub LeftBelow : ℕ → List Final → Type 0
LeftBelow n fs = (x : ℕ) (o : Operand) → left_in fs x None ≡ Some o → IsBelow n o

-- the first block's run so far, and the second one's
abbrev pub behind : Running → Running → Running
behind r q = record { values = r.values ++ q.values; arrays = q.arrays; globals = q.globals; accesses = r.accesses ++ q.accesses }

module _ (variables : ℕ → ℤ) (r : Running) (n : ℕ) (current : List (Option Operand)) (fs : List Final)
    (long : length r.values ≡ n) (left : AreLeft current fs) (below : LeftBelow n fs) where
  abbrev pub ends : ℕ → ℤ
  ends = finished variables r.values fs variables

  left_stays : (more : List ℤ) (x : ℕ) (o : Option Operand) → left_in fs x None ≡ o →
      left_value variables (r.values ++ more) o (variables x) ≡ left_value variables r.values o (variables x)
  left_stays more x (Some o) e = operand_stays variables r.values more o (subst (λ j. IsBelow j o) (sym long) (below x o e))
  left_stays more x None e = refl

  value_moved : (more : List ℤ) (k : ℕ) → n + length more < 2 ^ 32 → slice_get (r.values ++ more) (later n k) ≡ slice_get more k
  value_moved more k few =
      ⊎_elim
      (λ h. let e : later n k ≡ length r.values + k = omega (arith, long, h) in rw e (get_right r.values more k))
      (λ h. slice_get_past (r.values ++ more) (later n k) (let l = length-append r.values more in omega (arith, l, long, h, few)) ∙ sym (slice_get_past more k (omega (arith, h, few))))
      (let d : (n + k < 2 ^ 32) ⊎ (2 ^ 32 ≤ n + k) = search arith in d)

  source_moved : (more : List ℤ) (s : Source) → n + length more < 2 ^ 32 → operand_value variables (r.values ++ more) (moved_source n current s) ≡ source_value ends more s
  source_moved more (Constant ty v) few = refl
  source_moved more (Value k ty) few = ap or_zero (value_moved more k few)
  source_moved more (Variable x ty) few =
      by (slice_get current x) refl ∙ left_stays more x (left_in fs x None) refl ∙ sym (finished_is variables r.values fs x variables None refl)
    where
      by : (o : Option (Option Operand)) → slice_get current x ≡ o → operand_value variables (r.values ++ more) (current_operand o x ty) ≡ left_value variables
          (r.values ++ more) (left_in fs x None) (variables x)
      by (Some (Some o)) e = ap (λ z. left_value variables (r.values ++ more) z (variables x)) (ap there (sym e) ∙ left x)
      by (Some None) e = ap (λ z. left_value variables (r.values ++ more) z (variables x)) (ap there (sym e) ∙ left x)
      by None e = ap (λ z. left_value variables (r.values ++ more) z (variables x)) (ap there (sym e) ∙ left x)

  pub operand_moved : (more : List ℤ) (o : Operand) → n + length more < 2 ^ 32 → operand_value variables (r.values ++ more) (moved n current o) ≡ operand_value ends more o
  operand_moved more o few =
      converted_both (moved_source n current o.source).conversions o.conversions (source_value variables (r.values ++ more) (moved_source n current o.source).source)
      ∙ ap (converted o.conversions) (source_moved more o.source few)

  put_behind : (v : ℤ) (more : List Access) (arrays globals : Cells) (q : Running) →
      let a : Running = record { values = (r.values ++ q.values) ++ v ∷ []; arrays = arrays; globals = globals; accesses = (r.accesses ++ q.accesses) ++ more } in
      let b : Running = record { values = r.values ++ (q.values ++ v ∷ []); arrays = arrays; globals = globals; accesses = r.accesses ++ (q.accesses ++ more) } in a ≡ b
  put_behind v more arrays globals q =
      ap (λ vs. let a : Running = record { values = vs; arrays = arrays; globals = globals; accesses = (r.accesses ++ q.accesses) ++ more } in a)
      (append_assoc r.values q.values (v ∷ []))
      ∙ ap (λ made. let a : Running = record { values = r.values ++ (q.values ++ v ∷ []); arrays = arrays; globals = globals; accesses = made } in a)
      (append_assoc r.accesses q.accesses more)

  value_behind : (v : ℤ) (q : Running) → with_value variables v (behind r q) ≡ behind r (with_value ends v q)
  value_behind v q = ap (λ vs. let a : Running = record { values = vs; arrays = q.arrays; globals = q.globals; accesses = r.accesses ++ q.accesses } in a)
      (append_assoc r.values q.values (v ∷ []))

  abbrev global_write : Running → ℕ → ℕ → ℤ → ℤ → Running
  global_write q x size v w = record {
    values = (r.values ++ q.values) ++ pos 0 ∷ [];
    arrays = q.arrays;
    globals = with_cell x (global_written size v) w q.globals;
    accesses = (r.accesses ++ q.accesses) ++ Write x (global_written size v) w ∷ [];
  }

  abbrev array_write : Running → ℕ → ℕ → ℤ → ℤ → Running
  array_write q x size v w = record {
    values = (r.values ++ q.values) ++ pos 0 ∷ [];
    arrays = with_cell x (place_written size v) w q.arrays;
    globals = q.globals;
    accesses = r.accesses ++ q.accesses;
  }

  one_moved : (o : Operation) (q : Running) → n + length q.values < 2 ^ 32 → operation_run variables (moved_operation n current o) (behind r q) ≡ behind r
      (operation_run ends o q)
  one_moved (Unary operator ty a) q few =
      ap (λ v. with_value variables (unary_total operator ty v) (behind r q)) (operand_moved q.values a few) ∙ value_behind
      (unary_total operator ty (operand_value ends q.values a)) q
  one_moved (Binary operator ty a b) q few =
      ap (λ v. with_value variables (binary_total operator ty v (operand_value variables (r.values ++ q.values) (moved n current b))) (behind r q)) (operand_moved q.values a few)
      ∙ ap (λ v. with_value variables (binary_total operator ty (operand_value ends q.values a) v) (behind r q)) (operand_moved q.values b few)
      ∙ value_behind (binary_total operator ty (operand_value ends q.values a) (operand_value ends q.values b)) q
  one_moved (ReadGlobal x size i) q few =
      ap (λ v. let a : Running = record {
        values = (r.values ++ q.values) ++ q.globals x (global_read size v) ∷ [];
        arrays = q.arrays;
        globals = q.globals;
        accesses = (r.accesses ++ q.accesses) ++ Read x (global_read size v) ∷ [];
      } in a) (operand_moved q.values i few)
      ∙ put_behind (q.globals x (global_read size (operand_value ends q.values i))) (Read x (global_read size (operand_value ends q.values i)) ∷ []) q.arrays q.globals q
  one_moved (WriteGlobal x size i a) q few =
      ap (λ v. global_write q x size v (operand_value variables (r.values ++ q.values) (moved n current a))) (operand_moved q.values i few)
      ∙ ap (λ v. global_write q x size (operand_value ends q.values i) v) (operand_moved q.values a few)
      ∙ put_behind (pos 0) (Write x (global_written size (operand_value ends q.values i)) (operand_value ends q.values a) ∷ []) q.arrays
      (with_cell x (global_written size (operand_value ends q.values i)) (operand_value ends q.values a) q.globals) q
  one_moved (ReadArray x size i) q few =
      ap (λ v. with_value variables (q.arrays x (place_read size v)) (behind r q)) (operand_moved q.values i few) ∙ value_behind
      (q.arrays x (place_read size (operand_value ends q.values i))) q
  one_moved (WriteArray x size i a) q few =
      ap (λ v. array_write q x size v (operand_value variables (r.values ++ q.values) (moved n current a))) (operand_moved q.values i few)
      ∙ ap (λ v. array_write q x size (operand_value ends q.values i) v) (operand_moved q.values a few)
      ∙ ap (λ vs. let z : Running = record {
        values = vs;
        arrays = with_cell x (place_written size (operand_value ends q.values i)) (operand_value ends q.values a) q.arrays;
        globals = q.globals;
        accesses = r.accesses ++ q.accesses;
      } in z) (append_assoc r.values q.values (pos 0 ∷ []))

  pub all_moved : (os : List Operation) (q : Running) → n + (length q.values + length os) < 2 ^ 32 →
      operations_run variables (map (moved_operation n current) os) (behind r q) ≡ behind r (operations_run ends os q)
  all_moved [] q few = refl
  all_moved (o ∷ os) q few =
      ap (operations_run variables (map (moved_operation n current) os)) (one_moved o q (omega arith))
      ∙ all_moved os (operation_run ends o q) (let one = run_length ends (o ∷ []) q in omega (arith, one, few))

  finals_moved : (gs : List Final) (more : List ℤ) (A B : ℕ → ℤ) → n + length more < 2 ^ 32 → ((x : ℕ) → A x ≡ B x) → (x : ℕ) →
      finished variables (r.values ++ more) (map (moved_final n current) gs) A x ≡ finished ends more gs B x
  finals_moved [] more A B few h x = h x
  finals_moved (g ∷ gs) more A B few h x =
      finals_moved gs more (λ y. if nat_eq y g.variable then operand_value variables (r.values ++ more) (moved n current g.value) else A y)
      (λ y. if nat_eq y g.variable then operand_value ends more g.value else B y) few (λ y. by y (nat_eq y g.variable)) x
    where
      by : (y : ℕ) (t : Bool) → (if t then operand_value variables (r.values ++ more) (moved n current g.value) else A y) ≡ (if t then operand_value ends more g.value else B y)
      by y true = operand_moved more g.value few
      by y false = h y

  pub variables_moved : (gs : List Final) (more : List ℤ) → n + length more < 2 ^ 32 →
      finished variables (r.values ++ more) (fs ++ map (moved_final n current) gs) variables ≡ finished ends more gs ends
  variables_moved gs more few = same_function _ _ (λ x.
      ap (λ (f : ℕ → ℤ). f x) (finished_both variables (r.values ++ more) fs (map (moved_final n current) gs) variables)
      ∙ finals_moved gs more (finished variables (r.values ++ more) fs variables) ends few
      (λ y. finished_is variables (r.values ++ more) fs y variables None refl ∙ left_stays more y (left_in fs y None) refl ∙ sym
      (finished_is variables r.values fs y variables None refl)) x)

  pub next_moved : (nx : Next) (more : List ℤ) → n + length more < 2 ^ 32 → leads_to variables (r.values ++ more) (moved_next n current nx) ≡ leads_to ends more nx
  next_moved (Jump l) more few = refl
  next_moved (Branch test nonzero zero_) more few = ap (λ v. if is_zero v then zero_ else nonzero) (operand_moved more test few)

-- the run of both in one
module _ (b d : Block) (current : List (Option Operand)) (variables : ℕ → ℤ) (arrays cells : Cells) (left : AreLeft current b.finals)
    (below : LeftBelow (length b.operations) b.finals)
    (few : length b.operations + length d.operations < 2 ^ 32) where
  abbrev pub first : Running
  first = block_run b variables arrays cells

  abbrev pub between : ℕ → ℤ
  between = variables_after b variables first

  abbrev pub second : Running
  second = block_run d between first.arrays first.globals

  pub first_long : length first.values ≡ length b.operations
  unfolding block_run
  first_long = run_length variables b.operations (started arrays cells) ∙ (omega arith)

  second_few : length b.operations + length second.values < 2 ^ 32
  unfolding block_run
  second_few = let h = run_length between d.operations (started first.arrays first.globals) in omega (arith, h, few)

  pub joined_run : block_run (joined current b d) variables arrays cells ≡ behind first second
  unfolding block_run
  joined_run =
      run_append variables b.operations (map (moved_operation (length b.operations) current) d.operations) (started arrays cells)
      ∙ ap (operations_run variables (map (moved_operation (length b.operations) current) d.operations)) begins
      ∙ all_moved variables first (length b.operations) current b.finals first_long left below d.operations (started first.arrays first.globals) (omega (arith, few))
    where
      begins : first ≡ behind first (started first.arrays first.globals)
      begins = ap (λ vs. let a : Running = record { values = vs; arrays = first.arrays; globals = first.globals; accesses = first.accesses } in a) (sym (append-nil first.values))
          ∙ ap (λ made. let a : Running = record { values = first.values ++ []; arrays = first.arrays; globals = first.globals; accesses = made } in a)
          (sym (append-nil first.accesses))

  pub joined_variables : variables_after (joined current b d) variables (behind first second) ≡ variables_after d between second
  joined_variables = variables_moved variables first (length b.operations) current b.finals first_long left below d.finals second.values second_few

  pub joined_stage : stage_after (joined current b d) variables (behind first second) ≡ stage_after d between second
  joined_stage = next_moved variables first (length b.operations) current b.finals first_long left below d.next second.values second_few
