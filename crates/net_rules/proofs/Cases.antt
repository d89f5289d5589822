-- What a statement has to meet, writes and prints, by cases.
use Rattle.std.proofs.Common.{◌≡◌, ℕ, List, [], ◌∷◌, ◌++◌, map, length, Bool, true, false, refl, sym, ap, ◌∙◌}
use Rattle.std.specs.Prelude.{◌&&◌, ◌||◌, not}
use Rattle.std.specs.List.{list_any}
use Rattle.verilog_tree.specs.declared.tree.WriteArgument.{WriteArgument}
use Rattle.verilog_tree.specs.declared.tree.Statement.{Statement}
use Rattle.verilog_tree.specs.declared.tree.Statement.TheVariants as s
use Rattle.verilog_tree.specs.declared.tree.Statement.TheOpen.{Statement-F}
use Rattle.verilog_tree.specs.declared.tree.Statement.TheFolds.{fold-roll-Statement}
use Rattle.verilog_tree.specs.Scope.{Names, Scope, is_known, kind_of, register_width, memory_width}
use Rattle.verilog_tree.specs.Rules as rule
use Rattle.verilog_tree.specs.Facts as fact
use Rattle.verilog_tree.specs.WellFormed.{none_known}

-- ---- the rules

module _ (scope : Scope) where
  pub right_set : (x y : List ℕ) → rule.statement_right scope (s.Set x y) ≡ rule.has_width scope y (register_width (kind_of scope x))
  right_set x y = ap (rule.statement_right scope) (sym (s.rolls-Set x y)) ∙ fold-roll-Statement Bool (rule.statement_step scope) (Statement-F.Set x y)

  pub right_store : (x y z : List ℕ) → rule.statement_right scope (s.Store x y z) ≡ (rule.is_signal scope y && rule.has_width scope z (memory_width (kind_of scope x)))
  right_store x y z = ap (rule.statement_right scope) (sym (s.rolls-Store x y z)) ∙ fold-roll-Statement Bool (rule.statement_step scope) (Statement-F.Store x y z)

  pub right_write : (x : List ℕ) (ys : List WriteArgument)
      → rule.statement_right scope (s.Write x ys) ≡ (rule.has_values (rule.values_in rule.Between x) (length ys) && rule.all_right (rule.argument_right scope) ys)
  right_write x ys = ap (rule.statement_right scope) (sym (s.rolls-Write x ys)) ∙ fold-roll-Statement Bool (rule.statement_step scope) (Statement-F.Write x ys)

  all_of : (xs : List Statement) → rule.all_true (map (rule.statement_right scope) xs) ≡ rule.all_right (rule.statement_right scope) xs
  all_of [] = refl
  all_of (x ∷ xs) = ap (λ b. rule.statement_right scope x && b) (all_of xs)

  pub right_if : (x : List ℕ) (ys : List Statement) → rule.statement_right scope (s.If x ys) ≡ (rule.has_width scope x 1 && rule.all_right (rule.statement_right scope) ys)
  right_if x ys =
      ap (rule.statement_right scope) (sym (s.rolls-If x ys)) ∙ fold-roll-Statement Bool (rule.statement_step scope) (Statement-F.If x ys)
      ∙ ap (λ b. rule.has_width scope x 1 && b) (all_of ys)

-- ---- what is written

written_set : (x y : List ℕ) → fact.written_by (s.Set x y) ≡ x ∷ []
written_set x y = ap fact.written_by (sym (s.rolls-Set x y)) ∙ fold-roll-Statement Names fact.written_step (Statement-F.Set x y)

written_store : (x y z : List ℕ) → fact.written_by (s.Store x y z) ≡ x ∷ []
written_store x y z = ap fact.written_by (sym (s.rolls-Store x y z)) ∙ fold-roll-Statement Names fact.written_step (Statement-F.Store x y z)

written_write : (x : List ℕ) (ys : List WriteArgument) → fact.written_by (s.Write x ys) ≡ []
written_write x ys = ap fact.written_by (sym (s.rolls-Write x ys)) ∙ fold-roll-Statement Names fact.written_step (Statement-F.Write x ys)

written_if : (x : List ℕ) (ys : List Statement) → fact.written_by (s.If x ys) ≡ fact.joined (map fact.written_by ys)
written_if x ys = ap fact.written_by (sym (s.rolls-If x ys)) ∙ fold-roll-Statement Names fact.written_step (Statement-F.If x ys)

none_one : (b : Bool) → not (b || false) ≡ not b
none_one true = refl
none_one false = refl

none_append : (known xs ys : Names) → none_known known (xs ++ ys) ≡ (none_known known xs && none_known known ys)
none_append known [] ys = refl
none_append known (x ∷ xs) ys =
    one (is_known known x) (list_any (is_known known) xs) (list_any (is_known known) (xs ++ ys)) (list_any (is_known known) ys) (none_append known xs ys) where
      one : (a b c d : Bool) → not c ≡ (not b && not d) → not (a || c) ≡ (not (a || b) && not d)
      one true b c d h = refl
      one false b c d h = h

none_joined : (known : Names) (ys : List Statement) → none_known known (fact.joined (map fact.written_by ys)) ≡ rule.all_right (λ s. none_known known (fact.written_by s)) ys
none_joined known [] = refl
none_joined known (y ∷ ys) =
    none_append known (fact.written_by y) (fact.joined (map fact.written_by ys)) ∙ ap (λ b. none_known known (fact.written_by y) && b) (none_joined known ys)

after_append : (known xs ys : Names) → fact.after fact.with_name known (xs ++ ys) ≡ fact.after fact.with_name (fact.after fact.with_name known xs) ys
after_append known [] ys = refl
after_append known (x ∷ xs) ys = after_append (fact.with_name known x) xs ys

after_joined : (known : Names) (ys : List Statement) → fact.after fact.with_name known (fact.joined (map fact.written_by ys)) ≡ fact.after fact.after_statement known ys
after_joined known [] = refl
after_joined known (y ∷ ys) = after_append known (fact.written_by y) (fact.joined (map fact.written_by ys)) ∙ after_joined (fact.after_statement known y) ys

module _ (known : Names) where
  pub none_set : (x y : List ℕ) → none_known known (fact.written_by (s.Set x y)) ≡ not (is_known known x)
  none_set x y = ap (none_known known) (written_set x y) ∙ none_one (is_known known x)

  pub none_store : (x y z : List ℕ) → none_known known (fact.written_by (s.Store x y z)) ≡ not (is_known known x)
  none_store x y z = ap (none_known known) (written_store x y z) ∙ none_one (is_known known x)

  pub none_write : (x : List ℕ) (ys : List WriteArgument) → none_known known (fact.written_by (s.Write x ys)) ≡ true
  none_write x ys = ap (none_known known) (written_write x ys)

  pub none_if : (x : List ℕ) (ys : List Statement) → none_known known (fact.written_by (s.If x ys)) ≡ rule.all_right (λ s. none_known known (fact.written_by s)) ys
  none_if x ys = ap (none_known known) (written_if x ys) ∙ none_joined known ys

  pub after_set : (x y : List ℕ) → fact.after_statement known (s.Set x y) ≡ fact.with_name known x
  after_set x y = ap (fact.after fact.with_name known) (written_set x y)

  pub after_store : (x y z : List ℕ) → fact.after_statement known (s.Store x y z) ≡ fact.with_name known x
  after_store x y z = ap (fact.after fact.with_name known) (written_store x y z)

  pub after_write : (x : List ℕ) (ys : List WriteArgument) → fact.after_statement known (s.Write x ys) ≡ known
  after_write x ys = ap (fact.after fact.with_name known) (written_write x ys)

  pub after_if : (x : List ℕ) (ys : List Statement) → fact.after_statement known (s.If x ys) ≡ fact.after fact.after_statement known ys
  after_if x ys = ap (fact.after fact.with_name known) (written_if x ys) ∙ after_joined known ys

-- ---- what is printed

pub prints_set : (x y : List ℕ) → fact.statement_prints (s.Set x y) ≡ false
prints_set x y = ap fact.statement_prints (sym (s.rolls-Set x y)) ∙ fold-roll-Statement Bool fact.prints_step (Statement-F.Set x y)

pub prints_store : (x y z : List ℕ) → fact.statement_prints (s.Store x y z) ≡ false
prints_store x y z = ap fact.statement_prints (sym (s.rolls-Store x y z)) ∙ fold-roll-Statement Bool fact.prints_step (Statement-F.Store x y z)

pub prints_write : (x : List ℕ) (ys : List WriteArgument) → fact.statement_prints (s.Write x ys) ≡ true
prints_write x ys = ap fact.statement_prints (sym (s.rolls-Write x ys)) ∙ fold-roll-Statement Bool fact.prints_step (Statement-F.Write x ys)

any_of : (xs : List Statement) → fact.any_true (map fact.statement_prints xs) ≡ list_any fact.statement_prints xs
any_of [] = refl
any_of (x ∷ xs) = ap (λ b. fact.statement_prints x || b) (any_of xs)

pub prints_if : (x : List ℕ) (ys : List Statement) → fact.statement_prints (s.If x ys) ≡ list_any fact.statement_prints ys
prints_if x ys = ap fact.statement_prints (sym (s.rolls-If x ys)) ∙ fold-roll-Statement Bool fact.prints_step (Statement-F.If x ys) ∙ any_of ys
