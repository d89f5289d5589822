-- The tokens of each statement.
use Rattle.std.proofs.Common.{◌≡◌, ℕ, List, [], ◌∷◌, ◌++◌, refl, sym, ap, ◌∙◌, subst}
use Rattle.std.specs.Prelude.{map}
use Rattle.verilog_tree.specs.declared.token.Word.TheVariants as w
use Rattle.verilog_tree.specs.declared.token.Mark.TheVariants as m
use Rattle.verilog_tree.specs.declared.token.Token.{Token}
use Rattle.verilog_tree.specs.declared.token.Token.TheVariants as t
use Rattle.verilog_tree.specs.declared.tree.WriteArgument.{WriteArgument}
use Rattle.verilog_tree.specs.declared.tree.Statement.{Statement}
use Rattle.verilog_tree.specs.declared.tree.Statement.TheVariants as s
use Rattle.verilog_tree.specs.declared.tree.Statement.TheOpen.{Statement-F}
use Rattle.verilog_tree.specs.declared.tree.Statement.TheFolds.{fold-roll-Statement, ind-Statement, map-Statement, claims}
use Rattle.verilog_tree.specs.declared.tree.Statement.TheViews.{roll-Statement}
use Rattle.verilog_tree.specs.declared.tree.Statement.TheBlock.{the_family, member-Statement}
use denote.Hole.Holds.{Such}
use Rattle.verilog_tree.specs.Reads.{Each}
use Rattle.verilog_tree.specs.Grammar as g

pub statement_set : (register source : List ℕ) → g.statement (s.Set register source) ≡ g.statement_of (Statement-F.Set register source)
statement_set x y = ap g.statement (sym (s.rolls-Set x y)) ∙ fold-roll-Statement (List Token) g.statement_of (Statement-F.Set x y)

pub statement_store : (memory address source : List ℕ) → g.statement (s.Store memory address source) ≡ g.statement_of (Statement-F.Store memory address source)
statement_store x y z = ap g.statement (sym (s.rolls-Store x y z)) ∙ fold-roll-Statement (List Token) g.statement_of (Statement-F.Store x y z)

pub statement_write : (text : List ℕ) (values : List WriteArgument) → g.statement (s.Write text values) ≡ g.statement_of (Statement-F.Write text values)
statement_write x y = ap g.statement (sym (s.rolls-Write x y)) ∙ fold-roll-Statement (List Token) g.statement_of (Statement-F.Write x y)

all_map : (xs : List Statement) → g.all (λ ts. ts) (map g.statement xs) ≡ g.all g.statement xs
all_map [] = refl
all_map (x ∷ xs) = ap (λ l. g.statement x ++ l) (all_map xs)

pub statement_if : (condition : List ℕ) (body : List Statement)
    → g.statement (s.If condition body) ≡ t.Word w.If ∷ (t.Mark m.OpenRound ∷ (t.Name condition ∷ (t.Mark m.CloseRound ∷ (t.Word w.Begin ∷ (g.all g.statement body ++ (t.Word w.End ∷ []))))))
statement_if x y =
    ap g.statement (sym (s.rolls-If x y)) ∙ fold-roll-Statement (List Token) g.statement_of (Statement-F.If x y)
    ∙ ap (λ l. t.Word w.If ∷ (t.Mark m.OpenRound ∷ (t.Name x ∷ (t.Mark m.CloseRound ∷ (t.Word w.Begin ∷ (l ++ (t.Word w.End ∷ []))))))) (all_map y)

-- ---- induction

module _ (P : Statement → Type 0)
    (set : (x y : List ℕ) → P (s.Set x y)) (store : (x y z : List ℕ) → P (s.Store x y z))
    (branch : (x : List ℕ) (body : List Statement) → Each P body → P (s.If x body)) (print : (x : List ℕ) (ys : List WriteArgument) → P (s.Write x ys)) where
  each_of : (ys : List (Such the_family (claims P) member-Statement)) → Each P (map (λ e. e.0) ys)
  each_of [] = tt
  each_of (y ∷ ys) = (y.1, each_of ys)

  induct_step : (x : Statement-F Statement) (y : Statement-F (Such the_family (claims P) member-Statement))
      → map-Statement (Such the_family (claims P) member-Statement) Statement (λ e. e.0) y ≡ x → P (roll-Statement x)
  induct_step x (Statement-F.Set a b) e = subst (λ k. P (roll-Statement k)) e (subst P (sym (s.rolls-Set a b)) (set a b))
  induct_step x (Statement-F.Store a b c) e = subst (λ k. P (roll-Statement k)) e (subst P (sym (s.rolls-Store a b c)) (store a b c))
  induct_step x (Statement-F.If a ys) e = subst (λ k. P (roll-Statement k)) e (subst P (sym (s.rolls-If a (map (λ e. e.0) ys))) (branch a (map (λ e. e.0) ys) (each_of ys)))
  induct_step x (Statement-F.Write a b) e = subst (λ k. P (roll-Statement k)) e (subst P (sym (s.rolls-Write a b)) (print a b))

  pub induct : (d : Statement) → P d
  induct = ind-Statement P induct_step

-- ---- one level of a statement

abbrev pub level : Statement-F Statement → List Token
level (Statement-F.If condition body) = t.Word w.If ∷ (t.Mark m.OpenRound ∷ (t.Name condition ∷ (t.Mark m.CloseRound ∷ (t.Word w.Begin ∷ (g.all g.statement body ++ (t.Word w.End ∷ []))))))
level (Statement-F.Set x y) = g.statement_of (Statement-F.Set x y)
level (Statement-F.Store x y z) = g.statement_of (Statement-F.Store x y z)
level (Statement-F.Write x ys) = g.statement_of (Statement-F.Write x ys)

pub record View (b : Statement) : Type 0 where
  pub shape : Statement-F Statement
  pub is : b ≡ roll-Statement shape
  pub tokens : g.statement b ≡ level shape

pub view : (b : Statement) → View b
view = induct View
    (λ x y. record { shape = Statement-F.Set x y; is = sym (s.rolls-Set x y); tokens = statement_set x y })
    (λ x y z. record { shape = Statement-F.Store x y z; is = sym (s.rolls-Store x y z); tokens = statement_store x y z })
    (λ x body h. record { shape = Statement-F.If x body; is = sym (s.rolls-If x body); tokens = statement_if x body })
    (λ x ys. record { shape = Statement-F.Write x ys; is = sym (s.rolls-Write x ys); tokens = statement_write x ys })
