-- The actions of a statement, by cases.
use Rattle.std.proofs.Common.{◌≡◌, ℕ, List, [], ◌∷◌, ◌++◌, map, refl, sym, ap, ◌∙◌}
use Rattle.std.specs.List.{flat_map}
use Rattle.verilog_tree.specs.declared.tree.WriteArgument.{WriteArgument}
use Rattle.verilog_tree.specs.declared.tree.WriteArgument.TheVariants as w
use Rattle.verilog_tree.specs.declared.tree.Statement.{Statement}
use Rattle.verilog_tree.specs.declared.tree.Statement.TheVariants as s
use Rattle.verilog_tree.specs.declared.tree.Statement.TheOpen.{Statement-F}
use Rattle.verilog_tree.specs.declared.tree.Statement.TheFolds.{fold-roll-Statement}
use Rattle.netlist.specs.declared.netlist.Effect.TheVariants as effect
use Rattle.netlist.specs.declared.netlist.Action.{Action}
use Rattle.netlist.specs.NetlistOf.{Name, place, argument, statement_step, statement_actions}
use Rattle.net_netlist.specs.Actions.{action_of, argument_of, with_condition}

abbrev Does : Type 0
Does = List ℕ → List Action

each_of : (acts : Statement → Does) (conditions : List ℕ) (body : List Statement) →
    flat_map (λ (f : Does). f conditions) (map acts body) ≡ flat_map (λ x. acts x conditions) body
each_of acts conditions [] = refl
each_of acts conditions (x ∷ body) = ap (λ rest. acts x conditions ++ rest) (each_of acts conditions body)

module _ (signals memories : List Name) where
  same_argument : (y : WriteArgument) → argument signals memories y ≡ argument_of signals y
  same_argument (w.Unsigned x) = refl
  same_argument (w.Signed x) = refl

  same_arguments : (ys : List WriteArgument) → map (argument signals memories) ys ≡ map (argument_of signals) ys
  same_arguments [] = refl
  same_arguments (y ∷ ys) = ap (λ z. z ∷ map (argument signals memories) ys) (same_argument y) ∙ ap (λ rest. argument_of signals y ∷ rest) (same_arguments ys)

  pub actions_set : (x y : Name) (conditions : List ℕ) →
      statement_actions signals memories (s.Set x y) conditions ≡ action_of conditions (effect.Set (place signals x) (place signals y)) ∷ []
  actions_set x y conditions =
      ap (λ t. statement_actions signals memories t conditions) (sym (s.rolls-Set x y))
      ∙ ap (λ (f : Does). f conditions) (fold-roll-Statement Does (statement_step signals memories) (Statement-F.Set x y))

  pub actions_store : (x y z : Name) (conditions : List ℕ) →
      statement_actions signals memories (s.Store x y z) conditions
      ≡ action_of conditions (effect.Store (place memories x) (place signals y) (place signals z)) ∷ []
  actions_store x y z conditions =
      ap (λ t. statement_actions signals memories t conditions) (sym (s.rolls-Store x y z))
      ∙ ap (λ (f : Does). f conditions) (fold-roll-Statement Does (statement_step signals memories) (Statement-F.Store x y z))

  pub actions_write : (x : List ℕ) (ys : List WriteArgument) (conditions : List ℕ) →
      statement_actions signals memories (s.Write x ys) conditions ≡ action_of conditions (effect.Write x (map (argument_of signals) ys)) ∷ []
  actions_write x ys conditions =
      ap (λ t. statement_actions signals memories t conditions) (sym (s.rolls-Write x ys))
      ∙ ap (λ (f : Does). f conditions) (fold-roll-Statement Does (statement_step signals memories) (Statement-F.Write x ys))
      ∙ ap (λ values. action_of conditions (effect.Write x values) ∷ []) (same_arguments ys)

  pub actions_if : (c : Name) (body : List Statement) (conditions : List ℕ) →
      statement_actions signals memories (s.If c body) conditions
      ≡ flat_map (λ x. statement_actions signals memories x (with_condition conditions (place signals c))) body
  actions_if c body conditions =
      ap (λ t. statement_actions signals memories t conditions) (sym (s.rolls-If c body))
      ∙ ap (λ (f : Does). f conditions) (fold-roll-Statement Does (statement_step signals memories) (Statement-F.If c body))
      ∙ each_of (statement_actions signals memories) (with_condition conditions (place signals c)) body
