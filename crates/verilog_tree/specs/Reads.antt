-- A text reads as a net.
use Rattle.std.specs.Prelude.{◌≡◌, List, [], ◌∷◌}
use Rattle.verilog_tree.specs.declared.tree.Expression.{Expression}
use Rattle.verilog_tree.specs.declared.tree.Expression.TheVariants as expr
use Rattle.verilog_tree.specs.declared.tree.Item.{Item}
use Rattle.verilog_tree.specs.declared.tree.Item.TheVariants as i
use Rattle.verilog_tree.specs.declared.tree.Module.{Module}
use Rattle.verilog_tree.specs.declared.tree.Net.{Net}
use Rattle.verilog_tree.specs.Spelling.{Text}
use Rattle.verilog_tree.specs.Tokens.{Splits}
use Rattle.verilog_tree.specs.Grammar as g

abbrev pub IsFilled : {A : Type 0} → List A → Type 0
IsFilled [] = ⊥
IsFilled (x ∷ xs) = Unit {0}

abbrev pub Each : {A : Type 0} → (A → Type 0) → List A → Type 0
Each P [] = Unit {0}
Each P (x ∷ xs) = P x × Each P xs

-- the lists of which the grammar asks for at least one are not empty
abbrev pub IsFullExpression : Expression → Type 0
IsFullExpression (expr.Concatenation parts) = IsFilled parts
IsFullExpression _ = Unit {0}

abbrev pub IsFullItem : Item → Type 0
IsFullItem (i.Assign x) = IsFullExpression x.value
IsFullItem (i.Instance x) = IsFilled x.connections
IsFullItem _ = Unit {0}

abbrev pub IsFullModule : Module → Type 0
IsFullModule m = IsFilled m.ports × Each IsFullItem m.items

abbrev pub IsFull : Net → Type 0
IsFull n = IsFilled n.modules × Each IsFullModule n.modules

-- the text's tokens are those of the net
pub record Reads (text : Text) (n : Net) : Type 0 where
  pub tokens : Splits text (g.net n)
  pub full : IsFull n

-- a text reads as at most one net
abbrev pub ReadsOne : Type 0
ReadsOne = (text : Text) (a b : Net) → Reads text a → Reads text b → a ≡ b
