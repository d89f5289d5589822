-- The law of the constraints of a block.
use Rattle.std.specs.Prelude.{◌≡◌, ℕ, suc, zero, ◌+◌, ◌<◌, List, [], ◌∷◌, length, ◌≢◌}
use Rattle.std.specs.List.{Contains, AllByRecursion}
use Rattle.schedule_sdc.specs.declared.constraint.Constraint.{Constraint}
use Rattle.op_graph.specs.declared.node.Node.{Node}
use Rattle.op_graph.specs.Graph.{UseEarlier}
use Rattle.op_graph.specs.Table.{IsTable}
use Rattle.fsm_plan.specs.Run.{State, Given, run}

-- each number below n comes once
abbrev pub AreApart : List ℕ → Type 0
AreApart [] = Unit {0}
AreApart (i ∷ order) = AllByRecursion (λ j. j ≢ i) order × AreApart order

pub record IsOrder (n : ℕ) (order : List ℕ) : Type 0 where
  pub count : length order ≡ n
  pub below : AllByRecursion (λ i. i < n) order
  pub apart : AreApart order

-- no constraint leads from an operation to one that comes before it
abbrev pub MeetsOrder : List Constraint → List ℕ → Type 0
MeetsOrder list [] = Unit {0}
MeetsOrder list (i ∷ order) = AllByRecursion (λ j. (c : Constraint) → Contains list c → c.from ≡ j → c.to ≡ i → ⊥) order × MeetsOrder list order

-- i, i + 1, .., n in all
abbrev pub from_on : ℕ → ℕ → List ℕ
from_on i zero = []
from_on i (suc n) = i ∷ from_on (i + 1) n

-- WHATEVER the operations compute and the other threads write, an order that meets the table leaves the values of the operations, the
-- accesses of each global in their order and the numbers of each local array as the order of the block does
abbrev pub OrdersAgree : Type 0
OrdersAgree =
    (g : Given) (nodes : List Node) (list : List Constraint) → UseEarlier nodes → IsTable nodes list → (order : List ℕ) → IsOrder (length nodes) order → MeetsOrder list order →
    (s : State) → run g nodes order s ≡ run g nodes (from_on 0 (length nodes)) s
