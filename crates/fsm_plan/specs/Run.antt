-- What a block's operations do, one after another, in any order.
use Rattle.std.specs.Prelude.{ℕ, ℤ, pos, List, [], ◌∷◌, ◌++◌, Bool, true, false, Option, Some, None, nat_eq, if◌then◌else◌}
use Rattle.op_graph.specs.declared.node.Node.{Node}
use Rattle.op_graph.specs.declared.node.Kind.{Kind}
use Rattle.op_graph.specs.declared.node.Kind.TheVariants.{Simple, Multiply, Divide, Global, Array}
use Rattle.op_graph.specs.Graph.{node, kind_at}
use Rattle.block_ir.specs.Run.{index_of}

-- what an operation touches
pub data Object : Type 0 where
  Nothing : Object
  TheGlobal : ℕ → Object
  TheArray : ℕ → Object

abbrev pub same_object : Object → Object → Bool
same_object Nothing Nothing = true
same_object Nothing (TheGlobal y) = false
same_object Nothing (TheArray y) = false
same_object (TheGlobal x) Nothing = false
same_object (TheGlobal x) (TheGlobal y) = nat_eq x y
same_object (TheGlobal x) (TheArray y) = false
same_object (TheArray x) Nothing = false
same_object (TheArray x) (TheGlobal y) = false
same_object (TheArray x) (TheArray y) = nat_eq x y

abbrev pub object_of : Kind → Object
object_of Simple = Nothing
object_of (Multiply w) = Nothing
object_of (Divide w s) = Nothing
object_of (Global x w) = TheGlobal x
object_of (Array x w) = TheArray x

-- an access of a global, as the others see it
pub data Event : Type 0 where
  Reads : (index : ℕ) → Event
  Writes : (index : ℕ) (value : ℤ) → Event

-- an object: the numbers of a local array; the accesses of a global so far
pub record Content : Type 0 where
  pub cells : ℕ → ℤ
  pub events : List Event

-- the values of the operations, and the objects
pub record State : Type 0 where
  pub value : ℕ → ℤ
  pub content : Object → Content

abbrev pub put : (ℕ → ℤ) → ℕ → ℤ → ℕ → ℤ
put f i v j = if nat_eq j i then v else f j

abbrev pub put_content : (Object → Content) → Object → Content → Object → Content
put_content f x v y = if same_object y x then v else f y

-- the value of an operand's operation, if it has one
abbrev pub input : (ℕ → ℤ) → Option ℕ → ℤ
input value None = pos 0
input value (Some i) = value i

-- what is given beside the graph of a block: what each operation computes, what its operands make of a value (a constant, a variable,
-- conversions), and what the others have put where a global is read after some accesses of it
pub record Given : Type 0 where
  pub compute : ℕ → ℤ → ℤ → ℤ
  pub left : ℕ → ℤ → ℤ
  pub right : ℕ → ℤ → ℤ
  pub others : ℕ → List Event → ℕ → ℤ

module _ (g : Given) where
  -- the value of operation i, from its operands and its object; a write gives 0
  abbrev pub result_of : Kind → ℕ → ℤ → ℤ → Content → ℤ
  result_of Simple i l r c = g.compute i l r
  result_of (Multiply w) i l r c = g.compute i l r
  result_of (Divide w s) i l r c = g.compute i l r
  result_of (Global x true) i l r c = pos 0
  result_of (Global x false) i l r c = g.others x c.events (index_of l)
  result_of (Array x true) i l r c = pos 0
  result_of (Array x false) i l r c = c.cells (index_of l)

  -- what it makes of its object
  abbrev pub content_after : Kind → ℤ → ℤ → Content → Content
  content_after Simple l r c = c
  content_after (Multiply w) l r c = c
  content_after (Divide w s) l r c = c
  content_after (Global x true) l r c = record { cells = c.cells; events = c.events ++ Writes (index_of l) r ∷ [] }
  content_after (Global x false) l r c = record { cells = c.cells; events = c.events ++ Reads (index_of l) ∷ [] }
  content_after (Array x true) l r c = record { cells = put c.cells (index_of l) r; events = c.events }
  content_after (Array x false) l r c = c

  -- operation i
  abbrev pub after : List Node → ℕ → State → State
  after nodes i s =
      let k = kind_at nodes i in
      let x = object_of k in
      let l = g.left i (input s.value (node nodes i).left) in
      let r = g.right i (input s.value (node nodes i).right) in
      record { value = put s.value i (result_of k i l r (s.content x)); content = put_content s.content x (content_after k l r (s.content x)) }

  -- operations one after another
  abbrev pub run : List Node → List ℕ → State → State
  run nodes [] s = s
  run nodes (i ∷ order) s = run nodes order (after nodes i s)
