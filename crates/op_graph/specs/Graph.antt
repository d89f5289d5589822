-- A block as a schedule sees it: of each operation its kind, and the earlier operations whose values it uses.
use Rattle.std.specs.Prelude.{◌≡◌, ℕ, suc, zero, ◌+◌, ◌^◌, ◌<◌, ◌&&◌, nat_eq, List, [], ◌∷◌, length, Bool, true, false, Option, Some, None, ◌⊎◌, nat_lt, slice_index, slice_index_or, if◌then◌else◌}
use Rattle.std.specs.Bool.{beq}
use Rattle.hls_ints.specs.Types.{IntegerType, width_of}
use Rattle.c_program.specs.declared.tree.BinaryOperator.{BinaryOperator}
use Rattle.c_program.specs.declared.tree.BinaryOperator.TheVariants.{Multiply as Times, Divide as Over, Remainder}
use Rattle.block_ir.specs.declared.operand.Source.{Source}
use Rattle.block_ir.specs.declared.operand.Source.TheVariants.{Constant, Variable, Value}
use Rattle.block_ir.specs.declared.block.Operation.{Operation}
use Rattle.block_ir.specs.declared.block.Operation.TheVariants.{Unary, Binary, ReadGlobal, WriteGlobal, ReadArray, WriteArray}
use Rattle.op_graph.specs.declared.node.Kind.{Kind}
use Rattle.op_graph.specs.declared.node.Kind.TheVariants.{Simple, Multiply, Divide, Global, Array}
use Rattle.op_graph.specs.declared.node.Node.{Node}

-- an operator that works in the type: products, quotients and remainders have units
abbrev pub operator_kind : BinaryOperator → IntegerType → Kind
operator_kind Times ty = Multiply (width_of ty)
operator_kind Over ty = Divide (width_of ty) ty.signed
operator_kind Remainder ty = Divide (width_of ty) ty.signed
operator_kind _ ty = Simple

-- the operation whose value the source is, if it is one of the first k; constants, variables and conversions are wires
abbrev pub value_below : ℕ → Source → Option ℕ
value_below k (Constant ty v) = None
value_below k (Variable x ty) = None
value_below k (Value j ty) = if nat_lt j k then Some j else None

-- operation k of a block. An operation uses the values of earlier ones alone
abbrev pub node_of : ℕ → Operation → Node
node_of k (Unary operator ty a) = record { kind = Simple; left = value_below k a.source; right = None }
node_of k (Binary operator ty a b) = record { kind = operator_kind operator ty; left = value_below k a.source; right = value_below k b.source }
node_of k (ReadGlobal x n i) = record { kind = Global x false; left = value_below k i.source; right = None }
node_of k (WriteGlobal x n i a) = record { kind = Global x true; left = value_below k i.source; right = value_below k a.source }
node_of k (ReadArray x n i) = record { kind = Array x false; left = value_below k i.source; right = None }
node_of k (WriteArray x n i a) = record { kind = Array x true; left = value_below k i.source; right = value_below k a.source }

-- the operations from operation k on
abbrev pub nodes_from : ℕ → List Operation → List Node
nodes_from k [] = []
nodes_from k (o ∷ os) = node_of k o ∷ nodes_from (suc k) os

abbrev pub nodes_of : List Operation → List Node
nodes_of os = nodes_from 0 os

abbrev pub no_node : Node
no_node = record { kind = Simple; left = None; right = None }

abbrev pub node : List Node → ℕ → Node
node nodes k = slice_index_or nodes k no_node

abbrev pub kind_at : List Node → ℕ → Kind
kind_at nodes k = (node nodes k).kind

-- an operand is the value of operation i
abbrev pub UsesValue : Node → ℕ → Type 0
UsesValue o i = (o.left ≡ Some i) ⊎ (o.right ≡ Some i)

-- operation j uses the value of operation i
abbrev pub Uses : List Node → ℕ → ℕ → Type 0
Uses nodes j i = UsesValue (node nodes j) i

abbrev pub UseEarlier : List Node → Type 0
UseEarlier nodes = (j i : ℕ) → j < length nodes → Uses nodes j i → i < j

-- bank and local accesses, products, quotients and remainders are not simple; all other operations are
abbrev pub is_simple : Kind → Bool
is_simple Simple = true
is_simple (Multiply w) = false
is_simple (Divide w s) = false
is_simple (Global x w) = false
is_simple (Array x w) = false

-- in how many states an operation works
abbrev pub latency_of : Kind → ℕ
latency_of Simple = 1
latency_of (Multiply w) = 2
latency_of (Divide w s) = 8
latency_of (Global x true) = 1
latency_of (Global x false) = 2
latency_of (Array x w) = 1

abbrev pub latency_at : List Node → ℕ → ℕ
latency_at nodes k = latency_of (kind_at nodes k)

-- the latencies of the first k operations: when operation k starts, where they work one after another
abbrev pub time_before : List Node → ℕ → ℕ
time_before nodes zero = 0
time_before nodes (suc k) = time_before nodes k + latency_at nodes k

-- the state after the last one in which operation k works, from these starts
abbrev pub done : List Node → List ℕ → ℕ → ℕ
done nodes starts k = slice_index starts k + latency_at nodes k

-- the states after the last ones are numbers of 64 bits
abbrev pub Fits : List Node → List ℕ → Type 0
Fits nodes starts = (i : ℕ) → i < length nodes → done nodes starts i < 2 ^ 64

-- the kinds that share functional units: products of one width, and quotients and remainders of one width, signed or not
abbrev pub same_kind : Kind → Kind → Bool
same_kind (Multiply w) (Multiply v) = nat_eq w v
same_kind (Divide w s) (Divide v t) = nat_eq w v && beq s t
same_kind k l = false
