-- The uses of earlier iterations one after another.
use Rattle.std.specs.Prelude.{◌≡◌, ℕ, zero, suc, List, [], ◌∷◌, ◌++◌, length, Option, Some, None}
use Rattle.std.specs.Ordering.{nat_cmp}
use Rattle.std.specs.BTreeMap.{BTreeMap, get}
use Rattle.block_ir.specs.declared.operand.Source.{Source}
use Rattle.block_ir.specs.declared.operand.Source.TheVariants.{Constant, Variable, Value}
use Rattle.block_ir.specs.declared.block.Operation.{Operation}
use Rattle.block_ir.specs.declared.block.Operation.TheVariants.{Unary, Binary, ReadGlobal, WriteGlobal, ReadArray, WriteArray}
use Rattle.block_ir.specs.declared.block.Final.{Final}
use Rattle.loop_pipeline.specs.declared.table.Carried.{Carried}
use Rattle.loop_plans.specs.declared.carried.Origin.{Origin}
use Rattle.loop_plans.specs.Carried.{last_source}

-- the map has for each variable what its last final gives
abbrev pub AreLastSources : List Final → BTreeMap ℕ Source → Type 0
AreLastSources finals map = (x : ℕ) → get nat_cmp map x ≡ last_source finals x

abbrev pub origin_at : ℕ → ℕ → Origin
origin_at operation turns = record { operation = operation; turns = turns }

abbrev pub origin_by : (ℕ → Option Origin) → ℕ → Option Source → Option Origin
origin_by before turns None = None
origin_by before turns (Some (Constant ty v)) = None
origin_by before turns (Some (Variable y ty)) = before y
origin_by before turns (Some (Value j ty)) = Some (origin_at j turns)

-- by the finals of so many iterations at most, the first of which is this many before
abbrev pub origin_from : List Final → ℕ → ℕ → ℕ → Option Origin
origin_from finals zero turns x = None
origin_from finals (suc m) turns x = origin_by (origin_from finals m (suc turns)) turns (last_source finals x)

-- after as many iterations as there are finals a variable would come again
abbrev pub origin_of : List Final → ℕ → Option Origin
origin_of finals x = origin_from finals (length finals) 1 x

abbrev pub carried_use : ℕ → ℕ → ℕ → Carried
carried_use from to turns = record { from = from; to = to; turns = turns }

abbrev pub use_at : ℕ → Option Origin → List Carried
use_at to None = []
use_at to (Some o) = carried_use o.operation to o.turns ∷ []

abbrev pub use_of : List Final → ℕ → Source → List Carried
use_of finals to (Constant ty v) = []
use_of finals to (Variable x ty) = use_at to (origin_of finals x)
use_of finals to (Value j ty) = []

abbrev pub uses_of : List Final → ℕ → Operation → List Carried
uses_of finals to (Unary operator ty a) = use_of finals to a.source
uses_of finals to (Binary operator ty a b) = use_of finals to a.source ++ use_of finals to b.source
uses_of finals to (ReadGlobal g n i) = use_of finals to i.source
uses_of finals to (WriteGlobal g n i a) = use_of finals to i.source ++ use_of finals to a.source
uses_of finals to (ReadArray y n i) = use_of finals to i.source
uses_of finals to (WriteArray y n i a) = use_of finals to i.source ++ use_of finals to a.source

-- of the operations, the first of which has this number
abbrev pub uses_from : List Final → ℕ → List Operation → List Carried
uses_from finals k [] = []
uses_from finals k (o ∷ os) = uses_of finals k o ++ uses_from finals (suc k) os
