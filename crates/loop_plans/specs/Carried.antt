-- What the operations of a loop use that earlier iterations gave its variables. Condition, body and step are one block; its finals say what
-- an iteration leaves in the variables.
use Rattle.std.specs.Prelude.{◌≡◌, ℕ, zero, suc, ◌⊎◌, nat_eq, List, [], ◌∷◌, Option, Some, None, slice_get, if◌then◌else◌}
use Rattle.std.specs.Option.{option_or}
use Rattle.std.specs.List.{Contains}
use Rattle.block_ir.specs.declared.operand.Source.{Source}
use Rattle.block_ir.specs.declared.operand.Source.TheVariants.{Constant, Variable, Value}
use Rattle.block_ir.specs.declared.block.Operation.{Operation}
use Rattle.block_ir.specs.declared.block.Operation.TheVariants.{Unary, Binary, ReadGlobal, WriteGlobal, ReadArray, WriteArray}
use Rattle.block_ir.specs.declared.block.Final.{Final}
use Rattle.loop_pipeline.specs.declared.table.Carried.{Carried}

-- what the last final of the variable gives it, before conversions; where there is none, an iteration leaves it as it was
abbrev pub last_source : List Final → ℕ → Option Source
last_source [] x = None
last_source (f ∷ fs) x = option_or (last_source fs x) (if nat_eq x f.variable then Some f.value.source else None)

-- the value of operation i, where t is 0, or a variable of which that was said for one iteration less
abbrev pub GivenBy : ℕ → (ℕ → Type 0) → Option Source → ℕ → Type 0
GivenBy t Before None i = ⊥
GivenBy t Before (Some (Constant ty v)) i = ⊥
GivenBy t Before (Some (Variable y ty)) i = Before y
GivenBy t Before (Some (Value j ty)) i = (t ≡ 0) × (j ≡ i)

-- as an iteration begins, the variable holds what operation i gave a variable so many iterations before, handed on by wires alone:
-- from variable to variable, through conversions
abbrev pub HandedOn : List Final → ℕ → ℕ → ℕ → Type 0
HandedOn finals zero x i = ⊥
HandedOn finals (suc t) x i = GivenBy t (λ y. HandedOn finals t y i) (last_source finals x) i

-- the source is the variable
abbrev pub SourceNames : Source → ℕ → Type 0
SourceNames (Constant ty v) x = ⊥
SourceNames (Variable y ty) x = y ≡ x
SourceNames (Value j ty) x = ⊥

-- an operand of the operation is the variable, through conversions
abbrev pub OperationNames : Operation → ℕ → Type 0
OperationNames (Unary operator ty a) x = SourceNames a.source x
OperationNames (Binary operator ty a b) x = SourceNames a.source x ⊎ SourceNames b.source x
OperationNames (ReadGlobal g n i) x = SourceNames i.source x
OperationNames (WriteGlobal g n i a) x = SourceNames i.source x ⊎ SourceNames a.source x
OperationNames (ReadArray y n i) x = SourceNames i.source x
OperationNames (WriteArray y n i a) x = SourceNames i.source x ⊎ SourceNames a.source x

-- the operation uses so many iterations later what the other one gave a variable
pub record IsUse (operations : List Operation) (finals : List Final) (k : Carried) : Type 0 where
  pub user : Operation
  pub there : slice_get operations k.to ≡ Some user
  pub variable : ℕ
  pub names : OperationNames user variable
  pub handed : HandedOn finals k.turns variable k.from

-- the list has every such use, and nothing else
abbrev pub AreUses : List Operation → List Final → List Carried → Type 0
AreUses operations finals list =
    ((k : Carried) → Contains list k → IsUse operations finals k) × ((k : Carried) → IsUse operations finals k → Contains list k)
