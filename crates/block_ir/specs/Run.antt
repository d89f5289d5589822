-- What a run of a block does: the values of its operations, its reads and writes in order, and what it leaves.
use Rattle.std.specs.Prelude.{ℕ, suc, ◌+◌, ◌*◌, ◌&&◌, nat_eq, nat_lt, if◌then◌else◌, List, [], ◌∷◌, ◌++◌, ℤ, pos, negsuc, Option, Some, None, slice_get}
use Rattle.hls_ints.specs.Residues.{residue_of}
use Rattle.hls_ints.specs.Types.{IntegerType, wrapped}
use Rattle.hls_ints.specs.Operators.{is_zero}
use Rattle.block_ir.specs.Arithmetic.{unary_total, binary_total}
use Rattle.block_ir.specs.declared.operand.Source.{Source}
use Rattle.block_ir.specs.declared.operand.Source.TheVariants.{Constant, Variable, Value}
use Rattle.block_ir.specs.declared.operand.Operand.{Operand}
use Rattle.block_ir.specs.declared.block.Operation.{Operation}
use Rattle.block_ir.specs.declared.block.Operation.TheVariants.{Unary, Binary, ReadGlobal, WriteGlobal, ReadArray, WriteArray}
use Rattle.block_ir.specs.declared.block.Final.{Final}
use Rattle.block_ir.specs.declared.block.Next.{Next}
use Rattle.block_ir.specs.declared.block.Next.TheVariants.{Jump, Branch}
use Rattle.block_ir.specs.declared.block.Block.{Block}

-- a number for each element of each object
abbrev pub Cells : Type 0
Cells = ℕ → ℕ → ℤ

abbrev pub with_cell : ℕ → ℕ → ℤ → Cells → Cells
with_cell x j v cells = λ y i. if nat_eq y x && nat_eq i j then v else cells y i

-- an access of an element of a global
pub data Access : Type 0 where
  Read : (global index : ℕ) → Access
  Write : (global index : ℕ) (value : ℤ) → Access

-- a run so far: the values of its operations, the local arrays, the globals, and the accesses made
pub record Running : Type 0 where
  pub values : List ℤ
  pub arrays : Cells
  pub globals : Cells
  pub accesses : List Access

abbrev pub or_zero : Option ℤ → ℤ
or_zero None = pos 0
or_zero (Some v) = v

abbrev pub index_of : ℤ → ℕ
index_of (pos j) = j
index_of (negsuc j) = 0

-- Beyond its n elements an array has two places more. An index outside the array reads the first of them, which nothing writes,
-- and writes the second one, which nothing reads.
abbrev pub place_read : ℕ → ℤ → ℕ
place_read n (pos j) = if nat_lt j n then j else n
place_read n (negsuc j) = n

abbrev pub place_written : ℕ → ℤ → ℕ
place_written n (pos j) = if nat_lt j n then j else suc n
place_written n (negsuc j) = suc n

-- A global's elements stand in up to eight banks, and the last bits of an index tell its bank. So beyond its n elements a global has
-- sixteen places more, eight for each of the two, with the last three bits of the index.
abbrev pub global_read : ℕ → ℤ → ℕ
global_read n (pos j) = if nat_lt j n then j else 16 * suc n + residue_of 3 (pos j)
global_read n (negsuc j) = 16 * suc n + residue_of 3 (negsuc j)

abbrev pub global_written : ℕ → ℤ → ℕ
global_written n (pos j) = if nat_lt j n then j else 16 * suc n + 8 + residue_of 3 (pos j)
global_written n (negsuc j) = 16 * suc n + 8 + residue_of 3 (negsuc j)

abbrev pub converted : List IntegerType → ℤ → ℤ
converted [] v = v
converted (ty ∷ types) v = converted types (wrapped ty v)

module _ (variables : ℕ → ℤ) where
  abbrev pub source_value : List ℤ → Source → ℤ
  source_value values (Constant ty v) = v
  source_value values (Variable x ty) = variables x
  source_value values (Value k ty) = or_zero (slice_get values k)

  abbrev pub operand_value : List ℤ → Operand → ℤ
  operand_value values o = converted o.conversions (source_value values o.source)

  abbrev pub with_value : ℤ → Running → Running
  with_value v r = record { values = r.values ++ v ∷ []; arrays = r.arrays; globals = r.globals; accesses = r.accesses }

  -- one operation; a write gives 0
  abbrev pub operation_run : Operation → Running → Running
  operation_run (Unary operator ty a) r = with_value (unary_total operator ty (operand_value r.values a)) r
  operation_run (Binary operator ty a b) r = with_value (binary_total operator ty (operand_value r.values a) (operand_value r.values b)) r
  operation_run (ReadGlobal x n i) r = record {
    values = r.values ++ r.globals x (global_read n (operand_value r.values i)) ∷ [];
    arrays = r.arrays;
    globals = r.globals;
    accesses = r.accesses ++ Read x (global_read n (operand_value r.values i)) ∷ [];
  }
  operation_run (WriteGlobal x n i a) r = record {
    values = r.values ++ pos 0 ∷ [];
    arrays = r.arrays;
    globals = with_cell x (global_written n (operand_value r.values i)) (operand_value r.values a) r.globals;
    accesses = r.accesses ++ Write x (global_written n (operand_value r.values i)) (operand_value r.values a) ∷ [];
  }
  operation_run (ReadArray x n i) r = with_value (r.arrays x (place_read n (operand_value r.values i))) r
  operation_run (WriteArray x n i a) r = record {
    values = r.values ++ pos 0 ∷ [];
    arrays = with_cell x (place_written n (operand_value r.values i)) (operand_value r.values a) r.arrays;
    globals = r.globals;
    accesses = r.accesses;
  }

  abbrev pub operations_run : List Operation → Running → Running
  operations_run [] r = r
  operations_run (o ∷ os) r = operations_run os (operation_run o r)

  -- the variables after these finals, all of which see the variables before the block
  abbrev pub finished : List ℤ → List Final → (ℕ → ℤ) → ℕ → ℤ
  finished values [] after = after
  finished values (f ∷ fs) after = finished values fs (λ x. if nat_eq x f.variable then operand_value values f.value else after x)

  -- the stage to which a block leads
  abbrev pub leads_to : List ℤ → Next → ℕ
  leads_to values (Jump l) = l
  leads_to values (Branch test nonzero zero_) = if is_zero (operand_value values test) then zero_ else nonzero

abbrev pub started : Cells → Cells → Running
started arrays globals = record { values = []; arrays = arrays; globals = globals; accesses = [] }

-- a run of a block from these variables, arrays and globals
unfoldable pub block_run : Block → (ℕ → ℤ) → Cells → Cells → Running
block_run b variables arrays globals = operations_run variables b.operations (started arrays globals)

abbrev pub variables_after : Block → (ℕ → ℤ) → Running → ℕ → ℤ
variables_after b variables r = finished variables r.values b.finals variables

abbrev pub stage_after : Block → (ℕ → ℤ) → Running → ℕ
stage_after b variables r = leads_to variables r.values b.next
