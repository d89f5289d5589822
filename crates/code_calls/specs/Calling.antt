-- Calls of functions, and returns.
use Rattle.std.specs.Prelude.{◌≡◌, ℕ, suc, true, List, Option, Some, None, slice_get, slice_set, ◌⊎◌}
use Rattle.hls_ints.specs.Types.{IntegerType, long_int}
use Rattle.c_program.specs.declared.tree.ReturnType.{ReturnType}
use Rattle.c_program.specs.declared.tree.ReturnType.TheVariants.{Integer}
use Rattle.c_program.specs.Tree.{Expression, Statement, Function, Program}
use Rattle.block_ir.specs.declared.operand.Operand.{Operand}
use Rattle.code_blocks.specs.declared.homes.Home.{Home}
use Rattle.code_blocks.specs.declared.homes.Home.TheVariants as home
use Rattle.code_blocks.specs.declared.open_block.OpenBlock.{OpenBlock}
use Rattle.code_places.specs.declared.targets.Back.{Back}
use Rattle.code_places.specs.declared.lowering.Caller.{Caller}
use Rattle.code_places.specs.declared.lowering.Lowering.{Lowering}
use Rattle.code_blocks.specs.Needs.{IsConverted}
use Rattle.code_blocks.specs.Closing.{HasNoted}
use Rattle.code_storage.specs.Housing.{homes_there, site_there}
use Rattle.code_blocks.specs.Passing.{Passes, WorksOnArguments}
use Rattle.code_places.specs.Control.{with_label, Jumps, Begins, EndsCall, StaysOff}
use Rattle.code_places.specs.Doing.{Proceeds, Leads}

abbrev pub return_of : ℕ → Expression → Statement
return_of offset e = Statement.Return offset (Some e)

-- ---- returns

-- the value, converted to the type and to 64 bits, stands in the variable of that number
pub record PutsWord (word : ℕ) (ty : IntegerType) (value : Operand) (old new : OpenBlock) : Type 0 where
  pub once : Operand
  pub first : IsConverted ty value once
  pub twice : Operand
  pub second : IsConverted long_int once twice
  pub operations : new.operations ≡ old.operations
  pub current : new.current ≡ slice_set old.current word (Some twice)
  pub steps : new.steps ≡ old.steps
  pub noted : HasNoted old → HasNoted new

-- the value stands in the variable where the caller keeps it; one that is not kept, or of a function that returns none, is left
abbrev pub PutsReturned : Option ℕ → ReturnType → Operand → OpenBlock → OpenBlock → Type 0
PutsReturned (Some variable) (Integer ty) value old new = PutsWord variable ty value old new
PutsReturned into returns value old new = new ≡ old

-- a step that returns a value to the caller
pub record Returns (b : Back) (value : Operand) (old new : Lowering) : Type 0 where
  pub put : OpenBlock
  pub puts : PutsReturned b.into b.returns value old.block put
  pub stepped : Lowering
  pub is : stepped ≡ record old { block = record put { steps = suc put.steps } }
  pub jumps : Jumps b.label stepped new

pub record EndsOutermost (old new : Lowering) : Type 0 where
  pub outermost : old.back ≡ None
  pub ends : EndsCall old new

pub record StepsBack (old new : Lowering) : Type 0 where
  pub back : Back
  pub is_back : old.back ≡ Some back
  pub stepped : Lowering
  pub is : stepped ≡ record old { block = record old.block { steps = suc old.block.steps } }
  pub jumps : Jumps back.label stepped new

-- a return of nothing
abbrev pub ReturnsNothing : Lowering → Lowering → Type 0
ReturnsNothing old new = EndsOutermost old new ⊎ StepsBack old new

-- the same, where it is reached
pub record ClosesThere (old new : Lowering) : Type 0 where
  pub on : old.reached ≡ true
  pub returns : ReturnsNothing old new

abbrev pub Closes : Lowering → Lowering → Type 0
Closes old new = StaysOff old new ⊎ ClosesThere old new

-- the code of a function's body, and its closing brace
pub record LowersBody (P : Program) (s : Statement) (old new : Lowering) : Type 0 where
  pub lowered : Lowering
  pub labels : Proceeds None old lowered
  pub lowers : Leads P None s old lowered
  pub closes : Closes lowered new

-- ---- calls

-- the variable in which a local stands that is no array
abbrev pub variable_in : Option Home → Option ℕ
variable_in (Some (home.Variable n)) = Some n
variable_in h = None

-- the variable for the value of a call, which is kept in that local, if it is kept
abbrev pub variable_for : List Home → Option ℕ → Option ℕ
variable_for homes None = None
variable_for homes (Some slot) = variable_in (slice_get homes slot)

-- the arguments are passed, and the code goes on in the function
pub record OpensCall (into : Option ℕ) (number : ℕ) (f : Function) (es : List Expression) (caller : Caller) (old new : Lowering) : Type 0 where
  pub room : List Home
  pub room_is : room ≡ homes_there (slice_get old.rooms number)
  pub passed : OpenBlock
  pub passes : Passes old.homes room f.locals es old.block passed
  pub works : WorksOnArguments old.homes room f.locals es old.block passed
  pub caller_is : caller ≡ record { homes = old.homes; back = old.back; site = old.site; label = caller.label }
  pub new_is : new ≡ record (with_label (record old { block = record passed { steps = suc passed.steps } })) {
    homes = room;
    back = Some (record { label = caller.label; returns = f.returns; into = variable_for old.homes into });
    site = site_there (slice_get old.rooms number);
  }

-- the code goes on in the caller
pub record ClosesCall (caller : Caller) (old new : Lowering) : Type 0 where
  pub closed : Lowering
  pub closes : Closes old closed
  pub begins : Begins caller.label (record closed { homes = caller.homes; back = caller.back; site = caller.site }) new

-- the code of a call was added, up to where the caller goes on
pub record Calls (P : Program) (into : Option ℕ) (number : ℕ) (es : List Expression) (old new : Lowering) : Type 0 where
  pub function : Function
  pub found : slice_get P.functions number ≡ Some function
  pub caller : Caller
  pub begun : Lowering
  pub opens : OpensCall into number function es caller old begun
  pub done : Lowering
  pub lowers : Leads P None function.body begun done
  pub closes : ClosesCall caller done new
