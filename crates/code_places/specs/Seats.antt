-- The calls of a thread, and which of them the code at hand is of.
use Rattle.std.specs.Prelude.{◌≡◌, ℕ, ◌<◌, List, [], ◌∷◌, length, Option, Some, None, slice_get}
use Rattle.hls_ints.specs.Types.{long_int}
use Rattle.c_program.specs.Tree.{Function, Program}
use Rattle.c_program.specs.Resolved.{IsResolved}
use Rattle.thread_semantics.specs.Work.{Work, Take}
use Rattle.code_blocks.specs.declared.homes.Home.{Home}
use Rattle.code_blocks.specs.declared.homes.Home.TheVariants as home
use Rattle.code_places.specs.declared.targets.Back.{Back}
use Rattle.code_places.specs.declared.lowering.Lowering.{Lowering}
use Rattle.code_storage.specs.declared.rooms.Rooms.{Rooms}
use Rattle.code_storage.specs.Housing.{homes_in, Runs, IsHousing}
use Rattle.code_storage.specs.Objects.{AreObjects}
use Rattle.code_storage.specs.Values.{most_values}
use Rattle.code_following.specs.Typed.{Types}
use Rattle.code_blocks.specs.Typing.{Typing, Fits, HasWords}
use Rattle.code_places.specs.Resuming.{Caller}
use Rattle.code_places.specs.Control.{Whole}

-- a call of the thread that waits, whose outermost function is root; its function's rank is above that of the function at hand
pub record IsWaiting (P : Program) (root : ℕ) (housing : Rooms) (rank : ℕ → ℕ) (number : ℕ) (c : Caller) : Type 0 where
  pub found : slice_get P.functions c.number ≡ Some c.function
  pub runs : Runs P root c.number
  pub homes : c.homes ≡ homes_in housing c.number
  pub above : rank number < rank c.number

-- the calls that wait, the innermost first, each above the one that it waits for
abbrev pub AreWaiting : Program → ℕ → Rooms → (ℕ → ℕ) → ℕ → List Caller → Type 0
AreWaiting P root housing rank number [] = Unit {0}
AreWaiting P root housing rank number (c ∷ cs) = IsWaiting P root housing rank number c × AreWaiting P root housing rank c.number cs

-- the variable for the value of a call is that of the local where its caller keeps it
abbrev pub IsInto : List Home → List Work → Option ℕ → Type 0
IsInto homes (Take (Some slot) ∷ k) (Some variable) = slice_get homes slot ≡ Some (home.Variable variable)
IsInto homes (Take None ∷ k) None = Unit {0}
IsInto homes k into = ⊥

-- a return leads to where the caller goes on
pub record GoesBack (W : Whole) (b : Back) : Type 0 where
  pub caller : Caller
  pub rest : List Caller
  pub callers : W.setting.callers ≡ caller ∷ rest
  pub stage : caller.stage ≡ W.stage_of b.label
  pub returns : b.returns ≡ W.setting.function.returns
  pub into : IsInto caller.homes caller.work b.into

abbrev pub LeadsBack : Whole → Option Back → Type 0
LeadsBack W None = W.setting.callers ≡ []
LeadsBack W (Some b) = GoesBack W b

-- the code at hand is of the call at hand, in a thread whose outermost function is root
pub record IsSeated (P : Program) (W : Whole) (homes : List Home) (size : ℕ) (c : Lowering) : Type 0 where
  pub root : ℕ
  pub housing : Rooms
  pub housed : IsHousing W.setting.program root housing
  pub program : W.setting.program ≡ P
  pub resolved : IsResolved W.setting.program
  pub found : slice_get W.setting.program.functions W.setting.number ≡ Some W.setting.function
  pub runs : Runs W.setting.program root W.setting.number
  pub homes_are : homes ≡ homes_in housing W.setting.number
  pub size_is : size ≡ length housing.variables
  pub word : W.setting.word ≡ size
  pub rooms : c.rooms ≡ housing.rooms
  pub waiting : AreWaiting W.setting.program root housing resolved.acyclic.rank W.setting.number W.setting.callers
  pub back : LeadsBack W c.back
  pub objects : AreObjects W.setting.program c.objects

abbrev pub HasVariable : Types → Option ℕ → Type 0
HasVariable T None = Unit {0}
HasVariable T (Some variable) = slice_get T.variables variable ≡ Some long_int

-- where a return leads there is a variable for the value, if that is kept
abbrev pub HasWord : Types → Option Back → Type 0
HasWord T None = Unit {0}
HasWord T (Some b) = HasVariable T b.into

-- the same for the types
pub record IsSeatedTyping (P : Program) (S : Typing) (size : ℕ) (c : Lowering) : Type 0 where
  pub root : ℕ
  pub housing : Rooms
  pub housed : IsHousing S.program root housing
  pub program : S.program ≡ P
  pub resolved : IsResolved S.program
  pub number : ℕ
  pub found : slice_get S.program.functions number ≡ Some S.function
  pub runs : Runs S.program root number
  pub rooms : c.rooms ≡ housing.rooms
  pub fits : (g : ℕ) (f : Function) → slice_get S.program.functions g ≡ Some f → Runs S.program root g → Fits (record S { function = f }) (homes_in housing g)
  pub words : (g : ℕ) (f : Function) → slice_get S.program.functions g ≡ Some f → HasWords S.types size (most_values f.body)
  pub back : HasWord S.types c.back
  pub objects : AreObjects S.program c.objects
