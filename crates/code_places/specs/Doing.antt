-- What the code of a statement does.
use Rattle.std.specs.Prelude.{◌≡◌, ℕ, ◌+◌, ◌<◌, ◌≤◌, Bool, true, List, [], ◌++◌, ◌∷◌, length, map, replicate, Option, Some, None, IfSome, IsSomeAnd, Contains, ◌⊎◌, string_bytes}
use Rattle.hls_ints.specs.Types.{long_int}
use Rattle.c_program.specs.Tree.{Statement, Program}
use Rattle.c_program.specs.Limits.{print_count}
use Rattle.c_program.specs.Calls.{calls_of}
use Rattle.c_program.specs.Resolved.{Around, IsStatement}
use Rattle.thread_semantics.specs.Work.{Work, Do, settled, Onward, Leaving, Turning}
use Rattle.block_ir.specs.declared.code.ThreadCode.{ThreadCode}
use Rattle.code_blocks.specs.declared.homes.Home.{Home}
use Rattle.code_places.specs.declared.targets.Back.{Back}
use Rattle.code_places.specs.declared.targets.Loop.{Loop}
use Rattle.code_places.specs.declared.stages.Stages.{Stages}
use Rattle.code_places.specs.declared.lowering.Lowering.{Lowering}
use Rattle.code_blocks.specs.Closing.{IsFresh}
use Rattle.code_storage.specs.declared.rooms.Rooms.{Rooms}
use Rattle.code_storage.specs.Objects.{AreObjects}
use Rattle.code_storage.specs.Values.{most_values}
use Rattle.code_places.specs.Weighing.{inlined_weight}
use Rattle.code_places.specs.Seats.{IsSeated, IsSeatedTyping}
use Rattle.code_blocks.specs.Typing.{Typing, Fits, HasWords}
use Rattle.code_storage.specs.Housing.{AreHomes, homes_in, site_in}
use Rattle.code_places.specs.Resuming.{nothing_kept}
use Rattle.code_storage.specs.Formats.{HasSites}
use Rattle.code_places.specs.Labels.{IsHere, Finishes, is_used, IsTarget, IsAt, IsBusy, Advances}
use Rattle.code_places.specs.Apart.{IsTypedNow, IsGood}
use Rattle.code_places.specs.Control.{with_label, Begun, BegunOr, Begins, Whole, IsIn, AtLabelUpTo, GoesOn}

-- what parts of the code keep
pub record Grows (old new : Lowering) : Type 0 where
  pub homes : new.homes ≡ old.homes
  pub back : new.back ≡ old.back
  pub rooms : new.rooms ≡ old.rooms
  pub variables : new.variables ≡ old.variables
  pub arrays : new.arrays ≡ old.arrays
  pub objects : new.objects ≡ old.objects
  pub words : new.act_operands ≡ old.act_operands
  pub good : (size : ℕ) → IsGood size old → IsGood size new
  pub whole : (W : Whole) → IsIn W new → IsIn W old
  pub used : (label : ℕ) → is_used old.stages.used label ≡ true → is_used new.stages.used label ≡ true

-- and those that do no step
pub record Shifts (old new : Lowering) : Type 0 where
  pub grows : Grows old new
  pub site : new.site ≡ old.site
  pub typed : (S : Typing) (w size : ℕ) → IsGood size old → IsTypedNow S w old → IsTypedNow S w new

-- there are more labels, or more that are led to
pub record Relabels (old new : Lowering) : Type 0 where
  pub shifts : Shifts old new
  pub block : new.block ≡ old.block
  pub items : new.stages.stages ≡ old.stages.stages
  pub here : (label : ℕ) → IsHere old.stages label → IsHere new.stages label
  pub advances : Advances (λ label. ⊥) old.stages new.stages
  pub begun : (start : ℕ) → Begun start old → Begun start new
  pub reached : new.reached ≡ old.reached

abbrev pub at_site : ℕ → Lowering → Lowering
at_site site c = record c { site = site }

-- where the thread goes on

module _ (W : Whole) (homes : List Home) (n : ℕ) where
  abbrev pub OnwardUpTo : Lowering → List Work → Type 0
  OnwardUpTo c k = c.reached ≡ true → (j : ℕ) → j ≤ n → GoesOn W homes nothing_kept j c k

  abbrev pub IfUsed : List Bool → ℕ → List Work → Type 0
  IfUsed used label k = is_used used label ≡ true → AtLabelUpTo W homes n label k

  -- where break and continue lead
  abbrev pub LeadsOut : List Bool → Option Loop → List Work → Type 0
  LeadsOut used None k = Unit {0}
  LeadsOut used (Some l) k = IfUsed used l.leaving (settled Leaving k) × IfSome l.turning (λ turning. IfUsed used turning (settled Turning k))

-- the labels where break and continue lead
abbrev pub AreTargets : Option Loop → Stages → Type 0
AreTargets None s = Unit {0}
AreTargets (Some l) s = IsTarget l.leaving s × IfSome l.turning (λ turning. IsTarget turning s)

-- the label where a return into a caller leads
abbrev pub IsBackTarget : Option Back → Stages → Type 0
IsBackTarget None s = Unit {0}
IsBackTarget (Some b) s = IsTarget b.label s

abbrev pub IsOut : Option Loop → ℕ → Type 0
IsOut None label = ⊥
IsOut (Some l) label = (label ≡ l.leaving) ⊎ IsSomeAnd l.turning (λ turning. label ≡ turning)

-- the label's place is that of the block at hand, which takes a step already and will be stage l
pub record IsHead (label l : ℕ) (c : Lowering) : Type 0 where
  pub here : IsHere c.stages label
  pub number : length c.stages.stages.items ≡ l
  pub busy : 0 < c.block.steps
  pub on : c.reached ≡ true

-- the label's place is stage l, which takes a step
pub record HasCome (label l : ℕ) (s : Stages) : Type 0 where
  pub at : IsAt label l s
  pub busy : IsBusy l s

abbrev pub Heads : ℕ → ℕ → Lowering → Type 0
Heads label l c = IsHead label l c ⊎ HasCome label l c.stages

-- the code of a statement leaves open what was, begins where it did, and makes a stage of a block that takes a step
pub record Proceeds (around : Option Loop) (old new : Lowering) : Type 0 where
  pub back : new.back ≡ old.back
  pub advances : Advances (λ label. ⊥) old.stages new.stages
  pub begun : (start : ℕ) → BegunOr (IsOut around) start old → BegunOr (IsOut around) start new
  pub heads : (label l : ℕ) → Heads label l old → Heads label l new

-- what the code of a statement rests on
pub record Suits (P : Program) (W : Whole) (homes : List Home) (size : ℕ) (s : Statement) (c : Lowering) : Type 0 where
  pub seated : IsSeated P W homes size c
  pub homes_ : c.homes ≡ homes
  pub good : IsGood size c
  pub locals : AreHomes W.setting.function.locals homes size
  pub around : Around
  pub resolved : IsStatement W.setting.program W.setting.function around s
  pub sites : HasSites W.setting.program s c.site
  pub calls : (g : ℕ) → Contains (calls_of s) g → Contains (calls_of W.setting.function.body) g

-- the same for its types
pub record SuitsTyping (P : Program) (S : Typing) (size : ℕ) (s : Statement) (c : Lowering) : Type 0 where
  pub seated : IsSeatedTyping P S size c
  pub fits : Fits S c.homes
  pub words : HasWords S.types size (most_values s)
  pub good : IsGood size c
  pub around : Around
  pub resolved : IsStatement S.program S.function around s
  pub sites : HasSites S.program s c.site
  pub calls : (g : ℕ) → Contains (calls_of s) g → Contains (calls_of S.function.body) g

-- the code of a statement was added: where the work after it goes on behind it, and at the labels where break and
-- continue lead, the work that begins with the statement goes on before it
pub record Leads (P : Program) (around : Option Loop) (s : Statement) (old new : Lowering) : Type 0 where
  pub grows : Grows old new
  pub site : new.site ≡ old.site + print_count s
  pub typed : (S : Typing) (w size : ℕ) → SuitsTyping P S size s old → IsTypedNow S w old → IsTypedNow S (w + inlined_weight S.program s) new
  pub leads : (W : Whole) (homes : List Home) (size n : ℕ) (k : List Work) → Suits P W homes size s old → IsIn W new → LeadsOut W homes n new.stages.used around k →
      OnwardUpTo W homes n new (settled Onward k) → OnwardUpTo W homes n old (settled Onward (Do s ∷ k))

-- a statement without others in it is lowered where it is reached
abbrev pub LowersHere : Program → Option Loop → Statement → Lowering → Lowering → Type 0
LowersHere P around s old new = old.reached ≡ true → Leads P around s old new

-- nothing yet: the function of that number, in a thread with these rooms, with so many words
pub record IsNew (P : Program) (housing : Rooms) (number words : ℕ) (c : Lowering) : Type 0 where
  pub homes : c.homes ≡ homes_in housing number
  pub back : c.back ≡ None
  pub rooms : c.rooms ≡ housing.rooms
  pub variables : c.variables ≡ housing.variables
  pub arrays : c.arrays ≡ housing.arrays
  pub block : IsFresh (length housing.variables + 4) c.block
  pub items : c.stages.stages.items ≡ []
  pub labels : c.stages.labels ≡ []
  pub used : c.stages.used ≡ []
  pub places : c.stages.places ≡ []
  pub reached : c.reached ≡ true
  pub site : c.site ≡ site_in housing number
  pub words_ : c.act_operands ≡ words
  pub objects : AreObjects P c.objects

-- a label that is the first place of the code
pub record Starts (start : ℕ) (old new : Lowering) : Type 0 where
  pub labelled : Lowering
  pub number : start ≡ length old.stages.labels
  pub is : labelled ≡ with_label old
  pub relabels : Relabels old labelled
  pub begins : Begins start labelled new

-- the whole code: where its argument is, and the names of the variables that are no words of acts
pub record IsFinished (start : ℕ) (argument : Option ℕ) (names : List (List ℕ)) (c : Lowering) (code : ThreadCode) : Type 0 where
  pub argument_ : code.argument ≡ argument
  pub variables : code.variables ≡ c.variables ++ replicate c.act_operands long_int
  pub names_ : map string_bytes code.names ≡ names ++ replicate c.act_operands []
  pub arrays : code.arrays ≡ c.arrays
  pub finishes : Finishes start c.stages code.stages
