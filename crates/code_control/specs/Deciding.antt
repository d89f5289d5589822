-- The code of conditions.
use Rattle.std.specs.Prelude.{◌≡◌, ℕ, zero, suc, ◌+◌, ◌<◌, Bool, true, false, ◌&&◌, List, ◌∷◌, Option, None, length, Contains, ◌⊎◌}
use Rattle.c_program.specs.Tree.{Expression, Statement, Program}
use Rattle.c_program.specs.Calls.{calls_of}
use Rattle.c_program.specs.Weight.{expression_weight}
use Rattle.c_program.specs.Resolved.{IsExpression, IsCondition}
use Rattle.thread_semantics.specs.Work.{Work, Do, Onward, settled, decided}
use Rattle.code_blocks.specs.declared.fault.LoweringFault.{LoweringFault}
use Rattle.code_blocks.specs.declared.homes.Home.{Home}
use Rattle.code_blocks.specs.declared.truths.Note.{Note}
use Rattle.code_blocks.specs.Truths.{IsNoted, HasSlot}
use Rattle.code_places.specs.declared.lowering.Lowering.{Lowering}
use Rattle.code_blocks.specs.Room.{IsFull}
use Rattle.code_blocks.specs.Typing.{Typing, Fits}
use Rattle.code_storage.specs.Formats.{HasSites}
use Rattle.code_storage.specs.Housing.{AreHomes}
use Rattle.code_places.specs.Apart.{IsTypedNow, IsGood}
use Rattle.code_places.specs.Resuming.{nothing_kept, IsSound}
use Rattle.code_places.specs.Labels.{IsHere, is_used, Advances, IsFirst}
use Rattle.code_places.specs.Control.{Keeps, IsIn, Begun, Whole, AtLabel, GoesOn}
use Rattle.code_places.specs.Doing.{Grows, HasCome}
use Rattle.code_places.specs.Needing.{IsDeep, needed}
use Rattle.code_places.specs.Seats.{IsSeated, IsSeatedTyping}
use Rattle.code_places.specs.Weighing.{inlined_weight}

-- Conditions.

-- && or ||
abbrev pub is_joined : Statement → Bool
is_joined (Statement.Both first second) = true
is_joined (Statement.Either first second) = true
is_joined statement = false

-- what stands before the step of an operand, and operands that &&, || and ! join
abbrev mutual
  pub is_cut : Statement → Bool
  is_cut Statement.Done = true
  is_cut (Statement.Sequence first rest) = is_cut first && is_cut rest
  is_cut (Statement.Call offset into function arguments) = true
  is_cut (Statement.Keep offset slot ty operand) = true
  is_cut (Statement.Truth slot condition) = is_joined condition && is_asked condition
  is_cut (Statement.If condition consequent alternative) = is_asked condition && (is_cut consequent && is_cut alternative)
  is_cut statement = false

  pub is_asked : Statement → Bool
  is_asked (Statement.Sequence first rest) = is_cut first && is_asked rest
  is_asked (Statement.Test offset operand) = true
  is_asked (Statement.Both first second) = is_asked first && is_asked second
  is_asked (Statement.Either first second) = is_asked first && is_asked second
  is_asked (Statement.Opposite inner) = is_asked inner
  is_asked statement = false

abbrev pub side : ℕ → ℕ → Bool → ℕ
side nonzero otherwise true = nonzero
side nonzero otherwise false = otherwise

-- an operand by itself, in a block that has steps already, needs one unit more than it weighs
abbrev pub unmet : ℕ → Statement → ℕ
unmet zero d = 0
unmet (suc steps) (Statement.Test offset operand) = 1
unmet (suc steps) d = 0

-- what the code of a condition rests on
pub record SuitsAsked (P : Program) (W : Whole) (homes : List Home) (size : ℕ) (d : Statement) (c : Lowering) : Type 0 where
  pub seated : IsSeated P W homes size c
  pub homes_ : c.homes ≡ homes
  pub good : IsGood size c
  pub locals : AreHomes W.setting.function.locals homes size
  pub resolved : IsCondition W.setting.program W.setting.function d
  pub sites : HasSites W.setting.program Statement.Done c.site
  pub calls : (g : ℕ) → Contains (calls_of d) g → Contains (calls_of W.setting.function.body) g

-- the same for its types
pub record SuitsAskedTyping (P : Program) (S : Typing) (size : ℕ) (d : Statement) (c : Lowering) : Type 0 where
  pub seated : IsSeatedTyping P S size c
  pub fits : Fits S c.homes
  pub good : IsGood size c
  pub resolved : IsCondition S.program S.function d
  pub sites : HasSites S.program Statement.Done c.site
  pub calls : (g : ℕ) → Contains (calls_of d) g → Contains (calls_of S.function.body) g

-- code was added that decides an operand of a condition, whose truth a local keeps, if it is kept: where each truth is decided at its
-- label, the operand is at the place before the code
pub record Tests (e : Expression) (note : Option Note) (nonzero otherwise : ℕ) (old new : Lowering) : Type 0 where
  pub keeps : Keeps old new
  pub site : new.site ≡ old.site
  pub advances : Advances (λ label. ⊥) old.stages new.stages
  pub first : (start : ℕ) → Begun start old → IsFirst start new.stages
  pub comes : (label : ℕ) → IsHere old.stages label → HasCome label (length old.stages.stages.items) new.stages
  pub typed : (offset : ℕ) (S : Typing) (w size : ℕ) → Fits S old.homes → HasSlot S.function note → IsExpression S.program S.function e → IsGood size old → IsTypedNow S w old →
      IsTypedNow S (w + (expression_weight e + unmet old.block.steps (Statement.Test offset e))) new
  pub ends : new.reached ≡ false
  pub idle : (size : ℕ) → length old.variables ≡ size → IsSound size old.block → new.block.steps ≡ 0
  pub marks : (truth : Bool) → is_used new.stages.used (side nonzero otherwise truth) ≡ true
  pub asks : (P : Program) (W : Whole) (homes : List Home) (size n : ℕ) (k : List Work) → IsSeated P W homes size old → old.homes ≡ homes → AreHomes W.setting.function.locals homes size →
      HasSlot W.setting.function note → IsGood size old → IsIn W new → IsNoted note k →
      ((j : ℕ) → j < n → (truth : Bool) → AtLabel W homes j (side nonzero otherwise truth) (decided truth k)) →
      (offset : ℕ) → GoesOn W homes nothing_kept n old (Do (Statement.Test offset e) ∷ k)

-- the same of a whole condition
pub record Decides (P : Program) (d : Statement) (note : Option Note) (if_true if_false : ℕ) (old new : Lowering) : Type 0 where
  pub grows : Grows old new
  pub site : new.site ≡ old.site
  pub advances : Advances (λ label. ⊥) old.stages new.stages
  pub first : (start : ℕ) → Begun start old → IsFirst start new.stages
  pub comes : (label : ℕ) → IsHere old.stages label → HasCome label (length old.stages.stages.items) new.stages
  pub typed : (S : Typing) (w size : ℕ) → HasSlot S.function note → SuitsAskedTyping P S size d old → IsTypedNow S w old →
      IsTypedNow S (w + (inlined_weight S.program d + unmet old.block.steps d)) new
  pub ends : new.reached ≡ false
  pub marks : (truth : Bool) → is_used new.stages.used (side if_true if_false truth) ≡ true
  pub asks : (W : Whole) (homes : List Home) (size n : ℕ) (k : List Work) → SuitsAsked P W homes size d old → HasSlot W.setting.function note → IsIn W new → IsNoted note k →
      ((j : ℕ) → j < n → (truth : Bool) → AtLabel W homes j (side if_true if_false truth) (decided truth k)) →
      GoesOn W homes nothing_kept n old (settled Onward (Do d ∷ k))

-- the label's place is still at hand, or came to the stage that is next
pub record IsStill (label : ℕ) (old new : Lowering) : Type 0 where
  pub here : IsHere new.stages label
  pub items : length new.stages.stages.items ≡ length old.stages.stages.items

-- the code of a cut is come through, and its first block is the next stage
pub record ComesThrough (old new : Lowering) : Type 0 where
  pub reached : new.reached ≡ true
  pub comes : (label : ℕ) → IsHere old.stages label → IsStill label old new ⊎ HasCome label (length old.stages.stages.items) new.stages

-- behind typed code of statements that weigh w, code of a condition in which calls are less than so deep
abbrev pub IsFullAsked : Program → ℕ → Statement → Option Note → Lowering → LoweringFault → Type 0
IsFullAsked P depth d note c fault =
    (S : Typing) (w size : ℕ) → HasSlot S.function note → SuitsAskedTyping P S size d c → IsDeep S.program S.function depth → IsTypedNow S w c →
    IsFull (needed S size (w + inlined_weight S.program d)) fault
