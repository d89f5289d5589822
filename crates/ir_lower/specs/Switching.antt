-- The labels of a switch.
use Rattle.std.specs.Prelude.{◌≡◌, ℕ, suc, ◌+◌, ◌<◌, ◌≤◌, if◌then◌else◌, List, [], ◌∷◌, ◌++◌, length, ℤ, Option, Some, None, IfSome}
use Rattle.std.specs.Option.{option_or}
use Rattle.hls_ints.specs.Types.{IntegerType, HasType, long_int, wrapped}
use Rattle.c_program.specs.Limits.{print_count}
use Rattle.c_program.specs.Tree.{Expression, Statement, Program}
use Rattle.thread_semantics.specs.Work.{Work, Do, Onward, settled, same_label}
use Rattle.code_blocks.specs.declared.homes.Home.{Home}
use Rattle.code_blocks.specs.declared.fault.LoweringFault.{LoweringFault}
use Rattle.code_blocks.specs.declared.open_block.OpenBlock.{OpenBlock}
use Rattle.code_blocks.specs.Printing.{PutsValue}
use Rattle.code_blocks.specs.Room.{IsFull}
use Rattle.code_blocks.specs.Typing.{Typing, WorksOnValue}
use Rattle.code_places.specs.declared.lowering.Lowering.{Lowering}
use Rattle.code_places.specs.declared.stages.Stages.{Stages}
use Rattle.code_places.specs.declared.targets.Back.{Back}
use Rattle.code_places.specs.declared.targets.Loop.{Loop}
use Rattle.code_places.specs.Apart.{IsTypedNow}
use Rattle.code_places.specs.Labels.{IsOpen, Advances}
use Rattle.code_places.specs.Control.{Compares, Jumps, Whole, IsIn}
use Rattle.code_places.specs.Doing.{Grows, Relabels, OnwardUpTo, IfUsed, LeadsOut, AreTargets, IsBackTarget, IsOut, Suits, SuitsTyping}
use Rattle.code_places.specs.Needing.{IsDeep, needed}
use Rattle.code_places.specs.Weighing.{inlined_weight}
use Rattle.ir_lower.specs.declared.labels.Cases.{Cases}
use Rattle.ir_lower.specs.declared.labels.SwitchLabels.{SwitchLabels}
use Rattle.ir_lower.specs.Taken.{turning_of}

-- the labels of a body, in the order of the text
abbrev pub labels_of : Statement → List (Option ℤ)
labels_of (Statement.Sequence first rest) = labels_of first ++ labels_of rest
labels_of (Statement.Label value operators) = value ∷ []
labels_of statement = []

-- the first of the labels numbered from l on that a value goes to, where it compares with each; else the other one
abbrev pub compared : ℤ → List (Option ℤ) → ℕ → ℕ → ℕ
compared v [] l other = other
compared v (label ∷ labels) l other = if same_label (Some v) label then l else compared v labels (suc l) other

-- the label default, else the one past the switch
abbrev pub default_label : List (Option ℤ) → ℕ → ℕ → ℕ
default_label [] l past = past
default_label (None ∷ labels) l past = l
default_label (Some v ∷ labels) l past = default_label labels (suc l) past

-- each value is of the type of the switch
abbrev pub AreCases : IntegerType → List (Option ℤ) → Type 0
AreCases ty [] = Unit {0}
AreCases ty (None ∷ labels) = AreCases ty labels
AreCases ty (Some v ∷ labels) = HasType ty v × AreCases ty labels

-- default, where it stood before, else the first of the labels that it is
abbrev pub default_after : Option ℕ → List (Option ℤ) → ℕ → Option ℕ
default_after before [] l = before
default_after before (None ∷ labels) l = default_after (option_or before (Some l)) labels (suc l)
default_after before (Some v ∷ labels) l = default_after before labels (suc l)

-- how many labels are cases
abbrev pub case_count : List (Option ℤ) → ℕ
case_count [] = 0
case_count (None ∷ labels) = case_count labels
case_count (Some v ∷ labels) = suc (case_count labels)

-- the variable is compared with the value of each label in turn, the first that it equals being gone on at
abbrev pub Comparisons : ℕ → List (Option ℤ) → ℕ → Lowering → Lowering → Type 0
Comparisons x [] l old new = new ≡ old
Comparisons x (None ∷ labels) l old new = Comparisons x labels (suc l) old new
Comparisons x (Some v ∷ labels) l old new = (mid : Lowering) × Compares x (wrapped long_int v) l old mid × Comparisons x labels (suc l) mid new

-- so many labels from l on, which have no places yet
abbrev pub AreOpen : ℕ → ℕ → Stages → Type 0
AreOpen l n s = (label : ℕ) → l ≤ label → label < l + n → IsOpen label s

-- so many new labels, which lead nowhere yet
pub record HasLabels (n : ℕ) (old new : Lowering) : Type 0 where
  pub relabels : Relabels old new
  pub count : length new.stages.labels ≡ length old.stages.labels + n
  pub open_ : AreOpen (length old.stages.labels) n new.stages

-- those of a switch: of what comes after it, and of its body
pub record AreLabels (labels : SwitchLabels) (body : Statement) (old new : Lowering) : Type 0 where
  pub has : HasLabels (suc (length (labels_of body))) old new
  pub past : labels.past ≡ length old.stages.labels
  pub first : labels.first ≡ suc labels.past

-- the labels of a body are compared, from where that was come to on
pub record AreCompared (x : ℕ) (labels : List (Option ℤ)) (cases after : Cases) (old new : Lowering) : Type 0 where
  pub comparisons : Comparisons x labels cases.next old new
  pub next : after.next ≡ cases.next + length labels
  pub default : after.default ≡ default_after cases.default labels cases.next

-- the head of a switch: a step with its operand, whose value a variable has after it, and the comparisons
pub record OpensSwitch (ty : IntegerType) (operand : Expression) (body : Statement) (labels : SwitchLabels) (old new : Lowering) : Type 0 where
  pub labelled : Lowering
  pub labels_ : AreLabels labels body old labelled
  pub word : ℕ
  pub word_ : word ≡ length labelled.variables
  pub put : OpenBlock
  pub puts : PutsValue labelled.homes word ty operand labelled.block put
  pub works : WorksOnValue labelled.homes word operand labelled.block put
  pub stepped : Lowering
  pub steps : stepped ≡ record labelled { block = record put { steps = suc put.steps } }
  pub compared : Lowering
  pub comparisons : Comparisons word (labels_of body) labels.first stepped compared
  pub jumps : Jumps (default_label (labels_of body) labels.first labels.past) compared new

-- where break and continue lead in a switch
abbrev pub inside : Option Loop → SwitchLabels → Loop
inside around labels = record { leaving = labels.past; turning = turning_of around }

-- what the statements of a body weigh, without a unit for each label, which is that of its comparison
abbrev pub cases_weight : Program → Statement → ℕ
cases_weight P (Statement.Sequence first rest) = cases_weight P first + cases_weight P rest
cases_weight P (Statement.Label value operators) = operators
cases_weight P s = inlined_weight P s

-- the work from each label of a body on, before the work k
abbrev pub entries : Statement → List Work → List (List Work)
entries (Statement.Sequence first rest) k = entries first (Do rest ∷ k) ++ entries rest k
entries (Statement.Label value operators) k = k ∷ []
entries statement k = []

-- what holds of each label's number and of its work
abbrev pub Enter : (ℕ → List Work → Type 0) → ℕ → List (List Work) → Type 0
Enter At l [] = Unit {0}
Enter At l (w ∷ ws) = At l (settled Onward w) × Enter At (suc l) ws

-- labels from l on, which have no places yet, are none of those where break, continue and a return lead
pub record Awaits (l n : ℕ) (around : Option Loop) (c : Lowering) : Type 0 where
  pub open_ : AreOpen l n c.stages
  pub targets : AreTargets around c.stages
  pub back : IsBackTarget c.back c.stages
  pub out : (label : ℕ) → IsOut around label → label < l
  pub behind : IfSome c.back (λ (b : Back). b.label < l)

-- the code of a switch's body was added, whose labels have the numbers from l on: where the work after it goes on behind it, the work
-- from each label goes on at that label, where that is led to, and the whole at the place before it
pub record Enters (P : Program) (around : Option Loop) (body : Statement) (l : ℕ) (old new : Lowering) : Type 0 where
  pub grows : Grows old new
  pub site : new.site ≡ old.site + print_count body
  pub typed : (S : Typing) (w size : ℕ) → SuitsTyping P S size body old → IsTypedNow S w old → IsTypedNow S (w + cases_weight S.program body) new
  pub leads : (W : Whole) (homes : List Home) (size n : ℕ) (k : List Work) → Suits P W homes size body old → IsIn W new → LeadsOut W homes n new.stages.used around k →
      OnwardUpTo W homes n new (settled Onward k) → OnwardUpTo W homes n old (settled Onward (Do body ∷ k)) × Enter (IfUsed W homes n old.stages.used) l (entries body k)

-- the body of a switch was added, of whose labels the next is the one after them
pub record LowersCases (P : Program) (around : Option Loop) (body : Statement) (l next : ℕ) (old new : Lowering) : Type 0 where
  pub next_ : next ≡ l + length (labels_of body)
  pub back : new.back ≡ old.back
  pub advances : Advances (λ label. (l ≤ label) × (label < next)) old.stages new.stages
  pub enters : Enters P around body l old new

-- what the body of a switch needs at most, behind typed code of statements that weigh w
abbrev pub IsFullCases : Program → ℕ → Statement → Lowering → LoweringFault → Type 0
IsFullCases P depth body c fault =
    (S : Typing) (w size : ℕ) → SuitsTyping P S size body c → IsDeep S.program S.function depth → IsTypedNow S w c → IsFull (needed S size (w + cases_weight S.program body)) fault
