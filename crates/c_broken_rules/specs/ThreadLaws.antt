-- The laws of the thread rule.
use Rattle.std.specs.Prelude.{◌≢◌, ℕ, ◌<◌, length, Option, Some}
use Rattle.std.specs.List.{flat_map}
use Rattle.c_tree.specs.declared.declaration.TranslationUnit.{TranslationUnit}
use Rattle.c_rules.specs.declared.fault.Rule.{Rule}
use Rattle.c_rules.specs.declared.fault.Rule.TheVariants as rule
use Rattle.c_rules.specs.declared.fault.Fault.{Fault}
use Rattle.c_resolution.specs.Resolving.{IsFirstFault, behind, routines_given}
use Rattle.c_broken_rules.specs.Parts.{names_of}
use Rattle.c_broken_rules.specs.Breaks.{Breaks}
use Rattle.c_broken_rules.specs.Laws.{IsNotBehind}

abbrev pub fault_at : ℕ → Fault
fault_at at = record { rule = rule.Threads; offset = at }

-- the first fault that the creates of a text show together, if there is one
abbrev pub fault_of_creates : TranslationUnit → Option Fault
fault_of_creates tree = (routines_given (behind tree.declarations)).1

-- a first fault of the rule that the creates do not show together is one that the text breaks
abbrev pub FaultsAreBrokenAlone : Type 0
FaultsAreBrokenAlone =
    (tree : TranslationUnit) (at : ℕ) → IsFirstFault tree (Some (fault_at at)) → fault_of_creates tree ≢ Some (fault_at at) → Breaks tree rule.Threads at

-- a part of the text breaks the rule by itself
abbrev pub IsAlone : (tree : TranslationUnit) (r : Rule) (at : ℕ) → Breaks tree r at → Type 0
IsAlone tree r at (Breaks.SecondRoutine i j object q s there here one first other behind differ) = ⊥
IsAlone tree r at broken = Unit {0}

-- a text of which a part breaks the rule by itself has a first fault, and it is none behind that part
abbrev pub BrokenAloneAreFaults : Type 0
BrokenAloneAreFaults =
    (tree : TranslationUnit) (fault : Option Fault) (at : ℕ) (broken : Breaks tree rule.Threads at) → IsFirstFault tree fault → IsAlone tree rule.Threads at broken →
    IsNotBehind fault rule.Threads at

-- ---- the whole rule, of a text that declares fewer than 2 ^ 32 - 1 names at file scope

abbrev pub IsOfFewNames : TranslationUnit → Type 0
IsOfFewNames tree = length (flat_map names_of tree.declarations) < 0xffff_ffff

-- a first fault of the rule is one that the text breaks
abbrev pub FaultsAreBrokenOfFewNames : Rule → Type 0
FaultsAreBrokenOfFewNames r =
    (tree : TranslationUnit) (at : ℕ) → IsOfFewNames tree → IsFirstFault tree (Some (record { rule = r; offset = at })) → Breaks tree r at

-- a text that breaks the rule at the place has a first fault, and it is none behind that one
abbrev pub BrokenAreFaultsOfFewNames : Rule → Type 0
BrokenAreFaultsOfFewNames r =
    (tree : TranslationUnit) (fault : Option Fault) (at : ℕ) → IsOfFewNames tree → IsFirstFault tree fault → Breaks tree r at → IsNotBehind fault r at
