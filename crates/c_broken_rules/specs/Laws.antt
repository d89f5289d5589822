-- The laws that join the rules to the first fault of a text.
use Rattle.std.specs.Prelude.{◌≡◌, ℕ, ◌<◌, ◌^◌, length, false, Option, Some}
use Rattle.c_tree.specs.declared.declaration.TranslationUnit.{TranslationUnit}
use Rattle.c_rules.specs.declared.fault.Rule.{Rule}
use Rattle.c_rules.specs.declared.fault.Fault.{Fault}
use Rattle.c_rules.specs.Faults.{is_before}
use Rattle.c_resolution.specs.Resolving.{IsFirstFault}
use Rattle.c_broken_rules.specs.Breaks.{Breaks, definitions}

-- a first fault of the rule is one that the text breaks
abbrev pub FaultsAreBroken : Rule → Type 0
FaultsAreBroken r = (tree : TranslationUnit) (at : ℕ) → IsFirstFault tree (Some (record { rule = r; offset = at })) → Breaks tree r at

-- a text that breaks the rule at the place has a first fault, and it is none behind that one
pub record IsNotBehind (fault : Option Fault) (r : Rule) (at : ℕ) : Type 0 where
  pub f : Fault
  pub is : fault ≡ Some f
  pub least : is_before (record { rule = r; offset = at }) f ≡ false

abbrev pub BrokenAreFaults : Rule → Type 0
BrokenAreFaults r = (tree : TranslationUnit) (fault : Option Fault) (at : ℕ) → IsFirstFault tree fault → Breaks tree r at → IsNotBehind fault r at

-- ---- the same of a text that defines fewer than 2 ^ 32 functions

abbrev pub IsOfFew : TranslationUnit → Type 0
IsOfFew tree = length (definitions tree.declarations) < 2 ^ 32

abbrev pub FaultsAreBrokenOfFew : Rule → Type 0
FaultsAreBrokenOfFew r = (tree : TranslationUnit) (at : ℕ) → IsOfFew tree → IsFirstFault tree (Some (record { rule = r; offset = at })) → Breaks tree r at

abbrev pub BrokenAreFaultsOfFew : Rule → Type 0
BrokenAreFaultsOfFew r = (tree : TranslationUnit) (fault : Option Fault) (at : ℕ) → IsOfFew tree → IsFirstFault tree fault → Breaks tree r at → IsNotBehind fault r at
