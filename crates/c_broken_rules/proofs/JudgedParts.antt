-- First faults by the rules that a ledger of faults judges: each is a part of the text, and each such part has a first fault that is
-- none behind it.
use Rattle.std.proofs.Common.{◌≡◌, sym, subst, ap, ℕ, Option, Some}
use Rattle.std.specs.Prelude.{Contains}
use Rattle.c_tree.specs.declared.declaration.TranslationUnit.{TranslationUnit}
use Rattle.c_rules.specs.declared.fault.Rule.{Rule}
use Rattle.c_rules.specs.declared.fault.Fault.{Fault}
use Rattle.c_rules.specs.Findings.{nothing}
use Rattle.c_resolution.specs.Resolving.{IsFirstFault, behind}
use Rattle.c_broken_rules.specs.Parts.{Part, parts}
use Rattle.c_broken_rules.specs.Breaks.{Breaks}
use Rattle.c_broken_rules.specs.Laws.{IsNotBehind}
use Rattle.c_broken_rules.proofs.Orders.{IsReached}
use Rattle.c_broken_rules.proofs.Ledgers.{Writes, any_contains, contains_any}
use Rattle.c_broken_rules.proofs.Firsts.{IsAlone, found_in_parts, first_is_reached}
use Rattle.c_broken_rules.proofs.FaultLedgers.{fault_of, fault_ledger, new_from}

-- a part of the text is the fault
abbrev pub IsPart : (Part → Fault → Type 0) → TranslationUnit → Fault → Type 0
IsPart BreaksAt tree f = (part : Part) × Contains (parts tree) part × BreaksAt part f

module _ (IsJudged : Rule → Type 0) (BreaksAt : Part → Fault → Type 0) (tree : TranslationUnit)
    (writes : Writes (fault_ledger IsJudged BreaksAt) nothing (behind tree.declarations).found (parts tree)) where
  pub found_part : (f : Fault) → IsJudged f.rule → (behind tree.declarations).found.fault ≡ Some f → IsPart BreaksAt tree f
  found_part f judged h = any_contains (λ part. BreaksAt part f) (parts tree) (new_from IsJudged BreaksAt (parts tree) f judged (writes.from f h))

  pub first_part : (f : Fault) → IsAlone f.rule → IsJudged f.rule → IsFirstFault tree (Some f) → IsPart BreaksAt tree f
  first_part f alone judged h = found_part f judged (found_in_parts tree f alone h)

  pub part_reached : (fault : Option Fault) (f : Fault) → IsFirstFault tree fault → IsPart BreaksAt tree f → IsReached f fault
  part_reached fault f h p = first_is_reached tree fault f h (writes.finds f (contains_any (λ part. BreaksAt part f) (parts tree) p.0 p.1 p.2))

-- faults that are the same are at the same place
pub at_place : (tree : TranslationUnit) (r : Rule) (at there : ℕ) → fault_of r at ≡ fault_of r there → Breaks tree r there → Breaks tree r at
at_place tree r at there e b = subst (λ k. Breaks tree r k) (sym (ap (λ (f : Fault). f.offset) e)) b

pub not_behind : (fault : Option Fault) (r : Rule) (at : ℕ) → IsReached (fault_of r at) fault → IsNotBehind fault r at
not_behind fault r at h = record { f = h.f; is = h.is; least = h.least }
