-- The whole thread rule: the first fault of a text that declares few names at file scope.
use Rattle.std.proofs.Common.{◌≡◌, refl, sym, subst, inl, inr, ℕ, Option, Some}
use Rattle.std.specs.Prelude.{◌⊎◌}
use Rattle.c_tree.specs.declared.declaration.TranslationUnit.{TranslationUnit}
use Rattle.c_rules.specs.declared.fault.Rule.{Rule}
use Rattle.c_rules.specs.declared.fault.Rule.TheVariants as rule
use Rattle.c_rules.specs.declared.fault.Fault.{Fault}
use Rattle.c_resolution.specs.Resolving.{IsFirstFault, behind, routines_given}
use Rattle.c_broken_rules.specs.Breaks.{Breaks}
use Rattle.c_broken_rules.proofs.Orders.{IsReached, reached_second, first_of_two}
use Rattle.c_broken_rules.specs.ThreadLaws.{fault_at, fault_of_creates, IsOfFewNames, FaultsAreBrokenOfFewNames, BrokenAreFaultsOfFewNames}
use Rattle.c_broken_rules.proofs.ThreadUses as j
use Rattle.c_broken_rules.proofs.Seconds.{second_sound, second_complete}
use Rattle.c_broken_rules.proofs.Firsts.{found_by_parts}
use Rattle.c_broken_rules.proofs.JudgedParts.{not_behind}

sound_by : (tree : TranslationUnit) (at : ℕ) (few : IsOfFewNames tree) (h : IsFirstFault tree (Some (fault_at at))) →
    (h.calls ≡ Some (fault_at at)) ⊎ (fault_of_creates tree ≡ Some (fault_at at)) → Breaks tree rule.Threads at
sound_by tree at few h (inl e) = j.found_breaks tree at (found_by_parts tree (fault_at at) tt h e)
sound_by tree at few h (inr e) = second_sound tree few at e

pub threads_sound : FaultsAreBrokenOfFewNames rule.Threads
threads_sound tree at few h =
    sound_by tree at few h (first_of_two h.calls (routines_given (behind tree.declarations)).1 (fault_at at) (sym h.is))

-- what the creates show is reached by the first fault
creates_reached : (tree : TranslationUnit) (fault : Option Fault) (x : Fault) → IsFirstFault tree fault → IsReached x (fault_of_creates tree) → IsReached x fault
creates_reached tree fault x h k = subst (IsReached x) (sym h.is) (reached_second x h.calls (routines_given (behind tree.declarations)).1 k)

complete_by : (tree : TranslationUnit) (fault : Option Fault) (r : Rule) (at : ℕ) → IsOfFewNames tree → IsFirstFault tree fault → (b : Breaks tree r at) → r ≡ rule.Threads →
    IsReached (fault_at at) fault
complete_by tree fault r at few h (Breaks.SecondRoutine i k object m q there place one first other lt differs) e =
    creates_reached tree fault (fault_at place) h (second_complete tree few i k object m q there place one first other lt differs)
complete_by tree fault r at few h b e = j.alone_reached tree fault r at h b e tt

pub threads_complete : BrokenAreFaultsOfFewNames rule.Threads
threads_complete tree fault at few h b = not_behind fault rule.Threads at (complete_by tree fault rule.Threads at few h b refl)
