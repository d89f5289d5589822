-- The thread rule, but for second routines: the parts that break it, and the first fault of a text.
use Rattle.std.proofs.Common.{◌≡◌, refl, sym, subst, inl, inr, ℕ, Option, Some}
use Rattle.std.specs.Prelude.{◌≢◌, ◌⊎◌, Contains}
use Rattle.c_tree.specs.declared.expression.Name.{Name}
use Rattle.c_tree.specs.declared.declaration.TranslationUnit.{TranslationUnit}
use Rattle.c_rules.specs.declared.fault.Rule.{Rule}
use Rattle.c_rules.specs.declared.fault.Rule.TheVariants as rule
use Rattle.c_rules.specs.declared.fault.Fault.{Fault}
use Rattle.c_resolution.specs.Resolving.{IsFirstFault, behind}
use Rattle.c_broken_rules.specs.Sight.{Where}
use Rattle.c_broken_rules.specs.Parts.{Part, parts}
use Rattle.c_broken_rules.specs.Breaks.{Breaks, IsMain, IsStartRoutine}
use Rattle.c_broken_rules.proofs.Orders.{IsReached, first_of_two}
use Rattle.c_broken_rules.proofs.Firsts.{found_by_parts}
use Rattle.c_broken_rules.specs.ThreadLaws.{fault_at, fault_of_creates, IsAlone, FaultsAreBrokenAlone, BrokenAloneAreFaults}
use Rattle.c_broken_rules.proofs.JudgedParts.{IsPart, found_part, part_reached, at_place, not_behind}
use Rattle.c_broken_rules.proofs.Uses.{IsJudged, BreaksAt, IsRun, IsExit}
use Rattle.c_broken_rules.proofs.UseScope.{text_uses}

-- ---- a first fault that the creates do not show was found in the parts

in_calls : (calls given : Option Fault) (f : Fault) → given ≢ Some f → (calls ≡ Some f) ⊎ (given ≡ Some f) → calls ≡ Some f
in_calls calls given f out (inl e) = e
in_calls calls given f out (inr e) = absurd (out e)

found_in_parts : (tree : TranslationUnit) (at : ℕ) → IsFirstFault tree (Some (fault_at at)) → fault_of_creates tree ≢ Some (fault_at at) →
    (behind tree.declarations).found.fault ≡ Some (fault_at at)
found_in_parts tree at h out =
    let f = fault_at at in
    found_by_parts tree f tt h (in_calls h.calls (fault_of_creates tree) f out (first_of_two h.calls (fault_of_creates tree) f (sym h.is)))

-- ---- the rule

module _ (tree : TranslationUnit) where
  run_breaks : (w : Where) (name : Name) (u : IsRun w name) → Contains (parts tree) (Part.Call w name) → IsMain u.f ⊎ IsStartRoutine u.f → Breaks tree rule.Threads name.offset
  run_breaks w name u c (inl k) = Breaks.MainCalled w name u.f c u.means k
  run_breaks w name u c (inr k) = Breaks.RoutineCalled w name u.f c u.means k

  call_breaks : (w : Where) (name : Name) → Contains (parts tree) (Part.Call w name) → IsRun w name ⊎ IsExit w name → Breaks tree rule.Threads name.offset
  call_breaks w name c (inl u) = run_breaks w name u c u.run
  call_breaks w name c (inr u) = Breaks.ExitElsewhere w name c u.exit u.elsewhere

  part_breaks : (at : ℕ) (part : Part) → Contains (parts tree) part → BreaksAt part (fault_at at) → Breaks tree rule.Threads at
  part_breaks at (Part.Local words there) c h = at_place tree rule.Threads at there h.1 (Breaks.LocalObject words there c h.0)
  part_breaks at (Part.Call w name) c h = at_place tree rule.Threads at name.offset h.1 (call_breaks w name c h.0)
  part_breaks at (Part.Read w name) c h = at_place tree rule.Threads at name.offset h.1 (Breaks.ParameterRead w name h.0.p c h.0.means h.0.pointer)
  part_breaks at other c h = absurd h

  pub found_breaks : (at : ℕ) → (behind tree.declarations).found.fault ≡ Some (fault_at at) → Breaks tree rule.Threads at
  found_breaks at h =
      let p = found_part IsJudged BreaksAt tree (text_uses tree) (fault_at at) tt h in
      part_breaks at p.0 p.1 p.2

  sound : (at : ℕ) → IsFirstFault tree (Some (fault_at at)) → fault_of_creates tree ≢ Some (fault_at at) → Breaks tree rule.Threads at
  sound at h out = found_breaks at (found_in_parts tree at h out)

  -- what breaks the rule by itself is a part
  abbrev Broken : Rule → ℕ → Type 0
  Broken rule.Threads at = IsPart BreaksAt tree (fault_at at)
  Broken r at = Unit {0}

  broken_part : (r : Rule) (at : ℕ) (b : Breaks tree r at) → IsAlone tree r at b → Broken r at
  broken_part r at (Breaks.LocalObject words place c o) one = (Part.Local words place, c, (o, refl))
  broken_part r at (Breaks.MainCalled w name f c m k) one = (Part.Call w name, c, (inl (record { f = f; means = m; run = inl k }), refl))
  broken_part r at (Breaks.RoutineCalled w name f c m k) one = (Part.Call w name, c, (inl (record { f = f; means = m; run = inr k }), refl))
  broken_part r at (Breaks.ParameterRead w name p c m k) one = (Part.Read w name, c, (record { p = p; means = m; pointer = k }, refl))
  broken_part r at (Breaks.ExitElsewhere w name c x k) one = (Part.Call w name, c, (inr (record { exit = x; elsewhere = k }), refl))
  broken_part r at (Breaks.SecondRoutine i j object s k there place o f x b d) one = absurd one
  broken_part r at other one = tt

  -- it is reached by the first fault
  pub alone_reached : (fault : Option Fault) (r : Rule) (at : ℕ) → IsFirstFault tree fault → (b : Breaks tree r at) → r ≡ rule.Threads → IsAlone tree r at b → IsReached (fault_at at) fault
  alone_reached fault r at h b e one =
      part_reached IsJudged BreaksAt tree (text_uses tree) fault (fault_at at) h (subst (λ r. Broken r at) e (broken_part r at b one))

pub uses_sound : FaultsAreBrokenAlone
uses_sound tree at h out = sound tree at h out

pub uses_complete : BrokenAloneAreFaults
uses_complete tree fault at b h one = not_behind fault rule.Threads at (alone_reached tree fault rule.Threads at h b refl one)
