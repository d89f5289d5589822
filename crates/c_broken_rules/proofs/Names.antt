-- Unknown names: what the single findings of a walk write of them.
use Rattle.std.proofs.Common.{◌≡◌, ℕ, Bool, true, false, List, [], ◌∷◌, Option, None}
use Rattle.std.specs.Prelude.{◌⊎◌}
use Rattle.c_tree.specs.declared.expression.Name.{Name}
use Rattle.c_program.specs.Tree.{Expression}
use Rattle.c_rules.specs.declared.fault.Rule.{Rule}
use Rattle.c_rules.specs.declared.fault.Rule.TheVariants as rule
use Rattle.c_rules.specs.declared.fault.Fault.{Fault}
use Rattle.c_rules.specs.declared.names.ObjectKind.{ObjectKind}
use Rattle.c_rules.specs.declared.names.Known.{Known}
use Rattle.c_rules.specs.declared.names.Known.TheVariants as known
use Rattle.c_rules.specs.Walks.{finds, finds_if, finds_any, creates}
use Rattle.c_expressions.specs.Expressions as e
use Rattle.c_calls.specs.Arguments as a
use Rattle.c_rules.specs.Levels.{named_in}
use Rattle.c_broken_rules.specs.Sight.{Declared, Where}
use Rattle.c_broken_rules.specs.Breaks.{IsUnknown, StandsFor}
use Rattle.c_broken_rules.specs.Parts.{Part, Parts}
use Rattle.c_tree.specs.declared.declaration.Function.{Function}
use Rattle.c_broken_rules.proofs.Ledgers.{Ledger, Good}
use Rattle.c_broken_rules.proofs.Events.{IsOther}
use Rattle.c_broken_rules.proofs.Quiets as q
use Rattle.c_broken_rules.proofs.Quiets.{IsQuiet, OthersAreQuiet, CallsAreQuiet}
use Rattle.c_broken_rules.proofs.FaultLedgers as f
use Rattle.c_broken_rules.proofs.FaultLedgers.{fault_of, fault_ledger}

-- ---- what is judged here

abbrev pub IsJudged : Rule → Type 0
IsJudged rule.Unknown = Unit {0}
IsJudged r = ⊥

not_judged : (r : Rule) → IsOther r → IsJudged r → ⊥
not_judged rule.Unknown h j = h
not_judged r h j = j

-- a name that is known
abbrev pub IsKnown : Known → Type 0
IsKnown known.Unknown = ⊥
IsKnown x = Unit {0}

module _ (D : List (List ℕ × ℕ)) where
  -- a function that these definitions have not
  pub record IsUndefined (w : Where) (name : Name) : Type 0 where
    pub f : Function
    pub means : StandsFor w name (Declared.OfFunction f)
    pub never : named_in D f.name.bytes ≡ None

  abbrev pub BreaksAt : Part → Fault → Type 0
  BreaksAt (Part.Use w name) x = IsUnknown w name × (x ≡ fault_of rule.Unknown name.offset)
  BreaksAt (Part.Call w name) x = (IsUnknown w name ⊎ IsUndefined w name) × (x ≡ fault_of rule.Unknown name.offset)
  BreaksAt (Part.Routine w name) x = IsUndefined w name × (x ≡ fault_of rule.Unknown name.offset)
  BreaksAt other x = ⊥

  abbrev pub name_ledger : Ledger
  name_ledger = fault_ledger IsJudged BreaksAt

  pub other : (r : Rule) → (IsJudged r → ⊥) → IsQuiet name_ledger r
  other = f.other IsJudged BreaksAt

  pub others : OthersAreQuiet name_ledger
  others r at h = other r (not_judged r h) at

  pub part_fault : (part : Part) (at : ℕ) → BreaksAt part (fault_of rule.Unknown at) → ((z : Fault) → BreaksAt part z → z ≡ fault_of rule.Unknown at) →
      Good name_ledger (finds rule.Unknown at) (part ∷ [])
  part_fault part at = f.part_fault IsJudged BreaksAt part rule.Unknown at

  pub part_if : (b : Bool) (part : Part) (at : ℕ) → (b ≡ true → BreaksAt part (fault_of rule.Unknown at)) → ((z : Fault) → BreaksAt part z → z ≡ fault_of rule.Unknown at) →
      (b ≡ false → (z : Fault) → BreaksAt part z → ⊥) → Good name_ledger (finds_if b rule.Unknown at) (part ∷ [])
  part_if b part at = f.part_if IsJudged BreaksAt b part rule.Unknown at

  pub calls_quiet : CallsAreQuiet name_ledger
  calls_quiet = f.calls_quiet IsJudged BreaksAt

  pub creation_quiet : (thread routine at : ℕ) → Good name_ledger (creates thread routine at) []
  creation_quiet = f.creation_quiet IsJudged BreaksAt

  -- ---- names that are unknown

  pub unknown_value : (at indices : ℕ) (ps : Parts) → Good name_ledger (finds rule.Unknown at) ps → Good name_ledger (finds_any (e.misuse known.Unknown indices) at) ps
  unknown_value at indices ps h = record { writes = h.writes }

  pub unknown_object : (kind : ObjectKind) (name_at at indices : ℕ) (number : Option Expression) (ps : Parts) → Good name_ledger (finds rule.Unknown name_at) ps →
      Good name_ledger (a.object_named kind known.Unknown name_at at indices number) ps
  unfolding a.object_named
  unknown_object kind name_at at indices number ps h = q.misused_object name_ledger others known.Unknown name_at at ps (record { writes = h.writes })
