-- Uses of objects, functions and parameters that break the thread rule: what the single findings of a walk write of them.
use Rattle.std.proofs.Common.{◌≡◌, ℕ, Bool, true, false, [], ◌∷◌, Some}
use Rattle.std.specs.Prelude.{◌⊎◌, not, is_none, ◌||◌}
use Rattle.c_tree.specs.declared.expression.Name.{Name}
use Rattle.c_tree.specs.declared.declaration.Function.{Function}
use Rattle.c_tree.specs.declared.declaration.Parameter.{Parameter}
use Rattle.c_rules.specs.declared.fault.Rule.{Rule}
use Rattle.c_rules.specs.declared.fault.Rule.TheVariants as rule
use Rattle.c_rules.specs.declared.fault.Fault.{Fault}
use Rattle.c_rules.specs.declared.library.LibraryFunction.TheVariants as library
use Rattle.c_rules.specs.declared.names.Meaning.TheVariants as meaning
use Rattle.c_rules.specs.declared.names.Known.TheVariants as known
use Rattle.c_rules.specs.declared.names.Scope.{Scope}
use Rattle.c_rules.specs.Library.{function_named}
use Rattle.c_rules.specs.Names.{gives_pointer}
use Rattle.c_rules.specs.Specifiers.{base_of}
use Rattle.c_rules.specs.Walks.{finds, finds_if, finds_any, creates}
use Rattle.c_expressions.specs.Callees as c
use Rattle.c_expressions.specs.Expressions as e
use Rattle.c_broken_rules.specs.Sight.{Declared, Where}
use Rattle.c_broken_rules.specs.Breaks.{StandsFor, IsMain, IsStartRoutine, IsThreadType, IsElsewhere}
use Rattle.c_broken_rules.specs.Parts.{Part, Parts}
use Rattle.c_broken_rules.proofs.Ledgers.{Ledger, Good}
use Rattle.c_broken_rules.specs.ThreadLaws.{fault_at}
use Rattle.c_broken_rules.proofs.Events.{IsOther}
use Rattle.c_broken_rules.proofs.Quiets.{IsQuiet, OthersAreQuiet, CallsAreQuiet}
use Rattle.c_broken_rules.proofs.FaultLedgers as f
use Rattle.c_broken_rules.proofs.FaultLedgers.{fault_ledger}

-- ---- what is judged here

abbrev pub IsJudged : Rule → Type 0
IsJudged rule.Threads = Unit {0}
IsJudged r = ⊥

-- main, or a start routine
pub record IsRun (w : Where) (name : Name) : Type 0 where
  pub f : Function
  pub means : StandsFor w name (Declared.OfFunction f)
  pub run : IsMain f ⊎ IsStartRoutine f

-- pthread_exit but in a start routine's own body
pub record IsExit (w : Where) (name : Name) : Type 0 where
  pub exit : function_named name.bytes ≡ Some library.Exit
  pub elsewhere : IsElsewhere w.body

-- the parameter of a start routine
pub record IsPointer (w : Where) (name : Name) : Type 0 where
  pub p : Parameter
  pub means : StandsFor w name (Declared.OfParameter p)
  pub pointer : p.is_pointer ≡ true

abbrev pub BreaksAt : Part → Fault → Type 0
BreaksAt (Part.Local words at) x = IsThreadType (base_of words.words) × (x ≡ fault_at at)
BreaksAt (Part.Call w name) x = (IsRun w name ⊎ IsExit w name) × (x ≡ fault_at name.offset)
BreaksAt (Part.Read w name) x = IsPointer w name × (x ≡ fault_at name.offset)
BreaksAt other x = ⊥

abbrev pub use_ledger : Ledger
use_ledger = fault_ledger IsJudged BreaksAt

pub other : (r : Rule) → (IsJudged r → ⊥) → IsQuiet use_ledger r
other = f.other IsJudged BreaksAt

not_judged : (r : Rule) → IsOther r → IsJudged r → ⊥
not_judged rule.Threads h j = h
not_judged r h j = j

pub others : OthersAreQuiet use_ledger
others r at h = other r (not_judged r h) at

pub part_fault : (part : Part) (at : ℕ) → BreaksAt part (fault_at at) → ((z : Fault) → BreaksAt part z → z ≡ fault_at at) → Good use_ledger (finds rule.Threads at) (part ∷ [])
part_fault part at = f.part_fault IsJudged BreaksAt part rule.Threads at

pub part_if : (b : Bool) (part : Part) (at : ℕ) → (b ≡ true → BreaksAt part (fault_at at)) → ((z : Fault) → BreaksAt part z → z ≡ fault_at at) →
    (b ≡ false → (z : Fault) → BreaksAt part z → ⊥) → Good use_ledger (finds_if b rule.Threads at) (part ∷ [])
part_if b part at = f.part_if IsJudged BreaksAt b part rule.Threads at

pub calls_quiet : CallsAreQuiet use_ledger
calls_quiet = f.calls_quiet IsJudged BreaksAt

pub creation_quiet : (thread routine at : ℕ) → Good use_ledger (creates thread routine at) []
creation_quiet = f.creation_quiet IsJudged BreaksAt

-- ---- uses that are faults

pub exit_is : (s : Scope) (at : ℕ) (ps : Parts) → Good use_ledger (finds_if (is_none s.function || not (gives_pointer s.gives)) rule.Threads at) ps →
    Good use_ledger (c.library_place s library.Exit at) ps
unfolding c.library_place
exit_is s at ps h = record { writes = h.writes }

pub argument_value : (at : ℕ) (ps : Parts) → Good use_ledger (finds rule.Threads at) ps → Good use_ledger (finds_any (e.misuse (known.Declared meaning.Argument) 0) at) ps
argument_value at ps h = record { writes = h.writes }
