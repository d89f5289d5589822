-- The rules on calls that only the whole text shows.
use Rattle.std.specs.Prelude.{◌≡◌, ℕ, ◌<◌, Bool, true, false, List, map, fold, length, Option, Some, None}
use Rattle.std.specs.Bool.{Decides}
use Rattle.c_call_graph.specs.declared.table.Call.{Call}
use Rattle.c_call_graph.specs.Reaching.{Leads}
use Rattle.c_program.specs.Tree.{Function}
use Rattle.c_rules.specs.declared.fault.Rule.{Rule}
use Rattle.c_rules.specs.declared.fault.Rule.TheVariants as rule
use Rattle.c_rules.specs.declared.fault.Fault.{Fault}
use Rattle.c_rules.specs.declared.findings.CallSite.{CallSite}
use Rattle.c_rules.specs.declared.findings.Findings.{Findings}
use Rattle.c_rules.specs.Faults.{first}

abbrev pub call_of : CallSite → Call
call_of site = record { caller = site.caller; callee = site.callee }

abbrev pub fault_if : Bool → Rule → ℕ → Option Fault
fault_if true r at = Some (record { rule = r; offset = at })
fault_if false r at = None

-- a call that leads back to its caller is broken
abbrev pub with_call : (ℕ → ℕ → Bool) → Option Fault → CallSite → Option Fault
with_call leads fault call = first fault (fault_if (leads call.callee call.caller) rule.Recursive call.offset)

-- the first fault, those of calls among them
pub record IsCallFault (functions : List Function) (found : Findings) (fault : Option Fault) : Type 0 where
  -- whether calls lead from one function to another, or they are the same
  pub leads : ℕ → ℕ → Bool
  pub decides : (from to : ℕ) →
      Decides (leads from to) ((from < length functions) × (to < length functions) × Leads (length functions) (map call_of found.calls) from to)
  pub is : fault ≡ fold (with_call leads) found.fault found.calls
