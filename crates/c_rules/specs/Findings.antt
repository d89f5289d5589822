-- What is found in a part of a text: the first fault so far, and the calls that are judged once the whole text is seen.
use Rattle.std.specs.Prelude.{ℕ, Bool, true, false, Option, Some, None, [], ◌∷◌, ◌++◌}
use Rattle.c_rules.specs.declared.fault.Rule.{Rule}
use Rattle.c_rules.specs.declared.findings.Findings.{Findings}
use Rattle.c_rules.specs.Faults.{first}

abbrev pub nothing : Findings
nothing = record { fault = None; calls = []; creations = [] }

-- a rule is broken at the place
unfoldable pub broken : Rule → ℕ → Findings → Findings
broken rule at f = record f { fault = first f.fault (Some (record { rule = rule; offset = at })) }

-- the same, if so
abbrev pub broken_if : Bool → Rule → ℕ → Findings → Findings
broken_if true rule at f = broken rule at f
broken_if false rule at f = f

-- the rule, if there is one
abbrev pub broken_any : Option Rule → ℕ → Findings → Findings
broken_any (Some rule) at f = broken rule at f
broken_any None at f = f

-- a call of a defined function; one at file scope has no caller
abbrev pub called : Option ℕ → ℕ → ℕ → Findings → Findings
called None callee at f = f
called (Some caller) callee at f =
    record f { calls = f.calls ++ (record { caller = caller; callee = callee; offset = at }) ∷ [] }

-- a create of the thread object by the start routine
abbrev pub created : ℕ → ℕ → ℕ → Findings → Findings
created thread routine at f =
    record f { creations = f.creations ++ (record { thread = thread; routine = routine; offset = at }) ∷ [] }
