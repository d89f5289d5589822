-- What is known between two declarations or statements: the names in scope, and what was found so far.
use Rattle.c_rules.specs.declared.findings.Findings.{Findings}
use Rattle.c_rules.specs.declared.names.Scope.{Scope}
use Rattle.c_rules.specs.Walks.{Walk, Finds, Outcome}

pub record State : Type 0 where
  pub scope : Scope
  pub found : Findings

abbrev pub state : Scope → Findings → State
state scope found = record { scope = scope; found = found }

abbrev pub Goes : Type 0 → Type 0
Goes A = Walk State A

abbrev pub in_scope : {A : Type 0} → Scope → Outcome Findings A → Outcome State A
in_scope scope (Outcome.Gives a found) = Outcome.Gives a (state scope found)

-- a part that declares nothing
abbrev pub finding : {A : Type 0} → (Scope → Finds A) → Goes A
finding walk s = in_scope s.scope (walk s.scope s.found)

-- a change of the names in scope
abbrev pub scoping : (Scope → Scope) → Goes (Unit {0})
scoping change s = Outcome.Gives tt (state (change s.scope) s.found)
