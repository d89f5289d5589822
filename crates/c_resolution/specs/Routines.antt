-- Which start routine the creates of a text name for each thread object.
use Rattle.std.specs.Prelude.{ℕ, nat_eq, if◌then◌else◌, List, Option, Some, None, slice_get, slice_set}
use Rattle.c_program.specs.declared.tree.ThreadObject.{ThreadObject}
use Rattle.c_rules.specs.declared.fault.Rule.TheVariants as rule
use Rattle.c_rules.specs.declared.fault.Fault.{Fault}
use Rattle.c_rules.specs.declared.findings.Creation.{Creation}
use Rattle.c_rules.specs.Faults.{first}

abbrev pub with_routine : ℕ → ThreadObject → ℕ → List ThreadObject → List ThreadObject
with_routine number object routine threads = slice_set threads number (record { length = object.length; routine = Some routine })

-- a second create of an object may not name another routine
abbrev pub second_fault : Creation → ℕ → Option Fault
second_fault c routine = if nat_eq routine c.routine then None else Some (record { rule = rule.Threads; offset = c.offset })

-- the objects behind a create, and the fault in it
abbrev pub Given : Type 0
Given = List ThreadObject × Option Fault

abbrev pub given_to : Creation → ThreadObject → Option ℕ → List ThreadObject → Given
given_to c object None threads = (with_routine c.thread object c.routine threads, None)
given_to c object (Some routine) threads = (threads, second_fault c routine)

abbrev pub given_at : Creation → Option ThreadObject → List ThreadObject → Given
given_at c None threads = (threads, None)
given_at c (Some object) threads = given_to c object object.routine threads

abbrev pub given : Creation → List ThreadObject → Given
given c threads = given_at c (slice_get threads c.thread) threads

-- with the first fault so far
abbrev pub joined : Option Fault → Given → Given
joined fault g = (g.0, first fault g.1)

abbrev pub next_given : Given → Creation → Given
next_given g c = joined g.1 (given c g.0)
