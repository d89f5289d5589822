use Rattle.std.proofs.Common.{◌≡◌, [], map, take}
use Rattle.c_program.specs.Plain.{boxed_statement_of, expression_of, expressions_of}
use Rattle.c_rules.specs.Walks.{Outcome, through, visited}
use Rattle.c_expressions.specs.Chosen.{chosen_of}
use Rattle.c_expressions.specs.Cuts.{cut, cuts_of}
use Rattle.c_expressions.specs.Expressions.{meant, look, term, term_value, term_condition, choice, next_choice, argument, looked_argument, next_value}
use Rattle.c_expressions.proofs.expressions.+expressions.Given as goal

abbrev pub invariant-element_number-loop-index : goal.invariant-element_number-loop-index
invariant-element_number-loop-index l =
    visited look (map (meant l.scope) (take l.index-index l.indices)) l.initial.found ≡ Outcome.Gives tt l.found

abbrev pub invariant-look_at_argument-loop-index : goal.invariant-look_at_argument-loop-index
invariant-look_at_argument-loop-index l =
    visited look (map (meant l.scope) (take l.index-index l.index-items)) l.initial.found ≡ Outcome.Gives tt l.found

abbrev pub invariant-terms-loop-term : goal.invariant-terms-loop-term
invariant-terms-loop-term l =
    through (term_value l.scope l.at) (cut (cuts_of l.initial.cuts) (expression_of l.fn.first)) (map (term l.scope) (take l.term-index l.terms)) l.initial.found
    ≡ Outcome.Gives (cut (cuts_of l.cuts) (expression_of l.left)) l.found

abbrev pub invariant-look_at_arguments-loop-argument : goal.invariant-look_at_arguments-loop-argument
invariant-look_at_arguments-loop-argument l =
    visited (looked_argument l.scope) (take l.argument-index l.arguments) l.initial.found ≡ Outcome.Gives tt l.found

abbrev pub invariant-argument_values-loop-argument : goal.invariant-argument_values-loop-argument
invariant-argument_values-loop-argument l =
    through (next_value l.at) (cut (cuts_of l.initial.cuts) []) (map (argument l.scope) (take l.argument-index l.arguments)) l.initial.found
    ≡ Outcome.Gives (cut (cuts_of l.cuts) (expressions_of l.values.items)) l.found

abbrev pub invariant-choices-loop-choice : goal.invariant-choices-loop-choice
invariant-choices-loop-choice l =
    through (next_choice l.scope l.slot) (chosen_of l.fn.first) (map (choice l.scope) (take l.choice-index l.choices)) l.initial.found
    ≡ Outcome.Gives (chosen_of l.chosen) l.found

abbrev pub invariant-short_circuits-loop-term : goal.invariant-short_circuits-loop-term
invariant-short_circuits-loop-term l =
    through (term_condition l.scope l.slot) (boxed_statement_of l.fn.first) (map (term l.scope) (take l.term-index l.terms)) l.initial.found
    ≡ Outcome.Gives (boxed_statement_of l.whole) l.found
