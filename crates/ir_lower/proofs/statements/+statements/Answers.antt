use Rattle.std.proofs.Common.{◌≡◌, ◌+◌, ◌-◌, true, false, length, None, Some, refl, sym, ap, ◌∙◌, subst, arith, rules}
use Rattle.std.proofs.lemmas.Grind.{common_steps}
use Rattle.std.specs.Prelude.{is_some, slice_get}
use Rattle.std.proofs.lemmas.Result.{on_ok_weaker, IfErr-weaker, MatchResult-weaker, err_from_is_err_and}
use Rattle.std.proofs.lemmas.Bool.{and_parts}
use Rattle.std.proofs.lemmas.Option.{slice_get_within}
use Rattle.c_program.specs.Limits.{print_count}
use Rattle.c_program.specs.Calls.{calls_of}
use Rattle.c_program.specs.Plain.{expression_of, function_of, program_of, expressions_of, statement_of}
use Rattle.c_program.specs.Resolved.{IsCondition}
use Rattle.c_program.specs.Tree.{Statement}
use Rattle.code_places.specs.Control.{with_label}
use Rattle.code_places.specs.Doing.{at_site, IsBackTarget, Leads}
use Rattle.code_places.specs.Weighing.{inlined_weight}
use Rattle.code_control.specs.Deciding.{is_cut, is_asked, Decides, IsFullAsked}
use Rattle.code_control.specs.Branching.{OpensTurn}
use Rattle.code_places.specs.declared.lowering.Lowering.{Lowering}
use Rattle.code_places.specs.declared.targets.Loop.{Loop}
use Rattle.ir_lower.specs.Switching.{labels_of, Awaits, LowersCases}
use Rattle.ir_lower.specs.Taken.{has_turning, is_taken}
use Rattle.code_places.proofs.CodeGrowth.{begun_reached, stage_reached}
use Rattle.code_places.proofs.LabelSteps.{None_, advances_both, labels_more}
use Rattle.code_places.proofs.OpenLabels.{label_open}
use Rattle.code_control.proofs.BoundLabels.{choice_open, body_open, leaving_open}
use Rattle.code_control.proofs.ControlGrowth.{opens_choice, opens_turn, opens_for, asks_not, asks_there, closes_do}
use Rattle.code_control.proofs.Cuts.{sequence_decides, cut_at, rest_at, through_both, choice_through, truth_leads, truth_through, truth_proceeds, truth_full}
use Rattle.code_control.proofs.Decisions.{both_decides, either_decides, opposite_decides, test_decides}
use Rattle.code_places.proofs.OpenParts.{proceeds_both, proceeds_same, targets_after, back_after}
use Rattle.code_control.proofs.OpenControl.{choice_advance, choice_proceeds}
use Rattle.code_control.proofs.OpenControl.{choice_targets, choice_back_first, choice_back_target, choice_apart, join_open, false_open, join_open_after}
use Rattle.code_control.proofs.OpenControl.{while_proceeds, while_targets, while_head, while_leaving, do_proceeds, do_targets}
use Rattle.code_control.proofs.OpenControl.{do_turning, do_leaving, do_apart, do_back_before, for_proceeds, for_targets, for_turning, for_head, for_leaving}
use Rattle.code_control.proofs.OpenControl.{turn_back_target, do_back_target, bound_back_target, for_back_target}
use Rattle.ir_lower.proofs.OpenProgram.{taken_body}
use Rattle.ir_lower.proofs.TakenParts.{sequence_taken, if_taken, while_taken, do_taken, for_taken, cut_taken, truth_asked, asked_both, asked_cut, cut_choice}
use Rattle.ir_lower.proofs.ConditionTargets.{labelled_target, relabelled_target, second_target, rest_target}
use Rattle.ir_lower.proofs.OpenSwitches.{switch_awaits, past_open, switch_proceeds, awaits_first, awaits_rest}
use Rattle.ir_lower.proofs.SwitchBodies.{labels_sum, both_lowers, is_single, label_lowers, single_lowers, first_cases_for, rest_cases_for, single_cases_for}
use Rattle.ir_lower.proofs.SwitchSteps.{switch_leads, switch_head_for, switch_body_for}
use Rattle.ir_lower.proofs.ThroughCalls.{call_through}
use Rattle.code_calls.proofs.OpenCalls.{call_back_target}
use Rattle.code_calls.proofs.OpenCalls.{done_open, done_back, calls_proceed}
use Rattle.code_calls.proofs.Callees.{call_lowers}
use Rattle.ir_lower.proofs.Sizes.{nested_size, measure_falls}
use Rattle.code_control.proofs.ControlSize.{skipped_for, block_for, choice_condition, one_for, other_for, while_condition, while_body, do_body, do_condition, for_first}
use Rattle.code_control.proofs.ControlSize.{for_condition, for_body, for_last}
use Rattle.code_control.proofs.ControlSize.{behind_more, behind_first, full_is, for_skipped, shifted_at, opposite_at, test_at, first_at, second_at, turn_at, bound_at}
use Rattle.code_calls.proofs.Overfull.{call_too_deep, call_unknown, call_body, call_closing, call_for}
use Rattle.code_control.proofs.NestedStatements.{skips, simple_lowers, block_lowers, choice_lowers, while_lowers, do_lowers, for_lowers, via_more, via_last}
use Rattle.ir_lower.proofs.StatementSteps.{match_ok, match_err, on_ok_both}
use Rattle.ir_lower.proofs.Whole.{get_none}
use Rattle.ir_lower.proofs.statements.+statements.Goals as goal
use Rattle.lists.proofs.Places.{get_mapped}

pub lower_statement-loop-rest-preserved : goal.lower_statement-loop-rest-preserved
lower_statement-loop-rest-preserved t c =
    let is : statement_of c.loop-rest.rest.now ≡ Statement.Sequence (statement_of c.deref.result.now) (statement_of c.deref-rest.result.now) =
    ap statement_of c.in-Sequence.is ∙ ap (λ z. Statement.Sequence (statement_of z) (statement_of c.in-Sequence.next.value)) (sym c.deref.ensures)
    ∙ ap (λ z. Statement.Sequence (statement_of c.deref.result.now) (statement_of z)) (sym c.deref-rest.ensures) in
    let part = and_parts (is_taken (is_some c.args.around) (has_turning c.args.around) (statement_of c.deref.result.now)) (is_taken (is_some c.args.around) (has_turning c.args.around) (statement_of c.deref-rest.result.now))
    (sym (ap (is_taken (is_some c.args.around) (has_turning c.args.around)) is) ∙ c.loop-rest.invariant.taken) in
    record {
      taken = part.1;
      through = λ cut on.
          let before = c.loop-rest.invariant.through cut on in
          let parts = and_parts (is_cut (statement_of c.deref.result.now)) (is_cut (statement_of c.deref-rest.result.now)) (sym (ap is_cut is) ∙ before.0) in (
            parts.1,
            through_both c.args.code.now c.loop-rest.code c.lower_statement.new.code c.in_ok-lower_statement.ensures.labels.advances before.1
                (c.in_ok-lower_statement.ensures.cut parts.0 before.1.reached),
          );
      proceeds = proceeds_both c.args.around c.args.code.now c.loop-rest.code c.lower_statement.new.code c.loop-rest.invariant.proceeds c.in_ok-lower_statement.ensures.labels;
      less = (let size = ap nested_size is in let before = c.loop-rest.invariant.less in omega (arith, size, before));
      behind =
          behind_more (program_of c.args.program.now) c.args.depth c.args.around (statement_of c.args.statement.now) (statement_of c.loop-rest.rest.now)
          (statement_of c.deref.result.now) (statement_of c.deref-rest.result.now)
          c.args.code.now c.loop-rest.code c.lower_statement.new.code c.loop-rest.invariant.behind is c.in_ok-lower_statement.ensures.lowers;
      via =
          via_more (program_of c.args.program.now) c.args.around (statement_of c.args.statement.now) (statement_of c.loop-rest.rest.now) (statement_of c.deref.result.now)
          (statement_of c.deref-rest.result.now) c.args.code.now
          c.loop-rest.code c.lower_statement.new.code c.loop-rest.invariant.via is c.in_ok-lower_statement.ensures.lowers;
    }

pub lower_statement-returns-then-not-is_reached-clause-labels : goal.lower_statement-returns-then-not-is_reached-clause-labels
lower_statement-returns-then-not-is_reached-clause-labels t c =
    proceeds_both c.args.around c.args.code.now c.loop-rest.code c.skip_sites.new.self c.loop-rest.invariant.proceeds
    (proceeds_same c.loop-rest.code c.skip_sites.new.self (ap (λ (z : Lowering). z.stages) c.in_ok-skip_sites.ensures.after) (ap (λ (z : Lowering). z.reached) c.in_ok-skip_sites.ensures.after)
    (ap (λ (z : Lowering). z.back) c.in_ok-skip_sites.ensures.after) (let e = ap (λ (z : Lowering). z.block.steps) c.in_ok-skip_sites.ensures.after in omega (arith, e)) c.args.around)

pub lower_statement-returns-in_ok-bind-in-If-clause-labels : goal.lower_statement-returns-in_ok-bind-in-If-clause-labels
lower_statement-returns-in_ok-bind-in-If-clause-labels t c =
    proceeds_both c.args.around c.args.code.now c.loop-rest.code c.bind.new.self c.loop-rest.invariant.proceeds
    (choice_proceeds c.args.around (program_of c.args.program.now) (statement_of c.deref-in-If.result.now) c.in_ok-labels-in-If.labels c.loop-rest.code c.open_choice.new.code c.lower_statement-in-If.new.code
    c.turn_choice.new.code c.lower_statement-in-If-2.new.code c.bind.new.self (sym c.is_reached.ensures ∙ c.if-not-is_reached.false) c.in_ok-labels-in-If.ensures
    c.in_ok-lower_statement-in-If.ensures.labels c.in_ok-turn_choice-in-If.ensures
    c.in_ok-lower_statement-in-If-2.ensures.labels c.in_ok-bind-in-If.ensures)

pub lower_statement-returns-in_ok-close_turn-in-While-clause-labels : goal.lower_statement-returns-in_ok-close_turn-in-While-clause-labels
lower_statement-returns-in_ok-close_turn-in-While-clause-labels t c =
    proceeds_both c.args.around c.args.code.now c.loop-rest.code c.close_turn.new.code c.loop-rest.invariant.proceeds
    (while_proceeds c.args.around _ (program_of c.args.program.now) (statement_of c.deref-in-While.result.now) c.in_ok-labels-in-While.labels c.loop-rest.code c.open_turn.new.code c.lower_statement-in-While.new.code
    c.close_turn.new.code (sym c.is_reached.ensures ∙ c.if-not-is_reached.false) c.in_ok-labels-in-While.ensures c.in_ok-lower_statement-in-While.ensures.labels c.in_ok-close_turn-in-While.ensures)

pub lower_statement-returns-in_ok-close_for-in-For-clause-labels : goal.lower_statement-returns-in_ok-close_for-in-For-clause-labels
lower_statement-returns-in_ok-close_for-in-For-clause-labels t c =
    proceeds_both c.args.around c.args.code.now c.loop-rest.code c.close_for.new.code c.loop-rest.invariant.proceeds
    (for_proceeds (program_of c.args.program.now) (statement_of c.deref-in-For-3.result.now) c.in_ok-labels-in-For.labels _ _ c.open_turn-in-For.new.code c.lower_statement-in-For-2.new.code c.turn_for.new.code
    c.lower_statement-in-For-3.new.code c.site-last_site.result
    (opens_for (program_of c.args.program.now) (statement_of c.deref-in-For-3.result.now) c.in_ok-labels-in-For.labels
    (c.lower_statement-in-For.new.code.site + print_count (statement_of c.deref-in-For-2.result.now)) c.lower_statement-in-For.new.code c.skip_sites-in-For.new.self c.open_turn-in-For.new.code
    (c.in_ok-skip_sites-in-For.ensures.after ∙ ap (λ n. at_site (c.lower_statement-in-For.new.code.site + n) c.lower_statement-in-For.new.code) c.in_ok-print_count-in-For.ensures.count)
    c.in_ok-labels-in-For.ensures) c.in_ok-lower_statement-in-For-2.ensures.labels c.in_ok-turn_for-in-For.ensures c.in_ok-lower_statement-in-For-3.ensures.labels
    c.close_for.new.code c.site-after.result c.in_ok-close_for-in-For.ensures c.args.around c.loop-rest.code c.lower_statement-in-For.new.code
    (sym c.is_reached.ensures ∙ c.if-not-is_reached.false) c.in_ok-lower_statement-in-For.ensures.labels refl refl refl (omega arith))

pub lower_statement-lower_statement-requires : goal.lower_statement-lower_statement-requires
lower_statement-lower_statement-requires t c =
    let is : statement_of c.loop-rest.rest.now ≡ Statement.Sequence (statement_of c.deref.result.now) (statement_of c.in-Sequence.next.value) =
    ap statement_of c.in-Sequence.is ∙ ap (λ z. Statement.Sequence (statement_of z) (statement_of c.in-Sequence.next.value)) (sym c.deref.ensures) in (
      (let size = ap nested_size is in let before = c.loop-rest.invariant.less in omega (arith, size, before)),
      (
        c.requires.functions,
        (
          (and_parts (is_taken (is_some c.args.around) (has_turning c.args.around) (statement_of c.deref.result.now)) (is_taken (is_some c.args.around) (has_turning c.args.around) (statement_of c.in-Sequence.next.value))
              (sym (ap (is_taken (is_some c.args.around) (has_turning c.args.around)) (is)) ∙ c.loop-rest.invariant.taken)).0,
          (
            targets_after c.args.around c.args.code.now.stages c.loop-rest.code.stages c.loop-rest.invariant.proceeds.advances c.requires.targets,
            back_after c.args.code.now c.loop-rest.code c.loop-rest.invariant.proceeds.advances c.loop-rest.invariant.proceeds.back c.requires.back,
          ),
        ),
      ),
    )

pub lower_statement-lower_statement-requires-in-Block : goal.lower_statement-lower_statement-requires-in-Block
lower_statement-lower_statement-requires-in-Block t c =
    let is : statement_of c.loop-rest.rest.now ≡ Statement.Block (statement_of c.deref-in-Block.result.now) =
    ap statement_of c.in-Block.is ∙ ap (λ z. Statement.Block (statement_of z)) (sym c.deref-in-Block.ensures) in (
      (let size = ap nested_size is in let before = c.loop-rest.invariant.less in omega (arith, size, before)),
      (
        c.requires.functions,
        (
          sym (ap (is_taken (is_some c.args.around) (has_turning c.args.around)) is) ∙ c.loop-rest.invariant.taken,
          (
            targets_after c.args.around c.args.code.now.stages c.loop-rest.code.stages c.loop-rest.invariant.proceeds.advances c.requires.targets,
            back_after c.args.code.now c.loop-rest.code c.loop-rest.invariant.proceeds.advances c.loop-rest.invariant.proceeds.back c.requires.back,
          ),
        ),
      ),
    )

pub lower_statement-lower_statement-requires-in-If : goal.lower_statement-lower_statement-requires-in-If
lower_statement-lower_statement-requires-in-If t c =
    let d = statement_of c.deref-in-If.result.now in
    let one = statement_of c.deref-in-If-2.result.now in
    let other = statement_of c.in-If.alternative.value in
    let is : statement_of c.loop-rest.rest.now ≡ Statement.If d one other =
    ap statement_of c.in-If.is
    ∙ ap (λ z. Statement.If (statement_of z) (statement_of c.in-If.consequent.value) (statement_of c.in-If.alternative.value)) (sym c.deref-in-If.ensures)
    ∙ ap (λ z. Statement.If (statement_of c.deref-in-If.result.now) (statement_of z) (statement_of c.in-If.alternative.value)) (sym c.deref-in-If-2.ensures) in (
      (let size = ap nested_size is in let before = c.loop-rest.invariant.less in omega (arith, size, before)),
      (
        c.requires.functions,
        (
          (if_taken (is_some c.args.around) (has_turning c.args.around) (statement_of c.loop-rest.rest.now) d one other is c.loop-rest.invariant.taken).1,
          (
            targets_after c.args.around c.args.code.now.stages c.open_choice.new.code.stages
                (advances_both None_ c.args.code.now.stages c.loop-rest.code.stages c.open_choice.new.code.stages c.loop-rest.invariant.proceeds.advances
                (choice_advance (program_of c.args.program.now) d c.in_ok-labels-in-If.labels c.loop-rest.code c.open_choice.new.code c.in_ok-labels-in-If.ensures))
                c.requires.targets,
            choice_back_first c.args.around (program_of c.args.program.now) d c.in_ok-labels-in-If.labels c.args.code.now c.loop-rest.code c.open_choice.new.code c.requires.back
                c.loop-rest.invariant.proceeds c.in_ok-labels-in-If.ensures,
          ),
        ),
      ),
    )

pub lower_statement-lower_statement-requires-in-If-2 : goal.lower_statement-lower_statement-requires-in-If-2
lower_statement-lower_statement-requires-in-If-2 t c =
    let d = statement_of c.deref-in-If.result.now in
    let one = statement_of c.deref-in-If-2.result.now in
    let other = statement_of c.deref-in-If-3.result.now in
    let is : statement_of c.loop-rest.rest.now ≡ Statement.If d one other =
    ap statement_of c.in-If.is
    ∙ ap (λ z. Statement.If (statement_of z) (statement_of c.in-If.consequent.value) (statement_of c.in-If.alternative.value)) (sym c.deref-in-If.ensures)
    ∙ ap (λ z. Statement.If (statement_of c.deref-in-If.result.now) (statement_of z) (statement_of c.in-If.alternative.value)) (sym c.deref-in-If-2.ensures)
    ∙ ap (λ z. Statement.If (statement_of c.deref-in-If.result.now) (statement_of c.deref-in-If-2.result.now) (statement_of z)) (sym c.deref-in-If-3.ensures) in (
      (let size = ap nested_size is in let before = c.loop-rest.invariant.less in omega (arith, size, before)),
      (
        c.requires.functions,
        (
          (if_taken (is_some c.args.around) (has_turning c.args.around) (statement_of c.loop-rest.rest.now) d one other is c.loop-rest.invariant.taken).2,
          (
            choice_targets c.args.around (program_of c.args.program.now) d c.in_ok-labels-in-If.labels c.args.code.now c.loop-rest.code c.open_choice.new.code
                c.lower_statement-in-If.new.code c.turn_choice.new.code
                c.requires.targets c.loop-rest.invariant.proceeds c.in_ok-labels-in-If.ensures c.in_ok-lower_statement-in-If.ensures.labels c.in_ok-turn_choice-in-If.ensures,
            choice_back_target c.args.around (program_of c.args.program.now) d c.in_ok-labels-in-If.labels c.args.code.now c.loop-rest.code c.open_choice.new.code
                c.lower_statement-in-If.new.code c.turn_choice.new.code
                c.requires.back c.loop-rest.invariant.proceeds c.in_ok-labels-in-If.ensures c.in_ok-lower_statement-in-If.ensures.labels c.in_ok-turn_choice-in-If.ensures,
          ),
        ),
      ),
    )

pub lower_statement-open_choice-requires : goal.lower_statement-open_choice-requires
lower_statement-open_choice-requires t c =
    let d = statement_of c.deref-in-If.result.now in
    let one = statement_of c.in-If.consequent.value in
    let other = statement_of c.in-If.alternative.value in
    let is : statement_of c.loop-rest.rest.now ≡ Statement.If d one other =
    ap statement_of c.in-If.is
    ∙ ap (λ z. Statement.If (statement_of z) (statement_of c.in-If.consequent.value) (statement_of c.in-If.alternative.value)) (sym c.deref-in-If.ensures) in (
      (let size = ap nested_size is in let before = c.loop-rest.invariant.less in omega (arith, size, before)),
      (
        c.requires.functions,
        (
          (if_taken (is_some c.args.around) (has_turning c.args.around) (statement_of c.loop-rest.rest.now) d one other is c.loop-rest.invariant.taken).0,
          (
            back_after c.args.code.now c.loop-rest.code c.loop-rest.invariant.proceeds.advances c.loop-rest.invariant.proceeds.back c.requires.back,
            sym c.is_reached.ensures ∙ c.if-not-is_reached.false,
          ),
        ),
      ),
    )

pub lower_statement-lower_statement-requires-in-While : goal.lower_statement-lower_statement-requires-in-While
lower_statement-lower_statement-requires-in-While t c =
    let d = statement_of c.deref-in-While.result.now in
    let body = statement_of c.deref-in-While-2.result.now in
    let is : statement_of c.loop-rest.rest.now ≡ Statement.While d body =
    ap statement_of c.in-While.is
    ∙ ap (λ z. Statement.While (statement_of z) (statement_of c.in-While.body.value)) (sym c.deref-in-While.ensures)
    ∙ ap (λ z. Statement.While (statement_of c.deref-in-While.result.now) (statement_of z)) (sym c.deref-in-While-2.ensures) in (
      (let size = ap nested_size is in let before = c.loop-rest.invariant.less in omega (arith, size, before)),
      (
        c.requires.functions,
        (
          (while_taken (is_some c.args.around) (has_turning c.args.around) (statement_of c.loop-rest.rest.now) d body is c.loop-rest.invariant.taken).1,
          (
            while_targets (program_of c.args.program.now) d c.in_ok-labels-in-While.labels c.loop-rest.code c.open_turn.new.code c.in_ok-labels-in-While.ensures,
            turn_back_target (program_of c.args.program.now) d c.in_ok-labels-in-While.labels c.loop-rest.code c.open_turn.new.code c.in_ok-labels-in-While.ensures
                (back_after c.args.code.now c.loop-rest.code c.loop-rest.invariant.proceeds.advances c.loop-rest.invariant.proceeds.back c.requires.back),
          ),
        ),
      ),
    )

pub lower_statement-open_turn-requires : goal.lower_statement-open_turn-requires
lower_statement-open_turn-requires t c =
    let d = statement_of c.deref-in-While.result.now in
    let body = statement_of c.in-While.body.value in
    let is : statement_of c.loop-rest.rest.now ≡ Statement.While d body =
    ap statement_of c.in-While.is
    ∙ ap (λ z. Statement.While (statement_of z) (statement_of c.in-While.body.value)) (sym c.deref-in-While.ensures) in (
      (let size = ap nested_size is in let before = c.loop-rest.invariant.less in omega (arith, size, before)),
      (
        c.requires.functions,
        (
          (while_taken (is_some c.args.around) (has_turning c.args.around) (statement_of c.loop-rest.rest.now) d body is c.loop-rest.invariant.taken).0,
          back_after c.args.code.now c.loop-rest.code c.loop-rest.invariant.proceeds.advances c.loop-rest.invariant.proceeds.back c.requires.back,
        ),
      ),
    )

pub lower_statement-lower_statement-requires-in-DoWhile : goal.lower_statement-lower_statement-requires-in-DoWhile
lower_statement-lower_statement-requires-in-DoWhile t c =
    let body = statement_of c.deref-in-DoWhile.result.now in
    let d = statement_of c.in-DoWhile.condition.value in
    let is : statement_of c.loop-rest.rest.now ≡ Statement.DoWhile body d =
    ap statement_of c.in-DoWhile.is
    ∙ ap (λ z. Statement.DoWhile (statement_of z) (statement_of c.in-DoWhile.condition.value)) (sym c.deref-in-DoWhile.ensures) in (
      (let size = ap nested_size is in let before = c.loop-rest.invariant.less in omega (arith, size, before)),
      (
        c.requires.functions,
        (
          (do_taken (is_some c.args.around) (has_turning c.args.around) (statement_of c.loop-rest.rest.now) body d is c.loop-rest.invariant.taken).0,
          (
            do_targets c.in_ok-labels-in-DoWhile.labels c.loop-rest.code c.open_loop.new.code c.in_ok-labels-in-DoWhile.ensures,
            do_back_target c.in_ok-labels-in-DoWhile.labels c.loop-rest.code c.open_loop.new.code c.in_ok-labels-in-DoWhile.ensures
                (back_after c.args.code.now c.loop-rest.code c.loop-rest.invariant.proceeds.advances c.loop-rest.invariant.proceeds.back c.requires.back),
          ),
        ),
      ),
    )

pub lower_statement-close_do-requires : goal.lower_statement-close_do-requires
lower_statement-close_do-requires t c =
    let body = statement_of c.deref-in-DoWhile.result.now in
    let d = statement_of c.deref-in-DoWhile-2.result.now in
    let is : statement_of c.loop-rest.rest.now ≡ Statement.DoWhile body d =
    ap statement_of c.in-DoWhile.is
    ∙ ap (λ z. Statement.DoWhile (statement_of z) (statement_of c.in-DoWhile.condition.value)) (sym c.deref-in-DoWhile.ensures)
    ∙ ap (λ z. Statement.DoWhile (statement_of c.deref-in-DoWhile.result.now) (statement_of z)) (sym c.deref-in-DoWhile-2.ensures) in
    let l = c.in_ok-labels-in-DoWhile.labels in (
      (let size = ap nested_size is in let before = c.loop-rest.invariant.less in omega (arith, size, before)),
      (
        c.requires.functions,
        (
          (do_taken (is_some c.args.around) (has_turning c.args.around) (statement_of c.loop-rest.rest.now) body d is c.loop-rest.invariant.taken).1,
          (
            back_after c.open_loop.new.code c.lower_statement-in-DoWhile.new.code c.in_ok-lower_statement-in-DoWhile.ensures.labels.advances c.in_ok-lower_statement-in-DoWhile.ensures.labels.back
                (do_back_target l c.loop-rest.code c.open_loop.new.code c.in_ok-labels-in-DoWhile.ensures
                (back_after c.args.code.now c.loop-rest.code c.loop-rest.invariant.proceeds.advances c.loop-rest.invariant.proceeds.back c.requires.back)),
            (
              do_turning l _ c.loop-rest.code c.open_loop.new.code c.lower_statement-in-DoWhile.new.code c.in_ok-labels-in-DoWhile.ensures
                  c.in_ok-lower_statement-in-DoWhile.ensures.labels,
              (
                do_leaving l _ c.loop-rest.code c.open_loop.new.code c.lower_statement-in-DoWhile.new.code c.in_ok-labels-in-DoWhile.ensures
                    c.in_ok-lower_statement-in-DoWhile.ensures.labels,
                (
                  do_apart l c.loop-rest.code c.open_loop.new.code c.in_ok-labels-in-DoWhile.ensures,
                  do_back_before l _ c.loop-rest.code c.open_loop.new.code c.lower_statement-in-DoWhile.new.code c.in_ok-labels-in-DoWhile.ensures
                      c.in_ok-lower_statement-in-DoWhile.ensures.labels
                      (back_after c.args.code.now c.loop-rest.code c.loop-rest.invariant.proceeds.advances c.loop-rest.invariant.proceeds.back c.requires.back),
                ),
              ),
            ),
          ),
        ),
      ),
    )

pub lower_statement-lower_statement-requires-in-For-2 : goal.lower_statement-lower_statement-requires-in-For-2
lower_statement-lower_statement-requires-in-For-2 t c =
    let first = statement_of c.deref-in-For.result.now in
    let d = statement_of c.deref-in-For-3.result.now in
    let last = statement_of c.deref-in-For-2.result.now in
    let body = statement_of c.deref-in-For-4.result.now in
    let is : statement_of c.loop-rest.rest.now ≡ Statement.For first d last body =
    ap statement_of c.in-For.is
    ∙ ap (λ z. Statement.For (statement_of z) (statement_of c.in-For.condition.value) (statement_of c.in-For.last.value) (statement_of c.in-For.body.value)) (sym c.deref-in-For.ensures)
    ∙ ap (λ z. Statement.For (statement_of c.deref-in-For.result.now) (statement_of z) (statement_of c.in-For.last.value) (statement_of c.in-For.body.value)) (sym c.deref-in-For-3.ensures)
    ∙ ap (λ z. Statement.For (statement_of c.deref-in-For.result.now) (statement_of c.deref-in-For-3.result.now) (statement_of z) (statement_of c.in-For.body.value)) (sym c.deref-in-For-2.ensures)
    ∙ ap (λ z. Statement.For (statement_of c.deref-in-For.result.now) (statement_of c.deref-in-For-3.result.now) (statement_of c.deref-in-For-2.result.now) (statement_of z)) (sym c.deref-in-For-4.ensures) in (
      (let size = ap nested_size is in let before = c.loop-rest.invariant.less in omega (arith, size, before)),
      (
        c.requires.functions,
        (
          (for_taken (is_some c.args.around) (has_turning c.args.around) (statement_of c.loop-rest.rest.now) first d last body is c.loop-rest.invariant.taken).3,
          (
            for_targets (program_of c.args.program.now) d c.in_ok-labels-in-For.labels _ c.open_turn-in-For.new.code (opens_for (program_of c.args.program.now) (statement_of c.deref-in-For-3.result.now) c.in_ok-labels-in-For.labels
                (c.lower_statement-in-For.new.code.site + print_count (statement_of c.deref-in-For-2.result.now)) c.lower_statement-in-For.new.code c.skip_sites-in-For.new.self c.open_turn-in-For.new.code
                (c.in_ok-skip_sites-in-For.ensures.after ∙ ap (λ n. at_site (c.lower_statement-in-For.new.code.site + n) c.lower_statement-in-For.new.code) c.in_ok-print_count-in-For.ensures.count)
                c.in_ok-labels-in-For.ensures),
            turn_back_target (program_of c.args.program.now) d c.in_ok-labels-in-For.labels _ c.open_turn-in-For.new.code (opens_for (program_of c.args.program.now) (statement_of c.deref-in-For-3.result.now) c.in_ok-labels-in-For.labels
                (c.lower_statement-in-For.new.code.site + print_count (statement_of c.deref-in-For-2.result.now)) c.lower_statement-in-For.new.code c.skip_sites-in-For.new.self c.open_turn-in-For.new.code
                (c.in_ok-skip_sites-in-For.ensures.after ∙ ap (λ n. at_site (c.lower_statement-in-For.new.code.site + n) c.lower_statement-in-For.new.code) c.in_ok-print_count-in-For.ensures.count)
                c.in_ok-labels-in-For.ensures)
                (back_after c.loop-rest.code c.lower_statement-in-For.new.code c.in_ok-lower_statement-in-For.ensures.labels.advances c.in_ok-lower_statement-in-For.ensures.labels.back
                (back_after c.args.code.now c.loop-rest.code c.loop-rest.invariant.proceeds.advances c.loop-rest.invariant.proceeds.back c.requires.back)),
          ),
        ),
      ),
    )

pub lower_statement-turn_choice-requires-clause-join : goal.lower_statement-turn_choice-requires-clause-join
lower_statement-turn_choice-requires-clause-join t c =
    join_open (program_of c.args.program.now) (statement_of c.deref-in-If.result.now) c.in_ok-labels-in-If.labels c.args.around c.loop-rest.code c.open_choice.new.code c.lower_statement-in-If.new.code
    c.in_ok-labels-in-If.ensures c.in_ok-lower_statement-in-If.ensures.labels

pub lower_statement-turn_choice-requires-clause-if_false : goal.lower_statement-turn_choice-requires-clause-if_false
lower_statement-turn_choice-requires-clause-if_false t c =
    false_open (program_of c.args.program.now) (statement_of c.deref-in-If.result.now) c.in_ok-labels-in-If.labels c.args.around c.loop-rest.code c.open_choice.new.code c.lower_statement-in-If.new.code
    c.in_ok-labels-in-If.ensures c.in_ok-lower_statement-in-If.ensures.labels

pub lower_statement-turn_choice-requires-clause-apart : goal.lower_statement-turn_choice-requires-clause-apart
lower_statement-turn_choice-requires-clause-apart t c =
    choice_apart (program_of c.args.program.now) (statement_of c.deref-in-If.result.now) c.in_ok-labels-in-If.labels c.loop-rest.code c.open_choice.new.code c.in_ok-labels-in-If.ensures

pub lower_statement-bind-requires : goal.lower_statement-bind-requires
lower_statement-bind-requires t c =
    join_open_after (program_of c.args.program.now) (statement_of c.deref-in-If.result.now) c.in_ok-labels-in-If.labels c.args.around c.loop-rest.code c.open_choice.new.code c.lower_statement-in-If.new.code
    c.turn_choice.new.code c.lower_statement-in-If-2.new.code
    c.in_ok-labels-in-If.ensures c.in_ok-lower_statement-in-If.ensures.labels c.in_ok-turn_choice-in-If.ensures c.in_ok-lower_statement-in-If-2.ensures.labels

pub lower_statement-close_turn-requires-clause-head : goal.lower_statement-close_turn-requires-clause-head
lower_statement-close_turn-requires-clause-head t c =
    while_head (program_of c.args.program.now) (statement_of c.deref-in-While.result.now) c.in_ok-labels-in-While.labels _ c.loop-rest.code c.open_turn.new.code c.lower_statement-in-While.new.code
    c.in_ok-labels-in-While.ensures c.in_ok-lower_statement-in-While.ensures.labels

pub lower_statement-close_turn-requires-clause-leaving : goal.lower_statement-close_turn-requires-clause-leaving
lower_statement-close_turn-requires-clause-leaving t c =
    while_leaving (program_of c.args.program.now) (statement_of c.deref-in-While.result.now) c.in_ok-labels-in-While.labels _ c.loop-rest.code c.open_turn.new.code c.lower_statement-in-While.new.code
    c.in_ok-labels-in-While.ensures c.in_ok-lower_statement-in-While.ensures.labels

pub lower_statement-turn_for-requires : goal.lower_statement-turn_for-requires
lower_statement-turn_for-requires t c =
    for_turning (program_of c.args.program.now) (statement_of c.deref-in-For-3.result.now) c.in_ok-labels-in-For.labels _ _ c.open_turn-in-For.new.code c.lower_statement-in-For-2.new.code (opens_for (program_of c.args.program.now) (statement_of c.deref-in-For-3.result.now) c.in_ok-labels-in-For.labels
    (c.lower_statement-in-For.new.code.site + print_count (statement_of c.deref-in-For-2.result.now)) c.lower_statement-in-For.new.code c.skip_sites-in-For.new.self c.open_turn-in-For.new.code
    (c.in_ok-skip_sites-in-For.ensures.after ∙ ap (λ n. at_site (c.lower_statement-in-For.new.code.site + n) c.lower_statement-in-For.new.code) c.in_ok-print_count-in-For.ensures.count)
    c.in_ok-labels-in-For.ensures)
    c.in_ok-lower_statement-in-For-2.ensures.labels

pub lower_statement-close_for-requires-clause-head : goal.lower_statement-close_for-requires-clause-head
lower_statement-close_for-requires-clause-head t c =
    for_head (program_of c.args.program.now) (statement_of c.deref-in-For-3.result.now) c.in_ok-labels-in-For.labels _ _ c.open_turn-in-For.new.code c.lower_statement-in-For-2.new.code c.turn_for.new.code
    c.lower_statement-in-For-3.new.code c.site-last_site.result
    (opens_for (program_of c.args.program.now) (statement_of c.deref-in-For-3.result.now) c.in_ok-labels-in-For.labels
    (c.lower_statement-in-For.new.code.site + print_count (statement_of c.deref-in-For-2.result.now)) c.lower_statement-in-For.new.code c.skip_sites-in-For.new.self c.open_turn-in-For.new.code
    (c.in_ok-skip_sites-in-For.ensures.after ∙ ap (λ n. at_site (c.lower_statement-in-For.new.code.site + n) c.lower_statement-in-For.new.code) c.in_ok-print_count-in-For.ensures.count)
    c.in_ok-labels-in-For.ensures) c.in_ok-lower_statement-in-For-2.ensures.labels c.in_ok-turn_for-in-For.ensures c.in_ok-lower_statement-in-For-3.ensures.labels

pub lower_statement-close_for-requires-clause-leaving : goal.lower_statement-close_for-requires-clause-leaving
lower_statement-close_for-requires-clause-leaving t c =
    for_leaving (program_of c.args.program.now) (statement_of c.deref-in-For-3.result.now) c.in_ok-labels-in-For.labels _ _ c.open_turn-in-For.new.code c.lower_statement-in-For-2.new.code c.turn_for.new.code
    c.lower_statement-in-For-3.new.code c.site-last_site.result
    (opens_for (program_of c.args.program.now) (statement_of c.deref-in-For-3.result.now) c.in_ok-labels-in-For.labels
    (c.lower_statement-in-For.new.code.site + print_count (statement_of c.deref-in-For-2.result.now)) c.lower_statement-in-For.new.code c.skip_sites-in-For.new.self c.open_turn-in-For.new.code
    (c.in_ok-skip_sites-in-For.ensures.after ∙ ap (λ n. at_site (c.lower_statement-in-For.new.code.site + n) c.lower_statement-in-For.new.code) c.in_ok-print_count-in-For.ensures.count)
    c.in_ok-labels-in-For.ensures) c.in_ok-lower_statement-in-For-2.ensures.labels c.in_ok-turn_for-in-For.ensures c.in_ok-lower_statement-in-For-3.ensures.labels

pub lower_statement-lower_simple-requires-clause-targets : goal.lower_statement-lower_simple-requires-clause-targets
lower_statement-lower_simple-requires-clause-targets t c =
    targets_after c.args.around c.args.code.now.stages c.loop-rest.code.stages c.loop-rest.invariant.proceeds.advances c.requires.targets

pub lower_statement-returns-in_err-lower_statement-clause-full : goal.lower_statement-returns-in_err-lower_statement-clause-full
lower_statement-returns-in_err-lower_statement-clause-full t c =
    let p = err_from_is_err_and c.from_residual.result c.from_residual.ensures.1 in
    let is : statement_of c.loop-rest.rest.now ≡ Statement.Sequence (statement_of c.deref.result.now) (statement_of c.in-Sequence.next.value) =
    ap statement_of c.in-Sequence.is ∙ ap (λ z. Statement.Sequence (statement_of z) (statement_of c.in-Sequence.next.value)) (sym c.deref.ensures) in
    rw (p.1, p.2) (behind_first (program_of c.args.program.now) c.args.depth (statement_of c.args.statement.now) (statement_of c.loop-rest.rest.now)
    (statement_of c.deref.result.now) (statement_of c.in-Sequence.next.value) c.args.code.now c.loop-rest.code _
    c.loop-rest.invariant.behind is c.in_err-lower_statement.ensures.full)

pub lower_statement-returns-in_err-print_count-clause-full : goal.lower_statement-returns-in_err-print_count-clause-full
lower_statement-returns-in_err-print_count-clause-full t c =
    let p = err_from_is_err_and c.from_residual-in_err-print_count.result c.from_residual-in_err-print_count.ensures.1 in
    rw (p.1, p.2) (c.loop-rest.invariant.behind.full _
    (skipped_for (program_of c.args.program.now) c.args.depth (statement_of c.loop-rest.rest.now) c.loop-rest.code (print_count (statement_of c.loop-rest.rest.now)) _
    (omega arith) c.in_err-print_count.ensures.full))

pub lower_statement-returns-in_err-skip_sites-clause-full : goal.lower_statement-returns-in_err-skip_sites-clause-full
lower_statement-returns-in_err-skip_sites-clause-full t c =
    let p = err_from_is_err_and c.from_residual-in_err-skip_sites.result c.from_residual-in_err-skip_sites.ensures.1 in
    let e = c.in_ok-print_count.ensures.count in
    rw (p.1, p.2) (c.loop-rest.invariant.behind.full _
    (skipped_for (program_of c.args.program.now) c.args.depth (statement_of c.loop-rest.rest.now) c.loop-rest.code _ _ (omega (arith, e)) c.in_err-skip_sites.ensures.full))

pub lower_statement-returns-in_err-labels-in-If-clause-full : goal.lower_statement-returns-in_err-labels-in-If-clause-full
lower_statement-returns-in_err-labels-in-If-clause-full t c =
    let p = err_from_is_err_and c.from_residual-in_err-labels-in-If.result c.from_residual-in_err-labels-in-If.ensures.1 in
    let d = statement_of c.deref-in-If.result.now in
    let one = statement_of c.in-If.consequent.value in
    let other = statement_of c.in-If.alternative.value in
    let is : statement_of c.loop-rest.rest.now ≡ Statement.If d one other =
    ap statement_of c.in-If.is
    ∙ ap (λ z. Statement.If (statement_of z) (statement_of c.in-If.consequent.value) (statement_of c.in-If.alternative.value)) (sym c.deref-in-If.ensures) in
    rw (p.1, p.2) (c.loop-rest.invariant.behind.full _
    (choice_condition (program_of c.args.program.now) c.args.depth (statement_of c.loop-rest.rest.now) d one other c.loop-rest.code _ is c.in_err-labels-in-If.ensures))

pub lower_statement-returns-in_err-lower_statement-in-If-clause-full : goal.lower_statement-returns-in_err-lower_statement-in-If-clause-full
lower_statement-returns-in_err-lower_statement-in-If-clause-full t c =
    let p = err_from_is_err_and c.from_residual-in_err-lower_statement-in-If.result c.from_residual-in_err-lower_statement-in-If.ensures.1 in
    let d = statement_of c.deref-in-If.result.now in
    let one = statement_of c.deref-in-If-2.result.now in
    let other = statement_of c.in-If.alternative.value in
    let is : statement_of c.loop-rest.rest.now ≡ Statement.If d one other =
    ap statement_of c.in-If.is
    ∙ ap (λ z. Statement.If (statement_of z) (statement_of c.in-If.consequent.value) (statement_of c.in-If.alternative.value)) (sym c.deref-in-If.ensures)
    ∙ ap (λ z. Statement.If (statement_of c.deref-in-If.result.now) (statement_of z) (statement_of c.in-If.alternative.value)) (sym c.deref-in-If-2.ensures) in
    rw (p.1, p.2) (c.loop-rest.invariant.behind.full _
    (one_for (program_of c.args.program.now) c.args.depth c.args.around (statement_of c.loop-rest.rest.now) d one other c.in_ok-labels-in-If.labels c.loop-rest.code c.open_choice.new.code _ is
    c.in_ok-labels-in-If.ensures c.in_err-lower_statement-in-If.ensures.full))

pub lower_statement-returns-in_err-lower_statement-in-If-2-clause-full : goal.lower_statement-returns-in_err-lower_statement-in-If-2-clause-full
lower_statement-returns-in_err-lower_statement-in-If-2-clause-full t c =
    let p = err_from_is_err_and c.from_residual-in_err-lower_statement-in-If-2.result c.from_residual-in_err-lower_statement-in-If-2.ensures.1 in
    let d = statement_of c.deref-in-If.result.now in
    let one = statement_of c.deref-in-If-2.result.now in
    let other = statement_of c.deref-in-If-3.result.now in
    let is : statement_of c.loop-rest.rest.now ≡ Statement.If d one other =
    ap statement_of c.in-If.is
    ∙ ap (λ z. Statement.If (statement_of z) (statement_of c.in-If.consequent.value) (statement_of c.in-If.alternative.value)) (sym c.deref-in-If.ensures)
    ∙ ap (λ z. Statement.If (statement_of c.deref-in-If.result.now) (statement_of z) (statement_of c.in-If.alternative.value)) (sym c.deref-in-If-2.ensures)
    ∙ ap (λ z. Statement.If (statement_of c.deref-in-If.result.now) (statement_of c.deref-in-If-2.result.now) (statement_of z)) (sym c.deref-in-If-3.ensures) in
    rw (p.1, p.2) (c.loop-rest.invariant.behind.full _
    (other_for (program_of c.args.program.now) c.args.depth c.args.around (statement_of c.loop-rest.rest.now) d one other c.in_ok-labels-in-If.labels c.loop-rest.code c.open_choice.new.code
    c.lower_statement-in-If.new.code c.turn_choice.new.code _ is
    c.in_ok-labels-in-If.ensures c.in_ok-lower_statement-in-If.ensures.lowers c.in_ok-turn_choice-in-If.ensures c.in_err-lower_statement-in-If-2.ensures.full))

pub lower_statement-returns-in_err-labels-in-While-clause-full : goal.lower_statement-returns-in_err-labels-in-While-clause-full
lower_statement-returns-in_err-labels-in-While-clause-full t c =
    let p = err_from_is_err_and c.from_residual-in_err-labels-in-While.result c.from_residual-in_err-labels-in-While.ensures.1 in
    let d = statement_of c.deref-in-While.result.now in
    let body = statement_of c.in-While.body.value in
    let is : statement_of c.loop-rest.rest.now ≡ Statement.While d body =
    ap statement_of c.in-While.is
    ∙ ap (λ z. Statement.While (statement_of z) (statement_of c.in-While.body.value)) (sym c.deref-in-While.ensures) in
    rw (p.1, p.2) (c.loop-rest.invariant.behind.full _
    (while_condition (program_of c.args.program.now) c.args.depth (statement_of c.loop-rest.rest.now) d body c.loop-rest.code _ is c.in_err-labels-in-While.ensures))

pub lower_statement-returns-in_err-lower_statement-in-While-clause-full : goal.lower_statement-returns-in_err-lower_statement-in-While-clause-full
lower_statement-returns-in_err-lower_statement-in-While-clause-full t c =
    let p = err_from_is_err_and c.from_residual-in_err-lower_statement-in-While.result c.from_residual-in_err-lower_statement-in-While.ensures.1 in
    let d = statement_of c.deref-in-While.result.now in
    let body = statement_of c.deref-in-While-2.result.now in
    let is : statement_of c.loop-rest.rest.now ≡ Statement.While d body =
    ap statement_of c.in-While.is
    ∙ ap (λ z. Statement.While (statement_of z) (statement_of c.in-While.body.value)) (sym c.deref-in-While.ensures)
    ∙ ap (λ z. Statement.While (statement_of c.deref-in-While.result.now) (statement_of z)) (sym c.deref-in-While-2.ensures) in
    rw (p.1, p.2) (c.loop-rest.invariant.behind.full _
    (while_body (program_of c.args.program.now) c.args.depth (statement_of c.loop-rest.rest.now) d body c.in_ok-labels-in-While.labels c.loop-rest.code c.open_turn.new.code _ is
    c.in_ok-labels-in-While.ensures c.in_err-lower_statement-in-While.ensures.full))

pub lower_statement-returns-in_err-lower_statement-in-DoWhile-clause-full : goal.lower_statement-returns-in_err-lower_statement-in-DoWhile-clause-full
lower_statement-returns-in_err-lower_statement-in-DoWhile-clause-full t c =
    let p = err_from_is_err_and c.from_residual-in_err-lower_statement-in-DoWhile.result c.from_residual-in_err-lower_statement-in-DoWhile.ensures.1 in
    let body = statement_of c.deref-in-DoWhile.result.now in
    let d = statement_of c.in-DoWhile.condition.value in
    let is : statement_of c.loop-rest.rest.now ≡ Statement.DoWhile body d =
    ap statement_of c.in-DoWhile.is
    ∙ ap (λ z. Statement.DoWhile (statement_of z) (statement_of c.in-DoWhile.condition.value)) (sym c.deref-in-DoWhile.ensures) in
    rw (p.1, p.2) (c.loop-rest.invariant.behind.full _
    (do_body (program_of c.args.program.now) c.args.depth (statement_of c.loop-rest.rest.now) d body c.in_ok-labels-in-DoWhile.labels c.loop-rest.code c.open_loop.new.code _ is
    c.in_ok-labels-in-DoWhile.ensures c.in_err-lower_statement-in-DoWhile.ensures.full))

pub lower_statement-returns-in_err-lower_statement-in-For-clause-full : goal.lower_statement-returns-in_err-lower_statement-in-For-clause-full
lower_statement-returns-in_err-lower_statement-in-For-clause-full t c =
    let p = err_from_is_err_and c.from_residual-in_err-lower_statement-in-For.result c.from_residual-in_err-lower_statement-in-For.ensures.1 in
    let first = statement_of c.deref-in-For.result.now in
    let d = statement_of c.in-For.condition.value in
    let last = statement_of c.in-For.last.value in
    let body = statement_of c.in-For.body.value in
    let is : statement_of c.loop-rest.rest.now ≡ Statement.For first d last body =
    ap statement_of c.in-For.is
    ∙ ap (λ z. Statement.For (statement_of z) (statement_of c.in-For.condition.value) (statement_of c.in-For.last.value) (statement_of c.in-For.body.value)) (sym c.deref-in-For.ensures) in
    rw (p.1, p.2) (c.loop-rest.invariant.behind.full _
    (for_first (program_of c.args.program.now) c.args.depth (statement_of c.loop-rest.rest.now) first d last body c.loop-rest.code _ is c.in_err-lower_statement-in-For.ensures.full))

pub lower_statement-returns-in_err-labels-in-For-clause-full : goal.lower_statement-returns-in_err-labels-in-For-clause-full
lower_statement-returns-in_err-labels-in-For-clause-full t c =
    let p = err_from_is_err_and c.from_residual-in_err-labels-in-For.result c.from_residual-in_err-labels-in-For.ensures.1 in
    let first = statement_of c.deref-in-For.result.now in
    let d = statement_of c.deref-in-For-3.result.now in
    let last = statement_of c.deref-in-For-2.result.now in
    let body = statement_of c.in-For.body.value in
    let is : statement_of c.loop-rest.rest.now ≡ Statement.For first d last body =
    ap statement_of c.in-For.is
    ∙ ap (λ z. Statement.For (statement_of z) (statement_of c.in-For.condition.value) (statement_of c.in-For.last.value) (statement_of c.in-For.body.value)) (sym c.deref-in-For.ensures)
    ∙ ap (λ z. Statement.For (statement_of c.deref-in-For.result.now) (statement_of z) (statement_of c.in-For.last.value) (statement_of c.in-For.body.value)) (sym c.deref-in-For-3.ensures)
    ∙ ap (λ z. Statement.For (statement_of c.deref-in-For.result.now) (statement_of c.deref-in-For-3.result.now) (statement_of z) (statement_of c.in-For.body.value)) (sym c.deref-in-For-2.ensures) in
    rw (p.1, p.2) (c.loop-rest.invariant.behind.full _
    (for_condition (program_of c.args.program.now) c.args.depth (statement_of c.loop-rest.rest.now) first d last body c.loop-rest.code c.lower_statement-in-For.new.code _ is
    c.in_ok-lower_statement-in-For.ensures.lowers
    (subst (λ z. IsFullAsked (program_of c.args.program.now) c.args.depth d None z c.in_err-labels-in-For.field-0.0)
    (c.in_ok-skip_sites-in-For.ensures.after ∙ ap (λ n. at_site (c.lower_statement-in-For.new.code.site + n) c.lower_statement-in-For.new.code) c.in_ok-print_count-in-For.ensures.count)
    c.in_err-labels-in-For.ensures)))

pub lower_statement-returns-in_err-print_count-in-For-clause-full : goal.lower_statement-returns-in_err-print_count-in-For-clause-full
lower_statement-returns-in_err-print_count-in-For-clause-full t c =
    let p = err_from_is_err_and c.from_residual-in_err-print_count-in-For.result c.from_residual-in_err-print_count-in-For.ensures.1 in
    let first = statement_of c.deref-in-For.result.now in
    let d = statement_of c.in-For.condition.value in
    let last = statement_of c.deref-in-For-2.result.now in
    let body = statement_of c.in-For.body.value in
    let is : statement_of c.loop-rest.rest.now ≡ Statement.For first d last body =
    ap statement_of c.in-For.is
    ∙ ap (λ z. Statement.For (statement_of z) (statement_of c.in-For.condition.value) (statement_of c.in-For.last.value) (statement_of c.in-For.body.value)) (sym c.deref-in-For.ensures)
    ∙ ap (λ z. Statement.For (statement_of c.deref-in-For.result.now) (statement_of c.in-For.condition.value) (statement_of z) (statement_of c.in-For.body.value)) (sym c.deref-in-For-2.ensures) in
    rw (p.1, p.2) (c.loop-rest.invariant.behind.full _
    (for_skipped (program_of c.args.program.now) c.args.depth (statement_of c.loop-rest.rest.now) first d last body c.loop-rest.code c.lower_statement-in-For.new.code (print_count last) _ is
    c.in_ok-lower_statement-in-For.ensures.lowers (omega arith) c.in_err-print_count-in-For.ensures.full))

pub lower_statement-returns-in_err-skip_sites-in-For-clause-full : goal.lower_statement-returns-in_err-skip_sites-in-For-clause-full
lower_statement-returns-in_err-skip_sites-in-For-clause-full t c =
    let p = err_from_is_err_and c.from_residual-in_err-skip_sites-in-For.result c.from_residual-in_err-skip_sites-in-For.ensures.1 in
    let first = statement_of c.deref-in-For.result.now in
    let d = statement_of c.in-For.condition.value in
    let last = statement_of c.deref-in-For-2.result.now in
    let body = statement_of c.in-For.body.value in
    let is : statement_of c.loop-rest.rest.now ≡ Statement.For first d last body =
    ap statement_of c.in-For.is
    ∙ ap (λ z. Statement.For (statement_of z) (statement_of c.in-For.condition.value) (statement_of c.in-For.last.value) (statement_of c.in-For.body.value)) (sym c.deref-in-For.ensures)
    ∙ ap (λ z. Statement.For (statement_of c.deref-in-For.result.now) (statement_of c.in-For.condition.value) (statement_of z) (statement_of c.in-For.body.value)) (sym c.deref-in-For-2.ensures) in
    let e = c.in_ok-print_count-in-For.ensures.count in
    rw (p.1, p.2) (c.loop-rest.invariant.behind.full _
    (for_skipped (program_of c.args.program.now) c.args.depth (statement_of c.loop-rest.rest.now) first d last body c.loop-rest.code c.lower_statement-in-For.new.code _ _ is
    c.in_ok-lower_statement-in-For.ensures.lowers (omega (arith, e)) c.in_err-skip_sites-in-For.ensures.full))

pub lower_statement-returns-in_err-lower_statement-in-For-2-clause-full : goal.lower_statement-returns-in_err-lower_statement-in-For-2-clause-full
lower_statement-returns-in_err-lower_statement-in-For-2-clause-full t c =
    let p = err_from_is_err_and c.from_residual-in_err-lower_statement-in-For-2.result c.from_residual-in_err-lower_statement-in-For-2.ensures.1 in
    let first = statement_of c.deref-in-For.result.now in
    let d = statement_of c.deref-in-For-3.result.now in
    let last = statement_of c.deref-in-For-2.result.now in
    let body = statement_of c.deref-in-For-4.result.now in
    let is : statement_of c.loop-rest.rest.now ≡ Statement.For first d last body =
    ap statement_of c.in-For.is
    ∙ ap (λ z. Statement.For (statement_of z) (statement_of c.in-For.condition.value) (statement_of c.in-For.last.value) (statement_of c.in-For.body.value)) (sym c.deref-in-For.ensures)
    ∙ ap (λ z. Statement.For (statement_of c.deref-in-For.result.now) (statement_of z) (statement_of c.in-For.last.value) (statement_of c.in-For.body.value)) (sym c.deref-in-For-3.ensures)
    ∙ ap (λ z. Statement.For (statement_of c.deref-in-For.result.now) (statement_of c.deref-in-For-3.result.now) (statement_of z) (statement_of c.in-For.body.value)) (sym c.deref-in-For-2.ensures)
    ∙ ap (λ z. Statement.For (statement_of c.deref-in-For.result.now) (statement_of c.deref-in-For-3.result.now) (statement_of c.deref-in-For-2.result.now) (statement_of z)) (sym c.deref-in-For-4.ensures) in
    rw (p.1, p.2) (c.loop-rest.invariant.behind.full _
    (for_body (program_of c.args.program.now) c.args.depth (statement_of c.loop-rest.rest.now) first d last body c.in_ok-labels-in-For.labels c.loop-rest.code c.lower_statement-in-For.new.code
    c.open_turn-in-For.new.code _ is c.in_ok-lower_statement-in-For.ensures.lowers (opens_for (program_of c.args.program.now) (statement_of c.deref-in-For-3.result.now) c.in_ok-labels-in-For.labels
    (c.lower_statement-in-For.new.code.site + print_count (statement_of c.deref-in-For-2.result.now)) c.lower_statement-in-For.new.code c.skip_sites-in-For.new.self c.open_turn-in-For.new.code
    (c.in_ok-skip_sites-in-For.ensures.after ∙ ap (λ n. at_site (c.lower_statement-in-For.new.code.site + n) c.lower_statement-in-For.new.code) c.in_ok-print_count-in-For.ensures.count)
    c.in_ok-labels-in-For.ensures) c.in_err-lower_statement-in-For-2.ensures.full))

pub lower_statement-returns-in_err-lower_statement-in-For-3-clause-full : goal.lower_statement-returns-in_err-lower_statement-in-For-3-clause-full
lower_statement-returns-in_err-lower_statement-in-For-3-clause-full t c =
    let p = err_from_is_err_and c.from_residual-in_err-lower_statement-in-For-3.result c.from_residual-in_err-lower_statement-in-For-3.ensures.1 in
    let first = statement_of c.deref-in-For.result.now in
    let d = statement_of c.deref-in-For-3.result.now in
    let last = statement_of c.deref-in-For-5.result.now in
    let body = statement_of c.deref-in-For-4.result.now in
    let is : statement_of c.loop-rest.rest.now ≡ Statement.For first d last body =
    ap statement_of c.in-For.is
    ∙ ap (λ z. Statement.For (statement_of z) (statement_of c.in-For.condition.value) (statement_of c.in-For.last.value) (statement_of c.in-For.body.value)) (sym c.deref-in-For.ensures)
    ∙ ap (λ z. Statement.For (statement_of c.deref-in-For.result.now) (statement_of z) (statement_of c.in-For.last.value) (statement_of c.in-For.body.value)) (sym c.deref-in-For-3.ensures)
    ∙ ap (λ z. Statement.For (statement_of c.deref-in-For.result.now) (statement_of c.deref-in-For-3.result.now) (statement_of z) (statement_of c.in-For.body.value)) (sym c.deref-in-For-5.ensures)
    ∙ ap (λ z. Statement.For (statement_of c.deref-in-For.result.now) (statement_of c.deref-in-For-3.result.now) (statement_of c.deref-in-For-5.result.now) (statement_of z)) (sym c.deref-in-For-4.ensures) in
    rw (p.1, p.2) (c.loop-rest.invariant.behind.full _
    (let l = c.in_ok-labels-in-For.labels in
    let a0 = c.lower_statement-in-For.new.code in
    for_last (program_of c.args.program.now) c.args.depth (statement_of c.loop-rest.rest.now) first d last body l c.loop-rest.code a0 c.open_turn-in-For.new.code
    c.lower_statement-in-For-2.new.code c.turn_for.new.code c.site-last_site.result _ is
    c.in_ok-lower_statement-in-For.ensures.lowers
    (subst (λ z. OpensTurn (program_of c.args.program.now) d l (at_site (a0.site + print_count (statement_of z)) a0) c.open_turn-in-For.new.code) (c.deref-in-For-2.ensures ∙ sym c.deref-in-For-5.ensures) (opens_for (program_of c.args.program.now) (statement_of c.deref-in-For-3.result.now) c.in_ok-labels-in-For.labels
    (c.lower_statement-in-For.new.code.site + print_count (statement_of c.deref-in-For-2.result.now)) c.lower_statement-in-For.new.code c.skip_sites-in-For.new.self c.open_turn-in-For.new.code
    (c.in_ok-skip_sites-in-For.ensures.after ∙ ap (λ n. at_site (c.lower_statement-in-For.new.code.site + n) c.lower_statement-in-For.new.code) c.in_ok-print_count-in-For.ensures.count)
    c.in_ok-labels-in-For.ensures))
    c.in_ok-lower_statement-in-For-2.ensures.lowers c.site-last_site.ensures c.in_ok-turn_for-in-For.ensures c.in_err-lower_statement-in-For-3.ensures.full))

pub lower_statement-returns-then-not-is_reached-clause-lowers : goal.lower_statement-returns-then-not-is_reached-clause-lowers
lower_statement-returns-then-not-is_reached-clause-lowers t c =
    let s = statement_of c.loop-rest.rest.now in
    via_last (program_of c.args.program.now) c.args.around (statement_of c.args.statement.now) s c.args.code.now c.loop-rest.code c.skip_sites.new.self c.loop-rest.invariant.via
    (skips (program_of c.args.program.now) c.args.around s c.loop-rest.code c.skip_sites.new.self (sym c.is_reached.ensures ∙ c.if-not-is_reached.true)
    (c.in_ok-skip_sites.ensures.after ∙ ap (λ n. at_site (c.loop-rest.code.site + n) c.loop-rest.code) c.in_ok-print_count.ensures.count))

pub lower_statement-returns-in_ok-bind-in-If-clause-lowers : goal.lower_statement-returns-in_ok-bind-in-If-clause-lowers
lower_statement-returns-in_ok-bind-in-If-clause-lowers t c =
    let d = statement_of c.deref-in-If.result.now in
    let one = statement_of c.deref-in-If-2.result.now in
    let other = statement_of c.deref-in-If-3.result.now in
    let is : statement_of c.loop-rest.rest.now ≡ Statement.If d one other =
    ap statement_of c.in-If.is
    ∙ ap (λ z. Statement.If (statement_of z) (statement_of c.in-If.consequent.value) (statement_of c.in-If.alternative.value)) (sym c.deref-in-If.ensures)
    ∙ ap (λ z. Statement.If (statement_of c.deref-in-If.result.now) (statement_of z) (statement_of c.in-If.alternative.value)) (sym c.deref-in-If-2.ensures)
    ∙ ap (λ z. Statement.If (statement_of c.deref-in-If.result.now) (statement_of c.deref-in-If-2.result.now) (statement_of z)) (sym c.deref-in-If-3.ensures) in
    via_last (program_of c.args.program.now) c.args.around (statement_of c.args.statement.now) (statement_of c.loop-rest.rest.now) c.args.code.now c.loop-rest.code c.bind.new.self c.loop-rest.invariant.via
    (choice_lowers (program_of c.args.program.now) c.args.around (statement_of c.loop-rest.rest.now) d one other c.in_ok-labels-in-If.labels c.loop-rest.code c.open_choice.new.code c.lower_statement-in-If.new.code
    c.turn_choice.new.code c.lower_statement-in-If-2.new.code c.bind.new.self is
    c.in_ok-labels-in-If.ensures c.in_ok-lower_statement-in-If.ensures.lowers c.in_ok-turn_choice-in-If.ensures c.in_ok-lower_statement-in-If-2.ensures.lowers c.in_ok-bind-in-If.ensures)

pub lower_statement-returns-in_ok-close_turn-in-While-clause-lowers : goal.lower_statement-returns-in_ok-close_turn-in-While-clause-lowers
lower_statement-returns-in_ok-close_turn-in-While-clause-lowers t c =
    let d = statement_of c.deref-in-While.result.now in
    let body = statement_of c.deref-in-While-2.result.now in
    let is : statement_of c.loop-rest.rest.now ≡ Statement.While d body =
    ap statement_of c.in-While.is
    ∙ ap (λ z. Statement.While (statement_of z) (statement_of c.in-While.body.value)) (sym c.deref-in-While.ensures)
    ∙ ap (λ z. Statement.While (statement_of c.deref-in-While.result.now) (statement_of z)) (sym c.deref-in-While-2.ensures) in
    via_last (program_of c.args.program.now) c.args.around (statement_of c.args.statement.now) (statement_of c.loop-rest.rest.now) c.args.code.now c.loop-rest.code c.close_turn.new.code c.loop-rest.invariant.via
    (while_lowers (program_of c.args.program.now) c.args.around (statement_of c.loop-rest.rest.now) d body c.in_ok-labels-in-While.labels c.loop-rest.code c.open_turn.new.code
    c.lower_statement-in-While.new.code c.close_turn.new.code is
    c.in_ok-labels-in-While.ensures c.in_ok-lower_statement-in-While.ensures.lowers c.in_ok-close_turn-in-While.ensures)

pub lower_statement-returns-in_ok-close_for-in-For-clause-lowers : goal.lower_statement-returns-in_ok-close_for-in-For-clause-lowers
lower_statement-returns-in_ok-close_for-in-For-clause-lowers t c =
    let first = statement_of c.deref-in-For.result.now in
    let d = statement_of c.deref-in-For-3.result.now in
    let last = statement_of c.deref-in-For-5.result.now in
    let body = statement_of c.deref-in-For-4.result.now in
    let is : statement_of c.loop-rest.rest.now ≡ Statement.For first d last body =
    ap statement_of c.in-For.is
    ∙ ap (λ z. Statement.For (statement_of z) (statement_of c.in-For.condition.value) (statement_of c.in-For.last.value) (statement_of c.in-For.body.value)) (sym c.deref-in-For.ensures)
    ∙ ap (λ z. Statement.For (statement_of c.deref-in-For.result.now) (statement_of z) (statement_of c.in-For.last.value) (statement_of c.in-For.body.value)) (sym c.deref-in-For-3.ensures)
    ∙ ap (λ z. Statement.For (statement_of c.deref-in-For.result.now) (statement_of c.deref-in-For-3.result.now) (statement_of z) (statement_of c.in-For.body.value)) (sym c.deref-in-For-5.ensures)
    ∙ ap (λ z. Statement.For (statement_of c.deref-in-For.result.now) (statement_of c.deref-in-For-3.result.now) (statement_of c.deref-in-For-5.result.now) (statement_of z)) (sym c.deref-in-For-4.ensures) in
    via_last (program_of c.args.program.now) c.args.around (statement_of c.args.statement.now) (statement_of c.loop-rest.rest.now) c.args.code.now c.loop-rest.code c.close_for.new.code c.loop-rest.invariant.via
    (let l = c.in_ok-labels-in-For.labels in
    let a0 = c.lower_statement-in-For.new.code in
    for_lowers (program_of c.args.program.now) c.args.around (statement_of c.loop-rest.rest.now) first d last body l c.loop-rest.code a0 c.open_turn-in-For.new.code c.lower_statement-in-For-2.new.code c.turn_for.new.code
    c.lower_statement-in-For-3.new.code c.close_for.new.code c.site-last_site.result c.site-after.result is
    c.in_ok-lower_statement-in-For.ensures.lowers c.site-last_site.ensures
    (subst (λ z. OpensTurn (program_of c.args.program.now) d l (at_site (a0.site + print_count (statement_of z)) a0) c.open_turn-in-For.new.code) (c.deref-in-For-2.ensures ∙ sym c.deref-in-For-5.ensures) (opens_for (program_of c.args.program.now) (statement_of c.deref-in-For-3.result.now) c.in_ok-labels-in-For.labels
    (c.lower_statement-in-For.new.code.site + print_count (statement_of c.deref-in-For-2.result.now)) c.lower_statement-in-For.new.code c.skip_sites-in-For.new.self c.open_turn-in-For.new.code
    (c.in_ok-skip_sites-in-For.ensures.after ∙ ap (λ n. at_site (c.lower_statement-in-For.new.code.site + n) c.lower_statement-in-For.new.code) c.in_ok-print_count-in-For.ensures.count)
    c.in_ok-labels-in-For.ensures))
    c.in_ok-lower_statement-in-For-2.ensures.lowers c.site-after.ensures c.in_ok-turn_for-in-For.ensures c.in_ok-lower_statement-in-For-3.ensures.lowers c.in_ok-close_for-in-For.ensures)

pub lower_statement-lower_statement-requires-in-For : goal.lower_statement-lower_statement-requires-in-For
lower_statement-lower_statement-requires-in-For t c =
    let first = statement_of c.deref-in-For.result.now in
    let d = statement_of c.in-For.condition.value in
    let last = statement_of c.in-For.last.value in
    let body = statement_of c.in-For.body.value in
    let is : statement_of c.loop-rest.rest.now ≡ Statement.For first d last body =
    ap statement_of c.in-For.is
    ∙ ap (λ z. Statement.For (statement_of z) (statement_of c.in-For.condition.value) (statement_of c.in-For.last.value) (statement_of c.in-For.body.value)) (sym c.deref-in-For.ensures) in (
      (let size = ap nested_size is in let before = c.loop-rest.invariant.less in omega (arith, size, before)),
      (
        c.requires.functions,
        (
          (for_taken (is_some c.args.around) (has_turning c.args.around) (statement_of c.loop-rest.rest.now) first d last body is c.loop-rest.invariant.taken).0,
          (
            tt,
            back_after c.args.code.now c.loop-rest.code c.loop-rest.invariant.proceeds.advances c.loop-rest.invariant.proceeds.back c.requires.back,
          ),
        ),
      ),
    )

pub lower_statement-open_turn-requires-in-For : goal.lower_statement-open_turn-requires-in-For
lower_statement-open_turn-requires-in-For t c =
    let first = statement_of c.deref-in-For.result.now in
    let d = statement_of c.deref-in-For-3.result.now in
    let last = statement_of c.deref-in-For-2.result.now in
    let body = statement_of c.in-For.body.value in
    let is : statement_of c.loop-rest.rest.now ≡ Statement.For first d last body =
    ap statement_of c.in-For.is
    ∙ ap (λ z. Statement.For (statement_of z) (statement_of c.in-For.condition.value) (statement_of c.in-For.last.value) (statement_of c.in-For.body.value)) (sym c.deref-in-For.ensures)
    ∙ ap (λ z. Statement.For (statement_of c.deref-in-For.result.now) (statement_of z) (statement_of c.in-For.last.value) (statement_of c.in-For.body.value)) (sym c.deref-in-For-3.ensures)
    ∙ ap (λ z. Statement.For (statement_of c.deref-in-For.result.now) (statement_of c.deref-in-For-3.result.now) (statement_of z) (statement_of c.in-For.body.value)) (sym c.deref-in-For-2.ensures) in (
      (let size = ap nested_size is in let before = c.loop-rest.invariant.less in omega (arith, size, before)),
      (
        c.requires.functions,
        (
          (for_taken (is_some c.args.around) (has_turning c.args.around) (statement_of c.loop-rest.rest.now) first d last body is c.loop-rest.invariant.taken).1,
          subst (λ (z : Lowering). IsBackTarget z.back z.stages) (sym c.in_ok-skip_sites-in-For.ensures.after)
              (back_after c.loop-rest.code c.lower_statement-in-For.new.code c.in_ok-lower_statement-in-For.ensures.labels.advances c.in_ok-lower_statement-in-For.ensures.labels.back
              (back_after c.args.code.now c.loop-rest.code c.loop-rest.invariant.proceeds.advances c.loop-rest.invariant.proceeds.back c.requires.back)),
        ),
      ),
    )

pub lower_statement-lower_statement-requires-in-For-3 : goal.lower_statement-lower_statement-requires-in-For-3
lower_statement-lower_statement-requires-in-For-3 t c =
    let first = statement_of c.deref-in-For.result.now in
    let d = statement_of c.deref-in-For-3.result.now in
    let last = statement_of c.deref-in-For-5.result.now in
    let body = statement_of c.deref-in-For-4.result.now in
    let is : statement_of c.loop-rest.rest.now ≡ Statement.For first d last body =
    ap statement_of c.in-For.is
    ∙ ap (λ z. Statement.For (statement_of z) (statement_of c.in-For.condition.value) (statement_of c.in-For.last.value) (statement_of c.in-For.body.value)) (sym c.deref-in-For.ensures)
    ∙ ap (λ z. Statement.For (statement_of c.deref-in-For.result.now) (statement_of z) (statement_of c.in-For.last.value) (statement_of c.in-For.body.value)) (sym c.deref-in-For-3.ensures)
    ∙ ap (λ z. Statement.For (statement_of c.deref-in-For.result.now) (statement_of c.deref-in-For-3.result.now) (statement_of z) (statement_of c.in-For.body.value)) (sym c.deref-in-For-5.ensures)
    ∙ ap (λ z. Statement.For (statement_of c.deref-in-For.result.now) (statement_of c.deref-in-For-3.result.now) (statement_of c.deref-in-For-5.result.now) (statement_of z)) (sym c.deref-in-For-4.ensures) in (
      (let size = ap nested_size is in let before = c.loop-rest.invariant.less in omega (arith, size, before)),
      (
        c.requires.functions,
        (
          (for_taken (is_some c.args.around) (has_turning c.args.around) (statement_of c.loop-rest.rest.now) first d last body is c.loop-rest.invariant.taken).2,
          (
            tt,
            for_back_target (program_of c.args.program.now) d c.in_ok-labels-in-For.labels _ _ c.open_turn-in-For.new.code c.lower_statement-in-For-2.new.code c.turn_for.new.code
                c.site-last_site.result (opens_for (program_of c.args.program.now) (statement_of c.deref-in-For-3.result.now) c.in_ok-labels-in-For.labels
                (c.lower_statement-in-For.new.code.site + print_count (statement_of c.deref-in-For-2.result.now)) c.lower_statement-in-For.new.code c.skip_sites-in-For.new.self c.open_turn-in-For.new.code
                (c.in_ok-skip_sites-in-For.ensures.after ∙ ap (λ n. at_site (c.lower_statement-in-For.new.code.site + n) c.lower_statement-in-For.new.code) c.in_ok-print_count-in-For.ensures.count)
                c.in_ok-labels-in-For.ensures)
                c.in_ok-lower_statement-in-For-2.ensures.labels c.in_ok-turn_for-in-For.ensures
                (back_after c.loop-rest.code c.lower_statement-in-For.new.code c.in_ok-lower_statement-in-For.ensures.labels.advances c.in_ok-lower_statement-in-For.ensures.labels.back
                (back_after c.args.code.now c.loop-rest.code c.loop-rest.invariant.proceeds.advances c.loop-rest.invariant.proceeds.back c.requires.back)),
          ),
        ),
      ),
    )

pub lower_statement-lower_call-requires : goal.lower_statement-lower_call-requires
lower_statement-lower_call-requires t c =
    let size = ap (λ z. nested_size (statement_of z)) c.in-Call.is in
    let before = c.loop-rest.invariant.less in
    let now = c.decreases in
    (omega (arith, size, before, now), (c.requires.functions, sym c.is_reached.ensures ∙ c.if-not-is_reached.false))

pub lower_statement-lower_simple-requires-clause-back : goal.lower_statement-lower_simple-requires-clause-back
lower_statement-lower_simple-requires-clause-back t c =
    back_after c.args.code.now c.loop-rest.code c.loop-rest.invariant.proceeds.advances c.loop-rest.invariant.proceeds.back c.requires.back

pub lower_call-returns-then-depth-eq0-clause-full : goal.lower_call-returns-then-depth-eq0-clause-full
lower_call-returns-then-depth-eq0-clause-full t c = call_too_deep (program_of c.args.program.now) c.args.depth c.args.into c.args.number (expressions_of c.args.arguments.now) c.args.code.now _ c.if-depth-eq0.true

pub lower_call-returns-in_default-clause-full : goal.lower_call-returns-in_default-clause-full
lower_call-returns-in_default-clause-full t c =
    call_unknown (program_of c.args.program.now) c.args.depth c.args.into c.args.number (expressions_of c.args.arguments.now) c.args.code.now _
    (get_none function_of c.args.program.now.functions.items c.args.number (ap (λ l. slice_get l c.args.number) (sym c.deref.ensures.value) ∙ sym c.in_default.ensures))

pub lower_call-lower_statement-requires : goal.lower_call-lower_statement-requires
lower_call-lower_statement-requires t c = (
  (let falls =
      measure_falls (program_of c.args.program.now).functions c.args.number c.args.depth (function_of c.in-Some.function.now)
      (get_mapped function_of c.args.program.now.functions.items c.args.number c.in-Some.function.now (ap (λ l. slice_get l c.args.number) (sym c.deref.ensures.value) ∙ sym c.in-Some.ensures))
      c.if-depth-eq0.false in
      let now = c.decreases in
      omega (arith, falls, now)),
  (
    c.requires.functions,
    (
      taken_body c.args.program.now c.args.number c.in-Some.function.now (ap (λ l. slice_get l c.args.number) (sym c.deref.ensures.value) ∙ sym c.in-Some.ensures) c.requires.functions,
      (
        tt,
        call_back_target c.args.into c.args.number (function_of c.in-Some.function.now) (expressions_of c.args.arguments.now) c.in_ok-caller.caller c.args.code.now c.open_call.new.code
            c.in_ok-caller.ensures.opens c.in_ok-caller.ensures.open_,
      ),
    ),
  ),
)

pub lower_call-close_call-requires-clause-open_ : goal.lower_call-close_call-requires-clause-open_
lower_call-close_call-requires-clause-open_ t c =
    done_open c.args.into c.args.number (function_of c.in-Some.function.now) (expressions_of c.args.arguments.now) c.in_ok-caller.caller c.args.code.now c.open_call.new.code
    c.in_ok-caller.ensures.opens c.in_ok-caller.ensures.open_ c.lower_statement.new.code
    c.in_ok-lower_statement.ensures.labels

pub lower_call-close_call-requires-clause-back : goal.lower_call-close_call-requires-clause-back
lower_call-close_call-requires-clause-back t c =
    done_back c.args.into c.args.number (function_of c.in-Some.function.now) (expressions_of c.args.arguments.now) c.in_ok-caller.caller c.args.code.now c.open_call.new.code
    c.in_ok-caller.ensures.opens c.in_ok-caller.ensures.open_ c.lower_statement.new.code
    c.in_ok-lower_statement.ensures.labels

pub lower_call-returns-in_err-lower_statement-clause-full : goal.lower_call-returns-in_err-lower_statement-clause-full
lower_call-returns-in_err-lower_statement-clause-full t c =
    let p = err_from_is_err_and c.from_residual-in_err-lower_statement.result c.from_residual-in_err-lower_statement.ensures.1 in
    rw (p.1, p.2)
    (call_body (program_of c.args.program.now) c.args.depth c.args.into c.args.number (expressions_of c.args.arguments.now) c.args.code.now _ (function_of c.in-Some.function.now)
    (get_mapped function_of c.args.program.now.functions.items c.args.number c.in-Some.function.now (ap (λ l. slice_get l c.args.number) (sym c.deref.ensures.value) ∙ sym c.in-Some.ensures))
    c.in_ok-caller.caller c.open_call.new.code c.in_ok-caller.ensures.opens c.requires.reached (c.args.depth - 1)
    (let some = c.if-depth-eq0.false in omega (arith, some)) c.in_err-lower_statement.ensures.full)

pub lower_statement-returns-in-Block : goal.lower_statement-returns-in-Block
lower_statement-returns-in-Block t c = record {
  cut = on_ok_weaker c.lower_statement-in-Block.result (λ _. λ cut on. absurd (let is = ap statement_of c.in-Block.is ∙ ap (λ z. Statement.Block (statement_of z)) (sym c.deref-in-Block.ensures) in let so = (c.loop-rest.invariant.through cut on).0 in let no = ap is_cut is in cc)) c.lower_statement-in-Block.ensures.labels;
  labels =
      on_ok_weaker c.lower_statement-in-Block.result
      (λ lowered.
      proceeds_both c.args.around c.args.code.now c.loop-rest.code c.lower_statement-in-Block.new.code c.loop-rest.invariant.proceeds
      lowered)
      c.lower_statement-in-Block.ensures.labels;
  lowers =
      on_ok_weaker c.lower_statement-in-Block.result
      (λ lowered.
      let s = statement_of c.loop-rest.rest.now in
      via_last (program_of c.args.program.now) c.args.around (statement_of c.args.statement.now) s c.args.code.now c.loop-rest.code c.lower_statement-in-Block.new.code c.loop-rest.invariant.via
      (block_lowers (program_of c.args.program.now) c.args.around s (statement_of c.deref-in-Block.result.now) c.loop-rest.code c.lower_statement-in-Block.new.code
      (ap statement_of c.in-Block.is ∙ ap (λ z. Statement.Block (statement_of z)) (sym c.deref-in-Block.ensures)) lowered))
      c.lower_statement-in-Block.ensures.lowers;
  full =
      IfErr-weaker c.lower_statement-in-Block.result _ _
      (λ fault full.
      c.loop-rest.invariant.behind.full _
      (block_for (program_of c.args.program.now) c.args.depth (statement_of c.loop-rest.rest.now) (statement_of c.deref-in-Block.result.now) c.loop-rest.code _
      (ap statement_of c.in-Block.is ∙ ap (λ z. Statement.Block (statement_of z)) (sym c.deref-in-Block.ensures)) full))
      c.lower_statement-in-Block.ensures.full;
}

pub lower_statement-returns-in_ok-lower_statement-in-DoWhile : goal.lower_statement-returns-in_ok-lower_statement-in-DoWhile
lower_statement-returns-in_ok-lower_statement-in-DoWhile t c =
    let body = statement_of c.deref-in-DoWhile.result.now in
    let d = statement_of c.deref-in-DoWhile-2.result.now in
    let is : statement_of c.loop-rest.rest.now ≡ Statement.DoWhile body d =
    ap statement_of c.in-DoWhile.is
    ∙ ap (λ z. Statement.DoWhile (statement_of z) (statement_of c.in-DoWhile.condition.value)) (sym c.deref-in-DoWhile.ensures)
    ∙ ap (λ z. Statement.DoWhile (statement_of c.deref-in-DoWhile.result.now) (statement_of z)) (sym c.deref-in-DoWhile-2.ensures) in
    record {
      cut = on_ok_weaker c.close_do.result (λ _. λ cut on. absurd (let so = (c.loop-rest.invariant.through cut on).0 in let no = ap is_cut is in cc)) (match_ok _ _ c.close_do.result c.close_do.ensures);
      labels =
          on_ok_weaker c.close_do.result
          (λ lowered.
          proceeds_both c.args.around c.args.code.now c.loop-rest.code c.close_do.new.code c.loop-rest.invariant.proceeds
          (do_proceeds (program_of c.args.program.now) d c.in_ok-labels-in-DoWhile.labels c.loop-rest.code c.open_loop.new.code c.lower_statement-in-DoWhile.new.code c.close_do.new.code
          c.in_ok-labels-in-DoWhile.ensures c.in_ok-lower_statement-in-DoWhile.ensures.labels lowered c.args.around (sym c.is_reached.ensures ∙ c.if-not-is_reached.false)))
          (match_ok _ _ c.close_do.result c.close_do.ensures);
      lowers =
          on_ok_weaker c.close_do.result
          (λ lowered.
          via_last (program_of c.args.program.now) c.args.around (statement_of c.args.statement.now) (statement_of c.loop-rest.rest.now) c.args.code.now c.loop-rest.code c.close_do.new.code c.loop-rest.invariant.via
          (do_lowers (program_of c.args.program.now) c.args.around (statement_of c.loop-rest.rest.now) d body c.in_ok-labels-in-DoWhile.labels c.loop-rest.code c.open_loop.new.code
          c.lower_statement-in-DoWhile.new.code c.close_do.new.code is
          c.in_ok-labels-in-DoWhile.ensures c.in_ok-lower_statement-in-DoWhile.ensures.lowers lowered))
          (match_ok _ _ c.close_do.result c.close_do.ensures);
      full =
          IfErr-weaker c.close_do.result _ _
          (λ fault full.
          c.loop-rest.invariant.behind.full _
          (do_condition (program_of c.args.program.now) c.args.depth (statement_of c.loop-rest.rest.now) d body c.in_ok-labels-in-DoWhile.labels c.loop-rest.code c.open_loop.new.code
          c.lower_statement-in-DoWhile.new.code _ is
          c.in_ok-labels-in-DoWhile.ensures c.in_ok-lower_statement-in-DoWhile.ensures.lowers full))
          (match_err _ _ c.close_do.result c.close_do.ensures);
    }

pub lower_statement-returns-in-Call : goal.lower_statement-returns-in-Call
lower_statement-returns-in-Call t c = record {
  cut =
      on_ok_both c.lower_call.result
      (λ lowered through cut on.
      through_both c.args.code.now c.loop-rest.code c.lower_call.new.code (lowered None).advances (c.loop-rest.invariant.through cut on).1 through)
      c.lower_call.ensures.labels c.lower_call.ensures.through;
  labels =
      on_ok_weaker c.lower_call.result
      (λ lowered.
      proceeds_both c.args.around c.args.code.now c.loop-rest.code c.lower_call.new.code c.loop-rest.invariant.proceeds (lowered c.args.around))
      c.lower_call.ensures.labels;
  lowers =
      on_ok_weaker c.lower_call.result
      (λ lowered.
      let s = statement_of c.loop-rest.rest.now in
      let es = expressions_of c.deref-in-Call.result.now in
      via_last (program_of c.args.program.now) c.args.around (statement_of c.args.statement.now) s c.args.code.now c.loop-rest.code c.lower_call.new.code c.loop-rest.invariant.via
      (call_lowers (program_of c.args.program.now) c.args.around s c.in-Call.field-0 c.in-Call.into c.in-Call.function es c.loop-rest.code c.lower_call.new.code
      (sym c.is_reached.ensures ∙ c.if-not-is_reached.false)
      (ap statement_of c.in-Call.is ∙ ap (λ a. Statement.Call c.in-Call.field-0 c.in-Call.into c.in-Call.function (expressions_of a)) (sym c.deref-in-Call.ensures.value)) lowered))
      c.lower_call.ensures.calls;
  full =
      IfErr-weaker c.lower_call.result _ _
      (λ fault full.
      c.loop-rest.invariant.behind.full _
      (call_for (program_of c.args.program.now) c.args.depth (statement_of c.loop-rest.rest.now) c.in-Call.field-0 c.in-Call.into c.in-Call.function (expressions_of c.deref-in-Call.result.now) c.loop-rest.code _
      (ap statement_of c.in-Call.is ∙ ap (λ a. Statement.Call c.in-Call.field-0 c.in-Call.into c.in-Call.function (expressions_of a)) (sym c.deref-in-Call.ensures.value)) full))
      c.lower_call.ensures.full;
}

pub lower_statement-returns-in_default-rest : goal.lower_statement-returns-in_default-rest
lower_statement-returns-in_default-rest t c = record {
  cut =
      on_ok_both c.lower_simple.result
      (λ lowered through cut on.
      let before = c.loop-rest.invariant.through cut on in
      through_both c.args.code.now c.loop-rest.code c.lower_simple.new.code lowered.advances before.1 (through before.0))
      c.lower_simple.ensures.labels c.lower_simple.ensures.cut;
  labels =
      on_ok_weaker c.lower_simple.result
      (λ lowered.
      proceeds_both c.args.around c.args.code.now c.loop-rest.code c.lower_simple.new.code c.loop-rest.invariant.proceeds
      lowered)
      c.lower_simple.ensures.labels;
  lowers =
      on_ok_weaker c.lower_simple.result
      (λ lowered.
      let s = statement_of c.loop-rest.rest.now in
      via_last (program_of c.args.program.now) c.args.around (statement_of c.args.statement.now) s c.args.code.now c.loop-rest.code c.lower_simple.new.code c.loop-rest.invariant.via
      (simple_lowers (program_of c.args.program.now) c.args.around s c.loop-rest.code c.lower_simple.new.code (sym c.is_reached.ensures ∙ c.if-not-is_reached.false)
      (lowered (program_of c.args.program.now))))
      c.lower_simple.ensures.lowers;
  full =
      IfErr-weaker c.lower_simple.result _ _
      (λ fault full.
      c.loop-rest.invariant.behind.full _ (full (program_of c.args.program.now) c.args.depth))
      c.lower_simple.ensures.full;
}

pub lower_statement-returns-in_err-lower_statement-clause-labels : goal.lower_statement-returns-in_err-lower_statement-clause-labels
lower_statement-returns-in_err-lower_statement-clause-labels t c =
    let p = err_from_is_err_and c.from_residual.result c.from_residual.ensures.1 in
    rw p.1 tt

pub lower_statement-returns-in_err-lower_statement-clause-lowers : goal.lower_statement-returns-in_err-lower_statement-clause-lowers
lower_statement-returns-in_err-lower_statement-clause-lowers t c =
    let p = err_from_is_err_and c.from_residual.result c.from_residual.ensures.1 in
    rw p.1 tt

pub lower_statement-returns-in_err-print_count-clause-labels : goal.lower_statement-returns-in_err-print_count-clause-labels
lower_statement-returns-in_err-print_count-clause-labels t c =
    let p = err_from_is_err_and c.from_residual-in_err-print_count.result c.from_residual-in_err-print_count.ensures.1 in
    rw p.1 tt

pub lower_statement-returns-in_err-print_count-clause-lowers : goal.lower_statement-returns-in_err-print_count-clause-lowers
lower_statement-returns-in_err-print_count-clause-lowers t c =
    let p = err_from_is_err_and c.from_residual-in_err-print_count.result c.from_residual-in_err-print_count.ensures.1 in
    rw p.1 tt

pub lower_statement-returns-in_err-skip_sites-clause-labels : goal.lower_statement-returns-in_err-skip_sites-clause-labels
lower_statement-returns-in_err-skip_sites-clause-labels t c =
    let p = err_from_is_err_and c.from_residual-in_err-skip_sites.result c.from_residual-in_err-skip_sites.ensures.1 in
    rw p.1 tt

pub lower_statement-returns-in_err-skip_sites-clause-lowers : goal.lower_statement-returns-in_err-skip_sites-clause-lowers
lower_statement-returns-in_err-skip_sites-clause-lowers t c =
    let p = err_from_is_err_and c.from_residual-in_err-skip_sites.result c.from_residual-in_err-skip_sites.ensures.1 in
    rw p.1 tt

pub lower_statement-returns-in_err-labels-in-If-clause-labels : goal.lower_statement-returns-in_err-labels-in-If-clause-labels
lower_statement-returns-in_err-labels-in-If-clause-labels t c =
    let p = err_from_is_err_and c.from_residual-in_err-labels-in-If.result c.from_residual-in_err-labels-in-If.ensures.1 in
    rw p.1 tt

pub lower_statement-returns-in_err-labels-in-If-clause-lowers : goal.lower_statement-returns-in_err-labels-in-If-clause-lowers
lower_statement-returns-in_err-labels-in-If-clause-lowers t c =
    let p = err_from_is_err_and c.from_residual-in_err-labels-in-If.result c.from_residual-in_err-labels-in-If.ensures.1 in
    rw p.1 tt

pub lower_statement-returns-in_err-lower_statement-in-If-clause-labels : goal.lower_statement-returns-in_err-lower_statement-in-If-clause-labels
lower_statement-returns-in_err-lower_statement-in-If-clause-labels t c =
    let p = err_from_is_err_and c.from_residual-in_err-lower_statement-in-If.result c.from_residual-in_err-lower_statement-in-If.ensures.1 in
    rw p.1 tt

pub lower_statement-returns-in_err-lower_statement-in-If-clause-lowers : goal.lower_statement-returns-in_err-lower_statement-in-If-clause-lowers
lower_statement-returns-in_err-lower_statement-in-If-clause-lowers t c =
    let p = err_from_is_err_and c.from_residual-in_err-lower_statement-in-If.result c.from_residual-in_err-lower_statement-in-If.ensures.1 in
    rw p.1 tt

pub lower_statement-returns-in_err-lower_statement-in-If-2-clause-labels : goal.lower_statement-returns-in_err-lower_statement-in-If-2-clause-labels
lower_statement-returns-in_err-lower_statement-in-If-2-clause-labels t c =
    let p = err_from_is_err_and c.from_residual-in_err-lower_statement-in-If-2.result c.from_residual-in_err-lower_statement-in-If-2.ensures.1 in
    rw p.1 tt

pub lower_statement-returns-in_err-lower_statement-in-If-2-clause-lowers : goal.lower_statement-returns-in_err-lower_statement-in-If-2-clause-lowers
lower_statement-returns-in_err-lower_statement-in-If-2-clause-lowers t c =
    let p = err_from_is_err_and c.from_residual-in_err-lower_statement-in-If-2.result c.from_residual-in_err-lower_statement-in-If-2.ensures.1 in
    rw p.1 tt

pub lower_statement-returns-in_err-labels-in-While-clause-labels : goal.lower_statement-returns-in_err-labels-in-While-clause-labels
lower_statement-returns-in_err-labels-in-While-clause-labels t c =
    let p = err_from_is_err_and c.from_residual-in_err-labels-in-While.result c.from_residual-in_err-labels-in-While.ensures.1 in
    rw p.1 tt

pub lower_statement-returns-in_err-labels-in-While-clause-lowers : goal.lower_statement-returns-in_err-labels-in-While-clause-lowers
lower_statement-returns-in_err-labels-in-While-clause-lowers t c =
    let p = err_from_is_err_and c.from_residual-in_err-labels-in-While.result c.from_residual-in_err-labels-in-While.ensures.1 in
    rw p.1 tt

pub lower_statement-returns-in_err-lower_statement-in-While-clause-labels : goal.lower_statement-returns-in_err-lower_statement-in-While-clause-labels
lower_statement-returns-in_err-lower_statement-in-While-clause-labels t c =
    let p = err_from_is_err_and c.from_residual-in_err-lower_statement-in-While.result c.from_residual-in_err-lower_statement-in-While.ensures.1 in
    rw p.1 tt

pub lower_statement-returns-in_err-lower_statement-in-While-clause-lowers : goal.lower_statement-returns-in_err-lower_statement-in-While-clause-lowers
lower_statement-returns-in_err-lower_statement-in-While-clause-lowers t c =
    let p = err_from_is_err_and c.from_residual-in_err-lower_statement-in-While.result c.from_residual-in_err-lower_statement-in-While.ensures.1 in
    rw p.1 tt

pub lower_statement-returns-in_err-lower_statement-in-DoWhile-clause-labels : goal.lower_statement-returns-in_err-lower_statement-in-DoWhile-clause-labels
lower_statement-returns-in_err-lower_statement-in-DoWhile-clause-labels t c =
    let p = err_from_is_err_and c.from_residual-in_err-lower_statement-in-DoWhile.result c.from_residual-in_err-lower_statement-in-DoWhile.ensures.1 in
    rw p.1 tt

pub lower_statement-returns-in_err-lower_statement-in-DoWhile-clause-lowers : goal.lower_statement-returns-in_err-lower_statement-in-DoWhile-clause-lowers
lower_statement-returns-in_err-lower_statement-in-DoWhile-clause-lowers t c =
    let p = err_from_is_err_and c.from_residual-in_err-lower_statement-in-DoWhile.result c.from_residual-in_err-lower_statement-in-DoWhile.ensures.1 in
    rw p.1 tt

pub lower_statement-returns-in_err-lower_statement-in-For-clause-labels : goal.lower_statement-returns-in_err-lower_statement-in-For-clause-labels
lower_statement-returns-in_err-lower_statement-in-For-clause-labels t c =
    let p = err_from_is_err_and c.from_residual-in_err-lower_statement-in-For.result c.from_residual-in_err-lower_statement-in-For.ensures.1 in
    rw p.1 tt

pub lower_statement-returns-in_err-lower_statement-in-For-clause-lowers : goal.lower_statement-returns-in_err-lower_statement-in-For-clause-lowers
lower_statement-returns-in_err-lower_statement-in-For-clause-lowers t c =
    let p = err_from_is_err_and c.from_residual-in_err-lower_statement-in-For.result c.from_residual-in_err-lower_statement-in-For.ensures.1 in
    rw p.1 tt

pub lower_statement-returns-in_err-labels-in-For-clause-labels : goal.lower_statement-returns-in_err-labels-in-For-clause-labels
lower_statement-returns-in_err-labels-in-For-clause-labels t c =
    let p = err_from_is_err_and c.from_residual-in_err-labels-in-For.result c.from_residual-in_err-labels-in-For.ensures.1 in
    rw p.1 tt

pub lower_statement-returns-in_err-labels-in-For-clause-lowers : goal.lower_statement-returns-in_err-labels-in-For-clause-lowers
lower_statement-returns-in_err-labels-in-For-clause-lowers t c =
    let p = err_from_is_err_and c.from_residual-in_err-labels-in-For.result c.from_residual-in_err-labels-in-For.ensures.1 in
    rw p.1 tt

pub lower_statement-returns-in_err-lower_statement-in-For-2-clause-labels : goal.lower_statement-returns-in_err-lower_statement-in-For-2-clause-labels
lower_statement-returns-in_err-lower_statement-in-For-2-clause-labels t c =
    let p = err_from_is_err_and c.from_residual-in_err-lower_statement-in-For-2.result c.from_residual-in_err-lower_statement-in-For-2.ensures.1 in
    rw p.1 tt

pub lower_statement-returns-in_err-lower_statement-in-For-2-clause-lowers : goal.lower_statement-returns-in_err-lower_statement-in-For-2-clause-lowers
lower_statement-returns-in_err-lower_statement-in-For-2-clause-lowers t c =
    let p = err_from_is_err_and c.from_residual-in_err-lower_statement-in-For-2.result c.from_residual-in_err-lower_statement-in-For-2.ensures.1 in
    rw p.1 tt

pub lower_statement-returns-in_err-lower_statement-in-For-3-clause-labels : goal.lower_statement-returns-in_err-lower_statement-in-For-3-clause-labels
lower_statement-returns-in_err-lower_statement-in-For-3-clause-labels t c =
    let p = err_from_is_err_and c.from_residual-in_err-lower_statement-in-For-3.result c.from_residual-in_err-lower_statement-in-For-3.ensures.1 in
    rw p.1 tt

pub lower_statement-returns-in_err-lower_statement-in-For-3-clause-lowers : goal.lower_statement-returns-in_err-lower_statement-in-For-3-clause-lowers
lower_statement-returns-in_err-lower_statement-in-For-3-clause-lowers t c =
    let p = err_from_is_err_and c.from_residual-in_err-lower_statement-in-For-3.result c.from_residual-in_err-lower_statement-in-For-3.ensures.1 in
    rw p.1 tt

pub lower_call-returns-in_err-lower_statement-clause-labels : goal.lower_call-returns-in_err-lower_statement-clause-labels
lower_call-returns-in_err-lower_statement-clause-labels t c =
    let p = err_from_is_err_and c.from_residual-in_err-lower_statement.result c.from_residual-in_err-lower_statement.ensures.1 in
    rw p.1 tt

pub lower_call-returns-in_err-lower_statement-clause-calls : goal.lower_call-returns-in_err-lower_statement-clause-calls
lower_call-returns-in_err-lower_statement-clause-calls t c =
    let p = err_from_is_err_and c.from_residual-in_err-lower_statement.result c.from_residual-in_err-lower_statement.ensures.1 in
    rw p.1 tt

pub lower_statement-returns-in_err-turn_choice-in-If : goal.lower_statement-returns-in_err-turn_choice-in-If
lower_statement-returns-in_err-turn_choice-in-If t c =
    let p = err_from_is_err_and c.from_residual-in_err-turn_choice-in-If.result c.from_residual-in_err-turn_choice-in-If.ensures.1 in
    record { labels = rw p.1 tt; cut = rw p.1 tt; lowers = rw p.1 tt; full = rw (p.1, p.2) (λ S w size suits deep now is. cc) }

pub lower_statement-returns-in_err-bind-in-If : goal.lower_statement-returns-in_err-bind-in-If
lower_statement-returns-in_err-bind-in-If t c =
    let p = err_from_is_err_and c.from_residual-in_err-bind-in-If.result c.from_residual-in_err-bind-in-If.ensures.1 in
    record { labels = rw p.1 tt; cut = rw p.1 tt; lowers = rw p.1 tt; full = rw (p.1, p.2) (λ S w size suits deep now is. cc) }

pub lower_statement-returns-in_err-close_turn-in-While : goal.lower_statement-returns-in_err-close_turn-in-While
lower_statement-returns-in_err-close_turn-in-While t c =
    let p = err_from_is_err_and c.from_residual-in_err-close_turn-in-While.result c.from_residual-in_err-close_turn-in-While.ensures.1 in
    record { labels = rw p.1 tt; cut = rw p.1 tt; lowers = rw p.1 tt; full = rw (p.1, p.2) (λ S w size suits deep now is. cc) }

pub lower_statement-returns-in_err-labels-in-DoWhile : goal.lower_statement-returns-in_err-labels-in-DoWhile
lower_statement-returns-in_err-labels-in-DoWhile t c =
    let p = err_from_is_err_and c.from_residual-in_err-labels-in-DoWhile.result c.from_residual-in_err-labels-in-DoWhile.ensures.1 in
    record { labels = rw p.1 tt; cut = rw p.1 tt; lowers = rw p.1 tt; full = rw (p.1, p.2) (λ S w size suits deep now is. cc) }

pub lower_statement-returns-in_err-turn_for-in-For : goal.lower_statement-returns-in_err-turn_for-in-For
lower_statement-returns-in_err-turn_for-in-For t c =
    let p = err_from_is_err_and c.from_residual-in_err-turn_for-in-For.result c.from_residual-in_err-turn_for-in-For.ensures.1 in
    record { labels = rw p.1 tt; cut = rw p.1 tt; lowers = rw p.1 tt; full = rw (p.1, p.2) (λ S w size suits deep now is. cc) }

pub lower_statement-returns-in_err-close_for-in-For : goal.lower_statement-returns-in_err-close_for-in-For
lower_statement-returns-in_err-close_for-in-For t c =
    let p = err_from_is_err_and c.from_residual-in_err-close_for-in-For.result c.from_residual-in_err-close_for-in-For.ensures.1 in
    record { labels = rw p.1 tt; cut = rw p.1 tt; lowers = rw p.1 tt; full = rw (p.1, p.2) (λ S w size suits deep now is. cc) }

pub lower_call-returns : goal.lower_call-returns
lower_call-returns t c = record {
  labels =
      on_ok_weaker c.close_call.result
      (λ closes.
      λ around.
      calls_proceed c.args.into c.args.number (function_of c.in-Some.function.now) (expressions_of c.args.arguments.now) c.in_ok-caller.caller c.args.code.now c.open_call.new.code
      c.in_ok-caller.ensures.opens c.in_ok-caller.ensures.open_ c.lower_statement.new.code
      c.in_ok-lower_statement.ensures.labels c.close_call.new.code closes (let e = c.in_ok-caller.ensures.label in omega (arith, e)) c.requires.reached around)
      c.close_call.ensures.closes;
  through =
      on_ok_weaker c.close_call.result
      (λ closes.
      call_through c.args.into c.args.number (function_of c.in-Some.function.now) (expressions_of c.args.arguments.now) c.in_ok-caller.caller c.args.code.now c.open_call.new.code
      c.in_ok-caller.ensures.opens c.in_ok-caller.ensures.open_ c.lower_statement.new.code c.in_ok-lower_statement.ensures.labels c.close_call.new.code closes c.requires.reached)
      c.close_call.ensures.closes;
  calls =
      on_ok_weaker c.close_call.result
      (λ closes.
      record {
        function = function_of c.in-Some.function.now;
        found = get_mapped function_of c.args.program.now.functions.items c.args.number c.in-Some.function.now (ap (λ l. slice_get l c.args.number) (sym c.deref.ensures.value) ∙ sym c.in-Some.ensures);
        caller = c.in_ok-caller.caller;
        begun = c.open_call.new.code;
        opens = c.in_ok-caller.ensures.opens;
        done = c.lower_statement.new.code;
        lowers = c.in_ok-lower_statement.ensures.lowers;
        closes = closes;
      })
      c.close_call.ensures.closes;
  full =
      IfErr-weaker c.close_call.result _ _
      (λ fault full.
      call_closing (program_of c.args.program.now) c.args.depth c.args.into c.args.number (expressions_of c.args.arguments.now) c.args.code.now _ (function_of c.in-Some.function.now)
      (get_mapped function_of c.args.program.now.functions.items c.args.number c.in-Some.function.now (ap (λ l. slice_get l c.args.number) (sym c.deref.ensures.value) ∙ sym c.in-Some.ensures))
      c.in_ok-caller.caller c.open_call.new.code c.in_ok-caller.ensures.opens c.requires.reached c.lower_statement.new.code c.in_ok-lower_statement.ensures.lowers full)
      c.close_call.ensures.full;
}

pub lower_call-returns-in_err-caller : goal.lower_call-returns-in_err-caller
lower_call-returns-in_err-caller t c =
    let p = err_from_is_err_and c.from_residual.result c.from_residual.ensures.1 in
    record {
      labels = rw p.1 tt;
      through = rw p.1 tt;
      calls = rw p.1 tt;
      full =
          rw (p.1, p.2) (λ S w size seated deep fits good call among now is.
          let large = c.in_err-caller.ensures.full is in
          let operations = now.size in
          let steps = now.steps in
          omega (arith, large, operations, steps));
    }

pub lower_statement-returns-in_err-lower_statement-clause-cut : goal.lower_statement-returns-in_err-lower_statement-clause-cut
lower_statement-returns-in_err-lower_statement-clause-cut t c =
    let p = err_from_is_err_and c.from_residual.result c.from_residual.ensures.1 in
    rw p.1 tt

pub lower_statement-returns-in_err-print_count-clause-cut : goal.lower_statement-returns-in_err-print_count-clause-cut
lower_statement-returns-in_err-print_count-clause-cut t c =
    let p = err_from_is_err_and c.from_residual-in_err-print_count.result c.from_residual-in_err-print_count.ensures.1 in
    rw p.1 tt

pub lower_statement-returns-in_err-skip_sites-clause-cut : goal.lower_statement-returns-in_err-skip_sites-clause-cut
lower_statement-returns-in_err-skip_sites-clause-cut t c =
    let p = err_from_is_err_and c.from_residual-in_err-skip_sites.result c.from_residual-in_err-skip_sites.ensures.1 in
    rw p.1 tt

pub lower_statement-returns-in_err-labels-in-If-clause-cut : goal.lower_statement-returns-in_err-labels-in-If-clause-cut
lower_statement-returns-in_err-labels-in-If-clause-cut t c =
    let p = err_from_is_err_and c.from_residual-in_err-labels-in-If.result c.from_residual-in_err-labels-in-If.ensures.1 in
    rw p.1 tt

pub lower_statement-returns-in_err-lower_statement-in-If-clause-cut : goal.lower_statement-returns-in_err-lower_statement-in-If-clause-cut
lower_statement-returns-in_err-lower_statement-in-If-clause-cut t c =
    let p = err_from_is_err_and c.from_residual-in_err-lower_statement-in-If.result c.from_residual-in_err-lower_statement-in-If.ensures.1 in
    rw p.1 tt

pub lower_statement-returns-in_err-lower_statement-in-If-2-clause-cut : goal.lower_statement-returns-in_err-lower_statement-in-If-2-clause-cut
lower_statement-returns-in_err-lower_statement-in-If-2-clause-cut t c =
    let p = err_from_is_err_and c.from_residual-in_err-lower_statement-in-If-2.result c.from_residual-in_err-lower_statement-in-If-2.ensures.1 in
    rw p.1 tt

pub lower_statement-returns-in_err-labels-in-While-clause-cut : goal.lower_statement-returns-in_err-labels-in-While-clause-cut
lower_statement-returns-in_err-labels-in-While-clause-cut t c =
    let p = err_from_is_err_and c.from_residual-in_err-labels-in-While.result c.from_residual-in_err-labels-in-While.ensures.1 in
    rw p.1 tt

pub lower_statement-returns-in_err-lower_statement-in-While-clause-cut : goal.lower_statement-returns-in_err-lower_statement-in-While-clause-cut
lower_statement-returns-in_err-lower_statement-in-While-clause-cut t c =
    let p = err_from_is_err_and c.from_residual-in_err-lower_statement-in-While.result c.from_residual-in_err-lower_statement-in-While.ensures.1 in
    rw p.1 tt

pub lower_statement-returns-in_err-lower_statement-in-DoWhile-clause-cut : goal.lower_statement-returns-in_err-lower_statement-in-DoWhile-clause-cut
lower_statement-returns-in_err-lower_statement-in-DoWhile-clause-cut t c =
    let p = err_from_is_err_and c.from_residual-in_err-lower_statement-in-DoWhile.result c.from_residual-in_err-lower_statement-in-DoWhile.ensures.1 in
    rw p.1 tt

pub lower_statement-returns-in_err-lower_statement-in-For-clause-cut : goal.lower_statement-returns-in_err-lower_statement-in-For-clause-cut
lower_statement-returns-in_err-lower_statement-in-For-clause-cut t c =
    let p = err_from_is_err_and c.from_residual-in_err-lower_statement-in-For.result c.from_residual-in_err-lower_statement-in-For.ensures.1 in
    rw p.1 tt

pub lower_statement-returns-in_err-labels-in-For-clause-cut : goal.lower_statement-returns-in_err-labels-in-For-clause-cut
lower_statement-returns-in_err-labels-in-For-clause-cut t c =
    let p = err_from_is_err_and c.from_residual-in_err-labels-in-For.result c.from_residual-in_err-labels-in-For.ensures.1 in
    rw p.1 tt

pub lower_statement-returns-in_err-lower_statement-in-For-2-clause-cut : goal.lower_statement-returns-in_err-lower_statement-in-For-2-clause-cut
lower_statement-returns-in_err-lower_statement-in-For-2-clause-cut t c =
    let p = err_from_is_err_and c.from_residual-in_err-lower_statement-in-For-2.result c.from_residual-in_err-lower_statement-in-For-2.ensures.1 in
    rw p.1 tt

pub lower_statement-returns-in_err-lower_statement-in-For-3-clause-cut : goal.lower_statement-returns-in_err-lower_statement-in-For-3-clause-cut
lower_statement-returns-in_err-lower_statement-in-For-3-clause-cut t c =
    let p = err_from_is_err_and c.from_residual-in_err-lower_statement-in-For-3.result c.from_residual-in_err-lower_statement-in-For-3.ensures.1 in
    rw p.1 tt

pub lower_statement-returns-in_err-print_count-in-For-clause-labels : goal.lower_statement-returns-in_err-print_count-in-For-clause-labels
lower_statement-returns-in_err-print_count-in-For-clause-labels t c =
    let p = err_from_is_err_and c.from_residual-in_err-print_count-in-For.result c.from_residual-in_err-print_count-in-For.ensures.1 in
    rw p.1 tt

pub lower_statement-returns-in_err-print_count-in-For-clause-cut : goal.lower_statement-returns-in_err-print_count-in-For-clause-cut
lower_statement-returns-in_err-print_count-in-For-clause-cut t c =
    let p = err_from_is_err_and c.from_residual-in_err-print_count-in-For.result c.from_residual-in_err-print_count-in-For.ensures.1 in
    rw p.1 tt

pub lower_statement-returns-in_err-print_count-in-For-clause-lowers : goal.lower_statement-returns-in_err-print_count-in-For-clause-lowers
lower_statement-returns-in_err-print_count-in-For-clause-lowers t c =
    let p = err_from_is_err_and c.from_residual-in_err-print_count-in-For.result c.from_residual-in_err-print_count-in-For.ensures.1 in
    rw p.1 tt

pub lower_statement-returns-in_err-skip_sites-in-For-clause-labels : goal.lower_statement-returns-in_err-skip_sites-in-For-clause-labels
lower_statement-returns-in_err-skip_sites-in-For-clause-labels t c =
    let p = err_from_is_err_and c.from_residual-in_err-skip_sites-in-For.result c.from_residual-in_err-skip_sites-in-For.ensures.1 in
    rw p.1 tt

pub lower_statement-returns-in_err-skip_sites-in-For-clause-cut : goal.lower_statement-returns-in_err-skip_sites-in-For-clause-cut
lower_statement-returns-in_err-skip_sites-in-For-clause-cut t c =
    let p = err_from_is_err_and c.from_residual-in_err-skip_sites-in-For.result c.from_residual-in_err-skip_sites-in-For.ensures.1 in
    rw p.1 tt

pub lower_statement-returns-in_err-skip_sites-in-For-clause-lowers : goal.lower_statement-returns-in_err-skip_sites-in-For-clause-lowers
lower_statement-returns-in_err-skip_sites-in-For-clause-lowers t c =
    let p = err_from_is_err_and c.from_residual-in_err-skip_sites-in-For.result c.from_residual-in_err-skip_sites-in-For.ensures.1 in
    rw p.1 tt

pub lower_statement-returns-then-not-is_reached-clause-cut : goal.lower_statement-returns-then-not-is_reached-clause-cut
lower_statement-returns-then-not-is_reached-clause-cut t c = λ cut on.
    absurd (let off = sym c.is_reached.ensures ∙ c.if-not-is_reached.true in let reached = (c.loop-rest.invariant.through cut on).1.reached in cc)

pub lower_statement-returns-in_ok-bind-in-If-clause-cut : goal.lower_statement-returns-in_ok-bind-in-If-clause-cut
lower_statement-returns-in_ok-bind-in-If-clause-cut t c = λ cut on.
    let d = statement_of c.deref-in-If.result.now in
    let one = statement_of c.deref-in-If-2.result.now in
    let other = statement_of c.deref-in-If-3.result.now in
    let is : statement_of c.loop-rest.rest.now ≡ Statement.If d one other =
    ap statement_of c.in-If.is
    ∙ ap (λ z. Statement.If (statement_of z) (statement_of c.in-If.consequent.value) (statement_of c.in-If.alternative.value)) (sym c.deref-in-If.ensures)
    ∙ ap (λ z. Statement.If (statement_of c.deref-in-If.result.now) (statement_of z) (statement_of c.in-If.alternative.value)) (sym c.deref-in-If-2.ensures)
    ∙ ap (λ z. Statement.If (statement_of c.deref-in-If.result.now) (statement_of c.deref-in-If-2.result.now) (statement_of z)) (sym c.deref-in-If-3.ensures) in
    let before = c.loop-rest.invariant.through cut on in
    let parts = cut_choice (statement_of c.loop-rest.rest.now) d one other is before.0 in
    through_both c.args.code.now c.loop-rest.code c.bind.new.self
    (choice_proceeds c.args.around (program_of c.args.program.now) d c.in_ok-labels-in-If.labels c.loop-rest.code c.open_choice.new.code c.lower_statement-in-If.new.code
    c.turn_choice.new.code c.lower_statement-in-If-2.new.code c.bind.new.self (sym c.is_reached.ensures ∙ c.if-not-is_reached.false) c.in_ok-labels-in-If.ensures
    c.in_ok-lower_statement-in-If.ensures.labels c.in_ok-turn_choice-in-If.ensures
    c.in_ok-lower_statement-in-If-2.ensures.labels c.in_ok-bind-in-If.ensures).advances
    before.1
    (choice_through (program_of c.args.program.now) d c.in_ok-labels-in-If.labels c.loop-rest.code c.open_choice.new.code c.lower_statement-in-If.new.code c.turn_choice.new.code
    c.lower_statement-in-If-2.new.code c.bind.new.self c.in_ok-labels-in-If.ensures c.args.around c.in_ok-lower_statement-in-If.ensures.labels
    (λ reached. (c.in_ok-lower_statement-in-If.ensures.cut parts.0 reached).reached)
    c.in_ok-turn_choice-in-If.ensures c.in_ok-lower_statement-in-If-2.ensures.lowers.grows c.in_ok-lower_statement-in-If-2.ensures.labels c.in_ok-bind-in-If.ensures)

pub lower_statement-returns-in_ok-close_turn-in-While-clause-cut : goal.lower_statement-returns-in_ok-close_turn-in-While-clause-cut
lower_statement-returns-in_ok-close_turn-in-While-clause-cut t c = λ cut on.
    absurd (let is = ap (λ z. is_cut (statement_of z)) c.in-While.is in let so = (c.loop-rest.invariant.through cut on).0 in cc)

pub lower_statement-returns-in_ok-close_for-in-For-clause-cut : goal.lower_statement-returns-in_ok-close_for-in-For-clause-cut
lower_statement-returns-in_ok-close_for-in-For-clause-cut t c = λ cut on.
    absurd (let is = ap (λ z. is_cut (statement_of z)) c.in-For.is in let so = (c.loop-rest.invariant.through cut on).0 in cc)

pub lower_statement-lower_truth-requires : goal.lower_statement-lower_truth-requires
lower_statement-lower_truth-requires t c =
    let d = statement_of c.deref-in-Truth.result.now in
    let is : statement_of c.loop-rest.rest.now ≡ Statement.Truth c.in-Truth.slot d =
    ap statement_of c.in-Truth.is ∙ ap (λ z. Statement.Truth c.in-Truth.slot (statement_of z)) (sym c.deref-in-Truth.ensures) in (
      (let size = ap nested_size is in let before = c.loop-rest.invariant.less in omega (arith, size, before)),
      (
        c.requires.functions,
        (
          truth_asked (is_some c.args.around) (has_turning c.args.around) (statement_of c.loop-rest.rest.now) d c.in-Truth.slot is c.loop-rest.invariant.taken,
          (
            back_after c.args.code.now c.loop-rest.code c.loop-rest.invariant.proceeds.advances c.loop-rest.invariant.proceeds.back c.requires.back,
            sym c.is_reached.ensures ∙ c.if-not-is_reached.false,
          ),
        ),
      ),
    )

pub lower_statement-returns-in-Truth : goal.lower_statement-returns-in-Truth
lower_statement-returns-in-Truth t c =
    let d = statement_of c.deref-in-Truth.result.now in
    let s = statement_of c.loop-rest.rest.now in
    let is : s ≡ Statement.Truth c.in-Truth.slot d =
    ap statement_of c.in-Truth.is ∙ ap (λ z. Statement.Truth c.in-Truth.slot (statement_of z)) (sym c.deref-in-Truth.ensures) in
    record {
      labels =
          on_ok_weaker c.lower_truth.result
          (λ lowered. proceeds_both c.args.around c.args.code.now c.loop-rest.code c.lower_truth.new.code c.loop-rest.invariant.proceeds (lowered c.args.around)) c.lower_truth.ensures.labels;
      cut =
          on_ok_both c.lower_truth.result
          (λ lowered through cut on. through_both c.args.code.now c.loop-rest.code c.lower_truth.new.code (lowered None).advances (c.loop-rest.invariant.through cut on).1 through)
          c.lower_truth.ensures.labels c.lower_truth.ensures.through;
      lowers =
          on_ok_weaker c.lower_truth.result
          (λ lowered.
          via_last (program_of c.args.program.now) c.args.around (statement_of c.args.statement.now) s c.args.code.now c.loop-rest.code c.lower_truth.new.code c.loop-rest.invariant.via
          (subst (λ z. Leads (program_of c.args.program.now) c.args.around z c.loop-rest.code c.lower_truth.new.code) (sym is) (lowered c.args.around)))
          c.lower_truth.ensures.lowers;
      full =
          IfErr-weaker c.lower_truth.result _ _
          (λ fault full.
          c.loop-rest.invariant.behind.full _
          (full_is (program_of c.args.program.now) c.args.depth (Statement.Truth c.in-Truth.slot d) s c.loop-rest.code fault is full))
          c.lower_truth.ensures.full;
    }

-- ---- a switch

pub lower_statement-lower_switch-requires : goal.lower_statement-lower_switch-requires
lower_statement-lower_switch-requires t c =
    let e = expression_of c.deref-in-Switch.result.now in
    let body = statement_of c.deref-in-Switch-2.result.now in
    let is : statement_of c.loop-rest.rest.now ≡ Statement.Switch c.in-Switch.field-0 c.in-Switch.ty e body =
    ap statement_of c.in-Switch.is
    ∙ ap (λ z. Statement.Switch c.in-Switch.field-0 c.in-Switch.ty (expression_of z) (statement_of c.in-Switch.body.value)) (sym c.deref-in-Switch.ensures)
    ∙ ap (λ z. Statement.Switch c.in-Switch.field-0 c.in-Switch.ty e (statement_of z)) (sym c.deref-in-Switch-2.ensures) in (
      (let size = ap nested_size is in let before = c.loop-rest.invariant.less in let now = c.decreases in omega (arith, size, before, now)),
      (
        c.requires.functions,
        (
          sym (ap (is_taken (is_some c.args.around) (has_turning c.args.around)) is) ∙ c.loop-rest.invariant.taken,
          (
            targets_after c.args.around c.args.code.now.stages c.loop-rest.code.stages c.loop-rest.invariant.proceeds.advances c.requires.targets,
            (
              back_after c.args.code.now c.loop-rest.code c.loop-rest.invariant.proceeds.advances c.loop-rest.invariant.proceeds.back c.requires.back,
              sym c.is_reached.ensures ∙ c.if-not-is_reached.false,
            ),
          ),
        ),
      ),
    )

pub lower_statement-returns-in-Switch : goal.lower_statement-returns-in-Switch
lower_statement-returns-in-Switch t c =
    let e = expression_of c.deref-in-Switch.result.now in
    let body = statement_of c.deref-in-Switch-2.result.now in
    let s = statement_of c.loop-rest.rest.now in
    let is : s ≡ Statement.Switch c.in-Switch.field-0 c.in-Switch.ty e body =
    ap statement_of c.in-Switch.is
    ∙ ap (λ z. Statement.Switch c.in-Switch.field-0 c.in-Switch.ty (expression_of z) (statement_of c.in-Switch.body.value)) (sym c.deref-in-Switch.ensures)
    ∙ ap (λ z. Statement.Switch c.in-Switch.field-0 c.in-Switch.ty e (statement_of z)) (sym c.deref-in-Switch-2.ensures) in
    record {
      labels =
          on_ok_weaker c.lower_switch.result
          (λ lowered. proceeds_both c.args.around c.args.code.now c.loop-rest.code c.lower_switch.new.code c.loop-rest.invariant.proceeds lowered) c.lower_switch.ensures.labels;
      cut =
          on_ok_weaker c.lower_switch.result
          (λ lowered cut on. absurd (let wrong = sym (ap is_cut is) ∙ (c.loop-rest.invariant.through cut on).0 in cc)) c.lower_switch.ensures.labels;
      lowers =
          on_ok_weaker c.lower_switch.result
          (λ lowered.
          via_last (program_of c.args.program.now) c.args.around (statement_of c.args.statement.now) s c.args.code.now c.loop-rest.code c.lower_switch.new.code c.loop-rest.invariant.via
          (subst (λ z. Leads (program_of c.args.program.now) c.args.around z c.loop-rest.code c.lower_switch.new.code) (sym is) (lowered c.in-Switch.field-0)))
          c.lower_switch.ensures.lowers;
      full =
          IfErr-weaker c.lower_switch.result _ _
          (λ fault full.
          c.loop-rest.invariant.behind.full _
          (full_is (program_of c.args.program.now) c.args.depth (Statement.Switch c.in-Switch.field-0 c.in-Switch.ty e body) s c.loop-rest.code fault is (full c.in-Switch.field-0)))
          c.lower_switch.ensures.full;
    }

pub lower_switch-lower_cases-requires : goal.lower_switch-lower_cases-requires
lower_switch-lower_cases-requires t c =
    let body = statement_of c.args.body.now in
    let own = c.in_ok-labels.labels in
    let n = length (labels_of body) in
    let is = sym c.switch_targets-inside.ensures in (
      (let now = c.decreases in omega (arith, now)),
      (
        c.requires.functions,
        (
          subst (λ (z : Loop). is_taken true (has_turning (Some z)) body ≡ true) is c.requires.taken,
          subst (λ (z : Loop). Awaits own.first n (Some z) c.open_switch.new.code) is
              (switch_awaits c.args.ty (expression_of c.args.operand.now) body own c.args.code.now c.open_switch.new.code c.requires.reached c.in_ok-labels.ensures c.args.around c.requires.targets
              c.requires.back),
        ),
      ),
    )

pub lower_switch-bind-requires : goal.lower_switch-bind-requires
lower_switch-bind-requires t c =
    let P = program_of c.args.program.now in
    let body = statement_of c.args.body.now in
    let own = c.in_ok-labels.labels in
    past_open c.args.ty (expression_of c.args.operand.now) body own c.args.code.now c.open_switch.new.code c.requires.reached c.in_ok-labels.ensures P c.args.around c.in_ok-lower_cases.field-0
    c.lower_cases.new.code
    (subst (λ (z : Loop). LowersCases P (Some z) body own.first c.in_ok-lower_cases.field-0 c.open_switch.new.code c.lower_cases.new.code) c.switch_targets-inside.ensures c.in_ok-lower_cases.ensures)

pub lower_switch-returns : goal.lower_switch-returns
lower_switch-returns t c =
    let P = program_of c.args.program.now in
    let e = expression_of c.args.operand.now in
    let body = statement_of c.args.body.now in
    let own = c.in_ok-labels.labels in
    let cases = subst (λ (z : Loop). LowersCases P (Some z) body own.first c.in_ok-lower_cases.field-0 c.open_switch.new.code c.lower_cases.new.code) c.switch_targets-inside.ensures
    c.in_ok-lower_cases.ensures in
    record {
      labels =
          switch_proceeds c.args.ty e body own c.args.code.now c.open_switch.new.code c.requires.reached c.in_ok-labels.ensures P c.args.around c.in_ok-lower_cases.field-0
          c.lower_cases.new.code cases c.bind.new.self c.in_ok-bind.ensures;
      lowers = λ offset.
          switch_leads P offset c.args.ty e body own c.args.code.now c.open_switch.new.code c.requires.reached c.in_ok-labels.ensures c.args.around
          c.lower_cases.new.code c.bind.new.self cases.enters c.in_ok-bind.ensures;
      full = tt;
    }

pub lower_switch-returns-in_err-labels : goal.lower_switch-returns-in_err-labels
lower_switch-returns-in_err-labels t c =
    let p = err_from_is_err_and c.from_residual.result c.from_residual.ensures.1 in
    record {
      labels = rw p.1 tt;
      lowers = rw p.1 tt;
      full =
          rw (p.1, p.2)
          (λ offset.
          switch_head_for (program_of c.args.program.now) offset c.args.ty (expression_of c.args.operand.now) (statement_of c.args.body.now) c.args.code.now c.args.depth _
          c.in_err-labels.ensures);
    }

pub lower_switch-returns-in_err-lower_cases : goal.lower_switch-returns-in_err-lower_cases
lower_switch-returns-in_err-lower_cases t c =
    let p = err_from_is_err_and c.from_residual-in_err-lower_cases.result c.from_residual-in_err-lower_cases.ensures.1 in
    record {
      labels = rw p.1 tt;
      lowers = rw p.1 tt;
      full =
          rw (p.1, p.2)
          (λ offset.
          switch_body_for (program_of c.args.program.now) offset c.args.ty (expression_of c.args.operand.now) (statement_of c.args.body.now) c.in_ok-labels.labels c.args.code.now
          c.open_switch.new.code c.requires.reached c.in_ok-labels.ensures c.args.depth _ c.in_err-lower_cases.ensures);
    }

pub lower_switch-returns-in_err-bind : goal.lower_switch-returns-in_err-bind
lower_switch-returns-in_err-bind t c =
    let p = err_from_is_err_and c.from_residual-in_err-bind.result c.from_residual-in_err-bind.ensures.1 in
    record { labels = rw p.1 tt; lowers = rw p.1 tt; full = rw (p.1, p.2) (λ offset S w size suits deep now is. cc) }

pub lower_cases-lower_cases-requires : goal.lower_cases-lower_cases-requires
lower_cases-lower_cases-requires t c =
    let body = statement_of c.args.body.now in
    let first = statement_of c.deref.result.now in
    let rest = statement_of c.in-Sequence.rest.value in
    let is : body ≡ Statement.Sequence first rest =
    ap statement_of c.in-Sequence.is ∙ ap (λ z. Statement.Sequence (statement_of z) rest) (sym c.deref.ensures) in (
      (let size = ap nested_size is in let now = c.decreases in omega (arith, size, now)),
      (
        c.requires.functions,
        (
          (sequence_taken (is_some c.args.around) (has_turning c.args.around) body first rest is c.requires.taken).0,
          awaits_first c.args.label (length (labels_of first)) (length (labels_of rest)) (length (labels_of body)) c.args.around c.args.code.now (labels_sum body first rest is) c.requires.labels,
        ),
      ),
    )

pub lower_cases-lower_cases-requires-in-Sequence : goal.lower_cases-lower_cases-requires-in-Sequence
lower_cases-lower_cases-requires-in-Sequence t c =
    let body = statement_of c.args.body.now in
    let first = statement_of c.deref.result.now in
    let rest = statement_of c.deref-in-Sequence.result.now in
    let is : body ≡ Statement.Sequence first rest =
    ap statement_of c.in-Sequence.is ∙ ap (λ z. Statement.Sequence (statement_of z) (statement_of c.in-Sequence.rest.value)) (sym c.deref.ensures)
    ∙ ap (λ z. Statement.Sequence first (statement_of z)) (sym c.deref-in-Sequence.ensures) in (
      (let size = ap nested_size is in let now = c.decreases in omega (arith, size, now)),
      (
        c.requires.functions,
        (
          (sequence_taken (is_some c.args.around) (has_turning c.args.around) body first rest is c.requires.taken).1,
          awaits_rest c.args.label (length (labels_of first)) (length (labels_of rest)) (length (labels_of body)) c.in_ok-next-in-Sequence.next c.args.around c.args.code.now c.lower_cases.new.code
              (labels_sum body first rest is) c.requires.labels c.in_ok-next-in-Sequence.ensures.next_ c.in_ok-next-in-Sequence.ensures.advances c.in_ok-next-in-Sequence.ensures.back,
        ),
      ),
    )

pub lower_cases-returns-in_ok-next-in-Sequence : goal.lower_cases-returns-in_ok-next-in-Sequence
lower_cases-returns-in_ok-next-in-Sequence t c =
    let P = program_of c.args.program.now in
    let body = statement_of c.args.body.now in
    let first = statement_of c.deref.result.now in
    let rest = statement_of c.deref-in-Sequence.result.now in
    let is : body ≡ Statement.Sequence first rest =
    ap statement_of c.in-Sequence.is ∙ ap (λ z. Statement.Sequence (statement_of z) (statement_of c.in-Sequence.rest.value)) (sym c.deref.ensures)
    ∙ ap (λ z. Statement.Sequence first (statement_of z)) (sym c.deref-in-Sequence.ensures) in
    MatchResult-weaker c.lower_cases-in-Sequence.result c.lower_cases-in-Sequence.ensures
    (λ last lowered.
    both_lowers P c.args.around body first rest c.args.label c.in_ok-next-in-Sequence.next last c.args.code.now c.lower_cases.new.code c.lower_cases-in-Sequence.new.code is c.in_ok-next-in-Sequence.ensures lowered)
    (λ fault full.
    rest_cases_for P c.args.around c.args.depth body first rest c.args.label c.in_ok-next-in-Sequence.next c.args.code.now c.lower_cases.new.code fault is c.in_ok-next-in-Sequence.ensures full)

pub lower_cases-returns-in_err-next-in-Sequence : goal.lower_cases-returns-in_err-next-in-Sequence
lower_cases-returns-in_err-next-in-Sequence t c =
    let p = err_from_is_err_and c.from_residual.result c.from_residual.ensures.1 in
    let first = statement_of c.deref.result.now in
    let rest = statement_of c.in-Sequence.rest.value in
    let is : statement_of c.args.body.now ≡ Statement.Sequence first rest =
    ap statement_of c.in-Sequence.is ∙ ap (λ z. Statement.Sequence (statement_of z) rest) (sym c.deref.ensures) in
    rw (p.1, p.2)
    (first_cases_for (program_of c.args.program.now) c.args.depth (statement_of c.args.body.now) first rest c.args.code.now _ is c.in_err-next-in-Sequence.ensures)

pub lower_cases-label_after-next-requires : goal.lower_cases-label_after-next-requires
lower_cases-label_after-next-requires t c =
    let n = ap (λ z. length (labels_of (statement_of z))) c.in-Label.is in
    slice_get_within c.args.code.now.stages.labels c.args.label None (c.requires.labels.open_ c.args.label (omega arith) (omega (arith, n)))

pub lower_cases-bind-requires : goal.lower_cases-bind-requires
lower_cases-bind-requires t c =
    let n = ap (λ z. length (labels_of (statement_of z))) c.in-Label.is in
    c.requires.labels.open_ c.args.label (omega arith) (omega (arith, n))

pub lower_cases-returns-in_ok-bind-in-Label : goal.lower_cases-returns-in_ok-bind-in-Label
lower_cases-returns-in_ok-bind-in-Label t c =
    label_lowers (program_of c.args.program.now) c.args.around (statement_of c.args.body.now) c.in-Label.field-0 c.in-Label.field-1 c.args.label c.label_after-next.result c.args.code.now
    c.bind.new.self (ap statement_of c.in-Label.is) c.label_after-next.ensures c.in_ok-bind-in-Label.ensures

pub lower_cases-returns-in_err-bind-in-Label : goal.lower_cases-returns-in_err-bind-in-Label
lower_cases-returns-in_err-bind-in-Label t c =
    let p = err_from_is_err_and c.from_residual-in_err-bind-in-Label.result c.from_residual-in_err-bind-in-Label.ensures.1 in
    rw (p.1, p.2) (λ S w size suits deep now is. cc)

pub lower_cases-lower_statement-requires : goal.lower_cases-lower_statement-requires
lower_cases-lower_statement-requires t c = (
  (let now = c.decreases in omega (arith, now)),
  (c.requires.functions, (c.requires.taken, (c.requires.labels.targets, c.requires.labels.back))),
)

pub lower_cases-returns-in_ok-lower_statement-in_default : goal.lower_cases-returns-in_ok-lower_statement-in_default
lower_cases-returns-in_ok-lower_statement-in_default t c =
    let single : is_single (statement_of c.args.body.now) ≡ true = first_of (search rules, grind (arith, common_steps)) in
    single_lowers (program_of c.args.program.now) c.args.around (statement_of c.args.body.now) c.args.label c.args.code.now c.lower_statement.new.code single
    c.in_ok-lower_statement-in_default.ensures.labels c.in_ok-lower_statement-in_default.ensures.lowers

pub lower_cases-returns-in_err-lower_statement-in_default : goal.lower_cases-returns-in_err-lower_statement-in_default
lower_cases-returns-in_err-lower_statement-in_default t c =
    let p = err_from_is_err_and c.from_residual-in_err-lower_statement-in_default.result c.from_residual-in_err-lower_statement-in_default.ensures.1 in
    let single : is_single (statement_of c.args.body.now) ≡ true = first_of (search rules, grind (arith, common_steps)) in
    rw (p.1, p.2)
    (single_cases_for (program_of c.args.program.now) c.args.depth (statement_of c.args.body.now) c.args.code.now _ single c.in_err-lower_statement-in_default.ensures.full)

pub lower_call-returns-in_err-lower_statement-clause-through : goal.lower_call-returns-in_err-lower_statement-clause-through
lower_call-returns-in_err-lower_statement-clause-through t c =
    let p = err_from_is_err_and c.from_residual-in_err-lower_statement.result c.from_residual-in_err-lower_statement.ensures.1 in
    rw p.1 tt

-- ---- conditions

pub lower_condition-lower_condition-requires : goal.lower_condition-lower_condition-requires
lower_condition-lower_condition-requires t c =
    let a = statement_of c.deref-in-Both.result.now in
    let b = statement_of c.in-Both.second.value in
    let is : statement_of c.args.condition.now ≡ Statement.Both a b =
    ap statement_of c.in-Both.is ∙ ap (λ z. Statement.Both (statement_of z) (statement_of c.in-Both.second.value)) (sym c.deref-in-Both.ensures) in (
      (let size = ap nested_size is in let now = c.decreases in omega (arith, size, now)),
      (
        c.requires.functions,
        (
          (asked_both (statement_of c.args.condition.now) a b c.requires.asked (ap is_asked is)).0,
          (
            subst (λ (z : Lowering). IsBackTarget z.back z.stages) (sym c.in_ok-next-in-Both.ensures.after)
                (back_after c.args.code.now (with_label c.args.code.now) (labels_more c.args.code.now.stages (with_label c.args.code.now).stages refl) refl c.requires.back),
            ap (λ (z : Lowering). z.reached) c.in_ok-next-in-Both.ensures.after ∙ c.requires.reached,
          ),
        ),
      ),
    )

pub lower_condition-begin-requires : goal.lower_condition-begin-requires
lower_condition-begin-requires t c =
    c.in_ok-lower_condition-in-Both.ensures.advances.open_ c.in_ok-next-in-Both.next (λ m. m)
    (label_open c.in_ok-next-in-Both.next c.args.code.now c.new_label.new.self c.in_ok-next-in-Both.ensures.label c.in_ok-next-in-Both.ensures.after)

pub lower_condition-returns-in_ok-begin-in-Both : goal.lower_condition-returns-in_ok-begin-in-Both
lower_condition-returns-in_ok-begin-in-Both t c =
    let P = program_of c.args.program.now in
    let e = statement_of c.args.condition.now in
    let a = statement_of c.deref-in-Both.result.now in
    let b = statement_of c.deref-in-Both-2.result.now in
    let is : e ≡ Statement.Both a b =
    ap statement_of c.in-Both.is ∙ ap (λ z. Statement.Both (statement_of z) (statement_of c.in-Both.second.value)) (sym c.deref-in-Both.ensures)
    ∙ ap (λ z. Statement.Both (statement_of c.deref-in-Both.result.now) (statement_of z)) (sym c.deref-in-Both-2.ensures) in
    MatchResult-weaker c.lower_condition-in-Both.result c.lower_condition-in-Both.ensures
    (λ _ decides.
    both_decides P e a b c.args.note c.in_ok-next-in-Both.next c.args.if_true c.args.if_false c.args.code.now c.new_label.new.self c.lower_condition.new.code c.begin.new.self
    c.lower_condition-in-Both.new.code is c.in_ok-next-in-Both.ensures.label c.in_ok-next-in-Both.ensures.after c.in_ok-lower_condition-in-Both.ensures c.in_ok-begin-in-Both.ensures decides)
    (λ fault full.
    second_at P c.args.depth e a b c.args.note c.args.code.now c.new_label.new.self fault (λ Q. ap (inlined_weight Q) is) (λ Q g ok. subst (IsCondition Q g) is ok) (ap calls_of is)
    c.in_ok-next-in-Both.ensures.after c.in_ok-next-in-Both.next c.in_ok-next-in-Both.next c.args.if_false c.lower_condition.new.code c.begin.new.self
    c.in_ok-lower_condition-in-Both.ensures c.in_ok-begin-in-Both.ensures full)

pub lower_condition-returns-in_err-lower_condition-in-Both : goal.lower_condition-returns-in_err-lower_condition-in-Both
lower_condition-returns-in_err-lower_condition-in-Both t c =
    let p = err_from_is_err_and c.from_residual-in_err-lower_condition-in-Both.result c.from_residual-in_err-lower_condition-in-Both.ensures.1 in
    let e = statement_of c.args.condition.now in
    let a = statement_of c.deref-in-Both.result.now in
    let b = statement_of c.in-Both.second.value in
    let is : e ≡ Statement.Both a b =
    ap statement_of c.in-Both.is ∙ ap (λ z. Statement.Both (statement_of z) (statement_of c.in-Both.second.value)) (sym c.deref-in-Both.ensures) in
    rw (p.1, p.2)
    (first_at (program_of c.args.program.now) c.args.depth e a b c.args.note c.args.code.now c.new_label.new.self _ (λ Q. ap (inlined_weight Q) is) (λ Q g ok. subst (IsCondition Q g) is ok)
    (ap calls_of is) c.in_ok-next-in-Both.ensures.after c.in_err-lower_condition-in-Both.ensures)

pub lower_condition-lower_condition-requires-in-Either : goal.lower_condition-lower_condition-requires-in-Either
lower_condition-lower_condition-requires-in-Either t c =
    let a = statement_of c.deref-in-Either.result.now in
    let b = statement_of c.in-Either.second.value in
    let is : statement_of c.args.condition.now ≡ Statement.Either a b =
    ap statement_of c.in-Either.is ∙ ap (λ z. Statement.Either (statement_of z) (statement_of c.in-Either.second.value)) (sym c.deref-in-Either.ensures) in (
      (let size = ap nested_size is in let now = c.decreases in omega (arith, size, now)),
      (
        c.requires.functions,
        (
          (asked_both (statement_of c.args.condition.now) a b c.requires.asked (ap is_asked is)).0,
          (
            subst (λ (z : Lowering). IsBackTarget z.back z.stages) (sym c.in_ok-next-in-Either.ensures.after)
                (back_after c.args.code.now (with_label c.args.code.now) (labels_more c.args.code.now.stages (with_label c.args.code.now).stages refl) refl c.requires.back),
            ap (λ (z : Lowering). z.reached) c.in_ok-next-in-Either.ensures.after ∙ c.requires.reached,
          ),
        ),
      ),
    )

pub lower_condition-begin-requires-in-Either : goal.lower_condition-begin-requires-in-Either
lower_condition-begin-requires-in-Either t c =
    c.in_ok-lower_condition-in-Either.ensures.advances.open_ c.in_ok-next-in-Either.next (λ m. m)
    (label_open c.in_ok-next-in-Either.next c.args.code.now c.new_label-in-Either.new.self c.in_ok-next-in-Either.ensures.label c.in_ok-next-in-Either.ensures.after)

pub lower_condition-returns-in_ok-begin-in-Either : goal.lower_condition-returns-in_ok-begin-in-Either
lower_condition-returns-in_ok-begin-in-Either t c =
    let P = program_of c.args.program.now in
    let e = statement_of c.args.condition.now in
    let a = statement_of c.deref-in-Either.result.now in
    let b = statement_of c.deref-in-Either-2.result.now in
    let is : e ≡ Statement.Either a b =
    ap statement_of c.in-Either.is ∙ ap (λ z. Statement.Either (statement_of z) (statement_of c.in-Either.second.value)) (sym c.deref-in-Either.ensures)
    ∙ ap (λ z. Statement.Either (statement_of c.deref-in-Either.result.now) (statement_of z)) (sym c.deref-in-Either-2.ensures) in
    MatchResult-weaker c.lower_condition-in-Either-2.result c.lower_condition-in-Either-2.ensures
    (λ _ decides.
    either_decides P e a b c.args.note c.in_ok-next-in-Either.next c.args.if_true c.args.if_false c.args.code.now c.new_label-in-Either.new.self c.lower_condition-in-Either.new.code c.begin-in-Either.new.self
    c.lower_condition-in-Either-2.new.code is c.in_ok-next-in-Either.ensures.label c.in_ok-next-in-Either.ensures.after c.in_ok-lower_condition-in-Either.ensures c.in_ok-begin-in-Either.ensures decides)
    (λ fault full.
    second_at P c.args.depth e a b c.args.note c.args.code.now c.new_label-in-Either.new.self fault (λ Q. ap (inlined_weight Q) is) (λ Q g ok. subst (IsCondition Q g) is ok) (ap calls_of is)
    c.in_ok-next-in-Either.ensures.after c.in_ok-next-in-Either.next c.args.if_true c.in_ok-next-in-Either.next c.lower_condition-in-Either.new.code c.begin-in-Either.new.self
    c.in_ok-lower_condition-in-Either.ensures c.in_ok-begin-in-Either.ensures full)

pub lower_condition-returns-in_err-lower_condition-in-Either : goal.lower_condition-returns-in_err-lower_condition-in-Either
lower_condition-returns-in_err-lower_condition-in-Either t c =
    let p = err_from_is_err_and c.from_residual-in_err-lower_condition-in-Either.result c.from_residual-in_err-lower_condition-in-Either.ensures.1 in
    let e = statement_of c.args.condition.now in
    let a = statement_of c.deref-in-Either.result.now in
    let b = statement_of c.in-Either.second.value in
    let is : e ≡ Statement.Either a b =
    ap statement_of c.in-Either.is ∙ ap (λ z. Statement.Either (statement_of z) (statement_of c.in-Either.second.value)) (sym c.deref-in-Either.ensures) in
    rw (p.1, p.2)
    (first_at (program_of c.args.program.now) c.args.depth e a b c.args.note c.args.code.now c.new_label-in-Either.new.self _ (λ Q. ap (inlined_weight Q) is) (λ Q g ok. subst (IsCondition Q g) is ok)
    (ap calls_of is) c.in_ok-next-in-Either.ensures.after c.in_err-lower_condition-in-Either.ensures)

pub lower_condition-returns-in-Opposite : goal.lower_condition-returns-in-Opposite
lower_condition-returns-in-Opposite t c =
    let P = program_of c.args.program.now in
    let inner = statement_of c.deref-in-Opposite.result.now in
    let is = ap statement_of c.in-Opposite.is ∙ ap (λ z. Statement.Opposite (statement_of z)) (sym c.deref-in-Opposite.ensures) in
    MatchResult-weaker c.lower_condition-in-Opposite.result c.lower_condition-in-Opposite.ensures
    (λ _ decides.
    opposite_decides P (statement_of c.args.condition.now) inner c.args.note c.args.if_true c.args.if_false c.args.code.now c.lower_condition-in-Opposite.new.code is
    (subst (λ n. Decides P inner n c.args.if_false c.args.if_true c.args.code.now c.lower_condition-in-Opposite.new.code) c.opposite_note-note.ensures decides))
    (λ fault full.
    opposite_at P c.args.depth (statement_of c.args.condition.now) inner c.args.note c.args.code.now fault is
    (subst (λ n. IsFullAsked P c.args.depth inner n c.args.code.now fault) c.opposite_note-note.ensures full))

pub lower_condition-returns-in-Test : goal.lower_condition-returns-in-Test
lower_condition-returns-in-Test t c =
    let is = ap statement_of c.in-Test.is ∙ ap (λ z. Statement.Test c.in-Test.field-0 (expression_of z)) (sym c.deref.ensures) in
    MatchResult-weaker c.lower_test.result c.lower_test.ensures
    (λ _ tests.
    test_decides (program_of c.args.program.now) (statement_of c.args.condition.now) c.in-Test.field-0 (expression_of c.deref.result.now) c.args.note c.args.if_true c.args.if_false
    c.args.code.now c.lower_test.new.code is tests)
    (λ fault full. test_at (program_of c.args.program.now) c.args.depth (statement_of c.args.condition.now) c.args.note c.in-Test.field-0 (expression_of c.deref.result.now)
    c.args.code.now fault is full)

pub lower_condition-returns-in_ok-begin_stage-in-Sequence : goal.lower_condition-returns-in_ok-begin_stage-in-Sequence
lower_condition-returns-in_ok-begin_stage-in-Sequence t c =
    let P = program_of c.args.program.now in
    let d = statement_of c.args.condition.now in
    let cut = statement_of c.deref-in-Sequence.result.now in
    let rest = statement_of c.deref-in-Sequence-2.result.now in
    let is : d ≡ Statement.Sequence cut rest =
    ap statement_of c.in-Sequence.is ∙ ap (λ z. Statement.Sequence (statement_of z) (statement_of c.in-Sequence.rest.value)) (sym c.deref-in-Sequence.ensures)
    ∙ ap (λ z. Statement.Sequence (statement_of c.deref-in-Sequence.result.now) (statement_of z)) (sym c.deref-in-Sequence-2.ensures) in
    let parts = asked_cut d cut rest is c.requires.asked in
    let through = c.in_ok-lower_statement-in-Sequence.ensures.cut parts.0 c.requires.reached in
    MatchResult-weaker c.lower_condition-in-Sequence.result c.lower_condition-in-Sequence.ensures
    (λ _ decides.
    sequence_decides P d cut rest c.args.note c.args.if_true c.args.if_false c.args.code.now c.lower_statement.new.code c.begin_stage.new.self c.lower_condition-in-Sequence.new.code is parts.0
    c.requires.reached c.in_ok-lower_statement-in-Sequence.ensures.lowers c.in_ok-lower_statement-in-Sequence.ensures.labels through c.in_ok-begin_stage-in-Sequence.ensures decides)
    (λ fault full.
    rest_at P c.args.depth d cut rest c.args.note c.args.code.now fault is parts.0 c.lower_statement.new.code c.begin_stage.new.self c.requires.reached
    c.in_ok-lower_statement-in-Sequence.ensures.lowers through c.in_ok-begin_stage-in-Sequence.ensures full)

pub lower_condition-lower_condition-requires-in-Both : goal.lower_condition-lower_condition-requires-in-Both
lower_condition-lower_condition-requires-in-Both t c =
    let P = program_of c.args.program.now in
    let a = statement_of c.deref-in-Both.result.now in
    let b = statement_of c.deref-in-Both-2.result.now in
    let is : statement_of c.args.condition.now ≡ Statement.Both a b =
    ap statement_of c.in-Both.is ∙ ap (λ z. Statement.Both (statement_of z) (statement_of c.in-Both.second.value)) (sym c.deref-in-Both.ensures)
    ∙ ap (λ z. Statement.Both (statement_of c.deref-in-Both.result.now) (statement_of z)) (sym c.deref-in-Both-2.ensures) in (
      (let size = ap nested_size is in let now = c.decreases in omega (arith, size, now)),
      (
        c.requires.functions,
        (
          (asked_both (statement_of c.args.condition.now) a b c.requires.asked (ap is_asked is)).1,
          (
            second_target P a c.args.note c.in_ok-next-in-Both.next c.in_ok-next-in-Both.next c.args.if_false c.args.code.now c.new_label.new.self c.lower_condition.new.code c.begin.new.self
                c.in_ok-next-in-Both.ensures.label c.in_ok-next-in-Both.ensures.after c.in_ok-lower_condition-in-Both.ensures c.in_ok-begin-in-Both.ensures c.requires.back,
            begun_reached c.in_ok-next-in-Both.next c.lower_condition.new.code c.begin.new.self c.in_ok-begin-in-Both.ensures,
          ),
        ),
      ),
    )

pub lower_condition-lower_condition-requires-in-Either-2 : goal.lower_condition-lower_condition-requires-in-Either-2
lower_condition-lower_condition-requires-in-Either-2 t c =
    let P = program_of c.args.program.now in
    let a = statement_of c.deref-in-Either.result.now in
    let b = statement_of c.deref-in-Either-2.result.now in
    let is : statement_of c.args.condition.now ≡ Statement.Either a b =
    ap statement_of c.in-Either.is ∙ ap (λ z. Statement.Either (statement_of z) (statement_of c.in-Either.second.value)) (sym c.deref-in-Either.ensures)
    ∙ ap (λ z. Statement.Either (statement_of c.deref-in-Either.result.now) (statement_of z)) (sym c.deref-in-Either-2.ensures) in (
      (let size = ap nested_size is in let now = c.decreases in omega (arith, size, now)),
      (
        c.requires.functions,
        (
          (asked_both (statement_of c.args.condition.now) a b c.requires.asked (ap is_asked is)).1,
          (
            second_target P a c.args.note c.in_ok-next-in-Either.next c.args.if_true c.in_ok-next-in-Either.next c.args.code.now c.new_label-in-Either.new.self c.lower_condition-in-Either.new.code c.begin-in-Either.new.self
                c.in_ok-next-in-Either.ensures.label c.in_ok-next-in-Either.ensures.after c.in_ok-lower_condition-in-Either.ensures c.in_ok-begin-in-Either.ensures c.requires.back,
            begun_reached c.in_ok-next-in-Either.next c.lower_condition-in-Either.new.code c.begin-in-Either.new.self c.in_ok-begin-in-Either.ensures,
          ),
        ),
      ),
    )

pub lower_condition-lower_condition-requires-in-Opposite : goal.lower_condition-lower_condition-requires-in-Opposite
lower_condition-lower_condition-requires-in-Opposite t c =
    let is : statement_of c.args.condition.now ≡ Statement.Opposite (statement_of c.deref-in-Opposite.result.now) =
    ap statement_of c.in-Opposite.is ∙ ap (λ z. Statement.Opposite (statement_of z)) (sym c.deref-in-Opposite.ensures) in (
      (let size = ap nested_size is in let now = c.decreases in omega (arith, size, now)),
      (c.requires.functions, (sym (ap is_asked is) ∙ c.requires.asked, (c.requires.back, c.requires.reached))),
    )

pub lower_condition-lower_statement-requires : goal.lower_condition-lower_statement-requires
lower_condition-lower_statement-requires t c =
    let d = statement_of c.args.condition.now in
    let cut = statement_of c.deref-in-Sequence.result.now in
    let rest = statement_of c.in-Sequence.rest.value in
    let is : d ≡ Statement.Sequence cut rest =
    ap statement_of c.in-Sequence.is ∙ ap (λ z. Statement.Sequence (statement_of z) (statement_of c.in-Sequence.rest.value)) (sym c.deref-in-Sequence.ensures) in (
      (let size = ap nested_size is in let now = c.decreases in omega (arith, size, now)),
      (c.requires.functions, (cut_taken false false cut (asked_cut d cut rest is c.requires.asked).0, (tt, c.requires.back))),
    )

pub lower_condition-lower_condition-requires-in-Sequence : goal.lower_condition-lower_condition-requires-in-Sequence
lower_condition-lower_condition-requires-in-Sequence t c =
    let d = statement_of c.args.condition.now in
    let cut = statement_of c.deref-in-Sequence.result.now in
    let rest = statement_of c.deref-in-Sequence-2.result.now in
    let is : d ≡ Statement.Sequence cut rest =
    ap statement_of c.in-Sequence.is ∙ ap (λ z. Statement.Sequence (statement_of z) (statement_of c.in-Sequence.rest.value)) (sym c.deref-in-Sequence.ensures)
    ∙ ap (λ z. Statement.Sequence (statement_of c.deref-in-Sequence.result.now) (statement_of z)) (sym c.deref-in-Sequence-2.ensures) in
    let parts = asked_cut d cut rest is c.requires.asked in
    let lowered = c.in_ok-lower_statement-in-Sequence.ensures in (
      (let size = ap nested_size is in let now = c.decreases in omega (arith, size, now)),
      (
        c.requires.functions,
        (
          parts.1,
          (
            rest_target None c.args.code.now c.lower_statement.new.code c.begin_stage.new.self lowered.labels c.in_ok-begin_stage-in-Sequence.ensures c.requires.back,
            stage_reached c.lower_statement.new.code c.begin_stage.new.self (lowered.cut parts.0 c.requires.reached).reached c.in_ok-begin_stage-in-Sequence.ensures,
          ),
        ),
      ),
    )

-- ---- the parts of an if and of loops

pub open_choice-lower_condition-requires : goal.open_choice-lower_condition-requires
open_choice-lower_condition-requires t c =
    let relabels = c.in_ok-labels.ensures.relabels in (
      (let now = c.decreases in omega (arith, now)),
      (c.requires.functions, (c.requires.asked, (relabelled_target c.args.code.now c.choice_labels.new.code relabels c.requires.back, relabels.reached ∙ c.requires.reached))),
    )

pub open_choice-bind-requires : goal.open_choice-bind-requires
open_choice-bind-requires t c =
    choice_open (program_of c.args.program.now) (statement_of c.args.condition.now) c.in_ok-labels.labels c.args.code.now c.choice_labels.new.code c.lower_condition.new.code
    c.in_ok-labels.ensures.labels c.in_ok-lower_condition.ensures

pub open_choice-returns : goal.open_choice-returns
open_choice-returns t c =
    opens_choice (program_of c.args.program.now) (statement_of c.args.condition.now) c.in_ok-labels.labels c.args.code.now c.choice_labels.new.code c.lower_condition.new.code c.bind.new.self
    c.in_ok-labels.ensures.relabels c.in_ok-labels.ensures.labels c.in_ok-lower_condition.ensures c.in_ok-bind.ensures

pub open_choice-returns-in_err-lower_condition : goal.open_choice-returns-in_err-lower_condition
open_choice-returns-in_err-lower_condition t c =
    let p = err_from_is_err_and c.from_residual-in_err-lower_condition.result c.from_residual-in_err-lower_condition.ensures.1 in
    rw (p.1, p.2)
    (shifted_at (program_of c.args.program.now) c.args.depth (statement_of c.args.condition.now) None c.args.code.now c.choice_labels.new.code _ c.in_ok-labels.ensures.relabels.shifts
    c.in_err-lower_condition.ensures)

pub open_turn-lower_condition-requires : goal.open_turn-lower_condition-requires
open_turn-lower_condition-requires t c =
    let opens = c.in_ok-labels.ensures in (
      (let now = c.decreases in omega (arith, now)),
      (
        c.requires.functions,
        (
          c.requires.asked,
          (
            do_back_target c.in_ok-labels.labels c.args.code.now c.open_loop.new.code opens c.requires.back,
            begun_reached c.in_ok-labels.labels.head opens.labelled c.open_loop.new.code opens.begins,
          ),
        ),
      ),
    )

pub open_turn-bind-requires : goal.open_turn-bind-requires
open_turn-bind-requires t c =
    body_open (program_of c.args.program.now) (statement_of c.args.condition.now) c.in_ok-labels.labels c.args.code.now c.open_loop.new.code c.lower_condition.new.code
    c.in_ok-labels.ensures c.in_ok-lower_condition.ensures

pub open_turn-returns : goal.open_turn-returns
open_turn-returns t c =
    opens_turn (program_of c.args.program.now) (statement_of c.args.condition.now) c.in_ok-labels.labels c.args.code.now c.open_loop.new.code c.lower_condition.new.code c.bind.new.self
    c.in_ok-labels.ensures c.in_ok-lower_condition.ensures c.in_ok-bind.ensures

pub open_turn-returns-in_err-lower_condition : goal.open_turn-returns-in_err-lower_condition
open_turn-returns-in_err-lower_condition t c =
    let p = err_from_is_err_and c.from_residual-in_err-lower_condition.result c.from_residual-in_err-lower_condition.ensures.1 in
    rw (p.1, p.2)
    (turn_at (program_of c.args.program.now) c.args.depth (statement_of c.args.condition.now) None c.in_ok-labels.labels c.args.code.now c.open_loop.new.code _ c.in_ok-labels.ensures
    c.in_err-lower_condition.ensures)

pub ask_reached-lower_condition-requires : goal.ask_reached-lower_condition-requires
ask_reached-lower_condition-requires t c = (
  (let now = c.decreases in omega (arith, now)),
  (c.requires.functions, (c.requires.asked, (c.requires.back, sym c.is_reached.ensures ∙ c.if-not-is_reached.false))),
)

pub ask_reached-returns-then-not-is_reached : goal.ask_reached-returns-then-not-is_reached
ask_reached-returns-then-not-is_reached t c =
    asks_not (program_of c.args.program.now) (statement_of c.args.condition.now) c.args.labels c.args.code.now (sym c.is_reached.ensures ∙ c.if-not-is_reached.true)

pub ask_reached-returns : goal.ask_reached-returns
ask_reached-returns t c =
    MatchResult-weaker c.lower_condition.result c.lower_condition.ensures
    (λ _ decides.
    asks_there (program_of c.args.program.now) (statement_of c.args.condition.now) c.args.labels c.args.code.now c.lower_condition.new.code (sym c.is_reached.ensures ∙ c.if-not-is_reached.false) decides)
    (λ fault full. full)

pub close_do-ask_reached-requires : goal.close_do-ask_reached-requires
close_do-ask_reached-requires t c = (
  (let now = c.decreases in omega (arith, now)),
  (
    c.requires.functions,
    (c.requires.asked, bound_back_target c.args.labels.turning c.args.code.now c.bind.new.self c.in_ok-bind.ensures c.requires.before c.requires.back),
  ),
)

pub close_do-bind-requires-2 : goal.close_do-bind-requires-2
close_do-bind-requires-2 t c =
    leaving_open (program_of c.args.program.now) (statement_of c.args.condition.now) c.args.labels c.args.code.now c.bind.new.self c.ask_reached.new.code c.requires.apart c.requires.leaving
    c.in_ok-bind.ensures c.in_ok-ask_reached.ensures

pub close_do-returns : goal.close_do-returns
close_do-returns t c =
    closes_do (program_of c.args.program.now) (statement_of c.args.condition.now) c.args.labels c.args.code.now c.bind.new.self c.ask_reached.new.code c.bind-2.new.self
    c.in_ok-bind.ensures c.in_ok-ask_reached.ensures c.in_ok-bind-2.ensures

pub close_do-returns-in_err-ask_reached : goal.close_do-returns-in_err-ask_reached
close_do-returns-in_err-ask_reached t c =
    let p = err_from_is_err_and c.from_residual-in_err-ask_reached.result c.from_residual-in_err-ask_reached.ensures.1 in
    rw (p.1, p.2)
    (bound_at (program_of c.args.program.now) c.args.depth (statement_of c.args.condition.now) None c.args.labels.turning c.args.code.now c.bind.new.self _ c.in_ok-bind.ensures
    c.in_err-ask_reached.ensures)

-- ---- && and || as a value

pub lower_truth-lower_condition-requires : goal.lower_truth-lower_condition-requires
lower_truth-lower_condition-requires t c = (
  (let now = c.decreases in omega (arith, now)),
  (
    c.requires.functions,
    (
      c.requires.asked,
      (
        labelled_target c.args.code.now c.new_label.new.self c.in_ok-next.ensures.after c.requires.back,
        ap (λ (z : Lowering). z.reached) c.in_ok-next.ensures.after ∙ c.requires.reached,
      ),
    ),
  ),
)

pub lower_truth-returns : goal.lower_truth-returns
lower_truth-returns t c =
    let P = program_of c.args.program.now in
    let d = statement_of c.args.condition.now in
    let old = c.args.code.now in
    record {
      labels = λ around.
          truth_proceeds P around c.args.slot d c.in_ok-next.next old c.new_label.new.self c.lower_condition.new.code c.begin.new.self c.in_ok-next.ensures.label c.in_ok-next.ensures.after
          c.requires.reached c.in_ok-lower_condition.ensures c.in_ok-begin.ensures;
      through =
          truth_through P None c.args.slot d c.in_ok-next.next old c.new_label.new.self c.lower_condition.new.code c.begin.new.self c.in_ok-next.ensures.label c.in_ok-next.ensures.after
          c.requires.reached c.in_ok-lower_condition.ensures c.in_ok-begin.ensures;
      lowers = λ around.
          truth_leads P around c.args.slot d c.in_ok-next.next old c.new_label.new.self c.lower_condition.new.code c.begin.new.self c.in_ok-next.ensures.label c.in_ok-next.ensures.after
          c.requires.reached c.in_ok-lower_condition.ensures c.in_ok-begin.ensures;
      full = tt;
    }

pub lower_truth-returns-in_err-next : goal.lower_truth-returns-in_err-next
lower_truth-returns-in_err-next t c =
    let p = err_from_is_err_and c.from_residual.result c.from_residual.ensures.1 in
    record {
      labels = rw p.1 tt;
      through = rw p.1 tt;
      lowers = rw p.1 tt;
      full =
          rw (p.1, p.2)
          (λ S w size suits deep now is. cc);
    }

pub lower_truth-returns-in_err-begin : goal.lower_truth-returns-in_err-begin
lower_truth-returns-in_err-begin t c =
    let p = err_from_is_err_and c.from_residual-in_err-begin.result c.from_residual-in_err-begin.ensures.1 in
    record {
      labels = rw p.1 tt;
      through = rw p.1 tt;
      lowers = rw p.1 tt;
      full =
          rw (p.1, p.2)
          (λ S w size suits deep now is. cc);
    }

pub lower_truth-returns-in_err-lower_condition : goal.lower_truth-returns-in_err-lower_condition
lower_truth-returns-in_err-lower_condition t c =
    let p = err_from_is_err_and c.from_residual-in_err-lower_condition.result c.from_residual-in_err-lower_condition.ensures.1 in
    record {
      labels = rw p.1 tt;
      through = rw p.1 tt;
      lowers = rw p.1 tt;
      full =
          rw (p.1, p.2)
          (truth_full (program_of c.args.program.now) c.args.depth c.args.slot (statement_of c.args.condition.now) c.args.code.now c.new_label.new.self _ c.in_ok-next.ensures.after
          c.in_err-lower_condition.ensures);
    }

pub lower_condition-returns-in_err-next-in-Both : goal.lower_condition-returns-in_err-next-in-Both
lower_condition-returns-in_err-next-in-Both t c =
    let p = err_from_is_err_and c.from_residual.result c.from_residual.ensures.1 in
    rw (p.1, p.2) (λ S w size slot suits deep now is. cc)

pub lower_condition-returns-in_err-begin-in-Both : goal.lower_condition-returns-in_err-begin-in-Both
lower_condition-returns-in_err-begin-in-Both t c =
    let p = err_from_is_err_and c.from_residual-in_err-begin-in-Both.result c.from_residual-in_err-begin-in-Both.ensures.1 in
    rw (p.1, p.2) (λ S w size slot suits deep now is. cc)

pub lower_condition-returns-in_err-next-in-Either : goal.lower_condition-returns-in_err-next-in-Either
lower_condition-returns-in_err-next-in-Either t c =
    let p = err_from_is_err_and c.from_residual-in_err-next-in-Either.result c.from_residual-in_err-next-in-Either.ensures.1 in
    rw (p.1, p.2) (λ S w size slot suits deep now is. cc)

pub lower_condition-returns-in_err-begin-in-Either : goal.lower_condition-returns-in_err-begin-in-Either
lower_condition-returns-in_err-begin-in-Either t c =
    let p = err_from_is_err_and c.from_residual-in_err-begin-in-Either.result c.from_residual-in_err-begin-in-Either.ensures.1 in
    rw (p.1, p.2) (λ S w size slot suits deep now is. cc)

pub lower_condition-returns-in_err-begin_stage-in-Sequence : goal.lower_condition-returns-in_err-begin_stage-in-Sequence
lower_condition-returns-in_err-begin_stage-in-Sequence t c =
    let p = err_from_is_err_and c.from_residual-in_err-begin_stage-in-Sequence.result c.from_residual-in_err-begin_stage-in-Sequence.ensures.1 in
    rw (p.1, p.2) (λ S w size slot suits deep now is. cc)

pub open_choice-returns-in_err-labels : goal.open_choice-returns-in_err-labels
open_choice-returns-in_err-labels t c =
    let p = err_from_is_err_and c.from_residual.result c.from_residual.ensures.1 in
    rw (p.1, p.2) (λ S w size slot suits deep now is. cc)

pub open_choice-returns-in_err-bind : goal.open_choice-returns-in_err-bind
open_choice-returns-in_err-bind t c =
    let p = err_from_is_err_and c.from_residual-in_err-bind.result c.from_residual-in_err-bind.ensures.1 in
    rw (p.1, p.2) (λ S w size slot suits deep now is. cc)

pub open_turn-returns-in_err-labels : goal.open_turn-returns-in_err-labels
open_turn-returns-in_err-labels t c =
    let p = err_from_is_err_and c.from_residual.result c.from_residual.ensures.1 in
    rw (p.1, p.2) (λ S w size slot suits deep now is. cc)

pub open_turn-returns-in_err-bind : goal.open_turn-returns-in_err-bind
open_turn-returns-in_err-bind t c =
    let p = err_from_is_err_and c.from_residual-in_err-bind.result c.from_residual-in_err-bind.ensures.1 in
    rw (p.1, p.2) (λ S w size slot suits deep now is. cc)

pub close_do-returns-in_err-bind : goal.close_do-returns-in_err-bind
close_do-returns-in_err-bind t c =
    let p = err_from_is_err_and c.from_residual.result c.from_residual.ensures.1 in
    rw (p.1, p.2) (λ S w size slot suits deep now is. cc)

pub close_do-returns-in_err-bind-2 : goal.close_do-returns-in_err-bind-2
close_do-returns-in_err-bind-2 t c =
    let p = err_from_is_err_and c.from_residual-in_err-bind-2.result c.from_residual-in_err-bind-2.ensures.1 in
    rw (p.1, p.2) (λ S w size slot suits deep now is. cc)

pub lower_condition-returns-in_err-lower_statement-in-Sequence : goal.lower_condition-returns-in_err-lower_statement-in-Sequence
lower_condition-returns-in_err-lower_statement-in-Sequence t c =
    let p = err_from_is_err_and c.from_residual-in_err-lower_statement-in-Sequence.result c.from_residual-in_err-lower_statement-in-Sequence.ensures.1 in
    let d = statement_of c.args.condition.now in
    let cut = statement_of c.deref-in-Sequence.result.now in
    let rest = statement_of c.in-Sequence.rest.value in
    let is : d ≡ Statement.Sequence cut rest =
    ap statement_of c.in-Sequence.is ∙ ap (λ z. Statement.Sequence (statement_of z) (statement_of c.in-Sequence.rest.value)) (sym c.deref-in-Sequence.ensures) in
    rw (p.1, p.2)
    (cut_at (program_of c.args.program.now) c.args.depth d cut rest c.args.note c.args.code.now _ is (asked_cut d cut rest is c.requires.asked).0 c.in_err-lower_statement-in-Sequence.ensures.full)
