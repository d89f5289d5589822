use Rattle.std.proofs.Common.{◌≡◌, ◌+◌, ◌*◌, length, refl, sym, ap, ◌∙◌, subst, arith}
use Rattle.std.proofs.lemmas.List.{length-map}
use Rattle.std.proofs.lemmas.Result.{on_ok_weaker, IfErr-weaker, err_from_is_err_and}
use Rattle.std.specs.Prelude.{is_some, IfSome}
use Rattle.c_program.specs.Plain.{expression_of, expressions_of, pieces_of, place_of, returned_of, statement_of, thread_call_of}
use Rattle.c_program.specs.Tree.{Expression, Statement}
use Rattle.c_program.specs.Weight.{expression_weight, place_weight, returned_weight, thread_call_weight}
use Rattle.thread_semantics.specs.Move.{assignment, slot_place}
use Rattle.code_blocks.specs.declared.open_block.OpenBlock.{OpenBlock}
use Rattle.code_blocks.specs.Assigning.{Assigns}
use Rattle.code_blocks.specs.Typing.{WorksOnKept}
use Rattle.code_places.specs.Labels.{IsTarget}
use Rattle.code_places.specs.Doing.{AreTargets}
use Rattle.code_places.proofs.OpenParts.{proceeds_refl, proceeds_same, break_proceeds, continue_proceeds}
use Rattle.code_control.specs.Deciding.{is_cut}
use Rattle.code_control.proofs.Cuts.{through_refl, through_stage}
use Rattle.ir_lower.specs.Taken.{has_turning}
use Rattle.ir_lower.proofs.KeptOperands.{kept_lowers, kept_proceeds, kept_for}
use Rattle.ir_lower.proofs.StatementSize.{simple_for, print_for}
use Rattle.ir_lower.proofs.StatementSteps.{done_at, empty_at, label_at, lowers_is, declare_at, assign_at, update_at, break_at, continue_at, on_ok_both}
use Rattle.ir_lower.proofs.simple.lower_simple.Goals as goal

pub returns-in-Done : goal.returns-in-Done
returns-in-Done c = record {
  labels = proceeds_refl c.args.around c.args.code.now;
  cut = λ is. through_refl c.args.code.now c.requires.reached;
  lowers = λ P. done_at P c.args.around (statement_of c.args.statement.now) c.args.code.now (ap statement_of c.in-Done.is);
  full = tt;
}

pub returns-in-Empty : goal.returns-in-Empty
returns-in-Empty c = record {
  labels = proceeds_refl c.args.around c.args.code.now;
  cut = λ cut. absurd (let no = ap (λ z. is_cut (statement_of z)) c.in-Empty.is in cc);
  lowers = λ P. empty_at P c.args.around (statement_of c.args.statement.now) c.args.code.now (ap statement_of c.in-Empty.is);
  full = tt;
}

pub returns-in-Label : goal.returns-in-Label
returns-in-Label c =
    let is = ap statement_of c.in-Label.is in
    record {
      labels = proceeds_refl c.args.around c.args.code.now;
      cut = λ cut. absurd (let no = ap is_cut is in cc);
      lowers = λ P. label_at P c.args.around (statement_of c.args.statement.now) c.in-Label.field-0 c.in-Label.field-1 c.args.code.now is;
      full = tt;
    }

pub returns-in-Declare : goal.returns-in-Declare
returns-in-Declare c =
    let old = c.args.code.now in
    let around = c.args.around in
    let whole = statement_of c.args.statement.now in
    let new = record old { block = c.step.new.self } in
    let s = Statement.Declare c.in-Declare.field-0 c.in-Declare.field-1 c.in-Declare.field-2 in
    let is : whole ≡ s = ap statement_of c.in-Declare.is in
    record {
      labels =
          on_ok_weaker c.step.result
          (λ after. proceeds_same old new refl refl refl (let s = ap (λ (z : OpenBlock). z.steps) after in omega (arith, s)) around) c.step.ensures.after;
      cut = on_ok_weaker c.step.result (λ _ cut. absurd (let no = ap is_cut is in cc)) c.step.ensures.after;
      lowers =
          on_ok_weaker c.step.result
          (λ after P.
          lowers_is P around s whole old new is (declare_at P old new c.step.new.self after refl c.in-Declare.field-0 c.in-Declare.field-1 c.in-Declare.field-2 around))
          c.step.ensures.after;
      full =
          IfErr-weaker c.step.result _ _
          (λ fault full P depth.
          simple_for P depth s whole old fault is
          (old.block.steps + 1)
          (1) (omega arith) (λ Q. omega arith) full)
          c.step.ensures.full;
    }

pub returns-in-Assign : goal.returns-in-Assign
returns-in-Assign c =
    let old = c.args.code.now in
    let around = c.args.around in
    let whole = statement_of c.args.statement.now in
    let new = record old { block = c.lower_assignment.new.block } in
    let place = place_of c.deref.result.now in
    let e = expression_of c.deref-in-Assign.result.now in
    let x = c.in-Assign in
    let s = Statement.Assign x.field-0 place e in
    let is : whole ≡ s =
    ap statement_of x.is ∙ ap (λ z. Statement.Assign x.field-0 (place_of z) (expression_of x.right.value)) (sym c.deref.ensures)
    ∙ ap (λ z. Statement.Assign x.field-0 place (expression_of z)) (sym c.deref-in-Assign.ensures) in
    record {
      labels =
          on_ok_weaker c.lower_assignment.result (λ assigns. proceeds_same old new refl refl refl (let s = assigns.steps in omega (arith, s)) around)
          c.lower_assignment.ensures.assigns;
      cut = on_ok_weaker c.lower_assignment.result (λ _ cut. absurd (let no = ap is_cut is in cc)) c.lower_assignment.ensures.assigns;
      lowers =
          on_ok_both c.lower_assignment.result
          (λ assigns typed P.
          lowers_is P around s whole old new is (assign_at P place e c.as_slice-homes.result.now old new c.as_slice-homes.ensures assigns typed refl x.field-0 around))
          c.lower_assignment.ensures.assigns c.lower_assignment.ensures.typed;
      full =
          IfErr-weaker c.lower_assignment.result _ _
          (λ fault full P depth.
          simple_for P depth s whole old fault is
          (length old.block.operations + old.block.steps + 4 * (place_weight place + expression_weight e + 1))
          (place_weight place + expression_weight e + 1) (omega arith) (λ Q. omega arith) full)
          c.lower_assignment.ensures.full;
    }

pub returns-in-Update : goal.returns-in-Update
returns-in-Update c =
    let old = c.args.code.now in
    let around = c.args.around in
    let whole = statement_of c.args.statement.now in
    let new = record old { block = c.lower_update.new.block } in
    let place = place_of c.deref-in-Update.result.now in
    let e = expression_of c.deref-in-Update-2.result.now in
    let x = c.in-Update in
    let s = Statement.Update x.field-0 place x.operator x.ty e in
    let is : whole ≡ s =
    ap statement_of x.is ∙ ap (λ z. Statement.Update x.field-0 (place_of z) x.operator x.ty (expression_of x.right.value)) (sym c.deref-in-Update.ensures)
    ∙ ap (λ z. Statement.Update x.field-0 place x.operator x.ty (expression_of z)) (sym c.deref-in-Update-2.ensures) in
    record {
      labels =
          on_ok_weaker c.lower_update.result (λ assigns. proceeds_same old new refl refl refl (let s = assigns.steps in omega (arith, s)) around)
          c.lower_update.ensures.assigns;
      cut = on_ok_weaker c.lower_update.result (λ _ cut. absurd (let no = ap is_cut is in cc)) c.lower_update.ensures.assigns;
      lowers =
          on_ok_both c.lower_update.result
          (λ assigns typed P.
          lowers_is P around s whole old new is
          (update_at P place x.operator x.ty e c.as_slice-homes-in-Update.result.now old new c.as_slice-homes-in-Update.ensures assigns typed refl x.field-0 around))
          c.lower_update.ensures.assigns c.lower_update.ensures.typed;
      full =
          IfErr-weaker c.lower_update.result _ _
          (λ fault full P depth.
          simple_for P depth s whole old fault is
          (length old.block.operations + old.block.steps + 4 * (place_weight place + expression_weight e + 2))
          (place_weight place + expression_weight e + 2) (omega arith) (λ Q. omega arith) full)
          c.lower_update.ensures.full;
    }

pub returns-in_ok-begin_stage-in-Keep : goal.returns-in_ok-begin_stage-in-Keep
returns-in_ok-begin_stage-in-Keep c =
    let old = c.args.code.now in
    let mid = c.begin_stage.new.self in
    let around = c.args.around in
    let whole = statement_of c.args.statement.now in
    let new = record mid { block = c.lower_kept.new.block } in
    let x = c.in-Keep in
    let e = expression_of c.deref-in-Keep.result.now in
    let s = Statement.Keep x.field-0 x.slot x.ty e in
    let is : whole ≡ s = ap statement_of x.is ∙ ap (λ z. Statement.Keep x.field-0 x.slot x.ty (expression_of z)) (sym c.deref-in-Keep.ensures) in
    record {
      labels = on_ok_weaker c.lower_kept.result (λ keeps. kept_proceeds around old mid new c.requires.reached c.in_ok-begin_stage-in-Keep.ensures refl keeps.steps) c.lower_kept.ensures.keeps;
      cut =
          on_ok_weaker c.lower_kept.result (λ _ cut. through_stage old mid new c.requires.reached c.in_ok-begin_stage-in-Keep.ensures refl refl) c.lower_kept.ensures.keeps;
      lowers =
          on_ok_both c.lower_kept.result
          (λ keeps typed P.
          lowers_is P around s whole old new is
          (kept_lowers P x.field-0 x.slot x.ty e old mid new
          (subst (λ hs. Assigns hs (λ m. assignment (slot_place x.slot) (Expression.Cast x.ty e) m) mid.block new.block) c.as_slice-homes-in-Keep.ensures keeps)
          (subst (λ hs. WorksOnKept hs x.slot e mid.block new.block) c.as_slice-homes-in-Keep.ensures typed) refl c.in_ok-begin_stage-in-Keep.ensures around))
          c.lower_kept.ensures.keeps c.lower_kept.ensures.typed;
      full =
          IfErr-weaker c.lower_kept.result _ _
          (λ fault full P depth. kept_for P depth x.field-0 x.slot x.ty e whole old mid fault is c.in_ok-begin_stage-in-Keep.ensures full)
          c.lower_kept.ensures.full;
    }

pub returns-in_err-begin_stage-in-Keep : goal.returns-in_err-begin_stage-in-Keep
returns-in_err-begin_stage-in-Keep c =
    let p = err_from_is_err_and c.from_residual.result c.from_residual.ensures.1 in
    record { labels = rw p.1 tt; cut = rw p.1 tt; lowers = rw p.1 tt; full = rw (p.1, p.2) (λ P depth S w size suits deep now is. cc) }

pub jump-requires : goal.jump-requires
jump-requires c = (subst (λ a. AreTargets a c.args.code.now.stages) c.in-Some.is c.requires.targets).0

pub returns-in_ok-jump-in-Break : goal.returns-in_ok-jump-in-Break
returns-in_ok-jump-in-Break c = record {
  labels = break_proceeds c.args.around c.in-Some.labels c.args.code.now c.jump.new.self c.in-Some.is c.requires.reached c.in_ok-jump-in-Break.ensures;
  cut = λ cut. absurd (let no = ap (λ z. is_cut (statement_of z)) c.in-Break.is in cc);
  lowers = λ P.
      lowers_is P c.args.around Statement.Break (statement_of c.args.statement.now) c.args.code.now c.jump.new.self (ap statement_of c.in-Break.is)
      (break_at P c.args.around c.in-Some.labels c.args.code.now c.jump.new.self c.in-Some.is c.in_ok-jump-in-Break.ensures);
  full = tt;
}

pub returns-in_err-jump-in-Break : goal.returns-in_err-jump-in-Break
returns-in_err-jump-in-Break c =
    let p = err_from_is_err_and c.from_residual-in_err-jump-in-Break.result c.from_residual-in_err-jump-in-Break.ensures.1 in
    record { labels = rw p.1 tt; cut = rw p.1 tt; lowers = rw p.1 tt; full = rw (p.1, p.2) (λ P depth S w size suits deep now is. cc) }

pub jump-requires-in-Continue : goal.jump-requires-in-Continue
jump-requires-in-Continue c =
    subst (λ o. IfSome o (λ turning. IsTarget turning c.args.code.now.stages)) c.in-Some-turning.is (subst (λ a. AreTargets a c.args.code.now.stages) c.in-Some-around.is c.requires.targets).1

pub returns-in_ok-jump-in-Continue : goal.returns-in_ok-jump-in-Continue
returns-in_ok-jump-in-Continue c = record {
  labels = continue_proceeds c.args.around c.in-Some-around.labels c.in-Some-turning.turning c.args.code.now c.jump-in-Continue.new.self c.in-Some-around.is c.in-Some-turning.is c.requires.reached c.in_ok-jump-in-Continue.ensures;
  cut = λ cut. absurd (let no = ap (λ z. is_cut (statement_of z)) c.in-Continue.is in cc);
  lowers = λ P.
      lowers_is P c.args.around Statement.Continue (statement_of c.args.statement.now) c.args.code.now c.jump-in-Continue.new.self (ap statement_of c.in-Continue.is)
      (continue_at P c.args.around c.in-Some-around.labels c.in-Some-turning.turning c.args.code.now c.jump-in-Continue.new.self c.in-Some-around.is c.in-Some-turning.is c.in_ok-jump-in-Continue.ensures);
  full = tt;
}

pub returns-in_err-jump-in-Continue : goal.returns-in_err-jump-in-Continue
returns-in_err-jump-in-Continue c =
    let p = err_from_is_err_and c.from_residual-in_err-jump-in-Continue.result c.from_residual-in_err-jump-in-Continue.ensures.1 in
    record { labels = rw p.1 tt; cut = rw p.1 tt; lowers = rw p.1 tt; full = rw (p.1, p.2) (λ P depth S w size suits deep now is. cc) }

pub returns-in-Return : goal.returns-in-Return
returns-in-Return c =
    let old = c.args.code.now in
    let around = c.args.around in
    let whole = statement_of c.args.statement.now in
    let right = returned_of c.in-Return.right in
    let s = Statement.Return c.in-Return.field-0 right in
    let is : whole ≡ s = ap statement_of c.in-Return.is in
    record {
      labels = on_ok_weaker c.lower_returned.result (λ proceeds. proceeds around) c.lower_returned.ensures.labels;
      cut = on_ok_weaker c.lower_returned.result (λ _ cut. absurd (let no = ap is_cut is in cc)) c.lower_returned.ensures.labels;
      lowers = on_ok_weaker c.lower_returned.result (λ lowers P. lowers_is P around s whole old c.lower_returned.new.code is (lowers c.in-Return.field-0 P around)) c.lower_returned.ensures.lowers;
      full =
          IfErr-weaker c.lower_returned.result _ _
          (λ fault full P depth.
          simple_for P depth s whole old fault is
          (length old.block.operations + old.block.steps + 4 * returned_weight right + 1)
          (returned_weight right + 1) (omega arith) (λ Q. omega arith) full)
          c.lower_returned.ensures.full;
    }

pub returns-in-Print : goal.returns-in-Print
returns-in-Print c =
    let old = c.args.code.now in
    let around = c.args.around in
    let whole = statement_of c.args.statement.now in
    let x = c.in-Print in
    let format = pieces_of c.deref-in-Print.result.now in
    let es = expressions_of c.deref-in-Print-2.result.now in
    let s = Statement.Print x.field-0 format es in
    let is : whole ≡ s =
    ap statement_of x.is ∙ ap (λ f. Statement.Print x.field-0 (pieces_of f) (expressions_of x.arguments.items)) (sym c.deref-in-Print.ensures.value)
    ∙ ap (λ a. Statement.Print x.field-0 format (expressions_of a)) (sym c.deref-in-Print-2.ensures.value) in
    record {
      labels = on_ok_weaker c.lower_print.result (λ proceeds. proceeds around) c.lower_print.ensures.labels;
      cut = on_ok_weaker c.lower_print.result (λ _ cut. absurd (let no = ap is_cut is in cc)) c.lower_print.ensures.labels;
      lowers = on_ok_weaker c.lower_print.result (λ lowers P. lowers_is P around s whole old c.lower_print.new.code is (lowers x.field-0 P around)) c.lower_print.ensures.lowers;
      full =
          IfErr-weaker c.lower_print.result _ _
          (λ fault full P depth.
          print_for P depth x.field-0 (is_some around) (has_turning around) format es (length c.deref-in-Print-2.result.now) whole old fault
          (sym (length-map c.deref-in-Print-2.result.now expression_of)) is c.requires.taken full)
          c.lower_print.ensures.full;
    }

pub returns-in-Thread : goal.returns-in-Thread
returns-in-Thread c =
    let old = c.args.code.now in
    let around = c.args.around in
    let whole = statement_of c.args.statement.now in
    let call = thread_call_of c.deref-in-Thread.result.now in
    let s = Statement.Thread c.in-Thread.field-0 call in
    let is : whole ≡ s = ap statement_of c.in-Thread.is ∙ ap (λ z. Statement.Thread c.in-Thread.field-0 (thread_call_of z)) (sym c.deref-in-Thread.ensures) in
    record {
      labels = on_ok_weaker c.lower_thread_call.result (λ proceeds. proceeds around) c.lower_thread_call.ensures.labels;
      cut = on_ok_weaker c.lower_thread_call.result (λ _ cut. absurd (let no = ap is_cut is in cc)) c.lower_thread_call.ensures.labels;
      lowers =
          on_ok_weaker c.lower_thread_call.result
          (λ lowers P. lowers_is P around s whole old c.lower_thread_call.new.code is (lowers c.in-Thread.field-0 P around))
          c.lower_thread_call.ensures.lowers;
      full =
          IfErr-weaker c.lower_thread_call.result _ _
          (λ fault full P depth.
          simple_for P depth s whole old fault is
          (length old.block.operations + old.block.steps + length old.variables + 4 * (thread_call_weight call + 1))
          (thread_call_weight call + 1) (omega arith) (λ Q. omega arith) full)
          c.lower_thread_call.ensures.full;
    }
