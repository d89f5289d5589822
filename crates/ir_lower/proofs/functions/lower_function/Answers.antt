use Rattle.std.proofs.Common.{refl, sym, ap, ◌∙◌, subst, map, arith}
use Rattle.std.proofs.lemmas.Result.{err_from_is_err_and}
use Rattle.std.specs.Prelude.{slice_get, string_bytes}
use Rattle.c_program.specs.Plain.{function_of, program_of}
use Rattle.code_places.specs.Doing.{IsNew, IsFinished}
use Rattle.code_storage.specs.Values.{all_values}
use Rattle.ir_lower.proofs.Ample.{body_full, counted_function, function_ample, variables_few, no_function}
use Rattle.ir_lower.proofs.OpenProgram.{taken_body, start_back, ended_fit, ended_first}
use Rattle.ir_lower.proofs.Untaken.{all_taken}
use Rattle.ir_lower.proofs.Whole.{code_is}
use Rattle.ir_lower.proofs.functions.lower_function.Goals as goal

pub returns : goal.returns
returns c = record {
  code =
      code_is c.args.program.now c.args.function c.in_ok-code-2.code
      (record {
        function = c.in-Some.found.now;
        at = ap (λ l. slice_get l c.args.function) (sym c.deref.ensures.value) ∙ sym c.in-Some.ensures;
        housing = c.in_ok-housing.housing.rooms;
        housed = c.in_ok-housing.ensures.housing;
        names = map string_bytes c.in_ok-housing.housing.names;
        named = c.in_ok-housing.ensures.names;
        first = c.in_ok-code.code;
        is_new =
            subst (λ n. IsNew (program_of c.args.program.now) c.in_ok-housing.housing.rooms c.args.function n c.in_ok-code.code) (c.all_values-words.ensures ∙ ap
            (λ l. all_values (map function_of l)) c.as_slice.ensures.value)
            (c.in_ok-code.ensures.code (program_of c.args.program.now) c.in_ok-objects.ensures.objects);
        start = c.in_ok-start.start;
        begun = c.start.new.self;
        starts = c.in_ok-start.ensures;
        lowered = c.in_ok-lower_body.ensures.lowers.lowered;
        lowers = c.in_ok-lower_body.ensures.lowers.lowers;
        proceeds = c.in_ok-lower_body.ensures.lowers.labels;
        ended = c.lower_body.new.code;
        closes = c.in_ok-lower_body.ensures.lowers.closes;
        finished =
            subst (λ a. IsFinished c.in_ok-start.start a (map string_bytes c.in_ok-housing.housing.names) c.lower_body.new.code c.in_ok-code-2.code)
            c.argument_of-argument.ensures c.in_ok-code-2.ensures;
      })
      c.requires.resolved c.requires.runs;
  ample = tt;
}

pub returns-in_err-housing : goal.returns-in_err-housing
returns-in_err-housing c =
    let p = err_from_is_err_and c.from_residual-in_err-housing.result c.from_residual-in_err-housing.ensures.1 in
    record {
      code = rw p.1 tt;
      ample =
          rw (p.1, p.2) (λ within same. function_ample (program_of c.args.program.now) c.args.function _
          (
          counted_function (program_of c.args.program.now) c.args.function _ _ (omega arith) (c.in_err-housing.ensures.full c.requires.resolved))
          c.requires.runs within same);
    }

pub returns-in_err-code : goal.returns-in_err-code
returns-in_err-code c =
    let p = err_from_is_err_and c.from_residual-in_err-code.result c.from_residual-in_err-code.ensures.1 in
    record {
      code = rw p.1 tt;
      ample =
          rw (p.1, p.2) (λ within same. function_ample (program_of c.args.program.now) c.args.function _
          (
          counted_function (program_of c.args.program.now) c.args.function _ _
          (let few = variables_few (program_of c.args.program.now) c.args.function c.in_ok-housing.housing.rooms (c.in_ok-housing.ensures.housing c.requires.resolved) in omega (arith, few))
          c.in_err-code.ensures.full)
          c.requires.runs within same);
    }

pub lower_body-requires-clause-functions : goal.lower_body-requires-clause-functions
lower_body-requires-clause-functions c = (all_taken (program_of c.args.program.now) (program_of c.args.program.now).functions c.requires.resolved.functions)

pub lower_body-requires-clause-taken : goal.lower_body-requires-clause-taken
lower_body-requires-clause-taken c =
    taken_body c.args.program.now c.args.function c.in-Some.found.now (ap (λ l. slice_get l c.args.function) (sym c.deref.ensures.value) ∙ sym c.in-Some.ensures)
    (all_taken (program_of c.args.program.now) (program_of c.args.program.now).functions c.requires.resolved.functions)

pub lower_body-requires-clause-outermost : goal.lower_body-requires-clause-outermost
lower_body-requires-clause-outermost c =
    start_back (program_of c.args.program.now) c.in_ok-housing.housing.rooms c.args.function _ c.in_ok-code.code (c.in_ok-code.ensures.code
    (program_of c.args.program.now) c.in_ok-objects.ensures.objects) c.in_ok-start.start c.start.new.self c.in_ok-start.ensures

pub returns-in_err-lower_body : goal.returns-in_err-lower_body
returns-in_err-lower_body c =
    let p = err_from_is_err_and c.from_residual-in_err-lower_body.result c.from_residual-in_err-lower_body.ensures.1 in
    record {
      code = rw p.1 tt;
      ample =
          rw (p.1, p.2) (λ within same. function_ample (program_of c.args.program.now) c.args.function _
          (
          body_full c.args.program.now c.args.function c.in-Some.found.now (ap (λ l. slice_get l c.args.function) (sym c.deref.ensures.value) ∙ sym c.in-Some.ensures)
          c.in_ok-housing.housing.rooms c.in_ok-code.code c.start.new.self c.in_ok-start.start
          (subst (λ n. IsNew (program_of c.args.program.now) c.in_ok-housing.housing.rooms c.args.function n c.in_ok-code.code) (c.all_values-words.ensures ∙ ap
          (λ l. all_values (map function_of l)) c.as_slice.ensures.value)
          (c.in_ok-code.ensures.code (program_of c.args.program.now) c.in_ok-objects.ensures.objects))
          c.in_ok-start.ensures c.requires.resolved (c.in_ok-housing.ensures.housing c.requires.resolved) _ _ refl c.in_err-lower_body.ensures.full)
          c.requires.runs within same);
    }

pub finish-requires-clause-fit : goal.finish-requires-clause-fit
finish-requires-clause-fit c =
    ended_fit (program_of c.args.program.now) c.in_ok-housing.housing.rooms c.args.function _ c.in_ok-code.code (c.in_ok-code.ensures.code
    (program_of c.args.program.now) c.in_ok-objects.ensures.objects)
    c.in_ok-start.start c.start.new.self c.in_ok-start.ensures c.in_ok-lower_body.ensures.lowers.lowered c.lower_body.new.code
    c.in_ok-lower_body.ensures.lowers.labels c.in_ok-lower_body.ensures.lowers.closes

pub finish-requires-clause-first : goal.finish-requires-clause-first
finish-requires-clause-first c =
    ended_first (program_of c.args.program.now) c.in_ok-housing.housing.rooms c.args.function _ c.in_ok-code.code (c.in_ok-code.ensures.code
    (program_of c.args.program.now) c.in_ok-objects.ensures.objects)
    c.in_ok-start.start c.start.new.self c.in_ok-start.ensures c.in_ok-lower_body.ensures.lowers.lowered c.lower_body.new.code
    c.in_ok-lower_body.ensures.lowers.labels c.in_ok-lower_body.ensures.lowers.closes

pub returns-in_err-objects : goal.returns-in_err-objects
returns-in_err-objects c =
    let p = err_from_is_err_and c.from_residual.result c.from_residual.ensures.1 in
    record {
      code = rw p.1 tt;
      ample =
          rw (p.1, p.2) (λ within same. function_ample (program_of c.args.program.now) c.args.function _
          (
          counted_function (program_of c.args.program.now) c.args.function _ _ (omega arith) c.in_err-objects.ensures.full)
          c.requires.runs within same);
    }

pub unreachable-requires : goal.unreachable-requires
unreachable-requires c =
    no_function c.args.program.now c.args.function c.requires.resolved c.requires.runs (ap (λ l. slice_get l c.args.function) (sym c.deref.ensures.value) ∙ sym c.in_default.ensures)

pub returns-in_err-start : goal.returns-in_err-start
returns-in_err-start c =
    let p = err_from_is_err_and c.from_residual-in_err-start.result c.from_residual-in_err-start.ensures.1 in
    record { code = rw p.1 tt; ample = rw (p.1, p.2) (λ within same. cc) }

pub returns-in_err-code-2 : goal.returns-in_err-code-2
returns-in_err-code-2 c =
    let p = err_from_is_err_and c.from_residual-in_err-code-2.result c.from_residual-in_err-code-2.ensures.1 in
    record { code = rw p.1 tt; ample = rw (p.1, p.2) (λ within same. cc) }
