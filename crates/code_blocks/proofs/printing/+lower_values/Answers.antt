use Rattle.std.proofs.Common.{refl}
use Rattle.std.proofs.lemmas.Result.{err_from_is_err_and}
use Rattle.c_program.specs.Plain.{expressions_of}
use Rattle.code_blocks.proofs.Puts.{types_none, arguments_none, values_more}
use Rattle.code_blocks.proofs.TypedAssignments.{values_done, values_works}
use Rattle.code_blocks.proofs.printing.+lower_values.Goals as goal

pub returns-in_default : goal.returns-in_default
returns-in_default t c = record {
  puts = types_none c.args.homes.now c.args.first c.args.types.now (expressions_of c.args.arguments.now) c.args.block.now c.in_default.len_below;
  typed = values_done c.args.homes.now c.args.first (expressions_of c.args.arguments.now) c.args.block.now;
  full = tt;
}

pub returns-in_default-arguments : goal.returns-in_default-arguments
returns-in_default-arguments t c = record {
  puts = arguments_none c.args.homes.now c.args.first c.args.types.now c.args.arguments.now c.args.block.now c.in_default-arguments.len_below;
  typed = values_done c.args.homes.now c.args.first (expressions_of c.args.arguments.now) c.args.block.now;
  full = tt;
}

pub returns : goal.returns
returns t c = record {
  puts =
      values_more c.args.homes.now c.args.first c.in_ok-next.next c.args.types.now _ c.args.arguments.now _ c.ty-item.result c.argument-item.result
      c.args.block.now c.lower_value.new.block c.lower_values.new.block c.in-len1-up.len_at_least c.in-len1-up-arguments.len_at_least c.ty-item.is c.argument-item.is refl refl
      c.in_ok-next.ensures.value c.in_ok-lower_value.ensures.puts c.in_ok-lower_values.ensures.puts;
  typed =
      values_works c.args.homes.now c.args.first c.in_ok-next.next c.args.arguments.now _ c.argument-item.result c.args.block.now c.lower_value.new.block c.lower_values.new.block
      c.in-len1-up-arguments.len_at_least c.argument-item.is refl c.in_ok-next.ensures.value c.in_ok-lower_value.ensures.typed c.in_ok-lower_values.ensures.typed;
  full = tt;
}

pub returns-in_err-lower_value-clause-puts : goal.returns-in_err-lower_value-clause-puts
returns-in_err-lower_value-clause-puts t c =
    let p = err_from_is_err_and c.from_residual.result c.from_residual.ensures.1 in
    rw p.1 tt

pub returns-in_err-lower_value-clause-typed : goal.returns-in_err-lower_value-clause-typed
returns-in_err-lower_value-clause-typed t c =
    let p = err_from_is_err_and c.from_residual.result c.from_residual.ensures.1 in
    rw p.1 tt

pub returns-in_err-next-clause-puts : goal.returns-in_err-next-clause-puts
returns-in_err-next-clause-puts t c =
    let p = err_from_is_err_and c.from_residual-in_err-next.result c.from_residual-in_err-next.ensures.1 in
    rw p.1 tt

pub returns-in_err-next-clause-typed : goal.returns-in_err-next-clause-typed
returns-in_err-next-clause-typed t c =
    let p = err_from_is_err_and c.from_residual-in_err-next.result c.from_residual-in_err-next.ensures.1 in
    rw p.1 tt

pub returns-in_err-lower_values-clause-puts : goal.returns-in_err-lower_values-clause-puts
returns-in_err-lower_values-clause-puts t c =
    let p = err_from_is_err_and c.from_residual-in_err-lower_values.result c.from_residual-in_err-lower_values.ensures.1 in
    rw p.1 tt

pub returns-in_err-lower_values-clause-typed : goal.returns-in_err-lower_values-clause-typed
returns-in_err-lower_values-clause-typed t c =
    let p = err_from_is_err_and c.from_residual-in_err-lower_values.result c.from_residual-in_err-lower_values.ensures.1 in
    rw p.1 tt
