use Rattle.std.proofs.Common.{◌+◌, ◌*◌, length, ap, arith}
use Rattle.std.proofs.lemmas.Result.{err_from_is_err_and}
use Rattle.c_program.specs.Plain.{object_place_of, thread_call_of}
use Rattle.c_program.specs.Weight.{expressions_weight, object_place_weight, thread_call_weight}
use Rattle.code_blocks.proofs.Room.{full_more}
use Rattle.code_calls.specs.Acts.{values_of}
use Rattle.code_calls.proofs.ReadyOperands.{call_prepares, call_works, call_act}
use Rattle.code_calls.proofs.Typed.{weight_is, number_count}
use Rattle.code_calls.proofs.acts.lower_call.Goals as goal

pub returns : goal.returns
returns c = record {
  act =
      call_act c.args.homes.now c.args.objects.now c.args.first c.in_ok-next.next c.first_of_call-number.result (thread_call_of c.args.call.now) (object_place_of c.place_of.result.now)
      c.args.block.now c.lower_object.new.block c.lower_value.new.block c.first_of_call-number.ensures c.place_of.ensures c.in_ok-next.ensures.value c.in_ok-object.ensures.puts
      c.in_ok-lower_value.ensures.puts _ c.in_ok-object.object c.act_on.ensures c.in_ok-object.ensures.operand;
  prepares =
      call_prepares c.args.homes.now c.args.objects.now c.args.first c.in_ok-next.next c.first_of_call-number.result (thread_call_of c.args.call.now) (object_place_of c.place_of.result.now)
      c.args.block.now c.lower_object.new.block c.lower_value.new.block c.first_of_call-number.ensures c.place_of.ensures c.in_ok-next.ensures.value c.in_ok-object.ensures.puts
      c.in_ok-lower_value.ensures.puts;
  typed =
      call_works c.args.homes.now c.args.objects.now c.args.first c.in_ok-next.next c.first_of_call-number.result (thread_call_of c.args.call.now) (object_place_of c.place_of.result.now)
      c.args.block.now c.lower_object.new.block c.lower_value.new.block c.first_of_call-number.ensures c.place_of.ensures c.in_ok-next.ensures.value c.in_ok-object.ensures.puts
      c.in_ok-lower_value.ensures.puts;
  full = tt;
}

pub returns-in_err-object : goal.returns-in_err-object
returns-in_err-object c =
    let p = err_from_is_err_and c.from_residual.result c.from_residual.ensures.1 in
    let weighs = weight_is (thread_call_of c.args.call.now) in
    let place = ap object_place_weight c.place_of.ensures in
    record {
      act = rw p.1 tt;
      prepares = rw p.1 tt;
      typed = rw p.1 tt;
      full =
          rw (p.1, p.2)
          (full_more _ (length c.args.block.now.operations + 3 * object_place_weight (object_place_of c.place_of.result.now))
          (length c.args.block.now.operations + c.args.first + 4 * (thread_call_weight (thread_call_of c.args.call.now) + 1)) (omega (arith, weighs, place)) c.in_err-object.ensures.full);
    }

pub returns-in_err-next : goal.returns-in_err-next
returns-in_err-next c =
    let p = err_from_is_err_and c.from_residual-in_err-next.result c.from_residual-in_err-next.ensures.1 in
    record {
      act = rw p.1 tt;
      prepares = rw p.1 tt;
      typed = rw p.1 tt;
      full =
          rw (p.1, p.2)
          (full_more _ (c.args.first + 1) (length c.args.block.now.operations + c.args.first + 4 * (thread_call_weight (thread_call_of c.args.call.now) + 1)) (omega arith)
          c.in_err-next.ensures.full);
    }

pub returns-in_err-lower_value : goal.returns-in_err-lower_value
returns-in_err-lower_value c =
    let p = err_from_is_err_and c.from_residual-in_err-lower_value.result c.from_residual-in_err-lower_value.ensures.1 in
    let weighs = weight_is (thread_call_of c.args.call.now) in
    let place = ap object_place_weight c.place_of.ensures in
    let count = number_count c.args.homes.now c.args.first c.first_of_call-number.result (object_place_of c.place_of.result.now) c.args.block.now c.lower_object.new.block c.in_ok-object.ensures.puts in
    record {
      act = rw p.1 tt;
      prepares = rw p.1 tt;
      typed = rw p.1 tt;
      full =
          rw (p.1, p.2)
          (full_more _ (length c.lower_object.new.block.operations + (3 * expressions_weight (values_of (thread_call_of c.args.call.now)) + 1))
          (length c.args.block.now.operations + c.args.first + 4 * (thread_call_weight (thread_call_of c.args.call.now) + 1)) (omega (arith, weighs, place, count)) c.in_err-lower_value.ensures.full);
    }
