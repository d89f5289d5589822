use Rattle.std.proofs.Common.{sym, ap, ◌∙◌, length}
use Rattle.std.proofs.lemmas.List.{length-map}
use Rattle.c_program.specs.Plain.{program_of, function_of}
use Rattle.c_limits.specs.declared.limit.Limit.TheVariants.{Functions}
use Rattle.c_limits.specs.Counts.{over}
use Rattle.c_limits.proofs.Firsts.{objects_first}
use Rattle.c_limits.proofs.counts.over_objects.Goals as goal

pub returns : goal.returns
returns c =
    let functions = c.over-functions.ensures ∙ ap (over Functions) (ap length c.as_slice.ensures.value ∙ sym (length-map c.args.program.now.functions.items function_of)) in
    let threads = rw (c.thread_ids.ensures, c.deref.ensures.value) at c.over-threads.ensures in
    let mutexes = rw (c.mutex_elements.ensures, c.deref-2.ensures.value) at c.over-mutexes.ensures in
    let barriers = rw (c.barrier_elements.ensures, c.deref-3.ensures.value) at c.over-barriers.ensures in
    objects_first (program_of c.args.program.now) _ _ _ _ _ _ _ functions threads mutexes barriers c.first_of.ensures c.first_of-2.ensures c.first_of-3.ensures
