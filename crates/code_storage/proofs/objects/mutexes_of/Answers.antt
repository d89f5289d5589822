use Rattle.c_program.specs.declared.tree.MutexObject.{MutexObject}
use Rattle.code_storage.proofs.ObjectCount.{one_counted}
use Rattle.code_storage.proofs.objects.mutexes_of.Goals as goal

pub loop-object-preserved : goal.loop-object-preserved
loop-object-preserved c =
    one_counted 0 (λ (a : MutexObject). a.length) c.args.mutexes.now c.loop-object.object-index _ c.loop-object.numbers
    c.push_object.new.numbers c.loop-object.next _ c.loop-object.invariant c.loop-object-test.true
    c.in_ok-next.ensures.numbers c.in_ok-next.ensures.sum c.in_ok-next.ensures.few
