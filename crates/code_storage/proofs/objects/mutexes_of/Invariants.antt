use Rattle.c_program.specs.declared.tree.MutexObject.{MutexObject}
use Rattle.code_storage.proofs.ObjectCount.{AreCounted}
use Rattle.code_storage.proofs.objects.mutexes_of.Given as goal

abbrev pub invariant-loop-object : goal.invariant-loop-object
invariant-loop-object l = AreCounted 0 (λ (a : MutexObject). a.length) l.mutexes l.object-index l.numbers l.next
