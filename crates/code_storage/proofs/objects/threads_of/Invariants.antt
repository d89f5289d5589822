use Rattle.c_program.specs.declared.tree.ThreadObject.{ThreadObject}
use Rattle.code_storage.proofs.ObjectCount.{AreCounted}
use Rattle.code_storage.proofs.objects.threads_of.Given as goal

abbrev pub invariant-loop-object : goal.invariant-loop-object
invariant-loop-object l = AreCounted 1 (λ (a : ThreadObject). a.length) l.threads l.object-index l.numbers l.next
