use Rattle.c_program.specs.declared.tree.BarrierObject.{BarrierObject}
use Rattle.code_storage.proofs.ObjectCount.{AreCounted}
use Rattle.code_storage.proofs.objects.barriers_of.Given as goal

abbrev pub invariant-loop-object : goal.invariant-loop-object
invariant-loop-object l = AreCounted 0 (λ (a : BarrierObject). a.length) l.barriers l.object-index l.numbers l.next
