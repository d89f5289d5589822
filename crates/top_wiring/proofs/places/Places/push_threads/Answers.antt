use Rattle.std.proofs.Common.{[], ◌∷◌, ◌++◌, ap, ◌∙◌, get_or}
use Rattle.std.proofs.lemmas.List.{get_or_default}
use Rattle.netlist.specs.declared.netlist.Instance.{Instance}
use Rattle.top_wiring.specs.Top.{thread_instance}
use Rattle.top_parts.proofs.GrownLists.{each_onto}
use Rattle.top_wiring.proofs.places.Places.push_threads.Goals as goal

pub loop-thread-preserved : goal.loop-thread-preserved
loop-thread-preserved c =
    let s = c.args.self.now in
    each_onto (thread_instance s.starts s.threads s.cores s.parts c.args.cores.now) c.args.instances.now c.loop-thread.instances c.push.new.self c.args.threads.now c.loop-thread.thread _
    c.loop-thread.invariant (c.in_ok-push.ensures.ok ∙ ap (λ (x : Instance). c.loop-thread.instances ++ x ∷ []) c.in_ok-instance.ensures)
    (get_or_default c.args.threads.now c.loop-thread.thread 0 (get_or c.args.threads.now c.loop-thread.thread 0) c.loop-thread-test.true) c.loop-thread-test.true
