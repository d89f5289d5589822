use Rattle.std.proofs.Common.{◌≡◌, ◌++◌, take}
use Rattle.top_parts.specs.Parts.{each_from}
use Rattle.top_wiring.specs.Top.{thread_instance}
use Rattle.top_wiring.proofs.places.Places.push_threads.Given as goal

abbrev pub invariant-loop-thread : goal.invariant-loop-thread
invariant-loop-thread l = l.instances ≡ l.initial.instances
    ++ each_from (thread_instance l.self.starts l.self.threads l.self.cores l.self.parts l.cores) 0 (take l.thread l.threads)
