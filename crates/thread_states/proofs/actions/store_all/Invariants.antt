use Rattle.std.proofs.Common.{◌≡◌, ◌++◌, map, take}
use Rattle.thread_slots.specs.Cells.{store_action}
use Rattle.thread_states.proofs.actions.store_all.Given as goal

abbrev pub invariant-loop-store : goal.invariant-loop-store
invariant-loop-store l = l.actions ≡ l.fn.actions ++ map (store_action l.condition) (take l.store-index l.stores)
