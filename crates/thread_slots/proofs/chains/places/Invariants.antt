use Rattle.std.proofs.Common.{◌≡◌, map, take}
use Rattle.block_datapath.specs.declared.registers.Held.{Held}
use Rattle.thread_slots.proofs.chains.places.Given as goal

abbrev pub invariant-loop-held : goal.invariant-loop-held
invariant-loop-held l = l.places ≡ map (λ (h : Held). h.register) (take l.held-index l.registers)
