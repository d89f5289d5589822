use Rattle.leaf_machine.proofs.SettledLeaf.{same_early, settled_obeys, settled_agrees}
use Rattle.leaf_machine.proofs.Leaves as leaves
use Rattle.leaf_machine.proofs.Example as example
use Rattle.leaf_machine.proofs.Parts.{parts_there}
use Rattle.leaf_machine.proofs.law.leaves_are_threads.Goals as goal

pub returns-clause-early_is_decided : goal.returns-clause-early_is_decided
returns-clause-early_is_decided c m inputs late leaf r q a b agree given x w has quiet = same_early m inputs late leaf r q a b agree given x has.signal has.listed quiet

pub returns-clause-state_settles : goal.returns-clause-state_settles
returns-clause-state_settles c m inputs late leaf given s slot = (settled_obeys m given s inputs late leaf slot, settled_agrees m given s)

pub returns-clause-leaf_is_thread : goal.returns-clause-leaf_is_thread
returns-clause-leaf_is_thread c = leaves.leaf_is_thread

pub returns-clause-example_is_leaf : goal.returns-clause-example_is_leaf
returns-clause-example_is_leaf c = example.example_is_leaf

pub returns-clause-leaf_keeps_slots : goal.returns-clause-leaf_keeps_slots
returns-clause-leaf_keeps_slots c = leaves.leaf_keeps_slots

pub returns-clause-leaf_is_done : goal.returns-clause-leaf_is_done
returns-clause-leaf_is_done c m inputs ports cores parts told is bit = leaves.slot_bit_is m inputs ports cores parts told is ports.done bit

pub returns-clause-parts_stand : goal.returns-clause-parts_stand
returns-clause-parts_stand c = parts_there
