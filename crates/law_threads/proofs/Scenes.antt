-- Slots that begin, wait at a barrier and return, of a code of three stages.
use Rattle.std.specs.Prelude.{true, false, pos, negsuc, Some, None}
use Rattle.std.proofs.Common.{◌≡◌, refl}
use Rattle.hls_ints.specs.Residues.{signed_value_of}
use Rattle.hls_ints.specs.Types.{long_int}
use Rattle.block_ir.specs.declared.code.Act.TheVariants as act
use Rattle.block_ir.specs.declared.code.ActOperand.TheVariants.{Variable}
use Rattle.planned_block.specs.Slot.{Slot}
use Rattle.thread_promise.specs.Promise.{went_on}
use Rattle.thread_promise.specs.Moves.{stage_after, set_out, first_slot}

-- main begins at its first stage, and another thread rests
main_begins : (first_slot true 0 3).stage ≡ 0
main_begins = refl

another_rests : (first_slot false 1 3).stage ≡ 3
another_rests = refl

-- a lock leads to the next stage, a wait of stage 0 to its meeting, and a return to rest
after_a_lock : stage_after 3 0 (act.MutexLock (Variable 0 long_int)) 1 ≡ 1
after_a_lock = refl

after_a_wait : stage_after 3 0 (act.BarrierWait (Variable 0 long_int)) 1 ≡ 4
after_a_wait = refl

after_a_return : stage_after 3 2 act.Return 0 ≡ 3
after_a_return = refl

-- a thread sets out with its argument as a number of 64 bits; its other variables and its arrays stay, and main has no argument
sets_out : (q : Slot) → (set_out (Some 1) 7 q).variables 1 ≡ pos 7
unfolding signed_value_of
sets_out q = refl

sets_out_below_zero : (q : Slot) → (set_out (Some 1) 18446744073709551615 q).variables 1 ≡ negsuc 0
unfolding signed_value_of
sets_out_below_zero q = refl

others_stay : (q : Slot) → (set_out (Some 1) 7 q).variables 0 ≡ q.variables 0
others_stay q = refl

arrays_stay : (q : Slot) → (set_out (Some 1) 7 q).arrays ≡ q.arrays
arrays_stay q = refl

no_argument : (q : Slot) → (set_out None 7 q).variables 1 ≡ q.variables 1
no_argument q = refl

-- a second life of a thread begins with its own argument and with what the first left in its arrays
second_life : (q : Slot) → (set_out (Some 0) 50 (went_on 3 (set_out (Some 0) 40 q))).variables 0 ≡ pos 50
unfolding signed_value_of
second_life q = refl

old_arrays : (q : Slot) → (set_out (Some 0) 50 (went_on 3 (set_out (Some 0) 40 q))).arrays ≡ q.arrays
old_arrays q = refl
