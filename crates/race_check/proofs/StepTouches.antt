-- What a step touches, by its plan.
use Rattle.std.proofs.Common.{◌≡◌, ℕ, zero, suc, ◌||◌, Bool, true, false, List, [], ◌∷◌, ◌++◌, map, refl, ap, sym, ◌∙◌, append-nil, Option}
use Rattle.std.specs.Prelude.{slice_get, slice_set, if◌then◌else◌}
use Rattle.std.specs.List.{list_all}
use Rattle.c_program.specs.Tree.{Program}
use Rattle.thread_semantics.specs.declared.cause.UndefinedCause.TheVariants.{LiveThread}
use Rattle.thread_semantics.specs.State.{Frame, Finished, State}
use Rattle.thread_semantics.specs.Move.{Write, Move, Moves, Acts, Ends, Faults, Impossible, move}
use Rattle.thread_semantics.specs.Step.{Stepped, Steps, Blocks, Undefines, moved, finished, is_unused, created_slots}
use Rattle.thread_semantics.specs.Races.{Touch, read_of, write_of, touched, thread_touched, if_taken, footprint}
use Rattle.c_step_parts.specs.declared.plan.Plan.{Plan}
use Rattle.c_step_parts.specs.declared.plan.Plan.TheVariants as plan
use Rattle.c_step_parts.specs.Plan.{erased, plan_of}
use Rattle.c_step_parts.specs.Planned.{IsPlan}
use Rattle.c_step_parts.proofs.RunningStep.{step_runs}
use Rattle.race_check.specs.Reads.{MoveAdds}
use Rattle.race_check.specs.Planned.{plan_write, may_end, may_return, may_touch, has_callers}

nothing_if_taken : (o : Stepped) → if_taken o [] ≡ []
nothing_if_taken (Steps s) = refl
nothing_if_taken (Blocks cause) = refl
nothing_if_taken (Undefines offset cause) = refl

-- what a move of thread i touches
abbrev touched_by : Program → State → ℕ → Move → List Touch
touched_by P s i m = if_taken (moved P s i m) (touched m)

footprint_is : (P : Program) (s : State) (i : ℕ) (p : Plan) (is : IsPlan P s i p) → footprint P s i ≡ touched_by P s i (move P s.globals (is.call ∷ is.callers))
footprint_is P s i p is =
    ap (λ o. if_taken o (thread_touched P s (slice_get s.slots i))) (step_runs P s i (is.call ∷ is.callers) is.running is.calm)
    ∙ ap (λ slot. if_taken (moved P s i (move P s.globals (is.call ∷ is.callers))) (thread_touched P s slot)) is.running

tested_true : (b : Bool) (t : State) (offset : ℕ) (touches : List Touch) → b ≡ true → if_taken (if b then Steps t else Undefines offset LiveThread) touches ≡ touches
tested_true true t offset touches h = refl
tested_true false t offset touches h = cc

tested_false : (b : Bool) (t : State) (offset : ℕ) (touches : List Touch) → b ≡ false → if_taken (if b then Steps t else Undefines offset LiveThread) touches ≡ []
tested_false true t offset touches h = cc
tested_false false t offset touches h = refl

ended_true : (s : State) (i offset : ℕ) (touches : List Touch) → may_end s i ≡ true → if_taken (finished s i offset) touches ≡ touches
ended_true s zero offset touches h =
    tested_true (list_all is_unused (created_slots s.slots)) (record s { slots = slice_set s.slots 0 Finished; ended = true }) offset touches h
ended_true s (suc i) offset touches h = refl

ended_false : (s : State) (i offset : ℕ) (touches : List Touch) → may_end s i ≡ false → if_taken (finished s i offset) touches ≡ []
ended_false s zero offset touches h =
    tested_false (list_all is_unused (created_slots s.slots)) (record s { slots = slice_set s.slots 0 Finished; ended = true }) offset touches h
ended_false s (suc i) offset touches h = absurd (let never : ⊥ = cc in never)

write_is : (P : Program) (p : Plan) (f : Frame) (fs frames : List Frame) (write : Option Write) → plan_of P p f fs ≡ Moves frames [] write → plan_write p ≡ write
write_is P (plan.Onward work kept change) f fs frames write e = cc
write_is P (plan.Enter work callee) f fs frames write e = cc
write_is P (plan.Return offset value) f [] frames write e = cc
write_is P (plan.Return offset value) f (g ∷ gs) frames write e = cc
write_is P (plan.Perform offset act work) f fs frames write e = cc
write_is P (plan.Fault offset cause) f fs frames write e = cc
write_is P plan.Impossible f fs frames write e = cc

taken : (P : Program) (s : State) (i : ℕ) (m : Move) (p : Plan) (f : Frame) (fs : List Frame) (reads : List Touch) → plan_of P p f fs ≡ erased m → may_touch s i p fs ≡ true →
    MoveAdds m [] reads → touched_by P s i m ≡ reads ++ write_of (plan_write p)
taken P s i (Moves frames places write) p f fs reads e may adds =
    ap (λ (xs : List Touch). xs ++ write_of write) (sym adds) ∙ ap (λ w. reads ++ write_of w) (sym (write_is P p f fs frames write e))
taken P s i (Acts offset act operands frames) (plan.Onward work kept change) f fs reads e may adds = cc
taken P s i (Acts offset act operands frames) (plan.Enter work callee) f fs reads e may adds = cc
taken P s i (Acts offset act operands frames) (plan.Return at value) f [] reads e may adds = cc
taken P s i (Acts offset act operands frames) (plan.Return at value) f (g ∷ gs) reads e may adds = cc
taken P s i (Acts offset act operands frames) (plan.Perform at own work) f fs reads e may adds = cc
taken P s i (Acts offset act operands frames) (plan.Fault at cause) f fs reads e may adds = cc
taken P s i (Acts offset act operands frames) plan.Impossible f fs reads e may adds = cc
taken P s i (Ends offset places) (plan.Onward work kept change) f fs reads e may adds = cc
taken P s i (Ends offset places) (plan.Enter work callee) f fs reads e may adds = cc
taken P s i (Ends offset places) (plan.Return at value) f [] reads e may adds =
    ended_true s i offset (map read_of places) may ∙ sym adds ∙ sym (append-nil reads)
taken P s i (Ends offset places) (plan.Return at value) f (g ∷ gs) reads e may adds = cc
taken P s i (Ends offset places) (plan.Perform at own work) f fs reads e may adds = cc
taken P s i (Ends offset places) (plan.Fault at cause) f fs reads e may adds = cc
taken P s i (Ends offset places) plan.Impossible f fs reads e may adds = cc
taken P s i (Faults offset cause) (plan.Onward work kept change) f fs reads e may adds = cc
taken P s i (Faults offset cause) (plan.Enter work callee) f fs reads e may adds = cc
taken P s i (Faults offset cause) (plan.Return at value) f [] reads e may adds = cc
taken P s i (Faults offset cause) (plan.Return at value) f (g ∷ gs) reads e may adds = cc
taken P s i (Faults offset cause) (plan.Perform at own work) f fs reads e may adds = cc
taken P s i (Faults offset cause) (plan.Fault at other) f fs reads e may adds = cc
taken P s i (Faults offset cause) plan.Impossible f fs reads e may adds = cc
taken P s i Impossible (plan.Onward work kept change) f fs reads e may adds = cc
taken P s i Impossible (plan.Enter work callee) f fs reads e may adds = cc
taken P s i Impossible (plan.Return at value) f [] reads e may adds = cc
taken P s i Impossible (plan.Return at value) f (g ∷ gs) reads e may adds = cc
taken P s i Impossible (plan.Perform at own work) f fs reads e may adds = cc
taken P s i Impossible (plan.Fault at other) f fs reads e may adds = cc
taken P s i Impossible plan.Impossible f fs reads e may adds = cc

idle : (P : Program) (s : State) (i : ℕ) (m : Move) (p : Plan) (f : Frame) (fs : List Frame) → plan_of P p f fs ≡ erased m → may_touch s i p fs ≡ false → touched_by P s i m ≡ []
idle P s i (Moves frames places write) (plan.Onward work kept change) f fs e may = cc
idle P s i (Moves frames places write) (plan.Enter work callee) f fs e may = cc
idle P s i (Moves frames places write) (plan.Return at value) f [] e may = cc
idle P s i (Moves frames places write) (plan.Return at value) f (g ∷ gs) e may = cc
idle P s i (Moves frames places write) (plan.Perform at own work) f fs e may = cc
idle P s i (Moves frames places write) (plan.Fault at cause) f fs e may = cc
idle P s i (Moves frames places write) plan.Impossible f fs e may = cc
idle P s i (Acts offset act operands frames) p f fs e may = nothing_if_taken (moved P s i (Acts offset act operands frames))
idle P s i (Ends offset places) (plan.Onward work kept change) f fs e may = cc
idle P s i (Ends offset places) (plan.Enter work callee) f fs e may = cc
idle P s i (Ends offset places) (plan.Return at value) f [] e may = ended_false s i offset (map read_of places) may
idle P s i (Ends offset places) (plan.Return at value) f (g ∷ gs) e may = cc
idle P s i (Ends offset places) (plan.Perform at own work) f fs e may = cc
idle P s i (Ends offset places) (plan.Fault at cause) f fs e may = cc
idle P s i (Ends offset places) plan.Impossible f fs e may = cc
idle P s i (Faults offset cause) p f fs e may = refl
idle P s i Impossible p f fs e may = refl

pub footprint_taken : (P : Program) (s : State) (i : ℕ) (p : Plan) (is : IsPlan P s i p) (reads all : List Touch) → may_touch s i p is.callers ≡ true →
    MoveAdds (move P s.globals (is.call ∷ is.callers)) [] reads → all ≡ reads ++ write_of (plan_write p) → all ≡ footprint P s i
footprint_taken P s i p is reads all may adds all_is =
    all_is
    ∙ sym (footprint_is P s i p is ∙ taken P s i (move P s.globals (is.call ∷ is.callers)) p is.call is.callers reads is.planned may adds)

pub footprint_idle : (P : Program) (s : State) (i : ℕ) (p : Plan) (is : IsPlan P s i p) → may_touch s i p is.callers ≡ false → [] ≡ footprint P s i
footprint_idle P s i p is may =
    sym (footprint_is P s i p is ∙ idle P s i (move P s.globals (is.call ∷ is.callers)) p is.call is.callers is.planned may)

-- which returns are steps
pub return_cases : (s : State) (i : ℕ) (fs : List Frame) → may_return s i fs ≡ (has_callers fs || may_end s i)
return_cases s i [] = refl
return_cases s i (g ∷ gs) = refl
