-- What a step acts on, and which threads tell which what they have heard.
use Rattle.std.specs.Prelude.{ℕ, Bool, true, false, List, [], ◌∷◌, Option, Some, None, slice_get}
use Rattle.thread_semantics.specs.Work.{Act}
use Rattle.thread_semantics.specs.State.{State}
use Rattle.thread_semantics.specs.Move.{Move, Acts}
use Rattle.thread_semantics.specs.Step.{object_operand}
use Rattle.c_evaluation.specs.View.{act_of}
use Rattle.c_step_parts.specs.declared.plan.Plan.{Plan}
use Rattle.c_step_parts.specs.declared.plan.Plan.TheVariants as plan
use Rattle.run_races.specs.Order.{let_go}
use Rattle.run_check.specs.Clocks.{One, Among}
use Rattle.run_check.specs.declared.class.Class.{Class}
use Rattle.run_check.specs.declared.class.Class.TheVariants as class

abbrev pub class_of_act : Act → ℕ → Class
class_of_act (Act.Print format) n = class.Prints
class_of_act (Act.Create routine) n = class.Creates n
class_of_act Act.Join n = class.Joins n
class_of_act Act.MutexInit n = class.UsesMutex n
class_of_act Act.MutexDestroy n = class.UsesMutex n
class_of_act Act.MutexLock n = class.UsesMutex n
class_of_act Act.MutexUnlock n = class.UsesMutex n
class_of_act Act.BarrierInit n = class.SetsBarrier n
class_of_act Act.BarrierDestroy n = class.SetsBarrier n
class_of_act Act.BarrierWait n = class.Waits n

abbrev pub class_of : Move → Class
class_of (Acts offset act operands frames) = class_of_act act (object_operand operands)
class_of m = class.Plain

-- what a step by this plan of the code acts on, where its object has that number
abbrev pub plan_class : Plan → ℕ → Class
plan_class (plan.Perform offset act work) n = class_of_act (act_of act) n
plan_class p n = class.Plain

abbrev pub is_print : Class → Bool
is_print class.Prints = true
is_print c = false

-- the mutex, the barrier or the thread id on which a step acts
abbrev pub mutex_of : Class → Option ℕ
mutex_of (class.UsesMutex n) = Some n
mutex_of c = None

abbrev pub barrier_of : Class → Option ℕ
barrier_of (class.SetsBarrier n) = Some n
barrier_of (class.Waits n) = Some n
barrier_of c = None

abbrev pub id_of : Class → Option ℕ
id_of (class.Creates n) = Some n
id_of (class.Joins n) = Some n
id_of c = None

-- the threads that a barrier lets go by such a step of thread i
abbrev pub released_by : State → ℕ → Class → List ℕ
released_by s i (class.Waits n) = let_go i (slice_get s.barriers n)
released_by s i c = []

abbrev pub opened : ℕ → List ℕ → Option ℕ
opened n [] = None
opened n (i ∷ released) = Some n

-- the barrier that such a step sets up, takes away or opens
abbrev pub barrier_set : Class → List ℕ → Option ℕ
barrier_set (class.SetsBarrier n) released = Some n
barrier_set (class.Waits n) released = opened n released
barrier_set c released = None

-- by such a step of thread i thread v tells thread j all that it has heard
abbrev pub Tells : Class → List ℕ → ℕ → ℕ → ℕ → Type 0
Tells (class.Creates n) released i v j = One i n v j
Tells (class.Joins n) released i v j = One n i v j
Tells (class.Waits n) released i v j = Among released v j
Tells c released i v j = ⊥
