-- In a resolved program a move leaves calls that are a resolved program's again, and writes an element that is declared;
-- and it is possible.
use Rattle.std.proofs.Common.{◌≡◌, ℕ, ◌<◌, List, [], ◌∷◌, refl, ap, sym, ◌∙◌, subst, arith}
use Rattle.std.specs.Prelude.{Bool, true, false, not, Option, Some, None, slice_get, ℤ, pos, negsuc, nat_lt, if◌then◌else◌}
use Rattle.std.specs.List.{AllByRecursion}
use Rattle.std.proofs.lemmas.Bool.{ltb-true}
use Rattle.hls_ints.specs.Types.{IntegerType, wrapped}
use Rattle.hls_ints.specs.Operators.{is_zero}
use Rattle.c_program.specs.declared.tree.Storage.{Storage}
use Rattle.c_program.specs.declared.tree.Storage.TheVariants.{Automatic, Static}
use Rattle.c_program.specs.declared.tree.BinaryOperator.{BinaryOperator}
use Rattle.c_program.specs.declared.tree.LocalVariable.{LocalVariable}
use Rattle.c_program.specs.declared.tree.ThreadObject.{ThreadObject}
use Rattle.c_program.specs.Tree.{Expression, Place, ThreadCall, Statement, Function, GlobalVariable, Program}
use Rattle.c_program.specs.Resolved.{global_object, IsObject, IsPlace, IsCall, object_of, HasRoutine, Around, nowhere, in_switch, IsThreadCall, IsStatement, IsRoutineAt, IsFunction, IsResolved}
use Rattle.thread_semantics.specs.declared.cause.UndefinedCause.TheVariants.{Index}
use Rattle.thread_semantics.specs.Memory.{Location, Memory, Evaluation, Gives, Fails, after_reads, and_then}
use Rattle.thread_semantics.specs.Value.{value, values, load, checked_index, binary_value}
use Rattle.thread_semantics.specs.Work.{Work, Act, decided, noted, switched}
use Rattle.thread_semantics.specs.State.{Frame, begun, started}
use Rattle.thread_semantics.specs.Move.{Move, moving, going_on, Target, target_of, Assignment, assignment, update, stored_in, stored, slot_place, truth_in, operand_move, switch_move}
use Rattle.thread_semantics.specs.Move.{entered, called, return_type, returned_value, resumed, returned, operands_of, act_of, prepared}
use Rattle.thread_semantics.specs.Move.{end_offset, statement_move, work_move, move}
use Rattle.race_model.proofs.Lists.{all_at}
use Rattle.race_model.proofs.Shape.{IsElement, IsInside}
use Rattle.race_model.proofs.Works.{IsAct, TakesStep, IsPart, AreWork, IsReady, IsWaiting, onward_is, decided_is, switched_is}

-- where an evaluation gives a value, that is so of the value
abbrev pub Grants : {A : Type 0} → (A → Type 0) → Evaluation A → Type 0
Grants Q (Gives v reads) = Q v
Grants Q (Fails cause) = Unit {0}

grants_all : {A : Type 0} (Q : A → Type 0) (e : Evaluation A) → ((v : A) → Q v) → Grants Q e
grants_all Q (Gives v reads) h = h v
grants_all Q (Fails cause) h = tt

grants_after : {A : Type 0} (Q : A → Type 0) (r : List Location) (e : Evaluation A) → Grants Q e → Grants Q (after_reads r e)
grants_after Q r (Gives v reads) g = g
grants_after Q r (Fails cause) g = tt

pub grants_then : {A B : Type 0} (R : A → Type 0) (Q : B → Type 0) (e : Evaluation A) (next : A → Evaluation B) → Grants R e → ((v : A) → R v → Grants Q (next v)) →
    Grants Q (and_then e next)
grants_then R Q (Gives v reads) next g h = grants_after Q reads (next v) (h v g)
grants_then R Q (Fails cause) next g h = tt

-- whatever the value
grants_next : {A B : Type 0} (Q : B → Type 0) (e : Evaluation A) (next : A → Evaluation B) → ((v : A) → Grants Q (next v)) → Grants Q (and_then e next)
grants_next {A} Q e next h = grants_then (λ (v : A). Unit {0}) Q e next (grants_all (λ (v : A). Unit {0}) e (λ v. tt)) (λ v _. h v)

pub index_below : (length : ℕ) (i : ℤ) → Grants (λ j. j < length) (checked_index length i)
index_below length (negsuc i) = tt
index_below length (pos i) = go (nat_lt i length) refl
  where
    go : (b : Bool) → nat_lt i length ≡ b → Grants (λ j. j < length) (if b then Gives i [] else Fails Index)
    go true e = ltb-true i length e
    go false e = tt

module _ (P : Program) where
  -- an element that may be written: any local, or a declared global's
  abbrev IsTarget : Storage → ℕ → ℕ → Type 0
  IsTarget Automatic x j = Unit {0}
  IsTarget Static x j = IsElement P (record { variable = x; index = j })

  abbrev IsAssigned : Assignment → Type 0
  IsAssigned a = IsTarget a.target.storage a.target.variable a.target.index

  object_is : (f : Function) (storage : Storage) (x length j : ℕ) (ty : IntegerType) → IsObject P f storage x length ty → j < length → IsTarget storage x j
  object_is f Automatic x length j ty is lt = tt
  object_is f Static x length j ty is lt = go (slice_get P.globals x) refl is
    where
      go : (o : Option GlobalVariable) → slice_get P.globals x ≡ o → global_object o ≡ Some (record { ty = ty; length = length }) →
          IsElement P (record { variable = x; index = j })
      go None q e = absurd cc
      go (Some g) q e =
          let same : record { ty = g.ty; length = g.length } ≡ record { ty = ty; length = length } = cc in
          record { global = g; found = q; within = subst (λ n. j < n) (sym (ap (λ (l : LocalVariable). l.length) same)) lt }

  target_is : (f : Function) (place : Place) (m : Memory) → IsPlace P f place → Grants (λ (t : Target). IsTarget t.storage t.variable t.index) (target_of place m)
  target_is f (Place.Scalar storage x ty) m is = object_is f storage x 1 0 ty is (omega arith)
  target_is f (Place.Element storage x length ty index) m is =
      grants_next (λ (t : Target). IsTarget t.storage t.variable t.index) (value index m)
      (λ i. and_then (checked_index length i) (λ j. indexed j))
      (λ i. grants_then (λ j. j < length) (λ (t : Target). IsTarget t.storage t.variable t.index) (checked_index length i) indexed (index_below length i)
      (λ j lt. object_is f storage x length j ty is.0 lt))
    where
      indexed : ℕ → Evaluation Target
      indexed j = Gives (record { storage = storage; variable = x; index = j; ty = ty }) []

  assigned_is : (f : Function) (place : Place) (m : Memory) (next : Target → Evaluation Assignment) → IsPlace P f place →
      ((t : Target) → Grants (λ (a : Assignment). a.target ≡ t) (next t)) → Grants IsAssigned (and_then (target_of place m) next)
  assigned_is f place m next is same =
      grants_then (λ (t : Target). IsTarget t.storage t.variable t.index) IsAssigned (target_of place m) next (target_is f place m is)
      (λ t here. go t here (next t) (same t))
    where
      go : (t : Target) → IsTarget t.storage t.variable t.index → (e : Evaluation Assignment) → Grants (λ (a : Assignment). a.target ≡ t) e → Grants IsAssigned e
      go t here (Gives a reads) s = subst (λ (u : Target). IsTarget u.storage u.variable u.index) (sym s) here
      go t here (Fails cause) s = tt

  assignment_is : (f : Function) (place : Place) (right : Expression) (m : Memory) → IsPlace P f place → Grants IsAssigned (assignment place right m)
  assignment_is f place right m is =
      grants_next IsAssigned (value right m) (λ v. and_then (target_of place m) (λ target. Gives (record { target = target; value = v }) []))
      (λ v. assigned_is f place m (λ target. Gives (record { target = target; value = v }) []) is (λ t. refl))

  update_is : (f : Function) (place : Place) (operator : BinaryOperator) (ty : IntegerType) (right : Expression) (m : Memory) → IsPlace P f place →
      Grants IsAssigned (update place operator ty right m)
  update_is f place operator ty right m is =
      grants_next IsAssigned (value right m) (λ v. and_then (target_of place m) (λ target. changed v target))
      (λ v. assigned_is f place m (λ target. changed v target) is
      (λ t. grants_next (λ (a : Assignment). a.target ≡ t) (load m t.storage t.variable t.index)
      (λ old. and_then (binary_value operator ty old v) (λ r. Gives (record { target = t; value = r }) []))
      (λ old. grants_next (λ (a : Assignment). a.target ≡ t) (binary_value operator ty old v) (λ r. Gives (record { target = t; value = r }) []) (λ r. refl))))
    where
      changed : ℤ → Target → Evaluation Assignment
      changed v target =
          and_then (load m target.storage target.variable target.index)
          (λ old. and_then (binary_value operator ty old v) (λ r. Gives (record { target = target; value = r }) []))

  -- a kept value goes to a local
  keep_is : (f : Function) (slot : ℕ) (right : Expression) (m : Memory) → Grants IsAssigned (assignment (slot_place slot) right m)
  keep_is f slot right m =
      grants_next IsAssigned (value right m) (λ v. and_then (target_of (slot_place slot) m) (λ target. Gives (record { target = target; value = v }) [])) (λ v. tt)

  -- a call whose code is a function of the program, and whose work is of that function and ready for a step
  pub record IsFrame (f : Frame) : Type 0 where
    pub code : Function
    pub found : slice_get P.functions f.function ≡ Some code
    pub ready : IsReady P code f.work

  -- such a call, whose work waits for another call
  pub record IsCaller (f : Frame) : Type 0 where
    pub code : Function
    pub found : slice_get P.functions f.function ≡ Some code
    pub waits : IsWaiting P code f.work

  -- the innermost call and its callers
  abbrev pub AreFrames : List Frame → Type 0
  AreFrames [] = ⊥
  AreFrames (f ∷ fs) = IsFrame f × AllByRecursion IsCaller fs

  abbrev pub IsMove : Move → Type 0
  IsMove (Move.Moves frames reads write) = AreFrames frames × IsInside P write
  IsMove (Move.Acts offset act operands frames) = AreFrames frames × IsAct P act
  IsMove (Move.Ends offset reads) = Unit {0}
  IsMove (Move.Faults offset cause) = Unit {0}
  IsMove Move.Impossible = ⊥

  moving_is : {A : Type 0} (Q : A → Type 0) (offset : ℕ) (e : Evaluation A) (next : A → List Location → Move) → Grants Q e →
      ((v : A) (r : List Location) → Q v → IsMove (next v r)) → IsMove (moving offset e next)
  moving_is Q offset (Gives v reads) next g h = h v reads g
  moving_is Q offset (Fails cause) next g h = tt

  moving_all : {A : Type 0} (offset : ℕ) (e : Evaluation A) (next : A → List Location → Move) → ((v : A) (r : List Location) → IsMove (next v r)) →
      IsMove (moving offset e next)
  moving_all {A} offset e next h = moving_is (λ (v : A). Unit {0}) offset e next (grants_all (λ (v : A). Unit {0}) e (λ v. tt)) (λ v r _. h v r)

  -- the same call with other work, and as one that waits for another call
  with_work : (f : Frame) (g : Frame) (w : IsFrame f) → g.function ≡ f.function → IsReady P w.code g.work → IsFrame g
  with_work f g w same ready = record { code = w.code; found = ap (λ (n : ℕ). slice_get P.functions n) same ∙ w.found; ready = ready }

  caller_is : (f : Frame) (g : Frame) (w : IsFrame f) → g.function ≡ f.function → IsWaiting P w.code g.work → IsCaller g
  caller_is f g w same waits = record { code = w.code; found = ap (λ (n : ℕ). slice_get P.functions n) same ∙ w.found; waits = waits }

  going_on_is : (f : Frame) (w : IsFrame f) (k : List Work) → AreWork P w.code false k → IsFrame (going_on f k)
  going_on_is f w k q = with_work f (going_on f k) w refl (onward_is P w.code k q)

  abbrev AreCallers : List Frame → Type 0
  AreCallers fs = AllByRecursion IsCaller fs

  stored_in_is : (storage : Storage) (a : Assignment) (reads : List Location) (f : Frame) (fs : List Frame) (k : List Work) (w : IsFrame f) →
      AreWork P w.code false k → AreCallers fs → IsTarget storage a.target.variable a.target.index → IsMove (stored_in storage a reads f fs k)
  stored_in_is Automatic a reads f fs k w q ws t = ((with_work f _ w refl (onward_is P w.code k q), ws), tt)
  stored_in_is Static a reads f fs k w q ws t = ((going_on_is f w k q, ws), t)

  stored_is : (offset : ℕ) (e : Evaluation Assignment) (f : Frame) (fs : List Frame) (k : List Work) (w : IsFrame f) → AreWork P w.code false k → AreCallers fs →
      Grants IsAssigned e → IsMove (stored offset e f fs k)
  stored_is offset e f fs k w q ws g =
      moving_is IsAssigned offset e (λ a reads. stored_in a.target.storage a reads f fs k) g
      (λ a reads t. stored_in_is a.target.storage a reads f fs k w q ws t)

  resumed_is : (v : Option ℤ) (f : Frame) → IsCaller f → IsFrame (resumed v f.work f)
  resumed_is v f w = go f.work w.waits
    where
      go : (k : List Work) → IsWaiting P w.code k → IsFrame (resumed v k f)
      go (Work.Take into ∷ k) q = record { code = w.code; found = w.found; ready = onward_is P w.code k q }
      go [] q = absurd q
      go (item ∷ k) q = absurd q

  returned_is : (offset : ℕ) (v : Option ℤ) (reads : List Location) (f : Frame) (fs : List Frame) → AreCallers fs → IsMove (returned P offset v reads f fs)
  returned_is offset v reads f [] ws = tt
  returned_is offset v reads f (g ∷ gs) ws =
      ((resumed_is (returned_value (return_type (slice_get P.functions f.function)) v) g ws.0, ws.1), tt)

  prepared_is : (offset : ℕ) (act : Act) (operands : Evaluation (List ℤ)) (f : Frame) (fs : List Frame) (k : List Work) (w : IsFrame f) →
      IsAct P act → AreWork P w.code false k → AreCallers fs → IsMove (prepared offset act operands f fs k)
  prepared_is offset act operands f fs k w is q ws =
      moving_all offset operands (λ vs reads. Move.Moves (record f { work = Work.Perform offset act ∷ k; kept = vs } ∷ fs) reads None)
      (λ vs reads. ((with_work f _ w refl ((is, q), tt), ws), tt))

  -- an operand of a condition, and a switch
  operand_is : (offset : ℕ) (e : Evaluation ℤ) (f : Frame) (fs : List Frame) (k : List Work) (w : IsFrame f) → AreWork P w.code true k → AreCallers fs →
      IsMove (operand_move offset e f fs k)
  operand_is offset e f fs k w q ws =
      moving_all offset e
      (λ v reads. Move.Moves (record f { locals = truth_in (noted (not (is_zero v)) k) f.locals; work = decided (not (is_zero v)) k; kept = [] } ∷ fs) reads None)
      (λ v reads. ((with_work f _ w refl (decided_is P w.code (not (is_zero v)) k q), ws), tt))

  switch_is : (offset : ℕ) (ty : IntegerType) (e : Evaluation ℤ) (body : Statement) (a : Around) (f : Frame) (fs : List Frame) (k : List Work) (w : IsFrame f) →
      IsStatement P w.code a body → AreWork P w.code false k → AreCallers fs → IsMove (switch_move offset ty e body f fs k)
  switch_is offset ty e body a f fs k w s q ws =
      moving_all offset e (λ v reads. Move.Moves (record f { work = switched (wrapped ty v) body k; kept = [] } ∷ fs) reads None)
      (λ v reads. ((with_work f _ w refl (switched_is P w.code (wrapped ty v) body a k s q), ws), tt))

module _ (P : Program) (R : IsResolved P) where
  begun_is : (code : Function) (g : ℕ) (arguments : List ℤ) → slice_get P.functions g ≡ Some code → IsFrame P (begun code g arguments)
  begun_is code g arguments at =
      let is : IsFunction P code = all_at (IsFunction P) P.functions g code R.functions at in
      record { code = code; found = at; ready = onward_is P code (Work.Do code.body ∷ []) (false, (nowhere, is.body), tt) }

  -- the calls of a thread that begins with a function of the program
  pub started_is : (code : Function) (g : ℕ) (arguments : List ℤ) → slice_get P.functions g ≡ Some code →
      AreFrames P (started (slice_get P.functions g) g arguments)
  started_is code g arguments at =
      subst (λ (o : Option Function). AreFrames P (started o g arguments)) (sym at) (begun_is code g arguments at, tt)

  -- the routine of a create is a function
  routine_is : (routine : ℕ) (o : Option Function) → slice_get P.functions routine ≡ o → IsRoutineAt o → IsAct P (Act.Create routine)
  routine_is routine None at is = absurd is
  routine_is routine (Some code) at is = (code, at)

  created_is : (number routine : ℕ) (o : Option ThreadObject) → slice_get P.threads number ≡ o → HasRoutine o routine → IsAct P (Act.Create routine)
  created_is number routine None at has = absurd has
  created_is number routine (Some object) at has =
      routine_is routine (slice_get P.functions routine) refl ((R.threads number object at).routine routine has)

  act_is : (f : Function) (call : ThreadCall) → IsThreadCall P f call → IsAct P (act_of call)
  act_is f (ThreadCall.Create thread routine argument) is = created_is (object_of thread) routine (slice_get P.threads (object_of thread)) refl is.1
  act_is f (ThreadCall.Join thread) is = tt
  act_is f (ThreadCall.MutexInit mutex) is = tt
  act_is f (ThreadCall.MutexDestroy mutex) is = tt
  act_is f (ThreadCall.MutexLock mutex) is = tt
  act_is f (ThreadCall.MutexUnlock mutex) is = tt
  act_is f (ThreadCall.BarrierInit barrier count) is = tt
  act_is f (ThreadCall.BarrierDestroy barrier) is = tt
  act_is f (ThreadCall.BarrierWait barrier) is = tt

  entered_is : (code : Function) (g : ℕ) (arguments : List ℤ) (reads : List Location) (f : Frame) (fs : List Frame) (k : List Work) (w : IsFrame P f) →
      slice_get P.functions g ≡ Some code → IsWaiting P w.code k → AreCallers P fs →
      IsMove P (entered (slice_get P.functions g) g arguments reads f fs k)
  entered_is code g arguments reads f fs k w at waits ws =
      subst (λ (o : Option Function). IsMove P (entered o g arguments reads f fs k)) (sym at)
      ((begun_is code g arguments at, (caller_is P f _ w refl waits, ws)), tt)

  called_is : (offset : ℕ) (into : Option ℕ) (g : ℕ) (arguments : List Expression) (m : Memory) (f : Frame) (fs : List Frame) (k : List Work) (w : IsFrame P f) →
      IsCall P w.code g arguments → AreWork P w.code false k → AreCallers P fs → IsMove P (called P offset into g arguments m f fs k)
  called_is offset into g arguments m f fs k w call q ws =
      moving_all P offset (values arguments m) (λ vs reads. entered (slice_get P.functions g) g vs reads f fs (Work.Take into ∷ k))
      (λ vs reads. entered_is call.code g vs reads f fs (Work.Take into ∷ k) w call.found q ws)

  statement_is : (m : Memory) (f : Frame) (fs : List Frame) (k : List Work) (s : Statement) (w : IsFrame P f) (a : Around) → TakesStep s → IsStatement P w.code a s →
      AreWork P w.code false k → AreCallers P fs → IsMove P (statement_move P m f fs k s)
  statement_is m f fs k (Statement.Declare offset x operators) w a takes s q ws = ((with_work P f _ w refl (onward_is P w.code k q), ws), tt)
  statement_is m f fs k (Statement.Assign offset place right) w a takes s q ws =
      stored_is P offset (assignment place right m) f fs k w q ws (assignment_is P w.code place right m s.0)
  statement_is m f fs k (Statement.Update offset place operator ty right) w a takes s q ws =
      stored_is P offset (update place operator ty right m) f fs k w q ws (update_is P w.code place operator ty right m s.target)
  statement_is m f fs k (Statement.Call offset into g arguments) w a takes s q ws = called_is offset into g arguments m f fs k w s.call q ws
  statement_is m f fs k (Statement.Keep offset slot ty operand) w a takes s q ws =
      stored_is P offset (assignment (slot_place slot) (Expression.Cast ty operand) m) f fs k w q ws (keep_is P w.code slot (Expression.Cast ty operand) m)
  statement_is m f fs k (Statement.Switch offset ty operand body) w a takes s q ws =
      switch_is P offset ty (value operand m) body (in_switch ty a) f fs k w s.2 q ws
  statement_is m f fs k (Statement.Return offset None) w a takes s q ws = returned_is P offset None [] f fs ws
  statement_is m f fs k (Statement.Return offset (Some e)) w a takes s q ws =
      moving_all P offset (value e m) (λ v reads. returned P offset (Some v) reads f fs) (λ v reads. returned_is P offset (Some v) reads f fs ws)
  statement_is m f fs k (Statement.Print offset format arguments) w a takes s q ws =
      prepared_is P offset (Act.Print format) (values arguments m) f fs k w tt q ws
  statement_is m f fs k (Statement.Thread offset call) w a takes s q ws =
      prepared_is P offset (act_of call) (operands_of P call m) f fs k w (act_is w.code call s) q ws
  statement_is m f fs k (Statement.Test offset operand) w a takes s q ws = absurd s
  statement_is m f fs k statement w a takes s q ws = absurd takes

  -- a part of the function
  part_is : (m : Memory) (f : Frame) (fs : List Frame) (k : List Work) (s : Statement) (w : IsFrame P f) (truth : Bool) → TakesStep s → IsPart P w.code truth s →
      AreWork P w.code truth k → AreCallers P fs → IsMove P (statement_move P m f fs k s)
  part_is m f fs k s w false takes part q ws = statement_is m f fs k s w part.0 takes part.1 q ws
  part_is m f fs k (Statement.Test offset operand) w true takes part q ws = operand_is P offset (value operand m) f fs k w q ws
  part_is m f fs k (Statement.Sequence first rest) w true takes part q ws = absurd takes
  part_is m f fs k (Statement.Both first second) w true takes part q ws = absurd takes
  part_is m f fs k (Statement.Either first second) w true takes part q ws = absurd takes
  part_is m f fs k (Statement.Opposite inner) w true takes part q ws = absurd takes
  part_is m f fs k statement w true takes part q ws = absurd part

  work_is : (m : Memory) (f : Frame) (fs : List Frame) (work : List Work) (w : IsFrame P f) → IsReady P w.code work → AreCallers P fs → IsMove P (work_move P m f fs work)
  work_is m f fs [] w q ws = returned_is P (end_offset (slice_get P.functions f.function)) None [] f fs ws
  work_is m f fs (Work.Do statement ∷ k) w q ws = part_is m f fs k statement w q.0.0 q.1 q.0.1 q.0.2 ws
  work_is m f fs (Work.Perform offset act ∷ k) w q ws = ((going_on_is P f w k q.0.1, ws), q.0.0)
  work_is m f fs (item ∷ k) w q ws = absurd q.1

  pub move_is : (globals : List (List ℤ)) (frames : List Frame) → AreFrames P frames → IsMove P (move P globals frames)
  move_is globals [] ws = absurd ws
  move_is globals (f ∷ fs) ws = work_is (record { locals = f.locals; globals = globals }) f fs f.work ws.0 ws.0.ready ws.1
