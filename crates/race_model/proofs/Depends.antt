-- A step depends on the thread's own calls, and of the globals on those that it reads, and on nothing else.
use Rattle.std.proofs.Common.{◌≡◌, ℕ, ◌+◌, not, List, [], ◌∷◌, ◌++◌, refl, ap, subst}
use Rattle.std.specs.Prelude.{ℤ, pos, Option, Some, None, slice_get}
use Rattle.hls_ints.specs.Types.{IntegerType, wrapped}
use Rattle.hls_ints.specs.Operators.{is_zero}
use Rattle.c_program.specs.declared.tree.Storage.{Storage}
use Rattle.c_program.specs.declared.tree.Storage.TheVariants.{Automatic, Static}
use Rattle.c_program.specs.declared.tree.BinaryOperator.{BinaryOperator}
use Rattle.c_program.specs.Tree.{Expression, Place, ObjectPlace, ThreadCall, Statement, Function, Program}
use Rattle.thread_semantics.specs.Memory.{Location, Memory, Evaluation, Gives, Fails, after_reads, and_then, element}
use Rattle.thread_semantics.specs.Value.{value, values, load, global_value, kept_value, row_number, checked_index, unary_value, binary_value}
use Rattle.thread_semantics.specs.Work.{Work, Act, decided, noted, switched}
use Rattle.thread_semantics.specs.State.{Frame}
use Rattle.thread_semantics.specs.Move.{Move, moving, Target, target_of, Assignment, assignment, update, stored_in, stored, entered, called, slot_place, truth_in}
use Rattle.thread_semantics.specs.Move.{returned, object_number, alone, with_operand, operands_of, act_of, prepared, statement_move, work_move, move}
use Rattle.thread_semantics.specs.Move.{first_thread, first_mutex, first_barrier}

-- the two memories are the same at these elements of globals
abbrev pub SameAt : Memory → Memory → List Location → Type 0
SameAt m n [] = Unit {0}
SameAt m n (p ∷ reads) = (element m.globals p.variable p.index ≡ element n.globals p.variable p.index) × SameAt m n reads

same_front : (m n : Memory) (r s : List Location) → SameAt m n (r ++ s) → SameAt m n r
same_front m n [] s h = tt
same_front m n (p ∷ r) s h = (h.0, same_front m n r s h.1)

same_back : (m n : Memory) (r s : List Location) → SameAt m n (r ++ s) → SameAt m n s
same_back m n [] s h = h
same_back m n (p ∷ r) s h = same_back m n r s h.1

-- the parts of one evaluation after another
record Parts {A B : Type 0} (a : Evaluation A) (f : A → Evaluation B) (v : B) (reads : List Location) : Type 0 where
  first : A
  before : List Location
  after : List Location
  is : a ≡ Gives first before
  then_is : f first ≡ Gives v after
  whole : reads ≡ before ++ after

parts_of : {B : Type 0} (b : Evaluation B) (r : List Location) (v : B) (reads : List Location) → after_reads r b ≡ Gives v reads →
    (s : List Location) × (b ≡ Gives v s) × (reads ≡ r ++ s)
parts_of (Gives w s) r v reads h = (s, (let e : w ≡ v = cc in ap (λ x. Gives x s) e), (let e : reads ≡ r ++ s = cc in e))
parts_of (Fails cause) r v reads h = absurd cc

parts : {A B : Type 0} (a : Evaluation A) (f : A → Evaluation B) (v : B) (reads : List Location) → and_then a f ≡ Gives v reads → Parts a f v reads
parts (Gives x r) f v reads h =
    let p = parts_of (f x) r v reads h in
    record { first = x; before = r; after = p.0; is = refl; then_is = p.1; whole = p.2 }
parts (Fails cause) f v reads h = absurd cc

-- two evaluations in a row that the other memory gives too
together : {A B : Type 0} (a : Evaluation A) (f : A → Evaluation B) (x : A) (r s : List Location) (v : B) (reads : List Location) →
    a ≡ Gives x r → f x ≡ Gives v s → reads ≡ r ++ s → and_then a f ≡ Gives v reads
together a f x r s v reads p q w = rw (p, q, w) refl

-- with a value in one memory it has the same value and reads in each other one that is the same at the locals and at those reads
abbrev pub DependsOnReads : {A : Type 0} → (Memory → Evaluation A) → Type 0
DependsOnReads {A} F =
    (m n : Memory) (v : A) (reads : List Location) → m.locals ≡ n.locals → F m ≡ Gives v reads → SameAt m n reads → F n ≡ Gives v reads

depends_pure : {A : Type 0} (e : Evaluation A) → DependsOnReads (λ m. e)
depends_pure e m n v reads l h s = h

depends_then : {A B : Type 0} (F : Memory → Evaluation A) (G : A → Memory → Evaluation B) → DependsOnReads F → ((x : A) → DependsOnReads (G x)) →
    DependsOnReads (λ m. and_then (F m) (λ x. G x m))
depends_then F G df dg m n v reads l h s =
    let q = parts (F m) (λ x. G x m) v reads h in
    let t : SameAt m n (q.before ++ q.after) = subst (SameAt m n) q.whole s in
    together (F n) (λ x. G x n) q.first q.before q.after v reads
    (df m n q.first q.before l q.is (same_front m n q.before q.after t))
    (dg q.first m n v q.after l q.then_is (same_back m n q.before q.after t))
    q.whole

global_reads : (place : Location) (o : Option ℤ) (v : ℤ) (reads : List Location) → global_value place o ≡ Gives v reads → reads ≡ place ∷ []
global_reads place (Some w) v reads h = let e : reads ≡ place ∷ [] = cc in e
global_reads place None v reads h = absurd cc

depends_load : (storage : Storage) (x j : ℕ) → DependsOnReads (λ m. load m storage x j)
depends_load Automatic x j m n v reads l h s = subst (λ rows. load (record { locals = rows; globals = n.globals }) Automatic x j ≡ Gives v reads) l h
depends_load Static x j m n v reads l h s =
    let place : Location = record { variable = x; index = j } in
    let t : SameAt m n (place ∷ []) = subst (SameAt m n) (global_reads place (element m.globals x j) v reads h) s in
    subst (λ o. global_value place o ≡ Gives v reads) t.0 h

pub depends_value : (e : Expression) → DependsOnReads (value e)
depends_value (Expression.Constant ty number) = depends_pure (Gives number [])
depends_value (Expression.Variable storage x ty) = depends_load storage x 0
depends_value (Expression.Element storage x length ty index) =
    depends_then (value index) (λ i m. and_then (checked_index length i) (λ j. load m storage x j)) (depends_value index)
    (λ i. depends_then (λ m. checked_index length i) (λ j m. load m storage x j) (depends_pure (checked_index length i)) (depends_load storage x))
depends_value (Expression.Row outer outer_length inner inner_length) =
    depends_then (value outer)
    (λ a m. and_then (checked_index outer_length a) (λ i. and_then (value inner m) (λ b. and_then (checked_index inner_length b) (λ j. row_number inner_length i j))))
    (depends_value outer)
    (λ a. depends_then (λ m. checked_index outer_length a)
    (λ i m. and_then (value inner m) (λ b. and_then (checked_index inner_length b) (λ j. row_number inner_length i j)))
    (depends_pure (checked_index outer_length a))
    (λ i. depends_then (value inner) (λ b m. and_then (checked_index inner_length b) (λ j. row_number inner_length i j)) (depends_value inner)
    (λ b. depends_pure (and_then (checked_index inner_length b) (λ j. row_number inner_length i j)))))
depends_value (Expression.Unary operator ty operand) =
    depends_then (value operand) (λ a m. unary_value operator ty a) (depends_value operand) (λ a. depends_pure (unary_value operator ty a))
depends_value (Expression.Binary operator ty left right) =
    depends_then (value left) (λ a m. and_then (value right m) (λ b. binary_value operator ty a b)) (depends_value left)
    (λ a. depends_then (value right) (λ b m. binary_value operator ty a b) (depends_value right) (λ b. depends_pure (binary_value operator ty a b)))
depends_value (Expression.Cast ty operand) =
    depends_then (value operand) (λ a m. Gives (wrapped ty a) []) (depends_value operand) (λ a. depends_pure (Gives (wrapped ty a) []))
depends_value (Expression.Kept slot ty) = λ m n v reads l h s. subst (λ rows. kept_value ty (element rows slot 0) ≡ Gives v reads) l h

pub depends_values : (es : List Expression) → DependsOnReads (values es)
depends_values [] = depends_pure (Gives [] [])
depends_values (e ∷ es) =
    depends_then (value e) (λ v m. and_then (values es m) (λ vs. Gives (v ∷ vs) [])) (depends_value e)
    (λ v. depends_then (values es) (λ vs m. Gives (v ∷ vs) []) (depends_values es) (λ vs. depends_pure (Gives (v ∷ vs) [])))

abbrev indexed : Storage → ℕ → IntegerType → ℕ → Evaluation Target
indexed storage x ty j = Gives (record { storage = storage; variable = x; index = j; ty = ty }) []

depends_target : (place : Place) → DependsOnReads (target_of place)
depends_target (Place.Scalar storage x ty) = depends_pure (Gives (record { storage = storage; variable = x; index = 0; ty = ty }) [])
depends_target (Place.Element storage x length ty index) =
    depends_then (value index)
    (λ i m. and_then (checked_index length i) (λ j. indexed storage x ty j)) (depends_value index)
    (λ i. depends_pure (and_then (checked_index length i) (λ j. indexed storage x ty j)))

abbrev assigned : ℤ → Target → Evaluation Assignment
assigned v target = Gives (record { target = target; value = v }) []

depends_assignment : (place : Place) (right : Expression) → DependsOnReads (assignment place right)
depends_assignment place right =
    depends_then (value right) (λ v m. and_then (target_of place m) (λ target. assigned v target)) (depends_value right)
    (λ v. depends_then (target_of place) (λ target m. assigned v target) (depends_target place) (λ target. depends_pure (assigned v target)))

depends_update : (place : Place) (operator : BinaryOperator) (ty : IntegerType) (right : Expression) → DependsOnReads (update place operator ty right)
depends_update place operator ty right =
    depends_then (value right)
    (λ v m. and_then (target_of place m) (λ target. and_then (load m target.storage target.variable target.index)
    (λ old. and_then (binary_value operator ty old v) (λ r. assigned r target))))
    (depends_value right)
    (λ v. depends_then (target_of place)
    (λ target m. and_then (load m target.storage target.variable target.index) (λ old. and_then (binary_value operator ty old v) (λ r. assigned r target)))
    (depends_target place)
    (λ target. depends_then (λ m. load m target.storage target.variable target.index)
    (λ old m. and_then (binary_value operator ty old v) (λ r. assigned r target))
    (depends_load target.storage target.variable target.index)
    (λ old. depends_pure (and_then (binary_value operator ty old v) (λ r. assigned r target)))))

depends_number : (first : ℕ → ℕ) (place : ObjectPlace) → DependsOnReads (object_number first place)
depends_number first (ObjectPlace.Single object) = depends_pure (Gives (pos (first object)) [])
depends_number first (ObjectPlace.Element object length index) =
    depends_then (value index) (λ i m. and_then (checked_index length i) (λ j. Gives (pos (first object + j)) [])) (depends_value index)
    (λ i. depends_pure (and_then (checked_index length i) (λ j. Gives (pos (first object + j)) [])))

depends_alone : (first : ℕ → ℕ) (place : ObjectPlace) → DependsOnReads (λ m. alone (object_number first place m))
depends_alone first place =
    depends_then (object_number first place) (λ n m. Gives (n ∷ []) []) (depends_number first place) (λ n. depends_pure (Gives (n ∷ []) []))

depends_with : (first : ℕ → ℕ) (place : ObjectPlace) (e : Expression) → DependsOnReads (λ m. with_operand (object_number first place m) e m)
depends_with first place e =
    depends_then (object_number first place) (λ n m. and_then (value e m) (λ v. Gives (n ∷ v ∷ []) [])) (depends_number first place)
    (λ n. depends_then (value e) (λ v m. Gives (n ∷ v ∷ []) []) (depends_value e) (λ v. depends_pure (Gives (n ∷ v ∷ []) [])))

depends_operands : (P : Program) (call : ThreadCall) → DependsOnReads (operands_of P call)
depends_operands P (ThreadCall.Create thread routine argument) = depends_with (first_thread P) thread argument
depends_operands P (ThreadCall.Join thread) = depends_alone (first_thread P) thread
depends_operands P (ThreadCall.MutexInit mutex) = depends_alone (first_mutex P) mutex
depends_operands P (ThreadCall.MutexDestroy mutex) = depends_alone (first_mutex P) mutex
depends_operands P (ThreadCall.MutexLock mutex) = depends_alone (first_mutex P) mutex
depends_operands P (ThreadCall.MutexUnlock mutex) = depends_alone (first_mutex P) mutex
depends_operands P (ThreadCall.BarrierInit barrier count) = depends_with (first_barrier P) barrier count
depends_operands P (ThreadCall.BarrierDestroy barrier) = depends_alone (first_barrier P) barrier
depends_operands P (ThreadCall.BarrierWait barrier) = depends_alone (first_barrier P) barrier

-- Moves.

abbrev pub IsDefined : Move → Type 0
IsDefined (Move.Moves frames reads write) = Unit {0}
IsDefined (Move.Acts offset act operands frames) = Unit {0}
IsDefined (Move.Ends offset reads) = Unit {0}
IsDefined (Move.Faults offset cause) = ⊥
IsDefined Move.Impossible = ⊥

abbrev pub reads_in : Move → List Location
reads_in (Move.Moves frames reads write) = reads
reads_in (Move.Acts offset act operands frames) = []
reads_in (Move.Ends offset reads) = reads
reads_in (Move.Faults offset cause) = []
reads_in Move.Impossible = []

-- a move that is defined in one memory is the same in each other one that is the same at the locals and at its reads
abbrev pub MoveDepends : (Memory → Move) → Type 0
MoveDepends F = (m n : Memory) → m.locals ≡ n.locals → IsDefined (F m) → SameAt m n (reads_in (F m)) → F n ≡ F m

depends_moving : {A : Type 0} (offset : ℕ) (F : Memory → Evaluation A) (next : A → List Location → Move) → DependsOnReads F →
    ((v : A) (r : List Location) → IsDefined (next v r) → reads_in (next v r) ≡ r) → MoveDepends (λ m. moving offset (F m) next)
depends_moving {A} offset F next depends keeps m n l defined same = go (F m) refl defined same
  where
    go : (e : Evaluation A) → F m ≡ e → IsDefined (moving offset e next) → SameAt m n (reads_in (moving offset e next)) →
        moving offset (F n) next ≡ moving offset e next
    go (Gives v r) q d s = ap (λ (e : Evaluation A). moving offset e next) (depends m n v r l q (subst (SameAt m n) (keeps v r d) s))
    go (Fails cause) q d s = absurd d

module _ (f : Frame) (fs : List Frame) where
  stored_reads : (storage : Storage) (a : Assignment) (r : List Location) (k : List Work) → reads_in (stored_in storage a r f fs k) ≡ r
  stored_reads Automatic a r k = refl
  stored_reads Static a r k = refl

  depends_stored : (offset : ℕ) (F : Memory → Evaluation Assignment) (k : List Work) → DependsOnReads F → MoveDepends (λ m. stored offset (F m) f fs k)
  depends_stored offset F k d =
      depends_moving offset F (λ a reads. stored_in a.target.storage a reads f fs k) d (λ a r _. stored_reads a.target.storage a r k)

  entered_reads : (o : Option Function) (g : ℕ) (vs : List ℤ) (r : List Location) (k : List Work) → IsDefined (entered o g vs r f fs k) →
      reads_in (entered o g vs r f fs k) ≡ r
  entered_reads None g vs r k d = absurd d
  entered_reads (Some code) g vs r k d = refl

  depends_called : (P : Program) (offset : ℕ) (into : Option ℕ) (g : ℕ) (es : List Expression) (k : List Work) → MoveDepends (λ m. called P offset into g es m f fs k)
  depends_called P offset into g es k =
      depends_moving offset (values es) (λ vs reads. entered (slice_get P.functions g) g vs reads f fs (Work.Take into ∷ k)) (depends_values es)
      (λ vs r d. entered_reads (slice_get P.functions g) g vs r (Work.Take into ∷ k) d)

  depends_prepared : (offset : ℕ) (act : Act) (F : Memory → Evaluation (List ℤ)) (k : List Work) → DependsOnReads F →
      MoveDepends (λ m. prepared offset act (F m) f fs k)
  depends_prepared offset act F k d =
      depends_moving offset F
      (λ vs reads. Move.Moves (record f { work = Work.Perform offset act ∷ k; kept = vs } ∷ fs) reads None) d (λ vs r _. refl)

depends_returned : (P : Program) (offset : ℕ) (e : Expression) (f : Frame) (fs : List Frame) →
    MoveDepends (λ m. moving offset (value e m) (λ v reads. returned P offset (Some v) reads f fs))
depends_returned P offset e f [] =
    depends_moving offset (value e) (λ v reads. returned P offset (Some v) reads f []) (depends_value e) (λ v r _. refl)
depends_returned P offset e f (g ∷ gs) =
    depends_moving offset (value e) (λ v reads. returned P offset (Some v) reads f (g ∷ gs)) (depends_value e) (λ v r _. refl)

depends_statement : (P : Program) (f : Frame) (fs : List Frame) (k : List Work) (s : Statement) → MoveDepends (λ m. statement_move P m f fs k s)
depends_statement P f fs k (Statement.Declare offset x operators) m n l d same = refl
depends_statement P f fs k (Statement.Assign offset place right) m n l d same =
    depends_stored f fs offset (assignment place right) k (depends_assignment place right) m n l d same
depends_statement P f fs k (Statement.Update offset place operator ty right) m n l d same =
    depends_stored f fs offset (update place operator ty right) k (depends_update place operator ty right) m n l d same
depends_statement P f fs k (Statement.Call offset into g arguments) m n l d same = depends_called f fs P offset into g arguments k m n l d same
depends_statement P f fs k (Statement.Keep offset slot ty operand) m n l d same =
    depends_stored f fs offset (assignment (slot_place slot) (Expression.Cast ty operand)) k (depends_assignment (slot_place slot) (Expression.Cast ty operand)) m n l d same
depends_statement P f fs k (Statement.Test offset operand) m n l d same =
    depends_moving offset (value operand)
    (λ v reads. Move.Moves (record f { locals = truth_in (noted (not (is_zero v)) k) f.locals; work = decided (not (is_zero v)) k; kept = [] } ∷ fs) reads None)
    (depends_value operand) (λ v r _. refl) m n l d same
depends_statement P f fs k (Statement.Switch offset ty operand body) m n l d same =
    depends_moving offset (value operand) (λ v reads. Move.Moves (record f { work = switched (wrapped ty v) body k; kept = [] } ∷ fs) reads None)
    (depends_value operand) (λ v r _. refl) m n l d same
depends_statement P f fs k (Statement.Return offset None) m n l d same = refl
depends_statement P f fs k (Statement.Return offset (Some e)) m n l d same = depends_returned P offset e f fs m n l d same
depends_statement P f fs k (Statement.Print offset format arguments) m n l d same =
    depends_prepared f fs offset (Act.Print format) (values arguments) k (depends_values arguments) m n l d same
depends_statement P f fs k (Statement.Thread offset call) m n l d same =
    depends_prepared f fs offset (act_of call) (operands_of P call) k (depends_operands P call) m n l d same
depends_statement P f fs k statement m n l d same = absurd d

depends_work : (P : Program) (f : Frame) (fs : List Frame) (work : List Work) → MoveDepends (λ m. work_move P m f fs work)
depends_work P f fs [] m n l d same = refl
depends_work P f fs (Work.Do statement ∷ k) m n l d same = depends_statement P f fs k statement m n l d same
depends_work P f fs (Work.Perform offset act ∷ k) m n l d same = refl
depends_work P f fs (item ∷ k) m n l d same = absurd d

-- the globals are the same at these elements
abbrev pub SameGlobals : List (List ℤ) → List (List ℤ) → List Location → Type 0
SameGlobals G H [] = Unit {0}
SameGlobals G H (p ∷ reads) = (element G p.variable p.index ≡ element H p.variable p.index) × SameGlobals G H reads

as_memories : (locals : List (List (Option ℤ))) (G H : List (List ℤ)) (reads : List Location) → SameGlobals G H reads →
    SameAt (record { locals = locals; globals = G }) (record { locals = locals; globals = H }) reads
as_memories locals G H [] same = tt
as_memories locals G H (p ∷ reads) same = (same.0, as_memories locals G H reads same.1)

-- a thread's move, where its globals are the same at what it reads
pub move_depends : (P : Program) (G H : List (List ℤ)) (frames : List Frame) → IsDefined (move P G frames) → SameGlobals G H (reads_in (move P G frames)) →
    move P H frames ≡ move P G frames
move_depends P G H [] d same = refl
move_depends P G H (f ∷ fs) d same =
    depends_work P f fs f.work (record { locals = f.locals; globals = G }) (record { locals = f.locals; globals = H }) refl d
    (as_memories f.locals G H (reads_in (move P G (f ∷ fs))) same)
