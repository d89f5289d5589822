-- A thread in a join loop: its counter says how many threads of the array are joined.
use Rattle.std.proofs.Common.{◌≡◌, ℕ, zero, suc, ◌+◌, ◌<◌, ◌≤◌, List, [], ◌∷◌, length, refl, sym, ◌∙◌, ap, subst, inl, inr, ⊎_elim, arith}
use Rattle.std.specs.Prelude.{◌⊎◌, Bool, true, false, ◌&&◌, not, if◌then◌else◌, nat_eq, nat_lt, Option, Some, None, Ok, Err, slice_get, slice_set, ℤ, pos, ◌+ℤ◌, sum_by}
use Rattle.std.specs.Ordering.{int_eq}
use Rattle.std.proofs.lemmas.Bool.{and_parts, eqb-true, false≢true, ltb-true, ltb-false, lt-ltb}
use Rattle.std.proofs.lemmas.Bool.Decides.{Decides-int_eq}
use Rattle.hls_ints.specs.declared.fault.ArithmeticFault.TheVariants.{Overflow}
use Rattle.hls_ints.specs.Types.{IntegerType, in_range, wrapped}
use Rattle.hls_ints.specs.Residues.{bit_of}
use Rattle.hls_ints.specs.Operators.{result_of, is_zero, less_of}
use Rattle.c_program.specs.declared.tree.Storage.TheVariants.{Automatic}
use Rattle.c_program.specs.declared.tree.BinaryOperator.TheVariants.{Less, Add}
use Rattle.std.proofs.lemmas.List.Sums.{sum_by-cons}
use Rattle.c_program.specs.declared.tree.ThreadObject.{ThreadObject}
use Rattle.c_program.specs.Limits.{thread_ids}
use Rattle.c_program.specs.Tree.{Expression, Place, ObjectPlace, ThreadCall, Statement, Function, Program}
use Rattle.c_program.specs.Resolved.{IsStatement, Around, within, thread_length, IsResolved}
use Rattle.thread_semantics.specs.declared.cause.UndefinedCause.{UndefinedCause}
use Rattle.thread_semantics.specs.declared.cause.UndefinedCause.TheVariants.{Index}
use Rattle.thread_semantics.specs.Memory.{Memory, Evaluation, Gives, Fails, after_reads, and_then, element, row_element, with_row, with_element}
use Rattle.thread_semantics.specs.Value.{value, calculated, load, local_value, binary_value, checked_index}
use Rattle.thread_semantics.specs.Work.{Loop, Work, Act, Going, Onward, in_order, opened, settled, decided, for_loop}
use Rattle.thread_semantics.specs.Work.{asked as asked_loop}
use Rattle.thread_semantics.specs.State.{Frame}
use Rattle.thread_semantics.specs.Move.{Move, moving, going_on, Target, stored, first_thread, object_number, alone, prepared, statement_move, work_move}
use Rattle.lock_discipline.specs.Sets.{Sets, joined_in}
use Rattle.lock_discipline.specs.Walk.{Joined, is_scalar, is_number, is_value, is_constant, begins_at_zero, counts_up, is_bounded, joined_at, joined_place, joined_by, join_of, nothing}
use Rattle.lock_discipline.proofs.Constants.{small_fits, small_wrapped, constantly, IsConstantly}
use Rattle.lock_discipline.specs.Walk.{Seen, TooDeep, Walker, calls_within, walk_within}
use Rattle.lock_discipline.proofs.Good.{Weak, Good, to_ask}
use Rattle.lock_discipline.proofs.Loops.{bounded_opens}
use Rattle.lock_discipline.proofs.Moves.{AreCallers, AreCalls, goes_on}
use Rattle.lock_discipline.proofs.Operands.{threads_at}

-- ---- the body

-- a statement that joins element i of an array, i being a local
pub record IsJoin (body : Statement) (j : Joined) : Type 0 where
  pub offset : ℕ
  pub ty : IntegerType
  pub opens : (k : List Work) (rest : Going → List Work) →
      opened body k rest ≡ Work.Do (Statement.Thread offset (ThreadCall.Join (ObjectPlace.Element j.object j.length (Expression.Variable Automatic j.index ty)))) ∷ k

abbrev joining : ℕ → ObjectPlace → Statement
joining offset place = Statement.Thread offset (ThreadCall.Join place)

-- the element
pub record IsAt (place : ObjectPlace) (j : Joined) : Type 0 where
  pub ty : IntegerType
  pub is : place ≡ ObjectPlace.Element j.object j.length (Expression.Variable Automatic j.index ty)

at_index : (object length : ℕ) (e : Expression) (j : Joined) → joined_at object length e ≡ Some j → IsAt (ObjectPlace.Element object length e) j
at_index object length (Expression.Variable Automatic i ty) j q =
    let same : record { object = object; length = length; index = i } ≡ j = cc in
    record { ty = ty; is = ap (λ (x : Joined). ObjectPlace.Element x.object x.length (Expression.Variable Automatic x.index ty)) same }
at_index object length e j q = absurd cc

at_place : (place : ObjectPlace) (j : Joined) → joined_place place ≡ Some j → IsAt place j
at_place (ObjectPlace.Single object) j q = absurd cc
at_place (ObjectPlace.Element object length index) j q = at_index object length index j q

join_is : (body : Statement) (j : Joined) → joined_by body ≡ Some j → IsJoin body j
join_is (Statement.Thread offset (ThreadCall.Join place)) j q =
    let at = at_place place j q in
    record { offset = offset; ty = at.ty; opens = λ k rest. ap (λ p. Work.Do (joining offset p) ∷ k) at.is }
join_is st j q = absurd cc

pub body_is : (body : Statement) (j : Joined) → join_of body ≡ Some j → IsJoin body j
body_is (Statement.Block body) j q = let is = join_is body j q in record { offset = is.offset; ty = is.ty; opens = is.opens }
body_is body j q = join_is body j q

join_array : (P : Program) (f : Function) (b : Around) (body : Statement) (j : Joined) → joined_by body ≡ Some j → IsStatement P f b body → threads_at P j.object ≡ Some j.length
join_array P f b (Statement.Thread offset (ThreadCall.Join place)) j q is =
    let at = at_place place j q in
    let there : IsStatement P f b (joining offset (ObjectPlace.Element j.object j.length (Expression.Variable Automatic j.index at.ty))) =
    subst (λ p. IsStatement P f b (joining offset p)) at.is is in
    there.0
join_array P f b st j q is = absurd cc

-- the array is declared so
pub body_array : (P : Program) (f : Function) (b : Around) (body : Statement) (j : Joined) → join_of body ≡ Some j → IsStatement P f b body → threads_at P j.object ≡ Some j.length
body_array P f b (Statement.Block body) j q is = join_array P f (within b) body j q is
body_array P f b body j q is = join_array P f b body j q is

-- ---- the counter

-- if it has a value, it is this one
abbrev pub Knows : ℕ → ℕ → List (List (Option ℤ)) → Type 0
Knows i v locals = (z : ℤ) → element locals i 0 ≡ Some (Some z) → z ≡ pos v

-- what stands in an element that is written
written_there : {A : Type 0} (rows : List (List A)) (x j : ℕ) (v w : A) → element (with_element rows x j v) x j ≡ Some w → v ≡ w
written_there rows x j v w e = go (slice_get rows x) refl e
  where
    in_row : (row : List _) (k : ℕ) → slice_get (slice_set row k v) k ≡ Some w → v ≡ w
    in_row [] k q = absurd cc
    in_row (y ∷ row) zero q = cc
    in_row (y ∷ row) (suc k) q = in_row row k q

    in_rows : (rs : List (List _)) (k : ℕ) (row : List _) → row_element (slice_get (slice_set rs k (slice_set row j v)) k) j ≡ Some w → v ≡ w
    in_rows [] k row q = absurd cc
    in_rows (r ∷ rs) zero row q = in_row row j q
    in_rows (r ∷ rs) (suc k) row q = in_rows rs k row q

    go : (o : Option (List _)) → slice_get rows x ≡ o → row_element (slice_get (with_row rows x o j v) x) j ≡ Some w → v ≡ w
    go None q r = let no = sym (ap (λ o. row_element o j) q) ∙ r in absurd cc
    go (Some row) q r = in_rows rows x row r

knows_written : (locals : List (List (Option ℤ))) (x i : ℕ) (u : ℤ) (v : ℕ) → x ≡ i → u ≡ pos v → Knows i v (with_element locals x 0 (Some u))
knows_written locals x i u v same is z e =
    let there : Some u ≡ Some z = written_there locals x 0 (Some u) (Some z) (subst (λ k. element (with_element locals x 0 (Some u)) k 0 ≡ Some (Some z)) (sym same) e) in
    let here : u ≡ z = cc in
    sym here ∙ is

-- ---- the values of its steps

-- a constant of that value, in each memory
constant_value : (n : ℕ) (e : Expression) (m : Memory) → is_constant n e ≡ true → value e m ≡ Gives (pos n) []
constant_value n e m c = go (value e nothing) c (constantly e m)
  where
    go : (v : Evaluation ℤ) → is_value n v ≡ true → IsConstantly v (value e m) → value e m ≡ Gives (pos n) []
    go (Gives z reads) q k = k ∙ ap (λ (x : ℤ). Gives x []) ((Decides-int_eq z (pos n)).0 q)
    go (Fails cause) q k = absurd (false≢true q)

-- the counter's value, or none
counter_value : (m : Memory) (i v : ℕ) → Knows i v m.locals → (load m Automatic i 0 ≡ Gives (pos v) []) ⊎ ((cause : UndefinedCause) × (load m Automatic i 0 ≡ Fails cause))
counter_value m i v knows = go (element m.locals i 0) refl
  where
    go : (o : Option (Option ℤ)) → element m.locals i 0 ≡ o → (local_value o ≡ Gives (pos v) []) ⊎ ((cause : UndefinedCause) × (local_value o ≡ Fails cause))
    go (Some (Some z)) e = inl (ap (λ (x : ℤ). Gives x []) (knows z e))
    go (Some None) e = inr (_, refl)
    go None e = inr (_, refl)

-- ---- its moves

module _ (P : Program) (IsMet : Seen → Type 0) (w : Walker) where
  -- where the thread is in the loop, in which so many threads of the array are joined
  pub data IsStage (loop : Loop) (rest : List Work) (thread counter length value : ℕ) (f : Frame) : Type 0 where
    Asks : (is : f.work ≡ to_ask loop rest) (knows : Knows counter value f.locals) → IsStage loop rest thread counter length value f
    Joins : (offset : ℕ) (ty : IntegerType)
        (is : f.work ≡ Work.Do (Statement.Thread offset (ThreadCall.Join (ObjectPlace.Element thread length (Expression.Variable Automatic counter ty)))) ∷ Work.Next loop ∷ rest)
        (knows : Knows counter value f.locals) (less : value < length) → IsStage loop rest thread counter length value f
    Performs : (offset : ℕ) (is : f.work ≡ Work.Perform offset Act.Join ∷ Work.Next loop ∷ rest) (kept : f.kept ≡ pos (first_thread P thread + value) ∷ [])
        (knows : Knows counter value f.locals) (less : value < length) → IsStage loop rest thread counter length value f
    Counts : (old : ℕ) (next : value ≡ suc old) (is : f.work ≡ Work.Do loop.last ∷ to_ask loop rest) (knows : Knows counter old f.locals) →
        IsStage loop rest thread counter length value f

  pub record IsJoining (fs : List Frame) (f : Frame) (a : Sets) : Type 0 where
    pub code : Function
    pub found : slice_get P.functions f.function ≡ Some code
    pub depth : ℕ
    pub condition : Statement
    pub last : Statement
    pub body : Statement
    pub rest : List Work
    pub thread : ℕ
    pub counter : ℕ
    pub length : ℕ
    pub bounded : is_bounded counter length condition ≡ true
    pub counts : counts_up counter last ≡ true
    pub joins : join_of body ≡ Some (record { object = thread; length = length; index = counter })
    pub array : threads_at P thread ≡ Some length
    pub short : length < 128
    pub value : ℕ
    pub within : value ≤ length
    pub main : w.main ≡ true
    pub stage : IsStage (for_loop condition last body) rest thread counter length value f
    pub later : Weak (Good P IsMet w (calls_within P.functions depth) (walk_within w P.functions depth) (AreCallers P IsMet w fs) code rest Onward) (joined_in a thread)

  -- what a step of such a thread is
  pub data IsJoinMove (fs : List Frame) (f : Frame) (a : Sets) (x : IsJoining fs f a) (mv : Move) : Type 0 where
    Same : (g : Frame) (y : IsJoining fs g a) (thread : y.thread ≡ x.thread) (value : y.value ≡ x.value) (is : mv ≡ Move.Moves (g ∷ fs) [] None) → IsJoinMove fs f a x mv
    Unites : (g : Frame) (y : IsJoining fs g a) (thread : y.thread ≡ x.thread) (value : y.value ≡ suc x.value) (offset : ℕ)
        (is : mv ≡ Move.Acts offset Act.Join (pos (first_thread P x.thread + x.value) ∷ []) (g ∷ fs)) → IsJoinMove fs f a x mv
    Over : (frames : List Frame) (all : x.value ≡ x.length) (calls : Weak (AreCalls P IsMet w frames) (joined_in a x.thread)) (is : mv ≡ Move.Moves frames [] None) →
        IsJoinMove fs f a x mv
    Stops : (offset : ℕ) (cause : UndefinedCause) (is : mv ≡ Move.Faults offset cause) → IsJoinMove fs f a x mv

  -- the values that its steps compute
  module _ (m : Memory) (i v : ℕ) (knows : Knows i v m.locals) (small : v < 128) where
    -- the counter against a constant
    compared : (n x : ℕ) (ty t : IntegerType) (right : Expression) → x ≡ i → n < 128 → is_constant n right ≡ true →
        (value (Expression.Binary Less ty (Expression.Variable Automatic x t) right) m ≡ Gives (pos (bit_of (nat_lt v n))) [])
        ⊎ ((cause : UndefinedCause) × (value (Expression.Binary Less ty (Expression.Variable Automatic x t) right) m ≡ Fails cause))
    compared n x ty t right same less c =
        ⊎_elim
        (λ there. inl (both (ap (λ k. load m Automatic k 0) same ∙ there)))
        (λ none. inr (none.0, ap (λ e. and_then e (λ a. and_then (value right m) (λ b. binary_value Less ty a b))) (ap (λ k. load m Automatic k 0) same ∙ none.1)))
        (counter_value m i v knows)
      where
        both : load m Automatic x 0 ≡ Gives (pos v) [] → value (Expression.Binary Less ty (Expression.Variable Automatic x t) right) m ≡ Gives (pos (bit_of (nat_lt v n))) []
        both there =
            ap (λ e. and_then e (λ a. and_then (value right m) (λ b. binary_value Less ty a b))) there
            ∙ ap (λ e. after_reads [] (and_then e (λ b. binary_value Less ty (pos v) b))) (constant_value n right m c)
            ∙ ap (λ z. Gives (less_of z (wrapped ty (pos n))) []) (small_wrapped ty v small)
            ∙ ap (λ z. Gives (less_of (pos v) z) []) (small_wrapped ty n less)

    -- the number of the thread that is joined
    numbered : (thread length : ℕ) (ty : IntegerType) → v < length →
        (object_number (first_thread P) (ObjectPlace.Element thread length (Expression.Variable Automatic i ty)) m ≡ Gives (pos (first_thread P thread + v)) [])
        ⊎ ((cause : UndefinedCause) × (object_number (first_thread P) (ObjectPlace.Element thread length (Expression.Variable Automatic i ty)) m ≡ Fails cause))
    numbered thread length ty less =
        ⊎_elim
        (λ there. inl (ap (λ e. and_then e (λ z. and_then (checked_index length z) (λ j. Gives (pos (first_thread P thread + j)) []))) there
        ∙ ap (λ (b : Bool). after_reads [] (and_then (if b then Gives v [] else Fails Index) (λ j. Gives (pos (first_thread P thread + j)) []))) (lt-ltb v length less)))
        (λ none. inr (none.0, ap (λ e. and_then e (λ z. and_then (checked_index length z) (λ j. Gives (pos (first_thread P thread + j)) []))) none.1))
        (counter_value m i v knows)

    -- the step of its condition
    compare_move : (condition : Statement) (n : ℕ) (f : Frame) (fs : List Frame) (loop : Loop) (k : List Work) → is_bounded i n condition ≡ true → n < 128 →
        (statement_move P m f fs (Work.Turn loop ∷ k) condition
        ≡ Move.Moves (record f { work = decided (nat_lt v n) (Work.Turn loop ∷ k); kept = [] } ∷ fs) [] None)
        ⊎ ((offset : ℕ) × (cause : UndefinedCause) × (statement_move P m f fs (Work.Turn loop ∷ k) condition ≡ Move.Faults offset cause))
    compare_move (Statement.Test offset (Expression.Binary Less ty (Expression.Variable Automatic x t) right)) n f fs loop k bounded less =
        let both = and_parts (nat_eq x i) (is_constant n right) bounded in
        let to : Bool → List Work = λ b. decided b (Work.Turn loop ∷ k) in
        ⊎_elim
        (λ gives. inl (ap (λ e. moving offset e (λ z reads. Move.Moves (record f { work = to (not (is_zero z)); kept = [] } ∷ fs) reads None)) gives
        ∙ ap (λ (b : Bool). Move.Moves (record f { work = to b; kept = [] } ∷ fs) [] None) (truth (nat_lt v n))))
        (λ fails. inr (offset, fails.0, ap (λ e. moving offset e (λ z reads. Move.Moves (record f { work = to (not (is_zero z)); kept = [] } ∷ fs) reads None)) fails.1))
        (compared n x ty t right (eqb-true x i both.0) less both.1)
      where
        truth : (b : Bool) → not (is_zero (pos (bit_of b))) ≡ b
        truth true = refl
        truth false = refl
    compare_move condition n f fs loop k bounded less = absurd (false≢true bounded)

    -- the step of its body
    join_move : (offset thread length : ℕ) (ty : IntegerType) (f : Frame) (fs : List Frame) (k : List Work) → v < length →
        (statement_move P m f fs k (Statement.Thread offset (ThreadCall.Join (ObjectPlace.Element thread length (Expression.Variable Automatic i ty))))
        ≡ Move.Moves (record f { work = Work.Perform offset Act.Join ∷ k; kept = pos (first_thread P thread + v) ∷ [] } ∷ fs) [] None)
        ⊎ ((cause : UndefinedCause) ×
        (statement_move P m f fs k (Statement.Thread offset (ThreadCall.Join (ObjectPlace.Element thread length (Expression.Variable Automatic i ty)))) ≡ Move.Faults offset cause))
    join_move offset thread length ty f fs k less =
        ⊎_elim
        (λ gives. inl (ap (λ e. prepared offset Act.Join (alone e) f fs k) gives))
        (λ fails. inr (fails.0, ap (λ e. prepared offset Act.Join (alone e) f fs k) fails.1))
        (numbered thread length ty less)

    sum_small : (ty : IntegerType) (n : ℕ) → n < 128 → result_of Overflow ty (pos n) ≡ Ok (pos n)
    unfolding result_of
    sum_small ty n less = go ty.signed
      where
        go : (b : Bool) → (if b then (if in_range ty (pos n) then Ok (pos n) else Err Overflow) else Ok (wrapped ty (pos n))) ≡ Ok (pos n)
        go true = ap (λ (c : Bool). if c then Ok (pos n) else Err Overflow) (small_fits ty n less)
        go false = ap (λ z. Ok z) (small_wrapped ty n less)

    -- the counter and one
    counted : (ty : IntegerType) → suc v < 128 → binary_value Add ty (pos v) (pos 1) ≡ Gives (pos (suc v)) []
    counted ty less =
        let more : v + 1 ≡ suc v = omega arith in
        let tiny : 1 < 128 = omega arith in
        ap (λ (z : ℤ). calculated (result_of Overflow ty (z +ℤ wrapped ty (pos 1)))) (small_wrapped ty v small)
        ∙ ap (λ (z : ℤ). calculated (result_of Overflow ty (pos v +ℤ z))) (small_wrapped ty 1 tiny)
        ∙ ap (λ (n : ℕ). calculated (result_of Overflow ty (pos n))) more
        ∙ ap (λ r. calculated r) (sum_small ty (suc v) less)

    -- the step that counts
    count_add : (offset : ℕ) (ty : IntegerType) (place : Place) (e : Expression) (f : Frame) (fs : List Frame) (k : List Work) → f.locals ≡ m.locals →
        (is_scalar i place && is_number (pos 1) e) ≡ true → suc v < 128 →
        ((g : Frame) × (statement_move P m f fs k (Statement.Update offset place Add ty e) ≡ Move.Moves (g ∷ fs) [] None) × (g.function ≡ f.function) × (g.work ≡ settled Onward k) × Knows i (suc v) g.locals)
        ⊎ ((o : ℕ) × (cause : UndefinedCause) × (statement_move P m f fs k (Statement.Update offset place Add ty e) ≡ Move.Faults o cause))
    count_add offset ty (Place.Scalar Automatic x t) (Expression.Constant u z) f fs k same up less =
        let both = and_parts (nat_eq x i) (int_eq z (pos 1)) up in
        let one : z ≡ pos 1 = (Decides-int_eq z (pos 1)).0 both.1 in
        let here : x ≡ i = eqb-true x i both.0 in
        ⊎_elim
        (λ there. inl (
          record (going_on f k) { locals = with_element f.locals x 0 (Some (wrapped t (pos (suc v)))) },
          ap (λ e. stored offset (after_reads [] (after_reads [] (and_then e (λ old. and_then (binary_value Add ty old z) (λ r. Gives (record { target = target x t; value = r }) []))))) f fs k)
              (ap (λ j. load m Automatic j 0) here ∙ there)
              ∙ ap (λ y. stored offset (after_reads [] (after_reads [] (after_reads [] (and_then (binary_value Add ty (pos v) y) (λ r. Gives (record { target = target x t; value = r }) []))))) f fs k) one
              ∙ ap (λ e. stored offset (after_reads [] (after_reads [] (after_reads [] (and_then e (λ r. Gives (record { target = target x t; value = r }) []))))) f fs k) (counted ty less),
          refl,
          refl,
          knows_written f.locals x i (wrapped t (pos (suc v))) (suc v) here (small_wrapped t (suc v) less),
        ))
        (λ none. inr (
          offset,
          none.0,
          ap (λ e. stored offset (after_reads [] (after_reads [] (and_then e (λ old. and_then (binary_value Add ty old z) (λ r. Gives (record { target = target x t; value = r }) []))))) f fs k)
              (ap (λ j. load m Automatic j 0) here ∙ none.1),
        ))
        (counter_value m i v knows)
      where
        target : ℕ → IntegerType → Target
        target x t = record { storage = Automatic; variable = x; index = 0; ty = t }
    count_add offset ty (Place.Scalar Automatic x t) e f fs k same up less = absurd (false≢true (and_parts (nat_eq x i) (is_number (pos 1) e) up).1)
    count_add offset ty place e f fs k same up less = absurd (false≢true (and_parts (is_scalar i place) (is_number (pos 1) e) up).0)

    count_move : (last : Statement) (f : Frame) (fs : List Frame) (k : List Work) → f.locals ≡ m.locals → counts_up i last ≡ true → suc v < 128 →
        ((g : Frame) × (statement_move P m f fs k last ≡ Move.Moves (g ∷ fs) [] None) × (g.function ≡ f.function) × (g.work ≡ settled Onward k) × Knows i (suc v) g.locals)
        ⊎ ((offset : ℕ) × (cause : UndefinedCause) × (statement_move P m f fs k last ≡ Move.Faults offset cause))
    count_move (Statement.Update offset place Add ty e) f fs k same up less = count_add offset ty place e f fs k same up less
    count_move last f fs k same up less = absurd (false≢true up)

  -- the same loop at another point
  at_stage : (fs : List Frame) (f g : Frame) (a : Sets) (x : IsJoining fs f a) → g.function ≡ f.function → (v : ℕ) → v ≤ x.length →
      IsStage (for_loop x.condition x.last x.body) x.rest x.thread x.counter x.length v g → IsJoining fs g a
  at_stage fs f g a x same v within stage = record {
    code = x.code;
    found = ap (λ (n : ℕ). slice_get P.functions n) same ∙ x.found;
    depth = x.depth;
    condition = x.condition;
    last = x.last;
    body = x.body;
    rest = x.rest;
    thread = x.thread;
    counter = x.counter;
    length = x.length;
    bounded = x.bounded;
    counts = x.counts;
    joins = x.joins;
    array = x.array;
    short = x.short;
    value = v;
    within = within;
    main = x.main;
    stage = stage;
    later = x.later;
  }

  -- nothing comes before its condition is asked
  pub asks_next : (condition last body : Statement) (rest : List Work) (i n : ℕ) → is_bounded i n condition ≡ true →
      settled Onward (to_ask (for_loop condition last body) rest) ≡ to_ask (for_loop condition last body) rest
  asks_next condition last body rest i n q =
      bounded_opens condition i n (Work.Turn (for_loop condition last body) ∷ rest) (λ going. settled going (Work.Turn (for_loop condition last body) ∷ rest)) q

  counts_open : (i : ℕ) (st : Statement) (k : List Work) (rest : Going → List Work) → counts_up i st ≡ true → opened st k rest ≡ Work.Do st ∷ k
  counts_open i (Statement.Update offset place operator ty e) k rest up = refl
  counts_open i st k rest up = absurd (false≢true up)

  -- the step of a thread in a join loop
  pub joining_moves : (resolved : IsResolved P) (bounded : IsMet TooDeep → ⊥) (globals : List (List ℤ)) (fs : List Frame) (f : Frame) (a : Sets) (x : IsJoining fs f a) →
      IsJoinMove fs f a x (work_move P (record { locals = f.locals; globals = globals }) f fs f.work)
  unfolding at_stage
  joining_moves resolved bounded globals fs f a x = go x.stage
    where
      moved_as : (k : List Work) (mv : Move) → f.work ≡ k → work_move P (record { locals = f.locals; globals = globals }) f fs k ≡ mv →
          work_move P (record { locals = f.locals; globals = globals }) f fs f.work ≡ mv
      moved_as k mv is e = ap (λ q. work_move P (record { locals = f.locals; globals = globals }) f fs q) is ∙ e

      asks : (b : Bool) → nat_lt x.value x.length ≡ b → f.work ≡ to_ask (for_loop x.condition x.last x.body) x.rest → Knows x.counter x.value f.locals →
          work_move P (record { locals = f.locals; globals = globals }) f fs f.work
          ≡ Move.Moves (record f { work = decided b (Work.Turn (for_loop x.condition x.last x.body) ∷ x.rest); kept = [] } ∷ fs) [] None →
          IsJoinMove fs f a x (work_move P (record { locals = f.locals; globals = globals }) f fs f.work)
      asks true q is knows e =
          let j = body_is x.body (record { object = x.thread; length = x.length; index = x.counter }) x.joins in
          let less : x.value < x.length = ltb-true x.value x.length q in
          let g : Frame = record f { work = settled Onward (Work.Do x.body ∷ Work.Next (for_loop x.condition x.last x.body) ∷ x.rest); kept = [] } in
          Same g
          (at_stage fs f g a x refl x.value x.within
          (Joins j.offset j.ty
          (j.opens (Work.Next (for_loop x.condition x.last x.body) ∷ x.rest) (λ going. settled going (Work.Next (for_loop x.condition x.last x.body) ∷ x.rest))) knows less))
          refl refl e
      asks false q is knows e =
          let over : x.length ≤ x.value = ltb-false x.value x.length q in
          let within = x.within in
          let g : Frame = record f { work = settled Onward x.rest; kept = [] } in
          Over (g ∷ fs) (omega (arith, over, within))
          (goes_on P resolved IsMet bounded w x.depth x.code g fs x.rest (joined_in a x.thread) x.found refl x.later) e

      go : IsStage (for_loop x.condition x.last x.body) x.rest x.thread x.counter x.length x.value f →
          IsJoinMove fs f a x (work_move P (record { locals = f.locals; globals = globals }) f fs f.work)
      go (Asks is knows) =
          let short = x.short in
          let within = x.within in
          ⊎_elim
          (λ e. asks (nat_lt x.value x.length) refl is knows (moved_as (to_ask (for_loop x.condition x.last x.body) x.rest) _ is e))
          (λ e. Stops e.0 e.1 (moved_as (to_ask (for_loop x.condition x.last x.body) x.rest) _ is e.2))
          (compare_move (record { locals = f.locals; globals = globals }) x.counter x.value knows (omega (arith, short, within)) x.condition x.length f fs
          (for_loop x.condition x.last x.body) x.rest x.bounded x.short)
      go (Joins offset ty is knows less) =
          let short = x.short in
          let g : Frame = record f { work = Work.Perform offset Act.Join ∷ Work.Next (for_loop x.condition x.last x.body) ∷ x.rest; kept = pos (first_thread P x.thread + x.value) ∷ [] } in
          ⊎_elim
          (λ e. Same g (at_stage fs f g a x refl x.value x.within (Performs offset refl refl knows less)) refl refl (moved_as _ _ is e))
          (λ e. Stops offset e.0 (moved_as _ _ is e.1))
          (join_move (record { locals = f.locals; globals = globals }) x.counter x.value knows (omega (arith, short, less)) offset x.thread x.length ty f fs
          (Work.Next (for_loop x.condition x.last x.body) ∷ x.rest) less)
      go (Performs offset is kept knows less) =
          let g : Frame = going_on f (Work.Next (for_loop x.condition x.last x.body) ∷ x.rest) in
          Unites g
          (at_stage fs f g a x refl (suc x.value) less
          (Counts x.value refl
          (counts_open x.counter x.last (to_ask (for_loop x.condition x.last x.body) x.rest)
          (λ going. in_order going (asked_loop (for_loop x.condition x.last x.body) x.rest (λ h. settled h x.rest)) (λ h. settled h x.rest)) x.counts) knows))
          refl refl offset
          (moved_as _ _ is (ap (λ (vs : List ℤ). Move.Acts offset Act.Join vs (g ∷ fs)) kept))
      go (Counts old next is knows) =
          let short = x.short in
          let within = x.within in
          ⊎_elim
          (λ e. Same e.0
          (at_stage fs f e.0 a x e.2 x.value x.within
          (Asks (e.3 ∙ asks_next x.condition x.last x.body x.rest x.counter x.length x.bounded) (subst (λ n. Knows x.counter n e.0.locals) (sym next) e.4))) refl refl
          (moved_as _ _ is e.1))
          (λ e. Stops e.0 e.1 (moved_as _ _ is e.2))
          (count_move (record { locals = f.locals; globals = globals }) x.counter old knows (omega (arith, short, within, next)) x.last f fs
          (to_ask (for_loop x.condition x.last x.body) x.rest) refl x.counts (omega (arith, short, within, next)))

  -- the step that sets the counter
  zero_place : (m : Memory) (i offset : ℕ) (place : Place) (e : Expression) (f : Frame) (fs : List Frame) (k : List Work) → (is_scalar i place && is_number (pos 0) e) ≡ true →
      (g : Frame) × (statement_move P m f fs k (Statement.Assign offset place e) ≡ Move.Moves (g ∷ fs) [] None) × (g.function ≡ f.function)
      × (g.work ≡ settled Onward k) × Knows i 0 g.locals
  zero_place m i offset (Place.Scalar Automatic x t) (Expression.Constant u z) f fs k zero_is =
      let both = and_parts (nat_eq x i) (int_eq z (pos 0)) zero_is in
      let none : z ≡ pos 0 = (Decides-int_eq z (pos 0)).0 both.1 in
      let tiny : 0 < 128 = omega arith in (
        record (going_on f k) { locals = with_element f.locals x 0 (Some (wrapped t z)) },
        refl,
        refl,
        refl,
        knows_written f.locals x i (wrapped t z) 0 (eqb-true x i both.0) (ap (λ y. wrapped t y) none ∙ small_wrapped t 0 tiny),
      )
  zero_place m i offset (Place.Scalar Automatic x t) e f fs k zero_is = absurd (false≢true (and_parts (nat_eq x i) (is_number (pos 0) e) zero_is).1)
  zero_place m i offset place e f fs k zero_is = absurd (false≢true (and_parts (is_scalar i place) (is_number (pos 0) e) zero_is).0)

  pub zero_move : (m : Memory) (i : ℕ) (first : Statement) (f : Frame) (fs : List Frame) (k : List Work) → begins_at_zero i first ≡ true →
      (g : Frame) × (statement_move P m f fs k first ≡ Move.Moves (g ∷ fs) [] None) × (g.function ≡ f.function) × (g.work ≡ settled Onward k) × Knows i 0 g.locals
  zero_move m i (Statement.Assign offset place e) f fs k zero_is = zero_place m i offset place e f fs k zero_is
  zero_move m i first f fs k zero_is = absurd (false≢true zero_is)

  -- the length of an array of threads is at most their number
  object_length : (os : List ThreadObject) (x : ℕ) (o : ThreadObject) → slice_get os x ≡ Some o → o.length ≤ sum_by (λ (y : ThreadObject). y.length) os
  object_length [] x o e = absurd cc
  object_length (p ∷ os) zero o e =
      let same : p ≡ o = cc in
      let whole = sum_by-cons (λ (y : ThreadObject). y.length) p os in
      let long : p.length ≡ o.length = ap (λ (y : ThreadObject). y.length) same in
      omega (arith, whole, long)
  object_length (p ∷ os) (suc x) o e =
      let whole = sum_by-cons (λ (y : ThreadObject). y.length) p os in
      let rest = object_length os x o e in
      omega (arith, whole, rest)

  pub array_short : (x l : ℕ) → threads_at P x ≡ Some l → thread_ids P ≤ 63 → l < 128
  array_short x l e few = go (slice_get P.threads x) refl e
    where
      go : (o : Option ThreadObject) → slice_get P.threads x ≡ o → thread_length o ≡ Some l → l < 128
      go None q r = absurd cc
      go (Some o) q r =
          let long : o.length ≡ l = cc in
          let least = object_length P.threads x o q in
          omega (arith, long, least, few)
