-- The arguments of a call go to the homes of its parameters.
use Rattle.std.proofs.Common.{◌≡◌, ℕ, suc, ◌-◌, ◌<◌, ◌≤◌, List, [], ◌∷◌, ◌++◌, length, ℤ, Option, Some, None, refl, sym, ap, ◌∙◌, subst, ⊎_elim, arith, append-nil, append_assoc}
use Rattle.std.proofs.Common.{take, drop, get_or}
use Rattle.std.specs.Prelude.{slice_get}
use Rattle.std.proofs.lemmas.List.{length-set}
use Rattle.std.proofs.lemmas.List.Sums.{sum_by-cons}
use Rattle.lists.proofs.Places.{set_other, set_same, set_element}
use Rattle.hls_ints.specs.Types.{IntegerType, wrapped}
use Rattle.c_program.specs.declared.tree.Expression.{Expression as ExpressionTree}
use Rattle.c_program.specs.declared.tree.LocalVariable.{LocalVariable}
use Rattle.c_program.specs.Plain.{expression_of, expressions_of}
use Rattle.c_program.specs.Tree.{Expression}
use Rattle.c_program.specs.Weight.{expression_weight}
use Rattle.thread_semantics.specs.Memory.{Location, Memory, Gives, and_then}
use Rattle.thread_semantics.specs.Value.{value, values}
use Rattle.block_ir.specs.declared.operand.Operand.{Operand}
use Rattle.block_ir.specs.Run.{Running, operand_value, operations_run}
use Rattle.code_blocks.specs.declared.homes.Home.{Home}
use Rattle.code_blocks.specs.declared.homes.Home.TheVariants as home
use Rattle.code_blocks.specs.declared.open_block.OpenBlock.{OpenBlock}
use Rattle.code_blocks.specs.Needs.{IsBelow, AreBelow}
use Rattle.code_blocks.specs.Evaluating.{current_value, local_value, Holds, Evaluates, held_by}
use Rattle.code_blocks.specs.Closing.{HasNoted}
use Rattle.code_blocks.specs.Assigning.{IsHomed, HaveHomes}
use Rattle.code_blocks.specs.Typing.{Typing, IsTypedHome, IsTypedOpen}
use Rattle.code_following.specs.Typed.{IsTypedOperand}
use Rattle.code_blocks.specs.Passing.{PutsThere, IsPassed, ArePassed, IsReady, Passed, Passes, WorksOnArguments}
use Rattle.code_blocks.proofs.Cells.{row_of}
use Rattle.code_blocks.proofs.OperationRuns.{parts, run_append, reads_none, reads_both}
use Rattle.code_blocks.proofs.Stores.{conversion_right}
use Rattle.code_blocks.proofs.Steps.{gives_is, fits_on, hold_on, read_held, length_on}
use Rattle.code_blocks.proofs.Puts.{same_source, rest_is}
use Rattle.code_blocks.proofs.TypedExpressions.{operand_converted}
use Rattle.code_blocks.proofs.TypedAssignments.{variable_stored}

-- what the block has once a value is put
pub record IsPut (h : Home) (ty : IntegerType) (a : Operand) (old new : OpenBlock) : Type 0 where
  pub operations : new.operations ≡ old.operations
  pub size : length new.current ≡ length old.current
  pub steps : new.steps ≡ old.steps
  pub noted : HasNoted old → HasNoted new
  pub below : (k : ℕ) → IsBelow k a → AreBelow k old.current → AreBelow k new.current
  pub other : (i : ℕ) → (h ≡ home.Variable i → ⊥) → slice_get new.current i ≡ slice_get old.current i
  pub there : (variables : ℕ → ℤ) (vs : List ℤ) (v : ℤ) → ((n : ℕ) → h ≡ home.Variable n → n < length old.current) → operand_value variables vs a ≡ v →
      IsPassed (held_by new.current variables vs) h (wrapped ty v)

is_put : (h : Home) (ty : IntegerType) (a : Operand) (old new : OpenBlock) → PutsThere h ty a old new → IsPut h ty a old new
is_put (home.Variable n) ty a old new p = record {
  operations = p.operations;
  size = ap length p.current ∙ length-set old.current n (Some p.stored);
  steps = p.steps;
  noted = p.noted;
  below = λ k under fits x o e.
      ⊎_elim
      (λ q. let same : o ≡ p.stored = cc in subst (IsBelow k) (sym same) (same_source k a p.stored p.converted.source under))
      (λ q. fits x o q.1)
      (set_element old.current n x (Some p.stored) (Some o) (ap (λ c. slice_get c x) (sym p.current) ∙ e));
  other = λ i apart. ap (λ c. slice_get c i) p.current ∙ set_other old.current n i (Some p.stored) (λ same. apart (ap home.Variable (sym same)));
  there = λ variables vs v known is.
      ap (λ c. current_value (slice_get c n) variables vs n) p.current
      ∙ ap (λ o. current_value o variables vs n) (set_same old.current n (Some p.stored) (known n refl))
      ∙ conversion_right variables vs ty a p.stored v p.converted is;
}
is_put (home.Array c) ty a old new p = record {
  operations = ap (λ (z : OpenBlock). z.operations) p;
  size = ap (λ (z : OpenBlock). length z.current) p;
  steps = ap (λ (z : OpenBlock). z.steps) p;
  noted = λ h. subst HasNoted (sym p) h;
  below = λ k under fits. subst (λ (z : OpenBlock). AreBelow k z.current) (sym p) fits;
  other = λ i apart. ap (λ (z : OpenBlock). slice_get z.current i) p;
  there = λ variables vs v known is. tt;
}

pub passed_none : (held : ℕ → ℤ) (room : List Home) (locals : List LocalVariable) → ArePassed held room locals []
passed_none held [] locals = tt
passed_none held (h ∷ room) [] = tt
passed_none held (h ∷ room) (l ∷ locals) = tt

nothing_passed : (homes room : List Home) (locals : List LocalVariable) (b : OpenBlock) → Passes homes room locals [] b b
nothing_passed homes room locals b = record {
  operations = [];
  added = sym (append-nil b.operations);
  size = refl;
  steps = refl;
  noted = λ h. h;
  below = λ fits. fits;
  does = λ variables r m vs ls fits len homed ready long longer holds is.
      let g = gives_is [] vs ls is in
      record {
        reads = reads_none r ls g.1;
        holds = holds;
        passed = subst (ArePassed (held_by b.current variables r.values) room locals) g.0 (passed_none (held_by b.current variables r.values) room locals);
        spares = λ size. record { variables_ = λ n lt none. refl; arrays_ = λ a none. refl };
      };
}

-- too few homes or locals
short_passed : (homes room : List Home) (locals : List LocalVariable) (es : List Expression) (b : OpenBlock) → (length es ≤ length room → length es ≤ length locals → ⊥) →
    Passes homes room locals es b b
short_passed homes room locals es b short = record {
  operations = [];
  added = sym (append-nil b.operations);
  size = refl;
  steps = refl;
  noted = λ h. h;
  below = λ fits. fits;
  does = λ variables r m vs ls fits len homed ready long longer holds is. absurd (short long longer);
}

module _ (homes : List Home) (h : Home) (room : List Home) (l : LocalVariable) (locals : List LocalVariable) (e : Expression) (es : List Expression) (old mid put new : OpenBlock) (a : Operand)
    (first : Evaluates homes e old mid a) (puts : PutsThere h l.ty a mid put) (rest : Passes homes room locals es put new) where
  is : IsPut h l.ty a mid put
  is = is_put h l.ty a mid put puts

  long : length mid.current ≡ length old.current
  long = ap (λ (z : OpenBlock). length z.current) first.added

  put_below : AreBelow (length old.operations) old.current → AreBelow (length put.operations) put.current
  put_below fits =
      subst (λ os. AreBelow (length os) put.current) (sym is.operations)
      (is.below (length mid.operations) (first.below fits) (fits_on homes old mid first.operations first.added fits))

  module _ (variables : ℕ → ℤ) (r : Running) (m : Memory) (vs : List ℤ) (ls : List Location) (fits : AreBelow (length old.operations) old.current) (len : length r.values ≡ length old.operations)
      (homed : HaveHomes homes (length old.current) m.locals) (ready : IsReady homes (h ∷ room) (length old.current)) (enough : suc (length es) ≤ suc (length room))
      (enough_locals : suc (length es) ≤ suc (length locals)) (holds : Holds homes old.current variables m r) (evaluated : values (e ∷ es) m ≡ Gives vs ls) where
    abbrev s : Running
    s = operations_run variables first.operations r

    abbrev u : Running
    u = operations_run variables rest.operations s

    put_local : (x j : ℕ) (row : List (Option ℤ)) (o : Option Home) → slice_get homes x ≡ o → IsHomed (length old.current) o row →
        local_value o put.current variables s x j ≡ local_value o mid.current variables s x j
    put_local x j row None at fit = absurd fit
    put_local x j row (Some (home.Array c)) at fit = refl
    put_local x j row (Some (home.Variable k)) at fit =
        ap (λ o. current_value o variables s.values k) (is.other k (λ same. ready.spare x 0 k at (ap Some same)))

    pub passed_more : Passed homes (h ∷ room) (l ∷ locals) old.current new.current variables m r u vs ls
    passed_more =
        let p = parts (value e m) (λ v. and_then (values es m) (λ ws. Gives (v ∷ ws) [])) vs ls evaluated in
        let q = parts (values es m) (λ ws. Gives (p.value ∷ ws) []) vs p.rest p.then_ in
        let g = gives_is (p.value ∷ q.value) vs q.rest q.then_ in
        let reads = first.reads variables r m p.value p.first fits len holds p.is in
        let gives = first.gives variables r m p.value p.first fits len holds p.is in
        let all : ls ≡ p.first ++ q.first = p.reads ∙ ap (λ l. p.first ++ l) (q.reads ∙ ap (λ l. q.first ++ l) g.1 ∙ append-nil q.first) in
        let held = hold_on homes old mid first.operations first.added variables r m p.first fits len reads holds in
        let holds_put : Holds homes put.current variables m s = record {
          locals = λ x j v w.
              let at = row_of m.locals x j (Some v) w in
              put_local x j at.0 (slice_get homes x) refl (homed.homed x at.0 at.1) ∙ held.locals x j v w;
          globals = held.globals;
        } in
        let len' : length s.values ≡ length put.operations = length_on homes old mid first.operations first.added variables r len ∙ ap length (sym is.operations) in
        let size : length put.current ≡ length old.current = is.size ∙ long in
        let homed' : HaveHomes homes (length put.current) m.locals = subst (λ n. HaveHomes homes n m.locals) (sym size) homed in
        let ready' : IsReady homes room (length put.current) = record {
          spare = λ x y n v w. ready.spare x (suc y) n v w;
          apart = λ x y n v w. let same : suc x ≡ suc y = ready.apart (suc x) (suc y) n v w in omega arith;
          within = λ y n v. let lt = ready.within (suc y) n v in omega (arith, lt, size);
        } in
        let two = rest.does variables s m q.value q.first (put_below fits) len' homed' ready' (omega arith) (omega arith) holds_put q.is in
        let one = is.there variables s.values p.value (λ n same. let lt = ready.within 0 n (ap Some same) in omega (arith, lt, long)) gives in
        let kept : IsPassed (held_by new.current variables u.values) h (wrapped l.ty p.value) = passed_on two h
        (λ x n at v. let same : 0 ≡ suc x = ready.apart 0 (suc x) n at v in omega arith) (wrapped l.ty p.value) one in
        record {
          reads = reads_both r s u p.first q.first ls reads two.reads all;
          holds = two.holds;
          passed = subst (ArePassed (held_by new.current variables u.values) (h ∷ room) (l ∷ locals)) g.0 (kept, two.passed);
          spares = λ size. record {
            variables_ = λ n lt none.
                (two.spares size).variables_ n lt (λ x at. none (suc x) at)
                ∙ ap (λ o. current_value o variables s.values n) (is.other n (λ same. none 0 (ap Some same)))
                ∙ read_held homes old mid first.operations first.added variables r m p.first fits len reads n;
            arrays_ = λ c none. (two.spares size).arrays_ c (λ x at. none (suc x) at) ∙ ap (λ cells. cells c) reads.arrays;
          };
        }
      where
        passed_on : {ws : List ℤ} {ks : List Location} → Passed homes room locals put.current new.current variables m s u ws ks → (o : Home) →
            ((x n : ℕ) → Some o ≡ Some (home.Variable n) → slice_get room x ≡ Some (home.Variable n) → ⊥) → (w : ℤ) → IsPassed (held_by put.current variables s.values) o w →
            IsPassed (held_by new.current variables u.values) o w
        passed_on two (home.Array c) apart w one = tt
        passed_on two (home.Variable n) apart w one = (two.spares (suc n)).variables_ n (omega arith) (λ x at. apart x n refl at) ∙ one

  pub passes_more : Passes homes (h ∷ room) (l ∷ locals) (e ∷ es) old new
  passes_more = record {
    operations = first.operations ++ rest.operations;
    added =
        rest.added ∙ ap (λ os. os ++ rest.operations) (is.operations ∙ ap (λ (z : OpenBlock). z.operations) first.added)
        ∙ append_assoc old.operations first.operations rest.operations;
    size = rest.size ∙ is.size ∙ long;
    steps = rest.steps ∙ is.steps ∙ ap (λ (z : OpenBlock). z.steps) first.added;
    noted = λ n. rest.noted (is.noted (subst HasNoted (sym first.added) n));
    below = λ fits. rest.below (put_below fits);
    does = λ variables r m vs ls fits len homed ready enough enough_locals holds evaluated.
        subst (λ z. Passed homes (h ∷ room) (l ∷ locals) old.current new.current variables m r z vs ls) (sym (run_append variables first.operations rest.operations r))
        (passed_more variables r m vs ls fits len homed ready enough enough_locals holds evaluated);
  }

-- and their types
put_typed : (h : Home) (l : LocalVariable) (a : Operand) (old new : OpenBlock) (S : Typing) → PutsThere h l.ty a old new → IsTypedHome S.types l (Some h) →
    IsTypedOperand S.types old.operations a → IsTypedOpen S.types old → IsTypedOpen S.types new
put_typed (home.Variable n) l a old new S p at typed open_ =
    variable_stored S.types n l.ty p.stored old new p.operations p.current at (operand_converted S.types l.ty old.operations a p.stored p.converted typed) p.converted.type open_
put_typed (home.Array c) l a old new S p at typed open_ = subst (IsTypedOpen S.types) (sym p) open_

works_more : (homes : List Home) (h : Home) (room : List Home) (l : LocalVariable) (locals : List LocalVariable) (e : Expression) (es : List Expression) (old mid put new : OpenBlock) (a : Operand) →
    Evaluates homes e old mid a → PutsThere h l.ty a mid put → WorksOnArguments homes room locals es put new → WorksOnArguments homes (h ∷ room) (l ∷ locals) (e ∷ es) old new
works_more homes h room l locals e es old mid put new a first puts rest = record {
  count =
      (let c = first.computes.count in let d = rest.count in let s = sum_by-cons expression_weight e es in let p = ap length (is_put h l.ty a mid put puts).operations in
      omega (arith, c, d, s, p));
  typed = λ S fits is open_.
      let i = first.computes.typed S fits is.0.0 open_ in
      rest.typed S fits (is.0.1, λ x k at. is.1 (suc x) k at) (put_typed h l a mid put S puts (is.1 0 l refl) i.operand i.block);
}

-- ---- what the code gives

pub arguments_end : (homes room : List Home) (locals : List LocalVariable) (trees : List ExpressionTree) (b : OpenBlock) → length trees < 1 → Passes homes room locals (expressions_of trees) b b
arguments_end homes room locals [] b few = nothing_passed homes room locals b
arguments_end homes room locals (e ∷ trees) b few = absurd (omega arith)

pub room_ends : (homes room : List Home) (locals : List LocalVariable) (trees : List ExpressionTree) (b : OpenBlock) → 1 ≤ length trees → length room < 1 →
    Passes homes room locals (expressions_of trees) b b
room_ends homes room locals [] b some few = absurd (omega arith)
room_ends homes room locals (e ∷ trees) b some few = short_passed homes room locals (expressions_of (e ∷ trees)) b (λ one two. omega arith)

pub locals_end : (homes room : List Home) (locals : List LocalVariable) (trees : List ExpressionTree) (b : OpenBlock) → 1 ≤ length trees → length locals < 1 →
    Passes homes room locals (expressions_of trees) b b
locals_end homes room locals [] b some few = absurd (omega arith)
locals_end homes room locals (e ∷ trees) b some few = short_passed homes room locals (expressions_of (e ∷ trees)) b (λ one two. omega arith)

module _ (homes room room' : List Home) (locals locals' : List LocalVariable) (trees trees' : List ExpressionTree) (h other : Home) (l : LocalVariable) (e : ExpressionTree)
    (old mid put new : OpenBlock) (a : Operand)
    (some_trees : 1 ≤ length trees) (some_room : 1 ≤ length room) (some_locals : 1 ≤ length locals) (e_is : e ≡ get_or trees 0 e) (h_is : h ≡ get_or room 0 other) (l_is : l ≡ get_or locals 0 l)
    (trees_are : trees' ≡ take (length trees - 1) (drop 1 trees)) (room_is : room' ≡ take (length room - 1) (drop 1 room)) (locals_are : locals' ≡ take (length locals - 1) (drop 1 locals))
    (first : Evaluates homes (expression_of e) old mid a) (puts : PutsThere h l.ty a mid put) where
  pub one_more : Passes homes room' locals' (expressions_of trees') put new → Passes homes room locals (expressions_of trees) old new
  one_more rest = by room locals trees some_room some_locals some_trees h_is l_is e_is room_is locals_are trees_are
    where
      by : (room : List Home) (locals : List LocalVariable) (trees : List ExpressionTree) → 1 ≤ length room → 1 ≤ length locals → 1 ≤ length trees → h ≡ get_or room 0 other → l ≡ get_or locals 0 l →
          e ≡ get_or trees 0 e → room' ≡ take (length room - 1) (drop 1 room) → locals' ≡ take (length locals - 1) (drop 1 locals) → trees' ≡ take (length trees - 1) (drop 1 trees) →
          Passes homes room locals (expressions_of trees) old new
      by [] locals trees p q s i j k x y z = absurd (omega arith)
      by (h0 ∷ room) [] trees p q s i j k x y z = absurd (omega arith)
      by (h0 ∷ room) (l0 ∷ locals) [] p q s i j k x y z = absurd (omega arith)
      by (h0 ∷ room) (l0 ∷ locals) (e0 ∷ trees) p q s i j k x y z =
          subst (λ w. Passes homes (w ∷ room) (l0 ∷ locals) (expressions_of (e0 ∷ trees)) old new) i
          (subst (λ w. Passes homes (h ∷ room) (w ∷ locals) (expressions_of (e0 ∷ trees)) old new) j
          (subst (λ w. Passes homes (h ∷ room) (l ∷ locals) (expression_of w ∷ expressions_of trees) old new) k
          (passes_more homes h room l locals (expression_of e) (expressions_of trees) old mid put new a first puts
          (subst (λ w. Passes homes w locals (expressions_of trees) put new) (x ∙ rest_is h0 room)
          (subst (λ w. Passes homes room' w (expressions_of trees) put new) (y ∙ rest_is l0 locals)
          (subst (λ w. Passes homes room' locals' (expressions_of w) put new) (z ∙ rest_is e0 trees) rest))))))

  pub one_more_works : WorksOnArguments homes room' locals' (expressions_of trees') put new → WorksOnArguments homes room locals (expressions_of trees) old new
  one_more_works rest = by room locals trees some_room some_locals some_trees h_is l_is e_is room_is locals_are trees_are
    where
      by : (room : List Home) (locals : List LocalVariable) (trees : List ExpressionTree) → 1 ≤ length room → 1 ≤ length locals → 1 ≤ length trees → h ≡ get_or room 0 other → l ≡ get_or locals 0 l →
          e ≡ get_or trees 0 e → room' ≡ take (length room - 1) (drop 1 room) → locals' ≡ take (length locals - 1) (drop 1 locals) → trees' ≡ take (length trees - 1) (drop 1 trees) →
          WorksOnArguments homes room locals (expressions_of trees) old new
      by [] locals trees p q s i j k x y z = absurd (omega arith)
      by (h0 ∷ room) [] trees p q s i j k x y z = absurd (omega arith)
      by (h0 ∷ room) (l0 ∷ locals) [] p q s i j k x y z = absurd (omega arith)
      by (h0 ∷ room) (l0 ∷ locals) (e0 ∷ trees) p q s i j k x y z =
          subst (λ w. WorksOnArguments homes (w ∷ room) (l0 ∷ locals) (expressions_of (e0 ∷ trees)) old new) i
          (subst (λ w. WorksOnArguments homes (h ∷ room) (w ∷ locals) (expressions_of (e0 ∷ trees)) old new) j
          (subst (λ w. WorksOnArguments homes (h ∷ room) (l ∷ locals) (expression_of w ∷ expressions_of trees) old new) k
          (works_more homes h room l locals (expression_of e) (expressions_of trees) old mid put new a first puts
          (subst (λ w. WorksOnArguments homes w locals (expressions_of trees) put new) (x ∙ rest_is h0 room)
          (subst (λ w. WorksOnArguments homes room' w (expressions_of trees) put new) (y ∙ rest_is l0 locals)
          (subst (λ w. WorksOnArguments homes room' locals' (expressions_of w) put new) (z ∙ rest_is e0 trees) rest))))))
