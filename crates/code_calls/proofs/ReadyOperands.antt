-- The operands of a pthread call are made ready.
use Rattle.std.proofs.Common.{◌≡◌, ℕ, suc, ◌+◌, ◌^◌, ◌<◌, List, [], ◌∷◌, ◌++◌, length, ℤ, pos, refl, sym, ap, ◌∙◌, subst, arith, append-nil, append_assoc, length-append}
use Rattle.std.proofs.Common.{inl, inr, ⊎_elim}
use Rattle.std.specs.Prelude.{◌⊎◌, slice_get}
use Rattle.hls_ints.specs.Types.{long_int, wrapped}
use Rattle.c_program.specs.declared.tree.BinaryOperator.TheVariants.{Add}
use Rattle.c_program.specs.Tree.{Expression, ObjectPlace, ThreadCall}
use Rattle.thread_semantics.specs.Memory.{Location, Memory, Gives, and_then}
use Rattle.thread_semantics.specs.Value.{value, values}
use Rattle.block_ir.specs.declared.operand.Operand.{Operand}
use Rattle.block_ir.specs.declared.operand.Source.TheVariants.{Constant as FromConstant, Value as FromValue}
use Rattle.block_ir.specs.declared.block.Operation.TheVariants.{Binary}
use Rattle.block_ir.specs.declared.code.Act.{Act}
use Rattle.block_ir.specs.declared.code.ActOperand.{ActOperand}
use Rattle.block_ir.specs.declared.code.ActOperand.TheVariants as act_operand
use Rattle.block_ir.specs.Asked.{act_value}
use Rattle.block_ir.specs.Run.{operations_run}
use Rattle.code_following.specs.Following.{AreValues}
use Rattle.code_storage.specs.declared.objects.Objects.{Objects}
use Rattle.code_blocks.specs.declared.homes.Home.{Home}
use Rattle.code_blocks.specs.declared.open_block.OpenBlock.{OpenBlock}
use Rattle.code_blocks.specs.Needs.{plain, IsConverted, AreBelow}
use Rattle.code_blocks.specs.Evaluating.{current_value, with_more, Evaluates, held_by}
use Rattle.code_blocks.specs.Assigning.{StoresVariable}
use Rattle.code_blocks.specs.Printing.{converted_argument}
use Rattle.code_blocks.proofs.OperationRuns.{parts, current_kept, run_append, run_length, reads_none, reads_both}
use Rattle.code_blocks.proofs.Values.{constant_at, cast_at, binary_at}
use Rattle.code_blocks.proofs.Steps.{gives_is}
use Rattle.code_blocks.proofs.Puts.{wrapped_twice, homes_more, puts_value}
use Rattle.code_blocks.proofs.TypedAssignments.{value_works}
use Rattle.code_calls.specs.Acts.{place_of, values_of, first_of_call, number_expression, number_operand, with_values, act_on, act_at, Prepared, Prepares}
use Rattle.code_calls.specs.Acts.{PutsWord, PutsNumber, PutsIfAny, PreparesCall, WorksOnCall}
use Rattle.code_calls.proofs.Typed.{object_works, value_works_}

-- the number of an element is the sum of its index and the number of the first
pub element_evaluates : (homes : List Home) (object length_ first : ℕ) (index : Expression) (old mid new : OpenBlock) (a left right number : Operand) → Evaluates homes index old mid a →
    IsConverted long_int a left → right ≡ plain (FromConstant long_int (pos first)) → new ≡ with_more mid (Binary Add long_int left right ∷ []) →
    number ≡ plain (FromValue (length mid.operations) long_int) →
    length new.operations < 2 ^ 32 → Evaluates homes (number_expression first (ObjectPlace.Element object length_ index)) old new number
element_evaluates homes object length_ first index old mid new a left right number value is_left is_right added is few =
    binary_at homes (Expression.Cast long_int index) (Expression.Constant long_int (pos first)) (number_expression first (ObjectPlace.Element object length_ index))
    Add long_int long_int old mid mid new
    left right number refl (cast_at homes index (Expression.Cast long_int index) long_int old mid a left refl value is_left)
    (constant_at homes (Expression.Constant long_int (pos first)) mid long_int (pos first) right refl is_right) added is refl few

-- a conversion to a word is one of a word
converted_again : (a w : Operand) → IsConverted long_int a w → IsConverted long_int w w
converted_again a w one = record {
  source = refl;
  type = one.type;
  value = λ v. one.value v ∙ sym (wrapped_twice long_int _) ∙ ap (wrapped long_int) (sym (one.value v));
}

-- what an expression comes to is put into a variable
pub puts_word : (homes : List Home) (n : ℕ) (e : Expression) (old mid new : OpenBlock) (a : Operand) → Evaluates homes e old mid a → StoresVariable n long_int a mid new → PutsWord homes n e old new
puts_word homes n e old mid new a first s =
    let again = converted_again a s.stored s.converted in
    record {
      puts = puts_value homes n long_int e old mid new a s.stored s.stored first s.converted again s.current s.operations s.steps s.noted;
      works = value_works homes n long_int e old mid new a s.stored s.stored first s.converted again s.current s.operations;
    }

-- a value, as a word
word_value : (e : Expression) (m : Memory) (v : ℤ) (ls : List Location) → value e m ≡ Gives v ls → converted_argument long_int e m ≡ Gives (wrapped long_int v ∷ []) ls
word_value e m v ls is = ap (λ z. and_then z (λ w. Gives (wrapped long_int w ∷ []) [])) is ∙ ap (λ l. Gives (wrapped long_int v ∷ []) l) (append-nil ls)

-- the number

module _ (homes : List Home) (n : ℕ) (e : Expression) where
  nothing_put : (operand : ActOperand) (b : OpenBlock) → ((m : Memory) (v : ℤ) (ls : List Location) → value e m ≡ Gives v ls → ((variables : ℕ → ℤ) → act_value variables operand ≡ v) × (ls ≡ [])) →
      Prepares homes n 2 (e ∷ []) (operand ∷ []) b b
  nothing_put operand b known = record {
    operations = [];
    added = sym (append-nil b.operations);
    size = refl;
    steps = refl;
    noted = λ h. h;
    below = λ fits. fits;
    does = λ variables r m vs ls fits len homed room holds is.
        let p = parts (value e m) (λ v. and_then (values [] m) (λ ws. Gives (v ∷ ws) [])) vs ls is in
        let g = gives_is (p.value ∷ []) vs p.rest p.then_ in
        let k = known m p.value p.first p.is in
        let none : ls ≡ [] = p.reads ∙ ap (λ l. l ++ p.rest) k.1 ∙ g.1 in
        record {
          reads = reads_none r ls none;
          holds = holds;
          operands_ = subst (AreValues (held_by b.current variables r.values) (operand ∷ [])) g.0 (ap (wrapped long_int) (k.0 (held_by b.current variables r.values)), tt);
          spares = record { variables_ = λ i lt none. refl; arrays_ = λ a none. refl };
        };
  }

  one_put : (old new : OpenBlock) → PutsWord homes n e old new → Prepares homes n 2 (e ∷ []) (act_operand.Variable n long_int ∷ []) old new
  one_put old new w = record {
    operations = w.puts.operations;
    added = w.puts.added;
    size = w.puts.size;
    steps = w.puts.steps;
    noted = w.puts.noted;
    below = w.puts.below;
    does = λ variables r m vs ls fits len homed room holds is.
        let p = parts (value e m) (λ v. and_then (values [] m) (λ ws. Gives (v ∷ ws) [])) vs ls is in
        let g = gives_is (p.value ∷ []) vs p.rest p.then_ in
        let all : ls ≡ p.first = p.reads ∙ ap (λ l. p.first ++ l) g.1 ∙ append-nil p.first in
        let held = w.puts.does variables r m (wrapped long_int p.value ∷ []) ls fits len homed (omega (arith, room)) holds (word_value e m p.value ls (p.is ∙ ap (Gives p.value) (sym all))) in
        let s = operations_run variables w.puts.operations r in
        record {
          reads = held.reads;
          holds = held.holds;
          operands_ = subst (AreValues (held_by new.current variables s.values) (act_operand.Variable n long_int ∷ [])) g.0 (held.words.0 ∙ wrapped_twice long_int p.value, tt);
          spares = held.spares;
        };
  }

pub number_prepared : (homes : List Home) (n first : ℕ) (place : ObjectPlace) (old new : OpenBlock) → PutsNumber homes n first place old new →
    Prepares homes n 2 (number_expression first place ∷ []) (number_operand n first place ∷ []) old new
number_prepared homes n first (ObjectPlace.Single object) old new same =
    subst (λ b. Prepares homes n 2 (number_expression first (ObjectPlace.Single object) ∷ []) (number_operand n first (ObjectPlace.Single object) ∷ []) old b) (sym same)
    (nothing_put homes n (number_expression first (ObjectPlace.Single object)) (act_operand.Constant long_int (pos first)) old
    (λ m v ls is. let g = gives_is (pos first) v ls is in ((λ variables. g.0), g.1)))
number_prepared homes n first (ObjectPlace.Element object count index) old new w =
    one_put homes n (number_expression first (ObjectPlace.Element object count index)) old new w

-- the number does not change while a value is put behind it
same_number : (place : ObjectPlace) (first n : ℕ) (f g : ℕ → ℤ) → f n ≡ g n → act_value f (number_operand n first place) ≡ act_value g (number_operand n first place)
same_number (ObjectPlace.Single object) first n f g same = refl
same_number (ObjectPlace.Element object count index) first n f g same = same

pub value_prepared : (homes : List Home) (n first : ℕ) (place : ObjectPlace) (e f : Expression) (old mid new : OpenBlock) →
    Prepares homes n 2 (e ∷ []) (number_operand n first place ∷ []) old mid → PutsWord homes (suc n) f mid new →
    Prepares homes n 2 (e ∷ f ∷ []) (number_operand n first place ∷ act_operand.Variable (suc n) long_int ∷ []) old new
value_prepared homes n first place e f old mid new one w = record {
  operations = one.operations ++ w.puts.operations;
  added = w.puts.added ∙ ap (λ os. os ++ w.puts.operations) one.added ∙ append_assoc old.operations one.operations w.puts.operations;
  size = w.puts.size ∙ one.size;
  steps = w.puts.steps ∙ one.steps;
  noted = λ h. w.puts.noted (one.noted h);
  below = λ fits. w.puts.below (one.below fits);
  does = λ variables r m vs ls fits len homed room holds is.
      let p = parts (value e m) (λ v. and_then (values (f ∷ []) m) (λ ws. Gives (v ∷ ws) [])) vs ls is in
      let q = parts (values (f ∷ []) m) (λ ws. Gives (p.value ∷ ws) []) vs p.rest p.then_ in
      let t = parts (value f m) (λ v. and_then (values [] m) (λ ws. Gives (v ∷ ws) [])) q.value q.first q.is in
      let g = gives_is (p.value ∷ q.value) vs q.rest q.then_ in
      let h = gives_is (t.value ∷ []) q.value t.rest t.then_ in
      let s = operations_run variables one.operations r in
      let u = operations_run variables w.puts.operations s in
      let is1 : values (e ∷ []) m ≡ Gives (p.value ∷ []) p.first =
      ap (λ z. and_then z (λ v. and_then (values [] m) (λ ws. Gives (v ∷ ws) []))) p.is ∙ ap (λ l. Gives (p.value ∷ []) l) (append-nil p.first) in
      let front = one.does variables r m (p.value ∷ []) p.first fits len homed room holds is1 in
      let len' : length s.values ≡ length mid.operations =
      (let l = run_length variables one.operations r in let k = ap length one.added ∙ length-append old.operations one.operations in omega (arith, l, k, len)) in
      let size = one.size in
      let back = w.puts.does variables s m (wrapped long_int t.value ∷ []) t.first (one.below fits) len' (homes_more homes n (suc n) m.locals (omega arith) homed)
      (omega (arith, size, room)) front.holds (word_value f m t.value t.first t.is) in
      let all : ls ≡ p.first ++ t.first =
      p.reads ∙ ap (λ l. p.first ++ l) (q.reads ∙ ap (λ l. q.first ++ l) g.1 ∙ append-nil q.first ∙ t.reads ∙ ap (λ l. t.first ++ l) h.1 ∙ append-nil t.first) in
      let run = run_append variables one.operations w.puts.operations r in
      let fits_s : AreBelow (length s.values) mid.current = subst (λ k. AreBelow k mid.current) (sym len') (one.below fits) in
      let kept : held_by new.current variables u.values n ≡ held_by mid.current variables s.values n =
      ap (λ o. current_value o variables u.values n) (w.puts.kept n (omega arith)) ∙ current_kept variables homes mid.current m s u t.first back.reads fits_s n (slice_get mid.current n) refl in
      let number = ap (wrapped long_int) (same_number place first n (held_by new.current variables u.values) (held_by mid.current variables s.values) kept) ∙ front.operands_.0 in
      let operands : AreValues (held_by new.current variables u.values) (number_operand n first place ∷ act_operand.Variable (suc n) long_int ∷ []) (p.value ∷ t.value ∷ []) =
      (number, (back.words.0 ∙ wrapped_twice long_int t.value, tt)) in
      subst (λ z. Prepared homes old new variables n (number_operand n first place ∷ act_operand.Variable (suc n) long_int ∷ []) m r z vs ls) (sym run)
      (record {
        reads = reads_both r s u p.first t.first ls front.reads back.reads all;
        holds = back.holds;
        operands_ = subst (AreValues (held_by new.current variables u.values) (number_operand n first place ∷ act_operand.Variable (suc n) long_int ∷ [])) (ap (λ ws. p.value ∷ ws) h.0 ∙ g.0) operands;
        spares = record {
          variables_ = λ i lt none. back.spares.variables_ i (omega arith) none ∙ front.spares.variables_ i lt none;
          arrays_ = λ a none. back.spares.arrays_ a none ∙ front.spares.arrays_ a none;
        };
      });
}

-- the operands of a call without a value, and of one with a value
pub object_prepares : (homes : List Home) (o : Objects) (n : ℕ) (call : ThreadCall) (old new : OpenBlock) → values_of call ≡ [] → PutsNumber homes n (first_of_call o call) (place_of call) old new →
    PreparesCall homes o n call old new
object_prepares homes o n call old new none w =
    subst (λ es. Prepares homes n 2 (number_expression (first_of_call o call) (place_of call) ∷ es) (with_values (number_operand n (first_of_call o call) (place_of call))
    (act_operand.Variable (suc n) long_int) es) old new) (sym none) (number_prepared homes n (first_of_call o call) (place_of call) old new w)

pub value_prepares : (homes : List Home) (o : Objects) (n : ℕ) (call : ThreadCall) (e : Expression) (old mid new : OpenBlock) → values_of call ≡ e ∷ [] →
    PutsNumber homes n (first_of_call o call) (place_of call) old mid → PutsWord homes (suc n) e mid new → PreparesCall homes o n call old new
value_prepares homes o n call e old mid new one w v =
    subst (λ es. Prepares homes n 2 (number_expression (first_of_call o call) (place_of call) ∷ es) (with_values (number_operand n (first_of_call o call) (place_of call))
    (act_operand.Variable (suc n) long_int) es) old new) (sym one)
    (value_prepared homes n (first_of_call o call) (place_of call) (number_expression (first_of_call o call) (place_of call)) e old mid new
    (number_prepared homes n (first_of_call o call) (place_of call) old mid w) v)

pub none_put : (homes : List Home) (n : ℕ) (es : List Expression) (b : OpenBlock) → es ≡ [] → PutsIfAny homes n es b b
none_put homes n es b none = subst (λ z. PutsIfAny homes n z b b) (sym none) refl

pub value_put : (homes : List Home) (n : ℕ) (es : List Expression) (e : Expression) (old new : OpenBlock) → es ≡ e ∷ [] → PutsWord homes n e old new → PutsIfAny homes n es old new
value_put homes n es e old new one w = subst (λ z. PutsIfAny homes n z old new) (sym one) w

-- a call takes no value, or one
values_few : (call : ThreadCall) → (values_of call ≡ []) ⊎ ((e : Expression) × (values_of call ≡ e ∷ []))
values_few (ThreadCall.Create thread routine argument) = inr (argument, refl)
values_few (ThreadCall.Join thread) = inl refl
values_few (ThreadCall.MutexInit mutex) = inl refl
values_few (ThreadCall.MutexDestroy mutex) = inl refl
values_few (ThreadCall.MutexLock mutex) = inl refl
values_few (ThreadCall.MutexUnlock mutex) = inl refl
values_few (ThreadCall.BarrierInit barrier count) = inr (count, refl)
values_few (ThreadCall.BarrierDestroy barrier) = inl refl
values_few (ThreadCall.BarrierWait barrier) = inl refl

module _ (homes : List Home) (o : Objects) (n : ℕ) (call : ThreadCall) (old mid new : OpenBlock) (number : PutsNumber homes n (first_of_call o call) (place_of call) old mid)
    (value_ : PutsIfAny homes (suc n) (values_of call) mid new) where
  number_alone : values_of call ≡ [] → PutsNumber homes n (first_of_call o call) (place_of call) old new
  number_alone none =
      let same : new ≡ mid = subst (λ es. PutsIfAny homes (suc n) es mid new) none value_ in
      subst (PutsNumber homes n (first_of_call o call) (place_of call) old) (sym same) number

  value_too : (e : Expression) → values_of call ≡ e ∷ [] → PutsWord homes (suc n) e mid new
  value_too e one = subst (λ es. PutsIfAny homes (suc n) es mid new) one value_

  any_prepares : PreparesCall homes o n call old new
  any_prepares =
      ⊎_elim (λ none. object_prepares homes o n call old new none (number_alone none))
      (λ one. value_prepares homes o n call one.0 old mid new one.1 number (value_too one.0 one.1)) (values_few call)

  any_works : WorksOnCall homes o n call old new
  any_works =
      ⊎_elim (λ none. object_works homes o n call old new none (number_alone none))
      (λ one. value_works_ homes o n call one.0 old mid new one.1 number (value_too one.0 one.1)) (values_few call)

-- the parts of the lowering of a call
module _ (homes : List Home) (o : Objects) (n next start : ℕ) (call : ThreadCall) (place : ObjectPlace) (old mid new : OpenBlock) (start_is : start ≡ first_of_call o call)
    (place_is : place ≡ place_of call) (next_is : next ≡ n) (number : PutsNumber homes n start place old mid) (value_ : PutsIfAny homes (next + 1) (values_of call) mid new) where
  number_here : PutsNumber homes n (first_of_call o call) (place_of call) old mid
  number_here = subst (λ k. PutsNumber homes n k (place_of call) old mid) start_is (subst (λ p. PutsNumber homes n start p old mid) place_is number)

  value_here : PutsIfAny homes (suc n) (values_of call) mid new
  value_here = subst (λ k. PutsIfAny homes k (values_of call) mid new) (let e : next + 1 ≡ suc n = omega (arith, next_is) in e) value_

  pub call_prepares : PreparesCall homes o n call old new
  call_prepares = any_prepares homes o n call old mid new number_here value_here

  pub call_works : WorksOnCall homes o n call old new
  call_works = any_works homes o n call old mid new number_here value_here

  -- its act
  pub call_act : (a : Act) (object : ActOperand) → a ≡ act_on call object (act_operand.Variable (next + 1) long_int) → object ≡ number_operand n start place → a ≡ act_at n o call
  call_act a object is object_is =
      is ∙ ap (λ z. act_on call z (act_operand.Variable (next + 1) long_int)) (object_is ∙ ap (λ k. number_operand n k place) start_is ∙ ap (number_operand n (first_of_call o call)) place_is)
      ∙ ap (λ k. act_on call (number_operand n (first_of_call o call) (place_of call)) (act_operand.Variable k long_int)) (let e : next + 1 ≡ suc n = omega (arith, next_is) in e)

-- the number of a single object, and of an element
pub number_none : (homes : List Home) (n first object : ℕ) (place : ObjectPlace) (b : OpenBlock) → place ≡ ObjectPlace.Single object → PutsNumber homes n first place b b
number_none homes n first object place b is = subst (λ p. PutsNumber homes n first p b b) (sym is) refl

pub number_put : (homes : List Home) (n first object length_ : ℕ) (index e : Expression) (place : ObjectPlace) (old new : OpenBlock) → place ≡ ObjectPlace.Element object length_ index → e ≡ index →
    PutsNumber homes n first (ObjectPlace.Element object length_ e) old new → PutsNumber homes n first place old new
number_put homes n first object length_ index e place old new is same put =
    subst (λ p. PutsNumber homes n first p old new) (ap (ObjectPlace.Element object length_) same ∙ sym is) put
