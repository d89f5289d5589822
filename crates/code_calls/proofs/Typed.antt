-- The operands of a pthread call and its act are typed.
use Rattle.std.proofs.Common.{◌≡◌, ℕ, suc, ◌+◌, ◌*◌, ◌^◌, ◌<◌, ◌≤◌, List, [], ◌∷◌, length, pos, Some, refl, sym, ap, ◌∙◌, subst, arith, sum_by}
use Rattle.std.specs.Prelude.{slice_get, Option}
use Rattle.std.specs.List.{AllByRecursion}
use Rattle.std.proofs.lemmas.List.Sums.{sum_by-cons}
use Rattle.hls_ints.specs.Types.{HasType, long_int}
use Rattle.c_program.specs.Tree.{Expression, ObjectPlace, ThreadCall, Statement, Function, Program}
use Rattle.c_program.specs.Limits.{mutex_elements, barrier_elements}
use Rattle.c_program.specs.Resolved.{IsExpression, IsObjectPlace, IsThreadCall, object_of}
use Rattle.c_program.specs.Weight.{expression_weight, object_place_weight, thread_count, thread_call_weight}
use Rattle.block_ir.specs.declared.code.Act.{Act as CodeAct}
use Rattle.code_following.specs.Typed.{Types, IsTypedNumber, IsTypedAct}
use Rattle.thread_semantics.specs.Move.{first_thread, first_mutex, first_barrier}
use Rattle.code_storage.specs.declared.objects.Objects.{Objects}
use Rattle.code_blocks.specs.declared.homes.Home.{Home}
use Rattle.code_blocks.specs.declared.open_block.OpenBlock.{OpenBlock}
use Rattle.code_blocks.specs.Typing.{Typing, Fits, HasWords, IsTypedOpen}
use Rattle.code_places.specs.Weighing.{inlined_weight}
use Rattle.code_places.specs.declared.lowering.Lowering.{Lowering}
use Rattle.code_places.specs.Apart.{IsTypedNow}
use Rattle.code_places.specs.Control.{ActsAt}
use Rattle.code_places.specs.Doing.{Grows, SuitsTyping}
use Rattle.code_places.proofs.TypedGrowth.{open_more, act_stage}
use Rattle.code_places.proofs.CodeGrowth.{acts_typed}
use Rattle.code_storage.specs.Objects.{AreObjects, first_in}
use Rattle.code_storage.specs.Values.{operand_count}
use Rattle.code_calls.specs.Acts.{place_of, values_of, first_of_call, number_operand, act_at, PutsWord, PutsNumber, PreparesCall, WorksOnCall}
use Rattle.code_calls.proofs.OperandNumbers.{small_typed}
use Rattle.code_calls.proofs.ObjectNumbers.{IsPlaced, thread_placed, mutex_placed, barrier_placed}

-- the number of an object is less than their count
number_typed : (T : Types) (n count : ℕ) (first : ℕ → ℕ) (numbers : List ℕ) (place : ObjectPlace) → IsPlaced count first numbers place → count < 2 ^ 32 →
    slice_get T.variables n ≡ Some long_int → IsTypedNumber T count (number_operand n (first_in numbers (object_of place)) place)
number_typed T n count first numbers (ObjectPlace.Single object) at few word =
    let below : first_in numbers object < count = (let number = at.number in let b = at.below in omega (arith, number, b)) in
    (small_typed (first_in numbers object) (omega (arith, below, few)), (first_in numbers object, refl, below))
number_typed T n count first numbers (ObjectPlace.Element object length_ index) at few word = word

module _ (T : Types) (P : Program) (f : Function) (o : Objects) (are : AreObjects P o) (n : ℕ) where
  pub act_typed : (call : ThreadCall) → IsThreadCall P f call → slice_get T.variables n ≡ Some long_int → ((0 < length (values_of call)) → slice_get T.variables (suc n) ≡ Some long_int) →
      IsTypedAct T P (act_at n o call)
  act_typed (ThreadCall.Create thread routine argument) at word second =
      (number_typed T n (thread_count P) (first_thread P) o.threads thread (thread_placed P f o are thread at.0) are.few_threads word, second (omega arith))
  act_typed (ThreadCall.Join thread) at word second = number_typed T n (thread_count P) (first_thread P) o.threads thread (thread_placed P f o are thread at) are.few_threads word
  act_typed (ThreadCall.MutexInit mutex) at word second = number_typed T n (mutex_elements P) (first_mutex P) o.mutexes mutex (mutex_placed P f o are mutex at) are.few_mutexes word
  act_typed (ThreadCall.MutexDestroy mutex) at word second = number_typed T n (mutex_elements P) (first_mutex P) o.mutexes mutex (mutex_placed P f o are mutex at) are.few_mutexes word
  act_typed (ThreadCall.MutexLock mutex) at word second = number_typed T n (mutex_elements P) (first_mutex P) o.mutexes mutex (mutex_placed P f o are mutex at) are.few_mutexes word
  act_typed (ThreadCall.MutexUnlock mutex) at word second = number_typed T n (mutex_elements P) (first_mutex P) o.mutexes mutex (mutex_placed P f o are mutex at) are.few_mutexes word
  act_typed (ThreadCall.BarrierInit barrier count) at word second =
      (number_typed T n (barrier_elements P) (first_barrier P) o.barriers barrier (barrier_placed P f o are barrier at.0) are.few_barriers word, second (omega arith))
  act_typed (ThreadCall.BarrierDestroy barrier) at word second =
      number_typed T n (barrier_elements P) (first_barrier P) o.barriers barrier (barrier_placed P f o are barrier at) are.few_barriers word
  act_typed (ThreadCall.BarrierWait barrier) at word second =
      number_typed T n (barrier_elements P) (first_barrier P) o.barriers barrier (barrier_placed P f o are barrier at) are.few_barriers word

-- the parts of a resolved call

abbrev pub IsIndex : Program → Function → ObjectPlace → Type 0
IsIndex P f (ObjectPlace.Single object) = Unit {0}
IsIndex P f (ObjectPlace.Element object length_ index) = IsExpression P f index

index_of : (P : Program) (f : Function) (length_at : ℕ → Option ℕ) (place : ObjectPlace) → IsObjectPlace P f length_at place → IsIndex P f place
index_of P f length_at (ObjectPlace.Single object) at = tt
index_of P f length_at (ObjectPlace.Element object length_ index) at = at.1

first_typed : (count : ℕ) (first : ℕ → ℕ) (numbers : List ℕ) (place : ObjectPlace) → IsPlaced count first numbers place → count < 2 ^ 32 → HasType long_int (pos (first_in numbers (object_of place)))
first_typed count first numbers place at few = small_typed (first_in numbers (object_of place)) (let number = at.number in let b = at.below in omega (arith, number, b, few))

-- what the operands of a call need
pub record HasParts (P : Program) (f : Function) (o : Objects) (call : ThreadCall) : Type 0 where
  pub index : IsIndex P f (place_of call)
  pub values : AllByRecursion (IsExpression P f) (values_of call)
  pub first : HasType long_int (pos (first_of_call o call))

module _ (P : Program) (f : Function) (o : Objects) (are : AreObjects P o) where
  call_parts : (call : ThreadCall) → IsThreadCall P f call → HasParts P f o call
  call_parts (ThreadCall.Create thread routine argument) at = record {
    index = index_of P f _ thread at.0;
    values = (at.2, tt);
    first = first_typed (thread_count P) (first_thread P) o.threads thread (thread_placed P f o are thread at.0) are.few_threads;
  }
  call_parts (ThreadCall.Join thread) at = record {
    index = index_of P f _ thread at;
    values = tt;
    first = first_typed (thread_count P) (first_thread P) o.threads thread (thread_placed P f o are thread at) are.few_threads;
  }
  call_parts (ThreadCall.MutexInit mutex) at = record {
    index = index_of P f _ mutex at;
    values = tt;
    first = first_typed (mutex_elements P) (first_mutex P) o.mutexes mutex (mutex_placed P f o are mutex at) are.few_mutexes;
  }
  call_parts (ThreadCall.MutexDestroy mutex) at = record {
    index = index_of P f _ mutex at;
    values = tt;
    first = first_typed (mutex_elements P) (first_mutex P) o.mutexes mutex (mutex_placed P f o are mutex at) are.few_mutexes;
  }
  call_parts (ThreadCall.MutexLock mutex) at = record {
    index = index_of P f _ mutex at;
    values = tt;
    first = first_typed (mutex_elements P) (first_mutex P) o.mutexes mutex (mutex_placed P f o are mutex at) are.few_mutexes;
  }
  call_parts (ThreadCall.MutexUnlock mutex) at = record {
    index = index_of P f _ mutex at;
    values = tt;
    first = first_typed (mutex_elements P) (first_mutex P) o.mutexes mutex (mutex_placed P f o are mutex at) are.few_mutexes;
  }
  call_parts (ThreadCall.BarrierInit barrier count) at = record {
    index = index_of P f _ barrier at.0;
    values = (at.1, tt);
    first = first_typed (barrier_elements P) (first_barrier P) o.barriers barrier (barrier_placed P f o are barrier at.0) are.few_barriers;
  }
  call_parts (ThreadCall.BarrierDestroy barrier) at = record {
    index = index_of P f _ barrier at;
    values = tt;
    first = first_typed (barrier_elements P) (first_barrier P) o.barriers barrier (barrier_placed P f o are barrier at) are.few_barriers;
  }
  call_parts (ThreadCall.BarrierWait barrier) at = record {
    index = index_of P f _ barrier at;
    values = tt;
    first = first_typed (barrier_elements P) (first_barrier P) o.barriers barrier (barrier_placed P f o are barrier at) are.few_barriers;
  }

pub weight_is : (call : ThreadCall) → thread_call_weight call ≡ object_place_weight (place_of call) + sum_by expression_weight (values_of call)
weight_is (ThreadCall.Create thread routine argument) = ap (λ k. object_place_weight thread + k) (let s = sum_by-cons expression_weight argument [] in omega (arith, s))
weight_is (ThreadCall.Join thread) = omega arith
weight_is (ThreadCall.MutexInit mutex) = omega arith
weight_is (ThreadCall.MutexDestroy mutex) = omega arith
weight_is (ThreadCall.MutexLock mutex) = omega arith
weight_is (ThreadCall.MutexUnlock mutex) = omega arith
weight_is (ThreadCall.BarrierInit barrier count) = ap (λ k. object_place_weight barrier + k) (let s = sum_by-cons expression_weight count [] in omega (arith, s))
weight_is (ThreadCall.BarrierDestroy barrier) = omega arith
weight_is (ThreadCall.BarrierWait barrier) = omega arith

-- the operations of an object's number
pub number_count : (homes : List Home) (n first : ℕ) (place : ObjectPlace) (old new : OpenBlock) → PutsNumber homes n first place old new →
    length new.operations ≤ length old.operations + (4 * object_place_weight place + 3)
number_count homes n first (ObjectPlace.Single object) old new same = let e = ap (λ (b : OpenBlock). length b.operations) same in omega (arith, e)
number_count homes n first (ObjectPlace.Element object length_ index) old new w = let c = w.works.count in omega (arith, c)

number_works : (homes : List Home) (n first : ℕ) (place : ObjectPlace) (old new : OpenBlock) → PutsNumber homes n first place old new → (S : Typing) → Fits S homes →
    IsIndex S.program S.function place → HasType long_int (pos first) → slice_get S.types.variables n ≡ Some long_int → IsTypedOpen S.types old → IsTypedOpen S.types new
number_works homes n first (ObjectPlace.Single object) old new same S fits index start word open_ = subst (IsTypedOpen S.types) (sym same) open_
number_works homes n first (ObjectPlace.Element object length_ index_) old new w S fits index start word open_ = w.works.typed S fits ((refl, index, start), word) open_

-- the first of the words of a call
first_word : (T : Types) (n count : ℕ) → HasWords T n (suc count) → slice_get T.variables n ≡ Some long_int
first_word T n count words = subst (λ k. slice_get T.variables k ≡ Some long_int) (let e : n + 0 ≡ n = omega arith in e) (words 0 (omega arith))

second_word : (T : Types) (n count : ℕ) → HasWords T n (suc count) → 0 < count → slice_get T.variables (suc n) ≡ Some long_int
second_word T n count words some = subst (λ k. slice_get T.variables k ≡ Some long_int) (let e : n + 1 ≡ suc n = omega arith in e) (words 1 (omega (arith, some)))

-- those of a call
pub count_is : (call : ThreadCall) → operand_count call ≡ suc (length (values_of call))
count_is (ThreadCall.Create thread routine argument) = refl
count_is (ThreadCall.Join thread) = refl
count_is (ThreadCall.MutexInit mutex) = refl
count_is (ThreadCall.MutexDestroy mutex) = refl
count_is (ThreadCall.MutexLock mutex) = refl
count_is (ThreadCall.MutexUnlock mutex) = refl
count_is (ThreadCall.BarrierInit barrier count) = refl
count_is (ThreadCall.BarrierDestroy barrier) = refl
count_is (ThreadCall.BarrierWait barrier) = refl

call_words : (T : Types) (n : ℕ) (call : ThreadCall) → HasWords T n (operand_count call) → HasWords T n (suc (length (values_of call)))
call_words T n call words = subst (HasWords T n) (count_is call) words

-- the operands of a call without a value, and of one with a value
pub object_works : (homes : List Home) (o : Objects) (n : ℕ) (call : ThreadCall) (old new : OpenBlock) → values_of call ≡ [] → PutsNumber homes n (first_of_call o call) (place_of call) old new →
    WorksOnCall homes o n call old new
object_works homes o n call old new none w = record {
  count = (let c = number_count homes n (first_of_call o call) (place_of call) old new w in let k = weight_is call in omega (arith, c, k));
  typed = λ S fits is open_.
      let p = call_parts S.program S.function o is.0 call is.1 in
      number_works homes n (first_of_call o call) (place_of call) old new w S fits p.index p.first (first_word S.types n (length (values_of call)) (call_words S.types n call is.2)) open_;
}

pub value_works_ : (homes : List Home) (o : Objects) (n : ℕ) (call : ThreadCall) (e : Expression) (old mid new : OpenBlock) → values_of call ≡ e ∷ [] →
    PutsNumber homes n (first_of_call o call) (place_of call) old mid → PutsWord homes (suc n) e mid new → WorksOnCall homes o n call old new
value_works_ homes o n call e old mid new one w v = record {
  count =
      (let c = number_count homes n (first_of_call o call) (place_of call) old mid w in let d = v.works.count in
      let k = weight_is call ∙ ap (λ es. object_place_weight (place_of call) + sum_by expression_weight es) one in let s = sum_by-cons expression_weight e [] in omega (arith, c, d, k, s));
  typed = λ S fits is open_.
      let p = call_parts S.program S.function o is.0 call is.1 in
      let some : 0 < length (values_of call) = (let l = ap length one in omega (arith, l)) in
      let values = subst (AllByRecursion (IsExpression S.program S.function)) one p.values in
      v.works.typed S fits (values.0, second_word S.types n (length (values_of call)) (call_words S.types n call is.2) some)
      (number_works homes n (first_of_call o call) (place_of call) old mid w S fits p.index p.first (first_word S.types n (length (values_of call)) (call_words S.types n call is.2)) open_);
}

-- the whole call
module _ (P : Program) (call : ThreadCall) (old mid new : Lowering) (b : OpenBlock) (code_act : CodeAct) (first : ℕ) (first_is : first ≡ length old.variables)
    (prepares : PreparesCall old.homes old.objects first call old.block b) (works : WorksOnCall old.homes old.objects first call old.block b)
    (stepped : mid ≡ record old { block = record b { steps = suc b.steps } }) (act_is : code_act ≡ act_at first old.objects call)
    (acts : ActsAt code_act mid new) (offset : ℕ) (grows : Grows old mid) where
  pub thread_typed : (S : Typing) (w size : ℕ) → SuitsTyping P S size (Statement.Thread offset call) old → IsTypedNow S w old →
      IsTypedNow S (w + inlined_weight S.program (Statement.Thread offset call)) new
  thread_typed S w size suits now =
      let size_is : first ≡ size = first_is ∙ suits.good.variables in
      let words : HasWords S.types first (operand_count call) = subst (λ n. HasWords S.types n (operand_count call)) (sym size_is) suits.words in
      let words_ = call_words S.types first call words in
      let open_ = works.typed S suits.fits (suits.seated.objects, suits.resolved, words) now.block in
      let typed : IsTypedAct S.types S.program code_act =
      subst (IsTypedAct S.types S.program) (sym act_is)
      (act_typed S.types S.program S.function old.objects suits.seated.objects first call suits.resolved (first_word S.types first (length (values_of call)) words_)
      (λ some. second_word S.types first (length (values_of call)) words_ some)) in
      let more = w + inlined_weight S.program (Statement.Thread offset call) in
      acts_typed code_act mid new acts S more size (grows.good size suits.good)
      (λ m n stage_of below. act_stage S.types S.program n m (stage_of acts.next) code_act typed (below acts.next))
      (subst (IsTypedNow S more) (sym stepped)
      (open_more S w more old (record old { block = record b { steps = suc b.steps } }) refl (omega arith)
      (record { operations = open_.operations; few = open_.few; current = open_.current }) (let c = works.count in omega (arith, c))
      (let f = now.steps in let p = prepares.steps in omega (arith, f, p)) now))
