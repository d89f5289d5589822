-- The operations of an operand of a condition, whose truth a local keeps.
use Rattle.std.proofs.Common.{◌≡◌, ℕ, zero, suc, ◌+◌, ◌*◌, ◌^◌, ◌/◌, ◌<◌, ◌≤◌, Bool, true, false, not, List, [], ◌∷◌, ◌++◌, length, ℤ, Option, Some, None, refl, sym, ap, ◌∙◌, subst, arith}
use Rattle.std.proofs.Common.{append-nil, append_assoc, length-append, pos, negsuc}
use Rattle.std.specs.Prelude.{if◌then◌else◌, nat_eq, nat_lt}
use Rattle.std.proofs.lemmas.Bool.Decides.{nat_tests}
use Rattle.std.proofs.lemmas.List.{append_cancel_left}
use Rattle.std.proofs.Math.Nat.{zero-div, div-div-eq-div-mul, pow-succ'}
use Rattle.hls_ints.specs.Types.{int_type, long_int, wrapped}
use Rattle.hls_ints.specs.Residues.{floor_quotient}
use Rattle.hls_ints.specs.Operators.{is_zero}
use Rattle.hls_ints.proofs.Conversions.{wrapped-same}
use Rattle.c_program.specs.declared.tree.Storage.TheVariants.{Automatic}
use Rattle.c_program.specs.declared.tree.BinaryOperator.TheVariants.{ShiftRight}
use Rattle.c_program.specs.declared.tree.UnaryOperator.TheVariants.{Not}
use Rattle.c_program.specs.Tree.{Expression}
use Rattle.c_program.specs.Weight.{expression_weight}
use Rattle.thread_semantics.specs.Memory.{Location, Memory, Evaluation, Gives, and_then}
use Rattle.thread_semantics.specs.Value.{value}
use Rattle.thread_semantics.specs.Move.{Assignment, slot_place}
use Rattle.block_ir.specs.Arithmetic.{sign_fill, shifted_right, truth, unary_total, binary_total}
use Rattle.block_ir.specs.declared.operand.Operand.{Operand}
use Rattle.block_ir.specs.declared.operand.Source.TheVariants.{Constant, Value}
use Rattle.block_ir.specs.declared.block.Operation.{Operation}
use Rattle.block_ir.specs.declared.block.Operation.TheVariants.{Unary, Binary, ReadGlobal, WriteGlobal, ReadArray, WriteArray}
use Rattle.block_ir.specs.Run.{Running, operand_value, with_value, operation_run, operations_run}
use Rattle.code_following.specs.Following.{reads_of}
use Rattle.code_following.specs.Typed.{IsTypedOperand}
use Rattle.code_blocks.specs.declared.fault.LoweringFault.{LoweringFault}
use Rattle.code_blocks.specs.declared.homes.Home.{Home}
use Rattle.code_blocks.specs.declared.places.Target.{Target}
use Rattle.code_blocks.specs.declared.open_block.OpenBlock.{OpenBlock}
use Rattle.code_blocks.specs.declared.truths.Note.{Note}
use Rattle.code_blocks.specs.Needs.{plain, IsBelow, AreBelow}
use Rattle.code_blocks.specs.Evaluating.{target_at, with_more, Holds, Reads, Evaluates}
use Rattle.code_blocks.specs.Closing.{HasNoted}
use Rattle.code_blocks.specs.Assigning.{Stores, HaveHomes, HasElement, Assigns}
use Rattle.code_blocks.specs.Room.{IsFull}
use Rattle.code_blocks.specs.Truths.{turned_truth, truth_operations, truth_operand, KeepsTruthAt, KeepsTruth, HasLooked, LooksAt}
use Rattle.code_blocks.specs.Typing.{Typing, IsTypedOpen}
use Rattle.code_blocks.proofs.OperationRuns.{parts, last_value, run_append, operand_stays, reads_both}
use Rattle.code_blocks.proofs.Stores.{store_operations, store_added}
use Rattle.code_blocks.proofs.Steps.{gives_is, longer, length_on, hold_on, read_held, Prepares, assigns, scalar_at}
use Rattle.code_blocks.proofs.Values.{pure_reads}
use Rattle.code_blocks.proofs.TypedExpressions.{operand_more, computed_last}
use Rattle.code_blocks.proofs.TypedAssignments.{place_typed, store_typed, store_count}

-- ---- what the operations give

one_over : (n : ℕ) → 1 / 2 ^ suc n ≡ 0
one_over n = ap (λ k. 1 / k) (pow-succ' 2 n) ∙ sym (div-div-eq-div-mul 1 2 (2 ^ n)) ∙ zero-div (2 ^ n)

right_at : (b : ℤ) → shifted_right int_type (pos 1) b ≡ truth (is_zero b)
right_at (pos zero) = refl
right_at (pos (suc n)) = by (nat_lt (suc n) 32) ∙ ap truth (sym nonzero)
  where
    nonzero : nat_eq (suc n) 0 ≡ false
    nonzero = grind (arith, nat_tests)

    by : (t : Bool) → (if t then floor_quotient (pos 1) (2 ^ suc n) else sign_fill (pos 1)) ≡ pos 0
    by true = ap pos (one_over n)
    by false = refl
right_at (negsuc n) = refl

-- 1 shifted right by a value is 1 where that is 0, and else 0
shift_is : (b : ℤ) → binary_total ShiftRight int_type (pos 1) b ≡ truth (is_zero b)
shift_is b = ap (λ z. shifted_right int_type z b) (wrapped-same int_type (pos 1) refl) ∙ right_at b

not_at : (b : Bool) → truth (is_zero (wrapped int_type (truth b))) ≡ truth (not b)
not_at true = ap (λ z. truth (is_zero z)) (wrapped-same int_type (pos 1) refl)
not_at false = ap (λ z. truth (is_zero z)) (wrapped-same int_type (pos 0) refl)

twice : (b : Bool) → b ≡ not (not b)
twice true = refl
twice false = refl

-- the last of the operations of a truth
record Tells (turned : Bool) (n : ℕ) (variables : ℕ → ℤ) (s t : Running) (v : ℤ) : Type 0 where
  reads : Reads s t []
  gives : operand_value variables t.values (truth_operand turned n) ≡ truth (turned_truth turned (not (is_zero v)))

tells : (turned : Bool) (n : ℕ) (variables : ℕ → ℤ) (s : Running) (a : Operand) (v : ℤ) → length s.values ≡ n → operand_value variables s.values a ≡ v →
    Tells turned n variables s (operations_run variables (truth_operations turned n a) s) v
tells true n variables s a v long is =
    let w = binary_total ShiftRight int_type (pos 1) (operand_value variables s.values a) in
    record {
      reads = pure_reads s w [] refl variables;
      gives = last_value variables s.values w n long ∙ shift_is (operand_value variables s.values a) ∙ ap (λ z. truth (is_zero z)) is ∙ ap truth (twice (is_zero v));
    }
tells false n variables s a v long is =
    let w = binary_total ShiftRight int_type (pos 1) (operand_value variables s.values a) in
    let t = with_value variables w s in
    let first : operand_value variables t.values (plain (Value n int_type)) ≡ truth (is_zero v) =
    last_value variables s.values w n long ∙ shift_is (operand_value variables s.values a) ∙ ap (λ z. truth (is_zero z)) is in
    let u = unary_total Not int_type (operand_value variables t.values (plain (Value n int_type))) in
    let longer_ : length t.values ≡ suc n = length-append s.values (w ∷ []) ∙ (omega (arith, long)) in
    record {
      reads = reads_both s t (with_value variables u t) [] [] [] (pure_reads s w [] refl variables) (pure_reads t u [] refl variables) refl;
      gives = last_value variables t.values u (suc n) longer_ ∙ ap (λ z. unary_total Not int_type z) first ∙ not_at (is_zero v);
    }

-- more operations give more values
one_more : (variables : ℕ → ℤ) (o : Operation) (r : Running) → (more : List ℤ) × ((operation_run variables o r).values ≡ r.values ++ more)
one_more variables (Unary operator ty a) r = (_, refl)
one_more variables (Binary operator ty a b) r = (_, refl)
one_more variables (ReadGlobal x n i) r = (_, refl)
one_more variables (WriteGlobal x n i a) r = (_, refl)
one_more variables (ReadArray x n i) r = (_, refl)
one_more variables (WriteArray x n i a) r = (_, refl)

values_more : (variables : ℕ → ℤ) (os : List Operation) (r : Running) → (more : List ℤ) × ((operations_run variables os r).values ≡ r.values ++ more)
values_more variables [] r = ([], sym (append-nil r.values))
values_more variables (o ∷ os) r =
    let one = one_more variables o r in
    let rest = values_more variables os (operation_run variables o r) in
    (one.0 ++ rest.0, rest.1 ∙ ap (λ vs. vs ++ rest.0) one.1 ∙ append_assoc r.values one.0 rest.0)

truth_length : (turned : Bool) (n : ℕ) (a : Operand) → length (truth_operations turned n a) ≤ 2
truth_length true n a = omega arith
truth_length false n a = omega arith

truth_below : (turned : Bool) (n k : ℕ) (a : Operand) → k ≡ n + length (truth_operations turned n a) → IsBelow k (truth_operand turned n)
truth_below true n k a is = omega (arith, is)
truth_below false n k a is = omega (arith, is)

-- ---- their types

truth_typed : (S : Typing) (turned : Bool) (a : Operand) (old mid : OpenBlock) → mid ≡ with_more old (truth_operations turned (length old.operations) a) → length mid.operations < 2 ^ 32 →
    IsTypedOpen S.types old → IsTypedOperand S.types old.operations a → IsTypedOpen S.types mid × IsTypedOperand S.types mid.operations (truth_operand turned (length old.operations))
truth_typed S true a old mid put few open_ typed =
    let h = computed_last S.types old mid (Binary ShiftRight int_type (plain (Constant int_type (pos 1))) a) int_type (plain (Value (length old.operations) int_type)) put few refl refl open_ (refl, typed) in
    (h.block, h.operand)
truth_typed S false a old mid put few open_ typed =
    let o = Binary ShiftRight int_type (plain (Constant int_type (pos 1))) a in
    let n = length old.operations in
    let one = with_more old (o ∷ []) in
    let long : length one.operations ≡ suc n = length-append old.operations (o ∷ []) ∙ (omega arith) in
    let put_ : mid ≡ with_more one (Unary Not int_type (plain (Value n int_type)) ∷ []) =
    put ∙ ap (λ os. record old { operations = os }) (sym (append_assoc old.operations (o ∷ []) (Unary Not int_type (plain (Value n int_type)) ∷ []))) in
    let longer_ = ap (λ (z : OpenBlock). length z.operations) put_ ∙ length-append one.operations (Unary Not int_type (plain (Value n int_type)) ∷ []) in
    let h = computed_last S.types old one o int_type (plain (Value n int_type)) refl (omega (arith, few, longer_)) refl refl open_ (refl, typed) in
    let k = computed_last S.types one mid (Unary Not int_type (plain (Value n int_type))) int_type (plain (Value (suc n) int_type)) put_ few
    (ap (λ j. plain (Value j int_type)) (sym long)) refl h.block h.operand in
    (k.block, k.operand)

-- ---- an operand whose truth is kept

module _ (homes : List Home) (note : Note) (e : Expression) (old mid new : OpenBlock) (a : Operand) (first : Evaluates homes e old mid a) (keeps : KeepsTruthAt homes note a mid new) where
  abbrev b : Operand
  b = truth_operand note.turned (length mid.operations)

  abbrev more : List Operation
  more = truth_operations note.turned (length mid.operations) a

  -- what the local is assigned
  abbrev kept : ℤ → Assignment
  kept v = record { target = record { storage = Automatic; variable = note.slot; index = 0; ty = long_int }; value = truth (turned_truth note.turned (not (is_zero v))) }

  abbrev keeping : Memory → Evaluation Assignment
  keeping m = and_then (value e m) (λ v. Gives (kept v) [])

  ready : Prepares homes keeping old keeps.mid keeps.target b
  ready = record {
    storage = Automatic;
    variable = note.slot;
    ty = long_int;
    index = plain (Constant int_type (pos 0));
    operations = first.operations ++ more;
    added = keeps.put ∙ ap (λ z. with_more z more) first.added ∙ ap (λ os. record old { operations = os }) (append_assoc old.operations first.operations more);
    size = 1;
    at = keeps.at;
    below = λ fits. truth_below note.turned (length mid.operations) (length keeps.mid.operations) a (longer homes mid keeps.mid more keeps.put);
    part = λ variables r m x ls fits len holds is.
        let p = parts (value e m) (λ v. Gives (kept v) []) x ls is in
        let g = gives_is (kept p.value) x p.rest p.then_ in
        let s = operations_run variables first.operations r in
        let reads = first.reads variables r m p.value p.first fits len holds p.is in
        let gives = first.gives variables r m p.value p.first fits len holds p.is in
        let told = tells note.turned (length mid.operations) variables s a p.value (length_on homes old mid first.operations first.added variables r len) gives in
        let run = run_append variables first.operations more r in
        let all : ls ≡ p.first ++ [] = p.reads ∙ ap (λ l. p.first ++ l) g.1 in (
          subst (λ z. Reads r z ls) (sym run) (reads_both r s (operations_run variables more s) p.first [] ls reads told.reads all),
          ap (λ (z : Running). record { target = (kept p.value).target; value = operand_value variables z.values b }) run
              ∙ ap (λ z. record { target = (kept p.value).target; value = z }) told.gives ∙ g.0,
          record { read = refl; written = refl; global_read = refl; global_written = refl },
        );
  }

  -- as one step that assigns, but that the step is counted after it
  abbrev stepped : OpenBlock
  stepped = record new { steps = suc new.steps }

  assigned : Assigns homes keeping old stepped
  assigned = assigns homes keeping old keeps.mid new stepped keeps.target b ready keeps.stores refl

  abbrev stores_more : List Operation
  stores_more = store_operations keeps.target b keeps.mid new keeps.stores

  added_after : new.operations ≡ mid.operations ++ (more ++ stores_more)
  added_after =
      store_added keeps.target b keeps.mid new keeps.stores ∙ ap (λ (z : OpenBlock). z.operations ++ stores_more) keeps.put ∙ append_assoc mid.operations more stores_more

  all_operations : assigned.operations ≡ first.operations ++ (more ++ stores_more)
  all_operations =
      append_cancel_left old.operations assigned.operations (first.operations ++ (more ++ stores_more))
      (sym assigned.added ∙ added_after ∙ ap (λ (z : OpenBlock). z.operations ++ (more ++ stores_more)) first.added
      ∙ append_assoc old.operations first.operations (more ++ stores_more))

  module _ (variables : ℕ → ℤ) (r : Running) (m : Memory) (v : ℤ) (ls : List Location) (fits : AreBelow (length old.operations) old.current) (len : length r.values ≡ length old.operations)
      (holds : Holds homes old.current variables m r) (gives : value e m ≡ Gives v ls) where
    abbrev looked : Running
    looked = operations_run variables assigned.operations r

    -- what comes behind it changes no value
    still : operand_value variables looked.values a ≡ v
    still =
        let s = operations_run variables first.operations r in
        let run = ap (λ os. operations_run variables os r) all_operations ∙ run_append variables first.operations (more ++ stores_more) r in
        let rest = values_more variables (more ++ stores_more) s in
        let long = length_on homes old mid first.operations first.added variables r len in
        ap (λ (z : Running). operand_value variables z.values a) run ∙ ap (λ vs. operand_value variables vs a) rest.1
        ∙ operand_stays variables s.values rest.0 a (subst (λ n. IsBelow n a) (sym long) (first.below fits)) ∙ first.gives variables r m v ls fits len holds gives

    looks : HaveHomes homes (length old.current) m.locals → HasElement m.locals note.slot 0 → HasLooked homes (Some note) old.current new.current variables m r looked a v ls
    looks homed there =
        let done = assigned.does variables r m (kept v) (ls ++ []) fits len homed holds (ap (λ E. and_then E (λ x. Gives (kept x) [])) gives) there in
        record {
          accesses = done.accesses ∙ ap (λ l. r.accesses ++ l) (append-nil (reads_of (ls ++ [])) ∙ ap reads_of (append-nil ls));
          gives = still;
          holds = done.holds;
          spares = done.spares;
        }

  pub noted_looks : LooksAt homes (Some note) e old new a
  noted_looks = record {
    operations = assigned.operations;
    added = assigned.added;
    size = assigned.size;
    steps = (let s = assigned.steps in omega (arith, s));
    noted = assigned.noted;
    count = (let c = first.computes.count in let k = longer homes mid keeps.mid more keeps.put in let t = truth_length note.turned (length mid.operations) a in
        let s = store_count keeps.target b keeps.mid new keeps.stores in omega (arith, c, k, t, s));
    typed = λ S fits slot is open_.
        let i = first.computes.typed S fits is open_ in
        let h = truth_typed S note.turned a mid keeps.mid keeps.put keeps.few i.block i.operand in
        let p = place_typed homes (slot_place note.slot) keeps.mid keeps.mid keeps.target
        (scalar_at homes (slot_place note.slot) Automatic note.slot long_int keeps.mid (plain (Constant int_type (pos 0))) keeps.target refl refl keeps.at) S fits slot h.0 in (
          store_typed S.types keeps.target b keeps.mid new keeps.stores keeps.fewer p.target h.1 h.0,
          subst (λ os. IsTypedOperand S.types os a) (sym added_after) (operand_more S.types mid.operations (more ++ stores_more) a i.operand),
        );
    does = λ variables r m v ls fits len homed there holds gives. looks variables r m v ls fits len holds gives homed there;
  }

-- ---- one that is not kept

plain_looks : (homes : List Home) (e : Expression) (old new : OpenBlock) (a : Operand) → Evaluates homes e old new a → LooksAt homes None e old new a
plain_looks homes e old new a first = record {
  operations = first.operations;
  added = ap (λ (z : OpenBlock). z.operations) first.added;
  size = ap (λ (z : OpenBlock). length z.current) first.added;
  steps = ap (λ (z : OpenBlock). z.steps) first.added;
  noted = λ h. subst HasNoted (sym first.added) h;
  count = (let c = first.computes.count in omega (arith, c));
  typed = λ S fits slot is open_. let i = first.computes.typed S fits is open_ in (i.block, i.operand);
  does = λ variables r m v ls fits len homed there holds gives.
      let reads = first.reads variables r m v ls fits len holds gives in
      record {
        accesses = reads.accesses;
        gives = first.gives variables r m v ls fits len holds gives;
        holds = hold_on homes old new first.operations first.added variables r m ls fits len reads holds;
        spares = λ size. record {
          variables_ = λ n lt none. read_held homes old new first.operations first.added variables r m ls fits len reads n;
          arrays_ = λ c none. ap (λ cells. cells c) reads.arrays;
        };
      };
}

pub looks_at : (homes : List Home) (note : Option Note) (e : Expression) (old mid new : OpenBlock) (a : Operand) → Evaluates homes e old mid a → KeepsTruth homes note a mid new →
    LooksAt homes note e old new a
looks_at homes None e old mid new a first is = subst (λ z. LooksAt homes None e old z a) (sym is) (plain_looks homes e old mid a first)
looks_at homes (Some note) e old mid new a first keeps = noted_looks homes note e old mid new a first keeps

-- ---- what the code gives

pub keeps_none : (homes : List Home) (note : Option Note) (a : Operand) (b : OpenBlock) → note ≡ None → KeepsTruth homes note a b b
keeps_none homes note a b is = rw is refl

pub keeps_some : (homes : List Home) (note : Option Note) (n : Note) (a truth_ index : Operand) (t : Target) (old mid new : OpenBlock) → note ≡ Some n →
    mid ≡ with_more old (truth_operations n.turned (length old.operations) a) → truth_ ≡ truth_operand n.turned (length old.operations) → length mid.operations < 2 ^ 32 →
    index ≡ plain (Constant int_type (pos 0)) → t ≡ target_at homes Automatic n.slot 1 long_int index → Stores t truth_ mid new →
    (length mid.operations < 2 ^ 32 → length new.operations < 2 ^ 32) → KeepsTruth homes note a old new
keeps_some homes note n a truth_ index t old mid new is put truth_is few index_is at stores fewer =
    subst (λ z. KeepsTruth homes z a old new) (sym is) (record {
      mid = mid;
      put = put;
      few = few;
      target = t;
      at = at ∙ ap (target_at homes Automatic n.slot 1 long_int) index_is;
      stores = subst (λ z. Stores t z mid new) truth_is stores;
      fewer = fewer;
    })

pub straight_at : (turned : Bool) (a zero_ : Operand) (old mid new : OpenBlock) → turned ≡ false → mid ≡ with_more old (truth_operations true (length old.operations) a) →
    zero_ ≡ plain (Value (length old.operations) int_type) → new ≡ with_more mid (Unary Not int_type zero_ ∷ []) → new ≡ with_more old (truth_operations turned (length old.operations) a)
straight_at turned a zero_ old mid new is first zero_is second =
    second ∙ ap (λ z. with_more mid (Unary Not int_type z ∷ [])) zero_is ∙ ap (λ z. with_more z (Unary Not int_type (plain (Value (length old.operations) int_type)) ∷ [])) first
    ∙ ap (λ os. record old { operations = os })
    (append_assoc old.operations (truth_operations true (length old.operations) a) (Unary Not int_type (plain (Value (length old.operations) int_type)) ∷ []))
    ∙ ap (λ t. with_more old (truth_operations t (length old.operations) a)) (sym is)

pub straight_value : (turned : Bool) (a value_ : Operand) (old mid : OpenBlock) → turned ≡ false → mid ≡ with_more old (truth_operations true (length old.operations) a) →
    value_ ≡ plain (Value (length mid.operations) int_type) → value_ ≡ truth_operand turned (length old.operations)
straight_value turned a value_ old mid is first value_is =
    value_is
    ∙ ap (λ n. plain (Value n int_type))
    (let l = ap (λ (z : OpenBlock). length z.operations) first in let k = length-append old.operations (truth_operations true (length old.operations) a) in
    let e : length mid.operations ≡ suc (length old.operations) = omega (arith, l, k) in e)
    ∙ ap (λ t. truth_operand t (length old.operations)) (sym is)

pub truth_full : (turned : Bool) (a : Operand) (old mid : OpenBlock) (fault : LoweringFault) → mid ≡ with_more old (truth_operations turned (length old.operations) a) →
    IsFull (length mid.operations + 1) fault → IsFull (length old.operations + 3) fault
truth_full turned a old mid fault put full is =
    let h = full is in
    let l = ap (λ (z : OpenBlock). length z.operations) put in
    let k = length-append old.operations (truth_operations turned (length old.operations) a) in
    let t = truth_length turned (length old.operations) a in
    omega (arith, h, l, k, t)

pub keeps_full : (homes : List Home) (e : Expression) (old mid : OpenBlock) (a : Operand) (fault : LoweringFault) → Evaluates homes e old mid a → IsFull (length mid.operations + 3) fault →
    IsFull (length old.operations + (3 * expression_weight e + 4)) fault
keeps_full homes e old mid a fault first full is = let h = full is in let c = first.computes.count in omega (arith, h, c)
