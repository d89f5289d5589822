-- The values of a printf are put into variables.
use Rattle.std.proofs.Common.{◌≡◌, ℕ, suc, ◌+◌, ◌<◌, ◌≤◌, List, [], ◌∷◌, ◌++◌, length, ℤ, Option, Some, None, refl, sym, ap, ◌∙◌, subst, ⊎_elim, arith, append-nil, append_assoc}
use Rattle.std.proofs.Common.{length-append, ◌-◌, take, drop, get_or}
use Rattle.std.specs.Prelude.{slice_get, slice_set}
use Rattle.std.proofs.lemmas.List.{length-set, take_all}
use Rattle.lists.proofs.Places.{set_other, set_same, set_element}
use Rattle.hls_ints.specs.Types.{IntegerType, long_int, wrapped}
use Rattle.hls_ints.proofs.Conversions.{residue_of-wrapped}
use Rattle.c_program.specs.declared.tree.Expression.{Expression as ExpressionTree}
use Rattle.c_program.specs.Plain.{expression_of, expressions_of}
use Rattle.c_program.specs.Tree.{Expression}
use Rattle.thread_semantics.specs.Memory.{Location, Memory, Evaluation, Gives, and_then, after_reads}
use Rattle.thread_semantics.specs.Value.{value, values}
use Rattle.block_ir.specs.declared.operand.Operand.{Operand}
use Rattle.block_ir.specs.Run.{Running, operand_value, operations_run}
use Rattle.code_following.specs.Following.{converted_values}
use Rattle.code_blocks.specs.declared.homes.Home.{Home}
use Rattle.code_blocks.specs.declared.homes.Home.TheVariants as home
use Rattle.code_blocks.specs.declared.open_block.OpenBlock.{OpenBlock}
use Rattle.code_blocks.specs.Needs.{IsConverted, SourceIsBelow, IsBelow, AreBelow}
use Rattle.code_blocks.specs.Evaluating.{current_value, local_value, Holds, Reads, Evaluates, held_by}
use Rattle.code_blocks.specs.Assigning.{IsHomed, HaveHomes}
use Rattle.code_blocks.specs.Closing.{HasNoted}
use Rattle.code_blocks.specs.Printing.{HoldWords, converted_argument, converted_arguments, Held, Puts, PutsValue, PutsValues}
use Rattle.code_blocks.proofs.Conversions.{wrapped_by_bits}
use Rattle.code_blocks.proofs.OperationRuns.{parts, current_kept, run_append, run_length, reads_none, reads_both}
use Rattle.code_blocks.proofs.Cells.{row_of}
use Rattle.code_blocks.proofs.Stores.{conversion_right}
use Rattle.code_blocks.proofs.Steps.{gives_is, fits_on, hold_on, read_held}

pub wrapped_twice : (ty : IntegerType) (v : ℤ) → wrapped ty (wrapped ty v) ≡ wrapped ty v
wrapped_twice ty v = wrapped_by_bits ty (wrapped ty v) v (residue_of-wrapped ty v)

-- a variable that no local has may change
module _ (homes : List Home) (current new : List (Option Operand)) (variables : ℕ → ℤ) (n : ℕ) (w : Operand) (m : Memory) (s : Running) (is : new ≡ slice_set current n (Some w))
    (homed : HaveHomes homes n m.locals) where
  spare_local : (x j : ℕ) (row : List (Option ℤ)) (h : Option Home) → IsHomed n h row → local_value h new variables s x j ≡ local_value h current variables s x j
  spare_local x j row None fit = absurd fit
  spare_local x j row (Some (home.Array a)) fit = refl
  spare_local x j row (Some (home.Variable k)) fit =
      ap (λ c. current_value (slice_get c k) variables s.values k) is
      ∙ ap (λ o. current_value o variables s.values k) (set_other current n k (Some w) (λ same. let below = fit.1 in omega arith))

  pub holds_spare : Holds homes current variables m s → Holds homes new variables m s
  holds_spare holds = record {
    locals = λ x j v e.
        let at = row_of m.locals x j (Some v) e in
        spare_local x j at.0 (slice_get homes x) (homed.homed x at.0 at.1) ∙ holds.locals x j v e;
    globals = holds.globals;
  }

pub homes_more : (homes : List Home) (n k : ℕ) (locals : List (List (Option ℤ))) → n ≤ k → HaveHomes homes n locals → HaveHomes homes k locals
homes_more homes n k locals le h = record {
  homed = λ x row e. by (slice_get homes x) row (h.homed x row e);
  variables = h.variables;
  arrays = h.arrays;
}
  where
    by : (o : Option Home) (row : List (Option ℤ)) → IsHomed n o row → IsHomed k o row
    by None row fit = fit
    by (Some (home.Variable j)) row fit = (fit.0, let below = fit.1 in omega arith)
    by (Some (home.Array a)) row fit = tt

pub same_source : (k : ℕ) (a b : Operand) → b.source ≡ a.source → IsBelow k a → IsBelow k b
same_source k a b e below = subst (SourceIsBelow k) (sym e) below

module _ (homes : List Home) (n : ℕ) (ty : IntegerType) (e : Expression) (old mid new : OpenBlock) (a b w : Operand)
    (first : Evaluates homes e old mid a) (one : IsConverted ty a b) (two : IsConverted long_int b w) (current : new.current ≡ slice_set mid.current n (Some w))
    (operations : new.operations ≡ mid.operations) (steps : new.steps ≡ mid.steps) (noted : HasNoted mid → HasNoted new) where
  value_below : AreBelow (length old.operations) old.current → AreBelow (length new.operations) new.current
  value_below fits = λ x o at.
      ⊎_elim
      (λ p. let same : o ≡ w = cc in subst (IsBelow (length new.operations)) (sym same) within)
      (λ p. subst (λ os. IsBelow (length os) o) (sym operations) (fits_on homes old mid first.operations first.added fits x o p.1))
      (set_element mid.current n x (Some w) (Some o) (ap (λ c. slice_get c x) (sym current) ∙ at))
    where
      within : IsBelow (length new.operations) w
      within = subst (λ os. IsBelow (length os) w) (sym operations) (same_source (length mid.operations) a w (two.source ∙ one.source) (first.below fits))

  pub puts_value : PutsValue homes n ty e old new
  puts_value = record {
    operations = first.operations;
    added = operations ∙ ap (λ (z : OpenBlock). z.operations) first.added;
    size = ap length current ∙ length-set mid.current n (Some w) ∙ ap (λ (z : OpenBlock). length z.current) first.added;
    steps = steps ∙ ap (λ (z : OpenBlock). z.steps) first.added;
    noted = λ h. noted (subst HasNoted (sym first.added) h);
    below = value_below;
    kept = λ x lt.
        ap (λ c. slice_get c x) current ∙ set_other mid.current n x (Some w) (λ same. omega arith)
        ∙ ap (λ (z : OpenBlock). slice_get z.current x) first.added;
    does = λ variables r m ws ls fits len homed room holds is.
        let p = parts (value e m) (λ v. Gives (wrapped ty v ∷ []) []) ws ls is in
        let g = gives_is (wrapped ty p.value ∷ []) ws p.rest p.then_ in
        let s = operations_run variables first.operations r in
        let reads = first.reads variables r m p.value p.first fits len holds p.is in
        let gives = first.gives variables r m p.value p.first fits len holds p.is in
        let all : ls ≡ p.first = p.reads ∙ ap (λ l. p.first ++ l) g.1 ∙ append-nil p.first in
        let one_word : length ws ≡ 1 = sym (ap length g.0) in
        let known : n < length mid.current = (let size = ap (λ (z : OpenBlock). length z.current) first.added in omega (arith, size, room, one_word)) in
        let at : slice_get new.current n ≡ Some (Some w) = ap (λ c. slice_get c n) current ∙ set_same mid.current n (Some w) known in
        let right : operand_value variables s.values w ≡ wrapped long_int (wrapped ty p.value) = conversion_right variables s.values long_int b w (wrapped ty p.value) two
        (conversion_right variables s.values ty a b p.value one gives) in
        let word : wrapped long_int (held_by new.current variables s.values n) ≡ wrapped long_int (wrapped ty p.value) =
        ap (λ o. wrapped long_int (current_value o variables s.values n)) at ∙ ap (wrapped long_int) right ∙ wrapped_twice long_int (wrapped ty p.value) in
        record {
          reads = subst (λ l. Reads r s l) (sym all) reads;
          holds = holds_spare homes mid.current new.current variables n w m s current homed (hold_on homes old mid first.operations first.added variables r m p.first fits len reads holds);
          words = subst (HoldWords (held_by new.current variables s.values) n) g.0 (word, tt);
          spares = record {
            variables_ = λ i lt none.
                ap (λ c. current_value (slice_get c i) variables s.values i) current
                ∙ ap (λ o. current_value o variables s.values i) (set_other mid.current n i (Some w) (λ same. omega arith))
                ∙ read_held homes old mid first.operations first.added variables r m p.first fits len reads i;
            arrays_ = λ a none. ap (λ cells. cells a) reads.arrays;
          };
        };
  }

pub puts_none : (homes : List Home) (n : ℕ) (F : Memory → Evaluation (List ℤ)) (b : OpenBlock) → ((m : Memory) → F m ≡ Gives [] []) → Puts homes n F b b
puts_none homes n F b none = record {
  operations = [];
  added = sym (append-nil b.operations);
  size = refl;
  steps = refl;
  noted = λ h. h;
  below = λ fits. fits;
  kept = λ x lt. refl;
  does = λ variables r m ws ls fits len homed room holds is.
      let g = gives_is [] ws ls (sym (none m) ∙ is) in
      record {
        reads = reads_none r ls g.1;
        holds = holds;
        words = subst (HoldWords (held_by b.current variables r.values) n) g.0 tt;
        spares = record { variables_ = λ i lt none. refl; arrays_ = λ a none. refl };
      };
}

module _ (homes : List Home) (n : ℕ) (ty : IntegerType) (types : List IntegerType) (e : Expression) (es : List Expression) (old mid new : OpenBlock)
    (first : PutsValue homes n ty e old mid) (second : PutsValues homes (suc n) types es mid new) where
  pub puts_more : PutsValues homes n (ty ∷ types) (e ∷ es) old new
  puts_more = record {
    operations = first.operations ++ second.operations;
    added = second.added ∙ ap (λ os. os ++ second.operations) first.added ∙ append_assoc old.operations first.operations second.operations;
    size = second.size ∙ first.size;
    steps = second.steps ∙ first.steps;
    noted = λ h. second.noted (first.noted h);
    below = λ fits. second.below (first.below fits);
    kept = λ x lt. second.kept x (omega arith) ∙ first.kept x lt;
    does = λ variables r m ws ls fits len homed room holds is.
        let p = parts (value e m) (λ v. and_then (converted_arguments types es m) (λ vs. Gives (wrapped ty v ∷ vs) [])) ws ls is in
        let q = parts (converted_arguments types es m) (λ vs. Gives (wrapped ty p.value ∷ vs) []) ws p.rest p.then_ in
        let g = gives_is (wrapped ty p.value ∷ q.value) ws q.rest q.then_ in
        let s = operations_run variables first.operations r in
        let u = operations_run variables second.operations s in
        let long : suc (length q.value) ≡ length ws = ap length g.0 in
        let is1 : converted_argument ty e m ≡ Gives (wrapped ty p.value ∷ []) (p.first ++ []) = ap (λ z. and_then z (λ v. Gives (wrapped ty v ∷ []) [])) p.is in
        let room1 : n + 1 ≤ length old.current = omega (arith, long, room) in
        let one = first.does variables r m (wrapped ty p.value ∷ []) (p.first ++ []) fits len homed room1 holds is1 in
        let len' : length s.values ≡ length mid.operations =
        (let l = run_length variables first.operations r in let k = ap length first.added ∙ length-append old.operations first.operations in omega (arith, l, k, len)) in
        let room2 : suc n + length q.value ≤ length mid.current = (let size = first.size in omega (arith, size, long, room)) in
        let two = second.does variables s m q.value q.first (first.below fits) len' (homes_more homes n (suc n) m.locals (omega arith) homed) room2 one.holds q.is in
        let all : ls ≡ (p.first ++ []) ++ q.first =
        p.reads ∙ ap (λ l. p.first ++ l) (q.reads ∙ ap (λ l. q.first ++ l) g.1 ∙ append-nil q.first) ∙ ap (λ l. l ++ q.first) (sym (append-nil p.first)) in
        let run = run_append variables first.operations second.operations r in
        let fits_s : AreBelow (length s.values) mid.current = subst (λ k. AreBelow k mid.current) (sym len') (first.below fits) in
        let same : held_by new.current variables u.values n ≡ held_by mid.current variables s.values n =
        ap (λ o. current_value o variables u.values n) (second.kept n (omega arith)) ∙ current_kept variables homes mid.current m s u q.first two.reads fits_s n (slice_get mid.current n) refl in
        let words : HoldWords (held_by new.current variables u.values) n (wrapped ty p.value ∷ q.value) = (ap (wrapped long_int) same ∙ one.words.0, two.words) in
        subst (λ z. Held homes old.current new.current variables n m r z ws ls) (sym run)
        (record {
          reads = reads_both r s u (p.first ++ []) q.first ls one.reads two.reads all;
          holds = two.holds;
          words = subst (HoldWords (held_by new.current variables u.values) n) g.0 words;
          spares = record {
            variables_ = λ i lt none. two.spares.variables_ i (omega arith) none ∙ one.spares.variables_ i lt none;
            arrays_ = λ a none. two.spares.arrays_ a none ∙ one.spares.arrays_ a none;
          };
        });
  }

-- the two lists end
pub types_none : (homes : List Home) (n : ℕ) (types : List IntegerType) (es : List Expression) (b : OpenBlock) → length types < 1 → PutsValues homes n types es b b
types_none homes n [] es b few = puts_none homes n (λ m. converted_arguments [] es m) b (λ m. refl)
types_none homes n (ty ∷ types) es b few = absurd (omega arith)

pub arguments_none : (homes : List Home) (n : ℕ) (types : List IntegerType) (trees : List ExpressionTree) (b : OpenBlock) → length trees < 1 → PutsValues homes n types (expressions_of trees) b b
arguments_none homes n types [] b few = puts_none homes n (λ m. converted_arguments types [] m) b (nothing types)
  where
    nothing : (types : List IntegerType) (m : Memory) → converted_arguments types [] m ≡ Gives [] []
    nothing [] m = refl
    nothing (ty ∷ types) m = refl
arguments_none homes n types (e ∷ trees) b few = absurd (omega arith)

-- the lists behind their first elements
pub rest_is : {A : Type 0} (x : A) (xs : List A) → take (suc (length xs) - 1) xs ≡ xs
rest_is x xs = ap (λ k. take k xs) (let e : suc (length xs) - 1 ≡ length xs = omega arith in e) ∙ take_all (length xs) xs (omega arith)

pub values_more : (homes : List Home) (n next : ℕ) (types rest : List IntegerType) (trees others : List ExpressionTree) (ty : IntegerType) (e : ExpressionTree) (old mid new : OpenBlock) →
    1 ≤ length types → 1 ≤ length trees → ty ≡ get_or types 0 ty → e ≡ get_or trees 0 e → rest ≡ take (length types - 1) (drop 1 types) → others ≡ take (length trees - 1) (drop 1 trees) → next ≡ n →
    PutsValue homes n ty (expression_of e) old mid → PutsValues homes (next + 1) rest (expressions_of others) mid new → PutsValues homes n types (expressions_of trees) old new
values_more homes n next [] rest trees others ty e old mid new some others_some first front rest_are others_are same one two = absurd (omega arith)
values_more homes n next (t ∷ ts) rest [] others ty e old mid new some others_some first front rest_are others_are same one two = absurd (omega arith)
values_more homes n next (t ∷ ts) rest (x ∷ xs) others ty e old mid new some others_some first front rest_are others_are same one two =
    let begins : PutsValue homes n t (expression_of x) old mid =
    subst (λ z. PutsValue homes n z (expression_of x) old mid) first (subst (λ z. PutsValue homes n ty (expression_of z) old mid) front one) in
    let number : next + 1 ≡ suc n = omega arith in
    let goes_on : PutsValues homes (suc n) ts (expressions_of xs) mid new =
    subst (λ k. PutsValues homes k ts (expressions_of xs) mid new) number
    (subst (λ l. PutsValues homes (next + 1) l (expressions_of xs) mid new) (rest_are ∙ rest_is t ts)
    (subst (λ l. PutsValues homes (next + 1) rest (expressions_of l) mid new) (others_are ∙ rest_is x xs) two)) in
    puts_more homes n t ts (expression_of x) (expressions_of xs) old mid new begins goes_on

-- the arguments' values, converted
pub arguments_converted : (types : List IntegerType) (es : List Expression) (m : Memory) (vs : List ℤ) (ls : List Location) → length types ≡ length es → values es m ≡ Gives vs ls →
    converted_arguments types es m ≡ Gives (converted_values types vs) ls
arguments_converted [] es m vs ls same is = nothing es same is
  where
    nothing : (es : List Expression) → 0 ≡ length es → values es m ≡ Gives vs ls → converted_arguments [] es m ≡ Gives [] ls
    nothing [] none q = ap (λ l. Gives [] l) (sym (gives_is [] vs ls q).1)
    nothing (e ∷ es) none q = absurd (omega arith)
arguments_converted (ty ∷ types) [] m vs ls same is = absurd (omega arith)
arguments_converted (ty ∷ types) (e ∷ es) m vs ls same is =
    let p = parts (value e m) (λ v. and_then (values es m) (λ ws. Gives (v ∷ ws) [])) vs ls is in
    let q = parts (values es m) (λ ws. Gives (p.value ∷ ws) []) vs p.rest p.then_ in
    let g = gives_is (p.value ∷ q.value) vs q.rest q.then_ in
    let rest = arguments_converted types es m q.value q.first (omega arith) q.is in
    let all : ls ≡ p.first ++ (q.first ++ []) = p.reads ∙ ap (λ l. p.first ++ l) (q.reads ∙ ap (λ l. q.first ++ l) g.1) in
    ap (λ z. and_then z (λ v. and_then (converted_arguments types es m) (λ ws. Gives (wrapped ty v ∷ ws) []))) p.is
    ∙ ap (λ z. after_reads p.first (and_then z (λ ws. Gives (wrapped ty p.value ∷ ws) []))) rest
    ∙ ap (λ l. Gives (wrapped ty p.value ∷ converted_values types q.value) l) (sym all)
    ∙ ap (λ ws. Gives (converted_values (ty ∷ types) ws) ls) g.0
