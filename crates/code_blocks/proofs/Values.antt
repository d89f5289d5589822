-- The operations of each kind of expression.
use Rattle.std.proofs.Common.{◌≡◌, ℕ, suc, ◌+◌, ◌*◌, ◌^◌, ◌<◌, Bool, true, false, nat_lt, if◌then◌else◌, List, [], ◌∷◌, ◌++◌, length, ℤ, pos, negsuc, Option, Some, None, refl}
use Rattle.std.proofs.Common.{sym, ap, ◌∙◌, subst, arith, append-nil, append_assoc, length-append}
use Rattle.std.specs.Prelude.{slice_get, Result, Ok, Err, IfOk}
use Rattle.hls_ints.specs.Residues.{residue_of}
use Rattle.hls_ints.specs.Types.{IntegerType, int_type, wrapped}
use Rattle.c_program.specs.declared.tree.Storage.{Storage}
use Rattle.c_program.specs.declared.tree.Storage.TheVariants.{Automatic, Static}
use Rattle.c_program.specs.declared.tree.UnaryOperator.{UnaryOperator}
use Rattle.c_program.specs.declared.tree.UnaryOperator.TheVariants.{Plus}
use Rattle.c_program.specs.declared.tree.BinaryOperator.{BinaryOperator}
use Rattle.c_program.specs.Tree.{Expression}
use Rattle.c_program.specs.Types.{type_of}
use Rattle.thread_semantics.specs.declared.cause.UndefinedCause.TheVariants.{Index}
use Rattle.thread_semantics.specs.Memory.{Location, Memory, Evaluation, Gives, Fails, and_then, element}
use Rattle.thread_semantics.specs.Value.{value, load, local_value as c_local_value, global_value, checked_index, unary_value, binary_value}
use Rattle.block_ir.specs.declared.operand.Source.TheVariants.{Constant as FromConstant, Value as FromValue}
use Rattle.block_ir.specs.declared.operand.Operand.{Operand}
use Rattle.block_ir.specs.declared.block.Operation.{Operation}
use Rattle.block_ir.specs.declared.block.Operation.TheVariants.{Unary, Binary, ReadGlobal, ReadArray}
use Rattle.block_ir.specs.Arithmetic.{unary_total, binary_total}
use Rattle.block_ir.specs.Run.{Read, Running, converted, index_of, place_read, place_written, global_read as element_read, global_written as element_written, source_value}
use Rattle.block_ir.specs.Run.{operand_value, with_value, operations_run}
use Rattle.code_following.specs.Following.{reads_of}
use Rattle.code_blocks.specs.declared.homes.Home.{Home}
use Rattle.code_blocks.specs.declared.homes.Home.TheVariants as home
use Rattle.code_blocks.specs.declared.places.Target.{Target}
use Rattle.code_blocks.specs.declared.places.Target.TheVariants as target
use Rattle.code_blocks.specs.declared.open_block.OpenBlock.{OpenBlock}
use Rattle.code_blocks.specs.Needs.{plain, IsConverted, IsBelow, AreBelow}
use Rattle.code_blocks.specs.Typing.{Computes}
use Rattle.code_blocks.specs.Evaluating.{current_operand, current_value, local_target, target_at, load_block, loaded, with_more, local_value, Holds, Reads, Evaluates}
use Rattle.code_blocks.proofs.TypedExpressions.{constant_computes, variable_computes, element_computes, unary_computes, converted_computes, binary_computes}
use Rattle.code_blocks.proofs.Operators.{gives_same, unary_right, binary_right}
use Rattle.code_blocks.proofs.OperationRuns.{parts, last_value, run_append, run_length, operand_kept, holds_on, are_below_more, reads_none, reads_both}

-- what a part of the work on an expression comes to, in a run that goes on from r: reads, and the value of the operand
pub record Comes (variables : ℕ → ℤ) (r s : Running) (a : Operand) (v : ℤ) (ls : List Location) : Type 0 where
  pub reads : Reads r s ls
  pub gives : operand_value variables s.values a ≡ v

pub nothing_added : (b : OpenBlock) → b ≡ with_more b []
nothing_added b = ap (λ os. record b { operations = os }) (sym (append-nil b.operations))

-- an expression that takes no operation
pub no_operation : (homes : List Home) (e : Expression) (b : OpenBlock) (a : Operand) → Computes homes e b b a →
    (AreBelow (length b.operations) b.current → IsBelow (length b.operations) a) →
    ((variables : ℕ → ℤ) (r : Running) (m : Memory) (v : ℤ) (ls : List Location) → Holds homes b.current variables m r → value e m ≡ Gives v ls →
    (operand_value variables r.values a ≡ v) × (ls ≡ [])) →
    Evaluates homes e b b a
no_operation homes e b a computes below gives = record {
  operations = [];
  added = nothing_added b;
  computes = computes;
  below = below;
  reads = λ variables r m v ls fits len holds is. reads_none r ls (gives variables r m v ls holds is).1;
  gives = λ variables r m v ls fits len holds is. (gives variables r m v ls holds is).0;
}

-- some operations after those of an expression e, which make of its value what F makes of it
module _ (homes : List Home) (e e' : Expression) (F : ℤ → Memory → Evaluation ℤ) (old mid new : OpenBlock) (a b : Operand) (more : List Operation) where
  pub after_one : ((m : Memory) → value e' m ≡ and_then (value e m) (λ x. F x m)) → new ≡ with_more mid more → Evaluates homes e old mid a → Computes homes e' old new b →
      (AreBelow (length mid.operations) mid.current → IsBelow (length mid.operations) a → IsBelow (length new.operations) b) →
      ((variables : ℕ → ℤ) (r : Running) (m : Memory) (x v : ℤ) (ls : List Location) → AreBelow (length mid.operations) mid.current → IsBelow (length mid.operations) a →
      length r.values ≡ length mid.operations → Holds homes mid.current variables m r → operand_value variables r.values a ≡ x → F x m ≡ Gives v ls →
      Comes variables r (operations_run variables more r) b v ls) →
      Evaluates homes e' old new b
  after_one same added first computes below comes = record {
    operations = first.operations ++ more;
    computes = computes;
    added = added ∙ ap (λ z. with_more z more) first.added ∙ ap (λ os. record old { operations = os }) (append_assoc old.operations first.operations more);
    below = λ fits. below (fits_on fits) (first.below fits);
    reads = λ variables r m v ls fits len holds is. (all variables r m v ls fits len holds is).reads;
    gives = λ variables r m v ls fits len holds is. (all variables r m v ls fits len holds is).gives;
  }
    where
      current_same : mid.current ≡ old.current
      current_same = ap (λ (z : OpenBlock). z.current) first.added

      longer : length mid.operations ≡ length old.operations + length first.operations
      longer = ap (λ (z : OpenBlock). length z.operations) first.added ∙ length-append old.operations first.operations

      fits_on : AreBelow (length old.operations) old.current → AreBelow (length mid.operations) mid.current
      fits_on fits = subst (AreBelow (length mid.operations)) (sym current_same) (are_below_more (length old.operations) (length mid.operations) old.current (omega (arith, longer)) fits)

      all : (variables : ℕ → ℤ) (r : Running) (m : Memory) (v : ℤ) (ls : List Location) → AreBelow (length old.operations) old.current → length r.values ≡ length old.operations →
          Holds homes old.current variables m r →
          value e' m ≡ Gives v ls → Comes variables r (operations_run variables (first.operations ++ more) r) b v ls
      all variables r m v ls fits len holds is =
          let p = parts (value e m) (λ x. F x m) v ls (sym (same m) ∙ is) in
          let s = operations_run variables first.operations r in
          let reads = first.reads variables r m p.value p.first fits len holds p.is in
          let gives = first.gives variables r m p.value p.first fits len holds p.is in
          let len' : length s.values ≡ length mid.operations = (let l = run_length variables first.operations r in omega (arith, longer, l, len)) in
          let holds' : Holds homes old.current variables m s = holds_on variables homes old.current m r s p.first reads (subst (λ n. AreBelow n old.current) (sym len) fits) holds in
          let last = comes variables s m p.value v p.rest (fits_on fits) (first.below fits) len' (subst (λ c. Holds homes c variables m s) (sym current_same) holds') gives p.then_ in
          let run = run_append variables first.operations more r in
          record {
            reads = subst (λ t. Reads r t ls) (sym run) (reads_both r s (operations_run variables more s) p.first p.rest ls reads last.reads p.reads);
            gives = ap (λ (t : Running). operand_value variables t.values b) run ∙ last.gives;
          }

-- one operation that neither reads nor writes a global
pub pure_reads : (r : Running) (w : ℤ) (ls : List Location) → ls ≡ [] → (variables : ℕ → ℤ) → Reads r (with_value variables w r) ls
pure_reads r w ls e variables = record {
  more = w ∷ [];
  values = refl;
  arrays = refl;
  globals = refl;
  accesses = sym (append-nil r.accesses) ∙ ap (λ l. r.accesses ++ reads_of l) (sym e);
}

pub last_below : (b new : OpenBlock) (o : Operation) → new ≡ with_more b (o ∷ []) → length b.operations < length new.operations
last_below b new o added =
    let e = ap (λ (z : OpenBlock). length z.operations) added ∙ length-append b.operations (o ∷ []) in
    omega arith

pub constant_at : (homes : List Home) (e : Expression) (b : OpenBlock) (ty : IntegerType) (n : ℤ) (a : Operand) →
    e ≡ Expression.Constant ty n → a ≡ plain (FromConstant ty n) → Evaluates homes e b b a
constant_at homes e b ty n a is place =
    rw (is, place)
    (no_operation homes (Expression.Constant ty n) b (plain (FromConstant ty n)) (constant_computes homes ty n b) (λ fits. tt)
    (λ variables r m v ls holds q. gives_same n v ls q))

pub unary_at : (homes : List Home) (e e' : Expression) (operator : UnaryOperator) (ty ty' : IntegerType) (old mid new : OpenBlock) (a b : Operand) →
    e' ≡ Expression.Unary operator ty e → Evaluates homes e old mid a → new ≡ with_more mid (Unary operator ty a ∷ []) → b ≡ plain (FromValue (length mid.operations) ty') →
    ty' ≡ type_of e' → length new.operations < 2 ^ 32 → Evaluates homes e' old new b
unary_at homes e e' operator ty ty' old mid new a b is first added place is_type few =
    after_one homes e e' (λ x m. unary_value operator ty x) old mid new a b (Unary operator ty a ∷ [])
    (λ m. ap (λ z. value z m) is) added first
    (subst (λ z. Computes homes z old new b) (sym is) (unary_computes homes e operator ty ty' old mid new a b first.computes added place (is_type ∙ ap type_of is) few))
    (λ fits below. rw place (last_below mid new (Unary operator ty a) added))
    (λ variables r m x v ls fits below len holds gives q.
    let right = unary_right operator ty x v ls q in
    record {
      reads = pure_reads r (unary_total operator ty (operand_value variables r.values a)) ls right.1 variables;
      gives = rw place (last_value variables r.values (unary_total operator ty (operand_value variables r.values a)) (length mid.operations) len ∙ ap (unary_total operator ty) gives ∙ right.0);
    })

-- a conversion takes no operation
converts : (homes : List Home) (e e' : Expression) (F : ℤ → Memory → Evaluation ℤ) (ty : IntegerType) (old mid : OpenBlock) (a b : Operand) →
    ((m : Memory) → value e' m ≡ and_then (value e m) (λ x. F x m)) → ((x v : ℤ) (m : Memory) (ls : List Location) → F x m ≡ Gives v ls → (wrapped ty x ≡ v) × (ls ≡ [])) →
    Evaluates homes e old mid a → IsConverted ty a b → Computes homes e' old mid b → Evaluates homes e' old mid b
converts homes e e' F ty old mid a b same right first converted_ computes =
    after_one homes e e' F old mid mid a b [] same (nothing_added mid) first computes
    (λ fits below. subst (λ s. IsBelow (length mid.operations) (record { source = s; conversions = b.conversions })) (sym converted_.source) below)
    (λ variables r m x v ls fits below len holds gives q.
    record {
      reads = reads_none r ls (right x v m ls q).1;
      gives =
          ap (λ s. converted b.conversions (source_value variables r.values s)) converted_.source
          ∙ converted_.value (source_value variables r.values a.source)
          ∙ ap (wrapped ty) gives ∙ (right x v m ls q).0;
    })

pub cast_at : (homes : List Home) (e e' : Expression) (ty : IntegerType) (old mid : OpenBlock) (a b : Operand) →
    e' ≡ Expression.Cast ty e → Evaluates homes e old mid a → IsConverted ty a b → Evaluates homes e' old mid b
cast_at homes e e' ty old mid a b is first converted_ =
    converts homes e e' (λ x m. Gives (wrapped ty x) []) ty old mid a b (λ m. ap (λ z. value z m) is)
    (λ x v m ls q. gives_same (wrapped ty x) v ls q) first converted_
    (subst (λ z. Computes homes z old mid b) (sym is)
    (converted_computes homes e (Expression.Cast ty e) ty old mid a b (omega arith) refl (λ S ok. ok) first.computes converted_))

pub plus_at : (homes : List Home) (e e' : Expression) (ty : IntegerType) (old mid : OpenBlock) (a b : Operand) →
    e' ≡ Expression.Unary Plus ty e → Evaluates homes e old mid a → IsConverted ty a b → Evaluates homes e' old mid b
plus_at homes e e' ty old mid a b is first converted_ =
    converts homes e e' (λ x m. unary_value Plus ty x) ty old mid a b (λ m. ap (λ z. value z m) is)
    (λ x v m ls q. unary_right Plus ty x v ls q) first converted_
    (subst (λ z. Computes homes z old mid b) (sym is)
    (converted_computes homes e (Expression.Unary Plus ty e) ty old mid a b (omega arith) refl (λ S ok. ok.1) first.computes converted_))

pub binary_at : (homes : List Home) (e f e' : Expression) (operator : BinaryOperator) (ty ty' : IntegerType) (old mid last new : OpenBlock) (a b c : Operand) →
    e' ≡ Expression.Binary operator ty e f → Evaluates homes e old mid a → Evaluates homes f mid last b →
    new ≡ with_more last (Binary operator ty a b ∷ []) → c ≡ plain (FromValue (length last.operations) ty') → ty' ≡ type_of e' → length new.operations < 2 ^ 32 →
    Evaluates homes e' old new c
binary_at homes e f e' operator ty ty' old mid last new a b c is first second added place is_type few =
    after_one homes e e' (λ x m. and_then (value f m) (λ y. binary_value operator ty x y)) old mid new a c (second.operations ++ Binary operator ty a b ∷ [])
    (λ m. ap (λ z. value z m) is)
    (added ∙ ap (λ z. with_more z (Binary operator ty a b ∷ [])) second.added ∙ ap (λ os. record mid { operations = os }) (append_assoc mid.operations second.operations (Binary operator ty a b ∷ [])))
    first
    (subst (λ z. Computes homes z old new c) (sym is)
    (binary_computes homes e f operator ty ty' old mid last new second.operations a b c first.computes second.computes (ap (λ (z : OpenBlock). z.operations) second.added) added place
    (is_type ∙ ap type_of is) few))
    (λ fits below. rw place (last_below last new (Binary operator ty a b) added))
    (λ variables r m x v ls fits below len holds gives q.
    let p = parts (value f m) (λ y. binary_value operator ty x y) v ls q in
    let s = operations_run variables second.operations r in
    let reads = second.reads variables r m p.value p.first fits len holds p.is in
    let right = second.gives variables r m p.value p.first fits len holds p.is in
    let left : operand_value variables s.values a ≡ x = operand_kept variables r s p.first a reads (subst (λ n. IsBelow n a) (sym len) below) ∙ gives in
    let total = binary_right operator ty x p.value v p.rest p.then_ in
    let w = binary_total operator ty (operand_value variables s.values a) (operand_value variables s.values b) in
    let len' : length s.values ≡ length last.operations =
    (let l = run_length variables second.operations r in
    let k = ap (λ (z : OpenBlock). length z.operations) second.added ∙ length-append mid.operations second.operations in
    omega (arith, l, k, len)) in
    let run = run_append variables second.operations (Binary operator ty a b ∷ []) r in
    record {
      reads = subst (λ t. Reads r t ls) (sym run) (reads_both r s (with_value variables w s) p.first p.rest ls reads (pure_reads s w p.rest total.1 variables) p.reads);
      gives =
          ap (λ (t : Running). operand_value variables t.values c) run
          ∙ rw place
          (last_value variables s.values w (length last.operations) len'
          ∙ ap (λ z. binary_total operator ty z (operand_value variables s.values b)) left ∙ ap (binary_total operator ty x) right ∙ total.0);
    })

-- What stands somewhere is read.

abbrev pub load_operations : Target → List Operation
load_operations (target.Variable n ty) = []
load_operations (target.Array a n ty index) = ReadArray a n index ∷ []
load_operations (target.Global g n ty index) = ReadGlobal g n index ∷ []

pub load_added : (t : Target) (b : OpenBlock) → load_block t b ≡ with_more b (load_operations t)
load_added (target.Variable n ty) b = nothing_added b
load_added (target.Array a n ty index) b = refl
load_added (target.Global g n ty index) b = refl

current_below : (o : Option (Option Operand)) (b : OpenBlock) (n : ℕ) (ty : IntegerType) → slice_get b.current n ≡ o → AreBelow (length b.operations) b.current →
    IsBelow (length b.operations) (current_operand o n ty)
current_below (Some (Some a)) b n ty e fits = fits n a e
current_below (Some None) b n ty e fits = tt
current_below None b n ty e fits = tt

pub loaded_below : (t : Target) (b new : OpenBlock) → new ≡ load_block t b → AreBelow (length b.operations) b.current → IsBelow (length new.operations) (loaded t b)
loaded_below (target.Variable n ty) b new e fits =
    rw e (current_below (slice_get b.current n) b n ty refl fits)
loaded_below (target.Array a n ty index) b new e fits = last_below b new (ReadArray a n index) e
loaded_below (target.Global g n ty index) b new e fits = last_below b new (ReadGlobal g n index) e

current_right : (o : Option (Option Operand)) (variables : ℕ → ℤ) (values : List ℤ) (n : ℕ) (ty : IntegerType) →
    operand_value variables values (current_operand o n ty) ≡ current_value o variables values n
current_right (Some (Some a)) variables values n ty = refl
current_right (Some None) variables values n ty = refl
current_right None variables values n ty = refl

local_given : (o : Option (Option ℤ)) (v : ℤ) (ls : List Location) → c_local_value o ≡ Gives v ls → (o ≡ Some (Some v)) × (ls ≡ [])
local_given (Some (Some w)) v ls e = (cc, cc)
local_given (Some None) v ls e = cc
local_given None v ls e = cc

global_given : (place : Location) (o : Option ℤ) (v : ℤ) (ls : List Location) → global_value place o ≡ Gives v ls → (o ≡ Some v) × (ls ≡ place ∷ [])
global_given place (Some w) v ls e = (cc, cc)
global_given place None v ls e = cc

index_at : (b : Bool) (n i j : ℕ) (ls : List Location) → (if b then Gives i [] else Fails Index) ≡ Gives j ls → (i ≡ j) × (ls ≡ [])
index_at true n i j ls e = (cc, cc)
index_at false n i j ls e = cc

-- an index that is inside is what hardware takes it for
pub index_right : (n : ℕ) (i : ℤ) (j : ℕ) (ls : List Location) → checked_index n i ≡ Gives j ls → (index_of i ≡ j) × (ls ≡ [])
index_right n (pos i) j ls e = index_at (nat_lt i n) n i j ls e
index_right n (negsuc i) j ls e = cc

-- it is the place that is read, and the place that is written, of an array and of a global
pub record IsInside (n : ℕ) (i : ℤ) : Type 0 where
  pub read : place_read n i ≡ index_of i
  pub written : place_written n i ≡ index_of i
  pub global_read : element_read n i ≡ index_of i
  pub global_written : element_written n i ≡ index_of i

inside_at : (b : Bool) (n i j : ℕ) (ls : List Location) → nat_lt i n ≡ b → (if b then Gives i [] else Fails Index) ≡ Gives j ls → IsInside n (pos i)
inside_at true n i j ls t e = record {
  read = ap (λ (c : Bool). if c then i else n) t;
  written = ap (λ (c : Bool). if c then i else suc n) t;
  global_read = ap (λ (c : Bool). if c then i else 16 * suc n + residue_of 3 (pos i)) t;
  global_written = ap (λ (c : Bool). if c then i else 16 * suc n + 8 + residue_of 3 (pos i)) t;
}
inside_at false n i j ls t e = cc

pub inside_right : (n : ℕ) (i : ℤ) (j : ℕ) (ls : List Location) → checked_index n i ≡ Gives j ls → IsInside n i
inside_right n (pos i) j ls e = inside_at (nat_lt i n) n i j ls refl e
inside_right n (negsuc i) j ls e = cc

module _ (homes : List Home) (b : OpenBlock) (variables : ℕ → ℤ) (r : Running) (m : Memory) (x j n : ℕ) (ty : IntegerType) (index : Operand)
    (len : length r.values ≡ length b.operations) (holds : Holds homes b.current variables m r) (is_place : place_read n (operand_value variables r.values index) ≡ j)
    (is_element : element_read n (operand_value variables r.values index) ≡ j) where
  local_comes : (o : Option Home) (v : ℤ) (ls : List Location) → ls ≡ [] → local_value o b.current variables r x j ≡ v →
      Comes variables r (operations_run variables (load_operations (local_target o x n ty index)) r) (loaded (local_target o x n ty index) b) v ls
  local_comes (Some (home.Array a)) v ls none is = record {
    reads = pure_reads r (r.arrays a (place_read n (operand_value variables r.values index))) ls none variables;
    gives = last_value variables r.values (r.arrays a (place_read n (operand_value variables r.values index))) (length b.operations) len ∙ ap (r.arrays a) is_place ∙ is;
  }
  local_comes (Some (home.Variable k)) v ls none is = record {
    reads = reads_none r ls none;
    gives = current_right (slice_get b.current k) variables r.values k ty ∙ is;
  }
  local_comes None v ls none is = record {
    reads = reads_none r ls none;
    gives = current_right (slice_get b.current x) variables r.values x ty ∙ is;
  }

  pub load_comes : (storage : Storage) (v : ℤ) (ls : List Location) → load m storage x j ≡ Gives v ls →
      Comes variables r (operations_run variables (load_operations (target_at homes storage x n ty index)) r) (loaded (target_at homes storage x n ty index) b) v ls
  load_comes Automatic v ls q =
      let g = local_given (element m.locals x j) v ls q in
      local_comes (slice_get homes x) v ls g.1 (holds.locals x j v g.0)
  load_comes Static v ls q =
      let g = global_given (record { variable = x; index = j }) (element m.globals x j) v ls q in
      let w = r.globals x (element_read n (operand_value variables r.values index)) in
      record {
        reads = record {
          more = w ∷ [];
          values = refl;
          arrays = refl;
          globals = refl;
          accesses =
              ap (λ k. r.accesses ++ Read x k ∷ []) is_element
              ∙ ap (λ l. r.accesses ++ reads_of l) (sym g.1);
        };
        gives = last_value variables r.values w (length b.operations) len ∙ ap (r.globals x) is_element ∙ holds.globals x j v g.0;
      }

pub variable_at : (homes : List Home) (e : Expression) (storage : Storage) (x : ℕ) (ty : IntegerType) (b new : OpenBlock) (index a : Operand) (t : Target) →
    e ≡ Expression.Variable storage x ty → index ≡ plain (FromConstant int_type (pos 0)) → t ≡ target_at homes storage x 1 ty index →
    new ≡ load_block t b → a ≡ loaded t b → (length b.operations < 2 ^ 32 → length new.operations < 2 ^ 32) → Evaluates homes e b new a
variable_at homes e storage x ty b new index a t is first at added place few =
    rw (is, place) record {
      operations = load_operations t;
      added = added ∙ load_added t b;
      computes = variable_computes homes storage x ty b new index (loaded t b) t first at added refl few;
      below = λ fits. loaded_below t b new added fits;
      reads = λ variables r m v ls fits len holds q. (comes variables r m v ls len holds q).reads;
      gives = λ variables r m v ls fits len holds q. (comes variables r m v ls len holds q).gives;
    }
  where
    comes : (variables : ℕ → ℤ) (r : Running) (m : Memory) (v : ℤ) (ls : List Location) → length r.values ≡ length b.operations → Holds homes b.current variables m r →
        load m storage x 0 ≡ Gives v ls → Comes variables r (operations_run variables (load_operations t) r) (loaded t b) v ls
    comes variables r m v ls len holds q =
        subst (λ z. Comes variables r (operations_run variables (load_operations z) r) (loaded z b) v ls) (sym at)
        (load_comes homes b variables r m x 0 1 ty index len holds (ap (λ i. place_read 1 (operand_value variables r.values i)) first)
        (ap (λ i. element_read 1 (operand_value variables r.values i)) first) storage v ls q)

pub element_at : (homes : List Home) (e e' : Expression) (storage : Storage) (x n : ℕ) (ty : IntegerType) (old mid new : OpenBlock) (index a : Operand) (t : Target) →
    e' ≡ Expression.Element storage x n ty e → Evaluates homes e old mid index → t ≡ target_at homes storage x n ty index →
    new ≡ load_block t mid → a ≡ loaded t mid → (length mid.operations < 2 ^ 32 → length new.operations < 2 ^ 32) → Evaluates homes e' old new a
element_at homes e e' storage x n ty old mid new index a t is first at added place few =
    after_one homes e e' (λ i m. and_then (checked_index n i) (λ j. load m storage x j)) old mid new index a (load_operations t)
    (λ m. ap (λ z. value z m) is)
    (added ∙ load_added t mid) first
    (subst (λ z. Computes homes z old new a) (sym is) (element_computes homes e storage x n ty old mid new index a t first.computes at added place few))
    (λ fits below. rw place (loaded_below t mid new added fits))
    (λ variables r m i v ls fits below len holds gives q.
    let p = parts (checked_index n i) (λ j. load m storage x j) v ls q in
    let inside = index_right n i p.value p.first p.is in
    let within = inside_right n i p.value p.first p.is in
    let read_at : place_read n (operand_value variables r.values index) ≡ p.value = ap (place_read n) gives ∙ within.read ∙ inside.0 in
    let element_is : element_read n (operand_value variables r.values index) ≡ p.value = ap (element_read n) gives ∙ within.global_read ∙ inside.0 in
    let all : ls ≡ p.rest = p.reads ∙ ap (λ l. l ++ p.rest) inside.1 in
    let q' : load m storage x p.value ≡ Gives v ls = p.then_ ∙ ap (λ l. Gives v l) (sym all) in
    rw place
    (subst (λ z. Comes variables r (operations_run variables (load_operations z) r) (loaded z mid) v ls) (sym at)
    (load_comes homes mid variables r m x p.value n ty index len holds read_at element_is storage v ls q')))

-- what a last call answers
pub if_ok_three : {T E : Type 0} {P Q R S : T → Type 0} (r : Result T E) → ((x : T) → P x → Q x → R x → S x) → IfOk r P → IfOk r Q → IfOk r R → IfOk r S
if_ok_three (Ok x) f p q s = f x p q s
if_ok_three (Err e) f p q s = tt

-- what each kind of expression comes to
pub ruleset expression_steps = (constant_at, variable_at, element_at, unary_at, plus_at, binary_at, cast_at)
