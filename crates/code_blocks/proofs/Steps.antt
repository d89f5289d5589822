-- Steps that assign.
use Rattle.std.proofs.Common.{◌≡◌, ℕ, suc, ◌+◌, ◌≤◌, List, [], ◌∷◌, ◌++◌, length, ℤ, pos, Some, refl, sym, ap, ◌∙◌, subst, arith, append-nil, append_assoc, length-append}
use Rattle.std.specs.Prelude.{slice_get, slice_set}
use Rattle.hls_ints.specs.Types.{IntegerType, int_type}
use Rattle.c_program.specs.declared.tree.Storage.{Storage}
use Rattle.c_program.specs.declared.tree.BinaryOperator.{BinaryOperator}
use Rattle.c_program.specs.Tree.{Expression, Place}
use Rattle.thread_semantics.specs.Memory.{Location, Memory, Evaluation, Gives, and_then}
use Rattle.thread_semantics.specs.Value.{value, load, checked_index, binary_value}
use Rattle.thread_semantics.specs.Move.{Target as CTarget, Assignment, target_of, assignment, update}
use Rattle.block_ir.specs.declared.operand.Operand.{Operand}
use Rattle.block_ir.specs.declared.operand.Source.TheVariants.{Constant as FromConstant, Value as FromValue}
use Rattle.block_ir.specs.declared.block.Operation.{Operation}
use Rattle.block_ir.specs.declared.block.Operation.TheVariants.{Binary, WriteArray, WriteGlobal}
use Rattle.block_ir.specs.Arithmetic.{binary_total}
use Rattle.block_ir.specs.Run.{Running, index_of, operand_value, with_value, operations_run}
use Rattle.code_following.specs.Following.{reads_of}
use Rattle.code_blocks.specs.declared.homes.Home.{Home}
use Rattle.code_blocks.specs.declared.places.Target.{Target}
use Rattle.code_blocks.specs.declared.places.Target.TheVariants as target
use Rattle.code_blocks.specs.declared.open_block.OpenBlock.{OpenBlock}
use Rattle.code_blocks.specs.Needs.{plain, IsConverted, IsBelow, AreBelow}
use Rattle.code_blocks.specs.Evaluating.{current_value, target_at, load_block, loaded, with_more, Holds, Reads, Evaluates}
use Rattle.code_blocks.specs.Closing.{HasNoted}
use Rattle.code_blocks.specs.Assigning.{Stores, Places, HaveHomes, IsThere, writes_of, Assigned, Assigns}
use Rattle.code_blocks.proofs.Operators.{binary_right}
use Rattle.code_blocks.proofs.OperationRuns.{parts, last_value, run_append, run_length, operand_kept, current_kept, holds_on, below_more, are_below_more, reads_none, reads_both}
use Rattle.code_blocks.proofs.Values.{Comes, nothing_added, pure_reads, last_below, load_operations, load_added, load_comes, index_right, IsInside, inside_right}
use Rattle.code_blocks.proofs.Stores.{store_operations, store_added, store_size, store_steps, store_noted, store_below, store_done}

pub gives_is : {A : Type 0} (w v : A) (ls : List Location) → Gives w [] ≡ Gives v ls → (w ≡ v) × (ls ≡ [])
gives_is w v ls e = (cc, cc)

abbrev pub c_target : Storage → ℕ → IntegerType → ℤ → CTarget
c_target storage x ty i = record { storage = storage; variable = x; index = index_of i; ty = ty }

place_is : (storage : Storage) (x : ℕ) (ty : IntegerType) (i j : ℤ) (k : ℕ) (v : CTarget) → i ≡ j → index_of j ≡ k → record { storage = storage; variable = x; index = k; ty = ty } ≡ v →
    c_target storage x ty i ≡ v
place_is storage x ty i j k v same inside is = ap (c_target storage x ty) same ∙ ap (λ n. record { storage = storage; variable = x; index = n; ty = ty }) inside ∙ is

-- the same, and the index of a place lies in its array
abbrev pub PartAt : {A : Type 0} → List Home → OpenBlock → List Operation → (Memory → Evaluation A) → ((ℕ → ℤ) → Running → A) → ℕ → Operand → Type 0
PartAt {A = A} homes old operations F get size index =
    (variables : ℕ → ℤ) (r : Running) (m : Memory) (v : A) (ls : List Location) → AreBelow (length old.operations) old.current → length r.values ≡ length old.operations →
    Holds homes old.current variables m r → F m ≡ Gives v ls → Reads r (operations_run variables operations r) ls × (get variables (operations_run variables operations r) ≡ v)
    × IsInside size (operand_value variables (operations_run variables operations r).values index)

-- the index of a place is computed
pub record Located (homes : List Home) (place : Place) (old new : OpenBlock) (t : Target) : Type 0 where
  pub storage : Storage
  pub variable : ℕ
  pub ty : IntegerType
  pub index : Operand
  pub operations : List Operation
  pub added : new ≡ with_more old operations
  pub size : ℕ
  pub at : t ≡ target_at homes storage variable size ty index
  pub below : AreBelow (length old.operations) old.current → IsBelow (length new.operations) index
  pub part : PartAt homes old operations (λ m. target_of place m) (λ variables r. c_target storage variable ty (operand_value variables r.values index)) size index

pub located : (homes : List Home) (place : Place) (old new : OpenBlock) (t : Target) → Places homes place old new t → Located homes place old new t
located homes (Place.Scalar storage x ty) old new t p = record {
  storage = storage;
  variable = x;
  ty = ty;
  index = plain (FromConstant int_type (pos 0));
  operations = [];
  added = p.same ∙ nothing_added old;
  size = 1;
  at = p.at;
  below = λ fits. tt;
  part = λ variables r m v ls fits len holds is.
      let g = gives_is (c_target storage x ty (pos 0)) v ls is in
      (reads_none r ls g.1, g.0, record { read = refl; written = refl; global_read = refl; global_written = refl });
}
located homes (Place.Element storage x n ty e) old new t p = record {
  storage = storage;
  variable = x;
  ty = ty;
  index = p.index;
  operations = p.evaluates.operations;
  added = p.evaluates.added;
  size = n;
  at = p.at;
  below = p.evaluates.below;
  part = λ variables r m v ls fits len holds is.
      let q = parts (value e m) (λ i. and_then (checked_index n i) (λ j. Gives (record { storage = storage; variable = x; index = j; ty = ty }) [])) v ls is in
      let k = parts (checked_index n q.value) (λ j. Gives (record { storage = storage; variable = x; index = j; ty = ty }) []) v q.rest q.then_ in
      let inside = index_right n q.value k.value k.first k.is in
      let g = gives_is (record { storage = storage; variable = x; index = k.value; ty = ty }) v k.rest k.then_ in
      let none : q.rest ≡ [] = k.reads ∙ ap (λ l. l ++ k.rest) inside.1 ∙ g.1 in
      let all : ls ≡ q.first = q.reads ∙ ap (λ l. q.first ++ l) none ∙ append-nil q.first in
      let s = operations_run variables p.evaluates.operations r in
      let given = p.evaluates.gives variables r m q.value q.first fits len holds q.is in (
        subst (λ l. Reads r s l) (sym all) (p.evaluates.reads variables r m q.value q.first fits len holds q.is),
        place_is storage x ty (operand_value variables s.values p.index) q.value k.value v given inside.0 g.0,
        subst (IsInside n) (sym given) (inside_right n q.value k.value k.first k.is),
      );
}

-- what follows operations that only read
module _ (homes : List Home) (old mid : OpenBlock) (operations : List Operation) (added : mid ≡ with_more old operations) where
  pub current_same : mid.current ≡ old.current
  current_same = ap (λ (z : OpenBlock). z.current) added

  pub longer : length mid.operations ≡ length old.operations + length operations
  longer = ap (λ (z : OpenBlock). length z.operations) added ∙ length-append old.operations operations

  pub fits_on : AreBelow (length old.operations) old.current → AreBelow (length mid.operations) mid.current
  fits_on fits = subst (AreBelow (length mid.operations)) (sym current_same) (are_below_more (length old.operations) (length mid.operations) old.current (omega (arith, longer)) fits)

  pub length_on : (variables : ℕ → ℤ) (r : Running) → length r.values ≡ length old.operations → length (operations_run variables operations r).values ≡ length mid.operations
  length_on variables r len = let l = run_length variables operations r in omega (arith, longer, l, len)

  pub hold_on : (variables : ℕ → ℤ) (r : Running) (m : Memory) (ls : List Location) → AreBelow (length old.operations) old.current → length r.values ≡ length old.operations →
      Reads r (operations_run variables operations r) ls → Holds homes old.current variables m r → Holds homes mid.current variables m (operations_run variables operations r)
  hold_on variables r m ls fits len reads holds =
      subst (λ c. Holds homes c variables m (operations_run variables operations r)) (sym current_same)
      (holds_on variables homes old.current m r (operations_run variables operations r) ls reads (subst (λ n. AreBelow n old.current) (sym len) fits) holds)

  -- each variable holds what it held
  pub read_held : (variables : ℕ → ℤ) (r : Running) (m : Memory) (ls : List Location) → AreBelow (length old.operations) old.current → length r.values ≡ length old.operations →
      Reads r (operations_run variables operations r) ls → (i : ℕ) →
      current_value (slice_get mid.current i) variables (operations_run variables operations r).values i ≡ current_value (slice_get old.current i) variables r.values i
  read_held variables r m ls fits len reads i =
      ap (λ c. current_value (slice_get c i) variables (operations_run variables operations r).values i) current_same
      ∙ current_kept variables homes old.current m r (operations_run variables operations r) ls reads (subst (λ n. AreBelow n old.current) (sym len) fits) i (slice_get old.current i) refl

-- the target and the value of an assignment are computed
pub record Prepares (homes : List Home) (F : Memory → Evaluation Assignment) (old new : OpenBlock) (t : Target) (a : Operand) : Type 0 where
  pub storage : Storage
  pub variable : ℕ
  pub ty : IntegerType
  pub index : Operand
  pub operations : List Operation
  pub added : new ≡ with_more old operations
  pub size : ℕ
  pub at : t ≡ target_at homes storage variable size ty index
  pub below : AreBelow (length old.operations) old.current → IsBelow (length new.operations) a
  pub part : PartAt homes old operations F
      (λ variables r. record { target = c_target storage variable ty (operand_value variables r.values index); value = operand_value variables r.values a }) size index

-- the right side, then the index
assignment_prepares : (homes : List Home) (place : Place) (e : Expression) (old mid new : OpenBlock) (t : Target) (a : Operand) →
    Evaluates homes e old mid a → Located homes place mid new t → Prepares homes (λ m. assignment place e m) old new t a
assignment_prepares homes place e old mid new t a first loc = record {
  storage = loc.storage;
  variable = loc.variable;
  ty = loc.ty;
  index = loc.index;
  operations = first.operations ++ loc.operations;
  added = loc.added ∙ ap (λ z. with_more z loc.operations) first.added ∙ ap (λ os. record old { operations = os }) (append_assoc old.operations first.operations loc.operations);
  size = loc.size;
  at = loc.at;
  below = λ fits. below_more (length mid.operations) (length new.operations) a (let l = longer homes mid new loc.operations loc.added in omega (arith, l)) (first.below fits);
  part = λ variables r m v ls fits len holds is.
      let p = parts (value e m) (λ x. and_then (target_of place m) (λ target. Gives (record { target = target; value = x }) [])) v ls is in
      let q = parts (target_of place m) (λ target. Gives (record { target = target; value = p.value }) []) v p.rest p.then_ in
      let g = gives_is (record { target = q.value; value = p.value }) v q.rest q.then_ in
      let s = operations_run variables first.operations r in
      let reads = first.reads variables r m p.value p.first fits len holds p.is in
      let gives = first.gives variables r m p.value p.first fits len holds p.is in
      let len' = length_on homes old mid first.operations first.added variables r len in
      let last = loc.part variables s m q.value q.first (fits_on homes old mid first.operations first.added fits) len'
      (hold_on homes old mid first.operations first.added variables r m p.first fits len reads holds) q.is in
      let u = operations_run variables loc.operations s in
      let kept : operand_value variables u.values a ≡ p.value = operand_kept variables s u q.first a last.0 (subst (λ n. IsBelow n a) (sym len') (first.below fits)) ∙ gives in
      let all : ls ≡ p.first ++ q.first = p.reads ∙ ap (λ l. p.first ++ l) (q.reads ∙ ap (λ l. q.first ++ l) g.1 ∙ append-nil q.first) in
      let run = run_append variables first.operations loc.operations r in (
        subst (λ z. Reads r z ls) (sym run) (reads_both r s u p.first q.first ls reads last.0 all),
        ap (λ (z : Running). record { target = c_target loc.storage loc.variable loc.ty (operand_value variables z.values loc.index); value = operand_value variables z.values a }) run
            ∙ ap (λ target. record { target = target; value = operand_value variables u.values a }) last.1
            ∙ ap (λ x. record { target = q.value; value = x }) kept ∙ g.0,
        subst (λ (z : Running). IsInside loc.size (operand_value variables z.values loc.index)) (sym run) last.2,
      );
}

-- a prepared assignment is stored
pub assigns : (homes : List Home) (F : Memory → Evaluation Assignment) (old mid last new : OpenBlock) (t : Target) (a : Operand) →
    Prepares homes F old mid t a → Stores t a mid last → new ≡ record last { steps = suc last.steps } → Assigns homes F old new
assigns homes F old mid last new t a p st stepped = record {
  operations = p.operations ++ (store_operations t a mid last st);
  added =
      ap (λ (z : OpenBlock). z.operations) stepped ∙ store_added t a mid last st
      ∙ ap (λ (z : OpenBlock). z.operations ++ (store_operations t a mid last st)) p.added ∙ append_assoc old.operations p.operations (store_operations t a mid last st);
  size = ap (λ (z : OpenBlock). length z.current) stepped ∙ store_size t a mid last st ∙ ap (λ (z : OpenBlock). length z.current) p.added;
  steps = ap (λ (z : OpenBlock). z.steps) stepped ∙ ap suc (store_steps t a mid last st ∙ ap (λ (z : OpenBlock). z.steps) p.added);
  noted = λ h. subst HasNoted (sym stepped) (store_noted t a mid last st (subst HasNoted (sym p.added) h));
  below = λ fits. subst (AreBelow (length new.operations)) (sym (ap (λ (z : OpenBlock). z.current) stepped))
      (store_below t a mid last (length new.operations) st
      (below_more (length mid.operations) (length new.operations) a most (p.below fits))
      (are_below_more (length mid.operations) (length new.operations) mid.current most (fits_on homes old mid p.operations p.added fits)));
  does = λ variables r m v ls fits len homed holds is there.
      let both = p.part variables r m v ls fits len holds is in
      let s = operations_run variables p.operations r in
      let i = operand_value variables s.values p.index in
      let x = operand_value variables s.values a in
      let len' = length_on homes old mid p.operations p.added variables r len in
      let fits' : AreBelow (length s.values) mid.current = subst (λ n. AreBelow n mid.current) (sym len') (fits_on homes old mid p.operations p.added fits) in
      let homed' : HaveHomes homes (length mid.current) m.locals = subst (λ n. HaveHomes homes n m.locals) (sym (ap (λ (z : OpenBlock). length z.current) p.added)) homed in
      let holds' = hold_on homes old mid p.operations p.added variables r m ls fits len both.0 holds in
      let is' : record { target = c_target p.storage p.variable p.ty i; value = x } ≡ v = both.1 in
      let there' : IsThere p.storage m.locals p.variable (index_of i) = subst (λ (z : Assignment). IsThere z.target.storage m.locals z.target.variable z.target.index) (sym is') there in
      let done = store_done homes mid variables s m fits' homed' holds' p.variable (index_of i) p.ty x last a p.index refl p.size both.2.written both.2.global_written p.storage there' t p.at st in
      let run = run_append variables p.operations (store_operations t a mid last st) r in
      let u = operations_run variables (store_operations t a mid last st) s in
      let spare = done.spares in
      subst (λ c. Assigned homes old.current c variables m r (operations_run variables (p.operations ++ (store_operations t a mid last st)) r) v ls) (sym (ap (λ (z : OpenBlock). z.current) stepped))
      (subst (λ z. Assigned homes old.current last.current variables m r z v ls) (sym run)
      (subst (λ z. Assigned homes old.current last.current variables m r u z ls) is'
      (record {
        accesses =
            done.accesses ∙ ap (λ l. l ++ writes_of p.storage (record { target = c_target p.storage p.variable p.ty i; value = x })) both.0.accesses
            ∙ append_assoc r.accesses (reads_of ls) (writes_of p.storage (record { target = c_target p.storage p.variable p.ty i; value = x }));
        holds = done.holds;
        spares = λ size. record {
          variables_ = λ i lt none. (spare size).variables_ i lt none ∙ read_held homes old mid p.operations p.added variables r m ls fits len both.0 i;
          arrays_ = λ c none. (spare size).arrays_ c none ∙ ap (λ cells. cells c) both.0.arrays;
        };
      })));
}
  where
    most : length mid.operations ≤ length new.operations
    most = let l = ap (λ (z : OpenBlock). length z.operations) stepped ∙ ap length (store_added t a mid last st) ∙ length-append mid.operations (store_operations t a mid last st) in omega (arith, l)

pub assignment_at : (homes : List Home) (place : Place) (e : Expression) (old mid located_ last new : OpenBlock) (t : Target) (a : Operand) →
    Evaluates homes e old mid a → Places homes place mid located_ t → Stores t a located_ last → new ≡ record last { steps = suc last.steps } →
    Assigns homes (λ m. assignment place e m) old new
assignment_at homes place e old mid located_ last new t a first at st stepped =
    assigns homes (λ m. assignment place e m) old located_ last new t a
    (assignment_prepares homes place e old mid located_ t a first (located homes place mid located_ t at)) st stepped

pub assignment_steps : (homes : List Home) (place : Place) (e : Expression) (old mid located_ last : OpenBlock) (t : Target) (a : Operand) →
    Evaluates homes e old mid a → Places homes place mid located_ t → Stores t a located_ last → last.steps ≡ old.steps
assignment_steps homes place e old mid located_ last t a first at st =
    store_steps t a located_ last st ∙ ap (λ (z : OpenBlock). z.steps) (located homes place mid located_ t at).added ∙ ap (λ (z : OpenBlock). z.steps) first.added

-- What the code of a place and of a store gives.

pub scalar_at : (homes : List Home) (p : Place) (storage : Storage) (x : ℕ) (ty : IntegerType) (b : OpenBlock) (index : Operand) (t : Target) →
    p ≡ Place.Scalar storage x ty → index ≡ plain (FromConstant int_type (pos 0)) → t ≡ target_at homes storage x 1 ty index → Places homes p b b t
scalar_at homes p storage x ty b index t is first at =
    rw is (record { same = refl; at = at ∙ ap (target_at homes storage x 1 ty) first })

pub element_at : (homes : List Home) (p : Place) (storage : Storage) (x n : ℕ) (ty : IntegerType) (e : Expression) (old new : OpenBlock) (i : Operand) (t : Target) →
    p ≡ Place.Element storage x n ty e → Evaluates homes e old new i → t ≡ target_at homes storage x n ty i → Places homes p old new t
element_at homes p storage x n ty e old new i t is evaluates at =
    rw is (record { index = i; evaluates = evaluates; at = at })

pub stores_variable : (t : Target) (n : ℕ) (ty : IntegerType) (value stored : Operand) (old new : OpenBlock) → t ≡ target.Variable n ty → IsConverted ty value stored →
    new.operations ≡ old.operations → new.current ≡ slice_set old.current n (Some stored) → new.steps ≡ old.steps → (HasNoted old → HasNoted new) → Stores t value old new
stores_variable t n ty value stored old new is converted_ operations current steps noted =
    rw is (record { stored = stored; converted = converted_; operations = operations; current = current; steps = steps; noted = noted })

pub stores_array : (t : Target) (a n : ℕ) (ty : IntegerType) (index value stored : Operand) (old new : OpenBlock) → t ≡ target.Array a n ty index → IsConverted ty value stored →
    new ≡ with_more old (WriteArray a n index stored ∷ []) → Stores t value old new
stores_array t a n ty index value stored old new is converted_ added =
    rw is (record { stored = stored; converted = converted_; added = added })

pub stores_global : (t : Target) (g n : ℕ) (ty : IntegerType) (index value stored : Operand) (old new : OpenBlock) → t ≡ target.Global g n ty index → IsConverted ty value stored →
    new ≡ with_more old (WriteGlobal g n index stored ∷ []) → Stores t value old new
stores_global t g n ty index value stored old new is converted_ added =
    rw is (record { stored = stored; converted = converted_; added = added })

-- The right side, then the index, then the old value, then the operator.

more_more : (b : OpenBlock) (xs ys : List Operation) → with_more (with_more b xs) ys ≡ with_more b (xs ++ ys)
more_more b xs ys = ap (λ os. record b { operations = os }) (append_assoc b.operations xs ys)

all_reads : (a b c d ls r1 r2 r3 r4 : List Location) → ls ≡ a ++ r1 → r1 ≡ b ++ r2 → r2 ≡ c ++ r3 → r3 ≡ d ++ r4 → r4 ≡ [] → ls ≡ ((a ++ b) ++ c) ++ d
all_reads a b c d ls r1 r2 r3 r4 e1 e2 e3 e4 e5 =
    e1 ∙ ap (λ l. a ++ l) (e2 ∙ ap (λ l. b ++ l) (e3 ∙ ap (λ l. c ++ l) (e4 ∙ ap (λ l. d ++ l) e5 ∙ append-nil d)))
    ∙ sym (append_assoc a b (c ++ d)) ∙ sym (append_assoc (a ++ b) c d)

update_prepares : (homes : List Home) (place : Place) (operator : BinaryOperator) (ty ty' : IntegerType) (e : Expression) (old mid found read new : OpenBlock) (t : Target) (a b c : Operand) →
    Evaluates homes e old mid b → Located homes place mid found t → read ≡ load_block t found → a ≡ loaded t found →
    new ≡ with_more read (Binary operator ty a b ∷ []) → c ≡ plain (FromValue (length read.operations) ty') → Prepares homes (λ m. update place operator ty e m) old new t c
update_prepares homes place operator ty ty' e old mid found read new t a b c first loc is_read is_loaded is_new is_value = record {
  storage = loc.storage;
  variable = loc.variable;
  ty = loc.ty;
  index = loc.index;
  operations = first.operations ++ (loc.operations ++ (load_operations t ++ Binary operator ty a b ∷ []));
  added =
      is_new ∙ ap (λ z. with_more z (Binary operator ty a b ∷ [])) (is_read ∙ load_added t found)
      ∙ more_more found (load_operations t) (Binary operator ty a b ∷ [])
      ∙ ap (λ z. with_more z (load_operations t ++ Binary operator ty a b ∷ [])) loc.added
      ∙ more_more mid loc.operations (load_operations t ++ Binary operator ty a b ∷ [])
      ∙ ap (λ z. with_more z (loc.operations ++ (load_operations t ++ Binary operator ty a b ∷ []))) first.added
      ∙ more_more old first.operations (loc.operations ++ (load_operations t ++ Binary operator ty a b ∷ []));
  size = loc.size;
  at = loc.at;
  below = λ fits. rw is_value (last_below read new (Binary operator ty a b) is_new);
  part = λ variables r m v ls fits len holds is.
      let p1 = parts (value e m) (λ x. and_then (target_of place m)
      (λ target. and_then (load m target.storage target.variable target.index)
      (λ before. and_then (binary_value operator ty before x) (λ z. Gives (record { target = target; value = z }) [])))) v ls is in
      let p2 = parts (target_of place m) (λ target. and_then (load m target.storage target.variable target.index)
      (λ before. and_then (binary_value operator ty before p1.value) (λ z. Gives (record { target = target; value = z }) []))) v p1.rest p1.then_ in
      let p3 = parts (load m p2.value.storage p2.value.variable p2.value.index)
      (λ before. and_then (binary_value operator ty before p1.value) (λ z. Gives (record { target = p2.value; value = z }) [])) v p2.rest p2.then_ in
      let p4 = parts (binary_value operator ty p3.value p1.value) (λ z. Gives (record { target = p2.value; value = z }) []) v p3.rest p3.then_ in
      let g = gives_is (record { target = p2.value; value = p4.value }) v p4.rest p4.then_ in
      let total = binary_right operator ty p3.value p1.value p4.value p4.first p4.is in
      let s1 = operations_run variables first.operations r in
      let s2 = operations_run variables loc.operations s1 in
      let s3 = operations_run variables (load_operations t) s2 in
      let reads1 = first.reads variables r m p1.value p1.first fits len holds p1.is in
      let gives1 = first.gives variables r m p1.value p1.first fits len holds p1.is in
      let len1 = length_on homes old mid first.operations first.added variables r len in
      let fits1 = fits_on homes old mid first.operations first.added fits in
      let holds1 = hold_on homes old mid first.operations first.added variables r m p1.first fits len reads1 holds in
      let last = loc.part variables s1 m p2.value p2.first fits1 len1 holds1 p2.is in
      let len2 = length_on homes mid found loc.operations loc.added variables s1 len1 in
      let fits2 = fits_on homes mid found loc.operations loc.added fits1 in
      let holds2 = hold_on homes mid found loc.operations loc.added variables s1 m p2.first fits1 len1 last.0 holds1 in
      let i = operand_value variables s2.values loc.index in
      let is3 : load m loc.storage loc.variable (index_of i) ≡ Gives p3.value p3.first = ap (λ (z : CTarget). load m z.storage z.variable z.index) last.1 ∙ p3.is in
      let there = load_comes homes found variables s2 m loc.variable (index_of i) loc.size loc.ty loc.index len2 holds2 last.2.read last.2.global_read loc.storage p3.value p3.first is3 in
      let comes : Comes variables s2 s3 (loaded t found) p3.value p3.first =
      subst (λ z. Comes variables s2 (operations_run variables (load_operations z) s2) (loaded z found) p3.value p3.first) (sym loc.at) there in
      let len3 : length s3.values ≡ length read.operations =
      (let k = ap (λ (z : OpenBlock). length z.operations) (is_read ∙ load_added t found) ∙ length-append found.operations (load_operations t) in
      let l = run_length variables (load_operations t) s2 in
      omega (arith, k, l, len2)) in
      let left : operand_value variables s3.values a ≡ p3.value = ap (operand_value variables s3.values) is_loaded ∙ comes.gives in
      let right1 : operand_value variables s2.values b ≡ p1.value = operand_kept variables s1 s2 p2.first b last.0 (subst (λ n. IsBelow n b) (sym len1) (first.below fits)) ∙ gives1 in
      let b_below : IsBelow (length s2.values) b = below_more (length mid.operations) (length s2.values) b (let l = longer homes mid found loc.operations loc.added in omega (arith, l, len2))
      (first.below fits) in
      let right : operand_value variables s3.values b ≡ p1.value = operand_kept variables s2 s3 p3.first b comes.reads b_below ∙ right1 in
      let w = binary_total operator ty (operand_value variables s3.values a) (operand_value variables s3.values b) in
      let s4 = with_value variables w s3 in
      let w_is : w ≡ p4.value = ap (λ z. binary_total operator ty z (operand_value variables s3.values b)) left ∙ ap (binary_total operator ty p3.value) right ∙ total.0 in
      let reads4 = pure_reads s3 w p4.first total.1 variables in
      let index3 : operand_value variables s3.values loc.index ≡ i = operand_kept variables s2 s3 p3.first loc.index comes.reads (subst (λ n. IsBelow n loc.index) (sym len2) (loc.below fits1)) in
      let i_below : IsBelow (length s3.values) loc.index = below_more (length found.operations) (length s3.values) loc.index
      (let l = run_length variables (load_operations t) s2 in omega (arith, l, len2)) (loc.below fits1) in
      let index4 : operand_value variables s4.values loc.index ≡ i = operand_kept variables s3 s4 p4.first loc.index reads4 i_below ∙ index3 in
      let value4 : operand_value variables s4.values c ≡ p4.value = ap (operand_value variables s4.values) is_value ∙ last_value variables s3.values w (length read.operations) len3 ∙ w_is in
      let run =
      run_append variables first.operations (loc.operations ++ (load_operations t ++ Binary operator ty a b ∷ [])) r
      ∙ run_append variables loc.operations (load_operations t ++ Binary operator ty a b ∷ []) s1
      ∙ run_append variables (load_operations t) (Binary operator ty a b ∷ []) s2 in
      let all = all_reads p1.first p2.first p3.first p4.first ls p1.rest p2.rest p3.rest p4.rest p1.reads p2.reads p3.reads p4.reads g.1 in
      let reads2 = reads_both r s1 s2 p1.first p2.first (p1.first ++ p2.first) reads1 last.0 refl in
      let reads3 = reads_both r s2 s3 (p1.first ++ p2.first) p3.first ((p1.first ++ p2.first) ++ p3.first) reads2 comes.reads refl in (
        subst (λ z. Reads r z ls) (sym run) (reads_both r s3 s4 ((p1.first ++ p2.first) ++ p3.first) p4.first ls reads3 reads4 all),
        ap (λ (z : Running). record { target = c_target loc.storage loc.variable loc.ty (operand_value variables z.values loc.index); value = operand_value variables z.values c }) run
            ∙ ap (λ x. record { target = c_target loc.storage loc.variable loc.ty x; value = operand_value variables s4.values c }) index4
            ∙ ap (λ target. record { target = target; value = operand_value variables s4.values c }) last.1
            ∙ ap (λ x. record { target = p2.value; value = x }) value4 ∙ g.0,
        subst (λ (z : Running). IsInside loc.size (operand_value variables z.values loc.index)) (sym run) (subst (IsInside loc.size) (sym index4) last.2),
      );
}

pub update_at : (homes : List Home) (place : Place) (operator : BinaryOperator) (ty ty' : IntegerType) (e : Expression) (old mid found read made last new : OpenBlock) (t : Target) (a b c : Operand) →
    Evaluates homes e old mid b → Places homes place mid found t → read ≡ load_block t found → a ≡ loaded t found →
    made ≡ with_more read (Binary operator ty a b ∷ []) → c ≡ plain (FromValue (length read.operations) ty') → Stores t c made last → new ≡ record last { steps = suc last.steps } →
    Assigns homes (λ m. update place operator ty e m) old new
update_at homes place operator ty ty' e old mid found read made last new t a b c first at is_read is_loaded is_made is_value st stepped =
    assigns homes (λ m. update place operator ty e m) old made last new t c
    (update_prepares homes place operator ty ty' e old mid found read made t a b c first (located homes place mid found t at) is_read is_loaded is_made is_value) st stepped

pub update_steps : (homes : List Home) (place : Place) (operator : BinaryOperator) (ty : IntegerType) (e : Expression) (old mid found read made last : OpenBlock) (t : Target) (a b c : Operand) →
    Evaluates homes e old mid b → Places homes place mid found t → read ≡ load_block t found → made ≡ with_more read (Binary operator ty a b ∷ []) → Stores t c made last →
    last.steps ≡ old.steps
update_steps homes place operator ty e old mid found read made last t a b c first at is_read is_made st =
    store_steps t c made last st ∙ ap (λ (z : OpenBlock). z.steps) is_made ∙ ap (λ (z : OpenBlock). z.steps) (is_read ∙ load_added t found)
    ∙ ap (λ (z : OpenBlock). z.steps) (located homes place mid found t at).added ∙ ap (λ (z : OpenBlock). z.steps) first.added
