-- What the accesses of a state of a block are: by the code's operations, one for each bank.
use Rattle.std.specs.Prelude.{not, slice_index_or}
use Rattle.std.proofs.Common.{◌≡◌, ◌≢◌, ℕ, zero, suc, ◌+◌, ◌*◌, ◌<◌, ◌≤◌, nat_eq, nat_lt, Bool, true, false, if◌then◌else◌, List, [], ◌∷◌, length, Some, slice_get, ℤ, pos, negsuc}
use Rattle.std.proofs.Common.{refl, sym, ap, ◌∙◌, subst, inl, inr, ⊎_elim, arith}
use Rattle.std.proofs.lemmas.Bool.{cases_lt, cases_eq}
use Rattle.std.proofs.lemmas.Bool.Decides.{nat_tests}
use Rattle.std.proofs.lemmas.Option.{slice_get_within}
use Rattle.hls_ints.specs.Residues.{residue_of}
use Rattle.hls_ints.specs.Types.{IntegerType, HasType, wrapped}
use Rattle.hls_ints.proofs.Conversions.{residue_of-below, wrapped-range}
use Rattle.c_program.specs.declared.tree.BinaryOperator.{BinaryOperator}
use Rattle.c_program.specs.declared.tree.BinaryOperator.TheVariants.{Multiply as Times, Divide as Over, Remainder}
use Rattle.interleaving.specs.Memory.{Location, Memory, Access, Write, memory_after, Writes}
use Rattle.interleaving.proofs.Accesses.{memory_after-unwritten, memory_after-append, writes_either}
use Rattle.interleaving.proofs.Locations.{with_value-same}
use Rattle.bank_partition.specs.declared.banks.Spread.{Spread}
use Rattle.block_ir.specs.Run.{global_read, global_written}
use Rattle.block_ir.specs.declared.operand.Source.{Source}
use Rattle.block_ir.specs.declared.operand.Source.TheVariants as source
use Rattle.block_ir.specs.declared.operand.Operand.{Operand as CodeOperand}
use Rattle.block_ir.specs.declared.block.Operation.{Operation as CodeOperation}
use Rattle.block_ir.specs.declared.block.Operation.TheVariants.{Unary, Binary, ReadGlobal, WriteGlobal, ReadArray, WriteArray}
use Rattle.block_ir.specs.declared.block.Block.{Block}
use Rattle.block_ir.specs.declared.code.ThreadCode.{ThreadCode}
use Rattle.block_ir.specs.declared.plan.BlockPlan.{BlockPlan}
use Rattle.block_ir.specs.declared.plan.Planned.{Planned}
use Rattle.planned_block.specs.Block.{Operand, Through, Kind, Simple, Multiply, Divide, BankRead, BankWrite, ArrayRead, ArrayWrite}
use Rattle.planned_block.specs.Block.{Operation, operation_at, size, operand_value, UsesIn, Uses, element, no_operation}
use Rattle.planned_block.specs.Plan.{NoTarget, OfGlobal, target_of, last_state, gap_after}
use Rattle.planned_block.specs.Run.{bank_access}
use Rattle.planned_block.specs.Slot.{Slot, is_request, accesses_where, register_value, value_now, operand_now, asks, starts_now}
use Rattle.planned_block.specs.Advance.{requests}
use Rattle.planned_block.proofs.Bits.{both_true, is_same, other_is}
use Rattle.plan_blocks.specs.View.{converted_to, source_view, operand_view, operation_view, operations_view, planned_view, plan_view, binary_kind}
use Rattle.verilog_meaning.specs.Readings.{Reading}
use Rattle.thread_promise.specs.Types.{last_type, source_type, operand_type, value_type, IsTypedSource}
use Rattle.thread_promise.specs.Slots.{Places, IsAlive, ShowsInBlock}
use Rattle.thread_promise.specs.Promise.{RunsAt}
use Rattle.thread_promise.specs.Globals.{IsGlobalOf, wires_now, place_now, written_now, IsOpen}
use Rattle.law_banks.specs.Memory.{IsReadPlace, IsWrittenPlace}
use Rattle.thread_promise.proofs.RegisterOperands.{request_is_slow}

-- ---- places

short_bits : (v : ℤ) → residue_of 3 v < 8
short_bits v = residue_of-below 3 v

pub read_place : (n : ℕ) (v : ℤ) → IsReadPlace n (global_read n v)
read_place n (pos j) = by (nat_lt j n) refl
  where
    by : (b : Bool) → nat_lt j n ≡ b → IsReadPlace n (if b then j else 16 * suc n + residue_of 3 (pos j))
    by true e = inl (let l : j < n = grind (arith, nat_tests) in l)
    by false e = inr (residue_of 3 (pos j), short_bits (pos j), refl)
read_place n (negsuc j) = inr (residue_of 3 (negsuc j), short_bits (negsuc j), refl)

pub written_place : (n : ℕ) (v : ℤ) → IsWrittenPlace n (global_written n v)
written_place n (pos j) = by (nat_lt j n) refl
  where
    by : (b : Bool) → nat_lt j n ≡ b → IsWrittenPlace n (if b then j else 16 * suc n + 8 + residue_of 3 (pos j))
    by true e = inl (let l : j < n = grind (arith, nat_tests) in l)
    by false e = inr (residue_of 3 (pos j), short_bits (pos j), refl)
written_place n (negsuc j) = inr (residue_of 3 (negsuc j), short_bits (negsuc j), refl)

-- ---- the operation of an access

view_at : (os : List CodeOperation) (k : ℕ) → k < length (operations_view os) →
    (o : CodeOperation) × (slice_get os k ≡ Some o) × (slice_index_or (operations_view os) k no_operation ≡ operation_view o)
view_at [] k l = absurd (omega arith)
view_at (o ∷ os) zero l = (o, refl, refl)
view_at (o ∷ os) (suc k) l = view_at os k (omega arith)

binary_target : (operator : BinaryOperator) (f : ℤ → ℤ → ℤ) → target_of (binary_kind operator f) ≡ NoTarget
binary_target Times f = refl
binary_target Over f = refl
binary_target Remainder f = refl
binary_target _ f = refl

-- an operation that reads or writes element i of the global x of n elements
pub data IsAccessOf (b : Block) (k x : ℕ) (writes : Bool) : Type 0 where
  ReadsGlobal : (n : ℕ) (i : CodeOperand) (reads : writes ≡ false) (listed : slice_get b.operations k ≡ Some (ReadGlobal x n i))
      (is : operation_at (planned_view b) k ≡ operation_view (ReadGlobal x n i)) → IsAccessOf b k x writes
  WritesGlobal : (n : ℕ) (i a : CodeOperand) (does : writes ≡ true) (listed : slice_get b.operations k ≡ Some (WriteGlobal x n i a))
      (is : operation_at (planned_view b) k ≡ operation_view (WriteGlobal x n i a)) → IsAccessOf b k x writes

same_global : (x y : ℕ) (v w : Bool) → OfGlobal x v ≡ OfGlobal y w → (x ≡ y) × (v ≡ w)
same_global x y v w e = ((let a : x ≡ y = cc in a), (let b : v ≡ w = cc in b))

pub access_is : (b : Block) (k x : ℕ) (writes : Bool) → k < size (planned_view b) → target_of (operation_at (planned_view b) k).kind ≡ OfGlobal x writes → IsAccessOf b k x writes
access_is b k x writes l e =
    let v = view_at b.operations k l in
    go v.0 v.1 v.2 (sym (ap (λ (z : Operation). target_of z.kind) v.2) ∙ e)
  where
    go : (o : CodeOperation) → slice_get b.operations k ≡ Some o → operation_at (planned_view b) k ≡ operation_view o → target_of (operation_view o).kind ≡ OfGlobal x writes →
        IsAccessOf b k x writes
    go (Unary operator ty a) listed is t = absurd cc
    go (Binary operator ty a c) listed is t = absurd (let z = sym (binary_target operator _) ∙ t in cc)
    go (ReadGlobal y n i) listed is t =
        let same = same_global y x false writes t in
        ReadsGlobal n i (sym same.1) (subst (λ z. slice_get b.operations k ≡ Some (ReadGlobal z n i)) same.0 listed)
        (subst (λ z. operation_at (planned_view b) k ≡ operation_view (ReadGlobal z n i)) same.0 is)
    go (WriteGlobal y n i a) listed is t =
        let same = same_global y x true writes t in
        WritesGlobal n i a (sym same.1) (subst (λ z. slice_get b.operations k ≡ Some (WriteGlobal z n i a)) same.0 listed)
        (subst (λ z. operation_at (planned_view b) k ≡ operation_view (WriteGlobal z n i a)) same.0 is)
    go (ReadArray y n i) listed is t = absurd cc
    go (WriteArray y n i a) listed is t = absurd cc

-- a request is an access of a global
pub request_is : (kind : Kind) → is_request kind ≡ true → (x : ℕ) × (writes : Bool) × (target_of kind ≡ OfGlobal x writes)
request_is (Simple f) e = absurd cc
request_is (Multiply f) e = absurd cc
request_is (Divide f) e = absurd cc
request_is (BankRead x) e = (x, false, refl)
request_is (BankWrite x) e = (x, true, refl)
request_is (ArrayRead x) e = absurd cc
request_is (ArrayWrite x) e = absurd cc

pub read_kind : (kind : Kind) (x : ℕ) → target_of kind ≡ OfGlobal x false → kind ≡ BankRead x
read_kind (Simple f) x e = absurd cc
read_kind (Multiply f) x e = absurd cc
read_kind (Divide f) x e = absurd cc
read_kind (BankRead y) x e = ap BankRead (let s : y ≡ x = cc in s)
read_kind (BankWrite y) x e = absurd (let s : true ≡ false = cc in cc)
read_kind (ArrayRead y) x e = absurd cc
read_kind (ArrayWrite y) x e = absurd cc

pub write_kind : (kind : Kind) (x : ℕ) → target_of kind ≡ OfGlobal x true → kind ≡ BankWrite x
write_kind (Simple f) x e = absurd cc
write_kind (Multiply f) x e = absurd cc
write_kind (Divide f) x e = absurd cc
write_kind (BankRead y) x e = absurd (let s : false ≡ true = cc in cc)
write_kind (BankWrite y) x e = ap BankWrite (let s : y ≡ x = cc in s)
write_kind (ArrayRead y) x e = absurd cc
write_kind (ArrayWrite y) x e = absurd cc

-- what a kind of operation writes
pub writes_is : (kind : Kind) (l r : ℤ) (q : Location) → Writes q (bank_access kind l r) → (x : ℕ) × (target_of kind ≡ OfGlobal x true) × (q ≡ element x l)
writes_is (Simple f) l r q w = absurd w
writes_is (Multiply f) l r q w = absurd w
writes_is (Divide f) l r q w = absurd w
writes_is (BankRead x) l r q w = absurd w
writes_is (BankWrite x) l r q w = (x, refl, ⊎_elim (λ (e : q ≡ element x l). e) (λ z. absurd z) w)
writes_is (ArrayRead x) l r q w = absurd w
writes_is (ArrayWrite x) l r q w = absurd w

-- ---- lists of accesses

-- what those that pass write one of them writes
pub written_by_one : (f : ℕ → Bool) (made : ℕ → List (Access ℤ)) (count n : ℕ) (l : Location) → Writes l (accesses_where f made count n) →
    (k : ℕ) × (n ≤ k) × (k < n + count) × (f k ≡ true) × Writes l (made k)
written_by_one f made zero n l w = absurd w
written_by_one f made (suc count) n l w =
    ⊎_elim (λ u. here (f n) refl u)
    (λ u. let k = written_by_one f made count (suc n) l u in (k.0, (let le = k.1 in omega arith), (let lt = k.2 in omega arith), k.3, k.4))
    (writes_either (if f n then made n else []) (accesses_where f made count (suc n)) l w)
  where
    here : (c : Bool) → f n ≡ c → Writes l (if f n then made n else []) → (k : ℕ) × (n ≤ k) × (k < n + suc count) × (f k ≡ true) × Writes l (made k)
    here true e u = (n, omega arith, omega arith, e, subst (λ (c : Bool). Writes l (if c then made n else [])) e u)
    here false e u = absurd (subst (λ (c : Bool). Writes l (if c then made n else [])) e u)

-- a place that one of them writes, and no other one, has its value
pub after_one : (f : ℕ → Bool) (made : ℕ → List (Access ℤ)) (count n k : ℕ) (l : Location) (v : ℤ) (m : Memory ℤ) → n ≤ k → k < n + count → f k ≡ true → made k ≡ Write l v ∷ [] →
    ((j : ℕ) → j < n + count → f j ≡ true → j ≢ k → Writes l (made j) → ⊥) → memory_after (accesses_where f made count n) m l ≡ v
after_one f made zero n k l v m le lt e is others = absurd (omega arith)
after_one f made (suc count) n k l v m le lt e is others =
    ap (λ (z : Memory ℤ). z l) (memory_after-append (if f n then made n else []) (accesses_where f made count (suc n)) m)
    ∙ ⊎_elim here
    (λ (ne : n ≢ k).
    after_one f made count (suc n) k l v (memory_after (if f n then made n else []) m) (omega arith) (omega arith) e is
    (λ j less t other w. others j (omega arith) t other w))
    (cases_eq n k)
  where
    here : n ≡ k → memory_after (accesses_where f made count (suc n)) (memory_after (if f n then made n else []) m) l ≡ v
    here same =
        let now : (if f n then made n else []) ≡ Write l v ∷ [] = ap (λ (c : Bool). if c then made n else []) (ap f same ∙ e) ∙ ap made same ∙ is in
        memory_after-unwritten (accesses_where f made count (suc n)) (memory_after (if f n then made n else []) m) l
        (λ w. let j = written_by_one f made count (suc n) l w in others j.0 (let less = j.2 in omega arith) j.3 (λ q. absurd (let more = j.1 in omega arith)) j.4)
        ∙ ap (λ (es : List (Access ℤ)). memory_after es m l) now ∙ with_value-same m l v

-- ---- what is written has the type of the global

converted_typed : (types : List IntegerType) (variables values : ℕ → ℤ) (o : Operand) (ty : IntegerType) → HasType ty (operand_value variables values o) →
    HasType (last_type ty types) (operand_value variables values (converted_to types o))
converted_typed [] variables values o ty h = h
converted_typed (t ∷ types) variables values o ty h = converted_typed types variables values (Through (wrapped t) o) t (wrapped-range t (operand_value variables values o))

uses_converted : (types : List IntegerType) (o : Operand) (j : ℕ) → UsesIn o j → UsesIn (converted_to types o) j
uses_converted [] o j u = u
uses_converted (t ∷ types) o j u = uses_converted types (Through (wrapped t) o) j u

module _ (globals : List IntegerType) (spreads : List Spread) (code : ThreadCode) (plan : Planned) (places : Places) (q : Slot) (b : Block) (p : BlockPlan)
    (runs : RunsAt globals spreads code plan q.stage b p) where
  -- operation k has a request in this state
  pub request_now : (k : ℕ) → requests (planned_view b) (plan_view b p) q k ≡ true →
      (is_request (operation_at (planned_view b) k).kind ≡ true) × ((plan_view b p).start k ≡ q.state)
  request_now k e =
      let a = both_true (asks (planned_view b) (plan_view b p) q k) (not (q.granted k)) e in
      let t = both_true (is_request (operation_at (planned_view b) k).kind) (starts_now (planned_view b) (plan_view b p) q k) a.0 in
      (t.0, is_same ((plan_view b p).start k) q.state t.1)

  -- a global is asked once in a state
  pub one_open : (j k x : ℕ) (v w : Bool) → IsOpen spreads b p q j x v → IsOpen spreads b p q k x w → j ≡ k
  one_open j k x v w s t =
      let at = (request_now j s.requested).1 in
      let too = (request_now k t.requested).1 in
      ⊎_elim
      (λ (less : j < k). absurd (let late = runs.keeps.banks j k x v w less t.below s.target t.target in let gap = some_gap v in omega (arith, late, gap, at, too)))
      (λ (le : k ≤ j).
      ⊎_elim
      (λ (less : k < j). absurd (let late = runs.keeps.banks k j x w v less s.below t.target s.target in let gap = some_gap w in omega (arith, late, gap, at, too)))
      (λ (more : j ≤ k). omega arith)
      (cases_lt k j))
      (cases_lt j k)
    where
      some_gap : (c : Bool) → 1 ≤ gap_after c
      some_gap true = omega arith
      some_gap false = omega arith

  -- the spread of a global that an operation accesses
  pub spread_of : (k x : ℕ) (w : Bool) → k < size (planned_view b) → target_of (operation_at (planned_view b) k).kind ≡ OfGlobal x w →
      (s : Spread) × (slice_get spreads x ≡ Some s)
  spread_of k x w l e = go (access_is b k x w l e)
    where
      go : IsAccessOf b k x w → (s : Spread) × (slice_get spreads x ≡ Some s)
      go (ReadsGlobal n i reads listed is) = let s = runs.accesses k (ReadGlobal x n i) listed in (s.0, s.1)
      go (WritesGlobal n i a does listed is) = let s = runs.accesses k (WriteGlobal x n i a) listed in (s.0, s.1)

  same_length : (x n : ℕ) (s : Spread) → IsGlobalOf spreads x n → slice_get spreads x ≡ Some s → n ≡ s.length
  same_length x n s h e =
      let one : Some h.0 ≡ Some s = sym h.1 ∙ e in
      let same : h.0 ≡ s = cc in
      sym h.2 ∙ ap (λ (z : Spread). z.length) same

  -- where a read reads, and where a write writes
  pub reads_there : (k x : ℕ) (s : Spread) → slice_get spreads x ≡ Some s → k < size (planned_view b) → target_of (operation_at (planned_view b) k).kind ≡ OfGlobal x false →
      IsReadPlace s.length (place_now spreads b p q k x).index
  reads_there k x s e l t = go (access_is b k x false l t)
    where
      go : IsAccessOf b k x false → IsReadPlace s.length (place_now spreads b p q k x).index
      go (ReadsGlobal n i reads listed is) =
          subst (λ (z : Operation). IsReadPlace s.length (element x (operand_now (planned_view b) (plan_view b p) q (wires_now spreads b p q) z.left)).index) (sym is)
          (subst (λ z. IsReadPlace z (global_read n (operand_now (planned_view b) (plan_view b p) q (wires_now spreads b p q) (operand_view i))))
          (same_length x n s (runs.accesses k (ReadGlobal x n i) listed) e)
          (read_place n (operand_now (planned_view b) (plan_view b p) q (wires_now spreads b p q) (operand_view i))))
      go (WritesGlobal n i a does listed is) = absurd cc

  pub writes_there : (k x : ℕ) (s : Spread) → slice_get spreads x ≡ Some s → k < size (planned_view b) → target_of (operation_at (planned_view b) k).kind ≡ OfGlobal x true →
      IsWrittenPlace s.length (place_now spreads b p q k x).index
  writes_there k x s e l t = go (access_is b k x true l t)
    where
      go : IsAccessOf b k x true → IsWrittenPlace s.length (place_now spreads b p q k x).index
      go (ReadsGlobal n i reads listed is) = absurd cc
      go (WritesGlobal n i a does listed is) =
          subst (λ (z : Operation). IsWrittenPlace s.length (element x (operand_now (planned_view b) (plan_view b p) q (wires_now spreads b p q) z.left)).index) (sym is)
          (subst (λ z. IsWrittenPlace z (global_written n (operand_now (planned_view b) (plan_view b p) q (wires_now spreads b p q) (operand_view i))))
          (same_length x n s (runs.accesses k (WriteGlobal x n i a) listed) e)
          (written_place n (operand_now (planned_view b) (plan_view b p) q (wires_now spreads b p q) (operand_view i))))

  -- a global that is accessed has a type
  pub type_there : (k x : ℕ) (w : Bool) → k < size (planned_view b) → target_of (operation_at (planned_view b) k).kind ≡ OfGlobal x w → x < length globals
  type_there k x w l e = go (access_is b k x w l e)
    where
      go : IsAccessOf b k x w → x < length globals
      go (ReadsGlobal n i reads listed is) = (runs.typed.operations k (ReadGlobal x n i) listed).1
      go (WritesGlobal n i a does listed is) = slice_get_within globals x (operand_type a) (runs.typed.operations k (WriteGlobal x n i a) listed).2

  module _ (r : Reading) (shown : ShowsInBlock globals code places b p r q) (k x : ℕ) (asked : IsOpen spreads b p q k x true) where
    at_state : (plan_view b p).start k ≡ q.state
    at_state = (request_now k asked.requested).1

    -- the value of an earlier operation that the request uses stands in a register
    value_typed : (j : ℕ) (o : CodeOperation) → slice_get b.operations j ≡ Some o → Uses (operation_at (planned_view b) k) j →
        HasType (value_type globals code o) (value_now (planned_view b) (plan_view b p) q (wires_now spreads b p q) j)
    value_typed j o listed uses =
        let early = runs.registered j k asked.below (request_is_slow (operation_at (planned_view b) k).kind (request_now k asked.requested).0) uses in
        let before = runs.keeps.earlier j k asked.below uses in
        let used = runs.keeps.used j k asked.below uses in
        let start = at_state in
        let size = asked.below in
        let past : last_state (planned_view b) (plan_view b p) j < q.state = omega (arith, early, start) in
        let till : q.state ≤ (plan_view b p).until j = omega (arith, used, start) in
        let r = runs.keeps.has j (omega (arith, before, size)) (omega (arith, past, till)) in
        let alive : IsAlive b p q j r.0 = record { operation = o; listed = listed; register = r.1; past = past; used = till } in
        let off : nat_eq (last_state (planned_view b) (plan_view b p) j) q.state ≡ false =
        other_is (last_state (planned_view b) (plan_view b p) j) q.state (λ e. absurd (omega (arith, past, e))) in
        subst (HasType (value_type globals code o))
        (sym (ap (λ (c : Bool). if c then wires_now spreads b p q j else register_value q.registers ((plan_view b p).register j)) off ∙ ap (register_value q.registers) r.1))
        (shown.typed_alive j r.0 alive)

    source_typed : (s : Source) → IsTypedSource globals code b.operations s → ((j : ℕ) → UsesIn (source_view s) j → Uses (operation_at (planned_view b) k) j) →
        HasType (source_type s) (operand_now (planned_view b) (plan_view b p) q (wires_now spreads b p q) (source_view s))
    source_typed (source.Constant ty v) h uses = h
    source_typed (source.Variable y ty) h uses = shown.shown.typed y ty h
    source_typed (source.Value j ty) h uses =
        subst (λ t. HasType t (value_now (planned_view b) (plan_view b p) q (wires_now spreads b p q) j)) h.2 (value_typed j h.0 h.1 (uses j refl))

    pub written_typed : (ty : IntegerType) → slice_get globals x ≡ Some ty → HasType ty (written_now spreads b p q k)
    written_typed ty t = go (access_is b k x true asked.below asked.target)
      where
        go : IsAccessOf b k x true → HasType ty (written_now spreads b p q k)
        go (ReadsGlobal n i reads listed is) = absurd cc
        go (WritesGlobal n i a does listed is) =
            let typed = runs.typed.operations k (WriteGlobal x n i a) listed in
            let one : Some (operand_type a) ≡ Some ty = sym typed.2 ∙ t in
            let same : operand_type a ≡ ty = cc in
            subst (λ (z : Operation). HasType ty (operand_now (planned_view b) (plan_view b p) q (wires_now spreads b p q) z.right)) (sym is)
            (subst (λ u. HasType u (operand_now (planned_view b) (plan_view b p) q (wires_now spreads b p q) (operand_view a))) same
            (converted_typed a.conversions q.variables (value_now (planned_view b) (plan_view b p) q (wires_now spreads b p q)) (source_view a.source) (source_type a.source)
            (source_typed a.source typed.1
            (λ j u. subst (λ (z : Operation). Uses z j) (sym is) (inr (uses_converted a.conversions (source_view a.source) j u))))))
