-- The next slot as a function is a next slot of the relation; in a closed state it hangs on the slot alone.
use Rattle.std.specs.Prelude.{◌⊎◌, nat_eq, ℤ, Bool, true, false, ◌&&◌, ◌||◌, not, if◌then◌else◌, Option, Some, None}
use Rattle.std.proofs.Common.{inr, ◌≡◌, ◌≢◌, ℕ, zero, suc, ◌+◌, ◌<◌, ◌≤◌, List, [], ◌++◌, refl, sym, ap, ◌∙◌, subst, ⊎_elim, inl, arith}
use Rattle.std.proofs.lemmas.Bool.{false_from_ne_true, cases_eq}
use Rattle.interleaving.specs.Memory.{Location, Memory, Access, memory_after}
use Rattle.planned_block.specs.Block.{Operand, Constant, Variable, Value, Through, Kind, Simple, Multiply, Divide, BankRead, BankWrite, ArrayRead, ArrayWrite}
use Rattle.planned_block.specs.Block.{Block, operation_at, size, element, Uses, UsesIn, IsUsedAtEnd}
use Rattle.planned_block.specs.Plan.{Plan, KeepsOrders, last_state, target_of, OfGlobal}
use Rattle.planned_block.specs.Run.{array_access}
use Rattle.planned_block.specs.Slot.{AreBanks, Slot, accesses_where, is_request, register_value, value_now, operand_now, starts_now, asks, granted_with, array_access_now}
use Rattle.planned_block.specs.Slot.{arrays_next, stayed, gone_on, RegistersAfter, GoesOn, Leaves, result_of, result_now, IsWired, WordsAfter}
use Rattle.planned_block.specs.Advance.{requests, answered, is_granted, is_ready, is_answered, Advances, last_of, is_register, reads_bank, word_read}
use Rattle.planned_block.specs.Advance.{wires_after, wires, words_next, registers_next, left_for_next, state_left, advance}
use Rattle.planned_block.specs.Closed.{IsClosed, with_words, SameButWords, IsClosedAlone}
use Rattle.planned_block.proofs.Advances.{any_tells, all_true}
use Rattle.planned_block.proofs.Bits.{both_true, is_same, same_is}
use Rattle.planned_block.proofs.BlockCycle.{finished_same, leads_same}

last_of-hit : {A : Type 0} (f : ℕ → Bool) (value : ℕ → A) (old : A) (n k : ℕ) → k < n → f k ≡ true → ((j : ℕ) → j < n → f j ≡ true → value j ≡ value k) → last_of f value old n ≡ value k
last_of-hit f value old zero k lt e same = absurd (omega arith)
last_of-hit f value old (suc n) k lt e same =
    by_last (f n) refl (λ ne. last_of-hit f value old n k (omega arith) e (λ j l t. same j (omega arith) t))
  where
    by_last : (c : Bool) → f n ≡ c → (k ≢ n → last_of f value old n ≡ value k) → (if f n then value n else last_of f value old n) ≡ value k
    by_last true q rest = ap (λ (c : Bool). if c then value n else last_of f value old n) q ∙ same n (omega arith) q
    by_last false q rest = ap (λ (c : Bool). if c then value n else last_of f value old n) q ∙ rest (λ (z : k ≡ n). absurd (cc (sym (ap f z) ∙ e, q)))

last_of-miss : {A : Type 0} (f : ℕ → Bool) (value : ℕ → A) (old : A) (n : ℕ) → ((k : ℕ) → k < n → f k ≡ false) → last_of f value old n ≡ old
last_of-miss f value old zero none = refl
last_of-miss f value old (suc n) none =
    ap (λ (c : Bool). if c then value n else last_of f value old n) (none n (omega arith)) ∙ last_of-miss f value old n (λ k lt. none k (omega arith))

last_of-same : {A : Type 0} (f : ℕ → Bool) (u v : ℕ → A) (old : A) (n : ℕ) → ((k : ℕ) → k < n → f k ≡ true → u k ≡ v k) → last_of f u old n ≡ last_of f v old n
last_of-same f u v old zero each = refl
last_of-same f u v old (suc n) each = here (f n) refl (last_of-same f u v old n (λ k lt t. each k (omega arith) t))
  where
    here : (c : Bool) → f n ≡ c → last_of f u old n ≡ last_of f v old n → (if f n then u n else last_of f u old n) ≡ (if f n then v n else last_of f v old n)
    here true e rest = ap (λ (c : Bool). if c then u n else last_of f u old n) e ∙ each n (omega arith) e ∙ sym (ap (λ (c : Bool). if c then v n else last_of f v old n) e)
    here false e rest = ap (λ (c : Bool). if c then u n else last_of f u old n) e ∙ rest ∙ sym (ap (λ (c : Bool). if c then v n else last_of f v old n) e)

accesses_where-same : (f : ℕ → Bool) (u v : ℕ → List (Access ℤ)) (count n : ℕ) → ((k : ℕ) → n ≤ k → k < n + count → f k ≡ true → u k ≡ v k) →
    accesses_where f u count n ≡ accesses_where f v count n
accesses_where-same f u v zero n each = refl
accesses_where-same f u v (suc count) n each = here (f n) refl (accesses_where-same f u v count (suc n) (λ k le lt t. each k (omega arith) (omega arith) t))
  where
    here : (c : Bool) → f n ≡ c → accesses_where f u count (suc n) ≡ accesses_where f v count (suc n) →
        (if f n then u n else []) ++ accesses_where f u count (suc n) ≡ (if f n then v n else []) ++ accesses_where f v count (suc n)
    here true e rest =
        ap (λ (c : Bool). (if c then u n else []) ++ accesses_where f u count (suc n)) e ∙ ap (λ l. l ++ accesses_where f u count (suc n)) (each n (omega arith) (omega arith) e)
        ∙ ap (λ l. v n ++ l) rest ∙ sym (ap (λ (c : Bool). (if c then v n else []) ++ accesses_where f v count (suc n)) e)
    here false e rest =
        ap (λ (c : Bool). (if c then u n else []) ++ accesses_where f u count (suc n)) e ∙ rest
        ∙ sym (ap (λ (c : Bool). (if c then v n else []) ++ accesses_where f v count (suc n)) e)

register_tells : (o : Option ℕ) (r : ℕ) → is_register o r ≡ true → o ≡ Some r
register_tells None r e = absurd cc
register_tells (Some s) r e = ap Some (is_same s r e)

-- operands hang on the wires of this state and on registers
operand_same : (b : Block) (p : Plan) (q : Slot) (u v : ℕ → ℤ) (o : Operand) → ((j : ℕ) → UsesIn o j → last_state b p j ≡ q.state → u j ≡ v j) →
    operand_now b p q u o ≡ operand_now b p q v o
operand_same b p q u v (Constant n) each = refl
operand_same b p q u v (Variable x) each = refl
operand_same b p q u v (Value j) each = by_state (nat_eq (last_state b p j) q.state) refl
  where
    by_state : (c : Bool) → nat_eq (last_state b p j) q.state ≡ c → value_now b p q u j ≡ value_now b p q v j
    by_state true e =
        ap (λ (c : Bool). if c then u j else register_value q.registers (p.register j)) e ∙ each j refl (is_same (last_state b p j) q.state e)
        ∙ sym (ap (λ (c : Bool). if c then v j else register_value q.registers (p.register j)) e)
    by_state false e =
        ap (λ (c : Bool). if c then u j else register_value q.registers (p.register j)) e
        ∙ sym (ap (λ (c : Bool). if c then v j else register_value q.registers (p.register j)) e)
operand_same b p q u v (Through f o) each = ap f (operand_same b p q u v o each)

module _ (bank : Location → ℕ) (b : Block) (p : Plan) (keeps : KeepsOrders b p) where
  result_same : (q : Slot) (u v : ℕ → ℤ) (k : ℕ) → ((j : ℕ) → Uses (operation_at b k) j → last_state b p j ≡ q.state → u j ≡ v j) → result_now bank b p q u k ≡ result_now bank b p q v k
  result_same q u v k each =
      ap (λ l. result_of bank (operation_at b k).kind q.words q.arrays l (operand_now b p q u (operation_at b k).right))
      (operand_same b p q u v (operation_at b k).left (λ j y s. each j (inl y) s))
      ∙ ap (λ r. result_of bank (operation_at b k).kind q.words q.arrays (operand_now b p q v (operation_at b k).left) r)
      (operand_same b p q u v (operation_at b k).right (λ j y s. each j (inr y) s))

  -- a wire is settled when those before it are
  settled : (q : Slot) (n k : ℕ) → k < n → k < size b → wires_after bank b p q (suc n) k ≡ wires_after bank b p q n k
  settled q zero k lt below = absurd (omega arith)
  settled q (suc n) k lt below =
      result_same q (wires_after bank b p q (suc n)) (wires_after bank b p q n) k (λ j u s. let early = keeps.earlier j k below u in settled q n j (omega arith) (omega arith))

  pub wires_wired : (q : Slot) → IsWired bank b p q (wires bank b p q)
  wires_wired q k lt s = sym (settled q (size b) k lt lt)

  module _ (banks : AreBanks bank) (q : Slot) (m : Memory ℤ) (grants : ℕ → Bool) (ask : (k : ℕ) → grants k ≡ true → asks b p q k ≡ true) where
    abbrev index : ℕ → ℤ
    index k = operand_now b p q (wires bank b p q) (operation_at b k).left

    abbrev reads : ℕ → ℕ → Bool
    reads n k = grants k && reads_bank bank (operation_at b k).kind (index k) n

    abbrev word : ℕ → ℤ
    word k = word_read bank (operation_at b k).kind (index k) m

    state_of : (k : ℕ) → grants k ≡ true → p.start k ≡ q.state
    state_of k g = is_same (p.start k) q.state (both_true (is_request (operation_at b k).kind) (starts_now b p q k) (ask k g)).1

    -- what reads a bank
    record IsReadOf (n k : ℕ) : Type 0 where
      global : ℕ
      kind : (operation_at b k).kind ≡ BankRead global
      bank_is : bank (element global (index k)) ≡ n

    reads_tell : (n k : ℕ) (kind : Kind) → (operation_at b k).kind ≡ kind → reads_bank bank kind (index k) n ≡ true → IsReadOf n k
    reads_tell n k (Simple f) e t = absurd cc
    reads_tell n k (Multiply f) e t = absurd cc
    reads_tell n k (Divide f) e t = absurd cc
    reads_tell n k (BankRead x) e t = record { global = x; kind = e; bank_is = is_same (bank (element x (index k))) n t }
    reads_tell n k (BankWrite x) e t = absurd cc
    reads_tell n k (ArrayRead x) e t = absurd cc
    reads_tell n k (ArrayWrite x) e t = absurd cc

    -- no two reads of a bank are granted in one state
    one_read : (n j k : ℕ) → j < size b → k < size b → grants j ≡ true → grants k ≡ true → IsReadOf n j → IsReadOf n k → j ≡ k
    one_read n j k lj lk gj gk rj rk =
        let sj = state_of j gj in
        let sk = state_of k gk in
        let same : rj.global ≡ rk.global = banks (element rj.global (index j)) (element rk.global (index k)) (rj.bank_is ∙ sym rk.bank_is) in
        let tj : target_of (operation_at b j).kind ≡ OfGlobal rk.global false = subst (λ x. target_of (operation_at b j).kind ≡ OfGlobal x false) same (ap target_of rj.kind) in
        ⊎_elim
        (λ e. e)
        (λ (ne : j ≢ k).
        ⊎_elim
        (λ (less : j < k). let o = keeps.banks j k rk.global false false less lk tj (ap target_of rk.kind) in absurd (omega arith))
        (λ (less : k < j). let o = keeps.banks k j rk.global false false less lj (ap target_of rk.kind) tj in absurd (omega arith))
        (apart j k ne))
        (cases_eq j k)
      where
        apart : (j k : ℕ) → j ≢ k → (j < k) ⊎ (k < j)
        apart j k ne = grind arith

    is_read : (k x : ℕ) → (operation_at b k).kind ≡ BankRead x → reads_bank bank (operation_at b k).kind (index k) (bank (element x (index k))) ≡ true
    is_read k x e = ap (λ kind. reads_bank bank kind (index k) (bank (element x (index k)))) e ∙ same_is (bank (element x (index k))) (bank (element x (index k))) refl

    words_right : WordsAfter bank b p q (wires bank b p q) m grants (words_next bank b p q m grants)
    words_right = record {
      read = λ k x lt g e.
          let n = bank (element x (index k)) in
          last_of-hit (reads n) word (q.words n) (size b) k lt (ap (λ c. c && reads_bank bank (operation_at b k).kind (index k) n) g ∙ is_read k x e)
          (λ j below t.
          let two = both_true (grants j) (reads_bank bank (operation_at b j).kind (index j) n) t in
          ap word (one_read n j k below lt two.0 g (reads_tell n j (operation_at b j).kind refl two.1) (record { global = x; kind = e; bank_is = refl })))
          ∙ ap (λ kind. word_read bank kind (index k) m) e;
      kept = λ n none. last_of-miss (reads n) word (q.words n) (size b) (λ j below. false_from_ne_true (reads n j) (λ t.
          let two = both_true (grants j) (reads_bank bank (operation_at b j).kind (index j) n) t in
          let r = reads_tell n j (operation_at b j).kind refl two.1 in
          none j r.global below two.0 r.kind r.bank_is));
    }

  abbrev ends_now : Slot → ℕ → ℕ → Bool
  ends_now q r k = nat_eq (last_state b p k) q.state && is_register (p.register k) r

  pub registers_right : (q : Slot) → RegistersAfter b p q (wires bank b p q) (registers_next bank b p q)
  registers_right q = record {
    written = λ k r lt s e.
        last_of-hit (ends_now q r) (wires bank b p q) (q.registers r) (size b) k lt
        (ap (λ c. c && is_register (p.register k) r) (same_is (last_state b p k) q.state s) ∙ ap (λ o. is_register o r) e ∙ same_is r r refl)
        (λ j below t.
        let two = both_true (nat_eq (last_state b p j) q.state) (is_register (p.register j) r) t in
        ap (wires bank b p q) (one_value j k r below lt (is_same (last_state b p j) q.state two.0) s (register_tells (p.register j) r two.1) e));
    kept = λ r none. last_of-miss (ends_now q r) (wires bank b p q) (q.registers r) (size b) (λ j below. false_from_ne_true (ends_now q r j) (λ t.
        let two = both_true (nat_eq (last_state b p j) q.state) (is_register (p.register j) r) t in
        none j below (is_same (last_state b p j) q.state two.0) (register_tells (p.register j) r two.1)));
  }
    where
      one_value : (j k r : ℕ) → j < size b → k < size b → last_state b p j ≡ q.state → last_state b p k ≡ q.state → p.register j ≡ Some r → p.register k ≡ Some r → j ≡ k
      one_value j k r lj lk sj sk ej ek =
          ⊎_elim
          (λ e. e)
          (λ (ne : j ≢ k).
          let a = keeps.short j r lj ej in
          let c = keeps.short k r lk ek in
          ⊎_elim (λ z. absurd (omega arith)) (λ z. absurd (omega arith)) (keeps.apart j k r lj lk ne ej ek))
          (cases_eq j k)

  left_or_on : (q : Slot) → q.state < p.states → (words : ℕ → ℤ) →
      GoesOn b p q (wires bank b p q) words (state_left bank b p q words) ⊎ Leaves b p q (wires bank b p q) (state_left bank b p q words)
  left_or_on q inside words = by_end (nat_eq (suc q.state) p.states) refl
    where
      by_end : (c : Bool) → nat_eq (suc q.state) p.states ≡ c →
          GoesOn b p q (wires bank b p q) words (if c then left_for_next bank b p q words else gone_on b p q (wires bank b p q) words (registers_next bank b p q))
          ⊎ Leaves b p q (wires bank b p q) (if c then left_for_next bank b p q words else gone_on b p q (wires bank b p q) words (registers_next bank b p q))
      by_end true e =
          inr (record { at_end = is_same (suc q.state) p.states e; routine = refl; stage = refl; state = refl; granted = λ k. refl; variables = λ x. refl; arrays = λ l. refl; beat = refl })
      by_end false e =
          let ne : suc q.state ≢ p.states = (λ z. absurd (cc (sym (same_is (suc q.state) p.states z) ∙ e))) in
          inl (record { within = omega (arith, inside); registers = registers_right q; slot = refl })

  -- the function advances as the relation says
  pub advance_is : AreBanks bank → (q : Slot) (m : Memory ℤ) (grant : ℕ → Bool) → q.state < p.states →
      Advances bank b p q m grant (wires bank b p q) (advance bank b p q m grant)
  advance_is banks q m grant inside = record {
    words = words_next bank b p q m (answered b p q grant);
    wired = wires_wired q;
    read = words_right banks q m (answered b p q grant) (λ k g. (both_true (asks b p q k) (not (q.granted k)) (both_true (requests b p q k) (grant k) g).0).0);
    leaves = λ r. subst (λ z. GoesOn b p q (wires bank b p q) (words_next bank b p q m (answered b p q grant)) z ⊎ Leaves b p q (wires bank b p q) z) (sym (ready r))
        (left_or_on q inside (words_next bank b p q m (answered b p q grant)));
    waits = λ r a. record {
      some = any_tells (answered b p q grant) (size b) a;
      slot = unready r
          ∙ ap (λ (c : Bool). if c then stayed b p q (answered b p q grant) (words_next bank b p q m (answered b p q grant)) else q) a;
    };
    rests = λ r a. unready r ∙ ap (λ (c : Bool). if c then stayed b p q (answered b p q grant) (words_next bank b p q m (answered b p q grant)) else q) a;
  }
    where
      ready : is_ready b p q grant ≡ true → advance bank b p q m grant ≡ state_left bank b p q (words_next bank b p q m (answered b p q grant))
      ready r = ap (λ (c : Bool). if c then state_left bank b p q (words_next bank b p q m (answered b p q grant)) else
          (if is_answered b p q grant then stayed b p q (answered b p q grant) (words_next bank b p q m (answered b p q grant)) else q)) r

      unready : is_ready b p q grant ≡ false → advance bank b p q m grant
          ≡ (if is_answered b p q grant then stayed b p q (answered b p q grant) (words_next bank b p q m (answered b p q grant)) else q)
      unready r = ap (λ (c : Bool). if c then state_left bank b p q (words_next bank b p q m (answered b p q grant)) else
          (if is_answered b p q grant then stayed b p q (answered b p q grant) (words_next bank b p q m (answered b p q grant)) else q)) r

-- CLOSED
module _ (bank : Location → ℕ) (b : Block) (p : Plan) (keeps : KeepsOrders b p) (q : Slot) (closed : IsClosed b p q) (words : ℕ → ℤ) where
  -- no wire shows a word
  wires_same : (n k : ℕ) → k < size b → last_state b p k ≡ q.state → wires_after bank b p q n k ≡ wires_after bank b p (with_words q words) n k
  wires_same zero k lt s = refl
  wires_same (suc n) k lt s =
      result_same bank b p keeps q (wires_after bank b p q n) (wires_after bank b p (with_words q words) n) k
      (λ j u t. wires_same n j (let e = keeps.earlier j k lt u in omega arith) t)
      ∙ of_kind (operation_at b k).kind refl
    where
      of_kind : (kind : Kind) → (operation_at b k).kind ≡ kind →
          result_of bank kind q.words q.arrays (operand_now b p q (wires_after bank b p (with_words q words) n) (operation_at b k).left)
          (operand_now b p q (wires_after bank b p (with_words q words) n) (operation_at b k).right)
          ≡ result_of bank kind words q.arrays (operand_now b p q (wires_after bank b p (with_words q words) n) (operation_at b k).left)
          (operand_now b p q (wires_after bank b p (with_words q words) n) (operation_at b k).right)
      of_kind (Simple f) e = refl
      of_kind (Multiply f) e = refl
      of_kind (Divide f) e = refl
      of_kind (BankRead y) e = absurd (closed.takes_none k y lt s e)
      of_kind (BankWrite y) e = refl
      of_kind (ArrayRead y) e = refl
      of_kind (ArrayWrite y) e = refl

  abbrev u : ℕ → ℤ
  u = wires bank b p q

  abbrev v : ℕ → ℤ
  v = wires bank b p (with_words q words)

  arrays_same : (l : Location) → arrays_next b p q u l ≡ arrays_next b p q v l
  arrays_same l =
      ap (λ a. memory_after a q.arrays l) (accesses_where-same (starts_now b p q) (array_access_now b p q u) (array_access_now b p q v) (size b) 0
      (λ k _ lt t.
      ap (λ y. array_access (operation_at b k).kind y (operand_now b p q u (operation_at b k).right))
      (operand_same b p q u v (operation_at b k).left (λ j y z. wires_same (size b) j (let e = keeps.earlier j k (omega arith) (inl y) in omega arith) z))
      ∙ ap (λ y. array_access (operation_at b k).kind (operand_now b p q v (operation_at b k).left) y)
      (operand_same b p q u v (operation_at b k).right (λ j y z. wires_same (size b) j (let e = keeps.earlier j k (omega arith) (inr y) in omega arith) z))))

  registers_same : (x : ℕ) → registers_next bank b p q x ≡ registers_next bank b p (with_words q words) x
  registers_same x =
      last_of-same (ends_now bank b p keeps q x) u v (q.registers x) (size b)
      (λ k lt t. wires_same (size b) k lt (is_same (last_state b p k) q.state (both_true (nat_eq (last_state b p k) q.state) (is_register (p.register k) x) t).0))

  final_same : (o : Operand) → ((j : ℕ) → UsesIn o j → IsUsedAtEnd b j) → operand_now b p q u o ≡ operand_now b p q v o
  final_same o each = operand_same b p q u v o (λ j y z. wires_same (size b) j (keeps.final j (each j y)) z)

  left_same : (held other : ℕ → ℤ) → SameButWords (state_left bank b p q held) (state_left bank b p (with_words q words) other)
  left_same held other = by_end (nat_eq (suc q.state) p.states)
    where
      by_end : (c : Bool) → SameButWords
          (if c then left_for_next bank b p q held else gone_on b p q u held (registers_next bank b p q))
          (if c then left_for_next bank b p (with_words q words) other else gone_on b p (with_words q words) v other (registers_next bank b p (with_words q words)))
      by_end true = record {
        routine = refl;
        stage = leads_same (operand_now b p q u) (operand_now b p q v) b.next (λ o l k e. final_same o (λ j y. inr (o, l, k, e, y)));
        state = refl;
        granted = λ k. refl;
        variables = λ x. finished_same (operand_now b p q u) (operand_now b p q v) b.finals q.variables q.variables (λ y. refl)
            (λ f among. final_same f.value (λ j y. inl (f, among, y))) x;
        arrays = arrays_same;
        registers = registers_same;
        beat = refl;
      }
      by_end false = record { routine = refl; stage = refl; state = refl; granted = λ k. refl; variables = λ x. refl; arrays = arrays_same; registers = registers_same; beat = refl }

  all_ready : (s : Slot) → ((k : ℕ) → k < size b → asks b p s k ≡ false) → (grant : ℕ → Bool) → is_ready b p s grant ≡ true
  all_ready s none grant = all_true (is_granted b p s grant) (size b) (λ k lt. ap (λ c. not c || granted_with b p s (answered b p s grant) k) (none k lt))

  advance_ready : (s : Slot) (m : Memory ℤ) (grant : ℕ → Bool) → is_ready b p s grant ≡ true → advance bank b p s m grant ≡ state_left bank b p s (words_next bank b p s m (answered b p s grant))
  advance_ready s m grant e =
      ap (λ (c : Bool). if c then state_left bank b p s (words_next bank b p s m (answered b p s grant))
      else (if is_answered b p s grant then stayed b p s (answered b p s grant) (words_next bank b p s m (answered b p s grant)) else s)) e

  pub closed_alone : (m n : Memory ℤ) (grant other : ℕ → Bool) → SameButWords (advance bank b p q m grant) (advance bank b p (with_words q words) n other)
  closed_alone m n grant other =
      subst (λ s. SameButWords s (advance bank b p (with_words q words) n other)) (sym (advance_ready q m grant (all_ready q closed.asks_none grant)))
      (subst (λ s. SameButWords (state_left bank b p q (words_next bank b p q m (answered b p q grant))) s)
      (sym (advance_ready (with_words q words) n other (all_ready (with_words q words) closed.asks_none other)))
      (left_same (words_next bank b p q m (answered b p q grant)) (words_next bank b p (with_words q words) n (answered b p (with_words q words) other))))

pub is_closed_alone : (bank : Location → ℕ) (b : Block) (p : Plan) → KeepsOrders b p → IsClosedAlone bank b p
is_closed_alone bank b p keeps q closed words m n grant other = closed_alone bank b p keeps q closed words m n grant other
