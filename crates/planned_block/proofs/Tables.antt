-- A plan that meets the table and is packed keeps the orders; so does the sequential one.
use Rattle.std.specs.Prelude.{◌⊎◌, nat_lt, Bool, true, false, ◌||◌, if◌then◌else◌, Some, None}
use Rattle.std.proofs.Common.{inr, ◌≡◌, ◌≢◌, ℕ, zero, suc, ◌+◌, ◌-◌, ◌<◌, ◌≤◌, List, [], ◌∷◌, refl, sym, ap, ◌∙◌, subst, ⊎_elim, inl, arith}
use Rattle.std.proofs.lemmas.Bool.Decides.{nat_tests}
use Rattle.std.proofs.lemmas.Bool.{or_left, or_right, cases_eq}
use Rattle.std.proofs.lemmas.Option.{cond_some}
use Rattle.planned_block.specs.Block.{Operand, Constant, Variable, Value, Through, Kind, Simple, Multiply, Divide, BankRead, BankWrite, ArrayRead, ArrayWrite}
use Rattle.planned_block.specs.Block.{Final, Block, operation_at, size, Uses, UsesIn, IsAmong, IsUsedAtEnd, IsOrdered}
use Rattle.planned_block.specs.Plan.{Plan, further_states, last_state, is_simple, target_of, OfGlobal, gap_after, KeepsOrders}
use Rattle.planned_block.specs.Table.{MeetsTable, IsPacked, HasRows, latency, greater, uses_in, last_user, any_final, next_uses, last_use, latencies_before, sequential}
use Rattle.planned_block.proofs.Bits.{same_is, less_is}

pub simple_now : (kind : Kind) → is_simple kind ≡ true → further_states kind ≡ 0
simple_now (Simple f) e = refl
simple_now (Multiply f) e = absurd cc
simple_now (Divide f) e = absurd cc
simple_now (BankRead x) e = absurd cc
simple_now (BankWrite x) e = absurd cc
simple_now (ArrayRead x) e = absurd cc
simple_now (ArrayWrite x) e = absurd cc

uses_tells : (o : Operand) (k : ℕ) → UsesIn o k → uses_in o k ≡ true
uses_tells (Constant n) k u = absurd u
uses_tells (Variable x) k u = absurd u
uses_tells (Value j) k u = same_is j k u
uses_tells (Through f o) k u = uses_tells o k u

greater_left : (a c : ℕ) → a ≤ greater a c
greater_left a c = grind (arith, nat_tests)

greater_right : (a c : ℕ) → c ≤ greater a c
greater_right a c = grind (arith, nat_tests)

user_is_before : (b : Block) (p : Plan) (j k n : ℕ) → k < n → Uses (operation_at b k) j → last_state b p k ≤ last_user b p j n
user_is_before b p j k zero lt u = absurd (omega arith)
user_is_before b p j k (suc n) lt u = ⊎_elim here (λ ne. there ne (user_is_before b p j k n (omega arith) u)) (cases_eq k n)
  where
    now : ℕ
    now = if uses_in (operation_at b n).left j || uses_in (operation_at b n).right j then last_state b p n else 0

    here : k ≡ n → last_state b p k ≤ greater (last_user b p j n) (if uses_in (operation_at b n).left j || uses_in (operation_at b n).right j then last_state b p n else 0)
    here e =
        let u' : Uses (operation_at b n) j = subst (λ i. Uses (operation_at b i) j) e u in
        let on : (uses_in (operation_at b n).left j || uses_in (operation_at b n).right j) ≡ true =
        ⊎_elim (λ v. or_left _ (uses_in (operation_at b n).right j) (uses_tells (operation_at b n).left j v))
        (λ v. or_right (uses_in (operation_at b n).left j) _ (uses_tells (operation_at b n).right j v)) u' in
        let is : ◌≡◌ {A = ℕ} (if uses_in (operation_at b n).left j || uses_in (operation_at b n).right j then last_state b p n else 0) (last_state b p n) =
        ap (λ (c : Bool). if c then last_state b p n else 0) on in
        let same : last_state b p k ≡ last_state b p n = ap (last_state b p) e in
        let most = greater_right (last_user b p j n) (if uses_in (operation_at b n).left j || uses_in (operation_at b n).right j then last_state b p n else 0) in
        omega arith

    there : k ≢ n → last_state b p k ≤ last_user b p j n → last_state b p k ≤ greater (last_user b p j n)
        (if uses_in (operation_at b n).left j || uses_in (operation_at b n).right j then last_state b p n else 0)
    there ne rest =
        let most = greater_left (last_user b p j n) (if uses_in (operation_at b n).left j || uses_in (operation_at b n).right j then last_state b p n else 0) in
        omega arith

final_tells : (fs : List Final) (f : Final) (k : ℕ) → IsAmong fs f → UsesIn f.value k → any_final fs k ≡ true
final_tells [] f k a u = absurd a
final_tells (g ∷ fs) f k a u = ⊎_elim (λ e. or_left (uses_in g.value k) (any_final fs k) (uses_tells g.value k (subst (λ h. UsesIn h.value k) e u)))
    (λ t. or_right (uses_in g.value k) (any_final fs k) (final_tells fs f k t u)) a

used_last : (b : Block) (p : Plan) (k : ℕ) → IsUsedAtEnd b k → p.states ≤ suc (last_use b p k)
used_last b p k u =
    let on : (any_final b.finals k || next_uses b.next k) ≡ true =
    ⊎_elim (λ v. or_left _ (next_uses b.next k) (final_tells b.finals v.0 k v.1 v.2)) (λ v. or_right (any_final b.finals k) _ (ap (λ n. next_uses n k) v.3 ∙ uses_tells v.0 k v.4)) u in
    let is : ◌≡◌ {A = ℕ} (if any_final b.finals k || next_uses b.next k then p.states - 1 else 0) (p.states - 1) = ap (λ (c : Bool). if c then p.states - 1 else 0) on in
    let most = greater_right (last_user b p k (size b)) (if any_final b.finals k || next_uses b.next k then p.states - 1 else 0) in
    omega arith

used : (b : Block) (p : Plan) (j k : ℕ) → k < size b → Uses (operation_at b k) j → last_state b p k ≤ last_use b p j
used b p j k lt u =
    let one = user_is_before b p j k (size b) lt u in
    let most = greater_left (last_user b p j (size b)) (if any_final b.finals j || next_uses b.next j then p.states - 1 else 0) in
    omega arith

module _ (b : Block) (p : Plan) (t : MeetsTable b p) where
  by_kinds : (j k : ℕ) → k < size b → Uses (operation_at b k) j → (x : Bool) → is_simple (operation_at b j).kind ≡ x → (y : Bool) → is_simple (operation_at b k).kind ≡ y →
      last_state b p j ≤ p.start k
  by_kinds j k lt u true ej true ek = let le = t.chained j k lt u ej ek in let z = simple_now (operation_at b j).kind ej in omega arith
  by_kinds j k lt u true ej false ek = let le = t.kept j k lt u ej ek in let z = simple_now (operation_at b j).kind ej in omega arith
  by_kinds j k lt u false ej y ek = let le = t.awaited j k lt u ej in omega arith

  pub waits_by : (j k : ℕ) → k < size b → Uses (operation_at b k) j → last_state b p j ≤ p.start k
  waits_by j k lt u = by_kinds j k lt u (is_simple (operation_at b j).kind) refl (is_simple (operation_at b k).kind) refl

-- starts that meet the table, with a packing of the values, keep the orders
pub keeps_orders : (b : Block) (p : Plan) → IsOrdered b → MeetsTable b p → IsPacked b p → KeepsOrders b p
keeps_orders b p o t pack = record {
  earlier = o.earlier;
  final = o.final;
  waits = waits_by b p t;
  ends = λ k lt. let e = t.ends k lt in omega arith;
  banks = t.one_bank;
  arrays = λ j k x v w lt below a c s. let e = t.one_array j k x v w lt below a c s in omega arith;
  used = λ j k lt u. let e = pack.until j (let early = o.earlier j k lt u in omega arith) in let le = used b p j k lt u in omega arith;
  used_last = λ k u. let e = pack.until k (o.final k u) in let le = used_last b p k u in omega arith;
  has = pack.has;
  short = pack.short;
  apart = pack.apart;
}

-- THE SEQUENTIAL PLAN

sum_steps : (b : Block) (i j : ℕ) → i < j → latencies_before b i + latency (operation_at b i).kind ≤ latencies_before b j
sum_steps b i zero lt = absurd (omega arith)
sum_steps b i (suc j) lt = ⊎_elim (λ (e : i ≡ j). let same : latencies_before b i + latency (operation_at b i).kind ≡ latencies_before b j + latency (operation_at b j).kind =
    ap (λ k. latencies_before b k + latency (operation_at b k).kind) e in omega arith) (λ (ne : i ≢ j). let rest = sum_steps b i j (omega arith) in omega arith) (cases_eq i j)

gap_fits : (kind : Kind) (x : ℕ) (v : Bool) → target_of kind ≡ OfGlobal x v → gap_after v ≤ latency kind
gap_fits (Simple f) x v e = absurd cc
gap_fits (Multiply f) x v e = absurd cc
gap_fits (Divide f) x v e = absurd cc
gap_fits (BankRead y) x true e = absurd cc
gap_fits (BankRead y) x false e = omega arith
gap_fits (BankWrite y) x true e = omega arith
gap_fits (BankWrite y) x false e = absurd cc
gap_fits (ArrayRead y) x v e = absurd cc
gap_fits (ArrayWrite y) x v e = absurd cc

-- the operations one after another meet the table
pub sequential_meets : (b : Block) → IsOrdered b → MeetsTable b (sequential b)
sequential_meets b o = record {
  ends = λ k lt. let s = sum_steps b k (size b) lt in let l = greater_right 1 (latencies_before b (size b)) in omega arith;
  chained = λ i j lt u a c. let s = sum_steps b i j (o.earlier i j lt u) in omega arith;
  chained_twice = λ i j k lt u v a c d. let first = o.earlier j k lt u in let second = o.earlier i j (omega arith) v in let s = sum_steps b i k (omega arith) in omega arith;
  kept = λ i j lt u a c. let s = sum_steps b i j (o.earlier i j lt u) in omega arith;
  awaited = λ i j lt u a. sum_steps b i j (o.earlier i j lt u);
  one_bank = λ j k x v w lt below a c. let s = sum_steps b j k lt in let g = gap_fits (operation_at b j).kind x v a in omega arith;
  one_array = λ j k x v w lt below a c e. let s = sum_steps b j k lt in omega arith;
}

-- and each value has a register of its own
pub sequential_packed : (b : Block) → IsPacked b (sequential b)
sequential_packed b = record {
  until = λ k lt. refl;
  has = λ k lt less. (k, ap (λ (c : Bool). if c then Some k else None) (less_is (last_state b (sequential b) k) ((sequential b).until k) less));
  short = λ k x lt e. of_bit k x (nat_lt (last_state b (sequential b) k) ((sequential b).until k)) refl e;
  apart = λ j k x lj lk ne ej ek. absurd (ne ((cond_some (nat_lt (last_state b (sequential b) j) ((sequential b).until j)) j x ej).1
      ∙ sym ((cond_some (nat_lt (last_state b (sequential b) k) ((sequential b).until k)) k x ek).1)));
}
  where
    of_bit : (k x : ℕ) (c : Bool) → nat_lt (last_state b (sequential b) k) ((sequential b).until k) ≡ c → (if c then Some k else None) ≡ Some x →
        last_state b (sequential b) k < (sequential b).until k
    of_bit k x true t e = grind (arith, nat_tests)
    of_bit k x false t e = absurd cc

pub sequential_keeps : (b : Block) → IsOrdered b → KeepsOrders b (sequential b)
sequential_keeps b o = keeps_orders b (sequential b) o (sequential_meets b o) (sequential_packed b)

-- the sequential plan is short
pub sequential_short : (b : Block) → (sequential b).states ≤ latencies_before b (size b) + 1
sequential_short b = greater_short (latencies_before b (size b))
  where
    greater_short : (n : ℕ) → greater 1 n ≤ n + 1
    greater_short n = grind (arith, nat_tests)

-- rows of a packing of the intervals from the state after an operation's last one to the state after the last use
pub packed : (b : Block) (p : Plan) (row : ℕ → ℕ) → HasRows b p row → IsPacked b p
packed b p row rows = record {
  until = rows.until;
  has = λ k lt less. (row k, rows.register k lt ∙ ap (λ (c : Bool). if c then Some (row k) else None) (less_is (last_state b p k) (p.until k) less));
  short = λ k r lt e. (of_bit k r (nat_lt (last_state b p k) (p.until k)) refl (sym (rows.register k lt) ∙ e)).0;
  apart = λ j k r lj lk ne ej ek.
      let own_j = (of_bit j r (nat_lt (last_state b p j) (p.until j)) refl (sym (rows.register j lj) ∙ ej)).1 in
      let own_k = (of_bit k r (nat_lt (last_state b p k) (p.until k)) refl (sym (rows.register k lk) ∙ ek)).1 in
      ⊎_elim (λ le. inl le) (λ (less : last_state b p k < p.until j). ⊎_elim (λ le. inr le)
      (λ (more : last_state b p j < p.until k). absurd (rows.differ j k lj lk ne (omega arith) (omega arith) (own_j ∙ sym own_k))) (le_or (p.until k) (last_state b p j)))
      (le_or (p.until j) (last_state b p k));
}
  where
    le_or : (a c : ℕ) → (a ≤ c) ⊎ (c < a)
    le_or a c = grind arith

    of_bit : (k r : ℕ) (c : Bool) → nat_lt (last_state b p k) (p.until k) ≡ c → (if c then Some (row k) else None) ≡ Some r → (last_state b p k < p.until k) × (row k ≡ r)
    of_bit k r true t e = ((grind (arith, nat_tests)), cc)
    of_bit k r false t e = absurd cc
