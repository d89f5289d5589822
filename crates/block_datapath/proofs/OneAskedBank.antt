-- In a state a bank is asked by one operation at most: what the links of a block show of a bank is what that operation asks.
use Rattle.std.proofs.Common.{◌≡◌, ℕ, ◌+◌, ◌%◌, ◌<◌, ◌≤◌, nat_eq, Bool, true, false, ◌&&◌}
use Rattle.std.proofs.Common.{List, length, slice_get, slice_index, Option, Some, None, ℤ}
use Rattle.std.proofs.Common.{refl, sym, ap, subst, ◌∙◌, arith, ◌⊎◌, ⊎_elim}
use Rattle.std.proofs.lemmas.Bool.{cases_lt, and_parts, eqb-true}
use Rattle.hls_ints.specs.Types.{IntegerType}
use Rattle.bank_partition.specs.declared.banks.Spread.{Spread}
use Rattle.block_ir.specs.declared.operand.Operand.{Operand}
use Rattle.block_ir.specs.declared.block.Operation.{Operation}
use Rattle.block_ir.specs.declared.block.Operation.TheVariants.{Unary, Binary, ReadGlobal, WriteGlobal, ReadArray, WriteArray}
use Rattle.block_ir.specs.declared.block.Block.{Block}
use Rattle.block_ir.specs.declared.code.ThreadCode.{ThreadCode}
use Rattle.block_ir.specs.declared.plan.BlockPlan.{BlockPlan}
use Rattle.planned_block.specs.Block.{Operation as PlannedOperation, operation_at, size}
use Rattle.planned_block.specs.Plan.{OfGlobal, target_of, gap_after, KeepsOrders}
use Rattle.planned_block.specs.Slot.{Slot, value_now}
use Rattle.planned_block.specs.Advance.{last_of}
use Rattle.planned_block.proofs.LastPassing.{last_hit, last_miss}
use Rattle.thread_promise.specs.View.{planned_view, plan_view}
use Rattle.thread_promise.specs.Globals.{IsSmallPower}
use Rattle.block_datapath.specs.declared.registers.Registers.{Registers}
use Rattle.block_datapath.specs.Requests.{Asked}
use Rattle.block_datapath.specs.Accesses.{is_bank, index_number, reaches_bank, reaches_in, reaches_now, asked_now}
use Rattle.block_datapath.proofs.OperationValues.{listed_view, within_view}

-- banks of different globals are different ones
abbrev pub AreApart : List Spread → Type 0
AreApart spreads =
    (x y k l : ℕ) (s t : Spread) → slice_get spreads x ≡ Some s → slice_get spreads y ≡ Some t → k < s.count → l < t.count → s.first + k ≡ t.first + l → x ≡ y

pub some_banks : (n K : ℕ) → IsSmallPower K → n % K < K
some_banks n K power =
    ⊎_elim (λ (e : K ≡ 1). subst (λ k. n % k < k) (sym e) (let h : n % 1 < 1 = omega arith in h))
    (λ (other : (K ≡ 2) ⊎ ((K ≡ 4) ⊎ (K ≡ 8))).
    ⊎_elim (λ (e : K ≡ 2). subst (λ k. n % k < k) (sym e) (let h : n % 2 < 2 = omega arith in h))
    (λ (more : (K ≡ 4) ⊎ (K ≡ 8)).
    ⊎_elim (λ (e : K ≡ 4). subst (λ k. n % k < k) (sym e) (let h : n % 4 < 4 = omega arith in h))
    (λ (e : K ≡ 8). subst (λ k. n % k < k) (sym e) (let h : n % 8 < 8 = omega arith in h)) more)
    other)
    power

module _ (globals : List IntegerType) (spreads : List Spread) (code : ThreadCode) (registers : Registers) (l : ℕ) (b : Block) (p : BlockPlan) (q : Slot) (wire : ℕ → ℤ) where
  abbrev given : ℕ → ℤ
  given = value_now (planned_view b) (plan_view b p) q wire

  -- operation k is an access of the global x that starts in this state, whose index names bank j
  pub record Reaches (j k : ℕ) : Type 0 where
    pub global : ℕ
    pub writes : Bool
    pub spread : Spread
    pub below : k < size (planned_view b)
    pub at : slice_index p.starts k ≡ q.state
    pub target : target_of (operation_at (planned_view b) k).kind ≡ OfGlobal global writes
    pub listed : slice_get spreads global ≡ Some spread
    pub number : ℕ
    pub bank : j ≡ spread.first + number % spread.count

  spread_named : (s : Option Spread) (i : Operand) (j : ℕ) → is_bank s (index_number q.variables given i) j ≡ true →
      (t : Spread) × (s ≡ Some t) × (j ≡ t.first + index_number q.variables given i % t.count)
  spread_named None i j e = absurd cc
  spread_named (Some t) i j e = (t, refl, eqb-true j (t.first + index_number q.variables given i % t.count) e)

  of_operation : (j k : ℕ) (o : Operation) → slice_get b.operations k ≡ Some o → q.state ≡ slice_index p.starts k → reaches_bank q.variables given globals spreads o j ≡ true →
      Reaches j k
  of_operation j k (Unary operator ty a) listed at e = absurd cc
  of_operation j k (Binary operator ty a c) listed at e = absurd cc
  of_operation j k (ReadGlobal x n i) listed at e =
      let named = spread_named (slice_get spreads x) i j e in
      record {
        global = x;
        writes = false;
        spread = named.0;
        below = within_view b.operations k (ReadGlobal x n i) listed;
        at = sym at;
        target = ap (λ (z : PlannedOperation). target_of z.kind) (listed_view b.operations k (ReadGlobal x n i) listed);
        listed = named.1;
        number = index_number q.variables given i;
        bank = named.2;
      }
  of_operation j k (WriteGlobal x n i a) listed at e =
      let named = spread_named (slice_get spreads x) i j e in
      record {
        global = x;
        writes = true;
        spread = named.0;
        below = within_view b.operations k (WriteGlobal x n i a) listed;
        at = sym at;
        target = ap (λ (z : PlannedOperation). target_of z.kind) (listed_view b.operations k (WriteGlobal x n i a) listed);
        listed = named.1;
        number = index_number q.variables given i;
        bank = named.2;
      }
  of_operation j k (ReadArray x n i) listed at e = absurd cc
  of_operation j k (WriteArray x n i a) listed at e = absurd cc

  pub reaching : (j k : ℕ) → reaches_now globals spreads code registers l b p q wire j k ≡ true → Reaches j k
  reaching j k e =
      let two = and_parts (nat_eq q.state (slice_index p.starts k)) (reaches_in q.variables given globals spreads (slice_get b.operations k) j) e in
      by (slice_get b.operations k) refl (eqb-true q.state (slice_index p.starts k) two.0) two.1
    where
      by : (o : Option Operation) → slice_get b.operations k ≡ o → q.state ≡ slice_index p.starts k → reaches_in q.variables given globals spreads o j ≡ true → Reaches j k
      by None listed at h = absurd cc
      by (Some o) listed at h = of_operation j k o listed at h

  module _ (keeps : KeepsOrders (planned_view b) (plan_view b p)) (powers : (x : ℕ) (s : Spread) → slice_get spreads x ≡ Some s → IsSmallPower s.count)
      (apart : AreApart spreads) where
    pub only_one : (j k n : ℕ) → Reaches j k → Reaches j n → k ≡ n
    only_one j k n t u =
        let same : t.global ≡ u.global =
        apart t.global u.global (t.number % t.spread.count) (u.number % u.spread.count) t.spread u.spread t.listed u.listed
        (some_banks t.number t.spread.count (powers t.global t.spread t.listed)) (some_banks u.number u.spread.count (powers u.global u.spread u.listed)) (sym t.bank ∙ u.bank)
        in
        let target : target_of (operation_at (planned_view b) n).kind ≡ OfGlobal t.global u.writes = u.target ∙ ap (λ x. OfGlobal x u.writes) (sym same) in
        let at = t.at in
        let too = u.at in
        ⊎_elim
        (λ (less : k < n). absurd (let late = keeps.banks k n t.global t.writes u.writes less u.below t.target target in let gap = some_gap t.writes in omega
        (arith, late, gap, at, too)))
        (λ (le : n ≤ k).
        ⊎_elim
        (λ (less : n < k). absurd (let late = keeps.banks n k t.global u.writes t.writes less t.below target t.target in let gap = some_gap u.writes in omega
        (arith, late, gap, at, too)))
        (λ (more : k ≤ n). omega arith)
        (cases_lt n k))
        (cases_lt k n)
      where
        some_gap : (w : Bool) → 1 ≤ gap_after w
        some_gap true = omega arith
        some_gap false = omega arith

    -- WHAT A BANK IS ASKED
    pub asked_one : (j k : ℕ) (old : Asked) → k < length b.operations → reaches_now globals spreads code registers l b p q wire j k ≡ true →
        last_of (reaches_now globals spreads code registers l b p q wire j) (asked_now globals spreads code registers l b p q wire) old (length b.operations)
        ≡ asked_now globals spreads code registers l b p q wire k
    asked_one j k old below e =
        last_hit (reaches_now globals spreads code registers l b p q wire j) (asked_now globals spreads code registers l b p q wire) old (length b.operations) k below e
        (λ n less h. only_one j n k (reaching j n h) (reaching j k e))

  pub asked_nobody : (j : ℕ) (old : Asked) → ((k : ℕ) → k < length b.operations → reaches_now globals spreads code registers l b p q wire j k ≡ true → ⊥) →
      last_of (reaches_now globals spreads code registers l b p q wire j) (asked_now globals spreads code registers l b p q wire) old (length b.operations) ≡ old
  asked_nobody j old none = last_miss (reaches_now globals spreads code registers l b p q wire j) (asked_now globals spreads code registers l b p q wire) old
      (length b.operations) none
