-- A state of a block is left as the planned block is ready, and moves as one of its requests is granted.
use Rattle.std.proofs.Common.{◌≡◌, ℕ, zero, suc, ◌+◌, ◌-◌, ◌%◌, ◌<◌, ◌≤◌, Bool, true, false, not, ◌&&◌, ◌||◌, nat_eq, nat_lt, nat_le, List, length, slice_get}
use Rattle.std.proofs.Common.{slice_index, Option, Some, None, ℤ, refl, sym, ap, subst, ◌∙◌, arith, ⊎_elim}
use Rattle.std.proofs.lemmas.Bool.{cases_lt, ltb-true, leb-true, eqb-true, not-true, and_from, and_parts, lt-ltb}
use Rattle.std.proofs.lemmas.Bool.Decides.{nat_tests}
use Rattle.std.proofs.Math.Bool.{and-false, and-true, or-false}
use Rattle.plan_blocks.proofs.ViewRuns.{size-view}
use Rattle.hls_ints.specs.Residues.{bit_of}
use Rattle.hls_ints.specs.Types.{IntegerType, HasType}
use Rattle.bank_partition.specs.declared.banks.Spread.{Spread}
use Rattle.block_ir.specs.declared.operand.Operand.{Operand}
use Rattle.block_ir.specs.declared.block.Operation.{Operation}
use Rattle.block_ir.specs.declared.block.Operation.TheVariants.{Unary, Binary, ReadGlobal, WriteGlobal, ReadArray, WriteArray}
use Rattle.block_ir.specs.declared.block.Block.{Block}
use Rattle.block_ir.specs.declared.code.ThreadCode.{ThreadCode}
use Rattle.block_ir.specs.declared.plan.BlockPlan.{BlockPlan}
use Rattle.block_ir.specs.declared.plan.Planned.{Planned}
use Rattle.planned_block.specs.Block.{Kind, Simple, Multiply, Divide, BankRead, BankWrite, ArrayRead, ArrayWrite, operation_at, size}
use Rattle.planned_block.specs.Plan.{Target, NoTarget, OfGlobal, OfArray, target_of}
use Rattle.planned_block.specs.Slot.{Slot, is_request, asks, value_now}
use Rattle.planned_block.specs.Advance.{any_below, answered, is_ready, is_answered}
use Rattle.planned_block.proofs.Bits.{same_is}
use Rattle.planned_block.proofs.Advances.{any_tells, some_tells}
use Rattle.plan_blocks.specs.View.{planned_view, plan_view}
use Rattle.netlist.specs.declared.netlist.Module.{Module}
use Rattle.verilog_meaning.specs.Readings.{Reading}
use Rattle.circuit.specs.Modules.{Obeys}
use Rattle.thread_promise.specs.Globals.{bank_total, bank_now, wires_now, IsOpen}
use Rattle.thread_promise.specs.Serving.{IsInside, HearsBanks}
use Rattle.block_datapath.specs.Operations.{seen_value}
use Rattle.block_datapath.specs.Accesses.{is_bank, reaches_in}
use Rattle.block_datapath.proofs.OneAskedBank.{some_banks, reaching, only_one}
use Rattle.block_datapath.proofs.AskingOperations.{Asker, asker_of}
use Rattle.thread_slots.specs.declared.shape.Shape.{Shape}
use Rattle.block_ir.specs.declared.service.Service.{Service}
use Rattle.thread_slots.specs.Requests.{group}
use Rattle.thread_requests.proofs.OpenCores.{joined_front, joined_back}
use Rattle.thread_slots.specs.Bits.{HasBit, HaveBits, is_in}
use Rattle.thread_requests.specs.Early.{spread_out}
use Rattle.thread_states.specs.Control.{got, unmet, is_left, counts_of, Steers}
use Rattle.thread_layout.specs.Leaf.{served_ports}
use Rattle.thread_layout.specs.Modules.{marks_of, IsModule}
use Rattle.thread_layout.specs.Thread.{cores_of, inputs_of, places_of, IsServed}
use Rattle.thread_layout.proofs.RequestViews.{ready, moving, only_own}
use Rattle.thread_layout.proofs.Opened.{raised_by, acts_by, no_service, all_count, marked_now, mark_bit, mark_of_bank, open_bits, bit_told}
use Rattle.thread_layout.proofs.Cores.{none_open}
use Rattle.thread_layout.proofs.Placed.{from_control, opens_count}
use Rattle.thread_layout.proofs.RaisedAsks.{reached, wanted, wanted_bit}
use Rattle.thread_layout.proofs.RestingThread.{mark_at, mark_wide, marks_counted}
use Rattle.thread_layout.proofs.Shown.{global_within}
use Rattle.thread_layout.proofs.Sight.{heard, steered}

-- ---- small facts

told_bit : (n : ℕ) (b : Bool) → n ≡ bit_of b → nat_eq n 1 ≡ b
told_bit n true e = ap (λ k. nat_eq k 1) e
told_bit n false e = ap (λ k. nat_eq k 1) e

any_alike : (f g : ℕ → Bool) (n : ℕ) → ((k : ℕ) → k < n → f k ≡ g k) → any_below f n ≡ any_below g n
any_alike f g zero same = refl
any_alike f g (suc n) same = ap (λ t. t || f n) (any_alike f g n (λ k less. same k (omega arith))) ∙ ap (λ t. any_below g n || t) (same n (omega arith))

-- none of the last ones holds
pub any_shorter : (f : ℕ → Bool) (b n : ℕ) → b ≤ n → ((k : ℕ) → b ≤ k → k < n → f k ≡ false) → any_below f n ≡ any_below f b
any_shorter f b zero le none = ap (any_below f) (let z : 0 ≡ b = omega arith in z)
any_shorter f b (suc n) le none =
    ⊎_elim
    (λ (less : b < suc n).
    ap (λ z. any_below f n || z) (none n (omega arith) (omega arith)) ∙ or-false (any_below f n)
    ∙ any_shorter f b n (omega arith) (λ k past under. none k past (omega arith)))
    (λ (past : suc n ≤ b). ap (any_below f) (let z : suc n ≡ b = omega arith in z))
    (cases_lt b (suc n))

from_first : (s i : ℕ) → nat_le s (s + i) ≡ true
from_first s i = grind (arith, nat_tests)

-- the banks of a global
in_range : (s : Spread) (i : ℕ) → i < s.count → is_in s (s.first + i) ≡ true
in_range s i less =
    let same : s.first + i - s.first ≡ i = omega arith in
    and_from (nat_le s.first (s.first + i)) (nat_lt (s.first + i - s.first) s.count) (from_first s.first i) (ap (λ z. nat_lt z s.count) same ∙ lt-ltb i s.count less)

range_of : (s : Spread) (n : ℕ) → is_in s n ≡ true → (s.first ≤ n) × (n - s.first < s.count)
range_of s n e =
    let two = and_parts (nat_le s.first n) (nat_lt (n - s.first) s.count) e in
    (leb-true s.first n two.0, ltb-true (n - s.first) s.count two.1)

abbrev global_in : Target → ℕ
global_in NoTarget = 0
global_in (OfGlobal x w) = x
global_in (OfArray x w) = 0

target_request : (kind : Kind) (x : ℕ) (w : Bool) → target_of kind ≡ OfGlobal x w → is_request kind ≡ true
target_request (Simple f) x w e = absurd cc
target_request (Multiply f) x w e = absurd cc
target_request (Divide f) x w e = absurd cc
target_request (BankRead y) x w e = refl
target_request (BankWrite y) x w e = refl
target_request (ArrayRead y) x w e = absurd cc
target_request (ArrayWrite y) x w e = absurd cc

-- an operation reaches one bank at most
same_bank : (s : Option Spread) (i n j : ℕ) → is_bank s i n ≡ true → is_bank s i j ≡ true → n ≡ j
same_bank None i n j e f = absurd cc
same_bank (Some s) i n j e f = eqb-true n (s.first + i % s.count) e ∙ sym (eqb-true j (s.first + i % s.count) f)

same_reach : (variables given : ℕ → ℤ) (globals : List IntegerType) (spreads : List Spread) (o : Option Operation) (n j : ℕ) → reaches_in variables given globals spreads o n ≡ true
    → reaches_in variables given globals spreads o j ≡ true → n ≡ j
same_reach variables given globals spreads None n j e f = absurd cc
same_reach variables given globals spreads (Some (Unary operator ty a)) n j e f = absurd cc
same_reach variables given globals spreads (Some (Binary operator ty a b)) n j e f = absurd cc
same_reach variables given globals spreads (Some (ReadGlobal x k i)) n j e f = same_bank (slice_get spreads x) _ n j e f
same_reach variables given globals spreads (Some (WriteGlobal x k i a)) n j e f = same_bank (slice_get spreads x) _ n j e f
same_reach variables given globals spreads (Some (ReadArray x k i)) n j e f = absurd cc
same_reach variables given globals spreads (Some (WriteArray x k i a)) n j e f = absurd cc

module _ (shape : Shape) (code : ThreadCode) (plan : Planned) (m : Module) (t : IsModule shape code plan m) (served : IsServed shape code plan) where
  abbrev banks : ℕ
  banks = bank_total shape.spreads

  module _ (r : Reading) (q : Slot) (b : Block) (p : BlockPlan) (o : Obeys m r)
      (inside : IsInside shape.globals shape.spreads code plan (places_of (inputs_of shape) code plan) r q b p)
      (indices : (k x n : ℕ) (i : Operand) → slice_get b.operations k ≡ Some (ReadGlobal x n i) → slice_index p.starts k ≡ q.state → (ty : IntegerType)
      × HasType ty (seen_value q.variables (value_now (planned_view b) (plan_view b p) q (wires_now shape.spreads b p q)) i))
      (targets : (k x n : ℕ) (i a : Operand) → slice_get b.operations k ≡ Some (WriteGlobal x n i a) → slice_index p.starts k ≡ q.state → (ty : IntegerType)
      × HasType ty (seen_value q.variables (value_now (planned_view b) (plan_view b p) q (wires_now shape.spreads b p q)) i)) where
    abbrev asking : ℕ → Bool
    asking = asks (planned_view b) (plan_view b p) q

    pub who : (k : ℕ) → k < size (planned_view b) → asking k ≡ true → Asker shape.globals shape.spreads code t.inside.slot q.stage b p q k
    who =
        asker_of shape.globals shape.spreads code t.inside.slot q.stage b p q inside.runs.accesses served.spreads.powers served.spreads.short indices targets

    -- the bank of an operation
    abbrev pub bank : ℕ → ℕ
    bank k = bank_now shape.spreads b p q k (global_in (target_of (operation_at (planned_view b) k).kind))

    pub own_bank : (k : ℕ) (below : k < size (planned_view b)) (e : asking k ≡ true) → bank k ≡ bank_now shape.spreads b p q k (who k below e).global
    own_bank k below e = ap (λ (z : Target). bank_now shape.spreads b p q k (global_in z)) (who k below e).target

    pub within : (k : ℕ) → k < size (planned_view b) → asking k ≡ true → bank k < banks
    within k below e =
        let a = who k below e in
        let less : a.number % a.spread.count < a.spread.count = some_banks a.number a.spread.count (served.spreads.powers a.global a.spread a.listed) in
        let inside = served.spreads.within a.global a.spread a.listed in
        let at : bank k ≡ a.spread.first + a.number % a.spread.count = own_bank k below e ∙ a.bank in
        omega arith

    reached_own : (k : ℕ) → k < size (planned_view b) → asking k ≡ true → reached shape code plan m t served r q b p o inside (bank k) k ≡ true
    reached_own k below e = ap (λ n. reached shape code plan m t served r q b p o inside n k) (own_bank k below e) ∙ (who k below e).reached

    is_wanted : (k : ℕ) → k < size (planned_view b) → asking k ≡ true → wanted shape code plan m t served r q b p o inside (bank k) ≡ true
    is_wanted k below e =
        some_tells (reached shape code plan m t served r q b p o inside (bank k)) (length b.operations) k (subst (λ n. k < n) (size-view b.operations) below)
        (reached_own k below e)

    pub asker : (n : ℕ) → n < banks → wanted shape code plan m t served r q b p o inside n ≡ true → (k : ℕ) × (k < size (planned_view b)) × (asking k ≡ true) × (bank k ≡ n)
    asker n less e =
        let k = any_tells (reached shape code plan m t served r q b p o inside n) (length b.operations) e in
        let reach = reaching shape.globals shape.spreads code t.inside.slot q.stage b p q (wires_now shape.spreads b p q) n k.0 k.2 in
        let asked : asking k.0 ≡ true =
        and_from (is_request (operation_at (planned_view b) k.0).kind) (nat_eq ((plan_view b p).start k.0) q.state)
        (target_request (operation_at (planned_view b) k.0).kind reach.global reach.writes reach.target) (same_is ((plan_view b p).start k.0) q.state reach.at) in
        let one = and_parts (nat_eq q.state (slice_index p.starts k.0))
        (reaches_in q.variables (value_now (planned_view b) (plan_view b p) q (wires_now shape.spreads b p q)) shape.globals shape.spreads (slice_get b.operations k.0) n) k.2 in
        let two = and_parts (nat_eq q.state (slice_index p.starts k.0))
        (reaches_in q.variables (value_now (planned_view b) (plan_view b p) q (wires_now shape.spreads b p q)) shape.globals shape.spreads (slice_get b.operations k.0) (bank k.0))
        (reached_own k.0 reach.below asked) in (
          k.0,
          reach.below,
          asked,
          same_reach q.variables (value_now (planned_view b) (plan_view b p) q (wires_now shape.spreads b p q)) shape.globals shape.spreads (slice_get b.operations k.0)
              (bank k.0) n two.1 one.1,
        )

    marks : (k : ℕ) → k < size (planned_view b) → asking k ≡ true → marked_now shape code plan m t served r (bank k) ≡ q.granted k
    marks k below e =
        let a = who k below e in
        let less : a.number % a.spread.count < a.spread.count = some_banks a.number a.spread.count (served.spreads.powers a.global a.spread a.listed) in
        let at : bank k ≡ a.spread.first + a.number % a.spread.count = own_bank k below e ∙ a.bank in
        let starts = and_parts (is_request (operation_at (planned_view b) k).kind) (nat_eq ((plan_view b p).start k) q.state) e in
        told_bit (r.signal (slice_index (spread_out t.inside.slot.spreads (marks_of t.inside)) (bank k))) (q.granted k)
        (ap (λ n. r.signal (slice_index (spread_out t.inside.slot.spreads (marks_of t.inside)) n)) at
        ∙ ap r.signal (mark_of_bank shape code plan m t served a.global (a.number % a.spread.count) a.spread a.listed less)
        ∙ inside.shown.granted k a.global a.writes below a.target (eqb-true ((plan_view b p).start k) q.state starts.1))

    -- ---- control

    abbrev raised : ℕ → Bool
    raised = raised_by shape code plan m t served (wanted shape code plan m t served r q b p o inside) (marked_now shape code plan m t served r)
        (acts_by shape code plan m t served r (no_service shape code plan m t served))

    abbrev grants : ℕ → Bool
    grants n = nat_eq (r.signal (2 + n)) 1

    abbrev opened : ℕ → Bool
    opened n = wanted shape code plan m t served r q b p o inside n && not (marked_now shape code plan m t served r n)

    up : (n : ℕ) → n < banks → raised n ≡ opened n
    up n less = joined_front banks opened (acts_by shape code plan m t served r (no_service shape code plan m t served)) n less

    down : (n : ℕ) → banks ≤ n → raised n ≡ false
    down n past =
        joined_back banks opened (acts_by shape code plan m t served r (no_service shape code plan m t served)) n past
        ∙ none_open shape.served (λ s. r.signal (group t.inside.early.requests s).object) (n - banks)

    many : banks ≤ cores_of shape
    many = omega arith

    -- what is open, in a reading in which no core that acts ask is wanted
    all_open : ((k : Service) → HasBit m r (group t.inside.early.requests k).wants false) → HaveBits m r t.inside.early.opens (length t.inside.early.opens) raised
    all_open printing n less =
        open_bits shape code plan m t served r o (wanted shape code plan m t served r q b p o inside) (marked_now shape code plan m t served r)
        (no_service shape code plan m t served) (λ k below. wanted_bit shape code plan m t served r q b p o inside k below) (λ k below. mark_bit shape code plan m t served r k o below) printing n
        (subst (λ k. n < k) (opens_count shape code plan m t served ∙ sym (all_count shape code plan m t served)) less)

    -- bank n is asked as it is open
    pub block_asks : ((k : Service) → HasBit m r (group t.inside.early.requests k).wants false) → (e : Bool) → HasBit m r t.inside.inputs.enable e → (n : ℕ) → n < banks →
        r.signal (slice_index t.edge.asks n) ≡ bit_of (opened n && e)
    block_asks printing e on n less =
        (t.closed.controls.asks m r raised e (from_control shape code plan m t served) o (all_open printing) on n
        (subst (λ k. n < k) (sym (opens_count shape code plan m t served)) (omega arith))).shows
        ∙ ap (λ z. bit_of (z && e)) (up n less)

    -- the bank of an operation that asks and has not been granted is open
    pub own_open : (k : ℕ) → k < size (planned_view b) → asking k ≡ true → q.granted k ≡ false → opened (bank k) ≡ true
    own_open k below e not_so =
        and_from (wanted shape code plan m t served r q b p o inside (bank k)) (not (marked_now shape code plan m t served r (bank k))) (is_wanted k below e)
        (ap not (marks k below e ∙ not_so))

    -- and a bank that is open is that of one
    pub open_asker : (n : ℕ) → n < banks → opened n ≡ true → (k : ℕ) × (k < size (planned_view b)) × (asking k ≡ true) × (q.granted k ≡ false) × (bank k ≡ n)
    open_asker n less e =
        let two = and_parts (wanted shape code plan m t served r q b p o inside n) (not (marked_now shape code plan m t served r n)) e in
        let k = asker n less two.0 in (
          k.0,
          k.1,
          k.2,
          sym (marks k.0 k.1 k.2) ∙ ap (marked_now shape code plan m t served r) k.3 ∙ not-true (marked_now shape code plan m t served r n) two.1,
          k.3,
        )

    at_start : (k : ℕ) → asking k ≡ true → slice_index p.starts k ≡ q.state
    at_start k e =
        eqb-true ((plan_view b p).start k) q.state (and_parts (is_request (operation_at (planned_view b) k).kind) (nat_eq ((plan_view b p).start k) q.state) e).1

    -- a global has one access in a state
    only_access : (k j : ℕ) (below : k < size (planned_view b)) (e : asking k ≡ true) (under : j < size (planned_view b)) (f : asking j ≡ true) →
        (who j under f).global ≡ (who k below e).global
        → k ≡ j
    only_access k j below e under f same =
        let a = who k below e in
        let c = who j under f in
        only_one shape.globals shape.spreads code t.inside.slot q.stage b p q (wires_now shape.spreads b p q) inside.runs.keeps served.spreads.powers served.spreads.apart
        (a.spread.first + a.number % a.spread.count) k j
        (record {
          global = a.global;
          writes = a.writes;
          spread = a.spread;
          below = below;
          at = at_start k e;
          target = a.target;
          listed = a.listed;
          number = a.number;
          bank = refl;
        })
        (record {
          global = a.global;
          writes = c.writes;
          spread = a.spread;
          below = under;
          at = at_start j f;
          target = c.target ∙ ap (λ y. OfGlobal y c.writes) same;
          listed = a.listed;
          number = a.number;
          bank = refl;
        })

    -- the bank of an access that is still to be granted is asked
    pub own_asked : ((k : Service) → HasBit m r (group t.inside.early.requests k).wants false) → (e : Bool) → HasBit m r t.inside.inputs.enable e → (k : ℕ) →
        k < size (planned_view b) → asking k ≡ true →
        q.granted k ≡ false
        → r.signal (slice_index t.edge.asks (bank k)) ≡ bit_of e
    own_asked printing e on k below asks_now not_so =
        block_asks printing e on (bank k) (within k below asks_now) ∙ ap (λ z. bit_of (z && e)) (own_open k below asks_now not_so)

    -- and no other one
    pub none_asked : ((k : Service) → HasBit m r (group t.inside.early.requests k).wants false) → (e : Bool) → HasBit m r t.inside.inputs.enable e → (n : ℕ) → n < banks
        → ((k : ℕ) → k < size (planned_view b) → asking k ≡ true → q.granted k ≡ false → bank k ≡ n → ⊥) → r.signal (slice_index t.edge.asks n) ≡ 0
    none_asked printing e on n less none = block_asks printing e on n less ∙ ap (λ z. bit_of (z && e)) (shut (opened n) refl)
      where
        shut : (c : Bool) → opened n ≡ c → opened n ≡ false
        shut true is = absurd (let k = open_asker n less is in none k.0 k.1 k.2 k.3 k.4)
        shut false is = is

    module _ (grant : ℕ → Bool) (hears : HearsBanks shape.globals shape.spreads (served_ports shape m) r q b p grant) where
      heard_so : (k : ℕ) → k < size (planned_view b) → asking k ≡ true → q.granted k ≡ false → nat_eq (r.signal (2 + bank k)) 1 ≡ grant k
      heard_so k below e not_so =
          let a = who k below e in
          let open_now : IsOpen shape.spreads b p q k a.global a.writes = record {
            below = below;
            requested = and_from (asking k) (not (q.granted k)) e (ap not not_so);
            target = a.target;
          } in
          told_bit (r.signal (2 + bank k)) (grant k) (ap (λ n. r.signal (2 + n)) (own_bank k below e) ∙ hears.grants k a.global a.writes open_now)

      module _ (printing : ((k : Service) → HasBit m r (group t.inside.early.requests k).wants false)) (waits : r.signal t.inside.chains.waits ≡ 0) (on : r.signal 1 ≡ 1) where
        steers : Steers m r t.inside.inputs t.inside.chains t.inside.early.opens raised grants false true
        steers =
            steered shape code plan m t served r o raised grants false true
            (all_open printing)
            (λ k less. let h = heard shape code plan m t served r o k less in bit_told (r.signal (2 + k)) h.0 h.1) waits on

        lacks : any_below (unmet raised grants true) (length t.inside.early.opens) ≡ any_below (unmet opened grants true) banks
        lacks =
            ap (any_below (unmet raised grants true)) (opens_count shape code plan m t served)
            ∙ any_shorter (unmet raised grants true) banks (cores_of shape) many (λ k past less. ap (λ z. z && not ((z && true) && grants k)) (down k past))
            ∙ any_alike (unmet raised grants true) (unmet opened grants true) banks (λ k less. ap (λ z. z && not ((z && true) && grants k)) (up k less))

        wins : any_below (got raised grants true) (length t.inside.early.opens) ≡ any_below (got opened grants true) banks
        wins =
            ap (any_below (got raised grants true)) (opens_count shape code plan m t served)
            ∙ any_shorter (got raised grants true) banks (cores_of shape) many (λ k past less. ap (λ z. (z && true) && grants k) (down k past))
            ∙ any_alike (got raised grants true) (got opened grants true) banks (λ k less. ap (λ z. (z && true) && grants k) (up k less))

        ready_so : is_ready (planned_view b) (plan_view b p) q grant ≡ not (any_below (unmet opened grants true) banks)
        ready_so =
            ready (size (planned_view b)) banks asking q.granted grant (wanted shape code plan m t served r q b p o inside)
            (marked_now shape code plan m t served r) grants bank within
            is_wanted asker marks heard_so

        answered_so : is_answered (planned_view b) (plan_view b p) q grant ≡ any_below (got opened grants true) banks
        answered_so =
            moving (size (planned_view b)) banks asking q.granted grant (wanted shape code plan m t served r q b p o inside)
            (marked_now shape code plan m t served r) grants bank within
            is_wanted asker marks heard_so

        -- THE STATE IS LEFT as it is ready
        pub block_leave : r.signal t.edge.leave ≡ bit_of (is_ready (planned_view b) (plan_view b p) q grant)
        block_leave =
            (t.closed.controls.leave m r raised grants false true (from_control shape code plan m t served) o steers).shows ∙ ap (λ z. bit_of (not z)) lacks ∙ ap bit_of
            (sym ready_so)

        pub block_moved : r.signal t.edge.moved ≡ bit_of (is_ready (planned_view b) (plan_view b p) q grant || is_answered (planned_view b) (plan_view b p) q grant)
        block_moved =
            (t.closed.controls.moved m r raised grants false true (from_control shape code plan m t served) o steers).shows
            ∙ ap (λ z. bit_of (not z || any_below (got raised grants true) (length t.inside.early.opens))) lacks
            ∙ ap (λ z. bit_of (not (any_below (unmet opened grants true) banks) || z)) wins
            ∙ ap (λ z. bit_of (z || any_below (got opened grants true) banks)) (sym ready_so)
            ∙ ap (λ z. bit_of (is_ready (planned_view b) (plan_view b p) q grant || z)) (sym answered_so)

        -- THE BIT OF A GLOBAL is that of its access in this state, granted before or now, while the state stays
        left_so : is_left raised grants true false (length t.inside.early.opens) ≡ is_ready (planned_view b) (plan_view b p) q grant
        left_so = ap not lacks ∙ sym ready_so

        one_only : (k : ℕ) (below : k < size (planned_view b)) (e : asking k ≡ true) (n : ℕ) → n < banks → is_in (who k below e).spread n ≡ true
            → wanted shape code plan m t served r q b p o inside n ≡ true → n ≡ bank k
        one_only k below e n less counted wants =
            let a = who k below e in
            let j = asker n less wants in
            let c = who j.0 j.1 j.2 in
            let range = range_of a.spread n counted in
            let from = range.0 in
            let at : a.spread.first + (n - a.spread.first) ≡ n = omega arith in
            let same : c.global ≡ a.global =
            served.spreads.apart c.global a.global (c.number % c.spread.count) (n - a.spread.first) c.spread a.spread c.listed a.listed
            (some_banks c.number c.spread.count (served.spreads.powers c.global c.spread c.listed)) range.1 (sym c.bank ∙ sym (own_bank j.0 j.1 j.2) ∙ j.3 ∙ sym at) in
            sym j.3 ∙ ap bank (sym (only_access k j.0 below e j.1 j.2 same))

        own_wins : (k : ℕ) (below : k < size (planned_view b)) (e : asking k ≡ true)
            → any_below (λ n. counts_of (slice_get t.inside.slot.spreads (who k below e).global) n && got raised grants true n) (length t.inside.early.opens)
            ≡ answered (planned_view b) (plan_view b p) q grant k
        own_wins k below e =
            let a = who k below e in
            let listed : slice_get t.inside.slot.spreads a.global ≡ Some a.spread = ap (λ l. slice_get l a.global) t.laid.slot.spreads_are ∙ a.listed in
            let less : a.number % a.spread.count < a.spread.count = some_banks a.number a.spread.count (served.spreads.powers a.global a.spread a.listed) in
            ap (any_below (λ n. counts_of (slice_get t.inside.slot.spreads a.global) n && got raised grants true n)) (opens_count shape code plan m t served)
            ∙ any_shorter (λ n. counts_of (slice_get t.inside.slot.spreads a.global) n && got raised grants true n) banks (cores_of shape) many
            (λ n past under. ap (λ z. counts_of (slice_get t.inside.slot.spreads a.global) n && ((z && true) && grants n)) (down n past)
            ∙ and-false (counts_of (slice_get t.inside.slot.spreads a.global) n))
            ∙ any_alike (λ n. counts_of (slice_get t.inside.slot.spreads a.global) n && got raised grants true n) (λ n. is_in a.spread n && got opened grants true n) banks
            (λ n under. ap (λ z. counts_of z n && got raised grants true n) listed ∙ ap (λ z. is_in a.spread n && ((z && true) && grants n)) (up n under))
            ∙ only_own (size (planned_view b)) banks asking q.granted grant (wanted shape code plan m t served r q b p o inside)
            (marked_now shape code plan m t served r) grants bank
            within is_wanted asker marks heard_so (is_in a.spread) k below e
            (ap (is_in a.spread) (own_bank k below e ∙ a.bank) ∙ in_range a.spread (a.number % a.spread.count) less) (one_only k below e)

        own_mark : (k : ℕ) (below : k < size (planned_view b)) (e : asking k ≡ true) → is_ready (planned_view b) (plan_view b p) q grant ≡ false
            → r.signal (slice_index t.edge.granted (who k below e).global) ≡ bit_of (q.granted k || answered (planned_view b) (plan_view b p) q grant k)
        own_mark k below e stay =
            let a = who k below e in
            let less = global_within shape code plan m t served q b p inside.runs k a.global a.writes below a.target in
            let bit : HasBit m r (slice_index (marks_of t.inside) a.global) (q.granted k) = record {
              wide = mark_wide shape code plan m t served a.global less;
              shows = ap r.signal (mark_at shape code plan m t served a.global less) ∙ inside.shown.granted k a.global a.writes below a.target (at_start k e);
            } in
            (t.closed.controls.granted m r raised grants false true a.global (q.granted k) (from_control shape code plan m t served) o steers
            (subst (λ n. a.global < n) (sym (marks_counted shape code plan m t served)) less) bit).shows
            ∙ ap (λ z. bit_of ((q.granted k || z) && not (is_left raised grants true false (length t.inside.early.opens)))) (own_wins k below e)
            ∙ ap (λ z. bit_of ((q.granted k || answered (planned_view b) (plan_view b p) q grant k) && not z)) (left_so ∙ stay)
            ∙ ap bit_of (and-true (q.granted k || answered (planned_view b) (plan_view b p) q grant k))

        pub block_mark : (k x : ℕ) (w : Bool) → k < size (planned_view b) → target_of (operation_at (planned_view b) k).kind ≡ OfGlobal x w → (plan_view b p).start k ≡ q.state
            → is_ready (planned_view b) (plan_view b p) q grant ≡ false
            → r.signal (slice_index t.edge.granted x) ≡ bit_of (q.granted k || answered (planned_view b) (plan_view b p) q grant k)
        block_mark k x w below target at stay =
            let e : asking k ≡ true =
            and_from (is_request (operation_at (planned_view b) k).kind) (nat_eq ((plan_view b p).start k) q.state)
            (target_request (operation_at (planned_view b) k).kind x w target) (same_is ((plan_view b p).start k) q.state at) in
            let same : (who k below e).global ≡ x = (let own = (who k below e).target in cc) in
            subst (λ y. r.signal (slice_index t.edge.granted y) ≡ bit_of (q.granted k || answered (planned_view b) (plan_view b p) q grant k)) same (own_mark k below e stay)
