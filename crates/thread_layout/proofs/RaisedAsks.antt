-- What a state of a block asks banks: each bank what the one operation asks that reaches it, or nothing.
use Rattle.std.proofs.Common.{◌≡◌, ◌≢◌, ℕ, ◌+◌, ◌-◌, ◌/◌, ◌%◌, ◌^◌, ◌<◌, nat_eq, Bool, true, false, if◌then◌else◌, List, length, slice_get, slice_index}
use Rattle.std.proofs.Common.{Option, Some, None, ℤ, refl, sym, ap, subst, ◌∙◌, arith, ⊎_elim, inl}
use Rattle.std.proofs.lemmas.Bool.{eqb-true, cases_eq, and_from, and_parts}
use Rattle.std.proofs.lemmas.Option.{slice_get_within}
use Rattle.hls_ints.specs.Residues.{residue_of, bit_of}
use Rattle.hls_ints.specs.Types.{IntegerType, width_of}
use Rattle.hls_ints.proofs.Conversions.{residue_of-below}
use Rattle.bank_partition.specs.declared.banks.Spread.{Spread}
use Rattle.block_ir.specs.declared.block.Operation.{Operation}
use Rattle.block_ir.specs.declared.block.Operation.TheVariants.{Unary, Binary, ReadGlobal, WriteGlobal, ReadArray, WriteArray}
use Rattle.block_ir.specs.declared.block.Block.{Block}
use Rattle.block_ir.specs.declared.code.Stage.TheVariants as stage
use Rattle.block_ir.specs.declared.code.ThreadCode.{ThreadCode}
use Rattle.block_ir.specs.declared.plan.BlockPlan.{BlockPlan}
use Rattle.block_ir.specs.declared.plan.Planned.{Planned}
use Rattle.planned_block.specs.Slot.{Slot, value_now}
use Rattle.planned_block.specs.Advance.{any_below, last_of}
use Rattle.plan_blocks.specs.View.{planned_view, plan_view}
use Rattle.netlist.specs.declared.netlist.Module.{Module}
use Rattle.verilog_meaning.specs.Readings.{Reading}
use Rattle.circuit.specs.Modules.{Obeys}
use Rattle.operator_wires.specs.Gives.{Grows}
use Rattle.operator_wires.proofs.PutSignals.{grows_then}
use Rattle.planned_block.proofs.Bits.{same_is, other_is}
use Rattle.planned_block.proofs.Advances.{any_tells, some_tells}
use Rattle.thread_promise.specs.Types.{or_int}
use Rattle.thread_promise.specs.Globals.{IsSmallPower, bank_total, wires_now}
use Rattle.thread_promise.specs.Serving.{IsInside}
use Rattle.block_datapath.specs.declared.requests.BankRequests.{BankRequests}
use Rattle.block_datapath.specs.Operations.{seen_value}
use Rattle.block_datapath.specs.Requests.{Asked, asked_at, nothing_asked}
use Rattle.block_datapath.specs.Accesses.{is_bank, address_in, index_number, AreFitSpreads, FitsSpread, reaches_now, asked_now, reaches_in, asked_in}
use Rattle.block_datapath.proofs.OneAskedBank.{AreApart, some_banks, asked_one, asked_nobody}
use Rattle.block_datapath.proofs.BankRequests.{same_asked}
use Rattle.thread_slots.specs.declared.shape.Shape.{Shape}
use Rattle.thread_slots.specs.Bits.{HasBit}
use Rattle.thread_requests.specs.Banks.{own_bank, AreOneEach, bank_number, wanted_at}
use Rattle.thread_requests.proofs.AllAsks.{one_is}
use Rattle.thread_layout.specs.Modules.{IsModule}
use Rattle.thread_layout.specs.Thread.{inputs_of, places_of, IsServed}
use Rattle.thread_layout.proofs.Opened.{want_wide, start_many, start_less, from_open}
use Rattle.thread_layout.proofs.Placed.{mark_held, whole_many}
use Rattle.thread_layout.proofs.Sight.{asks_so, asks_right, in_stage, sees_slot, knows}

-- whoever reaches a bank wants it
reach_wants : (variables given : ℕ → ℤ) (globals : List IntegerType) (spreads : List Spread) (o : Option Operation) (n : ℕ) → reaches_in variables given globals spreads o n ≡ true
    → (asked_in variables given globals spreads o).wants ≡ 1
reach_wants variables given globals spreads None n e = absurd cc
reach_wants variables given globals spreads (Some (Unary operator ty a)) n e = absurd cc
reach_wants variables given globals spreads (Some (Binary operator ty a b)) n e = absurd cc
reach_wants variables given globals spreads (Some (ReadGlobal x k i)) n e = refl
reach_wants variables given globals spreads (Some (WriteGlobal x k i a)) n e = refl
reach_wants variables given globals spreads (Some (ReadArray x k i)) n e = absurd cc
reach_wants variables given globals spreads (Some (WriteArray x k i a)) n e = absurd cc

-- ---- an access, by the banks of its global and by the one bank in which it is laid

module _ (variables given : ℕ → ℤ) (globals : List IntegerType) (spreads one_each : List Spread) (are : AreOneEach (length spreads) one_each) where
  own : (x : ℕ) (s : Spread) → slice_get spreads x ≡ Some s → slice_get one_each x ≡ Some (own_bank x)
  own x s there = are.each x (slice_get_within spreads x s there)

  -- bank n is that of an index of a global, at which the operation is laid
  pub record IsAccessOf (o : Option Operation) (n : ℕ) : Type 0 where
    pub global : ℕ
    pub spread : Spread
    pub index : ℕ
    pub listed : slice_get spreads global ≡ Some spread
    pub bank : n ≡ spread.first + index % spread.count
    pub small : index < 2 ^ 64
    pub laid : reaches_in variables given globals one_each o global ≡ true
    pub wanted : (asked_in variables given globals one_each o).wants ≡ 1
    pub at : (asked_in variables given globals one_each o).address ≡ index
    pub same : asked_in variables given globals spreads o ≡ record (asked_in variables given globals one_each o) { address = index / spread.count }

  named : (s : Option Spread) (i n : ℕ) → is_bank s i n ≡ true → (t : Spread) × (s ≡ Some t) × (n ≡ t.first + i % t.count)
  named None i n e = absurd cc
  named (Some t) i n e = (t, refl, eqb-true n (t.first + i % t.count) e)

  in_one : (x i : ℕ) → is_bank (Some (own_bank x)) i x ≡ true
  in_one x i = same_is x (x + i % 1) (let e : x ≡ x + i % 1 = omega arith in e)

  whole_address : (i : ℕ) → i / 1 ≡ i
  whole_address i = omega arith

  pub access_of : (o : Option Operation) (n : ℕ) → reaches_in variables given globals spreads o n ≡ true → IsAccessOf o n
  access_of None n e = absurd cc
  access_of (Some (Unary operator ty a)) n e = absurd cc
  access_of (Some (Binary operator ty a b)) n e = absurd cc
  access_of (Some (ReadArray x k i)) n e = absurd cc
  access_of (Some (WriteArray x k i a)) n e = absurd cc
  access_of (Some (ReadGlobal x k i)) n e =
      let index = index_number variables given i in
      let t = named (slice_get spreads x) index n e in
      let mine = own x t.0 t.1 in
      record {
        global = x;
        spread = t.0;
        index = index;
        listed = t.1;
        bank = t.2;
        small = residue_of-below 64 (seen_value variables given i);
        laid = ap (λ (s : Option Spread). is_bank s index x) mine ∙ in_one x index;
        wanted = refl;
        at = ap (λ (s : Option Spread). address_in s index) mine ∙ whole_address index;
        same = ap (λ (s : Option Spread). record { wants = 1; writes = bit_of false; address = address_in s index; value = 0 }) t.1;
      }
  access_of (Some (WriteGlobal x k i a)) n e =
      let index = index_number variables given i in
      let t = named (slice_get spreads x) index n e in
      let mine = own x t.0 t.1 in
      let value = residue_of (width_of (or_int (slice_get globals x))) (seen_value variables given a) in
      record {
        global = x;
        spread = t.0;
        index = index;
        listed = t.1;
        bank = t.2;
        small = residue_of-below 64 (seen_value variables given i);
        laid = ap (λ (s : Option Spread). is_bank s index x) mine ∙ in_one x index;
        wanted = refl;
        at = ap (λ (s : Option Spread). address_in s index) mine ∙ whole_address index;
        same = ap (λ (s : Option Spread). record { wants = 1; writes = bit_of true; address = address_in s index; value = value }) t.1;
      }

  -- where an operation is laid at a global it asks the bank of the index
  laid_index : (s : Option Spread) (x y i : ℕ) → slice_get one_each y ≡ s → is_bank s i x ≡ true → (y ≡ x) × (address_in s i ≡ i)
  laid_index None x y i e is = absurd cc
  laid_index (Some t) x y i e is =
      let mine : slice_get one_each y ≡ Some (own_bank y) = are.each y (subst (λ k. y < k) are.count (slice_get_within one_each y t e)) in
      let same : own_bank y ≡ t = cc in
      let first : y ≡ t.first = ap (λ (z : Spread). z.first) same in
      let count : 1 ≡ t.count = ap (λ (z : Spread). z.count) same in
      let at : x ≡ t.first + i % t.count = eqb-true x (t.first + i % t.count) is in
      let rest : i % t.count ≡ 0 = ap (λ k. i % k) (sym count) ∙ (let z : i % 1 ≡ 0 = omega arith in z) in
      (omega arith, ap (λ k. i / k) (sym count) ∙ whole_address i)

  bank_of_index : (x y i n : ℕ) (s : Spread) → slice_get spreads x ≡ Some s → is_bank (slice_get one_each y) i x ≡ true
      → is_bank (slice_get spreads y) i n ≡ nat_eq n (s.first + address_in (slice_get one_each y) i % s.count)
  bank_of_index x y i n s there is =
      let at = laid_index (slice_get one_each y) x y i refl is in
      ap (λ (z : Option Spread). is_bank z i n) (ap (slice_get spreads) at.0 ∙ there) ∙ ap (λ k. nat_eq n (s.first + k % s.count)) (sym at.1)

  pub laid_asks : (o : Option Operation) (x n : ℕ) (s : Spread) → slice_get spreads x ≡ Some s → reaches_in variables given globals one_each o x ≡ true
      → reaches_in variables given globals spreads o n ≡ nat_eq n (s.first + (asked_in variables given globals one_each o).address % s.count)
  laid_asks None x n s there e = absurd cc
  laid_asks (Some (Unary operator ty a)) x n s there e = absurd cc
  laid_asks (Some (Binary operator ty a b)) x n s there e = absurd cc
  laid_asks (Some (ReadArray y k i)) x n s there e = absurd cc
  laid_asks (Some (WriteArray y k i a)) x n s there e = absurd cc
  laid_asks (Some (ReadGlobal y k i)) x n s there e = bank_of_index x y (index_number variables given i) n s there e
  laid_asks (Some (WriteGlobal y k i a)) x n s there e = bank_of_index x y (index_number variables given i) n s there e

-- what is wanted at a bank
wanted_here : (count i k w : ℕ) → i % count ≡ k → wanted_at count i w k ≡ w
wanted_here count i k w e = ap (λ c. if c then w else 0) (same_is (i % count) k e)

wanted_nowhere : (count i k : ℕ) → wanted_at count i 0 k ≡ 0
wanted_nowhere count i k = either (nat_eq (i % count) k)
  where
    either : (c : Bool) → ◌≡◌ {A = ℕ} (if c then 0 else 0) 0
    either true = refl
    either false = refl

module _ (shape : Shape) (code : ThreadCode) (plan : Planned) (m : Module) (t : IsModule shape code plan m) (served : IsServed shape code plan) where
  abbrev banks : ℕ
  banks = bank_total shape.spreads

  abbrev one_each : List Spread
  one_each = t.laid.early.asked.one_each

  abbrev whole : BankRequests
  whole = t.laid.early.asked.whole

  are_one_each : AreOneEach (length shape.spreads) one_each
  are_one_each = subst (λ n. AreOneEach n one_each) (sym served.spreads.count) t.laid.early.asked.are_one_each

  own_is : (x : ℕ) (s : Spread) → slice_get one_each x ≡ Some s → s ≡ own_bank x
  own_is x s listed = one_is shape.globals one_each x s t.laid.early.asked.are_one_each listed

  one_power : (x : ℕ) (s : Spread) → slice_get one_each x ≡ Some s → IsSmallPower s.count
  one_power x s listed = inl (ap (λ (z : Spread). z.count) (own_is x s listed))

  one_apart : AreApart one_each
  one_apart x y k l s u at to less low same =
      let first : s.first ≡ x = ap (λ (z : Spread). z.first) (own_is x s at) in
      let second : u.first ≡ y = ap (λ (z : Spread). z.first) (own_is y u to) in
      let count : s.count ≡ 1 = ap (λ (z : Spread). z.count) (own_is x s at) in
      let other : u.count ≡ 1 = ap (λ (z : Spread). z.count) (own_is y u to) in
      omega arith

  -- globals are few, since each has a register
  few_globals : (x : ℕ) → x < length shape.globals → x + 1 < 2 ^ 64
  few_globals x less =
      let v = mark_held shape code plan m t served x less in
      let inside = slice_get_within m.signals (inputs_of shape + 3 + length code.variables + plan.registers + x) v.stands.signal v.stands.listed in
      let few = t.closed.few in
      omega arith

  fit_spreads : AreFitSpreads one_each
  fit_spreads x = by (slice_get one_each x) refl
    where
      by : (s : Option Spread) → slice_get one_each x ≡ s → FitsSpread s
      by None e = tt
      by (Some s) e =
          let within : x < length shape.globals = subst (λ k. x < k) t.laid.early.asked.are_one_each.count (slice_get_within one_each x s e) in
          let few = few_globals x within in
          (one_power x s e, subst (λ (z : Spread). z.first + z.count < 2 ^ 64) (sym (own_is x s e)) few)

  pub from_needs : Grows t.laid.early.with_needs m.signals
  from_needs =
      grows_then t.laid.early.with_needs t.laid.early.with_free m.signals t.laid.early.frees.grows
      (grows_then t.laid.early.with_free t.laid.early.with_open m.signals t.laid.early.opens.grows (from_open shape code plan m t served))

  from_asks : Grows t.laid.early.with_asks m.signals
  from_asks = grows_then t.laid.early.with_asks t.laid.early.with_needs m.signals t.laid.early.holds.grows from_needs

  pub from_whole : Grows t.laid.early.asked.with_whole m.signals
  from_whole = grows_then t.laid.early.asked.with_whole t.laid.early.with_asks m.signals t.laid.early.asked.spreads.grows from_asks

  -- ---- banks, by their globals

  there_too : (x : ℕ) (s : Spread) → slice_get shape.spreads x ≡ Some s → slice_get t.inside.slot.spreads x ≡ Some s
  there_too x s listed = ap (λ (l : List Spread). slice_get l x) t.laid.slot.spreads_are ∙ listed

  number_is : (x k n : ℕ) (s : Spread) → slice_get shape.spreads x ≡ Some s → n ≡ s.first + k → n ≡ bank_number t.inside.slot.spreads x k
  number_is x k n s listed e =
      e ∙ ap (λ z. z + k) (served.spreads.firsts x s listed) ∙ ap (λ (l : List Spread). bank_number l x k) (sym t.laid.slot.spreads_are)

  module _ (r : Reading) (o : Obeys m r) where
    bank_wants : (x k n : ℕ) (s : Spread) → slice_get shape.spreads x ≡ Some s → k < s.count → n ≡ s.first + k
        → r.signal (slice_index t.inside.early.requests.banks.wants n)
        ≡ wanted_at s.count (r.signal (slice_index whole.addresses x)) (r.signal (slice_index whole.wants x)) k
    bank_wants x k n s listed less e =
        ap (λ z. r.signal (slice_index t.inside.early.requests.banks.wants z)) (number_is x k n s listed e)
        ∙ t.laid.early.asked.spreads.wants m r x k s from_asks o (there_too x s listed) (served.spreads.powers x s listed) less

    -- where no global is wanted no bank is
    pub none_wanted : ((x : ℕ) → x < length shape.globals → r.signal (slice_index whole.wants x) ≡ 0) → (n : ℕ) → n < banks
        → r.signal (slice_index t.inside.early.requests.banks.wants n) ≡ 0
    none_wanted none n less =
        let own = served.spreads.all n less in
        let le = own.3 in
        let lt = own.4 in
        let at : n ≡ own.1.first + (n - own.1.first) = omega arith in
        let inside : own.0 < length shape.globals = subst (λ k. own.0 < k) served.spreads.count (slice_get_within shape.spreads own.0 own.1 own.2) in
        bank_wants own.0 (n - own.1.first) n own.1 own.2 (let z : n - own.1.first < own.1.count = omega arith in z) at
        ∙ ap (λ w. wanted_at own.1.count (r.signal (slice_index whole.addresses own.0)) w (n - own.1.first)) (none own.0 inside)
        ∙ wanted_nowhere own.1.count (r.signal (slice_index whole.addresses own.0)) (n - own.1.first)

  module _ (r : Reading) (q : Slot) (b : Block) (p : BlockPlan) (o : Obeys m r)
      (inside : IsInside shape.globals shape.spreads code plan (places_of (inputs_of shape) code plan) r q b p) where
    abbrev wire : ℕ → ℤ
    wire = wires_now shape.spreads b p q

    abbrev given : ℕ → ℤ
    given = value_now (planned_view b) (plan_view b p) q wire

    abbrev pub reached : ℕ → ℕ → Bool
    reached n = reaches_now shape.globals shape.spreads code t.inside.slot q.stage b p q wire n

    abbrev pub asked : ℕ → Asked
    asked = asked_now shape.globals shape.spreads code t.inside.slot q.stage b p q wire

    -- bank n is wanted
    abbrev pub wanted : ℕ → Bool
    wanted n = any_below (reached n) (length b.operations)

    -- ---- globals, each as if it stood in one bank

    abbrev laid : ℕ → ℕ → Bool
    laid x = reaches_now shape.globals one_each code t.inside.slot q.stage b p q wire x

    abbrev laid_so : ℕ → Asked
    laid_so = asked_now shape.globals one_each code t.inside.slot q.stage b p q wire

    nothing : (x : ℕ) → x < length shape.globals → asked_at r t.laid.early.asked.start.banks x ≡ nothing_asked
    nothing x less =
        t.laid.early.asked.begins.nothing m r x
        (grows_then t.laid.early.asked.with_start t.laid.early.asked.with_whole m.signals t.laid.early.asked.asks.grows from_whole) o (start_less shape code plan m t served x less)

    whole_so : (x : ℕ) → x < length shape.globals → asked_at r whole x ≡ last_of (laid x) laid_so nothing_asked (length b.operations)
    whole_so x less =
        (asks_so shape code plan m t served q.stage (stage.Run b) inside.runs.listed).blocks b p refl inside.runs.planned_so m r q wire x (length shape.globals)
        (asks_right shape code plan m t served r o q b p inside.runs inside.state inside.shown) from_whole o (knows shape code plan m t served r o)
        (in_stage shape code plan m t served r o q b p inside.runs inside.state inside.shown)
        (sees_slot shape code plan m t served r o q b p inside.runs inside.state inside.shown)
        fit_spreads (start_many shape code plan m t served) less
        ∙ ap (λ (old : Asked). last_of (laid x) laid_so old (length b.operations)) (nothing x less)

    whole_by : (x k : ℕ) → x < length shape.globals → k < length b.operations → laid x k ≡ true → asked_at r whole x ≡ laid_so k
    whole_by x k less below e =
        whole_so x less
        ∙ asked_one shape.globals one_each code t.inside.slot q.stage b p q wire inside.runs.keeps one_power one_apart x k nothing_asked below e

    whole_none : (x : ℕ) → x < length shape.globals → any_below (laid x) (length b.operations) ≡ false → asked_at r whole x ≡ nothing_asked
    whole_none x less not_so =
        whole_so x less
        ∙ asked_nobody shape.globals one_each code t.inside.slot q.stage b p q wire x nothing_asked
        (λ k below e. absurd (let yes = some_tells (laid x) (length b.operations) k below e in cc))

    -- ---- what the one operation asks that reaches a bank

    pub asked_by : (n k : ℕ) → n < banks → k < length b.operations → reached n k ≡ true → asked_at r t.inside.early.requests.banks n ≡ asked k
    asked_by n k less below e =
        let two = and_parts (nat_eq q.state (slice_index p.starts k)) (reaches_in q.variables given shape.globals shape.spreads (slice_get b.operations k) n) e in
        let a = access_of q.variables given shape.globals shape.spreads one_each are_one_each (slice_get b.operations k) n two.1 in
        let s = a.spread in
        let x = a.global in
        let power = served.spreads.powers x s a.listed in
        let j : ℕ = a.index % s.count in
        let under : j < s.count = some_banks a.index s.count power in
        let within : x < length shape.globals = subst (λ i. x < i) served.spreads.count (slice_get_within shape.spreads x s a.listed) in
        let at = number_is x j n s a.listed a.bank in
        let here =
        whole_by x k within below
        (and_from (nat_eq q.state (slice_index p.starts k)) (reaches_in q.variables given shape.globals one_each (slice_get b.operations k) x) two.0 a.laid) in
        let index : r.signal (slice_index whole.addresses x) ≡ a.index = ap (λ (z : Asked). z.address) here ∙ a.at in
        let many = whole_many shape code plan m t served in
        let too = there_too x s a.listed in
        same_asked (asked_at r t.inside.early.requests.banks n) (asked k)
        (bank_wants r o x j n s a.listed under a.bank
        ∙ wanted_here s.count (r.signal (slice_index whole.addresses x)) j (r.signal (slice_index whole.wants x)) (ap (λ i. i % s.count) index)
        ∙ ap (λ (z : Asked). z.wants) here ∙ sym (ap (λ (z : Asked). z.wants) a.same))
        (ap r.signal (ap (slice_index t.inside.early.requests.banks.writes) at ∙ t.laid.early.asked.spreads.writes x j s many too under)
        ∙ ap (λ (z : Asked). z.writes) here ∙ sym (ap (λ (z : Asked). z.writes) a.same))
        (ap (λ i. r.signal (slice_index t.inside.early.requests.banks.addresses i)) at
        ∙ t.laid.early.asked.spreads.addresses m r x j s from_asks o many too power under (subst (λ i. i < 2 ^ 64) (sym index) a.small)
        ∙ ap (λ i. i / s.count) index ∙ sym (ap (λ (z : Asked). z.address) a.same))
        (ap r.signal (ap (slice_index t.inside.early.requests.banks.values) at ∙ t.laid.early.asked.spreads.values x j s many too under)
        ∙ ap (λ (z : Asked). z.value) here ∙ sym (ap (λ (z : Asked). z.value) a.same))

    -- a bank that no operation reaches is not wanted
    unwanted : (n : ℕ) → n < banks → wanted n ≡ false → r.signal (slice_index t.inside.early.requests.banks.wants n) ≡ 0
    unwanted n less not_so =
        let own = served.spreads.all n less in
        let le = own.3 in
        let lt = own.4 in
        let x = own.0 in
        let s = own.1 in
        let k : ℕ = n - s.first in
        let at : n ≡ s.first + k = omega arith in
        let within : x < length shape.globals = subst (λ i. x < i) served.spreads.count (slice_get_within shape.spreads x s own.2) in
        bank_wants r o x k n s own.2 (let z : k < s.count = omega arith in z) at ∙ by x k s own.2 within at (any_below (laid x) (length b.operations)) refl
      where
        by : (x k : ℕ) (s : Spread) → slice_get shape.spreads x ≡ Some s → x < length shape.globals → n ≡ s.first + k → (c : Bool) → any_below (laid x) (length b.operations) ≡ c
            → wanted_at s.count (r.signal (slice_index whole.addresses x)) (r.signal (slice_index whole.wants x)) k ≡ 0
        by x k s listed within at false e =
            ap (λ w. wanted_at s.count (r.signal (slice_index whole.addresses x)) w k) (ap (λ (z : Asked). z.wants) (whole_none x within e))
            ∙ wanted_nowhere s.count (r.signal (slice_index whole.addresses x)) k
        by x k s listed within at true e =
            let h = any_tells (laid x) (length b.operations) e in
            let two = and_parts (nat_eq q.state (slice_index p.starts h.0)) (reaches_in q.variables given shape.globals one_each (slice_get b.operations h.0) x) h.2 in
            let here = whole_by x h.0 within h.1 h.2 in
            let asks = laid_asks q.variables given shape.globals shape.spreads one_each are_one_each (slice_get b.operations h.0) x n s listed two.1 in
            let index = ap (λ (z : Asked). z.address) here in
            ⊎_elim
            (λ (same : r.signal (slice_index whole.addresses x) % s.count ≡ k).
            let hit : n ≡ s.first + (laid_so h.0).address % s.count = at ∙ ap (λ z. s.first + z) (sym same ∙ ap (λ i. i % s.count) index) in
            let reach = asks ∙ same_is n (s.first + (laid_so h.0).address % s.count) hit in
            absurd (let yes = some_tells (reached n) (length b.operations) h.0 h.1
            (and_from (nat_eq q.state (slice_index p.starts h.0)) (reaches_in q.variables given shape.globals shape.spreads (slice_get b.operations h.0) n) two.0 reach) in
            cc))
            (λ (other : r.signal (slice_index whole.addresses x) % s.count ≢ k).
            ap (λ c. if c then r.signal (slice_index whole.wants x) else 0) (other_is (r.signal (slice_index whole.addresses x) % s.count) k other))
            (cases_eq (r.signal (slice_index whole.addresses x) % s.count) k)

    -- THE BIT OF A BANK tells whether it is wanted
    pub wanted_bit : (n : ℕ) → n < banks → HasBit m r (slice_index t.inside.early.requests.banks.wants n) (wanted n)
    wanted_bit n less = record { wide = want_wide shape code plan m t served n less; shows = by (wanted n) refl }
      where
        by : (w : Bool) → wanted n ≡ w → r.signal (slice_index t.inside.early.requests.banks.wants n) ≡ bit_of (wanted n)
        by true e =
            let k = any_tells (reached n) (length b.operations) e in
            let two = and_parts (nat_eq q.state (slice_index p.starts k.0))
            (reaches_in q.variables (value_now (planned_view b) (plan_view b p) q wire) shape.globals shape.spreads (slice_get b.operations k.0) n) k.2 in
            ap (λ (a : Asked). a.wants) (asked_by n k.0 less k.1 k.2)
            ∙ reach_wants q.variables (value_now (planned_view b) (plan_view b p) q wire) shape.globals shape.spreads (slice_get b.operations k.0) n two.1
            ∙ ap bit_of (sym e)
        by false e = unwanted n less e ∙ ap bit_of (sym e)
