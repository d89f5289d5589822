-- What a state of a block asks banks, at the ports.
use Rattle.std.proofs.Common.{◌≡◌, ℕ, ◌%◌, ◌<◌, Bool, true, false, not, slice_get, slice_index, Option, Some, sym, ap, subst, ◌∙◌, arith}
use Rattle.std.proofs.lemmas.Bool.{not-true, and_from, and_parts}
use Rattle.plan_blocks.proofs.ViewRuns.{size-view}
use Rattle.hls_ints.specs.Residues.{residue_of}
use Rattle.hls_ints.specs.Types.{IntegerType, HasType, width_of}
use Rattle.bank_partition.specs.declared.banks.Spread.{Spread}
use Rattle.block_ir.specs.declared.operand.Operand.{Operand}
use Rattle.block_ir.specs.declared.block.Operation.TheVariants.{ReadGlobal, WriteGlobal}
use Rattle.block_ir.specs.declared.block.Block.{Block}
use Rattle.block_ir.specs.declared.code.ThreadCode.{ThreadCode}
use Rattle.block_ir.specs.declared.plan.BlockPlan.{BlockPlan}
use Rattle.block_ir.specs.declared.plan.Planned.{Planned}
use Rattle.planned_block.specs.Block.{size}
use Rattle.planned_block.specs.Slot.{Slot, asks, value_now}
use Rattle.plan_blocks.specs.View.{planned_view, plan_view}
use Rattle.netlist.specs.declared.netlist.Module.{Module}
use Rattle.verilog_meaning.specs.Readings.{Reading}
use Rattle.circuit.specs.Modules.{Obeys}
use Rattle.thread_promise.specs.Types.{or_int}
use Rattle.thread_promise.specs.Globals.{IsAddress, bank_total, wires_now, place_now, bank_now, written_now, IsOpen}
use Rattle.thread_promise.specs.Promise.{is_run, AsksBank}
use Rattle.thread_promise.specs.Serving.{IsInside}
use Rattle.block_datapath.specs.Operations.{seen_value, SeesSlot}
use Rattle.block_datapath.specs.Requests.{Asked, asked_at}
use Rattle.block_datapath.specs.Accesses.{IsAskRight, asked_now}
use Rattle.block_datapath.proofs.TypedIndexes.{index_typed, target_typed}
use Rattle.block_datapath.proofs.OneAskedBank.{some_banks}
use Rattle.block_datapath.proofs.AskingOperations.{Asker}
use Rattle.thread_slots.specs.declared.shape.Shape.{Shape}
use Rattle.block_ir.specs.declared.service.Service.{Service}
use Rattle.thread_slots.specs.Requests.{group}
use Rattle.thread_slots.specs.Bits.{HasBit}
use Rattle.thread_layout.specs.Leaf.{served_ports}
use Rattle.thread_layout.specs.Modules.{IsModule}
use Rattle.thread_layout.specs.Thread.{cores_of, inputs_of, places_of, port_at, IsServed}
use Rattle.thread_layout.proofs.StateMoves.{who, bank, own_bank, within, own_asked, none_asked}
use Rattle.thread_layout.proofs.Placed.{HasBankOutputs, stands_copies, bank_outputs, ask_copied}
use Rattle.thread_layout.proofs.Quiet.{block_bit}
use Rattle.thread_layout.proofs.RaisedAsks.{asked_by}
use Rattle.thread_layout.proofs.Sight.{enabled, enable_bit, asks_right, sees_slot}

module _ (shape : Shape) (code : ThreadCode) (plan : Planned) (m : Module) (t : IsModule shape code plan m) (served : IsServed shape code plan) where
  abbrev banks : ℕ
  banks = bank_total shape.spreads

  module _ (r : Reading) (q : Slot) (b : Block) (p : BlockPlan) (o : Obeys m r)
      (inside : IsInside shape.globals shape.spreads code plan (places_of (inputs_of shape) code plan) r q b p) where
    right : IsAskRight shape.globals code b p
    right = asks_right shape code plan m t served r o q b p inside.runs inside.state inside.shown

    sees : SeesSlot shape.globals code t.inside.slot b p m r q
    sees = sees_slot shape code plan m t served r o q b p inside.runs inside.state inside.shown

    -- what accesses of this state use has a type
    pub indices : (k x n : ℕ) (i : Operand) → slice_get b.operations k ≡ Some (ReadGlobal x n i) → slice_index p.starts k ≡ q.state → (ty : IntegerType)
        × HasType ty (seen_value q.variables (value_now (planned_view b) (plan_view b p) q (wires_now shape.spreads b p q)) i)
    indices = index_typed shape.globals code t.inside.slot b p right m r q sees (wires_now shape.spreads b p q)

    pub targets : (k x n : ℕ) (i a : Operand) → slice_get b.operations k ≡ Some (WriteGlobal x n i a) → slice_index p.starts k ≡ q.state → (ty : IntegerType)
        × HasType ty (seen_value q.variables (value_now (planned_view b) (plan_view b p) q (wires_now shape.spreads b p q)) i)
    targets = target_typed shape.globals code t.inside.slot b p right m r q sees (wires_now shape.spreads b p q)

    -- a block asks no core that acts ask
    pub printing : (k : Service) → HasBit m r (group t.inside.early.requests k).wants false
    printing = block_bit shape code plan m t served r q o inside.shown.shown (ap is_run inside.runs.listed)

    abbrev asker : (k : ℕ) → k < size (planned_view b) → asks (planned_view b) (plan_view b p) q k ≡ true → Asker shape.globals shape.spreads code t.inside.slot q.stage b p q k
    asker = who shape code plan m t served r q b p o inside indices targets

    -- the ports of the bank of an access
    module _ (k : ℕ) (below : k < size (planned_view b)) (e : asks (planned_view b) (plan_view b p) q k ≡ true) (ty : IntegerType)
        (declared : slice_get shape.globals (asker k below e).global ≡ Some ty) where
      abbrev own : Asker shape.globals shape.spreads code t.inside.slot q.stage b p q k
      own = asker k below e

      abbrev n : ℕ
      n = bank_now shape.spreads b p q k own.global

      at_bank : bank shape code plan m t served r q b p o inside indices targets k ≡ n
      at_bank = own_bank shape code plan m t served r q b p o inside indices targets k below e

      less : n < banks
      less = subst (λ z. z < banks) at_bank (within shape code plan m t served r q b p o inside indices targets k below e)

      out : HasBankOutputs m.signals (port_at shape m n) t.edge.asks t.inside.early.requests.banks n (width_of ty)
      out =
          subst (λ z. HasBankOutputs m.signals (port_at shape m z) t.edge.asks t.inside.early.requests.banks z (width_of ty)) (sym own.bank)
          (bank_outputs shape code plan m t served own.global (own.number % own.spread.count) own.spread ty own.listed declared
          (some_banks own.number own.spread.count (served.spreads.powers own.global own.spread own.listed)))

      asked_is : asked_at r t.inside.early.requests.banks n ≡ asked_now shape.globals shape.spreads code t.inside.slot q.stage b p q (wires_now shape.spreads b p q) k
      asked_is = asked_by shape code plan m t served r q b p o inside n k less (subst (λ z. k < z) (size-view b.operations) below) own.reached

      asked_own : q.granted k ≡ false
          → AsksBank r 1 ((served_ports shape m).bank n) own.spread (place_now shape.spreads b p q k own.global).index own.writes
          (residue_of (width_of ty) (written_now shape.spreads b p q k))
      asked_own not_so =
          let on = enabled shape code plan m t served r o in
          let address : r.signal (port_at shape m n 2) ≡ (asked_now shape.globals shape.spreads code t.inside.slot q.stage b p q (wires_now shape.spreads b p q) k).address =
          stands_copies m r (port_at shape m n 2) 64 (slice_index t.inside.early.requests.banks.addresses n) o out.at_address ∙ ap
          (λ (z : Asked). z.address) asked_is in
          record {
            ask =
                stands_copies m r (port_at shape m n 0) 1 (slice_index t.edge.asks n) o out.at_ask
                ∙ ap (λ z. r.signal (slice_index t.edge.asks z)) (sym at_bank)
                ∙ own_asked shape code plan m t served r q b p o inside indices targets printing on.0
                (enable_bit shape code plan m t served r o on.0 on.1) k below e not_so
                ∙ sym on.1;
            operation =
                stands_copies m r (port_at shape m n 1) 1 (slice_index t.inside.early.requests.banks.writes n) o out.at_writes
                ∙ ap (λ (z : Asked). z.writes) asked_is ∙ own.operation;
            address = subst (λ z. IsAddress own.spread (place_now shape.spreads b p q k own.global).index z) (sym address) own.address;
            value = λ w.
                stands_copies m r (port_at shape m n 3) (width_of ty) (slice_index t.inside.early.requests.banks.values n) o out.at_value
                ∙ ap (λ (z : Asked). z.value) asked_is ∙ own.number_written w
                ∙ ap (λ (z : Option IntegerType). residue_of (width_of (or_int z)) (written_now shape.spreads b p q k)) declared;
          }

    -- WHAT AN ACCESS ASKS that is still to be granted
    pub asks_so : (k x : ℕ) (writes : Bool) (s : Spread) (ty : IntegerType) → IsOpen shape.spreads b p q k x writes → slice_get shape.spreads x ≡ Some s →
        slice_get shape.globals x ≡ Some ty
        → AsksBank r 1 ((served_ports shape m).bank (bank_now shape.spreads b p q k x)) s (place_now shape.spreads b p q k x).index writes
        (residue_of (width_of ty) (written_now shape.spreads b p q k))
    asks_so k x writes s ty opened listed declared =
        let two = and_parts (asks (planned_view b) (plan_view b p) q k) (not (q.granted k)) opened.requested in
        let not_so = not-true (q.granted k) two.1 in
        let a = asker k opened.below two.0 in
        let global : a.global ≡ x = (let mine = a.target in let its = opened.target in cc) in
        let kind : a.writes ≡ writes = (let mine = a.target in let its = opened.target in cc) in
        let spread : a.spread ≡ s = (let mine = a.listed in let there : slice_get shape.spreads a.global ≡ Some s = ap (slice_get shape.spreads) global ∙ listed in cc) in
        let number : ℕ = residue_of (width_of ty) (written_now shape.spreads b p q k) in
        subst (λ (z : Spread). AsksBank r 1 ((served_ports shape m).bank (bank_now shape.spreads b p q k x)) z (place_now shape.spreads b p q k x).index writes number) spread
        (subst (λ (w : Bool). AsksBank r 1 ((served_ports shape m).bank (bank_now shape.spreads b p q k x)) a.spread (place_now shape.spreads b p q k x).index w number) kind
        (subst (λ (y : ℕ). AsksBank r 1 ((served_ports shape m).bank (bank_now shape.spreads b p q k y)) a.spread (place_now shape.spreads b p q k y).index a.writes number)
        global
        (asked_own k opened.below two.0 ty (ap (slice_get shape.globals) global ∙ declared) not_so)))

    -- a bank that no access asks
    pub asks_none_so : (n : ℕ) → n < banks → ((k x : ℕ) (writes : Bool) → IsOpen shape.spreads b p q k x writes → bank_now shape.spreads b p q k x ≡ n → ⊥)
        → r.signal (port_at shape m n 0) ≡ 0
    asks_none_so n less none =
        let on = enabled shape code plan m t served r o in
        ask_copied shape code plan m t served r n o (let inside : n < cores_of shape = omega arith in inside)
        ∙ none_asked shape code plan m t served r q b p o inside indices targets printing on.0 (enable_bit shape code plan m t served r o on.0 on.1) n less
        (λ j below e not_so is.
        let a = asker j below e in
        none j a.global a.writes
        (record { below = below; requested = and_from (asks (planned_view b) (plan_view b p) q j) (not (q.granted j)) e (ap not not_so); target = a.target })
        (sym (own_bank shape code plan m t served r q b p o inside indices targets j below e) ∙ is))
