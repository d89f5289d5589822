-- What accesses of globals ask of banks: lemmas of each function that adds a part.
use Rattle.std.proofs.Common.{◌≡◌, ◌≢◌, ℕ, ◌+◌, ◌/◌, ◌%◌, ◌^◌, ◌<◌, ◌≤◌, nat_eq, Bool, true, false, ◌&&◌}
use Rattle.std.proofs.Common.{if◌then◌else◌, List, [], ◌∷◌, ◌++◌, length, slice_get, slice_index, Option, Some, None, ℤ, pos}
use Rattle.std.proofs.Common.{refl, sym, ap, subst, ◌∙◌, arith, ⊎_elim, inr, max, length-append, add-one}
use Rattle.std.proofs.lemmas.Nat.{pow_pos}
use Rattle.std.proofs.lemmas.Bool.{eqb-true, and_parts, cases_eq}
use Rattle.std.proofs.lemmas.Option.{slice_get_within}
use Rattle.lists.proofs.Places.{get_last, get_front}
use Rattle.hls_ints.specs.Residues.{residue_of, bit_of}
use Rattle.hls_ints.specs.Types.{IntegerType, width_of, long_int, wrapped}
use Rattle.hls_ints.proofs.Conversions.{residue_of-wrapped, residue_of-below}
use Rattle.bank_partition.specs.declared.banks.Spread.{Spread}
use Rattle.block_ir.specs.declared.operand.Operand.{Operand}
use Rattle.block_ir.specs.declared.operand.Source.{Source}
use Rattle.block_ir.specs.declared.operand.Source.TheVariants.{Constant, Variable, Value}
use Rattle.block_ir.specs.declared.block.Operation.{Operation}
use Rattle.block_ir.specs.declared.block.Operation.TheVariants.{Unary, Binary, ReadGlobal, WriteGlobal, ReadArray, WriteArray}
use Rattle.block_ir.specs.declared.block.Block.{Block}
use Rattle.block_ir.specs.declared.code.ThreadCode.{ThreadCode}
use Rattle.block_ir.specs.declared.plan.BlockPlan.{BlockPlan}
use Rattle.planned_block.specs.Block.{Operation as PlannedOperation, UsesIn, Uses, operation_at, size}
use Rattle.planned_block.specs.Plan.{further_states, last_state}
use Rattle.planned_block.specs.Slot.{Slot, is_request, value_now}
use Rattle.planned_block.proofs.Bits.{same_is, other_is}
use Rattle.planned_block.specs.Advance.{last_of}
use Rattle.thread_promise.specs.View.{operand_view, operation_view, planned_view, plan_view, register_at}
use Rattle.netlist.specs.declared.netlist.Signal.{Signal}
use Rattle.netlist.specs.declared.netlist.Module.{Module}
use Rattle.verilog_meaning.specs.Readings.{Reading, width}
use Rattle.operator_wires.specs.Modules.{Obeys}
use Rattle.operator_wires.proofs.Typed.{residue_of-zero}
use Rattle.operator_wires.specs.declared.words.Word.{Word}
use Rattle.operator_wires.specs.Gives.{Grows, Gives}
use Rattle.operator_wires.specs.Words.{Holds, Becomes}
use Rattle.operator_wires.specs.Built.{Base, IsEarlier, Adds}
use Rattle.operator_wires.specs.Added.{ConstantAdds, NumberAdds, IsConstant, IsConverted}
use Rattle.operator_wires.proofs.PutSignals.{grows_refl, grows_then}
use Rattle.operator_wires.proofs.BuiltWires.{room_of, stands_after, wires_none, wires_then, longer}
use Rattle.operator_wires.proofs.TypedWords.{word_of}
use Rattle.thread_promise.specs.Types.{value_type, operand_type, or_int, IsTypedSource, IsTypedOperand, IsTypedOperation}
use Rattle.block_datapath.specs.declared.registers.Held.{Held}
use Rattle.block_datapath.specs.declared.registers.Registers.{Registers}
use Rattle.block_datapath.specs.declared.operands.Given.{Given}
use Rattle.block_datapath.specs.declared.states.Moment.{Moment}
use Rattle.block_datapath.specs.declared.requests.BankRequests.{BankRequests}
use Rattle.block_datapath.specs.declared.requests.BankAccess.{BankAccess}
use Rattle.block_datapath.specs.Seen.{IsKept, IsValue, SeesSource, ShowsOperand}
use Rattle.block_datapath.specs.Operations.{seen_value, SeesSlot}
use Rattle.block_datapath.specs.Chains.{TellsStage, TellsState, IsMoment}
use Rattle.block_datapath.specs.Wired.{AreValues, IsSourced, IsStateBit}
use Rattle.thread_promise.specs.Globals.{IsSmallPower}
use Rattle.block_datapath.specs.Requests.{AddressesBank, Asked, asked_at, asked_by, AreAsMany, AsksBank, AreBankChains, AreAsksAdded}
use Rattle.block_datapath.specs.Accesses.{AddsRegistered, IsRegistered, AreRegistered, IsZero, AreZeros, FitsSpread, index_number, reaches, asked_so, reaches_bank, asked_of}
use Rattle.block_datapath.specs.Accesses.{reaches_in, asked_in, SeesOperand, SeesAccess, AsksIndex, AsksOperation}
use Rattle.block_datapath.specs.Accesses.{AsksFirst, HaveBankWidths, HasOwnWidths, AreIndexLinks, AreAccessLinks}
use Rattle.block_datapath.specs.Accesses.{IsAskRight, AsksBlock, IsAskingBlock}
use Rattle.thread_promise.proofs.RegisterOperands.{request_is_slow}
use Rattle.block_datapath.proofs.OperationValues.{listed_view, within_view, uses_source, requested, uses_left, register_later}
use Rattle.block_datapath.proofs.BlockWires.{one_more, registers_after, values_after, sources_after, word_stands_after}
use Rattle.block_datapath.proofs.BankRequests.{same_asked, not_yet, bank_chains_after}

-- ---- values in registers

module _ (globals : List IntegerType) (code : ThreadCode) (p : BlockPlan) where
  pub registered_one : (a b : List Signal) (k start : ℕ) (o : Operation) (nought : Word) (given : Given) (ty : IntegerType) (v : ℤ) → Holds a b ty v nought →
      start ≡ slice_index p.starts k
      → ty ≡ value_type globals code o → given.word.width ≡ width_of ty → given.word.signed ≡ ty.signed → given.register ≡ register_at p.registers k
      → (start + further_states (operation_view o).kind < 2 ^ 64 → given.last ≡ start + further_states (operation_view o).kind) → AddsRegistered globals code p a b k o given
  registered_one a b k start o nought given ty v t first e says sign register last = record {
    grows = t.grows;
    is = record {
      says = says ∙ ap width_of e;
      sign = sign ∙ ap (λ (x : IntegerType). x.signed) e;
      last = λ small. subst (λ (n : ℕ). n + further_states (operation_view o).kind < 2 ^ 64 → given.last ≡ n + further_states (operation_view o).kind) first last small;
      register = register;
    };
  }

  pub registered_none : (b : Block) (a : List Signal) → AreRegistered globals code p b a a 0 []
  registered_none b a = record { grows = grows_refl a; count = refl; each = λ k o lt listed. absurd (omega arith) }

  pub registered_more : (b : Block) (first old new : List Signal) (values : List Given) (n number : ℕ) (o : Operation) (given : Given) →
      AreRegistered globals code p b first old n values
      → slice_get b.operations n ≡ Some o → number ≡ n → AddsRegistered globals code p old new number o given →
      AreRegistered globals code p b first new (n + 1) (values ++ given ∷ [])
  registered_more b first old new values n number o given before listed same next = record {
    grows = grows_then first old new before.grows next.grows;
    count = length-append values (given ∷ []) ∙ ap (λ k. k + 1) before.count;
    each = λ k x lt there. ⊎_elim (now k x there) (earlier k x lt there) (cases_eq k n);
  }
    where
      now : (k : ℕ) (x : Operation) → slice_get b.operations k ≡ Some x → k ≡ n
          → (g : Given) × (slice_get (values ++ given ∷ []) k ≡ Some g) × IsRegistered globals code p k x g
      now k x there e =
          let is : o ≡ x = cc in (
            given,
            ap (slice_get (values ++ given ∷ [])) (e ∙ sym before.count) ∙ get_last values given,
            subst (λ (z : Operation). IsRegistered globals code p k z given) is (subst (λ (z : ℕ). IsRegistered globals code p z o given) (same ∙ sym e) next.is),
          )

      earlier : (k : ℕ) (x : Operation) → k < n + 1 → slice_get b.operations k ≡ Some x → k ≢ n
          → (g : Given) × (slice_get (values ++ given ∷ []) k ≡ Some g) × IsRegistered globals code p k x g
      earlier k x lt there ne =
          let less : k < n = omega arith in
          let t = before.each k x less there in
          (t.0, get_front values (given ∷ []) k t.0 t.1, t.2)

pub zero_wired : (a b : List Signal) (ty : IntegerType) (nought : Word) (given : Given) → IsConstant a b ty nought → given.word.place ≡ nought.place →
    given.word.width ≡ width_of ty
    → given.word.signed ≡ ty.signed → IsZero a b given
zero_wired a b ty nought given t at wide sign base low =
    let made = t base low in
    (ty, word_of base a b ty nought.place given.word (record { wires = made.wires; stands = made.word.stands }) at wide sign)

pub zeros_none : (a : List Signal) → AreZeros a a []
zeros_none a base low = record { wires = wires_none base a; values = λ k g e. absurd cc }

pub zeros_more : (a b c : List Signal) (values : List Given) (g : Given) → AreZeros a b values → IsZero b c g → AreZeros a c (values ++ g ∷ [])
zeros_more a b c values g t u base low =
    let first = t base low in
    let more = longer a b first.wires.grows in
    let next = u base (omega arith) in
    record {
      wires = wires_then base a b c first.wires next.1.wires;
      values = one_more c base values g next.0 (values_after b c base values next.1.wires.grows first.values) next.1.word;
    }

-- ---- conditions

passed : {A : Type 0} (t x c : Bool) (by old : A) → (t && x) ≡ false → old ≡ (if t && (x && c) then by else old)
passed true true c by old e = absurd cc
passed true false c by old e = refl
passed false x c by old e = refl

taken : {A : Type 0} (t x c : Bool) (by old : A) → (t && x) ≡ true → (if c then by else old) ≡ (if t && (x && c) then by else old)
taken true true c by old e = refl
taken true false c by old e = absurd cc
taken false x c by old e = absurd cc

-- ---- an index

module _ (registers : Registers) (types : List IntegerType) (values : List Given) (before after : BankRequests) (moment : Moment) where
  pub index_asked : (a b c d e f g : List Signal) (s : Spread) (index : Operand) (writes : Bool) (value : Word) (state : ℕ) (word wide : Word) (bits address flag number : ℕ)
      → TellsState a b registers moment state → ShowsOperand b c registers types values moment.state index word → Becomes c d word long_int (wrapped long_int) wide
      → (IsSmallPower s.count → 2 ^ bits ≡ s.count) → AddressesBank d e wide.place bits address → Gives e f flag 1 (λ m r. number) → number ≡ bit_of writes
      → AsksBank f g before after s wide.place (record { state = state; writes = flag; address = address; value = value.place })
      → AsksIndex a g registers types values before after moment (Some s) index writes value
  index_asked a b c d e f g s index writes value state word wide bits address flag number t u v power w x is_flag y = record {
    grows = grows_then a b g t.grows (grows_then b c g u.grows (grows_then c d g v.grows (grows_then d e g w.grows (grows_then e f g x.grows y.grows))));
    many = y.many;
    shows = λ m r at now variables given shown j many grown o is low fits as_many less seen. by m r at now variables given shown j many grown o is low fits as_many less seen
        (at && nat_eq now moment.state) refl;
    rests = λ m r j many grown o one off as_many less. y.rests m r j many grown o (t.wide m (to_b m grown) one) (t.rests m r (to_b m grown) o one off) as_many less;
  }
    where
      to_e : (m : Module) → Grows g m.signals → Grows e m.signals
      to_e m grown = grows_then e f m.signals x.grows (grows_then f g m.signals y.grows grown)

      to_d : (m : Module) → Grows g m.signals → Grows d m.signals
      to_d m grown = grows_then d e m.signals w.grows (to_e m grown)

      to_c : (m : Module) → Grows g m.signals → Grows c m.signals
      to_c m grown = grows_then c d m.signals v.grows (to_d m grown)

      to_b : (m : Module) → Grows g m.signals → Grows b m.signals
      to_b m grown = grows_then b c m.signals u.grows (to_c m grown)

      by : (m : Module) (r : Reading) (at : Bool) (now : ℕ) (variables given : ℕ → ℤ) (shown j many : ℕ) → Grows g m.signals → Obeys m r →
          IsMoment m r registers moment.at moment.states at now
          → moment.state < moment.states → FitsSpread (Some s) → AreAsMany many before → j < many
          → (at ≡ true → now ≡ moment.state → SeesOperand m r registers types values moment.state variables given index × (r.signal value.place ≡ shown))
          → (z : Bool) → (at && nat_eq now moment.state) ≡ z
          → asked_at r after j
          ≡ (if at && (nat_eq now moment.state && reaches variables given (Some s) index j) then asked_so variables given (Some s) index writes shown else asked_at r before j)
      by m r at now variables given shown j many grown o is low fits as_many less seen false e =
          let off : r.signal state ≡ 0 = t.shows m r at now (to_b m grown) o is low ∙ ap bit_of e in
          y.rests m r j many grown o (t.wide m (to_b m grown) is.wide) off as_many less
          ∙ passed at (nat_eq now moment.state) (reaches variables given (Some s) index j) (asked_so variables given (Some s) index writes shown) (asked_at r before j) e
      by m r at now variables given shown j many grown o is low fits as_many less seen true e =
          let access : BankAccess = record { state = state; writes = flag; address = address; value = value.place } in
          let on : r.signal state ≡ 1 = t.shows m r at now (to_b m grown) o is low ∙ ap bit_of e in
          let see = seen (and_parts at (nat_eq now moment.state) e).0 (eqb-true now moment.state (and_parts at (nat_eq now moment.state) e).1) in
          let first = u.shows m r variables given (to_c m grown) o see.0 in
          let long = v.shows m r (operand_type index) (seen_value variables given index) (to_d m grown) o first in
          let i = index_number variables given index in
          let is_index : r.signal wide.place ≡ i = long.shows ∙ residue_of-wrapped long_int (seen_value variables given index) in
          let small : r.signal wide.place < 2 ^ 64 = subst (λ (n : ℕ). n < 2 ^ 64) (sym is_index) (residue_of-below 64 (seen_value variables given index)) in
          let is_address : r.signal address ≡ i / s.count =
          w.shows m r (to_e m grown) o small ∙ ap (λ (n : ℕ). n / 2 ^ bits) is_index ∙ ap (λ (n : ℕ). i / n) (power fits.0)
          in
          let is_writes : r.signal flag ≡ bit_of writes = x.shows m r (grows_then f g m.signals y.grows grown) o ∙ is_flag in
          let so : asked_by r access ≡ asked_so variables given (Some s) index writes shown =
          same_asked (asked_by r access) (asked_so variables given (Some s) index writes shown) refl is_writes is_address see.1
          in
          y.shows m r true j many grown o (t.wide m (to_b m grown) is.wide) long.wide on fits.0 fits.1 as_many less
          ∙ ap (λ (n : ℕ). if nat_eq j (s.first + n % s.count) then asked_by r access else asked_at r before j) is_index
          ∙ ap (λ (z : Asked). if nat_eq j (s.first + i % s.count) then z else asked_at r before j) so
          ∙ taken at (nat_eq now moment.state) (reaches variables given (Some s) index j) (asked_so variables given (Some s) index writes shown) (asked_at r before j) e

  pub index_linked : (a b c d e f g : List Signal) (s : Spread) (index : Operand) (value : Word) (state : ℕ) (word wide : Word) (address flag number : ℕ)
      → IsStateBit a b registers moment state → IsSourced b c types registers values (operand_type index) word → IsConverted c d word long_int wide
      → ((base : Base) → IsEarlier d base wide.place 64 → Adds base d e 64 address) → ConstantAdds e f 1 number flag → number < 2
      → AreAsksAdded f g s value.width wide.place (record { state = state; writes = flag; address = address; value = value.place }) before after
      → AreIndexLinks a g registers types values before after moment (Some s) value
  index_linked a b c d e f g s index value state word wide address flag number t u v w x small y base bits high own ty sources chains one long widths stands at room =
      let p = t base sources.registers.state at room in
      let q = u base (sources_after a b base types registers values p.wires.grows sources) in
      let k = v base (operand_type index) q.word in
      let l = w base k.word.stands in
      let n = x base (room_of e base address 64 l.stands) (omega arith) (omega arith) small in
      let to_f = n.wires.grows in
      let from_d = grows_then d e f l.wires.grows to_f in
      let from_c = grows_then c d f k.wires.grows from_d in
      let from_b = grows_then b c f q.wires.grows from_c in
      let from_a = grows_then a b f p.wires.grows from_b in
      let held = word_stands_after a f base ty value from_a stands in
      let last = y base bits high own (bank_chains_after a f base bits high own before from_a chains) one long
      (λ j less h e. widths.0 j less h e ∙ sym stands.says)
      (record {
        state = stands_after b f base state 1 from_b p.stands;
        writes = n.stands;
        address = stands_after e f base address 64 to_f l.stands;
        value = subst (λ (z : ℕ). IsEarlier f base value.place z) (sym stands.says) held.stands;
      })
      (stands_after d f base wide.place 64 from_d k.word.stands) widths.1 in
      record {
        wires = wires_then base a b g p.wires
            (wires_then base b c g q.wires (wires_then base c d g k.wires (wires_then base d e g l.wires (wires_then base e f g n.wires last.wires))));
        chains = last.chains;
      }

  -- an index of no global
  pub none_asked : (a : List Signal) (s : Option Spread) (index : Operand) (writes : Bool) (value : Word) → s ≡ None → after ≡ before
      → AsksIndex a a registers types values before after moment s index writes value
  none_asked a s index writes value e same =
      subst (λ (z : BankRequests). AsksIndex a a registers types values before z moment s index writes value) (sym same)
      (subst (λ (z : Option Spread). AsksIndex a a registers types values before before moment z index writes value) (sym e) (record {
        grows = grows_refl a;
        many = λ n is. is;
        shows = λ m r at now variables given shown j many grown o is low fits as_many less seen.
            not_yet at (nat_eq now moment.state) (asked_so variables given None index writes shown) (asked_at r before j);
        rests = λ m r j many grown o one off as_many less. refl;
      }))

  pub none_linked : (a : List Signal) (s : Option Spread) (value : Word) → after ≡ before → AreIndexLinks a a registers types values before after moment s value
  none_linked a s value same base bits high own ty sources chains one long widths stands at room =
      record { wires = wires_none base a; chains = subst (AreBankChains a base bits high own) (sym same) chains }

  module _ (globals : List IntegerType) (spreads : List Spread) where
    -- ---- a read and a write

    pub read_asked : (a b c : List Signal) (x length_ : ℕ) (ty : IntegerType) (s : Option Spread) (index : Operand) (nought : Word) → Holds a b ty (wrapped ty (pos 0)) nought →
        s ≡ slice_get spreads x
        → AsksIndex b c registers types values before after moment s index false nought → AsksOperation a c registers types values before after globals spreads moment
        (ReadGlobal x length_ index)
    read_asked a b c x length_ ty s index nought t e u =
        let y = subst (λ (z : Option Spread). AsksIndex b c registers types values before after moment z index false nought) e u in
        record {
          grows = grows_then a b c t.grows y.grows;
          many = y.many;
          shows = λ m r on now variables given j many grown o is low fits as_many less seen.
              y.shows m r on now variables given 0 j many grown o is low (fits x) as_many less
              (λ p q. (seen p q, (t.shows m r (grows_then b c m.signals y.grows grown) o).shows ∙ residue_of-wrapped ty (pos 0) ∙ residue_of-zero (width_of ty)));
          rests = y.rests;
        }

    pub write_asked : (a b c d : List Signal) (x length_ : ℕ) (s : Option Spread) (index operand : Operand) (word value : Word) (ty : IntegerType) →
        ShowsOperand a b registers types values moment.state operand word
        → Becomes b c word ty (wrapped ty) value → ty ≡ or_int (slice_get globals x) → s ≡ slice_get spreads x →
        AsksIndex c d registers types values before after moment s index true value
        → AsksOperation a d registers types values before after globals spreads moment (WriteGlobal x length_ index operand)
    write_asked a b c d x length_ s index operand word value ty t u same e v =
        let y = subst (λ (z : Option Spread). AsksIndex c d registers types values before after moment z index true value) e v in
        record {
          grows = grows_then a b d t.grows (grows_then b c d u.grows y.grows);
          many = y.many;
          shows = λ m r on now variables given j many grown o is low fits as_many less seen.
              let to_c = grows_then c d m.signals y.grows grown in
              let to_b = grows_then b c m.signals u.grows to_c in
              y.shows m r on now variables given (residue_of (width_of (or_int (slice_get globals x))) (seen_value variables given operand)) j many grown o is low
              (fits x) as_many less
              (λ p q.
              let see = seen p q in
              let first = t.shows m r variables given to_b o see.1 in
              let own = u.shows m r (operand_type operand) (seen_value variables given operand) to_c o first in (
                see.0,
                own.shows ∙ residue_of-wrapped ty (seen_value variables given operand) ∙ ap
                    (λ (k : IntegerType). residue_of (width_of k) (seen_value variables given operand)) same,
              ));
          rests = y.rests;
        }

    own_widths : (bits high own : List Held) (x : ℕ) (ty : IntegerType) → ty ≡ or_int (slice_get globals x) → HaveBankWidths globals spreads bits high own → (s : Option Spread) →
        slice_get spreads x ≡ s
        → HasOwnWidths s own ty
    own_widths bits high own x ty same are None e = tt
    own_widths bits high own x ty same are (Some s) e = ((λ k less h f. are.own x k s e less h f ∙ ap width_of (sym same)), are.powers x s e)

    pub read_linked : (a b c : List Signal) (x : ℕ) (s : Option Spread) (nought : Word) (ty : IntegerType) → IsConstant a b ty nought → ty ≡ or_int (slice_get globals x) →
        s ≡ slice_get spreads x
        → AreIndexLinks b c registers types values before after moment s nought → AreAccessLinks a c registers types values before after globals spreads moment
    read_linked a b c x s nought ty t same e u base bits high own sources chains are on room =
        let word = t base (room_of a base registers.stage.register registers.stage.width sources.registers.stage) in
        let more = word.wires.grows in
        let last = u base bits high own ty (sources_after a b base types registers values more sources)
        (bank_chains_after a b base bits high own before more chains) are.bits are.wide
        (subst (λ (z : Option Spread). HasOwnWidths z own ty) (sym e) (own_widths bits high own x ty same are (slice_get spreads x) refl)) word.word
        (stands_after a b base moment.at 1 more on) room in
        record { wires = wires_then base a b c word.wires last.wires; chains = last.chains }

    pub write_linked : (a b c d : List Signal) (x : ℕ) (s : Option Spread) (operand : Operand) (word value : Word) (ty : IntegerType) →
        IsSourced a b types registers values (operand_type operand) word
        → IsConverted b c word ty value → ty ≡ or_int (slice_get globals x) → s ≡ slice_get spreads x → AreIndexLinks c d registers types values before after moment s value
        → AreAccessLinks a d registers types values before after globals spreads moment
    write_linked a b c d x s operand word value ty t u same e v base bits high own sources chains are on room =
        let p = t base sources in
        let q = u base (operand_type operand) p.word in
        let more = grows_then a b c p.wires.grows q.wires.grows in
        let last = v base bits high own ty (sources_after a c base types registers values more sources)
        (bank_chains_after a c base bits high own before more chains) are.bits are.wide
        (subst (λ (z : Option Spread). HasOwnWidths z own ty) (sym e) (own_widths bits high own x ty same are (slice_get spreads x) refl)) q.word
        (stands_after a c base moment.at 1 more on) room in
        record { wires = wires_then base a b d p.wires (wires_then base b c d q.wires last.wires); chains = last.chains }

    -- what is no access of a global
    silent_asked : (a : List Signal) (o known : Operation) → o ≡ known → ((variables given : ℕ → ℤ) (j : ℕ) → reaches_bank variables given globals spreads known j ≡ false) →
        after ≡ before
        → AsksOperation a a registers types values before after globals spreads moment o
    silent_asked a o known e never same =
        subst (λ (z : BankRequests). AsksOperation a a registers types values before z globals spreads moment o) (sym same)
        (subst (λ (z : Operation). AsksOperation a a registers types values before before globals spreads moment z) (sym e) (record {
          grows = grows_refl a;
          many = λ n is. is;
          shows = λ m r on now variables given j many grown ob is low fits as_many less seen.
              not_yet on (nat_eq now moment.state) (asked_of variables given globals spreads known) (asked_at r before j)
              ∙ ap (λ (c : Bool). if on && (nat_eq now moment.state && c) then asked_of variables given globals spreads known else asked_at r before j)
              (sym (never variables given j));
          rests = λ m r j many grown ob one off as_many less. refl;
        }))

    -- what is neither a read nor a write of a global
    pub others_asked : (a : List Signal) (o : Operation) → after ≡ before → ((x n : ℕ) (i : Operand) → o ≡ ReadGlobal x n i → ⊥)
        → ((x n : ℕ) (i v : Operand) → o ≡ WriteGlobal x n i v → ⊥) → AsksOperation a a registers types values before after globals spreads moment o
    others_asked a (Unary operator ty x) same read write = silent_asked a _ (Unary operator ty x) refl (λ variables given j. refl) same
    others_asked a (Binary operator ty x y) same read write = silent_asked a _ (Binary operator ty x y) refl (λ variables given j. refl) same
    others_asked a (ReadGlobal x n i) same read write = absurd (read x n i refl)
    others_asked a (WriteGlobal x n i v) same read write = absurd (write x n i v refl)
    others_asked a (ReadArray x n i) same read write = silent_asked a _ (ReadArray x n i) refl (λ variables given j. refl) same
    others_asked a (WriteArray x n i v) same read write = silent_asked a _ (WriteArray x n i v) refl (λ variables given j. refl) same

    pub silent_linked : (a : List Signal) → after ≡ before → AreAccessLinks a a registers types values before after globals spreads moment
    silent_linked a same base bits high own sources chains are on room =
        record { wires = wires_none base a; chains = subst (AreBankChains a base bits high own) (sym same) chains }

-- ---- all operations

module _ (registers : Registers) (types : List IntegerType) (values : List Given) (globals : List IntegerType) (spreads : List Spread) (b : Block) (p : BlockPlan)
    (end : Moment) where
  pub first_asked_none : (a : List Signal) (before : BankRequests) → AsksFirst a a registers types values before before globals spreads b p end 0
  first_asked_none a before = record {
    grows = grows_refl a;
    many = λ n is. is;
    shows = λ m r on now variables given j many grown o is low fits as_many less seen. refl;
    rests = λ m r j many grown o one off as_many less. refl;
  }

  pub first_asked_more : (a c d : List Signal) (before mid after : BankRequests) (n start : ℕ) (x : Operation) →
      AsksFirst a c registers types values before mid globals spreads b p end n
      → slice_get b.operations n ≡ Some x → start ≡ slice_index p.starts n
      → AsksOperation c d registers types values mid after globals spreads (record { at = end.at; state = start; states = end.states }) x
      → AsksFirst a d registers types values before after globals spreads b p end (n + 1)
  first_asked_more a c d before mid after n start x t listed same next =
      let u = subst (λ (k : ℕ). AsksOperation c d registers types values mid after globals spreads (record { at = end.at; state = k; states = end.states }) x) same next in
      record {
        grows = grows_then a c d t.grows u.grows;
        many = λ k is. u.many k (t.many k is);
        shows = λ m r on now variables given j many grown o is low fits as_many less seen.
            let test : ℕ → Bool = λ k. on && (nat_eq now (slice_index p.starts k) && reaches_in variables given globals spreads (slice_get b.operations k) j) in
            let asked : ℕ → Asked = λ k. asked_in variables given globals spreads (slice_get b.operations k) in
            let old = asked_at r before j in
            let here = on && (nat_eq now (slice_index p.starts n) && reaches_bank variables given globals spreads x j) in
            u.shows m r on now variables given j many grown o is (low n x listed) fits (t.many many as_many) less (seen n x listed)
            ∙ ap (λ (z : Asked). if here then asked_of variables given globals spreads x else z)
            (t.shows m r on now variables given j many (grows_then c d m.signals u.grows grown) o is low fits as_many less seen)
            ∙ ap (λ (z : Option Operation). if on && (nat_eq now (slice_index p.starts n) && reaches_in variables given globals spreads z j) then asked_in variables given globals
            spreads z
            else last_of test asked old n) (sym listed)
            ∙ ap (last_of test asked old) (sym (add-one n));
        rests = λ m r j many grown o one off as_many less.
            u.rests m r j many grown o one off (t.many many as_many) less ∙ t.rests m r j many (grows_then c d m.signals u.grows grown) o one off as_many less;
      }

  pub first_linked_none : (a : List Signal) (before : BankRequests) → AreAccessLinks a a registers types values before before globals spreads end
  first_linked_none a before base bits high own sources chains are on room = record { wires = wires_none base a; chains = chains }

  pub first_linked_more : (a c d : List Signal) (before mid after : BankRequests) (start : ℕ) → AreAccessLinks a c registers types values before mid globals spreads end
      → AreAccessLinks c d registers types values mid after globals spreads (record { at = end.at; state = start; states = end.states })
      → AreAccessLinks a d registers types values before after globals spreads end
  first_linked_more a c d before mid after start t u base bits high own sources chains are on room =
      let first = t base bits high own sources chains are on room in
      let more = first.wires.grows in
      let last = u base bits high own (sources_after a c base types registers values more sources) first.chains are (stands_after a c base end.at 1 more on) room in
      record { wires = wires_then base a c d first.wires last.wires; chains = last.chains }

-- ---- a block at a stage

module _ (globals : List IntegerType) (spreads : List Spread) (code : ThreadCode) (registers : Registers) (l : ℕ) (b : Block) (p : BlockPlan) where
  -- ---- what an access needs is in registers

  module _ (old new : List Signal) (values : List Given) (are : AreRegistered globals code p b old new (length b.operations) values) (right : IsAskRight globals code b p)
      (m : Module) (r : Reading) (q : Slot) (wire : ℕ → ℤ) (sees : SeesSlot globals code registers b p m r q) where
    module _ (n : ℕ) (below : n < size (planned_view b)) (request : is_request (operation_at (planned_view b) n).kind ≡ true) (at : q.state ≡ slice_index p.starts n) where
      value_kept : (j : ℕ) (o : Operation) → Uses (operation_at (planned_view b) n) j → slice_get b.operations j ≡ Some o →
          IsValue m r registers values (slice_index p.starts n) j (value_type globals code o) (value_now (planned_view b) (plan_view b p) q wire j)
      value_kept j o u listed =
          let found = are.each j o (slice_get_within b.operations j o listed) listed in
          let given : Given = found.0 in
          let is : IsRegistered globals code p j o given = found.2 in
          let small = within_view b.operations j o listed in
          let past : last_state (planned_view b) (plan_view b p) j < (plan_view b p).start n =
          right.registered j n below (request_is_slow (operation_at (planned_view b) n).kind request) u in
          let used : last_state (planned_view b) (plan_view b p) n ≤ (plan_view b p).until j = right.keeps.used j n below u in
          let before : last_state (planned_view b) (plan_view b p) j < q.state = subst (λ (k : ℕ). last_state (planned_view b) (plan_view b p) j < k) (sym at) past in
          let has = right.keeps.has j small (omega arith) in
          let alive : q.state ≤ (plan_view b p).until j = subst (λ (k : ℕ). k ≤ (plan_view b p).until j) (sym at)
          (let e : (plan_view b p).start n ≤ (plan_view b p).until j = omega arith in e) in
          let kept : IsKept m r registers (Some has.0) (value_type globals code o) (q.registers has.0) =
          sees.alive j has.0 (record { operation = o; listed = listed; register = has.1; past = before; used = alive })
          in
          let ends = right.keeps.ends j small in
          let few = right.small in
          let same : slice_index p.starts j + further_states (operation_view o).kind ≡ last_state (planned_view b) (plan_view b p) j =
          ap (λ (z : PlannedOperation). (plan_view b p).start j + further_states z.kind) (sym (listed_view b.operations j o listed))
          in
          let last : given.last ≡ last_state (planned_view b) (plan_view b p) j = is.last (omega arith) ∙ same in
          record {
            given = given;
            listed = found.1;
            is = record {
              says = is.says;
              sign = is.sign;
              here = λ e. absurd (let f : last_state (planned_view b) (plan_view b p) j ≡ slice_index p.starts n = sym last ∙ e in omega (arith, f, past));
              later = λ ne.
                  subst (λ (z : ℤ). IsKept m r registers given.register (value_type globals code o) z) (sym (register_later b p q wire j has.0 before has.1))
                  (subst (λ (z : Option ℕ). IsKept m r registers z (value_type globals code o) (q.registers has.0)) (sym (is.register ∙ has.1)) kept);
            };
          }

      source_kept : (source : Source) → IsTypedSource globals code b.operations source → ((j : ℕ) (ty : IntegerType) → source ≡ Value j ty →
          Uses (operation_at (planned_view b) n) j)
          → SeesSource m r registers code.variables values (slice_index p.starts n) q.variables (value_now (planned_view b) (plan_view b p) q wire) source
      source_kept (Constant ty v) typed uses = typed
      source_kept (Variable x ty) typed uses = sees.variables x ty typed
      source_kept (Value j ty) typed uses =
          subst (λ (t : IntegerType). IsValue m r registers values (slice_index p.starts n) j t (value_now (planned_view b) (plan_view b p) q wire j)) typed.2
          (value_kept j typed.0 (uses j ty refl) typed.1)

      operand_kept : (operand : Operand) → IsTypedOperand globals code b.operations operand → ((j : ℕ) → UsesIn (operand_view operand) j → Uses (operation_at (planned_view b) n) j)
          → SeesSource m r registers code.variables values (slice_index p.starts n) q.variables (value_now (planned_view b) (plan_view b p) q wire) operand.source
      operand_kept operand typed uses = source_kept operand.source typed (λ j ty e. uses j (uses_source operand j ty e))

    uses_right : (n : ℕ) (o : Operation) (j : ℕ) → slice_get b.operations n ≡ Some o → UsesIn (operation_view o).right j → Uses (operation_at (planned_view b) n) j
    uses_right n o j listed u = subst (λ (z : PlannedOperation). Uses z j) (sym (listed_view b.operations n o listed)) (inr u)

    access_seen : (n : ℕ) (o : Operation) → slice_get b.operations n ≡ Some o → q.state ≡ slice_index p.starts n → IsTypedOperation globals code b.operations o
        → SeesAccess m r registers code.variables values (slice_index p.starts n) q.variables (value_now (planned_view b) (plan_view b p) q wire) o
    access_seen n (Unary operator ty a) listed at typed = tt
    access_seen n (Binary operator ty a c) listed at typed = tt
    access_seen n (ReadGlobal x count i) listed at typed =
        operand_kept n (within_view b.operations n (ReadGlobal x count i) listed) (requested b n (ReadGlobal x count i) listed refl) at i typed.0
        (λ j u. uses_left b n (ReadGlobal x count i) j listed u)
    access_seen n (WriteGlobal x count i a) listed at typed =
        let below = within_view b.operations n (WriteGlobal x count i a) listed in
        let request = requested b n (WriteGlobal x count i a) listed refl in (
          operand_kept n below request at i typed.0 (λ j u. uses_left b n (WriteGlobal x count i a) j listed u),
          operand_kept n below request at a typed.1 (λ j u. uses_right n (WriteGlobal x count i a) j listed u),
        )
    access_seen n (ReadArray x count i) listed at typed = tt
    access_seen n (WriteArray x count i a) listed at typed = tt

  -- ---- the block

  pub block_asked : (a c d e : List Signal) (before after : BankRequests) (at : ℕ) (values given : List Given) (end : Moment) → values ≡ given → end.at ≡ at →
      end.states ≡ max 1 p.states
      → TellsStage a c registers l at → AreRegistered globals code p b c d (length b.operations) given
      → AsksFirst d e registers code.variables values before after globals spreads b p end (length b.operations)
      → AsksBlock globals spreads code registers l b p a e before after
  block_asked a c d e before after at values given end same is_at states t u v = record {
    grows = grows_then a c e t.grows (grows_then c d e u.grows v.grows);
    many = v.many;
    rests = λ m r j many g o has other as_many less.
        let one = ap (λ (n : ℕ). width m n) is_at ∙ t.wide m (to_c m g) in
        let off : r.signal end.at ≡ 0 = ap (λ (n : ℕ). r.signal n) is_at ∙ t.shows m r (to_c m g) o has.wide has.room has.fits ∙ ap bit_of
        (other_is (r.signal registers.stage.register) l other) in
        v.rests m r j many g o one off as_many less;
    asks = λ m r q wire j many right g o inside sees fits as_many less.
        let moment : IsMoment m r registers end.at end.states true q.state =
        let below = inside.below in
        let room = inside.room in
        let some : max 1 p.states ≡ p.states = omega arith in
        record {
          wide = ap (λ (n : ℕ). width m n) is_at ∙ t.wide m (to_c m g);
          shows = ap (λ (n : ℕ). r.signal n) is_at ∙ t.shows m r (to_c m g) o inside.has.wide inside.has.room inside.has.fits ∙ ap bit_of
              (same_is (r.signal registers.stage.register) l inside.stage);
          state_wide = λ z. inside.wide;
          state = λ z. inside.state;
          below = λ z. omega arith;
          room = λ z. subst (λ (n : ℕ). n ≤ 2 ^ registers.state.width) (sym (states ∙ some)) room;
        }
        in
        let are = subst (λ (vs : List Given). AreRegistered globals code p b c d (length b.operations) vs) (sym same) u in
        v.shows m r true q.state q.variables (value_now (planned_view b) (plan_view b p) q wire) j many g o moment
        (λ k x listed.
        let ends = right.keeps.ends k (within_view b.operations k x listed) in
        omega arith)
        fits as_many less
        (λ k x listed on now. access_seen c d values are right m r q wire sees k x listed now (right.typed.operations k x listed));
  }
    where
      to_c : (m : Module) → Grows e m.signals → Grows c m.signals
      to_c m g = grows_then c d m.signals u.grows (grows_then d e m.signals v.grows g)

  pub block_linked : (a c d e : List Signal) (before after : BankRequests) (at : ℕ) (values given : List Given) (end : Moment) → values ≡ given → end.at ≡ at →
      end.states ≡ max 1 p.states
      → NumberAdds a c registers.stage.width registers.stage.register l at → AreZeros c d given
      → AreAccessLinks d e registers code.variables values before after globals spreads end
      → IsAskingBlock globals spreads code registers l b p a e before after
  block_linked a c d e before after at values given end same is_at states t u v base bits high own slot chains are low room =
      let first = t base slot.stage low in
      let to_c = first.wires.grows in
      let second = u base (room_of c base at 1 first.stands) in
      let to_d = second.wires.grows in
      let more = grows_then a c d to_c to_d in
      let some = pow_pos registers.state.width in
      let last = v base bits high own
      (record { registers = registers_after a d base code.variables registers more slot; values = subst (AreValues d base) (sym same) second.values })
      (bank_chains_after a d base bits high own before more chains) are
      (subst (λ (n : ℕ). IsEarlier d base n 1) (sym is_at) (stands_after c d base at 1 to_d first.stands))
      (subst (λ (n : ℕ). n ≤ 2 ^ registers.state.width) (sym states) (omega arith)) in
      record { wires = wires_then base a c e first.wires (wires_then base c d e second.wires last.wires); chains = last.chains }
