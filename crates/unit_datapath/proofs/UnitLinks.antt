-- A link of a unit for each operation: lemmas of each function that adds some.
use Rattle.std.proofs.Common.{◌≡◌, ◌≢◌, ℕ, ◌+◌, ◌^◌, ◌<◌, ◌≤◌, nat_eq, Bool, true, false, not, ◌||◌, max, List, length, Option, Some, slice_get, slice_index, ℤ}
use Rattle.std.proofs.Common.{refl, sym, ap, subst, ◌∙◌, arith, ⊎_elim, inl, inr}
use Rattle.std.proofs.lemmas.Nat.{pow_pos}
use Rattle.std.proofs.lemmas.Option.{slice_get_within}
use Rattle.std.proofs.lemmas.Bool.{or_parts, cases_eq}
use Rattle.hls_ints.specs.Residues.{bit_of}
use Rattle.hls_ints.specs.Types.{IntegerType, width_of}
use Rattle.hls_ints.proofs.Conversions.{residue_of-wrapped}
use Rattle.c_program.specs.declared.tree.BinaryOperator.{BinaryOperator}
use Rattle.block_ir.specs.Arithmetic.{binary_total}
use Rattle.block_ir.specs.declared.operand.Source.{Source}
use Rattle.block_ir.specs.declared.operand.Source.TheVariants.{Constant, Variable, Value}
use Rattle.block_ir.specs.declared.operand.Operand.{Operand}
use Rattle.block_ir.specs.declared.block.Operation.{Operation}
use Rattle.block_ir.specs.declared.block.Operation.TheVariants.{Binary}
use Rattle.block_ir.specs.declared.block.Block.{Block}
use Rattle.block_ir.specs.declared.code.Stage.{Stage}
use Rattle.block_ir.specs.declared.code.Stage.TheVariants as stage
use Rattle.block_ir.specs.declared.code.ThreadCode.{ThreadCode}
use Rattle.block_ir.specs.declared.plan.BlockPlan.{BlockPlan}
use Rattle.block_ir.specs.declared.plan.StagePlan.{StagePlan}
use Rattle.block_ir.specs.declared.plan.StagePlan.TheVariants as planned
use Rattle.block_ir.specs.declared.plan.Planned.{Planned}
use Rattle.planned_block.specs.Block.{Operation as PlannedOperation, operand_value, operation_at, size, Uses, UsesIn}
use Rattle.planned_block.specs.Plan.{further_states, is_simple, last_state}
use Rattle.planned_block.specs.Slot.{Slot, value_now, operand_now}
use Rattle.planned_block.proofs.Bits.{same_is, other_is}
use Rattle.plan_blocks.specs.View.{operand_view, planned_view, plan_view, register_at}
use Rattle.netlist.specs.declared.netlist.Signal.{Signal}
use Rattle.netlist.specs.declared.netlist.Module.{Module}
use Rattle.verilog_meaning.specs.Readings.{Reading, width}
use Rattle.circuit.specs.Modules.{Obeys}
use Rattle.operator_wires.specs.declared.words.Word.{Word}
use Rattle.operator_wires.specs.Gives.{Grows}
use Rattle.operator_wires.specs.Built.{IsEarlier}
use Rattle.operator_wires.specs.Added.{NumberAdds}
use Rattle.operator_wires.proofs.PutSignals.{grows_refl, grows_then}
use Rattle.operator_wires.proofs.BuiltWires.{stands_after, wires_none, wires_then}
use Rattle.operator_wires.proofs.Bits.{set_bit}
use Rattle.block_datapath.specs.Types.{value_type, IsTypedSource, IsTypedOperand}
use Rattle.block_datapath.specs.declared.registers.Registers.{Registers}
use Rattle.block_datapath.specs.declared.states.Moment.{Moment}
use Rattle.block_datapath.specs.Seen.{IsKept}
use Rattle.block_datapath.specs.Operations.{SeesSlot}
use Rattle.block_datapath.specs.Chains.{is_set, IsMoment, TellsStage}
use Rattle.block_datapath.specs.Leave.{IsInStage}
use Rattle.block_datapath.proofs.OperationValues.{listed_view, within_view, uses_source, register_later}
use Rattle.block_datapath.proofs.BlockWires.{registers_after}
use Rattle.unit_datapath.specs.declared.kinds.UnitKind.{UnitKind}
use Rattle.unit_datapath.specs.declared.inputs.UnitInputs.{UnitInputs}
use Rattle.unit_datapath.specs.Kinds.{is_shared, is_work}
use Rattle.unit_datapath.specs.Words.{IsRegistered, ShowsUnitWord}
use Rattle.unit_datapath.specs.States.{is_within, TellsWork}
use Rattle.unit_datapath.specs.Inputs.{AreAsMany, SameInputs, GetsOperands, LinksUnit}
use Rattle.unit_datapath.specs.Links.{CanWork, IsWithin, LinksOperands, further_of, LinksOperation, IsWorkRight}
use Rattle.unit_datapath.specs.Links.{IsAtWork, GetsWork, LinksFirst, LinksBlock, LinksStage, LinksStages, HasWork}
use Rattle.unit_datapath.proofs.UnitInputs.{inputs_after}
use Rattle.unit_datapath.proofs.UnitKinds.{kinds_share, slow_kind, shared_of}

-- ---- inputs that stay

pub same_refl : (r : Reading) (c : UnitInputs) (x : ℕ) → SameInputs r c c x
same_refl r c x = record { begun = λ is. is; left = λ is. refl; right = λ is. refl }

pub same_then : (r : Reading) (a b c : UnitInputs) (x : ℕ) → SameInputs r a b x → SameInputs r b c x → SameInputs r a c x
same_then r a b c x t u = record {
  begun = λ is. u.begun (t.begun is);
  left = λ is. u.left (t.begun is) ∙ t.left is;
  right = λ is. u.right (t.begun is) ∙ t.right is;
}

gets_after : (r : Reading) (a b : UnitInputs) (x : ℕ) (ty : IntegerType) (v w : ℤ) → GetsOperands r a x ty v w → SameInputs r a b x → GetsOperands r b x ty v w
gets_after r a b x ty v w t u = record { begun = u.begun t.begun; left = u.left t.begun ∙ t.left; right = u.right t.begun ∙ t.right }

-- ---- an operation

within_is : (start further s : ℕ) → IsWithin start further s → is_within start further s ≡ true
within_is start further s t = let low = t.0 in let high = t.1 in grind arith

is_within_so : (start further s : ℕ) → is_within start further s ≡ true → IsWithin start further s
is_within_so start further s e = ((let low : start ≤ s = grind arith in low), (let high : s ≤ start + further = grind arith in high))

pub operands_linked : (code : ThreadCode) (types : List IntegerType) (registers : Registers) (p : BlockPlan) (ty : IntegerType) (k : ℕ) (end : Moment) (further start unit w : ℕ)
    (left right : Operand) (a b c d e : List Signal) (before after : UnitInputs) (here : ℕ) (first second : Word) → types ≡ code.variables → start ≡ slice_index p.starts k →
    unit ≡ slice_index p.units k → w ≡ width_of ty → TellsWork a b registers end start further here → ShowsUnitWord b c registers types p ty left first →
    ShowsUnitWord c d registers types p ty right second → LinksUnit d e before after unit w here first.place second.place →
    LinksOperands code registers p ty k end further left right a e before after
operands_linked code types registers p ty k end further start unit w left right a b c d e before after here first second same starts units wide t0 u0 v0 link0 = record {
  grows = grows_then a b e t.grows (grows_then b c e u.grows (grows_then c d e v.grows link.grows));
  many = link.many;
  works = λ m r s n variables given g o can within is_left is_right is less.
      let on : is_set r here ≡ true = set m r s g o can ∙ within_is (slice_index p.starts k) further s within in
      let both = link.set m r n g o is less on in
      let one = u.shows m r variables given (to_c m g) o is_left in
      let two = v.shows m r variables given (to_d m g) o is_right in
      record {
        begun = both.0;
        left = both.1 ∙ one.shows ∙ residue_of-wrapped ty (operand_value variables given (operand_view left));
        right = both.2 ∙ two.shows ∙ residue_of-wrapped ty (operand_value variables given (operand_view right));
      };
  rests = λ m r s x n g o can is less other.
      link.rests m r x n g o is less (λ on. other (is_within_so (slice_index p.starts k) further s (sym (set m r s g o can) ∙ on)));
  away = λ m r x n g o one off is less.
      link.rests m r x n g o is less (λ on. absurd (let none : is_set r here ≡ false = ap (λ (z : ℕ). not (nat_eq z 0)) (t.rests m r (to_b m g) o one off) in cc));
  wired = λ base n slots at room is.
      let bit = t.wired base slots.state at room in
      let first_word = u.wired base (registers_after a b base code.variables registers bit.wires.grows slots) in
      let to_c = grows_then a b c bit.wires.grows first_word.wires.grows in
      let second_word = v.wired base (registers_after a c base code.variables registers to_c slots) in
      let to_d = grows_then a c d to_c second_word.wires.grows in
      let from_b = grows_then b c d first_word.wires.grows second_word.wires.grows in
      let last = link.wired base n (inputs_after a d base (width_of ty) n before to_d is) (stands_after b d base here 1 from_b bit.stands)
      (stands_after c d base first.place (width_of ty) second_word.wires.grows first_word.word.stands) second_word.word.stands in
      record {
        wires = wires_then base a b e bit.wires (wires_then base b c e first_word.wires (wires_then base c d e second_word.wires last.wires));
        inputs = last.inputs;
      };
}
  where
    t : TellsWork a b registers end (slice_index p.starts k) further here
    t = subst (λ (n : ℕ). TellsWork a b registers end n further here) starts t0

    u : ShowsUnitWord b c registers code.variables p ty left first
    u = subst (λ (l : List IntegerType). ShowsUnitWord b c registers l p ty left first) same u0

    v : ShowsUnitWord c d registers code.variables p ty right second
    v = subst (λ (l : List IntegerType). ShowsUnitWord c d registers l p ty right second) same v0

    link : LinksUnit d e before after (slice_index p.units k) (width_of ty) here first.place second.place
    link = subst (λ (n : ℕ). LinksUnit d e before after n (width_of ty) here first.place second.place) units
        (subst (λ (n : ℕ). LinksUnit d e before after unit n here first.place second.place) wide link0)

    to_d : (m : Module) → Grows e m.signals → Grows d m.signals
    to_d m g = grows_then d e m.signals link.grows g

    to_c : (m : Module) → Grows e m.signals → Grows c m.signals
    to_c m g = grows_then c d m.signals v.grows (to_d m g)

    to_b : (m : Module) → Grows e m.signals → Grows b m.signals
    to_b m g = grows_then b c m.signals u.grows (to_c m g)

    set : (m : Module) (r : Reading) (s : ℕ) → Grows e m.signals → Obeys m r → CanWork m r registers end (slice_index p.starts k) further s →
        is_set r here ≡ is_within (slice_index p.starts k) further s
    set m r s g o can =
        ap (λ (n : ℕ). not (nat_eq n 0)) (t.shows m r s (to_b m g) o can.moment can.small can.ends) ∙ set_bit (is_within (slice_index p.starts k) further s)

module _ (code : ThreadCode) (registers : Registers) (kind : UnitKind) (p : BlockPlan) (end : Moment) (k : ℕ) where
  pub operation_linked : (o : Operation) (operator : BinaryOperator) (ty : IntegerType) (left right : Operand) (further : ℕ) (a b : List Signal) (before after : UnitInputs) →
      o ≡ Binary operator ty left right → further ≡ further_of o → is_shared kind operator ty left right ≡ true →
      LinksOperands code registers p kind.ty k end further left right a b before after →
      LinksOperation code registers kind p end k o a b before after
  operation_linked o operator ty left right further a b before after is long shared t0 =
      let t = subst (λ (n : ℕ). LinksOperands code registers p kind.ty k end n left right a b before after) long t0 in
      record {
        grows = t.grows;
        many = t.many;
        works = λ operator2 ty2 left2 right2 m r s n variables given same shared2 g ob can within is_left is_right as_many less.
            let one : left ≡ left2 = (let e : Binary operator ty left right ≡ Binary operator2 ty2 left2 right2 = sym is ∙ same in cc) in
            let two : right ≡ right2 = (let e : Binary operator ty left right ≡ Binary operator2 ty2 left2 right2 = sym is ∙ same in cc) in
            subst (λ (z : Operand). GetsOperands r after (slice_index p.units k) kind.ty (operand_value variables given (operand_view z))
            (operand_value variables given (operand_view right2))) one
            (subst (λ (z : Operand). GetsOperands r after (slice_index p.units k) kind.ty (operand_value variables given (operand_view left))
            (operand_value variables given (operand_view z))) two
            (t.works m r s n variables given g ob can within
            (subst (λ (z : Operand). IsRegistered m r registers code.variables p variables given z.source) (sym one) is_left)
            (subst (λ (z : Operand). IsRegistered m r registers code.variables p variables given z.source) (sym two) is_right) as_many less));
        rests = λ m r s x n g ob can as_many less other.
            t.rests m r s x n g ob can as_many less (λ within. other (ap (is_work kind) is ∙ shared) within);
        away = t.away;
        wired = t.wired;
      }

  pub nothing_linked : (o : Operation) (a : List Signal) (before after : UnitInputs) → after ≡ before → is_work kind o ≡ false →
      LinksOperation code registers kind p end k o a a before after
  nothing_linked o a before after same none =
      subst (λ (z : UnitInputs). LinksOperation code registers kind p end k o a a before z) (sym same) (record {
        grows = grows_refl a;
        many = λ n is. is;
        works = λ operator ty left right m r s n variables given e shared g ob can within is_left is_right as_many less.
            absurd (let yes : is_work kind o ≡ true = ap (is_work kind) e ∙ shared in cc);
        rests = λ m r s x n g ob can as_many less other. same_refl r before x;
        away = λ m r x n g ob one off as_many less. same_refl r before x;
        wired = λ base n slots at room is. record { wires = wires_none base a; inputs = is };
      })

-- ---- operands that registers hold

module _ (globals : List IntegerType) (code : ThreadCode) (registers : Registers) (b : Block) (p : BlockPlan) (right : IsWorkRight globals code b p) (m : Module) (r : Reading)
    (q : Slot)
    (wire : ℕ → ℤ) (sees : SeesSlot globals code registers b p m r q) where
  module _ (n : ℕ) (below : n < size (planned_view b)) (slow : is_simple (operation_at (planned_view b) n).kind ≡ false) (from : (plan_view b p).start n ≤ q.state)
      (to : q.state ≤ last_state (planned_view b) (plan_view b p) n) where
    value_held : (j : ℕ) (o : Operation) → Uses (operation_at (planned_view b) n) j → slice_get b.operations j ≡ Some o →
        IsKept m r registers (register_at p.registers j) (value_type globals code o) (value_now (planned_view b) (plan_view b p) q wire j)
    value_held j o u listed =
        let small = within_view b.operations j o listed in
        let past : last_state (planned_view b) (plan_view b p) j < (plan_view b p).start n = right.block.registered j n below slow u in
        let used : last_state (planned_view b) (plan_view b p) n ≤ (plan_view b p).until j = right.block.keeps.used j n below u in
        let before : last_state (planned_view b) (plan_view b p) j < q.state = omega arith in
        let alive : q.state ≤ (plan_view b p).until j = omega arith in
        let has = right.block.keeps.has j small (omega arith) in
        let kept : IsKept m r registers (Some has.0) (value_type globals code o) (q.registers has.0) =
        sees.alive j has.0 (record { operation = o; listed = listed; register = has.1; past = before; used = alive })
        in
        subst (λ (z : ℤ). IsKept m r registers (register_at p.registers j) (value_type globals code o) z) (sym (register_later b p q wire j has.0 before has.1))
        (subst (λ (z : Option ℕ). IsKept m r registers z (value_type globals code o) (q.registers has.0)) (sym has.1) kept)

    source_held : (source : Source) → IsTypedSource globals code b.operations source → ((j : ℕ) (ty : IntegerType) → source ≡ Value j ty →
        Uses (operation_at (planned_view b) n) j) →
        IsRegistered m r registers code.variables p q.variables (value_now (planned_view b) (plan_view b p) q wire) source
    source_held (Constant ty v) typed uses = typed
    source_held (Variable x ty) typed uses = sees.variables x ty typed
    source_held (Value j ty) typed uses =
        subst (λ (t : IntegerType). IsKept m r registers (register_at p.registers j) t (value_now (planned_view b) (plan_view b p) q wire j)) typed.2
        (value_held j typed.0 (uses j ty refl) typed.1)

    pub operand_held : (operand : Operand) → IsTypedOperand globals code b.operations operand →
        ((j : ℕ) → UsesIn (operand_view operand) j → Uses (operation_at (planned_view b) n) j) →
        IsRegistered m r registers code.variables p q.variables (value_now (planned_view b) (plan_view b p) q wire) operand.source
    operand_held operand typed uses = source_held operand.source typed (λ j ty e. uses j (uses_source operand j ty e))

-- ---- a block

module _ (code : ThreadCode) (registers : Registers) (kind : UnitKind) (b : Block) (p : BlockPlan) (end : Moment) where
  pub first_none : (a : List Signal) (before : UnitInputs) → LinksFirst code registers kind b p end a a before before 0
  first_none a before = record {
    grows = grows_refl a;
    many = λ n is. is;
    works = λ globals m r q wire k n left right ok g ob moment states sees as_many less few at. absurd (omega arith);
    away = λ m r x n g ob one off as_many less. same_refl r before x;
    wired = λ base n slots at room is. record { wires = wires_none base a; inputs = is };
  }

  listed_last : (k : ℕ) (o : Operation) → slice_get b.operations k ≡ Some o → last_state (planned_view b) (plan_view b p) k ≡ slice_index p.starts k + further_of o
  listed_last k o listed = ap (λ (z : PlannedOperation). (plan_view b p).start k + further_states z.kind) (listed_view b.operations k o listed)

  pub first_more : (a c d : List Signal) (before mid after : UnitInputs) (count : ℕ) (x : Operation) → LinksFirst code registers kind b p end a c before mid count →
      slice_get b.operations count ≡ Some x → LinksOperation code registers kind p end count x c d mid after → LinksFirst code registers kind b p end a d before after (count + 1)
  first_more a c d before mid after count x t listed u = record {
    grows = grows_then a c d t.grows u.grows;
    many = λ n is. u.many n (t.many n is);
    works = λ globals m r q wire k n left right ok g ob moment states sees as_many less few at.
        ⊎_elim (now globals m r q wire k n left right ok g ob moment states sees as_many few at)
        (earlier globals m r q wire k n left right ok g ob moment states sees as_many less few at)
        (cases_eq k count);
    away = λ m r y n g ob one off as_many less.
        same_then r before mid after y (t.away m r y n (back m g) ob one off as_many less) (u.away m r y n g ob one off (t.many n as_many) less);
    wired = λ base n slots at room is.
        let first = t.wired base n slots at room is in
        let more = first.wires.grows in
        let last = u.wired base n (registers_after a c base code.variables registers more slots) (stands_after a c base end.at 1 more at) room first.inputs in
        record { wires = wires_then base a c d first.wires last.wires; inputs = last.inputs };
  }
    where
      back : (m : Module) → Grows d m.signals → Grows c m.signals
      back m g = grows_then c d m.signals u.grows g

      can : (globals : List IntegerType) (m : Module) (r : Reading) (q : Slot) → IsWorkRight globals code b p → IsMoment m r registers end.at end.states true q.state →
          end.states ≡ max 1 p.states → CanWork m r registers end (slice_index p.starts count) (further_of x) q.state
      can globals m r q ok moment states =
          let small = ok.block.small in
          let ends = ok.block.keeps.ends count (within_view b.operations count x listed) in
          let last = listed_last count x listed in
          record {
            moment = moment;
            small = (let e : end.states < 2 ^ 64 = (let most : max 1 p.states < 2 ^ 64 = grind arith in omega arith) in e);
            ends = (let e : slice_index p.starts count + further_of x < end.states = (let most : p.states ≤ max 1 p.states = grind arith in omega arith) in e);
          }

      now : (globals : List IntegerType) (m : Module) (r : Reading) (q : Slot) (wire : ℕ → ℤ) (k n : ℕ) (left right : Operand) → IsWorkRight globals code b p → Grows d m.signals →
          Obeys m r →
          IsMoment m r registers end.at end.states true q.state → end.states ≡ max 1 p.states → SeesSlot globals code registers b p m r q → AreAsMany n before →
          slice_index p.units k < n →
          IsAtWork kind b p q k left right → k ≡ count → GetsWork code registers kind r b p q wire after k left right
      now globals m r q wire k n left right ok g ob moment states sees as_many few at same =
          let there : slice_get b.operations count ≡ Some (Binary at.operator at.ty left right) = subst
          (λ (z : ℕ). slice_get b.operations z ≡ Some (Binary at.operator at.ty left right)) same at.listed in
          let is : x ≡ Binary at.operator at.ty left right = cc in
          let below = within_view b.operations k (Binary at.operator at.ty left right) at.listed in
          let view = listed_view b.operations k (Binary at.operator at.ty left right) at.listed in
          let slow : is_simple (operation_at (planned_view b) k).kind ≡ false = ap (λ (z : PlannedOperation). is_simple z.kind) view ∙ slow_kind kind at.operator at.ty
          (binary_total at.operator at.ty) (shared_of kind at.operator at.ty left right at.shared) in
          let typed = ok.block.typed.operations k (Binary at.operator at.ty left right) at.listed in
          let held = operand_held globals code registers b p ok m r q wire sees k below slow at.from at.to in
          let uses_left : (j : ℕ) → UsesIn (operand_view left) j → Uses (operation_at (planned_view b) k) j = λ j u. subst (λ (z : PlannedOperation). Uses z j) (sym view)
          (inl u) in
          let uses_right : (j : ℕ) → UsesIn (operand_view right) j → Uses (operation_at (planned_view b) k) j = λ j u. subst (λ (z : PlannedOperation). Uses z j) (sym view)
          (inr u) in
          let one = held left typed.0 uses_left in
          let two = held right typed.1 uses_right in
          let within : IsWithin (slice_index p.starts count) (further_of x) q.state = (
            subst (λ (z : ℕ). slice_index p.starts z ≤ q.state) same at.from,
            subst (λ (z : ℕ). q.state ≤ z) (listed_last count x listed) (subst (λ (z : ℕ). q.state ≤ last_state (planned_view b) (plan_view b p) z) same at.to),
          ) in
          subst (λ (z : ℕ). GetsWork code registers kind r b p q wire after z left right) (sym same)
          (u.works at.operator at.ty left right m r q.state n q.variables (value_now (planned_view b) (plan_view b p) q wire) is at.shared g ob
          (can globals m r q ok moment states) within one two
          (t.many n as_many) (subst (λ (z : ℕ). slice_index p.units z < n) same few))

      earlier : (globals : List IntegerType) (m : Module) (r : Reading) (q : Slot) (wire : ℕ → ℤ) (k n : ℕ) (left right : Operand) → IsWorkRight globals code b p →
          Grows d m.signals → Obeys m r →
          IsMoment m r registers end.at end.states true q.state → end.states ≡ max 1 p.states → SeesSlot globals code registers b p m r q → AreAsMany n before → k < count + 1 →
          slice_index p.units k < n → IsAtWork kind b p q k left right → k ≢ count → GetsWork code registers kind r b p q wire after k left right
      earlier globals m r q wire k n left right ok g ob moment states sees as_many less few at ne =
          let sooner : k < count = omega arith in
          let so_far = t.works globals m r q wire k n left right ok (back m g) ob moment states sees as_many sooner few at in
          gets_after r mid after (slice_index p.units k) kind.ty (operand_now (planned_view b) (plan_view b p) q wire (operand_view left))
          (operand_now (planned_view b) (plan_view b p) q wire (operand_view right)) so_far
          (u.rests m r q.state (slice_index p.units k) n g ob (can globals m r q ok moment states) (t.many n as_many) few
          (λ work within same. apart globals q k left right ok sooner at work within same))
        where
          apart : (globals : List IntegerType) (q : Slot) (k : ℕ) (left right : Operand) → IsWorkRight globals code b p → k < count → IsAtWork kind b p q k left right →
              is_work kind x ≡ true →
              IsWithin (slice_index p.starts count) (further_of x) q.state → slice_index p.units k ≡ slice_index p.units count → ⊥
          apart globals q k left right ok sooner at work within same =
              let shared = kinds_share kind b.operations k count (Binary at.operator at.ty left right) x at.listed listed at.shared work in
              let last = listed_last count x listed in
              let from = at.from in
              let to = at.to in
              let low = within.0 in
              let high = within.1 in
              ⊎_elim (λ (past : last_state (planned_view b) (plan_view b p) k < slice_index p.starts count). absurd (omega arith))
              (λ (past : last_state (planned_view b) (plan_view b p) count < slice_index p.starts k). absurd (omega arith))
              (ok.units k count sooner (slice_get_within b.operations count x listed) shared same)

  pub block_linked : (l : ℕ) (a c d : List Signal) (before after : UnitInputs) (at : ℕ) → end.at ≡ at → end.states ≡ max 1 p.states → TellsStage a c registers l at →
      NumberAdds a c registers.stage.width registers.stage.register l at → LinksFirst code registers kind b p end c d before after (length b.operations) →
      LinksBlock code registers kind l b p a d before after
  block_linked l a c d before after at is_at states t tw u = record {
    grows = grows_then a c d t.grows u.grows;
    many = u.many;
    works = λ globals m r q wire k n left right ok g ob inside sees as_many few work.
        let moment : IsMoment m r registers end.at end.states true q.state =
        let below = inside.below in
        let room = inside.room in
        let some : max 1 p.states ≡ p.states = grind arith in
        record {
          wide = ap (λ (z : ℕ). width m z) is_at ∙ t.wide m (back m g);
          shows = ap (λ (z : ℕ). r.signal z) is_at ∙ t.shows m r (back m g) ob inside.has.wide inside.has.room inside.has.fits ∙ ap bit_of
              (same_is (r.signal registers.stage.register) l inside.stage);
          state_wide = λ z. inside.wide;
          state = λ z. inside.state;
          below = λ z. omega arith;
          room = λ z. subst (λ (n : ℕ). n ≤ 2 ^ registers.state.width) (sym (states ∙ some)) room;
        }
        in
        u.works globals m r q wire k n left right ok g ob moment states sees as_many (slice_get_within b.operations k (Binary work.operator work.ty left right) work.listed) few
        work;
    rests = λ m r x n g ob has other as_many less.
        let one = ap (λ (z : ℕ). width m z) is_at ∙ t.wide m (back m g) in
        let off : r.signal end.at ≡ 0 = ap (λ (z : ℕ). r.signal z) is_at ∙ t.shows m r (back m g) ob has.wide has.room has.fits ∙ ap bit_of
        (other_is (r.signal registers.stage.register) l other) in
        u.away m r x n g ob one off as_many less;
    wired = λ base n slots low room is.
        let first = tw base slots.stage low in
        let more = first.wires.grows in
        let some = pow_pos registers.state.width in
        let few : end.states ≤ 2 ^ registers.state.width = subst (λ (z : ℕ). z ≤ 2 ^ registers.state.width) (sym states)
        (let e : max 1 p.states ≤ 2 ^ registers.state.width = grind arith in e) in
        let last = u.wired base n (registers_after a c base code.variables registers more slots) (subst (λ (z : ℕ). IsEarlier c base z 1) (sym is_at) first.stands) few
        (inputs_after a c base (width_of kind.ty) n before more is) in
        record { wires = wires_then base a c d first.wires last.wires; inputs = last.inputs };
  }
    where
      back : (m : Module) → Grows d m.signals → Grows c m.signals
      back m g = grows_then c d m.signals u.grows g

-- ---- stages

module _ (code : ThreadCode) (registers : Registers) (kind : UnitKind) where
  pub stage_linked : (l : ℕ) (b : Block) (p : BlockPlan) (a c : List Signal) (before after : UnitInputs) → LinksBlock code registers kind l b p a c before after →
      LinksStage code registers kind l (stage.Run b) (Some (planned.Run p)) a c before after
  stage_linked l b p a c before after t = record {
    grows = t.grows;
    many = t.many;
    works = λ b2 p2 globals m r q wire k n left right same_b same_p ok g ob inside sees as_many few work.
        let e : b ≡ b2 = cc in
        let f : p ≡ p2 = cc in
        subst (λ (z : Block). GetsWork code registers kind r z p2 q wire after k left right) e
        (subst (λ (z : BlockPlan). GetsWork code registers kind r b z q wire after k left right) f
        (t.works globals m r q wire k n left right
        (subst (λ (z : Block). IsWorkRight globals code z p) (sym e) (subst (λ (z : BlockPlan). IsWorkRight globals code b2 z) (sym f) ok)) g ob
        (subst (λ (z : Block). IsInStage globals code registers l z p m r q) (sym e) (subst (λ (z : BlockPlan). IsInStage globals code registers l b2 z m r q) (sym f) inside))
        (subst (λ (z : Block). SeesSlot globals code registers z p m r q) (sym e) (subst (λ (z : BlockPlan). SeesSlot globals code registers b2 z m r q) (sym f) sees)) as_many
        (subst (λ (z : BlockPlan). slice_index z.units k < n) (sym f) few)
        (subst (λ (z : Block). IsAtWork kind z p q k left right) (sym e) (subst (λ (z : BlockPlan). IsAtWork kind b2 z q k left right) (sym f) work))));
    rests = t.rests;
    wired = λ base n slots low room is. t.wired base n slots low (room p refl) is;
  }

  pub stage_empty : (l : ℕ) (s : Stage) (plan : Option StagePlan) (a : List Signal) (before after : UnitInputs) → after ≡ before →
      ((b : Block) (p : BlockPlan) → s ≡ stage.Run b → plan ≡ Some (planned.Run p) → ⊥) → LinksStage code registers kind l s plan a a before after
  stage_empty l s plan a before after same none =
      subst (λ (z : UnitInputs). LinksStage code registers kind l s plan a a before z) (sym same) (record {
        grows = grows_refl a;
        many = λ n is. is;
        works = λ b p globals m r q wire k n left right e f ok g ob inside sees as_many few work. absurd (none b p e f);
        rests = λ m r x n g ob has other as_many less. same_refl r before x;
        wired = λ base n slots low room is. record { wires = wires_none base a; inputs = is };
      })

  -- a block without operations of the kind
  pub stage_idle : (l : ℕ) (b : Block) (p : BlockPlan) (a : List Signal) (before after : UnitInputs) → after ≡ before → HasWork kind b (length b.operations) false →
      LinksStage code registers kind l (stage.Run b) (Some (planned.Run p)) a a before after
  stage_idle l b p a before after same idle =
      subst (λ (z : UnitInputs). LinksStage code registers kind l (stage.Run b) (Some (planned.Run p)) a a before z) (sym same) (record {
        grows = grows_refl a;
        many = λ n is. is;
        works = λ b2 p2 globals m r q wire k n left right e f ok g ob inside sees as_many few work.
            let same_block : b ≡ b2 = cc in
            let there : slice_get b.operations k ≡ Some (Binary work.operator work.ty left right) =
            subst (λ (z : Block). slice_get z.operations k ≡ Some (Binary work.operator work.ty left right)) (sym same_block) work.listed in
            absurd (let none = idle refl k (Binary work.operator work.ty left right) (slice_get_within b.operations k (Binary work.operator work.ty left right) there) there in
            let yes = work.shared in cc);
        rests = λ m r x n g ob has other as_many less. same_refl r before x;
        wired = λ base n slots low room is. record { wires = wires_none base a; inputs = is };
      })

  module _ (plan : Planned) where
    pub stages_none : (a : List Signal) (before : UnitInputs) → LinksStages code registers kind plan a a before before 0
    stages_none a before = record {
      grows = grows_refl a;
      many = λ n is. is;
      works = λ l b p globals m r q wire k n left right less listed planned_so ok g ob has inside sees as_many few work. absurd (omega arith);
      wired = λ base n slots low room is. record { wires = wires_none base a; inputs = is };
    }

    pub stages_more : (a c d : List Signal) (before mid after : UnitInputs) (count : ℕ) (s : Stage) → LinksStages code registers kind plan a c before mid count →
        slice_get code.stages count ≡ Some s → LinksStage code registers kind count s (slice_get plan.stages count) c d mid after →
        LinksStages code registers kind plan a d before after (count + 1)
    stages_more a c d before mid after count s t listed u = record {
      grows = grows_then a c d t.grows u.grows;
      many = λ n is. u.many n (t.many n is);
      works = λ l b p globals m r q wire k n left right less there planned_so ok g ob has inside sees as_many few work.
          ⊎_elim
          (λ (same : l ≡ count).
          let e : s ≡ stage.Run b = (let at : slice_get code.stages count ≡ Some (stage.Run b) = subst (λ (z : ℕ). slice_get code.stages z ≡ Some (stage.Run b)) same there in cc)
          in
          u.works b p globals m r q wire k n left right e (subst (λ (z : ℕ). slice_get plan.stages z ≡ Some (planned.Run p)) same planned_so) ok g ob
          (subst (λ (z : ℕ). IsInStage globals code registers z b p m r q) same inside) sees (t.many n as_many) few work)
          (λ (ne : l ≢ count).
          let sooner : l < count = omega arith in
          let so_far = t.works l b p globals m r q wire k n left right sooner there planned_so ok (grows_then c d m.signals u.grows g) ob
          (λ j h. has j (omega arith)) inside sees as_many few work in
          let stage_is = inside.stage in
          gets_after r mid after (slice_index p.units k) kind.ty (operand_now (planned_view b) (plan_view b p) q wire (operand_view left))
          (operand_now (planned_view b) (plan_view b p) q wire (operand_view right)) so_far
          (u.rests m r (slice_index p.units k) n g ob (has count (omega arith)) (λ h. ne (sym stage_is ∙ h)) (t.many n as_many) few))
          (cases_eq l count);
      wired = λ base n slots low room is.
          let first = t.wired base n slots (omega arith) room is in
          let more = first.wires.grows in
          let last = u.wired base n (registers_after a c base code.variables registers more slots) (omega arith) (λ p e. room count p e) first.inputs in
          record { wires = wires_then base a c d first.wires last.wires; inputs = last.inputs };
    }

-- ---- blocks that have operations of the kind

pub work_none : (kind : UnitKind) (b : Block) → HasWork kind b 0 false
work_none kind b e k o less there = absurd (omega arith)

pub work_more : (kind : UnitKind) (b : Block) (n : ℕ) (o : Operation) (before : Bool) → HasWork kind b n before → slice_get b.operations n ≡ Some o →
    HasWork kind b (n + 1) (before || is_work kind o)
work_more kind b n o before t listed e k x less there =
    let none = or_parts before (is_work kind o) e in
    ⊎_elim
    (λ (same : k ≡ n).
    let is : o ≡ x = (let at = ap (slice_get b.operations) same in cc) in
    subst (λ (z : Operation). is_work kind z ≡ false) is none.1)
    (λ (ne : k ≢ n). t none.0 k x (omega arith) there)
    (cases_eq k n)
