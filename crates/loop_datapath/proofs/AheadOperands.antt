-- Operands of iterations ahead are seen: lemmas of each function that puts a word of one together.
use Rattle.std.proofs.Common.{◌≡◌, ℕ, zero, suc, ◌+◌, ◌-◌, ◌%◌, ◌^◌, ◌<◌, ◌≤◌, nat_lt, Bool, true, false, ◌&&◌, List, slice_get}
use Rattle.std.proofs.Common.{Option, Some, None, ℤ, refl, sym, ap, subst, ◌∙◌, arith}
use Rattle.std.specs.Prelude.{Result, IfOk}
use Rattle.std.proofs.Math.Nat.{mod-eq_of_lt}
use Rattle.netlist.specs.declared.netlist.Signal.{Signal}
use Rattle.netlist.specs.declared.netlist.Module.{Module}
use Rattle.verilog_meaning.specs.Readings.{Reading}
use Rattle.hls_ints.specs.Types.{IntegerType, HasType, wrapped}
use Rattle.block_ir.specs.declared.operand.Source.{Source}
use Rattle.block_ir.specs.declared.operand.Source.TheVariants.{Constant, Variable, Value}
use Rattle.block_ir.specs.declared.operand.Operand.{Operand}
use Rattle.block_ir.specs.declared.block.Final.{Final}
use Rattle.block_ir.specs.declared.block.Block.{Block}
use Rattle.plan_blocks.specs.View.{operand_view, source_view, finals_view}
use Rattle.planned_block.specs.Block.{Operand as PlannedOperand, operand_value}
use Rattle.planned_block.specs.Slot.{Slot}
use Rattle.planned_loop.specs.Move.{operand_ahead}
use Rattle.planned_loop.proofs.OperandsAhead.{from_final, finished_is}
use Rattle.operator_wires.specs.declared.words.Word.{Word}
use Rattle.operator_wires.specs.Words.{IsWord, Holds, Becomes, resized_word}
use Rattle.operator_wires.proofs.PutSignals.{grows_then}
use Rattle.operator_wires.proofs.MadeWords.{of_ok}
use Rattle.thread_promise.specs.Types.{source_type, operand_type}
use Rattle.block_datapath.specs.declared.registers.Registers.{Registers}
use Rattle.block_datapath.specs.Seen.{IsVariable, ShowsVariable, Converts}
use Rattle.block_datapath.proofs.OperandWords.{own_word}
use Rattle.loop_datapath.specs.declared.times.LoopTimes.{LoopTimes}
use Rattle.loop_datapath.specs.declared.times.RoundPhase.{RoundPhase}
use Rattle.loop_datapath.specs.declared.times.ValuePlace.{ValuePlace}
use Rattle.loop_datapath.specs.declared.times.ValuePlace.TheVariants.{Wire}
use Rattle.loop_datapath.specs.Times.{times_view, loop_of, value_place}
use Rattle.loop_datapath.specs.Ahead.{last_final, final_behind, value_there, variable_there, IsAt, SeesLeft, SeesAhead}
use Rattle.loop_datapath.specs.Ahead.{ShowsWire, ShowsValueAhead, ShowsSourceAhead, ShowsOperandAhead, BecomesLeft}
use Rattle.loop_datapath.proofs.LastFinals.{last_names, view_final, final_seen}

-- ---- variables by their last finals

module _ (turn : Block) (comparison : ℕ) (times : LoopTimes) (begun phase : ℕ) (q : Slot) (wire : ℕ → ℤ) where
  abbrev planned_there : ℕ → PlannedOperand → ℤ
  planned_there d = operand_ahead (loop_of turn comparison) (times_view times) begun phase q wire d

  abbrev variables : ℕ → ℕ → ℤ
  variables = variable_there turn comparison times begun phase q wire

  pub left_behind : (d x : ℕ) (f : Final) → last_final turn.finals x ≡ Some f → variables (suc d) x ≡ planned_there d (operand_view f.value)
  left_behind d x f e =
      finished_is (planned_there d) (finals_view turn.finals) (variables d) x
      ∙ ap (λ (o : Option PlannedOperand). from_final (planned_there d) o (variables d x)) (final_seen turn.finals x ∙ ap view_final e)

  pub never_left : (d x : ℕ) → last_final turn.finals x ≡ None → variables d x ≡ q.variables x
  never_left zero x e = refl
  never_left (suc d) x e =
      finished_is (planned_there d) (finals_view turn.finals) (variables d) x
      ∙ ap (λ (o : Option PlannedOperand). from_final (planned_there d) o (variables d x)) (final_seen turn.finals x ∙ ap view_final e)
      ∙ never_left d x e

-- ---- the low bits of a register

pub low_number : (t u : Bool) (from to n : ℕ) → 1 ≤ to → to ≤ from → n < 2 ^ from → nat_lt to from ≡ t → (nat_lt from to && false) ≡ u →
    resized_word false from to n ≡ n % 2 ^ to
low_number true u from to n some less small e f = first e ∙ ap (λ (k : ℕ). n % 2 ^ k) (let same : to - 1 + 1 ≡ to = omega arith in same)
  where
    first : nat_lt to from ≡ true → resized_word false from to n ≡ n % 2 ^ (to - 1 + 1)
    first g = rw g refl
low_number false true from to n some less small e f = absurd (none (nat_lt from to) f)
  where
    none : (t : Bool) → (t && false) ≡ true → ⊥
    none true h = cc
    none false h = cc
low_number false false from to n some less small e f =
    let same : from ≡ to = grind arith in
    whole e f ∙ sym (mod-eq_of_lt (subst (λ (k : ℕ). n < 2 ^ k) same small))
  where
    whole : nat_lt to from ≡ false → (nat_lt from to && false) ≡ false → resized_word false from to n ≡ n
    whole g h = rw (g, h) refl

-- ---- the word of an operation

pub wire_shown : {E : Type 0} (x : Result Word E) (a b : List Signal) (words : List Word) (k : ℕ) (ty : IntegerType) (word : Word) → slice_get words k ≡ Some word →
    IfOk x (Becomes a b word ty (wrapped ty)) → IfOk x (ShowsWire a b words k ty)
wire_shown x a b words k ty word e made =
    of_ok x (Becomes a b word ty (wrapped ty)) (ShowsWire a b words k ty)
    (λ out t. record {
      grows = t.grows;
      shows = λ m r found v g o l is.
          let same : found ≡ word = cc in
          own_word m r out ty v is.typed (t.shows m r ty v g o (subst (λ (w : Word). IsWord m r w ty v) same is));
    }) made

pub no_wire : {E : Type 0} (x : Result Word E) (a b : List Signal) (words : List Word) (k : ℕ) (ty : IntegerType) (z : ℤ) → slice_get words k ≡ None →
    IfOk x (Holds a b ty z) → IfOk x (ShowsWire a b words k ty)
no_wire x a b words k ty z e made =
    of_ok x (Holds a b ty z) (ShowsWire a b words k ty) (λ out t. record { grows = t.grows; shows = λ m r found v g o l is. absurd cc }) made

-- ---- values

module _ (a b : List Signal) (registers : Registers) (times : LoopTimes) (words : List Word) (at : RoundPhase) (d k : ℕ) (ty : IntegerType) where
  pub from_wire : {E : Type 0} (x : Result Word E) → value_place times.operations at.begun at.phase d k ≡ Wire → IfOk x (ShowsWire a b words k ty) →
      IfOk x (ShowsValueAhead a b registers times words at d k ty)
  from_wire x e made =
      of_ok x (ShowsWire a b words k ty) (ShowsValueAhead a b registers times words at d k ty)
      (λ out t. record {
        grows = t.grows;
        shows = λ m r v g o is.
            let here : IsAt m r registers words Wire k ty v = subst (λ (p : ValuePlace). IsAt m r registers words p k ty v) e is in
            t.shows m r here.0 v g o here.1 here.2;
      }) made

-- ---- what a final leaves

pub left_shown : {E : Type 0} (x : Result Word E) (a b c : List Signal) (types : List IntegerType) (f : Final) (word whole : Word) (ty : IntegerType) →
    Converts a b word f.value.conversions whole → IfOk x (Becomes b c whole ty (wrapped ty)) → IfOk x (BecomesLeft a c types f word ty)
left_shown x a b c types f word whole ty t made =
    of_ok x (Becomes b c whole ty (wrapped ty)) (BecomesLeft a c types f word ty)
    (λ out u. record {
      grows = grows_then a b c t.grows u.grows;
      shows = λ m r variables values g o declared same is.
          let first = t.shows m r (source_type f.value.source) variables values (source_view f.value.source) (grows_then b c m.signals u.grows g) o is in
          let whole_is : IsWord m r whole ty (operand_value variables values (operand_view f.value)) =
          subst (λ (k : IntegerType). IsWord m r whole k (operand_value variables values (operand_view f.value))) same first in
          own_word m r out ty (operand_value variables values (operand_view f.value)) whole_is.typed
          (u.shows m r ty (operand_value variables values (operand_view f.value)) g o whole_is);
    }) made

-- ---- sources

module _ (registers : Registers) (times : LoopTimes) (words : List Word) (at : RoundPhase) (types : List IntegerType) (turn : Block) where
  -- as a source is seen by the depth
  constant_typed : (comparison : ℕ) (m : Module) (r : Reading) (q : Slot) (wire : ℕ → ℤ) (d : ℕ) (ty : IntegerType) (v : ℤ) →
      SeesAhead m r registers words types turn comparison times at.begun at.phase q wire d (Constant ty v) → HasType ty v
  constant_typed comparison m r q wire zero ty v seen = seen
  constant_typed comparison m r q wire (suc d) ty v seen = seen

  value_seen : (comparison : ℕ) (m : Module) (r : Reading) (q : Slot) (wire : ℕ → ℤ) (d k : ℕ) (ty : IntegerType) →
      SeesAhead m r registers words types turn comparison times at.begun at.phase q wire d (Value k ty) →
      IsAt m r registers words (value_place times.operations at.begun at.phase d k) k ty (value_there turn comparison times at.begun at.phase q wire d k)
  value_seen comparison m r q wire zero k ty seen = seen
  value_seen comparison m r q wire (suc d) k ty seen = seen

  own_seen : (comparison : ℕ) (m : Module) (r : Reading) (q : Slot) (wire : ℕ → ℤ) (d x : ℕ) (ty : IntegerType) → final_behind turn.finals d x ≡ None →
      SeesAhead m r registers words types turn comparison times at.begun at.phase q wire d (Variable x ty) → IsVariable m r registers types x ty (q.variables x)
  own_seen comparison m r q wire zero x ty e seen = seen
  own_seen comparison m r q wire (suc d) x ty e seen =
      subst (λ (f : Option Final). SeesLeft m r registers words types
      (SeesAhead m r registers words types turn comparison times at.begun at.phase q wire d) f x ty (q.variables x)) e seen

  own_is : (comparison : ℕ) (q : Slot) (wire : ℕ → ℤ) (d x : ℕ) → final_behind turn.finals d x ≡ None →
      variable_there turn comparison times at.begun at.phase q wire d x ≡ q.variables x
  own_is comparison q wire zero x e = refl
  own_is comparison q wire (suc d) x e = never_left turn comparison times at.begun at.phase q wire (suc d) x e

  pub constant_shown : {E : Type 0} (z : Result Word E) (a b : List Signal) (d : ℕ) (source : Source) (ty : IntegerType) (v n : ℤ) → (HasType ty v → n ≡ v) →
      source ≡ Constant ty v → IfOk z (Holds a b ty (wrapped ty n)) → IfOk z (ShowsSourceAhead a b registers times words at d types turn source)
  constant_shown z a b d source ty v n same e made =
      subst (λ (s : Source). IfOk z (ShowsSourceAhead a b registers times words at d types turn s)) (sym e)
      (of_ok z (Holds a b ty (wrapped ty n)) (ShowsSourceAhead a b registers times words at d types turn (Constant ty v))
      (λ out t. record {
        grows = t.grows;
        shows = λ comparison m r q wire g o seen.
            let typed = constant_typed comparison m r q wire d ty v seen in
            own_word m r out ty v typed (subst (λ (k : ℤ). IsWord m r out ty (wrapped ty k)) (same typed) (t.shows m r g o));
      }) made)

  pub value_shown : {E : Type 0} (z : Result Word E) (a b : List Signal) (d : ℕ) (source : Source) (k : ℕ) (ty : IntegerType) → source ≡ Value k ty →
      IfOk z (ShowsValueAhead a b registers times words at d k ty) → IfOk z (ShowsSourceAhead a b registers times words at d types turn source)
  value_shown z a b d source k ty e made =
      subst (λ (s : Source). IfOk z (ShowsSourceAhead a b registers times words at d types turn s)) (sym e)
      (of_ok z (ShowsValueAhead a b registers times words at d k ty) (ShowsSourceAhead a b registers times words at d types turn (Value k ty))
      (λ out t. record {
        grows = t.grows;
        shows = λ comparison m r q wire g o seen.
            t.shows m r (value_there turn comparison times at.begun at.phase q wire d k) g o (value_seen comparison m r q wire d k ty seen);
      }) made)

  pub own_shown : {E : Type 0} (z : Result Word E) (a b : List Signal) (d : ℕ) (source : Source) (x : ℕ) (ty : IntegerType) → source ≡ Variable x ty →
      final_behind turn.finals d x ≡ None → IfOk z (ShowsVariable a b registers types x ty) → IfOk z (ShowsSourceAhead a b registers times words at d types turn source)
  own_shown z a b d source x ty e none made =
      subst (λ (s : Source). IfOk z (ShowsSourceAhead a b registers times words at d types turn s)) (sym e)
      (of_ok z (ShowsVariable a b registers types x ty) (ShowsSourceAhead a b registers times words at d types turn (Variable x ty))
      (λ out t. record {
        grows = t.grows;
        shows = λ comparison m r q wire g o seen.
            subst (λ (v : ℤ). IsWord m r out ty v) (sym (own_is comparison q wire d x none))
            (t.shows m r (q.variables x) g o (own_seen comparison m r q wire d x ty none seen));
      }) made)

  -- what is made of a final that is found
  by_final : (a b c : List Signal) (d x : ℕ) (ty : IntegerType) (f : Final) (word out : Word) → last_final turn.finals x ≡ Some f →
      ShowsSourceAhead a b registers times words at d types turn f.value.source word → BecomesLeft b c types f word ty out →
      ShowsSourceAhead a c registers times words at (suc d) types turn (Variable x ty) out
  by_final a b c d x ty f word out e t u = record {
    grows = grows_then a b c t.grows u.grows;
    shows = λ comparison m r q wire g o seen.
        let there : (slice_get types x ≡ Some ty) × (operand_type f.value ≡ ty)
        × SeesAhead m r registers words types turn comparison times at.begun at.phase q wire d f.value.source =
        subst (λ (z : Option Final). SeesLeft m r registers words types
        (SeesAhead m r registers words types turn comparison times at.begun at.phase q wire d) z x ty (q.variables x)) e seen in
        let declared : slice_get types f.variable ≡ Some ty = subst (λ (n : ℕ). slice_get types n ≡ Some ty) (sym (last_names turn.finals x f e)) there.0 in
        subst (λ (v : ℤ). IsWord m r out ty v) (sym (left_behind turn comparison times at.begun at.phase q wire d x f e))
        (u.shows m r (variable_there turn comparison times at.begun at.phase q wire d) (value_there turn comparison times at.begun at.phase q wire d) g o declared there.1
        (t.shows comparison m r q wire (grows_then b c m.signals u.grows g) o there.2));
  }

  pub left_source_shown : {E : Type 0} (z : Result Word E) (a b c : List Signal) (d before : ℕ) (source : Source) (x : ℕ) (ty : IntegerType) (f : Final) (made_of : Source)
      (word : Word) →
      source ≡ Variable x ty → final_behind turn.finals d x ≡ Some f → suc before ≡ d → made_of ≡ f.value.source →
      ShowsSourceAhead a b registers times words at before types turn made_of word → IfOk z (BecomesLeft b c types f word ty) →
      IfOk z (ShowsSourceAhead a c registers times words at d types turn source)
  left_source_shown z a b c d before source x ty f made_of word e found less from t made =
      subst (λ (n : ℕ). IfOk z (ShowsSourceAhead a c registers times words at n types turn source)) less
      (subst (λ (s : Source). IfOk z (ShowsSourceAhead a c registers times words at (suc before) types turn s)) (sym e)
      (of_ok z (BecomesLeft b c types f word ty) (ShowsSourceAhead a c registers times words at (suc before) types turn (Variable x ty))
      (λ out u. by_final a b c before x ty f word out (subst (λ (n : ℕ). final_behind turn.finals n x ≡ Some f) (sym less) found)
      (subst (λ (s : Source). ShowsSourceAhead a b registers times words at before types turn s word) from t) u) made))

  pub operand_shown : {E : Type 0} (z : Result Word E) (a b c : List Signal) (d : ℕ) (operand : Operand) (word : Word) →
      ShowsSourceAhead a b registers times words at d types turn operand.source word → IfOk z (Converts b c word operand.conversions) →
      IfOk z (ShowsOperandAhead a c registers times words at d types turn operand)
  operand_shown z a b c d operand word t made =
      of_ok z (Converts b c word operand.conversions) (ShowsOperandAhead a c registers times words at d types turn operand)
      (λ out u. record {
        grows = grows_then a b c t.grows u.grows;
        shows = λ comparison m r q wire g o seen.
            u.shows m r (source_type operand.source) (variable_there turn comparison times at.begun at.phase q wire d)
            (value_there turn comparison times at.begun at.phase q wire d) (source_view operand.source) g o
            (t.shows comparison m r q wire (grows_then b c m.signals u.grows g) o seen);
      }) made
