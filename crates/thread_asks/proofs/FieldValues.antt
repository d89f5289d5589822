-- The fields of a request: the number of a site, and values.
use Rattle.std.proofs.Common.{◌≡◌, ◌≢◌, ℕ, suc, ◌+◌, ◌<◌, ◌≤◌, Bool, true, false, not, ◌&&◌, nat_eq, if◌then◌else◌, List, length, slice_get, Some, ℤ, refl, sym, ap, subst, ◌∙◌}
use Rattle.std.proofs.Common.{arith, ⊎_elim}
use Rattle.std.specs.Prelude.{Result, IfOk}
use Rattle.std.proofs.lemmas.Bool.{cases_eq}
use Rattle.hls_ints.specs.Residues.{residue_of}
use Rattle.hls_ints.specs.Types.{IntegerType, HasType, wrapped, long_int}
use Rattle.hls_ints.proofs.Conversions.{residue_of-wrapped}
use Rattle.block_ir.specs.declared.code.ActOperand.{ActOperand}
use Rattle.block_ir.specs.declared.code.ActOperand.TheVariants as act_operand
use Rattle.block_ir.specs.declared.code.ThreadCode.{ThreadCode}
use Rattle.netlist.specs.declared.netlist.Signal.{Signal}
use Rattle.netlist.specs.declared.netlist.Module.{Module}
use Rattle.verilog_meaning.specs.Readings.{Reading}
use Rattle.planned_block.proofs.Bits.{same_is, other_is}
use Rattle.circuit.specs.Modules.{Obeys}
use Rattle.operator_wires.specs.declared.words.Word.{Word}
use Rattle.operator_wires.specs.Gives.{Grows, Gives}
use Rattle.operator_wires.specs.Words.{IsWord, Holds, Becomes, Resizes, resized_word}
use Rattle.operator_wires.proofs.PutSignals.{grows_refl, grows_then}
use Rattle.block_ir.specs.Asked.{act_value}
use Rattle.block_datapath.specs.declared.registers.Registers.{Registers}
use Rattle.block_datapath.specs.Seen.{ShowsVariable}
use Rattle.block_datapath.specs.Chains.{next_number, is_set, SetsNext}
use Rattle.block_datapath.proofs.OperandWords.{own_word}
use Rattle.operator_wires.specs.Built.{Base, IsEarlier, StandsAs, AddsWord}
use Rattle.operator_wires.specs.Added.{ChoiceAdds}
use Rattle.operator_wires.proofs.BuiltWires.{stands_after, wires_none, wires_then, room_of}
use Rattle.operator_wires.proofs.MadeWords.{of_two}
use Rattle.thread_slots.specs.Wired.{LinkFields, AreSlots, KeepsFields}
use Rattle.thread_asks.proofs.Taken.{values_linked}
use Rattle.thread_asks.specs.Fields.{IsTypedActOperand, act_type, ShowsActOperand, AsksValues, AsksValue, AsksNumber, NamesObject}

-- ---- operands

pub constant_act : {E : Type 0} (x : Result Word E) (a b : List Signal) (code : ThreadCode) (registers : Registers) (operand : ActOperand) (ty : IntegerType) (v z : ℤ) →
    (HasType ty v → z ≡ v)
    → operand ≡ act_operand.Constant ty v → IfOk x (Holds a b ty (wrapped ty z))
    → IfOk x (λ out. (base : Base) → base.first ≤ length a → AddsWord base a b ty out) → IfOk x (ShowsActOperand code registers a b operand)
constant_act x a b code registers operand ty v z same e made wired =
    subst (λ (s : ActOperand). IfOk x (ShowsActOperand code registers a b s)) (sym e)
    (of_two x (Holds a b ty (wrapped ty z)) (λ out. (base : Base) → base.first ≤ length a → AddsWord base a b ty out)
    (ShowsActOperand code registers a b (act_operand.Constant ty v))
    (λ out t u. record {
      grows = t.grows;
      shows = λ m r variables g o seen typed. own_word m r out ty v typed (subst (λ (k : ℤ). IsWord m r out ty (wrapped ty k)) (same typed) (t.shows m r g o));
      wired = λ base slots. u base (room_of a base registers.stage.register registers.stage.width slots.stage);
    }) made wired)

pub variable_act : {E : Type 0} (x : Result Word E) (a b : List Signal) (code : ThreadCode) (registers : Registers) (operand : ActOperand) (k : ℕ) (ty : IntegerType)
    (types : List IntegerType)
    → types ≡ code.variables → operand ≡ act_operand.Variable k ty → IfOk x (ShowsVariable a b registers types k ty)
    → IfOk x (λ out. (base : Base) → AreSlots base a code registers → AddsWord base a b ty out) → IfOk x (ShowsActOperand code registers a b operand)
variable_act x a b code registers operand k ty types same e made wired =
    subst (λ (s : ActOperand). IfOk x (ShowsActOperand code registers a b s)) (sym e)
    (of_two x (ShowsVariable a b registers code.variables k ty) (λ out. (base : Base) → AreSlots base a code registers → AddsWord base a b ty out)
    (ShowsActOperand code registers a b (act_operand.Variable k ty))
    (λ out t u. record { grows = t.grows; shows = λ m r variables g o seen typed. t.shows m r (variables k) g o (seen k ty typed); wired = u })
    (subst (λ (z : List IntegerType). IfOk x (ShowsVariable a b registers z k ty)) same made) wired)

-- ---- fields

off_link : (c : Bool) (S O : ℕ) → (if c && false then S else O) ≡ O
off_link true S O = refl
off_link false S O = refl

-- a link whose bit is not set, and one of another register
module _ (a b : List Signal) (before after : List ℕ) (number condition source : ℕ) (t : SetsNext a b before after number condition source) (m : Module) (r : Reading)
    (g : Grows b m.signals)
    (o : Obeys m r) (x : ℕ) (less : x < length before) where
  pub link_off : r.signal condition ≡ 0 → next_number r after x ≡ next_number r before x
  link_off unset =
      t.shows m r x g o less
      ∙ ap (λ n. if nat_eq x number && not (nat_eq n 0) then r.signal source else next_number r before x) unset
      ∙ off_link (nat_eq x number) (r.signal source) (next_number r before x)

  pub link_other : x ≢ number → next_number r after x ≡ next_number r before x
  link_other ne = t.shows m r x g o less ∙ ap (λ c. if c && is_set r condition then r.signal source else next_number r before x) (other_is x number ne)

  pub link_on : x ≡ number → r.signal condition ≡ 1 → next_number r after x ≡ r.signal source
  link_on same hit =
      t.shows m r x g o less
      ∙ ap (λ c. if c && is_set r condition then r.signal source else next_number r before x) (same_is x number same)
      ∙ ap (λ n. if not (nat_eq n 0) then r.signal source else next_number r before x) hit

pub number_asked : (a b c d : List Signal) (at : ℕ) (before after : List ℕ) (site_width site number whole source : ℕ) → number ≡ site → Gives a b whole 32 (λ m r. number) →
    Resizes b c whole 32 site_width false source
    → SetsNext c d before after 0 at source
    → ((base : Base) → IsEarlier a base at 1 → 1 ≤ site_width → site_width ≤ 64 → LinkFields base a site_width before → KeepsFields base a d site_width after)
    → AsksNumber a d at before after site_width site
number_asked a b c d at before after site_width site number whole source same t u v wired = record {
  wired = wired;
  grows = grows_then a b d t.grows (grows_then b c d u.grows v.grows);
  count = v.count;
  rests = λ m r x g o unset less. link_off c d before after 0 at source v m r g o x less unset;
  asks = λ m r g o hit some.
      let later = grows_then c d m.signals v.grows g in
      let first = grows_then b c m.signals u.grows later in
      link_on c d before after 0 at source v m r g o 0 some refl hit ∙ u.shows m r later o (t.wide m first) ∙ ap (resized_word false 32 site_width) (t.shows m r first o ∙ same);
}

pub object_named : (a b c d : List Signal) (code : ThreadCode) (registers : Registers) (at before after : ℕ) (v : ActOperand) (word wide : Word)
    → ShowsActOperand code registers a b v word → Becomes b c word long_int (wrapped long_int) wide
    → Gives c d after 64 (λ m r. if nat_eq (r.signal at) 0 then r.signal before else r.signal wide.place)
    → ((base : Base) (from : IntegerType) → StandsAs b base from word → AddsWord base b c long_int wide) → ChoiceAdds c d 64 at wide.place before after
    → NamesObject code registers a d at before v after
object_named a b c d code registers at before after v word wide t u w converts chooses = record {
  grows = grows_then a b d t.grows (grows_then b c d u.grows w.grows);
  rests = λ m r g o unset. w.shows m r g o ∙ ap (λ n. if nat_eq n 0 then r.signal before else r.signal wide.place) unset;
  names = λ m r variables g o hit seen typed.
      let later = grows_then c d m.signals w.grows g in
      let first = t.shows m r variables (grows_then b c m.signals u.grows later) o seen typed in
      let long = u.shows m r (act_type v) (act_value variables v) later o first in
      w.shows m r g o ∙ ap (λ n. if nat_eq n 0 then r.signal before else r.signal wide.place) hit ∙ long.shows ∙ residue_of-wrapped long_int (act_value variables v);
  wired = λ base slots bit there.
      let own = t.wired base slots in
      let long = converts base (act_type v) own.word in
      let wires = wires_then base a b c own.wires long.wires in
      let last = chooses base (stands_after a c base at 1 wires.grows bit) long.word.stands (stands_after a c base before 64 wires.grows there) in
      record { wires = wires_then base a c d wires last.wires; stands = last.stands };
}

pub value_asked : (a b c d : List Signal) (code : ThreadCode) (registers : Registers) (at : ℕ) (before after : List ℕ) (j number : ℕ) (v : ActOperand) (word wide : Word)
    → number ≡ suc j → ShowsActOperand code registers a b v word → Becomes b c word long_int (wrapped long_int) wide → SetsNext c d before after number at wide.place
    → ((base : Base) (site_width : ℕ) → AreSlots base a code registers → IsEarlier a base at 1 → LinkFields base a site_width before → KeepsFields base a d site_width after)
    → AsksValue code registers a d at before after j v
value_asked a b c d code registers at before after j number v word wide e t u w wired = record {
  wired = wired;
  grows = grows_then a b d t.grows (grows_then b c d u.grows w.grows);
  count = w.count;
  rests = λ m r x g o unset less. link_off c d before after number at wide.place w m r g o x less unset;
  others = λ m r x g o ne less. link_other c d before after number at wide.place w m r g o x less (λ same. ne (same ∙ e));
  asks = λ m r variables g o hit seen typed less.
      let later = grows_then c d m.signals w.grows g in
      let first = t.shows m r variables (grows_then b c m.signals u.grows later) o seen typed in
      let long = u.shows m r (act_type v) (act_value variables v) later o first in
      link_on c d before after number at wide.place w m r g o (suc j) less (sym e) hit ∙ long.shows ∙ residue_of-wrapped long_int (act_value variables v);
}

pub values_none : (a : List Signal) (code : ThreadCode) (registers : Registers) (at : ℕ) (before : List ℕ) (values : List ActOperand) →
    AsksValues code registers a a at before before values 0
values_none a code registers at before values = record {
  grows = grows_refl a;
  count = refl;
  rests = λ m r x g o unset less. refl;
  first = λ m r g o some. refl;
  asks = λ m r variables j v g o hit seen below. absurd (omega arith);
  wired = λ base site_width slots bit linked. record { wires = wires_none base a; linked = linked };
}

pub values_more : (a b c : List Signal) (code : ThreadCode) (registers : Registers) (at : ℕ) (before middle after : List ℕ) (values : List ActOperand) (n : ℕ) (v : ActOperand)
    → AsksValues code registers a b at before middle values n → slice_get values n ≡ Some v → AsksValue code registers b c at middle after n v
    → AsksValues code registers a c at before after values (n + 1)
values_more a b c code registers at before middle after values n v t listed u = record {
  grows = grows_then a b c t.grows u.grows;
  count = u.count ∙ t.count;
  rests = λ m r x g o unset less. u.rests m r x g o unset (inside x less) ∙ t.rests m r x (back m g) o unset less;
  first = λ m r g o some. u.others m r 0 g o (λ e. absurd cc) (inside 0 some) ∙ t.first m r (back m g) o some;
  asks = λ m r variables j w g o hit seen below there typed less. ⊎_elim
      (λ (same : j ≡ n).
      let one : v ≡ w = (let h = ap (slice_get values) same in cc) in
      ap (λ k. next_number r after (suc k)) same
      ∙ u.asks m r variables g o hit seen (subst (λ (z : ActOperand). IsTypedActOperand code z) (sym one) typed)
      (subst (λ (k : ℕ). suc k < length middle) same (inside (suc j) less))
      ∙ ap (λ (z : ActOperand). residue_of 64 (act_value variables z)) one)
      (λ (ne : j ≢ n).
      let smaller : j < n = omega arith in
      u.others m r (suc j) g o (λ e. ne (let h : j ≡ n = omega arith in h)) (inside (suc j) less) ∙ t.asks m r variables j w (back m g) o hit seen smaller there typed less)
      (cases_eq j n);
  wired = values_linked a b c code registers at before middle after t.wired u.wired;
}
  where
    back : (m : Module) → Grows c m.signals → Grows b m.signals
    back m g = grows_then b c m.signals u.grows g

    inside : (x : ℕ) → x < length before → x < length middle
    inside x less = subst (λ (z : ℕ). x < z) (sym t.count) less
