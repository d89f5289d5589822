-- What stands for a whole thread, as a block needs it, and the other way round.
use Rattle.std.proofs.Common.{◌≡◌, ◌<◌, List, sym, subst}
use Rattle.std.proofs.lemmas.Option.{slice_get_within}
use Rattle.lists.proofs.Places.{get_there}
use Rattle.hls_ints.specs.Types.{IntegerType, width_of}
use Rattle.block_ir.specs.declared.code.ThreadCode.{ThreadCode}
use Rattle.netlist.specs.declared.netlist.Signal.{Signal}
use Rattle.operator_wires.specs.declared.words.Word.{Word}
use Rattle.operator_wires.specs.Gives.{Grows}
use Rattle.operator_wires.specs.Built.{Base, IsEarlier, AreWires, StandsAs, AddsWord}
use Rattle.operator_wires.proofs.BuiltWires.{stands_after, wires_then}
use Rattle.block_datapath.specs.declared.registers.Registers.{Registers}
use Rattle.block_datapath.specs.declared.operands.Given.{Given}
use Rattle.block_datapath.specs.Wired.{AreRegisters, AreSources}
use Rattle.thread_slots.specs.Wired.{ValuesStand, AreSlots}
use Rattle.thread_slots.proofs.Linked.{slots_later}

module _ (base : Base) (a : List Signal) (code : ThreadCode) (registers : Registers) (slots : AreSlots base a code registers) where
  pub registers_of : AreRegisters a base code.variables registers
  registers_of = record {
    stage = slots.stage;
    state = slots.state;
    beat = slots.beat;
    variables = λ x h listed.
        let less = slice_get_within registers.variables x h listed in
        let ty = get_there code.variables x (subst (λ n. x < n) slots.count less) in
        let says = slots.typed x h ty.0 listed ty.1 in
        record { ty = ty.0; declared = ty.1; says = says; stands = subst (λ n. IsEarlier a base h.register n) says (slots.variables x h listed) };
    kept = slots.kept;
    words = slots.words;
    units = slots.units;
  }

  pub sources_of : (values : List Given) → ValuesStand base a values → AreSources a base code.variables registers values
  sources_of values t = record { registers = registers_of; values = t }

-- ---- stores

word_later : (base : Base) (a b : List Signal) (word : Word) (ty : IntegerType) → Grows a b → StandsAs a base ty word → StandsAs b base ty word
word_later base a b word ty g t = record { says = t.says; sign = t.sign; stands = stands_after a b base word.place (width_of ty) g t.stands }

pub values_later : (base : Base) (a b : List Signal) (values : List Given) → Grows a b → ValuesStand base a values → ValuesStand base b values
values_later base a b values g t k v e = let f = t k v e in (f.0, word_later base a b v.word f.0 g f.1)

pub sources_later : (base : Base) (a b : List Signal) (code : ThreadCode) (registers : Registers) (values : List Given) → Grows a b → AreSlots base a code registers →
    ValuesStand base a values
    → AreSources b base code.variables registers values
sources_later base a b code registers values g slots t =
    sources_of base b code registers (slots_later base a b g code registers slots) values (λ k v e. let f = t k v e in (f.0, word_later base a b v.word f.0 g f.1))

-- two operands, one behind the other
pub operands_wired : (base : Base) (a b c : List Signal) (code : ThreadCode) (registers : Registers) (values : List Given) (types : List IntegerType) (s t : IntegerType)
    (x y : Word)
    → types ≡ code.variables → AreSlots base a code registers → ValuesStand base a values → (AreSources a base types registers values → AddsWord base a b s x)
    → (AreSources b base types registers values → AddsWord base b c t y) → AreWires base a c
operands_wired base a b c code registers values types s t x y same slots stand first second =
    let one = first (subst (λ (z : List IntegerType). AreSources a base z registers values) (sym same) (sources_of base a code registers slots values stand)) in
    let two = second (subst (λ (z : List IntegerType). AreSources b base z registers values) (sym same) (sources_later base a b code registers values one.wires.grows slots stand))
    in
    wires_then base a b c one.wires two.wires
