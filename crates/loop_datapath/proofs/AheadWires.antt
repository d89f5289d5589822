-- Wires of operands of iterations ahead: lemmas of each function that adds some.
use Rattle.std.proofs.Common.{◌≡◌, ℕ, false, List, slice_get, Some, sym, subst, arith}
use Rattle.std.specs.Prelude.{Result, IfOk}
use Rattle.netlist.specs.declared.netlist.Signal.{Signal}
use Rattle.hls_ints.specs.Types.{IntegerType, width_of}
use Rattle.block_ir.specs.declared.operand.Source.{Source}
use Rattle.block_ir.specs.declared.operand.Operand.{Operand}
use Rattle.block_ir.specs.declared.block.Final.{Final}
use Rattle.operator_wires.specs.declared.words.Word.{Word}
use Rattle.operator_wires.specs.Gives.{Grows}
use Rattle.operator_wires.specs.Built.{Base, Adds}
use Rattle.operator_wires.specs.Added.{ResizedAdds, IsConstant, IsConverted}
use Rattle.operator_wires.proofs.BuiltWires.{stands_after}
use Rattle.operator_wires.proofs.TypedWords.{at_least, at_most, word_of, word_after}
use Rattle.operator_wires.proofs.MadeWords.{of_ok}
use Rattle.thread_promise.specs.Types.{source_type, operand_type}
use Rattle.block_datapath.specs.declared.registers.Held.{Held}
use Rattle.block_datapath.specs.declared.registers.Registers.{Registers}
use Rattle.block_datapath.specs.Wired.{AreConverted, IsVariableWord}
use Rattle.block_datapath.proofs.BlockWires.{room, registers_after, word_stands_after}
use Rattle.loop_datapath.specs.Wired.{AreWords, AreBits, AreFound, IsWordAhead, IsValueAhead, IsWireWord, IsRegisterWord, IsLowWord, IsLeftWord}

-- ---- what stands goes on standing

pub words_after : (a b : List Signal) (base : Base) (words : List Word) → Grows a b → AreWords a base words → AreWords b base words
words_after a b base words g is k word e = let w = is k word e in (w.0, word_stands_after a b base w.0 word g w.1)

pub bits_after : (a b : List Signal) (base : Base) (bits : List ℕ) → Grows a b → AreBits a base bits → AreBits b base bits
bits_after a b base bits g is k place e = stands_after a b base place 1 g (is k place e)

pub found_after : (a b : List Signal) (base : Base) (types : List IntegerType) (registers : Registers) (words : List Word) → Grows a b →
    AreFound a base types registers words → AreFound b base types registers words
found_after a b base types registers words g is =
    record { registers = registers_after a b base types registers g is.registers; words = words_after a b base words g is.words }

-- ---- registers and wires

pub low_wired : (a b : List Signal) (held : Held) (ty : IntegerType) (w place : ℕ) (out : Word) → w ≡ width_of ty → ResizedAdds a b held.register held.width w false place →
    out.place ≡ place → out.width ≡ width_of ty → out.signed ≡ ty.signed → IsLowWord a b held ty out
low_wired a b held ty w place out wide u at says sign base e =
    let some = at_least ty in
    let most = at_most ty in
    word_of base a b ty place out
    (subst (λ (k : ℕ). Adds base a b k place) wide (u base e (omega (arith, some, wide)) (omega (arith, most, wide)) (λ no. absurd cc))) at says sign

pub kept_wired : {E : Type 0} (x : Result Word E) (a b : List Signal) (registers : Registers) (n : ℕ) (ty : IntegerType) (held : Held) →
    slice_get registers.kept n ≡ Some held → IfOk x (IsLowWord a b held ty) → IfOk x (IsRegisterWord a b registers ty)
kept_wired x a b registers n ty held e made =
    of_ok x (IsLowWord a b held ty) (IsRegisterWord a b registers ty) (λ out t base types is. t base (is.kept n held e)) made

pub unkept_wired : {E : Type 0} (x : Result Word E) (a b : List Signal) (registers : Registers) (ty : IntegerType) → IfOk x (IsConstant a b ty) →
    IfOk x (IsRegisterWord a b registers ty)
unkept_wired x a b registers ty made =
    of_ok x (IsConstant a b ty) (IsRegisterWord a b registers ty) (λ out t base types is. t base (room a base types registers is)) made

pub wire_wired : {E : Type 0} (x : Result Word E) (a b : List Signal) (words : List Word) (k : ℕ) (ty : IntegerType) (word : Word) → slice_get words k ≡ Some word →
    IfOk x (IsConverted a b word ty) → IfOk x (IsWireWord a b words ty)
wire_wired x a b words k ty word e made =
    of_ok x (IsConverted a b word ty) (IsWireWord a b words ty) (λ out t base first is. let w = is k word e in t base w.0 w.1) made

pub value_of_wire : {E : Type 0} (z : Result Word E) (a b : List Signal) (registers : Registers) (words : List Word) (ty : IntegerType) → IfOk z (IsWireWord a b words ty) →
    IfOk z (IsValueAhead a b registers words ty)
value_of_wire z a b registers words ty made =
    of_ok z (IsWireWord a b words ty) (IsValueAhead a b registers words ty) (λ out t types base is. t base (room a base types registers is.registers) is.words) made

pub value_of_register : {E : Type 0} (z : Result Word E) (a b : List Signal) (registers : Registers) (words : List Word) (ty : IntegerType) →
    IfOk z (IsRegisterWord a b registers ty) → IfOk z (IsValueAhead a b registers words ty)
value_of_register z a b registers words ty made =
    of_ok z (IsRegisterWord a b registers ty) (IsValueAhead a b registers words ty) (λ out t types base is. t base types is.registers) made

-- ---- sources

module _ (types : List IntegerType) (registers : Registers) (words : List Word) where
  pub constant_wired : {E : Type 0} (z : Result Word E) (a b : List Signal) (source known : Source) → source ≡ known → IfOk z (IsConstant a b (source_type known)) →
      IfOk z (IsWordAhead a b types registers words (source_type source))
  constant_wired z a b source known e made =
      subst (λ (s : Source). IfOk z (IsWordAhead a b types registers words (source_type s))) (sym e)
      (of_ok z (IsConstant a b (source_type known)) (IsWordAhead a b types registers words (source_type known))
      (λ out t base is. t base (room a base types registers is.registers)) made)

  pub value_wired : {E : Type 0} (z : Result Word E) (a b : List Signal) (source known : Source) → source ≡ known →
      IfOk z (IsValueAhead a b registers words (source_type known)) → IfOk z (IsWordAhead a b types registers words (source_type source))
  value_wired z a b source known e made =
      subst (λ (s : Source). IfOk z (IsWordAhead a b types registers words (source_type s))) (sym e)
      (of_ok z (IsValueAhead a b registers words (source_type known)) (IsWordAhead a b types registers words (source_type known)) (λ out t. t types) made)

  pub variable_wired : {E : Type 0} (z : Result Word E) (a b : List Signal) (source known : Source) → source ≡ known →
      IfOk z (IsVariableWord a b types registers (source_type known)) → IfOk z (IsWordAhead a b types registers words (source_type source))
  variable_wired z a b source known e made =
      subst (λ (s : Source). IfOk z (IsWordAhead a b types registers words (source_type s))) (sym e)
      (of_ok z (IsVariableWord a b types registers (source_type known)) (IsWordAhead a b types registers words (source_type known)) (λ out t base is. t base is.registers) made)

  pub left_wired : {E : Type 0} (z : Result Word E) (a b c : List Signal) (source known : Source) (f : Final) (word : Word) → source ≡ known →
      IsWordAhead a b types registers words (source_type f.value.source) word → IfOk z (IsLeftWord b c f word (source_type known)) →
      IfOk z (IsWordAhead a c types registers words (source_type source))
  left_wired z a b c source known f word e t made =
      subst (λ (s : Source). IfOk z (IsWordAhead a c types registers words (source_type s))) (sym e)
      (of_ok z (IsLeftWord b c f word (source_type known)) (IsWordAhead a c types registers words (source_type known))
      (λ out u base is.
      let first = t base is in
      word_after base a b c (source_type known) out first.wires (u base first.word)) made)

  pub operand_wired : {E : Type 0} (z : Result Word E) (a b c : List Signal) (operand : Operand) (word : Word) →
      IsWordAhead a b types registers words (source_type operand.source) word → IfOk z (AreConverted b c word operand.conversions) →
      IfOk z (IsWordAhead a c types registers words (operand_type operand))
  operand_wired z a b c operand word t made =
      of_ok z (AreConverted b c word operand.conversions) (IsWordAhead a c types registers words (operand_type operand))
      (λ out u base is.
      let first = t base is in
      word_after base a b c (operand_type operand) out first.wires (u base (source_type operand.source) first.word)) made

pub left_word_wired : {E : Type 0} (z : Result Word E) (a b c : List Signal) (f : Final) (word whole : Word) (ty : IntegerType) → AreConverted a b word f.value.conversions whole →
    IfOk z (IsConverted b c whole ty) → IfOk z (IsLeftWord a c f word ty)
left_word_wired z a b c f word whole ty t made =
    of_ok z (IsConverted b c whole ty) (IsLeftWord a c f word ty)
    (λ out u base is.
    let first = t base (source_type f.value.source) is in
    word_after base a b c ty out first.wires (u base (operand_type f.value) first.word)) made
