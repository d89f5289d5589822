-- Writes of arrays in a loop: lemmas of the function that tells one.
use Rattle.std.proofs.Common.{◌≡◌, ℕ, zero, suc, false, List, [], ◌∷◌, slice_index_or, sym, subst, refl}
use Rattle.netlist.specs.declared.netlist.Signal.{Signal}
use Rattle.verilog_meaning.specs.Readings.{width}
use Rattle.hls_ints.specs.Words.{word_and}
use Rattle.hls_ints.specs.Types.{IntegerType}
use Rattle.block_ir.specs.declared.operand.Operand.{Operand}
use Rattle.block_ir.specs.declared.block.Block.{Block}
use Rattle.block_ir.specs.declared.code.ThreadCode.{ThreadCode}
use Rattle.operator_wires.specs.declared.words.Word.{Word}
use Rattle.operator_wires.specs.Gives.{Gives}
use Rattle.operator_wires.specs.Built.{Base, IsEarlier}
use Rattle.operator_wires.specs.Added.{BothAdds}
use Rattle.operator_wires.proofs.PutSignals.{grows_then}
use Rattle.operator_wires.proofs.BuiltWires.{stands_after, wires_then}
use Rattle.block_datapath.specs.declared.registers.Registers.{Registers}
use Rattle.block_datapath.proofs.BlockWires.{word_stands_after}
use Rattle.thread_slots.specs.Bits.{HasBit}
use Rattle.thread_slots.proofs.BitLists.{has_both}
use Rattle.loop_datapath.specs.declared.times.OperationTime.{OperationTime}
use Rattle.loop_datapath.specs.declared.times.LoopTimes.{LoopTimes}
use Rattle.loop_datapath.specs.declared.states.LoopStates.{LoopStates}
use Rattle.loop_datapath.specs.declared.stage_bits.StageBits.{StageBits}
use Rattle.loop_datapath.specs.States.{phase_bit}
use Rattle.loop_datapath.specs.Ahead.{ShowsOperandIn}
use Rattle.loop_datapath.specs.Wired.{AreBits, AreFound, IsWordIn, IsWriteAdded}
use Rattle.loop_datapath.specs.Leave.{ShowsWrite}
use Rattle.loop_datapath.proofs.AheadWires.{bits_after, found_after}
use Rattle.loop_datapath.proofs.BitGates.{both_off}

-- a bit of a list, or another one
bit_or : (a : List Signal) (base : Base) (bits : List ℕ) (k other : ℕ) → AreBits a base bits → IsEarlier a base other 1 → IsEarlier a base (slice_index_or bits k other) 1
bit_or a base [] k other are is = is
bit_or a base (x ∷ bits) zero other are is = are 0 x refl
bit_or a base (x ∷ bits) (suc k) other are is = bit_or a base bits k other (λ j place e. are (suc j) place e) is

module _ (code : ThreadCode) (registers : Registers) (turn : Block) (times : LoopTimes) (words : List Word) (types : List IntegerType) (same : types ≡ code.variables)
    (bits : StageBits) (states : LoopStates) (time : OperationTime) (number : ℕ) (place source : Operand) where
  pub write_shown : (a b c d : List Signal) (here runs condition : ℕ) (index value : Word) → here ≡ phase_bit states time.phase →
      runs ≡ slice_index_or bits.inside time.stage states.never →
      ShowsOperandIn a b registers types turn times words states.rounds time.stage time.phase place index →
      ShowsOperandIn b c registers types turn times words states.rounds time.stage time.phase source value →
      Gives c d condition 1 (λ m r. word_and (width m here) (r.signal here) (r.signal runs)) →
      ShowsWrite a d code registers turn times words bits states time number place source
      (record { array = number; condition = condition; index = index; value = value })
  write_shown a b c d here runs condition index value at in_stage t u v = record {
    grows = grows_then a b d t.grows (grows_then b c d u.grows v.grows);
    array = refl;
    condition = λ m r x y g o one two.
        has_both c d condition here runs v m r x y g o (subst (λ k. HasBit m r k x) (sym at) one) (subst (λ k. HasBit m r k y) (sym in_stage) two);
    rests = λ m r g o off. both_off c d condition here runs m r v g o (subst (λ k. HasBit m r k false) (sym at) off);
    index = λ comparison m r q wire begun g.
        (subst (λ (l : List IntegerType). ShowsOperandIn a b registers l turn times words states.rounds time.stage time.phase place index) same t).shows
        comparison m r q wire begun (grows_then b c m.signals u.grows (grows_then c d m.signals v.grows g));
    value = λ comparison m r q wire begun g.
        (subst (λ (l : List IntegerType). ShowsOperandIn b c registers l turn times words states.rounds time.stage time.phase source value) same u).shows
        comparison m r q wire begun (grows_then c d m.signals v.grows g);
  }

  pub write_wired : (a b c d : List Signal) (here runs condition : ℕ) (s t : IntegerType) (index value : Word) → here ≡ phase_bit states time.phase →
      runs ≡ slice_index_or bits.inside time.stage states.never → IsWordIn a b types registers words states.rounds times.stages s index →
      IsWordIn b c types registers words states.rounds times.stages t value → BothAdds c d here runs condition →
      IsWriteAdded a d code.variables registers times words bits states s t (record { array = number; condition = condition; index = index; value = value })
  write_wired a b c d here runs condition s t index value at in_stage one two v base sources inside stands many =
      let found = subst (λ (l : List IntegerType). AreFound a base l registers words) (sym same) sources in
      let first = one base found stands.rounds many in
      let grown = first.wires.grows in
      let next = two base (found_after a b base types registers words grown found) (bits_after a b base states.rounds grown stands.rounds) many in
      let wires = wires_then base a b c first.wires next.wires in
      let phase = subst (λ k. IsEarlier a base k 1) (sym at) (stands.phases time.phase) in
      let stage = subst (λ k. IsEarlier a base k 1) (sym in_stage) (bit_or a base bits.inside time.stage states.never inside stands.never) in
      let both = v base (stands_after a c base here 1 wires.grows phase) (stands_after a c base runs 1 wires.grows stage) in
      record {
        wires = wires_then base a c d wires both.wires;
        condition = both.stands;
        index = word_stands_after b d base s index (grows_then b c d next.wires.grows both.wires.grows) first.word;
        value = word_stands_after c d base t value both.wires.grows next.word;
      }
