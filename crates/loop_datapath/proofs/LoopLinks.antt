-- The wires of a loop at a stage are put together from earlier ones.
use Rattle.std.proofs.Common.{◌≡◌, ℕ, List, length, max, sym, subst, ap, ◌∙◌, arith}
use Rattle.netlist.specs.declared.netlist.Signal.{Signal}
use Rattle.block_ir.specs.declared.code.ThreadCode.{ThreadCode}
use Rattle.operator_wires.specs.declared.words.Word.{Word}
use Rattle.operator_wires.specs.Built.{IsEarlier}
use Rattle.operator_wires.specs.Added.{NotAdds, BothAdds}
use Rattle.operator_wires.proofs.BuiltWires.{stands_after, wires_then}
use Rattle.block_datapath.specs.declared.registers.Registers.{Registers}
use Rattle.block_datapath.proofs.BlockWires.{registers_after}
use Rattle.block_datapath.proofs.LinkWires.{chains_after}
use Rattle.thread_slots.proofs.BitLists.{of_bits_later}
use Rattle.loop_datapath.specs.declared.times.LoopTimes.{LoopTimes}
use Rattle.loop_datapath.specs.declared.states.LoopStates.{LoopStates}
use Rattle.loop_datapath.specs.declared.stage_bits.StageBits.{StageBits}
use Rattle.loop_datapath.specs.States.{phase_bit}
use Rattle.loop_datapath.specs.Wired.{AreWords, AreBits, AreLoopBits, AreWordsAdded, AreStageBits, SetsFinalLinks, KeepsChainLinks, KeepsStageLinks, IsLoopAdded}
use Rattle.loop_datapath.proofs.AheadWires.{words_after}
use Rattle.loop_datapath.proofs.StateBits.{loop_states_after}

pub loop_linked : (code : ThreadCode) (registers : Registers) (l : ℕ) (times : LoopTimes) (s0 s1 s2 s3 s4 s5 s6 s7 s8 s9 : List Signal)
    (before after kept middle kept_after : List ℕ) (words given : List Word) (states : LoopStates) (bits : StageBits) (rounds : List ℕ) (end k stops last again : ℕ) →
    rounds ≡ states.rounds → given ≡ words → end ≡ phase_bit states k → length states.rounds ≡ max 2 times.stages → length bits.inside ≡ max 1 times.stages →
    AreLoopBits s0 s1 registers l times states → AreWordsAdded s1 s2 code registers rounds times.stages words → AreStageBits s2 s3 registers times given states bits →
    SetsFinalLinks s3 s4 code.variables registers given bits.is_last end before after → KeepsChainLinks s4 s5 registers given states kept middle →
    KeepsStageLinks s5 s6 registers times bits states middle kept_after → NotAdds s6 s7 1 bits.goes_round stops → BothAdds s7 s8 end stops last →
    BothAdds s8 s9 states.last bits.goes_round again →
    IsLoopAdded s0 s9 code registers l times before after kept kept_after (record { words = words; states = states; bits = bits; last = last; again = again })
loop_linked code registers l times s0 s1 s2 s3 s4 s5 s6 s7 s8 s9 before after kept middle kept_after words given states bits rounds end k stops last again is_rounds is_given is_end
    round_count inside_count told shown stages finals chains flags stopping lasting repeating base reads is low few variables values =
    let one = told base code.variables is low few in
    let registers_1 = registers_after s0 s1 base code.variables registers one.wires.grows is in
    let rounds_1 = subst (λ (z : List ℕ). AreBits s1 base z) (sym is_rounds) one.bits.rounds in
    let many : length rounds ≡ max 2 times.stages = ap length is_rounds ∙ round_count in
    let two = shown base reads registers_1 rounds_1 (omega (arith, many)) in
    let registers_2 = registers_after s1 s2 base code.variables registers two.wires.grows registers_1 in
    let states_2 = loop_states_after s1 s2 base states two.wires.grows one.bits in
    let given_2 = subst (λ (z : List Word). AreWords s2 base z) (sym is_given) two.words in
    let three = stages base code.variables (record { registers = registers_2; words = given_2; bits = states_2; round_count = round_count }) in
    let g3 = three.wires.grows in
    let registers_3 = registers_after s2 s3 base code.variables registers g3 registers_2 in
    let states_3 = loop_states_after s2 s3 base states g3 states_2 in
    let given_3 = words_after s2 s3 base given g3 given_2 in
    let w2 = wires_then base s0 s1 s2 one.wires two.wires in
    let w3 = wires_then base s0 s2 s3 w2 three.wires in
    let end_3 = subst (λ p. IsEarlier s3 base p 1) (sym is_end) (states_3.phases k) in
    let four = finals base (record { registers = registers_3; words = given_3 }) three.is_last end_3 (chains_after s0 s3 base registers.variables before w3.grows variables) in
    let g4 = four.wires.grows in
    let registers_4 = registers_after s3 s4 base code.variables registers g4 registers_3 in
    let states_4 = loop_states_after s3 s4 base states g4 states_3 in
    let w4 = wires_then base s0 s3 s4 w3 four.wires in
    let five = chains base code.variables registers_4 (words_after s3 s4 base given g4 given_3) states_4.phases (chains_after s0 s4 base registers.kept kept w4.grows values) in
    let g5 = five.wires.grows in
    let registers_5 = registers_after s4 s5 base code.variables registers g5 registers_4 in
    let states_5 = loop_states_after s4 s5 base states g5 states_4 in
    let w45 = wires_then base s3 s4 s5 four.wires five.wires in
    let inside_5 = of_bits_later base s3 s5 bits.inside w45.grows three.inside in
    let six = flags base code.variables registers_5 states_5.phases inside_5 inside_count five.chains in
    let w5 = wires_then base s0 s4 s5 w4 five.wires in
    let w6 = wires_then base s0 s5 s6 w5 six.wires in
    let w36 = wires_then base s3 s5 s6 w45 six.wires in
    let goes_6 = stands_after s3 s6 base bits.goes_round 1 w36.grows three.goes_round in
    let seven = stopping base goes_6 in
    let w37 = wires_then base s3 s6 s7 w36 seven.wires in
    let eight = lasting base (stands_after s3 s7 base end 1 w37.grows end_3) seven.stands in
    let w38 = wires_then base s3 s7 s8 w37 eight.wires in
    let states_8 = loop_states_after s3 s8 base states w38.grows states_3 in
    let nine = repeating base states_8.last (stands_after s3 s8 base bits.goes_round 1 w38.grows three.goes_round) in
    let w39 = wires_then base s3 s8 s9 w38 nine.wires in
    let w79 = wires_then base s7 s8 s9 eight.wires nine.wires in
    let w69 = wires_then base s6 s7 s9 seven.wires w79 in
    let w59 = wires_then base s5 s6 s9 six.wires w69 in
    let w49 = wires_then base s4 s5 s9 five.wires w59 in
    let w29 = wires_then base s2 s3 s9 three.wires w39 in
    record {
      wires = wires_then base s0 s3 s9 w3 w39;
      words = words_after s2 s9 base words w29.grows two.words;
      states = loop_states_after s3 s9 base states w39.grows states_3;
      inside = of_bits_later base s3 s9 bits.inside w39.grows three.inside;
      last = stands_after s8 s9 base last 1 nine.wires.grows eight.stands;
      again = nine.stands;
      chains = chains_after s4 s9 base registers.variables after w49.grows four.chains;
      kept = chains_after s6 s9 base registers.kept kept_after w69.grows six.chains;
    }
