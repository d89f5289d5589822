-- Links of the registers for values in a loop are wires: lemmas of each function that adds one.
use Rattle.std.proofs.Common.{◌≡◌, ℕ, ◌-◌, ◌<◌, false, List, slice_get, slice_index, Some, sym, ap, subst, arith}
use Rattle.std.proofs.lemmas.Nat.{pow_pos}
use Rattle.netlist.specs.declared.netlist.Signal.{Signal}
use Rattle.operator_wires.specs.declared.words.Word.{Word}
use Rattle.operator_wires.specs.Built.{IsEarlier}
use Rattle.operator_wires.specs.Added.{ResizedAdds, ConstantAdds}
use Rattle.operator_wires.proofs.BuiltWires.{stands_after, wires_then}
use Rattle.operator_wires.proofs.TypedWords.{own}
use Rattle.block_datapath.specs.declared.registers.Held.{Held}
use Rattle.block_datapath.specs.declared.registers.Registers.{Registers}
use Rattle.block_datapath.specs.Wired.{HasWidthAt, IsLinked}
use Rattle.block_datapath.proofs.BlockWires.{room, registers_after}
use Rattle.block_datapath.proofs.LinkWires.{chains_after, links_none}
use Rattle.thread_slots.proofs.BitLists.{of_bits_later}
use Rattle.loop_datapath.specs.declared.times.LoopTimes.{LoopTimes}
use Rattle.loop_datapath.specs.declared.states.LoopStates.{LoopStates}
use Rattle.loop_datapath.specs.declared.stage_bits.StageBits.{StageBits}
use Rattle.loop_datapath.specs.States.{phase_bit}
use Rattle.loop_datapath.specs.Wired.{IsCopy, KeepsCopyLinks, KeepsChainLinks, KeepsBitLinks, KeepsStageLinks}
use Rattle.loop_datapath.proofs.AheadWires.{words_after}
use Rattle.loop_datapath.proofs.RoundWires.{bit_there}

-- ---- what a register gets

pub word_copied : (a b : List Signal) (registers : Registers) (word : Word) (w place : ℕ) → ResizedAdds a b word.place word.width w false place → IsCopy a b registers word w place
word_copied a b registers word w place t base types is stands low high = t base stands low high (λ no. absurd cc)

pub held_copied : (a b : List Signal) (registers : Registers) (word : Word) (w place n : ℕ) (held : Held) → slice_get registers.kept n ≡ Some held →
    ResizedAdds a b held.register held.width w false place → IsCopy a b registers word w place
held_copied a b registers word w place n held listed t base types is stands low high = t base (is.kept n held listed) low high (λ no. absurd cc)

pub none_copied : (a b : List Signal) (registers : Registers) (word : Word) (w place : ℕ) → ConstantAdds a b w 0 place → IsCopy a b registers word w place
none_copied a b registers word w place t base types is stands low high = t base (room a base types registers is) low high (pow_pos w)

-- ---- links

same_width : (registers : Registers) (n : ℕ) (held : Held) → slice_get registers.kept n ≡ Some held → HasWidthAt registers.kept n held.width
same_width registers n held listed k e = let one : k ≡ held = cc in ap (λ (z : Held). z.width) one

pub copy_none : (a : List Signal) (registers : Registers) (word : Word) (here : ℕ) (before : List ℕ) → KeepsCopyLinks a a registers word here before before
copy_none a registers word here before base types is stands on chains = links_none a base registers.kept before chains

pub copy_wired : (a b c : List Signal) (registers : Registers) (word : Word) (here source n : ℕ) (before after : List ℕ) (held : Held) → slice_get registers.kept n ≡ Some held →
    IsCopy a b registers word held.width source → IsLinked b c n held.width here source before after → KeepsCopyLinks a c registers word here before after
copy_wired a b c registers word here source n before after held listed t u base types is stands on chains =
    let kept = is.kept n held listed in
    let first = t base types is stands kept.low kept.high in
    let more = first.wires.grows in
    let link = u base registers.kept (chains_after a b base registers.kept before more chains) (same_width registers n held listed) (stands_after a b base here 1 more on)
    first.stands in
    record { wires = wires_then base a b c first.wires link.wires; chains = link.chains }

pub copies_wired : (a b c : List Signal) (registers : Registers) (word : Word) (here : ℕ) (before middle after : List ℕ) → KeepsCopyLinks a b registers word here before middle →
    KeepsCopyLinks b c registers word here middle after → KeepsCopyLinks a c registers word here before after
copies_wired a b c registers word here before middle after t u base types is stands on chains =
    let first = t base types is stands on chains in
    let more = first.wires.grows in
    let next = u base types (registers_after a b base types registers more is) (stands_after a b base word.place word.width more stands) (stands_after a b base here 1 more on)
    first.chains in
    record { wires = wires_then base a b c first.wires next.wires; chains = next.chains }

pub chains_none : (a : List Signal) (registers : Registers) (words : List Word) (states : LoopStates) (before : List ℕ) → KeepsChainLinks a a registers words states before before
chains_none a registers words states before base types is stand phases chains = links_none a base registers.kept before chains

pub chains_wired : (a b c : List Signal) (registers : Registers) (words : List Word) (states : LoopStates) (before middle after : List ℕ) (n here k : ℕ) (word : Word) →
    slice_get words n ≡ Some word → here ≡ phase_bit states k → KeepsChainLinks a b registers words states before middle →
    KeepsCopyLinks b c registers word here middle after → KeepsChainLinks a c registers words states before after
chains_wired a b c registers words states before middle after n here k word listed is_here t u base types is stand phases chains =
    let first = t base types is stand phases chains in
    let more = first.wires.grows in
    let own_word = words_after a b base words more stand n word listed in
    let next = u base types (registers_after a b base types registers more is) (own base b own_word.0 word own_word.1)
    (subst (λ p. IsEarlier b base p 1) (sym is_here) (stands_after a b base (phase_bit states k) 1 more (phases k))) first.chains in
    record { wires = wires_then base a b c first.wires next.wires; chains = next.chains }

-- ---- bits

pub bit_none : (a : List Signal) (registers : Registers) (condition bit : ℕ) (before : List ℕ) → KeepsBitLinks a a registers before before condition bit
bit_none a registers condition bit before base types is on stands chains = links_none a base registers.kept before chains

pub bit_wired : (a b c : List Signal) (registers : Registers) (condition bit source n : ℕ) (before after : List ℕ) (held : Held) → slice_get registers.kept n ≡ Some held →
    ResizedAdds a b bit 1 held.width false source → IsLinked b c n held.width condition source before after → KeepsBitLinks a c registers before after condition bit
bit_wired a b c registers condition bit source n before after held listed t u base types is on stands chains =
    let kept = is.kept n held listed in
    let first = t base stands kept.low kept.high (λ no. absurd cc) in
    let more = first.wires.grows in
    let link = u base registers.kept (chains_after a b base registers.kept before more chains) (same_width registers n held listed) (stands_after a b base condition 1 more on)
    first.stands in
    record { wires = wires_then base a b c first.wires link.wires; chains = link.chains }

pub stage_wired_first : (a b : List Signal) (registers : Registers) (times : LoopTimes) (bits : StageBits) (states : LoopStates) (before after : List ℕ) (condition bit k : ℕ) →
    condition ≡ phase_bit states k → bit ≡ slice_index bits.inside 0 → KeepsBitLinks a b registers before after condition bit →
    KeepsStageLinks a b registers times bits states before after
stage_wired_first a b registers times bits states before after condition bit k is_condition is_bit t base types is phases inside many chains =
    t base types is (subst (λ p. IsEarlier a base p 1) (sym is_condition) (phases k))
    (subst (λ p. IsEarlier a base p 1) (sym is_bit) (bit_there a base bits.inside 0 inside (omega (arith, many)))) chains

pub stage_wired_more : (a b c : List Signal) (registers : Registers) (times : LoopTimes) (bits : StageBits) (states : LoopStates) (before middle after : List ℕ)
    (n condition bit k : ℕ) → n < times.stages → condition ≡ phase_bit states k → bit ≡ slice_index bits.inside (n - 1) →
    KeepsStageLinks a b registers times bits states before middle → KeepsBitLinks b c registers middle after condition bit →
    KeepsStageLinks a c registers times bits states before after
stage_wired_more a b c registers times bits states before middle after n condition bit k less is_condition is_bit t u base types is phases inside many chains =
    let first = t base types is phases inside many chains in
    let more = first.wires.grows in
    let on = stands_after a b base (phase_bit states k) 1 more (phases k) in
    let value = bit_there b base bits.inside (n - 1) (of_bits_later base a b bits.inside more inside) (omega (arith, many)) in
    let next = u base types (registers_after a b base types registers more is) (subst (λ p. IsEarlier b base p 1) (sym is_condition) on)
    (subst (λ p. IsEarlier b base p 1) (sym is_bit) value) first.chains in
    record { wires = wires_then base a b c first.wires next.wires; chains = next.chains }
