use Rattle.std.proofs.Common.{◌≡◌, [], ◌∷◌, ◌++◌, get_or, sym, zero-add, arith}
use Rattle.std.proofs.lemmas.Grind.{common_steps}
use Rattle.netlist_text.specs.LaidOut as laid
use Rattle.netlist_text.proofs.Steps.{places_numbers}
use Rattle.netlist_text.proofs.items.word_constants.Goals as goal

pub loop-word-preserved : goal.loop-word-preserved
loop-word-preserved c =
    let value = get_or c.as_slice-value-items.result.now c.loop-word.word 0 in
    let put : c.push.new.self ≡ c.loop-word.out ++ laid.word_constant c.args.memory.now c.loop-word.word value ∷ [] = grind (arith, common_steps) in
    places_numbers (laid.word_constant c.args.memory.now) 0 c.args.out.now _ _ c.args.memory.now.initial c.as_slice-value-items.result.now c.loop-word.word c.loop-word.word
    c.as_slice-value-items.ensures c.loop-word.invariant put (sym (zero-add c.loop-word.word)) c.loop-word-test.true
