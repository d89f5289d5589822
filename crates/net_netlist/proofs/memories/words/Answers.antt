use Rattle.std.proofs.Common.{◌≡◌, ◌∙◌, ◌+◌, ◌-◌, ◌++◌, ◌∷◌, [], ap, sym, suc, Some, append_assoc, arith}
use Rattle.netlist.specs.NetlistOf.{initial_of, words_of}
use Rattle.net_netlist.proofs.memories.words.Goals as goal

pub loop-word-preserved : goal.loop-word-preserved
loop-word-preserved c =
    let constants = c.args.initials.now in
    let x = c.args.name.now in
    let w = c.loop-word.word in
    let lt = c.loop-word-test.true in
    let so_far = c.loop-word.words in
    let s : c.args.count - c.loop-word.word ≡ suc (c.args.count - (c.loop-word.word + 1)) = omega (arith, lt) in
    let rest = words_of constants x (w + 1) (c.args.count - (w + 1)) in
    ap (λ l. l ++ rest) (c.in_ok-push.ensures.ok ∙ ap (λ v. so_far ++ v ∷ []) c.number.ensures)
    ∙ append_assoc so_far (initial_of constants x (Some w) ∷ []) rest
    ∙ ap (λ k. so_far ++ words_of constants x w k) (sym s) ∙ c.loop-word.invariant
