use Rattle.std.proofs.Common.{◌≡◌, ◌+◌, ◌∙◌, ◌++◌, [], ◌∷◌, sym, ap, take}
use Rattle.std.specs.Option.{option_copied}
use Rattle.std.proofs.lemmas.List.{take_more}
use Rattle.loop_datapath.specs.Ahead.{last_final}
use Rattle.loop_datapath.proofs.LastFinals.{last_taken, last_kept}
use Rattle.loop_datapath.proofs.operands.last_final.Goals as goal
use Rattle.loop_datapath.proofs.operands.last_final.Goals.{then-one-number, else-one-number}

pub loop-one-preserved : goal.loop-one-preserved
loop-one-preserved c =
    let fs = c.args.finals.now in
    let i = c.loop-one.one-index in
    let f = c.one-item.result in
    let one_more : take (i + 1) fs ≡ take i fs ++ f ∷ [] = take_more fs i f c.loop-one-test.true ∙ ap (λ k. take i fs ++ k ∷ []) (sym c.one-item.is) in
    elim c.if-one-number.branch [
      | then-one-number w ↦ ap option_copied w.last-is
          ∙ sym (ap (λ gs. last_final gs c.args.number) one_more ∙ last_taken (take i fs) f c.args.number w.if-one-number.true)
      | else-one-number w ↦ ap option_copied w.last-is
          ∙ c.loop-one.invariant ∙ sym (ap (λ gs. last_final gs c.args.number) one_more ∙ last_kept (take i fs) f c.args.number w.if-one-number.false)
    ]
