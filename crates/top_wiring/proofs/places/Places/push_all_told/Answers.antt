use Rattle.std.proofs.Common.{ℕ, ◌++◌, length, ap, ◌∙◌}
use Rattle.top_parts.specs.declared.layout.Core.{Core}
use Rattle.top_wiring.specs.Top.{told_places}
use Rattle.top_parts.proofs.GrownLists.{flat_from_onto}
use Rattle.top_wiring.proofs.places.Places.push_all_told.Goals as goal

pub loop-number-preserved : goal.loop-number-preserved
loop-number-preserved c =
    let s = c.args.self.now in
    let i = c.loop-number.number in
    flat_from_onto (λ k (x : Core). told_places s.starts s.threads s.cores c.args.thread k (length x.told)) c.args.inputs.now c.loop-number.inputs c.push_told.new.inputs c.args.cores.now i
    c.index-cores-number.result c.loop-number.invariant
    (c.in_ok-push_told.ensures ∙ ap (λ (z : ℕ). c.loop-number.inputs ++ told_places s.starts s.threads s.cores c.args.thread i z) c.len.ensures)
    c.index-cores-number.is c.loop-number-test.true
