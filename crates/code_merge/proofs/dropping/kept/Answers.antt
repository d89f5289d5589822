use Rattle.std.proofs.Common.{[], ◌∷◌, length, reverse, length-append, sym, ap, ◌∙◌, arith}
use Rattle.code_merge.specs.Dropping as steps
use Rattle.code_merge.specs.Used as spec
use Rattle.code_merge.proofs.KeptItems.{kept_in, kept_out, kept_empty}
use Rattle.code_merge.proofs.dropping.kept.Goals as goal

pub loop-stage-preserved-in-Continue-1 : goal.loop-stage-preserved-in-Continue-1
loop-stage-preserved-in-Continue-1 c =
    let was = c.loop-stage.invariant in
    let new = spec.renumbered (steps.number_in c.args.numbers.now) in
    let l = length-append c.pop.new.self (c.in-Some.stage ∷ []) in
    let e = ap length c.in-Some.ensures in
    let t = was.there in
    record {
      there = omega (arith, l, e, t);
      kept =
          kept_in new c.args.used.now _ c.loop-stage.rest c.pop.new.self c.in-Some.stage c.loop-stage.last_first.items c.len.result c.in-Some.ensures
          c.len.ensures was.there was.kept _ c.renumber.result c.if-used-len.true c.renumber.ensures c.in_ok-push.ensures.items;
    }

pub loop-stage-preserved : goal.loop-stage-preserved
loop-stage-preserved c =
    let was = c.loop-stage.invariant in
    let new = spec.renumbered (steps.number_in c.args.numbers.now) in
    let l = length-append c.pop.new.self (c.in-Some.stage ∷ []) in
    let e = ap length c.in-Some.ensures in
    let t = was.there in
    record {
      there = omega (arith, l, e, t);
      kept =
          kept_out new c.args.used.now _ c.loop-stage.rest c.pop.new.self c.in-Some.stage c.loop-stage.last_first.items c.len.result c.in-Some.ensures
          c.len.ensures was.there was.kept c.if-used-len.false;
    }

pub returns : goal.returns
returns c =
    let new = spec.renumbered (steps.number_in c.args.numbers.now) in
    c.from_vec.ensures ∙ c.reverse.ensures.items
    ∙ sym (c.loop-stage.invariant.kept ∙ kept_empty new c.args.used.now c.loop-stage.rest (reverse c.loop-stage.last_first.items) c.in_default.ensures.0)
