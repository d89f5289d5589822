use Rattle.std.proofs.Common.{◌≤◌, refl, arith}
use Rattle.loop_pipeline.proofs.SplitStarts.{taken_apart}
use Rattle.loop_pipeline.proofs.search.split.Goals as goal

pub returns : goal.returns
returns c =
    let some : 2 ≤ c.args.places.len = omega (arith, c.requires, c.args.places.ok.0) in (
      refl,
      taken_apart c.args.places.items c.pop-begin.new.self.items c.pop.new.self.items c.pop-begin.result c.pop.result c.unwrap_or-depth.result
          c.args.places.len c.pop-begin.new.self.len c.pop.new.self.len c.unwrap_or-depth.ensures c.pop-begin.ensures.items c.pop.ensures.items some
          c.pop-begin.ensures.cases c.pop.ensures.cases,
    )
