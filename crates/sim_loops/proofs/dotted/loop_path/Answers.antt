use Rattle.std.proofs.Common.{Some}
use Rattle.sim_loops.specs.First.{IsLooped}
use Rattle.sim_loops.proofs.dotted.loop_path.Goals as goal

pub returns-in_ok-path-in-Some-2 : goal.returns-in_ok-path-in-Some-2
returns-in_ok-path-in-Some-2 c =
    let top = c.in-Some.ensures in
    let looped = c.in-Some-2.looped in
    let given : IsLooped c.args.modules.now (Some looped) = rw c.in-Some-2.is at c.in_ok-looped.ensures in
    record {
      top = top.top;
      is_top = top.is_top;
      path = looped.path;
      signal = looped.signal;
      loops = given top.top top.is_top;
      is = c.in_ok-path-in-Some-2.ensures top.top top.stands;
    }
