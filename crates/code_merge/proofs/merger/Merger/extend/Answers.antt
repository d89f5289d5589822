use Rattle.std.proofs.lemmas.Result.{on_ok_weaker}
use Rattle.code_merge.proofs.Chains.{extends_none, extends_after, begin_grows}
use Rattle.code_merge.proofs.merger.Merger.extend.Goals as goal

pub returns-in-None : goal.returns-in-None
returns-in-None c = extends_none c.args.self.now c.args.first c.requires (c.follower.ensures.none c.in-None.is)

pub returns-in_ok-begin-in-Some : goal.returns-in_ok-begin-in-Some
returns-in_ok-begin-in-Some c =
    on_ok_weaker c.grow.result
    (λ e. extends_after c.args.self.now c.begin.new.self c.grow.new.self c.args.first
    (begin_grows c.args.self.now c.begin.new.self c.args.first c.requires c.in_ok-begin-in-Some.ensures) e)
    c.grow.ensures
