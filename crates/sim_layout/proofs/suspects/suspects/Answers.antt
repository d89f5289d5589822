use Rattle.std.proofs.Common.{sym, subst, refl, arith}
use Rattle.std.specs.Prelude.{drop, length}
use Rattle.std.proofs.lemmas.List.{take_at}
use Rattle.sim_layout.specs.Ranks.{AreSuspects}
use Rattle.sim_layout.proofs.WordRanks.{suspects_ranked}
use Rattle.sim_layout.proofs.suspects.suspects.Goals as goal

pub returns-then-all_suspects-clause-marked : goal.returns-then-all_suspects-clause-marked
returns-then-all_suspects-clause-marked c =
    let new = c.all_suspects.new.suspects in
    let items = c.in_ok-suspects.suspects.items in
    let long = c.all_suspects.ensures.long in
    subst (AreSuspects c.args.modules.now c.args.wires.now)
    (sym (take_at new (drop (length new) items) c.in_ok-suspects.suspects.len (omega (arith, long))))
    (suspects_ranked c.args.modules.now c.args.wires.now c.as_slice.result.now new (c.if-all_suspects.ensures.ranked refl))
