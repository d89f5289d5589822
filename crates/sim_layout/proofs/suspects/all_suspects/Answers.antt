use Rattle.std.proofs.Common.{refl, arith, slice_index_or}
use Rattle.std.proofs.lemmas.Option.{slice_get-get_or}
use Rattle.sim_values.specs.declared.settle.Step.{Step}
use Rattle.sim_values.specs.declared.settle.Feed.TheVariants.{Zero}
use Rattle.sim_layout.proofs.WordRanks.{ranked_more}
use Rattle.sim_layout.proofs.suspects.all_suspects.Goals as goal

pub loop-number-preserved : goal.loop-number-preserved
loop-number-preserved c =
    let d : Step = record { target = 0; feed = Zero } in
    let number = c.loop-number.number in
    record {
      ranked = ranked_more c.args.modules.now c.args.wires.now c.args.ranks.now c.loop-number.suspects c.suspect.new.suspects c.suspect.ensures.keeps number
          (slice_index_or c.args.wires.now number d) (slice_get-get_or c.args.wires.now number d (omega arith)) c.loop-number.invariant.ranked
          (c.if-not-suspect.ensures.ranked refl);
      long = (let a = c.suspect.ensures.long in let b = c.loop-number.invariant.long in omega (arith, a, b));
    }

pub returns-clause-ranked : goal.returns-clause-ranked
returns-clause-ranked c = λ t k s less at. c.loop-number.invariant.ranked k s (omega (arith, less)) at
