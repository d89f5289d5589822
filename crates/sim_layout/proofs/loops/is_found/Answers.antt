use Rattle.std.proofs.Common.{refl, sym, subst, arith, slice_index_or}
use Rattle.std.proofs.lemmas.Option.{slice_get-get_or}
use Rattle.sim_values.specs.declared.settle.Step.{Step}
use Rattle.sim_values.specs.declared.settle.Feed.TheVariants.{Zero}
use Rattle.sim_layout.specs.Leads.{Leads, AreInRoom}
use Rattle.sim_layout.proofs.LeadSearch.{found_step, apart_more}
use Rattle.sim_layout.proofs.loops.is_found.Goals as goal

pub returns-then-is_back-clause-found : goal.returns-then-is_back-clause-found
returns-then-is_back-clause-found c =
    let d : Step = record { target = 0; feed = Zero } in
    let s : Step = slice_index_or c.args.wires.now c.loop-number.number d in
    λ e. subst (λ t. Leads c.args.modules.now c.args.wires.now t c.args.place) (c.if-is_back.ensures.target refl)
    (found_step c.args.modules.now c.args.wires.now c.args.place c.args.apart.now (subst (AreInRoom c.args.modules.now c.args.wires.now) (sym c.requires.long) c.requires.room) c.requires.search s
    (c.loop-number.number, slice_get-get_or c.args.wires.now c.loop-number.number d (omega arith)) (c.if-is_back.ensures.found refl))

pub loop-number-preserved : goal.loop-number-preserved
loop-number-preserved c =
    let d : Step = record { target = 0; feed = Zero } in
    let s : Step = slice_index_or c.args.wires.now c.loop-number.number d in
    apart_more c.args.modules.now c.args.wires.now c.args.place c.args.apart.now c.loop-number.number s c.loop-number.invariant
    (slice_get-get_or c.args.wires.now c.loop-number.number d (omega arith)) (c.if-is_back.ensures.away refl)
