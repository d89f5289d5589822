use Rattle.std.proofs.Common.{refl, sym, subst, slice_index_or}
use Rattle.std.proofs.Math.ListN.{length-set}
use Rattle.std.proofs.lemmas.Option.{slice_get-get_or}
use Rattle.sim_values.specs.declared.settle.Step.{Step}
use Rattle.sim_values.specs.declared.settle.Feed.TheVariants.{Zero}
use Rattle.sim_layout.specs.Leads.{AreInRoom}
use Rattle.sim_layout.proofs.LeadSearch.{search_more}
use Rattle.sim_layout.proofs.loops.look.Goals as goal

pub returns-clause-search : goal.returns-clause-search
returns-clause-search c =
    let d : Step = record { target = 0; feed = Zero } in
    let s : Step = slice_index_or c.args.wires.now c.args.number d in
    search_more c.args.modules.now c.args.wires.now c.args.place c.args.apart.now _ (subst (AreInRoom c.args.modules.now c.args.wires.now) (sym c.requires.long) c.requires.room) c.requires.search s
    (c.args.number, slice_get-get_or c.args.wires.now c.args.number d c.requires.number) (c.if-is_ready.ensures.blocked refl) refl (length-set c.args.apart.now s.target _)

pub returns-then-wire-apart-clause-search : goal.returns-then-wire-apart-clause-search
returns-then-wire-apart-clause-search c = c.requires.search

pub returns-then-wire-apart-clause-same : goal.returns-then-wire-apart-clause-same
returns-then-wire-apart-clause-same c = λ _. refl

pub returns-then-not-apart-wire-clause-search : goal.returns-then-not-apart-wire-clause-search
returns-then-not-apart-wire-clause-search c = c.requires.search

pub returns-then-not-apart-wire-clause-same : goal.returns-then-not-apart-wire-clause-same
returns-then-not-apart-wire-clause-same c = λ _. refl

pub returns-then-is_ready-clause-search : goal.returns-then-is_ready-clause-search
returns-then-is_ready-clause-search c = c.requires.search

pub returns-then-is_ready-clause-same : goal.returns-then-is_ready-clause-same
returns-then-is_ready-clause-same c = λ _. refl
