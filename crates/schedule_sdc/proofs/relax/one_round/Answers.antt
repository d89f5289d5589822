use Rattle.std.proofs.Common.{◌≡◌, ◌<◌, length, get_or, sym, refl, arith}
use Rattle.std.proofs.lemmas.List.{get_or_default}
use Rattle.schedule_sdc.proofs.Rounds.{origin}
use Rattle.schedule_sdc.proofs.RelaxedRounds.{lift_kept, lift_raised}
use Rattle.schedule_sdc.proofs.relax.one_round.Goals as goal
use Rattle.schedule_sdc.proofs.relax.one_round.Goals.{in-Kept, in-Raised}

pub returns-in-Far-clause-early : goal.returns-in-Far-clause-early
returns-in-Far-clause-early c =
    let same : c.lift_place.new.starts.items ≡ c.loop-c.starts.items = sym c.in-Far.ensures in
    rw same c.loop-c.invariant.early

pub loop-c-preserved : goal.loop-c-preserved
loop-c-preserved c =
    let l : c.loop-c.c-index < length c.args.list.now = c.loop-c-test.true in
    let is = get_or_default c.args.list.now c.loop-c.c-index origin (get_or c.args.list.now c.loop-c.c-index origin) l in
    elim c.match-lift_place.branch [
      | in-Kept w ↦ lift_kept c.args.list.now c.args.starts.now.items c.loop-c.starts.items c.loop-c.raised _ _ c.loop-c.invariant l _ is c.requires.places _ _
          c.lift_place.ensures _ w.in-Kept.is w.raised-is
      | in-Raised w ↦ lift_raised c.args.list.now c.args.starts.now.items c.loop-c.starts.items c.loop-c.raised _ _ c.loop-c.invariant l _ is c.requires.places _ _
          c.lift_place.ensures _ w.in-Raised.is w.raised-is
    ]

pub loop-c-init : goal.loop-c-init
loop-c-init c = record { count = refl; early = c.requires.early; round = (refl, λ i d l. absurd (omega arith)) }

pub lift_place-requires : goal.lift_place-requires
lift_place-requires c = rw c.loop-c.invariant.count (c.requires.places _ _ c.loop-c-test.true)

pub returns-in-Far-clause-count : goal.returns-in-Far-clause-count
returns-in-Far-clause-count c =
    let same : c.lift_place.new.starts.items ≡ c.loop-c.starts.items = sym c.in-Far.ensures in
    rw same c.loop-c.invariant.count

pub returns-then-raised-clause-count : goal.returns-then-raised-clause-count
returns-then-raised-clause-count c = c.loop-c.invariant.count

pub returns-then-raised-clause-early : goal.returns-then-raised-clause-early
returns-then-raised-clause-early c = c.loop-c.invariant.early

pub returns-else-raised-clause-count : goal.returns-else-raised-clause-count
returns-else-raised-clause-count c = c.loop-c.invariant.count

pub returns-else-raised-clause-early : goal.returns-else-raised-clause-early
returns-else-raised-clause-early c = c.loop-c.invariant.early
