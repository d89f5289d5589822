use Rattle.std.proofs.Common.{◌≡◌, ◌<◌, length, get_or, arith, Some}
use Rattle.std.proofs.lemmas.List.{get_or_default}
use Rattle.schedule_sdc.specs.History.{IsCycleBehind}
use Rattle.schedule_sdc.proofs.Rounds.{least_after, sum_bounded, round_grew, next_kept, next_raised, origin}
use Rattle.schedule_sdc.proofs.least.cycle_met.Goals as goal
use Rattle.schedule_sdc.proofs.least.cycle_met.Goals.{in-Kept, in-Raised}

pub raise-requires-clause-sound : goal.raise-requires-clause-sound
raise-requires-clause-sound c = rw c.loop-c.invariant.sound.starts_length c.loop-c.invariant.sound

pub raise-requires-clause-shallow : goal.raise-requires-clause-shallow
raise-requires-clause-shallow c = rw c.loop-c.invariant.sound.starts_length c.loop-c.invariant.shallow

pub raise-requires-clause-places : goal.raise-requires-clause-places
raise-requires-clause-places c = rw c.loop-c.invariant.sound.starts_length c.requires.places

pub returns-in-Deep : goal.returns-in-Deep
returns-in-Deep c =
    let behind : IsCycleBehind c.args.places c.as_slice.result.now (Some c.in-Some.walk) = rw c.in-Some.is at c.in_ok-walk-in-Deep.ensures in
    behind c.args.list.now (length c.loop-c.starts.items) (rw c.as_slice.ensures.value c.in_ok-raise.ensures.sound.history)

pub returns-then-not-raised : goal.returns-then-not-raised
returns-then-not-raised c =
    let all : c.loop-c.c-index ≡ length c.args.list.now = omega (arith, c.loop-c.auto.c-index-end) in
    least_after _ _ _ _ _ _ _ _ c.loop-c.invariant all c.if-not-raised.true

pub returns-in-Some-2 : goal.returns-in-Some-2
returns-in-Some-2 c =
    let behind : IsCycleBehind c.args.places c.as_slice-in-rounds.result.now (Some c.in-Some-2.walk) = rw c.in-Some-2.is at c.in_ok-walk.ensures in
    behind c.args.list.now c.args.places (rw c.as_slice-in-rounds.ensures.value c.loop-c.invariant.sound.history)

pub loop-c-preserved : goal.loop-c-preserved
loop-c-preserved c =
    let l : c.loop-c.c-index < length c.args.list.now = c.loop-c-test.true in
    let is = get_or_default c.args.list.now c.loop-c.c-index origin (get_or c.args.list.now c.loop-c.c-index origin) l in
    elim c.match-branch-2.branch [
      | in-Kept w ↦ next_kept c.args.list.now c.args.places _ _ _ c.loop-c.raised _ _ c.loop-c.invariant l _ is c.requires.places _ _ _ _ c.in_ok-raise.ensures.sound
          c.in_ok-raise.ensures.change _ w.in-Kept.is w.raised-is
      | in-Raised w ↦ next_raised c.args.list.now c.args.places _ _ _ c.loop-c.raised _ _ c.loop-c.invariant l _ is c.requires.places _ _ _ _ c.in_ok-raise.ensures.sound
          c.in_ok-raise.ensures.change _ w.in-Raised.is w.raised-is
    ]

pub rounds-smaller : goal.rounds-smaller
rounds-smaller c =
    let b = sum_bounded _ _ _ _ _ c.loop-c.invariant.sound in
    let g = round_grew _ _ _ _ c.if-not-raised.false c.loop-c.invariant.round in
    omega arith

pub rounds-init : goal.rounds-init
rounds-init c = record { sound = c.requires.sound; shallow = c.requires.shallow; early = c.requires.early }

pub rounds-preserved : goal.rounds-preserved
rounds-preserved c =
    let i = c.loop-c.invariant in
    record { sound = i.sound; shallow = i.shallow; early = i.early }

pub positive_cycle-requires : goal.positive_cycle-requires
positive_cycle-requires c =
    let history = rw c.loop-c.invariant.sound.starts_length at c.in_ok-raise.ensures.sound.history in
    (c.args.list.now, rw c.as_slice.ensures.value history)

pub positive_cycle-requires-in-rounds : goal.positive_cycle-requires-in-rounds
positive_cycle-requires-in-rounds c = (c.args.list.now, rw c.as_slice-in-rounds.ensures.value c.loop-c.invariant.sound.history)
