use Rattle.std.proofs.Common.{subst, arith}
use Rattle.cycle_sim.specs.Lockstep.{IsLockstep}
use Rattle.cycle_sim.proofs.InitialRun.{round_done, round_all}
use Rattle.cycle_sim.proofs.run.turn.Goals as goal

pub returns-then-ran-cycles : goal.returns-then-ran-cycles
returns-then-ran-cycles c =
    let old = c.args.sim.now in
    let mid = c.lockstep.new.self in
    let out = c.lockstep.new.out in
    let n = c.in_ok-ran.ran in
    let ran = subst (λ b. IsLockstep old mid c.args.cycles n b out) c.new-printed.ensures c.in_ok-ran.ensures.ok in
    round_done old mid c.args.cycles n out c.requires ran c.if-ran-cycles.true

pub returns : goal.returns
returns c =
    let old = c.args.sim.now in
    let mid = c.lockstep.new.self in
    let out = c.lockstep.new.out in
    let n = c.in_ok-ran.ran in
    let ran = subst (λ b. IsLockstep old mid c.args.cycles n b out) c.new-printed.ensures c.in_ok-ran.ensures.ok in
    let last = c.if-ran-cycles.false in
    round_all old mid c.args.cycles n out c.requires ran c.done-is_done.result (λ l. omega (arith, l, last)) c.done-is_done.ensures.done
