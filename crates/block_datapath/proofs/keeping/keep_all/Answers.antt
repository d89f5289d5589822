use Rattle.std.proofs.Common.{◌≡◌, ℕ, length, subst, arith}
use Rattle.std.proofs.lemmas.Option.{slice_get-get_or}
use Rattle.block_datapath.specs.Chains.{KeepsFirst}
use Rattle.block_datapath.specs.Wired.{ValuesStand}
use Rattle.block_datapath.proofs.ConditionalChains.{keeps_none, keeps_more}
use Rattle.block_datapath.proofs.LinkWires.{keeps_nothing, keeps_one_more}
use Rattle.block_datapath.proofs.keeping.keep_all.Goals as goal

pub loop-given-preserved : goal.loop-given-preserved
loop-given-preserved c =
    let next = slice_get-get_or c.args.values.now c.loop-given.given-index _ c.loop-given-test.true in (
      keeps_more c.args.wires.now.signals c.loop-given.wires.signals c.keep.new.wires.signals c.args.registers.now c.args.end.at c.args.end.states c.args.nexts.now
          c.loop-given.nexts c.keep.new.nexts
          c.args.values.now c.loop-given.given-index _ c.loop-given.invariant.0 next c.in_ok-keep.ensures.shows,
      keeps_one_more c.args.wires.now.signals c.loop-given.wires.signals c.keep.new.wires.signals c.args.registers.now c.args.end.at c.args.end.states c.args.nexts.now
          c.loop-given.nexts
          c.keep.new.nexts c.args.values.now c.loop-given.given-index _ c.loop-given.invariant.1 next c.in_ok-keep.ensures.wired,
    )

pub returns-clause-shows : goal.returns-clause-shows
returns-clause-shows c =
    let all : c.loop-given.given-index ≡ length c.args.values.now = omega arith in
    subst (λ (n : ℕ). KeepsFirst c.args.wires.now.signals c.loop-given.wires.signals c.args.registers.now c.args.end.at c.args.end.states c.args.nexts.now c.loop-given.nexts
    c.args.values.now n)
    all c.loop-given.invariant.0

pub loop-given-init : goal.loop-given-init
loop-given-init c = (
  keeps_none c.args.wires.now.signals c.args.registers.now c.args.end.at c.args.end.states c.args.nexts.now c.args.values.now,
  keeps_nothing c.args.wires.now.signals c.args.registers.now c.args.end.at c.args.end.states c.args.nexts.now (ValuesStand c.args.wires.now.signals c.args.values.now),
)

pub returns-clause-wired : goal.returns-clause-wired
returns-clause-wired c =
    c.loop-given.invariant.1
