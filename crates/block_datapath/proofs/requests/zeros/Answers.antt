use Rattle.std.proofs.Common.{◌≡◌, ℕ, length, ap, subst, ◌∙◌, arith}
use Rattle.std.specs.Prelude.{slice_get}
use Rattle.std.proofs.lemmas.Option.{slice_get-get_or}
use Rattle.block_datapath.specs.Requests.{ShowsZeros}
use Rattle.block_datapath.proofs.ZeroChains.{zeros_none, zeros_more, first_none, first_more, first_all}
use Rattle.block_datapath.proofs.requests.zeros.Goals as goal

pub loop-width-preserved : goal.loop-width-preserved
loop-width-preserved c =
    let here = slice_get-get_or c.args.widths.now c.loop-width.width-index _ c.loop-width-test.true in (
      zeros_more c.args.wires.now.signals c.loop-width.wires.signals c.constant.new.self.signals c.loop-width.width-index _ c.in_ok-zero.zero c.loop-width.zeros c.push.new.self
          c.loop-width.invariant.0 c.in_ok-zero.ensures.shows c.in_ok-push.ensures.ok,
      first_more c.args.wires.now.signals c.loop-width.wires.signals c.constant.new.self.signals c.args.widths.now c.loop-width.zeros c.push.new.self _ c.in_ok-zero.zero
          c.loop-width.invariant.1 (ap (slice_get c.args.widths.now) c.loop-width.invariant.0.count ∙ here) c.in_ok-zero.ensures.wired c.in_ok-push.ensures.ok,
    )

pub loop-width-init : goal.loop-width-init
loop-width-init c = (
  zeros_none c.args.wires.now.signals c.new-zeros.result c.new-zeros.ensures,
  first_none c.args.wires.now.signals c.args.widths.now c.new-zeros.result c.new-zeros.ensures,
)

pub returns-clause-shows : goal.returns-clause-shows
returns-clause-shows c =
    let all : c.loop-width.width-index ≡ length c.args.widths.now = omega arith in
    subst (λ (n : ℕ). ShowsZeros c.args.wires.now.signals c.loop-width.wires.signals n c.loop-width.zeros) all c.loop-width.invariant.0

pub returns-clause-wired : goal.returns-clause-wired
returns-clause-wired c =
    let all : c.loop-width.width-index ≡ length c.args.widths.now = omega arith in
    first_all c.args.wires.now.signals c.loop-width.wires.signals c.args.widths.now c.loop-width.zeros (c.loop-width.invariant.0.count ∙ all) c.loop-width.invariant.1
