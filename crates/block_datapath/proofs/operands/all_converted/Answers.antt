use Rattle.std.proofs.Common.{◌≡◌, ◌+◌, ◌∙◌, ◌++◌, List, [], ◌∷◌, sym, ap, subst, take, arith}
use Rattle.std.proofs.lemmas.List.{take_more, take_all}
use Rattle.hls_ints.specs.Types.{IntegerType}
use Rattle.block_datapath.specs.Seen.{Converts}
use Rattle.block_datapath.specs.Wired.{AreConverted}
use Rattle.block_datapath.proofs.OperandWords.{converts_none, converts_more}
use Rattle.block_datapath.proofs.BlockWires.{converted_none, converted_more}
use Rattle.block_datapath.proofs.operands.all_converted.Goals as goal

pub loop-ty-preserved : goal.loop-ty-preserved
loop-ty-preserved c =
    let types = c.args.types.now in
    let i = c.loop-ty.ty-index in
    let t = c.ty-item.result in
    let one_more : take (i + 1) types ≡ take i types ++ t ∷ [] = take_more types i t c.loop-ty-test.true ∙ ap (λ k. take i types ++ k ∷ []) (sym c.ty-item.is) in (
      subst (λ (ts : List IntegerType). Converts c.args.wires.now.signals c.converted.new.self.signals c.args.word ts c.in_ok-out.out) (sym one_more)
          (converts_more c.args.wires.now.signals c.loop-ty.wires.signals c.converted.new.self.signals c.args.word c.loop-ty.out c.in_ok-out.out
          (take i types) t c.loop-ty.invariant.0
          c.in_ok-out.ensures.shows),
      subst (λ (ts : List IntegerType). AreConverted c.args.wires.now.signals c.converted.new.self.signals c.args.word ts c.in_ok-out.out) (sym one_more)
          (converted_more c.args.wires.now.signals c.loop-ty.wires.signals c.converted.new.self.signals c.args.word c.loop-ty.out c.in_ok-out.out
          (take i types) t c.loop-ty.invariant.1
          c.in_ok-out.ensures.wired),
    )

pub loop-ty-init : goal.loop-ty-init
loop-ty-init c =
    (converts_none c.args.wires.now.signals c.args.word, converted_none c.args.wires.now.signals c.args.word)

pub returns-clause-wired : goal.returns-clause-wired
returns-clause-wired c =
    let all : take c.loop-ty.ty-index c.args.types.now ≡ c.args.types.now = take_all c.loop-ty.ty-index c.args.types.now (omega arith) in
    subst (λ (ts : List IntegerType). AreConverted c.args.wires.now.signals c.loop-ty.wires.signals c.args.word ts c.loop-ty.out) all c.loop-ty.invariant.1
