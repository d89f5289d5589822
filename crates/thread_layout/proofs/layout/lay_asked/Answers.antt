use Rattle.std.proofs.Common.{◌≡◌, List, ℕ, map, ap, subst, sym, ◌∙◌}
use Rattle.hls_ints.specs.Types.{IntegerType}
use Rattle.block_datapath.specs.declared.registers.Held.{Held}
use Rattle.operator_wires.proofs.MadeWords.{of_ok}
use Rattle.thread_requests.specs.declared.early.Early.{Early}
use Rattle.thread_requests.specs.Early.{LaysEarlyWired}
use Rattle.thread_layout.specs.Modules.{caller_of}
use Rattle.thread_layout.proofs.layout.lay_asked.Goals as goal

pub returns : goal.returns
returns c =
    let own = map (λ (h : Held). h.register) c.args.ground.now.granted in
    let marks : c.as_slice-2.result.now ≡ map (λ (h : Held). h.register) c.args.ground.now.granted =
    c.as_slice-2.ensures ∙ c.in_ok-marks.ensures ∙ ap (map (λ (h : Held). h.register)) c.as_slice.ensures in
    let laid =
    subst
    (λ (z : List ℕ). LaysEarlyWired c.args.shape.now.globals c.args.code.now c.args.ground.now.slot z (caller_of c.args.shape.now) c.args.planned.now c.args.wires.now.signals
    c.lay_early.new.wires.signals c.in_ok-early.early) marks
    (subst
    (λ (z : List IntegerType). LaysEarlyWired z c.args.code.now c.args.ground.now.slot c.as_slice-2.result.now (caller_of c.args.shape.now) c.args.planned.now c.args.wires.now.signals
    c.lay_early.new.wires.signals c.in_ok-early.early) c.as_slice-globals.ensures c.in_ok-early.ensures) in
    of_ok c.new.result (λ (z : Early). z ≡ c.in_ok-early.early)
    (LaysEarlyWired c.args.shape.now.globals c.args.code.now c.args.ground.now.slot own (caller_of c.args.shape.now) c.args.planned.now
    c.args.wires.now.signals c.lay_early.new.wires.signals)
    (λ z same.
    subst (LaysEarlyWired c.args.shape.now.globals c.args.code.now c.args.ground.now.slot own (caller_of c.args.shape.now) c.args.planned.now
    c.args.wires.now.signals c.lay_early.new.wires.signals) (sym same) laid) c.new.ensures
