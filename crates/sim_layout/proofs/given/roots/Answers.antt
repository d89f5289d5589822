use Rattle.std.proofs.Common.{Some, ap, sym, ◌∙◌, subst, arith, refl}
use Rattle.std.proofs.lemmas.Option.{slice_get-get_or, slice_get_within}
use Rattle.netlist.specs.declared.netlist.Signal.{Signal}
use Rattle.sim_layout.specs.Given.{IsGivenFor}
use Rattle.sim_layout.proofs.Givens.{rooted_more, only_more}
use Rattle.sim_layout.proofs.given.roots.Goals as goal

pub loop-signal-preserved : goal.loop-signal-preserved
loop-signal-preserved c =
    let here : Signal = c.index-signals-signal.result in
    let old = c.loop-signal.wires.items in
    let new = c.push_root.new.wires.items in
    let listed = slice_get-get_or c.args.signals.now c.loop-signal.signal here c.loop-signal-test.true ∙ ap Some (sym c.index-signals-signal.is) in
    let given = subst (λ p. IsGivenFor p c.args.prefs here.name here.source old new) c.in_ok-place.ensures c.in_ok-push_root.ensures in
    record {
      rooted = rooted_more old new c.args.base c.args.prefs c.loop-signal.signal c.args.signals.now here listed here.source refl given c.loop-signal.invariant.rooted;
      only = only_more old new c.args.base c.args.prefs c.loop-signal.signal c.args.signals.now here listed here.source refl given c.loop-signal.invariant.only;
    }

pub returns-clause-rooted : goal.returns-clause-rooted
returns-clause-rooted c = λ x s at input. c.loop-signal.invariant.rooted x s (let l = slice_get_within c.args.signals.now x s at in omega arith) at input
