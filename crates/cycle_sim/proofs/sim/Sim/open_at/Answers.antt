use Rattle.std.proofs.Common.{◌≡◌, List, Some, ◌+◌, slice_get, ap, ◌∙◌, subst, sym, refl}
use Rattle.std.specs.Prelude.{◌-◌, ◌^◌}
use Rattle.std.proofs.lemmas.Option.{same_Some}
use Rattle.netlist.specs.declared.netlist.Signal.{Signal}
use Rattle.sim_values.specs.declared.settle.Step.{Step}
use Rattle.sim_values.specs.declared.edge.Part.{Part}
use Rattle.sim_values.specs.Order.{IsOrder}
use Rattle.sim_values.specs.Stands.{spot_of}
use Rattle.sim_layout.specs.Wires.{signals_of, AreWires}
use Rattle.cycle_sim.specs.LaidOut.{IsLaidOut}
use Rattle.cycle_sim.specs.Opened.{LacksDone}
use Rattle.sim_layout.specs.Running.{IsDone}
use Rattle.sim_layout.specs.Rounds.{enable_width, pref_count, prefs_in, TakesTurns, AreNarrowSignals}
use Rattle.cycle_sim.proofs.Causes.{right_net, has_done, laid_out, one_of}
use Rattle.cycle_sim.proofs.OpenedWords.{opened_stands}
use Rattle.cycle_sim.proofs.Enables.{narrow_top, threads_top}
use Rattle.cycle_sim.proofs.sim.Sim.open_at.Goals as goal

pub enable_mask-mask-requires : goal.enable_mask-mask-requires
enable_mask-mask-requires c =
    subst AreNarrowSignals (sym c.module_signals-signals.ensures) (narrow_top c.args.modules.now c.args.top c.requires.top (right_net c.args.modules.now c.requires.openable))

pub done_number-done-requires : goal.done_number-done-requires
done_number-done-requires c = λ lacks. has_done c.args.modules.now c.args.top c.requires.top c.requires.openable (subst LacksDone c.module_signals-signals.ensures lacks)

pub built-requires-clause-mask : goal.built-requires-clause-mask
built-requires-clause-mask c =
    c.enable_mask-mask.ensures ∙ ap (λ ss. 2 ^ enable_width ss - 1) c.module_signals-signals.ensures ∙ ap (λ n. 2 ^ n - 1) (threads_top c.args.modules.now c.args.top c.requires.top)

pub built-requires-clause-ready : goal.built-requires-clause-ready
built-requires-clause-ready c =
    let modules = c.args.modules.now in
    let t = c.requires.top.top in
    let placed = c.in_ok-placed.placed in
    let prefs = c.pref_count-prefs.result in
    let wires = c.in_ok-wires.wires.items in
    let steps = c.in-Some.steps.items in
    let base = (spot_of (slice_get placed.parts.items 0)).base in
    let found = c.done_number-done.ensures in
    let number = c.done_number-done.result in
    let done_is : IsDone t placed.parts.items (base + number) =
    record {
      has = record {
        place = number;
        signal = found.signal;
        is = record {
          listed = sym (ap (λ o. slice_get (signals_of o) number) c.requires.top.stands) ∙ subst
              (λ (ss : List Signal). slice_get ss number ≡ Some found.signal) c.module_signals-signals.ensures found.listed;
          named = found.is.named;
        };
        out = found.is.out;
        bit = found.is.bit;
      };
      stands = refl;
    } in
    let are : AreWires modules placed.parts.items (signals_of (slice_get modules c.args.top)) base prefs wires =
    subst (λ (ps : List Part). AreWires modules ps (signals_of (slice_get modules c.args.top)) (spot_of (slice_get ps 0)).base prefs wires) c.as_slice.ensures.value c.in_ok-wires.ensures in
    let right = right_net modules c.requires.openable in
    let laid = laid_out modules c.args.top c.requires.top right c.in_ok-tree.tree.kinds.items c.in_ok-tree.tree.children.items c.in_ok-tree.ensures
    placed.parts.items placed.numbers.items placed.free.items placed.words.items placed.starts.items c.in_ok-placed.ensures.placed c.in_ok-placed.ensures.whole base refl wires prefs are in
    let given : IsOrder modules c.as_slice-2.result.now c.as_slice-3.result.now steps = rw c.in-Some.is at c.in_ok-steps.ensures in
    let ordered : IsOrder modules wires placed.free.items steps =
    subst (λ fs. IsOrder modules wires fs steps) c.as_slice-3.ensures.value (subst (λ (ws : List Step). IsOrder modules ws c.as_slice-3.result.now steps) c.as_slice-2.ensures.value given) in
    let same = same_Some c.requires.openable.top t (sym c.requires.openable.is_top ∙ c.requires.top.is_top) in
    let takes = subst (TakesTurns modules) same c.requires.openable.takes in
    let counted = c.pref_count-prefs.ensures ∙ ap pref_count (c.module_signals-signals.ensures ∙ ap signals_of c.requires.top.stands) ∙ sym (ap prefs_in c.requires.top.is_top) in
    opened_stands laid takes counted (one_of laid c.requires.openable.printer) (base + number) done_is steps ordered

pub loop_of-requires-clause-laid : goal.loop_of-requires-clause-laid
loop_of-requires-clause-laid c =
    let modules = c.args.modules.now in
    let placed = c.in_ok-placed.placed in
    let prefs = c.pref_count-prefs.result in
    let wires = c.in_ok-wires.wires.items in
    let base = (spot_of (slice_get placed.parts.items 0)).base in
    let are : AreWires modules placed.parts.items (signals_of (slice_get modules c.args.top)) base prefs wires =
    subst (λ (ps : List Part). AreWires modules ps (signals_of (slice_get modules c.args.top)) (spot_of (slice_get ps 0)).base prefs wires) c.as_slice.ensures.value c.in_ok-wires.ensures in
    let right = right_net modules c.requires.openable in
    let laid = laid_out modules c.args.top c.requires.top right c.in_ok-tree.tree.kinds.items c.in_ok-tree.tree.children.items c.in_ok-tree.ensures
    placed.parts.items placed.numbers.items placed.free.items placed.words.items placed.starts.items c.in_ok-placed.ensures.placed c.in_ok-placed.ensures.whole base refl wires prefs are in
    let there = subst (λ (ws : List Step). IsLaidOut modules c.requires.top.top placed.parts.items placed.numbers.items placed.free.items placed.words.items placed.starts.items ws prefs)
    (sym c.as_slice-in-None.ensures.value) laid in
    (c.requires.top.top, prefs, there)
