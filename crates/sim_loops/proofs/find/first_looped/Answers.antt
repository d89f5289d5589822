use Rattle.std.proofs.Common.{◌≡◌, ℕ, List, length, sym, subst, arith}
use Rattle.std.specs.Prelude.{slice_get}
use Rattle.sim_values.specs.declared.settle.Step.{Step}
use Rattle.sim_values.specs.declared.edge.Part.{Part}
use Rattle.sim_values.specs.Stands.{spot_of}
use Rattle.sim_layout.specs.Leads.{AreInRoom, AreWithin, AreLoopless, IsLoopOf}
use Rattle.sim_layout.specs.Wires.{signals_of, AreWires}
use Rattle.verilog_meaning.specs.Cycles.{Path}
use Rattle.sim_values.specs.Tree.{place_in}
use Rattle.sim_loops.specs.Search.{IsNested}
use Rattle.sim_loops.proofs.FirstLoop.{room, within, looped, no_loops}
use Rattle.sim_loops.proofs.find.first_looped.Goals as goal

pub first_site-requires-clause-room : goal.first_site-requires-clause-room
first_site-requires-clause-room c =
    let modules = c.args.modules.now in
    let placed = c.in_ok-placed.placed in
    let wires = c.in_ok-wires.wires.items in
    let are = subst (λ (ps : List Part). AreWires modules ps (signals_of (slice_get modules c.args.top)) (spot_of
    (slice_get ps 0)).base 0 wires) c.as_slice-parts.ensures.value c.in_ok-wires.ensures in
    let held = room modules c.args.top c.requires.top c.requires.openable c.in_ok-tree.tree.kinds.items c.in_ok-tree.tree.children.items c.in_ok-tree.ensures placed.parts.items
    placed.numbers.items placed.free.items placed.words.items placed.starts.items c.in_ok-placed.ensures.placed c.in_ok-placed.ensures.whole wires are in
    let e : length placed.numbers.items ≡ c.len.result = (let a = c.len.ensures in omega (arith, a)) in
    subst (AreInRoom modules c.as_slice.result.now) e (subst (λ (ws : List Step). AreInRoom modules ws (length placed.numbers.items)) (sym c.as_slice.ensures.value) held)

pub first_site-requires-clause-within : goal.first_site-requires-clause-within
first_site-requires-clause-within c =
    let modules = c.args.modules.now in
    let placed = c.in_ok-placed.placed in
    let wires = c.in_ok-wires.wires.items in
    let are = subst (λ (ps : List Part). AreWires modules ps (signals_of (slice_get modules c.args.top)) (spot_of
    (slice_get ps 0)).base 0 wires) c.as_slice-parts.ensures.value c.in_ok-wires.ensures in
    let held = within modules c.args.top c.requires.top c.requires.openable c.in_ok-tree.tree.kinds.items c.in_ok-tree.tree.children.items c.in_ok-tree.ensures placed.parts.items
    placed.numbers.items placed.free.items placed.words.items placed.starts.items c.in_ok-placed.ensures.placed c.in_ok-placed.ensures.whole wires are in
    let e : length placed.numbers.items ≡ c.len.result = (let a = c.len.ensures in omega (arith, a)) in
    subst (AreWithin modules c.as_slice-parts.result.now) e (subst (λ (ps : List Part). AreWithin modules ps (length placed.numbers.items))
    (sym c.as_slice-parts.ensures.value) held)

pub returns-in-Some : goal.returns-in-Some
returns-in-Some c =
    let modules = c.args.modules.now in
    let placed = c.in_ok-placed.placed in
    let wires = c.in_ok-wires.wires.items in
    let are = subst (λ (ps : List Part). AreWires modules ps (signals_of (slice_get modules c.args.top)) (spot_of
    (slice_get ps 0)).base 0 wires) c.as_slice-parts.ensures.value c.in_ok-wires.ensures in
    let children = c.in_ok-tree.tree.children.items in
    let site = c.in-Some.site in
    let given : IsLoopOf modules c.as_slice.result.now c.as_slice-parts.result.now site.part site.signal = rw c.in-Some.is at c.in_ok-site.ensures in
    let loop : IsLoopOf modules wires placed.parts.items site.part site.signal =
    subst (λ (ps : List Part). IsLoopOf modules wires ps site.part site.signal) c.as_slice-parts.ensures.value
    (subst (λ (ws : List Step). IsLoopOf modules ws c.as_slice-parts.result.now site.part site.signal) c.as_slice.ensures.value given) in
    let path = c.in_ok-path-in-Some.path in
    let found = subst (λ (cs : List ℕ). (p : Path) → place_in cs p ≡ site.part → IsNested cs p → p ≡ path) c.as_slice-in-Some.ensures.value c.in_ok-path-in-Some.ensures in
    λ top e. looped modules c.args.top c.requires.top c.requires.openable c.in_ok-tree.tree.kinds.items children c.in_ok-tree.ensures placed.parts.items
    placed.numbers.items placed.free.items placed.words.items placed.starts.items c.in_ok-placed.ensures.placed c.in_ok-placed.ensures.whole wires are site.part
    site.signal loop path found top e

pub returns : goal.returns
returns c =
    let modules = c.args.modules.now in
    let placed = c.in_ok-placed.placed in
    let wires = c.in_ok-wires.wires.items in
    let are = subst (λ (ps : List Part). AreWires modules ps (signals_of (slice_get modules c.args.top)) (spot_of
    (slice_get ps 0)).base 0 wires) c.as_slice-parts.ensures.value c.in_ok-wires.ensures in
    let given : AreLoopless modules c.as_slice.result.now c.as_slice-parts.result.now (length c.as_slice-parts.result.now) = rw c.in-None.is at c.in_ok-site.ensures in
    let none : AreLoopless modules wires placed.parts.items (length placed.parts.items) =
    subst (λ (ps : List Part). AreLoopless modules wires ps (length ps)) c.as_slice-parts.ensures.value
    (subst (λ (ws : List Step). AreLoopless modules ws c.as_slice-parts.result.now (length c.as_slice-parts.result.now)) c.as_slice.ensures.value given) in
    no_loops modules c.args.top c.requires.top c.requires.openable c.in_ok-tree.tree.kinds.items c.in_ok-tree.tree.children.items c.in_ok-tree.ensures placed.parts.items
    placed.numbers.items placed.free.items placed.words.items placed.starts.items c.in_ok-placed.ensures.placed c.in_ok-placed.ensures.whole wires are none
