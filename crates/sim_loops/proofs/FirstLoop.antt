-- What is found in the parts of a net is its first signal that depends on itself.
use Rattle.std.specs.Prelude.{◌≡◌, ℕ, Bool, List, length, Some, slice_get, refl}
use Rattle.std.proofs.Common.{ap, sym, ◌∙◌, subst}
use Rattle.std.proofs.lemmas.Option.{same_Some}
use Rattle.netlist.specs.declared.netlist.Module.{Module}
use Rattle.verilog_meaning.specs.Names.{top_of}
use Rattle.verilog_meaning.specs.Cycles.{Path}
use Rattle.verilog_meaning.specs.Threads.{Depends}
use Rattle.sim_values.specs.declared.settle.Step.{Step}
use Rattle.sim_values.specs.declared.edge.Part.{Part}
use Rattle.sim_values.specs.Stands.{spot_of}
use Rattle.sim_values.specs.Tree.{place_in, IsTree}
use Rattle.sim_layout.specs.Leads.{AreInRoom, AreWithin, AreLoopless, IsLoopOf}
use Rattle.sim_layout.specs.Placed.{IsPlaced}
use Rattle.sim_layout.specs.Wires.{signals_of, AreWires}
use Rattle.cycle_sim.specs.LaidOut.{IsLaidOut}
use Rattle.cycle_sim.specs.Opened.{IsOpenable, IsTopNumber}
use Rattle.cycle_sim.proofs.Causes.{right_net}
use Rattle.cycle_sim.proofs.Laid.{place_same, part_at}
use Rattle.cycle_sim.proofs.Stuck.{wires_in_room, parts_within}
use Rattle.sim_loops.specs.First.{IsLoopAt, IsLoopless}
use Rattle.sim_loops.specs.Search.{IsNested}
use Rattle.cycle_sim.proofs.Stuck.{some_module}
use Rattle.sim_loops.proofs.SelfDependence.{loop_at, none_loops}
use Rattle.sim_loops.proofs.InstancePath.{nested}

module _ (modules : List Module) (number : ℕ) (is : IsTopNumber modules number) (openable : IsOpenable modules) (kinds children : List ℕ)
    (tree : IsTree modules number kinds children)
    (parts : List Part) (numbers : List ℕ) (free : List Bool) (words starts : List ℕ) (placed : IsPlaced modules kinds children parts numbers free words starts)
    (whole : length parts ≡ length kinds) (wires : List Step)
    (are : AreWires modules parts (signals_of (slice_get modules number)) (spot_of (slice_get parts 0)).base 0 wires) where
  abbrev laid : IsLaidOut modules is.top parts numbers free words starts wires 0
  laid = record {
    number = number;
    is_top = is.is_top;
    top_at = is.stands;
    right = right_net modules openable is.top is.is_top;
    kinds = kinds;
    children = children;
    tree = tree;
    placed = placed;
    whole = whole;
    base = (spot_of (slice_get parts 0)).base;
    base_is = refl;
    are = subst (λ ss. AreWires modules parts ss (spot_of (slice_get parts 0)).base 0 wires) (ap signals_of is.stands) are;
  }

  pub room : AreInRoom modules wires (length numbers)
  room = wires_in_room laid

  pub within : AreWithin modules parts (length numbers)
  within = parts_within laid

  pub looped : (q x : ℕ) → IsLoopOf modules wires parts q x → (path : Path) → ((p : Path) → place_in children p ≡ q → IsNested children p → p ≡ path)
      → (top : Module) → top_of modules ≡ Some top → IsLoopAt modules top path x
  looped q x loop path found top top_is =
      let m = some_module x (slice_get modules loop.part.module) loop.loops.inside in
      let r = part_at laid q loop.part loop.listed m.0 m.1 in
      let same : r.0 ≡ path = found r.0 (sym (place_same laid r.0) ∙ r.1) (nested modules number kinds children is.top tree is.stands r.0 m.0 r.2) in
      let tops : is.top ≡ top = same_Some is.top top (sym is.is_top ∙ top_is) in
      subst (λ (t : Module). IsLoopAt modules t path x) tops (subst (λ (p : Path). IsLoopAt modules is.top p x) same (loop_at laid q x loop r.0 r.1 m.0 r.2))

  pub no_loops : AreLoopless modules wires parts (length parts) → IsLoopless modules
  no_loops none top e p d = none_loops laid none p (subst (λ (t : Module). Depends modules t p p) (same_Some top is.top (sym e ∙ is.is_top)) d)
