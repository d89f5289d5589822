-- In a net that is laid out in words a signal depends on itself exactly where its word leads to itself.
use Rattle.std.specs.Prelude.{◌≡◌, ℕ, ◌+◌, ◌<◌, Bool, List, length, Some, slice_get, refl}
use Rattle.std.proofs.Common.{ap, sym, ◌∙◌, subst, ⊎_elim, arith}
use Rattle.std.proofs.lemmas.Option.{slice_get_within}
use Rattle.lists.proofs.Places.{get_there}
use Rattle.netlist.specs.declared.netlist.Module.{Module}
use Rattle.verilog_meaning.specs.Cycles.{Path, module_at}
use Rattle.verilog_meaning.specs.Threads.{Place, Depends}
use Rattle.sim_values.specs.declared.settle.Step.{Step}
use Rattle.sim_values.specs.declared.edge.Part.{Part}
use Rattle.sim_values.specs.Stands.{place_of, spot_at, word_of}
use Rattle.sim_layout.specs.Wires.{signals_of}
use Rattle.sim_layout.specs.Leads.{IsLoopOf, Leads, AreLoopless}
use Rattle.sim_values.proofs.Trees.{rising, instance_of}
use Rattle.cycle_sim.specs.LaidOut.{IsLaidOut}
use Rattle.cycle_sim.proofs.Laid.{place_same, found, spot_is, laid}
use Rattle.cycle_sim.proofs.Stuck.{IsSignalAt, leads_of, first_signal, loop_of, no_loop_before}
use Rattle.sim_loops.specs.First.{IsLoopAt}

module _ {modules : List Module} {t : Module} {parts : List Part} {numbers : List ℕ} {free : List Bool} {words starts : List ℕ} {wires : List Step} {prefs : ℕ}
    (l : IsLaidOut modules t parts numbers free words starts wires prefs) where
  -- where no part has a loop, no signal depends on itself
  pub none_loops : AreLoopless modules wires parts (length parts) → (p : Place) → Depends modules t p p → ⊥
  none_loops none p d =
      let here = first_signal l d in
      let f = found l p.0 here.kind here.is.stands in
      no_loop_before l (length parts) none p here (slice_get_within parts (place_of parts p.0) f.part f.is.listed) d

  pub loop_at : (q x : ℕ) → (is : IsLoopOf modules wires parts q x) → (path : Path) → place_of parts path ≡ q → (m : Module) → module_at modules t path ≡ Some m
      → IsLoopAt modules t path x
  loop_at q x is path place m stands =
      let p = is.part in
      let loops = is.loops in
      let f = found l path m stands in
      let same : Some p ≡ Some f.part = sym is.listed ∙ ap (slice_get parts) (sym place) ∙ f.is.listed in
      let part : p ≡ f.part = cc in
      let spot : p.spot ≡ spot_at parts path = ap (λ (z : Part). z.spot) part ∙ sym (spot_is l path m f) in
      let kind : slice_get modules p.module ≡ Some m = ap (λ (z : Part). slice_get modules z.module) part ∙ f.is.kind in
      let s = get_there m.signals x (subst (λ o. x < length (signals_of o)) kind loops.inside) in
      let here : IsSignalAt l (path, x) = record { kind = m; signal = s.0; is = record { stands = stands; listed = s.1 } } in
      let leads : Leads modules wires (word_of parts path x) (word_of parts path x) = subst (λ u. Leads modules wires (u.base + x) (u.base + x)) spot loops.leads in
      record {
        kind = m;
        signal = s.0;
        is = here.is;
        depends = loop_of l (path, x) here leads;
        first = λ o earlier d.
            let there = first_signal l d in
            ⊎_elim
            (λ before.
            let less = rising modules l.number l.kinds l.children t l.tree l.top_at o.0 path
            (instance_of modules l.number l.kinds l.children t l.tree l.top_at o.0 there.kind there.is.stands)
            (instance_of modules l.number l.kinds l.children t l.tree l.top_at path m stands) before in
            let a = place_same l o.0 in
            let b = place_same l path in
            no_loop_before l q is.first o there (omega (arith, less, a, b, place)) d)
            (λ beside.
            let words : Leads modules wires (word_of parts path o.1) (word_of parts path o.1) = subst
            (λ (z : Path). Leads modules wires (word_of parts z o.1) (word_of parts z o.1)) beside.0 (leads_of l d) in
            loops.first o.1 beside.1 (subst (λ u. Leads modules wires (u.base + o.1) (u.base + o.1)) (sym spot) words))
            earlier;
      }
