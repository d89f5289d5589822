-- A thread's module hears and asks the cores in their widths, at the ports of its promise.
use Rattle.std.proofs.Common.{◌≡◌, ℕ, zero, suc, ◌+◌, ◌<◌, List, [], ◌∷◌, ◌++◌, length, take, Option, Some, refl, sym, ap, ◌∙◌, subst, arith, length-append}
use Rattle.std.specs.Prelude.{replicate, slice_get, slice_index}
use Rattle.std.specs.List.{flat_map}
use Rattle.std.proofs.lemmas.List.{length-map, length-replicate}
use Rattle.std.proofs.lemmas.Option.{slice_get-get_or, same_Some, none-some}
use Rattle.netlist.specs.declared.netlist.Module.{Module}
use Rattle.circuit.specs.Modules.{Has}
use Rattle.circuit.specs.Interfaces.{first_of}
use Rattle.lists.proofs.Places.{get_front, get_back, get_mapped, copies_there}
use Rattle.leaf_machine.specs.Leaves.{LeafPorts}
use Rattle.leaf_machine.specs.Ports.{CorePort, asks_of, told_of, ask_place, told_place, thread_inputs, thread_outputs, IsRoutineModule}
use Rattle.core_family.specs.declared.cores.Cores.{Cores}
use Rattle.core_family.specs.Family.{CoreKind, machine_of, port_of, ask_width, told_width}
use Rattle.core_family.specs.Kinds.{kinds_of, ports_of}
use Rattle.core_family.proofs.OnePrinter.{each_fits}
use Rattle.c_program.specs.Tree.{Program}
use Rattle.law_cycle.specs.Bodies.{FitsCores, BodiesFit, core_at, core_count, core_machine}
use Rattle.law_cycle.specs.Built.{Parts, IsBuilt, thread_at}
use Rattle.law_cycle.specs.Thread.{ArePorts}
use Rattle.core_family.proofs.Listed.{core_there, count_is}

-- ---- joined lists, by number of the list

get_behind : {A : Type 0} (n : ℕ) (xs ys : List A) (i : ℕ) (x : A) → length xs ≡ n → slice_get ys i ≡ Some x → slice_get (xs ++ ys) (n + i) ≡ Some x
get_behind n xs ys i x e h = subst (λ (k : ℕ). slice_get (xs ++ ys) (k + i) ≡ Some x) e (get_back xs ys i x h)

get_joined : {A B : Type 0} (f : A → List B) (xs : List A) (k r : ℕ) (x : A) (y : B) → slice_get xs k ≡ Some x → slice_get (f x) r ≡ Some y →
    slice_get (flat_map f xs) (length (flat_map f (take k xs)) + r) ≡ Some y
get_joined f [] k r x y h g = absurd (none-some x h)
get_joined f (z ∷ xs) zero r x y h g =
    let there : slice_get (f z) r ≡ Some y = ap (λ w. slice_get (f w) r) (same_Some z x h) ∙ g in
    let e : r ≡ 0 + r = omega arith in
    subst (λ (k : ℕ). slice_get (f z ++ flat_map f xs) k ≡ Some y) e (get_front (f z) (flat_map f xs) r y there)
get_joined f (z ∷ xs) (suc k) r x y h g =
    let m = get_joined f xs k r x y h g in
    let n = length-append (f z) (flat_map f (take k xs)) in
    let q : length (f z) + (length (flat_map f (take k xs)) + r) ≡ length (f z ++ flat_map f (take k xs)) + r = omega arith in
    subst (λ (k : ℕ). slice_get (f z ++ flat_map f xs) k ≡ Some y) q (get_back (f z) (flat_map f xs) (length (flat_map f (take k xs)) + r) y m)

module _ (c : Cores) (name : List ℕ) (m : Module) (inputs : ℕ) (leaf : LeafPorts) (routine : IsRoutineModule name (ports_of c) m inputs leaf) where
  abbrev ports : List CorePort
  ports = ports_of c

  pub port_count : length ports ≡ core_count c
  port_count = length-map (kinds_of c) port_of ∙ count_is c

  -- core k has a port
  record HasPort (k : ℕ) : Type 0 where
    core : CoreKind
    is : core_at c k ≡ Some core
    listed : slice_get ports k ≡ Some (port_of core)
    parts_are : (core_machine c k).parts ≡ length (port_of core).asks
    told_are : (core_machine c k).told ≡ length (port_of core).told

  has_port : (k : ℕ) → k < core_count c → HasPort k
  has_port k l =
      let s = core_there c k l in
      record {
        core = s.0;
        is = s.1;
        listed = get_mapped port_of (kinds_of c) k s.0 s.1;
        parts_are = ap (λ (o : Option CoreKind). (machine_of o).parts) s.1 ∙ (each_fits s.0).asks;
        told_are = ap (λ (o : Option CoreKind). (machine_of o).told) s.1 ∙ (each_fits s.0).told;
      }

  input_has : (x w : ℕ) → slice_get (thread_inputs ports) x ≡ Some w → Has m x w
  input_has = routine.stands.interface.ports.inputs_are

  output_has : (x w : ℕ) → slice_get (thread_outputs ports) x ≡ Some w → Has m (first_of m (thread_outputs ports) + x) w
  output_has = routine.stands.interface.ports.outputs_are

  grant_has : (k : ℕ) → k < core_count c → Has m (leaf.grant k) 1
  grant_has k l =
      let below : k < length ports = (let n = port_count in omega (arith, n, l)) in
      let at : suc (suc k) ≡ leaf.grant k = (let e = routine.grant k below in omega (arith, e)) in
      subst (λ x. Has m x 1) at
      (input_has (suc (suc k)) 1 (get_front (replicate (length ports) 1) (told_of ports) k 1 (copies_there (length ports) 1 k below)))

  tells_has : (k j : ℕ) → k < core_count c → j < (core_machine c k).told → Has m (leaf.told k j) (told_width (core_at c k) j)
  tells_has k j l lt =
      let h = has_port k l in
      let inside : j < length (port_of h.core).told = (let e = h.told_are in omega (arith, e, lt)) in
      let width : told_width (core_at c k) j ≡ slice_index (port_of h.core).told j = ap (λ o. told_width o j) h.is ∙ (each_fits h.core).widths j inside in
      let found : slice_get (told_of ports) (told_place ports k + j) ≡ Some (told_width (core_at c k) j) =
      get_joined (λ (p : CorePort). p.told) ports k j (port_of h.core) (told_width (core_at c k) j) h.listed
      (slice_get-get_or (port_of h.core).told j 0 inside ∙ ap Some (sym width)) in
      let at : suc (suc (length ports + (told_place ports k + j))) ≡ leaf.told k j = (let e = routine.told k j (port_of h.core) h.listed inside in omega (arith, e)) in
      subst (λ x. Has m x (told_width (core_at c k) j)) at
      (input_has (suc (suc (length ports + (told_place ports k + j)))) (told_width (core_at c k) j)
      (get_behind (length ports) (replicate (length ports) 1) (told_of ports) (told_place ports k + j) (told_width (core_at c k) j) (length-replicate (length ports) 1) found))

  asks_has : (k j : ℕ) → k < core_count c → j < (core_machine c k).parts → Has m (leaf.ask k j) (ask_width (core_at c k) j)
  asks_has k j l lt =
      let h = has_port k l in
      let inside : j < length (port_of h.core).asks = (let e = h.parts_are in omega (arith, e, lt)) in
      let width : ask_width (core_at c k) j ≡ slice_index (port_of h.core).asks j = ap (λ o. ask_width o j) h.is in
      let found : slice_get (asks_of ports) (ask_place ports k + j) ≡ Some (ask_width (core_at c k) j) =
      get_joined (λ (p : CorePort). p.asks) ports k j (port_of h.core) (ask_width (core_at c k) j) h.listed
      (slice_get-get_or (port_of h.core).asks j 0 inside ∙ ap Some (sym width)) in
      subst (λ x. Has m x (ask_width (core_at c k) j)) (sym (routine.ask k j (port_of h.core) h.listed inside))
      (output_has (ask_place ports k + j) (ask_width (core_at c k) j) (get_front (asks_of ports) (1 ∷ 1 ∷ []) (ask_place ports k + j) (ask_width (core_at c k) j) found))

  pub fits : FitsCores c m leaf
  fits = record {
    enable = subst (λ x. Has m x 1) (sym routine.enable) (input_has 1 1 refl);
    grants = grant_has;
    tells = tells_has;
    asks = asks_has;
  }

pub bodies_fit : BodiesFit
bodies_fit P spreads c main code name b is = fits c name b.body b.inputs b.leaf is.routine

-- ---- of what is built

module _ (P : Program) (K : Parts) (built : IsBuilt P K) (i : ℕ) (lt : i < K.cores.threads) where
  pub body_fits : FitsCores K.cores (K.bodies i).body (K.bodies i).leaf
  body_fits =
      let b = built.bodies i lt in
      fits K.cores b.0 (K.bodies i).body (K.bodies i).inputs (K.bodies i).leaf b.1.routine

  pub body_ports : ArePorts (thread_at P K i)
  body_ports = record {
    uses = λ k l.
        let b = built.bodies i lt in
        b.1.routine.uses k (let n = port_count K.cores b.0 (K.bodies i).body (K.bodies i).inputs (K.bodies i).leaf b.1.routine in omega (arith, n, l));
    enable = refl;
    bank = λ n l. refl;
    core = λ k act. record { grant = refl; ask = refl; number = refl; value = λ j l. refl; told = λ j l. refl };
    done = refl;
  }
