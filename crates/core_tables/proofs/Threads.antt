-- The module of a thread stands at the places of the layout, and all that it puts out is early.
use Rattle.std.proofs.Common.{◌≡◌, ◌⊎◌, ℕ, ◌+◌, ◌<◌, ◌≤◌, Bool, true, false, List, [], ◌∷◌, length, Option, Some, sym, ap, ◌∙◌, subst, ⊎_elim, arith, length-append}
use Rattle.std.specs.Prelude.{◌&&◌, slice_get}
use Rattle.std.proofs.lemmas.Bool.{cases_lt, and_right, and_left}
use Rattle.std.proofs.lemmas.Bool.Decides.{nat_tests}
use Rattle.std.proofs.lemmas.Option.{slice_get_within}
use Rattle.std.proofs.lemmas.List.{length-map}
use Rattle.verilog_tree.proofs.Tests.{and_both}
use Rattle.hls_ints.specs.Residues.{bit_of}
use Rattle.netlist.specs.declared.netlist.Module.{Module}
use Rattle.circuit.specs.Modules.{IsLeaf}
use Rattle.circuit.specs.Interfaces.{first_of, HasInterface}
use Rattle.circuit.specs.Machines.{IsThread}
use Rattle.leaf_machine.specs.Leaves.{LeafPorts, leaf_thread, leaf_places, IsSlotBit, IsThreadLeaf as IsLeafOfThread}
use Rattle.leaf_machine.proofs.Leaves.{leaf_is_thread, slot_bit_is}
use Rattle.top_wiring.specs.Leaves.{IsThreadLeaf}
use Rattle.top_wiring.specs.Machine.{IsThreadAt}
use Rattle.top_wiring.specs.Parts.{ask_widths, told_widths, thread_outputs}
use Rattle.top_wiring.specs.Ports.{thread_inputs}
use Rattle.lists.proofs.Places.{get_there}
use Rattle.top_wiring.proofs.Lists.{flat_map_back}
use Rattle.leaf_machine.specs.Ports as port
use Rattle.core_family.specs.Family.{CoreKind, machine_of, machine_at, port_of}
use Rattle.core_family.proofs.OnePrinter.{each_fits}
use Rattle.core_tables.specs.Tables.{PlacedCore, Table, kinds_at, laid_core, layout_of, kinds_in, ports_of}
use Rattle.core_tables.specs.Laws.{parts, told, ThreadStands, ThreadsFit}
use Rattle.core_tables.proofs.Late.{both_late, joint_leaf}
use Rattle.core_tables.proofs.Lists.{map_get, map_back}
use Rattle.core_tables.proofs.Widths.{asks_are, news_are, thread_ports}

module _ (t : Table) (name : List ℕ) (m : Module) (inputs : ℕ) (leaf : LeafPorts) (routine : port.IsRoutineModule name (ports_of t) m inputs leaf)
    (thread : IsLeafOfThread m inputs leaf (length t.cores) (parts t) (told t)) (done : IsSlotBit m inputs leaf (length t.cores) (parts t) (told t) leaf.done) where
  abbrev ports : List port.CorePort
  ports = ports_of t

  abbrev C : ℕ
  C = length t.cores

  abbrev asks_late : ℕ → Bool
  asks_late = thread.late

  abbrev need_late : ℕ → Bool
  need_late = thread.need.late

  abbrev done_late : ℕ → Bool
  done_late = done.late

  -- late is what is so for the requests, for need and for done
  abbrev late : ℕ → Bool
  late = both_late asks_late (both_late need_late done_late)

  abbrev outs : List ℕ
  outs = thread_outputs (ask_widths (layout_of t).cores)

  abbrev first : ℕ
  first = first_of m outs

  abbrev asked : ℕ
  asked = length (port.asks_of ports)

  -- ---- the cores and their ports

  port_count : length ports ≡ C
  port_count = length-map t.cores (λ (c : PlacedCore). port_of c.kind)

  cores_count : length (layout_of t).cores ≡ C
  cores_count = length-map t.cores (laid_core (kinds_at t))

  -- a core and its port
  record HasPort (k : ℕ) : Type 0 where
    core : PlacedCore
    listed : slice_get ports k ≡ Some (port_of core.kind)
    parts_are : parts t k ≡ length (port_of core.kind).asks
    told_are : told t k ≡ length (port_of core.kind).told

  of_core : (k : ℕ) (c : PlacedCore) → slice_get t.cores k ≡ Some c → HasPort k
  of_core k c e =
      let shape : slice_get (kinds_in t) k ≡ Some c.kind = map_get (λ (z : PlacedCore). z.kind) t.cores k c e in
      record {
        core = c;
        listed = map_get (λ (z : PlacedCore). port_of z.kind) t.cores k c e;
        parts_are = ap (λ (o : Option CoreKind). (machine_of o).parts) shape ∙ (each_fits c.kind).asks;
        told_are = ap (λ (o : Option CoreKind). (machine_of o).told) shape ∙ (each_fits c.kind).told;
      }

  has_port : (k : ℕ) → k < C → HasPort k
  has_port k l = let c = get_there t.cores k l in of_core k c.0 c.1

  -- the core of a port
  record IsPortOf (k : ℕ) (p : port.CorePort) : Type 0 where
    below : k < C
    parts_are : parts t k ≡ length p.asks
    told_are : told t k ≡ length p.told

  of_port : (k : ℕ) (p : port.CorePort) → slice_get ports k ≡ Some p → IsPortOf k p
  of_port k p e =
      let b = map_back (λ (z : PlacedCore). port_of z.kind) t.cores k p e in
      let shape : slice_get (kinds_in t) k ≡ Some b.0.kind = map_get (λ (z : PlacedCore). z.kind) t.cores k b.0 b.1 in
      record {
        below = slice_get_within t.cores k b.0 b.1;
        parts_are = ap (λ (o : Option CoreKind). (machine_of o).parts) shape ∙ (each_fits b.0.kind).asks ∙ ap (λ (q : port.CorePort). length q.asks) (sym b.2);
        told_are = ap (λ (o : Option CoreKind). (machine_of o).told) shape ∙ (each_fits b.0.kind).told ∙ ap (λ (q : port.CorePort). length q.told) (sym b.2);
      }

  -- ---- where its ports stand

  same_outputs : port.thread_outputs ports ≡ outs
  same_outputs = sym (thread_ports t).outputs

  first_is : first_of m (port.thread_outputs ports) ≡ first
  first_is = ap (first_of m) same_outputs

  uses : (k : ℕ) → k < C → leaf.uses k ≡ true
  uses k l = routine.uses k (let n = port_count in omega (arith, n, l))

  ask_at : (k j : ℕ) (p : port.CorePort) → slice_get ports k ≡ Some p → j < length p.asks → leaf.ask k j ≡ first + (port.ask_place ports k + j)
  ask_at k j p e l = routine.ask k j p e l ∙ ap (λ z. z + (port.ask_place ports k + j)) first_is

  need_at : leaf.need ≡ first + asked
  need_at = routine.need ∙ ap (λ z. z + asked) first_is

  done_at : leaf.done ≡ first + (asked + 1)
  done_at = routine.done ∙ ap (λ z. z + (asked + 1)) first_is

  -- ---- what is late

  grant_late : (k : ℕ) → k < C → late (2 + k) ≡ true
  grant_late k l =
      subst (λ z. late z ≡ true) (routine.grant k (let n = port_count in omega (arith, n, l)))
      (and_both (asks_late (leaf.grant k)) (need_late (leaf.grant k) && done_late (leaf.grant k)) (thread.answered.grants k l (uses k l))
      (and_both (need_late (leaf.grant k)) (done_late (leaf.grant k)) (thread.need.answered.grants k l (uses k l)) (done.answered.grants k l (uses k l))))

  told_late : (x : ℕ) → x < length (port.told_of ports) → late (2 + C + x) ≡ true
  told_late x l =
      let w = get_there (port.told_of ports) x l in
      let at = flat_map_back (λ (p : port.CorePort). p.told) ports x w.0 w.1 in
      let k = at.number in
      let p = of_port k at.item at.listed in
      let inside : at.rest < length at.item.told = slice_get_within at.item.told at.rest w.0 at.found in
      let below : at.rest < told t k = (let e = p.told_are in omega (arith, e, inside)) in
      let place : leaf.told k at.rest ≡ 2 + C + x = (let e = routine.told k at.rest at.item at.listed inside in let n = port_count in let d = at.place in omega (arith, e, n, d)) in
      subst (λ z. late z ≡ true) place
      (and_both (asks_late (leaf.told k at.rest)) (need_late (leaf.told k at.rest) && done_late (leaf.told k at.rest))
      (thread.answered.tells k at.rest p.below (uses k p.below) below)
      (and_both (need_late (leaf.told k at.rest)) (done_late (leaf.told k at.rest)) (thread.need.answered.tells k at.rest p.below (uses k p.below) below)
      (done.answered.tells k at.rest p.below (uses k p.below) below)))

  asks_early : (x : ℕ) → x < asked → late (first + x) ≡ false
  asks_early x l =
      let w = get_there (port.asks_of ports) x l in
      let at = flat_map_back (λ (p : port.CorePort). p.asks) ports x w.0 w.1 in
      let k = at.number in
      let p = of_port k at.item at.listed in
      let inside : at.rest < length at.item.asks = slice_get_within at.item.asks at.rest w.0 at.found in
      let below : at.rest < parts t k = (let e = p.parts_are in omega (arith, e, inside)) in
      let place : leaf.ask k at.rest ≡ first + x = ask_at k at.rest at.item at.listed inside ∙ ap (λ z. first + z) (sym at.place) in
      subst (λ z. late z ≡ false) place
      (and_left (asks_late (leaf.ask k at.rest)) (need_late (leaf.ask k at.rest) && done_late (leaf.ask k at.rest))
      (thread.asks k at.rest p.below (uses k p.below) below).1.early)

  need_early : late (first + asked) ≡ false
  need_early =
      subst (λ z. late z ≡ false) need_at
      (and_right (asks_late leaf.need) (need_late leaf.need && done_late leaf.need) (and_left (need_late leaf.need) (done_late leaf.need) thread.need.bit.early))

  done_early : late (first + (asked + 1)) ≡ false
  done_early =
      subst (λ z. late z ≡ false) done_at
      (and_right (asks_late leaf.done) (need_late leaf.done && done_late leaf.done) (and_right (need_late leaf.done) (done_late leaf.done) done.bit.early))

  early : (x : ℕ) → x < length outs → late (first + x) ≡ false
  early x l =
      let many : length outs ≡ asked + 2 =
      (let a = ap length same_outputs in let s = length-append {A = ℕ} (port.asks_of ports) (1 ∷ 1 ∷ []) in omega (arith, a, s)) in
      ⊎_elim (λ (b : x < asked). asks_early x b)
      (λ (le : asked ≤ x).
      ⊎_elim (λ (e : x ≡ asked). subst (λ z. late (first + z) ≡ false) (sym e) need_early)
      (λ (e : x ≡ asked + 1). subst (λ z. late (first + z) ≡ false) (sym e) done_early)
      (let c : (x ≡ asked) ⊎ (x ≡ asked + 1) = last_two x asked (omega (arith, many, l)) le in c))
      (cases_lt x asked)
    where
      last_two : (x a : ℕ) → x < a + 2 → a ≤ x → (x ≡ a) ⊎ (x ≡ a + 1)
      last_two x a l le = grind (arith, nat_tests)

  -- ---- at the places of the layout

  interface : HasInterface m (thread_inputs (layout_of t)) outs
  interface =
      subst (λ (os : List ℕ). HasInterface m (thread_inputs (layout_of t)) os) same_outputs
      (subst (λ (is : List ℕ). HasInterface m is (port.thread_outputs ports)) (sym (thread_ports t).inputs) routine.stands.interface)

  whole_leaf : IsLeaf m (length (thread_inputs (layout_of t))) late
  whole_leaf =
      subst (λ z. IsLeaf m z late) (routine.inputs_are ∙ ap length (sym (thread_ports t).inputs))
      (joint_leaf m inputs asks_late (both_late need_late done_late) thread.answered.leaf
      (joint_leaf m inputs need_late done_late thread.need.answered.leaf done.answered.leaf))

  thread_leaf : IsThreadLeaf (layout_of t) late m
  thread_leaf = record {
    leaf = whole_leaf;
    ports = interface.ports;
    grants_late = λ k l. grant_late k (let n = cores_count in omega (arith, n, l));
    told_late = λ x l.
        let n = cores_count in
        let e : 2 + C + x ≡ 2 + length (layout_of t).cores + x = omega (arith, n) in
        subst (λ z. late z ≡ true) e (told_late x (let w = told_count in omega (arith, w, l)));
    early = early;
  }
    where
      told_count : length (port.told_of ports) ≡ length (told_widths (layout_of t).cores)
      told_count = sym (ap length (news_are (kinds_at t) t.cores))

  promise : IsThread (leaf_thread m leaf) (leaf_places m leaf) C (parts t) (told t) m
  promise = leaf_is_thread m inputs leaf C (parts t) (told t) thread

  done_place : leaf.done ≡ first + (length (ask_widths (layout_of t).cores) + 1)
  done_place = done_at ∙ ap (λ z. first + (z + 1)) (sym (ap length (asks_are (kinds_at t) t.cores)))

  thread_at : IsThreadAt (layout_of t) (leaf_thread m leaf) (leaf_places m leaf) (machine_at (kinds_in t)) m
  thread_at = record {
    is = subst (λ n. IsThread (leaf_thread m leaf) (leaf_places m leaf) n (parts t) (told t) m) (sym cores_count) promise;
    uses = λ k l. uses k (let n = cores_count in omega (arith, n, l));
    enable = routine.enable;
    grant = λ k l. routine.grant k (let n = cores_count in let p = port_count in omega (arith, n, p, l));
    told = λ k j l lt.
        let h = has_port k (let n = cores_count in omega (arith, n, l)) in
        let inside : j < length (port_of h.core.kind).told = (let e = h.told_are in omega (arith, e, lt)) in
        let at = routine.told k j (port_of h.core.kind) h.listed inside in
        let n = cores_count in let p = port_count in let b = (thread_ports t).told k in
        omega (arith, at, n, p, b);
    done = λ r s obeys shown.
        subst (λ z. r.signal z ≡ bit_of ((leaf_thread m leaf).is_done s)) done_place
        (slot_bit_is m inputs leaf C (parts t) (told t) thread leaf.done done r s obeys shown);
    ask = λ k j l lt.
        let h = has_port k (let n = cores_count in omega (arith, n, l)) in
        let inside : j < length (port_of h.core.kind).asks = (let e = h.parts_are in omega (arith, e, lt)) in
        ask_at k j (port_of h.core.kind) h.listed inside ∙ ap (λ z. first + (z + j)) (sym ((thread_ports t).asked k));
  }

  pub thread_stands : ThreadStands t m leaf
  thread_stands = record { late = late; early = thread_leaf; promise = thread_at; interface = interface; done = done_place }

pub threads_fit : ThreadsFit
threads_fit t name m inputs leaf routine thread done = thread_stands t name m inputs leaf routine thread done
