-- A core whose ports stand in order fits a layout.
use Rattle.std.proofs.Common.{◌≡◌, ℕ, ◌+◌, ◌*◌, ◌<◌, Bool, true, false, replicate, List, ◌∷◌, length, map, take, Some, sym, ap, ◌∙◌, subst, arith}
use Rattle.std.specs.Prelude.{slice_get}
use Rattle.netlist.specs.declared.netlist.Module.{Module}
use Rattle.circuit.specs.Modules.{IsLeaf}
use Rattle.circuit.specs.Interfaces.{first_of, HasInterface}
use Rattle.circuit.specs.Machines.{CoreMachine, CorePlaces, IsCore}
use Rattle.top_parts.specs.declared.layout.Group.{Group}
use Rattle.top_parts.specs.declared.layout.Core.{Core}
use Rattle.top_parts.specs.declared.layout.Layout.{Layout}
use Rattle.top_wiring.specs.Parts.{group_widths, core_outputs}
use Rattle.top_wiring.specs.Ports.{threads, core_inputs}
use Rattle.top_wiring.specs.Leaves.{IsCoreLeaf}
use Rattle.top_wiring.specs.Machine.{IsCoreAt}
use Rattle.core_tables.specs.Fits.{group}
use Rattle.core_tables.proofs.Ports.{inputs, outputs, joined, width_count, part_is}

-- the ports of a core of n threads, whose asks and what it tells have these widths, stand one behind the other, and its outputs last
pub record StandsFor (n : ℕ) (asks told : List ℕ) (c : CoreMachine) (p : CorePlaces c) (late : ℕ → Bool) (m : Module) : Type 0 where
  pub core : IsCore c p n m
  pub parts : c.parts ≡ length asks
  pub tells : c.told ≡ length told
  pub ask : (j i : ℕ) → j < length asks → i < n → p.ask j i ≡ 1 + (n * j + i)
  pub grant : (i : ℕ) → i < n → p.grant i ≡ 1 + (n * length asks + i)
  pub offer : (i : ℕ) → i < n → p.offer i ≡ first_of m (outputs n told) + i
  pub tell : (j i : ℕ) → j < length told → i < n → p.tell j i ≡ first_of m (outputs n told) + (n + (j * n + i))
  pub interface : HasInterface m (inputs n asks) (outputs n told)
  pub leaf : IsLeaf m (length (inputs n asks)) late
  pub grants_late : (i : ℕ) → i < n → late (1 + (n * length asks + i)) ≡ true
  pub early : (x : ℕ) → x < length (outputs n told) → late (first_of m (outputs n told) + x) ≡ false

module _ (layout : Layout) (asks told : List ℕ) (number : ℕ) (name : List ℕ) (c : CoreMachine) (p : CorePlaces c) (late : ℕ → Bool) (m : Module)
    (stands : StandsFor (threads layout) asks told c p late m) where
  abbrev n : ℕ
  n = threads layout

  abbrev core : Core
  core = record { «module» = number; name = name; groups = map (group 1) asks; told = told }

  same_inputs : core_inputs layout core ≡ inputs n asks
  same_inputs = ap (λ (l : List ℕ). 1 ∷ l) (joined n asks (replicate n 1))

  ask_at : (g j i : ℕ) (x : Group) → slice_get (map (group 1) asks) g ≡ Some x → j < x.count → i < n
      → p.ask (length (group_widths (take g (map (group 1) asks))) + j) i ≡ 1 + (n * length (group_widths (take g (map (group 1) asks))) + (i * x.count + j))
  ask_at g j i x e l il =
      let part = part_is asks g x e in
      let one = part.one in
      let none : j ≡ 0 = omega (arith, one) in
      let there : length (group_widths (take g (map (group 1) asks))) + j ≡ g = (let b = part.before in omega (arith, b, none)) in
      let here : i ≡ i * 1 + j = omega (arith, none) in
      let same : i ≡ i * x.count + j = here ∙ ap (λ k. i * k + j) (sym one) in
      ap (λ z. p.ask z i) there ∙ stands.ask g i part.below il ∙ ap (λ z. 1 + (n * z + i)) (sym part.before)
      ∙ ap (λ z. 1 + (n * length (group_widths (take g (map (group 1) asks))) + z)) same

  pub at : IsCoreAt layout c p core m
  at = record {
    is = stands.core;
    parts = stands.parts ∙ sym (width_count asks);
    told = stands.tells;
    ask = ask_at;
    grant = λ i l. stands.grant i l ∙ ap (λ k. 1 + (n * k + i)) (sym (width_count asks));
    offer = stands.offer;
    tell = stands.tell;
  }

  pub interface : HasInterface m (core_inputs layout core) (core_outputs n core)
  interface = subst (λ (l : List ℕ). HasInterface m l (outputs n told)) (sym same_inputs) stands.interface

  pub leaf : IsCoreLeaf layout late core m
  leaf = record {
    leaf = subst (λ (l : List ℕ). IsLeaf m (length l) late) (sym same_inputs) stands.leaf;
    ports = interface.ports;
    grants_late = λ i l. ap (λ k. late (1 + (n * k + i))) (width_count asks) ∙ stands.grants_late i l;
    early = stands.early;
  }
