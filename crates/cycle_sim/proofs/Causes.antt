-- A net is laid out; where one instance at most writes, one part at most does.
use Rattle.std.specs.Prelude.{◌≡◌, ℕ, Bool, true, List, length, Option, Some, None, slice_get, refl}
use Rattle.std.proofs.Common.{ap, sym, ◌∙◌, subst, ⊎_elim}
use Rattle.std.proofs.lemmas.Option.{same_Some}
use Rattle.std.proofs.lemmas.Bool.{cases_eq}
use Rattle.netlist.specs.declared.netlist.Module.{Module}
use Rattle.verilog_meaning.specs.Cycles.{Path}
use Rattle.sim_values.specs.declared.settle.Step.{Step}
use Rattle.sim_values.specs.declared.edge.Part.{Part}
use Rattle.sim_layout.specs.Running.{some_write, IsRight}
use Rattle.sim_values.specs.Stands.{spot_of, place_of}
use Rattle.sim_values.specs.Tree.{IsTree}
use Rattle.sim_layout.specs.Placed.{IsPlaced}
use Rattle.sim_layout.specs.Wires.{signals_of, AreWires}
use Rattle.cycle_sim.specs.LaidOut.{IsLaidOut}
use Rattle.cycle_sim.specs.Opened.{writes_at, IsOne, IsWriter, AreTwo, LacksDone, IsTopNumber, IsRightNet, IsOpenable, Writes, HasPrinters}
use Rattle.cycle_sim.proofs.Laid.{part_at}

-- the tree, the places and the steps of a net
pub laid_out : (modules : List Module) (number : ℕ) (is : IsTopNumber modules number) → IsRightNet modules → (kinds children : List ℕ) → IsTree modules number kinds children
    → (parts : List Part) (numbers : List ℕ) (free : List Bool) (words starts : List ℕ) → IsPlaced modules kinds children parts numbers free words starts → length parts ≡ length kinds
    → (base : ℕ) → base ≡ (spot_of (slice_get parts 0)).base → (wires : List Step) (most : ℕ) → AreWires modules parts (signals_of (slice_get modules number)) base most wires
    → IsLaidOut modules is.top parts numbers free words starts wires most
laid_out modules number is right kinds children tree parts numbers free words starts placed whole base base_is wires most are = record {
  number = number;
  is_top = is.is_top;
  top_at = is.stands;
  right = right is.top is.is_top;
  kinds = kinds;
  children = children;
  tree = tree;
  placed = placed;
  whole = whole;
  base = base;
  base_is = base_is;
  are = subst (λ ss. AreWires modules parts ss base most wires) (ap signals_of is.stands) are;
}

-- what `open` takes has right widths, whichever module is called its `top`
pub right_net : (modules : List Module) → IsOpenable modules → IsRightNet modules
right_net modules is t e = subst (IsRight modules) (same_Some is.top t (sym is.is_top ∙ e)) is.right

-- and an output `done` of one bit
pub has_done : (modules : List Module) (number : ℕ) → IsTopNumber modules number → IsOpenable modules → LacksDone (signals_of (slice_get modules number)) → ⊥
has_done modules number top is lacks =
    let same = same_Some is.top top.top (sym is.is_top ∙ top.is_top) in
    let there = ap signals_of top.stands ∙ ap (λ (t : Module). t.signals) (sym same) in
    let done = is.done in
    subst LacksDone there lacks done.place done.signal done.is.listed (record { named = done.is.named; out = done.out; bit = done.bit })

writer : (o : Option Module) → writes_at o ≡ true → (m : Module) × (o ≡ Some m) × (some_write m.actions ≡ true)
writer None e = absurd cc
writer (Some m) e = (m, refl, e)

module _ {modules : List Module} {t : Module} {parts : List Part} {numbers : List ℕ} {free : List Bool} {words starts : List ℕ} {wires : List Step} {prefs : ℕ}
    (l : IsLaidOut modules t parts numbers free words starts wires prefs) where
  record WritesAt (q : ℕ) : Type 0 where
    pub path : Path
    pub place : place_of parts path ≡ q
    pub writes : Writes modules t path

  writes_there : (q : ℕ) → IsWriter modules parts q → WritesAt q
  writes_there q is =
      let m = writer (slice_get modules (is.part).module) is.writes in
      let r = part_at l q is.part is.listed m.0 m.1 in
      record { path = r.0; place = r.1; writes = record { kind = m.0; stands = r.2; writes = m.2 } }

  pub printers : AreTwo modules parts → HasPrinters modules
  printers two =
      let a = writes_there two.first two.writes in
      let b = writes_there two.other two.writes_too in
      record {
        top = t;
        is_top = l.is_top;
        path = a.path;
        other = b.path;
        apart = λ same. two.apart (sym b.place ∙ sym (ap (place_of parts) same) ∙ a.place);
        writes = a.writes;
        writes_too = b.writes;
      }

  pub one_of : (HasPrinters modules → ⊥) → IsOne modules parts
  one_of lacks q o p other at there a b = ⊎_elim
      (λ (same : q ≡ o). same)
      (λ (ne : q ≡ o → ⊥).
      absurd (lacks (printers (record {
        first = q;
        other = o;
        apart = λ e. ne (sym e);
        writes = record { part = p; listed = at; writes = a };
        writes_too = record { part = other; listed = there; writes = b };
      }))))
      (cases_eq q o)
