-- The net with a range of one bit is well formed and can be opened, and its netlist is not sound.
use Rattle.std.specs.Prelude.{◌≡◌, ℕ, zero, suc, ◌≤◌, true, false, List, [], ◌∷◌, Some, slice_get, codes, refl}
use Rattle.std.proofs.Common.{ap, sym, ◌∙◌, arith}
use Rattle.std.proofs.lemmas.Option.{same_Some, none-some}
use Rattle.verilog_tree.specs.declared.tree.Direction.TheVariants as direction
use Rattle.verilog_tree.specs.declared.tree.Port.{Port}
use Rattle.verilog_tree.specs.WellFormed.{IsWellFormed}
use Rattle.netlist.specs.NetlistOf.{module_of, netlist_of, width_of}
use Rattle.netlist.specs.Sound.{IsSound}
use Rattle.verilog_meaning.specs.Names.{numbered}
use Rattle.well_formed_net.specs.Example.{net, top, one_bit, done, OpensOneBit}
use Rattle.well_formed_net.specs.Openable.{HasTop}
use Rattle.well_formed_net.proofs.Texts.{openable_text}

well_formed : IsWellFormed net
well_formed = record {
  full = (tt, ((tt, (tt, tt)), tt));
  modules = (
    record {
      new = refl;
      name = refl;
      clock = refl;
      placed = refl;
      ports = (record { new = refl; width = refl; driven = refl; clock = refl }, (record { new = refl; width = refl; driven = refl; clock = refl }, tt));
      items = (record { new = refl; right = refl; driver = refl; writer = refl; initial = refl; complete = refl; printing = refl; printer = refl }, tt);
    },
    tt,
  );
}

abbrev first : List ℕ → ℕ
first [] = 0
first (b ∷ bytes) = b

other_name : (p : Port) (k b : ℕ) → first p.name ≡ b → (b ≡ 112 → ⊥) → p.name ≡ numbered (codes "pref") k → ⊥
other_name p k b e other named = other (sym e ∙ ap first named)

wide : (x k : ℕ) (p : Port) → slice_get top.ports x ≡ Some p → p.direction ≡ direction.Input → p.name ≡ numbered (codes "pref") k → 4 ≤ width_of p.high
wide zero k p e way named = absurd (other_name p k 97 (ap (λ (q : Port). first q.name) (sym (same_Some one_bit p e))) (λ z. omega (arith, z)) named)
wide (suc zero) k p e way named = absurd (other_name p k 100 (ap (λ (q : Port). first q.name) (sym (same_Some done p e))) (λ z. omega (arith, z)) named)
wide (suc (suc x)) k p e way named = absurd (none-some p e)

has_top : HasTop net
has_top = record { number = 0; top = top; listed = refl; named = refl; place = 1; done = done; done_listed = refl; done_named = refl; done_out = refl; done_bit = refl; wide = wide }

not_sound : IsSound (netlist_of net) → ⊥
unfolding netlist_of module_of
not_sound is = let fits = ((is.modules 0 (module_of [] top) refl).signals 1 _ refl).fits in let z : false ≡ true = fits in cc

pub opens : OpensOneBit
opens = record { well_formed = well_formed; opens = openable_text net well_formed has_top; not_sound = not_sound }
