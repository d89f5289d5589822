-- A net that a simulator runs can be opened.
use Rattle.std.specs.Prelude.{◌≡◌, ℕ, ◌<◌, ◌≤◌, true, is_some, List, [], ◌∷◌, Option, Some, None, codes, refl}
use Rattle.std.proofs.Common.{ap, sym, ◌∙◌, arith}
use Rattle.std.proofs.lemmas.Bool.{lt-ltb}
use Rattle.verilog_tree.specs.declared.tree.Port.{Port}
use Rattle.verilog_tree.specs.declared.tree.Net.{Net}
use Rattle.verilog_tree.specs.Grammar.{clk}
use Rattle.verilog_tree.specs.Rules.{port_named}
use Rattle.verilog_tree.specs.Scope as scope
use Rattle.netlist.specs.NetlistOf as n
use Rattle.netlist.specs.NetlistOf.{netlist_of}
use Rattle.well_formed_net.proofs.Connected.{port_found}
use Rattle.well_formed_net.proofs.Signals.{range_of}
use Rattle.cycle_sim.specs.Opened.{IsOpenable}
use Rattle.verilog_reader.specs.Top.{IsWanted, IsDone, pref}
use Rattle.verilog_reader.specs.Top.IsWanted.{Clock, Done, Enable, Pref}
use Rattle.verilog_reader.specs.Faults.{IsSimulated}
use Rattle.well_formed_net.specs.Openable.{HasTop}
use Rattle.well_formed_net.proofs.Texts.{openable_text}

abbrev pub first : List ℕ → ℕ
first [] = 0
first (b ∷ bytes) = b

-- two names that begin otherwise
pub other_first : (a b : List ℕ) (x y : ℕ) → first a ≡ x → first b ≡ y → (x ≡ y → ⊥) → a ≡ b → ⊥
other_first a b x y e f other same = other (sym e ∙ ap first same ∙ f)

pub some_port : (o : Option Port) → is_some o ≡ true → (p : Port) × (o ≡ Some p)
some_port None e = absurd cc
some_port (Some p) e = (p, refl)

-- of the ports that a `top` may have, an output `done`
done_port : (ports : List Port) (p : Port) → IsWanted ports p → p.name ≡ codes "done" → IsDone p
done_port ports p (Clock e) named = absurd (other_first clk (codes "done") 99 100 refl refl (λ z. omega (arith, z)) (sym e ∙ named))
done_port ports p (Done d) named = d
done_port ports p (Enable d) named = absurd (other_first (codes "en") (codes "done") 101 100 refl refl (λ z. omega (arith, z)) (sym d.name ∙ named))
done_port ports p (Pref d) named = absurd (other_first (pref d.number) (codes "done") 112 100 refl refl (λ z. omega (arith, z)) (sym d.name ∙ named))

-- a width that is not 0 is the one in a netlist
same_width : (high : Option ℕ) → 1 ≤ scope.width_of high → scope.width_of high ≡ n.width_of high
same_width high l = (range_of high (lt-ltb 0 (scope.width_of high) (let z : 0 < scope.width_of high = omega arith in z))).width

-- and an input `pref_k`, of 4 bits or more
pref_port : (ports : List Port) (p : Port) (k : ℕ) → IsWanted ports p → p.name ≡ pref k → 4 ≤ scope.width_of p.high
pref_port ports p k (Clock e) named = absurd (other_first clk (pref k) 99 112 refl refl (λ z. omega (arith, z)) (sym e ∙ named))
pref_port ports p k (Done d) named = absurd (other_first (codes "done") (pref k) 100 112 refl refl (λ z. omega (arith, z)) (sym d.name ∙ named))
pref_port ports p k (Enable d) named = absurd (other_first (codes "en") (pref k) 101 112 refl refl (λ z. omega (arith, z)) (sym d.name ∙ named))
pref_port ports p k (Pref d) named = d.wide

has_top : (net : Net) → IsSimulated net → HasTop net
has_top net is =
    let top = is.top in
    let r = is.runnable is.number top is.is_top in
    let o = some_port (port_named top.ports (codes "done")) r.done in
    let f = port_found top.ports (codes "done") o.0 o.1 in
    let d = done_port top.ports o.0 (r.wanted f.at o.0 f.found) f.name in
    record {
      number = is.number;
      top = top;
      listed = is.is_top.listed;
      named = is.is_top.named;
      place = f.at;
      done = o.0;
      done_listed = f.found;
      done_named = f.name;
      done_out = d.way;
      done_bit = (let bit = d.bit in sym (same_width o.0.high (omega arith)) ∙ bit);
      wide = λ x k p listed way named. (let w = pref_port top.ports p k (r.wanted x p listed) named in let e = same_width p.high (omega arith) in omega (arith, w, e));
    }

pub openable : (net : Net) → IsSimulated net → IsOpenable (netlist_of net).modules
openable net is = openable_text net is.well_formed (has_top net is)
