-- The ports that `top` may have, by sets of names.
use Rattle.std.specs.Prelude.{◌≡◌, ℕ, suc, Bool, true, false, not, ◌==◌, ◌&&◌, ◌||◌, nat_le, List, Option, Some, None, codes}
use Rattle.std.specs.Str.{bytes_eq}
use Rattle.std.proofs.Common.{refl, sym, ap, ◌∙◌, arith}
use Rattle.std.proofs.lemmas.Bool.{eqb-true, eq-eqb, leb-true, le-leb, and_parts, and_from}
use Rattle.std.proofs.lemmas.Slice.Eq.{bytes_eq-Decides}
use Rattle.std.proofs.Math.Bool.{or-true}
use Rattle.verilog_tree.specs.declared.tree.Direction.{Direction}
use Rattle.verilog_tree.specs.declared.tree.Direction.TheVariants as dir
use Rattle.verilog_tree.specs.declared.tree.Port.{Port}
use Rattle.verilog_tree.specs.Grammar.{clk}
use Rattle.verilog_tree.specs.Scope.{Name, Names, is_known, width_of}
use Rattle.verilog_tree.specs.WellFormed.{is_input}
use Rattle.verilog_reader.specs.Top.{pref, IsDone, IsEnable, IsPref, IsWanted, Clock, Done, Enable, Pref}
use Rattle.verilog_reader.specs.Ports.{is_done, is_enable, is_pref, is_wanted, AreNames, AreSame, ArePrefs, prefs_below, IsFirstUnwanted, IsUnwanted}
use Rattle.verilog_reader.proofs.Names.{among_prefs, at_least, is_among}

input_way : (d : Direction) → is_input d ≡ true → d ≡ dir.Input
input_way dir.Input h = refl
input_way dir.Output h = cc

output_way : (d : Direction) → not (is_input d) ≡ true → d ≡ dir.Output
output_way dir.Input h = cc
output_way dir.Output h = refl

done_to : (p : Port) → is_done p ≡ true → IsDone p
done_to p h =
    let a = and_parts (bytes_eq p.name (codes "done")) (not (is_input p.direction) && width_of p.high == 1) h in
    let b = and_parts (not (is_input p.direction)) (width_of p.high == 1) a.1 in
    record { name = (bytes_eq-Decides p.name (codes "done")).0 a.0; way = output_way p.direction b.0; bit = eqb-true (width_of p.high) 1 b.1 }

done_from : (p : Port) → IsDone p → is_done p ≡ true
done_from p h =
    and_from (bytes_eq p.name (codes "done")) _ ((bytes_eq-Decides p.name (codes "done")).1 h.name)
    (and_from (not (is_input p.direction)) _ (ap (λ d. not (is_input d)) h.way) (eq-eqb (width_of p.high) 1 h.bit))

enable_to : (p : Port) → is_enable p ≡ true → IsEnable p
enable_to p h =
    let a = and_parts (bytes_eq p.name (codes "en")) (is_input p.direction) h in
    record { name = (bytes_eq-Decides p.name (codes "en")).0 a.0; way = input_way p.direction a.1 }

enable_from : (p : Port) → IsEnable p → is_enable p ≡ true
enable_from p h = and_from (bytes_eq p.name (codes "en")) _ ((bytes_eq-Decides p.name (codes "en")).1 h.name) (ap is_input h.way)

module _ (ports : List Port) (names prefs set : Names) (known : AreNames ports names) (all : ArePrefs names prefs) (same : AreSame prefs set) where
  in_set : (x : Name) → is_known set x ≡ is_known (prefs_below (suc all.count)) x
  in_set x = same x ∙ ap (λ l. is_known l x) all.are

  pref_to : (p : Port) → is_pref set p ≡ true → IsPref ports p
  pref_to p h =
      let a = and_parts (is_known set p.name) (is_input p.direction && nat_le 4 (width_of p.high)) h in
      let b = and_parts (is_input p.direction) (nat_le 4 (width_of p.high)) a.1 in
      let found = among_prefs (suc all.count) p.name (sym (in_set p.name) ∙ a.0) in
      record {
        number = found.0;
        name = found.2;
        way = input_way p.direction b.0;
        wide = leb-true 4 (width_of p.high) b.1;
        gapless = λ k lt. let below = found.1 in sym (known (pref k)) ∙ all.before k (omega (arith, lt, below));
      }

  pref_from : (p : Port) → IsPref ports p → is_pref set p ≡ true
  pref_from p h =
      let le = at_least h.number all.count (λ lt. let clash : true ≡ false = sym (h.gapless all.count lt) ∙ sym (known (pref all.count)) ∙ all.last in cc (clash)) in
      let found = is_among (suc all.count) h.number (omega (arith, le)) in
      and_from (is_known set p.name) _ (ap (is_known set) h.name ∙ in_set (pref h.number) ∙ found) (and_from (is_input p.direction) _ (ap is_input h.way) (le-leb 4
      (width_of p.high) h.wide))

  wanted_to : (p : Port) → is_wanted set p ≡ true → IsWanted ports p
  wanted_to p h = by (bytes_eq p.name clk) (is_done p) (is_enable p) (is_pref set p) refl refl refl refl h where
    by : (a b c d : Bool) → bytes_eq p.name clk ≡ a → is_done p ≡ b → is_enable p ≡ c → is_pref set p ≡ d → (a || (b || (c || d))) ≡ true → IsWanted ports p
    by true b c d i j k l h = Clock ((bytes_eq-Decides p.name clk).0 i)
    by false true c d i j k l h = Done (done_to p j)
    by false false true d i j k l h = Enable (enable_to p k)
    by false false false true i j k l h = Pref (pref_to p l)
    by false false false false i j k l h = cc (h)

  wanted_from : (p : Port) → IsWanted ports p → is_wanted set p ≡ true
  wanted_from p (Clock e) = ap (λ b. b || (is_done p || (is_enable p || is_pref set p))) ((bytes_eq-Decides p.name clk).1 e)
  wanted_from p (Done d) = ap (λ b. bytes_eq p.name clk || (b || (is_enable p || is_pref set p))) (done_from p d) ∙ or-true (bytes_eq p.name clk)
  wanted_from p (Enable d) =
      ap (λ b. bytes_eq p.name clk || (is_done p || (b || is_pref set p))) (enable_from p d) ∙ ap (λ b. bytes_eq p.name clk || b) (or-true (is_done p)) ∙ or-true
      (bytes_eq p.name clk)
  wanted_from p (Pref d) =
      ap (λ b. bytes_eq p.name clk || (is_done p || (is_enable p || b))) (pref_from p d)
      ∙ ap (λ b. bytes_eq p.name clk || (is_done p || b)) (or-true (is_enable p)) ∙ ap (λ b. bytes_eq p.name clk || b) (or-true (is_done p)) ∙ or-true (bytes_eq p.name clk)

  pub unwanted_is : (r : Option ℕ) → IsFirstUnwanted set ports r → IsUnwanted ports r
  unwanted_is None h = λ k p e. wanted_to p (h k p e)
  unwanted_is (Some k) h =
      let found = h.0 in
      ((found.0, found.1, λ w. let no : true ≡ false = sym (wanted_from found.0 w) ∙ found.2 in cc (no)), λ j p lt e. wanted_to p (h.1 j p lt e))
