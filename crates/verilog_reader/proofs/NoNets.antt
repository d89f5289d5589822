-- Where a net is none that a simulator runs.
use Rattle.std.specs.Prelude.{◌≡◌, ℕ, ◌<◌, ◌≤◌, Bool, true, false, not, ◌==◌, ◌&&◌, ◌||◌, nat_lt, if◌then◌else◌, Option, Some, None, slice_get, codes}
use Rattle.std.specs.Str.{bytes_eq}
use Rattle.std.proofs.Common.{refl, sym, ap, ◌∙◌, subst, inl, inr, ⊎_elim, arith}
use Rattle.std.proofs.lemmas.Bool.{ltb-true, lt-ltb, ltb-false, eqb-true, eq-eqb, and_parts, and_from, not-true, and_cases, or_cases}
use Rattle.std.proofs.lemmas.Slice.Eq.{bytes_eq-Decides}
use Rattle.std.proofs.lemmas.Option.{same_Some}
use Rattle.verilog_tree.specs.declared.tree.Port.{Port}
use Rattle.verilog_tree.specs.declared.tree.Module.{Module}
use Rattle.verilog_tree.specs.declared.tree.Net.{Net}
use Rattle.verilog_tree.specs.Grammar.{clk}
use Rattle.verilog_tree.specs.Rules.{has_port}
use Rattle.verilog_tree.specs.Reads.{IsFilled}
use Rattle.verilog_tree.specs.WellFormed.{IsWellFormed}
use Rattle.net_check.specs.declared.fault.ModulePart.{ModulePart}
use Rattle.net_check.specs.declared.fault.ModulePart.TheVariants as part
use Rattle.net_check.specs.declared.fault.NetPart.{NetPart}
use Rattle.net_check.specs.declared.fault.NetPart.TheVariants as net
use Rattle.net_check.specs.Breaks.{StandsBefore, GoesBefore, IsFirstBroken}
use Rattle.net_check.proofs.Rules.{not_empty}
use Rattle.net_check.proofs.Found.{breaks_none}
use Rattle.verilog_reader.specs.Top.{top, IsWanted}
use Rattle.verilog_reader.specs.Ports.{IsUnwantedOf, has_ports}
use Rattle.verilog_reader.specs.declared.read.Place.{Place}
use Rattle.verilog_reader.specs.declared.read.Place.TheVariants as place
use Rattle.verilog_reader.specs.Faults.{IsTopAt, IsRunnable, IsSimulated, IsWrong, Broken, Unwanted, IsFirstWrong, NoneWrong}
use Rattle.verilog_reader.specs.Answers.{port_before, stands_before, IsBroken, or_unwanted, earlier, lacks_port, IsLacking, IsFaultAt, IsFaultOf}
use Rattle.verilog_reader.proofs.Names.{at_least}

-- a port that a `top` may not have stands at the first of them or behind it
record IsBehind (at : ℕ × ℕ) (j i : ℕ) : Type 0 where
  pub number : at.0 ≤ j
  pub port : j ≡ at.0 → at.1 ≤ i

module _ (n : Net) where
  none_unwanted : IsUnwantedOf n.modules None → (j i : ℕ) (m : Module) (p : Port) → IsTopAt n j m → slice_get m.ports i ≡ Some p → (IsWanted m.ports p → ⊥) → ⊥
  none_unwanted h j i m p is listed never = never (h j m is.listed ((bytes_eq-Decides m.name top).1 is.named) i p listed)

  behind : (at : ℕ × ℕ) → IsUnwantedOf n.modules (Some at) → (j i : ℕ) (m : Module) (p : Port) → IsTopAt n j m → slice_get m.ports i ≡ Some p → (IsWanted m.ports p → ⊥)
      → IsBehind at j i
  behind at h j i m p is listed never = record {
    number =
        let not_less : j < at.0 → ⊥ = λ lt. never (h.0 j m lt is.listed ((bytes_eq-Decides m.name top).1 is.named) i p listed) in
        at_least _ _ not_less;
    port = λ e.
        let here = h.1 in
        let same : here.0 ≡ m = same_Some _ _ (sym here.1 ∙ ap (slice_get n.modules) (sym e) ∙ is.listed) in
        let not_less : i < at.1 → ⊥ = λ lt.
        let listed' : slice_get here.0.ports i ≡ Some p = ap (λ x. slice_get x.ports i) same ∙ listed in
        never (subst (λ x. IsWanted x.ports p) same (here.3.1 i p lt listed')) in
        at_least _ _ not_less;
  }

  -- ---- no port is unwanted

  pub none_wrong : IsWellFormed n → IsUnwantedOf n.modules None → NoneWrong n
  none_wrong well none p (Broken b) = breaks_none n well p b
  none_wrong well none p (Unwanted j k m port e is listed never) = none_unwanted none j k m port is listed never

  broken_alone : (p : NetPart) → IsFirstBroken n p → IsUnwantedOf n.modules None → IsFirstWrong n p
  broken_alone p first none = record { wrong = Broken first.breaks; first = before } where
    before : (q : NetPart) → GoesBefore q p → IsWrong n q → ⊥
    before q goes (Broken b) = first.first q goes b
    before q goes (Unwanted j k m port e is listed never) = none_unwanted none j k m port is listed never

  -- ---- a port is unwanted

  unwanted_wrong : (at : ℕ × ℕ) → IsUnwantedOf n.modules (Some at) → IsWrong n (net.Module at.0 (part.Port at.1))
  unwanted_wrong at h =
      let here = h.1 in
      let port = here.3.0 in
      Unwanted at.0 at.1 here.0 port.0 refl (record { listed = here.1; named = (bytes_eq-Decides here.0.name top).0 here.2 }) port.1 port.2

  -- no unwanted port goes before the first of them
  not_before : (at : ℕ × ℕ) (j i : ℕ) → IsBehind at j i → GoesBefore (net.Module j (part.Port i)) (net.Module at.0 (part.Port at.1)) → ⊥
  not_before at j i far goes =
      ⊎_elim (λ lt. let a = far.number in absurd (omega (arith, a, lt))) (λ h. let a = far.port h.0 in let lt = h.1 in absurd (omega (arith, a, lt))) goes

  pub unwanted_alone : (at : ℕ × ℕ) → IsWellFormed n → IsUnwantedOf n.modules (Some at) → IsFirstWrong n (net.Module at.0 (part.Port at.1))
  unwanted_alone at well h = record { wrong = unwanted_wrong at h; first = before } where
    before : (q : NetPart) → GoesBefore q (net.Module at.0 (part.Port at.1)) → IsWrong n q → ⊥
    before q goes (Broken b) = breaks_none n well q b
    before q goes (Unwanted j i m port e is listed never) =
        not_before at j i (behind at h j i m port is listed never) (subst (λ x. GoesBefore x (net.Module at.0 (part.Port at.1))) e goes)

  -- ---- a part is broken and a port is unwanted

  port_first : (q p : ModulePart) (i : ℕ) → StandsBefore q (part.Port i) → port_before i p ≡ true → StandsBefore q p
  port_first part.Head part.Head i s t = cc
  port_first part.Head (part.Port k) i s t = tt
  port_first part.Head (part.Item k) i s t = tt
  port_first (part.Port j) part.Head i s t = cc
  port_first (part.Port j) (part.Port k) i s t = let lt = ltb-true i k t in omega (arith, s, lt)
  port_first (part.Port j) (part.Item k) i s t = tt
  port_first (part.Item j) p i s t = absurd s

  goes_on : (q : NetPart) (at : ℕ × ℕ) (k : ℕ) (p : ModulePart) → GoesBefore q (net.Module at.0 (part.Port at.1)) → stands_before at k p ≡ true → GoesBefore q (net.Module k p)
  goes_on net.Modules at k p goes before = tt
  goes_on (net.Module j q) at k p goes before =
      ⊎_elim
      (λ less.
      let lt = ltb-true at.0 k less in
      ⊎_elim (λ g. inl (omega (arith, g, lt))) (λ g. let e = g.0 in inl (omega (arith, e, lt))) goes)
      (λ here.
      let both = and_parts (at.0 == k) (port_before at.1 p) here in
      let same = eqb-true at.0 k both.0 in
      ⊎_elim (λ g. inl (omega (arith, g, same))) (λ g. inr (g.0 ∙ same, port_first q p at.1 g.1 both.1)) goes)
      (or_cases (nat_lt at.0 k) (at.0 == k && port_before at.1 p) before)

  unwanted_earlier : (k : ℕ) (p : ModulePart) (at : ℕ × ℕ) → IsFirstBroken n (net.Module k p) → IsUnwantedOf n.modules (Some at) → stands_before at k p ≡ true
      → IsFirstWrong n (net.Module at.0 (part.Port at.1))
  unwanted_earlier k p at first h stands = record { wrong = unwanted_wrong at h; first = before } where
    before : (q : NetPart) → GoesBefore q (net.Module at.0 (part.Port at.1)) → IsWrong n q → ⊥
    before q goes (Broken b) = first.first q (goes_on q at k p goes stands) b
    before q goes (Unwanted j i m port e is listed never) =
        not_before at j i (behind at h j i m port is listed never) (subst (λ x. GoesBefore x (net.Module at.0 (part.Port at.1))) e goes)

  later_port : (p : ModulePart) (i j : ℕ) → j ≤ i → StandsBefore (part.Port i) p → port_before j p ≡ true
  later_port part.Head i j le s = absurd s
  later_port (part.Port k) i j le s = lt-ltb j k (omega (arith, le, s))
  later_port (part.Item k) i j le s = refl

  -- what an unwanted port goes before, the first of them goes before
  first_stands : (at : ℕ × ℕ) (j i k : ℕ) (p : ModulePart) → IsBehind at j i → GoesBefore (net.Module j (part.Port i)) (net.Module k p) → stands_before at k p ≡ true
  first_stands at j i k p far goes = by (nat_lt at.0 k) refl where
    by : (v : Bool) → nat_lt at.0 k ≡ v → (v || (at.0 == k && port_before at.1 p)) ≡ true
    by true e = refl
    by false e =
        let le = ltb-false at.0 k e in
        let a = far.number in
        ⊎_elim (λ lt. absurd (omega (arith, le, a, lt)))
        (λ h.
        let same = h.0 in
        let here : j ≡ at.0 = omega (arith, le, a, same) in
        let it : at.0 ≡ k = omega (arith, here, same) in
        and_from (at.0 == k) (port_before at.1 p) (eq-eqb at.0 k it) (later_port p i at.1 (far.port here) h.1)) goes

  broken_earlier : (k : ℕ) (p : ModulePart) (at : ℕ × ℕ) → IsFirstBroken n (net.Module k p) → IsUnwantedOf n.modules (Some at) → stands_before at k p ≡ false
      → IsFirstWrong n (net.Module k p)
  broken_earlier k p at first h stands = record { wrong = Broken first.breaks; first = before } where
    before : (q : NetPart) → GoesBefore q (net.Module k p) → IsWrong n q → ⊥
    before q goes (Broken b) = first.first q goes b
    before q goes (Unwanted j i m port e is listed never) =
        let yes = first_stands at j i k p (behind at h j i m port is listed never) (subst (λ x. GoesBefore x (net.Module k p)) e goes) in
        let no : true ≡ false = sym yes ∙ stands in
        cc (no)

  -- ---- the clauses of the code

  pub or_unwanted_is : (k : ℕ) (p : ModulePart) (o : Option (ℕ × ℕ)) → IsFirstBroken n (net.Module k p) → IsUnwantedOf n.modules o → IsFaultAt n (or_unwanted k p o)
  or_unwanted_is k p None first h = inl (broken_alone (net.Module k p) first h)
  or_unwanted_is k p (Some at) first h = by (stands_before at k p) refl where
    by : (v : Bool) → stands_before at k p ≡ v → IsFaultAt n (if v then place.Part at.0 (part.Port at.1) else place.Part k p)
    by true e = inl (unwanted_earlier k p at first h e)
    by false e = inl (broken_earlier k p at first h e)

  pub earlier_is : (q : NetPart) (o : Option (ℕ × ℕ)) → IsFilled n.modules → IsFirstBroken n q → IsUnwantedOf n.modules o → IsFaultAt n (earlier q o)
  earlier_is net.Modules o full first h = let no : false ≡ true = sym (not_empty n.modules full) ∙ first.breaks in cc (no)
  earlier_is (net.Module k p) o full first h = or_unwanted_is k p o first h

  pub broken_fault : (b : Option NetPart) (o : Option (ℕ × ℕ)) (q : NetPart) (r : Place) → IsBroken n b → b ≡ Some q → IsFilled n.modules → IsUnwantedOf n.modules o
      → r ≡ earlier q o → IsFaultAt n r
  broken_fault b o q r h e full u is = subst (IsFaultAt n) (sym is) (earlier_is q o full (subst (IsBroken n) e h) u)

  pub unwanted_fault : (o : Option (ℕ × ℕ)) (at : ℕ × ℕ) → IsWellFormed n → IsUnwantedOf n.modules o → o ≡ Some at → IsFaultAt n (place.Part at.0 (part.Port at.1))
  unwanted_fault o at well u e = inl (unwanted_alone at well (subst (IsUnwantedOf n.modules) e u))

  runnable : (m : Module) → has_ports m ≡ true → ((k : ℕ) (p : Port) → slice_get m.ports k ≡ Some p → IsWanted m.ports p) → IsRunnable m
  runnable m has all = let both = and_parts (has_port m.ports clk) (has_port m.ports (codes "done")) has in record { clock = both.0; done = both.1; wanted = all }

  has_both : (m : Module) → bytes_eq m.name top ≡ true → lacks_port m ≡ false → has_ports m ≡ true
  has_both m named h = by (has_ports m) refl where
    by : (v : Bool) → has_ports m ≡ v → v ≡ true
    by true e = refl
    by false e = let clash : true ≡ false = sym (and_from (bytes_eq m.name top) (not (has_ports m)) named (ap not e)) ∙ h in cc (clash)

  pub lacking_is : (o : Option Place) → IsWellFormed n → IsUnwantedOf n.modules None → IsLacking n.modules o → IsFaultOf n o
  lacking_is None well none h =
      let found = h.0 in
      record {
        well_formed = well;
        number = found.0;
        top = found.1;
        is_top = record { listed = found.2; named = (bytes_eq-Decides found.1.name top).0 found.3 };
        runnable = λ k m is.
            let name = (bytes_eq-Decides m.name top).1 is.named in
            runnable m (has_both m name (h.1 k m is.listed)) (none k m is.listed name);
      }
  lacking_is (Some place.End) well none h = (none_wrong well none, λ k m is. h (k, m, is.listed, (bytes_eq-Decides m.name top).1 is.named))
  lacking_is (Some (place.Part k p)) well none h =
      let m = h.0.0 in
      let both = and_parts (bytes_eq m.name top) (not (has_ports m)) h.0.2 in
      inr (
        none_wrong well none,
        record {
          top = m;
          is_top = record { listed = h.0.1; named = (bytes_eq-Decides m.name top).0 both.0 };
          lacks = and_cases (has_port m.ports clk) (has_port m.ports (codes "done")) (not-true (has_ports m) both.1);
        },
        h.1,
      )

  -- ---- a net that a simulator runs has no such place

  pub no_fault : (p : Place) → IsSimulated n → IsFaultAt n p → ⊥
  no_fault place.End s h = h.1 s.number s.top s.is_top
  no_fault (place.Part k p) s h =
      ⊎_elim (λ first. no_wrong (net.Module k p) first.wrong) (λ h.
      let l = h.1 in
      let run = s.runnable k l.top l.is_top in
      ⊎_elim (λ e. let no : true ≡ false = sym run.clock ∙ e in cc (no)) (λ e. let no : true ≡ false = sym run.done ∙ e in cc (no)) l.lacks) h
    where
      no_wrong : (q : NetPart) → IsWrong n q → ⊥
      no_wrong q (Broken b) = breaks_none n s.well_formed q b
      no_wrong q (Unwanted j i m port e is listed never) = never ((s.runnable j m is).wanted i port listed)
