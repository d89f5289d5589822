-- The module of a table of rows can stand in a table of modules: its names are apart, and what each row needs.
use Rattle.std.proofs.Common.{◌≡◌, ℕ, zero, suc, ◌+◌, ◌-◌, ◌^◌, ◌<◌, Bool, true, false, nat_eq, if◌then◌else◌, List, [], ◌∷◌, ◌++◌, length, map, replicate, Some}
use Rattle.std.proofs.Common.{refl, sym, ap, ◌∙◌, subst, arith}
use Rattle.std.specs.Prelude.{slice_get, decimal}
use Rattle.std.proofs.lemmas.Bool.Decides.{nat_tests}
use Rattle.std.proofs.lemmas.Fmt.{decimal_injective}
use Rattle.std.proofs.lemmas.List.{append-nil}
use Rattle.std.proofs.lemmas.Option.{same_Some, none-some, slice_get_within}
use Rattle.verilog_tree.specs.Scope.{is_clk}
use Rattle.netlist.specs.declared.netlist.Signal.{Signal}
use Rattle.netlist.specs.declared.netlist.Memory.{Memory}
use Rattle.netlist.specs.declared.netlist.Instance.{Instance}
use Rattle.netlist.specs.declared.netlist.Module.{Module}
use Rattle.netlist.specs.Laid.{AreApart, signal_names, memory_names, instance_names, declared_names}
use Rattle.circuit.specs.declared.rows.Role.{Role}
use Rattle.circuit.specs.declared.rows.Role.TheVariants as role
use Rattle.circuit.specs.Rows.{is_clock, name_of}
use Rattle.circuit.specs.Modules.{Has}
use Rattle.circuit.specs.Interfaces.{HasPorts}
use Rattle.circuit.proofs.LeafForm.{IsFormed}

-- ---- names

-- what stands behind the first underscore
abbrev pub behind_dash : List ℕ → List ℕ
behind_dash [] = []
behind_dash (c ∷ cs) = if nat_eq c 95 then cs else behind_dash cs

number_of : (r : Role) (place : ℕ) → is_clock r ≡ false → behind_dash (name_of r place) ≡ decimal place
number_of role.Clock place e = absurd cc
number_of role.Preference place e = refl
number_of role.Ask place e = refl
number_of role.Operation place e = refl
number_of role.Address place e = refl
number_of role.Data place e = refl
number_of role.Argument place e = refl
number_of role.Site place e = refl
number_of role.Value place e = refl
number_of role.Offer place e = refl
number_of role.Grant place e = refl
number_of role.Told place e = refl
number_of role.State place e = refl
number_of role.Wire place e = refl

pub clock_name : (r : Role) (place : ℕ) → is_clk (name_of r place) ≡ is_clock r
clock_name role.Clock place = refl
clock_name role.Preference place = refl
clock_name role.Ask place = refl
clock_name role.Operation place = refl
clock_name role.Address place = refl
clock_name role.Data place = refl
clock_name role.Argument place = refl
clock_name role.Site place = refl
clock_name role.Value place = refl
clock_name role.Offer place = refl
clock_name role.Grant place = refl
clock_name role.Told place = refl
clock_name role.State place = refl
clock_name role.Wire place = refl

abbrev pub HasRole : ℕ → Signal → Type 0
HasRole x s = (r : Role) × (s.name ≡ name_of r x)

-- an element of mapped names
mapped : {A : Type 0} (f : A → List ℕ) (xs : List A) (i : ℕ) (x : List ℕ) → slice_get (map f xs) i ≡ Some x → (a : A) × (slice_get xs i ≡ Some a) × (x ≡ f a)
mapped f [] i x h = absurd (none-some x h)
mapped f (a ∷ xs) zero x h = (a, refl, sym (same_Some (f a) x h))
mapped f (a ∷ xs) (suc i) x h = mapped f xs i x h

-- each signal is named by its role and its place
module _ (m : Module) (role_at : (x : ℕ) (s : Signal) → slice_get m.signals x ≡ Some s → HasRole x s) (small : length m.signals < 2 ^ 64) (ends : ℕ)
    (formed : (x : ℕ) (s : Signal) → slice_get m.signals x ≡ Some s → IsFormed m ends x s) where
  same_number : (b : Bool) (x y : ℕ) (s t : Signal) → slice_get m.signals x ≡ Some s → slice_get m.signals y ≡ Some t → s.name ≡ t.name → nat_eq x 0 ≡ b → x ≡ y
  same_number true x y s t e f q first =
      let other : nat_eq y 0 ≡ true = sym (formed y t f).clock ∙ ap is_clk (sym q) ∙ (formed x s e).clock ∙ first in
      let a : x ≡ 0 = grind (arith, nat_tests) in let b : y ≡ 0 = grind (arith, nat_tests) in a ∙ sym b
  same_number false x y s t e f q first =
      let r = role_at x s e in let p = role_at y t f in
      let here : is_clock r.0 ≡ false = sym (clock_name r.0 x) ∙ ap is_clk (sym r.1) ∙ (formed x s e).clock ∙ first in
      let there : is_clock p.0 ≡ false = sym (clock_name p.0 y) ∙ ap is_clk (sym p.1) ∙ ap is_clk (sym q) ∙ (formed x s e).clock ∙ first in
      let a = slice_get_within m.signals x s e in let b = slice_get_within m.signals y t f in
      decimal_injective x y (omega arith) (omega arith)
      (sym (number_of r.0 x here) ∙ ap behind_dash (sym r.1 ∙ q ∙ p.1) ∙ number_of p.0 y there)

  -- no signal but the clock stands at place 0
  pub not_zero : (x : ℕ) (s : Signal) → slice_get m.signals x ≡ Some s → (y : List ℕ) → s.name ≡ y → behind_dash y ≡ decimal 0 → is_clk y ≡ false → ⊥
  not_zero x s e y q z other =
      let r = role_at x s e in
      let a = slice_get_within m.signals x s e in
      let here : is_clock r.0 ≡ false = sym (clock_name r.0 x) ∙ ap is_clk (sym r.1 ∙ q) ∙ other in
      let first : x ≡ 0 = decimal_injective x 0 (omega arith) (omega arith) (sym (number_of r.0 x here) ∙ ap behind_dash (sym r.1 ∙ q) ∙ z) in
      let clock : nat_eq x 0 ≡ false = sym (formed x s e).clock ∙ ap is_clk q ∙ other in
      absurd (let t : nat_eq 0 0 ≡ false = ap (λ k. nat_eq k 0) (sym first) ∙ clock in cc)

  pub signals_apart : AreApart (signal_names m)
  signals_apart i j x a b =
      let s = mapped (λ (s : Signal). s.name) m.signals i x a in
      let t = mapped (λ (s : Signal). s.name) m.signals j x b in
      same_number (nat_eq i 0) i j s.0 t.0 s.1 t.1 (sym s.2 ∙ t.2) refl

  pub roles_apart : m.memories ≡ [] → m.instances ≡ [] → AreApart (declared_names m)
  roles_apart memories instances =
      let a : memory_names m ≡ [] = ap (map (λ (x : Memory). x.name)) memories in
      let b : instance_names m ≡ [] = ap (map (λ (n : Instance). n.name)) instances in
      let all : declared_names m ≡ signal_names m =
      ap (λ l. signal_names m ++ l ++ instance_names m) a ∙ ap (λ l. signal_names m ++ [] ++ l) b ∙ append-nil (signal_names m ++ []) ∙ append-nil (signal_names m) in
      subst AreApart (sym all) signals_apart

-- ---- ports

module _ (m : Module) where
  -- the signals from a place on have these widths
  abbrev pub HasFrom : ℕ → List ℕ → Type 0
  HasFrom at ws = (x w : ℕ) → slice_get ws x ≡ Some w → Has m (at + x) w

  pub no_more : (at : ℕ) → HasFrom at []
  no_more at x w e = absurd (none-some w e)

  pub one_more : (at w : ℕ) (ws : List ℕ) → Has m at w → HasFrom (at + 1) ws → HasFrom at (w ∷ ws)
  one_more at w ws h rest zero u e = let z : at ≡ at + 0 = omega arith in subst (λ y. Has m y u) z (subst (Has m at) (same_Some w u e) h)
  one_more at w ws h rest (suc x) u e = let z : at + 1 + x ≡ at + suc x = omega arith in subst (λ y. Has m y u) z (rest x u e)

  pub many_more : (at n w : ℕ) (ws : List ℕ) → ((k : ℕ) → k < n → Has m (at + k) w) → HasFrom (at + n) ws → HasFrom at (replicate n w ++ ws)
  many_more at zero w ws h rest = let z : at + 0 ≡ at = omega arith in subst (λ y. HasFrom y ws) z rest
  many_more at (suc n) w ws h rest =
      one_more at w (replicate n w ++ ws) (let z : at + 0 ≡ at = omega arith in subst (λ y. Has m y w) z (h 0 (omega arith)))
      (many_more (at + 1) n w ws (λ k l. let z : at + suc k ≡ at + 1 + k = omega arith in subst (λ y. Has m y w) z (h (suc k) (omega arith)))
      (let z : at + suc n ≡ at + 1 + n = omega arith in subst (λ y. HasFrom y ws) z rest))

  -- so many of a width and nothing else
  pub all_alike : (at n w : ℕ) → ((k : ℕ) → k < n → Has m (at + k) w) → HasFrom at (replicate n w)
  all_alike at n w h = subst (HasFrom at) (append-nil (replicate n w)) (many_more at n w [] h (no_more (at + n)))

  pub has_ports : (inputs outputs : List ℕ) (ends : ℕ) → length m.signals ≡ ends + length outputs → HasFrom 0 inputs → HasFrom ends outputs → HasPorts m inputs outputs
  has_ports inputs outputs ends long ins outs =
      let first : ends ≡ length m.signals - length outputs = omega arith in
      record {
        inputs_are = λ x w e. let z : 0 + x ≡ x = omega arith in subst (λ y. Has m y w) z (ins x w e);
        outputs_are = λ x w e. subst (λ y. Has m (y + x) w) first (outs x w e);
      }
