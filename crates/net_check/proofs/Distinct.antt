-- Ports that are connected once each, and words that each have their constants.
use Rattle.std.proofs.Common.{◌≡◌, ℕ, zero, suc, ◌<◌, ◌≤◌, List, [], ◌∷◌, ◌++◌, Some, Bool, true, false, refl, sym, ap, ◌∙◌, subst, arith, ◌⊎◌, inl, inr, ⊎_elim}
use Rattle.std.specs.Prelude.{◌&&◌, ◌||◌, not, nat_lt, if◌then◌else◌}
use Rattle.std.specs.Str.{bytes_eq}
use Rattle.std.proofs.lemmas.Bool.{ltb-true, leb-false}
use mathlib.Core.Bool.{and-false}
use Rattle.std.proofs.Math.Bool.{or-false, and_assoc}
use Rattle.std.proofs.lemmas.Slice.Eq.{bytes_eq-Decides}
use Rattle.verilog_tree.specs.declared.tree.Port.{Port}
use Rattle.verilog_tree.specs.declared.tree.Connection.{Connection}
use Rattle.verilog_tree.specs.Scope.{Name, Names, Scope, is_known}
use Rattle.verilog_tree.specs.Rules as rule
use Rattle.verilog_tree.specs.Facts as fact
use Rattle.verilog_tree.specs.WellFormed.{are_new}
use Rattle.net_rules.proofs.Same.{turned}

-- none of the names is known
abbrev none_in : Names → Names → Bool
none_in known xs = rule.all_right (λ x. not (is_known known x)) xs

pub known_pushed : (known : Names) (x y : Name) → is_known (known ++ x ∷ []) y ≡ (is_known known y || bytes_eq y x)
known_pushed [] x y = or-false (bytes_eq y x)
known_pushed (k ∷ known) x y = ap (λ b. bytes_eq y k || b) (known_pushed known x y) ∙ or_assoc (bytes_eq y k) (is_known known y) (bytes_eq y x) where
  or_assoc : (a b c : Bool) → (a || (b || c)) ≡ ((a || b) || c)
  or_assoc true b c = refl
  or_assoc false b c = refl

split : (a b n c : Bool) → (not (a || b) && (n && not c)) ≡ ((not a && n) && not (b || c))
split true b n c = refl
split false true true c = refl
split false true false c = refl
split false false n c = refl

none_pushed : (known : Names) (x : Name) (xs : Names) → none_in (known ++ x ∷ []) xs ≡ (none_in known xs && not (is_known xs x))
none_pushed known x [] = refl
none_pushed known x (y ∷ ys) =
    (λ i. not (known_pushed known x y i) && none_pushed known x ys i)
    ∙ ap (λ b. not (is_known known y || b) && (none_in known ys && not (is_known ys x))) (turned x y (bytes_eq x y) refl)
    ∙ split (is_known known y) (bytes_eq x y) (none_in known ys) (is_known ys x)

new_one : (known : Names) (x : Name) (xs : Names) (b : Bool) → is_known known x ≡ b
    → ((l : Names) → are_new l xs ≡ (none_in l xs && rule.are_distinct xs))
    → (not b && are_new (if b then known else known ++ x ∷ []) xs) ≡ ((not b && none_in known xs) && (not (is_known xs x) && rule.are_distinct xs))
new_one known x xs true e h = refl
new_one known x xs false e h =
    h (known ++ x ∷ []) ∙ ap (λ b. b && rule.are_distinct xs) (none_pushed known x xs) ∙ and_assoc (none_in known xs) (not (is_known xs x)) (rule.are_distinct xs)

new_distinct : (xs : Names) (known : Names) → are_new known xs ≡ (none_in known xs && rule.are_distinct xs)
new_distinct [] known = refl
new_distinct (x ∷ xs) known = new_one known x xs (is_known known x) refl (new_distinct xs)

none_in_none : (xs : Names) → none_in [] xs ≡ true
none_in_none [] = refl
none_in_none (x ∷ xs) = none_in_none xs

-- none is the same as another
pub distinct : (xs : Names) → are_new [] xs ≡ rule.are_distinct xs
distinct xs = new_distinct xs [] ∙ ap (λ b. b && rule.are_distinct xs) (none_in_none xs)

known_once : (known : Names) (x y : Name) (b : Bool) → is_known known x ≡ true → bytes_eq y x ≡ b → is_known known y ≡ (is_known known y || b)
known_once known x y true h e = let there : is_known known y ≡ true = ap (is_known known) ((bytes_eq-Decides y x).0 e) ∙ h in there ∙ sym (ap (λ b. b || true) there)
known_once known x y false h e = sym (or-false (is_known known y))

pub known_with_at : (known : Names) (x y : Name) (b : Bool) → is_known known x ≡ b → is_known (if b then known else known ++ x ∷ []) y ≡ (is_known known y || bytes_eq y x)
known_with_at known x y true h = known_once known x y (bytes_eq y x) h refl
known_with_at known x y false h = known_pushed known x y

known_after : (xs : Names) (known : Names) (y : Name) → is_known (fact.after fact.with_name known xs) y ≡ (is_known known y || is_known xs y)
known_after [] known y = sym (or-false (is_known known y))
known_after (x ∷ xs) known y =
    known_after xs (fact.with_name known x) y ∙ ap (λ b. b || is_known xs y) (known_with_at known x y (is_known known x) refl)
    ∙ or_assoc (is_known known y) (bytes_eq y x) (is_known xs y) where
      or_assoc : (a b c : Bool) → ((a || b) || c) ≡ (a || (b || c))
      or_assoc true b c = refl
      or_assoc false b c = refl

all_known : (xs : Names) (ports : List Port) → rule.all_right (λ p. is_known (fact.after fact.with_name [] xs) p.name) ports ≡ rule.all_right (λ p. is_known xs p.name) ports
all_known xs [] = refl
all_known xs (p ∷ ports) = (λ i. known_after xs [] p.name i && all_known xs ports i)

pub all_connections : (scope : Scope) (ports : List Port) (cs : List Connection) (connected : Names) → connected ≡ fact.after fact.with_name [] (rule.connected_ports cs)
    → ((rule.all_right (λ c. rule.takes scope (rule.port_named ports c.port) c.signal) cs && are_new [] (rule.connected_ports cs)) && rule.all_right
    (λ p. is_known connected p.name) ports)
    ≡ rule.connections_right scope ports cs
all_connections scope ports cs connected e =
    let taken : Bool = rule.all_right (λ c. rule.takes scope (rule.port_named ports c.port) c.signal) cs in
    (λ i. (taken && distinct (rule.connected_ports cs) i) && rule.all_right (λ p. is_known (e i) p.name) ports)
    ∙ ap (λ b. (taken && rule.are_distinct (rule.connected_ports cs)) && b) (all_known (rule.connected_ports cs) ports)
    ∙ and_assoc taken (rule.are_distinct (rule.connected_ports cs)) (rule.all_right (λ p. is_known (rule.connected_ports cs) p.name) ports)

-- a module without ports has no outputs
pub no_outputs : (cs : List Connection) → fact.outputs [] cs ≡ []
no_outputs [] = refl
no_outputs (c ∷ cs) = no_outputs cs

-- ---- words

lower_or_same : (k n : ℕ) → k < suc n → (b : Bool) → nat_lt k n ≡ b → (k < n) ⊎ (k ≡ n)
lower_or_same k n lt true e = inl (ltb-true k n e)
lower_or_same k n lt false e = inr (let le : n ≤ k = omega (arith, leb-false (suc k) n e) in let same : k ≡ n = omega arith in same)

-- one word without its constant
pub words_fail : (places : List fact.Place) (x : Name) (k count : ℕ) → k < count → fact.is_place places (x, Some k) ≡ false → fact.words_below places x count ≡ false
words_fail places x k zero lt e = absurd (omega arith)
words_fail places x k (suc count) lt e =
    ⊎_elim
    (λ less. ap (λ b. b && fact.is_place places (x, Some count)) (words_fail places x k count less e))
    (λ same. let here : fact.is_place places (x, Some count) ≡ false =
    subst (λ j. fact.is_place places (x, Some j) ≡ false) same e in ap (λ b. fact.words_below places x count && b) here ∙ and-false (fact.words_below places x count))
    (lower_or_same k count lt (nat_lt k count) refl)
