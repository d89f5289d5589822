-- Names of ports in sets.
use Rattle.std.specs.Prelude.{◌≡◌, ℕ, zero, suc, ◌+◌, ◌<◌, ◌≤◌, Bool, true, false, ◌||◌, nat_lt}
use Rattle.std.specs.Prelude.{if◌then◌else◌, List, [], ◌∷◌, ◌++◌, length, take, drop, Some, is_some, not, codes, decimal}
use Rattle.std.specs.Str.{bytes_eq}
use Rattle.std.proofs.Common.{refl, sym, ap, ◌∙◌, get_or, add-one, below_more, arith}
use Rattle.std.proofs.lemmas.Bool.{ltb-true, ltb-false, false_from_ne_true, not-false, not-true}
use Rattle.std.proofs.lemmas.Slice.Eq.{bytes_eq-Decides}
use Rattle.std.proofs.lemmas.List.{drop_more}
use Rattle.std.proofs.Math.Bool.{or_assoc, or-false}
use Rattle.verilog_tree.specs.declared.tree.Port.{Port}
use Rattle.verilog_tree.specs.Scope.{Name, Names, is_known}
use Rattle.verilog_tree.specs.Facts.{with_name}
use Rattle.verilog_tree.specs.Rules.{port_named, has_port}
use Rattle.verilog_reader.specs.Top.{pref}
use Rattle.verilog_reader.specs.Ports.{prefs_below, AllKnown, ArePrefs}
use Rattle.net_check.proofs.Distinct.{known_pushed, known_with_at}

-- ---- one name more at the end

known_more : (names : Names) (x y : Name) → is_known (with_name names x) y ≡ (is_known names y || bytes_eq y x)
known_more names x y = known_with_at names x y (is_known names x) refl

known_take : (xs : Names) (k : ℕ) (x y : Name) → x ≡ get_or xs k x → k < length xs → is_known (take (suc k) xs) y ≡ (is_known (take k xs) y || bytes_eq y x)
known_take [] k x y e lt = absurd (omega arith)
known_take (z ∷ xs) zero x y e lt = or-false (bytes_eq y z) ∙ ap (bytes_eq y) (sym e)
known_take (z ∷ xs) (suc k) x y e lt = ap (λ b. bytes_eq y z || b) (known_take xs k x y e (omega arith)) ∙ sym (or_assoc (bytes_eq y z) (is_known (take k xs) y) (bytes_eq y x))

has_named : (p : Port) (ports : List Port) (y : Name) (b : Bool) → is_some (if b then Some p else port_named ports y) ≡ (b || has_port ports y)
has_named p ports y true = refl
has_named p ports y false = refl

has_take : (ports : List Port) (k : ℕ) (p : Port) (y : Name) → p ≡ get_or ports k p → k < length ports
    → has_port (take (suc k) ports) y ≡ (has_port (take k ports) y || bytes_eq y p.name)
has_take [] k p y e lt = absurd (omega arith)
has_take (q ∷ ports) zero p y e lt = has_named q [] y (bytes_eq y q.name) ∙ or-false (bytes_eq y q.name) ∙ ap (λ r. bytes_eq y r.name) (sym e)
has_take (q ∷ ports) (suc k) p y e lt =
    has_named q (take (suc k) ports) y (bytes_eq y q.name) ∙ ap (λ b. bytes_eq y q.name || b) (has_take ports k p y e (omega arith))
    ∙ sym (or_assoc (bytes_eq y q.name) (has_port (take k ports) y) (bytes_eq y p.name))
    ∙ ap (λ b. b || bytes_eq y p.name) (sym (has_named q (take k ports) y (bytes_eq y q.name)))

-- ---- turns of loops

pub port_added : (ports : List Port) (k : ℕ) (p : Port) (before after : Names) → ((y : Name) → is_known before y ≡ has_port (take k ports) y) → after ≡ with_name before p.name
    → p ≡ get_or ports k p → k < length ports → (y : Name) → is_known after y ≡ has_port (take (k + 1) ports) y
port_added ports k p before after h e is lt y =
    ap (λ l. is_known l y) e ∙ known_more before p.name y ∙ ap (λ b. b || bytes_eq y p.name) (h y) ∙ sym (has_take ports k p y is lt)
    ∙ ap (λ n. has_port (take n ports) y) (sym (add-one k))

pub name_added : (xs : Names) (k : ℕ) (x : Name) (before after : Names) → ((y : Name) → is_known before y ≡ is_known (take k xs) y) → after ≡ with_name before x
    → x ≡ get_or xs k x → k < length xs → (y : Name) → is_known after y ≡ is_known (take (k + 1) xs) y
name_added xs k x before after h e is lt y =
    ap (λ l. is_known l y) e ∙ known_more before x y ∙ ap (λ b. b || bytes_eq y x) (h y) ∙ sym (known_take xs k x y is lt)
    ∙ ap (λ n. is_known (take n xs) y) (sym (add-one k))

-- ---- names of prefs

pub among_prefs : (count : ℕ) (x : Name) → is_known (prefs_below count) x ≡ true → (k : ℕ) × (k < count) × (x ≡ pref k)
among_prefs zero x h = cc
among_prefs (suc count) x h = by (among_prefs count x) (is_known (prefs_below count) x) refl where
  by : (is_known (prefs_below count) x ≡ true → (k : ℕ) × (k < count) × (x ≡ pref k)) → (v : Bool) → is_known (prefs_below count) x ≡ v → (k : ℕ) × (k < suc count) × (x ≡ pref k)
  by found true e = let at = found e in let lt = at.1 in (at.0, omega (arith, lt), at.2)
  by found false e =
      let last : bytes_eq x (pref count) ≡ true = sym (ap (λ b. b || bytes_eq x (pref count)) e) ∙ sym (known_pushed (prefs_below count) (pref count) x) ∙ h in
      (count, omega arith, (bytes_eq-Decides x (pref count)).0 last)

pub at_least : (a b : ℕ) → (b < a → ⊥) → a ≤ b
at_least a b h = by (nat_lt b a) refl where
  by : (v : Bool) → nat_lt b a ≡ v → a ≤ b
  by true e = absurd (h (ltb-true b a e))
  by false e = ltb-false b a e

pub is_among : (count k : ℕ) → k < count → is_known (prefs_below count) (pref k) ≡ true
is_among zero k lt = absurd (omega arith)
is_among (suc count) k lt = known_pushed (prefs_below count) (pref count) (pref k) ∙ by (is_among count k) (is_known (prefs_below count) (pref k)) refl where
  by : (k < count → is_known (prefs_below count) (pref k) ≡ true) → (v : Bool) → is_known (prefs_below count) (pref k) ≡ v → (v || bytes_eq (pref k) (pref count)) ≡ true
  by found true e = refl
  by found false e =
      let le = at_least count k (λ less. let clash : true ≡ false = sym (found less) ∙ e in cc (clash)) in
      let same : k ≡ count = omega (arith, le, lt) in
      ap (λ n. bytes_eq (pref k) (pref n)) (sym same) ∙ (bytes_eq-Decides (pref k) (pref k)).1 refl

-- ---- the names of prefs, one after another

module _ (names prefs after : Names) (number : ℕ) (stem name : Name) (are : prefs ≡ prefs_below number) (known : AllKnown names number) (is_stem : stem ≡ codes "pref")
    (named : name ≡ stem ++ 95 ∷ decimal number) (pushed : after ≡ prefs ++ name ∷ []) where
  is_pref : name ≡ pref number
  is_pref = named ∙ ap (λ s. s ++ 95 ∷ decimal number) is_stem

  longer : after ≡ prefs_below (suc number)
  longer = pushed ∙ ap (λ l. l ++ name ∷ []) are ∙ ap (λ x. prefs_below number ++ x ∷ []) is_pref

  pub prefs_done : not (is_known names name) ≡ true → ArePrefs names after
  prefs_done h = record { count = number; before = known; last = ap (is_known names) (sym is_pref) ∙ not-true (is_known names name) h; are = longer }

  pub prefs_more : not (is_known names name) ≡ false → (after ≡ prefs_below (number + 1)) × AllKnown names (number + 1)
  prefs_more h = (
    longer ∙ ap prefs_below (sym (add-one number)),
    below_more (λ k. is_known names (pref k) ≡ true) number known (ap (is_known names) (sym is_pref) ∙ not-false (is_known names name) h),
  )

-- ---- a port by its name

module _ (ports : List Port) (k : ℕ) (p : Port) (y : Name) (left : has_port ports y ≡ has_port (drop k ports) y) (is : p ≡ get_or ports k p) (lt : k < length ports) where
  begins : has_port ports y ≡ (bytes_eq y p.name || has_port (drop (k + 1) ports) y)
  begins = left ∙ ap (λ l. has_port l y) (drop_more ports k p lt ∙ ap (λ x. x ∷ drop (k + 1) ports) (sym is)) ∙ has_named p (drop (k + 1) ports) y (bytes_eq y p.name)

  pub port_here : bytes_eq p.name y ≡ true → true ≡ has_port ports y
  port_here h = sym (begins ∙ ap (λ b. b || has_port (drop (k + 1) ports) y) ((bytes_eq-Decides y p.name).1 (sym ((bytes_eq-Decides p.name y).0 h))))

  pub port_later : bytes_eq p.name y ≡ false → has_port ports y ≡ has_port (drop (k + 1) ports) y
  port_later h = begins ∙ ap (λ b. b || has_port (drop (k + 1) ports) y) (false_from_ne_true (bytes_eq y p.name) (λ other.
      let clash : true ≡ false = sym ((bytes_eq-Decides p.name y).1 (sym ((bytes_eq-Decides y p.name).0 other))) ∙ h in cc (clash)))
