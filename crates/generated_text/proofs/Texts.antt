-- Texts that are appended one after another.
use Rattle.std.proofs.Common.{◌≡◌, ℕ, suc, ◌-◌, ◌+◌, ◌<◌, ◌≤◌, List, [], ◌++◌, sym, ap, ◌∙◌, append_assoc, append-nil, arith}
use Rattle.std.specs.Prelude.{OnOk, Result, Ok, Err, is_ok, if◌then◌else◌}
use Rattle.std.specs.List.{flat_map}
use Rattle.generated_text.specs.declared.draws.Line.{Line}
use Rattle.generated_text.specs.Draws.{line_at, behind_line, lines_of}

-- two texts behind an old one are one text behind it
pub two : (old a b m n : List ℕ) → m ≡ old ++ a → n ≡ m ++ b → n ≡ old ++ (a ++ b)
two old a b m n p q = q ∙ ap (λ (l : List ℕ). l ++ b) p ∙ append_assoc old a b

pub three : (old a b c m n o : List ℕ) → m ≡ old ++ a → n ≡ m ++ b → o ≡ n ++ c → o ≡ old ++ (a ++ b ++ c)
three old a b c m n o p q r = two old (a ++ b) c n o (two old a b m n p q) r

pub four : (old a b c d m n o k : List ℕ) → m ≡ old ++ a → n ≡ m ++ b → o ≡ n ++ c → k ≡ o ++ d → k ≡ old ++ (a ++ b ++ c ++ d)
four old a b c d m n o k p q r s = two old (a ++ b ++ c) d o k (three old a b c m n o p q r) s

-- the same behind nothing
pub four_alone : (old a b c d m n o k : List ℕ) → old ≡ [] → m ≡ old ++ a → n ≡ m ++ b → o ≡ n ++ c → k ≡ o ++ d → k ≡ a ++ b ++ c ++ d
four_alone old a b c d m n o k none p q r s =
    four old a b c d m n o k p q r s ∙ ap (λ (l : List ℕ). l ++ (a ++ b ++ c ++ d)) none

-- the last text, of a call that leaves the list as it is where it fails
pub last_of_three : {A E : Type 0} (r : Result A E) (old a b c m n o : List ℕ) → m ≡ old ++ a → n ≡ m ++ b → o ≡ (if is_ok r then n ++ c else n) →
    OnOk r (o ≡ old ++ (a ++ b ++ c))
last_of_three (Ok x) old a b c m n o p q r = three old a b c m n o p q r
last_of_three (Err x) old a b c m n o p q r = tt

-- the last text, of a call that says nothing where it fails
pub three_on : {A E : Type 0} (r : Result A E) (old a b c m n o : List ℕ) → m ≡ old ++ a → n ≡ m ++ b → OnOk r (o ≡ n ++ c) →
    OnOk r (o ≡ old ++ (a ++ b ++ c))
three_on (Ok x) old a b c m n o p q r = three old a b c m n o p q r
three_on (Err x) old a b c m n o p q r = tt

-- one more line of those that are left
pub one_more : (text : Line → List ℕ) (old out next : List ℕ) (seed x y size k : ℕ) → k < size →
    out ++ flat_map text (lines_of x (size - k)) ≡ old ++ flat_map text (lines_of seed size) →
    y ≡ behind_line x → next ≡ out ++ text (line_at x) →
    next ++ flat_map text (lines_of y (size - (k + 1))) ≡ old ++ flat_map text (lines_of seed size)
one_more text old out next seed x y size k less all behind put =
    let left : size - k ≡ suc (size - (k + 1)) = omega (arith, less) in
    let rest : List ℕ = flat_map text (lines_of (behind_line x) (size - (k + 1))) in
    let here : next ++ flat_map text (lines_of y (size - (k + 1))) ≡ (out ++ text (line_at x)) ++ rest =
    ap (λ (z : ℕ). next ++ flat_map text (lines_of z (size - (k + 1)))) behind ∙ ap (λ (l : List ℕ). l ++ rest) put in
    here ∙ append_assoc out (text (line_at x)) rest ∙ sym (ap (λ (n : ℕ). out ++ flat_map text (lines_of x n)) left) ∙ all

pub none_left : (text : Line → List ℕ) (old out : List ℕ) (seed x size k : ℕ) → size ≤ k →
    out ++ flat_map text (lines_of x (size - k)) ≡ old ++ flat_map text (lines_of seed size) → out ≡ old ++ flat_map text (lines_of seed size)
none_left text old out seed x size k same all =
    let none : size - k ≡ 0 = omega (arith, same) in
    sym (append-nil out) ∙ sym (ap (λ (n : ℕ). out ++ flat_map text (lines_of x n)) none) ∙ all
