-- Chains of wires: one for each thread, each of which hands on the last one or takes a number of its own.
use Rattle.std.proofs.Common.{◌≡◌, ◌≢◌, ℕ, zero, suc, ◌+◌, ◌<◌, ◌≤◌, ◌⊎◌, Bool, true, false, Option, Some, None, nat_eq, if◌then◌else◌, refl, ap, ◌∙◌, ⊎_elim, arith, add-zero}
use Rattle.std.specs.Prelude.{◌||◌}
use Rattle.std.proofs.lemmas.Bool.Decides.{nat_tests}
use Rattle.verilog_meaning.specs.Readings.{Reading}
use Rattle.verilog_meaning.specs.Residues.{bit_of}
use Rattle.circuit.specs.Arbitration.{is_granted}

-- the number of the granted thread, else the base
abbrev pub pick : Option ℕ → ℕ → (ℕ → ℕ) → ℕ
pick None base d = base
pick (Some w) base d = d w

pub bit_true : (b : Bool) → b ≡ true → bit_of b ≡ 1
bit_true b e = ap bit_of e

pub bit_false : (b : Bool) → b ≡ false → bit_of b ≡ 0
bit_false b e = ap bit_of e

module _ (n : ℕ) (v g d : ℕ → ℕ) (step : (k : ℕ) → k < n → v (suc k) ≡ (if nat_eq (g k) 0 then v k else d k)) where
  idle_to : (j : ℕ) → j ≤ n → ((k : ℕ) → k < j → g k ≡ 0) → v j ≡ v 0
  idle_to zero l off = refl
  idle_to (suc j) l off =
      step j (omega arith) ∙ ap (λ x. if nat_eq x 0 then v j else d j) (off j (omega arith)) ∙ idle_to j (omega arith) (λ k b. off k (omega arith))

  won_to : (w j : ℕ) → w < j → j ≤ n → g w ≡ 1 → ((k : ℕ) → k < n → k ≢ w → g k ≡ 0) → v j ≡ d w
  won_to w zero a l on off = absurd (omega arith)
  won_to w (suc j) a l on off =
      step j (omega arith)
      ∙ ⊎_elim
      (λ (e : j ≡ w). ap (λ x. if nat_eq (g x) 0 then v j else d x) e ∙ ap (λ x. if nat_eq x 0 then v j else d w) on)
      (λ (ne : j ≢ w). ap (λ x. if nat_eq x 0 then v j else d j) (off j (omega arith) ne) ∙ won_to w j (omega arith) (omega arith) on off)
      (let c : (j ≡ w) ⊎ (j ≢ w) = grind (arith, nat_tests) in c)

  pub picked : (o : Option ℕ) → ((w : ℕ) → o ≡ Some w → w < n) → ((k : ℕ) → k < n → g k ≡ bit_of (is_granted o k)) → v n ≡ pick o (v 0) d
  picked None below gr = idle_to n (omega arith) gr
  picked (Some w) below gr =
      won_to w n (below w refl) (omega arith)
      (gr w (below w refl) ∙ bit_true (nat_eq w w) (grind (arith, nat_tests)))
      (λ k l ne. gr k l ∙ bit_false (nat_eq w k) (grind (arith, nat_tests)))

-- a chain at place x, over the grants at g and the numbers at d
pub chain_is : (r : Reading) (n x g d base : ℕ) (o : Option ℕ) → r.signal x ≡ base → ((k : ℕ) → k < n
    → r.signal (x + 1 + k) ≡ (if nat_eq (r.signal (g + k)) 0 then r.signal (x + k) else r.signal (d + k))) → ((w : ℕ) → o ≡ Some w → w < n) → ((k : ℕ) → k < n
    → r.signal (g + k) ≡ bit_of (is_granted o k)) → r.signal (x + n) ≡ pick o base (λ k. r.signal (d + k))
chain_is r n x g d base o e step below gr =
    picked n (λ k. r.signal (x + k)) (λ k. r.signal (g + k)) (λ k. r.signal (d + k))
    (λ k l. let z : x + suc k ≡ x + 1 + k = omega arith in ap r.signal z ∙ step k l) o below gr
    ∙ ap (λ y. pick o y (λ k. r.signal (d + k))) (ap r.signal (add-zero x) ∙ e)

-- whether a test passes below a number
abbrev pub any_below : (ℕ → Bool) → ℕ → Bool
any_below f zero = false
any_below f (suc k) = f k || any_below f k

choice_of : (b c : Bool) (x y : ℕ) → x ≡ bit_of b → y ≡ bit_of c → (if nat_eq x 0 then y else 1) ≡ bit_of (b || c)
choice_of true c x y e f = ap (λ z. if nat_eq z 0 then y else 1) e
choice_of false c x y e f = ap (λ z. if nat_eq z 0 then y else 1) e ∙ f

-- a chain at place x that is 1 from the first place on where the test passes
pub any_is : (r : Reading) (n x g one : ℕ) (f : ℕ → Bool) → r.signal x ≡ 0 → r.signal one ≡ 1 → ((k : ℕ) → k < n
    → r.signal (x + 1 + k) ≡ (if nat_eq (r.signal (g + k)) 0 then r.signal (x + k) else r.signal one)) → ((k : ℕ) → k < n → r.signal (g + k) ≡ bit_of (f k)) → (j : ℕ) → j ≤ n
    → r.signal (x + j) ≡ bit_of (any_below f j)
any_is r n x g one f base on step is zero l = ap r.signal (add-zero x) ∙ base
any_is r n x g one f base on step is (suc j) l =
    let z : x + suc j ≡ x + 1 + j = omega arith in
    ap r.signal z ∙ step j (omega arith)
    ∙ ap (λ y. if nat_eq (r.signal (g + j)) 0 then r.signal (x + j) else y) on
    ∙ choice_of (f j) (any_below f j) (r.signal (g + j)) (r.signal (x + j)) (is j (omega arith)) (any_is r n x g one f base on step is j (omega arith))
