-- What it means that numbers are found to be the same.
use Rattle.std.specs.Prelude.{◌≡◌, ℕ, zero, suc, ◌+◌, Bool, true, false, nat_eq, List, [], ◌∷◌, slice_index, if◌then◌else◌, refl}
use Rattle.std.proofs.Common.{ap, sym, ◌∙◌, subst, arith}
use Rattle.std.proofs.lemmas.Bool.{eq-eqb, eqb-true, and_from, and_parts}
use Rattle.netlist.specs.declared.netlist.Signal.{Signal}
use Rattle.sim_layout.specs.Placed.{is_register}
use Rattle.slot_sim.specs.Same.{registers_same, words_same, RegistersTold, RegistersShown, WordsTold, WordsShown}

when : (b c : Bool) → (if b then c else true) ≡ true → b ≡ true → c ≡ true
when true c e f = e
when false c e f = absurd cc

unless : (b c : Bool) → (b ≡ true → c ≡ true) → (if b then c else true) ≡ true
unless true c h = h refl
unless false c h = refl

moved : (xs ys : List ℕ) (p q : ℕ) → p ≡ q → slice_index xs p ≡ slice_index ys p → slice_index xs q ≡ slice_index ys q
moved xs ys p q e = subst (λ k. slice_index xs k ≡ slice_index ys k) e

pub registers_told : RegistersTold
registers_told xs ys base [] e x s at i = absurd cc
registers_told xs ys base (t ∷ signals) e zero s at i =
    let same : s ≡ t = cc in
    moved xs ys base (base + 0) (omega arith)
    (eqb-true (slice_index xs base) (slice_index ys base)
    (when (is_register t.source) (nat_eq (slice_index xs base) (slice_index ys base))
    (and_parts (if is_register t.source then nat_eq (slice_index xs base) (slice_index ys base) else true) (registers_same xs ys (base + 1) signals) e).0
    (subst (λ (u : Signal). is_register u.source ≡ true) same i)))
registers_told xs ys base (t ∷ signals) e (suc x) s at i =
    moved xs ys ((base + 1) + x) (base + suc x) (omega arith)
    (registers_told xs ys (base + 1) signals
    (and_parts (if is_register t.source then nat_eq (slice_index xs base) (slice_index ys base) else true) (registers_same xs ys (base + 1) signals) e).1 x s at i)

pub registers_shown : RegistersShown
registers_shown xs ys base [] h = refl
registers_shown xs ys base (t ∷ signals) h =
    and_from (if is_register t.source then nat_eq (slice_index xs base) (slice_index ys base) else true) (registers_same xs ys (base + 1) signals)
    (unless (is_register t.source) (nat_eq (slice_index xs base) (slice_index ys base))
    (λ i. eq-eqb (slice_index xs base) (slice_index ys base) (moved xs ys (base + 0) base (omega arith) (h 0 t refl i))))
    (registers_shown xs ys (base + 1) signals (λ x s at i. moved xs ys (base + suc x) ((base + 1) + x) (omega arith) (h (suc x) s at i)))

both : (xs ys : List ℕ) (p r q t : ℕ) → p ≡ r → q ≡ t → slice_index xs p ≡ slice_index ys q → slice_index xs r ≡ slice_index ys t
both xs ys p r q t e f h = sym (ap (slice_index xs) e) ∙ h ∙ ap (slice_index ys) f

pub words_told : WordsTold
words_told xs ys p q [] e k l = absurd (omega arith)
words_told xs ys p q (n ∷ stored) e zero l =
    both xs ys p (p + 0) q (q + 0) (omega arith) (omega arith)
    (eqb-true (slice_index xs p) (slice_index ys q) (and_parts (nat_eq (slice_index xs p) (slice_index ys q)) (words_same xs ys (p + 1) (q + 1) stored) e).0)
words_told xs ys p q (n ∷ stored) e (suc k) l =
    both xs ys ((p + 1) + k) (p + suc k) ((q + 1) + k) (q + suc k) (omega arith) (omega arith)
    (words_told xs ys (p + 1) (q + 1) stored (and_parts (nat_eq (slice_index xs p) (slice_index ys q)) (words_same xs ys (p + 1) (q + 1) stored) e).1 k (omega arith))

pub words_shown : WordsShown
words_shown xs ys p q [] h = refl
words_shown xs ys p q (n ∷ stored) h =
    and_from (nat_eq (slice_index xs p) (slice_index ys q)) (words_same xs ys (p + 1) (q + 1) stored)
    (eq-eqb (slice_index xs p) (slice_index ys q) (both xs ys (p + 0) p (q + 0) q (omega arith) (omega arith) (h 0 (omega arith))))
    (words_shown xs ys (p + 1) (q + 1) stored
    (λ k l. both xs ys (p + suc k) ((p + 1) + k) (q + suc k) ((q + 1) + k) (omega arith) (omega arith) (h (suc k) (omega arith))))
