-- Frames of values that are the same.
use Rattle.std.proofs.Common.{◌≡◌, sym, ap, ◌∙◌, ℕ, zero, suc, ◌+◌, ◌≤◌, Bool, true, false, List, nat_lt, ◌++◌, arith}
use Rattle.std.specs.Prelude.{if◌then◌else◌}
use Rattle.std.proofs.lemmas.Bool.Decides.{nat_tests}
use Rattle.vcd_text.specs.Dump.{first_frame, frame}
use Rattle.vcd_text.specs.Recover.{frames}

pub frames_same : (widths : List ℕ) (values other : ℕ → List ℕ) (n : ℕ) → ((k : ℕ) → k ≤ n → values k ≡ other k) → frames widths values n ≡ frames widths other n
frames_same widths values other zero same = ap (first_frame widths) (same 0 (omega arith))
frames_same widths values other (suc n) same =
    (λ i. frames_same widths values other n (λ k le. same k (omega (arith, le))) i ++ frame (suc n) widths (same n (omega arith) i) (same (suc n) (omega arith) i))

-- the values so far, and other ones behind them
abbrev pub more : (ℕ → List ℕ) → ℕ → List ℕ → ℕ → List ℕ
more values n next k = if nat_lt n k then next else values k

pub more_old : (values : ℕ → List ℕ) (n : ℕ) (next : List ℕ) (k : ℕ) → k ≤ n → more values n next k ≡ values k
more_old values n next k le = let e : nat_lt n k ≡ false = grind (arith, nat_tests, le) in ap (λ (b : Bool). if b then next else values k) e

pub more_new : (values : ℕ → List ℕ) (n : ℕ) (next : List ℕ) → more values n next (suc n) ≡ next
more_new values n next = let e : nat_lt n (suc n) ≡ true = grind (arith, nat_tests) in ap (λ (b : Bool). if b then next else values (suc n)) e

pub frames_more : (widths : List ℕ) (values : ℕ → List ℕ) (n : ℕ) (next : List ℕ) → frames widths values n ++ frame (n + 1) widths (values n) next ≡ frames widths (more values n next) (n + 1)
frames_more widths values n next =
    let one : n + 1 ≡ suc n = omega arith in
    (λ i. frames_same widths values (more values n next) n (λ k le. sym (more_old values n next k le)) i ++ frame (one i) widths (sym (more_old values n next n
    (omega arith)) i) (sym (more_new values n next) i))
    ∙ ap (frames widths (more values n next)) (sym one)
