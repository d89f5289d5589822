-- A right side has the same value in two readings that agree at its operands and at all words.
use Rattle.std.proofs.Common.{◌≡◌, ℕ, ◌+◌, ◌*◌, ◌^◌, List, [], ◌∷◌, nat_lt, nat_eq, if◌then◌else◌, refl, ap, ◌∙◌, inl, inr, slice_get}
use Rattle.netlist.specs.declared.netlist.Value.{Value}
use Rattle.netlist.specs.declared.netlist.Value.TheVariants.{Copy, Constant, BitwiseNot, Binary, SignedLess, ArithmeticShiftRight, Conditional, Division, SignedDivision, MemoryRead, Select}
use Rattle.netlist.specs.declared.netlist.Value.TheVariants.{Concatenation, Replication}
use Rattle.netlist.specs.declared.netlist.Module.{Module}
use Rattle.verilog_meaning.specs.Readings.{Reading, value, joined, width, binary, divided, signed_divided, repeated, memory_words}
use Rattle.hls_ints.specs.Words.{word_complement, signed_less, arithmetic_shift}
use Rattle.verilog_meaning.specs.Threads.{operands, IsOneOf}

-- two readings agree at these signals and at all words
pub record Agree (xs : List ℕ) (r q : Reading) : Type 0 where
  pub signals : (x : ℕ) → IsOneOf x xs → r.signal x ≡ q.signal x
  pub words : (j k : ℕ) → r.word j k ≡ q.word j k

same_joined : (m : Module) (r q : Reading) (xs : List ℕ) (above : ℕ) → ((x : ℕ) → IsOneOf x xs → r.signal x ≡ q.signal x) → joined m r xs above ≡ joined m q xs above
same_joined m r q [] above same = refl
same_joined m r q (x ∷ xs) above same =
    ap (λ a. joined m r xs (above * 2 ^ width m x + a)) (same x (inl refl))
    ∙ same_joined m r q xs (above * 2 ^ width m x + q.signal x) (λ y i. same y (inr i))

pub same_value : (m : Module) (r q : Reading) (v : Value) → Agree (operands v) r q → value m r v ≡ value m q v
same_value m r q (Copy x) a = a.signals x (inl refl)
same_value m r q (Constant n) a = refl
same_value m r q (BitwiseNot x) a = ap (word_complement (width m x)) (a.signals x (inl refl))
same_value m r q (Binary operator x y) a =
    ap (λ n. binary operator (width m x) n (r.signal y)) (a.signals x (inl refl))
    ∙ ap (binary operator (width m x) (q.signal x)) (a.signals y (inr (inl refl)))
same_value m r q (SignedLess x y) a =
    ap (λ n. signed_less (width m x) n (r.signal y)) (a.signals x (inl refl))
    ∙ ap (signed_less (width m x) (q.signal x)) (a.signals y (inr (inl refl)))
same_value m r q (ArithmeticShiftRight x y) a =
    ap (λ n. arithmetic_shift (width m x) n (r.signal y)) (a.signals x (inl refl))
    ∙ ap (arithmetic_shift (width m x) (q.signal x)) (a.signals y (inr (inl refl)))
same_value m r q (Conditional c x y) a =
    ap (λ n. if nat_eq n 0 then r.signal y else r.signal x) (a.signals c (inl refl))
    ∙ ap (λ n. if nat_eq (q.signal c) 0 then r.signal y else n) (a.signals x (inr (inl refl)))
    ∙ ap (λ n. if nat_eq (q.signal c) 0 then n else q.signal x) (a.signals y (inr (inr (inl refl))))
same_value m r q (Division operator x y) a =
    ap (λ n. divided operator (width m x) n (r.signal y)) (a.signals x (inl refl))
    ∙ ap (divided operator (width m x) (q.signal x)) (a.signals y (inr (inl refl)))
same_value m r q (SignedDivision operator x y) a =
    ap (λ n. signed_divided operator (width m x) n (r.signal y)) (a.signals x (inl refl))
    ∙ ap (signed_divided operator (width m x) (q.signal x)) (a.signals y (inr (inl refl)))
same_value m r q (MemoryRead j x) a =
    ap (λ n. if nat_lt n (memory_words (slice_get m.memories j)) then r.word j n else 0) (a.signals x (inl refl))
    ∙ ap (λ n. if nat_lt (q.signal x) (memory_words (slice_get m.memories j)) then n else 0) (a.words j (q.signal x))
same_value m r q (Select x high low) a = ap (λ n. value m (record { signal = λ k. n; word = r.word }) (Select x high low)) (a.signals x (inl refl))
same_value m r q (Concatenation xs) a = same_joined m r q xs 0 a.signals
same_value m r q (Replication n x) a = ap (repeated n (width m x)) (a.signals x (inl refl))
