-- Gates of one bit where the other one is not known.
use Rattle.std.proofs.Common.{◌≡◌, ℕ, ◌%◌, Bool, true, false, ap, ◌∙◌, ◌⊎◌, ⊎_elim, arith, List}
use Rattle.netlist.specs.declared.netlist.Signal.{Signal}
use Rattle.netlist.specs.declared.netlist.Module.{Module}
use Rattle.verilog_meaning.specs.Readings.{Reading, width}
use Rattle.hls_ints.specs.Residues.{bit_of}
use Rattle.hls_ints.specs.Words.{word, word_and, word_inclusive_or}
use Rattle.circuit.specs.Modules.{Obeys}
use Rattle.operator_wires.specs.Gives.{Grows, Gives}
use Rattle.operator_wires.proofs.Bits.{and_bits, or_bits}
use Rattle.thread_slots.specs.Bits.{HasBit}

-- the low bit of a number is that of a bit
abbrev IsLow : ℕ → Type 0
IsLow n = (t : Bool) × (word 1 n ≡ word 1 (bit_of t))

low_bit : (n : ℕ) → IsLow n
low_bit n = ⊎_elim (λ (e : n % 2 ≡ 0). let out : IsLow n = (false, e) in out) (λ (e : n % 2 ≡ 1). let out : IsLow n = (true, e) in out) cases
  where
    cases : (n % 2 ≡ 0) ⊎ (n % 2 ≡ 1)
    cases = grind arith

and_off : (n : ℕ) → word_and 1 0 n ≡ 0
and_off n = let low = low_bit n in by_word n (bit_of low.0) low.1 ∙ and_bits false low.0
  where
    by_word : (a b : ℕ) → word 1 a ≡ word 1 b → word_and 1 0 a ≡ word_and 1 0 b
    by_word a b e = cc

or_on : (n : ℕ) → word_inclusive_or 1 1 n ≡ 1
or_on n = let low = low_bit n in by_word n (bit_of low.0) low.1 ∙ or_bits true low.0
  where
    by_word : (a b : ℕ) → word 1 a ≡ word 1 b → word_inclusive_or 1 1 a ≡ word_inclusive_or 1 1 b
    by_word a b e = cc

module _ (a b : List Signal) (place left right : ℕ) (m : Module) (r : Reading) where
  pub both_off : Gives a b place 1 (λ m r. word_and (width m left) (r.signal left) (r.signal right)) → Grows b m.signals → Obeys m r → HasBit m r left false →
      HasBit m r place false
  both_off t g o has = record {
    wide = t.wide m g;
    shows = t.shows m r g o ∙ ap (λ w. word_and w (r.signal left) (r.signal right)) has.wide ∙ ap (λ n. word_and 1 n (r.signal right)) has.shows ∙ and_off (r.signal right);
  }

  pub either_on : Gives a b place 1 (λ m r. word_inclusive_or (width m left) (r.signal left) (r.signal right)) → Grows b m.signals → Obeys m r → HasBit m r left true →
      HasBit m r place true
  either_on t g o has = record {
    wide = t.wide m g;
    shows = t.shows m r g o ∙ ap (λ w. word_inclusive_or w (r.signal left) (r.signal right)) has.wide ∙ ap (λ n. word_inclusive_or 1 n (r.signal right)) has.shows
        ∙ or_on (r.signal right);
  }
