-- Where an interleaving of the first example leads: after at most five steps, the last of which ends it with 42 printed.
use Rattle.std.proofs.Common.{◌≡◌, ℕ, zero, suc, ◌<◌, List, [], ◌∷◌, ◌++◌, length, replicate, refl, ap, sym, ◌∙◌, arith}
use Rattle.std.specs.Prelude.{Bool, true, false, codes}
use Rattle.std.specs.Fmt.{digits}
use Rattle.hls_ints.specs.Types.{wrapped}
use Rattle.hls_ints.specs.Residues.{residue_of, signed_value_of}
use Rattle.hls_ints.specs.Operators.{result_of}
use Rattle.thread_semantics.specs.declared.cause.BlockedCause.{BlockedCause}
use Rattle.thread_semantics.specs.declared.cause.BlockedCause.TheVariants as waits
use Rattle.thread_semantics.specs.State.{State}
use Rattle.thread_semantics.specs.Step.{Stepped, Steps, Blocks, step, and_steps, after, is_blocked, is_live, IsDeadlocked}
use Rattle.good_programs.specs.Samples.{first}

-- the state after k steps of main
abbrev pub at : ℕ → Stepped
at k = after first (replicate k 0)

abbrev has_ended : Stepped → Bool
has_ended (Steps s) = s.ended
has_ended o = false

abbrev output_of : Stepped → List ℕ
output_of (Steps s) = s.output
output_of o = []

abbrev is_alive : Stepped → Bool
is_alive (Steps s) = is_live s 0
is_alive o = false

abbrev waits_next : Stepped → Bool
waits_next (Steps s) = is_blocked (step first s 0)
waits_next o = false

stays_blocked : (cause : BlockedCause) (list : List ℕ) (s : State) → and_steps first (Blocks cause) list ≡ Steps s → ⊥
stays_blocked cause [] s e = cc
stays_blocked cause (i ∷ list) s e = cc

-- so many steps were taken
pub record Taken (list : List ℕ) (s : State) : Type 0 where
  pub count : ℕ
  pub few : count < 6
  pub long : length list ≡ count
  pub is : at count ≡ Steps s

pub taken : (list : List ℕ) (s : State) → after first list ≡ Steps s → Taken list s
unfolding wrapped residue_of signed_value_of result_of digits
taken [] s e = record { count = 0; few = omega arith; long = refl; is = e }
taken (suc i ∷ l) s e = absurd (stays_blocked waits.NotRunning l s e)
taken (zero ∷ []) s e = record { count = 1; few = omega arith; long = refl; is = e }
taken (zero ∷ suc i ∷ l) s e = absurd (stays_blocked waits.NotRunning l s e)
taken (zero ∷ zero ∷ []) s e = record { count = 2; few = omega arith; long = refl; is = e }
taken (zero ∷ zero ∷ suc i ∷ l) s e = absurd (stays_blocked waits.NotRunning l s e)
taken (zero ∷ zero ∷ zero ∷ []) s e = record { count = 3; few = omega arith; long = refl; is = e }
taken (zero ∷ zero ∷ zero ∷ suc i ∷ l) s e = absurd (stays_blocked waits.NotRunning l s e)
taken (zero ∷ zero ∷ zero ∷ zero ∷ []) s e = record { count = 4; few = omega arith; long = refl; is = e }
taken (zero ∷ zero ∷ zero ∷ zero ∷ suc i ∷ l) s e = absurd (stays_blocked waits.NotRunning l s e)
taken (zero ∷ zero ∷ zero ∷ zero ∷ zero ∷ []) s e = record { count = 5; few = omega arith; long = refl; is = e }
taken (zero ∷ zero ∷ zero ∷ zero ∷ zero ∷ zero ∷ l) s e = absurd (stays_blocked waits.NotRunning l s e)
taken (zero ∷ zero ∷ zero ∷ zero ∷ zero ∷ suc i ∷ l) s e = absurd (stays_blocked waits.NotRunning l s e)

prints_at_end : (k : ℕ) → k < 6 → has_ended (at k) ≡ true → output_of (at k) ≡ codes "42" ++ 10 ∷ []
unfolding wrapped residue_of signed_value_of result_of digits
prints_at_end zero l e = absurd cc
prints_at_end (suc zero) l e = absurd cc
prints_at_end (suc (suc zero)) l e = absurd cc
prints_at_end (suc (suc (suc zero))) l e = absurd cc
prints_at_end (suc (suc (suc (suc zero)))) l e = absurd cc
prints_at_end (suc (suc (suc (suc (suc zero))))) l e = refl
prints_at_end (suc (suc (suc (suc (suc (suc k)))))) l e = absurd (omega arith)

alive : (k : ℕ) → k < 6 → has_ended (at k) ≡ false → is_alive (at k) ≡ true
unfolding wrapped residue_of signed_value_of result_of digits
alive zero l e = refl
alive (suc zero) l e = refl
alive (suc (suc zero)) l e = refl
alive (suc (suc (suc zero))) l e = refl
alive (suc (suc (suc (suc zero)))) l e = refl
alive (suc (suc (suc (suc (suc zero))))) l e = absurd cc
alive (suc (suc (suc (suc (suc (suc k)))))) l e = absurd (omega arith)

goes_on : (k : ℕ) → k < 6 → has_ended (at k) ≡ false → waits_next (at k) ≡ false
unfolding wrapped residue_of signed_value_of result_of digits
goes_on zero l e = refl
goes_on (suc zero) l e = refl
goes_on (suc (suc zero)) l e = refl
goes_on (suc (suc (suc zero))) l e = refl
goes_on (suc (suc (suc (suc zero)))) l e = refl
goes_on (suc (suc (suc (suc (suc zero))))) l e = absurd cc
goes_on (suc (suc (suc (suc (suc (suc k)))))) l e = absurd (omega arith)

-- an interleaving that has ended printed 42 and a line feed
pub printed : (list : List ℕ) (s : State) → after first list ≡ Steps s → s.ended ≡ true → s.output ≡ codes "42" ++ 10 ∷ []
printed list s e ended =
    let t = taken list s e in
    sym (ap output_of t.is) ∙ prints_at_end t.count t.few (ap has_ended t.is ∙ ended)

-- it is never deadlocked
pub never_deadlocked : (list : List ℕ) (s : State) → after first list ≡ Steps s → IsDeadlocked first s → ⊥
never_deadlocked list s e d =
    let t = taken list s e in
    let on : has_ended (at t.count) ≡ false = ap has_ended t.is ∙ d.running in
    let live : is_live s 0 ≡ true = sym (ap is_alive t.is) ∙ alive t.count t.few on in
    let moves : is_blocked (step first s 0) ≡ false = sym (ap waits_next t.is) ∙ goes_on t.count t.few on in
    let waits : is_blocked (step first s 0) ≡ true = d.stuck 0 live in
    absurd cc
