-- One thread takes five steps, each of them defined; none touches a global, creates or joins.
use Rattle.std.proofs.Common.{◌≡◌, ℕ, zero, suc, ◌<◌, List, [], ◌∷◌, replicate, refl, ap, sym, ◌∙◌, subst, arith}
use Rattle.std.specs.Prelude.{Bool, true, false, Option, Some, None, slice_get, Contains}
use Rattle.std.specs.Fmt.{digits}
use Rattle.hls_ints.specs.Types.{wrapped}
use Rattle.hls_ints.specs.Residues.{residue_of, signed_value_of}
use Rattle.hls_ints.specs.Operators.{result_of}
use Rattle.c_program.specs.Tree.{Program}
use Rattle.thread_semantics.specs.declared.cause.BlockedCause.{BlockedCause}
use Rattle.thread_semantics.specs.declared.cause.BlockedCause.TheVariants as waits
use Rattle.thread_semantics.specs.State.{State}
use Rattle.thread_semantics.specs.Step.{Stepped, Steps, Blocks, Undefines, step, and_steps, after}
use Rattle.thread_semantics.specs.Races.{Touch, footprint, IsGood, id_in}
use Rattle.good_programs.specs.Samples.{first}

abbrev is_undefined : Stepped → Bool
is_undefined (Undefines offset cause) = true
is_undefined o = false

abbrev step_in : Program → Stepped → ℕ → Stepped
step_in P (Steps s) i = step P s i
step_in P o i = o

abbrev touched_in : Program → Stepped → ℕ → List Touch
touched_in P (Steps s) i = footprint P s i
touched_in P o i = []

abbrev id_at : Program → Stepped → ℕ → Option ℕ
id_at P (Steps s) i = id_in P s (slice_get s.slots i)
id_at P o i = None

abbrev has_ended : Stepped → Bool
has_ended (Steps s) = s.ended
has_ended o = false

record Tame (P : Program) (o : Stepped) (i : ℕ) : Type 0 where
  sure : is_undefined (step_in P o i) ≡ false
  untouched : touched_in P o i ≡ []
  nameless : id_at P o i ≡ None

-- the state after k steps of main
abbrev at : ℕ → Stepped
at k = after first (replicate k 0)

tame : (k i : ℕ) → k < 5 → Tame first (at k) i
unfolding wrapped residue_of signed_value_of result_of digits
tame zero zero l = record { sure = refl; untouched = refl; nameless = refl }
tame zero (suc i) l = record { sure = refl; untouched = refl; nameless = refl }
tame (suc zero) zero l = record { sure = refl; untouched = refl; nameless = refl }
tame (suc zero) (suc i) l = record { sure = refl; untouched = refl; nameless = refl }
tame (suc (suc zero)) zero l = record { sure = refl; untouched = refl; nameless = refl }
tame (suc (suc zero)) (suc i) l = record { sure = refl; untouched = refl; nameless = refl }
tame (suc (suc (suc zero))) zero l = record { sure = refl; untouched = refl; nameless = refl }
tame (suc (suc (suc zero))) (suc i) l = record { sure = refl; untouched = refl; nameless = refl }
tame (suc (suc (suc (suc zero)))) zero l = record { sure = refl; untouched = refl; nameless = refl }
tame (suc (suc (suc (suc zero)))) (suc i) l = record { sure = refl; untouched = refl; nameless = refl }
tame (suc (suc (suc (suc (suc k))))) i l = absurd (omega arith)

stays_blocked : (cause : BlockedCause) (L : List ℕ) (t : State) → and_steps first (Blocks cause) L ≡ Steps t → ⊥
stays_blocked cause [] t e = cc
stays_blocked cause (i ∷ L) t e = cc

abbrev Path : State → Type 0
Path s = (k : ℕ) × (k < 5) × (at k ≡ Steps s)

path : (list : List ℕ) (s : State) → after first list ≡ Steps s → s.ended ≡ false → Path s
unfolding wrapped residue_of signed_value_of result_of digits
path [] s e x = (0, (omega arith), e)
path (suc i ∷ L) s e x = absurd (stays_blocked waits.NotRunning L s e)
path (zero ∷ []) s e x = (1, (omega arith), e)
path (zero ∷ suc i ∷ L) s e x = absurd (stays_blocked waits.NotRunning L s e)
path (zero ∷ zero ∷ []) s e x = (2, (omega arith), e)
path (zero ∷ zero ∷ suc i ∷ L) s e x = absurd (stays_blocked waits.NotRunning L s e)
path (zero ∷ zero ∷ zero ∷ []) s e x = (3, (omega arith), e)
path (zero ∷ zero ∷ zero ∷ suc i ∷ L) s e x = absurd (stays_blocked waits.NotRunning L s e)
path (zero ∷ zero ∷ zero ∷ zero ∷ []) s e x = (4, (omega arith), e)
path (zero ∷ zero ∷ zero ∷ zero ∷ suc i ∷ L) s e x = absurd (stays_blocked waits.NotRunning L s e)
path (zero ∷ zero ∷ zero ∷ zero ∷ zero ∷ []) s e x =
    let q : true ≡ s.ended = ap has_ended e in
    let b : true ≡ false = q ∙ x in absurd cc
path (zero ∷ zero ∷ zero ∷ zero ∷ zero ∷ i ∷ L) s e x = absurd (last i L s e)
  where
    last : (i : ℕ) (L : List ℕ) (s : State) → after first (0 ∷ 0 ∷ 0 ∷ 0 ∷ 0 ∷ i ∷ L) ≡ Steps s → ⊥
    last zero L s e = stays_blocked waits.NotRunning L s e
    last (suc i) L s e = stays_blocked waits.NotRunning L s e

tame_at : (s : State) (i : ℕ) → Path s → Tame first (Steps s) i
tame_at s i p = subst (λ o. Tame first o i) p.2 (tame p.0 i p.1)

empty : (t : Touch) → Contains [] t → ⊥
empty t c = let l = c.1 in absurd (omega arith)

pub first_is_good : IsGood first
first_is_good = record {
  defined = λ list s i offset cause e x q.
      let w : is_undefined (Undefines offset cause) ≡ false = subst (λ o. is_undefined o ≡ false) q (tame_at s i (path list s e x)).sure in
      absurd cc;
  calm = λ list s i j place e x r.
      empty r.first (subst (λ l. Contains l r.first) (tame_at s i (path list s e x)).untouched r.first_in);
  single = λ list s i j e x r.
      let w : Some r.id ≡ None = sym r.first ∙ (tame_at s i (path list s e x)).nameless in absurd cc;
}
