-- The codes of thread functions, one after another.
use Rattle.std.proofs.Common.{◌≡◌, ℕ, zero, suc, ◌+◌, ◌<◌, ◌≤◌, List, [], ◌∷◌, ◌++◌, length, get_or, take, Some, refl, sym, ap, subst}
use Rattle.std.specs.Prelude.{slice_get}
use Rattle.std.proofs.lemmas.List.{take_more, take_all}
use Rattle.std.proofs.lemmas.Option.{none-some, same_Some}
use Rattle.c_program.specs.Tree.{Program}
use Rattle.block_ir.specs.declared.code.ThreadCode.{ThreadCode}
use Rattle.program_plans.specs.Steps.{IsCode, AreCodes}

codes_more : (P : Program) (fs : List ℕ) (f : ℕ) (cs : List ThreadCode) (c : ThreadCode) → AreCodes P fs cs → IsCode P f c → AreCodes P (fs ++ f ∷ []) (cs ++ c ∷ [])
codes_more P [] f [] c all one = (one, tt)
codes_more P [] f (d ∷ cs) c all one = absurd all
codes_more P (g ∷ fs) f [] c all one = absurd all
codes_more P (g ∷ fs) f (d ∷ cs) c all one = (all.0, codes_more P fs f cs c all.1 one)

pub codes_next : (P : Program) (fs : List ℕ) (i : ℕ) (cs new : List ThreadCode) (c : ThreadCode) → i < length fs → AreCodes P (take i fs) cs → IsCode P (get_or fs i 0) c →
    new ≡ cs ++ c ∷ [] → AreCodes P (take (i + 1) fs) new
codes_next P fs i cs new c lt all one pushed =
    subst (λ xs. AreCodes P xs new) (sym (take_more fs i 0 lt))
    (subst (AreCodes P (take i fs ++ get_or fs i 0 ∷ [])) (sym pushed) (codes_more P (take i fs) (get_or fs i 0) cs c all one))

pub codes_whole : (P : Program) (fs : List ℕ) (i : ℕ) (cs : List ThreadCode) → length fs ≤ i → AreCodes P (take i fs) cs → AreCodes P fs cs
codes_whole P fs i cs le all = subst (λ (xs : List ℕ). AreCodes P xs cs) (take_all i fs le) all

pub codes_count : (P : Program) (fs : List ℕ) (cs : List ThreadCode) → AreCodes P fs cs → length cs ≡ length fs
codes_count P [] [] all = refl
codes_count P [] (c ∷ cs) all = absurd all
codes_count P (f ∷ fs) [] all = absurd all
codes_count P (f ∷ fs) (c ∷ cs) all = ap suc (codes_count P fs cs all.1)

pub code_at : (P : Program) (fs : List ℕ) (cs : List ThreadCode) (k f : ℕ) (c : ThreadCode) → AreCodes P fs cs → slice_get fs k ≡ Some f → slice_get cs k ≡ Some c → IsCode P f c
code_at P [] cs k f c all here there = absurd (none-some f here)
code_at P (g ∷ fs) [] k f c all here there = absurd all
code_at P (g ∷ fs) (d ∷ cs) zero f c all here there =
    subst (λ (n : ℕ). IsCode P n c) (same_Some g f here) (subst (IsCode P g) (same_Some d c there) all.0)
code_at P (g ∷ fs) (d ∷ cs) (suc k) f c all here there = code_at P fs cs k f c all.1 here there
