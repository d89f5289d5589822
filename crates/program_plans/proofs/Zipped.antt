-- Functions that take their codes and plans one after another.
use Rattle.std.proofs.Common.{◌≡◌, ℕ, ◌+◌, ◌<◌, ◌≤◌, List, [], ◌∷◌, ◌++◌, length, get_or, take, map, Some, refl, sym, ap, subst, ◌∙◌, arith, length-append, append_assoc}
use Rattle.std.specs.Prelude.{slice_get, string_bytes}
use Rattle.std.specs.List.{remove}
use Rattle.std.proofs.lemmas.List.{append-nil, length-map, map-append, take_all, take_more}
use Rattle.std.proofs.lemmas.Option.{none-some, same_Some}
use Rattle.c_program.specs.Tree.{Program}
use Rattle.block_ir.specs.declared.code.ThreadCode.{ThreadCode}
use Rattle.block_ir.specs.declared.plan.Planned.{Planned}
use Rattle.program_plans.specs.declared.PlannedFunction.{PlannedFunction}
use Rattle.program_plans.specs.Steps.{function_name, AreZipped}

abbrev name_of : PlannedFunction → List ℕ
name_of p = string_bytes p.name

abbrev code_of : PlannedFunction → ThreadCode
code_of p = p.code

abbrev plan_of : PlannedFunction → Planned
plan_of p = p.plan

-- the first i functions have theirs, and these codes and plans are left
pub record AreBegun (P : Program) (fs : List ℕ) (codes : List ThreadCode) (plans : List Planned) (i : ℕ) (cs : List ThreadCode) (ps : List Planned)
    (planned : List PlannedFunction) : Type 0 where
  pub names_are : map (λ (p : PlannedFunction). string_bytes p.name) planned ≡ map (function_name P) (take i fs)
  pub codes_are : map (λ (p : PlannedFunction). p.code) planned ++ cs ≡ codes
  pub plans_are : map (λ (p : PlannedFunction). p.plan) planned ++ ps ≡ plans

pub none_begun : (P : Program) (fs : List ℕ) (codes : List ThreadCode) (plans : List Planned) (planned : List PlannedFunction) → planned ≡ [] →
    AreBegun P fs codes plans 0 codes plans planned
none_begun P fs codes plans planned e = record {
  names_are = ap (map name_of) e;
  codes_are = ap (λ (l : List PlannedFunction). map code_of l ++ codes) e;
  plans_are = ap (λ (l : List PlannedFunction). map plan_of l ++ plans) e;
}

one_more : {X : Type 0} (g : PlannedFunction → X) (planned : List PlannedFunction) (p : PlannedFunction) (xs new all : List X) → slice_get xs 0 ≡ Some (g p) → new ≡ remove xs 0 →
    map g planned ++ xs ≡ all → map g (planned ++ p ∷ []) ++ new ≡ all
one_more g planned p [] new all first rest was = absurd (none-some (g p) first)
one_more {X} g planned p (x ∷ xs) new all first rest was =
    ap (λ (l : List X). l ++ new) (map-append g planned (p ∷ [])) ∙ append_assoc (map g planned) (g p ∷ []) new ∙ ap (λ (l : List X). map g planned ++ g p ∷ l) rest
    ∙ ap (λ (y : X). map g planned ++ y ∷ xs) (sym (same_Some x (g p) first)) ∙ was

-- one more function takes the first code and the first plan that are left
pub begun_next : (P : Program) (fs : List ℕ) (codes : List ThreadCode) (plans : List Planned) (i : ℕ) (cs new_cs : List ThreadCode) (ps new_ps : List Planned)
    (planned new : List PlannedFunction) (p : PlannedFunction) → i < length fs → AreBegun P fs codes plans i cs ps planned → string_bytes p.name ≡ function_name P (get_or fs i 0) →
    slice_get cs 0 ≡ Some p.code → new_cs ≡ remove cs 0 → slice_get ps 0 ≡ Some p.plan → new_ps ≡ remove ps 0 → new ≡ planned ++ p ∷ [] →
    AreBegun P fs codes plans (i + 1) new_cs new_ps new
begun_next P fs codes plans i cs new_cs ps new_ps planned new p lt was name code codes_left plan plans_left pushed =
    subst (AreBegun P fs codes plans (i + 1) new_cs new_ps) (sym pushed) (record {
      names_are =
          map-append name_of planned (p ∷ []) ∙ ap (λ (l : List (List ℕ)). l ++ name_of p ∷ []) was.names_are
          ∙ ap (λ (n : List ℕ). map (function_name P) (take i fs) ++ n ∷ []) name ∙ sym (map-append (function_name P) (take i fs) (get_or fs i 0 ∷ []))
          ∙ ap (map (function_name P)) (sym (take_more fs i 0 lt));
      codes_are = one_more code_of planned p cs new_cs codes code codes_left was.codes_are;
      plans_are = one_more plan_of planned p ps new_ps plans plan plans_left was.plans_are;
    })

left_count : {X : Type 0} (g : PlannedFunction → X) (planned : List PlannedFunction) (xs all : List X) → map g planned ++ xs ≡ all → length planned + length xs ≡ length all
left_count g planned xs all e = ap (λ n. n + length xs) (sym (length-map planned g)) ∙ sym (length-append (map g planned) xs) ∙ ap length e

none_left : {X : Type 0} (xs : List X) → length xs ≤ 0 → xs ≡ []
none_left [] le = refl
none_left (x ∷ xs) le = absurd (omega arith)

module _ (P : Program) (fs : List ℕ) (codes : List ThreadCode) (plans : List Planned) (i : ℕ) (cs : List ThreadCode) (ps : List Planned) (planned : List PlannedFunction) where
  pub all_zipped : length fs ≤ i → length codes ≡ length fs → length plans ≡ length fs → AreBegun P fs codes plans i cs ps planned → AreZipped P fs codes plans planned
  all_zipped le codes_long plans_long begun =
      let whole = take_all i fs le in
      let names : map name_of planned ≡ map (function_name P) fs = begun.names_are ∙ ap (map (function_name P)) whole in
      let count : length planned ≡ length fs = sym (length-map planned name_of) ∙ ap length names ∙ length-map fs (function_name P) in
      let codes_left = left_count code_of planned cs codes begun.codes_are in
      let plans_left = left_count plan_of planned ps plans begun.plans_are in
      let no_code : cs ≡ [] = none_left cs (omega (arith, count, codes_left)) in
      let no_plan : ps ≡ [] = none_left ps (omega (arith, count, plans_left)) in
      record {
        names_are = names;
        codes_are = sym (append-nil (map code_of planned)) ∙ ap (λ l. map code_of planned ++ l) (sym no_code) ∙ begun.codes_are;
        plans_are = sym (append-nil (map plan_of planned)) ∙ ap (λ l. map plan_of planned ++ l) (sym no_plan) ∙ begun.plans_are;
      }
