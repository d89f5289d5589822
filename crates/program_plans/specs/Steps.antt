-- What the parts of planning make.
use Rattle.std.specs.Prelude.{◌≡◌, ℕ, List, [], ◌∷◌, map, slice_get, string_bytes}
use Rattle.c_program.specs.Tree.{Program}
use Rattle.c_program.specs.Counting.{capped}
use Rattle.c_program.specs.Weight.{weight}
use Rattle.code_following.specs.Idle.{operation_limit}
use Rattle.code_following.specs.Typed.{IsThreadCode}
use Rattle.block_ir.specs.declared.code.ThreadCode.{ThreadCode}
use Rattle.block_ir.specs.declared.plan.Planned.{Planned}
use Rattle.code_merge.specs.Maximal.{IsMaximal}
use Rattle.program_modules.specs.Numbers.{name_if}
use Rattle.program_plans.specs.declared.PlannedFunction.{PlannedFunction}

-- the code of the thread function f, with maximal blocks
pub record IsCode (P : Program) (f : ℕ) (c : ThreadCode) : Type 0 where
  pub code : IsThreadCode P f c
  pub maximal : IsMaximal (operation_limit (capped (weight P)) c.stages) c

-- the codes of these thread functions, one after another
abbrev pub AreCodes : Program → List ℕ → List ThreadCode → Type 0
AreCodes P [] [] = Unit {0}
AreCodes P [] (c ∷ cs) = ⊥
AreCodes P (f ∷ fs) [] = ⊥
AreCodes P (f ∷ fs) (c ∷ cs) = IsCode P f c × AreCodes P fs cs

abbrev pub function_name : Program → ℕ → List ℕ
function_name P f = name_if (slice_get P.functions f)

-- they have the names of these functions, these codes and these plans, in their order
pub record AreZipped (P : Program) (fs : List ℕ) (codes : List ThreadCode) (plans : List Planned) (planned : List PlannedFunction) : Type 0 where
  pub names_are : map (λ (p : PlannedFunction). string_bytes p.name) planned ≡ map (function_name P) fs
  pub codes_are : map (λ (p : PlannedFunction). p.code) planned ≡ codes
  pub plans_are : map (λ (p : PlannedFunction). p.plan) planned ≡ plans
