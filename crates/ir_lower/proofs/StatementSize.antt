-- What a statement without others in it needs, where it is too large.
use Rattle.std.proofs.Common.{◌≡◌, ℕ, ◌+◌, ◌*◌, ◌≤◌, true, List, length, sym, ap, ◌∙◌, subst, ⊎_elim, arith}
use Rattle.std.specs.Prelude.{nat_eq, nat_le}
use Rattle.std.proofs.lemmas.Bool.{and_parts, true≢false}
use Rattle.std.proofs.lemmas.Bool.Decides.{leb_tells}
use Rattle.c_program.specs.Tree.{Expression, Piece, Statement, Program}
use Rattle.c_program.specs.Weight.{expressions_weight}
use Rattle.code_places.specs.Weighing.{inlined_weight}
use Rattle.code_blocks.specs.declared.fault.LoweringFault.{LoweringFault}
use Rattle.code_places.specs.declared.lowering.Lowering.{Lowering}
use Rattle.code_blocks.specs.Room.{IsFull}
use Rattle.code_blocks.proofs.Room.{full_more}
use Rattle.code_places.specs.Needing.{needed, IsFullFor}
use Rattle.code_control.proofs.ControlSize.{sites_within}
use Rattle.ir_lower.specs.Taken.{conversion_count, is_taken}

-- a printf has at most four values
values_few : (n : ℕ) → nat_le n 4 ≡ true → n ≤ 4
values_few n few = ⊎_elim (λ h. h.1) (λ h. absurd (true≢false (sym few ∙ h.0))) (leb_tells n 4)

module _ (P : Program) (depth : ℕ) (s t : Statement) (c : Lowering) (fault : LoweringFault) (is : t ≡ s) (n : ℕ) where
  -- operations, a step and variables for operands of acts
  pub simple_for : (more : ℕ) → n ≤ length c.block.operations + c.block.steps + length c.variables + 4 * more → ((Q : Program) → more ≤ inlined_weight Q s) →
      IsFull n fault → IsFullFor P depth t c fault
  simple_for more le weighs full =
      subst (λ z. IsFullFor P depth z c fault) (sym is) (λ S w size suits deep now.
      let operations = now.size in
      let steps = now.steps in
      let variables = suits.good.variables in
      let weight = weighs S.program in
      full_more fault n (needed S size (w + inlined_weight S.program s)) (omega (arith, le, operations, steps, variables, weight)) full)

-- those of a printf, whose number is one more than that of the printfs before it
pub print_for : (P : Program) (depth offset : ℕ) (leaves turns : _) (format : List Piece) (es : List Expression) (count : ℕ) (t : Statement) (c : Lowering) (fault : LoweringFault) →
    count ≡ length es → t ≡ Statement.Print offset format es → is_taken leaves turns t ≡ true →
    IsFull (length c.block.operations + c.block.steps + length c.variables + c.site + (3 * expressions_weight es + 2 * count + 1)) fault → IsFullFor P depth t c fault
print_for P depth offset leaves turns format es count t c fault counted is taken full =
    let few = values_few (length es) (and_parts (nat_eq (conversion_count format) (length es)) (nat_le (length es) 4) (sym (ap (is_taken leaves turns) is) ∙ taken)).1 in
    subst (λ z. IsFullFor P depth z c fault) (sym is) (λ S w size suits deep now.
    let operations = now.size in
    let steps = now.steps in
    let variables = suits.good.variables in
    let sites = sites_within S.program (Statement.Print offset format es) c.site suits.sites in
    full_more fault (length c.block.operations + c.block.steps + length c.variables + c.site + (3 * expressions_weight es + 2 * count + 1))
    (needed S size (w + inlined_weight S.program (Statement.Print offset format es))) (omega (arith, operations, steps, variables, sites, few, counted)) full)
