use Rattle.std.proofs.Common.{◌≡◌, ◌∙◌, ℕ, ℤ, Bool, FitsSigned, List, ap, rules, sym}
use mir.Syntax.{w128}
use Rattle.std.proofs.lemmas.Int.{to_z-of_z}
use Rattle.hls_ints.specs.Types.{IntegerType, wrapped}
use Rattle.c_rules.specs.declared.constants.Typed.{Typed}
use Rattle.c_rules.specs.declared.constants.Constancy.TheVariants as is
use Rattle.c_rules.specs.declared.fault.Rule.TheVariants as rule
use Rattle.c_rules.specs.declared.findings.Findings.{Findings}
use Rattle.c_rules.specs.Cases.{stands, noted}
use Rattle.c_rules.specs.Findings.{broken_if}
use Rattle.c_rules.specs.Walks.{Outcome}
use Rattle.c_resolution.specs.Statements.{Cases, noted_case}
use Rattle.c_statements.proofs.switches.note_case.Goals as goal

-- by the value that is noted
by_value : (ty : IntegerType) (x : Typed) (at : ℕ) (c : Cases) (found after : Findings) (z : ℤ) (standing : Bool) (values : List ℤ) →
    z ≡ wrapped ty x.number → standing ≡ stands c.values z → values ≡ noted c.values z → after ≡ broken_if standing rule.Twice at found →
    noted_case ty (is.Constant x) at c found ≡ Outcome.Gives (record c { values = values }) after
unfolding noted_case
by_value ty x at c found after z standing values value_is stands_is noted_is after_is =
    let p : noted c.values (wrapped ty x.number) ≡ values = sym (noted_is ∙ ap (noted c.values) value_is) in
    let q : broken_if (stands c.values (wrapped ty x.number)) rule.Twice at found ≡ after =
    sym (after_is ∙ ap (λ b. broken_if b rule.Twice at found) (stands_is ∙ ap (stands c.values) value_is)) in
    λ i. Outcome.Gives (record c { values = p i }) (q i)

pub returns-in_ok-stands-in-Constant : goal.returns-in_ok-stands-in-Constant
returns-in_ok-stands-in-Constant c =
    let made = c.in_ok-stands-in-Constant.ensures in
    let fits : FitsSigned w128 c.wrap.result = search rules in
    let value_is : c.wrap.result ≡ wrapped c.args.ty c.in-Constant.value.number = search rules in
    rw c.in-Constant.is
    (by_value c.args.ty c.in-Constant.value _ _ _ _ _ _ _ value_is (simp to_z-of_z at made.stands) (simp to_z-of_z at made.noted) c.add_if.ensures)
