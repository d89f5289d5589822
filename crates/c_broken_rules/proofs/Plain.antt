-- Faults in constants and formats: what a part of a text is by itself, wherever it stands.
use Rattle.std.proofs.Common.{◌≡◌, refl, sym, subst, ap, ◌∙◌, ℕ, Bool, true, false, List, [], ◌∷◌, length, Option, Some, None}
use Rattle.std.proofs.lemmas.Bool.{true≢false, not-true}
use Rattle.std.specs.Prelude.{nat_le, not, pos}
use Rattle.hls_ints.specs.Types.{IntegerType, wrapped}
use Rattle.c_token.specs.declared.constant.Constant.{Constant}
use Rattle.c_token.specs.declared.constant.Constant.TheVariants as constant
use Rattle.c_token.specs.declared.constant.ConstantType.{ConstantType}
use Rattle.c_tree.specs.declared.expression.Name.{Name}
use Rattle.c_tree.specs.declared.expression.Expression.{Expression as ExpressionTree, out-Expression}
use Rattle.c_tree.specs.declared.expression.Argument.{Argument}
use Rattle.c_tree.specs.declared.statement.CaseLabel.{CaseLabel}
use Rattle.c_rules.specs.declared.fault.Rule.{Rule}
use Rattle.c_rules.specs.declared.fault.Rule.TheVariants as rule
use Rattle.c_rules.specs.declared.fault.Fault.{Fault}
use Rattle.c_rules.specs.declared.constants.Constancy.{Constancy}
use Rattle.c_rules.specs.declared.constants.Constancy.TheVariants as is
use Rattle.c_rules.specs.Cases.{stands, noted}
use Rattle.c_rules.specs.Constants.{constancy, constant_value}
use Rattle.c_rules.specs.Faults.{first}
use Rattle.c_rules.specs.Walks.{pure, finds, finds_if, creates}
use Rattle.c_expressions.specs.Expressions as e
use Rattle.c_calls.specs.Calls as k
use Rattle.c_resolution.specs.Locals as l
use Rattle.c_resolution.specs.Globals as g
use Rattle.c_resolution.specs.Statements.{Cases, noted_case}
use Rattle.c_broken_rules.specs.Sight.{Where}
use Rattle.c_broken_rules.specs.Parts.{Part}
use Rattle.c_broken_rules.proofs.Ledgers.{Ledger, Good, good_pure, good_before, quiet}
use Rattle.c_broken_rules.proofs.Events.{IsOther, elements_given}
use Rattle.c_broken_rules.proofs.Quiets as q
use Rattle.c_broken_rules.proofs.Quiets.{IsQuiet, OthersAreQuiet, CallsAreQuiet}
use Rattle.c_broken_rules.proofs.FaultLedgers as f
use Rattle.c_broken_rules.proofs.FaultLedgers.{fault_of, fault_ledger}

-- ---- which rules are judged here

abbrev pub IsJudged : Rule → Type 0
IsJudged rule.Constant = Unit {0}
IsJudged rule.Format = Unit {0}
IsJudged r = ⊥

abbrev pub IsNone : {A : Type 0} → Option A → Type 0
IsNone None = Unit {0}
IsNone (Some a) = ⊥

-- no constant expression, or one below 1
abbrev pub IsNoLength : Constancy → Type 0
IsNoLength (is.Constant x) = IsNone (l.positive x.number)
IsNoLength is.Unknown = ⊥
IsNoLength is.NotConstant = Unit {0}

-- an array of those lengths has no element of that index
abbrev pub IsBeyond : List ExpressionTree → ℕ → Type 0
IsBeyond lengths index = nat_le (elements_given 1 lengths) index ≡ true

-- a case that is no constant expression
abbrev pub CaseBreaks : Option ExpressionTree → Fault → Type 0
CaseBreaks None x = ⊥
CaseBreaks (Some e) x = (constancy e ≡ is.NotConstant) × (x ≡ fault_of rule.Constant (out-Expression e).offset)

abbrev pub PrintBreaks : Name → List Argument → Fault → Type 0
PrintBreaks name [] x = x ≡ fault_of rule.Format name.offset
PrintBreaks name (first ∷ values) x = (k.takes (k.format first) (length values) ≡ false) × (x ≡ fault_of rule.Format (e.argument_offset first))

-- the fault that a part is by itself
abbrev pub BreaksAt : Part → Fault → Type 0
BreaksAt (Part.Constant value at) x = (value ≡ constant.TooLarge) × (x ≡ fault_of rule.Constant at)
BreaksAt (Part.Length v) x = IsNoLength (constancy v) × (x ≡ fault_of rule.Constant (out-Expression v).offset)
BreaksAt (Part.Initial v) x = (constancy v ≡ is.NotConstant) × (x ≡ fault_of rule.Constant (out-Expression v).offset)
BreaksAt (Part.Listed lengths index at) x = IsBeyond lengths index × (x ≡ fault_of rule.Constant at)
BreaksAt (Part.Label w over before l) x = CaseBreaks l.value x
BreaksAt (Part.Print name arguments) x = PrintBreaks name arguments x
BreaksAt other x = ⊥

abbrev pub plain_ledger : Ledger
plain_ledger = fault_ledger IsJudged BreaksAt

pub other : (r : Rule) → (IsJudged r → ⊥) → IsQuiet plain_ledger r
other = f.other IsJudged BreaksAt

not_judged : (r : Rule) → IsOther r → IsJudged r → ⊥
not_judged rule.Constant h j = h
not_judged rule.Format h j = h
not_judged r h j = j

pub others : OthersAreQuiet plain_ledger
others r at h = other r (not_judged r h) at

pub calls_quiet : CallsAreQuiet plain_ledger
calls_quiet = f.calls_quiet IsJudged BreaksAt

pub creation_quiet : (thread routine at : ℕ) → Good plain_ledger (creates thread routine at) []
creation_quiet = f.creation_quiet IsJudged BreaksAt

part_fault : (part : Part) (r : Rule) (at : ℕ) → BreaksAt part (fault_of r at) → ((z : Fault) → BreaksAt part z → z ≡ fault_of r at) → Good plain_ledger (finds r at) (part ∷ [])
part_fault = f.part_fault IsJudged BreaksAt

-- ---- constants

not_same : (value : ℕ) (ty : ConstantType) → constant.Typed value ty ≡ constant.TooLarge → ⊥
not_same value ty h = cc

constant_from : (v : Constant) (at : ℕ) → Good plain_ledger (e.constant_from (constant_value v) at) (Part.Constant v at ∷ [])
constant_from (constant.Typed value ty) at =
    quiet plain_ledger (Part.Constant (constant.Typed value ty) at) (λ x h. not_same value ty h.0) (good_pure plain_ledger _)
constant_from constant.TooLarge at =
    good_before plain_ledger (finds rule.Constant at) (λ _. pure e.nothing) (Part.Constant constant.TooLarge at ∷ [])
    (part_fault (Part.Constant constant.TooLarge at) rule.Constant at (refl, refl) (λ z h. h.1)) (λ _. good_pure plain_ledger e.nothing)

pub constant_is : (v : Constant) (at : ℕ) → Good plain_ledger (e.constant v at) (Part.Constant v at ∷ [])
unfolding e.constant
constant_is v at = constant_from v at

number_is : (v : ExpressionTree) (o : Option ℕ) (at : ℕ) → at ≡ (out-Expression v).offset → (IsNoLength (constancy v) → IsNone o) → (IsNone o → IsNoLength (constancy v)) →
    Good plain_ledger (l.length_of_number o at) (Part.Length v ∷ [])
number_is v (Some n) at is to back = quiet plain_ledger (Part.Length v) (λ x h. to h.0) (good_pure plain_ledger n)
number_is v None at is to back =
    good_before plain_ledger (finds rule.Constant at) (λ _. pure 1) (Part.Length v ∷ [])
    (part_fault (Part.Length v) rule.Constant at (back tt, ap (fault_of rule.Constant) is) (λ z h. h.1 ∙ ap (fault_of rule.Constant) (sym is))) (λ _. good_pure plain_ledger 1)

pub length_by_is : (v : ExpressionTree) (x : Constancy) → constancy v ≡ x → Good plain_ledger (l.length_from x (out-Expression v).offset) (Part.Length v ∷ [])
unfolding l.length_from
length_by_is v (is.Constant x) e =
    number_is v (l.positive x.number) (out-Expression v).offset refl (λ h. subst IsNoLength e h) (λ h. subst IsNoLength (sym e) h)
length_by_is v is.Unknown e = quiet plain_ledger (Part.Length v) (λ x h. subst IsNoLength e h.0) (good_pure plain_ledger 1)
length_by_is v is.NotConstant e = number_is v None (out-Expression v).offset refl (λ h. tt) (λ h. subst IsNoLength (sym e) tt)

abbrev IsValue : Constancy → Type 0
IsValue is.NotConstant = ⊥
IsValue other = Unit {0}

no_value : {x : Constancy} → IsValue x → x ≡ is.NotConstant → ⊥
no_value h e = subst IsValue e h

pub initial_by_is : (ty : IntegerType) (v : ExpressionTree) (x : Constancy) → constancy v ≡ x → Good plain_ledger (g.initial_from ty x (out-Expression v).offset) (Part.Initial v ∷ [])
unfolding g.initial_from
initial_by_is ty v (is.Constant x) e = quiet plain_ledger (Part.Initial v) (λ z h. no_value {x = is.Constant x} tt (sym e ∙ h.0)) (good_pure plain_ledger (wrapped ty x.number))
initial_by_is ty v is.Unknown e = quiet plain_ledger (Part.Initial v) (λ z h. no_value {x = is.Unknown} tt (sym e ∙ h.0)) (good_pure plain_ledger (pos 0))
initial_by_is ty v is.NotConstant e =
    good_before plain_ledger (finds rule.Constant (out-Expression v).offset) (λ _. pure (pos 0)) (Part.Initial v ∷ [])
    (part_fault (Part.Initial v) rule.Constant (out-Expression v).offset (e, refl) (λ z h. h.1)) (λ _. good_pure plain_ledger (pos 0))

pub listed_is : (lengths : List ExpressionTree) (n index at : ℕ) → n ≡ elements_given 1 lengths →
    Good plain_ledger (finds_if (nat_le n index) rule.Constant at) (Part.Listed lengths index at ∷ [])
listed_is lengths n index at is =
    let same = ap (λ m. nat_le m index) is in
    f.part_if IsJudged BreaksAt (nat_le n index) (Part.Listed lengths index at) rule.Constant at (λ b. (sym same ∙ b, refl)) (λ z h. h.1)
    (λ b z h. true≢false (sym h.0 ∙ sym same ∙ b))

-- ---- cases

pub no_case : (v : Option ExpressionTree) → v ≡ None → (x : Fault) → CaseBreaks v x → ⊥
no_case v none x h = subst (λ u. CaseBreaks u x) none h

case_at : (v : Option ExpressionTree) (e : ExpressionTree) → v ≡ Some e → CaseBreaks (Some e) (fault_of rule.Constant (out-Expression e).offset) →
    CaseBreaks v (fault_of rule.Constant (out-Expression e).offset)
case_at v e some h = subst (λ u. CaseBreaks u (fault_of rule.Constant (out-Expression e).offset)) (sym some) h

of_case : (v : Option ExpressionTree) (e : ExpressionTree) → v ≡ Some e → (x : Fault) → CaseBreaks v x → CaseBreaks (Some e) x
of_case v e some x h = subst (λ u. CaseBreaks u x) some h

case_by : (w : Where) (over : ExpressionTree) (before : List CaseLabel) (l : CaseLabel) (ty : IntegerType) (e : ExpressionTree) (c : Cases) → l.value ≡ Some e →
    (x : Constancy) → constancy e ≡ x → Good plain_ledger (noted_case ty x (out-Expression e).offset c) (Part.Label w over before l ∷ [])
unfolding noted_case
case_by w over before l ty e c some (is.Constant x) same =
    good_before plain_ledger (finds_if (stands c.values (wrapped ty x.number)) rule.Twice (out-Expression e).offset)
    (λ _. pure (record c { values = noted c.values (wrapped ty x.number) })) (Part.Label w over before l ∷ [])
    (quiet plain_ledger (Part.Label w over before l) (λ z h. no_value {x = is.Constant x} tt (sym same ∙ (of_case l.value e some z h).0))
    (q.broken_if plain_ledger (stands c.values (wrapped ty x.number)) rule.Twice (out-Expression e).offset (other rule.Twice (λ j. j))))
    (λ _. good_pure plain_ledger (record c { values = noted c.values (wrapped ty x.number) }))
case_by w over before l ty e c some is.Unknown same =
    quiet plain_ledger (Part.Label w over before l) (λ z h. no_value {x = is.Unknown} tt (sym same ∙ (of_case l.value e some z h).0)) (good_pure plain_ledger c)
case_by w over before l ty e c some is.NotConstant same =
    good_before plain_ledger (finds rule.Constant (out-Expression e).offset) (λ _. pure c) (Part.Label w over before l ∷ [])
    (part_fault (Part.Label w over before l) rule.Constant (out-Expression e).offset (case_at l.value e some (same, refl)) (λ z h. (of_case l.value e some z h).1))
    (λ _. good_pure plain_ledger c)

pub case_is : (w : Where) (over : ExpressionTree) (before : List CaseLabel) (l : CaseLabel) (ty : IntegerType) (e : ExpressionTree) (c : Cases) → l.value ≡ Some e →
    Good plain_ledger (noted_case ty (constancy e) (out-Expression e).offset c) (Part.Label w over before l ∷ [])
case_is w over before l ty e c some = case_by w over before l ty e c some (constancy e) refl

-- ---- formats

not_true : (b : Bool) → not b ≡ false → b ≡ false → ⊥
not_true true h k = true≢false k
not_true false h k = true≢false h

pub print_is : (name : Name) (first : Argument) (values : List Argument) →
    Good plain_ledger (finds_if (not (k.takes (k.format first) (length values))) rule.Format (e.argument_offset first)) (Part.Print name (first ∷ values) ∷ [])
print_is name first values =
    let b = k.takes (k.format first) (length values) in
    f.part_if IsJudged BreaksAt (not b) (Part.Print name (first ∷ values)) rule.Format (e.argument_offset first) (λ h. (not-true b h, refl)) (λ z h. h.1) (λ h z q. not_true b h q.0)

pub no_print_is : (name : Name) → Good plain_ledger (finds rule.Format name.offset) (Part.Print name [] ∷ [])
no_print_is name = part_fault (Part.Print name []) rule.Format name.offset refl (λ z h. h)
