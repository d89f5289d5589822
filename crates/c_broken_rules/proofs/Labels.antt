-- The labels of a switch that stand before one: the values of their cases, and whether a default is among them.
use Rattle.std.proofs.Common.{◌≡◌, refl, sym, subst, ap, ◌∙◌, inl, inr, ℕ, ℤ, Bool, true, false, List, [], ◌∷◌, ◌++◌, Option, Some, None}
use Rattle.std.specs.Prelude.{◌⊎◌, ◌||◌, is_none, if◌then◌else◌}
use Rattle.std.specs.List.{list_any}
use Rattle.std.specs.Ordering.{int_eq}
use Rattle.std.proofs.lemmas.Bool.{false≢true, or_cases}
use Rattle.std.proofs.lemmas.Bool.Decides.{Decides-int_eq}
use Rattle.std.proofs.lemmas.List.Folds.{list_any-append}
use Rattle.hls_ints.specs.Types.{IntegerType, wrapped}
use Rattle.c_tree.specs.declared.expression.Expression.{Expression, out-Expression}
use Rattle.c_tree.specs.declared.statement.CaseLabel.{CaseLabel}
use Rattle.c_rules.specs.declared.constants.Constancy.{Constancy}
use Rattle.c_rules.specs.declared.constants.Constancy.TheVariants as is
use Rattle.c_rules.specs.declared.findings.Findings.{Findings}
use Rattle.c_rules.specs.declared.names.Scope.{Scope}
use Rattle.c_rules.specs.Cases.{stands, noted}
use Rattle.c_rules.specs.Constants.{constancy, operator_count}
use Rattle.c_rules.specs.Walks.{Outcome, pure, ◌>>=◌}
use Rattle.c_expressions.specs.Expressions.{looked}
use Rattle.c_resolution.specs.Statements.{Cases, noted_case, default_label, case_label, case_value, label, label_of, labelled}
use Rattle.c_broken_rules.proofs.Ledgers.{given, left, turn, Any}

-- ---- what is noted of labels

abbrev pub with_value : IntegerType → List ℤ → Constancy → List ℤ
with_value ty values (is.Constant x) = noted values (wrapped ty x.number)
with_value ty values is.Unknown = values
with_value ty values is.NotConstant = values

abbrev pub with_case : IntegerType → List ℤ → Option Expression → List ℤ
with_case ty values None = values
with_case ty values (Some e) = with_value ty values (constancy e)

-- the values of the cases of labels behind those, at the type of their switch
abbrev pub values_behind : IntegerType → List ℤ → List CaseLabel → List ℤ
values_behind ty values [] = values
values_behind ty values (l ∷ more) = values_behind ty (with_case ty values l.value) more

-- whether a default is among labels, or there was one
abbrev pub default_behind : Bool → List CaseLabel → Bool
default_behind b [] = b
default_behind b (l ∷ more) = default_behind (b || is_none l.value) more

-- a walk has noted those labels
pub record IsNoted (ty : IntegerType) (before : List CaseLabel) (c : Cases) : Type 0 where
  pub values : c.values ≡ values_behind ty [] before
  pub default : c.has_default ≡ default_behind false before

pub none_noted : (ty : IntegerType) → IsNoted ty [] (record { steps = []; values = []; has_default = false })
none_noted ty = record { values = refl; default = refl }

-- steps note nothing
pub same_noted : {ty : IntegerType} {before : List CaseLabel} {c d : Cases} → c.values ≡ d.values → c.has_default ≡ d.has_default → IsNoted ty before c → IsNoted ty before d
same_noted values default h = record { values = sym values ∙ h.values; default = sym default ∙ h.default }

-- ---- one more label

values_more : (ty : IntegerType) (values : List ℤ) (before : List CaseLabel) (l : CaseLabel) →
    values_behind ty values (before ++ l ∷ []) ≡ with_case ty (values_behind ty values before) l.value
values_more ty values [] l = refl
values_more ty values (x ∷ before) l = values_more ty (with_case ty values x.value) before l

default_more : (b : Bool) (before : List CaseLabel) (l : CaseLabel) → default_behind b (before ++ l ∷ []) ≡ (default_behind b before || is_none l.value)
default_more b [] l = refl
default_more b (x ∷ before) l = default_more (b || is_none x.value) before l

case_values : (ty : IntegerType) (x : Constancy) (at : ℕ) (c : Cases) (found : Findings) → (given (noted_case ty x at c found)).values ≡ with_value ty c.values x
unfolding noted_case
case_values ty (is.Constant x) at c found = refl
case_values ty is.Unknown at c found = refl
case_values ty is.NotConstant at c found = refl

case_default : (ty : IntegerType) (x : Constancy) (at : ℕ) (c : Cases) (found : Findings) → (given (noted_case ty x at c found)).has_default ≡ c.has_default
unfolding noted_case
case_default ty (is.Constant x) at c found = refl
case_default ty is.Unknown at c found = refl
case_default ty is.NotConstant at c found = refl

or_false : (b : Bool) → (b || false) ≡ b
or_false true = refl
or_false false = refl

or_true : (b : Bool) → (b || true) ≡ true
or_true true = refl
or_true false = refl

with_label : (ty : IntegerType) (before : List CaseLabel) (l : CaseLabel) (c d : Cases) → IsNoted ty before c → d.values ≡ with_case ty c.values l.value →
    d.has_default ≡ (c.has_default || is_none l.value) → IsNoted ty (before ++ l ∷ []) d
with_label ty before l c d h values default = record {
  values = values ∙ ap (λ zs. with_case ty zs l.value) h.values ∙ sym (values_more ty [] before l);
  default = default ∙ ap (λ b. b || is_none l.value) h.default ∙ sym (default_more false before l);
}

by_case : (ty : IntegerType) (e : Expression) (c : Cases) (s : Scope) (found : Findings) (P : Cases → Type 0) →
    ((after : Findings) → P (labelled (Some (case_value ty (constancy e))) (operator_count e) (given (noted_case ty (constancy e) (out-Expression e).offset c after)))) →
    P (given (case_label ty e c s found))
unfolding case_label
by_case ty e c s found P h =
    let last = λ (x : Cases). pure (labelled (Some (case_value ty (constancy e))) (operator_count e) x) in
    let rest = λ (u : Unit {0}). noted_case ty (constancy e) (out-Expression e).offset c >>= last in
    let o = looked s e found in
    let z = noted_case ty (constancy e) (out-Expression e).offset c (left o) in
    subst (λ (k : Outcome Findings Cases). P (given k)) (sym (turn o rest ∙ turn z last)) (h (left o))

by_default : (at : ℕ) (c : Cases) (found : Findings) → (given (default_label at c found)).values ≡ c.values
unfolding default_label
by_default at c found = refl

is_default : (at : ℕ) (c : Cases) (found : Findings) → (given (default_label at c found)).has_default ≡ true
unfolding default_label
is_default at c found = refl

noted_of : (ty : IntegerType) (before : List CaseLabel) (l : CaseLabel) (v : Option Expression) (c : Cases) (s : Scope) (found : Findings) → l.value ≡ v → IsNoted ty before c →
    IsNoted ty (before ++ l ∷ []) (given (label_of ty v l.offset c s found))
noted_of ty before l None c s found e h =
    with_label ty before l c (given (default_label l.offset c found)) h (by_default l.offset c found ∙ ap (λ v. with_case ty c.values v) (sym e))
    (is_default l.offset c found ∙ sym (or_true c.has_default) ∙ ap (λ v. c.has_default || is_none v) (sym e))
noted_of ty before l (Some x) c s found e h =
    by_case ty x c s found (λ d. IsNoted ty (before ++ l ∷ []) d)
    (λ after. let z = given (noted_case ty (constancy x) (out-Expression x).offset c after) in
    with_label ty before l c (labelled (Some (case_value ty (constancy x))) (operator_count x) z) h
    (case_values ty (constancy x) (out-Expression x).offset c after ∙ ap (λ v. with_case ty c.values v) (sym e))
    (case_default ty (constancy x) (out-Expression x).offset c after ∙ sym (or_false c.has_default) ∙ ap (λ v. c.has_default || is_none v) (sym e)))

-- what the walk of a label gives
pub label_noted : (ty : IntegerType) (before : List CaseLabel) (l : CaseLabel) (c : Cases) (s : Scope) (found : Findings) → IsNoted ty before c →
    IsNoted ty (before ++ l ∷ []) (given (label ty l c s found))
label_noted ty before l c s found h = noted_of ty before l l.value c s found refl h

-- ---- which labels are noted

abbrev pub IsValue : IntegerType → Constancy → ℤ → Type 0
IsValue ty (is.Constant x) z = z ≡ wrapped ty x.number
IsValue ty is.Unknown z = ⊥
IsValue ty is.NotConstant z = ⊥

-- a case of the value at the type
abbrev pub IsCaseOf : IntegerType → Option Expression → ℤ → Type 0
IsCaseOf ty None z = ⊥
IsCaseOf ty (Some e) z = IsValue ty (constancy e) z

last_by : (values : List ℤ) (y z : ℤ) → (stands values z ≡ true) ⊎ (list_any (int_eq z) (y ∷ []) ≡ true) → (stands values z ≡ true) ⊎ (z ≡ y)
last_by values y z (inl h) = inl h
last_by values y z (inr h) = inr ((Decides-int_eq z y).0 (sym (or_false (int_eq z y)) ∙ h))

stands_last : (values : List ℤ) (y z : ℤ) → stands (values ++ y ∷ []) z ≡ true → (stands values z ≡ true) ⊎ (z ≡ y)
stands_last values y z h = last_by values y z (or_cases (stands values z) (list_any (int_eq z) (y ∷ [])) (sym (list_any-append (int_eq z) values (y ∷ [])) ∙ h))

first_stands : (values : List ℤ) (y z : ℤ) → stands values z ≡ true → stands (values ++ y ∷ []) z ≡ true
first_stands values y z h = list_any-append (int_eq z) values (y ∷ []) ∙ ap (λ b. b || list_any (int_eq z) (y ∷ [])) h

last_stands : (values : List ℤ) (y z : ℤ) → z ≡ y → stands (values ++ y ∷ []) z ≡ true
last_stands values y z e =
    list_any-append (int_eq z) values (y ∷ []) ∙ ap (λ b. stands values z || b) (or_false (int_eq z y) ∙ (Decides-int_eq z y).1 e) ∙ or_true (stands values z)

noted_from : (values : List ℤ) (y z : ℤ) (b : Bool) → stands values y ≡ b → stands (if b then values else values ++ y ∷ []) z ≡ true → (stands values z ≡ true) ⊎ (z ≡ y)
noted_from values y z true e h = inl h
noted_from values y z false e h = stands_last values y z h

noted_keeps : (values : List ℤ) (y z : ℤ) (b : Bool) → stands values z ≡ true → stands (if b then values else values ++ y ∷ []) z ≡ true
noted_keeps values y z true h = h
noted_keeps values y z false h = first_stands values y z h

noted_itself : (values : List ℤ) (y z : ℤ) (b : Bool) → stands values y ≡ b → z ≡ y → stands (if b then values else values ++ y ∷ []) z ≡ true
noted_itself values y z true e same = ap (stands values) same ∙ e
noted_itself values y z false e same = last_stands values y z same

value_from : (ty : IntegerType) (values : List ℤ) (x : Constancy) (z : ℤ) → stands (with_value ty values x) z ≡ true → (stands values z ≡ true) ⊎ IsValue ty x z
value_from ty values (is.Constant x) z h = noted_from values (wrapped ty x.number) z (stands values (wrapped ty x.number)) refl h
value_from ty values is.Unknown z h = inl h
value_from ty values is.NotConstant z h = inl h

value_keeps : (ty : IntegerType) (values : List ℤ) (x : Constancy) (z : ℤ) → stands values z ≡ true → stands (with_value ty values x) z ≡ true
value_keeps ty values (is.Constant x) z h = noted_keeps values (wrapped ty x.number) z (stands values (wrapped ty x.number)) h
value_keeps ty values is.Unknown z h = h
value_keeps ty values is.NotConstant z h = h

value_noted : (ty : IntegerType) (values : List ℤ) (x : Constancy) (z : ℤ) → IsValue ty x z → stands (with_value ty values x) z ≡ true
value_noted ty values (is.Constant x) z h = noted_itself values (wrapped ty x.number) z (stands values (wrapped ty x.number)) refl h
value_noted ty values is.Unknown z h = absurd h
value_noted ty values is.NotConstant z h = absurd h

case_from : (ty : IntegerType) (values : List ℤ) (v : Option Expression) (z : ℤ) → stands (with_case ty values v) z ≡ true → (stands values z ≡ true) ⊎ IsCaseOf ty v z
case_from ty values None z h = inl h
case_from ty values (Some e) z h = value_from ty values (constancy e) z h

case_keeps : (ty : IntegerType) (values : List ℤ) (v : Option Expression) (z : ℤ) → stands values z ≡ true → stands (with_case ty values v) z ≡ true
case_keeps ty values None z h = h
case_keeps ty values (Some e) z h = value_keeps ty values (constancy e) z h

case_noted : (ty : IntegerType) (values : List ℤ) (v : Option Expression) (z : ℤ) → IsCaseOf ty v z → stands (with_case ty values v) z ≡ true
case_noted ty values None z h = absurd h
case_noted ty values (Some e) z h = value_noted ty values (constancy e) z h

abbrev pub HasCase : IntegerType → ℤ → List CaseLabel → Type 0
HasCase ty z labels = Any (λ (l : CaseLabel). IsCaseOf ty l.value z) labels

first_of : (ty : IntegerType) (values : List ℤ) (l : CaseLabel) (more : List CaseLabel) (z : ℤ) → (stands values z ≡ true) ⊎ IsCaseOf ty l.value z →
    (stands values z ≡ true) ⊎ HasCase ty z (l ∷ more)
first_of ty values l more z (inl h) = inl h
first_of ty values l more z (inr h) = inr (inl h)

one_of : (ty : IntegerType) (values : List ℤ) (l : CaseLabel) (more : List CaseLabel) (z : ℤ) → (stands (with_case ty values l.value) z ≡ true) ⊎ HasCase ty z more →
    (stands values z ≡ true) ⊎ HasCase ty z (l ∷ more)
one_of ty values l more z (inl h) = first_of ty values l more z (case_from ty values l.value z h)
one_of ty values l more z (inr h) = inr (inr h)

values_from : (ty : IntegerType) (values : List ℤ) (labels : List CaseLabel) (z : ℤ) → stands (values_behind ty values labels) z ≡ true →
    (stands values z ≡ true) ⊎ HasCase ty z labels
values_from ty values [] z h = inl h
values_from ty values (l ∷ more) z h = one_of ty values l more z (values_from ty (with_case ty values l.value) more z h)

values_keep : (ty : IntegerType) (values : List ℤ) (labels : List CaseLabel) (z : ℤ) → stands values z ≡ true → stands (values_behind ty values labels) z ≡ true
values_keep ty values [] z h = h
values_keep ty values (l ∷ more) z h = values_keep ty (with_case ty values l.value) more z (case_keeps ty values l.value z h)

values_hold : (ty : IntegerType) (values : List ℤ) (labels : List CaseLabel) (z : ℤ) → HasCase ty z labels → stands (values_behind ty values labels) z ≡ true
values_hold ty values [] z h = absurd h
values_hold ty values (l ∷ more) z (inl h) = values_keep ty (with_case ty values l.value) more z (case_noted ty values l.value z h)
values_hold ty values (l ∷ more) z (inr h) = values_hold ty (with_case ty values l.value) more z h

none_first : {P : Type 0} → (false ≡ true) ⊎ P → P
none_first (inl h) = absurd (false≢true h)
none_first (inr h) = h

-- a value stands among those noted where a case before has it
pub stands_before : {ty : IntegerType} {before : List CaseLabel} {c : Cases} (z : ℤ) → IsNoted ty before c → stands c.values z ≡ true → HasCase ty z before
stands_before {ty} {before} z h e = none_first (values_from ty [] before z (sym (ap (λ zs. stands zs z) h.values) ∙ e))

pub before_stands : {ty : IntegerType} {before : List CaseLabel} {c : Cases} (z : ℤ) → IsNoted ty before c → HasCase ty z before → stands c.values z ≡ true
before_stands {ty} {before} z h k = ap (λ zs. stands zs z) h.values ∙ values_hold ty [] before z k

abbrev pub HasDefault : List CaseLabel → Type 0
HasDefault labels = Any (λ (l : CaseLabel). l.value ≡ None) labels

is_none_of : (o : Option Expression) → is_none o ≡ true → o ≡ None
is_none_of None h = refl
is_none_of (Some e) h = absurd (false≢true h)

default_first : (b : Bool) (l : CaseLabel) (more : List CaseLabel) → (b ≡ true) ⊎ (is_none l.value ≡ true) → (b ≡ true) ⊎ HasDefault (l ∷ more)
default_first b l more (inl h) = inl h
default_first b l more (inr h) = inr (inl (is_none_of l.value h))

default_by : (b : Bool) (l : CaseLabel) (more : List CaseLabel) → ((b || is_none l.value) ≡ true) ⊎ HasDefault more → (b ≡ true) ⊎ HasDefault (l ∷ more)
default_by b l more (inl h) = default_first b l more (or_cases b (is_none l.value) h)
default_by b l more (inr h) = inr (inr h)

default_from : (b : Bool) (labels : List CaseLabel) → default_behind b labels ≡ true → (b ≡ true) ⊎ HasDefault labels
default_from b [] h = inl h
default_from b (l ∷ more) h = default_by b l more (default_from (b || is_none l.value) more h)

default_keeps : (b : Bool) (labels : List CaseLabel) → b ≡ true → default_behind b labels ≡ true
default_keeps b [] h = h
default_keeps b (l ∷ more) h = default_keeps (b || is_none l.value) more (ap (λ c. c || is_none l.value) h)

default_holds : (b : Bool) (labels : List CaseLabel) → HasDefault labels → default_behind b labels ≡ true
default_holds b [] h = absurd h
default_holds b (l ∷ more) (inl h) = default_keeps (b || is_none l.value) more (ap (λ v. b || is_none v) h ∙ or_true b)
default_holds b (l ∷ more) (inr h) = default_holds (b || is_none l.value) more h

pub default_before : {ty : IntegerType} {before : List CaseLabel} {c : Cases} → IsNoted ty before c → c.has_default ≡ true → HasDefault before
default_before {before = before} h e = none_first (default_from false before (sym h.default ∙ e))

pub before_default : {ty : IntegerType} {before : List CaseLabel} {c : Cases} → IsNoted ty before c → HasDefault before → c.has_default ≡ true
before_default {before = before} h k = h.default ∙ default_holds false before k
