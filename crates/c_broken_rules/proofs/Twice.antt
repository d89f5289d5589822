-- Names that are declared twice: what the single findings of a walk write of them.
use Rattle.std.proofs.Common.{◌≡◌, refl, sym, subst, ap, ◌∙◌, inl, inr, ℕ, ℤ, Bool, true, false, List, [], ◌∷◌, Some, None}
use Rattle.std.proofs.lemmas.Bool.{false≢true}
use Rattle.std.proofs.lemmas.Option.{same_Some, none-some}
use Rattle.std.specs.Prelude.{◌⊎◌, Contains, is_some, ◌&&◌}
use Rattle.hls_ints.specs.Types.{IntegerType, wrapped}
use Rattle.c_tree.specs.declared.expression.Name.{Name}
use Rattle.c_tree.specs.declared.expression.Expression.{Expression, out-Expression}
use Rattle.c_tree.specs.declared.statement.CaseLabel.{CaseLabel}
use Rattle.c_rules.specs.declared.fault.Rule.{Rule}
use Rattle.c_rules.specs.declared.fault.Rule.TheVariants as rule
use Rattle.c_rules.specs.declared.fault.Fault.{Fault}
use Rattle.c_rules.specs.declared.constants.Constancy.{Constancy}
use Rattle.c_rules.specs.declared.constants.Constancy.TheVariants as is
use Rattle.c_rules.specs.Cases.{stands, noted as with_noted}
use Rattle.c_rules.specs.Constants.{constancy}
use Rattle.c_rules.specs.Walks.{pure, finds, finds_if, creates}
use Rattle.c_resolution.specs.Statements.{Cases, noted_case, default_label, labelled}
use Rattle.c_rules.specs.Library.{function_named}
use Rattle.c_tree.specs.declared.declaration.Function.{Function}
use Rattle.c_broken_rules.specs.Sight.{Declared, Where}
use Rattle.c_broken_rules.specs.Breaks.{IsDeclared, is_function, innermost}
use Rattle.c_broken_rules.specs.Parts.{Part}
use Rattle.c_broken_rules.specs.Typing.{switch_type}
use Rattle.c_broken_rules.proofs.Ledgers.{Ledger, Good, good_pure, good_before, quiet}
use Rattle.c_broken_rules.proofs.Labels.{IsNoted, IsValue, IsCaseOf, HasCase, HasDefault, stands_before, before_stands, default_before, before_default}
use Rattle.c_broken_rules.proofs.Events.{IsOther}
use Rattle.c_broken_rules.proofs.Quiets.{IsQuiet, OthersAreQuiet, CallsAreQuiet}
use Rattle.c_broken_rules.proofs.FaultLedgers as f
use Rattle.c_broken_rules.proofs.FaultLedgers.{fault_of, fault_ledger}

-- ---- what is judged here

abbrev pub IsJudged : Rule → Type 0
IsJudged rule.Twice = Unit {0}
IsJudged r = ⊥

-- a declaration of another kind than the first one of the scope
pub record IsAgain (w : Where) (name : Name) (d : Declared) : Type 0 where
  pub earlier : Declared
  pub first : IsDeclared w name earlier
  pub no_functions : (is_function earlier && is_function d) ≡ false

-- a second body
pub record IsSecond (w : Where) (name : Name) (d : Declared) : Type 0 where
  pub f : Function
  pub is : d ≡ Declared.OfFunction f
  pub earlier : Declared
  pub first : IsDeclared w name earlier
  pub function : is_function earlier ≡ true
  pub g : Function
  pub before : Contains (innermost w.scopes) (name.bytes, Declared.OfFunction g)
  pub defined : is_some g.body ≡ true
  pub again : is_some f.body ≡ true

abbrev pub IsTwice : Where → Name → Declared → Type 0
IsTwice w name d = (is_some (function_named name.bytes) ≡ true) ⊎ IsAgain w name d ⊎ IsSecond w name d

-- a fault of the rule at the place
abbrev pub IsAt : ℕ → Fault → Type 0
IsAt at x = x ≡ fault_of rule.Twice at

-- where those functions are defined
module _ (defined : List Function) where
  -- a second case of a value in one switch
  pub record IsSecondCase (w : Where) (over : Expression) (before : List CaseLabel) (l : CaseLabel) (x : Fault) : Type 0 where
    pub e : Expression
    pub case : l.value ≡ Some e
    pub z : ℤ
    pub value : IsCaseOf (switch_type defined w over) l.value z
    pub seen : HasCase (switch_type defined w over) z before
    pub here : IsAt (out-Expression e).offset x

  -- a second default
  pub record IsSecondDefault (before : List CaseLabel) (l : CaseLabel) (x : Fault) : Type 0 where
    pub default : l.value ≡ None
    pub seen : HasDefault before
    pub here : IsAt l.offset x

  abbrev pub BreaksAt : Part → Fault → Type 0
  BreaksAt (Part.Declares w name d) x = IsTwice w name d × IsAt name.offset x
  BreaksAt (Part.Label w over before l) x = IsSecondCase w over before l x ⊎ IsSecondDefault before l x
  BreaksAt other x = ⊥

  abbrev pub twice_ledger : Ledger
  twice_ledger = fault_ledger IsJudged BreaksAt

  pub other : (r : Rule) → (IsJudged r → ⊥) → IsQuiet twice_ledger r
  other = f.other IsJudged BreaksAt

  not_judged : (r : Rule) → IsOther r → IsJudged r → ⊥
  not_judged rule.Twice h j = h
  not_judged r h j = j

  pub others : OthersAreQuiet twice_ledger
  others r at h = other r (not_judged r h) at

  pub part_fault : (part : Part) (at : ℕ) → BreaksAt part (fault_of rule.Twice at) → ((z : Fault) → BreaksAt part z → IsAt at z) →
      Good twice_ledger (finds rule.Twice at) (part ∷ [])
  part_fault part at = f.part_fault IsJudged BreaksAt part rule.Twice at

  pub part_if : (b : Bool) (part : Part) (at : ℕ) → (b ≡ true → BreaksAt part (fault_of rule.Twice at)) → ((z : Fault) → BreaksAt part z → IsAt at z) →
      (b ≡ false → (z : Fault) → BreaksAt part z → ⊥) → Good twice_ledger (finds_if b rule.Twice at) (part ∷ [])
  part_if b part at = f.part_if IsJudged BreaksAt b part rule.Twice at

  pub calls_quiet : CallsAreQuiet twice_ledger
  calls_quiet = f.calls_quiet IsJudged BreaksAt

  pub creation_quiet : (thread routine at : ℕ) → Good twice_ledger (creates thread routine at) []
  creation_quiet = f.creation_quiet IsJudged BreaksAt

  -- ---- labels

  module _ (w : Where) (over : Expression) (ty : IntegerType) (typed : ty ≡ switch_type defined w over) (before : List CaseLabel) (l : CaseLabel) (c : Cases)
      (noted : IsNoted ty before c) where
    abbrev part : Part
    part = Part.Label w over before l

    no_default : (e : Expression) (x : Fault) → l.value ≡ Some e → IsSecondDefault before l x → ⊥
    no_default e x some h = none-some e (sym h.default ∙ some)

    no_case : (x : Fault) → l.value ≡ None → IsSecondCase w over before l x → ⊥
    no_case x none h = none-some h.e (sym none ∙ h.case)

    -- what the part says of a case
    said : (e : Expression) (x : Fault) → l.value ≡ Some e → BreaksAt part x → IsSecondCase w over before l x
    said e x some (inl h) = h
    said e x some (inr h) = absurd (no_default e x some h)

    at_case : (e : Expression) (x : Fault) → l.value ≡ Some e → IsSecondCase w over before l x → IsAt (out-Expression e).offset x
    at_case e x some h = h.here ∙ ap (λ (k : Expression). fault_of rule.Twice (out-Expression k).offset) (same_Some h.e e (sym h.case ∙ some))

    valued : (e : Expression) (x : Fault) (k : Constancy) → l.value ≡ Some e → constancy e ≡ k → (h : IsSecondCase w over before l x) → IsValue ty k h.z
    valued e x k some constant h =
        subst (λ m. IsValue ty m h.z) constant (subst (λ v. IsCaseOf ty v h.z) some (subst (λ u. IsCaseOf u l.value h.z) (sym typed) h.value))

    case_by : (e : Expression) → l.value ≡ Some e → (k : Constancy) → constancy e ≡ k → Good twice_ledger (noted_case ty k (out-Expression e).offset c) (part ∷ [])
    unfolding noted_case
    case_by e some (is.Constant k) constant =
        let z = wrapped ty k.number in
        good_before twice_ledger (finds_if (stands c.values z) rule.Twice (out-Expression e).offset) (λ _. pure (record c { values = with_noted c.values z })) (part ∷ [])
        (part_if (stands c.values z) part (out-Expression e).offset
        (λ b. inl (record {
          e = e;
          case = some;
          z = z;
          value = subst (λ u. IsCaseOf u l.value z) typed (subst (λ v. IsCaseOf ty v z) (sym some) (subst (λ m. IsValue ty m z) (sym constant) refl));
          seen = subst (λ u. HasCase u z before) typed (stands_before z noted b);
          here = refl;
        }))
        (λ x h. at_case e x some (said e x some h))
        (λ b x h. let u = said e x some h in
        false≢true (sym b ∙ ap (stands c.values) (sym (valued e x (is.Constant k) some constant u)) ∙ before_stands u.z noted (subst (λ t. HasCase t u.z before) (sym typed) u.seen))))
        (λ _. good_pure twice_ledger (record c { values = with_noted c.values z }))
    case_by e some is.Unknown constant = quiet twice_ledger part (λ x h. valued e x is.Unknown some constant (said e x some h)) (good_pure twice_ledger c)
    case_by e some is.NotConstant constant =
        quiet twice_ledger part (λ x h. valued e x is.NotConstant some constant (said e x some h))
        (good_before twice_ledger (finds rule.Constant (out-Expression e).offset) (λ _. pure c) [] (other rule.Constant (λ j. j) (out-Expression e).offset)
        (λ _. good_pure twice_ledger c))

    pub case_is : (e : Expression) → l.value ≡ Some e → Good twice_ledger (noted_case ty (constancy e) (out-Expression e).offset c) (part ∷ [])
    case_is e some = case_by e some (constancy e) refl

    only_default : (x : Fault) → l.value ≡ None → BreaksAt part x → IsSecondDefault before l x
    only_default x none (inl h) = absurd (no_case x none h)
    only_default x none (inr h) = h

    pub default_is : l.value ≡ None → Good twice_ledger (default_label l.offset c) (part ∷ [])
    unfolding default_label
    default_is none =
        let next = labelled None 0 (record c { has_default = true }) in
        good_before twice_ledger (finds_if c.has_default rule.Twice l.offset) (λ _. pure next) (part ∷ [])
        (part_if c.has_default part l.offset (λ b. inr (record { default = none; seen = default_before noted b; here = refl }))
        (λ x h. (only_default x none h).here) (λ b x h. false≢true (sym b ∙ before_default noted (only_default x none h).seen)))
        (λ _. good_pure twice_ledger next)
