-- What declarations in blocks write.
use Rattle.std.proofs.Common.{◌≡◌, refl, sym, subst, ap, ◌∙◌, ℕ, Bool, true, false, List, [], ◌∷◌, ◌++◌, Option, Some, None}
use Rattle.std.specs.Prelude.{if◌then◌else◌}
use Rattle.std.specs.List.{flat_map, AllByRecursion}
use Rattle.c_tree.specs.declared.expression.Name.{Name}
use Rattle.c_tree.specs.declared.expression.Specifiers.{Specifiers}
use Rattle.c_tree.specs.declared.expression.Expression.{Expression as ExpressionTree, out-Expression}
use Rattle.c_tree.specs.declared.declaration.Declaration.{Declaration}
use Rattle.c_tree.specs.declared.declaration.Declarator.{Declarator}
use Rattle.hls_ints.specs.Types.{int_type}
use Rattle.c_program.specs.Tree.{Expression, Statement}
use Rattle.c_rules.specs.declared.fault.Rule.TheVariants as rule
use Rattle.c_rules.specs.declared.specifiers.BasicType.{BasicType}
use Rattle.c_rules.specs.declared.specifiers.Spelled.{Spelled}
use Rattle.c_rules.specs.declared.names.Meaning.{Meaning}
use Rattle.c_rules.specs.declared.names.Meaning.TheVariants as meaning
use Rattle.c_rules.specs.declared.names.Variable.{Variable}
use Rattle.c_rules.specs.declared.names.Scope.{Scope}
use Rattle.c_rules.specs.declared.findings.Findings.{Findings}
use Rattle.c_rules.specs.declared.dimensions.Dimensions.{Dimensions}
use Rattle.c_rules.specs.declared.dimensions.Dimensions.TheVariants.{Scalar}
use Rattle.c_rules.specs.Constants.{constancy}
use Rattle.c_rules.specs.Dimensions.{elements, with_length}
use Rattle.c_rules.specs.Specifiers.{c_type, plain, spelled_by}
use Rattle.c_rules.specs.Walks.{pure, finds, finds_if, through, place_in_tree, ◌>>=◌, ◌>>◌}
use Rattle.c_expressions.specs.Cuts.{Cut, free_from}
use Rattle.c_expressions.specs.Expressions as e
use Rattle.c_resolution.specs.States.{finding}
use Rattle.c_resolution.specs.Locals as l
use Rattle.c_broken_rules.specs.Sight.{Declared, Where, behind}
use Rattle.c_broken_rules.specs.Parts as p
use Rattle.c_broken_rules.specs.Parts.{Part, of_any, of_each}
use Rattle.c_broken_rules.specs.Typing.{plain_type, type_of_plain}
use Rattle.c_broken_rules.proofs.Ledgers.{Ledger, Good, given, good_pure, good_then, good_before, good_list, nothing_new, writes_with}
use Rattle.c_broken_rules.proofs.Events.{Events}
use Rattle.c_broken_rules.proofs.Values.{good_looked, good_value}
use Rattle.c_broken_rules.proofs.Walks.{Scoping, IsUsual, type_of_meaning, right_finding_is, right_through, Goes_right, right_pure, right_then, right_before, right_finding, right_as, behind_both}

module _ (L : Ledger) (s : Scope) (w : Where) (events : Events L s w) where
  pub array_length : (v : ExpressionTree) → Good L (l.array_length v s) (p.length_parts w v)
  unfolding l.array_length
  array_length v =
      good_then L (e.looked s v) (λ _. l.length_from (constancy v) (out-Expression v).offset) (p.expression_parts w v) (Part.Length v ∷ []) (good_looked L s w events v)
      (λ _. events.length v)

  pub dimensions : (lengths : List ExpressionTree) → Good L (l.dimensions lengths s) (of_each (p.length_parts w) lengths)
  unfolding l.dimensions
  dimensions lengths =
      good_list L (l.next_length s) (p.length_parts w)
      (λ v d. good_before L (l.array_length v s) (λ n. pure (with_length d n)) (p.length_parts w v) (array_length v) (λ n. good_pure L (with_length d n))) lengths Scalar

  initialised_by : (o : Option Variable) (at : ℕ) (r : Cut Expression) → Good L (l.initialised_by o at r) []
  unfolding l.initialised_by
  initialised_by (Some v) at r = good_pure L _
  initialised_by None at r = good_before L (finds rule.Kind at) (λ _. pure Statement.Empty) [] (events.other rule.Kind at tt) (λ _. good_pure L Statement.Empty)

  initialised : (name : Name) (m : Meaning) (v : ExpressionTree) → Good L (l.initialised name m v s) (p.expression_parts w v)
  unfolding l.initialised
  initialised name m v =
      let at = place_in_tree name.offset in
      good_before L (e.value s v at (free_from s.kept_from)) (λ r. l.initialised_by (l.scalar_in m) name.offset r) (p.expression_parts w v)
      (good_value L s w events v at (free_from s.kept_from)) (λ r. initialised_by (l.scalar_in m) name.offset r)

  pub declared_step : (d : Declarator) (m : Meaning) (o : Option ExpressionTree) → Good L (l.declared_step d m o s) (of_any (p.expression_parts w) o)
  declared_step d m None = good_pure L (l.uninitialised d m)
  declared_step d m (Some v) = initialised d.name m v

-- what words of a local or a parameter stand for
abbrev pub IsLocal : Specifiers → Meaning → Type 0
IsLocal words m = IsUsual m × (type_of_meaning m ≡ plain_type words)

refused_is : (words : Specifiers) (spelled : Spelled) (at : ℕ) (b : Bool) (found : Findings) → int_type ≡ plain_type words →
    IsLocal words (given ((if b then finds_if spelled.is_static rule.Kind at >> (finds rule.Threads at >> pure meaning.Unusable) else finds rule.Kind at >> pure meaning.Unusable)
    found))
refused_is words spelled at true found ty = (tt, ty)
refused_is words spelled at false found ty = (tt, ty)

pub refused_local : (words : Specifiers) (at : ℕ) (found : Findings) → plain (spelled_by words).is_static (spelled_by words).base ≡ None →
    IsLocal words (given (l.refused_local (spelled_by words) at found))
unfolding l.refused_local
refused_local words at found is =
    refused_is words (spelled_by words) at (l.is_object_type (spelled_by words).base) found (sym (ap type_of_plain is))

module _ (L : Ledger) (S : Scoping L) where
  pub new_local : (words : Spelled) (size : Dimensions) (ty : BasicType) (w : Where) →
      Goes_right L S w (l.new_local words size ty) (λ m. IsUsual m × (type_of_meaning m ≡ c_type ty)) [] w
  unfolding l.new_local
  new_local words size ty w x agrees = record {
    writes = nothing_new L x.found;
    agrees = S.local x.scope w (record { ty = c_type ty; length = elements size }) agrees;
    value = (tt, refl);
  }

  -- ---- words of a type that may be none of an integer

  local_by : (words : Specifiers) (at : ℕ) (size : Dimensions) (w : Where) (o : Option BasicType) → plain (spelled_by words).is_static (spelled_by words).base ≡ o →
      Goes_right L S w (l.local_of (spelled_by words) at size o) (IsLocal words) (Part.Local words at ∷ []) w
  local_by words at size w (Some ty) is x agrees =
      let h = new_local (spelled_by words) size ty w x agrees in
      record {
        writes = writes_with L (Part.Local words at) ((S.events x.scope w agrees).no_local words at ty is) h.writes;
        agrees = h.agrees;
        value = (h.value.0, h.value.1 ∙ sym (ap type_of_plain is));
      }
  local_by words at size w None is x agrees =
      right_finding_is L S (λ s. l.refused_local (spelled_by words) at) (IsLocal words) (Part.Local words at ∷ []) w (λ s agrees. (S.events s w agrees).local words at is)
      (λ s found. refused_local words at found is) x agrees

  pub local : (words : Specifiers) (at : ℕ) (size : Dimensions) (w : Where) → Goes_right L S w (l.local (spelled_by words) at size) (IsLocal words) (Part.Local words at ∷ []) w
  unfolding l.local
  local words at size w = local_by words at size w (plain (spelled_by words).is_static (spelled_by words).base) refl

  -- ---- declarators

  pub declarator : (words : Specifiers) (d : Declarator) (w : Where) →
      Goes_right L S w (l.declarator (spelled_by words) d) (λ _. Unit {0}) (p.declarator_parts w words d) (behind (p.declared_by words d) w)
  unfolding l.declarator
  declarator words d w =
      let spelled = spelled_by words in
      let v = behind (p.declared_by words d) w in
      let name = λ (m : Meaning). l.declare d.name m >> finding (λ s. l.declared_step d m d.initializer s) in
      let last = of_any (p.expression_parts v) d.initializer in
      right_then L S (finding (l.dimensions d.lengths)) (λ size. l.local spelled d.name.offset size >>= name) (λ _. Unit {0}) (λ _. Unit {0})
      (of_each (p.length_parts w) d.lengths) (Part.Local words d.name.offset ∷ Part.Declares w d.name (Declared.OfVariable words d) ∷ last) w w v
      (right_finding L S (l.dimensions d.lengths) (of_each (p.length_parts w) d.lengths) w (λ s agrees. dimensions L s w (S.events s w agrees) d.lengths))
      (λ size _. right_then L S (l.local spelled d.name.offset size) name (IsLocal words) (λ _. Unit {0}) (Part.Local words d.name.offset ∷ [])
      (Part.Declares w d.name (Declared.OfVariable words d) ∷ last) w w v (local words d.name.offset size w)
      (λ m usual. right_then L S (l.declare d.name m) (λ _. finding (λ s. l.declared_step d m d.initializer s)) (λ _. Unit {0}) (λ _. Unit {0})
      (Part.Declares w d.name (Declared.OfVariable words d) ∷ []) last w v v
      (λ x agrees. S.declares x w d.name (Declared.OfVariable words d) m agrees (S.variable w words d m usual.0 usual.1))
      (λ _ _. right_finding L S (λ s. l.declared_step d m d.initializer s) last v (λ s agrees. declared_step L s v (S.events s v agrees) d m d.initializer))))

  one_more : (words : Specifiers) (d : Declarator) (done : List Statement) (w : Where) →
      Goes_right L S w (l.declarator (spelled_by words) d >>= (λ step. pure (done ++ step ∷ []))) (λ _. Unit {0}) (p.declarator_parts w words d) (behind (p.declared_by words d) w)
  one_more words d done w =
      let v = behind (p.declared_by words d) w in
      right_before L S (l.declarator (spelled_by words) d) (λ step. pure (done ++ step ∷ [])) (λ _. Unit {0}) (λ _. Unit {0}) (p.declarator_parts w words d) w v v
      (declarator words d w) (λ step _. right_pure L S (λ _. Unit {0}) (done ++ step ∷ []) v tt)

  all_more : (words : Specifiers) (list : List Declarator) →
      AllByRecursion (λ d. (done : List Statement) (w : Where) → Goes_right L S w (l.declarator (spelled_by words) d >>= (λ step. pure (done ++ step ∷ []))) (λ _. Unit {0})
      (p.declarator_parts w words d) (behind (p.declared_by words d) w)) list
  all_more words [] = tt
  all_more words (d ∷ list) = (λ done w. one_more words d done w, all_more words list)

  -- what is in sight behind some declarators
  abbrev ended : Specifiers → List Declarator → Where → Where
  ended words [] w = w
  ended words (d ∷ list) w = ended words list (behind (p.declared_by words d) w)

  to_names : (words : Specifiers) (list : List Declarator) (s : Scope) (w : Where) → S.Agrees s (ended words list w) → S.Agrees s (behind (flat_map (p.declared_by words) list) w)
  to_names words [] s w h = S.no_names s w h
  to_names words (d ∷ list) s w h =
      subst (λ v. S.Agrees s v) (behind_both (p.declared_by words d) (flat_map (p.declared_by words) list) w) (to_names words list s (behind (p.declared_by words d) w) h)

  pub declaration : (steps : List Statement) (d : Declaration) (w : Where) →
      Goes_right L S w (l.declaration steps d) (λ _. Unit {0}) (p.declaration_parts w d) (behind (p.declared_names d) w)
  unfolding l.declaration
  declaration steps d w =
      let words = d.specifiers in
      let step = λ (done : List Statement) (x : Declarator). l.declarator (spelled_by words) x >>= (λ s. pure (done ++ s ∷ [])) in
      right_as L S (through step steps d.declarators) (λ _. Unit {0}) (λ _. Unit {0}) (p.declaration_parts w d) w (ended words d.declarators w) (behind (p.declared_names
      d) w) (λ _ h. h)
      (λ s h. to_names words d.declarators s w h)
      (right_through L S step (λ x v. p.declarator_parts v words x) (λ x v. behind (p.declared_by words x) v) (λ list v. p.declarators_parts v words list) (ended words)
      (λ v. refl) (λ v. refl) (λ x rest v. refl) (λ x rest v. refl) d.declarators (all_more words d.declarators) steps w)
