-- The names of a scope that agrees with the declarations in sight have the types that these say.
use Rattle.std.proofs.Common.{◌≡◌, refl, sym, ap, ◌∙◌, inl, inr, ℕ, Bool, true, false, List, [], ◌∷◌, Option, Some, None}
use Rattle.std.proofs.lemmas.Bool.{false≢true, or_cases}
use Rattle.std.proofs.lemmas.Option.{none-some}
use Rattle.std.proofs.lemmas.Slice.Eq.{bytes_eq-Decides}
use Rattle.std.specs.Prelude.{◌⊎◌, ◌||◌, is_some, if◌then◌else◌, slice_get}
use Rattle.std.specs.Str.{bytes_eq}
use Rattle.hls_ints.specs.Types.{IntegerType, int_type, promoted}
use Rattle.c_tree.specs.declared.expression.Name.{Name}
use Rattle.c_tree.specs.declared.expression.Expression.{Expression as ExpressionTree}
use Rattle.c_tree.specs.declared.declaration.Function.{Function}
use Rattle.c_tree.specs.declared.declaration.TranslationUnit.{TranslationUnit}
use Rattle.c_program.specs.Types.{type_of}
use Rattle.c_rules.specs.declared.findings.Findings.{Findings}
use Rattle.c_rules.specs.declared.names.Header.{Header}
use Rattle.c_rules.specs.declared.names.Known.TheVariants as known
use Rattle.c_rules.specs.declared.names.Meaning.{Meaning}
use Rattle.c_rules.specs.declared.names.Meaning.TheVariants as meaning
use Rattle.c_rules.specs.declared.names.Scope.{Scope}
use Rattle.c_rules.specs.declared.specifiers.BaseType.{BaseType}
use Rattle.c_rules.specs.declared.specifiers.BaseType.TheVariants as base
use Rattle.c_rules.specs.Levels.{named_in}
use Rattle.c_rules.specs.Library.{function_named}
use Rattle.c_rules.specs.Names.{look_up}
use Rattle.c_rules.specs.Specifiers.{base_of}
use Rattle.c_rules.specs.Walks.{Outcome}
use Rattle.c_expressions.specs.Callees as c
use Rattle.c_expressions.specs.Cuts.{Cuts}
use Rattle.c_expressions.specs.Expressions as e
use Rattle.c_resolution.specs.Texts as t
use Rattle.c_broken_rules.specs.Sight.{Declared, Where, declaration_in}
use Rattle.c_broken_rules.specs.Breaks.{definitions}
use Rattle.c_broken_rules.specs.Typing.{declared_as, is_defined, switch_type, type_of_base, type_of_function, type_of_object, type_of_words}
use Rattle.c_broken_rules.proofs.Ledgers.{given, left, turn}
use Rattle.c_broken_rules.proofs.Values.{number_known}
use Rattle.c_broken_rules.proofs.Walks.{type_of_meaning}
use Rattle.c_broken_rules.proofs.Sights.{Agrees, MeansIn, Sees, header_in, sees}
use Rattle.c_broken_rules.proofs.UnknownNames.{IsFunctionName, named_function}
use Rattle.c_broken_rules.proofs.Unknown.{Defines, all_here, all_back, from_nothing}
use Rattle.c_broken_rules.proofs.ValueTypes.{AreTyped, type_of_call, type_of_variable, switched_is}

-- ---- which functions are defined

named_first : (f : Function) (list : List Function) (key : List ℕ) → (bytes_eq key f.name.bytes ≡ true) ⊎ Defines list key → Defines (f ∷ list) key
named_first f list key (inl h) = inl (sym ((bytes_eq-Decides key f.name.bytes).0 h))
named_first f list key (inr h) = inr h

later_defined : (b c : Bool) (P : Type 0) → (c ≡ true → P) → (b ≡ true) ⊎ (c ≡ true) → (b ≡ true) ⊎ P
later_defined b c P to (inl h) = inl h
later_defined b c P to (inr h) = inr (to h)

defined_from : (list : List Function) (key : List ℕ) → is_defined list key ≡ true → Defines list key
defined_from [] key h = absurd (false≢true h)
defined_from (f ∷ list) key h =
    named_first f list key
    (later_defined (bytes_eq key f.name.bytes) (is_defined list key) (Defines list key) (defined_from list key) (or_cases (bytes_eq key f.name.bytes) (is_defined list key) h))

or_first : (b c : Bool) → b ≡ true → (b || c) ≡ true
or_first true c h = refl
or_first false c h = absurd (false≢true h)

or_second : (b c : Bool) → c ≡ true → (b || c) ≡ true
or_second true c h = refl
or_second false c h = h

from_defined : (list : List Function) (key : List ℕ) → Defines list key → is_defined list key ≡ true
from_defined [] key h = absurd h
from_defined (f ∷ list) key (inl h) = or_first (bytes_eq key f.name.bytes) (is_defined list key) ((bytes_eq-Decides key f.name.bytes).1 (sym h))
from_defined (f ∷ list) key (inr h) = or_second (bytes_eq key f.name.bytes) (is_defined list key) (from_defined list key h)

same_truth : (b c : Bool) → (b ≡ true → c ≡ true) → (c ≡ true → b ≡ true) → b ≡ c
same_truth true true to back = refl
same_truth false false to back = refl
same_truth true false to back = sym (to refl)
same_truth false true to back = back refl

-- ---- what a call gives

called_is : (s : Scope) (at : ℕ) (d : Option ℕ) (found : Findings) → given (c.called s at d found) ≡ d
unfolding c.called
called_is s at None found = refl
called_is s at (Some callee) found = refl

header_gives : (s : Scope) (count at : ℕ) (h : Header) (found : Findings) → given (c.header_call s count true at (Some h) found) ≡ h.definition
header_gives s count at h found =
    let o = c.header_rules h count true at found in
    ap (λ (z : Outcome Findings (Option ℕ)). given z) (turn o (λ _. c.called s at h.definition)) ∙ called_is s at h.definition (left o)

integer_is : (b : BaseType) → c.integer_in b ≡ type_of_base b
integer_is (base.Integer ty) = refl
integer_is base.Void = refl
integer_is base.Thread = refl
integer_is base.Mutex = refl
integer_is base.Barrier = refl
integer_is base.Unlisted = refl

call_by : (ty : IntegerType) (d : Option ℕ) → type_of_call ty d ≡ (if is_some d then ty else int_type)
call_by ty None = refl
call_by ty (Some n) = refl

variable_is : (m : Meaning) → type_of_variable (e.variable_of (known.Declared m)) ≡ type_of_meaning m
variable_is (meaning.Variable v) = refl
variable_is (meaning.Object o) = refl
variable_is (meaning.Function n) = refl
variable_is meaning.Argument = refl
variable_is meaning.Unusable = refl

-- ---- names

module _ (tree : TranslationUnit) where
  abbrev D : List (List ℕ × ℕ)
  D = t.definitions tree.declarations

  abbrev defined : List Function
  defined = definitions tree.declarations

  defined_is : (key : List ℕ) → is_some (named_in D key) ≡ is_defined defined key
  defined_is key =
      same_truth (is_some (named_in D key)) (is_defined defined key)
      (λ h. from_defined defined key (from_nothing key tree.declarations (all_back tree.declarations ([], 0) key h)))
      (λ h. all_here tree.declarations ([], 0) key (defined_from defined key h))

  -- what is in sight under a name of no function of the library
  own_is : (w : Where) (name : Name) (d : Option Declared) → function_named name.bytes ≡ None → declaration_in w.scopes name.bytes ≡ d → declared_as defined w name ≡ d
  own_is w name d own is = ap (λ f. if is_some f then None else declaration_in w.scopes name.bytes) own ∙ is

  module _ (s : Scope) (w : Where) (agrees : Agrees D s w) where
    meant_type : (d : Declared) (m : Meaning) → MeansIn D s.headers d m → type_of_meaning m ≡ type_of_object (Some d)
    meant_type (Declared.OfFunction f) (meaning.Function n) h = refl
    meant_type (Declared.OfFunction f) (meaning.Variable v) h = absurd h
    meant_type (Declared.OfFunction f) (meaning.Object o) h = absurd h
    meant_type (Declared.OfFunction f) meaning.Argument h = absurd h
    meant_type (Declared.OfFunction f) meaning.Unusable h = absurd h
    meant_type (Declared.OfParameter p) m h = h.1
    meant_type (Declared.OfVariable words d) m h = h.1
    meant_type (Declared.OfObject words pointer d) m h = h.2

    object_by : (name : Name) → Sees D s w name.bytes → type_of_variable (e.variable_named s name) ≡ type_of_object (declared_as defined w name)
    object_by name (Sees.OfLibrary f named looks) =
        ap (λ x. type_of_variable (e.variable_of x)) looks
        ∙ sym (ap (λ o. type_of_object (if is_some o then None else declaration_in w.scopes name.bytes)) named)
    object_by name (Sees.Nothing own none looks) =
        ap (λ x. type_of_variable (e.variable_of x)) looks ∙ sym (ap type_of_object (own_is w name None own none))
    object_by name (Sees.Something own d m some looks means) =
        ap (λ x. type_of_variable (e.variable_of x)) looks ∙ variable_is m ∙ meant_type d m means ∙ sym (ap type_of_object (own_is w name (Some d) own some))

    function_by : (name : Name) (number count : ℕ) (found : Findings) → IsFunctionName D s w name number →
        type_of_call (c.value_type (slice_get s.headers number)) (given (c.function_name s number count true name.offset found)) ≡
        type_of_function defined (declared_as defined w name)
    unfolding c.function_name
    function_by name number count found n =
        let f = n.f in
        let ty = type_of_words f.specifiers in
        ap (λ o. type_of_call (c.value_type o) (given (c.header_call s count true name.offset o found))) n.header
        ∙ ap (type_of_call (c.value_type (Some (header_in D f)))) (header_gives s count name.offset (header_in D f) found)
        ∙ ap (λ k. type_of_call k (named_in D f.name.bytes)) (integer_is (base_of f.specifiers.words))
        ∙ call_by ty (named_in D f.name.bytes) ∙ ap (λ b. if b then ty else int_type) (defined_is f.name.bytes)
        ∙ sym (ap (type_of_function defined) (own_is w name (Some (Declared.OfFunction f)) n.means.own n.means.declared))

    no_number : (d : Declared) (m : Meaning) → MeansIn D s.headers d m → c.number_of (known.Declared m) ≡ None → type_of_function defined (Some d) ≡ int_type
    no_number (Declared.OfFunction f) (meaning.Function n) h none = absurd (none-some n (sym none))
    no_number (Declared.OfFunction f) (meaning.Variable v) h none = absurd h
    no_number (Declared.OfFunction f) (meaning.Object o) h none = absurd h
    no_number (Declared.OfFunction f) meaning.Argument h none = absurd h
    no_number (Declared.OfFunction f) meaning.Unusable h none = absurd h
    no_number (Declared.OfParameter p) m h none = refl
    no_number (Declared.OfVariable words d) m h none = refl
    no_number (Declared.OfObject words pointer d) m h none = refl

    no_function_by : (name : Name) → c.number_of (look_up s name.bytes) ≡ None → Sees D s w name.bytes → type_of_function defined (declared_as defined w name) ≡ int_type
    no_function_by name is (Sees.OfLibrary f named looks) = ap (λ o. type_of_function defined (if is_some o then None else declaration_in w.scopes name.bytes)) named
    no_function_by name is (Sees.Nothing own none looks) = ap (type_of_function defined) (own_is w name None own none)
    no_function_by name is (Sees.Something own d m some looks means) =
        ap (type_of_function defined) (own_is w name (Some d) own some) ∙ no_number d m means (sym (ap c.number_of looks) ∙ is)

    typed : AreTyped s defined w
    typed = record {
      object = λ name. object_by name (sees D s w name.bytes agrees);
      function = λ name number count found is.
          function_by name number count found (named_function D s w name number agrees (number_known (look_up s name.bytes) number is));
      no_function = λ name is. no_function_by name is (sees D s w name.bytes agrees);
    }

-- the type at which a switch works
pub switch_type_is : (tree : TranslationUnit) (s : Scope) (w : Where) (x : ExpressionTree) (at : ℕ) (cuts : Cuts) (found : Findings) →
    Agrees (t.definitions tree.declarations) s w → promoted (type_of (given (e.value s x at cuts found)).rest) ≡ switch_type (definitions tree.declarations) w x
switch_type_is tree s w x at cuts found agrees = switched_is s (definitions tree.declarations) w (typed tree s w agrees) x at cuts found
