-- The rules of the profile on names, declarations, calls, threads, constants and formats: which of them a text breaks, and
-- where.
use Rattle.std.specs.Prelude.{◌≡◌, ◌≢◌, ℕ, ◌*◌, ◌<◌, ◌≤◌, ℤ, Bool, true, false, ◌&&◌, is_some, min, pos, ◌≤ℤ◌, List, [], ◌∷◌, ◌++◌, length, Option, Some, None, slice_get, Contains, codes}
use Rattle.hls_ints.specs.Types.{wrapped}
use Rattle.c_token.specs.declared.constant.Constant.TheVariants as constant
use Rattle.c_tree.specs.declared.expression.Name.{Name}
use Rattle.c_tree.specs.declared.expression.Specifiers.{Specifiers}
use Rattle.c_tree.specs.declared.expression.TypeWord.TheVariants as word
use Rattle.c_tree.specs.declared.expression.Expression.{Expression, out-Expression}
use Rattle.c_tree.specs.declared.expression.Argument.{Argument, out-Argument}
use Rattle.c_tree.specs.declared.expression.Argument.TheOpen.{Argument-F}
use Rattle.c_tree.specs.declared.statement.CaseLabel.{CaseLabel}
use Rattle.c_tree.specs.declared.declaration.Function.{Function}
use Rattle.c_tree.specs.declared.declaration.Parameter.{Parameter}
use Rattle.c_tree.specs.declared.declaration.ExternalDeclaration.{ExternalDeclaration}
use Rattle.c_tree.specs.declared.declaration.ExternalDeclaration.TheVariants as external
use Rattle.c_tree.specs.declared.declaration.TranslationUnit.{TranslationUnit}
use Rattle.c_rules.specs.declared.fault.Rule.{Rule}
use Rattle.c_rules.specs.declared.fault.Rule.TheVariants as rule
use Rattle.c_rules.specs.declared.specifiers.BaseType.{BaseType}
use Rattle.c_rules.specs.declared.specifiers.BaseType.TheVariants as base
use Rattle.c_rules.specs.declared.specifiers.BasicType.TheVariants.{Int}
use Rattle.c_rules.specs.declared.constants.Typed.{Typed}
use Rattle.c_rules.specs.declared.constants.Constancy.TheVariants as is
use Rattle.c_rules.specs.declared.library.LibraryFunction.TheVariants as library
use Rattle.c_rules.specs.Constants.{constancy}
use Rattle.c_rules.specs.Library.{function_named}
use Rattle.c_rules.specs.Levels.{named_in}
use Rattle.c_rules.specs.Specifiers.{base_of, has}
use Rattle.c_expressions.specs.Expressions.{argument_offset}
use Rattle.c_broken_rules.specs.Sight.{Declared, Names, Where, declaration_in}
use Rattle.c_broken_rules.specs.Parts.{Part, parts, parameters_of}
use Rattle.c_broken_rules.specs.Formats.{IsFormat}
use Rattle.c_broken_rules.specs.Typing.{switch_type}

-- ---- names

-- no declaration of it is in sight, and it is no function that is known without an include
pub record IsUnknown (w : Where) (name : Name) : Type 0 where
  pub undeclared : declaration_in w.scopes name.bytes ≡ None
  pub unknown : function_named name.bytes ≡ None

-- what is in sight under the name, which no declaration of a known function hides
pub record StandsFor (w : Where) (name : Name) (d : Declared) : Type 0 where
  pub declared : declaration_in w.scopes name.bytes ≡ Some d
  pub own : function_named name.bytes ≡ None

abbrev pub definition_by : Function → Bool → List Function
definition_by f true = f ∷ []
definition_by f false = []

abbrev pub definition_in : ExternalDeclaration → List Function
definition_in (external.Function f) = definition_by f (is_some f.body)
definition_in (external.Objects o) = []

-- the functions that are defined, in the order of the text
abbrev pub definitions : List ExternalDeclaration → List Function
definitions [] = []
definitions (d ∷ more) = definition_in d ++ definitions more

abbrev pub IsNamed : List ℕ → Function → Type 0
IsNamed name f = f.name.bytes ≡ name

-- the definition of that number is the first one of a function of the name
pub record IsDefinition (tree : TranslationUnit) (name : List ℕ) (number : ℕ) : Type 0 where
  pub f : Function
  pub found : slice_get (definitions tree.declarations) number ≡ Some f
  pub named : IsNamed name f
  pub first : (k : ℕ) (g : Function) → k < number → slice_get (definitions tree.declarations) k ≡ Some g → IsNamed name g → ⊥

abbrev pub IsNeverDefined : TranslationUnit → List ℕ → Type 0
IsNeverDefined tree name = (f : Function) → Contains (definitions tree.declarations) f → IsNamed name f → ⊥

-- ---- functions

-- void *p
pub record IsVoidPointer (p : Parameter) : Type 0 where
  pub pointer : p.is_pointer ≡ true
  pub void : base_of p.specifiers.words ≡ base.Void
  pub no_static : has p.specifiers.words word.Static ≡ false

-- a function of a void * that returns a void *
pub record IsStartRoutine (f : Function) : Type 0 where
  pub returns : base_of f.specifiers.words ≡ base.Void
  pub pointer : f.is_pointer ≡ true
  pub p : Parameter
  pub parameters : parameters_of f ≡ p ∷ []
  pub parameter : IsVoidPointer p

-- int main(void) or int main()
pub record IsMain (f : Function) : Type 0 where
  pub name : f.name.bytes ≡ codes "main"
  pub returns : base_of f.specifiers.words ≡ base.Integer Int
  pub no_pointer : f.is_pointer ≡ false
  pub parameters : parameters_of f ≡ []

-- ---- calls

abbrev pub IsIn : Option (ℕ × Function) → ℕ → Type 0
IsIn None number = ⊥
IsIn (Some body) number = body.0 ≡ number

-- the body of the definition of one number has a call, at the place, of the function whose first definition has the other
pub record CallsAt (tree : TranslationUnit) (caller callee : ℕ) (at : ℕ) : Type 0 where
  pub w : Where
  pub name : Name
  pub stands : Contains (parts tree) (Part.Call w name)
  pub body : IsIn w.body caller
  pub f : Function
  pub means : StandsFor w name (Declared.OfFunction f)
  pub defined : IsDefinition tree f.name.bytes callee
  pub here : name.offset ≡ at

-- calls lead from one definition to another, or it is the same
pub data LeadsTo (tree : TranslationUnit) : ℕ → ℕ → Type 0 where
  Same : {f : ℕ} → LeadsTo tree f f
  Further : {f g h at : ℕ} (way : LeadsTo tree f g) (call : CallsAt tree g h at) → LeadsTo tree f h

-- ---- threads

abbrev pub IsThreadType : BaseType → Type 0
IsThreadType base.Thread = Unit {0}
IsThreadType base.Mutex = Unit {0}
IsThreadType base.Barrier = Unit {0}
IsThreadType other = ⊥

-- a pthread_t object at file scope, or an array of them, of one dimension
abbrev pub IsThreadObject : Declared → Type 0
IsThreadObject (Declared.OfObject words pointer d) = (pointer ≡ false) × (base_of words.words ≡ base.Thread) × (length d.lengths ≤ 1)
IsThreadObject other = ⊥

-- the part of that number is a create of the thread object of the name by the routine whose first definition has the other
-- number, at the place of the routine's name
pub record Creates (tree : TranslationUnit) (position : ℕ) (object : List ℕ) (routine at : ℕ) : Type 0 where
  pub w : Where
  pub thread : Name
  pub name : Name
  pub stands : slice_get (parts tree) position ≡ Some (Part.Creation w thread name)
  pub of : thread.bytes ≡ object
  pub d : Declared
  pub means : StandsFor w thread d
  pub is_object : IsThreadObject d
  pub f : Function
  pub runs : StandsFor w name (Declared.OfFunction f)
  pub defined : IsDefinition tree f.name.bytes routine
  pub here : name.offset ≡ at

-- the body of no start routine, or none at all
abbrev pub IsElsewhere : Option (ℕ × Function) → Type 0
IsElsewhere None = Unit {0}
IsElsewhere (Some body) = IsStartRoutine body.1 → ⊥

-- ---- constants

-- the elements of an array by its length, a constant expression of at least 1: at most 2 ^ 64 - 1
pub record IsLength (e : Expression) (n : ℕ) : Type 0 where
  pub x : Typed
  pub constant : constancy e ≡ is.Constant x
  pub number : ℕ
  pub value : x.number ≡ pos number
  pub positive : 0 < number
  pub most : n ≡ min number 0xffff_ffff_ffff_ffff

-- what a length counts as: an array whose length breaks a rule has one element
pub data CountsAs (e : Expression) : ℕ → Type 0 where
  Counted : (n : ℕ) (is : IsLength e n) → CountsAs e n
  One : (none : (n : ℕ) → IsLength e n → ⊥) → CountsAs e 1

-- the product of lengths, from the first on: at most 2 ^ 64 - 1
pub data AreElements : ℕ → List Expression → ℕ → Type 0 where
  All : (n : ℕ) → AreElements n [] n
  Times : (m n k : ℕ) (e : Expression) (more : List Expression) (is : CountsAs e m) (others : AreElements (min (n * m) 0xffff_ffff_ffff_ffff) more k) → AreElements n (e ∷ more) k

-- ---- labels

-- the value of a case, converted to the type of its switch (6.8.4.2)
pub record IsCase (tree : TranslationUnit) (w : Where) (over : Expression) (label : CaseLabel) (z : ℤ) : Type 0 where
  pub e : Expression
  pub case : label.value ≡ Some e
  pub x : Typed
  pub constant : constancy e ≡ is.Constant x
  pub value : z ≡ wrapped (switch_type (definitions tree.declarations) w over) x.number

-- ---- formats

-- a string literal that is not empty and is a format, with as many values as it converts, at most 4
pub record IsPrint (first : Argument) (values : List Argument) : Type 0 where
  pub bytes : List ℕ
  pub at : ℕ
  pub text : out-Argument first ≡ Argument-F.Text bytes at
  pub some : bytes ≢ []
  pub format : IsFormat bytes (length values)
  pub most : length values ≤ 4

-- ---- declarations

abbrev pub innermost : List Names → Names
innermost [] = []
innermost (scope ∷ outer) = scope

abbrev pub is_function : Declared → Bool
is_function (Declared.OfFunction f) = true
is_function other = false

-- the scope at hand declares the name already, where it does so first as that
abbrev pub IsDeclared : Where → Name → Declared → Type 0
IsDeclared w name earlier = named_in (innermost w.scopes) name.bytes ≡ Some earlier

-- ---- the rules

-- the text breaks the rule at the place
pub data Breaks (tree : TranslationUnit) : Rule → ℕ → Type 0 where
  -- unknown name: not declared before, or a function that is called, or is the routine of a create, and is never defined
  UnknownName : (w : Where) (name : Name) (stands : Contains (parts tree) (Part.Use w name)) (unknown : IsUnknown w name) → Breaks tree rule.Unknown name.offset
  UnknownCall : (w : Where) (name : Name) (stands : Contains (parts tree) (Part.Call w name)) (unknown : IsUnknown w name) → Breaks tree rule.Unknown name.offset
  UndefinedCall : (w : Where) (name : Name) (f : Function) (stands : Contains (parts tree) (Part.Call w name)) (means : StandsFor w name (Declared.OfFunction f))
      (never : IsNeverDefined tree f.name.bytes) → Breaks tree rule.Unknown name.offset
  UndefinedRoutine : (w : Where) (name : Name) (f : Function) (stands : Contains (parts tree) (Part.Routine w name)) (means : StandsFor w name (Declared.OfFunction f))
      (never : IsNeverDefined tree f.name.bytes) → Breaks tree rule.Unknown name.offset
  -- declared twice: printf or a pthread call declared, a second declaration in one scope, a second body
  KnownDeclared : (w : Where) (name : Name) (what : Declared) (stands : Contains (parts tree) (Part.Declares w name what)) (known : is_some (function_named name.bytes) ≡ true) →
      Breaks tree rule.Twice name.offset
  DeclaredAgain : (w : Where) (name : Name) (what earlier : Declared) (stands : Contains (parts tree) (Part.Declares w name what)) (first : IsDeclared w name earlier)
      (no_functions : (is_function earlier && is_function what) ≡ false) → Breaks tree rule.Twice name.offset
  SecondBody : (w : Where) (name : Name) (f g : Function) (earlier : Declared) (stands : Contains (parts tree) (Part.Declares w name (Declared.OfFunction f)))
      (first : IsDeclared w name earlier) (function : is_function earlier ≡ true)
      (before : Contains (innermost w.scopes) (name.bytes, Declared.OfFunction g)) (defined : is_some g.body ≡ true) (again : is_some f.body ≡ true) → Breaks tree
      rule.Twice name.offset
  -- a second case of one value, and a second default, in one switch
  SecondCase : (w : Where) (over e : Expression) (before : List CaseLabel) (label earlier : CaseLabel) (z : ℤ) (stands : Contains (parts tree) (Part.Label w over before label))
      (here : label.value ≡ Some e) (case : IsCase tree w over label z) (seen : Contains before earlier) (also : IsCase tree w over earlier z) →
      Breaks tree rule.Twice (out-Expression e).offset
  SecondDefault : (w : Where) (over : Expression) (before : List CaseLabel) (label earlier : CaseLabel) (stands : Contains (parts tree) (Part.Label w over before label))
      (default : label.value ≡ None) (seen : Contains before earlier) (also : earlier.value ≡ None) → Breaks tree rule.Twice label.offset
  -- recursion: the call lies on a cycle of calls
  Recursion : (f g at : ℕ) (call : CallsAt tree f g at) (back : LeadsTo tree g f) → Breaks tree rule.Recursive at
  -- thread rule: pthread object not global; pthread_t named in creates with two routines; main or a start routine called;
  -- p read otherwise; pthread_exit elsewhere
  LocalObject : (words : Specifiers) (at : ℕ) (stands : Contains (parts tree) (Part.Local words at)) (object : IsThreadType (base_of words.words)) → Breaks tree rule.Threads at
  SecondRoutine : (i j : ℕ) (object : List ℕ) (r s there at : ℕ) (one : Creates tree i object r there) (first : (k q here : ℕ) → k < i → Creates tree k object q here → ⊥)
      (other : Creates tree j object s at) (behind : i < j) (differ : r ≢ s) → Breaks tree rule.Threads at
  MainCalled : (w : Where) (name : Name) (f : Function) (stands : Contains (parts tree) (Part.Call w name)) (means : StandsFor w name (Declared.OfFunction f))
      (main : IsMain f) → Breaks tree rule.Threads name.offset
  RoutineCalled : (w : Where) (name : Name) (f : Function) (stands : Contains (parts tree) (Part.Call w name)) (means : StandsFor w name (Declared.OfFunction f))
      (routine : IsStartRoutine f) → Breaks tree rule.Threads name.offset
  ParameterRead : (w : Where) (name : Name) (p : Parameter) (stands : Contains (parts tree) (Part.Read w name)) (means : StandsFor w name (Declared.OfParameter p))
      (pointer : p.is_pointer ≡ true) → Breaks tree rule.Threads name.offset
  ExitElsewhere : (w : Where) (name : Name) (stands : Contains (parts tree) (Part.Call w name)) (exit : function_named name.bytes ≡ Some library.Exit)
      (elsewhere : IsElsewhere w.body) → Breaks tree rule.Threads name.offset
  -- constant out of range: a constant without a type; a length, a global initialiser or a case that isn't a constant expression, or
  -- a length below 1; more initialisers than elements
  ConstantTooLarge : (at : ℕ) (stands : Contains (parts tree) (Part.Constant constant.TooLarge at)) → Breaks tree rule.Constant at
  LengthNotConstant : (e : Expression) (stands : Contains (parts tree) (Part.Length e)) (no_constant : constancy e ≡ is.NotConstant) →
      Breaks tree rule.Constant (out-Expression e).offset
  LengthBelowOne : (e : Expression) (x : Typed) (stands : Contains (parts tree) (Part.Length e)) (value : constancy e ≡ is.Constant x) (below : x.number ≤ℤ pos 0) →
      Breaks tree rule.Constant (out-Expression e).offset
  InitialNotConstant : (e : Expression) (stands : Contains (parts tree) (Part.Initial e)) (no_constant : constancy e ≡ is.NotConstant) →
      Breaks tree rule.Constant (out-Expression e).offset
  TooMany : (lengths : List Expression) (n index at : ℕ) (stands : Contains (parts tree) (Part.Listed lengths index at)) (elements : AreElements 1 lengths n)
      (beyond : n ≤ index) → Breaks tree rule.Constant at
  CaseNotConstant : (w : Where) (over e : Expression) (before : List CaseLabel) (label : CaseLabel) (stands : Contains (parts tree) (Part.Label w over before label))
      (case : label.value ≡ Some e) (no_constant : constancy e ≡ is.NotConstant) → Breaks tree rule.Constant (out-Expression e).offset
  -- format: printf's first argument is no format with as many conversions as there are values, at most 4
  BadFormat : (name : Name) (first : Argument) (values : List Argument) (stands : Contains (parts tree) (Part.Print name (first ∷ values))) (bad : IsPrint first values → ⊥) →
      Breaks tree rule.Format (argument_offset first)
  NoFormat : (name : Name) (stands : Contains (parts tree) (Part.Print name [])) → Breaks tree rule.Format name.offset
