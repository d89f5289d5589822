-- What a walk finds of names, constants, locals and declarations, for a ledger in which what it finds is no entry.
use Rattle.std.proofs.Common.{◌≡◌, refl, ap, ℕ, Bool, true, false, [], ◌++◌, length, Option, Some, None}
use Rattle.std.proofs.lemmas.Bool.{eqb-true}
use Rattle.std.specs.Prelude.{pos, not, is_none, is_some, ◌||◌, ◌&&◌, nat_eq, if◌then◌else◌, slice_get, option_map}
use Rattle.hls_ints.specs.Types.{IntegerType, wrapped}
use Rattle.c_token.specs.declared.constant.Constant.{Constant}
use Rattle.c_token.specs.declared.constant.Constant.TheVariants as constant
use Rattle.c_tree.specs.declared.expression.Name.{Name}
use Rattle.c_tree.specs.declared.expression.Specifiers.{Specifiers}
use Rattle.c_program.specs.Tree.{Expression}
use Rattle.c_rules.specs.declared.fault.Rule.{Rule}
use Rattle.c_rules.specs.declared.fault.Rule.TheVariants as rule
use Rattle.c_rules.specs.declared.findings.Findings.{Findings}
use Rattle.c_rules.specs.declared.library.LibraryFunction.{LibraryFunction}
use Rattle.c_rules.specs.declared.library.LibraryFunction.TheVariants as library
use Rattle.c_rules.specs.declared.names.ObjectKind.{ObjectKind}
use Rattle.c_rules.specs.declared.names.Object.{Object}
use Rattle.c_rules.specs.declared.names.Meaning.{Meaning}
use Rattle.c_rules.specs.declared.names.Meaning.TheVariants as meaning
use Rattle.c_rules.specs.declared.names.Known.{Known}
use Rattle.c_rules.specs.declared.names.Known.TheVariants as known
use Rattle.c_rules.specs.declared.names.Header.{Header}
use Rattle.c_rules.specs.declared.names.Scope.{Scope}
use Rattle.c_rules.specs.declared.constants.Constancy.{Constancy}
use Rattle.c_rules.specs.declared.constants.Constancy.TheVariants as is
use Rattle.c_rules.specs.Cases.{stands, noted}
use Rattle.c_rules.specs.Constants.{constant_value}
use Rattle.c_rules.specs.Dimensions.{count}
use Rattle.c_rules.specs.Levels.{named_in}
use Rattle.c_rules.specs.Library.{function_named, takes}
use Rattle.c_rules.specs.Names.{is_void_type, is_start_routine, gives_pointer, is_taken, declaring}
use Rattle.c_rules.specs.Specifiers.{spelled_by}
use Rattle.c_rules.specs.Walks.{Outcome, Finds, pure, finds, finds_if, finds_any, calls, ◌>>◌}
use Rattle.c_expressions.specs.Callees as c
use Rattle.c_expressions.specs.Expressions as e
use Rattle.c_expressions.specs.Targets as t
use Rattle.c_calls.specs.Arguments as a
use Rattle.c_resolution.specs.States.{State, finding, scoping, in_scope}
use Rattle.c_resolution.specs.Locals as l
use Rattle.c_resolution.specs.Globals as g
use Rattle.c_resolution.specs.Functions as y
use Rattle.c_resolution.specs.Statements as r
use Rattle.c_broken_rules.specs.Parts.{Parts}
use Rattle.c_broken_rules.proofs.Ledgers.{Ledger, Entered, Good, Writes, left, good_pure, good_then, good_before, good_none, nothing_new}
use Rattle.c_broken_rules.proofs.Events.{IsOther}

-- a broken rule is no entry, wherever it is found
abbrev pub IsQuiet : Ledger → Rule → Type 0
IsQuiet L r = (at : ℕ) → Good L (finds r at) []

-- nor is any of the rules that are no part's by itself
abbrev pub OthersAreQuiet : Ledger → Type 0
OthersAreQuiet L = (r : Rule) (at : ℕ) → IsOther r → Good L (finds r at) []

-- nor a call
abbrev pub CallsAreQuiet : Ledger → Type 0
CallsAreQuiet L = (caller : Option ℕ) (callee at : ℕ) → Good L (calls caller callee at) []

abbrev pub IfAny : {A : Type 0} → (A → Type 0) → Option A → Type 0
IfAny Is None = Unit {0}
IfAny Is (Some a) = Is a

module _ (L : Ledger) where
  pub broken_if : (b : Bool) (r : Rule) (at : ℕ) → IsQuiet L r → Good L (finds_if b r at) []
  broken_if true r at h = record { writes = (h at).writes }
  broken_if false r at h = record { writes = λ found. nothing_new L found }

  broken_any : (o : Option Rule) (at : ℕ) → IfAny (IsQuiet L) o → Good L (finds_any o at) []
  broken_any (Some r) at h = record { writes = (h at).writes }
  broken_any None at h = record { writes = λ found. nothing_new L found }

  -- a walk that leaves the scope as it is
  pub record Kept (x z : State) (ps : Parts) : Type 0 where
    pub writes : Writes L x.found z.found ps
    pub same : z.scope ≡ x.scope

  kept_in : {A : Type 0} (scope : Scope) (found : Findings) (ps : Parts) (o : Outcome Findings A) → Writes L found (left o) ps →
      Writes L found (left (in_scope scope o)).found ps × ((left (in_scope scope o)).scope ≡ scope)
  kept_in scope found ps (Outcome.Gives x after) h = (h, refl)

  pub finding_kept : {A : Type 0} (walk : Scope → Finds A) (x : State) (ps : Parts) → Good L (walk x.scope) ps → Kept x (left (finding walk x)) ps
  finding_kept walk x ps h = let r = kept_in x.scope x.found ps (walk x.scope x.found) (h.writes x.found) in record { writes = r.0; same = r.1 }

-- ---- constants, lengths and initial values

module _ (L : Ledger) (constants : IsQuiet L rule.Constant) where
  constant_from : (v : Constant) (at : ℕ) → Good L (e.constant_from (constant_value v) at) []
  constant_from (constant.Typed value ty) at = good_pure L _
  constant_from constant.TooLarge at = good_before L (finds rule.Constant at) (λ _. pure e.nothing) [] (constants at) (λ _. good_pure L e.nothing)

  pub constant_is : (v : Constant) (at : ℕ) → Good L (e.constant v at) []
  unfolding e.constant
  constant_is v at = constant_from v at

  number_is : (o : Option ℕ) (at : ℕ) → Good L (l.length_of_number o at) []
  number_is (Some n) at = good_pure L n
  number_is None at = good_before L (finds rule.Constant at) (λ _. pure 1) [] (constants at) (λ _. good_pure L 1)

  pub length_is : (x : Constancy) (at : ℕ) → Good L (l.length_from x at) []
  unfolding l.length_from
  length_is (is.Constant x) at = number_is (l.positive x.number) at
  length_is is.Unknown at = good_pure L 1
  length_is is.NotConstant at = number_is None at

  pub initial_is : (ty : IntegerType) (x : Constancy) (at : ℕ) → Good L (g.initial_from ty x at) []
  unfolding g.initial_from
  initial_is ty (is.Constant x) at = good_pure L (wrapped ty x.number)
  initial_is ty is.Unknown at = good_pure L (pos 0)
  initial_is ty is.NotConstant at = good_before L (finds rule.Constant at) (λ _. pure (pos 0)) [] (constants at) (λ _. good_pure L (pos 0))

-- ---- labels

module _ (L : Ledger) (twice : IsQuiet L rule.Twice) where
  pub noted_quiet : IsQuiet L rule.Constant → (ty : IntegerType) (x : Constancy) (at : ℕ) (k : r.Cases) → Good L (r.noted_case ty x at k) []
  unfolding r.noted_case
  noted_quiet constants ty (is.Constant x) at k =
      let stands_there = finds_if (stands k.values (wrapped ty x.number)) rule.Twice at in
      good_before L stands_there (λ _. pure (record k { values = noted k.values (wrapped ty x.number) })) []
      (broken_if L (stands k.values (wrapped ty x.number)) rule.Twice at twice) (λ _. good_pure L (record k { values = noted k.values (wrapped ty x.number) }))
  noted_quiet constants ty is.Unknown at k = good_pure L k
  noted_quiet constants ty is.NotConstant at k = good_before L (finds rule.Constant at) (λ _. pure k) [] (constants at) (λ _. good_pure L k)

  pub default_quiet : (at : ℕ) (k : r.Cases) → Good L (r.default_label at k) []
  unfolding r.default_label
  default_quiet at k =
      good_before L (finds_if k.has_default rule.Twice at) (λ _. pure (r.labelled None 0 (record k { has_default = true }))) [] (broken_if L k.has_default rule.Twice at twice)
      (λ _. good_pure L (r.labelled None 0 (record k { has_default = true })))

module _ (L : Ledger) (others : OthersAreQuiet L) where
  abbrev Plain : {A : Type 0} → Finds A → Parts → Type 0
  Plain w parts = Good L w parts

  kind : IsQuiet L rule.Kind
  kind at = others rule.Kind at tt

  other_if : (b : Bool) (r : Rule) (at : ℕ) → IsOther r → Plain (finds_if b r at) []
  other_if b r at h = broken_if L b r at (λ place. others r place h)

  -- ---- names that are called

  -- a function with a header, by whether it is defined and whether it may be called
  pub header_rules : (h : Header) (count : ℕ) (is_value : Bool) (at : ℕ) (ps qs : Parts) → Plain (finds_if (is_none h.definition) rule.Unknown at) ps →
      Plain (finds_if (h.is_main || is_start_routine h) rule.Threads at) qs → Plain (c.header_rules h count is_value at) (ps ++ qs)
  unfolding c.header_rules
  header_rules h count is_value at ps qs defined_is placed_is =
      let defined = finds_if (is_none h.definition) rule.Unknown at in
      let valued = finds_if (is_value && is_void_type h.returns) rule.Kind at in
      let counted = finds_if (not (nat_eq count (length h.parameters))) rule.Arguments at in
      let placed = finds_if (h.is_main || is_start_routine h) rule.Threads at in
      good_then L defined (λ _. valued >> (counted >> placed)) ps qs defined_is
      (λ _. good_then L valued (λ _. counted >> placed) [] qs (other_if (is_value && is_void_type h.returns) rule.Kind at tt)
      (λ _. good_then L counted (λ _. placed) [] qs (other_if (not (nat_eq count (length h.parameters))) rule.Arguments at tt) (λ _. placed_is)))

  called : CallsAreQuiet L → (s : Scope) (at : ℕ) (d : Option ℕ) → Plain (c.called s at d) []
  unfolding c.called
  called quiet s at None = good_pure L None
  called quiet s at (Some callee) =
      good_then L (calls s.function callee at) (λ _. pure (Some callee)) [] [] (quiet s.function callee at) (λ _. good_pure L (Some callee))

  pub header_is : (s : Scope) (h : Header) (count : ℕ) (is_value : Bool) (at : ℕ) (ps qs : Parts) → CallsAreQuiet L →
      Plain (finds_if (is_none h.definition) rule.Unknown at) ps → Plain (finds_if (h.is_main || is_start_routine h) rule.Threads at) qs →
      Plain (c.header_call s count is_value at (Some h)) (ps ++ qs)
  header_is s h count is_value at ps qs quiet defined_is placed_is =
      good_before L (c.header_rules h count is_value at) (λ _. c.called s at h.definition) (ps ++ qs) (header_rules h count is_value at ps qs defined_is placed_is)
      (λ _. called quiet s at h.definition)

  -- a function of the library, by whether it may be called here
  pub library_place : (s : Scope) (f : LibraryFunction) (at : ℕ) → (f ≡ library.Exit → IsQuiet L rule.Threads) → Plain (c.library_place s f at) []
  unfolding c.library_place
  library_place s library.Exit at threads = broken_if L (is_none s.function || not (gives_pointer s.gives)) rule.Threads at (threads refl)
  library_place s f at threads = good_pure L tt

  pub library_name : (s : Scope) (f : LibraryFunction) (count at : ℕ) (ps : Parts) → Plain (c.library_place s f at) ps → Plain (c.library_name s f count at) ps
  unfolding c.library_name
  library_name s f count at ps h =
      good_then L (finds_if (not (takes f count)) rule.Arguments at) (λ _. c.library_place s f at) [] ps (other_if (not (takes f count)) rule.Arguments at tt) (λ _. h)

  -- as a value
  pub library_value : (s : Scope) (f : LibraryFunction) (count at : ℕ) (ps : Parts) → Plain (c.library_name s f count at) ps → Plain (c.library_value s f count at) ps
  unfolding c.library_value
  library_value s f count at ps h = good_then L (finds rule.Place at) (λ _. c.library_name s f count at) [] ps (others rule.Place at tt) (λ _. h)

  -- what is no function, by whether it is unknown
  pub no_function_is : (x : Known) (at : ℕ) (ps : Parts) → Plain (finds_if (c.is_unknown x) rule.Unknown at) ps → Plain (c.no_function x at) ps
  unfolding c.no_function
  no_function_is x at ps h =
      good_before L (finds_if (c.is_unknown x) rule.Unknown at) (λ _. finds_if (c.is_usable x) rule.Kind at) ps h (λ _. other_if (c.is_usable x) rule.Kind at tt)

  -- a name that is called where nothing of this is an entry
  module _ (unknown : IsQuiet L rule.Unknown) (threads : IsQuiet L rule.Threads) where
    pub library_quiet : (s : Scope) (f : LibraryFunction) (count at : ℕ) → Plain (c.library_name s f count at) []
    library_quiet s f count at = library_name s f count at [] (library_place s f at (λ _. threads))

    pub header_quiet : (h : Header) (count : ℕ) (is_value : Bool) (at : ℕ) → Plain (c.header_rules h count is_value at) []
    header_quiet h count is_value at =
        header_rules h count is_value at [] [] (broken_if L (is_none h.definition) rule.Unknown at unknown)
        (broken_if L (h.is_main || is_start_routine h) rule.Threads at threads)

    module _ (quiet : CallsAreQuiet L) where
      call_quiet : (s : Scope) (count : ℕ) (is_value : Bool) (at : ℕ) (h : Option Header) → Plain (c.header_call s count is_value at h) []
      call_quiet s count is_value at None = good_before L (finds rule.Unknown at) (λ _. pure None) [] (unknown at) (λ _. good_pure L None)
      call_quiet s count is_value at (Some h) =
          header_is s h count is_value at [] [] quiet (broken_if L (is_none h.definition) rule.Unknown at unknown)
          (broken_if L (h.is_main || is_start_routine h) rule.Threads at threads)

      pub function_quiet : (s : Scope) (header count : ℕ) (is_value : Bool) (at : ℕ) → Plain (c.function_name s header count is_value at) []
      unfolding c.function_name
      function_quiet s header count is_value at = call_quiet s count is_value at (slice_get s.headers header)

    pub no_function_quiet : (x : Known) (at : ℕ) → Plain (c.no_function x at) []
    no_function_quiet x at = no_function_is x at [] (broken_if L (c.is_unknown x) rule.Unknown at unknown)

    pub misplaced_quiet : (s : Scope) (x : Known) (count at : ℕ) → Plain (c.misplaced s x count at) []
    unfolding c.misplaced
    misplaced_quiet s (known.Library f) count at = library_value s f count at [] (library_quiet s f count at)
    misplaced_quiet s (known.Declared m) count at = no_function_quiet (known.Declared m) at
    misplaced_quiet s known.Unknown count at = no_function_quiet known.Unknown at

  -- ---- names that are used

  kind_unless : (b : Bool) → IfAny (IsQuiet L) (if b then None else Some rule.Kind)
  kind_unless true = tt
  kind_unless false = kind

  argument_misuse : (b : Bool) → (b ≡ true → IsQuiet L rule.Threads) → IfAny (IsQuiet L) (if b then Some rule.Threads else Some rule.Kind)
  argument_misuse true threads = threads refl
  argument_misuse false threads = kind

  misuse_is : (x : Known) (indices : ℕ) → (x ≡ known.Unknown → IsQuiet L rule.Unknown) →
      (x ≡ known.Declared meaning.Argument → indices ≡ 0 → IsQuiet L rule.Threads) → IfAny (IsQuiet L) (e.misuse x indices)
  misuse_is known.Unknown indices unknown threads = unknown refl
  misuse_is (known.Declared meaning.Argument) indices unknown threads = argument_misuse (nat_eq indices 0) (λ is. threads refl (eqb-true indices 0 is))
  misuse_is (known.Declared meaning.Unusable) indices unknown threads = tt
  misuse_is (known.Declared (meaning.Variable v)) indices unknown threads = kind_unless (nat_eq (count v.dimensions) indices)
  misuse_is x indices unknown threads = kind

  -- as a value, where neither that it is unknown nor that it is a start routine's parameter is an entry
  pub misuse_quiet : (x : Known) (indices at : ℕ) → (x ≡ known.Unknown → IsQuiet L rule.Unknown) →
      (x ≡ known.Declared meaning.Argument → indices ≡ 0 → IsQuiet L rule.Threads) → Plain (finds_any (e.misuse x indices) at) []
  misuse_quiet x indices at unknown threads = broken_any L (e.misuse x indices) at (misuse_is x indices unknown threads)

  target_is : (x : Known) (indices : ℕ) → (x ≡ known.Unknown → IsQuiet L rule.Unknown) → IfAny (IsQuiet L) (t.target_fault x indices)
  target_is known.Unknown indices unknown = unknown refl
  target_is (known.Declared meaning.Unusable) indices unknown = tt
  target_is (known.Declared (meaning.Variable v)) indices unknown = kind_unless (not v.is_const && nat_eq (count v.dimensions) indices)
  target_is x indices unknown = kind

  -- as a target
  pub target_quiet : (x : Known) (indices at : ℕ) → (x ≡ known.Unknown → IsQuiet L rule.Unknown) → Plain (finds_any (t.target_fault x indices) at) []
  target_quiet x indices at unknown = broken_any L (t.target_fault x indices) at (target_is x indices unknown)

  object_at : (at : ℕ) (o : Object) (indices : ℕ) (number : Option Expression) → Plain (a.object_at at o indices number) []
  unfolding a.object_at
  object_at at o indices number =
      let wrong = not (nat_eq (count (a.length_dimensions o.length)) indices) in
      good_before L (finds_if wrong rule.Kind at) (λ _. pure (a.placed o o.length number)) [] (other_if wrong rule.Kind at tt) (λ _. good_pure L (a.placed o o.length number))

  pub misused_object : (x : Known) (name_at at : ℕ) (ps : Parts) → Plain (finds_if (c.is_unknown x) rule.Unknown name_at) ps → Plain (a.misused_object x name_at at) ps
  unfolding a.misused_object
  misused_object x name_at at ps h =
      let usable = finds_if (c.is_usable x) rule.Kind at in
      good_before L (finds_if (c.is_unknown x) rule.Unknown name_at) (λ _. usable >> pure a.no_object) ps h
      (λ _. good_then L usable (λ _. pure a.no_object) [] [] (other_if (c.is_usable x) rule.Kind at tt) (λ _. good_pure L a.no_object))

  unknown_if : (x : Known) (at : ℕ) → (x ≡ known.Unknown → IsQuiet L rule.Unknown) → Plain (finds_if (c.is_unknown x) rule.Unknown at) []
  unknown_if known.Unknown at h = record { writes = (h refl at).writes }
  unknown_if x at h = record { writes = λ found. nothing_new L found }

  object_from : (o : Option Object) (x : Known) (name_at at indices : ℕ) (number : Option Expression) → (x ≡ known.Unknown → IsQuiet L rule.Unknown) →
      Plain (a.object_from o x name_at at indices number) []
  object_from (Some o) x name_at at indices number h = object_at name_at o indices number
  object_from None x name_at at indices number h = misused_object x name_at at [] (unknown_if x name_at h)

  -- as an object of POSIX threads
  pub object_named : (kind_of : ObjectKind) (x : Known) (name_at at indices : ℕ) (number : Option Expression) → (x ≡ known.Unknown → IsQuiet L rule.Unknown) →
      Plain (a.object_named kind_of x name_at at indices number) []
  unfolding a.object_named
  object_named kind_of x name_at at indices number h = object_from (a.object_of kind_of x) x name_at at indices number h

  -- as a start routine, by whether it is defined
  pub routine_is : (h : Header) (name_at at : ℕ) (ps : Parts) → Plain (finds_if (is_none h.definition) rule.Unknown name_at) ps → Plain (a.routine h name_at at) ps
  unfolding a.routine
  routine_is h name_at at ps defined_is =
      let defined = finds_if (is_none h.definition) rule.Unknown name_at in
      let d = option_map (λ (number : ℕ). (number, name_at)) h.definition in
      good_then L (finds_if (not (is_start_routine h)) rule.Kind at) (λ _. defined >> pure d) [] ps (other_if (not (is_start_routine h)) rule.Kind at tt)
      (λ _. good_before L defined (λ _. pure d) ps defined_is (λ _. good_pure L d))

  pub routine_quiet : IsQuiet L rule.Unknown → (h : Header) (name_at at : ℕ) → Plain (a.routine h name_at at) []
  routine_quiet unknown h name_at at = routine_is h name_at at [] (broken_if L (is_none h.definition) rule.Unknown name_at unknown)

  -- ---- locals

  local_by : (words : Specifiers) (at : ℕ) (ps : Parts) (b : Bool) → (b ≡ true → Plain (finds rule.Threads at) ps) → (b ≡ false → (x : L.Entry) → Entered L ps x → ⊥) →
      Plain (if b then finds_if (spelled_by words).is_static rule.Kind at >> (finds rule.Threads at >> pure meaning.Unusable) else finds rule.Kind at >> pure meaning.Unusable) ps
  local_by words at ps true is none =
      good_then L (finds_if (spelled_by words).is_static rule.Kind at) (λ _. finds rule.Threads at >> pure meaning.Unusable) [] ps
      (other_if (spelled_by words).is_static rule.Kind at tt)
      (λ _. good_before L (finds rule.Threads at) (λ _. pure meaning.Unusable) ps (is refl) (λ _. good_pure L meaning.Unusable))
  local_by words at ps false is none =
      good_none L ps (none refl) (good_before L (finds rule.Kind at) (λ _. pure meaning.Unusable) [] (kind at) (λ _. good_pure L meaning.Unusable))

  -- a local of no integer type, by whether it is an object of POSIX threads
  pub local_is : (words : Specifiers) (at : ℕ) (ps : Parts) → (l.is_object_type (spelled_by words).base ≡ true → Plain (finds rule.Threads at) ps) →
      (l.is_object_type (spelled_by words).base ≡ false → (x : L.Entry) → Entered L ps x → ⊥) → Plain (l.refused_local (spelled_by words) at) ps
  unfolding l.refused_local
  local_is words at ps is none = local_by words at ps (l.is_object_type (spelled_by words).base) is none

  pub local_quiet : IsQuiet L rule.Threads → (words : Specifiers) (at : ℕ) → Plain (l.refused_local (spelled_by words) at) []
  local_quiet threads words at = local_is words at [] (λ _. threads at) (λ _ x h. h)

  -- ---- declarations

  -- of a function whose name has a header
  pub again_some : (h : Header) (name : Name) (second : Bool) (old : Header) (ps : Parts) → Plain (finds_if second rule.Twice name.offset) ps →
      Plain (y.again h name second (Some old)) ps
  again_some h name second old ps is =
      good_before L (finds_if second rule.Twice name.offset) (λ _. finds_if (not (y.is_same_function old h)) rule.Kind name.offset) ps is
      (λ _. other_if (not (y.is_same_function old h)) rule.Kind name.offset tt)

  module _ (twice : IsQuiet L rule.Twice) where
    -- a walk that finds no entry, in the body of the same function
    pub record Still (x z : State) : Type 0 where
      pub writes : Writes L x.found z.found []
      pub function : z.scope.function ≡ x.scope.function
      pub gives : z.scope.gives ≡ x.scope.gives

    still_finding : {A : Type 0} (walk : Scope → Finds A) (x : State) → Good L (walk x.scope) [] → Still x (left (finding walk x))
    still_finding walk x h =
        let k = finding_kept L walk x [] h in
        record { writes = k.writes; function = ap (λ (s : Scope). s.function) k.same; gives = ap (λ (s : Scope). s.gives) k.same }

    still_twice : (name : Name) (x : State) → Still x (left (finding (λ s. finds rule.Twice name.offset) x))
    still_twice name x = still_finding (λ s. finds rule.Twice name.offset) x (twice name.offset)

    declare_by : (name : Name) (m : Meaning) (x : State) (b : Bool) →
        Still x (left (if b then finding (λ s. finds rule.Twice name.offset) x else scoping (declaring name.bytes m) x))
    unfolding declaring
    declare_by name m x true = still_twice name x
    declare_by name m x false = record { writes = nothing_new L x.found; function = refl; gives = refl }

    pub declare_is : (name : Name) (m : Meaning) (x : State) → Still x (left (l.declare name m x))
    unfolding l.declare
    declare_is name m x = declare_by name m x (is_taken x.scope name.bytes)

    again : (h : Header) (name : Name) (second : Bool) (o : Option Header) → Plain (y.again h name second o) []
    again h name second None = good_pure L tt
    again h name second (Some old) = again_some h name second old [] (broken_if L second rule.Twice name.offset twice)

    pub declare_again : (s : Scope) (number : ℕ) (h : Header) (name : Name) (second : Bool) → Plain (y.declare_again s number h name second) []
    unfolding y.declare_again
    declare_again s number h name second = again h name second (slice_get s.headers number)

    over_is : (h : Header) (name : Name) (second : Bool) (o : Option Meaning) (x : State) → Still x (left (y.declare_over h name second o x))
    over_is h name second None x = record { writes = nothing_new L x.found; function = refl; gives = refl }
    over_is h name second (Some (meaning.Function n)) x = still_finding (λ s. y.declare_again s n h name second) x (declare_again x.scope n h name second)
    over_is h name second (Some m) x = still_twice name x

    function_by : (h : Header) (name : Name) (second : Bool) (x : State) (b : Bool) →
        Still x (left (if b then y.twice name x else y.declare_over h name second (named_in x.scope.inner name.bytes) x))
    function_by h name second x true = still_twice name x
    function_by h name second x false = over_is h name second (named_in x.scope.inner name.bytes) x

    pub function_is : (h : Header) (name : Name) (second : Bool) (x : State) → Still x (left (y.declare_function h name second x))
    unfolding y.declare_function
    function_is h name second x = function_by h name second x (is_some (function_named name.bytes))
