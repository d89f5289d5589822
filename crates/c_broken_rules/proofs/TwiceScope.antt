-- Names that are declared twice, in a whole text.
use Rattle.std.proofs.Common.{◌≡◌, refl, sym, subst, ap, ◌∙◌, ℕ, suc, Bool, true, false, List, [], ◌∷◌, length, Option, Some, None, inl, inr}
use Rattle.std.proofs.lemmas.Bool.{false≢true, or_cases, and_right, or_parts}
use Rattle.std.specs.Prelude.{◌&&◌, Contains, is_some, not, if◌then◌else◌, slice_get, ◌⊎◌}
use Rattle.c_tree.specs.declared.expression.Name.{Name}
use Rattle.c_tree.specs.declared.expression.Expression.{out-Expression}
use Rattle.c_tree.specs.declared.declaration.Function.{Function}
use Rattle.c_rules.specs.declared.fault.Rule.TheVariants as rule
use Rattle.c_rules.specs.declared.names.Meaning.{Meaning}
use Rattle.c_rules.specs.declared.names.Meaning.TheVariants as meaning
use Rattle.c_rules.specs.declared.library.LibraryFunction.{LibraryFunction}
use Rattle.c_rules.specs.declared.names.Header.{Header}
use Rattle.c_rules.specs.declared.names.Scope.{Scope}
use Rattle.c_rules.specs.Constants.{constancy}
use Rattle.c_rules.specs.Levels.{named_in}
use Rattle.c_rules.specs.Library.{function_named}
use Rattle.std.proofs.lemmas.Option.{same_Some, none-some}
use Rattle.lists.proofs.Places.{none_of}
use Rattle.c_rules.specs.Names.{look_up, is_taken, declaring}
use Rattle.c_rules.specs.Walks.{Finds, finds, finds_if, finds_any}
use Rattle.c_expressions.specs.Expressions as e
use Rattle.c_calls.specs.Calls as k
use Rattle.c_resolution.specs.States.{State, finding, scoping}
use Rattle.c_resolution.specs.Locals as l
use Rattle.c_resolution.specs.Functions as y
use Rattle.c_broken_rules.specs.Sight.{Declared, Where}
use Rattle.c_broken_rules.specs.Parts.{Part, Parts}
use Rattle.c_broken_rules.proofs.Ledgers.{Ledger, Good, Writes, left, nothing_new, quiet, writes_with}
use Rattle.c_broken_rules.proofs.Events.{Events}
use Rattle.c_broken_rules.proofs.Sights.{Agrees, Same, MeansIn, Scopes, header_in, same_function}
use Rattle.c_broken_rules.specs.Breaks.{IsDeclared, is_function, innermost}
use Rattle.c_broken_rules.proofs.Quiets as q
use Rattle.c_broken_rules.proofs.Quiets.{IsQuiet}
use Rattle.c_broken_rules.proofs.Twice as u
use Rattle.c_broken_rules.proofs.Twice.{IsTwice, twice_ledger}
use Rattle.c_broken_rules.proofs.NameScope.{IsMeant}
use Rattle.c_broken_rules.proofs.UnknownNames as m
use Rattle.c_broken_rules.proofs.Numbers.{some_value}

module _ (defined : List Function) where
  abbrev L : Ledger
  L = twice_ledger defined

  unknown : IsQuiet L rule.Unknown
  unknown = u.other defined rule.Unknown (λ j. j)

  threads : IsQuiet L rule.Threads
  threads = u.other defined rule.Threads (λ j. j)

  constants : IsQuiet L rule.Constant
  constants = u.other defined rule.Constant (λ j. j)

  formats : IsQuiet L rule.Format
  formats = u.other defined rule.Format (λ j. j)

  value_read : (s : Scope) (w : Where) (name : Name) (indices : ℕ) → Good L (finds_any (e.misuse (look_up s name.bytes) indices) name.offset) []
  value_read s w name indices = q.misuse_quiet L (u.others defined) (look_up s name.bytes) indices name.offset (λ _. unknown) (λ _ _. threads)

  use_read : (w : Where) (name : Name) {A : Type 0} {v : Finds A} → Good L v [] → Good L v (Part.Use w name ∷ Part.Read w name ∷ [])
  use_read w name h = quiet L (Part.Use w name) (λ x k. k) (quiet L (Part.Read w name) (λ x k. k) h)

  pub events : (s : Scope) (w : Where) → Events L s w
  events s w =
      let o = u.others defined in
      record {
        other = o;
        constant = λ v at. quiet L (Part.Constant v at) (λ x k. k) (q.constant_is L constants v at);
        used = λ name more. quiet L (Part.Use w name) (λ x k. k) (value_read s w name (suc more));
        read = λ name. use_read w name (value_read s w name 0);
        converted = λ name h. quiet L (Part.Use w name) (λ x k. k) (value_read s w name 0);
        argument = λ name h x k. k;
        target = λ name indices. quiet L (Part.Use w name) (λ x k. k) (q.target_quiet L o (look_up s name.bytes) indices name.offset (λ _. unknown));
        object = λ kind name at indices number. quiet L (Part.Use w name) (λ x k. k)
            (q.object_named L o kind (look_up s name.bytes) name.offset at indices number (λ _. unknown));
        routine = λ name h at is. quiet L (Part.Routine w name) (λ x k. k) (use_read w name (q.routine_quiet L o unknown h name.offset at));
        no_routine = λ name is x k. k;
        misplaced = λ name count none. quiet L (Part.Call w name) (λ x k. k) (q.misplaced_quiet L o unknown threads s (look_up s name.bytes) count name.offset);
        library = λ name function count is. quiet L (Part.Call w name) (λ x k. k) (q.library_quiet L o unknown threads s function count name.offset);
        function = λ name number count is_value is. quiet L (Part.Call w name) (λ x k. k)
            (q.function_quiet L o unknown threads (u.calls_quiet defined) s number count is_value name.offset);
        no_function = λ name none own. quiet L (Part.Call w name) (λ x k. k) (q.no_function_quiet L o unknown threads (look_up s name.bytes) name.offset);
        print = λ name first values. quiet L (Part.Print name (first ∷ values)) (λ x k. k)
            (q.broken_if L (not (k.takes (k.format first) (length values))) rule.Format (e.argument_offset first) formats);
        no_print = λ name. quiet L (Part.Print name []) (λ x k. k) (formats name.offset);
        length = λ v. quiet L (Part.Length v) (λ x k. k) (q.length_is L constants (constancy v) (out-Expression v).offset);
        local = λ words at is. quiet L (Part.Local words at) (λ x k. k) (q.local_quiet L o threads words at);
        no_local = λ words at ty is x k. k;
        initial = λ ty v. quiet L (Part.Initial v) (λ x k. k) (q.initial_is L constants ty (constancy v) (out-Expression v).offset);
        listed = λ lengths n index at is. quiet L (Part.Listed lengths index at) (λ x k. k) (q.broken_if L _ rule.Constant at constants);
      }

library_or : (o : Option LibraryFunction) → (is_some o ≡ true) ⊎ (o ≡ None)
library_or None = inr refl
library_or (Some f) = inl refl

module _ (D : List (List ℕ × ℕ)) where
  -- ---- the innermost scope, as it is declared

  same_some : (headers : List Header) (x : Option Declared) (z : Option Meaning) → Same D headers x z → (m : Meaning) → z ≡ Some m → (e : Declared) × (x ≡ Some e) ×
      MeansIn D headers e m
  same_some headers (Some e) (Some o) h m is = (e, refl, subst (MeansIn D headers e) (same_Some _ _ is) h)
  same_some headers None None h m is = absurd (none-some m is)
  same_some headers None (Some o) h m is = absurd h
  same_some headers (Some e) None h m is = absurd h

  pub same_none : (headers : List Header) (x : Option Declared) (z : Option Meaning) → Same D headers x z → z ≡ None → x ≡ None
  same_none headers None z h is = refl
  same_none headers (Some e) None h is = absurd h
  same_none headers (Some e) (Some o) h is = absurd (none-some o (sym is))

  inner_by : (headers : List Header) (inner : List (List ℕ × Meaning)) (outer : List (List (List ℕ × Meaning))) (scopes : List (List (List ℕ × Declared))) (name : List ℕ) →
      function_named name ≡ None → Scopes D headers inner outer scopes → Same D headers (named_in (innermost scopes) name) (named_in inner name)
  inner_by headers inner outer [] name own h = absurd h
  inner_by headers inner outer (scope ∷ scopes) name own h = h.0.same name own

  pub inner_same : (s : Scope) (w : Where) (name : List ℕ) → function_named name ≡ None → Agrees D s w → Same D s.headers (named_in (innermost w.scopes) name) (named_in s.inner name)
  inner_same s w name own h = inner_by s.headers s.inner s.outer w.scopes name own h.scopes

  -- ---- names but functions

  no_function_is : (d : Declared) (m : Meaning) → IsMeant D d m → is_function d ≡ false
  no_function_is (Declared.OfFunction f) m h = absurd h
  no_function_is (Declared.OfParameter p) m h = refl
  no_function_is (Declared.OfVariable words d) m h = refl
  no_function_is (Declared.OfObject words pointer d) m h = refl

  taken_by : (s : Scope) (w : Where) (name : Name) (d : Declared) (m : Meaning) → Agrees D s w → IsMeant D d m →
      (is_some (function_named name.bytes) ≡ true) ⊎ (function_named name.bytes ≡ None) → (is_some (function_named name.bytes) ≡ true) ⊎ (is_some (named_in s.inner
      name.bytes) ≡ true) →
      IsTwice w name d
  taken_by s w name d m agrees means (inl k) taken = inl k
  taken_by s w name d m agrees means (inr own) (inl k) = inl k
  taken_by s w name d m agrees means (inr own) (inr k) =
      let o = some_value (named_in s.inner name.bytes) k in
      let e = same_some s.headers (named_in (innermost w.scopes) name.bytes) (named_in s.inner name.bytes) (inner_same s w name.bytes own agrees) o.0 o.1 in
      inr (inl (record { earlier = e.0; first = e.1; no_functions = and_right (is_function e.0) (is_function d) (no_function_is d m means) }))

  -- a name that is free
  free_by : (s : Scope) (w : Where) (name : Name) (d : Declared) → Agrees D s w → function_named name.bytes ≡ None → named_in s.inner name.bytes ≡ None → IsTwice w name d → ⊥
  free_by s w name d agrees own none (inl k) = false≢true (sym (ap is_some own) ∙ k)
  free_by s w name d agrees own none (inr (inl k)) =
      none-some k.earlier (sym (same_none s.headers (named_in (innermost w.scopes) name.bytes) (named_in s.inner name.bytes) (inner_same s w name.bytes own agrees) none) ∙ k.first)
  free_by s w name d agrees own none (inr (inr k)) =
      none-some k.earlier (sym (same_none s.headers (named_in (innermost w.scopes) name.bytes) (named_in s.inner name.bytes) (inner_same s w name.bytes own agrees) none) ∙ k.first)

  -- ---- functions

  -- whether a body is a second one, by the definitions before it
  pub record IsSecondBy (w : Where) (f : Function) (second : Bool) : Type 0 where
    pub is : second ≡ true → (g : Function) × Contains (innermost w.scopes) (f.name.bytes, Declared.OfFunction g) × (is_some g.body ≡ true) × (is_some f.body ≡ true)
    pub back : second ≡ false → (g : Function) → Contains (innermost w.scopes) (f.name.bytes, Declared.OfFunction g) → is_some g.body ≡ true → is_some f.body ≡ true → ⊥

  earlier : (x : State) (w : Where) (f : Function) → Agrees D x.scope w → function_named f.name.bytes ≡ None → (o : Meaning) → named_in x.scope.inner f.name.bytes ≡ Some o →
      (e : Declared) × IsDeclared w f.name e × MeansIn D x.scope.headers e o
  earlier x w f agrees own o e =
      same_some x.scope.headers (named_in (innermost w.scopes) f.name.bytes) (named_in x.scope.inner f.name.bytes) (inner_same x.scope w f.name.bytes own agrees) o e

  both_functions : (b c : Bool) → b ≡ true → c ≡ true → (b && c) ≡ false → ⊥
  both_functions true true h k e = false≢true (sym e)
  both_functions false c h k e = false≢true h
  both_functions true false h k e = false≢true k

  not_again : (w : Where) (f : Function) (second : Bool) (e : Declared) → IsDeclared w f.name e → is_function e ≡ true → IsSecondBy w f second → function_named
      f.name.bytes ≡ None →
      second ≡ false → IsTwice w f.name (Declared.OfFunction f) → ⊥
  not_again w f second e first function by own out (inl k) = false≢true (sym (ap is_some own) ∙ k)
  not_again w f second e first function by own out (inr (inl k)) =
      both_functions (is_function k.earlier) true (ap is_function (same_Some _ _ (sym k.first ∙ first)) ∙ function) refl k.no_functions
  not_again w f second e first function by own out (inr (inr k)) =
      let same = same_function f k.f k.is in
      by.back out k.g k.before k.defined (ap (λ (z : Function). is_some z.body) same ∙ k.again)

  other_twice : (s : Scope) (w : Where) (f : Function) (o : Meaning) (e : Declared) → IsDeclared w f.name e → MeansIn D s.headers e o → ((n : ℕ) → o ≡ meaning.Function n → ⊥) →
      IsTwice w f.name (Declared.OfFunction f)
  other_twice s w f (meaning.Function n) (Declared.OfFunction g) first means out = absurd (out n refl)
  other_twice s w f (meaning.Variable v) (Declared.OfFunction g) first means out = absurd means
  other_twice s w f meaning.Argument (Declared.OfFunction g) first means out = absurd means
  other_twice s w f (meaning.Object o) (Declared.OfFunction g) first means out = absurd means
  other_twice s w f meaning.Unusable (Declared.OfFunction g) first means out = absurd means
  other_twice s w f o (Declared.OfParameter p) first means out = inr (inl (record { earlier = Declared.OfParameter p; first = first; no_functions = refl }))
  other_twice s w f o (Declared.OfVariable words d) first means out = inr (inl (record { earlier = Declared.OfVariable words d; first = first; no_functions = refl }))
  other_twice s w f o (Declared.OfObject words pointer d) first means out =
      inr (inl (record { earlier = Declared.OfObject words pointer d; first = first; no_functions = refl }))

module _ (D : List (List ℕ × ℕ)) (defined : List Function) where
  abbrev Writing : State → State → Parts → Type 0
  Writing x z ps = Writes (twice_ledger defined) x.found z.found ps

  is_twice : (w : Where) (name : Name) (d : Declared) → IsTwice w name d → Good (L defined) (finds rule.Twice name.offset) (Part.Declares w name d ∷ [])
  is_twice w name d h = u.part_fault defined (Part.Declares w name d) name.offset (h, refl) (λ z k. k.1)

  twice_writes : (x : State) (w : Where) (name : Name) (d : Declared) → IsTwice w name d → Writing x (left (y.twice name x)) (Part.Declares w name d ∷ [])
  twice_writes x w name d h = (q.finding_kept (L defined) (λ s. finds rule.Twice name.offset) x (Part.Declares w name d ∷ []) (is_twice w name d h)).writes

  declared_by : (x : State) (w : Where) (name : Name) (d : Declared) (o : Meaning) → Agrees D x.scope w → IsMeant D d o → (b : Bool) → is_taken x.scope name.bytes ≡ b →
      Writing x (left (if b then finding (λ scope. finds rule.Twice name.offset) x else scoping (declaring name.bytes o) x)) (Part.Declares w name d ∷ [])
  unfolding is_taken
  declared_by x w name d o agrees means true taken =
      twice_writes x w name d (taken_by D x.scope w name d o agrees means (library_or (function_named name.bytes))
      (or_cases (is_some (function_named name.bytes)) (is_some (named_in x.scope.inner name.bytes)) taken))
  declared_by x w name d o agrees means false free =
      let own = none_of (function_named name.bytes) (or_parts (is_some (function_named name.bytes)) (is_some (named_in x.scope.inner name.bytes)) free).0 in
      let none = none_of (named_in x.scope.inner name.bytes) (or_parts (is_some (function_named name.bytes)) (is_some (named_in x.scope.inner name.bytes)) free).1 in
      writes_with (L defined) (Part.Declares w name d) (λ z k. free_by D x.scope w name d agrees own none k.0) (nothing_new (L defined) x.found)

  pub declares : (x : State) (w : Where) (name : Name) (d : Declared) (o : Meaning) → Agrees D x.scope w → IsMeant D d o →
      Writing x (left (l.declare name o x)) (Part.Declares w name d ∷ [])
  unfolding l.declare
  declares x w name d o agrees means = declared_by x w name d o agrees means (is_taken x.scope name.bytes) refl

  -- behind a first declaration of a function
  again_twice : (w : Where) (f : Function) (second : Bool) (e : Declared) → IsDeclared w f.name e → is_function e ≡ true → IsSecondBy D w f second → function_named
      f.name.bytes ≡ None →
      Good (L defined) (finds_if second rule.Twice f.name.offset) (Part.Declares w f.name (Declared.OfFunction f) ∷ [])
  again_twice w f second e first function by own =
      u.part_if defined second (Part.Declares w f.name (Declared.OfFunction f)) f.name.offset
      (λ t. let b = by.is t in
      (inr (inr (record { f = f; is = refl; earlier = e; first = first; function = function; g = b.0; before = b.1; defined = b.2; again = b.3 })), refl))
      (λ z k. k.1)
      (λ no z k. not_again D w f second e first function by own no k.0)

  again : (w : Where) (f : Function) (h : Header) (second : Bool) (o : Option Header) (k : Header) → o ≡ Some k →
      Good (L defined) (finds_if second rule.Twice f.name.offset) (Part.Declares w f.name (Declared.OfFunction f) ∷ []) →
      Good (L defined) (y.again h f.name second o) (Part.Declares w f.name (Declared.OfFunction f) ∷ [])
  again w f h second None k is good = absurd (none-some k is)
  again w f h second (Some x) k is good =
      q.again_some (L defined) (u.others defined) h f.name second x (Part.Declares w f.name (Declared.OfFunction f) ∷ []) good

  again_is : (s : Scope) (w : Where) (f : Function) (h : Header) (second : Bool) (number : ℕ) (e : Declared) → IsDeclared w f.name e → MeansIn D s.headers e
      (meaning.Function number) →
      IsSecondBy D w f second → function_named f.name.bytes ≡ None → Good (L defined) (y.declare_again s number h f.name second) (Part.Declares w f.name
      (Declared.OfFunction f) ∷ [])
  unfolding y.declare_again
  again_is s w f h second number (Declared.OfFunction g) first means by own =
      again w f h second (slice_get s.headers number) (header_in D g) means (again_twice w f second (Declared.OfFunction g) first refl by own)
  again_is s w f h second number (Declared.OfParameter p) first means by own = absurd (m.no_parameter p.is_pointer number means.0)
  again_is s w f h second number (Declared.OfVariable words d) first means by own = absurd means.0
  again_is s w f h second number (Declared.OfObject words pointer d) first means by own = absurd means.0

  over_is : (x : State) (w : Where) (f : Function) (h : Header) (second : Bool) → Agrees D x.scope w → function_named f.name.bytes ≡ None → IsSecondBy D w f second → (o :
      Option Meaning) →
      named_in x.scope.inner f.name.bytes ≡ o → Writing x (left (y.declare_over h f.name second o x)) (Part.Declares w f.name (Declared.OfFunction f) ∷ [])
  over_is x w f h second agrees own by None e =
      writes_with (L defined) (Part.Declares w f.name (Declared.OfFunction f)) (λ z k. free_by D x.scope w f.name (Declared.OfFunction f) agrees own e k.0)
      (nothing_new (L defined) x.found)
  over_is x w f h second agrees own by (Some (meaning.Function n)) e =
      let d = earlier D x w f agrees own (meaning.Function n) e in
      (q.finding_kept (L defined) (λ s. y.declare_again s n h f.name second) x (Part.Declares w f.name (Declared.OfFunction f) ∷ []) (again_is x.scope w f h second n d.0 d.1 d.2 by own)).writes
  over_is x w f h second agrees own by (Some (meaning.Variable v)) e =
      let d = earlier D x w f agrees own (meaning.Variable v) e in
      twice_writes x w f.name (Declared.OfFunction f) (other_twice D x.scope w f (meaning.Variable v) d.0 d.1 d.2 (λ n k. m.not_function (meaning.Variable v) n tt k))
  over_is x w f h second agrees own by (Some meaning.Argument) e =
      let d = earlier D x w f agrees own meaning.Argument e in
      twice_writes x w f.name (Declared.OfFunction f) (other_twice D x.scope w f meaning.Argument d.0 d.1 d.2 (λ n k. m.not_function meaning.Argument n tt k))
  over_is x w f h second agrees own by (Some (meaning.Object o)) e =
      let d = earlier D x w f agrees own (meaning.Object o) e in
      twice_writes x w f.name (Declared.OfFunction f) (other_twice D x.scope w f (meaning.Object o) d.0 d.1 d.2 (λ n k. m.not_function (meaning.Object o) n tt k))
  over_is x w f h second agrees own by (Some meaning.Unusable) e =
      let d = earlier D x w f agrees own meaning.Unusable e in
      twice_writes x w f.name (Declared.OfFunction f) (other_twice D x.scope w f meaning.Unusable d.0 d.1 d.2 (λ n k. m.not_function meaning.Unusable n tt k))

  function_by : (x : State) (w : Where) (f : Function) (h : Header) (second : Bool) → Agrees D x.scope w → IsSecondBy D w f second → (b : Bool) → is_some (function_named
      f.name.bytes) ≡ b →
      Writing x (left (if b then y.twice f.name x else y.declare_over h f.name second (named_in x.scope.inner f.name.bytes) x)) (Part.Declares w f.name
      (Declared.OfFunction f) ∷ [])
  function_by x w f h second agrees by true e = twice_writes x w f.name (Declared.OfFunction f) (inl e)
  function_by x w f h second agrees by false e =
      over_is x w f h second agrees (none_of (function_named f.name.bytes) e) by (named_in x.scope.inner f.name.bytes) refl

  pub function_declared : (x : State) (w : Where) (f : Function) (h : Header) (second : Bool) → Agrees D x.scope w → IsSecondBy D w f second →
      Writing x (left (y.declare_function h f.name second x)) (Part.Declares w f.name (Declared.OfFunction f) ∷ [])
  unfolding y.declare_function
  function_declared x w f h second agrees by = function_by x w f h second agrees by (is_some (function_named f.name.bytes)) refl
