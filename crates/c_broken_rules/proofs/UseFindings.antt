-- Uses that break the thread rule: each finding of a walk by what its name stands for where it is used.
use Rattle.std.proofs.Common.{◌≡◌, refl, sym, subst, ap, ◌∙◌, inl, inr, ℕ, Bool, true, false, List, [], ◌∷◌, Option, Some, None}
use Rattle.std.specs.Prelude.{◌⊎◌, ◌||◌, not, is_none}
use Rattle.std.proofs.lemmas.Option.{same_Some, none-some}
use Rattle.std.proofs.lemmas.Bool.{not-false, or_parts, both_ways, not-true, false≢true}
use Rattle.c_tree.specs.declared.expression.Name.{Name}
use Rattle.c_tree.specs.declared.declaration.Function.{Function}
use Rattle.c_rules.specs.declared.fault.Rule.TheVariants as rule
use Rattle.c_rules.specs.declared.fault.Fault.{Fault}
use Rattle.c_rules.specs.declared.library.LibraryFunction.{LibraryFunction}
use Rattle.c_rules.specs.declared.library.LibraryFunction.TheVariants as library
use Rattle.c_rules.specs.declared.names.Meaning.{Meaning}
use Rattle.c_rules.specs.declared.names.Meaning.TheVariants as meaning
use Rattle.c_rules.specs.declared.names.Known.{Known}
use Rattle.c_rules.specs.declared.names.Known.TheVariants as known
use Rattle.c_rules.specs.declared.names.Header.{Header}
use Rattle.c_rules.specs.declared.names.Scope.{Scope}
use Rattle.c_rules.specs.Library.{function_named}
use Rattle.c_rules.specs.Names.{look_up, is_argument, is_start_routine, gives_pointer}
use Rattle.c_rules.specs.Walks.{Finds, finds, finds_if, finds_any}
use Rattle.c_expressions.specs.Callees as c
use Rattle.c_expressions.specs.Expressions as e
use Rattle.c_calls.specs.Arguments as a
use Rattle.c_resolution.specs.Functions as y
use Rattle.c_broken_rules.specs.Sight.{Declared, Where, declaration_in}
use Rattle.c_broken_rules.specs.Parts.{Part}
use Rattle.c_broken_rules.specs.Breaks.{StandsFor, IsElsewhere, IsMain, IsStartRoutine}
use Rattle.c_broken_rules.proofs.Ledgers.{Ledger, Good, quiet}
use Rattle.c_broken_rules.proofs.Walks.{IsParameter}
use Rattle.c_broken_rules.proofs.Sights.{Agrees, Sees, sees, MeansIn, header_in, same_function, same_meaning, not_library, not_nothing, unknown_library}
use Rattle.c_broken_rules.proofs.UnknownNames.{IsNoFunction, named_function, no_function_meant, not_function}
use Rattle.c_broken_rules.proofs.Headers.{main_is, main_back, routine_is, routine_back, pointer_is, pointer_back}
use Rattle.c_broken_rules.proofs.Uses as q
use Rattle.c_broken_rules.proofs.Uses.{IsRun, IsExit, IsPointer, BreaksAt, use_ledger}
use Rattle.c_broken_rules.proofs.Quiets as p

same_library : (f g : LibraryFunction) → known.Library f ≡ known.Library g → f ≡ g
same_library f g h = cc

-- ---- where a part stands

-- in a body of the function, as what a return may give says
pub record IsInside (D : List (List ℕ × ℕ)) (s : Scope) (f : Function) : Type 0 where
  pub some : is_none s.function ≡ false
  pub gives : s.gives ≡ y.gives_of (header_in D f)

abbrev pub BodyIs : List (List ℕ × ℕ) → Scope → Option (ℕ × Function) → Type 0
BodyIs D s None = s.function ≡ None
BodyIs D s (Some body) = IsInside D s body.1

either : (b c : Bool) → (b || c) ≡ true → b ≡ false → c ≡ true
either true c h e = absurd (false≢true (sym e))
either false c h e = h

module _ (D : List (List ℕ × ℕ)) where
  abbrev L : Ledger
  L = use_ledger

  elsewhere_is : (s : Scope) (o : Option (ℕ × Function)) → BodyIs D s o → (is_none s.function || not (gives_pointer s.gives)) ≡ true → IsElsewhere o
  elsewhere_is s None h e = tt
  elsewhere_is s (Some body) h e =
      λ r. both_ways (gives_pointer s.gives) (not-true (gives_pointer s.gives) (either (is_none s.function) (not (gives_pointer s.gives)) e h.some))
      (ap gives_pointer h.gives ∙ pointer_back D body.1 r)

  not_elsewhere : (s : Scope) (o : Option (ℕ × Function)) → BodyIs D s o → (is_none s.function || not (gives_pointer s.gives)) ≡ false → IsElsewhere o → ⊥
  not_elsewhere s None h e out = false≢true (sym (or_parts (is_none s.function) (not (gives_pointer s.gives)) e).0 ∙ ap is_none h)
  not_elsewhere s (Some body) h e out =
      let gives = not-false (gives_pointer s.gives) (or_parts (is_none s.function) (not (gives_pointer s.gives)) e).1 in
      out (pointer_is D body.1 (sym (ap gives_pointer h.gives) ∙ gives))

  pub record Stands (s : Scope) (w : Where) : Type 0 where
    pub agrees : Agrees D s w
    pub body : BodyIs D s w.body

  -- ---- names of functions

  library_seen : (s : Scope) (w : Where) (name : Name) (f : LibraryFunction) → Sees D s w name.bytes → look_up s name.bytes ≡ known.Library f → function_named
      name.bytes ≡ Some f
  library_seen s w name f (Sees.OfLibrary g named looks) is = named ∙ ap (λ (h : LibraryFunction). Some h) (same_library g f (sym looks ∙ is))
  library_seen s w name f (Sees.Nothing own none looks) is = absurd (unknown_library f (sym looks ∙ is))
  library_seen s w name f (Sees.Something own d m some looks means) is = absurd (not_library f m (sym is ∙ looks))

  -- ---- parts that are no fault

  -- a name that the walk has for no function of the library is that of none
  no_library_meant : (s : Scope) (w : Where) (name : Name) → Sees D s w name.bytes → ((f : LibraryFunction) → look_up s name.bytes ≡ known.Library f → ⊥) →
      (f : LibraryFunction) → function_named name.bytes ≡ Some f → ⊥
  no_library_meant s w name (Sees.OfLibrary g named looks) none f is = none g looks
  no_library_meant s w name (Sees.Nothing own undeclared looks) none f is = none-some f (sym own ∙ is)
  no_library_meant s w name (Sees.Something own d m some looks means) none f is = none-some f (sym own ∙ is)

  -- a name of no function
  no_call : (s : Scope) (w : Where) (name : Name) → Sees D s w name.bytes → ((n : ℕ) → look_up s name.bytes ≡ known.Declared (meaning.Function n) → ⊥) →
      ((f : LibraryFunction) → look_up s name.bytes ≡ known.Library f → ⊥) → IsRun w name ⊎ IsExit w name → ⊥
  no_call s w name see out none (inl u) = no_function_meant D s w name see out u.f u.means
  no_call s w name see out none (inr u) = no_library_meant s w name see none library.Exit u.exit

  -- ---- the parameter of a start routine

  pointer_means : (b : Bool) (m : Meaning) → IsParameter b m → b ≡ true → m ≡ meaning.Argument
  pointer_means true m h e = h
  pointer_means false m h e = absurd (false≢true e)

  argument_by : (s : Scope) (w : Where) (name : Name) → Sees D s w name.bytes → IsPointer w name → look_up s name.bytes ≡ known.Declared meaning.Argument
  argument_by s w name (Sees.OfLibrary g named looks) u = absurd (none-some g (sym u.means.own ∙ named))
  argument_by s w name (Sees.Nothing own none looks) u = absurd (none-some (Declared.OfParameter u.p) (sym none ∙ u.means.declared))
  argument_by s w name (Sees.Something own d m some looks means) u =
      let same = same_Some _ _ (sym some ∙ u.means.declared) in
      looks ∙ ap known.Declared (pointer_means u.p.is_pointer m (subst (λ (x : Declared). MeansIn D s.headers x m) same means).0 u.pointer)

  means_pointer : (b : Bool) → IsParameter b meaning.Argument → b ≡ true
  means_pointer true h = refl
  means_pointer false h = absurd h

  pointer_of : (s : Scope) (w : Where) (name : Name) → function_named name.bytes ≡ None → (d : Declared) → declaration_in w.scopes name.bytes ≡ Some d →
      MeansIn D s.headers d meaning.Argument → IsPointer w name
  pointer_of s w name own (Declared.OfParameter p) some means =
      record { p = p; means = record { declared = some; own = own }; pointer = means_pointer p.is_pointer means.0 }
  pointer_of s w name own (Declared.OfFunction f) some means = absurd means
  pointer_of s w name own (Declared.OfVariable words d) some means = absurd means.0
  pointer_of s w name own (Declared.OfObject words pointer d) some means = absurd means.0

  pointer_seen : (s : Scope) (w : Where) (name : Name) → Sees D s w name.bytes → look_up s name.bytes ≡ known.Declared meaning.Argument → IsPointer w name
  pointer_seen s w name (Sees.OfLibrary f named looks) is = absurd (not_library f meaning.Argument (sym looks ∙ is))
  pointer_seen s w name (Sees.Nothing own none looks) is = absurd (not_nothing meaning.Argument (sym looks ∙ is))
  pointer_seen s w name (Sees.Something own d m some looks means) is =
      pointer_of s w name own d some (subst (MeansIn D s.headers d) (same_meaning m meaning.Argument (sym looks ∙ is)) means)

  -- a name of something else is not read as such a parameter
  no_read : (s : Scope) (w : Where) (name : Name) → Agrees D s w → is_argument (look_up s name.bytes) ≡ false → (x : Fault) → BreaksAt (Part.Read w name) x → ⊥
  no_read s w name agrees out x b = false≢true (sym out ∙ ap is_argument (argument_by s w name (sees D s w name.bytes agrees) b.0))

  quiet_read : (s : Scope) (w : Where) (name : Name) → Agrees D s w → (x : Known) → look_up s name.bytes ≡ x → is_argument x ≡ false →
      Good L (finds_any (e.misuse x 0) name.offset) (Part.Use w name ∷ Part.Read w name ∷ [])
  quiet_read s w name agrees x is out =
      quiet L (Part.Use w name) (λ z h. h)
      (quiet L (Part.Read w name) (no_read s w name agrees (ap is_argument is ∙ out))
      (p.misuse_quiet L q.others x 0 name.offset (λ _. q.other rule.Unknown (λ j. j)) (λ e _. absurd (false≢true (sym out ∙ ap is_argument e)))))

  pub read_by : (s : Scope) (w : Where) (name : Name) → Agrees D s w → (x : Known) → look_up s name.bytes ≡ x →
      Good L (finds_any (e.misuse x 0) name.offset) (Part.Use w name ∷ Part.Read w name ∷ [])
  read_by s w name agrees (known.Declared meaning.Argument) is =
      q.argument_value name.offset (Part.Use w name ∷ Part.Read w name ∷ [])
      (quiet L (Part.Use w name) (λ z h. h)
      (q.part_fault (Part.Read w name) name.offset (pointer_seen s w name (sees D s w name.bytes agrees) is, refl) (λ z h. h.1)))
  read_by s w name agrees (known.Declared (meaning.Variable v)) is = quiet_read s w name agrees (known.Declared (meaning.Variable v)) is refl
  read_by s w name agrees (known.Declared (meaning.Object o)) is = quiet_read s w name agrees (known.Declared (meaning.Object o)) is refl
  read_by s w name agrees (known.Declared (meaning.Function n)) is = quiet_read s w name agrees (known.Declared (meaning.Function n)) is refl
  read_by s w name agrees (known.Declared meaning.Unusable) is = quiet_read s w name agrees (known.Declared meaning.Unusable) is refl
  read_by s w name agrees known.Unknown is = quiet_read s w name agrees known.Unknown is refl
  read_by s w name agrees (known.Library f) is = quiet_read s w name agrees (known.Library f) is refl

  some_header : (s : Scope) (x : Known) (h : Header) → a.header_of s x ≡ Some h → is_argument x ≡ false
  some_header s (known.Declared meaning.Argument) h e = absurd (none-some h e)
  some_header s (known.Declared (meaning.Variable v)) h e = refl
  some_header s (known.Declared (meaning.Object o)) h e = refl
  some_header s (known.Declared (meaning.Function n)) h e = refl
  some_header s (known.Declared meaning.Unusable) h e = refl
  some_header s known.Unknown h e = refl
  some_header s (known.Library f) h e = refl

  pub routine_by : (s : Scope) (w : Where) (name : Name) (h : Header) (at : ℕ) → Agrees D s w → a.header_of s (look_up s name.bytes) ≡ Some h →
      Good L (a.routine h name.offset at) (Part.Routine w name ∷ Part.Use w name ∷ Part.Read w name ∷ [])
  routine_by s w name h at agrees is =
      quiet L (Part.Routine w name) (λ z k. k)
      (quiet L (Part.Use w name) (λ z k. k)
      (quiet L (Part.Read w name) (no_read s w name agrees (some_header s (look_up s name.bytes) h is)) (p.routine_quiet L q.others (q.other rule.Unknown (λ j. j)) h name.offset at)))

  -- ---- called names

  may_run : (f : Function) (b c : Bool) → (header_in D f).is_main ≡ b → is_start_routine (header_in D f) ≡ c → (b || c) ≡ true → IsMain f ⊎ IsStartRoutine f
  may_run f true c h k e = inl (main_is D f h)
  may_run f false c h k e = inr (routine_is D f (k ∙ e))

  no_run : (f : Function) → ((header_in D f).is_main || is_start_routine (header_in D f)) ≡ false → IsMain f ⊎ IsStartRoutine f → ⊥
  no_run f e (inl m) = false≢true (sym (or_parts (header_in D f).is_main (is_start_routine (header_in D f)) e).0 ∙ main_back D f m)
  no_run f e (inr r) = false≢true (sym (or_parts (header_in D f).is_main (is_start_routine (header_in D f)) e).1 ∙ routine_back D f r)

  not_run : (w : Where) (name : Name) (f : Function) → StandsFor w name (Declared.OfFunction f) → ((header_in D f).is_main || is_start_routine (header_in D f)) ≡ false →
      IsRun w name ⊎ IsExit w name → ⊥
  not_run w name f means out (inl u) =
      no_run f out (subst (λ (g : Function). IsMain g ⊎ IsStartRoutine g) (same_function u.f f (same_Some _ _ (sym u.means.declared ∙ means.declared))) u.run)
  not_run w name f means out (inr u) = none-some library.Exit (sym means.own ∙ u.exit)

  run_is : (w : Where) (name : Name) (f : Function) → StandsFor w name (Declared.OfFunction f) →
      Good L (finds_if ((header_in D f).is_main || is_start_routine (header_in D f)) rule.Threads name.offset) (Part.Call w name ∷ [])
  run_is w name f means =
      q.part_if ((header_in D f).is_main || is_start_routine (header_in D f)) (Part.Call w name) name.offset
      (λ t. (inl (record { f = f; means = means; run = may_run f (header_in D f).is_main (is_start_routine (header_in D f)) refl refl t }), refl)) (λ z k. k.1)
      (λ out z k. not_run w name f means out k.0)

  pub function_is : (s : Scope) (w : Where) (name : Name) (number count : ℕ) (is_value : Bool) → Agrees D s w → look_up s name.bytes ≡ known.Declared (meaning.Function number) →
      Good L (c.function_name s number count is_value name.offset) (Part.Call w name ∷ [])
  unfolding c.function_name
  function_is s w name number count is_value agrees is =
      let n = named_function D s w name number agrees is in
      subst (λ o. Good L (c.header_call s count is_value name.offset o) (Part.Call w name ∷ [])) (sym n.header)
      (p.header_is L q.others s (header_in D n.f) count is_value name.offset [] (Part.Call w name ∷ []) q.calls_quiet
      (p.broken_if L (is_none (header_in D n.f).definition) rule.Unknown name.offset (q.other rule.Unknown (λ j. j))) (run_is w name n.f n.means))

  -- functions of the library

  not_exit : (w : Where) (name : Name) (f : LibraryFunction) → function_named name.bytes ≡ Some f → (f ≡ library.Exit → ⊥) → IsRun w name ⊎ IsExit w name → ⊥
  not_exit w name f named out (inl u) = none-some f (sym u.means.own ∙ named)
  not_exit w name f named out (inr u) = out (same_Some _ _ (sym named ∙ u.exit))

  other_place : (s : Scope) (w : Where) (name : Name) (f : LibraryFunction) → function_named name.bytes ≡ Some f → (f ≡ library.Exit → ⊥) →
      Good L (c.library_place s f name.offset) (Part.Call w name ∷ [])
  other_place s w name f named out =
      quiet L (Part.Call w name) (λ z k. not_exit w name f named out k.0) (p.library_place L q.others s f name.offset (λ e. absurd (out e)))

  exit_kept : (s : Scope) (w : Where) (name : Name) → function_named name.bytes ≡ Some library.Exit → BodyIs D s w.body →
      (is_none s.function || not (gives_pointer s.gives)) ≡ false → IsRun w name ⊎ IsExit w name → ⊥
  exit_kept s w name named body out (inl u) = none-some library.Exit (sym u.means.own ∙ named)
  exit_kept s w name named body out (inr u) = not_elsewhere s w.body body out u.elsewhere

  exit_place : (s : Scope) (w : Where) (name : Name) → function_named name.bytes ≡ Some library.Exit → BodyIs D s w.body →
      Good L (c.library_place s library.Exit name.offset) (Part.Call w name ∷ [])
  exit_place s w name named body =
      q.exit_is s name.offset (Part.Call w name ∷ [])
      (q.part_if (is_none s.function || not (gives_pointer s.gives)) (Part.Call w name) name.offset
      (λ t. (inr (record { exit = named; elsewhere = elsewhere_is s w.body body t }), refl)) (λ z k. k.1)
      (λ out z k. exit_kept s w name named body out k.0))

  place_is : (s : Scope) (w : Where) (name : Name) (f : LibraryFunction) → function_named name.bytes ≡ Some f → BodyIs D s w.body →
      Good L (c.library_place s f name.offset) (Part.Call w name ∷ [])
  place_is s w name library.Exit named body = exit_place s w name named body
  place_is s w name f named body = other_place s w name f named (λ e. cc)

  pub library_call : (s : Scope) (w : Where) (name : Name) (f : LibraryFunction) (count : ℕ) → Stands s w → look_up s name.bytes ≡ known.Library f →
      Good L (c.library_name s f count name.offset) (Part.Call w name ∷ [])
  library_call s w name f count stands is =
      p.library_name L q.others s f count name.offset (Part.Call w name ∷ [])
      (place_is s w name f (library_seen s w name f (sees D s w name.bytes stands.agrees) is) stands.body)

  -- any name

  quiet_call : (s : Scope) (w : Where) (name : Name) → Agrees D s w → (x : Known) → look_up s name.bytes ≡ x → ((n : ℕ) → x ≡ known.Declared (meaning.Function n) → ⊥) →
      ((f : LibraryFunction) → x ≡ known.Library f → ⊥) → {A : Type 0} {walk : Finds A} → Good L walk [] → Good L walk (Part.Call w name ∷ [])
  quiet_call s w name agrees x is out none h =
      quiet L (Part.Call w name) (λ z k. no_call s w name (sees D s w name.bytes agrees) (λ n e. out n (sym is ∙ e)) (λ f e. none f (sym is ∙ e)) k.0) h

  no_library : (m : Meaning) (f : LibraryFunction) → known.Declared m ≡ known.Library f → ⊥
  no_library m f h = not_library f m (sym h)

  other_call : (s : Scope) (w : Where) (name : Name) → Agrees D s w → (m : Meaning) → look_up s name.bytes ≡ known.Declared m → IsNoFunction m →
      {A : Type 0} {walk : Finds A} → Good L walk [] → Good L walk (Part.Call w name ∷ [])
  other_call s w name agrees m is none h =
      quiet_call s w name agrees (known.Declared m) is (λ n e. not_function m n none (same_meaning _ _ e)) (no_library m) h

  unknown_rule : (at : ℕ) → Good L (finds rule.Unknown at) []
  unknown_rule at = q.other rule.Unknown (λ j. j) at

  no_function_found : (x : Known) (at : ℕ) → Good L (c.no_function x at) []
  no_function_found x at = p.no_function_is L q.others x at [] (p.broken_if L (c.is_unknown x) rule.Unknown at unknown_rule)

  no_named : (n : ℕ) → c.number_of (known.Declared (meaning.Function n)) ≡ None → ⊥
  no_named n e = none-some n (sym e)

  pub misplaced_by : (s : Scope) (w : Where) (name : Name) (count : ℕ) → Stands s w → (x : Known) → look_up s name.bytes ≡ x → c.number_of x ≡ None →
      Good L (c.misplaced s x count name.offset) (Part.Call w name ∷ [])
  unfolding c.misplaced
  misplaced_by s w name count stands (known.Library f) is none =
      p.library_value L q.others s f count name.offset (Part.Call w name ∷ []) (library_call s w name f count stands is)
  misplaced_by s w name count stands (known.Declared (meaning.Function n)) is none = absurd (no_named n none)
  misplaced_by s w name count stands (known.Declared meaning.Unusable) is none =
      other_call s w name stands.agrees meaning.Unusable is tt (no_function_found (known.Declared meaning.Unusable) name.offset)
  misplaced_by s w name count stands (known.Declared (meaning.Variable v)) is none =
      other_call s w name stands.agrees (meaning.Variable v) is tt (no_function_found (known.Declared (meaning.Variable v)) name.offset)
  misplaced_by s w name count stands (known.Declared meaning.Argument) is none =
      other_call s w name stands.agrees meaning.Argument is tt (no_function_found (known.Declared meaning.Argument) name.offset)
  misplaced_by s w name count stands (known.Declared (meaning.Object o)) is none =
      other_call s w name stands.agrees (meaning.Object o) is tt (no_function_found (known.Declared (meaning.Object o)) name.offset)
  misplaced_by s w name count stands known.Unknown is none =
      quiet_call s w name stands.agrees known.Unknown is (λ n e. not_nothing (meaning.Function n) e) unknown_library
      (no_function_found known.Unknown name.offset)

  pub no_function_by : (s : Scope) (w : Where) (name : Name) → Agrees D s w → c.number_of (look_up s name.bytes) ≡ None →
      ((f : LibraryFunction) → look_up s name.bytes ≡ known.Library f → ⊥) →
      Good L (c.no_function (look_up s name.bytes) name.offset) (Part.Call w name ∷ [])
  no_function_by s w name agrees none own =
      quiet_call s w name agrees (look_up s name.bytes) refl (λ n e. none-some n (sym none ∙ ap c.number_of e)) own
      (no_function_found (look_up s name.bytes) name.offset)
