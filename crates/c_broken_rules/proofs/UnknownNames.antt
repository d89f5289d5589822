-- Unknown names: each finding of a walk by what its name stands for where it is used.
use Rattle.std.proofs.Common.{◌≡◌, refl, sym, subst, ap, ◌∙◌, inl, inr, ℕ, Bool, true, false, List, [], ◌∷◌, ◌++◌, Option, Some, None}
use Rattle.std.proofs.lemmas.Bool.{false≢true}
use Rattle.std.specs.Prelude.{◌⊎◌, ◌||◌, is_none, slice_get}
use Rattle.std.proofs.lemmas.Option.{same_Some, none-some}
use Rattle.c_tree.specs.declared.expression.Name.{Name}
use Rattle.c_tree.specs.declared.declaration.Function.{Function}
use Rattle.c_program.specs.Tree.{Expression}
use Rattle.c_rules.specs.declared.fault.Rule.TheVariants as rule
use Rattle.c_rules.specs.declared.fault.Fault.{Fault}
use Rattle.c_rules.specs.declared.library.LibraryFunction.{LibraryFunction}
use Rattle.c_rules.specs.declared.names.ObjectKind.{ObjectKind}
use Rattle.c_rules.specs.declared.names.Meaning.{Meaning}
use Rattle.c_rules.specs.declared.names.Meaning.TheVariants as meaning
use Rattle.c_rules.specs.declared.names.Known.{Known}
use Rattle.c_rules.specs.declared.names.Known.TheVariants as known
use Rattle.c_rules.specs.declared.names.Header.{Header}
use Rattle.c_rules.specs.declared.names.Scope.{Scope}
use Rattle.c_rules.specs.Levels.{named_in}
use Rattle.c_rules.specs.Library.{function_named}
use Rattle.c_rules.specs.Names.{look_up, is_argument, is_start_routine}
use Rattle.c_rules.specs.Walks.{Finds, finds, finds_if, finds_any}
use Rattle.c_expressions.specs.Callees as c
use Rattle.c_expressions.specs.Expressions as e
use Rattle.c_expressions.specs.Targets as t
use Rattle.c_calls.specs.Arguments as a
use Rattle.c_broken_rules.specs.Sight.{Declared, Where, declaration_in}
use Rattle.c_broken_rules.specs.Parts.{Part, Parts}
use Rattle.c_broken_rules.specs.Breaks.{IsUnknown, StandsFor}
use Rattle.c_broken_rules.proofs.Ledgers.{Ledger, Good, good_behind, nothing_new, quiet}
use Rattle.c_broken_rules.proofs.Walks.{IsParameter}
use Rattle.c_broken_rules.proofs.Sights.{Agrees, Sees, sees, MeansIn, header_in, same_function, same_meaning, not_library, not_nothing, unknown_library}
use Rattle.c_broken_rules.proofs.Names as q
use Rattle.c_broken_rules.proofs.Names.{IsKnown, IsUndefined, BreaksAt, name_ledger}
use Rattle.c_broken_rules.proofs.Quiets as p
use Rattle.c_broken_rules.proofs.Quiets.{IsQuiet}

not_argument : (n : ℕ) → meaning.Function n ≡ meaning.Argument → ⊥
not_argument n h = cc

pub no_parameter : (b : Bool) (n : ℕ) → IsParameter b (meaning.Function n) → ⊥
no_parameter true n h = not_argument n h
no_parameter false n h = h

abbrev pub IsNoFunction : Meaning → Type 0
IsNoFunction (meaning.Function n) = ⊥
IsNoFunction other = Unit {0}

pub not_function : (m : Meaning) (n : ℕ) → IsNoFunction m → m ≡ meaning.Function n → ⊥
not_function m n h e = subst IsNoFunction e h

module _ (D : List (List ℕ × ℕ)) where
  abbrev L : Ledger
  L = name_ledger D

  -- what a name is declared as, by what the walk has for it
  pub record IsDeclared (s : Scope) (w : Where) (name : Name) (m : Meaning) : Type 0 where
    pub own : function_named name.bytes ≡ None
    pub d : Declared
    pub some : declaration_in w.scopes name.bytes ≡ Some d
    pub means : MeansIn D s.headers d m

  declared_by : (s : Scope) (w : Where) (name : Name) (m : Meaning) → look_up s name.bytes ≡ known.Declared m → Sees D s w name.bytes → IsDeclared s w name m
  declared_by s w name m is (Sees.OfLibrary f named looks) = absurd (not_library f m (sym looks ∙ is))
  declared_by s w name m is (Sees.Nothing own none looks) = absurd (not_nothing m (sym looks ∙ is))
  declared_by s w name m is (Sees.Something own d o some looks means) =
      record { own = own; d = d; some = some; means = subst (MeansIn D s.headers d) (same_meaning o m (sym looks ∙ is)) means }

  -- a name that the walk has for a function
  pub record IsFunctionName (s : Scope) (w : Where) (name : Name) (number : ℕ) : Type 0 where
    pub f : Function
    pub means : StandsFor w name (Declared.OfFunction f)
    pub header : slice_get s.headers number ≡ Some (header_in D f)

  function_by : (s : Scope) (w : Where) (name : Name) (number : ℕ) → function_named name.bytes ≡ None → (d : Declared) → declaration_in w.scopes name.bytes ≡ Some d →
      MeansIn D s.headers d (meaning.Function number) → IsFunctionName s w name number
  function_by s w name number own (Declared.OfFunction f) some means = record { f = f; means = record { declared = some; own = own }; header = means }
  function_by s w name number own (Declared.OfParameter p) some means = absurd (no_parameter p.is_pointer number means.0)
  function_by s w name number own (Declared.OfVariable words d) some means = absurd means.0
  function_by s w name number own (Declared.OfObject words pointer d) some means = absurd means.0

  pub named_function : (s : Scope) (w : Where) (name : Name) (number : ℕ) → Agrees D s w → look_up s name.bytes ≡ known.Declared (meaning.Function number) → IsFunctionName s w
      name number
  named_function s w name number agrees is =
      let d = declared_by s w name (meaning.Function number) is (sees D s w name.bytes agrees) in
      function_by s w name number d.own d.d d.some d.means

  -- ---- parts that are no fault

  known_use : (s : Scope) (w : Where) (name : Name) → Sees D s w name.bytes → IsKnown (look_up s name.bytes) → IsUnknown w name → ⊥
  known_use s w name (Sees.OfLibrary f named looks) h u = none-some f (sym u.unknown ∙ named)
  known_use s w name (Sees.Nothing own none looks) h u = subst IsKnown looks h
  known_use s w name (Sees.Something own d m some looks means) h u = none-some d (sym u.undeclared ∙ some)

  is_unknown : (s : Scope) (w : Where) (name : Name) → Sees D s w name.bytes → look_up s name.bytes ≡ known.Unknown → IsUnknown w name
  is_unknown s w name (Sees.OfLibrary f named looks) e = absurd (unknown_library f (sym e ∙ looks))
  is_unknown s w name (Sees.Nothing own none looks) e = record { undeclared = none; unknown = own }
  is_unknown s w name (Sees.Something own d m some looks means) e = absurd (not_nothing m (sym e ∙ looks))

  by_meaning : (s : Scope) (m : Meaning) (f : Function) → MeansIn D s.headers (Declared.OfFunction f) m → ((n : ℕ) → m ≡ meaning.Function n → ⊥) → ⊥
  by_meaning s (meaning.Function n) f h out = out n refl
  by_meaning s (meaning.Variable v) f h out = h
  by_meaning s meaning.Argument f h out = h
  by_meaning s (meaning.Object o) f h out = h
  by_meaning s meaning.Unusable f h out = h

  -- a name that stands for no function is that of no function without a definition
  pub no_function_meant : (s : Scope) (w : Where) (name : Name) → Sees D s w name.bytes → ((n : ℕ) → look_up s name.bytes ≡ known.Declared (meaning.Function n) → ⊥) →
      (f : Function) → StandsFor w name (Declared.OfFunction f) → ⊥
  no_function_meant s w name (Sees.OfLibrary g named looks) out f u = none-some g (sym u.own ∙ named)
  no_function_meant s w name (Sees.Nothing own none looks) out f u = none-some (Declared.OfFunction f) (sym none ∙ u.declared)
  no_function_meant s w name (Sees.Something own d m some looks means) out f u =
      by_meaning s m f (subst (λ (x : Declared). MeansIn D s.headers x m) (same_Some _ _ (sym some ∙ u.declared)) means) (λ n e. out n (looks ∙ ap known.Declared e))

  -- a known name is not found unknown
  is_quiet : (x : Known) → IsKnown x → x ≡ known.Unknown → IsQuiet L rule.Unknown
  is_quiet x h e = absurd (subst IsKnown e h)

  library_quiet : (s : Scope) (f : LibraryFunction) (count at : ℕ) → Good L (c.library_name s f count at) []
  library_quiet s f count at = p.library_name L (q.others D) s f count at [] (p.library_place L (q.others D) s f at (λ _. q.other D rule.Threads (λ j. j)))

  -- ---- used names

  used_by : (s : Scope) (w : Where) (name : Name) → Sees D s w name.bytes → (x : Known) → look_up s name.bytes ≡ x → (A : Type 0) (walk : Known → Finds A) →
      ((x : Known) → IsKnown x → Good L (walk x) []) → ((ps : Parts) → Good L (finds rule.Unknown name.offset) ps → Good L (walk known.Unknown) ps) →
      Good L (walk x) (Part.Use w name ∷ [])
  used_by s w name see known.Unknown is A walk silent loud =
      loud (Part.Use w name ∷ []) (q.part_fault D (Part.Use w name) name.offset (is_unknown s w name see is, refl) (λ z h. h.1))
  used_by s w name see (known.Declared m) is A walk silent loud =
      quiet L (Part.Use w name) (λ z h. known_use s w name see (subst IsKnown (sym is) tt) h.0) (silent (known.Declared m) tt)
  used_by s w name see (known.Library f) is A walk silent loud =
      quiet L (Part.Use w name) (λ z h. known_use s w name see (subst IsKnown (sym is) tt) h.0) (silent (known.Library f) tt)

  used : (s : Scope) (w : Where) (name : Name) → Agrees D s w → {A : Type 0} (walk : Known → Finds A) →
      ((x : Known) → IsKnown x → Good L (walk x) []) → ((ps : Parts) → Good L (finds rule.Unknown name.offset) ps → Good L (walk known.Unknown) ps) →
      Good L (walk (look_up s name.bytes)) (Part.Use w name ∷ [])
  used s w name agrees {A} walk silent loud = used_by s w name (sees D s w name.bytes agrees) (look_up s name.bytes) refl A walk silent loud

  pub value_is : (s : Scope) (w : Where) (name : Name) (indices : ℕ) → Agrees D s w → Good L (finds_any (e.misuse (look_up s name.bytes) indices) name.offset)
      (Part.Use w name ∷ [])
  value_is s w name indices agrees =
      used s w name agrees (λ x. finds_any (e.misuse x indices) name.offset) (λ x h. p.misuse_quiet L (q.others D) x indices name.offset (is_quiet x h)
      (λ _ _. q.other D rule.Threads (λ j. j))) (λ ps h. q.unknown_value D name.offset indices ps h)

  target_unknown : (name : Name) (indices : ℕ) (ps : Parts) → Good L (finds rule.Unknown name.offset) ps → Good L (finds_any (t.target_fault known.Unknown indices)
      name.offset) ps
  target_unknown name indices ps h = record { writes = h.writes }

  pub read_part : (w : Where) (name : Name) (ps : Parts) {A : Type 0} {walk : Finds A} → Good L walk ps → Good L walk (ps ++ Part.Read w name ∷ [])
  read_part w name ps h = good_behind L (Part.Read w name) ps (λ x k. k) h

  -- ---- called names

  none_of : {A : Type 0} (o : Option A) → is_none o ≡ true → o ≡ None
  none_of None h = refl
  none_of (Some x) h = absurd (false≢true h)

  defined_one : {A : Type 0} (o : Option A) → is_none o ≡ false → o ≡ None → ⊥
  defined_one None h e = false≢true (sym h)
  defined_one (Some x) h e = none-some x (sym e)

  -- a function that is defined is none without a definition
  routine_defined : (w : Where) (name : Name) (f : Function) → is_none (named_in D f.name.bytes) ≡ false → StandsFor w name (Declared.OfFunction f) → IsUndefined D w name → ⊥
  routine_defined w name f out means u =
      let same = same_function f u.f (same_Some _ _ (sym means.declared ∙ u.means.declared)) in
      defined_one (named_in D f.name.bytes) out (ap (λ (g : Function). named_in D g.name.bytes) same ∙ u.never)

  call_defined : (s : Scope) (w : Where) (name : Name) (f : Function) (o : Option ℕ) → named_in D f.name.bytes ≡ o → is_none (named_in D f.name.bytes) ≡ false →
      StandsFor w name (Declared.OfFunction f) → IsUnknown w name ⊎ IsUndefined D w name → ⊥
  call_defined s w name f o e out means (inl u) = none-some (Declared.OfFunction f) (sym u.undeclared ∙ means.declared)
  call_defined s w name f o e out means (inr u) = routine_defined w name f out means u

  either_none : (s : Scope) (w : Where) (name : Name) → Sees D s w name.bytes → IsKnown (look_up s name.bytes) →
      ((n : ℕ) → look_up s name.bytes ≡ known.Declared (meaning.Function n) → ⊥) → IsUnknown w name ⊎ IsUndefined D w name → ⊥
  either_none s w name see h out (inl u) = known_use s w name see h u
  either_none s w name see h out (inr u) = no_function_meant s w name see out u.f u.means

  no_undefined : (s : Scope) (w : Where) (name : Name) → Sees D s w name.bytes → IsKnown (look_up s name.bytes) →
      ((n : ℕ) → look_up s name.bytes ≡ known.Declared (meaning.Function n) → ⊥) → (x : Fault) → BreaksAt D (Part.Call w name) x → ⊥
  no_undefined s w name see h out x b = either_none s w name see h out b.0

  called_function : (s : Scope) (w : Where) (name : Name) (number : ℕ) → Agrees D s w → look_up s name.bytes ≡ known.Declared (meaning.Function number) →
      (n : IsFunctionName s w name number) → Good L (finds_if (is_none (header_in D n.f).definition) rule.Unknown name.offset) (Part.Call w name ∷ [])
  called_function s w name number agrees is n =
      q.part_if D (is_none (named_in D n.f.name.bytes)) (Part.Call w name) name.offset
      (λ t. (inr (record { f = n.f; means = n.means; never = none_of (named_in D n.f.name.bytes) t }), refl)) (λ z h. h.1)
      (λ no z h. call_defined s w name n.f (named_in D n.f.name.bytes) refl no n.means h.0)

  pub function_is : (s : Scope) (w : Where) (name : Name) (number count : ℕ) (is_value : Bool) → Agrees D s w → look_up s name.bytes ≡ known.Declared (meaning.Function number) →
      Good L (c.function_name s number count is_value name.offset) (Part.Call w name ∷ [])
  unfolding c.function_name
  function_is s w name number count is_value agrees is =
      let n = named_function s w name number agrees is in
      subst (λ o. Good L (c.header_call s count is_value name.offset o) (Part.Call w name ∷ [])) (sym n.header)
      (p.header_is L (q.others D) s (header_in D n.f) count is_value name.offset (Part.Call w name ∷ []) [] (q.calls_quiet D) (called_function s w name number agrees is n)
      (p.broken_if L ((header_in D n.f).is_main || is_start_routine (header_in D n.f)) rule.Threads name.offset (q.other D rule.Threads (λ j. j))))

  quiet_call : (s : Scope) (w : Where) (name : Name) → Agrees D s w → (x : Known) → look_up s name.bytes ≡ x → IsKnown x → ((n : ℕ) → x ≡ known.Declared
      (meaning.Function n) → ⊥) →
      {A : Type 0} {walk : Finds A} → Good L walk [] → Good L walk (Part.Call w name ∷ [])
  quiet_call s w name agrees x is h out walk_is =
      quiet L (Part.Call w name) (no_undefined s w name (sees D s w name.bytes agrees) (subst IsKnown (sym is) h) (λ n e. out n (sym is ∙ e))) walk_is

  -- a name that is known
  unknown_none : (x : Known) (at : ℕ) → IsKnown x → Good L (finds_if (c.is_unknown x) rule.Unknown at) []
  unknown_none known.Unknown at h = absurd h
  unknown_none (known.Declared m) at h = record { writes = λ found. nothing_new L found }
  unknown_none (known.Library f) at h = record { writes = λ found. nothing_new L found }

  known_call : (x : Known) (at : ℕ) → IsKnown x → Good L (c.no_function x at) []
  known_call x at h = p.no_function_is L (q.others D) x at [] (unknown_none x at h)

  unknown_call : (s : Scope) (w : Where) (name : Name) → Agrees D s w → look_up s name.bytes ≡ known.Unknown → Good L (finds rule.Unknown name.offset) (Part.Call w name ∷ [])
  unknown_call s w name agrees is =
      q.part_fault D (Part.Call w name) name.offset (inl (is_unknown s w name (sees D s w name.bytes agrees) is), refl) (λ z h. h.1)

  -- what is no function, by whether it is unknown
  pub no_function_by : (s : Scope) (w : Where) (name : Name) → Agrees D s w → (x : Known) → look_up s name.bytes ≡ x → c.number_of x ≡ None →
      Good L (c.no_function x name.offset) (Part.Call w name ∷ [])
  no_function_by s w name agrees known.Unknown is none =
      p.no_function_is L (q.others D) known.Unknown name.offset (Part.Call w name ∷ []) (record { writes = (unknown_call s w name agrees is).writes })
  no_function_by s w name agrees (known.Library f) is none =
      quiet_call s w name agrees (known.Library f) is tt (λ n e. not_library f (meaning.Function n) e) (known_call (known.Library f) name.offset tt)
  no_function_by s w name agrees (known.Declared m) is none =
      quiet_call s w name agrees (known.Declared m) is tt (λ n e. none-some n (sym none ∙ ap c.number_of e)) (known_call (known.Declared m) name.offset tt)

  pub misplaced_by : (s : Scope) (w : Where) (name : Name) (count : ℕ) → Agrees D s w → (x : Known) → look_up s name.bytes ≡ x → c.number_of x ≡ None →
      Good L (c.misplaced s x count name.offset) (Part.Call w name ∷ [])
  unfolding c.misplaced
  misplaced_by s w name count agrees (known.Library f) is none =
      quiet_call s w name agrees (known.Library f) is tt (λ n e. not_library f (meaning.Function n) e)
      (p.library_value L (q.others D) s f count name.offset [] (library_quiet s f count name.offset))
  misplaced_by s w name count agrees (known.Declared m) is none = no_function_by s w name agrees (known.Declared m) is none
  misplaced_by s w name count agrees known.Unknown is none = no_function_by s w name agrees known.Unknown is none

  -- ---- start routines

  routine_part : (s : Scope) (w : Where) (name : Name) (n : ℕ) → IsFunctionName s w name n → (at : ℕ) (h : Header) → slice_get s.headers n ≡ Some h →
      Good L (a.routine h name.offset at) (Part.Routine w name ∷ Part.Use w name ∷ Part.Read w name ∷ [])
  routine_part s w name number n at h is =
      let same = same_Some _ _ (sym n.header ∙ is) in
      subst (λ h. Good L (a.routine h name.offset at) (Part.Routine w name ∷ Part.Use w name ∷ Part.Read w name ∷ [])) same
      (p.routine_is L (q.others D) (header_in D n.f) name.offset at (Part.Routine w name ∷ Part.Use w name ∷ Part.Read w name ∷ [])
      (good_behind L (Part.Read w name) (Part.Routine w name ∷ Part.Use w name ∷ []) (λ x k. k)
      (good_behind L (Part.Use w name) (Part.Routine w name ∷ []) (λ x k. none-some (Declared.OfFunction n.f) (sym k.0.undeclared ∙ n.means.declared))
      (q.part_if D (is_none (named_in D n.f.name.bytes)) (Part.Routine w name) name.offset
      (λ t. (record { f = n.f; means = n.means; never = none_of (named_in D n.f.name.bytes) t }, refl)) (λ z k. k.1)
      (λ out z k. routine_defined w name n.f out n.means k.0)))))

  pub routine_by : (s : Scope) (w : Where) (name : Name) (h : Header) (at : ℕ) → Agrees D s w → (x : Known) → look_up s name.bytes ≡ x → a.header_of s x ≡ Some h →
      Good L (a.routine h name.offset at) (Part.Routine w name ∷ Part.Use w name ∷ Part.Read w name ∷ [])
  routine_by s w name h at agrees (known.Declared (meaning.Function n)) is e = routine_part s w name n (named_function s w name n agrees is) at h e
  routine_by s w name h at agrees (known.Declared (meaning.Variable v)) is e = absurd (none-some h e)
  routine_by s w name h at agrees (known.Declared meaning.Argument) is e = absurd (none-some h e)
  routine_by s w name h at agrees (known.Declared (meaning.Object o)) is e = absurd (none-some h e)
  routine_by s w name h at agrees (known.Declared meaning.Unusable) is e = absurd (none-some h e)
  routine_by s w name h at agrees known.Unknown is e = absurd (none-some h e)
  routine_by s w name h at agrees (known.Library f) is e = absurd (none-some h e)

  pub no_routine : (s : Scope) (w : Where) (name : Name) → Agrees D s w → a.header_of s (look_up s name.bytes) ≡ None → (x : Fault) → BreaksAt D (Part.Routine w name) x → ⊥
  no_routine s w name agrees none x b =
      no_function_meant s w name (sees D s w name.bytes agrees)
      (λ n e. let m = named_function s w name n agrees e in none-some (header_in D m.f) (sym (sym (ap (a.header_of s) e) ∙ none) ∙ m.header)) b.0.f b.0.means

  -- ---- the rest

  pub target_is : (s : Scope) (w : Where) (name : Name) (indices : ℕ) → Agrees D s w →
      Good L (finds_any (t.target_fault (look_up s name.bytes) indices) name.offset) (Part.Use w name ∷ [])
  target_is s w name indices agrees =
      used s w name agrees (λ x. finds_any (t.target_fault x indices) name.offset) (λ x h. p.target_quiet L (q.others D) x indices name.offset (is_quiet x h))
      (λ ps h. target_unknown name indices ps h)

  pub object_is : (s : Scope) (w : Where) (kind : ObjectKind) (name : Name) (at indices : ℕ) (number : Option Expression) → Agrees D s w →
      Good L (a.object_named kind (look_up s name.bytes) name.offset at indices number) (Part.Use w name ∷ [])
  object_is s w kind name at indices number agrees =
      used s w name agrees (λ x. a.object_named kind x name.offset at indices number)
      (λ x h. p.object_named L (q.others D) kind x name.offset at indices number (is_quiet x h))
      (λ ps h. q.unknown_object D kind name.offset at indices number ps h)

  pub library_call : (s : Scope) (w : Where) (name : Name) (f : LibraryFunction) (count : ℕ) → Agrees D s w → look_up s name.bytes ≡ known.Library f →
      Good L (c.library_name s f count name.offset) (Part.Call w name ∷ [])
  library_call s w name f count agrees is =
      quiet_call s w name agrees (known.Library f) is tt (λ n e. not_library f (meaning.Function n) e) (library_quiet s f count name.offset)

  argument_known : (x : Known) → is_argument x ≡ true → IsKnown x
  argument_known known.Unknown h = absurd (false≢true h)
  argument_known (known.Declared o) h = tt
  argument_known (known.Library f) h = tt

  pub argument_use : (s : Scope) (w : Where) (name : Name) → Agrees D s w → is_argument (look_up s name.bytes) ≡ true → IsUnknown w name → ⊥
  argument_use s w name agrees h u = known_use s w name (sees D s w name.bytes agrees) (argument_known (look_up s name.bytes) h) u
