-- How the names of a scope agree with the declarations in sight.
use Rattle.std.proofs.Common.{◌≡◌, refl, sym, subst, ap, ◌∙◌, ℕ, Bool, true, false, List, [], ◌∷◌, ◌++◌, length, Option, Some, None, arith}
use Rattle.std.proofs.lemmas.Bool.{false≢true}
use Rattle.std.specs.Prelude.{◌-◌, is_some, fold, remove, slice_get, if◌then◌else◌}
use Rattle.std.specs.Str.{bytes_eq}
use Rattle.std.proofs.lemmas.Slice.Eq.{bytes_eq-Decides}
use Rattle.std.proofs.lemmas.Option.{same_Some, none-some}
use Rattle.lists.proofs.Places.{length_more, get_last, get_front}
use Rattle.hls_ints.specs.Types.{int_type}
use Rattle.c_tree.specs.declared.declaration.Function.{Function}
use Rattle.c_rules.specs.declared.names.Meaning.{Meaning}
use Rattle.c_rules.specs.declared.names.Meaning.TheVariants as meaning
use Rattle.c_rules.specs.declared.names.Known.TheVariants as known
use Rattle.c_rules.specs.declared.names.Header.{Header}
use Rattle.c_rules.specs.declared.names.Scope.{Scope}
use Rattle.c_rules.specs.declared.library.LibraryFunction.{LibraryFunction}
use Rattle.c_rules.specs.Levels.{named_in, inserted}
use Rattle.c_rules.specs.Library.{function_named}
use Rattle.c_rules.specs.Names as n
use Rattle.c_rules.specs.Names.{or_else, declared, declared_outside, look_up, known_by, from_declaration, opened, closed, closed_to}
use Rattle.c_resolution.specs.Resolving.{scope_with}
use Rattle.c_resolution.specs.Functions as y
use Rattle.c_broken_rules.specs.Sight.{Declared, Names, Where, declaration_in, with_names, inside}
use Rattle.c_broken_rules.specs.Typing.{plain_type, type_of_words}
use Rattle.c_broken_rules.proofs.Walks.{IsUsual, IsParameter, IsGlobal, IsOpen, is_thread, is_thread_object, type_of_meaning, within}

-- ---- what a name stands for is one thing

pub same_function : (f g : Function) → Declared.OfFunction f ≡ Declared.OfFunction g → f ≡ g
same_function f g h = cc

pub same_meaning : (m o : Meaning) → known.Declared m ≡ known.Declared o → m ≡ o
same_meaning m o h = cc

pub not_library : (f : LibraryFunction) (m : Meaning) → known.Library f ≡ known.Declared m → ⊥
not_library f m h = cc

pub not_nothing : (m : Meaning) → known.Unknown ≡ known.Declared m → ⊥
not_nothing m h = cc

pub unknown_library : (f : LibraryFunction) → known.Unknown ≡ known.Library f → ⊥
unknown_library f h = cc

-- ---- names in tables

module _ {A : Type 0} where
  cond_or : (c : Bool) (a : A) (x z : Option A) → (if c then Some a else or_else x z) ≡ or_else (if c then Some a else x) z
  cond_or true a x z = refl
  cond_or false a x z = refl

  pub named_append : (xs ys : List (List ℕ × A)) (key : List ℕ) → named_in (xs ++ ys) key ≡ or_else (named_in xs key) (named_in ys key)
  named_append [] ys key = refl
  named_append (d ∷ xs) ys key =
      ap (λ x. if bytes_eq key d.0 then Some d.1 else x) (named_append xs ys key) ∙ cond_or (bytes_eq key d.0) d.1 (named_in xs key) (named_in ys key)

  inserted_by : (b : Bool) (d : List ℕ × A) (more : List (List ℕ × A)) (name key : List ℕ) (a : A) → (if b then Some d.1 else named_in more name) ≡ None →
      (named_in more name ≡ None → named_in (inserted more name a) key ≡ or_else (named_in more key) (if bytes_eq key name then Some a else None)) →
      named_in (if b then (d.0, a) ∷ more else d ∷ inserted more name a) key ≡ or_else (if bytes_eq key d.0 then Some d.1 else named_in more key) (if bytes_eq key name
      then Some a else None)
  inserted_by true d more name key a none later = absurd (none-some d.1 (sym none))
  inserted_by false d more name key a none later =
      ap (λ x. if bytes_eq key d.0 then Some d.1 else x) (later none) ∙ cond_or (bytes_eq key d.0) d.1 (named_in more key) (if bytes_eq key name then Some a else None)

  -- a new name goes last
  pub named_inserted : (names : List (List ℕ × A)) (name key : List ℕ) (a : A) → named_in names name ≡ None →
      named_in (inserted names name a) key ≡ or_else (named_in names key) (if bytes_eq key name then Some a else None)
  named_inserted [] name key a none = refl
  named_inserted (d ∷ more) name key a none = inserted_by (bytes_eq name d.0) d more name key a none (λ h. named_inserted more name key a h)

-- ---- a declaration and what its name stands for

module _ (D : List (List ℕ × ℕ)) where
  -- the header of a function in a text that defines these
  abbrev pub header_in : Function → Header
  header_in f = y.header (scope_with D) f

  abbrev pub MeansIn : List Header → Declared → Meaning → Type 0
  MeansIn headers (Declared.OfFunction f) (meaning.Function number) = slice_get headers number ≡ Some (header_in f)
  MeansIn headers (Declared.OfFunction f) (meaning.Variable v) = ⊥
  MeansIn headers (Declared.OfFunction f) (meaning.Object o) = ⊥
  MeansIn headers (Declared.OfFunction f) meaning.Argument = ⊥
  MeansIn headers (Declared.OfFunction f) meaning.Unusable = ⊥
  MeansIn headers (Declared.OfParameter q) m = IsParameter q.is_pointer m × (type_of_meaning m ≡ (if q.is_pointer then int_type else plain_type q.specifiers))
  MeansIn headers (Declared.OfVariable words d) m = IsUsual m × (type_of_meaning m ≡ plain_type words)
  MeansIn headers (Declared.OfObject words pointer d) m =
      IsGlobal m × (is_thread_object m ≡ is_thread words pointer d) × (type_of_meaning m ≡ (if pointer then int_type else type_of_words words))

  abbrev pub Same : List Header → Option Declared → Option Meaning → Type 0
  Same headers None None = Unit {0}
  Same headers (Some d) (Some m) = MeansIn headers d m
  Same headers None (Some m) = ⊥
  Same headers (Some d) None = ⊥

  same_or : (headers : List Header) (x u : Option Declared) (z v : Option Meaning) → Same headers x z → Same headers u v → Same headers (or_else x u) (or_else z v)
  same_or headers None u None v h k = k
  same_or headers (Some d) u (Some m) v h k = h
  same_or headers None u (Some m) v h k = absurd h
  same_or headers (Some d) u None v h k = absurd h

  same_if : (headers : List Header) (b : Bool) (d : Declared) (m : Meaning) → MeansIn headers d m → Same headers (if b then Some d else None) (if b then Some m else None)
  same_if headers true d m h = h
  same_if headers false d m h = tt

  -- a name that is taken stays what it was
  same_taken : (headers : List Header) (b : Bool) (d : Declared) (x : Option Declared) (z : Option Meaning) → (b ≡ true → is_some z ≡ true) → Same headers x z →
      Same headers (or_else x (if b then Some d else None)) z
  same_taken headers b d (Some e) (Some m) taken h = h
  same_taken headers true d None None taken h = absurd (false≢true (taken refl))
  same_taken headers false d None None taken h = tt
  same_taken headers b d None (Some m) taken h = absurd h
  same_taken headers b d (Some e) None taken h = absurd h

  -- ---- levels: what no function of the library is called

  pub record Level (headers : List Header) (decls : Names) (names : n.Names) : Type 0 where
    pub same : (key : List ℕ) → function_named key ≡ None → Same headers (named_in decls key) (named_in names key)

  pub record LevelsBehind (headers : List Header) (outer : List n.Names) (scope : Names) (Rest : List n.Names → Type 0) : Type 0 where
    pub front : List n.Names
    pub level : n.Names
    pub are : outer ≡ front ++ level ∷ []
    pub last : Level headers scope level
    pub rest : Rest front

  abbrev pub Levels : List Header → List n.Names → List Names → Type 0
  Levels headers outer [] = outer ≡ []
  Levels headers outer (scope ∷ scopes) = LevelsBehind headers outer scope (λ front. Levels headers front scopes)

  abbrev pub Scopes : List Header → n.Names → List n.Names → List Names → Type 0
  Scopes headers inner outer [] = ⊥
  Scopes headers inner outer (scope ∷ scopes) = Level headers scope inner × Levels headers outer scopes

  pub record Agrees (s : Scope) (w : Where) : Type 0 where
    pub defined : s.definitions ≡ D
    pub scopes : Scopes s.headers s.inner s.outer w.scopes

  -- ---- more headers

  means_more : (headers more : List Header) (d : Declared) (m : Meaning) → MeansIn headers d m → MeansIn (headers ++ more) d m
  means_more headers more (Declared.OfFunction f) (meaning.Function k) h = get_front headers more k (header_in f) h
  means_more headers more (Declared.OfFunction f) (meaning.Variable v) h = h
  means_more headers more (Declared.OfFunction f) (meaning.Object o) h = h
  means_more headers more (Declared.OfFunction f) meaning.Argument h = h
  means_more headers more (Declared.OfFunction f) meaning.Unusable h = h
  means_more headers more (Declared.OfParameter q) m h = h
  means_more headers more (Declared.OfVariable words d) m h = h
  means_more headers more (Declared.OfObject words pointer d) m h = h

  same_more : (headers more : List Header) (x : Option Declared) (z : Option Meaning) → Same headers x z → Same (headers ++ more) x z
  same_more headers more None None h = tt
  same_more headers more (Some d) (Some m) h = means_more headers more d m h
  same_more headers more None (Some m) h = h
  same_more headers more (Some d) None h = h

  level_more : (headers more : List Header) (decls : Names) (names : n.Names) → Level headers decls names → Level (headers ++ more) decls names
  level_more headers more decls names h = record { same = λ key own. same_more headers more (named_in decls key) (named_in names key) (h.same key own) }

  levels_more : (headers more : List Header) (outer : List n.Names) (scopes : List Names) → Levels headers outer scopes → Levels (headers ++ more) outer scopes
  levels_more headers more outer [] h = h
  levels_more headers more outer (scope ∷ scopes) h = record {
    front = h.front;
    level = h.level;
    are = h.are;
    last = level_more headers more scope h.level h.last;
    rest = levels_more headers more h.front scopes h.rest;
  }

  pub scopes_more : (headers more : List Header) (inner : n.Names) (outer : List n.Names) (scopes : List Names) → Scopes headers inner outer scopes → Scopes (headers ++
      more) inner outer scopes
  scopes_more headers more inner outer [] h = h
  scopes_more headers more inner outer (scope ∷ scopes) h = (level_more headers more scope inner h.0, levels_more headers more outer scopes h.1)

  -- ---- scopes that open and close

  pushed : (headers : List Header) (inner : n.Names) (outer : List n.Names) (scopes : List Names) → Scopes headers inner outer scopes → Levels headers (outer ++ inner ∷ []) scopes
  pushed headers inner outer [] h = absurd h
  pushed headers inner outer (scope ∷ scopes) h = record { front = outer; level = inner; are = refl; last = h.0; rest = h.1 }

  pub opened_agrees : (s : Scope) (w : Where) → Agrees s w → Agrees (opened s) (inside w)
  unfolding opened
  opened_agrees s w h = record { defined = h.defined; scopes = (record { same = λ key own. tt }, pushed s.headers s.inner s.outer w.scopes h.scopes) }

  remove_last : {A : Type 0} (xs : List A) (a : A) → remove (xs ++ a ∷ []) (length xs) ≡ xs
  remove_last [] a = refl
  remove_last (x ∷ xs) a = ap (λ l. x ∷ l) (remove_last xs a)

  last_place : {A : Type 0} (xs : List A) (a : A) → length (xs ++ a ∷ []) - 1 ≡ length xs
  last_place xs a = omega (arith, length_more xs a)

  closed_scopes : (s : Scope) (front : List n.Names) (level : n.Names) (o : Option n.Names) (w : Where) → s.definitions ≡ D → o ≡ Some level →
      remove s.outer (length s.outer - 1) ≡ front → Scopes s.headers level front w.scopes → Agrees (closed_to o s) w
  closed_scopes s front level None w defined is gone h = absurd (none-some level is)
  closed_scopes s front level (Some names) w defined is gone h = record {
    defined = defined;
    scopes = subst (λ f. Scopes s.headers names f w.scopes) (sym gone) (subst (λ n. Scopes s.headers n front w.scopes) (sym (same_Some _ _ is)) h);
  }

  closed_by : (s : Scope) (w : Where) (scope : Names) (outer : List Names) → w.scopes ≡ scope ∷ outer → s.definitions ≡ D → Levels s.headers s.outer (scope ∷ outer) →
      Agrees (closed s) w
  unfolding closed
  closed_by s w scope outer opening defined h =
      let front = h.front in
      let is = ap (λ l. slice_get l (length l - 1)) h.are ∙ ap (λ k. slice_get (front ++ h.level ∷ []) k) (last_place front h.level) ∙ get_last front h.level in
      let gone = ap (λ l. remove l (length l - 1)) h.are ∙ ap (λ k. remove (front ++ h.level ∷ []) k) (last_place front h.level) ∙ remove_last front h.level in
      closed_scopes s front h.level (slice_get s.outer (length s.outer - 1)) w defined is gone
      (subst (λ scopes. Scopes s.headers h.level front scopes) (sym opening) (h.last, h.rest))

  pub closed_agrees : (s : Scope) (scope : Names) (w : Where) → IsOpen w → Agrees s (within scope w) → Agrees (closed s) w
  closed_agrees s scope w opening h = closed_by s w opening.scope opening.outer opening.are h.defined (subst (λ scopes. Levels s.headers s.outer scopes) opening.are h.scopes.1)

  -- ---- names that are declared

  -- a new name
  new_level : (headers : List Header) (decls : Names) (names : n.Names) (name : List ℕ) (d : Declared) (m : Meaning) → named_in names name ≡ None → MeansIn headers d m →
      Level headers decls names → Level headers (decls ++ (name, d) ∷ []) (inserted names name m)
  new_level headers decls names name d m none means h = record {
    same = λ key own.
        subst (λ x. Same headers x (named_in (inserted names name m) key)) (sym (named_append decls ((name, d) ∷ []) key))
        (subst (λ z. Same headers (or_else (named_in decls key) (if bytes_eq key name then Some d else None)) z) (sym (named_inserted names name key m none))
        (same_or headers (named_in decls key) (if bytes_eq key name then Some d else None) (named_in names key) (if bytes_eq key name then Some m else None) (h.same key own)
        (same_if headers (bytes_eq key name) d m means)));
  }

  -- a name that is taken
  old_level : (headers : List Header) (decls : Names) (names : n.Names) (name : List ℕ) (d : Declared) → (function_named name ≡ None → is_some (named_in names name) ≡ true) →
      Level headers decls names → Level headers (decls ++ (name, d) ∷ []) names
  old_level headers decls names name d taken h = record {
    same = λ key own.
        subst (λ x. Same headers x (named_in names key)) (sym (named_append decls ((name, d) ∷ []) key))
        (same_taken headers (bytes_eq key name) d (named_in decls key) (named_in names key)
        (λ e. let same = (bytes_eq-Decides key name).0 e in
        ap (λ k. is_some (named_in names k)) same ∙ taken (ap function_named (sym same) ∙ own)) (h.same key own));
  }

  pub new_scopes : (headers : List Header) (inner : n.Names) (outer : List n.Names) (scopes : List Names) (name : List ℕ) (d : Declared) (m : Meaning) → named_in inner
      name ≡ None →
      MeansIn headers d m → Scopes headers inner outer scopes → Scopes headers (inserted inner name m) outer (with_names ((name, d) ∷ []) scopes)
  new_scopes headers inner outer [] name d m none means h = absurd h
  new_scopes headers inner outer (scope ∷ scopes) name d m none means h = (new_level headers scope inner name d m none means h.0, h.1)

  pub old_scopes : (headers : List Header) (inner : n.Names) (outer : List n.Names) (scopes : List Names) (name : List ℕ) (d : Declared) →
      (function_named name ≡ None → is_some (named_in inner name) ≡ true) → Scopes headers inner outer scopes → Scopes headers inner outer (with_names ((name, d) ∷ []) scopes)
  old_scopes headers inner outer [] name d taken h = absurd h
  old_scopes headers inner outer (scope ∷ scopes) name d taken h = (old_level headers scope inner name d taken h.0, h.1)

  -- ---- what is in sight

  outside_append : (name : List ℕ) (front : List n.Names) (level : n.Names) (o : Option Meaning) →
      fold (λ found level. or_else (named_in level name) found) o (front ++ level ∷ []) ≡ or_else (named_in level name) (fold (λ found level. or_else (named_in level name)
      found) o front)
  outside_append name [] level o = refl
  outside_append name (x ∷ front) level o = outside_append name front level (or_else (named_in x name) o)

  seen_outside : (headers : List Header) (name : List ℕ) → function_named name ≡ None → (scopes : List Names) (outer : List n.Names) → Levels headers outer scopes →
      Same headers (declaration_in scopes name) (declared_outside outer name)
  seen_outside headers name own [] outer h = subst (λ o. Same headers None (declared_outside o name)) (sym h) tt
  seen_outside headers name own (scope ∷ scopes) outer h =
      subst (λ o. Same headers (declaration_in (scope ∷ scopes) name) (declared_outside o name)) (sym h.are)
      (subst (λ z. Same headers (declaration_in (scope ∷ scopes) name) z) (sym (outside_append name h.front h.level None))
      (same_or headers (named_in scope name) (declaration_in scopes name) (named_in h.level name) (declared_outside h.front name) (h.last.same name own)
      (seen_outside headers name own scopes h.front h.rest)))

  seen_in : (headers : List Header) (name : List ℕ) → function_named name ≡ None → (inner : n.Names) (outer : List n.Names) (scopes : List Names) → Scopes headers inner
      outer scopes →
      Same headers (declaration_in scopes name) (or_else (named_in inner name) (declared_outside outer name))
  seen_in headers name own inner outer [] h = absurd h
  seen_in headers name own inner outer (scope ∷ scopes) h =
      same_or headers (named_in scope name) (declaration_in scopes name) (named_in inner name) (declared_outside outer name) (h.0.same name own)
      (seen_outside headers name own scopes outer h.1)

  -- what a name is, as it is looked up and as it is declared
  pub data Sees (s : Scope) (w : Where) (name : List ℕ) : Type 0 where
    OfLibrary : (f : LibraryFunction) (named : function_named name ≡ Some f) (looks : look_up s name ≡ known.Library f) → Sees s w name
    Nothing : (own : function_named name ≡ None) (none : declaration_in w.scopes name ≡ None) (looks : look_up s name ≡ known.Unknown) → Sees s w name
    Something : (own : function_named name ≡ None) (d : Declared) (m : Meaning) (some : declaration_in w.scopes name ≡ Some d) (looks : look_up s name ≡ known.Declared m)
        (means : MeansIn s.headers d m) → Sees s w name

  looked : (s : Scope) (name : List ℕ) (o : Option LibraryFunction) → function_named name ≡ o → look_up s name ≡ known_by o (declared s name)
  unfolding look_up
  looked s name o e = ap (λ o. known_by o (declared s name)) e

  sees_own : (s : Scope) (w : Where) (name : List ℕ) → function_named name ≡ None → (x : Option Declared) (z : Option Meaning) → declaration_in w.scopes name ≡ x →
      declared s name ≡ z →
      Same s.headers x z → Sees s w name
  sees_own s w name own None None e g h = Sees.Nothing own e (looked s name None own ∙ ap from_declaration g)
  sees_own s w name own (Some d) (Some m) e g h = Sees.Something own d m e (looked s name None own ∙ ap from_declaration g) h
  sees_own s w name own None (Some m) e g h = absurd h
  sees_own s w name own (Some d) None e g h = absurd h

  sees_by : (s : Scope) (w : Where) (name : List ℕ) → Agrees s w → (o : Option LibraryFunction) → function_named name ≡ o → Sees s w name
  sees_by s w name h (Some f) e = Sees.OfLibrary f e (looked s name (Some f) e)
  sees_by s w name h None e =
      sees_own s w name e (declaration_in w.scopes name) (declared s name) refl refl (seen_in s.headers name e s.inner s.outer w.scopes h.scopes)

  pub sees : (s : Scope) (w : Where) (name : List ℕ) → Agrees s w → Sees s w name
  sees s w name h = sees_by s w name h (function_named name) refl
