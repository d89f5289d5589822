-- Creates: what a walk notes of them, in the order of the text.
use Rattle.std.proofs.Common.{◌≡◌, refl, sym, subst, ap, ◌∙◌, inl, inr, ℕ, ◌<◌, Bool, true, false, List, [], ◌∷◌, ◌++◌, length, Option, Some, None}
use Rattle.std.proofs.Common.{append_assoc, append-nil, arith}
use Rattle.std.specs.Prelude.{fold, not, nat_eq, if◌then◌else◌, option_map}
use Rattle.std.proofs.lemmas.Option.{same_Some, none-some}
use Rattle.std.proofs.lemmas.Bool.{eq-eqb, false≢true}
use Rattle.c_tree.specs.declared.expression.Name.{Name}
use Rattle.c_tree.specs.declared.expression.Place.{Place as PlaceTree, out-Place}
use Rattle.c_tree.specs.declared.expression.Argument.{Argument as ArgumentTree, out-Argument}
use Rattle.c_tree.specs.declared.expression.Argument.TheOpen.{Argument-F}
use Rattle.c_program.specs.Tree.{Expression, ObjectPlace, ThreadCall, Statement}
use Rattle.c_program.specs.Resolved.{object_of}
use Rattle.c_rules.specs.declared.fault.Rule.{Rule}
use Rattle.c_rules.specs.declared.fault.Rule.TheVariants as rule
use Rattle.c_rules.specs.declared.findings.Creation.{Creation}
use Rattle.c_rules.specs.declared.findings.Findings.{Findings}
use Rattle.c_rules.specs.declared.library.LibraryFunction.{LibraryFunction}
use Rattle.c_rules.specs.declared.names.ObjectKind.TheVariants.{Thread}
use Rattle.c_rules.specs.declared.names.Object.{Object}
use Rattle.c_rules.specs.declared.names.Meaning.{Meaning}
use Rattle.c_rules.specs.declared.names.Meaning.TheVariants as meaning
use Rattle.c_rules.specs.declared.names.Known.{Known}
use Rattle.c_rules.specs.declared.names.Known.TheVariants as known
use Rattle.c_rules.specs.declared.names.Header.{Header}
use Rattle.c_rules.specs.declared.names.Scope.{Scope}
use Rattle.c_rules.specs.Findings as findings
use Rattle.c_rules.specs.Levels.{named_in}
use Rattle.c_rules.specs.Library.{function_named}
use Rattle.c_rules.specs.Names as n
use Rattle.c_rules.specs.Names.{or_else, look_up, declared, declared_outside, known_by, same_kind}
use Rattle.c_rules.specs.Walks.{Outcome, Finds, pure, finds_if, creates, place_in_tree, ◌>>=◌, ◌>>◌}
use Rattle.c_expressions.specs.Cuts.{Cuts, Cut, cut}
use Rattle.c_expressions.specs.Expressions as e
use Rattle.c_calls.specs.Arguments as a
use Rattle.c_calls.specs.Calls as k
use Rattle.c_broken_rules.specs.Sight.{Declared, Where, declaration_in}
use Rattle.c_broken_rules.specs.Parts as p
use Rattle.c_broken_rules.specs.Parts.{Part, Parts}
use Rattle.c_broken_rules.proofs.Ledgers.{Ledger, Entered, Good, Writes, given, left, turn, good_pure, good_then, good_before, nothing_new, writes_both, quiet}
use Rattle.c_broken_rules.proofs.Events.{Events, Creates}
use Rattle.c_broken_rules.proofs.Arguments.{address_argument, null_argument, routine_argument, pointer_argument, argument_place}
use Rattle.c_broken_rules.proofs.Walks.{IsParameter, IsUsual, is_thread}
use Rattle.c_broken_rules.proofs.Sights.{Agrees, Sees, sees, MeansIn, not_library, not_nothing, same_meaning}
use Rattle.c_broken_rules.proofs.Quiets.{IsQuiet, OthersAreQuiet, CallsAreQuiet}
use Rattle.c_broken_rules.proofs.ThreadNumbers.{first_index}
use Rattle.c_broken_rules.proofs.Numbers.{less_apart}

-- the number that stands for a misused object
abbrev pub cap : ℕ
cap = 0xffff_ffff

-- ---- creates but of misused objects

abbrev pub real_one : Bool → Creation → List Creation
real_one true c = []
real_one false c = c ∷ []

abbrev pub real : List Creation → List Creation
real [] = []
real (c ∷ cs) = real_one (nat_eq c.thread cap) c ++ real cs

pub real_both : (xs ys : List Creation) → real (xs ++ ys) ≡ real xs ++ real ys
real_both [] ys = refl
real_both (c ∷ xs) ys =
    ap (λ l. real_one (nat_eq c.thread cap) c ++ l) (real_both xs ys) ∙ sym (append_assoc (real_one (nat_eq c.thread cap) c) (real xs) (real ys))

abbrev pub Has : Option Creation → Type 0
Has None = ⊥
Has (Some c) = Unit {0}

pub no_one : (o : Option Creation) → (Has o → ⊥) → o ≡ None
no_one None h = refl
no_one (Some c) h = absurd (h tt)

abbrev pub of_option : Option Creation → List Creation
of_option None = []
of_option (Some c) = c ∷ []

abbrev pub creation : ℕ → ℕ → ℕ → Creation
creation thread routine at = record { thread = thread; routine = routine; offset = at }

abbrev pub made : Option ℕ → Option ℕ → ℕ → Option Creation
made None r at = None
made (Some t) None at = None
made (Some t) (Some r) at = Some (creation t r at)

module _ (D : List (List ℕ × ℕ)) (T : List (List ℕ)) where
  -- ---- the creates of a text that defines these functions and declares these thread objects

  abbrev pub object_number : Option LibraryFunction → Option Declared → List ℕ → Option ℕ
  object_number (Some f) d key = None
  object_number None None key = None
  object_number None (Some (Declared.OfObject words pointer d)) key = if is_thread words pointer d then Some (first_index T key) else None
  object_number None (Some other) key = None

  -- the number of the thread object that a name stands for
  abbrev pub thread_number : Where → Name → Option ℕ
  thread_number w name = object_number (function_named name.bytes) (declaration_in w.scopes name.bytes) name.bytes

  abbrev pub definition_number : Option LibraryFunction → Option Declared → Option ℕ
  definition_number (Some f) d = None
  definition_number None None = None
  definition_number None (Some (Declared.OfFunction f)) = named_in D f.name.bytes
  definition_number None (Some other) = None

  -- the number of the definition of the function that a name stands for
  abbrev pub routine_number : Where → Name → Option ℕ
  routine_number w name = definition_number (function_named name.bytes) (declaration_in w.scopes name.bytes)

  abbrev pub site_of : Part → Option Creation
  site_of (Part.Creation w thread name) = made (thread_number w thread) (routine_number w name) name.offset
  site_of other = None

  abbrev pub sites : Parts → List Creation
  sites [] = []
  sites (part ∷ more) = of_option (site_of part) ++ sites more

  pub sites_both : (ps qs : Parts) → sites (ps ++ qs) ≡ sites ps ++ sites qs
  sites_both [] qs = refl
  sites_both (part ∷ ps) qs = ap (λ l. of_option (site_of part) ++ l) (sites_both ps qs) ∙ sym (append_assoc (of_option (site_of part)) (sites ps) (sites qs))

  abbrev pub IsBounded : Part → Type 0
  IsBounded (Part.Creation w thread name) = first_index T thread.bytes < length T
  IsBounded other = Unit {0}

  -- the parts that are creates, and, in order, what is noted of them
  abbrev pub create_ledger : Ledger
  create_ledger = record {
    Entry = Part;
    Seen = λ found x. ⊥;
    Reached = λ found x. IsBounded x;
    Judged = λ x. Unit {0};
    At = λ part x. (part ≡ x) × Has (site_of part);
    Order = λ x y ps. real y.creations ≡ real x.creations ++ sites ps;
    order_none = λ x. sym (append-nil (real x.creations));
    order_both = λ x y z ps qs h k.
        k ∙ ap (λ l. l ++ sites qs) h ∙ append_assoc (real x.creations) (sites ps) (sites qs) ∙ ap (λ l. real x.creations ++ l) (sym (sites_both ps qs));
    order_with = λ x y part ps none h.
        h ∙ ap (λ l. real x.creations ++ (l ++ sites ps)) (sym (ap of_option (no_one (site_of part) (λ k. none part (refl, k)))));
  }

  abbrev L : Ledger
  L = create_ledger

  quiet_writes : (x y : Findings) → y.creations ≡ x.creations → Writes L x y []
  quiet_writes x y same = record {
    from = λ part h. absurd h;
    keeps = λ part h. h;
    finds = λ part h. absurd h;
    order = ap real same ∙ sym (append-nil (real x.creations));
  }

  pub broken : (r : Rule) → IsQuiet L r
  unfolding findings.broken
  broken r at = record { writes = λ found. quiet_writes found (findings.broken r at found) refl }

  pub others : OthersAreQuiet L
  others r at h = broken r at

  -- ---- names that are called

  pub calls_quiet : CallsAreQuiet L
  calls_quiet (Some caller) callee at = record { writes = λ found. quiet_writes found (findings.called (Some caller) callee at found) refl }
  calls_quiet None callee at = record { writes = λ found. nothing_new L found }

  -- ---- numbers of thread objects in scopes

  abbrev pub IsNumberOf : List ℕ → Object → Type 0
  IsNumberOf key o = (o.number ≡ place_in_tree (first_index T key)) × (first_index T key < length T)

  abbrev pub Num : Option Meaning → List ℕ → Type 0
  Num x key = (o : Object) → x ≡ Some (meaning.Object o) → same_kind Thread o.kind ≡ true → IsNumberOf key o

  pub record Level (names : n.Names) : Type 0 where
    pub numbers : (key : List ℕ) → Num (named_in names key) key

  abbrev pub Levels : List n.Names → Type 0
  Levels [] = Unit {0}
  Levels (x ∷ xs) = Level x × Levels xs

  pub record Numbered (s : Scope) : Type 0 where
    pub inner : Level s.inner
    pub outer : Levels s.outer

  pub num_none : (key : List ℕ) → Num None key
  num_none key o e t = absurd (none-some (meaning.Object o) e)

  pub num_or : (x z : Option Meaning) (key : List ℕ) → Num x key → Num z key → Num (or_else x z) key
  num_or (Some m) z key h k = h
  num_or None z key h k = k

  num_outside : (levels : List n.Names) (found : Option Meaning) (key : List ℕ) → Levels levels → Num found key →
      Num (fold (λ found level. or_else (named_in level key) found) found levels) key
  num_outside [] found key h k = k
  num_outside (x ∷ xs) found key h k = num_outside xs (or_else (named_in x key) found) key h.1 (num_or (named_in x key) found key (h.0.numbers key) k)

  num_declared : (s : Scope) (key : List ℕ) → Numbered s → Num (declared s key) key
  num_declared s key h =
      num_or (named_in s.inner key) (declared_outside s.outer key) key (h.inner.numbers key) (num_outside s.outer None key h.outer (num_none key))

  declared_by : (f : Option LibraryFunction) (x : Option Meaning) (m : Meaning) → known_by f x ≡ known.Declared m → x ≡ Some m
  declared_by (Some f) x m h = absurd (not_library f m h)
  declared_by None None m h = absurd (not_nothing m h)
  declared_by None (Some o) m h = ap (λ (z : Meaning). Some z) (same_meaning o m h)

  num_seen : (s : Scope) (key : List ℕ) (m : Meaning) → Numbered s → look_up s key ≡ known.Declared m → Num (Some m) key
  unfolding look_up
  num_seen s key m h is = subst (λ x. Num x key) (declared_by (function_named key) (declared s key) m is) (num_declared s key h)

  pub record Stands (s : Scope) (w : Where) : Type 0 where
    pub names : Agrees D s w
    pub numbers : Numbered s

  -- ---- the objects of creates

  abbrev number_by : Option Object → ℕ
  number_by None = cap
  number_by (Some o) = o.number

  placed_number : (o : Object) (size : Option ℕ) (number : Option Expression) → object_of (a.placed o size number) ≡ o.number
  placed_number o None number = refl
  placed_number o (Some size) (Some number) = refl
  placed_number o (Some size) None = refl

  object_at : (at : ℕ) (o : Object) (indices : ℕ) (number : Option Expression) (found : Findings) → object_of (given (a.object_at at o indices number found)) ≡ o.number
  unfolding a.object_at
  object_at at o indices number found = placed_number o o.length number

  misused : (x : Known) (name_at at : ℕ) (found : Findings) → object_of (given (a.misused_object x name_at at found)) ≡ cap
  unfolding a.misused_object
  misused x name_at at found = refl

  object_from : (o : Option Object) (x : Known) (name_at at indices : ℕ) (number : Option Expression) (found : Findings) →
      object_of (given (a.object_from o x name_at at indices number found)) ≡ number_by o
  object_from (Some o) x name_at at indices number found = object_at name_at o indices number found
  object_from None x name_at at indices number found = misused x name_at at found

  object_named : (x : Known) (name_at at indices : ℕ) (number : Option Expression) (found : Findings) →
      object_of (given (a.object_named Thread x name_at at indices number found)) ≡ number_by (a.object_of Thread x)
  unfolding a.object_named
  object_named x name_at at indices number found = object_from (a.object_of Thread x) x name_at at indices number found

  -- the number of the object of an argument
  abbrev given_number : Outcome Findings (Cut ObjectPlace) → ℕ
  given_number o = object_of (given o).rest

  object_place : (s : Scope) (place : PlaceTree) (offset at : ℕ) (cuts : Cuts) (found : Findings) →
      given_number (a.object_place s Thread place offset at cuts found) ≡ number_by (a.object_of Thread (look_up s (out-Place place).name.bytes))
  unfolding a.object_place
  object_place s place offset at cuts found =
      let x = look_up s (out-Place place).name.bytes in
      let count = length (out-Place place).indices in
      let object = λ (i : Cut (Option Expression)). a.object_named Thread x (out-Place place).name.offset offset count i.rest in
      let last = λ (i : Cut (Option Expression)) (o : ObjectPlace). pure (cut i.cuts o) in
      let o = e.place_number s (a.object_dimensions (a.object_of Thread x)) place at cuts found in
      ap given_number (turn o (λ i. object i >>= (λ z. last i z))) ∙ ap given_number (turn (object (given o) (left o)) (λ z. last (given o) z))
      ∙ object_named x (out-Place place).name.offset offset count (given o).rest (left o)

  refused_object : (s : Scope) (x : ArgumentTree) (cuts : Cuts) (found : Findings) → given_number (a.refused_object s x cuts found) ≡ cap
  unfolding a.refused_object
  refused_object s x cuts found = ap given_number (turn (a.refused s x found) (λ _. pure (cut cuts a.no_object)))

  abbrev address_number : Scope → Option Name → ℕ
  address_number s None = cap
  address_number s (Some name) = number_by (a.object_of Thread (look_up s name.bytes))

  address_by : (s : Scope) (w : Where) (x : ArgumentTree) (l : a.ArgumentLayer) (at : ℕ) (cuts : Cuts) (found : Findings) →
      given_number (a.address_in s Thread x l at cuts found) ≡ address_number s (p.named_object w l)
  address_by s w x (Argument-F.Address place offset) at cuts found = object_place s place offset at cuts found
  address_by s w x (Argument-F.Text bytes offset) at cuts found = refused_object s x cuts found
  address_by s w x (Argument-F.Value v) at cuts found = refused_object s x cuts found
  address_by s w x (Argument-F.Pointer v) at cuts found = refused_object s x cuts found

  address : (s : Scope) (w : Where) (x : ArgumentTree) (at : ℕ) (cuts : Cuts) (found : Findings) →
      given_number (a.address_argument s Thread x at cuts found) ≡ address_number s (p.named_object w (out-Argument x))
  unfolding a.address_argument
  address s w x at cuts found = address_by s w x (out-Argument x) at cuts found

  -- ---- the routines of creates

  abbrev routine_by : Option Header → ℕ → Option (ℕ × ℕ)
  routine_by None at = None
  routine_by (Some h) at = option_map (λ (number : ℕ). (number, at)) h.definition

  abbrev routine_given : Scope → Option Name → Option (ℕ × ℕ)
  routine_given s None = None
  routine_given s (Some name) = routine_by (a.header_of s (look_up s name.bytes)) name.offset

  refused_routine : (s : Scope) (is_other : Bool) (x : ArgumentTree) (found : Findings) → given (a.refused_routine s is_other x found) ≡ None
  unfolding a.refused_routine
  refused_routine s is_other x found =
      let first = finds_if is_other rule.Kind (e.argument_offset x) found in
      ap (λ (z : Outcome Findings (Option (ℕ × ℕ))). given z) (turn first (λ _. e.looked_argument s x >> pure None))
      ∙ ap (λ (z : Outcome Findings (Option (ℕ × ℕ))). given z) (turn (e.looked_argument s x (left first)) (λ _. pure None))

  one_routine : (h : Header) (name_at at : ℕ) (found : Findings) → given (a.routine h name_at at found) ≡ option_map (λ (number : ℕ). (number, name_at)) h.definition
  unfolding a.routine
  one_routine h name_at at found = refl

  routine_from : (s : Scope) (x : ArgumentTree) (h : Option Header) (is_other : Bool) (name_at at : ℕ) (found : Findings) →
      given (a.routine_from s x h is_other name_at at found) ≡ routine_by h name_at
  routine_from s x (Some h) is_other name_at at found = one_routine h name_at at found
  routine_from s x None is_other name_at at found = refused_routine s is_other x found

  alone : (s : Scope) (x : ArgumentTree) (name : Name) (at : ℕ) (is_other b : Bool) (found : Findings) →
      given (a.routine_from s x (if b then a.header_of s (look_up s name.bytes) else None) is_other name.offset at found) ≡ routine_given s (if b then Some name else None)
  alone s x name at is_other true found = routine_from s x (a.header_of s (look_up s name.bytes)) is_other name.offset at found
  alone s x name at is_other false found = refused_routine s is_other x found

  routine_at : (s : Scope) (w : Where) (x : ArgumentTree) (o : Option (PlaceTree × ℕ)) (found : Findings) →
      given (a.routine_at s x o found) ≡ routine_given s (p.name_by w (option_map (λ (r : PlaceTree × ℕ). r.0) o))
  routine_at s w x (Some r) found = alone s x (out-Place r.0).name r.1 (not (a.is_unnamed s r.0)) (a.is_alone r.0) found
  routine_at s w x None found = refused_routine s true x found

  routine : (s : Scope) (w : Where) (events : Events L s w) (x : ArgumentTree) (found : Findings) → given (a.routine_argument s x found) ≡ routine_given s (p.name_alone w x)
  unfolding a.routine_argument
  routine s w events x found =
      subst (λ o. given (a.routine_at s x (a.place_in_argument x) found) ≡ routine_given s (p.name_by w o)) (argument_place L s w events x)
      (routine_at s w x (a.place_in_argument x) found)

  index_if : (b : Bool) (key : List ℕ) (k : ℕ) → (if b then Some (first_index T key) else None) ≡ Some k → k ≡ first_index T key
  index_if true key k e = sym (same_Some (first_index T key) k e)
  index_if false key k e = absurd (none-some k e)

  pub index_of : (key : List ℕ) (f : Option LibraryFunction) (d : Option Declared) (k : ℕ) → object_number f d key ≡ Some k → k ≡ first_index T key
  index_of key (Some f) d k e = absurd (none-some k e)
  index_of key None None k e = absurd (none-some k e)
  index_of key None (Some (Declared.OfObject words pointer d)) k e = index_if (is_thread words pointer d) key k e
  index_of key None (Some (Declared.OfFunction f)) k e = absurd (none-some k e)
  index_of key None (Some (Declared.OfParameter v)) k e = absurd (none-some k e)
  index_of key None (Some (Declared.OfVariable words d)) k e = absurd (none-some k e)

  -- ---- what names stand for

  abbrev Numbers : ℕ → Option ℕ → Type 0
  Numbers m None = m ≡ cap
  Numbers m (Some k) = (m ≡ k) × (k < length T)

  module _ (few : length T < cap) where
    number_is : (m k : ℕ) → m ≡ place_in_tree k → k < length T → m ≡ k
    number_is m k e lt = omega arith

    one_object : (o : Object) (key : List ℕ) (t u : Bool) → same_kind Thread o.kind ≡ t → t ≡ u → Num (Some (meaning.Object o)) key →
        Numbers (number_by (if t then Some o else None)) (if u then Some (first_index T key) else None)
    one_object o key true true e same num = let h = num o refl e in (number_is o.number (first_index T key) h.0 h.1, h.1)
    one_object o key false false e same num = refl
    one_object o key true false e same num = absurd (false≢true (sym same))
    one_object o key false true e same num = absurd (false≢true same)

    other_object : (key : List ℕ) (u : Bool) → false ≡ u → Numbers cap (if u then Some (first_index T key) else None)
    other_object key false e = refl
    other_object key true e = absurd (false≢true e)

    usual : (m : Meaning) → IsUsual m → a.object_of Thread (known.Declared m) ≡ None
    usual (meaning.Variable v) h = refl
    usual meaning.Unusable h = refl
    usual (meaning.Object o) h = absurd h
    usual meaning.Argument h = absurd h
    usual (meaning.Function n) h = absurd h

    parameter : (b : Bool) (m : Meaning) → IsParameter b m → a.object_of Thread (known.Declared m) ≡ None
    parameter true m h = ap (λ z. a.object_of Thread (known.Declared z)) h
    parameter false m h = usual m h

    by_declared : (s : Scope) (d : Declared) (m : Meaning) (key : List ℕ) → MeansIn D s.headers d m → Num (Some m) key →
        Numbers (number_by (a.object_of Thread (known.Declared m))) (object_number None (Some d) key)
    by_declared s (Declared.OfFunction f) (meaning.Function k) key means num = refl
    by_declared s (Declared.OfFunction f) (meaning.Variable v) key means num = absurd means
    by_declared s (Declared.OfFunction f) (meaning.Object o) key means num = absurd means
    by_declared s (Declared.OfFunction f) meaning.Argument key means num = absurd means
    by_declared s (Declared.OfFunction f) meaning.Unusable key means num = absurd means
    by_declared s (Declared.OfParameter v) m key means num = ap number_by (parameter v.is_pointer m means.0)
    by_declared s (Declared.OfVariable words d) m key means num = ap number_by (usual m means.0)
    by_declared s (Declared.OfObject words pointer d) (meaning.Object o) key means num =
        one_object o key (same_kind Thread o.kind) (is_thread words pointer d) refl means.1 num
    by_declared s (Declared.OfObject words pointer d) (meaning.Variable v) key means num = other_object key (is_thread words pointer d) means.1
    by_declared s (Declared.OfObject words pointer d) meaning.Unusable key means num = other_object key (is_thread words pointer d) means.1
    by_declared s (Declared.OfObject words pointer d) meaning.Argument key means num = absurd means.0
    by_declared s (Declared.OfObject words pointer d) (meaning.Function k) key means num = absurd means.0

    seen_number : (s : Scope) (w : Where) (name : Name) → Sees D s w name.bytes → Numbered s →
        Numbers (number_by (a.object_of Thread (look_up s name.bytes))) (thread_number w name)
    seen_number s w name (Sees.OfLibrary f named looks) h =
        subst (λ z. Numbers (number_by (a.object_of Thread z)) (thread_number w name)) (sym looks)
        (subst (λ o. Numbers cap (object_number o (declaration_in w.scopes name.bytes) name.bytes)) (sym named) refl)
    seen_number s w name (Sees.Nothing own none looks) h =
        subst (λ z. Numbers (number_by (a.object_of Thread z)) (thread_number w name)) (sym looks)
        (subst (λ o. Numbers cap (object_number o (declaration_in w.scopes name.bytes) name.bytes)) (sym own)
        (subst (λ d. Numbers cap (object_number None d name.bytes)) (sym none) refl))
    seen_number s w name (Sees.Something own d m some looks means) h =
        let here = by_declared s d m name.bytes means (num_seen s name.bytes m h looks) in
        subst (λ z. Numbers (number_by (a.object_of Thread z)) (thread_number w name)) (sym looks)
        (subst (λ o. Numbers (number_by (a.object_of Thread (known.Declared m))) (object_number o (declaration_in w.scopes name.bytes) name.bytes)) (sym own)
        (subst (λ d. Numbers (number_by (a.object_of Thread (known.Declared m))) (object_number None d name.bytes)) (sym some) here))

    -- routines

    abbrev numbered_at : ℕ → Option ℕ → Option (ℕ × ℕ)
    numbered_at at o = option_map (λ (number : ℕ). (number, at)) o

    abbrev IsNoFunction : Meaning → Type 0
    IsNoFunction (meaning.Function k) = ⊥
    IsNoFunction other = Unit {0}

    no_header : (s : Scope) (m : Meaning) (at : ℕ) → IsNoFunction m → routine_by (a.header_of s (known.Declared m)) at ≡ None
    no_header s (meaning.Function k) at h = absurd h
    no_header s (meaning.Variable v) at h = refl
    no_header s (meaning.Object o) at h = refl
    no_header s meaning.Argument at h = refl
    no_header s meaning.Unusable at h = refl

    no_usual_header : (m : Meaning) → IsUsual m → IsNoFunction m
    no_usual_header (meaning.Variable v) h = tt
    no_usual_header meaning.Unusable h = tt
    no_usual_header (meaning.Object o) h = tt
    no_usual_header meaning.Argument h = tt
    no_usual_header (meaning.Function k) h = h

    no_parameter_header : (b : Bool) (m : Meaning) → IsParameter b m → IsNoFunction m
    no_parameter_header true m h = subst IsNoFunction (sym h) tt
    no_parameter_header false m h = no_usual_header m h

    routine_declared : (s : Scope) (d : Declared) (m : Meaning) (at : ℕ) → MeansIn D s.headers d m →
        routine_by (a.header_of s (known.Declared m)) at ≡ numbered_at at (definition_number None (Some d))
    routine_declared s (Declared.OfFunction f) (meaning.Function k) at means = ap (λ h. routine_by h at) means
    routine_declared s (Declared.OfFunction f) (meaning.Variable v) at means = absurd means
    routine_declared s (Declared.OfFunction f) (meaning.Object o) at means = absurd means
    routine_declared s (Declared.OfFunction f) meaning.Argument at means = absurd means
    routine_declared s (Declared.OfFunction f) meaning.Unusable at means = absurd means
    routine_declared s (Declared.OfParameter v) m at means = no_header s m at (no_parameter_header v.is_pointer m means.0)
    routine_declared s (Declared.OfVariable words d) m at means = no_header s m at (no_usual_header m means.0)
    routine_declared s (Declared.OfObject words pointer d) (meaning.Object o) at means = refl
    routine_declared s (Declared.OfObject words pointer d) (meaning.Variable v) at means = refl
    routine_declared s (Declared.OfObject words pointer d) meaning.Unusable at means = refl
    routine_declared s (Declared.OfObject words pointer d) meaning.Argument at means = absurd means.0
    routine_declared s (Declared.OfObject words pointer d) (meaning.Function k) at means = absurd means.0

    seen_routine : (s : Scope) (w : Where) (name : Name) → Sees D s w name.bytes →
        routine_by (a.header_of s (look_up s name.bytes)) name.offset ≡ numbered_at name.offset (routine_number w name)
    seen_routine s w name (Sees.OfLibrary f named looks) =
        ap (λ z. routine_by (a.header_of s z) name.offset) looks
        ∙ sym (ap (λ o. numbered_at name.offset (definition_number o (declaration_in w.scopes name.bytes))) named)
    seen_routine s w name (Sees.Nothing own none looks) =
        ap (λ z. routine_by (a.header_of s z) name.offset) looks
        ∙ sym (ap (λ o. numbered_at name.offset (definition_number o (declaration_in w.scopes name.bytes))) own
        ∙ ap (λ d. numbered_at name.offset (definition_number None d)) none)
    seen_routine s w name (Sees.Something own d m some looks means) =
        ap (λ z. routine_by (a.header_of s z) name.offset) looks ∙ routine_declared s d m name.offset means
        ∙ sym (ap (λ o. numbered_at name.offset (definition_number o (declaration_in w.scopes name.bytes))) own
        ∙ ap (λ d. numbered_at name.offset (definition_number None d)) some)

    -- ---- a create

    good_then_is : {A B : Type 0} (f : Finds A) (g : A → Finds B) (ps qs : Parts) (Is : A → Type 0) → Good L f ps → ((found : Findings) → Is (given (f found))) →
        ((x : A) → Is x → Good L (g x) qs) → Good L (f >>= g) (ps ++ qs)
    good_then_is {A} {B} f g ps qs Is h is k = record {
      writes = λ found.
          subst (λ (o : Outcome Findings B). Writes L found (left o) (ps ++ qs)) (sym (turn (f found) g))
          (writes_both L ps qs (h.writes found) ((k (given (f found)) (is found)).writes (left (f found))));
    }

    one_more : (xs : List Creation) (x : Creation) (b : Bool) → nat_eq x.thread cap ≡ b → real (xs ++ x ∷ []) ≡ real xs ++ (real_one b x ++ [])
    one_more xs x b e = real_both xs (x ∷ []) ∙ ap (λ t. real xs ++ (real_one t x ++ [])) e

    -- a misused object
    phantom : (t r at : ℕ) → t ≡ cap → Good L (creates t r at) []
    phantom t r at e = record {
      writes = λ found. record {
        from = λ part h. absurd h;
        keeps = λ part h. h;
        finds = λ part h. absurd h;
        order = one_more found.creations (creation t r at) true (ap (λ k. nat_eq k cap) e ∙ eq-eqb cap cap refl);
      };
    }

    bounded_part : (part x : Part) → IsBounded part → Entered L (part ∷ []) x → IsBounded x
    bounded_part part x h (inl k) = subst IsBounded k.0 h
    bounded_part part x h (inr k) = absurd k

    real_create : (w : Where) (thread name : Name) (t r : ℕ) → thread_number w thread ≡ Some t → routine_number w name ≡ Some r → t < length T → first_index T thread.bytes < length T →
        Good L (creates t r name.offset) (Part.Creation w thread name ∷ [])
    real_create w thread name t r e f lt below = record {
      writes = λ found. record {
        from = λ part h. absurd h;
        keeps = λ part h. h;
        finds = λ part h. bounded_part (Part.Creation w thread name) part below h;
        order =
            one_more found.creations (creation t r name.offset) false (less_apart t cap (omega arith))
            ∙ sym (ap (λ o. real found.creations ++ (of_option (made o (routine_number w name) name.offset) ++ [])) e
            ∙ ap (λ o. real found.creations ++ (of_option (made (Some t) o name.offset) ++ [])) f);
      };
    }

    noted : {ps : Parts} (at : ℕ) (o : ObjectPlace) (v : Cut Expression) (r : ℕ × ℕ) → Good L (creates (object_of o) r.0 r.1) ps → Good L (k.created at o v (Some r)) ps
    unfolding k.created
    noted {ps = ps} at o v r h =
        let made = k.thread_call at v.cuts (ThreadCall.Create o r.0 v.rest) in
        good_before L (creates (object_of o) r.0 r.1) (λ _. pure made) ps h (λ _. good_pure L made)

    unnoted : (at : ℕ) (o : ObjectPlace) (v : Cut Expression) (r : Option (ℕ × ℕ)) → r ≡ None → Good L (k.created at o v r) []
    unfolding k.created
    unnoted at o v None e = good_pure L Statement.Empty
    unnoted at o v (Some r) e = absurd (none-some r (sym e))

    phantom_create : (at : ℕ) (o : ObjectPlace) (v : Cut Expression) (r : Option (ℕ × ℕ)) → object_of o ≡ cap → Good L (k.created at o v r) []
    phantom_create at o v None e = unnoted at o v None refl
    phantom_create at o v (Some r) e = noted at o v r (phantom (object_of o) r.0 r.1 e)

    no_made : (t : Option ℕ) (at : ℕ) → Has (made t None at) → ⊥
    no_made None at h = h
    no_made (Some t) at h = h

    both_named : (at : ℕ) (o : ObjectPlace) (v : Cut Expression) (r : Option (ℕ × ℕ)) (w : Where) (thread name : Name) (t m : Option ℕ) → thread_number w thread ≡ t →
        routine_number w name ≡ m → Numbers (object_of o) t → (Has (made t m name.offset) → first_index T thread.bytes < length T) → r ≡ numbered_at name.offset m →
        Good L (k.created at o v r) (Part.Creation w thread name ∷ [])
    both_named at o v r w thread name t None e f numbers below given_is =
        quiet L (Part.Creation w thread name)
        (λ x h. no_made t name.offset (subst (λ m. Has (made t m name.offset)) f (subst (λ t. Has (made t (routine_number w name) name.offset)) e h.1))) (unnoted at o v r given_is)
    both_named at o v r w thread name None (Some m) e f numbers below given_is =
        quiet L (Part.Creation w thread name) (λ x h. subst (λ t. Has (made t (routine_number w name) name.offset)) e h.1) (phantom_create at o v r numbers)
    both_named at o v r w thread name (Some t) (Some m) e f numbers below given_is =
        subst (λ r. Good L (k.created at o v r) (Part.Creation w thread name ∷ [])) (sym given_is)
        (noted at o v (m, name.offset)
        (subst (λ j. Good L (creates j m name.offset) (Part.Creation w thread name ∷ [])) (sym numbers.0) (real_create w thread name t m e f numbers.1 (below tt))))

    below_by : (w : Where) (thread : Name) (j : ℕ) (t : Option ℕ) → thread_number w thread ≡ t → Numbers j t → (m : Option ℕ) (at : ℕ) → Has (made t m at) →
        first_index T thread.bytes < length T
    below_by w thread j None e numbers m at h = absurd h
    below_by w thread j (Some t) e numbers m at h =
        let lt : t < length T = numbers.1 in
        let same : t ≡ first_index T thread.bytes = index_of thread.bytes (function_named thread.bytes) (declaration_in w.scopes thread.bytes) t e in
        omega arith

    created : (s : Scope) (w : Where) → Stands s w → (at : ℕ) (o : ObjectPlace) (v : Cut Expression) (r : Option (ℕ × ℕ)) (thread name : Option Name) →
        object_of o ≡ address_number s thread → r ≡ routine_given s name → Good L (k.created at o v r) (p.creation_by w thread name)
    created s w stands at o v r (Some thread) (Some name) object_is routine_is =
        let numbers = seen_number s w thread (sees D s w thread.bytes stands.names) stands.numbers in
        let here = subst (λ j. Numbers j (thread_number w thread)) (sym object_is) numbers in
        both_named at o v r w thread name (thread_number w thread) (routine_number w name) refl refl here
        (λ h. below_by w thread (object_of o) (thread_number w thread) refl here (routine_number w name) name.offset h)
        (routine_is ∙ seen_routine s w name (sees D s w name.bytes stands.names))
    created s w stands at o v r (Some thread) None object_is routine_is = unnoted at o v r routine_is
    created s w stands at o v r None name object_is routine_is = phantom_create at o v r object_is

    pub creates_are : (s : Scope) (w : Where) → Events L s w → Stands s w → Creates L s w
    unfolding k.create
    creates_are s w events stands at thread attributes routine_tree value =
        let t = a.address_argument s Thread thread at (k.no_cuts s) in
        let n = a.null_argument s attributes in
        let r = a.routine_argument s routine_tree in
        let v = λ (o : Cut ObjectPlace). a.pointer_argument s value at o.cuts in
        let ns = p.argument_parts w attributes in
        let rs = p.routine_by w (p.name_alone w routine_tree) ++ p.argument_parts w routine_tree in
        let vs = p.argument_parts w value in
        let who = p.named_object w (out-Argument thread) in
        let what = p.name_alone w routine_tree in
        let cs = p.creation_by w who what in
        good_then_is t (λ o. n >> (r >>= (λ f. v o >>= (λ x. k.created at o.rest x f)))) (p.object_parts w thread) (ns ++ (rs ++ (vs ++ cs)))
        (λ o. object_of o.rest ≡ address_number s who)
        (address_argument L s w events Thread thread at (k.no_cuts s)) (λ found. address s w thread at (k.no_cuts s) found)
        (λ o object_is. good_then L n (λ _. r >>= (λ f. v o >>= (λ x. k.created at o.rest x f))) ns (rs ++ (vs ++ cs)) (null_argument L s w events attributes)
        (λ _. good_then_is r (λ f. v o >>= (λ x. k.created at o.rest x f)) rs (vs ++ cs) (λ f. f ≡ routine_given s what) (routine_argument L s w events routine_tree)
        (λ found. routine s w events routine_tree found)
        (λ f routine_is. good_then L (v o) (λ x. k.created at o.rest x f) vs cs (pointer_argument L s w events value at o.cuts)
        (λ x. created s w stands at o.rest x f who what object_is routine_is))))
