-- Second routines: the creates of a text by the relation, and by what is noted of them.
use Rattle.std.proofs.Common.{◌≡◌, refl, sym, subst, ap, ◌∙◌, inl, inr, ℕ, zero, suc, ◌<◌, ◌≤◌, Bool, true, false, List, [], ◌∷◌, ◌++◌, length, Option, Some, None, arith}
use Rattle.std.specs.Prelude.{◌≢◌, ◌⊎◌, ◌&&◌, fold, not, is_some, nat_eq, nat_le, if◌then◌else◌, slice_get}
use Rattle.std.specs.List.{flat_map}
use Rattle.std.proofs.lemmas.Option.{same_Some, none-some, slice_get_within, cond_some}
use Rattle.std.proofs.lemmas.List.{length-append}
use Rattle.std.proofs.lemmas.Bool.{ne_eqb, eq-eqb, eqb-true, false≢true, leb-true, le-leb, and_parts, and_from}
use Rattle.lists.proofs.Places.{get_front, get_middle}
use Rattle.c_tree.specs.declared.expression.Name.{Name}
use Rattle.c_tree.specs.declared.expression.Specifiers.{Specifiers}
use Rattle.c_tree.specs.declared.declaration.Function.{Function}
use Rattle.c_tree.specs.declared.declaration.GlobalDeclarator.{GlobalDeclarator}
use Rattle.c_tree.specs.declared.declaration.ExternalDeclaration.{ExternalDeclaration}
use Rattle.c_tree.specs.declared.declaration.ExternalDeclaration.TheVariants as external
use Rattle.c_tree.specs.declared.declaration.TranslationUnit.{TranslationUnit}
use Rattle.c_rules.specs.declared.fault.Rule.TheVariants as rule
use Rattle.c_rules.specs.declared.fault.Fault.{Fault}
use Rattle.c_rules.specs.declared.findings.Creation.{Creation}
use Rattle.c_rules.specs.declared.library.LibraryFunction.{LibraryFunction}
use Rattle.c_rules.specs.declared.specifiers.BaseType.{BaseType}
use Rattle.c_rules.specs.declared.specifiers.BaseType.TheVariants as base
use Rattle.c_rules.specs.Levels.{named_in}
use Rattle.c_rules.specs.Library.{function_named}
use Rattle.c_rules.specs.Specifiers.{base_of}
use Rattle.c_resolution.specs.Resolving.{behind}
use Rattle.c_resolution.specs.Routines.{Given, next_given}
use Rattle.c_broken_rules.specs.Sight.{Declared, Names, Where, declaration_in}
use Rattle.c_broken_rules.specs.Parts.{Part, Parts, parts, names_of}
use Rattle.c_broken_rules.specs.Breaks.{Breaks, IsThreadObject, Creates, definitions, definition_in, definition_by}
use Rattle.c_broken_rules.specs.Laws.{IsOfFew}
use Rattle.c_broken_rules.proofs.Orders.{IsReached}
use Rattle.c_broken_rules.proofs.Ledgers.{Entered}
use Rattle.c_broken_rules.proofs.Walks.{is_thread, is_thread_base}
use Rattle.c_broken_rules.proofs.Defined.{noted_defined, defined_noted}
use Rattle.c_broken_rules.specs.ThreadLaws.{fault_at, fault_of_creates, IsOfFewNames}
use Rattle.c_broken_rules.proofs.ThreadNumbers.{is_thread_declared, thread_by, threads_of, first_index, one_name}
use Rattle.c_broken_rules.proofs.Creations as c
use Rattle.c_broken_rules.proofs.Creations.{cap, real, Has, of_option, creation, made, create_ledger}
use Rattle.c_broken_rules.proofs.Creations.{sites, site_of, object_number, thread_number, definition_number, routine_number, IsBounded, index_of}
use Rattle.c_broken_rules.proofs.CreateScope as s
use Rattle.c_broken_rules.proofs.CreateScope.{all_names, text_threads, text_creates, text_tables}
use Rattle.c_broken_rules.proofs.Givings.{real_given, first_in, free_at, AllBelow, Second, faults_from, faults_reached}

-- ---- how many names there are

by_body : (f : Function) (b : Bool) → length (definition_by f b) ≤ 1
by_body f true = omega arith
by_body f false = omega arith

one_definition : (d : ExternalDeclaration) → length (definition_in d) ≤ length (names_of d)
one_definition (external.Function f) = by_body f (is_some f.body)
one_definition (external.Objects o) = omega arith

fewer_definitions : (list : List ExternalDeclaration) → length (definitions list) ≤ length (flat_map names_of list)
fewer_definitions [] = omega arith
fewer_definitions (d ∷ list) =
    omega (arith, one_definition d, fewer_definitions list, length-append (definition_in d) (definitions list), length-append (names_of d) (flat_map names_of list))

by_thread : (b : Bool) (key : List ℕ) → length (thread_by b key) ≤ 1
by_thread true key = omega arith
by_thread false key = omega arith

fewer_threads : (names : Names) → length (threads_of names) ≤ length names
fewer_threads [] = omega arith
fewer_threads (d ∷ names) =
    omega (arith, by_thread (is_thread_declared d.1) d.0, fewer_threads names, length-append (thread_by (is_thread_declared d.1) d.0) (threads_of names))

-- ---- thread objects

two : (b t : Bool) → (not b && t) ≡ true → (b ≡ false) × (t ≡ true)
two true t h = absurd (false≢true h)
two false t h = (refl, h)

two_back : (b t : Bool) → b ≡ false → t ≡ true → (not b && t) ≡ true
two_back true t h k = absurd (false≢true (sym h))
two_back false t h k = k

thread_base : (b : BaseType) → is_thread_base b ≡ true → b ≡ base.Thread
thread_base base.Thread h = refl
thread_base other h = absurd (false≢true h)

is_object : (words : Specifiers) (pointer : Bool) (d : GlobalDeclarator) → is_thread words pointer d ≡ true → IsThreadObject (Declared.OfObject words pointer d)
is_object words pointer d h =
    let t = two pointer (is_thread_base (base_of words.words) && nat_le (length d.lengths) 1) h in
    let u = and_parts (is_thread_base (base_of words.words)) (nat_le (length d.lengths) 1) t.1 in
    (t.0, thread_base (base_of words.words) u.0, leb-true (length d.lengths) 1 u.1)

object_is_thread : (words : Specifiers) (pointer : Bool) (d : GlobalDeclarator) → IsThreadObject (Declared.OfObject words pointer d) → is_thread words pointer d ≡ true
object_is_thread words pointer d object =
    two_back pointer (is_thread_base (base_of words.words) && nat_le (length d.lengths) 1) object.0
    (and_from (is_thread_base (base_of words.words)) (nat_le (length d.lengths) 1) (ap is_thread_base object.1) (le-leb (length d.lengths) 1 object.2))

-- what the parts of a create are
made_is : (t m : Option ℕ) (at : ℕ) (x : Creation) → made t m at ≡ Some x → (t ≡ Some x.thread) × (m ≡ Some x.routine) × (at ≡ x.offset)
made_is None m at x e = absurd (none-some x e)
made_is (Some t) None at x e = absurd (none-some x e)
made_is (Some t) (Some m) at x e =
    let same = same_Some (creation t m at) x e in
    (ap (λ (z : Creation). Some z.thread) same, ap (λ (z : Creation). Some z.routine) same, ap (λ (z : Creation). z.offset) same)

module _ (D : List (List ℕ × ℕ)) (T : List (List ℕ)) where
  record IsObject (own : Option LibraryFunction) (declared : Option Declared) : Type 0 where
    pub own_is : own ≡ None
    pub d : Declared
    pub is : declared ≡ Some d
    pub object : IsThreadObject d

  object_is : (own : Option LibraryFunction) (declared : Option Declared) (key : List ℕ) (k : ℕ) → object_number D T own declared key ≡ Some k → IsObject own declared
  object_is (Some f) declared key k e = absurd (none-some k e)
  object_is None None key k e = absurd (none-some k e)
  object_is None (Some (Declared.OfObject words pointer d)) key k e =
      record { own_is = refl; d = Declared.OfObject words pointer d; is = refl; object = is_object words pointer d (cond_some (is_thread words pointer d) (first_index T key) k e).0 }
  object_is None (Some (Declared.OfFunction f)) key k e = absurd (none-some k e)
  object_is None (Some (Declared.OfParameter v)) key k e = absurd (none-some k e)
  object_is None (Some (Declared.OfVariable words d)) key k e = absurd (none-some k e)

  object_back : (own : Option LibraryFunction) (declared : Option Declared) (key : List ℕ) (d : Declared) → own ≡ None → declared ≡ Some d → IsThreadObject d →
      object_number D T own declared key ≡ Some (first_index T key)
  object_back own declared key (Declared.OfObject words pointer d) own_is is object =
      ap (λ o. object_number D T o declared key) own_is ∙ ap (λ o. object_number D T None o key) is
      ∙ ap (λ b. if b then Some (first_index T key) else None)
      (object_is_thread words pointer d object)
  object_back own declared key (Declared.OfFunction f) own_is is object = absurd object
  object_back own declared key (Declared.OfParameter v) own_is is object = absurd object
  object_back own declared key (Declared.OfVariable words d) own_is is object = absurd object

  record IsRoutine (own : Option LibraryFunction) (declared : Option Declared) (m : ℕ) : Type 0 where
    pub own_is : own ≡ None
    pub f : Function
    pub is : declared ≡ Some (Declared.OfFunction f)
    pub number : named_in D f.name.bytes ≡ Some m

  routine_is : (own : Option LibraryFunction) (declared : Option Declared) (m : ℕ) → definition_number D T own declared ≡ Some m → IsRoutine own declared m
  routine_is (Some f) declared m e = absurd (none-some m e)
  routine_is None None m e = absurd (none-some m e)
  routine_is None (Some (Declared.OfFunction f)) m e = record { own_is = refl; f = f; is = refl; number = e }
  routine_is None (Some (Declared.OfObject words pointer d)) m e = absurd (none-some m e)
  routine_is None (Some (Declared.OfParameter v)) m e = absurd (none-some m e)
  routine_is None (Some (Declared.OfVariable words d)) m e = absurd (none-some m e)

  -- ---- sites and their parts

  record IsSplit (ps : Parts) (before : List Creation) (x : Creation) : Type 0 where
    pub front : Parts
    pub part : Part
    pub rest : Parts
    pub text : ps ≡ front ++ part ∷ rest
    pub site : site_of D T part ≡ Some x
    pub sites_are : sites D T front ≡ before

  same_head : (x z : Creation) (xs zs : List Creation) → x ∷ xs ≡ z ∷ zs → (x ≡ z) × (xs ≡ zs)
  same_head x z xs zs e = (cc, cc)

  no_head : (x : Creation) (xs : List Creation) → [] ≡ x ∷ xs → ⊥
  no_head x xs e = cc

  split_by : (part : Part) (ps : Parts) (o : Option Creation) (before : List Creation) (x : Creation) (rest : List Creation) → site_of D T part ≡ o →
      of_option o ++ sites D T ps ≡ before ++ x ∷ rest →
      ((before : List Creation) → sites D T ps ≡ before ++ x ∷ rest → IsSplit ps before x) → IsSplit (part ∷ ps) before x
  split_by part ps None before x rest e text later =
      let h = later before text in
      record {
        front = part ∷ h.front;
        part = h.part;
        rest = h.rest;
        text = ap (λ l. part ∷ l) h.text;
        site = h.site;
        sites_are = ap (λ o. of_option o ++ sites D T h.front) e ∙ h.sites_are;
      }
  split_by part ps (Some z) [] x rest e text later =
      record { front = []; part = part; rest = ps; text = refl; site = e ∙ ap (λ (v : Creation). Some v) (same_head z x (sites D T ps) rest text).0; sites_are = refl }
  split_by part ps (Some z) (y ∷ before) x rest e text later =
      let same = same_head z y (sites D T ps) (before ++ x ∷ rest) text in
      let h = later before same.1 in
      record {
        front = part ∷ h.front;
        part = h.part;
        rest = h.rest;
        text = ap (λ l. part ∷ l) h.text;
        site = h.site;
        sites_are = ap (λ o. of_option o ++ sites D T h.front) e ∙ ap (λ l. z ∷ l) h.sites_are ∙ ap (λ (v : Creation). v ∷ before) same.0;
      }

  no_split : (before : List Creation) (x : Creation) (rest : List Creation) → [] ≡ before ++ x ∷ rest → ⊥
  no_split [] x rest e = no_head x rest e
  no_split (z ∷ before) x rest e = no_head z (before ++ x ∷ rest) e

  split : (ps : Parts) (before : List Creation) (x : Creation) (rest : List Creation) → sites D T ps ≡ before ++ x ∷ rest → IsSplit ps before x
  split [] before x rest e = absurd (no_split before x rest e)
  split (part ∷ ps) before x rest e = split_by part ps (site_of D T part) before x rest refl e (λ b k. split ps b x rest k)

  -- the first create of an object
  record IsFirst (ps : Parts) (n m : ℕ) : Type 0 where
    pub i : ℕ
    pub part : Part
    pub x : Creation
    pub at : slice_get ps i ≡ Some part
    pub site : site_of D T part ≡ Some x
    pub thread : x.thread ≡ n
    pub routine : x.routine ≡ m
    pub first : (j : ℕ) (q : Part) (z : Creation) → j < i → slice_get ps j ≡ Some q → site_of D T q ≡ Some z → z.thread ≡ n → ⊥

  below_later : (part : Part) (ps : Parts) (n i : ℕ) → ((z : Creation) → site_of D T part ≡ Some z → z.thread ≡ n → ⊥) →
      ((j : ℕ) (q : Part) (z : Creation) → j < i → slice_get ps j ≡ Some q → site_of D T q ≡ Some z → z.thread ≡ n → ⊥) →
      (j : ℕ) (q : Part) (z : Creation) → j < suc i → slice_get (part ∷ ps) j ≡ Some q → site_of D T q ≡ Some z → z.thread ≡ n → ⊥
  below_later part ps n i here later zero q z lt at site e = here z (ap (site_of D T) (same_Some part q at) ∙ site) e
  below_later part ps n i here later (suc j) q z lt at site e = later j q z (omega arith) at site e

  one_later : (part : Part) (ps : Parts) (n m : ℕ) → ((z : Creation) → site_of D T part ≡ Some z → z.thread ≡ n → ⊥) → IsFirst ps n m → IsFirst (part ∷ ps) n m
  one_later part ps n m here h = record {
    i = suc h.i;
    part = h.part;
    x = h.x;
    at = h.at;
    site = h.site;
    thread = h.thread;
    routine = h.routine;
    first = below_later part ps n h.i here h.first;
  }

  other_thread : (o : Option Creation) (x : Creation) (n : ℕ) → o ≡ Some x → nat_eq x.thread n ≡ false → (z : Creation) → o ≡ Some z → z.thread ≡ n → ⊥
  other_thread o x n e out z k same =
      false≢true (sym out ∙ ap (λ (v : Creation). nat_eq v.thread n) (same_Some x z (sym e ∙ k)) ∙ ap (λ t. nat_eq t n) same ∙ eq-eqb n n refl)

  first_if : (part : Part) (ps : Parts) (x : Creation) (n m : ℕ) (b : Bool) → nat_eq x.thread n ≡ b → site_of D T part ≡ Some x →
      (if b then Some x.routine else first_in (sites D T ps) n) ≡ Some m → (first_in (sites D T ps) n ≡ Some m → IsFirst ps n m) → IsFirst (part ∷ ps) n m
  first_if part ps x n m true t e h later = record {
    i = 0;
    part = part;
    x = x;
    at = refl;
    site = e;
    thread = eqb-true x.thread n t;
    routine = same_Some x.routine m h;
    first = λ j q z lt at site same. absurd (omega arith);
  }
  first_if part ps x n m false t e h later = one_later part ps n m (λ z k same. other_thread (site_of D T part) x n e t z k same) (later h)

  first_by : (part : Part) (ps : Parts) (o : Option Creation) (n m : ℕ) → site_of D T part ≡ o → first_in (of_option o ++ sites D T ps) n ≡ Some m →
      (first_in (sites D T ps) n ≡ Some m → IsFirst ps n m) → IsFirst (part ∷ ps) n m
  first_by part ps None n m e h later = one_later part ps n m (λ z k same. none-some z (sym e ∙ k)) (later h)
  first_by part ps (Some x) n m e h later = first_if part ps x n m (nat_eq x.thread n) refl e h later

  first_part : (ps : Parts) (n m : ℕ) → first_in (sites D T ps) n ≡ Some m → IsFirst ps n m
  first_part [] n m h = absurd (none-some m h)
  first_part (part ∷ ps) n m h = first_by part ps (site_of D T part) n m refl h (λ k. first_part ps n m k)

  -- and back: a create before which none is of the object
  skipped : (o : Option Creation) (cs : List Creation) (x : Creation) → ((z : Creation) → o ≡ Some z → z.thread ≡ x.thread → ⊥) →
      first_in (of_option o ++ cs) x.thread ≡ first_in cs x.thread
  skipped None cs x out = refl
  skipped (Some z) cs x out = ap (λ b. if b then Some z.routine else first_in cs x.thread) (ne_eqb z.thread x.thread (λ e. out z refl e))

  first_back : (ps : Parts) (i : ℕ) (part : Part) (x : Creation) → slice_get ps i ≡ Some part → site_of D T part ≡ Some x →
      ((j : ℕ) (q : Part) (z : Creation) → j < i → slice_get ps j ≡ Some q → site_of D T q ≡ Some z → z.thread ≡ x.thread → ⊥) →
      first_in (sites D T ps) x.thread ≡ Some x.routine
  first_back [] i part x at site none = absurd (none-some part at)
  first_back (q ∷ ps) zero part x at site none =
      ap (λ o. first_in (of_option o ++ sites D T ps) x.thread) (ap (site_of D T) (same_Some q part at) ∙ site)
      ∙ ap (λ b. if b then Some x.routine else first_in (sites D T ps) x.thread) (eq-eqb x.thread x.thread refl)
  first_back (q ∷ ps) (suc i) part x at site none =
      skipped (site_of D T q) (sites D T ps) x (λ z k same. none 0 q z (omega arith) refl k same)
      ∙ first_back ps i part x at site (λ j v z lt k s same. none (suc j) v z (omega arith) k s same)

  -- ---- all sites are of objects of the text

  index_below : (part : Part) (x : Creation) → IsBounded D T part → site_of D T part ≡ Some x → x.thread < length T
  index_below (Part.Creation w thread name) x bounded e =
      let t = made_is (thread_number D T w thread) (routine_number D T w name) name.offset x e in
      let same = index_of D T thread.bytes (function_named thread.bytes) (declaration_in w.scopes thread.bytes) x.thread t.0 in
      subst (λ n. n < length T) (sym same) bounded
  index_below (Part.Use w name) x bounded e = absurd (none-some x e)
  index_below (Part.Read w name) x bounded e = absurd (none-some x e)
  index_below (Part.Call w name) x bounded e = absurd (none-some x e)
  index_below (Part.Routine w name) x bounded e = absurd (none-some x e)
  index_below (Part.Constant value at) x bounded e = absurd (none-some x e)
  index_below (Part.Length v) x bounded e = absurd (none-some x e)
  index_below (Part.Initial v) x bounded e = absurd (none-some x e)
  index_below (Part.Listed size index v) x bounded e = absurd (none-some x e)
  index_below (Part.Label w over before l) x bounded e = absurd (none-some x e)
  index_below (Part.Print name arguments) x bounded e = absurd (none-some x e)
  index_below (Part.Declares w name d) x bounded e = absurd (none-some x e)
  index_below (Part.Local words at) x bounded e = absurd (none-some x e)

  has_some : (o : Option Creation) (x : Creation) → o ≡ Some x → Has o
  has_some None x e = absurd (none-some x e)
  has_some (Some z) x e = tt

  below_by : (part : Part) (o : Option Creation) (cs : List Creation) → site_of D T part ≡ o → (Has (site_of D T part) → IsBounded D T part) → AllBelow (length T) cs →
      AllBelow (length T) (of_option o ++ cs)
  below_by part None cs e bounded h = h
  below_by part (Some x) cs e bounded h = (index_below part x (bounded (has_some (site_of D T part) x e)) e, h)

  all_below : (ps : Parts) → ((x : Part) → Entered (create_ledger D T) ps x → IsBounded D T x) → AllBelow (length T) (sites D T ps)
  all_below [] h = tt
  all_below (part ∷ ps) h = below_by part (site_of D T part) (sites D T ps) refl (λ k. h part (inl (refl, k))) (all_below ps (λ x k. h x (inr k)))

-- ---- lists that are cut

back_front : {A : Type 0} (xs ys : List A) (i : ℕ) (x : A) → i < length xs → slice_get (xs ++ ys) i ≡ Some x → slice_get xs i ≡ Some x
back_front [] ys i x lt e = absurd (omega arith)
back_front (z ∷ xs) ys zero x lt e = e
back_front (z ∷ xs) ys (suc i) x lt e = back_front xs ys i x (omega arith) e

record IsCut {A : Type 0} (xs : List A) (j : ℕ) (x : A) : Type 0 where
  pub front : List A
  pub rest : List A
  pub text : xs ≡ front ++ x ∷ rest
  pub count : length front ≡ j

cut : {A : Type 0} (xs : List A) (j : ℕ) (x : A) → slice_get xs j ≡ Some x → IsCut xs j x
cut [] j x e = absurd (none-some x e)
cut (z ∷ xs) zero x e = record { front = []; rest = xs; text = ap (λ v. v ∷ xs) (same_Some z x e); count = refl }
cut (z ∷ xs) (suc j) x e =
    let h = cut xs j x e in
    record { front = z ∷ h.front; rest = h.rest; text = ap (λ l. z ∷ l) h.text; count = ap suc h.count }

-- ---- a text

module _ (tree : TranslationUnit) (few : IsOfFewNames tree) where
  few_threads : length (text_threads tree) < cap
  few_threads =
      let all : length (flat_map names_of tree.declarations) < 0xffff_ffff = few in
      let less : length (text_threads tree) ≤ length (flat_map names_of tree.declarations) = fewer_threads (all_names tree) in
      omega arith

  abbrev D : List (List ℕ × ℕ)
  D = s.D tree few_threads

  abbrev T : List (List ℕ)
  T = text_threads tree

  few_functions : IsOfFew tree
  few_functions =
      let all : length (flat_map names_of tree.declarations) < 0xffff_ffff = few in
      let less = fewer_definitions tree.declarations in
      omega arith

  record IsCreate (i : ℕ) (x : Creation) : Type 0 where
    pub object : List ℕ
    pub number : x.thread ≡ first_index T object
    pub creates : Creates tree i object x.routine x.offset

  -- what is noted is a create
  create_of : (i : ℕ) (w : Where) (thread name : Name) (x : Creation) → slice_get (parts tree) i ≡ Some (Part.Creation w thread name) →
      site_of D T (Part.Creation w thread name) ≡ Some x → IsCreate i x
  create_of i w thread name x at site =
      let t = made_is (thread_number D T w thread) (routine_number D T w name) name.offset x site in
      let o = object_is D T (function_named thread.bytes) (declaration_in w.scopes thread.bytes) thread.bytes x.thread t.0 in
      let f = routine_is D T (function_named name.bytes) (declaration_in w.scopes name.bytes) x.routine t.1 in
      record {
        object = thread.bytes;
        number = index_of D T thread.bytes (function_named thread.bytes) (declaration_in w.scopes thread.bytes) x.thread t.0;
        creates = record {
          w = w;
          thread = thread;
          name = name;
          stands = at;
          of = refl;
          d = o.d;
          means = record { declared = o.is; own = o.own_is };
          is_object = o.object;
          f = f.f;
          runs = record { declared = f.is; own = f.own_is };
          defined = noted_defined tree few_functions f.f.name.bytes x.routine f.number;
          here = t.2;
        };
      }

  create_at : (i : ℕ) (part : Part) (x : Creation) → slice_get (parts tree) i ≡ Some part → site_of D T part ≡ Some x → IsCreate i x
  create_at i (Part.Creation w thread name) x at site = create_of i w thread name x at site
  create_at i (Part.Use w name) x at site = absurd (none-some x site)
  create_at i (Part.Read w name) x at site = absurd (none-some x site)
  create_at i (Part.Call w name) x at site = absurd (none-some x site)
  create_at i (Part.Routine w name) x at site = absurd (none-some x site)
  create_at i (Part.Constant value place) x at site = absurd (none-some x site)
  create_at i (Part.Length v) x at site = absurd (none-some x site)
  create_at i (Part.Initial v) x at site = absurd (none-some x site)
  create_at i (Part.Listed size index v) x at site = absurd (none-some x site)
  create_at i (Part.Label w over before l) x at site = absurd (none-some x site)
  create_at i (Part.Print name arguments) x at site = absurd (none-some x site)
  create_at i (Part.Declares w name d) x at site = absurd (none-some x site)
  create_at i (Part.Local words place) x at site = absurd (none-some x site)

  -- and a create is noted
  noted : (i : ℕ) (object : List ℕ) (m at : ℕ) (k : Creates tree i object m at) → site_of D T (Part.Creation k.w k.thread k.name) ≡ Some (creation (first_index T object) m at)
  noted i object m at k =
      ap (λ t. made t (routine_number D T k.w k.name) k.name.offset)
      (object_back D T (function_named k.thread.bytes) (declaration_in k.w.scopes k.thread.bytes) k.thread.bytes k.d k.means.own k.means.declared k.is_object)
      ∙ ap (λ o. made (Some (first_index T k.thread.bytes)) o k.name.offset)
      (ap (λ o. definition_number D T o (declaration_in k.w.scopes k.name.bytes)) k.runs.own ∙ ap (λ d. definition_number D T None d) k.runs.declared
      ∙ defined_noted tree few_functions k.f.name.bytes m k.defined)
      ∙ ap (λ b. Some (creation (first_index T b) m k.name.offset)) k.of ∙ ap (λ o. Some (creation (first_index T object) m o)) k.here

  -- ---- what all creates show

  order_is : real (behind tree.declarations).found.creations ≡ sites D T (parts tree)
  order_is = (text_creates tree few_threads).order

  all_bounded : AllBelow (length T) (sites D T (parts tree))
  all_bounded = all_below D T (parts tree) (λ x h. (text_creates tree few_threads).finds x h)

  bounded_at : (x : Part) → Entered (create_ledger D T) (parts tree) x → IsBounded D T x
  bounded_at x h = (text_creates tree few_threads).finds x h

  abbrev start : Given
  start = ((behind tree.declarations).tables.threads, None)

  abbrev fold_of : List Creation → Given
  fold_of list = fold next_given start list

  threads_below : AllBelow (length (behind tree.declarations).tables.threads) (sites D T (parts tree))
  threads_below = subst (λ n. AllBelow n (sites D T (parts tree))) (sym (text_tables tree few_threads).count) all_bounded

  given_is : fault_of_creates tree ≡ (fold_of (sites D T (parts tree))).1
  given_is =
      let lt = subst (λ n. n < cap) (sym (text_tables tree few_threads).count) few_threads in
      ap (λ (g : Given). g.1) (real_given (behind tree.declarations).found.creations start lt) ∙ ap (λ l. (fold_of l).1) order_is

  entered_at : (ps : Parts) (i : ℕ) (part : Part) → slice_get ps i ≡ Some part → Has (site_of D T part) → Entered (create_ledger D T) ps part
  entered_at [] i part e h = absurd (none-some part e)
  entered_at (q ∷ ps) zero part e h =
      let same = same_Some q part e in
      inl (same, subst (λ v. Has (site_of D T v)) (sym same) h)
  entered_at (q ∷ ps) (suc i) part e h = inr (entered_at ps i part e h)

  below_length : (i : ℕ) (object : List ℕ) (m at : ℕ) (k : Creates tree i object m at) → first_index T object < length T
  below_length i object m at k =
      let part = Part.Creation k.w k.thread k.name in
      subst (λ b. first_index T b < length T) k.of
      (bounded_at part (entered_at (parts tree) i part k.stands (has_some D T (site_of D T part) (creation (first_index T object) m at) (noted i object m at k))))

  same_object : (i j : ℕ) (a b : List ℕ) (m q at there : ℕ) (k : Creates tree i a m at) (l : Creates tree j b q there) → first_index T a ≡ first_index T b → a ≡ b
  same_object i j a b m q at there k l e = one_name T a b (below_length i a m at k) (below_length j b q there l) e

  -- a create that is noted is of the object
  of_object : (i j : ℕ) (x : Creation) (object : List ℕ) (m at : ℕ) → IsCreate i x → Creates tree j object m at → x.thread ≡ first_index T object →
      Creates tree i object x.routine x.offset
  of_object i j x object m at h k e =
      subst (λ o. Creates tree i o x.routine x.offset) (same_object i j h.object object x.routine m x.offset at h.creates k (sym h.number ∙ e)) h.creates

  -- ---- soundness

  second_breaks : (f : Fault) → Second [] (sites D T (parts tree)) f → Breaks tree rule.Threads f.offset
  second_breaks f h =
      let cut_at = split D T (parts tree) h.before h.c h.rest h.text in
      let j = length cut_at.front in
      let here = subst (λ l. slice_get l j ≡ Some cut_at.part) (sym cut_at.text) (get_middle cut_at.front cut_at.rest cut_at.part) in
      let later = create_at j cut_at.part h.c here cut_at.site in
      let one = first_part D T cut_at.front h.c.thread h.m (ap (λ l. first_in l h.c.thread) cut_at.sites_are ∙ h.earlier) in
      let at_front = λ (i : ℕ) (q : Part) (e : slice_get cut_at.front i ≡ Some q).
      subst (λ l. slice_get l i ≡ Some q) (sym cut_at.text) (get_front cut_at.front (cut_at.part ∷ cut_at.rest) i q e) in
      let early = create_at one.i one.part one.x (at_front one.i one.part one.at) one.site in
      let lt = slice_get_within cut_at.front one.i one.part one.at in
      let first = of_object one.i j one.x later.object h.c.routine h.c.offset early later.creates (one.thread ∙ later.number) in
      subst (λ (z : Fault). Breaks tree rule.Threads z.offset) h.is
      (Breaks.SecondRoutine one.i j later.object one.x.routine h.c.routine one.x.offset h.c.offset first
      (λ k q place below creates.
      let part = Part.Creation creates.w creates.thread creates.name in
      one.first k part (creation (first_index T later.object) q place) below
      (back_front cut_at.front (cut_at.part ∷ cut_at.rest) k part (omega arith) (subst (λ l. slice_get l k ≡ Some part) cut_at.text creates.stands))
      (noted k later.object q place creates) (sym later.number))
      later.creates lt (λ e. h.other (sym one.routine ∙ e)))

  from_start : (f : Fault) → (start.1 ≡ Some f) ⊎ Second [] (sites D T (parts tree)) f → Second [] (sites D T (parts tree)) f
  from_start f (inl e) = absurd (none-some f e)
  from_start f (inr h) = h

  pub second_sound : (at : ℕ) → fault_of_creates tree ≡ Some (fault_at at) → Breaks tree rule.Threads at
  second_sound at e =
      second_breaks (fault_at at) (from_start (fault_at at)
      (faults_from (sites D T (parts tree)) [] start (free_at (behind tree.declarations).tables.threads (text_tables tree few_threads).free) threads_below (fault_at at)
      (sym given_is ∙ e)))

  -- ---- completeness

  pub second_complete : (i j : ℕ) (object : List ℕ) (m q there at : ℕ) → Creates tree i object m there → ((k v place : ℕ) → k < i → Creates tree k object v place → ⊥) →
      Creates tree j object q at → i < j → m ≢ q → IsReached (fault_at at) (fault_of_creates tree)
  second_complete i j object m q there at one first other lt differs =
      let part = Part.Creation other.w other.thread other.name in
      let x = creation (first_index T object) q at in
      let p = cut (parts tree) j part other.stands in
      let early = Part.Creation one.w one.thread one.name in
      let count = p.count in
      let at_front = back_front p.front (part ∷ p.rest) i early (omega arith) (subst (λ l. slice_get l i ≡ Some early) p.text one.stands) in
      let before = first_back D T p.front i early (creation (first_index T object) m there) at_front (noted i object m there one)
      (λ k v z below e site same.
      first k z.routine z.offset below
      (of_object k i z object m there (create_at k v z (subst (λ l. slice_get l k ≡ Some v) (sym p.text) (get_front p.front (part ∷ p.rest) k v e)) site) one same)) in
      let whole = ap (sites D T) p.text ∙ c.sites_both D T p.front (part ∷ p.rest)
      ∙ ap (λ o. sites D T p.front ++ (of_option o ++ sites D T p.rest)) (noted j object q at other) in
      subst (λ o. IsReached (fault_at at) o) (sym (given_is ∙ ap (λ l. (fold_of l).1) whole))
      (faults_reached (sites D T p.front) (sites D T p.rest) x [] start m (free_at (behind tree.declarations).tables.threads (text_tables tree few_threads).free)
      (subst (λ l. AllBelow (length (behind tree.declarations).tables.threads) l) whole threads_below) before differs)
