-- Creates, in a whole text.
use Rattle.std.proofs.Common.{◌≡◌, refl, sym, subst, ap, ◌∙◌, ℕ, zero, suc, ◌<◌, Bool, true, false, List, [], ◌∷◌, ◌++◌, length, Option, Some, None, append_assoc, append-nil, arith}
use Rattle.std.specs.Prelude.{◌-◌, ◌&&◌, not, nat_le, is_some, if◌then◌else◌, slice_get, remove}
use Rattle.std.specs.List.{flat_map}
use Rattle.std.specs.Str.{bytes_eq}
use Rattle.std.proofs.lemmas.Slice.Eq.{bytes_eq-Decides}
use Rattle.std.proofs.lemmas.Option.{none-some, same_Some}
use Rattle.std.proofs.lemmas.List.{length-append}
use Rattle.std.proofs.lemmas.Bool.{or_parts, false≢true}
use Rattle.lists.proofs.Places.{none_of}
use Rattle.c_tree.specs.declared.expression.Name.{Name}
use Rattle.c_tree.specs.declared.expression.Specifiers.{Specifiers}
use Rattle.c_tree.specs.declared.expression.Expression.{out-Expression}
use Rattle.c_tree.specs.declared.declaration.GlobalDeclarator.{GlobalDeclarator}
use Rattle.c_tree.specs.declared.declaration.ExternalDeclaration.{ExternalDeclaration}
use Rattle.c_tree.specs.declared.declaration.TranslationUnit.{TranslationUnit}
use Rattle.c_program.specs.declared.tree.ThreadObject.{ThreadObject}
use Rattle.c_rules.specs.declared.fault.Rule.TheVariants as rule
use Rattle.c_rules.specs.declared.findings.Findings.{Findings}
use Rattle.c_rules.specs.declared.specifiers.BaseType.{BaseType}
use Rattle.c_rules.specs.declared.specifiers.BaseType.TheVariants as base
use Rattle.c_rules.specs.declared.specifiers.Spelled.{Spelled}
use Rattle.c_rules.specs.declared.dimensions.Dimensions.{Dimensions}
use Rattle.c_rules.specs.declared.dimensions.Dimensions.TheVariants.{Scalar, One, Two, Three}
use Rattle.c_rules.specs.declared.names.ObjectKind.{ObjectKind}
use Rattle.c_rules.specs.declared.names.ObjectKind.TheVariants.{Thread, Mutex, Barrier}
use Rattle.c_rules.specs.declared.names.Object.{Object}
use Rattle.c_rules.specs.declared.names.Meaning.{Meaning}
use Rattle.c_rules.specs.declared.names.Meaning.TheVariants as meaning
use Rattle.c_rules.specs.declared.names.Header.{Header}
use Rattle.c_rules.specs.declared.names.Scope.{Scope}
use Rattle.c_rules.specs.Constants.{constancy}
use Rattle.c_rules.specs.Findings.{nothing}
use Rattle.c_rules.specs.Levels.{named_in, inserted}
use Rattle.c_rules.specs.Library.{function_named}
use Rattle.c_rules.specs.Names as names
use Rattle.c_rules.specs.Names.{look_up, same_kind, is_taken, declaring, opened, closed, closed_to}
use Rattle.c_rules.specs.Specifiers.{base_of, spelled_by}
use Rattle.c_rules.specs.Walks.{Outcome, finds, through, place_in_tree}
use Rattle.c_expressions.specs.Expressions as e
use Rattle.c_calls.specs.Calls as k
use Rattle.c_resolution.specs.States.{State, finding, scoping, in_scope}
use Rattle.c_resolution.specs.Files.{File, Tables}
use Rattle.c_resolution.specs.Locals as l
use Rattle.c_resolution.specs.Globals as g
use Rattle.c_resolution.specs.Functions as y
use Rattle.c_resolution.specs.Resolving.{before}
use Rattle.c_resolution.specs.Resolving as resolving
use Rattle.c_resolution.specs.Texts as t
use Rattle.c_broken_rules.specs.Sight.{Declared, Names, Where, behind, with_names}
use Rattle.c_broken_rules.specs.Breaks.{innermost}
use Rattle.c_broken_rules.specs.Parts.{Part, parts, at_first, names_of, number_behind, object_names}
use Rattle.c_broken_rules.proofs.Ledgers.{Ledger, Writes, given, left, after_one, writes_with, quiet}
use Rattle.c_broken_rules.proofs.Events.{Events}
use Rattle.c_broken_rules.proofs.Walks.{Scoping, IsUsual, IsParameter, Adds, is_small, is_thread, is_thread_base}
use Rattle.c_broken_rules.proofs.Functions.{text_is, declaration_is, declaration_holds}
use Rattle.c_broken_rules.proofs.Sights.{Agrees, named_inserted}
use Rattle.c_broken_rules.proofs.NameScope as n
use Rattle.c_broken_rules.proofs.NameScope.{IsMeant}
use Rattle.c_broken_rules.proofs.TwiceScope.{same_none, inner_same}
use Rattle.c_broken_rules.proofs.Quiets as q
use Rattle.c_broken_rules.proofs.ThreadNumbers.{is_thread_declared, thread_by, threads_of, first_index, threads_both, first_new, new_below}
use Rattle.c_broken_rules.proofs.Creations as c
use Rattle.c_broken_rules.proofs.Creations.{cap, create_ledger, Stands, Level, Levels, Numbered, Num, num_none, num_or}

-- ---- thread objects that no create names

abbrev pub AllFree : List ThreadObject → Type 0
AllFree [] = Unit {0}
AllFree (x ∷ xs) = (x.routine ≡ None) × AllFree xs

free_more : (xs : List ThreadObject) (size : ℕ) → AllFree xs → AllFree (xs ++ (record { length = size; routine = None }) ∷ [])
free_more [] size h = (refl, tt)
free_more (x ∷ xs) size h = (h.0, free_more xs size h.1)

not_object : (v : Object) → (m : Meaning) → IsUsual m → m ≡ meaning.Object v → ⊥
not_object v m h e = subst IsUsual e h

no_argument : (v : Object) → meaning.Argument ≡ meaning.Object v → ⊥
no_argument v h = cc

no_parameter : (b : Bool) (m : Meaning) (v : Object) → IsParameter b m → m ≡ meaning.Object v → ⊥
no_parameter true m v h e = no_argument v (sym h ∙ e)
no_parameter false m v h e = not_object v m h e

no_function : (v : Object) (number : ℕ) → meaning.Function number ≡ meaning.Object v → ⊥
no_function v number h = cc

no_variable : (v : Object) (m : Meaning) → m ≡ meaning.Object v → IsUsual m → ⊥
no_variable v m e h = subst IsUsual e h

same_object : (x y : Object) → meaning.Object x ≡ meaning.Object y → x ≡ y
same_object x y h = cc

-- an object of one dimension at most, of its kind and number
numbered : (kind : ObjectKind) (count : ℕ) (dimensions : Dimensions) (v : Object) → g.object kind count dimensions ≡ meaning.Object v →
    (is_small dimensions ≡ true) × (v.number ≡ place_in_tree count) × (v.kind ≡ kind)
numbered kind count Scalar v e = let same = same_object _ v e in (refl, sym (ap (λ (z : Object). z.number) same), sym (ap (λ (z : Object). z.kind) same))
numbered kind count (One n) v e = let same = same_object _ v e in (refl, sym (ap (λ (z : Object). z.number) same), sym (ap (λ (z : Object). z.kind) same))
numbered kind count (Two a b) v e = absurd (not_object v meaning.Unusable tt e)
numbered kind count (Three a b c) v e = absurd (not_object v meaning.Unusable tt e)

other_kind : (kind : ObjectKind) (v : Object) → v.kind ≡ kind → same_kind Thread kind ≡ false → same_kind Thread v.kind ≡ true → ⊥
other_kind kind v e out is = false≢true (sym out ∙ sym (ap (same_kind Thread) e) ∙ is)

-- the number of a thread object that is declared
thread_is : (tables : Tables) (words : Spelled) (dimensions : Dimensions) (few b : Bool) (kind : BaseType) (v : Object) → is_small dimensions ≡ few →
    (if b then meaning.Unusable else g.meaning_by tables words dimensions kind) ≡ meaning.Object v → same_kind Thread v.kind ≡ true →
    (v.number ≡ place_in_tree (length tables.threads)) × ((not b && (is_thread_base kind && few)) ≡ true)
thread_is tables words dimensions few true kind v small e is = absurd (not_object v meaning.Unusable tt e)
thread_is tables words dimensions few false base.Thread v small e is =
    let h = numbered Thread (length tables.threads) dimensions v e in
    (h.1, sym small ∙ h.0)
thread_is tables words dimensions few false base.Mutex v small e is =
    absurd (other_kind Mutex v (numbered Mutex (length tables.mutexes) dimensions v e).2 refl is)
thread_is tables words dimensions few false base.Barrier v small e is =
    absurd (other_kind Barrier v (numbered Barrier (length tables.barriers) dimensions v e).2 refl is)
thread_is tables words dimensions few false (base.Integer ty) v small e is = absurd (no_variable v _ e tt)
thread_is tables words dimensions few false base.Void v small e is = absurd (no_variable v meaning.Unusable e tt)
thread_is tables words dimensions few false base.Unlisted v small e is = absurd (no_variable v meaning.Unusable e tt)

-- ---- what the tables hold

module _ (T : List (List ℕ)) (all : Names) where
  pub record Held (tables : Tables) (w : Where) (names : Names) : Type 0 where
    pub scope : Names
    pub scopes : w.scopes ≡ scope ∷ []
    pub text : scope ++ names ≡ all
    pub count : length tables.threads ≡ length (threads_of scope)
    pub free : AllFree tables.threads

  abbrev one : List ℕ → Declared → Names
  one key d = (key, d) ∷ []

  counted : (b : Bool) (old new : List ThreadObject) (scope : Names) (key : List ℕ) (d : Declared) → is_thread_declared d ≡ b → Adds b old new →
      length old ≡ length (threads_of scope) → length new ≡ length (threads_of (scope ++ one key d))
  counted true old new scope key d e added count =
      let more = ap length added.1 in
      let split : length (threads_of (scope ++ one key d)) ≡ length (threads_of scope ++ key ∷ []) =
      ap length (threads_both scope (one key d)) ∙ ap (λ b. length (threads_of scope ++ (thread_by b key ++ []))) e in
      omega (arith, length-append old ((record { length = added.0; routine = None }) ∷ []), length-append (threads_of scope) (key ∷ []))
  counted false old new scope key d e added count =
      ap length added ∙ count ∙ sym (ap length (threads_both scope (one key d)) ∙ ap (λ b. length (threads_of scope ++ (thread_by b key ++ []))) e
      ∙ ap length (append-nil (threads_of scope)))

  still_free : (b : Bool) (old new : List ThreadObject) → Adds b old new → AllFree old → AllFree new
  still_free true old new added h = subst AllFree (sym added.1) (free_more old added.0 h)
  still_free false old new added h = subst AllFree (sym added) h

  held_one : (b : Bool) (x z : Tables) (w : Where) (key : List ℕ) (d : Declared) (later : Names) → is_thread_declared d ≡ b → Adds b x.threads z.threads →
      Held x w (one key d ++ later) → Held z (behind (one key d) w) later
  held_one b x z w key d later e added h = record {
    scope = h.scope ++ one key d;
    scopes = ap (with_names (one key d)) h.scopes;
    text = append_assoc h.scope (one key d) later ∙ h.text;
    count = counted b x.threads z.threads h.scope key d e added h.count;
    free = still_free b x.threads z.threads added h.free;
  }

  held_none : (x : Tables) (w : Where) (later : Names) → Held x w later → Held x (behind [] w) later
  held_none x w later h = record {
    scope = h.scope ++ [];
    scopes = ap (with_names []) h.scopes;
    text = ap (λ s. s ++ later) (append-nil h.scope) ∙ h.text;
    count = h.count ∙ sym (ap (λ s. length (threads_of s)) (append-nil h.scope));
    free = h.free;
  }

  -- the next thread object at file scope
  pub record Next (w : Where) (key : List ℕ) (v : Object) : Type 0 where
    pub number : v.number ≡ place_in_tree (length (threads_of (innermost w.scopes)))
    pub rest : List (List ℕ)
    pub text : threads_of (innermost w.scopes) ++ key ∷ rest ≡ T

  abbrev pub Placing : Where → Name → Meaning → Type 0
  Placing w name m = (v : Object) → m ≡ meaning.Object v → same_kind Thread v.kind ≡ true → Next w name.bytes v

  module _ (is : threads_of all ≡ T) where
    next_object : (tables : Tables) (w : Where) (words : Specifiers) (pointer : Bool) (d : GlobalDeclarator) (dimensions : Dimensions) (later : Names) →
        is_small dimensions ≡ nat_le (length d.lengths) 1 → Held tables w (object_names words pointer d ++ later) →
        Placing w d.name (g.global_meaning tables (spelled_by words) pointer dimensions)
    next_object tables w words pointer d dimensions later small h v e kind =
        let f = thread_is tables (spelled_by words) dimensions (nat_le (length d.lengths) 1) pointer (base_of words.words) v small e kind in
        let here = sym (ap innermost h.scopes) in
        let names = object_names words pointer d in
        let whole =
        ap (λ b. threads_of h.scope ++ (thread_by b d.name.bytes ++ threads_of later)) (sym f.1)
        ∙ sym (threads_both h.scope (names ++ later)) ∙ ap threads_of h.text ∙ is in
        record {
          number = f.0 ∙ ap place_in_tree h.count ∙ ap (λ s. place_in_tree (length (threads_of s))) here;
          rest = threads_of later;
          text = subst (λ s. threads_of s ++ d.name.bytes ∷ threads_of later ≡ T) here whole;
        }

-- ---- scopes

module _ (D : List (List ℕ × ℕ)) (T : List (List ℕ)) where
  levels_push : (xs : List names.Names) (x : names.Names) → Levels D T xs → Level D T x → Levels D T (xs ++ x ∷ [])
  levels_push [] x h k = (k, tt)
  levels_push (z ∷ xs) x h k = (h.0, levels_push xs x h.1 k)

  levels_get : (xs : List names.Names) (i : ℕ) (x : names.Names) → Levels D T xs → slice_get xs i ≡ Some x → Level D T x
  levels_get [] i x h e = absurd (none-some x e)
  levels_get (z ∷ xs) zero x h e = subst (Level D T) (same_Some z x e) h.0
  levels_get (z ∷ xs) (suc i) x h e = levels_get xs i x h.1 e

  levels_remove : (xs : List names.Names) (i : ℕ) → Levels D T xs → Levels D T (remove xs i)
  levels_remove [] zero h = h
  levels_remove [] (suc i) h = h
  levels_remove (z ∷ xs) zero h = h.1
  levels_remove (z ∷ xs) (suc i) h = (h.0, levels_remove xs i h.1)

  numbered_opened : (s : Scope) → Numbered D T s → Numbered D T (opened s)
  unfolding opened
  numbered_opened s h = record { inner = record { numbers = λ key. num_none D T key }; outer = levels_push s.outer s.inner h.outer h.inner }

  closed_by : (s : Scope) (o : Option names.Names) → slice_get s.outer (length s.outer - 1) ≡ o → Numbered D T s → Numbered D T (closed_to o s)
  closed_by s None e h = h
  closed_by s (Some level) e h =
      record { inner = levels_get s.outer (length s.outer - 1) level h.outer e; outer = levels_remove s.outer (length s.outer - 1) h.outer }

  numbered_closed : (s : Scope) → Numbered D T s → Numbered D T (closed s)
  unfolding closed
  numbered_closed s h = closed_by s (slice_get s.outer (length s.outer - 1)) refl h

  num_if : (b : Bool) (m : Meaning) (key name : List ℕ) → bytes_eq key name ≡ b → Num D T (Some m) name → Num D T (if b then Some m else None) key
  num_if true m key name e h = subst (λ k. Num D T (Some m) k) (sym ((bytes_eq-Decides key name).0 e)) h
  num_if false m key name e h = num_none D T key

  level_more : (level : names.Names) (name : List ℕ) (m : Meaning) → named_in level name ≡ None → Level D T level → Num D T (Some m) name → Level D T (inserted level name m)
  level_more level name m none h num = record {
    numbers = λ key.
        subst (λ z. Num D T z key) (sym (named_inserted level name key m none))
        (num_or D T (named_in level key) (if bytes_eq key name then Some m else None) key (h.numbers key) (num_if (bytes_eq key name) m key name refl num));
  }

  -- ---- declarations

  free_name : (s : Scope) (name : List ℕ) → is_taken s name ≡ false → (function_named name ≡ None) × (named_in s.inner name ≡ None)
  unfolding is_taken
  free_name s name h = (
    none_of (function_named name) (or_parts (is_some (function_named name)) (is_some (named_in s.inner name)) h).0,
    none_of (named_in s.inner name) (or_parts (is_some (function_named name)) (is_some (named_in s.inner name)) h).1,
  )

  declare_by : (x : State) (name : Name) (m : Meaning) (b : Bool) → is_taken x.scope name.bytes ≡ b → Numbered D T x.scope → (b ≡ false → Num D T (Some m) name.bytes) →
      Numbered D T (left (if b then finding (λ scope. finds rule.Twice name.offset) x else scoping (declaring name.bytes m) x)).scope
  unfolding declaring
  declare_by x name m true e h num = h
  declare_by x name m false e h num =
      record { inner = level_more x.scope.inner name.bytes m (free_name x.scope name.bytes e).1 h.inner (num refl); outer = h.outer }

  declare_numbers : (x : State) (name : Name) (m : Meaning) → Numbered D T x.scope → (is_taken x.scope name.bytes ≡ false → Num D T (Some m) name.bytes) →
      Numbered D T (left (l.declare name m x)).scope
  unfolding l.declare
  declare_numbers x name m h num = declare_by x name m (is_taken x.scope name.bytes) refl h num

  function_num : (number : ℕ) (key : List ℕ) → Num D T (Some (meaning.Function number)) key
  function_num number key v e kind = absurd (no_function v number (same_Some (meaning.Function number) (meaning.Object v) e))

  scope_kept : {A : Type 0} (s : Scope) (o : Outcome Findings A) → Numbered D T s → Numbered D T (left (in_scope s o)).scope
  scope_kept s (Outcome.Gives x found) h = h

  over_numbers : (x : State) (h : Header) (name : Name) (second : Bool) (o : Option Meaning) → named_in x.scope.inner name.bytes ≡ o → Numbered D T x.scope →
      Numbered D T (left (y.declare_over h name second o x)).scope
  over_numbers x h name second None e k =
      record { inner = level_more x.scope.inner name.bytes (meaning.Function (length x.scope.headers)) e k.inner (function_num (length x.scope.headers) name.bytes); outer = k.outer }
  over_numbers x h name second (Some (meaning.Function number)) e k = scope_kept x.scope (y.declare_again x.scope number h name second x.found) k
  over_numbers x h name second (Some meaning.Argument) e k = k
  over_numbers x h name second (Some meaning.Unusable) e k = k
  over_numbers x h name second (Some (meaning.Variable v)) e k = k
  over_numbers x h name second (Some (meaning.Object v)) e k = k

  function_by : (x : State) (h : Header) (name : Name) (second : Bool) (b : Bool) → Numbered D T x.scope →
      Numbered D T (left (if b then y.twice name x else y.declare_over h name second (named_in x.scope.inner name.bytes) x)).scope
  function_by x h name second true k = k
  function_by x h name second false k = over_numbers x h name second (named_in x.scope.inner name.bytes) refl k

  function_numbers : (x : State) (h : Header) (name : Name) (second : Bool) → Numbered D T x.scope → Numbered D T (left (y.declare_function h name second x)).scope
  unfolding y.declare_function
  function_numbers x h name second k = function_by x h name second (is_some (function_named name.bytes)) k

  -- the number of a new thread object is that of its name
  placed_num : (s : Scope) (w : Where) (name : Name) (m : Meaning) (all : Names) → Agrees D s w → Placing T all w name m → is_taken s name.bytes ≡ false →
      Num D T (Some m) name.bytes
  placed_num s w name m all agrees placing free v e kind =
      let f = free_name s name.bytes free in
      let next = placing v (same_Some m (meaning.Object v) e) kind in
      let none = same_none D s.headers (named_in (innermost w.scopes) name.bytes) (named_in s.inner name.bytes) (inner_same D s w name.bytes f.0 agrees) f.1 in
      let at = first_new (innermost w.scopes) name.bytes next.rest none in (
        next.number ∙ ap place_in_tree (sym at) ∙ ap (λ l. place_in_tree (first_index l name.bytes)) next.text,
        subst (λ l. first_index l name.bytes < length l) next.text (new_below (innermost w.scopes) name.bytes next.rest none),
      )

  -- ---- the walk

  pub events : (s : Scope) (w : Where) → Events (create_ledger D T) s w
  events s w =
      let L = create_ledger D T in
      let o = c.others D T in
      let unknown = c.broken D T rule.Unknown in
      let threads = c.broken D T rule.Threads in
      let constants = c.broken D T rule.Constant in
      let formats = c.broken D T rule.Format in
      record {
        other = o;
        constant = λ v at. quiet L (Part.Constant v at) (λ x h. h.1) (q.constant_is L constants v at);
        used = λ name more. quiet L (Part.Use w name) (λ x h. h.1) (q.misuse_quiet L o (look_up s name.bytes) (suc more) name.offset (λ _. unknown) (λ _ _. threads));
        read = λ name. quiet L (Part.Use w name) (λ x h. h.1)
            (quiet L (Part.Read w name) (λ x h. h.1) (q.misuse_quiet L o (look_up s name.bytes) 0 name.offset (λ _. unknown) (λ _ _. threads)));
        converted = λ name h. quiet L (Part.Use w name) (λ x h. h.1) (q.misuse_quiet L o (look_up s name.bytes) 0 name.offset (λ _. unknown) (λ _ _. threads));
        argument = λ name h x k. k.1;
        target = λ name indices. quiet L (Part.Use w name) (λ x h. h.1) (q.target_quiet L o (look_up s name.bytes) indices name.offset (λ _. unknown));
        object = λ kind name at indices number. quiet L (Part.Use w name) (λ x h. h.1)
            (q.object_named L o kind (look_up s name.bytes) name.offset at indices number (λ _. unknown));
        routine = λ name h at is. quiet L (Part.Routine w name) (λ x h. h.1)
            (quiet L (Part.Use w name) (λ x h. h.1) (quiet L (Part.Read w name) (λ x h. h.1) (q.routine_quiet L o unknown h name.offset at)));
        no_routine = λ name is x k. k.1;
        misplaced = λ name count none. quiet L (Part.Call w name) (λ x h. h.1) (q.misplaced_quiet L o unknown threads s (look_up s name.bytes) count name.offset);
        library = λ name function count is. quiet L (Part.Call w name) (λ x h. h.1) (q.library_quiet L o unknown threads s function count name.offset);
        function = λ name number count is_value is. quiet L (Part.Call w name) (λ x h. h.1)
            (q.function_quiet L o unknown threads (c.calls_quiet D T) s number count is_value name.offset);
        no_function = λ name none own. quiet L (Part.Call w name) (λ x h. h.1) (q.no_function_quiet L o unknown threads (look_up s name.bytes) name.offset);
        print = λ name first values. quiet L (Part.Print name (first ∷ values)) (λ x h. h.1)
            (q.broken_if L (not (k.takes (k.format first) (length values))) rule.Format (e.argument_offset first) formats);
        no_print = λ name. quiet L (Part.Print name []) (λ x h. h.1) (formats name.offset);
        length = λ v. quiet L (Part.Length v) (λ x h. h.1) (q.length_is L constants (constancy v) (out-Expression v).offset);
        local = λ words at is. quiet L (Part.Local words at) (λ x h. h.1) (q.local_quiet L o threads words at);
        no_local = λ words at ty is x k. k.1;
        initial = λ ty v. quiet L (Part.Initial v) (λ x h. h.1) (q.initial_is L constants ty (constancy v) (out-Expression v).offset);
        listed = λ lengths n index at is. quiet L (Part.Listed lengths index at) (λ x h. h.1) (q.broken_if L _ rule.Constant at constants);
      }

  module _ (few : length T < cap) (all : Names) (is : threads_of all ≡ T) where
    unfoldable scoping_creates : Scoping (create_ledger D T)
    unfolding n.scoping_named
    scoping_creates =
        let L = create_ledger D T in
        let twice = c.broken D T rule.Twice in
        let N = n.scoping_named D in
        record {
          Agrees = Stands D T;
          Means = λ w name d m. IsMeant D d m × Placing T all w name m;
          events = λ s w stands. events s w;
          creates = λ s w stands. c.creates_are D T few s w (events s w) stands;
          opened = λ s w h. record { names = N.opened s w h.names; numbers = numbered_opened s h.numbers };
          is_open = λ s w h. N.is_open s w h.names;
          closed = λ s scope w opening h. record { names = N.closed s scope w opening h.names; numbers = numbered_closed s h.numbers };
          no_names = λ s w h. record { names = N.no_names s w h.names; numbers = h.numbers };
          loops = λ s w count exits h. record { names = N.loops s w count exits h.names; numbers = record { inner = h.numbers.inner; outer = h.numbers.outer } };
          local = λ s w v h. record { names = N.local s w v h.names; numbers = record { inner = h.numbers.inner; outer = h.numbers.outer } };
          declares = λ x w name d o h means.
              let still = q.declare_is L (c.others D T) twice name o x in
              record {
                writes = writes_with L (Part.Declares w name d) (λ x k. k.1) still.writes;
                agrees = record {
                  names = (N.declares x w name d o h.names means.0).agrees;
                  numbers = declare_numbers x name o h.numbers (λ free. placed_num x.scope w name o all h.names means.1 free);
                };
                value = tt;
              };
          variable = λ w words d m h ty. ((h, ty), λ v e kind. absurd (not_object v m h e));
          parameter = λ w name p m h ty. ((h, ty), λ v e kind. absurd (no_parameter p.is_pointer m v h e));
          IsSwitched = λ w over ty. Unit {0};
          switched = λ s w over at cuts found h. tt;
          case = λ s w over ty before l v z h is noted some. quiet L (Part.Label w over before l) (λ x k. k.1)
              (q.noted_quiet L twice (c.broken D T rule.Constant) ty (constancy v) (out-Expression v).offset z);
          default = λ s w over ty before l z h is noted none. quiet L (Part.Label w over before l) (λ x k. k.1) (q.default_quiet L twice l.offset z);
          Held = Held T all;
          object = λ tables w words pointer d dimensions later small h.
              (n.global_is D tables words pointer d dimensions small, next_object T all is tables w words pointer d dimensions later small h);
          held_object = λ x z w words pointer d later added h. held_one T all (is_thread words pointer d) x z w d.name.bytes (Declared.OfObject words pointer d) later refl added h;
          held_function = λ x z w f later same h. held_one T all false x z w f.name.bytes (Declared.OfFunction f) later refl same h;
          held_none = held_none T all;
          At = λ w count list. Unit {0};
          next = λ w count d more here. here;
          IsHeader = N.IsHeader;
          header = λ s w f h. N.header s w f h.names;
          gives = λ s w count rest given_one here h. record {
            names = N.gives s w count rest given_one tt h.names;
            numbers = record { inner = h.numbers.inner; outer = h.numbers.outer };
          };
          declares_function = λ x w count f h rest here stands is_header.
              let still = q.function_is L (c.others D T) twice h f.name (y.is_second f h count) x in
              record {
                writes = writes_with L (Part.Declares w f.name (Declared.OfFunction f)) (λ x k. k.1) still.writes;
                agrees = record {
                  names = (N.declares_function x w count f h rest tt stands.names is_header).agrees;
                  numbers = function_numbers x h f.name (y.is_second f h count) stands.numbers;
                };
                value = tt;
              };
          entered = λ s w v count from f h rest here e is_header gives stands. record {
            names = N.entered s w v count from f h rest tt e is_header gives stands.names;
            numbers = record { inner = stands.numbers.inner; outer = stands.numbers.outer };
          };
          left_body = λ s w v count f rest here e stands. record {
            names = N.left_body s w v count f rest tt e stands.names;
            numbers = record { inner = stands.numbers.inner; outer = stands.numbers.outer };
          };
          no_locals = λ s w h. record { names = N.no_locals s w h.names; numbers = record { inner = h.numbers.inner; outer = h.numbers.outer } };
        }

-- ---- a whole text

module _ (L : Ledger) (S : Scoping L) where
  -- what the tables hold behind the last declaration
  all_held : (list : List ExternalDeclaration) (unit : Unit {0}) (w : Where) (count : ℕ) → S.At w count list → (x : File) → S.Held x.tables w (flat_map names_of list) →
      S.Agrees x.scope w → length x.tables.functions ≡ count → (v : Where) × S.Held (left (through (λ _ d. t.declaration d) unit list x)).tables v []
  all_held [] unit w count here x held agrees counts = (w, held)
  all_held (d ∷ list) unit w count here x held agrees counts =
      let o = t.declaration d x in
      let later = flat_map names_of list in
      let first = declaration_is L S d w count list here later x held agrees counts in
      let more = declaration_holds L S d w count list here later x held agrees counts in
      subst (λ (z : Outcome File (Unit {0})). (v : Where) × S.Held (left z).tables v []) (sym (after_one (λ _ d. t.declaration d) unit d list x))
      (all_held list (given o) (behind (names_of d) w) (number_behind d count) (S.next w count d list here) (left o) more first.agrees first.counts)

abbrev pub all_names : TranslationUnit → Names
all_names tree = flat_map names_of tree.declarations

abbrev pub text_threads : TranslationUnit → List (List ℕ)
text_threads tree = threads_of (all_names tree)

module _ (tree : TranslationUnit) (few : length (text_threads tree) < cap) where
  abbrev pub D : List (List ℕ × ℕ)
  D = t.definitions tree.declarations

  abbrev pub T : List (List ℕ)
  T = text_threads tree

  first_held : Held T (all_names tree) (before tree.declarations).tables at_first (all_names tree)
  first_held = record { scope = []; scopes = refl; text = refl; count = refl; free = tt }

  first_stands : Stands D T (before tree.declarations).scope at_first
  first_stands = record {
    names = record { defined = refl; scopes = (record { same = λ key own. tt }, refl) };
    numbers = record { inner = record { numbers = λ key. num_none D T key }; outer = tt };
  }

  -- the creates of a text, in order
  pub text_creates : Writes (create_ledger D T) nothing (resolving.behind tree.declarations).found (parts tree)
  unfolding resolving.behind t.declarations scoping_creates n.scoping_named
  text_creates =
      text_is (create_ledger D T) (scoping_creates D T few (all_names tree) refl) tree.declarations tt at_first 0 tt (before tree.declarations) first_held first_stands refl

  -- and its thread objects, which no create names before
  pub record Tabled (threads : List ThreadObject) : Type 0 where
    pub count : length threads ≡ length T
    pub free : AllFree threads

  held_at_end : (tables : Tables) (w : Where) → Held T (all_names tree) tables w [] → Tabled tables.threads
  held_at_end tables w h = record { count = h.count ∙ ap (λ s. length (threads_of s)) (sym (append-nil h.scope) ∙ h.text); free = h.free }

  pub text_tables : Tabled (resolving.behind tree.declarations).tables.threads
  unfolding resolving.behind t.declarations scoping_creates n.scoping_named
  text_tables =
      let h = all_held (create_ledger D T) (scoping_creates D T few (all_names tree) refl) tree.declarations tt at_first 0 tt (before tree.declarations) first_held first_stands
      refl in
      held_at_end (resolving.behind tree.declarations).tables h.0 h.1
