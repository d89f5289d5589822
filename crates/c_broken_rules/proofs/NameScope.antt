-- Unknown names in a whole text.
use Rattle.std.proofs.Common.{◌≡◌, refl, sym, subst, ap, ◌∙◌, ℕ, Bool, true, false, List, [], ◌∷◌, ◌++◌, length, Option, Some, None, append-nil, suc}
use Rattle.std.proofs.lemmas.Bool.{false≢true, or_parts}
use Rattle.std.specs.Prelude.{◌||◌, ◌&&◌, is_some, not, nat_le, if◌then◌else◌}
use Rattle.lists.proofs.Places.{get_last, none_of}
use Rattle.hls_ints.specs.Types.{int_type}
use Rattle.c_tree.specs.declared.expression.Name.{Name}
use Rattle.c_tree.specs.declared.expression.Specifiers.{Specifiers}
use Rattle.c_tree.specs.declared.expression.Expression.{out-Expression}
use Rattle.c_tree.specs.declared.declaration.Function.{Function}
use Rattle.c_tree.specs.declared.declaration.TranslationUnit.{TranslationUnit}
use Rattle.c_rules.specs.declared.fault.Rule.TheVariants as rule
use Rattle.c_rules.specs.declared.names.Meaning.{Meaning}
use Rattle.c_rules.specs.declared.names.Meaning.TheVariants as meaning
use Rattle.c_rules.specs.declared.names.Header.{Header}
use Rattle.c_rules.specs.declared.names.Scope.{Scope}
use Rattle.c_rules.specs.Constants.{constancy}
use Rattle.c_rules.specs.Findings.{nothing}
use Rattle.c_rules.specs.Levels.{named_in}
use Rattle.c_rules.specs.Library.{function_named}
use Rattle.c_rules.specs.declared.dimensions.Dimensions.{Dimensions}
use Rattle.c_rules.specs.declared.dimensions.Dimensions.TheVariants.{Scalar, One, Two, Three}
use Rattle.c_rules.specs.declared.names.ObjectKind.{ObjectKind}
use Rattle.c_rules.specs.declared.names.ObjectKind.TheVariants.{Thread, Mutex, Barrier}
use Rattle.c_rules.specs.Names.{look_up, is_taken, declaring, same_kind}
use Rattle.c_rules.specs.Specifiers.{base_of, spelled_by}
use Rattle.c_rules.specs.Walks.{finds}
use Rattle.c_expressions.specs.Expressions as e
use Rattle.c_calls.specs.Calls as k
use Rattle.c_resolution.specs.States.{State, finding, scoping}
use Rattle.c_resolution.specs.Locals as l
use Rattle.c_resolution.specs.Globals as g
use Rattle.c_resolution.specs.Functions as y
use Rattle.c_resolution.specs.Resolving.{before}
use Rattle.c_resolution.specs.Resolving as resolving
use Rattle.c_resolution.specs.Texts as t
use Rattle.c_broken_rules.specs.Sight.{Declared, Where, behind, with_names}
use Rattle.c_broken_rules.specs.Parts.{Part, parts, function_names, at_first}
use Rattle.c_broken_rules.specs.Typing.{plain_type, type_of_base, type_of_words}
use Rattle.c_broken_rules.proofs.Ledgers.{Ledger, Writes, left, nothing_new, quiet, writes_with}
use Rattle.c_broken_rules.proofs.Events.{Events}
use Rattle.c_broken_rules.proofs.Walks.{Scoping, Right, IsUsual, IsParameter, IsGlobal, IsOpen, is_small, is_thread_base, is_thread, is_thread_object, type_of_meaning}
use Rattle.c_broken_rules.proofs.Calls.{no_creates}
use Rattle.c_resolution.specs.Files.{Tables}
use Rattle.c_rules.specs.declared.specifiers.Spelled.{Spelled}
use Rattle.c_rules.specs.declared.specifiers.BaseType.{BaseType}
use Rattle.c_rules.specs.declared.specifiers.BaseType.TheVariants as base
use Rattle.c_tree.specs.declared.declaration.GlobalDeclarator.{GlobalDeclarator}
use Rattle.c_broken_rules.proofs.Functions.{text_is}
use Rattle.c_broken_rules.proofs.Sights.{Agrees, MeansIn, Scopes, Level, header_in, opened_agrees, closed_agrees, new_scopes, old_scopes, scopes_more}
use Rattle.c_broken_rules.proofs.Quiets as q
use Rattle.c_broken_rules.proofs.Quiets.{IsQuiet, Kept}
use Rattle.c_broken_rules.proofs.Names as u
use Rattle.c_broken_rules.proofs.Names.{name_ledger}
use Rattle.c_broken_rules.proofs.UnknownNames as m

module _ (D : List (List ℕ × ℕ)) where
  abbrev L : Ledger
  L = name_ledger D

  threads : IsQuiet L rule.Threads
  threads = u.other D rule.Threads (λ j. j)

  pub constants : IsQuiet L rule.Constant
  constants = u.other D rule.Constant (λ j. j)

  pub twice : IsQuiet L rule.Twice
  twice = u.other D rule.Twice (λ j. j)

  formats : IsQuiet L rule.Format
  formats = u.other D rule.Format (λ j. j)

  pub events : (s : Scope) (w : Where) → Agrees D s w → Events L s w
  events s w agrees = record {
    other = u.others D;
    constant = λ v at. quiet L (Part.Constant v at) (λ x k. k) (q.constant_is L constants v at);
    used = λ name more. m.value_is D s w name (suc more) agrees;
    read = λ name. m.read_part D w name (Part.Use w name ∷ []) (m.value_is D s w name 0 agrees);
    converted = λ name h. m.value_is D s w name 0 agrees;
    argument = λ name h x k. m.argument_use D s w name agrees h k.0;
    target = λ name indices. m.target_is D s w name indices agrees;
    object = λ kind name at indices number. m.object_is D s w kind name at indices number agrees;
    routine = λ name h at is. m.routine_by D s w name h at agrees (look_up s name.bytes) refl is;
    no_routine = λ name is x k. m.no_routine D s w name agrees is x k;
    misplaced = λ name count none. m.misplaced_by D s w name count agrees (look_up s name.bytes) refl none;
    library = λ name function count is. m.library_call D s w name function count agrees is;
    function = λ name number count is_value is. m.function_is D s w name number count is_value agrees is;
    no_function = λ name none own. m.no_function_by D s w name agrees (look_up s name.bytes) refl none;
    print = λ name first values. quiet L (Part.Print name (first ∷ values)) (λ x k. k)
        (q.broken_if L (not (k.takes (k.format first) (length values))) rule.Format (e.argument_offset first) formats);
    no_print = λ name. quiet L (Part.Print name []) (λ x k. k) (formats name.offset);
    length = λ v. quiet L (Part.Length v) (λ x k. k) (q.length_is L constants (constancy v) (out-Expression v).offset);
    local = λ words at is. quiet L (Part.Local words at) (λ x k. k) (q.local_quiet L (u.others D) threads words at);
    no_local = λ words at ty is x k. k;
    initial = λ ty v. quiet L (Part.Initial v) (λ x k. k) (q.initial_is L constants ty (constancy v) (out-Expression v).offset);
    listed = λ lengths n index at is. quiet L (Part.Listed lengths index at) (λ x k. k) (q.broken_if L _ rule.Constant at constants);
  }

  -- ---- declarations

  abbrev pub IsMeant : Declared → Meaning → Type 0
  IsMeant (Declared.OfFunction f) o = ⊥
  IsMeant (Declared.OfParameter p) o = IsParameter p.is_pointer o × (type_of_meaning o ≡ (if p.is_pointer then int_type else plain_type p.specifiers))
  IsMeant (Declared.OfVariable words d) o = IsUsual o × (type_of_meaning o ≡ plain_type words)
  IsMeant (Declared.OfObject words pointer d) o =
      IsGlobal o × (is_thread_object o ≡ is_thread words pointer d) × (type_of_meaning o ≡ (if pointer then int_type else type_of_words words))

  meant_in : (headers : List Header) (d : Declared) (o : Meaning) → IsMeant d o → MeansIn D headers d o
  meant_in headers (Declared.OfFunction f) o h = absurd h
  meant_in headers (Declared.OfParameter p) o h = h
  meant_in headers (Declared.OfVariable words d) o h = h
  meant_in headers (Declared.OfObject words pointer d) o h = h

  and_all : (b : Bool) → (b && true) ≡ b
  and_all true = refl
  and_all false = refl

  and_none : (b : Bool) → (b && false) ≡ false
  and_none true = refl
  and_none false = refl

  -- an object of POSIX threads
  object_is : (kind : ObjectKind) (count : ℕ) (dimensions : Dimensions) → let m = g.object kind count dimensions in
      IsGlobal m × (is_thread_object m ≡ (same_kind Thread kind && is_small dimensions)) × (type_of_meaning m ≡ int_type)
  object_is kind count Scalar = (tt, sym (and_all (same_kind Thread kind)), refl)
  object_is kind count (One n) = (tt, sym (and_all (same_kind Thread kind)), refl)
  object_is kind count (Two a b) = (tt, sym (and_none (same_kind Thread kind)), refl)
  object_is kind count (Three a b c) = (tt, sym (and_none (same_kind Thread kind)), refl)

  global_by : (t : Tables) (words : Spelled) (dimensions : Dimensions) (few b : Bool) (kind : BaseType) → is_small dimensions ≡ few →
      let m = if b then meaning.Unusable else g.meaning_by t words dimensions kind in
      IsGlobal m × (is_thread_object m ≡ (not b && (is_thread_base kind && few))) × (type_of_meaning m ≡ (if b then int_type else type_of_base kind))
  global_by t words dimensions few true kind small = (tt, refl, refl)
  global_by t words dimensions few false (base.Integer ty) small = (tt, refl, refl)
  global_by t words dimensions few false base.Thread small =
      let h = object_is Thread (length t.threads) dimensions in
      (h.0, h.1 ∙ small, h.2)
  global_by t words dimensions few false base.Mutex small = object_is Mutex (length t.mutexes) dimensions
  global_by t words dimensions few false base.Barrier small = object_is Barrier (length t.barriers) dimensions
  global_by t words dimensions few false base.Void small = (tt, refl, refl)
  global_by t words dimensions few false base.Unlisted small = (tt, refl, refl)

  pub global_is : (t : Tables) (words : Specifiers) (pointer : Bool) (d : GlobalDeclarator) (dimensions : Dimensions) → is_small dimensions ≡ nat_le (length d.lengths) 1 →
      IsMeant (Declared.OfObject words pointer d) (g.global_meaning t (spelled_by words) pointer dimensions)
  global_is t words pointer d dimensions small = global_by t (spelled_by words) dimensions (nat_le (length d.lengths) 1) pointer (base_of words.words) small

  twice_kept : (x : State) (name : Name) → Kept L x (left (y.twice name x)) []
  twice_kept x name = q.finding_kept L (λ s. finds rule.Twice name.offset) x [] (twice name.offset)

  some_or : (b c : Bool) → (b || c) ≡ true → b ≡ false → c ≡ true
  some_or true c h e = absurd (false≢true (sym e))
  some_or false c h e = h

  none_some : {A : Type 0} (o : Option A) → o ≡ None → is_some o ≡ false
  none_some o h = ap is_some h

  old_agrees : (x z : State) (w : Where) (name : List ℕ) (d : Declared) → z.scope ≡ x.scope → (function_named name ≡ None → is_some (named_in x.scope.inner name) ≡ true) →
      Agrees D x.scope w → Agrees D z.scope (behind ((name, d) ∷ []) w)
  old_agrees x z w name d same taken h =
      subst (λ s. Agrees D s (behind ((name, d) ∷ []) w)) (sym same)
      (record { defined = h.defined; scopes = old_scopes D x.scope.headers x.scope.inner x.scope.outer w.scopes name d taken h.scopes })

  declared_by : (x : State) (w : Where) (name : Name) (d : Declared) (o : Meaning) → Agrees D x.scope w → IsMeant d o → (b : Bool) → is_taken x.scope name.bytes ≡ b →
      Right L (Agrees D) x (if b then finding (λ scope. finds rule.Twice name.offset) x else scoping (declaring name.bytes o) x) (λ _. Unit {0}) (Part.Declares w name d ∷ [])
      (behind ((name.bytes, d) ∷ []) w)
  unfolding is_taken declaring
  declared_by x w name d o agrees means true taken =
      let still = twice_kept x name in
      record {
        writes = writes_with L (Part.Declares w name d) (λ x k. k) still.writes;
        agrees = old_agrees x (left (y.twice name x)) w name.bytes d still.same
            (λ own. some_or (is_some (function_named name.bytes)) (is_some (named_in x.scope.inner name.bytes)) taken (none_some (function_named name.bytes) own)) agrees;
        value = tt;
      }
  declared_by x w name d o agrees means false free = record {
    writes = writes_with L (Part.Declares w name d) (λ x k. k) (nothing_new L x.found);
    agrees = record {
      defined = agrees.defined;
      scopes = new_scopes D x.scope.headers x.scope.inner x.scope.outer w.scopes name.bytes d o
          (none_of (named_in x.scope.inner name.bytes) (or_parts (is_some (function_named name.bytes)) (is_some (named_in x.scope.inner name.bytes)) free).1)
          (meant_in x.scope.headers d o means) agrees.scopes;
    };
    value = tt;
  }

  pub declares : (x : State) (w : Where) (name : Name) (d : Declared) (o : Meaning) → Agrees D x.scope w → IsMeant d o →
      Right L (Agrees D) x (l.declare name o x) (λ _. Unit {0}) (Part.Declares w name d ∷ []) (behind ((name.bytes, d) ∷ []) w)
  unfolding l.declare
  declares x w name d o agrees means = declared_by x w name d o agrees means (is_taken x.scope name.bytes) refl

  -- ---- functions

  old_function : (x z : State) (w : Where) (f : Function) → Kept L x z [] → (function_named f.name.bytes ≡ None → is_some (named_in x.scope.inner f.name.bytes) ≡ true) →
      Agrees D x.scope w →
      Writes L x.found z.found (Part.Declares w f.name (Declared.OfFunction f) ∷ []) × Agrees D z.scope (behind (function_names f) w)
  old_function x z w f still taken agrees = (
    writes_with L (Part.Declares w f.name (Declared.OfFunction f)) (λ x k. k) still.writes,
    old_agrees x z w f.name.bytes (Declared.OfFunction f) still.same taken agrees,
  )

  over_is : (x : State) (w : Where) (f : Function) (h : Header) (second : Bool) → Agrees D x.scope w → h ≡ header_in D f → (o : Option Meaning) →
      named_in x.scope.inner f.name.bytes ≡ o →
      Writes L x.found (left (y.declare_over h f.name second o x)).found (Part.Declares w f.name (Declared.OfFunction f) ∷ [])
      × Agrees D (left (y.declare_over h f.name second o x)).scope (behind (function_names f) w)
  over_is x w f h second agrees is None e = (
    writes_with L (Part.Declares w f.name (Declared.OfFunction f)) (λ x k. k) (nothing_new L x.found),
    record {
      defined = agrees.defined;
      scopes = new_scopes D (x.scope.headers ++ h ∷ []) x.scope.inner x.scope.outer w.scopes f.name.bytes (Declared.OfFunction f) (meaning.Function (length x.scope.headers)) e
          (get_last x.scope.headers h ∙ ap (λ z. Some z) is) (scopes_more D x.scope.headers (h ∷ []) x.scope.inner x.scope.outer w.scopes agrees.scopes);
    },
  )
  over_is x w f h second agrees is (Some (meaning.Function n)) e =
      old_function x _ w f (q.finding_kept L (λ s. y.declare_again s n h f.name second) x [] (q.declare_again L (u.others D) twice x.scope n h f.name second)) (λ own. ap is_some e) agrees
  over_is x w f h second agrees is (Some m) e = old_function x _ w f (twice_kept x f.name) (λ own. ap is_some e) agrees

  function_by : (x : State) (w : Where) (f : Function) (h : Header) (second : Bool) → Agrees D x.scope w → h ≡ header_in D f → (b : Bool) → is_some (function_named
      f.name.bytes) ≡ b →
      Right L (Agrees D) x (if b then y.twice f.name x else y.declare_over h f.name second (named_in x.scope.inner f.name.bytes) x) (λ _. Unit {0})
      (Part.Declares w f.name (Declared.OfFunction f) ∷ []) (behind (function_names f) w)
  function_by x w f h second agrees is true e =
      let r = old_function x (left (y.twice f.name x)) w f (twice_kept x f.name) (λ own. absurd (false≢true (sym (none_some (function_named f.name.bytes) own) ∙ e))) agrees in
      record { writes = r.0; agrees = r.1; value = tt }
  function_by x w f h second agrees is false e =
      let r = over_is x w f h second agrees is (named_in x.scope.inner f.name.bytes) refl in
      record { writes = r.0; agrees = r.1; value = tt }

  pub function_declared : (x : State) (w : Where) (f : Function) (h : Header) (second : Bool) → Agrees D x.scope w → h ≡ header_in D f →
      Right L (Agrees D) x (y.declare_function h f.name second x) (λ _. Unit {0}) (Part.Declares w f.name (Declared.OfFunction f) ∷ []) (behind (function_names f) w)
  unfolding y.declare_function
  function_declared x w f h second agrees is = function_by x w f h second agrees is (is_some (function_named f.name.bytes)) refl

  pub opening : (headers : List Header) (s : Scope) (w : Where) (scopes : List (List (List ℕ × Declared))) → w.scopes ≡ scopes → Scopes D headers s.inner s.outer scopes → IsOpen w
  opening headers s w [] e h = absurd h
  opening headers s w (scope ∷ outer) e h = record { scope = scope; outer = outer; are = e }

  pub no_more : (headers : List Header) (s : Scope) (scopes : List (List (List ℕ × Declared))) → Scopes D headers s.inner s.outer scopes → Scopes D headers s.inner s.outer
      (with_names [] scopes)
  no_more headers s [] h = absurd h
  no_more headers s (scope ∷ outer) h = (subst (λ decls. Level D headers decls s.inner) (sym (append-nil scope)) h.0, h.1)

  unfoldable pub scoping_named : Scoping L
  scoping_named = record {
    Agrees = Agrees D;
    Means = λ w name. IsMeant;
    events = events;
    creates = λ s w agrees. no_creates L s w (events s w agrees) (u.creation_quiet D) (λ thread name x k. k);
    opened = opened_agrees D;
    is_open = λ s w h. opening s.headers s w w.scopes refl h.scopes;
    closed = closed_agrees D;
    no_names = λ s w h. record { defined = h.defined; scopes = no_more s.headers s w.scopes h.scopes };
    loops = λ s w n m h. record { defined = h.defined; scopes = h.scopes };
    local = λ s w l h. record { defined = h.defined; scopes = h.scopes };
    declares = declares;
    variable = λ w words d o h ty. (h, ty);
    parameter = λ w name p o h ty. (h, ty);
    IsSwitched = λ w over ty. Unit {0};
    switched = λ s w over at cuts found h. tt;
    case = λ s w over ty before l v c h is noted some. quiet L (Part.Label w over before l) (λ x k. k)
        (q.noted_quiet L twice constants ty (constancy v) (out-Expression v).offset c);
    default = λ s w over ty before l c h is noted none. quiet L (Part.Label w over before l) (λ x k. k) (q.default_quiet L twice l.offset c);
    Held = λ t w names. Unit {0};
    object = λ t w words pointer d dimensions later small h. global_is t words pointer d dimensions small;
    held_object = λ t u w words pointer d later added h. tt;
    held_function = λ t u w f later same h. tt;
    held_none = λ t w later h. tt;
    At = λ w n list. Unit {0};
    next = λ w n d more h. tt;
    IsHeader = λ f h. h ≡ header_in D f;
    header = λ s w f h. ap (λ E. header_in E f) h.defined;
    gives = λ s w n rest g here h. record { defined = h.defined; scopes = h.scopes };
    declares_function = λ x w n f h rest here agrees is. function_declared x w f h (y.is_second f h n) agrees is;
    entered = λ s w v n from f h rest here e is g agrees. record { defined = agrees.defined; scopes = agrees.scopes };
    left_body = λ s w v n f rest here e agrees. record { defined = agrees.defined; scopes = agrees.scopes };
    no_locals = λ s w h. record { defined = h.defined; scopes = h.scopes };
  }

-- ---- a whole text

pub text_names : (tree : TranslationUnit) → Writes (name_ledger (t.definitions tree.declarations)) nothing (resolving.behind tree.declarations).found (parts tree)
unfolding resolving.behind t.declarations scoping_named
text_names tree =
    let D = t.definitions tree.declarations in
    text_is (name_ledger D) (scoping_named D) tree.declarations tt at_first 0 tt (before tree.declarations) tt
    (record { defined = refl; scopes = (record { same = λ key own. tt }, refl) }) refl
