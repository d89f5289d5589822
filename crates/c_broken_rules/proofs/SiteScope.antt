-- Calls in a whole text: their sites, and how many functions are defined.
use Rattle.std.proofs.Common.{◌≡◌, refl, sym, subst, ap, ◌∙◌, ℕ, suc, ◌<◌, ◌≤◌, Bool, true, false, List, [], ◌∷◌, ◌++◌, length, Option, Some, None, append_assoc, arith}
use Rattle.std.specs.Prelude.{◌+◌, ◌^◌, not, is_some, if◌then◌else◌}
use Rattle.std.specs.List.{flat_map}
use Rattle.std.proofs.lemmas.List.{length-append}
use Rattle.c_tree.specs.declared.expression.Expression.{out-Expression}
use Rattle.c_tree.specs.declared.declaration.Function.{Function}
use Rattle.c_tree.specs.declared.declaration.ExternalDeclaration.{ExternalDeclaration}
use Rattle.c_tree.specs.declared.declaration.ExternalDeclaration.TheVariants as external
use Rattle.c_tree.specs.declared.declaration.TranslationUnit.{TranslationUnit}
use Rattle.c_rules.specs.declared.fault.Rule.TheVariants as rule
use Rattle.c_rules.specs.declared.names.Scope.{Scope}
use Rattle.c_rules.specs.Constants.{constancy}
use Rattle.c_rules.specs.Findings.{nothing}
use Rattle.c_rules.specs.Names as names
use Rattle.c_rules.specs.Names.{look_up}
use Rattle.c_rules.specs.Walks.{Outcome, through, place_in_tree}
use Rattle.c_expressions.specs.Expressions as e
use Rattle.c_calls.specs.Calls as k
use Rattle.c_resolution.specs.Files.{File}
use Rattle.c_resolution.specs.Functions as y
use Rattle.c_resolution.specs.Resolving.{before}
use Rattle.c_resolution.specs.Resolving as resolving
use Rattle.c_resolution.specs.Texts as t
use Rattle.c_broken_rules.specs.Sight.{Declared, Where, behind}
use Rattle.c_broken_rules.specs.Parts.{Part, parts, names_of, number_behind, at_first}
use Rattle.c_broken_rules.specs.Breaks.{definitions, definition_in, definition_by}
use Rattle.c_broken_rules.specs.Laws.{IsOfFew}
use Rattle.c_broken_rules.proofs.Ledgers.{Ledger, Writes, given, left, after_one, writes_with, quiet}
use Rattle.c_broken_rules.proofs.Events.{Events}
use Rattle.c_broken_rules.proofs.Walks.{Scoping}
use Rattle.c_broken_rules.proofs.Calls.{no_creates}
use Rattle.c_broken_rules.proofs.Functions.{text_is, declaration_is, declaration_holds}
use Rattle.c_broken_rules.proofs.NameScope as n
use Rattle.c_broken_rules.proofs.NameScope.{IsMeant}
use Rattle.c_broken_rules.proofs.Quiets as q
use Rattle.c_broken_rules.proofs.Sites as u
use Rattle.c_broken_rules.proofs.Sites.{site_ledger, Stands, number_in, broken, others}
use Rattle.c_broken_rules.proofs.Numbers.{most}

-- ---- how many functions are defined

one_number : (f : Function) (n : ℕ) (b : Bool) → (if b then suc n else n) ≡ n + length (definition_by f b)
one_number f n true = omega arith
one_number f n false = omega arith

number_is : (d : ExternalDeclaration) (n : ℕ) → number_behind d n ≡ n + length (definition_in d)
number_is (external.Function f) n = one_number f n (is_some f.body)
number_is (external.Objects o) n = omega arith

more_definitions : (xs : List ExternalDeclaration) (d : ExternalDeclaration) → length (definitions (xs ++ d ∷ [])) ≡ length (definitions xs) + length (definition_in d)
more_definitions [] d = omega (arith, length-append (definition_in d) [])
more_definitions (x ∷ xs) d =
    omega (arith, length-append (definition_in x) (definitions (xs ++ d ∷ [])), length-append (definition_in x) (definitions xs), more_definitions xs d)

pub definitions_both : (xs ys : List ExternalDeclaration) → length (definitions (xs ++ ys)) ≡ length (definitions xs) + length (definitions ys)
definitions_both [] ys = omega arith
definitions_both (x ∷ xs) ys =
    omega (arith, length-append (definition_in x) (definitions (xs ++ ys)), length-append (definition_in x) (definitions xs), definitions_both xs ys)

module _ (L : Ledger) (S : Scoping L) where
  -- so many functions are there behind the last declaration
  counts : (list : List ExternalDeclaration) (unit : Unit {0}) (w : Where) (n : ℕ) → S.At w n list → (x : File) → S.Held x.tables w
      (flat_map names_of list) → S.Agrees x.scope w → length x.tables.functions ≡ n →
      length (left (through (λ _ d. t.declaration d) unit list x)).tables.functions ≡ n + length (definitions list)
  counts [] unit w n here x held agrees count = omega (arith, count)
  counts (d ∷ list) unit w n here x held agrees count =
      let o = t.declaration d x in
      let later = flat_map names_of list in
      let first = declaration_is L S d w n list here later x held agrees count in
      let more = declaration_holds L S d w n list here later x held agrees count in
      ap (λ (z : Outcome File (Unit {0})). length (left z).tables.functions) (after_one (λ _ d. t.declaration d) unit d list x)
      ∙ counts list (given o) (behind (names_of d) w) (number_behind d n) (S.next w n d list here) (left o) more first.agrees first.counts
      ∙ omega (arith, number_is d n, length-append (definition_in d) (definitions list))

-- ---- calls

module _ (D : List (List ℕ × ℕ)) where
  pub events : (s : Scope) (w : Where) → Stands D s w → Events (site_ledger D) s w
  events s w stands =
      let L = site_ledger D in
      let o = others D in
      let unknown = broken D rule.Unknown (λ h. h) in
      let threads = broken D rule.Threads (λ h. h) in
      let constants = broken D rule.Constant (λ h. h) in
      let formats = broken D rule.Format (λ h. h) in
      record {
        other = o;
        constant = λ v at. quiet L (Part.Constant v at) (λ x h. h) (q.constant_is L constants v at);
        used = λ name more. quiet L (Part.Use w name) (λ x h. h) (q.misuse_quiet L o (look_up s name.bytes) (suc more) name.offset (λ _. unknown) (λ _ _. threads));
        read = λ name. quiet L (Part.Use w name) (λ x h. h) (quiet L (Part.Read w name) (λ x h. h) (q.misuse_quiet L o (look_up s name.bytes) 0 name.offset (λ _. unknown) (λ _ _. threads)));
        converted = λ name h. quiet L (Part.Use w name) (λ x h. h) (q.misuse_quiet L o (look_up s name.bytes) 0 name.offset (λ _. unknown) (λ _ _. threads));
        argument = λ name h x k. k;
        target = λ name indices. quiet L (Part.Use w name) (λ x h. h) (q.target_quiet L o (look_up s name.bytes) indices name.offset (λ _. unknown));
        object = λ kind name at indices number. quiet L (Part.Use w name) (λ x h. h)
            (q.object_named L o kind (look_up s name.bytes) name.offset at indices number (λ _. unknown));
        routine = λ name h at is.
            quiet L (Part.Routine w name) (λ x h. h) (quiet L (Part.Use w name) (λ x h. h) (quiet L (Part.Read w name) (λ x h. h) (q.routine_quiet L o unknown h name.offset at)));
        no_routine = λ name is x k. k;
        misplaced = λ name count none. u.misplaced_is D s w name count stands none;
        library = λ name function count is. u.library_is D s w name function count stands is;
        function = λ name number count is_value is. u.function_is D s w name number count is_value stands is;
        no_function = λ name none own. u.no_function D s w name stands none;
        print = λ name first values. quiet L (Part.Print name (first ∷ values)) (λ x h. h)
            (q.broken_if L (not (k.takes (k.format first) (length values))) rule.Format (e.argument_offset first) formats);
        no_print = λ name. quiet L (Part.Print name []) (λ x h. h) (formats name.offset);
        length = λ v. quiet L (Part.Length v) (λ x h. h) (q.length_is L constants (constancy v) (out-Expression v).offset);
        local = λ words at is. quiet L (Part.Local words at) (λ x h. h) (q.local_quiet L o threads words at);
        no_local = λ words at ty is x k. k;
        initial = λ ty v. quiet L (Part.Initial v) (λ x h. h) (q.initial_is L constants ty (constancy v) (out-Expression v).offset);
        listed = λ lengths n index at is. quiet L (Part.Listed lengths index at) (λ x h. h) (q.broken_if L _ rule.Constant at constants);
      }

  -- ---- scopes that open and close

  opened_is : (s : Scope) → (names.opened s).function ≡ s.function
  unfolding names.opened
  opened_is s = refl

  closed_by : (o : Option names.Names) (s : Scope) → (names.closed_to o s).function ≡ s.function
  closed_by None s = refl
  closed_by (Some level) s = refl

  closed_is : (s : Scope) → (names.closed s).function ≡ s.function
  unfolding names.closed
  closed_is s = closed_by _ s

place_is : (n : ℕ) → n ≤ most → place_in_tree n ≡ n
place_is n le = omega arith

module _ (tree : TranslationUnit) (few : IsOfFew tree) where
  abbrev pub D : List (List ℕ × ℕ)
  D = t.definitions tree.declarations

  -- a declaration at file scope
  pub record At (w : Where) (n : ℕ) (list : List ExternalDeclaration) : Type 0 where
    pub before : List ExternalDeclaration
    pub text : before ++ list ≡ tree.declarations
    pub count : n ≡ length (definitions before)
    pub file : w.body ≡ None

  next : (w : Where) (n : ℕ) (d : ExternalDeclaration) (more : List ExternalDeclaration) → At w n (d ∷ more) → At (behind (names_of d) w) (number_behind d n) more
  next w n d more h = record {
    before = h.before ++ d ∷ [];
    text = append_assoc h.before (d ∷ []) more ∙ h.text;
    count = number_is d n ∙ ap (λ k. k + length (definition_in d)) h.count ∙ sym (more_definitions h.before d);
    file = h.file;
  }

  few_before : (w : Where) (n : ℕ) (list : List ExternalDeclaration) → At w n list → n ≤ most
  few_before w n list h =
      let all : length (definitions (h.before ++ list)) < 2 ^ 32 = subst (λ l. length (definitions l) < 2 ^ 32) (sym h.text) few in
      let count = h.count in
      omega (arith, definitions_both h.before list)

  unfoldable scoping_sites : Scoping (site_ledger D)
  unfolding n.scoping_named
  scoping_sites =
      let L = site_ledger D in
      let twice = broken D rule.Twice (λ h. h) in
      let N = n.scoping_named D in
      record {
        Agrees = Stands D;
        Means = λ w name. IsMeant D;
        events = events D;
        creates = λ s w stands. no_creates L s w (events D s w stands) (u.creation_quiet D) (λ thread name x k. k);
        opened = λ s w h. record { names = N.opened s w h.names; function = opened_is D s ∙ h.function };
        is_open = λ s w h. N.is_open s w h.names;
        closed = λ s scope w is h. record { names = N.closed s scope w is h.names; function = closed_is D s ∙ h.function };
        no_names = λ s w h. record { names = N.no_names s w h.names; function = h.function };
        loops = λ s w n m h. record { names = N.loops s w n m h.names; function = h.function };
        local = λ s w l h. record { names = N.local s w l h.names; function = h.function };
        declares = λ x w name d o h means.
            let still = q.declare_is L (others D) twice name o x in
            record {
              writes = writes_with L (Part.Declares w name d) (λ x k. k) still.writes;
              agrees = record { names = (N.declares x w name d o h.names means).agrees; function = still.function ∙ h.function };
              value = tt;
            };
        variable = N.variable;
        parameter = N.parameter;
        IsSwitched = λ w over ty. Unit {0};
        switched = λ s w over at cuts found h. tt;
        case = λ s w over ty before l v c h is noted some. quiet L (Part.Label w over before l) (λ x k. k)
            (q.noted_quiet L twice (broken D rule.Constant (λ j. j)) ty (constancy v) (out-Expression v).offset c);
        default = λ s w over ty before l c h is noted none. quiet L (Part.Label w over before l) (λ x k. k) (q.default_quiet L twice l.offset c);
        Held = N.Held;
        object = N.object;
        held_object = N.held_object;
        held_function = N.held_function;
        held_none = N.held_none;
        At = At;
        next = next;
        IsHeader = N.IsHeader;
        header = λ s w f h. N.header s w f h.names;
        gives = λ s w n rest g here h. record { names = N.gives s w n rest g tt h.names; function = h.function };
        declares_function = λ x w n f h rest here agrees is.
            let still = q.function_is L (others D) twice h f.name (y.is_second f h n) x in
            record {
              writes = writes_with L (Part.Declares w f.name (Declared.OfFunction f)) (λ x k. k) still.writes;
              agrees = record { names = (N.declares_function x w n f h rest tt agrees.names is).agrees; function = still.function ∙ agrees.function };
              value = tt;
            };
        entered = λ s w v n from f h rest here e is g agrees. record {
          names = N.entered s w v n from f h rest tt e is g agrees.names;
          function = ap (λ k. Some k) (place_is n (few_before w n (external.Function f ∷ rest) here));
        };
        left_body = λ s w v n f rest here e agrees. record {
          names = N.left_body s w v n f rest tt e agrees.names;
          function = sym (ap number_in (e ∙ here.file));
        };
        no_locals = λ s w h. record { names = N.no_locals s w h.names; function = h.function };
      }

  first_here : At at_first 0 tree.declarations
  first_here = record { before = []; text = refl; count = refl; file = refl }

  first_stands : Stands D (before tree.declarations).scope at_first
  first_stands = record { names = record { defined = refl; scopes = (record { same = λ key own. tt }, refl) }; function = refl }

  -- the sites of the calls of a text
  pub text_sites : Writes (site_ledger D) nothing (resolving.behind tree.declarations).found (parts tree)
  unfolding resolving.behind t.declarations scoping_sites n.scoping_named
  text_sites = text_is (site_ledger D) scoping_sites tree.declarations tt at_first 0 first_here (before tree.declarations) tt first_stands refl

  -- and its functions, one for each definition
  pub text_counts : length (resolving.behind tree.declarations).tables.functions ≡ length (definitions tree.declarations)
  unfolding resolving.behind t.declarations scoping_sites n.scoping_named
  text_counts = counts (site_ledger D) scoping_sites tree.declarations tt at_first 0 first_here (before tree.declarations) tt first_stands refl ∙ omega arith
