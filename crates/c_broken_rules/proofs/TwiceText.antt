-- Names that are declared twice: the first fault of a text, where it defines fewer than 2 ^ 32 functions.
use Rattle.std.proofs.Common.{◌≡◌, refl, sym, subst, ap, ◌∙◌, ℕ, Bool, true, false, List, [], ◌∷◌, ◌++◌, length, Option, Some, None, append-nil, inl, inr, ℤ}
use Rattle.std.proofs.lemmas.Bool.{false≢true, and_parts}
use Rattle.std.specs.Prelude.{◌&&◌, Contains, is_some, not, if◌then◌else◌, ◌⊎◌}
use Rattle.c_tree.specs.declared.expression.Name.{Name}
use Rattle.c_tree.specs.declared.expression.Expression.{Expression, out-Expression}
use Rattle.c_tree.specs.declared.statement.CaseLabel.{CaseLabel}
use Rattle.c_tree.specs.declared.declaration.Function.{Function}
use Rattle.c_tree.specs.declared.declaration.TranslationUnit.{TranslationUnit}
use Rattle.c_rules.specs.declared.fault.Rule.{Rule}
use Rattle.c_rules.specs.declared.fault.Fault.{Fault}
use Rattle.c_rules.specs.declared.fault.Rule.TheVariants as rule
use Rattle.c_rules.specs.declared.names.Header.{Header}
use Rattle.c_rules.specs.declared.constants.Constancy.{Constancy}
use Rattle.c_rules.specs.declared.constants.Constancy.TheVariants as is
use Rattle.c_rules.specs.Constants.{constancy}
use Rattle.c_rules.specs.Findings.{nothing}
use Rattle.c_rules.specs.Levels.{named_in}
use Rattle.c_resolution.specs.Functions as y
use Rattle.c_resolution.specs.Resolving.{before}
use Rattle.c_resolution.specs.Resolving as resolving
use Rattle.c_resolution.specs.Texts as t
use Rattle.c_broken_rules.specs.Sight.{Declared, Where, behind, with_names}
use Rattle.c_broken_rules.specs.Parts.{Part, parts, function_names, at_first}
use Rattle.c_broken_rules.proofs.Ledgers.{Ledger, Writes, any_contains, contains_any}
use Rattle.c_broken_rules.proofs.Walks.{Scoping}
use Rattle.c_broken_rules.proofs.Calls.{no_creates}
use Rattle.c_broken_rules.proofs.Functions.{text_is}
use Rattle.c_broken_rules.proofs.Sights.{Agrees, header_in, same_function}
use Rattle.c_broken_rules.specs.Breaks.{innermost}
use Rattle.c_broken_rules.proofs.Labels.{IsValue, IsCaseOf}
use Rattle.c_broken_rules.proofs.Twice.{IsJudged, BreaksAt, IsTwice, IsSecondCase, IsSecondDefault, twice_ledger, creation_quiet, case_is, default_is}
use Rattle.c_broken_rules.proofs.Types.{switch_type_is}
use Rattle.c_broken_rules.proofs.NameScope.{IsMeant}
use Rattle.std.proofs.Common.{suc, ◌<◌, ◌≤◌, append_assoc, append-nil, arith}
use Rattle.std.specs.Prelude.{◌+◌, ◌^◌}
use Rattle.std.specs.List.{flat_map}
use Rattle.std.proofs.lemmas.List.Elements.{Contains-append_left, Contains-append_right, Contains-append_cases, Contains-push_cases}
use Rattle.lists.proofs.Places.{in_none}
use Rattle.c_tree.specs.declared.declaration.ExternalDeclaration.{ExternalDeclaration}
use Rattle.c_tree.specs.declared.declaration.ExternalDeclaration.TheVariants as external
use Rattle.c_tree.specs.declared.declaration.GlobalDeclarator.{GlobalDeclarator}
use Rattle.c_tree.specs.declared.expression.Specifiers.{Specifiers as Words}
use Rattle.c_rules.specs.Walks.{place_in_tree}
use Rattle.c_resolution.specs.Resolving.{IsFirstFault}
use Rattle.c_broken_rules.specs.Breaks.{Breaks, IsCase, definitions, definition_in, definition_by}
use Rattle.c_broken_rules.specs.Typing.{switch_type}
use Rattle.c_broken_rules.specs.Laws.{FaultsAreBrokenOfFew, BrokenAreFaultsOfFew, IsNotBehind, IsOfFew}
use Rattle.c_broken_rules.specs.Parts.{names_of, number_behind, objects_names}
use Rattle.c_broken_rules.proofs.NameScope as n
use Rattle.c_broken_rules.proofs.Unknown.{Defines, noted_by, all_here, all_back, from_nothing, any_split, any_left, any_right}
use Rattle.c_broken_rules.proofs.Numbers.{first_number, second_number, most}
use Rattle.c_broken_rules.proofs.TwiceScope as h
use Rattle.c_broken_rules.proofs.TwiceScope.{IsSecondBy}
use Rattle.c_broken_rules.proofs.FaultLedgers.{fault_of}
use Rattle.c_broken_rules.proofs.JudgedParts.{IsPart, first_part, part_reached, at_place, not_behind}
use Rattle.c_broken_rules.proofs.SiteScope.{definitions_both}

abbrev Named : Type 0
Named = List ℕ × Declared

-- ---- the definitions among names

abbrev Definer : List Named → List ℕ → Type 0
Definer names key = (g : Function) × Contains names (key, Declared.OfFunction g) × (is_some g.body ≡ true)

definer_left : (xs ys : List Named) (key : List ℕ) → Definer xs key → Definer (xs ++ ys) key
definer_left xs ys key d = (d.0, Contains-append_left xs ys (key, Declared.OfFunction d.0) d.1, d.2)

definer_right : (xs ys : List Named) (key : List ℕ) → Definer ys key → Definer (xs ++ ys) key
definer_right xs ys key d = (d.0, Contains-append_right xs ys (key, Declared.OfFunction d.0) d.1, d.2)

by_body : (f : Function) (key : List ℕ) (b : Bool) → is_some f.body ≡ b → Defines (definition_by f b) key → Definer (function_names f) key
by_body f key false e h = absurd h
by_body f key true e (inl same) =
    subst (λ k. Definer (function_names f) k) same (f, (0, omega arith, refl), e)
by_body f key true e (inr h) = absurd h

one_definer : (x : ExternalDeclaration) (key : List ℕ) → Defines (definition_in x) key → Definer (names_of x) key
one_definer (external.Function f) key h = by_body f key (is_some f.body) refl h
one_definer (external.Objects o) key h = absurd h

either : (x : ExternalDeclaration) (list : List ExternalDeclaration) (key : List ℕ) → Defines (definition_in x) key ⊎ Defines (definitions list) key →
    (Defines (definitions list) key → Definer (flat_map names_of list) key) → Definer (flat_map names_of (x ∷ list)) key
either x list key (inl h) rest = definer_left (names_of x) (flat_map names_of list) key (one_definer x key h)
either x list key (inr h) rest = definer_right (names_of x) (flat_map names_of list) key (rest h)

all_definers : (list : List ExternalDeclaration) (key : List ℕ) → Defines (definitions list) key → Definer (flat_map names_of list) key
all_definers [] key h = absurd h
all_definers (x ∷ list) key h = either x list key (any_split (definition_in x) (definitions list) key h) (λ k. all_definers list key k)

only_name : (a c : Named) → Contains {X = Named} [] c ⊎ (a ≡ c) → a ≡ c
only_name a c (inl k) = absurd (in_none c k)
only_name a c (inr e) = e

no_object : (words : Words) (pointer : Bool) (d : GlobalDeclarator) (g : Function) → Declared.OfObject words pointer d ≡ Declared.OfFunction g → ⊥
no_object words pointer d g h = cc

body_defines : (f : Function) (key : List ℕ) (b : Bool) → b ≡ true → f.name.bytes ≡ key → Defines (definition_by f b) key
body_defines f key true e same = inl same
body_defines f key false e same = absurd (false≢true e)

objects_by : (words : Words) (pointer : Bool) (d : GlobalDeclarator) (list : List GlobalDeclarator) (key : List ℕ) (g : Function) →
    Contains {X = Named} ((d.name.bytes, Declared.OfObject words pointer d) ∷ []) (key, Declared.OfFunction g) ⊎ Contains (objects_names words false list) (
      key,
      Declared.OfFunction g,
    ) →
    (Contains (objects_names words false list) (key, Declared.OfFunction g) → ⊥) → ⊥
objects_by words pointer d list key g (inl c) more =
    no_object words pointer d g (ap (λ (p : Named). p.1)
    (only_name (d.name.bytes, Declared.OfObject words pointer d) (key, Declared.OfFunction g)
    (Contains-push_cases [] (d.name.bytes, Declared.OfObject words pointer d) (key, Declared.OfFunction g) c)))
objects_by words pointer d list key g (inr c) more = more c

no_objects : (words : Words) (pointer : Bool) (list : List GlobalDeclarator) (key : List ℕ) (g : Function) → Contains (objects_names words pointer list) (
  key,
  Declared.OfFunction g,
) → ⊥
no_objects words pointer [] key g c = in_none (key, Declared.OfFunction g) c
no_objects words pointer (d ∷ list) key g c =
    objects_by words pointer d list key g (Contains-append_cases ((d.name.bytes, Declared.OfObject words pointer d) ∷ []) (objects_names words false list) (
      key,
      Declared.OfFunction g,
    ) c)
    (λ k. no_objects words false list key g k)

one_defines : (x : ExternalDeclaration) (key : List ℕ) (g : Function) → is_some g.body ≡ true → Contains (names_of x) (key, Declared.OfFunction g) → Defines (definition_in x) key
one_defines (external.Function f) key g body c =
    let e = only_name (f.name.bytes, Declared.OfFunction f) (key, Declared.OfFunction g) (Contains-push_cases [] (f.name.bytes, Declared.OfFunction f) (
      key,
      Declared.OfFunction g,
    ) c) in
    let same = same_function f g (ap (λ (p : Named). p.1) e) in
    body_defines f key (is_some f.body) (ap (λ (z : Function). is_some z.body) same ∙ body) (ap (λ (p : Named). p.0) e)
one_defines (external.Objects o) key g body c = absurd (no_objects o.specifiers o.is_pointer o.declarators key g c)

defines_by : (x : ExternalDeclaration) (list : List ExternalDeclaration) (key : List ℕ) (g : Function) → is_some g.body ≡ true →
    Contains (names_of x) (key, Declared.OfFunction g) ⊎ Contains (flat_map names_of list) (key, Declared.OfFunction g) →
    (Contains (flat_map names_of list) (key, Declared.OfFunction g) → Defines (definitions list) key) → Defines (definitions (x ∷ list)) key
defines_by x list key g body (inl c) more = any_left (definition_in x) (definitions list) key (one_defines x key g body c)
defines_by x list key g body (inr c) more = any_right (definition_in x) (definitions list) key (more c)

all_defines : (list : List ExternalDeclaration) (key : List ℕ) (g : Function) → is_some g.body ≡ true → Contains (flat_map names_of list) (key, Declared.OfFunction g) →
    Defines (definitions list) key
all_defines [] key g body c = absurd (in_none (key, Declared.OfFunction g) c)
all_defines (x ∷ list) key g body c =
    defines_by x list key g body (Contains-append_cases (names_of x) (flat_map names_of list) (key, Declared.OfFunction g) c) (λ k. all_defines list key g body k)

-- ---- declarations one after another

flat_append : (xs : List ExternalDeclaration) (d : ExternalDeclaration) → flat_map names_of (xs ++ d ∷ []) ≡ flat_map names_of xs ++ names_of d
flat_append [] d = append-nil (names_of d)
flat_append (x ∷ xs) d = ap (λ l. names_of x ++ l) (flat_append xs d) ∙ sym (append_assoc (names_of x) (flat_map names_of xs) (names_of d))

one_number : (f : Function) (n : ℕ) (b : Bool) → (if b then suc n else n) ≡ n + length (definition_by f b ++ [])
one_number f n true = omega arith
one_number f n false = omega arith

number_is : (d : ExternalDeclaration) (n : ℕ) → number_behind d n ≡ n + length (definitions (d ∷ []))
number_is (external.Function f) n = one_number f n (is_some f.body)
number_is (external.Objects o) n = omega arith

module _ (tree : TranslationUnit) (few : IsOfFew tree) where
  abbrev D : List (List ℕ × ℕ)
  D = t.definitions tree.declarations

  record At (w : Where) (n : ℕ) (list : List ExternalDeclaration) : Type 0 where
    pub before : List ExternalDeclaration
    pub text : before ++ list ≡ tree.declarations
    pub scope : w.scopes ≡ flat_map names_of before ∷ []
    pub count : n ≡ length (definitions before)

  next : (w : Where) (n : ℕ) (d : ExternalDeclaration) (more : List ExternalDeclaration) → At w n (d ∷ more) → At (behind (names_of d) w) (number_behind d n) more
  next w n d more h = record {
    before = h.before ++ d ∷ [];
    text = append_assoc h.before (d ∷ []) more ∙ h.text;
    scope = ap (with_names (names_of d)) h.scope ∙ ap (λ l. l ∷ []) (sym (flat_append h.before d));
    count = number_is d n ∙ ap (λ k. k + length (definitions (d ∷ []))) h.count ∙ sym (definitions_both h.before (d ∷ []));
  }

  abbrev Second : Function → Header → ℕ → Bool
  Second f h n = y.is_second f h n

  second_and : (b c : Bool) → (b && not c) ≡ true → c ≡ true → ⊥
  second_and true true h e = false≢true h
  second_and false c h e = false≢true h
  second_and true false h e = false≢true e

  both_and : (b c : Bool) → b ≡ true → c ≡ false → (b && not c) ≡ true
  both_and true false h e = refl
  both_and false c h e = absurd (false≢true h)
  both_and true true h e = absurd (false≢true (sym e))

  decided : (before : List ExternalDeclaration) (key : List ℕ) (b : Bool) → is_some (named_in (noted_by ([], 0) before).0 key) ≡ b → Defines (definitions before) key ⊎
      (Defines (definitions before) key → ⊥)
  decided before key true e = inl (from_nothing key before (all_back before ([], 0) key e))
  decided before key false e = inr (λ k. false≢true (sym e ∙ all_here before ([], 0) key k))

  forced : (P : Type 0) → P ⊎ (P → ⊥) → ((P → ⊥) → ⊥) → P
  forced P (inl p) h = p
  forced P (inr n) h = absurd (h n)

  few_before : (before list : List ExternalDeclaration) (n : ℕ) → before ++ list ≡ tree.declarations → n ≡ length (definitions before) → n ≤ most
  few_before before list n text count =
      let all : length (definitions (before ++ list)) < 2 ^ 32 = subst (λ l. length (definitions l) < 2 ^ 32) (sym text) few in
      omega (arith, definitions_both before list)

  second_is : (w : Where) (n : ℕ) (f : Function) (h : Header) (rest : List ExternalDeclaration) → At w n (external.Function f ∷ rest) → h ≡ header_in D f → IsSecondBy D w
      f (Second f h n)
  second_is w n f h rest here is =
      let B = here.before in
      let scope = ap innermost here.scope in
      let numbers = ap (λ (z : Header). y.same_number z.definition (place_in_tree n)) is in
      record {
        is = λ t.
            let body = (and_parts (is_some f.body) (not (y.same_number h.definition (place_in_tree n))) t).0 in
            let some = forced (Defines (definitions B) f.name.bytes) (decided B f.name.bytes (is_some (named_in (noted_by ([], 0) B).0 f.name.bytes)) refl)
            (λ none. second_and (is_some f.body) (y.same_number h.definition (place_in_tree n)) t
            (numbers ∙ first_number B f rest tree.declarations here.text n here.count body none)) in
            let d = all_definers B f.name.bytes some in
            (d.0, subst (λ l. Contains l (f.name.bytes, Declared.OfFunction d.0)) (sym scope) d.1, d.2, body);
        back = λ out g c defined body.
            let some = all_defines B f.name.bytes g defined (subst (λ l. Contains l (f.name.bytes, Declared.OfFunction g)) scope c) in
            false≢true (sym out ∙ both_and (is_some f.body) (y.same_number h.definition (place_in_tree n)) body
            (numbers ∙ second_number B f rest tree.declarations here.text n here.count (few_before B (external.Function f ∷ rest) n here.text here.count) some));
      }

  abbrev F : List Function
  F = definitions tree.declarations

  abbrev L : Ledger
  L = twice_ledger F

  scoping_twice : Scoping L
  unfolding n.scoping_named
  scoping_twice =
      let N = n.scoping_named D in
      record {
        Agrees = Agrees D;
        Means = λ w name. IsMeant D;
        events = λ s w agrees. h.events F s w;
        creates = λ s w agrees. no_creates L s w (h.events F s w) (creation_quiet F) (λ thread name x k. k);
        opened = N.opened;
        is_open = N.is_open;
        closed = N.closed;
        no_names = N.no_names;
        loops = N.loops;
        local = N.local;
        declares = λ x w name d o agrees means. record { writes = h.declares D F x w name d o agrees means; agrees = (N.declares x w name d o agrees means).agrees; value = tt };
        variable = N.variable;
        parameter = N.parameter;
        IsSwitched = λ w over ty. ty ≡ switch_type F w over;
        switched = λ s w over at cuts found agrees. switch_type_is tree s w over at cuts found agrees;
        case = λ s w over ty before l e c agrees typed noted some. case_is F w over ty typed before l c noted e some;
        default = λ s w over ty before l c agrees typed noted none. default_is F w over ty typed before l c noted none;
        Held = N.Held;
        object = N.object;
        held_object = N.held_object;
        held_function = N.held_function;
        held_none = N.held_none;
        At = At;
        next = next;
        IsHeader = N.IsHeader;
        header = N.header;
        gives = λ s w k rest g here agrees. N.gives s w k rest g tt agrees;
        declares_function = λ x w k f z rest here agrees is. record {
          writes = h.function_declared D F x w f z (y.is_second f z k) agrees (second_is w k f z rest here is);
          agrees = (N.declares_function x w k f z rest tt agrees is).agrees;
          value = tt;
        };
        entered = λ s w v k from f z rest here e is g agrees. N.entered s w v k from f z rest tt e is g agrees;
        left_body = λ s w v k f rest here e agrees. N.left_body s w v k f rest tt e agrees;
        no_locals = N.no_locals;
      }

  text_twice : Writes L nothing (resolving.behind tree.declarations).found (parts tree)
  unfolding resolving.behind t.declarations scoping_twice
  text_twice =
      text_is L scoping_twice tree.declarations tt at_first 0 (record { before = []; text = refl; scope = refl; count = refl }) (before tree.declarations) tt
      (record { defined = refl; scopes = (record { same = λ key own. tt }, refl) }) refl

  -- ---- the rule

  twice_breaks : (w : Where) (name : Name) (d : Declared) → Contains (parts tree) (Part.Declares w name d) → IsTwice w name d → Breaks tree rule.Twice name.offset
  twice_breaks w name d c (inl k) = Breaks.KnownDeclared w name d c k
  twice_breaks w name d c (inr (inl k)) = Breaks.DeclaredAgain w name d k.earlier c k.first k.no_functions
  twice_breaks w name d c (inr (inr k)) =
      Breaks.SecondBody w name k.f k.g k.earlier (subst (λ z. Contains (parts tree) (Part.Declares w name z)) k.is c) k.first k.function k.before k.defined k.again

  -- a label is a case of the value
  case_of : (w : Where) (over : Expression) (l : CaseLabel) (z : ℤ) (e : Expression) → l.value ≡ Some e → (k : Constancy) → constancy e ≡ k →
      IsValue (switch_type F w over) k z → IsCase tree w over l z
  case_of w over l z e some (is.Constant x) constant h = record { e = e; case = some; x = x; constant = constant; value = h }
  case_of w over l z e some is.Unknown constant h = absurd h
  case_of w over l z e some is.NotConstant constant h = absurd h

  case_by : (w : Where) (over : Expression) (l : CaseLabel) (z : ℤ) (v : Option Expression) → l.value ≡ v → IsCaseOf (switch_type F w over) v z → IsCase tree w over l z
  case_by w over l z None e h = absurd h
  case_by w over l z (Some x) e h = case_of w over l z x e (constancy x) refl h

  case_is_value : (w : Where) (over : Expression) (l : CaseLabel) (z : ℤ) → IsCase tree w over l z → IsCaseOf (switch_type F w over) l.value z
  case_is_value w over l z h =
      subst (λ v. IsCaseOf (switch_type F w over) v z) (sym h.case) (subst (λ k. IsValue (switch_type F w over) k z) (sym h.constant) h.value)

  label_breaks : (w : Where) (over : Expression) (before : List CaseLabel) (l : CaseLabel) (at : ℕ) → Contains (parts tree) (Part.Label w over before l) →
      IsSecondCase F w over before l (fault_of rule.Twice at) ⊎ IsSecondDefault F before l (fault_of rule.Twice at) → Breaks tree rule.Twice at
  label_breaks w over before l at c (inl h) =
      let earlier = any_contains (λ (k : CaseLabel). IsCaseOf (switch_type F w over) k.value h.z) before h.seen in
      at_place tree rule.Twice at (out-Expression h.e).offset h.here
      (Breaks.SecondCase w over h.e before l earlier.0 h.z c h.case (case_by w over l h.z l.value refl h.value) earlier.1
      (case_by w over earlier.0 h.z earlier.0.value refl earlier.2))
  label_breaks w over before l at c (inr h) =
      let earlier = any_contains (λ (k : CaseLabel). k.value ≡ None) before h.seen in
      at_place tree rule.Twice at l.offset h.here (Breaks.SecondDefault w over before l earlier.0 c h.default earlier.1 earlier.2)

  part_breaks : (at : ℕ) (part : Part) → Contains (parts tree) part → BreaksAt F part (fault_of rule.Twice at) → Breaks tree rule.Twice at
  part_breaks at (Part.Declares w name d) c h = at_place tree rule.Twice at name.offset h.1 (twice_breaks w name d c h.0)
  part_breaks at (Part.Label w over before l) c h = label_breaks w over before l at c h
  part_breaks at other c h = absurd h

  pub sound : (at : ℕ) → IsFirstFault tree (Some (fault_of rule.Twice at)) → Breaks tree rule.Twice at
  sound at h =
      let p = first_part IsJudged (BreaksAt F) tree text_twice (fault_of rule.Twice at) tt tt h in
      part_breaks at p.0 p.1 p.2

  -- what breaks the rule is a part
  abbrev Broken : Rule → ℕ → Type 0
  Broken rule.Twice at = IsPart (BreaksAt F) tree (fault_of rule.Twice at)
  Broken r at = Unit {0}

  broken_part : (r : Rule) (at : ℕ) → Breaks tree r at → Broken r at
  broken_part r at (Breaks.KnownDeclared w name d c k) = (Part.Declares w name d, c, (inl k, refl))
  broken_part r at (Breaks.DeclaredAgain w name d x c first out) =
      (Part.Declares w name d, c, (inr (inl (record { earlier = x; first = first; no_functions = out })), refl))
  broken_part r at (Breaks.SecondBody w name f g x c first function before defined again) = (
    Part.Declares w name (Declared.OfFunction f),
    c,
    (inr (inr (record { f = f; is = refl; earlier = x; first = first; function = function; g = g; before = before; defined = defined; again = again })), refl),
  )
  broken_part r at (Breaks.SecondCase w over e before label earlier z c here case seen also) = (
    Part.Label w over before label,
    c,
    inl (record {
      e = e;
      case = here;
      z = z;
      value = case_is_value w over label z case;
      seen = contains_any (λ (k : CaseLabel). IsCaseOf (switch_type F w over) k.value z) before earlier seen (case_is_value w over earlier z also);
      here = refl;
    }),
  )
  broken_part r at (Breaks.SecondDefault w over before label earlier c default seen also) = (
    Part.Label w over before label,
    c,
    inr (record { default = default; seen = contains_any (λ (k : CaseLabel). k.value ≡ None) before earlier seen also; here = refl }),
  )
  broken_part r at other = tt

  pub complete : (fault : Option Fault) (at : ℕ) → IsFirstFault tree fault → Breaks tree rule.Twice at → IsNotBehind fault rule.Twice at
  complete fault at h b =
      not_behind fault rule.Twice at (part_reached IsJudged (BreaksAt F) tree text_twice fault (fault_of rule.Twice at) h (broken_part rule.Twice at b))

pub twice_sound : FaultsAreBrokenOfFew rule.Twice
twice_sound tree at few h = sound tree few at h

pub twice_complete : BrokenAreFaultsOfFew rule.Twice
twice_complete tree fault at few h b = complete tree few fault at h b
