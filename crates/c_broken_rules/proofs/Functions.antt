-- What functions write.
use Rattle.std.proofs.Common.{◌≡◌, refl, sym, subst, ap, ◌∙◌, ℕ, suc, Bool, true, false, List, [], ◌∷◌, ◌++◌, Option, Some, None, length}
use Rattle.std.specs.Prelude.{if◌then◌else◌, not, is_some}
use Rattle.std.specs.List.{flat_map}
use Rattle.std.proofs.lemmas.List.{append-nil}
use Rattle.lists.proofs.Places.{length_more}
use Rattle.hls_ints.specs.Types.{int_type}
use Rattle.c_tree.specs.declared.expression.Name.{Name}
use Rattle.c_tree.specs.declared.statement.Block.{Block}
use Rattle.c_tree.specs.declared.declaration.Function.{Function}
use Rattle.c_tree.specs.declared.declaration.Parameter.{Parameter}
use Rattle.c_tree.specs.declared.declaration.ExternalDeclaration.{ExternalDeclaration}
use Rattle.c_tree.specs.declared.declaration.ExternalDeclaration.TheVariants as external
use Rattle.c_program.specs.declared.tree.ReturnType.{ReturnType}
use Rattle.c_program.specs.Tree.{Statement}
use Rattle.c_rules.specs.declared.fault.Rule.TheVariants as rule
use Rattle.c_rules.specs.declared.specifiers.BasicType.{BasicType}
use Rattle.c_rules.specs.declared.specifiers.BasicType.TheVariants.{Long}
use Rattle.c_rules.specs.declared.dimensions.Dimensions.TheVariants.{Scalar}
use Rattle.c_rules.specs.declared.names.Meaning.{Meaning}
use Rattle.c_rules.specs.declared.names.Meaning.TheVariants as meaning
use Rattle.c_rules.specs.declared.names.Header.{Header}
use Rattle.c_rules.specs.declared.names.Scope.{Scope}
use Rattle.c_rules.specs.declared.findings.Findings.{Findings}
use Rattle.c_rules.specs.Names.{is_start_routine, is_taken, opened, closed, declaring}
use Rattle.c_rules.specs.Levels.{named_in}
use Rattle.c_rules.specs.Library.{function_named}
use Rattle.c_rules.specs.Specifiers.{c_type, plain, spelled_by}
use Rattle.c_rules.specs.Walks.{Outcome, Finds, pure, finds, finds_if, through, place_in_tree, ◌>>=◌, ◌>>◌}
use Rattle.c_resolution.specs.States.{State, state, Goes, finding, scoping, in_scope}
use Rattle.c_resolution.specs.Statements.{items}
use Rattle.c_resolution.specs.Locals as l
use Rattle.c_resolution.specs.Files.{File, Tables, file, Declares, in_file, going}
use Rattle.c_resolution.specs.Functions as y
use Rattle.c_resolution.specs.Texts as t
use Rattle.c_broken_rules.specs.Sight.{Declared, Names, Where, behind, inside}
use Rattle.c_broken_rules.specs.Parts as p
use Rattle.c_broken_rules.specs.Parts.{Part, Parts}
use Rattle.c_broken_rules.specs.Typing.{plain_type, type_of_plain}
use Rattle.c_broken_rules.proofs.Ledgers.{Ledger, Good, Writes, given, left, turn, after_one, nothing_new, writes_both, writes_with}
use Rattle.c_broken_rules.proofs.Events.{Events}
use Rattle.c_broken_rules.proofs.Locals.{IsLocal, new_local, refused_local}
use Rattle.c_broken_rules.proofs.Statements.{block}
use Rattle.c_broken_rules.proofs.Globals.{Files, Filed, file_then, file_going, going_tables, then_tables, objects}
use Rattle.c_broken_rules.proofs.Walks.{Scoping, open_behind, Right, Goes_right, IsUsual, IsParameter, type_of_meaning, within, right_pure, right_then, right_before}
use Rattle.c_broken_rules.proofs.Walks.{right_finding, right_finding_is, right_scoping, right_as, behind_both}

-- ---- what a function gives stays

abbrev pub Keeps : {A : Type 0} → Goes A → Type 0
Keeps walk = (x : State) → (left (walk x)).scope.gives ≡ x.scope.gives

keeps_then : {A B : Type 0} (q : Goes A) (r : A → Goes B) → Keeps q → ((a : A) → Keeps (r a)) → Keeps (q >>= r)
keeps_then {A} {B} q r h k x = ap (λ (o : Outcome State B). (left o).scope.gives) (turn (q x) r) ∙ k (given (q x)) (left (q x)) ∙ h x

in_scope_keeps : {A : Type 0} (scope : Scope) (o : Outcome Findings A) → (left (in_scope scope o)).scope.gives ≡ scope.gives
in_scope_keeps scope (Outcome.Gives a found) = refl

keeps_finding : {A : Type 0} (walk : Scope → Finds A) → Keeps (finding walk)
keeps_finding walk x = in_scope_keeps x.scope (walk x.scope x.found)

keeps_scoping : (change : Scope → Scope) → ((s : Scope) → (change s).gives ≡ s.gives) → Keeps (scoping change)
keeps_scoping change h x = h x.scope

declared_keeps : (name : Name) (m : Meaning) (x : State) (b : Bool) →
    (left (if b then finding (λ scope. finds rule.Twice name.offset) x else scoping (declaring name.bytes m) x)).scope.gives ≡ x.scope.gives
unfolding declaring
declared_keeps name m x true = keeps_finding (λ scope. finds rule.Twice name.offset) x
declared_keeps name m x false = refl

keeps_declare : (name : Name) (m : Meaning) → Keeps (l.declare name m)
unfolding l.declare
keeps_declare name m x = declared_keeps name m x (is_taken x.scope name.bytes)

keeps_parameter_of : (q : Parameter) (at : ℕ) (o : Option BasicType) → Keeps (y.parameter_of (spelled_by q.specifiers) at o)
unfolding l.new_local
keeps_parameter_of q at (Some ty) x = refl
keeps_parameter_of q at None x = keeps_finding (λ s. l.refused_local (spelled_by q.specifiers) at) x

keeps_pointer : (q : Parameter) (routine : Bool) (at : ℕ) → Keeps (y.pointer_parameter (spelled_by q.specifiers) routine at)
unfolding l.new_local
keeps_pointer q routine at x = refl

keeps_meaning_by : (q : Parameter) (routine : Bool) (at : ℕ) (b : Bool) → Keeps (if b then y.pointer_parameter (spelled_by q.specifiers) routine at
    else y.parameter_of (spelled_by q.specifiers) at (plain (spelled_by q.specifiers).is_static (spelled_by q.specifiers).base))
keeps_meaning_by q routine at true = keeps_pointer q routine at
keeps_meaning_by q routine at false = keeps_parameter_of q at (plain (spelled_by q.specifiers).is_static (spelled_by q.specifiers).base)

keeps_meaning : (q : Parameter) (routine : Bool) (at : ℕ) → Keeps (y.parameter_meaning q routine at)
unfolding y.parameter_meaning
keeps_meaning q routine at = keeps_meaning_by q routine at q.is_pointer

keeps_named : (q : Parameter) (routine has_body : Bool) (o : Option Name) → Keeps (y.named_parameter q routine has_body o)
keeps_named q routine has_body (Some name) =
    keeps_then (y.parameter_meaning q routine name.offset) (λ m. l.declare name m) (keeps_meaning q routine name.offset) (λ m. keeps_declare name m)
keeps_named q routine has_body None =
    keeps_then (y.parameter_meaning q routine q.specifiers.offset) (λ _. finding (λ s. finds_if has_body rule.Kind q.specifiers.offset)) (keeps_meaning q routine
    q.specifiers.offset)
    (λ _. keeps_finding (λ s. finds_if has_body rule.Kind q.specifiers.offset))

keeps_parameter : (routine has_body : Bool) (q : Parameter) → Keeps (y.parameter routine has_body q)
unfolding y.parameter
keeps_parameter routine has_body q = keeps_named q routine has_body q.name

keeps_all : (routine has_body : Bool) (list : List Parameter) (u : Unit {0}) → Keeps (through (λ _ q. y.parameter routine has_body q) u list)
keeps_all routine has_body [] u x = refl
keeps_all routine has_body (q ∷ list) u x =
    let o = y.parameter routine has_body q x in
    ap (λ (z : Outcome State (Unit {0})). (left z).scope.gives) (after_one (λ _ q. y.parameter routine has_body q) u q list x)
    ∙ keeps_all routine has_body list (given o) (left o) ∙ keeps_parameter routine has_body q x

keeps_parameters : (routine has_body : Bool) (list : List Parameter) → Keeps (y.parameters routine has_body list)
unfolding y.parameters
keeps_parameters routine has_body list = keeps_all routine has_body list tt

opened_keeps : (s : Scope) → (opened s).gives ≡ s.gives
unfolding opened
opened_keeps s = refl

keeps_over : (h : Header) (name : Name) (second : Bool) (o : Option Meaning) → Keeps (y.declare_over h name second o)
keeps_over h name second None = keeps_scoping (y.with_header name h) (λ s. refl)
keeps_over h name second (Some (meaning.Function number)) = keeps_finding (λ s. y.declare_again s number h name second)
keeps_over h name second (Some meaning.Argument) = keeps_finding (λ s. finds rule.Twice name.offset)
keeps_over h name second (Some meaning.Unusable) = keeps_finding (λ s. finds rule.Twice name.offset)
keeps_over h name second (Some (meaning.Variable v)) = keeps_finding (λ s. finds rule.Twice name.offset)
keeps_over h name second (Some (meaning.Object o)) = keeps_finding (λ s. finds rule.Twice name.offset)

known_keeps : (h : Header) (name : Name) (second : Bool) (x : State) (b : Bool) →
    (left (if b then y.twice name x else y.declare_over h name second (named_in x.scope.inner name.bytes) x)).scope.gives ≡ x.scope.gives
known_keeps h name second x true = keeps_finding (λ s. finds rule.Twice name.offset) x
known_keeps h name second x false = keeps_over h name second (named_in x.scope.inner name.bytes) x

keeps_function : (h : Header) (name : Name) (second : Bool) → Keeps (y.declare_function h name second)
unfolding y.declare_function
keeps_function h name second x = known_keeps h name second x (is_some (function_named name.bytes))

-- ---- a function declares no thread object

abbrev KeepsThreads : {A : Type 0} → Declares A → Type 0
KeepsThreads walk = (x : File) → (left (walk x)).tables.threads ≡ x.tables.threads

threads_going : {A : Type 0} (walk : Goes A) → KeepsThreads (going walk)
threads_going walk x = ap (λ (z : Tables). z.threads) (going_tables walk x)

threads_then : {A B : Type 0} (q : Declares A) (r : A → Declares B) → KeepsThreads q → ((a : A) → KeepsThreads (r a)) → KeepsThreads (q >>= r)
threads_then q r h k x = ap (λ (z : Tables). z.threads) (then_tables q r x) ∙ k (given (q x)) (left (q x)) ∙ h x

threads_definition : (f : Function) (returns : ReturnType) (body : Block) → KeepsThreads (y.definition f returns body)
unfolding y.definition
threads_definition f returns body x =
    let enter = y.entered (place_in_tree (length x.tables.functions)) (y.kept_from (length x.scope.locals) body) in
    let last = λ (b : Statement) (u : Unit {0}). y.finished f returns body (length x.scope.locals) b in
    threads_then (going (scoping enter)) (λ _. going (items body) >>= (λ b. going (scoping y.left) >>= last b)) (threads_going (scoping enter))
    (λ _. threads_then (going (items body)) (λ b. going (scoping y.left) >>= last b) (threads_going (items body))
    (λ b. threads_then (going (scoping y.left)) (last b) (threads_going (scoping y.left)) (λ _ z. refl))) x

threads_body : (f : Function) (returns : ReturnType) (o : Option Block) → KeepsThreads (y.body_of f returns o)
threads_body f returns None x = refl
threads_body f returns (Some body) x = threads_definition f returns body x

function_threads : (f : Function) → KeepsThreads (y.function f)
unfolding y.function y.function_by
function_threads f x =
    let h = y.header x.scope f in
    let head = y.head f h (length x.tables.functions) in
    let last = λ (u : Unit {0}). going (scoping y.without_locals) >> going (scoping closed) in
    threads_then (going head) (λ _. y.body_of f (y.return_type h) f.body >>= last) (threads_going head)
    (λ _. threads_then (y.body_of f (y.return_type h) f.body) last (threads_body f (y.return_type h) f.body)
    (λ u. threads_then (going (scoping y.without_locals)) (λ _. going (scoping closed)) (threads_going (scoping y.without_locals)) (λ _. threads_going (scoping closed)))) x

-- ---- parameters

written_is : (list : List Parameter) → (if y.is_no_parameter list then [] else list) ≡ p.parameters_in list
written_is [] = refl
written_is (only ∷ []) = refl
written_is (first ∷ next ∷ more) = refl

module _ (L : Ledger) (S : Scoping L) where
  kind_if : (s : Scope) (w : Where) (b : Bool) (at : ℕ) → Events L s w → Good L (finds_if b rule.Kind at) []
  kind_if s w true at events = record { writes = (events.other rule.Kind at tt).writes }
  kind_if s w false at events = record { writes = λ found. nothing_new L found }

  other_if : (b : Bool) (at : ℕ) (w : Where) → Goes_right L S w (finding (λ s. finds_if b rule.Kind at)) (λ _. Unit {0}) [] w
  other_if b at w = right_finding L S (λ s. finds_if b rule.Kind at) [] w (λ s agrees. kind_if s w b at (S.events s w agrees))

  parameter_local : (q : Parameter) (at : ℕ) (w : Where) (o : Option BasicType) → plain (spelled_by q.specifiers).is_static (spelled_by q.specifiers).base ≡ o →
      Goes_right L S w (y.parameter_of (spelled_by q.specifiers) at o) (IsLocal q.specifiers) (Part.Local q.specifiers at ∷ []) w
  parameter_local q at w (Some ty) is x agrees =
      let h = new_local L S (spelled_by q.specifiers) Scalar ty w x agrees in
      record {
        writes = writes_with L (Part.Local q.specifiers at) ((S.events x.scope w agrees).no_local q.specifiers at ty is) h.writes;
        agrees = h.agrees;
        value = (h.value.0, h.value.1 ∙ sym (ap type_of_plain is));
      }
  parameter_local q at w None is x agrees =
      right_finding_is L S (λ s. l.refused_local (spelled_by q.specifiers) at) (IsLocal q.specifiers) (Part.Local q.specifiers at ∷ []) w
      (λ s agrees. (S.events s w agrees).local q.specifiers at is) (λ s found. refused_local q.specifiers at found is) x agrees

  pointer_is : (q : Parameter) (routine : Bool) (at : ℕ) (w : Where) →
      Goes_right L S w (y.pointer_parameter (spelled_by q.specifiers) routine at) (λ m. m ≡ meaning.Argument) [] w
  pointer_is q routine at w =
      let IsNew = λ (m : Meaning). IsUsual m × (type_of_meaning m ≡ c_type Long) in
      right_then L S (finding (λ s. finds_if (not routine) rule.Kind at)) (λ _. l.new_local (spelled_by q.specifiers) Scalar Long >> pure meaning.Argument) (λ _. Unit {0})
      (λ m. m ≡ meaning.Argument) [] [] w w w (other_if (not routine) at w)
      (λ _ _. right_then L S (l.new_local (spelled_by q.specifiers) Scalar Long) (λ _. pure meaning.Argument) IsNew (λ m. m ≡ meaning.Argument) [] [] w w w
      (new_local L S (spelled_by q.specifiers) Scalar Long w) (λ _ _. right_pure L S (λ m. m ≡ meaning.Argument) meaning.Argument w refl))

  -- what a parameter stands for, which has a * or not
  abbrev IsPassed : Parameter → Bool → Meaning → Type 0
  IsPassed q b m = IsParameter b m × (type_of_meaning m ≡ (if b then int_type else plain_type q.specifiers))

  meaning_by : (q : Parameter) (routine : Bool) (at : ℕ) (w : Where) (b : Bool) →
      Goes_right L S w (if b then y.pointer_parameter (spelled_by q.specifiers) routine at
      else y.parameter_of (spelled_by q.specifiers) at (plain (spelled_by q.specifiers).is_static (spelled_by q.specifiers).base)) (IsPassed q b)
      (if b then [] else Part.Local q.specifiers at ∷ []) w
  meaning_by q routine at w true =
      right_as L S (y.pointer_parameter (spelled_by q.specifiers) routine at) (λ m. m ≡ meaning.Argument) (IsPassed q true) [] w w w (λ m is. (is, ap type_of_meaning is))
      (λ s agrees. agrees) (pointer_is q routine at w)
  meaning_by q routine at w false = parameter_local q at w (plain (spelled_by q.specifiers).is_static (spelled_by q.specifiers).base) refl

  meaning_is : (q : Parameter) (routine : Bool) (at : ℕ) (w : Where) → Goes_right L S w (y.parameter_meaning q routine at) (IsPassed q q.is_pointer) (p.local_of q at) w
  unfolding y.parameter_meaning
  meaning_is q routine at w = meaning_by q routine at w q.is_pointer

  named_is : (q : Parameter) (routine has_body : Bool) (o : Option Name) (w : Where) →
      Goes_right L S w (y.named_parameter q routine has_body o) (λ _. Unit {0}) (p.parameter_by w q o) (behind (p.named_parameter q o) w)
  named_is q routine has_body (Some name) w =
      let v = behind (p.named_parameter q (Some name)) w in
      right_then L S (y.parameter_meaning q routine name.offset) (λ m. l.declare name m) (IsPassed q q.is_pointer) (λ _. Unit {0}) (p.local_of q name.offset)
      (Part.Declares w name (Declared.OfParameter q) ∷ []) w w v (meaning_is q routine name.offset w)
      (λ m is x agrees. S.declares x w name (Declared.OfParameter q) m agrees (S.parameter w name q m is.0 is.1))
  named_is q routine has_body None w =
      right_as L S (y.named_parameter q routine has_body None) (λ _. Unit {0}) (λ _. Unit {0}) (p.local_of q q.specifiers.offset) w w (behind [] w) (λ _ u. u)
      (λ s agrees. S.no_names s w agrees)
      (right_before L S (y.parameter_meaning q routine q.specifiers.offset) (λ _. finding (λ s. finds_if has_body rule.Kind q.specifiers.offset)) (IsPassed q q.is_pointer)
      (λ _. Unit {0}) (p.local_of q q.specifiers.offset) w w w (meaning_is q routine q.specifiers.offset w) (λ _ _. other_if has_body q.specifiers.offset w))

  parameter_is : (routine has_body : Bool) (q : Parameter) (w : Where) →
      Goes_right L S w (y.parameter routine has_body q) (λ _. Unit {0}) (p.parameter_by w q q.name) (behind (p.named_parameter q q.name) w)
  unfolding y.parameter
  parameter_is routine has_body q w = named_is q routine has_body q.name w

  abbrev parameters_behind : List Parameter → Where → Where
  parameters_behind [] w = w
  parameters_behind (q ∷ list) w = parameters_behind list (behind (p.named_parameter q q.name) w)

  all_parameters : (routine has_body : Bool) (list : List Parameter) (u : Unit {0}) (w : Where) →
      Goes_right L S w (through (λ _ q. y.parameter routine has_body q) u list) (λ _. Unit {0}) (p.parameters_parts w list) (parameters_behind list w)
  all_parameters routine has_body [] u w x agrees = record { writes = nothing_new L x.found; agrees = agrees; value = tt }
  all_parameters routine has_body (q ∷ list) u w x agrees =
      let o = y.parameter routine has_body q x in
      let v = behind (p.named_parameter q q.name) w in
      let first = parameter_is routine has_body q w x agrees in
      let second = all_parameters routine has_body list (given o) v (left o) first.agrees in
      let ps = p.parameter_by w q q.name in
      let qs = p.parameters_parts v list in
      subst (λ (z : Outcome State (Unit {0})). Right L S.Agrees x z (λ _. Unit {0}) (ps ++ qs) (parameters_behind list v))
      (sym (after_one (λ _ q. y.parameter routine has_body q) u q list x))
      (record { writes = writes_both L ps qs first.writes second.writes; agrees = second.agrees; value = tt })

  to_names : (list : List Parameter) (s : Scope) (w : Where) → S.Agrees s (parameters_behind list w) → S.Agrees s (behind (p.parameter_names list) w)
  to_names [] s w h = S.no_names s w h
  to_names (q ∷ list) s w h =
      subst (λ v. S.Agrees s v) (behind_both (p.named_parameter q q.name) (p.parameter_names list) w) (to_names list s (behind (p.named_parameter q q.name) w) h)

  parameters_are : (routine has_body : Bool) (list : List Parameter) (w : Where) →
      Goes_right L S w (y.parameters routine has_body list) (λ _. Unit {0}) (p.parameters_parts w list) (behind (p.parameter_names list) w)
  unfolding y.parameters
  parameters_are routine has_body list w =
      right_as L S (through (λ _ q. y.parameter routine has_body q) tt list) (λ _. Unit {0}) (λ _. Unit {0}) (p.parameters_parts w list) w (parameters_behind list w)
      (behind (p.parameter_names list) w) (λ _ u. u) (λ s h. to_names list s w h) (all_parameters routine has_body list tt w)

  -- ---- a function: its head

  module _ (f : Function) (h : Header) (w : Where) (n : ℕ) (rest : List ExternalDeclaration) (here : S.At w n (external.Function f ∷ rest)) (is_header : S.IsHeader f h) where
    abbrev named : Where
    named = behind (p.function_names f) w

    abbrev params : Names
    params = p.parameter_names (p.parameters_of f)

    written : y.written f ≡ p.parameters_of f
    written = written_is f.parameters

    abbrev last : Goes (Unit {0})
    last = scoping opened >> y.parameters (is_start_routine h) (is_some f.body) (y.written f)

    abbrev middle : Goes (Unit {0})
    middle = y.declare_function h f.name (y.is_second f h n) >> last

    last_right : Goes_right L S named last (λ _. Unit {0}) (p.parameters_parts (inside named) (p.parameters_of f)) (within params named)
    last_right =
        right_then L S (scoping opened) (λ _. y.parameters (is_start_routine h) (is_some f.body) (y.written f)) (λ _. Unit {0}) (λ _. Unit {0}) []
        (p.parameters_parts (inside named) (p.parameters_of f)) named (inside named) (within params named)
        (right_scoping L S opened named (inside named) (λ s agrees. S.opened s named agrees))
        (λ _ _. subst (λ list. Goes_right L S (inside named) (y.parameters (is_start_routine h) (is_some f.body) list) (λ _. Unit {0})
        (p.parameters_parts (inside named) (p.parameters_of f)) (within params named)) (sym written)
        (parameters_are (is_start_routine h) (is_some f.body) (p.parameters_of f) (inside named)))

    head_right : Goes_right L S w (y.head f h n) (λ _. Unit {0})
        (Part.Declares w f.name (Declared.OfFunction f) ∷ p.parameters_parts (inside named) (p.parameters_of f)) (within params named)
    unfolding y.head
    head_right =
        let ps = Part.Declares w f.name (Declared.OfFunction f) ∷ p.parameters_parts (inside named) (p.parameters_of f) in
        right_then L S (scoping (y.with_gives (y.gives_of h))) (λ _. finding (λ s. finds_if (y.is_unlisted (y.gives_of h)) rule.Kind f.name.offset) >> middle) (λ _. Unit {0})
        (λ _. Unit {0}) [] ps w w (within params named)
        (right_scoping L S (y.with_gives (y.gives_of h)) w w (λ s agrees. S.gives s w n (external.Function f ∷ rest) (y.gives_of h) here agrees))
        (λ _ _. right_then L S (finding (λ s. finds_if (y.is_unlisted (y.gives_of h)) rule.Kind f.name.offset)) (λ _. middle) (λ _. Unit {0}) (λ _. Unit {0}) [] ps w w
        (within params named) (other_if (y.is_unlisted (y.gives_of h)) f.name.offset w)
        (λ _ _. right_then L S (y.declare_function h f.name (y.is_second f h n)) (λ _. last) (λ _. Unit {0}) (λ _. Unit {0})
        (Part.Declares w f.name (Declared.OfFunction f) ∷ []) (p.parameters_parts (inside named) (p.parameters_of f)) w named (within params named)
        (λ x agrees. S.declares_function x w n f h rest here agrees is_header) (λ _ _. last_right)))

    -- what the head leaves

    head_gives : (x : State) → (left (y.head f h n x)).scope.gives ≡ y.gives_of h
    unfolding y.head
    head_gives x =
        let at_kind = finding (λ s. finds_if (y.is_unlisted (y.gives_of h)) rule.Kind f.name.offset) in
        let keeps_last = keeps_then (scoping opened) (λ _. y.parameters (is_start_routine h) (is_some f.body) (y.written f)) (keeps_scoping opened opened_keeps)
        (λ _. keeps_parameters (is_start_routine h) (is_some f.body) (y.written f)) in
        let keeps_middle = keeps_then (y.declare_function h f.name (y.is_second f h n)) (λ _. last) (keeps_function h f.name (y.is_second f h n)) (λ _. keeps_last) in
        keeps_then at_kind (λ _. middle) (keeps_finding (λ s. finds_if (y.is_unlisted (y.gives_of h)) rule.Kind f.name.offset)) (λ _. keeps_middle)
        (state (y.with_gives (y.gives_of h) x.scope) x.found)

    -- ---- the body

    abbrev in_body : Where
    in_body = record { scopes = named.scopes; body = Some (n, f) }

    -- in a scope of its own round the function's
    record Closing {A : Type 0} (x : File) (o : Outcome File A) (ps : Parts) (m : ℕ) : Type 0 where
      pub end : Names
      pub filed : Filed L S.Agrees x o ps (within end named) m

    abbrev ending : ReturnType → Block → ℕ → Statement → Declares (Unit {0})
    ending returns body c b = going (scoping y.left) >> y.finished f returns body c b

    finished_is : (returns : ReturnType) (body : Block) (c : ℕ) (b : Statement) (v : Where) → Files L S v n (y.finished f returns body c b) (λ _. Unit {0}) [] v (suc n)
    finished_is returns body c b v x agrees count = (
      record {
        writes = nothing_new L x.found;
        agrees = agrees;
        counts = length_more x.tables.functions (y.defined f returns body c b x.scope.locals x.scope.local_names) ∙ ap suc count;
      },
      tt,
    )

    ending_is : (returns : ReturnType) (body : Block) (c : ℕ) (b : Statement) (E : Names) →
        Files L S (within E in_body) n (ending returns body c b) (λ _. Unit {0}) [] (within E named) (suc n)
    ending_is returns body c b E =
        file_then L S (going (scoping y.left)) (λ _. y.finished f returns body c b) (λ _. Unit {0}) (λ _. Unit {0}) [] [] (within E in_body) (within E named) (within E named) n n
        (suc n)
        (file_going L S (scoping y.left) (λ _. Unit {0}) [] (within E in_body) (within E named) n
        (right_scoping L S y.left (within E in_body) (within E named) (λ s agrees. S.left_body s w (within E named) n f rest here refl agrees)))
        (λ _ _. finished_is returns body c b (within E named))

    definition_is : (returns : ReturnType) (body : Block) (x : File) → S.Agrees x.scope (within params named) → length x.tables.functions ≡ n → x.scope.gives ≡ y.gives_of h →
        Closing x (y.definition f returns body x) (p.block_parts body (within params in_body)) (suc n)
    unfolding y.definition
    definition_is returns body x agrees count gives =
        let E = (block L S body).end params in_body in
        let c = length x.scope.locals in
        let bs = p.block_parts body (within params in_body) in
        let inner = λ (k : ℕ). (going (items body) >>= (λ b. ending returns body c b)) (file (y.entered (place_in_tree k) (y.kept_from c body) x.scope) x.found x.tables) in
        let entered = S.entered x.scope w (within params named) n (y.kept_from c body) f h rest here refl is_header gives agrees in
        let h = file_then L S (going (items body)) (λ b. ending returns body c b) (λ _. Unit {0}) (λ _. Unit {0}) bs [] (within params in_body) (within E in_body) (within
        E named) n n
        (suc n) (file_going L S (items body) (λ _. Unit {0}) bs (within params in_body) (within E in_body) n ((block L S body).is params in_body))
        (λ b _. ending_is returns body c b E) (file (y.entered (place_in_tree n) (y.kept_from c body) x.scope) x.found x.tables) entered count in
        let whole : Filed L S.Agrees x (inner n) bs (within E named) (suc n) = record {
          writes = subst (λ ps. Writes L x.found (left (inner n)).found ps) (append-nil bs) h.0.writes;
          agrees = h.0.agrees;
          counts = h.0.counts;
        } in
        record { end = E; filed = subst (λ k. Filed L S.Agrees x (inner k) bs (within E named) (suc n)) (sym count) whole }

    body_is : (returns : ReturnType) (o : Option Block) (x : File) → S.Agrees x.scope (within params named) → length x.tables.functions ≡ n → x.scope.gives ≡ y.gives_of h →
        Closing x (y.body_of f returns o x) (p.body_parts n f o (within params named)) (if is_some o then suc n else n)
    body_is returns None x agrees count gives = record { end = params; filed = record { writes = nothing_new L x.found; agrees = agrees; counts = count } }
    body_is returns (Some body) x agrees count gives = definition_is returns body x agrees count gives

    -- ---- the whole

    abbrev closing : Declares (Unit {0})
    closing = going (scoping y.without_locals) >> going (scoping closed)

    closing_is : (E : Names) (m : ℕ) → Files L S (within E named) m closing (λ _. Unit {0}) [] named m
    closing_is E m =
        file_then L S (going (scoping y.without_locals)) (λ _. going (scoping closed)) (λ _. Unit {0}) (λ _. Unit {0}) [] [] (within E named) (within E named) named m m m
        (file_going L S (scoping y.without_locals) (λ _. Unit {0}) [] (within E named) (within E named) m
        (right_scoping L S y.without_locals (within E named) (within E named) (λ s agrees. S.no_locals s (within E named) agrees)))
        (λ _ _. file_going L S (scoping closed) (λ _. Unit {0}) [] (within E named) named m
        (right_scoping L S closed (within E named) named (λ s agrees. S.closed s E named (open_behind (p.function_names f) w) agrees)))

    abbrev m : ℕ
    m = if is_some f.body then suc n else n

    abbrev body_then : Declares (Unit {0})
    body_then = y.body_of f (y.return_type h) f.body >> closing

    body_then_is : (x : File) → S.Agrees x.scope (within params named) → length x.tables.functions ≡ n → x.scope.gives ≡ y.gives_of h →
        Filed L S.Agrees x (body_then x) (p.body_parts n f f.body (within params named)) named m
    body_then_is x agrees count gives =
        let o = y.body_of f (y.return_type h) f.body x in
        let bs = p.body_parts n f f.body (within params named) in
        let c = body_is (y.return_type h) f.body x agrees count gives in
        let k = closing_is c.end m (left o) c.filed.agrees c.filed.counts in
        subst (λ (z : Outcome File (Unit {0})). Filed L S.Agrees x z bs named m) (sym (turn o (λ _. closing))) (record {
          writes = subst (λ ps. Writes L x.found (left (closing (left o))).found ps) (append-nil bs) (writes_both L bs [] c.filed.writes k.0.writes);
          agrees = k.0.agrees;
          counts = k.0.counts;
        })

    in_file_scope : {A : Type 0} (t : Tables) (o : Outcome State A) → (left (in_file t o)).scope ≡ (left o).scope
    in_file_scope t (Outcome.Gives a s) = refl

    whole_is : (x : File) → S.Agrees x.scope w → length x.tables.functions ≡ n →
        Filed L S.Agrees x ((going (y.head f h n) >> body_then) x) (p.function_parts n f w) named m
    whole_is x agrees count =
        let ps = Part.Declares w f.name (Declared.OfFunction f) ∷ p.parameters_parts (inside named) (p.parameters_of f) in
        let qs = p.body_parts n f f.body (within params named) in
        let o = going (y.head f h n) x in
        let first = file_going L S (y.head f h n) (λ _. Unit {0}) ps w (within params named) n head_right x agrees count in
        let gives = ap (λ (s : Scope). s.gives) (in_file_scope x.tables (y.head f h n (state x.scope x.found))) ∙ head_gives (state x.scope x.found) in
        let second = body_then_is (left o) first.0.agrees first.0.counts gives in
        subst (λ (z : Outcome File (Unit {0})). Filed L S.Agrees x z (ps ++ qs) named m) (sym (turn o (λ _. body_then)))
        (record { writes = writes_both L ps qs first.0.writes second.writes; agrees = second.agrees; counts = second.counts })

  function_is : (f : Function) (w : Where) (n : ℕ) (rest : List ExternalDeclaration) → S.At w n (external.Function f ∷ rest) → (x : File) → S.Agrees x.scope w →
      length x.tables.functions ≡ n → Filed L S.Agrees x (y.function f x) (p.function_parts n f w) (behind (p.function_names f) w) (if is_some f.body then suc n else n)
  unfolding y.function y.function_by
  function_is f w n rest here x agrees count =
      let h = y.header x.scope f in
      let named = behind (p.function_names f) w in
      let whole = λ (k : ℕ). (going (y.head f h k) >> (y.body_of f (y.return_type h) f.body >> (going (scoping y.without_locals) >> going (scoping closed)))) x in
      subst (λ k. Filed L S.Agrees x (whole k) (p.function_parts n f w) named (if is_some f.body then suc n else n)) (sym count)
      (whole_is f h w n rest here (S.header x.scope w f agrees) x agrees count)

  -- ---- a whole text

  -- what the tables hold behind a declaration
  pub declaration_holds : (d : ExternalDeclaration) (w : Where) (n : ℕ) (rest : List ExternalDeclaration) → S.At w n (d ∷ rest) → (later : Names) (x : File) →
      S.Held x.tables w (p.names_of d ++ later) → S.Agrees x.scope w → length x.tables.functions ≡ n → S.Held (left (t.declaration d x)).tables (behind (p.names_of d) w) later
  declaration_holds (external.Function f) w n rest here later x held agrees count =
      S.held_function x.tables (left (y.function f x)).tables w f later (function_threads f x) held
  declaration_holds (external.Objects o) w n rest here later x held agrees count = (objects L S o w n later x held agrees count).1

  pub declaration_is : (d : ExternalDeclaration) (w : Where) (n : ℕ) (rest : List ExternalDeclaration) → S.At w n (d ∷ rest) → (later : Names) (x : File) →
      S.Held x.tables w (p.names_of d ++ later) → S.Agrees x.scope w →
      length x.tables.functions ≡ n → Filed L S.Agrees x (t.declaration d x) (p.external_parts w n d) (behind (p.names_of d) w) (p.number_behind d n)
  declaration_is (external.Function f) w n rest here later x held agrees count = function_is f w n rest here x agrees count
  declaration_is (external.Objects o) w n rest here later x held agrees count = (objects L S o w n later x held agrees count).0

  -- what is written behind the last declaration
  pub text_is : (list : List ExternalDeclaration) (u : Unit {0}) (w : Where) (n : ℕ) → S.At w n list → (x : File) → S.Held x.tables w (flat_map p.names_of list) →
      S.Agrees x.scope w → length x.tables.functions ≡ n →
      Writes L x.found (left (through (λ _ d. t.declaration d) u list x)).found (p.declarations_parts w n list)
  text_is [] u w n here x held agrees count = nothing_new L x.found
  text_is (d ∷ list) u w n here x held agrees count =
      let o = t.declaration d x in
      let later = flat_map p.names_of list in
      let first = declaration_is d w n list here later x held agrees count in
      let more = declaration_holds d w n list here later x held agrees count in
      let ps = p.external_parts w n d in
      let qs = p.declarations_parts (behind (p.names_of d) w) (p.number_behind d n) list in
      subst (λ (z : Outcome File (Unit {0})). Writes L x.found (left z).found (ps ++ qs)) (sym (after_one (λ _ d. t.declaration d) u d list x))
      (writes_both L ps qs first.writes
      (text_is list (given o) (behind (p.names_of d) w) (p.number_behind d n) (S.next w n d list here) (left o) more first.agrees first.counts))
