-- Walks that change the names in scope: what they write, and what is in sight behind them.
use Rattle.std.proofs.Common.{◌≡◌, refl, sym, subst, ap, ℕ, Bool, true, false, List, [], ◌∷◌, ◌++◌, length, Option, Some, None, append_assoc}
use Rattle.std.specs.Prelude.{not, ◌&&◌, nat_le, fold, if◌then◌else◌}
use Rattle.std.specs.List.{AllByRecursion}
use Rattle.std.proofs.lemmas.List.{append-nil}
use Rattle.c_tree.specs.declared.expression.Name.{Name}
use Rattle.c_tree.specs.declared.expression.Specifiers.{Specifiers}
use Rattle.c_tree.specs.declared.expression.Expression.{Expression as ExpressionTree, out-Expression}
use Rattle.c_tree.specs.declared.statement.CaseLabel.{CaseLabel}
use Rattle.c_tree.specs.declared.declaration.Declarator.{Declarator}
use Rattle.c_tree.specs.declared.declaration.Function.{Function}
use Rattle.c_tree.specs.declared.declaration.ExternalDeclaration.{ExternalDeclaration}
use Rattle.c_tree.specs.declared.declaration.ExternalDeclaration.TheVariants as external
use Rattle.c_tree.specs.declared.declaration.Parameter.{Parameter}
use Rattle.c_tree.specs.declared.declaration.GlobalDeclarator.{GlobalDeclarator}
use Rattle.hls_ints.specs.Types.{IntegerType, int_type, promoted}
use Rattle.c_program.specs.declared.tree.LocalVariable.{LocalVariable}
use Rattle.c_program.specs.Types.{type_of}
use Rattle.c_rules.specs.declared.names.Meaning.{Meaning}
use Rattle.c_rules.specs.declared.names.Meaning.TheVariants as meaning
use Rattle.c_rules.specs.declared.names.Header.{Header}
use Rattle.c_rules.specs.declared.names.Gives.{Gives}
use Rattle.c_rules.specs.declared.names.Scope.{Scope}
use Rattle.c_rules.specs.declared.findings.Findings.{Findings}
use Rattle.c_program.specs.declared.tree.ThreadObject.{ThreadObject}
use Rattle.c_rules.specs.declared.specifiers.BaseType.{BaseType}
use Rattle.c_rules.specs.declared.specifiers.BaseType.TheVariants as base
use Rattle.c_rules.specs.declared.names.ObjectKind.TheVariants.{Thread}
use Rattle.c_rules.specs.declared.dimensions.Dimensions.{Dimensions}
use Rattle.c_rules.specs.declared.dimensions.Dimensions.TheVariants.{Scalar, One, Two, Three}
use Rattle.c_rules.specs.Constants.{constancy}
use Rattle.c_rules.specs.Names.{opened, closed, same_kind}
use Rattle.c_rules.specs.Specifiers.{base_of, c_type, spelled_by}
use Rattle.c_rules.specs.Walks.{Outcome, Finds, pure, through, place_in_tree, ◌>>=◌}
use Rattle.c_expressions.specs.Cuts.{Cuts}
use Rattle.c_expressions.specs.Expressions.{value}
use Rattle.c_resolution.specs.States.{State, Goes, in_scope, finding, scoping}
use Rattle.c_resolution.specs.Locals.{declare, with_local}
use Rattle.c_resolution.specs.Statements.{Cases, noted_case, default_label}
use Rattle.c_resolution.specs.Files.{Tables}
use Rattle.c_resolution.specs.Globals.{global_meaning}
use Rattle.c_resolution.specs.Functions as y
use Rattle.c_broken_rules.specs.Sight.{Declared, Names, Where, behind, inside, with_names}
use Rattle.c_broken_rules.specs.Parts.{Part, Parts, names_of, number_behind, function_names, object_names}
use Rattle.c_broken_rules.specs.Typing.{plain_type}
use Rattle.c_broken_rules.proofs.Ledgers.{Ledger, Good, Writes, given, left, turn, after_one, nothing_new, writes_both}
use Rattle.c_broken_rules.proofs.Events.{Events, Creates}
use Rattle.c_broken_rules.proofs.Labels.{IsNoted}

-- the place with a scope of its own
abbrev pub within : Names → Where → Where
within scope w = record { scopes = scope ∷ w.scopes; body = w.body }

pub record IsOpen (w : Where) : Type 0 where
  pub scope : Names
  pub outer : List Names
  pub are : w.scopes ≡ scope ∷ outer

open_by : (ns : Names) (scopes : List Names) (body : Option (ℕ × Function)) → let w : Where = record { scopes = scopes; body = body } in IsOpen (behind ns w)
open_by ns [] body = record { scope = ns; outer = []; are = refl }
open_by ns (scope ∷ outer) body = record { scope = scope ++ ns; outer = outer; are = refl }

pub open_behind : (ns : Names) (w : Where) → IsOpen (behind ns w)
open_behind ns w = open_by ns w.scopes w.body

with_more : (ns ms : Names) (scopes : List Names) → with_names ms (with_names ns scopes) ≡ with_names (ns ++ ms) scopes
with_more ns ms [] = refl
with_more ns ms (scope ∷ outer) = ap (λ s. s ∷ outer) (append_assoc scope ns ms)

pub behind_both : (ns ms : Names) (w : Where) → behind ms (behind ns w) ≡ behind (ns ++ ms) w
behind_both ns ms w = ap (λ (scopes : List Names). let v : Where = record { scopes = scopes; body = w.body } in v) (with_more ns ms w.scopes)

-- what a walk through a state gives
pub record Right (L : Ledger) (Agrees : Scope → Where → Type 0) {A : Type 0} (x : State) (o : Outcome State A) (Is : A → Type 0) (parts : Parts) (w : Where) : Type 0 where
  pub writes : Writes L x.found (left o).found parts
  pub agrees : Agrees (left o).scope w
  pub value : Is (given o)

-- the type of the value of what is declared so
abbrev pub type_of_meaning : Meaning → IntegerType
type_of_meaning (meaning.Variable v) = c_type v.ty
type_of_meaning other = int_type

-- a variable, or an object whose type breaks a rule
abbrev pub IsUsual : Meaning → Type 0
IsUsual (meaning.Variable v) = Unit {0}
IsUsual meaning.Unusable = Unit {0}
IsUsual other = ⊥

abbrev pub IsParameter : Bool → Meaning → Type 0
IsParameter true m = m ≡ meaning.Argument
IsParameter false m = IsUsual m

abbrev pub IsGlobal : Meaning → Type 0
IsGlobal (meaning.Variable v) = Unit {0}
IsGlobal (meaning.Object o) = Unit {0}
IsGlobal meaning.Unusable = Unit {0}
IsGlobal other = ⊥

-- ---- thread objects

abbrev pub is_thread_base : BaseType → Bool
is_thread_base base.Thread = true
is_thread_base other = false

-- an object of POSIX threads has one dimension at most
abbrev pub is_small : Dimensions → Bool
is_small Scalar = true
is_small (One n) = true
is_small (Two a b) = false
is_small (Three a b c) = false

-- whether words declare a thread object at file scope
abbrev pub is_thread : Specifiers → Bool → GlobalDeclarator → Bool
is_thread words pointer d = not pointer && (is_thread_base (base_of words.words) && nat_le (length d.lengths) 1)

abbrev pub is_thread_object : Meaning → Bool
is_thread_object (meaning.Object o) = same_kind Thread o.kind
is_thread_object other = false

-- a table of thread objects with one more that no create names, if so
abbrev pub Adds : Bool → List ThreadObject → List ThreadObject → Type 0
Adds true old new = (n : ℕ) × (new ≡ old ++ (record { length = n; routine = None }) ∷ [])
Adds false old new = new ≡ old

-- how scopes agree with the declarations in sight
pub record Scoping (L : Ledger) : Type 1 where
  pub Agrees : Scope → Where → Type 0
  -- what a name that is declared so there stands for
  pub Means : Where → Name → Declared → Meaning → Type 0
  pub events : (s : Scope) (w : Where) → Agrees s w → Events L s w
  pub creates : (s : Scope) (w : Where) → Agrees s w → Creates L s w
  pub opened : (s : Scope) (w : Where) → Agrees s w → Agrees (opened s) (inside w)
  -- some scope is open wherever a part stands
  pub is_open : (s : Scope) (w : Where) → Agrees s w → IsOpen w
  pub closed : (s : Scope) (scope : Names) (w : Where) → IsOpen w → Agrees s (within scope w) → Agrees (closed s) w
  pub no_names : (s : Scope) (w : Where) → Agrees s w → Agrees s (behind [] w)
  pub loops : (s : Scope) (w : Where) (n m : ℕ) → Agrees s w → Agrees (record s { loops = n; exits = m }) w
  pub local : (s : Scope) (w : Where) (l : LocalVariable) → Agrees s w → Agrees (with_local l s) w
  pub declares : (x : State) (w : Where) (name : Name) (d : Declared) (m : Meaning) → Agrees x.scope w → Means w name d m →
      Right L Agrees x (declare name m x) (λ _. Unit {0}) (Part.Declares w name d ∷ []) (behind ((name.bytes, d) ∷ []) w)
  pub variable : (w : Where) (words : Specifiers) (d : Declarator) (m : Meaning) → IsUsual m → type_of_meaning m ≡ plain_type words →
      Means w d.name (Declared.OfVariable words d) m
  pub parameter : (w : Where) (name : Name) (p : Parameter) (m : Meaning) → IsParameter p.is_pointer m →
      type_of_meaning m ≡ (if p.is_pointer then int_type else plain_type p.specifiers) → Means w name (Declared.OfParameter p) m
  -- ---- switches: the type at which one over a value works, and its labels behind others
  pub IsSwitched : Where → ExpressionTree → IntegerType → Type 0
  pub switched : (s : Scope) (w : Where) (e : ExpressionTree) (at : ℕ) (cuts : Cuts) (found : Findings) → Agrees s w →
      IsSwitched w e (promoted (type_of (given (value s e at cuts found)).rest))
  pub case : (s : Scope) (w : Where) (over : ExpressionTree) (ty : IntegerType) (before : List CaseLabel) (l : CaseLabel) (e : ExpressionTree) (c : Cases) →
      Agrees s w → IsSwitched w over ty → IsNoted ty before c → l.value ≡ Some e →
      Good L (noted_case ty (constancy e) (out-Expression e).offset c) (Part.Label w over before l ∷ [])
  pub default : (s : Scope) (w : Where) (over : ExpressionTree) (ty : IntegerType) (before : List CaseLabel) (l : CaseLabel) (c : Cases) →
      Agrees s w → IsSwitched w over ty → IsNoted ty before c → l.value ≡ None →
      Good L (default_label l.offset c) (Part.Label w over before l ∷ [])
  -- ---- objects: what the program's tables hold where these names are declared next at file scope
  pub Held : Tables → Where → Names → Type 0
  pub object : (t : Tables) (w : Where) (words : Specifiers) (pointer : Bool) (d : GlobalDeclarator) (dimensions : Dimensions) (later : Names) →
      is_small dimensions ≡ nat_le (length d.lengths) 1 → Held t w (object_names words pointer d ++ later) →
      Means w d.name (Declared.OfObject words pointer d) (global_meaning t (spelled_by words) pointer dimensions)
  pub held_object : (t u : Tables) (w : Where) (words : Specifiers) (pointer : Bool) (d : GlobalDeclarator) (later : Names) →
      Adds (is_thread words pointer d) t.threads u.threads →
      Held t w (object_names words pointer d ++ later) → Held u (behind (object_names words pointer d) w) later
  pub held_function : (t u : Tables) (w : Where) (f : Function) (later : Names) → u.threads ≡ t.threads → Held t w (function_names f ++ later) → Held u (behind (function_names
      f) w) later
  pub held_none : (t : Tables) (w : Where) (later : Names) → Held t w later → Held t (behind [] w) later
  -- ---- functions: a declaration at file scope stands with so many definitions before it, and with others behind it
  pub At : Where → ℕ → List ExternalDeclaration → Type 0
  pub next : (w : Where) (n : ℕ) (d : ExternalDeclaration) (more : List ExternalDeclaration) → At w n (d ∷ more) → At (behind (names_of d) w) (number_behind d n) more
  pub IsHeader : Function → Header → Type 0
  pub header : (s : Scope) (w : Where) (f : Function) → Agrees s w → IsHeader f (y.header s f)
  pub gives : (s : Scope) (w : Where) (n : ℕ) (rest : List ExternalDeclaration) (g : Gives) → At w n rest → Agrees s w → Agrees (y.with_gives g s) w
  pub declares_function : (x : State) (w : Where) (n : ℕ) (f : Function) (h : Header) (rest : List ExternalDeclaration) → At w n (external.Function f ∷ rest) →
      Agrees x.scope w → IsHeader f h →
      Right L Agrees x (y.declare_function h f.name (y.is_second f h n) x) (λ _. Unit {0}) (Part.Declares w f.name (Declared.OfFunction f) ∷ []) (behind (function_names f) w)
  pub entered : (s : Scope) (w v : Where) (n from : ℕ) (f : Function) (h : Header) (rest : List ExternalDeclaration) → At w n (external.Function f ∷ rest) → v.body ≡ w.body →
      IsHeader f h → s.gives ≡ y.gives_of h → Agrees s v → Agrees (y.entered (place_in_tree n) from s) (record { scopes = v.scopes; body = Some (n, f) })
  pub left_body : (s : Scope) (w v : Where) (n : ℕ) (f : Function) (rest : List ExternalDeclaration) → At w n (external.Function f ∷ rest) → v.body ≡ w.body →
      Agrees s (record { scopes = v.scopes; body = Some (n, f) }) → Agrees (y.left s) v
  pub no_locals : (s : Scope) (w : Where) → Agrees s w → Agrees (y.without_locals s) w

module _ (L : Ledger) (S : Scoping L) where
  abbrev pub Goes_right : {A : Type 0} → Where → Goes A → (A → Type 0) → Parts → Where → Type 0
  Goes_right w walk Is parts v = (x : State) → S.Agrees x.scope w → Right L S.Agrees x (walk x) Is parts v

  pub right_pure : {A : Type 0} (Is : A → Type 0) (a : A) (w : Where) → Is a → Goes_right w (pure a) Is [] w
  right_pure Is a w is x agrees = record { writes = nothing_new L x.found; agrees = agrees; value = is }

  pub right_then : {A B : Type 0} (p : Goes A) (q : A → Goes B) (Is : A → Type 0) (Next : B → Type 0) (ps qs : Parts) (w v u : Where) → Goes_right w p Is ps v →
      ((a : A) → Is a → Goes_right v (q a) Next qs u) → Goes_right w (p >>= q) Next (ps ++ qs) u
  right_then {A} {B} p q Is Next ps qs w v u h k x agrees =
      let first = h x agrees in
      let second = k (given (p x)) first.value (left (p x)) first.agrees in
      subst (λ (o : Outcome State B). Right L S.Agrees x o Next (ps ++ qs) u) (sym (turn (p x) q))
      (record { writes = writes_both L ps qs first.writes second.writes; agrees = second.agrees; value = second.value })

  -- what comes behind writes nothing
  pub right_before : {A B : Type 0} (p : Goes A) (q : A → Goes B) (Is : A → Type 0) (Next : B → Type 0) (ps : Parts) (w v u : Where) → Goes_right w p Is ps v →
      ((a : A) → Is a → Goes_right v (q a) Next [] u) → Goes_right w (p >>= q) Next ps u
  right_before p q Is Next ps w v u h k = subst (λ rs. Goes_right w (p >>= q) Next rs u) (append-nil ps) (right_then p q Is Next ps [] w v u h k)

  in_scope_right : {A : Type 0} (x : State) (w : Where) (parts : Parts) (o : Outcome Findings A) → S.Agrees x.scope w → Writes L x.found (left o) parts →
      Right L S.Agrees x (in_scope x.scope o) (λ _. Unit {0}) parts w
  in_scope_right x w parts (Outcome.Gives a found) agrees h = record { writes = h; agrees = agrees; value = tt }

  pub right_finding : {A : Type 0} (walk : Scope → Finds A) (parts : Parts) (w : Where) → ((s : Scope) → S.Agrees s w → Good L (walk s) parts) →
      Goes_right w (finding walk) (λ _. Unit {0}) parts w
  right_finding walk parts w h x agrees = in_scope_right x w parts (walk x.scope x.found) agrees ((h x.scope agrees).writes x.found)

  pub right_scoping : (change : Scope → Scope) (w v : Where) → ((s : Scope) → S.Agrees s w → S.Agrees (change s) v) → Goes_right w (scoping change) (λ _. Unit {0}) [] v
  right_scoping change w v h x agrees = record { writes = nothing_new L x.found; agrees = h x.scope agrees; value = tt }

  pub right_as : {A : Type 0} (walk : Goes A) (Is Next : A → Type 0) (ps : Parts) (w v u : Where) → ((a : A) → Is a → Next a) → ((s : Scope) → S.Agrees s v → S.Agrees s u) →
      Goes_right w walk Is ps v → Goes_right w walk Next ps u
  right_as walk Is Next ps w v u value agrees h x here =
      let r = h x here in
      record { writes = r.writes; agrees = agrees (left (walk x)).scope r.agrees; value = value (given (walk x)) r.value }

  in_scope_given : {A : Type 0} (Is : A → Type 0) (scope : Scope) (o : Outcome Findings A) → Is (given o) → Is (given (in_scope scope o))
  in_scope_given Is scope (Outcome.Gives a found) h = h

  -- with what the part stands for
  pub right_finding_is : {A : Type 0} (walk : Scope → Finds A) (Is : A → Type 0) (parts : Parts) (w : Where) → ((s : Scope) → S.Agrees s w → Good L (walk s) parts) →
      ((s : Scope) (found : Findings) → Is (given (walk s found))) → Goes_right w (finding walk) Is parts w
  right_finding_is walk Is parts w h is x agrees =
      let r = in_scope_right x w parts (walk x.scope x.found) agrees ((h x.scope agrees).writes x.found) in
      record { writes = r.writes; agrees = r.agrees; value = in_scope_given Is x.scope (walk x.scope x.found) (is x.scope x.found) }

  -- parts one after another, where what they stand for so far is what is before them
  pub right_along : {A B X : Type 0} (step : A → B → Goes A) (next : X → B → X) (of : X → B → Where → Parts) (to : B → Where → Where) (all : X → List B → Where → Parts)
      (end : List B → Where → Where) (Is : X → A → Type 0) → ((x : X) (w : Where) → all x [] w ≡ []) → ((w : Where) → end [] w ≡ w) →
      ((x : X) (b : B) (rest : List B) (w : Where) → all x (b ∷ rest) w ≡ of x b w ++ all (next x b) rest (to b w)) →
      ((b : B) (rest : List B) (w : Where) → end (b ∷ rest) w ≡ end rest (to b w)) →
      (items : List B) → AllByRecursion (λ b. (x : X) (a : A) (w : Where) → Is x a → Goes_right w (step a b) (Is (next x b)) (of x b w) (to b w)) items →
      (x : X) (a : A) (w : Where) → Is x a → Goes_right w (through step a items) (Is (fold next x items)) (all x items w) (end items w)
  right_along {A} step next of to all end Is all_none end_none all_more end_more [] each k a w is x agrees = record {
    writes = subst (λ ps. Writes L x.found x.found ps) (sym (all_none k w)) (nothing_new L x.found);
    agrees = subst (λ v. S.Agrees x.scope v) (sym (end_none w)) agrees;
    value = is;
  }
  right_along {A} step next of to all end Is all_none end_none all_more end_more (b ∷ rest) each k a w is x agrees =
      let o = step a b x in
      let first = each.0 k a w is x agrees in
      let second = right_along step next of to all end Is all_none end_none all_more end_more rest each.1 (next k b) (given o) (to b w) first.value (left o) first.agrees in
      let Last = Is (fold next (next k b) rest) in
      let whole : Right L S.Agrees x (through step (given o) rest (left o)) Last (of k b w ++ all (next k b) rest (to b w)) (end rest (to b w)) = record {
        writes = writes_both L (of k b w) (all (next k b) rest (to b w)) first.writes second.writes;
        agrees = second.agrees;
        value = second.value;
      } in
      subst (λ (z : Outcome State A). Right L S.Agrees x z Last (all k (b ∷ rest) w) (end (b ∷ rest) w)) (sym (after_one step a b rest x))
      (subst (λ ps. Right L S.Agrees x (through step (given o) rest (left o)) Last ps (end (b ∷ rest) w)) (sym (all_more k b rest w))
      (subst (λ v. Right L S.Agrees x (through step (given o) rest (left o)) Last (of k b w ++ all (next k b) rest (to b w)) v) (sym (end_more b rest w)) whole))

  pub right_through : {A B : Type 0} (step : A → B → Goes A) (of : B → Where → Parts) (to : B → Where → Where) (all : List B → Where → Parts) (end : List B → Where → Where) →
      ((w : Where) → all [] w ≡ []) → ((w : Where) → end [] w ≡ w) →
      ((b : B) (rest : List B) (w : Where) → all (b ∷ rest) w ≡ of b w ++ all rest (to b w)) → ((b : B) (rest : List B) (w : Where) → end (b ∷ rest) w ≡ end rest (to b w)) →
      (items : List B) → AllByRecursion (λ b. (a : A) (w : Where) → Goes_right w (step a b) (λ _. Unit {0}) (of b w) (to b w)) items → (a : A) (w : Where) →
      Goes_right w (through step a items) (λ _. Unit {0}) (all items w) (end items w)
  right_through {A} step of to all end all_none end_none all_more end_more [] each a w x agrees = record {
    writes = subst (λ ps. Writes L x.found x.found ps) (sym (all_none w)) (nothing_new L x.found);
    agrees = subst (λ v. S.Agrees x.scope v) (sym (end_none w)) agrees;
    value = tt;
  }
  right_through {A} step of to all end all_none end_none all_more end_more (b ∷ rest) each a w x agrees =
      let o = step a b x in
      let first = each.0 a w x agrees in
      let second = right_through step of to all end all_none end_none all_more end_more rest each.1 (given o) (to b w) (left o) first.agrees in
      let whole : Right L S.Agrees x (through step (given o) rest (left o)) (λ _. Unit {0}) (of b w ++ all rest (to b w)) (end rest (to b w)) = record {
        writes = writes_both L (of b w) (all rest (to b w)) first.writes second.writes;
        agrees = second.agrees;
        value = tt;
      } in
      subst (λ (z : Outcome State A). Right L S.Agrees x z (λ _. Unit {0}) (all (b ∷ rest) w) (end (b ∷ rest) w)) (sym (after_one step a b rest x))
      (subst (λ ps. Right L S.Agrees x (through step (given o) rest (left o)) (λ _. Unit {0}) ps (end (b ∷ rest) w)) (sym (all_more b rest w))
      (subst (λ v. Right L S.Agrees x (through step (given o) rest (left o)) (λ _. Unit {0}) (of b w ++ all rest (to b w)) v) (sym (end_more b rest w)) whole))
