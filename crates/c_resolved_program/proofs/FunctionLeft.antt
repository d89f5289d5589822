-- What a function at file scope leaves: the scope behind its name, and one function more where it has a body.
use Rattle.std.proofs.Common.{◌≡◌, refl, sym, ap, subst, ◌∙◌, ℕ, ◌<◌, ◌≤◌, false, List, [], ◌∷◌, ◌++◌, length, Option, Some, None, le_trans, arith}
use Rattle.std.specs.Prelude.{is_some}
use Rattle.std.proofs.lemmas.Option.{same_Some, none-some}
use Rattle.std.proofs.Math.Nat.{le_refl}
use Rattle.c_tree.specs.declared.statement.Block.{Block}
use Rattle.c_tree.specs.declared.declaration.Function.{Function as FunctionTree}
use Rattle.c_program.specs.declared.tree.LocalVariable.{LocalVariable}
use Rattle.c_program.specs.declared.tree.ReturnType.TheVariants as returns_as
use Rattle.c_program.specs.Tree.{Statement, Function, Program}
use Rattle.c_rules.specs.declared.findings.Findings.{Findings}
use Rattle.c_rules.specs.declared.names.Header.{Header}
use Rattle.c_rules.specs.declared.names.Scope.{Scope}
use Rattle.c_rules.specs.Names.{opened, closed, is_start_routine}
use Rattle.c_rules.specs.Walks.{Outcome, place_in_tree, ◌>>◌}
use Rattle.c_resolution.specs.States.{State, state, scoping}
use Rattle.c_resolution.specs.Statements.{items}
use Rattle.c_resolution.specs.Files.{File, Declares, file, going, with_function}
use Rattle.c_resolution.specs.Functions as y
use Rattle.c_resolved_program.specs.Leaves.{AreValid, block_leaves, of_any}
use Rattle.c_resolved_program.specs.Orders.{left, declared_in, IsPartOf, IsAhead, GivesRoutines}
use Rattle.c_resolved_program.proofs.Walks.{turn}
use Rattle.c_resolved_program.proofs.BodyScope as m
use Rattle.c_resolved_program.proofs.Statements.{block_claim}
use Rattle.c_resolved_program.proofs.Parameters.{parameters_add}
use Rattle.c_resolved_program.proofs.Functions.{in_file_is, named, inside, head_is, before_body, defined_at, definition_is, moving_parameters}
use Rattle.c_resolved_program.proofs.Filed.{headed, function_left}
use Rattle.c_resolved_program.proofs.LocalCounts.{opened_locals, closed_same}
use Rattle.c_resolved_program.proofs.Steps.{front_le, declared_few}
use Rattle.c_resolved_program.proofs.DefinedLocals.{declared_front}

-- ---- scopes

-- the same names and headers, and no locals
pub record Keeps (s t : Scope) : Type 0 where
  pub inner : t.inner ≡ s.inner
  pub outer : t.outer ≡ s.outer
  pub headers : t.headers ≡ s.headers
  pub definitions : t.definitions ≡ s.definitions
  pub locals : t.locals ≡ []

-- behind a scope within, in which no other scope is open
closed_keeps : (s t : Scope) → t.outer ≡ s.outer ++ s.inner ∷ [] → t.headers ≡ s.headers → t.definitions ≡ s.definitions → t.locals ≡ [] → Keeps s (closed t)
unfolding opened
closed_keeps s t outer headers definitions locals =
    let as_it_is : Scope = record s { function = t.function; gives = t.gives; loops = t.loops; exits = t.exits } in
    let both = m.closed_moves as_it_is t (record {
      outer = outer;
      headers = headers;
      definitions = definitions;
      function = refl;
      gives = refl;
      loops = le_refl t.loops;
      exits = le_refl t.exits;
    }) in
    record {
      inner = both.1;
      outer = both.0.outer;
      headers = both.0.headers;
      definitions = both.0.definitions;
      locals = closed_same t ∙ locals;
    }

opened_outer : (s : Scope) → (opened s).outer ≡ s.outer ++ s.inner ∷ []
unfolding opened
opened_outer s = refl

opened_headers : (s : Scope) → (opened s).headers ≡ s.headers
unfolding opened
opened_headers s = refl

opened_definitions : (s : Scope) → (opened s).definitions ≡ s.definitions
unfolding opened
opened_definitions s = refl

-- behind parts in a scope of their own
moved_keeps : (s t : Scope) → m.Moves (opened s) t → Keeps s (closed (y.without_locals t))
moved_keeps s t h =
    closed_keeps s (y.without_locals t) (h.outer ∙ opened_outer s) (h.headers ∙ opened_headers s) (h.definitions ∙ opened_definitions s) refl

-- and behind a body after them
body_keeps : (s t u : Scope) (number from : ℕ) → m.Moves (opened s) t → m.Moves (y.entered number from t) u → Keeps s (closed (y.without_locals (y.left u)))
body_keeps s t u number from h k =
    closed_keeps s (y.without_locals (y.left u)) (k.outer ∙ h.outer ∙ opened_outer s) (k.headers ∙ h.headers ∙ opened_headers s)
    (k.definitions ∙ h.definitions ∙ opened_definitions s) refl

-- ---- a prototype

pub prototype_left : (f : FunctionTree) (h : Header) (x : File) → f.body ≡ None →
    left (y.function_by f h x) ≡ file (closed (y.without_locals (headed f h x).scope)) (headed f h x).found x.tables
unfolding y.function_by
prototype_left f h x is =
    let head : Declares (Unit {0}) = going (y.head f h (length x.tables.functions)) in
    let out : Declares (Unit {0}) = going (scoping y.without_locals) >> going (scoping closed) in
    let rest : Declares (Unit {0}) = y.body_of f (y.return_type h) f.body >> out in
    ap (λ (o : Outcome File (Unit {0})). left o) (turn (head x) (λ _. rest))
    ∙ ap (λ (o : Outcome File (Unit {0})). left (rest (left o))) (in_file_is x.tables (y.head f h (length x.tables.functions) (state x.scope x.found)))
    ∙ ap (λ b. left ((y.body_of f (y.return_type h) b >> out) (headed f h x))) is

-- ---- a definition

-- its body
abbrev pub body_at : FunctionTree → Header → Block → File → Outcome State Statement
body_at f h body x = items body (before_body (length x.tables.functions) body (left (y.head f h (length x.tables.functions) (state x.scope x.found))))

pub defined_left : (f : FunctionTree) (h : Header) (body : Block) (x : File) → f.body ≡ Some body →
    left (y.function_by f h x) ≡
    file (closed (y.without_locals (y.left (left (body_at f h body x)).scope))) (left (body_at f h body x)).found
    (with_function (defined_at f (y.return_type h) body (headed f h x)) x.tables)
defined_left f h body x is =
    function_left f h body x is ∙ ap (λ (d : File). file (closed (y.without_locals d.scope)) d.found d.tables) (definition_is f (y.return_type h) body (headed f h x))

-- ---- where no rule is broken in the whole text

-- the tables behind a function, by its body
abbrev pub IsTabled : FunctionTree → Header → Option Block → File → File → Type 0
IsTabled f h None x z = z.tables ≡ x.tables
IsTabled f h (Some body) x z = z.tables ≡ with_function (defined_at f (y.return_type h) body (headed f h x)) x.tables

pub record IsFunctionLeft (whole : Findings) (f : FunctionTree) (h : Header) (x z : File) : Type 0 where
  pub part : IsPartOf whole (named f h (length x.tables.functions) (state x.scope x.found)).found
  pub keeps : Keeps (named f h (length x.tables.functions) (state x.scope x.found)).scope z.scope
  pub more : List LocalVariable
  pub locals : (headed f h x).scope.locals ≡ (named f h (length x.tables.functions) (state x.scope x.found)).scope.locals ++ more
  pub count : length more ≡ length (y.written f)
  pub fits : (body : Block) → f.body ≡ Some body → length (headed f h x).scope.locals ≤ (defined_at f (y.return_type h) body (headed f h x)).declared_locals
  pub tables : IsTabled f h f.body x z

-- a function of no locals
abbrev pub nobody : Function
nobody = record { name = []; returns = returns_as.Void; parameters = 0; declared_locals = 0; locals = []; local_names = []; body = Statement.Done; end = 0 }

pub no_locals : nobody.declared_locals < 0xffff_ffff
no_locals = omega arith

module _ (whole : Findings) (P : Program) (given_routines : GivesRoutines whole P) where
  -- the head of a function
  record IsHeadLeft (f : FunctionTree) (h : Header) (x : File) : Type 0 where
    part : IsPartOf whole (named f h (length x.tables.functions) (state x.scope x.found)).found
    more : List LocalVariable
    locals : (headed f h x).scope.locals ≡ (named f h (length x.tables.functions) (state x.scope x.found)).scope.locals ++ more
    count : length more ≡ length (y.written f)

  head_left : (f : FunctionTree) (h : Header) (x : File) → IsPartOf whole (headed f h x).found → IsHeadLeft f h x
  head_left f h x part =
      let count = length x.tables.functions in
      let begin = state x.scope x.found in
      let e = head_is f h count begin in
      let added = parameters_add whole P nobody no_locals (is_start_routine h) (is_some f.body) (y.written f) (inside f h count begin)
      (subst (λ (s : State). IsPartOf whole s.found) e part) in
      record {
        part = added.found;
        more = added.more;
        locals = ap (λ (s : State). s.scope.locals) e ∙ added.locals ∙ ap (λ l. l ++ added.more) (opened_locals (named f h count begin).scope);
        count = added.count;
      }

  head_moves : (f : FunctionTree) (h : Header) (x : File) → m.Moves (opened (named f h (length x.tables.functions) (state x.scope x.found)).scope) (headed f h x).scope
  head_moves f h x =
      let count = length x.tables.functions in
      let begin = state x.scope x.found in
      subst (λ (s : State). m.Moves (opened (named f h count begin).scope) s.scope) (sym (head_is f h count begin))
      (moving_parameters (is_start_routine h) (is_some f.body) (y.written f) (inside f h count begin))

  body_moves : (body : Block) → m.IsMoving (items body)
  body_moves body = (block_claim whole P 0 nobody given_routines no_locals body).moves

  -- its parameters are the first of its locals
  record IsBodyLeft (f : FunctionTree) (h : Header) (body : Block) (x : File) : Type 0 where
    found : IsPartOf whole (headed f h x).found
    fits : length (headed f h x).scope.locals ≤ (defined_at f (y.return_type h) body (headed f h x)).declared_locals

  body_left : (f : FunctionTree) (h : Header) (body : Block) (x : File) → AreValid (block_leaves body) →
      (defined_at f (y.return_type h) body (headed f h x)).declared_locals < 0xffff_ffff → IsPartOf whole (left (body_at f h body x)).found → IsBodyLeft f h body x
  body_left f h body x valid small part =
      let code = defined_at f (y.return_type h) body (headed f h x) in
      let count = length x.tables.functions in
      let head = left (y.head f h count (state x.scope x.found)) in
      let within = before_body count body head in
      let ended : IsAhead whole code (left (body_at f h body x)) = record { found = part; locals = declared_front f (y.return_type h) count body head small } in
      let begun = ((block_claim whole P (place_in_tree count) code given_routines small body).does valid false false).back within ended in
      record { found = begun.found; fits = le_trans (front_le within.scope.locals (declared_in code) begun.locals) (declared_few code) }

  pub function_leaves_it : (f : FunctionTree) (h : Header) (x z : File) → left (y.function_by f h x) ≡ z → AreValid (of_any block_leaves f.body) →
      ((body : Block) → f.body ≡ Some body → z.tables ≡ with_function (defined_at f (y.return_type h) body (headed f h x)) x.tables →
      (defined_at f (y.return_type h) body (headed f h x)).declared_locals < 0xffff_ffff) →
      IsPartOf whole z.found → IsFunctionLeft whole f h x z
  function_leaves_it f h x z is valid small part = by f.body refl
    where
      count : ℕ
      count = length x.tables.functions

      begin : State
      begin = state x.scope x.found

      by : (o : Option Block) → f.body ≡ o → IsFunctionLeft whole f h x z
      by None none =
          let e = sym is ∙ prototype_left f h x none in
          let head = head_left f h x (subst (λ (w : File). IsPartOf whole w.found) e part) in
          record {
            part = head.part;
            more = head.more;
            locals = head.locals;
            count = head.count;
            fits = λ body has. absurd (none-some body (sym (sym has ∙ none)));
            keeps =
                subst (λ (w : File). Keeps (named f h count begin).scope w.scope) (sym e)
                (moved_keeps (named f h count begin).scope (headed f h x).scope (head_moves f h x));
            tables = subst (λ o. IsTabled f h o x z) (sym none) (ap (λ (w : File). w.tables) e);
          }
      by (Some body) has =
          let e = sym is ∙ defined_left f h body x has in
          let o = body_at f h body x in
          let tabled = ap (λ (w : File). w.tables) e in
          let leaves = subst (λ b. AreValid (of_any block_leaves b)) has valid in
          let whole_body = body_left f h body x leaves (small body has tabled) (subst (λ (w : File). IsPartOf whole w.found) e part) in
          let head = head_left f h x whole_body.found in
          record {
            part = head.part;
            more = head.more;
            locals = head.locals;
            count = head.count;
            fits = λ other is.
                subst (λ b. length (headed f h x).scope.locals ≤ (defined_at f (y.return_type h) b (headed f h x)).declared_locals)
                (same_Some body other (sym has ∙ is)) whole_body.fits;
            keeps =
                subst (λ (w : File). Keeps (named f h count begin).scope w.scope) (sym e)
                (body_keeps (named f h count begin).scope (headed f h x).scope (left o).scope (place_in_tree count) (y.kept_from (length (headed f h x).scope.locals) body) (head_moves f h x)
                (body_moves body (before_body count body (left (y.head f h count begin)))));
            tables = subst (λ o. IsTabled f h o x z) (sym has) tabled;
          }
