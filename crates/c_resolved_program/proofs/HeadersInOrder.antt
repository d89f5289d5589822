-- What holds behind the last declaration of a text: its headers and its functions are in order one by one.
use Rattle.std.proofs.Common.{◌≡◌, refl, sym, ap, subst, ◌∙◌, ℕ, ◌<◌, ◌≤◌, true, List, [], length, Option, Some, None, arith}
use Rattle.std.specs.Prelude.{◌^◌, codes, slice_get}
use Rattle.std.specs.List.{AllByRecursion}
use Rattle.std.proofs.lemmas.Option.{slice_get_within, same_Some, none-some}
use Rattle.lists.proofs.Places.{get_there, in_none}
use Rattle.c_tree.specs.declared.statement.Block.{Block}
use Rattle.c_tree.specs.declared.declaration.Function.{Function as FunctionTree}
use Rattle.c_tree.specs.declared.declaration.ExternalDeclaration.{ExternalDeclaration}
use Rattle.c_program.specs.declared.tree.ReturnType.{ReturnType}
use Rattle.c_program.specs.Tree.{Function, GlobalVariable, Program}
use Rattle.c_program.specs.Resolved as r
use Rattle.c_rules.specs.declared.names.Meaning.TheVariants as meaning
use Rattle.c_rules.specs.declared.names.Header.{Header}
use Rattle.c_rules.specs.Names.{is_int}
use Rattle.c_rules.specs.Levels.{named_in}
use Rattle.c_rules.specs.Walks.{Outcome}
use Rattle.c_resolution.specs.Files.{File, Tables}
use Rattle.c_resolution.specs.Functions as y
use Rattle.c_resolution.specs.Globals as g
use Rattle.c_resolution.specs.Resolving as z
use Rattle.c_resolution.specs.Texts.{definitions, declarations, main_number}
use Rattle.c_resolved_program.specs.Laws.{IsNumbered}
use Rattle.c_resolved_program.specs.Leaves.{AreValid, external_leaves, of_each}
use Rattle.c_resolved_program.specs.Gathered.{IsGathered}
use Rattle.c_resolved_program.specs.Orders.{left, IsFront, IsDefinition, IsHeader, IsPointerAt, GivesRoutines}
use Rattle.c_resolved_program.proofs.Steps.{front_length}
use Rattle.c_resolved_program.proofs.Functions.{defined_at}
use Rattle.c_resolved_program.proofs.Filed.{headed}
use Rattle.c_resolved_program.proofs.Defined.{function_is, found_is, start_is}
use Rattle.c_resolved_program.proofs.Numbers.{body_names, definition_number}
use Rattle.c_resolved_program.proofs.GrownScope.{front_same}
use Rattle.c_resolved_program.proofs.Fronts.{fronts_same, IsWithin}
use Rattle.c_resolved_program.proofs.Headed.{IsHeaderOf, function_number}
use Rattle.c_resolved_program.proofs.Coded.{one_number}
use Rattle.c_resolved_program.proofs.FunctionLeft.{IsTabled}
use Rattle.c_resolved_program.proofs.FileHolds.{FileHolds, holds_on, function_keeps}
use Rattle.c_resolved_program.proofs.ObjectKeeps.{object_keeps, same_functions}
use Rattle.c_resolved_program.proofs.ObjectsHold.{ObjectsHold, function_objects, object_objects, one_global}
use Rattle.c_resolved_program.proofs.FunctionPlaced.{placed, placed_grows}
use Rattle.c_resolved_program.proofs.Created.{CreatesHold, function_creates, object_creates}
use Rattle.c_resolved_program.proofs.Bodies.{BodiesHold, all_in_front, bodies_keep}
use Rattle.c_resolved_program.proofs.DeclarationWalk.{IsKept, code_small, all_kept}
use Rattle.c_resolved_program.proofs.Apart.{all_from, distinct}
use Rattle.c_resolved_program.proofs.Mains.{IsMainOf, main_is, main_returns, no_parameters}
use Rattle.c_call_graph.proofs.Marks.{at_Contains}

after_is : {S A : Type 0} (o : Outcome S A) → z.after o ≡ left o
after_is (Outcome.Gives a s) = refl

is_behind : (L : List ExternalDeclaration) → z.behind L ≡ left (declarations L (z.before L))
unfolding z.behind
is_behind L = after_is (declarations L (z.before L))

is_function : (f : FunctionTree) (x : File) → left (y.function_by f (y.header x.scope f) x) ≡ left (y.function f x)
unfolding y.function
is_function f x = refl

-- before the first declaration
holds_before : (P : Program) (L : List ExternalDeclaration) → FileHolds P (definitions L) [] (z.before L)
holds_before P L = record {
  scope = record { outer = refl; locals = refl; inner = λ f. tt };
  definitions = refl;
  headers = record {
    named = λ name n is. absurd (none-some (meaning.Function n) (is));
    names = λ n h is. absurd (none-some h (is));
  };
  codes = λ number code is. absurd (none-some code (is));
  count = refl;
}

objects_before : (L : List ExternalDeclaration) → ObjectsHold (z.before L)
objects_before L = record {
  globals = tt;
  names = λ number a is. absurd (none-some a (is));
  others = record { threads = tt; mutexes = tt; barriers = tt };
}

module _ (L : List ExternalDeclaration) (main : ℕ) (valid : AreValid (of_each external_leaves L)) (no_fault : (z.behind L).found.fault ≡ None)
    (has_main : main_number (z.behind L).scope ≡ Some main) (numbered : IsNumbered (z.program_at (z.behind L) main))
    (given_routines : GivesRoutines (z.behind L).found (z.program_at (z.behind L) main)) where
  abbrev X : File
  X = z.behind L

  abbrev P : Program
  P = z.program_at X main

  abbrev D : List (List ℕ × ℕ)
  D = definitions L

  within : IsWithin X X
  within = record {
    found = record { no_fault = no_fault; calls = λ c is. is; creations = λ c is. is };
    tables = fronts_same X.tables;
    headers = front_same X.scope.headers;
  }

  at_end : (K : List ExternalDeclaration → File → Type 0) → IsKept X main numbered given_routines L K → K [] (z.before L) → K L X
  at_end K kept begun =
      let e = is_behind L in
      subst (λ x. K L x) (sym e)
      (all_kept X main numbered given_routines L K kept valid (z.before L) (subst (λ x. IsWithin X x) e within) begun)

  -- a definition is one of the program
  fits : (f : FunctionTree) (h : Header) (x w : File) → IsTabled f h f.body x w → IsWithin X w → (body : Block) → f.body ≡ Some body →
      (length x.tables.functions < 2 ^ 32) × ((defined_at f (y.return_type h) body (headed f h x)).declared_locals < 0xffff_ffff)
  fits f h x w tabled inside body has =
      let code = defined_at f (y.return_type h) body (headed f h x) in
      let tables = subst (λ o. IsTabled f h o x w) has tabled in
      let front = subst (λ (t : Tables). IsFront t.functions X.tables.functions) tables inside.tables.functions in
      let lt = front_length x.tables.functions code X.tables.functions front in
      let all : length X.tables.functions ≤ 2 ^ 32 = numbered.functions in
      (omega arith, code_small X main numbered given_routines code x front)

  -- ---- the first time

  record Holds (done : List ExternalDeclaration) (x : File) : Type 0 where
    file : FileHolds P D done x
    objects : ObjectsHold x
    creates : CreatesHold x

  first_kept : IsKept X main numbered given_routines L Holds
  first_kept = record {
    at_objects = λ done o x k. record { file = holds_on P D done o x k.file; objects = k.objects; creates = k.creates };
    at_object = λ done words pointer d x name is inside k.
        let w = left (g.global words pointer d x) in
        record {
          file = object_keeps X main numbered D done d x w is inside.tables k.file;
          objects = object_objects X main numbered d x w name is inside.tables k.objects;
          creates = object_creates words pointer d x (same_functions X main numbered d x w is.is) k.creates;
        };
    at_function = λ done rest f x is valid is_left inside k.
        let h = y.header x.scope f in
        let w = left (y.function f x) in
        let p = placed X.found f h x w is_left in
        record {
          file = function_keeps X.found P D done rest f x w k.file (ap definitions (sym is)) valid.0 is_left (fits f h x w is_left.tables inside);
          objects = function_objects f h f.body x w is_left.tables (placed_grows X.found P D f h x w p) k.objects;
          creates = function_creates f x k.creates;
        };
  }

  first : Holds L X
  first = at_end Holds first_kept (record { file = holds_before P L; objects = objects_before L; creates = λ c inside. absurd (in_none c inside) })

  -- ---- headers

  few : length (body_names L) ≤ 2 ^ 32
  few =
      let e = first.file.count in
      let all : length X.tables.functions ≤ 2 ^ 32 = numbered.functions in
      omega arith

  abbrev the_main : IsMainOf X.scope main
  the_main = main_is X.scope main has_main

  main_noted : named_in D (codes "main") ≡ Some main
  main_noted =
      let m = the_main in
      let named = first.file.headers.named (codes "main") m.place m.at in
      let same = same_Some named.0 m.header (sym named.1 ∙ m.header_at) in
      sym named.2.definition ∙ ap (λ (h : Header). h.definition) same ∙ m.definition

  module _ (n : ℕ) (h : Header) (at : slice_get X.scope.headers n ≡ Some h) where
    abbrev name : List ℕ
    name = (first.file.headers.names n h at).0

    named : named_in X.scope.inner name ≡ Some (meaning.Function n)
    named = (first.file.headers.names n h at).1

    header_of : IsHeaderOf D name h
    header_of =
        let known = first.file.headers.named name n named in
        subst (λ k. IsHeaderOf D name k) (same_Some known.0 h (sym known.1 ∙ at)) known.2

    definition_of : (number : ℕ) → h.definition ≡ Some number → IsDefinition P h number
    definition_of number is =
        let noted = sym header_of.definition ∙ is in
        let body = definition_number L name number few noted in
        let lt = slice_get_within (body_names L) number name body in
        let e = first.file.count in
        let code = get_there X.tables.functions number (omega arith) in
        let known = first.file.codes number code.0 code.1 in
        let same = same_Some code.0.name name (sym known.body ∙ body) in
        let place = function_number known.place n
        (same_Some (meaning.Function known.place) (meaning.Function n) (sym known.at ∙ ap (λ k. named_in X.scope.inner k) same ∙ named)) in
        let header = same_Some known.header h (sym known.header_at ∙ ap (λ k. slice_get X.scope.headers k) place ∙ at) in
        record {
          code = code.0;
          found = code.1;
          returns = known.returns ∙ ap y.return_type header;
          parameters = known.parameters ∙ ap (λ (k : Header). length k.parameters) header;
          main = λ of_main.
              let m = the_main in
              let own = definition_number L (codes "main") main few main_noted in
              let one = same_Some name (codes "main") (sym body ∙ ap (λ k. slice_get (body_names L) k) of_main ∙ own) in
              let there = function_number n m.place
              (same_Some (meaning.Function n) (meaning.Function m.place) (sym named ∙ ap (λ k. named_in X.scope.inner k) one ∙ m.at)) in
              let same_header = same_Some h m.header (sym at ∙ ap (λ k. slice_get X.scope.headers k) there ∙ m.header_at) in
              ap (λ (k : Header). k.is_main) same_header ∙ m.is_main;
        }

    header_is_one : IsHeader P h
    header_is_one = record { listed = header_of.listed; definition = definition_of }

  headers : AllByRecursion (IsHeader P) X.scope.headers
  headers = all_from (IsHeader P) X.scope.headers (λ n h at. header_is_one n h at)

  -- ---- the second time

  record Bodies (done : List ExternalDeclaration) (x : File) : Type 0 where
    file : FileHolds P D done x
    bodies : BodiesHold X.found P x.tables.functions

  second_kept : IsKept X main numbered given_routines L Bodies
  second_kept = record {
    at_objects = λ done o x k. record { file = holds_on P D done o x k.file; bodies = k.bodies };
    at_object = λ done words pointer d x name is inside k.
        let w = left (g.global words pointer d x) in
        record {
          file = object_keeps X main numbered D done d x w is inside.tables k.file;
          bodies = subst (λ l. BodiesHold X.found P l) (sym (same_functions X main numbered d x w is.is)) k.bodies;
        };
    at_function = λ done rest f x is valid is_left inside k.
        let h = y.header x.scope f in
        let w = left (y.function f x) in
        let small = fits f h x w is_left.tables inside in
        record {
          file = function_keeps X.found P D done rest f x w k.file (ap definitions (sym is)) valid.0 is_left small;
          bodies =
              bodies_keep X.found P given_routines f h x w k.file.scope refl (is_function f x) is_left inside.found
              (all_in_front (IsHeader P) w.scope.headers X.scope.headers inside.headers headers) valid.1 small k.bodies;
        };
  }

  bodies : BodiesHold X.found P X.tables.functions
  bodies = (at_end Bodies second_kept (record { file = holds_before P L; bodies = λ number code is. absurd (none-some code (is)) })).bodies

  -- ---- all of them

  main_in_order : r.IsMain P
  main_in_order =
      let m = the_main in
      let named = first.file.headers.named (codes "main") m.place m.at in
      let same = same_Some named.0 m.header (sym named.1 ∙ m.header_at) in
      let types = named.2.main (ap (λ (h : Header). h.is_main) same ∙ m.is_main) in
      let d = definition_of m.place m.header m.header_at main m.definition in
      record {
        code = d.code;
        found = d.found;
        returns = d.returns ∙ main_returns m.header (subst (λ (h : Header). is_int h.returns ≡ true) same types.0);
        parameters = d.parameters ∙ no_parameters m.header.parameters (subst (λ (h : Header). y.is_empty h.parameters ≡ true) same types.1);
      }

  routine_at : (o : Option Function) (code : Function) → o ≡ Some code → r.IsStartRoutine code → r.IsRoutineAt o
  routine_at o code at is = subst r.IsRoutineAt (sym at) is

  pointer_routine : (number : ℕ) → IsPointerAt P number → r.IsRoutineAt (slice_get P.functions number)
  pointer_routine number is =
      let d = bodies number is.0 is.1 in
      routine_at (slice_get P.functions number) is.0 is.1 (subst (λ (t : ReturnType). r.IfStartRoutine is.0 t) is.2 (start_is d.1))

  pub gathered : IsGathered P X.tables.threads X.found
  gathered = record {
    main = main_in_order;
    functions = all_from (r.IsFunction P) X.tables.functions (λ n code at. function_is (bodies n code at).1 (first.file.codes n code at).valid);
    start_routines = all_from (λ (f : Function). r.IfStartRoutine f f.returns) X.tables.functions (λ n code at. start_is (bodies n code at).1);
    bodies = λ number code at. found_is (bodies number code at).1;
    globals = first.objects.globals;
    threads = first.objects.others.threads;
    mutexes = first.objects.others.mutexes;
    barriers = first.objects.others.barriers;
    routines = λ c inside.
        let made = first.creates c inside in
        let place = at_Contains X.tables.functions made.0 made.1 in
        pointer_routine c.routine ((bodies place.0 made.0 place.1).1.body.creates c.thread c.routine made.2).0;
    creations = λ c inside.
        let made = first.creates c inside in
        record { creator = made.0; found = made.1; created = made.2 };
    function_names =
        distinct (λ (f : Function). f.name) X.tables.functions
        (λ i j a b at_i at_j same. one_number D (body_names L) X.scope X.tables.functions first.file.codes i j a b at_i at_j same);
    global_names =
        distinct (λ (a : GlobalVariable). a.name) X.tables.globals
        (λ i j a b at_i at_j same. one_global X.scope X.tables.globals first.objects.names i j a b at_i at_j same);
  }
