-- What parameters give: a local for each, the first of which is a long where the function is a start routine.
use Rattle.std.proofs.Common.{◌≡◌, refl, sym, ap, subst, ◌∙◌, ℕ, suc, ◌<◌, Bool, true, false, List, [], ◌∷◌, ◌++◌, length, Option, Some, None, append_assoc, append-nil, arith}
use Rattle.std.specs.Prelude.{not, slice_get, if◌then◌else◌, ⊤}
use Rattle.std.specs.List.{AllByRecursion}
use Rattle.std.proofs.lemmas.Bool.{not-false}
use Rattle.std.proofs.lemmas.List.{nil_from_length}
use Rattle.hls_ints.specs.Types.{long_int}
use Rattle.c_tree.specs.declared.expression.Name.{Name}
use Rattle.c_tree.specs.declared.declaration.Parameter.{Parameter}
use Rattle.c_program.specs.declared.tree.LocalVariable.{LocalVariable}
use Rattle.c_program.specs.Tree.{Function, Program}
use Rattle.c_program.specs.Resolved.{scalar}
use Rattle.c_rules.specs.declared.fault.Rule.TheVariants as rule
use Rattle.c_rules.specs.declared.findings.Findings.{Findings}
use Rattle.c_rules.specs.declared.specifiers.BasicType.{BasicType}
use Rattle.c_rules.specs.declared.specifiers.Spelled.{Spelled}
use Rattle.c_rules.specs.declared.dimensions.Dimensions.TheVariants.{Scalar}
use Rattle.c_rules.specs.declared.names.Meaning.{Meaning}
use Rattle.c_rules.specs.declared.names.Meaning.TheVariants as meaning
use Rattle.c_rules.specs.Specifiers.{c_type, plain, spelled_by}
use Rattle.c_rules.specs.Names.{is_taken, declaring}
use Rattle.c_rules.specs.Walks.{Outcome, through, finds, finds_if}
use Rattle.c_resolution.specs.States.{State, Goes, finding, scoping}
use Rattle.c_resolution.specs.Locals.{new_local, refused_local, declare}
use Rattle.c_resolution.specs.Functions as y
use Rattle.c_resolved_program.specs.Orders.{left, given, declared_in, IsFront, IsMeant, AreMeant, IsPartOf}
use Rattle.c_resolved_program.proofs.Walks.{shows_if, shows_broken, turn}
use Rattle.c_resolved_program.proofs.Steps.{after_one, in_scope_is, inserted_is, front_length, next_in, declared_few, declared_at}
use Rattle.c_resolved_program.proofs.Locals.{number_is, refused_local_shows}

front_of : {A : Type 0} (xs more list : List A) → IsFront (xs ++ more) list → IsFront xs list
front_of xs more list h = (more ++ h.0, sym (append_assoc xs more h.0) ∙ h.1)

rest_of : List Parameter → List Parameter
rest_of [] = []
rest_of (p ∷ list) = list

first_or : Parameter → List Parameter → Parameter
first_or p [] = p
first_or p (q ∷ list) = q

-- a part that adds a local of one element and no name, and what that stands for
pub record Adds (whole : Findings) (P : Program) (f : Function) (pointer routine : Bool) (x y : State) (m : Meaning) : Type 0 where
  pub found : IsPartOf whole x.found
  pub local : LocalVariable
  pub single : local.length ≡ 1
  pub is_long : pointer ≡ true → local ≡ scalar long_int
  pub locals : y.scope.locals ≡ x.scope.locals ++ local ∷ []
  pub inner : y.scope.inner ≡ x.scope.inner
  pub meant : IsFront y.scope.locals (declared_in f) → (routine ≡ true → IsMeant P f meaning.Argument) → IsMeant P f m

module _ (whole : Findings) (P : Program) (f : Function) (small : f.declared_locals < 0xffff_ffff) where
  new_adds : (routine : Bool) (words : Spelled) (ty : BasicType) (x : State) → IsPartOf whole (left (new_local words Scalar ty x)).found →
      Adds whole P f false routine x (left (new_local words Scalar ty x)) (given (new_local words Scalar ty x))
  unfolding new_local
  new_adds routine words ty x part =
      let l : LocalVariable = record { ty = c_type ty; length = 1 } in
      record {
        found = part;
        local = l;
        single = refl;
        is_long = λ no. cc;
        locals = refl;
        inner = refl;
        meant = λ front _.
            let within = front_length x.scope.locals l (declared_in f) front in
            let at = number_is (length x.scope.locals) 0xffff_ffff (let few = declared_few f in omega (arith, within, few, small)) (omega arith) in
            (ap (λ n. slice_get f.locals n) at ∙ declared_at f (length x.scope.locals) l (next_in x.scope.locals l (declared_in f) front), tt);
      }

  pointer_adds : (words : Spelled) (routine : Bool) (at : ℕ) (x : State) → IsPartOf whole (left (y.pointer_parameter words routine at x)).found →
      Adds whole P f true routine x (left (y.pointer_parameter words routine at x)) (given (y.pointer_parameter words routine at x))
  unfolding new_local
  pointer_adds words routine at x part = record {
    found = (shows_if {Before = ⊤} (not routine) rule.Kind at).back x.found part;
    local = scalar long_int;
    single = refl;
    is_long = λ _. refl;
    locals = refl;
    inner = refl;
    meant = λ front argument. argument (not-false routine ((shows_if {Before = ⊤} (not routine) rule.Kind at).forth x.found part tt));
  }

  of_adds : (routine : Bool) (words : Spelled) (at : ℕ) (ty : Option BasicType) (x : State) → IsPartOf whole (left (y.parameter_of words at ty x)).found →
      Adds whole P f false routine x (left (y.parameter_of words at ty x)) (given (y.parameter_of words at ty x))
  of_adds routine words at (Some ty) x part = new_adds routine words ty x part
  of_adds routine words at None x part =
      let o = refused_local words at x.found in
      absurd ((refused_local_shows {Before = ⊤} words at).forth x.found (subst (λ (o : Outcome State Meaning). IsPartOf whole (left o).found) (in_scope_is x.scope o) part) tt)

  by_pointer : (p : Parameter) (b routine : Bool) (at : ℕ) (x : State) →
      let w : Goes Meaning = if b then y.pointer_parameter (spelled_by p.specifiers) routine at
      else y.parameter_of (spelled_by p.specifiers) at (plain (spelled_by p.specifiers).is_static (spelled_by p.specifiers).base) in
      IsPartOf whole (left (w x)).found → Adds whole P f b routine x (left (w x)) (given (w x))
  by_pointer p true routine at x part = pointer_adds (spelled_by p.specifiers) routine at x part
  by_pointer p false routine at x part = of_adds routine (spelled_by p.specifiers) at (plain (spelled_by p.specifiers).is_static (spelled_by p.specifiers).base) x part

  meaning_adds : (p : Parameter) (routine : Bool) (at : ℕ) (x : State) → IsPartOf whole (left (y.parameter_meaning p routine at x)).found →
      Adds whole P f p.is_pointer routine x (left (y.parameter_meaning p routine at x)) (given (y.parameter_meaning p routine at x))
  unfolding y.parameter_meaning
  meaning_adds p routine at x part = by_pointer p p.is_pointer routine at x part

  -- ---- a parameter with its name

  -- a part that adds a local of one element, and keeps the names meant
  pub record AddsOne (pointer routine : Bool) (x y : State) : Type 0 where
    pub found : IsPartOf whole x.found
    pub local : LocalVariable
    pub single : local.length ≡ 1
    pub is_long : pointer ≡ true → local ≡ scalar long_int
    pub locals : y.scope.locals ≡ x.scope.locals ++ local ∷ []
    pub names : IsFront y.scope.locals (declared_in f) → (routine ≡ true → IsMeant P f meaning.Argument) → AreMeant P f x.scope.inner → AreMeant P f y.scope.inner

  pub record Declares (name : Name) (m : Meaning) (x y : State) : Type 0 where
    pub found : IsPartOf whole x.found
    pub locals : y.scope.locals ≡ x.scope.locals
    pub names : IsMeant P f m → AreMeant P f x.scope.inner → AreMeant P f y.scope.inner

  declare_by : (b : Bool) (name : Name) (m : Meaning) (x : State) →
      IsPartOf whole (left (if b then finding (λ scope. finds rule.Twice name.offset) x else scoping (declaring name.bytes m) x)).found →
      Declares name m x (left (if b then finding (λ scope. finds rule.Twice name.offset) x else scoping (declaring name.bytes m) x))
  unfolding declaring
  declare_by true name m x part = absurd ((shows_broken {Before = ⊤} {Is = λ _. ⊥} rule.Twice name.offset).forth x.found part tt)
  declare_by false name m x part = record { found = part; locals = refl; names = λ is all. inserted_is (IsMeant P f) x.scope.inner name.bytes m all is }

  pub declares : (name : Name) (m : Meaning) (x : State) → IsPartOf whole (left (declare name m x)).found → Declares name m x (left (declare name m x))
  unfolding declare
  declares name m x part = declare_by (is_taken x.scope name.bytes) name m x part

  same_front : (a b c : List LocalVariable) → a ≡ b → IsFront a c → IsFront b c
  same_front a b c is h = subst (λ l. IsFront l c) is h

  named_adds : (p : Parameter) (routine has_body : Bool) (name : Option Name) (x : State) → IsPartOf whole (left (y.named_parameter p routine has_body name x)).found →
      AddsOne p.is_pointer routine x (left (y.named_parameter p routine has_body name x))
  named_adds p routine has_body (Some name) x part =
      let o = y.parameter_meaning p routine name.offset x in
      let next = λ (k : Meaning). declare name k in
      let e = turn o next in
      let d = declares name (given o) (left o) (subst (λ (z : Outcome State (Unit {0})). IsPartOf whole (left z).found) e part) in
      let a = meaning_adds p routine name.offset x d.found in
      subst (λ (z : Outcome State (Unit {0})). AddsOne p.is_pointer routine x (left z)) (sym e) (record {
        found = a.found;
        local = a.local;
        single = a.single;
        is_long = a.is_long;
        locals = d.locals ∙ a.locals;
        names = λ front argument all.
            d.names (a.meant (same_front (left (declare name (given o) (left o))).scope.locals (left o).scope.locals (declared_in f) d.locals front) argument)
            (subst (AreMeant P f) (sym a.inner) all);
      })
  named_adds p routine has_body None x part =
      let at = p.specifiers.offset in
      let o = y.parameter_meaning p routine at x in
      let next = λ (k : Meaning). finding (λ s. finds_if has_body rule.Kind at) in
      let e = turn o next in
      let behind = subst (λ (z : Outcome State (Unit {0})). IsPartOf whole (left z).found) e part in
      let a = meaning_adds p routine at x ((shows_if {Before = ⊤} has_body rule.Kind at).back (left o).found behind) in
      subst (λ (z : Outcome State (Unit {0})). AddsOne p.is_pointer routine x (left z)) (sym e) (record {
        found = a.found;
        local = a.local;
        single = a.single;
        is_long = a.is_long;
        locals = a.locals;
        names = λ front argument all. subst (AreMeant P f) (sym a.inner) all;
      })

  pub parameter_adds : (p : Parameter) (routine has_body : Bool) (x : State) → IsPartOf whole (left (y.parameter routine has_body p x)).found →
      AddsOne p.is_pointer routine x (left (y.parameter routine has_body p x))
  unfolding y.parameter
  parameter_adds p routine has_body x part = named_adds p routine has_body p.name x part

  -- ---- all parameters

  -- a part that adds so many locals of one element
  pub record AddsAll (routine : Bool) (list : List Parameter) (x y : State) : Type 0 where
    pub found : IsPartOf whole x.found
    pub more : List LocalVariable
    pub locals : y.scope.locals ≡ x.scope.locals ++ more
    pub count : length more ≡ length list
    pub singles : AllByRecursion (λ (l : LocalVariable). l.length ≡ 1) more
    pub longs : (p : Parameter) → list ≡ p ∷ [] → p.is_pointer ≡ true → more ≡ scalar long_int ∷ []
    pub names : IsFront y.scope.locals (declared_in f) → (routine ≡ true → IsMeant P f meaning.Argument) → AreMeant P f x.scope.inner → AreMeant P f y.scope.inner

  all_add : (routine has_body : Bool) (list : List Parameter) (a : Unit {0}) (x : State) →
      IsPartOf whole (left (through (λ _ p. y.parameter routine has_body p) a list x)).found → AddsAll routine list x
      (left (through (λ _ p. y.parameter routine has_body p) a list x))
  unfolding rest_of first_or
  all_add routine has_body [] a x part = record {
    found = part;
    more = [];
    locals = sym (append-nil x.scope.locals);
    count = refl;
    singles = tt;
    longs = λ p is. cc;
    names = λ front argument all. all;
  }
  all_add routine has_body (p ∷ list) a x part =
      let step = λ (_ : Unit {0}) (q : Parameter). y.parameter routine has_body q in
      let o = y.parameter routine has_body p x in
      let e = after_one step a p list x in
      let later = all_add routine has_body list (given o) (left o) (subst (λ (z : Outcome State (Unit {0})). IsPartOf whole (left z).found) e part) in
      let one = parameter_adds p routine has_body x later.found in
      subst (λ (z : Outcome State (Unit {0})). AddsAll routine (p ∷ list) x (left z)) (sym e) (record {
        found = one.found;
        more = one.local ∷ later.more;
        locals = later.locals ∙ ap (λ l. l ++ later.more) one.locals ∙ append_assoc x.scope.locals (one.local ∷ []) later.more;
        count = ap suc later.count;
        singles = (one.single, later.singles);
        longs = λ q is pointer.
            let nothing = nil_from_length later.more (later.count ∙ ap (λ l. length (rest_of l)) is) in
            let long = one.is_long (ap (λ l. (first_or p l).is_pointer) is ∙ pointer) in
            ap (λ l. l ∷ later.more) long ∙ ap (λ l. scalar long_int ∷ l) nothing;
        names = λ front argument all.
            let between = front_of (left o).scope.locals later.more (declared_in f)
            (subst (λ l. IsFront l (declared_in f)) later.locals front) in
            later.names front argument (one.names between argument all);
      })

  pub parameters_add : (routine has_body : Bool) (list : List Parameter) (x : State) → IsPartOf whole (left (y.parameters routine has_body list x)).found →
      AddsAll routine list x (left (y.parameters routine has_body list x))
  unfolding y.parameters
  parameters_add routine has_body list x part = all_add routine has_body list tt x part
