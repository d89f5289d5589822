-- What the header of a function says: whether it is main, or a start routine.
use Rattle.std.proofs.Common.{◌≡◌, refl, sym, ap, ◌∙◌, ℕ, Bool, true, false, List, [], ◌∷◌}
use Rattle.std.specs.Prelude.{◌&&◌, not, if◌then◌else◌, map, codes}
use Rattle.std.specs.Str.{bytes_eq}
use Rattle.std.proofs.lemmas.Slice.Eq.{bytes_eq-Decides}
use Rattle.std.proofs.lemmas.Bool.{not-true, and_from, and_parts, false≢true}
use Rattle.c_tree.specs.declared.declaration.Function.{Function}
use Rattle.c_tree.specs.declared.declaration.Parameter.{Parameter}
use Rattle.c_tree.specs.declared.expression.TypeWord.TheVariants as word
use Rattle.c_rules.specs.declared.specifiers.BaseType.{BaseType}
use Rattle.c_rules.specs.declared.specifiers.BaseType.TheVariants as base
use Rattle.c_rules.specs.declared.specifiers.BasicType.TheVariants.{Int}
use Rattle.c_rules.specs.Names.{is_int, is_int_base, is_void_base, is_void_pointer, is_pointer_alone, is_start_routine, gives_pointer}
use Rattle.c_rules.specs.Specifiers.{base_of, has}
use Rattle.c_resolution.specs.Functions as y
use Rattle.c_broken_rules.specs.Parts.{parameters_of, parameters_in}
use Rattle.c_broken_rules.specs.Breaks.{IsMain, IsStartRoutine, IsVoidPointer}
use Rattle.c_broken_rules.proofs.Sights.{header_in}

three : (a b c : Bool) → (a && b && c) ≡ true → (a ≡ true) × (b ≡ true) × (c ≡ true)
three true true true h = (refl, refl, refl)
three true true false h = absurd (false≢true h)
three true false c h = absurd (false≢true h)
three false b c h = absurd (false≢true h)

three_back : (a b c : Bool) → a ≡ true → b ≡ true → c ≡ true → (a && b && c) ≡ true
three_back true true true h k l = refl
three_back true true false h k l = absurd (false≢true l)
three_back true false c h k l = absurd (false≢true k)
three_back false b c h k l = absurd (false≢true h)

-- ---- types

int_base : (b : BaseType) → is_int_base b ≡ true → b ≡ base.Integer Int
int_base (base.Integer Int) h = refl
int_base other h = absurd (false≢true h)

void_base : (b : BaseType) → is_void_base b ≡ true → b ≡ base.Void
void_base base.Void h = refl
void_base other h = absurd (false≢true h)

by_static : (b : Bool) (x : BaseType) → is_void_base (if b then base.Unlisted else x) ≡ true → (b ≡ false) × (x ≡ base.Void)
by_static true x h = absurd (false≢true h)
by_static false x h = (refl, void_base x h)

-- ---- parameters

written_in : (list : List Parameter) → (if y.is_no_parameter list then [] else list) ≡ parameters_in list
written_in [] = refl
written_in (only ∷ []) = refl
written_in (first ∷ next ∷ more) = refl

written_is : (f : Function) → y.written f ≡ parameters_of f
written_is f = written_in f.parameters

no_parameters : (list : List Parameter) → y.is_empty (map y.parameter_type list) ≡ true → list ≡ []
no_parameters [] h = refl
no_parameters (first ∷ more) h = absurd (false≢true h)

record Alone (list : List Parameter) : Type 0 where
  pub p : Parameter
  pub only : list ≡ p ∷ []
  pub pointer : is_void_pointer (y.parameter_type p) ≡ true

alone : (list : List Parameter) → is_pointer_alone (map y.parameter_type list) ≡ true → Alone list
alone [] h = absurd (false≢true h)
alone (p ∷ []) h = record { p = p; only = refl; pointer = h }
alone (p ∷ q ∷ more) h = absurd (false≢true h)

void_pointer : (p : Parameter) → is_void_pointer (y.parameter_type p) ≡ true → IsVoidPointer p
void_pointer p h =
    let t = and_parts (is_void_base (y.parameter_type p).base) p.is_pointer h in
    let v = by_static (has p.specifiers.words word.Static) (base_of p.specifiers.words) t.0 in
    record { pointer = t.1; void = v.1; no_static = v.0 }

pointer_void : (p : Parameter) → IsVoidPointer p → is_void_pointer (y.parameter_type p) ≡ true
pointer_void p v =
    ap (λ b. is_void_base (if b then base.Unlisted else base_of p.specifiers.words) && p.is_pointer) v.no_static
    ∙ ap (λ b. is_void_base b && p.is_pointer) v.void ∙ v.pointer

module _ (D : List (List ℕ × ℕ)) (f : Function) where
  -- ---- main

  pub main_is : (header_in D f).is_main ≡ true → IsMain f
  main_is h =
      let m = three (bytes_eq f.name.bytes (codes "main")) (is_int (y.return_of f)) (y.is_empty (map y.parameter_type (y.written f))) h in
      let i = and_parts (is_int_base (base_of f.specifiers.words)) (not f.is_pointer) m.1 in
      record {
        name = (bytes_eq-Decides f.name.bytes (codes "main")).0 m.0;
        returns = int_base (base_of f.specifiers.words) i.0;
        no_pointer = not-true f.is_pointer i.1;
        parameters = sym (written_is f) ∙ no_parameters (y.written f) m.2;
      }

  pub main_back : IsMain f → (header_in D f).is_main ≡ true
  main_back m =
      three_back (bytes_eq f.name.bytes (codes "main")) (is_int (y.return_of f)) (y.is_empty (map y.parameter_type (y.written f)))
      ((bytes_eq-Decides f.name.bytes (codes "main")).1 m.name)
      (and_from (is_int_base (base_of f.specifiers.words)) (not f.is_pointer) (ap is_int_base m.returns) (ap not m.no_pointer))
      (ap (λ l. y.is_empty (map y.parameter_type l)) (written_is f ∙ m.parameters))

  -- ---- start routines

  pub routine_is : is_start_routine (header_in D f) ≡ true → IsStartRoutine f
  routine_is h =
      let r = and_parts (is_void_pointer (y.return_of f)) (is_pointer_alone (map y.parameter_type (y.written f))) h in
      let v = and_parts (is_void_base (base_of f.specifiers.words)) f.is_pointer r.0 in
      let a = alone (y.written f) r.1 in
      record {
        returns = void_base (base_of f.specifiers.words) v.0;
        pointer = v.1;
        p = a.p;
        parameters = sym (written_is f) ∙ a.only;
        parameter = void_pointer a.p a.pointer;
      }

  pub routine_back : IsStartRoutine f → is_start_routine (header_in D f) ≡ true
  routine_back r =
      and_from (is_void_pointer (y.return_of f)) (is_pointer_alone (map y.parameter_type (y.written f)))
      (and_from (is_void_base (base_of f.specifiers.words)) f.is_pointer (ap is_void_base r.returns) r.pointer)
      (ap (λ l. is_pointer_alone (map y.parameter_type l)) (written_is f ∙ r.parameters) ∙ pointer_void r.p r.parameter)

  -- whether its body gives a pointer

  given_routine : (b : Bool) (x : BaseType) (p : Bool) → gives_pointer (y.gives_by b x p) ≡ true → b ≡ true
  given_routine true x p h = refl
  given_routine false (base.Integer ty) true h = absurd (false≢true h)
  given_routine false (base.Integer ty) false h = absurd (false≢true h)
  given_routine false base.Void true h = absurd (false≢true h)
  given_routine false base.Void false h = absurd (false≢true h)
  given_routine false base.Thread true h = absurd (false≢true h)
  given_routine false base.Thread false h = absurd (false≢true h)
  given_routine false base.Mutex true h = absurd (false≢true h)
  given_routine false base.Mutex false h = absurd (false≢true h)
  given_routine false base.Barrier true h = absurd (false≢true h)
  given_routine false base.Barrier false h = absurd (false≢true h)
  given_routine false base.Unlisted true h = absurd (false≢true h)
  given_routine false base.Unlisted false h = absurd (false≢true h)

  pub pointer_is : gives_pointer (y.gives_of (header_in D f)) ≡ true → IsStartRoutine f
  pointer_is h =
      routine_is (given_routine (is_start_routine (header_in D f)) (base_of f.specifiers.words) f.is_pointer h)

  pub pointer_back : IsStartRoutine f → gives_pointer (y.gives_of (header_in D f)) ≡ true
  pointer_back r =
      ap (λ b. gives_pointer (y.gives_by b (base_of f.specifiers.words) f.is_pointer)) (routine_back r)
      ∙ ap (λ b. gives_pointer (y.gives_by true b f.is_pointer)) r.returns ∙ ap (λ b. gives_pointer (y.gives_by true base.Void b)) r.pointer
