-- The functions of a program between two declarations at file scope: each has a name and a header, and is the first body of
-- its name.
use Rattle.std.proofs.Common.{◌≡◌, refl, sym, ap, ◌∙◌, ℕ, Bool, true, false, List, length, Option, Some, None, eqb-true}
use Rattle.std.specs.Prelude.{◌&&◌, not, slice_get, is_some}
use Rattle.std.proofs.lemmas.Option.{same_Some}
use Rattle.c_tree.specs.declared.declaration.Function.{Function as FunctionTree}
use Rattle.c_program.specs.Tree.{Function}
use Rattle.c_program.specs.Resolved.{IsName}
use Rattle.c_rules.specs.declared.names.Meaning.TheVariants as meaning
use Rattle.c_rules.specs.declared.names.Header.{Header}
use Rattle.c_rules.specs.declared.names.Scope.{Scope}
use Rattle.c_rules.specs.Levels.{named_in}
use Rattle.c_rules.specs.Walks.{place_in_tree}
use Rattle.c_resolution.specs.Functions as y
use Rattle.c_resolved_program.proofs.GrownScope.{front_at, Grows}

-- the function of that number, where these functions are defined, and these names are those of the bodies so far
pub record IsCode (D : List (List ℕ × ℕ)) (names : List (List ℕ)) (s : Scope) (number : ℕ) (code : Function) : Type 0 where
  pub valid : IsName code.name
  pub body : slice_get names number ≡ Some code.name
  pub noted : named_in D code.name ≡ Some number
  pub place : ℕ
  pub at : named_in s.inner code.name ≡ Some (meaning.Function place)
  pub header : Header
  pub header_at : slice_get s.headers place ≡ Some header
  pub returns : code.returns ≡ y.return_type header
  pub parameters : code.parameters ≡ length header.parameters

abbrev pub AreCodes : List (List ℕ × ℕ) → List (List ℕ) → Scope → List Function → Type 0
AreCodes D names s functions = (number : ℕ) (code : Function) → slice_get functions number ≡ Some code → IsCode D names s number code

-- the names of the bodies so far stay so
abbrev pub Stay : List (List ℕ) → List (List ℕ) → Type 0
Stay names more = (n : ℕ) (name : List ℕ) → slice_get names n ≡ Some name → slice_get more n ≡ Some name

pub code_on : (D : List (List ℕ × ℕ)) (names more : List (List ℕ)) (s t : Scope) (number : ℕ) (code : Function) → Stay names more → Grows s t →
    IsCode D names s number code → IsCode D more t number code
code_on D names more s t number code stay grows is = record {
  valid = is.valid;
  body = stay number code.name is.body;
  noted = is.noted;
  place = is.place;
  at = grows.names code.name (meaning.Function is.place) is.at;
  header = is.header;
  header_at = front_at s.headers t.headers is.place is.header grows.headers is.header_at;
  returns = is.returns;
  parameters = is.parameters;
}

pub codes_on : (D : List (List ℕ × ℕ)) (names more : List (List ℕ)) (s t : Scope) (functions : List Function) → Stay names more → Grows s t →
    AreCodes D names s functions → AreCodes D more t functions
codes_on D names more s t functions stay grows are number code there = code_on D names more s t number code stay grows (are number code there)

-- two functions of one name are one
pub one_number : (D : List (List ℕ × ℕ)) (names : List (List ℕ)) (s : Scope) (functions : List Function) → AreCodes D names s functions →
    (i j : ℕ) (a b : Function) → slice_get functions i ≡ Some a → slice_get functions j ≡ Some b → a.name ≡ b.name → i ≡ j
one_number D names s functions are i j a b at_i at_j same =
    same_Some i j (sym (are i a at_i).noted ∙ ap (λ n. named_in D n) same ∙ (are j b at_j).noted)

-- ---- the number of a body that is no second one

same_place : (o : Option ℕ) (n : ℕ) → y.same_number o n ≡ true → o ≡ Some n
same_place None n h = cc
same_place (Some m) n h = ap Some (eqb-true m n h)

first_of : (b c : Bool) → b ≡ true → (b && not c) ≡ false → c ≡ true
first_of true true is h = refl
first_of true false is h = cc
first_of false c is h = cc

pub not_second : (f : FunctionTree) (h : Header) (count : ℕ) → is_some f.body ≡ true → y.is_second f h count ≡ false → h.definition ≡ Some (place_in_tree count)
not_second f h count has first =
    same_place h.definition (place_in_tree count) (first_of (is_some f.body) (y.same_number h.definition (place_in_tree count)) has first)
