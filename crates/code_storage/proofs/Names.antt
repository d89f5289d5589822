-- There is a name, or none, for each variable, and each is an identifier.
use Rattle.std.proofs.Common.{◌≡◌, ℕ, zero, suc, ◌+◌, ◌-◌, Bool, true, false, if◌then◌else◌, List, [], ◌∷◌, ◌++◌, length, take, Option, Some, None, refl, sym, ap, ◌∙◌, arith}
use Rattle.std.proofs.Common.{append_assoc, append-nil, length-append, cond, get_or, map, ◌<◌}
use Rattle.std.specs.Prelude.{count_by, slice_get}
use Rattle.std.proofs.lemmas.List.Sums.{sum_by-append}
use Rattle.std.proofs.lemmas.List.{map-append}
use Rattle.std.specs.Bool.{IsTrue}
use Rattle.std.specs.List.{flat_map, list_all, AllByRecursion}
use Rattle.std.proofs.lemmas.List.Concat.{flat_map-append}
use Rattle.std.proofs.lemmas.Option.{slice_get_read}
use Rattle.std.proofs.lemmas.Bool.{and_parts}
use Rattle.lists.proofs.Places.{get_front}
use Rattle.c_program.specs.declared.tree.LocalVariable.{LocalVariable}
use Rattle.c_program.specs.Limits.{print_count}
use Rattle.c_program.specs.Tree.{Function}
use Rattle.c_program.specs.Resolved.{is_letter, is_letter_or_digit}
use Rattle.code_following.specs.Typed.{IsNameIfAny}
use Rattle.code_blocks.specs.declared.homes.Home.TheVariants.{Variable}
use Rattle.code_storage.specs.Locals.{is_scalar, home_in, homes_after, variable_of, variables_of, all_locals, rooms_after}
use Rattle.code_storage.specs.Housing.{homes_there}
use Rattle.code_storage.proofs.LocalHomes.{count_last, variable_least, variables_count}
use Rattle.code_storage.proofs.FunctionRooms.{variable_room}
use Rattle.code_storage.specs.Reaching.{kept}
use Rattle.code_storage.specs.Names.{is_name, name_given, other_names, scalar_names, variable_names}

-- ---- as many as variables

scalar_count : (ls : List LocalVariable) (names : List (List ℕ)) → length (scalar_names ls names) ≡ length (variables_of ls)
scalar_count [] names = refl
scalar_count (l ∷ ls) names = go (is_scalar l) (scalar_count ls (other_names names))
  where
    go : (b : Bool) → length (scalar_names ls (other_names names)) ≡ length (variables_of ls) →
        length (if b then name_given (slice_get names 0) ∷ scalar_names ls (other_names names) else scalar_names ls (other_names names))
        ≡ length ((if b then l.ty ∷ [] else []) ++ variables_of ls)
    go true e = ap suc e
    go false e = e

pub names_count : (fs : List Function) → length (variable_names fs) ≡ length (variables_of (all_locals fs))
names_count [] = refl
names_count (f ∷ fs) =
    let one = scalar_count f.locals f.local_names in
    let later = names_count fs in
    let left = length-append (scalar_names f.locals f.local_names) (flat_map (λ (g : Function). scalar_names g.locals g.local_names) fs) in
    let right = ap length (flat_map-append variable_of f.locals (all_locals fs)) ∙ length-append (variables_of f.locals) (variables_of (all_locals fs)) in
    omega (arith, one, later, left, right)

-- ---- identifiers

letters : (bytes : List ℕ) → list_all is_letter_or_digit bytes ≡ true → AllByRecursion (λ byte. IsTrue (is_letter_or_digit byte)) bytes
letters [] e = tt
letters (byte ∷ bytes) e =
    let h = and_parts (is_letter_or_digit byte) (list_all is_letter_or_digit bytes) e in
    (h.0, letters bytes h.1)

identifier : (name : List ℕ) → is_name name ≡ true → IsNameIfAny name
identifier [] e = tt
identifier (first ∷ rest) e =
    let h = and_parts (is_letter first) (list_all is_letter_or_digit rest) e in
    (h.0, letters rest h.1)

given_is : (o : Option (List ℕ)) → IsNameIfAny (name_given o)
given_is None = tt
given_is (Some name) = go (is_name name) refl
  where
    go : (b : Bool) → is_name name ≡ b → IsNameIfAny (if b then name else [])
    go true e = identifier name e
    go false e = tt

scalars_are : (ls : List LocalVariable) (names : List (List ℕ)) → AllByRecursion IsNameIfAny (scalar_names ls names)
scalars_are [] names = tt
scalars_are (l ∷ ls) names = go (is_scalar l) (scalars_are ls (other_names names))
  where
    go : (b : Bool) → AllByRecursion IsNameIfAny (scalar_names ls (other_names names)) →
        AllByRecursion IsNameIfAny (if b then name_given (slice_get names 0) ∷ scalar_names ls (other_names names) else scalar_names ls (other_names names))
    go true all = (given_is (slice_get names 0), all)
    go false all = all

all_both : (xs ys : List (List ℕ)) → AllByRecursion IsNameIfAny xs → AllByRecursion IsNameIfAny ys → AllByRecursion IsNameIfAny (xs ++ ys)
all_both [] ys h k = k
all_both (x ∷ xs) ys h k = (h.0, all_both xs ys h.1 k)

pub names_are : (fs : List Function) → AllByRecursion IsNameIfAny (variable_names fs)
names_are [] = tt
names_are (f ∷ fs) = all_both (scalar_names f.locals f.local_names) _ (scalars_are f.locals f.local_names) (names_are fs)

-- ---- of the local that stands in the variable

get_after : (xs ys : List (List ℕ)) (n k : ℕ) → n ≡ length xs + k → slice_get (xs ++ ys) n ≡ slice_get ys k
get_after [] ys n k e = ap (slice_get ys) (let same : n ≡ k = omega arith in same)
get_after (x ∷ xs) ys zero k e = absurd (omega arith)
get_after (x ∷ xs) ys (suc n) k e = get_after xs ys n k (omega arith)

other_there : (names : List (List ℕ)) (x : ℕ) → slice_get (other_names names) x ≡ slice_get names (suc x)
other_there [] x = refl
other_there (name ∷ names) x = refl

-- one of these locals, after those before them
scalar_named : (before ls : List LocalVariable) (names : List (List ℕ)) (x n k : ℕ) → slice_get (homes_after before ls) x ≡ Some (Variable n) → n ≡ count_by is_scalar before + k →
    slice_get (scalar_names ls names) k ≡ Some (name_given (slice_get names x))
scalar_named before [] names x n k e at = cc
scalar_named before (l ∷ ls) names zero n k e at = by (is_scalar l) e
  where
    by : (b : Bool) → Some (home_in b before) ≡ Some (Variable n) →
        slice_get (if b then name_given (slice_get names 0) ∷ scalar_names ls (other_names names) else scalar_names ls (other_names names)) k ≡ Some (name_given (slice_get names 0))
    by true q =
        let same : count_by is_scalar before ≡ n = cc in
        let first : k ≡ 0 = omega (arith, same, at) in
        ap (slice_get (name_given (slice_get names 0) ∷ scalar_names ls (other_names names))) first
    by false q = cc
scalar_named before (l ∷ ls) names (suc x) n k e at =
    by (is_scalar l) refl k at (λ j from. scalar_named (before ++ l ∷ []) ls (other_names names) x n j e from ∙ ap (λ o. Some (name_given o)) (other_there names x))
  where
    by : (b : Bool) → is_scalar l ≡ b → (j : ℕ) → n ≡ count_by is_scalar before + j →
        ((i : ℕ) → n ≡ count_by is_scalar (before ++ l ∷ []) + i → slice_get (scalar_names ls (other_names names)) i ≡ Some (name_given (slice_get names (suc x)))) →
        slice_get (if b then name_given (slice_get names 0) ∷ scalar_names ls (other_names names) else scalar_names ls (other_names names)) j ≡ Some (name_given (slice_get names (suc x)))
    by true is zero from next =
        absurd (let least = variable_least (before ++ l ∷ []) ls x n e in let one = count_last is_scalar before l true is in omega (arith, least, one, from))
    by true is (suc j) from next = next j (let one = count_last is_scalar before l true is in omega (arith, one, from))
    by false is j from next = next j (let one = count_last is_scalar before l false is in omega (arith, one, from))

pub named_in_rooms : (before : List LocalVariable) (site : ℕ) (fs : List Function) (g x n k : ℕ) (f : Function) → slice_get fs g ≡ Some f →
    slice_get (homes_there (slice_get (rooms_after before site fs) g)) x ≡ Some (Variable n) → n ≡ count_by is_scalar before + k →
    slice_get (variable_names fs) k ≡ Some (name_given (slice_get f.local_names x))
named_in_rooms before site [] g x n k f at e from = cc
named_in_rooms before site (d ∷ fs) zero x n k f at e from =
    get_front (scalar_names d.locals d.local_names) (variable_names fs) k (name_given (slice_get f.local_names x))
    (scalar_named before d.locals d.local_names x n k e from ∙ ap (λ (z : Function). Some (name_given (slice_get z.local_names x))) (let same : d ≡ f = cc in same))
named_in_rooms before site (d ∷ fs) (suc g) x n k f at e from =
    let least = variable_room (before ++ d.locals) (site + print_count d.body) fs g x n e in
    let split = sum_by-append (λ (z : LocalVariable). cond (is_scalar z) 1 0) before d.locals in
    let long = scalar_count d.locals d.local_names in
    let many = variables_count d.locals in
    get_after (scalar_names d.locals d.local_names) (variable_names fs) k (k - count_by is_scalar d.locals) (omega (arith, least, split, long, many, from))
    ∙ named_in_rooms (before ++ d.locals) (site + print_count d.body) fs g x n (k - count_by is_scalar d.locals) f at e (omega (arith, least, split, from))

-- ---- as the code lists them

-- one more local
pub scalars_more : (ls : List LocalVariable) (names : List (List ℕ)) (i : ℕ) (l : LocalVariable) → slice_get ls i ≡ Some l →
    scalar_names (take (suc i) ls) names ≡ scalar_names (take i ls) names ++ (if is_scalar l then name_given (slice_get names i) ∷ [] else [])
scalars_more [] names i l at = cc
scalars_more (d ∷ ls) names zero l at = ap (λ (z : LocalVariable). if is_scalar z then name_given (slice_get names 0) ∷ [] else []) (let same : d ≡ l = cc in same)
scalars_more (d ∷ ls) names (suc i) l at =
    by (is_scalar d)
    (scalars_more ls (other_names names) i l at
    ∙ ap (λ o. scalar_names (take i ls) (other_names names) ++ (if is_scalar l then name_given o ∷ [] else [])) (other_there names i))
  where
    by : (b : Bool) →
        scalar_names (take (suc i) ls) (other_names names) ≡ scalar_names (take i ls) (other_names names) ++ (if is_scalar l then name_given (slice_get names (suc i)) ∷ [] else []) →
        (if b then name_given (slice_get names 0) ∷ scalar_names (take (suc i) ls) (other_names names) else scalar_names (take (suc i) ls) (other_names names))
        ≡ (if b then name_given (slice_get names 0) ∷ scalar_names (take i ls) (other_names names) else scalar_names (take i ls) (other_names names))
        ++ (if is_scalar l then name_given (slice_get names (suc i)) ∷ [] else [])
    by true rest = ap (λ all. name_given (slice_get names 0) ∷ all) rest
    by false rest = rest

pub kept_names : (b : Bool) (f : Function) → (kept b f).local_names ≡ f.local_names
kept_names true f = refl
kept_names false f = refl

-- one more function
pub names_more : (fs : List Function) (f : Function) → variable_names (fs ++ f ∷ []) ≡ variable_names fs ++ scalar_names f.locals f.local_names
names_more fs f =
    flat_map-append (λ (g : Function). scalar_names g.locals g.local_names) fs (f ∷ [])
    ∙ ap (λ l. variable_names fs ++ l) (append-nil (scalar_names f.locals f.local_names))

module _ {A : Type 0} (bytes : A → List ℕ) (ls : List LocalVariable) (given : List (List ℕ)) (old names new : List A) (i : ℕ) (l : LocalVariable) (lt : i < length ls) (is : l ≡ get_or ls i l) where
  next_names : (b : Bool) → is_scalar l ≡ b →
      scalar_names (take (i + 1) ls) given ≡ scalar_names (take i ls) given ++ (if b then name_given (slice_get given i) ∷ [] else [])
  next_names b e =
      ap (λ n. scalar_names (take n ls) given) (let s : i + 1 ≡ suc i = omega arith in s) ∙ scalars_more ls given i l (slice_get_read ls (length ls) i l refl lt is)
      ∙ ap (λ c. scalar_names (take i ls) given ++ (if c then name_given (slice_get given i) ∷ [] else [])) e

  -- after a scalar
  pub named_more : (name : A) → is_scalar l ≡ true → map bytes names ≡ map bytes old ++ scalar_names (take i ls) given →
      bytes name ≡ name_given (slice_get given i) → new ≡ names ++ name ∷ [] → map bytes new ≡ map bytes old ++ scalar_names (take (i + 1) ls) given
  named_more name scalar before named pushed =
      ap (map bytes) pushed ∙ map-append bytes names (name ∷ [])
      ∙ ap (λ xs. xs ++ bytes name ∷ []) before
      ∙ append_assoc (map bytes old) (scalar_names (take i ls) given) (bytes name ∷ [])
      ∙ ap (λ n. map bytes old ++ (scalar_names (take i ls) given ++ n ∷ [])) named
      ∙ ap (λ xs. map bytes old ++ xs) (sym (next_names true scalar))

  -- after an array
  pub named_as : is_scalar l ≡ false → map bytes names ≡ map bytes old ++ scalar_names (take i ls) given → new ≡ names →
      map bytes new ≡ map bytes old ++ scalar_names (take (i + 1) ls) given
  named_as array before same =
      ap (map bytes) same ∙ before
      ∙ ap (λ xs. map bytes old ++ xs) (sym (next_names false array ∙ append-nil (scalar_names (take i ls) given)))

-- ---- the name at a place

pub name_taken : (o : Option (List ℕ)) (name : List ℕ) → o ≡ Some name → is_name name ≡ true → name ≡ name_given o
name_taken o name e t = sym (ap name_given e ∙ ap (λ b. if b then name else []) t)

pub name_left : (o : Option (List ℕ)) (name : List ℕ) → o ≡ Some name → is_name name ≡ false → [] ≡ name_given o
name_left o name e t = sym (ap name_given e ∙ ap (λ b. if b then name else []) t)
