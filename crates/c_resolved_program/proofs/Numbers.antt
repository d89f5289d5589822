-- The number that a text's definitions give to a name is that of its first body.
use Rattle.std.proofs.Common.{◌≡◌, refl, sym, ap, subst, ◌∙◌, ℕ, zero, suc, ◌<◌, ◌≤◌, Bool, true, false, List, []}
use Rattle.std.proofs.Common.{◌∷◌, ◌++◌, length, Option, Some, None, append_assoc, append-nil, length-append, arith}
use Rattle.std.specs.Prelude.{◌+◌, ◌^◌, min, fold, is_some, if◌then◌else◌, slice_get}
use Rattle.std.specs.List.{AllByRecursion}
use Rattle.std.specs.Str.{bytes_eq}
use Rattle.std.proofs.lemmas.Slice.Eq.{bytes_eq-Decides}
use Rattle.std.proofs.lemmas.Option.{same_Some, none-some}
use Rattle.lists.proofs.Places.{length_more, get_last}
use Rattle.c_tree.specs.declared.statement.Block.{Block}
use Rattle.c_tree.specs.declared.declaration.Function.{Function as FunctionTree}
use Rattle.c_tree.specs.declared.declaration.ExternalDeclaration.{ExternalDeclaration}
use Rattle.c_tree.specs.declared.declaration.ExternalDeclaration.TheVariants as external
use Rattle.c_rules.specs.Levels.{named_in, inserted}
use Rattle.c_resolution.specs.Texts as y

-- the names of the functions that have a body, in the order of the text
abbrev pub names_of : FunctionTree → Option Block → List (List ℕ)
names_of f None = []
names_of f (Some body) = f.name.bytes ∷ []

abbrev pub names_in : ExternalDeclaration → List (List ℕ)
names_in (external.Function f) = names_of f f.body
names_in (external.Objects o) = []

abbrev pub body_names : List ExternalDeclaration → List (List ℕ)
body_names [] = []
body_names (d ∷ list) = names_in d ++ body_names list

-- ---- a new name

-- each name of the table is that of the body of its number
abbrev pub IsAt : List (List ℕ) → List ℕ × ℕ → Type 0
IsAt done e = slice_get done e.1 ≡ Some e.0

new_by : (b : Bool) (R : List ℕ × ℕ → Type 0) (d : List ℕ × ℕ) (more : List (List ℕ × ℕ)) (name : List ℕ) (a : ℕ) →
    (if b then Some d.1 else named_in more name) ≡ None → R d → AllByRecursion R more → (named_in more name ≡ None → AllByRecursion R (inserted more name a)) →
    AllByRecursion R (if b then (d.0, a) ∷ more else d ∷ inserted more name a)
new_by true R d more name a none here all later = absurd (none-some d.1 (sym none))
new_by false R d more name a none here all later = (here, later none)

new_entry : (R : List ℕ × ℕ → Type 0) (names : List (List ℕ × ℕ)) (name : List ℕ) (a : ℕ) → named_in names name ≡ None → AllByRecursion R names → R (name, a) →
    AllByRecursion R (inserted names name a)
new_entry R [] name a none all is = (is, tt)
new_entry R (d ∷ more) name a none all is =
    new_by (bytes_eq name d.0) R d more name a none all.0 all.1 (λ absent. new_entry R more name a absent all.1 is)

noted_by : (o : Option ℕ) (R : List ℕ × ℕ → Type 0) (names : List (List ℕ × ℕ)) (name : List ℕ) (a : ℕ) → named_in names name ≡ o → AllByRecursion R names → R (name, a) →
    AllByRecursion R (if is_some o then names else inserted names name a)
noted_by None R names name a none all is = new_entry R names name a none all is
noted_by (Some n) R names name a none all is = all

grown_at : (done : List (List ℕ)) (name key : List ℕ) (k : ℕ) → slice_get done k ≡ Some key → slice_get (done ++ name ∷ []) k ≡ Some key
grown_at [] name key k is = absurd (none-some key (is))
grown_at (x ∷ done) name key zero is = is
grown_at (x ∷ done) name key (suc k) is = grown_at done name key k is

grown : (done : List (List ℕ)) (name : List ℕ) (e : List ℕ × ℕ) → IsAt done e → IsAt (done ++ name ∷ []) e
grown done name e is = grown_at done name e.0 e.1 is

all_grown : (done : List (List ℕ)) (name : List ℕ) (names : List (List ℕ × ℕ)) → AllByRecursion (IsAt done) names → AllByRecursion (IsAt (done ++ name ∷ [])) names
all_grown done name [] all = tt
all_grown done name (e ∷ names) all = (grown done name e all.0, all_grown done name names all.1)

-- ---- all definitions

pub record AreNoted (done : List (List ℕ)) (d : y.Noted) : Type 0 where
  pub next : d.1 ≡ min (length done) 0xffff_ffff
  pub entries : AllByRecursion (IsAt done) d.0

pub least_is : (n : ℕ) → n < 2 ^ 32 → min n 0xffff_ffff ≡ n
least_is n lt = grind arith

next_is : (n : ℕ) → min (min n 0xffff_ffff + 1) 0xffff_ffff ≡ min (suc n) 0xffff_ffff
next_is n = grind arith

noted_function : (f : FunctionTree) (body : Option Block) (done : List (List ℕ)) (d : y.Noted) → length (done ++ names_of f body) ≤ 2 ^ 32 → AreNoted done d →
    AreNoted (done ++ names_of f body) (y.with_function f d body)
noted_function f None done d small are = subst (λ l. AreNoted l d) (sym (append-nil done)) are
noted_function f (Some body) done d small are =
    let name = f.name.bytes in
    let more = length_more done name in
    let lt : length done < 2 ^ 32 = omega arith in
    let at = are.next ∙ least_is (length done) lt in
    record {
      next = ap (λ n. min (n + 1) 0xffff_ffff) are.next ∙ next_is (length done) ∙ ap (λ n. min n 0xffff_ffff) (sym more);
      entries =
          noted_by (named_in d.0 name) (IsAt (done ++ name ∷ [])) d.0 name d.1 refl (all_grown done name d.0 are.entries)
          (ap (λ n. slice_get (done ++ name ∷ []) n) at ∙ get_last done name);
    }

noted_declaration : (x : ExternalDeclaration) (done : List (List ℕ)) (d : y.Noted) → length (done ++ names_in x) ≤ 2 ^ 32 → AreNoted done d →
    AreNoted (done ++ names_in x) (y.with_declaration d x)
noted_declaration (external.Function f) done d small are = noted_function f f.body done d small are
noted_declaration (external.Objects o) done d small are = subst (λ l. AreNoted l d) (sym (append-nil done)) are

pub all_noted : (list : List ExternalDeclaration) (done : List (List ℕ)) (d : y.Noted) → length (done ++ body_names list) ≤ 2 ^ 32 → AreNoted done d →
    AreNoted (done ++ body_names list) (fold y.with_declaration d list)
all_noted [] done d small are = subst (λ l. AreNoted l d) (sym (append-nil done)) are
all_noted (x ∷ list) done d small are =
    let e = append_assoc done (names_in x) (body_names list) in
    let small_too = subst (λ l. length l ≤ 2 ^ 32) (sym e) small in
    let front = length-append (done ++ names_in x) (body_names list) in
    subst (λ l. AreNoted l (fold y.with_declaration (y.with_declaration d x) list)) e
    (all_noted list (done ++ names_in x) (y.with_declaration d x) small_too (noted_declaration x done d (omega arith) are))

found_by : (b : Bool) (done : List (List ℕ)) (e : List ℕ × ℕ) (o : Option ℕ) (name : List ℕ) (n : ℕ) → bytes_eq name e.0 ≡ b → IsAt done e →
    (o ≡ Some n → slice_get done n ≡ Some name) →
    (if b then Some e.1 else o) ≡ Some n → slice_get done n ≡ Some name
found_by true done e o name n same at later is =
    ap (λ k. slice_get done k) (sym (same_Some e.1 n is)) ∙ at ∙ ap Some (sym ((bytes_eq-Decides name e.0).0 same))
found_by false done e o name n same at later is = later is

found_at : (done : List (List ℕ)) (names : List (List ℕ × ℕ)) (name : List ℕ) (n : ℕ) → AllByRecursion (IsAt done) names → named_in names name ≡ Some n →
    slice_get done n ≡ Some name
found_at done [] name n all is = absurd (none-some n (is))
found_at done (e ∷ names) name n all is = found_by (bytes_eq name e.0) done e (named_in names name) name n refl all.0 (found_at done names name n all.1) is

-- the number of a name is that of a body of this name
pub definition_number : (list : List ExternalDeclaration) (name : List ℕ) (n : ℕ) → length (body_names list) ≤ 2 ^ 32 → named_in (y.definitions list) name ≡ Some n →
    slice_get (body_names list) n ≡ Some name
definition_number list name n small is =
    found_at (body_names list) (y.definitions list) name n (all_noted list [] ([], 0) small (record { next = refl; entries = tt })).entries is
