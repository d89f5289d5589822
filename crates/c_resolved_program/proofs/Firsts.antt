-- The number that a text's definitions give to a name is that of the first body of this name.
use Rattle.std.proofs.Common.{◌≡◌, refl, sym, ap, ◌∙◌, ℕ, ◌<◌, ◌≤◌, List, [], ◌∷◌, ◌++◌, length, Option, Some, None, append_assoc, append-nil, arith}
use Rattle.std.specs.Prelude.{◌^◌, fold, is_some, if◌then◌else◌}
use Rattle.std.proofs.lemmas.List.Sums.{fold-append}
use Rattle.c_tree.specs.declared.statement.Block.{Block}
use Rattle.c_tree.specs.declared.declaration.Function.{Function as FunctionTree}
use Rattle.c_tree.specs.declared.declaration.ExternalDeclaration.{ExternalDeclaration}
use Rattle.c_tree.specs.declared.declaration.ExternalDeclaration.TheVariants as external
use Rattle.c_rules.specs.Levels.{named_in, inserted}
use Rattle.c_resolution.specs.Texts as y
use Rattle.c_resolved_program.proofs.Numbers.{names_in, body_names, all_noted, least_is}
use Rattle.c_resolved_program.proofs.GrownScope.{inserted_there, inserted_keeps}

pub body_names_on : (xs ys : List ExternalDeclaration) → body_names (xs ++ ys) ≡ body_names xs ++ body_names ys
body_names_on [] ys = refl
body_names_on (x ∷ xs) ys =
    ap (λ l. names_in x ++ l) (body_names_on xs ys) ∙ sym (append_assoc (names_in x) (body_names xs) (body_names ys))

pub body_names_more : (xs : List ExternalDeclaration) (d : ExternalDeclaration) → body_names (xs ++ d ∷ []) ≡ body_names xs ++ names_in d
body_names_more xs d = body_names_on xs (d ∷ []) ∙ ap (λ l. body_names xs ++ l) (append-nil (names_in d))

-- ---- a name that is noted stays so

keeps_by : (o : Option ℕ) (names : List (List ℕ × ℕ)) (name key : List ℕ) (a k : ℕ) → named_in names name ≡ o → named_in names key ≡ Some k →
    named_in (if is_some o then names else inserted names name a) key ≡ Some k
keeps_by None names name key a k at is = inserted_keeps names name key a k at is
keeps_by (Some n) names name key a k at is = is

function_keeps : (f : FunctionTree) (body : Option Block) (d : y.Noted) (key : List ℕ) (k : ℕ) → named_in d.0 key ≡ Some k →
    named_in (y.with_function f d body).0 key ≡ Some k
function_keeps f None d key k is = is
function_keeps f (Some body) d key k is = keeps_by (named_in d.0 f.name.bytes) d.0 f.name.bytes key d.1 k refl is

declaration_keeps : (x : ExternalDeclaration) (d : y.Noted) (key : List ℕ) (k : ℕ) → named_in d.0 key ≡ Some k → named_in (y.with_declaration d x).0 key ≡ Some k
declaration_keeps (external.Function f) d key k is = function_keeps f f.body d key k is
declaration_keeps (external.Objects o) d key k is = is

all_keep : (list : List ExternalDeclaration) (d : y.Noted) (key : List ℕ) (k : ℕ) → named_in d.0 key ≡ Some k → named_in (fold y.with_declaration d list).0 key ≡ Some k
all_keep [] d key k is = is
all_keep (x ∷ list) d key k is = all_keep list (y.with_declaration d x) key k (declaration_keeps x d key k is)

-- ---- the first body of a name

noted_new : (o : Option ℕ) (names : List (List ℕ × ℕ)) (name : List ℕ) (a : ℕ) → o ≡ None → named_in (if is_some o then names else inserted names name a) name ≡ Some a
noted_new None names name a none = inserted_there names name a
noted_new (Some n) names name a none = cc

pub first_number : (done rest : List ExternalDeclaration) (f : FunctionTree) (body : Block) → f.body ≡ Some body → length (body_names done) < 2 ^ 32 →
    named_in (y.definitions done) f.name.bytes ≡ None →
    named_in (y.definitions (done ++ external.Function f ∷ rest)) f.name.bytes ≡ Some (length (body_names done))
first_number done rest f body has small none =
    let d = fold y.with_declaration ([], 0) done in
    let at_most : length (body_names done) ≤ 2 ^ 32 = omega arith in
    let are = all_noted done [] ([], 0) at_most (record { next = refl; entries = tt }) in
    let name = f.name.bytes in
    let begun = y.with_function f d (Some body) in
    let at : named_in begun.0 name ≡ Some (length (body_names done)) =
    noted_new (named_in d.0 name) d.0 name d.1 none ∙ ap Some (are.next ∙ least_is (length (body_names done)) small) in
    ap (λ (z : y.Noted). named_in z.0 name)
    (fold-append y.with_declaration ([], 0) done (external.Function f ∷ rest) ∙ ap (λ b. fold y.with_declaration (y.with_function f d b) rest) has)
    ∙ all_keep rest begun name (length (body_names done)) at
