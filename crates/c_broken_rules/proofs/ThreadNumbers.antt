-- The numbers of thread objects: how many of a text stand before the first one of the name.
use Rattle.std.proofs.Common.{◌≡◌, refl, sym, ap, ◌∙◌, ℕ, suc, ◌<◌, Bool, true, false, List, [], ◌∷◌, ◌++◌, length, Some, None, append_assoc, arith}
use Rattle.std.specs.Prelude.{if◌then◌else◌, slice_get}
use Rattle.std.specs.Str.{bytes_eq}
use Rattle.std.proofs.lemmas.Slice.Eq.{bytes_eq-Decides}
use Rattle.std.proofs.lemmas.Option.{same_Some, none-some}
use Rattle.std.proofs.lemmas.List.{length-append}
use Rattle.c_rules.specs.Levels.{named_in}
use Rattle.c_broken_rules.specs.Sight.{Declared, Names}
use Rattle.c_broken_rules.proofs.Walks.{is_thread}

-- whether a name is declared as a thread object at file scope
abbrev pub is_thread_declared : Declared → Bool
is_thread_declared (Declared.OfObject words pointer d) = is_thread words pointer d
is_thread_declared other = false

abbrev pub thread_by : Bool → List ℕ → List (List ℕ)
thread_by true key = key ∷ []
thread_by false key = []

-- the names of the thread objects among names, in their order
abbrev pub threads_of : Names → List (List ℕ)
threads_of [] = []
threads_of (d ∷ more) = thread_by (is_thread_declared d.1) d.0 ++ threads_of more

-- how many names stand before the first one that is the same
abbrev pub first_index : List (List ℕ) → List ℕ → ℕ
first_index [] key = 0
first_index (x ∷ xs) key = if bytes_eq key x then 0 else suc (first_index xs key)

pub threads_both : (xs ys : Names) → threads_of (xs ++ ys) ≡ threads_of xs ++ threads_of ys
threads_both [] ys = refl
threads_both (d ∷ xs) ys =
    ap (λ l. thread_by (is_thread_declared d.1) d.0 ++ l) (threads_both xs ys)
    ∙ sym (append_assoc (thread_by (is_thread_declared d.1) d.0) (threads_of xs) (threads_of ys))

-- ---- a new name

new_by : (b t : Bool) (d : List ℕ × Declared) (names : Names) (key : List ℕ) (rest : List (List ℕ)) → bytes_eq key d.0 ≡ b → (if b then Some d.1 else named_in names key) ≡ None →
    (named_in names key ≡ None → first_index (threads_of names ++ key ∷ rest) key ≡ length (threads_of names)) →
    first_index ((thread_by t d.0 ++ threads_of names) ++ key ∷ rest) key ≡ length (thread_by t d.0 ++ threads_of names)
new_by true t d names key rest e none later = absurd (none-some d.1 (sym none))
new_by false true d names key rest e none later = ap (λ b. if b then 0 else suc (first_index (threads_of names ++ key ∷ rest) key)) e ∙ ap suc (later none)
new_by false false d names key rest e none later = later none

pub first_new : (names : Names) (key : List ℕ) (rest : List (List ℕ)) → named_in names key ≡ None → first_index (threads_of names ++ key ∷ rest) key ≡ length (threads_of names)
first_new [] key rest none = ap (λ b. if b then 0 else suc (first_index rest key)) ((bytes_eq-Decides key key).1 refl)
first_new (d ∷ names) key rest none =
    new_by (bytes_eq key d.0) (is_thread_declared d.1) d names key rest refl none (λ h. first_new names key rest h)

pub new_below : (names : Names) (key : List ℕ) (rest : List (List ℕ)) → named_in names key ≡ None →
    first_index (threads_of names ++ key ∷ rest) key < length (threads_of names ++ key ∷ rest)
new_below names key rest none = omega (arith, first_new names key rest none, length-append (threads_of names) (key ∷ rest))

-- ---- the name of a number

name_by : (b : Bool) (x key : List ℕ) (xs : List (List ℕ)) → bytes_eq key x ≡ b → (if b then 0 else suc (first_index xs key)) < suc (length xs) →
    (first_index xs key < length xs → slice_get xs (first_index xs key) ≡ Some key) → slice_get (x ∷ xs) (if b then 0 else suc (first_index xs key)) ≡ Some key
name_by true x key xs e lt later = ap (λ k. Some k) (sym ((bytes_eq-Decides key x).0 e))
name_by false x key xs e lt later = later (omega arith)

name_at : (xs : List (List ℕ)) (key : List ℕ) → first_index xs key < length xs → slice_get xs (first_index xs key) ≡ Some key
name_at [] key lt = absurd (omega arith)
name_at (x ∷ xs) key lt = name_by (bytes_eq key x) x key xs refl lt (λ h. name_at xs key h)

-- a number has one name
pub one_name : (xs : List (List ℕ)) (a b : List ℕ) → first_index xs a < length xs → first_index xs b < length xs → first_index xs a ≡ first_index xs b → a ≡ b
one_name xs a b below under e = same_Some a b (sym (name_at xs a below) ∙ ap (slice_get xs) e ∙ name_at xs b under)
