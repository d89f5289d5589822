-- Tables of the places of names, and of initial constants.
use Rattle.std.proofs.Common.{◌≡◌, refl, sym, ap, ◌∙◌, ℕ, suc, ◌+◌, cond, Bool, true, false, List, [], ◌∷◌, subst, length, drop, get_or, ◌≤◌, Option, Some, None, arith}
use Rattle.std.specs.Prelude.{not, unwrap_or, nat_eq, ◌&&◌, if◌then◌else◌}
use Rattle.std.specs.Map.{lookup}
use Rattle.std.specs.Option.{option_eq}
use Rattle.std.specs.Str.{bytes_eq}
use Rattle.std.proofs.lemmas.Cmp.{nat_eq_equiv, nat_list_eq_equiv}
use Rattle.std.proofs.lemmas.List.{drop_more}
use Rattle.std.proofs.Math.ListN.{drop_of_length-le}
use denote.Bor.{Bor}
use Rattle.verilog_tree.specs.declared.tree.InitialConstant.{InitialConstant}
use Rattle.netlist.specs.NetlistOf.{place, same_word, initial_of}
use Rattle.net_names.specs.Found.{behind}
use Rattle.net_names.specs.Tables.{Name, names_of, number_of, AreFirstPlaces, AreConstants}

module _ {K : Type 0} (same : K → K → Bool) where
  -- the second table is the first with a number of a key
  abbrev pub Inserts : List (K × ℕ) → K → ℕ → List (K × ℕ) → Type 0
  Inserts old key n new = (q : K) → lookup (same q) new ≡ cond (same key q) (Some n) (lookup (same q) old)

-- ---- the places of names

abbrev pub same_name : Bor Name → Bor Name → Bool
same_name x y = bytes_eq x.now y.now

pub no_place : (table : List (Bor Name × ℕ)) (names : List (Bor Name)) (count : ℕ) → table ≡ [] → count ≡ length names → AreFirstPlaces table count (names_of (drop count names))
no_place table names count empty all =
    subst (λ list. AreFirstPlaces table count (names_of list)) (sym (drop_of_length-le names (omega (arith, all))))
    (λ x. ap (λ es. unwrap_or (lookup (λ y. bytes_eq x y.now) es) (count + 0)) empty)

place_by : (b : Bool) (k : ℕ) (o : Option ℕ) (count all later : ℕ) → all ≡ count → unwrap_or o count ≡ (k + 1) + later →
    unwrap_or (cond b (Some k) o) all ≡ k + cond (not b) (1 + later) 0
place_by true k o count all later same next = omega arith
place_by false k o count all later same next = let one : (k + 1) + later ≡ k + (1 + later) = omega arith in ap (unwrap_or o) same ∙ next ∙ one

-- a name in front of those that the table has
one_place : (old new : List (Bor Name × ℕ)) (key : Bor Name) (k : ℕ) (names : List Name) → Inserts same_name old key k new →
    AreFirstPlaces old (k + 1) names → AreFirstPlaces new k (key.now ∷ names)
one_place old new key k names inserts are x =
    let q : Bor Name = record { ref_ptr = key.ref_ptr; now = x } in
    let before : Option ℕ = lookup (same_name q) old in
    let all : k + length (key.now ∷ names) ≡ (k + 1) + length names = omega arith in
    ap (λ o. unwrap_or o (k + length (key.now ∷ names))) (inserts q ∙ ap (λ b. cond b (Some k) before) (nat_list_eq_equiv.symm key.now x))
    ∙ place_by (bytes_eq x key.now) k before ((k + 1) + length names) (k + length (key.now ∷ names)) (place names x) all (are x)

pub next_place : (old new : List (Bor Name × ℕ)) (names slice : List (Bor Name)) (from k : ℕ) (d : Bor Name) → suc k ≡ from → from ≤ length names → slice ≡ names →
    Inserts same_name old (get_or slice k d) k new → AreFirstPlaces old from (names_of (drop from names)) → AreFirstPlaces new k (names_of (drop k names))
next_place old new names slice from k d more le is inserts are =
    let next : from ≡ k + 1 = omega (arith, more) in
    subst (λ list. AreFirstPlaces new k (names_of list)) (sym (drop_more names k d (omega (arith, more, le))))
    (one_place old new (get_or names k d) k (names_of (drop (k + 1) names)) (subst (λ list. Inserts same_name old (get_or list k d) k new) is inserts)
    (subst (λ n. AreFirstPlaces old n (names_of (drop n names))) next are))

pub place_found : (table : List (Bor Name × ℕ)) (names : List Name) (x : Name) → AreFirstPlaces table 0 names → number_of table x (length names) ≡ place names x
place_found table names x are =
    let count : length names ≡ 0 + length names = omega arith in
    let same : 0 + place names x ≡ place names x = omega arith in
    ap (number_of table x) count ∙ are x ∙ same

-- ---- initial constants

abbrev pub Key : Type 0
Key = Bor Name × Option ℕ

abbrev pub same_key : Key → Key → Bool
same_key x y = bytes_eq x.0.now y.0.now && option_eq nat_eq x.1 y.1

-- the two tests of words
same_words : (v w : Option ℕ) → option_eq nat_eq v w ≡ same_word w v
same_words None None = refl
same_words None (Some k) = refl
same_words (Some j) None = refl
same_words (Some j) (Some k) = nat_eq_equiv.symm j k

pub no_constant : (table : List (Key × ℕ)) (list : List (Bor InitialConstant)) (count : ℕ) → table ≡ [] → count ≡ length list → AreConstants table (behind (drop count list))
no_constant table list count empty all =
    subst (λ rest. AreConstants table (behind rest)) (sym (drop_of_length-le list (omega (arith, all))))
    (λ x word. ap (λ es. unwrap_or (lookup (λ (k : Key). bytes_eq x k.0.now && option_eq nat_eq word k.1) es) 0) empty)

constant_by : (b : Bool) (n : ℕ) (o : Option ℕ) (rest : ℕ) → unwrap_or o 0 ≡ rest → unwrap_or (cond b (Some n) o) 0 ≡ (if b then n else rest)
constant_by true n o rest e = refl
constant_by false n o rest e = e

-- a constant in front of those that the table has
one_constant : (old new : List (Key × ℕ)) (name : Bor Name) (c : InitialConstant) (cs : List InitialConstant) → name.now ≡ c.name →
    Inserts same_key old (name, c.word) c.value.value new → AreConstants old cs → AreConstants new (c ∷ cs)
one_constant old new name c cs is inserts are x word =
    let q : Key = (record { ref_ptr = name.ref_ptr; now = x }, word) in
    let before : Option ℕ = lookup (same_key q) old in
    let same : same_key (name, c.word) q ≡ (bytes_eq x c.name && same_word word c.word) =
    (λ i. nat_list_eq_equiv.symm name.now x i && same_words c.word word i) ∙ ap (λ n. bytes_eq x n && same_word word c.word) is in
    ap (λ o. unwrap_or o 0) (inserts q ∙ ap (λ b. cond b (Some c.value.value) before) same)
    ∙ constant_by (bytes_eq x c.name && same_word word c.word) c.value.value before (initial_of cs x word) (are x word)

pub next_constant : (old new : List (Key × ℕ)) (list : List (Bor InitialConstant)) (from k : ℕ) (d constant : Bor InitialConstant) (name : Bor Name) → suc k ≡ from → from ≤ length list →
    constant ≡ get_or list k d → name.now ≡ constant.now.name → Inserts same_key old (name, constant.now.word) constant.now.value.value new →
    AreConstants old (behind (drop from list)) → AreConstants new (behind (drop k list))
next_constant old new list from k d constant name more le here is inserts are =
    let next : from ≡ k + 1 = omega (arith, more) in
    let rest : drop k list ≡ constant ∷ drop (k + 1) list = drop_more list k d (omega (arith, more, le)) ∙ ap (λ c. c ∷ drop (k + 1) list) (sym here) in
    subst (λ l. AreConstants new (behind l)) (sym rest)
    (one_constant old new name constant.now (behind (drop (k + 1) list)) is inserts (subst (λ n. AreConstants old (behind (drop n list))) next are))
