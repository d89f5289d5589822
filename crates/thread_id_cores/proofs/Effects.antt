-- What a granted request does to the statuses and to the arguments.
use Rattle.std.proofs.Common.{◌≡◌, ℕ, zero, suc, ◌<◌, List, [], ◌++◌, length, replicate, slice_set, Bool, true}
use Rattle.std.proofs.Common.{false, nat_eq, nat_lt, if◌then◌else◌, refl, sym, ap, ◌∙◌, ⊎_elim, arith, get_or-set_other}
use Rattle.std.specs.Prelude.{not, ◌&&◌, slice_index}
use Rattle.std.proofs.lemmas.Bool.Decides.{nat_tests}
use Rattle.std.proofs.lemmas.Grind.{get_or-set_at}
use Rattle.std.proofs.Math.ListN.{length-set}
use Rattle.std.proofs.lemmas.Bool.{cases_eq}
use Rattle.hls_ints.specs.Residues.{bit_of}
use Rattle.circuit.specs.Rows.{EachOf}
use Rattle.circuit.proofs.Edges.{tested}
use Rattle.core_states.specs.Machines.{IdTable}

pub no_bytes : (b c : Bool) → ◌≡◌ {A = List ℕ} ((if b then [] else []) ++ ((if c then [] else []) ++ [])) []
no_bytes true true = refl
no_bytes true false = refl
no_bytes false true = refl
no_bytes false false = refl

pub each_zero : (n w : ℕ) → 0 < w → EachOf (λ x. x < w) (replicate n 0)
each_zero zero w l = tt
each_zero (suc n) w l = (l, each_zero n w l)

-- ---- choices by wires that are bits

-- a choice whose parts are known
pub by_test : (b : Bool) (x t y z y' z' : ℕ) → x ≡ (if nat_eq t 0 then z else y) → t ≡ bit_of b → y ≡ y' → z ≡ z' → x ≡ (if b then y' else z')
by_test b x t y z y' z' e f g h = e ∙ tested b t y z f ∙ ap (λ a. if b then a else z) g ∙ ap (λ a. if b then y' else a) h

-- what is offered, of a bit that says whether it is asked
pub offered : (creates joins runs finished q : Bool)
    → (if creates then (if runs then 0 else bit_of q) else (if joins then (if finished then bit_of q else 0) else bit_of q))
    ≡ bit_of (q && (if creates then not runs else (if joins then finished else true)))
offered true joins true finished true = refl
offered true joins true finished false = refl
offered true joins false finished true = refl
offered true joins false finished false = refl
offered false true runs true true = refl
offered false true runs true false = refl
offered false true runs false true = refl
offered false true runs false false = refl
offered false false runs finished true = refl
offered false false runs finished false = refl

-- ---- stores

-- a word after a store under a wire
abbrev pub kept_by : ℕ → ℕ → ℕ → ℕ → ℕ → ℕ
kept_by test address value k old = if nat_lt 0 test && true then (if nat_eq address k then value else old) else old

pub stored : (b : Bool) (test : ℕ) (xs : List ℕ) (k address value old : ℕ) → test ≡ bit_of b → k < length xs → old ≡ slice_index xs k
    → kept_by test address value k old ≡ slice_index (if b then slice_set xs address value else xs) k
stored false test xs k address value old e l f = ap (λ x. kept_by x address value k old) e ∙ f
stored true test xs k address value old e l f =
    ap (λ x. kept_by x address value k old) e
    ∙ ⊎_elim
    (λ (q : k ≡ address). let u : nat_eq address k ≡ true = grind (arith, nat_tests) in ap (λ c. if c then value else old) u ∙ sym
    (get_or-set_at xs address k value 0 q (omega arith)))
    (λ (q : k ≡ address → ⊥). let u : nat_eq address k ≡ false = grind (arith, nat_tests) in ap (λ c. if c then value else old) u ∙ f ∙ sym
    (get_or-set_other xs address k value 0 q))
    (cases_eq k address)

-- the table after a grant to thread i, by what it asks
abbrev pub after : Bool → Bool → IdTable → ℕ → ℕ → ℕ → IdTable
after creates joins s i id argument =
    if creates then record { statuses = slice_set s.statuses id 1; arguments = slice_set s.arguments id argument }
    else (if joins then record { statuses = slice_set s.statuses id 0; arguments = s.arguments }
    else record { statuses = slice_set s.statuses i 2; arguments = s.arguments })

abbrev pub target_of : Bool → Bool → ℕ → ℕ → ℕ
target_of creates joins i id = if creates then id else (if joins then id else i)

abbrev pub status_of : Bool → Bool → ℕ
status_of creates joins = if creates then 1 else (if joins then 0 else 2)

pub after_statuses : (b c : Bool) (s : IdTable) (i id x : ℕ) → slice_set s.statuses (target_of b c i id) (status_of b c) ≡ (after b c s i id x).statuses
after_statuses true c s i id x = refl
after_statuses false true s i id x = refl
after_statuses false false s i id x = refl

pub after_arguments : (b c : Bool) (s : IdTable) (i id x : ℕ) → (if b then slice_set s.arguments (target_of b c i id) x else s.arguments) ≡ (after b c s i id x).arguments
after_arguments true c s i id x = refl
after_arguments false true s i id x = refl
after_arguments false false s i id x = refl

pub after_sized : (b c : Bool) (s : IdTable) (i id x : ℕ) → length (after b c s i id x).statuses ≡ length s.statuses
after_sized true c s i id x = length-set s.statuses id 1
after_sized false true s i id x = length-set s.statuses id 0
after_sized false false s i id x = length-set s.statuses i 2

pub after_each : (b c : Bool) (s : IdTable) (i id x : ℕ) → length (after b c s i id x).arguments ≡ length s.arguments
after_each true c s i id x = length-set s.arguments id x
after_each false true s i id x = refl
after_each false false s i id x = refl
