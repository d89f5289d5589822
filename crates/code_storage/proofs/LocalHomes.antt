-- Each local has a home of its own.
use Rattle.std.proofs.Common.{◌≡◌, ℕ, zero, suc, ◌+◌, ◌≤◌, Bool, true, false, not, if◌then◌else◌, List, [], ◌∷◌, ◌++◌, length, Option, Some, None, refl, sym, ap, ◌∙◌, subst}
use Rattle.std.proofs.Common.{⊎_elim, arith, append_assoc, append-nil, length-append, cond}
use Rattle.std.specs.Prelude.{count_by, sum_by, slice_get, nat_eq}
use Rattle.std.proofs.lemmas.List.Concat.{flat_map-append}
use Rattle.std.proofs.lemmas.List.Sums.{sum_by-append, sum_by-cons}
use Rattle.std.proofs.lemmas.Bool.Decides.{eqb_tells}
use Rattle.c_program.specs.declared.tree.LocalVariable.{LocalVariable}
use Rattle.c_program.specs.Tree.{Function}
use Rattle.c_program.specs.Limits.{print_count}
use Rattle.block_ir.specs.declared.code.Array.{Array as CodeArray}
use Rattle.code_blocks.specs.declared.homes.Home.{Home}
use Rattle.code_blocks.specs.declared.homes.Home.TheVariants.{Variable, Array}
use Rattle.code_storage.specs.declared.rooms.Rooms.{Rooms}
use Rattle.code_storage.specs.Locals.{is_scalar, is_array, home_in, homes_after, variable_of, variables_of, array_of, arrays_of, Houses, Homed, AllHomed, all_locals, rooms_after}
use Rattle.code_storage.specs.Locals.{ArePlaced}
use Rattle.code_storage.specs.Housing.{IsHomeOf}

pub count_last : (p : LocalVariable → Bool) (before : List LocalVariable) (l : LocalVariable) (b : Bool) → p l ≡ b → count_by p (before ++ l ∷ []) ≡ count_by p before + cond b 1 0
count_last p before l b e =
    let all : count_by p (before ++ l ∷ []) ≡ count_by p before + (0 + cond (p l) 1 0) = sum_by-append (λ x. cond (p x) 1 0) before (l ∷ []) in
    let this : cond {A = ℕ} (p l) 1 0 ≡ cond b 1 0 = ap (λ c. cond c 1 0) e in
    omega (arith, all, this)

pub homes_append : (before xs : List LocalVariable) (l : LocalVariable) → homes_after before (xs ++ l ∷ []) ≡ homes_after before xs ++ home_in (is_scalar l) (before ++ xs) ∷ []
homes_append before [] l = ap (λ bs. home_in (is_scalar l) bs ∷ []) (sym (append-nil before))
homes_append before (x ∷ xs) l =
    ap (λ hs. home_in (is_scalar x) before ∷ hs)
    (homes_append (before ++ x ∷ []) xs l ∙ ap (λ bs. homes_after (before ++ x ∷ []) xs ++ home_in (is_scalar l) bs ∷ []) (append_assoc before (x ∷ []) xs))

get_behind : {A : Type 0} (xs ys : List A) (x : A) (n : ℕ) → length xs ≡ n → slice_get (xs ++ x ∷ ys) n ≡ Some x
get_behind [] ys x zero e = refl
get_behind [] ys x (suc n) e = absurd (omega arith)
get_behind (z ∷ xs) ys x zero e = absurd (omega arith)
get_behind (z ∷ xs) ys x (suc n) e = get_behind xs ys x n (omega arith)

-- how many variables and arrays there are
pub variables_count : (ls : List LocalVariable) → length (variables_of ls) ≡ count_by is_scalar ls
variables_count [] = refl
variables_count (l ∷ ls) =
    let rest = variables_count ls in
    let both = length-append (variable_of l) (variables_of ls) in
    let next = sum_by-cons (λ (z : LocalVariable). cond (is_scalar z) 1 0) l ls in
    let one = this (is_scalar l) in
    omega (arith, rest, both, next, one)
  where
    this : (b : Bool) → length (if b then l.ty ∷ [] else []) ≡ cond b 1 0
    this true = refl
    this false = refl

pub arrays_count : (ls : List LocalVariable) → length (arrays_of ls) ≡ count_by is_array ls
arrays_count [] = refl
arrays_count (l ∷ ls) =
    let rest = arrays_count ls in
    let both = length-append (array_of l) (arrays_of ls) in
    let next = sum_by-cons (λ (z : LocalVariable). cond (is_array z) 1 0) l ls in
    let one = this (is_scalar l) in
    omega (arith, rest, both, next, one)
  where
    this : (b : Bool) → length {A = CodeArray} (if b then [] else record { ty = l.ty; length = l.length } ∷ []) ≡ cond (not b) 1 0
    this true = refl
    this false = refl

variables_last : (before : List LocalVariable) (l : LocalVariable) (b : Bool) → is_scalar l ≡ b → variables_of (before ++ l ∷ []) ≡ variables_of before ++ (if b then l.ty ∷ [] else [])
variables_last before l b is =
    flat_map-append variable_of before (l ∷ []) ∙ ap (λ ts. variables_of before ++ ts) (append-nil (variable_of l) ∙ ap (λ c. if c then l.ty ∷ [] else []) is)

arrays_last : (before : List LocalVariable) (l : LocalVariable) (b : Bool) → is_scalar l ≡ b →
    arrays_of (before ++ l ∷ []) ≡ arrays_of before ++ (if b then [] else record { ty = l.ty; length = l.length } ∷ [])
arrays_last before l b is =
    flat_map-append array_of before (l ∷ [])
    ∙ ap (λ ts. arrays_of before ++ ts) (append-nil (array_of l) ∙ ap (λ c. if c then [] else record { ty = l.ty; length = l.length } ∷ []) is)

-- one more local
pub scalar_more : (before : List LocalVariable) (l : LocalVariable) (r r' : Rooms) (n : ℕ) → is_scalar l ≡ true → Houses before r → n ≡ length r.variables →
    r'.variables ≡ r.variables ++ l.ty ∷ [] → r'.arrays ≡ r.arrays → r'.rooms ≡ r.rooms → r'.sites ≡ r.sites → Homed before l (Variable n) r r'
scalar_more before l r r' n is houses number variables arrays rooms sites = record {
  home_ = ap Variable (number ∙ ap length houses.variables ∙ variables_count before) ∙ ap (λ b. home_in b before) (sym is);
  houses = record {
    variables = variables ∙ ap (λ ts. ts ++ l.ty ∷ []) houses.variables ∙ sym (variables_last before l true is);
    arrays = arrays ∙ houses.arrays ∙ sym (arrays_last before l true is ∙ append-nil (arrays_of before));
  };
  rooms = rooms;
  sites = sites;
}

pub array_more : (before : List LocalVariable) (l : LocalVariable) (r r' : Rooms) (n : ℕ) → is_scalar l ≡ false → Houses before r → n ≡ length r.arrays →
    r'.variables ≡ r.variables → r'.arrays ≡ r.arrays ++ record { ty = l.ty; length = l.length } ∷ [] → r'.rooms ≡ r.rooms → r'.sites ≡ r.sites → Homed before l (Array n) r r'
array_more before l r r' n is houses number variables arrays rooms sites = record {
  home_ = ap Array (number ∙ ap length houses.arrays ∙ arrays_count before) ∙ ap (λ b. home_in b before) (sym is);
  houses = record {
    variables = variables ∙ houses.variables ∙ sym (variables_last before l false is ∙ append-nil (variables_of before));
    arrays = arrays ∙ ap (λ ts. ts ++ record { ty = l.ty; length = l.length } ∷ []) houses.arrays ∙ sym (arrays_last before l false is);
  };
  rooms = rooms;
  sites = sites;
}

pub homed_more : (before locals : List LocalVariable) (l : LocalVariable) (homes all : List Home) (home : Home) (a b c : Rooms) → AllHomed before locals homes a b →
    (Houses (before ++ locals) b → Homed (before ++ locals) l home b c) → all ≡ homes ++ home ∷ [] → AllHomed before (locals ++ l ∷ []) all a c
homed_more before locals l homes all home a b c first next is =
    let one = next first.houses in
    record {
      homes_ =
          is ∙ ap (λ hs. hs ++ home ∷ []) first.homes_ ∙ ap (λ h. homes_after before locals ++ h ∷ []) one.home_
          ∙ sym (homes_append before locals l);
      houses = subst (λ ls. Houses ls c) (append_assoc before locals (l ∷ [])) one.houses;
      rooms = one.rooms ∙ first.rooms;
      sites = one.sites ∙ first.sites;
    }

-- one more function
rooms_append : (before : List LocalVariable) (site : ℕ) (fs : List Function) (f : Function) →
    rooms_after before site (fs ++ f ∷ []) ≡ rooms_after before site fs
    ++ record { homes = homes_after (before ++ all_locals fs) f.locals; site = site + sum_by (λ (g : Function). print_count g.body) fs } ∷ []
rooms_append before site [] f =
    ap (λ ls. record { homes = homes_after ls f.locals; site = site } ∷ []) (sym (append-nil before))
    ∙ ap (λ n. record { homes = homes_after (before ++ []) f.locals; site = n } ∷ []) (omega arith)
rooms_append before site (d ∷ fs) f =
    ap (λ rs. record { homes = homes_after before d.locals; site = site } ∷ rs)
    (rooms_append (before ++ d.locals) (site + print_count d.body) fs f
    ∙ ap (λ ls. rooms_after (before ++ d.locals) (site + print_count d.body) fs
    ++ record { homes = homes_after ls f.locals; site = (site + print_count d.body) + sum_by (λ (g : Function). print_count g.body) fs } ∷ []) (append_assoc before d.locals (all_locals fs))
    ∙ ap (λ n. rooms_after (before ++ d.locals) (site + print_count d.body) fs ++ record { homes = homes_after (before ++ all_locals (d ∷ fs)) f.locals; site = n } ∷ [])
    (let s = sum_by-cons (λ (g : Function). print_count g.body) d fs in omega (arith, s)))

pub room_more : (fs : List Function) (f : Function) (homes : List Home) (a b c : Rooms) → ArePlaced fs a → AllHomed (all_locals fs) f.locals homes a b →
    c.rooms ≡ b.rooms ++ record { homes = homes; site = b.sites } ∷ [] → c.sites ≡ b.sites + print_count f.body → c.variables ≡ b.variables → c.arrays ≡ b.arrays →
    ArePlaced (fs ++ f ∷ []) c
room_more fs f homes a b c placed homed rooms sites variables arrays = record {
  rooms =
      rooms ∙ ap (λ rs. rs ++ record { homes = homes; site = b.sites } ∷ []) (homed.rooms ∙ placed.rooms)
      ∙ ap (λ hs. rooms_after [] 0 fs ++ record { homes = hs; site = b.sites } ∷ []) homed.homes_
      ∙ ap (λ n. rooms_after [] 0 fs ++ record { homes = homes_after (all_locals fs) f.locals; site = n } ∷ []) (homed.sites ∙ placed.sites ∙ (omega arith))
      ∙ sym (rooms_append [] 0 fs f);
  houses = record {
    variables = variables ∙ homed.houses.variables ∙ ap variables_of all_is;
    arrays = arrays ∙ homed.houses.arrays ∙ ap arrays_of all_is;
  };
  sites =
      (let s = sum_by-append (λ (g : Function). print_count g.body) fs (f ∷ []) in let k = sum_by-cons (λ (g : Function). print_count g.body) f [] in let one = homed.sites in let two = placed.sites in
      omega (arith, sites, s, k, one, two));
}
  where
    all_is : all_locals fs ++ f.locals ≡ all_locals (fs ++ f ∷ [])
    all_is = ap (λ ls. all_locals fs ++ ls) (sym (append-nil f.locals)) ∙ sym (flat_map-append (λ (g : Function). g.locals) fs (f ∷ []))

-- numbers go up
pub variable_least : (before ls : List LocalVariable) (x n : ℕ) → slice_get (homes_after before ls) x ≡ Some (Variable n) → count_by is_scalar before ≤ n
variable_least before [] x n e = cc
variable_least before (l ∷ ls) zero n e = by (is_scalar l) e
  where
    by : (b : Bool) → Some (home_in b before) ≡ Some (Variable n) → count_by is_scalar before ≤ n
    by true q = (let same : count_by is_scalar before ≡ n = cc in omega arith)
    by false q = cc
variable_least before (l ∷ ls) (suc x) n e =
    let rest = variable_least (before ++ l ∷ []) ls x n e in
    let more = sum_by-append (λ (z : LocalVariable). cond (is_scalar z) 1 0) before (l ∷ []) in
    omega (arith, rest, more)

pub array_least : (before ls : List LocalVariable) (x n : ℕ) → slice_get (homes_after before ls) x ≡ Some (Array n) → count_by is_array before ≤ n
array_least before [] x n e = cc
array_least before (l ∷ ls) zero n e = by (is_scalar l) e
  where
    by : (b : Bool) → Some (home_in b before) ≡ Some (Array n) → count_by is_array before ≤ n
    by true q = cc
    by false q = (let same : count_by is_array before ≡ n = cc in omega arith)
array_least before (l ∷ ls) (suc x) n e =
    let rest = array_least (before ++ l ∷ []) ls x n e in
    let more = sum_by-append (λ (z : LocalVariable). cond (is_array z) 1 0) before (l ∷ []) in
    omega (arith, rest, more)

variable_alone : (before ls : List LocalVariable) (l : LocalVariable) (y n : ℕ) (b : Bool) → is_scalar l ≡ b → Some (home_in b before) ≡ Some (Variable n) →
    slice_get (homes_after (before ++ l ∷ []) ls) y ≡ Some (Variable n) → ⊥
variable_alone before ls l y n true is e q =
    let same : count_by is_scalar before ≡ n = cc in
    let least = variable_least (before ++ l ∷ []) ls y n q in
    let more = count_last is_scalar before l true is in
    omega (arith, least, more)
variable_alone before ls l y n false is e q = cc

array_alone : (before ls : List LocalVariable) (l : LocalVariable) (y n : ℕ) (b : Bool) → is_scalar l ≡ b → Some (home_in b before) ≡ Some (Array n) →
    slice_get (homes_after (before ++ l ∷ []) ls) y ≡ Some (Array n) → ⊥
array_alone before ls l y n true is e q = cc
array_alone before ls l y n false is e q =
    let same : count_by is_array before ≡ n = cc in
    let least = array_least (before ++ l ∷ []) ls y n q in
    let more = count_last is_array before l true (ap not is) in
    omega (arith, least, more)

pub variables_apart : (before ls : List LocalVariable) (x y n : ℕ) → slice_get (homes_after before ls) x ≡ Some (Variable n) → slice_get (homes_after before ls) y ≡ Some (Variable n) → x ≡ y
variables_apart before [] x y n e q = cc
variables_apart before (l ∷ ls) zero zero n e q = refl
variables_apart before (l ∷ ls) zero (suc y) n e q = absurd (variable_alone before ls l y n (is_scalar l) refl e q)
variables_apart before (l ∷ ls) (suc x) zero n e q = absurd (variable_alone before ls l x n (is_scalar l) refl q e)
variables_apart before (l ∷ ls) (suc x) (suc y) n e q = ap suc (variables_apart (before ++ l ∷ []) ls x y n e q)

pub arrays_apart : (before ls : List LocalVariable) (x y n : ℕ) → slice_get (homes_after before ls) x ≡ Some (Array n) → slice_get (homes_after before ls) y ≡ Some (Array n) → x ≡ y
arrays_apart before [] x y n e q = cc
arrays_apart before (l ∷ ls) zero zero n e q = refl
arrays_apart before (l ∷ ls) zero (suc y) n e q = absurd (array_alone before ls l y n (is_scalar l) refl e q)
arrays_apart before (l ∷ ls) (suc x) zero n e q = absurd (array_alone before ls l x n (is_scalar l) refl q e)
arrays_apart before (l ∷ ls) (suc x) (suc y) n e q = ap suc (arrays_apart (before ++ l ∷ []) ls x y n e q)

pub each_home : (before ls : List LocalVariable) (size x : ℕ) (l : LocalVariable) → count_by is_scalar (before ++ ls) ≤ size → slice_get ls x ≡ Some l →
    IsHomeOf size l (slice_get (homes_after before ls) x)
each_home before [] size x l room at = absurd cc
each_home before (d ∷ ls) size zero l room at =
    let same : d ≡ l = cc in
    subst (λ z. IsHomeOf size z (Some (home_in (is_scalar d) before))) same (by (is_scalar d) refl)
  where
    by : (b : Bool) → is_scalar d ≡ b → IsHomeOf size d (Some (home_in b before))
    by true is =
        let one : d.length ≡ 1 = ⊎_elim (λ t. t.1) (λ t. absurd (let wrong : true ≡ false = sym is ∙ t.0 in cc)) (eqb_tells d.length 1) in
        let more = sum_by-append (λ (z : LocalVariable). cond (is_scalar z) 1 0) before (d ∷ ls) in
        let this : cond {A = ℕ} (is_scalar d) 1 0 ≡ 1 = ap (λ b. cond b 1 0) is in
        let next = sum_by-cons (λ (z : LocalVariable). cond (is_scalar z) 1 0) d ls in
        (one, omega (arith, more, next, this, room))
    by false is = λ one. let wrong : true ≡ false = sym (ap (λ n. nat_eq n 1) one) ∙ is in cc
each_home before (d ∷ ls) size (suc x) l room at =
    each_home (before ++ d ∷ []) ls size x l (let e = ap (count_by is_scalar) (append_assoc before (d ∷ []) ls) in omega (arith, e, room)) at

-- each local has a variable of its type, or an array of its own
abbrev pub IsDeclaredHome : List LocalVariable → LocalVariable → Option Home → Type 0
IsDeclaredHome locals l None = ⊥
IsDeclaredHome locals l (Some (Variable n)) = slice_get (variables_of locals) n ≡ Some l.ty
IsDeclaredHome locals l (Some (Array a)) = slice_get (arrays_of locals) a ≡ Some (record { ty = l.ty; length = l.length })

pub declared_home : (before ls : List LocalVariable) (x : ℕ) (l : LocalVariable) → slice_get ls x ≡ Some l → IsDeclaredHome (before ++ ls) l (slice_get (homes_after before ls) x)
declared_home before [] x l at = absurd cc
declared_home before (d ∷ ls) zero l at =
    let same : d ≡ l = cc in
    subst (λ z. IsDeclaredHome (before ++ d ∷ ls) z (Some (home_in (is_scalar d) before))) same (by (is_scalar d) refl)
  where
    by : (b : Bool) → is_scalar d ≡ b → IsDeclaredHome (before ++ d ∷ ls) d (Some (home_in b before))
    by true is =
        ap (λ ts. slice_get ts (count_by is_scalar before)) (flat_map-append variable_of before (d ∷ ls) ∙ ap (λ c. variables_of before ++ ((if c then d.ty ∷ [] else []) ++ variables_of ls)) is)
        ∙ get_behind (variables_of before) (variables_of ls) d.ty (count_by is_scalar before) (variables_count before)
    by false is =
        let array : CodeArray = record { ty = d.ty; length = d.length } in
        ap (λ ts. slice_get ts (count_by is_array before)) (flat_map-append array_of before (d ∷ ls) ∙ ap (λ c. arrays_of before ++ ((if c then [] else array ∷ []) ++ arrays_of ls)) is)
        ∙ get_behind (arrays_of before) (arrays_of ls) array (count_by is_array before) (arrays_count before)
declared_home before (d ∷ ls) (suc x) l at =
    subst (λ all. IsDeclaredHome all l (slice_get (homes_after (before ++ d ∷ []) ls) x)) (append_assoc before (d ∷ []) ls) (declared_home (before ++ d ∷ []) ls x l at)
