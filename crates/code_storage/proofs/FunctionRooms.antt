-- Each function of a program has a room of its own.
use Rattle.std.proofs.Common.{◌≡◌, ℕ, zero, suc, ◌+◌, ◌<◌, ◌≤◌, Bool, true, false, not, List, [], ◌∷◌, ◌++◌, length, Option, Some, None, refl, sym, ap, ◌∙◌, subst, arith}
use Rattle.std.proofs.Common.{append_assoc, length-append, cond}
use Rattle.std.specs.Prelude.{count_by, slice_get}
use Rattle.std.specs.List.{flat_map}
use Rattle.std.proofs.lemmas.List.Concat.{flat_map-append}
use Rattle.std.proofs.lemmas.List.Sums.{sum_by-append}
use Rattle.lists.proofs.Places.{get_front}
use Rattle.c_program.specs.declared.tree.LocalVariable.{LocalVariable}
use Rattle.c_program.specs.Tree.{Piece, Function, Program}
use Rattle.c_program.specs.Limits.{print_count}
use Rattle.code_following.specs.Following.{formats_of}
use Rattle.code_blocks.specs.declared.homes.Home.{Home}
use Rattle.code_blocks.specs.declared.homes.Home.TheVariants.{Variable, Array}
use Rattle.code_storage.specs.Locals.{is_scalar, is_array, home_in, homes_after, variable_of, variables_of, array_of, arrays_of, all_locals, rooms_after}
use Rattle.code_storage.specs.Reaching.{has, kept, with_marks}
use Rattle.code_storage.specs.Housing.{AreHomes, homes_there, site_there}
use Rattle.code_storage.specs.Formats.{HasSites}
use Rattle.code_storage.proofs.LocalHomes.{variables_count, variable_least, array_least, variables_apart, arrays_apart, each_home, IsDeclaredHome, declared_home}
use Rattle.code_storage.proofs.Sites.{formats_length}

abbrev all_formats : List Function → List (List Piece)
all_formats fs = flat_map (λ (f : Function). formats_of f.body) fs

-- the room of a function among those of functions that come after these locals and printf calls
pub record IsRoom (before : List LocalVariable) (site : ℕ) (fs : List Function) (g : ℕ) (f : Function) : Type 0 where
  pub earlier : List LocalVariable
  pub later : List LocalVariable
  pub homes : homes_there (slice_get (rooms_after before site fs) g) ≡ homes_after earlier f.locals
  pub locals : before ++ all_locals fs ≡ (earlier ++ f.locals) ++ later
  pub printed : List (List Piece)
  pub unprinted : List (List Piece)
  pub formats : all_formats fs ≡ printed ++ (formats_of f.body ++ unprinted)
  pub site_ : site_there (slice_get (rooms_after before site fs) g) ≡ site + length printed

pub is_room : (before : List LocalVariable) (site : ℕ) (fs : List Function) (g : ℕ) (f : Function) → slice_get fs g ≡ Some f → IsRoom before site fs g f
is_room before site [] g f at = absurd cc
is_room before site (d ∷ fs) zero f at =
    subst (IsRoom before site (d ∷ fs) zero) (let same : d ≡ f = cc in same) (record {
      earlier = before;
      later = all_locals fs;
      homes = refl;
      locals = sym (append_assoc before d.locals (all_locals fs));
      printed = [];
      unprinted = all_formats fs;
      formats = refl;
      site_ = omega arith;
    })
is_room before site (d ∷ fs) (suc g) f at =
    let rest = is_room (before ++ d.locals) (site + print_count d.body) fs g f at in
    record {
      earlier = rest.earlier;
      later = rest.later;
      homes = rest.homes;
      locals = sym (append_assoc before d.locals (all_locals fs)) ∙ rest.locals;
      printed = formats_of d.body ++ rest.printed;
      unprinted = rest.unprinted;
      formats = ap (λ l. formats_of d.body ++ l) rest.formats ∙ sym (append_assoc (formats_of d.body) rest.printed (formats_of f.body ++ rest.unprinted));
      site_ = (let e = rest.site_ in let l = length-append (formats_of d.body) rest.printed in let c = formats_length d.body in omega (arith, e, l, c));
    }

count_left : (p : LocalVariable → Bool) (xs ys : List LocalVariable) → count_by p xs ≤ count_by p (xs ++ ys)
count_left p xs ys = let e = sum_by-append (λ (z : LocalVariable). cond (p z) 1 0) xs ys in omega (arith, e)

-- numbers of homes lie between what comes before and what comes after
variable_most : (before ls : List LocalVariable) (x n : ℕ) → slice_get (homes_after before ls) x ≡ Some (Variable n) → n < count_by is_scalar (before ++ ls)
variable_most before [] x n e = cc
variable_most before (l ∷ ls) zero n e = by (is_scalar l) refl e
  where
    by : (b : Bool) → is_scalar l ≡ b → Some (home_in b before) ≡ Some (Variable n) → n < count_by is_scalar (before ++ l ∷ ls)
    by true is q =
        let same : count_by is_scalar before ≡ n = cc in
        let one : cond {A = ℕ} (is_scalar l) 1 0 ≡ 1 = ap (λ b. cond b 1 0) is in
        let head = sum_by-append (λ (z : LocalVariable). cond (is_scalar z) 1 0) before (l ∷ []) in
        let all = count_left is_scalar (before ++ l ∷ []) ls in
        let split = ap (count_by is_scalar) (append_assoc before (l ∷ []) ls) in
        omega (arith, same, one, head, all, split)
    by false is q = cc
variable_most before (l ∷ ls) (suc x) n e =
    let rest = variable_most (before ++ l ∷ []) ls x n e in
    let split = ap (count_by is_scalar) (append_assoc before (l ∷ []) ls) in
    omega (arith, rest, split)

array_most : (before ls : List LocalVariable) (x n : ℕ) → slice_get (homes_after before ls) x ≡ Some (Array n) → n < count_by is_array (before ++ ls)
array_most before [] x n e = cc
array_most before (l ∷ ls) zero n e = by (is_scalar l) refl e
  where
    by : (b : Bool) → is_scalar l ≡ b → Some (home_in b before) ≡ Some (Array n) → n < count_by is_array (before ++ l ∷ ls)
    by true is q = cc
    by false is q =
        let same : count_by is_array before ≡ n = cc in
        let one : cond {A = ℕ} (is_array l) 1 0 ≡ 1 = ap (λ b. cond (not b) 1 0) is in
        let head = sum_by-append (λ (z : LocalVariable). cond (is_array z) 1 0) before (l ∷ []) in
        let all = count_left is_array (before ++ l ∷ []) ls in
        let split = ap (count_by is_array) (append_assoc before (l ∷ []) ls) in
        omega (arith, same, one, head, all, split)
array_most before (l ∷ ls) (suc x) n e =
    let rest = array_most (before ++ l ∷ []) ls x n e in
    let split = ap (count_by is_array) (append_assoc before (l ∷ []) ls) in
    omega (arith, rest, split)

-- as many homes as locals
homes_count : (before ls : List LocalVariable) → length (homes_after before ls) ≡ length ls
homes_count before [] = refl
homes_count before (l ∷ ls) = ap suc (homes_count (before ++ l ∷ []) ls)

pub variable_room : (before : List LocalVariable) (site : ℕ) (fs : List Function) (g x n : ℕ) → slice_get (homes_there (slice_get (rooms_after before site fs) g)) x ≡ Some (Variable n) →
    count_by is_scalar before ≤ n
variable_room before site [] g x n e = cc
variable_room before site (f ∷ fs) zero x n e = variable_least before f.locals x n e
variable_room before site (f ∷ fs) (suc g) x n e =
    let rest = variable_room (before ++ f.locals) (site + print_count f.body) fs g x n e in
    let left = count_left is_scalar before f.locals in
    omega (arith, rest, left)

array_room : (before : List LocalVariable) (site : ℕ) (fs : List Function) (g x n : ℕ) → slice_get (homes_there (slice_get (rooms_after before site fs) g)) x ≡ Some (Array n) →
    count_by is_array before ≤ n
array_room before site [] g x n e = cc
array_room before site (f ∷ fs) zero x n e = array_least before f.locals x n e
array_room before site (f ∷ fs) (suc g) x n e =
    let rest = array_room (before ++ f.locals) (site + print_count f.body) fs g x n e in
    let left = count_left is_array before f.locals in
    omega (arith, rest, left)

-- no two functions have a home in common
pub variables_of_rooms : (before : List LocalVariable) (site : ℕ) (fs : List Function) (g h x y n : ℕ) → slice_get (homes_there (slice_get (rooms_after before site fs) g)) x ≡ Some (Variable n) →
    slice_get (homes_there (slice_get (rooms_after before site fs) h)) y ≡ Some (Variable n) → g ≡ h
variables_of_rooms before site [] g h x y n e q = cc
variables_of_rooms before site (f ∷ fs) zero zero x y n e q = refl
variables_of_rooms before site (f ∷ fs) zero (suc h) x y n e q =
    absurd (let most = variable_most before f.locals x n e in let least = variable_room (before ++ f.locals) (site + print_count f.body) fs h y n q in omega (arith, most, least))
variables_of_rooms before site (f ∷ fs) (suc g) zero x y n e q =
    absurd (let most = variable_most before f.locals y n q in let least = variable_room (before ++ f.locals) (site + print_count f.body) fs g x n e in omega (arith, most, least))
variables_of_rooms before site (f ∷ fs) (suc g) (suc h) x y n e q = ap suc (variables_of_rooms (before ++ f.locals) (site + print_count f.body) fs g h x y n e q)

pub arrays_of_rooms : (before : List LocalVariable) (site : ℕ) (fs : List Function) (g h x y n : ℕ) → slice_get (homes_there (slice_get (rooms_after before site fs) g)) x ≡ Some (Array n) →
    slice_get (homes_there (slice_get (rooms_after before site fs) h)) y ≡ Some (Array n) → g ≡ h
arrays_of_rooms before site [] g h x y n e q = cc
arrays_of_rooms before site (f ∷ fs) zero zero x y n e q = refl
arrays_of_rooms before site (f ∷ fs) zero (suc h) x y n e q =
    absurd (let most = array_most before f.locals x n e in let least = array_room (before ++ f.locals) (site + print_count f.body) fs h y n q in omega (arith, most, least))
arrays_of_rooms before site (f ∷ fs) (suc g) zero x y n e q =
    absurd (let most = array_most before f.locals y n q in let least = array_room (before ++ f.locals) (site + print_count f.body) fs g x n e in omega (arith, most, least))
arrays_of_rooms before site (f ∷ fs) (suc g) (suc h) x y n e q = ap suc (arrays_of_rooms (before ++ f.locals) (site + print_count f.body) fs g h x y n e q)

-- the functions that are not reached print what they do
pub kept_at : (marks : List Bool) (fs : List Function) (g : ℕ) (f : Function) → slice_get fs g ≡ Some f → slice_get (with_marks marks fs) g ≡ Some (kept (has marks g) f)
kept_at marks [] g f at = cc
kept_at [] (d ∷ fs) zero f at = ap (λ z. Some (kept false z)) (let same : d ≡ f = cc in same)
kept_at [] (d ∷ fs) (suc g) f at = kept_at [] fs g f at
kept_at (m ∷ marks) (d ∷ fs) zero f at = ap (λ z. Some (kept m z)) (let same : d ≡ f = cc in same)
kept_at (m ∷ marks) (d ∷ fs) (suc g) f at = kept_at marks fs g f at

kept_body : (b : Bool) (f : Function) → (kept b f).body ≡ f.body
kept_body true f = refl
kept_body false f = refl

kept_formats : (marks : List Bool) (fs : List Function) → all_formats (with_marks marks fs) ≡ all_formats fs
kept_formats marks [] = refl
kept_formats [] (f ∷ fs) = ap (λ l. formats_of f.body ++ l) (kept_formats [] fs)
kept_formats (m ∷ marks) (f ∷ fs) = ap (λ s. formats_of s ++ all_formats (with_marks marks fs)) (kept_body m f) ∙ ap (λ l. formats_of f.body ++ l) (kept_formats marks fs)

-- the room of a function of the list: each local of one that is marked has a home of its own, of its type
module _ (P : Program) (marks : List Bool) (g : ℕ) (f : Function) (at : slice_get P.functions g ≡ Some f) where
  abbrev functions : List Function
  functions = with_marks marks P.functions

  abbrev room_there : List Home
  room_there = homes_there (slice_get (rooms_after [] 0 functions) g)

  pub room_sites : HasSites P f.body (site_there (slice_get (rooms_after [] 0 functions) g))
  room_sites =
      let room = is_room [] 0 functions g (kept (has marks g) f) (kept_at marks P.functions g f at) in
      record {
        before = room.printed;
        after = room.unprinted;
        all =
            sym (kept_formats marks P.functions) ∙ room.formats
            ∙ ap (λ s. room.printed ++ (formats_of s ++ room.unprinted)) (kept_body (has marks g) f);
        number = room.site_ ∙ (omega arith);
      }

  module _ (reached : has marks g ≡ true) where
    room : IsRoom [] 0 functions g f
    room = is_room [] 0 functions g f (kept_at marks P.functions g f at ∙ ap (λ b. Some (kept b f)) reached)

    pub room_homes : AreHomes f.locals room_there (length (variables_of (all_locals functions)))
    room_homes = subst (λ hs. AreHomes f.locals hs (length (variables_of (all_locals functions)))) (sym room.homes) (record {
      each = λ x l here. each_home room.earlier f.locals (length (variables_of (all_locals functions))) x l few here;
      variables = λ x y n e q. variables_apart room.earlier f.locals x y n e q;
      arrays = λ x y n e q. arrays_apart room.earlier f.locals x y n e q;
    })
      where
        few : count_by is_scalar (room.earlier ++ f.locals) ≤ length (variables_of (all_locals functions))
        few =
            let all = variables_count (all_locals functions) in
            let split = ap (count_by is_scalar) room.locals in
            let left = count_left is_scalar (room.earlier ++ f.locals) room.later in
            omega (arith, all, split, left)

    pub room_count : length room_there ≡ length f.locals
    room_count = ap length room.homes ∙ homes_count room.earlier f.locals

    pub room_declared : (x : ℕ) (l : LocalVariable) → slice_get f.locals x ≡ Some l → IsDeclaredHome (all_locals functions) l (slice_get room_there x)
    room_declared x l here =
        subst (λ hs. IsDeclaredHome (all_locals functions) l (slice_get hs x)) (sym room.homes)
        (subst (λ all. IsDeclaredHome all l (slice_get (homes_after room.earlier f.locals) x)) (sym room.locals)
        (more (slice_get (homes_after room.earlier f.locals) x) (declared_home room.earlier f.locals x l here)))
      where
        more : (o : Option Home) → IsDeclaredHome (room.earlier ++ f.locals) l o → IsDeclaredHome ((room.earlier ++ f.locals) ++ room.later) l o
        more None h = h
        more (Some (Variable n)) h =
            ap (λ ts. slice_get ts n) (flat_map-append variable_of (room.earlier ++ f.locals) room.later)
            ∙ get_front (variables_of (room.earlier ++ f.locals)) (variables_of room.later) n l.ty h
        more (Some (Array a)) h =
            ap (λ ts. slice_get ts a) (flat_map-append array_of (room.earlier ++ f.locals) room.later)
            ∙ get_front (arrays_of (room.earlier ++ f.locals)) (arrays_of room.later) a (record { ty = l.ty; length = l.length }) h
