-- Which functions a thread function reaches: those that calls lead to, and no more locals than the program's weight of them counts.
use Rattle.std.proofs.Common.{◌≡◌, ℕ, zero, suc, ◌+◌, ◌*◌, ◌-◌, ◌<◌, ◌≤◌, Bool, true, false, if◌then◌else◌, List, [], ◌∷◌, length, Option, Some, None, refl, sym, ap, ◌∙◌, subst}
use Rattle.std.proofs.Common.{arith, sum_by, drop, ⊎_elim, inl, inr, length-append}
use Rattle.std.specs.Prelude.{take, replicate, slice_get, slice_set, unwrap_or, Contains, ◌⊎◌}
use Rattle.std.specs.List.{AllByRecursion}
use Rattle.std.proofs.lemmas.Bool.Decides.{eqb_tells}
use Rattle.std.proofs.lemmas.List.Elements.{Contains-append_left, Contains-append_right, Contains-append_cases, Contains-push}
use Rattle.std.proofs.lemmas.List.{length-set, drop_all, length-replicate}
use Rattle.std.proofs.lemmas.List.Sums.{sum_by-cons}
use Rattle.std.proofs.lemmas.Option.{slice_get_within}
use Rattle.lists.proofs.Places.{set_other, set_same, in_one, in_none}
use Rattle.c_program.specs.declared.tree.LocalVariable.{LocalVariable}
use Rattle.c_program.specs.Tree.{Function, Program}
use Rattle.c_program.specs.Limits.{own_elements, local_elements}
use Rattle.c_program.specs.Calls.{calls_of, Calls, Reaches, Directly, Through, IsAcyclic}
use Rattle.c_program.specs.Weight.{with_callees, inlined, own_weight, function_weight}
use Rattle.c_program.specs.Resolved.{IsFunction, IsResolved}
use Rattle.code_storage.specs.Reaching.{has, callees, mark_all, mark_from, marks_of, kept, with_marks}
use Rattle.code_storage.specs.Locals.{all_locals}
use Rattle.code_storage.specs.Housing.{Runs}

-- ---- marks

has_within : (marks : List Bool) (g : ℕ) → has marks g ≡ true → g < length marks
has_within marks g e = by (slice_get marks g) refl
  where
    by : (o : Option Bool) → slice_get marks g ≡ o → g < length marks
    by (Some b) at = slice_get_within marks g b at
    by None at = absurd (let none = ap (λ z. unwrap_or z false) at in cc)

marked_same : (marks : List Bool) (g : ℕ) → g < length marks → has (slice_set marks g true) g ≡ true
marked_same marks g lt = ap (λ o. unwrap_or o false) (set_same marks g true lt)

marked_other : (marks : List Bool) (g x : ℕ) → (x ≡ g → ⊥) → has (slice_set marks g true) x ≡ has marks x
marked_other marks g x apart = ap (λ o. unwrap_or o false) (set_other marks g x true apart)

marked_more : (marks : List Bool) (g x : ℕ) → has marks x ≡ true → has (slice_set marks g true) x ≡ true
marked_more marks g x e =
    ⊎_elim (λ same. subst (λ z. has (slice_set marks g true) z ≡ true) (sym same.1) (marked_same marks g (subst (λ z. z < length marks) same.1 (has_within marks x e))))
    (λ other. marked_other marks g x other.1 ∙ e)
    (eqb_tells x g)

-- ---- what is marked is closed under calls

module _ (fs : List Function) (acyclic : IsAcyclic fs) where
  abbrev IsClosed : List Bool → Type 0
  IsClosed marks = (f g : ℕ) → has marks f ≡ true → Calls fs f g → g < length fs → has marks g ≡ true

  -- more is marked
  pub record Marks (old new : List Bool) : Type 0 where
    pub size : length new ≡ length old
    pub more : (x : ℕ) → has old x ≡ true → has new x ≡ true
    pub closed : IsClosed old → IsClosed new

  marks_none : (marks : List Bool) → Marks marks marks
  marks_none marks = record { size = refl; more = λ x e. e; closed = λ c. c }

  marks_both : (a b c : List Bool) → Marks a b → Marks b c → Marks a c
  marks_both a b c h k = record { size = k.size ∙ h.size; more = λ x e. k.more x (h.more x e); closed = λ z. k.closed (h.closed z) }

  -- these are marked too
  pub record MarksAll (gs : List ℕ) (old new : List Bool) : Type 0 where
    pub marks : Marks old new
    pub each : (g : ℕ) → Contains gs g → g < length fs → has new g ≡ true

  abbrev Marked : ℕ → Type 0
  Marked d = (marks : List Bool) (g : ℕ) → length marks ≡ length fs → acyclic.rank g < d → MarksAll (g ∷ []) marks (mark_from fs d marks g)

  all_marked : (d : ℕ) → Marked d → (gs : List ℕ) (marks : List Bool) → length marks ≡ length fs → ((g : ℕ) → Contains gs g → acyclic.rank g < d) →
      MarksAll gs marks (mark_all (mark_from fs d) marks gs)
  all_marked d one [] marks size low = record { marks = marks_none marks; each = λ g c lt. absurd (in_none g c) }
  all_marked d one (g ∷ gs) marks size low =
      by (one marks g size (low g (Contains-append_left (g ∷ []) gs g (Contains-push [] g))))
      (λ long. all_marked d one gs (mark_from fs d marks g) (long ∙ size) (λ x c. low x (Contains-append_right (g ∷ []) gs x c)))
    where
      by : MarksAll (g ∷ []) marks (mark_from fs d marks g) →
          (length (mark_from fs d marks g) ≡ length marks → MarksAll gs (mark_from fs d marks g) (mark_all (mark_from fs d) (mark_from fs d marks g) gs)) →
          MarksAll (g ∷ gs) marks (mark_all (mark_from fs d) (mark_from fs d marks g) gs)
      by first next =
          let rest = next first.marks.size in
          record {
            marks = marks_both marks (mark_from fs d marks g) (mark_all (mark_from fs d) (mark_from fs d marks g) gs) first.marks rest.marks;
            each = λ x c lt. ⊎_elim (λ here. rest.marks.more x (first.each x here lt)) (λ later. rest.each x later lt) (Contains-append_cases (g ∷ []) gs x c);
          }

  from_marked : (d : ℕ) → Marked d
  from_marked zero marks g size low = absurd (omega arith)
  from_marked (suc d) marks g size low = by (from_marked d) (has marks g) refl
    where
      lower : (o : Option Function) → slice_get fs g ≡ o → (h : ℕ) → Contains (callees o) h → acyclic.rank h < d
      lower None at h c = absurd (in_none h c)
      lower (Some f) at h c = let falls = acyclic.falls g h (record { code = f; found = at; called = c }) in omega (arith, falls, low)

      found : List ℕ
      found = callees (slice_get fs g)

      mid : List Bool
      mid = mark_all (mark_from fs d) marks found

      mark_last : MarksAll found marks mid → MarksAll (g ∷ []) marks (slice_set mid g true)
      mark_last all = record {
        marks = record {
          size = length-set mid g true ∙ all.marks.size;
          more = λ x e. marked_more mid g x (all.marks.more x e);
          closed = λ closed f h e call lt. marked_more mid g h (goes closed f h e call lt);
        };
        each = λ x c lt.
            subst (λ z. has (slice_set mid g true) z ≡ true) ((in_one g x c))
            (marked_same mid g (let one = sym (in_one g x c) in let long = all.marks.size in omega (arith, one, long, lt, size)));
      }
        where
          goes : IsClosed marks → (f h : ℕ) → has (slice_set mid g true) f ≡ true → Calls fs f h → h < length fs → has mid h ≡ true
          goes closed f h e call lt =
              ⊎_elim
              (λ same. all.each h (subst (λ l. Contains l h) (sym (ap callees (ap (slice_get fs) (sym same.1) ∙ call.found))) call.called) lt)
              (λ other. all.marks.closed closed f h (sym (marked_other mid g f other.1) ∙ e) call lt)
              (eqb_tells f g)

      by : Marked d → (b : Bool) → has marks g ≡ b → MarksAll (g ∷ []) marks (if b then marks else slice_set mid g true)
      by rest true e = record { marks = marks_none marks; each = λ x c lt. subst (λ z. has marks z ≡ true) ((in_one g x c)) e }
      by rest false e = mark_last (all_marked d rest found marks size (lower (slice_get fs g) refl))

none_marked : (n f : ℕ) → has (replicate n false) f ≡ true → ⊥
none_marked zero f e = cc
none_marked (suc n) zero e = cc
none_marked (suc n) (suc f) e = none_marked n f e

-- ---- what a function reaches

-- a function that reaches another is one of the program
caller_found : (fs : List Function) (f g : ℕ) → Reaches fs f g → (d : Function) × (slice_get fs f ≡ Some d)
caller_found fs f g (Directly call) = (call.code, call.found)
caller_found fs f g (Through call rest) = (call.code, call.found)

module _ (P : Program) (resolved : IsResolved P) (root : ℕ) (code : Function) (found : slice_get P.functions root ≡ Some code) where
  all_reached : MarksAll P.functions resolved.acyclic (root ∷ []) (replicate (length P.functions) false) (marks_of P.functions root)
  all_reached =
      from_marked P.functions resolved.acyclic (length P.functions) (replicate (length P.functions) false) root (length-replicate (length P.functions) false)
      (resolved.acyclic.below root (slice_get_within P.functions root code found))

  root_reached : has (marks_of P.functions root) root ≡ true
  root_reached = all_reached.each root (Contains-push [] root) (slice_get_within P.functions root code found)

  callee_reached : (f g : ℕ) (d : Function) → has (marks_of P.functions root) f ≡ true → Calls P.functions f g → slice_get P.functions g ≡ Some d →
      has (marks_of P.functions root) g ≡ true
  callee_reached f g d e call at =
      all_reached.marks.closed (λ x y marked c lt. absurd (none_marked (length P.functions) x marked)) f g e call (slice_get_within P.functions g d at)

  further_reached : (f g : ℕ) (d : Function) → Reaches P.functions f g → has (marks_of P.functions root) f ≡ true → slice_get P.functions g ≡ Some d →
      has (marks_of P.functions root) g ≡ true
  further_reached f g d (Directly call) e at = callee_reached f g d e call at
  further_reached f g d (Through {g = h} call rest) e at =
      let here = caller_found P.functions h g rest in
      further_reached h g d rest (callee_reached f h here.0 e call here.1) at

reaches_callee : (fs : List Function) (r f g : ℕ) → Reaches fs r f → Calls fs f g → Reaches fs r g
reaches_callee fs r f g (Directly call) next = Through call (Directly next)
reaches_callee fs r f g (Through {g = h} call rest) next = Through call (reaches_callee fs h f g rest next)

-- what a thread function calls, and so on, is in its code
pub runs_callee : (P : Program) (r f g : ℕ) → Runs P r f → Calls P.functions f g → Runs P r g
runs_callee P r f g (inl same) call = inr (subst (λ x. Reaches P.functions x g) same (Directly call))
runs_callee P r f g (inr reaches) call = inr (reaches_callee P.functions r f g reaches call)

-- and is marked
pub runs_marked : (P : Program) (r g : ℕ) (f : Function) → IsResolved P → Runs P r g → slice_get P.functions g ≡ Some f → has (marks_of P.functions r) g ≡ true
runs_marked P r g f resolved (inl same) at =
    subst (λ x. has (marks_of P.functions r) x ≡ true) (sym same)
    (root_reached P resolved r f (subst (λ x. slice_get P.functions x ≡ Some f) same at))
runs_marked P r g f resolved (inr reaches) at =
    let here = caller_found P.functions r g reaches in
    further_reached P resolved r here.0 here.1 r g f reaches (root_reached P resolved r here.0 here.1) at

-- ---- the locals are few

one_more : (marks : List Bool) (fs : List Function) (g : ℕ) (f : Function) → slice_get fs g ≡ Some f →
    length (all_locals (with_marks (slice_set marks g true) fs)) ≤ length (all_locals (with_marks marks fs)) + length f.locals
one_more marks [] g f at = cc
one_more [] (d ∷ fs) g f at = omega arith
one_more (m ∷ marks) (d ∷ fs) zero f at =
    let same : d ≡ f = cc in
    let long = ap (λ (z : Function). length z.locals) same in
    let own : length (kept true d).locals ≡ length d.locals = refl in
    let new_ : length (all_locals (with_marks (true ∷ marks) (d ∷ fs))) ≡ length (kept true d).locals + length (all_locals (with_marks marks fs)) =
    length-append (kept true d).locals (all_locals (with_marks marks fs)) in
    let old : length (all_locals (with_marks (m ∷ marks) (d ∷ fs))) ≡ length (kept m d).locals + length (all_locals (with_marks marks fs)) =
    length-append (kept m d).locals (all_locals (with_marks marks fs)) in
    omega (arith, long, own, new_, old)
one_more (m ∷ marks) (d ∷ fs) (suc g) f at =
    let rest = one_more marks fs g f at in
    let new_ = length-append (kept m d).locals (all_locals (with_marks (slice_set marks g true) fs)) in
    let old = length-append (kept m d).locals (all_locals (with_marks marks fs)) in
    omega (arith, rest, new_, old)

no_more : (marks : List Bool) (fs : List Function) (g : ℕ) → slice_get fs g ≡ None → length (all_locals (with_marks (slice_set marks g true) fs)) ≡ length (all_locals (with_marks marks fs))
no_more marks [] g at = refl
no_more [] (d ∷ fs) g at = refl
no_more (m ∷ marks) (d ∷ fs) zero at = cc
no_more (m ∷ marks) (d ∷ fs) (suc g) at =
    let rest = no_more marks fs g at in
    let new_ = length-append (kept m d).locals (all_locals (with_marks (slice_set marks g true) fs)) in
    let old = length-append (kept m d).locals (all_locals (with_marks marks fs)) in
    omega (arith, rest, new_, old)

none_counted : (n : ℕ) (fs : List Function) → length (all_locals (with_marks (replicate n false) fs)) ≡ 0
none_counted n [] = refl
none_counted zero (f ∷ fs) = none_counted zero fs
none_counted (suc n) (f ∷ fs) = none_counted n fs

abbrev own_locals : Function → ℕ
own_locals f = length f.locals

module _ (fs : List Function) where
  abbrev Few : ℕ → Type 0
  Few d = (marks : List Bool) (g : ℕ) → length (all_locals (with_marks (mark_from fs d marks g) fs)) ≤ length (all_locals (with_marks marks fs)) + inlined own_locals fs d g

  all_few : (d : ℕ) → Few d → (gs : List ℕ) (marks : List Bool) → length (all_locals (with_marks (mark_all (mark_from fs d) marks gs) fs)) ≤ length
      (all_locals (with_marks marks fs)) + sum_by (inlined own_locals fs d) gs
  all_few d one [] marks = omega arith
  all_few d one (g ∷ gs) marks =
      let first = one marks g in
      let rest = all_few d one gs (mark_from fs d marks g) in
      let sum = sum_by-cons (inlined own_locals fs d) g gs in
      omega (arith, first, rest, sum)

  from_few : (d : ℕ) → Few d
  from_few zero marks g = omega arith
  from_few (suc d) marks g = by (from_few d) (has marks g)
    where
      found : Few d → (o : Option Function) → slice_get fs g ≡ o →
          length (all_locals (with_marks (slice_set (mark_all (mark_from fs d) marks (callees o)) g true) fs)) ≤ length (all_locals (with_marks marks fs)) + with_callees own_locals
          (inlined own_locals fs d) o
      found rest None at = let same = no_more marks fs g at in omega (arith, same)
      found rest (Some f) at =
          let one = one_more (mark_all (mark_from fs d) marks (calls_of f.body)) fs g f at in
          let all = all_few d rest (calls_of f.body) marks in
          omega (arith, one, all)

      by : Few d → (b : Bool) → length (all_locals (with_marks (if b then marks else slice_set (mark_all (mark_from fs d) marks (callees (slice_get fs g))) g true) fs)) ≤ length
          (all_locals (with_marks marks fs)) + inlined own_locals fs (suc d) g
      by rest true = omega arith
      by rest false = found rest (slice_get fs g) refl

sums_less : (f g h : ℕ → ℕ) (xs : List ℕ) → ((x : ℕ) → f x ≤ g x + 3 * h x) → sum_by f xs ≤ sum_by g xs + 3 * sum_by h xs
sums_less f g h [] less = omega arith
sums_less f g h (x ∷ xs) less =
    let a = sum_by-cons f x xs in let b = sum_by-cons g x xs in let c = sum_by-cons h x xs in
    let one = less x in let rest = sums_less f g h xs less in omega (arith, a, b, c, one, rest)

-- an amount that is at most another and a third three times comes to no more than they
module _ (amount more other : Function → ℕ) (fs : List Function) (less : (g : ℕ) (f : Function) → slice_get fs g ≡ Some f → amount f ≤ more f + 3 * other f) where
  inlined_less : (d g : ℕ) → inlined amount fs d g ≤ inlined more fs d g + 3 * inlined other fs d g
  inlined_less zero g = omega arith
  inlined_less (suc d) g = by (λ h. inlined_less d h) (slice_get fs g) refl
    where
      by : ((h : ℕ) → inlined amount fs d h ≤ inlined more fs d h + 3 * inlined other fs d h) → (o : Option Function) → slice_get fs g ≡ o →
          with_callees amount (inlined amount fs d) o ≤ with_callees more (inlined more fs d) o + 3 * with_callees other (inlined other fs d) o
      by rest None at = omega arith
      by rest (Some f) at =
          let own = less g f at in
          let all = sums_less (inlined amount fs d) (inlined more fs d) (inlined other fs d) (calls_of f.body) rest in
          omega (arith, own, all)

-- so many locals have as many elements
taken_many : (n : ℕ) (ls : List LocalVariable) → AllByRecursion (λ (l : LocalVariable). 0 < l.length) ls → n ≤ length ls → n ≤ sum_by (λ (l : LocalVariable). l.length) (take n ls)
taken_many zero ls all le = omega arith
taken_many (suc n) [] all le = absurd (omega arith)
taken_many (suc n) (l ∷ ls) all le =
    let s = sum_by-cons (λ (k : LocalVariable). k.length) l (take n ls) in
    let h = taken_many n ls all.1 (omega arith) in
    let own = all.0 in
    omega (arith, s, h, own)

pub is_function : (P : Program) (fs : List Function) (n : ℕ) (f : Function) → AllByRecursion (IsFunction P) fs → slice_get fs n ≡ Some f → IsFunction P f
is_function P [] n f all at = absurd cc
is_function P (g ∷ gs) zero f all at = subst (IsFunction P) (let same : g ≡ f = cc in same) all.0
is_function P (g ∷ gs) (suc n) f all at = is_function P gs n f all.1 at

pub locals_few : (P : Program) (root : ℕ) → IsResolved P → length (all_locals (with_marks (marks_of P.functions root) P.functions)) ≤ local_elements P.functions root + 3 * function_weight P.functions root
locals_few P root resolved =
    let counted = from_few P.functions (length P.functions) (replicate (length P.functions) false) root in
    let none = none_counted (length P.functions) P.functions in
    let less = inlined_less own_locals own_elements own_weight P.functions
    (λ g f at.
    let is = is_function P P.functions g f resolved.functions at in
    let many = taken_many f.declared_locals f.locals is.lengths is.declared_ in
    let few = is.few in
    omega (arith, many, few)) (length P.functions) root in
    let is : length (all_locals (with_marks (marks_of P.functions root) P.functions))
    ≡ length (all_locals (with_marks (mark_from P.functions (length P.functions) (replicate (length P.functions) false) root) P.functions)) = refl in
    let most : local_elements P.functions root ≡ inlined own_elements P.functions (length P.functions) root = refl in
    let weight : function_weight P.functions root ≡ inlined own_weight P.functions (length P.functions) root = refl in
    omega (arith, counted, none, less, is, most, weight)

-- ---- one function after another

pub marked_on : (fs : List Function) (depth : ℕ) (marks : List Bool) (g : ℕ) → (depth ≡ 0 → ⊥) → has marks g ≡ false →
    mark_from fs depth marks g ≡ slice_set (mark_all (mark_from fs (depth - 1)) marks (callees (slice_get fs g))) g true
marked_on fs zero marks g some off = absurd (some refl)
marked_on fs (suc d) marks g some off =
    ap (λ b. if b then marks else slice_set (mark_all (mark_from fs d) marks (callees (slice_get fs g))) g true) off
    ∙ ap (λ n. slice_set (mark_all (mark_from fs n) marks (callees (slice_get fs g))) g true) (let e : d ≡ suc d - 1 = omega arith in e)

pub marks_end : (fs : List Function) (depth g : ℕ) (old marks new : List Bool) (calls : List ℕ) (i : ℕ) → (depth ≡ 0 → ⊥) → has old g ≡ false → calls ≡ callees (slice_get fs g) →
    mark_all (mark_from fs (depth - 1)) old calls ≡ mark_all (mark_from fs (depth - 1)) marks (drop i calls) → length calls ≤ i → new ≡ slice_set marks g true → new ≡ mark_from fs depth old g
marks_end fs depth g old marks new calls i some off are followed long is =
    is
    ∙ ap (λ m. slice_set m g true)
    (sym (ap (mark_all (mark_from fs (depth - 1)) marks) (drop_all i calls long)) ∙ sym followed ∙ ap (mark_all (mark_from fs (depth - 1)) old) are)
    ∙ sym (marked_on fs depth old g some off)
