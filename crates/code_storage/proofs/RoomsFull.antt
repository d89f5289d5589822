-- What the rooms of a program's functions need, where they are too many.
use Rattle.std.proofs.Common.{◌≡◌, ℕ, zero, suc, ◌+◌, ◌<◌, ◌≤◌, Bool, true, false, List, [], ◌∷◌, ◌++◌, length, Some, take, map, get_or, refl, sym, ap, ◌∙◌, arith, length-append}
use Rattle.std.specs.Prelude.{slice_get}
use Rattle.std.proofs.lemmas.List.Sums.{sum_by-cons}
use Rattle.std.proofs.lemmas.List.{take-map}
use Rattle.c_program.specs.declared.tree.LocalVariable.{LocalVariable}
use Rattle.c_program.specs.declared.tree.Function.{Function as FunctionTree}
use Rattle.c_program.specs.Plain.{function_of}
use Rattle.c_program.specs.Tree.{Function}
use Rattle.c_program.specs.Limits.{print_count}
use Rattle.code_blocks.specs.declared.fault.LoweringFault.{LoweringFault}
use Rattle.code_storage.specs.declared.rooms.Rooms.{Rooms}
use Rattle.code_storage.specs.Locals.{is_scalar, variable_of, variables_of, array_of, arrays_of, Houses, ArePlaced, all_locals, prints}
use Rattle.code_storage.specs.Reaching.{has, kept, with_marks}
use Rattle.code_blocks.specs.Room.{IsFull}
use Rattle.code_blocks.proofs.Room.{full_more}

-- homes are as many as locals
pub homed_length : (locals : List LocalVariable) (r : Rooms) → Houses locals r → length r.variables + length r.arrays ≡ length locals
homed_length locals r houses =
    let v = ap length houses.variables in let a = ap length houses.arrays in let n = placed locals in omega (arith, v, a, n)
  where
    one : (b : Bool) (l : LocalVariable) → is_scalar l ≡ b → length (variable_of l) + length (array_of l) ≡ 1
    one true l e = rw e refl
    one false l e = rw e refl

    placed : (ls : List LocalVariable) → length (variables_of ls) + length (arrays_of ls) ≡ length ls
    placed [] = refl
    placed (l ∷ ls) =
        let v = length-append (variable_of l) (variables_of ls) in
        let a = length-append (array_of l) (arrays_of ls) in
        let o = one (is_scalar l) l refl in
        let rest = placed ls in
        omega (arith, v, a, o, rest)

pub homes_full : (locals before : List LocalVariable) (i : ℕ) (r : Rooms) (fault : LoweringFault) → i < length locals → Houses (before ++ take i locals) r →
    IsFull (length r.variables + length r.arrays + 1) fault → IsFull (length before + length locals) fault
homes_full locals before i r fault lt houses full is =
    let f = full is in let l = homed_length (before ++ take i locals) r houses in let b = length-append before (take i locals) in let t = take_few i locals in omega (arith, f, l, b, t, lt)
  where
    take_few : (n : ℕ) (xs : List LocalVariable) → length (take n xs) ≤ n
    take_few zero xs = omega arith
    take_few (suc n) [] = omega arith
    take_few (suc n) (x ∷ xs) = let h = take_few n xs in omega (arith, h)

-- a function's locals, with those of the functions before it, are among those of all, and so are its printf calls
pub kept_prints : (b : Bool) (f : Function) → print_count (kept b f).body ≡ print_count f.body
kept_prints true f = refl
kept_prints false f = refl

pub prints_kept : (marks : List Bool) (fs : List Function) → prints (with_marks marks fs) ≡ prints fs
prints_kept marks [] = refl
prints_kept [] (f ∷ fs) =
    let h = prints_kept [] fs in
    let a = sum_by-cons (λ (k : Function). print_count k.body) (kept false f) (with_marks [] fs) in
    let b = sum_by-cons (λ (k : Function). print_count k.body) f fs in
    omega (arith, h, a, b)
prints_kept (m ∷ marks) (f ∷ fs) =
    let h = prints_kept marks fs in
    let same = kept_prints m f in
    let a = sum_by-cons (λ (k : Function). print_count k.body) (kept m f) (with_marks marks fs) in
    let b = sum_by-cons (λ (k : Function). print_count k.body) f fs in
    omega (arith, h, same, a, b)

-- so many functions, and one more
pub marks_more : (marks : List Bool) (fs : List Function) (i : ℕ) (f : Function) → slice_get fs i ≡ Some f →
    with_marks marks (take (suc i) fs) ≡ with_marks marks (take i fs) ++ kept (has marks i) f ∷ []
marks_more marks [] i f at = cc
marks_more [] (d ∷ fs) zero f at = ap (λ z. kept false z ∷ []) (let same : d ≡ f = cc in same)
marks_more (m ∷ marks) (d ∷ fs) zero f at = ap (λ z. kept m z ∷ []) (let same : d ≡ f = cc in same)
marks_more [] (d ∷ fs) (suc i) f at = ap (λ l. kept false d ∷ l) (marks_more [] fs i f at)
marks_more (m ∷ marks) (d ∷ fs) (suc i) f at = ap (λ l. kept m d ∷ l) (marks_more marks fs i f at)

pub rooms_few : (marks : List Bool) (fs : List Function) (i : ℕ) (f : Function) → slice_get fs i ≡ Some f →
    (length (all_locals (with_marks marks (take i fs))) + length (kept (has marks i) f).locals ≤ length (all_locals (with_marks marks fs))) × (prints (take i fs) + print_count f.body ≤ prints fs)
rooms_few marks [] i f at = cc
rooms_few [] (d ∷ fs) zero f at = (
  (let same : d ≡ f = cc in let e = ap (λ z. length (kept false z).locals) same in let a = length-append (kept false d).locals (all_locals (with_marks [] fs)) in omega (arith, e, a)),
  (let same : d ≡ f = cc in let e = ap (λ (z : Function). print_count z.body) same in let b = sum_by-cons (λ (k : Function). print_count k.body) d fs in omega (arith, e, b)),
)
rooms_few (m ∷ marks) (d ∷ fs) zero f at = (
  (let same : d ≡ f = cc in let e = ap (λ z. length (kept m z).locals) same in let a = length-append (kept m d).locals (all_locals (with_marks marks fs)) in omega (arith, e, a)),
  (let same : d ≡ f = cc in let e = ap (λ (z : Function). print_count z.body) same in let b = sum_by-cons (λ (k : Function). print_count k.body) d fs in omega (arith, e, b)),
)
rooms_few [] (d ∷ fs) (suc i) f at =
    let h = rooms_few [] fs i f at in
    let u = h.0 in
    let v = h.1 in (
      (let a = length-append (kept false d).locals (all_locals (with_marks [] (take i fs))) in let b = length-append (kept false d).locals (all_locals (with_marks [] fs)) in omega (arith, u, a, b)),
      (let a = sum_by-cons (λ (k : Function). print_count k.body) d (take i fs) in let b = sum_by-cons (λ (k : Function). print_count k.body) d fs in omega (arith, v, a, b)),
    )
rooms_few (m ∷ marks) (d ∷ fs) (suc i) f at =
    let h = rooms_few marks fs i f at in
    let u = h.0 in
    let v = h.1 in (
      (let a = length-append (kept m d).locals (all_locals (with_marks marks (take i fs))) in let b = length-append (kept m d).locals (all_locals (with_marks marks fs)) in omega (arith, u, a, b)),
      (let a = sum_by-cons (λ (k : Function). print_count k.body) d (take i fs) in let b = sum_by-cons (λ (k : Function). print_count k.body) d fs in omega (arith, v, a, b)),
    )

-- the functions of a program, one after another

get_at : (fs : List FunctionTree) (i : ℕ) (f : FunctionTree) → i < length fs → f ≡ get_or fs i f → slice_get (map function_of fs) i ≡ Some (function_of f)
get_at [] i f lt is = absurd (omega arith)
get_at (g ∷ gs) zero f lt is = ap (λ z. Some (function_of z)) (sym is)
get_at (g ∷ gs) (suc i) f lt is = get_at gs i f (omega arith) is

pub rooms_next : (marks : List Bool) (fs : List FunctionTree) (i : ℕ) (f : FunctionTree) → i < length fs → f ≡ get_or fs i f →
    with_marks marks (map function_of (take (i + 1) fs)) ≡ with_marks marks (map function_of (take i fs)) ++ kept (has marks i) (function_of f) ∷ []
rooms_next marks fs i f lt is =
    ap (λ n. with_marks marks (map function_of (take n fs))) (let e : i + 1 ≡ suc i = omega arith in e) ∙ ap (with_marks marks) (sym (take-map function_of (suc i) fs))
    ∙ marks_more marks (map function_of fs) i (function_of f) (get_at fs i f lt is)
    ∙ ap (λ l. with_marks marks l ++ kept (has marks i) (function_of f) ∷ []) ((take-map function_of i fs))

pub rooms_full : (marks : List Bool) (fs : List FunctionTree) (i : ℕ) (f : FunctionTree) (r : Rooms) (b : Bool) (fault : LoweringFault) → i < length fs → f ≡ get_or fs i f → b ≡ has marks i →
    ArePlaced (with_marks marks (map function_of (take i fs))) r →
    IsFull (length (all_locals (with_marks marks (map function_of (take i fs)))) + length (kept b (function_of f)).locals + r.sites + print_count (function_of f).body) fault →
    IsFull (length (all_locals (with_marks marks (map function_of fs))) + prints (map function_of fs)) fault
rooms_full marks fs i f r b fault lt is b_is placed full =
    let few = rooms_few marks (map function_of fs) i (function_of f) (get_at fs i f lt is) in
    let u = few.0 in
    let v = few.1 in
    let a = ap (λ l. length (all_locals (with_marks marks l))) (sym (take-map function_of i fs)) in
    let q = ap prints (sym (take-map function_of i fs)) in
    let k = prints_kept marks (map function_of (take i fs)) in
    let s = placed.sites in
    let e = ap (λ z. length (kept z (function_of f)).locals) b_is in
    full_more fault (length (all_locals (with_marks marks (map function_of (take i fs)))) + length (kept b (function_of f)).locals + r.sites + print_count (function_of f).body)
    (length (all_locals (with_marks marks (map function_of fs))) + prints (map function_of fs)) (omega (arith, u, v, a, q, k, s, e)) full
