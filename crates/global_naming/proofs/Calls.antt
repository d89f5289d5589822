-- The calls of functions, with one function more.
use Rattle.std.proofs.Common.{◌≡◌, ap, sym, ◌∙◌, ℕ, suc, ◌+◌, List, [], ◌∷◌, ◌++◌, length, map, append-nil, append_assoc, arith}
use Rattle.std.proofs.Common.{◌<◌, take, get_or}
use Rattle.std.proofs.lemmas.List.{length-map, length-take-le, map-append, take_more}
use Rattle.c_program.specs.declared.tree.Function.{Function as FunctionTree}
use Rattle.c_program.specs.Plain.{function_of}
use Rattle.c_program.specs.Tree.{Function}
use Rattle.c_program.specs.Calls.{calls_of}
use Rattle.c_call_graph.specs.declared.table.Call.{Call}
use Rattle.global_naming.specs.Tables.{call_from, calls_after, calls_from}

more_after : (k n : ℕ) (fs : List Function) (f : Function) → k + length fs ≡ n → calls_after k (fs ++ f ∷ []) ≡ calls_after k fs ++ map (call_from n) (calls_of f.body)
more_after k n [] f sum =
    let same : k ≡ n = omega (arith, sum) in
    append-nil (map (call_from k) (calls_of f.body)) ∙ ap (λ (m : ℕ). map (call_from m) (calls_of f.body)) same
more_after k n (g ∷ gs) f sum =
    ap (λ (xs : List Call). map (call_from k) (calls_of g.body) ++ xs) (more_after (suc k) n gs f (omega (arith, sum)))
    ∙ sym (append_assoc (map (call_from k) (calls_of g.body)) (calls_after (suc k) gs) (map (call_from n) (calls_of f.body)))

pub calls_more : (n : ℕ) (fs : List Function) (f : Function) → length fs ≡ n → calls_from (fs ++ f ∷ []) ≡ calls_from fs ++ map (call_from n) (calls_of f.body)
calls_more n fs f is = more_after 0 n fs f (omega (arith, is))

-- with the calls of the function behind the first ones
pub calls_next :
    (fs : List FunctionTree) (k : ℕ) (d item : FunctionTree) (old new : List Call) → k < length fs → item ≡ get_or fs k d →
    old ≡ calls_from (map function_of (take k fs)) → new ≡ old ++ map (call_from k) (calls_of (function_of item).body) →
    new ≡ calls_from (map function_of (take (k + 1) fs))
calls_next fs k d item old new inside is before after =
    let long : length (map function_of (take k fs)) ≡ k = length-map (take k fs) function_of ∙ length-take-le k fs (omega (arith, inside)) in
    let more = calls_more k (map function_of (take k fs)) (function_of item) long in
    let grown : take (k + 1) fs ≡ take k fs ++ item ∷ [] = take_more fs k d inside ∙ ap (λ (x : FunctionTree). take k fs ++ x ∷ []) (sym is) in
    let whole : map function_of (take (k + 1) fs) ≡ map function_of (take k fs) ++ function_of item ∷ [] =
    ap (map function_of) grown ∙ map-append function_of (take k fs) (item ∷ []) in
    after ∙ ap (λ (xs : List Call). xs ++ map (call_from k) (calls_of (function_of item).body)) before ∙ sym more ∙ ap calls_from (sym whole)
