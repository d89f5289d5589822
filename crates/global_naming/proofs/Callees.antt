-- The calls of functions as a graph: what a function calls there is what its body calls.
use Rattle.std.proofs.Common.{◌≡◌, refl, sym, ap, ◌∙◌, ℕ, zero, suc, ◌+◌, ◌<◌, Bool, false, nat_eq, if◌then◌else◌, List, [], ◌∷◌, ◌++◌, map, append-nil, append_assoc, arith, fold}
use Rattle.std.specs.Prelude.{Some, slice_get}
use Rattle.std.proofs.lemmas.List.Sums.{fold-append}
use Rattle.std.proofs.lemmas.Option.{none-some, same_Some}
use Rattle.std.proofs.lemmas.Bool.Decides.{nat_tests}
use Rattle.std.proofs.lemmas.Bool.{eq-eqb}
use Rattle.c_program.specs.Tree.{Function}
use Rattle.c_program.specs.Calls.{calls_of}
use Rattle.c_call_graph.specs.Graphs.{with_call, callees}
use Rattle.global_naming.specs.Tables.{call_from, calls_after, calls_from}

apart : (k n : ℕ) → n < k → nat_eq k n ≡ false
apart k n lt = grind (arith, nat_tests)

apart_before : (n k j : ℕ) → n ≡ k + suc j → nat_eq k n ≡ false
apart_before n k j sum = grind (arith, nat_tests)

own : (k : ℕ) (gs acc : List ℕ) → fold (with_call k) acc (map (call_from k) gs) ≡ acc ++ gs
own k [] acc = sym (append-nil acc)
own k (g ∷ gs) acc =
    let one = ap (λ (b : Bool). if b then acc ++ g ∷ [] else acc) (eq-eqb k k refl) in
    ap (λ (xs : List ℕ). fold (with_call k) xs (map (call_from k) gs)) one ∙ own k gs (acc ++ g ∷ []) ∙ append_assoc acc (g ∷ []) gs

others : (n k : ℕ) (differ : nat_eq k n ≡ false) (gs acc : List ℕ) → fold (with_call n) acc (map (call_from k) gs) ≡ acc
others n k differ [] acc = refl
others n k differ (g ∷ gs) acc =
    let one = ap (λ (b : Bool). if b then acc ++ g ∷ [] else acc) differ in
    ap (λ (xs : List ℕ). fold (with_call n) xs (map (call_from k) gs)) one ∙ others n k differ gs acc

-- functions behind it call nothing in its name
later : (n k : ℕ) (fs : List Function) (acc : List ℕ) → n < k → fold (with_call n) acc (calls_after k fs) ≡ acc
later n k [] acc past = refl
later n k (f ∷ fs) acc past =
    fold-append (with_call n) acc (map (call_from k) (calls_of f.body)) (calls_after (suc k) fs)
    ∙ ap (λ (xs : List ℕ). fold (with_call n) xs (calls_after (suc k) fs)) (others n k (apart k n past) (calls_of f.body) acc)
    ∙ later n (suc k) fs acc (omega (arith, past))

at_place :
    (n k j : ℕ) (fs : List Function) (acc : List ℕ) (code : Function) → n ≡ k + j → slice_get fs j ≡ Some code →
    fold (with_call n) acc (calls_after k fs) ≡ acc ++ calls_of code.body
at_place n k j [] acc code sum at = absurd (none-some code at)
at_place n k zero (f ∷ fs) acc code sum at =
    let here : n ≡ k = omega (arith, sum) in
    let same : f ≡ code = same_Some f code at in
    fold-append (with_call n) acc (map (call_from k) (calls_of f.body)) (calls_after (suc k) fs)
    ∙ ap (λ (m : ℕ). fold (with_call n) (fold (with_call m) acc (map (call_from k) (calls_of f.body))) (calls_after (suc k) fs)) here
    ∙ ap (λ (xs : List ℕ). fold (with_call n) xs (calls_after (suc k) fs)) (own k (calls_of f.body) acc)
    ∙ later n (suc k) fs (acc ++ calls_of f.body) (omega (arith, here))
    ∙ ap (λ (g : Function). acc ++ calls_of g.body) same
at_place n k (suc j) (f ∷ fs) acc code sum at =
    fold-append (with_call n) acc (map (call_from k) (calls_of f.body)) (calls_after (suc k) fs)
    ∙ ap (λ (xs : List ℕ). fold (with_call n) xs (calls_after (suc k) fs)) (others n k (apart_before n k j sum) (calls_of f.body) acc)
    ∙ at_place n (suc k) j fs acc code (omega (arith, sum)) at

pub callees_are : (fs : List Function) (f : ℕ) (code : Function) → slice_get fs f ≡ Some code → callees (calls_from fs) f ≡ calls_of code.body
callees_are fs f code at = at_place f 0 f fs [] code (omega arith) at
