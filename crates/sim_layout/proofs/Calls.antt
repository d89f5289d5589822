-- Small facts for the simulator's calls.
use Rattle.std.specs.Prelude.{◌≡◌, ℕ, List, Result, Ok, Err, OnErr, is_ok, if◌then◌else◌}

pub on_err : {T E : Type 0} (r : Result T E) (P : Type 0) → P → OnErr r P
on_err (Ok x) P p = tt
on_err (Err e) P p = p

pub if_ok : {T E : Type 0} (r : Result T E) (x : T) (a b out : List ℕ) → r ≡ Ok x → out ≡ (if is_ok r then a else b) → out ≡ a
if_ok (Ok y) x a b out e o = o
if_ok (Err f) x a b out e o = absurd cc
