-- Values and $writes, one part or one site longer.
use Rattle.std.proofs.Common.{◌≡◌, ℕ, zero, suc, ◌+◌, ◌≤◌, List, [], ◌∷◌, ◌++◌, length, take, slice_get, Some, sym, ap, ◌∙◌, subst, arith, add-one, add-zero, zero-add}
use Rattle.std.proofs.lemmas.List.{length-take-le}
use Rattle.lists.proofs.Places.{take_next}
use Rattle.netlist.specs.declared.netlist.Argument.{Argument}
use Rattle.netlist.specs.declared.netlist.Argument.TheVariants as argument
use Rattle.netlist.specs.declared.netlist.Action.{Action}
use Rattle.circuit.specs.Rows.{EachOf}
use Rattle.printer_cores.specs.declared.format.Part.{Part}
use Rattle.printer_cores.specs.declared.format.Part.TheVariants.{Text, Unsigned, Signed}
use Rattle.printer_cores.specs.Format.{IsPart, values_of, arguments_of}
use Rattle.printer_cores.specs.Printer.{write, writes_from}

values_of-append : (x y : List Part) → values_of (x ++ y) ≡ values_of x + values_of y
values_of-append [] y = sym (zero-add (values_of y))
values_of-append (Text b ∷ x) y = values_of-append x y
values_of-append (Unsigned ∷ x) y = let e = values_of-append x y in omega arith
values_of-append (Signed ∷ x) y = let e = values_of-append x y in omega arith

arguments_of-append : (place : ℕ) (x y : List Part) → arguments_of place (x ++ y) ≡ arguments_of place x ++ arguments_of (place + values_of x) y
arguments_of-append place [] y = ap (λ p. arguments_of p y) (sym (add-zero place))
arguments_of-append place (Text b ∷ x) y = arguments_of-append place x y
arguments_of-append place (Unsigned ∷ x) y =
    let z : place + 1 + values_of x ≡ place + (1 + values_of x) = omega arith in
    ap (λ l. argument.Unsigned place ∷ l) (arguments_of-append (place + 1) x y ∙ ap (λ p. arguments_of (place + 1) x ++ arguments_of p y) z)
arguments_of-append place (Signed ∷ x) y =
    let z : place + 1 + values_of x ≡ place + (1 + values_of x) = omega arith in
    ap (λ l. argument.Signed place ∷ l) (arguments_of-append (place + 1) x y ∙ ap (λ p. arguments_of (place + 1) x ++ arguments_of p y) z)

-- the values so far, and the place of the next one
pub record IsSoFar (first : ℕ) (parts : List Part) (i : ℕ) (values : List Argument) (place : ℕ) : Type 0 where
  pub so_far : values ≡ arguments_of first (take i parts)
  pub next : place ≡ first + values_of (take i parts)

pub values_grow : (first : ℕ) (parts : List Part) (i : ℕ) (p : Part) (xs ys : List Argument) (place after : ℕ) → slice_get parts i ≡ Some p → IsSoFar first parts i xs place
    → ys ≡ xs ++ arguments_of place (p ∷ []) → after ≡ place + values_of (p ∷ []) → IsSoFar first parts (i + 1) ys after
values_grow first parts i p xs ys place after e so f g =
    let longer = ap (λ n. take n parts) (add-one i) ∙ take_next parts i p e in
    record {
      so_far = f ∙ ap (λ n. xs ++ arguments_of n (p ∷ [])) so.next ∙ ap (λ l. l ++ arguments_of (first + values_of (take i parts)) (p ∷ [])) so.so_far
          ∙ sym (arguments_of-append first (take i parts) (p ∷ [])) ∙ ap (arguments_of first) (sym longer);
      next =
          let a = values_of-append (take i parts) (p ∷ []) in
          let b = ap values_of longer in
          let n = so.next in
          omega arith;
    }

-- a part of a list has no more values than the list
pub values_of-take : (parts : List Part) (i : ℕ) → values_of (take i parts) ≤ values_of parts
values_of-take [] zero = omega arith
values_of-take [] (suc i) = omega arith
values_of-take (p ∷ parts) zero = omega arith
values_of-take (Text b ∷ parts) (suc i) = values_of-take parts i
values_of-take (Unsigned ∷ parts) (suc i) = let l = values_of-take parts i in omega arith
values_of-take (Signed ∷ parts) (suc i) = let l = values_of-take parts i in omega arith

-- ---- sites

writes_from-append : (hits first k : ℕ) (x y : List (List Part)) → writes_from hits first k (x ++ y) ≡ writes_from hits first k x ++ writes_from hits first (k + length x) y
writes_from-append hits first k [] y = ap (λ n. writes_from hits first n y) (sym (add-zero k))
writes_from-append hits first k (p ∷ x) y =
    let z : k + 1 + length x ≡ k + suc (length x) = omega arith in
    ap (λ l. write (hits + k) first p ∷ l) (writes_from-append hits first (k + 1) x y ∙ ap (λ n. writes_from hits first (k + 1) x ++ writes_from hits first n y) z)

pub writes_grow : (hits first : ℕ) (sites : List (List Part)) (i : ℕ) (p : List Part) (xs ys : List Action) → slice_get sites i ≡ Some p → i ≤ length sites
    → xs ≡ writes_from hits first 0 (take i sites) → ys ≡ xs ++ write (hits + i) first p ∷ [] → ys ≡ writes_from hits first 0 (take (i + 1) sites)
writes_grow hits first sites i p xs ys e l f g =
    let n : i ≡ 0 + length (take i sites) = sym (zero-add (length (take i sites)) ∙ length-take-le i sites l) in
    g ∙ ap (λ n. xs ++ write (hits + n) first p ∷ []) n ∙ ap (λ zs. zs ++ write (hits + (0 + length (take i sites))) first p ∷ []) f
    ∙ sym (writes_from-append hits first 0 (take i sites) (p ∷ []))
    ∙ ap (writes_from hits first 0) (sym (ap (λ n. take n sites) (add-one i) ∙ take_next sites i p e))

pub part_at : (parts : List Part) (i : ℕ) (p : Part) → EachOf IsPart parts → slice_get parts i ≡ Some p → IsPart p
part_at [] i p h e = absurd cc
part_at (q ∷ parts) zero p h e = let same : q ≡ p = cc in subst IsPart same h.0
part_at (q ∷ parts) (suc i) p h e = part_at parts i p h.1 e

-- a value has its place below the end
pub next_below : (first : ℕ) (parts : List Part) (i : ℕ) (p : Part) (xs : List Argument) (place : ℕ) → slice_get parts i ≡ Some p → IsSoFar first parts i xs place
    → values_of (p ∷ []) ≡ 1 → place + 1 ≤ first + values_of parts
next_below first parts i p xs place e so one =
    let a = values_of-append (take i parts) (p ∷ []) in
    let b = ap values_of (take_next parts i p e) in
    let l = values_of-take parts (suc i) in
    let n = so.next in
    omega arith
