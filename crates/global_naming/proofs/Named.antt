-- The marks with one function more.
use Rattle.std.proofs.Common.{◌≡◌, refl, sym, ap, ◌∙◌, subst, inl, inr, ◌⊎◌, ℕ, zero, suc, ◌+◌, ◌<◌, ◌≤◌, Bool, true, false, List, length, if◌then◌else◌, add-one, arith}
use Rattle.std.specs.Prelude.{Option, Some, None, slice_get}
use Rattle.std.proofs.lemmas.Bool.{false≢true, cases_lt}
use Rattle.std.proofs.lemmas.List.{length-replicate}
use Rattle.c_program.specs.Tree.{Function, Program}
use Rattle.c_call_graph.specs.Reaching.{leads}
use Rattle.c_call_graph.specs.Graphs.{has}
use Rattle.c_call_graph.proofs.Marks.{none_has}
use Rattle.global_naming.specs.Naming.{statement_globals, mentions}
use Rattle.global_naming.specs.Tables.{with_names, globals_at, named_to}
use Rattle.global_naming.proofs.Marks.{IsOf, names_length, keeps, marked_by, marks_it}

pub marked_more :
    (P : Program) (rows : List (List Bool)) (f k : ℕ) (code : Function) (old new : List Bool) → slice_get P.functions k ≡ Some code → leads rows f k ≡ true →
    old ≡ named_to P rows f k → new ≡ with_names (statement_globals code.body) old → new ≡ named_to P rows f (k + 1)
marked_more P rows f k code old new at runs before after =
    let chosen = ap (λ (b : Bool). if b then with_names (globals_at (slice_get P.functions k)) (named_to P rows f k) else named_to P rows f k) runs in
    let here = ap (λ (o : Option Function). with_names (globals_at o) (named_to P rows f k)) at in
    rw add-one (after ∙ ap (with_names (statement_globals code.body)) before ∙ sym here ∙ sym chosen)

pub marked_same :
    (P : Program) (rows : List (List Bool)) (f k : ℕ) (old new : List Bool) → leads rows f k ≡ false → old ≡ named_to P rows f k → new ≡ old → new ≡ named_to P rows f (k + 1)
marked_same P rows f k old new runs before after =
    let chosen = ap (λ (b : Bool). if b then with_names (globals_at (slice_get P.functions k)) (named_to P rows f k) else named_to P rows f k) runs in
    rw add-one (after ∙ before ∙ sym chosen)

-- ---- what is marked

module _ (P : Program) (rows : List (List Bool)) (f : ℕ) where
  abbrev chosen : ℕ → Bool → List Bool
  chosen k b = if b then with_names (globals_at (slice_get P.functions k)) (named_to P rows f k) else named_to P rows f k

  pub named_length : (k : ℕ) → length (named_to P rows f k) ≡ length P.globals
  named_length zero = length-replicate (length P.globals) false
  named_length (suc k) = by (leads rows f k) (named_length k) where
    by : (b : Bool) → length (named_to P rows f k) ≡ length P.globals → length (chosen k b) ≡ length P.globals
    by true before = names_length (globals_at (slice_get P.functions k)) (named_to P rows f k) ∙ before
    by false before = before

  -- one of the first functions names it that runs there
  pub record NamedBy (x k : ℕ) : Type 0 where
    pub place : ℕ
    pub code : Function
    pub before : place < k
    pub runs : leads rows f place ≡ true
    pub at : slice_get P.functions place ≡ Some code
    pub named : 0 < mentions x code

  later : (x k : ℕ) → NamedBy x k → NamedBy x (suc k)
  later x k n = let before = n.before in record { place = n.place; code = n.code; before = omega (arith, before); runs = n.runs; at = n.at; named = n.named }

  by_code : (x k : ℕ) (o : Option Function) → slice_get P.functions k ≡ o → leads rows f k ≡ true → IsOf x (globals_at o) → NamedBy x (suc k)
  by_code x k None at runs is = absurd (omega (arith, is))
  by_code x k (Some code) at runs is = record { place = k; code = code; before = omega arith; runs = runs; at = at; named = is }

  pub named_by : (x k : ℕ) → has (named_to P rows f k) x ≡ true → NamedBy x k
  named_by x zero is = absurd (false≢true (sym (none_has (length P.globals) x) ∙ is))
  named_by x (suc k) is = by (leads rows f k) refl is (named_by x k) where
    by : (b : Bool) → leads rows f k ≡ b → has (chosen k b) x ≡ true → (has (named_to P rows f k) x ≡ true → NamedBy x k) → NamedBy x (suc k)
    by true runs is before =
        elim (marked_by (globals_at (slice_get P.functions k)) (named_to P rows f k) x is) [
          | inl was ↦ later x k (before was)
          | inr named ↦ by_code x k (slice_get P.functions k) refl runs named
        ]
    by false runs is before = later x k (before is)

  pub is_named : (x k : ℕ) → x < length P.globals → NamedBy x k → has (named_to P rows f k) x ≡ true
  is_named x zero inside n = let before = n.before in absurd (omega (arith, before))
  is_named x (suc k) inside n = by (leads rows f k) refl (cases_lt n.place k) (is_named x k inside) where
    long : x < length (named_to P rows f k)
    long = let same = named_length k in omega (arith, inside, same)

    by : (b : Bool) → leads rows f k ≡ b → (n.place < k) ⊎ (k ≤ n.place) → (NamedBy x k → has (named_to P rows f k) x ≡ true) → has (chosen k b) x ≡ true
    by true runs (inl less) earlier =
        keeps (globals_at (slice_get P.functions k)) (named_to P rows f k) x
        (earlier (record { place = n.place; code = n.code; before = less; runs = n.runs; at = n.at; named = n.named }))
    by false runs (inl less) earlier = earlier (record { place = n.place; code = n.code; before = less; runs = n.runs; at = n.at; named = n.named })
    by true runs (inr last) earlier =
        let before = n.before in
        let here : n.place ≡ k = omega (arith, before, last) in
        let at : slice_get P.functions k ≡ Some n.code = subst (λ (j : ℕ). slice_get P.functions j ≡ Some n.code) here n.at in
        marks_it (globals_at (slice_get P.functions k)) (named_to P rows f k) x long (subst (λ (o : Option Function). IsOf x (globals_at o)) (sym at) n.named)
    by false runs (inr last) earlier =
        let before = n.before in
        let here : n.place ≡ k = omega (arith, before, last) in
        absurd (false≢true (sym runs ∙ subst (λ (j : ℕ). leads rows f j ≡ true) here n.runs))
