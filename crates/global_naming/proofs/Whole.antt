-- The counts are those of the definition.
use Rattle.std.proofs.Common.{◌≡◌, refl, sym, ap, ◌∙◌, subst, inl, inr, ℕ, ◌+◌, ◌*◌, ◌<◌, ◌≤◌, Bool, true, false, if◌then◌else◌, List, [], ◌∷◌, ◌++◌, length, replicate, sum_by, arith}
use Rattle.std.specs.Prelude.{Option, Some, None, slice_get}
use Rattle.std.specs.List.{flat_map}
use Rattle.std.proofs.lemmas.Bool.{ltb-true, lt-ltb, cases_lt}
use Rattle.std.proofs.lemmas.List.{length-append}
use Rattle.std.proofs.lemmas.List.Sums.{sum_by-cons, sum_by-append}
use Rattle.std.proofs.lemmas.Option.{slice_get_within}
use Rattle.std.proofs.lemmas.List.Folds.{sum_by-replicate}
use Rattle.std.specs.Cmp.{both_ways}
use Rattle.lists.proofs.Places.{get_front, get_last}
use Rattle.c_program.specs.declared.tree.ThreadObject.{ThreadObject}
use Rattle.c_program.specs.Tree.{Program}
use Rattle.c_program.specs.Calls.{IsAcyclic}
use Rattle.c_program.specs.Counting.{capped}
use Rattle.c_program.specs.Weight.{inlined, thread_count}
use Rattle.c_call_graph.specs.Graphs.{has}
use Rattle.c_call_graph.specs.Reaching.{IsReach}
use Rattle.global_naming.specs.Naming.{mentions, names_global, runner_names, naming_threads, AreCounts}
use Rattle.global_naming.specs.Tables.{Running, IsCounted, share, sum_of, running, runners_by, object_runners, calls_from, named_to, all_runners}
use Rattle.global_naming.proofs.Amounts.{positive_inside, found, positive}
use Rattle.global_naming.proofs.Few.{no_more_than_threads}
use Rattle.global_naming.proofs.Named.{named_by, is_named}
use Rattle.bank_partition.specs.Counts.{one_if}

at_most : (n : ℕ) → n ≤ 1000000 → capped n ≡ n
at_most n le = omega (arith, le)

module _ (P : Program) (rows : List (List Bool)) (acyclic : IsAcyclic P.functions) (reach : IsReach (length P.functions) (calls_from P.functions) rows) where
  abbrev count : ℕ
  count = length P.functions

  -- the marks are those of the definition
  pub marks_are : (f x : ℕ) → x < length P.globals → has (named_to P rows f count) x ≡ names_global P x f
  marks_are f x inside = both_ways (has (named_to P rows f count) x) (names_global P x f) there back where
    there : has (named_to P rows f count) x ≡ true → names_global P x f ≡ true
    there is =
        let n = named_by P rows f x count is in
        let way = (reach f n.place).0 n.runs in
        lt-ltb 0 (inlined (mentions x) P.functions count f) (positive (mentions x) P.functions acyclic f n.place n.code way.0 way.2 n.at n.named)

    back : names_global P x f ≡ true → has (named_to P rows f count) x ≡ true
    back is =
        let more = ltb-true 0 (inlined (mentions x) P.functions count f) is in
        let d = found (mentions x) P.functions count f more in
        let start = positive_inside (mentions x) P.functions count f more in
        let before = slice_get_within P.functions d.0 d.1 d.3 in
        is_named P rows f x count inside
        (record { place = d.0; code = d.1; before = before; runs = (reach f d.0).1 (start, before, d.2); at = d.3; named = d.4 })

  share_of : (threads f x : ℕ) → x < length P.globals → share x (running P rows threads f) ≡ threads * one_if (names_global P x f)
  share_of threads f x inside = ap (λ (b : Bool). if b then threads else 0) (marks_are f x inside) ∙ by (names_global P x f) where
    by : (b : Bool) → (if b then threads else 0) ≡ threads * one_if b
    by true = omega arith
    by false = omega arith

  object_share : (x : ℕ) → x < length P.globals → (n : ℕ) (o : Option ℕ) → sum_by (share x) (runners_by P rows n o) ≡ sum_by (runner_names P x) (replicate n o)
  object_share x inside n None = let none = sum_by-replicate (runner_names P x) n None in omega (arith, none)
  object_share x inside n (Some f) =
      let one = sum_by-cons (share x) (running P rows n f) [] in
      let own = share_of n f x inside in
      let times = sum_by-replicate (runner_names P x) n (Some f) in
      omega (arith, one, own, times)

  objects_share :
      (x : ℕ) → x < length P.globals → (ts : List ThreadObject) →
      sum_by (share x) (flat_map (object_runners P rows) ts) ≡ sum_by (runner_names P x) (flat_map (λ (object : ThreadObject). replicate object.length object.routine) ts)
  objects_share x inside [] = refl
  objects_share x inside (t ∷ ts) =
      let left = sum_by-append (share x) (object_runners P rows t) (flat_map (object_runners P rows) ts) in
      let right = sum_by-append (runner_names P x) (replicate t.length t.routine) (flat_map (λ (object : ThreadObject). replicate object.length object.routine) ts) in
      let one = object_share x inside t.length t.routine in
      let rest = objects_share x inside ts in
      omega (arith, left, right, one, rest)

  sums_are : (x : ℕ) → x < length P.globals → sum_by (share x) (all_runners P rows) ≡ naming_threads P x
  sums_are x inside =
      let left = sum_by-cons (share x) (running P rows 1 P.main) (flat_map (object_runners P rows) P.threads) in
      let right = sum_by-cons (runner_names P x) (Some P.main) (flat_map (λ (object : ThreadObject). replicate object.length object.routine) P.threads) in
      let one = share_of 1 P.main x inside in
      let rest = objects_share x inside P.threads in
      omega (arith, left, right, one, rest)

  pub counts_are : (counts : List ℕ) → thread_count P ≤ 1000000 → IsCounted (all_runners P rows) (length P.globals) counts → AreCounts P counts
  counts_are counts few counted = record {
    count = counted.count;
    each = λ x inside.
        let known = counted.each x inside in
        let sum = sums_are x inside in
        let most = no_more_than_threads P x in
        known ∙ ap (λ (n : ℕ). Some (capped n)) sum ∙ ap Some (at_most (naming_threads P x) (omega (arith, most, few)));
  }

-- one count more
pub one_more :
    (runners : List Running) (k : ℕ) (counts more : List ℕ) (n : ℕ) → IsCounted runners k counts → n ≡ sum_of runners k → more ≡ counts ++ n ∷ [] → IsCounted runners (k + 1) more
one_more runners k counts more n counted is grown = subst (λ (xs : List ℕ). IsCounted runners (k + 1) xs) (sym grown) (record { count = long; each = each }) where
  long : length (counts ++ n ∷ []) ≡ k + 1
  long = length-append counts (n ∷ []) ∙ ap (λ (m : ℕ). m + 1) counted.count

  each : (x : ℕ) → x < k + 1 → slice_get (counts ++ n ∷ []) x ≡ Some (sum_of runners x)
  each x lt =
      elim (cases_lt x k) [
        | inl less ↦ get_front counts (n ∷ []) x (sum_of runners x) (counted.each x less)
        | inr past ↦
            let here : k ≡ x = omega (arith, lt, past) in
            let last = subst (λ (m : ℕ). slice_get (counts ++ n ∷ []) m ≡ Some n) counted.count (get_last counts n) in
            subst (λ (m : ℕ). slice_get (counts ++ n ∷ []) m ≡ Some (sum_of runners m)) here (last ∙ ap Some is)
      ]
