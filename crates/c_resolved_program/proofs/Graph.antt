-- What the rule on calls that only the whole text shows gives: no call leads back to its caller.
use Rattle.std.proofs.Common.{◌≡◌, refl, ap, subst, ◌∙◌, inl, inr, ℕ, zero, suc, ◌<◌, ◌≤◌, Bool, true}
use Rattle.std.proofs.Common.{false, List, [], ◌∷◌, ◌++◌, map, length, Option, Some, None, eq-eqb, arith, sym}
use Rattle.std.specs.Prelude.{◌+◌, ◌-◌, nat_eq, if◌then◌else◌, fold, slice_get, slice_index_or, Contains}
use Rattle.std.specs.List.{AllByRecursion}
use Rattle.std.specs.Bool.{Decides}
use Rattle.std.proofs.lemmas.Bool.{cases_lt, false≢true}
use Rattle.std.proofs.lemmas.Option.{slice_get_within, none-some}
use Rattle.std.proofs.lemmas.List.Elements.{Contains-append_left, Contains-append_right}
use Rattle.c_call_graph.specs.declared.table.Call.{Call}
use Rattle.c_call_graph.specs.Graphs.{with_call}
use Rattle.c_call_graph.specs.Reaching.{Leads, Here, Further}
use Rattle.c_program.specs.Tree.{Function}
use Rattle.c_program.specs.Calls.{Calls, IsAcyclic}
use Rattle.c_rules.specs.declared.fault.Rule.{Rule}
use Rattle.c_rules.specs.declared.fault.Fault.{Fault}
use Rattle.c_rules.specs.declared.findings.CallSite.{CallSite}
use Rattle.c_rules.specs.declared.findings.Findings.{Findings}
use Rattle.c_rules.specs.Faults.{first}
use Rattle.c_resolution.specs.CallRules as c
use Rattle.c_resolved_program.specs.Gathered.{IsFound}
use Rattle.c_resolved_program.proofs.Walks.{first-some, first-none}

-- ---- no fault in the whole means none in each part

pub first-second : (a b : Option Fault) → first a b ≡ None → b ≡ None
unfolding first
first-second None b h = h
first-second (Some a) None h = refl
first-second (Some a) (Some b) h = absurd (first-some (Some a) b h)

fault_if_none : (b : Bool) (rule : Rule) (at : ℕ) → c.fault_if b rule at ≡ None → b ≡ false
fault_if_none true rule at h = absurd (none-some _ (sym h))
fault_if_none false rule at h = refl

pub calls_none : (leads : ℕ → ℕ → Bool) (list : List CallSite) (fault : Option Fault) → fold (c.with_call leads) fault list ≡ None →
    (fault ≡ None) × AllByRecursion (λ (s : CallSite). leads s.callee s.caller ≡ false) list
calls_none leads [] fault h = (h, tt)
calls_none leads (s ∷ list) fault h =
    let later = calls_none leads list (c.with_call leads fault s) h in
    let part = c.fault_if (leads s.callee s.caller) _ s.offset in
    (first-none fault part later.0, (fault_if_none (leads s.callee s.caller) _ s.offset (first-second fault part later.0), later.1))

pub all_at : {A : Type 0} (Is : A → Type 0) (list : List A) (x : A) → AllByRecursion Is list → Contains list x → Is x
all_at Is list x all inside = at list inside.0 all inside.1 inside.2
  where
    at : (list : List _) (k : ℕ) → AllByRecursion Is list → k < length list → slice_index_or list k x ≡ x → Is x
    at [] k all lt is = absurd (omega arith)
    at (y ∷ list) zero all lt is = subst Is is all.0
    at (y ∷ list) (suc k) all lt is = at list k all.1 (omega arith) is

-- ---- counting

count : (ℕ → Bool) → ℕ → ℕ
count P zero = 0
count P (suc n) = count P n + (if P n then 1 else 0)

one : Bool → ℕ
one b = if b then 1 else 0

one-le : (a b : Bool) → (a ≡ true → b ≡ true) → one a ≤ one b
unfolding one
one-le true true h = omega arith
one-le true false h = absurd (false≢true (h refl))
one-le false b h = omega arith

count-le : (P Q : ℕ → Bool) (n : ℕ) → ((k : ℕ) → P k ≡ true → Q k ≡ true) → count P n ≤ count Q n
unfolding count one
count-le P Q zero h = omega arith
count-le P Q (suc n) h = let e = count-le P Q n h in let o = one-le (P n) (Q n) (h n) in omega arith

count_within : (P : ℕ → Bool) (n : ℕ) → count P n ≤ n
unfolding count one
count_within P zero = omega arith
count_within P (suc n) = let e = count_within P n in let o = one-le (P n) true (λ _. refl) in omega arith

one_of : (a : Bool) → a ≡ true → one a ≡ 1
unfolding one
one_of true h = refl
one_of false h = cc

none_one : (a : Bool) → a ≡ false → one a ≡ 0
unfolding one
none_one false h = refl
none_one true h = cc

count-lt : (P Q : ℕ → Bool) (n j : ℕ) → ((k : ℕ) → P k ≡ true → Q k ≡ true) → j < n → P j ≡ false → Q j ≡ true → count P n < count Q n
unfolding count one
count-lt P Q zero j h lt fails passes = absurd (omega arith)
count-lt P Q (suc n) j h lt fails passes =
    elim (cases_lt j n) [
      | inl less ↦ let e = count-lt P Q n j h less fails passes in let o = one-le (P n) (Q n) (h n) in omega arith
      | inr le ↦
          let is : j ≡ n = omega arith in
          let e = count-le P Q n h in
          let a = none_one (P n) (subst (λ k. P k ≡ false) is fails) in
          let b = one_of (Q n) (subst (λ k. Q k ≡ true) is passes) in
          omega arith
    ]

counted_none : (n : ℕ) → count (λ _. false) n ≡ 0
unfolding count
counted_none zero = refl
counted_none (suc n) = let h = counted_none n in omega arith

-- ---- calls that are found

kept_by : (function : ℕ) (list : List Call) (start : List ℕ) (g : ℕ) → Contains start g → Contains (fold (with_call function) start list) g
kept_by function [] start g inside = inside
kept_by function (c ∷ list) start g inside = kept_by function list (with_call function start c) g (by (nat_eq c.caller function))
  where
    by : (b : Bool) → Contains (if b then start ++ c.callee ∷ [] else start) g
    by true = Contains-append_left start (c.callee ∷ []) g inside
    by false = inside

called_by : (function : ℕ) (list : List Call) (start : List ℕ) (x : Call) (k : ℕ) → k < length list → slice_index_or list k x ≡ x → x.caller ≡ function →
    Contains (fold (with_call function) start list) x.callee
called_by function [] start x k lt is same = absurd (omega arith)
called_by function (c ∷ list) start x zero lt is same =
    kept_by function list (with_call function start c) x.callee (by (nat_eq c.caller function) (ap (λ (y : Call). nat_eq y.caller function) is ∙ eq-eqb x.caller function same))
  where
    by : (b : Bool) → b ≡ true → Contains (if b then start ++ c.callee ∷ [] else start) x.callee
    by true h = Contains-append_right start (c.callee ∷ []) x.callee (0, omega arith, ap (λ (y : Call). y.callee) is)
    by false h = cc
called_by function (c ∷ list) start x (suc k) lt is same = called_by function list (with_call function start c) x k (omega arith) is same

mapped : (list : List CallSite) (s : CallSite) (k : ℕ) → k < length list → slice_index_or list k s ≡ s →
    (k < length (map c.call_of list)) × (slice_index_or (map c.call_of list) k (c.call_of s) ≡ c.call_of s)
mapped [] s k lt is = absurd (omega arith)
mapped (x ∷ list) s zero lt is = (omega arith, ap c.call_of is)
mapped (x ∷ list) s (suc k) lt is = let h = mapped list s k (omega arith) is in (omega arith, h.1)

-- ---- the graph

module _ (functions : List Function) (found : Findings) (leads : ℕ → ℕ → Bool)
    (decides : (from to : ℕ) → Decides (leads from to) ((from < length functions) × (to < length functions) × Leads (length functions) (map c.call_of found.calls) from to))
    (no_return : AllByRecursion (λ (s : CallSite). leads s.callee s.caller ≡ false) found.calls)
    (bodies : (number : ℕ) (code : Function) → slice_get functions number ≡ Some code → IsFound functions found number code) where
  abbrev Way : ℕ → ℕ → Type 0
  Way f g = Leads (length functions) (map c.call_of found.calls) f g

  one_call : (f g : ℕ) → Calls functions f g → Way f g
  one_call f g call =
      let found_at = (bodies f call.code call.found).calls g call.called in
      let site : CallSite = record { caller = f; callee = g; offset = found_at.0 } in
      let place = mapped found.calls site found_at.1.0 found_at.1.1 found_at.1.2 in
      Further Here g (called_by f (map c.call_of found.calls) [] (c.call_of site) found_at.1.0 place.0 place.1 refl) ((bodies f call.code call.found).inside g call.called)

  on : {f g h : ℕ} → Way f g → Way g h → Way f h
  on first Here = first
  on first (Further way h called inside) = Further (on first way) h called inside

  within : (f g : ℕ) → Calls functions f g → (f < length functions) × (g < length functions)
  within f g call = (slice_get_within functions f call.code call.found, (bodies f call.code call.found).inside g call.called)

  follows : (f g : ℕ) → Calls functions f g → (k : ℕ) → leads g k ≡ true → leads f k ≡ true
  follows f g call k h =
      let way = (decides g k).0 h in
      (decides f k).1 ((within f g call).0, way.1, on (one_call f g call) way.2)

  itself : (f : ℕ) → f < length functions → leads f f ≡ true
  itself f lt = (decides f f).1 (lt, lt, Here)

  back_free : (f g : ℕ) → Calls functions f g → leads g f ≡ false
  back_free f g call =
      let found_at = (bodies f call.code call.found).calls g call.called in
      all_at (λ (s : CallSite). leads s.callee s.caller ≡ false) found.calls (record { caller = f; callee = g; offset = found_at.0 }) no_return found_at.1

  rank : ℕ → ℕ
  rank f = count (leads f) (length functions) - 1

  rank_below : (f : ℕ) → f < length functions → rank f < length functions
  unfolding rank
  rank_below f lt = let h = count_within (leads f) (length functions) in omega arith

  some_counted : (f : ℕ) → f < length functions → 0 < count (leads f) (length functions)
  some_counted f lt =
      let h = count-lt (λ _. false) (leads f) (length functions) f (λ k h. cc) lt refl (itself f lt) in
      let z = counted_none (length functions) in
      omega arith

  rank_falls : (f g : ℕ) → Calls functions f g → rank g < rank f
  unfolding rank
  rank_falls f g call =
      let lt = within f g call in
      let h = count-lt (leads g) (leads f) (length functions) f (follows f g call) lt.0 (back_free f g call) (itself f lt.0) in
      let p = some_counted g lt.1 in
      omega arith

  pub acyclic : IsAcyclic functions
  acyclic = record { rank = rank; below = rank_below; falls = rank_falls }
