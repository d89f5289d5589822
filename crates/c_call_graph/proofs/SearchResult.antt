-- What a search finds: all that calls lead to, and nothing else.
use Rattle.std.proofs.Common.{◌≡◌, refl, sym, ap, ◌∙◌, subst, inl, inr, ℕ, zero, suc, ◌<◌, ◌≤◌, Bool, true, false, List, [], ◌∷◌, ◌++◌, length, arith}
use Rattle.std.specs.Prelude.{not, nat_lt, if◌then◌else◌, Option, Some, None, slice_get, unwrap_or, Contains}
use Rattle.std.specs.Bool.{Decides}
use Rattle.std.proofs.lemmas.Bool.{false≢true, and_parts, and_cases, not-true, not-false, cases_lt, ltb-true, lt-ltb}
use Rattle.std.proofs.lemmas.Option.{slice_get_within, slice_get_past, get_or_from_slice_get, none-some, same_Some}
use Rattle.std.proofs.lemmas.List.{length-append, length-replicate, length-set}
use Rattle.std.proofs.lemmas.List.Elements.{Contains-append_left, Contains-push}
use Rattle.lists.proofs.Places.{get_there, get_front}
use Rattle.c_call_graph.specs.declared.table.Call.{Call}
use Rattle.c_call_graph.specs.declared.search.Search.{Search}
use Rattle.c_call_graph.specs.Graphs.{callees, table, row, has, is_new, with_mark, marking, following, following_one, begun, turns, searched, marks_from, all_marks}
use Rattle.c_call_graph.specs.Reaching.{Leads, Here, Further, leads, IsReach}
use Rattle.c_call_graph.proofs.Marks.{at_Contains, has_inside, set_has, set_keeps}
use Rattle.c_call_graph.proofs.Marks.{set_back, none_has, count, count_none, count_few, count_set, each_length, each_at}

Contains_at : (xs : List ℕ) (k x : ℕ) → slice_get xs k ≡ Some x → Contains xs x
Contains_at xs k x is = (k, slice_get_within xs k x is, get_or_from_slice_get xs k x x is)

-- ---- what a step keeps

record Keeps (s t : Search) : Type 0 where
  size : length t.marks ≡ length s.marks
  marks : (h : ℕ) → has s.marks h ≡ true → has t.marks h ≡ true
  found : (k x : ℕ) → slice_get s.found k ≡ Some x → slice_get t.found k ≡ Some x

keeps_all : (s : Search) → Keeps s s
keeps_all s = record { size = refl; marks = λ h is. is; found = λ k x is. is }

keeps_both : (s t u : Search) → Keeps s t → Keeps t u → Keeps s u
keeps_both s t u a b = record {
  size = b.size ∙ a.size;
  marks = λ h is. b.marks h (a.marks h is);
  found = λ k x is. b.found k x (a.found k x is);
}

choose_keeps : (s : Search) (f : ℕ) (b : Bool) → Keeps s (if b then with_mark s f else s)
choose_keeps s f true = record {
  size = length-set s.marks f true;
  marks = λ h is. set_keeps s.marks f h is;
  found = λ k x is. get_front s.found (f ∷ []) k x is;
}
choose_keeps s f false = keeps_all s

marking_keeps : (s : Search) (f : ℕ) → Keeps s (marking s f)
marking_keeps s f = choose_keeps s f (is_new s f)

following_keeps : (callees : List ℕ) (s : Search) → Keeps s (following s callees)
following_keeps [] s = keeps_all s
following_keeps (c ∷ cs) s = keeps_both s (marking s c) (following (marking s c) cs) (marking_keeps s c) (following_keeps cs (marking s c))

-- ---- what is followed is found

choose_has : (s : Search) (f : ℕ) (b : Bool) → is_new s f ≡ b → f < length s.marks → has (if b then with_mark s f else s).marks f ≡ true
choose_has s f true is lt = set_has s.marks f lt
choose_has s f false is lt =
    elim (and_cases (nat_lt f (length s.marks)) (not (has s.marks f)) is) [
      | inl out ↦ absurd (false≢true (sym out ∙ lt-ltb f (length s.marks) lt))
      | inr old ↦ not-false (has s.marks f) old
    ]

marking_has : (s : Search) (f : ℕ) → f < length s.marks → has (marking s f).marks f ≡ true
marking_has s f lt = choose_has s f (is_new s f) refl lt

following_has : (callees : List ℕ) (s : Search) (k h : ℕ) → slice_get callees k ≡ Some h → h < length s.marks →
    has (following s callees).marks h ≡ true
following_has [] s k h at lt = absurd (none-some h at)
following_has (c ∷ cs) s zero h at lt =
    let is = same_Some c h at in
    (following_keeps cs (marking s c)).marks h (subst (λ x. has (marking s c).marks x ≡ true) is (marking_has s c (subst (λ x. x < length s.marks) (sym is) lt)))
following_has (c ∷ cs) s (suc k) h at lt =
    following_has cs (marking s c) k h at (subst (λ n. h < n) (sym (marking_keeps s c).size) lt)

-- ---- what is marked is found, and for a reason

module _ (P : ℕ → Type 0) where
  record Sound (s : Search) : Type 0 where
    marked : (h : ℕ) → has s.marks h ≡ true → Contains s.found h
    reason : (k h : ℕ) → slice_get s.found k ≡ Some h → P h

  push_reason : (xs : List ℕ) (f : ℕ) → ((k h : ℕ) → slice_get xs k ≡ Some h → P h) → P f → (k h : ℕ) → slice_get (xs ++ f ∷ []) k ≡ Some h → P h
  push_reason [] f each here zero h at = subst P (same_Some f h at) here
  push_reason [] f each here (suc k) h at = absurd (none-some h at)
  push_reason (x ∷ xs) f each here zero h at = each zero h at
  push_reason (x ∷ xs) f each here (suc k) h at = push_reason xs f (λ j y is. each (suc j) y is) here k h at

  choose_sound : (s : Search) (f : ℕ) (b : Bool) → is_new s f ≡ b → Sound s → (f < length s.marks → P f) → Sound (if b then with_mark s f else s)
  choose_sound s f true is sound here =
      let inside = ltb-true f (length s.marks) (and_parts (nat_lt f (length s.marks)) (not (has s.marks f)) is).0 in
      record {
        marked = λ h at. elim (set_back s.marks f h at) [
          | inl same ↦ subst (λ x. Contains (s.found ++ f ∷ []) x) same (Contains-push s.found f)
          | inr was ↦ Contains-append_left s.found (f ∷ []) h (sound.marked h was)
        ];
        reason = push_reason s.found f sound.reason (here inside);
      }
  choose_sound s f false is sound here = sound

  marking_sound : (s : Search) (f : ℕ) → Sound s → (f < length s.marks → P f) → Sound (marking s f)
  marking_sound s f sound here = choose_sound s f (is_new s f) refl sound here

  following_sound : (callees : List ℕ) (s : Search) → Sound s → ((k h : ℕ) → slice_get callees k ≡ Some h → h < length s.marks → P h) → Sound (following s callees)
  following_sound [] s sound here = sound
  following_sound (c ∷ cs) s sound here =
      following_sound cs (marking s c) (marking_sound s c sound (here zero c refl))
      (λ k h at lt. here (suc k) h at (subst (λ n. h < n) (marking_keeps s c).size lt))

-- ---- as many are found as are marked

abbrev IsCounted : Search → Type 0
IsCounted s = length s.found ≡ count s.marks

choose_counted : (s : Search) (f : ℕ) (b : Bool) → is_new s f ≡ b → IsCounted s → IsCounted (if b then with_mark s f else s)
choose_counted s f true is so =
    let parts = and_parts (nat_lt f (length s.marks)) (not (has s.marks f)) is in
    let inside = ltb-true f (length s.marks) parts.0 in
    let more = count_set s.marks f inside (not-true (has s.marks f) parts.1) in
    let longer = length-append s.found (f ∷ []) in
    omega (arith, more, longer, so)
choose_counted s f false is so = so

marking_counted : (s : Search) (f : ℕ) → IsCounted s → IsCounted (marking s f)
marking_counted s f so = choose_counted s f (is_new s f) refl so

following_counted : (callees : List ℕ) (s : Search) → IsCounted s → IsCounted (following s callees)
following_counted [] s so = so
following_counted (c ∷ cs) s so = following_counted cs (marking s c) (marking_counted s c so)

-- ---- the turns

module _ (functions : ℕ) (calls : List Call) (root : ℕ) (rooted : root < functions) where
  abbrev rows : List (List ℕ)
  rows = table calls functions

  abbrev Way : ℕ → Type 0
  Way f = Leads functions calls root f

  row_is : (f : ℕ) → f < functions → row rows f ≡ callees calls f
  row_is f lt = ap (λ o. unwrap_or o []) (each_at (callees calls) functions f lt)

  way_inside : (f : ℕ) → Way f → f < functions
  way_inside _ Here = rooted
  way_inside _ (Further way h called inside) = inside

  record So_far (i : ℕ) (s : Search) : Type 0 where
    size : length s.marks ≡ functions
    begun_at : has s.marks root ≡ true
    counted : IsCounted s
    sound : Sound Way s
    closed : (k f h : ℕ) → k < i → slice_get s.found k ≡ Some f → Contains (row rows f) h → h < functions → has s.marks h ≡ true

  begins : So_far zero (marking (begun (length rows)) root)
  begins =
      let s = begun (length rows) in
      let size = length-replicate (length rows) false ∙ each_length (callees calls) functions in
      let none : Sound Way s = record {
        marked = λ h is. absurd (false≢true (sym (none_has (length rows) h) ∙ is));
        reason = λ k h is. absurd (none-some h is);
      } in
      record {
        size = (marking_keeps s root).size ∙ size;
        begun_at = marking_has s root (subst (λ n. root < n) (sym size) rooted);
        counted = marking_counted s root (sym (count_none (length rows)));
        sound = marking_sound Way s root none (λ inside. Here);
        closed = λ k f h lt is c inside. absurd (omega arith);
      }

  earlier : (i : ℕ) (s : Search) (g : ℕ) → slice_get s.found i ≡ Some g → So_far i s → (k f h : ℕ) → k < i →
      slice_get (following s (row rows g)).found k ≡ Some f → Contains (row rows f) h → h < functions →
      has (following s (row rows g)).marks h ≡ true
  earlier i s g at so k f h less is c inside =
      let keeps = following_keeps (row rows g) s in
      let long = slice_get_within s.found i g at in
      let old = get_there s.found k (omega (arith, less, long)) in
      let same = same_Some f old.0 (sym is ∙ keeps.found k old.0 old.1) in
      keeps.marks h (so.closed k old.0 h less old.1 (subst (λ x. Contains (row rows x) h) same c) inside)

  turn_keeps : (i : ℕ) (s : Search) (o : Option ℕ) → slice_get s.found i ≡ o → So_far i s → So_far (suc i) (following_one rows s o)
  turn_keeps i s None at so = record {
    size = so.size;
    begun_at = so.begun_at;
    counted = so.counted;
    sound = so.sound;
    closed = λ k f h lt is c inside. elim (cases_lt k i) [
      | inl less ↦ so.closed k f h less is c inside
      | inr le ↦ let same : i ≡ k = omega arith in absurd (none-some f (sym at ∙ subst (λ j. slice_get s.found j ≡ Some f) (sym same) is))
    ];
  }
  turn_keeps i s (Some g) at so =
      let cs = row rows g in
      let t = following s cs in
      let keeps = following_keeps cs s in
      let way = so.sound.reason i g at in
      let is_row = row_is g (way_inside g way) in
      record {
        size = keeps.size ∙ so.size;
        begun_at = keeps.marks root so.begun_at;
        counted = following_counted cs s so.counted;
        sound = following_sound Way cs s so.sound (λ k h is lt.
            Further way h (subst (λ l. Contains l h) is_row (Contains_at cs k h is)) (subst (λ n. h < n) so.size lt));
        closed = λ k f h lt is c inside. elim (cases_lt k i) [
          | inl less ↦ earlier i s g at so k f h less is c inside
          | inr le ↦
              let same : k ≡ i = omega arith in
              let is_g = same_Some g f (sym (keeps.found i g at) ∙ subst (λ j. slice_get t.found j ≡ Some f) same is) in
              let found = at_Contains cs h (subst (λ x. Contains (row rows x) h) (sym is_g) c) in
              following_has cs s found.0 h found.1 (subst (λ n. h < n) (sym so.size) inside)
        ];
      }

  goes : (i : ℕ) → So_far i (turns rows root i)
  goes zero = begins
  goes (suc i) = let s = turns rows root i in turn_keeps i s (slice_get s.found i) refl (goes i)

  -- ---- at the end

  last : So_far (length rows) (searched rows root)
  last = goes (length rows)

  pub marks_size : length (searched rows root).marks ≡ functions
  marks_size = last.size

  -- no search finds more than all functions
  few : length (searched rows root).found ≤ length rows
  few =
      let marked = count_few (searched rows root).marks in
      let counted = last.counted in
      let size = last.size in
      let whole = each_length (callees calls) functions in
      omega (arith, marked, counted, size, whole)

  found_all : (h : ℕ) → Way h → has (searched rows root).marks h ≡ true
  found_all _ Here = last.begun_at
  found_all _ (Further {g = g} way h called inside) =
      let at = at_Contains (searched rows root).found g (last.sound.marked g (found_all g way)) in
      let within = slice_get_within (searched rows root).found at.0 g at.1 in
      last.closed at.0 g h (omega (arith, within, few)) at.1
      (subst (λ l. Contains l h) (sym (row_is g (way_inside g way))) called) inside

  pub found_exactly : (h : ℕ) → Decides (has (searched rows root).marks h) (Way h)
  found_exactly h = (λ is. let at = at_Contains (searched rows root).found h (last.sound.marked h is) in last.sound.reason at.0 h at.1, found_all h)

-- ---- the whole table

module _ (functions : ℕ) (calls : List Call) where
  abbrev marks : List (List Bool)
  marks = all_marks (table calls functions) functions

  abbrev Leading : ℕ → ℕ → Type 0
  Leading from to = (from < functions) × (to < functions) × Leads functions calls from to

  within : (from to : ℕ) → from < functions → Decides (leads marks from to) (Leading from to)
  within from to inside =
      let at = each_at (marks_from (table calls functions)) functions from inside in
      let row_at : leads marks from to ≡ has (marks_from (table calls functions) from) to = ap (λ o. has (unwrap_or o []) to) at in
      let s = searched (table calls functions) from in
      let exact = found_exactly functions calls from inside to in (
        λ is. let marked = sym row_at ∙ is in
            (inside, subst (λ n. to < n) (marks_size functions calls from inside) (has_inside s.marks to marked), exact.0 marked),
        λ way. row_at ∙ exact.1 way.2,
      )

  outside : (from to : ℕ) → functions ≤ from → Decides (leads marks from to) (Leading from to)
  outside from to out =
      let size = each_length (marks_from (table calls functions)) functions in
      let none = slice_get_past marks from (subst (λ n. n ≤ from) (sym size) out) in
      let unmarked : leads marks from to ≡ false = ap (λ o. has (unwrap_or o []) to) none in
      (λ is. absurd (false≢true (sym unmarked ∙ is)), λ way. absurd (omega (arith, way.0, out)))

  pub is_reach : IsReach functions calls (all_marks (table calls functions) functions)
  is_reach from to = elim (cases_lt from functions) [ inl inside ↦ within from to inside | inr out ↦ outside from to out ]

pub of_marks : (functions : ℕ) (calls : List Call) (found : List (List Bool)) → found ≡ all_marks (table calls functions) functions → IsReach functions calls found
of_marks functions calls found same = subst (λ r. IsReach functions calls r) (sym same) (is_reach functions calls)
