-- The comparisons of a switch.
use Rattle.std.proofs.Common.{◌≡◌, ℕ, suc, ◌+◌, ◌-◌, ◌<◌, ◌≤◌, Bool, true, false, ◌&&◌, List, [], ◌∷◌, ◌++◌, length, ℤ, pos, negsuc, Option, Some, None, refl, sym, ap, ◌∙◌, subst, arith}
use Rattle.std.proofs.Common.{length-append, inl, inr, ⊎_elim}
use Rattle.std.specs.Prelude.{if◌then◌else◌, slice_get, int_le, unwrap_or, ◌⊎◌}
use Rattle.std.specs.Option.{option_or}
use Rattle.hls_ints.specs.Types.{IntegerType, HasType, long_int, wrapped}
use Rattle.hls_ints.proofs.Conversions.{wrapped-same, wrapped-range}
use Rattle.thread_semantics.specs.Work.{Work, same_label}
use Rattle.code_blocks.specs.declared.homes.Home.{Home}
use Rattle.code_blocks.specs.Typing.{Typing}
use Rattle.code_blocks.proofs.Conversions.{from_word}
use Rattle.code_places.specs.declared.lowering.Lowering.{Lowering}
use Rattle.code_places.specs.Apart.{room, IsTypedNow, IsGood}
use Rattle.code_places.specs.Resuming.{Keeping, AtFresh}
use Rattle.code_places.specs.Control.{Compares, Whole, IsIn, GoesOn}
use Rattle.code_places.specs.declared.stages.Stages.{Stages}
use Rattle.code_places.specs.declared.targets.Loop.{Loop}
use Rattle.code_places.specs.Doing.{Grows, Proceeds}
use Rattle.code_places.proofs.CodeGrowth.{grows_refl, grows_both}
use Rattle.code_places.specs.Labels.{is_used, IsOpen}
use Rattle.code_places.proofs.OpenParts.{proceeds_refl, proceeds_both}
use Rattle.code_places.proofs.Comparisons.{compares_grows, busy_compares_typed, idle_compares_typed, compares_site, compares_reached, compares_marks, compares_fresh, other_at, compares_known}
use Rattle.code_places.proofs.Comparisons.{compares_none, compares_labels, compares_some, compares_advance, compares_proceeds}
use Rattle.ir_lower.specs.declared.labels.Cases.{Cases}
use Rattle.ir_lower.specs.Switching.{compared, default_label, default_after, AreCases, case_count, Comparisons, AreOpen, AreCompared}

-- a value and a label's as longs are equal where they are
longs_same : (ty : IntegerType) (v c : ℤ) → HasType ty v → HasType ty c → wrapped long_int v ≡ wrapped long_int c → v ≡ c
longs_same ty v c is case_ same = sym (wrapped-same ty v is) ∙ from_word ty v c same ∙ wrapped-same ty c case_

pub comparisons_grow : (x : ℕ) (labels : List (Option ℤ)) (l : ℕ) (old new : Lowering) → Comparisons x labels l old new → Grows old new
comparisons_grow x [] l old new is = subst (Grows old) (sym is) (grows_refl old)
comparisons_grow x (None ∷ labels) l old new is = comparisons_grow x labels (suc l) old new is
comparisons_grow x (Some v ∷ labels) l old new is =
    grows_both old is.0 new (compares_grows x (wrapped long_int v) l old is.0 is.1) (comparisons_grow x labels (suc l) is.0 new is.2)

pub comparisons_site : (x : ℕ) (labels : List (Option ℤ)) (l : ℕ) (old new : Lowering) → Comparisons x labels l old new → new.site ≡ old.site
comparisons_site x [] l old new is = ap (λ (z : Lowering). z.site) is
comparisons_site x (None ∷ labels) l old new is = comparisons_site x labels (suc l) old new is
comparisons_site x (Some v ∷ labels) l old new is =
    comparisons_site x labels (suc l) is.0 new is.2 ∙ compares_site x (wrapped long_int v) l old is.0 is.1

pub comparisons_reached : (x : ℕ) (labels : List (Option ℤ)) (l : ℕ) (old new : Lowering) → Comparisons x labels l old new → old.reached ≡ true → new.reached ≡ true
comparisons_reached x [] l old new is on = ap (λ (z : Lowering). z.reached) is ∙ on
comparisons_reached x (None ∷ labels) l old new is on = comparisons_reached x labels (suc l) old new is on
comparisons_reached x (Some v ∷ labels) l old new is on =
    comparisons_reached x labels (suc l) is.0 new is.2 (compares_reached x (wrapped long_int v) l old is.0 is.1)

-- a block is left with no more operations than there were
pub comparisons_few : (x : ℕ) (labels : List (Option ℤ)) (l : ℕ) (old new : Lowering) → Comparisons x labels l old new → length new.block.operations ≤ length old.block.operations
comparisons_few x [] l old new is = (let e = ap (λ (z : Lowering). length z.block.operations) is in omega (arith, e))
comparisons_few x (None ∷ labels) l old new is = comparisons_few x labels (suc l) old new is
comparisons_few x (Some v ∷ labels) l old new is =
    let rest = comparisons_few x labels (suc l) is.0 new is.2 in
    let none = ap length (compares_none x (wrapped long_int v) l old is.0 is.1) in
    omega (arith, rest, none)

-- there are no fewer labels
pub comparisons_labels : (x : ℕ) (labels : List (Option ℤ)) (l : ℕ) (old new : Lowering) → Comparisons x labels l old new → length old.stages.labels ≤ length new.stages.labels
comparisons_labels x [] l old new is = (let e = ap (λ (z : Lowering). length z.stages.labels) is in omega (arith, e))
comparisons_labels x (None ∷ labels) l old new is = comparisons_labels x labels (suc l) old new is
comparisons_labels x (Some v ∷ labels) l old new is =
    let rest = comparisons_labels x labels (suc l) is.0 new is.2 in
    let more = compares_labels x (wrapped long_int v) l old is.0 is.1 in
    omega (arith, rest, more)

-- those of two lists, one after the other
comparisons_append : (x : ℕ) (xs ys : List (Option ℤ)) (l : ℕ) (old mid new : Lowering) → Comparisons x xs l old mid → Comparisons x ys (l + length xs) mid new → Comparisons x (xs ++ ys) l old new
comparisons_append x [] ys l old mid new first rest =
    subst (λ n. Comparisons x ys n old new) (let e : l + 0 ≡ l = omega arith in e) (subst (λ (z : Lowering). Comparisons x ys (l + 0) z new) first rest)
comparisons_append x (None ∷ xs) ys l old mid new first rest =
    comparisons_append x xs ys (suc l) old mid new first (subst (λ n. Comparisons x ys n mid new) (let e : l + suc (length xs) ≡ suc l + length xs = omega arith in e) rest)
comparisons_append x (Some v ∷ xs) ys l old mid new first rest = (
  first.0,
  first.1,
  comparisons_append x xs ys (suc l) first.0 mid new first.2 (subst (λ n. Comparisons x ys n mid new) (let e : l + suc (length xs) ≡ suc l + length xs = omega arith in e) rest),
)

default_append : (before : Option ℕ) (xs ys : List (Option ℤ)) (l : ℕ) → default_after before (xs ++ ys) l ≡ default_after (default_after before xs l) ys (l + length xs)
default_append before [] ys l = ap (default_after before ys) (let e : l ≡ l + 0 = omega arith in e)
default_append before (None ∷ xs) ys l =
    default_append (option_or before (Some l)) xs ys (suc l)
    ∙ ap (default_after (default_after (option_or before (Some l)) xs (suc l)) ys) (let e : suc l + length xs ≡ l + suc (length xs) = omega arith in e)
default_append before (Some v ∷ xs) ys l =
    default_append before xs ys (suc l) ∙ ap (default_after (default_after before xs (suc l)) ys) (let e : suc l + length xs ≡ l + suc (length xs) = omega arith in e)

default_kept : (d : ℕ) (labels : List (Option ℤ)) (l : ℕ) → default_after (Some d) labels l ≡ Some d
default_kept d [] l = refl
default_kept d (None ∷ labels) l = default_kept d labels (suc l)
default_kept d (Some v ∷ labels) l = default_kept d labels (suc l)

-- the label where it is gone on if no case is met
pub default_is : (labels : List (Option ℤ)) (l past : ℕ) → unwrap_or (default_after None labels l) past ≡ default_label labels l past
default_is [] l past = refl
default_is (None ∷ labels) l past = ap (λ o. unwrap_or o past) (default_kept l labels (suc l))
default_is (Some v ∷ labels) l past = default_is labels (suc l) past

-- it is one of them, or the one past the switch
pub default_within : (labels : List (Option ℤ)) (l past : ℕ) → past < l → (past ≤ default_label labels l past) × (default_label labels l past < l + length labels)
default_within [] l past below = (omega arith, omega (arith, below))
default_within (None ∷ labels) l past below = (omega (arith, below), omega arith)
default_within (Some v ∷ labels) l past below =
    let rest = default_within labels (suc l) past (omega (arith, below)) in
    let low = rest.0 in
    let high = rest.1 in
    (low, omega (arith, high))

-- what is compared

pub compared_none : (x : ℕ) (cases : Cases) (c : Lowering) → AreCompared x [] cases cases c c
compared_none x cases c = record { comparisons = refl; next = omega arith; default = refl }

pub default_compared : (x : ℕ) (cases after : Cases) (c : Lowering) → after.next ≡ suc cases.next → after.default ≡ option_or cases.default (Some cases.next) → AreCompared x (None ∷ []) cases after c c
default_compared x cases after c next default = record { comparisons = refl; next = next ∙ (omega arith); default = default }

pub case_compared : (x : ℕ) (v value : ℤ) (cases after : Cases) (old new : Lowering) → value ≡ wrapped long_int v → after.next ≡ suc cases.next → after.default ≡ cases.default →
    Compares x value cases.next old new → AreCompared x (Some v ∷ []) cases after old new
case_compared x v value cases after old new is next default compares =
    record { comparisons = (new, subst (λ u. Compares x u cases.next old new) is compares, refl); next = next ∙ (omega arith); default = default }

pub compared_both : (x : ℕ) (labels xs ys : List (Option ℤ)) (first mid last : Cases) (a b c : Lowering) → labels ≡ xs ++ ys → AreCompared x xs first mid a b → AreCompared x ys mid last b c →
    AreCompared x labels first last a c
compared_both x labels xs ys first mid last a b c is h k = subst (λ ls. AreCompared x ls first last a c) (sym is) (record {
  comparisons = comparisons_append x xs ys first.next a b c h.comparisons (subst (λ n. Comparisons x ys n b c) h.next k.comparisons);
  next = (let e = h.next in let f = k.next in let n = length-append xs ys in omega (arith, e, f, n));
  default =
      k.default ∙ ap (λ o. default_after o ys mid.next) h.default ∙ ap (default_after (default_after first.default xs first.next) ys) h.next
      ∙ sym (default_append first.default xs ys first.next);
})

-- ---- labels get no places, and the first block ends

-- so many labels, without the first
pub open_later : (l n : ℕ) (s : Stages) → AreOpen l (suc n) s → AreOpen (suc l) n s
open_later l n s open_ = λ label low high. open_ label (omega (arith, low)) (omega (arith, high))

pub comparisons_proceed : (x : ℕ) (labels : List (Option ℤ)) (l : ℕ) (old new : Lowering) → Comparisons x labels l old new → AreOpen l (length labels) old.stages → old.reached ≡ true →
    (old.block.steps ≡ 0 → (old.block.operations ≡ []) × (0 < length old.stages.stages.items)) → (around : Option Loop) → Proceeds around old new
comparisons_proceed x [] l old new is open_ on rest around = subst (Proceeds around old) (sym is) (proceeds_refl around old)
comparisons_proceed x (None ∷ labels) l old new is open_ on rest around = comparisons_proceed x labels (suc l) old new is (open_later l (length labels) old.stages open_) on rest around
comparisons_proceed x (Some v ∷ labels) l old new is open_ on rest around =
    let mid = is.0 in
    let value = wrapped long_int v in
    let first = compares_proceeds x value l old mid is.1 (λ idle. ((rest idle).0, (rest idle).1, open_ l (omega arith) (omega arith))) on around in
    proceeds_both around old mid new first
    (comparisons_proceed x labels (suc l) mid new is.2
    (λ label low high. first.advances.open_ label (λ m. m) (open_later l (length labels) old.stages open_ label low high))
    (compares_reached x value l old mid is.1)
    (λ idle. (compares_none x value l old mid is.1, compares_some x value l old mid is.1))
    around)

-- there is a stage, or a block that does a step
pub comparisons_some : (x : ℕ) (labels : List (Option ℤ)) (l : ℕ) (old new : Lowering) → Comparisons x labels l old new → AreOpen l (length labels) old.stages → old.reached ≡ true →
    (0 < old.block.steps) ⊎ ((old.block.operations ≡ []) × (0 < length old.stages.stages.items)) → (0 < new.block.steps) ⊎ (0 < length new.stages.stages.items)
comparisons_some x [] l old new is open_ on some = ⊎_elim
    (λ busy. inl (let e = ap (λ (z : Lowering). z.block.steps) is in omega (arith, busy, e)))
    (λ done. inr (let e = ap (λ (z : Lowering). length z.stages.stages.items) is in let lt = done.1 in omega (arith, lt, e)))
    some
comparisons_some x (None ∷ labels) l old new is open_ on some = comparisons_some x labels (suc l) old new is (open_later l (length labels) old.stages open_) on some
comparisons_some x (Some v ∷ labels) l old new is open_ on some =
    let mid = is.0 in
    let value = wrapped long_int v in
    let may : old.block.steps ≡ 0 → (old.block.operations ≡ []) × (0 < length old.stages.stages.items) × IsOpen l old.stages =
    λ idle. ⊎_elim (λ busy. absurd (omega (arith, busy, idle))) (λ done. (done.0, done.1, open_ l (omega arith) (omega arith))) some in
    comparisons_some x labels (suc l) mid new is.2
    (λ label low high. (compares_advance x value l old mid is.1 may).open_ label (λ m. m) (open_later l (length labels) old.stages open_ label low high))
    (compares_reached x value l old mid is.1)
    (inr (compares_none x value l old mid is.1, compares_some x value l old mid is.1))

int_le_refl : (a : ℤ) → (int_le a a && int_le a a) ≡ true
int_le_refl (pos n) = grind arith
int_le_refl (negsuc n) = grind arith

int_le_antisym : (a b : ℤ) → (int_le a b && int_le b a) ≡ true → a ≡ b
int_le_antisym (pos m) (pos n) h = let e : m ≡ n = grind arith in ap pos e
int_le_antisym (pos m) (negsuc n) h = absurd cc
int_le_antisym (negsuc m) (pos n) h = absurd cc
int_le_antisym (negsuc m) (negsuc n) h = let e : m ≡ n = grind arith in ap negsuc e

-- the comparison tells what the labels tell
tells_same : (ty : IntegerType) (v c : ℤ) → HasType ty v → HasType ty c → same_label (Some (wrapped long_int v)) (Some (wrapped long_int c)) ≡ same_label (Some v) (Some c)
tells_same ty v c is case_ = by (same_label (Some v) (Some c)) refl (same_label (Some (wrapped long_int v)) (Some (wrapped long_int c))) refl
  where
    by : (t : Bool) → same_label (Some v) (Some c) ≡ t → (u : Bool) → same_label (Some (wrapped long_int v)) (Some (wrapped long_int c)) ≡ u → u ≡ t
    by true e true d = refl
    by false e false d = refl
    by true e false d = absurd (let same = int_le_antisym v c e in
        let yes = int_le_refl (wrapped long_int v) in
        let also : (int_le (wrapped long_int v) (wrapped long_int c) && int_le (wrapped long_int c) (wrapped long_int v)) ≡ true =
        subst (λ z. (int_le (wrapped long_int v) (wrapped long_int z) && int_le (wrapped long_int z) (wrapped long_int v)) ≡ true) same yes in
        let wrong : true ≡ false = sym also ∙ d in cc)
    by false e true d = absurd (let same = longs_same ty v c is case_ (int_le_antisym (wrapped long_int v) (wrapped long_int c) d) in
        let also : (int_le v c && int_le c v) ≡ true = subst (λ z. (int_le v z && int_le z v) ≡ true) same (int_le_refl v) in
        let wrong : true ≡ false = sym also ∙ e in cc)

module _ (W : Whole) (homes : List Home) (size : ℕ) (k : List Work) (x : ℕ) (ty : IntegerType) (v : ℤ) (typed : HasType ty v) where
  -- the variable holds the value
  abbrev pub Kept : Keeping
  Kept = λ variables kept. wrapped long_int (variables x) ≡ wrapped long_int v

  pub comparisons_go : (n : ℕ) (labels : List (Option ℤ)) (l other : ℕ) (old new : Lowering) → Comparisons x labels l old new → AreCases ty labels → IsGood size old → IsIn W new →
      ((j : ℕ) → j ≤ n → AtFresh W.setting homes Kept j (W.stage_of (compared v labels l other)) k) →
      ((j : ℕ) → j ≤ n → compared v labels l other ≡ other → GoesOn W homes Kept j new k) → GoesOn W homes Kept n old k
  comparisons_go n [] l other old new is cases good whole at on = subst (λ (z : Lowering). GoesOn W homes Kept n z k) is (on n (omega arith) refl)
  comparisons_go n (None ∷ labels) l other old new is cases good whole at on = comparisons_go n labels (suc l) other old new is cases good whole at on
  comparisons_go n (Some c ∷ labels) l other old new is cases good whole at on =
      let mid = is.0 in
      let grows = compares_grows x (wrapped long_int c) l old mid is.1 in
      let whole_mid = (comparisons_grow x labels (suc l) mid new is.2).whole W whole in
      compares_known x (wrapped long_int c) l old mid is.1 W homes Kept size n k good.sound whole_mid (wrapped long_int v) (λ variables kept e. e) (wrapped-range long_int c)
      (λ j lt.
      subst (λ t. AtFresh W.setting homes Kept j (W.stage_of (if t then l else is.1.other)) k) (sym (tells_same ty v c typed cases.0))
      (by (same_label (Some v) (Some c)) j lt (λ i le. at i (omega (arith, le, lt)))
      (λ to.
      other_at x (wrapped long_int c) l old mid is.1 W homes Kept size j k good.sound
      (comparisons_go j labels (suc l) other mid new is.2 cases.1 (grows.good size good) whole (λ i le. to.0 i le) (λ i le e. to.1 i le e)))
      (λ i le. on i (omega (arith, le, lt)))))
    where
      by : (t : Bool) (j : ℕ) → j < n → ((i : ℕ) → i ≤ j → AtFresh W.setting homes Kept i (W.stage_of (if t then l else compared v labels (suc l) other)) k) →
          ((((i : ℕ) → i ≤ j → AtFresh W.setting homes Kept i (W.stage_of (compared v labels (suc l) other)) k)
          × ((i : ℕ) → i ≤ j → compared v labels (suc l) other ≡ other → GoesOn W homes Kept i new k)) → AtFresh W.setting homes Kept j (W.stage_of is.1.other) k) →
          ((i : ℕ) → i ≤ j → (if t then l else compared v labels (suc l) other) ≡ other → GoesOn W homes Kept i new k) →
          AtFresh W.setting homes Kept j (W.stage_of (if t then l else is.1.other)) k
      by true j lt here rest behind = here j (omega arith)
      by false j lt here rest behind = rest (here, behind)

-- each label that a comparison leads to is led to, in what comes behind
pub compared_used : (x : ℕ) (labels : List (Option ℤ)) (l other : ℕ) (v : ℤ) (old new : Lowering) (used : List Bool) → Comparisons x labels l old new →
    ((label : ℕ) → is_used new.stages.used label ≡ true → is_used used label ≡ true) → is_used used other ≡ true → is_used used (compared v labels l other) ≡ true
compared_used x [] l other v old new used is more last = last
compared_used x (None ∷ labels) l other v old new used is more last = compared_used x labels (suc l) other v old new used is more last
compared_used x (Some c ∷ labels) l other v old new used is more last =
    by (same_label (Some v) (Some c)) (compared_used x labels (suc l) other v is.0 new used is.2 more last)
    (more l ((comparisons_grow x labels (suc l) is.0 new is.2).used l (compares_marks x (wrapped long_int c) l old is.0 is.1)))
  where
    by : (t : Bool) → is_used used (compared v labels (suc l) other) ≡ true → is_used used l ≡ true → is_used used (if t then l else compared v labels (suc l) other) ≡ true
    by true rest here = here
    by false rest here = rest

-- ---- types: a unit for each comparison behind the first, which stands in the block of the switch's step

module _ (S : Typing) (x size : ℕ) (variable : slice_get S.types.variables x ≡ Some long_int) where
  -- blocks of their own
  idle_typed : (w : ℕ) (labels : List (Option ℤ)) (l : ℕ) (old new : Lowering) → Comparisons x labels l old new → IsGood size old → old.block.steps ≡ 0 → IsTypedNow S w old →
      IsTypedNow S (w + case_count labels) new
  idle_typed w [] l old new is good none now = subst (λ (z : Lowering). IsTypedNow S (w + 0) z) (sym is) (subst (λ m. IsTypedNow S m old) (let e : w ≡ w + 0 = omega arith in e) now)
  idle_typed w (None ∷ labels) l old new is good none now = idle_typed w labels (suc l) old new is good none now
  idle_typed w (Some c ∷ labels) l old new is good none now =
      let mid = is.0 in
      let no = ap length (good.sound.fresh none).operations in
      let few = now.idle in
      let at_mid = idle_compares_typed x (wrapped long_int c) l old mid is.1 S w size variable (wrapped-range long_int c) good now (omega (arith, no, few)) none in
      let good_mid = (compares_grows x (wrapped long_int c) l old mid is.1).good size good in
      subst (λ m. IsTypedNow S m new) (let e : w + 1 + case_count labels ≡ w + suc (case_count labels) = omega arith in e)
      (idle_typed (w + 1) labels (suc l) mid new is.2 good_mid (compares_fresh x (wrapped long_int c) l old mid is.1 size good.sound).steps at_mid)

  pub comparisons_typed : (w : ℕ) (labels : List (Option ℤ)) (l : ℕ) (old new : Lowering) → Comparisons x labels l old new → IsGood size old → 0 < old.block.steps → IsTypedNow S w old →
      length old.block.operations + 1 ≤ room w old → IsTypedNow S (w + (case_count labels - 1)) new
  comparisons_typed w [] l old new is good busy now fits =
      subst (λ (z : Lowering). IsTypedNow S (w + (0 - 1)) z) (sym is) (subst (λ m. IsTypedNow S m old) (let e : w ≡ w + (0 - 1) = omega arith in e) now)
  comparisons_typed w (None ∷ labels) l old new is good busy now fits = comparisons_typed w labels (suc l) old new is good busy now fits
  comparisons_typed w (Some c ∷ labels) l old new is good busy now fits =
      let mid = is.0 in
      let at_mid = busy_compares_typed x (wrapped long_int c) l old mid is.1 S w size variable (wrapped-range long_int c) good now fits busy in
      let good_mid = (compares_grows x (wrapped long_int c) l old mid is.1).good size good in
      subst (λ m. IsTypedNow S m new) (let e : w + case_count labels ≡ w + (suc (case_count labels) - 1) = omega arith in e)
      (idle_typed w labels (suc l) mid new is.2 good_mid (compares_fresh x (wrapped long_int c) l old mid is.1 size good.sound).steps at_mid)
