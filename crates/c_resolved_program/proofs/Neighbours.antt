-- What holds of each of some statements, or of one of them, holds of the statement that they are one after another.
use Rattle.std.proofs.Common.{◌≡◌, ◌∙◌, refl, sym, inl, inr, ℕ, zero, suc, Bool, true, false, List, [], ◌∷◌, ◌++◌, length, Option, Some, None, ◌<◌, ◌≤◌, leb-true, le-leb, arith}
use Rattle.std.specs.Prelude.{◌+◌, ◌⊎◌, fold, if◌then◌else◌, ⊤}
use Rattle.std.specs.List.{AllByRecursion}
use Rattle.std.proofs.lemmas.Bool.{false≢true, cases_lt}
use Rattle.lists.proofs.Places.{length_more}
use Rattle.c_program.specs.Tree.{Statement}
use Rattle.c_expressions.specs.Sequences as y
use Rattle.c_resolved_program.proofs.Walks.{all_more}

-- ---- of each

module _ (Is : Statement → Type 0) (none : Is Statement.Done) (both : (first rest : Statement) → Is first → Is rest → Is (Statement.Sequence first rest)) where
  abbrev All : List Statement → Type 0
  All xs = AllByRecursion Is xs

  abbrev IfWaiting : Option Statement → Type 0
  IfWaiting None = ⊤
  IfWaiting (Some x) = Is x

  joined_are : (done : List Statement) (waiting : Option Statement) (next : Statement) → All done → IfWaiting waiting → Is next →
      All (y.joined_to done waiting next).0 × IfWaiting (y.joined_to done waiting next).1
  joined_are done None next all h is = (all, is)
  joined_are done (Some first) next all h is = (all_more Is done (y.neighbours first next) all (both first next h is), tt)

  folded_are : (list : List Statement) (j : y.Joined) → All list → All j.0 → IfWaiting j.1 → All (fold y.with_next j list).0 × IfWaiting (fold y.with_next j list).1
  folded_are [] j all done waiting = (done, waiting)
  folded_are (x ∷ list) j all done waiting =
      let both = joined_are j.0 j.1 x done waiting all.0 in
      folded_are list (y.with_next j x) all.1 both.0 both.1

  last_are : (done : List Statement) (waiting : Option Statement) → All done → IfWaiting waiting → All (y.with_last done waiting)
  last_are done None all h = all
  last_are done (Some last) all h = all_more Is done last all h

  paired_are : (list : List Statement) → All list → All (y.paired list)
  paired_are list all =
      let j = fold y.with_next ([], None) list in
      let both = folded_are list ([], None) all tt tt in
      last_are j.0 j.1 both.0 both.1

  halved_by : (c : Bool) (list : List Statement) → All list → All (if c then list else y.paired list)
  halved_by true list all = all
  halved_by false list all = paired_are list all

  rounds_are : (n : ℕ) (list : List Statement) → All list → All (y.rounds n list)
  rounds_are zero list all = all
  rounds_are (suc n) list all = halved_by (y.is_short (y.rounds n list)) (y.rounds n list) (rounds_are n list all)

  only_is : (list : List Statement) → All list → Is (y.only list)
  only_is [] all = none
  only_is (x ∷ []) all = all.0
  only_is (x ∷ next ∷ more) all = only_is (next ∷ more) all.1

  pub sequence_is : (list : List Statement) → All list → Is (y.sequence list)
  unfolding y.sequence
  sequence_is list all = only_is (y.rounds (length list) list) (rounds_are (length list) list all)

-- ---- of one

abbrev pub IsOfAny : (Statement → Type 0) → List Statement → Type 0
IsOfAny Of [] = ⊥
IsOfAny Of (x ∷ list) = Of x ⊎ IsOfAny Of list

pub any_more : (Of : Statement → Type 0) (list : List Statement) (x : Statement) → IsOfAny Of list ⊎ Of x → IsOfAny Of (list ++ x ∷ [])
any_more Of [] x (inl none) = absurd none
any_more Of [] x (inr of) = inl of
any_more Of (z ∷ list) x (inl (inl of)) = inl of
any_more Of (z ∷ list) x (inl (inr any)) = inr (any_more Of list x (inl any))
any_more Of (z ∷ list) x (inr of) = inr (any_more Of list x (inr of))

-- ---- as many rounds as there are statements leave one

waiting_count : Option Statement → ℕ
waiting_count None = 0
waiting_count (Some x) = 1

joined_count : (done : List Statement) (waiting : Option Statement) (next : Statement) →
    length (y.joined_to done waiting next).0 + (length (y.joined_to done waiting next).0 + waiting_count (y.joined_to done waiting next).1)
    ≡ suc (length done + (length done + waiting_count waiting))
unfolding waiting_count
joined_count done None next = omega arith
joined_count done (Some x) next = let e = length_more done (y.neighbours x next) in omega arith

folded_count : (list : List Statement) (j : y.Joined) →
    length (fold y.with_next j list).0 + (length (fold y.with_next j list).0 + waiting_count (fold y.with_next j list).1)
    ≡ length list + (length j.0 + (length j.0 + waiting_count j.1))
folded_count [] j = omega arith
folded_count (x ∷ list) j =
    let e = folded_count list (y.with_next j x) in
    let g = joined_count j.0 j.1 x in
    omega arith

last_count : (done : List Statement) (waiting : Option Statement) → length (y.with_last done waiting) ≡ length done + waiting_count waiting
unfolding waiting_count
last_count done None = omega arith
last_count done (Some x) = let e = length_more done x in omega arith

at_most_one : (waiting : Option Statement) → waiting_count waiting ≤ 1
unfolding waiting_count
at_most_one None = omega arith
at_most_one (Some x) = omega arith

paired_count : (list : List Statement) → 1 < length list → length (y.paired list) < length list
unfolding waiting_count
paired_count list lt =
    let j = fold y.with_next ([], None) list in
    let e = folded_count list ([], None) in
    let g = last_count j.0 j.1 in
    let w = at_most_one j.1 in
    omega arith

halved_count : (b : Bool) (list : List Statement) (n m : ℕ) → y.is_short list ≡ b → (length list ≤ 1) ⊎ (length list + n ≤ m) →
    (length (if b then list else y.paired list) ≤ 1) ⊎ (length (if b then list else y.paired list) + suc n ≤ m)
halved_count true list n m short h = inl (leb-true (length list) 1 short)
halved_count false list n m long (inl le) = absurd (false≢true (sym long ∙ le-leb (length list) 1 le))
halved_count false list n m long (inr le) =
    elim (cases_lt 1 (length list)) [
      | inl lt ↦ let e = paired_count list lt in inr (omega arith)
      | inr short ↦ absurd (false≢true (sym long ∙ le-leb (length list) 1 short))
    ]

rounds_count : (n : ℕ) (list : List Statement) → (length (y.rounds n list) ≤ 1) ⊎ (length (y.rounds n list) + n ≤ length list)
rounds_count zero list = inr (omega arith)
rounds_count (suc n) list = halved_count (y.is_short (y.rounds n list)) (y.rounds n list) n (length list) refl (rounds_count n list)

module _ (Of : Statement → Type 0) (both : (x z : Statement) → Of x ⊎ Of z → Of (Statement.Sequence x z)) where
  IfAnyWaiting : Option Statement → Type 0
  IfAnyWaiting None = ⊥
  IfAnyWaiting (Some x) = Of x

  joined_keep : (done : List Statement) (waiting : Option Statement) (next : Statement) → (IsOfAny Of done ⊎ IfAnyWaiting waiting) ⊎ Of next →
      IsOfAny Of (y.joined_to done waiting next).0 ⊎ IfAnyWaiting (y.joined_to done waiting next).1
  unfolding IfAnyWaiting
  joined_keep done None next (inl (inl of)) = inl of
  joined_keep done None next (inl (inr none)) = absurd none
  joined_keep done None next (inr of) = inr of
  joined_keep done (Some x) next (inl (inl of)) = inl (any_more Of done (y.neighbours x next) (inl of))
  joined_keep done (Some x) next (inl (inr of)) = inl (any_more Of done (y.neighbours x next) (inr (both x next (inl of))))
  joined_keep done (Some x) next (inr of) = inl (any_more Of done (y.neighbours x next) (inr (both x next (inr of))))

  folded_keep : (list : List Statement) (j : y.Joined) → (IsOfAny Of j.0 ⊎ IfAnyWaiting j.1) ⊎ IsOfAny Of list →
      IsOfAny Of (fold y.with_next j list).0 ⊎ IfAnyWaiting (fold y.with_next j list).1
  folded_keep [] j (inl of) = of
  folded_keep [] j (inr none) = absurd none
  folded_keep (x ∷ list) j (inl of) = folded_keep list (y.with_next j x) (inl (joined_keep j.0 j.1 x (inl of)))
  folded_keep (x ∷ list) j (inr (inl of)) = folded_keep list (y.with_next j x) (inl (joined_keep j.0 j.1 x (inr of)))
  folded_keep (x ∷ list) j (inr (inr of)) = folded_keep list (y.with_next j x) (inr of)

  last_keep : (done : List Statement) (waiting : Option Statement) → IsOfAny Of done ⊎ IfAnyWaiting waiting → IsOfAny Of (y.with_last done waiting)
  unfolding IfAnyWaiting
  last_keep done None (inl of) = of
  last_keep done None (inr none) = absurd none
  last_keep done (Some x) of = any_more Of done x of

  halved_keep : (b : Bool) (list : List Statement) → IsOfAny Of list → IsOfAny Of (if b then list else y.paired list)
  halved_keep true list of = of
  halved_keep false list of =
      let j = fold y.with_next ([], None) list in
      last_keep j.0 j.1 (folded_keep list ([], None) (inr of))

  rounds_keep : (n : ℕ) (list : List Statement) → IsOfAny Of list → IsOfAny Of (y.rounds n list)
  rounds_keep zero list of = of
  rounds_keep (suc n) list of = halved_keep (y.is_short (y.rounds n list)) (y.rounds n list) (rounds_keep n list of)

  -- of at most one statement
  alone_keeps : (list : List Statement) → length list ≤ 1 → IsOfAny Of list → Of (y.only list)
  alone_keeps [] le none = absurd none
  alone_keeps (x ∷ []) le (inl of) = of
  alone_keeps (x ∷ []) le (inr none) = absurd none
  alone_keeps (x ∷ z ∷ list) le of = absurd (omega arith)

  pub sequence_keeps : (list : List Statement) → IsOfAny Of list → Of (y.sequence list)
  unfolding y.sequence
  sequence_keeps list of =
      alone_keeps (y.rounds (length list) list) (short (rounds_count (length list) list)) (rounds_keep (length list) list of)
    where
      short : (length (y.rounds (length list) list) ≤ 1) ⊎ (length (y.rounds (length list) list) + length list ≤ length list) → length (y.rounds (length list) list) ≤ 1
      short (inl le) = le
      short (inr le) = omega arith

-- ---- of all but the last, and of the last

module _ (Is Last : Statement → Type 0) (both : (first rest : Statement) → Is first → Is rest → Is (Statement.Sequence first rest))
    (ends : (first rest : Statement) → Is first → Last rest → Last (Statement.Sequence first rest)) where
  abbrev IfOneWaits : Option Statement → Type 0
  IfOneWaits None = ⊤
  IfOneWaits (Some x) = Is x

  -- the last one is so, and each before it
  Ends : List Statement → Type 0
  Ends [] = ⊥
  Ends (x ∷ []) = Last x
  Ends (x ∷ next ∷ more) = Is x × Ends (next ∷ more)

  ends_more : (list : List Statement) (last : Statement) → AllByRecursion Is list → Last last → Ends (list ++ last ∷ [])
  unfolding Ends
  ends_more [] last all is = is
  ends_more (x ∷ []) last all is = (all.0, is)
  ends_more (x ∷ next ∷ more) last all is = (all.0, ends_more (next ∷ more) last all.1 is)

  last_ends : (done : List Statement) (waiting : Option Statement) (x : Statement) → AllByRecursion Is done → IfOneWaits waiting → Last x →
      Ends (y.all_joined (y.joined_to done waiting x))
  last_ends done None x all is last = ends_more done x all last
  last_ends done (Some first) x all is last = ends_more done (y.neighbours first x) all (ends first x is last)

  one_joined : (done : List Statement) (waiting : Option Statement) (x : Statement) → AllByRecursion Is done → IfOneWaits waiting → Is x →
      AllByRecursion Is (y.joined_to done waiting x).0 × IfOneWaits (y.joined_to done waiting x).1
  one_joined done None x all is so = (all, so)
  one_joined done (Some first) x all is so = (all_more Is done (y.neighbours first x) all (both first x is so), tt)

  folded_ends : (list : List Statement) (j : y.Joined) → Ends list → AllByRecursion Is j.0 → IfOneWaits j.1 → Ends (y.all_joined (fold y.with_next j list))
  unfolding Ends
  folded_ends [] j none done waiting = absurd none
  folded_ends (x ∷ []) j last done waiting = last_ends j.0 j.1 x done waiting last
  folded_ends (x ∷ next ∷ more) j so done waiting =
      let k = one_joined j.0 j.1 x done waiting so.0 in
      folded_ends (next ∷ more) (y.with_next j x) so.1 k.0 k.1

  halved_ends : (b : Bool) (list : List Statement) → Ends list → Ends (if b then list else y.paired list)
  halved_ends true list so = so
  halved_ends false list so = folded_ends list ([], None) so tt tt

  rounds_end : (n : ℕ) (list : List Statement) → Ends list → Ends (y.rounds n list)
  rounds_end zero list so = so
  rounds_end (suc n) list so = halved_ends (y.is_short (y.rounds n list)) (y.rounds n list) (rounds_end n list so)

  only_last : (list : List Statement) → Ends list → Last (y.only list)
  unfolding Ends
  only_last [] none = absurd none
  only_last (x ∷ []) last = last
  only_last (x ∷ next ∷ more) so = only_last (next ∷ more) so.1

  pub sequence_ends : (list : List Statement) (last : Statement) → AllByRecursion Is list → Last last → Last (y.sequence (list ++ last ∷ []))
  unfolding y.sequence
  sequence_ends list last all is =
      let every = list ++ last ∷ [] in
      only_last (y.rounds (length every) every) (rounds_end (length every) every (ends_more list last all is))

-- ---- what a statement adds up to

abbrev pub total : (Statement → ℕ) → List Statement → ℕ
total weight [] = 0
total weight (x ∷ list) = weight x + total weight list

module _ (weight : Statement → ℕ) (none : weight Statement.Done ≡ 0) (both : (first rest : Statement) → weight (Statement.Sequence first rest) ≡ weight first + weight rest) where
  abbrev weights : List Statement → ℕ
  weights list = total weight list

  weights_more : (list : List Statement) (x : Statement) → weights (list ++ x ∷ []) ≡ weights list + weight x
  weights_more [] x = omega arith
  weights_more (z ∷ list) x = let e = weights_more list x in omega (arith, e)

  waiting_weight : Option Statement → ℕ
  waiting_weight None = 0
  waiting_weight (Some x) = weight x

  joined_weight : (done : List Statement) (waiting : Option Statement) (x : Statement) →
      weights (y.joined_to done waiting x).0 + waiting_weight (y.joined_to done waiting x).1 ≡ weights done + waiting_weight waiting + weight x
  unfolding waiting_weight
  joined_weight done None x = omega arith
  joined_weight done (Some first) x =
      let e = weights_more done (y.neighbours first x) in
      let s = both first x in
      omega (arith, e, s)

  folded_weight : (list : List Statement) (j : y.Joined) →
      weights (fold y.with_next j list).0 + waiting_weight (fold y.with_next j list).1 ≡ weights j.0 + waiting_weight j.1 + weights list
  folded_weight [] j = omega arith
  folded_weight (x ∷ list) j =
      let e = folded_weight list (y.with_next j x) in
      let k = joined_weight j.0 j.1 x in
      omega (arith, e, k)

  last_weight : (done : List Statement) (waiting : Option Statement) → weights (y.with_last done waiting) ≡ weights done + waiting_weight waiting
  unfolding waiting_weight
  last_weight done None = omega arith
  last_weight done (Some x) = weights_more done x

  halved_weight : (b : Bool) (list : List Statement) → weights (if b then list else y.paired list) ≡ weights list
  unfolding waiting_weight
  halved_weight true list = refl
  halved_weight false list =
      let j = fold y.with_next ([], None) list in
      let e = last_weight j.0 j.1 in
      let k = folded_weight list ([], None) in
      omega (arith, e, k)

  rounds_weight : (n : ℕ) (list : List Statement) → weights (y.rounds n list) ≡ weights list
  rounds_weight zero list = refl
  rounds_weight (suc n) list = halved_weight (y.is_short (y.rounds n list)) (y.rounds n list) ∙ rounds_weight n list

  only_weight : (list : List Statement) → length list ≤ 1 → weight (y.only list) ≡ weights list
  only_weight [] le = none
  only_weight (x ∷ []) le = omega arith
  only_weight (x ∷ z ∷ list) le = absurd (omega arith)

  pub sequence_weight : (list : List Statement) → weight (y.sequence list) ≡ weights list
  unfolding y.sequence
  sequence_weight list =
      only_weight (y.rounds (length list) list) (short (rounds_count (length list) list)) ∙ rounds_weight (length list) list
    where
      short : (length (y.rounds (length list) list) ≤ 1) ⊎ (length (y.rounds (length list) list) + length list ≤ length list) → length (y.rounds (length list) list) ≤ 1
      short (inl le) = le
      short (inr le) = omega arith
