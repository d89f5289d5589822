-- Steps of the pass keep what the code is.
use Rattle.std.proofs.Common.{◌≡◌, ◌≢◌, ℕ, ◌+◌, ◌-◌, ◌*◌, ◌<◌, ◌≤◌, min, List, [], ◌∷◌, ◌++◌, length, map, ℤ}
use Rattle.std.proofs.Common.{Option, Some, None, refl, sym, ap, ◌∙◌, subst, ⊎_elim, inl, inr, arith, length-append, append_assoc, take, get_or}
use Rattle.std.specs.Prelude.{◌⊎◌, nat_eq, true, false, if◌then◌else◌, Bool, slice_get, slice_set}
use Rattle.std.proofs.lemmas.Bool.Decides.{eqb_tells}
use Rattle.std.proofs.lemmas.List.{take_all, length-set}
use Rattle.std.proofs.lemmas.Option.{slice_get_within}
use Rattle.lists.proofs.Places.{get_there, set_other, set_same, set_element, get_right, get_left}
use Rattle.c_program.specs.Tree.{Program}
use Rattle.c_program.specs.Weight.{weight}
use Rattle.block_ir.specs.declared.operand.Operand.{Operand}
use Rattle.block_ir.specs.declared.block.Final.{Final}
use Rattle.block_ir.specs.declared.block.Next.TheVariants.{Jump}
use Rattle.block_ir.specs.declared.block.Block.{Block}
use Rattle.block_ir.specs.declared.code.Stage.{Stage}
use Rattle.block_ir.specs.declared.code.Stage.TheVariants.{Run}
use Rattle.block_ir.specs.declared.code.ThreadCode.{ThreadCode}
use Rattle.block_ir.specs.Run.{finished}
use Rattle.code_blocks.specs.Evaluating.{current_value}
use Rattle.code_blocks.specs.Closing.{IsUnchanged}
use Rattle.code_following.specs.Idle.{idle_count, IsComparison}
use Rattle.code_following.specs.Typed.{Types, types_of, most_operations, IsTypedBlock, IsTypedStage, IsTypedCode}
use Rattle.code_following.proofs.IdleStages.{count_changed, comparisons_changed}
use Rattle.code_merge.specs.Joined.{joined, moved_operation, left_in, there, AreLeft, AreWithin, HasLeft}
use Rattle.code_merge.specs.Maximal.{one_way, next_ways, ways, StandApart, IsMaximalAt, AreCounted, Follows}
use Rattle.code_merge.specs.Kept.{with_stages, Keeps}
use Rattle.code_merge.specs.Steps.{IsLast}
use Rattle.code_merge.specs.Used.{empty}
use Rattle.code_merge.proofs.Lists.{take_next}
use Rattle.code_merge.proofs.Ways.{one_here, one_elsewhere, ways_set, one_of, two_of, moved_ways}
use Rattle.code_merge.proofs.Values.{finished_is, left_value}
use Rattle.code_merge.proofs.MergedTypes.{finals_below, finals_within, left_typed, joined_typed}
use Rattle.code_merge.proofs.MergedSteps.{double, follows_joined, follows_tidied}

-- ---- what variables are left with

pub left_none : (current : List (Option Operand)) → IsUnchanged current → HasLeft current []
left_none current unchanged within x = by (slice_get current x) refl
  where
    by : (o : Option (Option Operand)) → slice_get current x ≡ o → there o ≡ None
    by (Some (Some a)) e = absurd (unchanged x a e)
    by (Some None) e = refl
    by None e = refl

left_last : (fs : List Final) (f : Final) (x : ℕ) (before : Option Operand) → left_in (fs ++ f ∷ []) x before ≡
    (if nat_eq x f.variable then Some f.value else left_in fs x before)
left_last [] f x before = refl
left_last (g ∷ gs) f x before = left_last gs f x (if nat_eq x g.variable then Some g.value else before)

within_front : (n : ℕ) (fs gs : List Final) → AreWithin n (fs ++ gs) → AreWithin n fs
within_front n fs gs h k f e = h k f (get_left fs gs k (slice_get_within fs k f e) ∙ e)

within_last : (n : ℕ) (fs : List Final) (f : Final) → AreWithin n (fs ++ f ∷ []) → f.variable < n
within_last n fs f h = h (length fs + 0) f (get_right fs (f ∷ []) 0)

pub left_more : (current : List (Option Operand)) (fs : List Final) (f : Final) → HasLeft current fs → HasLeft (slice_set current f.variable (Some f.value)) (fs ++ f ∷ [])
left_more current fs f left within x =
    let size = length-set current f.variable (Some f.value) in
    let all : AreWithin (length current) (fs ++ f ∷ []) = λ k g e. (let h = within k g e in omega (arith, h, size)) in
    let was = left (within_front (length current) fs (f ∷ []) all) x in
    ⊎_elim
    (λ t. ap (λ z. there (slice_get (slice_set current f.variable (Some f.value)) z)) t.1 ∙ ap there
    (set_same current f.variable (Some f.value) (within_last (length current) fs f all))
    ∙ ap (λ (b : Bool). let z : Option Operand = if b then Some f.value else left_in fs x None in z) (sym t.0) ∙ sym (left_last fs f x None))
    (λ t. ap there (set_other current f.variable x (Some f.value) t.1) ∙ was
    ∙ ap (λ (b : Bool). let z : Option Operand = if b then Some f.value else left_in fs x None in z) (sym t.0) ∙ sym (left_last fs f x None))
    (eqb_tells x f.variable)

pub left_next : (start now next : List (Option Operand)) (finals : List Final) (k : ℕ) (f : Final) (v : Operand) → k < length finals → f ≡ get_or finals k f → v ≡ f.value →
    next ≡ slice_set now f.variable (Some v) → ((fs : List Final) → HasLeft start fs → HasLeft now (fs ++ take k finals)) →
    (fs : List Final) → HasLeft start fs → HasLeft next (fs ++ take (k + 1) finals)
left_next start now next finals k f v lt item same is held fs h =
    let one : take (k + 1) finals ≡ take k finals ++ f ∷ [] = take_next finals k f lt item in
    let all : fs ++ take (k + 1) finals ≡ (fs ++ take k finals) ++ f ∷ [] = ap (λ l. fs ++ l) one ∙ sym (append_assoc fs (take k finals) (f ∷ [])) in
    let now_is : next ≡ slice_set now f.variable (Some f.value) = is ∙ ap (λ w. slice_set now f.variable (Some w)) same in
    subst (HasLeft next) (sym all) (subst (λ c. HasLeft c ((fs ++ take k finals) ++ f ∷ [])) (sym now_is) (left_more now (fs ++ take k finals) f (held fs h)))

pub left_all : (start now : List (Option Operand)) (finals : List Final) (k : ℕ) → length finals ≤ k →
    ((fs : List Final) → HasLeft start fs → HasLeft now (fs ++ take k finals)) →
    (fs : List Final) → HasLeft start fs → HasLeft now (fs ++ finals)
left_all start now finals k le held fs h = subst (λ gs. HasLeft now (fs ++ gs)) (take_all k finals le) (held fs h)

-- ---- kept

pub keeps_same : (most size : ℕ) (stages : List Stage) → Keeps most size stages stages
keeps_same most size stages P g code le long typed = (typed, λ low. low, refl)

pub keeps_both : (most size : ℕ) (a b c : List Stage) → Keeps most size a b → Keeps most size b c → Keeps most size a c
keeps_both most size a b c h k P g code le long typed =
    let x = h P g code le long typed in
    let y = k P g code (subst (λ n. most ≤ 4 * weight P - 2 * n) (sym x.2) le) long x.0 in
    (y.0, λ low. y.1 (x.1 low), y.2 ∙ x.2)

-- a code with another block at l, which takes a step where the one that was there did
module _ (P : Program) (g : ℕ) (code : ThreadCode) (old : List Stage) (l : ℕ) (b c : Block) (at : slice_get old l ≡ Some (Run b))
    (busy : 0 < b.steps → 0 < c.steps) (still : 0 < c.steps → 0 < b.steps) where
  abbrev T_old : Types
  T_old = types_of P (with_stages code old)

  typed_set : IsTypedBlock T_old (length old) (most_operations P old) c → (c.steps ≡ 0 → IsComparison old l c) →
      IsTypedCode P g (with_stages code old) → IsTypedCode P g (with_stages code (slice_set old l (Run c)))
  typed_set h compares typed =
      let size = length-set old l (Run c) in
      let count = count_changed old l b c at busy still in
      record {
        some = (let z = typed.some in omega (arith, z, size));
        stages = λ k t e.
            subst (λ n. IsTypedStage T_old P n (most_operations P (slice_set old l (Run c))) t) (sym size)
            (subst (λ n. IsTypedStage T_old P (length old) (4 * weight P - 2 * n) t) (sym count)
            (⊎_elim (λ p. subst (IsTypedStage T_old P (length old) (most_operations P old)) (sym p.1) h) (λ p. typed.stages k t p.1)
            (set_element old l k (Run c) t e)));
        comparisons = comparisons_changed old l b c at busy compares typed.comparisons;
        few_idle = (let few = typed.few_idle in omega (arith, few, count));
        arrays = typed.arrays;
        argument = typed.argument;
        names = typed.names;
        named = typed.named;
      }

abbrev no_block : Block
no_block = record { operations = []; finals = []; next = Jump 0; steps = 1 }

empty_typed : (T : Types) (n most : ℕ) → 0 < n → IsTypedBlock T n most no_block
empty_typed T n most some = record {
  operations = tt;
  few = omega arith;
  size = omega arith;
  finals = λ k f e. cc;
  next = some;
}

module _ (most size : ℕ) (old : List Stage) (counts : List ℕ) (l m : ℕ) (current : List (Option Operand)) (f : Follows most old counts l m)
    (counted : AreCounted old counts) where
  abbrev b : Block
  b = f.block

  abbrev d : Block
  d = f.next

  abbrev pub both : List Stage
  both = slice_set (slice_set old m empty) l (Run (joined current b d))

  once : ways m old ≡ 1
  once = let h = counted.1 m 1 f.later f.once in omega (arith, h)

  -- ---- ways

  between : slice_get (slice_set old m empty) l ≡ Some (Run b)
  between = set_other old m l empty (λ e. f.apart (sym e)) ∙ f.at

  both_ways : (j : ℕ) → j ≢ 0 → ways j both + one_way j m ≡ ways j old
  both_ways j off =
      let x = ways_set j old m (Run d) empty f.there in
      let y = ways_set j (slice_set old m empty) l (Run b) (Run (joined current b d)) between in
      let z = one_elsewhere j 0 off in
      let w = moved_ways current (length b.operations) j d.next in
      let v = ap (next_ways j) f.leads in
      omega (arith, x, y, z, w, v)

  pub both_counted : AreCounted both (slice_set counts m 0)
  both_counted = (
    length-set counts m 0 ∙ counted.0 ∙ sym (length-set (slice_set old m empty) l (Run (joined current b d)) ∙ length-set old m empty),
    λ j c off e.
        let w = both_ways j off in
        ⊎_elim
        (λ p. let o = ap (λ i. one_way i m) p.0 ∙ one_here m in let u = ap (λ i. ways i old) p.0 ∙ once in let z = p.1 in omega (arith, w, o, u, z))
        (λ p. let o = one_elsewhere j m p.0 in let h = counted.1 j c off p.1 in omega (arith, w, o, h))
        (set_element counts m j 0 c e),
  )

  -- ---- maximal

  empty_next : (x : Block) → Run x ≡ empty → x.next ≡ Jump 0
  empty_next x e = let h : x ≡ record { operations = []; finals = []; next = Jump 0; steps = 1 } = cc in ap (λ (z : Block). z.next) h

  in_both : (k : ℕ) (x : Block) → slice_get both k ≡ Some (Run x) → ((k ≡ l) × (x ≡ joined current b d)) ⊎ ((k ≢ l) × (k ≡ m) × (x.next ≡ Jump 0)) ⊎
      ((k ≢ l) × (k ≢ m) × (slice_get old k ≡ Some (Run x)))
  in_both k x e =
      ⊎_elim
      (λ p. inl (p.0, let h : Run x ≡ Run (joined current b d) = p.1 in cc))
      (λ p. ⊎_elim
      (λ q. inr (inl (p.0, q.0, empty_next x q.1)))
      (λ q. inr (inr (p.0, q.0, q.1)))
      (set_element old m k empty (Run x) p.1))
      (set_element (slice_set old m empty) l k (Run (joined current b d)) (Run x) e)

  module _ (k : ℕ) (off : k ≢ l) (was : IsMaximalAt most old k) (x : Block) (j : ℕ) (at : slice_get old k ≡ Some (Run x)) (leads : x.next ≡ Jump j) where
    never : j ≡ m → ⊥
    never e =
        let two = two_of m old k l (Run x) (Run b) off at f.at in
        let p : next_ways m x.next ≡ 1 = ap (next_ways m) leads ∙ ap (one_way m) e ∙ one_here m in
        let q : next_ways m b.next ≡ 1 = ap (next_ways m) f.leads ∙ one_here m in
        let o = once in
        omega (arith, two, p, q, o)

    more_ways : j ≢ 0 → 1 < ways j old → 1 < ways j both
    more_ways nonzero h =
        let w = both_ways j nonzero in
        let o = one_elsewhere j m never in
        omega (arith, w, o, h)

    -- from where it leads to a block that is as large or larger
    still : (y z : Block) → slice_get old j ≡ Some (Run y) → length y.operations ≤ length z.operations → y.steps ≤ z.steps → (y.steps ≡ 0 → z.steps ≡ 0) →
        (j ≡ 0) ⊎ (j ≡ k) ⊎ (1 < ways j both) ⊎ StandApart most x z
    still y z there large long idle = by (eqb_tells j 0) (was x y j at leads there)
      where
        by : ((nat_eq j 0 ≡ true) × (j ≡ 0)) ⊎ ((nat_eq j 0 ≡ false) × (j ≢ 0)) → (j ≡ 0) ⊎ (j ≡ k) ⊎ (1 < ways j old) ⊎ StandApart most x y →
            (j ≡ 0) ⊎ (j ≡ k) ⊎ (1 < ways j both) ⊎ StandApart most x z
        by (inl t) h = inl t.1
        by (inr t) (inl h) = inl h
        by (inr t) (inr (inl h)) = inr (inl h)
        by (inr t) (inr (inr (inl h))) = inr (inr (inl (more_ways t.1 h)))
        by (inr t) (inr (inr (inr (inl h)))) = inr (inr (inr (inl (omega (arith, h, large)))))
        by (inr t) (inr (inr (inr (inr (inl h))))) = inr (inr (inr (inr (inl (omega (arith, h, large))))))
        by (inr t) (inr (inr (inr (inr (inr (inl h)))))) = inr (inr (inr (inr (inr (inl (omega (arith, h, long)))))))
        by (inr t) (inr (inr (inr (inr (inr (inr (inl h))))))) = inr (inr (inr (inr (inr (inr (inl h))))))
        by (inr t) (inr (inr (inr (inr (inr (inr (inr h))))))) = inr (inr (inr (inr (inr (inr (inr (idle h)))))))

    leads_still : (y : Block) → slice_get both j ≡ Some (Run y) → (j ≡ 0) ⊎ (j ≡ k) ⊎ (1 < ways j both) ⊎ StandApart most x y
    leads_still y e =
        ⊎_elim
        (λ p. still b y (ap (slice_get old) p.0 ∙ f.at) (let h = ap (λ (z : Block). length z.operations) p.1 in let n = length-append b.operations
        (map (moved_operation (length b.operations) current) d.operations) in omega (arith, h, n))
        (let h = ap (λ (z : Block). z.steps) p.1 in omega (arith, h)) (λ h. absurd (let some = f.block_busy in omega (arith, h, some))))
        (λ p. ⊎_elim (λ q. absurd (never q.1)) (λ q. still y y q.2 (omega arith) (omega arith) (λ h. h)) p)
        (in_both j y e)

  pub both_maximal : (k : ℕ) → k ≢ l → IsMaximalAt most old k → IsMaximalAt most both k
  both_maximal k off was x y j at leads there =
      ⊎_elim
      (λ p. absurd (off p.0))
      (λ p. ⊎_elim (λ q. inl (let h : Jump j ≡ Jump 0 = sym leads ∙ q.2 in cc)) (λ q. leads_still k off was x j q.2 leads y there) p)
      (in_both k x at)

  -- ---- kept

  counts_same : idle_count both ≡ idle_count old
  counts_same =
      let some = f.block_busy in
      count_changed (slice_set old m empty) l b (joined current b d) between (λ h. omega (arith, h)) (λ h. some)
      ∙ count_changed old m d no_block f.there (λ h. omega arith) (λ h. f.next_busy)

  pub both_keep : length current ≡ size → HasLeft current b.finals → Keeps most size old both
  both_keep same left P g code le long typed =
      let T = types_of P (with_stages code old) in
      let room = most_operations P old in
      let first : IsTypedBlock T (length old) room b = typed.stages l (Run b) f.at in
      let next : IsTypedBlock T (length old) room d = typed.stages m (Run d) f.there in
      let are : AreLeft current b.finals = left (subst (λ n. AreWithin n b.finals) (long ∙ sym same) (finals_within T b.operations b.finals first.finals)) in
      let size_ : length b.operations + length d.operations ≤ room = (let s = f.size in omega (arith, s, le)) in
      let some = f.block_busy in
      let second = f.next_busy in
      let o = once in
      let count = count_changed old m d no_block f.there (λ h. omega arith) (λ h. second) in
      let without : IsTypedCode P g (with_stages code (slice_set old m empty)) =
      typed_set P g code old m d no_block f.there (λ h. omega arith) (λ h. second) (empty_typed T (length old) room typed.some) (λ h. absurd (omega (arith, h))) typed in (
        typed_set P g code (slice_set old m empty) l b (joined current b d) between (λ h. omega (arith, h)) (λ h. some)
            (subst (λ n. IsTypedBlock T n (most_operations P (slice_set old m empty)) (joined current b d)) (sym (length-set old m empty))
            (subst (λ n. IsTypedBlock T (length old) (4 * weight P - 2 * n) (joined current b d)) (sym count) (joined_typed T (length old) room b d current are f.few size_ first next)))
            (λ h. absurd (omega (arith, h, some))) without,
        λ low n vs cells arguments has. follows_joined P old l m b d current empty f.at f.leads f.there f.apart (omega (arith, o)) are
            (finals_below T b.operations b.finals first.finals) f.few n 0 vs cells _
            (λ e. f.later (sym e)) (low (double n) vs cells arguments has),
        counts_same,
      )

-- ---- other finals that leave the same

abbrev pub tidy : Block → List Final → Block
tidy b finals = record { operations = b.operations; finals = finals; next = b.next; steps = b.steps }

module _ (most size : ℕ) (old : List Stage) (l : ℕ) (current : List (Option Operand)) (b : Block) (finals : List Final) (at : slice_get old l ≡ Some (Run b)) where
  abbrev pub tidied : List Stage
  tidied = slice_set old l (Run (tidy b finals))

  pub tidied_ways : (j : ℕ) → ways j tidied ≡ ways j old
  tidied_ways j = let h = ways_set j old l (Run b) (Run (tidy b finals)) at in omega (arith, h)

  pub tidied_counted : (counts : List ℕ) → AreCounted old counts → AreCounted tidied counts
  tidied_counted counts h =
      (h.0 ∙ sym (length-set old l (Run (tidy b finals))), λ j c off e. h.1 j c off e ∙ ap (λ n. min n 2) (sym (tidied_ways j)))

  was_there : (k : ℕ) (x : Block) → slice_get tidied k ≡ Some (Run x) → (y : Block) × (slice_get old k ≡ Some (Run y)) × (y.next ≡ x.next) ×
      (length y.operations ≡ length x.operations) × (y.steps ≡ x.steps)
  was_there k x e =
      ⊎_elim
      (λ p. let same : tidy b finals ≡ x = (let h : Run x ≡ Run (tidy b finals) = p.1 in cc) in
      (b, ap (slice_get old) p.0 ∙ at, ap (λ (z : Block). z.next) same, ap (λ (z : Block). length z.operations) same, ap (λ (z : Block). z.steps) same))
      (λ p. (x, p.1, refl, refl, refl))
      (set_element old l k (Run (tidy b finals)) (Run x) e)

  pub tidied_maximal : (k : ℕ) → IsMaximalAt most old k → IsMaximalAt most tidied k
  tidied_maximal k was x y j here leads there =
      let p = was_there k x here in
      let q = was_there j y there in
      by p.0 q.0 p.3 q.3 p.4 q.4 (was p.0 q.0 j p.1 (p.2 ∙ leads) q.1)
    where
      by : (v w : Block) → length v.operations ≡ length x.operations → length w.operations ≡ length y.operations → v.steps ≡ x.steps → w.steps ≡ y.steps →
          (j ≡ 0) ⊎ (j ≡ k) ⊎ (1 < ways j old) ⊎ StandApart most v w → (j ≡ 0) ⊎ (j ≡ k) ⊎ (1 < ways j tidied) ⊎ StandApart most x y
      by v w ov ow sv sw (inl h) = inl h
      by v w ov ow sv sw (inr (inl h)) = inr (inl h)
      by v w ov ow sv sw (inr (inr (inl h))) = inr (inr (inl (let e = tidied_ways j in omega (arith, h, e))))
      by v w ov ow sv sw (inr (inr (inr (inl h)))) = inr (inr (inr (inl (omega (arith, h, ov, ow)))))
      by v w ov ow sv sw (inr (inr (inr (inr (inl h))))) = inr (inr (inr (inr (inl (omega (arith, h, ov, ow))))))
      by v w ov ow sv sw (inr (inr (inr (inr (inr (inl h)))))) = inr (inr (inr (inr (inr (inl (omega (arith, h, sv, sw)))))))
      by v w ov ow sv sw (inr (inr (inr (inr (inr (inr (inl h))))))) = inr (inr (inr (inr (inr (inr (inl (omega (arith, h, sv))))))))
      by v w ov ow sv sw (inr (inr (inr (inr (inr (inr (inr h))))))) = inr (inr (inr (inr (inr (inr (inr (omega (arith, h, sw))))))))

  module _ (left : AreLeft current b.finals)
      (from : (k : ℕ) (f : Final) → slice_get finals k ≡ Some f → slice_get current f.variable ≡ Some (Some f.value))
      (leave : (variables : ℕ → ℤ) (values : List ℤ) (x : ℕ) → finished variables values finals variables x ≡ current_value (slice_get current x) variables values x) where
    alike : (variables : ℕ → ℤ) (values : List ℤ) (x : ℕ) → finished variables values finals variables x ≡ finished variables values b.finals variables x
    alike variables values x =
        leave variables values x ∙ by (slice_get current x) ∙ ap (λ o. left_value variables values o (variables x)) (left x) ∙ sym
        (finished_is variables values b.finals x variables None refl)
      where
        by : (o : Option (Option Operand)) → current_value o variables values x ≡ left_value variables values (there o) (variables x)
        by (Some (Some a)) = refl
        by (Some None) = refl
        by None = refl

    tidy_typed : (T : Types) (n room : ℕ) → IsTypedBlock T n room b → IsTypedBlock T n room (tidy b finals)
    tidy_typed T n room h = record {
      operations = h.operations;
      few = h.few;
      size = h.size;
      finals = λ k f e. left_typed T b.operations b.finals current left h.finals f.variable f.value (sym (left f.variable) ∙ ap there (from k f e));
      next = h.next;
    }

  tidy_comparison : IsComparison old l b → IsComparison old l (tidy b finals)
  tidy_comparison is = record {
    one = is.one;
    test = is.test;
    nonzero = is.nonzero;
    zero_ = is.zero_;
    next = is.next;
    on_nonzero = is.on_nonzero;
    on_zero = is.on_zero;
  }

  pub tidied_keep : length current ≡ size → HasLeft current b.finals →
      ((k : ℕ) (f : Final) → slice_get finals k ≡ Some f → slice_get current f.variable ≡ Some (Some f.value)) →
      ((variables : ℕ → ℤ) (values : List ℤ) (x : ℕ) → finished variables values finals variables x ≡ current_value (slice_get current x) variables values x) →
      Keeps most size old tidied
  tidied_keep same has from leave P g code le long typed =
      let T = types_of P (with_stages code old) in
      let block : IsTypedBlock T (length old) (most_operations P old) b = typed.stages l (Run b) at in
      let left : AreLeft current b.finals = has (subst (λ n. AreWithin n b.finals) (long ∙ sym same) (finals_within T b.operations b.finals block.finals)) in (
        typed_set P g code old l b (tidy b finals) at (λ h. h) (λ h. h) (tidy_typed left from leave T (length old) (most_operations P old) block)
            (λ none. tidy_comparison (typed.comparisons l b at none)) typed,
        λ low n vs cells arguments has. follows_tidied P old l b finals at (alike left from leave) n 0 vs cells _ (low n vs cells arguments has),
        count_changed old l b (tidy b finals) at (λ h. h) (λ h. h),
      )

-- ---- where no block follows

pub last_maximal : (most : ℕ) (stages : List Stage) (counts : List ℕ) (l : ℕ) → AreCounted stages counts → IsLast most stages counts l → IsMaximalAt most stages l
last_maximal most stages counts l counted last b d m at leads there = by (last b d m at leads there)
  where
    led : 0 < ways m stages
    led = let h = one_of m stages l (Run b) at in let e : next_ways m b.next ≡ 1 = ap (next_ways m) leads ∙ one_here m in omega (arith, h, e)

    counts_there : (o : Option ℕ) → slice_get counts m ≡ o → slice_get counts m ≢ Some 1 → m ≢ 0 → 1 < ways m stages
    counts_there (Some c) e other off =
        let h = counted.1 m c off e in
        let apart : c ≢ 1 = λ i. other (e ∙ ap Some i) in
        let some = led in
        omega (arith, h, apart, some)
    counts_there None e other off =
        absurd (let w = slice_get_within stages m (Run d) there in let n = counted.0 in
        let s : (c : ℕ) × (slice_get counts m ≡ Some c) = get_there counts m (omega (arith, w, n)) in
        let z = s.1 in cc)

    by : (m ≡ 0) ⊎ (m ≡ l) ⊎ (slice_get counts m ≢ Some 1) ⊎ StandApart most b d → (m ≡ 0) ⊎ (m ≡ l) ⊎ (1 < ways m stages) ⊎ StandApart most b d
    by (inl h) = inl h
    by (inr (inl h)) = inr (inl h)
    by (inr (inr (inr h))) = inr (inr (inr h))
    by (inr (inr (inl h))) = ⊎_elim (λ t. inl t.1) (λ t. inr (inr (inl (counts_there (slice_get counts m) refl h t.1)))) (eqb_tells m 0)
