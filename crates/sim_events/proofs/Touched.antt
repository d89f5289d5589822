-- A step touches no word that a later one gives, nor reads its own; and the steps of a word are listed.
use Rattle.std.specs.Prelude.{◌≡◌, ℕ, zero, suc, ◌+◌, ◌<◌, ◌≤◌, ◌⊎◌, List, [], ◌∷◌, ◌++◌, length, min, ◌-◌, ◌^◌, Option, Some, None, slice_get, slice_index, option_map, refl}
use Rattle.std.proofs.Common.{ap, sym, ◌∙◌, subst, inl, inr, ⊎_elim, arith}
use Rattle.std.proofs.lemmas.List.{get_or_append_left, get_or_push}
use Rattle.std.proofs.lemmas.Option.{same_Some, none-some, slice_get_within}
use Rattle.std.proofs.Math.Nat.{min-eq_left}
use Rattle.netlist.specs.declared.netlist.Module.{Module}
use Rattle.verilog_meaning.specs.Threads.{IsOneOf}
use Rattle.sim_values.specs.declared.settle.Step.{Step}
use Rattle.sim_values.specs.Order.{reads, InOrder}
use Rattle.sim_values.proofs.Settles.{gives_new}
use Rattle.sim_layout.specs.declared.waits.Wait.{Wait}
use Rattle.sim_layout.specs.Ranks.{operand}
use Rattle.sim_layout.specs.Waits.{IsWaiting, IsListed}
use Rattle.sim_layout.proofs.LeadSearch.{each_among, below_next}
use Rattle.sim_events.specs.Events.{Touches, IsAmong}

pub last_item : (xs : List ℕ) (x i : ℕ) → i ≡ length xs → slice_index (xs ++ x ∷ []) i ≡ x
last_item xs x i e = ap (slice_index (xs ++ x ∷ [])) e ∙ get_or_push xs x 0 (length xs) refl

module _ (modules : List Module) where
  pub earlier_apart : (known : ℕ → Type 0) (steps : List Step) (j k : ℕ) (s t : Step) → InOrder modules known steps → slice_get steps j ≡ Some s → slice_get steps k ≡ Some t → j < k
      → Touches modules s t.target → ⊥
  earlier_apart known [] j k s t o at there l touch = none-some s at
  earlier_apart known (u ∷ steps) j zero s t o at there l touch = absurd (omega (arith, l))
  earlier_apart known (u ∷ steps) zero (suc k) s t o at there l touch =
      let same : u ≡ s = same_Some u s at in
      let known' : ℕ → Type 0 = λ y. known y ⊎ (y ≡ u.target) in
      let here : Touches modules u t.target = subst (λ (z : Step). Touches modules z t.target) (sym same) touch in
      ⊎_elim
      (λ e. gives_new modules known' steps k t.target t o.2 there (inr e) refl)
      (λ among. gives_new modules known' steps k t.target t o.2 there (inl (each_among known (reads modules u.feed) o.0 t.target among)) refl)
      here
  earlier_apart known (u ∷ steps) (suc j) (suc k) s t o at there l touch =
      earlier_apart (λ y. known y ⊎ (y ≡ u.target)) steps j k s t o.2 at there (omega (arith, l)) touch

  pub reads_others : (known : ℕ → Type 0) (steps : List Step) (k : ℕ) (s : Step) → InOrder modules known steps → slice_get steps k ≡ Some s → IsOneOf s.target (reads modules s.feed) → ⊥
  reads_others known [] k s o at among = none-some s at
  reads_others known (u ∷ steps) zero s o at among =
      let same : u ≡ s = same_Some u s at in
      let here = subst (λ (z : Step). IsOneOf z.target (reads modules z.feed)) (sym same) among in
      o.1 (each_among known (reads modules u.feed) o.0 u.target here)
  reads_others known (u ∷ steps) (suc k) s o at among = reads_others (λ y. known y ⊎ (y ≡ u.target)) steps k s o.2 at among

-- ---- the steps of a word are listed, read by read

-- what holds of each word before an index holds of all, where there is none at the index
pub all_before : (P : ℕ → Type 0) (words : List ℕ) (index : ℕ) → ((j y : ℕ) → j < index → slice_get words j ≡ Some y → P y) → operand words index ≡ None
    → (y : ℕ) → IsOneOf y words → P y
all_before P [] index before none y among = absurd among
all_before P (w ∷ words) zero before none y among = absurd cc
all_before P (w ∷ words) (suc index) before none y (inl same) = subst P (sym same) (before 0 w (omega arith) refl)
all_before P (w ∷ words) (suc index) before none y (inr rest) = all_before P words index (λ j z l at. before (suc j) z (omega (arith, l)) at) none y rest

-- the word at an index, where it is below 2 to the 64
pub operand_is : (words : List ℕ) (index word y : ℕ) → operand words index ≡ Some word → slice_get words index ≡ Some y → y < 2 ^ 64 → y ≡ word
operand_is words index word y is at l =
    let most : Some (min y (2 ^ 64 - 1)) ≡ Some word = sym (ap (option_map (λ (x : ℕ). min x (2 ^ 64 - 1))) at) ∙ is in
    sym (min-eq_left (omega (arith, l))) ∙ same_Some (min y (2 ^ 64 - 1)) word most

-- each word of a list before an index, of the first so many words, has a step in its chain
abbrev pub AreRead : List ℕ → ℕ → List (Option ℕ) → List Wait → ℕ → ℕ → Type 0
AreRead reading words last chain number index = (j y : ℕ) → j < index → slice_get reading j ≡ Some y → y < words → IsWaiting last chain y number

pub read_more : (reading : List ℕ) (words : ℕ) (last more : List (Option ℕ)) (chain longer : List Wait) (number index word : ℕ) → words ≤ 2 ^ 64 → operand reading index ≡ Some word
    → AreRead reading words last chain number index → ((w k : ℕ) → IsWaiting last chain w k → IsWaiting more longer w k) → (word < words → IsWaiting more longer word number)
    → AreRead reading words more longer number (index + 1)
read_more reading words last more chain longer number index word few is before keeps new j y less at inside = ⊎_elim
    (λ l. keeps y number (before j y l at inside))
    (λ (e : j ≡ index).
    let same : y ≡ word = operand_is reading index word y is (ap (slice_get reading) (sym e) ∙ at) (omega (arith, inside, few)) in
    subst (λ z. IsWaiting more longer z number) (sym same) (new (omega (arith, inside, same))))
    (below_next j index less)

module _ (modules : List Module) (steps : List Step) (words : ℕ) where
  -- the first so many steps stand in the chains of the words that they touch
  abbrev pub AreTouched : List (Option ℕ) → List Wait → ℕ → Type 0
  AreTouched last chain count = (k y : ℕ) (s : Step) → k < count → slice_get steps k ≡ Some s → Touches modules s y → y < words → IsWaiting last chain y k

  pub touched_more : (last more then : List (Option ℕ)) (chain longer longest : List Wait) (i : ℕ) (s : Step) → slice_get steps i ≡ Some s → AreTouched last chain i
      → (s.target < words → IsWaiting more longer s.target i) → ((w k : ℕ) → IsWaiting last chain w k → IsWaiting more longer w k)
      → ((w k : ℕ) → IsWaiting more longer w k → IsWaiting then longest w k) → ((y : ℕ) → IsOneOf y (reads modules s.feed) → y < words → IsWaiting then longest y i)
      → AreTouched then longest (i + 1)
  touched_more last more then chain longer longest i s at before target keeps goes reading k y u less there touch inside = ⊎_elim
      (λ l. goes y k (keeps y k (before k y u l there touch inside)))
      (λ (e : k ≡ i).
      let same : u ≡ s = same_Some u s (sym there ∙ ap (slice_get steps) e ∙ at) in
      let own : Touches modules s y = subst (λ (z : Step). Touches modules z y) same touch in
      subst (IsWaiting then longest y) (sym e)
      (⊎_elim
      (λ (here : y ≡ s.target). goes y i (subst (λ z. IsWaiting more longer z i) (sym here) (target (subst (λ z. z < words) here inside))))
      (λ among. reading y among inside)
      own))
      (below_next k i less)

-- ---- the steps of the first so many words are listed

abbrev pub AreListed : List (Option ℕ) → List Wait → List ℕ → List ℕ → ℕ → Type 0
AreListed last chain starts list count = (k y : ℕ) → y < count → IsWaiting last chain y k → IsAmong starts list y k

pub listed_more : (last : List (Option ℕ)) (chain : List Wait) (starts list longer : List ℕ) (word : ℕ) → length starts ≡ word + 1 → slice_index starts word ≡ length list
    → AreListed last chain starts list word → ((j k : ℕ) → slice_get list j ≡ Some k → slice_get longer j ≡ Some k)
    → ((k : ℕ) → IsWaiting last chain word k → IsListed (length list) longer k) → AreListed last chain (starts ++ length longer ∷ []) longer (word + 1)
listed_more last chain starts list longer word long ends before behind woken k y less waiting = ⊎_elim
    (λ l.
    let old = before k y l waiting in
    let from = get_or_append_left starts (length longer ∷ []) 0 y (omega (arith, long, l)) in
    let to = get_or_append_left starts (length longer ∷ []) 0 (y + 1) (omega (arith, long, l)) in
    let a = old.from in
    let b = old.to in
    record { place = old.place; from = omega (arith, from, a); to = omega (arith, to, b); listed = behind old.place k old.listed })
    (λ (e : y ≡ word).
    let new = woken k (subst (λ z. IsWaiting last chain z k) e waiting) in
    let from = get_or_append_left starts (length longer ∷ []) 0 y (omega (arith, long, e)) in
    let first : slice_index starts y ≡ length list = ap (slice_index starts) e ∙ ends in
    let to = last_item starts (length longer) (y + 1) (omega (arith, long, e)) in
    let a = new.1 in
    let b = slice_get_within longer new.0 k new.2 in
    record { place = new.0; from = omega (arith, from, first, a); to = omega (arith, to, b); listed = new.2 })
    (below_next y word less)
