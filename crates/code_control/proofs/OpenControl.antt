-- The code of an if and of loops leaves open what was, and begins where it did.
use Rattle.std.proofs.Common.{◌≡◌, ℕ, ◌<◌, ◌≤◌, true, length, Option, Some, None, sym, ap, ◌∙◌, subst, inl, inr, ⊎_elim, arith}
use Rattle.std.proofs.lemmas.Option.{slice_get_within}
use Rattle.c_program.specs.Tree.{Statement, Program}
use Rattle.block_ir.specs.declared.block.Next.TheVariants.{Jump}
use Rattle.code_places.specs.declared.targets.Back.{Back}
use Rattle.code_places.specs.declared.targets.Loop.{Loop}
use Rattle.code_places.specs.declared.stages.Stages.{Stages}
use Rattle.code_control.specs.declared.branching.ChoiceLabels.{ChoiceLabels}
use Rattle.code_control.specs.declared.branching.LoopLabels.{LoopLabels}
use Rattle.code_places.specs.declared.lowering.Lowering.{Lowering}
use Rattle.code_places.specs.Labels.{IsHere, IsOpen, IsAt, IsBusy, IsTarget, Advances, IsFirst}
use Rattle.code_places.specs.Control.{marked, Begins, Binds, Begun, BegunOr}
use Rattle.code_blocks.specs.declared.open_block.OpenBlock.{OpenBlock}
use Rattle.code_places.specs.Doing.{Relabels, at_site, AreTargets, IsBackTarget, IsOut, IsHead, HasCome, Heads, Proceeds}
use Rattle.code_control.specs.Branching.{IsNewLabel, IsBackBefore, OpensChoice, TurnsChoice, OpensLoop, OpensTurn, ClosesTurn, Asks, ClosesDo}
use Rattle.code_places.proofs.LabelSteps.{None_, advances_both, advances_label, first_after, target_after}
use Rattle.code_places.proofs.LabelTargets.{open_ended, placed_here}
use Rattle.code_places.proofs.CodeGrowth.{begins_shifts, binds_shifts, leaps_shifts}
use Rattle.code_places.proofs.HeadPlaces.{come_on, head_same, begins_come}
use Rattle.code_places.proofs.OpenLabels.{begins_advance, begins_begun, binds_advance, binds_begun, leaps_advance}
use Rattle.code_control.proofs.BoundLabels.{begun_new, asks_advance, new_more, while_labels, labels_of}
use Rattle.code_places.proofs.OpenParts.{bound_new, back_after, targets_after, begun_proceeds, reached_begun, advances_same, begun_same}

-- ---- new labels get their places

new_bound : (label other : ℕ) (a b c : Lowering) → (other ≡ label → ⊥) → Advances (λ l. l ≡ label) b.stages c.stages → IsNewLabel other a b → IsNewLabel other a c
new_bound label other a b c apart h n = record { after = n.after; open_ = h.open_ other apart n.open_ }

-- ---- where labels of the place at hand come to

head_relabelled : (label l : ℕ) (old labelled : Lowering) → Relabels old labelled → IsHead label l old → IsHead label l labelled
head_relabelled label l old labelled r head = record {
  here = r.here label head.here;
  number = ap (λ v. length v.items) r.items ∙ head.number;
  busy = subst (λ (b : OpenBlock). 0 < b.steps) (sym r.block) head.busy;
  on = r.reached ∙ head.on;
}

-- ---- an if

module _ (P : Program) (d : Statement) (l : ChoiceLabels) (old a : Lowering) (opens : OpensChoice P d l old a) where
  old_decided : Advances None_ old.stages opens.decided.stages
  old_decided = advances_both None_ old.stages opens.labelled.stages opens.decided.stages opens.relabels.advances opens.decides.advances

  decided_a : Advances (λ other. other ≡ l.if_true) opens.decided.stages a.stages
  decided_a = binds_advance l.if_true opens.decided a opens.binds

  pub choice_advance : Advances None_ old.stages a.stages
  choice_advance = bound_new l.if_true old.stages opens.decided.stages a.stages opens.labels.if_true.after old_decided decided_a

  choice_comes : (label n : ℕ) → IsHead label n old → HasCome label n a.stages
  choice_comes label n head =
      let h = head_relabelled label n old opens.labelled opens.relabels head in
      come_on (λ other. other ≡ l.if_true) label n opens.decided.stages a.stages decided_a
      (subst (λ m. HasCome label m opens.decided.stages) h.number (opens.decides.comes label h.here))

  pub choice_first : (start : ℕ) → Begun start old → IsFirst start a.stages
  choice_first start b =
      first_after (λ other. other ≡ l.if_true) opens.decided.stages a.stages start decided_a (opens.decides.first start (opens.relabels.begun start b))

  pub choice_false : IsNewLabel l.if_false old a
  choice_false =
      new_bound l.if_true l.if_false old opens.decided a (λ e. absurd (let lt = opens.labels.first in omega (arith, lt, e))) decided_a
      (new_more l.if_false old opens.labelled opens.decided opens.decides.advances opens.labels.if_false)

  pub choice_join : IsNewLabel l.join old a
  choice_join =
      new_bound l.if_true l.join old opens.decided a (λ e. absurd (let lt = opens.labels.first in let more = opens.labels.second in omega (arith, lt, more, e))) decided_a
      (new_more l.join old opens.labelled opens.decided opens.decides.advances opens.labels.join)

choice_back : (P : Program) (d : Statement) (l : ChoiceLabels) (old a : Lowering) → OpensChoice P d l old a → a.back ≡ old.back
choice_back P d l old a opens =
    (binds_shifts l.if_true opens.decided a opens.binds).grows.back ∙ opens.decides.grows.back ∙ opens.relabels.shifts.grows.back

-- and of the first branch
pub choice_back_first : (around : Option Loop) (P : Program) (d : Statement) (l : ChoiceLabels) (initial old a : Lowering) → IsBackTarget initial.back initial.stages →
    Proceeds around initial old → OpensChoice P d l old a →
    IsBackTarget a.back a.stages
choice_back_first around P d l initial old a target before opens =
    back_after initial a (advances_both None_ initial.stages old.stages a.stages before.advances (choice_advance P d l old a opens)) (choice_back P d l old a opens ∙ before.back) target

-- the labels of an if are open where they are to be
pub false_open : (P : Program) (d : Statement) (l : ChoiceLabels) (around : Option Loop) (old a b : Lowering) → OpensChoice P d l old a → Proceeds around a b → IsOpen l.if_false b.stages
false_open P d l around old a b opens first = first.advances.open_ l.if_false (λ m. m) (choice_false P d l old a opens).open_

pub join_open : (P : Program) (d : Statement) (l : ChoiceLabels) (around : Option Loop) (old a b : Lowering) → OpensChoice P d l old a → Proceeds around a b → IsOpen l.join b.stages
join_open P d l around old a b opens first = first.advances.open_ l.join (λ m. m) (choice_join P d l old a opens).open_

pub choice_apart : (P : Program) (d : Statement) (l : ChoiceLabels) (old a : Lowering) → OpensChoice P d l old a → l.if_false < l.join
choice_apart P d l old a opens = opens.labels.second

pub turns_advance : (l : ChoiceLabels) (b e : Lowering) → TurnsChoice l b e → Advances (λ other. other ≡ l.if_false) b.stages e.stages
turns_advance l b e turns =
    advances_label (λ other. other ≡ l.if_false) b.stages turns.mid.stages e.stages (leaps_advance l.join b turns.mid turns.leaps) (binds_advance l.if_false turns.mid e turns.binds)

pub join_open_after : (P : Program) (d : Statement) (l : ChoiceLabels) (around : Option Loop) (old a b e g : Lowering) → OpensChoice P d l old a → Proceeds around a b → TurnsChoice l b e → Proceeds around e g →
    IsOpen l.join g.stages
join_open_after P d l around old a b e g opens first turns second =
    second.advances.open_ l.join (λ m. m)
    ((turns_advance l b e turns).open_ l.join (λ is. absurd (let lt = opens.labels.second in omega (arith, lt, is))) (join_open P d l around old a b opens first))

pub choice_targets : (around : Option Loop) (P : Program) (d : Statement) (l : ChoiceLabels) (initial old a b e : Lowering) → AreTargets around initial.stages → Proceeds around initial old → OpensChoice P d l old a →
    Proceeds around a b → TurnsChoice l b e → AreTargets around e.stages
choice_targets around P d l initial old a b e targets before opens first turns =
    targets_after around initial.stages e.stages
    (advances_both None_ initial.stages old.stages e.stages before.advances
    (bound_new l.if_false old.stages b.stages e.stages opens.labels.if_false.after
    (advances_both None_ old.stages a.stages b.stages (choice_advance P d l old a opens) first.advances) (turns_advance l b e turns)))
    targets

-- the back of what comes after the first branch
pub choice_back_target : (around : Option Loop) (P : Program) (d : Statement) (l : ChoiceLabels) (initial old a b e : Lowering) → IsBackTarget initial.back initial.stages →
    Proceeds around initial old → OpensChoice P d l old a →
    Proceeds around a b → TurnsChoice l b e → IsBackTarget e.back e.stages
choice_back_target around P d l initial old a b e target before opens first turns =
    back_after initial e
    (advances_both None_ initial.stages old.stages e.stages before.advances
    (bound_new l.if_false old.stages b.stages e.stages opens.labels.if_false.after
    (advances_both None_ old.stages a.stages b.stages (choice_advance P d l old a opens) first.advances) (turns_advance l b e turns)))
    ((binds_shifts l.if_false turns.mid e turns.binds).grows.back ∙ (leaps_shifts l.join b turns.mid turns.leaps).grows.back ∙ first.back ∙ choice_back P d l old a opens ∙ before.back)
    target

pub choice_proceeds : (around : Option Loop) (P : Program) (d : Statement) (l : ChoiceLabels) (old a b e g new : Lowering) → old.reached ≡ true → OpensChoice P d l old a → Proceeds around a b → TurnsChoice l b e →
    Proceeds around e g → Binds l.join g new → Proceeds around old new
choice_proceeds around P d l old a b e g new on opens first turns second closes =
    begun_proceeds around old new
    ((binds_shifts l.join g new closes).grows.back ∙ second.back ∙ (binds_shifts l.if_false turns.mid e turns.binds).grows.back ∙ (leaps_shifts l.join b turns.mid turns.leaps).grows.back ∙ first.back
    ∙ choice_back P d l old a opens) on
    (bound_new l.join old.stages g.stages new.stages opens.labels.join.after
    (advances_both None_ old.stages e.stages g.stages
    (bound_new l.if_false old.stages b.stages e.stages opens.labels.if_false.after
    (advances_both None_ old.stages a.stages b.stages (choice_advance P d l old a opens) first.advances) (turns_advance l b e turns))
    second.advances)
    (binds_advance l.join g new closes))
    (λ start begun.
    inr (first_after (λ other. other ≡ l.join) g.stages new.stages start (binds_advance l.join g new closes)
    (first_after None_ e.stages g.stages start second.advances
    (first_after (λ other. other ≡ l.if_false) b.stages e.stages start (turns_advance l b e turns)
    (first_after None_ a.stages b.stages start first.advances (choice_first P d l old a opens start begun))))))
    (λ label n head.
    inr (come_on (λ other. other ≡ l.join) label n g.stages new.stages (binds_advance l.join g new closes)
    (come_on None_ label n e.stages g.stages second.advances
    (come_on (λ other. other ≡ l.if_false) label n b.stages e.stages (turns_advance l b e turns)
    (come_on None_ label n a.stages b.stages first.advances (choice_comes P d l old a opens label n head))))))

-- ---- the head of a loop

here_begun : (label : ℕ) (old new : Lowering) → Begins label old new → IsHere new.stages label
here_begun label old new (inl p) = subst (λ (z : Lowering). IsHere z.stages label) (sym p.same) (placed_here label (marked label old) p.open_)
here_begun label old new (inr p) =
    subst (λ (z : Lowering). IsHere z.stages label) (sym p.same) (placed_here label p.mid (open_ended (Jump label) label (marked label old) p.mid p.ends.ends p.open_))

module _ (l : LoopLabels) (old begun : Lowering) (opens : OpensLoop l old begun) where
  loop_comes : (label n : ℕ) → IsHead label n old → HasCome label n begun.stages
  loop_comes label n head = begins_come label n l.head opens.labelled begun opens.begins (head_relabelled label n old opens.labelled opens.relabels head)

  pub loop_advance : Advances None_ old.stages begun.stages
  loop_advance =
      bound_new l.head old.stages opens.labelled.stages begun.stages opens.labels.head.after opens.relabels.advances (begins_advance l.head opens.labelled begun opens.begins)

  pub loop_begun : (start : ℕ) → Begun start old → Begun start begun
  loop_begun start b = begins_begun l.head opens.labelled begun opens.begins start (opens.relabels.begun start b)

  pub loop_back : begun.back ≡ old.back
  loop_back = (begins_shifts l.head opens.labelled begun opens.begins).grows.back ∙ opens.relabels.shifts.grows.back

  pub loop_turning : IsNewLabel l.turning old begun
  loop_turning = begun_new l l.turning old begun opens (let a = opens.labels.first in let b = opens.labels.second in omega (arith, a, b)) opens.labels.turning

  pub loop_leaving : IsNewLabel l.leaving old begun
  loop_leaving = begun_new l l.leaving old begun opens (let a = opens.labels.first in let b = opens.labels.second in let c = opens.labels.third in omega (arith, a, b, c)) opens.labels.leaving

module _ (P : Program) (d : Statement) (l : LoopLabels) (old a : Lowering) (opens : OpensTurn P d l old a) where
  to_decided : Advances None_ old.stages opens.decided.stages
  to_decided = advances_both None_ old.stages opens.begun.stages opens.decided.stages (loop_advance l old opens.begun opens.opens) opens.decides.advances

  to_body : Advances (λ other. other ≡ l.body) opens.decided.stages a.stages
  to_body = binds_advance l.body opens.decided a opens.binds

  pub turn_advance : Advances None_ old.stages a.stages
  turn_advance = bound_new l.body old.stages opens.decided.stages a.stages opens.opens.labels.body.after to_decided to_body

  turn_comes : (label n : ℕ) → IsHead label n old → HasCome label n a.stages
  turn_comes label n head =
      come_on (λ other. other ≡ l.body) label n opens.decided.stages a.stages to_body
      (come_on None_ label n opens.begun.stages opens.decided.stages opens.decides.advances (loop_comes l old opens.begun opens.opens label n head))

  turn_heads : (label n : ℕ) → Heads label n old → HasCome label n a.stages
  turn_heads label n (inl head) = turn_comes label n head
  turn_heads label n (inr came) = come_on None_ label n old.stages a.stages turn_advance came

  pub turn_back : a.back ≡ old.back
  turn_back =
      (binds_shifts l.body opens.decided a opens.binds).grows.back ∙ opens.decides.grows.back ∙ loop_back l old opens.begun opens.opens

  pub turn_back_target : IsBackTarget old.back old.stages → IsBackTarget a.back a.stages
  turn_back_target target = back_after old a turn_advance turn_back target

  pub turn_first : (start : ℕ) → Begun start old → IsFirst start a.stages
  turn_first start b =
      first_after (λ other. other ≡ l.body) opens.decided.stages a.stages start to_body (opens.decides.first start (loop_begun l old opens.begun opens.opens start b))

  -- the head's place is a stage that takes a step
  pub turn_head : HasCome l.head (length opens.begun.stages.stages.items) a.stages
  turn_head =
      come_on (λ other. other ≡ l.body) l.head _ opens.decided.stages a.stages to_body
      (opens.decides.comes l.head (here_begun l.head opens.opens.labelled opens.begun opens.opens.begins))

  pub turn_turning : IsNewLabel l.turning old a
  turn_turning =
      new_bound l.body l.turning old opens.decided a (λ e. absurd (let lt = opens.opens.labels.second in omega (arith, lt, e))) to_body
      (new_more l.turning old opens.begun opens.decided opens.decides.advances (loop_turning l old opens.begun opens.opens))

  pub turn_leaving : IsNewLabel l.leaving old a
  turn_leaving =
      new_bound l.body l.leaving old opens.decided a (λ e. absurd (let lt = opens.opens.labels.second in let more = opens.opens.labels.third in omega (arith, lt, more, e))) to_body
      (new_more l.leaving old opens.begun opens.decided opens.decides.advances (loop_leaving l old opens.begun opens.opens))

  pub turn_target : IsTarget l.head a.stages
  turn_target = inr (length opens.begun.stages.stages.items, turn_head.at, turn_head.busy)

closes_back : (l : LoopLabels) (b new : Lowering) → ClosesTurn l b new → new.back ≡ b.back
closes_back l b new closes = (binds_shifts l.leaving closes.mid new closes.binds).grows.back ∙ (leaps_shifts l.head b closes.mid closes.leaps).grows.back

closes_advance : (l : LoopLabels) (b new : Lowering) → ClosesTurn l b new → Advances (λ other. other ≡ l.leaving) b.stages new.stages
closes_advance l b new closes =
    advances_label (λ other. other ≡ l.leaving) b.stages closes.mid.stages new.stages (leaps_advance l.head b closes.mid closes.leaps) (binds_advance l.leaving closes.mid new closes.binds)

-- ---- while

pub while_targets : (P : Program) (d : Statement) (l : LoopLabels) (old a : Lowering) → OpensTurn P d l old a → AreTargets (Some (while_labels l)) a.stages
while_targets P d l old a opens = (inl (turn_leaving P d l old a opens).open_, turn_target P d l old a opens)

pub while_head : (P : Program) (d : Statement) (l : LoopLabels) (around : Option Loop) (old a b : Lowering) → OpensTurn P d l old a → Proceeds around a b → IsTarget l.head b.stages
while_head P d l around old a b opens inner = target_after a.stages b.stages l.head inner.advances (turn_target P d l old a opens)

pub while_leaving : (P : Program) (d : Statement) (l : LoopLabels) (around : Option Loop) (old a b : Lowering) → OpensTurn P d l old a → Proceeds around a b → IsOpen l.leaving b.stages
while_leaving P d l around old a b opens inner = inner.advances.open_ l.leaving (λ m. m) (turn_leaving P d l old a opens).open_

pub while_proceeds : (around inside : Option Loop) (P : Program) (d : Statement) (l : LoopLabels) (old a b new : Lowering) → old.reached ≡ true → OpensTurn P d l old a → Proceeds inside a b → ClosesTurn l b new →
    Proceeds around old new
while_proceeds around inside P d l old a b new on opens inner closes =
    begun_proceeds around old new (closes_back l b new closes ∙ inner.back ∙ turn_back P d l old a opens) on
    (bound_new l.leaving old.stages b.stages new.stages opens.opens.labels.leaving.after
    (advances_both None_ old.stages a.stages b.stages (turn_advance P d l old a opens) inner.advances) (closes_advance l b new closes))
    (λ start begun.
    inr (first_after (λ other. other ≡ l.leaving) b.stages new.stages start (closes_advance l b new closes)
    (first_after None_ a.stages b.stages start inner.advances (turn_first P d l old a opens start begun))))
    (λ label n head.
    inr (come_on (λ other. other ≡ l.leaving) label n b.stages new.stages (closes_advance l b new closes)
    (come_on None_ label n a.stages b.stages inner.advances (turn_comes P d l old a opens label n head))))

-- ---- do

pub do_targets : (l : LoopLabels) (old a : Lowering) → OpensLoop l old a → AreTargets (Some (labels_of l)) a.stages
do_targets l old a opens = (inl (loop_leaving l old a opens).open_, inl (loop_turning l old a opens).open_)

pub do_turning : (l : LoopLabels) (around : Option Loop) (old a b : Lowering) → OpensLoop l old a → Proceeds around a b → IsOpen l.turning b.stages
do_turning l around old a b opens inner = inner.advances.open_ l.turning (λ m. m) (loop_turning l old a opens).open_

pub do_leaving : (l : LoopLabels) (around : Option Loop) (old a b : Lowering) → OpensLoop l old a → Proceeds around a b → IsOpen l.leaving b.stages
do_leaving l around old a b opens inner = inner.advances.open_ l.leaving (λ m. m) (loop_leaving l old a opens).open_

pub do_back_target : (l : LoopLabels) (old a : Lowering) → OpensLoop l old a → IsBackTarget old.back old.stages → IsBackTarget a.back a.stages
do_back_target l old a opens target = back_after old a (loop_advance l old a opens) (loop_back l old a opens) target

-- the label where a return leads is older than those of the loop
within : (label : ℕ) (s : Stages) → IsTarget label s → label < length s.labels
within label s (inl open_) = slice_get_within s.labels label None open_
within label s (inr at) = slice_get_within s.labels label (Some at.1.number) at.1.bound

pub do_back_before : (l : LoopLabels) (around : Option Loop) (old a b : Lowering) → OpensLoop l old a → Proceeds around a b → IsBackTarget old.back old.stages → IsBackBefore l.turning b.back
do_back_before l around old a b opens inner target = subst (IsBackBefore l.turning) (sym (inner.back ∙ loop_back l old a opens)) (by old.back target)
  where
    by : (o : Option Back) → IsBackTarget o old.stages → IsBackBefore l.turning o
    by None target = tt
    by (Some back) target = let lt = within back.label old.stages target in let after = opens.labels.turning.after in omega (arith, lt, after)

-- and stays a target where a label of the loop gets its place
pub bound_back_target : (label : ℕ) (old new : Lowering) → Binds label old new → IsBackBefore label old.back → IsBackTarget old.back old.stages → IsBackTarget new.back new.stages
bound_back_target label old new binds before target = subst (λ o. IsBackTarget o new.stages) (sym (binds_shifts label old new binds).grows.back) (by old.back before target)
  where
    stays : (other : ℕ) → other < label → IsTarget other old.stages → IsTarget other new.stages
    stays other lt (inl open_) = inl ((binds_advance label old new binds).open_ other (λ e. absurd (omega (arith, lt, e))) open_)
    stays other lt (inr at) = inr (at.0, (binds_advance label old new binds).at other at.0 at.1, (binds_advance label old new binds).busy at.0 at.2)

    by : (o : Option Back) → IsBackBefore label o → IsBackTarget o old.stages → IsBackTarget o new.stages
    by None before target = tt
    by (Some back) before target = stays back.label before target

pub do_apart : (l : LoopLabels) (old a : Lowering) → OpensLoop l old a → l.turning < l.leaving
do_apart l old a opens = opens.labels.third

module _ (P : Program) (d : Statement) (l : LoopLabels) (old a b new : Lowering) (opens : OpensLoop l old a) (inner : Proceeds (Some (labels_of l)) a b) (closes : ClosesDo P d l b new) where
  old_b : Advances None_ old.stages b.stages
  old_b = advances_both None_ old.stages a.stages b.stages (loop_advance l old a opens) inner.advances

  old_asked : Advances None_ old.stages closes.asked.stages
  old_asked =
      advances_both None_ old.stages closes.turned.stages closes.asked.stages
      (bound_new l.turning old.stages b.stages closes.turned.stages opens.labels.turning.after old_b (binds_advance l.turning b closes.turned closes.turns))
      (asks_advance P d l closes.turned closes.asked closes.asks)

  do_advance : Advances None_ old.stages new.stages
  do_advance = bound_new l.leaving old.stages closes.asked.stages new.stages opens.labels.leaving.after old_asked (binds_advance l.leaving closes.asked new closes.binds)

  abbrev Left : ℕ → Type 0
  Left label = IsOut (Some (labels_of l)) label × (label ≡ l.turning → ⊥)

  asked_begun : (start : ℕ) → BegunOr Left start closes.turned → BegunOr Left start closes.asked
  asked_begun start begun = by closes.asks
    where
      by : Asks P d l closes.turned closes.asked → BegunOr Left start closes.asked
      by (inl p) = subst (BegunOr Left start) (sym p.same) begun
      by (inr p) = inl (inr (p.decides.first start (reached_begun Left start closes.turned p.on begun)))

  -- neither label is waited for once both have their places
  none_left : (start : ℕ) → BegunOr (λ label. Left label × (label ≡ l.leaving → ⊥)) start new → Begun start new
  none_left start (inl begun) = begun
  none_left start (inr w) = absurd (⊎_elim w.out.1 w.out.0.1 w.out.0.0)

  do_begun : (start : ℕ) → Begun start old → Begun start new
  do_begun start begun =
      let b_open = do_leaving l (Some (labels_of l)) old a b opens inner in
      let turned_open = (binds_advance l.turning b closes.turned closes.turns).open_ l.leaving (λ e. absurd (let lt = opens.labels.third in omega (arith, lt, e))) b_open in
      let asked_open = (asks_advance P d l closes.turned closes.asked closes.asks).open_ l.leaving (λ m. m) turned_open in
      none_left start
      (binds_begun l.leaving closes.asked new closes.binds asked_open Left start
      (asked_begun start
      (binds_begun l.turning b closes.turned closes.turns (do_turning l (Some (labels_of l)) old a b opens inner) (IsOut (Some (labels_of l))) start
      (inner.begun start (inl (loop_begun l old a opens start begun))))))

  asks_back : Asks P d l closes.turned closes.asked → closes.asked.back ≡ closes.turned.back
  asks_back (inl p) = ap (λ (z : Lowering). z.back) p.same
  asks_back (inr p) = p.decides.grows.back

  do_back : new.back ≡ old.back
  do_back =
      (binds_shifts l.leaving closes.asked new closes.binds).grows.back ∙ asks_back closes.asks ∙
      (binds_shifts l.turning b closes.turned closes.turns).grows.back ∙ inner.back ∙ loop_back l old a opens

  do_comes : (label n : ℕ) → IsHead label n old → HasCome label n new.stages
  do_comes label n head =
      come_on (λ other. other ≡ l.leaving) label n closes.asked.stages new.stages (binds_advance l.leaving closes.asked new closes.binds)
      (come_on None_ label n closes.turned.stages closes.asked.stages (asks_advance P d l closes.turned closes.asked closes.asks)
      (come_on (λ other. other ≡ l.turning) label n b.stages closes.turned.stages (binds_advance l.turning b closes.turned closes.turns)
      (come_on None_ label n a.stages b.stages inner.advances (loop_comes l old a opens label n head))))

  pub do_proceeds : (around : Option Loop) → old.reached ≡ true → Proceeds around old new
  do_proceeds around on = begun_proceeds around old new do_back on do_advance do_begun (λ label n head. inr (do_comes label n head))

-- ---- for

pub for_targets : (P : Program) (d : Statement) (l : LoopLabels) (old a : Lowering) → OpensTurn P d l old a → AreTargets (Some (labels_of l)) a.stages
for_targets P d l old a opens = (inl (turn_leaving P d l old a opens).open_, inl (turn_turning P d l old a opens).open_)

pub for_turning : (P : Program) (d : Statement) (l : LoopLabels) (around : Option Loop) (old a b : Lowering) → OpensTurn P d l old a → Proceeds around a b → IsOpen l.turning b.stages
for_turning P d l around old a b opens inner = inner.advances.open_ l.turning (λ m. m) (turn_turning P d l old a opens).open_

-- the last expression of a for, behind its body
pub for_back_target : (P : Program) (d : Statement) (l : LoopLabels) (inside : Option Loop) (old a b c : Lowering) (site : ℕ) → OpensTurn P d l old a → Proceeds inside a b → Binds l.turning (at_site site b) c →
    IsBackTarget old.back old.stages → IsBackTarget c.back c.stages
for_back_target P d l inside old a b c site opens inner turns target =
    back_after old c
    (bound_new l.turning old.stages b.stages c.stages opens.opens.labels.turning.after
    (advances_both None_ old.stages a.stages b.stages (turn_advance P d l old a opens) inner.advances) (binds_advance l.turning (at_site site b) c turns))
    ((binds_shifts l.turning (at_site site b) c turns).grows.back ∙ inner.back ∙ turn_back P d l old a opens)
    target

module _ (P : Program) (d : Statement) (l : LoopLabels) (inside : Option Loop) (old a b c e : Lowering) (site : ℕ) (opens : OpensTurn P d l old a) (inner : Proceeds inside a b)
    (turns : Binds l.turning (at_site site b) c) (last : Proceeds None c e) where
  b_c : Advances (λ other. other ≡ l.turning) b.stages c.stages
  b_c = binds_advance l.turning (at_site site b) c turns

  pub for_head : IsTarget l.head e.stages
  for_head =
      let came = come_on None_ l.head _ c.stages e.stages last.advances
      (come_on (λ other. other ≡ l.turning) l.head _ b.stages c.stages b_c (come_on None_ l.head _ a.stages b.stages inner.advances (turn_head P d l old a opens))) in
      inr (length opens.begun.stages.stages.items, came.at, came.busy)

  pub for_leaving : IsOpen l.leaving e.stages
  for_leaving =
      last.advances.open_ l.leaving (λ m. m)
      (b_c.open_ l.leaving (λ is. absurd (let lt = opens.opens.labels.third in omega (arith, lt, is))) (inner.advances.open_ l.leaving (λ m. m) (turn_leaving P d l old a opens).open_))

  old_e : Advances None_ old.stages e.stages
  old_e =
      advances_both None_ old.stages c.stages e.stages
      (bound_new l.turning old.stages b.stages c.stages opens.opens.labels.turning.after
      (advances_both None_ old.stages a.stages b.stages (turn_advance P d l old a opens) inner.advances) b_c) last.advances

  old_e_back : e.back ≡ old.back
  old_e_back = last.back ∙ (binds_shifts l.turning (at_site site b) c turns).grows.back ∙ inner.back ∙ turn_back P d l old a opens

  first_e : (start : ℕ) → Begun start old → IsFirst start e.stages
  first_e start begun =
      first_after None_ c.stages e.stages start last.advances
      (first_after (λ other. other ≡ l.turning) b.stages c.stages start b_c
      (first_after None_ a.stages b.stages start inner.advances (turn_first P d l old a opens start begun)))

  module _ (new : Lowering) (after : ℕ) (closes : ClosesTurn l (at_site after e) new) where
    turns_new : Advances None_ old.stages new.stages
    turns_new = bound_new l.leaving old.stages e.stages new.stages opens.opens.labels.leaving.after old_e (closes_advance l (at_site after e) new closes)

    turns_first : (start : ℕ) → Begun start old → IsFirst start new.stages
    turns_first start begun = first_after (λ other. other ≡ l.leaving) e.stages new.stages start (closes_advance l (at_site after e) new closes) (first_e start begun)

    turns_heads : (label n : ℕ) → Heads label n old → HasCome label n new.stages
    turns_heads label n head =
        come_on (λ other. other ≡ l.leaving) label n e.stages new.stages (closes_advance l (at_site after e) new closes)
        (come_on None_ label n c.stages e.stages last.advances
        (come_on (λ other. other ≡ l.turning) label n b.stages c.stages b_c
        (come_on None_ label n a.stages b.stages inner.advances (turn_heads P d l old a opens label n head))))

    pub for_proceeds : (around : Option Loop) (before before_site : Lowering) → before.reached ≡ true → Proceeds None before before_site → old.stages ≡ before_site.stages →
        old.reached ≡ before_site.reached → old.back ≡ before_site.back → before_site.block.steps ≤ old.block.steps → Proceeds around before new
    for_proceeds around before before_site on first stages reached back more =
        begun_proceeds around before new (closes_back l (at_site after e) new closes ∙ old_e_back ∙ back ∙ first.back) on
        (advances_both None_ before.stages old.stages new.stages
        (advances_both None_ before.stages before_site.stages old.stages first.advances (advances_same before_site old stages reached)) turns_new)
        (λ start begun. inr (turns_first start (begun_same before_site old stages reached start (none_out start (first.begun start (inl begun))))))
        (λ label n head. inr (turns_heads label n (head_same label n before_site old stages reached more (first.heads label n (inl head)))))
      where
        none_out : (start : ℕ) → BegunOr (IsOut None) start before_site → Begun start before_site
        none_out start (inl begun) = begun
        none_out start (inr w) = absurd w.out
