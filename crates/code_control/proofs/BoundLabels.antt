-- The labels of an if and of loops get their places.
use Rattle.std.proofs.Common.{◌≡◌, ℕ, suc, ◌<◌, [], ◌∷◌, length, Some, None, sym, ap, ◌∙◌, subst, inl, inr, arith, length-append}
use Rattle.std.proofs.lemmas.Option.{slice_get_within}
use Rattle.c_program.specs.Tree.{Statement, Program}
use Rattle.code_control.specs.declared.branching.ChoiceLabels.{ChoiceLabels}
use Rattle.code_control.specs.declared.branching.LoopLabels.{LoopLabels}
use Rattle.code_places.specs.declared.stages.Stages.{Stages}
use Rattle.code_places.specs.declared.lowering.Lowering.{Lowering}
use Rattle.code_places.specs.Labels.{IsOpen, IsTarget, Advances}
use Rattle.code_places.specs.Control.{with_label, Binds, Leaps}
use Rattle.code_control.specs.Deciding.{Decides}
use Rattle.code_places.specs.Doing.{Relabels, at_site}
use Rattle.code_control.specs.Branching.{IsNewLabel, AreTwo, AreChoice, AreLoop, OpensLoop, Asks}
use Rattle.code_places.proofs.LabelSteps.{None_, advances_refl, labels_more}
use Rattle.code_places.proofs.OpenLabels.{label_open, begins_advance, binds_advance, leaps_advance}
use Rattle.code_places.specs.declared.targets.Loop.{Loop}

-- ---- the labels of a loop, of which break and continue know

-- of a while, whose continue goes to its head
abbrev pub while_labels : LoopLabels → Loop
while_labels l = record { leaving = l.leaving; turning = Some l.head }

-- of a do and of a for
abbrev pub labels_of : LoopLabels → Loop
labels_of l = record { leaving = l.leaving; turning = Some l.turning }

-- ---- new labels

pub new_more : (label : ℕ) (a b c : Lowering) → Advances None_ b.stages c.stages → IsNewLabel label a b → IsNewLabel label a c
new_more label a b c h n = record { after = n.after; open_ = h.open_ label (λ m. m) n.open_ }

within : (label : ℕ) (a b : Lowering) → IsNewLabel label a b → label < length b.stages.labels
within label a b n = slice_get_within b.stages.labels label None n.open_

label_advance : (a b : Lowering) → b ≡ with_label a → Advances None_ a.stages b.stages
label_advance a b is = labels_more a.stages b.stages (ap (λ (z : Lowering). z.stages) is)

one_more : (a b : Lowering) → b ≡ with_label a → length b.stages.labels ≡ suc (length a.stages.labels)
one_more a b is = ap (λ (z : Lowering). length z.stages.labels) is ∙ length-append a.stages.labels (None ∷ []) ∙ (omega arith)

pub two_new : (first second : ℕ) (a b c : Lowering) → first ≡ length a.stages.labels → b ≡ with_label a → second ≡ length b.stages.labels → c ≡ with_label b → AreTwo first second a c
two_new first second a b c one is other more = record {
  one = record { after = omega arith; open_ = (label_advance b c more).open_ first (λ m. m) (label_open first a b one is) };
  other = record { after = (let n = one_more a b is in omega (arith, n, other)); open_ = label_open second b c other more };
  apart = (let n = one_more a b is in omega (arith, n, one, other));
}

pub choice_new : (l : ChoiceLabels) (a b c : Lowering) → AreTwo l.if_true l.if_false a b → l.join ≡ length b.stages.labels → c ≡ with_label b → AreChoice l a c
choice_new l a b c two number is =
    let lt = within l.if_false a b two.other in
    let from = two.other.after in
    record {
      if_true = new_more l.if_true a b c (label_advance b c is) two.one;
      if_false = new_more l.if_false a b c (label_advance b c is) two.other;
      join = record { after = omega (arith, lt, from, number); open_ = label_open l.join b c number is };
      first = two.apart;
      second = omega (arith, lt, number);
    }

pub loop_new : (l : LoopLabels) (a b c : Lowering) → AreTwo l.head l.body a b → Relabels b c → AreTwo l.turning l.leaving b c → AreLoop l a c
loop_new l a b c two relabels more =
    let lt = within l.body a b two.other in
    let from = two.other.after in
    let one = more.one.after in
    let other = more.other.after in
    record {
      head = new_more l.head a b c relabels.advances two.one;
      body = new_more l.body a b c relabels.advances two.other;
      turning = record { after = omega (arith, lt, from, one); open_ = more.one.open_ };
      leaving = record { after = omega (arith, lt, from, other); open_ = more.other.open_ };
      first = two.apart;
      second = omega (arith, lt, one);
      third = more.apart;
    }

-- ---- labels that wait for their place

pub open_target : (label : ℕ) (s : Stages) → IsOpen label s → IsTarget label s
open_target label s o = inl o

pub choice_open : (P : Program) (d : Statement) (l : ChoiceLabels) (old labelled decided : Lowering) → AreChoice l old labelled → Decides P d None l.if_true l.if_false labelled decided → IsOpen l.if_true decided.stages
choice_open P d l old labelled decided labels decides = decides.advances.open_ l.if_true (λ m. m) labels.if_true.open_

pub leaps_open : (label other : ℕ) (old new : Lowering) → Leaps label old new → IsOpen other old.stages → IsOpen other new.stages
leaps_open label other old new leaps o = (leaps_advance label old new leaps).open_ other (λ m. m) o

pub begun_new : (l : LoopLabels) (label : ℕ) (old begun : Lowering) → (opens : OpensLoop l old begun) → l.head < label → IsNewLabel label old opens.labelled → IsNewLabel label old begun
begun_new l label old begun opens lt n =
    record { after = n.after; open_ = (begins_advance l.head opens.labelled begun opens.begins).open_ label (λ e. absurd (omega (arith, lt, e))) n.open_ }

pub body_open : (P : Program) (d : Statement) (l : LoopLabels) (old begun decided : Lowering) → OpensLoop l old begun → Decides P d None l.body l.leaving begun decided → IsOpen l.body decided.stages
body_open P d l old begun decided opens decides = decides.advances.open_ l.body (λ m. m) (begun_new l l.body old begun opens opens.labels.first opens.labels.body).open_

pub asks_advance : (P : Program) (d : Statement) (l : LoopLabels) (old new : Lowering) → Asks P d l old new → Advances None_ old.stages new.stages
asks_advance P d l old new (inl p) = subst (λ (z : Lowering). Advances None_ old.stages z.stages) (sym p.same) (advances_refl None_ old.stages)
asks_advance P d l old new (inr p) = p.decides.advances

pub leaving_open : (P : Program) (d : Statement) (l : LoopLabels) (old turned asked : Lowering) → l.turning < l.leaving → IsOpen l.leaving old.stages → Binds l.turning old turned → Asks P d l turned asked →
    IsOpen l.leaving asked.stages
leaving_open P d l old turned asked lt o binds asks =
    (asks_advance P d l turned asked asks).open_ l.leaving (λ m. m) ((binds_advance l.turning old turned binds).open_ l.leaving (λ e. absurd (omega (arith, lt, e))) o)

pub site_open : (label site : ℕ) (old mid : Lowering) → mid ≡ at_site site old → IsOpen label old.stages → IsOpen label mid.stages
site_open label site old mid is o = subst (λ (z : Lowering). IsOpen label z.stages) (sym is) o

pub site_target : (label site : ℕ) (old mid : Lowering) → mid ≡ at_site site old → IsTarget label old.stages → IsTarget label mid.stages
site_target label site old mid is o = subst (λ (z : Lowering). IsTarget label z.stages) (sym is) o
