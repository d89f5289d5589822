-- How the parts of an if and of loops let the code grow.
use Rattle.std.proofs.Common.{◌≡◌, ℕ, true, false, length, None, refl, sym, ap, ◌∙◌, subst, inl, inr}
use Rattle.c_program.specs.Tree.{Statement, Program}
use Rattle.code_control.specs.declared.branching.ChoiceLabels.{ChoiceLabels}
use Rattle.code_control.specs.declared.branching.LoopLabels.{LoopLabels}
use Rattle.code_places.specs.declared.lowering.Lowering.{Lowering}
use Rattle.code_places.specs.Control.{with_label, Begins, Binds, Leaps}
use Rattle.code_control.specs.Deciding.{Decides}
use Rattle.code_places.specs.Doing.{Grows, Relabels, at_site}
use Rattle.code_control.specs.Branching.{AreChoice, AreLoop, OpensChoice, TurnsChoice, OpensLoop, OpensTurn, ClosesTurn, Asks, ClosesDo}
use Rattle.code_places.proofs.CodeGrowth.{relabels_both, label_relabels}

pub three_labels : (a b c : Lowering) → Relabels a b → c ≡ with_label b → Relabels a c
three_labels a b c h is = relabels_both a b c h (subst (Relabels b) (sym is) (label_relabels b))

pub two_labels : (a b c : Lowering) → b ≡ with_label a → c ≡ with_label b → Relabels a c
two_labels a b c h is = three_labels a b c (subst (Relabels a) (sym h) (label_relabels a)) is

pub opens_choice : (P : Program) (d : Statement) (l : ChoiceLabels) (old labelled decided new : Lowering) → Relabels old labelled → AreChoice l old labelled → Decides P d None l.if_true l.if_false labelled decided →
    Binds l.if_true decided new → OpensChoice P d l old new
opens_choice P d l old labelled decided new relabels labels decides binds = record { labelled = labelled; relabels = relabels; labels = labels; decided = decided; decides = decides; binds = binds }

pub turns_choice : (l : ChoiceLabels) (old mid new : Lowering) → Leaps l.join old mid → Binds l.if_false mid new → TurnsChoice l old new
turns_choice l old mid new leaps binds = record { mid = mid; leaps = leaps; binds = binds }

pub opens_loop : (l : LoopLabels) (old labelled new : Lowering) → Relabels old labelled → AreLoop l old labelled → Begins l.head labelled new → OpensLoop l old new
opens_loop l old labelled new relabels labels begins = record { labelled = labelled; relabels = relabels; labels = labels; begins = begins }

pub opens_turn : (P : Program) (d : Statement) (l : LoopLabels) (old begun decided new : Lowering) → OpensLoop l old begun → Decides P d None l.body l.leaving begun decided → Binds l.body decided new →
    OpensTurn P d l old new
opens_turn P d l old begun decided new opens decides binds = record { begun = begun; opens = opens; decided = decided; decides = decides; binds = binds }

pub closes_turn : (l : LoopLabels) (old mid new : Lowering) → Leaps l.head old mid → Binds l.leaving mid new → ClosesTurn l old new
closes_turn l old mid new leaps binds = record { mid = mid; leaps = leaps; binds = binds }

pub asks_not : (P : Program) (d : Statement) (l : LoopLabels) (c : Lowering) → c.reached ≡ false → Asks P d l c c
asks_not P d l c off = inl (record { off = off; same = refl })

pub asks_there : (P : Program) (d : Statement) (l : LoopLabels) (old new : Lowering) → old.reached ≡ true → Decides P d None l.head l.leaving old new → Asks P d l old new
asks_there P d l old new on decides = inr (record { on = on; decides = decides })

pub closes_do : (P : Program) (d : Statement) (l : LoopLabels) (old turned asked new : Lowering) → Binds l.turning old turned → Asks P d l turned asked → Binds l.leaving asked new → ClosesDo P d l old new
closes_do P d l old turned asked new turns asks binds = record { turned = turned; turns = turns; asked = asked; asks = asks; binds = binds }

pub opens_for : (P : Program) (d : Statement) (l : LoopLabels) (site : ℕ) (old mid new : Lowering) → mid ≡ at_site site old → OpensTurn P d l mid new → OpensTurn P d l (at_site site old) new
opens_for P d l site old mid new is opens = subst (λ (z : Lowering). OpensTurn P d l z new) is opens

pub turns_for : (label site : ℕ) (old mid new : Lowering) → mid ≡ at_site site old → Binds label mid new → Binds label (at_site site old) new
turns_for label site old mid new is binds = subst (λ (z : Lowering). Binds label z new) is binds

pub closes_for : (l : LoopLabels) (site : ℕ) (old mid new : Lowering) → mid ≡ at_site site old → ClosesTurn l mid new → ClosesTurn l (at_site site old) new
closes_for l site old mid new is closes = subst (λ (z : Lowering). ClosesTurn l z new) is closes
