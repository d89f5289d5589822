-- The parts of an if and of loops.
use Rattle.std.specs.Prelude.{◌≡◌, ℕ, ◌<◌, ◌≤◌, true, Option, Some, None, length, ◌⊎◌}
use Rattle.c_program.specs.Tree.{Statement, Program}
use Rattle.code_control.specs.declared.branching.ChoiceLabels.{ChoiceLabels}
use Rattle.code_control.specs.declared.branching.LoopLabels.{LoopLabels}
use Rattle.code_places.specs.declared.targets.Back.{Back}
use Rattle.code_places.specs.declared.lowering.Lowering.{Lowering}
use Rattle.code_places.specs.Labels.{IsOpen}
use Rattle.code_places.specs.Control.{Begins, Binds, Leaps, StaysOff}
use Rattle.code_control.specs.Deciding.{Decides}
use Rattle.code_places.specs.Doing.{Relabels}

-- a label that is new there, without a place yet
pub record IsNewLabel (label : ℕ) (old new : Lowering) : Type 0 where
  pub after : length old.stages.labels ≤ label
  pub open_ : IsOpen label new.stages

pub record AreTwo (first second : ℕ) (old new : Lowering) : Type 0 where
  pub one : IsNewLabel first old new
  pub other : IsNewLabel second old new
  pub apart : first < second

-- the labels of an if
pub record AreChoice (l : ChoiceLabels) (old new : Lowering) : Type 0 where
  pub if_true : IsNewLabel l.if_true old new
  pub if_false : IsNewLabel l.if_false old new
  pub join : IsNewLabel l.join old new
  pub first : l.if_true < l.if_false
  pub second : l.if_false < l.join

-- those of a loop
pub record AreLoop (l : LoopLabels) (old new : Lowering) : Type 0 where
  pub head : IsNewLabel l.head old new
  pub body : IsNewLabel l.body old new
  pub turning : IsNewLabel l.turning old new
  pub leaving : IsNewLabel l.leaving old new
  pub first : l.head < l.body
  pub second : l.body < l.turning
  pub third : l.turning < l.leaving

-- a return leads to a label that is older than that one
abbrev pub IsBackBefore : ℕ → Option Back → Type 0
IsBackBefore label None = Unit {0}
IsBackBefore label (Some b) = b.label < label

-- the parts of an if and of loops

pub record OpensChoice (P : Program) (d : Statement) (l : ChoiceLabels) (old new : Lowering) : Type 0 where
  pub labelled : Lowering
  pub relabels : Relabels old labelled
  pub labels : AreChoice l old labelled
  pub decided : Lowering
  pub decides : Decides P d None l.if_true l.if_false labelled decided
  pub binds : Binds l.if_true decided new

pub record TurnsChoice (l : ChoiceLabels) (old new : Lowering) : Type 0 where
  pub mid : Lowering
  pub leaps : Leaps l.join old mid
  pub binds : Binds l.if_false mid new

pub record OpensLoop (l : LoopLabels) (old new : Lowering) : Type 0 where
  pub labelled : Lowering
  pub relabels : Relabels old labelled
  pub labels : AreLoop l old labelled
  pub begins : Begins l.head labelled new

pub record OpensTurn (P : Program) (d : Statement) (l : LoopLabels) (old new : Lowering) : Type 0 where
  pub begun : Lowering
  pub opens : OpensLoop l old begun
  pub decided : Lowering
  pub decides : Decides P d None l.body l.leaving begun decided
  pub binds : Binds l.body decided new

pub record ClosesTurn (l : LoopLabels) (old new : Lowering) : Type 0 where
  pub mid : Lowering
  pub leaps : Leaps l.head old mid
  pub binds : Binds l.leaving mid new

pub record AsksThere (P : Program) (d : Statement) (l : LoopLabels) (old new : Lowering) : Type 0 where
  pub on : old.reached ≡ true
  pub decides : Decides P d None l.head l.leaving old new

abbrev pub Asks : Program → Statement → LoopLabels → Lowering → Lowering → Type 0
Asks P d l old new = StaysOff old new ⊎ AsksThere P d l old new

pub record ClosesDo (P : Program) (d : Statement) (l : LoopLabels) (old new : Lowering) : Type 0 where
  pub turned : Lowering
  pub turns : Binds l.turning old turned
  pub asked : Lowering
  pub asks : Asks P d l turned asked
  pub binds : Binds l.leaving asked new
