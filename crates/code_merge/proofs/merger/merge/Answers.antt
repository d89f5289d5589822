use Rattle.std.proofs.Common.{sym}
use Rattle.code_merge.proofs.merger.merge.Goals as goal

pub returns-clause-typed : goal.returns-clause-typed
returns-clause-typed c = λ P f le typed. (c.in_ok-stages.ensures.keeps P f c.args.code le (sym c.len.ensures) typed).0

pub returns-clause-lowered : goal.returns-clause-lowered
returns-clause-lowered c = λ P f le typed. (c.in_ok-stages.ensures.keeps P f c.args.code le (sym c.len.ensures) typed).1

pub returns-clause-idle : goal.returns-clause-idle
returns-clause-idle c = λ P f le typed. (c.in_ok-stages.ensures.keeps P f c.args.code le (sym c.len.ensures) typed).2
