use Rattle.std.proofs.Common.{ap}
use Rattle.code_merge.proofs.Dropped.{lowered_kept, typed_kept, count_kept, maximal_kept, none_left}
use Rattle.code_merge.proofs.dropping.drop_empty.Goals as goal

pub returns-clause-typed : goal.returns-clause-typed
returns-clause-typed c = typed_kept c.args.code _ (ap (λ ss. record c.args.code { stages = ss }) c.in_ok-stages.ensures)

pub returns-clause-lowered : goal.returns-clause-lowered
returns-clause-lowered c = lowered_kept c.args.code _ (ap (λ ss. record c.args.code { stages = ss }) c.in_ok-stages.ensures)

pub returns-clause-maximal : goal.returns-clause-maximal
returns-clause-maximal c = maximal_kept c.args.code _ (ap (λ ss. record c.args.code { stages = ss }) c.in_ok-stages.ensures)

pub returns-clause-tight : goal.returns-clause-tight
returns-clause-tight c = none_left c.args.code _ (ap (λ ss. record c.args.code { stages = ss }) c.in_ok-stages.ensures)

pub returns-clause-idle : goal.returns-clause-idle
returns-clause-idle c = count_kept c.args.code _ (ap (λ ss. record c.args.code { stages = ss }) c.in_ok-stages.ensures)
