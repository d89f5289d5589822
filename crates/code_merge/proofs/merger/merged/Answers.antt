use Rattle.std.proofs.Common.{sym, subst}
use Rattle.code_merge.specs.Kept.{Keeps}
use Rattle.code_merge.proofs.Chains.{merged_keeps}
use Rattle.code_merge.proofs.merger.merged.Goals as goal

pub returns-clause-keeps : goal.returns-clause-keeps
returns-clause-keeps c =
    subst (Keeps c.args.most c.args.variables c.args.stages) (sym c.from_vec.ensures)
    (merged_keeps _ c.extend_heads.new.self c.extend_all.new.self _ _ c.in_ok-stages.ensures c.in_ok-held.ensures.size c.in_ok-extend_heads.ensures.0
    c.in_ok-extend_all.ensures.0)
