use Rattle.code_merge.specs.Steps.{IsReady, Merges}
use Rattle.code_merge.proofs.merger.Merger.extend_heads.Given as goal

abbrev pub invariant-loop-first : goal.invariant-loop-first
invariant-loop-first l = record { merges : Merges l.fn.self l.self; ready : IsReady l.self }
