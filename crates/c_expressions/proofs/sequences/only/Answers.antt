use Rattle.std.proofs.Common.{sym, ap, ◌∙◌, map}
use Rattle.c_program.specs.Plain.{boxed_statement_of}
use Rattle.c_expressions.specs.Sequences.{only}
use Rattle.c_expressions.proofs.SequenceLemmas.{only-last}
use Rattle.c_expressions.proofs.sequences.only.Goals as goal

pub returns-in-Some : goal.returns-in-Some
returns-in-Some c = sym (ap (λ l. only (map boxed_statement_of l)) c.in-Some.ensures.items ∙ only-last c.pop.new.self.items c.in-Some.last)
