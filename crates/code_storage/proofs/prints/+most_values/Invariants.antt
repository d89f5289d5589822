use Rattle.std.proofs.Common.{◌≡◌, ◌≤◌, max}
use Rattle.c_program.proofs.tree.Statement.TheLaws.{the_size}
use Rattle.c_program.specs.Plain.{statement_of}
use Rattle.code_storage.specs.Values.{most_values}
use Rattle.code_storage.proofs.prints.+most_values.Given as goal

abbrev pub invariant-loop-rest : goal.invariant-loop-rest
invariant-loop-rest l = record {
  no_deeper : the_size l.rest ≤ the_size l.fn.statement;
  counted : max l.most (most_values (statement_of l.rest)) ≡ most_values (statement_of l.fn.statement);
}
