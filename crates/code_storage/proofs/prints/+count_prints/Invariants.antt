use Rattle.std.proofs.Common.{◌≡◌, ◌+◌, ◌≤◌}
use Rattle.c_program.proofs.tree.Statement.TheLaws.{the_size}
use Rattle.c_program.specs.Plain.{statement_of}
use Rattle.c_program.specs.Limits.{print_count}
use Rattle.code_storage.proofs.prints.+count_prints.Given as goal

abbrev pub invariant-loop-rest : goal.invariant-loop-rest
invariant-loop-rest l = record {
  no_deeper : the_size l.rest ≤ the_size l.fn.statement;
  counted : l.count + print_count (statement_of l.rest) ≡ l.fn.before + print_count (statement_of l.fn.statement);
}
