use Rattle.std.proofs.Common.{◌≡◌, ◌++◌, ◌≤◌}
use Rattle.c_program.proofs.tree.Statement.TheLaws.{the_size}
use Rattle.c_program.specs.Plain.{statement_of}
use Rattle.program_cores.specs.Sites.{sites_in}
use Rattle.program_cores.proofs.sites.+push_sites.Given as goal

abbrev pub invariant-loop-rest : goal.invariant-loop-rest
invariant-loop-rest l = record {
  no_deeper : the_size l.rest ≤ the_size l.fn.statement;
  appended : l.sites ++ sites_in (statement_of l.rest) ≡ l.initial.sites ++ sites_in (statement_of l.fn.statement);
}
