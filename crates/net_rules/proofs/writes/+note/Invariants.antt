use Rattle.std.proofs.Common.{◌≡◌, drop}
use Rattle.verilog_tree.specs.Facts as fact
use Rattle.net_rules.proofs.writes.+note.Given as goal

abbrev pub invariant-note_all_writes-loop-statement : goal.invariant-note_all_writes-loop-statement
invariant-note_all_writes-loop-statement l =
    fact.after fact.after_statement l.written (drop l.statement-index l.statements) ≡ fact.after fact.after_statement l.fn.written l.statements
