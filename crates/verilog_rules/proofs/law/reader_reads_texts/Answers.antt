use Rattle.std.proofs.Common.{refl, length, suc}
use Rattle.grammar.proofs.Whole as w
use Rattle.verilog_rules.proofs.Modules.{net}
use Rattle.verilog_rules.proofs.Nets.{found_net, departs_where}
use Rattle.verilog_rules.proofs.OneNet as one
use Rattle.verilog_rules.proofs.law.reader_reads_texts.Goals as goal

pub returns-clause-reader_is_grammar : goal.returns-clause-reader_is_grammar
returns-clause-reader_is_grammar c limit ts = record {
  found = λ v e. w.all_read limit ts (net (suc (length ts))) v _ e refl;
  more = w.some_left limit ts (net (suc (length ts)));
  fault = w.err_fault limit ts (net (suc (length ts)));
  deep = w.err_deep limit ts (net (suc (length ts)));
  only = w.only_one limit ts (net (suc (length ts)));
}

pub returns-clause-reader_reads_nets : goal.returns-clause-reader_reads_nets
returns-clause-reader_reads_nets c limit ts = record { found = found_net limit ts; departs = departs_where limit ts }

pub returns-clause-reads_one : goal.returns-clause-reads_one
returns-clause-reads_one c = one.reads_one
