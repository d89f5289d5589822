use Rattle.std.proofs.Common.{refl}
use Rattle.c_reading.proofs.Texts as t
use Rattle.c_reading.proofs.reader_is_grammar.Goals as goal

pub returns : goal.returns
returns c ts = record {
  tree = λ v e. t.all_read ts v _ e refl;
  more = t.some_left ts;
  fault = t.err_fault ts;
  deep = t.err_deep ts;
  only = t.only_one ts;
}
