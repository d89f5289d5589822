use Rattle.std.proofs.Common.{◌≡◌, arith}
use Rattle.std.proofs.lemmas.Grind.{common_steps}
use Rattle.c_call_graph.specs.Graphs.{all_marks, table}
use Rattle.c_call_graph.proofs.SearchResult.{of_marks}
use Rattle.c_call_graph.proofs.search.reach_of.Goals as goal

pub returns : goal.returns
returns c =
    let whole : c.loop-root.rows ≡ all_marks (table c.args.calls.now c.args.functions) c.args.functions = grind (arith, common_steps) in
    of_marks c.args.functions c.args.calls.now c.loop-root.rows whole
