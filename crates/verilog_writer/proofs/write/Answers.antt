use Rattle.std.proofs.Common.{◌≡◌, ◌∙◌, ap}
use Rattle.verilog_tree.specs.Grammar as g
use Rattle.verilog_text.specs.Layout.{put_all, start}
use Rattle.verilog_text.proofs.LaidTokens.{written, written_reads}
use Rattle.verilog_writer.proofs.write.Goals as goal

pub returns-clause-tokens : goal.returns-clause-tokens
returns-clause-tokens c =
    let e : c.net.new.out ≡ put_all start (g.net c.args.net.now) = c.in_ok-net.ensures.text ∙ ap (λ s. put_all s (g.net c.args.net.now)) c.new-out.ensures in
    written c.args.net.now c.finish.result c.net.new.out e c.in_ok-net.ensures.tokens c.finish.ensures

pub returns-clause-reads : goal.returns-clause-reads
returns-clause-reads c = written_reads c.args.net.now c.finish.result (returns-clause-tokens c)
