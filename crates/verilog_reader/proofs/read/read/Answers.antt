-- What the reader of tokens gives decides the answer.
use Rattle.std.proofs.Common.{◌≡◌, List, sym, ap, ◌∙◌}
use Rattle.verilog_tree.specs.declared.token.Token.{Token}
use Rattle.verilog_rules.specs.Reading.{read_net}
use Rattle.verilog_reader.proofs.ReadClauses as a
use Rattle.verilog_reader.proofs.read.read.Goals as goal

-- the cursor begins with the tokens
begun : {cursor slice ts : List Token} → cursor ≡ slice → slice ≡ ts → read_net 1001 ts ≡ read_net 1001 cursor
begun e f = ap (read_net 1001) (sym (e ∙ f))

pub judged-requires : goal.judged-requires
judged-requires c =
    let all = a.all_read c.left-left.result c.in_ok-lexed.lexed.is_whole (sym c.is_all_read.ensures ∙ c.if-is_all_read.true) in
    a.filled c.args.text.now c.in_ok-lexed.lexed c.in_ok-lexed.ensures 1000 c.in-Ok.net _ (begun c.new-cursor.ensures c.as_slice.ensures ∙ c.in-Ok.ensures)
    (sym c.left-left.ensures ∙ all.0)

pub returns-then-is_all_read : goal.returns-then-is_all_read
returns-then-is_all_read c =
    let all = a.all_read c.left-left.result c.in_ok-lexed.lexed.is_whole (sym c.is_all_read.ensures ∙ c.if-is_all_read.true) in
    let answer = a.judged c.args.text.now c.in_ok-lexed.lexed c.in_ok-lexed.ensures 1000 c.in-Ok.net _
    (begun c.new-cursor.ensures c.as_slice.ensures ∙ c.in-Ok.ensures) (sym c.left-left.ensures ∙ all.0) all.1 c.judged.result c.judged.ensures.ok c.judged.ensures.fault in
    record { ok = answer.ok; not_net = answer.not_net; every = answer.every }

pub returns-in-Ok : goal.returns-in-Ok
returns-in-Ok c =
    let answer = a.behind c.args.text.now c.in_ok-lexed.lexed c.in_ok-lexed.ensures 1000 _ c.left-left.result c.left-left.ensures c.stopped.result c.stopped.ensures c.in-Ok.net
    (begun c.new-cursor.ensures c.as_slice.ensures ∙ c.in-Ok.ensures)
    (a.left_over c.left-left.result c.in_ok-lexed.lexed.is_whole (sym c.is_all_read.ensures ∙ c.if-is_all_read.false)) in
    record { ok = answer.ok; not_net = answer.not_net; every = answer.every }

pub returns-in-Err-Syntax : goal.returns-in-Err-Syntax
returns-in-Err-Syntax c =
    let answer = a.departs c.args.text.now c.in_ok-lexed.lexed c.in_ok-lexed.ensures 1000 _ c.left.result c.left.ensures c.stopped-in-Err-Syntax.result
    c.stopped-in-Err-Syntax.ensures
    (begun c.new-cursor.ensures c.as_slice.ensures ∙ (rw c.in-Err-Syntax.field-0-is at c.in-Err-Syntax.ensures)) in
    record { ok = answer.ok; not_net = answer.not_net; every = answer.every }
