-- What the reading gives decides the answer.
use Rattle.std.proofs.Common.{◌≡◌, List, Ok, Err, sym, ap, ◌∙◌, arith}
use Rattle.c_token.specs.declared.token.Token.{Token}
use Rattle.c_reading.proofs.Texts as t
use Rattle.c_parser.proofs.Answered as a
use Rattle.c_parser.proofs.parse.Goals as goal

-- the cursor begins with the tokens
begun : {cursor ts : List Token} → cursor ≡ ts → t.reading ts ≡ t.reading cursor
begun e = ap (λ l. t.reading l) (sym e)

pub syntax-requires : goal.syntax-requires
syntax-requires c = omega (arith, t.within_ok c.args.tokens.now _ _ (begun c.new-cursor.ensures ∙ c.in-Ok.ensures))

pub syntax-requires-in-Err-Syntax : goal.syntax-requires-in-Err-Syntax
syntax-requires-in-Err-Syntax c = omega (arith, t.within_syntax c.args.tokens.now _ (begun c.new-cursor.ensures ∙ (rw c.in-Err-Syntax.field-0-is at c.in-Err-Syntax.ensures)))

pub nesting-requires : goal.nesting-requires
nesting-requires c = omega (arith, t.within_deep c.args.tokens.now _ _ (begun c.new-cursor.ensures ∙ (rw c.in-Err-Nesting.field-0-is at c.in-Err-Nesting.ensures)))

pub returns-then-left-eq0 : goal.returns-then-left-eq0
returns-then-left-eq0 c =
    let all : a.Answered c.args.tokens.now (Ok c.in-Ok.tree) = a.tree c.args.tokens.now _ _ (begun c.new-cursor.ensures ∙ c.in-Ok.ensures) (omega arith) in
    record { answer = all.answer; every = all.every; syntax = all.syntax; nesting = all.nesting }

pub returns-else-left-eq0 : goal.returns-else-left-eq0
returns-else-left-eq0 c =
    let all : a.Answered c.args.tokens.now (Err c.syntax.result) =
    a.fault_left c.args.tokens.now _ _ _
    (t.some_left c.args.tokens.now _ _ (begun c.new-cursor.ensures ∙ c.in-Ok.ensures) (λ none. omega arith)) c.left-left.ensures c.syntax.ensures in
    record { answer = all.answer; every = all.every; syntax = all.syntax; nesting = all.nesting }

pub returns-in-Err-Syntax : goal.returns-in-Err-Syntax
returns-in-Err-Syntax c =
    let all : a.Answered c.args.tokens.now (Err c.syntax-in-Err-Syntax.result) =
    a.fault_left c.args.tokens.now _ _ _
    (t.err_fault c.args.tokens.now _ (begun c.new-cursor.ensures ∙ (rw c.in-Err-Syntax.field-0-is at c.in-Err-Syntax.ensures))) c.left.ensures c.syntax-in-Err-Syntax.ensures in
    record { answer = all.answer; every = all.every; syntax = all.syntax; nesting = all.nesting }

pub returns-in-Err-Nesting : goal.returns-in-Err-Nesting
returns-in-Err-Nesting c =
    let all : a.Answered c.args.tokens.now (Err c.nesting.result) =
    a.deep_left c.args.tokens.now _ _ _ _
    (t.err_deep c.args.tokens.now _ _ (begun c.new-cursor.ensures ∙ (rw c.in-Err-Nesting.field-0-is at c.in-Err-Nesting.ensures))) c.left-in-Err-Nesting.ensures c.nesting.ensures in
    record { answer = all.answer; every = all.every; syntax = all.syntax; nesting = all.nesting }
