use Rattle.std.proofs.Common.{◌∙◌, sym, arith, false-eqb}
use Rattle.std.specs.Prelude.{Ok, Err}
use Rattle.std.proofs.lemmas.Bool.{eqb-true}
use Rattle.c_lexer.specs.declared.fault.LexFault.TheVariants.{Bad}
use Rattle.c_lexer.proofs.Whole.{one_done, moves, step_failed, unfinished, finished}
use Rattle.c_lexer.proofs.Unique.{finds, finds_tokens}
use Rattle.c_lexer.proofs.lex.Goals as goal

pub pieces-smaller : goal.pieces-smaller
pieces-smaller c = moves _ _ _ _ _ _ _ c.in-Ok.ensures.steps

pub pieces-preserved : goal.pieces-preserved
pieces-preserved c = one_done _ _ _ _ _ _ _ c.pieces.invariant c.in-Ok.ensures.steps

pub returns-in-Err-clause-answer : goal.returns-in-Err-clause-answer
returns-in-Err-clause-answer c =
    step_failed _ _ _ _ c.in-Err.fault c.pieces.invariant (omega (arith, false-eqb _ 0 c.pieces-test.ensures)) c.in-Err.ensures.fails

pub returns-in-Err-clause-every : goal.returns-in-Err-clause-every
returns-in-Err-clause-every c =
    finds _ (Err c.in-Err.fault)
    (step_failed _ _ _ _ c.in-Err.fault c.pieces.invariant (omega (arith, false-eqb _ 0 c.pieces-test.ensures)) c.in-Err.ensures.fails)

pub returns-then-not-may_end-clause-answer : goal.returns-then-not-may_end-clause-answer
returns-then-not-may_end-clause-answer c =
    unfinished _ _ _ _ _ c.pieces.invariant (eqb-true _ 0 (sym c.pieces-test.ensures)) (sym c.may_end.ensures ∙ c.if-not-may_end.true) c.fault_place.ensures

pub returns-then-not-may_end-clause-every : goal.returns-then-not-may_end-clause-every
returns-then-not-may_end-clause-every c =
    finds _ (Err (Bad c.fault_place.result))
    (unfinished _ _ _ _ _ c.pieces.invariant (eqb-true _ 0 (sym c.pieces-test.ensures)) (sym c.may_end.ensures ∙ c.if-not-may_end.true) c.fault_place.ensures)

pub returns-clause-every : goal.returns-clause-every
returns-clause-every c =
    finds _ (Ok c.push.new.self)
    (finished _ _ _ _ _ c.pieces.invariant (eqb-true _ 0 (sym c.pieces-test.ensures)) (sym c.may_end.ensures ∙ c.if-not-may_end.false) c.in_ok-push.ensures.ok)

pub returns-in-Err-clause-tokens : goal.returns-in-Err-clause-tokens
returns-in-Err-clause-tokens c =
    finds_tokens _ (Err c.in-Err.fault)
    (step_failed _ _ _ _ c.in-Err.fault c.pieces.invariant (omega (arith, false-eqb _ 0 c.pieces-test.ensures)) c.in-Err.ensures.fails)

pub returns-then-not-may_end-clause-tokens : goal.returns-then-not-may_end-clause-tokens
returns-then-not-may_end-clause-tokens c =
    finds_tokens _ (Err (Bad c.fault_place.result))
    (unfinished _ _ _ _ _ c.pieces.invariant (eqb-true _ 0 (sym c.pieces-test.ensures)) (sym c.may_end.ensures ∙ c.if-not-may_end.true) c.fault_place.ensures)

pub returns-clause-tokens : goal.returns-clause-tokens
returns-clause-tokens c =
    finds_tokens _ (Ok c.push.new.self)
    (finished _ _ _ _ _ c.pieces.invariant (eqb-true _ 0 (sym c.pieces-test.ensures)) (sym c.may_end.ensures ∙ c.if-not-may_end.false) c.in_ok-push.ensures.ok)
