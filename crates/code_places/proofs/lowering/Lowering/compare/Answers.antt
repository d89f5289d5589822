use Rattle.std.proofs.Common.{rules, ◌∙◌, ap, FitsSigned}
use mir.Syntax.{w128}
use Rattle.std.proofs.lemmas.Int.{to_z-of_z}
use Rattle.std.proofs.lemmas.Result.{err_from_is_err_and}
use Rattle.hls_ints.specs.Types.{long_int}
use Rattle.block_ir.specs.declared.operand.Source.TheVariants.{Constant}
use Rattle.code_blocks.specs.Needs.{plain}
use Rattle.code_places.proofs.Comparisons.{compares_open, compares_at}
use Rattle.code_places.proofs.lowering.Lowering.compare.Goals as goal

pub place-requires : goal.place-requires
place-requires c =
    compares_open c.in_ok-other.other c.args.equal c.args.self.now c.new_label.new.self c.in_ok-other.ensures.label c.in_ok-other.ensures.after c.in_ok-test.test c.put.new.self
    c.branch-self.new.self c.in_ok-branch.ensures

pub returns-clause-after : goal.returns-clause-after
returns-clause-after c =
    let fits : FitsSigned w128 c.args.value = search rules in
    compares_at c.in_ok-other.other c.args.equal c.args.self.now c.new_label.new.self c.in_ok-other.ensures.label c.in_ok-other.ensures.after c.args.variable c.args.value c.in_ok-held.held
    c.plain-case.result c.in_ok-test.test c.put.new.self c.branch-self.new.self c.place.new.self c.in_ok-held.ensures
    (c.plain-case.ensures ∙ ap (λ v. plain (Constant long_int v)) (to_z-of_z w128 c.args.value fits)) c.in_ok-test.ensures.block
    c.in_ok-test.ensures.few c.in_ok-test.ensures.value c.in_ok-branch.ensures c.place.ensures

pub returns-in_err-other : goal.returns-in_err-other
returns-in_err-other c =
    let p = err_from_is_err_and c.from_residual.result c.from_residual.ensures.1 in
    record { after = rw p.1 tt; full = rw (p.1, p.2) (λ is. cc) }

pub returns-in_err-held : goal.returns-in_err-held
returns-in_err-held c =
    let p = err_from_is_err_and c.from_residual-in_err-held.result c.from_residual-in_err-held.ensures.1 in
    record { after = rw p.1 tt; full = rw (p.1, p.2) (λ is. cc) }

pub returns-in_err-test : goal.returns-in_err-test
returns-in_err-test c =
    let p = err_from_is_err_and c.from_residual-in_err-test.result c.from_residual-in_err-test.ensures.1 in
    record { after = rw p.1 tt; full = rw (p.1, p.2) c.in_err-test.ensures.full }

pub returns-in_err-branch : goal.returns-in_err-branch
returns-in_err-branch c =
    let p = err_from_is_err_and c.from_residual-in_err-branch.result c.from_residual-in_err-branch.ensures.1 in
    record { after = rw p.1 tt; full = rw (p.1, p.2) (λ is. cc) }
