use Rattle.std.proofs.Common.{◌≡◌, ◌+◌, ◌*◌, length, sym, ap, ◌∙◌, subst, arith}
use Rattle.std.proofs.lemmas.List.{length-map}
use Rattle.std.proofs.lemmas.Result.{err_from_is_err_and}
use Rattle.code_places.specs.declared.lowering.Lowering.{Lowering}
use Rattle.code_places.proofs.OpenParts.{acts_proceed}
use Rattle.c_program.specs.Plain.{expression_of, expressions_of, pieces_of}
use Rattle.c_program.specs.Weight.{expressions_weight}
use Rattle.code_blocks.specs.declared.open_block.OpenBlock.{OpenBlock}
use Rattle.code_blocks.specs.Printing.{word_operands, PutsValues}
use Rattle.code_blocks.specs.Typing.{WorksOnValues}
use Rattle.code_blocks.proofs.Room.{full_more}
use Rattle.code_calls.proofs.PrintCode.{print_leads}
use Rattle.code_calls.proofs.acts.lower_print.Goals as goal

pub returns-clause-lowers : goal.returns-clause-lowers
returns-clause-lowers c = λ offset P around on.
    let old = c.args.code.now in
    let es = expressions_of c.args.arguments.now in
    let first = c.in_ok-first.first in
    let operands : c.in_ok-values.values ≡ word_operands first (length es) =
    c.in_ok-values.ensures.operands ∙ ap (word_operands first) (sym (length-map c.args.arguments.now expression_of)) in
    print_leads P (pieces_of c.args.format.now) es old c.skip_sites.new.self c.act.new.self c.lower_values.new.block c.in_ok-types.types c.in_ok-values.values c.site-site.result first
    c.in_ok-first.ensures.word c.in_ok-types.ensures
    (subst (λ hs. PutsValues hs first c.in_ok-types.types es old.block c.lower_values.new.block) c.as_slice-homes.ensures
    (subst (λ ts. PutsValues c.as_slice-homes.result.now first ts es old.block c.lower_values.new.block) c.as_slice-words.ensures c.in_ok-lower_values.ensures.puts))
    (subst (λ hs. WorksOnValues hs first es old.block c.lower_values.new.block) c.as_slice-homes.ensures c.in_ok-lower_values.ensures.typed)
    (c.in_ok-skip_sites.ensures.after ∙ ap (λ (z : OpenBlock). record old { block = z; site = old.site + 1 }) c.in_ok-step.ensures.after)
    operands c.site-site.ensures c.in_ok-act.ensures offset around on

pub returns-clause-labels : goal.returns-clause-labels
returns-clause-labels c = λ around.
    acts_proceed _ c.args.code.now c.skip_sites.new.self c.act.new.self (ap (λ (z : Lowering). z.stages) c.in_ok-skip_sites.ensures.after)
    (ap (λ (z : Lowering). z.reached) c.in_ok-skip_sites.ensures.after)
    (ap (λ (z : Lowering). z.back) c.in_ok-skip_sites.ensures.after)
    (let e = ap (λ (z : Lowering). z.block.steps) c.in_ok-skip_sites.ensures.after in let s = ap (λ (z : OpenBlock). z.steps) c.in_ok-step.ensures.after in
    let p = c.in_ok-lower_values.ensures.puts.steps in omega (arith, e, s, p))
    c.requires.reached c.in_ok-act.ensures around

pub returns-in_err-first : goal.returns-in_err-first
returns-in_err-first c =
    let p = err_from_is_err_and c.from_residual.result c.from_residual.ensures.1 in
    record {
      labels = rw p.1 tt;
      lowers = rw p.1 tt;
      full =
          rw (p.1, p.2)
          (full_more _ (length c.args.code.now.variables + 1)
          (length c.args.code.now.block.operations + c.args.code.now.block.steps + length c.args.code.now.variables + c.args.code.now.site
          + (3 * expressions_weight (expressions_of c.args.arguments.now) + 2 * length c.args.arguments.now + 1))
          (omega arith) c.in_err-first.ensures.full);
    }

pub returns-in_err-types : goal.returns-in_err-types
returns-in_err-types c =
    let p = err_from_is_err_and c.from_residual-in_err-types.result c.from_residual-in_err-types.ensures.1 in
    record { labels = rw p.1 tt; lowers = rw p.1 tt; full = rw (p.1, p.2) (λ is. cc) }

pub returns-in_err-lower_values : goal.returns-in_err-lower_values
returns-in_err-lower_values c =
    let p = err_from_is_err_and c.from_residual-in_err-lower_values.result c.from_residual-in_err-lower_values.ensures.1 in
    record {
      labels = rw p.1 tt;
      lowers = rw p.1 tt;
      full =
          rw (p.1, p.2)
          (full_more _ (length c.args.code.now.block.operations + (3 * expressions_weight (expressions_of c.args.arguments.now) + length c.args.arguments.now) + (c.in_ok-first.first + length c.args.arguments.now))
          (length c.args.code.now.block.operations + c.args.code.now.block.steps + length c.args.code.now.variables + c.args.code.now.site
          + (3 * expressions_weight (expressions_of c.args.arguments.now) + 2 * length c.args.arguments.now + 1))
          (let word = c.in_ok-first.ensures.word in omega (arith, word)) c.in_err-lower_values.ensures.full);
    }

pub returns-in_err-step : goal.returns-in_err-step
returns-in_err-step c =
    let p = err_from_is_err_and c.from_residual-in_err-step.result c.from_residual-in_err-step.ensures.1 in
    record {
      labels = rw p.1 tt;
      lowers = rw p.1 tt;
      full =
          rw (p.1, p.2)
          (full_more _ (c.lower_values.new.block.steps + 1)
          (length c.args.code.now.block.operations + c.args.code.now.block.steps + length c.args.code.now.variables + c.args.code.now.site
          + (3 * expressions_weight (expressions_of c.args.arguments.now) + 2 * length c.args.arguments.now + 1))
          (let steps = c.in_ok-lower_values.ensures.puts.steps in omega (arith, steps)) c.in_err-step.ensures.full);
    }

pub returns-in_err-values : goal.returns-in_err-values
returns-in_err-values c =
    let p = err_from_is_err_and c.from_residual-in_err-values.result c.from_residual-in_err-values.ensures.1 in
    record {
      labels = rw p.1 tt;
      lowers = rw p.1 tt;
      full =
          rw (p.1, p.2)
          (full_more _ (c.in_ok-first.first + length c.args.arguments.now)
          (length c.args.code.now.block.operations + c.args.code.now.block.steps + length c.args.code.now.variables + c.args.code.now.site
          + (3 * expressions_weight (expressions_of c.args.arguments.now) + 2 * length c.args.arguments.now + 1))
          (let word = c.in_ok-first.ensures.word in omega (arith, word)) c.in_err-values.ensures.full);
    }

pub returns-in_err-skip_sites : goal.returns-in_err-skip_sites
returns-in_err-skip_sites c =
    let p = err_from_is_err_and c.from_residual-in_err-skip_sites.result c.from_residual-in_err-skip_sites.ensures.1 in
    record {
      labels = rw p.1 tt;
      lowers = rw p.1 tt;
      full =
          rw (p.1, p.2)
          (full_more _ (c.args.code.now.site + 1)
          (length c.args.code.now.block.operations + c.args.code.now.block.steps + length c.args.code.now.variables + c.args.code.now.site
          + (3 * expressions_weight (expressions_of c.args.arguments.now) + 2 * length c.args.arguments.now + 1))
          (omega arith) c.in_err-skip_sites.ensures.full);
    }

pub returns-in_err-act : goal.returns-in_err-act
returns-in_err-act c =
    let p = err_from_is_err_and c.from_residual-in_err-act.result c.from_residual-in_err-act.ensures.1 in
    record { labels = rw p.1 tt; lowers = rw p.1 tt; full = rw (p.1, p.2) (λ is. cc) }
