use Rattle.std.proofs.Common.{◌+◌, ◌*◌, length, refl, ap, subst, arith}
use Rattle.std.proofs.lemmas.Result.{err_from_is_err_and}
use Rattle.c_program.specs.Plain.{thread_call_of}
use Rattle.c_program.specs.Weight.{thread_call_weight}
use Rattle.code_blocks.proofs.Room.{full_more}
use Rattle.code_blocks.specs.declared.open_block.OpenBlock.{OpenBlock}
use Rattle.code_places.proofs.OpenParts.{acts_proceed}
use Rattle.code_calls.specs.Acts.{PreparesCall, WorksOnCall}
use Rattle.code_calls.proofs.PthreadCode.{thread_leads}
use Rattle.code_calls.proofs.acts.lower_thread_call.Goals as goal

pub returns-clause-labels : goal.returns-clause-labels
returns-clause-labels c = λ around.
    acts_proceed _ c.args.code.now (record c.args.code.now { block = c.step.new.self }) c.act.new.self refl refl refl
    (let s = ap (λ (z : OpenBlock). z.steps) c.in_ok-step.ensures.after in let p = c.in_ok-act.ensures.prepares.steps in omega (arith, s, p)) c.requires.reached c.in_ok-act-2.ensures around

pub returns-clause-lowers : goal.returns-clause-lowers
returns-clause-lowers c = λ offset P around on.
    let old = c.args.code.now in
    let call = thread_call_of c.args.call.now in
    thread_leads P call old (record old { block = c.step.new.self }) c.act.new.self c.lower_call.new.block c.in_ok-act.act c.in_ok-first.first c.in_ok-first.ensures.word
    (subst (λ hs. PreparesCall hs old.objects c.in_ok-first.first call old.block c.lower_call.new.block) c.as_slice.ensures c.in_ok-act.ensures.prepares)
    (subst (λ hs. WorksOnCall hs old.objects c.in_ok-first.first call old.block c.lower_call.new.block) c.as_slice.ensures c.in_ok-act.ensures.typed)
    (ap (λ (z : OpenBlock). record old { block = z }) c.in_ok-step.ensures.after) c.in_ok-act.ensures.act c.in_ok-act-2.ensures offset on around

pub returns-in_err-first : goal.returns-in_err-first
returns-in_err-first c =
    let p = err_from_is_err_and c.from_residual.result c.from_residual.ensures.1 in
    record {
      labels = rw p.1 tt;
      lowers = rw p.1 tt;
      full =
          rw (p.1, p.2)
          (full_more _ (length c.args.code.now.variables + 1)
          (length c.args.code.now.block.operations + c.args.code.now.block.steps + length c.args.code.now.variables + 4 * (thread_call_weight (thread_call_of c.args.call.now) + 1))
          (omega arith) c.in_err-first.ensures.full);
    }

pub returns-in_err-act : goal.returns-in_err-act
returns-in_err-act c =
    let p = err_from_is_err_and c.from_residual-in_err-act.result c.from_residual-in_err-act.ensures.1 in
    let word = c.in_ok-first.ensures.word in
    record {
      labels = rw p.1 tt;
      lowers = rw p.1 tt;
      full =
          rw (p.1, p.2)
          (full_more _ (length c.args.code.now.block.operations + c.in_ok-first.first + 4 * (thread_call_weight (thread_call_of c.args.call.now) + 1))
          (length c.args.code.now.block.operations + c.args.code.now.block.steps + length c.args.code.now.variables + 4 * (thread_call_weight (thread_call_of c.args.call.now) + 1))
          (omega (arith, word)) c.in_err-act.ensures.full);
    }

pub returns-in_err-step : goal.returns-in_err-step
returns-in_err-step c =
    let p = err_from_is_err_and c.from_residual-in_err-step.result c.from_residual-in_err-step.ensures.1 in
    let steps = c.in_ok-act.ensures.prepares.steps in
    record {
      labels = rw p.1 tt;
      lowers = rw p.1 tt;
      full =
          rw (p.1, p.2)
          (full_more _ (c.lower_call.new.block.steps + 1)
          (length c.args.code.now.block.operations + c.args.code.now.block.steps + length c.args.code.now.variables + 4 * (thread_call_weight (thread_call_of c.args.call.now) + 1))
          (omega (arith, steps)) c.in_err-step.ensures.full);
    }

pub returns-in_err-act-2 : goal.returns-in_err-act-2
returns-in_err-act-2 c =
    let p = err_from_is_err_and c.from_residual-in_err-act-2.result c.from_residual-in_err-act-2.ensures.1 in
    record { labels = rw p.1 tt; lowers = rw p.1 tt; full = rw (p.1, p.2) (λ is. cc) }
