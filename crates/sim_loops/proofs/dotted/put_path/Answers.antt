use Rattle.std.proofs.Common.{◌-◌, length, refl, arith}
use Rattle.std.specs.Prelude.{slice_get, string_bytes}
use Rattle.sim_loops.proofs.PathText.{put_none, put_next, put_all}
use Rattle.sim_loops.proofs.dotted.put_path.Goals as goal

pub loop-done-init : goal.loop-done-init
loop-done-init c = λ t e. put_none c.args.modules.now t c.args.path.now (string_bytes c.args.text.now) (string_bytes c.args.text.now)
    (slice_get c.args.modules.now c.args.top) refl e

pub loop-done-preserved : goal.loop-done-preserved
loop-done-preserved c =
    let modules = c.args.modules.now in
    let path = c.args.path.now in
    λ t e. put_next modules t path (string_bytes c.args.text.now) c.loop-done.done (length path - 1 - c.loop-done.done) (string_bytes c.loop-done.text)
    (string_bytes c.put_instance.new.text)
    (slice_get modules c.loop-done.kind) (slice_get modules c.in_ok-inner.inner) (c.loop-done.invariant t e)
    (omega arith) refl c.in_ok-inner.ensures.text c.in_ok-inner.ensures.kind

pub returns-clause-text : goal.returns-clause-text
returns-clause-text c =
    λ t e. (put_all c.args.modules.now t c.args.path.now (string_bytes c.args.text.now) c.loop-done.done (omega arith) (string_bytes c.loop-done.text)
    (slice_get c.args.modules.now c.loop-done.kind)
    (c.loop-done.invariant t e)).written

pub returns-clause-kind : goal.returns-clause-kind
returns-clause-kind c =
    λ t e. (put_all c.args.modules.now t c.args.path.now (string_bytes c.args.text.now) c.loop-done.done (omega arith) (string_bytes c.loop-done.text)
    (slice_get c.args.modules.now c.loop-done.kind)
    (c.loop-done.invariant t e)).stands
