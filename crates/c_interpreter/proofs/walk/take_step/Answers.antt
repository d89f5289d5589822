use Rattle.std.proofs.Common.{add-one, ap, sym, refl}
use Rattle.c_program.specs.Plain.{program_of}
use Rattle.c_state.specs.View.{state_of}
use Rattle.c_interpreter.proofs.LongerWalks.{takes_more}
use Rattle.c_interpreter.proofs.walk.take_step.Goals as goal

pub returns-then-s : goal.returns-then-s
returns-then-s c list at here =
    let taken = rw c.in-Stepped.is at c.in_ok-step.ensures.step in
    let more = takes_more (program_of c.args.program.now) list c.args.index (state_of c.args.s.now) (state_of c.step.new.s) c.args.thread at.so_far at.running here (sym taken) in
    (state_of c.step.new.s, (rw add-one more, c.if-s.true), refl)

pub returns-else-s : goal.returns-else-s
returns-else-s c list at here =
    let taken = rw c.in-Stepped.is at c.in_ok-step.ensures.step in
    let more = takes_more (program_of c.args.program.now) list c.args.index (state_of c.args.s.now) (state_of c.step.new.s) c.args.thread at.so_far at.running here (sym taken) in
    record { so_far = rw add-one more; running = c.if-s.false }

pub returns-in-Blocked : goal.returns-in-Blocked
returns-in-Blocked c list at here =
    let answer = rw c.in-Blocked.is at c.in_ok-step.ensures.step in
    let kept = rw c.in-Blocked.is at c.in_ok-step.ensures.unchanged in (
      state_of c.args.s.now,
      record { before = at.so_far; running = at.running; there = here; answer = sym answer },
      ap (λ x. x.output) (sym kept),
    )

pub returns-in-Undefined : goal.returns-in-Undefined
returns-in-Undefined c list at here =
    let answer = rw c.in-Undefined.is at c.in_ok-step.ensures.step in
    let kept = rw c.in-Undefined.is at c.in_ok-step.ensures.unchanged in (
      state_of c.args.s.now,
      (
        c.args.thread,
        record { before = at.so_far; running = at.running; there = here; answer = sym answer },
      ),
      ap (λ x. x.output) (sym kept),
    )
