use Rattle.std.proofs.lemmas.Option.{slice_get-get_or}
use Rattle.operator_wires.proofs.BuiltWires.{stands_after}
use Rattle.thread_slots.proofs.Heard.{word_heard, heard_none, heard_more, behind_none, behind_more}
use Rattle.thread_slots.proofs.hearing.hear.Goals as goal

pub loop-word-preserved : goal.loop-word-preserved
loop-word-preserved c =
    let here = slice_get-get_or c.args.words.now c.loop-word.word-index _ c.loop-word-test.true in
    let made =
    word_heard c.loop-word.wires.signals c.wire.new.self.signals c.wire-in-loop-word.new.self.signals c.args.need c.in_ok-silence.silence c.in_ok-register.register _
    c.in_ok-silence.ensures.shows c.in_ok-silence.ensures.laid c.in_ok-silence.ensures.wired c.in_ok-register.ensures.shows c.in_ok-register.ensures.laid
    c.in_ok-register.ensures.wired in
    record {
      shows =
          heard_more c.args.wires.now.signals c.loop-word.wires.signals c.wire-in-loop-word.new.self.signals c.args.need c.loop-word.word-index c.args.words.now c.loop-word.heard
          c.push.new.self _ _ c.loop-word.invariant.shows here made c.in_ok-push.ensures.ok;
      wired = λ base bit stand.
          let before = c.loop-word.invariant.wired base bit stand in
          behind_more base c.args.wires.now.signals c.loop-word.wires.signals c.wire-in-loop-word.new.self.signals c.loop-word.heard c.push.new.self _ before
          (made.wired base (stands_after c.args.wires.now.signals c.loop-word.wires.signals base c.args.need 1 before.wires.grows bit)
          (stands_after c.args.wires.now.signals c.loop-word.wires.signals base _ _ before.wires.grows (stand c.loop-word.word-index _ here)))
          c.in_ok-push.ensures.ok;
    }

pub loop-word-init : goal.loop-word-init
loop-word-init c = record {
  shows = heard_none c.args.wires.now.signals c.args.need c.args.words.now c.new-heard.result c.new-heard.ensures;
  wired = λ base bit stand. behind_none base c.args.wires.now.signals c.new-heard.result c.new-heard.ensures;
}
