use Rattle.thread_slots.specs.Hearing.{HearsWords, AddsHeard}
use Rattle.thread_slots.proofs.hearing.hear.Given as goal

abbrev pub invariant-loop-word : goal.invariant-loop-word
invariant-loop-word l = record {
  shows : HearsWords l.fn.wires.signals l.wires.signals l.need l.words l.word-index l.heard;
  wired : AddsHeard l.fn.wires.signals l.wires.signals l.need l.words l.heard;
}
