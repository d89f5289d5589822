use Rattle.std.proofs.Common.{List, length, refl, subst}
use Rattle.block_datapath.specs.declared.registers.Held.{Held}
use Rattle.thread_slots.specs.Hearing.{HearsWords, AddsHeard}
use Rattle.thread_layout.proofs.layout.lay_heard.Goals as goal

pub returns : goal.returns
returns c =
    let a = c.args.wires.now.signals in
    let b = c.hear.new.wires.signals in
    let words = c.as_slice.ensures in
    record {
      with_words_heard = b;
      with_heard = c.hear-2.new.wires.signals;
      same = refl;
      hears = subst (λ (z : List Held). HearsWords a b c.args.need z (length z) c.in_ok-heard.heard) words c.in_ok-heard.ensures.shows;
      wired = subst (λ (z : List Held). AddsHeard a b c.args.need z c.in_ok-heard.heard) words c.in_ok-heard.ensures.wired;
      hears_news = c.in_ok-news.ensures.shows;
      news_wired = c.in_ok-news.ensures.wired;
      units = c.in_ok-units.ensures;
    }
