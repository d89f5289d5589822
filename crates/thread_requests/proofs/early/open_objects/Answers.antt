use Rattle.std.proofs.Common.{List, ℕ, length, subst}
use Rattle.thread_slots.specs.Bits.{WithOf, MakesBits, AddsWiths}
use Rattle.thread_requests.proofs.early.open_objects.Goals as goal

pub returns : goal.returns
returns c =
    let b = c.is_each.new.wires.signals in
    let d = c.both_with.new.wires.signals in
    let wants = c.args.request.now.wants in
    record {
      with_names = b;
      small = c.ranges.count.fits;
      names = c.in_ok-names.ensures.shows;
      names_wired = c.in_ok-names.ensures.wired;
      opens = subst (λ (l : List ℕ). MakesBits b d (length l) c.in_ok-opens.opens (WithOf l wants)) c.as_slice.ensures c.in_ok-opens.ensures.shows;
      opens_wired = subst (λ (l : List ℕ). AddsWiths b d l wants c.in_ok-opens.opens) c.as_slice.ensures c.in_ok-opens.ensures.wired;
    }
