use Rattle.std.proofs.Common.{Some, sym, ap, ◌∙◌}
use Rattle.std.proofs.lemmas.Option.{slice_get-get_or}
use Rattle.printer_cores.proofs.SiteStrings.{parts_grow, all-quoted}
use Rattle.printer_cores.proofs.format.string.Goals as goal

pub loop-i-preserved : goal.loop-i-preserved
loop-i-preserved c =
    parts_grow _ _ c.args.parts.now c.loop-i.i c.index-parts-i.result
    (slice_get-get_or c.args.parts.now c.loop-i.i _ c.loop-i-test.true ∙ ap Some (sym c.index-parts-i.is))
    c.loop-i.invariant c.in_ok-push_part.ensures

pub from_string-requires : goal.from_string-requires
from_string-requires c = all-quoted _ c.args.parts.now c.loop-i.i c.requires c.loop-i.invariant c.loop-i-test.false
