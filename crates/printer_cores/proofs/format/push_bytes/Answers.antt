use Rattle.std.proofs.lemmas.Option.{slice_get-get_or}
use Rattle.printer_cores.proofs.SiteStrings.{bytes_grow, printable_at}
use Rattle.printer_cores.proofs.format.push_bytes.Goals as goal

pub push_byte-requires : goal.push_byte-requires
push_byte-requires c = printable_at c.args.bytes.now c.loop-i.i _ c.requires (slice_get-get_or c.args.bytes.now c.loop-i.i 0 c.loop-i-test.true)

pub loop-i-preserved : goal.loop-i-preserved
loop-i-preserved c =
    bytes_grow _ _ _ c.args.bytes.now c.loop-i.i _ (slice_get-get_or c.args.bytes.now c.loop-i.i 0 c.loop-i-test.true)
    c.loop-i.invariant c.in_ok-push_byte.ensures
