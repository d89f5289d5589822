use Rattle.std.proofs.Common.{◌≡◌, ℕ, Some, slice_get, sym, ap, ◌∙◌, arith}
use Rattle.std.proofs.lemmas.Option.{slice_get-get_or}
use Rattle.sim_layout.proofs.OrderGrowth.{grown_past}
use Rattle.sim_layout.proofs.order.look_at.Goals as goal

pub look-requires-clause-growing : goal.look-requires-clause-growing
look-requires-clause-growing c = c.requires.growing

pub look-requires-clause-listed : goal.look-requires-clause-listed
look-requires-clause-listed c =
    let n = c.index-number.result.now in
    slice_get-get_or c.args.growth.now.looks.items c.args.place n c.requires.place ∙ ap Some (sym c.index-number.ensures)

pub returns-then-number-wires : goal.returns-then-number-wires
returns-then-number-wires c = c.look.ensures

pub returns-else-number-wires : goal.returns-else-number-wires
returns-else-number-wires c =
    let n = c.index-number.result.now in
    grown_past c.args.modules.now c.args.wires.now c.args.free.now c.args.place n c.args.growth.now c.requires.growing
    (slice_get-get_or c.args.growth.now.looks.items c.args.place n c.requires.place ∙ ap Some (sym c.index-number.ensures)) (λ l. omega (arith, l))
