use Rattle.std.proofs.Common.{◌∙◌, ap, Some}
use Rattle.std.specs.Prelude.{option_map, slice_index}
use Rattle.net_registers.proofs.Listed.{register_is}
use Rattle.net_registers.proofs.registers.register.Goals as goal

pub returns-in-Some : goal.returns-in-Some
returns-in-Some c = λ is.
    ap (λ n. Some n) c.number.ensures ∙ ap (option_map (slice_index c.args.sim.now.numbers)) c.in-Some.ensures.value ∙ register_is c.args.sim.now c.args.listing.now is c.args.number

pub returns-in-None : goal.returns-in-None
returns-in-None c = λ is.
    ap (option_map (slice_index c.args.sim.now.numbers)) c.in-None.ensures.value ∙ register_is c.args.sim.now c.args.listing.now is c.args.number
