use Rattle.std.proofs.Common.{◌+◌, refl, sym, ap, ◌∙◌, subst}
use Rattle.c_program.specs.Plain.{function_of}
use Rattle.code_storage.specs.Locals.{all_locals, AllHomed}
use Rattle.code_storage.specs.Reaching.{kept}
use Rattle.code_storage.proofs.RoomsFull.{kept_prints}
use Rattle.code_storage.proofs.LocalHomes.{room_more}
use Rattle.code_storage.proofs.rooms.Rooms.add.Goals as goal

pub returns-clause-placed : goal.returns-clause-placed
returns-clause-placed c = λ before placed.
    room_more before (kept c.args.is_reached (function_of c.args.function.now)) c.in_ok-homes.homes c.args.self.now c.place_all.new.self _ placed
    (subst (λ ls. AllHomed (all_locals before) ls c.in_ok-homes.homes c.args.self.now c.place_all.new.self) c.kept_locals.ensures (c.in_ok-homes.ensures.homed (all_locals before) placed.houses))
    c.in_ok-push.ensures.ok
    (c.in_ok-self.ensures.count ∙ ap (λ n. c.place_all.new.self.sites + n) (sym (kept_prints c.args.is_reached (function_of c.args.function.now)))) refl refl
