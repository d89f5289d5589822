use Rattle.std.proofs.Common.{refl, ◌∙◌, ⊎_elim, eq-eqb}
use Rattle.std.proofs.lemmas.Bool.Decides.{eqb_tells}
use Rattle.code_storage.proofs.LocalHomes.{scalar_more, array_more}
use Rattle.code_storage.proofs.rooms.Rooms.place.Goals as goal

pub returns-then-length-eq1-clause-homed : goal.returns-then-length-eq1-clause-homed
returns-then-length-eq1-clause-homed c = λ before houses.
    scalar_more before c.args.local c.args.self.now _ _ (eq-eqb c.args.local.length 1 c.if-length-eq1.true) houses (c.in_ok-number.ensures.value ∙ c.len.ensures)
    c.in_ok-push.ensures.ok refl refl refl

pub returns-clause-homed : goal.returns-clause-homed
returns-clause-homed c = λ before houses.
    array_more before c.args.local c.args.self.now _ _ (⊎_elim (λ t. absurd (c.if-length-eq1.false t.1)) (λ t. t.0) (eqb_tells c.args.local.length 1)) houses
    (c.in_ok-number-2.ensures.value ∙ c.len-2.ensures) refl c.in_ok-push-2.ensures.ok refl refl
