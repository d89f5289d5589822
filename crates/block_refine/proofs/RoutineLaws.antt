-- The laws of the codes of functions.
use Rattle.std.proofs.Common.{refl}
use Rattle.std.specs.Prelude.{slice_get}
use Rattle.c_program.specs.Weight.{weight}
use Rattle.thread_semantics.specs.State.{started}
use Rattle.race_model.specs.Source.{c_source}
use Rattle.race_model.proofs.Moves.{started_is}
use Rattle.race_model.proofs.Sound.{reachable_sound}
use Rattle.planned_block.specs.Following.{no_spare}
use Rattle.planned_block.proofs.Budget.{followers_are_lowered}
use Rattle.block_refine.specs.Threads.{IsTyped}
use Rattle.block_refine.specs.Routines.{blocks_of, plans_of, AtAct, CodeFollows, BlocksAreSteps}
use Rattle.block_refine.proofs.RoutineStages.{follows}

pub code_follows : CodeFollows
code_follows P codes f function R found lowered planned variables arrays arguments has n =
    follows P R codes planned f n 0 variables (λ x j. arrays (record { object = x; index = j })) (started (slice_get P.functions f) f arguments)
    (started_is P R function f arguments found) (lowered n variables (λ x j. arrays (record { object = x; index = j })) arguments has)

pub blocks_are_steps : BlocksAreSteps
blocks_are_steps P codes chain R ordered chains =
    followers_are_lowered (c_source P) (IsTyped P) (AtAct P codes) (blocks_of codes) (plans_of codes) chain no_spare (weight P)
    (λ s at. record { globals = s.globals; lengths = (reachable_sound P R s at).shape.lengths; is = refl }) ordered chains
