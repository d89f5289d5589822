use Rattle.module_sound.proofs.SoundModule.{placed_is_sound}
use Rattle.module_sound.proofs.law.placed_is_sound.Goals as goal

pub returns : goal.returns
returns c = placed_is_sound
