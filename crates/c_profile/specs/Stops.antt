-- The answer for a tree that has no program.
use Rattle.c_rules.specs.declared.fault.ResolveError.{ResolveError}
use Rattle.c_rules.specs.declared.fault.ResolveError.TheVariants as stop
use Rattle.c_accepted.specs.declared.refusal.Refusal.TheVariants as refusal
use Rattle.c_profile.specs.declared.text.ProfileError.{ProfileError}
use Rattle.c_profile.specs.declared.text.ProfileError.TheVariants as error

abbrev pub answer_to : ResolveError → ProfileError
answer_to (stop.Broken fault) = error.Refused (refusal.Broken fault.rule fault.offset)
answer_to stop.NoMain = error.Refused refusal.NoMain
answer_to stop.Memory = error.Memory
