-- What is answered is the only answer.
use Rattle.std.proofs.Common.{◌≡◌, ℕ, refl}
use Rattle.std.specs.Prelude.{Result, Ok, Err, IfOk, IfErr}
use Rattle.c_token.specs.Spelling.{Bytes}
use Rattle.c_program.specs.Tree.{Program}
use Rattle.c_program.specs.Plain.{program_of}
use Rattle.c_accepted.specs.declared.refusal.Refusal.{Refusal}
use Rattle.c_profile.specs.declared.text.Accepted.{Accepted}
use Rattle.c_profile.specs.declared.text.ProfileError.{ProfileError}
use Rattle.c_profile.specs.declared.text.ProfileError.TheVariants as error
use Rattle.c_accepted.specs.Profile.{IsAccepted, IsRefused}
use Rattle.c_profile.specs.Answers.{AcceptsOnly, RefusesOnly}
use Rattle.c_profile.proofs.Stages.{accepted_once, refused_once, never_both}

abbrev IsSound : Bytes → Result Accepted ProfileError → Type 0
IsSound text answer =
    IfOk answer (λ a. IsAccepted text (program_of a.program) a.weight)
    × IfErr answer (λ e. (r : Refusal) → e ≡ error.Refused r → IsRefused text r)

pub accepts_only : (text : Bytes) (answer : Result Accepted ProfileError) → IsSound text answer → (P : Program) (w : ℕ) → IsAccepted text P w → AcceptsOnly P w answer
accepts_only text (Ok a) h P w k = accepted_once text (program_of a.program) P a.weight w h.0 k
accepts_only text (Err (error.Refused r)) h P w k = never_both text P w r k (h.1 r refl)
accepts_only text (Err error.Memory) h P w k = tt

pub refuses_only : (text : Bytes) (answer : Result Accepted ProfileError) → IsSound text answer → (r : Refusal) → IsRefused text r → RefusesOnly r answer
refuses_only text (Ok a) h r k = never_both text (program_of a.program) a.weight r h.0 k
refuses_only text (Err (error.Refused s)) h r k = refused_once text s r (h.1 s refl) k
refuses_only text (Err error.Memory) h r k = tt
