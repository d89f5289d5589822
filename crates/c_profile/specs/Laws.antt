-- Each text has one answer: the program that it spells, with its weight, or one refusal.
use Rattle.std.specs.Prelude.{◌≡◌, ◌⊎◌, ℕ}
use Rattle.c_token.specs.Spelling.{Bytes}
use Rattle.c_program.specs.Tree.{Program}
use Rattle.c_accepted.specs.declared.refusal.Refusal.{Refusal}
use Rattle.c_accepted.specs.Profile.{IsAccepted, IsRefused}

-- a text is accepted as one program, with one weight
abbrev pub AcceptedOnce : Type 0
AcceptedOnce = (text : Bytes) (P Q : Program) (v w : ℕ) → IsAccepted text P v → IsAccepted text Q w → (P ≡ Q) × (v ≡ w)

-- a text is refused for one reason, at one place
abbrev pub RefusedOnce : Type 0
RefusedOnce = (text : Bytes) (r s : Refusal) → IsRefused text r → IsRefused text s → r ≡ s

-- no text is both accepted and refused
abbrev pub NeverBoth : Type 0
NeverBoth = (text : Bytes) (P : Program) (w : ℕ) (r : Refusal) → IsAccepted text P w → IsRefused text r → ⊥

-- a text is accepted or refused
abbrev pub HasAnswer : Bytes → Type 0
HasAnswer text = ((P : Program) × (w : ℕ) × IsAccepted text P w) ⊎ ((r : Refusal) × IsRefused text r)

abbrev pub EachHasAnswer : Type 0
EachHasAnswer = (text : Bytes) → HasAnswer text
