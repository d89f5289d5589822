-- What holds of the value of an answer, where four facts do.
use Rattle.std.proofs.Common.{Result, Ok, Err}
use Rattle.std.specs.Prelude.{IfOk}

pub of_four : {X E : Type 0} (answer : Result X E) (A B C D F : X → Type 0) → ((x : X) → A x → B x → C x → D x → F x) → IfOk answer A → IfOk answer B → IfOk answer C → IfOk answer D
    → IfOk answer F
of_four (Ok x) A B C D F f a b c d = f x a b c d
of_four (Err e) A B C D F f a b c d = tt
