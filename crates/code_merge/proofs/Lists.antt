-- Items of a list, as a loop has them.
use Rattle.std.proofs.Common.{◌≡◌, ℕ, ◌+◌, ◌<◌, List, [], ◌∷◌, ◌++◌, length, take, get_or, sym, ap, ◌∙◌}
use Rattle.std.proofs.lemmas.List.{take_more}

pub take_next : {A : Type 0} (ss : List A) (k : ℕ) (s : A) → k < length ss → s ≡ get_or ss k s → take (k + 1) ss ≡ take k ss ++ s ∷ []
take_next ss k s lt item = take_more ss k s lt ∙ ap (λ z. take k ss ++ z ∷ []) (sym item)
