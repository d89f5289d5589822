use Rattle.std.proofs.Common.{◌≡◌, ◌∙◌, ap, ℕ, List, [], ◌∷◌, ◌++◌, append_assoc, codes}
use Rattle.net_registers.proofs.HeadLines.{scope_is}
use Rattle.net_registers.proofs.listing.put_scope.Goals as goal

joined : (h a n b z : List ℕ) → ((h ++ a) ++ n) ++ (b ++ z) ≡ h ++ (((a ++ n) ++ b) ++ z)
joined h a n b z = simp append_assoc

pub returns-clause-head : goal.returns-clause-head
returns-clause-head c =
    let name : c.as_bytes.result.now ≡ c.args.name.now = c.as_bytes.ensures.value ∙ c.as_str.ensures.bytes in
    c.in_ok-put-3.ensures ∙ ap (λ (l : List ℕ). l ++ (codes " $end" ++ 10 ∷ [])) (c.in_ok-put-2.ensures ∙ (λ i. c.in_ok-put.ensures i ++ name i))
    ∙ joined c.args.head.now (codes "$scope module ") c.args.name.now (codes " $end") (10 ∷ [])

pub returns-clause-line : goal.returns-clause-line
returns-clause-line c = scope_is c.args.name.now c.as_str.ensures.name
