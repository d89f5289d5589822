-- A text splits into tokens in one way.
use Rattle.std.proofs.Common.{◌≡◌, List, [], ◌∷◌, Some, refl, sym, ap, ◌∙◌, subst}
use Rattle.std.proofs.lemmas.Option.{same_Some}
use Rattle.verilog_tree.specs.declared.token.Token.{Token}
use Rattle.verilog_tree.specs.Spelling.{Text}
use Rattle.verilog_tree.specs.Tokens.{front, Splits}

nothing_here : (rest : Text) (x : Token) (z : Text) → z ≡ [] → front z ≡ Some (x, rest) → ⊥
unfolding front
nothing_here rest x z e h = let no : front [] ≡ Some (x, rest) = ap front (sym e) ∙ h in cc

pub splits_same : (text : Text) (ts us : List Token) → Splits text ts → Splits text us → ts ≡ us
unfolding Splits
splits_same text [] [] h k = refl
splits_same text [] (u ∷ us) h k = absurd (nothing_here k.0 u _ h k.1)
splits_same text (t ∷ ts) [] h k = absurd (nothing_here h.0 t _ k h.1)
splits_same text (t ∷ ts) (u ∷ us) h k =
    let pair : (t, h.0) ≡ (u, k.0) = same_Some _ _ (sym h.1 ∙ k.1) in
    let token : t ≡ u = ap (λ p. p.0) pair in
    let rest : h.0 ≡ k.0 = ap (λ p. p.1) pair in
    let same : ts ≡ us = splits_same h.0 ts us h.2 (subst (λ z. Splits z us) (sym rest) k.2) in
    λ i. token i ∷ same i
