use Rattle.std.proofs.Common.{◌≡◌, false, sym, ap, ◌∙◌, map, List, ◌++◌, ◌∷◌, [], ℕ, Bor}
use Rattle.std.specs.Prelude.{cond}
use Rattle.std.specs.List.{list_any}
use Rattle.std.specs.Str.{bytes_eq}
use Rattle.std.proofs.lemmas.List.{map_push}
use Rattle.c_lexer.proofs.Places.{any-map}
use Rattle.c_lexer.proofs.names.Names.add.Goals as goal

pub returns : goal.returns
returns c =
    let keys = c.self.inside.names.keys in
    let fresh : list_any (λ (k : Bor (List ℕ)). bytes_eq c.args.name.now k.now) keys ≡ false =
    sym (any-map (λ k. k.now) (bytes_eq c.args.name.now) keys) ∙ (λ i. list_any (bytes_eq c.args.name.now) (c.self.view_is i)) ∙ c.requires in
    ap (map (λ k. k.now)) c.in_ok-insert.ensures.keys
    ∙ ap (λ b. map (λ (k : Bor (List ℕ)). k.now) (cond b keys (keys ++ (c.args.name ∷ [])))) fresh
    ∙ map_push (λ k. k.now) keys c.args.name
    ∙ (λ i. c.self.view_is i ++ c.args.name.now ∷ [])
