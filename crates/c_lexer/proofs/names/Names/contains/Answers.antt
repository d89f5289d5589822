use Rattle.std.proofs.Common.{sym, ◌∙◌}
use Rattle.std.specs.List.{list_any}
use Rattle.std.specs.Str.{bytes_eq}
use Rattle.c_lexer.proofs.Places.{any-map}
use Rattle.c_lexer.proofs.names.Names.contains.Goals as goal

pub returns : goal.returns
returns c =
    c.contains.ensures ∙ sym (any-map (λ k. k.now) (bytes_eq c.args.name.now) c.self.inside.names.keys)
    ∙ (λ i. list_any (bytes_eq c.args.name.now) (c.self.view_is i))
