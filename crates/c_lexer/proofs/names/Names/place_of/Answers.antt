use Rattle.std.proofs.Common.{sym, ◌∙◌}
use Rattle.std.specs.Prelude.{position}
use Rattle.std.specs.Str.{bytes_eq}
use Rattle.c_lexer.proofs.Places.{position-map}
use Rattle.c_lexer.proofs.names.Names.place_of.Goals as goal

pub returns : goal.returns
returns c =
    c.get_index_of.ensures.index ∙ sym (position-map (λ k. k.now) (bytes_eq c.args.name.now) c.self.inside.names.keys)
    ∙ (λ i. position (bytes_eq c.args.name.now) (c.self.view_is i))
