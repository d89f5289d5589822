use Rattle.std.proofs.Common.{◌≡◌, ◌∙◌, ap}
use Rattle.std.specs.Prelude.{unwrap_or}
use Rattle.netlist.specs.NetlistOf.{initial_of}
use Rattle.net_names.specs.Tables.{constant_of}
use Rattle.net_names.proofs.initials.Initials.number.Goals as goal

pub returns : goal.returns
returns c =
    let name : c.as_bytes-bytes.result.now ≡ c.args.name.now = c.as_bytes-bytes.ensures.value ∙ c.as_str.ensures.bytes in
    c.unwrap_or.ensures ∙ ap (λ o. unwrap_or o 0) (c.copied.ensures ∙ c.get.ensures.value) ∙ ap (λ x. constant_of c.self.inside.words.entries x c.args.word) name
    ∙ c.self.invariant c.args.name.now c.args.word ∙ ap (λ l. initial_of l c.args.name.now c.args.word) c.self.view_is
