use Rattle.std.proofs.Common.{◌<◌, ◌∙◌, ap, sym, take, arith}
use Rattle.std.specs.Prelude.{unwrap_or, option_map, slice_get}
use Rattle.std.proofs.lemmas.Option.{slice_get-map}
use Rattle.net_names.specs.Names.{first_output}
use Rattle.net_names.proofs.Modules.{taken_get}
use Rattle.net_names.proofs.kinds.Kinds.get.Goals as goal

pub returns-in-Some : goal.returns-in-Some
returns-in-Some c =
    let all = c.args.self.now in
    let k = c.place-place.result in
    let within = c.place-place.ensures.within in
    let other = c.if-place-before.false in
    let lt : c.place-place.result < c.args.before = omega (arith, within, other) in
    let found = ap (λ l. slice_get l k) (sym c.self.view_is) ∙ sym c.in-Some.ensures in (
      ap (slice_get (take c.args.before all)) (sym c.place-place.ensures.place) ∙ taken_get all c.args.before k lt ∙ found,
      c.unwrap_or.ensures
          ∙ ap (λ o. unwrap_or o 0) (c.copied.ensures ∙ c.get.ensures.value ∙ ap (λ l. slice_get l k) c.self.invariant.1
          ∙ slice_get-map first_output c.self.inside.modules.now k ∙ ap (option_map first_output) (sym c.in-Some.ensures)),
    )

pub returns-in-None : goal.returns-in-None
returns-in-None c =
    let all = c.args.self.now in
    let k = c.place-place.result in
    let within = c.place-place.ensures.within in
    let other = c.if-place-before.false in
    let lt : c.place-place.result < c.args.before = omega (arith, within, other) in
    ap (slice_get (take c.args.before all)) (sym c.place-place.ensures.place) ∙ taken_get all c.args.before k lt
    ∙ ap (λ l. slice_get l k) (sym c.self.view_is) ∙ sym c.in-None.ensures
