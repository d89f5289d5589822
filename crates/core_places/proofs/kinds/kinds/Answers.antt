use Rattle.std.proofs.Common.{◌≡◌, map, Some, sym, ap, ◌∙◌}
use Rattle.std.proofs.lemmas.Option.{slice_get-get_or}
use Rattle.core_family.specs.View.{kind_of}
use Rattle.core_places.specs.Placing.{distinct}
use Rattle.core_places.proofs.Modules.{is_right, one_made}
use Rattle.core_places.proofs.kinds.kinds.Goals as goal

pub module-requires : goal.module-requires
module-requires c =
    let kinds = c.as_slice-kinds.result.now in
    let i = c.loop-kind.kind-index in
    let are : map kind_of kinds ≡ distinct c.args.wanted.now = ap (map kind_of) c.as_slice-kinds.ensures ∙ c.in_ok-listed.ensures in
    is_right c.args.wanted.now c.requires kinds are i c.kind-item.result (slice_get-get_or kinds i _ c.loop-kind-test.true ∙ ap Some (sym c.kind-item.is))

pub loop-kind-preserved : goal.loop-kind-preserved
loop-kind-preserved c =
    let kinds = c.as_slice-kinds.result.now in
    let i = c.loop-kind.kind-index in
    let are : map kind_of kinds ≡ distinct c.args.wanted.now = ap (map kind_of) c.as_slice-kinds.ensures ∙ c.in_ok-listed.ensures in
    one_made c.args.wanted.now c.requires kinds are i c.kind-item.result (slice_get-get_or kinds i _ c.loop-kind-test.true ∙ ap Some (sym c.kind-item.is)) c.loop-kind.modules
    c.push.new.self c.in_ok-made.made c.loop-kind.invariant c.in_ok-made.ensures c.in_ok-push.ensures.ok
