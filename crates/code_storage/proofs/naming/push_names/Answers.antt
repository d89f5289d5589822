use Rattle.std.proofs.Common.{map, ◌∙◌, ⊎_elim, eq-eqb}
use Rattle.std.specs.Prelude.{string_bytes}
use Rattle.std.proofs.lemmas.Bool.Decides.{eqb_tells}
use Rattle.code_storage.proofs.Names.{named_more, named_as}
use Rattle.code_storage.proofs.naming.push_names.Goals as goal
use Rattle.code_storage.proofs.naming.push_names.Goals.{then-local-eq1+in_ok-name_given+in_ok-push, else-local-eq1}

pub loop-place-preserved : goal.loop-place-preserved
loop-place-preserved c =
    let given = map string_bytes c.args.given.now in
    elim c.if-local-eq1.branch [
      | then-local-eq1+in_ok-name_given+in_ok-push w ↦
          named_more string_bytes c.args.locals.now given c.args.names.now c.loop-place.names c.if-local-eq1.names c.loop-place.place c.index-locals-place.result
          c.loop-place-test.true c.index-locals-place.is w.in_ok-name_given.field-0 (eq-eqb c.index-locals-place.result.length 1 w.if-local-eq1.true) c.loop-place.invariant
          w.in_ok-name_given.ensures (w.names-is ∙ w.in_ok-push.ensures.ok)
      | else-local-eq1 w ↦
          named_as string_bytes c.args.locals.now given c.args.names.now c.loop-place.names c.if-local-eq1.names c.loop-place.place c.index-locals-place.result
          c.loop-place-test.true c.index-locals-place.is (⊎_elim (λ t. absurd (w.if-local-eq1.false t.1)) (λ t. t.0) (eqb_tells c.index-locals-place.result.length 1)) c.loop-place.invariant
          w.names-is
    ]
