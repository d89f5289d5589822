use Rattle.std.proofs.Common.{sym, ap, ◌∙◌}
use Rattle.std.specs.Prelude.{string_bytes}
use Rattle.std.specs.Option.{option_copied, option_map}
use Rattle.std.proofs.lemmas.Option.{slice_get-map}
use Rattle.std.proofs.lemmas.Result.{MatchResult-weaker}
use Rattle.lists.proofs.Places.{get_mapped}
use Rattle.code_storage.specs.Names.{is_name, name_given}
use Rattle.code_storage.proofs.Names.{name_taken, name_left}
use Rattle.code_storage.proofs.naming.name_given.Goals as goal
use Rattle.code_storage.proofs.naming.name_given.Goals.{in_default-via-in-Some+else-is_name, in_default-via-in_default}

pub returns-in-Some : goal.returns-in-Some
returns-in-Some c =
    let here = get_mapped string_bytes c.args.names.now c.args.place _ (sym c.at.ensures ∙ ap option_copied c.in-Some.is) in
    MatchResult-weaker c.clone.result c.clone.ensures.cases
    (λ name e. e ∙ name_taken _ _ here (ap is_name (sym c.as_bytes.ensures.value) ∙ sym c.is_name.ensures ∙ c.if-is_name.true)) (λ _ _. tt)

pub returns-in_default : goal.returns-in_default
returns-in_default c =
    c.new.ensures.bytes ∙ elim c.in_default.branch [
      | in_default-via-in-Some+else-is_name w ↦
          name_left _ _ (get_mapped string_bytes c.args.names.now c.args.place _ (sym c.at.ensures ∙ ap option_copied w.in-Some.is))
          (ap is_name (sym w.as_bytes.ensures.value) ∙ sym w.is_name.ensures ∙ w.if-is_name.false)
      | in_default-via-in_default w ↦
          sym (ap name_given (slice_get-map string_bytes c.args.names.now c.args.place ∙ ap (option_map string_bytes) (sym c.at.ensures ∙ ap option_copied w.in_default.is)))
    ]
