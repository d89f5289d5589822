use Rattle.std.proofs.Common.{◌≡◌, ◌∙◌, [], slice_get, map, Some, None, sym, ap}
use Rattle.std.specs.Option.{option_copied}
use Rattle.std.specs.Prelude.{string_bytes}
use Rattle.operator_wires.proofs.MadeWords.{of_ok}
use Rattle.verilog_meaning.specs.Names.{numbered}
use Rattle.thread_slots.specs.Naming.{stem_for, register_name}
use Rattle.thread_slots.proofs.RegisterNames.{name_of_some, name_of_none}
use Rattle.thread_slots.proofs.names.register_name.Goals as goal

pub returns-in-Some : goal.returns-in-Some
returns-in-Some c =
    let found : slice_get c.args.names.now c.args.variable ≡ Some c.in-Some.name.now = sym c.get.ensures.value ∙ ap option_copied c.in-Some.is in
    of_ok c.placed_name.result (λ text. text ≡ numbered (stem_for c.as_str.result.now) c.args.place)
    (λ text. text ≡ register_name (map string_bytes c.args.names.now) c.args.variable c.args.place)
    (λ text t. t ∙ name_of_some string_bytes c.args.names.now c.args.variable c.args.place c.in-Some.name.now c.as_str.result.now found c.as_str.ensures.value)
    c.placed_name.ensures

pub returns-in-None : goal.returns-in-None
returns-in-None c =
    let none : slice_get c.args.names.now c.args.variable ≡ None = sym c.get.ensures.value ∙ ap option_copied c.in-None.is in
    of_ok c.placed_name-in-None.result (λ text. text ≡ numbered (stem_for []) c.args.place)
    (λ text. text ≡ register_name (map string_bytes c.args.names.now) c.args.variable c.args.place)
    (λ text t. t ∙ name_of_none string_bytes c.args.names.now c.args.variable c.args.place none)
    c.placed_name-in-None.ensures
