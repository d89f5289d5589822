use Rattle.std.proofs.Common.{◌++◌, List, ℕ, ap, ◌∙◌}
use Rattle.std.specs.Prelude.{string_bytes}
use Rattle.thread_slots.proofs.RegisterNames.{is_name-placed}
use Rattle.thread_slots.proofs.names.placed_name.Goals as goal

pub from_string-requires : goal.from_string-requires
from_string-requires c =
    is_name-placed c.args.name.now _ _ _ c.args.place c.ranges.place.fits c.in_ok-text.ensures c.in_ok-push_str.ensures.bytes
    (c.in_ok-push_str-2.ensures.bytes ∙ ap (λ (digits : List ℕ). string_bytes c.push_str.new.self ++ digits) (c.as_str.ensures.value ∙ c.in_ok-number.ensures.ok))
