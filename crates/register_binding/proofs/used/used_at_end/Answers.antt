use Rattle.std.proofs.Common.{◌≡◌, false, replicate, rules}
use Rattle.register_binding.specs.Used.{IsMarked, any_final}
use Rattle.register_binding.proofs.ListMarks.{used_at_end}
use Rattle.register_binding.proofs.used.used_at_end.Goals as goal

pub returns : goal.returns
returns c =
    let none : c.in_ok-used.used.items ≡ replicate c.len.result false = search rules in
    let finals : IsMarked (any_final c.args.block.now.finals) c.in_ok-used.used.items c.mark_finals.new.used.items = rw c.as_slice.ensures at c.mark_finals.ensures in
    used_at_end c.args.block.now c.len.result c.in_ok-used.used.items c.mark_finals.new.used.items c.mark_next.new.used.items c.len.ensures none finals c.mark_next.ensures
