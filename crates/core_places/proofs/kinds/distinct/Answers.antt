use Rattle.std.proofs.Common.{map, ap, ◌∙◌}
use Rattle.std.specs.Prelude.{not}
use Rattle.std.specs.List.{list_any}
use Rattle.mutex_cores.specs.declared.mutex.Shape.{Shape as MutexShape}
use Rattle.core_family.specs.View.{kind_of}
use Rattle.core_places.proofs.Modules.{are_distinct}
use Rattle.core_places.proofs.kinds.distinct.Goals as goal

pub returns : goal.returns
returns c =
    are_distinct c.args.wanted.now (map kind_of c.in_ok-kinds.kinds) (map kind_of c.push_if.new.kinds) (map kind_of c.push_if-2.new.kinds) (map kind_of c.push_if-3.new.kinds)
    (map kind_of c.push_if-4.new.kinds) (map kind_of c.push_if-5.new.kinds) c.as_slice.result.now c.has_unset.result c.has_free.result (kind_of c.mutex_kind.result)
    (kind_of c.mutex_kind-2.result) c.in_ok-kinds.ensures c.as_slice.ensures c.in_ok-push_if.ensures c.in_ok-push_if-2.ensures c.in_ok-push_if-3.ensures
    c.in_ok-push_if-4.ensures c.in_ok-push_if-5.ensures (c.has_unset.ensures ∙ ap (list_any (λ (m : MutexShape). not m.initialised)) c.as_slice-mutexes.ensures)
    c.mutex_kind.ensures (c.has_free.ensures ∙ ap (list_any (λ (m : MutexShape). m.initialised)) c.as_slice-mutexes.ensures) c.mutex_kind-2.ensures
