use Rattle.std.proofs.Common.{◌≡◌, true, false, if◌then◌else◌}
use Rattle.op_graph.specs.Graph.{kind_at, same_kind}
use Rattle.unit_binding.specs.Units.{is_listed}
use Rattle.unit_binding.proofs.AllKinds.{known_kind, not_done, not_listed, one_more}
use Rattle.unit_binding.proofs.bind.bind_kind_of.Goals as goal

pub returns-then-done : goal.returns-then-done
returns-then-done c =
    let kind = kind_at c.args.nodes.now c.args.j in
    let e : c.is_done-done.result ≡ (if same_kind kind kind then is_listed c.args.counts.now.items kind else true) = rw c.deref.ensures.value at c.is_done-done.ensures in
    known_kind c.args.nodes.now c.args.starts.now c.args.j _ _ c.requires.bound c.is_done-done.result e c.if-done.true

pub returns : goal.returns
returns c =
    let kind = kind_at c.args.nodes.now c.args.j in
    let e : c.is_done-done.result ≡ (if same_kind kind kind then is_listed c.args.counts.now.items kind else true) = rw c.deref.ensures.value at c.is_done-done.ensures in
    let shares : same_kind kind kind ≡ true = not_done _ _ c.is_done-done.result e c.if-done.false in
    let fresh : is_listed c.args.counts.now.items kind ≡ false = not_listed _ _ c.is_done-done.result e c.if-done.false in
    one_more c.args.nodes.now c.args.starts.now c.args.j _ _ c.requires.bound c.requires.place shares fresh _ c.in_ok-count.ensures.bound _ c.in_ok-count.ensures.count _
    c.in_ok-push.ensures.items
