use Rattle.interval_pack.specs.Sparse.{IsSparsePacking}
use Rattle.std.proofs.Common.{◌≡◌, length, arith}
use Rattle.unit_binding.specs.Works.{IsTakenOver}
use Rattle.unit_binding.proofs.OneKind.{bound_kind, greatest_use}
use Rattle.unit_binding.proofs.bind.bind_kind.Goals as goal

pub take_over-requires-clause-row : goal.take_over-requires-clause-row
take_over-requires-clause-row c =
    let packing : IsSparsePacking c.in_ok-works.works.items c.in_ok-packing.packing.row.items c.in_ok-packing.packing.rows c.in_ok-packing.packing.crowded =
    rw c.deref.ensures.value at c.in_ok-packing.ensures in
    let n = packing.count in
    let m = c.in_ok-works.ensures.count in
    let h : length c.in_ok-packing.packing.row.items ≡ length c.args.nodes.now = omega arith in
    rw c.deref-2.ensures.value h

pub returns-clause-bound : goal.returns-clause-bound
returns-clause-bound c =
    let packing : IsSparsePacking c.in_ok-works.works.items c.in_ok-packing.packing.row.items c.in_ok-packing.packing.rows c.in_ok-packing.packing.crowded =
    rw c.deref.ensures.value at c.in_ok-packing.ensures in
    let taken : IsTakenOver c.args.nodes.now c.args.kind c.in_ok-packing.packing.row.items (length c.args.nodes.now) c.args.unit.now.items c.take_over.new.unit.items =
    rw c.deref-2.ensures.value at c.take_over.ensures in
    bound_kind c.args.nodes.now c.args.starts.now c.args.kind _ c.in_ok-works.ensures _ _ _ packing _ _ c.requires.unit taken

pub returns-clause-count : goal.returns-clause-count
returns-clause-count c =
    let packing : IsSparsePacking c.in_ok-works.works.items c.in_ok-packing.packing.row.items c.in_ok-packing.packing.rows c.in_ok-packing.packing.crowded =
    rw c.deref.ensures.value at c.in_ok-packing.ensures in
    greatest_use c.args.nodes.now c.args.starts.now c.args.kind _ c.in_ok-works.ensures _ _ _ packing
