use Rattle.std.proofs.Common.{◌≡◌, length, arith, sym, ◌∙◌}
use Rattle.interval_pack.specs.Sparse.{IsSparsePacking}
use Rattle.register_binding.specs.Used.{is_used_at_end}
use Rattle.register_binding.specs.Steps.{AreLives, AreRows}
use Rattle.register_binding.proofs.BoundLives.{lives_alike, are_registers, registers_below, are_crowded}
use Rattle.register_binding.proofs.bind.bind_registers.Goals as goal

pub lives_of-requires-clause-at_end : goal.lives_of-requires-clause-at_end
lives_of-requires-clause-at_end c =
    let h : length c.in_ok-used.used.items ≡ length c.args.nodes.now = c.in_ok-used.ensures.count ∙ sym c.requires.nodes in
    rw c.deref.ensures.value h

pub returns-clause-registers : goal.returns-clause-registers
returns-clause-registers c =
    let marked = rw c.deref.ensures.value at c.in_ok-lives.ensures in
    let lives : AreLives c.args.nodes.now c.args.starts.now (is_used_at_end c.args.block.now) c.in_ok-lives.lives.items =
    lives_alike c.args.nodes.now c.args.starts.now _ (is_used_at_end c.args.block.now) c.in_ok-lives.lives.items marked
    (λ k l. c.in_ok-used.ensures.each k (let n = c.requires.nodes in omega arith)) in
    let packing : IsSparsePacking c.in_ok-lives.lives.items c.in_ok-packing.packing.row.items c.in_ok-packing.packing.rows c.in_ok-packing.packing.crowded =
    rw c.deref-2.ensures.value at c.in_ok-packing.ensures in
    let rows : AreRows c.in_ok-lives.lives.items c.in_ok-packing.packing.row.items c.in_ok-register.register.items =
    rw (c.deref-3.ensures.value, c.deref-4.ensures.value) at c.in_ok-register.ensures in
    are_registers c.args.nodes.now c.args.starts.now _ c.in_ok-lives.lives.items lives _ _ _ packing _ rows

pub returns-clause-below : goal.returns-clause-below
returns-clause-below c =
    let marked = rw c.deref.ensures.value at c.in_ok-lives.ensures in
    let lives : AreLives c.args.nodes.now c.args.starts.now (is_used_at_end c.args.block.now) c.in_ok-lives.lives.items =
    lives_alike c.args.nodes.now c.args.starts.now _ (is_used_at_end c.args.block.now) c.in_ok-lives.lives.items marked
    (λ k l. c.in_ok-used.ensures.each k (let n = c.requires.nodes in omega arith)) in
    let packing : IsSparsePacking c.in_ok-lives.lives.items c.in_ok-packing.packing.row.items c.in_ok-packing.packing.rows c.in_ok-packing.packing.crowded =
    rw c.deref-2.ensures.value at c.in_ok-packing.ensures in
    let rows : AreRows c.in_ok-lives.lives.items c.in_ok-packing.packing.row.items c.in_ok-register.register.items =
    rw (c.deref-3.ensures.value, c.deref-4.ensures.value) at c.in_ok-register.ensures in
    registers_below c.args.nodes.now c.args.starts.now _ c.in_ok-lives.lives.items lives _ _ _ packing _ rows

pub returns-clause-crowd : goal.returns-clause-crowd
returns-clause-crowd c =
    let marked = rw c.deref.ensures.value at c.in_ok-lives.ensures in
    let lives : AreLives c.args.nodes.now c.args.starts.now (is_used_at_end c.args.block.now) c.in_ok-lives.lives.items =
    lives_alike c.args.nodes.now c.args.starts.now _ (is_used_at_end c.args.block.now) c.in_ok-lives.lives.items marked
    (λ k l. c.in_ok-used.ensures.each k (let n = c.requires.nodes in omega arith)) in
    let packing : IsSparsePacking c.in_ok-lives.lives.items c.in_ok-packing.packing.row.items c.in_ok-packing.packing.rows c.in_ok-packing.packing.crowded =
    rw c.deref-2.ensures.value at c.in_ok-packing.ensures in
    are_crowded c.args.nodes.now c.args.starts.now _ c.in_ok-lives.lives.items lives _ _ _ packing
