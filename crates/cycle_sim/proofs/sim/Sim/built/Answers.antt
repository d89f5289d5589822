use Rattle.std.proofs.Common.{rules, ◌≡◌, ℕ, List, true, length, replicate, refl, ap, sym, ◌∙◌, subst, arith}
use Rattle.sim_values.specs.declared.settle.Step.{Step}
use Rattle.sim_events.specs.Events.{IsFanout, AreOrdered}
use Rattle.sim_events.proofs.PendingSteps.{keeping_all}
use Rattle.sim_values.specs.declared.edge.Part.{Part}
use Rattle.sim_events.specs.Cones.{IsCone}
use Rattle.sim_events.specs.Edges.{edge_rows}
use Rattle.cycle_sim.proofs.Events.{rows_at}
use Rattle.cycle_sim.proofs.sim.Sim.built.Goals as goal

pub invariant_of-result : goal.invariant_of-result
invariant_of-result c =
    let modules = c.args.modules.now in
    let steps = c.args.steps.items in
    let numbers = c.args.placed.numbers.items in
    let ends = c.in_ok-fanout.fanout.starts.items in
    let listed = c.in_ok-fanout.fanout.steps.items in
    let pending = c.in_ok-pending.pending.steps.items in
    let words : c.len-words.result ≡ length numbers = omega arith in
    let count : c.len.result ≡ length steps = omega arith in
    let all : IsFanout modules steps (length numbers) ends listed =
    subst (λ (n : ℕ). IsFanout modules steps n ends listed) words
    (subst (λ (ss : List Step). IsFanout modules ss c.len-words.result ends listed) c.as_slice-2.ensures.value c.in_ok-fanout.ensures) in (
      search rules,
      search rules,
      search rules,
      keeping_all modules steps ends listed numbers pending all (c.in_ok-pending.ensures.steps ∙ ap (λ n. replicate n true) count),
      c.in_ok-pending.ensures.flagged,
      rows_at modules c.as_slice-4.result.now steps c.as_slice-3.result.now c.args.placed.starts.items c.in_ok-rows.rows.items c.in_ok-rows.rows.items (sym c.as_slice-4.ensures.value)
          (sym c.as_slice-3.ensures.value) refl c.in_ok-rows.ensures,
      c.in_ok-edge.ensures ∙ ap (λ ns. edge_rows modules ns c.as_slice-6.result.now) c.as_slice-5.ensures.value ∙ ap (λ (ps : List Part). edge_rows modules c.args.placed.starts.items ps) c.as_slice-6.ensures.value,
      subst (λ n. IsCone modules steps n c.in_ok-done.done c.in_ok-cone.cone.items) words
          (subst (λ (ss : List Step). IsCone modules ss c.len-words.result c.in_ok-done.done c.in_ok-cone.cone.items) c.as_slice-7.ensures.value c.in_ok-cone.ensures),
    )

pub rows_of-requires : goal.rows_of-requires
rows_of-requires c = c.requires.ready.stands.right.values

pub cone-requires : goal.cone-requires
cone-requires c =
    let stands = c.requires.ready.stands in
    let words : c.len-words.result ≡ length c.args.placed.numbers.items = omega arith in
    subst (λ n. AreOrdered c.args.modules.now c.as_slice-7.result.now n) (sym words)
    (subst (λ (ss : List Step). AreOrdered c.args.modules.now ss (length c.args.placed.numbers.items)) (sym c.as_slice-7.ensures.value)
    (record { free = stands.free; ordered = stands.plan.ordered; targets = stands.plan.targets }))
