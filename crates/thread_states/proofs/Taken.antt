-- Chains through the stages of acts: their links stand.
use Rattle.std.proofs.Common.{◌≡◌, ℕ, ◌<◌, ◌≤◌, ◌^◌, List, length, Some, refl, sym, subst, ◌∙◌}
use Rattle.block_ir.specs.declared.code.ThreadCode.{ThreadCode}
use Rattle.block_ir.specs.declared.plan.BlockPlan.{BlockPlan}
use Rattle.block_ir.specs.declared.plan.StagePlan.TheVariants as planned
use Rattle.netlist.specs.declared.netlist.Signal.{Signal}
use Rattle.operator_wires.specs.Built.{Base, IsEarlier, AreWires}
use Rattle.operator_wires.proofs.BuiltWires.{stands_after, wires_then}
use Rattle.block_datapath.specs.declared.registers.Registers.{Registers}
use Rattle.block_datapath.specs.Wired.{CanRead}
use Rattle.block_datapath.specs.declared.leaving_block.Left.{Left}
use Rattle.thread_slots.specs.declared.chains.Chains.{Chains}
use Rattle.thread_slots.specs.Wired.{LinkAll, ValuesStand, AreSlots, AreLinked, KeepsLinks}
use Rattle.thread_states.specs.Wired.{StepIsWired}
use Rattle.thread_slots.proofs.Linked.{slots_later, linked_later, keeps_then}
use Rattle.thread_slots.proofs.Taken.{stage_below}

-- ---- what is asked of wires

-- chains keep their links, where a condition stands
abbrev pub Keeps : List Signal → List Signal → Chains → Chains → ℕ → Type 0
Keeps a b before after condition =
    (base : Base) (code : ThreadCode) (registers : Registers) → AreLinked base a code registers before → IsEarlier a base condition 1
    → KeepsLinks base a b code registers after

abbrev pub Leads : List Signal → List Signal → Registers → Chains → Chains → ℕ → ℕ → Type 0
Leads a b registers before after last target =
    (base : Base) (code : ThreadCode) → AreLinked base a code registers before → IsEarlier a base last 1 → IsEarlier a base target registers.stage.width
    → KeepsLinks base a b code registers after

-- ---- blocks

-- the links behind a block, where its values stand too
pub record LinksBlock (base : Base) (a b : List Signal) (registers : Registers) (left : Left) (first second : List ℕ) : Type 0 where
  pub wires : AreWires base a b
  pub variables : LinkAll base b registers.variables first
  pub kept : LinkAll base b registers.kept second
  pub last : IsEarlier b base left.last 1
  pub target : IsEarlier b base left.target registers.stage.width
  pub values : ValuesStand base b left.values
  pub at : IsEarlier b base left.end.at 1
  pub states : left.end.states ≤ 2 ^ registers.state.width

pub run_linked : (code : ThreadCode) (registers : Registers) (l : ℕ) (p : BlockPlan) (s0 s1 s2 s3 : List Signal) (before middle after : Chains) (left : Left)
    → middle ≡ record before { variables = middle.variables; kept = middle.kept } → length middle.variables ≡ length before.variables → length middle.kept ≡ length before.kept
    → ((base : Base) → AreSlots base s0 code registers → CanRead base code registers → l < 2 ^ registers.stage.width → p.states ≤ 2 ^ registers.state.width
    → (length before.variables ≡ length registers.variables) × LinkAll base s0 registers.variables before.variables
    → (length before.kept ≡ length registers.kept) × LinkAll base s0 registers.kept before.kept → LinksBlock base s0 s1 registers left middle.variables middle.kept)
    → ((base : Base) → AreSlots base s1 code registers → ValuesStand base s1 left.values → IsEarlier s1 base left.end.at 1 → left.end.states ≤ 2 ^ registers.state.width
    → AreWires base s1 s2) → Leads s2 s3 registers middle after left.last left.target
    → l ≤ length code.stages → StepIsWired code registers (Some (planned.Run p)) s0 s3 before after
run_linked code registers l p s0 s1 s2 s3 before middle after left same count kept_count leaves stores leads le base fits linked =
    let t = leaves base linked.slots linked.reads (stage_below base s0 code registers l linked.slots le) (fits p refl) (linked.variables_count, linked.variables)
    (linked.kept_count, linked.kept) in
    let slots_1 = slots_later base s0 s1 t.wires.grows code registers linked.slots in
    let u = stores base slots_1 t.values t.at t.states in
    let to_2 = wires_then base s0 s1 s2 t.wires u in
    let old = linked_later base s0 s2 to_2.grows code registers before linked in
    let between : AreLinked base s2 code registers middle =
    subst (λ (z : Chains). AreLinked base s2 code registers z) (sym same)
    (record {
      slots = old.slots;
      reads = old.reads;
      stage = old.stage;
      variables = λ x y h e f. stands_after s1 s2 base y h.width u.grows (t.variables x y h e f);
      kept = λ x y h e f. stands_after s1 s2 base y h.width u.grows (t.kept x y h e f);
      variables_count = count ∙ linked.variables_count;
      kept_count = kept_count ∙ linked.kept_count;
      is_last = old.is_last;
      waits = old.waits;
    }) in
    keeps_then base s0 s2 s3 code registers after to_2
    (leads base code between (stands_after s1 s2 base left.last 1 u.grows t.last) (stands_after s1 s2 base left.target registers.stage.width u.grows t.target))
