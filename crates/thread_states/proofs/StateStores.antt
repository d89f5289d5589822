-- Stores that stand: what each function that adds some promises.
use Rattle.std.proofs.Common.{◌≡◌, ℕ, ◌+◌, ◌<◌, ◌≤◌, ◌^◌, List, length, Option, Some, refl, sym, subst, arith}
use Rattle.std.specs.Prelude.{slice_get}
use Rattle.hls_ints.specs.Types.{IntegerType}
use Rattle.block_ir.specs.declared.code.ThreadCode.{ThreadCode}
use Rattle.block_ir.specs.declared.plan.BlockPlan.{BlockPlan}
use Rattle.block_ir.specs.declared.plan.StagePlan.{StagePlan}
use Rattle.block_ir.specs.declared.plan.StagePlan.TheVariants as planned
use Rattle.block_ir.specs.declared.plan.Planned.{Planned}
use Rattle.netlist.specs.declared.netlist.Signal.{Signal}
use Rattle.operator_wires.specs.Gives.{Grows}
use Rattle.operator_wires.specs.Built.{Base}
use Rattle.block_datapath.specs.declared.registers.Registers.{Registers}
use Rattle.block_datapath.specs.declared.operands.Given.{Given}
use Rattle.block_datapath.specs.Wired.{CanRead}
use Rattle.block_datapath.specs.declared.leaving_block.Left.{Left}
use Rattle.thread_slots.specs.declared.chains.Chains.{Chains}
use Rattle.thread_slots.specs.declared.stores.Store.{Store}
use Rattle.thread_slots.specs.declared.told.Told.{Told}
use Rattle.thread_slots.specs.Wired.{LinkAll, AreSlots, ValuesStand}
use Rattle.thread_states.specs.Stages.{WalksFirst}
use Rattle.thread_slots.specs.Stores.{AddsStores}
use Rattle.thread_states.specs.Stores.{StageKeepsStores, StagesKeepStores}
use Rattle.thread_slots.proofs.Linked.{slots_later}
use Rattle.thread_states.proofs.Taken.{LinksBlock}
use Rattle.thread_slots.proofs.Taken.{stage_below}
use Rattle.thread_slots.proofs.StandingStores.{stores_later}

-- ---- stages

-- wires alone
pub stage_kept : (code : ThreadCode) (registers : Registers) (l : ℕ) (plan : Option StagePlan) (a b : List Signal) (chains : Chains) (stores : List Store) → Grows a b
    → StageKeepsStores code registers l plan a b chains stores stores
stage_kept code registers l plan a b chains stores g base fits linked le right = stores_later base a b stores g right

pub run_stored : (code : ThreadCode) (registers : Registers) (l : ℕ) (p : BlockPlan) (s0 s1 s2 s3 : List Signal) (chains : Chains) (first second : List ℕ) (left : Left)
    (values : List Given)
    (before after : List Store)
    → ((base : Base) → AreSlots base s0 code registers → CanRead base code registers → l < 2 ^ registers.stage.width → p.states ≤ 2 ^ registers.state.width
    → (length chains.variables ≡ length registers.variables) × LinkAll base s0 registers.variables chains.variables
    → (length chains.kept ≡ length registers.kept) × LinkAll base s0 registers.kept chains.kept → LinksBlock base s0 s1 registers left first second)
    → values ≡ left.values → AddsStores s1 s2 code registers values left.end.at left.end.states before after → Grows s2 s3
    → StageKeepsStores code registers l (Some (planned.Run p)) s0 s3 chains before after
run_stored code registers l p s0 s1 s2 s3 chains first second left values before after leaves same stores more base fits linked le right =
    let t = leaves base linked.slots linked.reads (stage_below base s0 code registers l linked.slots le) (fits p refl) (linked.variables_count, linked.variables)
    (linked.kept_count, linked.kept) in
    let slots_1 = slots_later base s0 s1 t.wires.grows code registers linked.slots in
    let u = stores base slots_1 (subst (λ (vs : List Given). ValuesStand base s1 vs) (sym same) t.values) t.at t.states in
    stores_later base s2 s3 after more (u.right (stores_later base s0 s1 before t.wires.grows right))

pub walk_begun : (code : ThreadCode) (registers : Registers) (plan : Planned) (barred : ℕ) (a : List Signal) (chains : Chains) (stores : List Store)
    → StagesKeepStores code registers plan barred 0 a a chains stores stores
walk_begun code registers plan barred a chains stores base fits bar linked le right = right

pub walk_stored : (globals : List IntegerType) (code : ThreadCode) (registers : Registers) (told : Told) (plan : Planned) (a b c : List Signal) (start middle : Chains)
    (n : ℕ)
    (before between after : List Store) → WalksFirst globals code registers told plan a b start middle n →
    StagesKeepStores code registers plan told.barred n a b start before between
    → StageKeepsStores code registers n (slice_get plan.stages n) b c middle between after → StagesKeepStores code registers plan told.barred (n + 1) a c start before after
walk_stored globals code registers told plan a b c start middle n before between after walks t u base fits bar linked le right =
    let here = walks.wired base fits bar linked (omega arith) in
    u base (λ p e. fits n p e) here.linked (omega arith) (t base fits bar linked (omega arith) right)

pub walk_ended : (code : ThreadCode) (registers : Registers) (plan : Planned) (barred n : ℕ) (a b c : List Signal) (chains : Chains)
    (before after : List Store) → Grows b c
    → StagesKeepStores code registers plan barred n a b chains before after → StagesKeepStores code registers plan barred n a c chains before after
walk_ended code registers plan barred n a b c chains before after g t base fits bar linked le right =
    stores_later base b c after g (t base fits bar linked le right)
