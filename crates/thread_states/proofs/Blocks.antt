-- What a block stores, and what its slot's arrays become.
use Rattle.std.proofs.Common.{◌≡◌, ◌≢◌, ℕ, ◌+◌, ◌<◌, ◌≤◌, ◌^◌, List, [], ◌++◌, length, Option, Some, ℤ, refl, sym, ap, subst, ◌∙◌, arith, append-nil, append_assoc, ⊎_elim}
use Rattle.std.specs.Prelude.{slice_get, slice_index}
use Rattle.std.proofs.lemmas.Option.{slice_get_within}
use Rattle.std.proofs.lemmas.Bool.{cases_eq}
use Rattle.interleaving.specs.Memory.{Location}
use Rattle.hls_ints.specs.Residues.{bit_of}
use Rattle.hls_ints.specs.Types.{IntegerType}
use Rattle.block_ir.specs.declared.block.Operation.{Operation}
use Rattle.block_ir.specs.declared.block.Operation.TheVariants.{Unary, Binary, ReadGlobal, WriteGlobal, ReadArray, WriteArray}
use Rattle.block_ir.specs.declared.block.Block.{Block}
use Rattle.block_ir.specs.declared.code.Act.{Act}
use Rattle.block_ir.specs.declared.code.Stage.{Stage}
use Rattle.block_ir.specs.declared.code.Stage.TheVariants as stage
use Rattle.block_ir.specs.declared.plan.StagePlan.{StagePlan}
use Rattle.block_ir.specs.declared.plan.StagePlan.TheVariants as planned
use Rattle.block_ir.specs.declared.plan.Planned.{Planned}
use Rattle.block_ir.specs.declared.code.ThreadCode.{ThreadCode}
use Rattle.block_ir.specs.declared.plan.BlockPlan.{BlockPlan}
use Rattle.netlist.specs.declared.netlist.Signal.{Signal}
use Rattle.netlist.specs.declared.netlist.Module.{Module}
use Rattle.verilog_meaning.specs.Readings.{Reading}
use Rattle.circuit.specs.Modules.{Obeys}
use Rattle.planned_block.specs.Plan.{last_state}
use Rattle.planned_block.specs.Slot.{Slot, value_now}
use Rattle.planned_block.proofs.Bits.{other_is}
use Rattle.plan_blocks.specs.View.{planned_view, plan_view}
use Rattle.operator_wires.specs.Gives.{Grows}
use Rattle.operator_wires.proofs.PutSignals.{grows_refl, grows_then}
use Rattle.thread_promise.specs.Types.{IsTypedOperation}
use Rattle.block_datapath.specs.declared.registers.Registers.{Registers}
use Rattle.block_datapath.specs.declared.operands.Given.{Given}
use Rattle.block_datapath.specs.declared.leaving_block.Left.{Left}
use Rattle.block_datapath.specs.Operations.{SeesSlot, IsRight, IsFed, IsShown}
use Rattle.block_datapath.specs.Leave.{HasStage, IsInStage, LeavesBlock}
use Rattle.block_datapath.proofs.OperationValues.{within_view, operand_here, left_used, right_used}
use Rattle.thread_slots.specs.declared.stores.Store.{Store}
use Rattle.thread_slots.specs.Slots.{KnowsStage}
use Rattle.thread_slots.specs.Cells.{AreOff, cells_first, SeesWrite, PutsFirst}
use Rattle.thread_states.specs.Cells.{PutsBlock, StoresBlock, StoresStage, StoresFirst}
use Rattle.thread_slots.proofs.PutStores.{nothing_off, off_both, puts_off, puts_both}

-- ---- a block at a stage

module _ (globals : List IntegerType) (code : ThreadCode) (registers : Registers) (l : ℕ) (b : Block) (p : BlockPlan) (s0 s1 s2 s3 : List Signal)
    (variables variables_after kept kept_after : List ℕ)
    (left : Left) (values : List Given) (same : values ≡ left.values) (before after : List Store)
    (leaves : LeavesBlock globals code registers l b p variables variables_after left kept kept_after s0 s1)
    (stores : PutsFirst s1 s2 registers left.end.at left.end.states before after code values b.operations p.starts (length b.operations)) (more : Grows s2 s3) where
  to_2 : (m : Module) → Grows s3 m.signals → Grows s2 m.signals
  to_2 m g = grows_then s2 s3 m.signals more g

  to_1 : (m : Module) → Grows s3 m.signals → Grows s1 m.signals
  to_1 m g = grows_then s1 s2 m.signals stores.grows (to_2 m g)

  module _ (bank : Location → ℕ) (m : Module) (r : Reading) (q : Slot) (wire : ℕ → ℤ) (g : Grows s3 m.signals) (o : Obeys m r) (right : IsRight globals code registers b p)
      (sees : SeesSlot globals code registers b p m r q) (fed : IsFed globals code registers b p bank m r q wire) (k : ℕ) where
    write_seen : (x : Operation) → slice_get b.operations k ≡ Some x → IsTypedOperation globals code b.operations x → slice_index p.starts k ≡ q.state
        → SeesWrite code registers left.values m r q.state q.variables (value_now (planned_view b) (plan_view b p) q wire) x
    write_seen (Unary op ty x) listed typed at = tt
    write_seen (Binary op ty x y) listed typed at = tt
    write_seen (ReadGlobal x n i) listed typed at = tt
    write_seen (WriteGlobal x n i w) listed typed at = tt
    write_seen (ReadArray x n i) listed typed at = tt
    write_seen (WriteArray x n i w) listed typed at =
        let lt = within_view b.operations k (WriteArray x n i w) listed in
        let shown : (j : ℕ) (y : Operation) → j < k → slice_get b.operations j ≡ Some y → (g : Given) ×
        (slice_get left.values j ≡ Some g) × IsShown globals code registers b p s1 j y g =
        λ j y less there. leaves.shown.each j y (slice_get_within b.operations j y there) there in
        let from : slice_index p.starts k ≤ q.state = omega arith in
        let to : q.state ≤ last_state (planned_view b) (plan_view b p) k = omega arith in
        let array = typed.2.0 in
        let few = sees.arrays.few x array typed.2.1 in (
          operand_here globals code registers b p right s1 left.values k shown bank m r q wire (to_1 m g) o sees fed i q.state lt refl from to typed.0
              (λ j u. left_used globals code registers b p right s1 left.values k shown bank m r q wire (to_1 m g) o sees fed (WriteArray x n i w) j listed u),
          operand_here globals code registers b p right s1 left.values k shown bank m r q wire (to_1 m g) o sees fed w q.state lt refl from to typed.1
              (λ j u. right_used globals code registers b p right s1 left.values k shown bank m r q wire (to_1 m g) o sees fed (WriteArray x n i w) j listed u),
          typed.2,
          typed.3,
          subst (λ z. z < 2 ^ 31) typed.2.2 few,
        )

  pub block_stores : StoresBlock globals code registers l b p s0 s3 before after
  block_stores = record {
    added = stores.added;
    grows = grows_then s0 s1 s3 leaves.grows (grows_then s1 s2 s3 stores.grows more);
    more = stores.more;
    rests = λ m r g o has ne.
        stores.rests m r (to_2 m g) o (leaves.bit_wide m (to_1 m g)) (leaves.bit m r (to_1 m g) o has ∙ ap bit_of (other_is (r.signal registers.stage.register) l ne));
    puts = λ bank m r q wire g o right knows inside sees fed.
        stores.here m r q.variables (value_now (planned_view b) (plan_view b p) q wire) q.state (to_2 m g) o (leaves.moment m r q (to_1 m g) o inside)
        (λ k x less listed.
        let ends = right.keeps.ends k (within_view b.operations k x listed) in
        let states = leaves.states in
        let below : slice_index p.starts k < p.states = omega arith in (
          (let z : slice_index p.starts k < left.end.states = grind arith in z),
          λ at.
              subst (λ (vs : List Given). SeesWrite code registers vs m r q.state q.variables (value_now (planned_view b) (plan_view b p) q wire) x) (sym same)
              (write_seen bank m r q wire g o right sees fed k x listed (right.typed.operations k x listed) at),
        ));
  }

-- ---- stages

pub stage_of_block : (globals : List IntegerType) (code : ThreadCode) (registers : Registers) (l : ℕ) (a b : List Signal) (before after : List Store) (block : Block)
    (p : BlockPlan)
    (plan : StagePlan) → plan ≡ planned.Run p → StoresBlock globals code registers l block p a b before after
    → StoresStage globals code registers l (stage.Run block) (Some plan) a b before after
stage_of_block globals code registers l a b before after block p plan is t = record {
  added = t.added;
  grows = t.grows;
  more = t.more;
  rests = t.rests;
  acts = λ x next e. absurd cc;
  runs = λ x y e f.
      let one : block ≡ x = cc in
      let two : p ≡ y = (let h : Some plan ≡ Some (planned.Run y) = f in cc) in
      subst (λ (z : Block). PutsBlock globals code registers b l z y t.added) one (subst (λ (z : BlockPlan). PutsBlock globals code registers b l block z t.added) two t.puts);
}

-- a stage that stores nothing
pub stage_of_none : (globals : List IntegerType) (code : ThreadCode) (registers : Registers) (l : ℕ) (s : Stage) (plan : Option StagePlan) (a b : List Signal) (stores : List Store)
    → Grows a b → ((block : Block) (p : BlockPlan) → s ≡ stage.Run block → plan ≡ Some (planned.Run p) → ⊥) → StoresStage globals code registers l s plan a b stores stores
stage_of_none globals code registers l s plan a b stores g none = record {
  added = [];
  grows = g;
  more = sym (append-nil stores);
  rests = λ m r grows o has ne. nothing_off r;
  acts = λ x next e. refl;
  runs = λ x y e f. absurd (none x y e f);
}

pub stages_none : (globals : List IntegerType) (code : ThreadCode) (registers : Registers) (plan : Planned) (a : List Signal) (stores : List Store)
    → StoresFirst globals code registers plan a a stores stores 0
stages_none globals code registers plan a stores = record {
  added = [];
  grows = grows_refl a;
  more = sym (append-nil stores);
  still = λ m r g o knows le ne. nothing_off r;
  acts = λ m r k x next g o knows le less listed at. absurd (omega arith);
  runs = λ k x y less le listed there. absurd (omega arith);
}

module _ (globals : List IntegerType) (code : ThreadCode) (registers : Registers) (plan : Planned) (a b c : List Signal) (before middle after : List Store) (n : ℕ) (s : Stage)
    (first : StoresFirst globals code registers plan a b before middle n) (listed_n : slice_get code.stages n ≡ Some s)
    (next : StoresStage globals code registers n s (slice_get plan.stages n) b c middle after) where
  back : (m : Module) → Grows c m.signals → Grows b m.signals
  back m g = grows_then b c m.signals next.grows g

  has_stage : (m : Module) (r : Reading) → KnowsStage code registers m r → n + 1 ≤ length code.stages → HasStage registers n m r
  has_stage m r knows le = record { wide = knows.wide; room = (let room = knows.room in omega arith); fits = knows.fits }

  -- at stage n nothing earlier is stored
  not_before : (m : Module) (r : Reading) → Grows c m.signals → Obeys m r → KnowsStage code registers m r → n + 1 ≤ length code.stages → n ≤ n →
      r.signal registers.stage.register ≡ n
      → AreOff r first.added
  not_before m r g o knows le same at = first.still m r (back m g) o knows (omega arith) (λ k less e. absurd (omega arith))

  acts_so : (m : Module) (r : Reading) (k : ℕ) (x : Act) (to : ℕ) → Grows c m.signals → Obeys m r → KnowsStage code registers m r → n + 1 ≤ length code.stages → k < n + 1
      → slice_get code.stages k ≡ Some (stage.Act x to) → r.signal registers.stage.register ≡ k → AreOff r (first.added ++ next.added)
  acts_so m r k x to g o knows le less listed at =
      ⊎_elim
      (λ (same : k ≡ n).
      let is : s ≡ stage.Act x to = (let h = ap (slice_get code.stages) same in cc) in
      off_both r first.added next.added (not_before m r g o knows le (omega arith) (at ∙ same))
      (subst (λ (l : List Store). AreOff r l) (sym (next.acts x to is)) (nothing_off r)))
      (λ (ne : k ≢ n).
      off_both r first.added next.added (first.acts m r k x to (back m g) o knows (omega arith) (omega arith) listed at)
      (next.rests m r g o (has_stage m r knows le) (λ e. ne (sym at ∙ e))))
      (cases_eq k n)

  runs_so : (k : ℕ) (x : Block) (y : BlockPlan) → k < n + 1 → n + 1 ≤ length code.stages → slice_get code.stages k ≡ Some (stage.Run x) →
      slice_get plan.stages k ≡ Some (planned.Run y)
      → PutsBlock globals code registers c k x y (first.added ++ next.added)
  runs_so k x y less le listed there bank m r q wire g o right knows inside sees fed =
      ⊎_elim
      (λ (same : k ≡ n).
      let is : s ≡ stage.Run x = (let h = ap (slice_get code.stages) same in cc) in
      let plan_is : slice_get plan.stages n ≡ Some (planned.Run y) = ap (slice_get plan.stages) (sym same) ∙ there in
      let inside_n = subst (λ l. IsInStage globals code registers l x y m r q) same inside in
      let off : AreOff r first.added = first.still m r (back m g) o knows (omega arith) (λ i below e. absurd (let at = inside_n.stage in omega arith)) in
      puts_both code r first.added next.added (λ i j v. v) (cells_first x.operations y.starts q.state q.variables (value_now (planned_view x) (plan_view x y) q wire)
      (length x.operations))
      (puts_off code r first.added off)
      (next.runs x y is plan_is bank m r q wire g o right knows inside_n sees fed))
      (λ (ne : k ≢ n).
      let one = first.runs k x y (omega arith) (omega arith) listed there bank m r q wire (back m g) o right knows inside sees fed in
      let off : AreOff r next.added = next.rests m r g o (record { wide = inside.has.wide; room = (let room = knows.room in omega arith); fits = inside.has.fits })
      (λ e. ne (sym inside.stage ∙ e)) in
      puts_both code r first.added next.added (cells_first x.operations y.starts q.state q.variables (value_now (planned_view x) (plan_view x y) q wire) (length x.operations))
      (λ i j v. v)
      one (puts_off code r next.added off))
      (cases_eq k n)

  still_so : (m : Module) (r : Reading) → Grows c m.signals → Obeys m r → KnowsStage code registers m r → n + 1 ≤ length code.stages
      → ((k : ℕ) → k < n + 1 → r.signal registers.stage.register ≢ k) → AreOff r (first.added ++ next.added)
  still_so m r g o knows le ne =
      off_both r first.added next.added (first.still m r (back m g) o knows (omega arith) (λ k less. ne k (omega arith)))
      (next.rests m r g o (has_stage m r knows le) (ne n (omega arith)))

  pub stages_more : StoresFirst globals code registers plan a c before after (n + 1)
  stages_more = record {
    added = first.added ++ next.added;
    grows = grows_then a b c first.grows next.grows;
    more = next.more ∙ ap (λ l. l ++ next.added) first.more ∙ append_assoc before first.added next.added;
    still = still_so;
    acts = acts_so;
    runs = runs_so;
  }

-- with signals behind them
pub stages_later : (globals : List IntegerType) (code : ThreadCode) (registers : Registers) (plan : Planned) (a b c : List Signal) (before after : List Store) (n : ℕ)
    → StoresFirst globals code registers plan a b before after n → Grows b c → StoresFirst globals code registers plan a c before after n
stages_later globals code registers plan a b c before after n t more = record {
  added = t.added;
  grows = grows_then a b c t.grows more;
  more = t.more;
  still = λ m r g. t.still m r (grows_then b c m.signals more g);
  acts = λ m r k x next g. t.acts m r k x next (grows_then b c m.signals more g);
  runs = λ k x y less le listed there bank m r q wire g. t.runs k x y less le listed there bank m r q wire (grows_then b c m.signals more g);
}
