-- One stage after the other.
use Rattle.std.proofs.Common.{◌≡◌, ◌≢◌, ℕ, suc, ◌+◌, ◌%◌, ◌^◌, ◌<◌, ◌≤◌, Bool, true, false, nat_eq, if◌then◌else◌, List, length, slice_get, Option, Some, None, min, refl}
use Rattle.std.proofs.Common.{sym, ap, subst, ◌∙◌, arith, ⊎_elim}
use Rattle.std.proofs.lemmas.Option.{slice_get_within}
use Rattle.std.proofs.lemmas.Bool.{cases_eq, eqb-true}
use Rattle.hls_ints.specs.Residues.{bit_of}
use Rattle.hls_ints.specs.Types.{IntegerType, width_of}
use Rattle.block_ir.specs.declared.block.Block.{Block}
use Rattle.block_ir.specs.declared.code.Act.{Act}
use Rattle.block_ir.specs.declared.code.Act.TheVariants.{BarrierWait}
use Rattle.block_ir.specs.declared.code.ActOperand.{ActOperand}
use Rattle.block_ir.specs.declared.code.Stage.{Stage}
use Rattle.block_ir.specs.declared.code.Stage.TheVariants as stage
use Rattle.block_ir.specs.declared.code.ThreadCode.{ThreadCode}
use Rattle.block_ir.specs.declared.plan.BlockPlan.{BlockPlan}
use Rattle.block_ir.specs.declared.plan.StagePlan.{StagePlan}
use Rattle.block_ir.specs.declared.plan.StagePlan.TheVariants as planned
use Rattle.block_ir.specs.declared.plan.Planned.{Planned}
use Rattle.netlist.specs.declared.netlist.Signal.{Signal}
use Rattle.netlist.specs.declared.netlist.Module.{Module}
use Rattle.verilog_meaning.specs.Readings.{Reading, width}
use Rattle.circuit.specs.Modules.{Obeys}
use Rattle.operator_wires.specs.Gives.{Grows}
use Rattle.operator_wires.proofs.PutSignals.{grows_refl, grows_then}
use Rattle.thread_promise.specs.Types.{value_type}
use Rattle.thread_promise.specs.Moves.{meeting, stage_after, is_variable}
use Rattle.block_datapath.specs.declared.registers.Registers.{Registers}
use Rattle.block_datapath.specs.declared.leaving_block.Left.{Left}
use Rattle.block_datapath.specs.Chains.{next_number}
use Rattle.block_datapath.specs.Leave.{HasStage, HasRoom, LeavesBlock}
use Rattle.thread_slots.specs.declared.chains.Chains.{Chains}
use Rattle.operator_wires.proofs.BuiltWires.{stands_after, wires_none, wires_then}
use Rattle.thread_slots.specs.Links.{AreBits, LeadsTo, ShowSame}
use Rattle.thread_slots.specs.Numbers.{is_wait, numbers}
use Rattle.thread_states.specs.Wired.{StepIsWired}
use Rattle.thread_slots.specs.Slots.{KnowsStage}
use Rattle.thread_slots.specs.declared.told.Told.{Told}
use Rattle.thread_states.specs.Acts.{StepsOver, Idles, LeavesFor, TakesAct, EndsAt}
use Rattle.thread_states.specs.Stages.{Runs, RunsBlock, DoesStage, TakesStage, WalksFirst, WalksAll}
use Rattle.thread_slots.specs.Idle.{is_idle}
use Rattle.thread_states.proofs.ActLinks.{stage_stepped, leaves_later, leaves_from}
use Rattle.thread_states.proofs.StateLinks.{lead_off, bits_later, same_refl, same_then, still_later, many_refl, many_then}
use Rattle.thread_slots.proofs.NextLink.{same_everywhere, has_stage}
use Rattle.thread_slots.proofs.StageNumbers.{own_number, meeting_number, number_not_rest, numbers_apart, rest_apart}

-- ---- a block

chosen_stage : (t : Bool) (S T L l : ℕ) → S ≡ l → (t ≡ true → T ≡ L) → (if nat_eq (bit_of t) 0 then S else T) ≡ (if t then L else l)
chosen_stage true S T L l e f = f refl
chosen_stage false S T L l e f = e

module _ (globals : List IntegerType) (code : ThreadCode) (registers : Registers) (l : ℕ) (b : Block) (p : BlockPlan) (s0 s1 s2 s3 : List Signal) (before middle after : Chains)
    (left : Left)
    (same : middle ≡ record before { variables = middle.variables; kept = middle.kept })
    (leaves : LeavesBlock globals code registers l b p before.variables middle.variables left before.kept middle.kept s0 s1) (stores : Grows s1 s2)
    (leads : LeadsTo s2 s3 middle after left.last left.target)
    (wired : l ≤ length code.stages → StepIsWired code registers (Some (planned.Run p)) s0 s3 before after) where
  back_1 : (m : Module) → Grows s3 m.signals → Grows s1 m.signals
  back_1 m g = grows_then s1 s2 m.signals stores (grows_then s2 s3 m.signals leads.grows g)

  middle_bits : AreBits s0 before → AreBits s2 middle
  middle_bits e =
      let later = bits_later s0 s2 before (grows_then s0 s1 s2 leaves.grows stores) e in
      record {
        is_last = λ m g. ap (λ (c : Chains). width m c.is_last) same ∙ later.is_last m g;
        waits = λ m g. ap (λ (c : Chains). width m c.waits) same ∙ later.waits m g;
      }

  block_step : StepsOver registers l s0 s3 before after
  block_step = record {
    grows = grows_then s0 s1 s3 leaves.grows (grows_then s1 s2 s3 stores leads.grows);
    many = record {
      variables = ap (λ (c : Chains). length c.variables) leads.same ∙ leaves.count;
      kept = ap (λ (c : Chains). length c.kept) leads.same ∙ leaves.kept_count;
    };
    bits = λ e. (lead_off s2 s3 middle after left.last left.target leads).bits (middle_bits e);
    rests = λ m r g o e has ne.
        let rests = leaves.rests m r (back_1 m g) o has ne in
        same_then r before middle after
        (record {
          stage = ap (λ (c : Chains). r.signal c.stage) same;
          variables = same_everywhere r before.variables middle.variables leaves.count rests.variables;
          kept = same_everywhere r before.kept middle.kept leaves.kept_count (λ x less. leaves.kept_rests m r x (back_1 m g) o has ne less);
          is_last = λ t is. ap (λ (c : Chains). r.signal c.is_last) same ∙ is;
          waits = λ t is. ap (λ (c : Chains). r.signal c.waits) same ∙ is;
        })
        ((lead_off s2 s3 middle after left.last left.target leads).off m r g o (middle_bits e) rests.last);
  }

  block_runs : AreBits s0 before → length before.variables ≡ length code.variables → length before.kept ≡ length registers.kept → Runs globals code registers l s3 before after b p
  block_runs bits variables kept bank m r q wire g o still right inside sees wired widths knows =
      let moved = leaves.moves bank m r q wire right (back_1 m g) o inside sees wired in
      let ends = moved.0 in
      let room : HasRoom globals code registers b p m r before.kept = record {
        count = kept;
        room = λ k x op listed register. let w = widths k x op listed register in (w.0, w.1, w.2, still.kept x w.0 w.1);
      } in
      record {
        is_last =
            leads.bit.shows m r false (nat_eq (suc q.state) p.states) g o ((middle_bits bits).is_last m (grows_then s2 s3 m.signals leads.grows g))
            (ap (λ (c : Chains). r.signal c.is_last) same ∙ still.is_last) ends.last;
        stage =
            leads.stage m r g o
            ∙ ap (λ n. if nat_eq n 0 then r.signal middle.stage else r.signal left.target) ends.last
            ∙ chosen_stage (nat_eq (suc q.state) p.states) (r.signal middle.stage) (r.signal left.target) _ l
            (ap (λ (c : Chains). r.signal c.stage) same ∙ still.stage ∙ inside.stage) (λ e. ends.target (eqb-true (suc q.state) p.states e));
        variables = λ x ty declared.
            let v = sees.variables x ty declared in
            let less : x < length before.variables = subst (λ (n : ℕ). x < n) (sym variables) (slice_get_within code.variables x ty declared) in
            ap (λ (c : Chains). next_number r c.variables x) leads.same ∙ ends.variables x ty declared less (still.variables x v.held v.listed ∙ v.shows);
        kept = λ registers_after after_is next at k x t.
            let shown = moved.1 registers_after after_is room next at k x t in
            (ap (λ (c : Chains). next_number r c.kept x % 2 ^ width_of (value_type globals code t.operation)) leads.same ∙ shown.0, shown.1);
        typed = λ x ty declared. ends.typed x ty declared (sees.variables x ty declared).typed;
        waits = ap (λ (c : Chains). r.signal c.waits) leads.same ∙ ap (λ (c : Chains). r.signal c.waits) same ∙ still.waits;
      }

  pub run_made : RunsBlock globals code registers l b p s0 s3 before after
  run_made = record {
    step = block_step;
    runs = block_runs;
    goes = λ r still. ap (λ (c : Chains). r.signal c.waits) leads.same ∙ ap (λ (c : Chains). r.signal c.waits) same ∙ still.waits;
    wired = wired;
  }

-- ---- stages of each kind

planned_of : (b : Block) (plan : Option StagePlan) → is_idle (stage.Run b) plan ≡ false → (p : BlockPlan) × (plan ≡ Some (planned.Run p))
planned_of b (Some (planned.Run p)) e = (p, refl)
planned_of b (Some planned.Act) e = absurd cc
planned_of b None e = absurd cc

module _ (globals : List IntegerType) (code : ThreadCode) (registers : Registers) (told : Told) (l : ℕ) (old new : List Signal) (before after : Chains) where
  pub run_taken : (b : Block) (p : BlockPlan) (plan : StagePlan) → plan ≡ planned.Run p → RunsBlock globals code registers l b p old new before after
      → TakesStage globals code registers told l (stage.Run b) (Some plan) old new before after
  run_taken b p plan same t = record {
    step = stage_stepped code registers l (stage.Run b) old new before after t.step;
    does = λ bits variables kept less. record {
      runs = λ c u e f.
          let one : b ≡ c = cc in
          let two : p ≡ u = cc in
          subst (λ (z : Block). Runs globals code registers l new before after z u) one (subst (λ (z : BlockPlan). Runs globals code registers l new before after b z) two
          (t.runs bits variables kept));
      acts = λ x next e. absurd cc;
      meets = λ barrier next e. absurd cc;
      goes = λ no m r g o knows still here. t.goes r still;
    };
    wired = λ less base bar fits linked. t.wired (omega arith) base (λ u e. fits u (ap Some same ∙ e)) linked;
  }

  -- a block without a plan of a block
  pub idle_taken : (b : Block) (plan : Option StagePlan) → ((p : BlockPlan) → plan ≡ Some (planned.Run p) → ⊥) → Idles registers l old new before after
      → TakesStage globals code registers told l (stage.Run b) plan old new before after
  idle_taken b plan none t = record {
    step = stage_stepped code registers l (stage.Run b) old new before after t.step;
    does = λ bits variables kept less. record {
      runs = λ c u e f. absurd (none u f);
      acts = λ x next e. absurd cc;
      meets = λ barrier next e. absurd cc;
      goes = λ no. absurd (none (planned_of b plan no).0 (planned_of b plan no).1);
    };
    wired = λ less base bar fits linked. let room = linked.slots.room in t.wired base code linked (omega arith);
  }

  pub act_taken : (a : Act) (next : ℕ) (plan : Option StagePlan) → TakesAct code registers told l a next old new before after
      → TakesStage globals code registers told l (stage.Act a next) plan old new before after
  act_taken a next plan t = record {
    step = t.step;
    does = λ bits variables kept less. record {
      runs = λ c u e. absurd cc;
      acts = λ x to e m r g o knows still here.
          let one : a ≡ x = cc in
          let two : next ≡ to = cc in
          subst (λ (z : Act). LeavesFor (stage_after (length code.stages) l z (min to (length code.stages))) false r before after) one
          (subst (λ (z : ℕ). LeavesFor (stage_after (length code.stages) l a (min z (length code.stages))) false r before after) two
          (t.acts bits less m r g o knows still here));
      meets = λ barrier to e m r v g o knows still here bar.
          let one : a ≡ BarrierWait barrier = cc in
          let two : next ≡ to = cc in
          subst (λ (z : ℕ). LeavesFor (min z (length code.stages)) v r before after) two (t.meets barrier one bits less m r v g o knows still here bar);
      goes = λ no m r g o knows still here. (t.acts bits less m r g o knows still here).waits;
    };
    wired = λ less base bar fits linked. t.wired base linked bar less;
  }

-- ---- one more stage

module _ (globals : List IntegerType) (code : ThreadCode) (registers : Registers) (told : Told) where
  abbrev end : ℕ
  end = length code.stages

  -- in readings of stage l links show the same as others
  abbrev SameAt : ℕ → Stage → List Signal → Chains → Chains → Type 0
  SameAt l s new x y =
      (m : Module) (r : Reading) → Grows new m.signals → Obeys m r → KnowsStage code registers m r → numbers end l s (r.signal registers.stage.register) ≡ true → ShowSame r x y

  own : (l : ℕ) (s : Stage) (r : Reading) → r.signal registers.stage.register ≡ l → numbers end l s (r.signal registers.stage.register) ≡ true
  own l s r here = ap (numbers end l s) here ∙ own_number end l s

  met : (l : ℕ) (s : Stage) (barrier : ActOperand) (next : ℕ) (r : Reading) → s ≡ stage.Act (BarrierWait barrier) next → r.signal registers.stage.register ≡ meeting end l
      → numbers end l s (r.signal registers.stage.register) ≡ true
  met l s barrier next r e here =
      ap (numbers end l s) here ∙ meeting_number end l s (ap (λ (z : Stage). is_wait z) e)

  -- from links before it that show the same
  started : (l : ℕ) (s : Stage) (plan : Option StagePlan) (new : List Signal) (start middle c : Chains) → SameAt l s new start middle
      → DoesStage globals code registers told l s plan new middle c → DoesStage globals code registers told l s plan new start c
  started l s plan new start middle c same t = record {
    runs = λ b p e f bank m r q wire g o still right inside sees wired widths knows.
        t.runs b p e f bank m r q wire g o (still_later r registers start middle (same m r g o knows (own l s r inside.stage)) still) right inside sees wired widths knows;
    acts = λ a next e m r g o knows still here.
        let shown = same m r g o knows (own l s r here) in
        leaves_from (stage_after end l a (min next end)) false r start middle c shown (t.acts a next e m r g o knows (still_later r registers start middle shown still) here);
    meets = λ barrier next e m r v g o knows still here bar.
        let shown = same m r g o knows (met l s barrier next r e here) in
        leaves_from (min next end) v r start middle c shown (t.meets barrier next e m r v g o knows (still_later r registers start middle shown still) here bar);
    goes = λ no m r g o knows still here. t.goes no m r g o knows (still_later r registers start middle (same m r g o knows (own l s r here)) still) here;
  }

  -- with links behind it that show the same
  lifted : (l : ℕ) (s : Stage) (plan : Option StagePlan) (old new : List Signal) (start middle c : Chains) → Grows old new → SameAt l s new middle c
      → DoesStage globals code registers told l s plan old start middle → DoesStage globals code registers told l s plan new start c
  lifted l s plan old new start middle c more same t = record {
    runs = λ b p e f bank m r q wire g o still right inside sees wired widths knows.
        let shown = same m r g o knows (own l s r inside.stage) in
        let made = t.runs b p e f bank m r q wire (back m g) o still right inside sees wired widths knows in
        record {
          is_last = shown.is_last (nat_eq (suc q.state) p.states) made.is_last;
          stage = shown.stage ∙ made.stage;
          variables = λ x ty declared. shown.variables x ∙ made.variables x ty declared;
          kept = λ registers_after after_is next at k x u.
              let kept = made.kept registers_after after_is next at k x u in
              (ap (λ v. v % 2 ^ width_of (value_type globals code u.operation)) (shown.kept x) ∙ kept.0, kept.1);
          typed = made.typed;
          waits = shown.waits false made.waits;
        };
    acts = λ a next e m r g o knows still here.
        leaves_later (stage_after end l a (min next end)) false r start middle c (same m r g o knows (own l s r here)) (t.acts a next e m r (back m g) o knows still here);
    meets = λ barrier next e m r v g o knows still here bar.
        leaves_later (min next end) v r start middle c (same m r g o knows (met l s barrier next r e here)) (t.meets barrier next e m r v (back m g) o knows still here bar);
    goes = λ no m r g o knows still here. (same m r g o knows (own l s r here)).waits false (t.goes no m r (back m g) o knows still here);
  }
    where
      back : (m : Module) → Grows new m.signals → Grows old m.signals
      back m g = grows_then old new m.signals more g

  module _ (plan : Planned) (a : List Signal) (start : Chains) where
    pub walks_none : WalksFirst globals code registers told plan a a start start 0
    walks_none = record {
      grows = grows_refl a;
      many = many_refl start;
      bits = λ e. e;
      still = λ m r g o e knows none. same_refl r start;
      does = λ e variables kept k s lt. absurd (omega arith);
      wired = λ base fits bar linked le. record { wires = wires_none base a; linked = linked };
    }

    pub walks_more : (b c : List Signal) (middle after : Chains) (n : ℕ) (s : Stage) → WalksFirst globals code registers told plan a b start middle n →
        slice_get code.stages n ≡ Some s
        → TakesStage globals code registers told n s (slice_get plan.stages n) b c middle after → WalksFirst globals code registers told plan a c start after (n + 1)
    walks_more b c middle after n s t listed u = record {
      grows = grows_then a b c t.grows u.step.grows;
      many = many_then start middle after t.many u.step.many;
      bits = λ e. u.step.bits (t.bits e);
      still = λ m r g o e knows none.
          same_then r start middle after (t.still m r (back m g) o e knows (λ k x less there. none k x (omega arith) there))
          (u.step.rests m r g o (t.bits e) knows inside (none n s (omega arith) listed));
      does = λ e variables kept k x lt there. ⊎_elim
          (λ (same : k ≡ n).
          let one : s ≡ x = (let h = ap (slice_get code.stages) same in cc) in
          let made = u.does (t.bits e) (t.many.variables ∙ variables) (t.many.kept ∙ kept) inside in
          subst (λ (z : ℕ). DoesStage globals code registers told z x (slice_get plan.stages z) c start after) (sym same)
          (subst (λ (z : Stage). DoesStage globals code registers told n z (slice_get plan.stages n) c start after) one
          (started n s (slice_get plan.stages n) c start middle after
          (λ m r g o knows at. t.still m r (back m g) o e knows
          (λ k y less there. numbers_apart end k n (r.signal registers.stage.register) y s (λ is. absurd (omega arith)) (let i = inside in omega arith) inside at)) made)))
          (λ (ne : k ≢ n).
          lifted k x (slice_get plan.stages k) b c start middle after u.step.grows
          (λ m r g o knows at.
          u.step.rests m r g o (t.bits e) knows inside
          (numbers_apart end n k (r.signal registers.stage.register) s x ne inside (slice_get_within code.stages k x there) at))
          (t.does e variables kept k x (let less : k < n = omega arith in less) there))
          (cases_eq k n);
      wired = λ base fits bar linked le.
          let before = t.wired base fits bar linked (omega arith) in
          let last = u.wired inside base (stands_after a b base told.barred 1 t.grows bar) (fits n) before.linked in
          record { wires = wires_then base a b c before.wires last.wires; linked = last.linked };
    }
      where
        back : (m : Module) → Grows c m.signals → Grows b m.signals
        back m g = grows_then b c m.signals u.step.grows g

        inside : n < length code.stages
        inside = slice_get_within code.stages n s listed

    pub walked : (main : Bool) (b c : List Signal) (middle after : Chains) → WalksFirst globals code registers told plan a b start middle (length code.stages)
        → EndsAt code registers main told b c middle after → WalksAll globals code registers told main plan a c start after
    walked main b c middle after t u = record {
      grows = grows_then a b c t.grows u.step.grows;
      many = many_then start middle after t.many u.step.many;
      bits = λ e. u.step.bits (t.bits e);
      does = λ e variables kept k s listed.
          let less = slice_get_within code.stages k s listed in
          lifted k s (slice_get plan.stages k) b c start middle after u.step.grows
          (λ m r g o knows at. u.step.rests m r g o (t.bits e) (has_end m r knows) (number_not_rest end k (r.signal registers.stage.register) s less at))
          (t.does e variables kept k s less listed);
      stays = λ is m r g o e knows still here.
          u.stays is (t.bits e) m r g o knows here ((shown m r g o e knows here).waits false still.waits);
      begins = λ is m r v g o e knows still here runs.
          let same = shown m r g o e knows here in
          let made = u.begins is (t.bits e) m r v g o knows (still_later r registers start middle same still) here runs in
          record {
            is_last = made.is_last;
            stage = made.stage;
            variables = λ x less.
                made.variables x (subst (λ (z : ℕ). x < z) (sym t.many.variables) less)
                ∙ ap (λ z. if is_variable code.argument x then r.signal told.argument else z) (same.variables x);
            waits = made.waits;
          };
      past = λ m r g o e knows still none other.
          (u.step.rests m r g o (t.bits e) (has_end m r knows) other).waits false
          ((t.still m r (back m g) o e knows (λ k s less listed. none k s listed)).waits false still.waits);
      wired = λ base fits stand typed linked.
          let before = t.wired base fits stand.barred linked (omega arith) in
          let last =
          u.wired base before.linked
          (record {
            barred = stands_after a b base told.barred 1 t.grows stand.barred;
            runs = stands_after a b base told.runs 1 t.grows stand.runs;
            argument = stands_after a b base told.argument 64 t.grows stand.argument;
          }) typed in
          record { wires = wires_then base a b c before.wires last.wires; linked = last.linked };
    }
      where
        back : (m : Module) → Grows c m.signals → Grows b m.signals
        back m g = grows_then b c m.signals u.step.grows g

        has_end : (m : Module) (r : Reading) → KnowsStage code registers m r → HasStage registers end m r
        has_end m r knows = has_stage code registers end m r knows (omega arith)

        shown : (m : Module) (r : Reading) → Grows c m.signals → Obeys m r → AreBits a start → KnowsStage code registers m r → r.signal registers.stage.register ≡ end →
            ShowSame r start middle
        shown m r g o e knows here =
            t.still m r (back m g) o e knows (λ k s less listed. ap (numbers end k s) here ∙ rest_apart end k s less)
