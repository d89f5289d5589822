-- The links of acts, of meetings and of stages where the thread waits.
use Rattle.std.proofs.Common.{◌≡◌, ℕ, zero, suc, ◌%◌, ◌<◌, ◌≤◌, ◌^◌, Bool, true, false, min, List, length, refl, sym, ap, subst, ◌∙◌, arith}
use Rattle.hls_ints.specs.Residues.{bit_of}
use Rattle.hls_ints.specs.Words.{word_and}
use Rattle.block_ir.specs.declared.code.Act.{Act}
use Rattle.block_ir.specs.declared.code.Act.TheVariants as act
use Rattle.block_ir.specs.declared.code.ActOperand.{ActOperand}
use Rattle.block_ir.specs.declared.code.Stage.{Stage}
use Rattle.block_ir.specs.declared.code.Stage.TheVariants as stage
use Rattle.block_ir.specs.declared.code.ThreadCode.{ThreadCode}
use Rattle.netlist.specs.declared.netlist.Signal.{Signal}
use Rattle.netlist.specs.declared.netlist.Module.{Module}
use Rattle.verilog_meaning.specs.Readings.{Reading, width}
use Rattle.operator_wires.specs.Gives.{Grows, Gives}
use Rattle.operator_wires.specs.Built.{Base, IsEarlier}
use Rattle.operator_wires.specs.Added.{ConstantAdds, BothAdds}
use Rattle.operator_wires.proofs.PutSignals.{grows_then}
use Rattle.operator_wires.proofs.BuiltWires.{stands_after, wires_then, room_of}
use Rattle.planned_block.proofs.Bits.{other_is}
use Rattle.thread_promise.specs.Moves.{meeting, stage_after}
use Rattle.block_datapath.specs.declared.registers.Registers.{Registers}
use Rattle.block_datapath.specs.Chains.{next_number, TellsStage}
use Rattle.thread_slots.specs.declared.chains.Chains.{Chains}
use Rattle.thread_slots.specs.declared.told.Told.{Told as ToldWires}
use Rattle.thread_slots.specs.Bits.{HasBit}
use Rattle.thread_slots.specs.Links.{AreBits, LeadsTo, WaitsAt, ShowSame}
use Rattle.thread_slots.specs.Numbers.{is_wait}
use Rattle.thread_slots.specs.Wired.{AreLinked, KeepsLinks}
use Rattle.thread_states.specs.Acts.{StepsOver, Idles, LeavesFor, LeadsFrom, LeadsUnless, StepsStage, TakesWait, TakesAct}
use Rattle.thread_slots.proofs.BitLists.{has_both}
use Rattle.thread_slots.proofs.Linked.{linked_later, keeps_then}
use Rattle.thread_slots.proofs.NextLink.{stage_on, has_stage}
use Rattle.thread_slots.proofs.StageNumbers.{not_own, not_meeting, has_meeting}
use Rattle.thread_slots.proofs.Taken.{Told}
use Rattle.thread_states.proofs.StateLinks.{off_then, off_grown, off_steps, lead_off, wait_off, lead_on, bits_later, same_then, many_then}
use Rattle.thread_states.proofs.Taken.{Keeps, Leads}

-- ---- one number of a stage

pub idle_made : (a b c : List Signal) (registers : Registers) (number at : ℕ) (before after : Chains) → TellsStage a b registers number at → WaitsAt b c before after at
    → Told a b registers number at → Keeps b c before after at → Idles registers number a c before after
idle_made a b c registers number at before after told t stands keeps = record {
  step = off_steps registers number at a b c before after told (wait_off b c before after at t);
  waits = λ m r g o e has here none.
      let later = grows_then b c m.signals t.grows g in
      t.bit.shows m r false true g o (e.waits m (grows_then a b m.signals told.grows later)) none (stage_on registers number at a b m r told later o has here);
  wired = λ base code linked fits.
      let bit = stands base linked.slots.stage fits in
      keeps_then base a b c code registers after bit.wires (keeps base code registers (linked_later base a b bit.wires.grows code registers before linked) bit.stands);
}

-- the bit of a number, and the number that follows it
module _ (a b c : List Signal) (registers : Registers) (from to at target : ℕ) (told : TellsStage a b registers from at)
    (number : Gives b c target registers.stage.width (λ m r. to)) (stands : Told a b registers from at) (numbered : ConstantAdds b c registers.stage.width to target)
    (before : Chains) where
  from_a : Grows a c
  from_a = grows_then a b c told.grows number.grows

  both_stand : (base : Base) (code : ThreadCode) → AreLinked base a code registers before → from < 2 ^ registers.stage.width → to < 2 ^ registers.stage.width
      → KeepsLinks base a c code registers before × IsEarlier c base at 1 × IsEarlier c base target registers.stage.width
  both_stand base code linked from_fits to_fits =
      let bit = stands base linked.slots.stage from_fits in
      let stage_b = stands_after a b base registers.stage.register registers.stage.width bit.wires.grows linked.slots.stage in
      let constant = numbered base (room_of b base registers.stage.register registers.stage.width stage_b) stage_b.low stage_b.high to_fits in
      let wires = wires_then base a b c bit.wires constant.wires in (
        record { wires = wires; linked = linked_later base a c wires.grows code registers before linked },
        stands_after b c base at 1 constant.wires.grows bit.stands,
        constant.stands,
      )

  pub lead_made : (d : List Signal) (after : Chains) → LeadsTo c d before after at target → Leads c d registers before after at target → LeadsFrom registers from to a d before after
  lead_made d after t leads = record {
    step =
        off_steps registers from at a b d before after told
        (off_then at b c d before before after (off_grown at b c before number.grows) (lead_off c d before after at target t));
    leads = λ e m r g o is.
        let gc = grows_then c d m.signals t.grows g in
        let gb = grows_then b c m.signals number.grows gc in
        let lead = lead_on c d before after at target m r t (bits_later a c before from_a e) g o is.is_last (stage_on registers from at a b m r told gb o is.has is.here) in
        record {
          is_last = lead.0;
          stage = lead.1 ∙ number.shows m r gc o;
          variables = λ x. ap (λ (z : Chains). next_number r z.variables x) t.same;
          waits = ap (λ (z : Chains). r.signal z.waits) t.same ∙ is.waits;
        };
    wired = λ base code linked from_fits to_fits.
        let both = both_stand base code linked from_fits to_fits in
        keeps_then base a c d code registers after both.0.wires (leads base code both.0.linked both.1 both.2);
  }

  module _ (barred stays : ℕ) (d e f : List Signal) (middle after : Chains) (gate : Gives c d stays 1 (λ m r. word_and (width m at) (r.signal at) (r.signal barred)))
      (gated : BothAdds c d at barred stays) (t : LeadsTo d e before middle at target) (leads : Leads d e registers before middle at target) (u : WaitsAt e f middle after stays)
      (keeps : Keeps e f middle after stays) where
    to_e : (m : Module) → Grows f m.signals → Grows e m.signals
    to_e m g = grows_then e f m.signals u.grows g

    to_d : (m : Module) → Grows f m.signals → Grows d m.signals
    to_d m g = grows_then d e m.signals t.grows (to_e m g)

    to_c : (m : Module) → Grows f m.signals → Grows c m.signals
    to_c m g = grows_then c d m.signals gate.grows (to_d m g)

    to_b : (m : Module) → Grows f m.signals → Grows b m.signals
    to_b m g = grows_then b c m.signals number.grows (to_c m g)

    to_lead : Grows a d
    to_lead = grows_then a c d from_a gate.grows

    middle_bits : AreBits a before → AreBits e middle
    middle_bits bits = (lead_off d e before middle at target t).bits (bits_later a d before to_lead bits)

    zero_and : (n : ℕ) → n < 2 → word_and 1 0 n ≡ 0
    zero_and zero less = refl
    zero_and (suc zero) less = refl
    zero_and (suc (suc n)) less = absurd (omega arith)

    unless_step : StepsOver registers from a f before after
    unless_step = record {
      grows = grows_then a d f to_lead (grows_then d e f t.grows u.grows);
      many = many_then before middle after (lead_off d e before middle at target t).many (wait_off e f middle after stays u).many;
      bits = λ bits. (wait_off e f middle after stays u).bits (middle_bits bits);
      rests = λ m r g o bits has ne.
          let off : r.signal at ≡ 0 = told.shows m r (to_b m g) o has.wide has.room has.fits ∙ ap bit_of (other_is (r.signal registers.stage.register) from ne) in
          let none : r.signal stays ≡ 0 =
          gate.shows m r (to_d m g) o
          ∙ ap (λ w. word_and w (r.signal at) (r.signal barred)) (told.wide m (to_b m g))
          ∙ ap (λ n. word_and 1 n (r.signal barred)) off
          ∙ and_none (r.signal barred) in
          same_then r before middle after ((lead_off d e before middle at target t).off m r (to_e m g) o (bits_later a d before to_lead bits) off)
          ((wait_off e f middle after stays u).off m r g o (middle_bits bits) none);
    }
      where
        and_none : (n : ℕ) → word_and 1 0 n ≡ 0
        and_none n = zero_and (n % 2) (let e : n % 2 < 2 = omega arith in e)

    pub unless_made : LeadsUnless registers from to barred a f before after
    unless_made = record {
      step = unless_step;
      leads = λ bits m r v g o is bar.
          let on = stage_on registers from at a b m r told (to_b m g) o is.has is.here in
          let lead = lead_on d e before middle at target m r t (bits_later a d before to_lead bits) (to_e m g) o is.is_last on in
          let stay : HasBit m r stays v = has_both c d stays at barred gate m r true v (to_d m g) o (record { wide = told.wide m (to_b m g); shows = on }) bar in
          record {
            is_last = ap (λ (z : Chains). r.signal z.is_last) u.same ∙ lead.0;
            stage = ap (λ (z : Chains). r.signal z.stage) u.same ∙ lead.1 ∙ number.shows m r (to_c m g) o;
            variables = λ x. ap (λ (z : Chains). next_number r z.variables x) u.same ∙ ap (λ (z : Chains). next_number r z.variables x) t.same;
            waits =
                u.bit.shows m r false v g o ((middle_bits bits).waits m (to_e m g)) (ap (λ (z : Chains). r.signal z.waits) t.same ∙ is.waits) stay.shows;
          };
      wired = λ base code linked from_fits to_fits bar.
          let both = both_stand base code linked from_fits to_fits in
          let stay = gated base both.1 (stands_after a c base barred 1 from_a bar) in
          let led =
          leads base code (linked_later base c d stay.wires.grows code registers before both.0.linked) (stands_after c d base at 1 stay.wires.grows both.1)
          (stands_after c d base target registers.stage.width stay.wires.grows both.2) in
          let last = keeps base code registers led.linked (stands_after d e base stays 1 led.wires.grows stay.stands) in
          record { wires = wires_then base a c f both.0.wires (wires_then base c d f stay.wires (wires_then base d e f led.wires last.wires)); linked = last.linked };
    }

-- ---- a stage

pub stage_stepped : (code : ThreadCode) (registers : Registers) (l : ℕ) (s : Stage) (a b : List Signal) (before after : Chains) → StepsOver registers l a b before after
    → StepsStage code registers l s a b before after
stage_stepped code registers l s a b before after t = record {
  grows = t.grows;
  many = t.many;
  bits = t.bits;
  rests = λ m r g o bits knows less none.
      t.rests m r g o bits (has_stage code registers l m r knows (omega arith)) (not_own (length code.stages) l (r.signal registers.stage.register) s none);
}

-- what is shown of a number does not hang on other links before and behind it
pub leaves_later : (target : ℕ) (waits : Bool) (r : Reading) (start middle c : Chains) → ShowSame r middle c → LeavesFor target waits r start middle → LeavesFor target waits r start c
leaves_later target waits r start middle c shown made = record {
  is_last = shown.is_last true made.is_last;
  stage = shown.stage ∙ made.stage;
  variables = λ x. shown.variables x ∙ made.variables x;
  waits = shown.waits waits made.waits;
}

pub leaves_from : (target : ℕ) (waits : Bool) (r : Reading) (start middle c : Chains) → ShowSame r start middle → LeavesFor target waits r middle c → LeavesFor target waits r start c
leaves_from target waits r start middle c shown made = record {
  is_last = made.is_last;
  stage = made.stage;
  variables = λ x. made.variables x ∙ shown.variables x;
  waits = made.waits;
}

module _ (code : ThreadCode) (registers : Registers) (told : ToldWires) (l : ℕ) (a : Act) (next : ℕ) (old new : List Signal) (before after : Chains) where
  -- an act other than a wait
  pub lead_taken : (to : ℕ) → ((barrier : ActOperand) → a ≡ act.BarrierWait barrier → ⊥) → stage_after (length code.stages) l a (min next (length code.stages)) ≡ to
      → to ≤ length code.stages → LeadsFrom registers l to old new before after → TakesAct code registers told l a next old new before after
  lead_taken to no_wait same few t = record {
    step = stage_stepped code registers l (stage.Act a next) old new before after t.step;
    acts = λ bits less m r g o knows still here.
        subst (λ z. LeavesFor z false r before after) (sym same)
        (t.leads bits m r g o
        (record {
          has = has_stage code registers l m r knows (omega arith);
          here = here;
          fits = (let room = knows.room in omega arith);
          is_last = still.is_last;
          waits = still.waits;
        }));
    meets = λ barrier is. absurd (no_wait barrier is);
    wired = λ base linked bar less. let room = linked.slots.room in t.wired base code linked (omega arith) (omega arith);
  }

  pub wait_taken : (barrier : ActOperand) → a ≡ act.BarrierWait barrier → TakesWait code registers told.barred l (min next (length code.stages)) old new before after
      → TakesAct code registers told l a next old new before after
  wait_taken barrier is t = record {
    step = record {
      grows = grows_then old t.with_own new t.waits.step.grows t.meets.step.grows;
      many = many_then before t.own after t.waits.step.many t.meets.step.many;
      bits = λ bits. t.meets.step.bits (t.waits.step.bits bits);
      rests = λ m r g o bits knows less none.
          same_then r before t.own after
          (t.waits.step.rests m r (back m g) o bits (has_stage code registers l m r knows (omega arith))
          (not_own (length code.stages) l (r.signal registers.stage.register) (stage.Act a next) none))
          (t.meets.step.rests m r g o (t.waits.step.bits bits) (has_meeting code registers l m r knows less)
          (not_meeting (length code.stages) l (r.signal registers.stage.register) (stage.Act a next) (ap (λ (z : Act). is_wait (stage.Act z next)) is) none));
    };
    acts = λ bits less m r g o knows still here.
        subst (λ z. LeavesFor z false r before after) (sym (ap (λ (z : Act). stage_after (length code.stages) l z (min next (length code.stages))) is))
        (leaves_later (meeting (length code.stages) l) false r before t.own after
        (t.meets.step.rests m r g o (t.waits.step.bits bits) (has_meeting code registers l m r knows less) (λ e. absurd (let same = sym here ∙ e in omega arith)))
        (t.waits.leads bits m r (back m g) o
        (record {
          has = has_stage code registers l m r knows (omega arith);
          here = here;
          fits = (let room = knows.room in omega arith);
          is_last = still.is_last;
          waits = still.waits;
        })));
    meets = λ other same bits less m r v g o knows still here bar.
        let shown =
        t.waits.step.rests m r (back m g) o bits (has_stage code registers l m r knows (omega arith)) (λ e. absurd (let clash = sym e ∙ here in omega arith)) in
        leaves_from (min next (length code.stages)) v r before t.own after shown
        (t.meets.leads (t.waits.step.bits bits) m r v g o
        (record {
          has = has_meeting code registers l m r knows less;
          here = here;
          fits = (let room = knows.room in omega arith);
          is_last = shown.is_last false still.is_last;
          waits = shown.waits false still.waits;
        }) bar);
    wired = λ base linked bar less.
        let room = linked.slots.room in
        let first = t.waits.wired base code linked (omega arith) (omega arith) in
        let last = t.meets.wired base code first.linked (omega arith) (omega arith) (stands_after old t.with_own base told.barred 1 t.waits.step.grows bar) in
        record { wires = wires_then base old t.with_own new first.wires last.wires; linked = last.linked };
  }
    where
      back : (m : Module) → Grows new m.signals → Grows t.with_own m.signals
      back m g = grows_then t.with_own new m.signals t.meets.step.grows g

-- an act that is neither a wait nor a return
pub goes_on : (n l : ℕ) (a : Act) (next : ℕ) → ((barrier : ActOperand) → a ≡ act.BarrierWait barrier → ⊥) → (a ≡ act.Return → ⊥) → stage_after n l a next ≡ next
goes_on n l (act.BarrierWait barrier) next no_wait no_return = absurd (no_wait barrier refl)
goes_on n l act.Return next no_wait no_return = absurd (no_return refl)
goes_on n l _ next no_wait no_return = refl
