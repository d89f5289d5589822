-- The links of the rest: main stays there, another thread sets out.
use Rattle.std.proofs.Common.{◌≡◌, ℕ, ◌<◌, Bool, true, false, not, ◌&&◌, nat_eq, if◌then◌else◌, List, length, Some, None, refl, sym, ap, subst, ◌∙◌, arith}
use Rattle.block_ir.specs.declared.code.ThreadCode.{ThreadCode}
use Rattle.netlist.specs.declared.netlist.Signal.{Signal}
use Rattle.netlist.specs.declared.netlist.Module.{Module}
use Rattle.verilog_meaning.specs.Readings.{width}
use Rattle.operator_wires.specs.Gives.{Grows}
use Rattle.operator_wires.proofs.PutSignals.{grows_refl, grows_then}
use Rattle.operator_wires.proofs.BuiltWires.{stands_after, wires_none, wires_then}
use Rattle.operator_wires.proofs.Bits.{set_bit}
use Rattle.planned_block.proofs.Bits.{same_is, other_is}
use Rattle.thread_promise.specs.Moves.{is_variable}
use Rattle.block_datapath.specs.declared.registers.Registers.{Registers}
use Rattle.block_datapath.specs.Chains.{next_number, SetsNext, TellsStage}
use Rattle.block_datapath.specs.Wired.{IsLinked}
use Rattle.thread_slots.specs.declared.chains.Chains.{Chains}
use Rattle.thread_slots.specs.declared.told.Told.{Told as ToldWires}
use Rattle.thread_slots.specs.Bits.{HasBit}
use Rattle.thread_slots.specs.Wired.{LinkAll, AreLinked}
use Rattle.thread_states.specs.Acts.{StepsOver, Idles, LeavesFor, TakesArgument, LeavesRest, EndsAt}
use Rattle.thread_slots.proofs.BitLists.{has_not}
use Rattle.thread_slots.proofs.Linked.{linked_later}
use Rattle.thread_slots.proofs.NextLink.{same_everywhere, has_stage}
use Rattle.thread_slots.proofs.Taken.{Told}
use Rattle.thread_states.proofs.Between.{chains_of, links_of}
use Rattle.thread_states.proofs.StateLinks.{bits_later, same_then}

-- ---- the argument

pub no_argument : (registers : Registers) (number argument : ℕ) (a : List Signal) (before : List ℕ) → TakesArgument registers None number argument a a before before
no_argument registers number argument a before = record {
  grows = grows_refl a;
  count = refl;
  shows = λ m r x g o has less. refl;
  wired = λ base code slots count linked fits typed stands. (wires_none base a, linked);
}

pub argument_taken : (registers : Registers) (variable number argument at : ℕ) (a b c : List Signal) (before after : List ℕ) → TellsStage a b registers number at
    → Told a b registers number at → SetsNext b c before after variable at argument → IsLinked b c variable 64 at argument before after
    → TakesArgument registers (Some variable) number argument a c before after
argument_taken registers variable number argument at a b c before after told stands sets linked = record {
  grows = grows_then a b c told.grows sets.grows;
  count = sets.count;
  shows = λ m r x g o has less.
      sets.shows m r x g o less
      ∙ ap (λ t. if nat_eq x variable && t then r.signal argument else next_number r before x)
      (ap (λ n. not (nat_eq n 0)) (told.shows m r (grows_then b c m.signals sets.grows g) o has.wide has.room has.fits)
      ∙ set_bit (nat_eq (r.signal registers.stage.register) number));
  wired = λ base code slots count links fits typed source.
      let bit = stands base slots.stage fits in
      let later : LinkAll base b registers.variables before = λ x y h e f. stands_after a b base y h.width bit.wires.grows (links x y h e f) in
      let made =
      linked base registers.variables (chains_of base b registers.variables before count later)
      (λ h listed.
      let declared = typed variable refl in slots.typed variable h _ listed declared ∙ refl) bit.stands (stands_after a b base argument 64 bit.wires.grows source) in
      (wires_then base a b c bit.wires made.wires, links_of base c registers.variables after made.chains);
}

-- ---- the rest

pub rest_stays : (code : ThreadCode) (registers : Registers) (main : Bool) (told : ToldWires) (number : ℕ) (a b : List Signal) (before after : Chains) → main ≡ true
    → number ≡ length code.stages → Idles registers number a b before after → EndsAt code registers main told a b before after
rest_stays code registers main told number a b before after is_main is t =
    let idles : Idles registers (length code.stages) a b before after = subst (λ z. Idles registers z a b before after) is t in
    record {
      step = idles.step;
      stays = λ yes bits m r g o knows here none. idles.waits m r g o bits (has_stage code registers (length code.stages) m r knows (omega arith)) here none;
      begins = λ other. absurd (let clash : true ≡ false = sym is_main ∙ other in cc);
      wired = λ base linked stand typed. let room = linked.slots.room in idles.wired base code linked (omega arith);
    }

module _ (code : ThreadCode) (registers : Registers) (told : ToldWires) (a b : List Signal) (before after : Chains) (t : LeavesRest code registers told a b before after) where
  abbrev rest : ℕ
  rest = length code.stages

  from_idle : Grows t.with_idle b
  from_idle = grows_then t.with_idle t.with_lead b t.leads.step.grows t.takes.grows

  to_lead : (m : Module) → Grows b m.signals → Grows t.with_lead m.signals
  to_lead m g = grows_then t.with_lead b m.signals t.takes.grows g

  count : length after.variables ≡ length before.variables
  count = t.takes.count ∙ t.leads.step.many.variables

  -- elsewhere the argument's variable holds what it held
  same_off : (t u : Bool) (A B : ℕ) → u ≡ false → (if t && u then A else B) ≡ B
  same_off true u A B e = ap (λ z. if z then A else B) e
  same_off false u A B e = refl

  same_on : (t u : Bool) (A B : ℕ) → u ≡ true → (if t && u then A else B) ≡ (if t then A else B)
  same_on true u A B e = ap (λ z. if z then A else B) e
  same_on false u A B e = refl

  begun_step : StepsOver registers rest a b before after
  begun_step = record {
    grows = grows_then a t.with_idle b t.idles.grows from_idle;
    many = record { variables = count; kept = ap (λ (z : Chains). length z.kept) t.same ∙ t.leads.step.many.kept };
    bits = λ bits.
        let led = t.leads.step.bits (bits_later a t.with_idle before t.idles.grows bits) in
        record {
          is_last = λ m g. ap (λ (z : Chains). width m z.is_last) t.same ∙ led.is_last m (to_lead m g);
          waits = λ m g. ap (λ (z : Chains). width m z.waits) t.same ∙ led.waits m (to_lead m g);
        };
    rests = λ m r g o bits has ne.
        same_then r before t.led after
        (t.leads.step.rests m r (to_lead m g) o (bits_later a t.with_idle before t.idles.grows bits) has ne)
        (record {
          stage = ap (λ (z : Chains). r.signal z.stage) t.same;
          variables = same_everywhere r t.led.variables after.variables t.takes.count
              (λ x less.
              t.takes.shows m r x g o has less
              ∙ same_off (is_variable code.argument x) (nat_eq (r.signal registers.stage.register) rest) (r.signal told.argument) (next_number r t.led.variables x)
              (other_is (r.signal registers.stage.register) rest ne));
          kept = λ x. ap (λ (z : Chains). next_number r z.kept x) t.same;
          is_last = λ v e. ap (λ (z : Chains). r.signal z.is_last) t.same ∙ e;
          waits = λ v e. ap (λ (z : Chains). r.signal z.waits) t.same ∙ e;
        });
  }

  pub rest_begins : (main : Bool) → main ≡ false → EndsAt code registers main told a b before after
  rest_begins main not_main = record {
    step = begun_step;
    stays = λ yes. absurd (let clash : false ≡ true = sym not_main ∙ yes in cc);
    begins = λ other bits m r v g o knows still here runs.
        let has = has_stage code registers rest m r knows (omega arith) in
        let idle : HasBit m r t.idle (not v) =
        has_not a t.with_idle t.idle told.runs t.idles m r v (grows_then t.with_idle t.with_lead m.signals t.leads.step.grows (to_lead m g)) o runs in
        let led : LeavesFor 0 (not v) r before t.led =
        t.leads.leads (bits_later a t.with_idle before t.idles.grows bits) m r (not v) (to_lead m g) o
        (record { has = has; here = here; fits = (let room = knows.room in omega arith); is_last = still.is_last; waits = still.waits }) idle in
        record {
          is_last = ap (λ (z : Chains). r.signal z.is_last) t.same ∙ led.is_last;
          stage = ap (λ (z : Chains). r.signal z.stage) t.same ∙ led.stage;
          variables = λ x less.
              t.takes.shows m r x g o has (subst (λ n. x < n) (sym t.leads.step.many.variables) less)
              ∙ same_on (is_variable code.argument x) (nat_eq (r.signal registers.stage.register) rest) (r.signal told.argument) (next_number r t.led.variables x)
              (same_is (r.signal registers.stage.register) rest here)
              ∙ ap (λ z. if is_variable code.argument x then r.signal told.argument else z) (led.variables x);
          waits = ap (λ (z : Chains). r.signal z.waits) t.same ∙ led.waits;
        };
    wired = λ base linked stand typed.
        let room = linked.slots.room in
        let first = t.idles_wired base stand.runs in
        let lead =
        t.leads.wired base code (linked_later base a t.with_idle t.idles.grows code registers before linked) (omega arith) (omega arith) first.stands in
        let last =
        t.takes.wired base code lead.linked.slots lead.linked.variables_count lead.linked.variables (omega arith) (typed not_main)
        (stands_after t.with_idle t.with_lead base told.argument 64 t.leads.step.grows (stands_after a t.with_idle base told.argument 64 t.idles.grows stand.argument)) in
        let old = linked_later base t.with_lead b t.takes.grows code registers t.led lead.linked in
        record {
          wires = wires_then base a t.with_idle b first.wires (wires_then base t.with_idle t.with_lead b lead.wires last.0);
          linked =
              subst (λ (z : Chains). AreLinked base b code registers z) (sym t.same)
              (record {
                slots = old.slots;
                reads = old.reads;
                stage = old.stage;
                variables = last.1;
                kept = old.kept;
                variables_count = t.takes.count ∙ lead.linked.variables_count;
                kept_count = old.kept_count;
                is_last = old.is_last;
                waits = old.waits;
              });
        };
  }
