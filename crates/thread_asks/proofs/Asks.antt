-- What is asked of cores, one stage after the other.
use Rattle.std.proofs.Common.{◌≡◌, ◌≢◌, ℕ, suc, ◌+◌, ◌<◌, ◌≤◌, nat_eq, true, false, List, length, slice_get, Option, Some, None, ℤ, refl, sym, ap, subst, ◌∙◌, arith}
use Rattle.std.proofs.Common.{⊎_elim}
use Rattle.std.proofs.lemmas.Option.{slice_get_within}
use Rattle.std.proofs.lemmas.Bool.{cases_eq, ne_eqb}
use Rattle.std.proofs.Math.Bool.{or-false}
use Rattle.hls_ints.specs.Residues.{bit_of}
use Rattle.hls_ints.specs.Types.{IntegerType}
use Rattle.bank_partition.specs.declared.banks.Spread.{Spread}
use Rattle.block_ir.specs.declared.block.Block.{Block}
use Rattle.block_ir.specs.declared.code.Act.{Act}
use Rattle.block_ir.specs.declared.code.ActOperand.{ActOperand}
use Rattle.block_ir.specs.declared.code.Stage.{Stage}
use Rattle.block_ir.specs.declared.code.Stage.TheVariants as stage
use Rattle.block_ir.specs.declared.code.ThreadCode.{ThreadCode}
use Rattle.block_ir.specs.declared.plan.BlockPlan.{BlockPlan}
use Rattle.block_ir.specs.declared.plan.StagePlan.{StagePlan}
use Rattle.block_ir.specs.declared.plan.StagePlan.TheVariants as planned
use Rattle.block_ir.specs.declared.plan.Planned.{Planned}
use Rattle.block_ir.specs.Asked.{act_value, Request as Call, request_of}
use Rattle.block_ir.specs.declared.service.Service.{Service}
use Rattle.block_ir.specs.declared.service.Service.TheVariants.{Mutex, Barrier, ThreadIds, Printer}
use Rattle.block_datapath.specs.declared.requests.BankRequests.{BankRequests}
use Rattle.hls_ints.specs.Residues.{residue_of}
use Rattle.planned_block.specs.Slot.{Slot}
use Rattle.planned_block.specs.Advance.{last_of}
use Rattle.netlist.specs.declared.netlist.Signal.{Signal}
use Rattle.netlist.specs.declared.netlist.Module.{Module}
use Rattle.verilog_meaning.specs.Readings.{Reading, width}
use Rattle.circuit.specs.Modules.{Obeys}
use Rattle.operator_wires.specs.Gives.{Grows}
use Rattle.operator_wires.specs.Built.{Base, IsEarlier}
use Rattle.operator_wires.proofs.PutSignals.{grows_refl, grows_then}
use Rattle.operator_wires.proofs.BuiltWires.{stands_after, wires_none, wires_then}
use Rattle.block_datapath.specs.declared.registers.Held.{Held}
use Rattle.block_datapath.specs.declared.registers.Registers.{Registers}
use Rattle.block_datapath.specs.Chains.{next_number, TellsStage}
use Rattle.block_datapath.specs.Leave.{HasStage, IsInStage}
use Rattle.block_datapath.specs.Operations.{SeesSlot}
use Rattle.block_datapath.specs.Requests.{Asked, asked_at, AreAsMany, AreBankChains}
use Rattle.block_datapath.specs.Accesses.{AreFitSpreads, IsAskRight, reaches_now, asked_now, AsksBlock, IsAskingBlock}
use Rattle.block_datapath.proofs.BankRequests.{bank_chains_after}
use Rattle.thread_slots.specs.declared.shape.Served.{Served}
use Rattle.thread_slots.specs.declared.requests.Request.{Request}
use Rattle.thread_slots.specs.declared.requests.Requests.{Requests}
use Rattle.thread_slots.specs.Services.{number_width}
use Rattle.thread_asks.specs.declared.asking.Caller.{Caller}
use Rattle.thread_slots.specs.Slots.{KnowsStage}
use Rattle.thread_asks.specs.Fields.{IsTypedActOperand, AsksNumber, AsksValues, NamesObject}
use Rattle.thread_slots.specs.Wired.{LinkFields}
use Rattle.thread_slots.specs.Requests.{group, IsAskBit, AreAskBits, WantsRequest, RequestStands, AreAskLinks, BitIsLinked}
use Rattle.thread_asks.specs.Asking.{same_service, is_for, is_asked, object_of, values_of, SameRequest, ShowsCall, Calls, CallsPlain}
use Rattle.thread_asks.specs.Asking.{AskSame, AskAsMany, AsksOver, AskIsWired, AsksAt, AsksStage, AsksFirst, AsksAllWired}
use Rattle.thread_slots.proofs.Between.{registers_of}
use Rattle.thread_slots.proofs.Linked.{slots_later, fields_later}
use Rattle.thread_slots.proofs.RequestLinks.{request_later}
use Rattle.thread_slots.proofs.NextLink.{same_everywhere, stage_on, has_stage}
use Rattle.thread_slots.proofs.Taken.{Told, stage_below}

-- ---- services

-- of each service, from one and all others
pub decide : (P : Service → Type 0) (s : Service) → P s → ((k : Service) → same_service s k ≡ false → P k) → (k : Service) → P k
decide P Mutex own other Mutex = own
decide P Mutex own other Barrier = other Barrier refl
decide P Mutex own other ThreadIds = other ThreadIds refl
decide P Mutex own other Printer = other Printer refl
decide P Barrier own other Mutex = other Mutex refl
decide P Barrier own other Barrier = own
decide P Barrier own other ThreadIds = other ThreadIds refl
decide P Barrier own other Printer = other Printer refl
decide P ThreadIds own other Mutex = other Mutex refl
decide P ThreadIds own other Barrier = other Barrier refl
decide P ThreadIds own other ThreadIds = own
decide P ThreadIds own other Printer = other Printer refl
decide P Printer own other Mutex = other Mutex refl
decide P Printer own other Barrier = other Barrier refl
decide P Printer own other ThreadIds = other ThreadIds refl
decide P Printer own other Printer = own

pub same_self : (s : Service) → same_service s s ≡ true
same_self Mutex = refl
same_self Barrier = refl
same_self ThreadIds = refl
same_self Printer = refl

number_low : (served : Served) (s : Service) → 1 ≤ served.printer.site_width → 1 ≤ number_width served s
number_low served Mutex low = omega arith
number_low served Barrier low = omega arith
number_low served ThreadIds low = omega arith
number_low served Printer low = low

number_high : (served : Served) (s : Service) → served.printer.site_width ≤ 64 → number_width served s ≤ 64
number_high served Mutex high = omega arith
number_high served Barrier high = omega arith
number_high served ThreadIds high = omega arith
number_high served Printer high = high

-- ---- one request

same_request : (r : Reading) (before after : Request) → after ≡ before → SameRequest r before after
same_request r before after same = record {
  wants = λ t e. ap (λ (q : Request). r.signal q.wants) same ∙ e;
  object = ap (λ (q : Request). r.signal q.object) same;
  fields = λ x. ap (λ (q : Request). next_number r q.fields x) same;
}

-- a: before, b: the bit, c: the number, d: the values
module _ (a b c d : List Signal) (code : ThreadCode) (registers : Registers) (w at number : ℕ) (values : List ActOperand) (before wanted after : Request) (middle : List ℕ)
    (bit : WantsRequest a b before wanted at) (linked : BitIsLinked a b before wanted at) (same : after ≡ record wanted { fields = after.fields })
    (t : AsksNumber b c at wanted.fields middle w number) (u : AsksValues code registers c d at middle after.fields values (length values)) where
  back_c : (m : Module) → Grows d m.signals → Grows c m.signals
  back_c m g = grows_then c d m.signals u.grows g

  from_b : Grows b d
  from_b = grows_then b c d t.grows u.grows

  back_b : (m : Module) → Grows d m.signals → Grows b m.signals
  back_b m g = grows_then b d m.signals from_b g

  from_a : Grows a d
  from_a = grows_then a b d bit.grows from_b

  back_a : (m : Module) → Grows d m.signals → Grows a m.signals
  back_a m g = grows_then a d m.signals from_a g

  fields_same : wanted.fields ≡ before.fields
  fields_same = ap (λ (q : Request). q.fields) bit.same

  object_same : after.object ≡ before.object
  object_same = ap (λ (q : Request). q.object) same ∙ ap (λ (q : Request). q.object) bit.same

  wants_same : after.wants ≡ wanted.wants
  wants_same = ap (λ (q : Request). q.wants) same

  wanted_long : (x : ℕ) → x < length before.fields → x < length wanted.fields
  wanted_long x less = subst (λ (z : List ℕ). x < length z) (sym fields_same) less

  middle_long : (x : ℕ) → x < length before.fields → x < length middle
  middle_long x less = subst (λ (z : ℕ). x < z) (sym t.count) (wanted_long x less)

  counted : length after.fields ≡ length before.fields
  counted = u.count ∙ t.count ∙ ap length fields_same

  pub plain_called : CallsPlain code registers w at number values a d before after
  plain_called = record {
    object = object_same;
    calls = record {
      grows = from_a;
      count = counted;
      bit = λ e m g. ap (width m) wants_same ∙ bit.bit.wide m (back_b m g);
      off = λ m r g o e no. record {
        wants = λ v is. ap r.signal wants_same ∙ bit.bit.shows m r v false (back_b m g) o (e m (back_a m g)) is no ∙ ap bit_of (or-false v);
        object = ap r.signal object_same;
        fields = same_everywhere r before.fields after.fields counted (λ x less.
            u.rests m r x g o no (middle_long x less) ∙ t.rests m r x (back_c m g) o no (wanted_long x less) ∙ ap (λ (l : List ℕ). next_number r l x) fields_same);
      };
      on = λ m r variables g o e hit none seen. record {
        wants = ap r.signal wants_same ∙ bit.bit.shows m r false true (back_b m g) o (e m (back_a m g)) none hit;
        object_is = λ v is. absurd cc;
        number_is = λ some. u.first m r g o (middle_long 0 some) ∙ t.asks m r (back_c m g) o hit (wanted_long 0 some);
        values_are = λ j v listed typed less.
            u.asks m r variables j v g o hit seen (slice_get_within values j v listed) listed typed (middle_long (suc j) less);
      };
      wired = λ base slots there low high stands.
          let p = linked base stands.wants there in
          let fields_b : LinkFields base b w wanted.fields =
          subst (LinkFields base b w) (sym fields_same) (fields_later base a b p.wires.grows w before.fields stands.fields) in
          let k = t.wired base (stands_after a b base at 1 p.wires.grows there) low high fields_b in
          let to_c = grows_then a b c p.wires.grows k.wires.grows in
          let l = u.wired base w (slots_later base a c to_c code registers slots) (stands_after a c base at 1 to_c there) k.linked in
          record {
            wires = wires_then base a b d p.wires (wires_then base b c d k.wires l.wires);
            stands = record {
              wants = subst (λ z. IsEarlier d base z 1) (sym wants_same) (stands_after b d base wanted.wants 1 from_b p.wants);
              object = subst (λ z. IsEarlier d base z 64) (sym object_same) (stands_after a d base before.object 64 from_a stands.object);
              fields = l.linked;
            };
          };
    };
  }

-- a: before, b: the object, d: the call
pub named_called : (a b d : List Signal) (code : ThreadCode) (registers : Registers) (w at number named : ℕ) (v : ActOperand) (values : List ActOperand) (before after : Request)
    → NamesObject code registers a b at before.object v named → CallsPlain code registers w at number values b d (record before { object = named }) after
    → Calls code registers w at number (Some v) values a d before after
named_called a b d code registers w at number named v values before after n t = record {
  grows = grows_then a b d n.grows t.calls.grows;
  count = t.calls.count;
  bit = λ e. t.calls.bit (λ m g. e m (grows_then a b m.signals n.grows g));
  off = λ m r g o e no.
      let own = t.calls.off m r g o (λ k h. e k (grows_then a b k.signals n.grows h)) no in
      record { wants = own.wants; object = ap r.signal t.object ∙ n.rests m r (grows_then b d m.signals t.calls.grows g) o no; fields = own.fields };
  on = λ m r variables g o e hit none seen.
      let own = t.calls.on m r variables g o (λ k h. e k (grows_then a b k.signals n.grows h)) hit none seen in
      record {
        wants = own.wants;
        object_is = λ q is typed.
            let one : v ≡ q = cc in
            ap r.signal t.object
            ∙ n.names m r variables (grows_then b d m.signals t.calls.grows g) o hit seen (subst (λ (z : ActOperand). IsTypedActOperand code z) (sym one) typed)
            ∙ ap (λ (z : ActOperand). residue_of 64 (act_value variables z)) one;
        number_is = own.number_is;
        values_are = own.values_are;
      };
  wired = λ base slots there low high stands.
      let p = n.wired base slots there stands.object in
      let k = t.calls.wired base (slots_later base a b p.wires.grows code registers slots) (stands_after a b base at 1 p.wires.grows there) low high
      (record {
        wants = stands_after a b base before.wants 1 p.wires.grows stands.wants;
        object = p.stands;
        fields = fields_later base a b p.wires.grows w before.fields stands.fields;
      }) in
      record { wires = wires_then base a b d p.wires k.wires; stands = k.stands };
}

-- a: before, b: the object, if there is one
abbrev pub NamesIf : ThreadCode → Registers → List Signal → List Signal → ℕ → Option ActOperand → Request → Request → Type 0
NamesIf code registers a b at None before middle = (b ≡ a) × (middle ≡ before)
NamesIf code registers a b at (Some v) before middle = (named : ℕ) × NamesObject code registers a b at before.object v named × (middle ≡ record before { object = named })

-- d: the call
pub called_if : (a b d : List Signal) (code : ThreadCode) (registers : Registers) (w at number : ℕ) (object : Option ActOperand) (values : List ActOperand)
    (before middle after : Request)
    → NamesIf code registers a b at object before middle → CallsPlain code registers w at number values b d middle after → Calls code registers w at number object values a d before after
called_if a b d code registers w at number None values before middle after n t =
    subst (λ (z : List Signal). Calls code registers w at number None values z d before after) n.0
    (subst (λ (q : Request). Calls code registers w at number None values b d q after) n.1 t.calls)
called_if a b d code registers w at number (Some v) values before middle after n t =
    named_called a b d code registers w at number n.0 v values before after n.1
    (subst (λ (q : Request). CallsPlain code registers w at number values b d q after) n.2 t)

-- ---- one of all requests

abbrev pub put_group : Service → Requests → Request → Requests
put_group Mutex x own = record x { mutex = own }
put_group Barrier x own = record x { barrier = own }
put_group ThreadIds x own = record x { thread_ids = own }
put_group Printer x own = record x { printer = own }

pub group_put : (s : Service) (x : Requests) (own : Request) → group (put_group s x own) s ≡ own
group_put Mutex x own = refl
group_put Barrier x own = refl
group_put ThreadIds x own = refl
group_put Printer x own = refl

pub banks_put : (s : Service) (x : Requests) (own : Request) → (put_group s x own).banks ≡ x.banks
banks_put Mutex x own = refl
banks_put Barrier x own = refl
banks_put ThreadIds x own = refl
banks_put Printer x own = refl

pub others_put : (s : Service) (x : Requests) (own : Request) (k : Service) → same_service s k ≡ false → group (put_group s x own) k ≡ group x k
others_put Mutex x own Mutex off = absurd cc
others_put Mutex x own Barrier off = refl
others_put Mutex x own ThreadIds off = refl
others_put Mutex x own Printer off = refl
others_put Barrier x own Mutex off = refl
others_put Barrier x own Barrier off = absurd cc
others_put Barrier x own ThreadIds off = refl
others_put Barrier x own Printer off = refl
others_put ThreadIds x own Mutex off = refl
others_put ThreadIds x own Barrier off = refl
others_put ThreadIds x own ThreadIds off = absurd cc
others_put ThreadIds x own Printer off = refl
others_put Printer x own Mutex off = refl
others_put Printer x own Barrier off = refl
others_put Printer x own ThreadIds off = refl
others_put Printer x own Printer off = absurd cc

-- ---- readings

pub ask_refl : (r : Reading) (c : Requests) → AskSame r c c
ask_refl r c = record { requests = λ s. same_request r (group c s) (group c s) refl; banks = λ j many as_many less. refl }

pub ask_then : (r : Reading) (a b c : Requests) → AskAsMany a b → AskSame r a b → AskSame r b c → AskSame r a c
ask_then r a b c many t u = record {
  requests = λ s. record {
    wants = λ v e. (u.requests s).wants v ((t.requests s).wants v e);
    object = (u.requests s).object ∙ (t.requests s).object;
    fields = λ x. (u.requests s).fields x ∙ (t.requests s).fields x;
  };
  banks = λ j n as_many less. u.banks j n (many.banks n as_many) less ∙ t.banks j n as_many less;
}

pub ask_many_refl : (c : Requests) → AskAsMany c c
ask_many_refl c = record { fields = λ s. refl; banks = λ n is. is }

pub ask_many_then : (a b c : Requests) → AskAsMany a b → AskAsMany b c → AskAsMany a c
ask_many_then a b c t u = record { fields = λ s. u.fields s ∙ t.fields s; banks = λ n is. u.banks n (t.banks n is) }

-- what shows the same where a bit is not set
pub record AskOff (at : ℕ) (old new : List Signal) (before after : Requests) : Type 0 where
  pub grows : Grows old new
  pub many : AskAsMany before after
  pub bits : AreAskBits old before → AreAskBits new after
  pub off : (m : Module) (r : Reading) → Grows new m.signals → Obeys m r → AreAskBits old before → r.signal at ≡ 0 → AskSame r before after

pub ask_bits_later : (a b : List Signal) (c : Requests) → Grows a b → AreAskBits a c → AreAskBits b c
ask_bits_later a b c grows e s m g = e s m (grows_then a b m.signals grows g)

told_off : (registers : Registers) (l at : ℕ) (a b : List Signal) (m : Module) (r : Reading) → TellsStage a b registers l at → Grows b m.signals → Obeys m r →
    HasStage registers l m r
    → r.signal registers.stage.register ≢ l → r.signal at ≡ 0
told_off registers l at a b m r told g o has ne =
    told.shows m r g o has.wide has.room has.fits ∙ ap bit_of (ne_eqb (r.signal registers.stage.register) l ne)

pub ask_steps : (registers : Registers) (l at : ℕ) (a b c : List Signal) (x y : Requests) → TellsStage a b registers l at → AskOff at b c x y → AsksOver registers l a c x y
ask_steps registers l at a b c x y told t = record {
  grows = grows_then a b c told.grows t.grows;
  many = t.many;
  bits = λ e. t.bits (ask_bits_later a b x told.grows e);
  rests = λ m r g o e has ne.
      t.off m r g o (ask_bits_later a b x told.grows e) (told_off registers l at a b m r told (grows_then b c m.signals t.grows g) o has ne);
}

-- ---- stages of each kind

module _ (globals : List IntegerType) (spreads : List Spread) (code : ThreadCode) (registers : Registers) where
  module _ (base : Base) (served : Served) (bits wide own : List Held) where
    pub ask_links_after : (a b : List Signal) (c : Requests) → Grows a b → AreAskLinks base code registers served globals spreads bits wide own a c
        → AreAskLinks base code registers served globals spreads bits wide own b c
    ask_links_after a b c g t = record {
      slots = slots_later base a b g code registers t.slots;
      site_low = t.site_low;
      site_high = t.site_high;
      requests = λ s. request_later base a b (number_width served s) (group c s) g (t.requests s);
      banks = bank_chains_after a b base bits wide own c.banks g t.banks;
      widths = t.widths;
    }

  -- an act that makes a request of the cores of one service
  module _ (caller : Caller) (l : ℕ) (act : Act) (next : ℕ) (plan : Option StagePlan) (call : Call) (is_call : request_of caller.is_main act ≡ Some call) (x z : Requests)
      (a b d : List Signal) (at : ℕ) (told : TellsStage a b registers l at) (told_wired : Told a b registers l at)
      (called : Calls code registers (number_width caller.served call.service) at call.number (object_of call.service call.operands) (values_of call.service call.operands) b d
      (group x call.service) (group z call.service))
      (others : (k : Service) → same_service call.service k ≡ false → group z k ≡ group x k) (banks : z.banks ≡ x.banks) where
    call_off : AskOff at b d x z
    call_off = record {
      grows = called.grows;
      many = record {
        fields = decide (λ k. length (group z k).fields ≡ length (group x k).fields) call.service called.count (λ k no. ap (λ (q : Request). length q.fields) (others k no));
        banks = λ n is. subst (AreAsMany n) (sym banks) is;
      };
      bits = λ e. decide (λ k. IsAskBit d (group z k)) call.service (called.bit (e call.service))
          (λ k no m g. ap (λ (q : Request). width m q.wants) (others k no) ∙ e k m (grows_then b d m.signals called.grows g));
      off = λ m r g o e no. record {
        requests = decide (λ k. SameRequest r (group x k) (group z k)) call.service (called.off m r g o (e call.service) no)
            (λ k other. same_request r (group x k) (group z k) (others k other));
        banks = λ j n as_many less. ap (λ (k : BankRequests). asked_at r k j) banks;
      };
    }

    call_does : AreAskBits a x → l ≤ length code.stages → AsksAt globals spreads code registers caller l (stage.Act act next) plan d x z
    call_does bits le = record {
      asks = λ act' next' call' e f m r variables g o knows here none seen.
          let gb = grows_then b d m.signals called.grows g in
          let on = stage_on registers l at a b m r told gb o (has_stage code registers l m r knows le) here in
          let one : act ≡ act' = cc in
          let both : Some call ≡ Some call' = sym is_call ∙ ap (request_of caller.is_main) one ∙ f in
          let same : call ≡ call' = cc in
          subst (λ (k : Call). ShowsCall code registers (number_width caller.served k.service) k.number (object_of k.service k.operands) (values_of k.service k.operands) r variables
          (length (group x k.service).fields) (group z k.service)) same
          (called.on m r variables g o (ask_bits_later a b x told.grows bits call.service) on
          (subst (λ (k : Call). r.signal (group x k.service).wants ≡ 0) (sym same) none) seen);
      quiet = λ k no m r g o knows here none.
          let other : same_service call.service k ≡ false = ap (is_for k) (sym is_call) ∙ no in
          ap (λ (q : Request). r.signal q.wants) (others k other) ∙ none;
      blocks = λ block p e. absurd cc;
      silent = λ no m r j many g o knows here as_many less. ap (λ (k : BankRequests). asked_at r k j) banks;
    }

    call_wired : l ≤ length code.stages → AskIsWired code registers globals spreads caller a d x z
    call_wired le base bits wide own links =
        let p = told_wired base links.slots.stage (stage_below base a code registers l links.slots le) in
        let in_b = ask_links_after base caller.served bits wide own a b x p.wires.grows links in
        let u = called.wired base in_b.slots p.stands (number_low caller.served call.service links.site_low) (number_high caller.served call.service links.site_high)
        (in_b.requests call.service) in
        let in_d = ask_links_after base caller.served bits wide own b d x u.wires.grows in_b in
        record {
          wires = wires_then base a b d p.wires u.wires;
          linked = record {
            slots = in_d.slots;
            site_low = links.site_low;
            site_high = links.site_high;
            requests = decide (λ k. RequestStands base d (number_width caller.served k) (group z k)) call.service u.stands
                (λ k no. subst (RequestStands base d (number_width caller.served k)) (sym (others k no)) (in_d.requests k));
            banks = subst (AreBankChains d base bits wide own) (sym banks) in_d.banks;
            widths = links.widths;
          };
        }

    pub call_stage : AsksStage globals spreads code registers caller l (stage.Act act next) plan a d x z
    call_stage = record {
      step = ask_steps registers l at a b d x z told call_off;
      does = call_does;
      wired = λ le fits. call_wired le;
    }

  module _ (caller : Caller) (l : ℕ) where
    -- a stage that asks nothing
    pub nothing_stage : (s : Stage) (plan : Option StagePlan) (a : List Signal) (x z : Requests) → z ≡ x
        → ((k : Service) → is_asked caller.is_main (Some s) k ≡ false)
        → ((b : Block) (p : BlockPlan) → s ≡ stage.Run b → plan ≡ Some (planned.Run p) → ⊥) → AsksStage globals spreads code registers caller l s plan a a x z
    nothing_stage s plan a x z same no_call no_block = subst (λ (c : Requests). AsksStage globals spreads code registers caller l s plan a a x c) (sym same) (record {
      step = record {
        grows = grows_refl a;
        many = ask_many_refl x;
        bits = λ e. e;
        rests = λ m r g o e has ne. ask_refl r x;
      };
      does = λ bits le. record {
        asks = λ act next call e f.
            let clash : false ≡ true =
            sym (no_call call.service) ∙ ap (λ k. is_asked caller.is_main (Some k) call.service) e ∙ ap (is_for call.service) f ∙ same_self call.service in
            absurd cc;
        quiet = λ k no m r g o knows here none. none;
        blocks = λ b p e f. absurd (no_block b p e f);
        silent = λ no m r j many g o knows here as_many less. refl;
      };
      wired = λ le fits base bits wide own links. record { wires = wires_none base a; linked = links };
    })

    -- what a block asks of banks
    abbrev BlockAsks : List Signal → Requests → Requests → Block → BlockPlan → Type 0
    BlockAsks new x z b p =
        (m : Module) (r : Reading) (q : Slot) (wire : ℕ → ℤ) (j many : ℕ) → IsAskRight globals code b p → Grows new m.signals → Obeys m r →
        IsInStage globals code registers l b p m r q
        → SeesSlot globals code registers b p m r q → AreFitSpreads spreads → AreAsMany many x.banks → j < many
        → asked_at r z.banks j
        ≡ last_of (reaches_now globals spreads code registers l b p q wire j) (asked_now globals spreads code registers l b p q wire) (asked_at r x.banks j) (length b.operations)

    -- a block
    pub block_stage : (b : Block) (p : BlockPlan) (a c : List Signal) (x z : Requests) → z ≡ record x { banks = z.banks }
        → AsksBlock globals spreads code registers l b p a c x.banks z.banks → IsAskingBlock globals spreads code registers l b p a c x.banks z.banks
        → AsksStage globals spreads code registers caller l (stage.Run b) (Some (planned.Run p)) a c x z
    block_stage b p a c x z same t wired = record {
      step = record {
        grows = t.grows;
        many = record { fields = λ k. ap (λ (q : Requests). length (group q k).fields) same; banks = t.many };
        bits = λ e k m g. ap (λ (q : Requests). width m (group q k).wants) same ∙ e k m (grows_then a c m.signals t.grows g);
        rests = λ m r g o e has ne. record {
          requests = λ k. same_request r (group x k) (group z k) (ap (λ (q : Requests). group q k) same);
          banks = λ j many as_many less. t.rests m r j many g o has ne as_many less;
        };
      };
      does = λ bits le. record {
        asks = λ act next call e. absurd cc;
        quiet = λ k no m r g o knows here none. ap (λ (q : Requests). r.signal (group q k).wants) same ∙ none;
        blocks = λ d u e f m r q wire j many right g o knows inside sees fit as_many less.
            let one : d ≡ b = cc in
            let two : u ≡ p = cc in
            by d u one two m r q wire j many right g o inside sees fit as_many less;
        silent = λ no. absurd cc;
      };
      wired = λ le fits base bits wide own links.
          let made = wired base bits wide own (registers_of base a code registers links.slots) links.banks links.widths (stage_below base a code registers l links.slots le)
          (fits p refl) in
          let later = ask_links_after base caller.served bits wide own a c x made.wires.grows links in
          record {
            wires = made.wires;
            linked = record {
              slots = later.slots;
              site_low = links.site_low;
              site_high = links.site_high;
              requests = λ k. subst (λ (q : Requests). RequestStands base c (number_width caller.served k) (group q k)) (sym same) (later.requests k);
              banks = made.chains;
              widths = links.widths;
            };
          };
    }
      where
        by : (d : Block) (u : BlockPlan) → d ≡ b → u ≡ p → BlockAsks c x z d u
        by d u one two =
            subst (λ (k : Block). BlockAsks c x z k u) (sym one) (subst (λ (k : BlockPlan). BlockAsks c x z b k) (sym two)
            (λ m r q wire j many right g o inside sees fit as_many less.
            t.asks m r q wire j many right g o inside sees fit as_many less))

  -- ---- one more stage

  module _ (caller : Caller) where
    -- from links before it that ask the same
    asks_started : (l : ℕ) (s : Stage) (plan : Option StagePlan) (new : List Signal) (start middle c : Requests) → AskAsMany start middle
        → ((m : Module) (r : Reading) → Grows new m.signals → Obeys m r → KnowsStage code registers m r → r.signal registers.stage.register ≡ l → AskSame r start middle)
        → AsksAt globals spreads code registers caller l s plan new middle c → AsksAt globals spreads code registers caller l s plan new start c
    asks_started l s plan new start middle c many same t = record {
      asks = λ act next call e f m r vs g o knows here none seen.
          let shown = (same m r g o knows here).requests call.service in
          let made = t.asks act next call e f m r vs g o knows here (shown.wants false none) seen in
          let count = many.fields call.service in
          record {
            wants = made.wants;
            object_is = made.object_is;
            number_is = λ some. made.number_is (subst (λ (n : ℕ). 0 < n) (sym count) some);
            values_are = λ j v listed typed less. made.values_are j v listed typed (subst (λ (n : ℕ). suc j < n) (sym count) less);
          };
      quiet = λ k no m r g o knows here none. t.quiet k no m r g o knows here (((same m r g o knows here).requests k).wants false none);
      blocks = λ b p e f m r q wire j n right g o knows inside sees fit as_many less.
          t.blocks b p e f m r q wire j n right g o knows inside sees fit (many.banks n as_many) less
          ∙ ap (λ (z : Asked). last_of (reaches_now globals spreads code registers l b p q wire j) (asked_now globals spreads code registers l b p q wire) z (length b.operations))
          ((same m r g o knows inside.stage).banks j n as_many less);
      silent = λ no m r j n g o knows here as_many less.
          t.silent no m r j n g o knows here (many.banks n as_many) less ∙ (same m r g o knows here).banks j n as_many less;
    }

    -- with links of another stage behind it
    asks_lifted : (l n : ℕ) (s : Stage) (plan : Option StagePlan) (old new : List Signal) (start middle c : Requests) → l ≢ n → n ≤ length code.stages → AskAsMany start middle
        → AreAskBits old middle → AsksOver registers n old new middle c → AsksAt globals spreads code registers caller l s plan old start middle
        → AsksAt globals spreads code registers caller l s plan new start c
    asks_lifted l n s plan old new start middle c ne le many bits step t = record {
      asks = λ act next call e f m r vs g o knows here none seen.
          let shown = (same m r g o knows here).requests call.service in
          let made = t.asks act next call e f m r vs (back m g) o knows here none seen in
          record {
            wants = shown.wants true made.wants;
            object_is = λ v is typed. shown.object ∙ made.object_is v is typed;
            number_is = λ some. shown.fields 0 ∙ made.number_is some;
            values_are = λ j v listed typed less. shown.fields (suc j) ∙ made.values_are j v listed typed less;
          };
      quiet = λ k no m r g o knows here none. ((same m r g o knows here).requests k).wants false (t.quiet k no m r (back m g) o knows here none);
      blocks = λ b p e f m r q wire j k right g o knows inside sees fit as_many less.
          (same m r g o knows inside.stage).banks j k (many.banks k as_many) less
          ∙ t.blocks b p e f m r q wire j k right (back m g) o knows inside sees fit as_many less;
      silent = λ no m r j k g o knows here as_many less.
          (same m r g o knows here).banks j k (many.banks k as_many) less ∙ t.silent no m r j k (back m g) o knows here as_many less;
    }
      where
        back : (m : Module) → Grows new m.signals → Grows old m.signals
        back m g = grows_then old new m.signals step.grows g

        same : (m : Module) (r : Reading) → Grows new m.signals → Obeys m r → KnowsStage code registers m r → r.signal registers.stage.register ≡ l → AskSame r middle c
        same m r g o knows here = step.rests m r g o bits (has_stage code registers n m r knows le) (λ e. ne (sym here ∙ e))

    module _ (plan : Planned) (a : List Signal) (start : Requests) where
      pub asks_none : AsksFirst globals spreads code registers caller plan a a start start 0
      asks_none = record {
        grows = grows_refl a;
        many = ask_many_refl start;
        bits = λ e. e;
        still = λ m r g o e knows none. ask_refl r start;
        does = λ e k s lt. absurd (omega arith);
        wired = λ le fits base bits wide own links. record { wires = wires_none base a; linked = links };
      }

      pub asks_more : (b c : List Signal) (middle after : Requests) (n : ℕ) (s : Stage) → AsksFirst globals spreads code registers caller plan a b start middle n
          → slice_get code.stages n ≡ Some s → AsksStage globals spreads code registers caller n s (slice_get plan.stages n) b c middle after
          → AsksFirst globals spreads code registers caller plan a c start after (n + 1)
      asks_more b c middle after n s t listed u = record {
        grows = grows_then a b c t.grows u.step.grows;
        many = ask_many_then start middle after t.many u.step.many;
        bits = λ e. u.step.bits (t.bits e);
        still = λ m r g o e knows none.
            ask_then r start middle after t.many (t.still m r (back m g) o e knows (λ k less. none k (omega arith)))
            (u.step.rests m r g o (t.bits e) (has_stage code registers n m r knows inside) (none n (omega arith)));
        does = λ e k x lt there. ⊎_elim
            (λ (same : k ≡ n).
            let one : s ≡ x = (let h = ap (slice_get code.stages) same in cc) in
            let made = u.does (t.bits e) inside in
            subst (λ (z : ℕ). AsksAt globals spreads code registers caller z x (slice_get plan.stages z) c start after) (sym same)
            (subst (λ (z : Stage). AsksAt globals spreads code registers caller n z (slice_get plan.stages n) c start after) one
            (asks_started n s (slice_get plan.stages n) c start middle after t.many
            (λ m r g o knows here. t.still m r (back m g) o e knows (λ k less. λ is. absurd (let z : k ≡ n = sym is ∙ here in omega arith))) made)))
            (λ (ne : k ≢ n).
            asks_lifted k n x (slice_get plan.stages k) b c start middle after ne inside t.many (t.bits e) u.step (t.does e k x (let less : k < n = omega arith in less) there))
            (cases_eq k n);
        wired = λ le fits base bits wide own links.
            let before = t.wired inside fits base bits wide own links in
            let last = u.wired inside (fits n) base bits wide own before.linked in
            record { wires = wires_then base a b c before.wires last.wires; linked = last.linked };
      }
        where
          back : (m : Module) → Grows c m.signals → Grows b m.signals
          back m g = grows_then b c m.signals u.step.grows g

          inside : n ≤ length code.stages
          inside = let less = slice_get_within code.stages n s listed in omega arith

      -- the end: nothing is asked
      pub asks_all : (b c : List Signal) (after : Requests) (number at : ℕ) → AsksFirst globals spreads code registers caller plan a b start after (length code.stages)
          → number ≡ length code.stages → TellsStage b c registers number at → Told b c registers number at →
          AsksAllWired globals spreads code registers caller plan a c start after at
      asks_all b c after number at t is_number told told_wired = record {
        asks = record {
          grows = grows_then a b c t.grows told.grows;
          many = t.many;
          bits = λ e. ask_bits_later b c after told.grows (t.bits e);
          does = λ e k s listed.
              let less = slice_get_within code.stages k s listed in
              lifted_over k s (slice_get plan.stages k) (t.does e k s less listed);
          beyond = λ m r g o e knows none. t.still m r (back m g) o e knows none;
          done_wide = told.wide;
          done_is = λ m r g o knows.
              told.shows m r g o knows.wide (let room = knows.room in omega (arith, room, is_number)) knows.fits
              ∙ ap (λ (n : ℕ). bit_of (nat_eq (r.signal registers.stage.register) n)) is_number;
        };
        wired = λ fits base bits wide own links.
            let before = t.wired (omega arith) fits base bits wide own links in
            let room = before.linked.slots.room in
            let p = told_wired base before.linked.slots.stage (omega (arith, room, is_number)) in (
              record {
                wires = wires_then base a b c before.wires p.wires;
                linked = ask_links_after base caller.served bits wide own b c after p.wires.grows before.linked;
              },
              p.stands,
            );
      }
        where
          back : (m : Module) → Grows c m.signals → Grows b m.signals
          back m g = grows_then b c m.signals told.grows g

          lifted_over : (l : ℕ) (s : Stage) (p : Option StagePlan) → AsksAt globals spreads code registers caller l s p b start after
              → AsksAt globals spreads code registers caller l s p c start after
          lifted_over l s p made = record {
            asks = λ act next call e f m r vs g. made.asks act next call e f m r vs (back m g);
            quiet = λ k no m r g. made.quiet k no m r (back m g);
            blocks = λ u v e f m r q wire j k right g. made.blocks u v e f m r q wire j k right (back m g);
            silent = λ no m r j k g. made.silent no m r j k (back m g);
          }
