-- What is asked at an act and past the last stage: no bank, and of the cores that acts ask those of one kind at most.
use Rattle.std.proofs.Common.{◌≡◌, ℕ, ◌+◌, ◌<◌, ◌≤◌, Bool, true, false, List, [], ◌∷◌, length, slice_get, slice_index, Option, Some, None, refl, sym, ap, subst, ◌∙◌, arith, ⊎_elim}
use Rattle.std.proofs.lemmas.Bool.{cases_lt}
use Rattle.lists.proofs.Places.{get_there}
use Rattle.hls_ints.specs.Residues.{bit_of}
use Rattle.block_ir.specs.Asked.{Request as Call, request_of, Asked, asked_at, asked_with, value_of, operand_words, first_word, core_in}
use Rattle.block_ir.specs.declared.service.Service.{Service}
use Rattle.block_ir.specs.declared.service.Service.TheVariants.{Mutex, Barrier, ThreadIds, Printer}
use Rattle.block_ir.specs.declared.code.Act.TheVariants as act
use Rattle.block_ir.specs.declared.code.ActOperand.{ActOperand}
use Rattle.thread_promise.specs.Moves.{asked_in, core_asked}
use Rattle.block_ir.specs.declared.code.Act.{Act}
use Rattle.block_ir.specs.declared.code.Stage.{Stage}
use Rattle.block_ir.specs.declared.code.Stage.TheVariants as stage
use Rattle.block_ir.specs.declared.code.ThreadCode.{ThreadCode}
use Rattle.block_ir.specs.declared.plan.Planned.{Planned}
use Rattle.planned_block.specs.Slot.{Slot}
use Rattle.netlist.specs.declared.netlist.Module.{Module}
use Rattle.verilog_meaning.specs.Readings.{Reading}
use Rattle.circuit.specs.Modules.{Obeys}
use Rattle.operator_wires.specs.Gives.{Grows}
use Rattle.operator_wires.proofs.PutSignals.{grows_then}
use Rattle.thread_promise.specs.Globals.{bank_total}
use Rattle.thread_promise.specs.Promise.{is_run}
use Rattle.block_datapath.specs.Requests.{Asked as BankAsked, asked_at as bank_asked_at, nothing_asked}
use Rattle.thread_slots.specs.declared.shape.Shape.{Shape}
use Rattle.thread_slots.specs.Requests.{group}
use Rattle.thread_slots.specs.Services.{number_width}
use Rattle.thread_asks.specs.Asking.{call_of, same_service, is_for, is_asked, object_of, values_of, ShowsCall}
use Rattle.thread_asks.proofs.Asks.{decide, same_self}
use Rattle.thread_slots.specs.Bits.{HasBit}
use Rattle.thread_layout.specs.Modules.{IsModule}
use Rattle.thread_layout.specs.Thread.{numbers_of, is_core, IsServed}
use Rattle.block_datapath.specs.declared.requests.BankRequests.{BankRequests}
use Rattle.thread_slots.specs.declared.requests.Request.{Request}
use Rattle.thread_requests.specs.Early.{act_count, act_open, with_banks}
use Rattle.thread_requests.proofs.AllAsks.{group_kept}
use Rattle.thread_layout.proofs.Cores.{none_open, asked_open}
use Rattle.thread_layout.proofs.Opened.{want_wide, ask_wide, acts_by, start_many, start_less}
use Rattle.thread_layout.proofs.RaisedAsks.{from_whole, none_wanted}
use Rattle.thread_layout.proofs.Shown.{Shows}
use Rattle.thread_layout.proofs.Sight.{asks_so, knows, stage_shown, sees_variables}

none_past : {X : Type 0} (xs : List X) (k : ℕ) → slice_get xs k ≡ None → length xs ≤ k
none_past xs k e = ⊎_elim (λ (less : k < length xs). let found = get_there xs k less in let h = found.1 in absurd cc) (λ le. le) (cases_lt k (length xs))

-- ---- objects

abbrev IsOfObject : Service → Type 0
IsOfObject Mutex = Unit {0}
IsOfObject Barrier = Unit {0}
IsOfObject ThreadIds = ⊥
IsOfObject Printer = ⊥

-- a request at an object names one
abbrev NamesOne : Service → List ActOperand → Type 0
NamesOne Mutex [] = ⊥
NamesOne Barrier [] = ⊥
NamesOne _ os = Unit {0}

names_one : (main : Bool) (a : Act) (call : Call) → request_of main a ≡ Some call → NamesOne call.service call.operands
names_one main (act.Print site values) call e = let same : call_of Printer site values ≡ call = cc in subst (λ (c : Call). NamesOne c.service c.operands) same (of_printer values)
  where
    of_printer : (os : List ActOperand) → NamesOne Printer os
    of_printer [] = tt
    of_printer (o ∷ os) = tt
names_one main (act.Create thread argument) call e =
    let same : call_of ThreadIds 0 (thread ∷ argument ∷ []) ≡ call = cc in subst (λ (c : Call). NamesOne c.service c.operands) same tt
names_one main (act.Join thread) call e = let same : call_of ThreadIds 1 (thread ∷ []) ≡ call = cc in subst (λ (c : Call). NamesOne c.service c.operands) same tt
names_one main (act.MutexInit mutex) call e = let same : call_of Mutex 0 (mutex ∷ []) ≡ call = cc in subst (λ (c : Call). NamesOne c.service c.operands) same tt
names_one main (act.MutexLock mutex) call e = let same : call_of Mutex 1 (mutex ∷ []) ≡ call = cc in subst (λ (c : Call). NamesOne c.service c.operands) same tt
names_one main (act.MutexUnlock mutex) call e = let same : call_of Mutex 2 (mutex ∷ []) ≡ call = cc in subst (λ (c : Call). NamesOne c.service c.operands) same tt
names_one main (act.MutexDestroy mutex) call e = let same : call_of Mutex 3 (mutex ∷ []) ≡ call = cc in subst (λ (c : Call). NamesOne c.service c.operands) same tt
names_one main (act.BarrierInit barrier count) call e =
    let same : call_of Barrier 0 (barrier ∷ count ∷ []) ≡ call = cc in subst (λ (c : Call). NamesOne c.service c.operands) same tt
names_one main (act.BarrierWait barrier) call e = let same : call_of Barrier 1 (barrier ∷ []) ≡ call = cc in subst (λ (c : Call). NamesOne c.service c.operands) same tt
names_one main (act.BarrierDestroy barrier) call e = let same : call_of Barrier 2 (barrier ∷ []) ≡ call = cc in subst (λ (c : Call). NamesOne c.service c.operands) same tt
names_one true act.Return call e = absurd cc
names_one false act.Return call e = let same : call_of ThreadIds 2 [] ≡ call = cc in subst (λ (c : Call). NamesOne c.service c.operands) same tt

pub service_kept : (s : Service) (number : ℕ) (ws : List ℕ) → (asked_with s number ws).service ≡ s
service_kept Mutex number ws = refl
service_kept Barrier number ws = refl
service_kept ThreadIds number ws = refl
service_kept Printer number ws = refl

module _ (shape : Shape) (code : ThreadCode) (plan : Planned) (m : Module) (t : IsModule shape code plan m) (served : IsServed shape code plan) where
  abbrev banks : ℕ
  banks = bank_total shape.spreads

  pub from_start : Grows t.laid.early.asked.with_start m.signals
  from_start = grows_then t.laid.early.asked.with_start t.laid.early.asked.with_whole m.signals t.laid.early.asked.asks.grows (from_whole shape code plan m t served)

  module _ (r : Reading) (q : Slot) (o : Obeys m r) (shows : Shows shape code plan m t served r q) where
    abbrev whole : BankRequests
    whole = t.laid.early.asked.whole

    nothing : (x : ℕ) → x < length shape.globals → bank_asked_at r t.laid.early.asked.start.banks x ≡ nothing_asked
    nothing x less = t.laid.early.asked.begins.nothing m r x from_start o (start_less shape code plan m t served x less)

    silent : (k : Service) → r.signal (group t.laid.early.asked.start k).wants ≡ 0
    silent k = t.laid.early.asked.begins.silent k m r from_start o

    kept : (k : Service) → group (with_banks t.inside.early.requests whole) k ≡ group t.inside.early.requests k
    kept k = group_kept t.inside.early.requests whole k

    -- past the last stage the same is asked as at the start
    past : (l : ℕ) → length code.stages ≤ q.stage → l < length code.stages → r.signal t.inside.slot.stage.register ≡ l → ⊥
    past l le less is = absurd (let same : q.stage ≡ l = sym (stage_shown shape code plan m t served r o q shows) ∙ is in omega arith)

    global_silent : (s : Option Stage) → slice_get code.stages q.stage ≡ s → is_run s ≡ false → (x : ℕ) → x < length shape.globals → bank_asked_at r whole x ≡ nothing_asked
    global_silent None e not_so x less =
        let le = none_past code.stages q.stage e in
        (t.laid.early.asked.asks.beyond m r (from_whole shape code plan m t served) o t.laid.early.asked.begins.bits (knows shape code plan m t served r o)
        (λ k below is. past k le below is)).banks x (length shape.globals) (start_many shape code plan m t served) less
        ∙ nothing x less
    global_silent (Some s) e not_so x less =
        (asks_so shape code plan m t served q.stage s e).silent not_so m r x (length shape.globals) (from_whole shape code plan m t served) o
        (knows shape code plan m t served r o)
        (stage_shown shape code plan m t served r o q shows) (start_many shape code plan m t served) less
        ∙ nothing x less

    pub bank_bit : is_run (slice_get code.stages q.stage) ≡ false → (n : ℕ) → n < banks → HasBit m r (slice_index t.inside.early.requests.banks.wants n) false
    bank_bit not_so n less = record {
      wide = want_wide shape code plan m t served n less;
      shows = none_wanted shape code plan m t served r o (λ x within. ap (λ (a : BankAsked). a.wants) (global_silent (slice_get code.stages q.stage) refl not_so x within)) n less;
    }

    -- a stage that does not ask cores of this kind
    unasked : (s : Stage) (k : Service) → slice_get code.stages q.stage ≡ Some s → is_asked shape.is_main (Some s) k ≡ false → r.signal (group t.inside.early.requests k).wants ≡ 0
    unasked s k e off =
        ap (λ (c : Request). r.signal c.wants) (sym (kept k))
        ∙ (asks_so shape code plan m t served q.stage s e).quiet k off m r (from_whole shape code plan m t served) o (knows shape code plan m t served r o)
        (stage_shown shape code plan m t served r o q shows) (silent k)

    -- an act that asks
    module _ (a : Act) (next : ℕ) (call : Call) (listed : slice_get code.stages q.stage ≡ Some (stage.Act a next)) (is_call : request_of shape.is_main a ≡ Some call) where
      pub called : ShowsCall code t.inside.slot (number_width shape.served call.service) call.number (object_of call.service call.operands) (values_of call.service call.operands) r
          q.variables (length (group t.laid.early.asked.start call.service).fields) (group t.inside.early.requests call.service)
      called =
          subst
          (λ (c : Request). ShowsCall code t.inside.slot (number_width shape.served call.service) call.number (object_of call.service call.operands)
          (values_of call.service call.operands) r q.variables (length (group t.laid.early.asked.start call.service).fields) c) (kept call.service)
          ((asks_so shape code plan m t served q.stage (stage.Act a next) listed).asks a next call refl is_call m r q.variables
          (from_whole shape code plan m t served) o (knows shape code plan m t served r o) (stage_shown shape code plan m t served r o q shows) (silent call.service)
          (sees_variables shape code plan m t served r o q shows))

    -- whether cores of this kind are asked
    pub service_shown : (k : Service) → r.signal (group t.inside.early.requests k).wants ≡ bit_of (is_asked shape.is_main (slice_get code.stages q.stage) k)
    service_shown k = by (slice_get code.stages q.stage) refl
      where
        by_call : (a : Act) (next : ℕ) (call : Option Call) → slice_get code.stages q.stage ≡ Some (stage.Act a next) → request_of shape.is_main a ≡ call
            → r.signal (group t.inside.early.requests k).wants ≡ bit_of (is_for k call)
        by_call a next None e f = unasked (stage.Act a next) k e (ap (is_for k) f)
        by_call a next (Some call) e f =
            decide (λ i. r.signal (group t.inside.early.requests i).wants ≡ bit_of (same_service call.service i)) call.service
            ((called a next call e f).wants ∙ ap bit_of (sym (same_self call.service)))
            (λ i no. unasked (stage.Act a next) i e (ap (is_for i) f ∙ no) ∙ ap bit_of (sym no)) k

        by : (s : Option Stage) → slice_get code.stages q.stage ≡ s → r.signal (group t.inside.early.requests k).wants ≡ bit_of (is_asked shape.is_main s k)
        by None e =
            let le = none_past code.stages q.stage e in
            ap (λ (c : Request). r.signal c.wants) (sym (kept k))
            ∙ ((t.laid.early.asked.asks.beyond m r (from_whole shape code plan m t served) o t.laid.early.asked.begins.bits (knows shape code plan m t served r o)
            (λ l below is. past l le below is)).requests k).wants false (silent k)
        by (Some (stage.Run b)) e = unasked (stage.Run b) k e refl
        by (Some (stage.Act a next)) e = by_call a next (request_of shape.is_main a) e refl

    pub service_bit : (k : Service) → HasBit m r (group t.inside.early.requests k).wants (is_asked shape.is_main (slice_get code.stages q.stage) k)
    service_bit k = record { wide = ask_wide shape code plan m t served k; shows = service_shown k }

    -- within a block none of them is
    pub block_bit : is_run (slice_get code.stages q.stage) ≡ true → (k : Service) → HasBit m r (group t.inside.early.requests k).wants false
    block_bit run k = subst (λ b. HasBit m r (group t.inside.early.requests k).wants b) (no_call (slice_get code.stages q.stage) run) (service_bit k)
      where
        no_call : (s : Option Stage) → is_run s ≡ true → is_asked shape.is_main s k ≡ false
        no_call None e = absurd cc
        no_call (Some (stage.Run b)) e = refl
        no_call (Some (stage.Act a next)) e = absurd cc

    -- ---- which core is asked

    -- what the stage asks, and which core that is
    abbrev pub ask_now : Option Asked
    ask_now = asked_in shape.is_main (slice_get code.stages q.stage) q.variables

    abbrev pub target : Option ℕ
    target = core_asked (numbers_of shape) ask_now

    abbrev pub asks_kind : Service → Bool
    asks_kind s = is_asked shape.is_main (slice_get code.stages q.stage) s

    -- the object is the one that the request names
    object_is : (a : Act) (next : ℕ) (call : Call) (listed : slice_get code.stages q.stage ≡ Some (stage.Act a next)) (is_call : request_of shape.is_main a ≡ Some call)
        (s : Service) (os : List ActOperand) → call.service ≡ s → call.operands ≡ os → NamesOne s os → IsOfObject s
        → r.signal (group t.inside.early.requests s).object ≡ first_word (operand_words q.variables os)
    object_is a next call listed is_call s [] e f named of = absurd (no_object s named of)
      where
        no_object : (k : Service) → NamesOne k [] → IsOfObject k → ⊥
        no_object Mutex n i = n
        no_object Barrier n i = n
        no_object ThreadIds n i = i
        no_object Printer n i = i
    object_is a next call listed is_call s (v ∷ os) e f named of =
        let shown = called a next call listed is_call in
        let typed = served.typed q.stage a next call listed is_call 0 v (ap (λ l. slice_get l 0) f) in
        let names : object_of call.service call.operands ≡ Some v = ap (λ k. object_of k call.operands) e ∙ ap (object_of s) f ∙ first_of_objects s of in
        ap (λ k. r.signal (group t.inside.early.requests k).object) (sym e) ∙ shown.object_is v names typed
      where
        first_of_objects : (k : Service) → IsOfObject k → object_of k (v ∷ os) ≡ Some v
        first_of_objects Mutex i = refl
        first_of_objects Barrier i = refl
        first_of_objects ThreadIds i = absurd i
        first_of_objects Printer i = absurd i

    abbrev object : Service → ℕ
    object s = r.signal (group t.inside.early.requests s).object

    abbrev OpenAsAsked : ℕ → Option Stage → Type 0
    OpenAsAsked k s = act_open shape.served (is_asked shape.is_main s) object k ≡ is_core (core_asked (numbers_of shape) (asked_in shape.is_main s q.variables)) (banks + k)

    -- CORE k of those that acts ask is open as it is the one that is asked
    pub raises : (k : ℕ) → k < act_count shape.served → acts_by shape code plan m t served r asks_kind k ≡ is_core target (banks + k)
    raises k less = by (slice_get code.stages q.stage) refl
      where
        by_call : (a : Act) (next : ℕ) (call : Option Call) → slice_get code.stages q.stage ≡ Some (stage.Act a next) → request_of shape.is_main a ≡ call
            → act_open shape.served (λ s. is_for s call) object k ≡ is_core (core_asked (numbers_of shape) (asked_at q.variables call)) (banks + k)
        by_call a next None e f = none_open shape.served object k
        by_call a next (Some call) e f =
            let named = names_one shape.is_main a call f in
            asked_open banks shape.served object k (value_of q.variables call).core less call.service
            (λ is. object_is a next call e f Mutex call.operands is refl (subst (λ s. NamesOne s call.operands) is named) tt
            ∙ sym (ap (λ s. (asked_with s call.number (operand_words q.variables call.operands)).core) is))
            (λ is. object_is a next call e f Barrier call.operands is refl (subst (λ s. NamesOne s call.operands) is named) tt
            ∙ sym (ap (λ s. (asked_with s call.number (operand_words q.variables call.operands)).core) is))
            ∙ ap (λ s. is_core (core_in (numbers_of shape) s (value_of q.variables call).core) (banks + k)) (sym (service_kept call.service call.number
            (operand_words q.variables call.operands)))

        by : (s : Option Stage) → slice_get code.stages q.stage ≡ s → OpenAsAsked k s
        by None e = none_open shape.served object k
        by (Some (stage.Run b)) e = none_open shape.served object k
        by (Some (stage.Act a next)) e =
            by_call a next (request_of shape.is_main a) e refl
