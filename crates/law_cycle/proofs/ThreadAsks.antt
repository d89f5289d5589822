-- THREAD ASKS.
use Rattle.std.specs.Prelude.{Bool, false, Option, Some, None, slice_get}
use Rattle.std.proofs.Common.{◌≡◌, ℕ, suc, ◌<◌, refl, sym, ap, ◌∙◌, subst, arith, lit<}
use Rattle.std.proofs.lemmas.Option.{slice_get_past}
use Rattle.hls_ints.specs.Residues.{residue_of, bit_of}
use Rattle.hls_ints.specs.Types.{IntegerType, width_of}
use Rattle.bank_partition.specs.declared.banks.Spread.{Spread}
use Rattle.block_ir.specs.declared.block.Block.{Block}
use Rattle.block_ir.specs.declared.code.Stage.{Stage}
use Rattle.block_ir.specs.declared.code.Stage.TheVariants as stage
use Rattle.block_ir.specs.declared.plan.BlockPlan.{BlockPlan}
use Rattle.planned_block.specs.Slot.{Slot}
use Rattle.verilog_meaning.specs.Readings.{Reading}
use Rattle.leaf_machine.specs.Leaves.{leaf_thread}
use Rattle.thread_promise.specs.Globals.{IsAddress, place_now, written_now}
use Rattle.thread_promise.specs.Promise.{BankPorts, AsksBank, is_run}
use Rattle.block_ir.specs.Asked.{Asked, core_of}
use Rattle.thread_promise.specs.Moves.{asked_in}
use Rattle.thread_promise.specs.Serving.{IsActCore}
use Rattle.law_cycle.specs.Thread.{Thread, cores, Shows, Through, IsThread, Where, InBlock, AtAct, AtRest, AtMeeting}
use Rattle.law_cycle.specs.Asks.{AsksFor, AsksAct, IsWanted, Asks}
use Rattle.law_cycle.specs.OneThread.{ThreadAsks}
use Rattle.law_cycle.proofs.ThreadMoves.{core_in_is, bank_below}
use Rattle.law_cycle.proofs.SlotStands.{inside_of, shows_of, where_on}

module _ (t : Thread) (is : IsThread t) (s r : Reading) (enabled : Bool) (granted : ℕ → Bool) (news : ℕ → ℕ → ℕ) (q : Slot) (go : Through t s enabled granted news r)
    (at : Where t r q) where
  abbrev ask : ℕ → ℕ → ℕ
  ask k j = (leaf_thread t.body t.leaf).asks enabled s k j

  shown : Shows t r q
  shown = shows_of t is r q at

  enable_is : r.signal t.ports.enable ≡ bit_of enabled
  enable_is = ap r.signal is.ports.enable ∙ go.hears.enables

  ask_is : (k j : ℕ) → k < cores t → j < t.parts k → ask k j ≡ r.signal (t.leaf.ask k j)
  ask_is k j l lt = go.asks k j l (is.ports.uses k l) lt

  bank_ask : (f : BankPorts → ℕ) (n j : ℕ) → n < t.numbers.banks → j < 4 → t.leaf.ask n j
      ≡ f (record {
        grant = t.leaf.grant n;
        word = t.leaf.told n 0;
        ask = t.leaf.ask n 0;
        writes = t.leaf.ask n 1;
        address = t.leaf.ask n 2;
        value = t.leaf.ask n 3;
      }) → ask n j ≡ r.signal (f (t.ports.bank n))
  bank_ask f n j l lt same =
      let four = is.wide.bank_asks n l in
      ask_is n j (omega arith) (omega (arith, lt, four)) ∙ ap r.signal same ∙ sym (ap (λ (z : BankPorts). r.signal (f z)) (is.ports.bank n l))

  -- ---- banks

  asks_bank : (n k x : ℕ) (writes : Bool) (b : Block) (p : BlockPlan) (sp : Spread) (ty : IntegerType) → IsWanted t enabled q ask n k x writes b p →
      slice_get t.spreads x ≡ Some sp → slice_get t.globals x ≡ Some ty → n < t.numbers.banks →
      AsksFor (ask n) enabled sp (place_now t.spreads b p q k x).index writes (residue_of (width_of ty) (written_now t.spreads b p q k))
  asks_bank n k x writes b p sp ty wanted e u l =
      let inside = inside_of t r q b p wanted.runs at in
      let asks = subst (λ z. AsksBank r t.ports.enable (t.ports.bank z) sp (place_now t.spreads b p q k x).index writes (residue_of (width_of ty) (written_now t.spreads b p q k)))
      wanted.bank (is.runs.asks r q b p go.obeys inside k x writes sp ty wanted.is_open e u) in
      record {
        raised = bank_ask (λ (z : BankPorts). z.ask) n 0 l (lit< tt) refl ∙ asks.ask ∙ enable_is;
        operation = bank_ask (λ (z : BankPorts). z.writes) n 1 l (lit< tt) refl ∙ asks.operation;
        address = subst (IsAddress sp (place_now t.spreads b p q k x).index) (sym (bank_ask (λ (z : BankPorts). z.address) n 2 l (lit< tt) refl)) asks.address;
        value = λ does. bank_ask (λ (z : BankPorts). z.value) n 3 l (lit< tt) refl ∙ asks.value does;
      }

  -- the bank of a wanted access is there
  wanted_below : (n k x : ℕ) (writes : Bool) (b : Block) (p : BlockPlan) → IsWanted t enabled q ask n k x writes b p → n < t.numbers.banks
  wanted_below n k x writes b p wanted = subst (λ z. z < t.numbers.banks) wanted.bank (bank_below t is q b p wanted.runs k x writes wanted.is_open)

  -- outside blocks no bank is asked
  unasked : (n : ℕ) → n < t.numbers.banks → is_run (slice_get t.code.stages q.stage) ≡ false → r.signal (t.ports.bank n).ask ≡ 0
  unasked n l off = is.runs.asks_outside r q n go.obeys shown off (subst (λ z. n < z) (sym is.spread.total) l)

  none_of : (n : ℕ) → n < t.numbers.banks → ((k x : ℕ) (writes : Bool) (b : Block) (p : BlockPlan) → IsWanted t enabled q ask n k x writes b p → ⊥) → Where t r q →
      r.signal (t.ports.bank n).ask ≡ 0
  none_of n l none (InBlock b p inside) =
      is.runs.asks_none r q b p n go.obeys inside (subst (λ z. n < z) (sym is.spread.total) l)
      (λ k x writes o same. none k x writes b p (record { runs = inside.runs; inside = inside.state; is_open = o; bank = same }))
  none_of n l none (AtAct a next listed state s) = unasked n l (ap is_run listed)
  none_of n l none (AtRest past state s) = unasked n l (ap is_run (slice_get_past t.code.stages q.stage (omega arith)))
  none_of n l none (AtMeeting m next o past listed below state s) = unasked n l (ap is_run (slice_get_past t.code.stages q.stage (omega arith)))

  -- ---- cores of acts

  abbrev asks_now : Option Asked
  asks_now = asked_in t.main (slice_get t.code.stages q.stage) q.variables

  core_ask : (k : ℕ) → IsActCore t.numbers k → ask k 0 ≡ r.signal (t.ports.core k).ask
  core_ask k a = let two = is.wide.core_asks k a in ask_is k 0 a.1 (omega (arith, two)) ∙ ap r.signal (sym (is.ports.core k a).ask)

  -- only an act asks
  in_act : (a : Asked) (o : Option Stage) → slice_get t.code.stages q.stage ≡ o → asks_now ≡ Some a → asked_in t.main o q.variables ≡ Some a
  in_act a o e asks = ap (λ (z : Option Stage). asked_in t.main z q.variables) (sym e) ∙ asks

  asks_core : (k : ℕ) (a : Asked) → asks_now ≡ Some a → core_of t.numbers a ≡ Some k → Where t r q → AsksAct (ask k) enabled (t.parts k) a
  asks_core k a asks core (InBlock b p inside) = absurd (let e = in_act a (Some (stage.Run b)) inside.runs.listed asks in cc)
  asks_core k a asks core (AtAct c next listed state s) =
      let on = core_in_is t.numbers a.service a.core k core in
      let two = is.wide.core_asks k on in
      let acts = (is.runs.acts r q c next k a go.obeys s state listed asks core).0 in
      record {
        raised = core_ask k on ∙ acts.ask ∙ enable_is;
        number = ask_is k 1 on.1 two ∙ ap r.signal (sym (is.ports.core k on).number) ∙ acts.number;
        values = λ j w e lt. ask_is k (suc (suc j)) on.1 lt ∙ ap r.signal (sym ((is.ports.core k on).value j lt)) ∙ acts.values j w e;
      }
  asks_core k a asks core (AtRest past state s) = absurd (let e = in_act a None (slice_get_past t.code.stages q.stage (omega arith)) asks in cc)
  asks_core k a asks core (AtMeeting m next o past listed below state s) = absurd (let e = in_act a None (slice_get_past t.code.stages q.stage (omega arith)) asks in cc)

  pub asks_all : Asks t enabled q ask
  asks_all = record {
    bank = λ n k x writes b p sp ty wanted e u. asks_bank n k x writes b p sp ty wanted e u (wanted_below n k x writes b p wanted);
    no_bank = λ n l none. bank_ask (λ (z : BankPorts). z.ask) n 0 l (lit< tt) refl ∙ none_of n l none at;
    core = λ k a asks core. asks_core k a asks core at;
    no_core = λ k on other. core_ask k on ∙ is.runs.asks_alone r q k go.obeys shown on other;
  }

pub thread_asks : ThreadAsks
thread_asks t s r enabled granted news q is go stands = asks_all t is s r enabled granted news q go (where_on t is s r q go.shown stands.at)
