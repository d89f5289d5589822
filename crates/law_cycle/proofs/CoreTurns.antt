-- EACH TURNS: what a cycle does to each core, in the theory's words; and that what it tells then fits.
use Rattle.std.specs.Prelude.{Bool, true, ◌&&◌, nat_eq, nat_lt, if◌then◌else◌, ◌++◌, Option, Some, None, slice_get}
use Rattle.std.proofs.Common.{◌≡◌, ℕ, suc, ◌<◌, ◌≤◌, List, [], length, refl, sym, ap, ◌∙◌, subst, arith}
use Rattle.std.proofs.lemmas.Bool.Decides.{nat_tests}
use Rattle.std.proofs.lemmas.List.{append-nil, length-map}
use Rattle.std.proofs.lemmas.Option.{slice_get_within, cond_some}
use Rattle.std.proofs.lemmas.Bool.{ltb-true}
use Rattle.hls_ints.specs.Residues.{residue_of}
use Rattle.c_program.specs.Tree.{Program}
use Rattle.block_ir.specs.declared.code.Act.{Act}
use Rattle.block_ir.specs.declared.code.Act.TheVariants as act
use Rattle.block_ir.specs.declared.code.ActOperand.{ActOperand}
use Rattle.block_ir.specs.declared.code.Stage.TheVariants as stage
use Rattle.block_ir.specs.Asked.{act_value, Asked, asked, core_in, core_of, first_word, second_word}
use Rattle.block_ir.specs.declared.service.Service.{Service}
use Rattle.block_ir.specs.declared.service.Service.TheVariants.{Mutex, Barrier, ThreadIds, Printer}
use Rattle.block_ir.specs.Asked.{mutex_core, barrier_core, thread_ids_core, printer_core}
use Rattle.block_refine.specs.Routines.{stage_at}
use Rattle.code_following.specs.Following.{print_formats}
use Rattle.planned_block.proofs.Bits.{both_true}
use Rattle.verilog_meaning.specs.Cycles.{Choice}
use Rattle.circuit.specs.Rows.{spread}
use Rattle.mutex_cores.specs.declared.mutex.Shape.{Shape as MutexShape}
use Rattle.printer_cores.specs.declared.printer.Shape.{Shape as PrinterShape}
use Rattle.circuit.specs.Machines.{after_grant, printed}
use Rattle.printer_cores.specs.Machine.{bytes_of_site}
use Rattle.law_threads.specs.Cores.{Core, may_grant, granted, text_at}
use Rattle.core_family.specs.Family.{CoreKind, Mutex, Barrier, ThreadIds, Printer, machine_of}
use Rattle.core_family.specs.Laws.{FitsState}
use Rattle.core_family.proofs.ToldFits.{each_keeps_fitting}
use Rattle.law_banks.specs.Laws.{owner_of}
use Rattle.law_banks.proofs.Partitioned.{there}
use Rattle.law_cycle.specs.Asks.{AsksAct}
use Rattle.law_cycle.specs.Built.{Parts, IsBuilt}
use Rattle.law_cycle.specs.Bodies.{numbers_of, core_at, core_machine, core_count}
use Rattle.law_cycle.specs.Stage.{Stage, FitsTold, shown_as, cores_shown, winner, asks_of, next_net, printed_now}
use Rattle.law_cycle.specs.Laws.{WinsBank, WinsCore, Wins, CoreTurn, Stays, Given, EachTurns}
use Rattle.core_family.proofs.Listed.{bank_at, mutex_at, barrier_at, thread_ids_at, printer_at, Which, IsBank, IsMutex, IsBarrier, IsThreadIds, IsPrinter, IsPast, which}
use Rattle.law_cycle.proofs.Steps.{asks_fit}
use Rattle.law_cycle.proofs.Granted.{won_by, a_core, who_wins}
use Rattle.law_cycle.proofs.HandedOver.{HandsOver, hands_over}
use Rattle.law_cycle.proofs.Printed.{site_prints}
use Rattle.law_cycle.proofs.Grants.{MayAlike, DoesAlike, mutex_may, mutex_does, barrier_may, barrier_does, thread_ids_may, thread_ids_do}
use Rattle.law_cycle.proofs.Grants.{printer_may, printer_does, printer_prints, shown_whatever, bank_shows}

module _ (P : Program) (K : Parts) (built : IsBuilt P K) (c : Choice) (h : Stage P K) where
  abbrev next_out : List ℕ
  next_out = h.out ++ printed_now P K c h.net

  abbrev before : ℕ → Core
  before = cores_shown P K h.net h.out

  abbrev after : ℕ → Core
  after = cores_shown P K (next_net P K c h.net) next_out

  abbrev barrier : CoreKind
  barrier = Barrier (record { threads = K.cores.threads })

  abbrev thread_ids : CoreKind
  thread_ids = ThreadIds (record { threads = K.cores.threads })

  -- by thread what it asks of core k
  abbrev all_asks : (k : ℕ) → ℕ → (core_machine K.cores k).Ask
  all_asks k i = (core_machine K.cores k).ask_of (λ j. asks_of P K c h.net i k j)

  -- ---- what is printed

  abbrev PrintsAs : ℕ → Type 0
  PrintsAs k = (o : Option ℕ) → winner P K c h.net k ≡ o → printed_now P K c h.net ≡ printed (core_machine K.cores k) (h.net.states k) (all_asks k) o

  printed_last : PrintsAs (printer_core (numbers_of K.cores))
  printed_last o e =
      let k = printer_core (numbers_of K.cores) in
      let last : nat_lt k (core_count K.cores) ≡ true = grind (arith, nat_tests) in
      ap (λ (b : Bool). if b then printed (core_machine K.cores k) (h.net.states k) (all_asks k) (winner P K c h.net k) else []) last
      ∙ ap (λ (z : Option ℕ). printed (core_machine K.cores k) (h.net.states k) (all_asks k) z) e

  printed_at : (k : ℕ) → k ≡ printer_core (numbers_of K.cores) → PrintsAs k
  printed_at k at = subst PrintsAs (sym at) printed_last

  -- ---- where nobody is granted a core stays

  same_out : (k : ℕ) → winner P K c h.net k ≡ None → Which K.cores k → (s : PrinterShape) → core_at K.cores k ≡ Some (Printer s) → h.out ≡ next_out
  same_out k none (IsBank b listed core) s e = absurd (let z = sym core ∙ e in cc)
  same_out k none (IsMutex n m listed at core) s e = absurd (let z = sym core ∙ e in cc)
  same_out k none (IsBarrier n below at core) s e = absurd (let z = sym core ∙ e in cc)
  same_out k none (IsThreadIds on at core) s e = absurd (let z = sym core ∙ e in cc)
  same_out k none (IsPrinter at core) s e = sym (ap (λ (t : List ℕ). h.out ++ t) (printed_at k at None none) ∙ append-nil h.out)
  same_out k none (IsPast past core) s e = absurd (let z = sym core ∙ e in cc)

  -- what a core shows after the cycle, by who is granted
  shown_after : (k : ℕ) (o : Option ℕ) → winner P K c h.net k ≡ o → after k ≡ shown_as (core_at K.cores k) (after_grant (core_machine K.cores k) (h.net.states k) (all_asks k) o) next_out
  shown_after k o e = ap (λ (z : Option ℕ). shown_as (core_at K.cores k) (after_grant (core_machine K.cores k) (h.net.states k) (all_asks k) z) next_out) e

  pub stays : (k : ℕ) → winner P K c h.net k ≡ None → after k ≡ before k
  stays k e = shown_after k None e ∙ sym (shown_whatever (core_at K.cores k) (h.net.states k) h.out next_out (same_out k e (which K.cores k)))

  -- a bank shows nothing
  pub bank_stays : (k : ℕ) → k < length K.cores.banks → after k ≡ before k
  bank_stays k l =
      let b = there K.cores.banks k l in
      bank_shows (core_at K.cores k) b.0 (bank_at K.cores k b.0 b.1) ((next_net P K c h.net).states k) next_out
      ∙ sym (bank_shows (core_at K.cores k) b.0 (bank_at K.cores k b.0 b.1) (h.net.states k) h.out)

  -- ---- where an act asks a core

  module _ (k i : ℕ) (a : Act) (next : ℕ) (asks : Asked) (listed : stage_at K.codes (h.slots i).routine (h.slots i).stage ≡ Some (stage.Act a next))
      (is : asked (nat_eq i 0) a (h.slots i).variables ≡ Some asks) (names : core_of (numbers_of K.cores) asks ≡ Some k)
      (hands : AsksAct (asks_of P K c h.net i k) true (core_machine K.cores k).parts asks) where
    abbrev f : ℕ → ℕ
    f j = asks_of P K c h.net i k j

    over : HandsOver a (h.slots i).variables asks
    over = hands_over (nat_eq i 0) a (h.slots i).variables asks is

    -- a word that is handed over
    word_is : (s : CoreKind) → core_at K.cores k ≡ Some s → (j w : ℕ) → slice_get asks.values j ≡ Some w → suc (suc j) < (machine_of (Some s)).parts → f (suc (suc j)) ≡ w
    word_is s core j w at l = hands.values j w at (subst (λ (o : Option CoreKind). suc (suc j) < (machine_of o).parts) (sym core) l)

    -- which core it is, and what that uses of the words
    pub data AsksCore : Type 0 where
      ToMutex : (m : MutexShape) (core : core_at K.cores k ≡ Some (Mutex m)) → AsksCore
      ToBarrier : (core : core_at K.cores k ≡ Some barrier) (count : asks.number ≡ 0 → f 2 ≡ first_word asks.values) → AsksCore
      ToThreadIds : (core : core_at K.cores k ≡ Some thread_ids) (created : asks.number ≡ 0 → (f 2 ≡ first_word asks.values) × (f 3 ≡ second_word asks.values))
          (joined : asks.number ≡ 1 → f 2 ≡ first_word asks.values) → AsksCore
      ToPrinter : (service : asks.service ≡ Printer) (at : printer_core (numbers_of K.cores) ≡ k) (core : core_at K.cores k ≡ Some (Printer K.cores.printer)) → AsksCore

    to_barrier : asks.service ≡ Barrier → core_at K.cores k ≡ Some barrier → AsksCore
    to_barrier service core =
        ToBarrier core
        (λ zero.
        let v = over.count service zero in
        word_is barrier core 0 v.0 (ap (λ (ws : List ℕ). slice_get ws 0) v.2) (omega arith) ∙ sym (ap first_word v.2))

    to_thread_ids : asks.service ≡ ThreadIds → core_at K.cores k ≡ Some thread_ids → AsksCore
    to_thread_ids service core =
        ToThreadIds core
        (λ zero.
        let v = over.created service zero in (
          word_is thread_ids core 0 v.0 (ap (λ (ws : List ℕ). slice_get ws 0) v.3) (omega arith) ∙ sym (ap first_word v.3),
          word_is thread_ids core 1 v.1 (ap (λ (ws : List ℕ). slice_get ws 1) v.3) (omega arith) ∙ sym (ap second_word v.3),
        ))
        (λ one.
        let v = over.joined service one in
        word_is thread_ids core 0 v.0 (ap (λ (ws : List ℕ). slice_get ws 0) v.2) (omega arith) ∙ sym (ap first_word v.2))

    asks_core : (s : Service) → asks.service ≡ s → core_in (numbers_of K.cores) s asks.core ≡ Some k → AsksCore
    asks_core Mutex service at =
        let u = cond_some (nat_lt asks.core (length K.cores.mutexes)) (mutex_core (numbers_of K.cores) asks.core) k at in
        let m = there K.cores.mutexes asks.core (ltb-true asks.core (length K.cores.mutexes) u.0) in
        ToMutex m.0 (ap (core_at K.cores) (sym u.1) ∙ mutex_at K.cores asks.core m.0 m.1)
    asks_core Barrier service at =
        let u = cond_some (nat_lt asks.core K.cores.barriers) (barrier_core (numbers_of K.cores) asks.core) k at in
        to_barrier service (ap (core_at K.cores) (sym u.1) ∙ barrier_at K.cores asks.core (ltb-true asks.core K.cores.barriers u.0))
    asks_core ThreadIds service at = let u = cond_some K.cores.thread_ids (thread_ids_core (numbers_of K.cores)) k at in to_thread_ids service (ap (core_at K.cores) (sym u.1) ∙ thread_ids_at K.cores u.0)
    asks_core Printer service at =
        let same : printer_core (numbers_of K.cores) ≡ k = cc in ToPrinter service same (ap (core_at K.cores) (sym same) ∙ printer_at K.cores)

    core_asked : AsksCore
    core_asked = asks_core asks.service refl names

    may_alike : AsksCore → MayAlike (core_at K.cores k) (h.net.states k) h.out i f asks
    may_alike (ToMutex m core) = mutex_may (core_at K.cores k) m core (h.net.states k) h.out i f asks hands.number
    may_alike (ToBarrier core count) = barrier_may (core_at K.cores k) (record { threads = K.cores.threads }) core (h.net.states k) h.out i f asks hands.number
    may_alike (ToThreadIds core created joined) = thread_ids_may (core_at K.cores k) (record { threads = K.cores.threads }) core (h.net.states k) h.out i f asks hands.number created joined
    may_alike (ToPrinter service at core) = printer_may (core_at K.cores k) K.cores.printer core (h.net.states k) h.out i f asks

    -- it is eligible exactly where it may be granted
    pub act_may : (core_machine K.cores k).eligible (h.net.states k) i ((core_machine K.cores k).ask_of f) ≡ (nat_lt 0 (f 0) && may_grant (before k) i asks)
    act_may = may_alike core_asked

    -- ---- and is granted it

    module _ (e : winner P K c h.net k ≡ Some i) where
      prints_text : asks.service ≡ Printer → printer_core (numbers_of K.cores) ≡ k → core_at K.cores k ≡ Some (Printer K.cores.printer) →
          next_out ≡ h.out ++ text_at (slice_get (print_formats P) asks.number) asks.values
      prints_text service at core =
          let v = over.printed service in
          let code = built.codes (h.slots i).routine in
          let here : stage_at K.codes (h.slots i).routine (h.slots i).stage ≡ Some (stage.Act (act.Print v.0 v.1) next) =
          listed ∙ ap (λ (z : Act). Some (stage.Act z next)) v.2 in
          let long : length asks.values ≡ length v.1 = ap length v.4 ∙ length-map v.1 (λ (o : ActOperand). residue_of 64 (act_value (h.slots i).variables o)) in
          let few : length asks.values ≤ K.cores.printer.values = (let le = code.few (h.slots i).stage v.0 next v.1 here in omega (arith, le, long)) in
          ap (λ (t : List ℕ). h.out ++ t)
          (printed_at k (sym at) (Some i) e ∙ printer_prints (core_at K.cores k) K.cores.printer core (h.net.states k) i f
          ∙ ap (λ n. bytes_of_site (slice_get K.cores.printer.sites n) (spread (λ j. f (suc (suc j))) 0 K.cores.printer.values)) hands.number
          ∙ site_prints P K.cores.printer.sites asks.number K.cores.printer.values asks.values (λ j. f (suc (suc j))) built.printer.sites few
          (λ format found. long ∙ code.prints (h.slots i).stage v.0 next v.1 format here (ap (slice_get (print_formats P)) (sym v.3) ∙ found))
          (λ j w at_j. word_is (Printer K.cores.printer) core j w at_j (let l = slice_get_within asks.values j w at_j in omega (arith, l, few))))

      does_alike : AsksCore → DoesAlike K.cores.threads (print_formats P) (core_at K.cores k) (h.net.states k) h.out next_out i f asks
      does_alike (ToMutex m core) = mutex_does K.cores.threads (print_formats P) (core_at K.cores k) m core (h.net.states k) h.out next_out i f asks hands.number
      does_alike (ToBarrier core count) =
          barrier_does K.cores.threads (print_formats P) (core_at K.cores k) (record { threads = K.cores.threads }) core refl (h.net.states k) h.out next_out i f asks hands.number count
      does_alike (ToThreadIds core created joined) =
          thread_ids_do K.cores.threads (print_formats P) (core_at K.cores k) (record { threads = K.cores.threads }) core (h.net.states k) h.out next_out i f asks hands.number created joined
      does_alike (ToPrinter service at core) =
          printer_does K.cores.threads (print_formats P) (core_at K.cores k) K.cores.printer core (h.net.states k) h.out next_out i f asks (prints_text service at core)

      pub act_granted : (may_grant (before k) i asks ≡ true) × (after k ≡ granted K.cores.threads (print_formats P) (before k) i asks)
      act_granted = (
        (both_true (nat_lt 0 (f 0)) (may_grant (before k) i asks) (sym act_may ∙ (won_by P K built c h k i e).1)).1,
        shown_after k (Some i) e ∙ does_alike core_asked,
      )

  -- ---- each core

  turn_of : (k : ℕ) (o : Option ℕ) → winner P K c h.net k ≡ o → CoreTurn P K before after (λ n. owner_of K.cores.threads (winner P K c h.net n)) k
  turn_of k None e = Stays (stays k e)
  turn_of k (Some i) e = by (who_wins P K built c h k i e).1
    where
      owner : owner_of K.cores.threads (winner P K c h.net k) ≡ i
      owner = ap (owner_of K.cores.threads) e

      by : Wins P K c h k i → CoreTurn P K before after (λ n. owner_of K.cores.threads (winner P K c h.net n)) k
      by (WinsBank bank on block) = Stays (bank_stays k bank)
      by (WinsCore core on a next asks listed is names hands) =
          let g = act_granted k i a next asks listed is names hands e in
          Given asks (subst (λ (z : ℕ). may_grant (before k) z asks ≡ true) (sym owner) g.0)
          (subst (λ (z : ℕ). after k ≡ granted K.cores.threads (print_formats P) (before k) z asks) (sym owner) g.1)

  -- ---- what is told then

  abbrev FitsAfter : ℕ → Option ℕ → Type 0
  FitsAfter k o = FitsState (core_at K.cores k) (after_grant (core_machine K.cores k) (h.net.states k) (all_asks k) o)

  pub told_next : FitsTold P K (next_net P K c h.net)
  told_next k l = by (winner P K c h.net k) refl
    where
      by : (o : Option ℕ) → winner P K c h.net k ≡ o → FitsState (core_at K.cores k) ((next_net P K c h.net).states k)
      by None e = subst (FitsAfter k) (sym e) (h.told k l)
      by (Some i) e =
          subst (FitsAfter k) (sym e)
          ((each_keeps_fitting (core_at K.cores k)).acts (h.net.states k) (h.told k l) i (λ j. asks_of P K c h.net i k j)
          (λ j jl. asks_fit P K built h i (won_by P K built c h k i e).0 c k j (a_core P K built c h k i e) jl))

pub each_turns : EachTurns
each_turns P K built c h k = turn_of P K built c h k (winner P K c h.net k) refl
