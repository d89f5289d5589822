-- A thread that has the board alone: its commit is neither stale, nor does it wait.
use Rattle.std.specs.Prelude.{◌≡◌, ℕ, ◌+◌, ◌<◌, ◌≤◌, ◌⊎◌, List, [], ◌∷◌, ◌++◌, length}
use Rattle.std.proofs.Common.{ap, sym, ◌∙◌, subst, ⊎_elim, arith, length-append}
use Rattle.netlist.specs.declared.netlist.Module.{Module}
use Rattle.verilog_meaning.specs.Cycles.{Valuation}
use Rattle.verilog_meaning.specs.Threads.{slot, alone, IsSame, IsSameSlot, Needs}
use Rattle.sim_layout.specs.Running.{Running, state_of}
use Rattle.slot_sim.specs.Threaded.{Advances}
use Rattle.slot_sim.proofs.Sames.{but_refl}
use Rattle.journal_text.specs.declared.entry.Entry.{Entry}
use Rattle.journal_laws.specs.declared.verdict.Verdict.{Verdict}
use Rattle.journal_laws.specs.declared.verdict.Answer.{Answer}
use Rattle.journal_laws.specs.declared.verdict.Answer.TheVariants as answers
use Rattle.journal_laws.specs.declared.verdict.Next.TheVariants as nexts
use Rattle.journal_laws.specs.Journal.{made, LeadsTo, CanMove}
use Rattle.journal_laws.specs.Steps.{IsClosedRun, IsCopyRun}
use Rattle.journal_laws.proofs.LoneCycles.{slot_within, slot_sym, slot_trans}
use Rattle.journal_laws.proofs.Judgements.{need_bit}
use Rattle.journal_laws.proofs.Alike.{can_move_from}
use Rattle.grant_journal.specs.Boards.{Frame, Held, HasSlot, Offers, Gives, IsSlotAt, HasSlotOf, RunsClosed, RunsOn, IsOffered, IsOver, IsGiven}
use Rattle.grant_journal.proofs.Framed.{framed, unframed}

module _ (modules : List Module) (count most : ℕ) (layout : Running) (f : Frame modules count layout) (journal : List Entry) where
  abbrev top : Module
  top = f.top

  -- what is run on a copy of the slot
  module _ (i closed : ℕ) (start set local : Held) (at : IsSlotAt modules count journal i start) (copied : HasSlotOf modules count start set)
      (run : RunsClosed modules count 4096 set closed local) where
    started : (h : Valuation) × LeadsTo modules top count journal h × HasSlot modules top count i h start
    started = unframed modules count layout f (λ ms top n. (h : Valuation) × LeadsTo ms top n journal h × HasSlot ms top n i h start) at

    copy : HasSlot modules top count start.thread (state_of start.run) set
    copy = unframed modules count layout f (λ ms top n. HasSlot ms top n start.thread (state_of start.run) set) copied

    set_is : set.thread ≡ i
    set_is = copy.0 ∙ started.2.0

    same_slot : IsSameSlot modules top count i (state_of start.run) (state_of set.run)
    same_slot = subst (λ (j : ℕ). IsSameSlot modules top count j (state_of start.run) (state_of set.run)) started.2.0 copy.1

    closed_run : IsClosedRun modules top count i 4096 closed (state_of set.run) (state_of local.run)
    closed_run =
        subst (λ (j : ℕ). IsClosedRun modules top count j 4096 closed (state_of set.run) (state_of local.run)) set_is
        (unframed modules count layout f (λ ms top n. IsClosedRun ms top n set.thread 4096 closed (state_of set.run) (state_of local.run)) run.run)

    pub runs_on : RunsOn modules count i start closed local
    runs_on = record {
      starts = started.2.0;
      ends = run.same ∙ set_is;
      run = framed modules count layout f (λ ms top n. IsCopyRun ms top n i closed (state_of start.run) (state_of local.run))
          (record { from = state_of set.run; state = closed_run.state; begins = same_slot; run = closed_run.run; whole = closed_run.whole });
    }

    module _ (one : (h g : Valuation) → LeadsTo modules top count journal h → LeadsTo modules top count journal g → IsSame modules top count h g) (grown : List Entry) (left : Held) where
      pub not_stale : IsGiven modules count most i start closed journal local grown left answers.Stale → ⊥
      not_stale given =
          let g = unframed modules count layout f (λ ms top n. Gives ms top n most i start closed journal local grown left answers.Stale) given in
          let same = one g.0.0 started.0 (g.0.1).led started.1 in
          g.0.2 (started.2.0, slot_trans modules top count i g.0.0 started.0 (state_of start.run) (slot_within modules top count i g.0.0 started.0 same) started.2.1)

      pub not_waits : IsOffered modules count most journal 0 (nexts.Thread i) → IsGiven modules count most i start closed journal local grown left answers.Waits → ⊥
      not_waits offered given =
          let g = unframed modules count layout f (λ ms top n. Gives ms top n most i start closed journal local grown left answers.Waits) given in
          let o = unframed modules count layout f (λ ms top n. Offers ms top n most journal 0 (nexts.Thread i)) offered in
          let h = g.0.0 in
          let l = state_of local.run in
          let move : CanMove modules top count h i = can_move_from modules top count i h o.0 (one h o.0 (g.0.1).led (o.1).led) (o.2).moves in
          let here : IsSameSlot modules top count i (state_of set.run) l = subst (λ (k : ℕ). Advances modules top count i k (state_of set.run) l) g.1 closed_run.run in
          let taken : IsSameSlot modules top count i h l =
          slot_trans modules top count i h (state_of start.run) l g.0.2.1 (slot_trans modules top count i (state_of start.run) (state_of set.run) l same_slot here) in
          let below = (o.2).within in
          let need : Needs modules top count h (alone i) i 1 =
          ⊎_elim
          (λ (zero : Needs modules top count h (alone i) i 0). absurd (⊎_elim
          (λ (all : closed ≡ 4096). let e : 0 ≡ 4096 = sym g.1 ∙ all in absurd (omega (arith, e)))
          (λ (told : Needs modules top count l (alone i) i 1). let e : 0 ≡ 1 = (f.threaded).needs h l (alone i) (alone i) i 0 1 below taken zero told in absurd (omega (arith, e)))
          closed_run.whole))
          (λ (told : Needs modules top count h (alone i) i 1). told)
          (need_bit modules top count f.threaded i below h move.next move.out move.cycle) in
          g.0.3 (
            move.out,
            record {
              put = h;
              kept = but_refl modules top (slot modules top count i) h;
              taken = slot_sym modules top count i h l taken;
              need = need;
              next = move.next;
              cycle = move.cycle;
              changes = move.changes;
            },
          )

-- ---- the answer of a commit, by cases

pub goes_through : (modules : List Module) (count most : ℕ) (layout : Running) (f : Frame modules count layout) (journal : List Entry) (i closed : ℕ)
    (start set local : Held) → IsSlotAt modules count journal i start
    → HasSlotOf modules count start set → RunsClosed modules count 4096 set closed local
    → ((h g : Valuation) → LeadsTo modules f.top count journal h → LeadsTo modules f.top count journal g → IsSame modules f.top count h g) → (grown : List Entry) (left : Held)
    → IsOffered modules count most journal 0 (nexts.Thread i) → (a : Answer) → IsGiven modules count most i start closed journal local grown left a → (a ≡ answers.Stale) ⊎ (a ≡ answers.Waits) → ⊥
goes_through modules count most layout f journal i closed start set local at copied run one grown left offered a given is =
    ⊎_elim
    (λ (e : a ≡ answers.Stale). not_stale modules count most layout f journal i closed start set local at copied run one grown left
    (subst (λ (x : Answer). IsGiven modules count most i start closed journal local grown left x) e given))
    (λ (e : a ≡ answers.Waits). not_waits modules count most layout f journal i closed start set local at copied run one grown left offered
    (subst (λ (x : Answer). IsGiven modules count most i start closed journal local grown left x) e given))
    is

module _ (modules : List Module) (count most i closed : ℕ) (start local : Held) (journal grown : List Entry) (left : Held) (a : Answer)
    (given : IsGiven modules count most i start closed journal local grown left a) where
  pub grown_more : a ≡ answers.Committed → length grown ≡ length journal + 1
  grown_more e =
      let g : IsGiven modules count most i start closed journal local grown left answers.Committed =
      subst (λ (x : Answer). IsGiven modules count most i start closed journal local grown left x) e given in
      let x = g.holds in ap length x.added ∙ length-append journal (made i closed x.opened ∷ [])

  pub grown_added : a ≡ answers.Committed → (entry : Entry) × (grown ≡ journal ++ entry ∷ [])
  grown_added e =
      let g : IsGiven modules count most i start closed journal local grown left answers.Committed =
      subst (λ (x : Answer). IsGiven modules count most i start closed journal local grown left x) e given in
      let x = g.holds in (made i closed x.opened, x.added)

  pub grown_within : a ≡ answers.Committed → length journal ≤ most → length journal < most
  grown_within e l =
      let g : IsGiven modules count most i start closed journal local grown left answers.Committed =
      subst (λ (x : Answer). IsGiven modules count most i start closed journal local grown left x) e given in
      let x = g.holds in
      let room = ((x.stands).on).room in omega (arith, l, room)

  pub grown_over : (v : Verdict) → a ≡ answers.Ended v → IsOver modules count most journal v × (grown ≡ journal)
  grown_over v e =
      let g : IsGiven modules count most i start closed journal local grown left (answers.Ended v) =
      subst (λ (x : Answer). IsGiven modules count most i start closed journal local grown left x) e given in
      let o : IsOver modules count most journal v = record { top = g.top; is_top = g.is_top; holds = g.holds.0 } in (o, g.holds.1)
