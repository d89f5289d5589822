-- What a commit gives, by its answer.
use Rattle.std.specs.Prelude.{◌≡◌, ℕ, ◌<◌, ◌≤◌, List, [], ◌∷◌, ◌++◌, length, Option, Some, None, MatchOption, refl}
use Rattle.std.proofs.Common.{ap, sym, ◌∙◌, subst}
use Rattle.std.proofs.lemmas.Option.{same_Some}
use Rattle.netlist.specs.declared.netlist.Module.{Module}
use Rattle.verilog_meaning.specs.Cycles.{ShowsDone}
use Rattle.verilog_meaning.specs.Threads.{all_enabled, IsSame}
use Rattle.sim_layout.specs.Rounds.{threads_of}
use Rattle.sim_layout.specs.Running.{Running, state_of, IsSameNet, IsSameState}
use Rattle.cycle_sim.proofs.Same.{same_sym}
use Rattle.slot_sim.specs.Slots.{IsSameSlotOf}
use Rattle.journal_text.specs.declared.entry.Entry.{Entry}
use Rattle.journal_laws.specs.declared.verdict.Verdict.{Verdict}
use Rattle.journal_laws.specs.declared.verdict.Answer.{Answer}
use Rattle.journal_laws.specs.declared.verdict.Answer.TheVariants as answers
use Rattle.journal_laws.specs.declared.verdict.Next.TheVariants as nexts
use Rattle.journal_laws.specs.Journal.{GoesOn, Judged}
use Rattle.journal_laws.specs.Steps.{InTop, OfTop, OpensTo, IsCopyRun, Enters, IsEntered, IsWaiting}
use Rattle.journal_laws.proofs.Alike.{of_top, goes_from}
use Rattle.journal_laws.proofs.EntrySlots.{same_top}
use Rattle.grant_journal.specs.Boards.{Frame, Keeps, Held, HasSlot, StandsAt, IsSlotOf, IsGiven, IsPrinting}
use Rattle.grant_journal.proofs.Framed.{told, tells, at_frame, top_is, slot_told, slot_tells, unframed}
use Rattle.grant_journal.proofs.BoardKept.{keeps_on, led_more, keeps_more}

pub verdict : (modules : List Module) (count most : ℕ) (layout old : Running) (journal : List Entry) (room : ℕ) (output : List ℕ)
    (k : Keeps modules count most layout old journal room output)
    (v : Option Verdict) → OfTop old (λ ms top n. Judged ms top n (state_of old) (length journal) most v) → Judged modules (k.frame).top count (state_of old) (length journal) most v
verdict modules count most layout old journal room output k v judged =
    told modules count layout k.frame old k.net (λ ms top n. Judged ms top n (state_of old) (length journal) most v) judged

-- the run is over
pub given_ended : (modules : List Module) (count most : ℕ) (layout old : Running) (journal : List Entry) (room : ℕ)
    (output : List ℕ) → Keeps modules count most layout old journal room output
    → (v : Verdict) → OfTop old (λ ms top n. Judged ms top n (state_of old) (length journal) most (Some v)) → (thread : ℕ) (start : Held) (closed : ℕ) (local : Held)
    → IsGiven modules count most thread start closed journal local journal local (answers.Ended v)
given_ended modules count most layout old journal room output k v judged thread start closed local = record {
  top = (k.frame).top;
  is_top = (k.frame).is_top;
  holds = ((state_of old, (k.led, verdict modules count most layout old journal room output k (Some v) judged)), refl, refl);
}

-- it goes on, in a simulator that stands in the same state
module _ (modules : List Module) (count most : ℕ) (layout old : Running) (journal : List Entry) (room : ℕ) (output : List ℕ) (k : Keeps modules count most layout old journal room output)
    (judged : OfTop old (λ ms top n. Judged ms top n (state_of old) (length journal) most None)) (sim : Running) (net : IsSameNet old sim)
    (state : IsSameState old sim) where
  pub now : Keeps modules count most layout sim journal room output
  now = keeps_on modules count most layout old journal room output k sim net (same_top old sim state)

  abbrev f : Frame modules count layout
  f = now.frame

  goes : GoesOn modules f.top count (state_of old) (length journal) most
  goes =
      at_frame modules count layout f old k.net (λ ms top n. GoesOn ms top n (state_of old) (length journal) most)
      (of_top (λ ms top n. GoesOn ms top n (state_of old) (length journal) most) old judged f.top (top_is modules count layout f old k.net))

  pub stands : StandsAt modules f.top count most journal (state_of sim)
  stands = record {
    led = now.led;
    on = goes_from modules f.top count (state_of sim) (state_of old)
        (same_sym modules f.top (state_of old) (state_of sim) (told modules count layout f old k.net (λ ms top n. IsSame ms top n (state_of old) (state_of sim)) (same_top old sim state)))
        (length journal) most goes;
  }

  pub running : OfTop sim (λ ms top n. ShowsDone ms top (state_of sim) (all_enabled n []) 0)
  running = tells modules count layout f sim now.net (λ ms top n. ShowsDone ms top (state_of sim) (all_enabled n []) 0) (stands.on).running

  pub free : length journal ≡ most → ⊥
  free = goes.room

  pub copy_on : (i closed : ℕ) (a b x y : Running) → x ≡ a → y ≡ b → InTop modules (λ top. IsCopyRun modules top count i closed (state_of a) (state_of b))
      → OfTop sim (λ ms top n. IsCopyRun ms top n i closed (state_of x) (state_of y))
  copy_on i closed a b x y d e o =
      subst (λ (z : Running). OfTop sim (λ ms top n. IsCopyRun ms top n i closed (state_of z) (state_of y))) (sym d)
      (subst (λ (z : Running). OfTop sim (λ ms top n. IsCopyRun ms top n i closed (state_of a) (state_of z))) (sym e)
      (tells modules count layout f sim now.net (λ ms top n. IsCopyRun ms top n i closed (state_of a) (state_of b))
      (unframed modules count layout f (λ ms top n. IsCopyRun ms top n i closed (state_of a) (state_of b)) o)))

  module _ (thread : ℕ) (start : Held) (starts : start.thread ≡ thread) where
    pub given_stale : (IsSameSlotOf (threads_of sim.modules) thread sim start.run → ⊥) → (closed : ℕ) (local left : Held) → IsSlotOf modules count thread sim left
        → IsGiven modules count most thread start closed journal local journal left answers.Stale
    given_stale differs closed local left is = record {
      top = f.top;
      is_top = f.is_top;
      holds = (
        (
          state_of sim,
          stands,
          λ has. differs (slot_tells modules count layout f sim now.net thread start.run has.1),
          unframed modules count layout f (λ ms top n. HasSlot ms top n thread (state_of sim) left) is,
        ),
        refl,
      );
    }

    module _ (same : IsSameSlotOf (threads_of sim.modules) thread sim start.run) where
      has : HasSlot modules f.top count thread (state_of sim) start
      has = (starts, slot_told modules count layout f sim now.net thread start.run same)

      pub given_waits : (closed : ℕ) (local : Held) (new : Running) → OfTop sim (λ ms top n. IsWaiting ms top n thread closed (state_of sim) (state_of local.run) (state_of new))
          → IsGiven modules count most thread start closed journal local journal local answers.Waits
      given_waits closed local new o =
          let w = told modules count layout f sim now.net (λ ms top n. IsWaiting ms top n thread closed (state_of sim) (state_of local.run) (state_of new)) o in
          record { top = f.top; is_top = f.is_top; holds = ((state_of sim, stands, has, w.waits), w.none, refl, refl) }

      pub printing : (local : Held) → OfTop sim (λ ms top n. (bytes : List ℕ) × OpensTo ms top n thread (state_of sim) (state_of local.run) bytes × (0 < length bytes))
          → InTop modules (λ top. IsPrinting modules top count most thread start journal local)
      printing local o =
          let x = told modules count layout f sim now.net (λ ms top n. (bytes : List ℕ) × OpensTo ms top n thread (state_of sim) (state_of local.run) bytes × (0 < length bytes)) o in
          record { top = f.top; is_top = f.is_top; holds = record { before = state_of sim; stands = stands; same = has; bytes = x.0; opens = x.1; something = x.2 } }

      module _ (closed : ℕ) (local : Held) (new : Running) (e : Entry) (new_net : IsSameNet sim new) (written : List ℕ)
          (o : OfTop sim (λ ms top n. (bytes : List ℕ) × (written ≡ output ++ bytes) × IsEntered ms top n thread closed (state_of sim) (state_of local.run)
          (state_of new) bytes e)) (grown : List Entry) (added : grown ≡ journal ++ e ∷ []) where
        abbrev x : (bytes : List ℕ) × (written ≡ output ++ bytes) × IsEntered modules f.top count thread closed (state_of sim) (state_of local.run) (state_of new) bytes e
        x = told modules count layout f sim now.net
            (λ ms top n. (bytes : List ℕ) × (written ≡ output ++ bytes) × IsEntered ms top n thread closed (state_of sim) (state_of local.run) (state_of new) bytes e) o

        pub keeps_entered : (wide : ℕ) → room ≤ wide → Keeps modules count most layout new grown wide written
        keeps_entered wide wider =
            keeps_more modules count most layout sim journal room output now new new_net e x.0 written grown wide
            (tells modules count layout f sim now.net (λ ms top n. Enters ms top n e (state_of sim) (state_of new) x.0) (x.2).enters) x.1 added free wider

        pub given_committed : (left : Held) → IsSlotOf modules count thread new left → IsGiven modules count most thread start closed journal local grown left answers.Committed
        given_committed left is = record {
          top = f.top;
          is_top = f.is_top;
          holds = record {
            before = state_of sim;
            stands = stands;
            same = has;
            opened = (x.2).opened;
            opens = (x.2).opens;
            only = (x.2).only;
            added = added ∙ ap (λ (d : Entry). journal ++ d ∷ []) (x.2).is;
            after = state_of new;
            led = led_more modules count most layout sim journal room output now new new_net e x.0 grown
                (tells modules count layout f sim now.net (λ ms top n. Enters ms top n e (state_of sim) (state_of new) x.0) (x.2).enters) added;
            slot_left = unframed modules count layout f (λ ms top n. HasSlot ms top n thread (state_of new) left) is;
          };
        }

pub given_as : (modules : List Module) (count most thread : ℕ) (start : Held) (closed : ℕ) (journal j : List Entry) (local : Held) (grown : List Entry) (left : Held) (a : Answer) → journal ≡ j
    → IsGiven modules count most thread start closed journal local grown left a → IsGiven modules count most thread start closed j local grown left a
given_as modules count most thread start closed journal j local grown left a e = subst (λ (x : List Entry). IsGiven modules count most thread start closed x local grown left a) e

pub printing_as : (modules : List Module) (count most thread : ℕ) (start : Held) (journal j : List Entry) (local : Held) → journal ≡ j
    → InTop modules (λ top. IsPrinting modules top count most thread start journal local) → InTop modules (λ top. IsPrinting modules top count most thread start j local)
printing_as modules count most thread start journal j local e = subst (λ (x : List Entry). InTop modules (λ top. IsPrinting modules top count most thread start x local)) e

pub when_some : {X : Type 0} (o : Option X) (A : Type 0) (B : X → Type 0) → MatchOption o A B → (x : X) → o ≡ Some x → B x
when_some (Some y) A B m x e = subst B (same_Some y x e) m
when_some None A B m x e = absurd cc

pub when_none : {X : Type 0} (o : Option X) (A : Type 0) (B : X → Type 0) → MatchOption o A B → o ≡ None → A
when_none (Some y) A B m e = absurd cc
when_none None A B m e = m

-- what `enter` gives, for the local's simulator
module _ (sim new lent local : Running) (lent_is : lent ≡ local) (i closed : ℕ) (before after : List ℕ) where
  abbrev Waiting : Running → Type 0
  Waiting l = OfTop sim (λ ms top n. IsWaiting ms top n i closed (state_of sim) (state_of l) (state_of new)) × (after ≡ before)

  abbrev Making : Running → Entry → Type 0
  Making l e = OfTop sim (λ ms top n. (bytes : List ℕ) × (after ≡ before ++ bytes) × IsEntered ms top n i closed (state_of sim) (state_of l) (state_of new) bytes e)

  pub waiting_of : (o : Option Entry) → MatchOption o (Waiting lent) (Making lent) → o ≡ None → Waiting local
  waiting_of o m e = subst Waiting lent_is (when_none o (Waiting lent) (Making lent) m e)

  pub making_of : (o : Option Entry) → MatchOption o (Waiting lent) (Making lent) → (e : Entry) → o ≡ Some e → Making local e
  making_of o m e is = subst (λ (l : Running). Making l e) lent_is (when_some o (Waiting lent) (Making lent) m e is)

  pub same_of : Waiting local → OfTop sim (λ ms top n. IsSame ms top n (state_of sim) (state_of new))
  same_of w = record { top = (w.0).top; is_top = (w.0).is_top; holds = ((w.0).holds).same }

pub opening_of : (sim lent local : Running) (i : ℕ) → lent ≡ local → OfTop sim (λ ms top n. (bytes : List ℕ) × OpensTo ms top n i (state_of sim) (state_of lent) bytes × (0 < length bytes))
    → OfTop sim (λ ms top n. (bytes : List ℕ) × OpensTo ms top n i (state_of sim) (state_of local) bytes × (0 < length bytes))
opening_of sim lent local i e = subst (λ (l : Running). OfTop sim (λ ms top n. (bytes : List ℕ) × OpensTo ms top n i (state_of sim) (state_of l) bytes × (0 < length bytes))) e
