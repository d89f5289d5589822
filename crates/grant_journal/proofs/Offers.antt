-- What `next` offers, one journal's one state, and a turn.
use Rattle.std.specs.Prelude.{◌≡◌, ℕ, List, length, Option, Some, None}
use Rattle.std.proofs.Common.{subst}
use Rattle.netlist.specs.declared.netlist.Module.{Module}
use Rattle.verilog_meaning.specs.Cycles.{Valuation, initial_state}
use Rattle.verilog_meaning.specs.Threads.{IsSame}
use Rattle.sim_layout.specs.Rounds.{threads_of}
use Rattle.sim_layout.specs.Running.{Running, Stands, state_of}
use Rattle.cycle_sim.proofs.Same.{same_refl}
use Rattle.journal_text.specs.declared.entry.Entry.{Entry}
use Rattle.journal_laws.specs.declared.verdict.Verdict.{Verdict}
use Rattle.journal_laws.specs.declared.verdict.Next.{Next}
use Rattle.journal_laws.specs.declared.verdict.Next.TheVariants as nexts
use Rattle.journal_laws.specs.Journal.{LeadsTo, CanMove, Judged, ended}
use Rattle.journal_laws.specs.Steps.{OfTop, IsPreferred, IsOffer}
use Rattle.journal_laws.proofs.Judgements.{can_move, moving}
use Rattle.journal_laws.proofs.Once.{journal_once}
use Rattle.grant_journal.specs.Boards.{Frame, Keeps, Held, HasSlot, IsSlotOf, IsSlotAt, IsOffered, IsFinished}
use Rattle.grant_journal.proofs.Framed.{below, above, at_frame, at_net, top_is, unframed}
use Rattle.grant_journal.proofs.Commits.{verdict}

module _ (modules : List Module) (count most : ℕ) (layout sim : Running) (journal : List Entry) (room : ℕ) (output : List ℕ)
    (k : Keeps modules count most layout sim journal room output) where
  abbrev f : Frame modules count layout
  f = k.frame

  offered_end : (v : Verdict) → OfTop sim (λ ms top n. Judged ms top n (state_of sim) (length journal) most (Some v)) → (prefer : ℕ)
      → IsOffered modules count most journal prefer (nexts.Ended v)
  offered_end v judged prefer = record {
    top = f.top;
    is_top = f.is_top;
    holds = (state_of sim, (k.led, verdict modules count most layout sim journal room output k (Some v) judged));
  }

  offered : (i : ℕ) → OfTop sim (λ ms top n. Judged ms top n (state_of sim) (length journal) most None) → (prefer : ℕ) → IsPreferred sim prefer i
      → IsOffered modules count most journal prefer (nexts.Thread i)
  offered i judged prefer p = record {
    top = f.top;
    is_top = f.is_top;
    holds = (
      state_of sim,
      record { led = k.led; on = verdict modules count most layout sim journal room output k None judged },
      record {
        within = above modules count layout f sim k.net i p.within;
        moves = at_frame modules count layout f sim k.net (λ ms top n. CanMove ms top n (state_of sim) i)
            (can_move sim f.top (top_is modules count layout f sim k.net) (threads_of sim.modules) i p.moves);
        none = λ j l first m. p.none j (below modules count layout f sim k.net j l) first
            (moving sim f.top (top_is modules count layout f sim k.net) (threads_of sim.modules) j (at_net modules count layout f sim k.net (λ ms top n. CanMove ms top n (state_of sim) j) m));
      },
    );
  }

  pub offered_next : (n : Next) → OfTop sim (λ ms top c. Judged ms top c (state_of sim) (length journal) most (ended n)) → (prefer : ℕ) → IsOffer sim prefer n
      → IsOffered modules count most journal prefer n
  offered_next (nexts.Thread i) judged prefer o = offered i judged prefer o
  offered_next (nexts.Ended v) judged prefer o = offered_end v judged prefer

  -- the board's journal leads to one state
  pub one_state : Stands sim → (h g : Valuation) → LeadsTo modules f.top count journal h → LeadsTo modules f.top count journal g → IsSame modules f.top count h g
  one_state st =
      at_frame modules count layout f sim k.net (λ ms top n. (h g : Valuation) → LeadsTo ms top n journal h → LeadsTo ms top n journal g → IsSame ms top n h g)
      (λ h g a b. journal_once sim st f.top (top_is modules count layout f sim k.net) (threads_of sim.modules) journal (initial_state sim.modules f.top) (initial_state sim.modules f.top) h g
      (same_refl sim.modules f.top (initial_state sim.modules f.top)) a b)

  pub finished : Stands sim → IsFinished modules count most journal output
  finished st = record {
    ends = record { top = f.top; is_top = f.is_top; holds = (state_of sim, k.led, k.reached) };
    one = record { top = f.top; is_top = f.is_top; holds = one_state st };
    within = k.within;
  }

  -- the slot of a thread as it is there
  pub slot_at : (i : ℕ) (l : Held) → IsSlotOf modules count i sim l → (j : List Entry) → journal ≡ j → IsSlotAt modules count j i l
  slot_at i l is j e = record {
    top = f.top;
    is_top = f.is_top;
    holds = (
      state_of sim,
      subst (λ (x : List Entry). LeadsTo modules f.top count x (state_of sim)) e k.led,
      unframed modules count layout f (λ ms top n. HasSlot ms top n i (state_of sim) l) is,
    );
  }

-- the numbers of the code are those of the definitions
pub judged_as : (r : Running) (e n : ℕ) (v : Option Verdict) (long most : ℕ) → e ≡ long → n ≡ most → OfTop r (λ ms top k. Judged ms top k (state_of r) e n v) → OfTop r
    (λ ms top k. Judged ms top k (state_of r) long most v)
judged_as r e n v long most a b o =
    subst (λ (x : ℕ). OfTop r (λ ms top k. Judged ms top k (state_of r) x most v)) a (subst (λ (y : ℕ). OfTop r (λ ms top k. Judged ms top k (state_of r) e y v)) b o)

pub offered_as : (modules : List Module) (count most : ℕ) (journal j : List Entry) (prefer : ℕ) (next : Next) → journal ≡ j → IsOffered modules count most journal
    prefer next → IsOffered modules count most j prefer next
offered_as modules count most journal j prefer next e = subst (λ (x : List Entry). IsOffered modules count most x prefer next) e

pub finished_as : (modules : List Module) (count most : ℕ) (journal j : List Entry) (output : List ℕ) → journal ≡ j → IsFinished modules count most journal output →
    IsFinished modules count most j output
finished_as modules count most journal j output e = subst (λ (x : List Entry). IsFinished modules count most x output) e
