-- A board goes on with its journal, and with an entry more.
use Rattle.std.specs.Prelude.{◌≡◌, ℕ, ◌≤◌, List, [], ◌∷◌, ◌++◌, length, refl}
use Rattle.std.proofs.Common.{sym, ◌∙◌, subst, arith, length-append}
use Rattle.netlist.specs.declared.netlist.Module.{Module}
use Rattle.verilog_meaning.specs.Cycles.{initial_state}
use Rattle.verilog_meaning.specs.Threads.{IsSame}
use Rattle.sim_layout.specs.Running.{Running, state_of, IsSameNet}
use Rattle.std.proofs.lemmas.Option.{same_Some}
use Rattle.cycle_sim.specs.Opened.{IsOpened}
use Rattle.cycle_sim.proofs.LockstepTurns.{net_trans}
use Rattle.journal_text.specs.declared.entry.Entry.{Entry}
use Rattle.journal_laws.specs.Journal.{LeadsTo}
use Rattle.journal_laws.specs.Steps.{OfTop, Enters}
use Rattle.journal_laws.proofs.JournalGrowth.{journal_more, journal_to, reaches_more, reaches_to}
use Rattle.grant_journal.specs.Boards.{Frame, Keeps}
use Rattle.grant_journal.proofs.Framed.{told}

module _ (modules : List Module) (count most : ℕ) (layout sim : Running) (journal : List Entry) (room : ℕ) (output : List ℕ)
    (k : Keeps modules count most layout sim journal room output) where
  abbrev f : Frame modules count layout
  f = k.frame

  module _ (new : Running) (net : IsSameNet sim new) where
    -- the state stays
    pub keeps_on : OfTop sim (λ ms top n. IsSame ms top n (state_of sim) (state_of new)) → Keeps modules count most layout new journal room output
    keeps_on state =
        let same : IsSame modules f.top count (state_of sim) (state_of new) = told modules count layout f sim k.net (λ ms top n. IsSame ms top n (state_of sim) (state_of new)) state in record {
          frame = f;
          net = net_trans layout sim new k.net net;
          led = journal_to modules f.top count journal (initial_state modules f.top) (state_of sim) (state_of new) k.led same;
          reached = reaches_to modules f.top count journal (state_of sim) (state_of new) output k.reached same;
          within = k.within;
          roomy = k.roomy;
        }

    pub led_more : (e : Entry) (bytes : List ℕ) (grown : List Entry) → OfTop sim (λ ms top n. Enters ms top n e (state_of sim) (state_of new) bytes) → grown ≡ journal ++ e ∷ []
        → LeadsTo modules f.top count grown (state_of new)
    led_more e bytes grown enters g =
        let step : Enters modules f.top count e (state_of sim) (state_of new) bytes =
        told modules count layout f sim k.net (λ ms top n. Enters ms top n e (state_of sim) (state_of new) bytes) enters in
        subst (λ (j : List Entry). LeadsTo modules f.top count j (state_of new)) (sym g)
        (journal_more modules f.top count journal e (initial_state modules f.top) (state_of sim) (state_of new) k.led step.legal step.full)

    -- an entry more
    pub keeps_more : (e : Entry) (bytes written : List ℕ) (grown : List Entry) (wide : ℕ) → OfTop sim (λ ms top n. Enters ms top n e (state_of sim) (state_of new) bytes) → written ≡ output ++ bytes
        → grown ≡ journal ++ e ∷ [] → (length journal ≡ most → ⊥) → room ≤ wide → Keeps modules count most layout new grown wide written
    keeps_more e bytes written grown wide enters w g free wider =
        let h = state_of sim in
        let l = state_of new in
        let step : Enters modules f.top count e h l bytes = told modules count layout f sim k.net (λ ms top n. Enters ms top n e h l bytes) enters in
        let made : Keeps modules count most layout new (journal ++ e ∷ []) wide (output ++ bytes) = record {
          frame = f;
          net = net_trans layout sim new k.net net;
          led = journal_more modules f.top count journal e (initial_state modules f.top) h l k.led step.legal step.full;
          reached = reaches_more modules f.top count journal e h l output bytes k.reached step.runs;
          within = (let w = k.within in omega (arith, w, free, length-append journal (e ∷ [])));
          roomy = (let y = k.roomy in omega (arith, y, wider));
        } in
        subst (λ (j : List Entry). Keeps modules count most layout new j wide written) (sym g)
        (subst (λ (o : List ℕ). Keeps modules count most layout new (journal ++ e ∷ []) wide o) (sym w) made)

-- a board that begins
pub keeps_none : (modules : List Module) (count most : ℕ) (layout first : Running) (journal : List Entry) (room : ℕ)
    (output : List ℕ) → Frame modules count layout → IsSameNet layout first
    → IsOpened modules first → journal ≡ [] → output ≡ [] → most ≤ room → Keeps modules count most layout first journal room output
keeps_none modules count most layout first journal room output f net begins j o roomy =
    let same : IsSame modules f.top count (initial_state modules f.top) (state_of first) =
    subst (λ (t : Module). IsSame modules t count (initial_state modules t) (state_of first)) (same_Some begins.top f.top (sym begins.is_top ∙ f.is_top)) begins.begins in
    let none : Keeps modules count most layout first [] room [] = record {
      frame = f;
      net = net;
      led = same;
      reached = (same, refl);
      within = omega arith;
      roomy = roomy;
    } in
    subst (λ (x : List Entry). Keeps modules count most layout first x room output) (sym j) (subst (λ (x : List ℕ). Keeps modules count most layout first [] room x) (sym o) none)
