-- A journal done again, entry by entry.
use Rattle.std.specs.Prelude.{◌≡◌, ℕ, ◌+◌, ◌<◌, List, [], ◌∷◌, ◌++◌, length, take, Some}
use Rattle.std.proofs.Common.{ap, sym, ◌∙◌, subst, get_or, arith, length-append}
use Rattle.std.proofs.lemmas.List.{take_more}
use Rattle.std.proofs.lemmas.Option.{slice_get-get_or}
use Rattle.netlist.specs.declared.netlist.Module.{Module}
use Rattle.verilog_meaning.specs.Names.{top_of}
use Rattle.verilog_meaning.specs.Cycles.{Valuation, Reaches, initial_state}
use Rattle.verilog_meaning.specs.Threads.{entry_choices}
use Rattle.sim_layout.specs.Rounds.{threads_of}
use Rattle.sim_layout.specs.Running.{Running, state_of, IsSameNet}
use Rattle.journal_text.specs.declared.entry.Entry.{Entry}
use Rattle.journal_laws.specs.declared.verdict.Verdict.{Verdict}
use Rattle.journal_laws.specs.Journal.{entry, choices, Ends, Judged}
use Rattle.journal_laws.specs.Steps.{InTop, OfTop}
use Rattle.journal_laws.proofs.Alike.{of_top, of_net}
use Rattle.journal_laws.proofs.JournalGrowth.{choices_more, legal_more, reaches_more}
use Rattle.journal_replay.specs.declared.replay.Redone.TheVariants.{BadEntry}
use Rattle.journal_replay.specs.Replays.{AreReplayed, IsEntryRedone, IsNoEntry, Replays}

abbrev pub AreSoFar : Running → Running → List Entry → List ℕ → ℕ → Type 0
AreSoFar first r journal output cycles = OfTop first (λ ms top n. AreReplayed ms top n journal (state_of r) output cycles)

module _ (first r : Running) (net : IsSameNet first r) (journal : List Entry) (number : ℕ) (output : List ℕ) (cycles : ℕ)
    (so : AreSoFar first r (take number journal) output cycles) (within : number < length journal) (d : Entry) where
  abbrev e : Entry
  e = get_or journal number d

  pub more_so_far : (new : Running) (after : List ℕ) (more : ℕ) → OfTop r (λ ms top n. IsEntryRedone ms top n e (state_of r) (state_of new) output after more)
      → AreSoFar first new (take (number + 1) journal) after (cycles + more)
  more_so_far new after more redone =
      let ms = first.modules in
      let n = threads_of first.modules in
      let top = so.top in
      let s = so.holds in
      let x = of_top (λ ms top n. IsEntryRedone ms top n e (state_of r) (state_of new) output after more) first
      (of_net (λ ms top n. IsEntryRedone ms top n e (state_of r) (state_of new) output after more) first r net redone) top so.is_top in
      let front = take number journal in
      let now : AreReplayed ms top n (front ++ e ∷ []) (state_of new) after (cycles + more) = record {
        legal = legal_more ms top n front e (initial_state ms top) (state_of r) (state_of new) s.legal x.legal;
        reached = subst (λ (o : List ℕ). Reaches ms top (choices ms top n (front ++ e ∷ [])) (state_of new) o) (sym x.appended)
            (reaches_more ms top n front e (state_of r) (state_of new) output x.bytes s.reached x.runs);
        many = (let a = s.many in
            let b = x.many in
            let c : length (choices ms top n (front ++ e ∷ [])) ≡ length (choices ms top n front ++ entry_choices ms top n (entry ms top n e)) =
            ap length (choices_more ms top n front e) in
            omega (arith, a, b, c, length-append (choices ms top n front) (entry_choices ms top n (entry ms top n e))));
      } in
      record {
        top = top;
        is_top = so.is_top;
        holds = subst (λ (j : List Entry). AreReplayed ms top n j (state_of new) after (cycles + more)) (sym (take_more journal number d within)) now;
      }

  pub bad_entry : (modules : List Module) → first.modules ≡ modules → OfTop r (λ ms top n. IsNoEntry ms top n e (state_of r))
      → InTop modules (λ top. Replays modules top (threads_of modules) journal (BadEntry number))
  bad_entry modules is never =
      let ms = first.modules in
      let n = threads_of first.modules in
      let top = so.top in
      let x = of_top (λ ms top n. IsNoEntry ms top n e (state_of r)) first (of_net (λ ms top n. IsNoEntry ms top n e (state_of r)) first r net never) top so.is_top in
      let here : Replays ms top n journal (BadEntry number) = (e, slice_get-get_or journal number d within, state_of r, (so.holds).legal, x) in
      record {
        top = top;
        is_top = sym (ap top_of is) ∙ so.is_top;
        holds = subst (λ (x : List Module). Replays x top (threads_of x) journal (BadEntry number)) is here;
      }

pub replayed : (first r : Running) → IsSameNet first r → (modules : List Module) → first.modules ≡ modules → (journal : List Entry) (output : List ℕ) (cycles : ℕ)
    → AreSoFar first r journal output cycles → (v : Verdict)
    → OfTop r (λ ms top n. Judged ms top n (state_of r) (length journal) (length journal) (Some v))
    → InTop modules (λ top. (h : Valuation) × AreReplayed modules top (threads_of modules) journal h output cycles
    × Ends modules top (threads_of modules) h (length journal) (length journal) v)
replayed first r net modules is journal output cycles so v judged =
    let top = so.top in
    let x = of_top (λ ms top n. Judged ms top n (state_of r) (length journal) (length journal) (Some v)) first
    (of_net (λ ms top n. Judged ms top n (state_of r) (length journal) (length journal) (Some v)) first r net judged) top so.is_top in
    record {
      top = top;
      is_top = sym (ap top_of is) ∙ so.is_top;
      holds = subst (λ (ms : List Module). (h : Valuation) × AreReplayed ms top (threads_of ms) journal h output cycles
          × Ends ms top (threads_of ms) h (length journal) (length journal) v) is
          (state_of r, so.holds, x);
    }
