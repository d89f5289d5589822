-- A journal with one entry more.
use Rattle.std.specs.Prelude.{◌≡◌, ℕ, List, [], ◌∷◌, ◌++◌}
use Rattle.std.proofs.Common.{ap, sym, ◌∙◌, subst}
use Rattle.std.proofs.lemmas.List.{append-nil, append_assoc}
use Rattle.netlist.specs.declared.netlist.Module.{Module}
use Rattle.verilog_meaning.specs.Cycles.{Valuation, Choice, Runs, Reaches, initial_state}
use Rattle.verilog_meaning.specs.Threads as threads
use Rattle.verilog_meaning.specs.Threads.{IsSame, IsLegalEntry, IsFullEntry, IsLegal, IsJournal, entry_choices}
use Rattle.slot_sim.proofs.Same.{same_refl, same_trans, runs_to_same}
use Rattle.journal_text.specs.declared.entry.Entry.{Entry}
use Rattle.journal_laws.specs.Journal.{entry, all_entries, choices}
use Rattle.journal_laws.proofs.LoneCycles.{moves_from, runs_append}

module _ (modules : List Module) (top : Module) (count : ℕ) where
  abbrev E : Entry → threads.Entry modules top count
  E e = entry modules top count e

  -- an entry from a state that is the same, and to one
  abbrev pub legal_from : (e : threads.Entry modules top count) (h g k : Valuation) → IsSame modules top count h g → IsLegalEntry modules top count g e k → IsLegalEntry modules top count h e k
  legal_from e h g k same l = record {
    thread = l.thread;
    most = l.most;
    some = l.some;
    between = l.between;
    closed = moves_from modules top count e.thread 0 e.closed h g l.between same l.closed;
    open_ = l.open_;
  }

  pub journal_more : (journal : List Entry) (e : Entry) (h g k : Valuation) → IsJournal modules top count h (all_entries modules top count journal) g → (l : IsLegalEntry modules top count g (E e) k)
      → IsFullEntry modules top count l.between (E e) → IsJournal modules top count h (all_entries modules top count (journal ++ e ∷ [])) k
  journal_more [] e h g k same l full = (k, legal_from (E e) h g k same l, full, same_refl modules top k)
  journal_more (d ∷ journal) e h g k j l full = (j.0, j.1, j.2, journal_more journal e j.0 g k j.3 l full)

  pub journal_to : (journal : List Entry) (h g k : Valuation) → IsJournal modules top count h (all_entries modules top count journal) g → IsSame modules top count g k
      → IsJournal modules top count h (all_entries modules top count journal) k
  journal_to [] h g k j same = same_trans modules top h g k j same
  journal_to (d ∷ journal) h g k j same = (j.0, j.1, j.2, journal_to journal j.0 g k j.3 same)

  pub legal_more : (journal : List Entry) (e : Entry) (h g k : Valuation) → IsLegal modules top count h (all_entries modules top count journal) g → IsLegalEntry modules top count g (E e) k
      → IsLegal modules top count h (all_entries modules top count (journal ++ e ∷ [])) k
  legal_more [] e h g k same l = (k, legal_from (E e) h g k same l, same_refl modules top k)
  legal_more (d ∷ journal) e h g k j l = (j.0, j.1, legal_more journal e j.0 g k j.2 l)

  pub choices_more : (journal : List Entry) (e : Entry) → choices modules top count (journal ++ e ∷ []) ≡ choices modules top count journal ++ entry_choices modules top count (E e)
  choices_more [] e = append-nil (entry_choices modules top count (E e))
  choices_more (d ∷ journal) e =
      ap (λ l. entry_choices modules top count (E d) ++ l) (choices_more journal e)
      ∙ sym (append_assoc (entry_choices modules top count (E d)) (choices modules top count journal) (entry_choices modules top count (E e)))

  pub reaches_more : (journal : List Entry) (e : Entry) (h k : Valuation) (out rest : List ℕ) → Reaches modules top (choices modules top count journal) h out
      → Runs modules top h (entry_choices modules top count (E e)) k rest → Reaches modules top (choices modules top count (journal ++ e ∷ [])) k (out ++ rest)
  reaches_more journal e h k out rest r s =
      subst (λ (l : List Choice). Reaches modules top l k (out ++ rest)) (sym (choices_more journal e))
      (runs_append modules top (choices modules top count journal) (entry_choices modules top count (E e)) (initial_state modules top) h k out rest r s)

  pub reaches_to : (journal : List Entry) (h k : Valuation) (out : List ℕ) → Reaches modules top (choices modules top count journal) h out → IsSame modules top count h k
      → Reaches modules top (choices modules top count journal) k out
  reaches_to journal h k out r same = runs_to_same modules top (choices modules top count journal) (initial_state modules top) h k out r same
