-- The cycles of an entry and of a journal lead to one state.
use Rattle.std.specs.Prelude.{◌≡◌, ℕ, zero, suc, ◌+◌, List, [], ◌∷◌, Some}
use Rattle.std.proofs.Common.{subst, arith}
use Rattle.netlist.specs.declared.netlist.Module.{Module}
use Rattle.verilog_meaning.specs.Names.{top_of}
use Rattle.verilog_meaning.specs.Cycles.{Valuation}
use Rattle.verilog_meaning.specs.Threads as threads
use Rattle.verilog_meaning.specs.Threads.{alone, IsSame, Moves, IsLegalEntry, IsJournal, open_cycles}
use Rattle.sim_layout.specs.Running.{Running, Stands}
use Rattle.slot_sim.proofs.FlatLaws.{cycle_alike}
use Rattle.slot_sim.proofs.Same.{same_refl, same_sym, same_trans}
use Rattle.journal_text.specs.declared.entry.Entry.{Entry}
use Rattle.journal_laws.specs.Journal.{all_entries}

module _ (modules : List Module) (top : Module) (n need i : ℕ) where
  -- some of the cycles, and the others
  pub moves_split : (first rest count : ℕ) (h g : Valuation) → count ≡ first + rest → Moves modules top n need i count h g
      → (mid : Valuation) × Moves modules top n need i first h mid × Moves modules top n need i rest mid g
  moves_split zero rest count h g e m = (h, same_refl modules top h, subst (λ (k : ℕ). Moves modules top n need i k h g) (let z : count ≡ rest = omega (arith, e) in z) m)
  moves_split (suc first) rest zero h g e m = absurd (omega (arith, e))
  moves_split (suc first) rest (suc count) h g e m =
      let s = moves_split first rest count m.0 g (omega (arith, e)) m.6 in (s.0, (m.0, m.1, m.2, m.3, m.4, m.5, s.1), s.2)

module _ (r : Running) (st : Stands r) (top : Module) (e : top_of r.modules ≡ Some top) (n : ℕ) where
  pub moves_once : (need i count : ℕ) (h l g k : Valuation) → IsSame r.modules top n h l → Moves r.modules top n need i count h g → Moves r.modules top n need i count l k → IsSame r.modules top n g k
  moves_once need i zero h l g k same a b = same_trans r.modules top g h k (same_sym r.modules top h g a) (same_trans r.modules top h l k same b)
  moves_once need i (suc count) h l g k same a b =
      moves_once need i count a.0 b.0 g k (cycle_alike r st top e h l a.0 b.0 (alone i) a.1 b.1 same a.4 b.4).0 a.6 b.6

  pub legal_once : (d : threads.Entry r.modules top n) (h l g k : Valuation) → IsSame r.modules top n h l → IsLegalEntry r.modules top n h d g → IsLegalEntry
      r.modules top n l d k → IsSame r.modules top n g k
  legal_once d h l g k same a b =
      moves_once 1 d.thread (open_cycles r.modules top n d.opened) a.between b.between g k (moves_once 0 d.thread d.closed h l a.between b.between same a.closed b.closed) a.open_ b.open_

  pub journal_once : (journal : List Entry) (h l g k : Valuation) → IsSame r.modules top n h l → IsJournal r.modules top n h (all_entries r.modules top n journal) g
      → IsJournal r.modules top n l (all_entries r.modules top n journal) k → IsSame r.modules top n g k
  journal_once [] h l g k same a b = same_trans r.modules top g h k (same_sym r.modules top h g a) (same_trans r.modules top h l k same b)
  journal_once (d ∷ journal) h l g k same a b = journal_once journal a.0 b.0 g k (legal_once _ h l a.0 b.0 same a.1 b.1) a.3 b.3
