-- A run that is over, with its journal and what it printed.
use Rattle.std.specs.Prelude.{◌≡◌, ℕ, List, length, Option, Some, IfSome}
use Rattle.std.proofs.Common.{sym, ◌∙◌, subst}
use Rattle.std.proofs.lemmas.Option.{same_Some}
use Rattle.netlist.specs.declared.netlist.Module.{Module}
use Rattle.verilog_meaning.specs.Names.{top_of}
use Rattle.verilog_meaning.specs.Cycles.{Valuation}
use Rattle.verilog_meaning.specs.Threads.{IsSame}
use Rattle.journal_text.specs.declared.entry.Entry.{Entry}
use Rattle.journal_laws.specs.declared.verdict.Verdict.{Verdict}
use Rattle.journal_laws.specs.Journal.{LeadsTo}
use Rattle.journal_laws.specs.Steps.{InTop}
use Rattle.journal_laws.proofs.Alike.{ends_from}
use Rattle.grant_journal.specs.Boards.{EndsAt, IsOver, IsFinished}
use Rattle.hardware_threads.specs.Run.{IsRan}

named : (modules : List Module) (P : Module → Type 0) → InTop modules P → (top : Module) → top_of modules ≡ Some top → P top
named modules P o top e = subst P (same_Some o.top top (sym o.is_top ∙ e)) o.holds

pub ran : (modules : List Module) (count most : ℕ) (journal : List Entry) (output : List ℕ) (v : Verdict) → IsOver modules count most journal v
    → IsFinished modules count most journal output
    → IsRan modules count most journal output v
ran modules count most journal output v over fin =
    let top = (fin.ends).top in
    let e = (fin.ends).is_top in
    let end = (fin.ends).holds in
    let o = named modules (λ top. (h : Valuation) × EndsAt modules top count most journal h v) over top e in
    let one = named modules (λ top. (h g : Valuation) → LeadsTo modules top count journal h → LeadsTo modules top count journal g → IsSame modules top count h g) fin.one top e in
    record {
      within = fin.within;
      ends = record {
        top = top;
        is_top = e;
        holds = (end.0, end.1, end.2, ends_from modules top count end.0 o.0 (one end.0 o.0 end.1 o.1.0) (length journal) most v o.1.1);
      };
    }

pub ran_at : (modules : List Module) (count most : ℕ) (old new journal : List Entry) (output : List ℕ) (said : Option Verdict) (v : Verdict) → said ≡ Some v
    → IfSome said (λ w. IsOver modules count most old w × (new ≡ old)) → journal ≡ new → IsFinished modules count most new output
    → IsRan modules count most journal output v
ran_at modules count most old new journal output said v is is_over e fin =
    let over : IsOver modules count most old v × (new ≡ old) = subst (λ (o : Option Verdict). IfSome o (λ w. IsOver modules count most old w × (new ≡ old))) is is_over in
    subst (λ (j : List Entry). IsRan modules count most j output v) (sym e)
    (ran modules count most new output v (subst (λ (j : List Entry). IsOver modules count most j v) (sym over.1) over.0) fin)
