-- Which entry is the first bad one.
use Rattle.std.specs.Prelude.{◌≡◌, ℕ, List, Option, Some}
use Rattle.std.proofs.Common.{ap, sym, ◌∙◌, subst, inl, inr}
use Rattle.netlist.specs.declared.netlist.Module.{Module}
use Rattle.journal_text.specs.declared.entry.Entry.{Entry}
use Rattle.journal_laws.specs.declared.verdict.Verdict.{Verdict}
use Rattle.journal_laws.specs.Steps.{InTop}
use Rattle.journal_replay.specs.declared.replay.Redone.{Redone}
use Rattle.journal_replay.specs.declared.replay.Redone.TheVariants as redone
use Rattle.journal_replay.specs.Replays.{Replays}
use Rattle.run_command.specs.Lines.{bad_entry_line}
use Rattle.run_command.specs.declared.replay.ReplayAnswer.{ReplayAnswer}
use Rattle.run_command.specs.declared.replay.ReplayAnswer.TheVariants.{Replayed, BadEntry}
use Rattle.run_command.specs.Replays.{AreLegal, IsFirstBad, IsBadEntry, IsReplayAnswer}

module _ (modules : List Module) (threads : ℕ) (entries : List Entry) (bad : Option ℕ) where
  pub is_bad : (index : ℕ) → IsFirstBad modules threads entries bad index → (a : ReplayAnswer) → IsBadEntry a index → IsReplayAnswer modules threads entries bad a
  is_bad index first (Replayed verdict output journal line) h = absurd h
  is_bad index first (BadEntry at line) h = (subst (IsFirstBad modules threads entries bad) (sym h.0) first, h.1 ∙ ap bad_entry_line (sym h.0))

  -- what a replay gives that was asked for the entries of a slice
  module _ (given : List Entry) (same : given ≡ entries) (r : Redone) (gives : InTop modules (λ top. Replays modules top threads given r)) where
    abbrev Gives : Redone → Type 0
    Gives x = InTop modules (λ top. Replays modules top threads entries x)

    here : Gives r
    here = subst (λ (j : List Entry). InTop modules (λ top. Replays modules top threads j r)) same gives

    pub not_legal : (index : ℕ) → r ≡ redone.BadEntry index → IsFirstBad modules threads entries bad index
    not_legal index e = inl (subst Gives e here)

    pub misspelt : (output : List ℕ) (cycles : ℕ) (v : Verdict) → r ≡ redone.Replayed output cycles v → (index : ℕ) → bad ≡ Some index
        → IsFirstBad modules threads entries bad index
    misspelt output cycles v e index at =
        let x : Gives (redone.Replayed output cycles v) = subst Gives e here in
        let legal : AreLegal modules threads entries = record { top = x.top; is_top = x.is_top; holds = (x.holds.0, (x.holds.1).legal) } in inr (at, legal)
