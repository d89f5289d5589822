-- What a program made from a number owes.
use Rattle.std.proofs.Common.{◌≡◌, ℕ, Bool, true, false, List, length, Option, Some, sym, subst, ap, ◌∙◌}
use Rattle.generated_text.specs.Draws.{lines_of}
use Rattle.generated_text.specs.Text.{text_of}
use Rattle.hls_gen.specs.Good.{IsAcceptedAsGood}
use Rattle.c_program.specs.Tree.{Program}
use Rattle.c_program.specs.Weight.{thread_count}
use Rattle.c_accepted.specs.declared.refusal.Refusal.{Refusal}
use Rattle.c_accepted.specs.Profile.{IsAccepted, IsRefused}
use Rattle.thread_semantics.specs.Races.{IsGood}
use Rattle.netlist.specs.declared.netlist.Netlist.{Netlist}
use Rattle.hls_compile.specs.Compiled.{IsCompiled}
use Rattle.hls_compile.specs.declared.CompileError.{CompileError}
use Rattle.hls_compile.specs.declared.CompileError.TheVariants as error
use Rattle.hls_status.proofs.Stages.{accepted_once, never_both}
use Rattle.hls_status.specs.declared.status.Status.{Status}
use Rattle.hls_words.specs.declared.task.Task.TheVariants.{Gen}
use Rattle.hls_commands.specs.Answers.{Due, IsGenerated, IsGeneratedRun, OwesAt, run_status}
use Rattle.hls_commands.specs.Inside.{IsMade, StopsBy}
use Rattle.hls_commands.specs.declared.commands.Stop.{Stop}
use Rattle.hls_commands.specs.declared.commands.Stop.TheVariants as stop

-- a text of the profile is not refused
pub never_refused : (text : List ℕ) → ((P : Program) × (w : ℕ) × IsAccepted text P w) → (r : Refusal) (e : CompileError) → e ≡ error.Refused r
    → ((s : Refusal) → e ≡ error.Refused s → IsRefused text s) → ⊥
never_refused text accepted r e is refused = never_both text accepted.0 accepted.1 r accepted.2 (refused r is)

-- what the text of a seed compiles to
module _ (seed threads size : ℕ) (text : List ℕ) (is : text ≡ text_of threads (lines_of seed size)) (good : IsAcceptedAsGood threads text) (P : Program) (w : ℕ)
    (n : Netlist) (written : List ℕ) (c : IsCompiled text P w n written) where
  same : good.0 ≡ P
  same = (accepted_once text good.0 P good.1 w good.2 c.accepted).0

  pub made : (bytes : ℕ) → bytes ≡ length text → IsMade seed threads size bytes P w n written
  made bytes long = record {
    long = long ∙ ap length is;
    compiled = subst (λ (t : List ℕ). IsCompiled t P w n written) is c;
    good = subst IsGood same good.3;
    counted = ap thread_count (sym same) ∙ good.4;
  }

-- ---- what is owed for the task

owes_by : (seed threads size most : ℕ) (left : Option (List ℕ)) (rose : Type 0) (d : Due) (s : Status) (cycles : ℕ) (done : Bool) → IsGeneratedRun seed threads size most d cycles done
    → s ≡ run_status done cycles → OwesAt (Some (Gen seed threads size most)) left rose d s
owes_by seed threads size most left rose d s cycles true run e = subst (OwesAt (Some (Gen seed threads size most)) left rose d) (sym e) (cycles, run)
owes_by seed threads size most left rose d s cycles false run e = subst (OwesAt (Some (Gen seed threads size most)) left rose d) (sym e) run

pub generated_owes : (seed threads size most : ℕ) (left : Option (List ℕ)) (rose : Type 0) (d : Due) (s : Status) → IsGenerated seed threads size most d s
    → OwesAt (Some (Gen seed threads size most)) left rose d s
generated_owes seed threads size most left rose d s is = owes_by seed threads size most left rose d s is.0 is.1 is.2 is.3

-- only want of memory stops it
pub stops_gen : (seed threads size most : ℕ) (left : Option (List ℕ)) (rose : Type 0) (s : Stop) → s ≡ stop.Memory → StopsBy (Some (Gen seed threads size most)) left rose s
stops_gen seed threads size most left rose s e = subst (StopsBy (Some (Gen seed threads size most)) left rose) (sym e) tt
