-- The program of a generated text.
use Rattle.std.proofs.Common.{◌≡◌, ℕ, suc, List, [], ◌∷◌, ◌++◌, None, refl, sym}
use Rattle.std.proofs.Common.{ap, ◌∙◌, subst}
use Rattle.std.specs.Prelude.{fold, ◌&&◌, nat_eq, nat_lt}
use Rattle.c_tree.specs.declared.statement.Block.{Block, out-Block}
use Rattle.c_tree.specs.declared.declaration.ExternalDeclaration.{ExternalDeclaration}
use Rattle.c_tree.specs.declared.declaration.TranslationUnit.{TranslationUnit}
use Rattle.c_tree.specs.Trees as tree
use Rattle.c_program.specs.Tree.{Function, Program}
use Rattle.c_rules.specs.declared.findings.Findings.{Findings}
use Rattle.c_rules.specs.Faults.{first}
use Rattle.c_rules.specs.Findings as findings
use Rattle.c_rules.specs.Walks.{Outcome, and_then}
use Rattle.c_resolution.specs.Sequences.{sequence}
use Rattle.c_resolution.specs.Files.{File, file}
use Rattle.c_resolution.specs.Resolving.{Spells, IsFirstFault, behind, after, routines_given, program_at, no_tables, scope_with}
use Rattle.c_resolution.specs.CallRules.{IsCallFault}
use Rattle.c_resolution.specs.Texts.{declarations, declaration as declares, main_number}
use Rattle.generated_text.specs.declared.draws.Line.{Line}
use Rattle.generated_profile.proofs.LineReading.{items_of}
use Rattle.generated_profile.proofs.Trees as tr
use Rattle.generated_profile.proofs.Faults.{no_calls}
use Rattle.generated_profile.proofs.Scopes.{definitions}
use Rattle.generated_profile.proofs.DeclaratorCounts as count
use Rattle.generated_profile.proofs.NothingKept as kept
use Rattle.generated_profile.proofs.Declaring as part
use Rattle.generated_profile.proofs.WorkerBody as worker
use Rattle.generated_profile.proofs.MainBody as main

module _ (k : ℕ) (before behind_lines last : ℕ → ℕ) (o : ℕ) (lines : List Line) where
  abbrev threads : ℕ
  threads = suc k

  abbrev size : ℕ
  size = part.size_of threads

  abbrev unit : TranslationUnit
  unit = tr.unit_of threads before behind_lines last (items_of o lines)

  abbrev worker_block : Block
  worker_block = tree.block (tr.opening_items before ++ items_of o lines ++ tr.closing_items behind_lines) (behind_lines 35)

  abbrev main_block : Block
  main_block = tree.block (tr.main_items threads last) (last 120)

  abbrev pub worker_is : Function
  worker_is = part.worker_function (sequence (worker.body_statements size findings.nothing before behind_lines o lines)) (out-Block worker_block).close

  abbrev pub main_function_is : Function
  main_function_is = part.main_function (sequence (main.main_statements size threads last)) (out-Block main_block).close

  abbrev found : Findings
  found = findings.created 0 0 (last 41) findings.nothing

  abbrev pub end : File
  end = part.behind_main size worker_is main_function_is found

  abbrev walk : Outcome File (Unit {0}) → ExternalDeclaration → Outcome File (Unit {0})
  walk r d = and_then r (λ x. declares d)

  all_declared : declarations unit.declarations (file (scope_with definitions) findings.nothing no_tables) ≡ Outcome.Gives tt end
  unfolding declarations
  all_declared =
      ap (λ r. fold walk r (tr.mutex_object before ∷ tr.sum_object before ∷ tr.elements_object threads before
      ∷ tr.worker before behind_lines (items_of o lines) ∷ tr.main threads last ∷ []))
      (part.threads_declared k before)
      ∙ ap (λ r. fold walk r (tr.sum_object before ∷ tr.elements_object threads before ∷ tr.worker before behind_lines (items_of o lines) ∷ tr.main threads last ∷ []))
      (part.mutex_declared size before)
      ∙ ap (λ r. fold walk r (tr.elements_object threads before ∷ tr.worker before behind_lines (items_of o lines) ∷ tr.main threads last ∷ [])) (part.sum_declared size before)
      ∙ ap (λ r. fold walk r (tr.worker before behind_lines (items_of o lines) ∷ tr.main threads last ∷ [])) (part.elements_declared k before)
      ∙ ap (λ r. fold walk r (tr.main threads last ∷ []))
      (part.worker_declared size before worker_block (sequence (worker.body_statements size findings.nothing before behind_lines o lines))
      (count.worker_count before behind_lines o (behind_lines 35) lines) (kept.worker_none size before behind_lines o lines)
      (worker.body_is size findings.nothing before behind_lines o (behind_lines 35) lines))
      ∙ part.main_declared size last worker_is main_block (sequence (main.main_statements size threads last)) found
      (count.main_count threads last (last 120)) (kept.sequence_none (main.main_statements size threads last) refl)
      (main.main_is size threads last (last 120) findings.nothing)

  behind_is : behind unit.declarations ≡ end
  unfolding behind
  behind_is = ap (λ (r : Outcome File (Unit {0})). after r) all_declared

  abbrev pub program : Program
  program = program_at end 1

  fine_end : IsCallFault end.tables.functions end.found None
  fine_end = record { leads = λ from to. nat_eq from to && nat_lt from 2; decides = no_calls 2; is = refl }

  no_fault : IsFirstFault unit None
  unfolding first
  no_fault = record {
    calls = None;
    is_calls = subst (λ (x : File). IsCallFault x.tables.functions x.found None) (sym behind_is) fine_end;
    is = ap (λ (x : File). first None (routines_given x).1) (sym behind_is);
  }

  pub spells : Spells unit program
  spells = record {
    no_fault = no_fault;
    main = 1;
    has_main = ap (λ (x : File). main_number x.scope) behind_is;
    program = ap (λ (x : File). program_at x 1) (sym behind_is);
  }
