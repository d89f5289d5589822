use Rattle.std.proofs.Common.{ℕ, List, subst, sym}
use Rattle.std.proofs.lemmas.Result.{IfOk-weaker}
use Rattle.c_program.specs.Plain.{program_of}
use Rattle.bank_partition.specs.declared.banks.Spread.{Spread}
use Rattle.program_cores.specs.Cores.{AreCoresOf}
use Rattle.net_emitter.specs.Written.{FitsTable, IsTextOf}
use Rattle.hls_compile.proofs.MadeText.{IsMade, fits, is_good, run_planned}
use Rattle.hls_compile.proofs.hardware.written.Goals as goal

pub wanted-requires : goal.wanted-requires
wanted-requires c = record {
  resolved = c.requires.resolved;
  limits = c.requires.limits;
  parted = (c.in_ok-banks.ensures.counts, c.in_ok-banks.ensures.parted);
}

pub module_numbers-requires : goal.module_numbers-requires
module_numbers-requires c = c.requires.threads

pub modules-requires : goal.modules-requires
modules-requires c = record {
  resolved = c.requires.resolved;
  limits = c.requires.limits;
  cores = subst (λ (ss : List Spread). AreCoresOf (program_of c.args.program.now) ss c.in_ok-wanted.wanted) (sym c.as_slice.ensures.value) c.in_ok-wanted.ensures;
  planned = c.requires.planned;
}

pub verilog-requires : goal.verilog-requires
verilog-requires c =
    let P = program_of c.args.program.now in
    let made =
    subst (λ (ss : List Spread). IsMade P ss c.in_ok-wanted.wanted c.args.plans.now c.in_ok-modules.modules) c.as_slice.ensures.value
    (record {
      cores = subst (λ (ss : List Spread). AreCoresOf P ss c.in_ok-wanted.wanted) (sym c.as_slice.ensures.value) c.in_ok-wanted.ensures;
      laid = c.in_ok-modules.ensures.laid;
      bodies = c.in_ok-modules.ensures.bodies;
    }) in
    record {
      cores = c.in_ok-wanted.ensures.modules;
      fits = subst (λ (ns : List ℕ). FitsTable ns c.in_ok-modules.modules c.in_ok-wanted.wanted) (sym c.in_ok-numbers.ensures)
          (fits P c.in_ok-banks.banks c.in_ok-wanted.wanted c.args.plans.now c.in_ok-modules.modules c.requires.resolved c.requires.limits c.in_ok-banks.ensures made);
    }

pub returns-clause-good : goal.returns-clause-good
returns-clause-good c =
    let P = program_of c.args.program.now in
    let made =
    subst (λ (ss : List Spread). IsMade P ss c.in_ok-wanted.wanted c.args.plans.now c.in_ok-modules.modules) c.as_slice.ensures.value
    (record {
      cores = subst (λ (ss : List Spread). AreCoresOf P ss c.in_ok-wanted.wanted) (sym c.as_slice.ensures.value) c.in_ok-wanted.ensures;
      laid = c.in_ok-modules.ensures.laid;
      bodies = c.in_ok-modules.ensures.bodies;
    }) in
    IfOk-weaker c.verilog.result _ _
    (λ w is. is_good P c.in_ok-banks.banks c.in_ok-wanted.wanted c.args.plans.now c.in_ok-modules.modules c.requires.resolved c.requires.limits c.in_ok-banks.ensures made
    w.net w.text (subst (λ (ns : List ℕ). IsTextOf ns c.in_ok-modules.modules c.in_ok-wanted.wanted w.net w.text) c.in_ok-numbers.ensures is))
    c.verilog.ensures

pub returns-clause-run : goal.returns-clause-run
returns-clause-run c =
    let P = program_of c.args.program.now in
    let made =
    subst (λ (ss : List Spread). IsMade P ss c.in_ok-wanted.wanted c.args.plans.now c.in_ok-modules.modules) c.as_slice.ensures.value
    (record {
      cores = subst (λ (ss : List Spread). AreCoresOf P ss c.in_ok-wanted.wanted) (sym c.as_slice.ensures.value) c.in_ok-wanted.ensures;
      laid = c.in_ok-modules.ensures.laid;
      bodies = c.in_ok-modules.ensures.bodies;
    }) in
    IfOk-weaker c.verilog.result _ _
    (λ w is. run_planned P c.in_ok-banks.banks c.in_ok-wanted.wanted c.args.plans.now c.in_ok-modules.modules c.requires.resolved c.requires.limits c.in_ok-banks.ensures made
    w.net w.text (subst (λ (ns : List ℕ). IsTextOf ns c.in_ok-modules.modules c.in_ok-wanted.wanted w.net w.text) c.in_ok-numbers.ensures is))
    c.verilog.ensures
