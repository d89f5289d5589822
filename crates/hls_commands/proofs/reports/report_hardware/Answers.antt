use Rattle.std.proofs.Common.{refl, rules, sym, subst, ap, ◌∙◌}
use Rattle.c_program.specs.Plain.{program_of}
use Rattle.hls_compile.specs.Plans.{ArePlans}
use Rattle.hls_status.specs.Lines.{reported_line}
use Rattle.hls_commands.proofs.reports.report_hardware.Goals as goal

pub report-requires : goal.report-requires
report-requires g c = c.in_ok-made.ensures.ok.2.few

pub returns-clause-ok : goal.returns-clause-ok
returns-clause-ok g c =
    let made = c.in_ok-made.made in (
      refl,
      record {
        text = c.in_ok-made.ensures.ok.0;
        program = program_of made.program;
        weight = made.weight;
        net = made.net;
        written = made.text;
        gave = c.in_ok-made.ensures.ok.1;
        compiled = c.in_ok-made.ensures.ok.2;
        reported = (
          c.as_slice.result.now,
          subst (λ ps. ArePlans (program_of made.program) made.net ps) (sym c.as_slice.ensures) c.in_ok-made.ensures.plans,
          c.in_ok-told.ensures,
        );
        unwritten = search rules;
        unlisted = search rules;
        err = c.in_ok-line.ensures ∙ ap reported_line c.len.ensures;
      },
    )
