use Rattle.std.proofs.Common.{List, ℕ, sym, subst}
use Rattle.c_program.specs.Plain.{program_of}
use Rattle.c_accepted.specs.Profile.{IsAccepted}
use Rattle.hls_compile.specs.Compiled.{IsCompiled}
use Rattle.hls_commands.proofs.GeneratedLemmas.{made, never_refused}
use Rattle.hls_commands.proofs.generated.make.Goals as goal

pub unreachable-requires : goal.unreachable-requires
unreachable-requires g c =
    let good = c.in_ok-text.ensures.good in
    never_refused c.as_slice.result.now (good.0, good.1, subst (λ (t : List ℕ). IsAccepted t good.0 good.1) (sym c.as_slice.ensures) good.2) _
    c.in-Err-Refused.field-0 c.in-Err-Refused.field-0-is c.in-Err-Refused.ensures.refused

pub returns-in-Ok : goal.returns-in-Ok
returns-in-Ok g c =
    let b = c.in-Ok.built in
    made c.args.seed c.args.threads c.args.size c.in_ok-text.text c.in_ok-text.ensures.text c.in_ok-text.ensures.good (program_of b.program) b.weight b.net b.text
    (subst (λ (t : List ℕ). IsCompiled t (program_of b.program) b.weight b.net b.text) c.as_slice.ensures c.in-Ok.ensures.ok) c.len.result c.len.ensures
