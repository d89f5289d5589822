use Rattle.c_profile.proofs.Only.{accepts_only, refuses_only}
use Rattle.c_profile.proofs.text.accept.Goals as goal

pub returns-clause-accepts : goal.returns-clause-accepts
returns-clause-accepts c = accepts_only c.args.text.now c.program_or_refusal.result (c.program_or_refusal.ensures.ok, c.program_or_refusal.ensures.refused)

pub returns-clause-refuses : goal.returns-clause-refuses
returns-clause-refuses c = refuses_only c.args.text.now c.program_or_refusal.result (c.program_or_refusal.ensures.ok, c.program_or_refusal.ensures.refused)
