use Rattle.vcd_text.proofs.Recovered as recovering
use Rattle.vcd_text.proofs.recovers.Goals as goal

pub returns : goal.returns
returns c = recovering.recovers
