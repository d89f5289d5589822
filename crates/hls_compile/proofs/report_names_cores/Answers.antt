use Rattle.hls_compile.proofs.ReportedCores.{report_names_cores}
use Rattle.hls_compile.proofs.report_names_cores.Goals as goal

pub returns : goal.returns
returns c = report_names_cores
