use Rattle.std.proofs.Common.{◌≡◌, ◌++◌, drop, map}
use Rattle.c_program.specs.Plain.{global_of}
use Rattle.plan_report.specs.Words.{numbered}
use Rattle.hardware_report.specs.Report.{global_lines}
use Rattle.hardware_report.proofs.put_globals.Given as goal

abbrev pub invariant-loop-k : goal.invariant-loop-k
invariant-loop-k l = l.out ++ numbered (global_lines l.plans) l.k (map global_of (drop l.k l.globals)) ≡ l.fn.out ++ numbered (global_lines l.plans) 0 (map global_of l.globals)
