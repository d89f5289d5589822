-- What the report of a net says of its cores.
use Rattle.std.specs.Prelude.{◌≡◌, ℕ, List, ◌++◌, codes}
use Rattle.c_program.specs.Tree.{Program}
use Rattle.c_program.specs.Weight.{thread_count}
use Rattle.netlist.specs.declared.netlist.Netlist.{Netlist}
use Rattle.plan_report.specs.Words.{number, numbered}
use Rattle.net_report.specs.Net.{named, core_lines}
use Rattle.hls_compile.specs.Served.{core_names}
use Rattle.hls_compile.specs.Compiled.{IsCompiled}

-- the line of a core of this name, by the number of its arbiter
abbrev pub name_line : ℕ → List ℕ → List ℕ
name_line k name = codes "core" ++ number k ++ named name

-- THE REPORT NAMES THE CORES: of a net that is compiled the lines of cores are those of the program's names, so that `core K NAME` says that the instance NAME
-- is served by arbiter_K, whose preference is pref_K
abbrev pub ReportNamesCores : Type 0
ReportNamesCores =
    (text : List ℕ) (P : Program) (weight : ℕ) (n : Netlist) (written : List ℕ) (c : IsCompiled text P weight n written) →
    core_lines (thread_count P) c.threaded.top ≡ numbered name_line 0 (core_names P)
