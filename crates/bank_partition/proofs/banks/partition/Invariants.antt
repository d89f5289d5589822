use Rattle.std.proofs.Common.{◌≡◌, ◌++◌, map, drop, length}
use Rattle.c_program.specs.Plain.{global_of}
use Rattle.bank_partition.specs.Shapes.{shape_of, banks_from, spreads_from}
use Rattle.bank_partition.specs.Partition.{AreShort}
use Rattle.bank_partition.proofs.banks.partition.Given as goal

abbrev pub invariant-loop-variable : goal.invariant-loop-variable
invariant-loop-variable l = record {
  banks : map shape_of l.banks.items ++ banks_from l.threads l.variable (map global_of (drop l.variable l.program.globals.items)) ≡ banks_from l.threads 0 (map global_of l.program.globals.items);
  short : AreShort l.spreads.items;
  spreads : l.spreads.items ++ spreads_from l.threads l.variable (length l.banks.items) (map global_of (drop l.variable l.program.globals.items))
      ≡ spreads_from l.threads 0 0 (map global_of l.program.globals.items);
}
