use Rattle.std.proofs.Common.{◌≡◌, ◌+◌, ◌≤◌, drop}
use Rattle.global_banks.specs.Banks.{bank_count}
use Rattle.global_banks.proofs.locate.bank_count.Given as goal

abbrev pub invariant-loop-instance : goal.invariant-loop-instance
invariant-loop-instance l = record {
  counted : bank_count l.modules l.global l.instances ≡ l.count + bank_count l.modules l.global (drop l.instance-index l.instances);
  most : l.count ≤ l.instance-index;
}
