use Rattle.circuit.specs.Modules.{IsLeaf}
use Rattle.circuit.specs.Interfaces.{IsTableModule}
use Rattle.circuit.specs.Arbitration.{Arbitrates}
use Rattle.circuit.proofs.Growth.{of_ok}
use Rattle.bank_arbiter.specs.Arbiter.{places, inputs, input_widths, output_widths, never, IsArbiter}
use Rattle.bank_arbiter.proofs.FirstCandidate.{arbiter_grants, arbiter_leaf}
use Rattle.bank_arbiter.proofs.ArbiterStands.{arbiter_stands}
use Rattle.bank_arbiter.proofs.arbiter.module.Goals as goal

pub returns : goal.returns
returns c =
    let n = c.args.threads in
    record {
      arbitrates = of_ok c.table.result (IsArbiter n) (Arbitrates n (places n)) (λ m is. arbiter_grants n c.requires.few m is) c.table.ensures;
      leaf = of_ok c.table.result (IsArbiter n) (λ m. IsLeaf m (inputs n) never) (λ m is. arbiter_leaf n c.requires.few m is) c.table.ensures;
      table = c.table.ensures;
      stands = of_ok c.table.result (IsArbiter n) (λ m. IsTableModule m (input_widths n) (output_widths n)) (λ m is. arbiter_stands n c.requires.few m is) c.table.ensures;
    }
