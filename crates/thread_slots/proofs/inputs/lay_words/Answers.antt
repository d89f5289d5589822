use Rattle.std.proofs.Common.{◌≡◌, false, List, refl}
use Rattle.block_datapath.specs.declared.registers.Held.{Held}
use Rattle.operator_wires.proofs.MadeWords.{of_ok}
use Rattle.thread_slots.specs.Wired.{AreFit, Behind, IsInnerInput}
use Rattle.thread_slots.proofs.inputs.lay_words.Goals as goal

pub returns-clause-wired : goal.returns-clause-wired
returns-clause-wired c =
    of_ok c.lay_many.result (λ (held : List Held). false ≡ false → AreFit c.args.widths.now → Behind IsInnerInput c.args.wires.now.signals c.lay_many.new.wires.signals)
    (λ (held : List Held). AreFit c.args.widths.now → Behind IsInnerInput c.args.wires.now.signals c.lay_many.new.wires.signals) (λ held t. t refl) c.lay_many.ensures.wired
