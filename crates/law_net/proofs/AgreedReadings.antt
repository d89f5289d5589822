-- Readings that agree at a module's registers and memory words.
use Rattle.std.proofs.Common.{refl, sym, ◌∙◌}
use Rattle.netlist.specs.declared.netlist.Module.{Module}
use Rattle.verilog_meaning.specs.Readings.{Reading}
use Rattle.circuit.specs.Modules.{Agree}

pub agree_here : (m : Module) (h : Reading) → Agree m h h
agree_here m h = record { registers = λ x s e i. refl; words = λ j k s e l. refl }

pub agree_back : (m : Module) (h g : Reading) → Agree m h g → Agree m g h
agree_back m h g a = record { registers = λ x s e i. sym (a.registers x s e i); words = λ j k s e l. sym (a.words j k s e l) }

pub agree_on : (m : Module) (h g f : Reading) → Agree m h g → Agree m g f → Agree m h f
agree_on m h g f a b = record { registers = λ x s e i. a.registers x s e i ∙ b.registers x s e i; words = λ j k s e l. a.words j k s e l ∙ b.words j k s e l }
