use Rattle.std.proofs.Common.{◌≡◌, take, map}
use Rattle.netlist_text.specs.LaidOut as laid
use Rattle.netlist_text.proofs.modules.text_modules.Given as goal

abbrev pub invariant-loop-module : goal.invariant-loop-module
invariant-loop-module l = l.all ≡ map (laid.text_of_module l.modules) (take l.module-index l.modules)
