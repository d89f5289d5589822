-- The counted cycles of a run are the counted choices of the machine.
use Rattle.std.proofs.Common.{◌⊎◌, ℕ, List, inl, inr}
use Rattle.c_program.specs.Tree.{Program}
use Rattle.netlist.specs.declared.netlist.Module.{Module}
use Rattle.verilog_meaning.specs.Cycles.{Valuation, Choice}
use Rattle.verilog_meaning.specs.Threads as net
use Rattle.law_cycle.specs.Built.{Parts, Machine}
use Rattle.law_net.specs.Follows as machine
use Rattle.law_net.specs.Follows.{next_machine}
use Rattle.law_net.specs.Whole.{IsWhole}
use Rattle.law_net.proofs.Cycles.{Shows, cycle_shows}
use Rattle.law_net.proofs.Slots.{changes, changed}

in_right : {A B C : Type 0} → A ⊎ B → (B → C) → A ⊎ C
in_right (inl a) f = inl a
in_right (inr b) f = inr (f b)

pub counted : (P : Program) (K : Parts) (modules : List Module) (top : Module) (whole : IsWhole P K modules top) (h : Valuation) (choices : List Choice) (k : ℕ) →
    net.Counted modules top K.cores.threads h choices k → (s : Machine K) → Shows P K modules top whole h s → machine.Counted K s choices k
counted P K modules top whole h choices k net.none s shown = machine.none
counted P K modules top whole h choices k (net.counts {g = g} {c = c} {choices = rest} {n = n} {out = out} cycle why more) s shown =
    machine.counts (in_right why (changed P K modules top whole h g c out s cycle shown))
    (counted P K modules top whole g rest n more (next_machine K s c) (cycle_shows P K modules top whole h g c out s cycle shown))
counted P K modules top whole h choices k (net.passes {g = g} {c = c} {choices = rest} {n = n} {out = out} cycle other never more) s shown =
    machine.passes other (λ moves. never (changes P K modules top whole h g c out s cycle shown moves))
    (counted P K modules top whole g rest n more (next_machine K s c) (cycle_shows P K modules top whole h g c out s cycle shown))
