use Rattle.std.proofs.Common.{refl, subst}
use Rattle.std.specs.Prelude.{replicate}
use Rattle.netlist.specs.declared.netlist.Source.TheVariants.{Register}
use Rattle.thread_slots.specs.Slots.{LaysAll}
use Rattle.thread_layout.proofs.layout.lay_ground.Goals as goal

pub returns : goal.returns
returns c =
    let shape = c.args.shape.now in
    let e = c.lay_slot.new.wires.signals in
    let f = c.lay_granted.new.wires.signals in
    record {
      with_inputs = c.lay_ports.new.wires.signals;
      with_registers = e;
      ports = c.in_ok-inputs.field-0;
      lays = c.in_ok-inputs.ensures;
      inputs_are = refl;
      news_are = refl;
      slot = c.in_ok-slot.ensures;
      granted = subst (λ n. LaysAll (Register 0) e f (replicate n 1) n c.in_ok-granted.granted) c.len.ensures c.in_ok-granted.ensures.lays;
      granted_behind = c.in_ok-granted.ensures.wired;
    }
