use Rattle.std.proofs.Common.{map, length}
use Rattle.std.specs.Prelude.{string_bytes}
use Rattle.std.proofs.lemmas.Option.{slice_get-get_or}
use Rattle.netlist.specs.declared.netlist.Source.TheVariants as source
use Rattle.thread_slots.specs.Naming.{register_name}
use Rattle.thread_slots.specs.Wired.{IsSlotRegister}
use Rattle.thread_slots.proofs.LaidRegisters.{lays_none, lays_more, stands_grow, named_stands, named_none, named_more}
use Rattle.thread_slots.proofs.SlotWires.{behind_none, behind_then, named_behind}
use Rattle.thread_slots.proofs.slots.lay_variables.Goals as goal

pub loop-number-preserved : goal.loop-number-preserved
loop-number-preserved c =
    let names = map string_bytes c.args.names.now in
    let s0 = c.args.wires.now.signals in
    let s1 = c.loop-number.wires.signals in
    let s2 = c.lay_variable.new.wires.signals in
    let name = register_name names c.loop-number.number (length s1) in
    let stands = named_stands s1 s2 name _ c.in_ok-held.held c.in_ok-held.ensures in
    let there = slice_get-get_or c.args.widths.now c.loop-number.number _ c.loop-number-test.true in
    record {
      laid =
          lays_more (source.Register 0) s0 s1 s2 c.args.widths.now c.loop-number.number c.loop-number.registers c.push.new.self _ c.in_ok-held.held
          c.loop-number.invariant.laid there c.in_ok-held.ensures.width stands c.in_ok-push.ensures.ok;
      named = named_more s0 s1 s2 names c.loop-number.number _ c.in_ok-held.held c.loop-number.invariant.laid.long c.loop-number.invariant.named c.in_ok-held.ensures;
      wired = λ inputs fit.
          let own = fit c.loop-number.number _ there in
          behind_then (IsSlotRegister inputs) s0 s1 s2 (stands_grow s1 s2 _ c.in_ok-held.held.register _ stands) (c.loop-number.invariant.wired inputs fit)
          (named_behind inputs s1 s2 names c.loop-number.number _ c.in_ok-held.held c.in_ok-held.ensures own.0 own.1);
    }

pub loop-number-init : goal.loop-number-init
loop-number-init c = record {
  laid = lays_none (source.Register 0) c.args.wires.now.signals c.args.widths.now c.new-registers.result c.new-registers.ensures;
  named = named_none c.args.wires.now.signals (length c.args.wires.now.signals) (map string_bytes c.args.names.now);
  wired = λ inputs fit. behind_none (IsSlotRegister inputs) c.args.wires.now.signals;
}
