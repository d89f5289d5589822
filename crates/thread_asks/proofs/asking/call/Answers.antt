use Rattle.std.proofs.Common.{List, Option, refl, sym, ap, subst}
use Rattle.std.proofs.lemmas.Result.{on_ok_weaker}
use Rattle.block_ir.specs.declared.code.ActOperand.{ActOperand}
use Rattle.netlist.specs.declared.netlist.Signal.{Signal}
use Rattle.operator_wires.specs.declared.wires.Wires.{Wires}
use Rattle.thread_slots.specs.declared.requests.Request.{Request}
use Rattle.thread_asks.specs.Fields.{NamesObject}
use Rattle.thread_asks.proofs.Asks.{NamesIf, called_if, plain_called}
use Rattle.thread_asks.proofs.asking.call.Goals as goal
use Rattle.thread_asks.proofs.asking.call.Goals.{in-Some+in_ok-named, in_default}

pub returns : goal.returns
returns c =
    let a = c.at_stage.new.wires.signals in
    let b = c.match-object.wires.signals in
    let d = c.ask_values.new.wires.signals in
    let before = c.args.request.now in
    let middle = c.match-object.request in
    let after : Request = record c.want.new.self { fields = c.ask_values.new.fields } in
    let named : NamesIf c.args.code.now c.args.registers.now a b c.in_ok-at.at c.args.object before middle =
    elim c.match-object.branch [
      | in-Some+in_ok-named w ↦
          let shown =
          subst (λ (z : List Signal). NamesObject c.args.code.now c.args.registers.now a z c.in_ok-at.at before.object w.in-Some.object w.in_ok-named.named)
          (ap (λ (z : Wires). z.signals) (sym w.wires-is)) w.in_ok-named.ensures in
          subst (λ (o : Option ActOperand). NamesIf c.args.code.now c.args.registers.now a b c.in_ok-at.at o before middle) (sym w.in-Some.is)
          (w.in_ok-named.named, shown, w.request-is)
      | in_default w ↦
          subst (λ (o : Option ActOperand). NamesIf c.args.code.now c.args.registers.now a b c.in_ok-at.at o before middle) (sym w.in_default.is)
          (ap (λ (z : Wires). z.signals) w.wires-is, w.request-is)
    ] in
    on_ok_weaker c.ask_values.result
    (λ last. record {
      with_at = a;
      at = c.in_ok-at.at;
      told = c.in_ok-at.ensures.shows;
      told_wired = c.in_ok-at.ensures.wired;
      calls =
          called_if a b d c.args.code.now c.args.registers.now c.args.width c.in_ok-at.at c.args.number c.args.object c.args.values.now before middle after named
          (plain_called b c.want.new.wires.signals c.ask_number.new.wires.signals d c.args.code.now c.args.registers.now c.args.width c.in_ok-at.at c.args.number c.args.values.now
          middle c.want.new.self after c.ask_number.new.fields c.in_ok-want.ensures.asks c.in_ok-want.ensures.wired refl c.in_ok-ask_number.ensures last);
    })
    c.ask_values.ensures
