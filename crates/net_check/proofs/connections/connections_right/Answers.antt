use Rattle.std.proofs.Common.{◌≡◌, [], ◌∙◌, Bool}
use Rattle.std.specs.Prelude.{◌&&◌}
use Rattle.verilog_tree.specs.Scope.{Names, is_known}
use Rattle.verilog_tree.specs.Facts.{after, with_name}
use Rattle.verilog_tree.specs.Rules as rule
use Rattle.verilog_tree.specs.WellFormed.{are_new}
use Rattle.net_check.proofs.Distinct.{all_connections}
use Rattle.net_check.proofs.connections.connections_right.Goals as goal

pub returns : goal.returns
returns c =
    let named : Names = rule.connected_ports c.args.connections.now in
    let taken : Bool = rule.all_right (λ x. rule.takes c.args.scope.now (rule.port_named c.args.ports.now x.port) x.signal) c.args.connections.now in
    let once : c.in_ok-once.once ≡ are_new [] named = c.in_ok-once.ensures.new ∙ (λ i. are_new (c.new-connected.ensures i) named) in
    let names : c.note_ports.new.connected ≡ after with_name [] named = c.in_ok-once.ensures.names ∙ (λ i. after with_name (c.new-connected.ensures i) named) in
    c.are_connected.ensures ∙ (λ i. (taken && once i) && rule.all_right (λ p. is_known c.note_ports.new.connected p.name) c.args.ports.now)
    ∙ all_connections c.args.scope.now c.args.ports.now c.args.connections.now c.note_ports.new.connected names
