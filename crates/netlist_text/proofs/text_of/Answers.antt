use Rattle.std.proofs.Common.{ap, sym, subst, ◌∙◌}
use Rattle.verilog_tree.specs.declared.tree.Net.{Net}
use Rattle.verilog_tree.specs.WellFormed.{IsWellFormed}
use Rattle.netlist.specs.NetlistOf.{netlist_of}
use Rattle.netlist_text.proofs.Back.{form_is, netlist_back}
use Rattle.netlist_text.specs.Portable.{IsPortable}
use Rattle.netlist_text.proofs.NetFormed.{net_formed}
use Rattle.netlist_text.proofs.FreeNames.{net_free}
use Rattle.netlist_text.proofs.DeclaredFirst.{net_declares}
use Rattle.netlist_text.proofs.text_of.Goals as goal

pub returns-clause-form : goal.returns-clause-form
returns-clause-form c = form_is c.args.netlist.now c.as_slice.result.now c.in_ok-modules.modules c.as_slice.ensures c.in_ok-modules.ensures

pub returns-clause-netlist : goal.returns-clause-netlist
returns-clause-netlist c = λ laid.
    ap netlist_of (form_is c.args.netlist.now c.as_slice.result.now c.in_ok-modules.modules c.as_slice.ensures c.in_ok-modules.ensures) ∙ netlist_back c.args.netlist.now laid

pub returns-clause-well_formed : goal.returns-clause-well_formed
returns-clause-well_formed c = λ sound.
    let P : Net → Type 0 = λ net. IsWellFormed net in
    subst P (sym (form_is c.args.netlist.now c.as_slice.result.now c.in_ok-modules.modules c.as_slice.ensures c.in_ok-modules.ensures)) (net_formed c.args.netlist.now sound)

pub returns-clause-portable : goal.returns-clause-portable
returns-clause-portable c = λ sound free.
    let P : Net → Type 0 = λ net. IsPortable net in
    subst P (sym (form_is c.args.netlist.now c.as_slice.result.now c.in_ok-modules.modules c.as_slice.ensures c.in_ok-modules.ensures))
    (record { names = net_free c.args.netlist.now free; declared = net_declares c.args.netlist.now sound })
