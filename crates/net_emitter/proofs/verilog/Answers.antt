use Rattle.std.proofs.Common.{arith, ap, ◌∙◌, sym, subst}
use Rattle.top_wiring.specs.Top.{IsSmall}
use Rattle.core_places.specs.Tables.{layout_of, modules_of}
use Rattle.core_places.specs.Laying as laying
use Rattle.net_emitter.specs.Written.{table_of}
use Rattle.net_emitter.proofs.Tables.{layout_small, written_as}
use Rattle.net_emitter.proofs.verilog.Goals as goal

pub layout-requires : goal.layout-requires
layout-requires c = record { few = (let f = c.requires.fits.few_routines in omega arith); few_cores = c.requires.fits.few_cores }

pub wire-requires : goal.wire-requires
wire-requires c =
    subst IsSmall (sym (c.in_ok-layout.ensures ∙ ap (λ n. laying.layout_of c.args.threads n c.args.wanted.now) c.len.ensures))
    (layout_small c.args.threads c.args.routines c.args.wanted.now c.requires.cores c.requires.fits c.in_ok-arbiter.arbiter c.in_ok-kinds.kinds c.in_ok-arbiter.ensures
    c.in_ok-kinds.ensures)

pub returns : goal.returns
returns c =
    let t = table_of c.args.threads c.args.routines c.in_ok-arbiter.arbiter c.args.wanted.now c.in_ok-kinds.kinds in
    record {
      arbiter = c.in_ok-arbiter.arbiter;
      kinds = c.in_ok-kinds.kinds;
      granting = c.in_ok-arbiter.ensures;
      are = c.in_ok-kinds.ensures;
      net = c.in_ok-net.net;
      written = written_as (modules_of t) c.in_ok-table.table (layout_of t) c.in_ok-layout.layout c.in_ok-netlist.netlist c.in_ok-net.net c.in_ok-text.text
          c.in_ok-table.ensures
          (c.in_ok-layout.ensures ∙ ap (λ n. laying.layout_of c.args.threads n c.args.wanted.now) c.len.ensures) c.in_ok-netlist.ensures.wired c.in_ok-netlist.ensures.sound
          c.in_ok-net.ensures.netlist c.in_ok-net.ensures.well_formed c.in_ok-net.ensures.portable
          c.in_ok-text.ensures.reads;
    }
