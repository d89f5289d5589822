-- The text of a whole table reads as its net, and is good Verilog of a program that the net follows.
use Rattle.std.proofs.Common.{◌≡◌, ℕ, List, length, refl, sym, ap, ◌∙◌, subst}
use Rattle.std.specs.Prelude.{codes}
use Rattle.std.proofs.lemmas.Option.{same_Some}
use Rattle.c_program.specs.Tree.{Program}
use Rattle.c_program.specs.Weight.{thread_count}
use Rattle.verilog_tree.specs.declared.tree.Net.{Net}
use Rattle.verilog_tree.specs.WellFormed.{IsWellFormed}
use Rattle.netlist.specs.declared.netlist.Module.{Module}
use Rattle.netlist.specs.declared.netlist.Netlist.{Netlist}
use Rattle.netlist.specs.NetlistOf.{netlist_of}
use Rattle.netlist.specs.Sound.{IsSound}
use Rattle.verilog_meaning.specs.Names.{top_of}
use Rattle.verilog_meaning.specs.Ports.{TakesInput}
use Rattle.circuit.specs.Nets.{FitsChoice}
use Rattle.leaf_machine.specs.Leaves.{LeafPorts}
use Rattle.good_verilog.specs.GoodVerilog.{IsGoodVerilog}
use Rattle.core_tables.specs.Tables.{Table, layout_of, modules_of}
use Rattle.core_tables.specs.Whole.{IsWholeTable, AreThreads}
use Rattle.core_tables.specs.Nets.{IsNetOfTable}
use Rattle.core_tables.proofs.Sound.{tables_are_sound}
use Rattle.core_tables.proofs.TableNets.{tables_are_nets}
use Rattle.law_net.proofs.Rounded.{rounds_stand}
use Rattle.net_emitter.specs.Written.{IsWritten}
use Rattle.law_net.specs.Texts.{IsNetOf, FollowsProgram, TextsAreNets, TextsAreGood}

module _ (t : Table) (modules : ℕ → Module) (leaves : ℕ → LeafPorts) (n : Netlist) (net : Net) (text : List ℕ) (whole : IsWholeTable t)
    (threads : AreThreads t modules leaves) (written : IsWritten (layout_of t) (modules_of t) n net text) where
  abbrev top : Module
  top = written.wired.top

  sound : IsSound n
  sound = written.sound (tables_are_sound t whole)

  netlist_is : netlist_of net ≡ n
  netlist_is = written.netlist sound.laid

  formed : IsWellFormed net
  formed = written.formed sound

  is_net : IsNetOfTable t modules leaves n top
  is_net = tables_are_nets t modules leaves n whole threads written.wired

  pub is_net_of : IsNetOf (length t.threads) n text
  is_net_of = record {
    net = net;
    reads = written.reads formed.full;
    is = netlist_is;
    sound = sound;
    top = top;
    is_top = is_net.is_top;
    done = is_net.done.shows;
    loopless = is_net.loopless;
    takes = λ z e c choice. subst (λ m. FitsChoice n.modules m c) (same_Some top z (sym is_net.is_top ∙ e)) (is_net.fits c choice);
    round = rounds_stand (layout_of t) (modules_of t) n written.wired (tables_are_sound t whole);
  }

  pub same_tree : is_net_of.net ≡ net
  unfolding is_net_of
  same_tree = refl

  module _ (P : Program) (many : length t.threads ≡ thread_count P) (follows : FollowsProgram P n.modules top) where
    its : FollowsProgram P (netlist_of net).modules top
    its = subst (λ (z : Netlist). FollowsProgram P z.modules top) (sym netlist_is) follows

    pub is_good : IsGoodVerilog P text
    is_good = record {
      net = net;
      reads = written.reads formed.full;
      formed = formed;
      top = top;
      is_top = ap (λ (z : Netlist). top_of z.modules) netlist_is ∙ is_net.is_top;
      enables = subst (λ k. TakesInput top (codes "en") k) many is_net.enable;
      shows = is_net.done.shows;
      determined = its.determined;
      runs = its.runs;
      follows = its.follows;
    }

pub texts_are_nets : TextsAreNets
texts_are_nets t modules leaves n net text whole threads written =
    (is_net_of t modules leaves n net text whole threads written, same_tree t modules leaves n net text whole threads written)

pub texts_are_good : TextsAreGood
texts_are_good P t modules leaves n net text whole threads many written follows = is_good t modules leaves n net text whole threads written P many follows
