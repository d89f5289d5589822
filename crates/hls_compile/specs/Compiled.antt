-- What a text is compiled to.
use Rattle.std.specs.Prelude.{ℕ, ◌≤◌, List}
use Rattle.c_program.specs.Tree.{Program}
use Rattle.c_program.specs.Weight.{thread_count}
use Rattle.netlist.specs.declared.netlist.Netlist.{Netlist}
use Rattle.good_verilog.specs.GoodVerilog.{IsGoodVerilog}
use Rattle.program_bodies.specs.Texts.{IsNetOf}
use Rattle.program_bodies.specs.Parts.{IsThreadedNet, HaveModules}
use Rattle.program_bodies.specs.Portable.{IsPortable}
use Rattle.program_bodies.specs.Served.{AreServed}
use Rattle.hls_compile.specs.Served.{core_names}
use Rattle.c_accepted.specs.Profile.{IsAccepted}

-- the text is accepted as this program, of this weight; what is written is good Verilog of it, in which no name is a reserved word and each is declared
-- before it is used, and reads as this netlist, which is threaded, and of which each thread's instance is one of the module of its function, and core k, the
-- k-th of these names, is served by arbiter_k
pub record IsCompiled (text : List ℕ) (P : Program) (weight : ℕ) (n : Netlist) (written : List ℕ) : Type 0 where
  pub accepted : IsAccepted text P weight
  pub few : thread_count P ≤ 64
  pub good : IsGoodVerilog P written
  pub net : IsNetOf (thread_count P) n written
  pub portable : IsPortable net.net
  pub threaded : IsThreadedNet n (thread_count P)
  pub modules : HaveModules P n threaded.top
  pub served : AreServed n.modules threaded.top (thread_count P) threaded.granting.has (core_names P)
