-- What is wired of a table of a program's parts is the whole net of the program.
use Rattle.std.proofs.Common.{◌≡◌, ℕ, ◌+◌, ◌<◌, List, [], ◌∷◌, Some, inr, sym, ap, ◌∙◌, subst, arith}
use Rattle.std.specs.Prelude.{slice_get, decimal}
use Rattle.std.proofs.lemmas.List.{length-map}
use Rattle.std.proofs.lemmas.Option.{same_Some}
use Rattle.c_program.specs.Tree.{GlobalVariable, Program}
use Rattle.bank_partition.specs.declared.banks.Spread.{Spread}
use Rattle.bank_cores.specs.declared.bank.Shape.{Shape as BankShape}
use Rattle.bank_cores.specs.Bank.{memory_of}
use Rattle.netlist.specs.declared.netlist.Module.{Module}
use Rattle.netlist.specs.declared.netlist.Netlist.{Netlist}
use Rattle.verilog_meaning.specs.Names.{IsMinimal}
use Rattle.verilog_meaning.specs.Threads.{IsChoice, slot}
use Rattle.verilog_meaning.specs.Follows.{BankOf, Bank as BankInstance}
use Rattle.circuit.specs.Wiring.{NetPlaces, IsNet}
use Rattle.top_wiring.specs.Ports.{threads, cores}
use Rattle.top_wiring.specs.Wired.{IsWired}
use Rattle.bank_arbiter.specs.Arbiter as arbiter
use Rattle.leaf_machine.specs.Leaves.{leaf_places}
use Rattle.core_tables.specs.Family.{CoreKind, Bank, machine_at, places_at}
use Rattle.core_tables.specs.Tables.{Table, kinds_at, laid_core, layout_of, modules_of, kinds_in}
use Rattle.core_tables.specs.Tables as table
use Rattle.core_tables.specs.Nets.{IsNetOfTable}
use Rattle.core_tables.proofs.TableNets.{tables_are_nets}
use Rattle.law_banks.proofs.Partitioned.{core_of, bank_is}
use Rattle.law_cycle.specs.Built.{Parts, thread_modules, thread_leaves}
use Rattle.law_cycle.specs.Bodies.{core_at, core_count}
use Rattle.law_cycle.specs.Kinds.{kinds_of}
use Rattle.law_cycle.proofs.Listed.{bank_at, bank_back}
use Rattle.law_net.specs.Follows.{machine_of_thread}
use Rattle.law_net.specs.Whole.{Instances, TellsDone, AreBanked, IsWhole}
use Rattle.law_net.proofs.NetFollows.{net_follows}
use Rattle.law_net.specs.Wired.{IsWholeTableOf, TablesAreWhole, WiredFollow}
use Rattle.law_net.proofs.ThreadsStand.{count_there, threads_stand}
use Rattle.law_net.proofs.NamesApart.{same_name}

module _ (P : Program) (K : Parts) (t : Table) (n : Netlist) (is : IsWholeTableOf P K t) (wired : IsWired (modules_of t) (layout_of t) n) where
  abbrev top : Module
  top = wired.top

  -- how many threads and cores the table has
  abbrev T : ℕ
  T = threads (layout_of t)

  abbrev C : ℕ
  C = cores (layout_of t)

  cores_are : C ≡ core_count K.cores
  cores_are = length-map t.cores (laid_core (kinds_at t)) ∙ count_there P K t is.built is.cores

  -- ---- the net

  of_table : IsNetOfTable t (thread_modules K) (thread_leaves K) n top
  of_table = tables_are_nets t (thread_modules K) (thread_leaves K) n is.whole (threads_stand P K t is.built is.cores is.count is.runs) wired

  abbrev at : Instances P K n.modules top
  at = record { thread = λ i. i; core = λ k. T + k; arbiter = λ k. T + C + k; arbiter_places = arbiter.places T }

  -- the places among so many threads and these cores
  abbrev places_among : (a b : ℕ) (S : List CoreKind) → NetPlaces a b (machine_of_thread K) (machine_at S)
  places_among a b S = record {
    thread_at = λ i. i;
    core_at = λ k. T + k;
    arbiter_at = λ k. T + C + k;
    thread = λ i. leaf_places (K.bodies i).body (K.bodies i).leaf;
    core = places_at S;
    arbiter = λ k. arbiter.places T;
  }

  abbrev NetOf : ℕ → ℕ → List CoreKind → Type 0
  NetOf a b S = IsNet a b (machine_of_thread K) (machine_at S) (places_among a b S) n.modules top

  is_net : NetOf K.cores.threads (core_count K.cores) (kinds_of K.cores)
  is_net =
      subst (λ (S : List CoreKind). NetOf K.cores.threads (core_count K.cores) S) is.cores
      (subst (λ b. NetOf K.cores.threads b (kinds_in t)) cores_are (subst (λ a. NetOf a C (kinds_in t)) is.count of_table.net))

  tells_done : TellsDone P K n.modules top at
  tells_done =
      let d = of_table.done in
      record { shows = d.shows; only = d.only; drives = inr (d.wire, d.driven, d.copies, d.listed, d.drives) }

  -- ---- the banks

  -- bank c of the parts is the instance of its name
  record IsBankAt (k : ℕ) (c : BankShape) (name : List ℕ) (number : ℕ) : Type 0 where
    instance : BankInstance n.modules top name number
    place : instance.place ≡ T + k
    first : instance.number ≡ 0
    memory : instance.memory ≡ memory_of c

  bank_there : (k : ℕ) (c : BankShape) → slice_get K.cores.banks k ≡ Some c → IsBankAt k c c.name c.number
  bank_there k c e =
      let b = of_table.banks k c (ap (λ (S : List CoreKind). slice_get S k) is.cores ∙ bank_at K.cores k c e) in
      record { instance = b.instance; place = b.place; first = b.number; memory = b.memory }

  only_bank : (x : ℕ) (g : GlobalVariable) (s : Spread) → slice_get P.globals x ≡ Some g → slice_get K.spreads x ≡ Some s → (digits : List ℕ) → IsMinimal digits →
      BankOf n.modules top g.name digits → (k : ℕ) × (k < s.count) × (digits ≡ decimal k)
  only_bank x g s declared listed digits minimal b =
      let named = of_table.only_banks g.name digits minimal b in
      let core : core_at K.cores named.core ≡ Some (Bank named.shape) = ap (λ (S : List CoreKind). slice_get S named.core) (sym is.cores) ∙ named.listed in
      let own = bank_is P K.cores.threads K.spreads K.cores.banks is.built.banked named.core named.shape (bank_back K.cores named.core named.shape core) in
      let one : x ≡ own.x = same_name P is.built.resolved x own.x g own.global declared own.declared (sym named.named ∙ own.named) in
      let spread_is : Some s ≡ Some own.spread = sym listed ∙ ap (slice_get K.spreads) one ∙ own.listed in
      let counts = ap (λ (z : Spread). z.count) (same_Some s own.spread spread_is) in
      let below = own.below in
      (own.k, omega (arith, counts, below), named.numbered ∙ ap decimal own.number)

  are_banked : AreBanked P K n.modules top at
  are_banked = record {
    stands = λ x k g s declared listed below.
        let core = core_of P K.cores.threads K.spreads K.cores.banks is.built.banked x k s g listed declared below in
        let b : IsBankAt (s.first + k) core.bank g.name k =
        subst (λ number. IsBankAt (s.first + k) core.bank g.name number) core.number
        (subst (λ name. IsBankAt (s.first + k) core.bank name core.bank.number) core.named (bank_there (s.first + k) core.bank core.found)) in
        (b.instance, b.place, b.first, λ c e. b.memory ∙ ap memory_of (same_Some core.bank c (sym core.found ∙ e)));
    only = only_bank;
  }

  pub whole : IsWhole P K n.modules top
  whole = record {
    built = is.built;
    at = at;
    net = is_net;
    runs = λ i l. of_table.runs i (let c = is.count in omega (arith, l, c));
    named = λ i l.
        subst (λ a. slot n.modules top a i ≡ i ∷ []) is.count
        (of_table.slots i (let c = is.count in omega (arith, l, c)));
    done = tells_done;
    banked = are_banked;
    stages = of_table.stages;
    staged = of_table.staged;
    fits = λ c choice. of_table.fits c (subst (λ a. IsChoice a c) (sym is.count) choice);
  }

pub tables_are_whole : TablesAreWhole
tables_are_whole P K t n is wired = whole P K t n is wired

pub wired_follow : WiredFollow
wired_follow P K t n is wired = net_follows P K n.modules wired.top (whole P K t n is wired)
