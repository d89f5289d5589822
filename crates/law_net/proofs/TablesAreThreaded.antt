-- The net of a whole table is steady, and so threaded.
use Rattle.std.specs.Prelude.{codes, map, Option, Some, None, slice_get}
use Rattle.std.proofs.Common.{◌≡◌, ℕ, zero, suc, ◌+◌, ◌<◌, List, [], ◌∷◌, ◌++◌, length, refl, sym, ap, ◌∙◌, subst, arith}
use Rattle.std.proofs.lemmas.Option.{same_Some}
use Rattle.std.proofs.lemmas.List.{length-map}
use Rattle.hls_ints.specs.Residues.{bit_of}
use Rattle.netlist.specs.declared.netlist.Signal.{Signal}
use Rattle.netlist.specs.declared.netlist.Module.{Module}
use Rattle.netlist.specs.declared.netlist.Netlist.{Netlist}
use Rattle.netlist.specs.Laid.{signal_names, memory_names, instance_names, declared_names}
use Rattle.verilog_meaning.specs.Names.{IsSignal}
use Rattle.verilog_meaning.specs.Readings.{Reading}
use Rattle.verilog_meaning.specs.Cycles.{Valuation, Choice, number, module_at, IsSettled}
use Rattle.verilog_meaning.specs.Threads.{HasThread}
use Rattle.circuit.specs.Modules.{Agree}
use Rattle.circuit.specs.Machines.{CoreMachine, ThreadMachine}
use Rattle.circuit.proofs.Staged.{no_deeper, staged_settles}
use Rattle.circuit.proofs.NetStep.{obeys, holds}
use Rattle.top_parts.specs.declared.layout.Layout.{Layout}
use Rattle.top_wiring.specs.Parts as top_parts
use Rattle.top_wiring.specs.Ports.{threads, cores}
use Rattle.top_wiring.specs.Top.{starts, thread_instance, arbiter_instance}
use Rattle.top_wiring.specs.Wired.{IsWired}
use Rattle.top_wiring.proofs.WiredNet as netting
use Rattle.top_wiring.proofs.TopPlaces as standing
use Rattle.lists.proofs.Places.{get_there, get_front}
use Rattle.leaf_machine.specs.Leaves.{LeafPorts, leaf_thread, leaf_places}
use Rattle.leaf_machine.specs.Steady.{KeepsToItself}
use Rattle.leaf_machine.proofs.Leaves.{slot_bit_is}
use Rattle.law_net.proofs.AgreedReadings.{agree_on}
use Rattle.printer_cores.specs.declared.printer.Shape.{Shape as PrinterShape}
use Rattle.core_tables.specs.Family.{CoreKind, Bank, Mutex, Barrier, ThreadIds, Printer, machine_of, machine_at}
use Rattle.core_tables.proofs.OffersToAskers.{each_waits}
use Rattle.core_tables.specs.Tables.{PlacedCore, Table, laid_core, kinds_at, layout_of, modules_of, kinds_in}
use Rattle.core_tables.specs.Laws.{SameCore, SameOf, parts, told}
use Rattle.core_tables.specs.Whole.{IsWholeTable, AreThreads, places_of}
use Rattle.core_tables.specs.Nets.{IsNetOfTable}
use Rattle.core_tables.proofs.Lists.{map_back}
use Rattle.core_tables.proofs.TablesFit.{tables_fit}
use Rattle.core_tables.proofs.TableNets.{tables_are_nets}
use Rattle.law_net.specs.Steady.{HoldsNothing, ShowsEnd, IsSteady}
use Rattle.law_net.proofs.Stateless.{arbiter_holds, top_holds}
use Rattle.law_net.proofs.SteadyIsThreaded.{steady_is_threaded}
use Rattle.law_net.specs.Threaded.{AreSteady, NetOfTableIsThreaded}

-- ---- lists and names

-- a signal's name among the names of a module
named_at : (ss : List Signal) (x : ℕ) (s : Signal) → slice_get ss x ≡ Some s → slice_get (map (λ (t : Signal). t.name) ss) x ≡ Some s.name
named_at [] x s e = absurd cc
named_at (t ∷ ss) zero s e = let same : t ≡ s = cc in ap (λ (z : Signal). Some z.name) same
named_at (t ∷ ss) (suc x) s e = named_at ss x s e

declared_at : (m : Module) (name : List ℕ) (x : ℕ) (s : Signal) → IsSignal m name x s → slice_get (declared_names m) x ≡ Some name
declared_at m name x s is =
    get_front (signal_names m ++ memory_names m) (instance_names m) x name
    (get_front (signal_names m) (memory_names m) x name (named_at m.signals x s is.listed ∙ ap Some is.named))

-- ---- a core that prints is the printer

others_print_nothing : (o : Option CoreKind) → ((p : PrinterShape) → o ≡ Some (Printer p) → ⊥) → (s : (machine_of o).State) (i : ℕ) (a : (machine_of o).Ask) →
    (machine_of o).prints s i a ≡ []
others_print_nothing None other s i a = refl
others_print_nothing (Some (Bank b)) other s i a = refl
others_print_nothing (Some (Mutex b)) other s i a = refl
others_print_nothing (Some (Barrier b)) other s i a = refl
others_print_nothing (Some (ThreadIds b)) other s i a = refl
others_print_nothing (Some (Printer p)) other s i a = absurd (other p refl)

two_printers : (a b : PlacedCore) (p q : PrinterShape) → a.kind ≡ Printer p → b.kind ≡ Printer q → SameCore a b
two_printers a b p q first second =
    subst (λ (s : CoreKind). SameOf s a.number b.kind b.number) (sym first) (subst (λ (s : CoreKind). SameOf (Printer p) a.number s b.number) (sym second) tt)

module _ (t : Table) (modules : ℕ → Module) (leaves : ℕ → LeafPorts) (n : Netlist) (whole : IsWholeTable t) (runs : AreThreads t modules leaves)
    (steady : AreSteady t modules leaves) (wired : IsWired (modules_of t) (layout_of t) n) where
  abbrev layout : Layout
  layout = layout_of t

  abbrev T : ℕ
  T = length t.threads

  abbrev top : Module
  top = wired.top

  abbrev thread_machines : ℕ → ThreadMachine
  thread_machines i = leaf_thread (modules i) (leaves i)

  abbrev core_machines : ℕ → CoreMachine
  core_machines = machine_at (kinds_in t)

  is : IsNetOfTable t modules leaves n top
  is = tables_are_nets t modules leaves n whole runs wired

  some_thread : 0 < T
  some_thread = let some = whole.cores.some in omega (arith, some)

  core_total : length t.cores ≡ cores layout
  core_total = sym (length-map t.cores (laid_core (kinds_at t)))

  own_module : (i : ℕ) (l : i < T) → modules i ≡ (is.net.threads_stand i l).0
  own_module i l = same_Some (modules i) (is.net.threads_stand i l).0 (sym (is.runs i l) ∙ (is.net.threads_stand i l).1)

  -- ---- done

  abbrev main : Module
  main = modules 0

  done_is : (h v : Valuation) (c : Choice) → IsSettled n.modules top h c v → (s : Reading) → Agree main s (h (0 ∷ [])) →
      (v []).signal is.done.shows.place ≡ bit_of ((thread_machines 0).is_done s)
  done_is h v c settled s agrees =
      settled.signals [] top is.done.shows.place is.done.shows.signal (record { stands = refl; listed = is.done.shows.is.listed })
      ∙ ap (number n.modules top h c v [] top is.done.shows.place is.done.shows.signal) is.done.copies
      ∙ settled.signals [] top is.done.wire is.done.driven (record { stands = refl; listed = is.done.listed })
      ∙ ap (number n.modules top h c v [] top is.done.wire is.done.driven) is.done.drives
      ∙ slot_bit_is main (steady.inputs 0) (leaves 0) (length t.cores) (parts t) (told t) (steady.leaf 0 some_thread) (leaves 0).done steady.done (v (0 ∷ [])) s
      (obeys n.modules top h v c settled (0 ∷ []) main (is.runs 0 some_thread))
      (agree_on main s (h (0 ∷ [])) (v (0 ∷ [])) agrees (holds n.modules top h v c settled (0 ∷ []) main (is.runs 0 some_thread)))

  ends : ShowsEnd (threads layout) (cores layout) thread_machines core_machines (places_of t modules leaves) n.modules top main
  ends = record {
    is = λ h v c settled x s named q shown. ap (v []).signal (is.done.only x s named) ∙ done_is h v c settled q shown;
    stays = λ r q obeying shown done.
        steady.main.ended r obeying
        (slot_bit_is main (steady.inputs 0) (leaves 0) (length t.cores) (parts t) (told t) (steady.leaf 0 some_thread) (leaves 0).done steady.done r q obeying shown
        ∙ ap bit_of done);
  }

  -- ---- threads

  number_of : (i : ℕ) → i < T → (number : ℕ) × (slice_get t.threads i ≡ Some number)
  number_of i l = get_there t.threads i l

  -- one signal has the name
  need_only : (i : ℕ) → i < T → (x : ℕ) (s : Signal) → IsSignal (modules i) (codes "need") x s → x ≡ (leaves i).need
  need_only i l x s named =
      let k = number_of i l in
      let stands = whole.routines.stands k.0 (modules i) (runs.runs i k.0 k.1) in
      let own = steady.each i l in
      (stands.laid []).names x (leaves i).need (codes "need") (declared_at (modules i) (codes "need") x s named)
      (declared_at (modules i) (codes "need") (leaves i).need own.need own.is)

  has : (i : ℕ) (l : i < T) → HasThread n.modules top T i
  has i l =
      let k = number_of i l in
      let own = steady.each i l in
      let wide = (steady.leaf i l).need.bit.has in
      record {
        place = i;
        instance = thread_instance (starts (modules_of t) layout) T (length layout.cores) (top_parts.parts layout) layout.cores i k.0;
        is = record { listed = standing.thread_stands (modules_of t) layout top wired.is_top i k.0 k.1; named = refl };
        kind = modules i;
        stands = ap (module_at n.modules top) (is.slots i l) ∙ is.runs i l;
        need_place = (leaves i).need;
        need = own.need;
        has_need = own.is;
        one_bit = ap (λ (z : Signal). z.width) (same_Some own.need wide.signal (sym own.is.listed ∙ wide.listed)) ∙ wide.wide;
        out = own.out;
      }

  keeps : (i : ℕ) (l : i < T) → KeepsToItself (thread_machines i) (leaf_places (modules i) (leaves i)) (cores layout) (is.net.threads_stand i l).0
  keeps i l =
      subst (KeepsToItself (thread_machines i) (leaf_places (modules i) (leaves i)) (cores layout)) (own_module i l)
      (subst (λ k. KeepsToItself (thread_machines i) (leaf_places (modules i) (leaves i)) k (modules i)) core_total (steady.each i l).keeps)

  -- ---- arbiters and cores

  arbiter_there : (k : ℕ) → k < cores layout → module_at n.modules top ((T + cores layout + k) ∷ []) ≡ Some t.arbiter
  arbiter_there k l =
      netting.module_there layout (modules_of t) n wired (T + cores layout + k)
      (arbiter_instance (starts (modules_of t) layout) T (length layout.cores) (top_parts.parts layout) layout.arbiter k) t.arbiter
      (standing.arbiter_stands (modules_of t) layout top wired.is_top k l) (tables_fit t whole.cores).arbiters.listed

  arbiters_hold : (k : ℕ) (l : k < cores layout) → HoldsNothing (is.net.arbiters_stand k l).0
  arbiters_hold k l =
      subst HoldsNothing (same_Some t.arbiter (is.net.arbiters_stand k l).0 (sym (arbiter_there k l) ∙ (is.net.arbiters_stand k l).1))
      (arbiter_holds T t.arbiter whole.cores.granting.table)

  printer_is : (k : ℕ) (p : PrinterShape) → slice_get (kinds_in t) k ≡ Some (Printer p) → k ≡ whole.printer.place
  printer_is k p e =
      let there = map_back (λ (z : PlacedCore). z.kind) t.cores k (Printer p) e in
      whole.once.once k whole.printer.place there.0 whole.printer.core there.1 whole.printer.listed
      (two_printers there.0 whole.printer.core p whole.printer.shape (sym there.2) whole.printer.is)

  pub is_steady : IsSteady (threads layout) (cores layout) thread_machines core_machines (places_of t modules leaves) n.modules top
  is_steady = record {
    net = is.net;
    some = some_thread;
    ports = is.ports;
    loopless = is.loopless;
    shallow = no_deeper n.modules top is.stages is.staged;
    settles = λ h c state choice. staged_settles n.modules top is.stages is.staged h c state (is.fits c choice);
    has = has;
    slots = is.slots;
    need = λ i l x s named. need_only i l x s (subst (λ (z : Module). IsSignal z (codes "need") x s) (sym (own_module i l)) named);
    keep = keeps;
    wait = λ k l. each_waits (slice_get (kinds_in t) k);
    arbiters = arbiters_hold;
    outside = top_holds (modules_of t) layout top wired.is_top;
    printer = whole.printer.place;
    alone = λ k l other s i a. others_print_nothing (slice_get (kinds_in t) k) (λ p e. other (printer_is k p e)) s i a;
    ends = subst (ShowsEnd (threads layout) (cores layout) thread_machines core_machines (places_of t modules leaves) n.modules top) (own_module 0 some_thread) ends;
  }

pub net_of_table_is_threaded : NetOfTableIsThreaded
net_of_table_is_threaded t modules leaves n whole runs steady wired =
    steady_is_threaded (threads (layout_of t)) (cores (layout_of t)) (λ i. leaf_thread (modules i) (leaves i)) (machine_at (kinds_in t)) (places_of t modules leaves) n.modules
    wired.top (is_steady t modules leaves n whole runs steady wired)
