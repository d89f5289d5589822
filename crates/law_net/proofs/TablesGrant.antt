-- The net of a whole table obeys the laws of grants.
use Rattle.std.proofs.Common.{◌≡◌, ℕ, ◌+◌, ◌<◌, List, [], ◌∷◌, length, take, Some, codes, true, refl, sym, ap, ◌∙◌, subst}
use Rattle.std.specs.Prelude.{slice_get}
use Rattle.std.proofs.lemmas.Option.{same_Some}
use Rattle.lists.proofs.Places.{get_mapped, get_unmapped}
use Rattle.netlist.specs.declared.netlist.Instance.{Instance}
use Rattle.netlist.specs.declared.netlist.Module.{Module}
use Rattle.netlist.specs.declared.netlist.Netlist.{Netlist}
use Rattle.verilog_meaning.specs.Names.{numbered, IsInstance}
use Rattle.verilog_meaning.specs.Cycles.{module_at}
use Rattle.circuit.specs.Rows.{EachOf}
use Rattle.circuit.specs.Modules.{FitsAction}
use Rattle.circuit.specs.Machines.{CoreMachine, ThreadMachine}
use Rattle.circuit.specs.Wiring.{NetPlaces}
use Rattle.top_wiring.specs.Parts as top_parts
use Rattle.top_wiring.specs.Ports.{threads, cores}
use Rattle.top_wiring.specs.Top.{starts, preference, core_instance, arbiter_instance}
use Rattle.top_wiring.specs.Wired.{IsWired}
use Rattle.top_wiring.proofs.TopPlaces as standing
use Rattle.leaf_machine.specs.Leaves.{LeafPorts, leaf_thread, leaf_places}
use Rattle.core_tables.specs.Family.{machine_at}
use Rattle.core_tables.specs.Tables.{PlacedCore, Table, core_name, kinds_at, laid_core, layout_of, modules_of, kinds_in}
use Rattle.core_tables.specs.Whole.{IsWholeTable, AreThreads, places_of}
use Rattle.core_tables.specs.Nets.{IsNetOfTable}
use Rattle.core_tables.proofs.TableNets.{tables_are_nets}
use Rattle.law_net.specs.Steady.{IsSteady}
use Rattle.law_net.specs.Threaded.{AreSteady}
use Rattle.law_net.proofs.TablesAreThreaded.{is_steady}
use Rattle.law_net.specs.Grants.{HasBeat, IsGranting}
use Rattle.law_cycle.specs.Bodies.{TurnsBeat}
use Rattle.law_net.specs.Granted.{NetOfTableGrants}
use Rattle.law_net.specs.Served.{AreServed, table_names, CoresOfTableAreServed}
use Rattle.law_net.proofs.InstanceNames.{as_many, in_order}
use Rattle.law_net.proofs.PreferenceInputs.{only_its_arbiter}
use Rattle.law_net.proofs.CycleGrants.{has_cores, right_grants}
use Rattle.law_net.proofs.Apart.{alike}
use Rattle.law_net.proofs.BeatToggles.{toggled}

module _ (t : Table) (modules : ℕ → Module) (leaves : ℕ → LeafPorts) (beats : ℕ → ℕ) (n : Netlist) (whole : IsWholeTable t) (runs : AreThreads t modules leaves)
    (steady : AreSteady t modules leaves) (turning : (i : ℕ) → i < length t.threads → TurnsBeat (modules i) (beats i)) (wired : IsWired (modules_of t) (layout_of t) n) where
  abbrev T : ℕ
  T = threads (layout_of t)

  abbrev K : ℕ
  K = cores (layout_of t)

  abbrev machines : ℕ → ThreadMachine
  machines i = leaf_thread (modules i) (leaves i)

  abbrev core_machines : ℕ → CoreMachine
  core_machines = machine_at (kinds_in t)

  abbrev places : NetPlaces T K machines core_machines
  places = places_of t modules leaves

  abbrev top : Module
  top = wired.top

  is : IsNetOfTable t modules leaves n top
  is = tables_are_nets t modules leaves n whole runs wired

  whole_net : IsSteady T K machines core_machines places n.modules top
  whole_net = is_steady t modules leaves n whole runs steady wired

  -- ---- ports and names

  uses : (i k : ℕ) → i < T → k < K → (leaf_places (modules i) (leaves i)).uses k ≡ true
  uses i k b l = (runs.stands i b).promise.uses k l

  named : (k : ℕ) → k < K → (x : Instance) × IsInstance top (numbered (codes "arbiter") k) (T + K + k) x
  named k l = (
    arbiter_instance (starts (modules_of t) (layout_of t)) T K (top_parts.parts (layout_of t)) (layout_of t).arbiter k,
    record { listed = standing.arbiter_stands (modules_of t) (layout_of t) top wired.is_top k l; named = refl },
  )

  -- ---- the beat

  there : (i : ℕ) → i < T → module_at n.modules top (i ∷ []) ≡ Some (modules i)
  there i l = is.runs i l

  own_module : (i : ℕ) (l : i < T) → modules i ≡ (whole_net.net.threads_stand i l).0
  own_module i l = same_Some (modules i) (whole_net.net.threads_stand i l).0 (sym (there i l) ∙ (whole_net.net.threads_stand i l).1)

  beat : (i : ℕ) → i < T → HasBeat n.modules top T i
  beat i l =
      let b = turning i l in
      record {
        kind = modules i;
        stands = ap (module_at n.modules top) (is.slots i l) ∙ there i l;
        place = beats i;
        signal = b.signal;
        is = b.is;
        register = b.register;
        one_bit = b.one_bit;
      }

  granting : IsGranting n.modules top T
  unfolding beat
  granting = record {
    has = has_cores T K machines core_machines places n.modules top whole_net uses named;
    grants = λ h g c out cycle. right_grants T K machines core_machines places n.modules top whole_net uses named h g c out cycle;
    apart = λ h g f c d out more i l differ needs a b. alike T K machines core_machines places n.modules top whole_net h g f c d out more i l differ needs a b;
    beat = beat;
    beats = λ h g c out i l cycle.
        toggled T K machines core_machines places n.modules top whole_net i l (beats i) (subst (λ (m : Module). TurnsBeat m (beats i)) (own_module i l) (turning i l))
        (subst (λ (m : Module). EachOf (FitsAction m) m.actions) (own_module i l) (steady.leaf i l).clockless.signals.acts) h g c out cycle;
  }

  -- ---- the cores by their names

  core_there : (k : ℕ) (name : List ℕ) → slice_get (table_names t.cores) k ≡ Some name → (x : Instance) × IsInstance top name (T + k) x
  core_there k name e =
      let c = get_unmapped (λ (c : PlacedCore). core_name c.kind c.number) t.cores k name e in
      let laid = laid_core (kinds_at t) c.0 in (
        core_instance (starts (modules_of t) (layout_of t)) T K (top_parts.parts (layout_of t)) (length (top_parts.ask_widths (take k (layout_of t).cores))) k laid,
        record {
          listed = standing.core_stands (modules_of t) (layout_of t) top wired.is_top k laid (get_mapped (laid_core (kinds_at t)) t.cores k c.0 c.1);
          named = c.2;
        },
      )

  serves : AreServed n.modules top T granting.has (table_names t.cores)
  unfolding granting
  serves = record {
    count = as_many t n wired;
    named = core_there;
    preferred = λ k l. record {
      instance = arbiter_instance (starts (modules_of t) (layout_of t)) T K (top_parts.parts (layout_of t)) (layout_of t).arbiter k;
      is = record { listed = standing.arbiter_stands (modules_of t) (layout_of t) top wired.is_top k l; named = refl };
      place = 2 + k;
      signal = preference k;
      named = record { listed = standing.preference_stands (modules_of t) (layout_of t) top wired.is_top k l; named = refl };
      input = refl;
      port = 1;
      connects = refl;
      only = λ j x port listed read. only_its_arbiter (modules_of t) (layout_of t) top wired.is_top k l j x port listed read;
    };
    order = in_order t n wired;
  }

pub cores_of_table_are_served : CoresOfTableAreServed
cores_of_table_are_served t modules leaves beats n whole runs steady turning wired =
    (granting t modules leaves beats n whole runs steady turning wired, serves t modules leaves beats n whole runs steady turning wired)

pub net_of_table_grants : NetOfTableGrants
net_of_table_grants t modules leaves beats n whole runs steady turning wired = granting t modules leaves beats n whole runs steady turning wired
