-- Which core each arbiter of a net of threads serves, by the names of the instances, and whom it is told to prefer.
use Rattle.std.specs.Prelude.{◌≡◌, ℕ, zero, suc, ◌+◌, ◌<◌, Bool, if◌then◌else◌, List, [], ◌∷◌, ◌++◌, length, map, Some, slice_get, codes}
use Rattle.netlist.specs.declared.netlist.Source.TheVariants.{Input}
use Rattle.netlist.specs.declared.netlist.Signal.{Signal}
use Rattle.netlist.specs.declared.netlist.Instance.{Instance}
use Rattle.netlist.specs.declared.netlist.Module.{Module}
use Rattle.netlist.specs.declared.netlist.Netlist.{Netlist}
use Rattle.netlist.specs.Laid.{instance_names}
use Rattle.verilog_meaning.specs.Names.{numbered, IsSignal, IsInstance}
use Rattle.top_wiring.specs.Wired.{IsWired}
use Rattle.leaf_machine.specs.Leaves.{LeafPorts}
use Rattle.bank_cores.specs.declared.bank.Shape.{Shape as Bank}
use Rattle.core_tables.specs.Tables.{PlacedCore, Table, core_name, layout_of, modules_of}
use Rattle.core_tables.specs.Whole.{IsWholeTable, AreThreads}
use Rattle.law_cycle.specs.Cores.{Cores}
use Rattle.law_cycle.specs.Bodies.{TurnsBeat}
use Rattle.law_net.specs.Threaded.{AreSteady}
use Rattle.law_net.specs.Grants.{HasCores, IsGranting}

-- so many names of a stem, numbered from i on, and from 0 on
abbrev pub names_from : List ℕ → ℕ → ℕ → List (List ℕ)
names_from stem i zero = []
names_from stem i (suc n) = numbered stem i ∷ names_from stem (i + 1) n

abbrev pub numbered_names : List ℕ → ℕ → List (List ℕ)
numbered_names stem n = names_from stem 0 n

module _ (modules : List Module) (top : Module) (threads : ℕ) (has : HasCores modules top threads) where
  -- the input pref_k is connected to the instance arbiter_k, and to no other
  pub record IsPreferred (k : ℕ) : Type 0 where
    pub instance : Instance
    pub is : IsInstance top (numbered (codes "arbiter") k) (has.arbiter_at k) instance
    pub place : ℕ
    pub signal : Signal
    pub named : IsSignal top (numbered (codes "pref") k) place signal
    pub input : signal.source ≡ Input
    pub port : ℕ
    pub connects : slice_get instance.inputs port ≡ Some place
    pub only : (j : ℕ) (n : Instance) (x : ℕ) → slice_get top.instances j ≡ Some n → slice_get n.inputs x ≡ Some place → j ≡ has.arbiter_at k

  -- THE CORES BY THEIR NAMES: core k is the instance of name k, and its arbiter is arbiter_k, which alone pref_k reaches. The instances are the threads, then the
  -- cores, then as many arbiters
  pub record AreServed (names : List (List ℕ)) : Type 0 where
    pub count : has.cores ≡ length names
    pub named : (k : ℕ) (name : List ℕ) → slice_get names k ≡ Some name → (n : Instance) × IsInstance top name (has.core_at k) n
    pub preferred : (k : ℕ) → k < has.cores → IsPreferred k
    pub order : instance_names top ≡ numbered_names (codes "t") threads ++ names ++ numbered_names (codes "arbiter") (length names)

-- ---- the names of cores

abbrev pub bank_instance : Bank → List ℕ
bank_instance b = numbered (codes "u_" ++ b.name) b.number

-- where there is a core of the thread ids
abbrev pub thread_ids_names : Bool → List (List ℕ)
thread_ids_names wanted = if wanted then codes "ufork_0" ∷ [] else []

-- of a program's cores, in their order: banks, mutexes, barriers, the thread ids, the printer
abbrev pub names_of : Cores → List (List ℕ)
names_of w =
    map bank_instance w.banks ++ numbered_names (codes "umutex") (length w.mutexes) ++ numbered_names (codes "ubarrier") w.barriers ++ thread_ids_names w.thread_ids
    ++ codes "uprinter_0" ∷ []

-- of a table's cores
abbrev pub table_names : List PlacedCore → List (List ℕ)
table_names cores = map (λ (c : PlacedCore). core_name c.kind c.number) cores

-- THE CORES OF A TABLE ARE SERVED, in their order, in each net that is wired of it, which obeys the laws of grants
abbrev pub CoresOfTableAreServed : Type 0
CoresOfTableAreServed =
    (t : Table) (modules : ℕ → Module) (leaves : ℕ → LeafPorts) (beats : ℕ → ℕ) (n : Netlist) → IsWholeTable t → AreThreads t modules leaves →
    AreSteady t modules leaves → ((i : ℕ) → i < length t.threads → TurnsBeat (modules i) (beats i)) → (wired : IsWired (modules_of t) (layout_of t) n) →
    (granting : IsGranting n.modules wired.top (length t.threads)) × AreServed n.modules wired.top (length t.threads) granting.has (table_names t.cores)
