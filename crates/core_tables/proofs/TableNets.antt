-- The net that is wired of a whole table is one machine, and its parts are found by their names.
use Rattle.std.proofs.Common.{◌≡◌, ◌⊎◌, ℕ, ◌+◌, ◌<◌, ◌≤◌, Bool, false, List, ◌∷◌, ◌++◌, length, get_or, Some, inl, inr, refl, sym, ap, ◌∙◌, subst, arith}
use Rattle.std.specs.Prelude.{slice_get, codes, decimal}
use Rattle.std.proofs.lemmas.Bool.{cases_lt}
use Rattle.std.proofs.lemmas.Option.{slice_get_within}
use Rattle.netlist.specs.declared.netlist.Source.TheVariants.{Port}
use Rattle.netlist.specs.declared.netlist.Instance.{Instance}
use Rattle.netlist.specs.declared.netlist.Module.{Module}
use Rattle.netlist.specs.declared.netlist.Netlist.{Netlist}
use Rattle.verilog_meaning.specs.Names.{IsMinimal, with_digits}
use Rattle.verilog_meaning.specs.Cycles.{Path}
use Rattle.verilog_meaning.specs.Threads.{Place, Depends}
use Rattle.verilog_meaning.specs.Threads.Depends.{directly, through}
use Rattle.verilog_meaning.specs.Follows.{BankOf}
use Rattle.verilog_meaning.proofs.OneSettled.{IsLevelled}
use Rattle.circuit.proofs.Staged.{net_level, net_levelled}
use Rattle.top_parts.specs.declared.layout.Core.{Core}
use Rattle.top_parts.specs.declared.layout.Layout.{Layout}
use Rattle.top_wiring.specs.Top.{input, output, done_place}
use Rattle.top_wiring.specs.Leaves.{IsThreadLeaf, AreLeaves}
use Rattle.top_wiring.specs.Ports.{EachModule}
use Rattle.top_wiring.specs.Wired.{IsWired}
use Rattle.top_wiring.specs.Found.{IsFound}
use Rattle.top_wiring.proofs.WiredNet as netting
use Rattle.top_wiring.proofs.TopPlaces as standing
use Rattle.lists.proofs.Places.{get_there, get_front}
use Rattle.top_wiring.proofs.InstanceKinds.{core_at, Kind, kind_of}
use Rattle.top_wiring.proofs.InstanceKinds.Kind.{of_thread, of_core, of_arbiter}
use Rattle.top_wiring.proofs.NetStages.{nets_have_stages}
use Rattle.top_wiring.proofs.FoundParts.{tops_are_found}
use Rattle.leaf_machine.specs.Leaves.{LeafPorts, leaf_thread}
use Rattle.bank_cores.specs.declared.bank.Shape.{Shape as BankShape}
use Rattle.bank_cores.specs.Bank.{IsBank, memory_of}
use Rattle.core_family.specs.Family.{CoreKind, Bank, Mutex, Barrier, ThreadIds, Printer, IsTable, machine_at}
use Rattle.core_tables.specs.Tables.{PlacedCore, Table, HasCores, core_name, kinds_at, laid_core, layout_of, modules_of, kinds_in}
use Rattle.core_tables.specs.Laws.{IsLow}
use Rattle.core_tables.specs.Whole.{IsWholeTable, AreThreads, places_of}
use Rattle.core_tables.specs.Nets.{TellsDone, IsBankAt, IsBankNamed, IsNetOfTable, TablesAreNets}
use Rattle.core_tables.proofs.Lists.{behind_one, map_back, map_get}
use Rattle.core_tables.proofs.Decimals.{digits_tell}
use Rattle.core_tables.proofs.Small.{is_small}
use Rattle.core_tables.proofs.TablesFit.{each_module, are_leaves}
use Rattle.core_tables.proofs.TablesKeep.{tables_keep_promises}
use Rattle.core_tables.proofs.Sound.{no_top}

-- where each signal's equation names signals of lower levels alone, none depends on itself
module _ (modules : List Module) (top : Module) (level : Path → ℕ → ℕ) (levelled : IsLevelled modules top level) where
  lower : {p q : Place} → Depends modules top p q → level q.0 q.1 < level p.0 p.1
  lower (directly {path = path} {m = m} {x = x} {s = s} {q = q} at names) = (levelled path m x s at q names).1
  lower (through d e) = let a = lower d in let b = lower e in omega arith

  no_loop : (p : Place) → Depends modules top p p → ⊥
  no_loop p d = let l = lower d in absurd (omega arith)

-- the bank's shape of a table
bank_table : (s : CoreKind) (b : BankShape) (m : Module) → s ≡ Bank b → IsTable s m → IsBank b m
bank_table s b m e is = subst (λ z. IsTable z m) e is

-- a name with digits that is a core's is a bank's
record IsBankShape (s : CoreKind) (name digits : List ℕ) : Type 0 where
  bank : BankShape
  is : s ≡ Bank bank
  named : bank.name ≡ name
  number : digits ≡ decimal bank.number

-- the second byte of a bank's name is _
other_name : (a : ℕ) (name digits xs : List ℕ) → get_or xs 1 0 ≡ a → (95 ≡ a → ⊥) → with_digits (codes "u_" ++ name) digits ≡ xs → ⊥
other_name a name digits xs p other e = other (ap (λ (l : List ℕ). get_or l 1 0) e ∙ p)

bank_named : (s : CoreKind) (number : ℕ) (name digits : List ℕ) → IsLow s number → IsMinimal digits → with_digits (codes "u_" ++ name) digits ≡ core_name s number →
    IsBankShape s name digits
bank_named (Bank b) number name digits l minimal e =
    let both = digits_tell (codes "u_" ++ name) (codes "u_" ++ b.name) digits b.number l minimal e in
    record {
      bank = b;
      is = refl;
      named = (let q : 117 ∷ 95 ∷ name ≡ 117 ∷ 95 ∷ b.name = both.0 in let z : b.name ≡ name = cc in z);
      number = both.1;
    }
bank_named (Mutex b) number name digits l minimal e = absurd (other_name 109 name digits (core_name (Mutex b) number) refl (λ z. omega arith) e)
bank_named (Barrier b) number name digits l minimal e = absurd (other_name 98 name digits (core_name (Barrier b) number) refl (λ z. omega arith) e)
bank_named (ThreadIds b) number name digits l minimal e = absurd (other_name 102 name digits (core_name (ThreadIds b) number) refl (λ z. omega arith) e)
bank_named (Printer b) number name digits l minimal e = absurd (other_name 112 name digits (core_name (Printer b) number) refl (λ z. omega arith) e)

module _ (t : Table) (modules : ℕ → Module) (leaves : ℕ → LeafPorts) (n : Netlist) (whole : IsWholeTable t) (runs : AreThreads t modules leaves)
    (wired : IsWired (modules_of t) (layout_of t) n) where
  abbrev layout : Layout
  layout = layout_of t

  abbrev T : ℕ
  T = length t.threads

  abbrev has : HasCores t
  has = whole.cores

  abbrev top : Module
  top = wired.top

  found : IsFound layout (modules_of t) n top
  found = tops_are_found layout (modules_of t) n wired (is_small t has)

  -- ---- threads

  number_of : (i : ℕ) → i < T → (number : ℕ) × (slice_get t.threads i ≡ Some number)
  number_of i l = get_there t.threads i l

  listed : (number : ℕ) (m : Module) → slice_get t.routines number ≡ Some m → slice_get (modules_of t) number ≡ Some m
  listed number m e = get_front t.routines (t.arbiter ∷ t.kinds) number m e

  thread_runs : (i : ℕ) → i < T → (number : ℕ) × (slice_get t.threads i ≡ Some number) × (slice_get (modules_of t) number ≡ Some (modules i))
  thread_runs i l = let k = number_of i l in (k.0, k.1, listed k.0 (modules i) (runs.runs i k.0 k.1))

  -- what is late in the module of a thread
  abbrev late_by : (i : ℕ) → (i < T) ⊎ (T ≤ i) → ℕ → Bool
  late_by i (inl l) = (runs.stands i l).late
  late_by i (inr r) = λ x. false

  abbrev late : ℕ → ℕ → Bool
  late i = late_by i (cases_lt i T)

  early : (i : ℕ) (d : (i < T) ⊎ (T ≤ i)) → i < T → IsThreadLeaf layout (late_by i d) (modules i)
  early i (inl l) lt = (runs.stands i l).early
  early i (inr r) lt = absurd (omega arith)

  leaves_stand : AreLeaves layout (modules_of t)
  leaves_stand = are_leaves t has late (λ i number e. (modules i, runs.runs i number e, early i (cases_lt i T) (slice_get_within t.threads i number e)))

  -- ---- done

  tells_done : TellsDone t modules leaves n top
  tells_done =
      let first = thread_runs 0 has.some in
      record {
        shows = record { place = found.done_at; signal = output (done_place (modules_of t) layout); is = found.done; out = refl; bit = refl };
        only = found.done_alone;
        wire = done_place (modules_of t) layout;
        copies = refl;
        driven = found.done_wire.0;
        listed = found.done_wire.1;
        drives = found.done_wire.2 first.0 (modules 0) first.1 first.2 ∙ ap (Port 0) (sym (runs.stands 0 has.some).done);
      }

  -- ---- banks

  -- core k of a shape, and its module
  record IsCoreAt (k : ℕ) (s : CoreKind) : Type 0 where
    core : PlacedCore
    listed : slice_get t.cores k ≡ Some core
    shape : core.kind ≡ s
    body : Module
    stands : slice_get (modules_of t) (laid_core (kinds_at t) core).module ≡ Some body
    table : IsTable core.kind body

  core_of : (k : ℕ) (s : CoreKind) → slice_get (kinds_in t) k ≡ Some s → IsCoreAt k s
  core_of k s e =
      let b = map_back (λ (z : PlacedCore). z.kind) t.cores k s e in
      let m = has.each k b.0 b.1 in
      record {
        core = b.0;
        listed = b.1;
        shape = sym b.2;
        body = m.body;
        stands = behind_one t.routines t.arbiter t.kinds b.0.place ∙ m.listed;
        table = m.is.table;
      }

  module _ (k : ℕ) (b : BankShape) (e : slice_get (kinds_in t) k ≡ Some (Bank b)) where
    abbrev own : IsCoreAt k (Bank b)
    own = core_of k (Bank b) e

    abbrev laid : Core
    laid = laid_core (kinds_at t) own.core

    abbrev instance : Instance
    instance = core_at layout (modules_of t) k laid

    instance_listed : slice_get top.instances (T + k) ≡ Some instance
    instance_listed = standing.core_stands (modules_of t) layout top wired.is_top k laid (map_get (laid_core (kinds_at t)) t.cores k own.core own.listed)

    its_table : IsBank b own.body
    its_table = bank_table own.core.kind b own.body own.shape own.table

    bank_at : IsBankAt t modules leaves n top k b
    bank_at = record {
      instance = record {
        place = T + k;
        instance = instance;
        is = record { listed = instance_listed; named = ap (λ s. core_name s own.core.number) own.shape };
        kind = own.body;
        stands = netting.module_there layout (modules_of t) n wired (T + k) instance own.body instance_listed own.stands;
        number = 0;
        memory = memory_of b;
        has = record { listed = ap (λ l. slice_get l 0) its_table.memories; named = refl };
      };
      place = refl;
      number = refl;
      memory = refl;
    }

  -- that modules stand there
  any : EachModule layout (modules_of t) (λ i y. Unit {0}) (λ i c y. Unit {0}) (λ i y. Unit {0})
  any = each_module t has (λ i y. Unit {0}) (λ i c y. Unit {0}) (λ i y. Unit {0}) (λ i number e. (modules i, runs.runs i number e, tt)) (λ k x p. tt) (λ k. tt)

  module _ (name digits : List ℕ) (minimal : IsMinimal digits) (b : BankOf n.modules top name digits) where
    named : with_digits (codes "u_" ++ name) digits ≡ b.instance.name
    named = sym b.is.named

    first_byte : (a : ℕ) (x : List ℕ) → get_or x 0 0 ≡ a → b.instance.name ≡ x → (117 ≡ a → ⊥) → ⊥
    first_byte a x p e other =
        let u : 117 ≡ get_or b.instance.name 0 0 = ap (λ (z : List ℕ). get_or z 0 0) named in
        other (u ∙ ap (λ (z : List ℕ). get_or z 0 0) e ∙ p)

    of_bank : (k : ℕ) (x : Core) → slice_get layout.cores k ≡ Some x → b.instance.name ≡ x.name → IsBankNamed t modules leaves n top name digits
    of_bank k x l e =
        let c = map_back (laid_core (kinds_at t)) t.cores k x l in
        let low = whole.once.low k c.0 c.1 in
        let s = bank_named c.0.kind c.0.number name digits low minimal (named ∙ e ∙ ap (λ (z : Core). z.name) c.2) in
        record {
          core = k;
          shape = s.bank;
          listed = map_get (λ (z : PlacedCore). z.kind) t.cores k c.0 c.1 ∙ ap (λ z. Some z) s.is;
          named = s.named;
          numbered = s.number;
        }

    only_bank : IsBankNamed t modules leaves n top name digits
    only_bank =
        by_kind (kind_of layout (modules_of t) (λ i y. Unit {0}) (λ i c y. Unit {0}) (λ i y. Unit {0}) any top wired.is_top b.place b.instance b.is.listed)
      where
        by_kind : Kind layout (modules_of t) (λ i y. Unit {0}) (λ i c y. Unit {0}) (λ i y. Unit {0}) b.place b.instance → IsBankNamed t modules leaves n top name digits
        by_kind (of_thread i m l is p q) = absurd (first_byte 116 _ refl (ap (λ (y : Instance). y.name) is) (λ z. omega arith))
        by_kind (of_core k c m h l is p q) = of_bank k c l (ap (λ (y : Instance). y.name) is)
        by_kind (of_arbiter k m h l is p q) = absurd (first_byte 97 _ refl (ap (λ (y : Instance). y.name) is) (λ z. omega arith))

  pub is_net_of_table : IsNetOfTable t modules leaves n top
  is_net_of_table =
      let staged = nets_have_stages layout (modules_of t) n wired has.some leaves_stand in
      record {
        net = netting.is_net layout (modules_of t) n wired (λ i. leaf_thread (modules i) (leaves i)) (machine_at (kinds_in t)) (places_of t modules leaves)
            (tables_keep_promises t modules leaves whole runs);
        is_top = found.top_is (λ k x e. (no_top t whole k x e).0);
        runs = λ i l. let r = thread_runs i l in found.runs i r.0 (modules i) r.1 r.2;
        slots = found.slots;
        ports = found.ports;
        enable = record { place = 1; signal = input (codes "en") T; is = found.enable; input = refl; wide = refl };
        done = tells_done;
        fits = found.fits;
        stages = staged.0;
        staged = staged.1;
        loopless = no_loop n.modules top (net_level n.modules top staged.0 staged.1) (net_levelled n.modules top staged.0 staged.1);
        banks = bank_at;
        only_banks = only_bank;
      }

pub tables_are_nets : TablesAreNets
tables_are_nets t modules leaves n whole runs wired = is_net_of_table t modules leaves n whole runs wired
