-- Nothing in the net of a program's modules and cores is called by a reserved word, where nothing in the modules of its threads is.
use Rattle.std.proofs.Common.{◌≡◌, ℕ, zero, suc, ◌+◌, ◌*◌, List, [], ◌∷◌, ◌++◌, length, map, take, Bool, true, false, Some, refl, sym, ◌∙◌, subst, codes, arith}
use Rattle.std.specs.Prelude.{slice_get}
use Rattle.std.proofs.lemmas.Option.{same_Some, slice_get_within}
use Rattle.lists.proofs.Places.{get_there}
use Rattle.verilog_tree.specs.Reads.{Each}
use Rattle.netlist.specs.declared.netlist.Signal.{Signal}
use Rattle.netlist.specs.declared.netlist.Memory.{Memory}
use Rattle.netlist.specs.declared.netlist.Instance.{Instance}
use Rattle.netlist.specs.declared.netlist.Module.{Module}
use Rattle.netlist.specs.declared.netlist.Netlist.{Netlist}
use Rattle.netlist.specs.Laid.{signal_names, memory_names, instance_names}
use Rattle.circuit.specs.declared.rows.Role.{Role}
use Rattle.circuit.specs.declared.rows.Role.TheVariants as role
use Rattle.circuit.specs.declared.table.Row.{Row}
use Rattle.circuit.specs.declared.table.Row.TheVariants.{One, Each as EachThread, Many, Chain, Chains}
use Rattle.circuit.specs.declared.table.Form.{Form}
use Rattle.circuit.specs.Rows.{spread, stem_of, name_of}
use Rattle.circuit.specs.Table as rows
use Rattle.bank_arbiter.specs.Arbiter as arbiter
use Rattle.bank_cores.specs.Bank as bank
use Rattle.mutex_cores.specs.Mutex as mutex
use Rattle.barrier_cores.specs.Barrier as barrier
use Rattle.thread_id_cores.specs.ThreadIds as thread_ids
use Rattle.printer_cores.specs.Printer as printer
use Rattle.core_tables.specs.Family.{CoreKind, Bank, Mutex, Barrier, ThreadIds, Printer, IsTable}
use Rattle.core_tables.specs.Tables.{PlacedCore, core_name, kinds_at, laid_core, layout_of, modules_of}
use Rattle.top_parts.specs.declared.layout.Core.{Core}
use Rattle.top_parts.specs.declared.layout.Layout.{Layout}
use Rattle.top_wiring.specs.Parts.{each_from, ask_widths, parts}
use Rattle.top_parts.specs.Wires.{wire_signal}
use Rattle.top_wiring.specs.Top.{preference, thread_instance, core_instance, arbiter_instance, all_wires, starts, threads, cores, IsTop}
use Rattle.top_wiring.specs.Round.{IsRound}
use Rattle.law_cycle.specs.Cores.{Cores}
use Rattle.net_emitter.specs.Placing.{AreKinds, distinct, placed}
use Rattle.net_emitter.specs.Written.{table_of, IsTextOf}
use Rattle.net_emitter.specs.Portable.{reserved_words, IsFree, IsFreelyNamed, HasFreeNames}
use Rattle.net_emitter.proofs.EachOfLists as each
use Rattle.net_emitter.proofs.EachOfLists.{each_append, each_mapped}
use Rattle.net_emitter.proofs.ReservedWords.{numbered_free}

clk_free : IsFree (codes "clk")
unfolding reserved_words
clk_free = refl

en_free : IsFree (codes "en")
unfolding reserved_words
en_free = refl

done_free : IsFree (codes "done")
unfolding reserved_words
done_free = refl

-- ---- modules by their parts

abbrev IsFreeSignal : Signal → Type 0
IsFreeSignal s = IsFree s.name

abbrev IsFreeMemory : Memory → Type 0
IsFreeMemory c = IsFree c.name

abbrev IsFreeInstance : Instance → Type 0
IsFreeInstance n = IsFree n.name

pub freely_named : (m : Module) → IsFree m.name → Each IsFreeSignal m.signals → Each IsFreeMemory m.memories → Each IsFreeInstance m.instances → IsFreelyNamed m
freely_named m name signals memories instances = record {
  name = name;
  declared = each_append IsFree (signal_names m ++ memory_names m) (instance_names m)
      (each_append IsFree (signal_names m) (memory_names m) (each_mapped IsFree (λ (s : Signal). s.name) m.signals signals)
      (each_mapped IsFree (λ (c : Memory). c.name) m.memories memories))
      (each_mapped IsFree (λ (n : Instance). n.name) m.instances instances);
}

each_spread : {X : Type 0} (P : X → Type 0) (f : ℕ → X) → ((i : ℕ) → P (f i)) → (i n : ℕ) → Each P (spread f i n)
each_spread P f h i zero = tt
each_spread P f h i (suc n) = (h i, each_spread P f h (i + 1) n)

each_numbered : {X Y : Type 0} (P : Y → Type 0) (f : ℕ → X → Y) → ((i : ℕ) (x : X) → P (f i x)) → (i : ℕ) (xs : List X) → Each P (each_from f i xs)
each_numbered P f h i [] = tt
each_numbered P f h i (x ∷ xs) = (h i x, each_numbered P f h (i + 1) xs)

-- ---- tables of rows

role_free : (r : Role) (place : ℕ) → IsFree (name_of r place)
role_free role.Clock place = clk_free
role_free r place = numbered_free (stem_of r) place

module _ (n : ℕ) (at : ℕ → ℕ) where
  several : (place count : ℕ) (r : Role) (w : ℕ) (f : Form) → Each IsFreeSignal (rows.signals_from n at place count r w f)
  several place count r w f = each_spread IsFreeSignal (λ i. rows.signal_at n at (place + i) r w f i) (λ i. role_free r (place + i)) 0 count

  row_free : (place : ℕ) (r : Row) → Each IsFreeSignal (rows.row_signals n at place r)
  row_free place (One r w f) = (role_free r place, tt)
  row_free place (EachThread r w f) = several place n r w f
  row_free place (Many size r w f) = several place (rows.size_of n size) r w f
  row_free place (Chain r w first step) = (role_free r place, several (place + 1) n r w step)
  row_free place (Chains count r w first step) =
      each_append IsFreeSignal (rows.signals_from n at place count r w first) (rows.signals_from n at (place + count) (n * count) r w step)
      (several place count r w first) (several (place + count) (n * count) r w step)

  rows_free : (place : ℕ) (rs : List Row) → Each IsFreeSignal (rows.laid_from n at place rs)
  rows_free place [] = tt
  rows_free place (r ∷ rs) =
      each_append IsFreeSignal (rows.row_signals n at place r) (rows.laid_from n at (rows.row_end n place r) rs) (row_free place r)
      (rows_free (rows.row_end n place r) rs)

table_free : (n : ℕ) (rs : List Row) → Each IsFreeSignal (rows.laid n rs)
table_free n rs = rows_free n (rows.place n rs) 0 rs

abbrev Signals : List Signal → Type 0
Signals = Each IsFreeSignal

abbrev Memories : List Memory → Type 0
Memories = Each IsFreeMemory

abbrev Instances : List Instance → Type 0
Instances = Each IsFreeInstance

arbiter_name_free : IsFree (codes "arbiter")
unfolding reserved_words
arbiter_name_free = refl

arbiter_free : (n : ℕ) (m : Module) → arbiter.IsArbiter n m → IsFreelyNamed m
arbiter_free n m is =
    freely_named m (subst IsFree (sym is.named) arbiter_name_free) (subst Signals (sym is.signals) (table_free n arbiter.rows)) (subst Memories (sym is.memories) tt)
    (subst Instances (sym is.instances) tt)

-- ---- cores

mutex_name_free : (b : Bool) → IsFree (mutex.mutex_name b)
unfolding reserved_words
mutex_name_free true = refl
mutex_name_free false = refl

barrier_name_free : IsFree (codes "barrier")
unfolding reserved_words
barrier_name_free = refl

thread_ids_name_free : IsFree (codes "forkjoin")
unfolding reserved_words
thread_ids_name_free = refl

thread_ids_memories_free : IsFree (codes "status_0") × IsFree (codes "argument_0")
unfolding reserved_words
thread_ids_memories_free = (refl, refl)

printer_name_free : IsFree (codes "printer")
unfolding reserved_words
printer_name_free = refl

kind_free : (s : CoreKind) (m : Module) → IsTable s m → IsFreelyNamed m
kind_free (Bank s) m is =
    let name = numbered_free (codes "bank" ++ 95 ∷ s.name) s.number in
    freely_named m (subst IsFree (sym is.named) name) (subst Signals (sym is.signals) (table_free s.threads (bank.rows s.address_width s.width)))
    (subst Memories (sym is.memories) (name, tt)) (subst Instances (sym is.instances) tt)
kind_free (Mutex s) m is =
    freely_named m (subst IsFree (sym is.named) (mutex_name_free s.initialised)) (subst Signals (sym is.signals) (table_free s.threads (mutex.rows s.initialised)))
    (subst Memories (sym is.memories) tt) (subst Instances (sym is.instances) tt)
kind_free (Barrier s) m is =
    freely_named m (subst IsFree (sym is.named) barrier_name_free) (subst Signals (sym is.signals) (table_free s.threads barrier.rows))
    (subst Memories (sym is.memories) tt) (subst Instances (sym is.instances) tt)
kind_free (ThreadIds s) m is =
    freely_named m (subst IsFree (sym is.named) thread_ids_name_free) (subst Signals (sym is.signals) (table_free s.threads thread_ids.rows))
    (subst Memories (sym is.memories) (thread_ids_memories_free.0, (thread_ids_memories_free.1, tt))) (subst Instances (sym is.instances) tt)
kind_free (Printer s) m is =
    freely_named m (subst IsFree (sym is.named) printer_name_free) (subst Signals (sym is.signals) (table_free s.threads (printer.table_of s)))
    (subst Memories (sym is.memories) tt) (subst Instances (sym is.instances) tt)

kinds_free : (w : Cores) (kinds : List Module) → AreKinds w kinds → Each IsFreelyNamed kinds
kinds_free w kinds are = each.each_from IsFreelyNamed kinds (λ j m e.
    let s = get_there (distinct w) j (let l = slice_get_within kinds j m e in let c = are.are.count in omega (arith, l, c)) in
    let h = are.are.each j s.0 s.1 in
    subst IsFreelyNamed (same_Some h.body m (sym h.listed ∙ e)) (kind_free s.0 h.body h.is.table))

-- ---- the outermost modules

thread_ids_instance_free : IsFree (codes "ufork_0")
unfolding reserved_words
thread_ids_instance_free = refl

printer_instance_free : IsFree (codes "uprinter_0")
unfolding reserved_words
printer_instance_free = refl

core_name_free : (s : CoreKind) (number : ℕ) → IsFree (core_name s number)
core_name_free (Bank s) number = numbered_free (codes "u_" ++ s.name) s.number
core_name_free (Mutex s) number = numbered_free (codes "umutex") number
core_name_free (Barrier s) number = numbered_free (codes "ubarrier") number
core_name_free (ThreadIds s) number = thread_ids_instance_free
core_name_free (Printer s) number = printer_instance_free

abbrev IsFreeCore : Core → Type 0
IsFreeCore c = IsFree c.name

cores_free : (first : ℕ) (cs : List PlacedCore) → Each IsFreeCore (map (laid_core first) cs)
cores_free first [] = tt
cores_free first (c ∷ cs) = (core_name_free c.kind c.number, cores_free first cs)

core_instances : (f : ℕ → Core → Instance) → ((i : ℕ) (c : Core) → (f i c).name ≡ c.name) → (i : ℕ) (cs : List Core) → Each IsFreeCore cs → Instances (each_from f i cs)
core_instances f same i [] h = tt
core_instances f same i (c ∷ cs) h = (subst IsFree (sym (same i c)) h.0, core_instances f same (i + 1) cs h.1)

top_name : IsFree (codes "top")
unfolding reserved_words
top_name = refl

module _ (modules : List Module) (layout : Layout) (m : Module) (is : IsTop modules layout m) (named : Each IsFreeCore layout.cores) where
  abbrev T : ℕ
  T = threads modules layout

  abbrev K : ℕ
  K = cores modules layout

  wires_free : Signals (each_from wire_signal (2 + K) (all_wires modules layout))
  wires_free = each_numbered IsFreeSignal wire_signal (λ i w. numbered_free (codes "w") i) (2 + K) (all_wires modules layout)

  pub top_free : IsFreelyNamed m
  top_free =
      let s = starts modules layout in
      let all = parts layout in
      let core : ℕ → Core → Instance = λ k c. core_instance s T K all (length (ask_widths (take k layout.cores))) k c in
      let a = each_from (thread_instance s T K all layout.cores) 0 layout.threads in
      let b = each_from core 0 layout.cores in
      let c = spread (arbiter_instance s T K all layout.arbiter) 0 K in
      freely_named m (subst IsFree (sym is.named) top_name)
      (subst Signals (sym is.signals) (
        clk_free,
        (
          en_free,
          each_append IsFreeSignal (spread preference 0 K ++ each_from wire_signal (2 + K) (all_wires modules layout)) _
              (each_append IsFreeSignal (spread preference 0 K) (each_from wire_signal (2 + K) (all_wires modules layout))
              (each_spread IsFreeSignal preference (λ k. numbered_free (codes "pref") k) 0 K) wires_free) (done_free, tt),
        ),
      ))
      (subst Memories (sym is.memories) tt)
      (subst Instances (sym is.instances)
      (each_append IsFreeInstance (a ++ b) c
      (each_append IsFreeInstance a b (each_numbered IsFreeInstance (thread_instance s T K all layout.cores) (λ i x. numbered_free (codes "t") i) 0 layout.threads)
      (core_instances core (λ i x. refl) 0 layout.cores named))
      (each_spread IsFreeInstance (arbiter_instance s T K all layout.arbiter) (λ k. numbered_free (codes "arbiter") k) 0 K)))

round_name_free : IsFree (codes "top_rr")
unfolding reserved_words
round_name_free = refl

round_free : (n top done k : ℕ) (m : Module) → IsRound n top done k m → IsFreelyNamed m
round_free n top done k m is =
    freely_named m (subst IsFree (sym is.named) round_name_free)
    (subst Signals (sym is.signals) (
      clk_free,
      (
        numbered_free (codes "counter") 1,
        (
          numbered_free (codes "w") 2,
          (
            numbered_free (codes "w") 3,
            (
              numbered_free (codes "w") 4,
              (numbered_free (codes "w") 5, (numbered_free (codes "w") 6, (numbered_free (codes "w") 7, (done_free, tt)))),
            ),
          ),
        ),
      ),
    ))
    (subst Memories (sym is.memories) tt) (subst Instances (sym is.instances) (numbered_free (codes "dut") 0, tt))

-- ---- the net

pub text_is_free : (numbers : List ℕ) (routines : List Module) (w : Cores) (n : Netlist) (text : List ℕ) → IsTextOf numbers routines w n text →
    ((k : ℕ) (m : Module) → slice_get routines k ≡ Some m → IsFreelyNamed m) → HasFreeNames n
text_is_free numbers routines w n text is free =
    let t = table_of numbers routines is.arbiter w is.kinds in
    let wired = is.written.wired in
    subst (Each IsFreelyNamed) (sym wired.are)
    (each_append IsFreelyNamed (modules_of t ++ wired.top ∷ []) (wired.round ∷ [])
    (each_append IsFreelyNamed (modules_of t) (wired.top ∷ [])
    (each_append IsFreelyNamed routines (is.arbiter ∷ is.kinds) (each.each_from IsFreelyNamed routines free)
    (arbiter_free w.threads is.arbiter is.granting.table, kinds_free w is.kinds is.are))
    (top_free (modules_of t) (layout_of t) wired.top wired.is_top (cores_free (kinds_at t) (placed w)), tt))
    (round_free _ _ _ _ wired.round wired.is_round, tt))
