-- The module top as lists: its signals and its instances.
use Rattle.std.specs.Prelude.{◌≡◌, ℕ, ◌+◌, ◌*◌, ◌-◌, ◌^◌, ◌<◌, ◌≤◌, true, false, List, [], ◌∷◌, ◌++◌, length, take, slice_get, slice_index, codes}
use Rattle.netlist.specs.declared.netlist.Value.TheVariants.{Copy}
use Rattle.netlist.specs.declared.netlist.Source.TheVariants.{Input, Assigned}
use Rattle.netlist.specs.declared.netlist.Signal.{Signal}
use Rattle.netlist.specs.declared.netlist.Instance.{Instance}
use Rattle.netlist.specs.declared.netlist.Module.{Module}
use Rattle.verilog_meaning.specs.Names.{numbered}
use Rattle.circuit.specs.Rows.{spread, EachOf}
use Rattle.top_parts.specs.declared.layout.Group.{Group}
use Rattle.top_parts.specs.declared.layout.Core.{Core}
use Rattle.top_parts.specs.declared.layout.Layout.{Layout}
use Rattle.top_parts.specs.declared.parts.Part.{Part}
use Rattle.top_parts.specs.declared.wires.Wire.{Wire}
use Rattle.top_parts.specs.Parts.{each_from, flat_from, flat_spread, group_widths, ask_widths, told_widths, output_count, parts}
use Rattle.top_parts.specs.Wires.{enables, blocks, starts_from, wire_signal}

-- ---- signals

abbrev pub input : List ℕ → ℕ → Signal
input name width = record { name = name; width = width; is_output = false; source = Input }

abbrev pub preference : ℕ → Signal
preference k = input (numbered (codes "pref") k) 6

abbrev pub output : ℕ → Signal
output place = record { name = codes "done"; width = 1; is_output = true; source = Assigned (Copy place) }

abbrev pub top_signals : ℕ → ℕ → List Wire → ℕ → List Signal
top_signals n k wires done =
    input (codes "clk") 1 ∷ input (codes "en") n ∷ [] ++ spread preference 0 k ++ each_from wire_signal (2 + k) wires ++ output done ∷ []

-- ---- instances

-- so many places from a first one on
abbrev pub run : ℕ → ℕ → List ℕ
run first n = spread (λ x. first + x) 0 n

-- the wires of instance j
abbrev pub outputs_at : List ℕ → List Part → ℕ → List ℕ
outputs_at starts all j = run (slice_index starts j) (output_count (slice_get all j))

-- where the wires of instances start; so many threads and cores. The instances are the threads, the cores, the arbiters
module _ (starts : List ℕ) (threads cores : ℕ) where
  -- whether core k grants thread i
  abbrev pub grant_places : ℕ → ℕ → ℕ
  grant_places i k = slice_index starts (threads + cores + k) + i

  -- what core k tells thread i: so many numbers
  abbrev pub told_places : ℕ → ℕ → ℕ → List ℕ
  told_places i k n = spread (λ j. slice_index starts (threads + k) + (threads + (j * threads + i))) 0 n

  abbrev pub thread_inputs : List Core → ℕ → List ℕ
  thread_inputs all i =
      0 ∷ (2 + cores + i) ∷ [] ++ spread (grant_places i) 0 cores ++ flat_from (λ k (c : Core). told_places i k (length c.told)) 0 all

  -- what each thread asks, group after group, where so many numbers are asked of earlier cores
  abbrev pub group_places : ℕ → List Group → ℕ → Group → List ℕ
  group_places asked groups k g = flat_spread (λ i. run (slice_index starts i + (asked + length (group_widths (take k groups)))) g.count) 0 threads

  abbrev pub core_inputs : ℕ → ℕ → List Group → List ℕ
  core_inputs asked k groups = 0 ∷ [] ++ flat_from (group_places asked groups) 0 groups ++ run (slice_index starts (threads + cores + k)) threads

  abbrev pub arbiter_inputs : ℕ → List ℕ
  arbiter_inputs k = 0 ∷ (2 + k) ∷ [] ++ run (slice_index starts (threads + k)) threads

  module _ (all : List Part) where
    abbrev pub thread_instance : List Core → ℕ → ℕ → Instance
    thread_instance list i number = record {
      name = numbered (codes "t") i;
      of = number;
      inputs = thread_inputs list i;
      outputs = outputs_at starts all i;
    }

    abbrev pub core_instance : ℕ → ℕ → Core → Instance
    core_instance asked k c = record {
      name = c.name;
      of = c.module;
      inputs = core_inputs asked k c.groups;
      outputs = outputs_at starts all (threads + k);
    }

    abbrev pub arbiter_instance : ℕ → ℕ → Instance
    arbiter_instance number k = record {
      name = numbered (codes "arbiter") k;
      of = number;
      inputs = arbiter_inputs k;
      outputs = outputs_at starts all (threads + cores + k);
    }

    abbrev pub instances_of : Layout → List Instance
    instances_of layout =
        each_from (thread_instance layout.cores) 0 layout.threads
        ++ each_from (λ k c. core_instance (length (ask_widths (take k layout.cores))) k c) 0 layout.cores
        ++ spread (arbiter_instance layout.arbiter) 0 (length layout.cores)

-- ---- the module

module _ (modules : List Module) (layout : Layout) where
  abbrev pub threads : ℕ
  threads = length layout.threads

  abbrev pub cores : ℕ
  cores = length layout.cores

  abbrev pub all_wires : List Wire
  all_wires = enables threads ++ blocks modules (parts layout)

  abbrev pub starts : List ℕ
  starts = starts_from (2 + cores + length (enables threads)) (parts layout)

  -- the last wire of thread 0
  abbrev pub done_place : ℕ
  done_place = slice_index starts 0 + (output_count (slice_get (parts layout) 0) - 1)

  -- the module of these signals and instances and nothing else
  pub record IsTop (m : Module) : Type 0 where
    pub named : m.name ≡ codes "top"
    pub signals : m.signals ≡ top_signals threads cores all_wires done_place
    pub memories : m.memories ≡ []
    pub actions : m.actions ≡ []
    pub instances : m.instances ≡ instances_of starts threads cores (parts layout) layout

-- ---- numbers that leave room

abbrev pub HasFewTold : Core → Type 0
HasFewTold c = length c.told < 2 ^ 16

abbrev pub IsFewGroup : Group → Type 0
IsFewGroup g = g.count < 2 ^ 16

abbrev pub HasFewGroups : Core → Type 0
HasFewGroups c = EachOf IsFewGroup c.groups

-- 1 to 64 threads, fewer than 2 ^ 16 cores, each of which has groups of fewer than 2 ^ 16 numbers and tells fewer than
-- 2 ^ 16 numbers, and fewer than 2 ^ 20 numbers that a thread asks with, and that it is told
pub record IsSmall (layout : Layout) : Type 0 where
  pub some : 1 ≤ length layout.threads
  pub few_threads : length layout.threads ≤ 64
  pub few_cores : length layout.cores < 2 ^ 16
  pub few_told : EachOf HasFewTold layout.cores
  pub few_groups : EachOf HasFewGroups layout.cores
  pub few_asks : length (ask_widths layout.cores) < 2 ^ 20
  pub few_news : length (told_widths layout.cores) < 2 ^ 20
