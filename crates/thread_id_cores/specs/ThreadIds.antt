-- The module of the core of the thread ids: its table of rows, its memories and its statements.
use Rattle.std.specs.Prelude.{◌≡◌, ℕ, ◌+◌, ◌≤◌, replicate, List, [], ◌∷◌, codes}
use Rattle.netlist.specs.declared.netlist.Memory.{Memory}
use Rattle.netlist.specs.declared.netlist.Action.{Action}
use Rattle.netlist.specs.declared.netlist.Effect.TheVariants.{Store}
use Rattle.netlist.specs.declared.netlist.Module.{Module}
use Rattle.circuit.specs.declared.table.Row.{Row}
use Rattle.circuit.specs.Table.{place, laid}
use Rattle.thread_id_cores.specs.declared.thread_ids.Shape.{Shape}
use Rattle.thread_id_cores.specs.Rows as row

abbrev pub rows : List Row
rows = row.rows

-- where a row of n threads starts
abbrev pub at : ℕ → ℕ → ℕ
at n k = place n rows k

abbrev pub grants : ℕ → ℕ
grants n = at n row.grants

abbrev pub zero_code : ℕ → ℕ
zero_code n = at n row.zero_code

abbrev pub going_chain : ℕ → ℕ
going_chain n = at n row.going

abbrev pub offers : ℕ → ℕ
offers n = at n row.offers

abbrev pub tells : ℕ → ℕ
tells n = at n row.tells

abbrev pub handed : ℕ → ℕ
handed n = at n row.handed

-- where a chain ends
abbrev pub end : ℕ → ℕ → ℕ
end n k = at n k + n

-- a store to a memory under a wire
abbrev pub store_under : ℕ → ℕ → ℕ → ℕ → Action
store_under memory test address source = record { conditions = test ∷ []; effect = Store memory address source }

-- a grant stores a status, and that of a create an argument too
abbrev pub statements : ℕ → List Action
statements n = store_under 0 (end n row.going) (end n row.target) (end n row.value) ∷ store_under 1 (end n row.create) (end n row.target) (end n row.argument) ∷ []

-- for each thread 0 unused, 1 running, 2 finished
abbrev pub status_memory : ℕ → Memory
status_memory n = record { name = codes "status_0"; width = 2; initial = replicate n 0 }

abbrev pub argument_memory : ℕ → Memory
argument_memory n = record { name = codes "argument_0"; width = 64; initial = replicate n 0 }

pub record IsShape (s : Shape) : Type 0 where
  pub few : s.threads ≤ 64
  pub some : 1 ≤ s.threads

-- the module of a shape and nothing else
pub record IsThreadIdsModule (s : Shape) (m : Module) : Type 0 where
  pub named : m.name ≡ codes "forkjoin"
  pub signals : m.signals ≡ laid s.threads rows
  pub memories : m.memories ≡ status_memory s.threads ∷ argument_memory s.threads ∷ []
  pub actions : m.actions ≡ statements s.threads
  pub instances : m.instances ≡ []
