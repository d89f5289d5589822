-- The module of a bank: its table of rows, its memory and its statements.
use Rattle.std.specs.Prelude.{◌≡◌, ℕ, ◌+◌, ◌^◌, ◌<◌, ◌≤◌, List, [], ◌∷◌, ◌++◌, length, codes}
use Rattle.netlist.specs.declared.netlist.Memory.{Memory}
use Rattle.netlist.specs.declared.netlist.Action.{Action}
use Rattle.netlist.specs.declared.netlist.Effect.TheVariants.{Store}
use Rattle.netlist.specs.declared.netlist.Module.{Module}
use Rattle.circuit.specs.Names.{numbered}
use Rattle.circuit.specs.declared.table.Row.{Row}
use Rattle.circuit.specs.Rows.{EachOf, sets}
use Rattle.circuit.specs.Table.{place, laid}
use Rattle.bank_cores.specs.declared.bank.Shape.{Shape}
use Rattle.bank_cores.specs.Rows as row

-- the name of bank k of a global, and of its memory
abbrev pub bank_name : List ℕ → ℕ → List ℕ
bank_name x k = numbered (codes "bank" ++ 95 ∷ x) k

-- addresses of a width and words of one
abbrev pub rows : ℕ → ℕ → List Row
rows = row.rows

-- where a row of n threads starts
abbrev pub at : ℕ → ℕ → ℕ
at n k = place n (rows 1 1) k

-- where a chain ends
abbrev pub end : ℕ → ℕ → ℕ
end n k = at n k + n

abbrev pub grants : ℕ → ℕ
grants n = at n row.grants

abbrev pub kept : ℕ → ℕ
kept n = at n row.kept

abbrev pub next : ℕ → ℕ
next n = at n row.next

abbrev pub address_chain : ℕ → ℕ
address_chain n = at n row.address

abbrev pub offers : ℕ → ℕ
offers n = at n row.offers

abbrev pub tells : ℕ → ℕ
tells n = at n row.tells

-- a store to the memory under a wire
abbrev pub store_under : ℕ → ℕ → ℕ → Action
store_under test address source = record { conditions = test ∷ []; effect = Store 0 address source }

-- each register takes its next number, and the granted thread's value is stored where it writes
abbrev pub statements : ℕ → List Action
statements n = sets (kept n) (next n) n ++ store_under (end n row.stores) (end n row.address) (end n row.value) ∷ []

abbrev pub memory_of : Shape → Memory
memory_of s = record { name = bank_name s.name s.number; width = s.width; initial = s.initial }

pub record IsShape (s : Shape) : Type 0 where
  pub few : s.threads ≤ 64
  pub some : 1 ≤ length s.initial
  pub addressed : length s.initial < 2 ^ s.address_width
  pub address_high : s.address_width ≤ 64
  pub low : 1 ≤ s.width
  pub high : s.width ≤ 64
  pub fits : EachOf (λ n. n < 2 ^ s.width) s.initial

-- the module of a shape and nothing else
pub record IsBank (s : Shape) (m : Module) : Type 0 where
  pub named : m.name ≡ bank_name s.name s.number
  pub signals : m.signals ≡ laid s.threads (rows s.address_width s.width)
  pub memories : m.memories ≡ memory_of s ∷ []
  pub actions : m.actions ≡ statements s.threads
  pub instances : m.instances ≡ []
