-- The output ports: rows, one behind the other, each a copy.
use Rattle.std.specs.Prelude.{◌≡◌, ℕ, suc, ◌+◌, ◌<◌, true, false, List, [], ◌∷◌, ◌++◌, length, flat_map, Some, slice_get, slice_index, codes}
use Rattle.netlist.specs.declared.netlist.Value.TheVariants.{Copy}
use Rattle.netlist.specs.declared.netlist.Source.TheVariants.{Assigned}
use Rattle.netlist.specs.declared.netlist.Signal.{Signal}
use Rattle.operator_wires.specs.declared.wires.Role.{Role}
use Rattle.operator_wires.specs.declared.wires.Role.TheVariants.{Ask, Field}
use Rattle.operator_wires.specs.Built.{is_single}
use Rattle.operator_wires.specs.Gives.{Grows}
use Rattle.block_datapath.specs.declared.registers.Held.{Held}
use Rattle.block_datapath.specs.declared.requests.BankRequests.{BankRequests}
use Rattle.block_ir.specs.declared.service.Service.{Service}
use Rattle.thread_slots.specs.declared.shape.Served.{Served}
use Rattle.thread_slots.specs.Requests.{group}
use Rattle.thread_slots.specs.Services.{services, number_width}
use Rattle.thread_slots.specs.declared.requests.Requests.{Requests}
use Rattle.thread_slots.specs.Slots.{StandsAt}
use Rattle.thread_slots.specs.Wired.{field_width}
use Rattle.thread_requests.specs.declared.outputs.Row.{Row}

-- a copy of a signal at a place
abbrev pub CopiesAt : List Signal → ℕ → ℕ → ℕ → Type 0
CopiesAt signals place w of = StandsAt signals place w (Assigned (Copy of))

-- ---- rows

abbrev pub row_of : Role → ℕ → ℕ → Row
row_of role w x = record { role = role; width = w; source = x }

-- whether a core is asked, and what for
abbrev pub request_row : ℕ → Row
request_row x = row_of Ask 1 x

abbrev pub field_row : ℕ → ℕ → Row
field_row w x = row_of Field w x

-- whether a bank is asked, whether it is to write, the address, and a word of this width
abbrev pub bank_rows : ℕ → ℕ → ℕ → ℕ → ℕ → List Row
bank_rows w ask writes address value = request_row ask ∷ field_row 1 writes ∷ field_row 64 address ∷ field_row w value ∷ []

-- bank n
abbrev pub rows_at : List ℕ → BankRequests → ℕ → ℕ → List Row
rows_at asks banks n w = bank_rows w (slice_index asks n) (slice_index banks.writes n) (slice_index banks.addresses n) (slice_index banks.values n)

-- the banks from number n on
abbrev pub rows_from : List ℕ → BankRequests → ℕ → List Held → List (List Row)
rows_from asks banks n [] = []
rows_from asks banks n (h ∷ words) = rows_at asks banks n h.width ∷ rows_from asks banks (suc n) words

-- the fields of a request from number n on, the first of which is so wide
abbrev pub fields_from : ℕ → ℕ → List ℕ → List Row
fields_from first n [] = []
fields_from first n (x ∷ fields) = field_row (field_width first n) x ∷ fields_from first (suc n) fields

-- a core that acts ask
abbrev pub act_rows : Served → ℕ → Requests → Service → List Row
act_rows served ask requests s = request_row ask ∷ fields_from (number_width served s) 0 (group requests s).fields

-- such cores of these kinds, from core number n on
abbrev pub acts_from : Served → List ℕ → Requests → ℕ → List Service → List (List Row)
acts_from served asks requests n [] = []
acts_from served asks requests n (k ∷ kinds) = act_rows served (slice_index asks n) requests k ∷ acts_from served asks requests (suc n) kinds

-- CORE BY CORE: what banks are asked, and what those are that acts ask
abbrev pub rows_of : Served → List Held → List ℕ → Requests → List (List Row)
rows_of served words asks requests = rows_from asks requests.banks 0 words ++ acts_from served asks requests (length words) (services served)

-- one behind the other
abbrev pub joined : List (List Row) → List Row
joined rows = flat_map (λ (own : List Row). own) rows

-- ---- what is laid

-- an output for each of the first n rows
pub record LaysRows (old new : List Signal) (rows : List Row) (n : ℕ) : Type 0 where
  pub grows : Grows old new
  pub long : length new ≡ length old + n
  pub each : (k : ℕ) (row : Row) → k < n → slice_get rows k ≡ Some row → CopiesAt new (length old + k) row.width row.source

-- the names of these rows tell their places
abbrev pub AreNumbered : List Row → Type 0
AreNumbered rows = (k : ℕ) (row : Row) → slice_get rows k ≡ Some row → is_single row.role ≡ false

-- an output of one bit
pub record LaysDone (old new : List Signal) (done : ℕ) : Type 0 where
  pub grows : Grows old new
  pub long : length new ≡ length old + 1
  pub at : CopiesAt new (length old) 1 done

-- an output of the name need stands at a place
pub record IsNeedOutput (signals : List Signal) (place : ℕ) : Type 0 where
  pub signal : Signal
  pub listed : slice_get signals place ≡ Some signal
  pub named : signal.name ≡ codes "need"
  pub flag : signal.is_output ≡ true

-- ALL OUTPUTS: what cores are asked, whether one is needed, and whether the thread is at its end
pub record LaysOutputs (served : Served) (old new : List Signal) (words : List Held) (asks : List ℕ) (requests : Requests) (needs done : ℕ) : Type 0 where
  pub with_rows : List Signal
  pub rows : LaysRows old with_rows (joined (rows_of served words asks requests)) (length (joined (rows_of served words asks requests)))
  pub grows : Grows with_rows new
  pub long : length new ≡ length with_rows + 2
  pub need : CopiesAt new (length with_rows) 1 needs
  pub need_put : IsNeedOutput new (length with_rows)
  pub done_at : CopiesAt new (length with_rows + 1) 1 done
