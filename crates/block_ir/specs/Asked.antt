-- What an act of a thread's code asks of a core: the one table of acts, and its value at a slot.
use Rattle.std.specs.Prelude.{ℕ, ◌+◌, Bool, true, false, nat_lt, if◌then◌else◌, List, [], ◌∷◌, map, ℤ, Option, Some, None}
use Rattle.hls_ints.specs.Residues.{residue_of, bit_of}
use Rattle.block_ir.specs.declared.code.Act.{Act}
use Rattle.block_ir.specs.declared.code.Act.TheVariants as act
use Rattle.block_ir.specs.declared.code.ActOperand.{ActOperand}
use Rattle.block_ir.specs.declared.code.ActOperand.TheVariants.{Constant, Variable}
pub use Rattle.block_ir.specs.declared.service.Service.{Service}
pub use Rattle.block_ir.specs.declared.service.Service.TheVariants.{Mutex, Barrier, ThreadIds, Printer}

-- the value of an operand, where the variables have these
abbrev pub act_value : (ℕ → ℤ) → ActOperand → ℤ
act_value variables (Constant ty v) = v
act_value variables (Variable x ty) = variables x

-- the cores of a service, the number that says what is asked of one, and the operands
pub record Request : Type 0 where
  pub service : Service
  pub number : ℕ
  pub operands : List ActOperand

abbrev pub to_mutex : ℕ → ActOperand → Option Request
to_mutex number mutex = Some (record { service = Mutex; number = number; operands = mutex ∷ [] })

-- THE TABLE OF ACTS: what an act asks, of main or of another thread. Main's return alone asks nothing
abbrev pub request_of : Bool → Act → Option Request
request_of main (act.Print site values) = Some (record { service = Printer; number = site; operands = values })
request_of main (act.Create thread argument) = Some (record { service = ThreadIds; number = 0; operands = thread ∷ argument ∷ [] })
request_of main (act.Join thread) = Some (record { service = ThreadIds; number = 1; operands = thread ∷ [] })
request_of main (act.MutexInit mutex) = to_mutex 0 mutex
request_of main (act.MutexLock mutex) = to_mutex 1 mutex
request_of main (act.MutexUnlock mutex) = to_mutex 2 mutex
request_of main (act.MutexDestroy mutex) = to_mutex 3 mutex
request_of main (act.BarrierInit barrier count) = Some (record { service = Barrier; number = 0; operands = barrier ∷ count ∷ [] })
request_of main (act.BarrierWait barrier) = Some (record { service = Barrier; number = 1; operands = barrier ∷ [] })
request_of main (act.BarrierDestroy barrier) = Some (record { service = Barrier; number = 2; operands = barrier ∷ [] })
request_of true act.Return = None
request_of false act.Return = Some (record { service = ThreadIds; number = 2; operands = [] })

-- what is asked: which of the service's cores, the number, and what the core is handed besides, in words of 64 bits
pub record Asked : Type 0 where
  pub service : Service
  pub core : ℕ
  pub number : ℕ
  pub values : List ℕ

-- the first of some words, 0 where there is none
abbrev pub first_word : List ℕ → ℕ
first_word [] = 0
first_word (w ∷ ws) = w

abbrev pub other_words : List ℕ → List ℕ
other_words [] = []
other_words (w ∷ ws) = ws

abbrev pub second_word : List ℕ → ℕ
second_word ws = first_word (other_words ws)

-- the first operand of a mutex's or a barrier's request is the object; thread ids and the printer are one core
abbrev pub asked_with : Service → ℕ → List ℕ → Asked
asked_with Mutex number ws = record { service = Mutex; core = first_word ws; number = number; values = other_words ws }
asked_with Barrier number ws = record { service = Barrier; core = first_word ws; number = number; values = other_words ws }
asked_with ThreadIds number ws = record { service = ThreadIds; core = 0; number = number; values = ws }
asked_with Printer number ws = record { service = Printer; core = 0; number = number; values = ws }

abbrev pub operand_words : (ℕ → ℤ) → List ActOperand → List ℕ
operand_words variables operands = map (λ (o : ActOperand). residue_of 64 (act_value variables o)) operands

abbrev pub value_of : (ℕ → ℤ) → Request → Asked
value_of variables request = asked_with request.service request.number (operand_words variables request.operands)

-- and its value where the variables have these values
abbrev pub asked_at : (ℕ → ℤ) → Option Request → Option Asked
asked_at variables None = None
asked_at variables (Some request) = Some (value_of variables request)

abbrev pub asked : Bool → Act → (ℕ → ℤ) → Option Asked
asked main a variables = asked_at variables (request_of main a)

-- ---- the number of the core that is asked

-- how many cores there are of each kind, in the order banks, mutexes, barriers, thread ids, printer
pub record Numbers : Type 0 where
  pub banks : ℕ
  pub mutexes : ℕ
  pub barriers : ℕ
  pub thread_ids : Bool

abbrev pub mutex_core : Numbers → ℕ → ℕ
mutex_core N n = N.banks + n

abbrev pub barrier_core : Numbers → ℕ → ℕ
barrier_core N n = N.banks + N.mutexes + n

abbrev pub thread_ids_core : Numbers → ℕ
thread_ids_core N = N.banks + N.mutexes + N.barriers

abbrev pub printer_core : Numbers → ℕ
printer_core N = N.banks + N.mutexes + N.barriers + bit_of N.thread_ids

-- the number of the core that is asked, if there is such a one
abbrev pub core_in : Numbers → Service → ℕ → Option ℕ
core_in N Mutex n = if nat_lt n N.mutexes then Some (mutex_core N n) else None
core_in N Barrier n = if nat_lt n N.barriers then Some (barrier_core N n) else None
core_in N ThreadIds n = if N.thread_ids then Some (thread_ids_core N) else None
core_in N Printer n = Some (printer_core N)

abbrev pub core_of : Numbers → Asked → Option ℕ
core_of N a = core_in N a.service a.core
