-- Which of the threads that ask is granted: the first at or after a preferred one, and where there is none the first of all.
use Rattle.std.specs.Prelude.{◌≡◌, ℕ, zero, suc, ◌+◌, ◌<◌, Bool, false, not, ◌&&◌, nat_eq, nat_lt, if◌then◌else◌, [], Option, Some, None}
use Rattle.netlist.specs.declared.netlist.Module.{Module}
use Rattle.verilog_meaning.specs.Readings.{Reading, written}
use Rattle.verilog_meaning.specs.Residues.{bit_of}
use Rattle.circuit.specs.Modules.{Obeys, HasInput}

-- the first of n threads from number k on that asks
abbrev pub first_from : (ℕ → Bool) → ℕ → ℕ → Option ℕ
first_from asks k zero = None
first_from asks k (suc n) = if asks k then Some k else first_from asks (k + 1) n

abbrev pub at_or_after : ℕ → (ℕ → Bool) → ℕ → Bool
at_or_after preferred asks k = asks k && not (nat_lt k preferred)

abbrev pub or_else : Option ℕ → Option ℕ → Option ℕ
or_else None o = o
or_else (Some k) o = Some k

-- of n threads
abbrev pub granted_to : ℕ → ℕ → (ℕ → Bool) → Option ℕ
granted_to n preferred asks = or_else (first_from (at_or_after preferred asks) 0 n) (first_from asks 0 n)

abbrev pub is_granted : Option ℕ → ℕ → Bool
is_granted None i = false
is_granted (Some w) i = nat_eq w i

-- where an arbiter has the preferred thread, and for each thread whether it asks and whether it is granted
pub record ArbiterPlaces : Type 0 where
  pub preferred : ℕ
  pub ask : ℕ → ℕ
  pub grant : ℕ → ℕ

-- the arbiter of n threads: an ask is a bit, and so is a grant
pub record Arbitrates (n : ℕ) (p : ArbiterPlaces) (m : Module) : Type 0 where
  pub grants : (r : Reading) (asks : ℕ → Bool) → Obeys m r → ((i : ℕ) → i < n → r.signal (p.ask i) ≡ bit_of (asks i)) → (i : ℕ) → i < n
      → r.signal (p.grant i) ≡ bit_of (is_granted (granted_to n (r.signal p.preferred) asks) i)
  pub preferred_input : HasInput m p.preferred
  pub ask_inputs : (i : ℕ) → i < n → HasInput m (p.ask i)
  pub silent : (r : Reading) → written m r ≡ []
