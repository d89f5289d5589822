-- What each bank is asked: links are laid for globals, each as if it stood in one bank, and behind them the bank of an index is chosen.
use Rattle.std.specs.Prelude.{◌≡◌, ℕ, ◌+◌, ◌/◌, ◌%◌, ◌<◌, ◌≤◌, ◌^◌, nat_eq, if◌then◌else◌, List, length, take, Some, slice_get, slice_index}
use Rattle.bank_partition.specs.declared.banks.Spread.{Spread}
use Rattle.netlist.specs.declared.netlist.Value.TheVariants.{Constant}
use Rattle.netlist.specs.declared.netlist.Source.TheVariants.{Assigned}
use Rattle.netlist.specs.declared.netlist.Signal.{Signal}
use Rattle.netlist.specs.declared.netlist.Module.{Module}
use Rattle.verilog_meaning.specs.Readings.{Reading, width}
use Rattle.circuit.specs.Modules.{Obeys}
use Rattle.operator_wires.specs.Gives.{Grows}
use Rattle.operator_wires.specs.Built.{Base, IsEarlier, AreWires}
use Rattle.block_datapath.specs.Globals.{IsSmallPower, bank_total}
use Rattle.block_datapath.specs.declared.registers.Held.{Held}
use Rattle.block_datapath.specs.declared.requests.BankRequests.{BankRequests}
use Rattle.block_datapath.specs.Wired.{HasWidthAt}
use Rattle.block_datapath.specs.Requests.{AreAsMany, AreBankChains, AddsBankLinks}
use Rattle.thread_slots.specs.Bits.{AddsBits}

-- ---- globals, each in one bank

-- the bank of a global whose number is the global's
abbrev pub own_bank : ℕ → Spread
own_bank x = record { first = x; count = 1; length = 1 }

pub record AreOneEach (n : ℕ) (spreads : List Spread) : Type 0 where
  pub count : length spreads ≡ n
  pub each : (x : ℕ) → x < n → slice_get spreads x ≡ Some (own_bank x)

-- ---- the bank of an index

-- the number of bank k of the global x, where banks stand global by global
abbrev pub bank_number : List Spread → ℕ → ℕ → ℕ
bank_number spreads x k = bank_total (take x spreads) + k

-- a wire that always shows 0
pub record IsNever (signals : List Signal) (place : ℕ) : Type 0 where
  pub signal : Signal
  pub listed : slice_get signals place ≡ Some signal
  pub is : signal.source ≡ Assigned (Constant 0)

-- what bank k of so many shows that is wanted, where the global is, at an index
abbrev pub wanted_at : ℕ → ℕ → ℕ → ℕ → ℕ
wanted_at count index want k = if nat_eq (index % count) k then want else 0

-- a signal of so many bits
pub record HasBits (m : Module) (r : Reading) (place bits : ℕ) : Type 0 where
  pub wide : width m place ≡ bits
  pub fits : r.signal place < 2 ^ bits

-- the first n numbers, each by a bit of its own: the one bit where a signal of so many bits shows it, else the other
pub record AreChosen (old new : List Signal) (want last never bits n : ℕ) (places : List ℕ) : Type 0 where
  pub grows : Grows old new
  pub count : length places ≡ n
  pub shows : (m : Module) (r : Reading) (k : ℕ) → Grows new m.signals → Obeys m r → k < n → n ≤ 2 ^ bits → HasBits m r last bits →
      r.signal (slice_index places k) ≡ (if nat_eq (r.signal last) k then r.signal want else r.signal never)
  pub wired : (base : Base) → n ≤ 2 ^ bits → IsEarlier old base last bits → IsEarlier old base want 1 → IsEarlier old base never 1 → AddsBits base old new places

-- whether each of count banks is wanted
pub record AreOwnWants (old new : List Signal) (want index count : ℕ) (places : List ℕ) : Type 0 where
  pub grows : Grows old new
  pub many : length places ≡ count
  pub shows : (m : Module) (r : Reading) (k : ℕ) → Grows new m.signals → Obeys m r → IsSmallPower count → k < count →
      r.signal (slice_index places k) ≡ wanted_at count (r.signal index) (r.signal want) k
  pub wired : (base : Base) → IsSmallPower count → IsEarlier old base want 1 → IsEarlier old base index 64 → AddsBits base old new places

-- ---- global by global

module _ (spreads : List Spread) where
  -- whether each bank of the first n globals is wanted
  pub record AreWants (wants indices : List ℕ) (old new : List Signal) (n : ℕ) (places : List ℕ) : Type 0 where
    pub grows : Grows old new
    pub count : length places ≡ bank_total (take n spreads)
    pub shows : (m : Module) (r : Reading) (x k : ℕ) (s : Spread) → Grows new m.signals → Obeys m r → x < n → slice_get spreads x ≡ Some s → IsSmallPower s.count → k < s.count →
        r.signal (slice_index places (bank_number spreads x k)) ≡ wanted_at s.count (r.signal (slice_index indices x)) (r.signal (slice_index wants x)) k
    pub wired : (base : Base) → ((x : ℕ) (s : Spread) → slice_get spreads x ≡ Some s → IsSmallPower s.count)
        → ((x : ℕ) → x < n → IsEarlier old base (slice_index wants x) 1) → ((x : ℕ) → x < n → IsEarlier old base (slice_index indices x) 64) → AddsBits base old new places

  -- signals of 64 bits are added
  pub record AddsLongs (base : Base) (old new : List Signal) (places : List ℕ) : Type 0 where
    pub wires : AreWires base old new
    pub stand : (k y : ℕ) → slice_get places k ≡ Some y → IsEarlier new base y 64

  -- for each of the first n globals the address of an index in its bank
  pub record AreAddresses (indices : List ℕ) (old new : List Signal) (n : ℕ) (places : List ℕ) : Type 0 where
    pub grows : Grows old new
    pub count : length places ≡ n
    pub shows : (m : Module) (r : Reading) (x : ℕ) (s : Spread) → Grows new m.signals → Obeys m r → x < n → slice_get spreads x ≡ Some s → IsSmallPower s.count →
        r.signal (slice_index indices x) < 2 ^ 64 → r.signal (slice_index places x) ≡ r.signal (slice_index indices x) / s.count
    pub wired : (base : Base) → ((x : ℕ) → x < n → IsEarlier old base (slice_index indices x) 64) → AddsLongs base old new places

  -- registers of so many banks: bits, addresses, and words as wide as those of their global
  pub record AreSpread (own all_bits all_wide all_own : List Held) : Type 0 where
    pub bit_count : length all_bits ≡ bank_total spreads
    pub wide_count : length all_wide ≡ bank_total spreads
    pub own_count : length all_own ≡ bank_total spreads
    pub bits : (k : ℕ) → HasWidthAt all_bits k 1
    pub wide : (k : ℕ) → HasWidthAt all_wide k 64
    pub own_wide : (x k : ℕ) (s : Spread) (g : Held) → slice_get spreads x ≡ Some s → k < s.count → slice_get own x ≡ Some g → HasWidthAt all_own (bank_number spreads x k) g.width

  -- WHAT EACH BANK IS ASKED, by what is asked of each global
  pub record SpreadsRequests (old new : List Signal) (whole banks : BankRequests) : Type 0 where
    pub grows : Grows old new
    pub many : AreAsMany (length spreads) whole → AreAsMany (bank_total spreads) banks
    pub wants : (m : Module) (r : Reading) (x k : ℕ) (s : Spread) → Grows new m.signals → Obeys m r → slice_get spreads x ≡ Some s → IsSmallPower s.count → k < s.count →
        r.signal (slice_index banks.wants (bank_number spreads x k)) ≡ wanted_at s.count (r.signal (slice_index whole.addresses x)) (r.signal (slice_index whole.wants x)) k
    pub writes : (x k : ℕ) (s : Spread) → AreAsMany (length spreads) whole → slice_get spreads x ≡ Some s → k < s.count →
        slice_index banks.writes (bank_number spreads x k) ≡ slice_index whole.writes x
    pub addresses : (m : Module) (r : Reading) (x k : ℕ) (s : Spread) → Grows new m.signals → Obeys m r → AreAsMany (length spreads) whole → slice_get spreads x ≡ Some s →
        IsSmallPower s.count → k < s.count → r.signal (slice_index whole.addresses x) < 2 ^ 64 →
        r.signal (slice_index banks.addresses (bank_number spreads x k)) ≡ r.signal (slice_index whole.addresses x) / s.count
    pub values : (x k : ℕ) (s : Spread) → AreAsMany (length spreads) whole → slice_get spreads x ≡ Some s → k < s.count →
        slice_index banks.values (bank_number spreads x k) ≡ slice_index whole.values x
    pub wired : (base : Base) (bits wide own all_bits all_wide all_own : List Held) → AreAsMany (length spreads) whole →
        AreBankChains old base bits wide own whole →
        ((x : ℕ) (s : Spread) → slice_get spreads x ≡ Some s → IsSmallPower s.count) → ((k : ℕ) → HasWidthAt bits k 1) → ((k : ℕ) → HasWidthAt wide k 64) →
        AreSpread own all_bits all_wide all_own → AddsBankLinks base old new all_bits all_wide all_own banks
