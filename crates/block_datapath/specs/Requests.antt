-- What banks are asked, by wires that read registers alone: the bank of an index, the address in it, and chains of what each bank is asked.
use Rattle.std.specs.Prelude.{◌≡◌, ℕ, ◌+◌, ◌/◌, ◌%◌, ◌^◌, ◌<◌, ◌≤◌, nat_eq, Bool, ◌&&◌, nat_lt, if◌then◌else◌, List, length, replicate, Some, slice_get}
use Rattle.hls_ints.specs.Residues.{bit_of}
use Rattle.bank_partition.specs.declared.banks.Spread.{Spread}
use Rattle.thread_promise.specs.Globals.{IsSmallPower}
use Rattle.netlist.specs.declared.netlist.Signal.{Signal}
use Rattle.netlist.specs.declared.netlist.Module.{Module}
use Rattle.verilog_meaning.specs.Readings.{Reading, width}
use Rattle.operator_wires.specs.Modules.{Obeys}
use Rattle.operator_wires.specs.Gives.{Grows}
use Rattle.operator_wires.specs.Built.{Base, IsEarlier, AreWires}
use Rattle.block_datapath.specs.declared.registers.Held.{Held}
use Rattle.block_datapath.specs.Wired.{AreChains, AddsLinks, HasWidthAt}
use Rattle.block_datapath.specs.Chains.{next_number}
use Rattle.block_datapath.specs.declared.requests.BankRequests.{BankRequests}
use Rattle.block_datapath.specs.declared.requests.BankAccess.{BankAccess}

-- ---- indices of 64 bits

-- a bit that tells whether the last bits of an index are this number
pub record TellsBank (old new : List Signal) (index bits number place : ℕ) : Type 0 where
  pub grows : Grows old new
  pub wide : (m : Module) → Grows new m.signals → width m place ≡ 1
  pub shows : (m : Module) (r : Reading) → Grows new m.signals → Obeys m r → width m index ≡ 64 → number < 2 ^ bits →
      r.signal place ≡ bit_of (nat_eq (r.signal index % 2 ^ bits) number)

-- the other bits of an index
pub record AddressesBank (old new : List Signal) (index bits place : ℕ) : Type 0 where
  pub grows : Grows old new
  pub wide : (m : Module) → Grows new m.signals → width m index ≡ 64 → width m place ≡ 64
  pub shows : (m : Module) (r : Reading) → Grows new m.signals → Obeys m r → r.signal index < 2 ^ 64 → r.signal place ≡ r.signal index / 2 ^ bits

-- ---- chains

-- what a bank is asked: whether a state has an access there, whether it writes, the address, and what is written
pub record Asked : Type 0 where
  pub wants : ℕ
  pub writes : ℕ
  pub address : ℕ
  pub value : ℕ

-- what these chains show of bank n
abbrev pub asked_at : Reading → BankRequests → ℕ → Asked
asked_at r chains n = record {
  wants = next_number r chains.wants n;
  writes = next_number r chains.writes n;
  address = next_number r chains.addresses n;
  value = next_number r chains.values n;
}

abbrev pub asked_by : Reading → BankAccess → Asked
asked_by r access = record { wants = 1; writes = r.signal access.writes; address = r.signal access.address; value = r.signal access.value }

-- as many banks
pub record AreAsMany (n : ℕ) (chains : BankRequests) : Type 0 where
  pub wants : length chains.wants ≡ n
  pub writes : length chains.writes ≡ n
  pub addresses : length chains.addresses ≡ n
  pub values : length chains.values ≡ n

-- places of so many zeros
pub record ShowsZeros (old new : List Signal) (n : ℕ) (places : List ℕ) : Type 0 where
  pub grows : Grows old new
  pub count : length places ≡ n
  pub shows : (m : Module) (r : Reading) (x : ℕ) → Grows new m.signals → Obeys m r → x < n → next_number r places x ≡ 0

abbrev pub nothing_asked : Asked
nothing_asked = record { wants = 0; writes = 0; address = 0; value = 0 }

-- nothing is asked of banks with words of these widths
pub record AsksNothing (old new : List Signal) (words : List ℕ) (chains : BankRequests) : Type 0 where
  pub grows : Grows old new
  pub many : AreAsMany (length words) chains
  pub shows : (m : Module) (r : Reading) (j : ℕ) → Grows new m.signals → Obeys m r → j < length words → asked_at r chains j ≡ nothing_asked

module _ (old new : List Signal) (before after : BankRequests) where
  -- where two bits are set bank number n is asked so; what all others are asked stays
  pub record AsksOne (number : ℕ) (access : BankAccess) (chosen : ℕ) : Type 0 where
    pub grows : Grows old new
    pub many : (n : ℕ) → AreAsMany n before → AreAsMany n after
    pub shows : (m : Module) (r : Reading) (t u : Bool) (n many : ℕ) → Grows new m.signals → Obeys m r → width m access.state ≡ 1 → r.signal access.state ≡ bit_of t →
        r.signal chosen ≡ bit_of u → AreAsMany many before → n < many →
        asked_at r after n ≡ (if nat_eq n number && (t && u) then asked_by r access else asked_at r before n)
    -- not where the bit of the state is 0
    pub rests : (m : Module) (r : Reading) (j many : ℕ) → Grows new m.signals → Obeys m r → width m access.state ≡ 1 → r.signal access.state ≡ 0 → AreAsMany many before →
        j < many →
        asked_at r after j ≡ asked_at r before j

  -- where the state's bit is set the bank of an index is asked so: of the first n banks of a global
  pub record AsksSome (s : Spread) (bits index : ℕ) (access : BankAccess) (n : ℕ) : Type 0 where
    pub grows : Grows old new
    pub many : (n : ℕ) → AreAsMany n before → AreAsMany n after
    pub shows : (m : Module) (r : Reading) (t : Bool) (j many : ℕ) → Grows new m.signals → Obeys m r → width m access.state ≡ 1 → width m index ≡ 64 →
        r.signal access.state ≡ bit_of t →
        n < 1 + 2 ^ bits → AreAsMany many before → j < many →
        asked_at r after j ≡ (if t && (nat_eq j (s.first + r.signal index % 2 ^ bits) && nat_lt (r.signal index % 2 ^ bits) n) then asked_by r access else asked_at r before j)
    -- not where the bit of the state is 0
    pub rests : (m : Module) (r : Reading) (j many : ℕ) → Grows new m.signals → Obeys m r → width m access.state ≡ 1 → r.signal access.state ≡ 0 → AreAsMany many before →
        j < many →
        asked_at r after j ≡ asked_at r before j

  -- THE BANK of an index IS ASKED
  pub record AsksBank (s : Spread) (index : ℕ) (access : BankAccess) : Type 0 where
    pub grows : Grows old new
    pub many : (n : ℕ) → AreAsMany n before → AreAsMany n after
    pub shows : (m : Module) (r : Reading) (t : Bool) (j many : ℕ) → Grows new m.signals → Obeys m r → width m access.state ≡ 1 → width m index ≡ 64 →
        r.signal access.state ≡ bit_of t →
        IsSmallPower s.count → s.first + s.count < 2 ^ 64 → AreAsMany many before → j < many →
        asked_at r after j ≡ (if t && nat_eq j (s.first + r.signal index % s.count) then asked_by r access else asked_at r before j)
    -- not where the bit of the state is 0
    pub rests : (m : Module) (r : Reading) (j many : ℕ) → Grows new m.signals → Obeys m r → width m access.state ≡ 1 → r.signal access.state ≡ 0 → AreAsMany many before →
        j < many →
        asked_at r after j ≡ asked_at r before j

-- ---- how they are put together

-- chains of banks stand, as wide as registers of these lists would be: bits, addresses and values
pub record AreBankChains (signals : List Signal) (base : Base) (bits wide own : List Held) (chains : BankRequests) : Type 0 where
  pub wants : AreChains signals base bits chains.wants
  pub writes : AreChains signals base bits chains.writes
  pub addresses : AreChains signals base wide chains.addresses
  pub values : AreChains signals base own chains.values

-- registers of these widths
pub record HaveWidths (registers : List Held) (widths : List ℕ) : Type 0 where
  pub count : length registers ≡ length widths
  pub each : (x w : ℕ) (h : Held) → slice_get registers x ≡ Some h → slice_get widths x ≡ Some w → h.width ≡ w

abbrev pub AreZeroChains : List Signal → List Signal → List ℕ → List ℕ → Type 0
AreZeroChains old new widths places =
    (base : Base) (registers : List Held) → base.first ≤ length old → ((x w : ℕ) → slice_get widths x ≡ Some w → (1 ≤ w) × (w ≤ 64)) → HaveWidths registers widths →
    AddsLinks base old new registers places

-- wires are added, and links of such chains
pub record AddsBankLinks (base : Base) (old new : List Signal) (bits addresses values : List Held) (after : BankRequests) : Type 0 where
  pub wires : AreWires base old new
  pub chains : AreBankChains new base bits addresses values after

-- of banks of which nothing is asked
abbrev pub AreEmptyChains : List Signal → List Signal → List ℕ → BankRequests → Type 0
AreEmptyChains old new words chains =
    (base : Base) (bits wide own : List Held) → base.first ≤ length old → ((x w : ℕ) → slice_get words x ≡ Some w → (1 ≤ w) × (w ≤ 64)) →
    HaveWidths bits (replicate (length words) 1) → HaveWidths wide (replicate (length words) 64) → HaveWidths own words → AddsBankLinks base old new bits wide own chains

-- what an access reads stands
pub record StandsAccess (signals : List Signal) (base : Base) (width : ℕ) (access : BankAccess) : Type 0 where
  pub state : IsEarlier signals base access.state 1
  pub writes : IsEarlier signals base access.writes 1
  pub address : IsEarlier signals base access.address 64
  pub value : IsEarlier signals base access.value width

-- one bank is asked, of words of this width
abbrev pub IsAskAdded : List Signal → List Signal → ℕ → ℕ → BankAccess → ℕ → BankRequests → BankRequests → Type 0
IsAskAdded old new number width access chosen before after =
    (base : Base) (bits addresses values : List Held) → AreBankChains old base bits addresses values before → HasWidthAt bits number 1 → HasWidthAt addresses number 64
    → HasWidthAt values number width → StandsAccess old base width access → IsEarlier old base chosen 1 → AddsBankLinks base old new bits addresses values after

-- the bank of an index is asked, of a global whose banks have words of this width
abbrev pub AreAsksAdded : List Signal → List Signal → Spread → ℕ → ℕ → BankAccess → BankRequests → BankRequests → Type 0
AreAsksAdded old new s width index access before after =
    (base : Base) (bits addresses values : List Held) → AreBankChains old base bits addresses values before → ((k : ℕ) → HasWidthAt bits k 1) → ((k : ℕ) →
    HasWidthAt addresses k 64)
    → ((k : ℕ) → k < s.count → HasWidthAt values (s.first + k) width) → StandsAccess old base width access → IsEarlier old base index 64 → IsSmallPower s.count
    → AddsBankLinks base old new bits addresses values after
