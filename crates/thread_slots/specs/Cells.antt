-- What an edge does where the state is left: each register gets what its chain shows. What has been granted is set where a core grants, too.
use Rattle.std.specs.Prelude.{ℕ, [], ◌∷◌, ◌≡◌, ◌≢◌, zero, suc, ◌<◌, ◌^◌, true, nat_eq, ◌&&◌, if◌then◌else◌, List, ◌++◌, map, Option, Some, None, slice_get, slice_index}
use Rattle.std.specs.Prelude.{ℤ}
use Rattle.netlist.specs.declared.netlist.Effect.TheVariants as effect
use Rattle.netlist.specs.declared.netlist.Action.{Action}
use Rattle.thread_slots.specs.declared.stores.Store.{Store}
use Rattle.hls_ints.specs.Residues.{residue_of}
use Rattle.hls_ints.specs.Types.{IntegerType, HasType, width_of}
use Rattle.block_ir.specs.Run.{place_written}
use Rattle.block_ir.specs.declared.block.Operation.{Operation}
use Rattle.block_ir.specs.declared.block.Operation.TheVariants.{WriteArray}
use Rattle.block_ir.specs.declared.code.Array.{Array}
use Rattle.block_ir.specs.declared.code.ThreadCode.{ThreadCode}
use Rattle.netlist.specs.declared.netlist.Signal.{Signal}
use Rattle.netlist.specs.declared.netlist.Module.{Module}
use Rattle.verilog_meaning.specs.Readings.{Reading, width, word_after}
use Rattle.circuit.specs.Modules.{Obeys}
use Rattle.operator_wires.specs.declared.words.Word.{Word}
use Rattle.operator_wires.specs.Gives.{Grows}
use Rattle.operator_wires.specs.Words.{IsWord}
use Rattle.block_datapath.specs.Types.{IsOfLength, StoresInto}
use Rattle.block_datapath.specs.declared.registers.Registers.{Registers}
use Rattle.block_datapath.specs.declared.operands.Given.{Given}
use Rattle.block_datapath.specs.declared.states.Moment.{Moment}
use Rattle.block_datapath.specs.Seen.{SeesSource}
use Rattle.block_datapath.specs.Operations.{seen_value}
use Rattle.block_datapath.specs.Chains.{IsMoment}

abbrev pub store_action : ℕ → Store → Action
store_action condition s = record { conditions = condition ∷ s.condition ∷ []; effect = effect.Store s.memory s.address s.source }

-- no store is made in a reading
abbrev pub AreOff : Reading → List Store → Type 0
AreOff r stores = (k : ℕ) (s : Store) → slice_get stores k ≡ Some s → r.signal s.condition ≡ 0

-- what element j of array a becomes, where it was v
abbrev pub Cells : Type 0
Cells = ℕ → ℕ → ℤ → ℤ

-- where the state is left the memories, which hold the elements of arrays, hold what these become
pub record PutsCells (code : ThreadCode) (r : Reading) (stores : List Store) (after : Cells) : Type 0 where
  pub words : (leave a j old : ℕ) (array : Array) (v : ℤ) → r.signal leave ≡ 1 → slice_get code.arrays a ≡ Some array → j < array.length → old ≡ residue_of (width_of array.ty) v →
      HasType array.ty v →
      (word_after r (map (store_action leave) stores) a j old ≡ residue_of (width_of array.ty) (after a j v)) × HasType array.ty (after a j v)
  pub outside : (a : ℕ) (array : Array) (v : ℤ) → slice_get code.arrays a ≡ Some array → after a array.length v ≡ v

-- what element j of array a is after an operation, where it was v
abbrev pub cell_after : (ℕ → ℤ) → (ℕ → ℤ) → Operation → Cells
cell_after variables given (WriteArray x n i w) a j v = if nat_eq a x && nat_eq j (place_written n (seen_value variables given i)) then seen_value variables given w else v
cell_after variables given _ a j v = v

-- the operands of a write can be seen in a state, and it is typed
module _ (code : ThreadCode) (registers : Registers) (values : List Given) (m : Module) (r : Reading) (state : ℕ) (variables given : ℕ → ℤ) where
  abbrev pub SeesWrite : Operation → Type 0
  SeesWrite (WriteArray x n i w) =
      SeesSource m r registers code.variables values state variables given i.source × SeesSource m r registers code.variables values state variables given w.source
      × IsOfLength code x n × StoresInto code x w × (n < 2 ^ 31)
  SeesWrite _ = Unit {0}

module _ (old new : List Signal) (registers : Registers) (moment : Moment) (before after : List Store) where
  -- stores are added that are made in this state of a stage alone
  pub record AddsIn (added : List Store) : Type 0 where
    pub grows : Grows old new
    pub more : after ≡ before ++ added
    pub rests : (m : Module) (r : Reading) → Grows new m.signals → Obeys m r → width m moment.at ≡ 1 → r.signal moment.at ≡ 0 → AreOff r added
    pub elsewhere : (m : Module) (r : Reading) (s : ℕ) → Grows new m.signals → Obeys m r → IsMoment m r registers moment.at moment.states true s → moment.state < moment.states →
        s ≢ moment.state
        → AreOff r added

  -- a word is stored at an index of an array
  pub record PutsWord (number : ℕ) (array : Array) (index value : Word) : Type 0 where
    pub added : List Store
    pub adds : AddsIn added
    pub here : (m : Module) (r : Reading) (s : IntegerType) (v w : ℤ) (leave a j word : ℕ) → Grows new m.signals → Obeys m r →
        IsMoment m r registers moment.at moment.states true moment.state
        → moment.state < moment.states → IsWord m r index s v → IsWord m r value array.ty w → array.length < 2 ^ 31 → r.signal leave ≡ 1 → (a ≡ number → j < array.length) →
        word_after r (map (store_action leave) added) a j word ≡ (if nat_eq a number && nat_eq j (place_written array.length v) then residue_of (width_of array.ty) w else word)

  -- WHAT ONE OPERATION STORES
  pub record PutsOne (code : ThreadCode) (values : List Given) (o : Operation) : Type 0 where
    pub added : List Store
    pub adds : AddsIn added
    pub here : (m : Module) (r : Reading) (variables given : ℕ → ℤ) → Grows new m.signals → Obeys m r → IsMoment m r registers moment.at moment.states true moment.state
        → moment.state < moment.states → SeesWrite code registers values m r moment.state variables given o → PutsCells code r added (cell_after variables given o)

-- ---- all operations of a block

abbrev pub cell_at : (ℕ → ℤ) → (ℕ → ℤ) → Option Operation → Cells
cell_at variables given None a j v = v
cell_at variables given (Some o) a j v = cell_after variables given o a j v

-- what an element is after those of the first n operations that start in state s
abbrev pub cells_first : List Operation → List ℕ → ℕ → (ℕ → ℤ) → (ℕ → ℤ) → ℕ → Cells
cells_first operations starts s variables given zero a j v = v
cells_first operations starts s variables given (suc n) a j v =
    if nat_eq (slice_index starts n) s then cell_at variables given (slice_get operations n) a j (cells_first operations starts s variables given n a j v)
    else cells_first operations starts s variables given n a j v

-- WHAT THE FIRST n OPERATIONS STORE, at a stage that a bit tells, of so many states
pub record PutsFirst (old new : List Signal) (registers : Registers) (at states : ℕ) (before after : List Store) (code : ThreadCode) (values : List Given)
    (operations : List Operation)
    (starts : List ℕ) (n : ℕ) : Type 0 where
  pub added : List Store
  pub grows : Grows old new
  pub more : after ≡ before ++ added
  pub rests : (m : Module) (r : Reading) → Grows new m.signals → Obeys m r → width m at ≡ 1 → r.signal at ≡ 0 → AreOff r added
  pub here : (m : Module) (r : Reading) (variables given : ℕ → ℤ) (s : ℕ) → Grows new m.signals → Obeys m r → IsMoment m r registers at states true s →
      ((k : ℕ) (o : Operation) → k < n → slice_get operations k ≡ Some o → (slice_index starts k < states) ×
      (slice_index starts k ≡ s → SeesWrite code registers values m r s variables given o)) →
      PutsCells code r added (cells_first operations starts s variables given n)
