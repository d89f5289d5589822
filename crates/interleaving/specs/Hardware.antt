-- Hardware that runs blocks of a threaded source, and how far it lags behind an interleaving.
-- What the concrete side has to provide of it stands at the head of specs/Headline.
use Rattle.std.specs.Prelude.{◌≡◌, ◌≢◌, ℕ, zero, suc, List, [], ◌++◌, length, ◌⊎◌, true, false}
use Rattle.interleaving.specs.Memory.{Location, Memory, Access, memory_after, Writes, AreApart, AgreeOn}
use Rattle.interleaving.specs.Source.{StepsTo, Undefined, View, Moves, Acts, Ends, Fails, Source, Move, accesses_of, end_of, view_at, RunsAlone}
use Rattle.interleaving.specs.Interleaving.{Reached, Reachable}
use Rattle.interleaving.specs.Threaded.{IsSynchronizing, Moved}

-- all threads' slots, the shared memory and the cores
pub record World (Value Slot Cores : Type 0) : Type 0 where
  pub slots : ℕ → Slot
  pub memory : Memory Value
  pub cores : Cores

-- a block in flight: the moves of its whole run, and the accesses that it has made so far
pub record Flight (Value Local : Type 0) : Type 0 where
  pub moves : List (Move Value Local)
  pub made : List (Access Value)

-- neither an act nor the return that ends the thread
abbrev pub IsMoveOrFault : {Value Local : Type 0} → View Value Local → Type 0
IsMoveOrFault (Moves to accesses) = Unit {0}
IsMoveOrFault Acts = ⊥
IsMoveOrFault (Ends reads) = ⊥
IsMoveOrFault Fails = Unit {0}

-- each of the next n steps of a thread that runs alone from x and m is a move, up to one that is undefined
abbrev pub OnlyMoves : {Value Local State : Type 0} → Source Value Local State → ℕ → Local → Memory Value → Type 0
OnlyMoves P zero x m = Unit {0}
OnlyMoves {Value = Value} {Local = Local} P (suc n) x m =
    IsMoveOrFault (P.view x m) × ((y : Local) (es : List (Access Value)) → P.view x m ≡ Moves y es → OnlyMoves P n y (memory_after es m))

-- what the hardware of one source is made of
pub record Hardware (Value Local State Slot Cores : Type 0) : Type 1 where
  -- the cores stand for the state
  pub Stands : Cores → State → Type 0
  -- the slot of this thread is before a block or before an act, for this local state
  pub Rests : Cores → ℕ → Local → Slot → Type 0
  -- the slot is within the run of these moves from this local state and memory, and has made these accesses
  pub Flies : Local → Memory Value → List (Move Value Local) → List (Access Value) → Slot → Type 0
  -- in one cycle the slot of this thread may become another with these accesses, where it reads this memory
  pub Turn : Cores → ℕ → Slot → Memory Value → List (Access Value) → Slot → Type 0
  -- the change from one slot to the other is one of those that this number of steps pays for
  pub Spends : Slot → Slot → ℕ → Type 0
  -- in one cycle this thread may do an act, or the return that ends it
  pub Act : World Value Slot Cores → ℕ → World Value Slot Cores → Type 0

-- M is m overlaid by what each thread has made so far: where no other one has written, it is m after the accesses of i
abbrev pub Overlaid : {Value : Type 0} → Memory Value → (ℕ → List (Access Value)) → Memory Value → Type 0
Overlaid M made m = (p : Location) (i : ℕ) → ((j : ℕ) → j ≢ i → Writes p (made j) → ⊥) → M p ≡ memory_after (made i) m p

module _ {Value Local State Slot Cores : Type 0} (P : Source Value Local State) (H : Hardware Value Local State Slot Cores) where
  -- the run is over, with its effect
  pub record Lands (c : Cores) (i : ℕ) (x : Local) (m : Memory Value) (hs : List (Move Value Local)) (made : List (Access Value)) (q : Slot) : Type 0 where
    pub effect : (p : Location) → memory_after made m p ≡ memory_after (accesses_of hs) m p
    pub inside : (p : Location) → Writes p made → Writes p (accesses_of hs)
    pub rests : H.Rests c i (end_of x hs) q

  -- a turn in the run of hs from x and m: the slot flies on, or lands, and then the steps of the run pay
  abbrev pub FliesOrLands : Cores → ℕ → Local → Memory Value → List (Move Value Local) → List (Access Value) → Slot → Slot → Type 0
  FliesOrLands c i x m hs made q r = (H.Flies x m hs made r × H.Spends q r 0) ⊎ (Lands c i x m hs made r × H.Spends q r (length hs))

  -- from s an act of i leads to t, and the hardware from w to v
  pub record ActLands (s t : State) (i : ℕ) (w v : World Value Slot Cores) : Type 0 where
    pub view : IsSynchronizing (view_at P s i)
    pub steps : P.step s i ≡ StepsTo t
    pub stands : H.Stands v.cores t
    pub rests : H.Rests v.cores i (P.local t i) (v.slots i)
    pub spends : H.Spends (w.slots i) (v.slots i) 1
    pub slots : (j : ℕ) → j ≢ i → v.slots j ≡ w.slots j
    -- who waits may go on, who was not there may begin
    pub resting : (j : ℕ) → j ≢ i → H.Rests w.cores j (P.local s j) (w.slots j) → H.Rests v.cores j (P.local t j) (w.slots j)
    -- who is in flight stays as it is
    pub flying : (j : ℕ) (hs : List (Move Value Local)) (made : List (Access Value)) → j ≢ i → RunsAlone P (P.local s j) (P.memory s) hs →
        H.Flies (P.local s j) (P.memory s) hs made (w.slots j) → P.local t j ≡ P.local s j
    pub memory : (p : Location) → v.memory p ≡ w.memory p

  -- what the hardware must be for the source
  pub record IsPlanned : Type 0 where
    -- a block that begins has a number of steps, all of them moves, and its first turn goes on with their run or ends it
    pub begins : (c : Cores) (s : State) (i : ℕ) (q r : Slot) (M : Memory Value) (es : List (Access Value)) → Reachable P s → H.Rests c i (P.local s i) q →
        H.Turn c i q M es r →
        (n : ℕ) × OnlyMoves P n (P.local s i) (P.memory s) × ((hs : List (Move Value Local)) → RunsAlone P (P.local s i) (P.memory s) hs → length hs ≡ n →
        AgreeOn (accesses_of hs) (P.memory s) M → FliesOrLands c i (P.local s i) (P.memory s) hs es q r)
    -- a block in flight depends on what its run touches alone
    pub frame : (x : Local) (m n : Memory Value) (hs : List (Move Value Local)) (made : List (Access Value)) (q : Slot) → H.Flies x m hs made q → AgreeOn (accesses_of hs) m n → H.Flies x n hs made q
    -- it has written only what its run writes
    pub inside : (x : Local) (m : Memory Value) (hs : List (Move Value Local)) (made : List (Access Value)) (q : Slot) (p : Location) → H.Flies x m hs made q →
        Writes p made → Writes p (accesses_of hs)
    -- where the memory is that of the run so far, it goes on with the run or ends it
    pub turn : (c : Cores) (i : ℕ) (x : Local) (m M : Memory Value) (hs : List (Move Value Local)) (made es : List (Access Value)) (q r : Slot) →
        RunsAlone P x m hs → H.Flies x m hs made q → AgreeOn (accesses_of hs) (memory_after made m) M → H.Turn c i q M es r →
        FliesOrLands c i x m hs (made ++ es) q r
    -- moves change nothing that the cores stand for
    pub stands : (c : Cores) (s t : State) (i : ℕ) (y : Local) (es : List (Access Value)) → Reachable P s → view_at P s i ≡ Moves y es → H.Stands c s → Moved P s i y es t → H.Stands c t
    -- where the source's step is not undefined, an act of the hardware is that step
    pub act : (s : State) (i : ℕ) (w v : World Value Slot Cores) → Reachable P s → (P.is_ended s ≡ false → P.is_live s i ≡ true → P.step s i ≢ Undefined) →
        H.Stands w.cores s → H.Rests w.cores i (P.local s i) (w.slots i) → H.Act w i v → (t : State) × ActLands s t i w v
    -- what is in flight does no act
    pub act_rests : (x : Local) (m : Memory Value) (hs : List (Move Value Local)) (made : List (Access Value)) (i : ℕ) (w v : World Value Slot Cores) →
        H.Flies x m hs made (w.slots i) → H.Act w i v → ⊥

  -- the slot of thread i rests, or it is in flight
  abbrev pub IsAt : Cores → ℕ → Local → Memory Value → Flight Value Local → Slot → Type 0
  IsAt c i x m f q = ((f.moves ≡ []) × (f.made ≡ []) × H.Rests c i x q) ⊎ H.Flies x m f.moves f.made q

  -- LAG: the hardware is where the interleaving L leads, but for what the blocks in flight have made so far
  pub record Lag (L : List ℕ) (w : World Value Slot Cores) : Type 0 where
    pub state : State
    pub flights : ℕ → Flight Value Local
    pub reached : Reached P L state
    pub stands : H.Stands w.cores state
    pub runs : (i : ℕ) → RunsAlone P (P.local state i) (P.memory state) (flights i).moves
    pub places : (i : ℕ) → IsAt w.cores i (P.local state i) (P.memory state) (flights i) (w.slots i)
    pub memory : Overlaid w.memory (λ i. (flights i).made) (P.memory state)

  -- thread i turns, and no other
  pub record Turned (w : World Value Slot Cores) (i : ℕ) (v : World Value Slot Cores) : Type 0 where
    pub accesses : List (Access Value)
    pub turn : H.Turn w.cores i (w.slots i) w.memory accesses (v.slots i)
    pub others : (j : ℕ) → j ≢ i → v.slots j ≡ w.slots j
    pub memory : (p : Location) → v.memory p ≡ memory_after accesses w.memory p
    pub cores : v.cores ≡ w.cores

  -- one turn or one act of thread i keeps the lag; the steps that it adds to the interleaving pay for the change of its slot, and no other slot changes
  abbrev pub KeepsLag : Type 0
  KeepsLag =
      (L : List ℕ) (w v : World Value Slot Cores) (i : ℕ) → Lag L w → Turned w i v ⊎ H.Act w i v →
      (added : List ℕ) × Lag (L ++ added) v × H.Spends (w.slots i) (v.slots i) (length added) × ((j : ℕ) → j ≢ i → v.slots j ≡ w.slots j)

  -- nothing that one block in flight writes is touched by another
  abbrev pub FlightsAreApart : Type 0
  FlightsAreApart =
      (L : List ℕ) (w : World Value Slot Cores) (l : Lag L w) (i j : ℕ) → i ≢ j →
      AreApart (accesses_of (l.flights i).moves) (accesses_of (l.flights j).moves)
