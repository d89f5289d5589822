-- The laws that every program of threads meets. Its language's crate proves them of its source.
--
-- IsThreaded P, for P : Source Value Local State. All but the first two speak of reachable states s and t:
--   move_frame    a move depends on the local state and on the places that it touches alone
--   end_frame     so does a return that ends its thread
--   moves         a move is a step: it changes the own local state and the memory alone
--   mover_lives   who moves lives, and the program runs on
--   end_lives     so it is at a return that ends its thread, which is never blocked
--   end_alone     after it the thread has no step that is no act
--   end_stays     where it is defined it stays defined when another thread moves and writes nothing that it reads
--   fails         what fails by its view is undefined, and its thread lives
--   keeps_memory  an act, or a return that ends its thread, leaves the memory
use Rattle.std.specs.Prelude.{◌≡◌, ◌≢◌, ℕ, List, true, false}
use Rattle.interleaving.specs.Memory.{Location, Memory, Access, reads_of, memory_after, AreApart, AgreeOn}
use Rattle.interleaving.specs.Source.{StepsTo, Blocked, Undefined, View, Moves, Acts, Ends, Fails, Source, view_at}
use Rattle.interleaving.specs.Interleaving.{Reachable}

-- an act, or the return that ends the thread
abbrev pub IsSynchronizing : {Value Local : Type 0} → View Value Local → Type 0
IsSynchronizing (Moves to accesses) = ⊥
IsSynchronizing Acts = Unit {0}
IsSynchronizing (Ends reads) = Unit {0}
IsSynchronizing Fails = ⊥

module _ {Value Local State : Type 0} (P : Source Value Local State) where
  -- t is s after the move of thread i to y with these accesses
  pub record Moved (s : State) (i : ℕ) (y : Local) (es : List (Access Value)) (t : State) : Type 0 where
    pub steps : P.step s i ≡ StepsTo t
    pub own : P.local t i ≡ y
    pub others : (j : ℕ) → j ≢ i → P.local t j ≡ P.local s j
    pub memory : (p : Location) → P.memory t p ≡ memory_after es (P.memory s) p

  pub record IsThreaded : Type 0 where
    pub move_frame : (x y : Local) (es : List (Access Value)) (m n : Memory Value) → P.view x m ≡ Moves y es → AgreeOn es m n → P.view x n ≡ Moves y es
    pub end_frame : (x : Local) (ps : List Location) (m n : Memory Value) → P.view x m ≡ Ends ps → AgreeOn (reads_of ps) m n → P.view x n ≡ Ends ps
    pub moves : (s : State) (i : ℕ) (y : Local) (es : List (Access Value)) → Reachable P s → view_at P s i ≡ Moves y es → (t : State) × Moved s i y es t
    pub mover_lives : (s : State) (i : ℕ) (y : Local) (es : List (Access Value)) → Reachable P s → view_at P s i ≡ Moves y es → (P.is_ended s ≡ false) × (P.is_live s i ≡ true)
    pub end_lives : (s : State) (i : ℕ) (ps : List Location) → Reachable P s → view_at P s i ≡ Ends ps → (P.is_ended s ≡ false) × (P.is_live s i ≡ true) × (P.step s i ≢ Blocked)
    pub end_alone : (s t : State) (i : ℕ) (ps : List Location) → Reachable P s → view_at P s i ≡ Ends ps → P.step s i ≡ StepsTo t → view_at P t i ≡ Acts
    pub end_stays : (s t u : State) (i j : ℕ) (ps : List Location) (y : Local) (es : List (Access Value)) → Reachable P s → view_at P s i ≡ Ends ps →
        P.step s i ≡ StepsTo u → j ≢ i → view_at P s j ≡ Moves y es → AreApart es (reads_of ps) → Moved s j y es t → (v : State) × (P.step t i ≡ StepsTo v)
    pub fails : (s : State) (i : ℕ) → Reachable P s → view_at P s i ≡ Fails → (P.is_ended s ≡ false) × (P.is_live s i ≡ true) × (P.step s i ≡ Undefined)
    pub keeps_memory : (s t : State) (i : ℕ) (p : Location) → Reachable P s → IsSynchronizing (view_at P s i) → P.step s i ≡ StepsTo t → P.memory t p ≡ P.memory s p
