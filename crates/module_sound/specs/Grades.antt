-- The signals of a module in order: each reads earlier ones of right widths, never the clock, and none of a higher grade.
use Rattle.std.specs.Prelude.{◌≡◌, ℕ, ◌<◌, ◌≤◌, ◌^◌, false, min, List, length, Some, slice_get}
use Rattle.netlist.specs.declared.netlist.Value.{Value}
use Rattle.netlist.specs.declared.netlist.Source.{Source}
use Rattle.netlist.specs.declared.netlist.Source.TheVariants.{Input, Register, Assigned, Port}
use Rattle.netlist.specs.declared.netlist.Signal.{Signal}
use Rattle.netlist.specs.declared.netlist.Effect.{Effect}
use Rattle.netlist.specs.declared.netlist.Action.{Action}
use Rattle.netlist.specs.declared.netlist.Module.{Module}
use Rattle.netlist.specs.Sound.{is_write}
use Rattle.leaf_machine.specs.Rows.{EachOf}
use Rattle.leaf_machine.specs.Modules.{Has, FitsValue, FitsEffect}
use Rattle.leaf_machine.specs.Settled.{effect_operands}

module _ (m : Module) (grades : List ℕ) (x : ℕ) where
  -- signal y, which is not the clock, has this width, stands before signal x, and its grade is at most g
  pub record IsOperand (g y w : ℕ) : Type 0 where
    pub has : Has m y w
    pub after : 0 < y
    pub before : y < x
    pub own : ℕ
    pub listed : slice_get grades y ≡ Some own
    pub most : own ≤ g

  -- a right side of a signal of grade g and width w
  abbrev pub IsRightSide : ℕ → ℕ → Value → Type 0
  IsRightSide w g v = FitsValue (IsOperand g) (λ j. slice_get m.memories j) w v

  abbrev pub IsGradedSource : ℕ → ℕ → ℕ → Source → Type 0
  IsGradedSource inputs w g Input = (x < inputs) × (g ≡ min x 2)
  IsGradedSource inputs w g (Register n) = n < 2 ^ w
  IsGradedSource inputs w g (Assigned v) = IsRightSide w g v
  IsGradedSource inputs w g (Port i p) = ⊥

  -- signal x has grade g
  pub record IsGradedSignal (inputs g : ℕ) (s : Signal) : Type 0 where
    pub low : 1 ≤ s.width
    pub high : s.width ≤ 64
    pub source : IsGradedSource inputs s.width g s.source

-- the grades of the first n signals, of a module with so many inputs
pub record AreGrades (m : Module) (inputs n : ℕ) (grades : List ℕ) : Type 0 where
  pub count : length grades ≡ n
  pub each : (x : ℕ) (s : Signal) → x < n → slice_get m.signals x ≡ Some s → (g : ℕ) × (slice_get grades x ≡ Some g) × IsGradedSignal m grades x inputs g s

-- an effect sets a register, or stores in a memory, a number of its width, and neither the number nor the address is the clock's
pub record SetsRight (m : Module) (e : Effect) : Type 0 where
  pub fits : FitsEffect m e
  pub unclocked : EachOf (λ x. 0 < x) (effect_operands e)
  pub silent : is_write e ≡ false

-- a statement does so, under conditions of one bit
pub record ActsRight (m : Module) (a : Action) : Type 0 where
  pub bits : EachOf (λ x. Has m x 1) a.conditions
  pub unclocked : EachOf (λ x. 0 < x) a.conditions
  pub sets : SetsRight m a.effect

-- a signal at a place, not the clock, of a grade of at most so much
pub record IsPort (m : Module) (grades : List ℕ) (most place : ℕ) : Type 0 where
  pub wide : ℕ
  pub has : Has m place wide
  pub after : 0 < place
  pub own : ℕ
  pub listed : slice_get grades place ≡ Some own
  pub below : own ≤ most

-- a bit that hangs on registers alone
pub record IsSlotPort (m : Module) (grades : List ℕ) (place : ℕ) : Type 0 where
  pub has : Has m place 1
  pub after : 0 < place
  pub listed : slice_get grades place ≡ Some 0
