-- What a leaf module needs, so that it can stand in a table of modules: its names are apart, its ports stand first and last, and
-- nobody reads its clock.
use Rattle.std.proofs.Common.{◌≡◌, ℕ, zero, suc, ◌+◌, ◌<◌, ◌≤◌, Bool, true, false, nat_eq, List, length, Some}
use Rattle.std.proofs.Common.{refl, arith}
use Rattle.std.specs.Prelude.{slice_get}
use Rattle.std.proofs.lemmas.Bool.Decides.{nat_tests}
use Rattle.verilog_tree.specs.Scope.{is_clk}
use Rattle.verilog_tree.specs.Rules.{Between, values_in, has_values}
use Rattle.netlist.specs.declared.netlist.Value.{Value}
use Rattle.netlist.specs.declared.netlist.Value.TheVariants.{Copy, Constant, BitwiseNot, Binary, SignedLess, ArithmeticShiftRight, Conditional, Division, SignedDivision}
use Rattle.netlist.specs.declared.netlist.Value.TheVariants.{MemoryRead, Select, Concatenation, Replication}
use Rattle.netlist.specs.declared.netlist.Source.{Source}
use Rattle.netlist.specs.declared.netlist.Source.TheVariants.{Assigned}
use Rattle.netlist.specs.declared.netlist.Signal.{Signal}
use Rattle.netlist.specs.declared.netlist.Memory.{Memory}
use Rattle.netlist.specs.declared.netlist.Effect.{Effect}
use Rattle.netlist.specs.declared.netlist.Effect.TheVariants.{Set, Store, Write}
use Rattle.netlist.specs.declared.netlist.Action.{Action}
use Rattle.netlist.specs.declared.netlist.Module.{Module}
use Rattle.netlist.specs.Laid.{AreApart, declared_names}
use Rattle.netlist.specs.Laid.{operands, argument_place}
use Rattle.netlist.specs.Sound.{IsSet}
use Rattle.verilog_meaning.specs.Threads as threads
use Rattle.circuit.specs.Rows.{EachOf}
use Rattle.circuit.specs.Modules.{Has, Reads, IsLeaf}
use Rattle.circuit.specs.Interfaces.{HasPorts}

module _ (m : Module) where
  -- none of these is the clock, which is signal 0
  abbrev pub AreData : List ℕ → Type 0
  AreData xs = EachOf (λ x. 0 < x) xs

  -- a select reads a signal of more than one bit
  abbrev pub HasRange : Value → Type 0
  HasRange (Select x high low) = (w : ℕ) × Has m x w × (1 < w)
  HasRange _ = Unit {0}

  abbrev pub ReadsData : Source → Type 0
  ReadsData (Assigned v) = AreData (operands v) × HasRange v
  ReadsData _ = Unit {0}

  abbrev pub IsAssigned : Source → Type 0
  IsAssigned (Assigned v) = Unit {0}
  IsAssigned _ = ⊥

  -- signal x, where the outputs stand from a place on
  pub record IsFormed (ends x : ℕ) (s : Signal) : Type 0 where
    pub low : 1 ≤ s.width
    pub high : s.width ≤ 64
    pub clock : is_clk s.name ≡ nat_eq x 0
    pub before : x < ends → s.is_output ≡ false
    pub behind : ends ≤ x → (s.is_output ≡ true) × IsAssigned s.source
    pub reads : ReadsData s.source
    pub set : IsSet m x s.source

  abbrev pub EffectOnData : Effect → Type 0
  EffectOnData (Set x y) = 0 < y
  EffectOnData (Store j x y) = (0 < x) × (0 < y)
  EffectOnData (Write text arguments) = EachOf (λ a. 0 < argument_place a) arguments × (has_values (values_in Between text) (length arguments) ≡ true)

  abbrev pub ActsOnData : Action → Type 0
  ActsOnData a = AreData a.conditions × EffectOnData a.effect

  pub record IsFormedMemory (c : Memory) : Type 0 where
    pub low : 1 ≤ c.width
    pub high : c.width ≤ 64
    pub words : 1 ≤ length c.initial
    pub clock : is_clk c.name ≡ false

  pub record IsReady (inputs outputs : List ℕ) (late : ℕ → Bool) (ends : ℕ) : Type 0 where
    pub leaf : IsLeaf m (length inputs) late
    pub clocked : 0 < length inputs
    pub clock_bit : Has m 0 1
    pub long : length m.signals ≡ ends + length outputs
    pub room : length inputs ≤ ends
    pub ports : HasPorts m inputs outputs
    pub names : AreApart (declared_names m)
    pub named : is_clk m.name ≡ false
    pub formed : (x : ℕ) (s : Signal) → slice_get m.signals x ≡ Some s → IsFormed ends x s
    pub acts : EachOf ActsOnData m.actions
    pub memories : EachOf IsFormedMemory m.memories

-- both lists of what a right side reads are one
pub same_operands : (v : Value) → operands v ≡ threads.operands v
same_operands (Copy x) = refl
same_operands (Constant n) = refl
same_operands (BitwiseNot x) = refl
same_operands (Binary operator x y) = refl
same_operands (SignedLess x y) = refl
same_operands (ArithmeticShiftRight x y) = refl
same_operands (Conditional c x y) = refl
same_operands (Division operator x y) = refl
same_operands (SignedDivision operator x y) = refl
same_operands (MemoryRead j x) = refl
same_operands (Select x high low) = refl
same_operands (Concatenation xs) = refl
same_operands (Replication n x) = refl

-- where the clock alone is late, no right side reads it
module _ (m : Module) (inputs : ℕ) (leaf : IsLeaf m inputs (λ x. nat_eq x 0)) where
  not_first : (x y w : ℕ) → Reads m (λ z. nat_eq z 0) x y w → 0 < y
  not_first x zero w h = absurd (let first : nat_eq x 0 ≡ true = h.in_time refl in let b = h.before in let e : x ≡ 0 = grind (arith, nat_tests) in omega arith)
  not_first x (suc y) w h = omega arith
