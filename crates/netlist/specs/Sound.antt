-- A netlist whose text is a well-formed net: widths agree and constants fit them, each register is set by an action,
-- the clock is an input that nothing reads, and `$write` stands in one module.
use Rattle.std.specs.Prelude.{◌≡◌, ℕ, ◌+◌, ◌-◌, ◌*◌, ◌^◌, ◌≤◌, ◌⊎◌, Bool, true, false, ◌==◌}
use Rattle.std.specs.Prelude.{◌&&◌, nat_lt, nat_le, if◌then◌else◌, List, [], ◌∷◌, length, take, Option, Some, None, slice_get}
use Rattle.verilog_tree.specs.Scope.{is_clk}
use Rattle.verilog_tree.specs.Rules.{all_right, is_comparison, is_shift, Between, values_in, has_values}
use Rattle.verilog_tree.specs.Facts.{is_top}
use Rattle.netlist.specs.declared.netlist.Value.{Value}
use Rattle.netlist.specs.declared.netlist.Value.TheVariants as v
use Rattle.netlist.specs.declared.netlist.Source.{Source}
use Rattle.netlist.specs.declared.netlist.Source.TheVariants as source
use Rattle.netlist.specs.declared.netlist.Signal.{Signal}
use Rattle.netlist.specs.declared.netlist.Memory.{Memory}
use Rattle.netlist.specs.declared.netlist.Effect.{Effect}
use Rattle.netlist.specs.declared.netlist.Effect.TheVariants as effect
use Rattle.netlist.specs.declared.netlist.Action.{Action}
use Rattle.netlist.specs.declared.netlist.Instance.{Instance}
use Rattle.netlist.specs.declared.netlist.Module.{Module}
use Rattle.netlist.specs.declared.netlist.Netlist.{Netlist}
use Rattle.netlist.specs.Laid.{EachAt, IsLaid, argument_place, first_output}

module _ (m : Module) where
  -- ---- widths; 0 where there is no such thing

  abbrev pub width_read : Option Signal → ℕ
  width_read None = 0
  width_read (Some s) = if is_clk s.name then 0 else s.width

  -- of a signal that may be read: any but the clock
  abbrev pub width : ℕ → ℕ
  width x = width_read (slice_get m.signals x)

  abbrev pub width_set : ℕ → Source → ℕ
  width_set w source.Input = 0
  width_set w (source.Register n) = w
  width_set w (source.Assigned right) = 0
  width_set w (source.Port i port) = 0

  abbrev pub width_of_register : Option Signal → ℕ
  width_of_register None = 0
  width_of_register (Some s) = width_set s.width s.source

  abbrev pub register_width : ℕ → ℕ
  register_width x = width_of_register (slice_get m.signals x)

  abbrev pub width_of_memory : Option Memory → ℕ
  width_of_memory None = 0
  width_of_memory (Some c) = c.width

  abbrev pub memory_width : ℕ → ℕ
  memory_width j = width_of_memory (slice_get m.memories j)

  abbrev pub words_of_memory : Option Memory → ℕ
  words_of_memory None = 0
  words_of_memory (Some c) = length c.initial

  abbrev pub memory_words : ℕ → ℕ
  memory_words j = words_of_memory (slice_get m.memories j)

  abbrev pub is_read : ℕ → Bool
  is_read x = nat_lt 0 (width x)

  abbrev pub has_width : ℕ → ℕ → Bool
  has_width x w = is_read x && width x == w

  abbrev pub have_one_width : ℕ → ℕ → Bool
  have_one_width x y = has_width x (width y)

  abbrev pub joint_width : List ℕ → ℕ
  joint_width [] = 0
  joint_width (x ∷ xs) = width x + joint_width xs

  abbrev pub is_filled : List ℕ → Bool
  is_filled [] = false
  is_filled (x ∷ xs) = true

  -- ---- a right side fits a target of width w (IEEE 1364-2005, 5.4, in the narrow form that a net has)

  abbrev pub value_fits : Value → ℕ → Bool
  value_fits (v.Copy x) w = has_width x w
  value_fits (v.Constant n) w = nat_lt n (2 ^ w)
  value_fits (v.BitwiseNot x) w = has_width x w
  value_fits (v.Binary operator x y) w =
      if is_comparison operator then (w == 1 && have_one_width x y)
      else (if is_shift operator then (has_width x w && is_read y) else (has_width x w && has_width y w))
  value_fits (v.SignedLess x y) w = w == 1 && have_one_width x y
  value_fits (v.ArithmeticShiftRight x y) w = has_width x w && is_read y
  value_fits (v.Conditional c x y) w = has_width c 1 && (has_width x w && has_width y w)
  value_fits (v.Division operator x y) w = has_width x w && has_width y w
  value_fits (v.SignedDivision operator x y) w = has_width x w && has_width y w
  -- the number of words fits the address
  value_fits (v.MemoryRead j x) w = is_read x && (nat_lt (memory_words j) (2 ^ width x) && memory_width j == w)
  -- of more than one bit, which has a range
  value_fits (v.Select x high low) w = nat_le low high && (nat_lt high (width x) && (nat_lt 1 (width x) && w == high - low + 1))
  value_fits (v.Concatenation xs) w = is_filled xs && (all_right is_read xs && joint_width xs == w)
  value_fits (v.Replication n x) w = is_read x && n * width x == w

  -- an initial constant is below 2 to the width
  abbrev pub source_fits : Source → ℕ → Bool
  source_fits source.Input w = true
  source_fits (source.Register n) w = nat_lt n (2 ^ w)
  source_fits (source.Assigned right) w = value_fits right w
  source_fits (source.Port i port) w = true

  abbrev pub effect_fits : Effect → Bool
  effect_fits (effect.Set x y) = has_width y (register_width x)
  effect_fits (effect.Store j x y) = is_read x && has_width y (memory_width j)
  effect_fits (effect.Write text arguments) = has_values (values_in Between text) (length arguments) && all_right (λ a. is_read (argument_place a)) arguments

  abbrev pub action_fits : Action → Bool
  action_fits a = all_right (λ c. has_width c 1) a.conditions && effect_fits a.effect

  -- ---- what a signal needs

  abbrev pub IsSet : ℕ → Source → Type 0
  IsSet x (source.Register n) = (k : ℕ) × (a : Action) × (y : ℕ) × (slice_get m.actions k ≡ Some a) × (a.effect ≡ effect.Set x y)
  IsSet x _ = Unit {0}

  pub record IsSoundSignal (x : ℕ) (s : Signal) : Type 0 where
    pub fits : source_fits s.source s.width ≡ true
    -- a register is set by an action
    pub set : IsSet x s.source
    -- `clk` is an input of one bit
    pub clock : is_clk s.name ≡ true → (s.source ≡ source.Input) × (s.width ≡ 1)

  pub record IsSoundMemory (j : ℕ) (c : Memory) : Type 0 where
    pub fits : all_right (λ n. nat_lt n (2 ^ c.width)) c.initial ≡ true
    pub clock : is_clk c.name ≡ false

  -- ---- instances of modules that stand earlier

  abbrev pub is_clk_at : Option Signal → Bool
  is_clk_at None = false
  is_clk_at (Some s) = is_clk s.name

  -- `clk` stands at the port clk alone
  abbrev pub input_fits : Signal → ℕ → Bool
  input_fits port x = if is_clk port.name then is_clk_at (slice_get m.signals x) else has_width x port.width

  pub record IsSoundInstance (before : List Module) (i : ℕ) (n : Instance) : Type 0 where
    pub clock : is_clk n.name ≡ false
    pub inputs : (of : Module) → slice_get before n.of ≡ Some of → EachAt n.inputs (λ k x. (port : Signal) → slice_get of.signals k ≡ Some port → input_fits port x ≡ true)
    pub outputs : (of : Module) → slice_get before n.of ≡ Some of
        → EachAt n.outputs (λ k x. (port : Signal) → slice_get of.signals (first_output of + k) ≡ Some port → width x ≡ port.width)

  abbrev pub HasClock : Module → Type 0
  HasClock x = (k : ℕ) × (s : Signal) × (slice_get x.signals k ≡ Some s) × (is_clk s.name ≡ true)

  abbrev pub IsPort : Signal → Type 0
  IsPort s = (s.source ≡ source.Input) ⊎ (s.is_output ≡ true)

  pub record IsSoundModule (before : List Module) : Type 0 where
    pub name : is_clk m.name ≡ false
    -- it has a port
    pub port : (k : ℕ) × (s : Signal) × (slice_get m.signals k ≡ Some s) × IsPort s
    pub signals : EachAt m.signals IsSoundSignal
    pub memories : EachAt m.memories IsSoundMemory
    pub actions : EachAt m.actions (λ k a. action_fits a ≡ true)
    pub instances : EachAt m.instances (IsSoundInstance before)
    -- a module with actions, or with an instance that has the clock, has the clock
    pub actions_clocked : (k : ℕ) (a : Action) → slice_get m.actions k ≡ Some a → HasClock m
    pub instances_clocked : (i : ℕ) (n : Instance) (of : Module) → slice_get m.instances i ≡ Some n → slice_get before n.of ≡ Some of → HasClock of → HasClock m

-- ---- `$write`

abbrev pub is_write : Effect → Bool
is_write (effect.Write text arguments) = true
is_write (effect.Set x y) = false
is_write (effect.Store j x y) = false

module _ (n : Netlist) where
  -- an action of module k writes
  abbrev pub Writes : ℕ → Type 0
  Writes k = (m : Module) × (i : ℕ) × (a : Action) × (slice_get n.modules k ≡ Some m) × (slice_get m.actions i ≡ Some a) × (is_write a.effect ≡ true)

  -- instance i of module k is one of module `of`
  abbrev pub Places : ℕ → ℕ → ℕ → Type 0
  Places k i of = (m : Module) × (x : Instance) × (slice_get n.modules k ≡ Some m) × (slice_get m.instances i ≡ Some x) × (x.of ≡ of)

  abbrev pub IsTop : ℕ → Type 0
  IsTop k = (m : Module) × (slice_get n.modules k ≡ Some m) × (is_top m.name ≡ true)

  pub record IsPrinting : Type 0 where
    -- the modules in or below which a `$write` may stand, `top` and those above it aside
    pub below : ℕ → Bool
    pub writes : (k : ℕ) → Writes k → IsTop k ⊎ (below k ≡ true)
    pub holds : (k i of : ℕ) → Places k i of → below of ≡ true → IsTop k ⊎ (below k ≡ true)
    -- one module writes, and is `top` or has an instance
    pub one : (k j : ℕ) → Writes k → Writes j → k ≡ j
    pub placed : (k : ℕ) → Writes k → IsTop k ⊎ ((j : ℕ) × (i : ℕ) × Places j i k)
    -- of each there is one instance
    pub once : (k i j l of : ℕ) → below of ≡ true → Places k i of → Places j l of → (k ≡ j) × (i ≡ l)

pub record IsSound (n : Netlist) : Type 0 where
  pub laid : IsLaid n
  pub filled : 1 ≤ length n.modules
  pub modules : (k : ℕ) (m : Module) → slice_get n.modules k ≡ Some m → IsSoundModule m (take k n.modules)
  pub printing : IsPrinting n
