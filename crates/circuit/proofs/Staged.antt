-- A net in stages has levels, and its widths fit.
use Rattle.std.proofs.Common.{◌≡◌, ℕ, zero, suc, ◌+◌, ◌*◌, ◌<◌, ◌≤◌, Bool, true, false, if◌then◌else◌, List, [], ◌∷◌, length, Option, Some, None, slice_get, refl, sym, ap, ◌∙◌, subst, arith}
use Rattle.std.specs.Prelude.{option_and_then}
use Rattle.std.proofs.Math.Nat.{suc-mul, mul-le-mul_right}
use Rattle.std.proofs.lemmas.Option.{slice_get_within}
use Rattle.netlist.specs.declared.netlist.Source.{Source}
use Rattle.netlist.specs.declared.netlist.Source.TheVariants.{Input, Register, Assigned, Port}
use Rattle.netlist.specs.declared.netlist.Signal.{Signal}
use Rattle.netlist.specs.declared.netlist.Instance.{Instance}
use Rattle.netlist.specs.declared.netlist.Module.{Module}
use Rattle.verilog_meaning.specs.Cycles.{choice_number, Path, Valuation, Choice, module_at, instance_at, connected, IsAt, IsSettled, IsState}
use Rattle.verilog_meaning.specs.Threads.{Place, Names}
use Rattle.verilog_meaning.proofs.OneSettled.{IsDeclared, IsLevelled, settled-same}
use Rattle.circuit.specs.Rows.{EachOf}
use Rattle.circuit.specs.Modules.{FitsAction, FitsMemory, Has, Reads, IsSoundSource}
use Rattle.circuit.specs.Nets.{FitsSource, FitsNet, FitsChoice, FitsStatements}
use Rattle.circuit.specs.Staging.{Stages, port_stage, ReadsWire, IsStagedSource, IsConnected, IsStaged}
use Rattle.circuit.proofs.Tables.{fits_among, operand_of}
use Rattle.circuit.proofs.Within.{has_settled}

-- ---- stages of so many places each

pub later_stage : (a b size x y : ℕ) → a < b → x < size → a * size + x < b * size + y
later_stage a b size x y l m =
    let k : suc a * size ≤ b * size = mul-le-mul_right size (let s : suc a ≤ b = omega arith in s) in
    let e = suc-mul a size in
    omega arith

pub same_stage : (a b size x y : ℕ) → a ≤ b → x < y → a * size + x < b * size + y
same_stage a b size x y l m =
    let k : a * size ≤ b * size = mul-le-mul_right size l in
    omega arith

-- ---- a number above every place of a net

abbrev pub all_sizes : List Module → ℕ
all_sizes [] = 0
all_sizes (m ∷ modules) = length m.signals + all_sizes modules

module_below : (modules : List Module) (i : ℕ) (m : Module) → slice_get modules i ≡ Some m → length m.signals ≤ all_sizes modules
module_below [] i m e = absurd cc
module_below (n ∷ modules) zero m e =
    let same : n ≡ m = cc in let k : length n.signals ≡ length m.signals = ap (λ (z : Module). length z.signals) same in omega arith
module_below (n ∷ modules) (suc i) m e = let l = module_below modules i m e in omega arith

pub from_then : {A B : Type 0} (f : A → Option B) (o : Option A) (b : B) → option_and_then f o ≡ Some b → (a : A) × (o ≡ Some a) × (f a ≡ Some b)
from_then f None b e = absurd cc
from_then f (Some a) b e = (a, refl, e)

pair_is : (q : Place) (path : Path) (x : ℕ) → q.0 ≡ path → q.1 ≡ x → q ≡ (path, x)
pair_is q path x e f = let whole : Path → ℕ → Place = λ a b. (a, b) in ap (λ a. whole a q.1) e ∙ ap (whole path) f

module _ (modules : List Module) (top : Module) (stages : Stages) (is : IsStaged modules top stages) where
  -- the module of an instance is one of the list
  instance_sized : (j : ℕ) (m : Module) → module_at modules top (j ∷ []) ≡ Some m → length m.signals ≤ all_sizes modules
  instance_sized j m e =
      let a = from_then (λ (n : Instance). slice_get modules n.of) (slice_get top.instances j) m e in
      module_below modules a.0.of m a.2

  -- nothing stands deeper
  pub no_deeper : (i j : ℕ) (rest : Path) (m : Module) → module_at modules top (i ∷ j ∷ rest) ≡ Some m → ⊥
  no_deeper i j [] m e =
      let a = from_then (λ (k : Module). option_and_then (λ (n : Instance). slice_get modules n.of) (slice_get k.instances i)) (module_at modules top (j ∷ [])) m e in
      let alone = (is.leaves j a.0 a.1).1.alone in
      let b = from_then (λ (n : Instance). slice_get modules n.of) (slice_get a.0.instances i) m a.2 in
      let none : slice_get [] i ≡ Some b.0 = sym (ap (λ (ns : List Instance). slice_get ns i) alone) ∙ b.1 in
      absurd cc
  no_deeper i j (k ∷ rest) m e =
      let a = from_then (λ (q : Module). option_and_then (λ (n : Instance). slice_get modules n.of) (slice_get q.instances i)) (module_at modules top (j ∷ k ∷ rest)) m e in
      no_deeper j k rest a.0 a.1

  abbrev pub net_level : Path → ℕ → ℕ
  net_level [] x = stages.wire x * (length top.signals + all_sizes modules) + x
  net_level (j ∷ []) x = port_stage modules top stages j x * (length top.signals + all_sizes modules) + x
  net_level (i ∷ j ∷ rest) x = 0

  either_stage : (b c : Bool) (early late : ℕ) → early ≤ late → (b ≡ true → c ≡ true) → (if b then late else early) ≤ (if c then late else early)
  either_stage true true early late l h = omega arith
  either_stage true false early late l h = let e : false ≡ true = h refl in absurd cc
  either_stage false true early late l h = l
  either_stage false false early late l h = omega arith

  leaf_levels : (j : ℕ) (m : Module) (x : ℕ) (w : ℕ) (source : Source) (inputs : ℕ) → module_at modules top (j ∷ []) ≡ Some m → (source ≡ Input
      → IsConnected modules top stages j x w) → IsSoundSource m inputs (stages.is_late j) x w source → (q : Place) → Names modules top (j ∷ []) x source q
      → IsDeclared modules top q × (net_level q.0 q.1 < net_level (j ∷ []) x)
  leaf_levels j m x w Input inputs at joined sound q names =
      let k = joined refl in
      let y = connected modules top (instance_at modules top [] j) x in
      let l = slice_get_within top.signals y k.has.signal k.has.listed in
      let low : net_level [] y < net_level (j ∷ []) x = later_stage (stages.wire y) (port_stage modules top stages j x) (length top.signals + all_sizes modules) y x k.staged (omega arith) in
      let p : Place = ([], y) in
      let same : q ≡ p = pair_is q [] y names.0 names.1 in
      let there : IsDeclared modules top p = record { holder = top; signal = k.has.signal; at = record { stands = refl; listed = k.has.listed } } in
      let Low : Place → Type 0 = λ z. IsDeclared modules top z × (net_level z.0 z.1 < net_level (j ∷ []) x) in
      subst Low (sym same) (there, low)
  leaf_levels j m x w (Register n) inputs at joined sound q names = absurd names
  leaf_levels j m x w (Assigned v) inputs at joined sound q names =
      let o = operand_of (Reads m (stages.is_late j) x) (λ k. slice_get m.memories k) w v sound q.1 names.1 in
      let y = q.1 in
      let stage = either_stage (stages.is_late j y) (stages.is_late j x) (stages.early j) (stages.late j) (is.rises j) o.1.in_time in
      let low : net_level (j ∷ []) y < net_level (j ∷ []) x = same_stage (port_stage modules top stages j y) (port_stage modules top stages j x)
      (length top.signals + all_sizes modules) y x stage o.1.before in
      let p : Place = (j ∷ [], y) in
      let same : q ≡ p = pair_is q (j ∷ []) y names.0 refl in
      let there : IsDeclared modules top p = record { holder = m; signal = o.1.has.signal; at = record { stands = at; listed = o.1.has.listed } } in
      let Low : Place → Type 0 = λ z. IsDeclared modules top z × (net_level z.0 z.1 < net_level (j ∷ []) x) in
      subst Low (sym same) (there, low)
  leaf_levels j m x w (Port i p) inputs at joined sound q names = absurd sound

  top_levels : (x w : ℕ) (source : Source) → IsStagedSource modules top stages x w source → (q : Place) → Names modules top [] x source q
      → IsDeclared modules top q × (net_level q.0 q.1 < net_level [] x)
  top_levels x w Input staged q names = absurd names
  top_levels x w (Register n) staged q names = absurd names
  top_levels x w (Assigned v) staged q names =
      let o = operand_of (ReadsWire modules top stages x) (λ k. slice_get top.memories k) w v staged q.1 names.1 in
      let y = q.1 in
      let low : net_level [] y < net_level [] x = same_stage (stages.wire y) (stages.wire x) (length top.signals + all_sizes modules) y x o.1.staged o.1.before in
      let p : Place = ([], y) in
      let same : q ≡ p = pair_is q [] y names.0 refl in
      let there : IsDeclared modules top p = record { holder = top; signal = o.1.has.signal; at = record { stands = refl; listed = o.1.has.listed } } in
      let Low : Place → Type 0 = λ z. IsDeclared modules top z × (net_level z.0 z.1 < net_level [] x) in
      subst Low (sym same) (there, low)
  top_levels x w (Port j port) staged q names =
      let l = slice_get_within staged.holder.signals port staged.has.signal staged.has.listed in
      let b = instance_sized j staged.holder staged.stands in
      let low : net_level (j ∷ []) port < net_level [] x = later_stage (port_stage modules top stages j port) (stages.wire x)
      (length top.signals + all_sizes modules) port x staged.staged (omega arith) in
      let p : Place = (j ∷ [], port) in
      let same : q ≡ p = pair_is q (j ∷ []) port names.0 names.1 in
      let there : IsDeclared modules top p = record { holder = staged.holder; signal = staged.has.signal; at = record { stands = staged.stands; listed = staged.has.listed } } in
      let Low : Place → Type 0 = λ z. IsDeclared modules top z × (net_level z.0 z.1 < net_level [] x) in
      subst Low (sym same) (there, low)

  is_top : (m : Module) → module_at modules top [] ≡ Some m → top ≡ m
  is_top m e = cc

  pub net_levelled : IsLevelled modules top net_level
  net_levelled [] m x s at =
      top_levels x s.width s.source (is.wires x s (ap (λ (z : Module). slice_get z.signals x) (is_top m at.stands) ∙ at.listed))
  net_levelled (j ∷ []) m x s at =
      let leaf = is.leaves j m at.stands in
      leaf_levels j m x s.width s.source leaf.0 at.stands (is.connects j m x s at.stands at.listed) (leaf.1.sound x s at.listed)
  net_levelled (i ∷ j ∷ rest) m x s at = absurd (no_deeper i j rest m at.stands)

  leaf_fits : (j : ℕ) (m : Module) (x w : ℕ) (source : Source) (inputs : ℕ) → (source ≡ Input → IsConnected modules top stages j x w)
      → IsSoundSource m inputs (stages.is_late j) x w source → FitsSource modules top (j ∷ []) m x w source
  leaf_fits j m x w Input inputs joined sound = (top, refl, (joined refl).has)
  leaf_fits j m x w (Register n) inputs joined sound = sound
  leaf_fits j m x w (Assigned v) inputs joined sound = fits_among (Reads m (stages.is_late j) x) (Has m) (λ k. slice_get m.memories k) w v (λ y u i h. h.has) sound
  leaf_fits j m x w (Port i p) inputs joined sound = absurd sound

  top_fits : (x w : ℕ) (source : Source) → IsStagedSource modules top stages x w source → FitsSource modules top [] top x w source
  top_fits x w Input staged = tt
  top_fits x w (Register n) staged = staged
  top_fits x w (Assigned v) staged = fits_among (ReadsWire modules top stages x) (Has top) (λ k. slice_get top.memories k) w v (λ y u i h. h.has) staged
  top_fits x w (Port j port) staged = (staged.holder, staged.stands, staged.has)

  pub net_fits : FitsNet modules top
  net_fits [] m x s at =
      let same = is_top m at.stands in
      subst (λ (z : Module). FitsSource modules top [] z x s.width s.source) same
      (top_fits x s.width s.source (is.wires x s (ap (λ (z : Module). slice_get z.signals x) same ∙ at.listed)))
  net_fits (j ∷ []) m x s at =
      let leaf = is.leaves j m at.stands in
      leaf_fits j m x s.width s.source leaf.0 (is.connects j m x s at.stands at.listed) (leaf.1.sound x s at.listed)
  net_fits (i ∷ j ∷ rest) m x s at = absurd (no_deeper i j rest m at.stands)

  net_acts : (path : Path) (m : Module) → module_at modules top path ≡ Some m → EachOf (FitsAction m) m.actions
  net_acts [] m at = subst (λ (z : Module). EachOf (FitsAction z) z.actions) (is_top m at) is.acts
  net_acts (j ∷ []) m at = (is.leaves j m at).1.acts
  net_acts (i ∷ j ∷ rest) m at = absurd (no_deeper i j rest m at)

  net_begins : (path : Path) (m : Module) → module_at modules top path ≡ Some m → EachOf FitsMemory m.memories
  net_begins [] m at = subst (λ (z : Module). EachOf FitsMemory z.memories) (is_top m at) is.begins
  net_begins (j ∷ []) m at = (is.leaves j m at).1.begins
  net_begins (i ∷ j ∷ rest) m at = absurd (no_deeper i j rest m at)

  pub net_statements : FitsStatements modules top
  net_statements = record { acts = net_acts; begins = net_begins }

  -- exactly one settled valuation
  pub staged_settles : (h : Valuation) (c : Choice) → IsState modules top h → FitsChoice modules top c → (v : Valuation) × IsSettled modules top h c v
  staged_settles = has_settled modules top net_level net_levelled net_fits

  pub staged_same : (h : Valuation) (c : Choice) (v w : Valuation) → IsSettled modules top h c v → IsSettled modules top h c w → (path : Path) (m : Module) (x : ℕ) (s : Signal)
      → IsAt modules top path m x s → (v path).signal x ≡ (w path).signal x
  staged_same h c v w a b path m x s at =
      settled-same modules top h (choice_number c) net_level net_levelled v w a b (path, x) (record { holder = m; signal = s; at = at })
