-- A sound netlist can be opened: its tests and places say that each width fits.
use Rattle.std.specs.Prelude.{◌≡◌, ℕ, zero, suc, ◌+◌, ◌^◌, ◌<◌, ◌≤◌, Bool, true, false, cond, List, [], ◌∷◌, ◌++◌, length}
use Rattle.std.specs.Prelude.{filter, take, Option, Some, None, option_and_then, slice_get, if◌then◌else◌, refl, codes}
use Rattle.std.proofs.Common.{ap, sym, ◌∙◌, subst, ⊎_elim, arith}
use Rattle.std.specs.Str.{bytes_eq}
use Rattle.std.proofs.lemmas.Option.{same_Some, slice_get_within}
use Rattle.std.proofs.lemmas.Bool.{ltb-true}
use Rattle.lists.proofs.Places.{get_there, get_left}
use Rattle.verilog_tree.specs.Scope.{is_clk}
use Rattle.netlist.specs.declared.netlist.Source.{Source}
use Rattle.netlist.specs.declared.netlist.Source.TheVariants as source
use Rattle.netlist.specs.declared.netlist.Signal.{Signal}
use Rattle.netlist.specs.declared.netlist.Instance.{Instance}
use Rattle.netlist.specs.declared.netlist.Module.{Module}
use Rattle.netlist.specs.declared.netlist.Netlist.{Netlist}
use Rattle.netlist.specs.NetlistOf.{is_output_port}
use Rattle.netlist.specs.Laid.{IsSource, IsDriven, IsLaidModule, kind_by, kind_of, is_inner, input_signals}
use Rattle.netlist.specs.Laid.{inner_signals, output_signals, first_output, AreApart, signal_names, memory_names, instance_names}
use Rattle.netlist.specs.Sound.{IsSound, IsSoundModule, is_clk_at, source_fits}
use Rattle.netlist.specs.Sound as sound
use Rattle.verilog_meaning.specs.Names.{module_named, top_of}
use Rattle.verilog_meaning.specs.Readings.{or_zero}
use Rattle.verilog_meaning.specs.Cycles.{Path, module_at, instance_at, connected, IsAt}
use Rattle.circuit.specs.Rows.{EachOf}
use Rattle.circuit.specs.Modules.{Has, FitsAction, FitsMemory}
use Rattle.circuit.specs.Nets.{FitsSource, FitsNet, FitsStatements}
use Rattle.sim_layout.specs.Running.{IsRight}
use Rattle.cycle_sim.specs.Opened.{IsRightNet}
use Rattle.sim_values.proofs.Trees.{opened, get_back, front_or_back}
use Rattle.cycle_sim.proofs.Fits.{each_listed, has_it, wide_read, value_right, action_right, memory_right}
use Rattle.cycle_sim.proofs.Narrow.{narrow_source, narrow_actions}

-- ---- lists

taken : {X : Type 0} (xs : List X) (k i : ℕ) (x : X) → slice_get (take k xs) i ≡ Some x → slice_get xs i ≡ Some x
taken [] zero i x e = absurd cc
taken [] (suc k) i x e = absurd cc
taken (y ∷ xs) zero i x e = absurd cc
taken (y ∷ xs) (suc k) zero x e = e
taken (y ∷ xs) (suc k) (suc i) x e = taken xs k i x e

passed_by : {X : Type 0} (p : X → Bool) (b : Bool) (y : X) (rest : List X) (k : ℕ) (x : X) → p y ≡ b → slice_get (cond b (y ∷ rest) rest) k ≡ Some x
    → ((i : ℕ) → slice_get rest i ≡ Some x → p x ≡ true) → p x ≡ true
passed_by p true y rest zero x q e f = subst (λ z. p z ≡ true) (same_Some y x e) q
passed_by p true y rest (suc k) x q e f = f k e
passed_by p false y rest k x q e f = f k e

-- what a filter leaves passes it
passes : {X : Type 0} (p : X → Bool) (xs : List X) (k : ℕ) (x : X) → slice_get (filter p xs) k ≡ Some x → p x ≡ true
passes p [] k x e = absurd cc
passes p (y ∷ xs) k x e = passed_by p (p y) y (filter p xs) k x refl e (λ i h. passes p xs i x h)

shorter_by : {X : Type 0} (b : Bool) (y : X) (rest : List X) (n : ℕ) → length rest ≤ n → length (cond b (y ∷ rest) rest) ≤ suc n
shorter_by true y rest n l = omega arith
shorter_by false y rest n l = omega arith

-- and is no longer
shorter : {X : Type 0} (p : X → Bool) (xs : List X) → length (filter p xs) ≤ length xs
shorter p [] = omega arith
shorter p (x ∷ xs) = shorter_by (p x) x (filter p xs) (length xs) (shorter p xs)

-- names that are apart are so in a part of the list
apart_front : (a b : List (List ℕ)) → AreApart (a ++ b) → AreApart a
apart_front a b apart i j x e f = apart i j x (get_left a b i (slice_get_within a i x e) ∙ e) (get_left a b j (slice_get_within a j x f) ∙ f)

apart_back : (a b : List (List ℕ)) → AreApart (a ++ b) → AreApart b
apart_back [] b apart = apart
apart_back (y ∷ a) b apart = apart_back a b (λ i j x e f. let same = apart (suc i) (suc j) x e f in omega (arith, same))

-- ---- the module of a name and of a path is one of the list

named_by : (b : Bool) (t : Module) (ms : List Module) (name : List ℕ) (m : Module) → bytes_eq name t.name ≡ b → module_named (t ∷ ms) name ≡ Some m
    → (module_named ms name ≡ Some m → (k : ℕ) × (slice_get ms k ≡ Some m)) → (k : ℕ) × (slice_get (t ∷ ms) k ≡ Some m)
named_by true t ms name m q e rest = (0, sym (ap (λ c. if c then Some t else module_named ms name) q) ∙ e)
named_by false t ms name m q e rest = let r = rest (sym (ap (λ c. if c then Some t else module_named ms name) q) ∙ e) in (suc r.0, r.1)

pub named_at : (ms : List Module) (name : List ℕ) (m : Module) → module_named ms name ≡ Some m → (k : ℕ) × (slice_get ms k ≡ Some m)
named_at [] name m e = absurd cc
named_at (t ∷ ms) name m e = named_by (bytes_eq name t.name) t ms name m refl e (named_at ms name m)

-- what stands round an instance
pub record IsHeld (modules : List Module) (top : Module) (outer : Path) (i : ℕ) (m : Module) : Type 0 where
  pub holder : Module
  pub stands : module_at modules top outer ≡ Some holder
  pub instance : Instance
  pub listed : slice_get holder.instances i ≡ Some instance
  pub kind : slice_get modules instance.of ≡ Some m

pub held : (modules : List Module) (top : Module) (outer : Path) (i : ℕ) (m : Module) → module_at modules top (i ∷ outer) ≡ Some m → IsHeld modules top outer i m
held modules top outer i m at =
    let a = opened (λ (k : Module). option_and_then (λ (n : Instance). slice_get modules n.of) (slice_get k.instances i)) (module_at modules top outer) m at in
    let b = opened (λ (n : Instance). slice_get modules n.of) (slice_get (a.0).instances i) m a.2 in
    record { holder = a.0; stands = a.1; instance = b.0; listed = b.1; kind = b.2 }

pub placed_at : (modules : List Module) (top : Module) → top_of modules ≡ Some top → (path : Path) (m : Module) → module_at modules top path ≡ Some m → (k : ℕ) × (slice_get modules k ≡ Some m)
placed_at modules top is [] m at = let r = named_at modules (codes "top") top is in (r.0, r.1 ∙ at)
placed_at modules top is (i ∷ outer) m at = let h = held modules top outer i m at in (h.instance.of, h.kind)

-- ---- inputs stand first

both : {X : Type 0} {b : Bool} → b ≡ false → b ≡ true → X
both p q = absurd (let z : false ≡ true = sym p ∙ q in cc)

module _ (m : Module) (x : ℕ) (s : Signal) (is : s.source ≡ source.Input) where
  not_inner : (k : ℕ) → slice_get (inner_signals m) k ≡ Some s → x < length (input_signals m)
  not_inner k e =
      both (ap (λ from. is_inner (kind_by from s.is_output)) is) (passes (λ (t : Signal). is_inner (kind_of t)) m.signals k s e)

  not_output : (k : ℕ) → slice_get (output_signals m) k ≡ Some s → x < length (input_signals m)
  not_output k e =
      both (ap (λ from. is_output_port (kind_by from s.is_output)) is) (passes (λ (t : Signal). is_output_port (kind_of t)) m.signals k s e)

  in_front : slice_get (input_signals m ++ inner_signals m) x ≡ Some s → x < length (input_signals m)
  in_front e =
      ⊎_elim (λ l. l) (λ i. not_inner i.0 (sym (get_back (input_signals m) (inner_signals m) x i.0 i.1) ∙ e)) (front_or_back x (length (input_signals m)))

  input_first : m.signals ≡ input_signals m ++ inner_signals m ++ output_signals m → slice_get m.signals x ≡ Some s → x < length (input_signals m)
  input_first order listed =
      let at : slice_get (input_signals m ++ inner_signals m ++ output_signals m) x ≡ Some s = ap (λ l. slice_get l x) (sym order) ∙ listed in
      ⊎_elim
      (λ l. in_front (sym (get_left (input_signals m ++ inner_signals m) (output_signals m) x l) ∙ at))
      (λ i. not_output i.0 (sym (get_back (input_signals m ++ inner_signals m) (output_signals m) x i.0 i.1) ∙ at))
      (front_or_back x (length (input_signals m ++ inner_signals m)))

-- ---- the clock, and a signal that is connected to a port

clock_at : (h : Module) (o : Option Signal) → is_clk_at h o ≡ true → (t : Signal) × (o ≡ Some t) × (is_clk t.name ≡ true)
clock_at h None e = absurd cc
clock_at h (Some t) e = (t, refl, e)

connected_by : (h : Module) (name : List ℕ) (w y : ℕ) (b : Bool) → (b ≡ true → w ≡ 1) → ((t : Signal) → slice_get h.signals y ≡ Some t → is_clk t.name ≡ true → t.width ≡ 1)
    → (if b then is_clk_at h (slice_get h.signals y) else sound.has_width h y w) ≡ true → Has h y w
connected_by h name w y true port own e =
    let t = clock_at h (slice_get h.signals y) e in
    record { signal = t.0; listed = t.1; wide = own t.0 t.1 t.2 ∙ sym (port refl) }
connected_by h name w y false port own e = has_it h y w e

module _ (n : Netlist) (is : IsSound n) (top : Module) (top_is : top_of n.modules ≡ Some top) where
  module _ (k : ℕ) (m : Module) (listed : slice_get n.modules k ≡ Some m) where
    laid_module : IsLaidModule (take k n.modules) m
    laid_module = is.laid.modules k m listed

    sound_module : IsSoundModule m (take k n.modules)
    sound_module = is.modules k m listed

    clock_wide : (x : ℕ) (s : Signal) → slice_get m.signals x ≡ Some s → is_clk s.name ≡ true → s.width ≡ 1
    clock_wide x s at clk = ((sound_module.signals x s at).clock clk).1

    acts : EachOf (FitsAction m) m.actions
    acts = each_listed (FitsAction m) m.actions (λ i a e. action_right m a ((laid_module).actions i a e).memories ((sound_module).actions i a e))

    -- the port that drives a signal
    port_fits : (path : Path) (x : ℕ) (s : Signal) (i port : ℕ) → IsAt n.modules top path m x s → IsDriven (take k n.modules) m x i port
        → (sub : Module) × (module_at n.modules top (i ∷ path) ≡ Some sub) × Has sub port s.width
    port_fits path x s i port at d =
        let listed_there : slice_get n.modules (d.instance).of ≡ Some d.of = taken n.modules k (d.instance).of d.of d.earlier in
        let l = (laid_module).instances i d.instance d.stands in
        let same : l.of ≡ d.of = same_Some l.of d.of (sym l.earlier ∙ d.earlier) in
        let outputs : length (d.instance).outputs ≡ length (output_signals d.of) = l.outputs ∙ ap (λ (z : Module). length (output_signals z)) same in
        let few = slice_get_within (d.instance).outputs d.output x d.tied in
        let room = shorter (λ (t : Signal). is_output_port (kind_of t)) (d.of).signals in
        let p = get_there (d.of).signals (first_output d.of + d.output) (omega (arith, outputs, few, room)) in
        let wide : sound.width m x ≡ (p.0).width = ((sound_module).instances i d.instance d.stands).outputs d.of d.earlier d.output x d.tied p.0 p.1 in
        let low = ((is.laid.modules (d.instance).of d.of listed_there).signals (first_output d.of + d.output) p.0 p.1).low in
        let own : s.width ≡ sound.width m x = wide_read m x s at.listed (omega (arith, wide, low)) in (
          d.of,
          ap (option_and_then (λ (h : Module). option_and_then (λ (c : Instance). slice_get n.modules c.of) (slice_get h.instances i))) at.stands
              ∙ ap (option_and_then (λ (c : Instance). slice_get n.modules c.of)) d.stands ∙ listed_there,
          record { signal = p.0; listed = ap (slice_get (d.of).signals) d.port_is ∙ p.1; wide = sym wide ∙ sym own },
        )

    -- the signal that an input is connected to
    input_fits_there : (outer : Path) (i x : ℕ) (s : Signal) → slice_get m.signals x ≡ Some s → s.source ≡ source.Input → module_at n.modules top (i ∷ outer) ≡ Some m
        → (holder : Module) × (module_at n.modules top outer ≡ Some holder) × Has holder (connected n.modules top (instance_at n.modules top outer i) x) s.width
    input_fits_there outer i x s at input stands =
        let h = held n.modules top outer i m stands in
        let r = placed_at n.modules top top_is outer h.holder h.stands in
        let l = (is.laid.modules r.0 h.holder r.1).instances i h.instance h.listed in
        let same : l.of ≡ m = same_Some l.of m (sym (taken n.modules r.0 (h.instance).of l.of l.earlier) ∙ h.kind) in
        let earlier : slice_get (take r.0 n.modules) (h.instance).of ≡ Some m = l.earlier ∙ ap Some same in
        let inputs : length (h.instance).inputs ≡ length (input_signals m) = l.inputs ∙ ap (λ (z : Module). length (input_signals z)) same in
        let first = input_first m x s input (laid_module).order at in
        let y = get_there (h.instance).inputs x (omega (arith, inputs, first)) in
        let fits = ((is.modules r.0 h.holder r.1).instances i h.instance h.listed).inputs m earlier x y.0 y.1 s at in
        let there : connected n.modules top (instance_at n.modules top outer i) x ≡ y.0 =
        ap (λ o. connected n.modules top o x) (ap (option_and_then (λ (z : Module). slice_get z.instances i)) h.stands ∙ h.listed) ∙ ap or_zero y.1 in (
          h.holder,
          h.stands,
          subst (λ z. Has h.holder z s.width) (sym there)
              (connected_by h.holder s.name s.width y.0 (is_clk s.name) (clock_wide x s at)
              (λ t e c. (((is.modules r.0 h.holder r.1).signals y.0 t e).clock c).1) fits),
        )

    module _ (path : Path) (stands : module_at n.modules top path ≡ Some m) where
      by_path : (x : ℕ) (s : Signal) → slice_get m.signals x ≡ Some s → s.source ≡ source.Input → (q : Path) → module_at n.modules top q ≡ Some m → FitsSource n.modules top q m x s.width source.Input
      by_path x s at e [] q = tt
      by_path x s at e (i ∷ outer) q = input_fits_there outer i x s at e q

      drives : (x : ℕ) (s : Signal) (at : slice_get m.signals x ≡ Some s) (from : Source) → s.source ≡ from → IsSource (take k n.modules) m x s.is_output from
          → source_fits m from s.width ≡ true → FitsSource n.modules top path m x s.width from
      drives x s at (source.Register initial) e laid fits = ltb-true initial (2 ^ s.width) fits
      drives x s at (source.Assigned a) e laid fits = value_right m s.width a laid.1 fits
      drives x s at (source.Port i port) e laid fits = port_fits path x s i port (record { stands = stands; listed = at }) laid
      drives x s at source.Input e laid fits = by_path x s at e path stands

  fits : FitsNet n.modules top
  fits path m x s at =
      let k = placed_at n.modules top top_is path m at.stands in
      drives k.0 m k.1 path at.stands x s at.listed s.source refl (((is.laid.modules k.0 m k.1).signals x s at.listed).drives) (((is.modules k.0 m k.1).signals x s at.listed).fits)

  statements : FitsStatements n.modules top
  statements = record {
    acts = λ path m at. let k = placed_at n.modules top top_is path m at in acts k.0 m k.1;
    begins = λ path m at.
        let k = placed_at n.modules top top_is path m at in
        each_listed FitsMemory m.memories (λ j c e. memory_right m c (((is.modules k.0 m k.1).memories j c e).fits));
  }

  pub right : IsRight n.modules top
  right = record {
    fits = fits;
    narrow = λ path m x s at. let k = placed_at n.modules top top_is path m at.stands in ((is.laid.modules k.0 m k.1).signals x s at.listed).high;
    values = λ k x m s at listed.
        narrow_source m (take k n.modules) (is.laid.modules k m at) x s.width s.is_output s.source ((is.laid.modules k m at).signals x s listed).drives ((is.modules k m at).signals x s listed).fits;
    prints = λ k m at. narrow_actions m (take k n.modules) (is.laid.modules k m at) m.actions (λ j a e. ((is.laid.modules k m at).actions j a e).signals);
    statements = statements;
    acts = acts;
    named = record {
      instances = (let k = placed_at n.modules top top_is [] top refl in
          apart_back (signal_names top ++ memory_names top) (instance_names top) (is.laid.modules k.0 top k.1).names);
      memories = λ k m at. apart_back (signal_names m) (memory_names m) (apart_front (signal_names m ++ memory_names m) (instance_names m) (is.laid.modules k m at).names);
    };
  }

pub right_of_sound : (n : Netlist) → IsSound n → IsRightNet n.modules
right_of_sound n is top top_is = right n is top top_is
