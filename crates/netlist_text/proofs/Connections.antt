-- What is connected to the ports of an instance.
use Rattle.std.proofs.Common.{◌≡◌, ℕ, zero, suc, ◌+◌, ◌-◌, ◌<◌, ◌≤◌, List, [], ◌∷◌, ◌++◌, false, Some, refl, sym, ap, ◌∙◌, length, map, add-zero, zero-add, arith}
use Rattle.std.specs.Prelude.{slice_get, unwrap_or, if◌then◌else◌}
use Rattle.std.specs.Str.{bytes_eq}
use Rattle.std.proofs.lemmas.Option.{same_Some, none-some}
use Rattle.std.proofs.lemmas.List.{append-nil, length-append}
use Rattle.std.proofs.lemmas.Slice.Eq.{bytes_eq-Decides}
use Rattle.std.proofs.lemmas.Simd.{map-map}
use Rattle.lists.proofs.Places.{get_front, get_back, get_there, get_mapped}
use Rattle.verilog_tree.specs.declared.tree.Connection.{Connection}
use Rattle.verilog_tree.specs.declared.tree.Module as text_module
use Rattle.netlist.specs.declared.netlist.Signal.{Signal}
use Rattle.netlist.specs.declared.netlist.Instance.{Instance}
use Rattle.netlist.specs.declared.netlist.Module.{Module}
use Rattle.netlist.specs.NetlistOf as n
use Rattle.netlist.specs.NetlistOf.{Name, place, connected}
use Rattle.netlist.specs.Laid.{AreApart, input_signals, inner_signals, output_signals, first_output, signal_names, module_names}
use Rattle.netlist_text.specs.LaidOut as laid
use Rattle.netlist_text.proofs.Places.{place_at, other_name}
use Rattle.netlist_text.proofs.Values.{signal_name_at}

-- a module whose signals have names of their own and stand in order
pub record IsOrdered (m : Module) : Type 0 where
  pub names : AreApart (signal_names m)
  pub order : m.signals ≡ input_signals m ++ inner_signals m ++ output_signals m

pub length_parts : (m : Module) → IsOrdered m → length m.signals ≡ length (input_signals m) + length (inner_signals m) + length (output_signals m)
length_parts m h =
    ap length h.order ∙ length-append (input_signals m ++ inner_signals m) (output_signals m)
    ∙ ap (λ k. k + length (output_signals m)) (length-append (input_signals m) (inner_signals m))

pub first_is : (m : Module) → IsOrdered m → first_output m ≡ length (input_signals m ++ inner_signals m)
first_is m h = let e = length_parts m h in let f = length-append (input_signals m) (inner_signals m) in omega arith

pub input_at : (m : Module) → IsOrdered m → (k : ℕ) (s : Signal) → slice_get (input_signals m) k ≡ Some s → slice_get m.signals k ≡ Some s
input_at m h k s q =
    ap (λ l. slice_get l k) h.order
    ∙ get_front (input_signals m ++ inner_signals m) (output_signals m) k s (get_front (input_signals m) (inner_signals m) k s q)

pub output_at : (m : Module) → IsOrdered m → (k : ℕ) (s : Signal) → slice_get (output_signals m) k ≡ Some s → slice_get m.signals (first_output m + k) ≡ Some s
output_at m h k s q =
    ap (λ l. slice_get l (first_output m + k)) h.order ∙ ap (λ j. slice_get (input_signals m ++ inner_signals m ++ output_signals m) (j + k)) (first_is m h)
    ∙ get_back (input_signals m ++ inner_signals m) (output_signals m) k s q

-- ---- ties of ports from a place on

module _ (m of : Module) (apart : AreApart (signal_names of)) where
  abbrev ties : ℕ → List ℕ → List Connection
  ties = laid.with_places (laid.tie m of)

  other_port : (k q : ℕ) (s : Signal) → slice_get of.signals q ≡ Some s → k < length of.signals → (k ≡ q → ⊥) → bytes_eq s.name (laid.signal_name of k) ≡ false
  other_port k q s h lt ne =
      let t = get_there of.signals k lt in
      let at : slice_get (signal_names of) k ≡ Some t.0.name = get_mapped (λ (y : Signal). y.name) of.signals k t.0 t.1 in
      other_name s.name (laid.signal_name of k) (λ e.
      ne (apart k q s.name (at ∙ ap Some (sym (signal_name_at of k t.0 t.1)) ∙ ap Some (sym e)) (get_mapped (λ (y : Signal). y.name) of.signals q s h)))

  skipped : (ps : List ℕ) (k : ℕ) (rest : List Connection) (q : ℕ) (s : Signal) → slice_get of.signals q ≡ Some s → k + length ps ≤ length of.signals → k + length ps ≤ q
      → connected (ties k ps ++ rest) s.name ≡ connected rest s.name
  skipped [] k rest q s h fits past = refl
  skipped (p ∷ ps) k rest q s h fits past =
      ap (λ b. if b then laid.signal_name m p else connected (ties (k + 1) ps ++ rest) s.name) (other_port k q s h (omega arith) (λ e. omega arith))
      ∙ skipped ps (k + 1) rest q s h (omega arith) (omega arith)

  tied : (ps : List ℕ) (k : ℕ) (rest : List Connection) (j p : ℕ) (s : Signal) → slice_get ps j ≡ Some p → slice_get of.signals (k + j) ≡ Some s → k + length ps ≤ length of.signals
      → connected (ties k ps ++ rest) s.name ≡ laid.signal_name m p
  tied [] k rest j p s h at fits = absurd (none-some p h)
  tied (r ∷ ps) k rest zero p s h at fits =
      let here : slice_get of.signals k ≡ Some s = ap (slice_get of.signals) (sym (add-zero k)) ∙ at in
      ap (λ b. if b then laid.signal_name m r else connected (ties (k + 1) ps ++ rest) s.name)
      (ap (bytes_eq s.name) (signal_name_at of k s here) ∙ (bytes_eq-Decides s.name s.name).1 refl) ∙ ap (laid.signal_name m) (same_Some r p h)
  tied (r ∷ ps) k rest (suc j) p s h at fits =
      let e : k + suc j ≡ k + 1 + j = omega arith in
      ap (λ b. if b then laid.signal_name m r else connected (ties (k + 1) ps ++ rest) s.name) (other_port k (k + suc j) s at (omega arith) (λ e. omega arith))
      ∙ tied ps (k + 1) rest j p s h (ap (slice_get of.signals) (sym e) ∙ at) (omega arith)

-- ---- of an instance

module _ (m of : Module) (x : Instance) (ordered : IsOrdered of) (inputs : length x.inputs ≡ length (input_signals of)) (outputs : length x.outputs ≡ length (output_signals of)) where
  room : length x.inputs + length x.outputs ≤ length of.signals
  room = let e = length_parts of ordered in omega arith

  pub input_connected : (k p : ℕ) (s : Signal) → slice_get (input_signals of) k ≡ Some s → slice_get x.inputs k ≡ Some p → connected (laid.connections m of x) s.name ≡ laid.signal_name m p
  input_connected k p s h q =
      let r = room in
      tied m of ordered.names x.inputs 0 (laid.with_places (laid.tie m of) (length of.signals - length x.outputs) x.outputs) k p s q
      (ap (slice_get of.signals) (zero-add k) ∙ input_at of ordered k s h) (omega arith)

  pub output_connected : (k p : ℕ) (s : Signal) → slice_get (output_signals of) k ≡ Some s → slice_get x.outputs k ≡ Some p → connected (laid.connections m of x) s.name ≡ laid.signal_name m p
  output_connected k p s h q =
      let first : ℕ = length of.signals - length x.outputs in
      let r = room in
      let same : first ≡ first_output of = ap (λ j. length of.signals - j) outputs in
      let at : slice_get of.signals (first + k) ≡ Some s = ap (λ j. slice_get of.signals (j + k)) same ∙ output_at of ordered k s h in
      skipped m of ordered.names x.inputs 0 (laid.with_places (laid.tie m of) first x.outputs) (first + k) s at (omega arith) (omega arith)
      ∙ ap (λ l. connected l s.name) (sym (append-nil (laid.with_places (laid.tie m of) first x.outputs)))
      ∙ tied m of ordered.names x.outputs first [] k p s q at (omega arith)

-- ---- the module of an instance

-- what is known of the modules before one among all
pub record AreBefore (all before : List Module) : Type 0 where
  pub names : AreApart (module_names before)
  pub among : (k : ℕ) (x : Module) → slice_get before k ≡ Some x → slice_get all k ≡ Some x
  pub ordered : (k : ℕ) (x : Module) → slice_get before k ≡ Some x → IsOrdered x

module _ (all before : List Module) (m : Module) (known : AreBefore all before) where
  abbrev pub texts : List text_module.Module
  texts = map (laid.text_of_module all) before

  pub instance_is : (x : Instance) (of : Module) → slice_get before x.of ≡ Some of → laid.instance_of all m x ≡ laid.instance_by m x of
  instance_is x of h = ap (λ o. laid.instance_by m x (unwrap_or o m)) (known.among x.of of h)

  pub place_is : (k : ℕ) (of : Module) → slice_get before k ≡ Some of → place (n.module_names texts) of.name ≡ k
  place_is k of h =
      ap (λ l. place l of.name) (map-map (λ (t : text_module.Module). t.name) (laid.text_of_module all) before)
      ∙ place_at (module_names before) k of.name known.names (get_mapped (λ (y : Module). y.name) before k of h)

  pub of_instance_is : {A : Type 0} (f : text_module.Module → List A) (x : Instance) (of : Module) → slice_get before x.of ≡ Some of
      → n.of_instance f texts (laid.instance_by m x of) ≡ f (laid.text_of_module all of)
  of_instance_is f x of h =
      ap (λ k. n.of_module f (slice_get texts k)) (place_is x.of of h) ∙ ap (n.of_module f) (get_mapped (laid.text_of_module all) before x.of of h)
