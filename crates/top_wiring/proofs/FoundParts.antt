-- Top, the slots of the threads and done are found by their names.
use Rattle.std.proofs.Common.{◌≡◌, ◌≢◌, ℕ, zero, suc, ◌+◌, ◌<◌, Bool, true, false, if◌then◌else◌, List, [], ◌∷◌, ◌++◌, length, get_or, Some, refl, sym, ap, ◌∙◌, arith, append_assoc}
use Rattle.std.specs.Prelude.{slice_get, codes}
use Rattle.std.specs.Str.{bytes_eq}
use Rattle.std.proofs.lemmas.Option.{same_Some, none-some}
use Rattle.std.proofs.lemmas.Slice.Eq.{bytes_eq-Decides}
use Rattle.lists.proofs.Places.{get_there}
use Rattle.netlist.specs.declared.netlist.Source.TheVariants as source
use Rattle.netlist.specs.declared.netlist.Signal.{Signal}
use Rattle.netlist.specs.declared.netlist.Instance.{Instance}
use Rattle.netlist.specs.declared.netlist.Module.{Module}
use Rattle.netlist.specs.declared.netlist.Netlist.{Netlist}
use Rattle.verilog_meaning.specs.Names.{numbered, module_named, top_of}
use Rattle.verilog_meaning.specs.Threads.{instance_named}
use Rattle.top_parts.specs.declared.layout.Layout.{Layout}
use Rattle.top_parts.specs.declared.wires.Wire.TheVariants.{Port}
use Rattle.top_parts.specs.Parts.{ask_widths, thread_outputs, thread_part, parts}
use Rattle.top_parts.specs.Wires.{first_port, wire_signal}
use Rattle.top_wiring.specs.Top.{preference, starts, all_wires, done_place, thread_instance, IsSmall}
use Rattle.top_wiring.specs.Wired.{IsWired}
use Rattle.top_wiring.specs.Found.{IsFound, TopsAreFound}
use Rattle.top_wiring.proofs.ApartNames.{numbers_same}
use Rattle.top_wiring.proofs.SignalKinds as signals
use Rattle.top_wiring.proofs.SignalKinds.SignalKind.{clock, mask, chosen, wire, done}
use Rattle.top_wiring.proofs.TopPlaces as standing
use Rattle.top_wiring.proofs.WiredNet.{module_there, first_is}
use Rattle.top_wiring.proofs.Choices.{choice_fits}
use Rattle.top_wiring.proofs.TopPorts.{has_ports, prefs_are}

-- ---- by names

other_name : (x y : List ℕ) → x ≢ y → bytes_eq x y ≡ false
other_name x y h = by_test (bytes_eq x y) refl
  where
    by_test : (b : Bool) → bytes_eq x y ≡ b → b ≡ false
    by_test false e = refl
    by_test true e = absurd (let z : x ≡ y = grind (arith, bytes_eq-Decides) in h z)

named_behind : (xs : List Module) (name : List ℕ) (y : Module) (ys : List Module) → ((k : ℕ) (m : Module) → slice_get xs k ≡ Some m → m.name ≢ name) → y.name ≡ name
    → module_named (xs ++ y ∷ ys) name ≡ Some y
named_behind [] name y ys h e = ap (λ b. if b then Some y else module_named ys name) ((bytes_eq-Decides name y.name).1 (sym e))
named_behind (x ∷ xs) name y ys h e =
    ap (λ b. if b then Some x else module_named (xs ++ y ∷ ys) name) (other_name name x.name (λ q. h 0 x refl (sym q)))
    ∙ named_behind xs name y ys (λ k m g. h (suc k) m g) e

first_named : (xs : List Instance) (name : List ℕ) (i : ℕ) (x : Instance) → slice_get xs i ≡ Some x → x.name ≡ name
    → ((j : ℕ) (y : Instance) → slice_get xs j ≡ Some y → j < i → y.name ≢ name) → instance_named xs name ≡ i
first_named [] name i x e q h = absurd (none-some x e)
first_named (y ∷ ys) name zero x e q h =
    ap (λ b. if b then 0 else suc (instance_named ys name)) ((bytes_eq-Decides name y.name).1 (sym q ∙ ap (λ (z : Instance). z.name) (sym (same_Some y x e))))
first_named (y ∷ ys) name (suc i) x e q h =
    ap (λ b. if b then 0 else suc (instance_named ys name)) (other_name name y.name (λ z. h 0 y refl (omega arith) (sym z)))
    ∙ ap suc (first_named ys name i x e q (λ j z g l. h (suc j) z g (omega arith)))

-- names that begin differently
pub first_differs : (x y : List ℕ) (a b : ℕ) → get_or x 0 0 ≡ a → get_or y 0 0 ≡ b → (a ≡ b → ⊥) → x ≡ y → ⊥
first_differs x y a b e f h g = h (sym e ∙ ap (λ z. get_or z 0 0) g ∙ f)

module _ (layout : Layout) (modules : List Module) (n : Netlist) (w : IsWired modules layout n) (small : IsSmall layout) where
  abbrev T : ℕ
  T = length layout.threads

  abbrev K : ℕ
  K = length layout.cores

  abbrev thread : ℕ → ℕ → Instance
  thread i number = thread_instance (starts modules layout) T K (parts layout) layout.cores i number

  stands : (i : ℕ) → i < T → (number : ℕ) × (slice_get w.top.instances i ≡ Some (thread i number))
  stands i l = let t = get_there layout.threads i l in (t.0, standing.thread_stands modules layout w.top w.is_top i t.0 t.1)

  top_there : ((k : ℕ) (m : Module) → slice_get modules k ≡ Some m → m.name ≢ codes "top") → top_of n.modules ≡ Some w.top
  top_there h =
      ap top_of (w.are ∙ append_assoc modules (w.top ∷ []) (w.round ∷ []))
      ∙ named_behind modules (codes "top") w.top (w.round ∷ []) h w.is_top.named

  thread_named : (i : ℕ) → i < T → instance_named w.top.instances (numbered (codes "t") i) ≡ i
  thread_named i l =
      let x = stands i l in
      first_named w.top.instances (numbered (codes "t") i) i (thread i x.0) x.1 refl (λ j y e b q.
      let z = stands j (omega arith) in
      let same : thread j z.0 ≡ y = same_Some (thread j z.0) y (sym z.1 ∙ e) in
      let few = small.few_threads in
      let number : j ≡ i = numbers_same (codes "t") j i (omega arith) (omega arith) (ap (λ (k : Instance). k.name) same ∙ q) in
      omega arith)

  -- only the last signal has the name done
  done_last : (x : ℕ) (s : Signal) → s.name ≡ codes "done" → signals.SignalKind modules layout x s → x ≡ 2 + K + length (all_wires modules layout)
  done_last x s q (clock e h) = absurd (first_differs (codes "clk") (codes "done") 99 100 refl refl (λ z. omega arith) (ap (λ (z : Signal). z.name) (sym h) ∙ q))
  done_last x s q (mask e h) = absurd (first_differs (codes "en") (codes "done") 101 100 refl refl (λ z. omega arith) (ap (λ (z : Signal). z.name) (sym h) ∙ q))
  done_last x s q (chosen k l e h) = absurd (first_differs (preference k).name (codes "done") 112 100 refl refl (λ z. omega arith) (ap (λ (z : Signal). z.name) (sym h) ∙ q))
  done_last x s q (wire y v l e h) = absurd (first_differs (wire_signal x v).name (codes "done") 119 100 refl refl (λ z. omega arith) (ap (λ (z : Signal). z.name) (sym h) ∙ q))
  done_last x s q (done e h) = e

  found : IsFound layout modules n w.top
  found =
      let t = get_there layout.threads 0 (let z = small.some in omega arith) in
      let asks = ask_widths layout.cores in
      let place = done_place modules layout in
      let from = first_port modules (thread_part asks t.0) + (length asks + 1) in
      record {
        top_is = top_there;
        enable = record { listed = standing.mask_stands modules layout w.top w.is_top; named = refl };
        fits = choice_fits layout modules n w;
        ports = has_ports layout modules w.top w.is_top;
        prefs = prefs_are layout modules w.top w.is_top;
        slots = λ i l. ap (λ j. j ∷ []) (thread_named i l);
        runs = λ i number m e h. module_there layout modules n w i (thread i number) m (standing.thread_stands modules layout w.top w.is_top i number e) h;
        done_at = 2 + K + length (all_wires modules layout);
        done = record { listed = standing.output_stands modules layout w.top w.is_top; named = refl };
        done_alone = λ x s e. done_last x s e.named (signals.signal_kind modules layout w.top w.is_top x s e.listed);
        done_wire = (
          wire_signal place (Port 1 0 from),
          standing.done_stands modules layout w.top w.is_top t.0 t.1,
          (λ number m e h.
              let same : t.0 ≡ number = same_Some t.0 number (sym t.1 ∙ e) in
              ap (λ z. source.Port 0 (z + (length asks + 1)))
              (ap (λ z. first_port modules (thread_part asks z)) same ∙ first_is layout modules n w (thread_part asks number) m (thread_outputs asks) h refl)),
        );
      }

pub tops_are_found : TopsAreFound
tops_are_found layout modules n w small = found layout modules n w small
