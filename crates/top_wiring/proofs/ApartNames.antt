-- The names that top declares are apart: each begins as its kind does, and tells its number.
use Rattle.std.proofs.Common.{◌≡◌, ℕ, ◌+◌, ◌^◌, ◌<◌, ◌≤◌, nat_eq, if◌then◌else◌, List, [], ◌∷◌, ◌++◌, length, get_or, map, Some, refl, sym, ap, ◌∙◌, subst, inl, inr, arith, length-append}
use Rattle.std.specs.Prelude.{slice_get, codes, decimal}
use Rattle.std.proofs.lemmas.List.{length-map}
use Rattle.std.proofs.lemmas.Fmt.{decimal_injective}
use Rattle.std.proofs.lemmas.Option.{none-some, slice_get_within}
use Rattle.netlist.specs.declared.netlist.Signal.{Signal}
use Rattle.netlist.specs.declared.netlist.Memory.{Memory}
use Rattle.netlist.specs.declared.netlist.Instance.{Instance}
use Rattle.netlist.specs.declared.netlist.Module.{Module}
use Rattle.netlist.specs.Laid.{AreApart, signal_names, memory_names, instance_names, declared_names}
use Rattle.verilog_meaning.specs.Names.{numbered}
use Rattle.top_parts.specs.declared.layout.Core.{Core}
use Rattle.top_parts.specs.declared.layout.Layout.{Layout}
use Rattle.top_wiring.specs.Top.{all_wires, IsTop}
use Rattle.circuit.specs.Interfaces.{HasInterface}
use Rattle.top_wiring.specs.Sound.{AreSound}
use Rattle.top_parts.specs.Parts.{ask_widths, thread_outputs, core_outputs}
use Rattle.top_wiring.specs.Ports as ports
use Rattle.top_wiring.proofs.Steps.{wires_low}
use Rattle.lists.proofs.Places.{get_unmapped}
use Rattle.top_wiring.proofs.Lists.{get_either}
use Rattle.top_wiring.proofs.InstanceKinds as kinds
use Rattle.top_wiring.proofs.InstanceKinds.Kind.{of_thread, of_core, of_arbiter}
use Rattle.top_wiring.proofs.SignalKinds as signals
use Rattle.top_wiring.proofs.SignalKinds.SignalKind.{clock, mask, chosen, wire, done}

pub data Class : Type 0 where
  Clock : Class
  Enable : Class
  Preferred : Class
  Inner : Class
  Done : Class
  Thread : Class
  OfCore : Class
  Arbiter : Class

-- the letter that names of a class begin with
abbrev letter : Class → ℕ
letter Clock = 99
letter Enable = 101
letter Preferred = 112
letter Inner = 119
letter Done = 100
letter Thread = 116
letter OfCore = 117
letter Arbiter = 97

abbrev class_of : ℕ → Class
class_of n =
    if nat_eq n 99 then Clock else (if nat_eq n 101 then Enable else (if nat_eq n 112 then Preferred else (if nat_eq n 119 then Inner
    else (if nat_eq n 100 then Done else (if nat_eq n 116 then Thread else (if nat_eq n 117 then OfCore else Arbiter))))))

class_back : (a : Class) → class_of (letter a) ≡ a
class_back Clock = refl
class_back Enable = refl
class_back Preferred = refl
class_back Inner = refl
class_back Done = refl
class_back Thread = refl
class_back OfCore = refl
class_back Arbiter = refl

-- the same number behind the same stem
dropped : (n : ℕ) (x y : List ℕ) → (xs : List ℕ) → xs ++ 95 ∷ x ≡ xs ++ 95 ∷ y → x ≡ y
dropped n x y [] e = cc
dropped n x y (z ∷ xs) e = dropped n x y xs (let q : xs ++ 95 ∷ x ≡ xs ++ 95 ∷ y = cc in q)

pub numbers_same : (stem : List ℕ) (m n : ℕ) → m < 2 ^ 64 → n < 2 ^ 64 → numbered stem m ≡ numbered stem n → m ≡ n
numbers_same stem m n a b e = decimal_injective m n a b (dropped 0 (decimal m) (decimal n) stem e)

module _ (layout : Layout) where
  -- name n of a class
  abbrev IsName : Class → ℕ → List ℕ → Type 0
  IsName Clock n x = (n ≡ 0) × (x ≡ codes "clk")
  IsName Enable n x = (n ≡ 0) × (x ≡ codes "en")
  IsName Preferred n x = (n < 2 ^ 64) × (x ≡ numbered (codes "pref") n)
  IsName Inner n x = (n < 2 ^ 64) × (x ≡ numbered (codes "w") n)
  IsName Done n x = (n ≡ 0) × (x ≡ codes "done")
  IsName Thread n x = (n < 2 ^ 64) × (x ≡ numbered (codes "t") n)
  IsName OfCore n x = (c : Core) × (slice_get layout.cores n ≡ Some c) × (x ≡ c.name)
  IsName Arbiter n x = (n < 2 ^ 64) × (x ≡ numbered (codes "arbiter") n)

  module _ (modules : List Module) (sound : AreSound layout modules) where
    begins : (a : Class) (n : ℕ) (x : List ℕ) → IsName a n x → get_or x 0 0 ≡ letter a
    begins Clock n x h = ap (λ z. get_or z 0 0) h.1
    begins Enable n x h = ap (λ z. get_or z 0 0) h.1
    begins Preferred n x h = ap (λ z. get_or z 0 0) h.1
    begins Inner n x h = ap (λ z. get_or z 0 0) h.1
    begins Done n x h = ap (λ z. get_or z 0 0) h.1
    begins Thread n x h = ap (λ z. get_or z 0 0) h.1
    begins OfCore n x h = ap (λ z. get_or z 0 0) h.2 ∙ sound.core_names n h.0 h.1
    begins Arbiter n x h = ap (λ z. get_or z 0 0) h.1

    same_number : (a : Class) (m n : ℕ) (x : List ℕ) → IsName a m x → IsName a n x → m ≡ n
    same_number Clock m n x g h = g.0 ∙ sym h.0
    same_number Enable m n x g h = g.0 ∙ sym h.0
    same_number Preferred m n x g h = numbers_same (codes "pref") m n g.0 h.0 (sym g.1 ∙ h.1)
    same_number Inner m n x g h = numbers_same (codes "w") m n g.0 h.0 (sym g.1 ∙ h.1)
    same_number Done m n x g h = g.0 ∙ sym h.0
    same_number Thread m n x g h = numbers_same (codes "t") m n g.0 h.0 (sym g.1 ∙ h.1)
    same_number OfCore m n x g h = sound.cores_apart m n g.0 h.0 g.1 h.1 (sym g.2 ∙ h.2)
    same_number Arbiter m n x g h = numbers_same (codes "arbiter") m n g.0 h.0 (sym g.1 ∙ h.1)

    module _ (top : Module) (is : IsTop modules layout top) where
      abbrev T : ℕ
      T = length layout.threads

      abbrev K : ℕ
      K = length layout.cores

      -- where the names of a class begin
      abbrev first : Class → ℕ
      first Clock = 0
      first Enable = 1
      first Preferred = 2
      first Inner = 0
      first Done = 2 + K + length (all_wires modules layout)
      first Thread = length top.signals
      first OfCore = length top.signals + T
      first Arbiter = length top.signals + (T + K)

      record IsNamed (i : ℕ) (x : List ℕ) : Type 0 where
        kind : Class
        number : ℕ
        name : IsName kind number x
        at : i ≡ first kind + number

      named_once : (i j : ℕ) (x : List ℕ) → IsNamed i x → IsNamed j x → i ≡ j
      named_once i j x g h =
          let letters : letter g.kind ≡ letter h.kind = sym (begins g.kind g.number x g.name) ∙ begins h.kind h.number x h.name in
          let kinds : g.kind ≡ h.kind = sym (class_back g.kind) ∙ ap class_of letters ∙ class_back h.kind in
          let other : IsName h.kind g.number x = subst (λ z. IsName z g.number x) kinds g.name in
          let numbers : g.number ≡ h.number = same_number h.kind g.number h.number x other h.name in
          g.at ∙ ap (λ z. first z + g.number) kinds ∙ ap (λ z. first h.kind + z) numbers ∙ sym h.at

      few_wires : length (all_wires modules layout) < 2 ^ 32
      few_wires = wires_low modules layout sound.small

      few_cores : K < 2 ^ 16
      few_cores = sound.small.few_cores

      few_threads : T ≤ 64
      few_threads = sound.small.few_threads

      signal_named : (i : ℕ) (s : Signal) → signals.SignalKind modules layout i s → IsNamed i s.name
      signal_named i s (clock e q) = record { kind = Clock; number = 0; name = (refl, ap (λ (z : Signal). z.name) q); at = e }
      signal_named i s (mask e q) = record { kind = Enable; number = 0; name = (refl, ap (λ (z : Signal). z.name) q); at = e }
      signal_named i s (chosen k l e q) = record { kind = Preferred; number = k; name = ((let z = few_cores in omega arith), ap (λ (z : Signal). z.name) q); at = e }
      signal_named i s (wire y v f e q) =
          let l = slice_get_within (all_wires modules layout) y v f in
          record { kind = Inner; number = i; name = ((let z = few_cores in let u = few_wires in omega arith), ap (λ (z : Signal). z.name) q); at = omega arith }
      signal_named i s (done e q) = record { kind = Done; number = 0; name = (refl, ap (λ (z : Signal). z.name) q); at = omega arith }

      abbrev Threads : ℕ → Module → Type 0
      Threads = λ i m. HasInterface m (ports.thread_inputs layout) (thread_outputs (ask_widths layout.cores))

      abbrev Cores : ℕ → Core → Module → Type 0
      Cores = λ k c m. HasInterface m (ports.core_inputs layout c) (core_outputs (ports.threads layout) c)

      abbrev Arbiters : ℕ → Module → Type 0
      Arbiters = λ k m. HasInterface m (ports.arbiter_inputs layout) (ports.arbiter_outputs layout)

      instance_named : (i j : ℕ) (x : Instance) → i ≡ length top.signals + j → kinds.Kind layout modules Threads Cores Arbiters j x → IsNamed i x.name
      instance_named i j x e (of_thread number m a q b leaf) =
          record { kind = Thread; number = j; name = ((let l = slice_get_within layout.threads j number a in let z = few_threads in omega arith), ap (λ (z : Instance). z.name) q); at = e }
      instance_named i j x e (of_core k c m p a q b leaf) =
          record { kind = OfCore; number = k; name = (c, a, ap (λ (z : Instance). z.name) q); at = omega arith }
      instance_named i j x e (of_arbiter k m p l q b leaf) =
          record { kind = Arbiter; number = k; name = ((let z = few_cores in omega arith), ap (λ (z : Instance). z.name) q); at = omega arith }

      no_memories : memory_names top ≡ []
      no_memories = ap (map (λ (x : Memory). x.name)) is.memories

      declared_named : (i : ℕ) (x : List ℕ) → slice_get (declared_names top) i ≡ Some x → IsNamed i x
      declared_named i x h =
          elim (get_either (signal_names top ++ memory_names top) (instance_names top) i x h) [
            | inl g ↦ elim (get_either (signal_names top) (memory_names top) i x g) [
              | inl f ↦
                  let a = get_unmapped (λ (s : Signal). s.name) top.signals i x f in
                  subst (IsNamed i) a.2 (signal_named i a.0 (signals.signal_kind modules layout top is i a.0 a.1))
              | inr f ↦ absurd (none-some x (ap (λ l. slice_get l f.at) (sym no_memories) ∙ f.found))
            ]
            | inr g ↦
                let a = get_unmapped (λ (y : Instance). y.name) top.instances g.at x g.found in
                let b = length-append (signal_names top) (memory_names top) in
                let c = length-map top.signals (λ (s : Signal). s.name) in
                let d = ap length no_memories in
                let e = g.is in
                subst (IsNamed i) a.2 (instance_named i g.at a.0 (omega arith) (kinds.kind_of layout modules Threads Cores Arbiters sound.each top is g.at a.0 a.1))
          ]

      pub names_apart : AreApart (declared_names top)
      names_apart i j x a b = named_once i j x (declared_named i x a) (declared_named j x b)
