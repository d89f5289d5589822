-- Signals, memories and instances have different names.
use Rattle.std.proofs.Common.{◌≡◌, ℕ, ◌+◌, ◌<◌, ◌++◌, Some, ap, ◌∙◌, length, arith}
use Rattle.std.specs.Prelude.{slice_get}
use Rattle.std.proofs.lemmas.Option.{slice_get_within}
use Rattle.std.proofs.lemmas.List.{length-append}
use Rattle.lists.proofs.Places.{get_front, get_back, get_mapped}
use Rattle.netlist.specs.declared.netlist.Signal.{Signal}
use Rattle.netlist.specs.declared.netlist.Memory.{Memory}
use Rattle.netlist.specs.declared.netlist.Instance.{Instance}
use Rattle.netlist.specs.declared.netlist.Module.{Module}
use Rattle.netlist.specs.Laid.{AreApart, declared_names, signal_names, memory_names, instance_names}

module _ (m : Module) (apart : AreApart (declared_names m)) where
  signal_at : (x : ℕ) (s : Signal) → slice_get m.signals x ≡ Some s → slice_get (signal_names m) x ≡ Some s.name
  signal_at x s h = get_mapped (λ (y : Signal). y.name) m.signals x s h

  memory_at : (j : ℕ) (c : Memory) → slice_get m.memories j ≡ Some c → slice_get (memory_names m) j ≡ Some c.name
  memory_at j c h = get_mapped (λ (y : Memory). y.name) m.memories j c h

  signal_slot : (x : ℕ) (s : Signal) → slice_get m.signals x ≡ Some s → slice_get (declared_names m) x ≡ Some s.name
  signal_slot x s h = get_front (signal_names m ++ memory_names m) (instance_names m) x s.name (get_front (signal_names m) (memory_names m) x s.name (signal_at x s h))

  memory_slot : (j : ℕ) (c : Memory) → slice_get m.memories j ≡ Some c → slice_get (declared_names m) (length (signal_names m) + j) ≡ Some c.name
  memory_slot j c h = get_front (signal_names m ++ memory_names m) (instance_names m) _ c.name (get_back (signal_names m) (memory_names m) j c.name (memory_at j c h))

  instance_slot : (i : ℕ) (n : Instance) → slice_get m.instances i ≡ Some n → slice_get (declared_names m) (length (signal_names m ++ memory_names m) + i) ≡ Some n.name
  instance_slot i n h = get_back (signal_names m ++ memory_names m) (instance_names m) i n.name (get_mapped (λ (y : Instance). y.name) m.instances i n h)

  pub same_signal : (x y : ℕ) (s t : Signal) → slice_get m.signals x ≡ Some s → slice_get m.signals y ≡ Some t → s.name ≡ t.name → x ≡ y
  same_signal x y s t p q e = apart x y t.name (signal_slot x s p ∙ ap Some e) (signal_slot y t q)

  pub same_memory : (i j : ℕ) (c d : Memory) → slice_get m.memories i ≡ Some c → slice_get m.memories j ≡ Some d → c.name ≡ d.name → i ≡ j
  same_memory i j c d p q e =
      let f : length (signal_names m) + i ≡ length (signal_names m) + j = apart _ _ d.name (memory_slot i c p ∙ ap Some e) (memory_slot j d q) in omega arith

  pub same_instance : (i j : ℕ) (n o : Instance) → slice_get m.instances i ≡ Some n → slice_get m.instances j ≡ Some o → n.name ≡ o.name → i ≡ j
  same_instance i j n o p q e =
      let k = length (signal_names m ++ memory_names m) in
      let f : k + i ≡ k + j = apart _ _ o.name (instance_slot i n p ∙ ap Some e) (instance_slot j o q) in omega arith

  pub signal_no_memory : (x j : ℕ) (s : Signal) (c : Memory) → slice_get m.signals x ≡ Some s → slice_get m.memories j ≡ Some c → s.name ≡ c.name → ⊥
  signal_no_memory x j s c p q e =
      let f : x ≡ length (signal_names m) + j = apart _ _ c.name (signal_slot x s p ∙ ap Some e) (memory_slot j c q) in
      let l : x < length (signal_names m) = slice_get_within (signal_names m) x s.name (signal_at x s p) in omega arith

  pub signal_no_instance : (x i : ℕ) (s : Signal) (n : Instance) → slice_get m.signals x ≡ Some s → slice_get m.instances i ≡ Some n → s.name ≡ n.name → ⊥
  signal_no_instance x i s n p q e =
      let f : x ≡ length (signal_names m ++ memory_names m) + i = apart _ _ n.name (signal_slot x s p ∙ ap Some e) (instance_slot i n q) in
      let l : x < length (signal_names m) = slice_get_within (signal_names m) x s.name (signal_at x s p) in
      let k : length (signal_names m ++ memory_names m) ≡ length (signal_names m) + length (memory_names m) = length-append (signal_names m) (memory_names m) in omega arith

  pub memory_no_instance : (j i : ℕ) (c : Memory) (n : Instance) → slice_get m.memories j ≡ Some c → slice_get m.instances i ≡ Some n → c.name ≡ n.name → ⊥
  memory_no_instance j i c n p q e =
      let f : length (signal_names m) + j ≡ length (signal_names m ++ memory_names m) + i = apart _ _ n.name (memory_slot j c p ∙ ap Some e) (instance_slot i n q) in
      let l : j < length (memory_names m) = slice_get_within (memory_names m) j c.name (memory_at j c p) in
      let k : length (signal_names m ++ memory_names m) ≡ length (signal_names m) + length (memory_names m) = length-append (signal_names m) (memory_names m) in omega arith
