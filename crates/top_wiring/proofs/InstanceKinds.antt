-- Each instance of top is that of a thread, of a core or of an arbiter.
use Rattle.std.proofs.Common.{◌≡◌, ℕ, ◌+◌, ◌<◌, List, ◌++◌, length, take, Some, sym, ap, ◌∙◌, inl, inr, arith, zero-add, length-append}
use Rattle.std.specs.Prelude.{slice_get}
use Rattle.netlist.specs.declared.netlist.Instance.{Instance}
use Rattle.netlist.specs.declared.netlist.Module.{Module}
use Rattle.circuit.specs.Rows.{spread}
use Rattle.top_parts.specs.declared.layout.Core.{Core}
use Rattle.top_parts.specs.declared.layout.Layout.{Layout}
use Rattle.top_parts.specs.Parts.{each_from, ask_widths, parts}
use Rattle.top_wiring.specs.Top.{thread_instance, core_instance, arbiter_instance, starts, IsTop}
use Rattle.top_wiring.specs.Ports.{EachModule}
use Rattle.top_parts.proofs.GrownLists.{length-each_from}
use Rattle.top_wiring.proofs.Lists.{get_either, each_back, spread_back, IsBehind}

module _ (layout : Layout) (modules : List Module) where
  abbrev T : ℕ
  T = length layout.threads

  abbrev K : ℕ
  K = length layout.cores

  abbrev pub thread_at : ℕ → ℕ → Instance
  thread_at i number = thread_instance (starts modules layout) T K (parts layout) layout.cores i number

  abbrev pub core_at : ℕ → Core → Instance
  core_at k c = core_instance (starts modules layout) T K (parts layout) (length (ask_widths (take k layout.cores))) k c

  abbrev pub arbiter_at : ℕ → Instance
  arbiter_at k = arbiter_instance (starts modules layout) T K (parts layout) layout.arbiter k

  module _ (P : ℕ → Module → Type 0) (Q : ℕ → Core → Module → Type 0) (R : ℕ → Module → Type 0) where
    pub data Kind (j : ℕ) (x : Instance) : Type 0 where
      of_thread : (number : ℕ) (m : Module) → slice_get layout.threads j ≡ Some number → x ≡ thread_at j number → slice_get modules number ≡ Some m → P j m → Kind j x
      of_core : (k : ℕ) (c : Core) (m : Module) → j ≡ T + k → slice_get layout.cores k ≡ Some c → x ≡ core_at k c → slice_get modules c.module ≡ Some m → Q k c m → Kind j x
      of_arbiter : (k : ℕ) (m : Module) → j ≡ T + K + k → k < K → x ≡ arbiter_at k → slice_get modules layout.arbiter ≡ Some m → R k m → Kind j x

    module _ (each : EachModule layout modules P Q R) (top : Module) (is : IsTop modules layout top) where
      abbrev thread_list : List Instance
      thread_list = each_from (thread_instance (starts modules layout) T K (parts layout) layout.cores) 0 layout.threads

      abbrev core_list : List Instance
      core_list = each_from (λ k c. core_at k c) 0 layout.cores

      abbrev arbiter_list : List Instance
      arbiter_list = spread (arbiter_instance (starts modules layout) T K (parts layout) layout.arbiter) 0 K

      is_thread : (j : ℕ) (x : Instance) → slice_get thread_list j ≡ Some x → Kind j x
      is_thread j x h =
          let f = thread_instance (starts modules layout) T K (parts layout) layout.cores in
          let b = each_back f 0 layout.threads j x h in
          let m = each.thread j b.0 b.1 in
          of_thread b.0 m.0 b.1 (b.2 ∙ ap (λ z. f z b.0) (zero-add j)) m.1 m.2

      is_core : (j : ℕ) (x : Instance) → IsBehind (length thread_list) core_list j x → Kind j x
      is_core j x h =
          let f : ℕ → Core → Instance = λ k c. core_at k c in
          let b = each_back f 0 layout.cores h.at x h.found in
          let m = each.core h.at b.0 b.1 in
          of_core h.at b.0 m.0 (h.is ∙ ap (λ z. z + h.at) (length-each_from (thread_instance (starts modules layout) T K (parts layout) layout.cores) 0 layout.threads)) b.1
          (b.2 ∙ ap (λ z. f z b.0) (zero-add h.at)) m.1 m.2

      is_arbiter : (j : ℕ) (x : Instance) → IsBehind (length (thread_list ++ core_list)) arbiter_list j x → Kind j x
      is_arbiter j x h =
          let f = arbiter_instance (starts modules layout) T K (parts layout) layout.arbiter in
          let b = spread_back f 0 K h.at x h.found in
          let m = each.arbiter h.at b.0 in
          let q = length-append thread_list core_list in
          let r = length-each_from (thread_instance (starts modules layout) T K (parts layout) layout.cores) 0 layout.threads in
          let s = length-each_from (λ k c. core_at k c) 0 layout.cores in
          let n : length (thread_list ++ core_list) ≡ T + K = omega arith in
          of_arbiter h.at m.0 (h.is ∙ ap (λ z. z + h.at) n) b.0 (b.1 ∙ ap f (zero-add h.at)) m.1 m.2

      pub kind_of : (j : ℕ) (x : Instance) → slice_get top.instances j ≡ Some x → Kind j x
      kind_of j x h = elim (get_either (thread_list ++ core_list) arbiter_list j x (ap (λ l. slice_get l j) (sym is.instances) ∙ h)) [
        | inl g ↦ elim (get_either thread_list core_list j x g) [
          | inl f ↦ is_thread j x f
          | inr f ↦ is_core j x f
        ]
        | inr g ↦ is_arbiter j x g
      ]
