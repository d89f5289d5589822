-- Modules whose net is sound: each is, their names are apart from those of top, and one of them alone writes, in one instance.
use Rattle.std.specs.Prelude.{◌≡◌, ◌≢◌, ℕ, true, List, [], take, Some, slice_get, slice_index, codes}
use Rattle.netlist.specs.declared.netlist.Action.{Action}
use Rattle.netlist.specs.declared.netlist.Module.{Module}
use Rattle.netlist.specs.Laid.{AreApart, IsLaidModule, module_names}
use Rattle.netlist.specs.Sound.{IsSoundModule, is_write, IsSound}
use Rattle.top_parts.specs.declared.layout.Core.{Core}
use Rattle.top_parts.specs.declared.layout.Layout.{Layout}
use Rattle.top_parts.specs.declared.parts.Part.{Part}
use Rattle.top_parts.specs.Parts.{ask_widths, thread_outputs, core_outputs, parts}
use Rattle.top_wiring.specs.Top.{IsSmall}
use Rattle.top_wiring.specs.Wired.{IsWired}
use Rattle.netlist.specs.declared.netlist.Netlist.{Netlist}
use Rattle.circuit.specs.Interfaces.{HasInterface}
use Rattle.top_wiring.specs.Ports.{threads, thread_inputs, core_inputs, arbiter_inputs, arbiter_outputs, EachModule}

module _ (layout : Layout) (modules : List Module) where
  -- an action of module k writes
  pub record WritesIn (k : ℕ) : Type 0 where
    pub module_ : Module
    pub listed : slice_get modules k ≡ Some module_
    pub number : ℕ
    pub action : Action
    pub stands : slice_get module_.actions number ≡ Some action
    pub writes : is_write action.effect ≡ true

  -- instance j of top is one of module k
  pub record IsOf (j k : ℕ) : Type 0 where
    pub part : Part
    pub listed : slice_get (parts layout) j ≡ Some part
    pub is : part.of ≡ k

  pub record AreSound : Type 0 where
    pub small : IsSmall layout
    pub laid : (k : ℕ) (m : Module) → slice_get modules k ≡ Some m → IsLaidModule (take k modules) m
    pub sound : (k : ℕ) (m : Module) → slice_get modules k ≡ Some m → IsSoundModule m (take k modules)
    pub alone : (k : ℕ) (m : Module) → slice_get modules k ≡ Some m → m.instances ≡ []
    -- names
    pub names : AreApart (module_names modules)
    pub no_top : (k : ℕ) (m : Module) → slice_get modules k ≡ Some m → (m.name ≢ codes "top") × (m.name ≢ codes "top_rr")
    -- the instance of a core has a name of its own, that begins with u
    pub core_names : (k : ℕ) (c : Core) → slice_get layout.cores k ≡ Some c → slice_index c.name 0 ≡ 117
    pub cores_apart : (k l : ℕ) (c d : Core) → slice_get layout.cores k ≡ Some c → slice_get layout.cores l ≡ Some d → c.name ≡ d.name → k ≡ l
    -- ports
    pub each : EachModule layout modules (λ i m. HasInterface m (thread_inputs layout) (thread_outputs (ask_widths layout.cores)))
        (λ k c m. HasInterface m (core_inputs layout c) (core_outputs (threads layout) c)) (λ k m. HasInterface m (arbiter_inputs layout) (arbiter_outputs layout))
    -- one module writes at most, and it has one instance
    pub one_writes : (k l : ℕ) → WritesIn k → WritesIn l → k ≡ l
    pub placed : (k : ℕ) → WritesIn k → (j : ℕ) × IsOf j k
    pub once : (k i j : ℕ) → WritesIn k → IsOf i k → IsOf j k → i ≡ j

-- THE NET IS SOUND: where the modules are, so that its text is a well-formed net
abbrev pub NetsAreSound : Type 0
NetsAreSound = (layout : Layout) (modules : List Module) (n : Netlist) → IsWired modules layout n → AreSound layout modules → IsSound n
