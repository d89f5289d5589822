-- Where the slot of a thread stands in a simulator, and what moves it to one that is laid out in the same way.
use Rattle.std.specs.Prelude.{◌≡◌, ℕ, suc, ◌+◌, Bool, true, false, List, [], ◌∷◌, Option, slice_get, codes, not, if◌then◌else◌, refl}
use Rattle.std.specs.Str.{bytes_eq}
use Rattle.std.proofs.Common.{ap, sym, ◌∙◌, cond, arith}
use Rattle.netlist.specs.declared.netlist.Signal.{Signal}
use Rattle.netlist.specs.declared.netlist.Instance.{Instance}
use Rattle.netlist.specs.declared.netlist.Module.{Module}
use Rattle.verilog_meaning.specs.Names.{numbered}
use Rattle.verilog_meaning.specs.Threads.{instance_named, slot, alone}
use Rattle.sim_values.specs.Stands.{children_of, kind_of, spot_of, place_of}
use Rattle.sim_values.specs.Tree.{instances_of}
use Rattle.sim_layout.specs.Wires.{signals_of}
use Rattle.sim_layout.specs.Rounds.{threads_of}
use Rattle.sim_layout.specs.Running.{Running, Stands, choice_of}
use Rattle.slot_sim.specs.declared.slot.Slot.{Slot}
use Rattle.slot_sim.specs.Members.{AreMembersOf}
use Rattle.slot_sim.specs.Slots.{HasThreadOf, IsNeedNumber, LacksNeed, IsSlot, place_named}

named_place : (ns : List Instance) (name : List ℕ) → instance_named ns name ≡ place_named name ns
named_place [] name = refl
named_place (n ∷ ns) name = rest (named_place ns name) (bytes_eq name n.name)
  where
    rest : instance_named ns name ≡ place_named name ns → (b : Bool) → (if b then 0 else suc (instance_named ns name)) ≡ cond (not b) (1 + place_named name ns) 0
    rest e true = refl
    rest e false = (let same : suc (instance_named ns name) ≡ 1 + place_named name ns = omega (arith, e) in same)

module _ (r : Running) (st : Stands r) (i : ℕ) (has : HasThreadOf r.modules i) where
  abbrev thread_path : List ℕ
  thread_path = slot r.modules st.top (threads_of r.modules) i

  -- the place of the part of the thread's instance
  pub first_part : children_of (slice_get r.parts 0) + place_named (numbered (codes "t") i) (instances_of (slice_get r.modules (kind_of (slice_get r.parts 0))))
      ≡ place_of r.parts (slot r.modules st.top (threads_of r.modules) i)
  first_part =
      ap (λ (o : Option Module). children_of (slice_get r.parts 0) + place_named (numbered (codes "t") i) (instances_of o)) (st.plan.laid [] st.top refl)
      ∙ ap (λ k. children_of (slice_get r.parts 0) + k) (sym (named_place (st.top).instances (numbered (codes "t") i)))

  pub first_is : (first child number root : ℕ) (instances : List Instance) → first ≡ child + number → child ≡ children_of (slice_get r.parts 0)
      → number ≡ place_named (numbered (codes "t") i) instances → root ≡ kind_of (slice_get r.parts 0) → instances ≡ instances_of (slice_get r.modules root)
      → first ≡ place_of r.parts (slot r.modules st.top (threads_of r.modules) i)
  first_is first child number root instances e c n k is =
      e ∙ ap (λ z. z + number) c
      ∙ ap (λ z. children_of (slice_get r.parts 0) + z) (n ∙ ap (place_named (numbered (codes "t") i)) (is ∙ ap (λ z. instances_of (slice_get r.modules z)) k))
      ∙ first_part

  pub signals_are : signals_of (slice_get r.modules (kind_of (slice_get r.parts (place_of r.parts thread_path)))) ≡ (has st.top st.is_top).kind.signals
  signals_are = ap signals_of (st.plan.laid thread_path (has st.top st.is_top).kind (has st.top st.is_top).stands)

  pub kind_is : (first kind : ℕ) (signals : List Signal) → first ≡ place_of r.parts thread_path → kind ≡ kind_of (slice_get r.parts first) → signals ≡ signals_of (slice_get r.modules kind)
      → signals ≡ (has st.top st.is_top).kind.signals
  kind_is first kind signals f k is = is ∙ ap (λ z. signals_of (slice_get r.modules z)) (k ∙ ap (λ z. kind_of (slice_get r.parts z)) f) ∙ signals_are

  pub needed : LacksNeed (has st.top st.is_top).kind.signals → ⊥
  needed lacks = (let h = has st.top st.is_top in lacks h.need_place h.need h.has_need.listed h.has_need.named)

  pub slot_stands : (s : Slot) (first number : ℕ) → first ≡ place_of r.parts thread_path → IsNeedNumber (has st.top st.is_top).kind.signals number
      → s.need ≡ (spot_of (slice_get r.parts first)).base + number → AreMembersOf r first s.members.items → choice_of s.alone ≡ alone i → IsSlot i r.modules r.parts s
  slot_stands s first number is need at members single =
      let h = has st.top st.is_top in
      record {
        top = st.top;
        is_top = st.is_top;
        members = members st.top st.is_top thread_path h.kind h.stands (sym is);
        need = record {
          top = st.top;
          is_top = st.is_top;
          kind = h.kind;
          stands = h.stands;
          number = number;
          signal = need.signal;
          is = record { listed = need.listed; named = need.named };
          at = at ∙ ap (λ q. (spot_of (slice_get r.parts q)).base + number) is;
        };
        alone_is = single;
      }
