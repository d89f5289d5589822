-- The net is one machine.
use Rattle.std.proofs.Common.{◌≡◌, ℕ, ◌+◌, ◌≤◌, List, [], ◌∷◌, length, Some, refl, sym, ap, ◌∙◌, subst, arith}
use Rattle.std.specs.Prelude.{slice_get, codes, option_and_then}
use Rattle.std.proofs.lemmas.Option.{same_Some, none-some}
use Rattle.lists.proofs.Places.{get_there}
use Rattle.netlist.specs.declared.netlist.Signal.{Signal}
use Rattle.netlist.specs.declared.netlist.Instance.{Instance}
use Rattle.netlist.specs.declared.netlist.Module.{Module}
use Rattle.netlist.specs.declared.netlist.Netlist.{Netlist}
use Rattle.hls_ints.specs.Residues.{bit_of}
use Rattle.verilog_meaning.specs.Cycles.{Path, Valuation, Choice, module_at, number, ShowsDone}
use Rattle.circuit.specs.Machines.{CoreMachine, ThreadMachine}
use Rattle.circuit.specs.Wiring.{NetState, NetPlaces, ShowsAll}
use Rattle.circuit.proofs.Staged.{from_then}
use Rattle.circuit.proofs.NetStep.{obeys, holds}
use Rattle.circuit.proofs.NetRuns as running
use Rattle.top_parts.specs.declared.layout.Core.{Core}
use Rattle.top_parts.specs.declared.layout.Layout.{Layout}
use Rattle.top_parts.specs.declared.wires.Wire.TheVariants.{Port}
use Rattle.top_parts.specs.Parts.{ask_widths, thread_outputs, thread_part}
use Rattle.top_parts.specs.Wires.{wire_signal}
use Rattle.top_wiring.specs.Top.{preference, output, done_place}
use Rattle.circuit.specs.Interfaces.{first_of}
use Rattle.top_wiring.specs.Ports.{threads, cores}
use Rattle.top_wiring.specs.Machine.{IsThreadAt, IsCoreAt, IsArbiterAt, KeepPromises, IsMachine, IsOneMachine}
use Rattle.top_wiring.specs.Wired.{IsWired}
use Rattle.top_wiring.proofs.InstanceKinds as kinds
use Rattle.top_wiring.proofs.InstanceKinds.Kind.{of_thread, of_core, of_arbiter}
use Rattle.top_wiring.proofs.SignalKinds as signals
use Rattle.top_wiring.proofs.SignalKinds.SignalKind.{clock, mask, chosen, wire, done}
use Rattle.top_wiring.proofs.TopPlaces as standing
use Rattle.top_wiring.proofs.WiredNet.{is_net, module_there, first_is}
use Rattle.top_wiring.proofs.FoundParts.{first_differs}

module _ (layout : Layout) (modules : List Module) (n : Netlist) (w : IsWired modules layout n) where
  abbrev T : ℕ
  T = length layout.threads

  abbrev K : ℕ
  K = length layout.cores

  -- the only signal of the name done
  is_done : (x : ℕ) (s : Signal) → s.name ≡ codes "done" → signals.SignalKind modules layout x s → s ≡ output (done_place modules layout)
  is_done x s q (clock e h) = absurd (first_differs (codes "clk") (codes "done") 99 100 refl refl (λ z. omega arith) (ap (λ (z : Signal). z.name) (sym h) ∙ q))
  is_done x s q (mask e h) = absurd (first_differs (codes "en") (codes "done") 101 100 refl refl (λ z. omega arith) (ap (λ (z : Signal). z.name) (sym h) ∙ q))
  is_done x s q (chosen k l e h) = absurd (first_differs (preference k).name (codes "done") 112 100 refl refl (λ z. omega arith) (ap (λ (z : Signal). z.name) (sym h) ∙ q))
  is_done x s q (wire y v l e h) = absurd (first_differs (wire_signal x v).name (codes "done") 119 100 refl refl (λ z. omega arith) (ap (λ (z : Signal). z.name) (sym h) ∙ q))
  is_done x s q (done e h) = h

  module _ (M : ℕ → ThreadMachine) (C : ℕ → CoreMachine) (p : NetPlaces T K M C) (keep : KeepPromises layout M C p modules) where
    abbrev Thread : ℕ → Module → Type 0
    Thread = λ i m. IsThreadAt layout (M i) (p.thread i) C m

    abbrev Cores : ℕ → Core → Module → Type 0
    Cores = λ k c m. IsCoreAt layout (C k) (p.core k) c m

    abbrev Arbiter : ℕ → Module → Type 0
    Arbiter = λ k m. IsArbiterAt layout (p.arbiter k) m

    -- the module of an instance is one of those given
    given : (j : ℕ) (x : Instance) → slice_get w.top.instances j ≡ Some x → (m : Module) × (number : ℕ) × (slice_get modules number ≡ Some m) × (module_at n.modules w.top (j ∷ []) ≡ Some m)
    given j x e = by_kind (kinds.kind_of layout modules Thread Cores Arbiter keep.each w.top w.is_top j x e)
      where
        by_kind : kinds.Kind layout modules Thread Cores Arbiter j x → (m : Module) × (number : ℕ) × (slice_get modules number ≡ Some m) × (module_at n.modules w.top (j ∷ []) ≡ Some m)
        by_kind (of_thread number m a i h q) = (m, number, h, module_there layout modules n w j x m e (ap (λ (z : Instance). slice_get modules z.of) i ∙ h))
        by_kind (of_core k c m a f i h q) = (m, c.module, h, module_there layout modules n w j x m e (ap (λ (z : Instance). slice_get modules z.of) i ∙ h))
        by_kind (of_arbiter k m a l i h q) = (m, layout.arbiter, h, module_there layout modules n w j x m e (ap (λ (z : Instance). slice_get modules z.of) i ∙ h))

    -- nothing stands deeper
    shallow : (i j : ℕ) (rest : Path) (m : Module) → module_at n.modules w.top (i ∷ j ∷ rest) ≡ Some m → ⊥
    shallow i j [] m e =
        let a = from_then (λ (k : Module). option_and_then (λ (x : Instance). slice_get n.modules x.of) (slice_get k.instances i)) (module_at n.modules w.top (j ∷ [])) m e in
        let b = from_then (λ (x : Instance). slice_get n.modules x.of) (slice_get w.top.instances j) a.0 a.1 in
        let g = given j b.0 b.1 in
        let same : g.0 ≡ a.0 = same_Some g.0 a.0 (sym g.3 ∙ a.1) in
        let none : a.0.instances ≡ [] = ap (λ (z : Module). z.instances) (sym same) ∙ keep.alone g.1 g.0 g.2 in
        let d = from_then (λ (x : Instance). slice_get n.modules x.of) (slice_get a.0.instances i) m a.2 in
        none-some d.0 (ap (λ (l : List Instance). slice_get l i) (sym none) ∙ d.1)
    shallow i j (k ∷ rest) m e =
        let a = from_then (λ (q : Module). option_and_then (λ (x : Instance). slice_get n.modules x.of) (slice_get q.instances i)) (module_at n.modules w.top (j ∷ k ∷ rest)) m e in
        shallow j k rest a.0 a.1

    -- the last output of thread 0
    done_wire : (number : ℕ) (m : Module) → slice_get layout.threads 0 ≡ Some number → slice_get modules number ≡ Some m → slice_get w.top.signals (done_place modules layout)
        ≡ Some (wire_signal (done_place modules layout) (Port 1 0 (first_of m (thread_outputs (ask_widths layout.cores)) + (length (ask_widths layout.cores) + 1))))
    done_wire number m e h =
        let asks = ask_widths layout.cores in
        standing.done_stands modules layout w.top w.is_top number e
        ∙ ap (λ z. Some (wire_signal (done_place modules layout) (Port 1 0 (z + (length asks + 1)))))
        (first_is layout modules n w (thread_part asks number) m (thread_outputs asks) h refl)

    shows_end : 1 ≤ T → (h : Valuation) (c : Choice) (b : ℕ) (s : NetState T K M C) → ShowsAll T K M C p n.modules w.top h s → ShowsDone n.modules w.top h c b → b ≡ bit_of ((M 0).is_done (s.slots 0))
    shows_end some h c b s shown d =
        let v = d.through in
        let t = get_there layout.threads 0 (omega arith) in
        let m = keep.each.thread 0 t.0 t.1 in
        let q = first_of m.0 (thread_outputs (ask_widths layout.cores)) + (length (ask_widths layout.cores) + 1) in
        let place = done_place modules layout in
        let wire = wire_signal place (Port 1 0 q) in
        let out = is_done d.place d.signal d.is.named (signals.signal_kind modules layout w.top w.is_top d.place d.signal d.is.listed) in
        let copied : (v []).signal d.place ≡ (v []).signal place =
        d.settled.signals [] w.top d.place d.signal (record { stands = refl; listed = d.is.listed })
        ∙ ap (λ (z : Signal). number n.modules w.top h c v [] w.top d.place z z.source) out in
        let driven : (v []).signal place ≡ (v (0 ∷ [])).signal q =
        d.settled.signals [] w.top place wire (record { stands = refl; listed = done_wire t.0 m.0 t.1 m.1 }) in
        let here : module_at n.modules w.top (0 ∷ []) ≡ Some m.0 = module_there layout modules n w 0 _ m.0 (standing.thread_stands modules layout w.top w.is_top 0 t.0 t.1) m.1 in
        let shows : (p.thread 0).shows (h (0 ∷ [])) (s.slots 0) = subst (λ j. (p.thread 0).shows (h (j ∷ [])) (s.slots 0)) (keep.thread_at 0 (omega arith)) (shown.slots 0 (omega arith)) in
        let now = m.2.is.keeps (h (0 ∷ [])) (v (0 ∷ [])) (s.slots 0) (holds n.modules w.top h v c d.settled (0 ∷ []) m.0 here) shows in
        sym d.number ∙ copied ∙ driven ∙ m.2.done (v (0 ∷ [])) (s.slots 0) (obeys n.modules w.top h v c d.settled (0 ∷ []) m.0 here) now

    is_machine : 1 ≤ T → IsMachine layout M C p n.modules w.top
    is_machine some =
        let net = is_net layout modules n w M C p keep in
        record {
          wired = net;
          starts = running.starts T K M C p n.modules w.top net;
          steps = λ printer alone h g c out s cycle shown. running.cycle_steps T K M C p n.modules w.top net shallow printer alone h g c out s cycle shown;
          runs = λ printer alone choices h g out s runs shown. running.runs_steps T K M C p n.modules w.top net shallow printer alone choices h g out s runs shown;
          done = shows_end some;
        }

pub is_one_machine : (T : ℕ → ThreadMachine) (C : ℕ → CoreMachine) (places : (layout : Layout) → NetPlaces (threads layout) (cores layout) T C) → IsOneMachine T C places
is_one_machine T C places layout modules n w some keep = is_machine layout modules n w T C (places layout) keep some
