-- A leaf module that is ready can stand in a table of modules.
use Rattle.std.proofs.Common.{◌≡◌, ℕ, ◌^◌, ◌<◌, ◌≤◌, ◌⊎◌, Bool, true, false, nat_lt, List, ◌++◌, length, take, drop, Some}
use Rattle.std.proofs.Common.{refl, sym, ap, ◌∙◌, subst, inl, ⊎_elim, arith}
use Rattle.std.specs.Prelude.{slice_get}
use Rattle.std.proofs.lemmas.Bool.Decides.{nat_tests}
use Rattle.std.proofs.lemmas.Option.{same_Some, none-some}
use Rattle.std.proofs.lemmas.List.{length-take-le}
use Rattle.std.proofs.lemmas.Bool.{lt-ltb, eqb-true}
use Rattle.verilog_tree.specs.Scope.{is_clk}
use Rattle.netlist.specs.declared.netlist.Source.{Source}
use Rattle.netlist.specs.declared.netlist.Source.TheVariants.{Input, Register, Assigned, Port}
use Rattle.netlist.specs.declared.netlist.Signal.{Signal}
use Rattle.netlist.specs.declared.netlist.Memory.{Memory}
use Rattle.netlist.specs.declared.netlist.Module.{Module}
use Rattle.netlist.specs.NetlistOf.{is_output_port}
use Rattle.netlist.specs.Laid.{kind_by, kind_of, is_input_port, is_inner, input_signals, inner_signals, output_signals}
use Rattle.netlist.specs.Laid.{IsSource, IsLaidSignal, IsLaidModule}
use Rattle.netlist.specs.Sound.{HasClock, IsSoundModule}
use Rattle.circuit.specs.Modules.{Has, FitsAction, FitsMemory, Reads, IsSoundSource}
use Rattle.circuit.specs.Interfaces.{HasInterface, IsTableModule}
use Rattle.circuit.proofs.Filters.{front_kept, back_kept, middle_kept, split_three, length_back}
use Rattle.circuit.proofs.Tables.{fits_among}
use Rattle.circuit.proofs.Filters.{each_there, all_of}
use Rattle.circuit.proofs.LeafForm.{IsAssigned, IsFormedMemory, ActsOnData, IsReady}
use Rattle.circuit.proofs.Places.{value_places, action_laid}
use Rattle.circuit.proofs.LeafWidths.{source_right, action_right}

-- ---- kinds

no_input : (source : Source) (out : Bool) → (source ≡ Input → ⊥) → is_input_port (kind_by source out) ≡ false
no_input Input out h = absurd (h refl)
no_input (Register n) out h = refl
no_input (Assigned v) true h = refl
no_input (Assigned v) false h = refl
no_input (Port i p) true h = refl
no_input (Port i p) false h = refl

no_output : (source : Source) → is_output_port (kind_by source false) ≡ false
no_output Input = refl
no_output (Register n) = refl
no_output (Assigned v) = refl
no_output (Port i p) = refl

inner_kind : (source : Source) → (source ≡ Input → ⊥) → is_inner (kind_by source false) ≡ true
inner_kind Input h = absurd (h refl)
inner_kind (Register n) h = refl
inner_kind (Assigned v) h = refl
inner_kind (Port i p) h = refl

out_output : (m : Module) (source : Source) → IsAssigned m source → is_output_port (kind_by source true) ≡ true
out_output m Input a = absurd a
out_output m (Register n) a = absurd a
out_output m (Assigned v) a = refl
out_output m (Port i p) a = absurd a

out_inner : (m : Module) (source : Source) → IsAssigned m source → is_inner (kind_by source true) ≡ false
out_inner m Input a = absurd a
out_inner m (Register n) a = absurd a
out_inner m (Assigned v) a = refl
out_inner m (Port i p) a = absurd a

-- ---- the module

module _ (m : Module) (inputs outputs : List ℕ) (late : ℕ → Bool) (ends : ℕ) (ready : IsReady m inputs outputs late ends) where
  abbrev I : ℕ
  I = length inputs

  -- an input stands first, and nothing else does
  input_source : (x : ℕ) (s : Signal) → slice_get m.signals x ≡ Some s → x < I → s.source ≡ Input
  input_source x s e l =
      let h = ready.leaf.first x l in
      let same : h.signal ≡ s = same_Some h.signal s (sym h.listed ∙ e) in
      ap (λ (z : Signal). z.source) (sym same) ∙ h.is

  other_source : (x : ℕ) (s : Signal) → slice_get m.signals x ≡ Some s → I ≤ x → s.source ≡ Input → ⊥
  other_source x s e l q =
      let b : x < I = subst (IsSoundSource m I late x s.width) q (ready.leaf.sound x s e) in
      omega arith

  at_input : (x : ℕ) (s : Signal) → slice_get m.signals x ≡ Some s → x < I → kind_of s ≡ kind_by Input s.is_output
  at_input x s e l = ap (λ z. kind_by z s.is_output) (input_source x s e l)

  at_front : (x : ℕ) (s : Signal) → slice_get m.signals x ≡ Some s → x < ends → kind_of s ≡ kind_by s.source false
  at_front x s e l = ap (kind_by s.source) ((ready.formed x s e).before l)

  at_back : (x : ℕ) (s : Signal) → slice_get m.signals x ≡ Some s → ends ≤ x → kind_of s ≡ kind_by s.source true
  at_back x s e l = ap (kind_by s.source) ((ready.formed x s e).behind l).0

  inputs_kept : input_signals m ≡ take I m.signals
  inputs_kept = front_kept (λ (s : Signal). is_input_port (kind_of s)) I m.signals
      (λ x s e l. ap is_input_port (at_input x s e l))
      (λ x s e l. no_input s.source s.is_output (other_source x s e l))

  inner_kept : inner_signals m ≡ drop I (take ends m.signals)
  inner_kept = middle_kept (λ (s : Signal). is_inner (kind_of s)) I ends m.signals ready.room
      (λ x s e l. ap is_inner (at_input x s e l))
      (λ x s e l b. ap is_inner (at_front x s e b) ∙ inner_kind s.source (other_source x s e l))
      (λ x s e l. ap is_inner (at_back x s e l) ∙ out_inner m s.source ((ready.formed x s e).behind l).1)

  outputs_kept : output_signals m ≡ drop ends m.signals
  outputs_kept = back_kept (λ (s : Signal). is_output_port (kind_of s)) ends m.signals
      (λ x s e l. ap is_output_port (at_front x s e l) ∙ no_output s.source)
      (λ x s e l. ap is_output_port (at_back x s e l) ∙ out_output m s.source ((ready.formed x s e).behind l).1)

  order : m.signals ≡ input_signals m ++ inner_signals m ++ output_signals m
  order =
      split_three I ends m.signals ready.room
      ∙ ap (λ l. l ++ drop I (take ends m.signals) ++ drop ends m.signals) (sym inputs_kept)
      ∙ ap (λ l. input_signals m ++ l ++ drop ends m.signals) (sym inner_kept)
      ∙ ap (λ l. input_signals m ++ inner_signals m ++ l) (sym outputs_kept)

  interface : HasInterface m inputs outputs
  interface = record {
    ports = ready.ports;
    input_count = ap length inputs_kept ∙ length-take-le I m.signals (let a = ready.long in let b = ready.room in omega arith);
    output_count = ap length outputs_kept ∙ length_back ends (length outputs) m.signals ready.long;
    clock = λ x s e. (ready.formed x s e).clock;
  }

  -- inputs and registers are no outputs
  source_laid : (before : List Module) (x w : ℕ) (out : Bool) (source : Source) → (x < ends → out ≡ false) → (ends ≤ x → IsAssigned m source) → IsSoundSource m I late x w source
      → IsSource before m x out source
  source_laid before x w out Input f g h = f (let a = ready.room in omega arith)
  source_laid before x w out (Register n) f g h = ⊎_elim f (λ l. absurd (g l)) (let c : (x < ends) ⊎ (ends ≤ x) = grind (arith, nat_tests) in c)
  source_laid before x w out (Assigned v) f g h =
      value_places m w v (fits_among (Reads m late x) (Has m) (λ j. slice_get m.memories j) w v (λ y u i r. r.has) h)
  source_laid before x w out (Port i p) f g h = absurd h

  signal_laid : (before : List Module) (x : ℕ) (s : Signal) → slice_get m.signals x ≡ Some s → IsLaidSignal before m x s
  signal_laid before x s e =
      let f = ready.formed x s e in
      record { low = f.low; high = f.high; drives = source_laid before x s.width s.is_output s.source f.before (λ l. (f.behind l).1) (ready.leaf.sound x s e) }

  memory_at : (j : ℕ) (c : Memory) → slice_get m.memories j ≡ Some c → IsFormedMemory m c
  memory_at j c e = each_there (IsFormedMemory m) m.memories ready.memories j c e

  laid : (before : List Module) → IsLaidModule before m
  laid before = record {
    names = ready.names;
    order = order;
    signals = signal_laid before;
    memories = λ j c e. let f = memory_at j c e in record { low = f.low; high = f.high; words = f.words };
    actions = λ k a e. action_laid m a (each_there (FitsAction m) m.actions ready.leaf.acts k a e);
    instances = λ i n e. absurd (none-some n (ap (λ l. slice_get l i) (sym ready.leaf.alone) ∙ e));
  }

  clock_is : (x : ℕ) (s : Signal) → slice_get m.signals x ≡ Some s → is_clk s.name ≡ true → (s.source ≡ Input) × (s.width ≡ 1)
  clock_is x s e c =
      let zero-is : x ≡ 0 = eqb-true x 0 (sym (ready.formed x s e).clock ∙ c) in
      let h = ready.clock_bit in
      let same : h.signal ≡ s = same_Some h.signal s (sym h.listed ∙ ap (slice_get m.signals) (sym zero-is) ∙ e) in
      let l : x < I = let z = ready.clocked in omega arith in
      (input_source x s e l, ap (λ (z : Signal). z.width) (sym same) ∙ h.wide)

  has_clock : HasClock m m
  has_clock =
      let h = ready.leaf.first 0 ready.clocked in
      (0, h.signal, h.listed, (ready.formed 0 h.signal h.listed).clock)

  sound : (before : List Module) → IsSoundModule m before
  sound before =
      let h = ready.leaf.first 0 ready.clocked in
      record {
        name = ready.named;
        port = (0, h.signal, h.listed, inl h.is);
        signals = λ x s e.
            let f = ready.formed x s e in
            record { fits = source_right m ends ready.formed I late x s.width s.source f.low (ready.leaf.sound x s e) f.reads; set = f.set; clock = clock_is x s e };
        memories = λ j c e.
            let f = memory_at j c e in
            record {
              fits = all_of (λ n. nat_lt n (2 ^ c.width)) c.initial (λ k n g.
                  lt-ltb n (2 ^ c.width) (each_there (λ z. z < 2 ^ c.width) c.initial (each_there FitsMemory m.memories ready.leaf.begins j c e) k n g));
              clock = f.clock;
            };
        actions = λ k a e. action_right m ends ready.formed a (each_there (FitsAction m) m.actions ready.leaf.acts k a e) (each_there (ActsOnData m) m.actions ready.acts k a e);
        instances = λ i n e. absurd (none-some n (ap (λ l. slice_get l i) (sym ready.leaf.alone) ∙ e));
        actions_clocked = λ k a e. has_clock;
        instances_clocked = λ i n of e there c. has_clock;
      }

  -- such a module is one of a table
  pub table_module : IsTableModule m inputs outputs
  table_module = record { alone = ready.leaf.alone; interface = interface; laid = laid; sound = sound }
