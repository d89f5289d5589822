-- A module with a thread's ports is that of a thread.
use Rattle.std.proofs.Common.{◌≡◌, ℕ, zero, suc, ◌%◌, ◌^◌, ◌<◌, Bool, true, false, nat_eq, Some, slice_get, if◌then◌else◌, refl, sym, ap, ◌∙◌, subst, arith, lit<}
use Rattle.std.specs.Prelude.{not}
use Rattle.std.proofs.lemmas.Bool.Decides.{nat_tests}
use Rattle.std.proofs.Math.Nat.{mod-eq_of_lt}
use Rattle.hls_ints.specs.Residues.{bit_of}
use Rattle.netlist.specs.declared.netlist.Source.{Source}
use Rattle.netlist.specs.declared.netlist.Source.TheVariants.{Input, Register, Assigned, Port}
use Rattle.netlist.specs.declared.netlist.Signal.{Signal}
use Rattle.netlist.specs.declared.netlist.Module.{Module}
use Rattle.verilog_meaning.specs.Readings.{Reading, next_reading, initial_number, initial_signal, initial_word, initial_reading}
use Rattle.verilog_meaning.specs.Cycles.{IsRegister}
use Rattle.circuit.specs.Modules.{Obeys, Agree, Has, FitsMemory, IsSoundSource, IsLeaf}
use Rattle.circuit.specs.Machines.{Hears, IsThread}
use Rattle.circuit.proofs.States.{register_fits, word_fits, one_of, word_at}
use Rattle.leaf_machine.specs.Settled.{settled_reading, IsSlot}
use Rattle.leaf_machine.specs.Leaves.{Heard, Clock, Enable, Grant, Told, LeafPorts, heard_number, reading_under, unanswered, shows_bit, leaf_thread, leaf_places, IsHeard, HasHeard}
use Rattle.leaf_machine.specs.Leaves.{AnswersAreLate, IsEarly, IsSlotBit, IsThreadLeaf, GoesThrough, FitsPorts, KeepsSlots}
use Rattle.leaf_machine.proofs.SettledLeaf.{IsClosed, same_signal, leaf_portless, leaf_reads, leaf_input, leaf_closed, settled-input, settled_agrees, settled_meets, settled_words, settled_obeys}
use Rattle.leaf_machine.proofs.Edges.{next_agrees}

agree_here : (m : Module) (h : Reading) → Agree m h h
agree_here m h = record { registers = λ x s e i. refl; words = λ j k s e l. refl }

agree_back : (m : Module) (h g : Reading) → Agree m h g → Agree m g h
agree_back m h g a = record { registers = λ x s e i. sym (a.registers x s e i); words = λ j k s e l. sym (a.words j k s e l) }

agree_on : (m : Module) (h g f : Reading) → Agree m h g → Agree m g f → Agree m h f
agree_on m h g f a b = record { registers = λ x s e i. a.registers x s e i ∙ b.registers x s e i; words = λ j k s e l. a.words j k s e l ∙ b.words j k s e l }

bit_is : (b : ℕ) → b < 2 → b ≡ bit_of (not (nat_eq b 0))
bit_is zero l = refl
bit_is (suc zero) l = refl
bit_is (suc (suc b)) l = absurd (omega arith)

bit_fits : (b : Bool) → bit_of b < 2
bit_fits true = lit< tt
bit_fits false = lit< tt

nonzero : (y : ℕ) (b : Bool) → (nat_eq y 0 ≡ true → b ≡ true) → b ≡ false → 0 < y
nonzero zero b h e = let t : b ≡ true = h refl in absurd cc
nonzero (suc y) b h e = omega arith

module _ (m : Module) (inputs : ℕ) (ports : LeafPorts) (cores : ℕ) (parts told : ℕ → ℕ) (is : IsThreadLeaf m inputs ports cores parts told) where
  -- ---- kinds of signals: all but the clock, and of them those that are not late

  moving : IsClosed m (λ x. 0 < x)
  moving x s v e source after y i =
      let o = (leaf_reads m inputs (λ z. nat_eq z 0) is.clockless.signals x s v e source y i).1 in
      let t : nat_eq x 0 ≡ false = grind (arith, nat_tests) in
      record { signal = o.has.signal; listed = o.has.listed; before = o.before; is = nonzero y (nat_eq x 0) o.in_time t }

  early : (late : ℕ → Bool) → IsLeaf m inputs late → IsClosed m (λ x. (0 < x) × (late x ≡ false))
  early late leaf x s v e source quiet y i =
      let a = moving x s v e source quiet.0 y i in
      let b = leaf_closed m inputs late leaf x s v e source quiet.1 y i in
      record { signal = a.signal; listed = a.listed; before = a.before; is = (a.is, b.is) }

  -- ---- what an input has

  module _ (r : Reading) (enabled : Bool) (granted : ℕ → Bool) (news : ℕ → ℕ → ℕ) (Q : ℕ → Type 0) (enables : Q ports.enable → r.signal ports.enable ≡ bit_of enabled) (grants : (k : ℕ) → k < cores
      → ports.uses k ≡ true → Q (ports.grant k) → r.signal (ports.grant k) ≡ bit_of (granted k)) (tells : (k j : ℕ) → k < cores → ports.uses k ≡ true → j < told k
      → Q (ports.told k j) → r.signal (ports.told k j) ≡ news k j) where
    heard_is : (x : ℕ) → 0 < x → Q x → (h : Heard) → IsHeard m inputs ports cores parts told x h → r.signal x ≡ heard_number enabled granted news h
    heard_is x after quiet Clock i = absurd (let e = i in omega arith)
    heard_is x after quiet Enable i = ap r.signal i ∙ enables (subst Q i quiet)
    heard_is x after quiet (Grant k) i = ap r.signal i.2 ∙ grants k i.0 i.1 (subst Q i.2 quiet)
    heard_is x after quiet (Told k j) i = ap r.signal i.3 ∙ tells k j i.0 i.1 i.2 (subst Q i.3 quiet)

    module _ (s : Reading) (obeys : Obeys m r) (shown : Agree m s r) (after : (x : ℕ) → Q x → 0 < x) (closed : IsClosed m Q) where
      input_is : (x : ℕ) (t : Signal) → slice_get m.signals x ≡ Some t → t.source ≡ Input → Q x → r.signal x ≡ (reading_under m ports enabled granted news s).signal x
      input_is x t e source quiet =
          let given : ℕ → ℕ = λ y. heard_number enabled granted news (ports.heard y) in
          sym (mod-eq_of_lt (obeys.within x t e))
          ∙ ap (λ n. n % 2 ^ t.width)
          (heard_is x (after x quiet) quiet (ports.heard x) (is.ported.all x (leaf_input m inputs (λ z. nat_eq z 0) is.clockless.signals x t e source)))
          ∙ sym (settled-input m given s x t e source)

      -- a reading that the module obeys has the signals of the settled one
      signal_is : (x : ℕ) (t : Signal) → slice_get m.signals x ≡ Some t → Q x → r.signal x ≡ (reading_under m ports enabled granted news s).signal x
      signal_is =
          let given : ℕ → ℕ = λ y. heard_number enabled granted news (ports.heard y) in
          same_signal m (leaf_portless m inputs (λ z. nat_eq z 0) is.clockless.signals) Q closed r (settled_reading m given s) obeys.equations
          (settled_meets m given s inputs (λ z. nat_eq z 0) is.clockless.signals)
          (agree_on m r s (settled_reading m given s) (agree_back m s r shown) (settled_agrees m given s)) input_is

  not_both : {P : Type 0} (b : Bool) → b ≡ true → b ≡ false → P
  not_both b e f = absurd (let t : true ≡ false = sym e ∙ f in cc)

  -- what no grant reaches: the slot decides it, with those of the enable and of the told numbers that reach it
  pub early_is : (late : ℕ → Bool) → IsLeaf m inputs late → ((k : ℕ) → k < cores → ports.uses k ≡ true → late (ports.grant k) ≡ true) → (r s : Reading) (enabled : Bool)
      (news : ℕ → ℕ → ℕ) → Obeys m r → Agree m s r → (late ports.enable ≡ false → r.signal ports.enable ≡ bit_of enabled) → ((k j : ℕ) → k < cores → ports.uses k ≡ true → j < told k
      → late (ports.told k j) ≡ false → r.signal (ports.told k j) ≡ news k j) → (x w : ℕ) → IsEarly m late x w
      → r.signal x ≡ (reading_under m ports enabled (λ k. false) news s).signal x
  early_is late leaf grants r s enabled news obeys shown enables tells x w quiet =
      signal_is r enabled (λ k. false) news (λ y. (0 < y) × (late y ≡ false)) (λ q. enables q.1) (λ k l u q. not_both (late (ports.grant k)) (grants k l u) q.1)
      (λ k j l u d q. tells k j l u d q.1) s obeys shown (λ y q. q.0) (early late leaf) x quiet.has.signal quiet.has.listed (quiet.after, quiet.early)

  -- what no answer reaches
  asked_is : (late : ℕ → Bool) (answered : AnswersAreLate m inputs ports cores parts told late) (r s : Reading) (enabled : Bool) → Obeys m r → Agree m s r
      → (late ports.enable ≡ false → r.signal ports.enable ≡ bit_of enabled) → (x w : ℕ) → IsEarly m late x w → r.signal x ≡ (unanswered m ports enabled s).signal x
  asked_is late answered r s enabled obeys shown enables =
      early_is late answered.leaf answered.grants r s enabled (λ k j. 0) obeys shown enables
      (λ k j l u d q. not_both (late (ports.told k j)) (answered.tells k j l u d) q)

  -- a bit that the slot tells
  pub slot_bit_is : (x : ℕ) → IsSlotBit m inputs ports cores parts told x → (r s : Reading) → Obeys m r → Agree m s r → r.signal x ≡ bit_of (shows_bit m ports x s)
  slot_bit_is x bit r s obeys shown =
      let same = asked_is bit.late bit.answered r s false obeys shown (λ q. not_both (bit.late ports.enable) bit.enable q) x 1 bit.bit in
      let low : r.signal x < 2 ^ 1 = subst (λ k. r.signal x < 2 ^ k) bit.bit.has.wide (obeys.within x bit.bit.has.signal bit.bit.has.listed) in
      bit_is (r.signal x) low ∙ ap (λ n. bit_of (not (nat_eq n 0))) same

  -- what a thread asks
  pub asks_is : (r s : Reading) (enabled : Bool) → Obeys m r → Agree m s r → r.signal ports.enable ≡ bit_of enabled → (k j : ℕ) → k < cores → ports.uses k ≡ true → j < parts k
      → r.signal (ports.ask k j) ≡ (leaf_thread m ports).asks enabled s k j
  asks_is r s enabled obeys shown enables k j l u d =
      let ask = is.asks k j l u d in
      asked_is is.late is.answered r s enabled obeys shown (λ q. enables) (ports.ask k j) ask.0 ask.1
      ∙ sym (ap (λ b. if b then (unanswered m ports enabled s).signal (ports.ask k j) else 0) u)

  -- what an edge leaves
  pub moves_to : (r s : Reading) (enabled : Bool) (granted : ℕ → Bool) (news : ℕ → ℕ → ℕ) → Obeys m r → Agree m s r
      → Hears (leaf_thread m ports) (leaf_places m ports) cores parts told r enabled granted news
      → Agree m ((leaf_thread m ports).advance enabled granted news s) (next_reading m r)
  moves_to r s enabled granted news obeys shown hears =
      let given : ℕ → ℕ = λ y. heard_number enabled granted news (ports.heard y) in
      next_agrees m (settled_reading m given s) r
      (λ x w has after.
      sym (signal_is r enabled granted news (λ y. 0 < y) (λ q. hears.enables) (λ k l u q. hears.grants k l u) (λ k j l u d q. hears.tells k j l u d) s obeys shown (λ y q. q) moving
      x has.signal has.listed after))
      (agree_on m (settled_reading m given s) s r (agree_back m s (settled_reading m given s) (settled_agrees m given s)) shown)
      is.clockless.signals.acts is.clockless.acts

  pub leaf_is_thread : IsThread (leaf_thread m ports) (leaf_places m ports) cores parts told m
  leaf_is_thread = record {
    starts = agree_here m (initial_reading (Some m));
    keeps = λ h g s a b. agree_on m s h g b a;
    faithful = λ h g s a b. agree_on m h s g (agree_back m s h a) b;
    asks = λ r s enabled obeys shown enables. asks_is r s enabled obeys shown enables;
    asks_none = λ s enabled k j u. ap (λ b. if b then (unanswered m ports enabled s).signal (ports.ask k j) else 0) u;
    needs = λ r s. slot_bit_is ports.need is.need r s;
    moves = λ r s enabled granted news. moves_to r s enabled granted news;
    silent = is.silent;
    enable_input = is.clockless.signals.first ports.enable is.ported.enable.input;
    grant_inputs = λ k l u. is.clockless.signals.first (ports.grant k) (is.ported.grants k l u).input;
    told_inputs = λ k j l u d. is.clockless.signals.first (ports.told k j) (is.ported.tells k j l u d).input;
  }

-- ---- states

initial_fits : (m : Module) (inputs : ℕ) (late : ℕ → Bool) (x w : ℕ) (source : Source) → IsRegister source → IsSoundSource m inputs late x w source → initial_number source < 2 ^ w
initial_fits m inputs late x w (Register n) i sound = sound
initial_fits m inputs late x w Input i sound = absurd i
initial_fits m inputs late x w (Assigned v) i sound = absurd i
initial_fits m inputs late x w (Port a b) i sound = absurd i

module _ (m : Module) (inputs : ℕ) (late : ℕ → Bool) (leaf : IsLeaf m inputs late) where
  -- the initial constants are a state
  pub start_fits : IsSlot m (initial_reading (Some m))
  start_fits = record {
    registers = λ x t e i.
        subst (λ n. n < 2 ^ t.width) (sym (ap initial_signal e)) (initial_fits m inputs late x t.width t.source i (leaf.sound x t e));
    words = λ j k t e l.
        subst (λ n. n < 2 ^ t.width) (sym (ap (λ o. initial_word o k) e)) (word_at t.initial t.width k (one_of FitsMemory m.memories j t leaf.begins e) l);
  }

  -- an edge leads from a state to a state
  pub next_fits : (given : ℕ → ℕ) (s : Reading) → IsSlot m s → IsSlot m (next_reading m (settled_reading m given s))
  next_fits given s slot =
      let r = settled_reading m given s in
      let within = (settled_obeys m given s inputs late leaf slot).within in
      record {
        registers = λ x t e i. register_fits m r within m.actions leaf.acts x t e (r.signal x) (within x t e);
        words = λ j k t e l. word_fits m r within m.actions leaf.acts j k t e (r.word j k) (settled_words m given s inputs late leaf slot j k t e l);
      }

module _ (m : Module) (inputs : ℕ) (ports : LeafPorts) (cores : ℕ) (parts told : ℕ → ℕ) (is : IsThreadLeaf m inputs ports cores parts told) where
  -- an input of a width has a number that fits
  number_is : (enabled : Bool) (granted : ℕ → Bool) (news : ℕ → ℕ → ℕ) (s : Reading) (x w : ℕ) (h : Heard) → HasHeard m inputs ports cores parts told x h → Has m x w
      → heard_number enabled granted news h < 2 ^ w → (reading_under m ports enabled granted news s).signal x ≡ heard_number enabled granted news h
  number_is enabled granted news s x w h there has fits =
      let given : ℕ → ℕ = λ y. heard_number enabled granted news (ports.heard y) in
      let i = is.clockless.signals.first x there.input in
      let one : Some has.signal ≡ Some i.signal = sym has.listed ∙ i.listed in
      let same : has.signal ≡ i.signal = cc in
      let wide : i.signal.width ≡ w = ap (λ (t : Signal). t.width) (sym same) ∙ has.wide in
      settled-input m given s x i.signal i.listed i.is
      ∙ ap (λ k. given x % 2 ^ k) wide
      ∙ ap (λ y. heard_number enabled granted news y % 2 ^ w) there.is
      ∙ mod-eq_of_lt fits

  module _ (s : Reading) (enabled : Bool) (granted : ℕ → Bool) (news : ℕ → ℕ → ℕ) (slot : IsSlot m s) (fits : FitsPorts m ports cores parts told news) where
    pub hears_all : Hears (leaf_thread m ports) (leaf_places m ports) cores parts told (reading_under m ports enabled granted news s) enabled granted news
    hears_all = record {
      enables = number_is enabled granted news s ports.enable 1 Enable is.ported.enable fits.enable (bit_fits enabled);
      grants = λ k l u. number_is enabled granted news s (ports.grant k) 1 (Grant k) (is.ported.grants k l u) (fits.grants k l u) (bit_fits (granted k));
      tells = λ k j l u d.
          let f = fits.tells k j l u d in
          number_is enabled granted news s (ports.told k j) f.0 (Told k j) (is.ported.tells k j l u d) f.1 f.2;
    }

    -- each step goes through the settled reading
    pub goes_through : GoesThrough m ports cores parts told s enabled granted news (reading_under m ports enabled granted news s)
    goes_through =
        let given : ℕ → ℕ = λ y. heard_number enabled granted news (ports.heard y) in
        let r = settled_reading m given s in
        let obeys = settled_obeys m given s inputs (λ z. nat_eq z 0) is.clockless.signals slot in
        let shown = settled_agrees m given s in
        record {
          obeys = obeys;
          shown = shown;
          hears = hears_all;
          asks = λ k j l u d. sym (asks_is m inputs ports cores parts told is r s enabled obeys shown hears_all.enables k j l u d);
          needs = sym (slot_bit_is m inputs ports cores parts told is ports.need is.need r s obeys shown);
          advances = refl;
        }

  pub leaf_keeps_slots : KeepsSlots m ports cores parts told
  leaf_keeps_slots = record {
    starts = start_fits m inputs (λ z. nat_eq z 0) is.clockless.signals;
    keeps = λ s enabled granted news. next_fits m inputs (λ z. nat_eq z 0) is.clockless.signals (λ y. heard_number enabled granted news (ports.heard y)) s;
    through = λ s enabled granted news slot fits. (reading_under m ports enabled granted news s, goes_through s enabled granted news slot fits);
  }
