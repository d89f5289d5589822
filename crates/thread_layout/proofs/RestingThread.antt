-- A thread that is not enabled stays as it is.
use Rattle.std.proofs.Common.{◌≡◌, ℕ, zero, suc, ◌+◌, ◌<◌, nat_eq, Bool, true, false, not, ◌&&◌, ◌||◌, List, [], ◌∷◌, length, map, slice_get, slice_index, Some, refl, sym, ap}
use Rattle.std.proofs.Common.{subst, ◌∙◌}
use Rattle.std.proofs.lemmas.List.{length-map}
use Rattle.std.proofs.Math.Bool.{and-false}
use Rattle.std.proofs.lemmas.Option.{slice_get-get_or}
use Rattle.hls_ints.specs.Residues.{bit_of}
use Rattle.netlist.specs.declared.netlist.Source.TheVariants.{Register}
use Rattle.block_datapath.specs.declared.registers.Held.{Held}
use Rattle.block_ir.specs.declared.code.ThreadCode.{ThreadCode}
use Rattle.block_ir.specs.declared.plan.Planned.{Planned}
use Rattle.netlist.specs.declared.netlist.Module.{Module}
use Rattle.verilog_meaning.specs.Readings.{Reading, width, next_reading}
use Rattle.circuit.specs.Modules.{Obeys, Agree}
use Rattle.planned_block.specs.Advance.{any_below}
use Rattle.thread_slots.specs.declared.shape.Shape.{Shape}
use Rattle.thread_slots.specs.Bits.{HaveBits}
use Rattle.thread_states.specs.Control.{got, is_left, counts_of, Steers}
use Rattle.thread_layout.specs.Modules.{marks_of, IsModule}
use Rattle.thread_layout.specs.Thread.{inputs_of, IsServed}
use Rattle.thread_layout.proofs.Opened.{bit_told, wired, earlier_wide}
use Rattle.thread_layout.proofs.Placed.{from_control, from_early, mark_held, stands_wide, wide_bit}
use Rattle.thread_layout.proofs.Sight.{heard, steered, waiting, stays, words_stay}

and_none : (t u : Bool) → ((t && false) && u) ≡ false
and_none true u = refl
and_none false u = refl

none_got : (open_to grants : ℕ → Bool) (n : ℕ) → any_below (got open_to grants false) n ≡ false
none_got open_to grants zero = refl
none_got open_to grants (suc n) = ap (λ t. t || got open_to grants false n) (none_got open_to grants n) ∙ and_none (open_to n) (grants n)

pub one_is : (b : Bool) → bit_of b ≡ 1 → b ≡ true
one_is true e = refl
one_is false e = absurd cc

mapped_index : (hs : List Held) (i : ℕ) (h : Held) → slice_get hs i ≡ Some h → slice_index (map (λ (q : Held). q.register) hs) i ≡ h.register
mapped_index [] i h e = absurd cc
mapped_index (q ∷ hs) zero h e = let same : q ≡ h = cc in ap (λ (z : Held). z.register) same
mapped_index (q ∷ hs) (suc i) h e = mapped_index hs i h e

module _ (shape : Shape) (code : ThreadCode) (plan : Planned) (m : Module) (t : IsModule shape code plan m) (served : IsServed shape code plan) where
  -- where the bit of global x stands, among those of all
  pub mark_at : (x : ℕ) → x < length shape.globals → slice_index (marks_of t.inside) x ≡ inputs_of shape + 3 + length code.variables + plan.registers + x
  mark_at x less = let v = mark_held shape code plan m t served x less in mapped_index t.inside.granted x v.held v.listed ∙ v.at

  pub mark_wide : (x : ℕ) → x < length shape.globals → width m (slice_index (marks_of t.inside) x) ≡ 1
  mark_wide x less =
      ap (width m) (mark_at x less)
      ∙ stands_wide m (inputs_of shape + 3 + length code.variables + plan.registers + x) 1 (Register 0) (mark_held shape code plan m t served x less).stands

  pub marks_counted : length (marks_of t.inside) ≡ length shape.globals
  marks_counted = length-map t.inside.granted (λ (h : Held). h.register) ∙ t.laid.granted.count

  module _ (r : Reading) (o : Obeys m r) where
    abbrev pub raised_now : ℕ → Bool
    raised_now n = nat_eq (r.signal (slice_index t.inside.early.opens n)) 1

    abbrev pub grants_now : ℕ → Bool
    grants_now k = nat_eq (r.signal (2 + k)) 1

    pub opens_now : HaveBits m r t.inside.early.opens (length t.inside.early.opens) raised_now
    opens_now n less =
        let there = slice_get-get_or t.inside.early.opens n 0 less in
        let stands = (wired shape code plan m t served).early.opens n (slice_index t.inside.early.opens n) there in
        let wide = earlier_wide m t.laid.with_early _ (slice_index t.inside.early.opens n) 1 (from_early shape code plan m t served) stands in
        let bit = wide_bit m r (slice_index t.inside.early.opens n) o wide in
        record { wide = wide; shows = bit_told (r.signal (slice_index t.inside.early.opens n)) bit.0 bit.1 }

    -- whatever it asks and hears
    pub steers_now : (enabled : Bool) → r.signal 1 ≡ bit_of enabled
        → Steers m r t.inside.inputs t.inside.chains t.inside.early.opens raised_now grants_now (waiting shape code plan m t served r o).0 enabled
    steers_now enabled on =
        steered shape code plan m t served r o raised_now grants_now (waiting shape code plan m t served r o).0 enabled opens_now
        (λ k less. let g = heard shape code plan m t served r o k less in bit_told (r.signal (2 + k)) g.0 g.1) (waiting shape code plan m t served r o).1 on

    -- not enabled it leaves no state, and nothing moves
    pub leave_off : r.signal 1 ≡ 0 → r.signal t.edge.leave ≡ 0
    leave_off off =
        (t.closed.controls.leave m r raised_now grants_now (waiting shape code plan m t served r o).0 false (from_control shape code plan m t served) o
        (steers_now false off)).shows

    pub moved_off : r.signal 1 ≡ 0 → r.signal t.edge.moved ≡ 0
    moved_off off =
        (t.closed.controls.moved m r raised_now grants_now (waiting shape code plan m t served r o).0 false (from_control shape code plan m t served) o
        (steers_now false off)).shows
        ∙ ap bit_of (none_got raised_now grants_now (length t.inside.early.opens))

    pub agrees_off : r.signal t.edge.leave ≡ 0 → r.signal t.edge.moved ≡ 0 → Agree m r (next_reading m r)
    agrees_off off still = record {
      registers = λ x s listed is. sym (stays shape code plan m t served r o x off still);
      words = λ j k s listed less. sym (words_stay shape code plan m t served r o j k off);
    }

    pub rests_so : r.signal 1 ≡ 0 → Agree m r (next_reading m r)
    rests_so off = agrees_off (leave_off off) (moved_off off)

    -- ---- a state that is left

    abbrev is_left_now : Bool → Bool
    is_left_now enabled = is_left raised_now grants_now enabled (waiting shape code plan m t served r o).0 (length t.inside.early.opens)

    left_now : (enabled : Bool) → r.signal 1 ≡ bit_of enabled → r.signal t.edge.leave ≡ 1 → is_left_now enabled ≡ true
    left_now enabled on left =
        one_is (is_left_now enabled)
        (sym
        (t.closed.controls.leave m r raised_now grants_now (waiting shape code plan m t served r o).0 enabled (from_control shape code plan m t served) o
        (steers_now enabled on)).shows
        ∙ left)

    -- whoever leaves moves
    pub left_moves : (enabled : Bool) → r.signal 1 ≡ bit_of enabled → r.signal t.edge.leave ≡ 1 → r.signal t.edge.moved ≡ 1
    left_moves enabled on left =
        (t.closed.controls.moved m r raised_now grants_now (waiting shape code plan m t served r o).0 enabled (from_control shape code plan m t served) o
        (steers_now enabled on)).shows
        ∙ ap (λ l. bit_of (l || any_below (got raised_now grants_now enabled) (length t.inside.early.opens))) (left_now enabled on left)

    -- and no grant is remembered
    pub marks_left : (enabled : Bool) (x : ℕ) → r.signal 1 ≡ bit_of enabled → r.signal t.edge.leave ≡ 1 → x < length shape.globals → r.signal (slice_index t.edge.granted x) ≡ 0
    marks_left enabled x on left less =
        let wide = mark_wide x less in
        let bit = wide_bit m r (slice_index (marks_of t.inside) x) o wide in
        (t.closed.controls.granted m r raised_now grants_now (waiting shape code plan m t served r o).0 enabled x bit.0 (from_control shape code plan m t served) o
        (steers_now enabled on) (subst (λ n. x < n) (sym marks_counted) less) (record { wide = wide; shows = bit.1 })).shows
        ∙ ap
        (λ l. bit_of ((bit.0 || any_below (λ k. counts_of (slice_get t.inside.slot.spreads x) k && got raised_now grants_now enabled k) (length t.inside.early.opens)) && not l))
        (left_now enabled on left)
        ∙ ap bit_of (and-false (bit.0 || any_below (λ k. counts_of (slice_get t.inside.slot.spreads x) k && got raised_now grants_now enabled k) (length t.inside.early.opens)))
