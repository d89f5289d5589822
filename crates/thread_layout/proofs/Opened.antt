-- Which cores are open to be asked, in a reading of a thread's module.
use Rattle.std.proofs.Common.{◌≡◌, ℕ, zero, suc, ◌+◌, ◌-◌, ◌<◌, ◌^◌, Bool, true, false, not, ◌&&◌, nat_eq, List, [], ◌∷◌, length, map, slice_get}
use Rattle.std.proofs.Common.{slice_index, Some, refl, sym, ap, subst, ◌∙◌, arith}
use Rattle.std.proofs.lemmas.List.{length-map}
use Rattle.std.proofs.lemmas.Option.{slice_get_within, get_or_from_slice_get, slice_get-get_or}
use Rattle.lists.proofs.Places.{get_there}
use Rattle.hls_ints.specs.Residues.{bit_of}
use Rattle.hls_ints.specs.Types.{width_of}
use Rattle.bank_partition.specs.declared.banks.Spread.{Spread}
use Rattle.thread_promise.specs.Globals.{bank_total}
use Rattle.block_ir.specs.declared.code.ThreadCode.{ThreadCode}
use Rattle.block_ir.specs.declared.plan.Planned.{Planned}
use Rattle.netlist.specs.declared.netlist.Signal.{Signal}
use Rattle.netlist.specs.declared.netlist.Source.TheVariants.{Register}
use Rattle.netlist.specs.declared.netlist.Module.{Module}
use Rattle.verilog_meaning.specs.Readings.{Reading, width, signal_width}
use Rattle.circuit.specs.Modules.{Obeys}
use Rattle.operator_wires.specs.Gives.{Grows}
use Rattle.operator_wires.specs.Built.{Base, IsEarlier}
use Rattle.operator_wires.proofs.PutSignals.{grows_then, listed}
use Rattle.block_datapath.specs.declared.registers.Held.{Held}
use Rattle.block_datapath.specs.Requests.{AreAsMany}
use Rattle.thread_slots.specs.declared.shape.Shape.{Shape}
use Rattle.thread_slots.specs.Bits.{HasBit, HaveBits}
use Rattle.thread_requests.specs.Early.{spread_out, act_count, act_open, joined_bits, HasObject}
use Rattle.thread_layout.specs.Modules.{marks_of, IsModule, IsWiredInside}
use Rattle.thread_layout.specs.Thread.{inputs_of, cores_of, IsServed}
use Rattle.block_ir.specs.declared.service.Service.{Service}
use Rattle.thread_slots.specs.Requests.{group}
use Rattle.thread_requests.proofs.OpenCores.{have_joined}
use Rattle.thread_layout.proofs.Placed.{no_argument, from_early, wide_bit, banks_many, mark_held, stands_wide}
use Rattle.thread_requests.proofs.SpreadBanks.{spread_there, spread_count}

-- ---- lists

-- a bit is told by whether it is 1
pub bit_told : (n : ℕ) (b : Bool) → n ≡ bit_of b → n ≡ bit_of (nat_eq n 1)
bit_told n true e = e ∙ ap (λ k. bit_of (nat_eq k 1)) (sym e)
bit_told n false e = e ∙ ap (λ k. bit_of (nat_eq k 1)) (sym e)

pub earlier_wide : (m : Module) (a : List Signal) (base : Base) (y w : ℕ) → Grows a m.signals → IsEarlier a base y w → width m y ≡ w
earlier_wide m a base y w g t = ap signal_width (listed a m.signals y t.signal g t.listed) ∙ t.wide

module _ (shape : Shape) (code : ThreadCode) (plan : Planned) (m : Module) (t : IsModule shape code plan m) (served : IsServed shape code plan) where
  abbrev banks : ℕ
  banks = bank_total shape.spreads

  -- whether a bank is open, and behind them the cores that acts ask
  abbrev pub raised_by : (ℕ → Bool) → (ℕ → Bool) → (ℕ → Bool) → ℕ → Bool
  raised_by wants marked acts = joined_bits banks (λ n. wants n && not (marked n)) acts

  pub wired : IsWiredInside code plan shape t.laid.with_ports t.laid.with_inputs t.laid.with_slot t.laid.with_early t.laid.with_heard t.with_inside t.inside
  wired = t.laid.wired served.site_low served.site_high served.spreads refl (no_argument shape code plan m t served)

  pub wants_count : length t.inside.early.requests.banks.wants ≡ banks
  wants_count = (banks_many shape code plan m t served).wants

  -- the links begin with one for each global
  pub start_many : AreAsMany (length shape.globals) t.laid.early.asked.start.banks
  start_many = subst (λ k. AreAsMany k t.laid.early.asked.start.banks) (length-map shape.globals width_of) t.laid.early.asked.begins.many

  pub start_less : (x : ℕ) → x < length shape.globals → x < length (map width_of shape.globals)
  start_less x less = subst (λ k. x < k) (sym (length-map shape.globals width_of)) less

  -- bits of banks, and of those that acts ask
  pub want_wide : (n : ℕ) → n < banks → width m (slice_index t.inside.early.requests.banks.wants n) ≡ 1
  want_wide n less =
      let there = slice_get-get_or t.inside.early.requests.banks.wants n 0 (subst (λ k. n < k) (sym wants_count) less) in
      let h = get_there wired.bits n (subst (λ k. n < k) (sym (sym wired.early.linked.banks.wants.count ∙ wants_count)) less) in
      let stands = wired.early.linked.banks.wants.each n (slice_index t.inside.early.requests.banks.wants n) h.0 h.1 there in
      earlier_wide m t.laid.with_early _ (slice_index t.inside.early.requests.banks.wants n) h.0.width (from_early shape code plan m t served) stands
      ∙ wired.early.linked.widths.bits n h.0 h.1

  pub ask_wide : (s : Service) → width m (group t.inside.early.requests s).wants ≡ 1
  ask_wide s =
      earlier_wide m t.laid.with_early _ (group t.inside.early.requests s).wants 1 (from_early shape code plan m t served) (wired.early.linked.requests s).wants

  -- a request's object is a number of 64 bits
  pub has_object : (r : Reading) (s : Service) → Obeys m r → HasObject m r (group t.inside.early.requests s)
  has_object r s o =
      let there = (wired.early.linked.requests s).object in
      let here = listed t.laid.with_early m.signals (group t.inside.early.requests s).object there.signal (from_early shape code plan m t served) there.listed in
      record {
        wide = ap signal_width here ∙ there.wide;
        fits = subst (λ n. r.signal (group t.inside.early.requests s).object < 2 ^ n) there.wide (o.within (group t.inside.early.requests s).object there.signal here);
      }

  -- the bit of a bank is that of its global
  pub mark_of_bank : (x k : ℕ) (s : Spread) → slice_get shape.spreads x ≡ Some s → k < s.count
      → slice_index (spread_out t.inside.slot.spreads (marks_of t.inside)) (s.first + k) ≡ inputs_of shape + 3 + length code.variables + plan.registers + x
  mark_of_bank x k s there less =
      let inside : x < length shape.globals = subst (λ n. x < n) served.spreads.count (slice_get_within shape.spreads x s there) in
      let v = mark_held shape code plan m t served x inside in
      let mark : slice_get (marks_of t.inside) x ≡ Some v.held.register = mapped t.inside.granted x v.held v.listed in
      let own : slice_get (spread_out shape.spreads (marks_of t.inside)) (s.first + k) ≡ Some v.held.register =
      ap (λ n. slice_get (spread_out shape.spreads (marks_of t.inside)) (n + k)) (served.spreads.firsts x s there)
      ∙ spread_there shape.spreads (marks_of t.inside) x k v.held.register s there mark less in
      get_or_from_slice_get (spread_out t.inside.slot.spreads (marks_of t.inside)) (s.first + k) v.held.register 0
      (ap (λ (z : List Spread). slice_get (spread_out z (marks_of t.inside)) (s.first + k)) t.laid.slot.spreads_are ∙ own)
      ∙ v.at
    where
      mapped : (hs : List Held) (i : ℕ) (h : Held) → slice_get hs i ≡ Some h → slice_get (map (λ (q : Held). q.register) hs) i ≡ Some h.register
      mapped [] i h e = absurd cc
      mapped (q ∷ hs) zero h e = let same : q ≡ h = cc in ap (λ (z : Held). Some z.register) same
      mapped (q ∷ hs) (suc i) h e = mapped hs i h e

  marks_count : length (spread_out t.inside.slot.spreads (marks_of t.inside)) ≡ banks
  marks_count =
      spread_count t.inside.slot.spreads (marks_of t.inside)
      (length-map t.inside.granted (λ (q : Held). q.register) ∙ t.laid.granted.count ∙ sym served.spreads.count ∙ ap length (sym t.laid.slot.spreads_are))
      ∙ ap bank_total t.laid.slot.spreads_are

  -- what marks show, whatever it is
  abbrev pub marked_now : Reading → ℕ → Bool
  marked_now r n = nat_eq (r.signal (slice_index (spread_out t.inside.slot.spreads (marks_of t.inside)) n)) 1

  pub mark_bit : (r : Reading) (n : ℕ) → Obeys m r → n < banks → HasBit m r (slice_index (spread_out t.inside.slot.spreads (marks_of t.inside)) n) (marked_now r n)
  mark_bit r n o less =
      let own = served.spreads.all n less in
      let k : ℕ = n - own.1.first in
      let le = own.3 in
      let lt = own.4 in
      let at : own.1.first + k ≡ n = omega arith in
      let below : k < own.1.count = omega arith in
      let inside : own.0 < length shape.globals = subst (λ i. own.0 < i) served.spreads.count (slice_get_within shape.spreads own.0 own.1 own.2) in
      let v = mark_held shape code plan m t served own.0 inside in
      let place : slice_index (spread_out t.inside.slot.spreads (marks_of t.inside)) n ≡ inputs_of shape + 3 + length code.variables + plan.registers + own.0 =
      ap (slice_index (spread_out t.inside.slot.spreads (marks_of t.inside))) (sym at) ∙ mark_of_bank own.0 k own.1 own.2 below in
      let wide : width m (slice_index (spread_out t.inside.slot.spreads (marks_of t.inside)) n) ≡ 1 =
      ap (width m) place ∙ stands_wide m (inputs_of shape + 3 + length code.variables + plan.registers + own.0) 1 (Register 0) v.stands in
      let bit = wide_bit m r (slice_index (spread_out t.inside.slot.spreads (marks_of t.inside)) n) o wide in
      record { wide = wide; shows = bit_told (r.signal (slice_index (spread_out t.inside.slot.spreads (marks_of t.inside)) n)) bit.0 bit.1 }

  pub from_lost : Grows t.laid.early.with_lost m.signals
  from_lost = grows_then t.laid.early.with_lost t.laid.with_early m.signals t.laid.early.needs.grows (from_early shape code plan m t served)

  pub from_acts : Grows t.laid.early.with_acts m.signals
  from_acts = grows_then t.laid.early.with_acts t.laid.early.with_lost m.signals t.laid.early.loses.grows from_lost

  pub from_open : Grows t.laid.early.with_open m.signals
  from_open = grows_then t.laid.early.with_open t.laid.early.with_acts m.signals t.laid.early.opens_acts.grows from_acts

  from_free : Grows t.laid.early.with_free m.signals
  from_free = grows_then t.laid.early.with_free t.laid.early.with_open m.signals t.laid.early.opens.grows from_open

  -- which cores that acts ask are open, by what is wanted
  abbrev pub acts_by : Reading → (Service → Bool) → ℕ → Bool
  acts_by r asks = act_open shape.served asks (λ s. r.signal (group t.inside.early.requests s).object)

  -- nothing is wanted
  abbrev pub no_service : Service → Bool
  no_service s = false

  module _ (r : Reading) (o : Obeys m r) (wants marked : ℕ → Bool) (asks : Service → Bool)
      (wanted : (n : ℕ) → n < banks → HasBit m r (slice_index t.inside.early.requests.banks.wants n) (wants n))
      (marks : (n : ℕ) → n < banks → HasBit m r (slice_index (spread_out t.inside.slot.spreads (marks_of t.inside)) n) (marked n))
      (asking : (s : Service) → HasBit m r (group t.inside.early.requests s).wants (asks s)) where
    bank_open : (n : ℕ) → n < banks → HasBit m r (slice_index t.laid.early.bank_opens n) (wants n && not (marked n))
    bank_open n less =
        let free =
        t.laid.early.frees.shows m r n (not (marked n)) from_free o (subst (λ k. n < k) (sym marks_count) less) (record { bit = marked n; has = marks n less; is = refl }) in
        t.laid.early.opens.shows m r n (wants n && not (marked n)) from_open o (subst (λ k. n < k) (sym wants_count) less)
        (record { one = wants n; two = not (marked n); has_one = wanted n less; has_two = free; is = refl })

    -- WHAT IS OPEN
    pub open_bits : HaveBits m r t.inside.early.opens (banks + act_count shape.served) (raised_by wants marked (acts_by r asks))
    open_bits =
        subst (λ (l : List ℕ). HaveBits m r l (banks + act_count shape.served) (raised_by wants marked (acts_by r asks))) (sym t.laid.early.open_is)
        (have_joined m r t.laid.early.bank_opens t.laid.early.acts.opens banks (act_count shape.served) (λ n. wants n && not (marked n)) (acts_by r asks)
        (t.laid.early.opens.count ∙ wants_count) bank_open
        (t.laid.early.opens_acts.shows m r asks from_acts o asking (λ s. has_object r s o)))

  -- so many cores there are
  pub all_count : banks + act_count shape.served ≡ cores_of shape
  all_count = omega arith
