-- What all stages ask, bank by bank: links of globals, and behind them those of banks.
use Rattle.std.proofs.Common.{◌≡◌, ℕ, ◌+◌, ◌<◌, ◌≤◌, List, length, map, take, Option, Some, slice_get, refl, sym, ap, subst, ◌∙◌, arith, inl}
use Rattle.std.specs.Prelude.{replicate, option_map}
use Rattle.std.proofs.lemmas.List.{length-map}
use Rattle.std.proofs.lemmas.Option.{slice_get_within, slice_get-map}
use Rattle.lists.proofs.Places.{get_there, copies_are}
use Rattle.hls_ints.specs.Types.{IntegerType, width_of}
use Rattle.bank_partition.specs.declared.banks.Spread.{Spread}
use Rattle.block_ir.specs.declared.service.Service.{Service}
use Rattle.block_ir.specs.declared.service.Service.TheVariants.{Mutex, Barrier, ThreadIds, Printer}
use Rattle.block_ir.specs.declared.code.ThreadCode.{ThreadCode}
use Rattle.block_ir.specs.declared.plan.Planned.{Planned}
use Rattle.netlist.specs.declared.netlist.Signal.{Signal}
use Rattle.operator_wires.specs.Built.{Base, IsEarlier}
use Rattle.operator_wires.proofs.PutSignals.{grows_then}
use Rattle.operator_wires.proofs.BuiltWires.{stands_after, wires_then}
use Rattle.operator_wires.proofs.TypedWords.{at_least, at_most}
use Rattle.block_datapath.specs.Types.{or_int}
use Rattle.block_datapath.specs.Globals.{bank_total}
use Rattle.block_datapath.specs.declared.registers.Held.{Held}
use Rattle.block_datapath.specs.declared.registers.Registers.{Registers}
use Rattle.block_datapath.specs.declared.requests.BankRequests.{BankRequests}
use Rattle.block_datapath.specs.Wired.{HasWidthAt}
use Rattle.block_datapath.specs.Requests.{AreAsMany, HaveWidths}
use Rattle.block_datapath.specs.Accesses.{HaveBankWidths}
use Rattle.thread_slots.specs.declared.requests.Request.{Request}
use Rattle.thread_slots.specs.declared.requests.Requests.{Requests}
use Rattle.thread_slots.specs.Requests.{group, BeginsAsking, RequestStands}
use Rattle.thread_slots.specs.Services.{number_width}
use Rattle.thread_asks.specs.declared.asking.Caller.{Caller}
use Rattle.thread_asks.specs.Asking.{AsksAllWired}
use Rattle.thread_asks.specs.Met.{AllNamed}
use Rattle.thread_asks.proofs.Asks.{ask_links_after}
use Rattle.thread_requests.specs.Banks.{own_bank, AreOneEach, bank_number, AreSpread, SpreadsRequests}
use Rattle.thread_requests.specs.Early.{BeginsLinkedOf, with_banks, FitSpreads, AsksBanks}

-- ---- registers of some widths

abbrev pub held_of : ℕ → Held
held_of w = record { register = 0; width = w }

pub have_widths : (widths : List ℕ) → HaveWidths (map held_of widths) widths
have_widths widths = record {
  count = length-map widths held_of;
  each = λ x w h there listed.
      let at : slice_get (map held_of widths) x ≡ Some (held_of w) = slice_get-map held_of widths x ∙ ap (option_map held_of) listed in
      let same : held_of w ≡ h = cc in
      ap (λ (z : Held). z.width) (sym same);
}

pub equal_width : (n w k : ℕ) (h : Held) → slice_get (map held_of (replicate n w)) k ≡ Some h → h.width ≡ w
equal_width n w k h e =
    let less : k < length (replicate n w) = subst (λ z. k < z) (length-map (replicate n w) held_of) (slice_get_within (map held_of (replicate n w)) k h e) in
    let y = get_there (replicate n w) k less in
    (have_widths (replicate n w)).each k y.0 h e y.1 ∙ copies_are n w k y.0 y.1

-- ---- globals, each in one bank

module _ (globals : List IntegerType) where
  -- the word of a global is as wide as its type
  own_width : (x : ℕ) (h : Held) → slice_get (map held_of (map width_of globals)) x ≡ Some h → h.width ≡ width_of (or_int (slice_get globals x))
  own_width x h e =
      let inner : x < length (map width_of globals) =
      subst (λ z. x < z) (length-map (map width_of globals) held_of) (slice_get_within (map held_of (map width_of globals)) x h e) in
      let ty = get_there globals x (subst (λ z. x < z) (length-map globals width_of) inner) in
      let wide : slice_get (map width_of globals) x ≡ Some (width_of ty.0) = slice_get-map width_of globals x ∙ ap (option_map width_of) ty.1 in
      (have_widths (map width_of globals)).each x (width_of ty.0) h e wide ∙ ap (λ (o : Option IntegerType). width_of (or_int o)) (sym ty.1)

  -- and wide enough
  type_fits : (x w : ℕ) → slice_get (map width_of globals) x ≡ Some w → (1 ≤ w) × (w ≤ 64)
  type_fits x w e =
      let less : x < length globals = subst (λ z. x < z) (length-map globals width_of) (slice_get_within (map width_of globals) x w e) in
      let ty = get_there globals x less in
      let wide : slice_get (map width_of globals) x ≡ Some (width_of ty.0) = slice_get-map width_of globals x ∙ ap (option_map width_of) ty.1 in
      let same : width_of ty.0 ≡ w = cc in
      let low = at_least ty.0 in
      let high = at_most ty.0 in
      ((let z : 1 ≤ w = omega arith in z), (let z : w ≤ 64 = omega arith in z))

  pub one_is : (one_each : List Spread) (x : ℕ) (s : Spread) → AreOneEach (length globals) one_each → slice_get one_each x ≡ Some s → s ≡ own_bank x
  one_is one_each x s are e =
      let there = are.each x (subst (λ z. x < z) are.count (slice_get_within one_each x s e)) in
      let same : own_bank x ≡ s = cc in
      sym same

  pub whole_widths : (one_each : List Spread) (n : ℕ) → AreOneEach (length globals) one_each
      → HaveBankWidths globals one_each (map held_of (replicate n 1)) (map held_of (replicate n 64)) (map held_of (map width_of globals))
  whole_widths one_each n are = record {
    bits = λ k h e. equal_width n 1 k h e;
    wide = λ k h e. equal_width n 64 k h e;
    own = λ x k s listed less h e.
        let is = one_is one_each x s are listed in
        let first : s.first ≡ x = ap (λ (z : Spread). z.first) is in
        let count : s.count ≡ 1 = ap (λ (z : Spread). z.count) is in
        let at : s.first + k ≡ x = omega arith in
        own_width x h (ap (slice_get (map held_of (map width_of globals))) (sym at) ∙ e);
    powers = λ x s listed. inl (ap (λ (z : Spread). z.count) (one_is one_each x s are listed));
  }

-- ---- the same is asked of those that acts ask

pub group_kept : (c : Requests) (banks : BankRequests) (s : Service) → group (with_banks c banks) s ≡ group c s
group_kept c banks Mutex = refl
group_kept c banks Barrier = refl
group_kept c banks ThreadIds = refl
group_kept c banks Printer = refl

-- a: before, b: nobody is asked, c: all stages ask, d: bank by bank
pub banks_asked : (globals : List IntegerType) (code : ThreadCode) (registers : Registers) (caller : Caller) (plan : Planned) (a b c d : List Signal) (start requests : Requests)
    (whole : BankRequests) (one_each : List Spread) (done : ℕ) → AreOneEach (length globals) one_each → BeginsAsking a b caller.served (map width_of globals) start
    → AllNamed code registers (length code.stages) b start.barrier.object → BeginsLinkedOf code registers caller.served (map width_of globals) a b start
    → AsksAllWired globals one_each code registers caller plan b c start (with_banks requests whole) done
    → SpreadsRequests registers.spreads c d whole requests.banks → AsksBanks globals code registers caller plan a d requests done
banks_asked globals code registers caller plan a b c d start requests whole one_each done are begins met begins_linked asks spreads = record {
  asks = record {
    start = start;
    with_start = b;
    whole = whole;
    with_whole = c;
    one_each = one_each;
    are_one_each = are;
    begins = begins;
    met = met;
    asks = asks.asks;
    spreads = spreads;
  };
  wired = λ low high fits fit base bits wide own slots have bit_count wide_count own_count.
      let words = map width_of globals in
      let many = length words in
      let first = begins_linked base globals one_each (map held_of (replicate many 1)) (map held_of (replicate many 64)) (map held_of words) slots low high (type_fits globals)
      (have_widths (replicate many 1)) (have_widths (replicate many 64)) (have_widths words) (whole_widths globals one_each many are) in
      let next = asks.wired fits base (map held_of (replicate many 1)) (map held_of (replicate many 64)) (map held_of words) first.linked in
      let links = next.0.linked in
      let counts : AreAsMany (length registers.spreads) whole =
      subst (λ z. AreAsMany z whole) (length-map globals width_of ∙ sym fit.count) (asks.asks.many.banks many begins.many) in
      let spread = spreads.wired base (map held_of (replicate many 1)) (map held_of (replicate many 64)) (map held_of words) bits wide own counts links.banks have.powers
      (λ k h e. equal_width many 1 k h e) (λ k h e. equal_width many 64 k h e)
      (record {
        bit_count = bit_count ∙ fit.words;
        wide_count = wide_count ∙ fit.words;
        own_count = own_count ∙ fit.words;
        bits = have.bits;
        wide = have.wide;
        own_wide = λ x k s g there less got.
            subst (λ z. HasWidthAt own (bank_number registers.spreads x k) z) (sym (own_width globals x g got))
            (subst (λ z. HasWidthAt own (z + k) (width_of (or_int (slice_get globals x)))) (fit.firsts x s there) (have.own x k s there less));
      }) in
      let later = ask_links_after globals one_each code registers base caller.served (map held_of (replicate many 1)) (map held_of (replicate many 64)) (map held_of words) c d
      (with_banks requests whole) spread.wires.grows links in (
        record {
          wires = wires_then base a b d first.wires (wires_then base b c d next.0.wires spread.wires);
          linked = record {
            slots = later.slots;
            site_low = low;
            site_high = high;
            requests = λ s. subst (λ (z : Request). RequestStands base d (number_width caller.served s) z) (group_kept requests whole s) (later.requests s);
            banks = spread.chains;
            widths = have;
          };
        },
        stands_after c d base done 1 spread.wires.grows next.1,
      );
}
