-- What is asked in a state: the parts of it, one after the other.
use Rattle.std.proofs.Common.{◌≡◌, ℕ, zero, suc, ◌<◌, true, List, [], ◌∷◌, ◌++◌, length, map, Some, refl, sym, ap, subst, ◌∙◌, arith}
use Rattle.std.specs.Prelude.{replicate, slice_get}
use Rattle.std.proofs.lemmas.List.{length-map}
use Rattle.std.proofs.lemmas.Option.{slice_get_within}
use Rattle.lists.proofs.Places.{get_there}
use Rattle.hls_ints.specs.Types.{IntegerType}
use Rattle.block_ir.specs.declared.code.ThreadCode.{ThreadCode}
use Rattle.block_ir.specs.declared.plan.Planned.{Planned}
use Rattle.netlist.specs.declared.netlist.Signal.{Signal}
use Rattle.operator_wires.specs.Gives.{Grows}
use Rattle.operator_wires.specs.Built.{Base, IsEarlier}
use Rattle.operator_wires.proofs.PutSignals.{grows_then}
use Rattle.operator_wires.proofs.BuiltWires.{stands_after, wires_then}
use Rattle.block_datapath.specs.declared.registers.Held.{Held}
use Rattle.block_datapath.specs.declared.registers.Registers.{Registers}
use Rattle.block_datapath.specs.declared.requests.BankRequests.{BankRequests}
use Rattle.block_datapath.specs.Wired.{HasWidthAt}
use Rattle.block_datapath.specs.Requests.{AreBankChains}
use Rattle.block_ir.specs.declared.service.Service.{Service}
use Rattle.block_ir.specs.declared.service.Service.TheVariants.{Mutex, Barrier, ThreadIds, Printer}
use Rattle.thread_slots.specs.Requests.{group}
use Rattle.thread_asks.specs.declared.asking.Caller.{Caller}
use Rattle.thread_requests.specs.declared.early.Acts.{Acts}
use Rattle.thread_requests.proofs.OpenCores.{stand_joined}
use Rattle.thread_slots.specs.declared.requests.Requests.{Requests}
use Rattle.thread_requests.specs.declared.early.Early.{Early}
use Rattle.thread_requests.specs.Needing.{NeedsMore, FitStages, IsNeedOfFirst}
use Rattle.thread_slots.specs.Bits.{NotOf, BothOf, MakesBits, MakesAny, AreBitsOf, AddsNots, AddsBoths, AddsAny}
use Rattle.thread_requests.specs.Early.{held_width, spread_out, wants_of, AsksGlobals, AsksBanks, OpensActs, IsLost, LaysEarlyWired}
use Rattle.thread_slots.proofs.BitLists.{of_bits_later}
use Rattle.thread_asks.proofs.Asks.{ask_links_after}

-- ---- all of it

-- the bits that tell whether banks are asked
wants_stand : (base : Base) (a : List Signal) (bits wide own : List Held) (banks : BankRequests) → AreBankChains a base bits wide own banks → ((k : ℕ) → HasWidthAt bits k 1)
    → AreBitsOf base a banks.wants
wants_stand base a bits wide own banks t ones k y there =
    let less = slice_get_within banks.wants k y there in
    let h = get_there bits k (subst (λ n. k < n) t.wants.count less) in
    subst (λ w. IsEarlier a base y w) (ones k h.0 h.1) (t.wants.each k y h.0 h.1 there)

-- the bits that tell whether cores are asked that acts ask, behind those of banks
all_wants_stand : (base : Base) (a : List Signal) (c : Requests) → AreBitsOf base a c.banks.wants → ((s : Service) → IsEarlier a base (group c s).wants 1)
    → AreBitsOf base a (wants_of c)
all_wants_stand base a c banks acts = stand_joined base a c.banks.wants (c.mutex.wants ∷ c.barrier.wants ∷ c.thread_ids.wants ∷ c.printer.wants ∷ []) banks four
  where
    four : AreBitsOf base a (c.mutex.wants ∷ c.barrier.wants ∷ c.thread_ids.wants ∷ c.printer.wants ∷ [])
    four zero x e = let same : c.mutex.wants ≡ x = cc in subst (λ z. IsEarlier a base z 1) same (acts Mutex)
    four (suc zero) x e = let same : c.barrier.wants ≡ x = cc in subst (λ z. IsEarlier a base z 1) same (acts Barrier)
    four (suc (suc zero)) x e = let same : c.thread_ids.wants ≡ x = cc in subst (λ z. IsEarlier a base z 1) same (acts ThreadIds)
    four (suc (suc (suc zero))) x e = let same : c.printer.wants ≡ x = cc in subst (λ z. IsEarlier a base z 1) same (acts Printer)
    four (suc (suc (suc (suc k)))) x e = absurd cc

globals_grow : (globals : List IntegerType) (code : ThreadCode) (registers : Registers) (caller : Caller) (plan : Planned) (a d : List Signal) (c : Requests) (done : ℕ)
    → AsksGlobals globals code registers caller plan a d c done → Grows a d
globals_grow globals code registers caller plan a d c done t =
    grows_then a t.with_start d t.begins.grows (grows_then t.with_start t.with_whole d t.asks.grows t.spreads.grows)

-- s2: all stages ask, s3: where a core is needed besides, s4: what is not granted, s5: which banks are open, s6: which cores are that acts ask,
-- s7: what is lost, s8: what is needed
pub early_made : (globals : List IntegerType) (code : ThreadCode) (registers : Registers) (granted : List ℕ) (caller : Caller) (plan : Planned)
    (s0 s2 s3 s4 s5 s6 s7 s8 : List Signal)
    (early : Early) (free bank_opens : List ℕ) (acts : Acts) (held : ℕ)
    → AsksBanks globals code registers caller plan s0 s2 early.requests early.done
    → NeedsMore registers (FitStages registers code plan) (IsNeedOfFirst registers code plan (length code.stages)) s2 s3 early.done held
    → MakesBits s3 s4 (length (spread_out registers.spreads granted)) free (NotOf (spread_out registers.spreads granted)) →
    AddsNots s3 s4 (spread_out registers.spreads granted) free
    → MakesBits s4 s5 (length early.requests.banks.wants) bank_opens (BothOf early.requests.banks.wants free) → AddsBoths s4 s5 early.requests.banks.wants free bank_opens
    → OpensActs caller.served early.requests s5 s6 acts → IsLost early.requests acts.opens s6 s7 early.lost
    → early.opens ≡ bank_opens ++ acts.opens → early.barriers ≡ acts.barriers
    → MakesAny s7 s8 held (wants_of early.requests) (λ k. true) (length (wants_of early.requests)) early.need → AddsAny s7 s8 held (wants_of early.requests) early.need
    → LaysEarlyWired globals code registers granted caller plan s0 s8 early
early_made globals code registers granted caller plan s0 s2 s3 s4 s5 s6 s7 s8 early free bank_opens acts held asks holds frees frees_linked
    opens opens_linked opened lost open_is barriers_are needs needs_linked = record {
      lays = record {
        grows =
            grows_then s0 s2 s8 (globals_grow globals code registers caller plan s0 s2 early.requests early.done asks.asks)
            (grows_then s2 s3 s8 holds.grows (grows_then s3 s4 s8 frees.grows (grows_then s4 s5 s8 opens.grows (grows_then s5 s6 s8 opened.grows
            (grows_then s6 s7 s8 lost.grows needs.grows)))));
        free = free;
        bank_opens = bank_opens;
        acts = acts;
        held = held;
        with_asks = s2;
        with_needs = s3;
        with_free = s4;
        with_open = s5;
        with_acts = s6;
        with_lost = s7;
        asked = asks.asks;
        holds = holds;
        frees = frees;
        opens = opens;
        opens_acts = opened;
        loses = lost;
        open_is = open_is;
        barriers_are = barriers_are;
        needs = needs;
      };
      wired = λ low high base bits wide own fits fit_spreads slots marks_stand marks_count have one two three fit.
          let t1 = asks.wired low high fits fit_spreads base bits wide own slots have (one.count ∙ counted registers.words 1) (two.count ∙ counted registers.words 64)
          (three.count ∙ length-map registers.words held_width) in
          let links = t1.0.linked in
          let w2 = t1.0.wires in
          let t2 = holds.wired base links.slots.stage links.slots.state (record { stages = links.slots.room; states = fits }) t1.1 in
          let w3 = wires_then base s0 s2 s3 w2 t2.wires in
          let t3 = frees_linked base (of_bits_later base s0 s3 (spread_out registers.spreads granted) w3.grows marks_stand) in
          let w4 = wires_then base s0 s3 s4 w3 t3.wires in
          let wants_2 = wants_stand base s2 bits wide own early.requests.banks links.banks have.bits in
          let wants_count : length early.requests.banks.wants ≡ length bits = links.banks.wants.count in
          let free_count : length early.requests.banks.wants ≡ length free =
          wants_count ∙ one.count ∙ counted registers.words 1 ∙ sym marks_count ∙ sym frees.count in
          let to_4 = grows_then s2 s3 s4 t2.wires.grows t3.wires.grows in
          let t4 = opens_linked base (of_bits_later base s2 s4 early.requests.banks.wants to_4 wants_2) t3.stand free_count in
          let w5 = wires_then base s0 s4 s5 w4 t4.wires in
          let to_5 = grows_then s2 s4 s5 to_4 t4.wires.grows in
          let wants_5 : (s : Service) → IsEarlier s5 base (group early.requests s).wants 1 =
          λ s. stands_after s2 s5 base (group early.requests s).wants 1 to_5 (links.requests s).wants in
          let acts_6 = opened.wired base wants_5 (λ s. stands_after s2 s5 base (group early.requests s).object 64 to_5 (links.requests s).object) in
          let w6 = wires_then base s0 s5 s6 w5 acts_6.wires in
          let wants_6 : (s : Service) → IsEarlier s6 base (group early.requests s).wants 1 =
          λ s. stands_after s5 s6 base (group early.requests s).wants 1 acts_6.wires.grows (wants_5 s) in
          let lost_7 = lost.wired base wants_6 acts_6.opens in
          let w7 = wires_then base s0 s6 s7 w6 lost_7.wires in
          let to_7 = grows_then s5 s6 s7 acts_6.wires.grows lost_7.wires.grows in
          let asked_stand =
          all_wants_stand base s7 early.requests (of_bits_later base s2 s7 early.requests.banks.wants (grows_then s2 s5 s7 to_5 to_7) wants_2)
          (λ s. stands_after s5 s7 base (group early.requests s).wants 1 to_7 (wants_5 s)) in
          let t5 = needs_linked base asked_stand (stands_after s3 s7 base held 1 (grows_then s3 s4 s7 t3.wires.grows (grows_then s4 s5 s7 t4.wires.grows to_7)) t2.stands) in
          let to_8 = grows_then s2 s7 s8 (grows_then s2 s5 s7 to_5 to_7) t5.wires.grows in
          let from_6 = grows_then s6 s7 s8 lost_7.wires.grows t5.wires.grows in
          record {
            wires = wires_then base s0 s7 s8 w7 t5.wires;
            linked = ask_links_after globals registers.spreads code registers base caller.served bits wide own s2 s8 early.requests to_8 links;
            opens = subst (AreBitsOf base s8) (sym open_is)
                (stand_joined base s8 bank_opens acts.opens (of_bits_later base s5 s8 bank_opens (grows_then s5 s6 s8 acts_6.wires.grows from_6) t4.stand)
                (of_bits_later base s6 s8 acts.opens from_6 acts_6.opens));
            barriers = subst (AreBitsOf base s8) (sym barriers_are) (of_bits_later base s6 s8 acts.barriers from_6 acts_6.barriers);
            lost = stands_after s7 s8 base early.lost 1 t5.wires.grows lost_7.stands;
            need = t5.stands;
            done = stands_after s2 s8 base early.done 1 to_8 t1.1;
          };
    }
  where
    counted : (words : List Held) (w : ℕ) → length {A = ℕ} (replicate (length (map held_width words)) w) ≡ length words
    counted [] w = refl
    counted (h ∷ words) w = ap suc (counted words w)
