-- The inside of a module, as its parts make it.
use Rattle.std.proofs.Common.{◌≡◌, ℕ, false, suc, ◌+◌, ◌<◌, ◌≤◌, if◌then◌else◌, List, [], ◌∷◌, length, map, take, Option, Some, refl, sym, ap, subst, ◌∙◌, arith}
use Rattle.std.specs.Prelude.{slice_get, option_map, replicate}
use Rattle.std.proofs.lemmas.List.{length-map, length-replicate}
use Rattle.std.proofs.lemmas.Option.{slice_get_within, slice_get-map}
use Rattle.lists.proofs.Places.{get_there, get_nothing, copies_are}
use Rattle.hls_ints.specs.Types.{IntegerType, width_of}
use Rattle.bank_partition.specs.declared.banks.Spread.{Spread}
use Rattle.thread_promise.specs.Globals.{bank_total}
use Rattle.thread_promise.specs.Types.{or_int}
use Rattle.netlist.specs.declared.netlist.Source.{Source}
use Rattle.netlist.specs.declared.netlist.Source.TheVariants.{Input, Register}
use Rattle.operator_wires.specs.Gives.{Grows}
use Rattle.operator_wires.specs.Built.{Base, IsEarlier}
use Rattle.operator_wires.proofs.BuiltWires.{wires_then, stands_after, longer}
use Rattle.operator_wires.proofs.PutSignals.{grows_then}
use Rattle.block_datapath.specs.declared.registers.Held.{Held}
use Rattle.block_datapath.specs.declared.registers.Registers.{Registers}
use Rattle.block_datapath.specs.Wired.{HasMemories, CanRead}
use Rattle.block_datapath.specs.Accesses.{HaveBankWidths}
use Rattle.unit_datapath.specs.Units.{CanHaveUnits, IsInCode, LaysAll as LaysUnits}
use Rattle.block_ir.specs.declared.code.ThreadCode.{ThreadCode}
use Rattle.block_ir.specs.declared.plan.Planned.{Planned}
use Rattle.netlist.specs.declared.netlist.Signal.{Signal}
use Rattle.thread_slots.specs.declared.shape.Shape.{Shape}
use Rattle.thread_slots.specs.declared.chains.Chains.{Chains}
use Rattle.thread_slots.specs.declared.told.Told.{Told}
use Rattle.thread_states.specs.Acts.{AreTold, IsTypedArgument}
use Rattle.thread_requests.specs.declared.early.Early.{Early}
use Rattle.thread_layout.specs.declared.layout.Inside.{Inside}
use Rattle.thread_layout.specs.declared.layout.Ground.{Ground}
use Rattle.thread_layout.specs.declared.layout.Walked.{Walked}
use Rattle.thread_layout.specs.Parts.{inside_of, LaysGround, LaysHeard, LaysWalk}
use Rattle.thread_states.specs.Stages.{WalksAll}
use Rattle.thread_slots.specs.Slots.{StandsAt, StandFrom, IsHeldAt, LaysAll, LaysSlot}
use Rattle.thread_slots.specs.Bits.{AreBitsOf}
use Rattle.thread_requests.specs.Early.{held_width, spread_out, LaysEarly, LaysEarlyWired}
use Rattle.thread_layout.specs.Memories.{base_behind}
use Rattle.thread_layout.specs.Thread.{AreRightSpreads}
use Rattle.thread_slots.specs.declared.stores.Store.{Store}
use Rattle.thread_slots.specs.Stores.{AreRightStores}
use Rattle.thread_states.specs.Stores.{StagesKeepStores}
use Rattle.thread_slots.specs.Wired.{AreLinked, Behind, AreFit, IsInnerInput, IsSlotRegister, AreSlots, KeepsLinks, FitStates}
use Rattle.thread_slots.specs.Inputs.{LaysInputs}
use Rattle.thread_slots.specs.declared.inputs.Inputs.{Inputs}
use Rattle.thread_slots.specs.Services.{services, news_widths}
use Rattle.thread_slots.specs.Hearing.{HearsWords, AddsHeard}
use Rattle.thread_layout.specs.Telling.{heard_place, LaysTold}
use Rattle.thread_layout.specs.Modules.{marks_of, caller_of, worded, IsWiredInside, LaysInside}
use Rattle.thread_slots.proofs.Linked.{slots_later}
use Rattle.thread_slots.proofs.Between.{registers_of}
use Rattle.thread_layout.proofs.RewordedSlots.{slots_reworded, slot_reworded, early_reworded, code_back}
use Rattle.thread_layout.proofs.ModuleMemories.{has_memories}
use Rattle.thread_slots.proofs.BitLists.{of_bits_later}
use Rattle.thread_slots.proofs.SlotWires.{behind_then, types_fit}
use Rattle.thread_layout.proofs.Tellings.{bar_wide, run_wide, argument_wide, hears_news}
use Rattle.thread_requests.proofs.AllAsks.{held_of, have_widths, equal_width}
use Rattle.thread_requests.proofs.SpreadBanks.{spread_there, spread_count, spread_from}

-- ---- registers that stand, and inputs

module _ (base : Base) (b c : List Signal) (room : base.first ≤ length b) (inputs : ℕ) (behind : Behind (IsSlotRegister inputs) b c) where
  stands_earlier : (place w : ℕ) (d : Source) → length b ≤ place → StandsAt c place w d → IsEarlier c base place w
  stands_earlier place w d le t =
      let is = behind place t.signal le t.listed in
      record {
        signal = t.signal;
        listed = t.listed;
        wide = t.wide;
        after = omega arith;
        low = subst (λ n. 1 ≤ n) t.wide is.low;
        high = subst (λ n. n ≤ 64) t.wide is.high;
      }

  held_earlier : (h : Held) (place initial : ℕ) → length b ≤ place → IsHeldAt c h place initial → IsEarlier c base h.register h.width
  held_earlier h place initial le t = subst (λ x. IsEarlier c base x h.width) (sym t.register) (stands_earlier place h.width (Register initial) le t.stands)

  -- registers one behind the other
  pub row_earlier : (from n : ℕ) (widths : List ℕ) (registers : List Held) → StandFrom (Register 0) c from widths registers n → n ≡ length widths →
      length registers ≡ length widths →
      length b ≤ from → (x : ℕ) (h : Held)
      → slice_get registers x ≡ Some h → IsEarlier c base h.register h.width
  row_earlier from n widths registers t same count le x h listed =
      let less = slice_get_within registers x h listed in
      let w = get_there widths x (subst (λ k. x < k) count less) in
      let f = t x w.0 (omega arith) w.1 in
      let one : f.0 ≡ h = (let e = f.1 in cc) in
      let here : IsEarlier c base (from + x) w.0 = stands_earlier (from + x) w.0 (Register 0) (omega arith) f.4 in
      let own : IsEarlier c base f.0.register f.0.width = subst (λ k. IsEarlier c base k f.0.width) (sym f.3) (subst (λ k. IsEarlier c base (from + x) k) (sym f.2) here) in
      subst (λ (k : Held). IsEarlier c base k.register k.width) one own

  pub slots_stand : (code : ThreadCode) (plan : Planned) (first : ℕ) (kept_widths : List ℕ) (words : List Held) (spreads : List Spread) (registers : Registers)
      → LaysSlot code plan first kept_widths words spreads b c registers → HasMemories base code
      → ((n : ℕ) (h : Held) → slice_get registers.words n ≡ Some h → base.first ≤ h.register → IsEarlier c base h.register h.width) → registers.units ≡ []
      → AreSlots base c code registers
  slots_stand code plan first kept_widths words spreads registers t memories told none = record {
    stage = held_earlier registers.stage (length b) first (omega arith) t.stage;
    state = held_earlier registers.state (length b + 1) 0 (omega arith) t.state;
    beat = subst (λ x. IsEarlier c base x 1) (sym t.beat) (stands_earlier (length b + 2) 1 (Register 0) (omega arith) t.beat_stands);
    variables = row_earlier (length b + 3) (length code.variables) (map width_of code.variables) registers.variables t.variables (sym widths_count)
        (t.variables_count ∙ sym widths_count) (omega arith);
    kept = row_earlier (length b + 3 + length code.variables) (length kept_widths) kept_widths registers.kept t.kept refl t.kept_count (omega arith);
    typed = λ x h ty listed declared.
        let less = slice_get_within code.variables x ty declared in
        let wide : slice_get (map width_of code.variables) x ≡ Some (width_of ty) = slice_get-map width_of code.variables x ∙ ap (option_map width_of) declared in
        let f = t.variables x (width_of ty) less wide in
        let one : f.0 ≡ h = (let e = f.1 in cc) in
        ap (λ (k : Held). k.width) (sym one) ∙ f.2;
    count = t.variables_count;
    room = t.stage_room;
    arrays = memories;
    words = told;
    units = λ x n place u listed there. absurd (get_nothing registers.units x u none listed);
  }
    where
      widths_count : length (map width_of code.variables) ≡ length code.variables
      widths_count = length-map code.variables width_of

-- the words of banks
module _ (base : Base) (b c : List Signal) (widths : List ℕ) (words : List Held) (laid : LaysAll Input b c widths (length widths) words) (behind : Behind IsInnerInput b c) where
  word_at : (n : ℕ) (h : Held) → slice_get words n ≡ Some h → (slice_get widths n ≡ Some h.width) × (h.register ≡ length b + n) × StandsAt c (length b + n) h.width Input
  word_at n h listed =
      let less = slice_get_within words n h listed in
      let w = get_there widths n (subst (λ k. n < k) laid.count less) in
      let f = laid.each n w.0 (subst (λ k. n < k) laid.count less) w.1 in
      let one : f.0 ≡ h = (let e = f.1 in cc) in
      let wide : w.0 ≡ h.width = sym f.2 ∙ ap (λ (k : Held). k.width) one in
      (w.1 ∙ ap Some wide, ap (λ (k : Held). k.register) (sym one) ∙ f.3, subst (λ k. StandsAt c (length b + n) k Input) wide f.4)

  pub word_earlier : (n : ℕ) (h : Held) → slice_get words n ≡ Some h → base.first ≤ h.register → IsEarlier c base h.register h.width
  word_earlier n h listed after =
      let t = word_at n h listed in
      let is = behind (length b + n) t.2.signal (omega arith) t.2.listed in
      record {
        signal = t.2.signal;
        listed = ap (slice_get c) t.1 ∙ t.2.listed;
        wide = t.2.wide;
        after = after;
        low = subst (λ k. 1 ≤ k) t.2.wide is.low;
        high = subst (λ k. k ≤ 64) t.2.wide is.high;
      }

-- lists of the same numbers
list_same : (xs ys : List ℕ) → length xs ≡ length ys → ((k y : ℕ) → slice_get ys k ≡ Some y → slice_get xs k ≡ Some y) → xs ≡ ys
list_same [] [] e t = refl
list_same [] (y ∷ ys) e t = absurd cc
list_same (x ∷ xs) [] e t = absurd cc
list_same (x ∷ xs) (y ∷ ys) e t =
    let one : Some x ≡ Some y = t 0 y refl in
    let same : x ≡ y = cc in
    let rest = list_same xs ys (let q : length xs ≡ length ys = omega arith in q) (λ k z there. t (suc k) z there) in
    ap (λ z. z ∷ xs) same ∙ ap (λ l. y ∷ l) rest

pub widths_same : (b c : List Signal) (widths : List ℕ) (words : List Held) → LaysAll Input b c widths (length widths) words → map held_width words ≡ widths
widths_same b c widths words t =
    list_same (map held_width words) widths (length-map words held_width ∙ t.count)
    (λ k w there.
    let f = t.each k w (slice_get_within widths k w there) there in
    slice_get-map held_width words k ∙ ap (option_map held_width) f.1 ∙ ap Some f.2)

-- ---- lists of registers with these widths, for chains of banks

pub bank_widths : (globals : List IntegerType) (spreads : List Spread) (n : ℕ) → AreRightSpreads globals spreads
    → HaveBankWidths globals spreads (map held_of (replicate n 1)) (map held_of (replicate n 64)) (map held_of (spread_out spreads (map width_of globals)))
bank_widths globals spreads n right = record {
  bits = λ k h e. equal_width n 1 k h e;
  wide = λ k h e. equal_width n 64 k h e;
  own = λ x k s listed less h e.
      let within : x < length globals = subst (λ z. x < z) right.count (slice_get_within spreads x s listed) in
      let ty = get_there globals x within in
      let wide : slice_get (map width_of globals) x ≡ Some (width_of ty.0) = slice_get-map width_of globals x ∙ ap (option_map width_of) ty.1 in
      let at : slice_get (spread_out spreads (map width_of globals)) (s.first + k) ≡ Some (width_of ty.0) =
      ap (λ z. slice_get (spread_out spreads (map width_of globals)) (z + k)) (right.firsts x s listed)
      ∙ spread_there spreads (map width_of globals) x k (width_of ty.0) s listed wide less in
      (have_widths (spread_out spreads (map width_of globals))).each (s.first + k) (width_of ty.0) h e at ∙ ap (λ (o : Option IntegerType). width_of (or_int o)) (sym ty.1);
  powers = right.powers;
}

no_stores : (base : Base) (signals : List Signal) → AreRightStores base signals []
no_stores base signals k s listed = absurd cc

-- what is heard is as wide as the words
pub heard_widths : (words outs : List Held) (f u : List Signal) (need : ℕ) → HearsWords f u need words (length words) outs → map held_width outs ≡ map held_width words
heard_widths words outs f u need t =
    list_same (map held_width outs) (map held_width words) (length-map outs held_width ∙ t.count ∙ sym (length-map words held_width))
    (λ k w there.
    let less : k < length words = subst (λ z. k < z) (length-map words held_width) (slice_get_within (map held_width words) k w there) in
    let own = get_there words k less in
    let wide : slice_get (map held_width words) k ≡ Some (held_width own.0) = slice_get-map held_width words k ∙ ap (option_map held_width) own.1 in
    let same : held_width own.0 ≡ w = cc in
    let g = t.each k own.0 less own.1 in
    slice_get-map held_width outs k ∙ ap (option_map held_width) g.1 ∙ ap Some (g.2.says ∙ same))

-- ---- the inside

-- a: nothing, b: the ports, k: the words of banks, c: the news, d: the slot, e: what is granted, f: what is asked, n: what is heard of banks, u: what is heard, v: units,
-- w: what cores of acts tell, g: the first links, x: all stages and the rest, h: all
pub inside_wired : (shape : Shape) (code : ThreadCode) (plan : Planned) (b k c d e f n u v w g x h : List Signal) (first : ℕ) (kept ones : List ℕ) (acts : Told) (start rested : Chains)
    (inside : Inside)
    (told : Registers) (news : List Held)
    → 1 ≤ shape.served.printer.site_width → shape.served.printer.site_width ≤ 64 → AreRightSpreads shape.globals shape.spreads
    → LaysAll Input b k (spread_out shape.spreads (map width_of shape.globals)) (length (spread_out shape.spreads (map width_of shape.globals))) told.words
    → Behind IsInnerInput b k → LaysAll Input k c (news_widths shape.served) (length (news_widths shape.served)) news → Behind IsInnerInput k c
    → Behind IsInnerInput [] c → LaysSlot code plan first kept told.words shape.spreads c d told → Behind (IsSlotRegister (length c)) c d
    → ones ≡ replicate (length shape.globals) 1 → LaysAll (Register 0) d e ones (length ones) inside.granted → Behind (IsSlotRegister (length c)) d e → Behind (IsSlotRegister (length c)) c e
    → ((x w : ℕ) → slice_get (spread_out shape.spreads (map width_of shape.globals)) x ≡ Some w → (1 ≤ w) × (w ≤ 64))
    → LaysEarlyWired shape.globals code told (marks_of inside) (caller_of shape) plan e f inside.early → inside.slot ≡ worded told inside.slot.words inside.slot.units
    → AddsHeard f n inside.early.need told.words inside.slot.words → HearsWords n u inside.early.need news (length news) inside.news
    → AddsHeard n u inside.early.need news inside.news
    → told.units ≡ [] → LaysUnits code told plan u v inside.slot.units
    → LaysTold shape.served inside.early.barriers inside.news v w acts → (shape.is_main ≡ false → IsTypedArgument code.argument code.variables)
    → ((base : Base) (code : ThreadCode) → AreSlots base w code inside.slot → CanRead base code inside.slot → KeepsLinks base w g code inside.slot start)
    → WalksAll shape.globals code inside.slot acts shape.is_main plan g x start rested
    → ((base : Base) (code : ThreadCode) (slots : Registers) → AreLinked base x code slots rested → IsEarlier x base inside.early.lost 1
    → KeepsLinks base x h code slots inside.chains) → (none : List Store) → none ≡ []
    → StagesKeepStores code inside.slot plan acts.barred (length code.stages) g h start none inside.stores → IsWiredInside code plan shape b c e f u h inside
inside_wired shape code plan b k c d e f n u v w g x h first kept ones acts start rested inside told news low high right words words_behind own_news news_behind inputs slot slot_behind
    ones_are granted
    granted_behind
    registers fit early reworded hears news_hear news_wired unshared units tells typed begins walks waits none empty stores =
    let banks = length (spread_out shape.spreads (map width_of shape.globals)) in
    let count : length told.words ≡ banks = words.count in
    let k_long : length k ≡ length b + banks = words.long in
    let c_long : length c ≡ length k + length (news_widths shape.served) = own_news.long in
    let base : Base = base_behind (length c) code in
    let heard_base : Base = base_behind (length b) code in
    let spreads_are : told.spreads ≡ shape.spreads = slot.spreads_are in
    let widths : map held_width told.words ≡ spread_out shape.spreads (map width_of shape.globals) = widths_same b k _ told.words words in
    -- on the base of what is asked no word may be read
    let early_slots_d : AreSlots base d code told =
    slots_stand base c d (let z : length c ≤ length c = omega arith in z) (length c) slot_behind code plan first kept told.words shape.spreads told slot
    (has_memories (length c) code)
    (λ m w listed after.
    let past : length c ≤ w.register = after in
    absurd (let at = (word_at base b k _ told.words words words_behind m w listed).1 in
    let less = slice_get_within told.words m w listed in omega arith)) unshared in
    let early_slots = slots_later base d e granted.grows code told early_slots_d in
    let marks_stand : AreBitsOf base e (spread_out told.spreads (marks_of inside)) =
    λ k y there.
    let from = spread_from told.spreads (marks_of inside) k y there in
    let less : from.0 < length inside.granted = subst (λ z. from.0 < z) (length-map inside.granted (λ (q : Held). q.register))
    (slice_get_within (marks_of inside) from.0 y from.1) in
    let q = get_there inside.granted from.0 less in
    let at : slice_get (marks_of inside) from.0 ≡ Some q.0.register = slice_get-map (λ (z : Held). z.register) inside.granted from.0 ∙ ap
    (option_map (λ (z : Held). z.register)) q.1 in
    let register_is : q.0.register ≡ y = (let z = from.1 in cc) in
    let stands =
    row_earlier base d e (let z = slot.grows in let l = longer_than c d z in omega arith) (length c) granted_behind (length d)
    (length ones) ones inside.granted granted.each
    refl granted.count (omega arith) from.0 q.0 q.1 in
    let one_wide : q.0.width ≡ 1 = one_of ones (length shape.globals) from.0 q.0 ones_are granted q.1 in
    subst (λ z. IsEarlier e base z 1) register_is (subst
    (λ z. IsEarlier e base q.0.register z) one_wide stands) in
    let marks_count : length (spread_out told.spreads (marks_of inside)) ≡ length told.words =
    spread_count told.spreads (marks_of inside)
    (length-map inside.granted (λ (q : Held). q.register) ∙ granted.count ∙ ap length ones_are ∙ length-replicate (length shape.globals) 1 ∙ sym right.count ∙ ap length
    (sym spreads_are))
    ∙ ap bank_total spreads_are
    ∙ sym (spread_count shape.spreads (map width_of shape.globals) (length-map shape.globals width_of ∙ sym right.count))
    ∙ sym count in
    let many = length (map held_width told.words) in
    let asked =
    early.wired low high base (map held_of (replicate many 1)) (map held_of (replicate many 64))
    (map held_of (map held_width told.words))
    slot.state_room
    (record {
      count = ap length spreads_are ∙ right.count;
      firsts = λ x s listed.
          right.firsts x s (ap (λ l. slice_get l x) (sym spreads_are) ∙ listed) ∙ ap (λ (l : List Spread). bank_total (take x l)) (sym spreads_are);
      words = count ∙ spread_count shape.spreads (map width_of shape.globals) (length-map shape.globals width_of ∙ sym right.count) ∙ ap bank_total (sym spreads_are);
    })
    early_slots marks_stand marks_count
    (subst (λ (z : List ℕ). HaveBankWidths shape.globals told.spreads (map held_of (replicate many 1)) (map held_of (replicate many 64)) (map held_of z)) (sym widths)
    (subst (λ (z : List Spread). HaveBankWidths shape.globals z (map held_of (replicate many 1)) (map held_of (replicate many 64))
    (map held_of (spread_out shape.spreads (map width_of shape.globals))))
    (sym spreads_are) (bank_widths shape.globals shape.spreads many right)))
    (have_widths (replicate many 1)) (have_widths (replicate many 64)) (have_widths (map held_width told.words))
    (λ x w listed. fit x w (ap (λ l. slice_get l x) (sym widths) ∙ listed)) in
    -- what is heard reads words
    let lower : (y w : ℕ) → IsEarlier f base y w → IsEarlier f heard_base y w = λ y w r. record {
      signal = r.signal;
      listed = r.listed;
      wide = r.wide;
      after = (let z : length c ≤ y = r.after in omega arith);
      low = r.low;
      high = r.high;
    } in
    let to_f = grows_then d e f granted.grows asked.wires.grows in
    let from_c = grows_then c d f slot.grows to_f in
    let from_k = grows_then k c f own_news.grows from_c in
    let heard =
    hears heard_base (lower inside.early.need 1 asked.need)
    (λ m w listed.
    stands_after k f heard_base w.register w.width from_k
    (word_earlier heard_base b k _ told.words words words_behind m w listed
    (let at = (word_at heard_base b k _ told.words words words_behind m w listed).1 in omega arith))) in
    let heard_news =
    news_wired heard_base (stands_after f n heard_base inside.early.need 1 heard.wires.grows (lower inside.early.need 1 asked.need))
    (λ m w listed.
    stands_after c n heard_base w.register w.width (grows_then c f n from_c heard.wires.grows)
    (word_earlier heard_base k c _ news own_news news_behind m w listed
    (let at = (word_at heard_base k c _ news own_news news_behind m w listed).1 in omega arith))) in
    let behind_f : base.first ≤ length f = longer_than c f from_c in
    let behind_n : base.first ≤ length n = longer_than c n (grows_then c f n from_c heard.wires.grows) in
    let heard_stand = heard.stand base behind_f in
    let to_u = grows_then d f u to_f (grows_then f n u heard.wires.grows heard_news.wires.grows) in
    -- units read registers
    let told_slots : AreSlots base u code told =
    slots_later base d u to_u code told early_slots_d in
    let can : CanHaveUnits base u code told plan = record {
      slots = registers_of base u code told told_slots;
      stages = (let few = slot.stage_room in omega arith);
      states = slot.state_room;
    } in
    let unit_wires = units.wires base can in
    -- the stages read registers, what is heard, and units
    let late_slots : AreSlots base v code inside.slot =
    subst (λ (z : Registers). AreSlots base v code z) (sym reworded)
    (slots_reworded base v code told inside.slot.words inside.slot.units
    (slots_later base u v units.grows code told told_slots)
    (λ m word listed. stands_after n v base word.register word.width (grows_then n u v heard_news.wires.grows units.grows) (heard_stand m word listed))
    (units.stands base can)) in
    let inside_spreads : inside.slot.spreads ≡ told.spreads = ap (λ (z : Registers). z.spreads) reworded in
    let reads : CanRead base code inside.slot = record {
      memories = has_memories (length c) code;
      words = λ m w listed. (heard_stand m w listed).after;
      powers = λ x s listed. right.powers x s (ap (λ l. slice_get l x) (sym (inside_spreads ∙ spreads_are)) ∙ listed);
    } in
    let room : FitStates inside.slot plan = subst (λ (z : Registers). FitStates z plan) (sym reworded) slot.state_room in
    let behind_v : base.first ≤ length v = longer_than c v (grows_then c u v (grows_then c d u slot.grows to_u) units.grows) in
    let news_stand = heard_news.stand base behind_n in
    let news_widths_are : map held_width inside.news ≡ news_widths shape.served = heard_widths news inside.news n u inside.early.need news_hear ∙ widths_same k c _ news own_news in
    let heard_stands : (i w : ℕ) → slice_get (news_widths shape.served) i ≡ Some w → IsEarlier v base (heard_place inside.news i) w = λ i w there.
    let h = hears_news inside.news (news_widths shape.served) i w news_widths_are there in
    subst (λ z. IsEarlier v base z w) (sym h.place)
    (subst (λ z. IsEarlier v base h.held.register z) h.wide (stands_after u v base h.held.register h.held.width units.grows (news_stand i h.held h.listed))) in
    let bars : length inside.early.barriers ≡ shape.served.barriers =
    ap length early.lays.barriers_are ∙ early.lays.opens_acts.barriers_count in
    let named_stand : AreBitsOf base v inside.early.barriers =
    of_bits_later base f v inside.early.barriers (grows_then f u v (grows_then f n u heard.wires.grows heard_news.wires.grows) units.grows) asked.barriers in
    let acts_told =
    tells.wired base behind_v named_stand (λ i less. heard_stands i 1 (bar_wide shape.served i (subst (λ z. i < z) bars less)))
    (λ is. record {
      runs = heard_stands shape.served.barriers 1 (run_wide shape.served is);
      argument = heard_stands (suc shape.served.barriers) 64 (argument_wide shape.served is);
    }) in
    let started = begins base code (slots_later base v w tells.grows code inside.slot late_slots) reads in
    let there : AreTold base g acts = record {
      barred = stands_after w g base acts.barred 1 started.wires.grows acts_told.1.barred;
      runs = stands_after w g base acts.runs 1 started.wires.grows acts_told.1.runs;
      argument = stands_after w g base acts.argument 64 started.wires.grows acts_told.1.argument;
    } in
    let rest = walks.wired base room there typed started.linked in
    let to_x = grows_then f u x (grows_then f n u heard.wires.grows heard_news.wires.grows)
    (grows_then u v x units.grows (grows_then v w x tells.grows (grows_then w g x started.wires.grows rest.wires.grows))) in
    let walked = waits base code inside.slot rest.linked (stands_after f x base inside.early.lost 1 to_x asked.lost) in
    let all_wires = wires_then base g x h rest.wires walked.wires in
    let first_stores : AreRightStores base g none =
    subst (AreRightStores base g) (sym empty) (no_stores base g) in
    record {
      inputs = inputs;
      registers = registers;
      bits = map held_of (replicate many 1);
      wide = map held_of (replicate many 64);
      own = map held_of (map held_width told.words);
      asking = told;
      spreads = sym inside_spreads;
      early = asked;
      heard = wires_then heard_base f n u heard.wires heard_news.wires;
      news = news_stand;
      wires = wires_then base u v h unit_wires (wires_then base v w h acts_told.0 (wires_then base w g h started.wires all_wires));
      linked = walked.linked;
      stores = stores base room there.barred started.linked (omega arith) first_stores;
      shares = λ globals m r q block p wire grows obeys here.
          units.shows base can globals m r q block p wire
          (grows_then v h m.signals (grows_then v w h tells.grows (grows_then w g h started.wires.grows all_wires.grows)) grows) obeys
          (code_back code told inside.slot.words inside.slot.units m r globals plan block p q
          (subst (λ (z : Registers). IsInCode code z plan globals m r q block p) reworded here));
    }
  where
    longer_than : (a b : List Signal) → Grows a b → length a ≤ length b
    longer_than a b g = longer a b g

    one_of : (ones : List ℕ) (n x : ℕ) (q : Held) → ones ≡ replicate n 1 → LaysAll (Register 0) d e ones (length ones) inside.granted → slice_get inside.granted x ≡ Some q →
        q.width ≡ 1
    one_of ones n x q are t listed =
        let less : x < length ones = subst (λ z. x < z) t.count (slice_get_within inside.granted x q listed) in
        let w = get_there ones x less in
        let f = t.each x w.0 less w.1 in
        let one : f.0 ≡ q = (let z = f.1 in cc) in
        ap held_width (sym one) ∙ f.2 ∙ copies_are n 1 x w.0 (ap (λ l. slice_get l x) (sym are) ∙ w.1)

pub inside_laid : (shape : Shape) (code : ThreadCode) (plan : Planned) (a e f v w h : List Signal) (ground : Ground) (slot : Registers) (early : Early) (news : List Held) (acts : Told)
    (walked : Walked)
    → LaysGround shape code plan a e ground → LaysEarlyWired shape.globals code ground.slot (map (λ (q : Held). q.register) ground.granted) (caller_of shape) plan e f early
    → LaysHeard code plan early.need ground.news f v ground.slot slot news → LaysTold shape.served early.barriers news v w acts
    → LaysWalk shape.globals shape.is_main code slot plan acts early.lost w h walked
    → LaysInside shape code plan a h (inside_of (record ground { slot = slot }) early news walked)
inside_laid shape code plan a e f v w h ground slot early news acts walked t asked heard tells walks =
    let told = ground.slot in
    let first : ℕ = if shape.is_main then 0 else length code.stages in
    let ports = t.lays in
    let words_are : told.words ≡ t.ports.words = t.slot.slot.words_are in
    let words' : LaysAll Input ports.with_grants ports.with_words (spread_out shape.spreads (map width_of shape.globals)) (length (spread_out shape.spreads (map width_of shape.globals)))
    told.words = subst
    (λ (z : List Held). LaysAll Input ports.with_grants ports.with_words (spread_out shape.spreads (map width_of shape.globals))
    (length (spread_out shape.spreads (map width_of shape.globals))) z)
    (sym words_are) ports.told in
    let own_news : LaysAll Input ports.with_words t.with_inputs (news_widths shape.served) (length (news_widths shape.served)) ground.news =
    subst (λ (z : List Held). LaysAll Input ports.with_words t.with_inputs (news_widths shape.served) (length (news_widths shape.served)) z) (sym t.news_are) ports.news in
    let slot' : LaysSlot code plan first t.slot.kept_widths told.words shape.spreads t.with_inputs t.with_registers told =
    subst (λ (z : List Held). LaysSlot code plan first t.slot.kept_widths z shape.spreads t.with_inputs t.with_registers told) (sym words_are) t.slot.slot in
    let late_slot : LaysSlot code plan first t.slot.kept_widths slot.words shape.spreads t.with_inputs t.with_registers slot =
    subst (λ (z : Registers). LaysSlot code plan first t.slot.kept_widths slot.words shape.spreads t.with_inputs t.with_registers z) (sym heard.same)
    (slot_reworded code plan first t.slot.kept_widths told.words slot.words slot.units shape.spreads t.with_inputs t.with_registers told slot') in
    let late_early : LaysEarly shape.globals code slot (map (λ (q : Held). q.register) ground.granted) (caller_of shape) plan e f early =
    subst (λ (z : Registers). LaysEarly shape.globals code z (map (λ (q : Held). q.register) ground.granted) (caller_of shape) plan e f early) (sym heard.same)
    (early_reworded shape.globals code told slot.words slot.units (caller_of shape) (map (λ (q : Held). q.register) ground.granted) plan e f early
    asked.lays) in
    let fit : AreFit (spread_out shape.spreads (map width_of shape.globals)) = spread_fits shape.spreads shape.globals in
    let ones_granted : LaysAll (Register 0) t.with_registers e (replicate (length shape.globals) 1) (length (replicate (length shape.globals) 1)) ground.granted =
    subst (λ k. LaysAll (Register 0) t.with_registers e (replicate (length shape.globals) 1) k ground.granted) (sym (length-replicate (length shape.globals) 1)) t.granted in
    let words_stand = ports.told_behind fit in
    record {
      with_ports = ports.with_grants;
      with_words = ports.with_words;
      with_inputs = t.with_inputs;
      with_registers = t.with_registers;
      with_slot = e;
      with_early = f;
      with_words_heard = heard.with_words_heard;
      with_heard = heard.with_heard;
      with_units = v;
      with_told = w;
      with_start = walks.with_start;
      with_rest = walks.with_rest;
      kept_widths = t.slot.kept_widths;
      told = told.words;
      asking = told;
      acts = acts;
      start = walks.start;
      rested = walks.rested;
      news = ground.news;
      inputs = subst (λ (z : Inputs). LaysInputs (length (spread_out shape.spreads (map width_of shape.globals)) + length (services shape.served)) a ports.with_grants z)
          (sym t.inputs_are) ports.inputs;
      words = words';
      news_stand = own_news;
      kept = t.slot.kept;
      slot = late_slot;
      registers_long = t.slot.long;
      granted = t.granted;
      early = late_early;
      hears = heard.hears;
      hears_news = heard.hears_news;
      units = heard.units;
      tells = tells;
      begins = walks.begins;
      walks = walks.walks;
      waits = walks.waits;
      stores = walks.stores;
      wired = λ low high right nothing typed.
          let grants = subst (λ (z : List Signal). Behind IsInnerInput z ports.with_grants) nothing (ports.inputs_behind (ap length nothing)) in
          let behind_words = behind_then IsInnerInput [] ports.with_grants ports.with_words ports.told.grows grants words_stand in
          inside_wired shape code plan ports.with_grants ports.with_words t.with_inputs t.with_registers e f heard.with_words_heard heard.with_heard v w walks.with_start
          walks.with_rest h first t.slot.kept_widths
          (replicate (length shape.globals) 1) acts walks.start walks.rested (inside_of (record ground { slot = slot }) early news walked) told ground.news low high right
          words' words_stand own_news ports.news_behind (behind_then IsInnerInput [] ports.with_words t.with_inputs ports.news.grows behind_words ports.news_behind) slot'
          t.slot.behind refl ones_granted
          (t.granted_behind (length t.with_inputs))
          (behind_then (IsSlotRegister (length t.with_inputs)) t.with_inputs t.with_registers e t.granted.grows t.slot.behind (t.granted_behind (length t.with_inputs))) fit asked
          heard.same heard.wired heard.hears_news heard.news_wired t.slot.units heard.units tells typed walks.begins_wired walks.walks walks.waits_wired [] refl
          walks.keeps;
    }
  where
    spread_fits : (spreads : List Spread) (globals : List IntegerType) → AreFit (spread_out spreads (map width_of globals))
    spread_fits spreads globals x w there =
        let from = spread_from spreads (map width_of globals) x w there in
        types_fit (map width_of globals) globals refl from.0 w from.1
