-- Ports, what an edge does, and when a state is left.
use Rattle.std.proofs.Common.{◌≡◌, ℕ, zero, suc, ◌+◌, ◌<◌, Bool, true, false, not, ◌&&◌, ◌||◌, List, [], ◌∷◌, ◌++◌, length, take, slice_get, slice_index, Option, Some, None}
use Rattle.std.proofs.Common.{refl, sym, ap, subst, ◌∙◌, arith, append_assoc, add-one}
use Rattle.std.proofs.lemmas.List.{append-nil, length-take-le}
use Rattle.std.proofs.lemmas.Option.{slice_get_within, get_or_from_slice_get}
use Rattle.std.proofs.Math.Bool.{or-false}
use Rattle.lists.proofs.Places.{take_next}
use Rattle.hls_ints.specs.Words.{word_and, word_complement}
use Rattle.bank_partition.specs.declared.banks.Spread.{Spread}
use Rattle.netlist.specs.declared.netlist.Signal.{Signal}
use Rattle.netlist.specs.declared.netlist.Action.{Action}
use Rattle.netlist.specs.declared.netlist.Module.{Module}
use Rattle.verilog_meaning.specs.Readings.{Reading, width}
use Rattle.circuit.specs.Modules.{Obeys}
use Rattle.operator_wires.specs.Gives.{Grows, Gives}
use Rattle.operator_wires.proofs.PutSignals.{grows_then, listed}
use Rattle.block_datapath.specs.declared.registers.Held.{Held}
use Rattle.block_datapath.specs.declared.registers.Registers.{Registers}
use Rattle.thread_slots.specs.declared.chains.Chains.{Chains}
use Rattle.thread_slots.specs.declared.inputs.Inputs.{Inputs}
use Rattle.thread_states.specs.declared.control.Edge.{Edge}
use Rattle.planned_block.specs.Advance.{any_below}
use Rattle.thread_slots.specs.Bits.{HasBit, HaveBits, NotOf, BothOf, WithOf, MakesBits, MakesAny, is_in}
use Rattle.thread_states.specs.Control.{got, unmet, is_left, counts_of, Follows, RemembersOne, Remembered, Remembers, Steers, Controls}
use Rattle.thread_states.specs.Actions.{sets_of, sets_from}
use Rattle.thread_slots.proofs.BitLists.{has_not, has_both, bits_more}

-- ---- grants that are remembered

none_below : (t : ℕ → Bool) (n : ℕ) → any_below (λ k. false && t k) n ≡ false
none_below t zero = refl
none_below t (suc n) = ap (λ c. c || false) (none_below t n)

pub mark_of_some : (a b c : List Signal) (mark : ℕ) (gots : List ℕ) (s : Spread) (stay any out : ℕ) → MakesAny a b mark gots (is_in s) (length gots) any
    → Gives b c out 1 (λ m r. word_and (width m any) (r.signal any) (r.signal stay)) → RemembersOne a c mark gots (Some s) stay out
mark_of_some a b c mark gots s stay any out t u = record {
  grows = grows_then a b c t.grows u.grows;
  shows = λ m r p q v g o one wins stays.
      has_both b c out any stay u m r (p || any_below (λ k. is_in s k && v k) (length gots)) q g o (t.shows m r p v (grows_then b c m.signals u.grows g) o one wins) stays;
}

pub mark_of_none : (a b : List Signal) (mark : ℕ) (gots : List ℕ) (stay out : ℕ) → Gives a b out 1 (λ m r. word_and (width m mark) (r.signal mark) (r.signal stay))
    → RemembersOne a b mark gots None stay out
mark_of_none a b mark gots stay out u = record {
  grows = u.grows;
  shows = λ m r p q v g o one wins stays.
      let none : p ≡ (p || any_below (λ k. false && v k) (length gots)) = sym (ap (λ c. p || c) (none_below v (length gots)) ∙ or-false p) in
      subst (λ z. HasBit m r out (z && q)) none (has_both a b out mark stay u m r p q g o one stays);
}

pub marks_more : (a b c : List Signal) (granted gots : List ℕ) (spreads : List Spread) (spread : Option Spread) (stay n x place : ℕ) (outs after : List ℕ)
    → Remembers a b granted gots spreads stay n outs → slice_get granted n ≡ Some x → spread ≡ slice_get spreads n → RemembersOne b c x gots spread stay place →
    after ≡ outs ++ place ∷ []
    → Remembers a c granted gots spreads stay (n + 1) after
marks_more a b c granted gots spreads spread stay n x place outs after t listed at u same =
    bits_more (Remembered granted gots spreads stay) a b c n place outs after t u.grows
    (λ m r v g o made.
    subst (λ z. HasBit m r place z) (sym made.is)
    (subst (λ (s : Option Spread). HasBit m r place ((made.mark || any_below (λ k. counts_of s k && made.wins k) (length gots)) && made.stays)) at
    (u.shows m r made.mark made.stays made.wins g o (subst (λ p. HasBit m r p made.mark) (get_or_from_slice_get granted n x 0 listed) made.has_mark) made.has_wins made.has_stays)))
    same

-- ---- control

module _ (s0 s1 s2 s3 s4 s5 s6 s7 s8 s9 s10 s11 s12 : List Signal) (registers : Registers) (inputs : Inputs) (x : Chains) (opens granted : List ℕ) (edge : Edge)
    (wins missing lacks : List ℕ)
    (blocked free stay : ℕ) (asks : MakesBits s0 s1 (length opens) edge.asks (WithOf opens inputs.enable))
    (gots : MakesBits s1 s2 (length edge.asks) wins (BothOf edge.asks inputs.grants)) (misses : MakesBits s2 s3 (length wins) missing (NotOf wins))
    (unmets : MakesBits s3 s4 (length opens) lacks (BothOf opens missing)) (stuck : MakesAny s4 s5 x.waits lacks (λ k. true) (length lacks) blocked)
    (frees : Gives s5 s6 free 1 (λ m r. word_complement (width m blocked) (r.signal blocked)))
    (leaves : Gives s6 s7 edge.leave 1 (λ m r. word_and (width m inputs.enable) (r.signal inputs.enable) (r.signal free)))
    (state : Follows s7 s8 registers.state x.is_last edge.state)
    (beat : Gives s8 s9 edge.beat 1 (λ m r. word_complement (width m registers.beat) (r.signal registers.beat)))
    (moves : MakesAny s9 s10 edge.leave wins (λ k. true) (length wins) edge.moved)
    (stays : Gives s10 s11 stay 1 (λ m r. word_complement (width m edge.leave) (r.signal edge.leave)))
    (marks : Remembers s11 s12 granted wins registers.spreads stay (length granted) edge.granted) where
  to_11 : Grows s11 s12
  to_11 = marks.grows

  to_10 : Grows s10 s12
  to_10 = grows_then s10 s11 s12 stays.grows to_11

  to_9 : Grows s9 s12
  to_9 = grows_then s9 s10 s12 moves.grows to_10

  to_8 : Grows s8 s12
  to_8 = grows_then s8 s9 s12 beat.grows to_9

  to_7 : Grows s7 s12
  to_7 = grows_then s7 s8 s12 state.grows to_8

  to_6 : Grows s6 s12
  to_6 = grows_then s6 s7 s12 leaves.grows to_7

  to_5 : Grows s5 s12
  to_5 = grows_then s5 s6 s12 frees.grows to_6

  to_4 : Grows s4 s12
  to_4 = grows_then s4 s5 s12 stuck.grows to_5

  to_3 : Grows s3 s12
  to_3 = grows_then s3 s4 s12 unmets.grows to_4

  to_2 : Grows s2 s12
  to_2 = grows_then s2 s3 s12 misses.grows to_3

  to_1 : Grows s1 s12
  to_1 = grows_then s1 s2 s12 gots.grows to_2

  win_count : length wins ≡ length opens
  win_count = gots.count ∙ asks.count

  module _ (m : Module) (r : Reading) (raised : ℕ → Bool) (enabled : Bool) (g : Grows s12 m.signals) (o : Obeys m r) where
    asked : HaveBits m r opens (length opens) raised → HasBit m r inputs.enable enabled → HaveBits m r edge.asks (length opens) (λ k. raised k && enabled)
    asked opened on k less =
        asks.shows m r k (raised k && enabled) (grows_then s1 s12 m.signals to_1 g) o less
        (record { one = raised k; two = enabled; has_one = opened k less; has_two = on; is = refl })

    module _ (grants : ℕ → Bool) (waits : Bool) (steers : Steers m r inputs x opens raised grants waits enabled) where
      won : HaveBits m r wins (length opens) (got raised grants enabled)
      won k less =
          gots.shows m r k (got raised grants enabled k) (grows_then s2 s12 m.signals to_2 g) o (subst (λ n. k < n) (sym asks.count) less)
          (record { one = raised k && enabled; two = grants k; has_one = asked steers.has_opens steers.has_enable k less; has_two = steers.has_grants k less; is = refl })

      won_all : HaveBits m r wins (length wins) (got raised grants enabled)
      won_all k less = won k (subst (λ n. k < n) win_count less)

      lacking : HaveBits m r lacks (length lacks) (unmet raised grants enabled)
      lacking k less =
          let inside : k < length opens = subst (λ n. k < n) unmets.count less in
          let lost =
          misses.shows m r k (not (got raised grants enabled k)) (grows_then s3 s12 m.signals to_3 g) o (subst (λ n. k < n) (sym win_count) inside)
          (record { bit = got raised grants enabled k; has = won k inside; is = refl }) in
          unmets.shows m r k (unmet raised grants enabled k) (grows_then s4 s12 m.signals to_4 g) o inside
          (record { one = raised k; two = not (got raised grants enabled k); has_one = steers.has_opens k inside; has_two = lost; is = refl })

      blocked_is : HasBit m r blocked (waits || any_below (unmet raised grants enabled) (length opens))
      blocked_is =
          subst (λ n. HasBit m r blocked (waits || any_below (unmet raised grants enabled) n)) unmets.count
          (stuck.shows m r waits (unmet raised grants enabled) (grows_then s5 s12 m.signals to_5 g) o steers.has_waits lacking)

      left : HasBit m r edge.leave (is_left raised grants enabled waits (length opens))
      left =
          has_both s6 s7 edge.leave inputs.enable free leaves m r enabled (not (waits || any_below (unmet raised grants enabled) (length opens)))
          (grows_then s7 s12 m.signals to_7 g) o
          steers.has_enable
          (has_not s5 s6 free blocked frees m r (waits || any_below (unmet raised grants enabled) (length opens)) (grows_then s6 s12 m.signals to_6 g) o blocked_is)

      moving : HasBit m r edge.moved (is_left raised grants enabled waits (length opens) || any_below (got raised grants enabled) (length opens))
      moving =
          subst (λ n. HasBit m r edge.moved (is_left raised grants enabled waits (length opens) || any_below (got raised grants enabled) n)) win_count
          (moves.shows m r (is_left raised grants enabled waits (length opens)) (got raised grants enabled) (grows_then s10 s12 m.signals to_10 g) o left won_all)

      marked : (k : ℕ) (mark : Bool) → k < length granted → HasBit m r (slice_index granted k) mark → HasBit m r (slice_index edge.granted k)
          ((mark || any_below (λ j. counts_of (slice_get registers.spreads k) j && got raised grants enabled j) (length opens)) && not
          (is_left raised grants enabled waits (length opens)))
      marked k mark less has =
          marks.shows m r k
          ((mark || any_below (λ j. counts_of (slice_get registers.spreads k) j && got raised grants enabled j) (length opens)) && not
          (is_left raised grants enabled waits (length opens))) g o less
          (record {
            mark = mark;
            has_mark = has;
            wins = got raised grants enabled;
            has_wins = won_all;
            stays = not (is_left raised grants enabled waits (length opens));
            has_stays = has_not s10 s11 stay edge.leave stays m r (is_left raised grants enabled waits (length opens)) (grows_then s11 s12 m.signals to_11 g) o left;
            is =
                ap
                (λ n. (mark || any_below (λ j. counts_of (slice_get registers.spreads k) j && got raised grants enabled j) n) && not
                (is_left raised grants enabled waits (length opens)))
                (sym win_count);
          })

  pub control_made : Controls s0 s12 registers inputs x opens granted edge
  control_made = record {
    grows = grows_then s0 s1 s12 asks.grows to_1;
    asks_count = asks.count;
    asks = asked_by;
    leave = λ m r raised grants waits enabled g o steers. left m r raised enabled g o grants waits steers;
    moved = λ m r raised grants waits enabled g o steers. moving m r raised enabled g o grants waits steers;
    granted_count = marks.count;
    granted = λ m r raised grants waits enabled k mark g o steers less has. marked m r raised enabled g o grants waits steers k mark less has;
    follows = record {
      grows = grows_then s0 s1 s12 asks.grows to_1;
      wide = λ m g. state.wide m (grows_then s8 s12 m.signals to_8 g);
      shows = λ m r p g. state.shows m r p (grows_then s8 s12 m.signals to_8 g);
    };
    beat = λ m r t g o has. has_not s8 s9 edge.beat registers.beat beat m r t (grows_then s9 s12 m.signals to_9 g) o has;
  }
    where
      asked_by : (m : Module) (r : Reading) (raised : ℕ → Bool) (enabled : Bool) → Grows s12 m.signals → Obeys m r → HaveBits m r opens (length opens) raised →
          HasBit m r inputs.enable enabled
          → HaveBits m r edge.asks (length opens) (λ k. raised k && enabled)
      asked_by m r raised enabled g o opened on = asked m r raised enabled g o opened on

-- ---- actions

sets_next : (condition : ℕ) (nexts : List ℕ) (n : ℕ) (hs : List Held) (h : Held) → sets_from condition nexts n (hs ++ h ∷ [])
    ≡ sets_from condition nexts n hs ++ sets_of condition h (slice_get nexts (n + length hs))
sets_next condition nexts n [] h =
    let at : n ≡ n + 0 = omega arith in
    append-nil (sets_of condition h (slice_get nexts n)) ∙ ap (λ k. sets_of condition h (slice_get nexts k)) at
sets_next condition nexts n (y ∷ hs) h =
    let at : suc n + length hs ≡ n + suc (length hs) = omega arith in
    ap (λ l. sets_of condition y (slice_get nexts n) ++ l) (sets_next condition nexts (suc n) hs h ∙ ap
    (λ k. sets_from condition nexts (suc n) hs ++ sets_of condition h (slice_get nexts k)) at)
    ∙ sym (append_assoc (sets_of condition y (slice_get nexts n)) (sets_from condition nexts (suc n) hs) (sets_of condition h (slice_get nexts (n + suc (length hs)))))

pub sets_more : (before middle after : List Action) (condition n : ℕ) (nexts : List ℕ) (hs : List Held) (h : Held) (next : Option ℕ) →
    middle ≡ before ++ sets_from condition nexts 0 (take n hs)
    → slice_get hs n ≡ Some h → next ≡ slice_get nexts n → after ≡ middle ++ sets_of condition h next → after ≡ before ++ sets_from condition nexts 0 (take (n + 1) hs)
sets_more before middle after condition n nexts hs h next e listed f g =
    let within = slice_get_within hs n h listed in
    let count : 0 + length (take n hs) ≡ n = (let z = length-take-le n hs (omega arith) in omega arith) in
    g
    ∙ ap (λ l. l ++ sets_of condition h next) e
    ∙ ap (λ o. (before ++ sets_from condition nexts 0 (take n hs)) ++ sets_of condition h o) (f ∙ ap (slice_get nexts) (sym count))
    ∙ append_assoc before (sets_from condition nexts 0 (take n hs)) (sets_of condition h (slice_get nexts (0 + length (take n hs))))
    ∙ ap (λ l. before ++ l) (sym (sets_next condition nexts 0 (take n hs) h))
    ∙ ap (λ l. before ++ sets_from condition nexts 0 l) (sym (ap (λ k. take k hs) (add-one n) ∙ take_next hs n h listed))
