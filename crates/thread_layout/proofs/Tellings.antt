-- What the cores of acts tell a thread that waits.
use Rattle.std.proofs.Common.{◌≡◌, ◌≢◌, ℕ, zero, suc, ◌+◌, ◌<◌, Bool, true, false, ◌&&◌, if◌then◌else◌, List, [], ◌∷◌, ◌++◌, length, map, slice_get, Some}
use Rattle.std.proofs.Common.{refl, sym, ap, subst, ◌∙◌, arith, ⊎_elim, length-append}
use Rattle.std.specs.Prelude.{slice_index, option_map, replicate}
use Rattle.std.proofs.lemmas.List.{length-map, get_or_append_left, get_or_push}
use Rattle.std.proofs.lemmas.Option.{slice_get_within, slice_get-map, get_or_from_slice_get}
use Rattle.std.proofs.lemmas.Bool.{cases_eq}
use Rattle.lists.proofs.Places.{get_there, copies_front}
use Rattle.netlist.specs.declared.netlist.Signal.{Signal}
use Rattle.operator_wires.specs.Gives.{Grows, Gives}
use Rattle.operator_wires.specs.Added.{ConstantAdds}
use Rattle.operator_wires.specs.Built.{Base, IsEarlier}
use Rattle.operator_wires.proofs.PutSignals.{grows_then}
use Rattle.operator_wires.proofs.BuiltWires.{stands_after, wires_then, longer}
use Rattle.planned_block.specs.Advance.{any_below}
use Rattle.block_datapath.specs.declared.registers.Held.{Held}
use Rattle.thread_slots.specs.declared.shape.Served.{Served}
use Rattle.thread_slots.specs.declared.told.Told.{Told}
use Rattle.thread_slots.specs.Bits.{HasBit, HaveBits, BothOf, MakesBits, MakesAny, AddsBoths, AddsAny, AreBitsOf}
use Rattle.thread_slots.specs.Services.{if_thread_ids, news_widths}
use Rattle.thread_slots.proofs.BitLists.{of_bits_later}
use Rattle.thread_requests.specs.Early.{held_width}
use Rattle.thread_layout.specs.Telling.{heard_place, TakesFirst, ThreadIdsStand, LaysTold}

-- ---- the first n places

pub first_none : (places outs : List ℕ) → outs ≡ [] → TakesFirst places 0 outs
first_none places outs e = record { count = ap length e; each = λ k less. absurd (omega arith) }

pub first_more : (places : List ℕ) (n place : ℕ) (outs after : List ℕ) → TakesFirst places n outs → place ≡ slice_index places n → after ≡ outs ++ place ∷ []
    → TakesFirst places (n + 1) after
first_more places n place outs after t is same = record {
  count = ap length same ∙ length-append outs (place ∷ []) ∙ ap (λ k. k + 1) t.count;
  each = λ k less. ⊎_elim
      (λ (e : k ≡ n).
      ap (λ l. slice_index l k) same ∙ ap (slice_index (outs ++ place ∷ [])) (e ∙ sym t.count) ∙ get_or_push outs place 0 (length outs) refl ∙ is ∙ ap (slice_index places) (sym e))
      (λ (ne : k ≢ n).
      let inside : k < n = omega arith in
      ap (λ l. slice_index l k) same ∙ get_or_append_left outs (place ∷ []) 0 k (subst (λ j. k < j) (sym t.count) inside) ∙ t.each k inside)
      (cases_eq k n);
}

-- ---- what is told

-- a: nothing, b: a bit that is not set, c: the number 0, d: which barriers are named and hold the thread, e: all
module _ (served : Served) (named : List ℕ) (news : List Held) (a b c d e : List Signal) (never nothing : ℕ) (heard holds both : List ℕ) (told : Told)
    (one : Gives a b never 1 (λ m r. 0)) (two : Gives b c nothing 64 (λ m r. 0)) (is_heard : heard ≡ map (λ (h : Held). h.register) news)
    (takes : TakesFirst heard (length named) holds) (boths : MakesBits c d (length named) both (BothOf named holds))
    (any : MakesAny d e never both (λ k. true) (length both) told.barred) (runs : told.runs ≡ (if served.thread_ids then slice_index heard served.barriers else never))
    (argument : told.argument ≡ (if served.thread_ids then slice_index heard (served.barriers + 1) else nothing)) where
  from_d : Grows d e
  from_d = any.grows

  from_c : Grows c e
  from_c = grows_then c d e boths.grows from_d

  from_b : Grows b e
  from_b = grows_then b c e two.grows from_c

  from_a : Grows a e
  from_a = grows_then a b e one.grows from_b

  to_c : Grows a c
  to_c = grows_then a b c one.grows two.grows

  place_is : (k : ℕ) → slice_index heard k ≡ heard_place news k
  place_is k = ap (λ l. slice_index l k) is_heard

  held_is : (k : ℕ) → k < length named → slice_index holds k ≡ heard_place news k
  held_is k less = takes.each k less ∙ place_is k

  runs_is : served.thread_ids ≡ true → told.runs ≡ heard_place news served.barriers
  runs_is is = runs ∙ ap (λ t. if t then slice_index heard served.barriers else never) is ∙ place_is served.barriers

  argument_is : served.thread_ids ≡ true → told.argument ≡ heard_place news (suc served.barriers)
  argument_is is =
      let next : served.barriers + 1 ≡ suc served.barriers = omega arith in
      argument ∙ ap (λ t. if t then slice_index heard (served.barriers + 1) else nothing) is ∙ place_is (served.barriers + 1) ∙ ap (heard_place news) next

  pub told_laid : ConstantAdds a b 1 0 never → ConstantAdds b c 64 0 nothing → AddsBoths c d named holds both → AddsAny d e never both told.barred → LaysTold served named news a e told
  told_laid adds_never adds_nothing adds_both adds_any = record {
    grows = from_a;
    barred = λ m r names holding g o are_named are_held.
        let first : HasBit m r never false = record {
          wide = one.wide m (grows_then b e m.signals from_b g);
          shows = one.shows m r (grows_then b e m.signals from_b g) o;
        } in
        let each : HaveBits m r both (length both) (λ k. names k && holding k) = λ k less.
        let inside : k < length named = subst (λ n. k < n) boths.count less in
        boths.shows m r k (names k && holding k) (grows_then d e m.signals from_d g) o inside
        (record {
          one = names k;
          two = holding k;
          has_one = are_named k inside;
          has_two = subst (λ p. HasBit m r p (holding k)) (sym (held_is k inside)) (are_held k inside);
          is = refl;
        }) in
        subst (λ n. HasBit m r told.barred (any_below (λ k. names k && holding k) n)) boths.count (any.shows m r false (λ k. names k && holding k) g o first each);
    runs = runs_is;
    argument = argument_is;
    wired = λ base room named_stand held_stand thread_ids_stand.
        let first = adds_never base room (omega arith) (omega arith) (omega arith) in
        let at_b = longer a b one.grows in
        let second = adds_nothing base (omega arith) (omega arith) (omega arith) (omega arith) in
        let holds_stand : AreBitsOf base c holds = λ k x there.
        let inside : k < length named = subst (λ n. k < n) takes.count (slice_get_within holds k x there) in
        let same : heard_place news k ≡ x = sym (held_is k inside) ∙ get_or_from_slice_get holds k x 0 there in
        subst (λ z. IsEarlier c base z 1) same (stands_after a c base (heard_place news k) 1 to_c (held_stand k inside)) in
        let third = adds_both base (of_bits_later base a c named to_c named_stand) holds_stand (sym takes.count) in
        let never_d : IsEarlier d base never 1 = stands_after b d base never 1 (grows_then b c d two.grows boths.grows) first.stands in
        let last = adds_any base third.stand never_d in (
          wires_then base a b e first.wires (wires_then base b c e second.wires (wires_then base c d e third.wires last.wires)),
          record {
            barred = last.stands;
            runs = run_stands base thread_ids_stand (stands_after b e base never 1 from_b first.stands) served.thread_ids refl;
            argument = argument_stands base thread_ids_stand (stands_after c e base nothing 64 from_c second.stands) served.thread_ids refl;
          },
        );
  }
    where
      run_stands : (base : Base) → (served.thread_ids ≡ true → ThreadIdsStand base a served news) → IsEarlier e base never 1 → (thread_ids : Bool) → served.thread_ids ≡ thread_ids → IsEarlier e base told.runs 1
      run_stands base thread_ids_stand other true is =
          subst (λ z. IsEarlier e base z 1) (sym (runs_is is)) (stands_after a e base (heard_place news served.barriers) 1 from_a (thread_ids_stand is).runs)
      run_stands base thread_ids_stand other false is =
          subst (λ z. IsEarlier e base z 1) (sym (runs ∙ ap (λ t. if t then slice_index heard served.barriers else never) is)) other

      argument_stands : (base : Base) → (served.thread_ids ≡ true → ThreadIdsStand base a served news) → IsEarlier e base nothing 64 → (thread_ids : Bool) → served.thread_ids ≡ thread_ids
          → IsEarlier e base told.argument 64
      argument_stands base thread_ids_stand other true is =
          subst (λ z. IsEarlier e base z 64) (sym (argument_is is)) (stands_after a e base (heard_place news (suc served.barriers)) 64 from_a (thread_ids_stand is).argument)
      argument_stands base thread_ids_stand other false is =
          subst (λ z. IsEarlier e base z 64) (sym (argument ∙ ap (λ t. if t then slice_index heard (served.barriers + 1) else nothing) is)) other

-- ---- how wide the news are

behind_bars : (n k : ℕ) (ws : List ℕ) → slice_get (replicate n 1 ++ ws) (n + k) ≡ slice_get ws k
behind_bars zero k ws = ap (slice_get ws) (let z : 0 + k ≡ k = omega arith in z)
behind_bars (suc n) k ws = ap (slice_get (1 ∷ (replicate n 1 ++ ws))) (let z : suc n + k ≡ suc (n + k) = omega arith in z) ∙ behind_bars n k ws

module _ (served : Served) where
  pub bar_wide : (k : ℕ) → k < served.barriers → slice_get (news_widths served) k ≡ Some 1
  bar_wide k less = copies_front served.barriers k 1 (if_thread_ids served.thread_ids (1 ∷ 64 ∷ [])) less

  pub run_wide : served.thread_ids ≡ true → slice_get (news_widths served) served.barriers ≡ Some 1
  run_wide is =
      ap (slice_get (news_widths served)) (let z : served.barriers ≡ served.barriers + 0 = omega arith in z)
      ∙ behind_bars served.barriers 0 (if_thread_ids served.thread_ids (1 ∷ 64 ∷ [])) ∙ ap (λ t. slice_get (if_thread_ids t (1 ∷ 64 ∷ [])) 0) is

  pub argument_wide : served.thread_ids ≡ true → slice_get (news_widths served) (suc served.barriers) ≡ Some 64
  argument_wide is =
      ap (slice_get (news_widths served)) (let z : suc served.barriers ≡ served.barriers + 1 = omega arith in z)
      ∙ behind_bars served.barriers 1 (if_thread_ids served.thread_ids (1 ∷ 64 ∷ [])) ∙ ap (λ t. slice_get (if_thread_ids t (1 ∷ 64 ∷ [])) 1) is

-- which of those that are heard stands there
pub record HearsNews (news : List Held) (k w : ℕ) : Type 0 where
  pub held : Held
  pub listed : slice_get news k ≡ Some held
  pub wide : held.width ≡ w
  pub place : heard_place news k ≡ held.register

pub hears_news : (news : List Held) (widths : List ℕ) (k w : ℕ) → map held_width news ≡ widths → slice_get widths k ≡ Some w → HearsNews news k w
hears_news news widths k w same there =
    let at : slice_get (map held_width news) k ≡ Some w = ap (λ l. slice_get l k) same ∙ there in
    let less : k < length news = subst (λ n. k < n) (length-map news held_width) (slice_get_within (map held_width news) k w at) in
    let own = get_there news k less in
    let found : slice_get (map held_width news) k ≡ Some (held_width own.0) = slice_get-map held_width news k ∙ ap (option_map held_width) own.1 in
    let wide : held_width own.0 ≡ w = (let both : Some (held_width own.0) ≡ Some w = sym found ∙ at in cc) in
    let listed : slice_get (map (λ (h : Held). h.register) news) k ≡ Some own.0.register =
    slice_get-map (λ (h : Held). h.register) news k ∙ ap (option_map (λ (h : Held). h.register)) own.1 in
    record { held = own.0; listed = own.1; wide = wide; place = get_or_from_slice_get (map (λ (h : Held). h.register) news) k own.0.register 0 listed }
