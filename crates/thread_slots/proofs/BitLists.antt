-- Lists of bits.
use Rattle.std.proofs.Common.{◌≡◌, ◌≢◌, ℕ, suc, ◌+◌, ◌<◌, Bool, true, false, not, ◌&&◌, ◌||◌, List, [], ◌∷◌, ◌++◌, length, slice_get, slice_index, Some, refl, sym, ap}
use Rattle.std.proofs.Common.{subst, ◌∙◌, arith, ⊎_elim, length-append}
use Rattle.std.proofs.lemmas.Option.{get_or_from_slice_get}
use Rattle.std.proofs.lemmas.Bool.{cases_eq}
use Rattle.std.proofs.Math.Bool.{or_assoc, or-false}
use Rattle.std.proofs.lemmas.List.{get_or_push, get_or_append_left}
use Rattle.lists.proofs.Places.{get_last, get_earlier}
use Rattle.hls_ints.specs.Residues.{bit_of}
use Rattle.hls_ints.specs.Words.{word_and, word_inclusive_or, word_complement, word_equal}
use Rattle.verilog_tree.specs.declared.tree.BinaryOperator.TheVariants.{And}
use Rattle.netlist.specs.declared.netlist.Value.TheVariants.{Binary}
use Rattle.netlist.specs.declared.netlist.Source.TheVariants.{Assigned}
use Rattle.netlist.specs.declared.netlist.Signal.{Signal}
use Rattle.netlist.specs.declared.netlist.Module.{Module}
use Rattle.verilog_meaning.specs.Readings.{Reading, width}
use Rattle.circuit.specs.Modules.{Obeys}
use Rattle.operator_wires.specs.Gives.{Grows, Stands, Gives}
use Rattle.operator_wires.specs.declared.wires.Role.TheVariants.{Wire}
use Rattle.operator_wires.specs.Built.{Base, Lays, IsEarlier, Adds}
use Rattle.operator_wires.proofs.PutSignals.{grows_refl, grows_then}
use Rattle.operator_wires.proofs.BuiltWires.{stands_after, wires_none, wires_then}
use Rattle.operator_wires.proofs.Bits.{and_bits, or_bits}
use Rattle.operator_wires.proofs.Typed.{complement_of_bit}
use Rattle.planned_block.specs.Advance.{any_below}
use Rattle.block_datapath.proofs.ConditionalChains.{equal_small}
use Rattle.thread_slots.specs.Slots.{StandsAt}
use Rattle.thread_slots.specs.Bits.{HasBit, NotOf, BothOf, WithOf, NumberOf, MakesBits, LaysWith, MakesAny, EitherIf, AreBitsOf, AddsBits, AddsNots, AddsBoths, AddsAny, EitherAdds}
use Rattle.thread_slots.proofs.LaidRegisters.{stands_last, stands_grow, stands_long, stands_later}

-- ---- one bit

pub has_not : (a b : List Signal) (place of : ℕ) (t : Gives a b place 1 (λ m r. word_complement (width m of) (r.signal of))) (m : Module) (r : Reading) (x : Bool) →
    Grows b m.signals → Obeys m r
    → HasBit m r of x → HasBit m r place (not x)
has_not a b place of t m r x g o has = record {
  wide = t.wide m g;
  shows = t.shows m r g o ∙ ap (λ w. word_complement w (r.signal of)) has.wide ∙ ap (word_complement 1) has.shows ∙ complement_of_bit x;
}

pub has_both : (a b : List Signal) (place left right : ℕ) (t : Gives a b place 1 (λ m r. word_and (width m left) (r.signal left) (r.signal right))) (m : Module) (r : Reading)
    (x y : Bool)
    → Grows b m.signals → Obeys m r → HasBit m r left x → HasBit m r right y → HasBit m r place (x && y)
has_both a b place left right t m r x y g o one two = record {
  wide = t.wide m g;
  shows =
      t.shows m r g o ∙ ap (λ w. word_and w (r.signal left) (r.signal right)) one.wide ∙ ap (λ n. word_and 1 n (r.signal right)) one.shows ∙ ap (word_and 1 (bit_of x)) two.shows
      ∙ and_bits x y;
}

pub has_either : (a b : List Signal) (place left right : ℕ) (t : Gives a b place 1 (λ m r. word_inclusive_or (width m left) (r.signal left) (r.signal right))) (m : Module)
    (r : Reading)
    (x y : Bool) → Grows b m.signals → Obeys m r → HasBit m r left x → HasBit m r right y → HasBit m r place (x || y)
has_either a b place left right t m r x y g o one two = record {
  wide = t.wide m g;
  shows =
      t.shows m r g o
      ∙ ap (λ w. word_inclusive_or w (r.signal left) (r.signal right)) one.wide
      ∙ ap (λ n. word_inclusive_or 1 n (r.signal right)) one.shows
      ∙ ap (word_inclusive_or 1 (bit_of x)) two.shows
      ∙ or_bits x y;
}

-- ---- a bit of each

module _ (Made : Module → Reading → ℕ → Bool → Type 0) where
  pub bits_none : (a : List Signal) (outs : List ℕ) → outs ≡ [] → MakesBits a a 0 outs Made
  bits_none a outs e = record { grows = grows_refl a; count = ap length e; shows = λ m r k t g o less. absurd (omega arith) }

  pub bits_more : (a b c : List Signal) (n place : ℕ) (outs after : List ℕ) → MakesBits a b n outs Made → Grows b c
      → ((m : Module) (r : Reading) (t : Bool) → Grows c m.signals → Obeys m r → Made m r n t → HasBit m r place t) → after ≡ outs ++ place ∷ [] → MakesBits a c (n + 1) after Made
  bits_more a b c n place outs after t more shows same = record {
    grows = grows_then a b c t.grows more;
    count = ap length same ∙ length-append outs (place ∷ []) ∙ ap (λ k. k + 1) t.count;
    shows = λ m r k v g o less made. ⊎_elim
        (λ (e : k ≡ n).
        let at : slice_index after k ≡ place = ap (λ l. slice_index l k) same ∙ ap (slice_index (outs ++ place ∷ [])) (e ∙ sym t.count) ∙ get_or_push outs place 0 (length outs) refl in
        subst (λ p. HasBit m r p v) (sym at) (shows m r v g o (subst (λ j. Made m r j v) e made)))
        (λ (ne : k ≢ n).
        let inside : k < n = omega arith in
        let at : slice_index after k ≡ slice_index outs k = ap (λ l. slice_index l k) same ∙ get_or_append_left outs (place ∷ []) 0 k (subst (λ j. k < j) (sym t.count) inside) in
        subst (λ p. HasBit m r p v) (sym at) (t.shows m r k v (grows_then b c m.signals more g) o inside made))
        (cases_eq k n);
  }

pub not_more : (a b c : List Signal) (bits : List ℕ) (n x place : ℕ) (outs after : List ℕ) → MakesBits a b n outs (NotOf bits) → slice_get bits n ≡ Some x
    → Gives b c place 1 (λ m r. word_complement (width m x) (r.signal x)) → after ≡ outs ++ place ∷ [] → MakesBits a c (n + 1) after (NotOf bits)
not_more a b c bits n x place outs after t listed u same =
    bits_more (NotOf bits) a b c n place outs after t u.grows
    (λ m r v g o made.
    subst (λ z. HasBit m r place z) (sym made.is) (has_not b c place x u m r made.bit g o (subst (λ p. HasBit m r p made.bit) (get_or_from_slice_get bits n x 0 listed) made.has)))
    same

pub both_more : (a b c : List Signal) (left right : List ℕ) (n x y place : ℕ) (outs after : List ℕ) → MakesBits a b n outs (BothOf left right) → slice_get left n ≡ Some x
    → y ≡ slice_index right n → Gives b c place 1 (λ m r. word_and (width m x) (r.signal x) (r.signal y)) → after ≡ outs ++ place ∷ [] →
    MakesBits a c (n + 1) after (BothOf left right)
both_more a b c left right n x y place outs after t listed at u same =
    bits_more (BothOf left right) a b c n place outs after t u.grows
    (λ m r v g o made.
    subst (λ z. HasBit m r place z) (sym made.is)
    (has_both b c place x y u m r made.one made.two g o (subst (λ p. HasBit m r p made.one) (get_or_from_slice_get left n x 0 listed) made.has_one)
    (subst (λ p. HasBit m r p made.two) (sym at) made.has_two)))
    same

pub with_more : (a b c : List Signal) (bits : List ℕ) (n x other place : ℕ) (outs after : List ℕ) → MakesBits a b n outs (WithOf bits other) → slice_get bits n ≡ Some x
    → Gives b c place 1 (λ m r. word_and (width m x) (r.signal x) (r.signal other)) → after ≡ outs ++ place ∷ [] → MakesBits a c (n + 1) after (WithOf bits other)
with_more a b c bits n x other place outs after t listed u same =
    bits_more (WithOf bits other) a b c n place outs after t u.grows
    (λ m r v g o made.
    subst (λ z. HasBit m r place z) (sym made.is)
    (has_both b c place x other u m r made.one made.two g o (subst (λ p. HasBit m r p made.one) (get_or_from_slice_get bits n x 0 listed) made.has_one) made.has_two))
    same

pub number_more : (a b c : List Signal) (of n place : ℕ) (outs after : List ℕ) → MakesBits a b n outs (NumberOf of)
    → Gives b c place 1 (λ m r. word_equal (width m of) (r.signal of) n) → after ≡ outs ++ place ∷ [] → MakesBits a c (n + 1) after (NumberOf of)
number_more a b c of n place outs after t u same =
    bits_more (NumberOf of) a b c n place outs after t u.grows
    (λ m r v g o made.
    subst (λ z. HasBit m r place z) (sym made.is)
    (record { wide = u.wide m g; shows = u.shows m r g o ∙ equal_small (width m of) 64 (r.signal of) n made.wide made.fits made.small }))
    same

-- ---- where they stand

pub laid_none : (a : List Signal) (bits : List ℕ) (other : ℕ) (outs : List ℕ) → outs ≡ [] → LaysWith a a bits other 0 outs
laid_none a bits other outs e = record {
  grows = grows_refl a;
  long = omega arith;
  places = λ k less. absurd (omega arith);
  count = ap length e;
  each = λ k x less. absurd (omega arith);
}

pub laid_more : (a b c : List Signal) (bits : List ℕ) (other n x place : ℕ) (outs after : List ℕ) → LaysWith a b bits other n outs → slice_get bits n ≡ Some x
    → Lays b c Wire 1 false (Assigned (Binary And x other)) place → after ≡ outs ++ place ∷ [] → LaysWith a c bits other (n + 1) after
laid_more a b c bits other n x place outs after t listed u same =
    let stands : Stands b c 1 (Assigned (Binary And x other)) place = record { last = u.last; signal = u.signal; is = u.is; wide = u.wide; drives = u.drives } in
    let more = stands_grow b c 1 place (Assigned (Binary And x other)) stands in
    let long = t.long in
    let c_long = stands_long b c 1 place (Assigned (Binary And x other)) stands in
    record {
      grows = grows_then a b c t.grows more;
      long = omega arith;
      count = ap length same ∙ length-append outs (place ∷ []) ∙ ap (λ k. k + 1) t.count;
      places = λ k less. ⊎_elim
          (λ (e : k ≡ n).
          let at : length b ≡ length a + k = omega arith in
          ap (λ l. slice_index l k) same ∙ ap (slice_index (outs ++ place ∷ [])) (e ∙ sym t.count) ∙ get_or_push outs place 0 (length outs) refl ∙ u.last ∙ at)
          (λ (ne : k ≢ n).
          let inside : k < n = omega arith in
          ap (λ l. slice_index l k) same ∙ get_or_append_left outs (place ∷ []) 0 k (subst (λ j. k < j) (sym t.count) inside) ∙ t.places k inside)
          (cases_eq k n);
      each = λ k y less there. ⊎_elim
          (λ (e : k ≡ n).
          let one : x ≡ y = (let z = ap (slice_get bits) e in cc) in
          let at : length b ≡ length a + k = omega arith in
          subst (λ p. StandsAt c p 1 (Assigned (Binary And y other))) at
          (subst (λ z. StandsAt c (length b) 1 (Assigned (Binary And z other))) one (stands_last b c 1 place (Assigned (Binary And x other)) stands)))
          (λ (ne : k ≢ n).
          let inside : k < n = omega arith in
          stands_later b c (length a + k) 1 (Assigned (Binary And y other)) more (t.each k y inside there))
          (cases_eq k n);
    }

-- ---- how they are put together

pub of_bits_later : (base : Base) (a b : List Signal) (places : List ℕ) → Grows a b → AreBitsOf base a places → AreBitsOf base b places
of_bits_later base a b places g t k x e = stands_after a b base x 1 g (t k x e)

pub adds_none : (base : Base) (a : List Signal) (outs : List ℕ) → outs ≡ [] → AddsBits base a a outs
adds_none base a outs e = record { wires = wires_none base a; stand = λ k x there. absurd (let none = ap (λ l. slice_get l k) e in cc) }

pub adds_more : (base : Base) (a b c : List Signal) (outs after : List ℕ) (place : ℕ) → AddsBits base a b outs → Adds base b c 1 place → after ≡ outs ++ place ∷ [] →
    AddsBits base a c after
adds_more base a b c outs after place t u same = record {
  wires = wires_then base a b c t.wires u.wires;
  stand = λ k x there.
      let whole : slice_get (outs ++ place ∷ []) k ≡ Some x = ap (λ l. slice_get l k) (sym same) ∙ there in
      ⊎_elim
      (λ (e : k ≡ length outs).
      let found : slice_get (outs ++ place ∷ []) (length outs) ≡ Some place = get_last outs place in
      let one : place ≡ x = (let q = ap (slice_get (outs ++ place ∷ [])) e in cc) in
      subst (λ z. IsEarlier c base z 1) one u.stands)
      (λ (ne : k ≢ length outs). stands_after b c base x 1 u.wires.grows (t.stand k x (get_earlier outs place k x ne whole)))
      (cases_eq k (length outs));
}

-- ---- one bit of all

pub any_none : (a : List Signal) (first : ℕ) (bits : List ℕ) (counts : ℕ → Bool) → MakesAny a a first bits counts 0 first
any_none a first bits counts = record { grows = grows_refl a; shows = λ m r s t g o one have. subst (λ z. HasBit m r first z) (sym (or-false s)) one }

pub any_more : (a b c : List Signal) (first : ℕ) (bits : List ℕ) (counts : ℕ → Bool) (n x any out : ℕ) → MakesAny a b first bits counts n any → slice_get bits n ≡ Some x
    → EitherIf b c any x (counts n) out → MakesAny a c first bits counts (n + 1) out
any_more a b c first bits counts n x any out t listed u = record {
  grows = grows_then a b c t.grows u.grows;
  shows = λ m r s v g o one have.
      let before = t.shows m r s v (grows_then b c m.signals u.grows g) o one (λ k less. have k (omega arith)) in
      let here = subst (λ p. HasBit m r p (v n)) (get_or_from_slice_get bits n x 0 listed) (have n (omega arith)) in
      let next : suc n ≡ n + 1 = omega arith in
      subst (λ j. HasBit m r out (s || any_below (λ k. counts k && v k) j)) next
      (subst (λ z. HasBit m r out z) (or_assoc s (any_below (λ k. counts k && v k) n) (counts n && v n)) (u.shows m r _ (v n) g o before here));
}

pub either_all : (a b : List Signal) (any bit out : ℕ) → Gives a b out 1 (λ m r. word_inclusive_or (width m any) (r.signal any) (r.signal bit)) → EitherIf a b any bit true out
either_all a b any bit out t = record { grows = t.grows; shows = λ m r s u g o one two. has_either a b out any bit t m r s u g o one two }

pub either_none : (a : List Signal) (any bit : ℕ) → EitherIf a a any bit false any
either_none a any bit = record { grows = grows_refl a; shows = λ m r s u g o one two. subst (λ z. HasBit m r any z) (sym (or-false s)) one }

pub either_some : (a b : List Signal) (any bit out : ℕ) (counts : Bool) → counts ≡ true → Gives a b out 1 (λ m r. word_inclusive_or (width m any) (r.signal any) (r.signal bit))
    → EitherIf a b any bit counts out
either_some a b any bit out counts e t = subst (λ c. EitherIf a b any bit c out) (sym e) (either_all a b any bit out t)

pub either_other : (a : List Signal) (any bit : ℕ) (counts : Bool) → counts ≡ false → EitherIf a a any bit counts any
either_other a any bit counts e = subst (λ c. EitherIf a a any bit c any) (sym e) (either_none a any bit)

pub adds_any : (a b c : List Signal) (first any out x n : ℕ) (bits : List ℕ) → AddsAny a b first bits any → slice_get bits n ≡ Some x → EitherAdds b c any x out →
    AddsAny a c first bits out
adds_any a b c first any out x n bits t listed u base stand one =
    let before = t base stand one in
    let last = u base before.stands (stands_after a b base x 1 before.wires.grows (stand n x listed)) in
    record { wires = wires_then base a b c before.wires last.wires; stands = last.stands }

-- ---- the same of equal lists

module _ (a b : List Signal) where
  pub both_as : (l k left right outs : List ℕ) → l ≡ left → k ≡ right → MakesBits a b (length l) outs (BothOf l k) → MakesBits a b (length left) outs (BothOf left right)
  both_as l k left right outs e f t = subst (λ z. MakesBits a b (length z) outs (BothOf z right)) e (subst (λ z. MakesBits a b (length l) outs (BothOf l z)) f t)

  pub adds_both_as : (l k left right outs : List ℕ) → l ≡ left → k ≡ right → AddsBoths a b l k outs → AddsBoths a b left right outs
  adds_both_as l k left right outs e f t = subst (λ z. AddsBoths a b z right outs) e (subst (λ z. AddsBoths a b l z outs) f t)

  pub not_as : (l bits outs : List ℕ) → l ≡ bits → MakesBits a b (length l) outs (NotOf l) → MakesBits a b (length bits) outs (NotOf bits)
  not_as l bits outs e t = subst (λ z. MakesBits a b (length z) outs (NotOf z)) e t

  pub adds_not_as : (l bits outs : List ℕ) → l ≡ bits → AddsNots a b l outs → AddsNots a b bits outs
  adds_not_as l bits outs e t = subst (λ z. AddsNots a b z outs) e t

  pub any_as : (first out : ℕ) (counts : ℕ → Bool) (l bits : List ℕ) → l ≡ bits → MakesAny a b first l counts (length l) out → MakesAny a b first bits counts (length bits) out
  any_as first out counts l bits e t = subst (λ z. MakesAny a b first z counts (length z) out) e t

  pub adds_any_as : (first out : ℕ) (l bits : List ℕ) → l ≡ bits → AddsAny a b first l out → AddsAny a b first bits out
  adds_any_as first out l bits e t = subst (λ z. AddsAny a b first z out) e t
