-- Which of the cores that acts ask are open.
use Rattle.std.proofs.Common.{◌≡◌, ℕ, zero, suc, ◌+◌, ◌-◌, ◌<◌, ◌≤◌, ◌^◌, Bool, true, false, not, ◌&&◌, ◌||◌, nat_eq, if◌then◌else◌, List, [], ◌∷◌, ◌++◌, length, slice_index}
use Rattle.std.proofs.Common.{refl, sym, ap, subst, ◌∙◌, arith, ⊎_elim, length-append}
use Rattle.std.proofs.lemmas.Bool.{cases_lt, le-ltb, lt-ltb}
use Rattle.std.proofs.lemmas.List.{get_or-append_right, get_or_append_left}
use Rattle.hls_ints.specs.Residues.{bit_of}
use Rattle.block_ir.specs.declared.service.Service.{Service}
use Rattle.block_ir.specs.declared.service.Service.TheVariants.{Mutex, Barrier, ThreadIds, Printer}
use Rattle.netlist.specs.declared.netlist.Signal.{Signal}
use Rattle.netlist.specs.declared.netlist.Module.{Module}
use Rattle.verilog_meaning.specs.Readings.{Reading, width}
use Rattle.circuit.specs.Modules.{Obeys}
use Rattle.operator_wires.specs.Gives.{Grows, Gives}
use Rattle.operator_wires.specs.Built.{Base, IsEarlier}
use Rattle.operator_wires.proofs.PutSignals.{grows_then}
use Rattle.operator_wires.specs.Added.{BothAdds, NotAdds, ConstantAdds}
use Rattle.operator_wires.proofs.BuiltWires.{stands_after, wires_then, room_of}
use Rattle.hls_ints.specs.Words.{word_and, word_inclusive_or, word_complement}
use Rattle.planned_block.specs.Advance.{any_below}
use Rattle.thread_slots.specs.declared.requests.Request.{Request}
use Rattle.thread_slots.specs.declared.requests.Requests.{Requests}
use Rattle.thread_slots.specs.declared.shape.Served.{Served}
use Rattle.thread_slots.specs.Bits.{HasBit, HaveBits, MakesAny, AddsAny, AreBitsOf}
use Rattle.thread_slots.specs.Requests.{group}
use Rattle.thread_slots.specs.Services.{if_thread_ids}
use Rattle.thread_slots.proofs.BitLists.{of_bits_later, has_not, has_both, has_either}
use Rattle.thread_requests.specs.declared.early.Acts.{Acts}
use Rattle.thread_requests.specs.declared.early.Objects.{Objects}
use Rattle.thread_requests.specs.Early.{joined_bits, act_open, act_count, HasObject, OpensObjects, ActsStand, OpensActs, IsLost}

-- ---- lists of bits, one behind the other

pub joined_front : (n : ℕ) (f g : ℕ → Bool) (k : ℕ) → k < n → joined_bits n f g k ≡ f k
joined_front n f g k less = ap (λ b. if b then f k else g (k - n)) (lt-ltb k n less)

pub joined_back : (n : ℕ) (f g : ℕ → Bool) (k : ℕ) → n ≤ k → joined_bits n f g k ≡ g (k - n)
joined_back n f g k le = ap (λ b. if b then f k else g (k - n)) (le-ltb k n le)

pub have_joined : (m : Module) (r : Reading) (xs ys : List ℕ) (n k : ℕ) (f g : ℕ → Bool) → length xs ≡ n → HaveBits m r xs n f → HaveBits m r ys k g
    → HaveBits m r (xs ++ ys) (n + k) (joined_bits n f g)
have_joined m r xs ys n k f g count one two j less = ⊎_elim front back (cases_lt j n)
  where
    front : j < n → HasBit m r (slice_index (xs ++ ys) j) (joined_bits n f g j)
    front in_first =
        subst (λ p. HasBit m r p (joined_bits n f g j)) (sym (get_or_append_left xs ys 0 j (subst (λ z. j < z) (sym count) in_first)))
        (subst (HasBit m r (slice_index xs j)) (sym (joined_front n f g j in_first)) (one j in_first))

    back : n ≤ j → HasBit m r (slice_index (xs ++ ys) j) (joined_bits n f g j)
    back past =
        let at : slice_index (xs ++ ys) j ≡ slice_index ys (j - n) = get_or-append_right xs ys (length xs) j 0 refl (subst (λ z. z ≤ j) (sym count) past) ∙ ap (λ z. slice_index ys (j - z)) count in
        subst (λ p. HasBit m r p (joined_bits n f g j)) (sym at)
        (subst (HasBit m r (slice_index ys (j - n))) (sym (joined_back n f g j past)) (two (j - n) (omega arith)))

have_one : (m : Module) (r : Reading) (x : ℕ) (b : Bool) → HasBit m r x b → HaveBits m r (x ∷ []) 1 (λ k. b)
have_one m r x b t zero less = t
have_one m r x b t (suc k) less = absurd (omega arith)

have_if : (m : Module) (r : Reading) (thread_ids : Bool) (x : ℕ) (b : Bool) → HasBit m r x b → HaveBits m r (if_thread_ids thread_ids (x ∷ [])) (bit_of thread_ids) (λ k. b)
have_if m r true x b t = have_one m r x b t
have_if m r false x b t = λ k less. absurd (omega arith)

if_count : (thread_ids : Bool) (x : ℕ) → length (if_thread_ids thread_ids (x ∷ [])) ≡ bit_of thread_ids
if_count true x = refl
if_count false x = refl

-- ---- objects

module _ (q : Request) (count : ℕ) (a b : List Signal) (o : Objects) (t : OpensObjects q count a b o) where
  pub objects_grow : Grows a b
  objects_grow = grows_then a t.with_names b t.names.grows t.opens.grows

  pub names_counted : length o.names ≡ count
  names_counted = t.names.count

  pub objects_counted : length o.opens ≡ count
  objects_counted = t.opens.count ∙ t.names.count

  module _ (m : Module) (r : Reading) (g : Grows b m.signals) (obeys : Obeys m r) (has : HasObject m r q) where
    pub named_bits : HaveBits m r o.names count (λ k. nat_eq (r.signal q.object) k)
    named_bits k less =
        let small = t.small in
        t.names.shows m r k (nat_eq (r.signal q.object) k) (grows_then t.with_names b m.signals t.opens.grows g) obeys less
        (record { wide = has.wide; small = omega arith; fits = has.fits; is = refl })

    pub opened_bits : (wants : Bool) → HasBit m r q.wants wants → HaveBits m r o.opens count (λ k. nat_eq (r.signal q.object) k && wants)
    opened_bits wants is k less =
        t.opens.shows m r k (nat_eq (r.signal q.object) k && wants) g obeys (subst (λ z. k < z) (sym t.names.count) less)
        (record { one = nat_eq (r.signal q.object) k; two = wants; has_one = named_bits k less; has_two = is; is = refl })

  pub objects_stand : (base : Base) → IsEarlier a base q.wants 1 → IsEarlier a base q.object 64 → ActsStand base a b (record { opens = o.opens; barriers = o.names })
  objects_stand base wants object =
      let p = t.names_wired base object in
      let k = t.opens_wired base p.stand (stands_after a t.with_names base q.wants 1 p.wires.grows wants) in
      record {
        wires = wires_then base a t.with_names b p.wires k.wires;
        opens = k.stand;
        barriers = of_bits_later base t.with_names b o.names k.wires.grows p.stand;
      }

-- ---- all cores that acts ask

-- bits of two lists stand
pub stand_joined : (base : Base) (a : List Signal) (xs ys : List ℕ) → AreBitsOf base a xs → AreBitsOf base a ys → AreBitsOf base a (xs ++ ys)
stand_joined base a [] ys t u k x e = u k x e
stand_joined base a (z ∷ xs) ys t u zero x e = t zero x e
stand_joined base a (z ∷ xs) ys t u (suc k) x e = stand_joined base a xs ys (λ j y there. t (suc j) y there) u k x e

bits_one : (base : Base) (a : List Signal) (x : ℕ) → IsEarlier a base x 1 → AreBitsOf base a (x ∷ [])
bits_one base a x t zero y e = let same : x ≡ y = cc in subst (λ z. IsEarlier a base z 1) same t
bits_one base a x t (suc k) y e = absurd cc

bits_if : (base : Base) (a : List Signal) (thread_ids : Bool) (x : ℕ) → IsEarlier a base x 1 → AreBitsOf base a (if_thread_ids thread_ids (x ∷ []))
bits_if base a true x t = bits_one base a x t
bits_if base a false x t = λ k y e. absurd cc

pub acts_opened : (served : Served) (requests : Requests) (a b c : List Signal) (mutexes barriers : Objects) (acts : Acts) → OpensObjects requests.mutex served.mutexes a b mutexes
    → OpensObjects requests.barrier served.barriers b c barriers
    → acts.opens ≡ mutexes.opens ++ (barriers.opens ++ (if_thread_ids served.thread_ids (requests.thread_ids.wants ∷ []) ++ requests.printer.wants ∷ [])) → acts.barriers ≡ barriers.names
    → OpensActs served requests a c acts
acts_opened served requests a b c mutexes barriers acts t u opens names = record {
  grows = grows_then a b c first second;
  count =
      ap length opens ∙ length-append mutexes.opens (barriers.opens ++ (if_thread_ids served.thread_ids (requests.thread_ids.wants ∷ []) ++ requests.printer.wants ∷ []))
      ∙ ap (λ n. n + length (barriers.opens ++ (if_thread_ids served.thread_ids (requests.thread_ids.wants ∷ []) ++ requests.printer.wants ∷ []))) mutexes_count
      ∙ ap (λ n. served.mutexes + n) (length-append barriers.opens (if_thread_ids served.thread_ids (requests.thread_ids.wants ∷ []) ++ requests.printer.wants ∷ [])
      ∙ ap (λ n. n + length (if_thread_ids served.thread_ids (requests.thread_ids.wants ∷ []) ++ requests.printer.wants ∷ [])) barriers_count
      ∙ ap (λ n. served.barriers + n) (length-append (if_thread_ids served.thread_ids (requests.thread_ids.wants ∷ [])) (requests.printer.wants ∷ [])
      ∙ ap (λ n. n + 1) (if_count served.thread_ids requests.thread_ids.wants)));
  barriers_count = ap length names ∙ names_counted requests.barrier served.barriers b c barriers u;
  shows = λ m r wants g o has objects.
      let in_b = grows_then b c m.signals second g in
      subst (λ (l : List ℕ). HaveBits m r l (act_count served) (act_open served wants (λ s. r.signal (group requests s).object))) (sym opens)
      (have_joined m r mutexes.opens (barriers.opens ++ (if_thread_ids served.thread_ids (requests.thread_ids.wants ∷ []) ++ requests.printer.wants ∷ [])) served.mutexes
      (served.barriers + (bit_of served.thread_ids + 1)) (λ k. nat_eq (r.signal requests.mutex.object) k && wants Mutex) _ mutexes_count
      (opened_bits requests.mutex served.mutexes a b mutexes t m r in_b o (objects Mutex) (wants Mutex) (has Mutex))
      (have_joined m r barriers.opens (if_thread_ids served.thread_ids (requests.thread_ids.wants ∷ []) ++ requests.printer.wants ∷ []) served.barriers (bit_of served.thread_ids + 1)
      (λ k. nat_eq (r.signal requests.barrier.object) k && wants Barrier) _ barriers_count
      (opened_bits requests.barrier served.barriers b c barriers u m r g o (objects Barrier) (wants Barrier) (has Barrier))
      (have_joined m r (if_thread_ids served.thread_ids (requests.thread_ids.wants ∷ [])) (requests.printer.wants ∷ []) (bit_of served.thread_ids) 1 (λ k. wants ThreadIds) (λ k. wants Printer)
      (if_count served.thread_ids requests.thread_ids.wants) (have_if m r served.thread_ids requests.thread_ids.wants (wants ThreadIds) (has ThreadIds))
      (have_one m r requests.printer.wants (wants Printer) (has Printer)))));
  names = λ m r g o has.
      subst (λ (l : List ℕ). HaveBits m r l served.barriers (λ k. nat_eq (r.signal requests.barrier.object) k)) (sym names)
      (named_bits requests.barrier served.barriers b c barriers u m r g o has);
  wired = λ base wants objects.
      let p = objects_stand requests.mutex served.mutexes a b mutexes t base (wants Mutex) (objects Mutex) in
      let in_b : (s : Service) → IsEarlier b base (group requests s).wants 1 = λ s. stands_after a b base (group requests s).wants 1 p.wires.grows (wants s) in
      let k = objects_stand requests.barrier served.barriers b c barriers u base (in_b Barrier)
      (stands_after a b base requests.barrier.object 64 p.wires.grows (objects Barrier)) in
      let in_c : (s : Service) → IsEarlier c base (group requests s).wants 1 = λ s. stands_after b c base (group requests s).wants 1 k.wires.grows (in_b s) in
      record {
        wires = wires_then base a b c p.wires k.wires;
        opens = subst (AreBitsOf base c) (sym opens)
            (stand_joined base c mutexes.opens _ (of_bits_later base b c mutexes.opens k.wires.grows p.opens)
            (stand_joined base c barriers.opens _ k.opens
            (stand_joined base c (if_thread_ids served.thread_ids (requests.thread_ids.wants ∷ [])) (requests.printer.wants ∷ []) (bits_if base c served.thread_ids requests.thread_ids.wants (in_c ThreadIds))
            (bits_one base c requests.printer.wants (in_c Printer)))));
        barriers = subst (AreBitsOf base c) (sym names) k.barriers;
      };
}
  where
    first : Grows a b
    first = objects_grow requests.mutex served.mutexes a b mutexes t

    second : Grows b c
    second = objects_grow requests.barrier served.barriers b c barriers u

    mutexes_count : length mutexes.opens ≡ served.mutexes
    mutexes_count = objects_counted requests.mutex served.mutexes a b mutexes t

    barriers_count : length barriers.opens ≡ served.barriers
    barriers_count = objects_counted requests.barrier served.barriers b c barriers u

-- ---- what is lost

module _ (s0 s1 s2 s3 s4 s5 s6 : List Signal) (requests : Requests) (opens : List ℕ) (objects wanted never raised shut lost : ℕ)
    (one : Gives s0 s1 objects 1 (λ m r. word_inclusive_or (width m requests.mutex.wants) (r.signal requests.mutex.wants) (r.signal requests.barrier.wants)))
    (two : Gives s1 s2 wanted 1 (λ m r. word_inclusive_or (width m objects) (r.signal objects) (r.signal requests.thread_ids.wants)))
    (three : Gives s2 s3 never 1 (λ m r. 0)) (four : MakesAny s3 s4 never opens (λ k. true) (length opens) raised)
    (five : Gives s4 s5 shut 1 (λ m r. word_complement (width m raised) (r.signal raised)))
    (six : Gives s5 s6 lost 1 (λ m r. word_and (width m wanted) (r.signal wanted) (r.signal shut))) where
  from_5 : (m : Module) → Grows s6 m.signals → Grows s5 m.signals
  from_5 m g = grows_then s5 s6 m.signals six.grows g

  from_4 : (m : Module) → Grows s6 m.signals → Grows s4 m.signals
  from_4 m g = grows_then s4 s5 m.signals five.grows (from_5 m g)

  from_3 : (m : Module) → Grows s6 m.signals → Grows s3 m.signals
  from_3 m g = grows_then s3 s4 m.signals four.grows (from_4 m g)

  from_2 : (m : Module) → Grows s6 m.signals → Grows s2 m.signals
  from_2 m g = grows_then s2 s3 m.signals three.grows (from_3 m g)

  from_1 : (m : Module) → Grows s6 m.signals → Grows s1 m.signals
  from_1 m g = grows_then s1 s2 m.signals two.grows (from_2 m g)

  pub lost_made : BothAdds s0 s1 requests.mutex.wants requests.barrier.wants objects → BothAdds s1 s2 objects requests.thread_ids.wants wanted → ConstantAdds s2 s3 1 0 never
      → AddsAny s3 s4 never opens raised → NotAdds s4 s5 1 raised shut → BothAdds s5 s6 wanted shut lost → IsLost requests opens s0 s6 lost
  lost_made a1 a2 a3 a4 a5 a6 = record {
    grows = grows_then s0 s1 s6 one.grows (grows_then s1 s2 s6 two.grows (grows_then s2 s3 s6 three.grows (grows_then s3 s4 s6 four.grows
        (grows_then s4 s5 s6 five.grows six.grows))));
    shows = λ m r wants opened g o has have.
        let b1 = has_either s0 s1 objects requests.mutex.wants requests.barrier.wants one m r (wants Mutex) (wants Barrier) (from_1 m g) o (has Mutex) (has Barrier) in
        let b2 = has_either s1 s2 wanted objects requests.thread_ids.wants two m r (wants Mutex || wants Barrier) (wants ThreadIds) (from_2 m g) o b1 (has ThreadIds) in
        let b3 : HasBit m r never false = record { wide = three.wide m (from_3 m g); shows = three.shows m r (from_3 m g) o } in
        let b4 = four.shows m r false opened (from_4 m g) o b3 have in
        let b5 = has_not s4 s5 shut raised five m r (any_below (λ k. true && opened k) (length opens)) (from_5 m g) o b4 in
        has_both s5 s6 lost wanted shut six m r ((wants Mutex || wants Barrier) || wants ThreadIds) (not (any_below (λ k. true && opened k) (length opens))) g o b2 b5;
    wired = λ base wants stand.
        let bit : 0 < 2 ^ 1 = omega arith in
        let w1 = a1 base (wants Mutex) (wants Barrier) in
        let w2 = a2 base w1.stands (stands_after s0 s1 base requests.thread_ids.wants 1 w1.wires.grows (wants ThreadIds)) in
        let to_2 = grows_then s0 s1 s2 w1.wires.grows w2.wires.grows in
        let w3 = a3 base (room_of s2 base wanted 1 w2.stands) (omega arith) (omega arith) bit in
        let to_3 = grows_then s0 s2 s3 to_2 w3.wires.grows in
        let w4 = a4 base (of_bits_later base s0 s3 opens to_3 stand) w3.stands in
        let w5 = a5 base w4.stands in
        let w6 = a6 base (stands_after s2 s5 base wanted 1 (grows_then s2 s3 s5 w3.wires.grows (grows_then s3 s4 s5 w4.wires.grows w5.wires.grows)) w2.stands) w5.stands in
        let all_5 = wires_then base s0 s1 s5 w1.wires (wires_then base s1 s2 s5 w2.wires (wires_then base s2 s3 s5 w3.wires (wires_then base s3 s4 s5 w4.wires w5.wires))) in
        record { wires = wires_then base s0 s5 s6 all_5 w6.wires; stands = w6.stands };
  }
