-- The multiplexers of the operands of units: how they begin, and a link of one.
use Rattle.std.proofs.Common.{◌≡◌, ◌≢◌, ℕ, zero, suc, ◌<◌, ◌≤◌, nat_eq, Bool, true, false, ◌&&◌, if◌then◌else◌}
use Rattle.std.proofs.Common.{List, [], ◌∷◌, length, replicate, slice_get, slice_set, Option, Some, refl, sym, ap, subst, ◌∙◌, arith, ⊎_elim}
use Rattle.std.proofs.lemmas.Bool.{cases_eq}
use Rattle.std.proofs.lemmas.List.{get_or-set_other, get_or-set_same, length-set, length-replicate}
use Rattle.std.proofs.lemmas.Option.{slice_get_within}
use Rattle.lists.proofs.Places.{set_other, set_same, copies_there, copies_are}
use Rattle.netlist.specs.declared.netlist.Signal.{Signal}
use Rattle.netlist.specs.declared.netlist.Module.{Module}
use Rattle.planned_block.proofs.Bits.{same_is, other_is}
use Rattle.operator_wires.specs.Gives.{Grows}
use Rattle.operator_wires.specs.Built.{Base, IsEarlier}
use Rattle.operator_wires.proofs.PutSignals.{grows_refl, grows_then}
use Rattle.operator_wires.proofs.BuiltWires.{stands_after, wires_none, wires_then, longer}
use Rattle.block_datapath.specs.declared.registers.Held.{Held}
use Rattle.block_datapath.specs.Chains.{next_number, is_set, SetsNext}
use Rattle.block_datapath.specs.Wired.{AreChains, HasWidthAt, IsLinked}
use Rattle.block_datapath.specs.Requests.{HaveWidths, ShowsZeros, AreZeroChains}
use Rattle.unit_datapath.specs.declared.inputs.UnitInputs.{UnitInputs}
use Rattle.unit_datapath.specs.Inputs.{is_begun, IsBegun, SameInputs, ArePlaces, AreInputs, BeginsInputs, LinksUnit}

-- ---- so many registers of one width

abbrev of_width : ℕ → Held
of_width w = record { register = 0; width = w }

widths_are : (n w : ℕ) → HaveWidths (replicate n (of_width w)) (replicate n w)
widths_are n w = record {
  count = length-replicate n (of_width w) ∙ sym (length-replicate n w);
  each = λ x v h e f. ap (λ (z : Held). z.width) (copies_are n (of_width w) x h e) ∙ sym (copies_are n w x v f);
}

width_at : (n w number : ℕ) → HasWidthAt (replicate n (of_width w)) number w
width_at n w number h e = ap (λ (z : Held). z.width) (copies_are n (of_width w) number h e)

module _ (signals : List Signal) (base : Base) (w n : ℕ) (places : List ℕ) where
  to_chains : ArePlaces signals base w n places → AreChains signals base (replicate n (of_width w)) places
  to_chains t = record {
    count = t.count ∙ sym (length-replicate n (of_width w));
    each = λ x y h e f. subst (λ (k : ℕ). IsEarlier signals base y k) (sym (width_at n w x h e)) (t.each x y f);
  }

  of_chains : AreChains signals base (replicate n (of_width w)) places → ArePlaces signals base w n places
  of_chains t =
      let count : length places ≡ n = t.count ∙ length-replicate n (of_width w) in
      record { count = count; each = λ x y f. t.each x y (of_width w) (copies_there n (of_width w) x (subst (λ (k : ℕ). x < k) count (slice_get_within places x y f))) f }

pub places_after : (a b : List Signal) (base : Base) (w n : ℕ) (places : List ℕ) → Grows a b → ArePlaces a base w n places → ArePlaces b base w n places
places_after a b base w n places g t = record { count = t.count; each = λ x y e. stands_after a b base y w g (t.each x y e) }

pub inputs_after : (a b : List Signal) (base : Base) (w n : ℕ) (c : UnitInputs) → Grows a b → AreInputs a base w n c → AreInputs b base w n c
inputs_after a b base w n c g t = record { lefts = places_after a b base w n c.lefts g t.lefts; rights = places_after a b base w n c.rights g t.rights }

-- ---- one of a list is set

pub set_past : {A : Type 0} (xs : List A) (j : ℕ) (v : A) → length xs ≤ j → slice_set xs j v ≡ xs
set_past [] j v past = refl
set_past (x ∷ xs) zero v past = absurd (omega arith)
set_past {A = A} (x ∷ xs) (suc j) v past = ap (λ (ys : List A). x ∷ ys) (set_past xs j v (omega arith))

places_set : (signals : List Signal) (base : Base) (w n : ℕ) (places : List ℕ) (j place : ℕ) → ArePlaces signals base w n places → IsEarlier signals base place w →
    ArePlaces signals base w n (slice_set places j place)
places_set signals base w n places j place t is = record {
  count = length-set places j place ∙ t.count;
  each = λ x y e.
      ⊎_elim
      (λ (same : x ≡ j).
      let here : x < length places = subst (λ (k : ℕ). x < k) (length-set places j place) (slice_get_within (slice_set places j place) x y e) in
      let less : j < length places = subst (λ (k : ℕ). k < length places) same here in
      let own = set_same places j place less in
      let at : slice_get (slice_set places j place) j ≡ Some y = subst (λ (k : ℕ). slice_get (slice_set places j place) k ≡ Some y) same e in
      let is_place : place ≡ y = cc in
      subst (λ (k : ℕ). IsEarlier signals base k w) is_place is)
      (λ (ne : x ≢ j). t.each x y (sym (set_other places j x place ne) ∙ e))
      (cases_eq x j);
}

-- ---- the beginning

pub begun : (a b c : List Signal) (n w : ℕ) (widths others : List ℕ) (inputs : UnitInputs) → inputs.begun ≡ replicate n false →
    widths ≡ replicate n w → others ≡ replicate n w →
    ShowsZeros a b (length widths) inputs.lefts → AreZeroChains a b widths inputs.lefts → ShowsZeros b c (length others) inputs.rights → AreZeroChains b c others inputs.rights →
    BeginsInputs a c n w inputs
begun a b c n w widths others inputs none same alike t tw u uw = record {
  grows = grows_then a b c t.grows u.grows;
  many = record {
    begun = ap length none ∙ length-replicate n false;
    lefts = t.count ∙ ap length same ∙ length-replicate n w;
    rights = u.count ∙ ap length alike ∙ length-replicate n w;
  };
  wired = λ base low some most.
      let first = tw base (replicate n (of_width w)) low (fits widths same some most) (subst (HaveWidths (replicate n (of_width w))) (sym same) (widths_are n w)) in
      let more = longer a b first.wires.grows in
      let last = uw base (replicate n (of_width w)) (omega (arith, low, more)) (fits others alike some most)
      (subst (HaveWidths (replicate n (of_width w))) (sym alike) (widths_are n w)) in
      record {
        wires = wires_then base a b c first.wires last.wires;
        inputs = record {
          lefts = places_after b c base w n inputs.lefts last.wires.grows (of_chains b base w n inputs.lefts first.chains);
          rights = of_chains c base w n inputs.rights last.chains;
        };
      };
}
  where
    fits : (l : List ℕ) → l ≡ replicate n w → 1 ≤ w → w ≤ 64 → (x v : ℕ) → slice_get l x ≡ Some v → (1 ≤ v) × (v ≤ 64)
    fits l e some most x v f =
        let is : v ≡ w = copies_are n w x v (ap (λ (z : List ℕ). slice_get z x) (sym e) ∙ f) in
        (subst (λ (z : ℕ). 1 ≤ z) (sym is) some, subst (λ (z : ℕ). z ≤ 64) (sym is) most)

-- ---- a link

taken : (t u : Bool) (v w : ℕ) → t ≡ true → u ≡ true → (if t && u then v else w) ≡ v
taken true true v w e f = refl
taken true false v w e f = absurd cc
taken false u v w e f = absurd cc

left_out : (x n : ℕ) (u : Bool) (v w : ℕ) → (u ≡ true → x ≢ n) → (if nat_eq x n && u then v else w) ≡ w
left_out x n u v w other = by_one u refl
  where
    never : (t : Bool) → t ≡ false → (if t && u then v else w) ≡ w
    never true e = absurd cc
    never false e = refl

    none : (t : Bool) → (if t && false then v else w) ≡ w
    none true = refl
    none false = refl

    by_one : (s : Bool) → u ≡ s → (if nat_eq x n && u then v else w) ≡ w
    by_one true e = never (nat_eq x n) (other_is x n (other e))
    by_one false e = ap (λ (z : Bool). if nat_eq x n && z then v else w) e ∙ none (nat_eq x n)

pub unit_linked : (a b c : List Signal) (before after : UnitInputs) (unit w here left right : ℕ) → after.begun ≡ before.begun → SetsNext a b before.lefts after.lefts unit here left →
    IsLinked a b unit w here left before.lefts after.lefts → SetsNext b c before.rights after.rights unit here right → IsLinked b c unit w here right before.rights after.rights →
    IsBegun before unit → LinksUnit a c before after unit w here left right
unit_linked a b c before after unit w here left right kept t tw u uw there = record {
  grows = grows_then a b c t.grows u.grows;
  many = λ n is. record { begun = ap length kept ∙ is.begun; lefts = t.count ∙ is.lefts; rights = u.count ∙ is.rights };
  set = λ m r n g o is less set. (
    ap (λ (l : List Bool). is_begun (slice_get l unit)) kept ∙ there,
    t.shows m r unit (back m g) o (subst (λ (k : ℕ). unit < k) (sym is.lefts) less)
        ∙ taken (nat_eq unit unit) (is_set r here) (r.signal left) (next_number r before.lefts unit) (same_is unit unit refl) set,
    u.shows m r unit g o (subst (λ (k : ℕ). unit < k) (sym is.rights) less)
        ∙ taken (nat_eq unit unit) (is_set r here) (r.signal right) (next_number r before.rights unit) (same_is unit unit refl) set,
  );
  rests = λ m r x n g o is less other. record {
    begun = λ on. ap (λ (l : List Bool). is_begun (slice_get l x)) kept ∙ on;
    left = λ on. t.shows m r x (back m g) o (subst (λ (k : ℕ). x < k) (sym is.lefts) less)
        ∙ left_out x unit (is_set r here) (r.signal left) (next_number r before.lefts x) other;
    right = λ on. u.shows m r x g o (subst (λ (k : ℕ). x < k) (sym is.rights) less)
        ∙ left_out x unit (is_set r here) (r.signal right) (next_number r before.rights x) other;
  };
  wired = λ base n is bit first second.
      let p = tw base (replicate n (of_width w)) (to_chains a base w n before.lefts is.lefts) (width_at n w unit) bit first in
      let more = p.wires.grows in
      let q = uw base (replicate n (of_width w)) (to_chains b base w n before.rights (places_after a b base w n before.rights more is.rights)) (width_at n w unit)
      (stands_after a b base here 1 more bit) (stands_after a b base right w more second) in
      record {
        wires = wires_then base a b c p.wires q.wires;
        inputs = record {
          lefts = places_after b c base w n after.lefts q.wires.grows (of_chains b base w n after.lefts p.chains);
          rights = of_chains c base w n after.rights q.chains;
        };
      };
}
  where
    back : (m : Module) → Grows c m.signals → Grows b m.signals
    back m g = grows_then b c m.signals u.grows g

-- a unit that is not begun begins with the operands of its first operation, whatever the bit shows
pub unit_begun : (a : List Signal) (before after : UnitInputs) (unit w here left right : ℕ) → after.begun ≡ slice_set before.begun unit true →
    after.lefts ≡ slice_set before.lefts unit left → after.rights ≡ slice_set before.rights unit right → is_begun (slice_get before.begun unit) ≡ false →
    LinksUnit a a before after unit w here left right
unit_begun a before after unit w here left right marks lefts rights off = record {
  grows = grows_refl a;
  many = λ n is. record {
    begun = ap length marks ∙ length-set before.begun unit true ∙ is.begun;
    lefts = ap length lefts ∙ length-set before.lefts unit left ∙ is.lefts;
    rights = ap length rights ∙ length-set before.rights unit right ∙ is.rights;
  };
  set = λ m r n g o is less set. (
    ap (λ (l : List Bool). is_begun (slice_get l unit)) marks
        ∙ ap is_begun (set_same before.begun unit true (subst (λ (k : ℕ). unit < k) (sym is.begun) less)),
    ap (λ (l : List ℕ). next_number r l unit) lefts ∙ ap r.signal (get_or-set_same before.lefts unit left 0 (subst (λ (k : ℕ). unit < k) (sym is.lefts) less)),
    ap (λ (l : List ℕ). next_number r l unit) rights ∙ ap r.signal (get_or-set_same before.rights unit right 0 (subst (λ (k : ℕ). unit < k) (sym is.rights) less)),
  );
  rests = λ m r x n g o is less other. record {
    begun = λ on. ap (λ (l : List Bool). is_begun (slice_get l x)) marks ∙ ap is_begun (set_other before.begun unit x true (apart x on)) ∙ on;
    left = λ on. ap (λ (l : List ℕ). next_number r l x) lefts ∙ ap r.signal (get_or-set_other before.lefts unit x left 0 (apart x on));
    right = λ on. ap (λ (l : List ℕ). next_number r l x) rights ∙ ap r.signal (get_or-set_other before.rights unit x right 0 (apart x on));
  };
  wired = λ base n is bit first second. record {
    wires = wires_none base a;
    inputs = record {
      lefts = subst (λ (l : List ℕ). ArePlaces a base w n l) (sym lefts) (places_set a base w n before.lefts unit left is.lefts first);
      rights = subst (λ (l : List ℕ). ArePlaces a base w n l) (sym rights) (places_set a base w n before.rights unit right is.rights second);
    };
  };
}
  where
    apart : (x : ℕ) → IsBegun before x → x ≢ unit
    apart x on same = (let off_here : is_begun (slice_get before.begun x) ≡ false = ap (λ (k : ℕ). is_begun (slice_get before.begun k)) same ∙ off in cc)
